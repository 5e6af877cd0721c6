-- Points of the text in code: where a callee stands first among those that are left, its extents stand first too.
use Rattle.std.proofs.Common.{◌≡◌, ℕ, List, [], ◌∷◌, ◌++◌, length, drop, slice_get, Some, None, refl, sym, ap, ◌∙◌, arith}
use Rattle.std.proofs.lemmas.List.{append_assoc, length-append}
use Rattle.std.specs.declared.rc.Rc.{Rc}
use Rattle.std.specs.declared.alloc.Global.{Global}
use Rattle.oi_base.specs.declared.ids.SiteId.{SiteId}
use Rattle.ir_core.specs.declared.module.Module.{Module}
use Rattle.shapes.specs.Tree.{Tree, node, Callees, none, more, inlined, callees, nodes, nodes_of_callees}
use Rattle.site_inliner.specs.declared.extents.Extent.{Extent}
use Rattle.site_inliner.specs.Extents.{extent, extents, inner_extents}
use Rattle.site_inliner.proofs.ExtentLaws.{first_of}

abbrev pub Entries : Type 0
Entries = List (SiteId × Rc Tree Global)

-- the extents of the callees, and of more
abbrev pub Have : Module → Entries → List Extent → Type 0
Have m left ext = (others : List Extent) × (ext ≡ inner_extents m (callees left) ++ others)

abbrev pub IsFirst : Callees → Tree → Type 0
IsFirst ks t = (s : SiteId) × (rest : Callees) × (ks ≡ more s t rest)

pub head : (m : Module) (left : Entries) (ext : List Extent) (k : SiteId × Rc Tree Global) (e : Extent) → Some k ≡ slice_get left 0 → Some e ≡ slice_get ext 0 → Have m left ext → (e ≡ extent m k.1.value) × IsFirst (callees left) k.1.value
head m [] ext k e at first h = absurd (let clash : Some k ≡ None = at in cc)
head m (j ∷ js) ext k e at first h =
    let same : k ≡ j = cc in
    let one : extents m j.1.value ≡ extent m j.1.value ∷ inner_extents m (inlined j.1.value) = first_of m j.1.value in
    let opened : ext ≡ (extents m j.1.value ++ inner_extents m (callees js)) ++ h.0 = h.1 in
    let got : Some e ≡ Some (extent m j.1.value) = first ∙ ap (λ (es : List Extent). slice_get es 0) (opened ∙ ap (λ (es : List Extent). (es ++ inner_extents m (callees js)) ++ h.0) one) in
    let is : e ≡ extent m j.1.value = cc in
    (is ∙ ap (λ (x : SiteId × Rc Tree Global). extent m x.1.value) (sym same), (j.0, callees js, ap (λ (x : SiteId × Rc Tree Global). more j.0 x.1.value (callees js)) (sym same)))

mutual
  pub as_many : (m : Module) (t : Tree) → length (extents m t) ≡ nodes t
  as_many m (node f w ks) = let rest = as_many_inner m ks in omega (arith, rest)

  pub as_many_inner : (m : Module) (ks : Callees) → length (inner_extents m ks) ≡ nodes_of_callees ks
  as_many_inner m none = refl
  as_many_inner m (more s t ks) =
      let here = as_many m t in
      let rest = as_many_inner m ks in
      let both = length-append (extents m t) (inner_extents m ks) in
      omega (arith, here, rest, both)

dropped : {A : Type 0} (xs ys : List A) → drop (length xs) (xs ++ ys) ≡ ys
dropped [] ys = refl
dropped (x ∷ xs) ys = dropped xs ys

drop_first : {A : Type 0} (xs ys : List A) (n : ℕ) → n ≡ length xs → drop n (xs ++ ys) ≡ ys
drop_first xs ys n e = ap (λ (k : ℕ). drop k (xs ++ ys)) e ∙ dropped xs ys

abbrev first_tree : Tree → Callees → Tree
first_tree d none = d
first_tree d (more s t ks) = t

pub past_first : (m : Module) (left : Entries) (ext rest_ext : List Extent) (rest : Entries) (e : Extent) (t : Tree) → e ≡ extent m t → IsFirst (callees left) t → Have m left ext → rest ≡ drop 1 left → rest_ext ≡ drop e.shapes ext → Have m rest rest_ext
past_first m [] ext rest_ext rest e t is f h r x = absurd (let clash : none ≡ more f.0 t f.1 = f.2 in cc)
past_first m (j ∷ js) ext rest_ext rest e t is f h r x =
    let same : j.1.value ≡ t = ap (first_tree t) f.2 in
    let many : e.shapes ≡ length (extents m j.1.value) = ap (λ (y : Extent). y.shapes) is ∙ ap nodes (sym same) ∙ sym (as_many m j.1.value) in
    let opened : ext ≡ extents m j.1.value ++ (inner_extents m (callees js) ++ h.0) = h.1 ∙ append_assoc (extents m j.1.value) (inner_extents m (callees js)) h.0 in
    let left_out : rest_ext ≡ inner_extents m (callees js) ++ h.0 = x ∙ ap (λ (es : List Extent). drop e.shapes es) opened ∙ drop_first (extents m j.1.value) (inner_extents m (callees js) ++ h.0) e.shapes many in
    (h.0, left_out ∙ ap (λ (ks : Entries). inner_extents m (callees ks) ++ h.0) (sym r))
