-- Nothing of a tree is broken exactly where it has a worth, and nothing of a certificate exactly where it passes.
use Rattle.std.proofs.Common.{◌≡◌, ℕ, ◌+◌, refl, sym, ap, ap₂, ◌∙◌, subst, arith, Bool, true, false, nat_eq, eq-eqb, if◌then◌else◌, List, [], ◌∷◌, length, Option, Some, None, Ok, Err}
use Rattle.std.specs.Prelude.{Result}
use Rattle.std.proofs.lemmas.Bool.{false≢true, eqb-true, leb-true, le-leb}
use Rattle.ir_core.specs.declared.module.Module.{Module}
use Rattle.call_graph.specs.Graph.{Graph}
use Rattle.decisions.specs.declared.maps.Label.TheVariants.{Keep, Inline}
use Rattle.component_split.specs.Graph.{Labels, with_label, has}
use Rattle.component_split.specs.Split.{open_sites, roots, components}
use Rattle.component_split.specs.Over.{site_graph, reached_from, func_numbers}
use Rattle.component_split.specs.States.{none_decided}
use Rattle.inline_certificate.specs.declared.certificates.Certificate.{Certificate}
use Rattle.inline_certificate.specs.declared.forms.Form.{Form}
use Rattle.inline_certificate.specs.Trees.{Tree, leaf, branch, cut, split, Parts, done, more, preorder, IsIn, AreIn}
use Rattle.size_measure.specs.Maps.{filled, map_of}
use Rattle.size_measure.specs.Sizes.{Size, plus, lesser, IsAtMost, part, size}
use Rattle.size_measure.specs.Low.{low}
use Rattle.cert_checker.specs.declared.reason.Reason.{Reason}
use Rattle.cert_checker.specs.declared.reason.Reason.TheVariants as reasons
use Rattle.cert_checker.specs.Worth.{BoundOf, Worth, Worths, Passes}
use Rattle.cert_checker.specs.Judged.{Broken, broken, then_with, same, at_most, differ, judged_leaf, judged_cut, judged_heads, judged, judged_parts, judged_map, judged_certificate}

-- ---- tests

same_is : (a b : Size) → same a b ≡ true → a ≡ b
same_is None None h = refl
same_is None (Some b) h = absurd (false≢true h)
same_is (Some a) None h = absurd (false≢true h)
same_is (Some a) (Some b) h = ap Some (eqb-true a b h)

same_self : (a : Size) → same a a ≡ true
same_self None = refl
same_self (Some a) = eq-eqb a a refl

pub at_most_is : (a b : Size) → at_most a b ≡ true → IsAtMost a b
at_most_is a None h = tt
at_most_is None (Some b) h = absurd (false≢true h)
at_most_is (Some a) (Some b) h = leb-true a b h

is_at_most : (a b : Size) → IsAtMost a b → at_most a b ≡ true
is_at_most a None h = refl
is_at_most None (Some b) h = absurd h
is_at_most (Some a) (Some b) h = le-leb a b h

alike : (xs ys : List ℕ) → differ xs ys ≡ None → xs ≡ ys
alike [] [] h = refl
alike [] (y ∷ ys) h = absurd (some_not (None, Some y) h)
  where
    some_not : (d : Size × Size) → Some d ≡ None → ⊥
    some_not d e = cc
alike (x ∷ xs) [] h = absurd (some_not (Some x, None) h)
  where
    some_not : (d : Size × Size) → Some d ≡ None → ⊥
    some_not d e = cc
alike (x ∷ xs) (y ∷ ys) h = by (nat_eq x y) refl h (alike xs ys)
  where
    some_not : (d : Size × Size) → Some d ≡ None → ⊥
    some_not d e = cc

    by : (b : Bool) → nat_eq x y ≡ b → (if b then differ xs ys else Some (Some x, Some y)) ≡ None → (differ xs ys ≡ None → xs ≡ ys) → x ∷ xs ≡ y ∷ ys
    by true e h rest = ap₂ (λ (a : ℕ) (rest : List ℕ). a ∷ rest) (eqb-true x y e) (rest h)
    by false e h rest = absurd (some_not (Some x, Some y) h)

no_difference : (xs : List ℕ) → differ xs xs ≡ None
no_difference [] = refl
no_difference (x ∷ xs) = let e : nat_eq x x ≡ true = eq-eqb x x refl in rw e (no_difference xs)

-- ---- what is not broken

abbrev passed : {A : Type 0} → A → Result A Broken
passed a = Ok a

ok_is : {A : Type 0} (a b : A) → passed a ≡ passed b → a ≡ b
ok_is a b e = cc

broken_not : {A : Type 0} (r : Reason) (n : ℕ) (x y : Size) (a : A) → broken r n x y ≡ Ok a → ⊥
broken_not r n x y a e = cc

went_on : {A B : Type 0} (o : Result A Broken) (f : A → Result B Broken) (b : B) → then_with o f ≡ Ok b → (a : A) × (o ≡ Ok a) × (f a ≡ Ok b)
went_on (Ok a) f b e = (a, refl, e)
went_on (Err x) f b e = absurd (err_not x e)
  where
    err_not : (x : Broken) → Err x ≡ Ok b → ⊥
    err_not x e = cc

tested : {A : Type 0} (c : Bool) (o : Result A Broken) (r : Reason) (n : ℕ) (x y : Size) (a : A) → (if c then o else broken r n x y) ≡ Ok a → (c ≡ true) × (o ≡ Ok a)
tested true o r n x y a e = (refl, e)
tested false o r n x y a e = absurd (broken_not r n x y a e)

leaf_is : (n : ℕ) (us : List ℕ) (v y x : Size) → judged_leaf n us v y ≡ Ok x → (us ≡ []) × (v ≡ x) × (x ≡ y)
leaf_is n [] v y x e =
    let t = tested (same v y) (Ok v) reasons.Leaf n v y x e in
    let vx = ok_is v x t.1 in
    (refl, vx, sym vx ∙ same_is v y t.0)
leaf_is n (s ∷ us) v y x e = absurd (broken_not reasons.Open n None (Some s) x e)

cut_is : (n : ℕ) (b bound a x : Size) → judged_cut n b bound a ≡ Ok x → (a ≡ x) × (b ≡ bound) × IsAtMost a b
cut_is n b bound a x e =
    let t = tested (same b bound) (if at_most a b then Ok a else broken reasons.Cut n b a) reasons.Cut n b bound x e in
    let u = tested (at_most a b) (Ok a) reasons.Cut n b a x t.1 in
    (ok_is a x u.1, same_is b bound t.0, at_most_is a b u.0)

heads_are : (n : ℕ) (hs rs : List ℕ) (parts : Result Size Broken) (x : Size) → judged_heads n (differ hs rs) parts ≡ Ok x → (hs ≡ rs) × (parts ≡ Ok x)
heads_are n hs rs parts x e = by (differ hs rs) refl e
  where
    by : (o : Option (Size × Size)) → differ hs rs ≡ o → judged_heads n o parts ≡ Ok x → (hs ≡ rs) × (parts ≡ Ok x)
    by None d e = (alike hs rs d, e)
    by (Some d) q e = absurd (broken_not reasons.Split n d.0 d.1 x e)

module _ (m : Module) (g : Graph) (bound : BoundOf) where
  mutual
    unfolding judged

    -- what is not broken has a worth
    pub is_worth : (f : Form) (t : Tree) (d : ℕ) (p : Labels) (fs : List ℕ) (n : ℕ) (x : Size) → IsIn f d t → judged m g bound t p fs n ≡ Ok x → Worth m g bound p fs t x
    is_worth f (leaf v) d p fs n x form e = leaf_is n (open_sites (site_graph g) p fs) v (part m g (filled Keep p) fs) x e
    is_worth f (branch s k i) d p fs n x form e =
        let keep = with_label p s.0 Keep in
        let inline = with_label p s.0 Inline in
        let t = tested (has (open_sites (site_graph g) p fs) s.0) (then_with (judged m g bound k keep fs (n + 1)) (λ a. then_with (judged m g bound i inline fs (n + 1 + length (preorder k))) (λ b. Ok (lesser a b)))) reasons.Branch n (Some s.0) None x e in
        let u = went_on (judged m g bound k keep fs (n + 1)) (λ a. then_with (judged m g bound i inline fs (n + 1 + length (preorder k))) (λ b. Ok (lesser a b))) x t.1 in
        let v = went_on (judged m g bound i inline fs (n + 1 + length (preorder k))) (λ b. Ok (lesser u.0 b)) x u.2 in
        (u.0, v.0, t.0, is_worth f k (d + 1) keep fs (n + 1) u.0 form.1 u.1, is_worth f i (d + 1) inline fs (n + 1 + length (preorder k)) v.0 form.2 v.1, sym (ok_is (lesser u.0 v.0) x v.2))
    is_worth f (cut s k b) d p fs n x form e =
        let keep = with_label p s.0 Keep in
        let low_bound = bound (with_label p s.0 Inline) fs in
        let t = tested (has (open_sites (site_graph g) p fs) s.0) (then_with (judged m g bound k keep fs (n + 1)) (judged_cut (n + 1 + length (preorder k)) b low_bound)) reasons.Branch n (Some s.0) None x e in
        let u = went_on (judged m g bound k keep fs (n + 1)) (judged_cut (n + 1 + length (preorder k)) b low_bound) x t.1 in
        let v = cut_is (n + 1 + length (preorder k)) b low_bound u.0 x u.2 in
        (t.0, is_worth f k (d + 1) keep fs (n + 1) x form.1 (u.1 ∙ ap Ok v.0), v.1, subst (λ (y : Size). IsAtMost y b) v.0 v.2)
    is_worth f (split hs ts) d p fs n x form e =
        let h = heads_are n (func_numbers hs) (roots (site_graph g) p fs) (judged_parts m g bound ts p (components (site_graph g) p fs) (n + 1)) x e in
        let two = form.1 in
        (h.0, omega (arith, two), are_worth f ts (d + 1) p (components (site_graph g) p fs) (n + 1) x form.3 h.1)

    are_worth : (f : Form) (ts : Parts) (d : ℕ) (p : Labels) (cs : List (List ℕ)) (n : ℕ) (x : Size) → AreIn f d ts → judged_parts m g bound ts p cs n ≡ Ok x → Worths m g bound p cs ts x
    are_worth f done d p [] n x form e = sym (ok_is (Some 0) x e)
    are_worth f done d p (c ∷ cs) n x form e = absurd (broken_not reasons.Split n None None x e)
    are_worth f (more t ts) d p [] n x form e = absurd (broken_not reasons.Split n None None x e)
    are_worth f (more t ts) d p (c ∷ cs) n x form e =
        let u = went_on (judged m g bound t p c n) (λ a. then_with (judged_parts m g bound ts p cs (n + length (preorder t))) (λ b. Ok (plus a b))) x e in
        let v = went_on (judged_parts m g bound ts p cs (n + length (preorder t))) (λ b. Ok (plus u.0 b)) x u.2 in
        (u.0, v.0, is_worth f t d p c n u.0 form.0 u.1, are_worth f ts d p cs (n + length (preorder t)) v.0 form.1 v.1, sym (ok_is (plus u.0 v.0) x v.2))

  mutual
    unfolding judged

    -- what has a worth is not broken
    pub worth_is : (t : Tree) (p : Labels) (fs : List ℕ) (n : ℕ) (x : Size) → Worth m g bound p fs t x → judged m g bound t p fs n ≡ Ok x
    worth_is (leaf v) p fs n x w =
        let y = part m g (filled Keep p) fs in
        let e : same v y ≡ true = ap (λ (z : Size). same v z) (sym (w.1 ∙ w.2)) ∙ same_self v in
        ap (λ (us : List ℕ). judged_leaf n us v y) w.0 ∙ ap (λ (c : Bool). if c then Ok v else broken reasons.Leaf n v y) e ∙ ap Ok w.1
    worth_is (branch s k i) p fs n x w =
        let first = worth_is k (with_label p s.0 Keep) fs (n + 1) w.0 w.3 in
        let second = worth_is i (with_label p s.0 Inline) fs (n + 1 + length (preorder k)) w.1 w.4 in
        let both : then_with (judged m g bound k (with_label p s.0 Keep) fs (n + 1)) (λ a. then_with (judged m g bound i (with_label p s.0 Inline) fs (n + 1 + length (preorder k))) (λ b. Ok (lesser a b))) ≡ Ok (lesser w.0 w.1) =
        ap (λ (o : Result Size Broken). then_with o (λ a. then_with (judged m g bound i (with_label p s.0 Inline) fs (n + 1 + length (preorder k))) (λ b. Ok (lesser a b)))) first ∙ ap (λ (o : Result Size Broken). then_with o (λ b. Ok (lesser w.0 b))) second in
        ap (λ (c : Bool). if c then then_with (judged m g bound k (with_label p s.0 Keep) fs (n + 1)) (λ a. then_with (judged m g bound i (with_label p s.0 Inline) fs (n + 1 + length (preorder k))) (λ b. Ok (lesser a b))) else broken reasons.Branch n (Some s.0) None) w.2
        ∙ both ∙ ap Ok (sym w.5)
    worth_is (cut s k b) p fs n x w =
        let at = n + 1 + length (preorder k) in
        let low_bound = bound (with_label p s.0 Inline) fs in
        let first = worth_is k (with_label p s.0 Keep) fs (n + 1) x w.1 in
        let e : same b low_bound ≡ true = ap (λ (z : Size). same b z) (sym w.2) ∙ same_self b in
        let cut_ok : judged_cut at b low_bound x ≡ Ok x =
        ap (λ (c : Bool). if c then (if at_most x b then Ok x else broken reasons.Cut at b x) else broken reasons.Cut at b low_bound) e ∙ ap (λ (c : Bool). if c then Ok x else broken reasons.Cut at b x) (is_at_most x b w.3) in
        ap (λ (c : Bool). if c then then_with (judged m g bound k (with_label p s.0 Keep) fs (n + 1)) (judged_cut at b low_bound) else broken reasons.Branch n (Some s.0) None) w.0
        ∙ ap (λ (o : Result Size Broken). then_with o (judged_cut at b low_bound)) first ∙ cut_ok
    worth_is (split hs ts) p fs n x w =
        let parts = judged_parts m g bound ts p (components (site_graph g) p fs) (n + 1) in
        let none : differ (func_numbers hs) (roots (site_graph g) p fs) ≡ None = ap (differ (func_numbers hs)) (sym w.0) ∙ no_difference (func_numbers hs) in
        ap (λ (o : Option (Size × Size)). judged_heads n o parts) none ∙ worths_are ts p (components (site_graph g) p fs) (n + 1) x w.2

    worths_are : (ts : Parts) (p : Labels) (cs : List (List ℕ)) (n : ℕ) (x : Size) → Worths m g bound p cs ts x → judged_parts m g bound ts p cs n ≡ Ok x
    worths_are done p [] n x w = ap Ok (sym w)
    worths_are done p (c ∷ cs) n x w = absurd w
    worths_are (more t ts) p [] n x w = absurd w
    worths_are (more t ts) p (c ∷ cs) n x w =
        let first = worth_is t p c n w.0 w.2 in
        let rest = worths_are ts p cs (n + length (preorder t)) w.1 w.3 in
        ap (λ (o : Result Size Broken). then_with o (λ a. then_with (judged_parts m g bound ts p cs (n + length (preorder t))) (λ b. Ok (plus a b)))) first
        ∙ ap (λ (o : Result Size Broken). then_with o (λ b. Ok (plus w.0 b))) rest ∙ ap Ok (sym w.4)

-- ---- certificates

number : (x : Size) (text : ℕ) → plus x (Some 16) ≡ Some text → (k : ℕ) × (x ≡ Some k) × (k + 16 ≡ text)
number None text e = absurd (none_not e)
  where
    none_not : None ≡ Some text → ⊥
    none_not e = cc
number (Some k) text e = (k, refl, same_number e)
  where
    same_number : Some (k + 16) ≡ Some text → k + 16 ≡ text
    same_number e = cc

module _ (m : Module) (g : Graph) (c : Certificate) where
  map_is : (x : Size) (n : ℕ) → judged_map m g c x ≡ Ok n → (n ≡ c.text) × (plus x (Some 16) ≡ Some c.text) × (size m g (map_of c.map) ≡ Some c.text)
  map_is x n e =
      let t = tested (same (plus x (Some 16)) (Some c.text)) (if same (size m g (map_of c.map)) (Some c.text) then Ok c.text else broken reasons.Map 0 (Some c.text) (size m g (map_of c.map))) reasons.Root 0 (Some c.text) (plus x (Some 16)) n e in
      let u = tested (same (size m g (map_of c.map)) (Some c.text)) (Ok c.text) reasons.Map 0 (Some c.text) (size m g (map_of c.map)) n t.1 in
      (sym (ok_is c.text n u.1), same_is (plus x (Some 16)) (Some c.text) t.0, same_is (size m g (map_of c.map)) (Some c.text) u.0)

  -- a certificate of which nothing is broken passes
  pub unbroken_passes : (f : Form) (t : Tree) → IsIn f 1 t → c.tree ≡ preorder t → (n : ℕ) → judged_certificate m g c t ≡ Ok n → (n ≡ c.text) × Passes m g c
  unbroken_passes f t form nodes n e =
      let u = went_on (judged m g (low m g) t (none_decided g) (reached_from 0 g.funcs) 1) (judged_map m g c) n e in
      let v = map_is u.0 n u.2 in
      let k = number u.0 c.text v.1 in (
        v.0,
        record {
          tree = t;
          nodes = nodes;
          worth = k.0;
          has_worth = subst (λ (y : Size). Worth m g (low m g) (none_decided g) (reached_from 0 g.funcs) t y) k.1 (is_worth m g (low m g) f t 1 (none_decided g) (reached_from 0 g.funcs) 1 u.0 form u.1);
          root = k.2;
          map_size = v.2;
        },
      )

  -- and nothing of one that passes is
  pub passing_unbroken : (p : Passes m g c) → judged_certificate m g c p.tree ≡ Ok c.text
  passing_unbroken p =
      let x : Size = Some p.worth in
      let root : plus x (Some 16) ≡ Some c.text = ap Some p.root in
      ap (λ (o : Result Size Broken). then_with o (judged_map m g c)) (worth_is m g (low m g) p.tree (none_decided g) (reached_from 0 g.funcs) 1 x p.has_worth)
      ∙ ap (λ (b : Bool). if b then (if same (size m g (map_of c.map)) (Some c.text) then Ok c.text else broken reasons.Map 0 (Some c.text) (size m g (map_of c.map))) else broken reasons.Root 0 (Some c.text) (plus x (Some 16)))
      (ap (λ (y : Size). same y (Some c.text)) root ∙ same_self (Some c.text))
      ∙ ap (λ (b : Bool). if b then Ok c.text else broken reasons.Map 0 (Some c.text) (size m g (map_of c.map))) (ap (λ (y : Size). same y (Some c.text)) p.map_size ∙ same_self (Some c.text))
