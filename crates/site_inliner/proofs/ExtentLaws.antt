-- Extents of a tree, put where room was kept for them.
use Rattle.std.proofs.Common.{◌≡◌, ℕ, ◌+◌, ◌≤◌, List, [], ◌∷◌, ◌++◌, length, drop, set, refl, sym, ap, ap₂, subst, ◌∙◌, arith}
use Rattle.std.proofs.lemmas.List.{drop_all, append-nil}
use Rattle.std.specs.declared.rc.Rc.{Rc}
use Rattle.std.specs.declared.alloc.Global.{Global}
use Rattle.oi_base.specs.declared.ids.SiteId.{SiteId}
use Rattle.ir_core.specs.declared.module.Module.{Module}
use Rattle.shapes.specs.Tree.{Tree, node, Callees, none, func, inlined, callees, nodes, nodes_of_callees}
use Rattle.site_inliner.specs.declared.extents.Extent.{Extent}
use Rattle.site_inliner.specs.Placed.{regs_of, blocks_of, inner_regs, inner_blocks}
use Rattle.site_inliner.specs.Extents.{extent, own_extent, extents, inner_extents}

set_here : {A : Type 0} (old : List A) (x y : A) (rest : List A) → set (old ++ x ∷ rest) (length old) y ≡ old ++ y ∷ rest
set_here [] x y rest = refl
set_here (o ∷ old) x y rest = ap (λ xs. o ∷ xs) (set_here old x y rest)

pub first_of : (m : Module) (t : Tree) → extents m t ≡ extent m t ∷ inner_extents m (inlined t)
first_of m (node f w ks) = refl

whole : (m : Module) (t : Tree) (total : Extent) → total.regs + 0 ≡ regs_of m t → total.blocks + 0 ≡ blocks_of m t → total.shapes + 0 ≡ nodes t → total ≡ extent m t
whole m t total a b c =
    let one : total.regs ≡ regs_of m t = omega (arith, a) in
    let two : total.blocks ≡ blocks_of m t = omega (arith, b) in
    let three : total.shapes ≡ nodes t = omega (arith, c) in
    ap₂ (λ (r k : ℕ). let e : Extent = record { regs = r; blocks = k; shapes = total.shapes } in e) one two ∙ ap (λ (n : ℕ). let e : Extent = record { regs = regs_of m t; blocks = blocks_of m t; shapes = n } in e) three

abbrev pub IsSoFar : Module → Tree → List Extent → List Extent → Extent → Callees → Callees → Type 0
IsSoFar m t old items total all left =
    (items ++ inner_extents m left ≡ old ++ own_extent m (func t) ∷ inner_extents m all)
    × (total.regs + inner_regs m left ≡ regs_of m t)
    × (total.blocks + inner_blocks m left ≡ blocks_of m t)
    × (total.shapes + nodes_of_callees left ≡ nodes t)

ends : (m : Module) (t : Tree) (old items : List Extent) (total : Extent) (at : ℕ) → at ≡ length old → IsSoFar m t old items total (inlined t) none → set items at total ≡ old ++ extents m t
ends m t old items total at here h =
    let is : items ≡ old ++ own_extent m (func t) ∷ inner_extents m (inlined t) = sym (append-nil items) ∙ h.0 in
    ap₂ (λ (es : List Extent) (k : ℕ). set es k total) is here
    ∙ set_here old (own_extent m (func t)) total (inner_extents m (inlined t))
    ∙ ap (λ (e : Extent). old ++ e ∷ inner_extents m (inlined t)) (whole m t total h.1 h.2 h.3)
    ∙ ap (λ (es : List Extent). old ++ es) (sym (first_of m t))

pub all_added : (m : Module) (t : Tree) (old items : List Extent) (total : Extent) (at : ℕ) (xs : List (SiteId × Rc Tree Global)) (i : ℕ)
    → callees xs ≡ inlined t → length xs ≤ i → at ≡ length old → IsSoFar m t old items total (callees xs) (callees (drop i xs)) → set items at total ≡ old ++ extents m t
all_added m t old items total at xs i same past here h =
    let left : callees (drop i xs) ≡ none = ap callees (drop_all i xs past) in
    ends m t old items total at here (subst (λ (ks : Callees). IsSoFar m t old items total ks none) same (subst (λ (ks : Callees). IsSoFar m t old items total (callees xs) ks) left h))
