-- In a formed body the entries that stay are told by the blocks to which decided terminators go.
use Rattle.std.proofs.Common.{◌≡◌, ◌⊎◌, inl, inr, ℕ, zero, suc, ◌+◌, Bool, true, false, cond, not, ◌&&◌, ◌||◌, nat_eq, List, [], ◌∷◌, map, Option, Some, None, slice_get, Contains, refl, sym, ap, ap₂, ◌∙◌, subst, arith}
use Rattle.std.specs.List.{filter}
use Rattle.oi_base.specs.declared.ids.BlockId.{BlockId}
use Rattle.ir_core.specs.declared.flat.Scalar.{Scalar}
use Rattle.ir_core.specs.declared.flat.Entry.{Entry}
use Rattle.ir_core.specs.declared.flat.Phi.{Phi}
use Rattle.ir_core.specs.declared.flat.FlatEnd.{FlatEnd}
use Rattle.ir_core.specs.declared.flat.FlatEnd.TheVariants.{Ret, Br, Cond, Switch, Unreachable}
use Rattle.ir_core.specs.declared.flat.FlatBlock.{FlatBlock}
use Rattle.ir_core.specs.declared.flat.FlatBody.{FlatBody}
use Rattle.ir_core.specs.Formed.{FuncType, IsFormedBody, IsEdge, targets}
use Rattle.ir_core.specs.WellFormed.{IsWellFormed}
use Rattle.ir_core.proofs.Lists.{Has, contains, has_in}
use Rattle.const_fold.proofs.Shapes.{mapped_at}
use Rattle.flow_fold.specs.Targets.{goes_to}
use Rattle.flow_fold.specs.Blocks.{by_number, with_entries}
use Rattle.flow_fold.specs.FoldBranches.{decided, leaves, still_comes, block_decided, branches_folded}
use Rattle.flow_fold.specs.Changes.{change, with_change, changes, goes_on, entry_stays, block_changed}
use Rattle.flow_fold.proofs.Changing.{decided_is}
use Rattle.flow_fold.proofs.BranchesFormed.{has_goes}

by_number_same : {A B : Type 0} (f g : ℕ → A → B) (n : ℕ) (xs : List A) → ((k : ℕ) (x : A) → slice_get xs k ≡ Some x → f (n + k) x ≡ g (n + k) x) → by_number f n xs ≡ by_number g n xs
by_number_same f g n [] h = refl
by_number_same f g n (x ∷ xs) h =
    let first : n + 0 ≡ n = omega arith in
    ap₂ (λ y ys. y ∷ ys) (subst (λ m. f m x ≡ g m x) first (h 0 x refl)) (by_number_same f g (suc n) xs (λ k y e. let z : n + suc k ≡ suc n + k = omega arith in subst (λ m. f m y ≡ g m y) z (h (suc k) y e)))

map_same : {A B : Type 0} (f g : A → B) (xs : List A) → ((x : A) → Has xs x → f x ≡ g x) → map f xs ≡ map g xs
map_same f g [] h = refl
map_same f g (x ∷ xs) h = ap₂ (λ y ys. y ∷ ys) (h x (inl refl)) (map_same f g xs (λ y e. h y (inr e)))

filter_same : {A : Type 0} (p q : A → Bool) (xs : List A) → ((x : A) → Has xs x → p x ≡ q x) → filter p xs ≡ filter q xs
filter_same p q [] h = refl
filter_same p q (x ∷ xs) h = ap₂ (λ (t : Bool) ys. cond t (x ∷ ys) ys) (h x (inl refl)) (filter_same p q xs (λ y e. h y (inr e)))

goes_so : (b : ℕ) (e : FlatEnd) → goes_to b e ≡ true → goes_on b (Some (change e)) ≡ not (goes_to b e && not (goes_to b (decided e)))
goes_so b e goes = by_change (change e) (decided_is e)
  where
    by_bit : (t : Bool) → t ≡ not (true && not (t || false))
    by_bit true = refl
    by_bit false = refl

    by_change : (o : Option BlockId) → decided e ≡ with_change e o → goes_on b (Some o) ≡ not (goes_to b e && not (goes_to b (decided e)))
    by_change None is = sym (ap₂ (λ s t. not (s && not t)) goes (ap (goes_to b) is ∙ goes))
    by_change (Some c) is = by_bit (nat_eq c.0 b) ∙ sym (ap₂ (λ s t. not (s && not t)) goes (ap (goes_to b) is))

module _ (types : ℕ → Scalar) (funcs : ℕ → FuncType) (own : FuncType) (body : FlatBody) (h : IsFormedBody types funcs own body) where
  stays_so : (b : ℕ) (e : Entry) → IsEdge body e.from.0 b → entry_stays (changes body.blocks) b e ≡ still_comes body b e
  stays_so b e edge =
      ap (goes_on b) (mapped_at (λ (k : FlatBlock). change k.end) body.blocks e.from.0 edge.0 edge.1)
      ∙ goes_so b edge.0.end (has_goes (targets edge.0.end) b (has_in (targets edge.0.end) b edge.2))
      ∙ sym (ap (λ (o : Option FlatBlock). not (leaves b o)) edge.1)

  block_so : (b : ℕ) (k : FlatBlock) → slice_get body.blocks b ≡ Some k → block_changed (changes body.blocks) b k ≡ block_decided body b k
  block_so b k e = ap (λ fs. record { phis = fs; code = k.code; end = decided k.end })
      (map_same (with_entries (entry_stays (changes body.blocks) b)) (with_entries (still_comes body b)) k.phis (λ f in_k.
      ap (λ es. record f { entries = es }) (filter_same (entry_stays (changes body.blocks) b) (still_comes body b) f.entries (λ x in_f.
      stays_so b x ((h.phis b k f e (contains k.phis f in_k)).0.only x (contains f.entries x in_f))))))

  blocks_so : by_number (block_changed (changes body.blocks)) 0 body.blocks ≡ by_number (block_decided body) 0 body.blocks
  blocks_so = by_number_same (block_changed (changes body.blocks)) (block_decided body) 0 body.blocks (λ k x e.
      let z : 0 + k ≡ k = omega arith in subst (λ m. block_changed (changes body.blocks) m x ≡ block_decided body m x) (sym z) (block_so k x e))

pub folded_so : (body : FlatBody) → IsWellFormed body → (cs : List (Option BlockId)) → cs ≡ changes body.blocks → (blocks : List FlatBlock) → blocks ≡ by_number (block_changed cs) 0 body.blocks
    → record { params = body.params; regs = body.regs; blocks = blocks } ≡ branches_folded body
unfolding branches_folded
folded_so body h cs is blocks made =
    ap (λ bs. record body { blocks = bs }) (made ∙ ap (λ xs. by_number (block_changed xs) 0 body.blocks) is ∙ blocks_so h.types h.funcs h.own body h.formed)
