-- When a body of one block without phis and successors is formed.
use Rattle.std.proofs.Common.{◌≡◌, ◌≢◌, ℕ, zero, suc, ◌<◌, ◌≤◌, List, [], ◌∷◌, length, Some, None, slice_get, All, AllPairs, Contains, refl, sym, ap, ◌∙◌, subst}
use Rattle.std.specs.List.{AllByRecursion as Each}
use Rattle.std.proofs.lemmas.List.Elements.{All-contains_itself}
use Rattle.ir_core.specs.declared.limits.TheConstants.{MOST_PARAMS}
use Rattle.ir_core.specs.declared.flat.Scalar.{Scalar}
use Rattle.ir_core.specs.declared.flat.FlatInstr.{FlatInstr}
use Rattle.ir_core.specs.declared.flat.FlatBlock.{FlatBlock}
use Rattle.ir_core.specs.declared.flat.FlatBody.{FlatBody}
use Rattle.ir_core.specs.Formed.{FuncType, IsTyped, IsEndTyped, IsBlock, IsEdge, IsPath, ComesFirst, IsFormedBody, IsParamOrWritten, used_by, used_at_end, targets, all_writes, all_uses}
use Rattle.ir_core.proofs.Lists.{each_of, has_in}

all_of : {A : Type 0} (P : A → Type 0) (xs : List A) → Each P xs → All P xs
all_of P xs e = λ k d lt. each_of P xs _ e (has_in xs _ (All-contains_itself xs k d lt))

module _ (b : FlatBody) (k : FlatBlock) (one : b.blocks ≡ k ∷ []) (no_phis : k.phis ≡ []) (ends : targets k.end ≡ []) where
  the_block : (n : ℕ) (l : FlatBlock) → IsBlock b n l → (n ≡ 0) × (l ≡ k)
  the_block n l is = at n (ap (λ bs. slice_get bs n) (sym one) ∙ is)
    where
      at : (n : ℕ) → slice_get (k ∷ []) n ≡ Some l → (n ≡ 0) × (l ≡ k)
      at zero e = let same : l ≡ k = cc in (refl, same)
      at (suc n) e = absurd (let none : None ≡ Some l = e in cc)

  no_edge : (a c : ℕ) → IsEdge b a c → ⊥
  no_edge a c e =
      let l = the_block a e.0 e.1 in
      has_in [] c (subst (λ ts. Contains ts c) (ap (λ (x : FlatBlock). targets x.end) l.1 ∙ ends) e.2)

  alone : (n : ℕ) (older : List ℕ) → IsPath b (n ∷ older) → older ≡ []
  alone n [] p = refl
  alone n (a ∷ older) p = absurd (no_edge a n p.0)

  module _ (types : ℕ → Scalar) (funcs : ℕ → FuncType) (own : FuncType) where
    pub one_block_formed : (b.params ≤ MOST_PARAMS) × (b.params ≤ b.regs) → (b.regs < 4294967296) × (length b.blocks < 4294967296)
        → (length own.params ≡ b.params) × ((q : ℕ) (s : Scalar) → slice_get own.params q ≡ Some s → types q ≡ s)
        → ((n : ℕ) (i : FlatInstr) → slice_get k.code n ≡ Some i → IsTyped types funcs i × Each (ComesFirst b [] k n) (used_by i))
        → IsEndTyped types own.result k.end × Each (ComesFirst b [] k (length k.code)) (used_at_end k.end)
        → AllPairs (λ r s. r ≢ s) (all_writes b) → Each (λ r. (b.params ≤ r) × (r < b.regs)) (all_writes b) → Each (IsParamOrWritten b) (all_uses b)
        → IsFormedBody types funcs own b
    one_block_formed few numbers params code end once written used = record {
      entry = (k, ap (λ bs. slice_get bs 0) one, no_phis);
      no_way_back = λ a e. no_edge a 0 e;
      few_params = few;
      numbers = numbers;
      own_params = params;
      in_range = λ a c e. absurd (no_edge a c e);
      phis = λ n l f is in_it. absurd (has_in [] f (subst (λ fs. Contains fs f) (ap (λ (x : FlatBlock). x.phis) (the_block n l is).1 ∙ no_phis) in_it));
      code = λ n m l i is at. (code m i (subst (λ (x : FlatBlock). slice_get x.code m ≡ Some i) (the_block n l is).1 at)).0;
      written_once = once;
      written = all_of (λ (r : ℕ). (b.params ≤ r) × (r < b.regs)) (all_writes b) written;
      used = all_of (IsParamOrWritten b) (all_uses b) used;
      ends = λ n l is. subst (λ (x : FlatBlock). IsEndTyped types own.result x.end) (sym (the_block n l is).1) end.0;
      defined_first = record {
        by_code = λ n older l m i path is at.
            let same = (the_block n l is).1 in
            subst (λ (x : FlatBlock). All (ComesFirst b older x m) (used_by i)) (sym same)
            (subst (λ rest. All (ComesFirst b rest k m) (used_by i)) (sym (alone n older path))
            (all_of (ComesFirst b [] k m) (used_by i) (code m i (subst (λ (x : FlatBlock). slice_get x.code m ≡ Some i) same at)).1));
        by_end = λ n older l path is.
            let same = (the_block n l is).1 in
            subst (λ (x : FlatBlock). All (ComesFirst b older x (length x.code)) (used_at_end x.end)) (sym same)
            (subst (λ rest. All (ComesFirst b rest k (length k.code)) (used_at_end k.end)) (sym (alone n older path)) (all_of (ComesFirst b [] k (length k.code)) (used_at_end k.end) end.1));
        by_phi = λ n c older l z f e path is_l is_z in_z in_f from. absurd (no_edge n c path.0);
      };
    }
