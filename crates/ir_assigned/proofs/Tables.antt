-- Tables by local names, one name more.
use Rattle.std.proofs.Common.{◌≡◌, ◌≢◌, ◌⊎◌, inl, inr, ⊎_elim, ℕ, ◌+◌, ◌<◌, List, length, Option, Some, None, slice_get, slice_index_or, refl, sym, ap, ◌∙◌, subst, arith}
use Rattle.std.specs.Prelude.{IsSome, is_some}
use Rattle.std.proofs.lemmas.Bool.{cases_lt, cases_eq}
use Rattle.std.proofs.lemmas.Option.{slice_get_within, slice_get_read}
use Rattle.ir_core.specs.declared.op.LocalId.{LocalId}
use Rattle.ir_core.specs.declared.func.Instr.{Instr}
use Rattle.ir_core.specs.declared.func.Block.{Block}
use Rattle.ir_core.specs.declared.func.Func.{Func}
use Rattle.ir_assigned.specs.declared.names.Spot.{Spot}
use Rattle.ir_assigned.specs.Names.{found, IsAtLabel, AreLabelsTo, IsWriter, IsDefinition, AreDefinitionsTo, PutsResult, PutsDefinitions}

pub same_local : (x y : LocalId) → x.0 ≡ y.0 → x ≡ y
same_local x y e = λ i. record { 0 = e i }

pub some_is : {T : Type 0} (o : Option T) (v : T) → o ≡ Some v → IsSome o
some_is o v e = ap is_some e

pub some_value : {T : Type 0} (o : Option T) → IsSome o → (v : T) × (o ≡ Some v)
some_value None h = cc
some_value (Some v) h = (v, refl)

pub one_at : {A : Type 0} (xs : List A) (k : ℕ) (x y : A) → slice_get xs k ≡ Some x → slice_get xs k ≡ Some y → x ≡ y
one_at xs k x y a b = let both : Some x ≡ Some y = sym a ∙ b in cc

-- what a loop over a list reads
pub read_item : {A : Type 0} (items xs : List A) (k : ℕ) (x : A) → items ≡ xs → k < length items → x ≡ slice_index_or items k x → slice_get xs k ≡ Some x
read_item items xs k x same lt is = ap (λ ys. slice_get ys k) (sym same) ∙ slice_get_read items (length items) k x refl lt is

-- ---- labels

module _ (f : Func) (n : ℕ) (k : Block) (old new : List (Option ℕ)) (are : AreLabelsTo f n old) (at : slice_get f.blocks n ≡ Some k) (same : found new k.label.0 ≡ Some n) (others : (y : ℕ) → y ≢ k.label.0 → found new y ≡ found old y) where
  only_label : (x : LocalId) (b : ℕ) → found new x.0 ≡ Some b → (x.0 ≡ k.label.0) ⊎ (x.0 ≡ k.label.0 → ⊥) → IsAtLabel f x b
  only_label x b e (inl eq) =
      let both : Some n ≡ Some b = sym same ∙ ap (found new) (sym eq) ∙ e in
      let nb : n ≡ b = cc in
      (k, subst (λ a. slice_get f.blocks a ≡ Some k) nb at, sym (same_local x k.label eq))
  only_label x b e (inr ne) = are.only x b (sym (others x.0 ne) ∙ e)

  not_here : (x : LocalId) (b : ℕ) → (x.0 ≡ k.label.0 → ⊥) → IsAtLabel f x b → b ≡ n → ⊥
  not_here x b ne is eq =
      let same_block : is.0 ≡ k = one_at f.blocks n is.0 k (subst (λ a. slice_get f.blocks a ≡ Some is.0) eq is.1) at in
      ne (ap (λ (z : LocalId). z.0) (sym is.2 ∙ ap Block.label same_block))

  each_label : (x : LocalId) (b : ℕ) → b < n + 1 → IsAtLabel f x b → (x.0 ≡ k.label.0) ⊎ (x.0 ≡ k.label.0 → ⊥) → IsSome (found new x.0)
  each_label x b lt is (inl eq) = some_is (found new x.0) n (ap (found new) eq ∙ same)
  each_label x b lt is (inr ne) = let apart = not_here x b ne is in subst IsSome (sym (others x.0 ne)) (are.each x b (omega (arith, apart, lt)) is)

  pub labels_more : AreLabelsTo f (n + 1) new
  labels_more = record {
    only = λ x b e. only_label x b e (cases_eq x.0 k.label.0);
    each = λ x b lt is. each_label x b lt is (cases_eq x.0 k.label.0);
  }

-- ---- definitions

module _ (b n : ℕ) (k : Block) (i : Instr) (old mid new : List (Option Spot)) (puts : PutsDefinitions b k n old mid) (at : slice_get k.code n ≡ Some i) where
  here : Spot
  here = record { block = b; at = n }

  writes_here : (x : LocalId) (j : ℕ) → j ≡ n → IsWriter k j x → i.result ≡ Some x
  writes_here x j eq w =
      let same : w.0 ≡ i = one_at k.code n w.0 i (subst (λ a. slice_get k.code a ≡ Some w.0) eq w.1) at in
      sym (ap Instr.result same) ∙ w.2

  none_put : i.result ≡ None → new ≡ mid → PutsDefinitions b k (n + 1) old new
  none_put e is = subst (PutsDefinitions b k (n + 1) old) (sym is) (record {
    only = puts.only;
    each = λ x j lt w. let apart : j ≡ n → ⊥ = (λ eq. clash x (writes_here x j eq w)) in puts.each x j (omega (arith, apart, lt)) w;
    kept = puts.kept;
  })
    where
      clash : (x : LocalId) → i.result ≡ Some x → ⊥
      clash x s = let both : None ≡ Some x = sym e ∙ s in cc

  module _ (y : LocalId) (is : i.result ≡ Some y) (same : found new y.0 ≡ Some (record { block = b; at = n })) (others : (z : ℕ) → z ≢ y.0 → found new z ≡ found mid z) where
    only_put : (x : LocalId) (s : Spot) → found new x.0 ≡ Some s → (x.0 ≡ y.0) ⊎ (x.0 ≡ y.0 → ⊥) → (found old x.0 ≡ Some s) ⊎ ((s.block ≡ b) × IsWriter k s.at x)
    only_put x s e (inl eq) =
        let both : Some (record { block = b; at = n }) ≡ Some s = sym same ∙ ap (found new) (sym eq) ∙ e in
        let one : ◌≡◌ {A = Spot} (record { block = b; at = n }) s = cc in
        inr (sym (ap Spot.block one), (i, subst (λ a. slice_get k.code a ≡ Some i) (ap Spot.at one) at, is ∙ ap Some (sym (same_local x y eq))))
    only_put x s e (inr ne) = puts.only x s (sym (others x.0 ne) ∙ e)

    each_put : (x : LocalId) (j : ℕ) → j < n + 1 → IsWriter k j x → (x.0 ≡ y.0) ⊎ (x.0 ≡ y.0 → ⊥) → IsSome (found new x.0)
    each_put x j lt w (inl eq) = some_is (found new x.0) (record { block = b; at = n }) (ap (found new) eq ∙ same)
    each_put x j lt w (inr ne) =
        let apart : j ≡ n → ⊥ = (λ eq. ne (names x (writes_here x j eq w))) in
        subst IsSome (sym (others x.0 ne)) (puts.each x j (omega (arith, apart, lt)) w)
      where
        names : (x : LocalId) → i.result ≡ Some x → x.0 ≡ y.0
        names x s = let both : Some x ≡ Some y = sym s ∙ is in let one : x ≡ y = cc in ap (λ (z : LocalId). z.0) one

    kept_put : (x : LocalId) → IsSome (found old x.0) → (x.0 ≡ y.0) ⊎ (x.0 ≡ y.0 → ⊥) → IsSome (found new x.0)
    kept_put x h (inl eq) = some_is (found new x.0) (record { block = b; at = n }) (ap (found new) eq ∙ same)
    kept_put x h (inr ne) = subst IsSome (sym (others x.0 ne)) (puts.kept x h)

    some_put : PutsDefinitions b k (n + 1) old new
    some_put = record {
      only = λ x s e. only_put x s e (cases_eq x.0 y.0);
      each = λ x j lt w. each_put x j lt w (cases_eq x.0 y.0);
      kept = λ x h. kept_put x h (cases_eq x.0 y.0);
    }

  by_result : (r : Option LocalId) → i.result ≡ r → PutsResult (record { block = b; at = n }) r mid new → PutsDefinitions b k (n + 1) old new
  by_result None e is = none_put e is
  by_result (Some y) e is = some_put y e is.0 is.1

  pub puts_more : PutsResult (record { block = b; at = n }) i.result mid new → PutsDefinitions b k (n + 1) old new
  puts_more is = by_result i.result refl is

pub definitions_more : (f : Func) (n : ℕ) (k : Block) (old new : List (Option Spot)) → AreDefinitionsTo f n old → slice_get f.blocks n ≡ Some k → PutsDefinitions n k (length k.code) old new → AreDefinitionsTo f (n + 1) new
definitions_more f n k old new are at puts = record {
  only = λ x s e. ⊎_elim (λ o. are.only x s o) (λ w. (k, subst (λ a. slice_get f.blocks a ≡ Some k) (sym w.0) at, w.1)) (puts.only x s e);
  each = λ x s lt is. ⊎_elim (λ l. puts.kept x (are.each x s l is)) (λ ge. last x s is (omega (arith, lt, ge))) (cases_lt s.block n);
}
  where
    last : (x : LocalId) (s : Spot) → IsDefinition f x s → s.block ≡ n → IsSome (found new x.0)
    last x s is eq =
        let same : is.0 ≡ k = one_at f.blocks n is.0 k (subst (λ a. slice_get f.blocks a ≡ Some is.0) eq is.1) at in
        let w : IsWriter k s.at x = subst (λ (l : Block). IsWriter l s.at x) same is.2 in
        puts.each x s.at (slice_get_within k.code s.at w.0 w.1) w
