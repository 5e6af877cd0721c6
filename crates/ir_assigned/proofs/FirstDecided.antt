-- Whether the rule of assignment is broken, and where first: each use is tested by the paths to it around its definition.
use Rattle.std.proofs.Common.{◌≡◌, ◌≢◌, ◌⊎◌, inl, inr, ⊎_elim, ℕ, zero, suc, ◌+◌, ◌<◌, ◌≤◌, Bool, true, false, List, [], ◌∷◌, ◌++◌, length, Option, Some, None, slice_get, refl, ap, subst, arith}
use Rattle.std.specs.List.Sorted.{IsPermutation}
use Rattle.std.proofs.lemmas.List.Sorted.{IsPermutation-refl}
use Rattle.std.proofs.lemmas.Bool.{cases_lt, cases_eq}
use Rattle.oi_base.specs.declared.ids.Place.{Place}
use Rattle.ir_core.specs.declared.op.LocalId.{LocalId}
use Rattle.ir_core.specs.declared.func.Block.{Block}
use Rattle.ir_core.specs.declared.func.Func.{Func}
use Rattle.ir_core.specs.declared.func.Param.{Param}
use Rattle.ir_core.specs.FirstBroken.{IsFirstPlace}
use Rattle.ir_core.specs.ValidFunc.{BreaksNames, IsParam}
use Rattle.ir_core.specs.ValidPaths.{BreaksAssignment}
use Rattle.ir_core.proofs.Lists.{contains, element}
use Rattle.ir_assigned.specs.declared.fault.Unassigned.{Unassigned}
use Rattle.ir_assigned.specs.declared.names.Spot.{Spot}
use Rattle.ir_assigned.specs.declared.uses.Use.{Use}
use Rattle.ir_assigned.specs.Assigned.{IsWitness}
use Rattle.ir_assigned.specs.Names.{found, AreLabelsTo, AreLabels, AreDefinitionsTo, AreDefinitions, PutsResult, PutsDefinitions, RegistersDiffer}
use Rattle.ir_assigned.specs.Testing.{is_known, Known, Good, Newer, IsFirst}
use Rattle.ir_assigned.specs.Uses.{all_uses}
use Rattle.ir_assigned.specs.BlockPaths.{block_of, IsBefore, MissesOn, Misses}
use Rattle.ir_assigned.proofs.Breaking.{none_broken, first_place, first_witness}
use Rattle.ir_assigned.proofs.First.{first_more}
use Rattle.ir_assigned.proofs.Naming.{labels_differ, registers_differ}
use Rattle.ir_assigned.proofs.Paths.{has_contained, param_misses_none, path_when_missed, misses_on_path}
use Rattle.ir_assigned.proofs.Tables.{labels_more, puts_more, definitions_more}
use Rattle.ir_assigned.proofs.Tested.{before_good}
use Rattle.ir_assigned.proofs.PathsDecided.{same_or_not, one_has, leads_or_not}

-- ---- tables

-- a table with a value for one more name
put : {T : Type 0} → List (Option T) → ℕ → T → List (Option T)
put [] zero v = Some v ∷ []
put [] (suc x) v = None ∷ put [] x v
put (o ∷ os) zero v = Some v ∷ os
put (o ∷ os) (suc x) v = o ∷ put os x v

put_same : {T : Type 0} (table : List (Option T)) (x : ℕ) (v : T) → found (put table x v) x ≡ Some v
unfolding put
put_same [] zero v = refl
put_same [] (suc x) v = put_same [] x v
put_same (o ∷ os) zero v = refl
put_same (o ∷ os) (suc x) v = put_same os x v

put_other : {T : Type 0} (table : List (Option T)) (x : ℕ) (v : T) (y : ℕ) → y ≢ x → found (put table x v) y ≡ found table y
unfolding put
put_other [] zero v zero other = absurd (other refl)
put_other [] zero v (suc y) other = refl
put_other [] (suc x) v zero other = refl
put_other [] (suc x) v (suc y) other = put_other [] x v y (λ e. other (ap suc e))
put_other (o ∷ os) zero v zero other = absurd (other refl)
put_other (o ∷ os) zero v (suc y) other = refl
put_other (o ∷ os) (suc x) v zero other = refl
put_other (o ∷ os) (suc x) v (suc y) other = put_other os x v y (λ e. other (ap suc e))

one_on : (n : ℕ) → n + 1 ≡ suc n
one_on n = omega arith

module _ (f : Func) where
  labels_to : (n : ℕ) → n ≤ length f.blocks → (table : List (Option ℕ)) × AreLabelsTo f n table
  labels_to zero le = ([], record { only = λ x b e. absurd cc; each = λ x b lt is. absurd (omega (arith, lt)) })
  labels_to (suc n) le =
      let t = labels_to n (omega (arith, le)) in
      let k = element f.blocks n (omega (arith, le)) in
      (put t.0 k.0.label.0 n, subst (λ (m : ℕ). AreLabelsTo f m (put t.0 k.0.label.0 n)) (one_on n) (labels_more f n k.0 t.0 (put t.0 k.0.label.0 n) t.1 k.1 (put_same t.0 k.0.label.0 n) (put_other t.0 k.0.label.0 n)))

  -- what an instruction writes
  result_put : (s : Spot) (r : Option LocalId) (old : List (Option Spot)) → (new : List (Option Spot)) × PutsResult s r old new
  result_put s None old = (old, refl)
  result_put s (Some x) old = (put old x.0 s, (put_same old x.0 s, put_other old x.0 s))

  puts_to : (b : ℕ) (k : Block) (old : List (Option Spot)) (n : ℕ) → n ≤ length k.code → (new : List (Option Spot)) × PutsDefinitions b k n old new
  puts_to b k old zero le = (old, record { only = λ x s e. inl e; each = λ x at lt w. absurd (omega (arith, lt)); kept = λ x h. h })
  puts_to b k old (suc n) le =
      let mid = puts_to b k old n (omega (arith, le)) in
      let i = element k.code n (omega (arith, le)) in
      let new = result_put (record { block = b; at = n }) i.0.result mid.0 in
      (new.0, subst (λ (m : ℕ). PutsDefinitions b k m old new.0) (one_on n) (puts_more b n k i.0 old mid.0 new.0 mid.1 i.1 new.1))

  definitions_to : (n : ℕ) → n ≤ length f.blocks → (table : List (Option Spot)) × AreDefinitionsTo f n table
  definitions_to zero le = ([], record { only = λ x s e. absurd cc; each = λ x s lt is. absurd (omega (arith, lt)) })
  definitions_to (suc n) le =
      let t = definitions_to n (omega (arith, le)) in
      let k = element f.blocks n (omega (arith, le)) in
      let new = puts_to n k.0 t.0 (length k.0.code) (omega arith) in
      (new.0, subst (λ (m : ℕ). AreDefinitionsTo f m new.0) (one_on n) (definitions_more f n k.0 t.0 new.0 t.1 k.1 new.1))

  -- ---- one use

  module _ (definitions : List (Option Spot)) (are : AreDefinitions f definitions) (apart : RegistersDiffer f) (u : Use) where
    abbrev Missed : Type 0
    Missed = ((path : List ℕ) × Misses f u path) ⊎ ((before : List ℕ) → MissesOn f u before → ⊥)

    param_or_not : IsParam f u.local ⊎ (IsParam f u.local → ⊥)
    param_or_not = ⊎_elim
        (λ h. inl (h.0, contains f.params h.0 h.1, h.2))
        (λ none. inr (λ p. none p.0 (has_contained f.params p.0 p.1) p.2))
        (one_has (λ (q : Param). same_or_not q.name u.local) f.params)

    before_or_not : (o : Option Spot) → IsBefore o u ⊎ (IsBefore o u → ⊥)
    before_or_not None = inr (λ h. h)
    before_or_not (Some s) = both (cases_eq s.block u.block) (cases_lt s.at u.at)
      where
        both : (s.block ≡ u.block) ⊎ (s.block ≡ u.block → ⊥) → (s.at < u.at) ⊎ (u.at ≤ s.at) → IsBefore (Some s) u ⊎ (IsBefore (Some s) u → ⊥)
        both (inr other) at = inr (λ h. other h.0)
        both (inl here) (inl lt) = inl (here, lt)
        both (inl here) (inr le) = inr (λ h. let lt = h.1 in omega (arith, lt, le))

    missed_or_not : Missed
    missed_or_not = by_param param_or_not
      where
        by_path : (IsParam f u.local → ⊥) → (IsBefore (found definitions u.local.0) u → ⊥) → Missed
        by_path no_param late = ⊎_elim
            (λ l. inl (l.0 ++ u.block ∷ [], (l.0, refl, misses_on_path f definitions are u apart no_param late l.0 l.1)))
            (λ none. inr (λ before m. none before (path_when_missed f definitions are u before m)))
            (leads_or_not f (block_of (found definitions u.local.0)) u.block 0)

        by_before : (IsParam f u.local → ⊥) → IsBefore (found definitions u.local.0) u ⊎ (IsBefore (found definitions u.local.0) u → ⊥) → Missed
        by_before no_param (inl h) = inr (before_good f definitions are u (found definitions u.local.0) refl h)
        by_before no_param (inr late) = by_path no_param late

        by_param : IsParam f u.local ⊎ (IsParam f u.local → ⊥) → Missed
        by_param (inl p) = inr (param_misses_none f definitions are u p)
        by_param (inr no_param) = by_before no_param (before_or_not (found definitions u.local.0))

  -- ---- one use after another

  module _ (definitions : List (Option Spot)) (are : AreDefinitions f definitions) (apart : RegistersDiffer f) (uses : List Use) where
    one_more : (n : ℕ) (u : Use) → slice_get uses n ≡ Some u → (first : Option Unassigned) × IsFirst f uses n first → (next : Option Unassigned) × IsFirst f uses (n + 1) next
    one_more n u at (first, is) = by_known (is_known first u.place) refl
      where
        by_use : is_known first u.place ≡ false → ((path : List ℕ) × Misses f u path) ⊎ ((before : List ℕ) → MissesOn f u before → ⊥) → (next : Option Unassigned) × IsFirst f uses (n + 1) next
        by_use e (inl m) =
            let w : Unassigned = record { place = u.place; local = u.local; path = m.0 } in
            (Some w, first_more f uses n u at first (Some w) is (Newer w refl (refl, refl, m.1) e))
        by_use e (inr none) = (first, first_more f uses n u at first first is (Good refl none))

        by_known : (t : Bool) → is_known first u.place ≡ t → (next : Option Unassigned) × IsFirst f uses (n + 1) next
        by_known true e = (first, first_more f uses n u at first first is (Known refl e))
        by_known false e = by_use e (missed_or_not definitions are apart u)

    first_to : (n : ℕ) → n ≤ length uses → (first : Option Unassigned) × IsFirst f uses n first
    first_to zero le = (None, λ k u lt. absurd (omega (arith, lt)))
    first_to (suc n) le =
        let u = element uses n (omega (arith, le)) in
        subst (λ (m : ℕ). (first : Option Unassigned) × IsFirst f uses m first) (one_on n) (one_more n u.0 u.1 (first_to n (omega (arith, le))))

  abbrev Decided : Type 0
  Decided = ((p : Place) → BreaksAssignment f p → ⊥) ⊎ ((u : Unassigned) × IsFirstPlace (BreaksAssignment f) u.place × IsWitness f u)

  pub decided : ((p : Place) → BreaksNames f p → ⊥) → Decided
  decided names = by_first (first_to definitions.0 definitions.1 (registers_differ f names) uses (length uses) (omega arith))
    where
      labels : (table : List (Option ℕ)) × AreLabels f table
      labels = labels_to (length f.blocks) (omega arith)

      definitions : (table : List (Option Spot)) × AreDefinitions f table
      definitions = definitions_to (length f.blocks) (omega arith)

      uses : List Use
      uses = all_uses labels.0 f.blocks

      same : IsPermutation uses uses
      same = IsPermutation-refl uses

      by_first : ((first : Option Unassigned) × IsFirst f uses (length uses) first) → Decided
      by_first (None, is) = inl (none_broken f labels.0 labels.1 (labels_differ f names) uses uses refl same is)
      by_first (Some w, is) = inr (w, first_place f labels.0 labels.1 (labels_differ f names) uses uses refl same w is, first_witness f labels.0 labels.1 (labels_differ f names) uses uses refl same w is)
