-- The places at which the rule of positions is broken.
use Rattle.std.proofs.Common.{◌≡◌, ◌≢◌, ◌⊎◌, inl, inr, refl, ap, subst, Bool, true, false, not, ◌&&◌, ◌||◌, if◌then◌else◌, ℕ, zero, suc, ◌+◌, ◌<◌, List, [], ◌∷◌, length, slice_index_or, drop, Option, Some, None, slice_get, arith}
use Rattle.oi_base.specs.declared.ids.Place.{Place}
use Rattle.ir_core.specs.declared.op.Op.{Op}
use Rattle.ir_core.specs.declared.op.Op.TheVariants.{Bin, Icmp, Select, Cast, Alloca, Load, Store, Gep, Phi, Call}
use Rattle.ir_core.specs.declared.func.Instr.{Instr}
use Rattle.ir_core.specs.declared.func.Block.{Block}
use Rattle.ir_core.specs.declared.func.Func.{Func}
use Rattle.ir_core.specs.ValidFunc.{IsPhi, IsAlloca, IsLatePhi, BreaksPositions}
use Rattle.ir_core.proofs.Lists.{Has, has_left, has_right}
use Rattle.module_rules.specs.First.{earlier, earliest, IsFound}
use Rattle.module_rules.specs.Faults.{place_if}
use Rattle.ir_verifier.specs.Faults.{is_phi, is_alloca, is_misplaced, code_faults, position_fault, position_faults_from, position_faults}
use Rattle.std.specs.Bool.{Decides}
use Rattle.std.proofs.lemmas.Bool.Decides.{Decides-not}
use Rattle.module_rules.proofs.Decided.{always, never}
use Rattle.module_rules.proofs.Faulty.{has_in}
use Rattle.module_rules.proofs.Earliest.{found}
use Rattle.module_rules.proofs.Folds.{fold_next, cut}

phi_decides : (op : Op) → Decides (is_phi op) (IsPhi op)
phi_decides (Phi t es) = always
phi_decides (Bin op t a b) = never (λ h. h)
phi_decides (Icmp c t a b) = never (λ h. h)
phi_decides (Select c a b) = never (λ h. h)
phi_decides (Cast c a t) = never (λ h. h)
phi_decides (Alloca t n align) = never (λ h. h)
phi_decides (Load t a align) = never (λ h. h)
phi_decides (Store a p align) = never (λ h. h)
phi_decides (Gep t a is) = never (λ h. h)
phi_decides (Call t f as') = never (λ h. h)

alloca_decides : (op : Op) → Decides (is_alloca op) (IsAlloca op)
alloca_decides (Alloca t n align) = always
alloca_decides (Phi t es) = never (λ h. h)
alloca_decides (Bin op t a b) = never (λ h. h)
alloca_decides (Icmp c t a b) = never (λ h. h)
alloca_decides (Select c a b) = never (λ h. h)
alloca_decides (Cast c a t) = never (λ h. h)
alloca_decides (Load t a align) = never (λ h. h)
alloca_decides (Store a p align) = never (λ h. h)
alloca_decides (Gep t a is) = never (λ h. h)
alloca_decides (Call t f as') = never (λ h. h)

-- something that is no phi stands before instruction n
abbrev After : List Instr → ℕ → Type 0
After code n = (k : ℕ) × (j : Instr) × (k < n) × (slice_get code k ≡ Some j) × (IsPhi j.op → ⊥)

-- an instruction that stands wrong in code that begins after something that is no phi, or not
abbrev Wrong : (entry late : Bool) → List Instr → Place → Type 0
Wrong entry late code p =
    (n : ℕ) × (i : Instr) × (slice_get code n ≡ Some i) × (i.place ≡ p)
    × ((IsPhi i.op × ((late ≡ true) ⊎ After code n)) ⊎ (IsAlloca i.op × (entry ≡ false)))

placed : (t : Bool) (p q : Place) → Has (if t then (p ∷ []) else []) q → (t ≡ true) × (p ≡ q)
placed true p q (inl e) = (refl, e)
placed true p q (inr h) = absurd h
placed false p q h = absurd h

put : (t : Bool) (p q : Place) → t ≡ true → p ≡ q → Has (if t then (p ∷ []) else []) q
put true p q e same = inl same
put false p q e same = absurd (let clash : false ≡ true = e in cc)

why : (a b c d : Bool) → (a && b || c && not d) ≡ true → ((a ≡ true) × (b ≡ true)) ⊎ ((c ≡ true) × (d ≡ false))
why true true c d e = inl (refl, refl)
why true false true false e = inr (refl, refl)
why true false true true e = absurd (let clash : false ≡ true = e in cc)
why true false false d e = absurd (let clash : false ≡ true = e in cc)
why false b true false e = inr (refl, refl)
why false b true true e = absurd (let clash : false ≡ true = e in cc)
why false b false d e = absurd (let clash : false ≡ true = e in cc)

because : (a b c d : Bool) → ((a ≡ true) × (b ≡ true)) ⊎ ((c ≡ true) × (d ≡ false)) → (a && b || c && not d) ≡ true
because true true c d h = refl
because true false c d (inl h) = absurd (let clash : false ≡ true = h.1 in cc)
because true false c d (inr h) = rw h.0 (rw h.1 refl)
because false b c d (inl h) = absurd (let clash : false ≡ true = h.0 in cc)
because false b c d (inr h) = rw h.0 (rw h.1 refl)

-- the test of an instruction after something that is no phi, or not
later : (late : Bool) (op : Op) → ((late || not (is_phi op)) ≡ true) → (late ≡ true) ⊎ (IsPhi op → ⊥)
later true op e = inl refl
later false op e = inr ((Decides-not (is_phi op) (phi_decides op)).0 e)

is_later : (late : Bool) (op : Op) → (late ≡ true) ⊎ (IsPhi op → ⊥) → (late || not (is_phi op)) ≡ true
is_later true op h = refl
is_later false op (inl h) = absurd (let clash : false ≡ true = h in cc)
is_later false op (inr h) = (Decides-not (is_phi op) (phi_decides op)).1 h

module _ (entry : Bool) where
  sound : (code : List Instr) (late : Bool) (p : Place) → Has (code_faults entry late code) p → Wrong entry late code p
  sound [] late p h = absurd h
  sound (i ∷ is) late p h = by_part (has_in (place_if (is_misplaced entry late i.op) i.place) (code_faults entry (late || not (is_phi i.op)) is) p h) (sound is (late || not (is_phi i.op)) p)
    where
      here : (is_misplaced entry late i.op ≡ true) × (i.place ≡ p) → Wrong entry late (i ∷ is) p
      here t = (0, i, refl, t.1, reason (why (is_phi i.op) late (is_alloca i.op) entry t.0))
        where
          reason : ((is_phi i.op ≡ true) × (late ≡ true)) ⊎ ((is_alloca i.op ≡ true) × (entry ≡ false)) → (IsPhi i.op × ((late ≡ true) ⊎ After (i ∷ is) 0)) ⊎ (IsAlloca i.op × (entry ≡ false))
          reason (inl r) = inl ((phi_decides i.op).0 r.0, inl r.1)
          reason (inr r) = inr ((alloca_decides i.op).0 r.0, r.1)

      next : Wrong entry (late || not (is_phi i.op)) is p → Wrong entry late (i ∷ is) p
      next w = (suc w.0, w.1, w.2, w.3, reason w.4)
        where
          after : ((late || not (is_phi i.op)) ≡ true) ⊎ After is w.0 → (late ≡ true) ⊎ After (i ∷ is) (suc w.0)
          after (inr b) = inr (suc b.0, b.1, omega (arith, b.2), b.3, b.4)
          after (inl e) = by_cause (later late i.op e)
            where
              by_cause : (late ≡ true) ⊎ (IsPhi i.op → ⊥) → (late ≡ true) ⊎ After (i ∷ is) (suc w.0)
              by_cause (inl g) = inl g
              by_cause (inr g) = inr (0, i, omega arith, refl, g)

          reason : (IsPhi w.1.op × (((late || not (is_phi i.op)) ≡ true) ⊎ After is w.0)) ⊎ (IsAlloca w.1.op × (entry ≡ false)) → (IsPhi w.1.op × ((late ≡ true) ⊎ After (i ∷ is) (suc w.0))) ⊎ (IsAlloca w.1.op × (entry ≡ false))
          reason (inl r) = inl (r.0, after r.1)
          reason (inr r) = inr r

      by_part : Has (place_if (is_misplaced entry late i.op) i.place) p ⊎ Has (code_faults entry (late || not (is_phi i.op)) is) p → (Has (code_faults entry (late || not (is_phi i.op)) is) p → Wrong entry (late || not (is_phi i.op)) is p) → Wrong entry late (i ∷ is) p
      by_part (inl g) rest = here (placed (is_misplaced entry late i.op) i.place p g)
      by_part (inr g) rest = next (rest g)

  complete : (code : List Instr) (late : Bool) (p : Place) → Wrong entry late code p → Has (code_faults entry late code) p
  complete [] late p w = absurd (let clash : None ≡ Some w.1 = w.2 in cc)
  complete (i ∷ is) late p w = by_index w.0 w.2 w.4 (complete is (late || not (is_phi i.op)) p)
    where
      here : (w.1 ≡ i) → (IsPhi w.1.op × ((late ≡ true) ⊎ After (i ∷ is) 0)) ⊎ (IsAlloca w.1.op × (entry ≡ false)) → Has (code_faults entry late (i ∷ is)) p
      here same r = has_left (place_if (is_misplaced entry late i.op) i.place) (code_faults entry (late || not (is_phi i.op)) is) p
          (put (is_misplaced entry late i.op) i.place p (because (is_phi i.op) late (is_alloca i.op) entry (reason (subst (λ (j : Instr). (IsPhi j.op × ((late ≡ true) ⊎ After (i ∷ is) 0)) ⊎ (IsAlloca j.op × (entry ≡ false))) same r))) (subst (λ (j : Instr). j.place ≡ p) same w.3))
        where
          nothing : After (i ∷ is) 0 → ⊥
          nothing b = omega (arith, b.2)

          is_late : (late ≡ true) ⊎ After (i ∷ is) 0 → late ≡ true
          is_late (inl e) = e
          is_late (inr b) = absurd (nothing b)

          reason : (IsPhi i.op × ((late ≡ true) ⊎ After (i ∷ is) 0)) ⊎ (IsAlloca i.op × (entry ≡ false)) → ((is_phi i.op ≡ true) × (late ≡ true)) ⊎ ((is_alloca i.op ≡ true) × (entry ≡ false))
          reason (inl q) = inl ((phi_decides i.op).1 q.0, is_late q.1)
          reason (inr q) = inr ((alloca_decides i.op).1 q.0, q.1)

      by_index : (n : ℕ) → slice_get (i ∷ is) n ≡ Some w.1 → (IsPhi w.1.op × ((late ≡ true) ⊎ After (i ∷ is) n)) ⊎ (IsAlloca w.1.op × (entry ≡ false)) → (Wrong entry (late || not (is_phi i.op)) is p → Has (code_faults entry (late || not (is_phi i.op)) is) p) → Has (code_faults entry late (i ∷ is)) p
      by_index zero at r rest = here (let same : Some i ≡ Some w.1 = at in cc) r
      by_index (suc n) at r rest = has_right (place_if (is_misplaced entry late i.op) i.place) (code_faults entry (late || not (is_phi i.op)) is) p (rest (n, w.1, at, w.3, reason r))
        where
          after : (late ≡ true) ⊎ After (i ∷ is) (suc n) → ((late || not (is_phi i.op)) ≡ true) ⊎ After is n
          after (inl e) = inl (is_later late i.op (inl e))
          after (inr b) = by_place b.0 b.2 b.3
            where
              by_place : (k : ℕ) → k < suc n → slice_get (i ∷ is) k ≡ Some b.1 → ((late || not (is_phi i.op)) ≡ true) ⊎ After is n
              by_place zero lt e = inl (is_later late i.op (inr (subst (λ (j : Instr). IsPhi j.op → ⊥) (let same : Some i ≡ Some b.1 = e in let back : b.1 ≡ i = cc in back) b.4)))
              by_place (suc k) lt e = inr (k, b.1, omega (arith, lt), e, b.4)

          reason : (IsPhi w.1.op × ((late ≡ true) ⊎ After (i ∷ is) (suc n))) ⊎ (IsAlloca w.1.op × (entry ≡ false)) → (IsPhi w.1.op × (((late || not (is_phi i.op)) ≡ true) ⊎ After is n)) ⊎ (IsAlloca w.1.op × (entry ≡ false))
          reason (inl q) = inl (q.0, after q.1)
          reason (inr q) = inr q

-- the block of a place among blocks of which the first is the entry, or not
abbrev At : (entry : Bool) → List Block → Place → Type 0
At entry blocks p =
    (at : ℕ) × (n : ℕ) × (b : Block) × (i : Instr) × (slice_get blocks at ≡ Some b) × (slice_get b.code n ≡ Some i) × (i.place ≡ p)
    × (IsLatePhi b n i ⊎ (IsAlloca i.op × ((at ≢ 0) ⊎ (entry ≡ false))))

blocks_sound : (blocks : List Block) (entry : Bool) (p : Place) → Has (position_faults_from entry blocks) p → At entry blocks p
blocks_sound [] entry p h = absurd h
blocks_sound (b ∷ bs) entry p h = by_part (has_in (position_fault entry b) (position_faults_from false bs) p h) (blocks_sound bs false p)
  where
    here : Wrong entry false b.code p → At entry (b ∷ bs) p
    here w = (0, w.0, b, w.1, refl, w.2, w.3, reason w.4)
      where
        is_after : (false ≡ true) ⊎ After b.code w.0 → After b.code w.0
        is_after (inl e) = absurd (let clash : false ≡ true = e in cc)
        is_after (inr g) = g

        reason : (IsPhi w.1.op × ((false ≡ true) ⊎ After b.code w.0)) ⊎ (IsAlloca w.1.op × (entry ≡ false)) → IsLatePhi b w.0 w.1 ⊎ (IsAlloca w.1.op × ((zero ≢ zero) ⊎ (entry ≡ false)))
        reason (inl r) = inl (r.0, is_after r.1)
        reason (inr r) = inr (r.0, inr r.1)

    next : At false bs p → At entry (b ∷ bs) p
    next a = (suc a.0, a.1, a.2, a.3, a.4, a.5, a.6, reason a.7)
      where
        reason : IsLatePhi a.2 a.1 a.3 ⊎ (IsAlloca a.3.op × ((a.0 ≢ 0) ⊎ (false ≡ false))) → IsLatePhi a.2 a.1 a.3 ⊎ (IsAlloca a.3.op × ((suc a.0 ≢ 0) ⊎ (entry ≡ false)))
        reason (inl r) = inl r
        reason (inr r) = inr (r.0, inl (λ e. omega (arith, e)))

    by_part : Has (position_fault entry b) p ⊎ Has (position_faults_from false bs) p → (Has (position_faults_from false bs) p → At false bs p) → At entry (b ∷ bs) p
    by_part (inl g) rest = here (sound entry b.code false p g)
    by_part (inr g) rest = next (rest g)

blocks_complete : (blocks : List Block) (entry : Bool) (p : Place) → At entry blocks p → Has (position_faults_from entry blocks) p
blocks_complete [] entry p a = absurd (let clash : None ≡ Some a.2 = a.4 in cc)
blocks_complete (b ∷ bs) entry p a = by_index a.0 a.4 a.7 (blocks_complete bs false p)
  where
    by_index : (at : ℕ) → slice_get (b ∷ bs) at ≡ Some a.2 → IsLatePhi a.2 a.1 a.3 ⊎ (IsAlloca a.3.op × ((at ≢ 0) ⊎ (entry ≡ false))) → (At false bs p → Has (position_faults_from false bs) p) → Has (position_faults_from entry (b ∷ bs)) p
    by_index zero e r rest =
        let same : a.2 ≡ b = (let s : Some b ≡ Some a.2 = e in cc) in
        has_left (position_fault entry b) (position_faults_from false bs) p
        (complete entry b.code false p (subst (λ (k : Block). Wrong entry false k.code p) same (a.1, a.3, a.5, a.6, reason r)))
      where
        is_entry : (zero ≢ zero) ⊎ (entry ≡ false) → entry ≡ false
        is_entry (inl g) = absurd (g refl)
        is_entry (inr g) = g

        reason : IsLatePhi a.2 a.1 a.3 ⊎ (IsAlloca a.3.op × ((zero ≢ zero) ⊎ (entry ≡ false))) → (IsPhi a.3.op × ((false ≡ true) ⊎ After a.2.code a.1)) ⊎ (IsAlloca a.3.op × (entry ≡ false))
        reason (inl q) = inl (q.0, inr q.1)
        reason (inr q) = inr (q.0, is_entry q.1)
    by_index (suc at) e r rest = has_right (position_fault entry b) (position_faults_from false bs) p (rest (at, a.1, a.2, a.3, e, a.5, a.6, reason r))
      where
        reason : IsLatePhi a.2 a.1 a.3 ⊎ (IsAlloca a.3.op × ((suc at ≢ 0) ⊎ (entry ≡ false))) → IsLatePhi a.2 a.1 a.3 ⊎ (IsAlloca a.3.op × ((at ≢ 0) ⊎ (false ≡ false)))
        reason (inl q) = inl q
        reason (inr q) = inr (q.0, inr refl)

pub positions_found : (f : Func) → IsFound (BreaksPositions f) (earliest None (position_faults f))
positions_found f = found (BreaksPositions f) (position_faults f) (λ p h. of_at p (blocks_sound f.blocks true p h)) (λ p b. blocks_complete f.blocks true p (to_at p b))
  where
    of_at : (p : Place) → At true f.blocks p → BreaksPositions f p
    of_at p a = (a.0, a.1, a.2, a.3, a.4, a.5, a.6, reason a.7)
      where
        no_entry : (a.0 ≢ 0) ⊎ (true ≡ false) → a.0 ≢ 0
        no_entry (inl g) = g
        no_entry (inr g) = absurd (let clash : true ≡ false = g in cc)

        reason : IsLatePhi a.2 a.1 a.3 ⊎ (IsAlloca a.3.op × ((a.0 ≢ 0) ⊎ (true ≡ false))) → IsLatePhi a.2 a.1 a.3 ⊎ (IsAlloca a.3.op × (a.0 ≢ 0))
        reason (inl q) = inl q
        reason (inr q) = inr (q.0, no_entry q.1)

    to_at : (p : Place) → BreaksPositions f p → At true f.blocks p
    to_at p b = (b.0, b.1, b.2, b.3, b.4, b.5, b.6, reason b.7)
      where
        reason : IsLatePhi b.2 b.1 b.3 ⊎ (IsAlloca b.3.op × (b.0 ≢ 0)) → IsLatePhi b.2 b.1 b.3 ⊎ (IsAlloca b.3.op × ((b.0 ≢ 0) ⊎ (true ≡ false)))
        reason (inl q) = inl q
        reason (inr q) = inr (q.0, inl q.1)

-- one more block, whose places are counted in
pub positions_step : (first next all : Option Place) (entry : Bool) (xs ys : List Block) (k : ℕ) (b : Block) →
    next ≡ earliest first (position_fault entry b) → xs ≡ ys → k < length xs → b ≡ slice_index_or xs k b
    → earliest first (position_faults_from entry (drop k ys)) ≡ all → earliest next (position_faults_from false (drop (k + 1) ys)) ≡ all
positions_step first next all entry xs ys k b e same within is so_far =
    fold_next earlier first next all (position_fault entry b) (position_faults_from false (drop (k + 1) ys)) (position_faults_from entry (drop k ys)) e
    (ap (position_faults_from entry) (cut xs ys k b same within is)) so_far
