-- Terminators and phis of blocks that are left, under their new numbers.
use Rattle.std.proofs.Common.{◌≡◌, ◌≢◌, ℕ, Bool, true, false, cond, nat_eq, if◌then◌else◌, List, [], ◌∷◌, map, Option, Some, None, refl, sym, ap, ◌∙◌, arith}
use Rattle.std.specs.List.{filter}
use Rattle.std.proofs.lemmas.Bool.Decides.{nat_tests}
use Rattle.oi_base.specs.declared.ids.BlockId.{BlockId}
use Rattle.oi_base.specs.Words.{modulus}
use Rattle.ir_core.specs.declared.flat.Case.{Case}
use Rattle.ir_core.specs.declared.flat.Entry.{Entry}
use Rattle.ir_core.specs.declared.flat.Phi.{Phi}
use Rattle.ir_core.specs.declared.flat.FlatEnd.{FlatEnd}
use Rattle.ir_core.specs.declared.flat.FlatEnd.TheVariants.{Ret, Br, Cond, Switch, Unreachable}
use Rattle.ir_core.specs.Memory.{Value}
use Rattle.ir_core.specs.Rows.{Read, Is, IsPoison, IsOther, as_word}
use Rattle.ir_core.specs.Flat.{Regs, Effect, Sets, Allocates, Stores, Puts, Takes, Enters, Goes, Returns, Stops, NoMeaning, NoValue, value_of, using, word_in, end_effect, case_for, entry_for, entry_value, with_phi, after_phis}
use Rattle.flow_fold.proofs.Kept.{one_number}
use Rattle.flow_fold.specs.Blocks.{number_of, with_entries, entry_renamed, phi_renamed, block_named, case_renamed, end_renamed}

-- ---- terminators with other names

abbrev pub named : (ℕ → ℕ) → Effect → Effect
named name (Goes c) = Goes (name c)
named name (Sets d v) = Sets d v
named name (Allocates d size align) = Allocates d size align
named name (Stores m) = Stores m
named name (Puts d b) = Puts d b
named name (Takes d) = Takes d
named name (Enters d f args) = Enters d f args
named name (Returns v) = Returns v
named name (Stops w) = Stops w
named name NoMeaning = NoMeaning
named name NoValue = NoValue

module _ (name : ℕ → ℕ) where
  use_named : (o : Option Value) (go to : Value → Effect) → ((v : Value) → to v ≡ named name (go v)) → using o to ≡ named name (using o go)
  use_named None go to h = refl
  use_named (Some v) go to h = h v

  word_named : (x : Read) (go to : ℕ → Effect) → ((a : ℕ) → to a ≡ named name (go a)) → word_in x to ≡ named name (word_in x go)
  word_named (Is a) go to h = h a
  word_named IsPoison go to h = refl
  word_named IsOther go to h = refl

  if_named : (t : Bool) (x y : ℕ) → Goes (if t then name x else name y) ≡ Goes (name (if t then x else y))
  if_named true x y = refl
  if_named false x y = refl

  case_named : (a : ℕ) (cases : List Case) (other : BlockId) → (case_for a (map (case_renamed name) cases) (block_named name other)).0 ≡ name (case_for a cases other).0
  case_named a [] other = refl
  case_named a (c ∷ cs) other = by_test (nat_eq c.word a) (case_named a cs other)
    where
      by_test : (t : Bool) → (case_for a (map (case_renamed name) cs) (block_named name other)).0 ≡ name (case_for a cs other).0
          → (if t then block_named name c.to else case_for a (map (case_renamed name) cs) (block_named name other)).0 ≡ name (if t then c.to else case_for a cs other).0
      by_test true rest = refl
      by_test false rest = rest

  pub end_named : (regs : Regs) (e : FlatEnd) → end_effect regs (end_renamed name e) ≡ named name (end_effect regs e)
  end_named regs (Ret None) = refl
  end_named regs (Ret (Some a)) = use_named (value_of regs a) _ _ (λ x. refl)
  end_named regs (Br b) = refl
  end_named regs (Cond c t f) = use_named (value_of regs c) (λ x. word_in (as_word 2 x) (λ z. Goes (if nat_eq z 0 then f.0 else t.0))) _ (λ x. word_named (as_word 2 x) (λ z. Goes (if nat_eq z 0 then f.0 else t.0)) _ (λ z. if_named (nat_eq z 0) f.0 t.0))
  end_named regs (Switch a w cases other) =
      use_named (value_of regs a) (λ x. word_in (as_word (modulus w) x) (λ z. Goes (case_for z cases other).0)) _ (λ x. word_named (as_word (modulus w) x) (λ z. Goes (case_for z cases other).0) _ (λ z. ap Goes (case_named z cases other)))
  end_named regs Unreachable = refl

module _ (keep : ℕ → Bool) where
  pub same_test : (a b : ℕ) → keep a ≡ true → keep b ≡ true → nat_eq (number_of keep a) (number_of keep b) ≡ nat_eq a b
  same_test a b ea eb = by_test (nat_eq a b) refl
    where
      by_test : (t : Bool) → nat_eq a b ≡ t → nat_eq (number_of keep a) (number_of keep b) ≡ t
      by_test true e = let same : a ≡ b = grind (arith, nat_tests) in let eq : number_of keep a ≡ number_of keep b = ap (number_of keep) same in grind (arith, nat_tests)
      by_test false e =
          let apart : number_of keep a ≢ number_of keep b = λ eq. let same = one_number keep a b ea eb eq in absurd (grind (arith, nat_tests)) in
          grind (arith, nat_tests)

-- ---- phis

module _ (keep : ℕ → Bool) (b : ℕ) (kept : keep b ≡ true) where
  abbrev change : Phi → Phi
  change f = phi_renamed (number_of keep) (with_entries (λ (e : Entry). keep e.from.0) f)

  entry_kept : (es : List Entry) → entry_for (number_of keep b) (map (entry_renamed (number_of keep)) (filter (λ (e : Entry). keep e.from.0) es)) ≡ entry_for b es
  entry_kept [] = refl
  entry_kept (e ∷ es) = by_test (keep e.from.0) refl (entry_kept es)
    where
      apart_from : keep e.from.0 ≡ false → nat_eq e.from.0 b ≡ false
      apart_from k = let apart : e.from.0 ≢ b = λ same. absurd (let both : false ≡ true = sym k ∙ ap keep same ∙ kept in cc) in grind (arith, nat_tests)

      by_test : (t : Bool) → keep e.from.0 ≡ t → entry_for (number_of keep b) (map (entry_renamed (number_of keep)) (filter (λ (e : Entry). keep e.from.0) es)) ≡ entry_for b es
          → entry_for (number_of keep b) (map (entry_renamed (number_of keep)) (cond t (e ∷ filter (λ (e : Entry). keep e.from.0) es) (filter (λ (e : Entry). keep e.from.0) es))) ≡ (if nat_eq e.from.0 b then Some e.value else entry_for b es)
      by_test true k rest =
          ap (λ t. if t then Some e.value else entry_for (number_of keep b) (map (entry_renamed (number_of keep)) (filter (λ (e : Entry). keep e.from.0) es))) (same_test keep e.from.0 b k kept)
          ∙ ap (λ o. if nat_eq e.from.0 b then Some e.value else o) rest
      by_test false k rest = rest ∙ sym (ap (λ t. if t then Some e.value else entry_for b es) (apart_from k))

  pub phis_kept : (regs : Regs) (fs : List Phi) → after_phis regs (number_of keep b) (map change fs) ≡ after_phis regs b fs
  phis_kept regs [] = refl
  phis_kept regs (f ∷ fs) =
      ap (λ o. with_phi f.reg.0 (entry_value regs o) (after_phis regs (number_of keep b) (map change fs))) (entry_kept f.entries)
      ∙ ap (with_phi f.reg.0 (entry_value regs (entry_for b f.entries))) (phis_kept regs fs)
