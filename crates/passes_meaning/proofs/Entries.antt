-- Entries of phis that are left out.
use Rattle.std.proofs.Common.{◌≡◌, ℕ, Bool, true, false, cond, nat_eq, if◌then◌else◌, List, [], ◌∷◌, map, Some, refl, sym, ap, ◌∙◌, arith}
use Rattle.std.specs.List.{filter}
use Rattle.std.proofs.lemmas.Bool.Decides.{nat_tests}
use Rattle.ir_core.specs.declared.flat.Entry.{Entry}
use Rattle.ir_core.specs.declared.flat.Phi.{Phi}
use Rattle.ir_core.specs.Flat.{Regs, entry_for, entry_value, with_phi, after_phis}
use Rattle.flow_fold.specs.Blocks.{with_entries}

-- where the entries for a block stay, its operand stays
module _ (test : Entry → Bool) (b : ℕ) (stays : (e : Entry) → e.from.0 ≡ b → test e ≡ true) where
  entry_stays : (es : List Entry) → entry_for b (filter test es) ≡ entry_for b es
  entry_stays [] = refl
  entry_stays (e ∷ es) = by_test (nat_eq e.from.0 b) (test e) refl refl (entry_stays es)
    where
      by_test : (s t : Bool) → nat_eq e.from.0 b ≡ s → test e ≡ t → entry_for b (filter test es) ≡ entry_for b es → entry_for b (cond t (e ∷ filter test es) (filter test es)) ≡ (if s then Some e.value else entry_for b es)
      by_test true true is t rest = ap (λ (u : Bool). if u then Some e.value else entry_for b (filter test es)) is
      by_test true false is t rest = let same : e.from.0 ≡ b = grind (arith, nat_tests) in absurd (let both : true ≡ false = sym (stays e same) ∙ t in cc)
      by_test false true is t rest = ap (λ (u : Bool). if u then Some e.value else entry_for b (filter test es)) is ∙ rest
      by_test false false is t rest = rest

  pub phis_stay : (regs : Regs) (fs : List Phi) → after_phis regs b (map (with_entries test) fs) ≡ after_phis regs b fs
  phis_stay regs [] = refl
  phis_stay regs (f ∷ fs) =
      ap (λ o. with_phi f.reg.0 (entry_value regs o) (after_phis regs b (map (with_entries test) fs))) (entry_stays f.entries)
      ∙ ap (with_phi f.reg.0 (entry_value regs (entry_for b f.entries))) (phis_stay regs fs)
