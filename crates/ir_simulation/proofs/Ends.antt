-- A terminator under other numbers does as the old one.
use Rattle.std.proofs.Common.{◌≡◌, ℕ, refl, sym, subst, Bool, true, false, nat_eq, if◌then◌else◌, List, [], ◌∷◌, map, Some, None}
use Rattle.oi_base.specs.declared.ids.BlockId.{BlockId}
use Rattle.ir_core.specs.declared.flat.Case.{Case}
use Rattle.ir_core.specs.declared.flat.FlatEnd.{FlatEnd}
use Rattle.ir_core.specs.declared.flat.FlatEnd.TheVariants.{Ret, Br, Cond, Switch, Unreachable}
use Rattle.oi_base.specs.Words.{modulus}
use Rattle.ir_core.specs.Rows.{as_word}
use Rattle.ir_core.specs.Flat.{Regs, Goes, end_effect, case_for}
use Rattle.ir_simulation.specs.Renamed.{case_to, end_to, block_to}
use Rattle.ir_simulation.proofs.Matches.{Matches, RegsBelow, AllFit, operand_matches, goes, returns, broken}
use Rattle.ir_core.specs.Formed.{used_at_end}
use Rattle.ir_simulation.proofs.Respect.{read_below, word_matches}

case_same : (h : ℕ → ℕ) (a : ℕ) (cs : List Case) (o : BlockId) → (case_for a (map (case_to h) cs) (block_to h o)).0 ≡ h (case_for a cs o).0
case_same h a [] o = refl
case_same h a (c ∷ cs) o = by_test (nat_eq c.word a) (case_same h a cs o)
  where
    by_test : (t : Bool) → (case_for a (map (case_to h) cs) (block_to h o)).0 ≡ h (case_for a cs o).0 → (if t then block_to h c.to else case_for a (map (case_to h) cs) (block_to h o)).0 ≡ h (if t then c.to else case_for a cs o).0
    by_test true e = refl
    by_test false e = e

module _ (Twin : ℕ → ℕ → Type 0) (g h : ℕ → ℕ) where
  one_of_two : (t f : ℕ) (c : Bool) → Matches Twin g h (Goes (if c then f else t)) (Goes (if c then h f else h t))
  one_of_two t f true = goes
  one_of_two t f false = goes

  pub end_matches : (old new : Regs) (e : FlatEnd) → AllFit Twin (used_at_end e) → RegsBelow Twin g old new → Matches Twin g h (end_effect old e) (end_effect new (end_to g h e))
  end_matches old new (Ret None) f b = returns tt
  end_matches old new (Ret (Some a)) f b = operand_matches Twin g h old new a _ _ b f.0 (λ v u k. returns (u, refl, k))
  end_matches old new (Br x) f b = goes
  end_matches old new (Cond c t e) f b = operand_matches Twin g h old new c _ _ b f.0 (λ v u k. word_matches Twin g h (as_word 2 v) (as_word 2 u) _ _ (read_below Twin 2 v u k) (λ z. one_of_two t.0 e.0 (nat_eq z 0)))
  end_matches old new (Switch a w cases other) f b = operand_matches Twin g h old new a _ _ b f.0 (λ v u k.
      word_matches Twin g h (as_word (modulus w) v) (as_word (modulus w) u) _ _ (read_below Twin (modulus w) v u k) (λ z.
      subst (λ y. Matches Twin g h (Goes (case_for z cases other).0) (Goes y)) (sym (case_same h z cases other)) goes))
  end_matches old new Unreachable f b = broken
