use Rattle.std.proofs.Common.{sym, refl, ◌∙◌, subst, List, ℕ}
use Rattle.std.specs.Prelude.{MatchOption}
use Rattle.ir_assigned.specs.BlockPaths.{MissesOn, Misses}
use Rattle.ir_assigned.specs.Testing.{Newer}
use Rattle.ir_assigned.proofs.tester.Tester.earlier.Goals as goal

pub returns-in-Some-clause-exact : goal.returns-in-Some-clause-exact
returns-in-Some-clause-exact c =
    let misses = subst (λ o. MatchOption o ((before : List ℕ) → MissesOn c.args.graph.now c.args.u before → ⊥) (Misses c.args.graph.now c.args.u)) c.in-Some.is c.in_ok-path.ensures.exact in
    Newer (record { place = c.args.u.place; local = c.args.u.local; path = c.in-Some.path }) refl (refl, refl, misses) (sym c.is_known.ensures ∙ c.if-is_known.false)
