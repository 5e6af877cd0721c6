use Rattle.std.proofs.Common.{sym, ◌∙◌, subst, Bool}
use Rattle.std.specs.Bool.{Decides}
use Rattle.ir_core.specs.Acyclic.{HoldsItself}
use Rattle.module_rules.proofs.TypeGraph.{itself_decides}
use Rattle.module_rules.proofs.cycles.holds_itself.Goals as goal

pub returns : goal.returns
returns c =
    subst (λ (b : Bool). Decides b (HoldsItself c.args.m.now.types.defs c.args.x)) (sym c.any_joined.ensures)
    (itself_decides c.args.m.now c.requires.proper c.args.marks.now c.requires.components c.args.x c.as_slice.result.now (c.as_slice.ensures.value ∙ c.in_ok-names.ensures {u = tt}))
