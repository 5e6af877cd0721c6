use Rattle.std.proofs.Common.{sym, ap, ◌∙◌}
use Rattle.ir_core.specs.declared.func.Func.{Func}
use Rattle.ir_assigned.specs.Search.{state}
use Rattle.ir_assigned.specs.BlockPaths.{block_of}
use Rattle.ir_assigned.proofs.Tested.{param_good, before_good, path_missed, path_good, cleaned, still_clean}
use Rattle.ir_assigned.proofs.tester.Tester.path_to.Goals as goal
use Rattle.ir_assigned.proofs.tester.Tester.path_to.Goals.{then-is_param-via-then-is_param, then-is_param-via-else-is_param+then-is_before}

pub returns-then-is_param-clause-exact : goal.returns-then-is_param-clause-exact
returns-then-is_param-clause-exact c =
    elim c.then-is_param.branch [
      | then-is_param-via-then-is_param w ↦ param_good c.args.graph.now c.args.definitions.now c.requires.definitions c.args.u c.as_slice.result.now (c.as_slice.ensures ∙ ap Func.params c.func.ensures) (c.is_param.ensures.yes w.if-is_param.true)
      | then-is_param-via-else-is_param+then-is_before w ↦ before_good c.args.graph.now c.args.definitions.now c.requires.definitions c.args.u c.get-definition.result c.get-definition.ensures (w.is_before.ensures.yes w.if-is_before.true)
    ]

pub path_from_entry-requires-clause-round : goal.path_from_entry-requires-clause-round
path_from_entry-requires-clause-round c = c.turn_to.ensures.positive c.args.graph.now c.args.definitions.now c.requires.testing

pub path_from_entry-requires-clause-marks : goal.path_from_entry-requires-clause-marks
path_from_entry-requires-clause-marks c = (c.turn_to.ensures.testing c.args.graph.now c.args.definitions.now c.requires.testing).marks

pub path_from_entry-requires-clause-clean : goal.path_from_entry-requires-clause-clean
path_from_entry-requires-clause-clean c =
    cleaned c.args.graph.now c.args.definitions.now c.turn_to.new.self.round c.args.u.local c.block_of.result (c.block_of.ensures ∙ ap block_of c.get-definition.ensures) (state c.turn_to.new.self.search)
    ((c.turn_to.ensures.testing c.args.graph.now c.args.definitions.now c.requires.testing).clean c.args.u.local c.turn_to.ensures.local)

pub returns-in-Some-clause-exact : goal.returns-in-Some-clause-exact
returns-in-Some-clause-exact c =
    path_missed c.args.graph.now c.args.definitions.now c.requires.definitions c.args.u c.requires.apart c.as_slice.result.now (c.as_slice.ensures ∙ ap Func.params c.func.ensures) (c.is_param.ensures.no c.if-is_param.false)
    c.get-definition.result c.get-definition.ensures (c.is_before.ensures.no c.if-is_before.false) c.block_of.result (c.block_of.ensures ∙ ap block_of c.get-definition.ensures)
    c.in_ok-path.field-0 c.in-Some.path c.in-Some.is c.in_ok-path.ensures.exact

pub returns-in-None-clause-testing : goal.returns-in-None-clause-testing
returns-in-None-clause-testing c = record {
  marks = c.in_ok-path.ensures.marks;
  positive = λ x e. c.turn_to.ensures.positive c.args.graph.now c.args.definitions.now c.requires.testing;
  clean = λ x e. still_clean c.args.graph.now c.args.definitions.now c.turn_to.new.self.round c.args.u.local c.block_of.result (c.block_of.ensures ∙ ap block_of c.get-definition.ensures) (state c.path_from_entry.new.self) (c.in_ok-path.ensures.none c.in-None.is) x (sym c.turn_to.ensures.local ∙ e);
}

pub returns-in-None-clause-exact : goal.returns-in-None-clause-exact
returns-in-None-clause-exact c =
    path_good c.args.graph.now c.args.definitions.now c.requires.definitions c.args.u c.block_of.result (c.block_of.ensures ∙ ap block_of c.get-definition.ensures) c.in_ok-path.field-0 c.in-None.is c.in_ok-path.ensures.exact
