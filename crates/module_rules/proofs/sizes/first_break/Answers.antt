use Rattle.std.proofs.Common.{sym, subst}
use Rattle.std.proofs.lemmas.Result.{IfOk-weaker}
use Rattle.ir_core.specs.ValidTypes.{BreaksSizes}
use Rattle.module_rules.specs.First.{IsFound}
use Rattle.module_rules.proofs.SizePlaces.{sizes_found}
use Rattle.module_rules.proofs.sizes.first_break.Goals as goal

pub returns : goal.returns
returns c = record {
  found =
      IfOk-weaker c.first_large.result _ _
      (λ first e. subst (IsFound (BreaksSizes c.args.m.now)) (sym e) (sizes_found c.args.m.now c.requires.type_names))
      c.first_large.ensures;
}
