use Rattle.std.proofs.Common.{sym, subst}
use Rattle.ir_core.specs.declared.constant.Const.{Const}
use Rattle.ir_core.specs.declared.op.Operand.TheVariants as operands
use Rattle.ir_core.specs.ValidConsts.{IndicesFit}
use Rattle.ir_verifier.specs.PhiFaults.{IsMeasured}
use Rattle.ir_verifier.proofs.meanings.const_form.Goals as goal

pub gep_offset-requires-clause-fit : goal.gep_offset-requires-clause-fit
gep_offset-requires-clause-fit c =
    let m = subst (λ (k : Const). IsMeasured c.args.m.now.types.defs (operands.Const k)) c.in-Gep.is c.requires.measured in
    subst IndicesFit (sym c.as_slice.ensures) m.3
