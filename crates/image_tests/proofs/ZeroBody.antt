-- The body that returns 0 is well formed.
use Rattle.std.proofs.Common.{refl, arith, [], ◌∷◌, Some}
use Rattle.std.proofs.lemmas.List.Elements.{All-nil, All-cons}
use Rattle.ir_core.specs.declared.flat.FlatBlock.{FlatBlock}
use Rattle.ir_core.specs.declared.flat.FlatBody.{FlatBody}
use Rattle.ir_core.specs.declared.flat.FlatEnd.TheVariants.{Ret}
use Rattle.ir_core.specs.declared.flat.FlatOp.TheVariants.{Word}
use Rattle.ir_core.specs.WellFormed.{IsWellFormed}
use Rattle.rv_select_tests.specs.Plain.{IsPlain, IsPlainBlock, IsPlainInstr}
use Rattle.rv_select_tests.proofs.WellFormed.{plain_is_well_formed}

abbrev pub zero_block : FlatBlock
zero_block = record { phis = []; code = []; end = Ret (Some (Word 0)) }

abbrev pub zero_body : FlatBody
zero_body = record { params = 0; regs = 0; blocks = zero_block ∷ [] }

plain_block : IsPlainBlock 1 zero_block
plain_block = record { phis = refl; code = All-nil IsPlainInstr; end = omega arith }

plain : IsPlain zero_body
plain = record { params = refl; regs = refl; some = omega arith; few = omega arith; blocks = All-cons (IsPlainBlock 1) zero_block [] plain_block (All-nil (IsPlainBlock 1)) }

pub zero_is_well_formed : IsWellFormed zero_body
zero_is_well_formed = plain_is_well_formed zero_body plain
