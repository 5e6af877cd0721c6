-- A body of one block.
use Rattle.std.specs.Prelude.{List, [], ◌∷◌, Some}
use Rattle.oi_base.specs.declared.words.Width.TheVariants.{W32}
use Rattle.ir_core.specs.declared.flat.BinOp.TheVariants.{Add, Mul}
use Rattle.ir_core.specs.declared.flat.FlatOp.TheVariants.{Reg, Word}
use Rattle.ir_core.specs.declared.flat.FlatInstr.{FlatInstr}
use Rattle.ir_core.specs.declared.flat.FlatInstr.TheVariants.{Bin, Copy}
use Rattle.ir_core.specs.declared.flat.FlatEnd.TheVariants.{Ret}
use Rattle.ir_core.specs.declared.flat.FlatBlock.{FlatBlock}
use Rattle.ir_core.specs.declared.flat.FlatBody.{FlatBody}

abbrev pub sample_code : List FlatInstr
sample_code = Copy (record { 0 = 1 }) (Reg (record { 0 = 0 }))
    ∷ Bin (record { 0 = 2 }) Add W32 (Reg (record { 0 = 1 })) (Reg (record { 0 = 1 }))
    ∷ Bin (record { 0 = 3 }) Mul W32 (Reg (record { 0 = 0 })) (Word 3)
    ∷ []

abbrev pub sample_block : FlatBlock
sample_block = record { phis = []; code = sample_code; end = Ret (Some (Reg (record { 0 = 2 }))) }

abbrev pub sample : FlatBody
sample = record { params = 1; regs = 4; blocks = sample_block ∷ [] }
