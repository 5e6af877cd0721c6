-- The plain flat bodies of a module: each function's own blocks, with every call kept. Registers are numbered from the
-- parameters on in the order in which the text defines them, blocks in text order.
use Rattle.std.specs.Prelude.{◌≡◌, ℕ, ◌==◌, Bool, List, ◌++◌, length, map, slice_get}
use Rattle.std.specs.List.{flat_map, filter_map, position_or_len}
use Rattle.std.specs.Option.{option_map}
use Rattle.oi_base.specs.declared.ids.RegId.{RegId}
use Rattle.oi_base.specs.declared.ids.BlockId.{BlockId}
use Rattle.ir_core.specs.declared.flat.FlatOp.{FlatOp}
use Rattle.ir_core.specs.declared.flat.FlatOp.TheVariants.{Reg, Word, Null, Address, Poison}
use Rattle.ir_core.specs.declared.flat.Term.{Term}
use Rattle.ir_core.specs.declared.flat.Case.{Case}
use Rattle.ir_core.specs.declared.flat.Entry.{Entry}
use Rattle.ir_core.specs.declared.flat.Phi.{Phi}
use Rattle.ir_core.specs.declared.flat.FlatInstr.{FlatInstr}
use Rattle.ir_core.specs.declared.flat.FlatInstr.TheVariants.{Bin, Icmp, Select, Cast, Copy, Alloca, Load, Store, Gep, Call, Put, Get, Exit}
use Rattle.ir_core.specs.declared.flat.FlatEnd.{FlatEnd}
use Rattle.ir_core.specs.declared.flat.FlatEnd.TheVariants.{Ret, Br, Cond, Switch, Unreachable}
use Rattle.ir_core.specs.declared.flat.FlatBlock.{FlatBlock}
use Rattle.ir_core.specs.declared.flat.FlatBody.{FlatBody}
use Rattle.ir_core.specs.declared.op.LocalId.{LocalId}
use Rattle.ir_core.specs.declared.func.Instr.{Instr}
use Rattle.ir_core.specs.declared.func.Block.{Block}
use Rattle.ir_core.specs.declared.func.Func.{Func}
use Rattle.ir_core.specs.declared.func.Param.{Param}
use Rattle.ir_core.specs.declared.module.Module.{Module}
use Rattle.ir_core.specs.Flat.{Program, flat_run}
use Rattle.ir_core.specs.Instructions.{block_rows}
use Rattle.ir_core.specs.Source.{is_labelled, main_number, src}
use Rattle.ir_core.specs.Constants.{global_memory}

-- ---- other numbers for registers and blocks

pub record Numbers : Type 0 where
  pub reg : ℕ → ℕ
  pub block : ℕ → ℕ

abbrev pub other_reg : Numbers → RegId → RegId
other_reg n r = record { 0 = n.reg r.0 }

abbrev pub other_block : Numbers → BlockId → BlockId
other_block n b = record { 0 = n.block b.0 }

abbrev pub other_operand : Numbers → FlatOp → FlatOp
other_operand n (Reg r) = Reg (other_reg n r)
other_operand n (Word a) = Word a
other_operand n Null = Null
other_operand n (Address g k) = Address g k
other_operand n Poison = Poison

abbrev pub other_term : Numbers → Term → Term
other_term n t = record { operand = other_operand n t.operand; width = t.width; stride = t.stride }

abbrev pub other_instr : Numbers → FlatInstr → FlatInstr
other_instr n (Bin d op w a b) = Bin (other_reg n d) op w (other_operand n a) (other_operand n b)
other_instr n (Icmp d c s a b) = Icmp (other_reg n d) c s (other_operand n a) (other_operand n b)
other_instr n (Select d c a b) = Select (other_reg n d) (other_operand n c) (other_operand n a) (other_operand n b)
other_instr n (Cast d c from to a) = Cast (other_reg n d) c from to (other_operand n a)
other_instr n (Copy d a) = Copy (other_reg n d) (other_operand n a)
other_instr n (Alloca d size align) = Alloca (other_reg n d) size align
other_instr n (Load d s align a) = Load (other_reg n d) s align (other_operand n a)
other_instr n (Store s align v a) = Store s align (other_operand n v) (other_operand n a)
other_instr n (Gep d a k ts) = Gep (other_reg n d) (other_operand n a) k (map (other_term n) ts)
other_instr n (Call d f args) = Call (option_map (other_reg n) d) f (map (other_operand n) args)
other_instr n (Put d a) = Put (option_map (other_reg n) d) (other_operand n a)
other_instr n (Get d) = Get (option_map (other_reg n) d)
other_instr n (Exit a) = Exit (other_operand n a)

abbrev pub other_entry : Numbers → Entry → Entry
other_entry n e = record { from = other_block n e.from; value = other_operand n e.value }

abbrev pub other_phi : Numbers → Phi → Phi
other_phi n f = record { reg = other_reg n f.reg; entries = map (other_entry n) f.entries }

abbrev pub other_case : Numbers → Case → Case
other_case n c = record { word = c.word; to = other_block n c.to }

abbrev pub other_end : Numbers → FlatEnd → FlatEnd
other_end n (Ret a) = Ret (option_map (other_operand n) a)
other_end n (Br b) = Br (other_block n b)
other_end n (Cond c t f) = Cond (other_operand n c) (other_block n t) (other_block n f)
other_end n (Switch a w cases other) = Switch (other_operand n a) w (map (other_case n) cases) (other_block n other)
other_end n Unreachable = Unreachable

abbrev pub renumbered : Numbers → FlatBlock → FlatBlock
renumbered n b = record { phis = map (other_phi n) b.phis; code = map (other_instr n) b.code; end = other_end n b.end }

-- ---- bodies

-- the registers of a function: its parameters, and the results of its instructions
abbrev pub results : Block → List LocalId
results b = filter_map (λ (i : Instr). i.result) b.code

abbrev pub registers : Func → List LocalId
registers f = map (λ (p : Param). p.name) f.params ++ flat_map results f.blocks

abbrev pub is_local : ℕ → LocalId → Bool
is_local x r = r.0 == x

abbrev pub numbers : Func → Numbers
numbers f = record { reg = λ x. position_or_len (is_local x) (registers f); block = λ x. position_or_len (is_labelled x) f.blocks }

abbrev pub plain_body : Module → Func → FlatBody
plain_body m f = record {
  params = length f.params;
  regs = length (registers f);
  blocks = map (λ (b : Block). renumbered (numbers f) (block_rows m b)) f.blocks;
}

abbrev pub plain_program : Module → Program
plain_program m = record {
  globals = global_memory m;
  body = λ f. option_map (plain_body m) (slice_get m.funcs f);
  main = main_number m;
}

-- what is seen of the run of a module's plain bodies is what is seen of the module's run, turn by turn
abbrev pub RunsAsTheSource : Module → Type 0
RunsAsTheSource m = (input : List ℕ) (n : ℕ) → flat_run (plain_program m) input n ≡ src m input n
