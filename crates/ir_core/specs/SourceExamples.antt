-- Runs of small modules, worked out.
use Rattle.std.specs.Prelude.{◌≡◌, ℕ, ◌+◌, ◌-◌, true, false, List, [], ◌∷◌, ◌++◌, codes, Some, None, pos, negsuc}
use Rattle.oi_base.specs.declared.ids.Place.{Place}
use Rattle.oi_base.specs.declared.words.Width.TheVariants.{W1, W8, W32}
use Rattle.oi_base.specs.Follows.{Status, Going, Ended, Undefined}
use Rattle.ir_core.specs.declared.flat.BinOp.{BinOp}
use Rattle.ir_core.specs.declared.flat.BinOp.TheVariants.{Add, Sdiv, Udiv, Shl}
use Rattle.ir_core.specs.declared.flat.Cmp.{Cmp}
use Rattle.ir_core.specs.declared.flat.Cmp.TheVariants.{Eq, Ne, Ult}
use Rattle.ir_core.specs.declared.flat.CastOp.TheVariants.{Zext}
use Rattle.ir_core.specs.declared.ty.IrType.{IrType, Void, Int, Ptr}
use Rattle.ir_core.specs.declared.module.Declaration.{Declaration}
use Rattle.ir_core.specs.declared.module.Module.{Module}
use Rattle.ir_core.specs.declared.constant.Const.{Const}
use Rattle.ir_core.specs.declared.constant.Const as consts
use Rattle.ir_core.specs.declared.op.Operand.{Operand}
use Rattle.ir_core.specs.declared.op.Operand.TheVariants as operands
use Rattle.ir_core.specs.declared.op.TypedOperand.{TypedOperand}
use Rattle.ir_core.specs.declared.op.Pair.{Pair}
use Rattle.ir_core.specs.declared.op.Op.{Op}
use Rattle.ir_core.specs.declared.op.Op.TheVariants as ops
use Rattle.ir_core.specs.declared.op.End.{End}
use Rattle.ir_core.specs.declared.op.End.TheVariants as ends
use Rattle.ir_core.specs.declared.func.Instr.{Instr}
use Rattle.ir_core.specs.declared.func.Block.{Block}
use Rattle.ir_core.specs.declared.func.Param.{Param}
use Rattle.ir_core.specs.declared.func.Func.{Func}
use Rattle.ir_core.specs.Source.{src}

-- ---- modules; places play no part in a run

abbrev pub here : Place
here = record { line = 1; column = 1 }

abbrev pub word : IrType
word = Int W32

abbrev pub byte : IrType
byte = Int W8

abbrev pub reg : ℕ → Operand
reg n = operands.Local (record { 0 = n })

abbrev pub constant : Const → Operand
constant c = operands.Const c

abbrev pub number : ℕ → Operand
number n = constant (consts.Int (pos n))

abbrev pub minus : ℕ → Operand
minus n = constant (consts.Int (negsuc (n - 1)))

abbrev pub the : IrType → Operand → TypedOperand
the t v = record { ty = t; value = v }

abbrev pub sets : ℕ → Op → Instr
sets n op = record { place = here; result = Some (record { 0 = n }); op = op }

abbrev pub does : Op → Instr
does op = record { place = here; result = None; op = op }

abbrev pub block : ℕ → List Instr → End → Block
block label code end = record { place = here; label = record { 0 = label }; code = code; end = end; end_place = here }

abbrev pub returns : Operand → End
returns v = ends.Ret (Some (the word v))

abbrev pub from : ℕ → Operand → Pair
from label v = record { value = v; from = record { 0 = label } }

abbrev pub function : ℕ → IrType → List Param → List Block → Func
function name result params blocks =
    record { place = here; name = record { 0 = name }; internal = false; noinline = false; result = result; params = params; locals = []; blocks = blocks }

abbrev pub declared : ℕ → Declaration
declared name = record { place = here; name = record { 0 = name } }

-- `main`, the function `f`, the externals, and a global variable `g` of one word
abbrev pub of_blocks : List Block → List Func → Module
of_blocks blocks funcs = record {
  symbols = codes "main" ∷ codes "f" ∷ codes "putchar" ∷ codes "getchar" ∷ codes "exit" ∷ codes "g" ∷ [];
  types = record { names = []; defs = [] };
  globals = record { place = here; name = record { 0 = 5 }; internal = true; constant = false; ty = word; init = consts.Int (pos 9); align = None } ∷ [];
  funcs = function 0 word [] blocks ∷ funcs;
  declared = declared 2 ∷ declared 3 ∷ declared 4 ∷ [];
  layout = None;
  triple = None;
}

-- `main` of one block with the label 0
abbrev pub straight : List Instr → End → Module
straight code end = of_blocks (block 0 code end ∷ []) []

abbrev pub call : IrType → ℕ → List TypedOperand → Op
call t f args = ops.Call t (record { 0 = f }) args

abbrev pub load : IrType → Operand → Op
load t p = ops.Load t (the Ptr p) None

abbrev pub store : IrType → Operand → Operand → Op
store t v p = ops.Store (the t v) (the Ptr p) None

abbrev pub moved : Operand → ℕ → Op
moved p n = ops.Gep byte (the Ptr p) (the word (number n) ∷ [])

abbrev pub bin : BinOp → Operand → Operand → Op
bin op a b = ops.Bin op word a b

abbrev pub compared : Cmp → Operand → Operand → Op
compared c a b = ops.Icmp c Ptr a b

-- ---- ends

-- after n turns on an input the run stands so, with this output
abbrev pub Stands : Module → List ℕ → ℕ → Status → List ℕ → Type 0
Stands m input n status output = (d : ℕ) × (src m input n ≡ record { output = output; status = status; depth = d })

-- a main that is given this value after n instructions ends with it; its last instruction gives poison
abbrev pub EndsWith : Module → ℕ → ℕ → Type 0
EndsWith m n w = Stands m [] n (Ended w) []

-- the instructions are carried out, and then the return of what they gave is undefined
pub record IsPoison (m : Module) (n : ℕ) : Type 0 where
  pub before : Stands m [] n Going []
  pub after : Stands m [] (n + 1) Undefined []

-- a comparison of pointers, returned as a word
abbrev pub tested : List Instr → Op → Module
tested code op = straight (code ++ sets 7 op ∷ sets 8 (ops.Cast Zext (the (Int W1) (reg 7)) word) ∷ []) (returns (reg 8))

abbrev pub two_blocks : List Instr
two_blocks = sets 1 (ops.Alloca word None None) ∷ sets 2 (ops.Alloca word None None) ∷ []

abbrev pub null : Operand
null = constant consts.Null

pub record WorkedSourceRuns : Type 0 where
  -- poison
  pub a_shift_by_the_width : IsPoison (straight (sets 1 (bin Shl (number 1) (number 32)) ∷ []) (returns (reg 1))) 1
  pub an_operation_on_poison : IsPoison (straight (sets 1 (bin Add (constant consts.Poison) (number 1)) ∷ []) (returns (reg 1))) 1
  pub a_choice_by_poison : IsPoison (straight (sets 1 (ops.Select (the (Int W1) (constant consts.Poison)) (the word (number 1)) (the word (number 1))) ∷ []) (returns (reg 1))) 1
  pub a_byte_that_was_never_stored : IsPoison (straight (sets 1 (ops.Alloca word None None) ∷ sets 2 (load word (reg 1)) ∷ []) (returns (reg 2))) 2
  pub a_pointers_part_as_a_number : IsPoison (straight (sets 1 (ops.Alloca Ptr None None) ∷ does (store Ptr (reg 1) (reg 1)) ∷ sets 2 (load word (reg 1)) ∷ []) (returns (reg 2))) 3
  pub undef_is_zero : EndsWith (straight (sets 1 (bin Add (constant consts.Undef) (number 1)) ∷ []) (returns (reg 1))) 2 1
  -- divisions
  pub by_zero : Stands (straight (sets 1 (bin Udiv (number 1) (number 0)) ∷ []) (returns (number 0))) [] 1 Undefined []
  pub the_least_by_minus_one : Stands (straight (sets 1 (bin Sdiv (number 2147483648) (minus 1)) ∷ []) (returns (number 0))) [] 1 Undefined []
  pub poison_by_one : IsPoison (straight (sets 1 (bin Udiv (constant consts.Poison) (number 1)) ∷ []) (returns (reg 1))) 1
  pub poison_by_minus_one : Stands (straight (sets 1 (bin Sdiv (constant consts.Poison) (minus 1)) ∷ []) (returns (number 0))) [] 1 Undefined []
  -- pointers in memory
  pub a_stored_pointer : EndsWith (straight (sets 1 (ops.Alloca word None None) ∷ sets 2 (ops.Alloca Ptr None None) ∷ does (store Ptr (reg 1) (reg 2)) ∷ sets 3 (load Ptr (reg 2)) ∷ does (store word (number 5) (reg 3)) ∷ sets 4 (load word (reg 1)) ∷ []) (returns (reg 4))) 7 5
  pub a_pointer_with_a_part_written_over : Stands (straight (sets 1 (ops.Alloca Ptr None None) ∷ does (store Ptr (reg 1) (reg 1)) ∷ does (store byte (number 0) (reg 1)) ∷ sets 2 (load Ptr (reg 1)) ∷ sets 3 (load Ptr (reg 2)) ∷ []) (returns (number 0))) [] 5 Undefined []
  pub four_zero_bytes_are_null : EndsWith (tested (sets 1 (ops.Alloca Ptr None None) ∷ does (store word (number 0) (reg 1)) ∷ sets 2 (load Ptr (reg 1)) ∷ []) (compared Eq (reg 2) null)) 6 1
  pub a_global_variable : EndsWith (straight (sets 1 (load word (constant (consts.Address (record { 0 = 5 })))) ∷ []) (returns (reg 1))) 2 9
  pub beyond_the_block : Stands (straight (sets 1 (ops.Alloca word None None) ∷ sets 2 (moved (reg 1) 4) ∷ sets 3 (load word (reg 2)) ∷ []) (returns (number 0))) [] 3 Undefined []
  pub misaligned : Stands (straight (sets 1 (ops.Alloca (Int W32) (Some (record { ty = word; count = pos 2 })) None) ∷ sets 2 (moved (reg 1) 2) ∷ sets 3 (load word (reg 2)) ∷ []) (returns (number 0))) [] 3 Undefined []
  -- comparisons of pointers
  pub equal_in_one_block : EndsWith (tested two_blocks (compared Eq (reg 1) (reg 1))) 5 1
  pub apart_in_two_blocks : EndsWith (tested two_blocks (compared Ne (reg 1) (reg 2))) 5 1
  pub null_is_null : EndsWith (tested [] (compared Eq null null)) 3 1
  pub a_block_is_not_null : EndsWith (tested two_blocks (compared Eq (reg 1) null)) 5 0
  pub an_end_and_a_start : IsPoison (tested (two_blocks ++ sets 3 (moved (reg 1) 4) ∷ []) (compared Eq (reg 3) (reg 2))) 5
  pub in_order_in_one_block : EndsWith (tested (two_blocks ++ sets 3 (moved (reg 1) 4) ∷ []) (compared Ult (reg 1) (reg 3))) 6 1
  pub no_order_in_two_blocks : IsPoison (tested two_blocks (compared Ult (reg 1) (reg 2))) 4
  pub null_moved_is_poison : IsPoison (tested (sets 3 (moved null 4) ∷ []) (compared Eq (reg 3) null)) 3
  -- calls
  pub a_call_and_a_return : EndsWith (of_blocks (block 0 (sets 1 (call word 1 (the word (number 6) ∷ [])) ∷ []) (returns (reg 1)) ∷ []) (function 1 word (record { ty = word; name = record { 0 = 0 } } ∷ []) (block 1 (sets 2 (bin Add (reg 0) (number 1)) ∷ []) (returns (reg 2)) ∷ []) ∷ [])) 4 7
  pub one_turn_less : src (of_blocks (block 0 (sets 1 (call word 1 (the word (number 6) ∷ [])) ∷ []) (returns (reg 1)) ∷ []) (function 1 word (record { ty = word; name = record { 0 = 0 } } ∷ []) (block 1 (sets 2 (bin Add (reg 0) (number 1)) ∷ []) (returns (reg 2)) ∷ []) ∷ [])) [] 2 ≡ record { output = []; status = Going; depth = 2 }
  pub a_dead_block : Stands (of_blocks (block 0 (sets 1 (call Ptr 1 []) ∷ sets 2 (load word (reg 1)) ∷ []) (returns (number 0)) ∷ []) (function 1 Ptr [] (block 1 (sets 2 (ops.Alloca word None None) ∷ []) (ends.Ret (Some (the Ptr (reg 2)))) ∷ []) ∷ [])) [] 4 Undefined []
  pub an_exit_in_a_call : EndsWith (of_blocks (block 0 (does (call Void 1 []) ∷ []) (returns (number 0)) ∷ []) (function 1 Void [] (block 1 (does (call Void 4 (the word (number 3) ∷ [])) ∷ []) (ends.Ret None) ∷ []) ∷ [])) 2 3
  pub a_byte_through : Stands (straight (sets 1 (call word 3 []) ∷ sets 2 (call word 2 (the word (reg 1) ∷ [])) ∷ []) (returns (reg 2))) (104 ∷ []) 3 (Ended 104) (104 ∷ [])
  pub the_inputs_end : Stands (straight (sets 1 (call word 3 []) ∷ []) (returns (reg 1))) [] 2 (Ended 4294967295) []
  -- branches: three rounds in which two phis swap their values
  pub a_loop : EndsWith (of_blocks
      (block 0 [] (ends.Br (record { 0 = 1 }))
      ∷ block 1
      (sets 3 (ops.Phi word (from 0 (number 1) ∷ from 1 (reg 4) ∷ []))
      ∷ sets 4 (ops.Phi word (from 0 (number 2) ∷ from 1 (reg 3) ∷ []))
      ∷ sets 5 (ops.Phi word (from 0 (number 0) ∷ from 1 (reg 6) ∷ []))
      ∷ sets 6 (bin Add (reg 5) (number 1)) ∷ sets 7 (ops.Icmp Eq word (reg 6) (number 3)) ∷ [])
      (ends.Cond (the (Int W1) (reg 7)) (record { 0 = 2 }) (record { 0 = 1 }))
      ∷ block 2 [] (returns (reg 3)) ∷ []) []) 11 1
  pub no_way_on : Stands (straight [] ends.Unreachable) [] 1 Undefined []
  pub a_branch_on_poison : Stands (of_blocks (block 0 [] (ends.Cond (the (Int W1) (constant consts.Poison)) (record { 0 = 1 }) (record { 0 = 1 })) ∷ block 1 [] (returns (number 0)) ∷ []) []) [] 1 Undefined []
