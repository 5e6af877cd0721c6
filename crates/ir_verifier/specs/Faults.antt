-- For each rule of functions, the places at which it is broken, as lists in text order.
use Rattle.std.specs.Prelude.{ℕ, nat_eq, ℤ, Bool, true, false, not, ◌&&◌, ◌||◌, List, [], ◌∷◌, ◌++◌, map, fold, Option, Some, None, slice_get}
use Rattle.std.specs.List.{flat_map, list_any, list_all}
use Rattle.oi_base.specs.declared.ids.Place.{Place}
use Rattle.oi_base.specs.Words.{modulus, word_of}
use Rattle.ir_core.specs.declared.ty.IrType.{IrType, Int}
use Rattle.ir_core.specs.declared.constant.Const.{Const}
use Rattle.ir_core.specs.declared.constant.Const as consts
use Rattle.ir_core.specs.declared.op.LocalId.{LocalId}
use Rattle.ir_core.specs.declared.op.Operand.{Operand}
use Rattle.ir_core.specs.declared.op.Operand.TheVariants as operands
use Rattle.ir_core.specs.declared.op.TypedOperand.{TypedOperand}
use Rattle.ir_core.specs.declared.op.Op.{Op}
use Rattle.ir_core.specs.declared.op.Op.TheVariants.{Alloca, Phi}
use Rattle.ir_core.specs.declared.op.SwitchCase.{SwitchCase}
use Rattle.ir_core.specs.declared.op.End.TheVariants.{Switch}
use Rattle.ir_core.specs.Words.{bit}
use Rattle.ir_core.specs.declared.op.End.{End}
use Rattle.ir_core.specs.declared.func.Instr.{Instr}
use Rattle.ir_core.specs.declared.func.Block.{Block}
use Rattle.ir_core.specs.declared.func.Func.{Func}
use Rattle.ir_core.specs.declared.func.Param.{Param}
use Rattle.ir_core.specs.declared.module.Module.{Module}
use Rattle.ir_core.specs.Parts.{targets, op_labels}
use Rattle.ir_core.specs.ValidFunc.{LocalAt}
use Rattle.ir_core.specs.Types.{is_bit, is_pointer}
use Rattle.module_rules.specs.Faults.{place_if, is_local, step_faults, fits_type, count_fits, with_number, with_numbers, numbers_of, global_numbers}
use Rattle.module_rules.specs.First.{earliest}
use Rattle.ir_core.specs.Operands.{Step, Does, Ends, op_operands, end_operands}

-- ---- the entry block

abbrev pub names_entry : LocalId → Block → Bool
names_entry entry b = list_any (is_local entry) (targets b.end)

abbrev pub entry_fault : LocalId → Block → List Place
entry_fault entry b = place_if (names_entry entry b) b.end_place

abbrev pub entry_faults : Func → List Place
entry_faults f = of_entry (slice_get f.blocks 0)
  where
    of_entry : Option Block → List Place
    of_entry None = []
    of_entry (Some b) = flat_map (entry_fault b.label) f.blocks

-- ---- constants

abbrev pub const_fits : IrType → Const → Bool
const_fits t (consts.Int n) = fits_type t n
const_fits t (consts.Bool b) = is_bit t
const_fits t consts.Null = is_pointer t
const_fits t (consts.Gep source s is) = list_all count_fits is
const_fits t _ = true

abbrev pub value_fits : IrType → Operand → Bool
value_fits t (operands.Local x) = true
value_fits t (operands.Const c) = const_fits t c

abbrev pub operand_fits : TypedOperand → Bool
operand_fits a = value_fits a.ty a.value

abbrev pub op_count_fits : Op → Bool
op_count_fits (Alloca t (Some n) align) = count_fits n
op_count_fits _ = true

abbrev pub op_fits : Op → Bool
op_fits op = list_all operand_fits (op_operands op) && op_count_fits op

abbrev pub end_fits : End → Bool
end_fits e = list_all operand_fits (end_operands e)

abbrev pub step_fits : Step → Bool
step_fits (Does i) = op_fits i.op
step_fits (Ends b) = end_fits b.end

abbrev pub constant_faults : Func → List Place
constant_faults f = step_faults (λ (s : Step). not (step_fits s)) f

-- ---- switches

-- the word that a constant is
abbrev pub number_word : IrType → ℤ → Option ℕ
number_word (Int w) n = Some (word_of (modulus w) n)
number_word _ n = None

abbrev pub zero_word : IrType → Option ℕ
zero_word (Int w) = Some 0
zero_word _ = None

abbrev pub const_word : IrType → Const → Option ℕ
const_word t (consts.Int n) = number_word t n
const_word t (consts.Bool b) = Some (bit b)
const_word t consts.Undef = zero_word t
const_word t _ = None

abbrev pub word_value : IrType → Operand → Option ℕ
word_value t (operands.Local x) = None
word_value t (operands.Const c) = const_word t c

abbrev pub is_new_word : List ℕ → Option ℕ → Bool
is_new_word words None = false
is_new_word words (Some a) = not (list_any (nat_eq a) words)

abbrev pub with_word : List ℕ → Option ℕ → List ℕ
with_word words None = words
with_word words (Some a) = with_number words a

-- the case is a word that is none of these, and they with it
abbrev pub is_new_case : List ℕ → SwitchCase → Bool
is_new_case words c = is_new_word words (word_value c.value.ty c.value.value)

abbrev pub with_case : List ℕ → SwitchCase → List ℕ
with_case words c = with_word words (word_value c.value.ty c.value.value)

abbrev pub are_good_cases : List ℕ → List SwitchCase → Bool
are_good_cases words [] = true
are_good_cases words (c ∷ cs) = is_new_case words c && are_good_cases (with_case words c) cs

abbrev pub has_good_cases : End → Bool
has_good_cases (Switch a other cases) = are_good_cases [] cases
has_good_cases _ = true

abbrev pub case_fault : Block → List Place
case_fault b = place_if (not (has_good_cases b.end)) b.end_place

abbrev pub case_faults : Func → List Place
case_faults f = flat_map case_fault f.blocks

-- ---- positions

abbrev pub is_phi : Op → Bool
is_phi (Phi t es) = true
is_phi _ = false

abbrev pub is_alloca : Op → Bool
is_alloca (Alloca t count align) = true
is_alloca _ = false

-- an instruction in the entry block or in another, after something that is no phi or not
abbrev pub is_misplaced : (entry late : Bool) → Op → Bool
is_misplaced entry late op = is_phi op && late || is_alloca op && not entry

abbrev pub code_faults : (entry late : Bool) → List Instr → List Place
code_faults entry late [] = []
code_faults entry late (i ∷ is) = place_if (is_misplaced entry late i.op) i.place ++ code_faults entry (late || not (is_phi i.op)) is

abbrev pub position_fault : (entry : Bool) → Block → List Place
position_fault entry b = code_faults entry false b.code

abbrev pub position_faults_from : (entry : Bool) → List Block → List Place
position_faults_from entry [] = []
position_faults_from entry (b ∷ bs) = position_fault entry b ++ position_faults_from false bs

abbrev pub position_faults : Func → List Place
position_faults f = position_faults_from true f.blocks

-- ---- references

abbrev pub param_number : Param → ℕ
param_number q = q.name.0

abbrev pub result_number : Instr → List ℕ
result_number i = of_result i.result
  where
    of_result : Option LocalId → List ℕ
    of_result None = []
    of_result (Some x) = x.0 ∷ []

abbrev pub block_results : Block → List ℕ
block_results b = flat_map result_number b.code

-- the parameters and registers, the labels, and the global variables
abbrev pub value_numbers : Func → List ℕ
value_numbers f = with_numbers (numbers_of (map param_number f.params)) (flat_map block_results f.blocks)

abbrev pub label_number : Block → ℕ
label_number b = b.label.0

abbrev pub label_numbers : Func → List ℕ
label_numbers f = numbers_of (map label_number f.blocks)

-- what may be named
pub record Scope : Type 0 where
  pub values : List ℕ
  pub labels : List ℕ
  pub globals : List ℕ

abbrev pub scope_of : Module → Func → Scope
scope_of m f = record { values = value_numbers f; labels = label_numbers f; globals = global_numbers m }

-- a constant names global variables alone; what is no operand names nothing
abbrev pub is_known_const : Scope → Const → Bool
is_known_const s (consts.Address g) = list_any (nat_eq g.0) s.globals
is_known_const s (consts.Gep t g is) = list_any (nat_eq g.0) s.globals
is_known_const s _ = true

abbrev pub is_known_value : Scope → Operand → Bool
is_known_value s (operands.Local x) = list_any (nat_eq x.0) s.values
is_known_value s (operands.Const c) = is_known_const s c

abbrev pub is_known : Scope → TypedOperand → Bool
is_known s a = is_known_value s a.value

abbrev pub is_label : Scope → LocalId → Bool
is_label s x = list_any (nat_eq x.0) s.labels

abbrev pub op_is_known : Scope → Op → Bool
op_is_known s op = list_all (is_known s) (op_operands op) && list_all (is_label s) (op_labels op)

abbrev pub end_is_known : Scope → End → Bool
end_is_known s e = list_all (is_known s) (end_operands e) && list_all (is_label s) (targets e)

abbrev pub step_is_known : Scope → Step → Bool
step_is_known s (Does i) = op_is_known s i.op
step_is_known s (Ends b) = end_is_known s b.end

abbrev pub reference_faults : Scope → Func → List Place
reference_faults s f = step_faults (λ (t : Step). not (step_is_known s t)) f

-- ---- names

-- the names so far, and the first place at which one of them stood again
pub record Introduced : Type 0 where
  pub names : List ℕ
  pub first : Option Place

abbrev pub nothing_yet : Introduced
nothing_yet = record { names = []; first = None }

abbrev pub with_local : Introduced → LocalAt → Introduced
with_local s l = record { names = with_number s.names l.name.0; first = earliest s.first (place_if (list_any (nat_eq l.name.0) s.names) l.place) }

abbrev pub with_locals : Introduced → List LocalAt → Introduced
with_locals s ls = fold with_local s ls

abbrev pub param_at : Place → Param → LocalAt
param_at p q = record { name = q.name; place = p }
