-- The marks of each part of a module: its tokens, in the order of the text.
use Rattle.std.specs.Prelude.{ℕ, pos, Bool, true, false, List, [], ◌∷◌, ◌++◌, map, flat_map, Option, Some, None, if◌then◌else◌, codes}
use Rattle.std.specs.Str.{bytes_eq}
use Rattle.ir_core.specs.declared.ty.IrType.{IrType, Void, Int, Ptr, Array', Struct', Named, Row_of-IrType, end_of-IrType, more_of-IrType}
use Rattle.ir_core.specs.declared.ty.TypeDef.{TypeDef}
use Rattle.ir_core.specs.declared.constant.Const.{Const, Row_of-TypedConst, end_of-TypedConst, more_of-TypedConst}
use Rattle.ir_core.specs.declared.constant.Const as consts
use Rattle.ir_core.specs.declared.constant.TypedConst.{TypedConst}
use Rattle.ir_core.specs.declared.constant.TypedCount.{TypedCount}
use Rattle.ir_core.specs.declared.op.LocalId.{LocalId}
use Rattle.ir_core.specs.declared.op.Operand.{Operand}
use Rattle.ir_core.specs.declared.op.Operand.TheVariants as operands
use Rattle.ir_core.specs.declared.op.TypedOperand.{TypedOperand}
use Rattle.ir_core.specs.declared.op.Pair.{Pair}
use Rattle.ir_core.specs.declared.op.SwitchCase.{SwitchCase}
use Rattle.ir_core.specs.declared.op.Op.{Op}
use Rattle.ir_core.specs.declared.op.Op.TheVariants as ops
use Rattle.ir_core.specs.declared.op.End.{End}
use Rattle.ir_core.specs.declared.op.End.TheVariants as ends
use Rattle.ir_core.specs.declared.func.Instr.{Instr}
use Rattle.ir_core.specs.declared.func.Block.{Block}
use Rattle.ir_core.specs.declared.func.Param.{Param}
use Rattle.ir_core.specs.declared.func.Func.{Func}
use Rattle.ir_core.specs.declared.module.GlobalVar.{GlobalVar}
use Rattle.ir_core.specs.declared.module.Declaration.{Declaration}
use Rattle.oi_base.specs.declared.words.Width.TheVariants.{W32}
use Rattle.ir_printer.specs.declared.words.Word.{Word}
use Rattle.ir_printer.specs.declared.words.Word.TheVariants as words
use Rattle.ir_printer.specs.declared.marks.Sign.{Sign}
use Rattle.ir_printer.specs.declared.marks.Sign.TheVariants as signs
use Rattle.ir_printer.specs.declared.marks.Mark.{Mark}
use Rattle.ir_printer.specs.declared.marks.Mark.TheVariants as marks

abbrev pub word : Word → Mark
word w = marks.Word w

abbrev pub comma : Mark
comma = marks.Closing signs.Comma

abbrev pub equals : Mark
equals = marks.Spaced signs.Equals

-- ---- lists

abbrev pub after_comma : List Mark → List Mark
after_comma part = comma ∷ part

-- each part after a comma
abbrev pub after_commas : List (List Mark) → List Mark
after_commas parts = flat_map after_comma parts

-- parts with commas between them
abbrev pub separated : List (List Mark) → List Mark
separated [] = []
separated (part ∷ parts) = part ++ after_commas parts

-- what stands between a part and the one before it, if it is not the first
abbrev pub comma_unless : Bool → List Mark
comma_unless true = []
comma_unless false = comma ∷ []

-- a blank stands before the last sign where there is a part
abbrev pub last_sign : Sign → List (List Mark) → Mark
last_sign s [] = marks.Closing s
last_sign s (part ∷ parts) = marks.Spaced s

-- `[ a, b ]`, and `[]` where there is no part
abbrev pub bracketed : Sign → Sign → List (List Mark) → List Mark
bracketed first last parts = marks.Spaced first ∷ (separated parts ++ last_sign last parts ∷ [])

abbrev pub in_square : List (List Mark) → List Mark
in_square parts = bracketed signs.OpenSquare signs.CloseSquare parts

abbrev pub in_curly : List (List Mark) → List Mark
in_curly parts = bracketed signs.OpenCurly signs.CloseCurly parts

-- `(a, b)`, directly after what stands before
abbrev pub in_round : List (List Mark) → List Mark
in_round parts = marks.Joined signs.OpenRound ∷ (separated parts ++ marks.Closing signs.CloseRound ∷ [])

-- ---- types

-- `[4 x i8]`
abbrev pub array_marks : ℕ → List Mark → List Mark
array_marks n item = marks.Opening signs.OpenSquare ∷ marks.Int (pos n) ∷ word words.X ∷ (item ++ marks.Closing signs.CloseSquare ∷ [])

abbrev mutual
  pub type_marks : IrType → List Mark
  type_marks Void = word words.Void ∷ []
  type_marks (Int w) = word (words.Int w) ∷ []
  type_marks Ptr = word words.Ptr ∷ []
  type_marks (Array' n _ (more_of-IrType item end_of-IrType)) = array_marks n (type_marks item)
  type_marks (Struct' _ fields) = in_curly (types_marks fields)
  type_marks (Named x) = marks.TypeName x ∷ []

  pub types_marks : {m : _} → Row_of-IrType m → List (List Mark)
  types_marks end_of-IrType = []
  types_marks (more_of-IrType t ts) = type_marks t ∷ types_marks ts

-- ---- constants

abbrev pub count_marks : TypedCount → List Mark
count_marks c = type_marks c.ty ++ marks.Int c.count ∷ []

-- `getelementptr (i32, ptr @a, i32 1)`
abbrev pub gep_marks : IrType → Mark → List TypedCount → List Mark
gep_marks t address is =
    word words.GetElementPtr ∷ marks.Opening signs.OpenRound ∷ (type_marks t ++ (comma ∷ word words.Ptr ∷ address ∷
    (after_commas (map count_marks is) ++ marks.Closing signs.CloseRound ∷ [])))

abbrev pub bool_word : Bool → Word
bool_word true = words.True
bool_word false = words.False

abbrev mutual
  pub const_marks : Const → List Mark
  const_marks (consts.Int i) = marks.Int i ∷ []
  const_marks (consts.Bool b) = word (bool_word b) ∷ []
  const_marks consts.Null = word words.Null ∷ []
  const_marks consts.Undef = word words.Undef ∷ []
  const_marks consts.Poison = word words.Poison ∷ []
  const_marks consts.Zero = word words.ZeroInitializer ∷ []
  const_marks (consts.Bytes bytes) = marks.CStr bytes ∷ []
  const_marks (consts.Address s) = marks.Symbol s ∷ []
  const_marks (consts.Gep t s is) = gep_marks t (marks.Symbol s) is
  const_marks (consts.Array' _ items) = in_square (consts_marks items)
  const_marks (consts.Struct' _ fields) = in_curly (consts_marks fields)

  pub consts_marks : {m : _} → Row_of-TypedConst m → List (List Mark)
  consts_marks end_of-TypedConst = []
  consts_marks (more_of-TypedConst t c cs) = (type_marks t ++ const_marks c) ∷ consts_marks cs

-- a constant with its type
abbrev pub typed_const_marks : TypedConst → List Mark
typed_const_marks c = type_marks c.ty ++ const_marks c.value

-- ---- values

abbrev pub value_marks : Operand → List Mark
value_marks (operands.Local x) = marks.Local x ∷ []
value_marks (operands.Const c) = const_marks c

abbrev pub typed_marks : TypedOperand → List Mark
typed_marks v = type_marks v.ty ++ value_marks v.value

-- `, align 4`
abbrev pub align_marks : Option ℕ → List Mark
align_marks None = []
align_marks (Some n) = comma ∷ word words.Align ∷ marks.Int (pos n) ∷ []

-- ---- operations

-- `i32 %a, %b`
abbrev pub two_marks : IrType → Operand → Operand → List Mark
two_marks t a b = type_marks t ++ (value_marks a ++ (comma ∷ value_marks b))

abbrev pub alloca_count_marks : Option TypedCount → List Mark
alloca_count_marks None = []
alloca_count_marks (Some c) = comma ∷ count_marks c

-- `[ %v, %b ]`
abbrev pub pair_marks : Pair → List Mark
pair_marks p = marks.Spaced signs.OpenSquare ∷ (value_marks p.value ++ (comma ∷ marks.Local p.from ∷ marks.Spaced signs.CloseSquare ∷ []))

abbrev pub op_marks : Op → List Mark
op_marks (ops.Bin o t a b) = word (words.Bin o) ∷ two_marks t a b
op_marks (ops.Icmp c t a b) = word words.Icmp ∷ word (words.Order c) ∷ two_marks t a b
op_marks (ops.Select c a b) = word words.Select ∷ (typed_marks c ++ (comma ∷ (typed_marks a ++ (comma ∷ typed_marks b))))
op_marks (ops.Cast o a t) = word (words.Cast o) ∷ (typed_marks a ++ (word words.To ∷ type_marks t))
op_marks (ops.Alloca t count align) = word words.Alloca ∷ (type_marks t ++ (alloca_count_marks count ++ align_marks align))
op_marks (ops.Load t a align) = word words.Load ∷ (type_marks t ++ (comma ∷ (typed_marks a ++ align_marks align)))
op_marks (ops.Store a p align) = word words.Store ∷ (typed_marks a ++ (comma ∷ (typed_marks p ++ align_marks align)))
op_marks (ops.Gep t a is) = word words.GetElementPtr ∷ (type_marks t ++ (comma ∷ (typed_marks a ++ after_commas (map typed_marks is))))
op_marks (ops.Phi t ps) = word words.Phi ∷ (type_marks t ++ separated (map pair_marks ps))
op_marks (ops.Call t f as') = word words.Call ∷ (type_marks t ++ (marks.Symbol f ∷ in_round (map typed_marks as')))

-- `%r = `
abbrev pub result_marks : Option LocalId → List Mark
result_marks None = []
result_marks (Some r) = marks.Local r ∷ equals ∷ []

abbrev pub instr_marks : Instr → List Mark
instr_marks i = marks.Indented ∷ (result_marks i.result ++ op_marks i.op)

-- ---- terminators

-- `label %b`
abbrev pub target_marks : LocalId → List Mark
target_marks b = word words.Label ∷ marks.Local b ∷ []

-- `i32 1, label %b`
abbrev pub case_marks : SwitchCase → List Mark
case_marks c = typed_marks c.value ++ (comma ∷ target_marks c.to)

abbrev pub end_marks : End → List Mark
end_marks (ends.Ret None) = word words.Ret ∷ word words.Void ∷ []
end_marks (ends.Ret (Some v)) = word words.Ret ∷ typed_marks v
end_marks (ends.Br b) = word words.Br ∷ target_marks b
end_marks (ends.Cond c t f) = word words.Br ∷ (typed_marks c ++ (comma ∷ (target_marks t ++ (comma ∷ target_marks f))))
end_marks (ends.Switch v b cs) =
    word words.Switch ∷ (typed_marks v ++ (comma ∷ (target_marks b ++ (marks.Spaced signs.OpenSquare ∷ (flat_map case_marks cs ++ marks.Spaced signs.CloseSquare ∷ [])))))
end_marks ends.Unreachable = word words.Unreachable ∷ []

-- ---- entities

abbrev pub block_marks : Block → List Mark
block_marks b = marks.Line ∷ marks.Label b.label ∷ (flat_map instr_marks b.code ++ (marks.Indented ∷ end_marks b.end))

abbrev pub param_marks : Param → List Mark
param_marks p = type_marks p.ty ++ marks.Local p.name ∷ []

-- a word, where this is so
abbrev pub word_if : Bool → Word → List Mark
word_if true w = word w ∷ []
word_if false w = []

-- `define i32 @f(i32 %a)`
abbrev pub head_marks : Func → List Mark
head_marks f =
    word words.Define ∷ (word_if f.internal words.Internal ++ (type_marks f.result ++ (marks.Symbol f.name ∷
    (in_round (map param_marks f.params) ++ word_if f.noinline words.NoInline))))

-- ` {`, the blocks, and `}` on a line of its own
abbrev pub body_marks : List Block → List Mark
body_marks bs = marks.Spaced signs.OpenCurly ∷ (flat_map block_marks bs ++ marks.Line ∷ marks.Spaced signs.CloseCurly ∷ [])

abbrev pub func_marks : Func → List Mark
func_marks f = head_marks f ++ body_marks f.blocks

abbrev pub storage_word : Bool → Word
storage_word true = words.Constant
storage_word false = words.Global

-- `@g = global i32 0, align 4`
abbrev pub global_marks : GlobalVar → List Mark
global_marks g =
    marks.Symbol g.name ∷ equals ∷ (word_if g.internal words.Internal ++ (word (storage_word g.constant) ∷
    (type_marks g.ty ++ (const_marks g.init ++ align_marks g.align))))

-- `%t = type { i32 }`
abbrev pub type_def_marks : TypeDef → List Mark
type_def_marks d = marks.TypeName d.name ∷ equals ∷ word words.Type ∷ type_marks d.ty

-- what a declared function of this name gives, and the one value that it takes, if it takes any: `putchar`, `getchar`
-- and `exit` have C's types
abbrev pub signature : List ℕ → Word × Option Word
signature name =
    if bytes_eq name (codes "putchar") then (words.Int W32, Some (words.Int W32))
    else (if bytes_eq name (codes "getchar") then (words.Int W32, None)
    else (if bytes_eq name (codes "exit") then (words.Void, Some (words.Int W32))
    else (words.Void, None)))

abbrev pub one_or_none : Option Word → List (List Mark)
one_or_none None = []
one_or_none (Some w) = (word w ∷ []) ∷ []

-- `declare i32 @putchar(i32)`, from the function's name
abbrev pub declared_marks : List ℕ → Declaration → List Mark
declared_marks name d = word words.Declare ∷ word (signature name).0 ∷ marks.Symbol d.name ∷ in_round (one_or_none (signature name).1)

-- `target triple = "riscv32"`
abbrev pub target_line_marks : Word → List ℕ → List Mark
target_line_marks w said = word words.Target ∷ word w ∷ equals ∷ marks.Str said ∷ []
