-- The words of a printed text.
use Rattle.std.specs.Prelude.{ℕ, List, codes}
use Rattle.ir_core.specs.Opcodes.{width_text, bin_text, order_text, cast_text}
use Rattle.ir_printer.specs.declared.words.Word.{Word}
use Rattle.ir_printer.specs.declared.words.Word.TheVariants as words

abbrev pub word_text : Word → List ℕ
word_text words.Align = codes "align"
word_text words.Alloca = codes "alloca"
word_text (words.Bin op) = bin_text op
word_text words.Br = codes "br"
word_text words.Call = codes "call"
word_text (words.Cast op) = cast_text op
word_text words.Constant = codes "constant"
word_text words.DataLayout = codes "datalayout"
word_text words.Declare = codes "declare"
word_text words.Define = codes "define"
word_text words.False = codes "false"
word_text words.GetElementPtr = codes "getelementptr"
word_text words.Global = codes "global"
word_text words.Icmp = codes "icmp"
word_text (words.Int w) = width_text w
word_text words.Internal = codes "internal"
word_text words.Label = codes "label"
word_text words.Load = codes "load"
word_text words.NoInline = codes "noinline"
word_text words.Null = codes "null"
word_text (words.Order c) = order_text c
word_text words.Phi = codes "phi"
word_text words.Poison = codes "poison"
word_text words.Ptr = codes "ptr"
word_text words.Ret = codes "ret"
word_text words.Select = codes "select"
word_text words.Store = codes "store"
word_text words.Switch = codes "switch"
word_text words.Target = codes "target"
word_text words.To = codes "to"
word_text words.Triple = codes "triple"
word_text words.True = codes "true"
word_text words.Type = codes "type"
word_text words.Undef = codes "undef"
word_text words.Unreachable = codes "unreachable"
word_text words.Void = codes "void"
word_text words.X = codes "x"
word_text words.ZeroInitializer = codes "zeroinitializer"
