-- Words are spelled as they are printed.
use Rattle.std.proofs.Common.{◌≡◌, refl, ℕ, Bool, true, false, ◌&&◌, not, nat_lt, List, length}
use Rattle.std.specs.List.{list_all}
use Rattle.oi_base.specs.declared.words.Width.TheVariants.{W1, W8, W16, W32}
use Rattle.oi_base.specs.declared.words.Width.{Width}
use Rattle.ir_core.specs.declared.flat.BinOp.{BinOp}
use Rattle.ir_core.specs.declared.flat.BinOp.TheVariants as bins
use Rattle.ir_core.specs.declared.flat.Cmp.{Cmp}
use Rattle.ir_core.specs.declared.flat.Cmp.TheVariants as orders
use Rattle.ir_core.specs.declared.flat.CastOp.{CastOp}
use Rattle.ir_core.specs.declared.flat.CastOp.TheVariants as casts
use Rattle.ir_lexer.specs.declared.table.Token.TheVariants as tokens
use Rattle.ir_lexer.specs.Alphabet.{is_run_byte, is_int}
use Rattle.ir_lexer.specs.Spellings.{Spells}
use Rattle.ir_printer.specs.declared.words.Word.{Word}
use Rattle.ir_printer.specs.declared.words.Word.TheVariants as words
use Rattle.ir_core.specs.Opcodes.{width_text, bin_text, order_text, cast_text}
use Rattle.ir_printer.specs.Words.{word_text}
use Rattle.ir_printer.proofs.Strings.{both, less}

is_word : List ℕ → Bool
is_word bs = (nat_lt 0 (length bs) && list_all is_run_byte bs) && not (is_int bs)

no_int : (b : Bool) → not b ≡ true → b ≡ false
no_int true h = cc
no_int false h = refl

spells : (bs : List ℕ) → is_word bs ≡ true → Spells (tokens.Word bs) bs
unfolding is_word
spells bs h =
    let k = both (nat_lt 0 (length bs) && list_all is_run_byte bs) (not (is_int bs)) h in
    let l = both (nat_lt 0 (length bs)) (list_all is_run_byte bs) k.0 in
    ((less 0 (length bs) l.0, l.1), no_int (is_int bs) k.1, refl)

width_word : (w : Width) → is_word (width_text w) ≡ true
unfolding is_word is_int
width_word W1 = refl
width_word W8 = refl
width_word W16 = refl
width_word W32 = refl

bin_word : (o : BinOp) → is_word (bin_text o) ≡ true
unfolding is_word is_int
bin_word bins.Add = refl
bin_word bins.Sub = refl
bin_word bins.Mul = refl
bin_word bins.Udiv = refl
bin_word bins.Sdiv = refl
bin_word bins.Urem = refl
bin_word bins.Srem = refl
bin_word bins.Shl = refl
bin_word bins.Lshr = refl
bin_word bins.Ashr = refl
bin_word bins.And = refl
bin_word bins.Or = refl
bin_word bins.Xor = refl

order_word : (o : Cmp) → is_word (order_text o) ≡ true
unfolding is_word is_int
order_word orders.Eq = refl
order_word orders.Ne = refl
order_word orders.Ugt = refl
order_word orders.Uge = refl
order_word orders.Ult = refl
order_word orders.Ule = refl
order_word orders.Sgt = refl
order_word orders.Sge = refl
order_word orders.Slt = refl
order_word orders.Sle = refl

cast_word : (o : CastOp) → is_word (cast_text o) ≡ true
unfolding is_word is_int
cast_word casts.Zext = refl
cast_word casts.Sext = refl
cast_word casts.Trunc = refl

one_word : (w : Word) → is_word (word_text w) ≡ true
unfolding is_word is_int
one_word (words.Bin op) = bin_word op
one_word (words.Cast op) = cast_word op
one_word (words.Int w) = width_word w
one_word (words.Order c) = order_word c
one_word words.Align = refl
one_word words.Alloca = refl
one_word words.Br = refl
one_word words.Call = refl
one_word words.Constant = refl
one_word words.DataLayout = refl
one_word words.Declare = refl
one_word words.Define = refl
one_word words.False = refl
one_word words.GetElementPtr = refl
one_word words.Global = refl
one_word words.Icmp = refl
one_word words.Internal = refl
one_word words.Label = refl
one_word words.Load = refl
one_word words.NoInline = refl
one_word words.Null = refl
one_word words.Phi = refl
one_word words.Poison = refl
one_word words.Ptr = refl
one_word words.Ret = refl
one_word words.Select = refl
one_word words.Store = refl
one_word words.Switch = refl
one_word words.Target = refl
one_word words.To = refl
one_word words.Triple = refl
one_word words.True = refl
one_word words.Type = refl
one_word words.Undef = refl
one_word words.Unreachable = refl
one_word words.Void = refl
one_word words.X = refl
one_word words.ZeroInitializer = refl

pub word_spelled : (w : Word) → Spells (tokens.Word (word_text w)) (word_text w)
word_spelled w = spells (word_text w) (one_word w)
