-- Rows and runs worked out on examples.
use Rattle.std.proofs.Common.{◌≡◌, [], ◌∷◌, Some, None, refl}
use Rattle.oi_base.specs.declared.words.Width.TheVariants.{W1, W8, W16, W32}
use Rattle.ir_core.specs.declared.flat.BinOp.TheVariants.{Udiv, Sdiv, Srem, Shl, Ashr, Sub}
use Rattle.ir_core.specs.declared.flat.Cmp.TheVariants.{Eq, Ne, Ult}
use Rattle.ir_core.specs.declared.flat.CastOp.TheVariants.{Sext}
use Rattle.ir_core.specs.declared.flat.Scalar.TheVariants.{Word, Pointer}
use Rattle.ir_core.specs.declared.flat.FlatOp.TheVariants as operand
use Rattle.ir_core.specs.declared.flat.FlatInstr.TheVariants as instr
use Rattle.ir_core.specs.declared.flat.FlatEnd.TheVariants as ends
use Rattle.ir_core.specs.declared.flat.FlatBody.{FlatBody}
use Rattle.ir_core.specs.Words.{Known, NoWord, NoMeaning, word_op, word_cast}
use Rattle.ir_core.specs.Memory.{Bits, At, NullPointer, Poisoned, Unset, Octet, PartOf, loaded, load, fresh}
use Rattle.ir_core.specs.Rows.{Gives, NoGood, bin, icmp, moved, scaled}
use Rattle.oi_base.specs.Follows.{Going, Ended}
use Rattle.ir_core.specs.Flat.{Program, NoValue, effect, flat_step, flat_run}
use Rattle.ir_core.specs.Flat as flat

least_by_minus_one : word_op Sdiv W32 2147483648 4294967295 ≡ NoMeaning
least_by_minus_one = refl

shift_by_width : word_op Shl W32 1 32 ≡ NoWord
shift_by_width = refl

wraps_below_zero : word_op Sub W8 3 5 ≡ Known 254
wraps_below_zero = refl

-- -7 and 2 in 8 bits: the quotient is rounded towards zero
signed_quotient : word_op Sdiv W8 249 2 ≡ Known 253
signed_quotient = refl

signed_remainder : word_op Srem W8 249 2 ≡ Known 255
signed_remainder = refl

sign_copied : word_op Ashr W8 128 7 ≡ Known 255
sign_copied = refl

sign_extended : word_cast Sext W8 W32 128 ≡ 4294967168
sign_extended = refl

poison_by_one : bin Udiv W32 Poisoned (Bits 1) ≡ Gives Poisoned
poison_by_one = refl

poison_by_zero : bin Udiv W32 Poisoned (Bits 0) ≡ NoGood
poison_by_zero = refl

poison_by_minus_one : bin Sdiv W32 Poisoned (Bits 4294967295) ≡ NoGood
poison_by_minus_one = refl

one_by_poison : bin Udiv W32 (Bits 1) Poisoned ≡ NoGood
one_by_poison = refl

little_endian : loaded (Word W16) (Octet 52 ∷ Octet 18 ∷ []) ≡ Bits 4660
little_endian = refl

no_bit : loaded (Word W1) (Octet 2 ∷ []) ≡ Poisoned
no_bit = refl

zeros_are_null : loaded Pointer (Octet 0 ∷ Octet 0 ∷ Octet 0 ∷ Octet 0 ∷ []) ≡ NullPointer
zeros_are_null = refl

unset_is_poison : loaded Pointer (Octet 0 ∷ Octet 0 ∷ Octet 0 ∷ Unset ∷ []) ≡ Poisoned
unset_is_poison = refl

parts_in_order : loaded Pointer (PartOf 3 8 0 ∷ PartOf 3 8 1 ∷ PartOf 3 8 2 ∷ PartOf 3 8 3 ∷ []) ≡ At 3 8
parts_in_order = refl

parts_of_a_word : loaded (Word W32) (PartOf 3 8 0 ∷ PartOf 3 8 1 ∷ PartOf 3 8 2 ∷ PartOf 3 8 3 ∷ []) ≡ Poisoned
parts_of_a_word = refl

null_round_about : moved NullPointer 4294967296 ≡ Gives NullPointer
null_round_about = refl

null_moved : moved NullPointer 4 ≡ Gives Poisoned
null_moved = refl

back_by_four : moved (At 0 4) (scaled W8 4 255) ≡ Gives (At 0 0)
back_by_four = refl

are_apart : icmp (fresh 4 4 ∷ fresh 4 4 ∷ []) Eq Pointer (At 0 0) (At 1 0) ≡ Gives (Bits 0)
are_apart = refl

-- one after its block may be the other block's start
end_and_start : icmp (fresh 4 4 ∷ fresh 4 4 ∷ []) Ne Pointer (At 0 4) (At 1 0) ≡ Gives Poisoned
end_and_start = refl

in_order : icmp (fresh 4 4 ∷ []) Ult Pointer (At 0 0) (At 0 4) ≡ Gives (Bits 1)
in_order = refl

-- the block's own alignment counts
misaligned : load (fresh 4 1 ∷ []) (Word W32) 4 (At 0 0) ≡ None
misaligned = refl

beyond : load (fresh 4 4 ∷ []) (Word W32) 4 (At 0 4) ≡ None
beyond = refl

-- an address is asked for, so a word in its place is a value of another type, while null is undefined
through_a_word : effect (λ r. None) [] (instr.Load (record { 0 = 0 }) (Word W32) 4 (operand.Word 65536)) ≡ NoValue
through_a_word = refl

through_null : effect (λ r. None) [] (instr.Load (record { 0 = 0 }) (Word W32) 4 operand.Null) ≡ flat.NoMeaning
through_null = refl

onto_a_word : effect (λ r. None) [] (instr.Store Pointer 4 operand.Null (operand.Word 65536)) ≡ NoValue
onto_a_word = refl

abbrev a_byte_through : FlatBody
a_byte_through = record {
  params = 0;
  regs = 2;
  blocks = record {
    phis = [];
    code = instr.Get (Some (record { 0 = 0 })) ∷ instr.Put (Some (record { 0 = 1 })) (operand.Reg (record { 0 = 0 })) ∷ [];
    end = ends.Ret (Some (operand.Reg (record { 0 = 1 })));
  } ∷ [];
}

abbrev program : Program
program = record { globals = []; body = λ f. Some a_byte_through; main = 0 }

before_the_end : flat_run program (104 ∷ []) 2 ≡ record { output = 104 ∷ []; status = Going; depth = 1 }
unfolding flat_step
before_the_end = refl

at_the_end : flat_run program (104 ∷ []) 3 ≡ record { output = 104 ∷ []; status = Ended 104; depth = 1 }
unfolding flat_step
at_the_end = refl

-- the end of the input is no byte: its low one is put and given back
no_input : flat_run program [] 3 ≡ record { output = 255 ∷ []; status = Ended 255; depth = 1 }
unfolding flat_step
no_input = refl
