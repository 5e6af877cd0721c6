-- The folding of constants: a sweep over the instructions in body order, phis first in a block, finds registers that hold
-- one constant in each run that comes to them; each operand with such a fact is then replaced, in all the body.
use Rattle.std.specs.Prelude.{ℕ, ◌+◌, ◌%◌, Bool, true, false, ◌&&◌, nat_eq, nat_lt, is_some, is_none, if◌then◌else◌, List, [], ◌∷◌, map, Option, Some, None}
use Rattle.std.specs.List.{fold, filter, list_all}
use Rattle.std.specs.Option.{option_map, option_and_then, unwrap_or}
use Rattle.oi_base.specs.declared.ids.RegId.{RegId}
use Rattle.oi_base.specs.declared.words.Width.{Width}
use Rattle.oi_base.specs.declared.words.Width.TheVariants.{W1}
use Rattle.oi_base.specs.Words.{bits}
use Rattle.ir_core.specs.declared.flat.Scalar.{Scalar}
use Rattle.ir_core.specs.declared.flat.Scalar.TheVariants as scalar
use Rattle.ir_core.specs.declared.flat.BinOp.{BinOp}
use Rattle.ir_core.specs.declared.flat.Cmp.{Cmp}
use Rattle.ir_core.specs.declared.flat.CastOp.{CastOp}
use Rattle.ir_core.specs.declared.flat.CastOp.TheVariants.{Zext, Sext, Trunc}
use Rattle.ir_core.specs.declared.flat.FlatOp.{FlatOp}
use Rattle.ir_core.specs.declared.flat.FlatOp.TheVariants.{Reg, Word, Null, Address, Poison}
use Rattle.ir_core.specs.declared.flat.Term.{Term}
use Rattle.ir_core.specs.declared.flat.Entry.{Entry}
use Rattle.ir_core.specs.declared.flat.Phi.{Phi}
use Rattle.ir_core.specs.declared.flat.FlatInstr.{FlatInstr}
use Rattle.ir_core.specs.declared.flat.FlatInstr.TheVariants.{Bin, Icmp, Select, Cast, Copy, Alloca, Load, Store, Gep, Call, Put, Get, Exit}
use Rattle.ir_core.specs.declared.flat.FlatBlock.{FlatBlock}
use Rattle.ir_core.specs.declared.flat.FlatBody.{FlatBody}
use Rattle.ir_core.specs.Words.{Outcome, Known, NoWord, NoMeaning, word_op, word_test, word_cast, bit}
use Rattle.ir_core.specs.Rows.{scaled}
use Rattle.ir_core.specs.Formed.{written_by}
use Rattle.const_fold.specs.Operands.{with_operands, end_with_operands, word_in, constant, same_op}

-- the constant that a register is known to hold
abbrev pub Facts : Type 0
Facts = ℕ → Option FlatOp

abbrev pub no_facts : Facts
no_facts q = None

abbrev pub with_fact : Facts → ℕ → FlatOp → Facts
with_fact facts r c q = if nat_eq q r then Some c else facts q

-- with a fact of a register, where there are both
abbrev pub noted : Facts → Option ℕ → Option FlatOp → Facts
noted facts None c = facts
noted facts (Some r) None = facts
noted facts (Some r) (Some c) = with_fact facts r c

-- an operand, or what is known of it
abbrev pub known : Facts → FlatOp → FlatOp
known facts (Reg r) = unwrap_or (facts r.0) (Reg r)
known facts (Word a) = Word a
known facts Null = Null
known facts (Address g k) = Address g k
known facts Poison = Poison

-- ---- the fact of an instruction

-- f of two words, where both are known
abbrev pub on_words : Option ℕ → Option ℕ → (ℕ → ℕ → Option FlatOp) → Option FlatOp
on_words None b f = None
on_words (Some x) None f = None
on_words (Some x) (Some y) f = f x y

-- poison and undefined behaviour are no fact
abbrev pub outcome_fact : Outcome → Option FlatOp
outcome_fact (Known a) = Some (Word a)
outcome_fact NoWord = None
outcome_fact NoMeaning = None

abbrev pub bin_fact : BinOp → Width → FlatOp → FlatOp → Option FlatOp
bin_fact op w a b = on_words (word_in w a) (word_in w b) (λ x y. outcome_fact (word_op op w x y))

-- the bit of a comparison
abbrev pub test_fact : Cmp → Scalar → FlatOp → FlatOp → Option FlatOp
test_fact c (scalar.Word w) a b = on_words (word_in w a) (word_in w b) (λ x y. Some (Word (bit (word_test c w x y))))
test_fact c scalar.Pointer a b = None

-- what a select gives where its condition is this word
abbrev pub chosen : ℕ → FlatOp → FlatOp → FlatOp
chosen z a b = if nat_eq z 0 then b else a

-- the fact of a choice on a word, where both operands are constants
abbrev pub choice_fact : Option ℕ → FlatOp → FlatOp → Option FlatOp
choice_fact None a b = None
choice_fact (Some z) a b = if is_some (constant a) && is_some (constant b) then Some (chosen z a b) else None

-- whether a conversion is between widths that it is for, as it is in a formed body
abbrev pub converts : CastOp → Width → Width → Bool
converts Zext from to = nat_lt (bits from) (bits to)
converts Sext from to = nat_lt (bits from) (bits to)
converts Trunc from to = nat_lt (bits to) (bits from)

abbrev pub converted : Bool → CastOp → Width → Width → Option ℕ → Option FlatOp
converted false c from to o = None
converted true c from to o = option_map (λ x. Word (word_cast c from to x)) o

abbrev pub cast_fact : CastOp → Width → Width → FlatOp → Option FlatOp
cast_fact c from to a = converted (converts c from to) c from to (word_in from a)

-- a constant part with a word's term added: the word, sign-extended, times the stride
abbrev pub with_term : ℕ → Term → ℕ → ℕ
with_term k t a = (k + scaled t.width t.stride a) % 4294967296

-- the sum of the constant part and terms that are words
abbrev pub summed : Facts → Option ℕ → Term → Option ℕ
summed facts k t = option_and_then (λ a. option_map (λ j. with_term j t a) k) (word_in t.width (known facts t.operand))

-- an address plus all parts
abbrev pub address_fact : FlatOp → Option ℕ → Option FlatOp
address_fact (Address g o) (Some k) = Some (Address g ((o + k) % 4294967296))
address_fact _ _ = None

-- the fact of an instruction's result, where the operands are constants or have earlier facts; pointers are not compared
abbrev pub instr_fact : Facts → FlatInstr → Option FlatOp
instr_fact facts (Bin d op w a b) = bin_fact op w (known facts a) (known facts b)
instr_fact facts (Icmp d c s a b) = test_fact c s (known facts a) (known facts b)
instr_fact facts (Select d c a b) = choice_fact (word_in W1 (known facts c)) (known facts a) (known facts b)
instr_fact facts (Cast d c from to a) = cast_fact c from to (known facts a)
instr_fact facts (Copy d a) = constant (known facts a)
instr_fact facts (Gep d a k ts) = address_fact (known facts a) (fold (summed facts) (Some k) ts)
instr_fact facts (Alloca d size align) = None
instr_fact facts (Load d s align a) = None
instr_fact facts (Store s align v a) = None
instr_fact facts (Call d f args) = None
instr_fact facts (Put d a) = None
instr_fact facts (Get d) = None
instr_fact facts (Exit a) = None

-- one constant that all entries are, of which there is one at least
abbrev pub entries_fact : Facts → List Entry → Option FlatOp
entries_fact facts [] = None
entries_fact facts (e ∷ es) =
    option_and_then (λ c. if list_all (λ (x : Entry). same_op (known facts x.value) c) es then Some c else None) (constant (known facts e.value))

-- ---- the sweep

abbrev pub phi_noted : Facts → Phi → Facts
phi_noted facts f = noted facts (Some f.reg.0) (entries_fact facts f.entries)

abbrev pub instr_noted : Facts → FlatInstr → Facts
instr_noted facts i = noted facts (written_by i) (instr_fact facts i)

abbrev pub block_noted : Facts → FlatBlock → Facts
block_noted facts b = fold instr_noted (fold phi_noted facts b.phis) b.code

abbrev pub all_facts : FlatBody → Facts
all_facts body = fold block_noted no_facts body.blocks

-- ---- what is written instead

-- whether a term's operand is no word
abbrev pub is_variable : Term → Bool
is_variable t = is_none (word_in t.width t.operand)

-- a constant part with a term added, where it is a word's
abbrev pub with_word : ℕ → Term → ℕ
with_word k t = unwrap_or (option_map (with_term k t) (word_in t.width t.operand)) k

-- an address without terms and with constant part 0 is a copy of its base
abbrev pub address_of : RegId → FlatOp → ℕ → List Term → FlatInstr
address_of d a k [] = if nat_eq k 0 then Copy d a else Gep d a k []
address_of d a k (t ∷ ts) = Gep d a k (t ∷ ts)

-- a select on a word is a copy of the chosen operand
abbrev pub choice_of : RegId → Option ℕ → FlatOp → FlatOp → FlatOp → FlatInstr
choice_of d None c a b = Select d c a b
choice_of d (Some z) c a b = Copy d (chosen z a b)

-- an instruction in short form: words among the terms are in the constant part, and what gives an operand unchanged is a copy
abbrev pub shortened : FlatInstr → FlatInstr
shortened (Bin d op w a b) = Bin d op w a b
shortened (Icmp d c s a b) = Icmp d c s a b
shortened (Select d c a b) = choice_of d (word_in W1 c) c a b
shortened (Cast d c from to a) = Cast d c from to a
shortened (Copy d a) = Copy d a
shortened (Alloca d size align) = Alloca d size align
shortened (Load d s align a) = Load d s align a
shortened (Store s align v a) = Store s align v a
shortened (Gep d a k ts) = address_of d a (fold with_word k ts) (filter is_variable ts)
shortened (Call d f args) = Call d f args
shortened (Put d a) = Put d a
shortened (Get d) = Get d
shortened (Exit a) = Exit a

abbrev pub entry_with : Facts → Entry → Entry
entry_with facts e = record e { value = known facts e.value }

abbrev pub phi_with : Facts → Phi → Phi
phi_with facts f = record f { entries = map (entry_with facts) f.entries }

abbrev pub instr_with : Facts → FlatInstr → FlatInstr
instr_with facts i = shortened (with_operands (known facts) i)

abbrev pub block_with : Facts → FlatBlock → FlatBlock
block_with facts b = record {
  phis = map (phi_with facts) b.phis;
  code = map (instr_with facts) b.code;
  end = end_with_operands (known facts) b.end;
}

abbrev pub body_with : Facts → FlatBody → FlatBody
body_with facts body = record body { blocks = map (block_with facts) body.blocks }

-- the body with its constants folded
unfoldable pub constants_folded : FlatBody → FlatBody
constants_folded body = body_with (all_facts body) body
