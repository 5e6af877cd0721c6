-- Instructions and terminators with other operands in their places, and which operands are constants.
use Rattle.std.specs.Prelude.{ℕ, Bool, true, false, ◌&&◌, nat_eq, nat_lt, if◌then◌else◌, map, Option, Some, None}
use Rattle.std.specs.Option.{option_map}
use Rattle.oi_base.specs.declared.words.Width.{Width}
use Rattle.oi_base.specs.Words.{modulus}
use Rattle.ir_core.specs.declared.flat.FlatOp.{FlatOp}
use Rattle.ir_core.specs.declared.flat.FlatOp.TheVariants.{Reg, Word, Null, Address, Poison}
use Rattle.ir_core.specs.declared.flat.Term.{Term}
use Rattle.ir_core.specs.declared.flat.FlatInstr.{FlatInstr}
use Rattle.ir_core.specs.declared.flat.FlatInstr.TheVariants.{Bin, Icmp, Select, Cast, Copy, Alloca, Load, Store, Gep, Call, Put, Get, Exit}
use Rattle.ir_core.specs.declared.flat.FlatEnd.{FlatEnd}
use Rattle.ir_core.specs.declared.flat.FlatEnd.TheVariants.{Ret, Br, Cond, Switch, Unreachable}

-- a term with f applied to its operand
abbrev pub with_operand : (FlatOp → FlatOp) → Term → Term
with_operand f t = record t { operand = f t.operand }

-- an instruction with f applied to each of its operands
abbrev pub with_operands : (FlatOp → FlatOp) → FlatInstr → FlatInstr
with_operands f (Bin d op w a b) = Bin d op w (f a) (f b)
with_operands f (Icmp d c s a b) = Icmp d c s (f a) (f b)
with_operands f (Select d c a b) = Select d (f c) (f a) (f b)
with_operands f (Cast d c from to a) = Cast d c from to (f a)
with_operands f (Copy d a) = Copy d (f a)
with_operands f (Alloca d size align) = Alloca d size align
with_operands f (Load d s align a) = Load d s align (f a)
with_operands f (Store s align v a) = Store s align (f v) (f a)
with_operands f (Gep d a k ts) = Gep d (f a) k (map (with_operand f) ts)
with_operands f (Call d g args) = Call d g (map f args)
with_operands f (Put d a) = Put d (f a)
with_operands f (Get d) = Get d
with_operands f (Exit a) = Exit (f a)

-- a terminator likewise
abbrev pub end_with_operands : (FlatOp → FlatOp) → FlatEnd → FlatEnd
end_with_operands f (Ret a) = Ret (option_map f a)
end_with_operands f (Br b) = Br b
end_with_operands f (Cond c t e) = Cond (f c) t e
end_with_operands f (Switch a w cases other) = Switch (f a) w cases other
end_with_operands f Unreachable = Unreachable

-- the word that an operand is, if it is one
abbrev pub word_of_op : FlatOp → Option ℕ
word_of_op (Word a) = Some a
word_of_op (Reg r) = None
word_of_op Null = None
word_of_op (Address g k) = None
word_of_op Poison = None

-- a word, where it is one of the width
abbrev pub fitting : Width → Option ℕ → Option ℕ
fitting w None = None
fitting w (Some a) = if nat_lt a (modulus w) then Some a else None

-- the word of a width that an operand is, if it is one
abbrev pub word_in : Width → FlatOp → Option ℕ
word_in w o = fitting w (word_of_op o)

-- the operand itself, where it is a constant: a word, null, an address or poison
abbrev pub constant : FlatOp → Option FlatOp
constant (Reg r) = None
constant (Word a) = Some (Word a)
constant Null = Some Null
constant (Address g k) = Some (Address g k)
constant Poison = Some Poison

-- one operand: a word 0 and null are different ones
abbrev pub same_op : FlatOp → FlatOp → Bool
same_op (Reg r) (Reg q) = nat_eq r.0 q.0
same_op (Word a) (Word b) = nat_eq a b
same_op Null Null = true
same_op (Address g k) (Address h l) = nat_eq g h && nat_eq k l
same_op Poison Poison = true
same_op _ _ = false
