-- A constant's meaning is a word exactly where the constant is that word.
use Rattle.std.proofs.Common.{◌≡◌, ℕ, List, Option, Some, None}
use Rattle.oi_base.specs.Words.{modulus, word_of}
use Rattle.ir_core.specs.declared.ty.TypeDef.{TypeDef}
use Rattle.ir_core.specs.declared.ty.IrType.{IrType, Void, Int, Ptr, Array', Struct', Named}
use Rattle.ir_core.specs.declared.constant.Const.{Const}
use Rattle.ir_core.specs.declared.constant.Const as consts
use Rattle.ir_core.specs.declared.op.Operand.{Operand}
use Rattle.ir_core.specs.declared.op.Operand.TheVariants as operands
use Rattle.ir_core.specs.Words.{bit}
use Rattle.ir_core.specs.ValidConsts.{Meaning, IsWord, meaning}
use Rattle.ir_verifier.specs.Faults.{const_word, word_value}

-- what something means, and the word that it is
pub record Agree (m : Meaning) (o : Option ℕ) : Type 0 where
  pub means : (a : ℕ) → o ≡ Some a → m ≡ IsWord a
  pub word : (a : ℕ) → m ≡ IsWord a → o ≡ Some a

a_word : (a : ℕ) → Agree (IsWord a) (Some a)
a_word a = record { means = λ b e. cc; word = λ b e. cc }

no_word : (m : Meaning) → ((a : ℕ) → m ≡ IsWord a → ⊥) → Agree m None
no_word m other = record { means = λ a e. absurd (let clash : None ≡ Some a = e in cc); word = λ a e. absurd (other a e) }

module _ (defs : List TypeDef) where
  const_agrees : (t : IrType) (c : Const) → Agree (meaning defs t (operands.Const c)) (const_word t c)
  const_agrees (Int w) (consts.Int n) = a_word (word_of (modulus w) n)
  const_agrees (Int w) (consts.Bool b) = a_word (bit b)
  const_agrees (Int w) consts.Undef = a_word 0
  const_agrees (Int w) consts.Null = no_word _ (λ a e. cc)
  const_agrees (Int w) consts.Poison = no_word _ (λ a e. cc)
  const_agrees (Int w) consts.Zero = no_word _ (λ a e. cc)
  const_agrees (Int w) (consts.Bytes bs) = no_word _ (λ a e. cc)
  const_agrees (Int w) (consts.Address s) = no_word _ (λ a e. cc)
  const_agrees (Int w) (consts.Gep source s is) = no_word _ (λ a e. cc)
  const_agrees (Int w) (consts.Array' l items) = no_word _ (λ a e. cc)
  const_agrees (Int w) (consts.Struct' l fields) = no_word _ (λ a e. cc)
  const_agrees Void (consts.Int n) = no_word _ (λ a e. cc)
  const_agrees Void (consts.Bool b) = a_word (bit b)
  const_agrees Void consts.Undef = no_word _ (λ a e. cc)
  const_agrees Void consts.Null = no_word _ (λ a e. cc)
  const_agrees Void consts.Poison = no_word _ (λ a e. cc)
  const_agrees Void consts.Zero = no_word _ (λ a e. cc)
  const_agrees Void (consts.Bytes bs) = no_word _ (λ a e. cc)
  const_agrees Void (consts.Address s) = no_word _ (λ a e. cc)
  const_agrees Void (consts.Gep source s is) = no_word _ (λ a e. cc)
  const_agrees Void (consts.Array' l items) = no_word _ (λ a e. cc)
  const_agrees Void (consts.Struct' l fields) = no_word _ (λ a e. cc)
  const_agrees Ptr (consts.Int n) = no_word _ (λ a e. cc)
  const_agrees Ptr (consts.Bool b) = a_word (bit b)
  const_agrees Ptr consts.Undef = no_word _ (λ a e. cc)
  const_agrees Ptr consts.Null = no_word _ (λ a e. cc)
  const_agrees Ptr consts.Poison = no_word _ (λ a e. cc)
  const_agrees Ptr consts.Zero = no_word _ (λ a e. cc)
  const_agrees Ptr (consts.Bytes bs) = no_word _ (λ a e. cc)
  const_agrees Ptr (consts.Address s) = no_word _ (λ a e. cc)
  const_agrees Ptr (consts.Gep source s is) = no_word _ (λ a e. cc)
  const_agrees Ptr (consts.Array' l items) = no_word _ (λ a e. cc)
  const_agrees Ptr (consts.Struct' l fields) = no_word _ (λ a e. cc)
  const_agrees (Array' k m ts) (consts.Int n) = no_word _ (λ a e. cc)
  const_agrees (Array' k m ts) (consts.Bool b) = a_word (bit b)
  const_agrees (Array' k m ts) consts.Undef = no_word _ (λ a e. cc)
  const_agrees (Array' k m ts) consts.Null = no_word _ (λ a e. cc)
  const_agrees (Array' k m ts) consts.Poison = no_word _ (λ a e. cc)
  const_agrees (Array' k m ts) consts.Zero = no_word _ (λ a e. cc)
  const_agrees (Array' k m ts) (consts.Bytes bs) = no_word _ (λ a e. cc)
  const_agrees (Array' k m ts) (consts.Address s) = no_word _ (λ a e. cc)
  const_agrees (Array' k m ts) (consts.Gep source s is) = no_word _ (λ a e. cc)
  const_agrees (Array' k m ts) (consts.Array' l items) = no_word _ (λ a e. cc)
  const_agrees (Array' k m ts) (consts.Struct' l fields) = no_word _ (λ a e. cc)
  const_agrees (Struct' m ts) (consts.Int n) = no_word _ (λ a e. cc)
  const_agrees (Struct' m ts) (consts.Bool b) = a_word (bit b)
  const_agrees (Struct' m ts) consts.Undef = no_word _ (λ a e. cc)
  const_agrees (Struct' m ts) consts.Null = no_word _ (λ a e. cc)
  const_agrees (Struct' m ts) consts.Poison = no_word _ (λ a e. cc)
  const_agrees (Struct' m ts) consts.Zero = no_word _ (λ a e. cc)
  const_agrees (Struct' m ts) (consts.Bytes bs) = no_word _ (λ a e. cc)
  const_agrees (Struct' m ts) (consts.Address s) = no_word _ (λ a e. cc)
  const_agrees (Struct' m ts) (consts.Gep source s is) = no_word _ (λ a e. cc)
  const_agrees (Struct' m ts) (consts.Array' l items) = no_word _ (λ a e. cc)
  const_agrees (Struct' m ts) (consts.Struct' l fields) = no_word _ (λ a e. cc)
  const_agrees (Named x) (consts.Int n) = no_word _ (λ a e. cc)
  const_agrees (Named x) (consts.Bool b) = a_word (bit b)
  const_agrees (Named x) consts.Undef = no_word _ (λ a e. cc)
  const_agrees (Named x) consts.Null = no_word _ (λ a e. cc)
  const_agrees (Named x) consts.Poison = no_word _ (λ a e. cc)
  const_agrees (Named x) consts.Zero = no_word _ (λ a e. cc)
  const_agrees (Named x) (consts.Bytes bs) = no_word _ (λ a e. cc)
  const_agrees (Named x) (consts.Address s) = no_word _ (λ a e. cc)
  const_agrees (Named x) (consts.Gep source s is) = no_word _ (λ a e. cc)
  const_agrees (Named x) (consts.Array' l items) = no_word _ (λ a e. cc)
  const_agrees (Named x) (consts.Struct' l fields) = no_word _ (λ a e. cc)

  pub agrees : (t : IrType) (v : Operand) → Agree (meaning defs t v) (word_value t v)
  agrees t (operands.Local x) = no_word _ (λ a e. cc)
  agrees t (operands.Const c) = const_agrees t c
