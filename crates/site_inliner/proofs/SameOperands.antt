-- Constants are the same under other numbers, and so are numbers of fields; a size times a count.
use Rattle.std.proofs.Common.{◌≡◌, ℕ, zero, suc, ◌+◌, ◌*◌, ◌<◌, ◌≤◌, ◌%◌, refl, sym, ap, ◌∙◌, subst, arith}
use Rattle.std.specs.Prelude.{min}
use Rattle.std.proofs.Math.Nat.{mul_comm, mul-suc, min-eq_left}
use Rattle.ir_core.specs.declared.limits.TheConstants.{LARGEST}
use Rattle.ir_core.specs.declared.flat.Scalar.{Scalar}
use Rattle.ir_core.specs.declared.flat.Scalar.TheVariants as scalar
use Rattle.ir_core.specs.declared.flat.FlatOp.{FlatOp}
use Rattle.ir_core.specs.declared.flat.FlatOp.TheVariants.{Reg, Word, Null, Address, Poison}
use Rattle.ir_core.specs.declared.ty.IrType.{IrType}
use Rattle.ir_core.specs.declared.constant.Const.{Const}
use Rattle.ir_core.specs.declared.constant.Const as consts
use Rattle.ir_core.specs.declared.module.Module.{Module}
use Rattle.ir_core.specs.Constants.{constant, zero_of, scalar_of, field_number}
use Rattle.ir_core.specs.Plain.{Numbers, other_operand}

zero_same : (n : Numbers) (s : Scalar) → other_operand n (zero_of s) ≡ zero_of s
zero_same n (scalar.Word w) = refl
zero_same n scalar.Pointer = refl

mod_low : (k : ℕ) → k < 4294967296 → k % 4294967296 ≡ k
mod_low k h = omega (arith, h)

mul_zero : (k : ℕ) → 0 * k ≡ 0
mul_zero k = omega arith

le_times : (s c : ℕ) → s ≤ s * suc c
le_times s c = let e = mul-suc s c in omega (arith, e)

pub constant_same : (n : Numbers) (m : Module) (t : IrType) (c : Const) → other_operand n (constant m t c) ≡ constant m t c
constant_same n m t (consts.Int z) = refl
constant_same n m t (consts.Bool b) = refl
constant_same n m t consts.Null = refl
constant_same n m t consts.Undef = zero_same n (scalar_of t)
constant_same n m t consts.Poison = refl
constant_same n m t consts.Zero = refl
constant_same n m t (consts.Bytes bs) = refl
constant_same n m t (consts.Address s) = refl
constant_same n m t (consts.Gep source s is) = refl
constant_same n m t (consts.Array' l items) = refl
constant_same n m t (consts.Struct' l items) = refl

pub same_number : (n : Numbers) (o : FlatOp) → field_number (other_operand n o) ≡ field_number o
same_number n (Reg r) = refl
same_number n (Word a) = refl
same_number n Null = refl
same_number n (Address g k) = refl
same_number n Poison = refl

-- a size that is cut off above the largest, times a count modulo 2 to the 32
pub times : (s c : ℕ) → s * c ≤ LARGEST → (min s (LARGEST + 1) * (c % 4294967296)) % 4294967296 ≡ s * c
times zero c h = ap (λ (k : ℕ). k % 4294967296) (mul_zero (c % 4294967296)) ∙ sym (mul_zero c)
times (suc s) zero h =
    ap (λ (k : ℕ). k % 4294967296) (mul_comm (min (suc s) (LARGEST + 1)) 0 ∙ mul_zero (min (suc s) (LARGEST + 1))) ∙ sym (mul_comm (suc s) 0 ∙ mul_zero (suc s))
times (suc s) (suc c) h =
    let low : suc s ≤ suc s * suc c = le_times (suc s) c in
    let few : suc c ≤ suc s * suc c = subst (λ (k : ℕ). suc c ≤ k) (mul_comm (suc c) (suc s)) (le_times (suc c) s) in
    let one : min (suc s) (LARGEST + 1) ≡ suc s = min-eq_left (omega (arith, low, h)) in
    let two : suc c % 4294967296 ≡ suc c = mod_low (suc c) (omega (arith, few, h)) in
    ap (λ (k : ℕ). (k * (suc c % 4294967296)) % 4294967296) one ∙ ap (λ (k : ℕ). (suc s * k) % 4294967296) two ∙ mod_low (suc s * suc c) (omega (arith, h))
