-- Which integers fit their types.
use Rattle.std.proofs.Common.{◌≡◌, refl, subst, false, ℤ, pos, negsuc, arith}
use Rattle.std.proofs.lemmas.Bool.Decides.{nat_tests}
use Rattle.oi_base.specs.declared.words.Width.{Width}
use Rattle.oi_base.specs.declared.words.Width.TheVariants.{W1, W8, W16, W32}
use Rattle.ir_core.specs.declared.ty.IrType.{IrType, Void, Int, Ptr, Array', Struct', Named}
use Rattle.ir_core.specs.declared.constant.TypedCount.{TypedCount}
use Rattle.ir_core.specs.ValidConsts.{Fits, FitsType}
use Rattle.ir_core.specs.Types.{is_bit, is_pointer}
use Rattle.module_rules.specs.Faults.{fits, fits_type, count_fits}
use Rattle.std.specs.Bool.{Decides}
use Rattle.module_rules.proofs.Decided.{never}

pub fits_decides : (w : Width) (n : ℤ) → Decides (fits w n) (Fits w n)
fits_decides w (pos a) = (λ e. grind (arith, nat_tests), λ h. grind (arith, nat_tests))
fits_decides w (negsuc a) = (λ e. grind (arith, nat_tests), λ h. grind (arith, nat_tests))

-- a type that isn't an integer
not_integer : (t : IrType) (n : ℤ) → ((w : Width) → t ≡ Int w → ⊥) → Decides false (FitsType t n)
not_integer t n other = never (λ (h : FitsType t n). other h.0 h.1)

pub type_decides : (t : IrType) (n : ℤ) → Decides (fits_type t n) (FitsType t n)
type_decides (Int w) n = (λ e. (w, refl, (fits_decides w n).0 e), λ h. (fits_decides w n).1 (let same : h.0 ≡ w = let e : Int w ≡ Int h.0 = h.1 in cc in subst (λ v. Fits v n) same h.2))
type_decides Void n = not_integer Void n (λ w e. cc)
type_decides Ptr n = not_integer Ptr n (λ w e. cc)
type_decides (Array' k m ts) n = not_integer (Array' k m ts) n (λ w e. cc)
type_decides (Struct' m ts) n = not_integer (Struct' m ts) n (λ w e. cc)
type_decides (Named x) n = not_integer (Named x) n (λ w e. cc)

pub count_decides : (n : TypedCount) → Decides (count_fits n) (FitsType n.ty n.count)
count_decides n = type_decides n.ty n.count

pub bit_decides : (t : IrType) → Decides (is_bit t) (t ≡ Int W1)
bit_decides (Int W1) = (λ e. refl, λ h. refl)
bit_decides (Int W8) = never (λ h. cc)
bit_decides (Int W16) = never (λ h. cc)
bit_decides (Int W32) = never (λ h. cc)
bit_decides Void = never (λ h. cc)
bit_decides Ptr = never (λ h. cc)
bit_decides (Array' k m ts) = never (λ h. cc)
bit_decides (Struct' m ts) = never (λ h. cc)
bit_decides (Named x) = never (λ h. cc)

pub pointer_decides : (t : IrType) → Decides (is_pointer t) (t ≡ Ptr)
pointer_decides Ptr = (λ e. refl, λ h. refl)
pointer_decides (Int w) = never (λ h. cc)
pointer_decides Void = never (λ h. cc)
pointer_decides (Array' k m ts) = never (λ h. cc)
pointer_decides (Struct' m ts) = never (λ h. cc)
pointer_decides (Named x) = never (λ h. cc)
