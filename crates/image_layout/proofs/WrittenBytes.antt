-- The numbers that bytes of memory become in the data.
use Rattle.std.proofs.Common.{◌≡◌, ◌⊎◌, inl, inr, ◌∙◌, ℕ, zero, suc, ◌/◌, ◌%◌, refl, sym, ap, ap₂, subst, arith, List, [], ◌∷◌, ◌++◌, map, replicate, Result, Ok, Err, OnOk}
use Rattle.std.specs.Int.{w32, to_le_bytes}
use Rattle.ir_core.specs.declared.constant.Const.{Const}
use Rattle.ir_core.specs.declared.constant.Const as consts
use Rattle.ir_core.specs.declared.flat.Scalar.{Scalar}
use Rattle.ir_core.specs.declared.module.Module.{Module}
use Rattle.ir_core.specs.declared.ty.IrType.{IrType}
use Rattle.ir_core.specs.Constants.{initial_bytes}
use Rattle.ir_core.specs.Sizes.{size}
use Rattle.ir_core.specs.Memory.{Byte, PoisonByte, Octet, At, stored}
use Rattle.rv_select.specs.Linked.{Link, address_of}
use Rattle.image_layout.specs.DataBytes.{byte_in}

-- of a pointer
pub address_written : (l : Link) (s : Scalar) (b o : ℕ) → to_le_bytes w32 (address_of l b o) ≡ map (byte_in l) (stored s (At b o))
address_written l s b o = let whole : address_of l b o / 1 ≡ address_of l b o = omega arith in ap (λ (x : ℕ). x % 256 ∷ address_of l b o / 256 % 256 ∷ address_of l b o / 65536 % 256 ∷ address_of l b o / 16777216 % 256 ∷ []) (sym whole)

pub copies_written : (l : Link) (b : Byte) (n : ℕ) → byte_in l b ≡ 0 → map (byte_in l) (replicate n b) ≡ replicate n 0
copies_written l b zero e = refl
copies_written l b (suc n) e = ap₂ (λ (x : ℕ) (xs : List ℕ). x ∷ xs) e (copies_written l b n e)

pub numbers_written : (l : Link) (bs : List ℕ) → map (byte_in l) (map Octet bs) ≡ bs
numbers_written l [] = refl
numbers_written l (b ∷ bs) = ap (λ (xs : List ℕ). b ∷ xs) (numbers_written l bs)

-- of an initialiser that is zero, `undef` or poison
pub blank_written : (l : Link) (m : Module) (t : IrType) (c : Const) → (c ≡ consts.Zero) ⊎ ((c ≡ consts.Undef) ⊎ (c ≡ consts.Poison)) → map (byte_in l) (initial_bytes m t c) ≡ replicate (size m.types.defs t) 0
blank_written l m t c (inl e) = ap (λ (k : Const). map (byte_in l) (initial_bytes m t k)) e ∙ copies_written l (Octet 0) (size m.types.defs t) refl
blank_written l m t c (inr (inl e)) = ap (λ (k : Const). map (byte_in l) (initial_bytes m t k)) e ∙ copies_written l (Octet 0) (size m.types.defs t) refl
blank_written l m t c (inr (inr e)) = ap (λ (k : Const). map (byte_in l) (initial_bytes m t k)) e ∙ copies_written l PoisonByte (size m.types.defs t) refl

-- what follows from a fact of a success
pub ok_too : {T E P Q : Type 0} (r : Result T E) → (P → Q) → OnOk r P → OnOk r Q
ok_too (Ok x) f h = f h
ok_too (Err e) f h = h

-- what is appended, as equal bytes of memory
pub written_too : {T E : Type 0} (l : Link) (r : Result T E) (new old : List ℕ) {xs ys : List Byte} → xs ≡ ys → OnOk r (new ≡ old ++ map (byte_in l) xs) → OnOk r (new ≡ old ++ map (byte_in l) ys)
written_too l r new old e h = subst (λ (zs : List Byte). OnOk r (new ≡ old ++ map (byte_in l) zs)) e h
