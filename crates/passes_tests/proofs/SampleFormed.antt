-- The sample is formed.
use Rattle.std.proofs.Common.{◌≡◌, inl, inr, ℕ, zero, suc, ◌<◌, [], ◌∷◌, Some, None, slice_get, refl, sym, subst, arith}
use Rattle.std.specs.List.{AllByRecursion as Each}
use Rattle.oi_base.specs.declared.words.Width.TheVariants.{W32}
use Rattle.ir_core.specs.declared.flat.BinOp.TheVariants.{Add, Mul}
use Rattle.ir_core.specs.declared.flat.Scalar.{Scalar}
use Rattle.ir_core.specs.declared.flat.Scalar.TheVariants as scalar
use Rattle.ir_core.specs.declared.flat.FlatOp.TheVariants.{Reg, Word}
use Rattle.ir_core.specs.declared.flat.FlatInstr.{FlatInstr}
use Rattle.ir_core.specs.declared.flat.FlatInstr.TheVariants.{Bin, Copy}
use Rattle.ir_core.specs.Formed.{FuncType, IsTyped, ComesFirst, used_by}
use Rattle.ir_core.specs.declared.flat.FlatBody.{FlatBody}
use Rattle.ir_core.specs.WellFormed.{IsWellFormed}
use Rattle.flow_fold.proofs.DroppedFormed.{pairs_apart}
use Rattle.passes_tests.specs.Sample.{sample_code, sample_block, sample}
use Rattle.passes_tests.proofs.OneBlock.{one_block_formed}

abbrev types : ℕ → Scalar
types q = scalar.Word W32

abbrev own : FuncType
own = record { params = scalar.Word W32 ∷ []; result = Some (scalar.Word W32) }

abbrev funcs : ℕ → FuncType
funcs f = own

abbrev Fine : ℕ → FlatInstr → Type 0
Fine n i = IsTyped types funcs i × Each (ComesFirst sample [] sample_block n) (used_by i)

parameter : 0 < 1
parameter = omega arith

first : Fine 0 (Copy (record { 0 = 1 }) (Reg (record { 0 = 0 })))
first = (refl, (inr parameter, tt))

copy_first : ComesFirst sample [] sample_block 1 (Reg (record { 0 = 1 }))
copy_first = inl (inr (0, Copy (record { 0 = 1 }) (Reg (record { 0 = 0 })), omega arith, refl, refl))

second : Fine 1 (Bin (record { 0 = 2 }) Add W32 (Reg (record { 0 = 1 })) (Reg (record { 0 = 1 })))
second = ((refl, refl, refl), (copy_first, (copy_first, tt)))

third : Fine 2 (Bin (record { 0 = 3 }) Mul W32 (Reg (record { 0 = 0 })) (Word 3))
third = ((refl, refl, omega arith), (inr parameter, (tt, tt)))

fine : (n : ℕ) (i : FlatInstr) → slice_get sample_code n ≡ Some i → Fine n i
fine zero i e = let same : Copy (record { 0 = 1 }) (Reg (record { 0 = 0 })) ≡ i = cc in subst (Fine 0) same first
fine (suc zero) i e = let same : Bin (record { 0 = 2 }) Add W32 (Reg (record { 0 = 1 })) (Reg (record { 0 = 1 })) ≡ i = cc in subst (Fine 1) same second
fine (suc (suc zero)) i e = let same : Bin (record { 0 = 3 }) Mul W32 (Reg (record { 0 = 0 })) (Word 3) ≡ i = cc in subst (Fine 2) same third
fine (suc (suc (suc n))) i e = absurd (let none : None ≡ Some i = e in cc)

parameters : (q : ℕ) (s : Scalar) → slice_get own.params q ≡ Some s → types q ≡ s
parameters zero s e = cc
parameters (suc q) s e = absurd (let none : None ≡ Some s = e in cc)

end_first : ComesFirst sample [] sample_block 3 (Reg (record { 0 = 2 }))
end_first = inl (inr (1, Bin (record { 0 = 2 }) Add W32 (Reg (record { 0 = 1 })) (Reg (record { 0 = 1 })), omega arith, refl, refl))

pub sample_formed : IsWellFormed sample
sample_formed = record {
  types = types;
  funcs = funcs;
  own = own;
  formed = one_block_formed sample sample_block refl refl refl types funcs own
      (omega arith, omega arith) (omega arith, omega arith) (refl, parameters) fine (refl, (end_first, tt))
      (pairs_apart (1 ∷ 2 ∷ 3 ∷ []) ((λ e. absurd (omega (arith, e)), (λ e. absurd (omega (arith, e)), tt)), ((λ e. absurd (omega (arith, e)), tt), (tt, tt))))
      ((omega arith, omega arith), ((omega arith, omega arith), ((omega arith, omega arith), tt)))
      (inl parameter, (inr (0, omega arith, refl), (inr (0, omega arith, refl), (inl parameter, (tt, (inr (1, omega arith, refl), tt))))));
}

pub well_formed : (b : FlatBody) → b ≡ sample → IsWellFormed b
well_formed b e = subst IsWellFormed (sym e) sample_formed
