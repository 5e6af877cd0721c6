-- An operand of a plain body is given by what the operand of the module means; so operands that mean the same are the same. The offset
-- of a constant `getelementptr` is that of its path.
use Rattle.std.proofs.Common.{◌≡◌, inl, inr, ℕ, ◌+◌, ◌%◌, ◌<◌, ℤ, pos, List, [], ◌∷◌, ◌++◌, map, Option, Some, None, slice_get, refl, sym, ap, ◌∙◌, subst, arith}
use Rattle.std.specs.Prelude.{unwrap_or}
use Rattle.std.specs.List.{AllByRecursion as Each}
use Rattle.std.proofs.lemmas.List.Elements.{recursion_from_All}
use Rattle.oi_base.specs.declared.words.Width.{Width}
use Rattle.oi_base.specs.declared.words.Width.TheVariants.{W32}
use Rattle.oi_base.specs.Words.{modulus, word_of}
use Rattle.ir_core.specs.declared.flat.FlatOp.{FlatOp}
use Rattle.ir_core.specs.declared.flat.FlatOp.TheVariants.{Reg, Word, Null, Address, Poison}
use Rattle.ir_core.specs.declared.flat.Term.{Term}
use Rattle.ir_core.specs.declared.ty.TypeDef.{TypeDef}
use Rattle.ir_core.specs.declared.ty.IrType.{IrType, Void, Int, Ptr, Array', Struct', Named, end_of-IrType, more_of-IrType, out-IrType}
use Rattle.ir_core.specs.declared.ty.IrType.TheOpen.{IrType-F}
use Rattle.ir_core.specs.declared.ty.IrType.TheVariants.{outs-Void, outs-Int, outs-Ptr, outs-Struct', outs-Named}
use Rattle.ir_core.specs.declared.constant.Const.{Const}
use Rattle.ir_core.specs.declared.constant.Const as consts
use Rattle.ir_core.specs.declared.constant.TypedCount.{TypedCount}
use Rattle.ir_core.specs.declared.module.SymId.{SymId}
use Rattle.ir_core.specs.declared.module.Module.{Module}
use Rattle.ir_core.specs.declared.op.Operand.{Operand}
use Rattle.ir_core.specs.declared.op.Operand.TheVariants as operands
use Rattle.ir_core.specs.declared.op.TypedOperand.{TypedOperand}
use Rattle.ir_core.specs.declared.func.Func.{Func}
use Rattle.ir_core.specs.Rows.{scaled}
use Rattle.ir_core.specs.Sizes.{size, types_in, fields, offset}
use Rattle.ir_core.specs.Constants.{width_of, Path, joined, over, element, into, inside, element_of, walk, path, all_bytes, path_bytes, global_number, constant_index, constant}
use Rattle.ir_core.specs.Instructions.{register, operand, typed}
use Rattle.ir_core.specs.ValidConsts.{plain, IsInteger, Fits, FitsType, const_index, GoesInto, Walk, ConstWalk, IndicesFit, Meaning, OfLocal, IsWord, IsNull, IsAddress, IsPoison, HasNone, index_moves, distance_by, distance_into, gep_offset, meaning}
use Rattle.ir_core.specs.ValidConsts.{field_number as field_of_count}
use Rattle.ir_core.specs.ValidOps.{IsScalar, ConstAgrees, ValueAgrees, OperandAgrees, ConstFits, OperandFits}
use Rattle.ir_safety.proofs.TypeSizes.{array_out}

-- ---- one level of a type

-- from an array an index leads to its elements' type
pub item_of : (t : IrType) (n : ℕ) (u : IrType) → out-IrType t ≡ IrType-F.Array n u → element t ≡ Some u
item_of Void n u e = absurd (let clash : IrType-F.Void ≡ IrType-F.Array n u = sym outs-Void ∙ e in cc)
item_of (Int w) n u e = absurd (let clash : IrType-F.Int w ≡ IrType-F.Array n u = sym (outs-Int w) ∙ e in cc)
item_of Ptr n u e = absurd (let clash : IrType-F.Ptr ≡ IrType-F.Array n u = sym outs-Ptr ∙ e in cc)
item_of (Array' k m (more_of-IrType item end_of-IrType)) n u e = let same : IrType-F.Array k item ≡ IrType-F.Array n u = sym (array_out k m item) ∙ e in let one : item ≡ u = cc in ap Some one
item_of (Struct' m fields) n u e = absurd (let clash = sym (outs-Struct' m fields) ∙ e in cc)
item_of (Named x) n u e = absurd (let clash : IrType-F.Named x ≡ IrType-F.Array n u = sym (outs-Named x) ∙ e in cc)

-- what has fields is no array
no_item : (t : IrType) (k : ℕ) (u : IrType) → slice_get (types_in (out-IrType t)) k ≡ Some u → element t ≡ None
no_item (Array' n m (more_of-IrType item end_of-IrType)) k u e = absurd (let clash : None ≡ Some u = sym (ap (λ (l : IrType-F IrType). slice_get (types_in l) k) (array_out n m item)) ∙ e in cc)
no_item Void k u e = refl
no_item (Int w) k u e = refl
no_item Ptr k u e = refl
no_item (Struct' m fields) k u e = refl
no_item (Named x) k u e = refl

-- ---- bytes of paths

abbrev pub bytes : Path → ℕ
bytes p = all_bytes p.bytes p.terms

bytes_sum : (x y : ℕ) (ts us : List Term) → all_bytes (x + y) (ts ++ us) ≡ all_bytes x ts + all_bytes y us
bytes_sum x y [] [] = refl
bytes_sum x y [] (u ∷ us) = let rest : all_bytes (x + y) us ≡ x + all_bytes y us = bytes_sum x y [] us in omega (arith, rest)
bytes_sum x y (t ∷ ts) us = let rest = bytes_sum x y ts us in omega (arith, rest)

pub bytes_joined : (a b : Path) → bytes (joined a b) ≡ bytes a + bytes b
bytes_joined a b = bytes_sum a.bytes b.bytes a.terms b.terms

-- an index over things of one size
over_moves : (stride : ℕ) (i : TypedCount) → IsInteger i.ty → bytes (over stride (constant_index i)) ≡ index_moves i.ty i.count stride
over_moves stride i (w, e) = let sum : bytes (over stride (constant_index i)) ≡ scaled (width_of i.ty) stride (word_of (modulus (width_of i.ty)) i.count) = omega arith in sum ∙ by_type
  where
    by_type : scaled (width_of i.ty) stride (word_of (modulus (width_of i.ty)) i.count) ≡ index_moves i.ty i.count stride
    by_type = subst (λ (t : IrType). scaled (width_of t) stride (word_of (modulus (width_of t)) i.count) ≡ index_moves t i.count stride) (sym e) refl

-- the number of a field as a word
field_word : (t : IrType) (n : ℤ) (k : ℕ) → t ≡ Int W32 → n ≡ pos k → FitsType t n → word_of (modulus (width_of t)) n ≡ k
field_word t n k word number f =
    let same : f.0 ≡ W32 = let both : Int f.0 ≡ Int W32 = sym f.1 ∙ word in cc in
    let fits : k < 4294967296 = subst (λ (z : ℤ). Fits W32 z) number (subst (λ (w : Width). Fits w n) same f.2) in
    let small : k % 4294967296 ≡ k = omega (arith, fits) in
    ap (λ (z : IrType). word_of (modulus (width_of z)) n) word ∙ ap (word_of 4294967296) number ∙ small

module _ (defs : List TypeDef) where
  -- one index: to which type it leads, and how far
  record OneOn (t : IrType) (i : TypedCount) (u : IrType) (on : IrType → ℕ) : Type 0 where
    leads : inside defs t (element_of defs t) (constant_index i) ≡ u
    far : bytes (into defs t (element_of defs t) (constant_index i)) + on u ≡ distance_by defs t i on (out-IrType (plain defs t))

  one_on : (t : IrType) (i : TypedCount) (u : IrType) (on : IrType → ℕ) → IsInteger i.ty → FitsType i.ty i.count → GoesInto defs t (const_index i) u → OneOn t i u on
  one_on t i u on int fits (inl (n, e)) =
      let item : element_of defs t ≡ Some u = item_of (plain defs t) n u e in
      record {
        leads = ap (λ (o : Option IrType). inside defs t o (constant_index i)) item;
        far = ap (λ (o : Option IrType). bytes (into defs t o (constant_index i)) + on u) item ∙ ap (λ (k : ℕ). k + on u) (over_moves (size defs u) i int) ∙ ap (distance_by defs t i on) (sym e);
      }
  one_on t i u on int fits (inr (k, word, number, at)) =
      let none : element_of defs t ≡ None = no_item (plain defs t) k u at in
      let count : i.count ≡ pos k = let both : Some i.count ≡ Some (pos k) = number in cc in
      let field : word_of (modulus (width_of i.ty)) i.count ≡ k = field_word i.ty i.count k word count fits in
      record {
        leads =
            ap (λ (o : Option IrType). inside defs t o (constant_index i)) none ∙ ap (λ (n : ℕ). unwrap_or (slice_get (fields defs t) n) Void) field ∙ ap (λ (o : Option IrType). unwrap_or o Void) at;
        far =
            ap (λ (o : Option IrType). bytes (into defs t o (constant_index i)) + on u) none ∙ ap (λ (n : ℕ). unwrap_or (offset defs t n) 0 + on u) field ∙ by_level (out-IrType (plain defs t)) at count;
      }
    where
      by_level : (l : IrType-F IrType) → slice_get (types_in l) k ≡ Some u → i.count ≡ pos k → unwrap_or (offset defs t k) 0 + on u ≡ distance_by defs t i on l
      by_level (IrType-F.Struct types) at count =
          ap (λ (o : Option IrType). unwrap_or (offset defs t k) 0 + on (unwrap_or o Void)) (sym at)
          ∙ ap (λ (n : ℤ). unwrap_or (offset defs t (field_of_count n)) 0 + on (unwrap_or (slice_get types (field_of_count n)) Void)) (sym count)
      by_level IrType-F.Void at count = cc
      by_level (IrType-F.Int w) at count = cc
      by_level IrType-F.Ptr at count = cc
      by_level (IrType-F.Array n item) at count = cc
      by_level (IrType-F.Named x) at count = cc

  walk_bytes : (is : List TypedCount) (t : IrType) → Walk defs t (map const_index is) → Each (λ (i : TypedCount). FitsType i.ty i.count) is
      → bytes (walk defs t (map constant_index is)) ≡ distance_into defs t is
  walk_bytes [] t w fit = refl
  walk_bytes (i ∷ is) t (int, (u, goes, rest)) fit =
      let one = one_on t i u (λ (v : IrType). distance_into defs v is) int fit.0 goes in
      bytes_joined (into defs t (element_of defs t) (constant_index i)) (walk defs (inside defs t (element_of defs t) (constant_index i)) (map constant_index is))
      ∙ ap (λ (v : IrType). bytes (into defs t (element_of defs t) (constant_index i)) + bytes (walk defs v (map constant_index is))) one.leads
      ∙ ap (λ (n : ℕ). bytes (into defs t (element_of defs t) (constant_index i)) + n) (walk_bytes is u rest fit.1) ∙ one.far

  -- the offset of a constant `getelementptr`
  pub offset_of_path : (is : List TypedCount) (source : IrType) → ConstWalk defs source is → IndicesFit is → path_bytes (path defs source (map constant_index is)) ≡ gep_offset defs source is
  offset_of_path [] source w fit = omega arith
  offset_of_path (i ∷ is) source (int, w) fit =
      let rest : Each (λ (i : TypedCount). FitsType i.ty i.count) (i ∷ is) = recursion_from_All (λ (i : TypedCount). FitsType i.ty i.count) (i ∷ is) fit in
      ap (λ (n : ℕ). n % 4294967296) (bytes_joined (over (size defs source) (constant_index i)) (walk defs source (map constant_index is)))
      ∙ ap (λ (n : ℕ). (n + bytes (walk defs source (map constant_index is))) % 4294967296) (over_moves (size defs source) i int)
      ∙ ap (λ (n : ℕ). (index_moves i.ty i.count (size defs source) + n) % 4294967296) (walk_bytes is source w rest.1)

-- ---- operands

-- the operand that means this
abbrev pub of_meaning : Module → Meaning → FlatOp
of_meaning m (OfLocal x) = Reg (register x)
of_meaning m (IsWord a) = Word a
of_meaning m IsNull = Null
of_meaning m (IsAddress s k) = Address (global_number m s) k
of_meaning m IsPoison = Poison
of_meaning m HasNone = Poison

module _ (m : Module) where
  address : (t source : IrType) (s : SymId) (is : List TypedCount) → ConstAgrees m.types.defs (consts.Gep source s is) t → IndicesFit is
      → Address (global_number m s) (path_bytes (path m.types.defs source (map constant_index is))) ≡ Address (global_number m s) (gep_offset m.types.defs source is)
  address t source s is agrees fits = ap (Address (global_number m s)) (offset_of_path m.types.defs is source agrees.1 fits)

  constant_means : (t : IrType) (c : Const) → IsScalar t → ConstAgrees m.types.defs c t → ConstFits c t → constant m t c ≡ of_meaning m (meaning m.types.defs t (operands.Const c))
  constant_means (Int w) (consts.Int n) scalar agrees fits = refl
  constant_means (Int w) (consts.Bool b) scalar agrees fits = refl
  constant_means (Int w) consts.Null scalar agrees fits = refl
  constant_means (Int w) consts.Undef scalar agrees fits = refl
  constant_means (Int w) consts.Poison scalar agrees fits = refl
  constant_means (Int w) consts.Zero scalar agrees fits = refl
  constant_means (Int w) (consts.Bytes bs) scalar agrees fits = refl
  constant_means (Int w) (consts.Address s) scalar agrees fits = refl
  constant_means (Int w) (consts.Gep source s is) scalar agrees fits = address (Int w) source s is agrees fits
  constant_means (Int w) (consts.Array' n items) scalar agrees fits = refl
  constant_means (Int w) (consts.Struct' n items) scalar agrees fits = refl
  constant_means Ptr (consts.Int n) scalar agrees fits = absurd (let clash : Ptr ≡ Int agrees.0 = agrees.1 in cc)
  constant_means Ptr (consts.Bool b) scalar agrees fits = refl
  constant_means Ptr consts.Null scalar agrees fits = refl
  constant_means Ptr consts.Undef scalar agrees fits = refl
  constant_means Ptr consts.Poison scalar agrees fits = refl
  constant_means Ptr consts.Zero scalar agrees fits = refl
  constant_means Ptr (consts.Bytes bs) scalar agrees fits = refl
  constant_means Ptr (consts.Address s) scalar agrees fits = refl
  constant_means Ptr (consts.Gep source s is) scalar agrees fits = address Ptr source s is agrees fits
  constant_means Ptr (consts.Array' n items) scalar agrees fits = refl
  constant_means Ptr (consts.Struct' n items) scalar agrees fits = refl
  constant_means Void c scalar agrees fits = absurd scalar
  constant_means (Array' n k items) c scalar agrees fits = absurd scalar
  constant_means (Struct' n fields) c scalar agrees fits = absurd scalar
  constant_means (Named x) c scalar agrees fits = absurd scalar

  pub operand_means : (f : Func) (a : TypedOperand) → OperandAgrees m.types.defs f a → OperandFits a → typed m a ≡ of_meaning m (meaning m.types.defs a.ty a.value)
  operand_means f a agrees fits = by_value a.value agrees.1 fits
    where
      by_value : (v : Operand) → ValueAgrees m.types.defs f v a.ty → OperandFits (record { ty = a.ty; value = v }) → operand m a.ty v ≡ of_meaning m (meaning m.types.defs a.ty v)
      by_value (operands.Local x) agreed fits = refl
      by_value (operands.Const c) agreed fits = constant_means a.ty c agrees.0 agreed fits
