-- The registers of a function's plain body have the types of the parameters and results that they are, and its operands the types
-- that are written with them.
use Rattle.std.proofs.Common.{◌≡◌, ◌⊎◌, inl, inr, ℕ, zero, suc, ◌+◌, ◌<◌, ◌==◌, Bool, true, false, not, cond, List, [], ◌∷◌, ◌++◌, map, length, Option, Some, None, slice_get, refl, sym, ap, ◌∙◌, subst, arith}
use Rattle.std.specs.Prelude.{unwrap_or}
use Rattle.std.specs.List.{flat_map, filter_map, cons_option, position_or_len}
use Rattle.std.specs.Option.{option_map}
use Rattle.std.proofs.Math.Nat.{mod-lt}
use Rattle.std.proofs.lemmas.Bool.Decides.{nat_tests}
use Rattle.std.proofs.lemmas.List.{map-append, length-map}
use Rattle.std.proofs.lemmas.Option.{slice_get-map}
use Rattle.ir_core.specs.declared.flat.Scalar.{Scalar}
use Rattle.ir_core.specs.declared.flat.Scalar.TheVariants as scalar
use Rattle.ir_core.specs.declared.flat.FlatOp.{FlatOp}
use Rattle.ir_core.specs.declared.ty.IrType.{IrType, Void}
use Rattle.ir_core.specs.declared.constant.Const.{Const}
use Rattle.ir_core.specs.declared.constant.Const as consts
use Rattle.ir_core.specs.declared.op.LocalId.{LocalId}
use Rattle.ir_core.specs.declared.op.Operand.{Operand}
use Rattle.ir_core.specs.declared.op.Operand.TheVariants as operands
use Rattle.ir_core.specs.declared.op.TypedOperand.{TypedOperand}
use Rattle.ir_core.specs.declared.func.Instr.{Instr}
use Rattle.ir_core.specs.declared.func.Block.{Block}
use Rattle.ir_core.specs.declared.func.Func.{Func}
use Rattle.ir_core.specs.declared.func.Param.{Param}
use Rattle.ir_core.specs.declared.module.Module.{Module}
use Rattle.ir_core.specs.Words.{bit}
use Rattle.ir_core.specs.Constants.{scalar_of, zero_of, number_word, constant}
use Rattle.ir_core.specs.Instructions.{operand, typed}
use Rattle.ir_core.specs.Plain.{other_operand, is_local, numbers, results, registers}
use Rattle.ir_core.specs.Formed.{HasType}
use Rattle.ir_core.specs.Parts.{instrs}
use Rattle.ir_core.specs.Valid.{IsValidFunc}
use Rattle.ir_core.specs.ValidFunc.{IsParam}
use Rattle.ir_core.specs.ValidOps.{op_result, LocalHasType, ConstAgrees, ValueAgrees, OperandAgrees, ConstFits, OperandFits}
use Rattle.ir_core.proofs.Lists.{Has, Apart, at_has, has_left, has_right, has_part, place, has_in, has_mapped, has_made, mapped_parts}
use Rattle.ir_safety.specs.PlainTypes.{register_types, func_types, func_type}
use Rattle.ir_safety.proofs.Typed.{some_words, word_small}
use Rattle.ir_safety.proofs.Elements.{in_part, mapped_twice, own_place}
use Rattle.ir_safety.proofs.Once.{registers_once}

-- ---- lists

mapped_first : {B C : Type 0} (g : B → C) (o : Option B) (ys : List B) → map g (cons_option o ys) ≡ cons_option (option_map g o) (map g ys)
mapped_first g None ys = refl
mapped_first g (Some y) ys = refl

mapped_made : {A B C : Type 0} (g : B → C) (f : A → Option B) (h : A → Option C) → ((x : A) → option_map g (f x) ≡ h x) → (xs : List A) → map g (filter_map f xs) ≡ filter_map h xs
mapped_made g f h e [] = refl
mapped_made g f h e (x ∷ xs) = mapped_first g (f x) (filter_map f xs) ∙ ap (λ o. cons_option o (map g (filter_map f xs))) (e x) ∙ ap (λ ys. cons_option (h x) ys) (mapped_made g f h e xs)

-- ---- registers with their types

-- a parameter, or the result of an instruction
record Register : Type 0 where
  name : LocalId
  ty : IrType

abbrev number : Register → ℕ
number r = r.name.0

abbrev of_param : Param → Register
of_param q = record { name = q.name; ty = q.ty }

abbrev of_result : Option LocalId → IrType → Option Register
of_result r t = option_map (λ (x : LocalId). record { name = x; ty = t }) r

abbrev of_instr : Instr → Option Register
of_instr i = of_result i.result (op_result i.op)

abbrev of_block : Block → List Register
of_block b = filter_map of_instr b.code

abbrev all_registers : Func → List Register
all_registers f = map of_param f.params ++ flat_map of_block f.blocks

-- what is said of each register, in the order of their numbers
told : {C : Type 0} (g : Register → C) (p : Param → C) (h : Instr → Option C) → ((q : Param) → g (of_param q) ≡ p q) → ((i : Instr) → option_map g (of_instr i) ≡ h i) → (f : Func)
    → map g (all_registers f) ≡ map p f.params ++ flat_map (λ (b : Block). filter_map h b.code) f.blocks
told g p h same made f =
    map-append g (map of_param f.params) (flat_map of_block f.blocks)
    ∙ ap (λ xs. xs ++ map g (flat_map of_block f.blocks)) (params_told f.params)
    ∙ ap (λ xs. map p f.params ++ xs) (mapped_parts g of_block (λ (b : Block). filter_map h b.code) (λ b. mapped_made g of_instr h made b.code) f.blocks)
  where
    params_told : (ps : List Param) → map g (map of_param ps) ≡ map p ps
    params_told [] = refl
    params_told (q ∷ qs) = ap (λ x. x ∷ map g (map of_param qs)) (same q) ∙ ap (λ xs. p q ∷ xs) (params_told qs)

name_of_result : (r : Option LocalId) (t : IrType) → option_map (λ (x : Register). x.name) (of_result r t) ≡ r
name_of_result None t = refl
name_of_result (Some x) t = refl

type_of_result : (r : Option LocalId) (t : IrType) → option_map (λ (x : Register). x.ty) (of_result r t) ≡ option_map (λ (x : LocalId). t) r
type_of_result None t = refl
type_of_result (Some x) t = refl

names_told : (f : Func) → map (λ (x : Register). x.name) (all_registers f) ≡ registers f
names_told f = told (λ (x : Register). x.name) (λ (q : Param). q.name) (λ (i : Instr). i.result) (λ q. refl) (λ i. name_of_result i.result (op_result i.op)) f

types_told : (f : Func) → map (λ (x : Register). x.ty) (all_registers f) ≡ register_types f
types_told f = told (λ (x : Register). x.ty) (λ (q : Param). q.ty) (λ (i : Instr). option_map (λ (x : LocalId). op_result i.op) i.result) (λ q. refl) (λ i. type_of_result i.result (op_result i.op)) f

-- no two have one name
named_once : (m : Module) (f : Func) → IsValidFunc m f → Apart (map number (all_registers f))
named_once m f valid =
    let same = ap (map (λ (x : LocalId). x.0)) (sym (names_told f)) ∙ mapped_twice (λ (x : LocalId). x.0) (λ (x : Register). x.name) (all_registers f) in
    subst Apart same (registers_once m f valid)

-- ---- the type of each

same_place : (rs : List Register) (x : ℕ) → position_or_len (is_local x) (map (λ (r : Register). r.name) rs) ≡ place number rs x
same_place [] x = refl
same_place (r ∷ rs) x = ap (λ n. cond (not (number r == x)) (1 + n) 0) (same_place rs x)

-- where no two have one name, each stands at the first place of its name
found : (rs : List Register) (r : Register) → Apart (map number rs) → Has rs r → slice_get rs (place number rs (number r)) ≡ Some r
found rs r once h = let at = at_has rs r h in ap (slice_get rs) (own_place number rs at.0 r once at.1) ∙ at.1

register_type : (m : Module) (f : Func) → IsValidFunc m f → (r : Register) → Has (all_registers f) r → func_types f ((numbers f).reg (number r)) ≡ scalar_of r.ty
register_type m f valid r h = ap (λ o. scalar_of (unwrap_or o Void)) here
  where
    at : (numbers f).reg (number r) ≡ place number (all_registers f) (number r)
    at = sym (ap (position_or_len (is_local (number r))) (names_told f)) ∙ same_place (all_registers f) (number r)

    here : slice_get (register_types f) ((numbers f).reg (number r)) ≡ Some r.ty
    here =
        ap (slice_get (register_types f)) at
        ∙ sym (ap (λ ts. slice_get ts (place number (all_registers f) (number r))) (types_told f))
        ∙ slice_get-map (λ (x : Register). x.ty) (all_registers f) (place number (all_registers f) (number r))
        ∙ ap (option_map (λ (x : Register). x.ty)) (found (all_registers f) r (named_once m f valid) h)

pub local_type : (m : Module) (f : Func) → IsValidFunc m f → (x : LocalId) (t : IrType) → LocalHasType f x t → func_types f ((numbers f).reg x.0) ≡ scalar_of t
local_type m f valid x t (inl h) =
    let r : Register = of_param h.0 in
    let stands : Has (all_registers f) r = has_left (map of_param f.params) (flat_map of_block f.blocks) r (has_mapped of_param f.params h.0 (has_in f.params h.0 h.1)) in
    sym (ap (λ (y : LocalId). func_types f ((numbers f).reg y.0)) h.2) ∙ register_type m f valid r stands ∙ ap scalar_of h.3
local_type m f valid x t (inr h) =
    let r : Register = record { name = x; ty = op_result h.0.op } in
    let b = in_part (λ (b : Block). b.code) f.blocks h.0 (has_in (instrs f) h.0 h.1) in
    let made : of_instr h.0 ≡ Some r = ap (λ o. of_result o (op_result h.0.op)) h.2 in
    let inside : Has (of_block b.0) r = has_made of_instr b.0.code h.0 r b.2 made in
    let stands : Has (all_registers f) r = has_right (map of_param f.params) (flat_map of_block f.blocks) r (has_part of_block f.blocks b.0 r b.1 inside) in
    register_type m f valid r stands ∙ ap scalar_of h.3

first_types : (ps : List Param) (ts : List IrType) (q : ℕ) (s : Scalar) → slice_get (map (λ (p : Param). scalar_of p.ty) ps) q ≡ Some s → scalar_of (unwrap_or (slice_get (map (λ (p : Param). p.ty) ps ++ ts) q) Void) ≡ s
first_types [] ts q s e = cc
first_types (p ∷ ps) ts zero s e = cc
first_types (p ∷ ps) ts (suc q) s e = first_types ps ts q s e

pub own_params : (f : Func) → (length (func_type f).params ≡ length f.params) × ((q : ℕ) (s : Scalar) → slice_get (func_type f).params q ≡ Some s → func_types f q ≡ s)
own_params f = (length-map f.params (λ (q : Param). scalar_of q.ty), λ q s e. first_types f.params _ q s e)

-- ---- the numbers of parameters

-- a parameter has a number below theirs
before_others : (ps : List Param) (ys : List LocalId) (q : Param) → Has ps q
    → position_or_len (is_local q.name.0) (map (λ (p : Param). p.name) ps ++ ys) < length ps
before_others [] ys q h = absurd h
before_others (p ∷ ps) ys q h = by_test (p.name.0 == q.name.0) refl (λ k. before_others ps ys q k) h
  where
    by_test : (t : Bool) → (p.name.0 == q.name.0) ≡ t
        → (Has ps q → position_or_len (is_local q.name.0) (map (λ (p : Param). p.name) ps ++ ys) < length ps) → (p ≡ q) ⊎ Has ps q
        → position_or_len (is_local q.name.0) (p.name ∷ (map (λ (p : Param). p.name) ps ++ ys)) < suc (length ps)
    by_test true t rest k = rw t (omega arith)
    by_test false t rest (inl same) = absurd (let k : p.name.0 ≡ q.name.0 = ap (λ (z : Param). z.name.0) same in grind (arith, nat_tests))
    by_test false t rest (inr k) = rw t (let lt = rest k in omega (arith, lt))

pub param_first : (f : Func) (x : LocalId) → IsParam f x → (numbers f).reg x.0 < length f.params
param_first f x q =
    subst (λ (y : LocalId). (numbers f).reg y.0 < length f.params) q.2
    (before_others f.params (flat_map results f.blocks) q.0 (has_in f.params q.0 q.1))

-- ---- operands

bit_small : (b : Bool) → bit b < 2
bit_small true = omega arith
bit_small false = omega arith

module _ (m : Module) (f : Func) where
  -- the operand has the type
  abbrev Fits : IrType → FlatOp → Type 0
  Fits t o = HasType (func_types f) (other_operand (numbers f) o) (scalar_of t)

  zero_fits : (s : Scalar) → HasType (func_types f) (other_operand (numbers f) (zero_of s)) s
  zero_fits (scalar.Word w) = some_words w
  zero_fits scalar.Pointer = refl

  constant_typed : (t : IrType) (c : Const) → ConstAgrees m.types.defs c t → ConstFits c t → Fits t (constant m t c)
  constant_typed t (consts.Int n) a h = subst (λ (u : IrType). Fits u (number_word u n)) (sym h.1) (word_small h.0 n)
  constant_typed t (consts.Bool b) a h = subst (λ (u : IrType). Fits u (constant m u (consts.Bool b))) (sym h) (bit_small b)
  constant_typed t consts.Null a h = ap scalar_of h
  constant_typed t consts.Undef a h = zero_fits (scalar_of t)
  constant_typed t consts.Poison a h = tt
  constant_typed t consts.Zero a h = tt
  constant_typed t (consts.Bytes bs) a h = tt
  constant_typed t (consts.Address s) a h = (ap scalar_of a, omega arith)
  constant_typed t (consts.Gep source s is) a h = (ap scalar_of a.0, mod-lt _ (omega arith))
  constant_typed t (consts.Array' n items) a h = tt
  constant_typed t (consts.Struct' n items) a h = tt

  pub operand_typed : IsValidFunc m f → (a : TypedOperand) → OperandAgrees m.types.defs f a → OperandFits a → HasType (func_types f) (other_operand (numbers f) (typed m a)) (scalar_of a.ty)
  operand_typed valid a agrees fits = by_value a.value agrees.1 fits
    where
      by_value : (v : Operand) → ValueAgrees m.types.defs f v a.ty → OperandFits (record { ty = a.ty; value = v }) → Fits a.ty (operand m a.ty v)
      by_value (operands.Local x) agrees fits = local_type m f valid x a.ty agrees
      by_value (operands.Const c) agrees fits = constant_typed a.ty c agrees fits
