-- Tests of types, and of the parameters and registers of a type.
use Rattle.std.proofs.Common.{◌≡◌, ◌⊎◌, inl, inr, refl, sym, ap, ◌∙◌, subst, Bool, true, false, nat_eq, ℕ, List, [], Option, Some, None}
use Rattle.std.specs.Bool.{Decides}
use Rattle.std.specs.List.{flat_map, list_any}
use Rattle.oi_base.specs.declared.ids.Place.{Place}
use Rattle.oi_base.specs.declared.words.Width.TheVariants.{W1, W8, W16, W32}
use Rattle.ir_core.specs.declared.ty.IrType.{IrType, Void, Int, Ptr, Array', Struct', Named}
use Rattle.ir_core.specs.declared.op.LocalId.{LocalId}
use Rattle.ir_core.specs.declared.op.Op.{Op}
use Rattle.ir_core.specs.declared.func.Block.{Block}
use Rattle.ir_core.specs.declared.func.Func.{Func}
use Rattle.ir_core.specs.Parts.{instrs}
use Rattle.ir_core.specs.ValidConsts.{IsInteger}
use Rattle.ir_core.specs.ValidOps.{IsScalar, IsResultType, op_result, LocalHasType}
use Rattle.ir_core.proofs.Lists.{Has, has_part, contains}
use Rattle.module_rules.specs.Faults.{numbers_of}
use Rattle.ir_verifier.specs.CallFaults.{same_kind}
use Rattle.ir_core.specs.Types.{is_scalar}
use Rattle.ir_verifier.specs.TypeFaults.{is_result_type, number_if, param_of, makes, result_of, results_of, locals_of, registers_of, has_type}
use Rattle.module_rules.proofs.Decided.{always, never}
use Rattle.module_rules.proofs.Faulty.{has}
use Rattle.ir_verifier.proofs.KindLaws.{of_kind, kind_of_scalar, kind_of_result}
use Rattle.module_rules.proofs.Sets.{number_decides, in_numbers, numbers_in as numbers_has, has_made}
use Rattle.module_rules.proofs.Sets.{local_of as same_local}

-- ---- kinds of types

pub scalar_decides : (t : IrType) → Decides (is_scalar t) (IsScalar t)
scalar_decides (Int w) = always
scalar_decides Ptr = always
scalar_decides Void = never (λ h. h)
scalar_decides (Array' k m ts) = never (λ h. h)
scalar_decides (Struct' m ts) = never (λ h. h)
scalar_decides (Named x) = never (λ h. h)

pub result_decides : (t : IrType) → Decides (is_result_type t) (IsResultType t)
result_decides Void = (λ e. inl refl, λ h. refl)
result_decides (Int w) = (λ e. inr tt, λ h. refl)
result_decides Ptr = (λ e. inr tt, λ h. refl)
result_decides (Array' k m ts) = never (of_either (λ e. cc))
  where
    of_either : (Array' k m ts ≡ Void → ⊥) → IsResultType (Array' k m ts) → ⊥
    of_either other (inl e) = other e
    of_either other (inr h) = h
result_decides (Struct' m ts) = never (of_either (λ e. cc))
  where
    of_either : (Struct' m ts ≡ Void → ⊥) → IsResultType (Struct' m ts) → ⊥
    of_either other (inl e) = other e
    of_either other (inr h) = h
result_decides (Named x) = never (of_either (λ e. cc))
  where
    of_either : (Named x ≡ Void → ⊥) → IsResultType (Named x) → ⊥
    of_either other (inl e) = other e
    of_either other (inr h) = h

-- a type against one that a result may have
pub kind_decides : (t u : IrType) → IsResultType u → Decides (same_kind t u) (t ≡ u)
kind_decides t u r = (of_kind t u, λ e. subst (λ (v : IrType). same_kind v u ≡ true) (sym e) (kind_of_result u r))

-- the type of a value against another
pub scalar_kind : (t u : IrType) → IsScalar t → Decides (same_kind t u) (t ≡ u)
scalar_kind t u s = (of_kind t u, λ e. subst (λ (v : IrType). same_kind t v ≡ true) e (kind_of_scalar t s))

pub scalar_of_integer : (t : IrType) → IsInteger t → IsScalar t
scalar_of_integer t i = subst IsScalar (sym i.1) tt

-- ---- the parameters and registers of a type

of_number : (t : Bool) (x : LocalId) (n : ℕ) → Has (number_if t x) n → (t ≡ true) × (x.0 ≡ n)
of_number true x n (inl e) = (refl, e)
of_number true x n (inr h) = absurd h
of_number false x n h = absurd h

to_number : (t : Bool) (x : LocalId) → t ≡ true → Has (number_if t x) x.0
to_number true x e = inl refl
to_number false x e = absurd (let clash : false ≡ true = e in cc)

of_result : (t : IrType) (p : Place) (r : Option LocalId) (op : Op) (n : ℕ) → Has (result_of t (record { place = p; result = r; op = op })) n → (x : LocalId) × (r ≡ Some x) × (makes t op ≡ true) × (x.0 ≡ n)
of_result t p None op n h = absurd h
of_result t p (Some x) op n h = let b = of_number (makes t op) x n h in (x, refl, b.0, b.1)

to_result : (t : IrType) (p : Place) (r : Option LocalId) (op : Op) (x : LocalId) → r ≡ Some x → makes t op ≡ true → Has (result_of t (record { place = p; result = r; op = op })) x.0
to_result t p None op x e m = absurd (let clash : None ≡ Some x = e in cc)
to_result t p (Some y) op x e m = let same : y ≡ x = cc in subst (λ (z : LocalId). Has (number_if (makes t op) y) z.0) same (to_number (makes t op) y m)

module _ (f : Func) (t : IrType) (s : IsScalar t) where
  -- a number of the list is the name of a local of the type
  abbrev Params : List ℕ
  Params = numbers_of (flat_map (param_of t) f.params)

  abbrev Results : List ℕ
  Results = flat_map (results_of t) f.blocks

  of_param : (x : LocalId) → Has (flat_map (param_of t) f.params) x.0 → LocalHasType f x t
  of_param x h =
      let r = has_made (param_of t) f.params x.0 h in
      let b = of_number (same_kind r.0.ty t) r.0.name x.0 r.2 in
      inl (r.0, contains f.params r.0 r.1, same_local r.0.name x b.1, of_kind r.0.ty t b.0)

  of_block : (x : LocalId) → Has Results x.0 → LocalHasType f x t
  of_block x h =
      let b = has_made (results_of t) f.blocks x.0 h in
      let i = has_made (result_of t) b.0.code x.0 b.2 in
      let r = of_result t i.0.place i.0.result i.0.op x.0 i.2 in
      inr (i.0, contains (instrs f) i.0 (has_part (λ (k : Block). k.code) f.blocks b.0 i.0 b.1 i.1), r.1 ∙ ap Some (same_local r.0 x r.3), of_kind (op_result i.0.op) t r.2)

  of_listed : (x : LocalId) → Has (locals_of t f) x.0 → LocalHasType f x t
  of_listed x h = by_part (in_numbers Results Params x.0 h)
    where
      in_params : Has [] x.0 ⊎ Has (flat_map (param_of t) f.params) x.0 → LocalHasType f x t
      in_params (inl g) = absurd g
      in_params (inr g) = of_param x g

      by_part : Has Params x.0 ⊎ Has Results x.0 → LocalHasType f x t
      by_part (inl g) = in_params (in_numbers (flat_map (param_of t) f.params) [] x.0 g)
      by_part (inr g) = of_block x g

  has_kind : (u : IrType) → u ≡ t → same_kind u t ≡ true
  has_kind u e = (kind_decides u t (inr s)).1 e

  to_listed : (x : LocalId) → LocalHasType f x t → Has (locals_of t f) x.0
  to_listed x (inl q) = numbers_has Results Params x.0 (inl (numbers_has (flat_map (param_of t) f.params) [] x.0 (inr in_list)))
    where
      in_list : Has (flat_map (param_of t) f.params) x.0
      in_list = has_part (param_of t) f.params q.0 x.0 (has f.params q.0 q.1) (subst (λ (y : LocalId). Has (param_of t q.0) y.0) q.2 (to_number (same_kind q.0.ty t) q.0.name (has_kind q.0.ty q.3)))
  to_listed x (inr i) = numbers_has Results Params x.0 (inr in_list)
    where
      block : (b : Block) × Has f.blocks b × Has b.code i.0
      block = has_made (λ (k : Block). k.code) f.blocks i.0 (has (instrs f) i.0 i.1)

      in_list : Has Results x.0
      in_list = has_part (results_of t) f.blocks block.0 x.0 block.1 (has_part (result_of t) block.0.code i.0 x.0 block.2 (to_result t i.0.place i.0.result i.0.op x i.2 (has_kind (op_result i.0.op) i.3)))

  listed_decides : (x : LocalId) → Decides (list_any (nat_eq x.0) (locals_of t f)) (LocalHasType f x t)
  listed_decides x = let d = number_decides x.0 (locals_of t f) in (λ e. of_listed x (d.0 e), λ h. d.1 (to_listed x h))

-- the lists are those of the types
pub local_decides : (f : Func) (x : LocalId) (t : IrType) → IsScalar t → Decides (has_type (registers_of f) x t) (LocalHasType f x t)
local_decides f x (Int W1) s = listed_decides f (Int W1) tt x
local_decides f x (Int W8) s = listed_decides f (Int W8) tt x
local_decides f x (Int W16) s = listed_decides f (Int W16) tt x
local_decides f x (Int W32) s = listed_decides f (Int W32) tt x
local_decides f x Ptr s = listed_decides f Ptr tt x
local_decides f x Void s = absurd s
local_decides f x (Array' k m ts) s = absurd s
local_decides f x (Struct' m ts) s = absurd s
local_decides f x (Named y) s = absurd s
