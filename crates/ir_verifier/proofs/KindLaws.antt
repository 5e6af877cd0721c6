-- Kinds of types: `void`, `ptr`, and integers of a width.
use Rattle.std.proofs.Common.{◌≡◌, refl, ap, ◌∙◌, Bool, true, false, inl, inr, List, [], ◌∷◌, map, length, suc}
use Rattle.ir_core.specs.declared.ty.IrType.{IrType, Void, Int, Ptr, Array', Struct', Named}
use Rattle.ir_core.specs.declared.op.TypedOperand.{TypedOperand}
use Rattle.ir_core.specs.declared.func.Param.{Param}
use Rattle.ir_core.specs.ValidOps.{IsScalar, IsResultType}
use Rattle.ir_verifier.specs.CallFaults.{same_kind, same_kinds}
use Rattle.module_rules.proofs.Decided.{false_is_not_true}
use Rattle.module_rules.proofs.SameTypeLaws.{same_widths, self_width, two_true}

-- types of one kind are equal
pub of_kind : (t u : IrType) → same_kind t u ≡ true → t ≡ u
of_kind Void Void e = refl
of_kind Void (Int w) e = absurd (false_is_not_true e)
of_kind Void Ptr e = absurd (false_is_not_true e)
of_kind Void (Array' l n us) e = absurd (false_is_not_true e)
of_kind Void (Struct' n us) e = absurd (false_is_not_true e)
of_kind Void (Named y) e = absurd (false_is_not_true e)
of_kind (Int v) Void e = absurd (false_is_not_true e)
of_kind (Int v) (Int w) e = ap Int (same_widths v w e)
of_kind (Int v) Ptr e = absurd (false_is_not_true e)
of_kind (Int v) (Array' l n us) e = absurd (false_is_not_true e)
of_kind (Int v) (Struct' n us) e = absurd (false_is_not_true e)
of_kind (Int v) (Named y) e = absurd (false_is_not_true e)
of_kind Ptr Void e = absurd (false_is_not_true e)
of_kind Ptr (Int w) e = absurd (false_is_not_true e)
of_kind Ptr Ptr e = refl
of_kind Ptr (Array' l n us) e = absurd (false_is_not_true e)
of_kind Ptr (Struct' n us) e = absurd (false_is_not_true e)
of_kind Ptr (Named y) e = absurd (false_is_not_true e)
of_kind (Array' k m ts) Void e = absurd (false_is_not_true e)
of_kind (Array' k m ts) (Int w) e = absurd (false_is_not_true e)
of_kind (Array' k m ts) Ptr e = absurd (false_is_not_true e)
of_kind (Array' k m ts) (Array' l n us) e = absurd (false_is_not_true e)
of_kind (Array' k m ts) (Struct' n us) e = absurd (false_is_not_true e)
of_kind (Array' k m ts) (Named y) e = absurd (false_is_not_true e)
of_kind (Struct' m ts) Void e = absurd (false_is_not_true e)
of_kind (Struct' m ts) (Int w) e = absurd (false_is_not_true e)
of_kind (Struct' m ts) Ptr e = absurd (false_is_not_true e)
of_kind (Struct' m ts) (Array' l n us) e = absurd (false_is_not_true e)
of_kind (Struct' m ts) (Struct' n us) e = absurd (false_is_not_true e)
of_kind (Struct' m ts) (Named y) e = absurd (false_is_not_true e)
of_kind (Named x) Void e = absurd (false_is_not_true e)
of_kind (Named x) (Int w) e = absurd (false_is_not_true e)
of_kind (Named x) Ptr e = absurd (false_is_not_true e)
of_kind (Named x) (Array' l n us) e = absurd (false_is_not_true e)
of_kind (Named x) (Struct' n us) e = absurd (false_is_not_true e)
of_kind (Named x) (Named y) e = absurd (false_is_not_true e)

-- `void` and the types of registers have kinds
pub kind_of_scalar : (t : IrType) → IsScalar t → same_kind t t ≡ true
kind_of_scalar (Int w) s = self_width w
kind_of_scalar Ptr s = refl
kind_of_scalar Void s = absurd s
kind_of_scalar (Array' k m ts) s = absurd s
kind_of_scalar (Struct' m ts) s = absurd s
kind_of_scalar (Named x) s = absurd s

pub kind_of_result : (t : IrType) → IsResultType t → same_kind t t ≡ true
kind_of_result t (inl e) = ap (λ (u : IrType). same_kind u u) e
kind_of_result t (inr s) = kind_of_scalar t s

pub of_kinds : (qs : List Param) (as' : List TypedOperand) → same_kinds qs as' ≡ true → map (λ (q : Param). q.ty) qs ≡ map (λ (a : TypedOperand). a.ty) as'
of_kinds [] [] e = refl
of_kinds [] (a ∷ as') e = absurd (false_is_not_true e)
of_kinds (q ∷ qs) [] e = absurd (false_is_not_true e)
of_kinds (q ∷ qs) (a ∷ as') e =
    let b = two_true (same_kind q.ty a.ty) (same_kinds qs as') e in
    ap (λ (t : IrType). t ∷ map (λ (p : Param). p.ty) qs) (of_kind q.ty a.ty b.0) ∙ ap (λ (ts : List IrType). a.ty ∷ ts) (of_kinds qs as' b.1)

-- as many of one as of the other
pub as_many : (qs : List Param) (as' : List TypedOperand) → same_kinds qs as' ≡ true → length qs ≡ length as'
as_many [] [] e = refl
as_many [] (a ∷ as') e = absurd (false_is_not_true e)
as_many (q ∷ qs) [] e = absurd (false_is_not_true e)
as_many (q ∷ qs) (a ∷ as') e = let b = two_true (same_kind q.ty a.ty) (same_kinds qs as') e in ap suc (as_many qs as' b.1)

pub not_as_many : (qs : List Param) (as' : List TypedOperand) → (length qs ≡ length as' → ⊥) → false ≡ same_kinds qs as'
not_as_many qs as' other = by_test (same_kinds qs as') refl
  where
    by_test : (t : Bool) → same_kinds qs as' ≡ t → false ≡ t
    by_test false e = refl
    by_test true e = absurd (other (as_many qs as' e))
