-- What one definition adds to a chain of type names, and what its end is good for.
use Rattle.std.proofs.Common.{◌≡◌, ◌⊎◌, inl, inr, ℕ, ◌+◌, ◌-◌, ◌<◌, zero, suc, List, length, Option, Some, None, slice_get, slice_set, refl, sym, ap, ◌∙◌, subst, arith}
use Rattle.std.specs.Prelude.{IfSome}
use Rattle.std.specs.Option.{option_map_or, option_and_then}
use Rattle.std.proofs.lemmas.Bool.{cases_eq}
use Rattle.std.proofs.lemmas.Grind.{get_or-set_at}
use Rattle.std.proofs.lemmas.List.{get_or-set_other}
use Rattle.std.proofs.lemmas.Option.{slice_get_within, get_or_from_slice_get}
use Rattle.ir_core.specs.declared.layout.Name.{Name}
use Rattle.ir_core.specs.declared.chains.Chain.{Chain}
use Rattle.ir_core.specs.declared.chains.Chain.TheVariants.{Unseen, Ended}
use Rattle.ir_core.specs.declared.ty.TypeDef.{TypeDef}
use Rattle.ir_core.specs.declared.ty.IrType.{IrType}
use Rattle.ir_core.specs.Sizes.{definition, name_of, resolved}
use Rattle.ir_core.specs.Known.{name_at, position_in, HasPositions}
use Rattle.ir_core.specs.Ends.{named, EndsAt, IsRightChain, chain_at, AreRight}
use Rattle.ir_core.proofs.Fields.{resolved_some}

resolved_none : (n : ℕ) (defs : List TypeDef) (t : IrType) → option_and_then (definition defs) (name_of t) ≡ None → resolved n defs t ≡ t
resolved_none zero defs t e = refl
resolved_none (suc n) defs t e = ap (λ (o : Option TypeDef). option_map_or (λ (b : TypeDef). resolved n defs b.ty) o t) e

-- what a table's position says of a name
defined_at : (table : List Name) (defs : List TypeDef) (x at : ℕ) (d : TypeDef) → HasPositions table defs → position_in (name_at table x) ≡ Some at → slice_get defs at ≡ Some d → definition defs (record { 0 = x }) ≡ Some d
defined_at table defs x at d positions e there = ap (option_and_then (λ (k : ℕ). slice_get defs k)) (sym (positions x) ∙ e) ∙ there

module _ (table : List Name) (defs : List TypeDef) (x at : ℕ) (d : TypeDef) (positions : HasPositions table defs) (here : position_in (name_at table x) ≡ Some at) (there : slice_get defs at ≡ Some d) where
  step : (n m : ℕ) → n ≡ suc m → resolved n defs (named x) ≡ resolved m defs d.ty
  step n m e = resolved_some n m defs (named x) d (defined_at table defs x at d positions here there) e

  -- a definition after which none comes
  pub last_definition : option_and_then (definition defs) (name_of d.ty) ≡ None → EndsAt defs x at 1
  last_definition none = record {
    end = d;
    there = there;
    few = let within = slice_get_within defs at d there in omega arith;
    comes = λ n. step (n + 1) n (omega arith) ∙ resolved_none n defs d.ty none;
  }

  -- one name more before a chain
  pub one_before : (next end names : ℕ) → d.ty ≡ named next → EndsAt defs next end names → names < length defs → EndsAt defs x end (names + 1)
  one_before next end names is e few = record {
    end = e.end;
    there = e.there;
    few = omega arith;
    comes = λ n. step (n + (names + 1)) (n + names) (omega arith) ∙ ap (resolved (n + names) defs) is ∙ e.comes n;
  }

-- all definitions suffice to come to the end
pub end_told : (defs : List TypeDef) (t : IrType) (x at names : ℕ) (o : Option TypeDef) → EndsAt defs x at names → t ≡ named x → o ≡ slice_get defs at → IfSome o (λ d. d.ty ≡ resolved (length defs) defs t)
end_told defs t x at names o e is there = subst (λ (p : Option TypeDef). IfSome p (λ d. d.ty ≡ resolved (length defs) defs t)) (sym (there ∙ e.there)) told
  where
    told : e.end.ty ≡ resolved (length defs) defs t
    told =
        let few = e.few in
        let enough : length defs ≡ length defs - names + names = omega arith in
        sym (ap (resolved (length defs) defs) is ∙ ap (λ (n : ℕ). resolved n defs (named x)) enough ∙ e.comes (length defs - names))

pub known_end : (chains : List Chain) (defs : List TypeDef) (x at names : ℕ) (c : Chain) → AreRight chains defs → slice_get chains x ≡ Some c → c ≡ Ended at names → EndsAt defs x at names
known_end chains defs x at names c right there is = subst (IsRightChain defs x) (get_or_from_slice_get chains x c Unseen there ∙ is) (right x)

pub right_set : (chains : List Chain) (defs : List TypeDef) (x : ℕ) (c : Chain) → AreRight chains defs → x < length chains → IsRightChain defs x c → AreRight (slice_set chains x c) defs
right_set chains defs x c right h e y = by_place (cases_eq y x)
  where
    by_place : (y ≡ x) ⊎ (y ≡ x → ⊥) → IsRightChain defs y (chain_at (slice_set chains x c) y)
    by_place (inl same) = subst (IsRightChain defs y) (sym (get_or-set_at chains x y c Unseen same h)) (subst (λ (z : ℕ). IsRightChain defs z c) (sym same) e)
    by_place (inr other) = subst (IsRightChain defs y) (sym (get_or-set_other chains x y c Unseen other)) (right y)

pub all_unseen : (chains : List Chain) (defs : List TypeDef) → ((x : ℕ) → chain_at chains x ≡ Unseen) → AreRight chains defs
all_unseen chains defs unseen x = subst (IsRightChain defs x) (sym (unseen x)) tt
