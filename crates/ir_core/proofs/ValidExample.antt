-- A module that breaks no rule: `main` of one block, which returns 7.
use Rattle.std.proofs.Common.{◌≡◌, ◌⊎◌, inl, inr, ℕ, ◌<◌, zero, suc, List, [], ◌∷◌, Some, None, refl, sym, ap, ◌∙◌, subst, arith}
use Rattle.std.specs.List.{flat_map}
use Rattle.std.specs.Prelude.{Contains, All, slice_get, slice_index_or}
use Rattle.ir_core.specs.declared.limits.TheConstants.{MOST_NAME_BYTES}
use Rattle.oi_base.specs.declared.ids.Place.{Place}
use Rattle.oi_base.specs.declared.words.Width.TheVariants.{W32}
use Rattle.ir_core.specs.declared.ty.TypeName.{TypeName}
use Rattle.ir_core.specs.declared.ty.IrType.{IrType}
use Rattle.ir_core.specs.declared.module.Module.{Module}
use Rattle.ir_core.specs.declared.op.LocalId.{LocalId}
use Rattle.ir_core.specs.declared.op.TypedOperand.{TypedOperand}
use Rattle.ir_core.specs.declared.op.End.TheVariants.{Ret}
use Rattle.ir_core.specs.declared.func.Instr.{Instr}
use Rattle.ir_core.specs.declared.func.Block.{Block}
use Rattle.ir_core.specs.declared.func.Func.{Func}
use Rattle.ir_core.specs.Parts.{names_in_type, targets, end_values, operand_locals}
use Rattle.ir_core.specs.Acyclic.{HasNoVoid}
use Rattle.ir_core.specs.Operands.{Step, Ends, operands_of, AtStep, AtInstr}
use Rattle.ir_core.specs.Valid.{IsValid, IsValidFunc}
use Rattle.ir_core.specs.ValidModule.{BreaksMain, BreaksSymbolTwice, BreaksTotals, BreaksTarget, Introduced, name_bytes, IsWrong, IsLayout, IsTriple}
use Rattle.ir_core.specs.ValidTypes.{BreaksTypeNames, BreaksSizes, BreaksAlignments, MakesTooMuch, PromisesWell, TypeUse, type_uses, step_sized, OneIsTooLarge}
use Rattle.ir_core.specs.ValidFunc.{BreaksNames, BreaksReferences, RefersWrongly, IsKnown, BreaksPositions, BreaksEntry}
use Rattle.ir_core.specs.ValidOps.{BreaksTypes, BreaksConstants, BreaksCases, StepAgrees, OperandAgrees, OperandFits, CountFits, HasGoodCases}
use Rattle.ir_core.specs.ValidPaths.{BreaksPhis, IsUse}
use Rattle.ir_core.proofs.RuleExamples.{at, block, main_of, of_funcs, number, entry_label}

-- ---- lists of no element, of one, and of two

none : {A : Type 0} (x : A) → Contains [] x → ⊥
none x c = let lt = c.1 in omega (arith, lt)

only : {A : Type 0} (x y : A) → Contains (x ∷ []) y → x ≡ y
only {A} x y c = by_place c.0 c.1 c.2
  where
    by_place : (k : ℕ) → k < 1 → slice_index_or (x ∷ []) k y ≡ y → x ≡ y
    by_place zero lt e = e
    by_place (suc k) lt e = absurd (omega arith)

both : {A : Type 0} (P : A → Type 0) (x y z : A) → P x → P y → Contains (x ∷ y ∷ []) z → P z
both {A} P x y z p q c = by_place c.0 c.1 c.2
  where
    by_place : (k : ℕ) → k < 2 → slice_index_or (x ∷ y ∷ []) k z ≡ z → P z
    by_place zero lt e = subst P e p
    by_place (suc zero) lt e = subst P e q
    by_place (suc (suc k)) lt e = absurd (omega arith)

nowhere : {A : Type 0} (k : ℕ) (x : A) → slice_get [] k ≡ Some x → ⊥
nowhere k x e = cc

at_zero : {A : Type 0} (x y : A) (k : ℕ) → slice_get (x ∷ []) k ≡ Some y → (k ≡ 0) × (x ≡ y)
at_zero x y zero e = (refl, cc)
at_zero x y (suc k) e = cc

all_one : {A : Type 0} (P : A → Type 0) (x : A) → P x → All P (x ∷ [])
all_one P x p zero d lt = p
all_one P x p (suc k) d lt = absurd (omega arith)

-- ---- the module

abbrev body : Block
body = block 2 0 (Ret (Some number))

abbrev seven : Func
seven = main_of 1 entry_label (body ∷ [])

abbrev whole : Module
whole = of_funcs (seven ∷ [])

main_is_there : (p : Place) → BreaksMain whole p → ⊥
main_is_there p h = h.1 (seven, (0, omega arith, refl), refl, refl, refl, refl)

one_symbol : (p : Place) → BreaksSymbolTwice whole p → ⊥
one_symbol p h = let i = (at_zero _ _ h.0 h.5).0 in let j = (at_zero _ _ h.1 h.6).0 in h.4 (i ∙ sym j)

abbrev HasNoNames : TypeUse → Type 0
HasNoNames u = HasNoVoid u.ty × (names_in_type u.ty ≡ [])

plain_types : (u : TypeUse) → Contains (type_uses whole) u → HasNoNames u
plain_types u c = both HasNoNames _ _ u (tt, refl) (tt, refl) c

no_type_names : (p : Place) → BreaksTypeNames whole p → ⊥
no_type_names p (inl h) = h.3.0 (plain_types h.0 h.1).0
no_type_names p (inr (inl h)) = none h.3.0 (subst (λ (xs : List TypeName). Contains xs h.3.0) (plain_types h.0 h.1).1 h.3.1)
no_type_names p (inr (inr (inl h))) = nowhere h.0 h.2 h.5
no_type_names p (inr (inr (inr h))) = none h.0 h.1

one_step : (s : Step) → Contains (Ends body ∷ []) s → Ends body ≡ s
one_step s c = only (Ends body) s c

same_func : (f : Func) → Contains whole.funcs f → seven ≡ f
same_func f c = only seven f c

same_block : (b : Block) → Contains seven.blocks b → body ≡ b
same_block b c = only body b c

no_code : (b : Block) → body ≡ b → b.code ≡ []
no_code b e = sym (ap Block.code e)

not_in_code : (b : Block) (i : Instr) → body ≡ b → Contains b.code i → ⊥
not_in_code b i e c = none i (subst (λ (code : List Instr). Contains code i) (no_code b e) c)

not_at_code : (b : Block) (n : ℕ) (i : Instr) → body ≡ b → slice_get b.code n ≡ Some i → ⊥
not_at_code b n i e h = nowhere n i (subst (λ (code : List Instr). slice_get code n ≡ Some i) (no_code b e) h)

abbrev SizesIn : Func → Place → Type 0
SizesIn f p = AtStep f p (λ s. OneIsTooLarge [] (step_sized s)) ⊎ AtInstr f p (MakesTooMuch [])

abbrev PromisesIn : Func → Place → Type 0
PromisesIn f p = AtInstr f p (λ i. PromisesWell [] i.op → ⊥)

small : (p : Place) → BreaksSizes whole p → ⊥
small p (inl h) = none h.0 h.1
small p (inr h) = by_func h.0 (same_func h.0 h.1) h.2
  where
    by_part : SizesIn seven p → ⊥
    by_part (inl t) = let none_sized : step_sized t.0 ≡ [] = sym (ap step_sized (one_step t.0 t.1)) in none t.3.0 (subst (λ (ts : List IrType). Contains ts t.3.0) none_sized t.3.1)
    by_part (inr t) = none t.0 t.1

    by_func : (f : Func) → seven ≡ f → SizesIn f p → ⊥
    by_func f e s = by_part (subst (λ (g : Func). SizesIn g p) (sym e) s)

no_totals : (p : Place) → BreaksTotals whole p → ⊥
no_totals p (inl h) = nowhere h.0 h.1 h.2
no_totals p (inr h) =
    let here : at 1 1 ≡ p = ap Introduced.place (only _ h.0 h.1) ∙ h.2 in
    let sum : MOST_NAME_BYTES < name_bytes whole (at 1 1) = subst (λ (q : Place). MOST_NAME_BYTES < name_bytes whole q) (sym here) h.3 in
    omega (arith, sum)

no_alignments : (p : Place) → BreaksAlignments whole p → ⊥
no_alignments p (inl h) = none h.0 h.1
no_alignments p (inr h) = by_func h.0 (same_func h.0 h.1) h.2
  where
    by_func : (f : Func) → seven ≡ f → PromisesIn f p → ⊥
    by_func f e s = let t = subst (λ (g : Func). PromisesIn g p) (sym e) s in none t.0 t.1

no_target : (p : Place) → BreaksTarget whole p → ⊥
no_target p h = by_text h.1
  where
    by_text : IsWrong IsLayout None ⊎ IsWrong IsTriple None → ⊥
    by_text (inl e) = e
    by_text (inr e) = e

-- ---- the function

one_local : (p : Place) → BreaksNames seven p → ⊥
one_local p h = let i = (at_zero _ _ h.0 h.5).0 in let j = (at_zero _ _ h.1 h.6).0 in let lt = h.4 in omega (arith, i, j, lt)

knows_all : (p : Place) → BreaksReferences whole seven p → ⊥
knows_all p h = by_step (subst (RefersWrongly whole seven) (sym (one_step h.0 h.1)) h.3)
  where
    by_step : RefersWrongly whole seven (Ends body) → ⊥
    by_step (inl a) = a.2 (subst (λ (o : TypedOperand). IsKnown whole seven o.value) (only number a.0 a.1) (λ s c. absurd (none s c)))
    by_step (inr x) = none x.0 x.1

no_positions : (p : Place) → BreaksPositions seven p → ⊥
no_positions p h = not_at_code h.2 h.1 h.3 (at_zero body h.2 h.0 h.4).1 h.5

no_way_back : (p : Place) → BreaksEntry seven p → ⊥
no_way_back p h =
    let goes_nowhere : targets h.2.0.end ≡ [] = sym (ap (λ (b : Block). targets b.end) (same_block h.2.0 h.2.1)) in
    none h.0.label (subst (λ (xs : List LocalId). Contains xs h.0.label) goes_nowhere h.2.3)

agrees : StepAgrees [] seven (Ends body)
agrees = (all_one (OperandAgrees [] seven) number (tt, (W32, refl)), refl)

good_types : (p : Place) → BreaksTypes whole seven p → ⊥
good_types p (inl h) = h.1 (inr tt, λ k d lt. absurd (omega (arith, lt)))
good_types p (inr h) = h.3 (subst (StepAgrees [] seven) (one_step h.0 h.1) agrees)

abbrev FitsAt : Step → Type 0
FitsAt s = All OperandFits (operands_of s) × CountFits s

fits : FitsAt (Ends body)
fits = (all_one OperandFits number (W32, refl, omega arith), tt)

good_constants : (p : Place) → BreaksConstants seven p → ⊥
good_constants p h = h.3 (subst FitsAt (one_step h.0 h.1) fits)

good_cases : (p : Place) → BreaksCases whole seven p → ⊥
good_cases p h = h.3 (subst (λ (b : Block). HasGoodCases [] b.end) (same_block h.0 h.1) tt)

no_phis : (p : Place) → BreaksPhis whole seven p → ⊥
no_phis p h = not_in_code h.0 h.1 (same_block h.0 h.4) h.5

uses_nothing : (p : Place) (before : List ℕ) (b n : ℕ) (x : LocalId) → IsUse seven b n x p → ⊥
uses_nothing p before b n x (inl u) = not_at_code u.0 n u.1 (at_zero body u.0 b u.2).1 u.3
uses_nothing p before b n x (inr (inl u)) =
    let none_used : flat_map operand_locals (end_values u.0.end) ≡ [] = sym (ap (λ (k : Block). flat_map operand_locals (end_values k.end)) (at_zero body u.0 b u.1).1) in
    none x (subst (λ (xs : List LocalId). Contains xs x) none_used u.4)
uses_nothing p before b n x (inr (inr u)) = not_in_code u.1 u.2 (same_block u.1 u.8) u.9

good_func : IsValidFunc whole seven
good_func = record {
  names = one_local;
  references = knows_all;
  positions = no_positions;
  entry = no_way_back;
  types = good_types;
  constants = good_constants;
  calls = λ p h. none h.0 h.1;
  phis = no_phis;
  cases = good_cases;
  assignment = λ p h. uses_nothing p h.0 h.1 h.3.0 h.2 h.3.2;
}

pub returns_seven : IsValid whole
returns_seven = record {
  main = main_is_there;
  symbol_twice = one_symbol;
  type_names = no_type_names;
  sizes = small;
  initialisers = λ p h. none h.0 h.1;
  totals = no_totals;
  alignments = no_alignments;
  target = no_target;
  each_func = all_one (IsValidFunc whole) seven good_func;
}
