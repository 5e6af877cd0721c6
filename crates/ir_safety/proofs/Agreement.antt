-- The instructions, phis and ends of a valid module's plain bodies have operands of the types that they need.
use Rattle.std.proofs.Common.{◌≡◌, inl, inr, ℕ, suc, Bool, true, false, if◌then◌else◌, List, [], ◌∷◌, ◌++◌, map, Option, Some, None, slice_get, All, Contains, refl, sym, ap, ◌∙◌, subst, arith}
use Rattle.std.specs.List.{AllByRecursion as Each}
use Rattle.std.specs.Option.{option_map}
use Rattle.std.proofs.lemmas.List.Elements.{All-from_recursion, recursion_from_All, All-map, All-contains}
use Rattle.oi_base.specs.declared.ids.Place.{Place}
use Rattle.oi_base.specs.declared.words.Width.TheVariants.{W1, W32}
use Rattle.ir_core.specs.declared.flat.Scalar.{Scalar}
use Rattle.ir_core.specs.declared.flat.Scalar.TheVariants as scalar
use Rattle.ir_core.specs.declared.flat.FlatOp.{FlatOp}
use Rattle.ir_core.specs.declared.flat.FlatInstr.{FlatInstr}
use Rattle.ir_core.specs.declared.flat.FlatInstr.TheVariants as flat
use Rattle.ir_core.specs.declared.flat.Term.{Term}
use Rattle.ir_core.specs.declared.flat.Entry.{Entry}
use Rattle.ir_core.specs.declared.flat.Phi as flat_phi
use Rattle.ir_core.specs.declared.flat.FlatBlock.{FlatBlock}
use Rattle.ir_core.specs.declared.ty.TypeDef.{TypeDef}
use Rattle.ir_core.specs.declared.ty.IrType.{IrType, Void, Int, Ptr, Array', Struct', Named}
use Rattle.ir_core.specs.declared.module.SymId.{SymId}
use Rattle.ir_core.specs.declared.module.Declaration.{Declaration}
use Rattle.ir_core.specs.declared.module.Module.{Module}
use Rattle.ir_core.specs.declared.op.LocalId.{LocalId}
use Rattle.ir_core.specs.declared.op.TypedOperand.{TypedOperand}
use Rattle.ir_core.specs.declared.op.Pair.{Pair}
use Rattle.ir_core.specs.declared.op.Op.{Op}
use Rattle.ir_core.specs.declared.op.Op.TheVariants as ops
use Rattle.ir_core.specs.declared.op.End.{End}
use Rattle.ir_core.specs.declared.op.End.TheVariants as ends
use Rattle.ir_core.specs.declared.func.Instr.{Instr}
use Rattle.ir_core.specs.declared.func.Block.{Block}
use Rattle.ir_core.specs.declared.func.Func.{Func}
use Rattle.ir_core.specs.Parts.{instrs, types_of, is_defined}
use Rattle.ir_core.specs.Operands.{Step, Does, Ends, steps, op_operands, end_operands, operands_of, symbol_text}
use Rattle.ir_core.specs.Operands.{typed as with_type}
use Rattle.ir_core.specs.Constants.{width_of, scalar_of, element_of, into, inside, walk, path}
use Rattle.ir_core.specs.Formed.{HasType, is_cast, AllTyped, Receives, ReturnsType, IsBlock}
use Rattle.ir_core.specs.Instructions.{register, typed, index, first, func_number, external_call, call, instruction, entry, phi, terminator}
use Rattle.ir_core.specs.Plain.{Numbers, other_reg, other_operand, other_term, other_instr, other_entry, other_phi, other_end, numbers, plain_body}
use Rattle.ir_core.specs.Proper.{HasItsResult, IsProper, IsProperFunc}
use Rattle.ir_core.specs.Valid.{IsValid, IsValidFunc}
use Rattle.ir_core.specs.ValidConsts.{IsInteger, Walk, WalkFrom, index_of}
use Rattle.ir_core.specs.ValidModule.{Introduced, introduced, introduced_globals, introduced_funcs}
use Rattle.ir_core.specs.ValidOps.{IsScalar, op_result, LocalHasType, OperandAgrees, OpAgrees, EndAgrees, DoesAgree, StepAgrees, OperandFits, CountFits, IsDefinedAs, IsExternal, CallsWell}
use Rattle.ir_core.proofs.Lists.{Has, has_right, has_at, at_has, all_at, has_in, has_mapped}
use Rattle.ir_safety.proofs.Safe.{NotFalse, true_too, and_so, in_turn, IsTypedInstr, IsTypedEnd}
use Rattle.ir_safety.proofs.Elements.{each_joined}
use Rattle.ir_safety.proofs.PlainEdges.{block_of}
use Rattle.ir_safety.proofs.PlainSources.{is_instr, does, ends, step_agrees, step_fits, code_source, phi_source}
use Rattle.ir_safety.specs.PlainTypes.{func_types, result_scalar, func_type, plain_funcs}
use Rattle.ir_safety.proofs.Named.{Two, introduced_once, HasFunc, named_func, named_any}

-- ---- lists

each_both : {A : Type 0} (P Q R : A → Type 0) (xs : List A) → ((x : A) → P x → Q x → R x) → Each P xs → Each Q xs → Each R xs
each_both P Q R [] f p q = tt
each_both P Q R (x ∷ xs) f p q = (f x p.0 q.0, each_both P Q R xs f p.1 q.1)

two_parts : {A : Type 0} (xs ys : List A) (a b : A) → Has xs a → Has ys b → Two (xs ++ ys) a b
two_parts [] ys a b h k = absurd h
two_parts (x ∷ xs) ys a b (inl e) k = let r = at_has (xs ++ ys) b (has_right xs ys b k) in (0, suc r.0, omega arith, ap Some e, r.1)
two_parts (x ∷ xs) ys a b (inr h) k = let r = two_parts xs ys a b h k in let lt = r.2 in (suc r.0, suc r.1, omega (arith, lt), r.3, r.4)

-- ---- types

integer_scalar : (t : IrType) → IsInteger t → scalar_of t ≡ scalar.Word (width_of t)
integer_scalar t i = subst (λ (u : IrType). scalar_of u ≡ scalar.Word (width_of u)) (sym i.1) refl

not_void : (t : IrType) → (t ≡ Void → ⊥) → result_scalar t ≡ Some (scalar_of t)
not_void Void h = absurd (h refl)
not_void (Int w) h = refl
not_void Ptr h = refl
not_void (Array' n _ items) h = refl
not_void (Struct' n fields) h = refl
not_void (Named x) h = refl

scalar_result : (t : IrType) → IsScalar t → result_scalar t ≡ Some (scalar_of t)
scalar_result Void h = absurd h
scalar_result (Int w) h = refl
scalar_result Ptr h = refl
scalar_result (Array' n _ items) h = absurd h
scalar_result (Struct' n fields) h = absurd h
scalar_result (Named x) h = absurd h

walk_integers : (defs : List TypeDef) (is : List TypedOperand) (t : IrType) → Walk defs t (map index_of is) → Each (λ (a : TypedOperand). IsInteger a.ty) is
walk_integers defs [] t w = tt
walk_integers defs (i ∷ is) t w = (w.0, walk_integers defs is w.1.0 w.1.2)

all_integers : (defs : List TypeDef) (is : List TypedOperand) (t : IrType) → WalkFrom defs t (map index_of is) → Each (λ (a : TypedOperand). IsInteger a.ty) is
all_integers defs [] t w = tt
all_integers defs (i ∷ is) t w = (w.0, walk_integers defs is t w.1)

-- what has a name is not void
abbrev NotVoid : Option LocalId → IrType → Type 0
NotVoid r t = (d : LocalId) → r ≡ Some d → t ≡ Void → ⊥

-- so is the result of a call
has_no_void : (p : Place) (r : Option LocalId) (t : IrType) (s : SymId) (as' : List TypedOperand) → HasItsResult (record { place = p; result = r; op = ops.Call t s as' }) → NotVoid r t
has_no_void p None t s as' h d e v = cc
has_no_void p (Some x) t s as' h d e v =
    let clash : true ≡ false = subst (λ (u : IrType). HasItsResult (record { place = p; result = Some x; op = ops.Call u s as' })) v h in cc

-- ---- names of functions

abbrev introduced_func : Func → Introduced
introduced_func f = record { name = f.name; place = f.place }

abbrev introduced_declaration : Declaration → Introduced
introduced_declaration d = record { name = d.name; place = d.place }

module _ (m : Module) (valid : IsValid m) where
  func_first : (f : Func) (d : Declaration) → Has m.funcs f → Has m.declared d → Two (introduced m) (introduced_func f) (introduced_declaration d)
  func_first f d h k =
      let named : List Introduced = introduced_globals m ++ introduced_funcs m in
      let func : Has named (introduced_func f) = has_right (introduced_globals m) (introduced_funcs m) (introduced_func f) (has_mapped introduced_func m.funcs f h) in
      two_parts named (map introduced_declaration m.declared) (introduced_func f) (introduced_declaration d) func (has_mapped introduced_declaration m.declared d k)

  -- what is declared is not defined
  declared_only : (s : SymId) (d : Declaration) → Has m.declared d → d.name ≡ s → is_defined m s ≡ true → ⊥
  declared_only s d h e defined = let g : HasFunc s m.funcs = named_func s m.funcs defined in introduced_once m valid (introduced_func g.0) (introduced_declaration d) (func_first g.0 d g.1 h) (g.2 ∙ sym e)

-- ---- instructions

module _ (m : Module) (f : Func) where
  abbrev types : ℕ → Scalar
  types = func_types f

  abbrev n : Numbers
  n = numbers f

  abbrev there : TypedOperand → FlatOp
  there a = other_operand n (typed m a)

  -- an operand of the body has the type with which it stands
  abbrev IsOperand : TypedOperand → Type 0
  IsOperand a = IsScalar a.ty × HasType types (there a) (scalar_of a.ty)

  -- so has a result
  abbrev ResultHas : Option LocalId → IrType → Type 0
  ResultHas r t = (d : LocalId) → r ≡ Some d → types (n.reg d.0) ≡ scalar_of t

  abbrev IsGood : Option FlatInstr → Type 0
  IsGood None = Unit {0}
  IsGood (Some i) = IsTypedInstr types (plain_funcs m) (other_instr n i)

  abbrev called : Option LocalId → SymId → List TypedOperand → FlatInstr
  called r s as' = call m (option_map register r) s (map (typed m) as')

  abbrev IsGoodCall : Option LocalId → Op → Type 0
  IsGoodCall r (ops.Call t s as') = IsTypedInstr types (plain_funcs m) (other_instr n (called r s as'))
  IsGoodCall r _ = Unit {0}

  of_type : (a : TypedOperand) (t : IrType) → a.ty ≡ t → IsOperand a → HasType types (there a) (scalar_of t)
  of_type a t e h = subst (λ (u : IrType). HasType types (there a) (scalar_of u)) e h.1

  of_word : (a : TypedOperand) → IsInteger a.ty → IsOperand a → HasType types (there a) (scalar.Word (width_of a.ty))
  of_word a i h = subst (HasType types (there a)) (integer_scalar a.ty i) h.1

  -- ---- addresses

  abbrev IsIndex : TypedOperand → Type 0
  IsIndex a = HasType types (there a) (scalar.Word (width_of a.ty))

  abbrev IsTerm : Term → Type 0
  IsTerm t = HasType types (other_operand n t.operand) (scalar.Word t.width)

  into_typed : (t : IrType) (o : Option IrType) (i : TypedOperand) → IsIndex i → Each IsTerm (into m.types.defs t o (index m i)).terms
  into_typed t None i h = tt
  into_typed t (Some item) i h = (h, tt)

  walk_typed : (is : List TypedOperand) (t : IrType) → Each IsIndex is → Each IsTerm (walk m.types.defs t (map (index m) is)).terms
  walk_typed [] t h = tt
  walk_typed (i ∷ is) t h =
      let o = element_of m.types.defs t in
      let u = inside m.types.defs t o (index m i) in
      each_joined IsTerm (into m.types.defs t o (index m i)).terms (walk m.types.defs u (map (index m) is)).terms (into_typed t o i h.0) (walk_typed is u h.1)

  path_typed : (is : List TypedOperand) (t : IrType) → Each IsIndex is → Each IsTerm (path m.types.defs t (map (index m) is)).terms
  path_typed [] t h = tt
  path_typed (i ∷ is) t h = (h.0, walk_typed is t h.1)

  terms_typed : (is : List TypedOperand) (t : IrType) → WalkFrom m.types.defs t (map index_of is) → Each IsOperand is
      → All (λ (t : Term). HasType types t.operand (scalar.Word t.width)) (map (other_term n) (path m.types.defs t (map (index m) is)).terms)
  terms_typed is t w h =
      let all : Each IsIndex is = each_both (λ (a : TypedOperand). IsInteger a.ty) IsOperand IsIndex is (λ a i o. of_word a i o) (all_integers m.types.defs is t w) h in
      let terms : List Term = (path m.types.defs t (map (index m) is)).terms in
      All-map (λ (t : Term). HasType types t.operand (scalar.Word t.width)) (other_term n) terms (All-from_recursion IsTerm terms (path_typed is t all))

  -- ---- all instructions but calls

  op_typed : (r : Option LocalId) (op : Op) → ResultHas r (op_result op) → Each IsOperand (op_operands op) → OpAgrees m.types.defs op → IsGoodCall r op → IsGood (instruction m r op)
  op_typed (Some d) (ops.Bin op t a b) e h k c =
      let s : scalar_of t ≡ scalar.Word (width_of t) = integer_scalar t k in
      (e d refl ∙ s, subst (HasType types (there (with_type t a))) s h.0.1, subst (HasType types (there (with_type t b))) s h.1.0.1)
  op_typed (Some d) (ops.Icmp test t a b) e h k c = (e d refl, h.0.1, h.1.0.1)
  op_typed (Some d) (ops.Select i a b) e h k c =
      let s : scalar_of a.ty ≡ types (n.reg d.0) = sym (e d refl) in
      (of_type i (Int W1) k.0 h.0, subst (HasType types (there a)) s h.1.0.1, subst (HasType types (there b)) s (of_type b a.ty (sym k.1) h.1.1.0))
  op_typed (Some d) (ops.Cast cast a t) e h k c = (
    e d refl ∙ integer_scalar t (k.1, k.3),
    of_word a (k.0, k.2) h.0,
    subst (λ (u : IrType). is_cast cast (width_of u) (width_of t)) (sym k.2) (subst (λ (u : IrType). is_cast cast k.0 (width_of u)) (sym k.3) k.4),
  )
  op_typed (Some d) (ops.Alloca t count stated) e h k c = e d refl
  op_typed (Some d) (ops.Load t a stated) e h k c = (e d refl, of_type a Ptr k.1 h.0)
  op_typed (Some d) (ops.Gep t a is) e h k c = (e d refl, of_type a Ptr k.0 h.0, terms_typed is t k.1 h.1)
  op_typed (Some d) (ops.Store a p stated) e h k c = (h.0.1, of_type p Ptr k h.1.0)
  op_typed (Some d) (ops.Call t s as') e h k c = c
  op_typed (Some d) (ops.Phi t es) e h k c = tt
  op_typed None (ops.Bin op t a b) e h k c = tt
  op_typed None (ops.Icmp test t a b) e h k c = tt
  op_typed None (ops.Select i a b) e h k c = tt
  op_typed None (ops.Cast cast a t) e h k c = tt
  op_typed None (ops.Alloca t count stated) e h k c = tt
  op_typed None (ops.Load t a stated) e h k c = tt
  op_typed None (ops.Gep t a is) e h k c = tt
  op_typed None (ops.Store a p stated) e h k c = (h.0.1, of_type p Ptr k h.1.0)
  op_typed None (ops.Call t s as') e h k c = c
  op_typed None (ops.Phi t es) e h k c = tt

  -- ---- calls

  args_typed : (as' : List TypedOperand) → Each IsOperand as' → AllTyped types (map (other_operand n) (map (typed m) as')) (map scalar_of (types_of as'))
  args_typed [] h = tt
  args_typed (a ∷ as') h = (h.0.1, args_typed as' h.1)

  -- the one argument of an external
  first_typed : (as' : List TypedOperand) → types_of as' ≡ Int W32 ∷ [] → Each IsOperand as' → HasType types (other_operand n (first (map (typed m) as'))) (scalar.Word W32)
  first_typed [] e h = absurd (let clash : [] ≡ Int W32 ∷ [] = e in cc)
  first_typed (a ∷ as') e h = let same : a.ty ≡ Int W32 = cc in of_type a (Int W32) same h.0

  receives : (r : Option LocalId) (t : IrType) (s : Option Scalar) → ResultHas r t → ((d : LocalId) → r ≡ Some d → s ≡ Some (scalar_of t)) → Receives types (option_map (other_reg n) (option_map register r)) s
  receives None t s e h = tt
  receives (Some d) t s e h = h d refl ∙ ap Some (sym (e d refl))

  -- what a call of the name is: that of a function of the module, or an external
  abbrev CallIs : Bool → List ℕ → Option LocalId → SymId → List TypedOperand → FlatInstr
  CallIs defined text r s as' =
      let inner = flat.Call (option_map register r) (record { 0 = func_number m s }) (map (typed m) as') in
      if defined then inner else external_call text (option_map register r) (map (typed m) as') inner

  abbrev IsGoodRow : FlatInstr → Type 0
  IsGoodRow i = IsTypedInstr types (plain_funcs m) (other_instr n i)

  external_typed : (r : Option LocalId) (t : IrType) (s : SymId) (as' : List TypedOperand) → ResultHas r t → Each IsOperand as' → (text : List ℕ) → IsExternal text t (types_of as') → IsGoodRow (CallIs false text r s as')
  external_typed r t s as' e h text (inl x) =
      subst (λ (text : List ℕ). IsGoodRow (CallIs false text r s as')) (sym x.0) (first_typed as' x.2 h, receives r t (Some (scalar.Word W32)) e (λ d _. ap (λ (u : IrType). Some (scalar_of u)) (sym x.1)))
  external_typed r t s as' e h text (inr (inl x)) =
      subst (λ (text : List ℕ). IsGoodRow (CallIs false text r s as')) (sym x.0) (receives r t (Some (scalar.Word W32)) e (λ d _. ap (λ (u : IrType). Some (scalar_of u)) (sym x.1)))
  external_typed r t s as' e h text (inr (inr x)) = subst (λ (text : List ℕ). IsGoodRow (CallIs false text r s as')) (sym x.0) (first_typed as' x.2 h)

  abbrev CalleeIs : SymId → IrType → List IrType → Type 0
  CalleeIs s t ts = ((plain_funcs m (func_number m s)).params ≡ map scalar_of ts) × ((plain_funcs m (func_number m s)).result ≡ result_scalar t)

  inner_typed : (r : Option LocalId) (t : IrType) (s : SymId) (as' : List TypedOperand) → ResultHas r t → NotVoid r t → Each IsOperand as' → CalleeIs s t (types_of as') → IsGoodRow (CallIs true (symbol_text m s) r s as')
  inner_typed r t s as' e no_void h callee = (
    subst (AllTyped types (map (other_operand n) (map (typed m) as'))) (sym callee.0) (args_typed as' h),
    receives r t (plain_funcs m (func_number m s)).result e (λ d same. callee.1 ∙ not_void t (no_void d same)),
  )

  module _ (valid : IsValid m) (callee_type : (s : SymId) (t : IrType) (ts : List IrType) → IsDefinedAs m s t ts → NotFalse (CalleeIs s t ts)) where
    call_typed : (r : Option LocalId) (t : IrType) (s : SymId) (as' : List TypedOperand) → ResultHas r t → NotVoid r t → Each IsOperand as' → CallsWell m (ops.Call t s as') → NotFalse (IsGoodRow (called r s as'))
    call_typed r t s as' e no_void h (inl well) =
        let defined : is_defined m s ≡ true = named_any s m.funcs well.0 (has_in m.funcs well.0 well.1) well.2 in
        in_turn (callee_type s t (types_of as') well) (λ (callee : CalleeIs s t (types_of as')). subst (λ (d : Bool). IsGoodRow (CallIs d (symbol_text m s) r s as')) (sym defined) (inner_typed r t s as' e no_void h callee))
    call_typed r t s as' e no_void h (inr well) = true_too (by_defined (is_defined m s) refl)
      where
        by_defined : (d : Bool) → is_defined m s ≡ d → IsGoodRow (CallIs d (symbol_text m s) r s as')
        by_defined true d = absurd (declared_only m valid s well.0 (has_in m.declared well.0 well.1) well.2 d)
        by_defined false d = external_typed r t s as' e h (symbol_text m s) well.3

    good_call : (p : Place) (r : Option LocalId) (op : Op) → HasItsResult (record { place = p; result = r; op = op }) → ResultHas r (op_result op) → Each IsOperand (op_operands op) → CallsWell m op → NotFalse (IsGoodCall r op)
    good_call p r (ops.Bin op t a b) its e h w = true_too tt
    good_call p r (ops.Icmp test t a b) its e h w = true_too tt
    good_call p r (ops.Select i a b) its e h w = true_too tt
    good_call p r (ops.Cast cast a t) its e h w = true_too tt
    good_call p r (ops.Alloca t count stated) its e h w = true_too tt
    good_call p r (ops.Load t a stated) its e h w = true_too tt
    good_call p r (ops.Gep t a is) its e h w = true_too tt
    good_call p r (ops.Store a to stated) its e h w = true_too tt
    good_call p r (ops.Phi t es) its e h w = true_too tt
    good_call p r (ops.Call t s as') its e h w = call_typed r t s as' e (has_no_void p r t s as' its) h w

  -- ---- phis

  abbrev IsGoodPhi : Option flat_phi.Phi → Type 0
  IsGoodPhi None = Unit {0}
  IsGoodPhi (Some q) = All (λ (e : Entry). HasType types e.value (types (other_phi n q).reg.0)) (other_phi n q).entries

  entries_typed : (t : IrType) (s : Scalar) → scalar_of t ≡ s → (es : List Pair) → Each IsOperand (map (λ (e : Pair). with_type t e.value) es) → Each (λ (e : Entry). HasType types e.value s) (map (other_entry n) (map (entry m t) es))
  entries_typed t s same [] h = tt
  entries_typed t s same (e ∷ es) h = (subst (HasType types (there (with_type t e.value))) same h.0.1, entries_typed t s same es h.1)

  phi_typed : (r : Option LocalId) (op : Op) → ResultHas r (op_result op) → Each IsOperand (op_operands op) → IsGoodPhi (phi m r op)
  phi_typed (Some d) (ops.Bin op t a b) e h = tt
  phi_typed (Some d) (ops.Icmp test t a b) e h = tt
  phi_typed (Some d) (ops.Select i a b) e h = tt
  phi_typed (Some d) (ops.Cast cast a t) e h = tt
  phi_typed (Some d) (ops.Alloca t count stated) e h = tt
  phi_typed (Some d) (ops.Load t a stated) e h = tt
  phi_typed (Some d) (ops.Gep t a is) e h = tt
  phi_typed (Some d) (ops.Store a p stated) e h = tt
  phi_typed (Some d) (ops.Call t s as') e h = tt
  phi_typed (Some d) (ops.Phi t es) e h =
      All-from_recursion (λ (e : Entry). HasType types e.value (types (n.reg d.0))) (map (other_entry n) (map (entry m t) es)) (entries_typed t (types (n.reg d.0)) (sym (e d refl)) es h)
  phi_typed None op e h = tt

  -- ---- ends

  end_typed : (e : End) → Each IsOperand (end_operands e) → EndAgrees f e → IsTypedEnd types (func_type f).result (other_end n (terminator m e))
  end_typed (ends.Ret None) h k = subst (λ (t : IrType). ReturnsType types (result_scalar t) None) (sym k) tt
  end_typed (ends.Ret (Some a)) h k =
      subst (λ (t : IrType). ReturnsType types (result_scalar t) (Some (there a))) k (subst (λ (s : Option Scalar). ReturnsType types s (Some (there a))) (sym (scalar_result a.ty h.0.0)) h.0.1)
  end_typed (ends.Br b) h k = tt
  end_typed (ends.Cond c x y) h k = of_type c (Int W1) k h.0
  end_typed (ends.Switch a other cases) h k = of_word a k.0 h.0
  end_typed ends.Unreachable h k = tt

-- ---- a function of a module, its operands, locals and callees being of the types with which they stand

module _ (m : Module) (g : ℕ) (f : Func) (proper : IsProper m) (valid : IsValid m) (found : slice_get m.funcs g ≡ Some f)
    (operand_typed : (a : TypedOperand) → OperandAgrees m.types.defs f a → OperandFits a → HasType (func_types f) (other_operand (numbers f) (typed m a)) (scalar_of a.ty))
    (local_type : (x : LocalId) (t : IrType) → LocalHasType f x t → func_types f ((numbers f).reg x.0) ≡ scalar_of t)
    (callee_type : (s : SymId) (t : IrType) (ts : List IrType) → IsDefinedAs m s t ts → NotFalse (((plain_funcs m (func_number m s)).params ≡ map scalar_of ts) × ((plain_funcs m (func_number m s)).result ≡ result_scalar t))) where
  rules : IsValidFunc m f
  rules = all_at (IsValidFunc m) m.funcs g f valid.each_func found

  proper_func : IsProperFunc f
  proper_func = all_at IsProperFunc m.funcs g f proper.each_func found

  step_typed : (s : Step) → Has (steps f) s → NotFalse (Each (IsOperand m f) (operands_of s) × DoesAgree m.types.defs f s)
  step_typed s h =
      and_so (step_agrees m f rules s h) (λ (agrees : StepAgrees m.types.defs f s).
      in_turn (step_fits m f rules s h) (λ (fits : All OperandFits (operands_of s) × CountFits s). (
        each_both (OperandAgrees m.types.defs f) OperandFits (IsOperand m f) (operands_of s) (λ (a : TypedOperand) (x : OperandAgrees m.types.defs f a) (y : OperandFits a). (x.0, operand_typed a x y))
            (recursion_from_All (OperandAgrees m.types.defs f) (operands_of s) agrees.0) (recursion_from_All OperandFits (operands_of s) fits.0),
        agrees.1,
      )))

  -- ---- a block of the function

  -- the entries of a phi have the type of its register
  abbrev AreEntries : flat_phi.Phi → Type 0
  AreEntries q = All (λ (e : Entry). HasType (func_types f) e.value (func_types f q.reg.0)) q.entries

  module _ (b : Block) (here : Has f.blocks b) where
    module _ (i : Instr) (inside : Has b.code i) where
      stands : Contains (instrs f) i
      stands = is_instr f b here i inside

      result_has : ResultHas m f i.result (op_result i.op)
      result_has d e = local_type d (op_result i.op) (inr (i, stands, e, refl))

      instr_typed : NotFalse (IsGood m f (instruction m i.result i.op))
      instr_typed =
          and_so (step_typed (Does i) (does f b here i inside)) (λ (s : Each (IsOperand m f) (op_operands i.op) × OpAgrees m.types.defs i.op).
          and_so (λ (no : CallsWell m i.op → ⊥). rules.calls i.place (i, stands, refl, no)) (λ (well : CallsWell m i.op).
          in_turn (good_call m f valid callee_type i.place i.result i.op (All-contains HasItsResult (instrs f) i proper_func.results stands) result_has s.0 well) (λ (c : IsGoodCall m f i.result i.op).
          op_typed m f i.result i.op result_has s.0 s.1 c)))

      row_typed : (row it : FlatInstr) → instruction m i.result i.op ≡ Some row → other_instr (numbers f) row ≡ it → NotFalse (IsTypedInstr (func_types f) (plain_funcs m) it)
      row_typed row it made same = in_turn instr_typed (λ (good : IsGood m f (instruction m i.result i.op)). subst (IsTypedInstr (func_types f) (plain_funcs m)) same (subst (IsGood m f) made good))

      phi_entries : NotFalse (IsGoodPhi m f (phi m i.result i.op))
      phi_entries = in_turn (step_typed (Does i) (does f b here i inside)) (λ (s : Each (IsOperand m f) (op_operands i.op) × OpAgrees m.types.defs i.op). phi_typed m f i.result i.op result_has s.0)

      phi_row : (row q : flat_phi.Phi) → phi m i.result i.op ≡ Some row → other_phi (numbers f) row ≡ q → NotFalse (AreEntries q)
      phi_row row q made same = in_turn phi_entries (λ (good : IsGoodPhi m f (phi m i.result i.op)). subst AreEntries same (subst (IsGoodPhi m f) made good))

    block_end : NotFalse (IsTypedEnd (func_types f) (func_type f).result (other_end (numbers f) (terminator m b.end)))
    block_end =
        in_turn (step_typed (Ends b) (ends f b here))
        (λ (s : Each (IsOperand m f) (end_operands b.end) × EndAgrees f b.end). end_typed m f b.end s.0 s.1)

  -- ---- the plain body

  pub code_typed : (x p : ℕ) (k : FlatBlock) (i : FlatInstr) → IsBlock (plain_body m f) x k → slice_get k.code p ≡ Some i → NotFalse (IsTypedInstr (func_types f) (plain_funcs m) i)
  code_typed x p k i at e =
      let b = block_of m f x k at in
      let s = code_source m f b.0 i (subst (λ (l : FlatBlock). Has l.code i) (sym b.2) (has_at k.code p i e)) in
      row_typed b.0 (has_at f.blocks x b.0 b.1) s.0 s.2 s.1 i s.3 s.4

  pub phi_types : (x : ℕ) (k : FlatBlock) (q : flat_phi.Phi) → IsBlock (plain_body m f) x k → Contains k.phis q → NotFalse (All (λ (e : Entry). HasType (func_types f) e.value (func_types f q.reg.0)) q.entries)
  phi_types x k q at e =
      let b = block_of m f x k at in
      let s = phi_source m f b.0 q (subst (λ (l : FlatBlock). Has l.phis q) (sym b.2) (has_in k.phis q e)) in
      phi_row b.0 (has_at f.blocks x b.0 b.1) s.0 s.2 s.1 q s.3 s.4

  pub ends_typed : (x : ℕ) (k : FlatBlock) → IsBlock (plain_body m f) x k → NotFalse (IsTypedEnd (func_types f) (func_type f).result k.end)
  ends_typed x k at =
      let b = block_of m f x k at in
      subst (λ (l : FlatBlock). NotFalse (IsTypedEnd (func_types f) (func_type f).result l.end)) b.2
      (block_end b.0 (has_at f.blocks x b.0 b.1))
