-- The places at which the rule of calls is broken.
use Rattle.std.proofs.Common.{◌≡◌, ◌≢◌, ◌⊎◌, inl, inr, refl, sym, ap, ◌∙◌, subst, Bool, true, false, not, ◌&&◌, ◌||◌, nat_eq, bytes_eq, ℕ, zero, suc, ◌+◌, List, [], ◌∷◌, ◌++◌, map, codes, Option, Some, None, slice_get, Contains, length, arith}
use Rattle.std.specs.List.{flat_map, list_any, position}
use Rattle.std.specs.Option.{option_and_then}
use Rattle.std.proofs.lemmas.Bool.Decides.{nat_tests}
use Rattle.std.proofs.lemmas.Grind.{flat_map-append}
use Rattle.std.proofs.lemmas.Option.{slice_get_within}
use Rattle.std.proofs.lemmas.List.{length-append}
use Rattle.std.proofs.lemmas.Slice.Eq.{bytes_eq-Decides}
use Rattle.oi_base.specs.declared.ids.Place.{Place}
use Rattle.oi_base.specs.declared.words.Width.TheVariants.{W32}
use Rattle.ir_core.specs.declared.ty.IrType.{IrType, Void, Int, Ptr, Array', Struct', Named}
use Rattle.ir_core.specs.declared.module.SymId.{SymId}
use Rattle.ir_core.specs.declared.module.Declaration.{Declaration}
use Rattle.ir_core.specs.declared.module.Module.{Module}
use Rattle.ir_core.specs.declared.op.TypedOperand.{TypedOperand}
use Rattle.ir_core.specs.declared.op.Op.{Op}
use Rattle.ir_core.specs.declared.op.Op.TheVariants.{Bin, Icmp, Select, Cast, Alloca, Load, Store, Gep, Phi, Call}
use Rattle.ir_core.specs.declared.func.Instr.{Instr}
use Rattle.ir_core.specs.declared.func.Block.{Block}
use Rattle.ir_core.specs.declared.func.Func.{Func}
use Rattle.ir_core.specs.declared.func.Param.{Param}
use Rattle.ir_core.specs.Parts.{instrs, types_of}
use Rattle.ir_core.specs.Operands.{Does, Ends, steps, block_steps, is_up_to, symbol_text}
use Rattle.ir_core.specs.ValidModule.{Introduced, introduced, introduced_globals, introduced_funcs, BreaksSymbolTwice}
use Rattle.ir_core.specs.ValidOps.{IsScalar, IsResultType, StepAgrees, OperandAgrees, IsDefinedAs, IsExternal, IsDeclaredAs, CallsWell, BreaksTypes, BreaksCalls}
use Rattle.ir_core.proofs.Lists.{Has, has_left, has_part, contains, at_has, has_at}
use Rattle.module_rules.specs.First.{earliest, IsFound}
use Rattle.ir_core.specs.Types.{is_word}
use Rattle.ir_verifier.specs.CallFaults.{same_kind, same_kinds, func_number, declared_number, func_numbers, declared_numbers, callee, is_void, is_one_word, is_none, is_putchar, is_getchar, is_exit, fits_external, fits_func, fits_callee, op_calls_well, call_fault, block_call_faults, call_faults}
use Rattle.std.specs.Bool.{Decides}
use Rattle.std.proofs.lemmas.Bool.Decides.{Decides-not}
use Rattle.module_rules.proofs.WalkLaws.{word_decides}
use Rattle.module_rules.proofs.Decided.{always, false_is_not_true}
use Rattle.module_rules.proofs.Faulty.{has}
use Rattle.module_rules.proofs.At.{found_in}
use Rattle.ir_verifier.proofs.PlainOperands.{all_of}
use Rattle.module_rules.proofs.Earliest.{up_to_total}
use Rattle.module_rules.proofs.SameTypeLaws.{two_true}
use Rattle.ir_verifier.proofs.KindLaws.{of_kind, of_kinds, kind_of_scalar, kind_of_result}
use Rattle.module_rules.proofs.Sets.{number_decides, in_numbers, numbers_in, has_mapped, mapped_has, has_made, symbol_of}
use Rattle.module_rules.proofs.Distinct.{IsDistinct, distinct_numbers, position_is, no_position, map_at, at_in_next, at_in_first}

-- ---- kinds of the types of arguments

abbrev ty_of_param : Param → IrType
ty_of_param q = q.ty

abbrev ty_of : TypedOperand → IrType
ty_of a = a.ty

kinds_of : (qs : List Param) (as' : List TypedOperand) → map ty_of_param qs ≡ map ty_of as' → ((a : TypedOperand) → Has as' a → IsScalar a.ty) → same_kinds qs as' ≡ true
kinds_of [] [] e s = refl
kinds_of [] (a ∷ as') e s = absurd (let clash : [] ≡ a.ty ∷ map ty_of as' = e in cc)
kinds_of (q ∷ qs) [] e s = absurd (let clash : q.ty ∷ map ty_of_param qs ≡ [] = e in cc)
kinds_of (q ∷ qs) (a ∷ as') e s =
    let both : q.ty ∷ map ty_of_param qs ≡ a.ty ∷ map ty_of as' = e in
    let first : q.ty ≡ a.ty = cc in
    let rest : map ty_of_param qs ≡ map ty_of as' = cc in
    let k : same_kind q.ty a.ty ≡ true = subst (λ (t : IrType). same_kind t a.ty ≡ true) (sym first) (kind_of_scalar a.ty (s a (inl refl))) in
    rw k (kinds_of qs as' rest (λ b h. s b (inr h)))

-- ---- externals

word_kind : (t : IrType) → is_word t ≡ true → t ≡ Int W32
word_kind t e = (word_decides t).0 e

one_word : (as' : List TypedOperand) → is_one_word as' ≡ true → types_of as' ≡ Int W32 ∷ []
one_word [] e = absurd (false_is_not_true e)
one_word (a ∷ []) e = ap (λ (t : IrType). t ∷ []) (word_kind a.ty e)
one_word (a ∷ b ∷ as') e = absurd (false_is_not_true e)

word_one : (as' : List TypedOperand) → types_of as' ≡ Int W32 ∷ [] → is_one_word as' ≡ true
word_one [] e = absurd (let clash : [] ≡ Int W32 ∷ [] = e in cc)
word_one (a ∷ []) e = let one : a.ty ∷ [] ≡ Int W32 ∷ [] = e in ap is_word (let same : a.ty ≡ Int W32 = cc in same)
word_one (a ∷ b ∷ as') e = absurd (let clash : a.ty ∷ b.ty ∷ types_of as' ≡ Int W32 ∷ [] = e in cc)

no_types : (as' : List TypedOperand) → is_none as' ≡ true → types_of as' ≡ []
no_types [] e = refl
no_types (a ∷ as') e = absurd (false_is_not_true e)

types_none : (as' : List TypedOperand) → types_of as' ≡ [] → is_none as' ≡ true
types_none [] e = refl
types_none (a ∷ as') e = absurd (let clash : a.ty ∷ types_of as' ≡ [] = e in cc)

all_true : (a b c : Bool) → (a && b && c) ≡ true → (a ≡ true) × (b ≡ true) × (c ≡ true)
all_true true true true e = (refl, refl, refl)
all_true true true false e = absurd (false_is_not_true e)
all_true true false c e = absurd (false_is_not_true e)
all_true false b c e = absurd (false_is_not_true e)

same_bytes : (xs ys : List ℕ) → bytes_eq xs ys ≡ true → xs ≡ ys
same_bytes xs ys e = (bytes_eq-Decides xs ys).0 e

bytes_same : (xs ys : List ℕ) → xs ≡ ys → bytes_eq xs ys ≡ true
bytes_same xs ys e = (bytes_eq-Decides xs ys).1 e

external_of : (name : List ℕ) (t : IrType) (as' : List TypedOperand) → fits_external name t as' ≡ true → IsExternal name t (types_of as')
external_of name t as' e = by_tests (is_putchar name t as') (is_getchar name t as') (is_exit name t as') refl refl refl e
  where
    by_tests : (a b c : Bool) → is_putchar name t as' ≡ a → is_getchar name t as' ≡ b → is_exit name t as' ≡ c → (a || (b || c)) ≡ true → IsExternal name t (types_of as')
    by_tests true b c p q r h =
        let all = all_true (bytes_eq name (codes "putchar")) (is_word t) (is_one_word as') p in
        inl (same_bytes name (codes "putchar") all.0, word_kind t all.1, one_word as' all.2)
    by_tests false true c p q r h =
        let all = all_true (bytes_eq name (codes "getchar")) (is_word t) (is_none as') q in
        inr (inl (same_bytes name (codes "getchar") all.0, word_kind t all.1, no_types as' all.2))
    by_tests false false true p q r h =
        let all = all_true (bytes_eq name (codes "exit")) (is_void t) (is_one_word as') r in
        inr (inr (same_bytes name (codes "exit") all.0, of_kind t Void all.1, one_word as' all.2))
    by_tests false false false p q r h = absurd (false_is_not_true h)

three : (a b c : Bool) → a ≡ true → b ≡ true → c ≡ true → (a && b && c) ≡ true
three a b c e f g = rw e (rw f g)

to_external : (name : List ℕ) (t : IrType) (as' : List TypedOperand) → IsExternal name t (types_of as') → fits_external name t as' ≡ true
to_external name t as' (inl h) =
    let p : is_putchar name t as' ≡ true = three (bytes_eq name (codes "putchar")) (is_word t) (is_one_word as') (bytes_same name (codes "putchar") h.0) (ap is_word h.1) (word_one as' h.2) in
    ap (λ (b : Bool). b || (is_getchar name t as' || is_exit name t as')) p
to_external name t as' (inr (inl h)) =
    let p : is_getchar name t as' ≡ true = three (bytes_eq name (codes "getchar")) (is_word t) (is_none as') (bytes_same name (codes "getchar") h.0) (ap is_word h.1) (types_none as' h.2) in
    either (is_putchar name t as') (is_getchar name t as') (is_exit name t as') p
  where
    either : (a b c : Bool) → b ≡ true → (a || (b || c)) ≡ true
    either true b c e = refl
    either false b c e = rw e refl
to_external name t as' (inr (inr h)) =
    let p : is_exit name t as' ≡ true = three (bytes_eq name (codes "exit")) (is_void t) (is_one_word as') (bytes_same name (codes "exit") h.0) (ap is_void h.1) (word_one as' h.2) in
    last (is_putchar name t as') (is_getchar name t as') (is_exit name t as') p
  where
    last : (a b c : Bool) → c ≡ true → (a || (b || c)) ≡ true
    last true b c e = refl
    last false true c e = refl
    last false false c e = e

-- ---- functions by their names

module _ (m : Module) (once : (p : Place) → BreaksSymbolTwice m p → ⊥) where
  -- no name is introduced at two positions
  apart : (i j : ℕ) (a b : Introduced) → slice_get (introduced m) i ≡ Some a → slice_get (introduced m) j ≡ Some b → a.name ≡ b.name → i ≢ j → ⊥
  apart i j a b at_i at_j same differ = by_order (is_up_to a.place b.place) refl
    where
      by_order : (t : Bool) → is_up_to a.place b.place ≡ t → ⊥
      by_order true t = once b.place (i, j, a, b, differ, at_i, at_j, same, t, refl)
      by_order false t = once a.place (j, i, b, a, (λ e. differ (sym e)), at_j, at_i, sym same, up_to_total a.place b.place t, refl)

  abbrev introduced_func : Func → Introduced
  introduced_func f = record { name = f.name; place = f.place }

  abbrev introduced_declaration : Declaration → Introduced
  introduced_declaration d = record { name = d.name; place = d.place }

  func_in : (fs : List Func) (n : ℕ) (g : Func) → slice_get fs n ≡ Some g → slice_get (map (λ (h : Func). record { name = h.name; place = h.place }) fs) n ≡ Some (introduced_func g)
  func_in [] n g e = absurd (let clash : None ≡ Some g = e in cc)
  func_in (h ∷ hs) zero g e = ap (λ (x : Func). Some (introduced_func x)) (let same : h ≡ g = cc in same)
  func_in (h ∷ hs) (suc n) g e = func_in hs n g e

  declaration_in : (ds : List Declaration) (n : ℕ) (c : Declaration) → slice_get ds n ≡ Some c → slice_get (map (λ (e : Declaration). introduced_declaration e) ds) n ≡ Some (introduced_declaration c)
  declaration_in [] n c e = absurd (let clash : None ≡ Some c = e in cc)
  declaration_in (h ∷ hs) zero c e = ap (λ (x : Declaration). Some (introduced_declaration x)) (let same : h ≡ c = cc in same)
  declaration_in (h ∷ hs) (suc n) c e = declaration_in hs n c e

  abbrev declarations : List Introduced
  declarations = map (λ (e : Declaration). introduced_declaration e) m.declared

  func_at : (k : ℕ) (f : Func) → slice_get m.funcs k ≡ Some f → slice_get (introduced m) (length (introduced_globals m) + k) ≡ Some (introduced_func f)
  func_at k f at =
      at_in_first (introduced_globals m ++ introduced_funcs m) declarations (length (introduced_globals m) + k) (introduced_func f)
      (at_in_next (introduced_globals m) (introduced_funcs m) k (introduced_func f) (func_in m.funcs k f at))

  declared_at : (k : ℕ) (d : Declaration) → slice_get m.declared k ≡ Some d → slice_get (introduced m) (length (introduced_globals m ++ introduced_funcs m) + k) ≡ Some (introduced_declaration d)
  declared_at k d at = at_in_next (introduced_globals m ++ introduced_funcs m) declarations k (introduced_declaration d) (declaration_in m.declared k d at)

  one_func : (i j : ℕ) (f g : Func) → slice_get m.funcs i ≡ Some f → slice_get m.funcs j ≡ Some g → f.name ≡ g.name → i ≡ j
  one_func i j f g at_i at_j same = by_test (nat_eq i j) refl
    where
      by_test : (t : Bool) → nat_eq i j ≡ t → i ≡ j
      by_test true t = grind (arith, nat_tests)
      by_test false t = absurd (apart (length (introduced_globals m) + i) (length (introduced_globals m) + j) (introduced_func f) (introduced_func g) (func_at i f at_i) (func_at j g at_j) same
          (λ e. let eq : i ≡ j = omega (arith, e) in let clash : nat_eq i j ≡ true = grind (arith, nat_tests) in false_is_not_true (sym t ∙ clash)))

  distinct : IsDistinct (map func_number m.funcs)
  distinct i j n at_i at_j =
      let f = map_at func_number m.funcs i n at_i in
      let g = map_at func_number m.funcs j n at_j in
      one_func i j f.0 g.0 f.1 g.1 (symbol_of f.0.name g.0.name (f.2 ∙ sym g.2))

  numbers : func_numbers m ≡ map func_number m.funcs
  numbers = distinct_numbers (map func_number m.funcs) distinct

  -- what the table tells of a name
  of_place : (s : SymId) (k : ℕ) → position (nat_eq s.0) (func_numbers m) ≡ Some k → (g : Func) × (slice_get m.funcs k ≡ Some g) × (g.name ≡ s)
  of_place s k e =
      let at : slice_get (map func_number m.funcs) k ≡ Some s.0 = subst (λ (ns : List ℕ). slice_get ns k ≡ Some s.0) numbers (position_is s.0 (func_numbers m) k e) in
      let g = map_at func_number m.funcs k s.0 at in
      (g.0, g.1, symbol_of g.0.name s g.2)

  callee_some : (s : SymId) (f : Func) → callee m s ≡ Some f → (k : ℕ) × (slice_get m.funcs k ≡ Some f) × (f.name ≡ s)
  callee_some s f e = by_place (position (nat_eq s.0) (func_numbers m)) refl e
    where
      by_place : (o : Option ℕ) → position (nat_eq s.0) (func_numbers m) ≡ o → option_and_then (slice_get m.funcs) o ≡ Some f → (k : ℕ) × (slice_get m.funcs k ≡ Some f) × (f.name ≡ s)
      by_place None p h = absurd (let clash : None ≡ Some f = h in cc)
      by_place (Some k) p h =
          let g = of_place s k p in
          let same : g.0 ≡ f = (let both : Some g.0 ≡ Some f = sym g.1 ∙ h in cc) in
          (k, h, subst (λ (x : Func). x.name ≡ s) same g.2)

  callee_none : (s : SymId) → callee m s ≡ None → (g : Func) → Contains m.funcs g → g.name ≡ s → ⊥
  callee_none s e g c same = by_place (position (nat_eq s.0) (func_numbers m)) refl e
    where
      listed : Has (func_numbers m) s.0
      listed = subst (λ (ns : List ℕ). Has ns s.0) (sym numbers) (subst (λ (x : SymId). Has (map func_number m.funcs) x.0) same (mapped_has func_number m.funcs g (has m.funcs g c)))

      by_place : (o : Option ℕ) → position (nat_eq s.0) (func_numbers m) ≡ o → option_and_then (slice_get m.funcs) o ≡ None → ⊥
      by_place None p h = no_position s.0 (func_numbers m) p listed
      by_place (Some k) p h = let r = of_place s k p in let clash : Some r.0 ≡ None = sym r.1 ∙ h in cc

  callee_one : (s : SymId) (f g : Func) → callee m s ≡ Some f → Contains m.funcs g → g.name ≡ s → g ≡ f
  callee_one s f g e c same =
      let a = callee_some s f e in
      let b = at_has m.funcs g (has m.funcs g c) in
      let k : a.0 ≡ b.0 = one_func a.0 b.0 f g a.1 b.1 (a.2 ∙ sym same) in
      let both : Some g ≡ Some f = sym b.1 ∙ sym (ap (slice_get m.funcs) k) ∙ a.1 in
      cc

  -- a function isn't declared, too
  not_declared : (s : SymId) (f : Func) (d : Declaration) → callee m s ≡ Some f → Contains m.declared d → d.name ≡ s → ⊥
  not_declared s f d e c same =
      let a = callee_some s f e in
      let b = at_has m.declared d (has m.declared d c) in
      let n = slice_get_within (introduced_funcs m) a.0 (introduced_func f) (func_in m.funcs a.0 f a.1) in
      let l = length-append (introduced_globals m) (introduced_funcs m) in
      apart (length (introduced_globals m) + a.0) (length (introduced_globals m ++ introduced_funcs m) + b.0) (introduced_func f) (introduced_declaration d) (func_at a.0 f a.1) (declared_at b.0 d b.1) (a.2 ∙ sym same) (λ q. omega (arith, q, n, l))

  declared_decides : (s : SymId) → Decides (list_any (nat_eq s.0) (declared_numbers m)) ((d : Declaration) × Contains m.declared d × (d.name ≡ s))
  declared_decides s = (λ e. of_number (in_numbers (map declared_number m.declared) [] s.0 (d.0 e)), λ b. d.1 (to_number b))
    where
      d : Decides (list_any (nat_eq s.0) (declared_numbers m)) (Has (declared_numbers m) s.0)
      d = number_decides s.0 (declared_numbers m)

      of_number : Has [] s.0 ⊎ Has (map declared_number m.declared) s.0 → (c : Declaration) × Contains m.declared c × (c.name ≡ s)
      of_number (inl h) = absurd h
      of_number (inr h) = let r = has_mapped declared_number m.declared s.0 h in (r.0, contains m.declared r.0 r.1, symbol_of r.0.name s r.2)

      to_number : ((c : Declaration) × Contains m.declared c × (c.name ≡ s)) → Has (declared_numbers m) s.0
      to_number b = numbers_in (map declared_number m.declared) [] s.0 (inr (subst (λ (y : SymId). Has (map declared_number m.declared) y.0) b.2 (mapped_has declared_number m.declared b.0 (has m.declared b.0 b.1))))

  -- ---- a call of types that have kinds

  module _ (s : SymId) (t : IrType) (as' : List TypedOperand) (result : IsResultType t) (scalars : (a : TypedOperand) → Has as' a → IsScalar a.ty) where
    abbrev IsGood : Type 0
    IsGood = IsDefinedAs m s t (types_of as') ⊎ IsDeclaredAs m s t (types_of as')

    defined : (f : Func) → callee m s ≡ Some f → Decides (fits_func f t as') IsGood
    defined f e = (of_test, to_test)
      where
        of_test : fits_func f t as' ≡ true → IsGood
        of_test h =
            let both = two_true (same_kind f.result t) (same_kinds f.params as') h in
            let a = callee_some s f e in
            inl (f, contains m.funcs f (has_at m.funcs a.0 f a.1), a.2, of_kind f.result t both.0, of_kinds f.params as' both.1)

        fits : (g : Func) → g.result ≡ t → map ty_of_param g.params ≡ types_of as' → fits_func g t as' ≡ true
        fits g r ps =
            let k : same_kind g.result t ≡ true = subst (λ (u : IrType). same_kind u t ≡ true) (sym r) (kind_of_result t result) in
            rw k (kinds_of g.params as' ps scalars)

        to_test : IsGood → fits_func f t as' ≡ true
        to_test (inl g) = subst (λ (h : Func). fits_func h t as' ≡ true) (callee_one s f g.0 e g.1 g.2) (fits g.0 g.3 g.4)
        to_test (inr d) = absurd (not_declared s f d.0 e d.1 d.2)

    external : callee m s ≡ None → Decides (list_any (nat_eq s.0) (declared_numbers m) && fits_external (symbol_text m s) t as') IsGood
    external e = (of_test, to_test)
      where
        of_test : (list_any (nat_eq s.0) (declared_numbers m) && fits_external (symbol_text m s) t as') ≡ true → IsGood
        of_test h =
            let both = two_true (list_any (nat_eq s.0) (declared_numbers m)) (fits_external (symbol_text m s) t as') h in
            let d = (declared_decides s).0 both.0 in
            inr (d.0, d.1, d.2, external_of (symbol_text m s) t as' both.1)

        to_test : IsGood → (list_any (nat_eq s.0) (declared_numbers m) && fits_external (symbol_text m s) t as') ≡ true
        to_test (inl g) = absurd (callee_none s e g.0 g.1 g.2)
        to_test (inr d) = let l : list_any (nat_eq s.0) (declared_numbers m) ≡ true = (declared_decides s).1 (d.0, d.1, d.2) in rw l (to_external (symbol_text m s) t as' d.3)

    pub call_decides : Decides (fits_callee m (callee m s) s t as') IsGood
    call_decides = by_callee (callee m s) refl
      where
        by_callee : (o : Option Func) → callee m s ≡ o → Decides (fits_callee m o s t as') IsGood
        by_callee (Some f) e = defined f e
        by_callee None e = external e

-- ---- the whole

scalar_or_not : (t : IrType) → IsScalar t ⊎ (IsScalar t → ⊥)
scalar_or_not (Int w) = inl tt
scalar_or_not Ptr = inl tt
scalar_or_not Void = inr (λ h. h)
scalar_or_not (Array' k n ts) = inr (λ h. h)
scalar_or_not (Struct' n ts) = inr (λ h. h)
scalar_or_not (Named x) = inr (λ h. h)

no_result : (t : IrType) → (t ≡ Void → ⊥) → (IsScalar t → ⊥) → IsResultType t → ⊥
no_result t other none (inl e) = other e
no_result t other none (inr h) = none h

result_or_not : (t : IrType) → IsResultType t ⊎ (IsResultType t → ⊥)
result_or_not Void = inl (inl refl)
result_or_not (Int w) = inl (inr tt)
result_or_not Ptr = inl (inr tt)
result_or_not (Array' k n ts) = inr (no_result (Array' k n ts) (λ e. cc) (λ h. h))
result_or_not (Struct' n ts) = inr (no_result (Struct' n ts) (λ e. cc) (λ h. h))
result_or_not (Named x) = inr (no_result (Named x) (λ e. cc) (λ h. h))

module _ (m : Module) (f : Func) (once : (p : Place) → BreaksSymbolTwice m p → ⊥) (types : (p : Place) → BreaksTypes m f p → ⊥) where
  -- the types of an instruction aren't wrong
  agrees : (i : Instr) → Has (instrs f) i → (StepAgrees m.types.defs f (Does i) → ⊥) → ⊥
  agrees i h wrong = types i.place (inr (Does i, contains (steps f) (Does i) stands, refl, wrong))
    where
      block : (b : Block) × Has f.blocks b × Has b.code i
      block = has_made (λ (b : Block). b.code) f.blocks i h

      does_has : (code : List Instr) → Has code i → Has (map (λ (j : Instr). Does j) code) (Does i)
      does_has [] g = absurd g
      does_has (j ∷ js) (inl e) = inl (ap (λ (x : Instr). Does x) e)
      does_has (j ∷ js) (inr g) = inr (does_has js g)

      stands : Has (steps f) (Does i)
      stands = has_part block_steps f.blocks block.0 (Does i) block.1 (has_left (map (λ (j : Instr). Does j) block.0.code) (Ends block.0 ∷ []) (Does i) (does_has block.0.code block.2))

  op_decides : (p : Place) (r : _) (op : Op) → ((StepAgrees m.types.defs f (Does (record { place = p; result = r; op = op })) → ⊥) → ⊥) → Decides (op_calls_well m op) (CallsWell m op)
  op_decides p r (Call t s as') right = call_decides m once s t as' (by_result (result_or_not t)) (λ a h. by_scalar a h (scalar_or_not a.ty))
    where
      by_result : IsResultType t ⊎ (IsResultType t → ⊥) → IsResultType t
      by_result (inl h) = h
      by_result (inr no_type) = absurd (right (λ all. no_type all.1))

      by_scalar : (a : TypedOperand) → Has as' a → IsScalar a.ty ⊎ (IsScalar a.ty → ⊥) → IsScalar a.ty
      by_scalar a h (inl g) = g
      by_scalar a h (inr no_type) = absurd (right (λ all. no_type (all_of (OperandAgrees m.types.defs f) as' a all.0 h).0))
  op_decides p r (Bin op t a b) right = always
  op_decides p r (Icmp c t a b) right = always
  op_decides p r (Select c a b) right = always
  op_decides p r (Cast c a t) right = always
  op_decides p r (Alloca t n align) right = always
  op_decides p r (Load t a align) right = always
  op_decides p r (Store a q align) right = always
  op_decides p r (Gep t a is) right = always
  op_decides p r (Phi t es) right = always

  bad_decides : (i : Instr) → Has (instrs f) i → Decides (not (op_calls_well m i.op)) (CallsWell m i.op → ⊥)
  bad_decides i h = Decides-not (op_calls_well m i.op) (op_decides i.place i.result i.op (agrees i h))

  in_instrs : (blocks : List Block) → flat_map (block_call_faults m) blocks ≡ flat_map (call_fault m) (flat_map (λ (b : Block). b.code) blocks)
  in_instrs [] = refl
  in_instrs (b ∷ bs) = ap (λ (ps : List Place). block_call_faults m b ++ ps) (in_instrs bs) ∙ sym (flat_map-append (call_fault m) b.code (flat_map (λ (c : Block). c.code) bs))

  pub calls_found : IsFound (BreaksCalls m f) (earliest None (call_faults m f))
  calls_found =
      subst (λ (ps : List Place). IsFound (BreaksCalls m f) (earliest None ps)) (sym (in_instrs f.blocks))
      (found_in (λ (i : Instr). not (op_calls_well m i.op)) (λ (i : Instr). i.place) (λ (i : Instr). CallsWell m i.op → ⊥) (instrs f) (λ i h. (bad_decides i h).0) (λ i h. (bad_decides i h).1))
