-- The places at which a type of a module is wrong, or a used name is defined again.
use Rattle.std.proofs.Common.{◌≡◌, ◌⊎◌, inl, inr, refl, sym, ap, ◌∙◌, subst, ⊎_elim, Bool, true, false, not, ◌&&◌, ◌||◌, if◌then◌else◌, nat_eq, ℕ, zero, suc, ◌<◌, List, [], ◌∷◌, ◌++◌, map, Some, None, slice_get, Contains, arith}
use Rattle.std.specs.List.{flat_map, list_any, list_all}
use Rattle.std.specs.Bool.{Decides}
use Rattle.std.proofs.lemmas.Grind.{flat_map-append}
use Rattle.std.proofs.lemmas.List.Folds.{flat_map-map}
use Rattle.std.proofs.lemmas.List.Sums.{fold-append}
use Rattle.std.proofs.lemmas.List.{append-nil}
use Rattle.oi_base.specs.declared.ids.Place.{Place}
use Rattle.ir_core.specs.declared.ty.TypeName.{TypeName}
use Rattle.ir_core.specs.declared.ty.TypeDef.{TypeDef}
use Rattle.ir_core.specs.declared.ty.IrType.{IrType, Void, Int, Ptr, Array', Struct', Named, Row_of-IrType, end_of-IrType, more_of-IrType}
use Rattle.ir_core.specs.declared.module.Module.{Module}
use Rattle.ir_core.specs.declared.func.Instr.{Instr}
use Rattle.ir_core.specs.declared.func.Block.{Block}
use Rattle.ir_core.specs.declared.func.Func.{Func}
use Rattle.ir_core.specs.Parts.{names_in_type}
use Rattle.ir_core.specs.Acyclic.{HasNoVoid, HaveNoVoid}
use Rattle.ir_core.specs.Operands.{Does, Ends, block_steps}
use Rattle.ir_core.specs.ValidTypes.{TypeUse, result_use, value_uses, step_uses, func_uses, type_uses, HasVoid, NamesNoStruct, IsUsed, IsDefinedAgain}
use Rattle.ir_core.proofs.Lists.{Has, has_left, has_right, has_part, contains}
use Rattle.module_rules.specs.First.{earlier, earliest, IsFound}
use Rattle.module_rules.specs.Faults.{place_if, with_number, with_numbers}
use Rattle.module_rules.specs.TypeFaults.{has_void, have_void, is_void, is_void_wrongly, emptied_defs, is_laid_name, Seen, type_number, is_bad_use, with_use, with_uses, no_uses, def_use, global_uses, code_uses, block_uses, param_types, func_uses_by_block, uses_of, BreaksUses, again_faults}
use Rattle.module_rules.proofs.Decided.{false_is_not_true, some_fails, passes}
use Rattle.module_rules.proofs.Faulty.{has, has_in, places}
use Rattle.module_rules.proofs.Earliest.{found_same, found_also}
use Rattle.module_rules.proofs.At.{found_at}
use Rattle.module_rules.proofs.Sets.{number_decides, with_one, one_with, in_numbers, numbers_in, has_mapped, mapped_has, has_made}
use Rattle.module_rules.proofs.StructNames.{struct_decides}

-- ---- all uses in one list

code_is : (code : List Instr) → flat_map step_uses (map (λ (i : Instr). Does i) code) ≡ flat_map (λ (i : Instr). step_uses (Does i)) code
code_is code = flat_map-map step_uses (λ (i : Instr). Does i) code

block_is : (b : Block) → flat_map step_uses (block_steps b) ≡ block_uses b
block_is b =
    flat_map-append step_uses (map (λ (i : Instr). Does i) b.code) (Ends b ∷ [])
    ∙ ap (λ (us : List TypeUse). us ++ (step_uses (Ends b) ++ [])) (code_is b.code)
    ∙ ap (λ (us : List TypeUse). code_uses b ++ us) (append-nil (step_uses (Ends b)))

blocks_are : (bs : List Block) → flat_map step_uses (flat_map block_steps bs) ≡ flat_map block_uses bs
blocks_are [] = refl
blocks_are (b ∷ bs) =
    flat_map-append step_uses (block_steps b) (flat_map block_steps bs)
    ∙ ap (λ (us : List TypeUse). us ++ flat_map step_uses (flat_map block_steps bs)) (block_is b)
    ∙ ap (λ (us : List TypeUse). block_uses b ++ us) (blocks_are bs)

func_is : (f : Func) → func_uses f ≡ func_uses_by_block f
func_is f = ap (λ (us : List TypeUse). result_use f.place f.result ∷ value_uses f.place (param_types f) ++ us) (blocks_are f.blocks)

funcs_are : (fs : List Func) → flat_map func_uses fs ≡ flat_map func_uses_by_block fs
funcs_are [] = refl
funcs_are (f ∷ fs) = ap (λ (us : List TypeUse). us ++ flat_map func_uses fs) (func_is f) ∙ ap (λ (us : List TypeUse). func_uses_by_block f ++ us) (funcs_are fs)

all_uses : (m : Module) → uses_of m ≡ with_uses (no_uses (emptied_defs m.types.defs)) (type_uses m)
all_uses m =
    ap (λ (us : List TypeUse). with_uses (with_uses (with_uses start defs) globals) us) (sym (funcs_are m.funcs))
    ∙ ap (λ (s : Seen). with_uses s funcs) (sym (fold-append with_use start defs globals))
    ∙ sym (fold-append with_use start (defs ++ globals) funcs)
  where
    start : Seen
    start = no_uses (emptied_defs m.types.defs)

    defs : List TypeUse
    defs = map def_use m.types.defs

    globals : List TypeUse
    globals = flat_map global_uses m.globals

    funcs : List TypeUse
    funcs = flat_map func_uses m.funcs

-- ---- what the fold counts in

abbrev use_numbers : TypeUse → List ℕ
use_numbers u = map type_number (names_in_type u.ty)

abbrev at_use : TypeUse → Place
at_use u = u.place

first_is : (s : Seen) (us : List TypeUse) → (with_uses s us).first ≡ earliest s.first (places (is_bad_use s.emptied) at_use us)
first_is s [] = refl
first_is s (u ∷ us) =
    first_is (with_use s u) us
    ∙ sym (fold-append earlier s.first (place_if (is_bad_use s.emptied u) u.place) (places (is_bad_use s.emptied) at_use us))

used_is : (s : Seen) (us : List TypeUse) → (with_uses s us).used ≡ with_numbers s.used (flat_map use_numbers us)
used_is s [] = refl
used_is s (u ∷ us) = used_is (with_use s u) us ∙ sym (fold-append with_number s.used (use_numbers u) (flat_map use_numbers us))

-- ---- `void`

pub both_false : (a b : Bool) → (a || b) ≡ false → (a ≡ false) × (b ≡ false)
both_false false false e = (refl, refl)
both_false true b e = absurd (let clash : true ≡ false = e in cc)
both_false false true e = absurd (let clash : true ≡ false = e in cc)

pub one_true : (a b : Bool) → (a || b) ≡ true → (a ≡ true) ⊎ (b ≡ true)
one_true true b e = inl refl
one_true false b e = inr e

mutual
  pub no_void : (t : IrType) → has_void t ≡ false → HasNoVoid t
  no_void Void e = absurd (let clash : true ≡ false = e in cc)
  no_void (Int w) e = tt
  no_void Ptr e = tt
  no_void (Array' n _ items) e = no_voids items e
  no_void (Struct' _ fields) e = no_voids fields e
  no_void (Named x) e = tt

  no_voids : {m : _} (row : Row_of-IrType m) → have_void row ≡ false → HaveNoVoid row
  no_voids end_of-IrType e = tt
  no_voids (more_of-IrType t ts) e = let b = both_false (has_void t) (have_void ts) e in (no_void t b.0, no_voids ts b.1)

mutual
  pub some_void : (t : IrType) → has_void t ≡ true → HasNoVoid t → ⊥
  some_void Void e n = n
  some_void (Int w) e n = false_is_not_true e
  some_void Ptr e n = false_is_not_true e
  some_void (Array' n _ items) e v = some_voids items e v
  some_void (Struct' _ fields) e v = some_voids fields e v
  some_void (Named x) e n = false_is_not_true e

  some_voids : {m : _} (row : Row_of-IrType m) → have_void row ≡ true → HaveNoVoid row → ⊥
  some_voids end_of-IrType e v = false_is_not_true e
  some_voids (more_of-IrType t ts) e v = ⊎_elim (λ a. some_void t a v.0) (λ b. some_voids ts b v.1) (one_true (has_void t) (have_void ts) e)

void_is : (t : IrType) → is_void t ≡ true → t ≡ Void
void_is Void e = refl
void_is (Int w) e = absurd (false_is_not_true e)
void_is Ptr e = absurd (false_is_not_true e)
void_is (Array' n _ items) e = absurd (false_is_not_true e)
void_is (Struct' _ fields) e = absurd (false_is_not_true e)
void_is (Named x) e = absurd (false_is_not_true e)

pub both_true : (a b : Bool) → (a && b) ≡ true → (a ≡ true) × (b ≡ true)
both_true true true e = (refl, refl)
both_true true false e = absurd (false_is_not_true e)
both_true false b e = absurd (false_is_not_true e)

wrongly_decides : (u : TypeUse) → Decides (is_void_wrongly u.ty u.is_result) (HasVoid u)
wrongly_decides u = by_tests (has_void u.ty) (u.is_result && is_void u.ty) refl refl
  where
    by_tests : (a b : Bool) → has_void u.ty ≡ a → (u.is_result && is_void u.ty) ≡ b → Decides (a && not b) (HasVoid u)
    by_tests false b e g = (λ f. absurd (false_is_not_true f), λ h. absurd (h.0 (no_void u.ty e)))
    by_tests true true e g =
        let both = both_true u.is_result (is_void u.ty) g in
        (λ f. absurd (false_is_not_true f), λ h. absurd (h.1 (both.0, void_is u.ty both.1)))
    by_tests true false e g =
        (λ f. (some_void u.ty e, λ r. let t : (u.is_result && is_void u.ty) ≡ true = ap (λ (b : Bool). b && is_void u.ty) r.0 ∙ ap is_void r.1 in false_is_not_true (sym g ∙ t)), λ h. refl)

-- ---- names that stand for no struct

module _ (defs : List TypeDef) where
  abbrev E : List TypeDef
  E = emptied_defs defs

  names_decides : (u : TypeUse) → Decides (not (list_all (is_laid_name E) (names_in_type u.ty))) (NamesNoStruct defs u)
  names_decides u = by_test (list_all (is_laid_name E) (names_in_type u.ty)) refl
    where
      by_test : (t : Bool) → list_all (is_laid_name E) (names_in_type u.ty) ≡ t → Decides (not t) (NamesNoStruct defs u)
      by_test true e =
          (λ f. absurd (false_is_not_true f), λ h. absurd (h.2 ((struct_decides defs h.0).0 (passes (is_laid_name E) (names_in_type u.ty) h.0 e (has (names_in_type u.ty) h.0 h.1)))))
      by_test false e =
          let s = some_fails (is_laid_name E) (names_in_type u.ty) e in
          (λ f. (s.0, contains (names_in_type u.ty) s.0 s.1, λ st. false_is_not_true (sym s.2 ∙ (struct_decides defs s.0).1 st)), λ h. refl)

  abbrev IsBadUse : TypeUse → Type 0
  IsBadUse u = HasVoid u ⊎ NamesNoStruct defs u

  bad_sound : (u : TypeUse) → is_bad_use E u ≡ true → IsBadUse u
  bad_sound u e =
      ⊎_elim (λ a. inl ((wrongly_decides u).0 a)) (λ b. inr ((names_decides u).0 b))
      (one_true (is_void_wrongly u.ty u.is_result) (not (list_all (is_laid_name E) (names_in_type u.ty))) e)

  left_true : (a b : Bool) → a ≡ true → (a || b) ≡ true
  left_true true b e = refl
  left_true false b e = absurd (false_is_not_true e)

  right_true : (a b : Bool) → b ≡ true → (a || b) ≡ true
  right_true true b e = refl
  right_true false b e = e

  bad_complete : (u : TypeUse) → IsBadUse u → is_bad_use E u ≡ true
  bad_complete u (inl h) = left_true (is_void_wrongly u.ty u.is_result) (not (list_all (is_laid_name E) (names_in_type u.ty))) ((wrongly_decides u).1 h)
  bad_complete u (inr h) = right_true (is_void_wrongly u.ty u.is_result) (not (list_all (is_laid_name E) (names_in_type u.ty))) ((names_decides u).1 h)

-- ---- elements with the key of one before them

module _ {A : Type 0} (key : A → ℕ) (place : A → Place) (counts : A → Bool) where
  abbrev pub again : List ℕ → List A → List Place
  again keys [] = []
  again keys (x ∷ xs) = place_if (list_any (nat_eq (key x)) keys && counts x) (place x) ++ again (with_number keys (key x)) xs

  abbrev Before : List ℕ → List A → ℕ → A → Type 0
  Before keys xs j b = Has keys (key b) ⊎ ((i : ℕ) × (a : A) × (i < j) × (slice_get xs i ≡ Some a) × (key a ≡ key b))

  abbrev pub Twice : List ℕ → List A → Place → Type 0
  Twice keys xs p = (j : ℕ) × (b : A) × (slice_get xs j ≡ Some b) × (place b ≡ p) × (counts b ≡ true) × Before keys xs j b

  pub again_sound : (xs : List A) (keys : List ℕ) (p : Place) → Has (again keys xs) p → Twice keys xs p
  again_sound [] keys p h = absurd h
  again_sound (x ∷ xs) keys p h =
      by_part (has_in (place_if (list_any (nat_eq (key x)) keys && counts x) (place x)) (again (with_number keys (key x)) xs) p h) (again_sound xs (with_number keys (key x)) p)
    where
      here : (t u : Bool) → list_any (nat_eq (key x)) keys ≡ t → counts x ≡ u → Has (if t && u then (place x ∷ []) else []) p → Twice keys (x ∷ xs) p
      here true true t u (inl e) = (0, x, refl, e, u, inl ((number_decides (key x) keys).0 t))
      here true true t u (inr g) = absurd g
      here true false t u g = absurd g
      here false u t v g = absurd g

      next : Twice (with_number keys (key x)) xs p → Twice keys (x ∷ xs) p
      next w = (suc w.0, w.1, w.2, w.3, w.4, reason w.5)
        where
          of_one : Has keys (key w.1) ⊎ (key x ≡ key w.1) → Before keys (x ∷ xs) (suc w.0) w.1
          of_one (inl g) = inl g
          of_one (inr e) = inr (0, x, omega arith, refl, e)

          reason : Before (with_number keys (key x)) xs w.0 w.1 → Before keys (x ∷ xs) (suc w.0) w.1
          reason (inl g) = of_one (with_one keys (key x) (key w.1) g)
          reason (inr g) = inr (suc g.0, g.1, omega (arith, g.2), g.3, g.4)

      by_part : Has (place_if (list_any (nat_eq (key x)) keys && counts x) (place x)) p ⊎ Has (again (with_number keys (key x)) xs) p → (Has (again (with_number keys (key x)) xs) p → Twice (with_number keys (key x)) xs p) → Twice keys (x ∷ xs) p
      by_part (inl g) rest = here (list_any (nat_eq (key x)) keys) (counts x) refl refl g
      by_part (inr g) rest = next (rest g)

  pub again_complete : (xs : List A) (keys : List ℕ) (p : Place) → Twice keys xs p → Has (again keys xs) p
  again_complete [] keys p w = absurd (let clash : None ≡ Some w.1 = w.2 in cc)
  again_complete (x ∷ xs) keys p w = by_index w.0 w.2 w.5 (again_complete xs (with_number keys (key x)) p)
    where
      here : x ≡ w.1 → Before keys (x ∷ xs) 0 w.1 → Has (again keys (x ∷ xs)) p
      here same (inr b) = absurd (omega (arith, b.2))
      here same (inl g) =
          let t : list_any (nat_eq (key x)) keys ≡ true = (number_decides (key x) keys).1 (subst (λ (a : A). Has keys (key a)) (sym same) g) in
          let u : counts x ≡ true = ap counts same ∙ w.4 in
          let at_p : place x ≡ p = ap place same ∙ w.3 in
          has_left (place_if (list_any (nat_eq (key x)) keys && counts x) (place x)) (again (with_number keys (key x)) xs) p (rw t (rw u (inl at_p)))

      by_index : (j : ℕ) → slice_get (x ∷ xs) j ≡ Some w.1 → Before keys (x ∷ xs) j w.1 → (Twice (with_number keys (key x)) xs p → Has (again (with_number keys (key x)) xs) p) → Has (again keys (x ∷ xs)) p
      by_index zero at b rest = here (let same : Some x ≡ Some w.1 = at in cc) b
      by_index (suc j) at b rest = has_right (place_if (list_any (nat_eq (key x)) keys && counts x) (place x)) (again (with_number keys (key x)) xs) p (rest (j, w.1, at, w.3, w.4, reason b))
        where
          of_place : (i : ℕ) (a : A) → i < suc j → slice_get (x ∷ xs) i ≡ Some a → key a ≡ key w.1 → Before (with_number keys (key x)) xs j w.1
          of_place zero a lt e same = inl (one_with keys (key x) (key w.1) (inr (let first : Some x ≡ Some a = e in let one : x ≡ a = cc in ap key one ∙ same)))
          of_place (suc i) a lt e same = inr (i, a, omega (arith, lt), e, same)

          reason : Before keys (x ∷ xs) (suc j) w.1 → Before (with_number keys (key x)) xs j w.1
          reason (inl g) = inl (one_with keys (key x) (key w.1) (inl g))
          reason (inr g) = of_place g.0 g.1 g.2 g.3 g.4

-- ---- definitions again

type_of_number : (x y : TypeName) → x.0 ≡ y.0 → x ≡ y
type_of_number x y e = ap (λ (n : ℕ). record { 0 = n }) e

abbrev number_of : TypeDef → ℕ
number_of d = d.name.0

abbrev is_among : List ℕ → TypeDef → Bool
is_among used d = list_any (nat_eq d.name.0) used

abbrev place_of_def : TypeDef → Place
place_of_def d = d.place

again_is : (used names : List ℕ) (ds : List TypeDef) → again_faults used names ds ≡ again number_of place_of_def (is_among used) names ds
again_is used names [] = refl
again_is used names (d ∷ ds) = ap (λ (ps : List Place). place_if (list_any (nat_eq d.name.0) names && is_among used d) d.place ++ ps) (again_is used (with_number names d.name.0) ds)

module _ (m : Module) where
  abbrev pub used_numbers : List ℕ
  used_numbers = with_numbers [] (flat_map use_numbers (type_uses m))

  pub used_sound : (x : TypeName) → list_any (nat_eq x.0) used_numbers ≡ true → IsUsed m x
  used_sound x e = of_part (in_numbers (flat_map use_numbers (type_uses m)) [] x.0 ((number_decides x.0 used_numbers).0 e))
    where
      of_part : Has [] x.0 ⊎ Has (flat_map use_numbers (type_uses m)) x.0 → IsUsed m x
      of_part (inl h) = absurd h
      of_part (inr h) =
          let u = has_made use_numbers (type_uses m) x.0 h in
          let y = has_mapped type_number (names_in_type u.0.ty) x.0 u.2 in
          (u.0, contains (type_uses m) u.0 u.1, contains (names_in_type u.0.ty) x (subst (Has (names_in_type u.0.ty)) (type_of_number y.0 x y.2) y.1))

  pub used_complete : (x : TypeName) → IsUsed m x → list_any (nat_eq x.0) used_numbers ≡ true
  used_complete x h =
      (number_decides x.0 used_numbers).1
      (numbers_in (flat_map use_numbers (type_uses m)) [] x.0
      (inr (has_part use_numbers (type_uses m) h.0 x.0 (has (type_uses m) h.0 h.1) (mapped_has type_number (names_in_type h.0.ty) x (has (names_in_type h.0.ty) x h.2)))))

  abbrev again_places : List Place
  again_places = again number_of place_of_def (is_among used_numbers) [] m.types.defs

  defined_sound : (p : Place) → Has again_places p → IsDefinedAgain m p
  defined_sound p h = of_twice (again_sound number_of place_of_def (is_among used_numbers) m.types.defs [] p h)
    where
      of_twice : Twice number_of place_of_def (is_among used_numbers) [] m.types.defs p → IsDefinedAgain m p
      of_twice w = by_reason w.5
        where
          by_reason : Before number_of place_of_def (is_among used_numbers) [] m.types.defs w.0 w.1 → IsDefinedAgain m p
          by_reason (inl g) = absurd g
          by_reason (inr g) = (g.0, w.0, g.1, w.1, g.2, g.3, w.2, type_of_number g.1.name w.1.name g.4, w.3, used_sound w.1.name w.4)

  defined_complete : (p : Place) → IsDefinedAgain m p → Has again_places p
  defined_complete p h =
      again_complete number_of place_of_def (is_among used_numbers) m.types.defs [] p
      (h.1, h.3, h.6, h.8, used_complete h.3.name h.9, inr (h.0, h.2, h.4, h.5, ap (λ (x : TypeName). x.0) h.7))

  -- ---- together

  abbrev BadUse : Place → Type 0
  BadUse p = (u : TypeUse) × Contains (type_uses m) u × (u.place ≡ p) × IsBadUse m.types.defs u

  first_of : (uses_of m).first ≡ earliest None (places (is_bad_use (emptied_defs m.types.defs)) at_use (type_uses m))
  first_of = ap Seen.first (all_uses m) ∙ first_is (no_uses (emptied_defs m.types.defs)) (type_uses m)

  used_of : (uses_of m).used ≡ used_numbers
  used_of = ap Seen.used (all_uses m) ∙ used_is (no_uses (emptied_defs m.types.defs)) (type_uses m)

  uses_found : IsFound BadUse (uses_of m).first
  uses_found =
      subst (IsFound BadUse) (sym first_of)
      (found_at (is_bad_use (emptied_defs m.types.defs)) at_use (IsBadUse m.types.defs) (bad_sound m.types.defs) (bad_complete m.types.defs) (type_uses m))

  there : (p : Place) → BadUse p ⊎ Has again_places p → BreaksUses m p
  there p (inl (u, c, e, inl h)) = inl (u, c, e, h)
  there p (inl (u, c, e, inr h)) = inr (inl (u, c, e, h))
  there p (inr h) = inr (inr (defined_sound p h))

  back : (p : Place) → BreaksUses m p → BadUse p ⊎ Has again_places p
  back p (inl h) = inl (h.0, h.1, h.2, inl h.3)
  back p (inr (inl h)) = inl (h.0, h.1, h.2, inr h.3)
  back p (inr (inr h)) = inr (defined_complete p h)

  pub again_found : IsFound (BreaksUses m) (earliest (uses_of m).first (again_faults (uses_of m).used [] m.types.defs))
  again_found =
      subst (λ (ps : List Place). IsFound (BreaksUses m) (earliest (uses_of m).first ps))
      (sym (ap (λ (ns : List ℕ). again_faults ns [] m.types.defs) used_of ∙ again_is used_numbers [] m.types.defs))
      (found_same (λ (p : Place). BadUse p ⊎ Has again_places p) (BreaksUses m) (earliest (uses_of m).first again_places)
      (found_also BadUse (uses_of m).first again_places uses_found) there back)
