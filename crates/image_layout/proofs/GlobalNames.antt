-- The numbers of a module's globals by their names: no name stands twice in a valid module.
use Rattle.std.proofs.Common.{◌≡◌, ◌≢◌, ℕ, zero, suc, ◌+◌, ◌≤◌, ◌==◌, Bool, true, false, not, cond, nat_eq, nat_lt, List, [], ◌∷◌, ◌++◌, map, length, Some, None, slice_get, refl, ap, ◌∙◌, arith}
use Rattle.std.specs.List.{position, position_or_len}
use Rattle.std.specs.Option.{option_map}
use Rattle.std.proofs.lemmas.Bool.Decides.{nat_tests}
use Rattle.std.proofs.lemmas.Option.{slice_get-map}
use Rattle.ir_core.specs.declared.module.Declaration.{Declaration}
use Rattle.ir_core.specs.declared.module.GlobalVar.{GlobalVar}
use Rattle.ir_core.specs.declared.module.Module.{Module}
use Rattle.ir_core.specs.declared.module.SymId.{SymId}
use Rattle.ir_core.specs.Constants.{global_number as global_position, is_global}
use Rattle.ir_core.specs.Valid.{IsValid}
use Rattle.ir_core.specs.ValidModule.{Introduced, introduced, introduced_globals, introduced_funcs}
use Rattle.ir_core.proofs.Lists.{Apart, each_of, has_at, apart_mapped}
use Rattle.ir_safety.proofs.Named.{introduced_once, same_symbol}
use Rattle.module_rules.specs.Faults.{numbers_of, global_number}
use Rattle.module_rules.proofs.Distinct.{IsDistinct, distinct_numbers, at_in_first}

-- ---- where a number stands

position_most : (x : ℕ) (ns : List ℕ) → position_or_len (nat_eq x) ns ≤ length ns
position_most x [] = omega arith
position_most x (n ∷ ns) = by (nat_eq x n) (position_most x ns)
  where
    by : (t : Bool) → position_or_len (nat_eq x) ns ≤ length ns → cond (not t) (1 + position_or_len (nat_eq x) ns) 0 ≤ suc (length ns)
    by true h = omega arith
    by false h = omega (arith, h)

pub not_among : (x : ℕ) (ns : List ℕ) → position (nat_eq x) ns ≡ None → position_or_len (nat_eq x) ns ≡ length ns
not_among x ns e = by (nat_lt (position_or_len (nat_eq x) ns) (length ns)) refl e
  where
    by : (t : Bool) → nat_lt (position_or_len (nat_eq x) ns) (length ns) ≡ t → cond t (Some (position_or_len (nat_eq x) ns)) None ≡ None → position_or_len (nat_eq x) ns ≡ length ns
    by true g h = absurd (let clash : Some (position_or_len (nat_eq x) ns) ≡ None = h in cc)
    by false g h = let m = position_most x ns in grind (arith, nat_tests)

turned : (a b : ℕ) → nat_eq a b ≡ (b == a)
turned a b = grind (arith, nat_tests)

found : (s : SymId) (gs : List GlobalVar) → position_or_len (nat_eq s.0) (map global_number gs) ≡ position_or_len (is_global s) gs
found s [] = refl
found s (g ∷ gs) =
    ap (λ (t : Bool). cond (not t) (1 + position_or_len (nat_eq s.0) (map global_number gs)) 0) (turned s.0 g.name.0)
    ∙ ap (λ (k : ℕ). cond (not (is_global s g)) (1 + k) 0) (found s gs)

pub global_found : (m : Module) (ns : List ℕ) (s : SymId) → ns ≡ map global_number m.globals → position_or_len (nat_eq s.0) ns ≡ global_position m s
global_found m ns s e = ap (position_or_len (nat_eq s.0)) e ∙ found s m.globals

-- ---- no name stands twice

one_place : (x n : ℕ) (xs : List ℕ) (j : ℕ) → Apart (x ∷ xs) → Some x ≡ Some n → slice_get xs j ≡ Some n → ⊥
one_place x n xs j a e g = let same : x ≡ n = cc in each_of (λ y. x ≢ y) xs n a.0 (has_at xs j n g) same

distinct_of : (ns : List ℕ) → Apart ns → IsDistinct ns
distinct_of [] a i j n e g = absurd (let clash : None ≡ Some n = e in cc)
distinct_of (x ∷ xs) a zero zero n e g = refl
distinct_of (x ∷ xs) a zero (suc j) n e g = absurd (one_place x n xs j a e g)
distinct_of (x ∷ xs) a (suc i) zero n e g = absurd (one_place x n xs i a g e)
distinct_of (x ∷ xs) a (suc i) (suc j) n e g = ap suc (distinct_of xs a.1 i j n e g)

module _ (m : Module) (valid : IsValid m) where
  abbrev of_global : GlobalVar → Introduced
  of_global g = record { name = g.name; place = g.place }

  abbrev declared_names : List Introduced
  declared_names = map (λ (d : Declaration). record { name = d.name; place = d.place }) m.declared

  global_at : (k : ℕ) (g : GlobalVar) → slice_get m.globals k ≡ Some g → slice_get (introduced m) k ≡ Some (of_global g)
  global_at k g e =
      at_in_first (introduced_globals m ++ introduced_funcs m) declared_names k (of_global g)
      (at_in_first (introduced_globals m) (introduced_funcs m) k (of_global g) (slice_get-map of_global m.globals k ∙ ap (option_map of_global) e))

  pub same_globals : numbers_of (map global_number m.globals) ≡ map global_number m.globals
  same_globals =
      distinct_numbers (map global_number m.globals)
      (distinct_of (map global_number m.globals)
      (apart_mapped global_number m.globals (λ i j a b lt ei ej e. introduced_once m valid (of_global a) (of_global b) (i, j, lt, global_at i a ei, global_at j b ej) (same_symbol a.name b.name e))))
