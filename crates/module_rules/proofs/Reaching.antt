-- Sets of names to which a name leads, and that those which are closed have all names on its cycles.
use Rattle.std.proofs.Common.{◌≡◌, ◌⊎◌, inl, inr, refl, sym, ap, ◌∙◌, subst, ⊎_elim, Bool, true, false, if◌then◌else◌, ◌||◌, nat_eq, ℕ, ◌+◌, ◌<◌, ◌≤◌, List, [], ◌∷◌, ◌++◌, map, length, Option, Some, None, slice_get, Contains, arith}
use Rattle.std.specs.List.{flat_map, list_any, IsDistinct, AllByRecursion}
use Rattle.std.specs.Bool.{Decides}
use Rattle.std.proofs.lemmas.Bool.{cases_lt}
use Rattle.std.proofs.lemmas.Bool.Decides.{nat_tests}
use Rattle.std.proofs.lemmas.Option.{slice_get_within}
use Rattle.std.proofs.lemmas.Map.Steps.{length-le_from_distinct_below}
use Rattle.ir_core.specs.declared.ty.TypeName.{TypeName}
use Rattle.ir_core.specs.declared.ty.TypeDef.{TypeDef}
use Rattle.ir_core.specs.declared.ty.IrType.{IrType}
use Rattle.ir_core.specs.declared.module.GlobalVar.{GlobalVar}
use Rattle.ir_core.specs.declared.module.Module.{Module}
use Rattle.ir_core.specs.declared.func.Func.{Func}
use Rattle.ir_core.specs.Parts.{names_in_type, const_types, func_types, func_consts, typed_consts, module_types, module_type_names}
use Rattle.ir_core.specs.Sizes.{definition}
use Rattle.ir_core.specs.Acyclic.{Holds, Leads, HoldsItself}
use Rattle.ir_core.specs.Proper.{IsProper}
use Rattle.ir_core.proofs.Lists.{Has, has_left, has_right, has_part, has_at, at_has, contains, element}
use Rattle.ir_core.proofs.Names.{defined}
use Rattle.module_rules.specs.Faults.{with_number, with_numbers}
use Rattle.module_rules.specs.Cycles.{held_names}
use Rattle.module_rules.proofs.Faulty.{has}
use Rattle.module_rules.proofs.Listing.{one_at}
use Rattle.module_rules.proofs.Sets.{number_decides, in_numbers, numbers_in, has_mapped, mapped_has}
use Rattle.module_rules.proofs.Distinct.{at_in_first}

-- ---- sets of numbers that grow

kept_one : (ns : List ℕ) (m k y : ℕ) → slice_get ns k ≡ Some y → slice_get (with_number ns m) k ≡ Some y
kept_one ns m k y e = by_test (list_any (nat_eq m) ns)
  where
    by_test : (t : Bool) → slice_get (if t then ns else ns ++ m ∷ []) k ≡ Some y
    by_test true = e
    by_test false = at_in_first ns (m ∷ []) k y e

kept : (more ns : List ℕ) (k y : ℕ) → slice_get ns k ≡ Some y → slice_get (with_numbers ns more) k ≡ Some y
kept [] ns k y e = e
kept (m ∷ ms) ns k y e = kept ms (with_number ns m) k y (kept_one ns m k y e)

-- what stands at a place that there was before stood there before
stood : (more ns : List ℕ) (k y : ℕ) → k < length ns → slice_get (with_numbers ns more) k ≡ Some y → slice_get ns k ≡ Some y
stood more ns k y lt e =
    let z = element ns k lt in
    let same : z.0 ≡ y = one_at (with_numbers ns more) k z.0 y (kept more ns k z.0 z.1) e in
    z.1 ∙ ap Some same

unlike : (m n : ℕ) (ms : List ℕ) → list_any (nat_eq n) (m ∷ ms) ≡ false → (nat_eq m n ≡ false) × (list_any (nat_eq n) ms ≡ false)
unlike m n ms e = by_test (nat_eq n m) refl e
  where
    by_test : (t : Bool) → nat_eq n m ≡ t → (t || list_any (nat_eq n) ms) ≡ false → (nat_eq m n ≡ false) × (list_any (nat_eq n) ms ≡ false)
    by_test true t g = absurd (let clash : true ≡ false = g in cc)
    by_test false t g = (grind (arith, nat_tests), g)

all_before : (P : ℕ → Type 0) (xs : List ℕ) (n : ℕ) → AllByRecursion P xs → P n → AllByRecursion P (xs ++ n ∷ [])
all_before P [] n a p = (p, tt)
all_before P (x ∷ xs) n a p = (a.0, all_before P xs n a.1 p)

distinct_one : (ns : List ℕ) (n : ℕ) → IsDistinct nat_eq ns → list_any (nat_eq n) ns ≡ false → IsDistinct nat_eq (ns ++ n ∷ [])
unfolding IsDistinct
distinct_one [] n d e = (tt, tt)
distinct_one (m ∷ ms) n d e = let u = unlike m n ms e in (all_before (λ y. nat_eq m y ≡ false) ms n d.0 u.0, distinct_one ms n d.1 u.1)

distinct_with : (ns : List ℕ) (n : ℕ) → IsDistinct nat_eq ns → IsDistinct nat_eq (with_number ns n)
distinct_with ns n d = by_test (list_any (nat_eq n) ns) refl
  where
    by_test : (t : Bool) → list_any (nat_eq n) ns ≡ t → IsDistinct nat_eq (if t then ns else ns ++ n ∷ [])
    by_test true e = d
    by_test false e = distinct_one ns n d e

distinct_all : (more ns : List ℕ) → IsDistinct nat_eq ns → IsDistinct nat_eq (with_numbers ns more)
distinct_all [] ns d = d
distinct_all (m ∷ ms) ns d = distinct_all ms (with_number ns m) (distinct_with ns m d)

none_distinct : IsDistinct nat_eq []
unfolding IsDistinct
none_distinct = tt

-- ---- names by their numbers

abbrev name : ℕ → TypeName
name n = record { 0 = n }

leads_on : (defs : List TypeDef) (z x y : TypeName) (between : List TypeName) → Leads defs z between x → Holds defs x y → Leads defs z (between ++ x ∷ []) y
leads_on defs z x y [] l h = (l, h)
leads_on defs z x y (w ∷ ws) l h = (l.0, leads_on defs w x y ws l.1 h)

-- the numbers of the names that a name holds
abbrev pub held : List TypeDef → ℕ → List ℕ
held defs x = map (λ (y : TypeName). y.0) (held_names (definition defs (name x)))

-- all names that a name holds are in the set
abbrev pub HoldsWithin : List TypeDef → List ℕ → ℕ → Type 0
HoldsWithin defs ns x = (y : TypeName) → Holds defs (name x) y → Contains ns y.0

-- all names that the first n of a set hold are in it
abbrev pub IsClosedUpTo : List TypeDef → List ℕ → ℕ → Type 0
IsClosedUpTo defs ns n = (k y : ℕ) → k < n → slice_get ns k ≡ Some y → HoldsWithin defs ns y

-- a set of names to which a name leads, all different and below a bound
pub record AreReached (defs : List TypeDef) (bound x : ℕ) (ns : List ℕ) : Type 0 where
  pub lead : (y : ℕ) → Contains ns y → (between : List TypeName) × Leads defs (name x) between (name y)
  pub differ : IsDistinct nat_eq ns
  pub below : (y : ℕ) → Contains ns y → y < bound

module _ (defs : List TypeDef) where
  held_holds : (x n : ℕ) → Has (held defs x) n → (y : TypeName) × Holds defs (name x) y × (y.0 ≡ n)
  held_holds x n h = by_definition (definition defs (name x)) refl h
    where
      by_definition : (o : Option TypeDef) → definition defs (name x) ≡ o → Has (map (λ (y : TypeName). y.0) (held_names o)) n → (y : TypeName) × Holds defs (name x) y × (y.0 ≡ n)
      by_definition None e g = absurd g
      by_definition (Some d) e g = let r = has_mapped (λ (y : TypeName). y.0) (names_in_type d.ty) n g in (r.0, (d, e, contains (names_in_type d.ty) r.0 r.1), r.2)

  holds_held : (x : ℕ) (y : TypeName) → Holds defs (name x) y → Has (held defs x) y.0
  holds_held x y h =
      subst (λ (o : Option TypeDef). Has (map (λ (z : TypeName). z.0) (held_names o)) y.0) (sym h.1)
      (mapped_has (λ (z : TypeName). z.0) (names_in_type h.0.ty) y (has (names_in_type h.0.ty) y h.2))

  -- ---- one more round

  abbrev more : List ℕ → ℕ → List ℕ
  more ns y = with_numbers ns (held defs y)

  wider : (ns : List ℕ) (y n : ℕ) → Contains ns n → Contains (more ns y) n
  wider ns y n c = contains (more ns y) n (numbers_in (held defs y) ns n (inl (has ns n c)))

  all_held : (ns : List ℕ) (y : ℕ) → HoldsWithin defs (more ns y) y
  all_held ns y z h = contains (more ns y) z.0 (numbers_in (held defs y) ns z.0 (inr (holds_held y z h)))

  pub own_more : (ns : List ℕ) (x y : ℕ) → HoldsWithin defs ns x → HoldsWithin defs (more ns y) x
  own_more ns x y own z h = wider ns y z.0 (own z h)

  pub closed_more : (ns : List ℕ) (at y : ℕ) → slice_get ns at ≡ Some y → IsClosedUpTo defs ns at → IsClosedUpTo defs (more ns y) (at + 1)
  closed_more ns at y here closed k z lt e = ⊎_elim old new (cases_lt k at)
    where
      there : at < length ns
      there = slice_get_within ns at y here

      old : k < at → HoldsWithin defs (more ns y) z
      old l = own_more ns z y (closed k z l (stood (held defs y) ns k z (let t = there in omega (arith, l, t)) e))

      new : at ≤ k → HoldsWithin defs (more ns y) z
      new ge =
          let same : k ≡ at = omega (arith, lt, ge) in
          let t = there in
          let was : slice_get ns k ≡ Some z = stood (held defs y) ns k z (omega (arith, same, t)) e in
          let is : y ≡ z = one_at ns at y z here (subst (λ (j : ℕ). slice_get ns j ≡ Some z) same was) in
          subst (HoldsWithin defs (more ns y)) is (all_held ns y)

  pub reached_more : (bound x : ℕ) (ns : List ℕ) (y : ℕ) → AreReached defs bound x ns → ((between : List TypeName) × Leads defs (name x) between (name y)) → ((z w : TypeName) → Holds defs z w → w.0 < bound) → AreReached defs bound x (more ns y)
  reached_more bound x ns y r leads bounded = record {
    lead = λ n c. of_part n (in_numbers (held defs y) ns n (has (more ns y) n c));
    differ = distinct_all (held defs y) ns r.differ;
    below = λ n c. below_part n (in_numbers (held defs y) ns n (has (more ns y) n c));
  }
    where
      of_part : (n : ℕ) → Has ns n ⊎ Has (held defs y) n → (between : List TypeName) × Leads defs (name x) between (name n)
      of_part n (inl h) = r.lead n (contains ns n h)
      of_part n (inr h) =
          let g = held_holds y n h in
          (leads.0 ++ name y ∷ [], subst (λ (k : ℕ). Leads defs (name x) (leads.0 ++ name y ∷ []) (name k)) g.2 (leads_on defs (name x) (name y) g.0 leads.0 leads.1 g.1))

      below_part : (n : ℕ) → Has ns n ⊎ Has (held defs y) n → n < bound
      below_part n (inl h) = r.below n (contains ns n h)
      below_part n (inr h) = let g = held_holds y n h in let lt = bounded (name y) g.0 g.1 in let e = g.2 in omega (arith, lt, e)

  pub reached_first : (bound x : ℕ) → ((z w : TypeName) → Holds defs z w → w.0 < bound) → AreReached defs bound x (more [] x)
  reached_first bound x bounded = record {
    lead = λ n c. of_part n (in_numbers (held defs x) [] n (has (more [] x) n c));
    differ = distinct_all (held defs x) [] none_distinct;
    below = λ n c. below_part n (in_numbers (held defs x) [] n (has (more [] x) n c));
  }
    where
      of_part : (n : ℕ) → Has [] n ⊎ Has (held defs x) n → (between : List TypeName) × Leads defs (name x) between (name n)
      of_part n (inl h) = absurd h
      of_part n (inr h) = let g = held_holds x n h in ([], subst (λ (k : ℕ). Holds defs (name x) (name k)) g.2 g.1)

      below_part : (n : ℕ) → Has [] n ⊎ Has (held defs x) n → n < bound
      below_part n (inl h) = absurd h
      below_part n (inr h) = let g = held_holds x n h in let lt = bounded (name x) g.0 g.1 in let e = g.2 in omega (arith, lt, e)

  pub own_first : (x : ℕ) → HoldsWithin defs (more [] x) x
  own_first x = all_held [] x

-- ---- the end

-- sets of different numbers below a bound have no more elements
pub few : (defs : List TypeDef) (bound x : ℕ) (ns : List ℕ) → AreReached defs bound x ns → length ns ≤ bound
few defs bound x ns r = length-le_from_distinct_below ns bound r.differ (λ q e. r.below q (contains ns q ((number_decides q ns).0 e)))

pub closed_narrower : (defs : List TypeDef) (ns : List ℕ) (n m : ℕ) → m ≤ n → IsClosedUpTo defs ns n → IsClosedUpTo defs ns m
closed_narrower defs ns n m le closed k y lt = closed k y (omega (arith, le, lt))

pub none_at : (ns : List ℕ) (k : ℕ) → slice_get ns k ≡ None → length ns ≤ k
none_at ns k e = ⊎_elim (λ lt. absurd (let w = element ns k lt in let clash : None ≡ Some w.0 = sym e ∙ w.1 in cc)) (λ ge. ge) (cases_lt k (length ns))

module _ (defs : List TypeDef) (x : TypeName) (ns : List ℕ) (own : HoldsWithin defs ns x.0) (closed : IsClosedUpTo defs ns (length ns)) where
  step : (y z : TypeName) → Contains ns y.0 → Holds defs y z → Contains ns z.0
  step y z c h = let at = at_has ns y.0 (has ns y.0 c) in closed at.0 y.0 (slice_get_within ns at.0 y.0 at.1) at.1 z h

  -- a name in the set leads within it
  along : (y : TypeName) (between : List TypeName) → Contains ns y.0 → Leads defs y between x → Contains ns x.0
  along y [] c l = step y x c l
  along y (z ∷ zs) c l = along z zs (step y z c l.0) l.1

  pub itself_decides : (bound : ℕ) → AreReached defs bound x.0 ns → Decides (list_any (nat_eq x.0) ns) (HoldsItself defs x)
  itself_decides bound r = (λ e. r.lead x.0 (contains ns x.0 ((number_decides x.0 ns).0 e)), λ h. (number_decides x.0 ns).1 (has ns x.0 (on_cycle h.0 h.1)))
    where
      on_cycle : (between : List TypeName) → Leads defs x between x → Contains ns x.0
      on_cycle [] l = own x l
      on_cycle (z ∷ zs) l = along z zs (own z l.0) l.1

-- ---- names of a proper module

module _ (m : Module) (proper : IsProper m) where
  is_listed : (x : TypeName) → Contains (module_type_names m) x → x.0 < length m.types.names
  is_listed x c = subst (λ (y : TypeName). y.0 < length m.types.names) c.2 (proper.type_names_known c.0 x c.1)

  pub held_listed : (z w : TypeName) → Holds m.types.defs z w → w.0 < length m.types.names
  held_listed z w h =
      let d = defined m.types.defs z h.0 h.1 in
      let in_defs : Has m.types.defs h.0 = has_at m.types.defs d.0 h.0 d.1 in
      is_listed w (contains (module_type_names m) w
      (has_right (map (λ (d : TypeDef). d.name) m.types.defs) (flat_map names_in_type (module_types m)) w
      (has_part names_in_type (module_types m) h.0.ty w (in_types h.0 in_defs) (has (names_in_type h.0.ty) w h.2))))
    where
      mapped : (ds : List TypeDef) (d : TypeDef) → Has ds d → Has (map (λ (e : TypeDef). e.ty) ds) d.ty
      mapped [] d g = absurd g
      mapped (e ∷ es) d (inl same) = inl (ap (λ (b : TypeDef). b.ty) same)
      mapped (e ∷ es) d (inr g) = inr (mapped es d g)

      in_types : (d : TypeDef) → Has m.types.defs d → Has (module_types m) d.ty
      in_types d g = has_left (tys ++ globals) funcs d.ty (has_left tys globals d.ty (mapped m.types.defs d g))
        where
          tys : List IrType
          tys = map (λ (e : TypeDef). e.ty) m.types.defs

          globals : List IrType
          globals = flat_map (λ (v : GlobalVar). v.ty ∷ const_types v.init) m.globals

          funcs : List IrType
          funcs = flat_map (λ (f : Func). func_types f ++ typed_consts (func_consts f)) m.funcs

  pub holder_listed : (z w : TypeName) → Holds m.types.defs z w → z.0 < length m.types.names
  holder_listed z w h =
      let d = defined m.types.defs z h.0 h.1 in
      is_listed z (contains (module_type_names m) z
      (has_left (map (λ (e : TypeDef). e.name) m.types.defs) (flat_map names_in_type (module_types m)) z
      (subst (Has (map (λ (e : TypeDef). e.name) m.types.defs)) d.2 (mapped m.types.defs h.0 (has_at m.types.defs d.0 h.0 d.1)))))
    where
      mapped : (ds : List TypeDef) (d : TypeDef) → Has ds d → Has (map (λ (e : TypeDef). e.name) ds) d.name
      mapped [] d g = absurd g
      mapped (e ∷ es) d (inl same) = inl (ap (λ (b : TypeDef). b.name) same)
      mapped (e ∷ es) d (inr g) = inr (mapped es d g)
