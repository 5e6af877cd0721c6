-- A name holds itself where it holds a name of its component.
use Rattle.std.proofs.Common.{◌≡◌, ◌⊎◌, inl, inr, refl, sym, ap, ◌∙◌, subst, ⊎_elim, Bool, true, false, ◌||◌, ℕ, zero, suc, ◌<◌, List, [], ◌∷◌, map, replicate, length, Option, Some, None, slice_get, Contains, arith}
use Rattle.std.specs.List.{list_any}
use Rattle.std.specs.Bool.{Decides}
use Rattle.std.proofs.lemmas.Bool.{cases_lt}
use Rattle.std.proofs.lemmas.Bool.Decides.{nat_tests}
use Rattle.ir_core.specs.declared.ty.TypeName.{TypeName}
use Rattle.ir_core.specs.declared.ty.TypeDef.{TypeDef}
use Rattle.ir_core.specs.declared.module.Module.{Module}
use Rattle.ir_core.specs.Parts.{names_in_type}
use Rattle.ir_core.specs.Sizes.{definition}
use Rattle.ir_core.specs.Acyclic.{Holds, Leads, HoldsItself}
use Rattle.ir_core.specs.Proper.{IsProper}
use Rattle.ir_core.proofs.Lists.{Has, has_left, has_right, has_at, contains, has_mapped, map_source}
use Rattle.strong_components.specs.declared.edge.Edge.{Edge}
use Rattle.strong_components.specs.declared.walk.Mark.{Mark}
use Rattle.strong_components.specs.declared.walk.Mark.TheVariants.{Unseen, Open, Closed}
use Rattle.strong_components.specs.Chains as chains
use Rattle.strong_components.specs.Chains.{IsRootIn}
use Rattle.strong_components.specs.Walk.{IsSorted, AreEdges}
use Rattle.strong_components.specs.Marks.{mark_at, are_joined}
use Rattle.strong_components.proofs.Falling.{falls, closed_or}
use Rattle.strong_components.proofs.Sorted.{sorted_append}
use Rattle.module_rules.specs.Cycles.{held_names, edge_to, edges_from, edges_of, AreOfNames, any_joined}
use Rattle.module_rules.proofs.Faulty.{has, has_in}
use Rattle.module_rules.proofs.Decided.{false_is_not_true}
use Rattle.module_rules.proofs.Reaching.{held_listed, holder_listed}

-- ---- what a test finds in a list

any_of : {A : Type 0} (test : A → Bool) (xs : List A) → list_any test xs ≡ true → (x : A) × Has xs x × (test x ≡ true)
any_of test [] e = absurd (false_is_not_true e)
any_of {A} test (x ∷ xs) e = by_test (test x) refl e (any_of test xs)
  where
    by_test : (t : Bool) → test x ≡ t → (t || list_any test xs) ≡ true → (list_any test xs ≡ true → (y : A) × Has xs y × (test y ≡ true)) → (y : A) × Has (x ∷ xs) y × (test y ≡ true)
    by_test true t g rest = (x, inl refl, t)
    by_test false t g rest = let r = rest g in (r.0, inr r.1, r.2)

of_any : {A : Type 0} (test : A → Bool) (xs : List A) (x : A) → Has xs x → test x ≡ true → list_any test xs ≡ true
of_any test [] x h e = absurd h
of_any test (y ∷ ys) x h e = by_test (test y) refl h (λ g. of_any test ys x g e)
  where
    by_test : (t : Bool) → test y ≡ t → (y ≡ x) ⊎ Has ys x → (Has ys x → list_any test ys ≡ true) → (t || list_any test ys) ≡ true
    by_test true t h rest = refl
    by_test false t (inl same) rest = absurd (false_is_not_true (sym t ∙ ap test same ∙ e))
    by_test false t (inr h) rest = rest h

-- ---- the edges

abbrev name : ℕ → TypeName
name n = record { 0 = n }

module _ (defs : List TypeDef) where
  -- an edge is that of a name to one that it holds
  abbrev IsHeld : ℕ → Edge → Type 0
  IsHeld n e = (e.from < n) × Holds defs (name e.from) (name e.to)

  from_holds : (x : TypeName) (e : Edge) → Has (edges_from defs x) e → (e.from ≡ x.0) × Holds defs x (name e.to)
  from_holds x e h = by_definition (definition defs x) refl h
    where
      by_definition : (o : Option TypeDef) → definition defs x ≡ o → Has (map (edge_to x) (held_names o)) e → (e.from ≡ x.0) × Holds defs x (name e.to)
      by_definition None d g = absurd g
      by_definition (Some d) at g =
          let r = map_source (edge_to x) (names_in_type d.ty) e g in
          (sym (ap Edge.from r.2), (d, at, subst (λ (f : Edge). Contains (names_in_type d.ty) (name f.to)) r.2 (contains (names_in_type d.ty) r.0 r.1)))

  edge_holds : (n : ℕ) (e : Edge) → Has (edges_of defs n) e → IsHeld n e
  edge_holds zero e h = absurd h
  edge_holds (suc n) e h = ⊎_elim
      (λ g. let r = edge_holds n e g in let l = r.0 in (omega (arith, l), r.1))
      (λ g. let r = from_holds (name n) e g in let same = r.0 in (omega (arith, same), subst (λ (k : ℕ). Holds defs (name k) (name e.to)) (sym same) r.1))
      (has_in (edges_of defs n) (edges_from defs (name n)) e h)

  holds_from : (x y : TypeName) → Holds defs x y → Has (edges_from defs x) (edge_to x y)
  holds_from x y h =
      subst (λ (o : Option TypeDef). Has (map (edge_to x) (held_names o)) (edge_to x y)) (sym h.1)
      (has_mapped (edge_to x) (names_in_type h.0.ty) y (has (names_in_type h.0.ty) y h.2))

  holds_edge : (n : ℕ) (x y : TypeName) → x.0 < n → Holds defs x y → Has (edges_of defs n) (edge_to x y)
  holds_edge zero x y lt h = absurd (omega (arith, lt))
  holds_edge (suc n) x y lt h = ⊎_elim
      (λ l. has_left (edges_of defs n) (edges_from defs (name n)) (edge_to x y) (holds_edge n x y l h))
      (λ ge. let same : x.0 ≡ n = omega (arith, lt, ge) in has_right (edges_of defs n) (edges_from defs (name n)) (edge_to x y) (subst (λ (k : ℕ). Has (edges_from defs (name k)) (edge_to x y)) same (holds_from x y h)))
      (cases_lt x.0 n)

  ascend : (n : ℕ) → IsSorted (edges_of defs n)
  ascend zero i j s t le es et = absurd (let clash : None ≡ Some s = es in cc)
  ascend (suc n) i j s t le es et = sorted_append (edges_of defs n) (edges_from defs (name n)) (ascend n)
      (λ i j s t le es et. let a = (from_holds (name n) s (has_at (edges_from defs (name n)) i s es)).0 in let b = (from_holds (name n) t (has_at (edges_from defs (name n)) j t et)).0 in omega (arith, a, b))
      (λ i j s t es et. let a = (edge_holds n s (has_at (edges_of defs n) i s es)).0 in let b = (from_holds (name n) t (has_at (edges_from defs (name n)) j t et)).0 in omega (arith, a, b))
      i j s t le es et

module _ (m : Module) (proper : IsProper m) where
  abbrev n : ℕ
  n = length m.types.names

  abbrev edges : List Edge
  edges = edges_of m.types.defs n

  pub are_edges : (k : ℕ) → k ≡ n → AreEdges k edges
  are_edges k same = record {
    tails = λ i e at. let l = (edge_holds m.types.defs n e (has_at edges i e at)).0 in omega (arith, l, same);
    heads = λ i e at. let l = held_listed m proper (name e.from) (name e.to) (edge_holds m.types.defs n e (has_at edges i e at)).1 in omega (arith, l, same);
    sorted = ascend m.types.defs n;
  }

  -- ---- chains

  edge : (x y : TypeName) → Holds m.types.defs x y → Contains edges (edge_to x y)
  edge x y h = contains edges (edge_to x y) (holds_edge m.types.defs n x y (holder_listed m proper x y h) h)

  chain : (x z : TypeName) (between : List TypeName) → Leads m.types.defs x between z → chains.Leads edges x.0 z.0
  chain x z [] l = chains.goes (edge_to x z) z.0 (edge x z l) (chains.stays z.0)
  chain x z (y ∷ ys) l = chains.goes (edge_to x y) z.0 (edge x y l.0) (chain y z ys l.1)

  names_lead : {a b : ℕ} → chains.Leads edges a b → (w : ℕ) → Holds m.types.defs (name w) (name a) → (between : List TypeName) × Leads m.types.defs (name w) between (name b)
  names_lead (chains.stays f) w h = ([], h)
  names_lead (chains.goes e f has_e l) w h =
      let r = names_lead l e.from (edge_holds m.types.defs n e (has edges e has_e)).1 in
      (name e.from ∷ r.0, (h, r.1))

  -- ---- components

  module _ (marks : List Mark) (comps : AreOfNames m marks) (x : TypeName) where
    closed : (y : TypeName) → y.0 < n → (c : ℕ) × (mark_at marks y.0 ≡ Closed c)
    closed y lt = closed_or n edges (IsRootIn (replicate n true)) marks comps y.0 (comps.roots y.0 lt (all_true n y.0 lt))
      where
        all_true : (k i : ℕ) → i < k → slice_get (replicate k true) i ≡ Some true
        all_true zero i lt = absurd (omega (arith, lt))
        all_true (suc k) zero lt = refl
        all_true (suc k) (suc i) lt = all_true k i (omega (arith, lt))

    joined : (a b : Mark) → are_joined a b ≡ true → (c : ℕ) × (a ≡ Closed c) × (b ≡ Closed c)
    joined Unseen b e = absurd (false_is_not_true e)
    joined (Open p) b e = absurd (false_is_not_true e)
    joined (Closed c) Unseen e = absurd (false_is_not_true e)
    joined (Closed c) (Open p) e = absurd (false_is_not_true e)
    joined (Closed c) (Closed d) e = let same : d ≡ c = grind (arith, nat_tests) in (c, refl, ap Closed same)

    same_joined : (c : ℕ) → are_joined (Closed c) (Closed c) ≡ true
    same_joined c = grind (arith, nat_tests)

    same_closed : (k : Mark) (c d : ℕ) → k ≡ Closed c → k ≡ Closed d → c ≡ d
    same_closed k c d e h = let both : Closed c ≡ Closed d = sym e ∙ h in cc

    to_itself : (y : TypeName) → Holds m.types.defs x y → are_joined (mark_at marks y.0) (mark_at marks x.0) ≡ true → HoldsItself m.types.defs x
    to_itself y h e = let j = joined (mark_at marks y.0) (mark_at marks x.0) e in names_lead (comps.joined y.0 x.0 j.0 j.1 j.2) x.0 h

    -- a name that leads back is in the component
    is_joined : (y : TypeName) → Holds m.types.defs x y → chains.Leads edges y.0 x.0 → are_joined (mark_at marks y.0) (mark_at marks x.0) ≡ true
    is_joined y h back =
        let c = closed x (holder_listed m proper x y h) in
        let down = falls n edges (IsRootIn (replicate n true)) marks comps (chains.goes (edge_to x y) y.0 (edge x y h) (chains.stays y.0)) c.0 c.1 in
        let up = falls n edges (IsRootIn (replicate n true)) marks comps back down.0 down.1 in
        let c_is : up.0 ≡ c.0 = same_closed (mark_at marks x.0) up.0 c.0 up.1 c.1 in
        let le1 = down.2 in
        let le2 = up.2 in
        let same : down.0 ≡ c.0 = omega (arith, le1, le2, c_is) in
        rw (down.1, c.1, same) (same_joined c.0)

    by_definition : (o : Option TypeDef) → definition m.types.defs x ≡ o → (y : TypeName) → Has (held_names o) y → Holds m.types.defs x y
    by_definition None at y h = absurd h
    by_definition (Some d) at y h = (d, at, contains (names_in_type d.ty) y h)

    held_has : (y : TypeName) → Holds m.types.defs x y → Has (held_names (definition m.types.defs x)) y
    held_has y h = subst (λ (o : Option TypeDef). Has (held_names o) y) (sym h.1) (has (names_in_type h.0.ty) y h.2)

    first : (between : List TypeName) → Leads m.types.defs x between x → (y : TypeName) × Holds m.types.defs x y × chains.Leads edges y.0 x.0
    first [] l = (x, l, chains.stays x.0)
    first (y ∷ ys) l = (y, l.0, chain y x ys l.1)

    pub itself_decides : (names : List TypeName) → names ≡ held_names (definition m.types.defs x) → Decides (any_joined marks x names) (HoldsItself m.types.defs x)
    itself_decides names all = subst (λ (ys : List TypeName). Decides (any_joined marks x ys) (HoldsItself m.types.defs x)) (sym all) (there, back)
      where
        test : TypeName → Bool
        test y = are_joined (mark_at marks y.0) (mark_at marks x.0)

        there : any_joined marks x (held_names (definition m.types.defs x)) ≡ true → HoldsItself m.types.defs x
        there e = let r = any_of test (held_names (definition m.types.defs x)) e in to_itself r.0 (by_definition (definition m.types.defs x) refl r.0 r.1) r.2

        back : HoldsItself m.types.defs x → any_joined marks x (held_names (definition m.types.defs x)) ≡ true
        back h = let f = first h.0 h.1 in of_any test (held_names (definition m.types.defs x)) f.0 (held_has f.0 f.1) (is_joined f.0 f.1 f.2)
