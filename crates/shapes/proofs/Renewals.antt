-- What is known of new trees.
use Rattle.std.proofs.Common.{◌≡◌, ℕ, zero, suc, ◌+◌, ◌<◌, ◌≤◌, ◌==◌, nat_lt, Bool, true, false, cond, ◌||◌, if◌then◌else◌, List, [], ◌∷◌, ◌++◌, length, filter, replicate, slice_index_or, slice_set, Option, Some, None, refl, sym, ap, ap₂, subst, ◌∙◌, arith}
use Rattle.std.specs.List.{insert, prefix_len}
use Rattle.std.specs.Option.{option_map_or}
use Rattle.std.specs.declared.rc.Rc.{Rc}
use Rattle.std.specs.declared.alloc.Global.{Global}
use Rattle.std.proofs.lemmas.Bool.{or_parts, or_cases, eqb-true, eq-eqb}
use mathlib.Core.Logic.{◌⊎◌, inl, inr}
use Rattle.oi_base.specs.declared.ids.FuncId.{FuncId}
use Rattle.oi_base.specs.declared.ids.SiteId.{SiteId}
use Rattle.ir_core.specs.declared.module.Module.{Module}
use Rattle.shapes.specs.declared.renewal.Renewal.{Renewal}
use Rattle.shapes.specs.declared.renewal.Renewal.TheVariants.{Unseen, Same, New}
use Rattle.shapes.specs.Tree.{Tree, node, Callees, none, more, func, inlined, callees, nodes, nodes_of_callees}
use Rattle.shapes.specs.Weight.{IsWeighed, AreWeighed}
use Rattle.shapes.specs.Added.{Added}
use Rattle.shapes.specs.Reaching.{has_func, have_func, reaching_count}
use Rattle.shapes.specs.Renewed.{one_if, inserted, with_added, renewed, all_renewed, tree_over, is_new, is_seen, newest, new_count, renewal_at, all_newest, any_new, AreWithin, IsRenewal, AreRenewals, AreSeen, IsHeld, IsOld, AreOld}

-- ---- old trees

pub held : (m : Module) (a : Added) (t : Tree) → IsOld m a t → IsHeld m a t
held m a (node f w ks) h = h.0

pub inside : (m : Module) (a : Added) (t : Tree) → IsOld m a t → AreOld m a (inlined t)
inside m a (node f w ks) h = h.1

-- a place that has something is one of the list
pub has_place : {X : Type 0} (os : List (Option X)) (f : ℕ) (t : X) → slice_index_or os f None ≡ Some t → f < length os
has_place [] f t e = absurd (let clash : None ≡ Some t = e in cc)
has_place (o ∷ os) zero t e = omega arith
has_place (o ∷ os) (suc f) t e = let rest = has_place os f t e in omega (arith, rest)

at_node : (m : Module) (a : Added) (f g : FuncId) (w : ℕ) (ks : Callees) → IsHeld m a (node g w ks) → ((g.0 == f.0) ≡ true) ⊎ (have_func f ks ≡ true)
    → (have_func f ks ≡ true → (u : Tree) × (slice_index_or a.trees f.0 None ≡ Some u) × (nodes u ≤ nodes_of_callees ks)) → (u : Tree) × (slice_index_or a.trees f.0 None ≡ Some u) × (nodes u ≤ nodes (node g w ks))
at_node m a f g w ks h (inl e) rest = (node g w ks, subst (λ (k : ℕ). slice_index_or a.trees k None ≡ Some (node g w ks)) (eqb-true g.0 f.0 e) h.place, omega arith)
at_node m a f g w ks h (inr e) rest = let r = rest e in let le = r.2 in (r.0, r.1, omega (arith, le))

at_callee : (m : Module) (a : Added) (f : FuncId) (s : SiteId) (t : Tree) (ks : Callees) → (has_func f t ≡ true) ⊎ (have_func f ks ≡ true) → (has_func f t ≡ true → (u : Tree) × (slice_index_or a.trees f.0 None ≡ Some u) × (nodes u ≤ nodes t))
    → (have_func f ks ≡ true → (u : Tree) × (slice_index_or a.trees f.0 None ≡ Some u) × (nodes u ≤ nodes_of_callees ks)) → (u : Tree) × (slice_index_or a.trees f.0 None ≡ Some u) × (nodes u ≤ nodes_of_callees (more s t ks))
at_callee m a f s t ks (inl e) here rest = let r = here e in let le = r.2 in (r.0, r.1, omega (arith, le))
at_callee m a f s t ks (inr e) here rest = let r = rest e in let le = r.2 in (r.0, r.1, omega (arith, le))

-- the tree of a function that stands in an old tree has no more nodes
mutual
  found : (m : Module) (a : Added) (f : FuncId) (t : Tree) → IsOld m a t → has_func f t ≡ true → (u : Tree) × (slice_index_or a.trees f.0 None ≡ Some u) × (nodes u ≤ nodes t)
  found m a f (node g w ks) h e = at_node m a f g w ks h.0 (or_cases (g.0 == f.0) (have_func f ks) e) (λ x. founds m a f ks h.1 x)

  founds : (m : Module) (a : Added) (f : FuncId) (ks : Callees) → AreOld m a ks → have_func f ks ≡ true → (u : Tree) × (slice_index_or a.trees f.0 None ≡ Some u) × (nodes u ≤ nodes_of_callees ks)
  founds m a f none h e = absurd (let clash : false ≡ true = e in cc)
  founds m a f (more s t ks) h e = at_callee m a f s t ks (or_cases (has_func f t) (have_func f ks) e) (λ x. found m a f t h.0 x) (λ x. founds m a f ks h.1 x)

-- so a function never stands in its own callees
pub not_inside : (m : Module) (a : Added) (t : Tree) → IsOld m a t → have_func (func t) (inlined t) ≡ false
not_inside m a (node f w ks) h = by_test (have_func f ks) refl
  where
    by_test : (b : Bool) → have_func f ks ≡ b → b ≡ false
    by_test false e = refl
    by_test true e =
        let r = founds m a f ks h.1 e in
        let same : Some r.0 ≡ Some (node f w ks) = sym r.1 ∙ h.0.place in
        let is : r.0 ≡ node f w ks = cc in
        let as_large = ap nodes is in
        let le = r.2 in
        absurd (omega (arith, as_large, le))

-- ---- new trees

pub same_func : (m : Module) (a : Added) (t : Tree) → func (renewed m a t) ≡ func t
same_func m a (node f w ks) = refl

-- a tree without the caller stays
mutual
  pub unchanged : (m : Module) (a : Added) (t : Tree) → has_func a.caller t ≡ false → IsWeighed m t → renewed m a t ≡ t
  unchanged m a (node f w ks) e h =
      let parts = or_parts (f.0 == a.caller.0) (have_func a.caller ks) e in
      let rest = all_unchanged m a ks parts.1 h.1 in
      rw (parts.0, rest) (ap (λ (w : ℕ). node f w ks) (sym h.0))

  pub all_unchanged : (m : Module) (a : Added) (ks : Callees) → have_func a.caller ks ≡ false → AreWeighed m ks → all_renewed m a ks ≡ ks
  all_unchanged m a none e h = refl
  all_unchanged m a (more s t ks) e h =
      let parts = or_parts (has_func a.caller t) (have_func a.caller ks) e in
      ap₂ (λ (t : Tree) (ks : Callees). more s t ks) (unchanged m a t parts.0 h.0) (all_unchanged m a ks parts.1 h.1)

pub inserted_weighed : (m : Module) (s : SiteId) (t : Tree) (ks : Callees) → IsWeighed m t → AreWeighed m ks → AreWeighed m (inserted s t ks)
inserted_weighed m s t none h hs = (h, hs)
inserted_weighed m s t (more o k ks) h hs = by_test (nat_lt o.0 s.0) (inserted_weighed m s t ks h hs.1)
  where
    by_test : (b : Bool) → AreWeighed m (inserted s t ks) → AreWeighed m (if b then more o k (inserted s t ks) else more s t (more o k ks))
    by_test true rest = (hs.0, rest)
    by_test false rest = (h, hs)

pub added_weighed : (m : Module) (a : Added) (f : FuncId) (ks : Callees) → IsWeighed m a.callee → AreWeighed m ks → AreWeighed m (with_added a f ks)
added_weighed m a f ks h hs = by_test (f.0 == a.caller.0)
  where
    by_test : (b : Bool) → AreWeighed m (if b then inserted a.site a.callee ks else ks)
    by_test true = inserted_weighed m a.site a.callee ks h hs
    by_test false = hs

mutual
  pub renewed_weighed : (m : Module) (a : Added) (t : Tree) → IsWeighed m a.callee → IsWeighed m t → IsWeighed m (renewed m a t)
  renewed_weighed m a (node f w ks) h ht = (refl, added_weighed m a f (all_renewed m a ks) h (all_renewed_weighed m a ks h ht.1))

  pub all_renewed_weighed : (m : Module) (a : Added) (ks : Callees) → IsWeighed m a.callee → AreWeighed m ks → AreWeighed m (all_renewed m a ks)
  all_renewed_weighed m a none h hs = tt
  all_renewed_weighed m a (more s t ks) h hs = (renewed_weighed m a t h hs.0, all_renewed_weighed m a ks h hs.1)

-- ---- what is known

pub as_many : (m : Module) (a : Added) (os : List (Option Tree)) (rs : List Renewal) → AreRenewals m a os rs → length os ≡ length rs
as_many m a [] [] h = refl
as_many m a [] (r ∷ rs) h = absurd h
as_many m a (o ∷ os) [] h = absurd h
as_many m a (o ∷ os) (r ∷ rs) h = ap suc (as_many m a os rs h.1)

pub known_at : (m : Module) (a : Added) (os : List (Option Tree)) (rs : List Renewal) (f : ℕ) → AreRenewals m a os rs → IsRenewal m a (slice_index_or os f None) (slice_index_or rs f Unseen)
known_at m a [] [] f h = tt
known_at m a [] (r ∷ rs) f h = absurd h
known_at m a (o ∷ os) [] f h = absurd h
known_at m a (o ∷ os) (r ∷ rs) zero h = h.0
known_at m a (o ∷ os) (r ∷ rs) (suc f) h = known_at m a os rs f h.1

pub known_more : (m : Module) (a : Added) (os : List (Option Tree)) (rs : List Renewal) (f : ℕ) (r : Renewal) → AreRenewals m a os rs → IsRenewal m a (slice_index_or os f None) r → AreRenewals m a os (slice_set rs f r)
known_more m a [] [] f r h is = tt
known_more m a [] (x ∷ rs) f r h is = absurd h
known_more m a (o ∷ os) [] f r h is = absurd h
known_more m a (o ∷ os) (x ∷ rs) zero r h is = (is, h.1)
known_more m a (o ∷ os) (x ∷ rs) (suc f) r h is = (h.0, known_more m a os rs f r h.1 is)

pub none_known : (m : Module) (a : Added) (os : List (Option Tree)) → AreRenewals m a os (replicate (length os) Unseen)
none_known m a [] = tt
none_known m a (o ∷ os) = (tt, none_known m a os)

-- of an old tree of which it is known
module _ (m : Module) (a : Added) (t : Tree) (h : IsOld m a t) where
  pub known_new : (r : Renewal) → IsRenewal m a (Some t) r → is_seen r ≡ true → is_new r ≡ has_func a.caller t
  known_new Unseen is seen = absurd (let clash : false ≡ true = seen in cc)
  known_new Same is seen = let same : t ≡ is.0 = (let e = is.1 in cc) in sym (ap (has_func a.caller) same ∙ is.2)
  known_new (New r) is seen = let same : t ≡ is.0 = (let e = is.1 in cc) in sym (ap (has_func a.caller) same ∙ is.2)

  pub known_newest : (r : Renewal) → IsRenewal m a (Some t) r → is_seen r ≡ true → newest r t ≡ renewed m a t
  known_newest Unseen is seen = absurd (let clash : false ≡ true = seen in cc)
  known_newest Same is seen = let same : t ≡ is.0 = (let e = is.1 in cc) in sym (unchanged m a t (ap (has_func a.caller) same ∙ is.2) (held m a t h).weighed)
  known_newest (New r) is seen = let same : t ≡ is.0 = (let e = is.1 in cc) in is.3 ∙ ap (renewed m a) (sym same)

  -- it stands where its function does
  pub known_here : (rs : List Renewal) → AreRenewals m a a.trees rs → IsRenewal m a (Some t) (renewal_at rs (func t))
  known_here rs known = subst (λ (o : Option Tree). IsRenewal m a o (renewal_at rs (func t))) (held m a t h).place (known_at m a a.trees rs (func t).0 known)

  pub within_here : (rs : List Renewal) → AreRenewals m a a.trees rs → (func t).0 < length rs
  within_here rs known =
      let long = as_many m a a.trees rs known in
      let lt = has_place a.trees (func t).0 t (held m a t h).place in
      omega (arith, long, lt)

module _ (m : Module) (a : Added) (rs : List Renewal) (known : AreRenewals m a a.trees rs) where
  pub all_within : (ks : Callees) → AreOld m a ks → AreWithin (length rs) ks
  all_within none h = tt
  all_within (more s t ks) h = (within_here m a t h.0 rs known, all_within ks h.1)

  pub any_is : (ks : Callees) → AreOld m a ks → AreSeen rs ks → any_new rs ks ≡ have_func a.caller ks
  any_is none h seen = refl
  any_is (more s t ks) h seen = ap₂ (λ (x y : Bool). x || y) (known_new m a t h.0 (renewal_at rs (func t)) (known_here m a t h.0 rs known) seen.0) (any_is ks h.1 seen.1)

  pub newest_are : (ks : Callees) → AreOld m a ks → AreSeen rs ks → all_newest rs ks ≡ all_renewed m a ks
  newest_are none h seen = refl
  newest_are (more s t ks) h seen = ap₂ (λ (u : Tree) (us : Callees). more s u us) (known_newest m a t h.0 (renewal_at rs (func t)) (known_here m a t h.0 rs known) seen.0) (newest_are ks h.1 seen.1)

-- ---- callees in code

pub insert_is : (s : SiteId) (r : Rc Tree Global) (ks : List (SiteId × Rc Tree Global)) → callees (insert ks (prefix_len (λ (e : SiteId × Rc Tree Global). nat_lt e.0.0 s.0) ks) (s, r)) ≡ inserted s r.value (callees ks)
insert_is s r [] = refl
insert_is s r (k ∷ ks) = by_test (nat_lt k.0.0 s.0) (insert_is s r ks)
  where
    n : ℕ
    n = prefix_len (λ (e : SiteId × Rc Tree Global). nat_lt e.0.0 s.0) ks

    by_test : (b : Bool) → callees (insert ks n (s, r)) ≡ inserted s r.value (callees ks) → callees (insert (k ∷ ks) (cond b (1 + n) 0) (s, r)) ≡ (if b then more k.0 k.1.value (inserted s r.value (callees ks)) else more s r.value (more k.0 k.1.value (callees ks)))
    by_test true rest = let e : 1 + n ≡ suc n = omega arith in rw e (ap (λ (us : Callees). more k.0 k.1.value us) rest)
    by_test false rest = refl

-- ---- counts

pub new_count_set : (rs : List Renewal) (f : ℕ) (r : Renewal) → f < length rs → new_count (slice_set rs f r) + one_if (is_new (slice_index_or rs f Unseen)) ≡ new_count rs + one_if (is_new r)
new_count_set [] f r lt = absurd (omega (arith, lt))
new_count_set (x ∷ rs) zero r lt = omega arith
new_count_set (x ∷ rs) (suc f) r lt = let rest = new_count_set rs f r (omega (arith, lt)) in omega (arith, rest)

pub none_new : (n : ℕ) → new_count (replicate n Unseen) ≡ 0
none_new zero = refl
none_new (suc n) = let rest = none_new n in omega (arith, rest)

reaching_more : (c : FuncId) (o : Option Tree) (os : List (Option Tree)) → reaching_count c (o ∷ os) ≡ one_if (option_map_or (has_func c) o false) + reaching_count c os
reaching_more c o os = by_flag (option_map_or (has_func c) o false)
  where
    rest : List (Option Tree)
    rest = filter (λ (o : Option Tree). option_map_or (has_func c) o false) os

    by_flag : (b : Bool) → length (cond b (o ∷ rest) rest) ≡ (if b then 1 else 0) + length rest
    by_flag true = omega arith
    by_flag false = omega arith

one_most : (m : Module) (a : Added) (o : Option Tree) (r : Renewal) → IsRenewal m a o r → one_if (is_new r) ≤ one_if (option_map_or (has_func a.caller) o false)
one_most m a o Unseen is = omega arith
one_most m a o Same is = omega arith
one_most m a o (New r) is = rw (is.1, is.2) (omega arith)

pub count_most : (m : Module) (a : Added) (os : List (Option Tree)) (rs : List Renewal) → AreRenewals m a os rs → new_count rs ≤ reaching_count a.caller os
count_most m a [] [] h = omega arith
count_most m a [] (r ∷ rs) h = absurd h
count_most m a (o ∷ os) [] h = absurd h
count_most m a (o ∷ os) (r ∷ rs) h =
    let one = one_most m a o r h.0 in
    let rest = count_most m a os rs h.1 in
    let step = reaching_more a.caller o os in
    omega (arith, one, rest, step)

one_exact : (m : Module) (a : Added) (o : Option Tree) (r : Renewal) → IsRenewal m a o r → ((t : Tree) → o ≡ Some t → is_seen r ≡ true) → one_if (is_new r) ≡ one_if (option_map_or (has_func a.caller) o false)
one_exact m a None Unseen is seen = refl
one_exact m a (Some t) Unseen is seen = absurd (let clash : false ≡ true = seen t refl in cc)
one_exact m a o Same is seen = rw (is.1, is.2) refl
one_exact m a o (New r) is seen = rw (is.1, is.2) refl

pub count_all : (m : Module) (a : Added) (os : List (Option Tree)) (rs : List Renewal) → AreRenewals m a os rs → ((f : ℕ) (t : Tree) → slice_index_or os f None ≡ Some t → is_seen (slice_index_or rs f Unseen) ≡ true) → new_count rs ≡ reaching_count a.caller os
count_all m a [] [] h seen = refl
count_all m a [] (r ∷ rs) h seen = absurd h
count_all m a (o ∷ os) [] h seen = absurd h
count_all m a (o ∷ os) (r ∷ rs) h seen =
    let one = one_exact m a o r h.0 (seen 0) in
    let rest = count_all m a os rs h.1 (λ f. seen (suc f)) in
    let step = reaching_more a.caller o os in
    omega (arith, one, rest, step)

-- ---- callees so far

abbrev pub followed : List (SiteId × Rc Tree Global) → Callees → Callees
followed [] rest = rest
followed (k ∷ ks) rest = more k.0 k.1.value (followed ks rest)

pub followed_more : (ks : List (SiteId × Rc Tree Global)) (k : SiteId × Rc Tree Global) (rest : Callees) → followed (ks ++ k ∷ []) rest ≡ followed ks (more k.0 k.1.value rest)
followed_more [] k rest = refl
followed_more (x ∷ ks) k rest = ap (λ (us : Callees). more x.0 x.1.value us) (followed_more ks k rest)

pub followed_all : (ks : List (SiteId × Rc Tree Global)) → followed ks none ≡ callees ks
followed_all [] = refl
followed_all (k ∷ ks) = ap (λ (us : Callees). more k.0 k.1.value us) (followed_all ks)

-- ---- one function

same_reach : (c : FuncId) (t : Tree) → has_func c t ≡ ((func t).0 == c.0 || have_func c (inlined t))
same_reach c (node f w ks) = refl

same_tree : (m : Module) (a : Added) (t : Tree) → renewed m a t ≡ tree_over m (func t) (with_added a (func t) (all_renewed m a (inlined t)))
same_tree m a (node f w ks) = refl

inner_weights : (m : Module) (t : Tree) → IsWeighed m t → AreWeighed m (inlined t)
inner_weights m (node f w ks) h = h.1

module _ (m : Module) (a : Added) (t : Tree) (h : IsOld m a t) (rs : List Renewal) (known : AreRenewals m a a.trees rs) where
  pub callees_within : AreWithin (length rs) (inlined t)
  callees_within = all_within m a rs known (inlined t) (inside m a t h)

  module _ (seen : AreSeen rs (inlined t)) where
    pub reaches_is : ((func t).0 == a.caller.0 || any_new rs (inlined t)) ≡ has_func a.caller t
    reaches_is = ap (λ (b : Bool). (func t).0 == a.caller.0 || b) (any_is m a rs known (inlined t) (inside m a t h) seen) ∙ sym (same_reach a.caller t)

    pub renewed_is : tree_over m (func t) (with_added a (func t) (all_newest rs (inlined t))) ≡ renewed m a t
    renewed_is = ap (λ (ks : Callees). tree_over m (func t) (with_added a (func t) ks)) (newest_are m a rs known (inlined t) (inside m a t h) seen) ∙ sym (same_tree m a t)

    pub new_weighed : IsWeighed m a.callee → AreWeighed m (with_added a (func t) (all_newest rs (inlined t)))
    new_weighed callee =
        rw (newest_are m a rs known (inlined t) (inside m a t h) seen)
        (added_weighed m a (func t) (all_renewed m a (inlined t)) callee (all_renewed_weighed m a (inlined t) callee (inner_weights m t (held m a t h).weighed)))

-- ---- the added site in code

pub inserted_here : (a : Added) (f : FuncId) (ks : List (SiteId × Rc Tree Global)) (s : SiteId) (r : Rc Tree Global) (n : ℕ) → f.0 ≡ a.caller.0 → s ≡ a.site → r.value ≡ a.callee → n ≡ prefix_len (λ (e : SiteId × Rc Tree Global). nat_lt e.0.0 s.0) ks
    → callees (insert ks n (s, r)) ≡ with_added a f (callees ks)
inserted_here a f ks s r n caller site callee place =
    ap (λ (n : ℕ). callees (insert ks n (s, r))) place ∙ insert_is s r ks ∙ ap₂ (λ (s : SiteId) (t : Tree). inserted s t (callees ks)) site callee
    ∙ sym (ap (λ (b : Bool). if b then inserted a.site a.callee (callees ks) else callees ks) (eq-eqb f.0 a.caller.0 caller))

-- ---- sizes

pub smaller : (ks : List (SiteId × Rc Tree Global)) (i : ℕ) (d : SiteId × Rc Tree Global) → i < length ks → nodes (slice_index_or ks i d).1.value ≤ nodes_of_callees (callees ks)
smaller [] i d lt = absurd (omega (arith, lt))
smaller (k ∷ ks) zero d lt = omega arith
smaller (k ∷ ks) (suc i) d lt = let rest = smaller ks i d (omega (arith, lt)) in omega (arith, rest)

pub size_is : (t : Tree) → nodes t ≡ suc (nodes_of_callees (inlined t))
size_is (node f w ks) = refl
