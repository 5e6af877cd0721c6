-- The forest of the map in which each candidate is undecided.
use Rattle.std.proofs.Common.{◌≡◌, ℕ, zero, suc, ◌+◌, ◌<◌, ◌≤◌, Bool, true, false, cond, if◌then◌else◌, List, [], ◌∷◌, ◌++◌, length, filter, drop, get_or, slice_get, slice_index_or, Option, Some, None, refl, sym, ap, ap₂, subst, ◌∙◌, arith}
use Rattle.std.specs.Prelude.{is_some, ◌==◌}
use Rattle.std.specs.Option.{option_map}
use Rattle.std.specs.declared.rc.Rc.{Rc}
use Rattle.std.specs.declared.alloc.Global.{Global}
use Rattle.std.proofs.lemmas.List.{map-append, append_assoc, get_or_past, drop_more}
use Rattle.std.proofs.lemmas.Option.{slice_get_cases}
use mathlib.Core.Logic.{◌⊎◌, inl, inr}
use Rattle.oi_base.specs.declared.ids.FuncId.{FuncId}
use Rattle.oi_base.specs.declared.ids.SiteId.{SiteId}
use Rattle.ir_core.specs.declared.module.Module.{Module}
use Rattle.call_graph.specs.declared.facts.FuncFacts.{FuncFacts}
use Rattle.call_graph.specs.Graph.{Graph, candidate_ids}
use Rattle.decisions.specs.declared.maps.Label.{Label}
use Rattle.decisions.specs.Maps as maps
use Rattle.shapes.specs.Tree.{Tree, node, none}
use Rattle.shapes.specs.Weight.{own_weight, kept}
use Rattle.shapes.specs.Standing.{is_inline, inline_sites, values, IsTreeOf, IsForest, reached_count}
use Rattle.shapes.specs.Starting.{bare, bare_from}

-- ---- counting

pub reached_more : (h : FuncFacts) (hs : List FuncFacts) → reached_count (h ∷ hs) ≡ (if h.reached then 1 else 0) + reached_count hs
reached_more h hs = by_flag h.reached
  where
    by_flag : (b : Bool) → length (cond b (h ∷ filter (λ (h : FuncFacts). h.reached) hs) (filter (λ (h : FuncFacts). h.reached) hs)) ≡ (if b then 1 else 0) + reached_count hs
    by_flag true = omega arith
    by_flag false = omega arith

pub values_more : (os : List (Option (Rc Tree Global))) (o : Option (Rc Tree Global)) (rest : List (Option Tree)) → values (os ++ o ∷ []) ++ rest ≡ values os ++ option_map (λ (r : Rc Tree Global). r.value) o ∷ rest
values_more os o rest =
    ap (λ (xs : List (Option Tree)). xs ++ rest) (map-append (λ (o : Option (Rc Tree Global)). option_map (λ (r : Rc Tree Global). r.value) o) os (o ∷ []))
    ∙ append_assoc (values os) (option_map (λ (r : Rc Tree Global). r.value) o ∷ []) rest

-- one function more
pub count_step : (hs : List FuncFacts) (i : ℕ) (d : FuncFacts) → i < length hs → (made old new : ℕ) → made + reached_count (drop i hs) ≡ old + reached_count hs → new ≡ made + (if (get_or hs i d).reached then 1 else 0) → new + reached_count (drop (i + 1) hs) ≡ old + reached_count hs
count_step hs i d lt made old new so_far ticks =
    let step = ap reached_count (drop_more hs i d lt) in
    let more = reached_more (get_or hs i d) (drop (i + 1) hs) in
    omega (arith, so_far, ticks, step, more)

pub table_step : (m : Module) (os : List (Option (Rc Tree Global))) (o : Option (Rc Tree Global)) (hs : List FuncFacts) (i : ℕ) (d : FuncFacts) → i < length hs → (all : List (Option Tree)) → values os ++ bare_from m i (drop i hs) ≡ all → option_map (λ (r : Rc Tree Global). r.value) o ≡ bare m (get_or hs i d) (record { 0 = i }) → values (os ++ o ∷ []) ++ bare_from m (i + 1) (drop (i + 1) hs) ≡ all
table_step m os o hs i d lt all so_far e =
    values_more os o (bare_from m (i + 1) (drop (i + 1) hs))
    ∙ ap (λ (x : Option Tree). values os ++ x ∷ bare_from m (i + 1) (drop (i + 1) hs)) e
    ∙ ap (λ (xs : List FuncFacts). values os ++ bare_from m i xs) (sym (drop_more hs i d lt))
    ∙ so_far

-- ---- trees by their functions

pub length-bare : (m : Module) (n : ℕ) (hs : List FuncFacts) → length (bare_from m n hs) ≡ length hs
length-bare m n [] = refl
length-bare m n (h ∷ hs) = ap suc (length-bare m (n + 1) hs)

at_bare : (m : Module) (n : ℕ) (hs : List FuncFacts) (k : ℕ) (h : FuncFacts) → slice_get hs k ≡ Some h → slice_index_or (bare_from m n hs) k None ≡ bare m h (record { 0 = n + k })
at_bare m n [] k h e = absurd (let clash : None ≡ Some h = e in cc)
at_bare m n (x ∷ xs) zero h e =
    let same : x ≡ h = cc in
    let z : n ≡ n + 0 = omega arith in
    ap₂ (λ (x : FuncFacts) (k : ℕ). bare m x (record { 0 = k })) same z
at_bare m n (x ∷ xs) (suc k) h e =
    let z : n + 1 + k ≡ n + suc k = omega arith in
    at_bare m (n + 1) xs k h e ∙ ap (λ (k : ℕ). bare m h (record { 0 = k })) z

pub tree_at : (m : Module) (hs : List FuncFacts) (f : FuncId) (h : FuncFacts) → slice_get hs f.0 ≡ Some h → slice_index_or (bare_from m 0 hs) f.0 None ≡ bare m h f
tree_at m hs f h e = at_bare m 0 hs f.0 h e ∙ (let z : 0 + f.0 ≡ f.0 = omega arith in ap (λ (k : ℕ). bare m h (record { 0 = k })) z)

-- ---- labels

sites-undecided : (sites : List SiteId) → maps.sites_of (maps.undecided {L = Label} sites) ≡ sites
sites-undecided [] = refl
sites-undecided (s ∷ ss) = ap (λ (xs : List SiteId). s ∷ xs) (sites-undecided ss)

not_inline : (sites : List SiteId) (s : SiteId) → is_inline (maps.label_of (maps.undecided sites) s) ≡ false
not_inline [] s = refl
not_inline (x ∷ xs) s = by_test (x.0 == s.0) (not_inline xs s)
  where
    by_test : (b : Bool) → is_inline (maps.label_of (maps.undecided xs) s) ≡ false → is_inline (if b then Some None else maps.label_of (maps.undecided xs) s) ≡ false
    by_test true h = refl
    by_test false h = h

none_pass : (test : SiteId → Bool) → ((s : SiteId) → test s ≡ false) → (xs : List SiteId) → filter test xs ≡ []
none_pass test h [] = refl
none_pass test h (x ∷ xs) = rw (h x) (none_pass test h xs)

no_sites : (g : Graph) (sites : List SiteId) (f : FuncId) → inline_sites g (maps.undecided sites) f ≡ []
no_sites g sites f = none_pass _ (λ s. rw (not_inline sites s) refl) (maps.sites_of (maps.undecided sites))

-- ---- the forest

is_bare : (m : Module) (g : Graph) (sites : List SiteId) (f : FuncId) (h : FuncFacts) (t : Tree) → bare m h f ≡ Some t → IsTreeOf m g (maps.undecided sites) f t
is_bare m g sites f h t e = by_flag h.reached e
  where
    leaf : Tree
    leaf = node f (kept (own_weight m f + 0)) none

    by_flag : (b : Bool) → (if b then Some (node f (kept (own_weight m f + 0)) none) else None) ≡ Some t → IsTreeOf m g (maps.undecided sites) f t
    by_flag true e =
        let same : node f (kept (own_weight m f + 0)) none ≡ t = cc in
        subst (λ (t : Tree). IsTreeOf m g (maps.undecided sites) f t) same (record { function = refl; stands = (sym (no_sites g sites f), tt); weighed = (refl, tt) })
    by_flag false e = absurd (let clash : None ≡ Some t = e in cc)

reached_bare : (m : Module) (h : FuncFacts) (f : FuncId) → is_some (bare m h f) ≡ h.reached
reached_bare m h f = by_flag h.reached
  where
    by_flag : (b : Bool) → is_some (if b then Some (node f (kept (own_weight m f + 0)) none) else None) ≡ b
    by_flag true = refl
    by_flag false = refl

pub starts : (m : Module) (g : Graph) → IsForest m g (record { trees = bare_from m 0 g.funcs; labels = maps.undecided (candidate_ids g) })
starts m g = record {
  candidates = sites-undecided (candidate_ids g);
  one_each = length-bare m 0 g.funcs;
  reached = λ f h e. ap is_some (tree_at m g.funcs f h e) ∙ reached_bare m h f;
  stands = λ f t e. by_place f t e (slice_get_cases g.funcs f.0).1;
}
  where
    by_place : (f : FuncId) (t : Tree) → slice_index_or (bare_from m 0 g.funcs) f.0 None ≡ Some t → (((x : FuncFacts) × (f.0 < length g.funcs) × (slice_get g.funcs f.0 ≡ Some x) × (get_or g.funcs f.0 x ≡ x)) ⊎ ((length g.funcs ≤ f.0) × (slice_get g.funcs f.0 ≡ None))) → IsTreeOf m g (maps.undecided (candidate_ids g)) f t
    by_place f t e (inl p) = is_bare m g (candidate_ids g) f p.0 t (sym (tree_at m g.funcs f p.0 p.2) ∙ e)
    by_place f t e (inr p) =
        let l = length-bare m 0 g.funcs in
        let past = get_or_past (bare_from m 0 g.funcs) f.0 None (omega (arith, l, p.0)) in
        absurd (let clash : None ≡ Some t = sym past ∙ e in cc)
