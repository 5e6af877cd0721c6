-- Loops over the undecided sites inside a set.
use Rattle.std.proofs.Common.{◌≡◌, ◌≢◌, ◌⊎◌, ℕ, zero, suc, ◌+◌, ◌<◌, ◌≤◌, ◌^◌, refl, sym, ap, ap₂, ◌∙◌, subst, inl, inr, ⊎_elim, arith, Bool, true, false, ◌&&◌, ◌||◌, nat_eq, cond, if◌then◌else◌, List, [], ◌∷◌, ◌++◌, length, take, drop, drop-cons, get_or, set, get_or-set_same, get_or-set_other, Option, Some, None}
use Rattle.std.specs.Prelude.{slice_index, nat_lt, IfSome, IfNone}
use Rattle.std.specs.List.{filter, All}
use Rattle.std.proofs.lemmas.Bool.{and_parts, or_cases, eqb-true, eqb-false, false≢true, true≢false, cases_eq}
use Rattle.std.proofs.lemmas.List.{length-map, length-set, length-append, get_or-map, map-append, take_more}
use Rattle.std.proofs.lemmas.List.Elements.{filter_more, filter-append, All-get_or}
use Rattle.oi_base.specs.declared.ids.SiteId.{SiteId}
use Rattle.oi_base.specs.declared.ids.FuncId.{FuncId}
use Rattle.call_graph.specs.Graph.{Graph}
use Rattle.component_split.specs.Graph.{SiteGraph, Labels, has, inside, is_open}
use Rattle.component_split.specs.Split.{open_sites, is_bridge}
use Rattle.component_split.specs.Chosen.{touches, degree, heaviest, first_bridge, chosen_of, chosen, heaviest_from, heavier_of, site_number, open_of, AreDegrees}
use Rattle.component_split.specs.Tree.{is_empty, is_decided}
use Rattle.component_split.specs.Over.{func_numbers, site_numbers, site_graph, caller_of, callee_of, Set, IsSetOf, IsCandidateNumber, IsCounted}
use Rattle.component_split.proofs.Lists.{filter_filter, filter_short, place_of_has, has_tail}
use Rattle.component_split.proofs.Known.{site_of_set}

-- the undecided sites inside a set are those of its sites
pub open_of_set : (G : Graph) (p : Labels) (s : Set) → IsSetOf G s → open_of p s.1 ≡ open_sites (site_graph G) p s.0
unfolding open_sites
open_of_set G p s o = ap (open_of p) o.sites ∙ filter_filter (inside (site_graph G) s.0) (λ q. is_open (p q)) (site_graph G).sites

-- a site of a set, as the code reads it
pub record SiteAt (G : Graph) (s : Set) (k : ℕ) (x : SiteId) : Type 0 where
  pub number : slice_index s.1 k ≡ x.0
  pub candidate : IsCandidateNumber G x.0
  pub inside_it : inside (site_graph G) s.0 x.0 ≡ true
  pub within : k < length s.1

pub site_at : (G : Graph) (s : Set) → IsSetOf G s → (sites : List SiteId) → site_numbers sites ≡ s.1 → (k : ℕ) (d : SiteId) → k < length sites → SiteAt G s k (get_or sites k d)
site_at G s o sites e k d l =
    let m : length (site_numbers sites) ≡ length sites = simp length-map in
    let n = ap length e in
    let w : k < length s.1 = omega (arith, m, n, l) in
    let q : slice_index s.1 k ≡ (get_or sites k d).0 = ap (λ (xs : List ℕ). slice_index xs k) (sym e) ∙ get_or-map (λ (x : SiteId). x.0) sites k d 0 l in
    let f = site_of_set G s o k w in
    record { number = q; candidate = subst (IsCandidateNumber G) q f.0; inside_it = ap (inside (site_graph G) s.0) (sym q) ∙ f.1; within = w }

drop_at : (xs : List ℕ) (k x : ℕ) → k < length xs → slice_index xs k ≡ x → drop k xs ≡ x ∷ drop (k + 1) xs
drop_at xs k x l e = let s : suc k ≡ k + 1 = omega arith in drop-cons xs k 0 l ∙ ap (λ y. y ∷ drop (suc k) xs) e ∙ ap (λ n. x ∷ drop n xs) s

-- ---- the lowest bridge

next_bridge : (g : SiteGraph) (p : Labels) (fs : List ℕ) (q : ℕ) (rest : List ℕ) (other : ℕ) (a b : Bool) → is_open (p q) ≡ a → is_bridge g p fs q ≡ b → first_bridge g p fs (cond (is_open (p q)) (q ∷ open_of p rest) (open_of p rest)) other ≡ (if a && b then q else first_bridge g p fs (open_of p rest) other)
next_bridge g p fs q rest other true b e f = rw e (ap (λ c. if c then q else first_bridge g p fs (open_of p rest) other) f)
next_bridge g p fs q rest other false b e f = rw e refl

pub bridge_at : (G : Graph) (p : Labels) (s : Set) (k : ℕ) (x : SiteId) (other : ℕ) (b : Bool) → SiteAt G s k x → (is_open (p x.0) && is_bridge (site_graph G) p s.0 x.0) ≡ b → first_bridge (site_graph G) p s.0 (open_of p (drop k s.1)) other ≡ (if b then x.0 else first_bridge (site_graph G) p s.0 (open_of p (drop (k + 1) s.1)) other)
bridge_at G p s k x other b at e = ap (λ (ss : List ℕ). first_bridge (site_graph G) p s.0 (open_of p ss) other) (drop_at s.1 k x.0 at.within at.number)
    ∙ next_bridge (site_graph G) p s.0 x.0 (drop (k + 1) s.1) other (is_open (p x.0)) (is_bridge (site_graph G) p s.0 x.0) refl refl
    ∙ ap (λ c. if c then x.0 else first_bridge (site_graph G) p s.0 (open_of p (drop (k + 1) s.1)) other) e

pub drop_none : (xs : List ℕ) (k : ℕ) → length xs ≤ k → drop k xs ≡ []
drop_none [] zero l = refl
drop_none [] (suc k) l = refl
drop_none (x ∷ xs) zero l = absurd (omega (arith, l))
drop_none (x ∷ xs) (suc k) l = drop_none xs k (omega (arith, l))

chosen_by : (g : SiteGraph) (p : Labels) (fs us : List ℕ) → is_empty us ≡ false → chosen_of g p fs us ≡ first_bridge g p fs us (heaviest_from g us None us)
chosen_by g p fs [] h = absurd (true≢false h)
chosen_by g p fs (u ∷ us) h = refl

pub chosen_is : (g : SiteGraph) (p : Labels) (fs : List ℕ) → is_decided g p fs ≡ false → chosen g p fs ≡ first_bridge g p fs (open_sites g p fs) (heaviest_from g (open_sites g p fs) None (open_sites g p fs))
unfolding chosen
chosen_is g p fs h = chosen_by g p fs (open_sites g p fs) h

-- ---- the heaviest site

next_heavy : (g : SiteGraph) (us : List ℕ) (best : Option SiteId) (q y : ℕ) (rest : List ℕ) (d : ℕ → ℕ) → ((b : SiteId) → best ≡ Some b → (d (g.caller b.0) ≡ degree g us (g.caller b.0)) × (d (g.callee b.0) ≡ degree g us (g.callee b.0))) → d (g.caller q) ≡ degree g us (g.caller q) → d (g.callee q) ≡ degree g us (g.callee q) → y ≡ heavier_of d g best q → heaviest_from g us (site_number best) (q ∷ rest) ≡ heaviest g us y rest
next_heavy g us None q y rest d hb h1 h2 e = ap (λ z. heaviest g us z rest) (sym e)
next_heavy g us (Some b) q y rest d hb h1 h2 e =
    let k = hb b refl in
    ap (λ z. heaviest g us z rest) (ap₂ (λ m n. if nat_lt m n then q else b.0) (ap₂ (λ m n. m + n) (sym k.0) (sym k.1)) (ap₂ (λ m n. m + n) (sym h1) (sym h2)) ∙ sym e)

ends_in : (g : SiteGraph) (fs : List ℕ) (q : ℕ) → inside g fs q ≡ true → (has fs (g.caller q) ≡ true) × (has fs (g.callee q) ≡ true)
ends_in g fs q h = and_parts (has fs (g.caller q)) (has fs (g.callee q)) h

-- ---- degrees

pub counted_one : (ds : List ℕ) (a b f : ℕ) → a < length ds → b ≡ a → slice_index (set ds a (slice_index ds a + 1)) f ≡ slice_index ds f + (if nat_eq a f || nat_eq b f then 1 else 0)
counted_one ds a b f l e = subst (λ b. slice_index (set ds a (slice_index ds a + 1)) f ≡ slice_index ds f + (if nat_eq a f || nat_eq b f then 1 else 0)) (sym e) (one (nat_eq a f) refl)
  where
    twice : (b : Bool) → (b || b) ≡ b
    twice true = refl
    twice false = refl

    one : (u : Bool) → nat_eq a f ≡ u → slice_index (set ds a (slice_index ds a + 1)) f ≡ slice_index ds f + (if nat_eq a f || nat_eq a f then 1 else 0)
    one true i = let s : a ≡ f = eqb-true a f i in rw i (subst (λ f. slice_index (set ds a (slice_index ds a + 1)) f ≡ slice_index ds f + 1) s (get_or-set_same ds a (slice_index ds a + 1) 0 l))
    one false i = let n : f ≢ a = λ e. eqb-false a f i (sym e) in let o = get_or-set_other ds a f (slice_index ds a + 1) 0 n in rw i (omega (arith, o))

pub counted_two : (ds : List ℕ) (a b f : ℕ) → a < length ds → b < length ds → b ≢ a → slice_index (set (set ds a (slice_index ds a + 1)) b (slice_index ds b + 1)) f ≡ slice_index ds f + (if nat_eq a f || nat_eq b f then 1 else 0)
counted_two ds a b f l m ne = one (nat_eq b f) (nat_eq a f) refl refl
  where
    es : List ℕ
    es = set ds a (slice_index ds a + 1)

    long : b < length es
    long = let s = length-set ds a (slice_index ds a + 1) in omega (arith, s, m)

    one : (u v : Bool) → nat_eq b f ≡ u → nat_eq a f ≡ v → slice_index (set es b (slice_index ds b + 1)) f ≡ slice_index ds f + (if nat_eq a f || nat_eq b f then 1 else 0)
    one true true i j = absurd (ne (eqb-true b f i ∙ sym (eqb-true a f j)))
    one true false i j = let s : b ≡ f = eqb-true b f i in rw (i, j) (subst (λ f. slice_index (set es b (slice_index ds b + 1)) f ≡ slice_index ds f + 1) s (get_or-set_same es b (slice_index ds b + 1) 0 long))
    one false v i j =
        let n : f ≢ b = λ e. eqb-false b f i (sym e) in
        let o = get_or-set_other es b f (slice_index ds b + 1) 0 n in
        o ∙ two v j
      where
        two : (v : Bool) → nat_eq a f ≡ v → slice_index es f ≡ slice_index ds f + (if nat_eq a f || nat_eq b f then 1 else 0)
        two true j = let s : a ≡ f = eqb-true a f j in rw (i, j) (subst (λ f. slice_index (set ds a (slice_index ds a + 1)) f ≡ slice_index ds f + 1) s (get_or-set_same ds a (slice_index ds a + 1) 0 l))
        two false j = let n : f ≢ a = λ e. eqb-false a f j (sym e) in let o = get_or-set_other ds a f (slice_index ds a + 1) 0 n in rw (i, j) (omega (arith, o))

-- one more site counted
pub degree_at : (G : Graph) (p : Labels) (s : Set) (k : ℕ) (x : SiteId) (ds es : List ℕ) (b : Bool) → SiteAt G s k x → is_open (p x.0) ≡ b → AreDegrees (site_graph G) s.0 (open_of p (take k s.1)) ds → ((f : ℕ) → slice_index es f ≡ slice_index ds f + (if b && touches (site_graph G) f x.0 then 1 else 0)) → AreDegrees (site_graph G) s.0 (open_of p (take (k + 1) s.1)) es
degree_at G p s k x ds es b at e h n = λ f i.
    let m : open_of p (take (k + 1) s.1) ≡ open_of p (take k s.1) ++ cond (is_open (p (slice_index s.1 k))) (slice_index s.1 k ∷ []) [] = filter_more (λ q. is_open (p q)) s.1 k 0 at.within in
    let m2 : open_of p (take (k + 1) s.1) ≡ open_of p (take k s.1) ++ cond b (x.0 ∷ []) [] = m ∙ ap (λ q. open_of p (take k s.1) ++ cond (is_open (p q)) (q ∷ []) []) at.number ∙ ap (λ c. open_of p (take k s.1) ++ cond c (x.0 ∷ []) []) e in
    n f ∙ ap (λ d. d + (if b && touches (site_graph G) f x.0 then 1 else 0)) (h f i) ∙ sym (ap (λ (us : List ℕ). degree (site_graph G) us f) m2 ∙ one b f)
  where
    none : (us : List ℕ) → us ++ [] ≡ us
    none [] = refl
    none (u ∷ us) = ap (λ (vs : List ℕ). u ∷ vs) (none us)

    last : (c : Bool) (P : ℕ → Bool) (us : List ℕ) (q : ℕ) → P q ≡ c → length (filter P (us ++ q ∷ [])) ≡ length (filter P us) + (if c then 1 else 0)
    last c P us q pq = ap length (filter-append P us (q ∷ [])) ∙ length-append (filter P us) (filter P (q ∷ [])) ∙ ap (λ n. length (filter P us) + n) (tail c pq)
      where
        tail : (c : Bool) → P q ≡ c → length (filter P (q ∷ [])) ≡ (if c then 1 else 0)
        tail true e = rw e refl
        tail false e = rw e refl

    one : (b : Bool) (f : ℕ) → degree (site_graph G) (open_of p (take k s.1) ++ cond b (x.0 ∷ []) []) f ≡ degree (site_graph G) (open_of p (take k s.1)) f + (if b && touches (site_graph G) f x.0 then 1 else 0)
    one true f = last (touches (site_graph G) f x.0) (touches (site_graph G) f) (open_of p (take k s.1)) x.0 refl
    one false f = let e = none (open_of p (take k s.1)) in let a = ap (λ (us : List ℕ). degree (site_graph G) us f) e in omega (arith, a)

-- no degree is more than how many sites there are
pub counted : (G : Graph) (s : Set) (k : ℕ) (x : SiteId) (us ds : List ℕ) → IsSetOf G s → SiteAt G s k x → length ds ≡ length G.funcs → AreDegrees (site_graph G) s.0 us ds → length us < 2 ^ 63 → IsCounted G ds x.0
counted G s k x us ds o at n h few =
    let e = and_parts (has s.0 (caller_of G x.0)) (has s.0 (callee_of G x.0)) at.inside_it in
    let in_range : (f : ℕ) → has s.0 f ≡ true → f < length ds = λ f i. let pl = place_of_has s.0 f i in let a = All-get_or (λ f. f < length G.funcs) s.0 pl.0 0 pl.1 o.in_range in let q = pl.2 in omega (arith, a, q, n) in
    let small : (f : ℕ) → has s.0 f ≡ true → slice_index ds f < 2 ^ 63 = λ f i. let d = h f i in let t = filter_short (touches (site_graph G) f) us in omega (arith, d, t, few) in
    record { candidate = at.candidate; caller = in_range (caller_of G x.0) e.0; callee = in_range (callee_of G x.0) e.1; few_at_caller = small (caller_of G x.0) e.0; few_at_callee = small (callee_of G x.0) e.1 }

has_last : (xs : List ℕ) (f x : ℕ) → has (xs ++ f ∷ []) x ≡ true → (has xs x ≡ true) ⊎ (f ≡ x)
has_last [] f x h = ⊎_elim (λ e. inr (eqb-true f x e)) (λ e. absurd (false≢true e)) (or_cases (nat_eq f x) false h)
has_last (y ∷ ys) f x h = ⊎_elim (λ e. let t : has (y ∷ ys) x ≡ true = rw e refl in inl t) (λ e. ⊎_elim (λ i. inl (has_tail y x ys i)) (λ i. inr i) (has_last ys f x e)) (or_cases (nat_eq y x) (has (ys ++ f ∷ []) x) h)

-- one more function has no degree
pub cleared : (ds : List ℕ) (funcs : List FuncId) (k : ℕ) (d : FuncId) → k < length funcs → (get_or funcs k d).0 < length ds → ((x : ℕ) → has (func_numbers (take k funcs)) x ≡ true → slice_index ds x ≡ 0) → (x : ℕ) → has (func_numbers (take (k + 1) funcs)) x ≡ true → slice_index (set ds (get_or funcs k d).0 0) x ≡ 0
cleared ds funcs k d l w h x i =
    let f = (get_or funcs k d).0 in
    let t : func_numbers (take (k + 1) funcs) ≡ func_numbers (take k funcs) ++ f ∷ [] = ap func_numbers (take_more funcs k d l) ∙ map-append (λ (f : FuncId). f.0) (take k funcs) (get_or funcs k d ∷ []) in
    ⊎_elim (λ e. subst (λ y. slice_index (set ds f 0) y ≡ 0) (sym e) (get_or-set_same ds f 0 0 w))
    (λ ne. get_or-set_other ds f x 0 0 ne ∙ ⊎_elim (λ j. h x j) (λ j. absurd (ne (sym j))) (has_last (func_numbers (take k funcs)) f x (ap (λ (xs : List ℕ). has xs x) (sym t) ∙ i)))
    (cases_eq x f)

pub below_all : (n : ℕ) (funcs : List FuncId) (k : ℕ) (d : FuncId) → All (λ f. f < n) (func_numbers funcs) → k < length funcs → (get_or funcs k d).0 < n
below_all n funcs k d h l =
    let m : length (func_numbers funcs) ≡ length funcs = simp length-map in
    let e : get_or (func_numbers funcs) k 0 ≡ (get_or funcs k d).0 = get_or-map (λ (f : FuncId). f.0) funcs k d 0 l in
    let a = h k 0 (omega (arith, m, l)) in omega (arith, a, e)

-- the heaviest so far and one more
pub heavy_open : (G : Graph) (p : Labels) (s : Set) (k : ℕ) (x y : SiteId) (us ds : List ℕ) (best : Option SiteId) → SiteAt G s k x → is_open (p x.0) ≡ true → AreDegrees (site_graph G) s.0 us ds → IfSome best (λ b. inside (site_graph G) s.0 b.0 ≡ true) → y.0 ≡ heavier_of (slice_index ds) (site_graph G) best x.0 → heaviest_from (site_graph G) us (site_number best) (open_of p (drop k s.1)) ≡ heaviest_from (site_graph G) us (site_number (Some y)) (open_of p (drop (k + 1) s.1))
heavy_open G p s k x y us ds best at e h b i =
    let g = site_graph G in
    let ends = ends_in g s.0 x.0 at.inside_it in
    let d : open_of p (drop k s.1) ≡ x.0 ∷ open_of p (drop (k + 1) s.1) = ap (open_of p) (drop_at s.1 k x.0 at.within at.number) ∙ ap (λ c. cond c (x.0 ∷ open_of p (drop (k + 1) s.1)) (open_of p (drop (k + 1) s.1))) e in
    ap (heaviest_from g us (site_number best)) d ∙ next_heavy g us best x.0 y.0 (open_of p (drop (k + 1) s.1)) (slice_index ds)
    (λ c j. let z = ends_in g s.0 c.0 (subst (λ (o : Option SiteId). IfSome o (λ b. inside g s.0 b.0 ≡ true)) j b) in (h (g.caller c.0) z.0, h (g.callee c.0) z.1))
    (h (g.caller x.0) ends.0) (h (g.callee x.0) ends.1) i

pub heavy_closed : (G : Graph) (p : Labels) (s : Set) (k : ℕ) (x : SiteId) (us : List ℕ) (best : Option SiteId) → SiteAt G s k x → is_open (p x.0) ≡ false → heaviest_from (site_graph G) us (site_number best) (open_of p (drop k s.1)) ≡ heaviest_from (site_graph G) us (site_number best) (open_of p (drop (k + 1) s.1))
heavy_closed G p s k x us best at e =
    let d : open_of p (drop k s.1) ≡ open_of p (drop (k + 1) s.1) = ap (open_of p) (drop_at s.1 k x.0 at.within at.number) ∙ ap (λ c. cond c (x.0 ∷ open_of p (drop (k + 1) s.1)) (open_of p (drop (k + 1) s.1))) e in
    ap (heaviest_from (site_graph G) us (site_number best)) d

-- the heavier of sites inside a set is inside it
pub heavier_inside : (g : SiteGraph) (fs : List ℕ) (d : ℕ → ℕ) (best : Option SiteId) (x y : SiteId) → inside g fs x.0 ≡ true → IfSome best (λ b. inside g fs b.0 ≡ true) → y.0 ≡ heavier_of d g best x.0 → inside g fs y.0 ≡ true
heavier_inside g fs d None x y h b e = ap (inside g fs) e ∙ h
heavier_inside g fs d (Some c) x y h b e = ap (inside g fs) e ∙ either (nat_lt (d (g.caller c.0) + d (g.callee c.0)) (d (g.caller x.0) + d (g.callee x.0)))
  where
    either : (t : Bool) → inside g fs (if t then x.0 else c.0) ≡ true
    either true = h
    either false = b

pub take_all : (xs : List ℕ) (k : ℕ) → length xs ≤ k → take k xs ≡ xs
take_all [] zero l = refl
take_all [] (suc k) l = refl
take_all (x ∷ xs) zero l = absurd (omega (arith, l))
take_all (x ∷ xs) (suc k) l = ap (λ (ys : List ℕ). x ∷ ys) (take_all xs k (omega (arith, l)))

pub take_short : (k : ℕ) (xs : List ℕ) → length (take k xs) ≤ length xs
take_short zero xs = omega arith
take_short (suc k) [] = omega arith
take_short (suc k) (x ∷ xs) = let h = take_short k xs in omega (arith, h)

-- no site so far, and one more that is decided
pub still_none : (G : Graph) (p : Labels) (s : Set) (k : ℕ) (x : SiteId) (best : Option SiteId) → SiteAt G s k x → is_open (p x.0) ≡ false → IfNone best (open_of p (take k s.1) ≡ []) → IfNone best (open_of p (take (k + 1) s.1) ≡ [])
still_none G p s k x (Some b) at e h = tt
still_none G p s k x None at e h =
    filter_more (λ q. is_open (p q)) s.1 k 0 at.within ∙ ap (λ q. open_of p (take k s.1) ++ cond (is_open (p q)) (q ∷ []) []) at.number ∙ ap (λ c. open_of p (take k s.1) ++ cond c (x.0 ∷ []) []) e ∙ ap (λ (us : List ℕ). us ++ []) h

pub none_open : (g : SiteGraph) (p : Labels) (fs us : List ℕ) (best : Option SiteId) → us ≡ open_sites g p fs → IfNone best (us ≡ []) → IfNone best (is_decided g p fs ≡ true)
none_open g p fs us (Some b) e h = tt
none_open g p fs us None e h = ap is_empty (sym e ∙ h)

pub heavier_counted : (G : Graph) (ds : List ℕ) (d : ℕ → ℕ) (best : Option SiteId) (x y : SiteId) → IsCounted G ds x.0 → IfSome best (λ b. IsCounted G ds b.0) → y.0 ≡ heavier_of d (site_graph G) best x.0 → IsCounted G ds y.0
heavier_counted G ds d None x y h b e = subst (IsCounted G ds) (sym e) h
heavier_counted G ds d (Some c) x y h b e = subst (IsCounted G ds) (sym e) (either (nat_lt (d (caller_of G c.0) + d (callee_of G c.0)) (d (caller_of G x.0) + d (callee_of G x.0))))
  where
    either : (t : Bool) → IsCounted G ds (if t then x.0 else c.0)
    either true = h
    either false = b
