-- The map that lines give, one after the other.
use Rattle.std.proofs.Common.{◌≡◌, ℕ, suc, ◌<◌, Bool, true, false, cond, length, get_or, map, List, [], ◌∷◌, ◌++◌, Some, None, refl, ap, ◌∙◌, arith}
use mathlib.Core.Bool.{false≢true}
use Rattle.std.specs.Prelude.{Option, ◌==◌, ◌||◌, find, is_none}
use Rattle.std.proofs.lemmas.Bool.Decides.{nat_tests}
use Rattle.oi_base.specs.declared.ids.SiteId.{SiteId}
use Rattle.decisions.specs.declared.maps.Label.{Label}
use Rattle.decisions.specs.Maps.{label_of, sites_of}
use Rattle.oi_base.specs.Ascending.{IsAscending}
use Rattle.decisions.specs.Reading.{is_among, first_of, HasNoRepeats}
use Rattle.decisions.specs.Steps.{first_undecided, undecided_or}
use Rattle.decisions.proofs.Lookups.{same_site}

abbrev pub over : List SiteId → List (SiteId × Label) → List (SiteId × Option Label)
over sites stated = map (λ s. (s, label_of stated s)) sites

append_by : (t : Bool) (a : Label) (o o' q : Option Label) → o' ≡ first_of o q → cond t (Some a) o' ≡ first_of (cond t (Some a) o) q
append_by true a o o' q h = refl
append_by false a o o' q h = h

pub label_of-append : (xs ys : List (SiteId × Label)) (s : SiteId) → label_of (xs ++ ys) s ≡ first_of (label_of xs s) (label_of ys s)
label_of-append [] ys s = refl
label_of-append (e ∷ rest) ys s = append_by (e.0.0 == s.0) e.1 (label_of rest s) (label_of (rest ++ ys) s) (label_of ys s) (label_of-append rest ys s)

pub once_more : (before : List (SiteId × Label)) (e : SiteId × Label) → HasNoRepeats before → label_of before e.0 ≡ None → HasNoRepeats (before ++ e ∷ [])
once_more [] e h none = (refl, tt)
once_more (x ∷ rest) e h none =
    let k : label_of rest e.0 ≡ None = grind (arith, nat_tests) in
    let differs : (e.0.0 == x.0.0) ≡ false = grind (arith, nat_tests) in
    let here : label_of (rest ++ e ∷ []) x.0 ≡ None = label_of-append rest (e ∷ []) x.0 ∙ rw (h.0, differs) refl in
    (here, once_more rest e h.1 k)

pub sites_over : (sites : List SiteId) (stated : List (SiteId × Label)) → sites_of (over sites stated) ≡ sites
sites_over [] stated = refl
sites_over (x ∷ xs) stated = ap (λ (rest : List SiteId). x ∷ rest) (sites_over xs stated)

over_by : (t among : Bool) (a b : Option Label) (o : Option (Option Label)) → (t ≡ true → a ≡ b) → o ≡ cond among (Some b) None → cond t (Some a) o ≡ cond (t || among) (Some b) None
over_by true among a b o same h = ap (λ (x : Option Label). Some x) (same refl)
over_by false among a b o same h = h

pub label_over : (sites : List SiteId) (stated : List (SiteId × Label)) (s : SiteId) → label_of (over sites stated) s ≡ cond (is_among sites s) (Some (label_of stated s)) None
label_over [] stated s = refl
label_over (x ∷ xs) stated s = over_by (x.0 == s.0) (is_among xs s) (label_of stated x) (label_of stated s) (label_of (over xs stated) s) (λ e. ap (λ (z : SiteId). label_of stated z) (same_site x s (grind (arith, nat_tests)))) (label_over xs stated s)

undecided_by : (o : Option Label) (s : SiteId) (r q : Option SiteId) → r ≡ q → undecided_or s o r ≡ cond (is_none o) (Some s) q
undecided_by None s r q h = refl
undecided_by (Some l) s r q h = h

pub undecided_over : (sites : List SiteId) (stated : List (SiteId × Label)) → first_undecided (over sites stated) ≡ find (λ s. is_none (label_of stated s)) sites
undecided_over [] stated = refl
undecided_over (x ∷ xs) stated = undecided_by (label_of stated x) x (first_undecided (over xs stated)) (find (λ s. is_none (label_of stated s)) xs) (undecided_over xs stated)

pub ascending_tail : (x : SiteId) (xs : List SiteId) → IsAscending (x ∷ xs) → IsAscending xs
ascending_tail x xs h i j d lt in_range = h (suc i) (suc j) d (omega arith) (omega arith)

among_at : (xs : List SiteId) (s : SiteId) → is_among xs s ≡ true → (i : ℕ) × (i < length xs) × (let y = get_or xs i s in y.0 ≡ s.0)
among_at [] s h = absurd (false≢true h)
among_at (x ∷ xs) s h = by_first (λ k. among_at xs s k) (x.0 == s.0) refl h
  where
    shifted : ((i : ℕ) × (i < length xs) × (let y = get_or xs i s in y.0 ≡ s.0)) → (i : ℕ) × (i < length (x ∷ xs)) × (let y = get_or (x ∷ xs) i s in y.0 ≡ s.0)
    shifted p = (suc p.0, omega (arith, p.1), p.2)

    by_first : (is_among xs s ≡ true → (i : ℕ) × (i < length xs) × (let y = get_or xs i s in y.0 ≡ s.0)) → (t : Bool) → (x.0 == s.0) ≡ t → (t || is_among xs s) ≡ true → (i : ℕ) × (i < length (x ∷ xs)) × (let y = get_or (x ∷ xs) i s in y.0 ≡ s.0)
    by_first in_tail true e k = (0, omega arith, grind (arith, nat_tests))
    by_first in_tail false e k = shifted (in_tail k)

pub above_first : (x : SiteId) (xs : List SiteId) → IsAscending (x ∷ xs) → (s : SiteId) → is_among xs s ≡ true → (x.0 == s.0) ≡ false
above_first x xs up s h =
    let p = among_at xs s h in
    let k = up 0 (suc p.0) s (omega arith) (omega (arith, p.1)) in
    let same = p.2 in
    grind (arith, nat_tests)

here_by : (t : Bool) (l : Option Label) (o : Option (Option Label)) (f : Option Label) → t ≡ true → cond t (Some l) o ≡ Some f → l ≡ f
here_by true l o f e h = cc
here_by false l o f e h = cc

rest_by : (t : Bool) (l : Option Label) (o : Option (Option Label)) (f : Option (Option Label)) → t ≡ false → cond t (Some l) o ≡ f → o ≡ f
rest_by true l o f e h = cc
rest_by false l o f e h = h

pub same_number : (x : SiteId) → (x.0 == x.0) ≡ true
same_number x = grind (arith, nat_tests)

pub or_left : (t u : Bool) → t ≡ true → (t || u) ≡ true
or_left true u e = refl
or_left false u e = cc

pub or_right : (t u : Bool) → u ≡ true → (t || u) ≡ true
or_right true u e = refl
or_right false u e = e

-- a map whose sites rise is known by what it has for each
pub from_labels : (p : List (SiteId × Option Label)) → IsAscending (sites_of p) → (f : SiteId → Option Label) → ((s : SiteId) → is_among (sites_of p) s ≡ true → label_of p s ≡ Some (f s)) → p ≡ map (λ s. (s, f s)) (sites_of p)
from_labels [] up f h = refl
from_labels (e ∷ rest) up f h =
    let head : e.1 ≡ f e.0 = here_by (e.0.0 == e.0.0) e.1 (label_of rest e.0) (f e.0) (same_number e.0) (h e.0 (or_left (e.0.0 == e.0.0) _ (same_number e.0))) in
    let tail = from_labels rest (ascending_tail e.0 (sites_of rest) up) f (λ s among. rest_by (e.0.0 == s.0) e.1 (label_of rest s) (Some (f s)) (above_first e.0 (sites_of rest) up s among) (h s (or_right (e.0.0 == s.0) _ among))) in
    ap (λ (l : Option Label). (e.0, l) ∷ rest) head ∙ ap (λ (x : List (SiteId × Option Label)). (e.0, f e.0) ∷ x) tail
