-- Runs of equal places, of which the last is the next.
use Rattle.std.proofs.Common.{◌≡◌, ℕ, zero, suc, ◌-◌, ◌<◌, length, get_or, set, take, replicate, List, [], ◌∷◌, ◌++◌, refl, sym, ap, subst, ◌∙◌, arith, append_assoc}
use Rattle.std.specs.Prelude.{Bool, IsTrue, ◌==◌}
use Rattle.std.proofs.lemmas.Bool.Decides.{nat_tests}
use Rattle.std.proofs.lemmas.List.{append-nil}
use Rattle.inline_certificate.specs.declared.places.Place.{Place}
use Rattle.inline_certificate.specs.declared.places.Run.{Run}
use Rattle.inline_certificate.specs.Places.{places_of, AreOpen}

pub places_more : (rs : List Run) (r : Run) → places_of (rs ++ r ∷ []) ≡ replicate r.count r.place ++ places_of rs
places_more [] r = sym (append-nil (replicate r.count r.place))
places_more (x ∷ rs) r = ap (λ (l : List Place). l ++ replicate x.count x.place) (places_more rs r) ∙ append_assoc (replicate r.count r.place) (places_of rs) (replicate x.count x.place)

pub open_more : (rs : List Run) (r : Run) → AreOpen rs → 0 < r.count → AreOpen (rs ++ r ∷ [])
open_more [] r h lt = (lt, tt)
open_more (x ∷ rs) r h lt = (h.0, open_more rs r h.1 lt)

pub open_front : (rs : List Run) (r : Run) → AreOpen (rs ++ r ∷ []) → AreOpen rs × (0 < r.count)
open_front [] r h = (tt, h.0)
open_front (x ∷ rs) r h = let k = open_front rs r h.1 in ((h.0, k.0), k.1)

-- a list is what stands before its last element, and the last
pub last_apart : (xs : List Run) (n : ℕ) (d : Run) → length xs ≡ suc n → xs ≡ take n xs ++ get_or xs n d ∷ []
last_apart [] n d e = absurd (omega arith)
last_apart (x ∷ []) zero d e = refl
last_apart (x ∷ []) (suc n) d e = absurd (omega arith)
last_apart (x ∷ y ∷ ys) zero d e = absurd (omega arith)
last_apart (x ∷ y ∷ ys) (suc n) d e = ap (λ (l : List Run). x ∷ l) (last_apart (y ∷ ys) n d (omega arith))

last_set : (xs : List Run) (n : ℕ) (r : Run) → length xs ≡ suc n → set xs n r ≡ take n xs ++ r ∷ []
last_set [] n r e = absurd (omega arith)
last_set (x ∷ []) zero r e = refl
last_set (x ∷ []) (suc n) r e = absurd (omega arith)
last_set (x ∷ y ∷ ys) zero r e = absurd (omega arith)
last_set (x ∷ y ∷ ys) (suc n) r e = ap (λ (l : List Run). x ∷ l) (last_set (y ∷ ys) n r (omega arith))

parts_open : (xs : List Run) (n : ℕ) (d : Run) → length xs ≡ suc n → AreOpen xs → AreOpen (take n xs) × (let r = get_or xs n d in 0 < r.count)
parts_open xs n d e h = open_front (take n xs) (get_or xs n d) (subst (λ (l : List Run). AreOpen l) (last_apart xs n d e) h)

pub front_open : (xs : List Run) (n : ℕ) → length xs ≡ suc n → AreOpen xs → AreOpen (take n xs)
front_open [] n e h = absurd (omega arith)
front_open (x ∷ xs) n e h = (parts_open (x ∷ xs) n x e h).0

pub last_open : (xs : List Run) (n : ℕ) (r d : Run) → length xs ≡ suc n → AreOpen xs → r ≡ get_or xs n d → 0 < r.count
last_open xs n r d e h is = subst (λ (x : Run). 0 < x.count) (sym is) (parts_open xs n d e h).1

pub set_open : (xs : List Run) (n : ℕ) (r : Run) → length xs ≡ suc n → AreOpen xs → 0 < r.count → AreOpen (set xs n r)
set_open xs n r e h lt = subst (λ (l : List Run). AreOpen l) (sym (last_set xs n r e)) (open_more (take n xs) r (front_open xs n e h) lt)

-- the last place of the last run
pub last_place : (xs : List Run) (n : ℕ) (r d : Run) → length xs ≡ suc n → r ≡ get_or xs n d → r.count ≡ 1 → places_of xs ≡ r.place ∷ places_of (take n xs)
last_place xs n r d e is one =
    let more : places_of xs ≡ replicate r.count r.place ++ places_of (take n xs) = ap (λ (l : List Run). places_of l) (last_apart xs n d e ∙ ap (λ (x : Run). take n xs ++ x ∷ []) (sym is)) ∙ places_more (take n xs) r in
    more ∙ ap (λ (k : ℕ). replicate k r.place ++ places_of (take n xs)) one

one_less : (p : Place) (k : ℕ) → 0 < k → replicate k p ≡ p ∷ replicate (k - 1) p
one_less p zero lt = absurd (omega arith)
one_less p (suc k) lt = ap (λ (m : ℕ). p ∷ replicate m p) {x = k} (omega arith)

-- one of several of the last run
pub next_place : (xs : List Run) (n : ℕ) (r r' d : Run) → length xs ≡ suc n → r ≡ get_or xs n d → 0 < r.count → r'.place ≡ r.place → r'.count ≡ r.count - 1 → places_of xs ≡ r.place ∷ places_of (set xs n r')
next_place xs n r r' d e is lt same less =
    let more : places_of xs ≡ replicate r.count r.place ++ places_of (take n xs) = ap (λ (l : List Run). places_of l) (last_apart xs n d e ∙ ap (λ (x : Run). take n xs ++ x ∷ []) (sym is)) ∙ places_more (take n xs) r in
    let rest : places_of (set xs n r') ≡ replicate (r.count - 1) r.place ++ places_of (take n xs) = ap (λ (l : List Run). places_of l) (last_set xs n r' e) ∙ places_more (take n xs) r' ∙ ap (λ (k : ℕ). replicate k r'.place ++ places_of (take n xs)) less ∙ ap (λ (p : Place). replicate (r.count - 1) p ++ places_of (take n xs)) same in
    more ∙ ap (λ (l : List Place). l ++ places_of (take n xs)) (one_less r.place r.count lt) ∙ ap (λ (l : List Place). r.place ∷ l) (sym rest)

pub none_open : (xs : List Run) → AreOpen xs → places_of xs ≡ [] → xs ≡ []
none_open [] h e = refl
none_open (x ∷ xs) h e = absurd (absurd_by (places_of xs) (one_less x.place x.count h.0) e)
  where
    absurd_by : (ps : List Place) → replicate x.count x.place ≡ x.place ∷ replicate (x.count - 1) x.place → ps ++ replicate x.count x.place ≡ [] → ⊥
    absurd_by [] is e = let k : x.place ∷ replicate (x.count - 1) x.place ≡ [] = sym is ∙ e in cc
    absurd_by (p ∷ ps) is e = cc

pub is_none : (xs : List Run) (n : ℕ) (r : Bool) → n ≡ length xs → AreOpen xs → r ≡ (n == 0) → (IsTrue r → places_of xs ≡ []) × (places_of xs ≡ [] → IsTrue r)
is_none xs n r len h e = (λ t. by_length xs (grind (arith, nat_tests)), λ none. let k : length xs ≡ 0 = ap (λ (l : List Run). length l) (none_open xs h none) in grind (arith, nat_tests))
  where
    by_length : (xs : List Run) → length xs ≡ 0 → places_of xs ≡ []
    by_length [] e = refl
    by_length (x ∷ xs) e = absurd (omega arith)
