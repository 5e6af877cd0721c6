-- The table of homes has each part's home at its register, where no register has two parts.
use Rattle.std.proofs.Common.{◌≡◌, ◌≢◌, ℕ, ◌+◌, ◌<◌, ◌≤◌, Bool, true, false, nat_eq, List, [], ◌∷◌, length, get_or, set, refl, sym, ap, ◌∙◌, arith}
use Rattle.std.specs.Prelude.{if◌then◌else◌}
use Rattle.std.specs.List.{AllByRecursion as Each}
use Rattle.std.proofs.lemmas.Bool.Decides.{nat_tests}
use Rattle.std.proofs.lemmas.List.{get_or-set_other, length-set}
use Rattle.std.proofs.lemmas.Grind.{get_or-set_at}
use Rattle.frame_layout.specs.declared.parts.Need.{Need}
use Rattle.frame_layout.specs.declared.parts.Need.TheVariants.{Slot, SlotAndShadow, Memory}
use Rattle.frame_layout.specs.declared.parts.Part.{Part}
use Rattle.frame_layout.specs.declared.homes.Home.{Home}
use Rattle.frame_layout.specs.declared.homes.Home.TheVariants.{NoHome, InSlot, OfPhi, InMemory}
use Rattle.frame_layout.specs.Parts.{begin_of, end_of}
use Rattle.frame_layout.specs.Homes.{home_at, home_among, with_homes}
use Rattle.frame_layout.proofs.Counts.{one, times}

-- a home, or where there is none another
abbrev pub home_or : Home → Home → Home
home_or NoHome h = h
home_or (InSlot o) h = InSlot o
home_or (OfPhi o) h = OfPhi o
home_or (InMemory o) h = InMemory o

is_home : (o : ℕ) (n : Need) (h : Home) → home_or (home_at o n) h ≡ home_at o n
is_home o Slot h = refl
is_home o SlotAndShadow h = refl
is_home o (Memory size align) h = refl

pub choose : (t : Bool) (test : Bool) (x y : Home) → test ≡ t → (if test then x else y) ≡ (if t then x else y)
choose t test x y e = ap (λ (u : Bool). if u then x else y) e

pub absent : (at : ℕ) (ps : List Part) (r : ℕ) → times r ps ≡ 0 → home_among at ps r ≡ NoHome
absent at [] r none = refl
absent at (p ∷ ps) r none = other (nat_eq p.reg.0 r) refl (absent (end_of at p.need) ps r (omega arith))
  where
    other : (t : Bool) → nat_eq p.reg.0 r ≡ t → home_among (end_of at p.need) ps r ≡ NoHome → home_among at (p ∷ ps) r ≡ NoHome
    other true e rest = let here : one (nat_eq p.reg.0 r) ≡ 1 = ap one e in absurd (omega arith)
    other false e rest = choose false (nat_eq p.reg.0 r) (home_at (begin_of at p.need) p.need) (home_among (end_of at p.need) ps r) e ∙ rest

-- one more home in the table
one_home : (homes : List Home) (at : ℕ) (p : Part) (ps : List Part) (r : ℕ) → p.reg.0 < length homes → one (nat_eq p.reg.0 r) + times r ps ≤ 1 → (t : Bool) → nat_eq p.reg.0 r ≡ t → home_or (home_among (end_of at p.need) ps r) (get_or (set homes p.reg.0 (home_at (begin_of at p.need) p.need)) r NoHome) ≡ home_or (home_among at (p ∷ ps) r) (get_or homes r NoHome)
one_home homes at p ps r lt once true e =
    let x = home_at (begin_of at p.need) p.need in
    let here : one (nat_eq p.reg.0 r) ≡ 1 = ap one e in
    let none : home_among (end_of at p.need) ps r ≡ NoHome = absent (end_of at p.need) ps r (omega arith) in
    let same : r ≡ p.reg.0 = grind (arith, nat_tests, e) in
    let stored : get_or (set homes p.reg.0 x) r NoHome ≡ x = get_or-set_at homes p.reg.0 r x NoHome same lt in
    let chosen : home_among at (p ∷ ps) r ≡ x = choose true (nat_eq p.reg.0 r) x (home_among (end_of at p.need) ps r) e in
    ap (λ (h : Home). home_or h (get_or (set homes p.reg.0 x) r NoHome)) none ∙ stored ∙ sym (is_home (begin_of at p.need) p.need (get_or homes r NoHome)) ∙ ap (λ (h : Home). home_or h (get_or homes r NoHome)) (sym chosen)
one_home homes at p ps r lt once false e =
    let x = home_at (begin_of at p.need) p.need in
    let apart : r ≢ p.reg.0 = grind (arith, nat_tests, e) in
    let kept : get_or (set homes p.reg.0 x) r NoHome ≡ get_or homes r NoHome = get_or-set_other homes p.reg.0 r x NoHome apart in
    let chosen : home_among at (p ∷ ps) r ≡ home_among (end_of at p.need) ps r = choose false (nat_eq p.reg.0 r) x (home_among (end_of at p.need) ps r) e in
    ap (λ (h : Home). home_or (home_among (end_of at p.need) ps r) h) kept ∙ ap (λ (h : Home). home_or h (get_or homes r NoHome)) (sym chosen)

pub with_homes-length : (homes : List Home) (at : ℕ) (ps : List Part) → length (with_homes homes at ps) ≡ length homes
with_homes-length homes at [] = refl
with_homes-length homes at (p ∷ ps) = with_homes-length (set homes p.reg.0 (home_at (begin_of at p.need) p.need)) (end_of at p.need) ps ∙ length-set homes p.reg.0 (home_at (begin_of at p.need) p.need)

pub with_homes-get : (homes : List Home) (at : ℕ) (ps : List Part) (r n : ℕ) → length homes ≡ n → Each (λ p. p.reg.0 < n) ps → times r ps ≤ 1 → get_or (with_homes homes at ps) r NoHome ≡ home_or (home_among at ps r) (get_or homes r NoHome)
with_homes-get homes at [] r n len below once = refl
with_homes-get homes at (p ∷ ps) r n len below once =
    let x = home_at (begin_of at p.need) p.need in
    let lt : p.reg.0 < length homes = let b = below.0 in omega arith in
    with_homes-get (set homes p.reg.0 x) (end_of at p.need) ps r n (length-set homes p.reg.0 x ∙ len) below.1 (omega arith)
    ∙ one_home homes at p ps r lt once (nat_eq p.reg.0 r) refl
