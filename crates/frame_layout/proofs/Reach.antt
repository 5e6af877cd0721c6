-- How far parts reach.
use Rattle.frame_layout.specs.declared.laying.TheConstants.{LARGEST_FRAME}
use Rattle.std.proofs.Common.{◌≡◌, ℕ, zero, suc, ◌+◌, ◌*◌, ◌<◌, ◌≤◌, All, List, [], ◌∷◌, length, set, replicate, subst, arith}
use Rattle.std.specs.Prelude.{slice_index_or}
use Rattle.std.specs.List.{AllByRecursion as Each}
use Rattle.std.proofs.lemmas.List.Elements.{recursion_from_All, All-set, All-replicate}
use Rattle.ir_core.specs.Formed.{IsAlign}
use Rattle.std.specs.Int.{next_multiple_of}
use Rattle.frame_layout.specs.declared.parts.Need.{Need}
use Rattle.frame_layout.specs.declared.parts.Need.TheVariants.{Slot, SlotAndShadow, Memory}
use Rattle.frame_layout.specs.declared.parts.Part.{Part}
use Rattle.frame_layout.specs.declared.homes.Home.{Home}
use Rattle.frame_layout.specs.declared.homes.Home.TheVariants.{NoHome}
use Rattle.frame_layout.specs.Parts.{begin_of, end_of, end_of_all, IsNeed, IsPart}
use Rattle.frame_layout.specs.Homes.{home_at, with_homes, IsLow}
use Rattle.frame_layout.specs.Frame.{size}
use Rattle.ir_core.proofs.Lists.{each_map as each_weaker}
use Rattle.frame_layout.proofs.Ends.{ends_after}

-- one of five numbers
one_of_five : (a : ℕ) (P : ℕ → Type 0) → P 1 → P 2 → P 4 → P 8 → P 16 → (k : ℕ) → k < 5 → slice_index_or (1 ∷ 2 ∷ 4 ∷ 8 ∷ 16 ∷ []) k a ≡ a → P a
one_of_five a P p1 p2 p4 p8 p16 zero lt e = subst P e p1
one_of_five a P p1 p2 p4 p8 p16 (suc zero) lt e = subst P e p2
one_of_five a P p1 p2 p4 p8 p16 (suc (suc zero)) lt e = subst P e p4
one_of_five a P p1 p2 p4 p8 p16 (suc (suc (suc zero))) lt e = subst P e p8
one_of_five a P p1 p2 p4 p8 p16 (suc (suc (suc (suc zero)))) lt e = subst P e p16
one_of_five a P p1 p2 p4 p8 p16 (suc (suc (suc (suc (suc k))))) lt e = absurd (omega arith)

pub align_cases : (a : ℕ) (P : ℕ → Type 0) → P 1 → P 2 → P 4 → P 8 → P 16 → IsAlign a → P a
align_cases a P p1 p2 p4 p8 p16 h = one_of_five a P p1 p2 p4 p8 p16 h.0 h.1 h.2

pub align-positive : (a : ℕ) → IsAlign a → 0 < a
align-positive a h = align_cases a (λ (n : ℕ). 0 < n) (omega arith) (omega arith) (omega arith) (omega arith) (omega arith) h

abbrev rounded : ℕ → ℕ
rounded n = next_multiple_of n 16

rounded_end : (at : ℕ) (n : Need) → IsNeed n → rounded (end_of at n) ≤ rounded at + 4294967296
rounded_end at Slot h = omega arith
rounded_end at SlotAndShadow h = omega arith
rounded_end at (Memory size align) h =
    let small = h.1 in
    align_cases align (λ a. rounded (next_multiple_of at a + size) ≤ rounded at + 4294967296) (omega arith) (omega arith) (omega arith) (omega arith) (omega arith) h.0

rounded_all : (at : ℕ) (ps : List Part) → Each (λ p. IsNeed p.need) ps → rounded (end_of_all at ps) ≤ rounded at + 4294967296 * length ps
rounded_all at [] needs = omega arith
rounded_all at (p ∷ ps) needs =
    let h = rounded_end at p.need needs.0 in
    let k = rounded_all (end_of at p.need) ps needs.1 in
    omega arith

needs_of : (n : ℕ) (ps : List Part) → All (IsPart n) ps → Each (λ p. IsNeed p.need) ps
needs_of n ps all = each_weaker (IsPart n) (λ p. IsNeed p.need) ps (λ p h. h.1) (recursion_from_All (IsPart n) ps all)

-- a size is below 2^64
pub size_room : (n : ℕ) (ps : List Part) → All (IsPart n) ps → length ps ≤ n → n < 4294967296 → size ps < 18446744073709551616
size_room n ps all few lt = let far = rounded_all 4 ps (needs_of n ps all) in omega arith

-- ---- low offsets

low_home : (o : ℕ) (n : Need) → o ≤ LARGEST_FRAME → IsLow (home_at o n)
low_home o Slot h = h
low_home o SlotAndShadow h = h
low_home o (Memory size align) h = h

low_homes : (homes : List Home) (at : ℕ) (ps : List Part) → end_of_all at ps ≤ LARGEST_FRAME → All IsLow homes → All IsLow (with_homes homes at ps)
low_homes homes at [] low all = all
low_homes homes at (p ∷ ps) low all =
    let far = ends_after (end_of at p.need) ps in
    low_homes (set homes p.reg.0 (home_at (begin_of at p.need) p.need)) (end_of at p.need) ps low
    (All-set IsLow homes p.reg.0 (home_at (begin_of at p.need) p.need) (low_home (begin_of at p.need) p.need (omega arith)) all)

pub low_table : (n : ℕ) (ps : List Part) → end_of_all 4 ps ≤ LARGEST_FRAME → All IsLow (with_homes (replicate n NoHome) 4 ps)
low_table n ps low = low_homes (replicate n NoHome) 4 ps low (All-replicate IsLow n NoHome tt)
