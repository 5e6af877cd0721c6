-- Where parts end.
use Rattle.std.proofs.Common.{◌≡◌, ℕ, ◌+◌, ◌<◌, ◌≤◌, List, [], ◌∷◌, ◌++◌, length, get_or, drop, refl, sym, ap, ◌∙◌, add-one, drop-cons, arith}
use Rattle.frame_layout.specs.declared.parts.Need.{Need}
use Rattle.frame_layout.specs.declared.parts.Need.TheVariants.{Slot, SlotAndShadow, Memory}
use Rattle.frame_layout.specs.declared.parts.Part.{Part}
use Rattle.frame_layout.specs.Parts.{begin_of, end_of, end_of_all}

pub begins_after : (at : ℕ) (n : Need) → at ≤ begin_of at n
begins_after at Slot = omega arith
begins_after at SlotAndShadow = omega arith
begins_after at (Memory s a) = omega arith

pub ends_after : (at : ℕ) (ps : List Part) → at ≤ end_of_all at ps
ends_after at [] = omega arith
ends_after at (p ∷ ps) = let h = begins_after at p.need in let k = ends_after (end_of at p.need) ps in omega arith

-- the next part ends before the last
pub next_ends : (at total : ℕ) (ps : List Part) (i : ℕ) (d : Part) → i < length ps → end_of_all at (drop i ps) ≡ total → end_of at (get_or ps i d).need ≤ total
next_ends at total ps i d lt e =
    let front : drop i ps ≡ get_or ps i d ∷ drop (i + 1) ps = rw (add-one, drop-cons ps i d) refl in
    let same : end_of_all (end_of at (get_or ps i d).need) (drop (i + 1) ps) ≡ total = sym (ap (end_of_all at) front) ∙ e in
    let h = ends_after (end_of at (get_or ps i d).need) (drop (i + 1) ps) in
    omega arith

pub end_of_join : (at : ℕ) (ps qs : List Part) → end_of_all at (ps ++ qs) ≡ end_of_all (end_of_all at ps) qs
end_of_join at [] qs = refl
end_of_join at (p ∷ ps) qs = end_of_join (end_of at p.need) ps qs
