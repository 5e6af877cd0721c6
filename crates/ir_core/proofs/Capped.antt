-- A size above the limit may be written as one more than it anywhere in a layout, and the whole is the same.
use Rattle.std.proofs.Common.{◌≡◌, ◌⊎◌, ℕ, ◌+◌, ◌*◌, ◌<◌, ◌≤◌, min, max, zero, suc, List, [], ◌∷◌, Option, Some, None, refl, ap, arith, inl, inr}
use Rattle.std.proofs.lemmas.Bool.{cases_lt}
use Rattle.std.specs.Option.{option_map}
use Rattle.std.specs.Int.{next_multiple_of}
use Rattle.ir_core.specs.declared.limits.TheConstants.{TOO_LARGE}
use Rattle.ir_core.specs.declared.layout.Layout.{Layout}
use Rattle.ir_core.specs.Capped.{capped}
use Rattle.ir_core.specs.Sizes.{array_of, after, rounded, placed}

-- numbers that are one where they are capped are one, or both have the limit or more
near : (a b : ℕ) → min a TOO_LARGE ≡ min b TOO_LARGE → (a ≡ b) ⊎ ((TOO_LARGE ≤ a) × (TOO_LARGE ≤ b))
near a b e = by_size (cases_lt a TOO_LARGE) (cases_lt b TOO_LARGE)
  where
    by_size : (a < TOO_LARGE) ⊎ (TOO_LARGE ≤ a) → (b < TOO_LARGE) ⊎ (TOO_LARGE ≤ b) → (a ≡ b) ⊎ ((TOO_LARGE ≤ a) × (TOO_LARGE ≤ b))
    by_size (inl h) (inl k) = inl (omega arith)
    by_size (inl h) (inr k) = absurd (omega arith)
    by_size (inr h) (inl k) = absurd (omega arith)
    by_size (inr h) (inr k) = inr (h, k)

-- capped alike, whatever is above them
above : (a b x y : ℕ) → min a TOO_LARGE ≡ min b TOO_LARGE → a ≤ x → b ≤ y → (a ≡ b → x ≡ y) → min x TOO_LARGE ≡ min y TOO_LARGE
above a b x y e h k f = by_case (near a b e)
  where
    by_case : (a ≡ b) ⊎ ((TOO_LARGE ≤ a) × (TOO_LARGE ≤ b)) → min x TOO_LARGE ≡ min y TOO_LARGE
    by_case (inl same) = ap (λ (z : ℕ). min z TOO_LARGE) (f same)
    by_case (inr p) = let l = p.0 in let r = p.1 in omega arith

sizes : (a b : Layout) → capped a ≡ capped b → min a.size TOO_LARGE ≡ min b.size TOO_LARGE
sizes a b e = ap Layout.size e

aligns : (a b : Layout) → capped a ≡ capped b → a.align ≡ b.align
aligns a b e = ap Layout.align e

alike : (a b : Layout) → min a.size TOO_LARGE ≡ min b.size TOO_LARGE → a.align ≡ b.align → capped a ≡ capped b
alike a b p q i = record { size = p i; align = q i }

pub capped-after : (a b l : Layout) → capped a ≡ capped b → capped (after a l) ≡ capped (after b l)
capped-after a b l e = alike (after a l) (after b l) (above a.size b.size (after a l).size (after b l).size (sizes a b e) (omega arith) (omega arith) (λ (same : a.size ≡ b.size). ap (λ (z : ℕ). next_multiple_of z l.align + l.size) same)) (ap (λ (z : ℕ). max z l.align) (aligns a b e))

pub capped-after_capped : (b l : Layout) → capped (after b (capped l)) ≡ capped (after b l)
capped-after_capped b l = alike (after b (capped l)) (after b l) (omega arith) refl

pub capped-rounded : (a b : Layout) → capped a ≡ capped b → capped (rounded a) ≡ capped (rounded b)
capped-rounded a b e = alike (rounded a) (rounded b) (above a.size b.size (rounded a).size (rounded b).size (sizes a b e) (omega arith) (omega arith) (λ (same : a.size ≡ b.size). rw (same, aligns a b e))) (aligns a b e)

pub capped-array_of : (n : ℕ) (l : Layout) → capped (array_of n (capped l)) ≡ capped (array_of n l)
capped-array_of zero l = alike (array_of 0 (capped l)) (array_of 0 l) (omega arith) refl
capped-array_of (suc n) l = alike (array_of (suc n) (capped l)) (array_of (suc n) l) (above (min l.size TOO_LARGE) l.size _ _ (omega arith) (grind arith) (grind arith) (λ (same : min l.size TOO_LARGE ≡ l.size). ap (λ (z : ℕ). suc n * z) same)) refl

pub capped-placed : (a b : Layout) (ls : List (Option Layout)) → capped a ≡ capped b → option_map capped (placed a ls) ≡ option_map capped (placed b ls)
capped-placed a b [] e = ap Some e
capped-placed a b (None ∷ ls) e = refl
capped-placed a b (Some l ∷ ls) e = capped-placed (after a l) (after b l) ls (capped-after a b l e)
