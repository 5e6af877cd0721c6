-- Each instruction that loads, stores, opens a frame or closes it has a word.
use Rattle.std.proofs.Common.{◌≡◌, ℕ, ◌+◌, ◌%◌, ◌<◌, ◌≤◌, refl, arith, Bool, true, false, nat_le, if◌then◌else◌, ◌==◌, List, [], ◌∷◌, ◌++◌, length, All, pos, neg_ℤ}
use Rattle.std.proofs.lemmas.Bool.Decides.{nat_tests}
use Rattle.std.proofs.lemmas.Int.{ints}
use Rattle.std.proofs.lemmas.List.Elements.{All-append, All-cons}
use Rattle.rv_isa.specs.declared.rv.Rv.{Rv}
use Rattle.rv_isa.specs.declared.rv.Rv.TheVariants as rv
use Rattle.rv_isa.specs.Words.{InRange, IsSigned}
use Rattle.rv_select.specs.Parts.{hi, lo, is_short, load_word, far_base, load_slot, store_slot, load_home, large_frame, frame_down, frame_up, open_frame, epilogue}

hi_signed : (w : ℕ) → IsSigned 19 (hi w)
unfolding hi
hi_signed w = grind (arith, nat_tests, ints)

lo_signed : (w : ℕ) → IsSigned 11 (lo w)
unfolding lo
lo_signed w = grind (arith, nat_tests, ints)

small_signed : (n : ℕ) → n ≤ 2047 → IsSigned 11 (pos n)
small_signed n h = grind (arith, nat_tests, ints)

down_signed : (n : ℕ) → n ≤ 2032 → IsSigned 11 (neg_ℤ (pos n))
down_signed n h = grind (arith, nat_tests, ints)

pub none : All InRange []
none k d h = absurd (omega arith)

pub one : (i : Rv) → InRange i → All InRange (i ∷ [])
one i h = All-cons InRange i [] h none

pub both : (a b : List Rv) → All InRange a → All InRange b → All InRange (a ++ b)
both a b h k = All-append InRange a b h k

word_by : (r w : ℕ) (c d : Bool) → r < 32 → All InRange (if c then rv.Addi r 0 (lo w) ∷ [] else rv.Lui r (hi w) ∷ (if d then [] else rv.Addi r r (lo w) ∷ []))
word_by r w true d h = one (rv.Addi r 0 (lo w)) (h, omega arith, lo_signed w)
word_by r w false true h = one (rv.Lui r (hi w)) (h, hi_signed w)
word_by r w false false h = All-cons InRange (rv.Lui r (hi w)) (rv.Addi r r (lo w) ∷ []) (h, hi_signed w) (one (rv.Addi r r (lo w)) (h, h, lo_signed w))

pub word_ranges : (r w : ℕ) → r < 32 → All InRange (load_word r w)
unfolding load_word
word_ranges r w h = word_by r w (is_short w) (w % 4096 == 0) h

far_ranges : (r o : ℕ) → r < 32 → All InRange (far_base r o)
far_ranges r o h = All-cons InRange (rv.Lui r (hi o)) (rv.Add r r 2 ∷ []) (h, hi_signed o) (one (rv.Add r r 2) (h, h, omega arith))

load_by : (r o : ℕ) (c : Bool) → nat_le o 2047 ≡ c → r < 32 → All InRange (if c then rv.Lw r 2 (pos o) ∷ [] else far_base r o ++ rv.Lw r r (lo o) ∷ [])
load_by r o true e h = one (rv.Lw r 2 (pos o)) (h, omega arith, small_signed o (grind (arith, nat_tests)))
load_by r o false e h = both (far_base r o) (rv.Lw r r (lo o) ∷ []) (far_ranges r o h) (one (rv.Lw r r (lo o)) (h, h, lo_signed o))

pub slot_ranges : (r o : ℕ) → r < 32 → All InRange (load_slot r o)
unfolding load_slot
slot_ranges r o h = load_by r o (nat_le o 2047) refl h

store_by : (r o : ℕ) (c : Bool) → nat_le o 2047 ≡ c → r < 32 → All InRange (if c then rv.Sw 2 r (pos o) ∷ [] else far_base 7 o ++ rv.Sw 7 r (lo o) ∷ [])
store_by r o true e h = one (rv.Sw 2 r (pos o)) (omega arith, h, small_signed o (grind (arith, nat_tests)))
store_by r o false e h = both (far_base 7 o) (rv.Sw 7 r (lo o) ∷ []) (far_ranges 7 o (omega arith)) (one (rv.Sw 7 r (lo o)) (omega arith, h, lo_signed o))

pub store_ranges : (r o : ℕ) → r < 32 → All InRange (store_slot r o)
unfolding store_slot
store_ranges r o h = store_by r o (nat_le o 2047) refl h

home_by : (r o : ℕ) (c : Bool) → nat_le o 2047 ≡ c → r < 32 → All InRange (if c then rv.Addi r 2 (pos o) ∷ [] else rv.Lui r (hi o) ∷ rv.Addi r r (lo o) ∷ rv.Add r r 2 ∷ [])
home_by r o true e h = one (rv.Addi r 2 (pos o)) (h, omega arith, small_signed o (grind (arith, nat_tests)))
home_by r o false e h =
    All-cons InRange (rv.Lui r (hi o)) (rv.Addi r r (lo o) ∷ rv.Add r r 2 ∷ []) (h, hi_signed o)
    (All-cons InRange (rv.Addi r r (lo o)) (rv.Add r r 2 ∷ []) (h, h, lo_signed o) (one (rv.Add r r 2) (h, h, omega arith)))

pub home_ranges : (r o : ℕ) → r < 32 → All InRange (load_home r o)
unfolding load_home
home_ranges r o h = home_by r o (nat_le o 2047) refl h

large_ranges : (f : ℕ) → All InRange (large_frame f)
large_ranges f = All-cons InRange (rv.Lui 5 (hi f)) (rv.Addi 5 5 (lo f) ∷ []) (omega arith, hi_signed f) (one (rv.Addi 5 5 (lo f)) (omega arith, omega arith, lo_signed f))

down_by : (f : ℕ) (c : Bool) → nat_le f 2032 ≡ c → All InRange (if c then rv.Addi 2 2 (neg_ℤ (pos f)) ∷ [] else large_frame f ++ rv.Sub 2 2 5 ∷ [])
down_by f true e = one (rv.Addi 2 2 (neg_ℤ (pos f))) (omega arith, omega arith, down_signed f (grind (arith, nat_tests)))
down_by f false e = both (large_frame f) (rv.Sub 2 2 5 ∷ []) (large_ranges f) (one (rv.Sub 2 2 5) (omega arith, omega arith, omega arith))

up_by : (f : ℕ) (c : Bool) → nat_le f 2032 ≡ c → All InRange (if c then rv.Addi 2 2 (pos f) ∷ [] else large_frame f ++ rv.Add 2 2 5 ∷ [])
up_by f true e = one (rv.Addi 2 2 (pos f)) (omega arith, omega arith, small_signed f (grind (arith, nat_tests)))
up_by f false e = both (large_frame f) (rv.Add 2 2 5 ∷ []) (large_ranges f) (one (rv.Add 2 2 5) (omega arith, omega arith, omega arith))

down_ranges : (f : ℕ) → All InRange (frame_down f)
unfolding frame_down
down_ranges f = down_by f (nat_le f 2032) refl

up_ranges : (f : ℕ) → All InRange (frame_up f)
unfolding frame_up
up_ranges f = up_by f (nat_le f 2032) refl

pub open_ranges : (f : ℕ) → All InRange (open_frame f)
open_ranges f = both (frame_down f) (rv.Sw 2 1 (pos 0) ∷ []) (down_ranges f) (one (rv.Sw 2 1 (pos 0)) (omega arith, omega arith, small_signed 0 (omega arith)))

pub epilogue_ranges : (f : ℕ) → All InRange (epilogue f)
epilogue_ranges f = both (rv.Lw 1 2 (pos 0) ∷ frame_up f) (rv.Jalr 0 1 (pos 0) ∷ [])
    (All-cons InRange (rv.Lw 1 2 (pos 0)) (frame_up f) (omega arith, omega arith, small_signed 0 (omega arith)) (up_ranges f))
    (one (rv.Jalr 0 1 (pos 0)) (omega arith, omega arith, small_signed 0 (omega arith)))
