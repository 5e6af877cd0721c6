-- Runs and strings at the start of a text.
use Rattle.std.proofs.Common.{◌≡◌, ℕ, zero, suc, ◌+◌, ◌<◌, ◌≤◌, Bool, true, false, ◌&&◌, ◌||◌, cond, List, [], ◌∷◌, ◌++◌, length, take, drop, refl, ap, arith, add-one}
use Rattle.std.specs.List.{list_all, prefix_len}
use Rattle.std.proofs.lemmas.List.{length-take-le}
use Rattle.std.proofs.lemmas.List.Sums.{take_while-cons, prefix_len-le-length}
use Rattle.std.proofs.lemmas.Bool.{eqb-true, false≢true}
use Rattle.ir_lexer.specs.Alphabet.{is_run_byte, begins_with, run_of}

-- the run at the start is made of run bytes
all_more : (t : Bool) (b : ℕ) (run : List ℕ) → is_run_byte b ≡ t → list_all is_run_byte run ≡ true → list_all is_run_byte (cond t (b ∷ run) []) ≡ true
all_more true b run e h = rw (e, h) refl
all_more false b run e h = refl

pub all_run : (bs : List ℕ) → list_all is_run_byte (run_of bs) ≡ true
all_run [] = refl
all_run (b ∷ bs) = rw (take_while-cons is_run_byte b bs) (all_more (is_run_byte b) b (run_of bs) refl (all_run bs))

-- and is the prefix of that length
pub run_front : (bs : List ℕ) → take (length (run_of bs)) bs ≡ run_of bs
run_front bs = ap (λ n. take n bs) (length-take-le (prefix_len is_run_byte bs) bs (prefix_len-le-length is_run_byte bs))

pub run_within : (bs : List ℕ) → length (run_of bs) ≤ length bs
run_within bs = rw (length-take-le (prefix_len is_run_byte bs) bs (prefix_len-le-length is_run_byte bs)) (prefix_len-le-length is_run_byte bs)

-- a run with no run byte directly after it is the run at the start
whole_more : (b : ℕ) (run rest : List ℕ) → is_run_byte b ≡ true → run_of rest ≡ run → run_of (b ∷ rest) ≡ b ∷ run
whole_more b run rest h e = rw (take_while-cons is_run_byte b rest, h) (ap (λ (x : List ℕ). b ∷ x) e)

pub both : (a b : Bool) → (a && b) ≡ true → (a ≡ true) × (b ≡ true)
both true b e = (refl, e)
both false b e = (e, cc)

pub neither : (a b : Bool) → (a || b) ≡ false → (a ≡ false) × (b ≡ false)
neither false b e = (refl, e)
neither true b e = (e, cc)

abbrev pub begins_run : List ℕ → Bool
begins_run [] = false
begins_run (c ∷ cs) = is_run_byte c

pub run_is : (run after : List ℕ) → list_all is_run_byte run ≡ true → begins_run after ≡ false → run_of (run ++ after) ≡ run
run_is [] [] h free = refl
run_is [] (c ∷ cs) h free = rw (take_while-cons is_run_byte c cs, free) refl
run_is (b ∷ run) after h free = let k = both (is_run_byte b) (list_all is_run_byte run) h in whole_more b run (run ++ after) k.0 (run_is run after k.1 free)

-- the byte directly after a prefix
pub front_more : (bs : List ℕ) (n b : ℕ) → begins_with b (drop n bs) ≡ true → (take (n + 1) bs ≡ take n bs ++ b ∷ []) × (n + 1 ≤ length bs)
front_more [] zero b h = absurd (false≢true h)
front_more [] (suc n) b h = absurd (false≢true h)
front_more (c ∷ cs) zero b h = (ap (λ (x : ℕ). x ∷ []) (eqb-true c b h), omega arith)
front_more (c ∷ cs) (suc n) b h =
    let k = front_more cs n b h in
    (rw add-one (rw add-one at (ap (λ (x : List ℕ). c ∷ x) k.0)), let le = k.1 in omega arith)

-- a text that begins with a run byte
pub begins : (b : ℕ) (bs : List ℕ) → is_run_byte b ≡ true → 0 < length (run_of (b ∷ bs))
begins b bs h = rw (take_while-cons is_run_byte b bs, h) (omega arith)
