-- Lines of texts.
use Rattle.std.proofs.Common.{◌≡◌, ℕ, zero, suc, ◌<◌, Bool, false, length, take, drop, List, [], ◌∷◌, ◌++◌, sym, ap, ◌∙◌, arith}
use mathlib.Core.Bool.{false≢true}
use Rattle.std.specs.Prelude.{bytes_eq}
use Rattle.std.proofs.lemmas.Grind.{common_steps}
use Rattle.std.proofs.lemmas.List.{take-append-le, take_all}
use Rattle.std.proofs.lemmas.Slice.Eq.{bytes_eq-Decides}
use Rattle.decisions.specs.Ends.{end_of}
use Rattle.decisions.proofs.LineSplits.{first_line, end_positive}
use Rattle.inline_certificate.specs.Parts.{IsCutAt}

length_take : (n : ℕ) (xs : List ℕ) → 0 < n → 0 < length xs → 0 < length (take n xs)
length_take n [] h k = absurd (omega arith)
length_take zero (x ∷ xs) h k = absurd (omega arith)
length_take (suc n) (x ∷ xs) h k = omega arith

cut_nonempty : (bytes : List ℕ) → 0 < length bytes → IsCutAt bytes (take (end_of bytes) bytes) (drop (end_of bytes) bytes)
cut_nonempty [] lt = absurd (omega arith)
cut_nonempty (b ∷ bs) lt = record {
  lines = first_line b bs;
  whole = grind (arith, common_steps);
  some = length_take (end_of (b ∷ bs)) (b ∷ bs) (end_positive b bs) lt;
}

pub cut_at : (bytes line rest : List ℕ) (end : ℕ) → 0 < length bytes → end ≡ end_of bytes → line ≡ take end bytes → rest ≡ drop end bytes → IsCutAt bytes line rest
cut_at bytes line rest end lt e l r = rw (l, r, e) (cut_nonempty bytes lt)

front : (xs ys : List ℕ) → take (length xs) (xs ++ ys) ≡ xs
front xs ys = take-append-le (length xs) xs ys (omega arith) ∙ take_all (length xs) xs (omega arith)

pub no_start : (text start found : List ℕ) (b : Bool) → found ≡ take (length start) text → b ≡ bytes_eq found start → b ≡ false → (rest : List ℕ) → text ≡ start ++ rest → ⊥
no_start text start found b cut told miss rest is =
    let same : found ≡ start = cut ∙ ap (λ (l : List ℕ). take (length start) l) is ∙ front start rest in
    false≢true (sym miss ∙ told ∙ (bytes_eq-Decides found start).1 same)
