-- Separators and comments, a byte at a time.
use Rattle.std.proofs.Common.{◌≡◌, ℕ, ◌+◌, ◌<◌, ◌≤◌, Bool, true, false, List, length, drop, get_or, refl, arith}
use Rattle.std.proofs.lemmas.List.{drop_more, drop_all}
use Rattle.ir_lexer.specs.Lexing.{is_in_comment, is_skipped, gap_len}

-- a byte of the gap
pub goes_on : (inside : Bool) (text : List ℕ) (i total : ℕ) → i < length text → is_skipped inside (get_or text i 0) ≡ true → i + gap_len inside (drop i text) ≡ total → i + 1 + gap_len (is_in_comment inside (get_or text i 0)) (drop (i + 1) text) ≡ total
unfolding gap_len
goes_on inside text i total lt skipped so_far =
    let here : gap_len inside (drop i text) ≡ 1 + gap_len (is_in_comment inside (get_or text i 0)) (drop (i + 1) text) = rw (drop_more text i 0 lt, skipped) refl in
    omega arith

-- the first byte after it
pub stops : (inside : Bool) (text : List ℕ) (i total : ℕ) → i < length text → is_skipped inside (get_or text i 0) ≡ false → i + gap_len inside (drop i text) ≡ total → i ≡ total
unfolding gap_len
stops inside text i total lt kept so_far =
    let here : gap_len inside (drop i text) ≡ 0 = rw (drop_more text i 0 lt, kept) refl in
    omega arith

-- the end of the text
pub ends : (inside : Bool) (text : List ℕ) (i total : ℕ) → length text ≤ i → i + gap_len inside (drop i text) ≡ total → i ≡ total
unfolding gap_len
ends inside text i total past so_far =
    let here : gap_len inside (drop i text) ≡ 0 = rw (drop_all i text past) refl in
    omega arith
