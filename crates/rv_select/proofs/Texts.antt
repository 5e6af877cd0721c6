-- A code whose bytes are loaded as the text stands there.
use Rattle.std.proofs.Common.{◌≡◌, ℕ, suc, ◌+◌, ◌*◌, ◌/◌, ◌%◌, ◌<◌, ◌≤◌, refl, sym, ap, ◌∙◌, subst, arith, List, [], ◌∷◌, ◌++◌, length, length-append, append_assoc, All, get_or}
use Rattle.std.specs.Int.{w32, to_le_bytes}
use Rattle.std.proofs.lemmas.Bool.Decides.{nat_tests}
use Rattle.std.proofs.lemmas.Grind.{flat_map-append}
use Rattle.std.proofs.lemmas.List.{get_or-append-add}
use Rattle.rv_isa.specs.declared.rv.Rv.{Rv}
use Rattle.rv_isa.specs.Words.{word_of, InRange}
use Rattle.rv_isa.specs.Memory.{Segments, read, bytes_at_load, text_start}
use Rattle.rv_isa.specs.Laws.{Stands, Holds}
use Rattle.rv_isa.proofs.WordBounds.{word_below}
use Rattle.rv_select.specs.Texts.{bytes_of}

abbrev pub four : ℕ → List ℕ
four w = to_le_bytes w32 w

pub bytes_length : (code : List Rv) → length (bytes_of code) ≡ 4 * length code
bytes_length [] = refl
bytes_length (i ∷ code) = let h = bytes_length code in let l = length-append (four (word_of i)) (bytes_of code) in omega arith

-- the number of four bytes
four_read : (f : ℕ → ℕ) (a w : ℕ) → w < 4294967296 → f a ≡ w % 256 → f (a + 1) ≡ w / 256 % 256 → f (a + 1 + 1) ≡ w / 65536 % 256 → f (a + 1 + 1 + 1) ≡ w / 16777216 % 256 → read f 4 a ≡ w
unfolding read
four_read f a w fits e0 e1 e2 e3 = rw (e0, e1, e2, e3) (omega arith)

module _ (s : Segments) (short : length s.text ≤ 4194304) where
  -- a byte of the text at load
  at_load : (k : ℕ) → k < length s.text → bytes_at_load s (text_start + k) ≡ get_or s.text k 0
  at_load k h = grind (arith, nat_tests)

  module _ (front : List Rv) (i : Rv) (rest : List Rv) (is_text : s.text ≡ bytes_of (front ++ (i ∷ rest))) where
    abbrev n : ℕ
    n = 4 * length front

    text_length : length s.text ≡ n + 4 + 4 * length rest
    text_length = ap length is_text ∙ bytes_length (front ++ (i ∷ rest)) ∙ (let l = length-append front (i ∷ rest) in omega arith)

    byte_of_word : (j : ℕ) → j < 4 → get_or s.text (n + j) 0 ≡ get_or (four (word_of i) ++ bytes_of rest) j 0
    byte_of_word j h =
        ap (λ t. get_or t (n + j) 0) (is_text ∙ flat_map-append (λ (y : Rv). four (word_of y)) front (i ∷ rest))
        ∙ ap (λ k. get_or (bytes_of front ++ (four (word_of i) ++ bytes_of rest)) (k + j) 0) (sym (bytes_length front))
        ∙ get_or-append-add (bytes_of front) (four (word_of i) ++ bytes_of rest) j 0

    byte_at : (a j : ℕ) → a ≡ text_start + (n + j) → j < 4 → bytes_at_load s a ≡ get_or (four (word_of i) ++ bytes_of rest) j 0
    byte_at a j e h = ap (bytes_at_load s) e ∙ at_load (n + j) (omega (arith, text_length)) ∙ byte_of_word j h

    stands_there : InRange i → Stands s (text_start + n) i
    stands_there range = record {
      inside = grind (arith, nat_tests, text_length);
      aligned = omega arith;
      low = omega (arith, text_length);
      range = range;
      has = four_read (bytes_at_load s) (text_start + n) (word_of i) (word_below i range)
          (byte_at (text_start + n) 0 (omega arith) (omega arith))
          (byte_at (text_start + n + 1) 1 (omega arith) (omega arith))
          (byte_at (text_start + n + 1 + 1) 2 (omega arith) (omega arith))
          (byte_at (text_start + n + 1 + 1 + 1) 3 (omega arith) (omega arith));
    }

  holds_after : (front code : List Rv) → s.text ≡ bytes_of (front ++ code) → All InRange code → Holds s (text_start + 4 * length front) code
  holds_after front [] is_text ranges = tt
  holds_after front (i ∷ code) is_text ranges =
      let next : (front ++ i ∷ []) ++ code ≡ front ++ (i ∷ code) = append_assoc front (i ∷ []) code in
      let e : text_start + 4 * length (front ++ i ∷ []) ≡ text_start + 4 * length front + 4 = let l = length-append front (i ∷ []) in omega arith in (
        stands_there front i code is_text (ranges 0 i (omega arith)),
        subst (λ a. Holds s a code) e (holds_after (front ++ i ∷ []) code (is_text ∙ sym (ap bytes_of next)) (λ k d h. ranges (suc k) d (omega arith))),
      )

  -- the whole text
  pub text_holds : (code : List Rv) → s.text ≡ bytes_of code → All InRange code → Holds s text_start code
  text_holds code is_text ranges = holds_after [] code is_text ranges
