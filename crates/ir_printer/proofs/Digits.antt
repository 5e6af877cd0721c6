-- Printed integers are integers of the text.
use Rattle.std.proofs.Common.{◌≡◌, refl, sym, ap, ◌∙◌, ℕ, zero, suc, ◌+◌, ◌*◌, ◌/◌, ◌%◌, ◌^◌, ◌<◌, ◌≤◌, Bool, true, false, ◌==◌, cond, List, [], ◌∷◌, length, ℤ, pos, negsuc, arith, pow-suc}
use Rattle.std.specs.Prelude.{nat_abs, neg_ℤ}
use Rattle.std.specs.List.{list_all}
use Rattle.std.specs.Fmt.{digit_glyph, digits_onto, digits, decimal, signed_decimal}
use Rattle.std.specs.Char.{digit_value, is_ascii_digit}
use Rattle.std.specs.Str.Parse.{digits_value_after, digits_value, signed_digits_value}
use Rattle.std.proofs.lemmas.Bool.Decides.{nat_tests}
use Rattle.ir_lexer.specs.Alphabet.{is_run_byte, without_minus, is_int}
use Rattle.ir_lexer.specs.Spellings.{Spells}
use Rattle.ir_lexer.specs.declared.table.Token.TheVariants as tokens
use Rattle.ir_printer.proofs.Strings.{both, lt_true, both_true}

-- ---- one digit

glyph_value : (d : ℕ) → d < 10 → digit_value (digit_glyph false d) ≡ d
glyph_value d h = grind (arith, nat_tests)

glyph_digit : (d : ℕ) → d < 10 → is_ascii_digit (digit_glyph false d) ≡ true
glyph_digit d h = grind (arith, nat_tests)

-- ---- digits before others

abbrev step : ℕ → ℕ → List ℕ → Bool → List ℕ
step k n acc t = cond t (digit_glyph false (n % 10) ∷ acc) (digits_onto k 10 false (n / 10) (digit_glyph false (n % 10) ∷ acc))

below_ten : (n : ℕ) → n % 10 < 10
below_ten n = omega arith

none_above : (n : ℕ) → (n / 10 == 0) ≡ true → n / 10 ≡ 0
none_above n e = grind (arith, nat_tests)

some_above : (n : ℕ) → (n / 10 == 0) ≡ false → 0 < n / 10
some_above n e = grind (arith, nat_tests)

fewer : (k n : ℕ) → n < 10 ^ suc k → n / 10 < 10 ^ k
fewer k n h = let p = pow-suc 10 k in omega arith

more_left : (k n : ℕ) → n < 10 ^ suc k → (n / 10 == 0) ≡ false → 0 < k
more_left zero n h e = let s = some_above n e in omega arith
more_left (suc k) n h e = omega arith

value_by : (k n : ℕ) (acc : List ℕ) (t : Bool) → (n / 10 == 0) ≡ t → (t ≡ false → digits_value_after 10 0 (digits_onto k 10 false (n / 10) (digit_glyph false (n % 10) ∷ acc)) ≡ digits_value_after 10 (n / 10) (digit_glyph false (n % 10) ∷ acc)) → digits_value_after 10 0 (step k n acc t) ≡ digits_value_after 10 n acc
value_by k n acc true e ih =
    let z = none_above n e in
    let last = glyph_value (n % 10) (below_ten n) in
    let same : 0 * 10 + digit_value (digit_glyph false (n % 10)) ≡ n = omega arith in
    ap (λ (x : ℕ). digits_value_after 10 x acc) same
value_by k n acc false e ih =
    let last = glyph_value (n % 10) (below_ten n) in
    let same : n / 10 * 10 + digit_value (digit_glyph false (n % 10)) ≡ n = omega arith in
    ih refl ∙ ap (λ (x : ℕ). digits_value_after 10 x acc) same

value_onto : (k n : ℕ) (acc : List ℕ) → n < 10 ^ k → 0 < k → digits_value_after 10 0 (digits_onto k 10 false n acc) ≡ digits_value_after 10 n acc
value_onto zero n acc h p = absurd (omega arith)
value_onto (suc k) n acc h p = value_by k n acc (n / 10 == 0) refl (λ e. value_onto k (n / 10) (digit_glyph false (n % 10) ∷ acc) (fewer k n h) (more_left k n h e))

digits_by : (k n : ℕ) (acc : List ℕ) (t : Bool) → list_all is_ascii_digit acc ≡ true → (list_all is_ascii_digit (digit_glyph false (n % 10) ∷ acc) ≡ true → list_all is_ascii_digit (digits_onto k 10 false (n / 10) (digit_glyph false (n % 10) ∷ acc)) ≡ true) → list_all is_ascii_digit (step k n acc t) ≡ true
digits_by k n acc true h ih = both_true _ _ (glyph_digit (n % 10) (below_ten n)) h
digits_by k n acc false h ih = ih (both_true _ _ (glyph_digit (n % 10) (below_ten n)) h)

digits_all : (k n : ℕ) (acc : List ℕ) → list_all is_ascii_digit acc ≡ true → list_all is_ascii_digit (digits_onto k 10 false n acc) ≡ true
digits_all zero n acc h = h
digits_all (suc k) n acc h = digits_by k n acc (n / 10 == 0) h (λ e. digits_all k (n / 10) (digit_glyph false (n % 10) ∷ acc) e)

length_by : (k j n : ℕ) (acc : List ℕ) (t : Bool) → (t ≡ false → length (digits_onto k 10 false (n / 10) (digit_glyph false (n % 10) ∷ acc)) ≤ j + suc (length acc)) → length (step k n acc t) ≤ suc j + length acc
length_by k j n acc true ih = omega arith
length_by k j n acc false ih = let h = ih refl in omega arith

length_from : (k j n : ℕ) (acc : List ℕ) → n < 10 ^ suc j → (n / 10 == 0) ≡ false →
    ((i m : ℕ) (more : List ℕ) → m < 10 ^ suc i → length (digits_onto k 10 false m more) ≤ suc i + length more) →
    length (digits_onto k 10 false (n / 10) (digit_glyph false (n % 10) ∷ acc)) ≤ j + suc (length acc)
length_from k zero n acc h e ih = let s = some_above n e in absurd (omega arith)
length_from k (suc j) n acc h e ih = ih j (n / 10) (digit_glyph false (n % 10) ∷ acc) (fewer (suc j) n h)

length_onto : (k j n : ℕ) (acc : List ℕ) → n < 10 ^ suc j → length (digits_onto k 10 false n acc) ≤ suc j + length acc
length_onto zero j n acc h = omega arith
length_onto (suc k) j n acc h = length_by k j n acc (n / 10 == 0) (λ e. length_from k j n acc h e (λ i m more l. length_onto k i m more l))

grows_by : (k n : ℕ) (acc : List ℕ) (t : Bool) → suc (length acc) ≤ length (digits_onto k 10 false (n / 10) (digit_glyph false (n % 10) ∷ acc)) → length acc < length (step k n acc t)
grows_by k n acc true ih = omega arith
grows_by k n acc false ih = omega arith

grows : (k n : ℕ) (acc : List ℕ) → length acc ≤ length (digits_onto k 10 false n acc)
grows zero n acc = omega arith
grows (suc k) n acc = let h = grows_by k n acc (n / 10 == 0) (grows k (n / 10) (digit_glyph false (n % 10) ∷ acc)) in omega arith

-- ---- decimals

abbrev Short : ℕ → Type 0
Short n = n < 10 ^ 30

wide : (n : ℕ) → Short n → n < 10 ^ 64
wide n h = omega arith

decimal_value : (n : ℕ) → Short n → digits_value 10 (decimal n) ≡ n
unfolding digits
decimal_value n h = value_onto 64 n [] (wide n h) (omega arith)

pub decimal_digits : (n : ℕ) → list_all is_ascii_digit (decimal n) ≡ true
unfolding digits
decimal_digits n = digits_all 64 n [] refl

decimal_short : (n : ℕ) → Short n → length (decimal n) ≤ 30
unfolding digits
decimal_short n h = let l = length_onto 64 29 n [] h in omega arith

pub decimal_some : (n : ℕ) → 0 < length (decimal n)
unfolding digits
decimal_some n = grows_by 63 n [] (n / 10 == 0) (grows 63 (n / 10) (digit_glyph false (n % 10) ∷ []))

-- ---- integers of the text

digit_run : (b : ℕ) → is_ascii_digit b ≡ true → is_run_byte b ≡ true
digit_run b h = grind (arith, nat_tests)

run_of_digits : (bs : List ℕ) → list_all is_ascii_digit bs ≡ true → list_all is_run_byte bs ≡ true
run_of_digits [] h = refl
run_of_digits (b ∷ bs) h = let k = both (is_ascii_digit b) (list_all is_ascii_digit bs) h in both_true _ _ (digit_run b k.0) (run_of_digits bs k.1)

no_sign : (b : ℕ) → is_ascii_digit b ≡ true → ((b == 45) ≡ false) × ((b == 43) ≡ false)
no_sign b h = (grind (arith, nat_tests), grind (arith, nat_tests))

plain_digits : (bs : List ℕ) → list_all is_ascii_digit bs ≡ true → without_minus bs ≡ bs
plain_digits [] h = refl
plain_digits (b ∷ bs) h = rw (no_sign b (both (is_ascii_digit b) (list_all is_ascii_digit bs) h).0).0 refl

plain_value : (bs : List ℕ) → list_all is_ascii_digit bs ≡ true → signed_digits_value 10 bs ≡ pos (digits_value 10 bs)
plain_value [] h = refl
plain_value (b ∷ bs) h = let k = no_sign b (both (is_ascii_digit b) (list_all is_ascii_digit bs) h).0 in rw (k.0, k.1) refl

int_of_digits : (bs rest : List ℕ) → without_minus bs ≡ rest → 0 < length rest → list_all is_ascii_digit rest ≡ true → is_int bs ≡ true
unfolding is_int
int_of_digits bs rest e some all = rw e (both_true _ _ (lt_true 0 (length rest) some) all)

-- a printed integer of at most 30 digits is that integer
pub int_spelled : (i : ℤ) → nat_abs i < 10 ^ 30 → Spells (tokens.Int i) (signed_decimal i)
int_spelled (pos n) h =
    let all = decimal_digits n in
    let some = decimal_some n in
    let plain = plain_digits (decimal n) all in
    ((some, run_of_digits (decimal n) all), int_of_digits (decimal n) (decimal n) plain some all, rw plain (decimal_short n h), sym (plain_value (decimal n) all ∙ ap pos (decimal_value n h)))
int_spelled (negsuc n) h =
    let all = decimal_digits (suc n) in
    let some = decimal_some (suc n) in
    ((omega arith, run_of_digits (decimal (suc n)) all), int_of_digits (45 ∷ decimal (suc n)) (decimal (suc n)) refl some all, decimal_short (suc n) h, sym (ap (λ (x : ℕ). neg_ℤ (pos x)) (decimal_value (suc n) h)))
