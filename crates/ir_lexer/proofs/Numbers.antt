-- A run of decimal digits with at most one `-` before them is a number that `parse` reads.
use Rattle.std.proofs.Common.{◌≡◌, ℕ, zero, suc, ◌<◌, ◌≤◌, ◌^◌, Bool, true, false, ◌==◌, nat_lt, ◌&&◌, List, [], ◌∷◌, length, get_or, if◌then◌else◌, Result, Ok, Err, ℤ, refl, arith, rules, MatchResult}
use Rattle.std.specs.Prelude.{IsOk, IsTrue}
use Rattle.std.specs.Result.{OkIff}
use Rattle.std.specs.Int.{w128}
use Rattle.std.specs.Str.{IsUtf8}
use Rattle.std.specs.Str.Parse.{ParsesSigned, digits_value}
use Rattle.std.specs.Char.{is_ascii_digit}
use Rattle.std.specs.List.{list_all}
use Rattle.std.proofs.lemmas.Bool.{eqb-true, eqb-false}
use Rattle.std.proofs.lemmas.Bool.Decides.{nat_tests}
use Rattle.std.proofs.lemmas.Str.{IsUtf8-from_ascii}
use Rattle.std.proofs.lemmas.Str.Parse.{IsNumeralModel, IsDigitsTest, numerals_by_value, digits_value_short, parse_signed_minus, parse_signed_plain}
use Rattle.ir_lexer.specs.Alphabet.{without_minus, is_int}

-- decimal digits alone
abbrev AreDigits : List ℕ → Type 0
AreDigits ds = list_all is_ascii_digit ds ≡ true

tells_digits : IsDigitsTest AreDigits
tells_digits = search rules

own : IsNumeralModel AreDigits (digits_value 10)
own = numerals_by_value AreDigits tells_digits

both : (a b : Bool) → (a && b) ≡ true → (a ≡ true) × (b ≡ true)
both true b e = (refl, e)
both false b e = (e, cc)

positive : (n : ℕ) → nat_lt 0 n ≡ true → 0 < n
positive n h = grind (arith, nat_tests)

some_digits : (run : List ℕ) → IsTrue (is_int run) → 0 < length (without_minus run)
unfolding is_int
some_digits run h = positive (length (without_minus run)) (both (nat_lt 0 (length (without_minus run))) (list_all is_ascii_digit (without_minus run)) h).0

all_digits : (run : List ℕ) → IsTrue (is_int run) → AreDigits (without_minus run)
unfolding is_int
all_digits run h = (both (nat_lt 0 (length (without_minus run))) (list_all is_ascii_digit (without_minus run)) h).1

digit_ascii : (d : ℕ) → is_ascii_digit d ≡ true → (48 ≤ d) × (d < 128)
digit_ascii d h = grind (arith, nat_tests)

digits_ascii : (ds : List ℕ) → AreDigits ds → (i : ℕ) → get_or ds i 0 < 128
digits_ascii [] h i = omega arith
digits_ascii (d ∷ ds) h zero = (digit_ascii d (both (is_ascii_digit d) (list_all is_ascii_digit ds) h).0).1
digits_ascii (d ∷ ds) h (suc i) = digits_ascii ds (both (is_ascii_digit d) (list_all is_ascii_digit ds) h).1 i

minus_ascii : (b : ℕ) (bs : List ℕ) (t : Bool) → (b == 45) ≡ t → ((i : ℕ) → get_or (if t then bs else b ∷ bs) i 0 < 128) → (i : ℕ) → get_or (b ∷ bs) i 0 < 128
minus_ascii b bs false e h i = h i
minus_ascii b bs true e h zero = let k = eqb-true b 45 e in omega arith
minus_ascii b bs true e h (suc i) = h i

run_ascii : (run : List ℕ) → ((i : ℕ) → get_or (without_minus run) i 0 < 128) → (i : ℕ) → get_or run i 0 < 128
run_ascii [] h i = h i
run_ascii (b ∷ bs) h i = minus_ascii b bs (b == 45) refl h i

pub is_utf8 : (run : List ℕ) → IsTrue (is_int run) → IsUtf8 run
is_utf8 run h = IsUtf8-from_ascii run (run_ascii run (digits_ascii (without_minus run) (all_digits run h)))

-- where the bytes are UTF-8, `from_utf8` gives them
pub is_text : {T E : Type 0} (r : Result T E) (P : T → Type 0) (Q : E → Type 0) (U : Type 0) → MatchResult r P (λ e. (U → ⊥) × Q e) → U → IsOk r
is_text (Ok x) P Q U h u = refl
is_text (Err e) P Q U h u = absurd (h.0 u)

gives : {T E : Type 0} (r : Result T E) (P : Type 0) (v : T) → OkIff r P v → P → IsOk r
gives (Ok x) P v h p = refl
gives (Err e) P v h p = absurd (h p)

small : (ds : List ℕ) → AreDigits ds → length ds ≤ 30 → digits_value 10 ds < 2 ^ 127
small ds h short = let k = digits_value_short own ds 30 h short in omega arith

read_by : {E : Type 0} (b : ℕ) (bs : List ℕ) (r : Result ℤ E) → ParsesSigned w128 10 (b ∷ bs) r → (t : Bool) → (b == 45) ≡ t → 0 < length (if t then bs else b ∷ bs) → AreDigits (if t then bs else b ∷ bs) → length (if t then bs else b ∷ bs) ≤ 30 → IsOk r
read_by {E} b bs r h true e some digits short =
    let k = small bs digits short in
    gives r _ _ (parse_signed_minus own {E = E} w128 (b ∷ bs) r h (eqb-true b 45 e)) (digits, some, omega arith)
read_by {E} b bs r h false e some digits short =
    let k = digit_ascii b (both (is_ascii_digit b) (list_all is_ascii_digit bs) digits).0 in
    gives r _ _ (parse_signed_plain own {E = E} w128 (b ∷ bs) r h (λ p. omega arith) (eqb-false b 45 e)) (digits, some, small (b ∷ bs) digits short)

pub is_read : {E : Type 0} (run : List ℕ) (r : Result ℤ E) → ParsesSigned w128 10 run r → IsTrue (is_int run) → length (without_minus run) ≤ 30 → IsOk r
is_read [] r h int short = let k = some_digits [] int in absurd (omega arith)
is_read (b ∷ bs) r h int short = read_by b bs r h (b == 45) refl (some_digits (b ∷ bs) int) (all_digits (b ∷ bs) int) short
