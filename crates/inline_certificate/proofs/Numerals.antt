-- Numbers and values as words.
use Rattle.std.proofs.Common.{◌≡◌, ◌≢◌, ℕ, zero, suc, ◌<◌, Bool, true, false, length, get_or, List, [], ◌∷◌, ◌++◌, Ok, Err, sym, ap, subst, ◌∙◌, arith}
use mathlib.Core.Bool.{false≢true}
use Rattle.std.specs.Prelude.{Result, IsTrue, IsUtf8, decimal, bytes_eq}
use Rattle.std.specs.Result.{OkIff}
use Rattle.std.specs.Str.Parse.{AllDigits, digits_value, ParsesUnsigned}
use Rattle.std.proofs.lemmas.Fmt.{parse-decimal, IsAscii-decimal, decimal_digit, first_decimal, decimal_is_IsNumeral, decimal-digits_value}
use Rattle.std.proofs.lemmas.Str.{IsUtf8-from_ascii}
use Rattle.std.proofs.lemmas.Str.Parse.{IsNumeralModel, numerals_by_value, tells_digits, parse_plain, digit_from_value}
use Rattle.std.proofs.lemmas.Slice.Eq.{bytes_eq-Decides}
use Rattle.inline_certificate.specs.Text.{version_line}
use Rattle.inline_certificate.specs.Certificates.{IsWord, IsVersion}
use Rattle.inline_certificate.specs.Parts.{IsPlain}
use Rattle.inline_certificate.specs.Steps.{IsWordOf}

abbrev IsNumber : List ℕ → ℕ → Type 0
IsNumber word n = IsWordOf decimal IsWord word n

own : IsNumeralModel (AllDigits 10) (digits_value 10)
own = numerals_by_value (AllDigits 10) tells_digits

pub digits_of : (n : ℕ) → IsWord n → (0 < length (decimal n)) × AllDigits 10 (decimal n) × (digits_value 10 (decimal n) ≡ n)
digits_of n lt = let p = decimal_is_IsNumeral n (omega arith) in (p.0.0, p.0.1, p.1)

no_plus : (ds : List ℕ) → AllDigits 10 ds → get_or ds 0 0 ≢ 43
no_plus [] h e = omega arith
no_plus (d ∷ ds) h e = let r = digit_from_value d h.0 in omega (arith, r.0, r.1)

plain_number : (n : ℕ) → IsWord n → IsPlain (decimal n)
plain_number zero lt = (no_plus (decimal 0) (digits_of 0 lt).1, λ e. ap (λ (l : List ℕ). length l) (decimal_digit 0 (omega arith)))
plain_number (suc n) lt = (no_plus (decimal (suc n)) (digits_of (suc n) lt).1, λ e. absurd (omega (arith, first_decimal (suc n) (omega arith) (omega arith))))

pub not_plain : (word : List ℕ) (b : Bool) → (IsTrue b → IsPlain word) × (IsPlain word → IsTrue b) → b ≡ false → (n : ℕ) → IsNumber word n → ⊥
not_plain word b told miss n w = let h : b ≡ true = told.1 (subst (λ (l : List ℕ). IsPlain l) (sym w.is) (plain_number n w.fits)) in false≢true (sym miss ∙ h)

ok_cases : {E : Type 0} (r : Result ℕ E) (n v : ℕ) (P : Type 0) → OkIff r P v → r ≡ Ok n → P × (v ≡ n)
ok_cases (Ok x) n v P h e = let same : x ≡ n = cc in (h.0, sym h.1 ∙ same)
ok_cases (Err x) n v P h e = cc

pub parsed : {E : Type 0} (word text : List ℕ) (r : Result ℕ E) (n : ℕ) → IsPlain word → text ≡ word → ParsesUnsigned 32 10 text r → r ≡ Ok n → IsNumber word n
parsed {E} word text r n plain same h e =
    let told = subst (λ (l : List ℕ). ParsesUnsigned 32 10 l r) same h in
    let k = ok_cases r n (digits_value 10 word) _ (parse_plain own 32 word r told plain.0) e in
    let is : decimal (digits_value 10 word) ≡ word = decimal-digits_value own word k.0.0 k.0.1 plain.1 (omega (arith, k.0.2)) in
    record { is = sym is ∙ ap (λ (m : ℕ). decimal m) k.1; fits = omega (arith, k.0.2, k.1) }

pub not_parsed : {E : Type 0} (word text : List ℕ) (r : Result ℕ E) (x : E) → text ≡ word → ParsesUnsigned 32 10 text r → r ≡ Err x → (n : ℕ) → IsNumber word n → ⊥
not_parsed {E} word text r x same h e n w =
    let k : r ≡ Ok n = parse-decimal 32 n text r w.fits (omega (arith, w.fits)) (same ∙ w.is) h in
    let clash : Err x ≡ Ok n = sym e ∙ k in cc

pub no_text : (word : List ℕ) → (IsUtf8 word → ⊥) → (n : ℕ) → IsNumber word n → ⊥
no_text word h n w = let lt = w.fits in h (subst IsUtf8 (sym w.is) (IsUtf8-from_ascii _ (IsAscii-decimal n (omega arith))))

-- ---- versions

pub first_version : (line bytes : List ℕ) (b : Bool) → b ≡ bytes_eq line bytes → b ≡ true → bytes ≡ version_line 1 → IsWordOf version_line IsVersion line 1
first_version line bytes b told hit is = record { is = (bytes_eq-Decides line bytes).0 (sym told ∙ hit) ∙ is; fits = (omega arith, omega arith) }

pub second_version : (line bytes : List ℕ) (b : Bool) → b ≡ bytes_eq line bytes → b ≡ true → bytes ≡ version_line 2 → IsWordOf version_line IsVersion line 2
second_version line bytes b told hit is = record { is = (bytes_eq-Decides line bytes).0 (sym told ∙ hit) ∙ is; fits = (omega arith, omega arith) }

pub line_of_one : 99 ∷ 101 ∷ 114 ∷ 116 ∷ 105 ∷ 102 ∷ 105 ∷ 99 ∷ 97 ∷ 116 ∷ 101 ∷ 32 ∷ 49 ∷ 10 ∷ [] ≡ version_line 1
line_of_one = ap (λ (l : List ℕ). 99 ∷ 101 ∷ 114 ∷ 116 ∷ 105 ∷ 102 ∷ 105 ∷ 99 ∷ 97 ∷ 116 ∷ 101 ∷ 32 ∷ (l ++ 10 ∷ [])) (sym (decimal_digit 1 (omega arith)))

pub line_of_two : 99 ∷ 101 ∷ 114 ∷ 116 ∷ 105 ∷ 102 ∷ 105 ∷ 99 ∷ 97 ∷ 116 ∷ 101 ∷ 32 ∷ 50 ∷ 10 ∷ [] ≡ version_line 2
line_of_two = ap (λ (l : List ℕ). 99 ∷ 101 ∷ 114 ∷ 116 ∷ 105 ∷ 102 ∷ 105 ∷ 99 ∷ 97 ∷ 116 ∷ 101 ∷ 32 ∷ (l ++ 10 ∷ [])) (sym (decimal_digit 2 (omega arith)))

unlike : (line bytes : List ℕ) (b : Bool) → b ≡ bytes_eq line bytes → b ≡ false → line ≡ bytes → ⊥
unlike line bytes b told miss is = false≢true (sym miss ∙ told ∙ (bytes_eq-Decides line bytes).1 is)

pub no_version : (line one two : List ℕ) (b b' : Bool) → b ≡ bytes_eq line one → b ≡ false → one ≡ version_line 1 → b' ≡ bytes_eq line two → b' ≡ false → two ≡ version_line 2 → (v : ℕ) → IsWordOf version_line IsVersion line v → ⊥
no_version line one two b b' told miss is told' miss2 is' zero w = let k = w.fits.0 in omega arith
no_version line one two b b' told miss is told' miss2 is' (suc zero) w = unlike line one b told miss (w.is ∙ sym is)
no_version line one two b b' told miss is told' miss2 is' (suc (suc zero)) w = unlike line two b' told' miss2 (w.is ∙ sym is')
no_version line one two b b' told miss is told' miss2 is' (suc (suc (suc v))) w = let k = w.fits.1 in omega arith
