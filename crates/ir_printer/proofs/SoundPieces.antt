-- The tokens of a text of bytes: names hold bytes and are not empty, and integers have at most 30 digits.
use Rattle.std.proofs.Common.{◌≡◌, inl, inr, refl, sym, ◌∙◌, subst, ℕ, ℤ, zero, suc, pos, ◌+◌, ◌*◌, ◌<◌, ◌≤◌, ◌^◌, ◌==◌, Bool, true, false, ◌&&◌, nat_lt, if◌then◌else◌, List, [], ◌∷◌, ◌++◌, length, Result, Ok, Err, arith, rules}
use Rattle.std.specs.Prelude.{All, nat_abs, neg_ℤ}
use Rattle.std.specs.List.{list_all, list_any}
use Rattle.std.specs.Char.{is_ascii_digit, is_ascii_hexdigit, digit_value}
use Rattle.std.specs.Str.Parse.{digits_value, signed_digits_value}
use Rattle.std.proofs.lemmas.Bool.Decides.{nat_tests}
use Rattle.std.proofs.lemmas.List.Folds.{list_all-append}
use Rattle.std.proofs.lemmas.Str.Parse.{IsNumeralModel, IsDigitsTest, numerals_by_value, digits_value_short}
use Rattle.oi_base.specs.declared.ids.Place.{Place}
use Rattle.ir_lexer.specs.declared.fault.LexFault.{LexFault}
use Rattle.ir_lexer.specs.declared.table.Token.{Token}
use Rattle.ir_lexer.specs.declared.table.Token.TheVariants as tokens
use Rattle.ir_lexer.specs.Alphabet.{is_run_byte, without_minus, is_int}
use Rattle.ir_lexer.specs.Strings.{unescaped, is_name}
use Rattle.ir_lexer.specs.Spellings.{IsRun, Quotes, Names as Named, Spells}
use Rattle.ir_lexer.specs.Lexing.{Unread, whole, next_token, is_end}
use Rattle.ir_lexer.proofs.After.{in_parts}
use Rattle.ir_grammar.specs.Pieces.{then_more, pieces_of, pieces}
use Rattle.ir_printer.specs.Tokens.{is_byte, AreBytes, IsName}
use Rattle.ir_printer.specs.Reprints.{IsSound, AreSound}
use Rattle.ir_printer.proofs.Strings.{both, lt_true, both_true}
use Rattle.ir_grammar.proofs.Ends.{fewer}
use Rattle.ir_grammar.proofs.Stream.{pieces_step}

-- ---- bytes

byte_true : (b : ℕ) → b < 256 → is_byte b ≡ true
byte_true b h = grind (arith, nat_tests)

bytes_first : (xs ys : List ℕ) → AreBytes (xs ++ ys) → AreBytes xs
bytes_first xs ys h = (both (list_all is_byte xs) (list_all is_byte ys) (sym (list_all-append is_byte xs ys) ∙ h)).0

bytes_last : (xs ys : List ℕ) → AreBytes (xs ++ ys) → AreBytes ys
bytes_last xs ys h = (both (list_all is_byte xs) (list_all is_byte ys) (sym (list_all-append is_byte xs ys) ∙ h)).1

pub are_bytes : (bs : List ℕ) → All (λ b. b < 256) bs → AreBytes bs
are_bytes [] h = refl
are_bytes (b ∷ bs) h = both_true (is_byte b) (list_all is_byte bs) (byte_true b (h 0 0 (omega arith))) (are_bytes bs (λ i d lt. h (suc i) d (omega (arith, lt))))

-- ---- strings

hex_small : (h : ℕ) → is_ascii_hexdigit h ≡ true → digit_value h < 16
hex_small h e = grind (arith, nat_tests)

escape_byte : (h l : ℕ) → is_ascii_hexdigit h ≡ true → is_ascii_hexdigit l ≡ true → is_byte (16 * digit_value h + digit_value l) ≡ true
escape_byte h l e f = let a = hex_small h e in let b = hex_small l f in byte_true _ (omega arith)

-- what the first three bytes say
three : (a b c : ℕ) (bs : List ℕ) (s t : Bool) → ((a == 92) && (is_ascii_hexdigit b && is_ascii_hexdigit c)) ≡ t → AreBytes (a ∷ b ∷ c ∷ bs) →
    AreBytes (unescaped (c ∷ bs)) → AreBytes (unescaped bs) → AreBytes (unescaped (b ∷ c ∷ bs)) →
    AreBytes (if s then 92 ∷ unescaped (c ∷ bs) else (if t then (16 * digit_value b + digit_value c) ∷ unescaped bs else a ∷ unescaped (b ∷ c ∷ bs)))
three a b c bs true t e h x y z = x
three a b c bs false true e h x y z =
    let k = both (is_ascii_hexdigit b) (is_ascii_hexdigit c) (both (a == 92) (is_ascii_hexdigit b && is_ascii_hexdigit c) e).1 in
    both_true (is_byte (16 * digit_value b + digit_value c)) (list_all is_byte (unescaped bs)) (escape_byte b c k.0 k.1) y
three a b c bs false false e h x y z = both_true (is_byte a) (list_all is_byte (unescaped (b ∷ c ∷ bs))) (both (is_byte a) (list_all is_byte (b ∷ c ∷ bs)) h).0 z

two : (a b : ℕ) (s : Bool) → AreBytes (a ∷ []) → AreBytes (unescaped (b ∷ [])) → AreBytes (if s then 92 ∷ [] else a ∷ unescaped (b ∷ []))
two a b true h k = refl
two a b false h k = both_true (is_byte a) (list_all is_byte (unescaped (b ∷ []))) (both (is_byte a) true h).0 k

unescaped_bytes : (n : ℕ) (bs : List ℕ) → length bs < n → AreBytes bs → AreBytes (unescaped bs)
unfolding unescaped
unescaped_bytes zero bs lt h = absurd (omega (arith, lt))
unescaped_bytes (suc n) [] lt h = refl
unescaped_bytes (suc n) (a ∷ []) lt h = h
unescaped_bytes (suc n) (a ∷ b ∷ []) lt h = two a b ((a == 92) && (b == 92)) (bytes_first (a ∷ []) (b ∷ []) h) (bytes_last (a ∷ []) (b ∷ []) h)
unescaped_bytes (suc n) (a ∷ b ∷ c ∷ bs) lt h =
    three a b c bs ((a == 92) && (b == 92)) ((a == 92) && (is_ascii_hexdigit b && is_ascii_hexdigit c)) refl h
    (unescaped_bytes n (c ∷ bs) (omega (arith, lt)) (bytes_last (a ∷ b ∷ []) (c ∷ bs) h)) (unescaped_bytes n bs (omega (arith, lt)) (bytes_last (a ∷ b ∷ c ∷ []) bs h)) (unescaped_bytes n (b ∷ c ∷ bs) (omega (arith, lt)) (bytes_last (a ∷ []) (b ∷ c ∷ bs) h))

said_bytes : (said bs : List ℕ) → Quotes said bs → AreBytes bs → AreBytes said
said_bytes said bs q h =
    let inner : AreBytes (q.0 ++ 34 ∷ []) = bytes_last (34 ∷ []) (q.0 ++ 34 ∷ []) (subst AreBytes q.1 h) in
    subst AreBytes (sym q.3) (unescaped_bytes (length q.0 + 1) q.0 (omega arith) (bytes_first q.0 (34 ∷ []) inner))

-- ---- names

run_no_zero : (b : ℕ) → is_run_byte b ≡ true → (b == 0) ≡ false
run_no_zero b h = grind (arith, nat_tests)

runs_no_zero : (bs : List ℕ) → list_all is_run_byte bs ≡ true → list_any (λ b. b == 0) bs ≡ false
runs_no_zero [] h = refl
runs_no_zero (b ∷ bs) h = let k = both (is_run_byte b) (list_all is_run_byte bs) h in rw (run_no_zero b k.0, runs_no_zero bs k.1) refl

run_name : (bs : List ℕ) → IsRun bs → is_name bs ≡ true
unfolding is_name
run_name bs h = rw (lt_true 0 (length bs) h.0, runs_no_zero bs h.1) refl

name_sound : (name bs : List ℕ) → Named name bs → AreBytes bs → IsName name
name_sound name bs (inl h) b = subst IsName (sym h.1) (run_name bs h.0, b)
name_sound name bs (inr h) b = (h.1, said_bytes name bs h.0 b)

-- ---- integers

-- decimal digits alone
abbrev AreDigits : List ℕ → Type 0
AreDigits ds = list_all is_ascii_digit ds ≡ true

tells_digits : IsDigitsTest AreDigits
tells_digits = search rules

own : IsNumeralModel AreDigits (digits_value 10)
own = numerals_by_value AreDigits tells_digits

opposite : (k : ℕ) → nat_abs (neg_ℤ (pos k)) ≡ k
opposite zero = refl
opposite (suc k) = refl

no_sign : (b : ℕ) → is_ascii_digit b ≡ true → (b == 43) ≡ false
no_sign b h = grind (arith, nat_tests)

int_by : (b : ℕ) (bs : List ℕ) (t : Bool) → (b == 45) ≡ t → AreDigits (if t then bs else b ∷ bs) → length (if t then bs else b ∷ bs) ≤ 30 → nat_abs (signed_digits_value 10 (b ∷ bs)) < 10 ^ 30
int_by b bs true e digits short =
    let value : nat_abs (signed_digits_value 10 (b ∷ bs)) ≡ nat_abs (neg_ℤ (pos (digits_value 10 bs))) = rw e refl in
    subst (λ (k : ℕ). k < 10 ^ 30) (sym (value ∙ opposite (digits_value 10 bs))) (digits_value_short own bs 30 digits short)
int_by b bs false e digits short =
    let plus = no_sign b (both (is_ascii_digit b) (list_all is_ascii_digit bs) digits).0 in
    let value : nat_abs (signed_digits_value 10 (b ∷ bs)) ≡ digits_value 10 (b ∷ bs) = rw (e, plus) refl in
    subst (λ (k : ℕ). k < 10 ^ 30) (sym value) (digits_value_short own (b ∷ bs) 30 digits short)

int_sound : (bs : List ℕ) → is_int bs ≡ true → length (without_minus bs) ≤ 30 → nat_abs (signed_digits_value 10 bs) < 10 ^ 30
unfolding is_int
int_sound [] h short = absurd cc
int_sound (b ∷ bs) h short = int_by b bs (b == 45) refl (both (nat_lt 0 (length (without_minus (b ∷ bs)))) (list_all is_ascii_digit (without_minus (b ∷ bs))) h).1 short

-- ---- tokens

token_sound : (t : Token) (bs : List ℕ) → Spells t bs → AreBytes bs → IsSound t
token_sound (tokens.Int i) bs h b = subst (λ (x : ℤ). nat_abs x < 10 ^ 30) (sym h.3) (int_sound bs h.1 h.2)
token_sound (tokens.Word w) bs h b = tt
token_sound (tokens.Label name) bs h b = name_sound name h.0 h.2 (bytes_first h.0 (58 ∷ []) (subst AreBytes h.1 b))
token_sound (tokens.Local name) bs h b = name_sound name h.0 h.2 (bytes_last (37 ∷ []) h.0 (subst AreBytes h.1 b))
token_sound (tokens.Global name) bs h b = name_sound name h.0 h.2 (bytes_last (64 ∷ []) h.0 (subst AreBytes h.1 b))
token_sound (tokens.Str said) bs h b = said_bytes said bs h b
token_sound (tokens.CStr said) bs h b = said_bytes said h.0 h.2 (bytes_last (99 ∷ []) h.0 (subst AreBytes h.1 b))
token_sound (tokens.Meta name) bs h b = tt
token_sound (tokens.Hash name) bs h b = tt
token_sound (tokens.Sign c) bs h b = tt
token_sound tokens.End bs h b = tt

sound_at : (n : ℕ) (u : Unread) → length u.bytes < n → AreBytes u.bytes → AreSound (pieces_of u)
sound_at zero u lt h = absurd (omega (arith, lt))
sound_at (suc n) u lt h = subst AreSound (sym (pieces_step u)) (at (λ v l b. sound_at n v l b) (next_token u) refl)
  where
    at : ((v : Unread) → length v.bytes < n → AreBytes v.bytes → AreSound (pieces_of v)) → (o : Result ((Token × Place) × Unread) LexFault) → next_token u ≡ o → AreSound (then_more o (λ v. pieces_of v))
    at more (Err f) e = tt
    at more (Ok t) e = (token_sound t.0.0 parts.1 parts.3 (bytes_first parts.1 t.1.bytes after), by_end (is_end t.0.0) refl)
      where
        parts : (gap form : List ℕ) × (u.bytes ≡ gap ++ (form ++ t.1.bytes)) × Spells t.0.0 form
        parts = let k = in_parts u t.1 t.0.0 t.0.1 e in (k.0, k.1, k.2, k.3)

        after : AreBytes (parts.1 ++ t.1.bytes)
        after = bytes_last parts.0 (parts.1 ++ t.1.bytes) (subst AreBytes parts.2 h)

        by_end : (b : Bool) → is_end t.0.0 ≡ b → AreSound (if b then [] else pieces_of t.1)
        by_end true g = tt
        by_end false g = let less = fewer u t.1 t.0.0 t.0.1 e g in more t.1 (omega (arith, lt, less)) (bytes_last parts.1 t.1.bytes after)

-- the pieces of a text of bytes
pub pieces_sound : (bytes : List ℕ) → AreBytes bytes → AreSound (pieces bytes)
pieces_sound bytes h = sound_at (length bytes + 1) (whole bytes) (omega arith) h
