-- Strings and names that are printed say what they are to say.
use Rattle.std.proofs.Common.{◌≡◌, inl, inr, refl, sym, ap, ◌∙◌, ℕ, ◌+◌, ◌*◌, ◌/◌, ◌%◌, ◌<◌, Bool, true, false, ◌==◌, ◌&&◌, nat_lt, if◌then◌else◌, List, [], ◌∷◌, ◌++◌, length, arith}
use Rattle.std.specs.List.{list_all, list_any, flat_map}
use Rattle.std.specs.Fmt.{digit_glyph}
use Rattle.std.specs.Char.{digit_value, is_ascii_hexdigit}
use Rattle.std.proofs.lemmas.Bool.Decides.{nat_tests}
use Rattle.ir_lexer.specs.Alphabet.{is_run_byte}
use Rattle.ir_lexer.specs.Strings.{unescaped}
use Rattle.ir_lexer.specs.Spellings.{Quotes, Names}
use Rattle.ir_printer.specs.Layout.{stands_for_itself, escaped, quoted, is_run, spelled_name}
use Rattle.ir_printer.specs.Tokens.{is_byte, AreBytes, IsName}

pub both : (a b : Bool) → (a && b) ≡ true → (a ≡ true) × (b ≡ true)
both true b h = (refl, h)
both false b h = (cc, cc)

pub both_true : (a b : Bool) → a ≡ true → b ≡ true → (a && b) ≡ true
both_true true b h k = k
both_true false b h k = cc

pub less : (m n : ℕ) → nat_lt m n ≡ true → m < n
less m n h = grind (arith, nat_tests)

pub lt_true : (m n : ℕ) → m < n → nat_lt m n ≡ true
lt_true m n h = grind (arith, nat_tests)

-- ---- a byte that stands for itself

not_backslash : (b : ℕ) → stands_for_itself b ≡ true → (b == 92) ≡ false
not_backslash b h = grind (arith, nat_tests)

not_quote : (b : ℕ) → stands_for_itself b ≡ true → (b == 34) ≡ false
not_quote b h = grind (arith, nat_tests)

plain_first : (b : ℕ) (rest : List ℕ) → (b == 92) ≡ false → unescaped (b ∷ rest) ≡ b ∷ unescaped rest
unfolding unescaped
plain_first b [] h = refl
plain_first b (c ∷ []) h = rw h refl
plain_first b (c ∷ d ∷ ds) h = rw h refl

-- ---- an escape

glyph_92 : (d : ℕ) → d < 16 → (digit_glyph true d == 92) ≡ false
glyph_92 d h = grind (arith, nat_tests)

glyph_34 : (d : ℕ) → d < 16 → (digit_glyph true d == 34) ≡ false
glyph_34 d h = grind (arith, nat_tests)

glyph_hex : (d : ℕ) → d < 16 → is_ascii_hexdigit (digit_glyph true d) ≡ true
glyph_hex d h = grind (arith, nat_tests)

glyph_value : (d : ℕ) → d < 16 → digit_value (digit_glyph true d) ≡ d
glyph_value d h = grind (arith, nat_tests)

two_digits : (b : ℕ) → 16 * (b / 16) + b % 16 ≡ b
two_digits b = omega arith

escape_first : (h l : ℕ) (rest : List ℕ) → (h == 92) ≡ false → is_ascii_hexdigit h ≡ true → is_ascii_hexdigit l ≡ true → unescaped (92 ∷ h ∷ l ∷ rest) ≡ (16 * digit_value h + digit_value l) ∷ unescaped rest
unfolding unescaped
escape_first h l rest e f g = rw (e, f, g) refl

said_escape : (b : ℕ) (rest : List ℕ) → b < 256 → unescaped (92 ∷ digit_glyph true (b / 16) ∷ digit_glyph true (b % 16) ∷ rest) ≡ b ∷ unescaped rest
said_escape b rest h =
    let high : b / 16 < 16 = omega arith in
    let low : b % 16 < 16 = omega arith in
    let value : 16 * digit_value (digit_glyph true (b / 16)) + digit_value (digit_glyph true (b % 16)) ≡ b = ap (λ (x : ℕ). 16 * x + digit_value (digit_glyph true (b % 16))) (glyph_value (b / 16) high) ∙ ap (λ (x : ℕ). 16 * (b / 16) + x) (glyph_value (b % 16) low) ∙ two_digits b in
    escape_first (digit_glyph true (b / 16)) (digit_glyph true (b % 16)) rest (glyph_92 (b / 16) high) (glyph_hex (b / 16) high) (glyph_hex (b % 16) low)
    ∙ ap (λ (x : ℕ). x ∷ unescaped rest) value

-- ---- a string

one_said : (c : Bool) (b : ℕ) (rest : List ℕ) → stands_for_itself b ≡ c → b < 256 → unescaped ((if c then b ∷ [] else 92 ∷ digit_glyph true (b / 16) ∷ digit_glyph true (b % 16) ∷ []) ++ rest) ≡ b ∷ unescaped rest
one_said true b rest e h = plain_first b rest (not_backslash b e)
one_said false b rest e h = said_escape b rest h

below : (b : ℕ) → is_byte b ≡ true → b < 256
below b h = grind (arith, nat_tests)

nothing_said : unescaped [] ≡ []
unfolding unescaped
nothing_said = refl

all_said : (said : List ℕ) → list_all is_byte said ≡ true → unescaped (flat_map escaped said) ≡ said
all_said [] h = nothing_said
all_said (b ∷ bs) h =
    let k = both (is_byte b) (list_all is_byte bs) h in
    one_said (stands_for_itself b) b (flat_map escaped bs) refl (below b k.0) ∙ ap (λ (xs : List ℕ). b ∷ xs) (all_said bs k.1)

abbrev is_quote : ℕ → Bool
is_quote b = b == 34

one_unquoted : (c : Bool) (b : ℕ) (rest : List ℕ) → stands_for_itself b ≡ c → b < 256 → list_any is_quote rest ≡ false → list_any is_quote ((if c then b ∷ [] else 92 ∷ digit_glyph true (b / 16) ∷ digit_glyph true (b % 16) ∷ []) ++ rest) ≡ false
one_unquoted true b rest e h r = rw (not_quote b e) r
one_unquoted false b rest e h r =
    let high = glyph_34 (b / 16) (omega arith) in
    let low = glyph_34 (b % 16) (omega arith) in
    rw (high, low) r

no_quote : (said : List ℕ) → list_all is_byte said ≡ true → list_any is_quote (flat_map escaped said) ≡ false
no_quote [] h = refl
no_quote (b ∷ bs) h =
    let k = both (is_byte b) (list_all is_byte bs) h in
    one_unquoted (stands_for_itself b) b (flat_map escaped bs) refl (below b k.0) (no_quote bs k.1)

-- a printed string says its bytes
pub quotes : (said : List ℕ) → AreBytes said → Quotes said (quoted said)
unfolding quoted
quotes said h = (flat_map escaped said, refl, no_quote said h, sym (all_said said h))

-- ---- a name

by_run : (c : Bool) (name : List ℕ) → is_run name ≡ c → IsName name → Names name (if c then name else quoted name)
by_run true name e h = let k = both (nat_lt 0 (length name)) (list_all is_run_byte name) e in inl ((less 0 (length name) k.0, k.1), refl)
by_run false name e h = inr (quotes name h.1, h.0)

-- a printed name is that name
pub names : (name : List ℕ) → IsName name → Names name (spelled_name name)
unfolding spelled_name
names name h = by_run (is_run name) name refl h
