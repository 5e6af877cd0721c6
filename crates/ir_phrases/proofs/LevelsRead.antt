-- A token where no level of brackets is left.
use Rattle.std.proofs.Common.{◌≡◌, ℕ, Bool, true, false, ◌||◌, List, [], ◌∷◌, Err, refl, ap}
use Rattle.std.specs.Prelude.{nat_eq, if◌then◌else◌}
use Rattle.ir_lexer.specs.declared.table.Token.{Token}
use Rattle.ir_lexer.specs.declared.table.Token.TheVariants as tokens
use Rattle.ir_grammar.specs.declared.which.Which.TheVariants as limits
use Rattle.ir_grammar.specs.Pieces.{Piece, Is, Bad}
use Rattle.ir_grammar.specs.Names.{Names}
use Rattle.ir_grammar.specs.Sets.{has, head_in}
use Rattle.ir_grammar.specs.Forms.{Exceeds, Over, Verdict, judged, parse_token}
use Rattle.ir_grammar.specs.Tokens.{word_of}
use Rattle.ir_grammar.specs.Types.{brackets, scalars, last_of}
use Rattle.ir_grammar.specs.Values.{const_words, last_const_of}

-- a bracket is one level too many, and another token is one of a table's words or refused
abbrev pub IsLast : {A : Type 0} → (Token → Verdict A) → List (List ℕ × A) → Type 0
IsLast v table = (t : Token) → v t ≡ (if has brackets t then Over limits.Nesting else word_of table t)

pub bracket_exceeds : {A : Type 0} (v : Token → Verdict A) (table : List (List ℕ × A)) → IsLast v table → (s : Names) (ts : List Piece) → head_in brackets ts ≡ true → parse_token v s ts ≡ Err (record { at = ts; why = Exceeds limits.Nesting })
bracket_exceeds v table is s [] h = absurd cc
bracket_exceeds v table is s (Bad e ∷ ts) h = absurd cc
bracket_exceeds v table is s (Is t ∷ ts) h = rw (is t.token, h) refl

pub word_is_left : {A : Type 0} (v : Token → Verdict A) (table : List (List ℕ × A)) → IsLast v table → (s : Names) (ts : List Piece) → head_in brackets ts ≡ false → parse_token v s ts ≡ parse_token (word_of table) s ts
word_is_left v table is s [] h = refl
word_is_left v table is s (Bad e ∷ ts) h = refl
word_is_left v table is s (Is t ∷ ts) h = ap (λ x. judged x s t ts) (rw (is t.token, h) refl)

either_bracket : {A : Type 0} (a b : Bool) (x y : Verdict A) → (if a || b then x else y) ≡ (if a || (b || false) then x else y)
either_bracket true b x y = refl
either_bracket false true x y = refl
either_bracket false false x y = refl

pub last_type : (void : Bool) → IsLast (last_of void) (scalars void)
last_type void (tokens.Word w) = refl
last_type void (tokens.Int n) = refl
last_type void (tokens.Label n) = refl
last_type void (tokens.Local n) = refl
last_type void (tokens.Global n) = refl
last_type void (tokens.Str n) = refl
last_type void (tokens.CStr n) = refl
last_type void (tokens.Meta n) = refl
last_type void (tokens.Hash n) = refl
last_type void (tokens.Sign c) = either_bracket (nat_eq c 91) (nat_eq c 123) _ _
last_type void tokens.End = refl

pub last_const : IsLast last_const_of const_words
last_const (tokens.Word w) = refl
last_const (tokens.Int n) = refl
last_const (tokens.Label n) = refl
last_const (tokens.Local n) = refl
last_const (tokens.Global n) = refl
last_const (tokens.Str n) = refl
last_const (tokens.CStr n) = refl
last_const (tokens.Meta n) = refl
last_const (tokens.Hash n) = refl
last_const (tokens.Sign c) = either_bracket (nat_eq c 91) (nat_eq c 123) _ _
last_const tokens.End = refl
