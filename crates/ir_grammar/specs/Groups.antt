-- Groups: a sign that opens, any tokens in which brackets are balanced, and the sign that closes it.
use Rattle.std.specs.Prelude.{◌≡◌, ℕ, nat_eq, Bool, false, List, [], ◌∷◌, Option, Some, None, Ok, Err, if◌then◌else◌, ◌||◌, codes}
use Rattle.std.specs.Str.{bytes_eq}
use Rattle.ir_lexer.specs.declared.table.Token.{Token}
use Rattle.ir_lexer.specs.declared.table.Token.TheVariants as tokens
use Rattle.ir_grammar.specs.Pieces.{Piece, Is, Bad}
use Rattle.ir_grammar.specs.Names.{Names}
use Rattle.ir_grammar.specs.Forms.{Form, Outcome, Refused, ◌>>=◌}
use Rattle.ir_grammar.specs.Tokens.{expect, sign}

abbrev pub sign_awaits : ℕ → List ℕ → ℕ → Option (List ℕ)
sign_awaits a as' c =
    if nat_eq c a then Some as'
    else (if nat_eq c 40 then Some (41 ∷ a ∷ as')
    else (if nat_eq c 91 then Some (93 ∷ a ∷ as')
    else (if nat_eq c 123 then Some (125 ∷ a ∷ as')
    else (if nat_eq c 41 || (nat_eq c 93 || nat_eq c 125) then None else Some (a ∷ as')))))

-- the signs that are awaited after one more token, the next one first; none where the token cannot stand there
abbrev pub token_awaits : ℕ → List ℕ → Token → Option (List ℕ)
token_awaits a as' (tokens.Sign c) = sign_awaits a as' c
token_awaits a as' tokens.End = None
token_awaits a as' t = Some (a ∷ as')

abbrev pub awaits : ℕ → List ℕ → Piece → Option (List ℕ)
awaits a as' (Is s) = token_awaits a as' s.token
awaits a as' (Bad e) = None

-- the tokens up to the last of the awaited signs
abbrev pub Inside : List Piece → List ℕ → Type 0
Inside [] [] = Unit {0}
Inside [] (a ∷ as') = ⊥
Inside (t ∷ ts) [] = ⊥
Inside (t ∷ ts) (a ∷ as') = (next : List ℕ) × (awaits a as' t ≡ Some next) × Inside ts next

abbrev pub is_noinline_word : Token → Bool
is_noinline_word (tokens.Word w) = bytes_eq w (codes "noinline")
is_noinline_word t = false

abbrev pub is_noinline : Piece → Bool
is_noinline (Is s) = is_noinline_word s.token
is_noinline (Bad e) = false

-- the word `noinline` was seen or is one of these tokens
abbrev pub sees_noinline : Bool → List Piece → Bool
sees_noinline b [] = b
sees_noinline b (t ∷ ts) = sees_noinline (b || is_noinline t) ts

abbrev pub fed : Option (List ℕ) → (List ℕ → Outcome Bool) → Outcome Bool → Outcome Bool
fed None go stop = stop
fed (Some x) go stop = go x

unfoldable pub inside_at : List Piece → List ℕ → Bool → Names → Outcome Bool
inside_at ts [] b s = Ok (b, record { names = s; tokens = ts })
inside_at [] (a ∷ as') b s = Err (record { at = []; why = Refused })
inside_at (t ∷ ts) (a ∷ as') b s = fed (awaits a as' t) (λ next. inside_at ts next (b || is_noinline t) s) (Err (record { at = t ∷ ts; why = Refused }))

-- what stands after the sign that opens, with the sign that closes; its value is whether the word `noinline` is in it
abbrev pub inside : ℕ → Form Bool
inside a = record {
  reads = λ s u x s'. Inside u (a ∷ []) × (x ≡ sees_noinline false u) × (s ≡ s');
  exceeds = λ s u w. ⊥;
  parse = λ l. inside_at l.tokens (a ∷ []) false l.names;
}

unfoldable pub group : ℕ → ℕ → Form Bool
group c a = expect (sign c) >>= λ o. inside a
