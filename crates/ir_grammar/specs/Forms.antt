-- Forms of a grammar. A form is a relation (which lists of tokens it has, each with its value, and what
-- becomes of the names), beside it which lists of tokens exceed a limit at their last token, and the reading of
-- both from left to right with one token in view.
use Rattle.std.specs.Prelude.{◌≡◌, ◌⊎◌, ℕ, zero, suc, Bool, true, false, List, [], ◌∷◌, ◌++◌, length, Result, Ok, Err, if◌then◌else◌}
use Rattle.oi_base.specs.declared.ids.Place.{Place}
use Rattle.ir_lexer.specs.declared.table.Token.{Token}
use Rattle.ir_lexer.specs.declared.table.Spot.{Spot}
use Rattle.ir_grammar.specs.declared.which.Which.{Which}
use Rattle.ir_grammar.specs.Pieces.{Piece, Is, Bad, piece_place}
use Rattle.ir_grammar.specs.Names.{Names}
use Rattle.ir_grammar.specs.Sets.{Set, head_in}

-- what is left to read, and the names so far
pub record Left : Type 0 where
  pub names : Names
  pub tokens : List Piece

pub data Why : Type 0 where
  Refused : Why
  Exceeds : (which : Which) → Why

-- a fault at the first of these tokens
pub record Fault : Type 0 where
  pub at : List Piece
  pub why : Why

abbrev pub Outcome : Type 0 → Type 0
Outcome A = Result (A × Left) Fault

pub record Form (A : Type 0) : Type 1 where
  pub reads : Names → List Piece → A → Names → Type 0
  -- the last of these tokens exceeds this limit, after the others
  pub exceeds : Names → List Piece → Which → Type 0
  pub parse : Left → Outcome A

abbrev pub and_then : {A B : Type 0} → Outcome A → (A → Left → Outcome B) → Outcome B
and_then (Ok r) f = f r.0 r.1
and_then (Err e) f = Err e

-- ---- no token: a value, and the names change

abbrev pub act : {A : Type 0} → (Names → A × Names) → Form A
act h = record {
  reads = λ s u a t. (u ≡ []) × (h s ≡ (a, t));
  exceeds = λ s u w. ⊥;
  parse = λ l. Ok ((h l.names).0, record { names = (h l.names).1; tokens = l.tokens });
}

abbrev pub ret : {A : Type 0} → A → Form A
ret a = act (λ s. (a, s))

-- ---- one token

pub data Verdict (A : Type 0) : Type 0 where
  Takes : (a : A) → Verdict A
  Refuses : Verdict A
  Over : (which : Which) → Verdict A

abbrev pub judged : {A : Type 0} → Verdict A → Names → Spot → List Piece → Outcome A
judged (Takes a) s t ts = Ok (a, record { names = s; tokens = ts })
judged Refuses s t ts = Err (record { at = Is t ∷ ts; why = Refused })
judged (Over w) s t ts = Err (record { at = Is t ∷ ts; why = Exceeds w })

abbrev pub parse_token : {A : Type 0} → (Token → Verdict A) → Names → List Piece → Outcome A
parse_token v s [] = Err (record { at = []; why = Refused })
parse_token v s (Is t ∷ ts) = judged (v t.token) s t ts
parse_token v s (Bad e ∷ ts) = Err (record { at = Bad e ∷ ts; why = Refused })

abbrev pub token : {A : Type 0} → (Token → Verdict A) → Form A
token v = record {
  reads = λ s u a s'. (t : Spot) × (u ≡ Is t ∷ []) × (v t.token ≡ Takes a) × (s ≡ s');
  exceeds = λ s u w. (t : Spot) × (u ≡ Is t ∷ []) × (v t.token ≡ Over w);
  parse = λ l. parse_token v l.names l.tokens;
}

-- ---- one form and then another, which the value may choose

infixl 10 ◌>>=◌
abbrev pub ◌>>=◌ : {A B : Type 0} → Form A → (A → Form B) → Form B
f >>= g = record {
  reads = λ s u b s'. (a : _) × (s1 : Names) × (u1 u2 : List Piece) × (u ≡ u1 ++ u2) × f.reads s u1 a s1 × (g a).reads s1 u2 b s';
  exceeds = λ s u w. f.exceeds s u w ⊎ ((a : _) × (s1 : Names) × (u1 u2 : List Piece) × (u ≡ u1 ++ u2) × f.reads s u1 a s1 × (g a).exceeds s1 u2 w);
  parse = λ l. and_then (f.parse l) (λ a m. (g a).parse m);
}

-- ---- one form or another; the reading takes the first exactly where its first token is in the set

abbrev pub either : {A : Type 0} → Set → Form A → Form A → Form A
either z f g = record {
  reads = λ s u a s'. f.reads s u a s' ⊎ g.reads s u a s';
  exceeds = λ s u w. f.exceeds s u w ⊎ g.exceeds s u w;
  parse = λ l. if head_in z l.tokens then f.parse l else g.parse l;
}

-- one form or another, by a test
abbrev pub choose : {A : Type 0} → Bool → Form A → Form A → Form A
choose true f g = f
choose false f g = g

-- ---- rounds: a form any number of times, and then an end

abbrev pub Rounds : {X Y : Type 0} → (X → Form X) → (X → Form Y) → ℕ → X → Names → List Piece → Y → Names → Type 0
Rounds go stop zero x s u y s' = (stop x).reads s u y s'
Rounds go stop (suc n) x s u y s' = (x1 : _) × (s1 : Names) × (u1 u2 : List Piece) × (u ≡ u1 ++ u2) × (go x).reads s u1 x1 s1 × Rounds go stop n x1 s1 u2 y s'

-- after so many rounds the next one or the end exceeds a limit
abbrev pub RoundsExceed : {X Y : Type 0} → (X → Form X) → (X → Form Y) → ℕ → X → Names → List Piece → Which → Type 0
RoundsExceed go stop zero x s u w = (go x).exceeds s u w ⊎ (stop x).exceeds s u w
RoundsExceed go stop (suc n) x s u w = (x1 : _) × (s1 : Names) × (u1 u2 : List Piece) × (u ≡ u1 ++ u2) × (go x).reads s u1 x1 s1 × RoundsExceed go stop n x1 s1 u2 w

-- with at most so many rounds
unfoldable pub rounds_at : {X Y : Type 0} → (X → Set) → (X → Form X) → (X → Form Y) → ℕ → X → Left → Outcome Y
rounds_at z go stop zero x l = (stop x).parse l
rounds_at z go stop (suc n) x l = if head_in (z x) l.tokens then and_then ((go x).parse l) (λ x1 l1. rounds_at z go stop n x1 l1) else (stop x).parse l

abbrev pub rounds : {X Y : Type 0} → (X → Set) → (X → Form X) → (X → Form Y) → X → Form Y
rounds z go stop x = record {
  reads = λ s u y s'. (n : ℕ) × Rounds go stop n x s u y s';
  exceeds = λ s u w. (n : ℕ) × RoundsExceed go stop n x s u w;
  parse = λ l. rounds_at z go stop (length l.tokens) x l;
}

-- ---- a form with the place of its first token

abbrev pub place_of : List Piece → Place
place_of [] = record { line = 0; column = 0 }
place_of (t ∷ ts) = piece_place t

abbrev pub located : {A : Type 0} → Form A → Form (Place × A)
located f = record {
  reads = λ s u p s'. (p.0 ≡ place_of u) × f.reads s u p.1 s';
  exceeds = f.exceeds;
  parse = λ l. and_then (f.parse l) (λ a m. Ok ((place_of l.tokens, a), m));
}
