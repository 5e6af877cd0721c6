-- Sets of tokens, as data: so that two sets are seen to be apart by computing.
use Rattle.std.specs.Prelude.{ℕ, Bool, true, false, not, nat_eq, nat_lt, length, ◌&&◌, ◌||◌, ◌==◌, List, [], ◌∷◌}
use Rattle.std.specs.List.{list_all}
use Rattle.std.specs.Char.{is_ascii_digit}
use Rattle.std.specs.Str.{bytes_eq}
use Rattle.ir_lexer.specs.declared.table.Token.{Token}
use Rattle.ir_lexer.specs.declared.table.Token.TheVariants as tokens
use Rattle.ir_grammar.specs.declared.kinds.Kind.{Kind}
use Rattle.ir_grammar.specs.declared.kinds.Kind.TheVariants as kinds
use Rattle.ir_grammar.specs.Pieces.{Piece, Is, Bad}

-- one or more digits
abbrev pub are_digits : List ℕ → Bool
are_digits bs = nat_lt 0 (length bs) && list_all is_ascii_digit bs

-- `i` with digits, the name of an integer type
abbrev pub is_integer_type : List ℕ → Bool
is_integer_type [] = false
is_integer_type (b ∷ bs) = (b == 105) && are_digits bs

-- a name of debug information begins with `DI`
abbrev pub is_debug : List ℕ → Bool
is_debug (a ∷ b ∷ bs) = (a == 68) && (b == 73)
is_debug bs = false

abbrev pub kind_if : Bool → Kind → Kind
kind_if true k = k
kind_if false k = kinds.Skipped

-- the kind of a token that is neither a word nor a sign
abbrev pub meta_kind : List ℕ → Kind
meta_kind name = kind_if (not (is_debug name)) kinds.Meta

abbrev pub hash_kind : List ℕ → Kind
hash_kind name = kind_if (are_digits name) kinds.Hash

pub data Item : Type 0 where
  -- this word
  IsWord : (w : List ℕ) → Item
  -- a word that names no integer type and is none of these
  Other : (ws : List (List ℕ)) → Item
  IsSign : (c : ℕ) → Item
  OfKind : (k : Kind) → Item
  -- any token but the end and a name after `@`
  BeforeName : Item
  -- any token
  Any : Item

abbrev pub Set : Type 0
Set = List Item

abbrev pub among : List (List ℕ) → List ℕ → Bool
among [] w = false
among (v ∷ vs) w = bytes_eq w v || among vs w

abbrev pub word_fits : List ℕ → Item → Bool
word_fits w (IsWord v) = bytes_eq w v
word_fits w (Other vs) = not (is_integer_type w || among vs w)
word_fits w (IsSign c) = false
word_fits w (OfKind k) = false
word_fits w BeforeName = true
word_fits w Any = true

abbrev pub sign_fits : ℕ → Item → Bool
sign_fits d (IsSign c) = nat_eq d c
sign_fits d (IsWord v) = false
sign_fits d (Other vs) = false
sign_fits d (OfKind k) = false
sign_fits d BeforeName = true
sign_fits d Any = true

abbrev pub number : Kind → ℕ
number kinds.Int = 0
number kinds.Label = 1
number kinds.Local = 2
number kinds.Global = 3
number kinds.Str = 4
number kinds.CStr = 5
number kinds.Meta = 6
number kinds.Hash = 7
number kinds.Skipped = 8
number kinds.End = 9

abbrev pub same_kind : Kind → Kind → Bool
same_kind k l = nat_eq (number k) (number l)

abbrev pub kind_fits : Kind → Item → Bool
kind_fits k (IsWord v) = false
kind_fits k (Other vs) = false
kind_fits k (IsSign c) = false
kind_fits k (OfKind l) = same_kind k l
kind_fits k BeforeName = not (same_kind k kinds.Global || same_kind k kinds.End)
kind_fits k Any = true

abbrev pub fits : Token → Item → Bool
fits (tokens.Word w) i = word_fits w i
fits (tokens.Sign c) i = sign_fits c i
fits (tokens.Int n) i = kind_fits kinds.Int i
fits (tokens.Label n) i = kind_fits kinds.Label i
fits (tokens.Local n) i = kind_fits kinds.Local i
fits (tokens.Global n) i = kind_fits kinds.Global i
fits (tokens.Str n) i = kind_fits kinds.Str i
fits (tokens.CStr n) i = kind_fits kinds.CStr i
fits (tokens.Meta n) i = kind_fits (meta_kind n) i
fits (tokens.Hash n) i = kind_fits (hash_kind n) i
fits tokens.End i = kind_fits kinds.End i

-- the token is in the set
abbrev pub has : Set → Token → Bool
has [] t = false
has (i ∷ is) t = fits t i || has is t

abbrev pub in_set : Set → Piece → Bool
in_set z (Is s) = has z s.token
in_set z (Bad e) = false

abbrev pub head_in : Set → List Piece → Bool
head_in z [] = false
head_in z (t ∷ ts) = in_set z t

-- no token is in both
abbrev pub item_apart : Item → Item → Bool
item_apart (IsWord v) (IsWord w) = not (bytes_eq v w)
item_apart (IsWord v) (Other ws) = is_integer_type v || among ws v
item_apart (IsWord v) (IsSign c) = true
item_apart (IsWord v) (OfKind k) = true
item_apart (Other vs) (IsWord w) = is_integer_type w || among vs w
item_apart (Other vs) (IsSign c) = true
item_apart (Other vs) (OfKind k) = true
item_apart (IsSign c) (IsWord w) = true
item_apart (IsSign c) (Other ws) = true
item_apart (IsSign c) (IsSign d) = not (nat_eq c d)
item_apart (IsSign c) (OfKind k) = true
item_apart (OfKind k) (IsWord w) = true
item_apart (OfKind k) (Other ws) = true
item_apart (OfKind k) (IsSign d) = true
item_apart (OfKind k) (OfKind l) = not (same_kind k l)
item_apart (OfKind k) BeforeName = same_kind k kinds.Global || same_kind k kinds.End
item_apart BeforeName (OfKind k) = same_kind k kinds.Global || same_kind k kinds.End
item_apart _ _ = false

abbrev pub all_apart : Item → Set → Bool
all_apart i [] = true
all_apart i (j ∷ js) = item_apart i j && all_apart i js

abbrev pub apart : Set → Set → Bool
apart [] z = true
apart (i ∷ is) z = all_apart i z && apart is z

abbrev pub set_if : Bool → Set → Set
set_if true z = z
set_if false z = []
