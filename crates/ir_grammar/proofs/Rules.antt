-- The laws of the ways of making forms, with what the parts determine left out.
use Rattle.std.proofs.Common.{◌≡◌, ℕ, Bool, true, false, ◌||◌, List, [], ◌∷◌, ◌++◌, refl, subst}
use Rattle.std.proofs.lemmas.List.{append-nil}
use Rattle.std.specs.Prelude.{if◌then◌else◌}
use Rattle.std.specs.Str.{bytes_eq}
use Rattle.ir_lexer.specs.declared.table.Token.{Token}
use Rattle.ir_lexer.specs.declared.table.Token.TheVariants as tokens
use Rattle.ir_lexer.specs.declared.table.Spot.{Spot}
use Rattle.ir_grammar.specs.Pieces.{Piece, Is}
use Rattle.ir_grammar.specs.Sets.{Set, Any, has, apart}
use Rattle.ir_grammar.specs.Names.{Names}
use Rattle.ir_grammar.specs.Forms.{Form, act, ret, token, Verdict, Takes, Refuses, Over, ◌>>=◌, either, rounds, located}
use Rattle.ir_grammar.specs.Tokens.{allows, expect, look, words_of, word_of, one_word, many}
use Rattle.ir_grammar.proofs.FormLaws.{Shape, Heads, Starts, Law, Fits, token_shape, start_right, law_act, law_token, law_then, law_either, law_located, after_shape, or_shape}
use Rattle.ir_grammar.proofs.Apart.{in_right}
use Rattle.ir_grammar.proofs.LawsOfRounds.{law_rounds, rounds_shape, rounds_greedy}
use Rattle.ir_grammar.proofs.Within.{within, within_in, within_head}

abbrev pub spot : Token → Spot
spot t = record { token = t; place = record { line = 1; column = 1 } }

abbrev pub begins_with : Set → Shape
begins_with z = record { first = z; greedy = []; empty = false }

abbrev pub goes_on_with : Set → Set → Shape
goes_on_with z y = record { first = z; greedy = y; empty = false }

-- a form that may be empty
abbrev pub maybe : Set → Set → Shape
maybe z y = record { first = z; greedy = y; empty = true }

abbrev pub nothing : Shape
nothing = record { first = []; greedy = []; empty = true }

pub seq : {A B : Type 0} {w : Bool} {f : Form A} {g : A → Form B} {z y : Shape} → Law w f z → ((a : A) → Law w (g a) y) → apart z.greedy y.first ≡ true → Law w (f >>= g) (after_shape z y)
seq lf lg e = law_then _ _ _ _ lf lg e

pub or : {A : Type 0} {w : Bool} {f g : Form A} {z y : Shape} → Law w f z → Law w g y → z.empty ≡ false → apart z.first y.first ≡ true → Law w (either z.first f g) (or_shape z y)
or lf lg some e = law_either _ _ _ _ _ lf lg refl some e

pub again : {X Y : Type 0} {w : Bool} {go : X → Form X} {stop : X → Form Y} {z y : Shape} → ((x : X) → Law w (go x) z) → ((x : X) → Law w (stop x) y) → z.empty ≡ false → apart z.first y.first ≡ true → apart z.greedy z.first ≡ true → apart z.greedy y.first ≡ true → (x : X) → Law w (rounds (λ x. z.first) go stop x) (rounds_shape z y (rounds_greedy z z y))
again {z = z} {y = y} lg ls some e1 e2 e3 x = law_rounds (λ x. z.first) _ _ (λ x. z) (λ x. y) (rounds_greedy z z y) lg ls (λ x. refl) (λ x. some) (λ x. e1) (λ x x2. e2) (λ x x2. e3) (λ x x2 ts h. h) x

pub done : {A : Type 0} {w : Bool} (a : A) → Law w (ret a) nothing
done a = law_act (λ s. (a, s))

pub does : {A : Type 0} {w : Bool} (h : Names → A × Names) → Law w (act h) nothing
does h = law_act h

pub placed : {A : Type 0} {w : Bool} {f : Form A} {z : Shape} → Law w f z → z.empty ≡ false → Law w (located f) z
placed law some = law_located _ _ law some

or_right : (a b : Bool) → b ≡ true → (a || b) ≡ true
or_right true b e = refl
or_right false b e = e

fits_allows : (z : Set) (t : Token) → Fits z t (allows (has z t))
fits_allows z t = at (has z t) refl
  where
    at : (b : Bool) → has z t ≡ b → Fits z t (allows b)
    at true e = e
    at false e = tt

pub expects : {w : Bool} (z : Set) (t : Token) → has z t ≡ true → Law w (expect z) (token_shape z)
expects z t e = law_token _ z (λ q. fits_allows z q) (λ free. (spot t, tt, rw e refl))

pub takes : {A : Type 0} {w : Bool} (v : Token → Verdict A) (z : Set) → ((t : Token) → Fits z t (v t)) → (t : Token) (a : A) → v t ≡ Takes a → Law w (token v) (token_shape z)
takes v z fit t a e = law_token v z fit (λ free. (spot t, a, e))

looked_on : {A : Type 0} (r : List ℕ × A) (table : List (List ℕ × A)) (w : List ℕ) → Fits (words_of table) (tokens.Word w) (look table w) → Fits (words_of (r ∷ table)) (tokens.Word w) (look (r ∷ table) w)
looked_on {A = A} r table w h = at (bytes_eq w r.0) refl
  where
    after : (o : Verdict A) → Fits (words_of table) (tokens.Word w) o → Fits (words_of (r ∷ table)) (tokens.Word w) o
    after (Takes a) h = or_right (bytes_eq w r.0) (has (words_of table) (tokens.Word w)) h
    after Refuses h = tt
    after (Over x) h = or_right (bytes_eq w r.0) (has (words_of table) (tokens.Word w)) h

    at : (b : Bool) → bytes_eq w r.0 ≡ b → Fits {A = A} (words_of (r ∷ table)) (tokens.Word w) (if b then Takes r.1 else look table w)
    at true e = rw e refl
    at false e = after (look table w) h

-- a word that a table has
pub looked : {A : Type 0} (table : List (List ℕ × A)) (w : List ℕ) → Fits (words_of table) (tokens.Word w) (look table w)
looked [] w = tt
looked {A = A} (r ∷ table) w = looked_on r table w (looked table w)

pub law_one_word : {A : Type 0} {free : Bool} (table : List (List ℕ × A)) (w : List ℕ) (a : A) → look table w ≡ Takes a → Law free (one_word table) (token_shape (words_of table))
law_one_word {A = A} table w a e = takes (word_of table) (words_of table) fit (tokens.Word w) a e
  where
    fit : (t : Token) → Fits (words_of table) t (word_of table t)
    fit (tokens.Word n) = looked table n
    fit (tokens.Int n) = tt
    fit (tokens.Label n) = tt
    fit (tokens.Local n) = tt
    fit (tokens.Global n) = tt
    fit (tokens.Str n) = tt
    fit (tokens.CStr n) = tt
    fit (tokens.Meta n) = tt
    fit (tokens.Hash n) = tt
    fit (tokens.Sign n) = tt
    fit tokens.End = tt

-- the same law with other sets, which have all that the sets have
pub shaped : {A : Type 0} {w : Bool} {f : Form A} {z : Shape} → Law w f z → (first greedy : Set) → within z.first first ≡ true → within z.greedy greedy ≡ true → Law w f (record { first = first; greedy = greedy; empty = z.empty })
shaped {z = z} law first greedy e g = record {
  traced = law.traced;
  heads = λ s u a s' r. at u (law.heads s u a s' r);
  whole = λ s u a s' rest r h. law.whole s u a s' rest r (within_head z.greedy greedy rest g h);
  goes = law.goes;
  sample = law.sample;
  excess = law.excess;
  starts = λ s u y r. start u (law.starts s u y r);
  over = law.over;
  closes = λ s u a s' v k x r eq last. let c = law.closes s u a s' v k x r eq last in (λ t. within_in z.greedy greedy (Is t) g (c.0 t), c.1);
}
  where
    start : (u : List Piece) → Starts z.first u → Starts first u
    start [] h = h
    start (t ∷ u) h = within_in z.first first t e h

    at : (u : List Piece) → Heads z u → Heads (record { first = first; greedy = greedy; empty = z.empty }) u
    at [] h = h
    at (t ∷ u) h = within_in z.first first t e h

-- the same law with more tokens with which it would go on
pub going_on : {A : Type 0} {w : Bool} {f : Form A} {z : Shape} → Law w f z → (greedy : Set) → within z.greedy greedy ≡ true → Law w f (record { first = z.first; greedy = greedy; empty = z.empty })
going_on {z = z} law greedy g = record {
  traced = law.traced;
  heads = λ s u a s' r. at u (law.heads s u a s' r);
  whole = λ s u a s' rest r h. law.whole s u a s' rest r (within_head z.greedy greedy rest g h);
  goes = law.goes;
  sample = law.sample;
  excess = law.excess;
  starts = law.starts;
  over = law.over;
  closes = λ s u a s' v k x r eq last. let c = law.closes s u a s' v k x r eq last in (λ t. within_in z.greedy greedy (Is t) g (c.0 t), c.1);
}
  where
    at : (u : List Piece) → Heads z u → Heads (record { first = z.first; greedy = greedy; empty = z.empty }) u
    at [] h = h
    at (t ∷ u) h = h

abbrev pub with_any : Shape → Shape
with_any z = record { first = Any ∷ z.first; greedy = z.greedy; empty = z.empty }

-- the same law where any token counts as one of the first
pub begun_by_any : {A : Type 0} {w : Bool} {f : Form A} {z : Shape} → Law w f z → Law w f (with_any z)
begun_by_any {z = z} law = record {
  traced = law.traced;
  heads = λ s u a s' r. at u (law.heads s u a s' r);
  whole = law.whole;
  goes = law.goes;
  sample = law.sample;
  excess = law.excess;
  starts = λ s u y r. start_right (Any ∷ []) z.first u (law.starts s u y r);
  over = law.over;
  closes = law.closes;
}
  where
    at : (u : List Piece) → Heads z u → Heads (with_any z) u
    at [] h = h
    at (t ∷ u) h = in_right (Any ∷ []) z.first t h

-- what a form gives any number of times
pub collect : {A : Type 0} {w : Bool} {f : Form A} {a g : Set} → Law w f (goes_on_with a g) → apart a [] ≡ true → apart g [] ≡ true → apart g a ≡ true → (xs : List A) → Law w (many a f xs) (maybe a (g ++ a))
collect {A = A} {w = w} {f = f} {a = a} {g = g} law e1 e2 e3 xs = subst (λ q. Law w (many a f xs) (record { first = q; greedy = g ++ a; empty = true })) (append-nil a) (again collects (λ (xs : List A). done xs) refl e1 e3 e2 xs)
  where
    collects : (xs : List A) → Law w (f >>= λ x. ret (xs ++ x ∷ [])) (record { first = a; greedy = g; empty = false })
    collects xs = subst (λ q. Law w (f >>= λ x. ret (xs ++ x ∷ [])) (record { first = q; greedy = g; empty = false })) (append-nil a) (seq law (λ (x : A). done (xs ++ x ∷ [])) e2)
