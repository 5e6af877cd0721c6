-- What single tokens give.
use Rattle.std.proofs.Common.{◌≡◌, ℕ, ℤ, pos, negsuc, Bool, true, false, List, [], ◌∷◌, refl, subst}
use Rattle.std.specs.Prelude.{not, if◌then◌else◌, Option, Some, None}
use Rattle.std.specs.List.{AllByRecursion as Each}
use Rattle.std.specs.Str.{bytes_eq}
use Rattle.ir_lexer.specs.declared.table.Token.{Token}
use Rattle.ir_lexer.specs.declared.table.Token.TheVariants as tokens
use Rattle.ir_grammar.specs.declared.kinds.Kind.{Kind}
use Rattle.ir_grammar.specs.declared.kinds.Kind.TheVariants as kinds
use Rattle.ir_grammar.specs.declared.which.Which.{Which}
use Rattle.ir_grammar.specs.declared.which.Which.TheVariants as limits
use Rattle.ir_grammar.specs.Names.{Names}
use Rattle.ir_grammar.specs.Sets.{are_digits, is_debug, has}
use Rattle.ir_grammar.specs.Forms.{Takes, Over}
use Rattle.ir_grammar.specs.Tokens.{is_past, kind, look, word_of, one_word, text_if, text_of, text, int, in_range, number_of, number, over}
use Rattle.ir_proper.proofs.Kept.{IsClean, CleanToken, Any, Keeps, keeps_token, keeps_any}

-- ---- a word of a table

looked : {A : Type 0} (P : A → Type 0) (table : List (List ℕ × A)) (w : List ℕ) (a : A) → Each (λ (e : List ℕ × A). P e.1) table → look table w ≡ Takes a → P a
looked P [] w a h e = absurd cc
looked {A = A} P (r ∷ rs) w a h e = by (bytes_eq w r.0) e (λ more. looked P rs w a h.1 more)
  where
    by : (c : Bool) → (if c then Takes r.1 else look rs w) ≡ Takes a → (look rs w ≡ Takes a → P a) → P a
    by true f go = let same : r.1 ≡ a = cc in subst P same h.0
    by false f go = go f

pub word_right : {A : Type 0} (P : A → Type 0) (table : List (List ℕ × A)) → Each (λ (e : List ℕ × A). P e.1) table → (t : Token) (a : A) → word_of table t ≡ Takes a → P a
word_right P table h (tokens.Word w) a e = looked P table w a h e
word_right P table h (tokens.Int n) a e = absurd cc
word_right P table h (tokens.Label n) a e = absurd cc
word_right P table h (tokens.Local n) a e = absurd cc
word_right P table h (tokens.Global n) a e = absurd cc
word_right P table h (tokens.Str n) a e = absurd cc
word_right P table h (tokens.CStr n) a e = absurd cc
word_right P table h (tokens.Meta n) a e = absurd cc
word_right P table h (tokens.Hash n) a e = absurd cc
word_right P table h (tokens.Sign n) a e = absurd cc
word_right P table h tokens.End a e = absurd cc

pub keeps_word : {A : Type 0} {b : Bool} {n : Names} {H : Type 0} {P : A → Type 0} (table : List (List ℕ × A)) → (H → Each (λ (e : List ℕ × A). P e.1) table) → Keeps b n H (one_word table) P
keeps_word {P = P} table h = keeps_token (word_of table) (λ g t a c e. word_right P table (h g) t a e)

pub keeps_any_word : {A : Type 0} {b : Bool} {n : Names} {H : Type 0} (table : List (List ℕ × A)) → Keeps b n H (one_word table) Any
keeps_any_word table = keeps_any (word_of table)

-- ---- a name

pub keeps_text : {b : Bool} {n : Names} {H : Type 0} (k : Kind) → Keeps b n H (text k) Any
keeps_text k = keeps_any (text_of k)

clean_if : (name a : List ℕ) (c : Bool) → IsClean name → text_if c name ≡ Takes a → IsClean a
clean_if name a true h e = let same : name ≡ a = cc in subst IsClean same h
clean_if name a false h e = absurd cc

refused_if : {X : Type 0} (name a : List ℕ) (c : Bool) → c ≡ false → text_if c name ≡ Takes a → X
refused_if name a true h e = absurd cc
refused_if name a false h e = absurd cc

meta_global : (n : List ℕ) → has (kind kinds.Global) (tokens.Meta n) ≡ false
meta_global n = at (not (is_debug n)) refl
  where
    at : (c : Bool) → not (is_debug n) ≡ c → has (kind kinds.Global) (tokens.Meta n) ≡ false
    at true e = rw e refl
    at false e = rw e refl

hash_global : (n : List ℕ) → has (kind kinds.Global) (tokens.Hash n) ≡ false
hash_global n = at (are_digits n) refl
  where
    at : (c : Bool) → are_digits n ≡ c → has (kind kinds.Global) (tokens.Hash n) ≡ false
    at true e = rw e refl
    at false e = rw e refl

global_right : (t : Token) (a : List ℕ) → CleanToken t → text_of kinds.Global t ≡ Takes a → IsClean a
global_right (tokens.Global name) a c e = clean_if name a true c e
global_right (tokens.Word w) a c e = absurd cc
global_right (tokens.Int n) a c e = absurd cc
global_right (tokens.Label n) a c e = absurd cc
global_right (tokens.Local n) a c e = absurd cc
global_right (tokens.Str n) a c e = absurd cc
global_right (tokens.CStr n) a c e = absurd cc
global_right (tokens.Meta n) a c e = refused_if n a (has (kind kinds.Global) (tokens.Meta n)) (meta_global n) e
global_right (tokens.Hash n) a c e = refused_if n a (has (kind kinds.Global) (tokens.Hash n)) (hash_global n) e
global_right (tokens.Sign n) a c e = absurd cc
global_right tokens.End a c e = absurd cc

pub keeps_global_text : {b : Bool} {n : Names} {H : Type 0} → Keeps b n H (text kinds.Global) IsClean
keeps_global_text = keeps_token (text_of kinds.Global) (λ g t a c e. global_right t a c e)

-- ---- numbers

pub keeps_int : {b : Bool} {n : Names} {H : Type 0} → Keeps b n H int Any
keeps_int = keeps_any _

-- a number that passes no limit
abbrev pub Within : Option ℕ → ℕ → Type 0
Within most m = is_past most m ≡ false

pos_right : (most : Option ℕ) (m a : ℕ) (c : Bool) → is_past most m ≡ c → (if c then Over limits.Length else Takes m) ≡ Takes a → Within most a
pos_right most m a true h e = absurd cc
pos_right most m a false h e = let same : m ≡ a = cc in subst (Within most) same h

range_right : (most : Option ℕ) (i : ℤ) (a : ℕ) → in_range most i ≡ Takes a → Within most a
range_right most (pos m) a e = pos_right most m a (is_past most m) refl e
range_right None (negsuc m) a e = refl
range_right (Some k) (negsuc m) a e = absurd cc

number_right : (most : Option ℕ) (t : Token) (a : ℕ) → number_of most t ≡ Takes a → Within most a
number_right most (tokens.Int i) a e = range_right most i a e
number_right most (tokens.Word w) a e = absurd cc
number_right most (tokens.Label n) a e = absurd cc
number_right most (tokens.Local n) a e = absurd cc
number_right most (tokens.Global n) a e = absurd cc
number_right most (tokens.Str n) a e = absurd cc
number_right most (tokens.CStr n) a e = absurd cc
number_right most (tokens.Meta n) a e = absurd cc
number_right most (tokens.Hash n) a e = absurd cc
number_right most (tokens.Sign n) a e = absurd cc
number_right most tokens.End a e = absurd cc

pub keeps_number : {b : Bool} {n : Names} {H : Type 0} (most : Option ℕ) → Keeps b n H (number most) (Within most)
keeps_number most = keeps_token (number_of most) (λ g t a c e. number_right most t a e)

pub keeps_any_number : {b : Bool} {n : Names} {H : Type 0} (most : Option ℕ) → Keeps b n H (number most) Any
keeps_any_number most = keeps_any (number_of most)

-- nothing is read
pub keeps_over : {A : Type 0} {b : Bool} {n : Names} {H : Type 0} {P : A → Type 0} (w : Which) → Keeps b n H (over w) P
keeps_over w = keeps_token (λ t. Over w) (λ g t a c e. absurd cc)
