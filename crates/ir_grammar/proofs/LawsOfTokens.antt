-- The laws of forms of one token, and of lists.
use Rattle.std.proofs.Common.{◌≡◌, ℕ, ℤ, pos, Bool, true, false, nat_lt, List, [], ◌∷◌, ◌++◌, refl, subst, arith}
use Rattle.std.proofs.lemmas.Bool.Decides.{nat_tests}
use Rattle.std.proofs.lemmas.List.{append-nil}
use Rattle.std.specs.Prelude.{Option, Some, None}
use Rattle.ir_lexer.specs.declared.table.Token.{Token}
use Rattle.ir_lexer.specs.declared.table.Token.TheVariants as tokens
use Rattle.ir_grammar.specs.declared.kinds.Kind.{Kind}
use Rattle.ir_grammar.specs.declared.kinds.Kind.TheVariants as kinds
use Rattle.ir_grammar.specs.declared.which.Which.{Which}
use Rattle.ir_grammar.specs.Sets.{Set, has, apart}
use Rattle.ir_grammar.specs.Forms.{Form, Verdict, Takes, Refuses, Over, ◌>>=◌}
use Rattle.ir_grammar.specs.Tokens.{expect, sign, word, kind, text_if, text_of, text, bytes_of, int_of, int, in_range, number_of, number, over, skip, many, after_comma, listed}
use Rattle.ir_grammar.proofs.FormLaws.{Shape, Law, Fits, token_shape, law_token}
use Rattle.ir_grammar.proofs.Rules.{begins_with, goes_on_with, maybe, seq, or, again, done, expects, takes, collect}

pub is_sign : {w : Bool} (c : ℕ) → has (sign c) (tokens.Sign c) ≡ true → Law w (expect (sign c)) (begins_with (sign c))
is_sign c e = expects (sign c) (tokens.Sign c) e

pub is_word : {w : Bool} (v : List ℕ) → has (word v) (tokens.Word v) ≡ true → Law w (expect (word v)) (begins_with (word v))
is_word v e = expects (word v) (tokens.Word v) e

text_fits : (z : Set) (t : Token) (n : List ℕ) → Fits z t (text_if (has z t) n)
text_fits z t n = at (has z t) refl
  where
    at : (b : Bool) → has z t ≡ b → Fits z t (text_if b n)
    at true e = e
    at false e = tt

text_given : (b : Bool) (n : List ℕ) → b ≡ true → text_if b n ≡ Takes n
text_given true n e = refl
text_given false n e = absurd cc

pub law_text : {w : Bool} (k : Kind) (t : Token) → has (kind k) t ≡ true → Law w (text k) (token_shape (kind k))
law_text k t e = takes (text_of k) (kind k) (λ q. text_fits (kind k) q (bytes_of q)) t (bytes_of t) (text_given (has (kind k) t) (bytes_of t) e)

pub law_int : {w : Bool} → Law w int (begins_with (kind kinds.Int))
law_int = takes int_of (kind kinds.Int) fit (tokens.Int (pos 0)) (pos 0) refl
  where
    fit : (t : Token) → Fits (kind kinds.Int) t (int_of t)
    fit (tokens.Int n) = refl
    fit (tokens.Word n) = tt
    fit (tokens.Label n) = tt
    fit (tokens.Local n) = tt
    fit (tokens.Global n) = tt
    fit (tokens.Str n) = tt
    fit (tokens.CStr n) = tt
    fit (tokens.Meta n) = tt
    fit (tokens.Hash n) = tt
    fit (tokens.Sign n) = tt
    fit tokens.End = tt

zero_in_range : (most : Option ℕ) → in_range most (pos 0) ≡ Takes 0
zero_in_range None = refl
zero_in_range (Some m) = let e : nat_lt m 0 ≡ false = grind (arith, nat_tests) in rw e refl

-- an integer fits whatever is said of it
int_fits : (n : ℤ) (o : Verdict ℕ) → Fits (kind kinds.Int) (tokens.Int n) o
int_fits n (Takes a) = refl
int_fits n Refuses = tt
int_fits n (Over w) = refl

pub law_number : {w : Bool} (most : Option ℕ) → Law w (number most) (begins_with (kind kinds.Int))
law_number most = takes (number_of most) (kind kinds.Int) fit (tokens.Int (pos 0)) 0 (zero_in_range most)
  where
    fit : (t : Token) → Fits (kind kinds.Int) t (number_of most t)
    fit (tokens.Int n) = int_fits n (in_range most n)
    fit (tokens.Word n) = tt
    fit (tokens.Label n) = tt
    fit (tokens.Local n) = tt
    fit (tokens.Global n) = tt
    fit (tokens.Str n) = tt
    fit (tokens.CStr n) = tt
    fit (tokens.Meta n) = tt
    fit (tokens.Hash n) = tt
    fit (tokens.Sign n) = tt
    fit tokens.End = tt

-- what exceeds a limit has no text, and any token does so
pub law_over : {A : Type 0} {w : Bool} (which : Which) (z : Shape) → w ≡ false → ((t : Token) → has z.first t ≡ true) → Law w (over {A = A} which) z
law_over {A = A} {w = w} which z e any = record {
  traced = law.traced;
  heads = λ s u a s' r. absurd (never a r.2);
  whole = λ s u a s' rest r n. absurd (never a r.2);
  goes = law.goes;
  sample = law.sample;
  excess = law.excess;
  starts = law.starts;
  over = law.over;
  closes = λ s u a s' v k x r eq last. absurd (never a r.2);
}
  where
    law : Law w (over {A = A} which) (token_shape z.first)
    law = law_token _ z.first (λ q. any q) (λ free. absurd (cc (e, free)))

    never : (a : A) → Over which ≡ Takes a → ⊥
    never a h = cc

pub law_skip : {w : Bool} {f : Form Unit} {z g : Set} → Law w f (goes_on_with z g) → apart z [] ≡ true → apart g z ≡ true → apart g [] ≡ true → Law w (skip z f) (maybe (z ++ []) (g ++ z))
law_skip law e1 e2 e3 = again (λ (x : Unit). law) (λ (x : Unit). done tt) refl e1 e2 e3 tt

pub law_after_comma : {A : Type 0} {w : Bool} {f : Form A} {z g : Set} → Law w f (goes_on_with z g) → Law w (after_comma f) (goes_on_with (sign 44) (g ++ []))
law_after_comma law = seq (is_sign 44 refl) (λ (c : Unit). law) refl

pub law_listed : {A : Type 0} {w : Bool} {f : Form A} {z : Set} → Law w f (begins_with z) → apart z [] ≡ true → Law w (listed z f) (maybe (z ++ []) (sign 44 ++ z))
law_listed {A = A} {w = w} {f = f} {z = z} law e =
    or (subst (λ q. Law w (f >>= λ a. many (sign 44) (after_comma f) (a ∷ [])) (goes_on_with q (sign 44))) (append-nil z) (seq law (λ (a : A). collect (law_after_comma law) refl refl refl (a ∷ [])) refl)) (done []) refl e
