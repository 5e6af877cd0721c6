-- Loops that collect what a form gives, or pass it.
use Rattle.std.proofs.Common.{◌≡◌, ◌<◌, Bool, true, false, List, [], ◌∷◌, ◌++◌, length, Result, Ok, Err, refl, sym, ◌∙◌, subst}
use Rattle.ir_phrases.specs.declared.fault.ReadFault.{ReadFault}
use Rattle.ir_phrases.specs.declared.fault.ReadFault.TheVariants as faults
use Rattle.ir_grammar.specs.Sets.{Set, head_in}
use Rattle.ir_grammar.specs.Forms.{Left, Fault, Outcome, Form, and_then, ret, ◌>>=◌, rounds}
use Rattle.ir_grammar.specs.Tokens.{many, skip}
use Rattle.ir_phrases.specs.Gives.{Fails, Gives}
use Rattle.ir_grammar.proofs.FormLaws.{Shape, Law}
use Rattle.ir_grammar.proofs.Rounds.{Shrinks, consumes, goes_on, breaks, stops}

-- a fault of one reading is one of another
pub fails_as : {A B : Type 0} (e : ReadFault) (o : Outcome A) (o2 : Outcome B) → ((d : Fault) → o ≡ Err d → o2 ≡ Err d) → Fails e o → Fails e o2
fails_as faults.NoMemory o o2 h k = tt
fails_as (faults.Lexical f) o o2 h k = (k.0, h k.0 k.1, k.2)
fails_as (faults.Syntax p) o o2 h k = (k.0, h k.0 k.1, k.2)
fails_as (faults.LeftOut p) o o2 h k = (k.0, h k.0 k.1, k.2)
fails_as (faults.Limit p w) o o2 h k = (k.0, h k.0 k.1, k.2)

-- the same of an equal reading
pub gives_as : {A : Type 0} (r : Result A ReadFault) (new : Left) (o o2 : Outcome A) → o2 ≡ o → Gives r new o → Gives r new o2
gives_as r new o o2 e h = subst (λ x. Gives r new x) (sym e) h

-- ---- rounds

pub round_fails : {X Y : Type 0} (p : X → Set) (go : X → Form X) (stop : X → Form Y) (x : X) (l : Left) (e : ReadFault) (o : Outcome Y) → head_in (p x) l.tokens ≡ true → Fails e ((go x).parse l) → (rounds p go stop x).parse l ≡ o → Fails e o
round_fails p go stop x l e o h k so_far = fails_as e ((go x).parse l) o (λ d q. sym so_far ∙ breaks p go stop x l d h q) k

-- ---- many

abbrev collects : {A : Type 0} → Form A → List A → Form (List A)
collects f xs = f >>= λ x. ret (xs ++ x ∷ [])

one : {A : Type 0} (f : Form A) (xs : List A) (l : Left) (o : Outcome A) → f.parse l ≡ o → (collects f xs).parse l ≡ and_then o (λ x m. Ok (xs ++ x ∷ [], m))
one f xs l o e = rw e refl

shrinks : {A : Type 0} {w : Bool} (f : Form A) (z : Shape) → Law w f z → z.empty ≡ false → Shrinks (collects f)
shrinks {A = A} f z law some xs l r e = at (f.parse l) refl
  where
    at : (o : Outcome A) → f.parse l ≡ o → length r.1.tokens < length l.tokens
    at (Ok q) h = let both : Ok (xs ++ q.0 ∷ [], q.1) ≡ Ok r = sym (one f xs l (Ok q) h) ∙ e in
        let lt = consumes f z law some l q h in
        let same : q.1 ≡ r.1 = cc in
        rw (← same) lt
    at (Err d) h = absurd (cc (sym (one f xs l (Err d) h) ∙ e))

pub many_next : {A : Type 0} {w : Bool} (p : Set) (f : Form A) (z : Shape) → Law w f z → z.empty ≡ false → (xs new : List A) (x : A) (l l1 : Left) (o : Outcome (List A)) → head_in p l.tokens ≡ true → f.parse l ≡ Ok (x, l1) → new ≡ xs ++ x ∷ [] → (many p f xs).parse l ≡ o → (many p f new).parse l1 ≡ o
many_next p f z law some xs new x l l1 o h e n so_far =
    rw n (sym (goes_on (λ xs. p) (collects f) (λ xs. ret xs) (shrinks f z law some) xs l (xs ++ x ∷ []) l1 h (one f xs l (Ok (x, l1)) e)) ∙ so_far)

pub many_less : {A : Type 0} {w : Bool} (f : Form A) (z : Shape) → Law w f z → z.empty ≡ false → (x : A) (l l1 : Left) → f.parse l ≡ Ok (x, l1) → length l1.tokens < length l.tokens
many_less f z law some x l l1 e = consumes f z law some l (x, l1) e

pub many_ends : {A : Type 0} (p : Set) (f : Form A) (xs : List A) (l : Left) (o : Outcome (List A)) → head_in p l.tokens ≡ false → (many p f xs).parse l ≡ o → o ≡ Ok (xs, l)
many_ends p f xs l o h so_far = sym so_far ∙ stops (λ xs. p) (collects f) (λ xs. ret xs) xs l h

pub many_fails : {A : Type 0} (p : Set) (f : Form A) (xs : List A) (l : Left) (e : ReadFault) (o : Outcome (List A)) → head_in p l.tokens ≡ true → Fails e (f.parse l) → (many p f xs).parse l ≡ o → Fails e o
many_fails p f xs l e o h k so_far = fails_as e (f.parse l) o (λ d q. sym so_far ∙ breaks (λ xs. p) (collects f) (λ xs. ret xs) xs l d h (one f xs l (Err d) q)) k

-- ---- a loop without values

skip_shrinks : {w : Bool} (f : Form Unit) (z : Shape) → Law w f z → z.empty ≡ false → Shrinks (λ (x : Unit). f)
skip_shrinks f z law some x l r e = consumes f z law some l r e

pub skip_next : {w : Bool} (p : Set) (f : Form Unit) (z : Shape) → Law w f z → z.empty ≡ false → (x : Unit) (l l1 : Left) (o : Outcome Unit) → head_in p l.tokens ≡ true → f.parse l ≡ Ok (x, l1) → (skip p f).parse l ≡ o → (skip p f).parse l1 ≡ o
skip_next p f z law some x l l1 o h e so_far = sym (goes_on (λ (x : Unit). p) (λ x. f) (λ (x : Unit). ret tt) (skip_shrinks f z law some) tt l x l1 h e) ∙ so_far

pub skip_ends : (p : Set) (f : Form Unit) (l : Left) (o : Outcome Unit) → head_in p l.tokens ≡ false → (skip p f).parse l ≡ o → o ≡ Ok (tt, l)
skip_ends p f l o h so_far = sym so_far ∙ stops (λ (x : Unit). p) (λ x. f) (λ (x : Unit). ret tt) tt l h

pub skip_fails : (p : Set) (f : Form Unit) (l : Left) (e : ReadFault) (o : Outcome Unit) → head_in p l.tokens ≡ true → Fails e (f.parse l) → (skip p f).parse l ≡ o → Fails e o
skip_fails p f l e o h k so_far = fails_as e (f.parse l) o (λ d q. sym so_far ∙ breaks (λ (x : Unit). p) (λ x. f) (λ (x : Unit). ret tt) tt l d h q) k

-- ---- rounds with a form of its own a round

pub rounds_next : {X Y : Type 0} {w : Bool} (p : X → Set) (go : X → Form X) (stop : X → Form Y) (z : X → Shape) → ((x : X) → Law w (go x) (z x)) → ((x : X) → (z x).empty ≡ false) → (x x1 : X) (l l1 : Left) (o : Outcome Y) → head_in (p x) l.tokens ≡ true → (go x).parse l ≡ Ok (x1, l1) → (rounds p go stop x).parse l ≡ o → (rounds p go stop x1).parse l1 ≡ o
rounds_next p go stop z law some x x1 l l1 o h e so_far = sym (goes_on p go stop (λ x l r e. consumes (go x) (z x) (law x) (some x) l r e) x l x1 l1 h e) ∙ so_far

pub rounds_end : {X Y : Type 0} (p : X → Set) (go : X → Form X) (stop : X → Form Y) (x : X) (l : Left) (o : Outcome Y) → head_in (p x) l.tokens ≡ false → (rounds p go stop x).parse l ≡ o → o ≡ (stop x).parse l
rounds_end p go stop x l o h so_far = sym so_far ∙ stops p go stop x l h
