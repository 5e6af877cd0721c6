-- Rounds, as a loop goes over them.
use Rattle.std.proofs.Common.{◌≡◌, ℕ, ◌≤◌, ◌<◌, zero, suc, Bool, true, false, List, [], ◌∷◌, length, Ok, Err, refl, ap, ◌∙◌, subst, arith}
use Rattle.std.specs.Prelude.{if◌then◌else◌}
use Rattle.std.proofs.lemmas.List.{length-append}
use Rattle.ir_grammar.specs.Pieces.{Piece}
use Rattle.ir_grammar.specs.Sets.{Set, head_in}
use Rattle.ir_grammar.specs.Forms.{Left, Fault, Outcome, Form, and_then, rounds, rounds_at}
use Rattle.ir_grammar.proofs.FormLaws.{Shape, Heads, Law, Traced}

-- a form that has always a token takes one
pub consumes : {A : Type 0} {w : Bool} (f : Form A) (z : Shape) → Law w f z → z.empty ≡ false → (l : Left) (r : A × Left) → f.parse l ≡ Ok r → length r.1.tokens < length l.tokens
consumes {w = w} f z law some l r e =
    let h = subst (λ o. Traced w f l o) e (law.traced l) in
    omega (arith, ap length h.1 ∙ length-append h.0 r.1.tokens, long h.0 (law.heads l.names h.0 r.0 r.1.names h.2))
  where
    long : (u : List Piece) → Heads z u → 0 < length u
    long [] h = absurd (cc (some, h))
    long (t ∷ u) h = omega arith

abbrev pub Shrinks : {X : Type 0} → (X → Form X) → Type 0
Shrinks {X = X} go = (x : X) (l : Left) (r : X × Left) → (go x).parse l ≡ Ok r → length r.1.tokens < length l.tokens

head_none : (z : Set) (ts : List Piece) → length ts ≤ 0 → head_in z ts ≡ false
head_none z [] h = refl
head_none z (t ∷ ts) h = absurd (omega arith)

fuel : {X Y : Type 0} (p : X → Set) (go : X → Form X) (stop : X → Form Y) → Shrinks go → (n m : ℕ) (x : X) (l : Left) → length l.tokens ≤ n → length l.tokens ≤ m → rounds_at p go stop n x l ≡ rounds_at p go stop m x l
unfolding rounds_at
fuel p go stop less zero zero x l h k = refl
fuel p go stop less zero (suc m) x l h k = rw (head_none (p x) l.tokens h) refl
fuel p go stop less (suc n) zero x l h k = rw (head_none (p x) l.tokens k) refl
fuel {X = X} {Y = Y} p go stop less (suc n) (suc m) x l h k = at (λ r a b. fuel p go stop less n m r.0 r.1 a b) (head_in (p x) l.tokens)
  where
    on : ((r : X × Left) → length r.1.tokens ≤ n → length r.1.tokens ≤ m → rounds_at p go stop n r.0 r.1 ≡ rounds_at p go stop m r.0 r.1) → (o : Outcome X) → (go x).parse l ≡ o → and_then o (λ a b. rounds_at p go stop n a b) ≡ and_then o (λ a b. rounds_at p go stop m a b)
    on ih (Ok r) e = let lt = less x l r e in ih r (omega arith) (omega arith)
    on ih (Err d) e = refl

    at : ((r : X × Left) → length r.1.tokens ≤ n → length r.1.tokens ≤ m → rounds_at p go stop n r.0 r.1 ≡ rounds_at p go stop m r.0 r.1) → (b : Bool) → (if b then and_then ((go x).parse l) (λ a b. rounds_at p go stop n a b) else (stop x).parse l) ≡ (if b then and_then ((go x).parse l) (λ a b. rounds_at p go stop m a b) else (stop x).parse l)
    at ih true = on ih ((go x).parse l) refl
    at ih false = refl

first_round : {X Y : Type 0} (p : X → Set) (go : X → Form X) (stop : X → Form Y) (n : ℕ) (x : X) (l : Left) (o : Outcome X) → head_in (p x) l.tokens ≡ true → (go x).parse l ≡ o → length l.tokens ≡ suc n → (rounds p go stop x).parse l ≡ and_then o (λ a b. rounds_at p go stop n a b)
unfolding rounds_at
first_round p go stop n x l o h e k = rw (k, h, e) refl

some_token : (z : Set) (ts : List Piece) → head_in z ts ≡ true → (n : ℕ) × (length ts ≡ suc n)
some_token z [] h = absurd cc
some_token z (t ∷ ts) h = (length ts, omega arith)

pub goes_on : {X Y : Type 0} (p : X → Set) (go : X → Form X) (stop : X → Form Y) → Shrinks go → (x : X) (l : Left) (x1 : X) (l1 : Left) → head_in (p x) l.tokens ≡ true → (go x).parse l ≡ Ok (x1, l1) → (rounds p go stop x).parse l ≡ (rounds p go stop x1).parse l1
goes_on p go stop less x l x1 l1 h e =
    let n = some_token (p x) l.tokens h in
    let lt : length l1.tokens < length l.tokens = less x l (x1, l1) e in
    first_round p go stop n.0 x l (Ok (x1, l1)) h e n.1 ∙ fuel p go stop less n.0 (length l1.tokens) x1 l1 (omega (arith, n.1)) (omega arith)

pub breaks : {X Y : Type 0} (p : X → Set) (go : X → Form X) (stop : X → Form Y) (x : X) (l : Left) (d : Fault) → head_in (p x) l.tokens ≡ true → (go x).parse l ≡ Err d → (rounds p go stop x).parse l ≡ Err d
breaks p go stop x l d h e = let n = some_token (p x) l.tokens h in first_round p go stop n.0 x l (Err d) h e n.1

pub stops : {X Y : Type 0} (p : X → Set) (go : X → Form X) (stop : X → Form Y) (x : X) (l : Left) → head_in (p x) l.tokens ≡ false → (rounds p go stop x).parse l ≡ (stop x).parse l
unfolding rounds_at
stops p go stop x l h = at (length l.tokens)
  where
    at : (n : ℕ) → rounds_at p go stop n x l ≡ (stop x).parse l
    at zero = refl
    at (suc n) = rw h refl
