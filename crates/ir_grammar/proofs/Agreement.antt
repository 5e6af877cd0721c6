-- Two forms that differ in their limits alone agree: they read the same, but where the first exceeds a limit, and there
-- the second reads at least as far. Each way of making forms keeps this.
use Rattle.std.proofs.Common.{◌≡◌, ◌⊎◌, inl, inr, ℕ, ◌≤◌, zero, suc, Bool, true, false, List, [], ◌∷◌, ◌++◌, length, Ok, Err, refl, sym, ap, subst, arith}
use Rattle.std.specs.Prelude.{if◌then◌else◌}
use Rattle.oi_base.specs.declared.ids.Place.{Place}
use Rattle.ir_lexer.specs.declared.table.Token.{Token}
use Rattle.ir_lexer.specs.declared.table.Spot.{Spot}
use Rattle.ir_grammar.specs.declared.which.Which.{Which}
use Rattle.ir_grammar.specs.Pieces.{Piece, Is, Bad}
use Rattle.ir_grammar.specs.Names.{Names}
use Rattle.ir_grammar.specs.Sets.{Set, head_in}
use Rattle.ir_grammar.specs.Forms.{Left, Why, Refused, Exceeds, Outcome, Form, and_then, act, ret, Verdict, Takes, Refuses, Over, token, judged, parse_token, ◌>>=◌, either, rounds, rounds_at, place_of, located}
use Rattle.ir_grammar.specs.Tokens.{expect, sign, many, after_comma, listed}
use Rattle.ir_grammar.proofs.FormLaws.{Shape, Law, after, left, shrinks}
use Rattle.ir_grammar.proofs.Rounds.{consumes}

abbrev pub IsExceeded : Why → Type 0
IsExceeded Refused = ⊥
IsExceeded (Exceeds w) = Unit {0}

-- the first exceeds a limit, the second reads at least as far, and there are so many tokens
abbrev pub Passed : {A : Type 0} → ℕ → Left → Outcome A → Outcome A → Type 0
Passed k l (Ok r) o = ⊥
Passed k l (Err d) o = IsExceeded d.why × (length (after o) ≤ length d.at) × (k ≤ length l.tokens)

abbrev pub Agrees : {A : Type 0} → ℕ → Left → Outcome A → Outcome A → Type 0
Agrees k l o o2 = (o ≡ o2) ⊎ Passed k l o o2

-- with fewer tokens than k no limit is exceeded
pub record Agree {A : Type 0} (k : ℕ) (f g : Form A) : Type 0 where
  pub shrinking : (l : Left) → length (after (g.parse l)) ≤ length l.tokens
  pub agree : (l : Left) → Agrees k l (f.parse l) (g.parse l)

-- the first exceeds a limit at the first token
pub passed_here : {A : Type 0} (k : ℕ) (w : Which) (l : Left) (o o2 : Outcome A) → o ≡ Err (record { at = l.tokens; why = Exceeds w }) → length (after o2) ≤ length l.tokens → k ≤ length l.tokens → Passed k l o o2
passed_here k w l o o2 e h j = rw e (tt, h, j)

-- ---- the same form, and a smaller number

pub agree_same : {A : Type 0} {k : ℕ} {f : Form A} {z : Shape} → Law true f z → Agree k f f
agree_same {f = f} {z = z} law = record { shrinking = λ l. shrinks f z law l; agree = λ l. inl refl }

pub agree_act : {A : Type 0} {k : ℕ} (h : Names → A × Names) → Agree k (act h) (act h)
agree_act h = record { shrinking = λ l. omega arith; agree = λ l. inl refl }

pub agree_ret : {A : Type 0} {k : ℕ} (a : A) → Agree k (ret a) (ret a)
agree_ret a = agree_act (λ s. (a, s))

passed_less : {A : Type 0} (j k : ℕ) (l : Left) (o o2 : Outcome A) → j ≤ k → Passed k l o o2 → Passed j l o o2
passed_less j k l (Ok r) o2 h p = p
passed_less j k l (Err d) o2 h p = (p.0, p.1, omega (arith, p.2))

agrees_less : {A : Type 0} (j k : ℕ) (l : Left) (o o2 : Outcome A) → j ≤ k → Agrees k l o o2 → Agrees j l o o2
agrees_less j k l o o2 h (inl e) = inl e
agrees_less j k l o o2 h (inr p) = inr (passed_less j k l o o2 h p)

pub agree_less : {A : Type 0} {j k : ℕ} {f g : Form A} → Agree k f g → j ≤ k → Agree j f g
agree_less {j = j} {k = k} {f = f} {g = g} h e = record { shrinking = h.shrinking; agree = λ l. agrees_less j k l (f.parse l) (g.parse l) e (h.agree l) }

-- ---- one token

-- the second takes what the first takes
abbrev pub Widens : {A : Type 0} → ℕ → Verdict A → Verdict A → Type 0
Widens k (Takes a) o = Takes a ≡ o
Widens k Refuses o = Refuses ≡ o
Widens k (Over w) o = k ≤ 1

judged_short : {A : Type 0} (o : Verdict A) (s : Names) (t : Spot) (ts : List Piece) → length (after (judged o s t ts)) ≤ suc (length ts)
judged_short (Takes a) s t ts = omega arith
judged_short Refuses s t ts = omega arith
judged_short (Over w) s t ts = omega arith

token_short : {A : Type 0} (v : Token → Verdict A) (s : Names) (ts : List Piece) → length (after (parse_token v s ts)) ≤ length ts
token_short v s [] = omega arith
token_short v s (Bad b ∷ ts) = omega arith
token_short v s (Is t ∷ ts) = judged_short (v t.token) s t ts

judged_agree : {A : Type 0} (k : ℕ) (o o2 : Verdict A) (s : Names) (t : Spot) (ts : List Piece) → Widens k o o2 → Agrees k (left s (Is t ∷ ts)) (judged o s t ts) (judged o2 s t ts)
judged_agree k (Takes a) o2 s t ts h = inl (ap (λ o. judged o s t ts) h)
judged_agree k Refuses o2 s t ts h = inl (ap (λ o. judged o s t ts) h)
judged_agree k (Over w) o2 s t ts h = inr (tt, judged_short o2 s t ts, omega (arith, h))

pub agree_token : {A : Type 0} {k : ℕ} (v v2 : Token → Verdict A) → ((t : Token) → Widens k (v t) (v2 t)) → Agree k (token v) (token v2)
agree_token {A = A} {k = k} v v2 h = record { shrinking = λ l. token_short v2 l.names l.tokens; agree = λ l. at l.names l.tokens }
  where
    at : (s : Names) (ts : List Piece) → Agrees k (left s ts) (parse_token v s ts) (parse_token v2 s ts)
    at s [] = inl refl
    at s (Bad b ∷ ts) = inl refl
    at s (Is t ∷ ts) = judged_agree k (v t.token) (v2 t.token) s t ts (h t.token)

pub agree_one : {A : Type 0} {k : ℕ} (v : Token → Verdict A) → Agree k (token v) (token v)
agree_one v = record { shrinking = λ l. token_short v l.names l.tokens; agree = λ l. inl refl }

pub agree_expect : {k : ℕ} (z : Set) → Agree k (expect z) (expect z)
agree_expect z = agree_one _

-- ---- one form and then another

and_short : {A B : Type 0} (k : ℕ) (g g2 : A → Form B) → ((a : A) → Agree k (g a) (g2 a)) → (o : Outcome A) (n : ℕ) → length (after o) ≤ n → length (after (and_then o (λ a m. (g2 a).parse m))) ≤ n
and_short k g g2 h (Ok r) n e = omega (arith, (h r.0).shrinking r.1)
and_short k g g2 h (Err d) n e = e

passed_from : {A : Type 0} (j k : ℕ) (l m : Left) (o o2 : Outcome A) → (j ≤ length m.tokens → k ≤ length l.tokens) → Passed j m o o2 → Passed k l o o2
passed_from j k l m (Ok r) o2 h p = p
passed_from j k l m (Err d) o2 h p = (p.0, p.1, h p.2)

agrees_from : {A : Type 0} (j k : ℕ) (l m : Left) (o o2 : Outcome A) → (j ≤ length m.tokens → k ≤ length l.tokens) → Agrees j m o o2 → Agrees k l o o2
agrees_from j k l m o o2 h (inl e) = inl e
agrees_from j k l m o o2 h (inr p) = inr (passed_from j k l m o o2 h p)

pub agree_then : {A B : Type 0} {k : ℕ} {f f2 : Form A} {g g2 : A → Form B} → Agree k f f2 → ((a : A) → Agree k (g a) (g2 a)) → Agree k (f >>= g) (f2 >>= g2)
agree_then {A = A} {B = B} {k = k} {f = f} {f2 = f2} {g = g} {g2 = g2} hf hg = record {
  shrinking = λ l. and_short k g g2 hg (f2.parse l) (length l.tokens) (hf.shrinking l);
  agree = λ l. at l (f.parse l) (f2.parse l) (hf.shrinking l) (hf.agree l);
}
  where
    at : (l : Left) (o o2 : Outcome A) → length (after o2) ≤ length l.tokens → Agrees k l o o2 → Agrees k l (and_then o (λ a m. (g a).parse m)) (and_then o2 (λ a m. (g2 a).parse m))
    at l (Ok r) o2 short (inl e) =
        let less = subst (λ q. length (after q) ≤ length l.tokens) (sym e) short in
        subst (λ q. Agrees k l ((g r.0).parse r.1) (and_then q (λ a m. (g2 a).parse m))) e (agrees_from k k l r.1 ((g r.0).parse r.1) ((g2 r.0).parse r.1) (λ e2. omega (arith, e2, less)) ((hg r.0).agree r.1))
    at l (Ok r) o2 short (inr p) = absurd p
    at l (Err d) o2 short (inl e) = inl (ap (λ q. and_then q (λ a m. (g2 a).parse m)) e)
    at l (Err d) o2 short (inr p) = inr (p.0, and_short k g g2 hg o2 (length d.at) p.1, p.2)

-- after a form that takes a token
pub agree_deeper : {A B : Type 0} {k : ℕ} {f : Form A} {z : Shape} {g g2 : A → Form B} → Law true f z → z.empty ≡ false → ((a : A) → Agree k (g a) (g2 a)) → Agree (suc k) (f >>= g) (f >>= g2)
agree_deeper {A = A} {B = B} {k = k} {f = f} {z = z} {g = g} {g2 = g2} law some hg = record {
  shrinking = λ l. and_short k g g2 hg (f.parse l) (length l.tokens) (shrinks f z law l);
  agree = λ l. at l (f.parse l) refl;
}
  where
    at : (l : Left) (o : Outcome A) → f.parse l ≡ o → Agrees (suc k) l (and_then o (λ a m. (g a).parse m)) (and_then o (λ a m. (g2 a).parse m))
    at l (Ok r) e = agrees_from k (suc k) l r.1 ((g r.0).parse r.1) ((g2 r.0).parse r.1) (λ e2. omega (arith, e2, consumes f z law some l r e)) ((hg r.0).agree r.1)
    at l (Err d) e = inl refl

-- ---- one form or another

pub agree_either : {A : Type 0} {k : ℕ} (x : Set) {f f2 g g2 : Form A} → Agree k f f2 → Agree k g g2 → Agree k (either x f g) (either x f2 g2)
agree_either {A = A} {k = k} x {f = f} {f2 = f2} {g = g} {g2 = g2} hf hg = record { shrinking = λ l. short l (head_in x l.tokens); agree = λ l. at l (head_in x l.tokens) }
  where
    short : (l : Left) (b : Bool) → length (after (if b then f2.parse l else g2.parse l)) ≤ length l.tokens
    short l true = hf.shrinking l
    short l false = hg.shrinking l

    at : (l : Left) (b : Bool) → Agrees k l (if b then f.parse l else g.parse l) (if b then f2.parse l else g2.parse l)
    at l true = hf.agree l
    at l false = hg.agree l

-- ---- rounds

pub agree_rounds : {X Y : Type 0} {k : ℕ} (p : X → Set) {go go2 : X → Form X} {stop stop2 : X → Form Y} → ((x : X) → Agree k (go x) (go2 x)) → ((x : X) → Agree k (stop x) (stop2 x)) → (x : X) → Agree k (rounds p go stop x) (rounds p go2 stop2 x)
unfolding rounds_at
agree_rounds {X = X} {Y = Y} {k = k} p {go = go} {go2 = go2} {stop = stop} {stop2 = stop2} hg hs x = record { shrinking = λ l. short (length l.tokens) x l; agree = λ l. at (length l.tokens) x l }
  where
    short : (n : ℕ) (x : X) (l : Left) → length (after (rounds_at p go2 stop2 n x l)) ≤ length l.tokens
    short zero x l = (hs x).shrinking l
    short (suc n) x l = choose (λ r. short n r.0 r.1) (head_in (p x) l.tokens)
      where
        on : ((r : X × Left) → length (after (rounds_at p go2 stop2 n r.0 r.1)) ≤ length r.1.tokens) → (o : Outcome X) → length (after o) ≤ length l.tokens → length (after (and_then o (λ a m. rounds_at p go2 stop2 n a m))) ≤ length l.tokens
        on ih (Ok r) e = omega (arith, ih r, e)
        on ih (Err d) e = e

        choose : ((r : X × Left) → length (after (rounds_at p go2 stop2 n r.0 r.1)) ≤ length r.1.tokens) → (b : Bool) → length (after (if b then and_then ((go2 x).parse l) (λ a m. rounds_at p go2 stop2 n a m) else (stop2 x).parse l)) ≤ length l.tokens
        choose ih true = on ih ((go2 x).parse l) ((hg x).shrinking l)
        choose ih false = (hs x).shrinking l

    past : (n : ℕ) (o : Outcome X) (m : ℕ) → length (after o) ≤ m → length (after (and_then o (λ a m. rounds_at p go2 stop2 n a m))) ≤ m
    past n (Ok r) m e = omega (arith, short n r.0 r.1, e)
    past n (Err d) m e = e

    at : (n : ℕ) (x : X) (l : Left) → Agrees k l (rounds_at p go stop n x l) (rounds_at p go2 stop2 n x l)
    at zero x l = (hs x).agree l
    at (suc n) x l = choose (λ r. at n r.0 r.1) (head_in (p x) l.tokens)
      where
        on : ((r : X × Left) → Agrees k r.1 (rounds_at p go stop n r.0 r.1) (rounds_at p go2 stop2 n r.0 r.1)) → (o o2 : Outcome X) → length (after o2) ≤ length l.tokens → Agrees k l o o2 → Agrees k l (and_then o (λ a m. rounds_at p go stop n a m)) (and_then o2 (λ a m. rounds_at p go2 stop2 n a m))
        on ih (Ok r) o2 less (inl e) =
            let fewer = subst (λ q. length (after q) ≤ length l.tokens) (sym e) less in
            subst (λ q. Agrees k l (rounds_at p go stop n r.0 r.1) (and_then q (λ a m. rounds_at p go2 stop2 n a m))) e (agrees_from k k l r.1 (rounds_at p go stop n r.0 r.1) (rounds_at p go2 stop2 n r.0 r.1) (λ e2. omega (arith, e2, fewer)) (ih r))
        on ih (Ok r) o2 less (inr q) = absurd q
        on ih (Err d) o2 less (inl e) = inl (ap (λ q. and_then q (λ a m. rounds_at p go2 stop2 n a m)) e)
        on ih (Err d) o2 less (inr q) = inr (q.0, past n o2 (length d.at) q.1, q.2)

        choose : ((r : X × Left) → Agrees k r.1 (rounds_at p go stop n r.0 r.1) (rounds_at p go2 stop2 n r.0 r.1)) → (b : Bool) → Agrees k l (if b then and_then ((go x).parse l) (λ a m. rounds_at p go stop n a m) else (stop x).parse l) (if b then and_then ((go2 x).parse l) (λ a m. rounds_at p go2 stop2 n a m) else (stop2 x).parse l)
        choose ih true = on ih ((go x).parse l) ((go2 x).parse l) ((hg x).shrinking l) ((hg x).agree l)
        choose ih false = (hs x).agree l

-- ---- a form with its place

pub agree_located : {A : Type 0} {k : ℕ} {f g : Form A} → Agree k f g → Agree k (located f) (located g)
agree_located {A = A} {k = k} {f = f} {g = g} h = record { shrinking = λ l. short l (g.parse l) (h.shrinking l); agree = λ l. at l (f.parse l) (g.parse l) (h.agree l) }
  where
    short : (l : Left) (o : Outcome A) → length (after o) ≤ length l.tokens → length (after {A = Place × A} (and_then o (λ a m. Ok ((place_of l.tokens, a), m)))) ≤ length l.tokens
    short l (Ok r) e = e
    short l (Err d) e = e

    past : (l : Left) (o : Outcome A) (n : ℕ) → length (after o) ≤ n → length (after {A = Place × A} (and_then o (λ a m. Ok ((place_of l.tokens, a), m)))) ≤ n
    past l (Ok r) n e = e
    past l (Err d) n e = e

    at : (l : Left) (o o2 : Outcome A) → Agrees k l o o2 → Agrees {A = Place × A} k l (and_then o (λ a m. Ok ((place_of l.tokens, a), m))) (and_then o2 (λ a m. Ok ((place_of l.tokens, a), m)))
    at l o o2 (inl e) = inl (ap (λ q. and_then q (λ a m. Ok ((place_of l.tokens, a), m))) e)
    at l (Ok r) o2 (inr p) = absurd p
    at l (Err d) o2 (inr p) = inr (p.0, past l o2 (length d.at) p.1, p.2)

-- ---- lists

pub agree_after_comma : {A : Type 0} {k : ℕ} {f g : Form A} → Agree k f g → Agree k (after_comma f) (after_comma g)
agree_after_comma h = agree_then (agree_expect (sign 44)) (λ (c : Unit). h)

pub agree_many : {A : Type 0} {k : ℕ} (z : Set) {f g : Form A} → Agree k f g → (xs : List A) → Agree k (many z f xs) (many z g xs)
agree_many {A = A} z h xs = agree_rounds (λ xs. z) (λ (xs : List A). agree_then h (λ (x : A). agree_ret (xs ++ x ∷ []))) (λ (xs : List A). agree_ret xs) xs

pub agree_listed : {A : Type 0} {k : ℕ} (z : Set) {f g : Form A} → Agree k f g → Agree k (listed z f) (listed z g)
agree_listed {A = A} z h = agree_either z (agree_then h (λ (a : A). agree_many (sign 44) (agree_after_comma h) (a ∷ []))) (agree_ret [])
