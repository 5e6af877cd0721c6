-- Rounds keep the laws of their forms.
use Rattle.std.proofs.Common.{◌≡◌, ◌⊎◌, inl, inr, ℕ, ◌≤◌, ◌<◌, zero, suc, Bool, true, false, List, [], ◌∷◌, ◌++◌, length, Ok, Err, refl, sym, ap, ◌∙◌, subst, append_assoc, arith}
use Rattle.std.specs.Prelude.{if◌then◌else◌}
use Rattle.std.proofs.lemmas.List.{length-append}
use Rattle.ir_lexer.specs.declared.table.Spot.{Spot}
use Rattle.ir_grammar.specs.declared.which.Which.{Which}
use Rattle.ir_grammar.specs.Pieces.{Piece, Is, is_last}
use Rattle.ir_grammar.specs.Sets.{Set, in_set, head_in, apart, set_if}
use Rattle.ir_grammar.specs.Names.{Names}
use Rattle.ir_grammar.specs.Forms.{Left, Exceeds, Outcome, Form, and_then, Rounds, RoundsExceed, rounds, rounds_at}
use Rattle.ir_grammar.proofs.Apart.{or_true, in_append, not_in_first, head_append, head_set_if, in_left, in_right}
use Rattle.ir_grammar.proofs.FormLaws.{Shape, Heads, after, left, Traced, Starts, Faulted, Closes, Law, split, away, away_all, away_start, start_left, start_right, no_start, faulted_as, nothing_after, begins, begins_at, starts_at}

abbrev pub rounds_greedy : Shape → Shape → Shape → Set
rounds_greedy before z y = y.greedy ++ set_if y.empty (before.greedy ++ z.first)

abbrev pub rounds_shape : Shape → Shape → Set → Shape
rounds_shape z y greedy = record {
  first = z.first ++ y.first;
  greedy = greedy;
  empty = y.empty;
}

same_head : (x : Set) (w : List Piece) (t : Piece) (v rest : List Piece) → head_in x ((w ++ t ∷ v) ++ []) ≡ head_in x (w ++ t ∷ rest)
same_head x [] t v rest = refl
same_head x (q ∷ w) t v rest = refl

-- a token with which none goes on where the other set lets none
passed_on : (x y : Set) (t : Spot) → (head_in y (Is t ∷ []) ≡ false → head_in x (Is t ∷ []) ≡ false) → in_set x (Is t) ≡ true → in_set y (Is t) ≡ true
passed_on x y t h e = at (in_set y (Is t)) h
  where
    at : (b : Bool) → (b ≡ false → in_set x (Is t) ≡ false) → b ≡ true
    at true k = refl
    at false k = absurd (cc (k refl, e))

pub law_rounds : {X Y : Type 0} {free : Bool} (p : X → Set) (go : X → Form X) (stop : X → Form Y) (z y : X → Shape) (greedy : Set) → ((x : X) → Law free (go x) (z x)) → ((x : X) → Law free (stop x) (y x)) → ((x : X) → p x ≡ (z x).first) → ((x : X) → (z x).empty ≡ false) → ((x : X) → apart (z x).first (y x).first ≡ true) → ((x x2 : X) → apart (z x).greedy (z x2).first ≡ true) → ((x x2 : X) → apart (z x).greedy (y x2).first ≡ true) → ((x x2 : X) (ts : List Piece) → head_in greedy ts ≡ false → head_in (rounds_greedy (z x2) (z x) (y x)) ts ≡ false) → (x : X) → Law free (rounds p go stop x) (rounds_shape (z x) (y x) greedy)
unfolding rounds_at
law_rounds {X = X} {Y = Y} {free = free} p go stop z y greedy lg ls same some e1 e2 e3 all x = record {
  traced = λ l. traces (length l.tokens) x l;
  heads = λ s u b s' r. headed r.0 x s u b s' r.1;
  whole = λ s u b s' rest r n. wholes r.0 (length (u ++ rest)) x s u b s' rest r.1 n (omega arith);
  goes = λ s u t v b s' rest r. goes_on r.0 (length (u ++ t ∷ rest)) x s u t v b s' rest r.1 (omega arith);
  sample = λ k s. let q = (ls x).sample k s in (q.0, q.1, q.2, (0, q.3));
  excess = λ l. excesses (length l.tokens) x l;
  starts = λ s u w r. started r.0 x s u w r.1;
  over = λ s u t w rest r. overs r.0 (length (u ++ Is t ∷ rest)) x s u t w rest r.1 (omega arith);
  closes = λ s u b s' v e k r eq last. closing r.0 x s u b s' v e k r.1 eq last;
}
  where
    right : (x : X) (u : List Piece) → Heads (y x) u → Heads (rounds_shape (z x) (y x) greedy) u
    right x [] h = h
    right x (t ∷ u) h = in_right (z x).first (y x).first t h

    lefts : (x : X) (u w : List Piece) → Heads (z x) u → Heads (rounds_shape (z x) (y x) greedy) (u ++ w)
    lefts x [] w h = absurd (cc (some x))
    lefts x (t ∷ u) w h = in_left (z x).first (y x).first t h

    headed : (n : ℕ) (x : X) (s : Names) (u : List Piece) (b : Y) (s' : Names) → Rounds go stop n x s u b s' → Heads (rounds_shape (z x) (y x) greedy) u
    headed zero x s u b s' r = right x u ((ls x).heads s u b s' r)
    headed (suc n) x s u b s' r = rw r.4 (lefts x r.2 r.3 ((lg x).heads s r.2 r.0 r.1 r.5))

    to_stop : (x : X) (l : Left) (o : Outcome Y) → Traced free (stop x) l o → Traced free (rounds p go stop x) l o
    to_stop x l (Ok r) h = (h.0, h.1, (0, h.2))
    to_stop x l (Err d) h = (h.0, h.1, λ k. let c = h.2 k in (c.0, c.1, c.2, (0, c.3)))

    traces : (n : ℕ) (x : X) (l : Left) → Traced free (rounds p go stop x) l (rounds_at p go stop n x l)
    traces zero x l = to_stop x l ((stop x).parse l) ((ls x).traced l)
    traces (suc n) x l = choose (λ r. traces n r.0 r.1) (head_in (p x) l.tokens)
      where
        second : (r : X × Left) → Traced free (go x) l (Ok r) → (o : Outcome Y) → Traced free (rounds p go stop r.0) r.1 o → Traced free (rounds p go stop x) l o
        second r h (Ok q) k = (h.0 ++ k.0, h.1 ∙ ap (λ x. h.0 ++ x) k.1 ∙ sym (append_assoc h.0 k.0 q.1.tokens), (suc k.2.0, (r.0, r.1.names, h.0, k.0, refl, h.2, k.2.1)))
        second r h (Err d) k = (h.0 ++ k.0, h.1 ∙ ap (λ x. h.0 ++ x) k.1 ∙ sym (append_assoc h.0 k.0 d.at), λ f. let c = k.2 f in (c.0, c.1, c.2, (suc c.3.0, (r.0, r.1.names, h.0, k.0 ++ c.0, append_assoc h.0 k.0 c.0, h.2, c.3.1))))

        go_first : ((r : X × Left) → Traced free (rounds p go stop r.0) r.1 (rounds_at p go stop n r.0 r.1)) → (o : Outcome X) → Traced free (go x) l o → Traced free (rounds p go stop x) l (and_then o (λ x1 l1. rounds_at p go stop n x1 l1))
        go_first ih (Ok r) h = second r h (rounds_at p go stop n r.0 r.1) (ih r)
        go_first ih (Err d) h = (
          h.0,
          h.1,
          λ f.
              let c = h.2 f in
              let q = (ls c.1).sample f c.2 in
              (c.0 ++ q.0, q.1, q.2, (1, (c.1, c.2, h.0 ++ c.0, q.0, sym (append_assoc h.0 c.0 q.0), c.3, q.3))),
        )

        choose : ((r : X × Left) → Traced free (rounds p go stop r.0) r.1 (rounds_at p go stop n r.0 r.1)) → (b : Bool) → Traced free (rounds p go stop x) l (if b then and_then ((go x).parse l) (λ x1 l1. rounds_at p go stop n x1 l1) else (stop x).parse l)
        choose ih true = go_first ih ((go x).parse l) ((lg x).traced l)
        choose ih false = to_stop x l ((stop x).parse l) ((ls x).traced l)

    on_stop : (n : ℕ) (x : X) (s : Names) (ts : List Piece) → head_in (z x).first ts ≡ false → rounds_at p go stop n x (left s ts) ≡ (stop x).parse (left s ts)
    on_stop zero x s ts h = refl
    on_stop (suc n) x s ts h = let k : head_in (p x) ts ≡ false = rw (same x) h in rw k refl

    on_go : (n : ℕ) (x : X) (s : Names) (ts : List Piece) → head_in (z x).first ts ≡ true → rounds_at p go stop (suc n) x (left s ts) ≡ and_then ((go x).parse (left s ts)) (λ x1 l1. rounds_at p go stop n x1 l1)
    on_go n x s ts h = let k : head_in (p x) ts ≡ true = rw (same x) h in rw k refl

    -- what follows a round isn't a token with which the round would go on
    next : (n : ℕ) (x : X) (s : Names) (u : List Piece) (b : Y) (s' : Names) (rest : List Piece) → Rounds go stop n x s u b s' → (x0 : X) → ((x : X) → (y x).empty ≡ true → head_in (z x0).greedy rest ≡ false) → head_in (z x0).greedy (u ++ rest) ≡ false
    next zero x s u b s' rest r x0 n = away_all (z x0).greedy (y x) u rest (e3 x0 x) ((ls x).heads s u b s' r) (n x)
    next (suc m) x s u b s' rest r x0 n = rw r.4 (first r.2 ((lg x).heads s r.2 r.0 r.1 r.5))
      where
        first : (w : List Piece) → Heads (z x) w → head_in (z x0).greedy ((w ++ r.3) ++ rest) ≡ false
        first [] h = absurd (cc (some x))
        first (q ∷ w) h = not_in_first (z x0).greedy (z x).first q (e2 x0 x) h

    longer : (x : X) (u w : List Piece) → Heads (z x) u → length w < length (u ++ w)
    longer x [] w h = absurd (cc (some x))
    longer x (q ∷ u) w h = omega (arith, length-append u w)

    wholes : (k n : ℕ) (x : X) (s : Names) (u : List Piece) (b : Y) (s' : Names) (rest : List Piece) → Rounds go stop k x s u b s' → head_in greedy rest ≡ false → length (u ++ rest) ≤ n → rounds_at p go stop n x (left s (u ++ rest)) ≡ Ok (b, left s' rest)
    wholes zero n x s u b s' rest r g h =
        let both = λ (x2 : X). head_append (y x).greedy (set_if (y x).empty ((z x2).greedy ++ (z x).first)) rest (all x x2 rest g) in
        on_stop n x s (u ++ rest) (away_all (z x).first (y x) u rest (e1 x) ((ls x).heads s u b s' r) (λ e. (head_append (z x).greedy (z x).first rest (head_set_if (y x).empty ((z x).greedy ++ (z x).first) rest (both x).1 e)).1)) ∙ (ls x).whole s u b s' rest r (both x).0
    wholes (suc k) zero x s u b s' rest r g h = absurd (omega (arith, longer x r.2 (r.3 ++ rest) ((lg x).heads s r.2 r.0 r.1 r.5), ap length (ap (λ x. x ++ rest) r.4 ∙ append_assoc r.2 r.3 rest)))
    wholes (suc k) (suc n) x s u b s' rest r g h =
        let whole : u ++ rest ≡ r.2 ++ (r.3 ++ rest) = ap (λ x. x ++ rest) r.4 ∙ append_assoc r.2 r.3 rest in
        let head = (lg x).heads s r.2 r.0 r.1 r.5 in
        let one = (lg x).whole s r.2 r.0 r.1 (r.3 ++ rest) r.5 (next k r.0 r.1 r.3 b s' rest r.6 x (λ x3 e. (head_append (z x).greedy (z x3).first rest (head_set_if (y x3).empty ((z x).greedy ++ (z x3).first) rest (head_append (y x3).greedy (set_if (y x3).empty ((z x).greedy ++ (z x3).first)) rest (all x3 x rest g)).1 e)).0)) in
        let less : length (r.3 ++ rest) ≤ n = omega (arith, longer x r.2 (r.3 ++ rest) head, ap length whole) in
        ap (λ ts. rounds_at p go stop (suc n) x (left s ts)) whole
        ∙ on_go n x s (r.2 ++ (r.3 ++ rest)) (begins (z x) r.2 (r.3 ++ rest) (some x) head)
        ∙ ap (λ o. and_then o (λ x1 l1. rounds_at p go stop n x1 l1)) one
        ∙ wholes k n r.0 r.1 r.3 b s' rest r.6 g less

    past : (n : ℕ) (o : Outcome X) (m : ℕ) → length (after o) ≤ m → length (after (and_then o (λ x1 l1. rounds_at p go stop n x1 l1))) ≤ m
    past n (Err d) m h = h
    past n (Ok r) m h = at (rounds_at p go stop n r.0 r.1) (traces n r.0 r.1)
      where
        at : (o : Outcome Y) → Traced free (rounds p go stop r.0) r.1 o → length (after o) ≤ m
        at (Ok q) k = omega (arith, ap length k.1 ∙ length-append k.0 q.1.tokens)
        at (Err d) k = omega (arith, ap length k.1 ∙ length-append k.0 d.at)

    goes_on : (k n : ℕ) (x : X) (s : Names) (u : List Piece) (t : Piece) (v : List Piece) (b : Y) (s' : Names) (rest : List Piece) → Rounds go stop k x s (u ++ t ∷ v) b s' → length (u ++ t ∷ rest) ≤ n → length (after (rounds_at p go stop n x (left s (u ++ t ∷ rest)))) ≤ length rest
    goes_on zero n x s u t v b s' rest r h =
        subst (λ o. length (after o) ≤ length rest) (sym (on_stop n x s (u ++ t ∷ rest) (away (z x).first (y x) u t v rest (e1 x) ((ls x).heads s (u ++ t ∷ v) b s' r)))) ((ls x).goes s u t v b s' rest r)
    goes_on (suc k) zero x s u t v b s' rest r h = absurd (omega (arith, length-append u (t ∷ rest)))
    goes_on (suc k) (suc n) x s u t v b s' rest r h = cut (λ w q. goes_on k n r.0 r.1 w t v b s' rest q) (split u v r.2 r.3 t r.4)
      where
        head : Heads (z x) r.2
        head = (lg x).heads s r.2 r.0 r.1 r.5

        cut : ((w : List Piece) → Rounds go stop k r.0 r.1 (w ++ t ∷ v) b s' → length (w ++ t ∷ rest) ≤ n → length (after (rounds_at p go stop n r.0 (left r.1 (w ++ t ∷ rest)))) ≤ length rest) → ((w : List Piece) × (r.2 ≡ u ++ t ∷ w) × (v ≡ w ++ r.3)) ⊎ ((w : List Piece) × (u ≡ r.2 ++ w) × (r.3 ≡ w ++ t ∷ v)) → length (after (rounds_at p go stop (suc n) x (left s (u ++ t ∷ rest)))) ≤ length rest
        cut ih (inl c) =
            let r3 = subst (λ w. (go x).reads s w r.0 r.1) c.1 r.5 in
            let h3 = subst (λ w. Heads (z x) w) c.1 head in
            subst (λ o. length (after o) ≤ length rest) (sym (on_go n x s (u ++ t ∷ rest) (begins_at (z x) u t c.0 rest h3))) (past n ((go x).parse (left s (u ++ t ∷ rest))) (length rest) ((lg x).goes s u t c.0 r.0 r.1 rest r3))
        cut ih (inr c) =
            let r3 = subst (λ w. Rounds go stop k r.0 r.1 w b s') c.2 r.6 in
            let whole : u ++ t ∷ rest ≡ r.2 ++ (c.0 ++ t ∷ rest) = ap (λ x. x ++ t ∷ rest) c.1 ∙ append_assoc r.2 c.0 (t ∷ rest) in
            let one = (lg x).whole s r.2 r.0 r.1 (c.0 ++ t ∷ rest) r.5 (sym (same_head (z x).greedy c.0 t v rest) ∙ next k r.0 r.1 (c.0 ++ t ∷ v) b s' [] r3 x (λ x3 e. refl)) in
            let less : length (c.0 ++ t ∷ rest) ≤ n = omega (arith, longer x r.2 (c.0 ++ t ∷ rest) head, ap length whole) in
            let all = ap (λ ts. rounds_at p go stop (suc n) x (left s ts)) whole ∙ on_go n x s (r.2 ++ (c.0 ++ t ∷ rest)) (begins (z x) r.2 (c.0 ++ t ∷ rest) (some x) head) ∙ ap (λ o. and_then o (λ x1 l1. rounds_at p go stop n x1 l1)) one in
            subst (λ o. length (after o) ≤ length rest) (sym all) (ih c.0 r3 less)

    -- ---- what exceeds a limit

    stop_excess : (x : X) (l : Left) (o : Outcome Y) → Faulted (stop x) l o → Faulted (rounds p go stop x) l o
    stop_excess x l (Ok r) h = tt
    stop_excess x l (Err d) h = faulted_as (stop x) (rounds p go stop x) l l [] refl (λ u w r. (0, inr r)) d.at d.why h

    excesses : (n : ℕ) (x : X) (l : Left) → Faulted (rounds p go stop x) l (rounds_at p go stop n x l)
    excesses zero x l = stop_excess x l ((stop x).parse l) ((ls x).excess l)
    excesses (suc n) x l = choose (λ r. excesses n r.0 r.1) (head_in (p x) l.tokens)
      where
        second : (r : X × Left) → Traced free (go x) l (Ok r) → (o : Outcome Y) → Faulted (rounds p go stop r.0) r.1 o → Faulted (rounds p go stop x) l o
        second r h (Ok q) k = tt
        second r h (Err d) k = faulted_as (rounds p go stop r.0) (rounds p go stop x) l r.1 h.0 h.1 (λ u w q. (suc q.0, (r.0, r.1.names, h.0, u, refl, h.2, q.1))) d.at d.why k

        go_first : ((r : X × Left) → Faulted (rounds p go stop r.0) r.1 (rounds_at p go stop n r.0 r.1)) → (o : Outcome X) → Traced free (go x) l o → Faulted (go x) l o → Faulted (rounds p go stop x) l (and_then o (λ x1 l1. rounds_at p go stop n x1 l1))
        go_first ih (Ok r) h k = second r h (rounds_at p go stop n r.0 r.1) (ih r)
        go_first ih (Err d) h k = faulted_as (go x) (rounds p go stop x) l l [] refl (λ u w q. (0, inl q)) d.at d.why k

        choose : ((r : X × Left) → Faulted (rounds p go stop r.0) r.1 (rounds_at p go stop n r.0 r.1)) → (b : Bool) → Faulted (rounds p go stop x) l (if b then and_then ((go x).parse l) (λ x1 l1. rounds_at p go stop n x1 l1) else (stop x).parse l)
        choose ih true = go_first ih ((go x).parse l) ((lg x).traced l) ((lg x).excess l)
        choose ih false = stop_excess x l ((stop x).parse l) ((ls x).excess l)

    start_after : (x : X) (u w : List Piece) → Heads (z x) u → Starts ((z x).first ++ (y x).first) (u ++ w)
    start_after x [] w h = absurd (cc (some x, h))
    start_after x (t ∷ u) w h = in_left (z x).first (y x).first t h

    started : (n : ℕ) (x : X) (s : Names) (u : List Piece) (w : Which) → RoundsExceed go stop n x s u w → Starts ((z x).first ++ (y x).first) u
    started zero x s u w (inl r) = start_left (z x).first (y x).first u ((lg x).starts s u w r)
    started zero x s u w (inr r) = start_right (z x).first (y x).first u ((ls x).starts s u w r)
    started (suc n) x s u w r = rw r.4 (start_after x r.2 r.3 ((lg x).heads s r.2 r.0 r.1 r.5))

    apart_both : (x0 x : X) (t : Piece) → in_set ((z x).first ++ (y x).first) t ≡ true → in_set (z x0).greedy t ≡ false
    apart_both x0 x t h = at (or_true (in_set (z x).first t) (in_set (y x).first t) (sym (in_append (z x).first (y x).first t) ∙ h))
      where
        at : (in_set (z x).first t ≡ true) ⊎ (in_set (y x).first t ≡ true) → in_set (z x0).greedy t ≡ false
        at (inl k) = not_in_first (z x0).greedy (z x).first t (e2 x0 x) k
        at (inr k) = not_in_first (z x0).greedy (y x).first t (e3 x0 x) k

    -- what begins so isn't a token with which a round would go on
    next_start : (x0 x : X) (u : List Piece) (t : Spot) (rest : List Piece) → Starts ((z x).first ++ (y x).first) (u ++ Is t ∷ []) → head_in (z x0).greedy (u ++ Is t ∷ rest) ≡ false
    next_start x0 x [] t rest h = apart_both x0 x (Is t) h
    next_start x0 x (q ∷ u) t rest h = apart_both x0 x q h

    overs : (k n : ℕ) (x : X) (s : Names) (u : List Piece) (t : Spot) (w : Which) (rest : List Piece) → RoundsExceed go stop k x s (u ++ Is t ∷ []) w → length (u ++ Is t ∷ rest) ≤ n → rounds_at p go stop n x (left s (u ++ Is t ∷ rest)) ≡ Err (record { at = Is t ∷ rest; why = Exceeds w })
    overs zero zero x s u t w rest r h = absurd (omega (arith, length-append u (Is t ∷ rest)))
    overs zero (suc n) x s u t w rest (inl r) h = on_go n x s (u ++ Is t ∷ rest) (starts_at (z x).first u (Is t) [] rest ((lg x).starts s (u ++ Is t ∷ []) w r)) ∙ ap (λ o. and_then o (λ x1 l1. rounds_at p go stop n x1 l1)) ((lg x).over s u t w rest r)
    overs zero (suc n) x s u t w rest (inr r) h = on_stop (suc n) x s (u ++ Is t ∷ rest) (away_start (z x).first (y x).first u (Is t) [] rest (e1 x) ((ls x).starts s (u ++ Is t ∷ []) w r)) ∙ (ls x).over s u t w rest r
    overs (suc k) zero x s u t w rest r h = absurd (omega (arith, length-append u (Is t ∷ rest)))
    overs (suc k) (suc n) x s u t w rest r h = cut (λ v q. overs k n r.0 r.1 v t w rest q) (split u [] r.2 r.3 (Is t) r.4)
      where
        cut : ((v : List Piece) → RoundsExceed go stop k r.0 r.1 (v ++ Is t ∷ []) w → length (v ++ Is t ∷ rest) ≤ n → rounds_at p go stop n r.0 (left r.1 (v ++ Is t ∷ rest)) ≡ Err (record { at = Is t ∷ rest; why = Exceeds w })) → ((v : List Piece) × (r.2 ≡ u ++ Is t ∷ v) × ([] ≡ v ++ r.3)) ⊎ ((v : List Piece) × (u ≡ r.2 ++ v) × (r.3 ≡ v ++ Is t ∷ [])) → rounds_at p go stop (suc n) x (left s (u ++ Is t ∷ rest)) ≡ Err (record { at = Is t ∷ rest; why = Exceeds w })
        cut ih (inl c) = no_start ((z r.0).first ++ (y r.0).first) c.0 r.3 c.2 (started k r.0 r.1 r.3 w r.6)
        cut ih (inr c) =
            let r3 = subst (λ q. RoundsExceed go stop k r.0 r.1 q w) c.2 r.6 in
            let head = (lg x).heads s r.2 r.0 r.1 r.5 in
            let whole : u ++ Is t ∷ rest ≡ r.2 ++ (c.0 ++ Is t ∷ rest) = ap (λ q. q ++ Is t ∷ rest) c.1 ∙ append_assoc r.2 c.0 (Is t ∷ rest) in
            let one = (lg x).whole s r.2 r.0 r.1 (c.0 ++ Is t ∷ rest) r.5 (next_start x r.0 c.0 t rest (started k r.0 r.1 (c.0 ++ Is t ∷ []) w r3)) in
            let less : length (c.0 ++ Is t ∷ rest) ≤ n = omega (arith, longer x r.2 (c.0 ++ Is t ∷ rest) head, ap length whole) in
            ap (λ ts. rounds_at p go stop (suc n) x (left s ts)) whole ∙ on_go n x s (r.2 ++ (c.0 ++ Is t ∷ rest)) (begins (z x) r.2 (c.0 ++ Is t ∷ rest) (some x) head) ∙ ap (λ o. and_then o (λ x1 l1. rounds_at p go stop n x1 l1)) one ∙ ih c.0 r3 less

    -- ---- what takes the end

    closed_by_stop : (x : X) → Closes (y x).greedy → Closes greedy
    closed_by_stop x c t = passed_on (rounds_greedy (z x) (z x) (y x)) greedy t (all x x (Is t ∷ [])) (in_left (y x).greedy (set_if (y x).empty ((z x).greedy ++ (z x).first)) (Is t) (c t))

    closed_by_round : (x0 x : X) → (y x).empty ≡ true → Closes (z x0).greedy → Closes greedy
    closed_by_round x0 x e c t = passed_on (rounds_greedy (z x0) (z x) (y x)) greedy t (all x x0 (Is t ∷ [])) (in_right (y x).greedy (set_if (y x).empty ((z x0).greedy ++ (z x).first)) (Is t) (rw e (in_left (z x0).greedy (z x).first (Is t) (c t))))

    -- after a round that takes the end no round stands, and the end is empty
    last_round : (n : ℕ) (x0 x : X) (s : Names) (u : List Piece) (b : Y) (s' : Names) → Closes (z x0).greedy → Rounds go stop n x s u b s' → Closes greedy × (u ≡ [])
    last_round zero x0 x s u b s' c r = let h = nothing_after (z x0).greedy (y x) u c (e3 x0 x) ((ls x).heads s u b s' r) in (closed_by_round x0 x h.1 c, h.0)
    last_round (suc n) x0 x s u b s' c r = let h = nothing_after (z x0).greedy (z x) r.2 c (e2 x0 x) ((lg x).heads s r.2 r.0 r.1 r.5) in absurd (cc (some x, h.1))

    closing : (n : ℕ) (x : X) (s : Names) (u : List Piece) (b : Y) (s' : Names) (v : List Piece) (e : Piece) (k : List Piece) → Rounds go stop n x s u b s' → u ≡ v ++ e ∷ k → is_last e ≡ true → Closes greedy × (k ≡ [])
    closing zero x s u b s' v e k r eq last = let c = (ls x).closes s u b s' v e k r eq last in (closed_by_stop x c.0, c.1)
    closing (suc n) x s u b s' v e k r eq last = cut (λ q i. closing n r.0 r.1 r.3 b s' q e k r.6 i last) (split v k r.2 r.3 e (sym eq ∙ r.4))
      where
        cut : ((q : List Piece) → r.3 ≡ q ++ e ∷ k → Closes greedy × (k ≡ [])) → ((q : List Piece) × (r.2 ≡ v ++ e ∷ q) × (k ≡ q ++ r.3)) ⊎ ((q : List Piece) × (v ≡ r.2 ++ q) × (r.3 ≡ q ++ e ∷ k)) → Closes greedy × (k ≡ [])
        cut ih (inl c) =
            let one = (lg x).closes s r.2 r.0 r.1 v e c.0 r.5 c.1 last in
            let two = last_round n x r.0 r.1 r.3 b s' one.0 r.6 in
            (two.0, c.2 ∙ rw (one.1, two.1) refl)
        cut ih (inr c) = ih c.0 c.2
