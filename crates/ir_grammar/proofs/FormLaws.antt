-- The laws of a form that is read with one token in view, and that each way of making forms keeps them.
use Rattle.std.proofs.Common.{◌≡◌, ◌⊎◌, inl, inr, ℕ, ◌≤◌, Bool, true, false, ◌&&◌, List, [], ◌∷◌, ◌++◌, length, Ok, Err, refl, sym, ap, ◌∙◌, subst, append_assoc, arith}
use Rattle.std.specs.Prelude.{if◌then◌else◌}
use Rattle.std.proofs.lemmas.List.{length-append}
use Rattle.oi_base.specs.declared.ids.Place.{Place}
use Rattle.ir_lexer.specs.declared.table.Token.{Token}
use Rattle.ir_lexer.specs.declared.table.Token.TheVariants as tokens
use Rattle.ir_lexer.specs.declared.table.Spot.{Spot}
use Rattle.ir_lexer.specs.Lexing.{is_end}
use Rattle.ir_grammar.specs.declared.which.Which.{Which}
use Rattle.ir_grammar.specs.Pieces.{Piece, Is, Bad, is_last}
use Rattle.ir_grammar.specs.Sets.{Set, Any, fits, has, in_set, head_in, apart, set_if}
use Rattle.ir_grammar.specs.Names.{Names}
use Rattle.ir_grammar.specs.Forms.{Left, Why, Refused, Exceeds, Outcome, Form, and_then, act, token, parse_token, judged, Verdict, Takes, Refuses, Over, ◌>>=◌, either, choose, place_of, located}
use Rattle.ir_grammar.proofs.Apart.{not_in_first, head_append, head_set_if, in_left, in_right}

-- the tokens with which a form begins, those with which it would go on at its end, and whether it can have none
pub record Shape : Type 0 where
  pub first : Set
  pub greedy : Set
  pub empty : Bool

abbrev pub Heads : Shape → List Piece → Type 0
Heads z [] = z.empty ≡ true
Heads z (t ∷ ts) = in_set z.first t ≡ true

-- the tokens that an outcome leaves, or from the fault on
abbrev pub after : {A : Type 0} → Outcome A → List Piece
after (Ok r) = r.1.tokens
after (Err e) = e.at

abbrev pub left : Names → List Piece → Left
left s ts = record { names = s; tokens = ts }

-- these begin a text of the form
abbrev pub Begins : {A : Type 0} → Form A → Names → List Piece → Type 0
Begins f s u = (v : List Piece) × (a : _) × (s' : Names) × f.reads s (u ++ v) a s'

-- What was read is in the form; at a fault, what was read before it begins a text of the form, where it has no limits.
abbrev pub Traced : {A : Type 0} → Bool → Form A → Left → Outcome A → Type 0
Traced w f l (Ok r) = (u : List Piece) × (l.tokens ≡ u ++ r.1.tokens) × f.reads l.names u r.0 r.1.names
Traced w f l (Err e) = (u : List Piece) × (l.tokens ≡ u ++ e.at) × (w ≡ true → Begins f l.names u)

-- there are some, and the first of them is in the set
abbrev pub Starts : Set → List Piece → Type 0
Starts x [] = ⊥
Starts x (t ∷ ts) = in_set x t ≡ true

-- where a fault at these tokens says that a limit is exceeded, the first of them exceeds it after those before it
abbrev pub Exceeded : {A : Type 0} → Form A → Left → List Piece → Why → Type 0
Exceeded f l at Refused = Unit {0}
Exceeded f l at (Exceeds w) = (u rest : List Piece) × (t : Spot) × (l.tokens ≡ u ++ at) × (at ≡ Is t ∷ rest) × f.exceeds l.names (u ++ Is t ∷ []) w

abbrev pub Faulted : {A : Type 0} → Form A → Left → Outcome A → Type 0
Faulted f l (Ok r) = Unit {0}
Faulted f l (Err d) = Exceeded f l d.at d.why

-- with each token it would go on at its end: only the end of a text is taken so
abbrev pub Closes : Set → Type 0
Closes greedy = (t : Spot) → in_set greedy (Is t) ≡ true

-- Of a form and its shape, where w says that it has no limits: what was read is in the form, and at a fault begins a
-- text of it; how its texts begin; that each is read whole, where what follows doesn't go on; that the reading gets past
-- the last token of what begins a text; a text; that a limit is told only where it is exceeded; how that begins; that it
-- is told there; and that the end is taken only at the end.
pub record Law {A : Type 0} (w : Bool) (f : Form A) (z : Shape) : Type 0 where
  pub traced : (l : Left) → Traced w f l (f.parse l)
  pub heads : (s : Names) (u : List Piece) (a : A) (s' : Names) → f.reads s u a s' → Heads z u
  pub whole : (s : Names) (u : List Piece) (a : A) (s' : Names) (rest : List Piece) → f.reads s u a s' → head_in z.greedy rest ≡ false → f.parse (left s (u ++ rest)) ≡ Ok (a, left s' rest)
  pub goes : (s : Names) (u : List Piece) (t : Piece) (v : List Piece) (a : A) (s' : Names) (rest : List Piece) → f.reads s (u ++ t ∷ v) a s' → length (after (f.parse (left s (u ++ t ∷ rest)))) ≤ length rest
  pub sample : w ≡ true → (s : Names) → (u : List Piece) × (a : A) × (s' : Names) × f.reads s u a s'
  pub excess : (l : Left) → Faulted f l (f.parse l)
  pub starts : (s : Names) (u : List Piece) (w : Which) → f.exceeds s u w → Starts z.first u
  pub over : (s : Names) (u : List Piece) (t : Spot) (w : Which) (rest : List Piece) → f.exceeds s (u ++ Is t ∷ []) w → f.parse (left s (u ++ Is t ∷ rest)) ≡ Err (record { at = Is t ∷ rest; why = Exceeds w })
  pub closes : (s : Names) (u : List Piece) (a : A) (s' : Names) (v : List Piece) (e : Piece) (x : List Piece) → f.reads s u a s' → u ≡ v ++ e ∷ x → is_last e ≡ true → Closes z.greedy × (x ≡ [])

-- ---- lists cut in two ways

pub split : (u v x y : List Piece) (t : Piece) → u ++ t ∷ v ≡ x ++ y → ((w : List Piece) × (x ≡ u ++ t ∷ w) × (v ≡ w ++ y)) ⊎ ((w : List Piece) × (u ≡ x ++ w) × (y ≡ w ++ t ∷ v))
split [] v [] y t e = inr ([], refl, sym e)
split [] v (q ∷ x) y t e = inl (x, cc, cc)
split (p ∷ u) v [] y t e = inr (p ∷ u, refl, sym e)
split (p ∷ u) v (q ∷ x) y t e =
    let e2 : u ++ t ∷ v ≡ x ++ y = cc in
    let same : p ≡ q = cc in
    elim (split u v x y t e2) [
      | inl h ↦ inl (h.0, cc (h.1, same), h.2)
      | inr h ↦ inr (h.0, cc (h.1, same), h.2)
    ]

nothing_left : {B : Type 0} (u v : List Piece) (t : Piece) → u ++ t ∷ v ≡ [] → B
nothing_left [] v t e = absurd cc
nothing_left (p ∷ u) v t e = absurd cc

traced_short : {A : Type 0} (w : Bool) (f : Form A) (l : Left) (o : Outcome A) → Traced w f l o → length (after o) ≤ length l.tokens
traced_short w f l (Ok r) h = omega (arith, ap length h.1 ∙ length-append h.0 r.1.tokens)
traced_short w f l (Err e) h = omega (arith, ap length h.1 ∙ length-append h.0 e.at)

pub shrinks : {A : Type 0} {w : Bool} (f : Form A) (z : Shape) → Law w f z → (l : Left) → length (after (f.parse l)) ≤ length l.tokens
shrinks {w = w} f z law l = traced_short w f l (f.parse l) (law.traced l)

-- the head of what a form has isn't in a set that is apart from its first tokens
pub away : (x : Set) (z : Shape) (w : List Piece) (t : Piece) (v rest : List Piece) → apart x z.first ≡ true → Heads z (w ++ t ∷ v) → head_in x (w ++ t ∷ rest) ≡ false
away x z [] t v rest e h = not_in_first x z.first t e h
away x z (q ∷ w) t v rest e h = not_in_first x z.first q e h

pub away_all : (x : Set) (z : Shape) (u rest : List Piece) → apart x z.first ≡ true → Heads z u → (z.empty ≡ true → head_in x rest ≡ false) → head_in x (u ++ rest) ≡ false
away_all x z [] rest e h last = last h
away_all x z (q ∷ u) rest e h last = not_in_first x z.first q e h

pub away_start : (x y : Set) (w : List Piece) (t : Piece) (v rest : List Piece) → apart x y ≡ true → Starts y (w ++ t ∷ v) → head_in x (w ++ t ∷ rest) ≡ false
away_start x y [] t v rest e h = not_in_first x y t e h
away_start x y (q ∷ w) t v rest e h = not_in_first x y q e h

pub start_left : (x y : Set) (u : List Piece) → Starts x u → Starts (x ++ y) u
start_left x y [] h = h
start_left x y (t ∷ u) h = in_left x y t h

pub start_right : (x y : Set) (u : List Piece) → Starts y u → Starts (x ++ y) u
start_right x y [] h = h
start_right x y (t ∷ u) h = in_right x y t h

pub no_start : {B : Type 0} (x : Set) (w u : List Piece) → [] ≡ w ++ u → Starts x u → B
no_start x w [] e h = absurd h
no_start x [] (t ∷ u) e h = absurd cc
no_start x (q ∷ w) (t ∷ u) e h = absurd cc

-- a fault of one form after some tokens is one of another
pub faulted_as : {A B : Type 0} (f : Form A) (g : Form B) (l m : Left) (before : List Piece) → l.tokens ≡ before ++ m.tokens → ((u : List Piece) (w : Which) → f.exceeds m.names u w → g.exceeds l.names (before ++ u) w) → (at : List Piece) (y : Why) → Exceeded f m at y → Exceeded g l at y
faulted_as f g l m before e h at Refused x = tt
faulted_as f g l m before e h at (Exceeds w) x = (before ++ x.0, x.1, x.2, e ∙ ap (λ y. before ++ y) x.3 ∙ sym (append_assoc before x.0 at), x.4, subst (λ y. g.exceeds l.names y w) (sym (append_assoc before x.0 (Is x.2 ∷ []))) (h (x.0 ++ Is x.2 ∷ []) w x.5))

-- after a form that takes the end nothing stands
pub nothing_after : (x : Set) (z : Shape) (u : List Piece) → Closes x → apart x z.first ≡ true → Heads z u → (u ≡ []) × (z.empty ≡ true)
nothing_after x z [] c e h = (refl, h)
nothing_after x z (Is t ∷ u) c e h = absurd (cc (not_in_first x z.first (Is t) e h, c t))
nothing_after x z (Bad b ∷ u) c e h = absurd cc

-- ---- no token

pub law_act : {A : Type 0} {w : Bool} (h : Names → A × Names) → Law w (act h) (record { first = []; greedy = []; empty = true })
law_act h = record {
  traced = λ l. ([], refl, (refl, refl));
  heads = λ s u a s' r. nothing u r.0;
  whole = λ s u a s' rest r e. rw (r.0, r.1) refl;
  goes = λ s u t v a s' rest r. nothing_left u v t r.0;
  sample = λ e s. ([], (h s).0, (h s).1, (refl, refl));
  excess = λ l. tt;
  starts = λ s u w r. absurd r;
  over = λ s u t w rest r. absurd r;
  closes = λ s u a s' v e x r eq last. nothing_left v x e (sym eq ∙ r.0);
}
  where
    nothing : (u : List Piece) → u ≡ [] → Heads (record { first = []; greedy = []; empty = true }) u
    nothing [] e = refl
    nothing (t ∷ u) e = absurd cc

-- ---- one token

-- the tokens that are taken or exceed a limit are in the set
abbrev pub Fits : {A : Type 0} → Set → Token → Verdict A → Type 0
Fits z t (Takes a) = has z t ≡ true
Fits z t Refuses = Unit {0}
Fits z t (Over w) = has z t ≡ true

abbrev pub token_shape : Set → Shape
token_shape z = record { first = z; greedy = set_if (has z tokens.End) (Any ∷ []); empty = false }

any_fits : (t : Token) → fits t Any ≡ true
any_fits (tokens.Int n) = refl
any_fits (tokens.Word n) = refl
any_fits (tokens.Label n) = refl
any_fits (tokens.Local n) = refl
any_fits (tokens.Global n) = refl
any_fits (tokens.Str n) = refl
any_fits (tokens.CStr n) = refl
any_fits (tokens.Meta n) = refl
any_fits (tokens.Hash n) = refl
any_fits (tokens.Sign n) = refl
any_fits tokens.End = refl

pub any_token : (z : Set) (t : Token) → has (Any ∷ z) t ≡ true
any_token z t = rw (any_fits t) refl

end_only : (z : Set) (t : Token) → is_end t ≡ true → has z t ≡ true → has z tokens.End ≡ true
end_only z (tokens.Int n) e h = absurd cc
end_only z (tokens.Word n) e h = absurd cc
end_only z (tokens.Label n) e h = absurd cc
end_only z (tokens.Local n) e h = absurd cc
end_only z (tokens.Global n) e h = absurd cc
end_only z (tokens.Str n) e h = absurd cc
end_only z (tokens.CStr n) e h = absurd cc
end_only z (tokens.Meta n) e h = absurd cc
end_only z (tokens.Hash n) e h = absurd cc
end_only z (tokens.Sign n) e h = absurd cc
end_only z tokens.End e h = h

pub law_token : {A : Type 0} {w : Bool} (v : Token → Verdict A) (z : Set) → ((t : Token) → Fits z t (v t)) → (w ≡ true → (t : Spot) × (a : A) × (v t.token ≡ Takes a)) → Law w (token v) (token_shape z)
law_token {A = A} {w = w} v z fit some = record {
  traced = λ l. traces l.names l.tokens;
  heads = λ s u b s' r. headed u r.0 r.1 (taken r.0.token b r.2);
  whole = λ s u b s' rest r n. rw (r.1, r.2, r.3) refl;
  goes = λ s u q x b s' rest r. goes_on s u q x rest b r.0 r.1 r.2;
  sample = λ e s. let h = some e in (Is h.0 ∷ [], h.1, s, (h.0, refl, h.2, refl));
  excess = λ l. exceeds l.names l.tokens;
  starts = λ s u y r. started u r.0 r.1 (passed r.0.token y r.2);
  over = λ s u t y rest r. overs s u t y rest r.0 r.1 r.2;
  closes = λ s u b s' x e y r eq last. closing x e y r.0 b (sym eq ∙ r.1) r.2 last;
}
  where
    taken : (t : Token) (b : A) → v t ≡ Takes b → has z t ≡ true
    taken t b e = subst (λ o. Fits z t o) e (fit t)

    passed : (t : Token) (y : Which) → v t ≡ Over y → has z t ≡ true
    passed t y e = subst (λ o. Fits z t o) e (fit t)

    any : (s : Names) → w ≡ true → Begins (token v) s []
    any s e = let h = some e in (Is h.0 ∷ [], h.1, s, (h.0, refl, h.2, refl))

    traces : (s : Names) (ts : List Piece) → Traced w (token v) (left s ts) (parse_token v s ts)
    traces s [] = ([], refl, any s)
    traces s (Bad b ∷ ts) = ([], refl, any s)
    traces s (Is q ∷ ts) = judge (v q.token) refl
      where
        judge : (o : Verdict _) → v q.token ≡ o → Traced w (token v) (left s (Is q ∷ ts)) (judged o s q ts)
        judge (Takes b) e2 = (Is q ∷ [], refl, (q, refl, e2, refl))
        judge Refuses e2 = ([], refl, any s)
        judge (Over x) e2 = ([], refl, any s)

    exceeds : (s : Names) (ts : List Piece) → Faulted (token v) (left s ts) (parse_token v s ts)
    exceeds s [] = tt
    exceeds s (Bad b ∷ ts) = tt
    exceeds s (Is q ∷ ts) = judge (v q.token) refl
      where
        judge : (o : Verdict _) → v q.token ≡ o → Faulted (token v) (left s (Is q ∷ ts)) (judged o s q ts)
        judge (Takes b) e2 = tt
        judge Refuses e2 = tt
        judge (Over x) e2 = ([], ts, q, refl, refl, (q, refl, e2))

    headed : (u : List Piece) (q : Spot) → u ≡ Is q ∷ [] → has z q.token ≡ true → Heads (token_shape z) u
    headed u q e1 e2 = rw e1 e2

    started : (u : List Piece) (q : Spot) → u ≡ Is q ∷ [] → has z q.token ≡ true → Starts z u
    started u q e1 e2 = rw e1 e2

    goes_on : (s : Names) (u : List Piece) (q : Piece) (x rest : List Piece) (b : A) (p : Spot) → u ++ q ∷ x ≡ Is p ∷ [] → v p.token ≡ Takes b → length (after (parse_token v s (u ++ q ∷ rest))) ≤ length rest
    goes_on s [] q x rest b p e1 e2 =
        let same : q ≡ Is p = cc in
        rw (same, e2) (omega arith)
    goes_on s (k ∷ u) q x rest b p e1 e2 = nothing_left u x q cc

    overs : (s : Names) (u : List Piece) (t : Spot) (y : Which) (rest : List Piece) (p : Spot) → u ++ Is t ∷ [] ≡ Is p ∷ [] → v p.token ≡ Over y → parse_token v s (u ++ Is t ∷ rest) ≡ Err (record { at = Is t ∷ rest; why = Exceeds y })
    overs s [] t y rest p e1 e2 =
        let same : t ≡ p = cc in
        let e3 : v t.token ≡ Over y = rw same e2 in
        rw e3 refl
    overs s (k ∷ u) t y rest p e1 e2 = nothing_left u [] (Is t) cc

    closing : (x : List Piece) (e : Piece) (y : List Piece) (p : Spot) (b : A) → x ++ e ∷ y ≡ Is p ∷ [] → v p.token ≡ Takes b → is_last e ≡ true → Closes (token_shape z).greedy × (y ≡ [])
    closing [] e y p b e1 e2 last =
        let same : e ≡ Is p = cc in
        let end : is_end p.token ≡ true = subst (λ q. is_last q ≡ true) same last in
        let some = end_only z p.token end (taken p.token b e2) in
        (λ t. rw some (any_token [] t.token), cc)
    closing (k ∷ x) e y p b e1 e2 last = nothing_left x y e cc

-- ---- one form and then another

abbrev pub after_shape : Shape → Shape → Shape
after_shape z y = record {
  first = z.first ++ set_if z.empty y.first;
  greedy = y.greedy ++ set_if y.empty z.greedy;
  empty = z.empty && y.empty;
}

pub heads_after : (z y : Shape) (u w : List Piece) → Heads z u → Heads y w → Heads (after_shape z y) (u ++ w)
heads_after z y [] [] h k = rw (h, k) refl
heads_after z y [] (t ∷ w) h k = in_right z.first (set_if z.empty y.first) t (rw h k)
heads_after z y (t ∷ u) w h k = in_left z.first (set_if z.empty y.first) t h

pub law_then : {A B : Type 0} {w : Bool} (f : Form A) (g : A → Form B) (z y : Shape) → Law w f z → ((a : A) → Law w (g a) y) → apart z.greedy y.first ≡ true → Law w (f >>= g) (after_shape z y)
law_then {A = A} {B = B} {w = w} f g z y lf lg e = record {
  traced = λ l. traces l (f.parse l) (lf.traced l);
  heads = λ s u b s' r. rw r.4 (heads_after z y r.2 r.3 (lf.heads s r.2 r.0 r.1 r.5) ((lg r.0).heads r.1 r.3 b s' r.6));
  whole = λ s u b s' rest r n. wholes s u b s' rest r.0 r.1 r.2 r.3 r.4 r.5 r.6 n;
  goes = λ s u t v b s' rest r. goes_on s u t v b s' rest r.0 r.1 r.2 r.3 r.5 r.6 (split u v r.2 r.3 t r.4);
  sample = λ k s. let p = lf.sample k s in let q = (lg p.1).sample k p.2 in (p.0 ++ q.0, q.1, q.2, (p.1, p.2, p.0, q.0, refl, p.3, q.3));
  excess = λ l. excesses l (f.parse l) (lf.traced l) (lf.excess l);
  starts = λ s u x r. started s u x r;
  over = λ s u t x rest r. overs s u t x rest r;
  closes = λ s u b s' v k x r eq last. closing s b s' v k x r.0 r.1 r.2 r.3 r.5 r.6 (split v x r.2 r.3 k (sym eq ∙ r.4)) last;
}
  where
    second : (l : Left) (r : A × Left) → Traced w f l (Ok r) → (o : Outcome B) → Traced w (g r.0) r.1 o → Traced w (f >>= g) l o
    second l r h (Ok q) k = (h.0 ++ k.0, h.1 ∙ ap (λ x. h.0 ++ x) k.1 ∙ sym (append_assoc h.0 k.0 q.1.tokens), (r.0, r.1.names, h.0, k.0, refl, h.2, k.2))
    second l r h (Err d) k = (h.0 ++ k.0, h.1 ∙ ap (λ x. h.0 ++ x) k.1 ∙ sym (append_assoc h.0 k.0 d.at), λ free. let c = k.2 free in (c.0, c.1, c.2, (r.0, r.1.names, h.0, k.0 ++ c.0, append_assoc h.0 k.0 c.0, h.2, c.3)))

    traces : (l : Left) (o : Outcome A) → Traced w f l o → Traced w (f >>= g) l (and_then o (λ a m. (g a).parse m))
    traces l (Ok r) h = second l r h ((g r.0).parse r.1) ((lg r.0).traced r.1)
    traces l (Err d) h = (
      h.0,
      h.1,
      λ free.
          let c = h.2 free in
          let q = (lg c.1).sample free c.2 in
          (c.0 ++ q.0, q.1, q.2, (c.1, c.2, h.0 ++ c.0, q.0, sym (append_assoc h.0 c.0 q.0), c.3, q.3)),
    )

    wholes : (s : Names) (u : List Piece) (b : B) (s' : Names) (rest : List Piece) (a : A) (s1 : Names) (u1 u2 : List Piece) → u ≡ u1 ++ u2 → f.reads s u1 a s1 → (g a).reads s1 u2 b s' → head_in (after_shape z y).greedy rest ≡ false → (f >>= g).parse (left s (u ++ rest)) ≡ Ok (b, left s' rest)
    wholes s u b s' rest a s1 u1 u2 e1 r1 r2 n =
        let both = head_append y.greedy (set_if y.empty z.greedy) rest n in
        let one = lf.whole s u1 a s1 (u2 ++ rest) r1 (away_all z.greedy y u2 rest e ((lg a).heads s1 u2 b s' r2) (head_set_if y.empty z.greedy rest both.1)) in
        let two = (lg a).whole s1 u2 b s' rest r2 both.0 in
        ap (λ x. (f >>= g).parse (left s x)) (ap (λ x. x ++ rest) e1 ∙ append_assoc u1 u2 rest) ∙ ap (λ o. and_then o (λ a m. (g a).parse m)) one ∙ two

    past : (r : A × Left) (n : ℕ) → length r.1.tokens ≤ n → length (after ((g r.0).parse r.1)) ≤ n
    past r n h = omega (arith, shrinks (g r.0) y (lg r.0) r.1)

    passed : (o : Outcome A) (n : ℕ) → length (after o) ≤ n → length (after (and_then o (λ a m. (g a).parse m))) ≤ n
    passed (Ok r) n h = past r n h
    passed (Err d) n h = h

    goes_on : (s : Names) (u : List Piece) (t : Piece) (v : List Piece) (b : B) (s' : Names) (rest : List Piece) (a : A) (s1 : Names) (u1 u2 : List Piece) → f.reads s u1 a s1 → (g a).reads s1 u2 b s' → ((w : List Piece) × (u1 ≡ u ++ t ∷ w) × (v ≡ w ++ u2)) ⊎ ((w : List Piece) × (u ≡ u1 ++ w) × (u2 ≡ w ++ t ∷ v)) → length (after ((f >>= g).parse (left s (u ++ t ∷ rest)))) ≤ length rest
    goes_on s u t v b s' rest a s1 u1 u2 r1 r2 (inl h) =
        let r3 = subst (λ x. f.reads s x a s1) h.1 r1 in
        passed (f.parse (left s (u ++ t ∷ rest))) (length rest) (lf.goes s u t h.0 a s1 rest r3)
    goes_on s u t v b s' rest a s1 u1 u2 r1 r2 (inr h) =
        let r3 = subst (λ x. (g a).reads s1 x b s') h.2 r2 in
        let one = lf.whole s u1 a s1 (h.0 ++ t ∷ rest) r1 (away z.greedy y h.0 t v rest e ((lg a).heads s1 (h.0 ++ t ∷ v) b s' r3)) in
        let two = ap (λ x. (f >>= g).parse (left s x)) (ap (λ x. x ++ t ∷ rest) h.1 ∙ append_assoc u1 h.0 (t ∷ rest)) ∙ ap (λ o. and_then o (λ a m. (g a).parse m)) one in
        subst (λ o. length (after o) ≤ length rest) (sym two) ((lg a).goes s1 h.0 t v b s' rest r3)

    second_excess : (l : Left) (r : A × Left) → Traced w f l (Ok r) → (o : Outcome B) → Faulted (g r.0) r.1 o → Faulted (f >>= g) l o
    second_excess l r h (Ok q) k = tt
    second_excess l r h (Err d) k = faulted_as (g r.0) (f >>= g) l r.1 h.0 h.1 (λ u x y. inr (r.0, r.1.names, h.0, u, refl, h.2, y)) d.at d.why k

    excesses : (l : Left) (o : Outcome A) → Traced w f l o → Faulted f l o → Faulted (f >>= g) l (and_then o (λ a m. (g a).parse m))
    excesses l (Ok r) h k = second_excess l r h ((g r.0).parse r.1) ((lg r.0).excess r.1)
    excesses l (Err d) h k = faulted_as f (f >>= g) l l [] refl (λ u x y. inl y) d.at d.why k

    start_after : (u1 u2 : List Piece) → Heads z u1 → Starts y.first u2 → Starts (after_shape z y).first (u1 ++ u2)
    start_after [] [] h k = k
    start_after [] (t ∷ u2) h k = in_right z.first (set_if z.empty y.first) t (rw h k)
    start_after (t ∷ u1) u2 h k = in_left z.first (set_if z.empty y.first) t h

    started : (s : Names) (u : List Piece) (x : Which) → (f >>= g).exceeds s u x → Starts (after_shape z y).first u
    started s u x (inl r) = start_left z.first (set_if z.empty y.first) u (lf.starts s u x r)
    started s u x (inr r) = rw r.4 (start_after r.2 r.3 (lf.heads s r.2 r.0 r.1 r.5) ((lg r.0).starts r.1 r.3 x r.6))

    exceeded_later : (s : Names) (u : List Piece) (t : Spot) (x : Which) (rest : List Piece) (a : A) (s1 : Names) (u1 v : List Piece) → u ≡ u1 ++ v → f.reads s u1 a s1 → (g a).exceeds s1 (v ++ Is t ∷ []) x → (f >>= g).parse (left s (u ++ Is t ∷ rest)) ≡ Err (record { at = Is t ∷ rest; why = Exceeds x })
    exceeded_later s u t x rest a s1 u1 v e1 r1 r2 =
        let one = lf.whole s u1 a s1 (v ++ Is t ∷ rest) r1 (away_start z.greedy y.first v (Is t) [] rest e ((lg a).starts s1 (v ++ Is t ∷ []) x r2)) in
        ap (λ q. (f >>= g).parse (left s q)) (ap (λ q. q ++ Is t ∷ rest) e1 ∙ append_assoc u1 v (Is t ∷ rest)) ∙ ap (λ o. and_then o (λ a m. (g a).parse m)) one ∙ (lg a).over s1 v t x rest r2

    overs : (s : Names) (u : List Piece) (t : Spot) (x : Which) (rest : List Piece) → (f >>= g).exceeds s (u ++ Is t ∷ []) x → (f >>= g).parse (left s (u ++ Is t ∷ rest)) ≡ Err (record { at = Is t ∷ rest; why = Exceeds x })
    overs s u t x rest (inl r) = ap (λ o. and_then o (λ a m. (g a).parse m)) (lf.over s u t x rest r)
    overs s u t x rest (inr r) = cut (split u [] r.2 r.3 (Is t) r.4)
      where
        cut : ((v : List Piece) × (r.2 ≡ u ++ Is t ∷ v) × ([] ≡ v ++ r.3)) ⊎ ((v : List Piece) × (u ≡ r.2 ++ v) × (r.3 ≡ v ++ Is t ∷ [])) → (f >>= g).parse (left s (u ++ Is t ∷ rest)) ≡ Err (record { at = Is t ∷ rest; why = Exceeds x })
        cut (inl h) = no_start y.first h.0 r.3 h.2 ((lg r.0).starts r.1 r.3 x r.6)
        cut (inr h) = exceeded_later s u t x rest r.0 r.1 r.2 h.0 h.1 r.5 (subst (λ q. (g r.0).exceeds r.1 q x) h.2 r.6)

    closing : (s : Names) (b : B) (s' : Names) (v : List Piece) (k : Piece) (x : List Piece) (a : A) (s1 : Names) (u1 u2 : List Piece) → f.reads s u1 a s1 → (g a).reads s1 u2 b s' → ((p : List Piece) × (u1 ≡ v ++ k ∷ p) × (x ≡ p ++ u2)) ⊎ ((p : List Piece) × (v ≡ u1 ++ p) × (u2 ≡ p ++ k ∷ x)) → is_last k ≡ true → Closes (after_shape z y).greedy × (x ≡ [])
    closing s b s' v k x a s1 u1 u2 r1 r2 (inl h) last =
        let c = lf.closes s u1 a s1 v k h.0 r1 h.1 last in
        let n = nothing_after z.greedy y u2 c.0 e ((lg a).heads s1 u2 b s' r2) in
        (λ t. in_right y.greedy (set_if y.empty z.greedy) (Is t) (rw n.1 (c.0 t)), h.2 ∙ rw (c.1, n.0) refl)
    closing s b s' v k x a s1 u1 u2 r1 r2 (inr h) last =
        let c = (lg a).closes s1 u2 b s' h.0 k x r2 h.2 last in
        (λ t. in_left y.greedy (set_if y.empty z.greedy) (Is t) (c.0 t), c.1)

-- ---- one form or another

abbrev pub or_shape : Shape → Shape → Shape
or_shape z y = record {
  first = z.first ++ y.first;
  greedy = z.greedy ++ y.greedy ++ set_if y.empty z.first;
  empty = y.empty;
}

heads_left : (z y : Shape) (u : List Piece) → z.empty ≡ false → Heads z u → Heads (or_shape z y) u
heads_left z y [] e h = absurd cc
heads_left z y (t ∷ u) e h = in_left z.first y.first t h

heads_right : (z y : Shape) (u : List Piece) → Heads y u → Heads (or_shape z y) u
heads_right z y [] h = h
heads_right z y (t ∷ u) h = in_right z.first y.first t h

pub begins : (z : Shape) (u rest : List Piece) → z.empty ≡ false → Heads z u → head_in z.first (u ++ rest) ≡ true
begins z [] rest e h = absurd cc
begins z (t ∷ u) rest e h = h

pub begins_at : (z : Shape) (u : List Piece) (t : Piece) (v rest : List Piece) → Heads z (u ++ t ∷ v) → head_in z.first (u ++ t ∷ rest) ≡ true
begins_at z [] t v rest h = h
begins_at z (q ∷ u) t v rest h = h

pub starts_at : (x : Set) (u : List Piece) (t : Piece) (v rest : List Piece) → Starts x (u ++ t ∷ v) → head_in x (u ++ t ∷ rest) ≡ true
starts_at x [] t v rest h = h
starts_at x (q ∷ u) t v rest h = h

pub law_either : {A : Type 0} {w : Bool} (x : Set) (f g : Form A) (z y : Shape) → Law w f z → Law w g y → x ≡ z.first → z.empty ≡ false → apart z.first y.first ≡ true → Law w (either x f g) (or_shape z y)
law_either {w = w} x f g z y lf lg same some e = record {
  traced = λ l. traces l (head_in x l.tokens);
  heads = λ s u a s' r. headed s u a s' r;
  whole = λ s u a s' rest r n. wholes s u a s' rest r n;
  goes = λ s u t v a s' rest r. goes_on s u t v a s' rest r;
  sample = λ k s. let p = lf.sample k s in (p.0, p.1, p.2, inl p.3);
  excess = λ l. excesses l (head_in x l.tokens);
  starts = λ s u y2 r. started s u y2 r;
  over = λ s u t y2 rest r. overs s u t y2 rest r;
  closes = λ s u a s' v k x2 r eq last. closing s u a s' v k x2 r eq last;
}
  where
    excess_left : (l : Left) (o : Outcome _) → Faulted f l o → Faulted (either x f g) l o
    excess_left l (Ok r) h = tt
    excess_left l (Err d) h = faulted_as f (either x f g) l l [] refl (λ u y2 r. inl r) d.at d.why h

    excess_right : (l : Left) (o : Outcome _) → Faulted g l o → Faulted (either x f g) l o
    excess_right l (Ok r) h = tt
    excess_right l (Err d) h = faulted_as g (either x f g) l l [] refl (λ u y2 r. inr r) d.at d.why h

    excesses : (l : Left) (b : Bool) → Faulted (either x f g) l (if b then f.parse l else g.parse l)
    excesses l true = excess_left l (f.parse l) (lf.excess l)
    excesses l false = excess_right l (g.parse l) (lg.excess l)

    started : (s : Names) (u : List Piece) (y2 : Which) → (f.exceeds s u y2 ⊎ g.exceeds s u y2) → Starts (or_shape z y).first u
    started s u y2 (inl r) = start_left z.first y.first u (lf.starts s u y2 r)
    started s u y2 (inr r) = start_right z.first y.first u (lg.starts s u y2 r)

    closing : (s : Names) (u : List Piece) (a : _) (s' : Names) (v : List Piece) (k : Piece) (x2 : List Piece) → (f.reads s u a s' ⊎ g.reads s u a s') → u ≡ v ++ k ∷ x2 → is_last k ≡ true → Closes (or_shape z y).greedy × (x2 ≡ [])
    closing s u a s' v k x2 (inl r) eq last =
        let c = lf.closes s u a s' v k x2 r eq last in
        (λ t. in_left (z.greedy ++ y.greedy) (set_if y.empty z.first) (Is t) (in_left z.greedy y.greedy (Is t) (c.0 t)), c.1)
    closing s u a s' v k x2 (inr r) eq last =
        let c = lg.closes s u a s' v k x2 r eq last in
        (λ t. in_left (z.greedy ++ y.greedy) (set_if y.empty z.first) (Is t) (in_right z.greedy y.greedy (Is t) (c.0 t)), c.1)

    to_left : (l : Left) (o : Outcome _) → Traced w f l o → Traced w (either x f g) l o
    to_left l (Ok r) h = (h.0, h.1, inl h.2)
    to_left l (Err d) h = (h.0, h.1, λ free. let c = h.2 free in (c.0, c.1, c.2, inl c.3))

    to_right : (l : Left) (o : Outcome _) → Traced w g l o → Traced w (either x f g) l o
    to_right l (Ok r) h = (h.0, h.1, inr h.2)
    to_right l (Err d) h = (h.0, h.1, λ free. let c = h.2 free in (c.0, c.1, c.2, inr c.3))

    traces : (l : Left) (b : Bool) → Traced w (either x f g) l (if b then f.parse l else g.parse l)
    traces l true = to_left l (f.parse l) (lf.traced l)
    traces l false = to_right l (g.parse l) (lg.traced l)

    headed : (s : Names) (u : List Piece) (a : _) (s' : Names) → (f.reads s u a s' ⊎ g.reads s u a s') → Heads (or_shape z y) u
    headed s u a s' (inl r) = heads_left z y u some (lf.heads s u a s' r)
    headed s u a s' (inr r) = heads_right z y u (lg.heads s u a s' r)

    on_left : (s : Names) (ts : List Piece) → head_in z.first ts ≡ true → (either x f g).parse (left s ts) ≡ f.parse (left s ts)
    on_left s ts h = rw (same, h) refl

    on_right : (s : Names) (ts : List Piece) → head_in z.first ts ≡ false → (either x f g).parse (left s ts) ≡ g.parse (left s ts)
    on_right s ts h = rw (same, h) refl

    overs : (s : Names) (u : List Piece) (t : Spot) (y2 : Which) (rest : List Piece) → (f.exceeds s (u ++ Is t ∷ []) y2 ⊎ g.exceeds s (u ++ Is t ∷ []) y2) → (either x f g).parse (left s (u ++ Is t ∷ rest)) ≡ Err (record { at = Is t ∷ rest; why = Exceeds y2 })
    overs s u t y2 rest (inl r) = on_left s (u ++ Is t ∷ rest) (starts_at z.first u (Is t) [] rest (lf.starts s (u ++ Is t ∷ []) y2 r)) ∙ lf.over s u t y2 rest r
    overs s u t y2 rest (inr r) = on_right s (u ++ Is t ∷ rest) (away_start z.first y.first u (Is t) [] rest e (lg.starts s (u ++ Is t ∷ []) y2 r)) ∙ lg.over s u t y2 rest r

    wholes : (s : Names) (u : List Piece) (a : _) (s' : Names) (rest : List Piece) → (f.reads s u a s' ⊎ g.reads s u a s') → head_in (or_shape z y).greedy rest ≡ false → (either x f g).parse (left s (u ++ rest)) ≡ Ok (a, left s' rest)
    wholes s u a s' rest (inl r) n =
        let n1 = head_append (z.greedy ++ y.greedy) (set_if y.empty z.first) rest n in
        let n2 = head_append z.greedy y.greedy rest n1.0 in
        on_left s (u ++ rest) (begins z u rest some (lf.heads s u a s' r)) ∙ lf.whole s u a s' rest r n2.0
    wholes s u a s' rest (inr r) n =
        let n1 = head_append (z.greedy ++ y.greedy) (set_if y.empty z.first) rest n in
        let n2 = head_append z.greedy y.greedy rest n1.0 in
        on_right s (u ++ rest) (away_all z.first y u rest e (lg.heads s u a s' r) (head_set_if y.empty z.first rest n1.1)) ∙ lg.whole s u a s' rest r n2.1

    goes_on : (s : Names) (u : List Piece) (t : Piece) (v : List Piece) (a : _) (s' : Names) (rest : List Piece) → (f.reads s (u ++ t ∷ v) a s' ⊎ g.reads s (u ++ t ∷ v) a s') → length (after ((either x f g).parse (left s (u ++ t ∷ rest)))) ≤ length rest
    goes_on s u t v a s' rest (inl r) = subst (λ o. length (after o) ≤ length rest) (sym (on_left s (u ++ t ∷ rest) (begins_at z u t v rest (lf.heads s (u ++ t ∷ v) a s' r)))) (lf.goes s u t v a s' rest r)
    goes_on s u t v a s' rest (inr r) = subst (λ o. length (after o) ≤ length rest) (sym (on_right s (u ++ t ∷ rest) (away z.first y u t v rest e (lg.heads s (u ++ t ∷ v) a s' r)))) (lg.goes s u t v a s' rest r)

-- ---- a choice by a test

pub law_choose : {A : Type 0} {w : Bool} (b : Bool) (f g : Form A) (z : Shape) → (b ≡ true → Law w f z) → (b ≡ false → Law w g z) → Law w (choose b f g) z
law_choose true f g z lf lg = lf refl
law_choose false f g z lf lg = lg refl

-- ---- a form with its place

place_front : (z : Shape) (u rest : List Piece) → z.empty ≡ false → Heads z u → place_of (u ++ rest) ≡ place_of u
place_front z [] rest e h = absurd (cc (e, h))
place_front z (t ∷ u) rest e h = refl

pub law_located : {A : Type 0} {w : Bool} (f : Form A) (z : Shape) → Law w f z → z.empty ≡ false → Law w (located f) z
law_located {A = A} {w = w} f z law some = record {
  traced = λ l. traces l (f.parse l) (law.traced l);
  heads = λ s u p s' r. law.heads s u p.1 s' r.1;
  whole = λ s u p s' rest r n. ap (λ o. and_then o (λ a m. Ok ((place_of (u ++ rest), a), m))) (law.whole s u p.1 s' rest r.1 n) ∙ ap (λ (q : Place). Ok ((q, p.1), left s' rest)) (place_front z u rest some (law.heads s u p.1 s' r.1) ∙ sym r.0);
  goes = λ s u t v p s' rest r. same (place_of (u ++ t ∷ rest)) (f.parse (left s (u ++ t ∷ rest))) (length rest) (law.goes s u t v p.1 s' rest r.1);
  sample = λ k s. let h = law.sample k s in (h.0, (place_of h.0, h.1), h.2, (refl, h.3));
  excess = λ l. excesses l (f.parse l) (law.excess l);
  starts = law.starts;
  over = λ s u t y rest r. ap (λ o. and_then o (λ a m. Ok ((place_of (u ++ Is t ∷ rest), a), m))) (law.over s u t y rest r);
  closes = λ s u p s' v e x r eq last. law.closes s u p.1 s' v e x r.1 eq last;
}
  where
    excesses : (l : Left) (o : Outcome A) → Faulted f l o → Faulted (located f) l (and_then o (λ a m. Ok ((place_of l.tokens, a), m)))
    excesses l (Ok r) h = tt
    excesses l (Err d) h = faulted_as f (located f) l l [] refl (λ u y r. r) d.at d.why h

    traces : (l : Left) (o : Outcome A) → Traced w f l o → Traced w (located f) l (and_then o (λ a m. Ok ((place_of l.tokens, a), m)))
    traces l (Ok r) h = (h.0, h.1, (ap place_of h.1 ∙ place_front z h.0 r.1.tokens some (law.heads l.names h.0 r.0 r.1.names h.2), h.2))
    traces l (Err d) h = (h.0, h.1, λ free. let c = h.2 free in (c.0, (place_of (h.0 ++ c.0), c.1), c.2, (refl, c.3)))

    same : (q : Place) (o : Outcome A) (n : ℕ) → length (after o) ≤ n → length (after {A = Place × A} (and_then o (λ a m. Ok ((q, a), m)))) ≤ n
    same q (Ok r) n h = h
    same q (Err d) n h = h
