-- Each way of making forms reprints what it reads.
use Rattle.std.proofs.Common.{◌≡◌, ◌⊎◌, inl, inr, refl, sym, ap, ◌∙◌, subst, Bool, true, false, List, [], ◌∷◌, ◌++◌}
use Rattle.std.proofs.lemmas.List.{append_assoc, append-nil}
use Rattle.ir_lexer.specs.declared.table.Token.{Token}
use Rattle.ir_lexer.specs.declared.table.Spot.{Spot}
use Rattle.ir_grammar.specs.Pieces.{Piece, Is, Bad}
use Rattle.ir_grammar.specs.Names.{Names}
use Rattle.ir_grammar.specs.Sets.{Set}
use Rattle.ir_grammar.specs.Forms.{Form, ret, Verdict, Takes, token, ◌>>=◌, either}
use Rattle.ir_printer.specs.declared.marks.Mark.{Mark}
use Rattle.ir_printer.specs.declared.marks.Mark.TheVariants as marks
use Rattle.ir_printer.specs.Layout.{Tables}
use Rattle.ir_printer.specs.Tokens.{tokens_of, Are, IsSpellable, AreSpellable}
use Rattle.ir_printer.specs.Reprints.{Counts, counts, after_mark, after, IsReady, AreReady, Front, IsSound, AreSound, IsReprinted}
use Rattle.ir_printer.proofs.Positions.{IsIndexed}

-- no name stands twice
abbrev pub Indexed : Names → Type 0
Indexed s = IsIndexed s.symbols × IsIndexed s.types × IsIndexed s.locals

-- no name of the tables stands twice
abbrev pub IndexedTables : Tables → Type 0
IndexedTables n = IsIndexed n.symbols × IsIndexed n.types × IsIndexed n.locals

-- Of a form, read where these marks came before: names stay without repetition, the names before are among those
-- after, and what is read is reprinted by the marks that its own marks have beside those before.
pub record Prints {A : Type 0} (inside : Bool) (n : Tables) (f g : Form A) (before : List Mark) (all : A → List Mark) : Type 0 where
  pub indexed : (s : Names) (u : List Piece) (a : A) (t : Names) → f.reads s u a t → Indexed s → Indexed t
  pub fronts : (s : Names) (u : List Piece) (a : A) (t : Names) → f.reads s u a t → Front inside n t → Front inside n s
  pub prints : (s : Names) (u : List Piece) (a : A) (t : Names) → f.reads s u a t → Front inside n t → AreSound u → (ms : List Mark) × (all a ≡ before ++ ms) × IsReprinted inside n g s a t ms

-- no token, no piece
pub none_left : (us : List Piece) → Are us [] → us ≡ []
none_left [] h = refl
none_left (Is p ∷ us) h = absurd h
none_left (Bad p ∷ us) h = absurd h

-- ---- marks one after the other

pub after_both : (c : Counts) (xs ys : List Mark) → after c (xs ++ ys) ≡ after (after c xs) ys
after_both c [] ys = refl
after_both c (x ∷ xs) ys = after_both (after_mark c x) xs ys

pub ready_both : (c : Counts) (xs ys : List Mark) → AreReady c xs → AreReady (after c xs) ys → AreReady c (xs ++ ys)
ready_both c [] ys h k = k
ready_both c (x ∷ xs) ys h k = (h.0, ready_both (after_mark c x) xs ys h.1 k)

pub ready_first : (c : Counts) (xs ys : List Mark) → AreReady c (xs ++ ys) → AreReady c xs
ready_first c [] ys h = tt
ready_first c (x ∷ xs) ys h = (h.0, ready_first (after_mark c x) xs ys h.1)

pub ready_last : (c : Counts) (xs ys : List Mark) → AreReady c (xs ++ ys) → AreReady (after c xs) ys
ready_last c [] ys h = h
ready_last c (x ∷ xs) ys h = ready_last (after_mark c x) xs ys h.1

pub spellable_both : (n : Tables) (xs ys : List Mark) → AreSpellable n xs → AreSpellable n ys → AreSpellable n (xs ++ ys)
spellable_both n [] ys h k = k
spellable_both n (x ∷ xs) ys h k = (h.0, spellable_both n xs ys h.1 k)

pub sound_first : (u v : List Piece) → AreSound (u ++ v) → AreSound u
sound_first [] v h = tt
sound_first (Is s ∷ u) v h = (h.0, sound_first u v h.1)
sound_first (Bad e ∷ u) v h = sound_first u v h

pub sound_last : (u v : List Piece) → AreSound (u ++ v) → AreSound v
sound_last [] v h = h
sound_last (Is s ∷ u) v h = sound_last u v h.1
sound_last (Bad e ∷ u) v h = sound_last u v h

-- the pieces of marks one after the other
abbrev Cut : Tables → List Mark → List Mark → List Piece → Type 0
Cut n xs ys us = (u v : List Piece) × (us ≡ u ++ v) × Are u (tokens_of n xs) × Are v (tokens_of n ys)

-- a token before pieces
one_piece : (n : Tables) (xs ys : List Mark) (t : Token) (us : List Piece) → ((vs : List Piece) → Are vs (tokens_of n (xs ++ ys)) → Cut n xs ys vs) → Are us (t ∷ tokens_of n (xs ++ ys)) → (u v : List Piece) × (us ≡ u ++ v) × Are u (t ∷ tokens_of n xs) × Are v (tokens_of n ys)
one_piece n xs ys t [] cut h = absurd h
one_piece n xs ys t (Bad e ∷ us) cut h = absurd h
one_piece n xs ys t (Is s ∷ us) cut h = let c = cut us h.1 in (Is s ∷ c.0, c.1, ap (λ (vs : List Piece). Is s ∷ vs) c.2, (h.0, c.3), c.4)

pub cut_pieces : (n : Tables) (xs ys : List Mark) (us : List Piece) → Are us (tokens_of n (xs ++ ys)) → Cut n xs ys us
cut_pieces n [] ys us h = ([], us, refl, tt, h)
cut_pieces n (marks.Word w ∷ xs) ys us h = one_piece n xs ys _ us (cut_pieces n xs ys) h
cut_pieces n (marks.Int i ∷ xs) ys us h = one_piece n xs ys _ us (cut_pieces n xs ys) h
cut_pieces n (marks.Str said ∷ xs) ys us h = one_piece n xs ys _ us (cut_pieces n xs ys) h
cut_pieces n (marks.CStr said ∷ xs) ys us h = one_piece n xs ys _ us (cut_pieces n xs ys) h
cut_pieces n (marks.Symbol x ∷ xs) ys us h = one_piece n xs ys _ us (cut_pieces n xs ys) h
cut_pieces n (marks.TypeName x ∷ xs) ys us h = one_piece n xs ys _ us (cut_pieces n xs ys) h
cut_pieces n (marks.Local x ∷ xs) ys us h = one_piece n xs ys _ us (cut_pieces n xs ys) h
cut_pieces n (marks.Label x ∷ xs) ys us h = one_piece n xs ys _ us (cut_pieces n xs ys) h
cut_pieces n (marks.Spaced s ∷ xs) ys us h = one_piece n xs ys _ us (cut_pieces n xs ys) h
cut_pieces n (marks.Closing s ∷ xs) ys us h = one_piece n xs ys _ us (cut_pieces n xs ys) h
cut_pieces n (marks.Opening s ∷ xs) ys us h = one_piece n xs ys _ us (cut_pieces n xs ys) h
cut_pieces n (marks.Joined s ∷ xs) ys us h = one_piece n xs ys _ us (cut_pieces n xs ys) h
cut_pieces n (marks.Line ∷ xs) ys us h = cut_pieces n xs ys us h
cut_pieces n (marks.Indented ∷ xs) ys us h = cut_pieces n xs ys us h

-- ---- one form and then another

-- what is reprinted by marks, and what is reprinted after it
pub reprinted_then : {A B : Type 0} (inside : Bool) (n : Tables) (f : Form A) (g : A → Form B) (s : Names) (a : A) (s1 : Names) (b : B) (t : Names) (xs ys : List Mark) →
    IsReprinted inside n f s a s1 xs → IsReprinted inside n (g a) s1 b t ys → IsReprinted inside n (f >>= g) s b t (xs ++ ys)
reprinted_then {A = A} {B = B} inside n f g s a s1 b t xs ys hf hg = record {
  ready = ready_both (counts s) xs ys hf.ready (subst (λ (c : Counts). AreReady c ys) hf.counted hg.ready);
  counted = hg.counted ∙ ap (λ (c : Counts). after c ys) hf.counted ∙ sym (after_both (counts s) xs ys);
  spellable = spellable_both n xs ys hf.spellable hg.spellable;
  rereads = λ s2 us front ready are. again s2 us front ready (cut_pieces n xs ys us are);
}
  where
    again : (s2 : Names) (us : List Piece) → Front inside n s2 → AreReady (counts s2) (xs ++ ys) → Cut n xs ys us → (t2 : Names) × (f >>= g).reads s2 us b t2 × Front inside n t2 × (counts t2 ≡ after (counts s2) (xs ++ ys))
    again s2 us front ready c =
        let first = hf.rereads s2 c.0 front (ready_first (counts s2) xs ys ready) c.3 in
        let last = hg.rereads first.0 c.1 first.2 (subst (λ (k : Counts). AreReady k ys) (sym first.3) (ready_last (counts s2) xs ys ready)) c.4 in
        (last.0, (a, first.0, c.0, c.1, c.2, first.1, last.1), last.2, last.3 ∙ ap (λ (k : Counts). after k ys) first.3 ∙ sym (after_both (counts s2) xs ys))

pub prints_then : {A B : Type 0} {inside : Bool} {n : Tables} {f f2 : Form A} {g g2 : A → Form B} {before : List Mark} {own : A → List Mark} {all : B → List Mark} →
    Prints inside n f f2 [] own → ((a : A) → Prints inside n (g a) (g2 a) (before ++ own a) all) → Prints inside n (f >>= g) (f2 >>= g2) before all
prints_then {A = A} {B = B} {inside = inside} {n = n} {f = f} {f2 = f2} {g = g} {g2 = g2} {before = before} {own = own} {all = all} hf hg = record {
  indexed = λ s u b t r i. (hg r.0).indexed r.1 r.3 b t r.6 (hf.indexed s r.2 r.0 r.1 r.5 i);
  fronts = λ s u b t r k. hf.fronts s r.2 r.0 r.1 r.5 ((hg r.0).fronts r.1 r.3 b t r.6 k);
  prints = λ s u b t r front sound. at s u b t r front (subst AreSound r.4 sound);
}
  where
    at : (s : Names) (u : List Piece) (b : B) (t : Names) (r : (f >>= g).reads s u b t) → Front inside n t → AreSound (r.2 ++ r.3) → (ms : List Mark) × (all b ≡ before ++ ms) × IsReprinted inside n (f2 >>= g2) s b t ms
    at s u b t r front sound =
        let first = hf.prints s r.2 r.0 r.1 r.5 ((hg r.0).fronts r.1 r.3 b t r.6 front) (sound_first r.2 r.3 sound) in
        let last = (hg r.0).prints r.1 r.3 b t r.6 front (sound_last r.2 r.3 sound) in (
          first.0 ++ last.0,
          last.1 ∙ ap (λ (ms : List Mark). (before ++ ms) ++ last.0) first.1 ∙ append_assoc before first.0 last.0,
          reprinted_then inside n f2 g2 s r.0 r.1 b t first.0 last.0 first.2 last.2,
        )

-- ---- three forms

pub assoc_to : {A B C : Type 0} (f : Form A) (g : A → Form B) (h : B → Form C) (s : Names) (u : List Piece) (c : C) (t : Names) → (f >>= λ a. g a >>= h).reads s u c t → ((f >>= g) >>= h).reads s u c t
assoc_to f g h s u c t r =
    let q = r.6 in
    (q.0, q.1, r.2 ++ q.2, q.3, r.4 ∙ ap (λ (v : List Piece). r.2 ++ v) q.4 ∙ sym (append_assoc r.2 q.2 q.3), (r.0, r.1, r.2, q.2, refl, r.5, q.5), q.6)

pub assoc_back : {A B C : Type 0} (f : Form A) (g : A → Form B) (h : B → Form C) (s : Names) (u : List Piece) (c : C) (t : Names) → ((f >>= g) >>= h).reads s u c t → (f >>= λ a. g a >>= h).reads s u c t
assoc_back f g h s u c t r =
    let q = r.5 in
    (q.0, q.1, q.2, q.3 ++ r.3, r.4 ∙ ap (λ (v : List Piece). v ++ r.3) q.4 ∙ append_assoc q.2 q.3 r.3, q.5, (r.0, r.1, q.3, r.3, refl, q.6, r.6))

-- ---- no token

pub prints_done : {A : Type 0} {inside : Bool} {n : Tables} {a : A} {before : List Mark} {all : A → List Mark} → all a ≡ before → Prints inside n (ret a) (ret a) before all
prints_done {A = A} {inside = inside} {n = n} {a = a} {before = before} {all = all} e = record {
  indexed = λ s u b t r i. subst Indexed (ap (λ (x : A × Names). x.1) r.1) i;
  fronts = λ s u b t r k. subst (λ (x : Names). Front inside n x) (sym (ap (λ (x : A × Names). x.1) r.1)) k;
  prints = λ s u b t r k sound. ([], sym (ap (λ (x : A × Names). all x.0) r.1) ∙ e ∙ sym (append-nil before), made s b t (ap (λ (x : A × Names). x.0) r.1) (ap (λ (x : A × Names). x.1) r.1));
}
  where
    made : (s : Names) (b : A) (t : Names) → a ≡ b → s ≡ t → IsReprinted inside n (ret a) s b t []
    made s b t e f = record {
      ready = tt;
      counted = ap counts (sym f);
      spellable = tt;
      rereads = λ s2 us front ready are. (s2, (none_left us are, ap (λ (x : A). (x, s2)) e), front, refl);
    }

-- ---- other marks before, and other forms

-- the marks of the part alone
pub prints_as : {A : Type 0} {inside : Bool} {n : Tables} {f g : Form A} {before : List Mark} {mine all : A → List Mark} →
    Prints inside n f g [] mine → ((a : A) → all a ≡ before ++ mine a) → Prints inside n f g before all
prints_as {before = before} h e = record {
  indexed = h.indexed;
  fronts = h.fronts;
  prints = λ s u a t r front sound. (let m = h.prints s u a t r front sound in (m.0, e a ∙ ap (λ (ms : List Mark). before ++ ms) m.1, m.2));
}

-- what one form reads again, another form does
pub reprinted_in : {A : Type 0} (inside : Bool) (n : Tables) (g h : Form A) → ((s : Names) (u : List Piece) (a : A) (t : Names) → g.reads s u a t → h.reads s u a t) → (s : Names) (a : A) (t : Names) (ms : List Mark) → IsReprinted inside n g s a t ms → IsReprinted inside n h s a t ms
reprinted_in inside n g h into s a t ms m = record {
  ready = m.ready;
  counted = m.counted;
  spellable = m.spellable;
  rereads = λ s2 us front ready are. (let r = m.rereads s2 us front ready are in (r.0, into s2 us a r.0 r.1, r.2, r.3));
}

pub prints_in : {A : Type 0} {inside : Bool} {n : Tables} {f g h : Form A} {before : List Mark} {all : A → List Mark} →
    Prints inside n f g before all → ((s : Names) (u : List Piece) (a : A) (t : Names) → g.reads s u a t → h.reads s u a t) → Prints inside n f h before all
prints_in {inside = inside} {n = n} {g = g} {h = h} p into = record {
  indexed = p.indexed;
  fronts = p.fronts;
  prints = λ s u a t r front sound. (let m = p.prints s u a t r front sound in (m.0, m.1, reprinted_in inside n g h into s a t m.0 m.2));
}

-- what is in one form is in another
pub prints_from : {A : Type 0} {inside : Bool} {n : Tables} {e f g : Form A} {before : List Mark} {all : A → List Mark} →
    ((s : Names) (u : List Piece) (a : A) (t : Names) → e.reads s u a t → f.reads s u a t) → Prints inside n f g before all → Prints inside n e g before all
prints_from from p = record {
  indexed = λ s u a t r i. p.indexed s u a t (from s u a t r) i;
  fronts = λ s u a t r k. p.fronts s u a t (from s u a t r) k;
  prints = λ s u a t r front sound. p.prints s u a t (from s u a t r) front sound;
}

-- two forms that are printed together, and then another
pub prints_joined : {A B C : Type 0} {inside : Bool} {n : Tables} {h h2 : B → Form C} {before : List Mark} {own : B → List Mark} {all : C → List Mark} (f : Form A) (g : A → Form B) →
    Prints inside n (f >>= g) (f >>= g) [] own → ((b : B) → Prints inside n (h b) (h2 b) (before ++ own b) all) → Prints inside n (f >>= λ a. g a >>= h) (f >>= λ a. g a >>= h2) before all
prints_joined {h = h} {h2 = h2} f g p q = prints_from (assoc_to f g h) (prints_in (prints_then p q) (assoc_back f g h2))

-- ---- one or another

pub prints_cases : {A : Type 0} {inside : Bool} {n : Tables} {f g h : Form A} {before : List Mark} {all : A → List Mark} (z : Set) →
    Prints inside n f h before all → Prints inside n g h before all → Prints inside n (either z f g) h before all
prints_cases {A = A} {inside = inside} {n = n} {f = f} {g = g} {h = h} {before = before} {all = all} z hf hg = record { indexed = indexed; fronts = fronts; prints = prints }
  where
    indexed : (s : Names) (u : List Piece) (a : A) (t : Names) → f.reads s u a t ⊎ g.reads s u a t → Indexed s → Indexed t
    indexed s u a t (inl r) i = hf.indexed s u a t r i
    indexed s u a t (inr r) i = hg.indexed s u a t r i

    fronts : (s : Names) (u : List Piece) (a : A) (t : Names) → f.reads s u a t ⊎ g.reads s u a t → Front inside n t → Front inside n s
    fronts s u a t (inl r) k = hf.fronts s u a t r k
    fronts s u a t (inr r) k = hg.fronts s u a t r k

    prints : (s : Names) (u : List Piece) (a : A) (t : Names) → f.reads s u a t ⊎ g.reads s u a t → Front inside n t → AreSound u → (ms : List Mark) × (all a ≡ before ++ ms) × IsReprinted inside n h s a t ms
    prints s u a t (inl r) front sound = hf.prints s u a t r front sound
    prints s u a t (inr r) front sound = hg.prints s u a t r front sound

pub prints_either : {A : Type 0} {inside : Bool} {n : Tables} {f f2 g g2 : Form A} {before : List Mark} {all : A → List Mark} (z : Set) →
    Prints inside n f f2 before all → Prints inside n g g2 before all → Prints inside n (either z f g) (either z f2 g2) before all
prints_either z hf hg = prints_cases z (prints_in hf (λ s u a t r. inl r)) (prints_in hg (λ s u a t r. inr r))

-- ---- one token

-- a mark that names nothing
abbrev pub is_plain : Mark → Bool
is_plain (marks.Symbol x) = false
is_plain (marks.TypeName x) = false
is_plain (marks.Local x) = false
is_plain (marks.Label x) = false
is_plain m = true

plain_after : (c : Counts) (m : Mark) → is_plain m ≡ true → after_mark c m ≡ c
plain_after c (marks.Word w) h = refl
plain_after c (marks.Int i) h = refl
plain_after c (marks.Str said) h = refl
plain_after c (marks.CStr said) h = refl
plain_after c (marks.Symbol x) h = cc
plain_after c (marks.TypeName x) h = cc
plain_after c (marks.Local x) h = cc
plain_after c (marks.Label x) h = cc
plain_after c (marks.Spaced s) h = refl
plain_after c (marks.Closing s) h = refl
plain_after c (marks.Opening s) h = refl
plain_after c (marks.Joined s) h = refl
plain_after c marks.Line h = refl
plain_after c marks.Indented h = refl

plain_ready : (c : Counts) (m : Mark) → is_plain m ≡ true → IsReady c m
plain_ready c (marks.Word w) h = tt
plain_ready c (marks.Int i) h = tt
plain_ready c (marks.Str said) h = tt
plain_ready c (marks.CStr said) h = tt
plain_ready c (marks.Symbol x) h = absurd (cc)
plain_ready c (marks.TypeName x) h = absurd (cc)
plain_ready c (marks.Local x) h = absurd (cc)
plain_ready c (marks.Label x) h = absurd (cc)
plain_ready c (marks.Spaced s) h = tt
plain_ready c (marks.Closing s) h = tt
plain_ready c (marks.Opening s) h = tt
plain_ready c (marks.Joined s) h = tt
plain_ready c marks.Line h = tt
plain_ready c marks.Indented h = tt

-- a mark whose token gives the value
pub record Gives {A : Type 0} (n : Tables) (v : Token → Verdict A) (a : A) (m : Mark) (t : Token) : Type 0 where
  pub plain : is_plain m ≡ true
  pub spellable : IsSpellable n m
  pub told : tokens_of n (m ∷ []) ≡ t ∷ []
  pub takes : v t ≡ Takes a

pub reprinted_token : {A : Type 0} (inside : Bool) (n : Tables) (v : Token → Verdict A) (s : Names) (a : A) (m : Mark) (t : Token) → Gives n v a m t → IsReprinted inside n (token v) s a s (m ∷ [])
reprinted_token {A = A} inside n v s a m t h = record {
  ready = (plain_ready (counts s) m h.plain, tt);
  counted = sym (plain_after (counts s) m h.plain);
  spellable = (h.spellable, tt);
  rereads = λ s2 us front ready are. (s2, read s2 us (subst (λ (ts : List Token). Are us ts) h.told are), front, sym (plain_after (counts s2) m h.plain));
}
  where
    read : (s2 : Names) (us : List Piece) → Are us (t ∷ []) → (q : Spot) × (us ≡ Is q ∷ []) × (v q.token ≡ Takes a) × (s2 ≡ s2)
    read s2 [] are = absurd are
    read s2 (Bad e ∷ us) are = absurd are
    read s2 (Is q ∷ us) are = (q, ap (λ (vs : List Piece). Is q ∷ vs) (none_left us are.1), ap v are.0 ∙ h.takes, refl)

pub prints_token : {A : Type 0} {inside : Bool} {n : Tables} {v : Token → Verdict A} {before : List Mark} {all : A → List Mark} →
    ((t : Token) (a : A) → v t ≡ Takes a → IsSound t → (m : Mark) × (t2 : Token) × (all a ≡ before ++ m ∷ []) × Gives n v a m t2) → Prints inside n (token v) (token v) before all
prints_token {A = A} {inside = inside} {n = n} {v = v} {before = before} {all = all} h = record {
  indexed = λ s u a t r i. subst Indexed r.3 i;
  fronts = λ s u a t r k. subst (λ (x : Names). Front inside n x) (sym r.3) k;
  prints = λ s u a t r front sound. at s u a t r (subst AreSound r.1 sound);
}
  where
    at : (s : Names) (u : List Piece) (a : A) (t : Names) (r : (token v).reads s u a t) → AreSound (Is r.0 ∷ []) → (ms : List Mark) × (all a ≡ before ++ ms) × IsReprinted inside n (token v) s a t ms
    at s u a t r sound =
        let g = h r.0.token a r.2 sound.0 in
        (g.0 ∷ [], g.2, subst (λ (x : Names). IsReprinted inside n (token v) s a x (g.0 ∷ [])) r.3 (reprinted_token inside n v s a g.0 g.1 g.3))
