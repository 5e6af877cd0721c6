-- What is read is reprinted without its places: an image of it is, as a value of another form.
use Rattle.std.proofs.Common.{◌≡◌, ◌⊎◌, inl, inr, refl, sym, ap, ◌∙◌, subst, ℕ, zero, suc, Bool, true, false, List, [], ◌∷◌, ◌++◌}
use Rattle.std.proofs.lemmas.List.{append_assoc}
use Rattle.oi_base.specs.declared.ids.Place.{Place}
use Rattle.ir_grammar.specs.Pieces.{Piece}
use Rattle.ir_grammar.specs.Names.{Names}
use Rattle.ir_grammar.specs.Sets.{Set}
use Rattle.ir_grammar.specs.Forms.{Form, ret, ◌>>=◌, either, located, Rounds, rounds}
use Rattle.ir_printer.specs.declared.marks.Mark.{Mark}
use Rattle.ir_printer.specs.declared.marks.Mark.TheVariants as marks
use Rattle.ir_printer.specs.Layout.{Tables}
use Rattle.ir_printer.specs.Reprints.{Front, AreSound, IsReprinted}
use Rattle.ir_printer.proofs.Reprinting.{Indexed, Prints, prints_done, reprinted_then, reprinted_in, sound_first, sound_last, none_left}
use Rattle.ir_printer.proofs.TokensReprinted.{Quiet}

-- Of a form, read where these marks came before: names stay without repetition, the names before are among those
-- after, and the image of what is read is reprinted, as a value of another form, by the marks that the image's own
-- marks have beside those before.
pub record PrintsAs {A B : Type 0} (inside : Bool) (n : Tables) (image : A → B) (f : Form A) (g : Form B) (before : List Mark) (all : B → List Mark) : Type 0 where
  pub indexed : (s : Names) (u : List Piece) (a : A) (t : Names) → f.reads s u a t → Indexed s → Indexed t
  pub fronts : (s : Names) (u : List Piece) (a : A) (t : Names) → f.reads s u a t → Front inside n t → Front inside n s
  pub prints : (s : Names) (u : List Piece) (a : A) (t : Names) → f.reads s u a t → Front inside n t → AreSound u → (ms : List Mark) × (all (image a) ≡ before ++ ms) × IsReprinted inside n g s (image a) t ms

-- ---- from what is reprinted as it is

pub as_from : {A B : Type 0} {inside : Bool} {n : Tables} {image : A → B} {f : Form A} {h g : Form B} {before : List Mark} {all : B → List Mark} →
    ((s : Names) (u : List Piece) (a : A) (t : Names) → f.reads s u a t → h.reads s u (image a) t) → Prints inside n h g before all → PrintsAs inside n image f g before all
as_from {image = image} from p = record {
  indexed = λ s u a t r i. p.indexed s u (image a) t (from s u a t r) i;
  fronts = λ s u a t r k. p.fronts s u (image a) t (from s u a t r) k;
  prints = λ s u a t r front sound. p.prints s u (image a) t (from s u a t r) front sound;
}

-- itself
pub as_it_is : {A : Type 0} {inside : Bool} {n : Tables} {f g : Form A} {before : List Mark} {all : A → List Mark} → Prints inside n f g before all → PrintsAs inside n (λ a. a) f g before all
as_it_is p = as_from (λ s u a t r. r) p

-- no token
pub as_done : {A B : Type 0} {inside : Bool} {n : Tables} {image : A → B} {a : A} {b : B} {before : List Mark} {all : B → List Mark} → image a ≡ b → all b ≡ before → PrintsAs inside n image (ret a) (ret b) before all
as_done {A = A} {image = image} e f = as_from (λ s u x t r. (r.0, ap (λ y. (y, s)) (sym e) ∙ ap (λ (y : A × Names). (image y.0, y.1)) r.1)) (prints_done f)

-- ---- one form and then another

pub as_then : {A A2 B B2 : Type 0} {inside : Bool} {n : Tables} {first : A → A2} {image : B → B2} {f : Form A} {f2 : Form A2} {g : A → Form B} {before : List Mark} {own : A2 → List Mark} {all : B2 → List Mark} (g2 : A2 → Form B2) →
    PrintsAs inside n first f f2 [] own → ((a : A) → PrintsAs inside n image (g a) (g2 (first a)) (before ++ own (first a)) all) → PrintsAs inside n image (f >>= g) (f2 >>= g2) before all
as_then {A = A} {B = B} {inside = inside} {n = n} {first = first} {image = image} {f = f} {f2 = f2} {g = g} {before = before} {own = own} {all = all} g2 hf hg = record {
  indexed = λ s u b t r i. (hg r.0).indexed r.1 r.3 b t r.6 (hf.indexed s r.2 r.0 r.1 r.5 i);
  fronts = λ s u b t r k. hf.fronts s r.2 r.0 r.1 r.5 ((hg r.0).fronts r.1 r.3 b t r.6 k);
  prints = λ s u b t r front sound. at s u b t r front (subst AreSound r.4 sound);
}
  where
    at : (s : Names) (u : List Piece) (b : B) (t : Names) (r : (f >>= g).reads s u b t) → Front inside n t → AreSound (r.2 ++ r.3) → (ms : List Mark) × (all (image b) ≡ before ++ ms) × IsReprinted inside n (f2 >>= g2) s (image b) t ms
    at s u b t r front sound =
        let one = hf.prints s r.2 r.0 r.1 r.5 ((hg r.0).fronts r.1 r.3 b t r.6 front) (sound_first r.2 r.3 sound) in
        let more = (hg r.0).prints r.1 r.3 b t r.6 front (sound_last r.2 r.3 sound) in (
          one.0 ++ more.0,
          more.1 ∙ ap (λ (ms : List Mark). (before ++ ms) ++ more.0) one.1 ∙ append_assoc before one.0 more.0,
          reprinted_then inside n f2 g2 s (first r.0) r.1 (image b) t one.0 more.0 one.2 more.2,
        )

-- a form that is reprinted as it is, and then another
pub as_next : {A B B2 : Type 0} {inside : Bool} {n : Tables} {image : B → B2} {f f2 : Form A} {g : A → Form B} {g2 : A → Form B2} {before : List Mark} {own : A → List Mark} {all : B2 → List Mark} →
    Prints inside n f f2 [] own → ((a : A) → PrintsAs inside n image (g a) (g2 a) (before ++ own a) all) → PrintsAs inside n image (f >>= g) (f2 >>= g2) before all
as_next {g2 = g2} hf hg = as_then g2 (as_it_is hf) hg

-- ---- other forms

-- what one form reads again, another form does
pub as_in : {A B : Type 0} {inside : Bool} {n : Tables} {image : A → B} {f : Form A} {g h : Form B} {before : List Mark} {all : B → List Mark} →
    PrintsAs inside n image f g before all → ((s : Names) (u : List Piece) (b : B) (t : Names) → g.reads s u b t → h.reads s u b t) → PrintsAs inside n image f h before all
as_in {inside = inside} {n = n} {image = image} {g = g} {h = h} p into = record {
  indexed = p.indexed;
  fronts = p.fronts;
  prints = λ s u a t r front sound. (let m = p.prints s u a t r front sound in (m.0, m.1, reprinted_in inside n g h into s (image a) t m.0 m.2));
}

-- what is in one form is in another
pub as_of : {A B : Type 0} {inside : Bool} {n : Tables} {image : A → B} {e f : Form A} {g : Form B} {before : List Mark} {all : B → List Mark} →
    ((s : Names) (u : List Piece) (a : A) (t : Names) → e.reads s u a t → f.reads s u a t) → PrintsAs inside n image f g before all → PrintsAs inside n image e g before all
as_of from p = record {
  indexed = λ s u a t r i. p.indexed s u a t (from s u a t r) i;
  fronts = λ s u a t r k. p.fronts s u a t (from s u a t r) k;
  prints = λ s u a t r front sound. p.prints s u a t (from s u a t r) front sound;
}

-- ---- one or another

pub as_cases : {A B : Type 0} {inside : Bool} {n : Tables} {image : A → B} {f g : Form A} {h : Form B} {before : List Mark} {all : B → List Mark} (z : Set) →
    PrintsAs inside n image f h before all → PrintsAs inside n image g h before all → PrintsAs inside n image (either z f g) h before all
as_cases {A = A} {inside = inside} {n = n} {image = image} {f = f} {g = g} {h = h} {before = before} {all = all} z hf hg = record { indexed = indexed; fronts = fronts; prints = prints }
  where
    indexed : (s : Names) (u : List Piece) (a : A) (t : Names) → f.reads s u a t ⊎ g.reads s u a t → Indexed s → Indexed t
    indexed s u a t (inl r) i = hf.indexed s u a t r i
    indexed s u a t (inr r) i = hg.indexed s u a t r i

    fronts : (s : Names) (u : List Piece) (a : A) (t : Names) → f.reads s u a t ⊎ g.reads s u a t → Front inside n t → Front inside n s
    fronts s u a t (inl r) k = hf.fronts s u a t r k
    fronts s u a t (inr r) k = hg.fronts s u a t r k

    prints : (s : Names) (u : List Piece) (a : A) (t : Names) → f.reads s u a t ⊎ g.reads s u a t → Front inside n t → AreSound u → (ms : List Mark) × (all (image a) ≡ before ++ ms) × IsReprinted inside n h s (image a) t ms
    prints s u a t (inl r) front sound = hf.prints s u a t r front sound
    prints s u a t (inr r) front sound = hg.prints s u a t r front sound

pub as_either : {A B : Type 0} {inside : Bool} {n : Tables} {image : A → B} {f g : Form A} {f2 g2 : Form B} {before : List Mark} {all : B → List Mark} (z : Set) →
    PrintsAs inside n image f f2 before all → PrintsAs inside n image g g2 before all → PrintsAs inside n image (either z f g) (either z f2 g2) before all
as_either z hf hg = as_cases z (as_in hf (λ s u a t r. inl r)) (as_in hg (λ s u a t r. inr r))

-- ---- places, and what is skipped

-- a form without the place of its first token
pub as_located : {A B : Type 0} {inside : Bool} {n : Tables} {image : A → B} {f : Form A} {g : Form B} {before : List Mark} {all : B → List Mark} →
    PrintsAs inside n image f g before all → PrintsAs inside n (λ (x : Place × A). image x.1) (located f) g before all
as_located p = record {
  indexed = λ s u a t r i. p.indexed s u a.1 t r.1 i;
  fronts = λ s u a t r k. p.fronts s u a.1 t r.1 k;
  prints = λ s u a t r front sound. p.prints s u a.1 t r.1 front sound;
}

-- what a form reads without saying it is left out
pub as_past : {A B B2 : Type 0} {inside : Bool} {n : Tables} {image : B → B2} {g : Form B} {h : Form B2} {before : List Mark} {all : B2 → List Mark} (f : Form A) → Quiet f → PrintsAs inside n image g h before all → PrintsAs inside n image (f >>= λ x. g) h before all
as_past {inside = inside} {n = n} {image = image} {h = h} f quiet p = record {
  indexed = λ s u b t r i. p.indexed r.1 r.3 b t r.6 (subst Indexed (quiet.same s r.2 r.0 r.1 r.5) i);
  fronts = λ s u b t r k. subst (λ (x : Names). Front inside n x) (sym (quiet.same s r.2 r.0 r.1 r.5)) (p.fronts r.1 r.3 b t r.6 k);
  prints = λ s u b t r front sound. (let m = p.prints r.1 r.3 b t r.6 front (sound_last r.2 r.3 (subst AreSound r.4 sound)) in
      (m.0, m.1, subst (λ (x : Names). IsReprinted inside n h x (image b) t m.0) (sym (quiet.same s r.2 r.0 r.1 r.5)) m.2));
}

-- ---- the begin of a line

-- a mark that has no token
abbrev pub is_layout : Mark → Bool
is_layout marks.Line = true
is_layout marks.Indented = true
is_layout m = false

abbrev nothing : Form (Unit {0})
nothing = ret tt

-- nothing is read, and a mark of layout printed
laid_out : (inside : Bool) (n : Tables) (m : Mark) → is_layout m ≡ true → (s : Names) → IsReprinted inside n nothing s tt s (m ∷ [])
laid_out inside n marks.Line e s = record { ready = (tt, tt); counted = refl; spellable = (tt, tt); rereads = λ s2 us front ready are. (s2, (none_left us are, refl), front, refl) }
laid_out inside n marks.Indented e s = record { ready = (tt, tt); counted = refl; spellable = (tt, tt); rereads = λ s2 us front ready are. (s2, (none_left us are, refl), front, refl) }
laid_out inside n (marks.Word w) e s = absurd cc
laid_out inside n (marks.Int i) e s = absurd cc
laid_out inside n (marks.Str said) e s = absurd cc
laid_out inside n (marks.CStr said) e s = absurd cc
laid_out inside n (marks.Symbol x) e s = absurd cc
laid_out inside n (marks.TypeName x) e s = absurd cc
laid_out inside n (marks.Local x) e s = absurd cc
laid_out inside n (marks.Label x) e s = absurd cc
laid_out inside n (marks.Spaced x) e s = absurd cc
laid_out inside n (marks.Closing x) e s = absurd cc
laid_out inside n (marks.Opening x) e s = absurd cc
laid_out inside n (marks.Joined x) e s = absurd cc

-- a line begins before what is reprinted
pub reprinted_after_layout : {A : Type 0} (inside : Bool) (n : Tables) (m : Mark) → is_layout m ≡ true → (g : Form A) (s : Names) (a : A) (t : Names) (ms : List Mark) → IsReprinted inside n g s a t ms → IsReprinted inside n g s a t (m ∷ ms)
reprinted_after_layout {A = A} inside n m e g s a t ms h =
    reprinted_in inside n (nothing >>= λ (x : Unit {0}). g) g back s a t (m ∷ ms) (reprinted_then inside n nothing (λ (x : Unit {0}). g) s tt s a t (m ∷ []) ms (laid_out inside n m e s) h)
  where
    back : (s : Names) (u : List Piece) (a : A) (t : Names) → (nothing >>= λ (x : Unit {0}). g).reads s u a t → g.reads s u a t
    back s u a t r =
        let whole : u ≡ r.3 = r.4 ∙ ap (λ (v : List Piece). v ++ r.3) r.5.0 in
        subst (λ (x : Names). g.reads x u a t) (sym (ap (λ (x : Unit {0} × Names). x.1) r.5.1)) (subst (λ (v : List Piece). g.reads r.1 v a t) (sym whole) r.6)

pub as_line : {A B : Type 0} {inside : Bool} {n : Tables} {image : A → B} {f : Form A} {g : Form B} {before : List Mark} {all : B → List Mark} (m : Mark) → is_layout m ≡ true → PrintsAs inside n image f g (before ++ m ∷ []) all → PrintsAs inside n image f g before all
as_line {inside = inside} {n = n} {image = image} {g = g} {before = before} m e p = record {
  indexed = p.indexed;
  fronts = p.fronts;
  prints = λ s u a t r front sound. (let h = p.prints s u a t r front sound in (m ∷ h.0, h.1 ∙ append_assoc before (m ∷ []) h.0, reprinted_after_layout inside n m e g s (image a) t h.0 h.2));
}

-- ---- rounds

-- what one round does: its state is printed further, in a round of another form that ends in a state of this kind
pub record Round {X X2 : Type 0} (inside : Bool) (n : Tables) (go2 : X2 → Form X2) (so_far : X2 → List Mark) (Stands : X → X2 → Type 0) (s : Names) (u : List Piece) (x2 : X2) (x1 : X) (t : Names) : Type 0 where
  pub state : X2
  pub stands : Stands x1 state
  pub indexed : Indexed s → Indexed t
  pub fronts : Front inside n t → Front inside n s
  pub prints : Front inside n t → AreSound u → (ms : List Mark) × (so_far state ≡ so_far x2 ++ ms) × IsReprinted inside n (go2 x2) s state t ms

-- States of one form stand for states of another. A round says nothing, or is printed by a round of the other form.
module _ {X X2 Y Y2 : Type 0} (inside : Bool) (n : Tables) (image : Y → Y2) (z2 : X2 → Set) (go : X → Form X) (stop : X → Form Y) (go2 : X2 → Form X2) (stop2 : X2 → Form Y2)
    (so_far : X2 → List Mark) (all : Y2 → List Mark) (Stands : X → X2 → Type 0)
    (more : (x : X) (x2 : X2) (s : Names) (u : List Piece) (x1 : X) (t : Names) → Stands x x2 → (go x).reads s u x1 t → (Stands x1 x2 × (s ≡ t)) ⊎ Round inside n go2 so_far Stands s u x2 x1 t)
    (last : (x : X) (x2 : X2) → Stands x x2 → PrintsAs inside n image (stop x) (stop2 x2) (so_far x2) all) where
  -- what is said of some rounds and the end after them
  record Read (x2 : X2) (s : Names) (u : List Piece) (y : Y) (t : Names) : Type 0 where
    indexed : Indexed s → Indexed t
    fronts : Front inside n t → Front inside n s
    prints : Front inside n t → AreSound u → (ms : List Mark) × (all (image y) ≡ so_far x2 ++ ms) × IsReprinted inside n (rounds z2 go2 stop2 x2) s (image y) t ms

  ended : (x2 : X2) (s : Names) (y : Y2) (t : Names) (ms : List Mark) → IsReprinted inside n (stop2 x2) s y t ms → IsReprinted inside n (rounds z2 go2 stop2 x2) s y t ms
  ended x2 s y t ms h = record { ready = h.ready; counted = h.counted; spellable = h.spellable; rereads = λ s2 us front ready are. (let r = h.rereads s2 us front ready are in (r.0, (zero, r.1), r.2, r.3)) }

  one_more : (x2 x3 : X2) (s s1 : Names) (y : Y2) (t : Names) (xs ys : List Mark) → IsReprinted inside n (go2 x2) s x3 s1 xs → IsReprinted inside n (rounds z2 go2 stop2 x3) s1 y t ys → IsReprinted inside n (rounds z2 go2 stop2 x2) s y t (xs ++ ys)
  one_more x2 x3 s s1 y t xs ys h k =
      let both = reprinted_then inside n (go2 x2) (λ (w : X2). rounds z2 go2 stop2 w) s x3 s1 y t xs ys h k in
      record {
        ready = both.ready;
        counted = both.counted;
        spellable = both.spellable;
        rereads = λ s2 us front ready are. (let r = both.rereads s2 us front ready are in (r.0, (suc r.1.6.0, (r.1.0, r.1.1, r.1.2, r.1.3, r.1.4, r.1.5, r.1.6.1)), r.2, r.3));
      }

  read : (k : ℕ) (x : X) (x2 : X2) → Stands x x2 → (s : Names) (u : List Piece) (y : Y) (t : Names) → Rounds go stop k x s u y t → Read x2 s u y t
  read zero x x2 stands s u y t r = record {
    indexed = λ i. (last x x2 stands).indexed s u y t r i;
    fronts = λ f. (last x x2 stands).fronts s u y t r f;
    prints = λ f sound. (let h = (last x x2 stands).prints s u y t r f sound in (h.0, h.1, ended x2 s (image y) t h.0 h.2));
  }
  read (suc k) x x2 stands s u y t r = at (λ x3 q. read k r.0 x3 q r.1 r.3 y t r.6) (more x x2 s r.2 r.0 r.1 stands r.5)
    where
      at : ((x3 : X2) → Stands r.0 x3 → Read x3 r.1 r.3 y t) → (Stands r.0 x2 × (s ≡ r.1)) ⊎ Round inside n go2 so_far Stands s r.2 x2 r.0 r.1 → Read x2 s u y t
      at rest (inl q) =
          let h = rest x2 q.0 in
          record {
            indexed = λ i. h.indexed (subst Indexed q.1 i);
            fronts = λ f. subst (λ (w : Names). Front inside n w) (sym q.1) (h.fronts f);
            prints = λ f sound. (let m = h.prints f (sound_last r.2 r.3 (subst AreSound r.4 sound)) in (m.0, m.1, subst (λ (w : Names). IsReprinted inside n (rounds z2 go2 stop2 x2) w (image y) t m.0) (sym q.1) m.2));
          }
      at rest (inr q) =
          let h = rest q.state q.stands in
          record {
            indexed = λ i. h.indexed (q.indexed i);
            fronts = λ f. q.fronts (h.fronts f);
            prints = λ f sound.
                (let both = subst AreSound r.4 sound in
                let one = q.prints (h.fronts f) (sound_first r.2 r.3 both) in
                let after = h.prints f (sound_last r.2 r.3 both) in
                (one.0 ++ after.0, after.1 ∙ ap (λ (ms : List Mark). ms ++ after.0) one.1 ∙ append_assoc (so_far x2) one.0 after.0, one_more x2 q.state s r.1 (image y) t one.0 after.0 one.2 after.2));
          }

  in_rounds : (z : X → Set) (x : X) (x2 : X2) → Stands x x2 → PrintsAs inside n image (rounds z go stop x) (rounds z2 go2 stop2 x2) (so_far x2) all
  in_rounds z x x2 stands = record {
    indexed = λ s u y t r. (read r.0 x x2 stands s u y t r.1).indexed;
    fronts = λ s u y t r. (read r.0 x x2 stands s u y t r.1).fronts;
    prints = λ s u y t r. (read r.0 x x2 stands s u y t r.1).prints;
  }

pub as_rounds : {X X2 Y Y2 : Type 0} {inside : Bool} {n : Tables} {image : Y → Y2} {all : Y2 → List Mark} (go : X → Form X) (stop : X → Form Y) (go2 : X2 → Form X2) (stop2 : X2 → Form Y2)
    (z : X → Set) (z2 : X2 → Set) (so_far : X2 → List Mark) (Stands : X → X2 → Type 0) →
    ((x : X) (x2 : X2) (s : Names) (u : List Piece) (x1 : X) (t : Names) → Stands x x2 → (go x).reads s u x1 t → (Stands x1 x2 × (s ≡ t)) ⊎ Round inside n go2 so_far Stands s u x2 x1 t) →
    ((x : X) (x2 : X2) → Stands x x2 → PrintsAs inside n image (stop x) (stop2 x2) (so_far x2) all) →
    (x : X) (x2 : X2) → Stands x x2 → PrintsAs inside n image (rounds z go stop x) (rounds z2 go2 stop2 x2) (so_far x2) all
as_rounds {inside = inside} {n = n} {image = image} {all = all} go stop go2 stop2 z z2 so_far Stands more last x x2 stands = in_rounds inside n image z2 go stop go2 stop2 so_far all Stands more last z x x2 stands
