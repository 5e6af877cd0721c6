-- Rounds reprint what they read.
use Rattle.std.proofs.Common.{◌≡◌, refl, sym, ap, ◌∙◌, subst, ℕ, zero, suc, Bool, List, [], ◌∷◌, ◌++◌}
use Rattle.std.specs.List.{flat_map}
use Rattle.std.proofs.lemmas.List.{append_assoc, append-nil}
use Rattle.ir_grammar.specs.Pieces.{Piece}
use Rattle.ir_grammar.specs.Names.{Names}
use Rattle.ir_grammar.specs.Sets.{Set}
use Rattle.ir_grammar.specs.Forms.{Form, Rounds, rounds}
use Rattle.ir_grammar.specs.Tokens.{many}
use Rattle.ir_printer.specs.declared.marks.Mark.{Mark}
use Rattle.ir_printer.specs.Layout.{Tables}
use Rattle.ir_printer.specs.Reprints.{Front, AreSound, IsReprinted}
use Rattle.ir_printer.proofs.Reprinting.{Indexed, Prints, prints_then, prints_done, reprinted_then, sound_first, sound_last}

module _ {X Y : Type 0} (inside : Bool) (n : Tables) (z : X → Set) (go go2 : X → Form X) (stop stop2 : X → Form Y) (all : Y → List Mark) (so_far : X → List Mark) (Ok : X → Type 0)
    (kept : (x : X) (s : Names) (u : List Piece) (x1 : X) (s1 : Names) → Ok x → (go x).reads s u x1 s1 → Ok x1)
    (more : (x : X) → Ok x → Prints inside n (go x) (go2 x) (so_far x) so_far)
    (last : (x : X) → Ok x → Prints inside n (stop x) (stop2 x) (so_far x) all) where
  indexed_in : (k : ℕ) (x : X) → Ok x → (s : Names) (u : List Piece) (y : Y) (t : Names) → Rounds go stop k x s u y t → Indexed s → Indexed t
  indexed_in zero x ok s u y t r i = (last x ok).indexed s u y t r i
  indexed_in (suc k) x ok s u y t r i = indexed_in k r.0 (kept x s r.2 r.0 r.1 ok r.5) r.1 r.3 y t r.6 ((more x ok).indexed s r.2 r.0 r.1 r.5 i)

  fronts_in : (k : ℕ) (x : X) → Ok x → (s : Names) (u : List Piece) (y : Y) (t : Names) → Rounds go stop k x s u y t → Front inside n t → Front inside n s
  fronts_in zero x ok s u y t r f = (last x ok).fronts s u y t r f
  fronts_in (suc k) x ok s u y t r f = (more x ok).fronts s r.2 r.0 r.1 r.5 (fronts_in k r.0 (kept x s r.2 r.0 r.1 ok r.5) r.1 r.3 y t r.6 f)

  abbrev Again : X → Names → Y → Names → List Mark → Type 0
  Again x s y t ms = IsReprinted inside n (rounds z go2 stop2 x) s y t ms

  ended : (x : X) (s : Names) (y : Y) (t : Names) (ms : List Mark) → IsReprinted inside n (stop2 x) s y t ms → Again x s y t ms
  ended x s y t ms h = record { ready = h.ready; counted = h.counted; spellable = h.spellable; rereads = λ s2 us front ready are. (let r = h.rereads s2 us front ready are in (r.0, (zero, r.1), r.2, r.3)) }

  one_more : (x x1 : X) (s s1 : Names) (y : Y) (t : Names) (xs ys : List Mark) → IsReprinted inside n (go2 x) s x1 s1 xs → Again x1 s1 y t ys → Again x s y t (xs ++ ys)
  one_more x x1 s s1 y t xs ys h k =
      let both = reprinted_then inside n (go2 x) (λ (w : X). rounds z go2 stop2 w) s x1 s1 y t xs ys h k in
      record {
        ready = both.ready;
        counted = both.counted;
        spellable = both.spellable;
        rereads = λ s2 us front ready are. (let r = both.rereads s2 us front ready are in (r.0, (suc r.1.6.0, (r.1.0, r.1.1, r.1.2, r.1.3, r.1.4, r.1.5, r.1.6.1)), r.2, r.3));
      }

  prints_in : (k : ℕ) (x : X) → Ok x → (s : Names) (u : List Piece) (y : Y) (t : Names) → Rounds go stop k x s u y t → Front inside n t → AreSound u → (ms : List Mark) × (all y ≡ so_far x ++ ms) × Again x s y t ms
  prints_in zero x ok s u y t r front sound = let h = (last x ok).prints s u y t r front sound in (h.0, h.1, ended x s y t h.0 h.2)
  prints_in (suc k) x ok s u y t r front sound =
      let ok1 = kept x s r.2 r.0 r.1 ok r.5 in
      let both = subst AreSound r.4 sound in
      let h = (more x ok).prints s r.2 r.0 r.1 r.5 (fronts_in k r.0 ok1 r.1 r.3 y t r.6 front) (sound_first r.2 r.3 both) in
      let m = prints_in k r.0 ok1 r.1 r.3 y t r.6 front (sound_last r.2 r.3 both) in
      (h.0 ++ m.0, m.1 ∙ ap (λ (ms : List Mark). ms ++ m.0) h.1 ∙ append_assoc (so_far x) h.0 m.0, one_more x r.0 s r.1 y t h.0 m.0 h.2 m.2)

  in_rounds : (x : X) → Ok x → Prints inside n (rounds z go stop x) (rounds z go2 stop2 x) (so_far x) all
  in_rounds x ok = record {
    indexed = λ s u y t r i. indexed_in r.0 x ok s u y t r.1 i;
    fronts = λ s u y t r f. fronts_in r.0 x ok s u y t r.1 f;
    prints = λ s u y t r f sound. prints_in r.0 x ok s u y t r.1 f sound;
  }

pub prints_rounds : {X Y : Type 0} {inside : Bool} {n : Tables} {go go2 : X → Form X} {stop stop2 : X → Form Y} {all : Y → List Mark} (z : X → Set) (so_far : X → List Mark) (Ok : X → Type 0) →
    ((x : X) (s : Names) (u : List Piece) (x1 : X) (s1 : Names) → Ok x → (go x).reads s u x1 s1 → Ok x1) →
    ((x : X) → Ok x → Prints inside n (go x) (go2 x) (so_far x) so_far) →
    ((x : X) → Ok x → Prints inside n (stop x) (stop2 x) (so_far x) all) →
    (x : X) → Ok x → Prints inside n (rounds z go stop x) (rounds z go2 stop2 x) (so_far x) all
prints_rounds {inside = inside} {n = n} {go = go} {go2 = go2} {stop = stop} {stop2 = stop2} {all = all} z so_far Ok kept more last x ok = in_rounds inside n z go go2 stop stop2 all so_far Ok kept more last x ok

-- ---- lists

pub flat_more : {A : Type 0} (own : A → List Mark) (xs : List A) (x : A) → flat_map own (xs ++ x ∷ []) ≡ flat_map own xs ++ own x
flat_more own [] x = append-nil (own x)
flat_more own (y ∷ ys) x = ap (λ (ms : List Mark). own y ++ ms) (flat_more own ys x) ∙ sym (append_assoc (own y) (flat_map own ys) (own x))

-- parts one after the other
pub prints_many : {A : Type 0} {inside : Bool} {n : Tables} {f f2 : Form A} (z : Set) (own : A → List Mark) → Prints inside n f f2 [] own → Prints inside n (many z f []) (many z f2 []) [] (flat_map own)
prints_many {A = A} {f = f} z own h = prints_rounds (λ xs. z) (flat_map own) (λ xs. Unit {0}) (λ x s u x1 s1 ok r. tt) (λ xs ok. prints_then h (λ (x : A). prints_done (flat_more own xs x))) (λ xs ok. prints_done refl) [] tt
