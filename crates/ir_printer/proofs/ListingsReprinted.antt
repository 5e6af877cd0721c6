-- Items and then notes, each after a comma: the items are printed.
use Rattle.std.proofs.Common.{◌≡◌, ◌⊎◌, inl, inr, refl, sym, ap, ◌∙◌, subst, ℕ, zero, suc, Bool, true, false, List, [], ◌∷◌, ◌++◌}
use Rattle.std.proofs.lemmas.List.{append_assoc, append-nil}
use Rattle.ir_grammar.specs.Pieces.{Piece}
use Rattle.ir_grammar.specs.Names.{Names}
use Rattle.ir_grammar.specs.Forms.{Form, ret, Rounds, ◌>>=◌}
use Rattle.ir_grammar.specs.Tokens.{expect, sign}
use Rattle.ir_grammar.specs.Attributes.{note}
use Rattle.ir_grammar.specs.Operations.{listing, one_listed, items_and_notes}
use Rattle.ir_printer.specs.declared.marks.Mark.{Mark}
use Rattle.ir_printer.specs.Layout.{Tables}
use Rattle.ir_printer.specs.Marks.{comma}
use Rattle.ir_printer.specs.Reprints.{Front, AreSound, IsReprinted}
use Rattle.ir_printer.proofs.Reprinting.{none_left, Indexed, Prints, reprinted_then, reprinted_in, prints_then, prints_done, sound_first, sound_last}
use Rattle.ir_printer.proofs.TokensReprinted.{prints_comma}
use Rattle.ir_printer.proofs.QuietForms.{quiet_note}

module _ {A : Type 0} (inside : Bool) (n : Tables) (f : Form A) (own : A → List Mark) (h : Prints inside n f f [] own) (so_far : List A → List Mark) (Ok : List A → Type 0)
    (ok_more : (xs : List A) (a : A) → Ok (xs ++ a ∷ []))
    (more : (xs : List A) (a : A) → Ok xs → so_far (xs ++ a ∷ []) ≡ so_far xs ++ comma ∷ own a) where
  abbrev State : Type 0
  State = Bool × List A

  -- , item
  abbrev item : List A → Form State
  item xs = expect (sign 44) >>= λ c. f >>= λ a. ret (false, xs ++ a ∷ [])

  prints_item : (xs : List A) → Ok xs → Prints inside n (item xs) (item xs) (so_far xs) (λ x. so_far x.1)
  prints_item xs ok = prints_then prints_comma (λ (c : Unit {0}). prints_then h (λ (a : A). prints_done (more xs a ok ∙ sym (append_assoc (so_far xs) (comma ∷ []) (own a)))))

  -- what one round is: a note, or an item
  abbrev Round : List A → Names → List Piece → State → Names → Type 0
  Round xs s u x t = ((x ≡ (true, xs)) × (s ≡ t)) ⊎ ((item xs).reads s u x t × ((a : A) × (x ≡ (false, xs ++ a ∷ []))))

  noted : (xs : List A) (s : Names) (u : List Piece) (x : State) (t : Names) → (note >>= λ m. ret {A = State} (true, xs)).reads s u x t → (x ≡ (true, xs)) × (s ≡ t)
  noted xs s u x t r = (sym (ap (λ (y : State × Names). y.0) r.6.1), quiet_note.same s r.2 r.0 r.1 r.5 ∙ ap (λ (y : State × Names). y.1) r.6.1)

  round_is : (b : Bool) (xs : List A) (s : Names) (u : List Piece) (x : State) (t : Names) → (one_listed f (b, xs)).reads s u x t → Round xs s u x t
  round_is true xs s u x t r = let k = noted xs r.1 r.3 x t r.6 in inl (k.0, r.5.3 ∙ k.1)
  round_is false xs s u x t r = at r.6
    where
      at : (listing f false xs).reads r.1 r.3 x t → Round xs s u x t
      at (inl q) = let k = noted xs r.1 r.3 x t q in inl (k.0, r.5.3 ∙ k.1)
      at (inr q) = inr ((r.0, r.1, r.2, r.3, r.4, r.5, q), (q.0, sym (ap (λ (y : State × Names). y.0) q.6.1)))

  -- ---- names

  round_ok : (xs : List A) (s : Names) (u : List Piece) (x : State) (t : Names) → Ok xs → Round xs s u x t → Ok x.1
  round_ok xs s u x t ok (inl q) = subst Ok (ap (λ (y : State). y.1) (sym q.0)) ok
  round_ok xs s u x t ok (inr q) = subst Ok (ap (λ (y : State). y.1) (sym q.1.1)) (ok_more xs q.1.0)

  round_indexed : (xs : List A) (s : Names) (u : List Piece) (x : State) (t : Names) → Ok xs → Round xs s u x t → Indexed s → Indexed t
  round_indexed xs s u x t ok (inl q) i = subst Indexed q.1 i
  round_indexed xs s u x t ok (inr q) i = (prints_item xs ok).indexed s u x t q.0 i

  round_fronts : (xs : List A) (s : Names) (u : List Piece) (x : State) (t : Names) → Ok xs → Round xs s u x t → Front inside n t → Front inside n s
  round_fronts xs s u x t ok (inl q) k = subst (λ (y : Names). Front inside n y) (sym q.1) k
  round_fronts xs s u x t ok (inr q) k = (prints_item xs ok).fronts s u x t q.0 k

  abbrev All : ℕ → State → Names → List Piece → List A → Names → Type 0
  All k x s u ys t = Rounds (one_listed f) (λ (y : State). ret y.1) k x s u ys t

  indexed_in : (k : ℕ) (x : State) (s : Names) (u : List Piece) (ys : List A) (t : Names) → Ok x.1 → All k x s u ys t → Indexed s → Indexed t
  indexed_in zero x s u ys t ok r i = subst Indexed (ap (λ (y : List A × Names). y.1) r.1) i
  indexed_in (suc k) x s u ys t ok r i =
      let q = round_is x.0 x.1 s r.2 r.0 r.1 r.5 in
      indexed_in k r.0 r.1 r.3 ys t (round_ok x.1 s r.2 r.0 r.1 ok q) r.6 (round_indexed x.1 s r.2 r.0 r.1 ok q i)

  fronts_in : (k : ℕ) (x : State) (s : Names) (u : List Piece) (ys : List A) (t : Names) → Ok x.1 → All k x s u ys t → Front inside n t → Front inside n s
  fronts_in zero x s u ys t ok r i = subst (λ (y : Names). Front inside n y) (sym (ap (λ (y : List A × Names). y.1) r.1)) i
  fronts_in (suc k) x s u ys t ok r i =
      let q = round_is x.0 x.1 s r.2 r.0 r.1 r.5 in
      round_fronts x.1 s r.2 r.0 r.1 ok q (fronts_in k r.0 r.1 r.3 ys t (round_ok x.1 s r.2 r.0 r.1 ok q) r.6 i)

  -- ---- marks

  abbrev Made : List A → Names → List A → Names → Type 0
  Made xs s ys t = (ms : List Mark) × (so_far ys ≡ so_far xs ++ ms) × IsReprinted inside n (items_and_notes f xs) s ys t ms

  none_made : (xs : List A) (s : Names) (ys : List A) (t : Names) → xs ≡ ys → s ≡ t → Made xs s ys t
  none_made xs s ys t e g = subst (λ (zs : List A). Made xs s zs t) e (subst (λ (y : Names). Made xs s xs y) g (
    [],
    sym (append-nil (so_far xs)),
    record {
      ready = tt;
      counted = refl;
      spellable = tt;
      rereads = λ s2 us front ready are. (s2, (zero, (none_left us are, refl)), front, refl);
    },
  ))

  -- an item and those after it are items
  joined : (xs : List A) (s : Names) (u : List Piece) (ys : List A) (t : Names) → ((item xs) >>= λ x. items_and_notes f x.1).reads s u ys t → (items_and_notes f xs).reads s u ys t
  joined xs s u ys t r =
      let first = r.5 in
      let plain : false ≡ r.0.0 = ap (λ (y : State × Names). y.0.0) first.6.6.1 in
      (suc r.6.0, (r.0, r.1, r.2, r.3, r.4, (first.0, first.1, first.2, first.3, first.4, first.5, inr first.6), subst (λ (b : Bool). All r.6.0 (b, r.0.1) r.1 r.3 ys t) plain r.6.1))

  made_by : (xs : List A) (s : Names) (u v : List Piece) (x : State) (s1 : Names) (ys : List A) (t : Names) → Ok xs → Round xs s u x s1 → AreSound u → Front inside n s1 → Made x.1 s1 ys t → Made xs s ys t
  made_by xs s u v x s1 ys t ok (inl q) sound front m = subst (λ (y : Names). Made xs y ys t) (sym q.1) (subst (λ (zs : List A). Made zs s1 ys t) (ap (λ (y : State). y.1) q.0) m)
  made_by xs s u v x s1 ys t ok (inr q) sound front m =
      let first = (prints_item xs ok).prints s u x s1 q.0 front sound in (
        first.0 ++ m.0,
        m.1 ∙ ap (λ (ms : List Mark). ms ++ m.0) first.1 ∙ append_assoc (so_far xs) first.0 m.0,
        reprinted_in inside n (item xs >>= λ y. items_and_notes f y.1) (items_and_notes f xs) (joined xs) s ys t (first.0 ++ m.0)
            (reprinted_then inside n (item xs) (λ (y : State). items_and_notes f y.1) s x s1 ys t first.0 m.0 first.2 m.2),
      )

  made_in : (k : ℕ) (x : State) (s : Names) (u : List Piece) (ys : List A) (t : Names) → Ok x.1 → All k x s u ys t → AreSound u → Front inside n t → Made x.1 s ys t
  made_in zero x s u ys t ok r sound front = none_made x.1 s ys t (ap (λ (y : List A × Names). y.0) r.1) (ap (λ (y : List A × Names). y.1) r.1)
  made_in (suc k) x s u ys t ok r sound front =
      let q = round_is x.0 x.1 s r.2 r.0 r.1 r.5 in
      let ok1 = round_ok x.1 s r.2 r.0 r.1 ok q in
      let both = subst AreSound r.4 sound in
      made_by x.1 s r.2 r.3 r.0 r.1 ys t ok q (sound_first r.2 r.3 both) (fronts_in k r.0 r.1 r.3 ys t ok1 r.6 front) (made_in k r.0 r.1 r.3 ys t ok1 r.6 (sound_last r.2 r.3 both) front)

  pub prints_listing : (xs : List A) → Ok xs → Prints inside n (items_and_notes f xs) (items_and_notes f xs) (so_far xs) so_far
  prints_listing xs ok = record {
    indexed = λ s u ys t r i. indexed_in r.0 (false, xs) s u ys t ok r.1 i;
    fronts = λ s u ys t r k. fronts_in r.0 (false, xs) s u ys t ok r.1 k;
    prints = λ s u ys t r front sound. made_in r.0 (false, xs) s u ys t ok r.1 sound front;
  }
