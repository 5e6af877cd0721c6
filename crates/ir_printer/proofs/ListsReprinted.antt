-- Lists with commas, and acts with another value.
use Rattle.std.proofs.Common.{◌≡◌, refl, sym, ap, ◌∙◌, subst, List, [], ◌∷◌, ◌++◌, map, Bool, ℕ}
use Rattle.std.proofs.lemmas.List.{append_assoc, append-nil}
use Rattle.ir_grammar.specs.declared.kinds.Kind.{Kind}
use Rattle.ir_grammar.specs.Pieces.{Piece}
use Rattle.ir_grammar.specs.Names.{Names}
use Rattle.ir_grammar.specs.Sets.{Set}
use Rattle.ir_grammar.specs.Forms.{Form, act, ret, ◌>>=◌}
use Rattle.ir_grammar.specs.Tokens.{sign, text, after_comma, many, listed}
use Rattle.ir_printer.specs.declared.marks.Mark.{Mark}
use Rattle.ir_printer.specs.Layout.{Tables}
use Rattle.ir_printer.specs.Marks.{comma, separated, after_commas}
use Rattle.ir_printer.specs.Marks.{after_comma as with_comma}
use Rattle.ir_printer.proofs.Reprinting.{Prints, prints_then, prints_done, prints_either, prints_as, prints_in, prints_from}
use Rattle.ir_printer.proofs.RoundsReprinted.{prints_rounds}
use Rattle.ir_printer.proofs.TokensReprinted.{prints_comma, prints_mapped, AsActs}

-- ---- marks

pub commas_more : {A : Type 0} (own : A → List Mark) (xs : List A) (x : A) → after_commas (map own (xs ++ x ∷ [])) ≡ after_commas (map own xs) ++ comma ∷ own x
commas_more own [] x = append-nil (comma ∷ own x)
commas_more own (y ∷ ys) x = ap (λ (ms : List Mark). with_comma (own y) ++ ms) (commas_more own ys x) ∙ sym (append_assoc (with_comma (own y)) (after_commas (map own ys)) (comma ∷ own x))

abbrev pub IsSome : {A : Type 0} → List A → Type 0
IsSome [] = ⊥
IsSome (x ∷ xs) = Unit {0}

pub some_more : {A : Type 0} (xs : List A) (x : A) → IsSome (xs ++ x ∷ [])
some_more [] x = tt
some_more (y ∷ ys) x = tt

pub separated_more : {A : Type 0} (own : A → List Mark) (xs : List A) (x : A) → IsSome xs → separated (map own (xs ++ x ∷ [])) ≡ separated (map own xs) ++ comma ∷ own x
separated_more own [] x h = absurd h
separated_more own (y ∷ ys) x h = ap (λ (ms : List Mark). own y ++ ms) (commas_more own ys x) ∙ sym (append_assoc (own y) (after_commas (map own ys)) (comma ∷ own x))

-- ---- forms

pub prints_beyond : {A : Type 0} {inside : Bool} {n : Tables} {f f2 : Form A} {own : A → List Mark} → Prints inside n f f2 [] own → Prints inside n (after_comma f) (after_comma f2) [] (λ a. comma ∷ own a)
prints_beyond h = prints_then prints_comma (λ (c : Unit {0}). prints_as h (λ a. refl))

-- parts, each after a comma
pub prints_commas : {A : Type 0} {inside : Bool} {n : Tables} {f f2 : Form A} (own : A → List Mark) → Prints inside n f f2 [] own → Prints inside n (many (sign 44) (after_comma f) []) (many (sign 44) (after_comma f2) []) [] (λ xs. after_commas (map own xs))
prints_commas {A = A} own h = prints_rounds (λ xs. sign 44) (λ xs. after_commas (map own xs)) (λ xs. Unit {0}) (λ x s u x1 s1 ok r. tt) (λ xs ok. prints_then (prints_beyond h) (λ (x : A). prints_done (commas_more own xs x))) (λ xs ok. prints_done refl) [] tt

-- parts after a first one
pub prints_after : {A : Type 0} {inside : Bool} {n : Tables} {f f2 : Form A} (own : A → List Mark) (a : A) → Prints inside n f f2 [] own → Prints inside n (many (sign 44) (after_comma f) (a ∷ [])) (many (sign 44) (after_comma f2) (a ∷ [])) (own a) (λ xs. separated (map own xs))
prints_after {A = A} {inside = inside} {n = n} {f = f} {f2 = f2} own a h =
    subst (λ (before : List Mark). Prints inside n (many (sign 44) (after_comma f) (a ∷ [])) (many (sign 44) (after_comma f2) (a ∷ [])) before (λ xs. separated (map own xs))) (append-nil (own a))
    (prints_rounds (λ xs. sign 44) (λ xs. separated (map own xs)) IsSome (λ x s u x1 s1 ok r. subst IsSome (ap (λ (y : List A × Names). y.0) r.6.1) (some_more x r.0)) (λ xs ok. prints_then (prints_beyond h) (λ (x : A). prints_done (separated_more own xs x ok))) (λ xs ok. prints_done refl) (a ∷ []) tt)

pub prints_listed : {A : Type 0} {inside : Bool} {n : Tables} {f f2 : Form A} (z : Set) (own : A → List Mark) → Prints inside n f f2 [] own → Prints inside n (listed z f) (listed z f2) [] (λ xs. separated (map own xs))
prints_listed {A = A} z own h = prints_either z (prints_then h (λ (a : A). prints_after own a h)) (prints_done refl)

-- ---- a name with another value

pub prints_named_as : {A B : Type 0} {inside : Bool} {n : Tables} (k : Kind) (h : List ℕ → Names → A × Names) (g : A → B) (own : A → List Mark) (all : B → List Mark) →
    Prints inside n (text k >>= λ m. act (h m)) (text k >>= λ m. act (h m)) [] own → ((a : A) → all (g a) ≡ own a) → Prints inside n (text k >>= λ m. act (AsActs h g m)) (text k >>= λ m. act (AsActs h g m)) [] all
prints_named_as {A = A} {B = B} k h g own all p e = prints_from to (prints_in (prints_mapped (text k >>= λ m. act (h m)) g own all p e) back)
  where
    to : (s : Names) (u : List Piece) (b : B) (t : Names) → (text k >>= λ m. act (AsActs h g m)).reads s u b t → ((text k >>= λ m. act (h m)) >>= λ a. ret (g a)).reads s u b t
    to s u b t r = ((h r.0 r.1).0, (h r.0 r.1).1, u, [], sym (append-nil u), (r.0, r.1, r.2, r.3, r.4, r.5, (r.6.0, refl)), (refl, r.6.1))

    back : (s : Names) (u : List Piece) (b : B) (t : Names) → ((text k >>= λ m. act (h m)) >>= λ a. ret (g a)).reads s u b t → (text k >>= λ m. act (AsActs h g m)).reads s u b t
    back s u b t r = (r.5.0, r.5.1, r.5.2, r.5.3, r.4 ∙ ap (λ (v : List Piece). r.2 ++ v) r.6.0 ∙ append-nil r.2 ∙ r.5.4, r.5.5, (r.5.6.0, ap (λ (x : A × Names). (g x.0, x.1)) r.5.6.1 ∙ r.6.1))
