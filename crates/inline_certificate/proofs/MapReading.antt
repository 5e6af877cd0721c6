-- The map's lines, up to the line `tree`.
use Rattle.std.proofs.Common.{◌≡◌, ◌≢◌, ℕ, ◌+◌, ◌≤◌, Bool, true, false, length, take, drop, List, [], ◌∷◌, ◌++◌, Some, refl, sym, ap, ◌∙◌, arith, append_assoc, length-append}
use Rattle.std.specs.Prelude.{bytes_eq}
use Rattle.std.proofs.lemmas.Grind.{flat_map-append}
use Rattle.std.proofs.lemmas.List.{append-nil, take-append-le, take_all}
use Rattle.std.proofs.lemmas.Slice.Eq.{bytes_eq-Decides}
use Rattle.decisions.specs.Reading.{lines_of}
use Rattle.inline_certificate.specs.Parts.{IsCutAt}
use Rattle.inline_certificate.specs.Text.{tree_line}
use Rattle.inline_certificate.specs.Reading.{before_tree, after_tree, joined}
use Rattle.inline_certificate.specs.Bodies.{EndsMap}

pub record InMap (bytes : List ℕ) (at lines : ℕ) (rest : List ℕ) (before : List (List ℕ)) : Type 0 where
  pub text : bytes ≡ joined before ++ rest
  pub place : at ≡ length (joined before)
  pub count : lines ≡ length before
  pub few : lines ≤ at
  pub so_far : before_tree (lines_of bytes) ≡ before ++ before_tree (lines_of rest)
  pub follows : after_tree (lines_of bytes) ≡ after_tree (lines_of rest)

pub begins : (bytes : List ℕ) → (before : List (List ℕ)) × InMap bytes 0 0 bytes before
begins bytes = ([], record { text = refl; place = refl; count = refl; few = omega arith; so_far = refl; follows = refl })

is_false : (b : Bool) → (b ≡ true → ⊥) → b ≡ false
is_false true h = absurd (h refl)
is_false false h = refl

other_line : (line : List ℕ) (lines : List (List ℕ)) → line ≢ tree_line → (before_tree (line ∷ lines) ≡ line ∷ before_tree lines) × (after_tree (line ∷ lines) ≡ after_tree lines)
other_line line lines differs =
    let out : bytes_eq line tree_line ≡ false = is_false (bytes_eq line tree_line) (λ e. differs ((bytes_eq-Decides line tree_line).0 e)) in
    (rw out refl, rw out refl)

tree_comes : (line : List ℕ) (lines : List (List ℕ)) → line ≡ tree_line → (before_tree (line ∷ lines) ≡ []) × (after_tree (line ∷ lines) ≡ Some lines)
tree_comes line lines is =
    let here : bytes_eq line tree_line ≡ true = (bytes_eq-Decides line tree_line).1 is in
    (rw here refl, rw here refl)

more_joined : (before : List (List ℕ)) (line : List ℕ) → joined (before ++ line ∷ []) ≡ joined before ++ line
more_joined before line = flat_map-append (λ (l : List ℕ). l) before (line ∷ []) ∙ ap (λ (l : List ℕ). joined before ++ l) (append-nil line)

pub room : (bytes : List ℕ) (at lines : ℕ) (rest line next : List ℕ) → ((before : List (List ℕ)) × InMap bytes at lines rest before) → IsCutAt rest line next → at + length line ≤ length bytes
room bytes at lines rest line next r cut =
    let whole : length bytes ≡ length (joined r.0) + length rest = ap (λ (l : List ℕ). length l) r.1.text ∙ length-append (joined r.0) rest in
    let parts : length rest ≡ length line + length next = ap (λ (l : List ℕ). length l) cut.whole ∙ length-append line next in
    omega (arith, r.1.place)

pub step : (bytes : List ℕ) (at lines : ℕ) (rest line next : List ℕ) → ((before : List (List ℕ)) × InMap bytes at lines rest before) → IsCutAt rest line next → line ≢ tree_line → (before : List (List ℕ)) × InMap bytes (at + length line) (lines + 1) next before
step bytes at lines rest line next r cut differs =
    let other = other_line line (lines_of next) differs in (
      r.0 ++ line ∷ [],
      record {
        text = r.1.text ∙ ap (λ (l : List ℕ). joined r.0 ++ l) cut.whole ∙ sym (append_assoc (joined r.0) line next) ∙ ap (λ (l : List ℕ). l ++ next) (sym (more_joined r.0 line));
        place = ap (λ (k : ℕ). k + length line) r.1.place ∙ sym (length-append (joined r.0) line) ∙ ap (λ (l : List ℕ). length l) (sym (more_joined r.0 line));
        count = omega (arith, r.1.count, length-append r.0 (line ∷ []));
        few = omega (arith, r.1.few, cut.some);
        so_far = r.1.so_far ∙ ap (λ (l : List (List ℕ)). r.0 ++ before_tree l) cut.lines ∙ ap (λ (l : List (List ℕ)). r.0 ++ l) other.0 ∙ sym (append_assoc r.0 (line ∷ []) (before_tree (lines_of next)));
        follows = r.1.follows ∙ ap (λ (l : List (List ℕ)). after_tree l) cut.lines ∙ other.1;
      },
    )

front : (xs ys : List ℕ) → take (length xs) (xs ++ ys) ≡ xs
front xs ys = take-append-le (length xs) xs ys (omega arith) ∙ take_all (length xs) xs (omega arith)

back : (xs ys : List ℕ) → drop (length xs) (xs ++ ys) ≡ ys
back [] ys = refl
back (x ∷ xs) ys = back xs ys

taken : (bytes : List ℕ) (at lines : ℕ) (rest : List ℕ) (before : List (List ℕ)) → InMap bytes at lines rest before → (take at bytes ≡ joined before) × (drop at bytes ≡ rest)
taken bytes at lines rest before r = (rw (r.place, r.text) (front (joined before) rest), rw (r.place, r.text) (back (joined before) rest))

inside : (bytes : List ℕ) (at lines : ℕ) (rest : List ℕ) (before : List (List ℕ)) → InMap bytes at lines rest before → at + length rest ≡ length bytes
inside bytes at lines rest before r = omega (arith, r.place, ap (λ (l : List ℕ). length l) r.text ∙ length-append (joined before) rest)

ending : (bytes : List ℕ) (at lines : ℕ) (rest : List ℕ) (before : List (List ℕ)) → InMap bytes at lines rest before → before_tree (lines_of rest) ≡ [] → before ≡ before_tree (lines_of bytes)
ending bytes at lines rest before r none = sym (r.so_far ∙ ap (λ (l : List (List ℕ)). before ++ l) none ∙ append-nil before)

pub found : (bytes : List ℕ) (at lines : ℕ) (rest line next : List ℕ) → ((before : List (List ℕ)) × InMap bytes at lines rest before) → IsCutAt rest line next → line ≡ tree_line → EndsMap bytes at lines false
found bytes at lines rest line next r cut is =
    let t = taken bytes at lines rest r.0 r.1 in
    let comes = tree_comes line (lines_of next) is in
    let none : before_tree (lines_of rest) ≡ [] = ap (λ (l : List (List ℕ)). before_tree l) cut.lines ∙ comes.0 in
    let all = ending bytes at lines rest r.0 r.1 none in
    let tree : rest ≡ tree_line ++ next = cut.whole ∙ ap (λ (l : List ℕ). l ++ next) is in
    let five : drop 5 (drop at bytes) ≡ next = ap (λ (l : List ℕ). drop 5 l) (t.1 ∙ tree) in record {
      within = omega (arith, inside bytes at lines rest r.0 r.1);
      few = r.1.few;
      text = t.0 ∙ ap (λ (l : List (List ℕ)). joined l) all;
      count = r.1.count ∙ ap (λ (l : List (List ℕ)). length l) all;
      follows = record {
        within = omega (arith, inside bytes at lines rest r.0 r.1, ap (λ (l : List ℕ). length l) tree ∙ length-append tree_line next);
        lines = r.1.follows ∙ ap (λ (l : List (List ℕ)). after_tree l) cut.lines ∙ comes.1 ∙ ap (λ (l : List ℕ). Some (lines_of l)) (sym five);
        text = t.1 ∙ tree ∙ ap (λ (l : List ℕ). tree_line ++ l) (sym five);
      };
    }

empty : (rest : List ℕ) → length rest ≡ 0 → rest ≡ []
empty [] e = refl
empty (c ∷ cs) e = absurd (omega arith)

pub not_found : (bytes : List ℕ) (at lines : ℕ) (rest : List ℕ) → ((before : List (List ℕ)) × InMap bytes at lines rest before) → length rest ≡ 0 → EndsMap bytes at lines true
not_found bytes at lines rest r e =
    let t = taken bytes at lines rest r.0 r.1 in
    let nothing = empty rest e in
    let all = ending bytes at lines rest r.0 r.1 (ap (λ (l : List ℕ). before_tree (lines_of l)) nothing) in record {
      within = omega (arith, inside bytes at lines rest r.0 r.1);
      few = r.1.few;
      text = t.0 ∙ ap (λ (l : List (List ℕ)). joined l) all;
      count = r.1.count ∙ ap (λ (l : List (List ℕ)). length l) all;
      follows = r.1.follows ∙ ap (λ (l : List ℕ). after_tree (lines_of l)) nothing;
    }
