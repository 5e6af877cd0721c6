-- A word among the words of several lists.
use Rattle.std.proofs.Common.{◌≡◌, ℕ, Bool, true, false, ◌||◌, List, [], ◌∷◌, ◌++◌, map, Option, Some, None, refl, sym, ◌∙◌, if◌then◌else◌}
use Rattle.std.specs.Str.{bytes_eq}
use Rattle.std.specs.Prelude.{is_some}
use Rattle.ir_core.specs.Opcodes.{with_words, named}
use Rattle.ir_grammar.specs.Sets.{among}
use Rattle.ir_grammar.specs.Tokens.{look}
use Rattle.ir_grammar.proofs.LookedUp.{look_told}
use Rattle.ir_phrases.specs.Gives.{IsVerdict}

among_append : (vs ws : List (List ℕ)) (w : List ℕ) → among (vs ++ ws) w ≡ (among vs w || among ws w)
among_append [] ws w = refl
among_append (v ∷ vs) ws w = step (bytes_eq w v) (among vs w) (among ws w) (among (vs ++ ws) w) (among_append vs ws w)
  where
    step : (a b c d : Bool) → d ≡ (b || c) → (a || d) ≡ ((a || b) || c)
    step true b c d e = refl
    step false b c d e = e

same_or : (a b x y : Bool) → a ≡ x → b ≡ y → (a || b) ≡ (x || y)
same_or a b x y e f = cc

either_list : (vs ws : List (List ℕ)) (w : List ℕ) (a b : Bool) → a ≡ among vs w → b ≡ among ws w → (a || b) ≡ among (vs ++ ws) w
either_list vs ws w a b e f = same_or a b (among vs w) (among ws w) e f ∙ sym (among_append vs ws w)

-- what is one of three, where it is so of three lists
pub three_lists : (us vs ws : List (List ℕ)) (w : List ℕ) (r a b c : Bool) → r ≡ (a || (b || c)) → a ≡ among us w → b ≡ among vs w → c ≡ among ws w → r ≡ among (us ++ (vs ++ ws)) w
three_lists us vs ws w r a b c h e f g = h ∙ either_list us (vs ++ ws) w a (b || c) e (either_list vs ws w b c f g)

swapped : (a b c d : Bool) → (a || (c || (b || d))) ≡ (a || (b || (c || d)))
swapped true b c d = refl
swapped false true true d = refl
swapped false true false d = refl
swapped false false true d = refl
swapped false false false d = refl

-- what is one of four lists, where it is so of the first, of the third, or of the second and the last
pub four_lists : (us vs ws xs : List (List ℕ)) (w : List ℕ) (r a b c : Bool) → r ≡ (a || (b || c)) → a ≡ among us w → b ≡ among ws w → c ≡ among (vs ++ xs) w → r ≡ among (us ++ (vs ++ (ws ++ xs))) w
four_lists us vs ws xs w r a b c h e f g =
    rw (h, e, f, g, among_append vs xs w, among_append us (vs ++ (ws ++ xs)) w, among_append vs (ws ++ xs) w, among_append ws xs w) (swapped (among us w) (among vs w) (among ws w) (among xs w))

-- a word names one of these exactly where it is among their words
pub is_named : {A : Type 0} (text : A → List ℕ) (all : List A) (w : List ℕ) → is_some (named (with_words text all) w) ≡ among (map text all) w
is_named text [] w = refl
is_named {A = A} text (a ∷ all) w = by_test (bytes_eq w (text a)) (is_named text all w)
  where
    by_test : (b : Bool) → is_some (named (with_words text all) w) ≡ among (map text all) w → is_some (if b then Some a else named (with_words text all) w) ≡ (b || among (map text all) w)
    by_test true h = refl
    by_test false h = h

-- what a word names in a table is what a look-up takes
pub named_verdict : {A : Type 0} (table : List (List ℕ × A)) (w : List ℕ) (told : Option A) → told ≡ named table w → IsVerdict told (look table w)
named_verdict table w None same = look_told table w None same
named_verdict table w (Some a) same = look_told table w (Some a) same
