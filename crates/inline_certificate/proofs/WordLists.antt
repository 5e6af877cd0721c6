-- Numbers of functions, each after a blank.
use Rattle.std.proofs.Common.{◌≡◌, ◌≢◌, ℕ, Bool, true, false, length, take, drop, List, [], ◌∷◌, ◌++◌, refl, sym, ap, subst, ◌∙◌, arith, append_assoc, ◌==◌}
use Rattle.std.specs.Prelude.{decimal, flat_map}
use Rattle.std.specs.List.{position_or_len}
use Rattle.std.specs.Str.Parse.{AllDigits}
use Rattle.std.proofs.lemmas.Bool.Decides.{nat_tests}
use Rattle.std.proofs.lemmas.Fmt.{decimal_injective}
use Rattle.std.proofs.lemmas.Grind.{flat_map-append}
use Rattle.std.proofs.lemmas.List.{append-nil, take-append-le, take_all}
use Rattle.std.proofs.lemmas.Str.Parse.{digit_from_value}
use Rattle.oi_base.specs.declared.ids.FuncId.{FuncId}
use Rattle.decisions.proofs.Entries.{space_at}
use Rattle.inline_certificate.specs.Text.{func_word}
use Rattle.inline_certificate.specs.Certificates.{IsWord, AreFuncs}
use Rattle.inline_certificate.specs.Parts.{IsAfterBlank}
use Rattle.inline_certificate.specs.Steps.{IsWordOf}
use Rattle.inline_certificate.proofs.Numerals.{digits_of}

abbrev pub words_of : List FuncId → List ℕ
words_of fs = flat_map func_word fs

no_space : (c : ℕ) (cs : List ℕ) → AllDigits 10 (c ∷ cs) → (c == 32) ≡ false
no_space c cs h = let r = digit_from_value c h.0 in grind (arith, nat_tests)

no_space_at : (ds : List ℕ) → AllDigits 10 ds → position_or_len (λ b. b == 32) (ds ++ []) ≡ length ds
no_space_at [] h = refl
no_space_at (c ∷ cs) h = rw (no_space c cs h) (grind (arith, no_space_at cs h.1))

word_end : (ds : List ℕ) (fs : List FuncId) → AllDigits 10 ds → position_or_len (λ b. b == 32) (ds ++ words_of fs) ≡ length ds
word_end ds [] h = no_space_at ds h
word_end ds (f ∷ fs) h = space_at ds (decimal f.0 ++ words_of fs) h

front : (xs ys : List ℕ) → take (length xs) (xs ++ ys) ≡ xs
front xs ys = take-append-le (length xs) xs ys (omega arith) ∙ take_all (length xs) xs (omega arith)

back : (xs ys : List ℕ) → drop (length xs) (xs ++ ys) ≡ ys
back [] ys = refl
back (x ∷ xs) ys = back xs ys

-- what is cut off before the next blank is a number's word
pub word_cut : (after : List ℕ) (k : ℕ) (n : ℕ) (fs : List FuncId) → IsWord n → after ≡ decimal n ++ words_of fs → k ≡ position_or_len (λ b. b == 32) after → (take k after ≡ decimal n) × (drop k after ≡ words_of fs)
word_cut after k n fs lt is at =
    let place : k ≡ length (decimal n) = at ∙ ap (λ (l : List ℕ). position_or_len (λ b. b == 32) l) is ∙ word_end (decimal n) fs (digits_of n lt).1 in
    (rw (place, is) (front (decimal n) (words_of fs)), rw (place, is) (back (decimal n) (words_of fs)))

abbrev pub Others : List ℕ → List ℕ → Type 0
Others words rest = (fs : List FuncId) → AreFuncs fs → words ≡ words_of fs → (more : List FuncId) × AreFuncs more × (rest ≡ words_of more)

abbrev AreWords : List ℕ → List FuncId → Type 0
AreWords words fs = IsWordOf (λ fs. flat_map func_word fs) AreFuncs words fs

some_left : (rest : List ℕ) (b : Bool) → b ≡ (length rest == 0) → b ≡ false → rest ≢ []
some_left rest b told miss e = let k : length rest ≡ 0 = ap (λ (l : List ℕ). length l) e in grind (arith, nat_tests)

-- where no blank comes next
pub no_blank : (words rest : List ℕ) → Others words rest → rest ≢ [] → (IsAfterBlank rest → ⊥) → (fs : List FuncId) → AreWords words fs → ⊥
no_blank words rest others some none fs w = by_more (others fs w.fits w.is)
  where
    by_more : ((more : List FuncId) × AreFuncs more × (rest ≡ words_of more)) → ⊥
    by_more ([], h, e) = some e
    by_more (f ∷ more, h, e) = none (decimal f.0 ++ words_of more, e)

cons_tail : (x y : ℕ) (xs ys : List ℕ) → x ∷ xs ≡ y ∷ ys → xs ≡ ys
cons_tail x y xs ys e = cc

cons_head : (x y : ℕ) (xs ys : List ℕ) → x ∷ xs ≡ y ∷ ys → x ≡ y
cons_head x y xs ys e = cc

-- where no number comes next
pub no_number : (words rest after : List ℕ) (k : ℕ) (word : List ℕ) → Others words rest → rest ≡ 32 ∷ after → k ≡ position_or_len (λ b. b == 32) after → word ≡ take k after → ((n : ℕ) → IsWordOf decimal IsWord word n → ⊥) → (fs : List FuncId) → AreWords words fs → ⊥
no_number words rest after k word others is at cut none fs w = by_more (others fs w.fits w.is)
  where
    by_more : ((more : List FuncId) × AreFuncs more × (rest ≡ words_of more)) → ⊥
    by_more ([], h, e) = let clash : 32 ∷ after ≡ [] = sym is ∙ e in cc
    by_more (f ∷ more, h, e) =
        let tail : after ≡ decimal f.0 ++ words_of more = cons_tail 32 32 after (decimal f.0 ++ words_of more) (sym is ∙ e) in
        none f.0 (record { is = cut ∙ (word_cut after k f.0 more h.0 tail at).0; fits = h.0 })

more_funcs : (fs : List FuncId) (f : FuncId) → AreFuncs fs → IsWord f.0 → AreFuncs (fs ++ f ∷ [])
more_funcs [] f h lt = (lt, tt)
more_funcs (x ∷ fs) f h lt = (h.0, more_funcs fs f h.1 lt)

pub next_words : (fs new : List FuncId) (n : ℕ) → AreFuncs fs → IsWord n → new ≡ fs ++ record { 0 = n } ∷ [] → AreFuncs new
next_words fs new n h lt is = subst (λ (l : List FuncId). AreFuncs l) (sym is) (more_funcs fs (record { 0 = n }) h lt)

pub next_so_far : (words rest after : List ℕ) (k : ℕ) (word more : List ℕ) (fs new : List FuncId) (n : ℕ) → words ≡ words_of fs ++ rest → rest ≡ 32 ∷ after → after ≡ word ++ more → word ≡ decimal n → new ≡ fs ++ record { 0 = n } ∷ [] → words ≡ words_of new ++ more
next_so_far words rest after k word more fs new n so_far is whole number is_new =
    let f : FuncId = record { 0 = n } in
    so_far
    ∙ ap (λ (l : List ℕ). words_of fs ++ l) (is ∙ ap (λ (l : List ℕ). 32 ∷ l) (whole ∙ ap (λ (l : List ℕ). l ++ more) number))
    ∙ sym (append_assoc (words_of fs) (func_word f) more)
    ∙ ap (λ (l : List ℕ). (words_of fs ++ l) ++ more) (sym (append-nil (func_word f)))
    ∙ ap (λ (l : List ℕ). l ++ more) (sym (flat_map-append func_word fs (f ∷ [])))
    ∙ ap (λ (l : List FuncId). words_of l ++ more) (sym is_new)

pub next_others : (words rest after : List ℕ) (k : ℕ) (next : List ℕ) → Others words rest → rest ≡ 32 ∷ after → k ≡ position_or_len (λ b. b == 32) after → next ≡ drop k after → Others words next
next_others words rest after k next others is at cut fs h e = by_more (others fs h e)
  where
    by_more : ((more : List FuncId) × AreFuncs more × (rest ≡ words_of more)) → (more : List FuncId) × AreFuncs more × (next ≡ words_of more)
    by_more ([], h, e) = absurd (let clash : 32 ∷ after ≡ [] = sym is ∙ e in cc)
    by_more (f ∷ more, h, e) =
        let tail : after ≡ decimal f.0 ++ words_of more = cons_tail 32 32 after (decimal f.0 ++ words_of more) (sym is ∙ e) in
        (more, h.1, cut ∙ (word_cut after k f.0 more h.0 tail at).1)

pub is_some_left : (rest : List ℕ) (b : Bool) → b ≡ (length rest == 0) → b ≡ false → rest ≢ []
is_some_left rest b told miss = some_left rest b told miss

-- all words are told
pub all_words : (words rest : List ℕ) (fs : List FuncId) (b : Bool) → words ≡ words_of fs ++ rest → AreFuncs fs → b ≡ (length rest == 0) → b ≡ true → AreWords words fs
all_words words [] fs b so_far h told hit = record { is = so_far ∙ append-nil (words_of fs); fits = h }
all_words words (c ∷ cs) fs b so_far h told hit = absurd (by_length (sym told ∙ hit))
  where
    by_length : (length (c ∷ cs) == 0) ≡ true → ⊥
    by_length e = let k : length (c ∷ cs) ≡ 0 = grind (arith, nat_tests) in omega arith

one_func : (f g : FuncId) → f.0 ≡ g.0 → f ≡ g
one_func f g e = ap (λ (n : ℕ). let x : FuncId = record { 0 = n } in x) e

-- words are those of one list
pub same_words : (fs gs : List FuncId) → AreFuncs fs → AreFuncs gs → words_of fs ≡ words_of gs → fs ≡ gs
same_words [] [] h k e = refl
same_words [] (g ∷ gs) h k e = cc
same_words (f ∷ fs) [] h k e = cc
same_words (f ∷ fs) (g ∷ gs) h k e =
    let after = decimal f.0 ++ words_of fs in
    let tail : after ≡ decimal g.0 ++ words_of gs = cons_tail 32 32 after (decimal g.0 ++ words_of gs) e in
    let a = word_cut after (position_or_len (λ b. b == 32) after) f.0 fs h.0 refl refl in
    let b = word_cut after (position_or_len (λ b. b == 32) after) g.0 gs k.0 tail refl in
    let lt = h.0 in
    let lt' = k.0 in
    let number : f.0 ≡ g.0 = decimal_injective f.0 g.0 (omega arith) (omega arith) (sym a.0 ∙ b.0) in
    ap (λ (x : FuncId). x ∷ fs) (one_func f g number) ∙ ap (λ (l : List FuncId). g ∷ l) (same_words fs gs h.1 k.1 (sym a.1 ∙ b.1))
