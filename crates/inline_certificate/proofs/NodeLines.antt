-- The lines of nodes by their first byte.
use Rattle.std.proofs.Common.{◌≡◌, ◌≢◌, ℕ, ◌<◌, ◌≤◌, length, List, [], ◌∷◌, ◌++◌, refl, sym, ap, subst, ◌∙◌, arith}
use Rattle.std.specs.Prelude.{decimal, flat_map, Option}
use Rattle.oi_base.specs.declared.ids.FuncId.{FuncId}
use Rattle.inline_certificate.specs.declared.nodes.CertNode.{CertNode}
use Rattle.inline_certificate.specs.declared.nodes.CertNode.TheVariants.{Leaf, Branch, Split, Cut}
use Rattle.inline_certificate.specs.Text.{value_word, func_word, node_line, text_line}
use Rattle.inline_certificate.specs.Certificates.{IsWord, IsValue, AreFuncs}
use Rattle.inline_certificate.specs.Parts.{IsAfterBlank, IsInside}
use Rattle.inline_certificate.specs.Steps.{IsLineOf, IsWordOf}
use Rattle.inline_certificate.proofs.WordLists.{same_words}

pub one_end : (xs ys : List ℕ) → xs ++ 10 ∷ [] ≡ ys ++ 10 ∷ [] → xs ≡ ys
one_end [] [] e = refl
one_end [] (y ∷ []) e = cc
one_end [] (y ∷ z ∷ zs) e = cc
one_end (x ∷ []) [] e = cc
one_end (x ∷ z ∷ zs) [] e = cc
one_end (x ∷ xs) (y ∷ ys) e =
    let head : x ≡ y = cc in
    let tail : xs ++ 10 ∷ [] ≡ ys ++ 10 ∷ [] = cc in
    ap (λ (z : ℕ). z ∷ xs) head ∙ ap (λ (l : List ℕ). y ∷ l) (one_end xs ys tail)

abbrev line_with : ℕ → List ℕ → List ℕ
line_with kind rest = kind ∷ (rest ++ 10 ∷ [])

tail_of : (a b : ℕ) (xs ys : List ℕ) → a ∷ xs ≡ b ∷ ys → xs ≡ ys
tail_of a b xs ys e = cc

head_of : (a b : ℕ) (xs ys : List ℕ) → a ∷ xs ≡ b ∷ ys → a ≡ b
head_of a b xs ys e = cc

-- ---- a leaf

pub is_leaf : (rest word : List ℕ) (v : Option ℕ) → rest ≡ 32 ∷ word → IsWordOf value_word IsValue word v → IsLineOf (line_with 76 rest) (Leaf v)
unfolding node_line
is_leaf rest word v e w = record { is = ap (λ (l : List ℕ). 76 ∷ (l ++ 10 ∷ [])) (e ∙ ap (λ (l : List ℕ). 32 ∷ l) w.is); words = w.fits; two = tt }

leaf_word : (rest : List ℕ) (n : CertNode) → IsLineOf (line_with 76 rest) n → (v : Option ℕ) × (rest ≡ 32 ∷ value_word v) × IsValue v
unfolding node_line
leaf_word rest (Leaf v) h = (v, one_end rest (32 ∷ value_word v) (tail_of 76 76 _ _ h.is), h.words)
leaf_word rest (Branch s) h = absurd (let k = head_of 76 66 _ _ h.is in omega arith)
leaf_word rest (Split fs) h = absurd (let k = head_of 76 83 _ _ h.is in omega arith)
leaf_word rest (Cut v) h = absurd (let k = head_of 76 67 _ _ h.is in omega arith)

pub leaf_needs_blank : (rest : List ℕ) → (IsAfterBlank rest → ⊥) → (n : CertNode) → IsLineOf (line_with 76 rest) n → ⊥
leaf_needs_blank rest none n h = let w = leaf_word rest n h in none (value_word w.0, w.1)

pub leaf_needs_value : (rest word : List ℕ) → rest ≡ 32 ∷ word → ((v : Option ℕ) → IsWordOf value_word IsValue word v → ⊥) → (n : CertNode) → IsLineOf (line_with 76 rest) n → ⊥
leaf_needs_value rest word e none n h = let w = leaf_word rest n h in none w.0 (record { is = tail_of 32 32 word (value_word w.0) (sym e ∙ w.1); fits = w.2 })

-- ---- a cut

pub is_cut : (rest word : List ℕ) (v : Option ℕ) → rest ≡ 32 ∷ word → IsWordOf value_word IsValue word v → IsLineOf (line_with 67 rest) (Cut v)
unfolding node_line
is_cut rest word v e w = record { is = ap (λ (l : List ℕ). 67 ∷ (l ++ 10 ∷ [])) (e ∙ ap (λ (l : List ℕ). 32 ∷ l) w.is); words = w.fits; two = tt }

cut_word : (rest : List ℕ) (n : CertNode) → IsLineOf (line_with 67 rest) n → (v : Option ℕ) × (rest ≡ 32 ∷ value_word v) × IsValue v
unfolding node_line
cut_word rest (Leaf v) h = absurd (let k = head_of 67 76 _ _ h.is in omega arith)
cut_word rest (Branch s) h = absurd (let k = head_of 67 66 _ _ h.is in omega arith)
cut_word rest (Split fs) h = absurd (let k = head_of 67 83 _ _ h.is in omega arith)
cut_word rest (Cut v) h = (v, one_end rest (32 ∷ value_word v) (tail_of 67 67 _ _ h.is), h.words)

pub cut_needs_blank : (rest : List ℕ) → (IsAfterBlank rest → ⊥) → (n : CertNode) → IsLineOf (line_with 67 rest) n → ⊥
cut_needs_blank rest none n h = let w = cut_word rest n h in none (value_word w.0, w.1)

pub cut_needs_value : (rest word : List ℕ) → rest ≡ 32 ∷ word → ((v : Option ℕ) → IsWordOf value_word IsValue word v → ⊥) → (n : CertNode) → IsLineOf (line_with 67 rest) n → ⊥
cut_needs_value rest word e none n h = let w = cut_word rest n h in none w.0 (record { is = tail_of 32 32 word (value_word w.0) (sym e ∙ w.1); fits = w.2 })

-- ---- a branch

pub is_branch : (rest word : List ℕ) (n : ℕ) → rest ≡ 32 ∷ word → IsWordOf decimal IsWord word n → IsLineOf (line_with 66 rest) (Branch (record { 0 = n }))
unfolding node_line
is_branch rest word n e w = record { is = ap (λ (l : List ℕ). 66 ∷ (l ++ 10 ∷ [])) (e ∙ ap (λ (l : List ℕ). 32 ∷ l) w.is); words = w.fits; two = tt }

branch_word : (rest : List ℕ) (n : CertNode) → IsLineOf (line_with 66 rest) n → (s : ℕ) × (rest ≡ 32 ∷ decimal s) × IsWord s
unfolding node_line
branch_word rest (Leaf v) h = absurd (let k = head_of 66 76 _ _ h.is in omega arith)
branch_word rest (Branch s) h = (s.0, one_end rest (32 ∷ decimal s.0) (tail_of 66 66 _ _ h.is), h.words)
branch_word rest (Split fs) h = absurd (let k = head_of 66 83 _ _ h.is in omega arith)
branch_word rest (Cut v) h = absurd (let k = head_of 66 67 _ _ h.is in omega arith)

pub branch_needs_blank : (rest : List ℕ) → (IsAfterBlank rest → ⊥) → (n : CertNode) → IsLineOf (line_with 66 rest) n → ⊥
branch_needs_blank rest none n h = let w = branch_word rest n h in none (decimal w.0, w.1)

pub branch_needs_number : (rest word : List ℕ) → rest ≡ 32 ∷ word → ((s : ℕ) → IsWordOf decimal IsWord word s → ⊥) → (n : CertNode) → IsLineOf (line_with 66 rest) n → ⊥
branch_needs_number rest word e none n h = let w = branch_word rest n h in none w.0 (record { is = tail_of 32 32 word (decimal w.0) (sym e ∙ w.1); fits = w.2 })

-- ---- a split

abbrev AreWords : List ℕ → List FuncId → Type 0
AreWords words fs = IsWordOf (λ fs. flat_map func_word fs) AreFuncs words fs

split_line : (rest : List ℕ) (fs : List FuncId) → rest ≡ flat_map func_word fs → line_with 83 rest ≡ node_line (Split fs)
unfolding node_line
split_line rest fs e = ap (λ (l : List ℕ). 83 ∷ (l ++ 10 ∷ [])) e

pub is_split : (rest : List ℕ) (fs gs : List FuncId) → AreWords rest fs → gs ≡ fs → 2 ≤ length fs → IsLineOf (line_with 83 rest) (Split gs)
is_split rest fs gs w same two = subst (λ (l : List FuncId). IsLineOf (line_with 83 rest) (Split l)) (sym same) (of fs w two)
  where
    of : (fs : List FuncId) → AreWords rest fs → 2 ≤ length fs → IsLineOf (line_with 83 rest) (Split fs)
    of fs w two = record { is = split_line rest fs w.is; words = w.fits; two = two }

split_words : (rest : List ℕ) (n : CertNode) → IsLineOf (line_with 83 rest) n → (fs : List FuncId) × AreWords rest fs × (2 ≤ length fs)
unfolding node_line
split_words rest (Leaf v) h = absurd (let k = head_of 83 76 _ _ h.is in omega arith)
split_words rest (Branch s) h = absurd (let k = head_of 83 66 _ _ h.is in omega arith)
split_words rest (Split fs) h = (fs, record { is = one_end rest (flat_map func_word fs) (tail_of 83 83 _ _ h.is); fits = h.words }, h.two)
split_words rest (Cut v) h = absurd (let k = head_of 83 67 _ _ h.is in omega arith)

pub split_needs_words : (rest : List ℕ) → ((fs : List FuncId) → AreWords rest fs → ⊥) → (n : CertNode) → IsLineOf (line_with 83 rest) n → ⊥
split_needs_words rest none n h = let w = split_words rest n h in none w.0 w.1

pub split_needs_two : (rest : List ℕ) (fs : List FuncId) → AreWords rest fs → length fs < 2 → (n : CertNode) → IsLineOf (line_with 83 rest) n → ⊥
split_needs_two rest fs w few n h =
    let v = split_words rest n h in
    let same : fs ≡ v.0 = same_words fs v.0 w.fits v.1.fits (sym w.is ∙ v.1.is) in
    omega (arith, few, v.2, ap (λ (l : List FuncId). length l) same)

-- ---- other lines

pub needs_inside : (line : List ℕ) → (IsInside line → ⊥) → (n : CertNode) → IsLineOf line n → ⊥
unfolding node_line
needs_inside line none (Leaf v) h = none (76, 32 ∷ value_word v, h.is)
needs_inside line none (Branch s) h = none (66, 32 ∷ decimal s.0, h.is)
needs_inside line none (Split fs) h = none (83, flat_map func_word fs, h.is)
needs_inside line none (Cut v) h = none (67, 32 ∷ value_word v, h.is)

pub needs_kind : (line rest : List ℕ) (kind : ℕ) → line ≡ line_with kind rest → kind ≢ 76 → kind ≢ 66 → kind ≢ 83 → kind ≢ 67 → (n : CertNode) → IsLineOf line n → ⊥
unfolding node_line
needs_kind line rest kind e l b s c (Leaf v) h = l (head_of kind 76 _ _ (sym e ∙ h.is))
needs_kind line rest kind e l b s c (Branch x) h = b (head_of kind 66 _ _ (sym e ∙ h.is))
needs_kind line rest kind e l b s c (Split fs) h = s (head_of kind 83 _ _ (sym e ∙ h.is))
needs_kind line rest kind e l b s c (Cut v) h = c (head_of kind 67 _ _ (sym e ∙ h.is))

-- ---- the line of the text

abbrev after_t : ℕ → List ℕ
after_t n = 101 ∷ 120 ∷ 116 ∷ 32 ∷ decimal n

pub text_needs_inside : (line : List ℕ) → (IsInside line → ⊥) → (n : ℕ) → IsWordOf text_line IsWord line n → ⊥
text_needs_inside line none n w = none (116, after_t n, w.is)

pub text_needs_t : (line rest : List ℕ) (kind : ℕ) → line ≡ line_with kind rest → kind ≢ 116 → (n : ℕ) → IsWordOf text_line IsWord line n → ⊥
text_needs_t line rest kind e miss n w = miss (head_of kind 116 _ _ (sym e ∙ w.is))

text_rest : (line rest : List ℕ) (kind n : ℕ) → line ≡ line_with kind rest → IsWordOf text_line IsWord line n → rest ≡ after_t n
text_rest line rest kind n e w = one_end rest (after_t n) (tail_of kind 116 _ _ (sym e ∙ w.is))

pub text_needs_start : (line rest : List ℕ) (kind : ℕ) → line ≡ line_with kind rest → ((more : List ℕ) → rest ≡ 101 ∷ 120 ∷ 116 ∷ 32 ∷ more → ⊥) → (n : ℕ) → IsWordOf text_line IsWord line n → ⊥
text_needs_start line rest kind e none n w = none (decimal n) (text_rest line rest kind n e w)

four_tail : (a b c d : ℕ) (xs ys : List ℕ) → a ∷ b ∷ c ∷ d ∷ xs ≡ a ∷ b ∷ c ∷ d ∷ ys → xs ≡ ys
four_tail a b c d xs ys e = cc

pub is_text : (line rest word : List ℕ) (kind n : ℕ) → line ≡ line_with kind rest → kind ≡ 116 → rest ≡ 101 ∷ 120 ∷ 116 ∷ 32 ∷ word → IsWordOf decimal IsWord word n → IsWordOf text_line IsWord line n
is_text line rest word kind n e t start w = record {
  is = e ∙ ap (λ (k : ℕ). line_with k rest) t ∙ ap (λ (l : List ℕ). line_with 116 l) (start ∙ ap (λ (l : List ℕ). 101 ∷ 120 ∷ 116 ∷ 32 ∷ l) w.is);
  fits = w.fits;
}

pub text_needs_number : (line rest word : List ℕ) (kind : ℕ) → line ≡ line_with kind rest → rest ≡ 101 ∷ 120 ∷ 116 ∷ 32 ∷ word → ((n : ℕ) → IsWordOf decimal IsWord word n → ⊥) → (n : ℕ) → IsWordOf text_line IsWord line n → ⊥
text_needs_number line rest word kind e start none n w = none n (record { is = four_tail 101 120 116 32 word (decimal n) (sym start ∙ text_rest line rest kind n e w); fits = w.fits })
