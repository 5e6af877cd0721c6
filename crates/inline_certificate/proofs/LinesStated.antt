-- What a line states is what is read from it.
use Rattle.std.proofs.Common.{◌≡◌, ℕ, zero, suc, ◌+◌, ◌*◌, ◌<◌, Bool, true, false, cond, length, map, List, [], ◌∷◌, ◌++◌, Some, None, inl, inr, refl, sym, ap, subst, ◌∙◌, arith, append_assoc}
use Rattle.std.specs.Prelude.{Option, ◌⊎◌, ◌&&◌, nat_lt, decimal, find, bytes_eq}
use Rattle.std.specs.Char.{digit_value}
use Rattle.std.specs.Str.Parse.{AllDigits, digits_value, digits_value_after}
use Rattle.std.proofs.lemmas.Bool.Decides.{nat_tests}
use Rattle.std.proofs.lemmas.Slice.Eq.{bytes_eq-Decides}
use Rattle.oi_base.specs.declared.ids.SiteId.{SiteId}
use Rattle.oi_base.specs.declared.ids.FuncId.{FuncId}
use Rattle.inline_certificate.specs.declared.nodes.CertNode.{CertNode}
use Rattle.inline_certificate.specs.declared.nodes.CertNode.TheVariants.{Leaf, Branch, Split, Cut}
use Rattle.inline_certificate.specs.Text.{node_line, version_line, text_line}
use Rattle.inline_certificate.specs.Certificates.{IsWord, IsValue, IsNode, AreFuncs, IsVersion}
use Rattle.inline_certificate.specs.Reading.{numbers_from, numbers_in, func_numbered, nodes_with, is_word, are_funcs, is_value, is_node, node_of, version_of, stated_text}
use Rattle.inline_certificate.specs.Steps.{ListsTwo, IsLineOf, ReadsAs, IsWordOf, Spells}
use Rattle.inline_certificate.proofs.Numerals.{digits_of, line_of_one, line_of_two}
use Rattle.inline_certificate.proofs.WordLists.{words_of}

-- ---- the numbers in a line

abbrev is_digit : ℕ → Bool
is_digit b = nat_lt (digit_value b) 10

run : (ds : List ℕ) (n b : ℕ) (rest : List ℕ) → AllDigits 10 ds → is_digit b ≡ false → numbers_from (Some n) (ds ++ b ∷ rest) ≡ digits_value_after 10 n ds ∷ numbers_from None rest
run [] n b rest h out = rw out refl
run (d ∷ ds) n b rest h out =
    let digit : is_digit d ≡ true = grind (arith, nat_tests, h.0) in
    rw digit (run ds (n * 10 + digit_value d) b rest h.1 out)

digits_first : (ds : List ℕ) (b : ℕ) (rest : List ℕ) → 0 < length ds → AllDigits 10 ds → is_digit b ≡ false → numbers_from None (ds ++ b ∷ rest) ≡ digits_value 10 ds ∷ numbers_from None rest
digits_first [] b rest lt h out = absurd (omega arith)
digits_first (d ∷ ds) b rest lt h out =
    let digit : is_digit d ≡ true = grind (arith, nat_tests, h.0) in
    rw digit (run ds (0 * 10 + digit_value d) b rest h.1 out)

number_first : (n b : ℕ) (rest : List ℕ) → IsWord n → is_digit b ≡ false → numbers_from None (decimal n ++ b ∷ rest) ≡ n ∷ numbers_from None rest
number_first n b rest lt out = let p = digits_of n lt in digits_first (decimal n) b rest p.0 p.1 out ∙ ap (λ (k : ℕ). k ∷ numbers_from None rest) p.2

after_other : (b : ℕ) (rest : List ℕ) → is_digit b ≡ false → numbers_from None (b ∷ rest) ≡ numbers_from None rest
after_other b rest out = rw out refl

abbrev Begins : List ℕ → Type 0
Begins bs = (b : ℕ) × (rest : List ℕ) × (bs ≡ b ∷ rest) × (is_digit b ≡ false)

words_begin : (fs : List FuncId) → Begins (words_of fs ++ 10 ∷ [])
words_begin [] = (10, [], refl, refl)
words_begin (f ∷ fs) = (32, (decimal f.0 ++ words_of fs) ++ 10 ∷ [], refl, refl)

abbrev numbers_of : List FuncId → List ℕ
numbers_of fs = map (λ (f : FuncId). f.0) fs

numbers_in_words : (fs : List FuncId) → AreFuncs fs → numbers_from None (words_of fs ++ 10 ∷ []) ≡ numbers_of fs
numbers_in_words [] h = refl
numbers_in_words (f ∷ fs) h =
    let next = words_begin fs in
    after_other 32 ((decimal f.0 ++ words_of fs) ++ 10 ∷ []) refl
    ∙ ap (λ (l : List ℕ). numbers_from None l) (append_assoc (decimal f.0) (words_of fs) (10 ∷ []) ∙ ap (λ (l : List ℕ). decimal f.0 ++ l) next.2)
    ∙ number_first f.0 next.0 next.1 h.0 next.3
    ∙ ap (λ (l : List ℕ). f.0 ∷ l) (sym (after_other next.0 next.1 next.3) ∙ ap (λ (l : List ℕ). numbers_from None l) (sym next.2) ∙ numbers_in_words fs h.1)

-- ---- nodes

abbrev test : List ℕ → CertNode → Bool
test line n = is_node n && bytes_eq line (node_line n)

abbrev chosen : List ℕ → List ℕ → Option CertNode
chosen line ns = find (λ n. is_node n && bytes_eq line (node_line n)) (nodes_with ns)

by_numbers : (line ns : List ℕ) (o : Option CertNode) → numbers_in line ≡ ns → chosen line ns ≡ o → node_of line ≡ o
unfolding node_of
by_numbers line ns o e h = ap (λ (l : List ℕ). chosen line l) e ∙ h

is_word_true : (n : ℕ) → IsWord n → is_word n ≡ true
is_word_true n lt = grind (arith, nat_tests)

are_funcs_true : (fs : List FuncId) → AreFuncs fs → are_funcs fs ≡ true
are_funcs_true [] h = refl
are_funcs_true (f ∷ fs) h = rw (is_word_true f.0 h.0, are_funcs_true fs h.1) refl

value_true : (v : Option ℕ) → IsValue v → is_value v ≡ true
value_true None h = refl
value_true (Some n) h = is_word_true n h

node_true : (n : CertNode) → IsNode n → is_node n ≡ true
node_true (Leaf v) h = value_true v h
node_true (Branch s) h = is_word_true s.0 h
node_true (Split fs) h = are_funcs_true fs h
node_true (Cut v) h = value_true v h

passes : (n : CertNode) → IsNode n → test (node_line n) n ≡ true
passes n h =
    let same : bytes_eq (node_line n) (node_line n) ≡ true = (bytes_eq-Decides (node_line n) (node_line n)).1 refl in
    rw (node_true n h, same) refl

fails_by : (a b : Bool) → b ≡ false → (a && b) ≡ false
fails_by true b e = e
fails_by false b e = refl

is_false : (b : Bool) → (b ≡ true → ⊥) → b ≡ false
is_false true h = absurd (h refl)
is_false false h = refl

fails : (n m : CertNode) → (node_line n ≡ node_line m → ⊥) → test (node_line n) m ≡ false
fails n m differ = fails_by (is_node m) (bytes_eq (node_line n) (node_line m)) (is_false _ (λ e. differ ((bytes_eq-Decides (node_line n) (node_line m)).0 e)))

head_of : (a b : ℕ) (xs ys : List ℕ) → a ∷ xs ≡ b ∷ ys → a ≡ b
head_of a b xs ys e = cc

cut_no_leaf : (v w : Option ℕ) → node_line (Cut v) ≡ node_line (Leaf w) → ⊥
unfolding node_line
cut_no_leaf v w e = let k = head_of 67 76 _ _ e in omega arith

branch_no_leaf : (s : SiteId) (w : Option ℕ) → node_line (Branch s) ≡ node_line (Leaf w) → ⊥
unfolding node_line
branch_no_leaf s w e = let k = head_of 66 76 _ _ e in omega arith

branch_no_cut : (s : SiteId) (w : Option ℕ) → node_line (Branch s) ≡ node_line (Cut w) → ⊥
unfolding node_line
branch_no_cut s w e = let k = head_of 66 67 _ _ e in omega arith

leaf_numbers : (n : ℕ) → IsWord n → numbers_in (node_line (Leaf (Some n))) ≡ n ∷ []
unfolding node_line
leaf_numbers n h = number_first n 10 [] h refl

no_leaf_numbers : numbers_in (node_line (Leaf None)) ≡ []
unfolding node_line
no_leaf_numbers = refl

cut_numbers : (n : ℕ) → IsWord n → numbers_in (node_line (Cut (Some n))) ≡ n ∷ []
unfolding node_line
cut_numbers n h = number_first n 10 [] h refl

no_cut_numbers : numbers_in (node_line (Cut None)) ≡ []
unfolding node_line
no_cut_numbers = refl

branch_numbers : (s : SiteId) → IsWord s.0 → numbers_in (node_line (Branch s)) ≡ s.0 ∷ []
unfolding node_line
branch_numbers s h = number_first s.0 10 [] h refl

split_numbers : (fs : List FuncId) → AreFuncs fs → numbers_in (node_line (Split fs)) ≡ numbers_of fs
unfolding node_line
split_numbers fs h = numbers_in_words fs h

numbered_back : (fs : List FuncId) → map func_numbered (numbers_of fs) ≡ fs
numbered_back [] = refl
numbered_back (f ∷ fs) = ap (λ (l : List FuncId). f ∷ l) (numbered_back fs)

-- the node whose line it is is found
pub node_of_line : (n : CertNode) → IsNode n → ListsTwo n → node_of (node_line n) ≡ Some n
node_of_line (Leaf None) h two = by_numbers (node_line (Leaf None)) [] (Some (Leaf None)) no_leaf_numbers (rw (passes (Leaf None) h) refl)
node_of_line (Leaf (Some n)) h two = by_numbers (node_line (Leaf (Some n))) (n ∷ []) (Some (Leaf (Some n))) (leaf_numbers n h) (rw (passes (Leaf (Some n)) h) refl)
node_of_line (Branch s) h two = by_numbers (node_line (Branch s)) (s.0 ∷ []) (Some (Branch s)) (branch_numbers s h) (rw (fails (Branch s) (Leaf (Some s.0)) (branch_no_leaf s (Some s.0)), fails (Branch s) (Cut (Some s.0)) (branch_no_cut s (Some s.0)), passes (Branch s) h) refl)
node_of_line (Split []) h two = absurd (omega (arith, two))
node_of_line (Split (f ∷ [])) h two = absurd (omega (arith, two))
node_of_line (Split (f ∷ g ∷ gs)) h two =
    by_numbers (node_line (Split (f ∷ g ∷ gs))) (f.0 ∷ g.0 ∷ numbers_of gs) (Some (Split (f ∷ g ∷ gs))) (split_numbers (f ∷ g ∷ gs) h)
    (ap (λ (l : List FuncId). find (λ n. is_node n && bytes_eq (node_line (Split (f ∷ g ∷ gs))) (node_line n)) (Split (f ∷ g ∷ l) ∷ [])) (numbered_back gs) ∙ rw (passes (Split (f ∷ g ∷ gs)) h) refl)
node_of_line (Cut None) h two = by_numbers (node_line (Cut None)) [] (Some (Cut None)) no_cut_numbers (rw (fails (Cut None) (Leaf None) (cut_no_leaf None None), passes (Cut None) h) refl)
node_of_line (Cut (Some n)) h two = by_numbers (node_line (Cut (Some n))) (n ∷ []) (Some (Cut (Some n))) (cut_numbers n h) (rw (fails (Cut (Some n)) (Leaf (Some n)) (cut_no_leaf (Some n) (Some n)), passes (Cut (Some n)) h) refl)

-- ---- a node that is found is the one whose line it is

both : (a b : Bool) → (a && b) ≡ true → (a ≡ true) × (b ≡ true)
both true b e = (refl, e)
both false b e = cc

word_from : (n : ℕ) → is_word n ≡ true → IsWord n
word_from n e = grind (arith, nat_tests)

funcs_from : (fs : List FuncId) → are_funcs fs ≡ true → AreFuncs fs
funcs_from [] e = tt
funcs_from (f ∷ fs) e = let b = both (is_word f.0) (are_funcs fs) e in (word_from f.0 b.0, funcs_from fs b.1)

value_from : (v : Option ℕ) → is_value v ≡ true → IsValue v
value_from None e = tt
value_from (Some n) e = word_from n e

node_from : (n : CertNode) → is_node n ≡ true → IsNode n
node_from (Leaf v) e = value_from v e
node_from (Branch s) e = word_from s.0 e
node_from (Split fs) e = funcs_from fs e
node_from (Cut v) e = value_from v e

tested : (line : List ℕ) (n : CertNode) → ListsTwo n → test line n ≡ true → IsLineOf line n
tested line n two e = let b = both (is_node n) (bytes_eq line (node_line n)) e in record { is = (bytes_eq-Decides line (node_line n)).0 b.1; words = node_from n b.0; two = two }

first_or : (b : Bool) (x n : CertNode) (o : Option CertNode) → cond b (Some x) o ≡ Some n → ((b ≡ true) × (x ≡ n)) ⊎ (o ≡ Some n)
first_or true x n o e = inl (refl, cc)
first_or false x n o e = inr e

AllTwo : List CertNode → Type 0
AllTwo [] = Unit {0}
AllTwo (n ∷ ns) = ListsTwo n × AllTwo ns

found_in : (line : List ℕ) (ns : List CertNode) (n : CertNode) → AllTwo ns → find (λ n. is_node n && bytes_eq line (node_line n)) ns ≡ Some n → IsLineOf line n
unfolding AllTwo
found_in line [] n h e = cc
found_in line (x ∷ ns) n h e = by_first (first_or (test line x) x n (find (λ n. is_node n && bytes_eq line (node_line n)) ns) e) (found_in line ns n h.1)
  where
    by_first : ((test line x ≡ true) × (x ≡ n)) ⊎ (find (λ n. is_node n && bytes_eq line (node_line n)) ns ≡ Some n) → (find (λ n. is_node n && bytes_eq line (node_line n)) ns ≡ Some n → IsLineOf line n) → IsLineOf line n
    by_first (inl p) rest = subst (λ (m : CertNode). IsLineOf line m) p.1 (tested line x h.0 p.0)
    by_first (inr q) rest = rest q

all_two : (ns : List ℕ) → AllTwo (nodes_with ns)
unfolding AllTwo
all_two [] = (tt, (tt, tt))
all_two (n ∷ []) = (tt, (tt, (tt, tt)))
all_two (n ∷ m ∷ ns) = (omega arith, tt)

pub is_line_of_found : (line : List ℕ) (n : CertNode) → node_of line ≡ Some n → IsLineOf line n
unfolding node_of
is_line_of_found line n e = found_in line (nodes_with (numbers_in line)) n (all_two (numbers_in line)) e

pub read_node_is : (line : List ℕ) (o : Option CertNode) → ReadsAs line o → node_of line ≡ o
read_node_is line (Some n) h = ap (λ (l : List ℕ). node_of l) h.is ∙ node_of_line n h.words h.two
read_node_is line None h = by_value (node_of line) refl
  where
    by_value : (o : Option CertNode) → node_of line ≡ o → node_of line ≡ None
    by_value None e = e
    by_value (Some n) e = absurd (h n (is_line_of_found line n e))

-- ---- the number of the text, and the version

text_numbers : (n : ℕ) → IsWord n → numbers_in (text_line n) ≡ n ∷ []
text_numbers n h = number_first n 10 [] h refl

text_passes : (n : ℕ) → IsWord n → (is_word n && bytes_eq (text_line n) (text_line n)) ≡ true
text_passes n h =
    let same : bytes_eq (text_line n) (text_line n) ≡ true = (bytes_eq-Decides (text_line n) (text_line n)).1 refl in
    rw (is_word_true n h, same) refl

pub stated_by_line : (n : ℕ) → IsWord n → stated_text (text_line n) ≡ Some n
unfolding stated_text
stated_by_line n h = ap (λ (l : List ℕ). find (λ k. is_word k && bytes_eq (text_line n) (text_line k)) l) (text_numbers n h) ∙ rw (text_passes n h) refl

first_number_or : (b : Bool) (x n : ℕ) (o : Option ℕ) → cond b (Some x) o ≡ Some n → ((b ≡ true) × (x ≡ n)) ⊎ (o ≡ Some n)
first_number_or true x n o e = inl (refl, cc)
first_number_or false x n o e = inr e

number_found : (p : ℕ → Bool) (ns : List ℕ) (n : ℕ) → find p ns ≡ Some n → p n ≡ true
number_found p [] n e = cc
number_found p (x ∷ ns) n e = by_first (first_number_or (p x) x n (find p ns) e) (number_found p ns n)
  where
    by_first : ((p x ≡ true) × (x ≡ n)) ⊎ (find p ns ≡ Some n) → (find p ns ≡ Some n → p n ≡ true) → p n ≡ true
    by_first (inl q) rest = subst (λ (m : ℕ). p m ≡ true) q.1 q.0
    by_first (inr q) rest = rest q

stated_is_line : (line : List ℕ) (n : ℕ) → stated_text line ≡ Some n → IsWordOf text_line IsWord line n
unfolding stated_text
stated_is_line line n e = let b = both (is_word n) (bytes_eq line (text_line n)) (number_found (λ k. is_word k && bytes_eq line (text_line k)) (numbers_in line) n e) in record { is = (bytes_eq-Decides line (text_line n)).0 b.1; fits = word_from n b.0 }

pub stated_text_is : (line : List ℕ) (o : Option ℕ) → Spells text_line IsWord line o → stated_text line ≡ o
stated_text_is line (Some n) h = ap (λ (l : List ℕ). stated_text l) h.is ∙ stated_by_line n h.fits
stated_text_is line None h = by_value (stated_text line) refl
  where
    by_value : (o : Option ℕ) → stated_text line ≡ o → stated_text line ≡ None
    by_value None e = e
    by_value (Some n) e = absurd (h n (stated_is_line line n e))

abbrev line_ending : ℕ → List ℕ
line_ending d = 99 ∷ 101 ∷ 114 ∷ 116 ∷ 105 ∷ 102 ∷ 105 ∷ 99 ∷ 97 ∷ 116 ∷ 101 ∷ 32 ∷ d ∷ 10 ∷ []

last_digit : (a b : ℕ) → line_ending a ≡ line_ending b → a ≡ b
last_digit a b e = cc

line_differs : version_line 2 ≡ version_line 1 → ⊥
line_differs e = let k = last_digit 50 49 (line_of_two ∙ e ∙ sym line_of_one) in omega arith

pub version_by_line : (v : ℕ) → IsVersion v → version_of (version_line v) ≡ Some v
version_by_line zero h = absurd (omega (arith, h.0))
version_by_line (suc zero) h = rw ((bytes_eq-Decides (version_line 1) (version_line 1)).1 refl) refl
version_by_line (suc (suc zero)) h = rw (is_false (bytes_eq (version_line 2) (version_line 1)) (λ e. line_differs ((bytes_eq-Decides (version_line 2) (version_line 1)).0 e)), (bytes_eq-Decides (version_line 2) (version_line 2)).1 refl) refl
version_by_line (suc (suc (suc v))) h = absurd (omega (arith, h.1))

version_is_line : (line : List ℕ) (v : ℕ) → version_of line ≡ Some v → IsWordOf version_line IsVersion line v
version_is_line line v e = record { is = (bytes_eq-Decides line (version_line v)).0 (number_found (λ k. bytes_eq line (version_line k)) (1 ∷ 2 ∷ []) v e); fits = one_or_two }
  where
    by_first : ((bytes_eq line (version_line 1) ≡ true) × (1 ≡ v)) ⊎ (find (λ k. bytes_eq line (version_line k)) (2 ∷ []) ≡ Some v) → IsVersion v
    by_first (inl q) = (omega (arith, q.1), omega (arith, q.1))
    by_first (inr q) = by_second (first_number_or (bytes_eq line (version_line 2)) 2 v None q)
      where
        by_second : ((bytes_eq line (version_line 2) ≡ true) × (2 ≡ v)) ⊎ (None ≡ Some v) → IsVersion v
        by_second (inl q) = (omega (arith, q.1), omega (arith, q.1))
        by_second (inr q) = cc

    one_or_two : IsVersion v
    one_or_two = by_first (first_number_or (bytes_eq line (version_line 1)) 1 v (find (λ k. bytes_eq line (version_line k)) (2 ∷ [])) e)

pub version_of_is : (line : List ℕ) (o : Option ℕ) → Spells version_line IsVersion line o → version_of line ≡ o
version_of_is line (Some v) h = ap (λ (l : List ℕ). version_of l) h.is ∙ version_by_line v h.fits
version_of_is line None h = by_value (version_of line) refl
  where
    by_value : (o : Option ℕ) → version_of line ≡ o → version_of line ≡ None
    by_value None e = e
    by_value (Some v) e = absurd (h v (version_is_line line v e))
