-- Names by their positions in order of first appearance.
use Rattle.std.proofs.Common.{◌≡◌, refl, sym, ap, ◌∙◌, subst, ℕ, zero, suc, ◌+◌, ◌<◌, ◌≤◌, Bool, true, false, not, cond, nat_lt, List, [], ◌∷◌, ◌++◌, length, Some, None, ◌⊎◌, inl, inr, arith}
use Rattle.std.specs.Prelude.{max}
use Rattle.std.specs.List.{position_or_len}
use Rattle.std.specs.Str.{bytes_eq}
use Rattle.std.proofs.lemmas.Bool.Decides.{nat_tests}
use Rattle.std.proofs.lemmas.List.{append_assoc, append-nil, length-append}
use Rattle.std.proofs.lemmas.Bool.{cases_lt}
use Rattle.std.proofs.lemmas.Slice.Eq.{bytes_eq-Decides}
use Rattle.ir_grammar.specs.Names.{Begins, placed, numbered}
use Rattle.ir_grammar.proofs.Apart.{bytes_same}
use Rattle.ir_printer.specs.Layout.{name_at}

-- ---- the first place at which a test passes

by_first : (t : Bool) (m n k j : ℕ) → (m < n → k ≡ m) → cond (not t) (1 + m) 0 < suc n → cond (not t) (1 + k) 0 ≡ cond (not t) (1 + m) 0
by_first true m n k j h lt = refl
by_first false m n k j h lt = ap (λ (x : ℕ). 1 + x) (h (omega arith))

first_here : {A : Type 0} (p : A → Bool) (xs ys : List A) → position_or_len p xs < length xs → position_or_len p (xs ++ ys) ≡ position_or_len p xs
first_here p [] ys h = absurd (omega arith)
first_here p (x ∷ xs) ys h = by_first (p x) (position_or_len p xs) (length xs) (position_or_len p (xs ++ ys)) 0 (first_here p xs ys) h

by_beyond : (t : Bool) (m n k j : ℕ) → (m ≡ n → k ≡ n + j) → cond (not t) (1 + m) 0 ≡ suc n → cond (not t) (1 + k) 0 ≡ suc n + j
by_beyond true m n k j h e = absurd (omega arith)
by_beyond false m n k j h e = let g = h (omega arith) in omega arith

first_beyond : {A : Type 0} (p : A → Bool) (xs ys : List A) → position_or_len p xs ≡ length xs → position_or_len p (xs ++ ys) ≡ length xs + position_or_len p ys
first_beyond p [] ys e = omega arith
first_beyond p (x ∷ xs) ys e = by_beyond (p x) (position_or_len p xs) (length xs) (position_or_len p (xs ++ ys)) (position_or_len p ys) (first_beyond p xs ys) e

by_within : (t : Bool) (m n : ℕ) → m ≤ n → cond (not t) (1 + m) 0 ≤ suc n
by_within true m n h = omega arith
by_within false m n h = omega arith

first_within : {A : Type 0} (p : A → Bool) (xs : List A) → position_or_len p xs ≤ length xs
first_within p [] = omega arith
first_within p (x ∷ xs) = by_within (p x) (position_or_len p xs) (length xs) (first_within p xs)

-- ---- names

-- each name stands at its own position first: no name stands twice
abbrev pub IsIndexed : List (List ℕ) → Type 0
IsIndexed names = (k : ℕ) → k < length names → position_or_len (bytes_eq (name_at names k)) names ≡ k

pub name_front : (xs ys : List (List ℕ)) (k : ℕ) → k < length xs → name_at (xs ++ ys) k ≡ name_at xs k
name_front [] ys k h = absurd (omega arith)
name_front (x ∷ xs) ys zero h = refl
name_front (x ∷ xs) ys (suc k) h = name_front xs ys k (omega arith)

name_next : (xs ys : List (List ℕ)) (y : List ℕ) → name_at (xs ++ y ∷ ys) (length xs) ≡ y
name_next [] ys y = refl
name_next (x ∷ xs) ys y = name_next xs ys y

found_by : (name x : List ℕ) (xs : List (List ℕ)) (t : Bool) → bytes_eq name x ≡ t → (position_or_len (bytes_eq name) xs < length xs → name_at xs (position_or_len (bytes_eq name) xs) ≡ name) → cond (not t) (1 + position_or_len (bytes_eq name) xs) 0 < suc (length xs) → name_at (x ∷ xs) (cond (not t) (1 + position_or_len (bytes_eq name) xs) 0) ≡ name
found_by name x xs true e ih h = sym (bytes_same name x e)
found_by name x xs false e ih h =
    let one : 1 + position_or_len (bytes_eq name) xs ≡ suc (position_or_len (bytes_eq name) xs) = omega arith in
    ap (name_at (x ∷ xs)) one ∙ ih (omega arith)

found_name : (name : List ℕ) (xs : List (List ℕ)) → position_or_len (bytes_eq name) xs < length xs → name_at xs (position_or_len (bytes_eq name) xs) ≡ name
found_name name [] h = absurd (omega arith)
found_name name (x ∷ xs) h = found_by name x xs (bytes_eq name x) refl (found_name name xs) h

-- ---- a name appears

-- the position and the names, by a test whether the name is there
abbrev pub numbered_by : Bool → List ℕ → List (List ℕ) → ℕ × List (List ℕ)
numbered_by t name order = placed (cond t (Some (position_or_len (bytes_eq name) order)) None) name order

is_numbered : (name : List ℕ) (order : List (List ℕ)) → numbered name order ≡ numbered_by (nat_lt (position_or_len (bytes_eq name) order) (length order)) name order
unfolding numbered
is_numbered name order = refl

lt_fact : (m n : ℕ) → nat_lt m n ≡ true → m < n
lt_fact m n h = grind (arith, nat_tests)

not_lt : (m n : ℕ) → nat_lt m n ≡ false → n ≤ m
not_lt m n h = grind (arith, nat_tests)

lt_false : (m n : ℕ) → n ≤ m → nat_lt m n ≡ false
lt_false m n h = grind (arith, nat_tests)

-- what is said of a name that appears among those that begin a list: its position, and the names after it
pub record IsNamed (all order : List (List ℕ)) (k : ℕ) (name : List ℕ) (more : List (List ℕ)) : Type 0 where
  pub next : k ≤ length order
  pub within : k < length all
  pub named : name_at all k ≡ name
  pub longer : length more ≡ max (length order) (k + 1)
  pub front : Begins all order

named_by : (all order rest : List (List ℕ)) (name : List ℕ) (t : Bool) → nat_lt (position_or_len (bytes_eq name) order) (length order) ≡ t → (numbered_by t name order).1 ++ rest ≡ all → IsNamed all order (numbered_by t name order).0 name (numbered_by t name order).1
named_by all order rest name true e h =
    let o = position_or_len (bytes_eq name) order in
    let less : o < length order = lt_fact o (length order) e in
    let l : length (order ++ rest) ≡ length order + length rest = length-append order rest in
    subst (λ (xs : List (List ℕ)). IsNamed xs order o name order) h (record {
      next = omega arith;
      within = omega arith;
      named = name_front order rest o less ∙ found_name name order less;
      longer = omega arith;
      front = (rest, refl);
    })
named_by all order rest name false e h =
    let moved : order ++ name ∷ rest ≡ all = sym (append_assoc order (name ∷ []) rest) ∙ h in
    let l : length (order ++ name ∷ rest) ≡ length order + length (name ∷ rest) = length-append order (name ∷ rest) in
    let m : length (order ++ name ∷ []) ≡ length order + length (name ∷ []) = length-append order (name ∷ []) in
    subst (λ (xs : List (List ℕ)). IsNamed xs order (length order) name (order ++ name ∷ [])) moved (record {
      next = omega arith;
      within = omega arith;
      named = name_next order rest name;
      longer = omega arith;
      front = (name ∷ rest, refl);
    })

-- a name that appears, where the names after it begin a list
pub is_named : (all order : List (List ℕ)) (name : List ℕ) → Begins all (numbered name order).1 → IsNamed all order (numbered name order).0 name (numbered name order).1
is_named all order name b =
    subst (λ (r : ℕ × List (List ℕ)). IsNamed all order r.0 name r.1) (sym (is_numbered name order))
    (named_by all order b.0 name (nat_lt (position_or_len (bytes_eq name) order) (length order)) refl (ap (λ (r : ℕ × List (List ℕ)). r.1 ++ b.0) (sym (is_numbered name order)) ∙ b.1))

-- the name at a position appears again, or as the next one
abbrev pub Again : List (List ℕ) → List (List ℕ) → ℕ → ℕ × List (List ℕ) → Type 0
Again all order k r = (r.0 ≡ k) × Begins all r.1 × (length r.1 ≡ max (length order) (k + 1))

next_front : (all order rest : List (List ℕ)) (k : ℕ) → order ++ rest ≡ all → k ≡ length order → k < length all → Begins all (order ++ name_at all k ∷ [])
next_front all order [] k g last w = let l : order ≡ all = sym (append-nil order) ∙ g in absurd (omega (arith, ap length l))
next_front all order (r ∷ rs) k g last w =
    let same : name_at all k ≡ r = ap (λ (xs : List (List ℕ)). name_at xs k) (sym g) ∙ ap (name_at (order ++ r ∷ rs)) last ∙ name_next order rs r in
    (rs, append_assoc order (name_at all k ∷ []) rs ∙ ap (λ (x : List ℕ). order ++ x ∷ rs) same ∙ g)

again_by : (all order rest : List (List ℕ)) (k : ℕ) (t : Bool) → nat_lt (position_or_len (bytes_eq (name_at all k)) order) (length order) ≡ t → order ++ rest ≡ all → position_or_len (bytes_eq (name_at all k)) all ≡ k → k ≤ length order → k < length all → Again all order k (numbered_by t (name_at all k) order)
again_by all order rest k true e h i next within =
    let o = position_or_len (bytes_eq (name_at all k)) order in
    let less : o < length order = lt_fact o (length order) e in
    let here : o ≡ k = sym (first_here (bytes_eq (name_at all k)) order rest less) ∙ ap (position_or_len (bytes_eq (name_at all k))) h ∙ i in
    (here, (rest, h), omega arith)
again_by all order rest k false e h i next within =
    let p = bytes_eq (name_at all k) in
    let o = position_or_len p order in
    let more : length order ≤ o = not_lt o (length order) e in
    let most : o ≤ length order = first_within p order in
    let ends : o ≡ length order = omega arith in
    let sum : length order + position_or_len p rest ≡ k = sym (first_beyond p order rest ends) ∙ ap (position_or_len p) h ∙ i in
    let last : k ≡ length order = omega arith in
    let m : length (order ++ name_at all k ∷ []) ≡ length order + length (name_at all k ∷ []) = length-append order (name_at all k ∷ []) in
    (sym last, next_front all order rest k h last within, omega arith)

-- where no name of a list stands twice, the name at a position that is known or the next one has this position again
pub is_again : (all order : List (List ℕ)) (k : ℕ) → IsIndexed all → Begins all order → k ≤ length order → k < length all → Again all order k (numbered (name_at all k) order)
is_again all order k i b next within =
    subst (λ (r : ℕ × List (List ℕ)). Again all order k r) (sym (is_numbered (name_at all k) order))
    (again_by all order b.0 k (nat_lt (position_or_len (bytes_eq (name_at all k)) order) (length order)) refl b.1 (i k within) next within)

-- ---- no name stands twice

self_first : (t : Bool) → t ≡ true → (m : ℕ) → cond (not t) (1 + m) 0 ≡ 0
self_first t e m = rw e refl

same_bytes : (bs : List ℕ) → bytes_eq bs bs ≡ true
same_bytes bs = grind (arith, bytes_eq-Decides bs bs)

indexed_more : (name : List ℕ) (order : List (List ℕ)) → IsIndexed order → position_or_len (bytes_eq name) order ≡ length order → IsIndexed (order ++ name ∷ [])
indexed_more name order i none k h = at (cases_lt k (length order))
  where
    at : (k < length order) ⊎ (length order ≤ k) → position_or_len (bytes_eq (name_at (order ++ name ∷ []) k)) (order ++ name ∷ []) ≡ k
    at (inl l) =
        let here : position_or_len (bytes_eq (name_at order k)) order < length order = let e = i k l in omega arith in
        ap (λ (n : List ℕ). position_or_len (bytes_eq n) (order ++ name ∷ [])) (name_front order (name ∷ []) k l) ∙ first_here (bytes_eq (name_at order k)) order (name ∷ []) here ∙ i k l
    at (inr l) =
        let m : length (order ++ name ∷ []) ≡ length order + length (name ∷ []) = length-append order (name ∷ []) in
        let last : k ≡ length order = omega arith in
        let ended : length order + 0 ≡ k = omega arith in
        let named : name_at (order ++ name ∷ []) k ≡ name = ap (name_at (order ++ name ∷ [])) last ∙ name_next order [] name in
        ap (λ (n : List ℕ). position_or_len (bytes_eq n) (order ++ name ∷ [])) named ∙ first_beyond (bytes_eq name) order (name ∷ []) none
        ∙ ap (λ (x : ℕ). length order + x) (self_first (bytes_eq name name) (same_bytes name) 0) ∙ ended

indexed_by : (name : List ℕ) (order : List (List ℕ)) (t : Bool) → nat_lt (position_or_len (bytes_eq name) order) (length order) ≡ t → IsIndexed order → IsIndexed (numbered_by t name order).1
indexed_by name order true e i = i
indexed_by name order false e i = let more = not_lt _ _ e in let most = first_within (bytes_eq name) order in indexed_more name order i (omega arith)

pub numbered_indexed : (name : List ℕ) (order : List (List ℕ)) → IsIndexed order → IsIndexed (numbered name order).1
numbered_indexed name order i = subst (λ (r : ℕ × List (List ℕ)). IsIndexed r.1) (sym (is_numbered name order)) (indexed_by name order (nat_lt (position_or_len (bytes_eq name) order) (length order)) refl i)

pub none_indexed : IsIndexed []
none_indexed k h = absurd (omega arith)

-- names that begin as many names are these
pub all_names : (xs rest ys : List (List ℕ)) → xs ++ rest ≡ ys → length xs ≡ length ys → xs ≡ ys
all_names xs [] ys e h = sym (append-nil xs) ∙ e
all_names xs (y ∷ rest) ys e h = absurd (omega (arith, h, sym (length-append xs (y ∷ rest)) ∙ ap length e))
