-- Where parts of a code stand in an object.
use Rattle.std.proofs.Common.{◌≡◌, ℕ, zero, suc, ◌+◌, ◌*◌, refl, sym, ap, ◌∙◌, subst, arith, Bool, true, false, if◌then◌else◌, List, [], ◌∷◌, ◌++◌, length, length-append, append_assoc, map, take}
use Rattle.std.specs.List.{count_by}
use Rattle.rv_isa.specs.declared.rv.Rv.{Rv}
use Rattle.rv_isa.specs.Memory.{Segments}
use Rattle.rv_isa.specs.Laws.{Holds}
use Rattle.rv_select.specs.declared.item.Item.{Item}
use Rattle.rv_select.specs.declared.item.Draft.{Draft}
use Rattle.rv_select.specs.declared.item.Draft.TheVariants.{Fixed, Jump, Near}
use Rattle.rv_select.specs.Branches.{is_long, count_true, place, is_branch, all_short, settled}
use Rattle.rv_select.specs.Pending.{words, draft_items, items_from}
use Rattle.rv_select.specs.Linked.{Link, instruction_at, linked}
use Rattle.rv_select.proofs.Branches.{count-cons, starts, choices}
use Rattle.rv_select.proofs.Items.{holds_front, holds_back}

-- ---- only branches are long

-- of the drafts from number k on
abbrev pub OnlyBranches : List Bool → ℕ → List Draft → Type 0
OnlyBranches longs k [] = Unit {0}
OnlyBranches longs k (d ∷ ds) = (is_long longs k ≡ true → is_branch d ≡ true) × OnlyBranches longs (k + 1) ds

pub only_left : (longs : List Bool) (k : ℕ) (xs ys : List Draft) → OnlyBranches longs k (xs ++ ys) → OnlyBranches longs k xs
only_left longs k [] ys h = tt
only_left longs k (d ∷ xs) ys h = (h.0, only_left longs (k + 1) xs ys h.1)

pub only_right : (longs : List Bool) (k : ℕ) (xs ys : List Draft) → OnlyBranches longs k (xs ++ ys) → OnlyBranches longs (k + length xs) ys
only_right longs k [] ys h = let e : k ≡ k + 0 = omega arith in subst (λ n. OnlyBranches longs n ys) e h
only_right longs k (d ∷ xs) ys h = let e : k + 1 + length xs ≡ k + suc (length xs) = omega arith in subst (λ n. OnlyBranches longs n ys) e (only_right longs (k + 1) xs ys h.1)

from_numbers : (longs : List Bool) (k : ℕ) (ds : List Draft) → ((j : ℕ) → is_long longs (k + j) ≡ true → is_long (map is_branch ds) j ≡ true) → OnlyBranches longs k ds
from_numbers longs k [] h = tt
from_numbers longs k (d ∷ ds) h = (
  (let e : k ≡ k + 0 = omega arith in λ l. h 0 (subst (λ n. is_long longs n ≡ true) e l)),
  from_numbers longs (k + 1) ds (λ j l. let e : k + 1 + j ≡ k + suc j = omega arith in h (suc j) (subst (λ n. is_long longs n ≡ true) e l)),
)

pub settled_only : (heads : ℕ → ℕ) (ds : List Draft) → OnlyBranches (settled heads ds) 0 ds
settled_only heads ds = from_numbers (settled heads ds) 0 ds (λ j l. let n : 0 + j ≡ j = omega arith in (choices heads ds (count_by is_branch ds) (all_short ds) (starts heads ds)).branches j (subst (λ m. is_long (settled heads ds) m ≡ true) n l))

-- ---- places

abbrev none : List Bool
none = []

take_none : (k : ℕ) → take k none ≡ []
take_none zero = refl
take_none (suc k) = refl

one_more : (longs : List Bool) (k : ℕ) → count_true (take (k + 1) longs) ≡ count_true (take k longs) + (if is_long longs k then 1 else 0)
one_more [] k = ap count_true (take_none (k + 1)) ∙ sym (ap (λ (bs : List Bool). count_true bs + 0) (take_none k))
one_more (b ∷ longs) zero = count-cons b [] ∙ (let z : (if b then 1 else 0) + 0 ≡ 0 + (if b then 1 else 0) = omega arith in z)
one_more (b ∷ longs) (suc k) =
    let n : suc k + 1 ≡ suc (k + 1) = omega arith in
    let first : ℕ = if b then 1 else 0 in
    let last : ℕ = if is_long longs k then 1 else 0 in
    let sum : first + (count_true (take k longs) + last) ≡ first + count_true (take k longs) + last = omega arith in
    ap (λ m. count_true (take m (b ∷ longs))) n ∙ count-cons b (take (k + 1) longs) ∙ ap (λ m. first + m) (one_more longs k) ∙ sum ∙ ap (λ m. m + last) (sym (count-cons b (take k longs)))

module _ (places : ℕ → ℕ) (longs : List Bool) where
  items_length_one : (k at : ℕ) (d : Draft) → (is_long longs k ≡ true → is_branch d ≡ true) → place longs k + 4 * length (draft_items places (is_long longs k) at d) ≡ place longs (k + 1)
  items_length_one k at d only = by (is_long longs k) refl d only
    where
      by : (long : Bool) → is_long longs k ≡ long → (d : Draft) → (long ≡ true → is_branch d ≡ true) → place longs k + 4 * length (draft_items places long at d) ≡ place longs (k + 1)
      by false e (Fixed i) only = let h = one_more longs k ∙ ap (λ (b : Bool). count_true (take k longs) + (if b then 1 else 0)) e in omega arith
      by false e (Jump b) only = let h = one_more longs k ∙ ap (λ (b : Bool). count_true (take k longs) + (if b then 1 else 0)) e in omega arith
      by false e (Near t r q b) only = let h = one_more longs k ∙ ap (λ (b : Bool). count_true (take k longs) + (if b then 1 else 0)) e in omega arith
      by true e (Near t r q b) only = let h = one_more longs k ∙ ap (λ (b : Bool). count_true (take k longs) + (if b then 1 else 0)) e in omega arith
      by true e (Fixed i) only = absurd (no (only refl))
        where
          no : false ≡ true → ⊥
          no e = cc
      by true e (Jump b) only = absurd (no (only refl))
        where
          no : false ≡ true → ⊥
          no e = cc

  pub items_join : (k : ℕ) (xs ys : List Draft) → items_from places longs k (xs ++ ys) ≡ items_from places longs k xs ++ items_from places longs (k + length xs) ys
  items_join k [] ys = let e : k ≡ k + 0 = omega arith in ap (λ n. items_from places longs n ys) e
  items_join k (d ∷ xs) ys =
      let one = draft_items places (is_long longs k) (place longs k) d in
      let e : k + 1 + length xs ≡ k + suc (length xs) = omega arith in
      ap (λ is. one ++ is) (items_join (k + 1) xs ys ∙ ap (λ n. items_from places longs (k + 1) xs ++ items_from places longs n ys) e)
      ∙ sym (append_assoc one (items_from places longs (k + 1) xs) (items_from places longs (k + suc (length xs)) ys))

  pub items_length : (k : ℕ) (ds : List Draft) → OnlyBranches longs k ds → place longs k + 4 * length (items_from places longs k ds) ≡ place longs (k + length ds)
  items_length k [] only = let e : k ≡ k + 0 = omega arith in let h = ap (place longs) e in omega arith
  items_length k (d ∷ ds) only =
      let one = draft_items places (is_long longs k) (place longs k) d in
      let rest = items_from places longs (k + 1) ds in
      let h = items_length_one k (place longs k) d only.0 in
      let g = items_length (k + 1) ds only.1 in
      let l = length-append one rest in
      let e : k + 1 + length ds ≡ k + suc (length ds) = omega arith in
      let last : place longs (k + 1 + length ds) ≡ place longs (k + suc (length ds)) = ap (place longs) e in
      omega arith

  -- instructions are their own items
  pub words_linked : (l : Link) (at k : ℕ) (cs : List Rv) → linked l at (items_from places longs k (words cs)) ≡ cs
  words_linked l at k [] = refl
  words_linked l at k (c ∷ cs) = ap (λ rest. c ∷ rest) (words_linked l (at + 4) (k + 1) cs)

pub linked_join : (l : Link) (at : ℕ) (xs ys : List Item) → linked l at (xs ++ ys) ≡ linked l at xs ++ linked l (at + 4 * length xs) ys
linked_join l at [] ys = let e : at ≡ at + 4 * 0 = omega arith in ap (λ n. linked l n ys) e
linked_join l at (i ∷ xs) ys =
    let e : at + 4 + 4 * length xs ≡ at + 4 * length (i ∷ xs) = omega arith in
    ap (λ is. instruction_at l at i ∷ is) (linked_join l (at + 4) xs ys ∙ ap (λ n. linked l (at + 4) xs ++ linked l n ys) e)

pub linked_length : (l : Link) (at : ℕ) (is : List Item) → length (linked l at is) ≡ length is
linked_length l at [] = refl
linked_length l at (i ∷ is) = ap suc (linked_length l (at + 4) is)

pub words_length : (cs : List Rv) → length (words cs) ≡ length cs
words_length [] = refl
words_length (c ∷ cs) = ap suc (words_length cs)

-- ---- a part of a code that stands from an address on

module _ (s : Segments) (l : Link) (start : ℕ) (places : ℕ → ℕ) (longs : List Bool) where
  -- where the draft of this number begins
  abbrev pub address : ℕ → ℕ
  address k = start + place longs k

  abbrev pub Part : ℕ → List Draft → Type 0
  Part k ds = Holds s (address k) (linked l (address k) (items_from places longs k ds))

  pub part_front : (k : ℕ) (xs ys : List Draft) → Part k (xs ++ ys) → Part k xs
  part_front k xs ys h =
      let is = items_from places longs k xs in
      let js = items_from places longs (k + length xs) ys in
      holds_front s (address k) (linked l (address k) is) (linked l (address k + 4 * length is) js) (subst (Holds s (address k)) (ap (linked l (address k)) (items_join places longs k xs ys) ∙ linked_join l (address k) is js) h)

  pub part_back : (k : ℕ) (xs ys : List Draft) → OnlyBranches longs k xs → Part k (xs ++ ys) → Part (k + length xs) ys
  part_back k xs ys only h =
      let is = items_from places longs k xs in
      let js = items_from places longs (k + length xs) ys in
      let e : address k + 4 * length is ≡ address (k + length xs) = (let g = items_length places longs k xs only in omega arith) in
      let all = subst (Holds s (address k)) (ap (linked l (address k)) (items_join places longs k xs ys) ∙ linked_join l (address k) is js) h in
      let n = linked_length l (address k) is in
      let back = holds_back s (address k) (linked l (address k) is) (linked l (address k + 4 * length is) js) all in
      subst (λ a. Holds s a (linked l a js)) e (subst (λ (m : ℕ). Holds s (address k + 4 * m) (linked l (address k + 4 * length is) js)) n back)

  -- instructions stand as they are, and what comes after them four bytes each later
  pub part_words : (k : ℕ) (cs : List Rv) → Part k (words cs) → Holds s (address k) cs
  part_words k cs h = subst (Holds s (address k)) (words_linked places longs l (address k) k cs) h

  pub after_words : (k : ℕ) (cs : List Rv) → OnlyBranches longs k (words cs) → address k + 4 * length cs ≡ address (k + length (words cs))
  after_words k cs only =
      let g = items_length places longs k (words cs) only in
      let n = ap length (words_linked places longs l 0 k cs) in
      let m = linked_length l 0 (items_from places longs k (words cs)) in
      omega arith
