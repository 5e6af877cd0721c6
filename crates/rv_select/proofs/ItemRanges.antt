-- The items of settled drafts: how many there are, and that each has a word.
use Rattle.std.proofs.Common.{◌≡◌, ℕ, zero, suc, ◌+◌, ◌*◌, ◌<◌, ◌≤◌, Bool, true, false, cond, List, [], ◌∷◌, All, map, length, take, get_or, refl, sym, ap, ◌∙◌, subst, length-append, arith, rules}
use Rattle.std.proofs.lemmas.Bool.{false≢true}
use Rattle.std.proofs.lemmas.Bool.Decides.{nat_tests}
use Rattle.std.proofs.lemmas.List.Elements.{All-nil, All-cons, All-append}
use Rattle.std.specs.Prelude.{pos}
use Rattle.rv_isa.specs.declared.rv.Rv.TheVariants.{Beq, Bne}
use Rattle.rv_isa.specs.Words.{IsSigned, IsEven}
use Rattle.rv_select.specs.declared.item.Item.{Item}
use Rattle.rv_select.specs.declared.item.Item.TheVariants.{Word}
use Rattle.rv_select.specs.declared.item.Test.{Test}
use Rattle.rv_select.specs.declared.item.Test.TheVariants.{Equal, NotEqual}
use Rattle.rv_select.specs.declared.item.Draft.{Draft}
use Rattle.rv_select.specs.declared.item.Draft.TheVariants.{Fixed, Jump, Near}
use Rattle.rv_select.specs.Branches.{is_long, count_true, place, is_far, grown, is_branch, IsWithin}
use Rattle.rv_select.specs.Pending.{distance, jump, branch_items, draft_items, items_from, IsItem, IsDraft}
use Rattle.rv_select.specs.Code.{items_of}
use Rattle.rv_select.proofs.Branches.{count-cons, in_reach, reaches}
use Rattle.rv_select.proofs.Counts.{count_part}

-- ---- how many

draft_length : (places : ℕ → ℕ) (long : Bool) (at : ℕ) (d : Draft) → (long ≡ true → is_branch d ≡ true) → length (draft_items places long at d) ≡ 1 + cond long 1 0
draft_length places true at (Near t r q b) h = refl
draft_length places false at (Near t r q b) h = refl
draft_length places true at (Fixed i) h = absurd (false≢true (h refl))
draft_length places false at (Fixed i) h = refl
draft_length places true at (Jump b) h = absurd (false≢true (h refl))
draft_length places false at (Jump b) h = refl

items_length : (places : ℕ → ℕ) (ls : List Bool) (k : ℕ) (ds : List Draft) (rest : List Bool) → length rest ≡ length ds → IsWithin rest (map is_branch ds) → ((j : ℕ) → is_long rest j ≡ is_long ls (k + j)) → length (items_from places ls k ds) ≡ length rest + count_true rest
items_length places ls k [] [] len w same = refl
items_length places ls k [] (l ∷ rest) len w same = absurd (omega (arith, len))
items_length places ls k (d ∷ ds) [] len w same = absurd (omega (arith, len))
items_length places ls k (d ∷ ds) (l ∷ rest) len w same =
    let here : is_long ls k ≡ l = ap (λ (n : ℕ). is_long ls n) (omega arith) ∙ sym (same 0) in
    let first : length (draft_items places (is_long ls k) (place ls k) d) ≡ 1 + cond l 1 0 = ap (λ (b : Bool). length (draft_items places b (place ls k) d)) here ∙ draft_length places l (place ls k) d (w 0) in
    let others : length (items_from places ls (k + 1) ds) ≡ length rest + count_true rest = items_length places ls (k + 1) ds rest (omega (arith, len)) (λ j h. w (suc j) h) next in
    omega (arith, first, others, count-cons l rest, length-append (draft_items places (is_long ls k) (place ls k) d) (items_from places ls (k + 1) ds))
  where
    next : (j : ℕ) → is_long rest j ≡ is_long ls (k + 1 + j)
    next j = let up : k + suc j ≡ k + 1 + j = omega arith in same (suc j) ∙ ap (λ (n : ℕ). is_long ls n) up

pub items_count : (heads : ℕ → ℕ) (ls : List Bool) (ds : List Draft) → length ls ≡ length ds → IsWithin ls (map is_branch ds) → length (items_of heads ls ds) ≡ length ls + count_true ls
items_count heads ls ds len w = items_length (λ n. place ls (heads n)) ls 0 ds ls len w (λ j. let same : j ≡ 0 + j = omega arith in ap (λ (n : ℕ). is_long ls n) same)

-- ---- which

jump_range : (x y : ℕ) → x ≤ 250001 → y ≤ 250001 → IsSigned 20 (distance (4 * x) (4 * y)) × IsEven (distance (4 * x) (4 * y))
jump_range x y a b = (grind (arith, nat_tests), search rules)

is_jump : (x y : ℕ) → x ≤ 250001 → y ≤ 250001 → IsItem (jump (4 * x) (4 * y))
is_jump x y a b = (omega arith, jump_range x y a b)

next_jump : (x y : ℕ) → x ≤ 250000 → y ≤ 250001 → IsItem (jump (4 * x + 4) (4 * y))
next_jump x y a b =
    let next : 4 * (x + 1) ≡ 4 * x + 4 = omega arith in
    subst (λ (n : ℕ). IsItem (jump n (4 * y))) next (is_jump (x + 1) y (omega (arith, a)) b)

one : (i : Item) → IsItem i → All IsItem (i ∷ [])
one i h = All-cons IsItem i [] h (All-nil IsItem)

near_items : (long : Bool) (t : Test) (r q x y : ℕ) → r < 32 → q < 32 → x ≤ 250000 → y ≤ 250000 → (long ≡ false → is_far (4 * x) (4 * y) ≡ false) → All IsItem (branch_items long t r q (4 * x) (4 * y))
near_items false Equal r q x y hr hq a b near = one _ (hr, hq, in_reach x y (near refl))
near_items false NotEqual r q x y hr hq a b near = one _ (hr, hq, in_reach x y (near refl))
near_items true Equal r q x y hr hq a b near = All-cons IsItem (Word (Bne r q (pos 8))) (jump (4 * x + 4) (4 * y) ∷ []) (hr, hq, (search rules, refl)) (one (jump (4 * x + 4) (4 * y)) (next_jump x y a (omega (arith, b))))
near_items true NotEqual r q x y hr hq a b near = All-cons IsItem (Word (Beq r q (pos 8))) (jump (4 * x + 4) (4 * y) ∷ []) (hr, hq, (search rules, refl)) (one (jump (4 * x + 4) (4 * y)) (next_jump x y a (omega (arith, b))))

all_from : (places : ℕ → ℕ) (ls : List Bool) (k : ℕ) (ds : List Draft) → ((j : ℕ) (e : Draft) → j < length ds → All IsItem (draft_items places (is_long ls (k + j)) (place ls (k + j)) (get_or ds j e))) → All IsItem (items_from places ls k ds)
all_from places ls k [] h = All-nil IsItem
all_from places ls k (d ∷ ds) h =
    let same : k + 0 ≡ k = omega arith in
    let here : All IsItem (draft_items places (is_long ls k) (place ls k) d) = subst (λ (n : ℕ). All IsItem (draft_items places (is_long ls n) (place ls n) d)) same (h 0 d (omega arith)) in
    All-append IsItem (draft_items places (is_long ls k) (place ls k) d) (items_from places ls (k + 1) ds) here (all_from places ls (k + 1) ds next)
  where
    next : (j : ℕ) (e : Draft) → j < length ds → All IsItem (draft_items places (is_long ls (k + 1 + j)) (place ls (k + 1 + j)) (get_or ds j e))
    next j e lt =
        let up : k + suc j ≡ k + 1 + j = omega arith in
        subst (λ (n : ℕ). All IsItem (draft_items places (is_long ls n) (place ls n) (get_or ds j e))) up (h (suc j) e (omega (arith, lt)))

-- an element of a list, whatever is read past its end
get_or_same : (ds : List Draft) (j : ℕ) (e f : Draft) → j < length ds → get_or ds j f ≡ get_or ds j e
get_or_same [] j e f lt = absurd (omega (arith, lt))
get_or_same (d ∷ ds) zero e f lt = refl
get_or_same (d ∷ ds) (suc j) e f lt = get_or_same ds j e f (omega (arith, lt))

module _ (heads : ℕ → ℕ) (ls : List Bool) (ds : List Draft) (settled : grown heads ds ls ≡ ls) (few : length ds + count_true ls ≤ 250000) (low : (n : ℕ) → heads n ≤ length ds) (are : All IsDraft ds) where
  within : (k : ℕ) → k ≤ length ds → k + count_true (take k ls) ≤ 250000
  within k le = omega (arith, few, count_part ls k)

  draft_range : (k : ℕ) (d : Draft) → k < length ds → get_or ds k d ≡ d → IsDraft d → All IsItem (draft_items (λ n. place ls (heads n)) (is_long ls k) (place ls k) d)
  draft_range k (Fixed i) lt is h = one i h
  draft_range k (Jump b) lt is h = one _ (is_jump (k + count_true (take k ls)) (heads b.0 + count_true (take (heads b.0) ls)) (omega (arith, within k (omega (arith, lt)))) (omega (arith, within (heads b.0) (low b.0))))
  draft_range k (Near t r q b) lt is h =
      near_items (is_long ls k) t r q (k + count_true (take k ls)) (heads b.0 + count_true (take (heads b.0) ls)) h.0 h.1 (within k (omega (arith, lt))) (within (heads b.0) (low b.0)) (λ short. reaches heads ds ls k (Near t r q b) settled lt is short)

  pub all_items : All IsItem (items_of heads ls ds)
  all_items = all_from (λ n. place ls (heads n)) ls 0 ds each
    where
      each : (j : ℕ) (e : Draft) → j < length ds → All IsItem (draft_items (λ n. place ls (heads n)) (is_long ls (0 + j)) (place ls (0 + j)) (get_or ds j e))
      each j e lt =
          let same : j ≡ 0 + j = omega arith in
          let d : Draft = get_or ds j e in
          subst (λ (n : ℕ). All IsItem (draft_items (λ m. place ls (heads m)) (is_long ls n) (place ls n) d)) same (draft_range j d lt (get_or_same ds j e d lt) (are j e lt))
