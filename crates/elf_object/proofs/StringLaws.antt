-- Names in a string table.
use Rattle.std.proofs.Common.{◌≡◌, ℕ, ◌+◌, ◌<◌, ◌≤◌, Bool, eqb, List, ◌∷◌, ◌++◌, length, get_or, take, drop, refl, sym, ap, ◌∙◌, arith, length-append, length-drop}
use Rattle.std.specs.Prelude.{◌≢◌, All, not}
use Rattle.std.specs.List.{position_or_len}
use Rattle.std.proofs.lemmas.Bool.{eqb-true, eqb-false, ne_eqb}
use Rattle.std.proofs.lemmas.List.{drop-drop, length-take, get_or-take, get_or_append_left, get_or_at, take_at}
use Rattle.std.proofs.lemmas.List.Elements.{All-from_get_or, All-get_or}
use Rattle.std.proofs.lemmas.List.Sums.{prefix_len-le-length, split_at_first, passes_at_first, fails_before_first, position_or_len_is}
use Rattle.elf_object.specs.Checks.{string_at, place_after}

-- a byte that ends a string
abbrev pub is_zero : ℕ → Bool
is_zero b = eqb b 0

place_le : (p : ℕ → Bool) (xs : List ℕ) → position_or_len p xs ≤ length xs
place_le p xs = prefix_len-le-length (λ x. not (p x)) xs

string_at-len : (table : List ℕ) (at : ℕ) → length (string_at table at) ≡ position_or_len is_zero (drop at table)
unfolding string_at
string_at-len table at = omega (arith, length-take (position_or_len is_zero (drop at table)) (drop at table), place_le is_zero (drop at table))

pub string_within : (table : List ℕ) (at : ℕ) → at ≤ length table → at + length (string_at table at) ≤ length table
string_within table at le = omega (arith, string_at-len table at, place_le is_zero (drop at table), length-drop at table)

get_or_string : (table : List ℕ) (at i : ℕ) → i < position_or_len is_zero (drop at table) → get_or (string_at table at) i 0 ≡ get_or (drop at table) i 0
unfolding string_at
get_or_string table at i lt = get_or-take (position_or_len is_zero (drop at table)) (drop at table) i 0 lt

-- no byte of a string is zero
pub string_no_zero : (table : List ℕ) (at : ℕ) → All (λ b. b ≢ 0) (string_at table at)
string_no_zero table at = All-from_get_or (λ b. b ≢ 0) (string_at table at) 0 (λ i lt. one i lt) where
  one : (i : ℕ) → i < length (string_at table at) → get_or (string_at table at) i 0 ≢ 0
  one i lt e =
      let len = string_at-len table at in
      let here : get_or (string_at table at) i 0 ≡ get_or (drop at table) i 0 = get_or_string table at i (omega arith) in
      eqb-false _ _ (fails_before_first is_zero (drop at table) i 0 (omega arith)) (sym here ∙ e)

-- a string that ends within the table stands there with a zero byte after it
pub string_ends : (table : List ℕ) (at : ℕ) → at + length (string_at table at) < length table → drop at table ≡ string_at table at ++ 0 ∷ drop (at + length (string_at table at) + 1) table
unfolding string_at
string_ends table at lt =
    let n : ℕ = position_or_len is_zero (drop at table) in
    let len : length (take n (drop at table)) ≡ n = omega (arith, length-take n (drop at table), place_le is_zero (drop at table)) in
    let within : n < length (drop at table) = omega (arith, length-drop at table) in
    let z : get_or (drop at table) n 0 ≡ 0 = eqb-true _ _ (passes_at_first is_zero (drop at table) 0 within) in
    let rest : drop (n + 1) (drop at table) ≡ drop (at + length (take n (drop at table)) + 1) table = drop-drop (n + 1) at table ∙ ap (λ (k : ℕ). drop k table) (omega arith) in
    split_at_first is_zero (drop at table) 0 within ∙ ap (λ (y : ℕ). take n (drop at table) ++ y ∷ drop (n + 1) (drop at table)) z ∙ ap (λ (ys : List ℕ). take n (drop at table) ++ 0 ∷ ys) rest

-- a name that stands there with a zero byte after it is the string there
pub string_is : (table : List ℕ) (at : ℕ) (name rest : List ℕ) → All (λ b. b ≢ 0) name → drop at table ≡ name ++ 0 ∷ rest → string_at table at ≡ name
unfolding string_at
string_is table at name rest no_zero e =
    let whole : position_or_len is_zero (name ++ 0 ∷ rest) ≡ length name =
    position_or_len_is is_zero (name ++ 0 ∷ rest) (length name) 0 (omega (arith, length-append name (0 ∷ rest)))
    (λ k lt. ap is_zero (get_or_append_left name (0 ∷ rest) 0 k lt) ∙ ne_eqb _ _ (All-get_or (λ b. b ≢ 0) name k 0 lt no_zero))
    (λ lt. ap is_zero (get_or_at name 0 rest 0 (length name) refl)) in
    ap (λ (xs : List ℕ). take (position_or_len is_zero xs) xs) e ∙ ap (λ (n : ℕ). take n (name ++ 0 ∷ rest)) whole ∙ take_at name (0 ∷ rest) (length name) refl

-- the place after it
pub place_is : (size at : ℕ) (name : List ℕ) → at + length name < size → place_after size at name ≡ at + length name + 1
place_is size at name lt = omega arith
