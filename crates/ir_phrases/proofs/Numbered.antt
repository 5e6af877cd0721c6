-- Positions in a list that is mapped, and whether there is one.
use Rattle.std.proofs.Common.{◌≡◌, ℕ, zero, suc, take, ◌+◌, Bool, true, false, cond, List, [], ◌∷◌, ◌++◌, length, map, position, Option, Some, None, ◌<◌, get_or, is_some, refl, sym, ap, ◌∙◌, add-one, arith}
use Rattle.std.specs.Prelude.{nat_lt, if◌then◌else◌, not, ◌||◌}
use Rattle.std.specs.List.{position_or_len, prefix_len, list_any}
use Rattle.std.specs.Str.{bytes_eq}
use Rattle.ir_grammar.specs.Sets.{among}
use Rattle.ir_grammar.specs.Names.{placed, numbered}
use Rattle.std.specs.Global.{Vec}
use Rattle.std.proofs.lemmas.Bool.Decides.{nat_tests}
use Rattle.std.proofs.lemmas.List.{length-map, map-append}
use Rattle.std.proofs.lemmas.Slice.Eq.{bytes_eq-Decides}
use Rattle.std.proofs.Math.Seq.{take-suc}

position_or_len-map : {X Y : Type 0} (p : Y → Bool) (f : X → Y) (xs : List X) → position_or_len (λ x. p (f x)) xs ≡ position_or_len p (map f xs)
position_or_len-map p f [] = refl
position_or_len-map p f (x ∷ xs) = ap (λ (n : ℕ). cond (not (p (f x))) (1 + n) 0) (position_or_len-map p f xs)

pub position-map : {X Y : Type 0} (p : Y → Bool) (f : X → Y) (xs : List X) → position (λ x. p (f x)) xs ≡ position p (map f xs)
position-map p f xs = rw (position_or_len-map p f xs, length-map) refl

lt_both : (m n k : ℕ) → k ≡ n + 1 → nat_lt (1 + m) k ≡ nat_lt m n
lt_both m n k e = grind (arith, nat_tests)

lt_first : (n k : ℕ) → k ≡ n + 1 → nat_lt 0 k ≡ true
lt_first n k e = grind (arith, nat_tests)

length-cons : {X : Type 0} (x : X) (xs : List X) → length (x ∷ xs) ≡ length xs + 1
length-cons x xs = rw add-one refl

lt-list_any : {X : Type 0} (p : X → Bool) (xs : List X) → nat_lt (position_or_len p xs) (length xs) ≡ list_any p xs
lt-list_any p [] = refl
lt-list_any p (x ∷ xs) = elim (p x) as (λ b. nat_lt (cond (not b) (1 + prefix_len (λ y. not (p y)) xs) 0) (length (x ∷ xs)) ≡ (b || list_any p xs)) [ true ↦ lt_first (length xs) (length (x ∷ xs)) (length-cons x xs) | false ↦ lt_both (position_or_len p xs) (length xs) (length (x ∷ xs)) (length-cons x xs) ∙ lt-list_any p xs ]

-- a list has no position that passes exactly where none passes
pub absent : {X : Type 0} (p : X → Bool) (xs : List X) → position p xs ≡ None → list_any p xs ≡ false
absent p xs e = sym (lt-list_any p xs) ∙ by (nat_lt (position_or_len p xs) (length xs)) e
  where
    by : (b : Bool) → cond b (Some (position_or_len p xs)) None ≡ None → b ≡ false
    by true h = cc
    by false h = refl

-- the names of a set after a new one went in
pub names_after : (ks : List (Vec ℕ)) (v : Vec ℕ) (names : List (List ℕ)) (name : List ℕ) → map (λ k. k.items) ks ≡ names → v.items ≡ name → position (bytes_eq name) names ≡ None
    → map (λ k. k.items) (if list_any (λ k. bytes_eq v.items k.items) ks then ks else ks ++ v ∷ []) ≡ names ++ name ∷ []
names_after ks v names name is_names is_name new =
    let none : list_any (λ (k : Vec ℕ). bytes_eq v.items k.items) ks ≡ false = absent (λ (k : Vec ℕ). bytes_eq v.items k.items) ks (rw is_name (position-map (bytes_eq name) (λ (k : Vec ℕ). k.items) ks ∙ ap (position (bytes_eq name)) is_names ∙ new)) in
    rw none (map-append (λ (k : Vec ℕ). k.items) ks (v ∷ []) ∙ rw (is_names, is_name) refl)

pub take-map : {X Y : Type 0} (f : X → Y) (n : ℕ) (xs : List X) → map f (take n xs) ≡ take n (map f xs)
take-map f zero [] = refl
take-map f zero (x ∷ xs) = refl
take-map f (suc n) [] = refl
take-map f (suc n) (x ∷ xs) = ap (λ ys. f x ∷ ys) (take-map f n xs)

-- a name is among names exactly where it has a position
pub among_found : (name : List ℕ) (names : List (List ℕ)) → is_some (position (bytes_eq name) names) ≡ among names name
among_found name names = is_there (nat_lt (position_or_len (bytes_eq name) names) (length names)) (position_or_len (bytes_eq name) names) ∙ lt-list_any (bytes_eq name) names ∙ sym (among_any names)
  where
    is_there : (b : Bool) (n : ℕ) → is_some (cond b (Some n) None) ≡ b
    is_there true n = refl
    is_there false n = refl

    among_any : (vs : List (List ℕ)) → among vs name ≡ list_any (bytes_eq name) vs
    among_any [] = refl
    among_any (v ∷ vs) = ap (λ b. bytes_eq name v || b) (among_any vs)

pub among_more : (vs : List (List ℕ)) (v name : List ℕ) → among (vs ++ v ∷ []) name ≡ (among vs name || bytes_eq name v)
among_more [] v name = elim (bytes_eq name v) as (λ b. (b || false) ≡ (false || b)) [ true ↦ refl | false ↦ refl ]
among_more (u ∷ vs) v name = elim (bytes_eq name u) as (λ b. (b || among (vs ++ v ∷ []) name) ≡ ((b || among vs name) || bytes_eq name v)) [ true ↦ refl | false ↦ among_more vs v name ]

-- a name that appears is among those after it
pub among_seen : (vs : List (List ℕ)) (v name : List ℕ) → among (numbered v vs).1 name ≡ (among vs name || bytes_eq name v)
unfolding numbered
among_seen vs v name = seen (position (bytes_eq v) vs) refl
  where
    already : (b c : Bool) → (c ≡ true → b ≡ true) → b ≡ (b || c)
    already true c h = refl
    already false true h = h refl
    already false false h = refl

    is_it : bytes_eq name v ≡ true → name ≡ v
    is_it e = (bytes_eq-Decides name v).0 e

    seen : (at : Option ℕ) → position (bytes_eq v) vs ≡ at → among (placed at v vs).1 name ≡ (among vs name || bytes_eq name v)
    seen None e = among_more vs v name
    seen (Some k) e = already (among vs name) (bytes_eq name v) (λ h. rw (is_it h) (sym (among_found v vs) ∙ ap is_some e))

-- one more name of a list goes in
pub among_step : (names : List (List ℕ)) (i : ℕ) (item v : List ℕ) (old new : List (List ℕ)) → i < length names → item ≡ get_or names i item → v ≡ item → new ≡ (numbered v old).1
    → ((name : List ℕ) → among old name ≡ among (take i names) name) → (name : List ℕ) → among new name ≡ among (take (i + 1) names) name
among_step names i item v old new within is same step so_far name =
    let up : i + 1 ≡ suc i = omega arith in
    let grown : take (i + 1) names ≡ take i names ++ item ∷ [] = ap (λ n. take n names) up ∙ take-suc names i item within ∙ ap (λ x. take i names ++ x ∷ []) (sym is) in
    rw (step, same, grown) (among_seen old item name ∙ ap (λ b. b || bytes_eq name item) (so_far name) ∙ sym (among_more (take i names) item name))
