-- Sums of sizes over a set, and over classes of it.
use Rattle.std.proofs.Common.{◌≡◌, ℕ, refl, sym, ap, ◌∙◌, arith, Bool, true, false, ◌||◌, nat_eq, List, [], ◌∷◌, map, Some, None, eq-eqb, cond}
use Rattle.std.specs.List.{filter}
use Rattle.std.proofs.lemmas.Bool.{eqb-true, eqb-false, false≢true, true≢false}
use Rattle.component_split.specs.Graph.{Distinct, has}
use Rattle.size_measure.specs.Sizes.{Size, plus, total}

pub plus_none : (a : Size) → plus a None ≡ None
plus_none None = refl
plus_none (Some a) = refl

pub plus_zero : (a : Size) → plus (Some 0) a ≡ a
plus_zero None = refl
plus_zero (Some a) = ap Some (omega arith)

pub plus_comm : (a b : Size) → plus a b ≡ plus b a
plus_comm None None = refl
plus_comm None (Some b) = refl
plus_comm (Some a) None = refl
plus_comm (Some a) (Some b) = ap Some (omega arith)

pub plus_assoc : (a b c : Size) → plus (plus a b) c ≡ plus a (plus b c)
plus_assoc None b c = refl
plus_assoc (Some a) None c = refl
plus_assoc (Some a) (Some b) None = refl
plus_assoc (Some a) (Some b) (Some c) = ap Some (omega arith)

-- the sums over the classes
unfoldable totals : (ℕ → Size) → List (List ℕ) → Size
totals v [] = Some 0
totals v (c ∷ cs) = plus (total v c) (totals v cs)

abbrev pub group : (ℕ → ℕ) → List ℕ → ℕ → List ℕ
group key fs r = filter (λ f. nat_eq (key f) r) fs

abbrev one_if : Bool → Size → Size
one_if true v = v
one_if false v = Some 0

-- one function's value, at the class with its key
unfoldable ones : ℕ → Size → List ℕ → Size
ones k v [] = Some 0
ones k v (r ∷ rs) = plus (one_if (nat_eq k r) v) (ones k v rs)

total_cond : (v : ℕ → Size) (b : Bool) (f : ℕ) (fs : List ℕ) → total v (cond b (f ∷ fs) fs) ≡ plus (one_if b (v f)) (total v fs)
unfolding total
total_cond v true f fs = refl
total_cond v false f fs = sym (plus_zero (total v fs))

swap_four : (a b c d : Size) → plus (plus a b) (plus c d) ≡ plus (plus a c) (plus b d)
swap_four a b c d = plus_assoc a b (plus c d) ∙ ap (λ x. plus a x) (sym (plus_assoc b c d) ∙ ap (λ x. plus x d) (plus_comm b c) ∙ plus_assoc c b d) ∙ sym (plus_assoc a c (plus b d))

totals_cons : (v : ℕ → Size) (key : ℕ → ℕ) (f : ℕ) (fs rs : List ℕ) → totals v (map (group key (f ∷ fs)) rs) ≡ plus (ones (key f) (v f) rs) (totals v (map (group key fs) rs))
unfolding totals ones
totals_cons v key f fs [] = refl
totals_cons v key f fs (r ∷ rs) = ap (λ x. plus x (totals v (map (group key (f ∷ fs)) rs))) (total_cond v (nat_eq (key f) r) f (group key fs r)) ∙ ap (λ x. plus (plus (one_if (nat_eq (key f) r) (v f)) (total v (group key fs r))) x) (totals_cons v key f fs rs) ∙ swap_four (one_if (nat_eq (key f) r) (v f)) (total v (group key fs r)) (ones (key f) (v f) rs) (totals v (map (group key fs) rs))

ones_at : (b c : Bool) (k r : ℕ) (v : Size) (rs : List ℕ) → nat_eq k r ≡ b → nat_eq r k ≡ c → (has rs k ≡ false → ones k v rs ≡ Some 0) → ((c || has rs k) ≡ false) → plus (one_if b v) (ones k v rs) ≡ Some 0
ones_at b true k r v rs e i rest h = absurd (true≢false h)
ones_at true false k r v rs e i rest h = absurd (eqb-false r k i (sym (eqb-true k r e)))
ones_at false false k r v rs e i rest h = plus_zero (ones k v rs) ∙ rest h

ones_absent : (k : ℕ) (v : Size) (rs : List ℕ) → has rs k ≡ false → ones k v rs ≡ Some 0
unfolding ones
ones_absent k v [] h = refl
ones_absent k v (r ∷ rs) h = ones_at (nat_eq k r) (nat_eq r k) k r v rs refl refl (λ e. ones_absent k v rs e) h

plus_zero_right : (a : Size) → plus a (Some 0) ≡ a
plus_zero_right a = plus_comm a (Some 0) ∙ plus_zero a

once_at : (b c : Bool) (k r : ℕ) (v : Size) (rs : List ℕ) → nat_eq k r ≡ b → nat_eq r k ≡ c → has rs r ≡ false → (has rs k ≡ true → ones k v rs ≡ v) → ((c || has rs k) ≡ true) → plus (one_if b v) (ones k v rs) ≡ v
once_at true c k r v rs e i d rest h = let same : r ≡ k = sym (eqb-true k r e) in let d' : has rs k ≡ false = ap (has rs) (sym same) ∙ d in ap (λ x. plus v x) (ones_absent k v rs d') ∙ plus_zero_right v
once_at false true k r v rs e i d rest h = absurd (eqb-false k r e (sym (eqb-true r k i)))
once_at false false k r v rs e i d rest h = plus_zero (ones k v rs) ∙ rest h

ones_once : (k : ℕ) (v : Size) (rs : List ℕ) → Distinct rs → has rs k ≡ true → ones k v rs ≡ v
unfolding ones
ones_once k v [] d h = absurd (false≢true h)
ones_once k v (r ∷ rs) d h = once_at (nat_eq k r) (nat_eq r k) k r v rs refl refl d.0 (λ e. ones_once k v rs d.1 e) h

all_empty : (v : ℕ → Size) (key : ℕ → ℕ) (rs : List ℕ) → totals v (map (group key []) rs) ≡ Some 0
unfolding totals total
all_empty v key [] = refl
all_empty v key (r ∷ rs) = plus_zero (totals v (map (group key []) rs)) ∙ all_empty v key rs

pub has_head : (f : ℕ) (fs : List ℕ) → has (f ∷ fs) f ≡ true
has_head f fs = let e : nat_eq f f ≡ true = eq-eqb f f refl in rw e refl

pub has_tail : (f q : ℕ) (fs : List ℕ) → has fs q ≡ true → has (f ∷ fs) q ≡ true
has_tail f q fs e = let l : (b : Bool) → (b || true) ≡ true = elim [ true ↦ refl | false ↦ refl ] in rw e (l (nat_eq f q))

totals_groups : (v : ℕ → Size) (key : ℕ → ℕ) (rs : List ℕ) → Distinct rs → (fs : List ℕ) → ((f : ℕ) → has fs f ≡ true → has rs (key f) ≡ true) → totals v (map (group key fs) rs) ≡ total v fs
unfolding total
totals_groups v key rs d [] h = all_empty v key rs
totals_groups v key rs d (f ∷ fs) h = totals_cons v key f fs rs ∙ ap (λ x. plus x (totals v (map (group key fs) rs))) (ones_once (key f) (v f) rs d (h f (has_head f fs))) ∙ ap (λ x. plus (v f) x) (totals_groups v key rs d fs (λ q e. h q (has_tail f q fs e)))

totals_one : (v : ℕ → Size) (class : ℕ → List ℕ) (rs : List ℕ) → total (λ r. total v (class r)) rs ≡ totals v (map class rs)
unfolding total totals
totals_one v class [] = refl
totals_one v class (r ∷ rs) = ap (plus (total v (class r))) (totals_one v class rs)

-- the sum over a list is the sum, over the keys of its elements, of those over the elements with the key
pub total_of_groups : (v : ℕ → Size) (key : ℕ → ℕ) (rs : List ℕ) → Distinct rs → (fs : List ℕ) → ((f : ℕ) → has fs f ≡ true → has rs (key f) ≡ true) → total (λ r. total v (group key fs r)) rs ≡ total v fs
total_of_groups v key rs d fs h = totals_one v (group key fs) rs ∙ totals_groups v key rs d fs h
