-- The rounds in which branches become long end in the least choice in which each short branch reaches its block.
use Rattle.std.proofs.Common.{◌≡◌, ℕ, zero, suc, ◌+◌, ◌*◌, ◌<◌, ◌≤◌, Bool, true, false, nat_le, cond, List, [], ◌∷◌, map, length, take, get_or, replicate, Some, refl, sym, ap, ◌∙◌, inl, inr, arith, rules}
use Rattle.std.specs.Prelude.{◌||◌, ◌⊎◌, slice_get}
use Rattle.std.specs.List.{count_by}
use Rattle.std.specs.Fn.{iterate}
use Rattle.std.proofs.lemmas.Bool.{false≢true}
use Rattle.std.proofs.lemmas.Bool.Decides.{nat_tests}
use Rattle.std.proofs.lemmas.List.Sums.{sum_by-cons}
use Rattle.std.proofs.lemmas.Option.{get_or_from_slice_get, slice_get_within}
use Rattle.oi_base.specs.declared.ids.BlockId.{BlockId}
use Rattle.rv_isa.specs.Words.{IsSigned, IsEven}
use Rattle.rv_select.specs.declared.item.Test.{Test}
use Rattle.rv_select.specs.declared.item.Draft.{Draft}
use Rattle.rv_select.specs.declared.item.Draft.TheVariants.{Fixed, Jump, Near}
use Rattle.rv_select.specs.Pending.{distance}
use Rattle.rv_select.specs.Branches.{is_long, count_true, place, is_far, is_out_of_reach, grown_from, grown, is_branch, all_short, settled, IsWithin}

-- ---- choices of one length, one within the other

pub data Below : List Bool → List Bool → Type 0 where
  none : Below [] []
  more : {xs ys : List Bool} (a b : Bool) → (a ≡ true → b ≡ true) → Below xs ys → Below (a ∷ xs) (b ∷ ys)

pub below_by : (xs ys : List Bool) → length xs ≡ length ys → IsWithin xs ys → Below xs ys
below_by [] [] e w = none
below_by [] (b ∷ ys) e w = absurd (omega (arith, e))
below_by (a ∷ xs) [] e w = absurd (omega (arith, e))
below_by (a ∷ xs) (b ∷ ys) e w = more a b (w 0) (below_by xs ys (omega (arith, e)) (λ k h. w (suc k) h))

pub count-cons : (b : Bool) (ys : List Bool) → count_true (b ∷ ys) ≡ cond b 1 0 + count_true ys
count-cons b ys = sum_by-cons (λ (x : Bool). cond x 1 0) b ys

pub count_below : {xs ys : List Bool} → Below xs ys → count_true xs ≤ count_true ys
count_below none = omega arith
count_below (more {xs} {ys} true true i h) = omega (arith, count-cons true xs, count-cons true ys, count_below h)
count_below (more {xs} {ys} false true i h) = omega (arith, count-cons false xs, count-cons true ys, count_below h)
count_below (more {xs} {ys} false false i h) = omega (arith, count-cons false xs, count-cons false ys, count_below h)
count_below (more {xs} {ys} true false i h) = absurd (false≢true (i refl))

-- no more are long in the larger one, so it is the same
pub same : {xs ys : List Bool} → Below xs ys → count_true ys ≤ count_true xs → xs ≡ ys
same none le = refl
same (more {xs} {ys} true true i h) le = ap (λ (zs : List Bool). true ∷ zs) (same h (omega (arith, count-cons true xs, count-cons true ys, le)))
same (more {xs} {ys} false false i h) le = ap (λ (zs : List Bool). false ∷ zs) (same h (omega (arith, count-cons false xs, count-cons false ys, le)))
same (more {xs} {ys} false true i h) le = absurd (omega (arith, count-cons false xs, count-cons true ys, count_below h, le))
same (more {xs} {ys} true false i h) le = absurd (false≢true (i refl))

take_below : {xs ys : List Bool} → (n : ℕ) → Below xs ys → count_true (take n xs) ≤ count_true (take n ys)
take_below zero h = omega arith
take_below (suc n) none = omega arith
take_below (suc n) (more {xs} {ys} true true i h) = omega (arith, count-cons true (take n xs), count-cons true (take n ys), take_below n h)
take_below (suc n) (more {xs} {ys} false true i h) = omega (arith, count-cons false (take n xs), count-cons true (take n ys), take_below n h)
take_below (suc n) (more {xs} {ys} false false i h) = omega (arith, count-cons false (take n xs), count-cons false (take n ys), take_below n h)
take_below (suc n) (more {xs} {ys} true false i h) = absurd (false≢true (i refl))

-- between two drafts as many branches or more are long in the larger one
pub between : {xs ys : List Bool} → (k h : ℕ) → Below xs ys → k ≤ h → count_true (take h xs) + count_true (take k ys) ≤ count_true (take h ys) + count_true (take k xs)
between zero h b le = omega (arith, take_below h b)
between (suc k) zero b le = absurd (omega (arith, le))
between (suc k) (suc h) none le = omega arith
between (suc k) (suc h) (more {xs} {ys} a b i below) le =
    omega (arith, count-cons a (take h xs), count-cons a (take k xs), count-cons b (take h ys), count-cons b (take k ys), between k h below (omega (arith, le)))

pub count_take : (ys : List Bool) (k h : ℕ) → k ≤ h → count_true (take k ys) ≤ count_true (take h ys)
count_take ys zero h le = omega arith
count_take ys (suc k) zero le = absurd (omega (arith, le))
count_take [] (suc k) (suc h) le = omega arith
count_take (b ∷ ys) (suc k) (suc h) le = omega (arith, count-cons b (take k ys), count-cons b (take h ys), count_take ys k h (omega (arith, le)))

-- ---- a branch that does not reach its block does not reach it either where more are long

is_or : (a b : Bool) → (a || b) ≡ true → (a ≡ true) ⊎ (b ≡ true)
is_or true b e = inl refl
is_or false b e = inr e

or_left : (a b : Bool) → a ≡ true → (a || b) ≡ true
or_left true b e = refl
or_left false b e = absurd (false≢true e)

or_right : (a b : Bool) → b ≡ true → (a || b) ≡ true
or_right true b e = refl
or_right false b e = e

before_less : (k h p q p' q' : ℕ) → h ≤ k → q ≤ p → p + q' ≤ p' + q → is_far (4 * (k + p)) (4 * (h + q)) ≡ true → is_far (4 * (k + p')) (4 * (h + q')) ≡ true
before_less k h p q p' q' le order wider e = grind (arith, nat_tests)

after_less : (k h p q p' q' : ℕ) → k ≤ h → p ≤ q → q + p' ≤ q' + p → is_far (4 * (k + p)) (4 * (h + q)) ≡ true → is_far (4 * (k + p')) (4 * (h + q')) ≡ true
after_less k h p q p' q' le order wider e = grind (arith, nat_tests)

pub far_below : {xs ys : List Bool} → (k h : ℕ) → Below xs ys → is_far (place xs k) (place xs h) ≡ true → is_far (place ys k) (place ys h) ≡ true
far_below {xs} {ys} k h b e = by_order (nat_le k h) refl
  where
    by_order : (c : Bool) → nat_le k h ≡ c → is_far (place ys k) (place ys h) ≡ true
    by_order true t =
        let le : k ≤ h = grind (arith, nat_tests) in
        after_less k h (count_true (take k xs)) (count_true (take h xs)) (count_true (take k ys)) (count_true (take h ys)) le (count_take xs k h le) (between k h b le) e
    by_order false t =
        let le : h ≤ k = grind (arith, nat_tests) in
        before_less k h (count_true (take k xs)) (count_true (take h xs)) (count_true (take k ys)) (count_true (take h ys)) le (count_take xs h k le) (between h k b le) e

-- ---- one round

grown_length : (heads : ℕ → ℕ) (longs : List Bool) (k : ℕ) (ds : List Draft) → length (grown_from heads longs k ds) ≡ length ds
grown_length heads longs k [] = refl
grown_length heads longs k (d ∷ ds) = ap (λ (n : ℕ). suc n) (grown_length heads longs (k + 1) ds)

pub grown_at : (heads : ℕ → ℕ) (longs : List Bool) (k : ℕ) (ds : List Draft) (j : ℕ) (e : Draft) → j < length ds → is_long (grown_from heads longs k ds) j ≡ (is_long longs (k + j) || is_out_of_reach heads longs (k + j) (get_or ds j e))
grown_at heads longs k [] j e within = absurd (omega (arith, within))
grown_at heads longs k (d ∷ ds) zero e within =
    let same : k ≡ k + 0 = omega arith in
    ap (λ (n : ℕ). is_long longs n || is_out_of_reach heads longs n d) same
grown_at heads longs k (d ∷ ds) (suc j) e within =
    let next : k + 1 + j ≡ k + suc j = omega arith in
    grown_at heads longs (k + 1) ds j e (omega (arith, within)) ∙ ap (λ (n : ℕ). is_long longs n || is_out_of_reach heads longs n (get_or ds j e)) next

-- past its end a choice has no long branch
within_length : (longs : List Bool) (k : ℕ) → is_long longs k ≡ true → k < length longs
within_length [] k e = absurd (false≢true e)
within_length (b ∷ bs) zero e = omega arith
within_length (b ∷ bs) (suc k) e = omega (arith, within_length bs k e)

a_draft : Draft
a_draft = Jump (record { 0 = 0 })

more_out_of_reach : (heads : ℕ → ℕ) {xs ys : List Bool} (k : ℕ) (d : Draft) → Below xs ys → is_out_of_reach heads xs k d ≡ true → is_out_of_reach heads ys k d ≡ true
more_out_of_reach heads k (Near t r q b) below e = far_below k (heads b.0) below e
more_out_of_reach heads k (Fixed i) below e = e
more_out_of_reach heads k (Jump b) below e = e

is_a_branch : (heads : ℕ → ℕ) (longs : List Bool) (k : ℕ) (d : Draft) → is_out_of_reach heads longs k d ≡ true → is_branch d ≡ true
is_a_branch heads longs k (Near t r q b) e = refl
is_a_branch heads longs k (Fixed i) e = e
is_a_branch heads longs k (Jump b) e = e

branch_at : (ds : List Draft) (k : ℕ) (e : Draft) → k < length ds → is_branch (get_or ds k e) ≡ true → is_long (map is_branch ds) k ≡ true
branch_at [] k e within h = absurd (omega (arith, within))
branch_at (d ∷ ds) zero e within h = h
branch_at (d ∷ ds) (suc k) e within h = branch_at ds k e (omega (arith, within)) h

branches_length : (ds : List Draft) → length (map is_branch ds) ≡ length ds
branches_length [] = refl
branches_length (d ∷ ds) = ap (λ (n : ℕ). suc n) (branches_length ds)

branches_count : (ds : List Draft) → count_true (map is_branch ds) ≡ count_by is_branch ds
branches_count [] = refl
branches_count (d ∷ ds) = omega (arith, count-cons (is_branch d) (map is_branch ds), sum_by-cons (λ (x : Draft). cond (is_branch x) 1 0) d ds, branches_count ds)

short_length : (ds : List Draft) → length (all_short ds) ≡ length ds
short_length [] = refl
short_length (d ∷ ds) = ap (λ (n : ℕ). suc n) (short_length ds)

pub none_long : (ds : List Draft) (k : ℕ) → is_long (all_short ds) k ≡ true → ⊥
none_long [] k e = false≢true e
none_long (d ∷ ds) zero e = false≢true e
none_long (d ∷ ds) (suc k) e = none_long ds k e

module _ (heads : ℕ → ℕ) (ds : List Draft) where
  at : (longs : List Bool) (k : ℕ) → k < length ds → is_long (grown heads ds longs) k ≡ (is_long longs k || is_out_of_reach heads longs k (get_or ds k a_draft))
  at longs k within =
      let same : 0 + k ≡ k = omega arith in
      grown_at heads longs 0 ds k a_draft within ∙ ap (λ (n : ℕ). is_long longs n || is_out_of_reach heads longs n (get_or ds k a_draft)) same

  inside : (longs : List Bool) (k : ℕ) → is_long (grown heads ds longs) k ≡ true → k < length ds
  inside longs k e = omega (arith, within_length (grown heads ds longs) k e, grown_length heads longs 0 ds)

  -- what is long stays long
  pub stays : (longs : List Bool) → length longs ≡ length ds → Below longs (grown heads ds longs)
  stays longs len = below_by longs (grown heads ds longs) (omega (arith, grown_length heads longs 0 ds)) stays_at
    where
      stays_at : IsWithin longs (grown heads ds longs)
      stays_at k e =
          let within : k < length ds = omega (arith, within_length longs k e) in
          at longs k within ∙ or_left (is_long longs k) (is_out_of_reach heads longs k (get_or ds k a_draft)) e

  -- where more are long before a round, more are after it
  pub grown_below : {xs ys : List Bool} → Below xs ys → IsWithin xs ys → IsWithin (grown heads ds xs) (grown heads ds ys)
  grown_below {xs} {ys} below w k e =
      let within : k < length ds = inside xs k e in
      let d : Draft = get_or ds k a_draft in
      at ys k within ∙ by_or within (is_or (is_long xs k) (is_out_of_reach heads xs k d) (sym (at xs k within) ∙ e))
    where
      by_or : k < length ds → (is_long xs k ≡ true) ⊎ (is_out_of_reach heads xs k (get_or ds k a_draft) ≡ true) → (is_long ys k || is_out_of_reach heads ys k (get_or ds k a_draft)) ≡ true
      by_or within (inl h) = or_left (is_long ys k) (is_out_of_reach heads ys k (get_or ds k a_draft)) (w k h)
      by_or within (inr h) = or_right (is_long ys k) (is_out_of_reach heads ys k (get_or ds k a_draft)) (more_out_of_reach heads k (get_or ds k a_draft) below h)

  -- a choice among the branches
  pub record IsChoice (longs : List Bool) : Type 0 where
    pub len : length longs ≡ length ds
    pub branches : IsWithin longs (map is_branch ds)

  pub starts : IsChoice (all_short ds)
  starts = record { len = short_length ds; branches = λ k e. absurd (none_long ds k e) }

  pub grows : (longs : List Bool) → IsChoice longs → IsChoice (grown heads ds longs)
  grows longs c = record { len = grown_length heads longs 0 ds; branches = among }
    where
      by_or : (k : ℕ) → k < length ds → (is_long longs k ≡ true) ⊎ (is_out_of_reach heads longs k (get_or ds k a_draft) ≡ true) → is_long (map is_branch ds) k ≡ true
      by_or k within (inl h) = c.branches k h
      by_or k within (inr h) = branch_at ds k a_draft within (is_a_branch heads longs k (get_or ds k a_draft) h)

      among : IsWithin (grown heads ds longs) (map is_branch ds)
      among k e =
          let within : k < length ds = inside longs k e in
          by_or k within (is_or (is_long longs k) (is_out_of_reach heads longs k (get_or ds k a_draft)) (sym (at longs k within) ∙ e))

  below_branches : (longs : List Bool) → IsChoice longs → Below longs (map is_branch ds)
  below_branches longs c = below_by longs (map is_branch ds) (omega (arith, c.len, branches_length ds)) c.branches

  -- ---- many rounds

  pub still : (n : ℕ) (longs : List Bool) → grown heads ds longs ≡ longs → iterate (grown heads ds) n longs ≡ longs
  still zero longs e = refl
  still (suc n) longs e = ap (iterate (grown heads ds) n) e ∙ still n longs e

  pub one_more : (n : ℕ) (longs : List Bool) → iterate (grown heads ds) (suc n) longs ≡ grown heads ds (iterate (grown heads ds) n longs)
  one_more zero longs = refl
  one_more (suc n) longs = one_more n (grown heads ds longs)

  -- no more rounds are needed once one changes nothing
  pub rests : (r n : ℕ) (longs : List Bool) → r ≤ n → grown heads ds (iterate (grown heads ds) r longs) ≡ iterate (grown heads ds) r longs → iterate (grown heads ds) n longs ≡ iterate (grown heads ds) r longs
  rests zero n longs le e = still n longs e
  rests (suc r) zero longs le e = absurd (omega (arith, le))
  rests (suc r) (suc n) longs le e = rests r n (grown heads ds longs) (omega (arith, le)) e

  pub choices : (n : ℕ) (longs : List Bool) → IsChoice longs → IsChoice (iterate (grown heads ds) n longs)
  choices zero longs c = c
  choices (suc n) longs c = choices n (grown heads ds longs) (grows longs c)

  -- each round changes nothing or makes a branch long
  rounds : (n : ℕ) (longs : List Bool) → IsChoice longs → (grown heads ds (iterate (grown heads ds) n longs) ≡ iterate (grown heads ds) n longs) ⊎ (n + count_true longs ≤ count_true (iterate (grown heads ds) n longs))
  rounds zero longs c = inr (omega arith)
  rounds (suc n) longs c = by_count (nat_le (count_true (grown heads ds longs)) (count_true longs)) refl (rounds n (grown heads ds longs) (grows longs c))
    where
      by_count : (b : Bool) → nat_le (count_true (grown heads ds longs)) (count_true longs) ≡ b
          → (grown heads ds (iterate (grown heads ds) n (grown heads ds longs)) ≡ iterate (grown heads ds) n (grown heads ds longs)) ⊎ (n + count_true (grown heads ds longs) ≤ count_true (iterate (grown heads ds) n (grown heads ds longs)))
          → (grown heads ds (iterate (grown heads ds) n (grown heads ds longs)) ≡ iterate (grown heads ds) n (grown heads ds longs)) ⊎ (suc n + count_true longs ≤ count_true (iterate (grown heads ds) n (grown heads ds longs)))
      by_count true t h =
          let le : count_true (grown heads ds longs) ≤ count_true longs = grind (arith, nat_tests) in
          let e : grown heads ds longs ≡ longs = sym (same (stays longs c.len) le) in
          let s : iterate (grown heads ds) n (grown heads ds longs) ≡ grown heads ds longs = still n (grown heads ds longs) (ap (grown heads ds) e) in
          inl (ap (grown heads ds) s ∙ ap (grown heads ds) e ∙ sym s)
      by_count false t (inl h) = inl h
      by_count false t (inr h) =
          let more_long : count_true longs < count_true (grown heads ds longs) = grind (arith, nat_tests) in
          inr (omega (arith, h, more_long))

  pub settled_stays : grown heads ds (settled heads ds) ≡ settled heads ds
  settled_stays = by_rounds (rounds (count_by is_branch ds) (all_short ds) starts)
    where
      chosen : IsChoice (settled heads ds)
      chosen = choices (count_by is_branch ds) (all_short ds) starts

      by_rounds : (grown heads ds (settled heads ds) ≡ settled heads ds) ⊎ (count_by is_branch ds + count_true (all_short ds) ≤ count_true (settled heads ds)) → grown heads ds (settled heads ds) ≡ settled heads ds
      by_rounds (inl h) = h
      by_rounds (inr h) =
          let many : count_true (map is_branch ds) ≤ count_true (settled heads ds) = omega (arith, h, branches_count ds) in
          let more_long = count_below (stays (settled heads ds) chosen.len) in
          let all : settled heads ds ≡ map is_branch ds = same (below_branches (settled heads ds) chosen) many in
          let next : grown heads ds (settled heads ds) ≡ map is_branch ds = same (below_branches (grown heads ds (settled heads ds)) (grows (settled heads ds) chosen)) (omega (arith, many, more_long)) in
          next ∙ sym all

  -- ---- the least one

  least_from : (n : ℕ) (longs wider : List Bool) → length longs ≡ length ds → grown heads ds wider ≡ wider → IsWithin longs wider → IsWithin (iterate (grown heads ds) n longs) wider
  least_from zero longs wider len e w = w
  least_from (suc n) longs wider len e w =
      let len_wider : length wider ≡ length ds = ap (λ (x : List Bool). length x) (sym e) ∙ grown_length heads wider 0 ds in
      let next : IsWithin (grown heads ds longs) (grown heads ds wider) = grown_below (below_by longs wider (omega (arith, len, len_wider)) w) w in
      least_from n (grown heads ds longs) wider (grown_length heads longs 0 ds) e (λ k h. ap (λ (x : List Bool). is_long x k) (sym e) ∙ next k h)

  pub settled_least : (longs : List Bool) → grown heads ds longs ≡ longs → IsWithin (settled heads ds) longs
  settled_least longs e = least_from (count_by is_branch ds) (all_short ds) longs (short_length ds) e (λ k h. absurd (none_long ds k h))

  -- ---- where a round changes nothing

  pub reaches : (longs : List Bool) (k : ℕ) (d : Draft) → grown heads ds longs ≡ longs → k < length ds → get_or ds k d ≡ d → is_long longs k ≡ false → is_out_of_reach heads longs k d ≡ false
  reaches longs k d e within is short =
      let now : is_long (grown heads ds longs) k ≡ (is_long longs k || is_out_of_reach heads longs k d) =
      grown_at heads longs 0 ds k d within ∙ ap (λ (n : ℕ). is_long longs n || is_out_of_reach heads longs n (get_or ds k d)) (omega arith) ∙ ap (λ (x : Draft). is_long longs k || is_out_of_reach heads longs k x) is in
      sym (ap (λ (b : Bool). b || is_out_of_reach heads longs k d) short) ∙ sym now ∙ ap (λ (x : List Bool). is_long x k) e ∙ short

-- places that are four apart or a multiple of it, none of which is far from the other
pub in_reach : (x y : ℕ) → is_far (4 * x) (4 * y) ≡ false → IsSigned 12 (distance (4 * x) (4 * y)) × IsEven (distance (4 * x) (4 * y))
in_reach x y e = (grind (arith, nat_tests), search rules)

pub short_reaches : (heads : ℕ → ℕ) (ds : List Draft) (k : ℕ) (t : Test) (r q : ℕ) (b : BlockId) → slice_get ds k ≡ Some (Near t r q b) → is_long (settled heads ds) k ≡ false
    → IsSigned 12 (distance (place (settled heads ds) k) (place (settled heads ds) (heads b.0))) × IsEven (distance (place (settled heads ds) k) (place (settled heads ds) (heads b.0)))
short_reaches heads ds k t r q b there short =
    let longs : List Bool = settled heads ds in
    in_reach (k + count_true (take k longs)) (heads b.0 + count_true (take (heads b.0) longs)) (reaches heads ds longs k (Near t r q b) (settled_stays heads ds) (slice_get_within ds k (Near t r q b) there) (get_or_from_slice_get ds k (Near t r q b) (Near t r q b) there) short)

-- ---- the rounds of a loop

-- where a round leaves as many long branches as there were, the choice is settled
pub last_round : (heads : ℕ → ℕ) (ds : List Draft) (r n : ℕ) (longs next : List Bool) → longs ≡ iterate (grown heads ds) r (all_short ds) → r < n → n ≡ count_by is_branch ds → next ≡ grown heads ds longs → length next + count_true next ≡ length longs + count_true longs → longs ≡ settled heads ds
last_round heads ds r n longs next e lt en eg count =
    let chosen : IsChoice heads ds (iterate (grown heads ds) r (all_short ds)) = choices heads ds r (all_short ds) (starts heads ds) in
    let len : length longs ≡ length ds = ap (λ (x : List Bool). length x) e ∙ chosen.len in
    let counts : length (grown heads ds longs) + count_true (grown heads ds longs) ≡ length longs + count_true longs = ap (λ (x : List Bool). length x + count_true x) (sym eg) ∙ count in
    let still_so : longs ≡ grown heads ds longs = same (stays heads ds longs len) (omega (arith, counts, len, grown_length heads longs 0 ds)) in
    let stop : grown heads ds (iterate (grown heads ds) r (all_short ds)) ≡ iterate (grown heads ds) r (all_short ds) = ap (grown heads ds) (sym e) ∙ sym still_so ∙ e in
    e ∙ sym (rests heads ds r (count_by is_branch ds) (all_short ds) (omega (arith, lt, en)) stop)

pub next_round : (heads : ℕ → ℕ) (ds : List Draft) (r : ℕ) (longs next : List Bool) → longs ≡ iterate (grown heads ds) r (all_short ds) → next ≡ grown heads ds longs → next ≡ iterate (grown heads ds) (r + 1) (all_short ds)
next_round heads ds r longs next e eg =
    let up : suc r ≡ r + 1 = omega arith in
    eg ∙ ap (grown heads ds) e ∙ sym (one_more heads ds r (all_short ds)) ∙ ap (λ (n : ℕ). iterate (grown heads ds) n (all_short ds)) up

pub round_length : (heads : ℕ → ℕ) (ds : List Draft) (r : ℕ) (longs : List Bool) → longs ≡ iterate (grown heads ds) r (all_short ds) → length longs ≡ length ds
round_length heads ds r longs e = ap (λ (x : List Bool). length x) e ∙ (choices heads ds r (all_short ds) (starts heads ds)).len

pub none_yet : (ds : List Draft) → replicate (length ds) false ≡ all_short ds
none_yet [] = refl
none_yet (d ∷ ds) = ap (λ (x : List Bool). false ∷ x) (none_yet ds)
