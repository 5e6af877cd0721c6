-- What one merge does to the state of the code is what it does to that of the definition.
use Rattle.std.proofs.Common.{◌≡◌, ◌≢◌, ◌⊎◌, inl, inr, ⊎_elim, ℕ, zero, suc, ◌+◌, ◌-◌, ◌<◌, ◌≤◌, Bool, true, false, not, ◌&&◌, ◌||◌, nat_eq, if◌then◌else◌, List, [], ◌∷◌, ◌++◌, map, length, Option, Some, None, slice_get, slice_set, slice_index_or, Contains, refl, sym, ap, ap₂, ◌∙◌, subst, arith}
use Rattle.std.specs.List.{fold}
use Rattle.std.specs.Fn.{iterate}
use Rattle.std.proofs.lemmas.List.{map-append, map-set}
use Rattle.std.proofs.lemmas.List.Sums.{fold-append}
use Rattle.std.proofs.lemmas.Bool.Decides.{nat_tests}
use Rattle.std.proofs.lemmas.Option.{slice_get_within, slice_get-get_or}
use Rattle.oi_base.proofs.Iterate.{iterate_more, iterate_rest}
use Rattle.oi_base.specs.declared.ids.BlockId.{BlockId}
use Rattle.ir_core.specs.declared.flat.Entry.{Entry}
use Rattle.ir_core.specs.declared.flat.Phi.{Phi}
use Rattle.ir_core.specs.declared.flat.FlatEnd.{FlatEnd}
use Rattle.ir_core.specs.declared.flat.FlatEnd.TheVariants.{Ret, Br, Cond, Switch, Unreachable}
use Rattle.ir_core.specs.declared.flat.FlatBlock.{FlatBlock}
use Rattle.ir_core.specs.Formed.{targets}
use Rattle.ir_core.proofs.Lists.{Has, contains, has_in, element}
use Rattle.ir_safety.proofs.Elements.{split, mapped_twice}
use Rattle.const_fold.proofs.Shapes.{made_at, mapped_at, map_length}
use Rattle.flow_fold.specs.declared.merger.Merge.{Merge}
use Rattle.flow_fold.specs.declared.merger.Merger.{Merger}
use Rattle.flow_fold.specs.Blocks.{one_if, entry_renamed, phi_renamed}
use Rattle.flow_fold.specs.MergeBlocks.{Merging, comes_only, plain_target, first_value, as_copy, joined, empty_block, one_name, renamed_in, merged, merged_where, merged_to, merged_once_at, merged_once, merged_behind, merged_through}
use Rattle.flow_fold.specs.Merges.{renaming, names, count, edge_count, count_in, next_where, next_merge, IsSound, Shows}
use Rattle.flow_fold.specs.Walks.{marked_in}
use Rattle.flow_fold.proofs.Edges.{set_apart, set_twice, set_length, get_other, get_own, index_own, index_other, edges_set, one_edge}

-- ---- one block is joined with another

pub join_so : (bs : List FlatBlock) (n m : ℕ) (e f j first second k l : FlatBlock) → m ≢ n → e ≡ empty_block → second ≡ l → first ≡ k → j ≡ joined first second
    → slice_set (slice_set (slice_set bs m e) n f) n j ≡ slice_set (slice_set bs n (joined k l)) m empty_block
join_so bs n m e f j first second k l apart is_empty is_second is_first is_joined =
    set_twice (slice_set bs m e) n f j ∙ set_apart bs n m j e apart
    ∙ ap₂ (λ x y. slice_set (slice_set bs n x) m y) (is_joined ∙ ap₂ joined is_first is_second) is_empty

-- ---- names

values_same : (name : ℕ → ℕ) (es : List Entry) → first_value (map (entry_renamed name) es) ≡ first_value es
values_same name [] = refl
values_same name (e ∷ es) = refl

copies_same : (name : ℕ → ℕ) (fs : List Phi) → map as_copy (map (phi_renamed name) fs) ≡ map as_copy fs
copies_same name [] = refl
copies_same name (f ∷ fs) = ap₂ (λ i is. i ∷ is) (ap (λ v. Rattle.ir_core.specs.declared.flat.FlatInstr.TheVariants.Copy f.reg v) (values_same name f.entries)) (copies_same name fs)

joined_renamed : (name : ℕ → ℕ) (k l : FlatBlock) → joined (renamed_in name k) (renamed_in name l) ≡ renamed_in name (joined k l)
joined_renamed name k l = ap (λ is. record { phis = map (phi_renamed name) k.phis; code = k.code ++ is ++ l.code; end = l.end }) (copies_same name l.phis)

entries_twice : (f g : ℕ → ℕ) (es : List Entry) → map (entry_renamed g) (map (entry_renamed f) es) ≡ map (entry_renamed (λ b. g (f b))) es
entries_twice f g [] = refl
entries_twice f g (e ∷ es) = ap (λ xs. entry_renamed (λ b. g (f b)) e ∷ xs) (entries_twice f g es)

phis_twice : (f g : ℕ → ℕ) (fs : List Phi) → map (phi_renamed g) (map (phi_renamed f) fs) ≡ map (phi_renamed (λ b. g (f b))) fs
phis_twice f g [] = refl
phis_twice f g (x ∷ xs) = ap₂ (λ y ys. y ∷ ys) (ap (λ es. record x { entries = es }) (entries_twice f g x.entries)) (phis_twice f g xs)

blocks_twice : (f g : ℕ → ℕ) (ks : List FlatBlock) → map (renamed_in g) (map (renamed_in f) ks) ≡ map (renamed_in (λ b. g (f b))) ks
blocks_twice f g [] = refl
blocks_twice f g (k ∷ ks) = ap₂ (λ y ys. y ∷ ys) (ap (λ fs. record k { phis = fs }) (phis_twice f g k.phis)) (blocks_twice f g ks)

pub names_more : (ms : List Merge) (x : Merge) → names (ms ++ x ∷ []) ≡ renaming (names ms) x
names_more ms x = fold-append renaming (λ b. b) ms (x ∷ [])

-- ---- tests

comes_renamed : (name : ℕ → ℕ) (n m a : ℕ) (ks : List FlatBlock) → comes_only n m a (map (renamed_in name) ks) ≡ comes_only n m a ks
comes_renamed name n m a [] = refl
comes_renamed name n m a (k ∷ ks) = ap (λ t. (nat_eq a n || not (Rattle.flow_fold.specs.Targets.goes_to m k.end)) && t) (comes_renamed name n m (suc a) ks)

pub plain_targets : (e : FlatEnd) (m : ℕ) → plain_target e ≡ Some m → targets e ≡ m ∷ []
plain_targets (Br b) m e = let same : b.0 ≡ m = cc in ap (λ t. t ∷ []) same
plain_targets (Ret a) m e = absurd cc
plain_targets (Cond c t f) m e = absurd cc
plain_targets (Switch a w cases other) m e = absurd cc
plain_targets Unreachable m e = absurd cc

abbrev Mergeable : ℕ → ℕ → List FlatBlock → Bool
Mergeable n m ks = not (nat_eq m 0) && not (nat_eq m n) && comes_only n m 0 ks

pub record IsNext (n m : ℕ) (counts : List ℕ) (k : FlatBlock) : Type 0 where
  pub plain : plain_target k.end ≡ Some m
  pub not_entry : m ≢ 0
  pub apart : m ≢ n
  pub one : count_in counts m ≡ 1

pub is_next : (n m : ℕ) (counts : List ℕ) (k : FlatBlock) → Some m ≡ next_merge n counts k → IsNext n m counts k
is_next n m counts k e = by_target (plain_target k.end) refl e
  where
    by_target : (o : Option ℕ) → plain_target k.end ≡ o → Some m ≡ next_where n counts o → IsNext n m counts k
    by_target None is e = absurd cc
    by_target (Some t) is e = by_tests (nat_eq t 0) (nat_eq t n) (nat_eq (count_in counts t) 1) refl refl refl e
      where
        by_tests : (x y z : Bool) → nat_eq t 0 ≡ x → nat_eq t n ≡ y → nat_eq (count_in counts t) 1 ≡ z → Some m ≡ (if not x && not y && z then Some t else None) → IsNext n m counts k
        by_tests false false true ex ey ez e =
            let same : t ≡ m = cc in
            record {
              plain = is ∙ ap Some same;
              not_entry = λ z. absurd (grind (arith, nat_tests));
              apart = λ z. absurd (grind (arith, nat_tests));
              one = let c : count_in counts t ≡ 1 = grind (arith, nat_tests) in ap (count_in counts) (sym same) ∙ c;
            }
        by_tests true y z ex ey ez e = absurd (let none : Some m ≡ None = e in cc)
        by_tests false true z ex ey ez e = absurd (let none : Some m ≡ None = e in cc)
        by_tests false false false ex ey ez e = absurd (let none : Some m ≡ None = e in cc)

module _ (c : Merger) (sound : IsSound (length c.blocks.items) c) (n : ℕ) (k : FlatBlock) (at' : slice_get c.blocks.items n ≡ Some k) where
  test_so : (m : ℕ) → plain_target k.end ≡ Some m → comes_only n m 0 c.blocks.items ≡ nat_eq (count_in c.counts m) 1
  test_so m plain =
      let z : 0 + n ≡ n = omega arith in
      one_edge n m 0 c.blocks.items n k z at' (plain_targets k.end m plain) ∙ ap (λ x. nat_eq x 1) (sym (sound.counted m))

  -- ---- nothing is to be merged

  pub stays_so : None ≡ next_merge n c.counts k → (s : Merging) → Shows s c → merged_once n s ≡ s
  stays_so none s shows =
      ap (merged_once_at s n) (ap (λ ks. slice_get ks n) shows.blocks ∙ mapped_at (renamed_in (names c.merges)) c.blocks.items n k at')
      ∙ by_target (plain_target k.end) refl none
    where
      by_target : (o : Option ℕ) → plain_target k.end ≡ o → None ≡ next_where n c.counts o → merged_to s n (renamed_in (names c.merges) k) o ≡ s
      by_target None is e = refl
      by_target (Some m) is e =
          ap (λ t. merged_where s n m (renamed_in (names c.merges) k) (not (nat_eq m 0) && not (nat_eq m n) && t) (slice_get s.blocks m))
          (ap (comes_only n m 0) shows.blocks ∙ comes_renamed (names c.merges) n m 0 c.blocks.items ∙ test_so m is)
          ∙ by_test (not (nat_eq m 0) && not (nat_eq m n) && nat_eq (count_in c.counts m) 1) e
        where
          by_test : (t : Bool) → None ≡ (if t then Some m else None) → merged_where s n m (renamed_in (names c.merges) k) t (slice_get s.blocks m) ≡ s
          by_test false e = refl
          by_test true e = absurd cc

  -- ---- a block is merged

  module _ (m : ℕ) (is : IsNext n m c.counts k) (l : FlatBlock) (at_m : slice_get c.blocks.items m ≡ Some l) (new : Merger)
      (blocks : new.blocks.items ≡ slice_set (slice_set c.blocks.items n (joined k l)) m empty_block) (left : new.left ≡ slice_set c.left m false) (counts : new.counts ≡ slice_set c.counts m 0)
      (x : Merge) (into : x.into.0 ≡ n) (from : x.from.0 ≡ m) (merges : new.merges ≡ c.merges ++ x ∷ []) where
    long_m : m < length c.blocks.items
    long_m = slice_get_within c.blocks.items m l at_m

    at_m_still : slice_get (slice_set c.blocks.items n (joined k l)) m ≡ Some l
    at_m_still = get_other c.blocks.items n m (joined k l) is.apart ∙ at_m

    own_count : (t : ℕ) → count t (targets k.end) ≡ one_if (nat_eq m t) + 0
    own_count t = ap (count t) (plain_targets k.end m is.plain)

    edges_now : (t : ℕ) → edge_count t new.blocks.items + one_if (nat_eq m t) ≡ edge_count t c.blocks.items
    edges_now t =
        let first = edges_set t c.blocks.items n k (joined k l) at' in
        let second = edges_set t (slice_set c.blocks.items n (joined k l)) m l empty_block at_m_still in
        let own = own_count t in
        let now = ap (edge_count t) blocks in
        omega (arith, first, second, own, now)

    counted_now : (t : ℕ) → count_in new.counts t ≡ edge_count t new.blocks.items
    counted_now t = ap (λ cs. count_in cs t) counts ∙ by_test (nat_eq t m) refl
      where
        by_test : (b : Bool) → nat_eq t m ≡ b → count_in (slice_set c.counts m 0) t ≡ edge_count t new.blocks.items
        by_test true e =
            let same : t ≡ m = grind (arith, nat_tests) in
            let was = sound.counted m in
            let one = is.one in
            let edges = edges_now m in
            let own : one_if (nat_eq m m) ≡ 1 = let tt' : nat_eq m m ≡ true = grind (arith, nat_tests) in ap one_if tt' in
            let zero_now : edge_count m new.blocks.items ≡ 0 = omega (arith, was, one, edges, own) in
            let lt = long_m in
            let long = sound.long_counts in
            ap (count_in (slice_set c.counts m 0)) same ∙ index_own c.counts m 0 0 (omega (arith, lt, long)) ∙ sym zero_now ∙ ap (λ z. edge_count z new.blocks.items) (sym same)
        by_test false e =
            let apart : t ≢ m = λ z. absurd (grind (arith, nat_tests)) in
            let not_m : nat_eq m t ≡ false = grind (arith, nat_tests) in
            let none : one_if (nat_eq m t) ≡ 0 = ap one_if not_m in
            let edges = edges_now t in
            let was = sound.counted t in
            index_other c.counts m t 0 0 apart ∙ omega (arith, none, edges, was)

    within_now : (a t : ℕ) (y : FlatBlock) → slice_get new.blocks.items a ≡ Some y → Contains (targets y.end) t → t < length c.blocks.items
    within_now a t y e in_it = by_tests (nat_eq a m) (nat_eq a n) refl refl
      where
        found : slice_get (slice_set (slice_set c.blocks.items n (joined k l)) m empty_block) a ≡ Some y
        found = ap (λ ks. slice_get ks a) (sym blocks) ∙ e

        by_tests : (p q : Bool) → nat_eq a m ≡ p → nat_eq a n ≡ q → t < length c.blocks.items
        by_tests true q ep eq =
            let same : a ≡ m = grind (arith, nat_tests) in
            let is_empty = get_own (slice_set c.blocks.items n (joined k l)) m empty_block y (ap (slice_get (slice_set (slice_set c.blocks.items n (joined k l)) m empty_block)) (sym same) ∙ found) in
            absurd (has_in [] t (subst (λ (z : FlatBlock). Contains (targets z.end) t) is_empty in_it))
        by_tests false true ep eq =
            let same : a ≡ n = grind (arith, nat_tests) in
            let apart : n ≢ m = λ z. is.apart (sym z) in
            let is_joined = get_own c.blocks.items n (joined k l) y (sym (get_other (slice_set c.blocks.items n (joined k l)) m n empty_block apart) ∙ ap (slice_get (slice_set (slice_set c.blocks.items n (joined k l)) m empty_block)) (sym same) ∙ found) in
            sound.within m t l at_m (subst (λ (z : FlatBlock). Contains (targets z.end) t) is_joined in_it)
        by_tests false false ep eq =
            let not_m : a ≢ m = λ z. absurd (grind (arith, nat_tests)) in
            let not_n : a ≢ n = λ z. absurd (grind (arith, nat_tests)) in
            sound.within a t y (sym (get_other c.blocks.items n a (joined k l) not_n) ∙ sym (get_other (slice_set c.blocks.items n (joined k l)) m a empty_block not_m) ∙ found) in_it

    pub sound_now : IsSound (length c.blocks.items) new
    sound_now = record {
      long = ap length blocks ∙ set_length (slice_set c.blocks.items n (joined k l)) m empty_block ∙ set_length c.blocks.items n (joined k l);
      long_left = ap length left ∙ set_length c.left m false ∙ sound.long_left;
      long_counts = ap length counts ∙ set_length c.counts m 0 ∙ sound.long_counts;
      counted = counted_now;
      within = within_now;
      merges = λ y in_it. ⊎_elim
          (λ g. sound.merges y (contains c.merges y g))
          (λ g. ⊎_elim (λ same. let lt = long_m in subst (λ z. z < length c.blocks.items) (sym from ∙ ap (λ (z : Merge). z.from.0) same) lt) (λ none. absurd none) g)
          (split c.merges (x ∷ []) y (has_in (c.merges ++ x ∷ []) y (subst (λ ms. Contains ms y) merges in_it)));
    }

    left_now : (b : ℕ) → (not (nat_eq b m) && marked_in c.left b) ≡ marked_in (slice_set c.left m false) b
    left_now b = by_test (nat_eq b m) refl
      where
        by_test : (t : Bool) → nat_eq b m ≡ t → (not t && marked_in c.left b) ≡ marked_in (slice_set c.left m false) b
        by_test true e = let same : b ≡ m = grind (arith, nat_tests) in sym (ap (marked_in (slice_set c.left m false)) same ∙ own c.left m)
          where
            own : (ms : List Bool) (i : ℕ) → marked_in (slice_set ms i false) i ≡ false
            own [] i = refl
            own (y ∷ ys) zero = refl
            own (y ∷ ys) (suc i) = own ys i
        by_test false e = let apart : b ≢ m = λ z. absurd (grind (arith, nat_tests)) in sym (index_other c.left m b false false apart)

    pub shows_now : (s : Merging) → Shows s c → Shows (merged_once n s) new
    shows_now s shows = subst (λ z. Shows z new) (sym once) (record {
      blocks =
          ap (map (renamed_in (one_name n m))) (ap₂ (λ bs j. slice_set (slice_set bs n j) m empty_block) shows.blocks (joined_renamed (names c.merges) k l))
          ∙ ap (λ bs. map (renamed_in (one_name n m)) (slice_set bs m empty_block)) (sym (map-set (renamed_in (names c.merges)) c.blocks.items n (joined k l)))
          ∙ ap (map (renamed_in (one_name n m))) (sym (map-set (renamed_in (names c.merges)) (slice_set c.blocks.items n (joined k l)) m empty_block))
          ∙ blocks_twice (names c.merges) (one_name n m) (slice_set (slice_set c.blocks.items n (joined k l)) m empty_block)
          ∙ ap₂ (λ name bs. map (renamed_in name) bs) same_names (sym blocks);
      left = (λ i b. (ap (λ (f : ℕ → Bool). not (nat_eq b m) && f b) shows.left ∙ left_now b) i) ∙ ap marked_in (sym left);
    })
      where
        same_names : (λ b. one_name n m (names c.merges b)) ≡ names new.merges
        same_names = ap₂ (λ a z b. one_name a z (names c.merges b)) (sym into) (sym from) ∙ sym (names_more c.merges x) ∙ ap names (sym merges)

        here : slice_get s.blocks n ≡ Some (renamed_in (names c.merges) k)
        here = ap (λ ks. slice_get ks n) shows.blocks ∙ mapped_at (renamed_in (names c.merges)) c.blocks.items n k at'

        there : slice_get s.blocks m ≡ Some (renamed_in (names c.merges) l)
        there = ap (λ ks. slice_get ks m) shows.blocks ∙ mapped_at (renamed_in (names c.merges)) c.blocks.items m l at_m

        tests : (not (nat_eq m 0) && not (nat_eq m n) && comes_only n m 0 s.blocks) ≡ true
        tests =
            let a : nat_eq m 0 ≡ false = let h = is.not_entry in grind (arith, nat_tests) in
            let b : nat_eq m n ≡ false = let h = is.apart in grind (arith, nat_tests) in
            let d : nat_eq (count_in c.counts m) 1 ≡ true = let h = is.one in grind (arith, nat_tests) in
            ap₂ (λ p q. not p && not q && comes_only n m 0 s.blocks) a b ∙ ap (comes_only n m 0) shows.blocks ∙ comes_renamed (names c.merges) n m 0 c.blocks.items ∙ test_so m is.plain ∙ d

        once : merged_once n s ≡ merged s n m (renamed_in (names c.merges) k) (renamed_in (names c.merges) l)
        once =
            ap (merged_once_at s n) here ∙ ap (merged_to s n (renamed_in (names c.merges) k)) is.plain
            ∙ ap₂ (merged_where s n m (renamed_in (names c.merges) k)) tests there

-- ---- turns

pub turn_more : (n t : ℕ) (s : Merging) → merged_once n (iterate (merged_once n) t s) ≡ iterate (merged_once n) (t + 1) s
turn_more n t s = iterate_more (merged_once n) t 1 s

fixed_stays : {S : Type 0} (step : S → S) (n : ℕ) (x : S) → step x ≡ x → iterate step n x ≡ x
fixed_stays step zero x e = refl
fixed_stays step (suc n) x e = ap (iterate step n) e ∙ fixed_stays step n x e

pub turns_end : (n t size : ℕ) (s : Merging) → t ≤ size → merged_once n (iterate (merged_once n) t s) ≡ iterate (merged_once n) t s → iterate (merged_once n) size s ≡ merged_once n (iterate (merged_once n) t s)
turns_end n t size s le e = sym (iterate_rest (merged_once n) t size s le) ∙ fixed_stays (merged_once n) (size - t) (iterate (merged_once n) t s) e ∙ sym e

pub same_size : (s : Merging) (c : Merger) → Shows s c → length s.blocks ≡ length c.blocks.items
same_size s c h = ap length h.blocks ∙ map_length (renamed_in (names c.merges)) c.blocks.items

-- ---- what the code knows

found : (bs : List FlatBlock) (n : ℕ) (k : FlatBlock) → n < length bs → k ≡ slice_index_or bs n k → slice_get bs n ≡ Some k
found bs n k lt e = slice_get-get_or bs n k lt ∙ ap Some (sym e)

counted_within : (cs : List ℕ) (m : ℕ) → count_in cs m ≡ 1 → m < length cs
counted_within [] m e = absurd (omega (arith, e))
counted_within (c ∷ cs) zero e = omega arith
counted_within (c ∷ cs) (suc m) e = let rest = counted_within cs m e in omega (arith, rest)

pub next_apart : (n m : ℕ) (cs : List ℕ) (k : FlatBlock) → Some m ≡ next_merge n cs k → m ≢ n
next_apart n m cs k e = (is_next n m cs k e).apart

pub next_within : (n m : ℕ) (cs : List ℕ) (k : FlatBlock) → Some m ≡ next_merge n cs k → m < length cs
next_within n m cs k e = counted_within cs m (is_next n m cs k e).one

module _ (c : Merger) (sound : IsSound (length c.blocks.items) c) (n : BlockId) (lt : n.0 < length c.blocks.items) (k : FlatBlock) (is_k : k ≡ slice_index_or c.blocks.items n.0 k) (cs : List ℕ) (is_cs : cs ≡ c.counts) where
  pub none_so : None ≡ next_merge n.0 cs k → (s : Merging) → Shows s c → merged_once n.0 s ≡ s
  none_so e s shows = stays_so c sound n.0 k (found c.blocks.items n.0 k lt is_k) (e ∙ ap (λ xs. next_merge n.0 xs k) is_cs) s shows

  module _ (m : BlockId) (e : Some m.0 ≡ next_merge n.0 cs k) (new : Merger)
      (blocks : (k l : FlatBlock) → slice_get c.blocks.items n.0 ≡ Some k → slice_get c.blocks.items m.0 ≡ Some l → new.blocks.items ≡ slice_set (slice_set c.blocks.items n.0 (joined k l)) m.0 empty_block)
      (left : new.left ≡ slice_set c.left m.0 false) (counts : new.counts ≡ slice_set c.counts m.0 0) (merges : new.merges ≡ c.merges ++ (record { into = n; from = m }) ∷ []) where
    at_n : slice_get c.blocks.items n.0 ≡ Some k
    at_n = found c.blocks.items n.0 k lt is_k

    next : IsNext n.0 m.0 c.counts k
    next = is_next n.0 m.0 c.counts k (e ∙ ap (λ xs. next_merge n.0 xs k) is_cs)

    one_there : (l : FlatBlock) × (slice_get c.blocks.items m.0 ≡ Some l)
    one_there = let h = counted_within c.counts m.0 next.one in let long = sound.long_counts in element c.blocks.items m.0 (omega (arith, h, long))

    pub merge_sound : IsSound (length c.blocks.items) new
    merge_sound = let l = one_there in sound_now c sound n.0 k at_n m.0 next l.0 l.1 new (blocks k l.0 at_n l.1) left counts (record { into = n; from = m }) refl refl merges

    pub merge_shows : (s : Merging) → Shows s c → Shows (merged_once n.0 s) new
    merge_shows s shows = let l = one_there in shows_now c sound n.0 k at_n m.0 next l.0 l.1 new (blocks k l.0 at_n l.1) left counts (record { into = n; from = m }) refl refl merges s shows
