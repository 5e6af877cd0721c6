-- A walk along the edges of a body marks the blocks that are reached.
use Rattle.std.proofs.Common.{◌≡◌, ◌⊎◌, inl, inr, ⊎_elim, ℕ, zero, suc, ◌+◌, ◌<◌, ◌≤◌, Bool, true, false, List, [], ◌∷◌, ◌++◌, length, length-append, Option, Some, None, replicate, slice_get, slice_index_or, All, Contains, refl, sym, ap, ◌∙◌, subst, arith}
use Rattle.std.proofs.lemmas.Option.{slice_get_within, slice_get-get_or}
use Rattle.std.proofs.lemmas.List.Elements.{All-contains_itself}
use Rattle.oi_base.specs.declared.ids.BlockId.{BlockId}
use Rattle.ir_core.specs.declared.flat.FlatBlock.{FlatBlock}
use Rattle.ir_core.specs.declared.flat.FlatBody.{FlatBody}
use Rattle.ir_core.specs.Formed.{IsEdge, IsFormedBody, targets}
use Rattle.ir_core.specs.WellFormed.{IsWellFormed}
use Rattle.ir_core.proofs.Lists.{Has, contains, has_in, has_left, has_right, has_at, element}
use Rattle.ir_safety.proofs.Elements.{split}
use Rattle.flow_fold.specs.declared.walk.Walk.{Walk}
use Rattle.flow_fold.specs.Ways.{leads}
use Rattle.flow_fold.specs.DropUnreached.{has_edge, is_reached}
use Rattle.flow_fold.specs.Walks.{marked_in, is_marked, is_open, missing, work, Marks}
use Rattle.flow_fold.proofs.BranchesFormed.{goes_has, has_goes}
use Rattle.flow_fold.proofs.Ways.{by_edge, to_itself, joins, marked_is_led}
use Rattle.flow_fold.proofs.Reaching.{edge_of, told_edge}
use Rattle.flow_fold.proofs.Numbers.{unmarked}

-- what holds during the walk: marked blocks are reached, and where one is not to be looked at, its targets are marked
pub record IsWalk (body : FlatBody) (w : Walk) : Type 0 where
  pub long : length w.marks ≡ length body.blocks
  pub within : (b : ℕ) → is_open w b → b < length body.blocks
  pub opened : (b : ℕ) → is_open w b → is_reached body b ≡ true
  pub start : is_marked w 0 ≡ true
  pub sound : (b : ℕ) → is_marked w b ≡ true → is_reached body b ≡ true
  pub closed : (a c : ℕ) (k : FlatBlock) → slice_get body.blocks a ≡ Some k → is_marked w a ≡ true → Contains (targets k.end) c → is_open w a ⊎ (is_marked w c ≡ true)

none_marked : (n b : ℕ) → marked_in (replicate n false) b ≡ false
none_marked zero zero = refl
none_marked zero (suc b) = refl
none_marked (suc n) zero = refl
none_marked (suc n) (suc b) = none_marked n b

long_none : (n : ℕ) → length (replicate n false) ≡ n
long_none zero = refl
long_none (suc n) = ap suc (long_none n)

-- the last of the blocks that are to be looked at
pub open_last : (w v : Walk) (b : ℕ) → w.todo ≡ v.todo ++ (record { 0 = b }) ∷ [] → is_open w b
open_last w v b todo = subst (λ xs. Contains xs (record { 0 = b })) (sym todo) (contains (v.todo ++ (record { 0 = b }) ∷ []) (record { 0 = b }) (has_right v.todo ((record { 0 = b }) ∷ []) (record { 0 = b }) (inl refl)))

module _ (body : FlatBody) (h : IsWellFormed body) where
  targets_within : (a : ℕ) (k : FlatBlock) → slice_get body.blocks a ≡ Some k → All (λ t. t < length body.blocks) (targets k.end)
  targets_within a k e = λ i d lt. h.formed.in_range a _ (k, e, All-contains_itself (targets k.end) i d lt)

  some_block : 0 < length body.blocks
  some_block = slice_get_within body.blocks 0 h.formed.entry.0 h.formed.entry.1

  -- the walk begins at the entry
  pub begun : (empty w : Walk) → empty.marks ≡ replicate (length body.blocks) false → empty.todo ≡ [] → Marks empty w (0 ∷ []) → IsWalk body w
  begun empty w marks todo m = record {
    long = m.long ∙ ap length marks ∙ long_none (length body.blocks);
    within = λ b o. ⊎_elim (λ old. absurd (none_open b old)) (λ new. subst (λ n. n < length body.blocks) (only_zero b new) some_block) (m.open_only b o);
    opened = λ b o. ⊎_elim (λ old. absurd (none_open b old)) (λ new. subst (λ n. is_reached body n ≡ true) (only_zero b new) (to_itself (has_edge body) (length body.blocks) 0)) (m.open_only b o);
    start = m.done 0 (contains (0 ∷ []) 0 (inl refl));
    sound = λ b e. ⊎_elim
        (λ old. absurd (let both : false ≡ true = sym (ap (λ ms. marked_in ms b) marks ∙ none_marked (length body.blocks) b) ∙ old in cc))
        (λ new. subst (λ n. is_reached body n ≡ true) (only_zero b new) (to_itself (has_edge body) (length body.blocks) 0))
        (m.only b e);
    closed = λ a c k at' e in_it. ⊎_elim
        (λ old. absurd (let both : false ≡ true = sym (ap (λ ms. marked_in ms a) marks ∙ none_marked (length body.blocks) a) ∙ old in cc))
        (λ open'. inl open')
        (m.open_new a e);
  }
    where
      none_open : (b : ℕ) → is_open empty b → ⊥
      none_open b o = has_in [] (record { 0 = b }) (subst (λ xs. Contains xs (record { 0 = b })) todo o)

      only_zero : (b : ℕ) → Contains (0 ∷ []) b → 0 ≡ b
      only_zero b c = ⊎_elim (λ same. same) (λ none. absurd none) (has_in (0 ∷ []) b c)

  -- a block is looked at: w is before, v without it, u with its targets marked
  pub walked : (w v u : Walk) (b : ℕ) (k : FlatBlock) → IsWalk body w → v.marks ≡ w.marks → w.todo ≡ v.todo ++ (record { 0 = b }) ∷ [] → slice_get body.blocks b ≡ Some k → Marks v u (targets k.end) → IsWalk body u
  walked w v u b k is marks todo at' m = record {
    long = m.long ∙ ap length marks ∙ is.long;
    within = λ c o. ⊎_elim (λ old. is.within c (open_before c old)) (λ new. h.formed.in_range b c (k, at', new)) (m.open_only c o);
    opened = λ c o. ⊎_elim (λ old. is.opened c (open_before c old)) (λ new. on c new) (m.open_only c o);
    start = m.kept 0 (ap (λ ms. marked_in ms 0) marks ∙ is.start);
    sound = λ c e. ⊎_elim (λ old. is.sound c (was c old)) (λ new. on c new) (m.only c e);
    closed = λ a c l at_a e in_it. ⊎_elim
        (λ old. by_before a c (is.closed a c l at_a (was a old) in_it) (λ same.
        let one : Some k ≡ Some l = sym at' ∙ ap (slice_get body.blocks) (sym same) ∙ at_a in
        let eq : k ≡ l = cc in
        inr (m.done c (subst (λ (x : FlatBlock). Contains (targets x.end) c) (sym eq) in_it))))
        (λ open'. inl open')
        (m.open_new a e);
  }
    where
      was : (c : ℕ) → is_marked v c ≡ true → is_marked w c ≡ true
      was c e = ap (λ ms. marked_in ms c) (sym marks) ∙ e

      open_before : (c : ℕ) → is_open v c → is_open w c
      open_before c o = subst (λ xs. Contains xs (record { 0 = c })) (sym todo) (contains (v.todo ++ (record { 0 = b }) ∷ []) (record { 0 = c }) (has_left v.todo ((record { 0 = b }) ∷ []) (record { 0 = c }) (has_in v.todo (record { 0 = c }) o)))

      reached_b : is_reached body b ≡ true
      reached_b = is.opened b (open_last w v b todo)

      on : (c : ℕ) → Contains (targets k.end) c → is_reached body c ≡ true
      on c in_it = joins (has_edge body) (length body.blocks) 0 b c (slice_get_within body.blocks b k at') reached_b (by_edge (has_edge body) (length body.blocks) b c (edge_of body b c k at' (has_goes (targets k.end) c (has_in (targets k.end) c in_it))))

      by_before : (a c : ℕ) → is_open w a ⊎ (is_marked w c ≡ true) → (a ≡ b → is_open u a ⊎ (is_marked u c ≡ true)) → is_open u a ⊎ (is_marked u c ≡ true)
      by_before a c (inr e) here = inr (m.kept c (ap (λ ms. marked_in ms c) marks ∙ e))
      by_before a c (inl o) here = ⊎_elim
          (λ g. inl (m.open_old a (contains v.todo (record { 0 = a }) g)))
          (λ g. ⊎_elim (λ same. here (sym (ap (λ (n : BlockId). n.0) same))) (λ none. absurd none) g)
          (split v.todo ((record { 0 = b }) ∷ []) (record { 0 = a }) (subst (λ xs. Has xs (record { 0 = a })) todo (has_in w.todo (record { 0 = a }) o)))

  pub block_at : (xs : List FlatBlock) → xs ≡ body.blocks → (b : ℕ) (k : FlatBlock) → b < length xs → slice_get body.blocks b ≡ Some (slice_index_or xs b k)
  block_at xs same b k lt = ap (λ ys. slice_get ys b) (sym same) ∙ slice_get-get_or xs b k lt

  -- the targets of the block that was taken have marks
  pub targets_marked : (w v : Walk) (b : ℕ) (xs : List FlatBlock) (k : FlatBlock) → xs ≡ body.blocks → IsWalk body w → v.marks ≡ w.marks → b < length xs → All (λ t. t < length v.marks) (targets (slice_index_or xs b k).end)
  targets_marked w v b xs k same is marks lt =
      let long : length body.blocks ≡ length v.marks = sym is.long ∙ ap length (sym marks) in
      subst (λ n. All (λ t. t < n) (targets (slice_index_or xs b k).end)) long (targets_within b (slice_index_or xs b k) (block_at xs same b k lt))

  -- nothing is left to be looked at
  pub ended : (w : Walk) → IsWalk body w → w.todo ≡ [] → marked_in w.marks ≡ is_reached body
  ended w is todo = λ i b. marked_is_led (has_edge body) (length body.blocks) 0 (marked_in w.marks) is.start closed is.sound b i
    where
      closed : (x y : ℕ) → marked_in w.marks x ≡ true → has_edge body x y ≡ true → marked_in w.marks y ≡ true
      closed x y e f =
          let edge = told_edge body x y f in
          ⊎_elim (λ o. absurd (has_in [] (record { 0 = x }) (subst (λ xs. Contains xs (record { 0 = x })) todo o))) (λ g. g) (is.closed x y edge.0 edge.1 e edge.2)
