-- One turn of the walk.
use Rattle.std.proofs.Common.{◌≡◌, ◌≢◌, ⊎_elim, ℕ, zero, suc, ◌+◌, ◌-◌, ◌<◌, ◌≤◌, List, [], ◌∷◌, ◌++◌, length, Option, Some, None, slice_get, slice_set, slice_index_or, refl, sym, ap, ◌∙◌, subst, arith}
use Rattle.std.proofs.lemmas.Bool.{cases_lt}
use Rattle.std.proofs.lemmas.List.{get_or-set_same, length-append}
use Rattle.std.proofs.lemmas.Option.{slice_get_within}
use Rattle.strong_components.specs.declared.edge.Edge.{Edge}
use Rattle.strong_components.specs.declared.walk.Mark.{Mark}
use Rattle.strong_components.specs.declared.walk.Mark.TheVariants.{Unseen, Open, Closed}
use Rattle.strong_components.specs.Chains.{Leads, stays, goes}
use Rattle.strong_components.specs.Walk.{State, mark, next_of, unseen, Among, On, entered, IsJoined, IsClosed, IsFollowed, IsLeft, IsLast, but_last, Onward, left, measure, LeadsUp, ComesFromRoot, AreEdges, Inv}
use Rattle.strong_components.proofs.Walking.{leads_on, enter_keeps, next_keeps, leads_to_top, base_up_to, join_keeps, leave_keeps, close_keeps}
use Rattle.std.specs.Prelude.{All, Contains}
use Rattle.strong_components.proofs.Walking.{taken, same_at, some_at, fewer_unseen, which, enter_onward, base_below, close_unseen, close_onward}
use Rattle.std.proofs.lemmas.Option.{get_or_from_slice_get, slice_get-get_or, slice_get_read}

pub contains_at : {A : Type 0} (xs : List A) (k : ℕ) (x : A) → slice_get xs k ≡ Some x → Contains xs x
contains_at xs k x e = (k, slice_get_within xs k x e, get_or_from_slice_get xs k x x e)

-- one edge less is left
left_set : (e : ℕ) (xs : List ℕ) (i k : ℕ) → i < length xs → slice_index_or xs i 0 ≡ k → k < e → left e (slice_set xs i (k + 1)) + 1 ≡ left e xs
left_set e [] i k lt is less = absurd (omega (arith, lt))
left_set e (x ∷ xs) zero k lt is less = let same : x ≡ k = is in omega (arith, same, less)
left_set e (x ∷ xs) (suc i) k lt is less = let rest = left_set e xs i k (omega (arith, lt)) is less in omega (arith, rest)

shorter : (xs : List ℕ) → 0 < length xs → length (but_last xs) + 1 ≡ length xs
shorter xs h = let t = taken xs (length xs - 1) (omega (arith, h)) in omega (arith, t, h)

pub record Turned (n : ℕ) (edges : List Edge) (IsRoot : ℕ → Type 0) (s u : State) : Type 0 where
  pub inv : Inv n edges IsRoot u
  pub onward : Onward s u
  pub nearer : measure (length edges) u < measure (length edges) s

module _ (n : ℕ) (edges : List Edge) (IsRoot : ℕ → Type 0) (are : AreEdges n edges) (s : State) (inv : Inv n edges IsRoot s) (t f : ℕ) (last : IsLast s.active t) (on : On s t f) where
  active_some : 0 < length s.active
  active_some = by_length (length s.active) refl
    where
      by_length : (l : ℕ) → length s.active ≡ l → 0 < l
      by_length zero e = let w = slice_get_within s.active (length s.active - 1) t last in absurd (omega (arith, w, e))
      by_length (suc l) e = omega arith

  end : length s.active - 1 + 1 ≡ length s.active
  end = let a = active_some in omega (arith, a)

  -- ---- a edge is followed

  -- what is known once the edge's head was looked at
  record Good (g : ℕ) (v : State) : Type 0 where
    keeps : Inv n edges IsRoot v
    leads : LeadsUp n edges IsRoot v t (mark v g)
    stands : On v t f
    next : v.next ≡ s.next
    onward : Onward s v
    same : unseen v + length v.active ≡ unseen s + length s.active

  module _ (k : ℕ) (e : Edge) (here : slice_get edges k ≡ Some e) (tail : e.from ≡ f) (next_is : next_of s f ≡ k) where
    edge : Leads edges f e.to
    edge = subst (λ x. Leads edges x e.to) tail (goes e e.to (contains_at edges k e here) (stays e.to))

    abbrev g : ℕ
    g = e.to

    rooted : ComesFromRoot n edges IsRoot g
    rooted =
        let r = inv.reached f (λ u. open_unseen (sym (inv.on_stack t f on).1 ∙ u)) in
        (r.0, r.1, leads_on r.2 edge)
      where
        open_unseen : Open t ≡ Unseen → ⊥
        open_unseen u = cc

    enters : mark s g ≡ Unseen → Good g (entered s g)
    enters new =
        let lt : g < n = are.heads k e here in
        let lm : g < length s.marks = subst (λ x. g < x) (sym inv.marks) lt in
        let below : (p h : ℕ) → On s p h → Leads edges h g = λ p h oh. leads_on (leads_to_top n edges IsRoot s inv (length s.active - 1) t f last end on p h oh) edge in
        let l : length (entered s g).active ≡ length s.active + 1 = length-append s.active (length s.stack ∷ []) in
        let u = fewer_unseen s g lm new in
        record {
          keeps = enter_keeps n edges IsRoot s inv g lt new rooted below;
          leads = subst (λ m. LeadsUp n edges IsRoot (entered s g) t m) (sym (get_or-set_same s.marks g (Open (length s.stack)) Unseen lm)) (λ b among le. let h = slice_get_within s.stack t f on in omega (arith, le, h));
          stands = push_on s.stack t f g on;
          next = refl;
          onward = enter_onward n edges IsRoot s inv g lt new rooted below;
          same = omega (arith, l, u);
        }
      where
        push_on : (xs : List ℕ) (p x y : ℕ) → slice_get xs p ≡ Some x → slice_get (xs ++ y ∷ []) p ≡ Some x
        push_on [] p x y e = cc
        push_on (z ∷ zs) zero x y e = e
        push_on (z ∷ zs) (suc p) x y e = push_on zs p x y e

    joins : (j : ℕ) (bases : List ℕ) → mark s g ≡ Open j → IsJoined j s.bases bases → Good g (record s { bases = bases })
    joins j bases is joined =
        let og = inv.opened j g is in
        record {
          keeps = join_keeps n edges IsRoot s inv (length s.active - 1) t f last end on g j og edge bases joined;
          leads = subst (λ m. LeadsUp n edges IsRoot (record s { bases = bases }) t m) (sym is) (λ b among le. base_up_to n edges IsRoot s inv (length s.active - 1) t f last end on g j og edge bases joined b among);
          stands = on;
          next = refl;
          onward = λ x h. h;
          same = refl;
        }

    stays_so : (c : ℕ) → mark s g ≡ Closed c → Good g s
    stays_so c is = record {
      keeps = inv;
      leads = subst (λ m. LeadsUp n edges IsRoot s t m) (sym is) tt;
      stands = on;
      next = refl;
      onward = λ x h. h;
      same = refl;
    }

    good : (v : State) (m : Mark) → mark s g ≡ m → IsFollowed m g s v → Good g v
    good v Unseen is h = subst (Good g) (sym h) (enters is)
    good v (Open j) is h = subst (Good g) (sym h.1) (joins j v.bases is h.0)
    good v (Closed c) is h = subst (Good g) (sym h) (stays_so c is)

    pub followed_turn : (v : State) → IsFollowed (mark s g) g s v → Turned n edges IsRoot s (record v { next = slice_set v.next f (k + 1) })
    followed_turn v h =
        let r = good v (mark s g) refl h in
        let nf : next_of v f ≡ k = ap (λ xs. slice_index_or xs f 0) r.next ∙ next_is in
        let lt : f < length v.next = subst (λ x. f < x) (sym r.keeps.next) (inv.on_stack t f on).0 in
        let l : left (length edges) (slice_set v.next f (k + 1)) + 1 ≡ left (length edges) v.next = left_set (length edges) v.next f k lt nf (slice_get_within edges k e here) in
        let same_next : left (length edges) v.next ≡ left (length edges) s.next = ap (left (length edges)) r.next in
        let all = r.same in
        record {
          inv = next_keeps n edges IsRoot v r.keeps t f k e r.stands here tail nf r.leads;
          onward = r.onward;
          nearer = omega (arith, l, same_next, all);
        }

  -- ---- a node is left

  module _ (none : (e : Edge) → slice_get edges (next_of s f) ≡ Some e → e.from ≢ f) where
    all_followed : (k : ℕ) (e : Edge) → slice_get edges k ≡ Some e → e.from ≡ f → k < next_of s f
    all_followed k e here tail = ⊎_elim (λ l. l) (λ le. absurd (beyond le)) (cases_lt k (next_of s f))
      where
        beyond : next_of s f ≤ k → ⊥
        beyond le =
            let w = slice_get_within edges k e here in
            let first = some_at edges (next_of s f) (omega (arith, w, le)) in
            let high = inv.after f (next_of s f) first.0 (inv.on_stack t f on).0 first.1 (omega arith) in
            let low = are.sorted (next_of s f) k first.0 e le first.1 here in
            none first.0 first.1 (omega (arith, high, low, tail))

    -- a base that no other base lies above is the last
    only_last : Among s.bases t → IsLast s.bases t
    only_last among =
        let w = slice_get_within s.bases among.0 t among.1 in
        let top = some_at s.bases (length s.bases - 1) (omega (arith, w)) in
        let low = base_below n edges IsRoot s inv (length s.active - 1) t f last end on top.0 (length s.bases - 1, top.1) in
        ⊎_elim
        (λ l. let r = inv.bases_rise among.0 (length s.bases - 1) t top.0 l among.1 top.1 in absurd (omega (arith, r, low)))
        (λ le. let same : among.0 ≡ length s.bases - 1 = omega (arith, le, w) in subst (λ x. slice_get s.bases x ≡ Some t) same among.1)
        (cases_lt among.0 (length s.bases - 1))

    part : (IsLast s.bases t → ⊥) → Turned n edges IsRoot s (record s { active = but_last s.active })
    part not_last = record {
      inv = leave_keeps n edges IsRoot s inv (length s.active - 1) t f last end on all_followed (λ among. not_last (only_last among));
      onward = λ x h. h;
      nearer = let l = shorter s.active active_some in omega (arith, l);
    }

    whole : (u : State) → IsLast s.bases t → IsClosed t (record s { active = but_last s.active; bases = but_last s.bases }) u → Turned n edges IsRoot s u
    whole u top closed =
        let w = slice_get_within s.bases (length s.bases - 1) t top in
        let te : length s.bases - 1 + 1 ≡ length s.bases = ends s.bases w in
        let l = shorter s.active active_some in
        let un : unseen u ≡ unseen s = close_unseen n edges IsRoot s inv (length s.active - 1) t f last end on all_followed (length s.bases - 1) top te u closed in
        let nx : left (length edges) u.next ≡ left (length edges) s.next = ap (left (length edges)) closed.next in
        let ac : length u.active ≡ length (but_last s.active) = ap length closed.active in
        record {
          inv = close_keeps n edges IsRoot s inv (length s.active - 1) t f last end on all_followed (length s.bases - 1) top te u closed;
          onward = close_onward n edges IsRoot s inv (length s.active - 1) t f last end on all_followed (length s.bases - 1) top te u closed;
          nearer = omega (arith, l, un, nx, ac);
        }
      where
        ends : (xs : List ℕ) → length xs - 1 < length xs → length xs - 1 + 1 ≡ length xs
        ends xs h = omega (arith, h)

    pub left_turn : (u : State) → IsLeft t s u → Turned n edges IsRoot s u
    left_turn u h = by_last (slice_get s.bases (length s.bases - 1)) refl
      where
        other : (c : ℕ) → slice_get s.bases (length s.bases - 1) ≡ Some c → c ≢ t → IsLast s.bases t → ⊥
        other c e ne top = ne (same_at s.bases (length s.bases - 1) c t e top)

        apart : (IsLast s.bases t → ⊥) → Turned n edges IsRoot s u
        apart not_last = subst (Turned n edges IsRoot s) (sym (h.part not_last)) (part not_last)

        by_last : (o : Option ℕ) → slice_get s.bases (length s.bases - 1) ≡ o → Turned n edges IsRoot s u
        by_last None e = apart (λ top. let clash : Some t ≡ None = sym top ∙ e in cc)
        by_last (Some c) e = ⊎_elim
            (λ same. let top : IsLast s.bases t = e ∙ ap Some same in whole u top (h.whole top))
            (λ ne. apart (other c e ne))
            (which t c)

-- ---- what is read of the state

module _ (n : ℕ) (edges : List Edge) (IsRoot : ℕ → Type 0) (s : State) (inv : Inv n edges IsRoot s) where
  pub stack_marked : All (λ (f : ℕ). f < length s.marks) s.stack
  stack_marked k d lt =
      let r = inv.on_stack k (slice_index_or s.stack k d) (slice_get-get_or s.stack k d lt) in
      subst (λ x. slice_index_or s.stack k d < x) (sym inv.marks) r.0

  module _ (t : ℕ) (last : IsLast s.active t) where
    pub top_low : t < length s.stack
    top_low = inv.active t (length s.active - 1, last)

    module _ (f : ℕ) (f_is : f ≡ slice_index_or s.stack t f) where
      pub top_on : On s t f
      top_on = slice_get_read s.stack (length s.stack) t f refl top_low f_is

      pub top_next : f < length s.next
      top_next = subst (λ x. f < x) (sym inv.next) (inv.on_stack t f top_on).0

      pub top_next_is : (k : ℕ) → k ≡ slice_index_or s.next f k → next_of s f ≡ k
      top_next_is k k_is = get_or_from_slice_get s.next f k 0 (slice_get_read s.next (length s.next) f k refl top_next k_is)
