-- The search for a path: what it keeps, and what its end tells.
use Rattle.std.proofs.Common.{◌≡◌, ◌≢◌, ◌⊎◌, inl, inr, ⊎_elim, ℕ, zero, suc, ◌+◌, ◌<◌, ◌≤◌, ◌==◌, Bool, true, false, if◌then◌else◌, List, [], ◌∷◌, ◌++◌, length, Some, slice_get, slice_set, slice_index_or, take, Contains, refl, sym, ap, ◌∙◌, subst, arith}
use Rattle.std.proofs.lemmas.Bool.{cases_lt, cases_eq}
use Rattle.std.proofs.lemmas.Bool.Decides.{nat_tests}
use Rattle.std.proofs.lemmas.List.{get_or-set_same, get_or-set_other, take_more, length-set, length-append, append_assoc, append-nil}
use Rattle.std.proofs.lemmas.Option.{slice_get_within, get_or_from_slice_get, slice_get-get_or}
use Rattle.ir_core.specs.declared.func.Func.{Func}
use Rattle.ir_core.specs.ValidPaths.{IsSuccessor}
use Rattle.ir_assigned.specs.declared.search.Step.{Step}
use Rattle.ir_assigned.specs.declared.search.Aim.{Aim}
use Rattle.ir_assigned.specs.Search.{State, mark, IsMarked, entered, unmarked, left, AreMarks, IsOffered, Skipped, Entered, IsDone, IsClean, IsWaiting, AreSteps, Inv, Onward, Spreads, IsAlong, IsLeading}
use Rattle.ir_assigned.specs.BlockPaths.{IsRoute, IsPathTo}
use Rattle.ir_assigned.proofs.Tables.{one_at}

-- ---- lists, one longer

pub push_at : {A : Type 0} (xs : List A) (i : ℕ) (x y : A) → slice_get xs i ≡ Some x → slice_get (xs ++ y ∷ []) i ≡ Some x
push_at [] i x y e = cc
push_at (z ∷ zs) zero x y e = e
push_at (z ∷ zs) (suc i) x y e = push_at zs i x y e

pub push_last : {A : Type 0} (xs : List A) (y : A) → slice_get (xs ++ y ∷ []) (length xs) ≡ Some y
push_last [] y = refl
push_last (z ∷ zs) y = push_last zs y

pub push_cases : {A : Type 0} (xs : List A) (i : ℕ) (x y : A) → slice_get (xs ++ y ∷ []) i ≡ Some x → (slice_get xs i ≡ Some x) ⊎ ((i ≡ length xs) × (y ≡ x))
push_cases [] zero x y e = inr (refl, cc)
push_cases [] (suc i) x y e = cc
push_cases (z ∷ zs) zero x y e = inl e
push_cases (z ∷ zs) (suc i) x y e = ⊎_elim (λ h. inl h) (λ r. inr (ap suc r.0, r.1)) (push_cases zs i x y e)

pub some_at : {A : Type 0} (xs : List A) (k : ℕ) → k < length xs → (x : A) × (slice_get xs k ≡ Some x)
some_at [] k lt = absurd (omega (arith, lt))
some_at (x ∷ xs) zero lt = (x, refl)
some_at (x ∷ xs) (suc k) lt = some_at xs k (omega (arith, lt))

-- ---- marks

by_test : {A : Type 0} (t : Bool) (a b : A) → t ≡ true → (if t then a else b) ≡ a
by_test true a b e = refl
by_test false a b e = cc

by_not : {A : Type 0} (t : Bool) (a b : A) → t ≡ false → (if t then a else b) ≡ b
by_not true a b e = cc
by_not false a b e = refl

same_test : (a : ℕ) → (a == a) ≡ true
same_test a = grind (arith, nat_tests)

other_test : (a b : ℕ) → (a ≡ b → ⊥) → (a == b) ≡ false
other_test a b ne = grind (arith, nat_tests)

-- a block that is marked now is one less
unmarked_set : (round : ℕ) (ms : List ℕ) (v : ℕ) → v < length ms → (slice_index_or ms v 0 ≡ round → ⊥) → unmarked round (slice_set ms v round) + 1 ≡ unmarked round ms
unmarked_set round [] v lt fresh = absurd (omega (arith, lt))
unmarked_set round (m ∷ ms) zero lt fresh =
    let now = by_test {A = ℕ} (round == round) 0 1 (same_test round) in
    let before = by_not {A = ℕ} (m == round) 0 1 (other_test m round fresh) in
    omega (arith, now, before)
unmarked_set round (m ∷ ms) (suc v) lt fresh = let rest = unmarked_set round ms v (omega (arith, lt)) fresh in omega (arith, rest)

module _ (f : Func) (aim : Aim) (positive : 0 < aim.round) where
  within : (s : State) (v : ℕ) → IsMarked aim.round s v → v < length s.marks
  within s v m = ⊎_elim (λ l. l) (λ ge. absurd (past s.marks v ge m)) (cases_lt v (length s.marks))
    where
      past : (ms : List ℕ) (u : ℕ) → length ms ≤ u → slice_index_or ms u 0 ≡ aim.round → ⊥
      past [] u ge e = let z : 0 ≡ aim.round = e in omega (arith, z, positive)
      past (x ∷ xs) zero ge e = omega (arith, ge)
      past (x ∷ xs) (suc u) ge e = past xs u (omega (arith, ge)) e

  -- ---- the search comes to one more block

  module _ (s : State) (v after : ℕ) (lt : v < length s.marks) where
    marks_new : IsMarked aim.round (entered aim.round v after s) v
    marks_new = get_or-set_same s.marks v aim.round 0 lt

    marks_old : (w : ℕ) → (w ≡ v → ⊥) → mark (entered aim.round v after s) w ≡ mark s w
    marks_old w ne = get_or-set_other s.marks v w aim.round 0 ne

    still_marked : (w : ℕ) → IsMarked aim.round s w → IsMarked aim.round (entered aim.round v after s) w
    still_marked w m = ⊎_elim (λ eq. subst (IsMarked aim.round (entered aim.round v after s)) (sym eq) marks_new) (λ ne. marks_old w ne ∙ m) (cases_eq w v)

    still_done : (w : ℕ) → IsDone f aim s w → IsDone f aim (entered aim.round v after s) w
    still_done w d = (d.0, λ u e. ⊎_elim (λ a. inl a) (λ m. inr (still_marked u m)) (d.1 u e))

    marked_cases : (w : ℕ) → IsMarked aim.round (entered aim.round v after s) w → (w ≡ v) ⊎ IsMarked aim.round s w
    marked_cases w m = ⊎_elim (λ eq. inl eq) (λ ne. inr (sym (marks_old w ne) ∙ m)) (cases_eq w v)

    marks_upto : (n : ℕ) → AreMarks n aim.round s → AreMarks n aim.round (entered aim.round v after s)
    marks_upto n a = record {
      count = length-set s.marks v aim.round ∙ a.count;
      upto = λ w. ⊎_elim
          (λ eq. let m : mark (entered aim.round v after s) w ≡ aim.round = ap (mark (entered aim.round v after s)) eq ∙ marks_new in omega (arith, m))
          (λ ne. let m = marks_old w ne in let u = a.upto w in omega (arith, m, u))
          (cases_eq w v);
    }

  -- ---- a block is offered

  pub record Offers (at v : ℕ) (old new : State) : Type 0 where
    pub inv : Inv f aim at new
    pub onward : Onward f aim old new
    pub left : left aim.round new ≡ left aim.round old
    pub offered : (aim.around ≡ Some v) ⊎ IsMarked aim.round new v

  module _ (at v : ℕ) (e : Step) (old : State) (inv : Inv f aim at old) (step : slice_get old.queue at ≡ Some e) (before : IsSuccessor f v e.block) (lt : v < length old.marks) where
    skipped : (aim.around ≡ Some v) ⊎ IsMarked aim.round old v → Offers at v old old
    skipped why = record { inv = inv; onward = record { marks = λ w m. m; queue = λ i d h. h }; left = refl; offered = why }

    module _ (free : aim.around ≡ Some v → ⊥) (fresh : IsMarked aim.round old v → ⊥) where
      abbrev next : State
      next = entered aim.round v at old

      abbrev made : Step
      made = record { block = v; after = at }

      steps_more : AreSteps f aim next.queue
      steps_more i d h pos = ⊎_elim
          (λ o. let r = inv.steps i d o pos in (r.0, r.1, push_at old.queue d.after r.0 made r.2, r.3, r.4))
          (λ l. last d l.0 l.1)
          (push_cases old.queue i d made h)
        where
          last : (d' : Step) → i ≡ length old.queue → made ≡ d' → (g : Step) × (d'.after < i) × (slice_get next.queue d'.after ≡ Some g) × IsSuccessor f d'.block g.block × (aim.around ≡ Some d'.block → ⊥)
          last d' end same =
              let w = slice_get_within old.queue at e step in
              subst (λ (z : Step). (g : Step) × (z.after < i) × (slice_get next.queue z.after ≡ Some g) × IsSuccessor f z.block g.block × (aim.around ≡ Some z.block → ⊥)) same
              (e, omega (arith, w, end), push_at old.queue at e made step, before, free)

      marked_more : (i : ℕ) (d : Step) → slice_get next.queue i ≡ Some d → IsMarked aim.round next d.block
      marked_more i d h = ⊎_elim
          (λ o. still_marked old v at lt d.block (inv.marked i d o))
          (λ l. subst (λ (z : Step). IsMarked aim.round next z.block) l.1 (marks_new old v at lt))
          (push_cases old.queue i d made h)

      each_more : (w : ℕ) → IsMarked aim.round next w → IsDone f aim next w ⊎ IsWaiting f aim at next w
      each_more w m = ⊎_elim
          (λ eq. let l = slice_get_within old.queue at e step in inr (length old.queue, made, omega (arith, l), push_last old.queue made, sym eq))
          (λ o. ⊎_elim (λ d. inl (still_done old v at lt w d)) (λ r. inr (r.0, r.1, r.2, push_at old.queue r.0 r.1 made r.3, r.4)) (inv.each w o))
          (marked_cases old v at lt w m)

      comes : Offers at v old next
      comes =
          let l = length-append old.queue (made ∷ []) in
          let u = unmarked_set aim.round old.marks v lt fresh in
          record {
            inv = record { marks = marks_upto old v at lt (length f.blocks) inv.marks; steps = steps_more; marked = marked_more; each = each_more };
            onward = record { marks = still_marked old v at lt; queue = λ i d h. push_at old.queue i d made h };
            left = omega (arith, l, u);
            offered = inr (marks_new old v at lt);
          }

    pub offer_keeps : (new : State) → IsOffered aim v at old new → Offers at v old new
    offer_keeps new (Skipped why same) = subst (Offers at v old) (sym same) (skipped why)
    offer_keeps new (Entered free fresh same) = subst (Offers at v old) (sym same) (comes free fresh)

  pub spreads_more : (at v : ℕ) (vs : List ℕ) (old mid new : State) → Spreads f aim at vs old mid → Offers at v mid new → Spreads f aim at (vs ++ v ∷ []) old new
  spreads_more at v vs old mid new one two = record {
    inv = two.inv;
    onward = record { marks = λ w m. two.onward.marks w (one.onward.marks w m); queue = λ i e h. two.onward.queue i e (one.onward.queue i e h) };
    left = two.left ∙ one.left;
    offered = λ k u h. ⊎_elim
        (λ o. ⊎_elim (λ a. inl a) (λ m. inr (two.onward.marks u m)) (one.offered k u o))
        (λ l. subst (λ z. (aim.around ≡ Some z) ⊎ IsMarked aim.round new z) l.1 two.offered)
        (push_cases vs k u v h);
  }

  -- a step's block is one of the function
  pub step_within : (at i : ℕ) (e : Step) (s : State) → Inv f aim at s → slice_get s.queue i ≡ Some e → e.block < length f.blocks
  step_within at i e s inv h = subst (λ n. e.block < n) inv.marks.count (within s e.block (inv.marked i e h))

  -- the blocks before a step's are offered, one more
  module _ (at k v : ℕ) (vs : List ℕ) (old mid : State) (step : at < length old.queue) (before : (j u : ℕ) (e : Step) → slice_get vs j ≡ Some u → slice_get old.queue at ≡ Some e → IsSuccessor f u e.block) (here : slice_get vs k ≡ Some v) (spreads : Spreads f aim at (take k vs) old mid) where
    abbrev e : Step
    e = (some_at old.queue at step).0

    goes : IsSuccessor f v e.block
    goes = before k v e here (some_at old.queue at step).1

    pub offer_within : v < length mid.marks
    offer_within = subst (λ n. v < n) (sym spreads.inv.marks.count) (slice_get_within f.blocks v goes.0 goes.2)

    pub spread_on : (new : State) → IsOffered aim v at mid new → Spreads f aim at (take (k + 1) vs) old new
    spread_on new offered =
        let lt = slice_get_within vs k v here in
        let read = get_or_from_slice_get vs k v v here in
        let longer : take (k + 1) vs ≡ take k vs ++ v ∷ [] = take_more vs k v lt ∙ ap (λ z. take k vs ++ z ∷ []) read in
        subst (λ zs. Spreads f aim at zs old new) (sym longer)
        (spreads_more at v (take k vs) old mid new spreads (offer_keeps at v e mid spreads.inv (spreads.onward.queue at e (some_at old.queue at step).1) goes offer_within new offered))

  -- ---- one step is done

  pub done_next : (at : ℕ) (e : Step) (s : State) → Inv f aim at s → slice_get s.queue at ≡ Some e → IsDone f aim s e.block → Inv f aim (at + 1) s
  done_next at e s inv step done = record {
    marks = inv.marks;
    steps = inv.steps;
    marked = inv.marked;
    each = λ v m. ⊎_elim (λ d. inl d) (λ r. waits v r.0 r.1 r.2 r.3 r.4) (inv.each v m);
  }
    where
      waits : (v i : ℕ) (d : Step) → at ≤ i → slice_get s.queue i ≡ Some d → d.block ≡ v → IsDone f aim s v ⊎ IsWaiting f aim (at + 1) s v
      waits v i d le h eq = ⊎_elim
          (λ same. let one : e ≡ d = one_at s.queue at e d step (subst (λ j. slice_get s.queue j ≡ Some d) same h) in inl (subst (IsDone f aim s) (ap Step.block one ∙ eq) done))
          (λ ne. inr (i, d, omega (arith, ne, le), h, eq))
          (cases_eq i at)

  pub clean_at_end : (at : ℕ) (s : State) → Inv f aim at s → length s.queue ≤ at → IsClean f aim s
  clean_at_end at s inv end v m = ⊎_elim (λ d. d) (λ r. let w = slice_get_within s.queue r.0 r.1 r.3 in let le = r.2 in absurd (omega (arith, w, le, end))) (inv.each v m)

  -- the blocks before a step's were offered
  module _ (at : ℕ) (e : Step) (vs : List ℕ) (old mid new : State) (here : slice_get mid.queue at ≡ Some e) (not_entry : e.block ≢ 0) (each : (u : ℕ) → IsSuccessor f u e.block → Contains vs u) (onward : Onward f aim old mid) (spreads : Spreads f aim at vs mid new) where
    still_here : slice_get new.queue at ≡ Some e
    still_here = spreads.onward.queue at e here

    pub gathered : Inv f aim (at + 1) new
    gathered = done_next at e new spreads.inv still_here (not_entry, λ u s. let h = each u s in spreads.offered h.0 u (slice_get-get_or vs h.0 u h.1 ∙ ap Some h.2))

    pub gathered_onward : Onward f aim old new
    gathered_onward = record { marks = λ w m. spreads.onward.marks w (onward.marks w m); queue = λ i d h. spreads.onward.queue i d (onward.queue i d h) }

    pub gathered_within : at + 1 ≤ length new.queue
    gathered_within = let w = slice_get_within new.queue at e still_here in omega (arith, w)

  -- ---- the search begins

  pub begins : (s : State) (v : ℕ) → AreMarks (length f.blocks) aim.round s → IsClean f aim s → v < length s.marks → length s.queue ≡ 0 → Inv f aim 0 (entered aim.round v 0 s)
  begins s v marks clean lt none = record {
    marks = marks_upto s v 0 lt (length f.blocks) marks;
    steps = λ i e h pos. absurd (let l = last i e h in let z = l.0 in omega (arith, z, pos, none));
    marked = λ i e h. let l = last i e h in subst (λ (z : Step). IsMarked aim.round (entered aim.round v 0 s) z.block) l.1 (marks_new s v 0 lt);
    each = λ w m. ⊎_elim
        (λ eq. inr (length s.queue, record { block = v; after = 0 }, omega arith, push_last s.queue (record { block = v; after = 0 }), sym eq))
        (λ o. inl (still_done s v 0 lt w (clean w o)))
        (marked_cases s v 0 lt w m);
  }
    where
      last : (i : ℕ) (e : Step) → slice_get (s.queue ++ record { block = v; after = 0 } ∷ []) i ≡ Some e → (i ≡ length s.queue) × (◌≡◌ {A = Step} (record { block = v; after = 0 }) e)
      last i e h = ⊎_elim (λ o. absurd (let w = slice_get_within s.queue i e o in omega (arith, w, none))) (λ l. l) (push_cases s.queue i e (record { block = v; after = 0 }) h)

  -- the search begins with a queue of its own
  module _ (old : State) (v : ℕ) (are : AreMarks (length f.blocks) aim.round old) (clean : IsClean f aim old) (lt : v < length f.blocks) where
    abbrev emptied : List Step → State
    emptied queue = record { marks = old.marks; queue = queue }

    at_start : Inv f aim 0 (entered aim.round v 0 (emptied []))
    at_start = begins (emptied []) v (record { count = are.count; upto = are.upto }) clean (subst (λ n. v < n) (sym are.count) lt) refl

    pub started : (queue : List Step) (new : State) → queue ≡ [] → new ≡ entered aim.round v 0 (emptied queue) → Inv f aim 0 new
    started queue new none is = subst (Inv f aim 0) (sym (is ∙ ap (λ q. entered aim.round v 0 (emptied q)) none)) at_start

    pub started_at : (queue : List Step) (new : State) → queue ≡ [] → new ≡ entered aim.round v 0 (emptied queue) → slice_get new.queue 0 ≡ Some (record { block = v; after = 0 })
    started_at queue new none is = ap (λ (z : State). slice_get z.queue 0) (is ∙ ap (λ q. entered aim.round v 0 (emptied q)) none)

    pub started_marked : (queue : List Step) (new : State) → queue ≡ [] → new ≡ entered aim.round v 0 (emptied queue) → IsMarked aim.round new v
    started_marked queue new none is = subst (λ z. IsMarked aim.round z v) (sym (is ∙ ap (λ q. entered aim.round v 0 (emptied q)) none)) (marks_new (emptied []) v 0 (subst (λ n. v < n) (sym are.count) lt))

  -- ---- what the search found

  all_marked : (s : State) → IsClean f aim s → (b v : ℕ) (rest : List ℕ) → IsMarked aim.round s b → IsRoute f aim.around b v rest → IsMarked aim.round s v
  all_marked s clean b v [] m route = subst (IsMarked aim.round s) (sym route) m
  all_marked s clean b v (u ∷ rest) m route =
      let next = all_marked s clean b route.2.0 rest m route.2.2 in
      ⊎_elim (λ a. absurd (route.1 a)) (λ m'. m') ((clean route.2.0 next).1 v route.2.1)

  pub no_path : (s : State) → IsClean f aim s → (b : ℕ) → IsMarked aim.round s b → (before : List ℕ) → IsRoute f aim.around b 0 before → ⊥
  no_path s clean b m before route = (clean 0 (all_marked s clean b 0 before m route)).0 refl

module _ (f : Func) (aim : Aim) where
  module _ (queue : List Step) (at : ℕ) where
    pub leads_on : (from : ℕ) (path : List ℕ) (d g : Step) → IsLeading f aim queue at from path → slice_get queue from ≡ Some d → slice_get queue d.after ≡ Some g → IsSuccessor f d.block g.block → (aim.around ≡ Some d.block → ⊥) → IsLeading f aim queue at d.after (path ++ d.block ∷ [])
    leads_on from path d g leading here there goes free b d' e rest he hd route =
        let same : d' ≡ g = one_at queue d.after d' g hd there in
        let route' : IsRoute f aim.around b g.block rest = subst (λ (z : Step). IsRoute f aim.around b z.block rest) same route in
        subst (IsRoute f aim.around b e.block) (sym (append_assoc path (d.block ∷ []) rest)) (leading b d e (d.block ∷ rest) he here (refl, free, (g.block, goes, route')))

    pub leads_more : (from : ℕ) (path new : List ℕ) (d e : Step) → AreSteps f aim queue → 0 < from → slice_get queue from ≡ Some d → slice_get queue from ≡ Some e → new ≡ path ++ d.block ∷ [] → IsLeading f aim queue at from path → (e.after < length queue) × IsLeading f aim queue at e.after new
    leads_more from path new d e steps pos hd he is leading =
        let same : d ≡ e = one_at queue from d e hd he in
        let r = steps from d hd pos in
        let next = leads_on from path d r.0 leading hd r.2 r.3 r.4 in
        subst (λ (z : Step). (z.after < length queue) × IsLeading f aim queue at z.after new) same
        (slice_get_within queue d.after r.0 r.2, subst (IsLeading f aim queue at d.after) (sym is) next)

    pub along : (path : List ℕ) (d : Step) → IsLeading f aim queue at 0 path → slice_get queue 0 ≡ Some d → IsAlong f aim queue at (path ++ d.block ∷ [])
    along path d leading first r e hr he =
        let same : d ≡ r = one_at queue 0 d r first hr in
        (path, ap (λ (z : Step). path ++ z.block ∷ []) same, subst (IsRoute f aim.around r.block e.block) (append-nil path) (leading r.block r e [] he hr refl))

    pub leads_at : IsLeading f aim queue at at []
    leads_at b d e rest he hd route = let same : d ≡ e = one_at queue at d e hd he in subst (λ (z : Step). IsRoute f aim.around b z.block rest) same route

  -- a path to the block of the first step
  pub path_found : (queue : List Step) (at v : ℕ) (path : List ℕ) (r e : Step) → IsAlong f aim queue at path → slice_get queue 0 ≡ Some r → r.block ≡ v → slice_get queue at ≡ Some e → e.block ≡ 0 → IsPathTo f aim.around v path
  path_found queue at v path r e is hr rv he zero_is =
      let w = is r e hr he in
      (w.0, w.1 ∙ ap (λ z. w.0 ++ z ∷ []) rv, subst (λ z. IsRoute f aim.around v z w.0) zero_is (subst (λ z. IsRoute f aim.around z e.block w.0) rv w.2))
