-- Each turn of the walk keeps what holds between turns.
use Rattle.std.proofs.Common.{◌≡◌, ◌≢◌, ◌⊎◌, inl, inr, ⊎_elim, ℕ, zero, suc, ◌+◌, ◌-◌, ◌<◌, ◌≤◌, ◌==◌, Bool, true, false, List, [], ◌∷◌, ◌++◌, length, take, cond, Option, Some, None, slice_get, slice_set, slice_index_or, refl, sym, ap, ◌∙◌, subst, arith}
use Rattle.std.proofs.lemmas.Bool.{cases_lt}
use Rattle.std.proofs.lemmas.Bool.Decides.{nat_tests}
use Rattle.std.proofs.lemmas.List.{get_or-set_same, get_or-set_other, length-set, length-append}
use Rattle.std.proofs.lemmas.Option.{slice_get_within}
use Rattle.strong_components.specs.declared.edge.Edge.{Edge}
use Rattle.strong_components.specs.declared.walk.Mark.{Mark}
use Rattle.strong_components.specs.declared.walk.Mark.TheVariants.{Unseen, Open, Closed}
use Rattle.strong_components.specs.Chains.{Leads, stays, goes}
use Rattle.strong_components.specs.Walk.{State, mark, next_of, is_unseen, count_unseen, unseen, Among, On, entered, IsJoined, IsClosed, NoBase, LeadsUp, IsClosedUpTo, ComesFromRoot, IsEdge, Onward, Inv}

-- ---- chains

pub leads_on : {edges : List Edge} {f g h : ℕ} → Leads edges f g → Leads edges g h → Leads edges f h
leads_on (stays f) r = r
leads_on (goes s f has l) r = goes s _ has (leads_on l r)

-- ---- lists

push_cases : {A : Type 0} (xs : List A) (x y : A) (i : ℕ) → slice_get (xs ++ x ∷ []) i ≡ Some y → (slice_get xs i ≡ Some y) ⊎ ((i ≡ length xs) × (x ≡ y))
push_cases [] x y zero e = inr (refl, cc)
push_cases [] x y (suc i) e = cc
push_cases (z ∷ zs) x y zero e = inl e
push_cases (z ∷ zs) x y (suc i) e = later (push_cases zs x y i e)
  where
    later : (slice_get zs i ≡ Some y) ⊎ ((i ≡ length zs) × (x ≡ y)) → (slice_get zs i ≡ Some y) ⊎ ((suc i ≡ suc (length zs)) × (x ≡ y))
    later (inl h) = inl h
    later (inr h) = inr (ap suc h.0, h.1)

push_old : {A : Type 0} (xs : List A) (x y : A) (i : ℕ) → slice_get xs i ≡ Some y → slice_get (xs ++ x ∷ []) i ≡ Some y
push_old [] x y i e = cc
push_old (z ∷ zs) x y zero e = e
push_old (z ∷ zs) x y (suc i) e = push_old zs x y i e

push_last : {A : Type 0} (xs : List A) (x : A) → slice_get (xs ++ x ∷ []) (length xs) ≡ Some x
push_last [] x = refl
push_last (z ∷ zs) x = push_last zs x

pub take_cases : {A : Type 0} (xs : List A) (n i : ℕ) (y : A) → slice_get (take n xs) i ≡ Some y → (slice_get xs i ≡ Some y) × (i < n)
take_cases xs zero i y e = cc
take_cases [] (suc n) i y e = cc
take_cases (z ∷ zs) (suc n) zero y e = (e, omega arith)
take_cases (z ∷ zs) (suc n) (suc i) y e = let r = take_cases zs n i y e in let lt = r.1 in (r.0, omega (arith, lt))

take_back : {A : Type 0} (xs : List A) (n i : ℕ) (y : A) → slice_get xs i ≡ Some y → i < n → slice_get (take n xs) i ≡ Some y
take_back xs zero i y e lt = absurd (omega (arith, lt))
take_back [] (suc n) i y e lt = cc
take_back (z ∷ zs) (suc n) zero y e lt = e
take_back (z ∷ zs) (suc n) (suc i) y e lt = take_back zs n i y e (omega (arith, lt))

pub some_at : {A : Type 0} (xs : List A) (k : ℕ) → k < length xs → (x : A) × (slice_get xs k ≡ Some x)
some_at [] k h = absurd (omega (arith, h))
some_at (y ∷ ys) zero h = (y, refl)
some_at (y ∷ ys) (suc k) h = some_at ys k (omega (arith, h))

pub same_at : {A : Type 0} (xs : List A) (i : ℕ) (x y : A) → slice_get xs i ≡ Some x → slice_get xs i ≡ Some y → x ≡ y
same_at xs i x y e h = let both : Some x ≡ Some y = sym e ∙ h in cc

-- ---- marks

not_open : (p : ℕ) → Open p ≢ Unseen
not_open p e = cc

not_closed : (c : ℕ) → Closed c ≢ Unseen
not_closed c e = cc

same_open : (m : Mark) (p q : ℕ) → m ≡ Open p → m ≡ Open q → p ≡ q
same_open m p q e h = let both : Open p ≡ Open q = sym e ∙ h in cc

same_closed : (m : Mark) (p q : ℕ) → m ≡ Closed p → m ≡ Closed q → p ≡ q
same_closed m p q e h = let both : Closed p ≡ Closed q = sym e ∙ h in cc

open_is_closed : (m : Mark) (p c : ℕ) → m ≡ Open p → m ≡ Closed c → ⊥
open_is_closed m p c e h = let both : Open p ≡ Closed c = sym e ∙ h in cc

open_is_unseen : (m : Mark) (p : ℕ) → m ≡ Open p → m ≡ Unseen → ⊥
open_is_unseen m p e h = let both : Open p ≡ Unseen = sym e ∙ h in cc

closed_is_unseen : (m : Mark) (c : ℕ) → m ≡ Closed c → m ≡ Unseen → ⊥
closed_is_unseen m c e h = let both : Closed c ≡ Unseen = sym e ∙ h in cc

-- the same node or another
module _ (f : ℕ) where
  pub which : (g : ℕ) → (g ≡ f) ⊎ (g ≢ f)
  which g = by_test (g == f) refl
    where
      by_test : (t : Bool) → (g == f) ≡ t → (g ≡ f) ⊎ (g ≢ f)
      by_test true t = inl (grind (arith, nat_tests))
      by_test false t = inr (λ e. absurd (grind (arith, nat_tests)))

-- the marks once a node was entered
marked : (s : State) (f g : ℕ) → f < length s.marks → ((g ≡ f) × (mark (entered s f) g ≡ Open (length s.stack))) ⊎ ((g ≢ f) × (mark (entered s f) g ≡ mark s g))
marked s f g lt = ⊎_elim
    (λ e. inl (e, ap (λ x. mark (entered s f) x) e ∙ get_or-set_same s.marks f (Open (length s.stack)) Unseen lt))
    (λ ne. inr (ne, get_or-set_other s.marks f g (Open (length s.stack)) Unseen ne))
    (which f g)

-- as many are unseen where each mark is so as it was
same_count : (xs ys : List Mark) → length xs ≡ length ys → ((g : ℕ) → is_unseen (slice_index_or xs g Unseen) ≡ is_unseen (slice_index_or ys g Unseen)) → count_unseen xs ≡ count_unseen ys
same_count [] [] e h = refl
same_count [] (y ∷ ys) e h = absurd (omega (arith, e))
same_count (x ∷ xs) [] e h = absurd (omega (arith, e))
same_count (x ∷ xs) (y ∷ ys) e h =
    let first : is_unseen x ≡ is_unseen y = h 0 in
    let rest : count_unseen xs ≡ count_unseen ys = same_count xs ys (omega (arith, e)) (λ g. h (suc g)) in
    ap (λ b. cond b 1 0 + count_unseen xs) first ∙ ap (λ k. cond (is_unseen y) 1 0 + k) rest

pub taken : {A : Type 0} (xs : List A) (k : ℕ) → k ≤ length xs → length (take k xs) ≡ k
taken xs zero le = refl
taken [] (suc k) le = absurd (omega (arith, le))
taken (x ∷ xs) (suc k) le = ap suc (taken xs k (omega (arith, le)))

set_counted : (ms : List Mark) (i p : ℕ) → i < length ms → slice_index_or ms i Unseen ≡ Unseen → count_unseen (slice_set ms i (Open p)) + 1 ≡ count_unseen ms
set_counted [] i p lt e = absurd (omega (arith, lt))
set_counted (m ∷ ms) zero p lt e = by_mark m e
  where
    by_mark : (m : Mark) → m ≡ Unseen → count_unseen (Open p ∷ ms) + 1 ≡ count_unseen (m ∷ ms)
    by_mark Unseen e = omega arith
    by_mark (Open q) e = absurd (not_open q e)
    by_mark (Closed c) e = absurd (not_closed c e)
set_counted (m ∷ ms) (suc i) p lt e =
    let rest : count_unseen (slice_set ms i (Open p)) + 1 ≡ count_unseen ms = set_counted ms i p (omega (arith, lt)) e in
    let all : cond (is_unseen m) 1 0 + count_unseen (slice_set ms i (Open p)) + 1 ≡ cond (is_unseen m) 1 0 + count_unseen ms = omega (arith, rest) in
    all

pub fewer_unseen : (s : State) (f : ℕ) → f < length s.marks → mark s f ≡ Unseen → unseen (entered s f) + 1 ≡ unseen s
fewer_unseen s f lt e = set_counted s.marks f (length s.stack) lt e

module _ (n : ℕ) (edges : List Edge) (IsRoot : ℕ → Type 0) where
  abbrev Keeps : State → Type 0
  Keeps s = Inv n edges IsRoot s

  -- ---- a node that the walk comes to

  module _ (s : State) (inv : Keeps s) (f : ℕ) (lt : f < n) (new : mark s f ≡ Unseen) (from_root : ComesFromRoot n edges IsRoot f) (below : (p g : ℕ) → On s p g → Leads edges g f) where
    abbrev t : State
    t = entered s f

    in_marks : f < length s.marks
    in_marks = subst (λ x. f < x) (sym inv.marks) lt

    at : (g : ℕ) → ((g ≡ f) × (mark t g ≡ Open (length s.stack))) ⊎ ((g ≢ f) × (mark t g ≡ mark s g))
    at g = marked s f g in_marks

    longer : length t.stack ≡ length s.stack + 1
    longer = length-append s.stack (f ∷ [])

    abbrev Placed : ℕ → ℕ → Type 0
    Placed p g = On s p g ⊎ ((p ≡ length s.stack) × (f ≡ g))

    placed : (p g : ℕ) → On t p g → Placed p g
    placed p g on = push_cases s.stack f g p on

    low : (p g : ℕ) → On s p g → p < length s.stack
    low p g on = slice_get_within s.stack p g on

    -- a node on the stack is another one, and its mark stays
    kept : (p g : ℕ) → On s p g → mark t g ≡ Open p
    kept p g on = ⊎_elim
        (λ h. absurd (open_is_unseen (mark s g) p (inv.on_stack p g on).1 (ap (mark s) h.0 ∙ new)))
        (λ h. h.1 ∙ (inv.on_stack p g on).1)
        (at g)

    -- a mark that is not `Unseen` stays
    stays_so : (g : ℕ) → mark s g ≢ Unseen → mark t g ≡ mark s g
    stays_so g h = ⊎_elim (λ x. absurd (h (ap (mark s) x.0 ∙ new))) (λ x. x.1) (at g)

    -- and one that is `Closed` was so
    was_closed : (g c : ℕ) → mark t g ≡ Closed c → mark s g ≡ Closed c
    was_closed g c e = ⊎_elim (λ x. absurd (open_is_closed (mark t g) (length s.stack) c x.1 e)) (λ x. sym x.1 ∙ e) (at g)

    base_cases : (b : ℕ) → Among t.bases b → Among s.bases b ⊎ (length s.stack ≡ b)
    base_cases b h = ⊎_elim (λ x. inl (h.0, x)) (λ x. inr x.1) (push_cases s.bases (length s.stack) b h.0 h.1)

    active_cases : (b : ℕ) → Among t.active b → Among s.active b ⊎ (length s.stack ≡ b)
    active_cases b h = ⊎_elim (λ x. inl (h.0, x)) (λ x. inr x.1) (push_cases s.active (length s.stack) b h.0 h.1)

    enter_on_stack : (p g : ℕ) → On t p g → (g < n) × (mark t g ≡ Open p)
    enter_on_stack p g on = ⊎_elim
        (λ h. ((inv.on_stack p g h).0, kept p g h))
        (λ h. (subst (λ x. x < n) h.1 lt, subst (λ x. mark t x ≡ Open p) h.1 (get_or-set_same s.marks f (Open (length s.stack)) Unseen in_marks ∙ ap Open (sym h.0))))
        (placed p g on)

    enter_opened : (p g : ℕ) → mark t g ≡ Open p → On t p g
    enter_opened p g e = ⊎_elim
        (λ h. let same : length s.stack ≡ p = same_open (mark t g) (length s.stack) p h.1 e in subst (λ x. slice_get t.stack x ≡ Some g) same (subst (λ x. slice_get t.stack (length s.stack) ≡ Some x) (sym h.0) (push_last s.stack f)))
        (λ h. push_old s.stack f g p (inv.opened p g (sym h.1 ∙ e)))
        (at g)

    enter_up : (p q g h : ℕ) → p ≤ q → On t p g → On t q h → Leads edges g h
    enter_up p q g h le og oh = by_places (placed p g og) (placed q h oh)
      where
        by_places : Placed p g → Placed q h → Leads edges g h
        by_places (inl a) (inl b) = inv.up p q g h le a b
        by_places (inl a) (inr b) = subst (λ x. Leads edges g x) b.1 (below p g a)
        by_places (inr a) (inl b) = let l = low q h b in let e = a.0 in absurd (omega (arith, l, e, le))
        by_places (inr a) (inr b) = subst (λ x. Leads edges g x) (sym a.1 ∙ b.1) (stays g)

    enter_back : (p q g h : ℕ) → p ≤ q → On t p g → On t q h → NoBase n edges IsRoot t.bases p q → Leads edges h g
    enter_back p q g h le og oh free = by_places (placed p g og) (placed q h oh)
      where
        by_places : Placed p g → Placed q h → Leads edges h g
        by_places (inl a) (inl b) = inv.back p q g h le a b (λ c among. free c (among.0, push_old s.bases (length s.stack) c among.0 among.1))
        by_places (inl a) (inr b) =
            let l = low p g a in
            let e = b.0 in
            absurd (⊎_elim (λ x. omega (arith, l, x)) (λ x. omega (arith, e, x)) (free (length s.stack) (length s.bases, push_last s.bases (length s.stack))))
        by_places (inr a) (inl b) = let l = low q h b in let e = a.0 in absurd (omega (arith, l, e, le))
        by_places (inr a) (inr b) = subst (λ x. Leads edges x g) (sym a.1 ∙ b.1) (stays g)

    enter_first : 0 < length t.stack → Among t.bases 0
    enter_first h = by_length (length s.stack) refl
      where
        by_length : (l : ℕ) → length s.stack ≡ l → Among t.bases 0
        by_length zero e = (length s.bases, push_last s.bases (length s.stack) ∙ ap Some e)
        by_length (suc l) e = let first = inv.first_base (omega (arith, e)) in (first.0, push_old s.bases (length s.stack) 0 first.0 first.1)

    rises : (xs : List ℕ) → ((b : ℕ) → Among xs b → b < length s.stack) → ((i j b c : ℕ) → i < j → slice_get xs i ≡ Some b → slice_get xs j ≡ Some c → b < c) → (i j b c : ℕ) → i < j → slice_get (xs ++ length s.stack ∷ []) i ≡ Some b → slice_get (xs ++ length s.stack ∷ []) j ≡ Some c → b < c
    rises xs under rise i j b c less ei ej = by_places (push_cases xs (length s.stack) b i ei) (push_cases xs (length s.stack) c j ej)
      where
        by_places : (slice_get xs i ≡ Some b) ⊎ ((i ≡ length xs) × (length s.stack ≡ b)) → (slice_get xs j ≡ Some c) ⊎ ((j ≡ length xs) × (length s.stack ≡ c)) → b < c
        by_places (inl x) (inl y) = rise i j b c less x y
        by_places (inl x) (inr y) = subst (λ z. b < z) y.1 (under b (i, x))
        by_places (inr x) (inl y) = let w = slice_get_within xs j c y in let e = x.0 in absurd (omega (arith, w, e, less))
        by_places (inr x) (inr y) = let e = x.0 in let d = y.0 in absurd (omega (arith, e, d, less))

    enter_followed : (p g k : ℕ) (e : Edge) → On t p g → IsEdge n edges IsRoot k e → e.from ≡ g → k < next_of t g → LeadsUp n edges IsRoot t p (mark t e.to)
    enter_followed p g k e on here tail less = by_place (placed p g on)
      where
        more : (m : Mark) → p < length s.stack → LeadsUp n edges IsRoot s p m → LeadsUp n edges IsRoot t p m
        more Unseen l h = h
        more (Closed c) l h = tt
        more (Open q) l h = λ b among le. ⊎_elim (λ x. h b x le) (λ x. absurd (omega (arith, x, le, l))) (base_cases b among)

        known : (m : Mark) → LeadsUp n edges IsRoot s p m → m ≢ Unseen
        known Unseen h e = h
        known (Closed c) h e = not_closed c e
        known (Open q) h e = not_open q e

        by_place : Placed p g → LeadsUp n edges IsRoot t p (mark t e.to)
        by_place (inl h) =
            let was = inv.followed p g k e h here tail less in
            subst (λ m. LeadsUp n edges IsRoot t p m) (sym (stays_so e.to (known (mark s e.to) was))) (more (mark s e.to) (low p g h) was)
        by_place (inr h) = let none = inv.fresh f k e new here (tail ∙ sym h.1) in let l : k < next_of s f = subst (λ x. k < next_of s x) (sym h.1) less in absurd (omega (arith, none, l))

    enter_closed_edges : (g c k : ℕ) (e : Edge) → mark t g ≡ Closed c → IsEdge n edges IsRoot k e → e.from ≡ g → IsClosedUpTo n edges IsRoot c (mark t e.to)
    enter_closed_edges g c k e m here tail =
        let was = inv.closed_edges g c k e (was_closed g c m) here tail in
        subst (λ x. IsClosedUpTo n edges IsRoot c x) (sym (stays_so e.to (known (mark s e.to) was))) was
      where
        known : (m : Mark) → IsClosedUpTo n edges IsRoot c m → m ≢ Unseen
        known Unseen h e = h
        known (Closed c) h e = not_closed c e
        known (Open q) h e = not_open q e

    pub enter_onward : Onward s t
    enter_onward g seen e = seen (sym (stays_so g seen) ∙ e)

    pub enter_keeps : Keeps t
    enter_keeps = record {
      marks = length-set s.marks f (Open (length s.stack)) ∙ inv.marks;
      next = inv.next;
      after = inv.after;
      within = inv.within;
      on_stack = enter_on_stack;
      opened = enter_opened;
      up = enter_up;
      back = enter_back;
      bases = λ b among. ⊎_elim (λ h. let l = inv.bases b h in let e = longer in omega (arith, l, e)) (λ h. let e = longer in omega (arith, h, e)) (base_cases b among);
      first_base = enter_first;
      bases_rise = rises s.bases inv.bases inv.bases_rise;
      active = λ b among. ⊎_elim (λ h. let l = inv.active b h in let e = longer in omega (arith, l, e)) (λ h. let e = longer in omega (arith, h, e)) (active_cases b among);
      active_rise = rises s.active inv.active inv.active_rise;
      base_active = λ b among. ⊎_elim
          (λ h. let a = inv.base_active b h in (a.0, push_old s.active (length s.stack) b a.0 a.1))
          (λ h. (length s.active, push_last s.active (length s.stack) ∙ ap Some h))
          (base_cases b among);
      followed = enter_followed;
      done = λ p g k e on none here tail. ⊎_elim
          (λ h. inv.done p g k e h (λ a. none (a.0, push_old s.active (length s.stack) p a.0 a.1)) here tail)
          (λ h. absurd (none (length s.active, push_last s.active (length s.stack) ∙ ap Some (sym h.0))))
          (placed p g on);
      closed_edges = enter_closed_edges;
      closed_below = λ g c m. inv.closed_below g c (was_closed g c m);
      closed_same = λ g h c mg mh. inv.closed_same g h c (was_closed g c mg) (was_closed h c mh);
      reached = λ g h. ⊎_elim (λ x. subst (ComesFromRoot n edges IsRoot) (sym x.0) from_root) (λ x. inv.reached g (λ e. h (x.1 ∙ e))) (at g);
      fresh = λ g k e m here tail. ⊎_elim (λ x. absurd (open_is_unseen (mark t g) (length s.stack) x.1 m)) (λ x. inv.fresh g k e (sym x.1 ∙ m) here tail) (at g);
      few = let l = inv.few in let e = longer in let u = fewer_unseen s f in_marks new in omega (arith, l, e, u);
    }

  -- ---- a edge that was followed

  module _ (s : State) (inv : Keeps s) (p f k : ℕ) (e : Edge) (on : On s p f) (here : IsEdge n edges IsRoot k e) (tail : e.from ≡ f) (next_is : next_of s f ≡ k) (leads_up : LeadsUp n edges IsRoot s p (mark s e.to)) where
    abbrev u : State
    u = record s { next = slice_set s.next f (k + 1) }

    has_next : f < length s.next
    has_next = subst (λ x. f < x) (sym inv.next) (inv.on_stack p f on).0

    now : (g : ℕ) → ((g ≡ f) × (next_of u g ≡ k + 1)) ⊎ ((g ≢ f) × (next_of u g ≡ next_of s g))
    now g = ⊎_elim
        (λ h. inl (h, ap (next_of u) h ∙ get_or-set_same s.next f (k + 1) 0 has_next))
        (λ ne. inr (ne, get_or-set_other s.next f g (k + 1) 0 ne))
        (which f g)

    -- nothing that was followed is followed no more
    at_least : (g j : ℕ) → j < next_of s g → j < next_of u g
    at_least g j less = ⊎_elim
        (λ h. let l : j < k = subst (λ x. j < x) (ap (next_of s) h.0 ∙ next_is) less in let e = h.1 in omega (arith, l, e))
        (λ h. subst (λ x. j < x) (sym h.1) less)
        (now g)

    next_followed : (q g j : ℕ) (d : Edge) → On s q g → IsEdge n edges IsRoot j d → d.from ≡ g → j < next_of u g → LeadsUp n edges IsRoot s q (mark s d.to)
    next_followed q g j d og sd cd less = ⊎_elim own (λ h. inv.followed q g j d og sd cd (subst (λ x. j < x) h.1 less)) (now g)
      where
        own : (g ≡ f) × (next_of u g ≡ k + 1) → LeadsUp n edges IsRoot s q (mark s d.to)
        own h = ⊎_elim
            (λ l. inv.followed q g j d og sd cd (subst (λ x. j < x) (sym (ap (next_of s) h.0 ∙ next_is)) l))
            (λ le.
            let e1 = h.1 in
            let last : j ≡ k = omega (arith, less, le, e1) in
            let same : e ≡ d = same_at edges k e d here (subst (λ x. slice_get edges x ≡ Some d) last sd) in
            let of_g : mark s f ≡ Open q = ap (mark s) (sym h.0) ∙ (inv.on_stack q g og).1 in
            let place : p ≡ q = same_open (mark s f) p q (inv.on_stack p f on).1 of_g in
            subst (λ x. LeadsUp n edges IsRoot s x (mark s d.to)) place (subst (λ (x : Edge). LeadsUp n edges IsRoot s p (mark s x.to)) same leads_up))
            (cases_lt j k)

    pub next_keeps : Keeps u
    next_keeps = record {
      marks = inv.marks;
      next = length-set s.next f (k + 1) ∙ inv.next;
      after = λ g j d lt sd le. ⊎_elim
          (λ h. inv.after g j d lt sd (let e1 = h.1 in let e2 = ap (next_of s) h.0 ∙ next_is in omega (arith, e1, e2, le)))
          (λ h. inv.after g j d lt sd (subst (λ x. x ≤ j) h.1 le))
          (now g);
      within = λ g lt. ⊎_elim
          (λ h. let w = slice_get_within edges k e here in let e1 = h.1 in omega (arith, w, e1))
          (λ h. subst (λ x. x ≤ length edges) (sym h.1) (inv.within g lt))
          (now g);
      on_stack = inv.on_stack;
      opened = inv.opened;
      up = inv.up;
      back = inv.back;
      bases = inv.bases;
      first_base = inv.first_base;
      bases_rise = inv.bases_rise;
      active = inv.active;
      active_rise = inv.active_rise;
      base_active = inv.base_active;
      followed = next_followed;
      done = λ q g j d og none sd cd. at_least g j (inv.done q g j d og none sd cd);
      closed_edges = inv.closed_edges;
      closed_below = inv.closed_below;
      closed_same = inv.closed_same;
      reached = inv.reached;
      fresh = λ g j d m sd cd. ⊎_elim
          (λ h. absurd (open_is_unseen (mark s f) p (inv.on_stack p f on).1 (ap (mark s) (sym h.0) ∙ m)))
          (λ h. subst (λ x. x ≤ j) (sym h.1) (inv.fresh g j d m sd cd))
          (now g);
      few = inv.few;
    }

  -- ---- the last active position

  module _ (s : State) (inv : Keeps s) (i t f : ℕ) (last : slice_get s.active i ≡ Some t) (end : i + 1 ≡ length s.active) (on : On s t f) where
    -- no active position and no base lies above it
    active_below : (a : ℕ) → Among s.active a → a ≤ t
    active_below a among = ⊎_elim
        (λ l. let r = inv.active_rise among.0 i a t l among.1 last in omega (arith, r))
        (λ le.
        let w = slice_get_within s.active among.0 a among.1 in
        let same : among.0 ≡ i = omega (arith, le, w, end) in
        let e : a ≡ t = same_at s.active i a t (subst (λ x. slice_get s.active x ≡ Some a) same among.1) last in
        omega (arith, e))
        (cases_lt among.0 i)

    pub base_below : (b : ℕ) → Among s.bases b → b ≤ t
    base_below b among = active_below b (inv.base_active b among)

    -- all that stands on the stack leads to the node there
    pub leads_to_top : (p g : ℕ) → On s p g → Leads edges g f
    leads_to_top p g og = ⊎_elim
        (λ l. inv.back t p f g (omega (arith, l)) on og (λ b among. inl (base_below b among)))
        (λ le. inv.up p t g f le og on)
        (cases_lt t p)

    -- ---- a edge that leads to an open node

    module _ (g j : ℕ) (og : On s j g) (edge : Leads edges f g) (bases : List ℕ) (joined : IsJoined j s.bases bases) where
      abbrev v : State
      v = record s { bases = bases }

      front : (b : ℕ) (k : ℕ) → slice_get bases k ≡ Some b → (slice_get s.bases k ≡ Some b) × (k < joined.count)
      front b k e = take_cases s.bases joined.count k b (subst (λ xs. slice_get xs k ≡ Some b) joined.front e)

      was_base : (b : ℕ) → Among bases b → Among s.bases b
      was_base b among = (among.0, (front b among.0 among.1).0)

      still_base : (b : ℕ) → Among s.bases b → b ≤ j → Among bases b
      still_base b among le = ⊎_elim
          (λ l. (among.0, subst (λ xs. slice_get xs among.0 ≡ Some b) (sym joined.front) (take_back s.bases joined.count among.0 b among.1 l)))
          (λ m. let above = joined.above among.0 b m among.1 in absurd (omega (arith, above, le)))
          (cases_lt among.0 joined.count)

      -- the last of the bases that are left
      pub base_up_to : (b : ℕ) → Among bases b → b ≤ j
      base_up_to b among = by_last (slice_get bases (length bases - 1)) refl
        where
          by_last : (o : Option ℕ) → slice_get bases (length bases - 1) ≡ o → b ≤ j
          by_last None e =
              let w = slice_get_within bases among.0 b among.1 in
              let r = some_at bases (length bases - 1) (omega (arith, w)) in
              let clash : Some r.0 ≡ None = sym r.1 ∙ e in absurd cc
          by_last (Some c) e =
              let w = slice_get_within bases among.0 b among.1 in
              let low : c ≤ j = joined.last_below (length bases - 1) c (omega (arith, w)) e in
              ⊎_elim
              (λ l. let r = inv.bases_rise among.0 (length bases - 1) b c l (front b among.0 among.1).0 (front c (length bases - 1) e).0 in omega (arith, r, low))
              (λ m.
              let same : among.0 ≡ length bases - 1 = omega (arith, m, w) in
              let be : b ≡ c = same_at bases (length bases - 1) b c (subst (λ x. slice_get bases x ≡ Some b) same among.1) e in
              omega (arith, be, low))
              (cases_lt among.0 (length bases - 1))

      join_back : (p q a h : ℕ) → p ≤ q → On s p a → On s q h → NoBase n edges IsRoot bases p q → Leads edges h a
      join_back p q a h le oa oh free = ⊎_elim after before (cases_lt j q)
        where
          before : q ≤ j → Leads edges h a
          before up_to = inv.back p q a h le oa oh (λ b among. ⊎_elim
              (λ l. inr (omega (arith, l, up_to)))
              (λ m. free b (still_base b among m))
              (cases_lt j b))

          to_a : j < q → Leads edges g a
          to_a less = ⊎_elim
              (λ l. inv.back p j a g (omega (arith, l)) oa og (λ b among. ⊎_elim (λ above. inr above) (λ m. ⊎_elim (λ x. inl x) (λ x. absurd (omega (arith, m, x, less))) (free b (still_base b among m))) (cases_lt j b)))
              (λ m. inv.up j p g a m og oa)
              (cases_lt p j)

          after : j < q → Leads edges h a
          after l = leads_on (leads_to_top q h oh) (leads_on edge (to_a l))

      fewer_bases : (p : ℕ) (m : Mark) → LeadsUp n edges IsRoot s p m → LeadsUp n edges IsRoot v p m
      fewer_bases p Unseen h = h
      fewer_bases p (Closed c) h = tt
      fewer_bases p (Open q) h = λ b among le. h b (was_base b among) le

      pub join_keeps : Keeps v
      join_keeps = record {
        marks = inv.marks;
        next = inv.next;
        after = inv.after;
        within = inv.within;
        on_stack = inv.on_stack;
        opened = inv.opened;
        up = inv.up;
        back = join_back;
        bases = λ b among. inv.bases b (was_base b among);
        first_base = λ h. still_base 0 (inv.first_base h) (omega arith);
        bases_rise = λ x y b c less ex ey. inv.bases_rise x y b c less (front b x ex).0 (front c y ey).0;
        active = inv.active;
        active_rise = inv.active_rise;
        base_active = λ b among. inv.base_active b (was_base b among);
        followed = λ p a k e oa here tail less. fewer_bases p (mark s e.to) (inv.followed p a k e oa here tail less);
        done = inv.done;
        closed_edges = inv.closed_edges;
        closed_below = inv.closed_below;
        closed_same = inv.closed_same;
        reached = inv.reached;
        fresh = inv.fresh;
        few = inv.few;
      }

  -- ---- a node all of whose edges were followed

  module _ (s : State) (inv : Keeps s) (i t f : ℕ) (last : slice_get s.active i ≡ Some t) (end : i + 1 ≡ length s.active) (on : On s t f) (all_followed : (k : ℕ) (e : Edge) → IsEdge n edges IsRoot k e → e.from ≡ f → k < next_of s f) where
    abbrev fewer : List ℕ
    fewer = take (length s.active - 1) s.active

    of_fewer : (a k : ℕ) → slice_get fewer k ≡ Some a → (slice_get s.active k ≡ Some a) × (k < length s.active - 1)
    of_fewer a k e = take_cases s.active (length s.active - 1) k a e

    -- those that stay lie below
    lower : (a : ℕ) → Among fewer a → a < t
    lower a among = let r = of_fewer a among.0 among.1 in let l = r.1 in inv.active_rise among.0 i a t (omega (arith, l, end)) r.0 last

    stays_active : (a : ℕ) → Among s.active a → a ≢ t → Among fewer a
    stays_active a among ne =
        let w = slice_get_within s.active among.0 a among.1 in
        ⊎_elim
        (λ l. (among.0, take_back s.active (length s.active - 1) among.0 a among.1 l))
        (λ le.
        let same : among.0 ≡ i = omega (arith, le, w, end) in
        absurd (ne (same_at s.active i a t (subst (λ x. slice_get s.active x ≡ Some a) same among.1) last)))
        (cases_lt among.0 (length s.active - 1))

    fewer_rise : (x y a b : ℕ) → x < y → slice_get fewer x ≡ Some a → slice_get fewer y ≡ Some b → a < b
    fewer_rise x y a b less ex ey = inv.active_rise x y a b less (of_fewer a x ex).0 (of_fewer b y ey).0

    same_func : (g : ℕ) → On s t g → g ≡ f
    same_func g og = same_at s.stack t g f og on

    -- what is no longer active was followed
    left_done : (p g k : ℕ) (e : Edge) → On s p g → (Among fewer p → ⊥) → IsEdge n edges IsRoot k e → e.from ≡ g → k < next_of s g
    left_done p g k e og none here tail = ⊎_elim
        (λ h. let same : g ≡ f = same_func g (subst (λ x. On s x g) h og) in subst (λ x. k < next_of s x) (sym same) (all_followed k e here (tail ∙ same)))
        (λ ne. inv.done p g k e og (λ a. none (stays_active p a ne)) here tail)
        (which t p)

    -- no component begins there
    pub leave_keeps : (Among s.bases t → ⊥) → Keeps (record s { active = fewer })
    leave_keeps none = record {
      marks = inv.marks;
      next = inv.next;
      after = inv.after;
      within = inv.within;
      on_stack = inv.on_stack;
      opened = inv.opened;
      up = inv.up;
      back = inv.back;
      bases = inv.bases;
      first_base = inv.first_base;
      bases_rise = inv.bases_rise;
      active = λ a among. inv.active a (among.0, (of_fewer a among.0 among.1).0);
      active_rise = fewer_rise;
      base_active = λ b among. stays_active b (inv.base_active b among) (λ e. none (subst (Among s.bases) e among));
      followed = inv.followed;
      done = left_done;
      closed_edges = inv.closed_edges;
      closed_below = inv.closed_below;
      closed_same = inv.closed_same;
      reached = inv.reached;
      fresh = inv.fresh;
      few = inv.few;
    }

    -- ---- a component begins there, and ends

    module _ (j : ℕ) (top : slice_get s.bases j ≡ Some t) (top_end : j + 1 ≡ length s.bases) (w : State) (closed : IsClosed t (record s { active = fewer; bases = take (length s.bases - 1) s.bases }) w) where
      abbrev front_bases : List ℕ
      front_bases = take (length s.bases - 1) s.bases

      of_front : (b k : ℕ) → slice_get front_bases k ≡ Some b → (slice_get s.bases k ≡ Some b) × (k < length s.bases - 1)
      of_front b k e = take_cases s.bases (length s.bases - 1) k b e

      base_low : (b : ℕ) → Among front_bases b → b < t
      base_low b among = let r = of_front b among.0 among.1 in let l = r.1 in inv.bases_rise among.0 j b t (omega (arith, l, top_end)) r.0 top

      all_base_low : (b : ℕ) → Among s.bases b → b ≤ t
      all_base_low b among =
          let within = slice_get_within s.bases among.0 b among.1 in
          ⊎_elim
          (λ l. let r = inv.bases_rise among.0 j b t l among.1 top in omega (arith, r))
          (λ le.
          let same : among.0 ≡ j = omega (arith, le, within, top_end) in
          let e : b ≡ t = same_at s.bases j b t (subst (λ x. slice_get s.bases x ≡ Some b) same among.1) top in
          omega (arith, e))
          (cases_lt among.0 j)

      stays_base : (b : ℕ) → Among s.bases b → b ≢ t → Among front_bases b
      stays_base b among ne =
          let within = slice_get_within s.bases among.0 b among.1 in
          ⊎_elim
          (λ l. (among.0, take_back s.bases (length s.bases - 1) among.0 b among.1 l))
          (λ le.
          let same : among.0 ≡ j = omega (arith, le, within, top_end) in
          absurd (ne (same_at s.bases j b t (subst (λ x. slice_get s.bases x ≡ Some b) same among.1) top)))
          (cases_lt among.0 (length s.bases - 1))

      height : t < length s.stack
      height = slice_get_within s.stack t f on

      in_bases : (b : ℕ) → Among w.bases b → Among front_bases b
      in_bases b among = subst (λ xs. Among xs b) closed.bases among

      in_active : (a : ℕ) → Among w.active a → Among fewer a
      in_active a among = subst (λ xs. Among xs a) closed.active among

      next_same : (g : ℕ) → next_of w g ≡ next_of s g
      next_same g = ap (λ xs. slice_index_or xs g 0) closed.next

      -- what still stands on the stack
      remains : (p g : ℕ) → On w p g → On s p g × (p < t)
      remains p g og = take_cases s.stack t p g (subst (λ xs. slice_get xs p ≡ Some g) closed.stack og)

      -- a node is in the component or keeps its mark
      abbrev InIt : ℕ → Type 0
      InIt g = (p : ℕ) × (t ≤ p) × On s p g × (mark w g ≡ Closed s.closed)

      abbrev Stays : ℕ → Type 0
      Stays g = (mark w g ≡ mark s g) × ((p : ℕ) → t ≤ p → On s p g → ⊥)

      outside : (g : ℕ) → ((p : ℕ) → t ≤ p → On s p g → ⊥) → Stays g
      outside g none = (closed.outside g none, none)

      parts : (g : ℕ) → InIt g ⊎ Stays g
      parts g = by_mark (mark s g) refl
        where
          by_mark : (m : Mark) → mark s g ≡ m → InIt g ⊎ Stays g
          by_mark Unseen e = inr (outside g (λ p le og. open_is_unseen (mark s g) p (inv.on_stack p g og).1 e))
          by_mark (Closed c) e = inr (outside g (λ p le og. open_is_closed (mark s g) p c (inv.on_stack p g og).1 e))
          by_mark (Open q) e = ⊎_elim
              (λ l. inr (outside g (λ p le og. let same = same_open (mark s g) p q (inv.on_stack p g og).1 e in absurd (omega (arith, le, l, same)))))
              (λ le. let og = inv.opened q g e in inl (q, le, og, closed.inside q g le og))
              (cases_lt q t)

      was_closed_or : (g c : ℕ) → mark w g ≡ Closed c → ((p : ℕ) × (t ≤ p) × On s p g × (c ≡ s.closed)) ⊎ (mark s g ≡ Closed c)
      was_closed_or g c e = ⊎_elim
          (λ h. inl (h.0, h.1, h.2, same_closed (mark w g) c s.closed e h.3))
          (λ h. inr (sym h.0 ∙ e))
          (parts g)

      close_on_stack : (p g : ℕ) → On w p g → (g < n) × (mark w g ≡ Open p)
      close_on_stack p g og =
          let r = remains p g og in
          let was = inv.on_stack p g r.0 in (
            was.0,
            ⊎_elim
                (λ h. let other = inv.on_stack h.0 g h.2 in let same = same_open (mark s g) p h.0 was.1 other.1 in let l = r.1 in let le = h.1 in absurd (omega (arith, same, l, le)))
                (λ h. h.0 ∙ was.1)
                (parts g),
          )

      close_opened : (p g : ℕ) → mark w g ≡ Open p → On w p g
      close_opened p g e = ⊎_elim
          (λ h. absurd (open_is_closed (mark w g) p s.closed e h.3))
          (λ h.
          let og = inv.opened p g (sym h.0 ∙ e) in
          subst (λ xs. slice_get xs p ≡ Some g) (sym closed.stack) (⊎_elim (λ l. take_back s.stack t p g og l) (λ le. absurd (h.1 p le og)) (cases_lt p t)))
          (parts g)

      close_followed : (p g k : ℕ) (e : Edge) → On w p g → IsEdge n edges IsRoot k e → e.from ≡ g → k < next_of w g → LeadsUp n edges IsRoot w p (mark w e.to)
      close_followed p g k e og here tail less = ⊎_elim
          (λ h. subst (λ m. LeadsUp n edges IsRoot w p m) (sym h.3) tt)
          (λ h. subst (λ m. LeadsUp n edges IsRoot w p m) (sym h.0) (fewer_up (mark s e.to) was))
          (parts e.to)
        where
          was : LeadsUp n edges IsRoot s p (mark s e.to)
          was = inv.followed p g k e (remains p g og).0 here tail (subst (λ x. k < x) (next_same g) less)

          fewer_up : (m : Mark) → LeadsUp n edges IsRoot s p m → LeadsUp n edges IsRoot w p m
          fewer_up Unseen h = h
          fewer_up (Closed c) h = tt
          fewer_up (Open q) h = λ b among le. h b (let a = in_bases b among in (a.0, (of_front b a.0 a.1).0)) le

      -- a edge of the component leads into it or to an earlier one
      own_edge : (p g k : ℕ) (e : Edge) → t ≤ p → On s p g → IsEdge n edges IsRoot k e → e.from ≡ g → IsClosedUpTo n edges IsRoot s.closed (mark w e.to)
      own_edge p g k e le og here tail = ⊎_elim
          (λ h. subst (λ m. IsClosedUpTo n edges IsRoot s.closed m) (sym h.3) (omega arith))
          (λ h. subst (λ m. IsClosedUpTo n edges IsRoot s.closed m) (sym h.0) (by_mark (mark s e.to) refl h.1 was))
          (parts e.to)
        where
          was : LeadsUp n edges IsRoot s p (mark s e.to)
          was = inv.followed p g k e og here tail (left_done p g k e og (λ a. let l = lower p a in omega (arith, l, le)) here tail)

          by_mark : (m : Mark) → mark s e.to ≡ m → ((q : ℕ) → t ≤ q → On s q e.to → ⊥) → LeadsUp n edges IsRoot s p m → IsClosedUpTo n edges IsRoot s.closed m
          by_mark Unseen m none h = h
          by_mark (Closed c) m none h = let l = inv.closed_below e.to c m in omega (arith, l)
          by_mark (Open q) m none h = absurd (none q (h t (j, top) le) (inv.opened q e.to m))

      close_edges : (g c k : ℕ) (e : Edge) → mark w g ≡ Closed c → IsEdge n edges IsRoot k e → e.from ≡ g → IsClosedUpTo n edges IsRoot c (mark w e.to)
      close_edges g c k e m here tail = ⊎_elim
          (λ h. subst (λ x. IsClosedUpTo n edges IsRoot x (mark w e.to)) (sym h.3) (own_edge h.0 g k e h.1 h.2 here tail))
          (λ was. older (mark s e.to) refl (inv.closed_edges g c k e was here tail))
          (was_closed_or g c m)
        where
          older : (d : Mark) → mark s e.to ≡ d → IsClosedUpTo n edges IsRoot c d → IsClosedUpTo n edges IsRoot c (mark w e.to)
          older Unseen x h = absurd h
          older (Open q) x h = absurd h
          older (Closed d) x h = ⊎_elim
              (λ y. absurd (open_is_closed (mark s e.to) y.0 d (inv.on_stack y.0 e.to y.2).1 x))
              (λ y. subst (λ z. IsClosedUpTo n edges IsRoot c z) (sym (y.0 ∙ x)) h)
              (parts e.to)

      close_same : (g h c : ℕ) → mark w g ≡ Closed c → mark w h ≡ Closed c → Leads edges g h
      close_same g h c mg mh = by_parts (was_closed_or g c mg) (was_closed_or h c mh)
        where
          by_parts : ((p : ℕ) × (t ≤ p) × On s p g × (c ≡ s.closed)) ⊎ (mark s g ≡ Closed c) → ((p : ℕ) × (t ≤ p) × On s p h × (c ≡ s.closed)) ⊎ (mark s h ≡ Closed c) → Leads edges g h
          by_parts (inl x) (inl y) = ⊎_elim
              (λ l. inv.back y.0 x.0 h g (omega (arith, l)) y.2 x.2 (λ b among. inl (let z = all_base_low b among in let ty = y.1 in omega (arith, z, ty))))
              (λ le. inv.up x.0 y.0 g h le x.2 y.2)
              (cases_lt y.0 x.0)
          by_parts (inl x) (inr y) = let l = inv.closed_below h c y in let e = x.3 in absurd (omega (arith, l, e))
          by_parts (inr x) (inl y) = let l = inv.closed_below g c x in let e = y.3 in absurd (omega (arith, l, e))
          by_parts (inr x) (inr y) = inv.closed_same g h c x y

      unseen_same : (g : ℕ) → is_unseen (mark w g) ≡ is_unseen (mark s g)
      unseen_same g = ⊎_elim
          (λ h. ap is_unseen h.3 ∙ sym (ap is_unseen (inv.on_stack h.0 g h.2).1))
          (λ h. ap is_unseen h.0)
          (parts g)

      stack_height : length w.stack ≡ t
      stack_height = ap length closed.stack ∙ taken s.stack t (let h = height in omega (arith, h))

      pub close_unseen : unseen w ≡ unseen s
      close_unseen = same_count w.marks s.marks closed.count unseen_same

      pub close_onward : Onward s w
      close_onward g seen e = ⊎_elim (λ h. closed_is_unseen (mark w g) s.closed h.3 e) (λ h. seen (sym h.0 ∙ e)) (parts g)

      pub close_keeps : Keeps w
      close_keeps = record {
        marks = closed.count ∙ inv.marks;
        next = ap length closed.next ∙ inv.next;
        after = λ g k e lt here le. inv.after g k e lt here (subst (λ x. x ≤ k) (next_same g) le);
        within = λ g lt. subst (λ x. x ≤ length edges) (sym (next_same g)) (inv.within g lt);
        on_stack = close_on_stack;
        opened = close_opened;
        up = λ p q g h le og oh. inv.up p q g h le (remains p g og).0 (remains q h oh).0;
        back = λ p q g h le og oh free. inv.back p q g h le (remains p g og).0 (remains q h oh).0 (λ b among. ⊎_elim
            (λ e. inr (let l = (remains q h oh).1 in omega (arith, e, l)))
            (λ ne. free b (subst (λ xs. Among xs b) (sym closed.bases) (stays_base b among ne)))
            (which t b));
        bases = λ b among. let l = base_low b (in_bases b among) in let e = stack_height in omega (arith, l, e);
        first_base = λ h. subst (λ xs. Among xs 0) (sym closed.bases) (stays_base 0 (inv.first_base (let l = height in omega (arith, l))) (λ e. let x = stack_height in absurd (omega (arith, h, x, e))));
        bases_rise = λ x y b c less ex ey. inv.bases_rise x y b c less (of_front b x (subst (λ xs. slice_get xs x ≡ Some b) closed.bases ex)).0 (of_front c y (subst (λ xs. slice_get xs y ≡ Some c) closed.bases ey)).0;
        active = λ a among. let l = lower a (in_active a among) in let e = stack_height in omega (arith, l, e);
        active_rise = λ x y b c less ex ey. fewer_rise x y b c less (subst (λ xs. slice_get xs x ≡ Some b) closed.active ex) (subst (λ xs. slice_get xs y ≡ Some c) closed.active ey);
        base_active = λ b among. subst (λ xs. Among xs b) (sym closed.active) (let a = in_bases b among in stays_active b (inv.base_active b (a.0, (of_front b a.0 a.1).0)) (λ e. let l = base_low b a in absurd (omega (arith, l, e))));
        followed = close_followed;
        done = λ p g k e og none here tail. subst (λ x. k < x) (sym (next_same g)) (left_done p g k e (remains p g og).0 (λ a. none (subst (λ xs. Among xs p) (sym closed.active) a)) here tail);
        closed_edges = close_edges;
        closed_below = λ g c m. ⊎_elim (λ h. let e1 = h.3 in let e2 = closed.closed in omega (arith, e1, e2)) (λ h. let l = inv.closed_below g c h in let e2 = closed.closed in omega (arith, l, e2)) (was_closed_or g c m);
        closed_same = close_same;
        reached = λ g h. ⊎_elim (λ x. inv.reached g (λ e. open_is_unseen (mark s g) x.0 (inv.on_stack x.0 g x.2).1 e)) (λ x. inv.reached g (λ e. h (x.0 ∙ e))) (parts g);
        fresh = λ g k e m here tail. ⊎_elim
            (λ h. absurd (closed_is_unseen (mark w g) s.closed h.3 m))
            (λ h. subst (λ x. x ≤ k) (sym (next_same g)) (inv.fresh g k e (sym h.0 ∙ m) here tail))
            (parts g);
        few =
            let l = inv.few in
            let h = height in
            let e1 = stack_height in
            let e2 = closed.closed in
            let e3 = close_unseen in
            omega (arith, l, h, e1, e2, e3);
      }
