-- Where the walk begins and ends.
use Rattle.std.proofs.Common.{◌≡◌, ◌≢◌, ⊎_elim, ℕ, zero, suc, ◌+◌, ◌-◌, ◌<◌, List, [], ◌++◌, length, replicate, take, Some, None, slice_get, slice_index_or, refl, sym, ap, ◌∙◌, subst, arith}
use Rattle.std.proofs.lemmas.Bool.{cases_lt}
use Rattle.std.proofs.lemmas.List.{get_or-set_same}
use Rattle.std.proofs.lemmas.Option.{slice_get_within, slice_get_read, get_or_from_slice_get}
use Rattle.strong_components.specs.declared.edge.Edge.{Edge}
use Rattle.strong_components.specs.declared.walk.Mark.{Mark}
use Rattle.strong_components.specs.declared.walk.Mark.TheVariants.{Unseen, Open, Closed}
use Rattle.strong_components.specs.Chains.{stays}
use Rattle.strong_components.specs.Walk.{State, mark, count_unseen, On, IsSeen, Onward, AreStarts, AreEdges, Inv, AreComponents, entered}
use Rattle.strong_components.proofs.Walking.{enter_keeps}

all_unseen : (n f : ℕ) → slice_index_or (replicate n Unseen) f Unseen ≡ Unseen
all_unseen zero f = refl
all_unseen (suc n) zero = refl
all_unseen (suc n) (suc f) = all_unseen n f

count_all : (n : ℕ) → count_unseen (replicate n Unseen) ≡ n
count_all zero = refl
count_all (suc n) = let r = count_all n in omega (arith, r)

pub long : {A : Type 0} (n : ℕ) (x : A) → length (replicate n x) ≡ n
long zero x = refl
long (suc n) x = ap suc (long n x)

module _ (n : ℕ) (edges : List Edge) (IsRoot : ℕ → Type 0) where
  abbrev begun : List ℕ → State
  begun starts = record { marks = replicate n Unseen; next = starts; stack = []; bases = []; active = []; closed = 0 }

  no_mark : (starts : List ℕ) (f : ℕ) (m : Mark) → m ≢ Unseen → mark (begun starts) f ≡ m → ⊥
  no_mark starts f m ne e = ne (sym e ∙ all_unseen n f)

  open_seen : (p : ℕ) → Open p ≢ Unseen
  open_seen p e = cc

  closed_seen : (c : ℕ) → Closed c ≢ Unseen
  closed_seen c e = cc

  nothing_at : {A : Type 0} {B : Type 0} (p : ℕ) (x : A) → slice_get [] p ≡ Some x → B
  nothing_at p x e = absurd (let clash : None ≡ Some x = e in cc)

  pub start_keeps : (starts : List ℕ) → AreEdges n edges → AreStarts n edges starts → Inv n edges IsRoot (begun starts)
  start_keeps starts are_edges are = record {
    marks = long n Unseen;
    next = are.count;
    after = are.after;
    within = are.within;
    on_stack = λ p f on. nothing_at p f on;
    opened = λ p f e. absurd (no_mark starts f (Open p) (open_seen p) e);
    up = λ p q f g le of og. nothing_at p f of;
    back = λ p q f g le of og free. nothing_at p f of;
    bases = λ b among. nothing_at among.0 b among.1;
    first_base = λ h. absurd (omega (arith, h));
    bases_rise = λ i j b c less ei ej. nothing_at i b ei;
    active = λ b among. nothing_at among.0 b among.1;
    active_rise = λ i j b c less ei ej. nothing_at i b ei;
    base_active = λ b among. nothing_at among.0 b among.1;
    followed = λ p f k e on here tail less. nothing_at p f on;
    done = λ p f k e on none here tail. nothing_at p f on;
    closed_edges = λ f c k e m here tail. absurd (no_mark starts f (Closed c) (closed_seen c) m);
    closed_below = λ f c m. absurd (no_mark starts f (Closed c) (closed_seen c) m);
    closed_same = λ f g c m h. absurd (no_mark starts f (Closed c) (closed_seen c) m);
    reached = λ f h. absurd (h (all_unseen n f));
    fresh = λ f k e m here tail. are.own f k e (subst (λ x. x < n) tail (are_edges.tails k e here)) here tail;
    few = let c = count_all n in omega (arith, c);
  }

  module _ (s : State) (inv : Inv n edges IsRoot s) (idle : length s.active ≡ 0) where
    nothing_on : (p f : ℕ) → On s p f → ⊥
    nothing_on p f on =
        let w = slice_get_within s.stack p f on in
        let b = inv.first_base (omega (arith, w)) in
        let a = inv.base_active 0 b in
        let l = slice_get_within s.active a.0 0 a.1 in
        omega (arith, l, idle)

    -- from an idle walk a root is entered
    module _ (f : ℕ) (lt : f < n) (new : mark s f ≡ Unseen) (root : IsRoot f) where
      pub root_keeps : Inv n edges IsRoot (entered s f)
      root_keeps = enter_keeps n edges IsRoot s inv f lt new (f, root, stays f) (λ p g on. absurd (nothing_on p g on))

    pub idle_components : ((r : ℕ) → r < n → IsRoot r → IsSeen s r) → AreComponents n edges IsRoot s.marks
    idle_components seen = record {
      count = inv.marks;
      none_open = λ f p e. nothing_on p f (inv.opened p f e);
      edges_fall = inv.closed_edges;
      joined = inv.closed_same;
      reached = inv.reached;
      roots = seen;
    }

-- a root that was entered is seen
pub entered_seen : (s : State) (f : ℕ) → f < length s.marks → IsSeen (entered s f) f
entered_seen s f lt e = let both : Open (length s.stack) ≡ Unseen = sym (get_or-set_same s.marks f (Open (length s.stack)) Unseen lt) ∙ e in cc

pub read_mark : (s : State) (f : ℕ) (m : Mark) → f < length s.marks → m ≡ slice_index_or s.marks f m → mark s f ≡ m
read_mark s f m lt e = get_or_from_slice_get s.marks f m Unseen (slice_get_read s.marks (length s.marks) f m refl lt e)

none_taken : {A : Type 0} (n : ℕ) → take {A = A} n [] ≡ []
none_taken zero = refl
none_taken (suc n) = refl

-- a list that was empty and was made n elements long
pub fresh : {A : Type 0} (x : A) (n l : ℕ) (xs ys : List A) → xs ≡ [] → l ≡ 0 → ys ≡ take n xs ++ replicate (n - l) x → ys ≡ replicate n x
fresh x n l xs ys none zeros e =
    let d : n - l ≡ n = omega (arith, zeros) in
    e ∙ ap (λ zs. take n zs ++ replicate (n - l) x) none ∙ ap (λ zs. zs ++ replicate (n - l) x) (none_taken n) ∙ ap (λ k. replicate k x) d

pub state_begun : (n : ℕ) (edges : List Edge) (IsRoot : ℕ → Type 0) → AreEdges n edges → (starts : List ℕ) → AreStarts n edges starts → (l : ℕ) (old marks : List Mark) (stack bases active : List ℕ) → old ≡ [] → l ≡ 0 → marks ≡ take n old ++ replicate (n - l) Unseen → stack ≡ [] → bases ≡ [] → active ≡ []
    → Inv n edges IsRoot (record { marks = marks; next = starts; stack = stack; bases = bases; active = active; closed = 0 })
state_begun n edges IsRoot are_edges starts are l old marks stack bases active none zeros e es eb ea =
    subst (λ xs. Inv n edges IsRoot (record { marks = xs; next = starts; stack = stack; bases = bases; active = active; closed = 0 })) (sym (fresh Unseen n l old marks none zeros e))
    (subst (λ xs. Inv n edges IsRoot (record { marks = replicate n Unseen; next = starts; stack = xs; bases = bases; active = active; closed = 0 })) (sym es)
    (subst (λ xs. Inv n edges IsRoot (record { marks = replicate n Unseen; next = starts; stack = []; bases = xs; active = active; closed = 0 })) (sym eb)
    (subst (λ xs. Inv n edges IsRoot (record { marks = replicate n Unseen; next = starts; stack = []; bases = []; active = xs; closed = 0 })) (sym ea)
    (start_keeps n edges IsRoot starts are_edges are))))

-- one node more was visited
pub one_more : (IsRoot : ℕ → Type 0) (s t : State) (f : ℕ) → ((r : ℕ) → r < f → IsRoot r → IsSeen s r) → Onward s t → (IsRoot f → IsSeen t f) → (r : ℕ) → r < f + 1 → IsRoot r → IsSeen t r
one_more IsRoot s t f seen onward last r lt root = ⊎_elim
    (λ l. onward r (seen r l root))
    (λ le. let same : r ≡ f = omega (arith, lt, le) in subst (IsSeen t) (sym same) (last (subst IsRoot same root)))
    (cases_lt r f)
