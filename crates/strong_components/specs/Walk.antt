-- What the walk along the edges keeps.
use Rattle.std.specs.Prelude.{◌≡◌, ◌≢◌, ◌⊎◌, ℕ, ◌+◌, ◌-◌, ◌<◌, ◌≤◌, Bool, true, false, List, [], ◌∷◌, ◌++◌, length, take, if◌then◌else◌, All, Some, slice_get, slice_set, slice_index_or}
use Rattle.strong_components.specs.declared.edge.Edge.{Edge}
use Rattle.strong_components.specs.declared.walk.Mark.{Mark}
use Rattle.strong_components.specs.declared.walk.Mark.TheVariants.{Unseen, Open, Closed}
use Rattle.strong_components.specs.declared.walk.Walk.{Walk}
use Rattle.strong_components.specs.Chains.{Leads}

-- ---- states

pub record State : Type 0 where
  pub marks : List Mark
  pub next : List ℕ
  pub stack : List ℕ
  pub bases : List ℕ
  pub active : List ℕ
  pub closed : ℕ

abbrev pub state : Walk → State
state w = record { marks = w.marks.items; next = w.next.items; stack = w.stack.items; bases = w.bases.items; active = w.active.items; closed = w.closed }

abbrev pub mark : State → ℕ → Mark
mark s f = slice_index_or s.marks f Unseen

abbrev pub next_of : State → ℕ → ℕ
next_of s f = slice_index_or s.next f 0

abbrev pub is_unseen : Mark → Bool
is_unseen Unseen = true
is_unseen (Open p) = false
is_unseen (Closed c) = false

-- how many nodes the walk hasn't come to
abbrev pub count_unseen : List Mark → ℕ
count_unseen [] = 0
count_unseen (m ∷ ms) = (if is_unseen m then 1 else 0) + count_unseen ms

abbrev pub unseen : State → ℕ
unseen s = count_unseen s.marks

-- x stands in a list
abbrev pub Among : List ℕ → ℕ → Type 0
Among xs x = (i : ℕ) × (slice_get xs i ≡ Some x)

-- node f stands on the stack at position p
abbrev pub On : State → ℕ → ℕ → Type 0
On s p f = slice_get s.stack p ≡ Some f

abbrev pub entered : State → ℕ → State
entered s f = record s {
  marks = slice_set s.marks f (Open (length s.stack));
  stack = s.stack ++ f ∷ [];
  bases = s.bases ++ length s.stack ∷ [];
  active = s.active ++ length s.stack ∷ [];
}

-- the bases up to a position are left
pub record IsJoined (at : ℕ) (old new : List ℕ) : Type 0 where
  pub count : ℕ
  pub front : new ≡ take count old
  pub above : (i b : ℕ) → count ≤ i → slice_get old i ≡ Some b → at < b
  pub last_below : (i b : ℕ) → i + 1 ≡ length new → slice_get new i ≡ Some b → b ≤ at

-- what stood on the stack from a base on has the next component's number
pub record IsClosed (base : ℕ) (old new : State) : Type 0 where
  pub stack : new.stack ≡ take base old.stack
  pub count : length new.marks ≡ length old.marks
  pub inside : (p f : ℕ) → base ≤ p → On old p f → mark new f ≡ Closed old.closed
  pub outside : (f : ℕ) → ((p : ℕ) → base ≤ p → On old p f → ⊥) → mark new f ≡ mark old f
  pub next : new.next ≡ old.next
  pub bases : new.bases ≡ old.bases
  pub active : new.active ≡ old.active
  pub closed : new.closed ≡ old.closed + 1

-- ---- edges

-- all are below n
abbrev pub IsInRange : ℕ → List ℕ → Type 0
IsInRange n fs = All (λ (f : ℕ). f < n) fs

-- tails ascend
abbrev pub IsSorted : List Edge → Type 0
IsSorted edges = (i j : ℕ) (s t : Edge) → i ≤ j → slice_get edges i ≡ Some s → slice_get edges j ≡ Some t → s.from ≤ t.from

-- the first edge of each of n nodes
pub record AreStarts (n : ℕ) (edges : List Edge) (starts : List ℕ) : Type 0 where
  pub count : length starts ≡ n
  pub own : (f k : ℕ) (s : Edge) → f < n → slice_get edges k ≡ Some s → s.from ≡ f → slice_index_or starts f 0 ≤ k
  pub after : (f k : ℕ) (s : Edge) → f < n → slice_get edges k ≡ Some s → slice_index_or starts f 0 ≤ k → f ≤ s.from
  pub within : (f : ℕ) → f < n → slice_index_or starts f 0 ≤ length edges

abbrev pub IsFollowed : Mark → ℕ → State → State → Type 0
IsFollowed Unseen g old new = new ≡ entered old g
IsFollowed (Open at) g old new = IsJoined at old.bases new.bases × (new ≡ record old { bases = new.bases })
IsFollowed (Closed c) g old new = new ≡ old

-- all but the last
abbrev pub but_last : List ℕ → List ℕ
but_last xs = take (length xs - 1) xs

abbrev pub IsLast : List ℕ → ℕ → Type 0
IsLast xs x = slice_get xs (length xs - 1) ≡ Some x

pub record IsLeft (at : ℕ) (old new : State) : Type 0 where
  pub whole : IsLast old.bases at → IsClosed at (record old { active = but_last old.active; bases = but_last old.bases }) new
  pub part : (IsLast old.bases at → ⊥) → new ≡ record old { active = but_last old.active }

-- the same while the stack is taken down to the base
pub record IsClosing (base : ℕ) (old new : State) : Type 0 where
  pub left : base ≤ length new.stack
  pub most : length new.stack ≤ length old.stack
  pub stack : new.stack ≡ take (length new.stack) old.stack
  pub count : length new.marks ≡ length old.marks
  pub inside : (p f : ℕ) → length new.stack ≤ p → On old p f → mark new f ≡ Closed old.closed
  pub outside : (f : ℕ) → ((p : ℕ) → length new.stack ≤ p → On old p f → ⊥) → mark new f ≡ mark old f
  pub next : new.next ≡ old.next
  pub bases : new.bases ≡ old.bases
  pub active : new.active ≡ old.active
  pub closed : new.closed ≡ old.closed

-- ---- what holds between two turns

-- n nodes, their edges, and the nodes from which the walk begins
module _ (n : ℕ) (edges : List Edge) (IsRoot : ℕ → Type 0) where
  abbrev pub IsEdge : ℕ → Edge → Type 0
  IsEdge k s = slice_get edges k ≡ Some s

  -- a chain of edges leads to the node from one of those
  abbrev pub ComesFromRoot : ℕ → Type 0
  ComesFromRoot f = (r : ℕ) × IsRoot r × Leads edges r f

  -- no component begins above a position up to another
  abbrev pub NoBase : List ℕ → ℕ → ℕ → Type 0
  NoBase bases p q = (b : ℕ) → Among bases b → (b ≤ p) ⊎ (q < b)

  -- a followed edge leads to a component with a number, or to where no component begins that lies above its tail's
  abbrev pub LeadsUp : State → ℕ → Mark → Type 0
  LeadsUp s p Unseen = ⊥
  LeadsUp s p (Closed c) = Unit {0}
  LeadsUp s p (Open q) = (b : ℕ) → Among s.bases b → b ≤ p → b ≤ q

  abbrev pub IsClosedUpTo : ℕ → Mark → Type 0
  IsClosedUpTo c Unseen = ⊥
  IsClosedUpTo c (Closed d) = d ≤ c
  IsClosedUpTo c (Open q) = ⊥

  pub record Inv (s : State) : Type 0 where
    pub marks : length s.marks ≡ n
    pub next : length s.next ≡ n
    pub after : (f k : ℕ) (e : Edge) → f < n → IsEdge k e → next_of s f ≤ k → f ≤ e.from
    pub within : (f : ℕ) → f < n → next_of s f ≤ length edges
    pub on_stack : (p f : ℕ) → On s p f → (f < n) × (mark s f ≡ Open p)
    pub opened : (p f : ℕ) → mark s f ≡ Open p → On s p f
    pub up : (p q f g : ℕ) → p ≤ q → On s p f → On s q g → Leads edges f g
    pub back : (p q f g : ℕ) → p ≤ q → On s p f → On s q g → NoBase s.bases p q → Leads edges g f
    pub bases : (b : ℕ) → Among s.bases b → b < length s.stack
    pub first_base : 0 < length s.stack → Among s.bases 0
    pub bases_rise : (i j b c : ℕ) → i < j → slice_get s.bases i ≡ Some b → slice_get s.bases j ≡ Some c → b < c
    pub active : (a : ℕ) → Among s.active a → a < length s.stack
    pub active_rise : (i j a b : ℕ) → i < j → slice_get s.active i ≡ Some a → slice_get s.active j ≡ Some b → a < b
    pub base_active : (b : ℕ) → Among s.bases b → Among s.active b
    pub followed : (p f k : ℕ) (e : Edge) → On s p f → IsEdge k e → e.from ≡ f → k < next_of s f → LeadsUp s p (mark s e.to)
    pub done : (p f k : ℕ) (e : Edge) → On s p f → (Among s.active p → ⊥) → IsEdge k e → e.from ≡ f → k < next_of s f
    pub closed_edges : (f c k : ℕ) (e : Edge) → mark s f ≡ Closed c → IsEdge k e → e.from ≡ f → IsClosedUpTo c (mark s e.to)
    pub closed_below : (f c : ℕ) → mark s f ≡ Closed c → c < s.closed
    pub closed_same : (f g c : ℕ) → mark s f ≡ Closed c → mark s g ≡ Closed c → Leads edges f g
    pub reached : (f : ℕ) → mark s f ≢ Unseen → ComesFromRoot f
    pub fresh : (f k : ℕ) (e : Edge) → mark s f ≡ Unseen → IsEdge k e → e.from ≡ f → next_of s f ≤ k
    pub few : s.closed + length s.stack + unseen s ≤ n

-- ---- the walk of a graph

-- what is left to do: edges to follow, nodes to come to, and nodes to leave
abbrev pub left : ℕ → List ℕ → ℕ
left e [] = 0
left e (x ∷ xs) = (e - x) + left e xs

abbrev pub measure : ℕ → State → ℕ
measure e s = left e s.next + unseen s + length s.active

-- a node to which the walk came
abbrev pub IsSeen : State → ℕ → Type 0
IsSeen s f = mark s f ≢ Unseen

abbrev pub Onward : State → State → Type 0
Onward old new = (f : ℕ) → IsSeen old f → IsSeen new f

-- the edges of n nodes, in the order of their tails
pub record AreEdges (n : ℕ) (edges : List Edge) : Type 0 where
  pub tails : (k : ℕ) (s : Edge) → slice_get edges k ≡ Some s → s.from < n
  pub heads : (k : ℕ) (s : Edge) → slice_get edges k ≡ Some s → s.to < n
  pub sorted : IsSorted edges

-- the components of the nodes to which chains of edges lead from roots: no edge leads to a component with a greater
-- number, and chains lead from each node of a component to each other
pub record AreComponents (n : ℕ) (edges : List Edge) (IsRoot : ℕ → Type 0) (marks : List Mark) : Type 0 where
  pub count : length marks ≡ n
  pub none_open : (f p : ℕ) → slice_index_or marks f Unseen ≢ Open p
  pub edges_fall : (f c k : ℕ) (s : Edge) → slice_index_or marks f Unseen ≡ Closed c → slice_get edges k ≡ Some s → s.from ≡ f → IsClosedUpTo n edges IsRoot c (slice_index_or marks s.to Unseen)
  pub joined : (f g c : ℕ) → slice_index_or marks f Unseen ≡ Closed c → slice_index_or marks g Unseen ≡ Closed c → Leads edges f g
  pub reached : (f : ℕ) → slice_index_or marks f Unseen ≢ Unseen → ComesFromRoot n edges IsRoot f
  pub roots : (f : ℕ) → f < n → IsRoot f → slice_index_or marks f Unseen ≢ Unseen
