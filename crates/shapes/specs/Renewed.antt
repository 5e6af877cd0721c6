-- The trees of a map that comes to label one more site inline.
use Rattle.std.specs.Prelude.{◌≡◌, ℕ, ◌+◌, ◌<◌, ◌==◌, nat_lt, Bool, true, false, ◌||◌, if◌then◌else◌, List, [], ◌∷◌, Option, Some, None, slice_index_or}
use Rattle.oi_base.specs.declared.ids.FuncId.{FuncId}
use Rattle.oi_base.specs.declared.ids.SiteId.{SiteId}
use Rattle.ir_core.specs.declared.module.Module.{Module}
use Rattle.shapes.specs.declared.renewal.Renewal.{Renewal}
use Rattle.shapes.specs.declared.renewal.Renewal.TheVariants.{Unseen, Same, New}
use Rattle.shapes.specs.Tree.{Tree, node, Callees, none, more, func}
use Rattle.shapes.specs.Weight.{own_weight, callees_weight, kept, IsWeighed}
use Rattle.shapes.specs.Added.{Added}
use Rattle.shapes.specs.Reaching.{has_func}

-- ---- new trees

-- callees with one more, in text order
abbrev pub inserted : SiteId → Tree → Callees → Callees
inserted s t none = more s t none
inserted s t (more o k ks) = if nat_lt o.0 s.0 then more o k (inserted s t ks) else more s t (more o k ks)

-- those of a function after, where they are these before but for the added site
abbrev pub with_added : Added → FuncId → Callees → Callees
with_added a f ks = if f.0 == a.caller.0 then inserted a.site a.callee ks else ks

-- a function's tree with these callees
abbrev pub tree_over : Module → FuncId → Callees → Tree
tree_over m f ks = node f (kept (own_weight m f + callees_weight m ks)) ks

-- a tree in which the added site is inlined wherever its caller stands
abbrev mutual
  pub renewed : Module → Added → Tree → Tree
  renewed m a (node f w ks) = tree_over m f (with_added a f (all_renewed m a ks))

  pub all_renewed : Module → Added → Callees → Callees
  all_renewed m a none = none
  all_renewed m a (more s t ks) = more s (renewed m a t) (all_renewed m a ks)

-- ---- what is known of new trees

abbrev pub is_new : Renewal → Bool
is_new Unseen = false
is_new Same = false
is_new (New r) = true

abbrev pub is_seen : Renewal → Bool
is_seen Unseen = false
is_seen Same = true
is_seen (New r) = true

abbrev pub newest : Renewal → Tree → Tree
newest Unseen t = t
newest Same t = t
newest (New r) t = r.value

-- the callees as far as their new trees are known
abbrev pub all_newest : List Renewal → Callees → Callees
all_newest rs none = none
all_newest rs (more s t ks) = more s (newest (slice_index_or rs (func t).0 Unseen) t) (all_newest rs ks)

-- whether a callee has a new tree
abbrev pub any_new : List Renewal → Callees → Bool
any_new rs none = false
any_new rs (more s t ks) = is_new (slice_index_or rs (func t).0 Unseen) || any_new rs ks

-- the callees are among the first functions
abbrev pub AreWithin : ℕ → Callees → Type 0
AreWithin n none = Unit {0}
AreWithin n (more s t ks) = ((func t).0 < n) × AreWithin n ks

abbrev pub one_if : Bool → ℕ
one_if b = if b then 1 else 0

abbrev pub new_count : List Renewal → ℕ
new_count [] = 0
new_count (r ∷ rs) = one_if (is_new r) + new_count rs

abbrev pub renewal_at : List Renewal → FuncId → Renewal
renewal_at rs f = slice_index_or rs f.0 Unseen

-- of a tree in which the caller stands the new one is known, and of another that it stays
abbrev pub IsRenewal : Module → Added → Option Tree → Renewal → Type 0
IsRenewal m a o Unseen = Unit {0}
IsRenewal m a o Same = (t : Tree) × (o ≡ Some t) × (has_func a.caller t ≡ false)
IsRenewal m a o (New r) = (t : Tree) × (o ≡ Some t) × (has_func a.caller t ≡ true) × (r.value ≡ renewed m a t)

-- the same of all functions
abbrev pub AreRenewals : Module → Added → List (Option Tree) → List Renewal → Type 0
AreRenewals m a [] [] = Unit {0}
AreRenewals m a [] (r ∷ rs) = ⊥
AreRenewals m a (o ∷ os) [] = ⊥
AreRenewals m a (o ∷ os) (r ∷ rs) = IsRenewal m a o r × AreRenewals m a os rs

-- it is known of all callees
abbrev pub AreSeen : List Renewal → Callees → Type 0
AreSeen rs none = Unit {0}
AreSeen rs (more s t ks) = (is_seen (renewal_at rs (func t)) ≡ true) × AreSeen rs ks

-- ---- old trees

-- the tree that a function had, with the weights that the module gives
pub record IsHeld (m : Module) (a : Added) (t : Tree) : Type 0 where
  pub place : slice_index_or a.trees (func t).0 None ≡ Some t
  pub weighed : IsWeighed m t

-- a tree and all trees in it are so
abbrev mutual
  pub IsOld : Module → Added → Tree → Type 0
  IsOld m a (node f w ks) = IsHeld m a (node f w ks) × AreOld m a ks

  pub AreOld : Module → Added → Callees → Type 0
  AreOld m a none = Unit {0}
  AreOld m a (more s t ks) = IsOld m a t × AreOld m a ks
