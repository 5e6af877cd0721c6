-- Classes by parents: each parent is no higher, and the lowest of a class is its own.
use Rattle.std.specs.Prelude.{◌≡◌, ℕ, zero, suc, ◌+◌, ◌<◌, ◌≤◌, nat_eq, List, length, take, Option, Some, None, slice_index, if◌then◌else◌}
use Rattle.std.specs.List.{filter}
use Rattle.oi_base.specs.declared.ids.SiteId.{SiteId}
use Rattle.decisions.specs.declared.maps.Label.TheVariants.{Keep}
use Rattle.component_split.specs.Graph.{SiteGraph, Labels, with_label}
use Rattle.component_split.specs.Split.{merged, lowest_by, lowest}

-- up the parents, at most n times
unfoldable pub up : ℕ → List ℕ → ℕ → ℕ
up zero ps x = x
up (suc n) ps x = if nat_eq (slice_index ps x) x then x else up n ps (slice_index ps x)

abbrev pub root : List ℕ → ℕ → ℕ
root ps x = up x ps x

abbrev pub AreParents : List ℕ → Type 0
AreParents ps = (k : ℕ) → slice_index ps k ≤ k

-- on the way up from a number: the classes are as they were
pub record IsOnWay (old : List ℕ) (of : ℕ) (ps : List ℕ) (at : ℕ) : Type 0 where
  pub at_root : root ps at ≡ root old of
  pub low : at ≤ of
  pub same : (f : ℕ) → root ps f ≡ root old f
  pub parents : AreParents ps
  pub count : length ps ≡ length old

-- how many of the first n numbers are their own parents
abbrev pub own_parents : List ℕ → ℕ → ℕ
own_parents ps zero = 0
own_parents ps (suc n) = own_parents ps n + (if nat_eq (slice_index ps n) n then 1 else 0)

-- x's and y's classes become one
pub record Joins (old new : List ℕ) (x y : ℕ) : Type 0 where
  pub roots : (f : ℕ) → root new f ≡ merged (root old x) (root old y) (root old f)
  pub parents : AreParents new
  pub count : length new ≡ length old

-- the classes of two functions become one, where a class has positions among the functions of a set
pub record JoinsEnds (fs : List ℕ) (caller callee : ℕ) (old new : List ℕ) : Type 0 where
  pub from : ℕ
  pub to : ℕ
  pub from_in : from < length fs
  pub to_in : to < length fs
  pub from_is : slice_index fs from ≡ caller
  pub to_is : slice_index fs to ≡ callee
  pub joins : Joins old new from to

-- classes of positions among the functions of a set: the root is where the lowest function stands with which these sites join
abbrev pub AreClassesBy : SiteGraph → Labels → List ℕ → List ℕ → List ℕ → Type 0
AreClassesBy g p fs ss ps = (i : ℕ) → i < length fs → slice_index fs (root ps i) ≡ lowest_by g p fs ss (slice_index fs i)

-- parents of all positions of a set, whose classes are the components
pub record AreComponentsOf (g : SiteGraph) (p : Labels) (fs : List ℕ) (ps : List ℕ) : Type 0 where
  pub parents : AreParents ps
  pub room : length fs ≤ length ps
  pub classes : AreClassesBy g p fs g.sites ps

-- each position below a number is its own class
pub record AreApart (n : ℕ) (ps : List ℕ) : Type 0 where
  pub parents : AreParents ps
  pub room : n ≤ length ps
  pub own : (k : ℕ) → k < n → slice_index ps k ≡ k

-- the labels with one site kept, if there is one
abbrev pub kept_but : Labels → Option SiteId → Labels
kept_but p None = p
kept_but p (Some s) = with_label p s.0 Keep

-- the lowest functions of classes among the first n functions of a set
abbrev pub roots_of : SiteGraph → Labels → List ℕ → ℕ → List ℕ
roots_of g p fs n = filter (λ f. nat_eq (lowest g p fs f) f) (take n fs)
