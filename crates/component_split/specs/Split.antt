-- Components and bridges.
use Rattle.std.specs.Prelude.{ℕ, min, Bool, true, false, ◌&&◌, ◌||◌, nat_eq, nat_lt, List, [], ◌∷◌, length, map, ◌≡◌, if◌then◌else◌}
use Rattle.std.specs.List.{filter}
use Rattle.decisions.specs.declared.maps.Label.TheVariants.{Keep}
use Rattle.component_split.specs.Graph.{SiteGraph, Labels, with_label, is_open, joins, has, inside}

-- two classes become one, that of the lower function
abbrev pub merged : ℕ → ℕ → ℕ → ℕ
merged a b x = if nat_eq x a || nat_eq x b then min a b else x

abbrev pub joined_at : Bool → ℕ → ℕ → ℕ → ℕ
joined_at true a b x = merged a b x
joined_at false a b x = x

-- whether a site joins two functions of the set
abbrev pub joins_inside : SiteGraph → Labels → List ℕ → ℕ → Bool
joins_inside g p fs s = inside g fs s && joins (p s)

-- the lowest function with which these sites join a function
unfoldable pub lowest_by : SiteGraph → Labels → List ℕ → List ℕ → ℕ → ℕ
lowest_by g p fs [] f = f
lowest_by g p fs (s ∷ ss) f = joined_at (joins_inside g p fs s) (lowest_by g p fs ss (g.caller s)) (lowest_by g p fs ss (g.callee s)) (lowest_by g p fs ss f)

abbrev pub lowest : SiteGraph → Labels → List ℕ → ℕ → ℕ
lowest g p fs f = lowest_by g p fs g.sites f

-- the functions whose lowest is r
abbrev pub component : SiteGraph → Labels → List ℕ → ℕ → List ℕ
component g p fs r = filter (λ f. nat_eq (lowest g p fs f) r) fs

-- the lowest function of each component
abbrev pub roots : SiteGraph → Labels → List ℕ → List ℕ
roots g p fs = filter (λ f. nat_eq (lowest g p fs f) f) fs

-- the components of a set of functions, by lowest function
unfoldable pub components : SiteGraph → Labels → List ℕ → List (List ℕ)
components g p fs = map (component g p fs) (roots g p fs)

-- the undecided sites inside a set
unfoldable pub open_sites : SiteGraph → Labels → List ℕ → List ℕ
open_sites g p fs = filter (λ s. inside g fs s && is_open (p s)) g.sites

-- whether the set has several components where the site is kept, and so joins nothing
abbrev pub is_bridge : SiteGraph → Labels → List ℕ → ℕ → Bool
is_bridge g p fs s = nat_lt 1 (length (components g (with_label p s Keep) fs))

-- a chain of sites inside the set, none of them kept, joins two functions, whichever way each site leads
pub data Joined (g : SiteGraph) (p : Labels) (fs : List ℕ) : ℕ → ℕ → Type 0 where
  here : {f : ℕ} → Joined g p fs f f
  forth : {f : ℕ} → (s : ℕ) → has g.sites s ≡ true → joins_inside g p fs s ≡ true → Joined g p fs f (g.caller s) → Joined g p fs f (g.callee s)
  back : {f : ℕ} → (s : ℕ) → has g.sites s ≡ true → joins_inside g p fs s ≡ true → Joined g p fs f (g.callee s) → Joined g p fs f (g.caller s)

-- the set has one component
abbrev pub IsConnected : SiteGraph → Labels → List ℕ → Type 0
IsConnected g p fs = (a b : ℕ) → has fs a ≡ true → has fs b ≡ true → Joined g p fs a b
