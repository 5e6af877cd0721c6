-- The site on which the search branches.
use Rattle.std.specs.Prelude.{◌≡◌, ℕ, ◌+◌, Bool, true, ◌||◌, nat_eq, nat_lt, List, [], ◌∷◌, if◌then◌else◌, length, slice_index, Option, Some, None}
use Rattle.std.specs.List.{filter}
use Rattle.oi_base.specs.declared.ids.SiteId.{SiteId}
use Rattle.component_split.specs.Graph.{SiteGraph, Labels, has, is_open}
use Rattle.component_split.specs.Split.{open_sites, is_bridge}

-- whether a site has the function as caller or callee
abbrev pub touches : SiteGraph → ℕ → ℕ → Bool
touches g f s = nat_eq (g.caller s) f || nat_eq (g.callee s) f

-- how many of these sites have the function as caller or callee
abbrev pub degree : SiteGraph → List ℕ → ℕ → ℕ
degree g us f = length (filter (touches g f) us)

abbrev pub weight_of : SiteGraph → List ℕ → ℕ → ℕ
weight_of g us s = degree g us (g.caller s) + degree g us (g.callee s)

-- the first site of the greatest weight
abbrev pub heavier : SiteGraph → List ℕ → ℕ → ℕ → ℕ
heavier g us s t = if nat_lt (weight_of g us s) (weight_of g us t) then t else s

abbrev pub heaviest : SiteGraph → List ℕ → ℕ → List ℕ → ℕ
heaviest g us s [] = s
heaviest g us s (t ∷ ts) = heaviest g us (heavier g us s t) ts

abbrev pub first_bridge : SiteGraph → Labels → List ℕ → List ℕ → ℕ → ℕ
first_bridge g p fs [] other = other
first_bridge g p fs (s ∷ ss) other = if is_bridge g p fs s then s else first_bridge g p fs ss other

abbrev pub chosen_of : SiteGraph → Labels → List ℕ → List ℕ → ℕ
chosen_of g p fs [] = 0
chosen_of g p fs (s ∷ ss) = first_bridge g p fs (s ∷ ss) (heaviest g (s ∷ ss) s ss)

-- the lowest undecided site inside the set whose removal disconnects it; where there is none, the first one with the
-- greatest sum of its functions' degrees, which count undecided sites
unfoldable pub chosen : SiteGraph → Labels → List ℕ → ℕ
chosen g p fs = chosen_of g p fs (open_sites g p fs)

-- the heaviest of a site so far, if there is one, and those that come next
abbrev pub heaviest_from : SiteGraph → List ℕ → Option ℕ → List ℕ → ℕ
heaviest_from g us None [] = 0
heaviest_from g us None (s ∷ ss) = heaviest g us s ss
heaviest_from g us (Some b) ss = heaviest g us b ss

-- the number of a site, or else another one
abbrev pub number_or : Option SiteId → ℕ → ℕ
number_or None other = other
number_or (Some s) other = s.0

-- the heavier of a site so far, if there is one, and the next, by degrees
abbrev pub heavier_of : (ℕ → ℕ) → SiteGraph → Option SiteId → ℕ → ℕ
heavier_of d g None s = s
heavier_of d g (Some b) s = if nat_lt (d (g.caller b.0) + d (g.callee b.0)) (d (g.caller s) + d (g.callee s)) then s else b.0

abbrev pub site_number : Option SiteId → Option ℕ
site_number None = None
site_number (Some s) = Some s.0

-- the undecided ones of these sites
abbrev pub open_of : Labels → List ℕ → List ℕ
open_of p ss = filter (λ s. is_open (p s)) ss

-- each function of the set has its degree among these sites
abbrev pub AreDegrees : SiteGraph → List ℕ → List ℕ → List ℕ → Type 0
AreDegrees g fs us ds = (f : ℕ) → has fs f ≡ true → slice_index ds f ≡ degree g us f
