-- Maps from call sites to labels, as lists of pairs of a site and its label.
use Rattle.std.specs.Prelude.{◌≡◌, ◌≢◌, ℕ, ◌<◌, List, [], ◌∷◌, length, map, slice_index_or, if◌then◌else◌, ◌==◌, Option, Some, None}
use Rattle.oi_base.specs.declared.ids.SiteId.{SiteId}
use Rattle.oi_base.specs.Ascending.{IsAscending}

-- the label of a site: that of the first pair with the site
abbrev pub label_of : {L : Type 0} → List (SiteId × L) → SiteId → Option L
label_of [] s = None
label_of (e ∷ rest) s = if e.0.0 == s.0 then Some e.1 else label_of rest s

abbrev pub sites_of : {L : Type 0} → List (SiteId × L) → List SiteId
sites_of m = map (λ e. e.0) m

abbrev pub labels_of : {L : Type 0} → List (SiteId × L) → List L
labels_of m = map (λ e. e.1) m

-- no site has a label yet
abbrev pub undecided : {L : Type 0} → List SiteId → List (SiteId × Option L)
undecided sites = map (λ s. (s, None)) sites

-- the partial map in which each site has the label that a whole map gives it
abbrev pub decided : {L : Type 0} → List (SiteId × L) → List (SiteId × Option L)
decided m = map (λ e. (e.0, Some e.1)) m

-- the site stands at this place, and at none before it
pub record IsAt (sites : List SiteId) (s : SiteId) (at : ℕ) : Type 0 where
  pub in_range : at < length sites
  pub here : (d : SiteId) → let x = slice_index_or sites at d in x.0 ≡ s.0
  pub first : (j : ℕ) (d : SiteId) → j < at → let x = slice_index_or sites j d in x.0 ≢ s.0

-- the site stands at no place
abbrev pub IsAbsent : List SiteId → SiteId → Type 0
IsAbsent sites s = (j : ℕ) (d : SiteId) → j < length sites → let x = slice_index_or sites j d in x.0 ≢ s.0

-- one site has a new label, and every other what it had
pub record SetsOnly {L : Type 0} (old new : List (SiteId × L)) (s : SiteId) (label : L) : Type 0 where
  pub same_sites : sites_of new ≡ sites_of old
  pub this_site : label_of new s ≡ Some label
  pub other_sites : (other : SiteId) → other ≢ s → label_of new other ≡ label_of old other

-- ascending sites, and a label for each
pub record IsLabelled {L : Type 0} (sites : List SiteId) (labels : List L) : Type 0 where
  pub ascending : IsAscending sites
  pub one_each : length labels ≡ length sites
