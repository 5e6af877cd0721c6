-- What reading one line does to the map so far.
use Rattle.std.specs.Prelude.{◌≡◌, ℕ, List, [], ◌∷◌, Option, Some, None, Result, Ok, Err}
use Rattle.oi_base.specs.declared.ids.SiteId.{SiteId}
use Rattle.decisions.specs.declared.maps.Label.{Label}
use Rattle.decisions.specs.declared.faults.DecisionFault.{DecisionFault}
use Rattle.decisions.specs.declared.faults.DecisionFault.TheVariants.{BadLine, NotCandidate, Twice, Missing, NoMemory}
use Rattle.decisions.specs.Maps.{label_of, SetsOnly}
use Rattle.decisions.specs.Reading.{entry_of}

-- the line gives an undecided site its label
pub record Gives (line : List ℕ) (old new : List (SiteId × Option Label)) : Type 0 where
  pub site : SiteId
  pub label : Label
  pub stated : entry_of line ≡ Some (site, label)
  pub was : label_of old site ≡ Some None
  pub sets : SetsOnly old new site (Some label)

-- the line states the site, which has this in the map
pub record States (line : List ℕ) (old : List (SiteId × Option Label)) (site : SiteId) (was : Option (Option Label)) : Type 0 where
  pub label : Label
  pub stated : entry_of line ≡ Some (site, label)
  pub has : label_of old site ≡ was

abbrev pub Takes : List ℕ → ℕ → List (SiteId × Option Label) → List (SiteId × Option Label) → Result Unit DecisionFault → Type 0
Takes line n old new (Ok x) = Gives line old new
Takes line n old new (Err (BadLine m)) = (m ≡ n) × (entry_of line ≡ None)
Takes line n old new (Err (NotCandidate m s)) = (m ≡ n) × States line old s None
Takes line n old new (Err (Twice m s)) = (m ≡ n) × (l : Label) × States line old s (Some (Some l))
Takes line n old new (Err (Missing s)) = ⊥
Takes line n old new (Err NoMemory) = Unit {0}

abbrev pub undecided_or : SiteId → Option Label → Option SiteId → Option SiteId
undecided_or s None o = Some s
undecided_or s (Some l) o = o

-- the first site without a label
abbrev pub first_undecided : List (SiteId × Option Label) → Option SiteId
first_undecided [] = None
first_undecided (e ∷ rest) = undecided_or e.0 e.1 (first_undecided rest)
