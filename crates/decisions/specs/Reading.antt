-- What a text states, and the first fault of a text that is no map's.
use Rattle.std.specs.Prelude.{◌≡◌, ℕ, ◌+◌, ◌<◌, Bool, true, false, not, ◌&&◌, ◌||◌, List, [], ◌∷◌, ◌++◌, if◌then◌else◌, ◌==◌, nat_lt, bytes_eq, take_while, find, is_some, is_none, Option, Some, None, option_map, option_to_list}
use Rattle.std.specs.List.{onto_first}
use Rattle.std.specs.Str.Parse.{digits_value}
use Rattle.oi_base.specs.declared.ids.SiteId.{SiteId}
use Rattle.decisions.specs.declared.maps.Label.{Label}
use Rattle.decisions.specs.declared.maps.Label.TheVariants.{Keep, Inline}
use Rattle.decisions.specs.declared.faults.DecisionFault.{DecisionFault}
use Rattle.decisions.specs.declared.faults.DecisionFault.TheVariants.{BadLine, NotCandidate, Twice, Missing}
use Rattle.decisions.specs.Maps.{label_of}
use Rattle.decisions.specs.Text.{line_of, text_of, site_numbers}

-- the lines of a text, each with the line feed that ends it; the last may lack it
abbrev pub lines_of : List ℕ → List (List ℕ)
lines_of [] = []
lines_of (b ∷ bs) = if b == 10 then (b ∷ []) ∷ lines_of bs else onto_first b (lines_of bs)

-- the site whose number stands before the first space
abbrev pub site_before_space : List ℕ → SiteId
site_before_space line = record { 0 = digits_value 10 (take_while (λ b. not (b == 32)) line) }

-- the line is the one of this site and label, and the number has 32 bits
abbrev pub is_line_of : List ℕ → SiteId × Label → Bool
is_line_of line e = nat_lt e.0.0 site_numbers && bytes_eq line (line_of e)

-- the site and label whose line this is
unfoldable pub entry_of : List ℕ → Option (SiteId × Label)
entry_of line =
    let s = site_before_space line in
    if is_line_of line (s, Keep) then Some (s, Keep) else if is_line_of line (s, Inline) then Some (s, Inline) else None

abbrev pub is_among : List SiteId → SiteId → Bool
is_among [] s = false
is_among (x ∷ xs) s = (x.0 == s.0) || is_among xs s

-- what is wrong with line n, after lines that state these labels
abbrev pub line_fault : List SiteId → List (SiteId × Label) → ℕ → Option (SiteId × Label) → Option DecisionFault
line_fault candidates earlier n None = Some (BadLine n)
line_fault candidates earlier n (Some e) =
    if is_among candidates e.0 then (if is_some (label_of earlier e.0) then Some (Twice n e.0) else None) else Some (NotCandidate n e.0)

-- the first candidate that no line states
abbrev pub missing : List SiteId → List (SiteId × Label) → Option DecisionFault
missing candidates stated = option_map (λ s. Missing s) (find (λ s. is_none (label_of stated s)) candidates)

abbrev pub first_of : {A : Type 0} → Option A → Option A → Option A
first_of None o = o
first_of (Some x) o = Some x

-- the first fault of lines from line n on, after lines that state these labels
unfoldable pub fault_from : List SiteId → List (SiteId × Label) → ℕ → List (List ℕ) → Option DecisionFault
fault_from candidates earlier n [] = missing candidates earlier
fault_from candidates earlier n (line ∷ lines) =
    first_of (line_fault candidates earlier n (entry_of line)) (fault_from candidates (earlier ++ option_to_list (entry_of line)) (n + 1) lines)

-- the first fault of a text over these candidates
abbrev pub first_fault : List SiteId → List ℕ → Option DecisionFault
first_fault candidates bytes = fault_from candidates [] 1 (lines_of bytes)

-- each site's number has 32 bits
abbrev pub HaveWords : List SiteId → Type 0
HaveWords sites = (s : SiteId) → is_among sites s ≡ true → s.0 < site_numbers

-- no site comes twice
abbrev pub HasNoRepeats : List (SiteId × Label) → Type 0
HasNoRepeats [] = Unit {0}
HasNoRepeats (e ∷ rest) = (label_of rest e.0 ≡ None) × HasNoRepeats rest

-- the bytes are the map's lines in some order: lines that state no site twice, and each site's label as the map has it
pub record IsTextOf (bytes : List ℕ) (d : List (SiteId × Label)) : Type 0 where
  pub lines : List (SiteId × Label)
  pub text : bytes ≡ text_of lines
  pub once : HasNoRepeats lines
  pub same : (s : SiteId) → label_of lines s ≡ label_of d s
