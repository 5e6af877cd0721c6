-- What reading the parts of a text gives.
use Rattle.std.specs.Prelude.{◌≡◌, ◌≢◌, ◌<◌, ◌≤◌, ℕ, ◌+◌, Bool, true, false, List, ◌++◌, length, take, drop, Some, None, Result, Ok, Err}
use Rattle.oi_base.specs.declared.ids.SiteId.{SiteId}
use Rattle.decisions.specs.declared.maps.Label.{Label}
use Rattle.decisions.specs.declared.faults.DecisionFault.{DecisionFault}
use Rattle.decisions.specs.declared.faults.DecisionFault.TheVariants as map_faults
use Rattle.decisions.specs.Maps.{sites_of}
use Rattle.decisions.specs.Reading as decisions
use Rattle.inline_certificate.specs.declared.certificates.Certificate.{Certificate}
use Rattle.inline_certificate.specs.declared.heads.Head.{Head}
use Rattle.inline_certificate.specs.declared.faults.CertFault.{CertFault}
use Rattle.inline_certificate.specs.declared.faults.CertFault.TheVariants.{NoMemory}
use Rattle.inline_certificate.specs.Trees.{IsTreeIn, form_of}
use Rattle.inline_certificate.specs.Text.{version_line, text_line, tree_line, nodes_text}
use Rattle.inline_certificate.specs.Certificates.{IsWord, IsVersion, AreNodes}
use Rattle.inline_certificate.specs.Reading.{before_tree, after_tree, joined, map_fault, body_fault, first_fault}

-- the first two lines, and what follows them
pub record StatesHead (bytes : List ℕ) (h : Head) : Type 0 where
  pub version : IsVersion h.version
  pub text : IsWord h.text
  pub lines : bytes ≡ version_line h.version ++ (text_line h.text ++ h.rest.now)
  pub fault : (candidates : List SiteId) → first_fault candidates bytes ≡ body_fault candidates h.version (decisions.lines_of h.rest.now)

abbrev pub HeadReads : List ℕ → Result Head CertFault → Type 0
HeadReads bytes (Ok h) = StatesHead bytes h
HeadReads bytes (Err e) = (candidates : List SiteId) → first_fault candidates bytes ≡ Some e

-- what follows the map's lines, which end at a place: nothing, or the line `tree` and the tree's lines
pub record TreeFollows (bytes : List ℕ) (at : ℕ) : Type 0 where
  pub within : at + 5 ≤ length bytes
  pub lines : after_tree (decisions.lines_of bytes) ≡ Some (decisions.lines_of (drop 5 (drop at bytes)))
  pub text : drop at bytes ≡ tree_line ++ drop 5 (drop at bytes)

abbrev pub Follows : List ℕ → ℕ → Bool → Type 0
Follows bytes at true = after_tree (decisions.lines_of bytes) ≡ None
Follows bytes at false = TreeFollows bytes at

-- the map's lines end at a place, of which there are so many
pub record EndsMap (bytes : List ℕ) (at lines : ℕ) (ends : Bool) : Type 0 where
  pub within : at ≤ length bytes
  pub few : lines ≤ at
  pub text : take at bytes ≡ joined (before_tree (decisions.lines_of bytes))
  pub count : lines ≡ length (before_tree (decisions.lines_of bytes))
  pub follows : Follows bytes at ends

-- a line's number has room for two more
abbrev pub HasRoom : DecisionFault → Type 0
HasRoom (map_faults.BadLine k) = k + 2 < 4294967296
HasRoom (map_faults.NotCandidate k s) = k + 2 < 4294967296
HasRoom (map_faults.Twice k s) = k + 2 < 4294967296
HasRoom (map_faults.Missing s) = Unit {0}
HasRoom map_faults.NoMemory = Unit {0}

-- the map that lines state, where n is the line after them
pub record StatesMap (candidates : List SiteId) (map_lines : List ℕ) (n : ℕ) (ends : Bool) (d : List (SiteId × Label)) : Type 0 where
  pub map : decisions.IsTextOf map_lines d
  pub sites : sites_of d ≡ candidates
  pub goes_on : ends ≡ false
  pub sound : map_fault n ends (decisions.first_fault candidates map_lines) ≡ None

abbrev pub MapReads : List SiteId → List ℕ → ℕ → Bool → Result (List (SiteId × Label)) CertFault → Type 0
MapReads candidates map_lines n ends (Ok d) = StatesMap candidates map_lines n ends d
MapReads candidates map_lines n ends (Err e) = e ≢ NoMemory → map_fault n ends (decisions.first_fault candidates map_lines) ≡ Some e

-- the certificate that lines state after the first two
pub record StatesBody (candidates : List SiteId) (version text : ℕ) (rest : List ℕ) (c : Certificate) : Type 0 where
  pub same_version : c.version ≡ version
  pub same_text : c.text ≡ text
  pub map_lines : List ℕ
  pub lines : rest ≡ map_lines ++ (tree_line ++ nodes_text c.tree)
  pub map : decisions.IsTextOf map_lines c.map
  pub sites : sites_of c.map ≡ candidates
  pub tree : IsTreeIn (form_of version) c.tree
  pub words : AreNodes c.tree
  pub sound : body_fault candidates version (decisions.lines_of rest) ≡ None

abbrev pub BodyReads : List SiteId → ℕ → ℕ → List ℕ → Result Certificate CertFault → Type 0
BodyReads candidates version text rest (Ok c) = StatesBody candidates version text rest c
BodyReads candidates version text rest (Err e) = e ≢ NoMemory → body_fault candidates version (decisions.lines_of rest) ≡ Some e
