-- What reading one line gives.
use Rattle.std.specs.Prelude.{◌≡◌, ◌≢◌, ◌≤◌, true, ℕ, List, [], ◌∷◌, ◌++◌, length, Option, Some, None, Result, Ok, Err}
use Rattle.inline_certificate.specs.declared.nodes.CertNode.{CertNode}
use Rattle.inline_certificate.specs.declared.nodes.CertNode.TheVariants.{Leaf, Branch, Split, Cut}
use Rattle.inline_certificate.specs.declared.faults.CertFault.{CertFault}
use Rattle.inline_certificate.specs.declared.faults.CertFault.TheVariants.{NoMemory}
use Rattle.inline_certificate.specs.declared.forms.Form.{Form}
use Rattle.inline_certificate.specs.declared.places.Place.{Place}
use Rattle.decisions.specs.Reading.{lines_of}
use Rattle.inline_certificate.specs.Trees.{is_within, IsTreeIn}
use Rattle.inline_certificate.specs.Places.{root, below, fits}
use Rattle.inline_certificate.specs.Text.{node_line, nodes_text}
use Rattle.inline_certificate.specs.Certificates.{IsNode, AreNodes}
use Rattle.inline_certificate.specs.Reading.{tree_fault}

abbrev pub ListsTwo : CertNode → Type 0
ListsTwo (Leaf v) = Unit {0}
ListsTwo (Branch s) = Unit {0}
ListsTwo (Split fs) = 2 ≤ length fs
ListsTwo (Cut v) = Unit {0}

-- the line is the one of the node
pub record IsLineOf (line : List ℕ) (n : CertNode) : Type 0 where
  pub is : line ≡ node_line n
  pub words : IsNode n
  pub two : ListsTwo n

-- the node whose line this is, or none where it is no node's
abbrev pub ReadsAs : List ℕ → Option CertNode → Type 0
ReadsAs line (Some n) = IsLineOf line n
ReadsAs line None = (n : CertNode) → IsLineOf line n → ⊥

-- the number, value, or other thing whose word this is, or none where it is no such word
pub record IsWordOf {A : Type 0} (word_of : A → List ℕ) (Fits : A → Type 0) (word : List ℕ) (a : A) : Type 0 where
  pub is : word ≡ word_of a
  pub fits : Fits a

abbrev pub Spells : {A : Type 0} → (A → List ℕ) → (A → Type 0) → List ℕ → Option A → Type 0
Spells word_of Fits word (Some a) = IsWordOf word_of Fits word a
Spells {A} word_of Fits word None = (a : A) → IsWordOf word_of Fits word a → ⊥

-- the line is that of a node at the next place
pub record Goes (f : Form) (line : List ℕ) (old new : List Place) (nodes more : List CertNode) : Type 0 where
  pub node : CertNode
  pub place : Place
  pub rest : List Place
  pub line_of : IsLineOf line node
  pub was : old ≡ place ∷ rest
  pub fit : fits f place node ≡ true
  pub within : is_within f.deepest place.depth ≡ true
  pub now : new ≡ below place.depth node ++ rest
  pub told : more ≡ nodes ++ node ∷ []

-- line n is read while the old places are open
abbrev pub Takes : Form → ℕ → List ℕ → List Place → List Place → List CertNode → List CertNode → Result Unit CertFault → Type 0
Takes f n line old new nodes more (Ok u) = Goes f line old new nodes more
Takes f n line old new nodes more (Err e) = e ≢ NoMemory → (lines : List (List ℕ)) → tree_fault f n old (line ∷ lines) ≡ Some e

-- the bytes are the lines of a tree, from line n on
pub record StatesTree (f : Form) (n : ℕ) (bytes : List ℕ) (nodes : List CertNode) : Type 0 where
  pub tree : IsTreeIn f nodes
  pub text : bytes ≡ nodes_text nodes
  pub words : AreNodes nodes
  pub sound : tree_fault f n root (lines_of bytes) ≡ None

abbrev pub TreeReads : Form → ℕ → List ℕ → Result (List CertNode) CertFault → Type 0
TreeReads f n bytes (Ok nodes) = StatesTree f n bytes nodes
TreeReads f n bytes (Err e) = e ≢ NoMemory → tree_fault f n root (lines_of bytes) ≡ Some e
