-- What lines state, and the first fault of a text that is no certificate's.
use Rattle.std.specs.Prelude.{ℕ, ◌+◌, ◌*◌, Bool, true, ◌&&◌, nat_lt, List, [], ◌∷◌, ◌++◌, length, map, flat_map, find, bytes_eq, if◌then◌else◌, is_none, Option, Some, None}
use Rattle.std.specs.Char.{digit_value}
use Rattle.oi_base.specs.declared.ids.SiteId.{SiteId}
use Rattle.oi_base.specs.declared.ids.FuncId.{FuncId}
use Rattle.decisions.specs.declared.faults.DecisionFault.{DecisionFault}
use Rattle.decisions.specs.declared.faults.DecisionFault.TheVariants as map_faults
use Rattle.decisions.specs.Text.{site_numbers}
use Rattle.decisions.specs.Reading as decisions
use Rattle.inline_certificate.specs.declared.nodes.CertNode.{CertNode}
use Rattle.inline_certificate.specs.declared.nodes.CertNode.TheVariants.{Leaf, Branch, Split, Cut}
use Rattle.inline_certificate.specs.declared.faults.CertFault.{CertFault}
use Rattle.inline_certificate.specs.declared.faults.CertFault.TheVariants.{BadLine, Depth, Map, NoMemory}
use Rattle.inline_certificate.specs.declared.forms.Form.{Form}
use Rattle.inline_certificate.specs.declared.places.Place.{Place}
use Rattle.inline_certificate.specs.Trees.{is_within, form_of}
use Rattle.inline_certificate.specs.Places.{root, below, fits}
use Rattle.inline_certificate.specs.Text.{node_line, version_line, text_line, tree_line}

-- ---- one line

-- the numbers that the runs of digits in a line write, after a run that is not over and its number
abbrev pub numbers_from : Option ℕ → List ℕ → List ℕ
numbers_from None [] = []
numbers_from (Some n) [] = n ∷ []
numbers_from None (b ∷ bs) = if nat_lt (digit_value b) 10 then numbers_from (Some (0 * 10 + digit_value b)) bs else numbers_from None bs
numbers_from (Some n) (b ∷ bs) = if nat_lt (digit_value b) 10 then numbers_from (Some (n * 10 + digit_value b)) bs else (n ∷ numbers_from None bs)

abbrev pub numbers_in : List ℕ → List ℕ
numbers_in line = numbers_from None line

abbrev pub site_numbered : ℕ → SiteId
site_numbered n = record { 0 = n }

abbrev pub func_numbered : ℕ → FuncId
func_numbered n = record { 0 = n }

-- the nodes whose lines have these numbers
abbrev pub nodes_with : List ℕ → List CertNode
nodes_with [] = Leaf None ∷ Cut None ∷ []
nodes_with (n ∷ []) = Leaf (Some n) ∷ Cut (Some n) ∷ Branch (site_numbered n) ∷ []
nodes_with (n ∷ m ∷ ns) = Split (func_numbered n ∷ func_numbered m ∷ map func_numbered ns) ∷ []

abbrev pub is_word : ℕ → Bool
is_word n = nat_lt n site_numbers

abbrev pub are_funcs : List FuncId → Bool
are_funcs [] = true
are_funcs (f ∷ fs) = is_word f.0 && are_funcs fs

abbrev pub is_value : Option ℕ → Bool
is_value None = true
is_value (Some n) = is_word n

-- each number of a node has 32 bits
abbrev pub is_node : CertNode → Bool
is_node (Leaf v) = is_value v
is_node (Branch s) = is_word s.0
is_node (Split fs) = are_funcs fs
is_node (Cut v) = is_value v

-- the node whose line this is
unfoldable pub node_of : List ℕ → Option CertNode
node_of line = find (λ n. is_node n && bytes_eq line (node_line n)) (nodes_with (numbers_in line))

-- the version and the number of bytes of text that a line states
abbrev pub version_of : List ℕ → Option ℕ
version_of line = find (λ v. bytes_eq line (version_line v)) (1 ∷ 2 ∷ [])

unfoldable pub stated_text : List ℕ → Option ℕ
stated_text line = find (λ n. is_word n && bytes_eq line (text_line n)) (numbers_in line)

-- ---- the tree's lines

-- what is wrong with line n, which is to be the line of the node at this place
abbrev pub node_fault : Form → ℕ → Place → Option CertNode → Option CertFault
node_fault f n p None = Some (BadLine n)
node_fault f n p (Some node) = if fits f p node then (if is_within f.deepest p.depth then None else Some (Depth n)) else Some (BadLine n)

-- the places of its node's children
abbrev pub below_line : Place → Option CertNode → List Place
below_line p None = []
below_line p (Some node) = below p.depth node

-- the first fault of lines from line n on, while these places are open; no line may follow when none is
unfoldable pub tree_fault : Form → ℕ → List Place → List (List ℕ) → Option CertFault
tree_fault f n [] [] = None
tree_fault f n [] (line ∷ lines) = Some (BadLine n)
tree_fault f n (p ∷ places) [] = Some (BadLine n)
tree_fault f n (p ∷ places) (line ∷ lines) = decisions.first_of (node_fault f n p (node_of line)) (tree_fault f (n + 1) (below_line p (node_of line) ++ places) lines)

-- ---- the map's lines

-- the lines before the first line `tree`, and those after it
abbrev pub before_tree : List (List ℕ) → List (List ℕ)
before_tree [] = []
before_tree (line ∷ lines) = if bytes_eq line tree_line then [] else (line ∷ before_tree lines)

abbrev pub after_tree : List (List ℕ) → Option (List (List ℕ))
after_tree [] = None
after_tree (line ∷ lines) = if bytes_eq line tree_line then Some lines else after_tree lines

abbrev pub joined : List (List ℕ) → List ℕ
joined lines = flat_map (λ line. line) lines

-- the map's first fault as one of the certificate, where the map's lines begin at line 3 and end before line n. At line n there is no
-- line `tree` where the text ends, and then no site is missing yet.
abbrev pub map_fault : ℕ → Bool → Option DecisionFault → Option CertFault
map_fault n ends None = if ends then Some (BadLine n) else None
map_fault n ends (Some (map_faults.Missing s)) = if ends then Some (BadLine n) else Some (Map (map_faults.Missing s))
map_fault n ends (Some (map_faults.BadLine k)) = Some (BadLine (k + 2))
map_fault n ends (Some (map_faults.NotCandidate k s)) = Some (Map (map_faults.NotCandidate (k + 2) s))
map_fault n ends (Some (map_faults.Twice k s)) = Some (Map (map_faults.Twice (k + 2) s))
map_fault n ends (Some map_faults.NoMemory) = Some NoMemory

-- ---- the whole text

abbrev pub tree_part_fault : Form → ℕ → Option (List (List ℕ)) → Option CertFault
tree_part_fault f n None = None
tree_part_fault f n (Some lines) = tree_fault f n root lines

-- of the lines from line 3 on
abbrev pub body_fault : List SiteId → ℕ → List (List ℕ) → Option CertFault
body_fault candidates version lines =
    decisions.first_of
    (map_fault (length (before_tree lines) + 3) (is_none (after_tree lines)) (decisions.first_fault candidates (joined (before_tree lines))))
    (tree_part_fault (form_of version) (length (before_tree lines) + 4) (after_tree lines))

abbrev pub fault_after_text : List SiteId → ℕ → Option ℕ → List (List ℕ) → Option CertFault
fault_after_text candidates version None lines = Some (BadLine 2)
fault_after_text candidates version (Some text) lines = body_fault candidates version lines

abbrev pub fault_after_version : List SiteId → Option ℕ → List (List ℕ) → Option CertFault
fault_after_version candidates None lines = Some (BadLine 1)
fault_after_version candidates (Some version) [] = Some (BadLine 2)
fault_after_version candidates (Some version) (line ∷ lines) = fault_after_text candidates version (stated_text line) lines

abbrev pub fault_in_lines : List SiteId → List (List ℕ) → Option CertFault
fault_in_lines candidates [] = Some (BadLine 1)
fault_in_lines candidates (line ∷ lines) = fault_after_version candidates (version_of line) lines

-- the first fault of a text over these candidates, in the order of its lines: form, and of a node its depth
abbrev pub first_fault : List SiteId → List ℕ → Option CertFault
first_fault candidates bytes = fault_in_lines candidates (decisions.lines_of bytes)
