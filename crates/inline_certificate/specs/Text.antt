-- The text of a certificate.
use Rattle.std.specs.Prelude.{ℕ, List, [], ◌∷◌, ◌++◌, flat_map, decimal, codes, Option, Some, None}
use Rattle.oi_base.specs.declared.ids.FuncId.{FuncId}
use Rattle.inline_certificate.specs.declared.nodes.CertNode.{CertNode}
use Rattle.inline_certificate.specs.declared.nodes.CertNode.TheVariants.{Leaf, Branch, Split, Cut}

-- a value: a number in decimal, or `none`
abbrev pub value_word : Option ℕ → List ℕ
value_word None = codes "none"
value_word (Some n) = decimal n

-- a blank and a number
abbrev pub func_word : FuncId → List ℕ
func_word f = 32 ∷ decimal f.0

-- the line of a node
unfoldable pub node_line : CertNode → List ℕ
node_line (Leaf v) = codes "L " ++ (value_word v ++ 10 ∷ [])
node_line (Branch s) = codes "B " ++ (decimal s.0 ++ 10 ∷ [])
node_line (Split fs) = 83 ∷ (flat_map func_word fs ++ 10 ∷ [])
node_line (Cut v) = codes "C " ++ (value_word v ++ 10 ∷ [])

abbrev pub nodes_text : List CertNode → List ℕ
nodes_text nodes = flat_map node_line nodes

abbrev pub version_line : ℕ → List ℕ
version_line version = codes "certificate " ++ (decimal version ++ 10 ∷ [])

abbrev pub text_line : ℕ → List ℕ
text_line text = codes "text " ++ (decimal text ++ 10 ∷ [])

abbrev pub tree_line : List ℕ
tree_line = codes "tree\n"

-- the lines of the version and the text, the map's lines, the line `tree`, and the nodes' lines
abbrev pub text_with : ℕ → ℕ → List ℕ → List CertNode → List ℕ
text_with version text map_lines nodes = version_line version ++ (text_line text ++ (map_lines ++ (tree_line ++ nodes_text nodes)))
