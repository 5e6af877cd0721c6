-- A tree as data of lists and numbers, by which it is told from others.
use Rattle.std.specs.Prelude.{◌≡◌, refl, ℕ, List, [], ◌∷◌, Option, Some, None}
use Rattle.std.specs.Coded.{Coded, code_by, coded×, coded_ℕ, coded_list, coded_option}
use Rattle.std.proofs.Common.{ap, ◌∙◌}
use Rattle.shapes.specs.Tree.{Tree, node, Callees, none, more}

-- of each node its site, function and weight, after its later neighbours and its own callees
abbrev pub tokens : Callees → List (Option (ℕ × (ℕ × ℕ))) → List (Option (ℕ × (ℕ × ℕ)))
tokens none after = None ∷ after
tokens (more s (node f w ks) rest) after = tokens rest (tokens ks (Some (s.0, (f.0, w)) ∷ after))

abbrev pub joined : ℕ → ℕ → ℕ → List Callees → List Callees
joined s f w [] = []
joined s f w (ks ∷ []) = []
joined s f w (ks ∷ rest ∷ stack) = more (record { 0 = s }) (node (record { 0 = f }) w ks) rest ∷ stack

abbrev pub read : List (Option (ℕ × (ℕ × ℕ))) → List Callees → List Callees
read [] stack = stack
read (None ∷ ts) stack = read ts (none ∷ stack)
read (Some t ∷ ts) stack = read ts (joined t.0 t.1.0 t.1.1 stack)

abbrev pub top : List Callees → Callees
top [] = none
top (ks ∷ stack) = ks

read_tokens : (ks : Callees) (after : List (Option (ℕ × (ℕ × ℕ)))) (stack : List Callees) → read (tokens ks after) stack ≡ read after (ks ∷ stack)
read_tokens none after stack = refl
read_tokens (more s (node f w ks) rest) after stack = read_tokens rest (tokens ks (Some (s.0, (f.0, w)) ∷ after)) stack ∙ read_tokens ks (Some (s.0, (f.0, w)) ∷ after) (rest ∷ stack)

abbrev pub to_data : Tree → ℕ × (ℕ × List (Option (ℕ × (ℕ × ℕ))))
to_data (node f w ks) = (f.0, (w, tokens ks []))

abbrev pub from_data : ℕ × (ℕ × List (Option (ℕ × (ℕ × ℕ)))) → Tree
from_data d = node (record { 0 = d.0 }) d.1.0 (top (read d.1.1 []))

pub back : (t : Tree) → from_data (to_data t) ≡ t
back (node f w ks) = ap (λ (stack : List Callees). node f w (top stack)) (read_tokens ks [] [])

abbrev pub tree_code : Coded Tree
tree_code = code_by (ℕ × (ℕ × List (Option (ℕ × (ℕ × ℕ))))) (coded× coded_ℕ (coded× coded_ℕ (coded_list (coded_option (coded× coded_ℕ (coded× coded_ℕ coded_ℕ)))))) to_data from_data back
