-- The places of a tree at which nodes are still to come, while its nodes are told in preorder.
use Rattle.std.specs.Prelude.{◌<◌, ◌≤◌, ℕ, ◌+◌, Bool, true, false, ◌&&◌, nat_le, List, [], ◌∷◌, ◌++◌, length, replicate, if◌then◌else◌, Option, Some, None}
use Rattle.inline_certificate.specs.declared.nodes.CertNode.{CertNode}
use Rattle.inline_certificate.specs.declared.nodes.CertNode.TheVariants.{Leaf, Branch, Split, Cut}
use Rattle.inline_certificate.specs.declared.forms.Form.{Form}
use Rattle.inline_certificate.specs.declared.places.Place.{Place}
use Rattle.inline_certificate.specs.declared.places.Run.{Run}
use Rattle.inline_certificate.specs.Trees.{is_within}

abbrev pub place_at : ℕ → Bool → Place
place_at depth second = record { depth = depth; second = second }

-- before any node there is one place, the root's
abbrev pub root : List Place
root = place_at 1 false ∷ []

-- the places of a node's children
abbrev pub below : ℕ → CertNode → List Place
below depth (Leaf v) = []
below depth (Branch s) = place_at (depth + 1) false ∷ place_at (depth + 1) true ∷ []
below depth (Split fs) = replicate (length fs) (place_at (depth + 1) false)
below depth (Cut bound) = []

-- the node may stand at the place, but for its depth
abbrev pub fits : Form → Place → CertNode → Bool
fits f p (Leaf v) = true
fits f p (Branch s) = true
fits f p (Split fs) = nat_le 2 (length fs)
fits f p (Cut bound) = p.second && f.has_cuts

-- the places that are open after these nodes, the next one first, or none where a node has no place
unfoldable pub after : Form → List Place → List CertNode → Option (List Place)
after f places [] = Some places
after f [] (n ∷ ns) = None
after f (p ∷ places) (n ∷ ns) = if fits f p n && is_within f.deepest p.depth then after f (below p.depth n ++ places) ns else None

-- the places of runs of equal ones, of which the last comes first
abbrev pub places_of : List Run → List Place
places_of [] = []
places_of (r ∷ rs) = places_of rs ++ replicate r.count r.place

-- no run is empty
abbrev pub AreOpen : List Run → Type 0
AreOpen [] = Unit {0}
AreOpen (r ∷ rs) = (0 < r.count) × AreOpen rs

-- no place is deeper than this
abbrev pub AreAtMost : ℕ → List Place → Type 0
AreAtMost n [] = Unit {0}
AreAtMost n (p ∷ places) = (p.depth ≤ n) × AreAtMost n places
