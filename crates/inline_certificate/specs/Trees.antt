-- The trees of certificates, and their nodes in preorder.
use Rattle.std.specs.Prelude.{◌≡◌, ◌≤◌, ℕ, suc, ◌+◌, Bool, true, false, ◌==◌, nat_le, if◌then◌else◌, List, [], ◌∷◌, ◌++◌, length, Option, Some, None}
use Rattle.oi_base.specs.declared.ids.SiteId.{SiteId}
use Rattle.oi_base.specs.declared.ids.FuncId.{FuncId}
use Rattle.inline_certificate.specs.declared.nodes.CertNode.{CertNode}
use Rattle.inline_certificate.specs.declared.nodes.CertNode.TheVariants.{Leaf, Branch, Split, Cut}
use Rattle.inline_certificate.specs.declared.forms.Form.{Form}
use Rattle.inline_certificate.specs.declared.forms.TheConstants as limits

mutual
  -- a tree; a cut stands as the second child of a branch alone
  pub data Tree : Type 0 where
    leaf : (value : Option ℕ) → Tree
    branch : (site : SiteId) → (keep inline : Tree) → Tree
    cut : (site : SiteId) → (keep : Tree) → (bound : Option ℕ) → Tree
    split : (funcs : List FuncId) → (parts : Parts) → Tree

  pub data Parts : Type 0 where
    done : Parts
    more : (first : Tree) → (rest : Parts) → Parts

abbrev pub count_of : Parts → ℕ
count_of done = 0
count_of (more t ts) = suc (count_of ts)

-- each node before its children, and these in their order
abbrev mutual
  pub preorder : Tree → List CertNode
  preorder (leaf v) = Leaf v ∷ []
  preorder (branch s keep inline) = Branch s ∷ (preorder keep ++ preorder inline)
  preorder (cut s keep bound) = Branch s ∷ (preorder keep ++ Cut bound ∷ [])
  preorder (split fs parts) = Split fs ∷ preorders parts

  pub preorders : Parts → List CertNode
  preorders done = []
  preorders (more t ts) = preorder t ++ preorders ts

-- a node may have this depth
abbrev pub is_within : Option ℕ → ℕ → Bool
is_within None depth = true
is_within (Some most) depth = nat_le depth most

-- A tree whose root has this depth is in a form: none of its nodes is too deep, it has cuts only where the form has them,
-- and each split has two functions or more, and a part for each.
abbrev mutual
  pub IsIn : Form → ℕ → Tree → Type 0
  IsIn f depth (leaf v) = is_within f.deepest depth ≡ true
  IsIn f depth (branch s keep inline) = (is_within f.deepest depth ≡ true) × IsIn f (depth + 1) keep × IsIn f (depth + 1) inline
  IsIn f depth (cut s keep bound) = (is_within f.deepest depth ≡ true) × IsIn f (depth + 1) keep × (is_within f.deepest (depth + 1) ≡ true) × (f.has_cuts ≡ true)
  IsIn f depth (split fs parts) = (is_within f.deepest depth ≡ true) × (2 ≤ length fs) × (count_of parts ≡ length fs) × AreIn f (depth + 1) parts

  pub AreIn : Form → ℕ → Parts → Type 0
  AreIn f depth done = Unit {0}
  AreIn f depth (more t ts) = IsIn f depth t × AreIn f depth ts

-- the nodes are those of exactly one tree in preorder, and the tree is in the form
pub record IsTreeIn (f : Form) (nodes : List CertNode) : Type 0 where
  pub tree : Tree
  pub in_form : IsIn f 1 tree
  pub in_order : nodes ≡ preorder tree

-- with cuts, and as deep as it may be
abbrev pub any_form : Form
any_form = record { has_cuts = true; deepest = None }

abbrev pub IsTree : List CertNode → Type 0
IsTree nodes = IsTreeIn any_form nodes

-- version 1 has no cuts and depths up to 4,096; version 2 has cuts, and depths up to 16,384
abbrev pub form_of : ℕ → Form
form_of version = if version == 1 then record { has_cuts = false; deepest = Some limits.MOST_DEPTH_1 } else record { has_cuts = true; deepest = Some limits.MOST_DEPTH_2 }
