-- Nodes are those of one tree alone.
use Rattle.std.proofs.Common.{◌≡◌, ℕ, ◌+◌, length, List, [], ◌∷◌, ◌++◌, refl, sym, ap, ◌∙◌, arith, append_assoc}
use Rattle.std.specs.Prelude.{Option}
use Rattle.std.proofs.lemmas.List.{append-nil}
use Rattle.oi_base.specs.declared.ids.SiteId.{SiteId}
use Rattle.oi_base.specs.declared.ids.FuncId.{FuncId}
use Rattle.inline_certificate.specs.declared.nodes.CertNode.{CertNode}
use Rattle.inline_certificate.specs.declared.nodes.CertNode.TheVariants.{Leaf, Branch, Split, Cut}
use Rattle.inline_certificate.specs.Trees.{Tree, Parts, leaf, branch, cut, split, done, more, count_of, preorder, preorders, IsIn, AreIn, any_form}

node_head : (a b : CertNode) (xs ys : List CertNode) → a ∷ xs ≡ b ∷ ys → a ≡ b
node_head a b xs ys e = cc

node_tail : (a b : CertNode) (xs ys : List CertNode) → a ∷ xs ≡ b ∷ ys → xs ≡ ys
node_tail a b xs ys e = cc

no_cut_first : (t : Tree) (b : Option ℕ) (xs ys : List CertNode) → preorder t ++ xs ≡ Cut b ∷ ys → ⊥
no_cut_first (leaf v) b xs ys e = cc
no_cut_first (branch s keep inline) b xs ys e = cc
no_cut_first (cut s keep bound) b xs ys e = cc
no_cut_first (split fs parts) b xs ys e = cc

two_parts : (a b a' b' xs ys : List CertNode) → (a ++ b) ++ xs ≡ (a' ++ b') ++ ys → a ++ (b ++ xs) ≡ a' ++ (b' ++ ys)
two_parts a b a' b' xs ys e = sym (append_assoc a b xs) ∙ e ∙ append_assoc a' b' ys

abbrev Same : Tree → Tree → List CertNode → List CertNode → Type 0
Same t u xs ys = (t ≡ u) × (xs ≡ ys)

mutual
  same_tree : (t u : Tree) (depth : ℕ) (xs ys : List CertNode) → IsIn any_form depth t → IsIn any_form depth u → preorder t ++ xs ≡ preorder u ++ ys → Same t u xs ys
  same_tree (leaf v) (leaf w) depth xs ys h k e = let one : v ≡ w = cc in (ap (λ (x : Option ℕ). leaf x) one, node_tail (Leaf v) (Leaf w) xs ys e)
  same_tree (leaf v) (branch s keep inline) depth xs ys h k e = cc
  same_tree (leaf v) (cut s keep bound) depth xs ys h k e = cc
  same_tree (leaf v) (split fs parts) depth xs ys h k e = cc
  same_tree (branch s keep inline) (leaf w) depth xs ys h k e = cc
  same_tree (branch s keep inline) (branch s' keep' inline') depth xs ys h k e =
      let site : s ≡ s' = cc in
      let rest = two_parts (preorder keep) (preorder inline) (preorder keep') (preorder inline') xs ys (node_tail (Branch s) (Branch s') _ _ e) in
      let first = same_tree keep keep' (depth + 1) (preorder inline ++ xs) (preorder inline' ++ ys) h.1 k.1 rest in
      let second = same_tree inline inline' (depth + 1) xs ys h.2 k.2 first.1 in
      (ap (λ (x : SiteId). branch x keep inline) site ∙ ap (λ (x : Tree). branch s' x inline) first.0 ∙ ap (λ (x : Tree). branch s' keep' x) second.0, second.1)
  same_tree (branch s keep inline) (cut s' keep' bound) depth xs ys h k e =
      let rest = two_parts (preorder keep) (preorder inline) (preorder keep') (Cut bound ∷ []) xs ys (node_tail (Branch s) (Branch s') _ _ e) in
      let first = same_tree keep keep' (depth + 1) (preorder inline ++ xs) (Cut bound ∷ ys) h.1 k.1 rest in
      absurd (no_cut_first inline bound xs ys first.1)
  same_tree (branch s keep inline) (split fs parts) depth xs ys h k e = cc
  same_tree (cut s keep bound) (leaf w) depth xs ys h k e = cc
  same_tree (cut s keep bound) (branch s' keep' inline') depth xs ys h k e =
      let rest = two_parts (preorder keep) (Cut bound ∷ []) (preorder keep') (preorder inline') xs ys (node_tail (Branch s) (Branch s') _ _ e) in
      let first = same_tree keep keep' (depth + 1) (Cut bound ∷ xs) (preorder inline' ++ ys) h.1 k.1 rest in
      absurd (no_cut_first inline' bound ys xs (sym first.1))
  same_tree (cut s keep bound) (cut s' keep' bound') depth xs ys h k e =
      let site : s ≡ s' = cc in
      let rest = two_parts (preorder keep) (Cut bound ∷ []) (preorder keep') (Cut bound' ∷ []) xs ys (node_tail (Branch s) (Branch s') _ _ e) in
      let first = same_tree keep keep' (depth + 1) (Cut bound ∷ xs) (Cut bound' ∷ ys) h.1 k.1 rest in
      let second : Cut bound ≡ Cut bound' = node_head (Cut bound) (Cut bound') xs ys first.1 in
      let value : bound ≡ bound' = cc in
      (ap (λ (x : SiteId). cut x keep bound) site ∙ ap (λ (x : Tree). cut s' x bound) first.0 ∙ ap (λ (x : Option ℕ). cut s' keep' x) value, node_tail (Cut bound) (Cut bound') xs ys first.1)
  same_tree (cut s keep bound) (split fs parts) depth xs ys h k e = cc
  same_tree (split fs parts) (leaf w) depth xs ys h k e = cc
  same_tree (split fs parts) (branch s keep inline) depth xs ys h k e = cc
  same_tree (split fs parts) (cut s keep bound) depth xs ys h k e = cc
  same_tree (split fs parts) (split fs' parts') depth xs ys h k e =
      let funcs : fs ≡ fs' = cc in
      let count : count_of parts ≡ count_of parts' = h.2 ∙ ap (λ (l : List FuncId). length l) funcs ∙ sym k.2 in
      let all = same_parts parts parts' (depth + 1) xs ys h.3 k.3 count (node_tail (Split fs) (Split fs') _ _ e) in
      (ap (λ (l : List FuncId). split l parts) funcs ∙ ap (λ (x : Parts). split fs' x) all.0, all.1)

  same_parts : (ts us : Parts) (depth : ℕ) (xs ys : List CertNode) → AreIn any_form depth ts → AreIn any_form depth us → count_of ts ≡ count_of us → preorders ts ++ xs ≡ preorders us ++ ys → (ts ≡ us) × (xs ≡ ys)
  same_parts done done depth xs ys h k count e = (refl, e)
  same_parts done (more u us) depth xs ys h k count e = absurd (omega arith)
  same_parts (more t ts) done depth xs ys h k count e = absurd (omega arith)
  same_parts (more t ts) (more u us) depth xs ys h k count e =
      let rest = two_parts (preorder t) (preorders ts) (preorder u) (preorders us) xs ys e in
      let first = same_tree t u depth (preorders ts ++ xs) (preorders us ++ ys) h.0 k.0 rest in
      let others = same_parts ts us depth xs ys h.1 k.1 (omega arith) first.1 in
      (ap (λ (x : Tree). more x ts) first.0 ∙ ap (λ (x : Parts). more u x) others.0, others.1)

pub one_tree : (t u : Tree) → IsIn any_form 1 t → IsIn any_form 1 u → preorder t ≡ preorder u → t ≡ u
one_tree t u h k e = (same_tree t u 1 [] [] h k (append-nil (preorder t) ∙ e ∙ sym (append-nil (preorder u)))).0
