-- The tree's lines, one after the other.
use Rattle.std.proofs.Common.{◌≡◌, ℕ, ◌+◌, ◌<◌, ◌≤◌, true, false, length, List, [], ◌∷◌, ◌++◌, Some, None, refl, sym, ap, subst, ◌∙◌, arith, append_assoc, length-append}
use Rattle.std.proofs.lemmas.Grind.{flat_map-append}
use Rattle.std.proofs.lemmas.List.{append-nil}
use Rattle.decisions.specs.Reading.{lines_of}
use Rattle.inline_certificate.specs.declared.nodes.CertNode.{CertNode}
use Rattle.inline_certificate.specs.declared.faults.CertFault.{CertFault}
use Rattle.inline_certificate.specs.declared.faults.CertFault.TheVariants.{BadLine, Depth}
use Rattle.inline_certificate.specs.declared.forms.Form.{Form}
use Rattle.inline_certificate.specs.declared.places.Place.{Place}
use Rattle.inline_certificate.specs.Trees.{Tree, Parts, leaf, branch, cut, split, done, more, is_within, IsIn, AreIn, IsTreeIn, IsTree, any_form}
use Rattle.inline_certificate.specs.Places.{root, below, fits, after}
use Rattle.inline_certificate.specs.Parts.{IsCutAt}
use Rattle.inline_certificate.specs.Text.{node_line, nodes_text}
use Rattle.inline_certificate.specs.Certificates.{IsNode, AreNodes}
use Rattle.inline_certificate.specs.Reading.{node_of, tree_fault}
use Rattle.inline_certificate.specs.Steps.{Goes, StatesTree}
use Rattle.inline_certificate.proofs.TreeLaws.{after_node, after_none, what_fills_is_a_tree}
use Rattle.inline_certificate.proofs.LinesStated.{read_node_is}

-- ---- one line

fault_step : (f : Form) (n : ℕ) (p : Place) (places : List Place) (line : List ℕ) (lines : List (List ℕ)) (node : CertNode) → node_of line ≡ Some node → fits f p node ≡ true → is_within f.deepest p.depth ≡ true → tree_fault f n (p ∷ places) (line ∷ lines) ≡ tree_fault f (n + 1) (below p.depth node ++ places) lines
unfolding tree_fault
fault_step f n p places line lines node h fit within = rw (h, fit, within) refl

pub no_node : (f : Form) (n : ℕ) (places : List Place) (line : List ℕ) (lines : List (List ℕ)) → node_of line ≡ None → tree_fault f n places (line ∷ lines) ≡ Some (BadLine n)
unfolding tree_fault
no_node f n [] line lines h = refl
no_node f n (p ∷ places) line lines h = rw h refl

pub no_place_left : (f : Form) (n : ℕ) (places : List Place) (line : List ℕ) (lines : List (List ℕ)) → places ≡ [] → tree_fault f n places (line ∷ lines) ≡ Some (BadLine n)
unfolding tree_fault
no_place_left f n places line lines e = rw e refl

pub misfit : (f : Form) (n : ℕ) (places rest : List Place) (p : Place) (line : List ℕ) (lines : List (List ℕ)) (node : CertNode) → places ≡ p ∷ rest → node_of line ≡ Some node → fits f p node ≡ false → tree_fault f n places (line ∷ lines) ≡ Some (BadLine n)
unfolding tree_fault
misfit f n places rest p line lines node e h out = rw (e, h, out) refl

pub too_deep : (f : Form) (n : ℕ) (places rest : List Place) (p : Place) (line : List ℕ) (lines : List (List ℕ)) (node : CertNode) → places ≡ p ∷ rest → node_of line ≡ Some node → fits f p node ≡ true → is_within f.deepest p.depth ≡ false → tree_fault f n places (line ∷ lines) ≡ Some (Depth n)
unfolding tree_fault
too_deep f n places rest p line lines node e h fit deep = rw (e, h, fit, deep) refl

end_of_tree : (f : Form) (n : ℕ) → tree_fault f n [] [] ≡ None
unfolding tree_fault
end_of_tree f n = refl

ends_early : (f : Form) (n : ℕ) (p : Place) (places : List Place) → tree_fault f n (p ∷ places) [] ≡ Some (BadLine n)
unfolding tree_fault
ends_early f n p places = refl

-- ---- a tree of a form is a tree

mutual
  tree_any : (t : Tree) (f : Form) (depth : ℕ) → IsIn f depth t → IsIn any_form depth t
  tree_any (leaf v) f depth h = refl
  tree_any (branch s keep inline) f depth h = (refl, tree_any keep f (depth + 1) h.1, tree_any inline f (depth + 1) h.2)
  tree_any (cut s keep bound) f depth h = (refl, tree_any keep f (depth + 1) h.1, refl, refl)
  tree_any (split fs parts) f depth h = (refl, h.1, h.2, parts_any parts f (depth + 1) h.3)

  parts_any : (ts : Parts) (f : Form) (depth : ℕ) → AreIn f depth ts → AreIn any_form depth ts
  parts_any done f depth h = tt
  parts_any (more t ts) f depth h = (tree_any t f depth h.0, parts_any ts f depth h.1)

pub is_tree : (f : Form) (nodes : List CertNode) → IsTreeIn f nodes → IsTree nodes
is_tree f nodes t = record { tree = t.tree; in_form = tree_any t.tree f 1 t.in_form; in_order = t.in_order }

-- ---- the loop

pub record ReadsOn (f : Form) (before : ℕ) (bytes : List ℕ) (n : ℕ) (rest : List ℕ) (places : List Place) (nodes : List CertNode) : Type 0 where
  pub counted : n + length rest ≤ before + length bytes
  pub text : bytes ≡ nodes_text nodes ++ rest
  pub words : AreNodes nodes
  pub fault : tree_fault f (n + 1) places (lines_of rest) ≡ tree_fault f (before + 1) root (lines_of bytes)
  pub walk : (more : List CertNode) → after f root (nodes ++ more) ≡ after f places more

pub begins : (f : Form) (before : ℕ) (bytes : List ℕ) (places : List Place) (nodes : List CertNode) → places ≡ root → nodes ≡ [] → ReadsOn f before bytes before bytes places nodes
begins f before bytes places nodes p n = record {
  counted = omega arith;
  text = ap (λ (l : List CertNode). nodes_text l ++ bytes) (sym n);
  words = subst (λ (l : List CertNode). AreNodes l) (sym n) tt;
  fault = ap (λ (q : List Place). tree_fault f (before + 1) q (lines_of bytes)) p;
  walk = λ ns. ap (λ (l : List CertNode). after f root (l ++ ns)) n ∙ ap (λ (q : List Place). after f q ns) (sym p);
}

more_nodes : (nodes : List CertNode) (n : CertNode) → AreNodes nodes → IsNode n → AreNodes (nodes ++ n ∷ [])
more_nodes [] n h k = (k, tt)
more_nodes (x ∷ nodes) n h k = (h.0, more_nodes nodes n h.1 k)

more_text : (nodes : List CertNode) (n : CertNode) → nodes_text (nodes ++ n ∷ []) ≡ nodes_text nodes ++ node_line n
more_text nodes n = flat_map-append node_line nodes (n ∷ []) ∙ ap (λ (l : List ℕ). nodes_text nodes ++ l) (append-nil (node_line n))

pub shorter : (rest line next : List ℕ) → IsCutAt rest line next → length next < length rest
shorter rest line next apart = let k : length rest ≡ length line + length next = ap (λ (l : List ℕ). length l) apart.whole ∙ length-append line next in omega (arith, apart.some)

pub step : (f : Form) (before : ℕ) (bytes : List ℕ) (n : ℕ) (rest line next : List ℕ) (places places' : List Place) (nodes nodes' : List CertNode) → ReadsOn f before bytes n rest places nodes → IsCutAt rest line next → Goes f line places places' nodes nodes' → ReadsOn f before bytes (n + 1) next places' nodes'
step f before bytes n rest line next places places' nodes nodes' r apart g = record {
  counted = omega (arith, shorter rest line next apart, r.counted);
  text = r.text ∙ ap (λ (l : List ℕ). nodes_text nodes ++ l) (apart.whole ∙ ap (λ (l : List ℕ). l ++ next) g.line_of.is) ∙ sym (append_assoc (nodes_text nodes) (node_line g.node) next) ∙ ap (λ (l : List ℕ). l ++ next) (sym (more_text nodes g.node)) ∙ ap (λ (l : List CertNode). nodes_text l ++ next) (sym g.told);
  words = subst (λ (l : List CertNode). AreNodes l) (sym g.told) (more_nodes nodes g.node r.words g.line_of.words);
  fault =
      ap (λ (q : List Place). tree_fault f (n + 1 + 1) q (lines_of next)) g.now
      ∙ sym (fault_step f (n + 1) g.place g.rest line (lines_of next) g.node (read_node_is line (Some g.node) g.line_of) g.fit g.within)
      ∙ ap (λ (q : List Place). tree_fault f (n + 1) q (line ∷ lines_of next)) (sym g.was)
      ∙ ap (λ (l : List (List ℕ)). tree_fault f (n + 1) places l) (sym apart.lines)
      ∙ r.fault;
  walk = λ ns.
      ap (λ (l : List CertNode). after f root (l ++ ns)) g.told
      ∙ ap (λ (l : List CertNode). after f root l) (append_assoc nodes (g.node ∷ []) ns)
      ∙ r.walk (g.node ∷ ns)
      ∙ ap (λ (q : List Place). after f q (g.node ∷ ns)) g.was
      ∙ after_node f g.place g.rest g.node ns g.fit g.within
      ∙ ap (λ (q : List Place). after f q ns) (sym g.now);
}

pub stops : (f : Form) (before : ℕ) (bytes : List ℕ) (n : ℕ) (rest line next : List ℕ) (places : List Place) (nodes : List CertNode) (e : CertFault) → ReadsOn f before bytes n rest places nodes → IsCutAt rest line next → ((lines : List (List ℕ)) → tree_fault f (n + 1) places (line ∷ lines) ≡ Some e) → tree_fault f (before + 1) root (lines_of bytes) ≡ Some e
stops f before bytes n rest line next places nodes e r apart h = sym r.fault ∙ ap (λ (l : List (List ℕ)). tree_fault f (n + 1) places l) apart.lines ∙ h (lines_of next)

empty : (rest : List ℕ) → length rest ≡ 0 → rest ≡ []
empty [] e = refl
empty (c ∷ cs) e = absurd (omega arith)

pub open_at_end : (f : Form) (before : ℕ) (bytes : List ℕ) (n : ℕ) (rest : List ℕ) (places : List Place) (nodes : List CertNode) → ReadsOn f before bytes n rest places nodes → length rest ≡ 0 → (places ≡ [] → ⊥) → tree_fault f (before + 1) root (lines_of bytes) ≡ Some (BadLine (n + 1))
open_at_end f before bytes n rest places nodes r e some = sym r.fault ∙ ap (λ (l : List ℕ). tree_fault f (n + 1) places (lines_of l)) (empty rest e) ∙ by_places places some
  where
    by_places : (q : List Place) → (q ≡ [] → ⊥) → tree_fault f (n + 1) q [] ≡ Some (BadLine (n + 1))
    by_places [] h = absurd (h refl)
    by_places (p ∷ q) h = ends_early f (n + 1) p q

pub whole_at_end : (f : Form) (before : ℕ) (bytes : List ℕ) (n : ℕ) (rest : List ℕ) (places : List Place) (nodes : List CertNode) → ReadsOn f before bytes n rest places nodes → length rest ≡ 0 → places ≡ [] → StatesTree f (before + 1) bytes nodes
whole_at_end f before bytes n rest places nodes r e none = record {
  tree = what_fills_is_a_tree f nodes (ap (λ (l : List CertNode). after f root l) (sym (append-nil nodes)) ∙ r.walk [] ∙ ap (λ (q : List Place). after f q []) none ∙ after_none f []);
  text = r.text ∙ ap (λ (l : List ℕ). nodes_text nodes ++ l) (empty rest e) ∙ append-nil (nodes_text nodes);
  words = r.words;
  sound = sym r.fault ∙ ap (λ (l : List ℕ). tree_fault f (n + 1) places (lines_of l)) (empty rest e) ∙ ap (λ (q : List Place). tree_fault f (n + 1) q []) none ∙ end_of_tree f (n + 1);
}
