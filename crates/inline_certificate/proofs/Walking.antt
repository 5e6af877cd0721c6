-- One node after the other.
use Rattle.std.proofs.Common.{◌≡◌, ℕ, zero, suc, ◌+◌, ◌<◌, ◌≤◌, Bool, true, false, length, get_or, drop, replicate, List, [], ◌∷◌, ◌++◌, Some, refl, sym, ap, subst, ◌∙◌, arith, add-one, drop-cons}
use mathlib.Core.Bool.{false≢true}
use Rattle.std.specs.Prelude.{IsTrue}
use Rattle.inline_certificate.specs.declared.nodes.CertNode.{CertNode}
use Rattle.inline_certificate.specs.declared.nodes.CertNode.TheVariants.{Leaf, Branch, Split, Cut}
use Rattle.inline_certificate.specs.declared.forms.Form.{Form}
use Rattle.inline_certificate.specs.declared.places.Place.{Place}
use Rattle.inline_certificate.specs.Trees.{any_form}
use Rattle.inline_certificate.specs.Places.{place_at, root, below, fits, after, AreAtMost}
use Rattle.inline_certificate.proofs.TreeLaws.{after_node, after_none, no_place, unfit}

next_of : (nodes : List CertNode) (i : ℕ) (n : CertNode) → i < length nodes → n ≡ get_or nodes i n → drop i nodes ≡ n ∷ drop (i + 1) nodes
next_of nodes i n lt is = drop-cons nodes i n lt ∙ ap (λ (x : CertNode). x ∷ drop (suc i) nodes) (sym is) ∙ ap (λ (k : ℕ). n ∷ drop k nodes) (sym (add-one i))

abbrev pub Tells : Bool → List CertNode → Type 0
Tells b nodes = (IsTrue b → after any_form root nodes ≡ Some []) × (after any_form root nodes ≡ Some [] → IsTrue b)

-- a node after the end of the tree
pub ends_early : (nodes : List CertNode) (i : ℕ) (n : CertNode) (places : List Place) → after any_form root nodes ≡ after any_form places (drop i nodes) → i < length nodes → n ≡ get_or nodes i n → places ≡ [] → Tells false nodes
ends_early nodes i n places so_far lt is none =
    (λ h. absurd (false≢true h), λ e. absurd (no_place any_form n (drop (i + 1) nodes) (sym (so_far ∙ ap (λ (p : List Place). after any_form p (drop i nodes)) none ∙ ap (λ (l : List CertNode). after any_form [] l) (next_of nodes i n lt is)) ∙ e)))

next_step : (nodes : List CertNode) (i : ℕ) (n : CertNode) (places rest : List Place) (p : Place) → after any_form root nodes ≡ after any_form places (drop i nodes) → i < length nodes → n ≡ get_or nodes i n → places ≡ p ∷ rest → after any_form root nodes ≡ after any_form (p ∷ rest) (n ∷ drop (i + 1) nodes)
next_step nodes i n places rest p so_far lt is at = so_far ∙ ap (λ (q : List Place). after any_form q (drop i nodes)) at ∙ ap (λ (l : List CertNode). after any_form (p ∷ rest) l) (next_of nodes i n lt is)

-- a node that may not stand where it comes
pub stands_not : (nodes : List CertNode) (i : ℕ) (n : CertNode) (places rest : List Place) (p : Place) (f : Form) → f ≡ any_form → after any_form root nodes ≡ after any_form places (drop i nodes) → i < length nodes → n ≡ get_or nodes i n → places ≡ p ∷ rest → fits f p n ≡ false → Tells false nodes
stands_not nodes i n places rest p f any so_far lt is at misfit =
    let k : fits any_form p n ≡ false = ap (λ (g : Form). fits g p n) (sym any) ∙ misfit in
    (λ h. absurd (false≢true h), λ e. absurd (unfit any_form p rest n (drop (i + 1) nodes) k (sym (next_step nodes i n places rest p so_far lt is at) ∙ e)))

pub goes_on : (nodes : List CertNode) (i : ℕ) (n : CertNode) (places rest new : List Place) (p : Place) (f : Form) → f ≡ any_form → after any_form root nodes ≡ after any_form places (drop i nodes) → i < length nodes → n ≡ get_or nodes i n → places ≡ p ∷ rest → fits f p n ≡ true → new ≡ below p.depth n ++ rest → after any_form root nodes ≡ after any_form new (drop (i + 1) nodes)
goes_on nodes i n places rest new p f any so_far lt is at fit is_new =
    let k : fits any_form p n ≡ true = ap (λ (g : Form). fits g p n) (sym any) ∙ fit in
    next_step nodes i n places rest p so_far lt is at ∙ after_node any_form p rest n (drop (i + 1) nodes) k refl ∙ ap (λ (q : List Place). after any_form q (drop (i + 1) nodes)) (sym is_new)

-- ---- depths

deeper : (places : List Place) (n m : ℕ) → n ≤ m → AreAtMost n places → AreAtMost m places
deeper [] n m le h = tt
deeper (p ∷ places) n m le h = (omega (arith, h.0), deeper places n m le h.1)

at_most_replicate : (k n : ℕ) (p : Place) (places : List Place) → p.depth ≤ n → AreAtMost n places → AreAtMost n (replicate k p ++ places)
at_most_replicate zero n p places le h = h
at_most_replicate (suc k) n p places le h = (le, at_most_replicate k n p places le h)

children_at_most : (n : CertNode) (depth m : ℕ) (places : List Place) → depth + 1 ≤ m → AreAtMost m places → AreAtMost m (below depth n ++ places)
children_at_most (Leaf v) depth m places le h = h
children_at_most (Branch s) depth m places le h = (le, (le, h))
children_at_most (Split fs) depth m places le h = at_most_replicate (length fs) m (place_at (depth + 1) false) places le h
children_at_most (Cut b) depth m places le h = h

pub grows_by_one : (places rest new : List Place) (p : Place) (n : CertNode) (m : ℕ) → places ≡ p ∷ rest → new ≡ below p.depth n ++ rest → AreAtMost m places → AreAtMost (m + 1) new
grows_by_one places rest new p n m at is h =
    let k = subst (λ (l : List Place). AreAtMost m l) at h in
    subst (λ (l : List Place). AreAtMost (m + 1) l) (sym is) (children_at_most n p.depth (m + 1) rest (omega (arith, k.0)) (deeper rest m (m + 1) (omega arith) k.1))

-- ---- the end

pub all_told : (nodes : List CertNode) (i : ℕ) (places : List Place) (b : Bool) → after any_form root nodes ≡ after any_form places (drop i nodes) → length nodes ≤ i → (IsTrue b → places ≡ []) × (places ≡ [] → IsTrue b) → Tells b nodes
all_told nodes i places b so_far le empty =
    let all : after any_form root nodes ≡ Some places = so_far ∙ ap (λ (l : List CertNode). after any_form places l) (drop_all nodes i le) ∙ after_none any_form places in
    (λ h. all ∙ ap (λ (p : List Place). Some p) (empty.0 h), λ e. empty.1 (let k : Some places ≡ Some [] = sym all ∙ e in cc))
  where
    drop_all : (l : List CertNode) (i : ℕ) → length l ≤ i → drop i l ≡ []
    drop_all [] zero le = refl
    drop_all [] (suc i) le = refl
    drop_all (x ∷ xs) zero le = absurd (omega arith)
    drop_all (x ∷ xs) (suc i) le = drop_all xs i (omega arith)
