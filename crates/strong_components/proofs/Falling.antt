-- What components say of chains of edges.
use Rattle.std.proofs.Common.{◌≡◌, ◌≢◌, ℕ, ◌≤◌, List, refl, sym, slice_index_or, length, arith}
use Rattle.std.proofs.lemmas.Option.{slice_get_read}
use Rattle.strong_components.specs.declared.edge.Edge.{Edge}
use Rattle.strong_components.specs.declared.walk.Mark.{Mark}
use Rattle.strong_components.specs.declared.walk.Mark.TheVariants.{Unseen, Open, Closed}
use Rattle.strong_components.specs.Chains.{Leads, stays, goes}
use Rattle.strong_components.specs.Walk.{IsClosedUpTo, AreComponents}

module _ (n : ℕ) (edges : List Edge) (IsRoot : ℕ → Type 0) (marks : List Mark) (comps : AreComponents n edges IsRoot marks) where
  abbrev pub mark_of : ℕ → Mark
  mark_of f = slice_index_or marks f Unseen

  -- a chain of edges never leads to a component with a greater number
  pub falls : {u v : ℕ} → Leads edges u v → (c : ℕ) → mark_of u ≡ Closed c → (d : ℕ) × (mark_of v ≡ Closed d) × (d ≤ c)
  falls (stays f) c e = (c, e, omega arith)
  falls (goes s f has l) c e = by_mark (mark_of s.to) refl (comps.edges_fall s.from c has.0 s e (slice_get_read edges (length edges) has.0 s refl has.1 (sym has.2)) refl) (falls l)
    where
      by_mark : (m : Mark) → mark_of s.to ≡ m → IsClosedUpTo n edges IsRoot c m → ((c : ℕ) → mark_of s.to ≡ Closed c → (d : ℕ) × (mark_of f ≡ Closed d) × (d ≤ c)) → (d : ℕ) × (mark_of f ≡ Closed d) × (d ≤ c)
      by_mark Unseen m h rest = absurd h
      by_mark (Open p) m h rest = absurd h
      by_mark (Closed b) m h rest = let r = rest b m in let le = r.2 in (r.0, r.1, omega (arith, le, h))

  pub closed_or : (f : ℕ) → mark_of f ≢ Unseen → (c : ℕ) × (mark_of f ≡ Closed c)
  closed_or f h = by_mark (mark_of f) refl
    where
      by_mark : (m : Mark) → mark_of f ≡ m → (c : ℕ) × (mark_of f ≡ Closed c)
      by_mark Unseen e = absurd (h e)
      by_mark (Open p) e = absurd (comps.none_open f p e)
      by_mark (Closed c) e = (c, e)
