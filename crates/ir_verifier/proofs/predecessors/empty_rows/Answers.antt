use Rattle.std.proofs.Common.{◌≡◌, ◌+◌, ◌<◌, ℕ, suc, List, [], ◌∷◌, ◌++◌, length, drop, slice_index_or, sym, ap, ◌∙◌, arith}
use Rattle.std.proofs.Math.Seq.{drop-cons}
use Rattle.std.proofs.lemmas.List.{append_assoc}
use Rattle.ir_verifier.specs.PhiFaults.{no_rows}
use Rattle.ir_verifier.proofs.predecessors.empty_rows.Goals as goal

-- one more empty row
row_next : (done next : List (List ℕ)) (labels : List ℕ) (k : ℕ) → next ≡ done ++ [] ∷ [] → k < length labels → done ++ no_rows (drop k labels) ≡ no_rows labels → next ++ no_rows (drop (k + 1) labels) ≡ no_rows labels
row_next done next labels k e lt so_far =
    ap (λ (rows : List (List ℕ)). rows ++ no_rows (drop (k + 1) labels)) e ∙ append_assoc done ([] ∷ []) (no_rows (drop (k + 1) labels))
    ∙ ap (λ (ns : List ℕ). done ++ no_rows ns) (sym (drop-cons labels k 0 lt ∙ ap (λ (n : ℕ). slice_index_or labels k 0 ∷ drop n labels) one_on)) ∙ so_far
  where
    one_on : suc k ≡ k + 1
    one_on = omega arith

pub loop-preserved : goal.loop-preserved
loop-preserved c =
    row_next c.loop.rows.items c.push.new.self.items c.args.labels.now c.loop.index
    (c.in_ok-push.ensures.items ∙ ap (λ (row : List ℕ). c.loop.rows.items ++ row ∷ []) c.new.ensures) c.loop-test.true c.loop.invariant
