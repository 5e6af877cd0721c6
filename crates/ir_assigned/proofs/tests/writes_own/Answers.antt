use Rattle.std.proofs.Common.{◌≡◌, ⊎_elim, ℕ, length, Some, slice_get, ap, ◌∙◌, subst, arith}
use Rattle.std.proofs.lemmas.Bool.{cases_lt}
use Rattle.std.proofs.lemmas.Option.{slice_get_within}
use Rattle.ir_core.specs.declared.func.Instr.{Instr}
use Rattle.ir_assigned.specs.Names.{found}
use Rattle.ir_assigned.proofs.Tables.{read_item, one_at}
use Rattle.ir_assigned.proofs.tests.writes_own.Goals as goal

pub loop-at-preserved : goal.loop-at-preserved
loop-at-preserved c at x lt w = ⊎_elim
    (λ l. c.loop-at.invariant at x l w)
    (λ ge.
    let same : c.loop-at.at ≡ at = omega (arith, lt, ge) in
    let here = read_item c.as_slice-instr-items.result.now c.args.block.now.code c.loop-at.at c.instr-item.result c.as_slice-instr-items.ensures c.loop-at-test.true c.instr-item.is in
    let one = one_at c.args.block.now.code at c.instr-item.result w.0 (subst (λ k. slice_get c.args.block.now.code k ≡ Some c.instr-item.result) same here) w.1 in
    subst (λ (k : ℕ). found c.args.definitions.now x.0 ≡ Some (record { block = c.args.b; at = k })) same (c.is_own.ensures c.if-not-is_own.false x (ap Instr.result one ∙ w.2)))
    (cases_lt at c.loop-at.at)

pub returns : goal.returns
returns c t at x w =
    let lt = slice_get_within c.args.block.now.code at w.0 w.1 in
    c.loop-at.invariant at x (let n = ap (λ xs. length xs) c.as_slice-instr-items.ensures in omega (arith, lt, n)) w
