use Rattle.std.proofs.Common.{◌≡◌, ⊎_elim, ℕ, length, Some, slice_get, sym, ap, subst, arith}
use Rattle.std.proofs.lemmas.Bool.{cases_lt}
use Rattle.std.proofs.lemmas.Option.{slice_get_within}
use Rattle.ir_core.specs.declared.func.Block.{Block}
use Rattle.ir_assigned.specs.Names.{found, IsWriter}
use Rattle.ir_assigned.proofs.Tables.{read_item, one_at}
use Rattle.ir_assigned.proofs.Told.{labels_told, registers_told}
use Rattle.ir_assigned.proofs.tests.differ.Goals as goal

pub loop-b-preserved : goal.loop-b-preserved
loop-b-preserved c = record {
  labels = λ b k lt at. ⊎_elim
      (λ l. c.loop-b.invariant.labels b k l at)
      (λ ge.
      let same : c.loop-b.b ≡ b = omega (arith, lt, ge) in
      let here = read_item c.as_slice-block-items.result.now c.args.f.now.blocks c.loop-b.b c.block-item.result c.as_slice-block-items.ensures c.loop-b-test.true c.block-item.is in
      let one = one_at c.args.f.now.blocks b c.block-item.result k (subst (λ j. slice_get c.args.f.now.blocks j ≡ Some c.block-item.result) same here) at in
      let own = subst (λ ls. found ls c.block-item.result.label.0 ≡ Some c.loop-b.b) c.as_slice.ensures.value (c.is_at.ensures c.if-not-is_at.false) in
      subst (λ (n : ℕ). found c.in_ok-labels.labels.items k.label.0 ≡ Some n) same (subst (λ (z : Block). found c.in_ok-labels.labels.items z.label.0 ≡ Some c.loop-b.b) one own))
      (cases_lt b c.loop-b.b);
  registers = λ b k at x lt here w. ⊎_elim
      (λ l. c.loop-b.invariant.registers b k at x l here w)
      (λ ge.
      let same : c.loop-b.b ≡ b = omega (arith, lt, ge) in
      let item = read_item c.as_slice-block-items.result.now c.args.f.now.blocks c.loop-b.b c.block-item.result c.as_slice-block-items.ensures c.loop-b-test.true c.block-item.is in
      let one = one_at c.args.f.now.blocks b c.block-item.result k (subst (λ j. slice_get c.args.f.now.blocks j ≡ Some c.block-item.result) same item) here in
      let w' : IsWriter c.block-item.result at x = subst (λ (z : Block). IsWriter z at x) (sym one) w in
      let own = subst (λ ds. found ds x.0 ≡ Some (record { block = c.loop-b.b; at = at })) c.as_slice-in-loop-b.ensures.value (c.writes_own.ensures c.if-not-writes_own.false at x w') in
      subst (λ (n : ℕ). found c.in_ok-definitions.definitions.items x.0 ≡ Some (record { block = n; at = at })) same own)
      (cases_lt b c.loop-b.b);
}

pub returns-clause-labels : goal.returns-clause-labels
returns-clause-labels c t =
    labels_told c.args.f.now c.in_ok-labels.labels.items
    (λ b k at. let lt = slice_get_within c.args.f.now.blocks b k at in let n = ap (λ xs. length xs) c.as_slice-block-items.ensures in c.loop-b.invariant.labels b k (omega (arith, lt, n)) at)

pub returns-clause-registers : goal.returns-clause-registers
returns-clause-registers c t =
    registers_told c.args.f.now c.in_ok-definitions.definitions.items
    (λ b k at x here w. let lt = slice_get_within c.args.f.now.blocks b k here in let n = ap (λ xs. length xs) c.as_slice-block-items.ensures in c.loop-b.invariant.registers b k at x (omega (arith, lt, n)) here w)
