use Rattle.std.proofs.Common.{◌≡◌, ◌+◌, ap, length, take, length-append, arith}
use Rattle.std.proofs.lemmas.List.Sums.{count_by_more_yes, count_by_more_no}
use Rattle.std.specs.Prelude.{Bool, [], ◌∷◌, false}
use Rattle.rv_select.specs.Branches.{count_true}
use Rattle.rv_select.proofs.Counts.{more_counts}
use Rattle.rv_select.proofs.settling.counts.Goals.{then-bit, else-bit}
use Rattle.rv_select.proofs.settling.counts.Goals as goal

pub loop-bit-preserved : goal.loop-bit-preserved
loop-bit-preserved c =
    let bits = c.args.bits.now in
    let i = c.loop-bit.bit-index in
    let counts = c.loop-bit.counts.items in
    let pushed = c.in_ok-push-2.ensures.items in
    let count : c.if-bit.count ≡ count_true (take (i + 1) bits) = elim c.if-bit.branch [
      | then-bit w ↦ omega (arith, w.count-is, c.loop-bit.invariant.count, count_by_more_yes (λ (b : Bool). b) bits i false c.loop-bit-test.true w.if-bit.true)
      | else-bit w ↦ omega (arith, w.count-is, c.loop-bit.invariant.count, count_by_more_no (λ (b : Bool). b) bits i false c.loop-bit-test.true w.if-bit.false)
    ] in
    record {
      count = count;
      len = omega (arith, ap length pushed, length-append counts (c.if-bit.count ∷ []), c.loop-bit.invariant.len);
      each = more_counts bits counts c.push-in-loop-bit.new.self.items i c.if-bit.count pushed c.loop-bit.invariant.len count c.loop-bit.invariant.each;
    }
