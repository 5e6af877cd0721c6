use Rattle.std.proofs.Common.{◌≡◌, drop}
use Rattle.ir_verifier.specs.PhiFaults.{no_values, entries_agree}
use Rattle.ir_verifier.proofs.phis.entries_agree.Given as goal

abbrev pub invariant-loop-entry : goal.invariant-loop-entry
invariant-loop-entry l =
    entries_agree l.m.types.defs l.sources l.fn.t l.values (drop l.entry-index l.entries) ≡ entries_agree l.m.types.defs l.sources l.fn.t no_values l.entries
