use Rattle.std.proofs.Common.{◌≡◌, ◌++◌, take, drop}
use Rattle.flow_fold.specs.Blocks.{by_number}
use Rattle.local_passes.specs.CopyTables.{sources_in, IsTimed, Extends}
use Rattle.local_passes.specs.LocalCopies.{source, instr_copied}
use Rattle.local_passes.proofs.copies.replace_copies.Given as goal

abbrev pub invariant-loop-at : goal.invariant-loop-at
invariant-loop-at l = record {
  code : l.code ≡ by_number (instr_copied l.initial.code) 0 (take l.at l.initial.code) ++ drop l.at l.initial.code;
  timed : IsTimed l.table;
  extends : Extends l.initial.table l.table (take l.at l.initial.code);
  sources : sources_in l.table l.start ≡ source l.initial.code l.at;
}
