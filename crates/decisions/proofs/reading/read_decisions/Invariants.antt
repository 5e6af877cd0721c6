use Rattle.std.proofs.Common.{◌≤◌, ◌+◌, List, length}
use Rattle.oi_base.specs.declared.ids.SiteId.{SiteId}
use Rattle.decisions.specs.declared.maps.Label.{Label}
use Rattle.decisions.proofs.LineLoop.{ReadsOn}
use Rattle.decisions.proofs.reading.read_decisions.Given as goal

abbrev pub invariant-lines : goal.invariant-lines
invariant-lines l = record {
  counted : l.number + length l.rest ≤ length l.fn.bytes;
  state : (before : List (SiteId × Label)) × ReadsOn l.fn.candidates l.fn.bytes l.number l.rest l.map before;
}

abbrev pub decreases-lines : goal.decreases-lines
decreases-lines l = length l.rest
