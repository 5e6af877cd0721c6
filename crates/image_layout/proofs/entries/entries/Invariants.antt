use Rattle.std.proofs.Common.{◌≡◌, ◌+◌, ◌*◌, length, drop}
use Rattle.rv_isa.specs.Memory.{text_start}
use Rattle.image_layout.proofs.CodesLeft.{all_items}
use Rattle.image_layout.proofs.EntryTable.{Entering}
use Rattle.image_layout.proofs.entries.entries.Given as goal

abbrev pub invariant-loop-f : goal.invariant-loop-f
invariant-loop-f l = record {
  entering : Entering l.codes (drop l.f-index l.codes) l.entries.items l.at;
  place : l.at + 4 * length (all_items (drop l.f-index l.codes)) ≡ text_start + 16 + 4 * length (all_items l.codes);
}
