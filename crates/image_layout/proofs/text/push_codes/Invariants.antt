use Rattle.std.proofs.Common.{◌≡◌, ◌+◌, ◌*◌, ◌++◌, length, drop}
use Rattle.rv_select.specs.Linked.{linked}
use Rattle.rv_select.specs.Texts.{bytes_of}
use Rattle.image_layout.specs.Addresses.{link_in}
use Rattle.image_layout.proofs.CodesLeft.{all_items}
use Rattle.image_layout.proofs.text.push_codes.Given as goal

abbrev pub invariant-loop-code : goal.invariant-loop-code
invariant-loop-code l = record {
  words : l.text.items ++ bytes_of (linked (link_in l.addresses) l.at (all_items (drop l.code-index l.codes)))
      ≡ l.fn.text.items ++ bytes_of (linked (link_in l.addresses) l.start (all_items l.codes));
  place : l.at + 4 * length (all_items (drop l.code-index l.codes)) ≡ l.start + 4 * length (all_items l.codes);
}
