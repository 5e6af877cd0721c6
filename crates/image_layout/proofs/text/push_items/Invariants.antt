use Rattle.std.proofs.Common.{◌≡◌, ◌+◌, ◌*◌, ◌++◌, drop}
use Rattle.rv_select.specs.Linked.{linked}
use Rattle.rv_select.specs.Texts.{bytes_of}
use Rattle.image_layout.specs.Addresses.{link_in}
use Rattle.image_layout.proofs.text.push_items.Given as goal

abbrev pub invariant-loop-k : goal.invariant-loop-k
invariant-loop-k l = l.text.items ++ bytes_of (linked (link_in l.addresses) (l.at + 4 * l.k) (drop l.k l.items)) ≡ l.fn.text.items ++ bytes_of (linked (link_in l.addresses) l.at l.items)
