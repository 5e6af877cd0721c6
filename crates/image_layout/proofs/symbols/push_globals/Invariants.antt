use Rattle.std.proofs.Common.{◌≡◌, ◌++◌, drop}
use Rattle.image_layout.specs.Symbols.{global_symbols, with_linkage}
use Rattle.image_layout.specs.Addresses.{link_in}
use Rattle.image_layout.proofs.symbols.push_globals.Given as goal

abbrev pub invariant-loop-number : goal.invariant-loop-number
invariant-loop-number l =
    l.symbols ++ with_linkage l.global (global_symbols l.m (link_in l.addresses) l.number (drop l.number l.m.globals))
    ≡ l.fn.symbols ++ with_linkage l.global (global_symbols l.m (link_in l.addresses) 0 l.m.globals)
