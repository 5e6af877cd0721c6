use Rattle.std.proofs.Common.{◌≡◌, ◌++◌, drop}
use Rattle.image_layout.specs.Symbols.{function_symbols, with_linkage}
use Rattle.image_layout.specs.Addresses.{link_in}
use Rattle.image_layout.proofs.symbols.push_functions.Given as goal

abbrev pub invariant-loop-f : goal.invariant-loop-f
invariant-loop-f l = l.symbols ++ with_linkage l.global (function_symbols l.m (link_in l.addresses) (drop l.f-index l.codes)) ≡ l.fn.symbols ++ with_linkage l.global (function_symbols l.m (link_in l.addresses) l.codes)
