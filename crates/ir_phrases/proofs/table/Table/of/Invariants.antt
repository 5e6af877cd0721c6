use Rattle.std.proofs.Common.{◌≡◌, ℕ, List, take}
use Rattle.ir_grammar.specs.Sets.{among}
use Rattle.ir_phrases.proofs.table.Table.of.Given as goal

abbrev pub invariant-loop-name : goal.invariant-loop-name
invariant-loop-name l = (name : List ℕ) → among l.table name ≡ among (take l.name-index l.names) name
