use Rattle.std.proofs.Common.{◌≡◌, map, take}
use Rattle.ir_phrases.proofs.table.texts_of.Given as goal

abbrev pub invariant-loop-name : goal.invariant-loop-name
invariant-loop-name l = l.texts ≡ map (λ v. v.items) (take l.name-index l.names)
