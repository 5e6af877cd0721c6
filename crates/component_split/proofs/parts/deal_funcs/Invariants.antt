use Rattle.std.proofs.Common.{◌≡◌, map, take}
use Rattle.std.specs.List.{filter}
use Rattle.component_split.specs.Members.{funcs_in, is_of}
use Rattle.component_split.specs.Over.{func_numbers}
use Rattle.component_split.proofs.parts.deal_funcs.Given as goal

abbrev pub invariant-loop-member : goal.invariant-loop-member
invariant-loop-member l = map func_numbers l.lists.items ≡ map (λ r. funcs_in (filter (is_of r) (take l.member-index l.members))) (func_numbers l.heads)
