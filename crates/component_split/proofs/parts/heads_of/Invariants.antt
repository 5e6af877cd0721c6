use Rattle.std.proofs.Common.{◌≡◌, take}
use Rattle.std.specs.List.{filter}
use Rattle.component_split.specs.Members.{funcs_in, is_head}
use Rattle.component_split.specs.Over.{func_numbers}
use Rattle.component_split.proofs.parts.heads_of.Given as goal

abbrev pub invariant-loop-member : goal.invariant-loop-member
invariant-loop-member l = func_numbers l.heads.items ≡ funcs_in (filter is_head (take l.member-index l.members))
