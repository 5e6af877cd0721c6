use Rattle.std.proofs.Common.{◌≡◌, ℕ, length, take}
use Rattle.component_split.specs.Graph.{SiteGraph, Labels}
use Rattle.component_split.specs.Split.{lowest}
use Rattle.component_split.specs.Classes.{AreParents, AreComponentsOf, root}
use Rattle.component_split.specs.Members.{funcs_in, AreLows}
use Rattle.component_split.specs.Over.{func_numbers}
use Rattle.component_split.proofs.parts.members_of.Given as goal

abbrev pub invariant-loop-at : goal.invariant-loop-at
invariant-loop-at l = record {
  funcs : funcs_in l.members.items ≡ func_numbers (take l.at l.funcs);
  lows : (g : SiteGraph) (p : Labels) → AreComponentsOf g p (func_numbers l.funcs) l.fn.parents.items → AreLows (lowest g p (func_numbers l.funcs)) l.members.items;
  parents : AreParents l.parents.items;
  same : (f : ℕ) → root l.parents.items f ≡ root l.fn.parents.items f;
  count : length l.parents.items ≡ length l.fn.parents.items;
}
