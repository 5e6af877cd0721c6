use Rattle.std.proofs.Common.{sym, subst}
use Rattle.std.specs.List.{All}
use Rattle.component_split.specs.declared.count.State.{State}
use Rattle.component_split.specs.States.{IsStateOf}
use Rattle.component_split.proofs.Trees.{all_more}
use Rattle.component_split.proofs.count.push_branch.Goals as goal

pub returns-clause-states : goal.returns-clause-states
returns-clause-states c =
    let P : State → Type 0 = λ s. IsStateOf c.args.g.now s in
    let one : All P c.push.new.self.items = subst (All P) (sym c.in_ok-push.ensures.items) (all_more P c.args.todo.now.items c.in_ok-child.field-0 c.requires.others c.in_ok-child.ensures.state) in
    subst (All P) (sym c.in_ok-push-2.ensures.items) (all_more P c.push.new.self.items c.in_ok-child-2.field-0 one c.in_ok-child-2.ensures.state)
