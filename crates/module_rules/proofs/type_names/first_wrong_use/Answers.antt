use Rattle.std.proofs.Common.{◌≡◌, sym, subst, ap, ◌∙◌, List, [], ℕ, Option}
use Rattle.std.proofs.lemmas.Result.{IfOk-weaker}
use Rattle.oi_base.specs.declared.ids.Place.{Place}
use Rattle.ir_core.specs.declared.ty.TypeDef.{TypeDef}
use Rattle.module_rules.specs.First.{earliest, IsFound}
use Rattle.module_rules.specs.TypeFaults.{Seen, state, uses_of, BreaksUses, again_faults}
use Rattle.module_rules.proofs.UseLaws.{again_found}
use Rattle.module_rules.proofs.type_names.first_wrong_use.Goals as goal

pub returns : goal.returns
returns c =
    let seen : state c.in_ok-uses.uses ≡ uses_of c.args.m.now = c.in_ok-uses.ensures {u = tt} in
    IfOk-weaker c.defined_again.result _ _
    (λ first e.
    subst (IsFound (BreaksUses c.args.m.now))
    (sym (e
    ∙ ap (λ (o : Option Place). earliest o (again_faults c.used.result.now [] c.as_slice.result.now)) (c.first.ensures ∙ ap Seen.first seen)
    ∙ ap (λ (ns : List ℕ). earliest (uses_of c.args.m.now).first (again_faults ns [] c.as_slice.result.now)) (c.used.ensures ∙ ap Seen.used seen)
    ∙ ap (λ (ds : List TypeDef). earliest (uses_of c.args.m.now).first (again_faults (uses_of c.args.m.now).used [] ds)) c.as_slice.ensures))
    (again_found c.args.m.now))
    c.defined_again.ensures
