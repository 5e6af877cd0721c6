use Rattle.std.proofs.Common.{Some, ap, subst, ◌≡◌, true, ◌∙◌}
use Rattle.std.specs.Option.{option_map}
use Rattle.std.specs.declared.rc.Rc.{Rc}
use Rattle.std.specs.declared.alloc.Global.{Global}
use Rattle.std.specs.Prelude.{Option}
use Rattle.shapes.specs.Tree.{Tree, func}
use Rattle.shapes.specs.Renewed.{newest, renewal_at, is_seen}
use Rattle.shapes.proofs.Renewals.{known_newest, known_here}
use Rattle.shapes.proofs.renewal.Inlining.entry.Goals as goal

pub returns-in_ok-new-in-Some-clause-shape : goal.returns-in_ok-new-in-Some-clause-shape
returns-in_ok-new-in-Some-clause-shape g c =
    let t = c.in-Some.shape.value in
    let rs = c.renew.new.renewals.items in
    let old = c.requires.old t (ap (λ (o : Option (Rc Tree Global)). option_map (λ (r : Rc Tree Global). r.value) o) c.in-Some.is) in
    let seen = subst (λ (t : Tree). is_seen (renewal_at rs (func t)) ≡ true) c.deref.ensures c.in_ok-renew-in-Some.ensures.seen in
    let known = known_here c.args.m.now c.args.self.now t old rs c.in_ok-renew-in-Some.ensures.known in
    let new = known_newest c.args.m.now c.args.self.now t old (renewal_at rs (func t)) known seen in
    rw c.in-Some.is (ap (λ (u : Tree). Some u) (c.in_ok-new-in-Some.ensures ∙ ap (λ rs. newest (renewal_at rs (func t)) t) c.deref-in-Some.ensures.value ∙ new))
