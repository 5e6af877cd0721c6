use Rattle.std.proofs.Common.{inl}
use Rattle.std.proofs.lemmas.Option.{IfSome_then}
use Rattle.optinline.proofs.command.tool.Goals as goal

pub returns-in-Ok-clause-absent : goal.returns-in-Ok-clause-absent
returns-in-Ok-clause-absent g c a b = IfSome_then (g.D.Desk.files c.args.desk.now) c.in-Ok.ensures.causes (λ files h. h.absent)

pub returns-in-Ok-clause-too_long : goal.returns-in-Ok-clause-too_long
returns-in-Ok-clause-too_long g c a b = IfSome_then (g.D.Desk.files c.args.desk.now) c.in-Ok.ensures.causes (λ files h. h.too_long)

pub returns-in-Ok-clause-refused : goal.returns-in-Ok-clause-refused
returns-in-Ok-clause-refused g c a b = IfSome_then (g.D.Desk.files c.args.desk.now) c.in-Ok.ensures.causes (λ files h. h.refused)

pub returns-in-Ok-clause-not_built : goal.returns-in-Ok-clause-not_built
returns-in-Ok-clause-not_built g c a b = IfSome_then (g.D.Desk.files c.args.desk.now) c.in-Ok.ensures.causes (λ files h. h.not_built)

pub returns-in-Ok-clause-done : goal.returns-in-Ok-clause-done
returns-in-Ok-clause-done g c a b = IfSome_then (g.D.Desk.files c.args.desk.now) c.in-Ok.ensures.causes (λ files h. h.accepted)

pub returns-in-Ok-clause-complete : goal.returns-in-Ok-clause-complete
returns-in-Ok-clause-complete g c = IfSome_then (g.D.Desk.files c.args.desk.now) c.in-Ok.ensures.causes (λ files h x same. inl (h.accepted.1 x))
