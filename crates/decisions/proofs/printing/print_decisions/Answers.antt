use Rattle.std.proofs.Common.{List, subst}
use Rattle.std.proofs.lemmas.Result.{IfOk-weaker}
use Rattle.oi_base.specs.declared.ids.SiteId.{SiteId}
use Rattle.oi_base.specs.Ascending.{IsAscending}
use Rattle.decisions.proofs.TextForm.{text_in_form}
use Rattle.decisions.proofs.PrintedText.{zip_of_parts}
use Rattle.decisions.proofs.printing.print_decisions.Goals as goal

pub returns-clause-text : goal.returns-clause-text
returns-clause-text c = rw (← zip_of_parts c.args.d.now, ← c.sites.ensures.all, ← c.labels.ensures.all) c.lines.ensures

pub returns-clause-form : goal.returns-clause-form
returns-clause-form c = IfOk-weaker c.lines.result _ _ (λ text is. text_in_form text.items c.args.d.now (subst (λ (x : List SiteId). IsAscending x) c.sites.ensures.all c.sites.ensures.ascending) is) (returns-clause-text c)
