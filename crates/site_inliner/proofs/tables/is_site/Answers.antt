use Rattle.std.proofs.Common.{◌∙◌}
use Rattle.site_inliner.proofs.SiteTests.{site_is}
use Rattle.site_inliner.proofs.tables.is_site.Goals as goal

pub returns-in-Call : goal.returns-in-Call
returns-in-Call c f = c.is_defined.ensures ∙ site_is c.args.locals.now.source f c.args.instr.now c.in-Call.field-0 c.in-Call.name c.in-Call.field-2 c.in-Call.is
