use Rattle.std.proofs.Common.{sym}
use Rattle.decisions.specs.declared.maps.Label.TheVariants.{Keep, Inline}
use Rattle.decisions.proofs.Entries.{entry_given, no_entry, never_other}
use Rattle.decisions.proofs.reading.read_line.Goals as goal

pub returns-in_default : goal.returns-in_default
returns-in_default c = sym (no_entry c.args.line.now (λ s l lt e. let h = c.leading_site.ensures.site s l lt e in cc c.in_default.is))

pub returns-then-branch : goal.returns-then-branch
returns-then-branch c = sym (entry_given c.args.line.now c.in-Some.s Keep c.in-Some.ensures.below (c.in_ok-is_line.ensures.0 c.if-branch.true))

pub returns-then-branch-2 : goal.returns-then-branch-2
returns-then-branch-2 c = sym (entry_given c.args.line.now c.in-Some.s Inline c.in-Some.ensures.below (c.in_ok-is_line-2.ensures.0 c.if-branch-2.true))

pub returns : goal.returns
returns c = sym (no_entry c.args.line.now (λ s l lt e. never_other c.args.line.now c.in-Some.s s l _ _ c.in_ok-is_line.ensures.1 c.in_ok-is_line-2.ensures.1 c.if-branch.false c.if-branch-2.false (let h = c.leading_site.ensures.site s l lt e in cc c.in-Some.is) e))
