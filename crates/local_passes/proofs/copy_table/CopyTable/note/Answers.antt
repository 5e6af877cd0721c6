use Rattle.local_passes.proofs.CopySteps.{noted_sources, extends_one, timed_one}
use Rattle.local_passes.proofs.copy_table.CopyTable.note.Goals as goal

pub returns-in_ok-define-in-Some-clause-timed : goal.returns-in_ok-define-in-Some-clause-timed
returns-in_ok-define-in-Some-clause-timed c = timed_one c.args.self.now c.define.new.self c.in-Some.d c.source_given-source.result.0 c.requires.timed c.in_ok-define-in-Some.ensures.time c.in_ok-define-in-Some.ensures.same c.in_ok-define-in-Some.ensures.others

pub returns-in_ok-define-in-Some-clause-sources : goal.returns-in_ok-define-in-Some-clause-sources
returns-in_ok-define-in-Some-clause-sources c = noted_sources c.args.self.now c.define.new.self c.args.start c.args.i.now c.in-Some.d c.source_given-source.result.0 c.requires.timed c.requires.started c.in-Some.ensures c.source_given-source.ensures c.in_ok-define-in-Some.ensures.time c.in_ok-define-in-Some.ensures.same c.in_ok-define-in-Some.ensures.others

pub returns-in_ok-define-in-Some-clause-extends : goal.returns-in_ok-define-in-Some-clause-extends
returns-in_ok-define-in-Some-clause-extends c = extends_one c.args.self.now c.define.new.self c.args.i.now c.in-Some.d c.source_given-source.result.0 c.in-Some.ensures c.in_ok-define-in-Some.ensures.time c.in_ok-define-in-Some.ensures.same c.in_ok-define-in-Some.ensures.others
