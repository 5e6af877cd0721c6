use Rattle.std.proofs.lemmas.Result.{err_from_is_err_and}
use Rattle.std.proofs.Common.{◌≡◌, ◌<◌, length, length-drop, ap, ◌∙◌, arith}
use Rattle.std.specs.Prelude.{Option, option_map}
use Rattle.std.proofs.lemmas.Bool.Decides.{nat_tests}
use Rattle.std.proofs.lemmas.Result.{IfOk-weaker, MatchResult-weaker}
use Rattle.oi_base.specs.declared.ids.SiteId.{SiteId}
use Rattle.decisions.specs.declared.faults.DecisionFault.TheVariants.{Missing}
use Rattle.decisions.proofs.LineSplits.{end_above}
use Rattle.decisions.proofs.LineLoop.{step, stops_at, ends_missing, ends_sites, ends_text}
use Rattle.decisions.proofs.TextForm.{no_text}
use Rattle.decisions.proofs.Uniqueness.{one_map}
use Rattle.decisions.proofs.reading.read_decisions.Goals as goal

pub returns-in_err-take_line-clause-fault : goal.returns-in_err-take_line-clause-fault
returns-in_err-take_line-clause-fault c =
    let lt : 0 < length c.lines.rest.now = grind (arith, nat_tests) in
    let p = err_from_is_err_and c.from_residual-in_err-take_line.result c.from_residual-in_err-take_line.ensures.1 in
    rw (p.1, p.2) (stops_at c.args.candidates.now c.args.bytes.now c.lines.number c.lines.rest.now c.lines.map c.take_line.new.map c.line_end.result c.in_err-take_line.field-0.0 c.split_at.result.0.now c.lines.invariant.state lt c.line_end.ensures.end c.split_at.ensures.front c.in_err-take_line.ensures)

pub lines-smaller : goal.lines-smaller
lines-smaller c =
    let lt : 0 < length c.lines.rest.now = grind (arith, nat_tests) in
    let up = end_above c.lines.rest.now lt in
    let end = c.line_end.ensures.end in
    rw c.split_at.ensures.back (omega (arith, length-drop c.line_end.result c.lines.rest.now))

pub lines-preserved : goal.lines-preserved
lines-preserved c =
    let lt : 0 < length c.lines.rest.now = grind (arith, nat_tests) in
    let up = end_above c.lines.rest.now lt in
    let end = c.line_end.ensures.end in
    let counted = c.lines.invariant.counted in
    let gives = rw c.split_at.ensures.front at c.in_ok-take_line.ensures in
    rw c.split_at.ensures.back record {
      counted = omega (arith, length-drop c.line_end.result c.lines.rest.now);
      state = step c.args.candidates.now c.requires.ascending c.args.bytes.now c.lines.number c.lines.rest.now _ _ c.line_end.result c.lines.invariant.state lt end gives;
    }

pub returns-clause-sites : goal.returns-clause-sites
returns-clause-sites c = IfOk-weaker c.whole_map.result _ _ (λ d h. ends_sites c.args.candidates.now c.args.bytes.now c.lines.number c.lines.rest.now c.lines.map d c.lines.invariant.state h.1) c.whole_map.ensures.whole

pub returns-clause-text : goal.returns-clause-text
returns-clause-text c =
    let none : length c.lines.rest.now ≡ 0 = grind (arith, nat_tests) in
    IfOk-weaker c.whole_map.result _ _ (λ d h. ends_text c.args.candidates.now c.args.bytes.now c.lines.number c.lines.rest.now c.lines.map d c.lines.invariant.state none h.1) c.whole_map.ensures.whole

pub returns-clause-sound : goal.returns-clause-sound
returns-clause-sound c =
    let none : length c.lines.rest.now ≡ 0 = grind (arith, nat_tests) in
    IfOk-weaker c.whole_map.result _ _ (λ d h. ends_missing c.args.candidates.now c.args.bytes.now c.lines.number c.lines.rest.now c.lines.map c.lines.invariant.state none ∙ ap (λ (o : Option SiteId). option_map (λ s. Missing s) o) h.0) c.whole_map.ensures.whole

pub returns-clause-fault : goal.returns-clause-fault
returns-clause-fault c =
    let none : length c.lines.rest.now ≡ 0 = grind (arith, nat_tests) in
    MatchResult-weaker c.whole_map.result c.whole_map.ensures.missing (λ d u. u) (λ e h other. ends_missing c.args.candidates.now c.args.bytes.now c.lines.number c.lines.rest.now c.lines.map c.lines.invariant.state none ∙ h other)

pub returns-in_err-take_line-clause-complete : goal.returns-in_err-take_line-clause-complete
returns-in_err-take_line-clause-complete c = MatchResult-weaker c.from_residual-in_err-take_line.result (returns-in_err-take_line-clause-fault c) (λ d u. u) (λ e h other. no_text c.args.candidates.now c.args.bytes.now e (h other))

pub returns-clause-complete : goal.returns-clause-complete
returns-clause-complete c = MatchResult-weaker c.whole_map.result (returns-clause-fault c) (λ d u. u) (λ e h other. no_text c.args.candidates.now c.args.bytes.now e (h other))

pub returns-clause-only : goal.returns-clause-only
returns-clause-only c =
    let none : length c.lines.rest.now ≡ 0 = grind (arith, nat_tests) in
    IfOk-weaker c.whole_map.result _ _ (λ d h. one_map c.args.candidates.now c.args.bytes.now d c.requires.ascending (ends_sites c.args.candidates.now c.args.bytes.now c.lines.number c.lines.rest.now c.lines.map d c.lines.invariant.state h.1) (ends_text c.args.candidates.now c.args.bytes.now c.lines.number c.lines.rest.now c.lines.map d c.lines.invariant.state none h.1)) c.whole_map.ensures.whole
