use Rattle.std.proofs.Common.{Some, None, sym, ap, ◌∙◌}
use Rattle.inline_certificate.specs.declared.forms.Form.{Form}
use Rattle.inline_certificate.specs.Trees.{is_within, form_of}
use Rattle.inline_certificate.specs.Places.{fits}
use Rattle.inline_certificate.proofs.LinesStated.{read_node_is}
use Rattle.inline_certificate.proofs.TreeReading.{no_node, no_place_left, misfit, too_deep}
use Rattle.inline_certificate.proofs.tree_lines.take_node.Goals as goal

pub returns-in_default : goal.returns-in_default
returns-in_default c other lines =
    let reads = rw c.in_default.is at c.in_ok-node.ensures in
    no_node (form_of c.args.version) c.args.number c.args.places.now c.args.line.now lines (read_node_is c.args.line.now None reads)

pub returns-in_default-next : goal.returns-in_default-next
returns-in_default-next c other lines = let none = c.in_default-next.ensures in no_place_left (form_of c.args.version) c.args.number c.args.places.now c.args.line.now lines none.0

pub returns-then-not-fits : goal.returns-then-not-fits
returns-then-not-fits c other lines =
    let reads = rw c.in-Some.is at c.in_ok-node.ensures in
    let at = c.in-Some-next.ensures in
    misfit (form_of c.args.version) c.args.number c.args.places.now c.next.new.self c.in-Some-next.place c.args.line.now lines c.in-Some.node at (read_node_is c.args.line.now (Some c.in-Some.node) reads)
    (ap (λ (f : Form). fits f c.in-Some-next.place c.in-Some.node) (sym c.of-form.ensures) ∙ sym c.fits.ensures ∙ c.if-not-fits.true)

pub returns-then-not-is_within : goal.returns-then-not-is_within
returns-then-not-is_within c other lines =
    let reads = rw c.in-Some.is at c.in_ok-node.ensures in
    let at = c.in-Some-next.ensures in
    too_deep (form_of c.args.version) c.args.number c.args.places.now c.next.new.self c.in-Some-next.place c.args.line.now lines c.in-Some.node at (read_node_is c.args.line.now (Some c.in-Some.node) reads)
    (ap (λ (f : Form). fits f c.in-Some-next.place c.in-Some.node) (sym c.of-form.ensures) ∙ sym c.fits.ensures ∙ c.if-not-fits.false)
    (ap (λ (f : Form). is_within f.deepest c.in-Some-next.place.depth) (sym c.of-form.ensures) ∙ sym c.is_within.ensures ∙ c.if-not-is_within.true)
