use Rattle.std.proofs.Common.{◌+◌, ◌*◌, ◌++◌, length, drop, append-nil, sym, ap, ◌∙◌, arith}
use Rattle.std.proofs.lemmas.List.{drop_all}
use Rattle.rv_select.specs.Linked.{linked}
use Rattle.rv_select.specs.Texts.{bytes_of}
use Rattle.image_layout.specs.Addresses.{link_in}
use Rattle.image_layout.proofs.CodesLeft.{all_items, next_size, one_pushed}
use Rattle.image_layout.proofs.text.push_codes.Goals as goal

pub push_items-requires-clause-fits : goal.push_items-requires-clause-fits
push_items-requires-clause-fits c =
    let next = next_size c.args.codes.now c.loop-code.code-index c.loop-code-item.result (omega arith) c.loop-code-item.is in
    let same = ap (λ is. length is) c.as_slice.ensures.all in
    omega (arith, next, same, c.loop-code.invariant.place, c.requires.fits)

pub overflow_add-at : goal.overflow_add-at
overflow_add-at c =
    let next = next_size c.args.codes.now c.loop-code.code-index c.loop-code-item.result (omega arith) c.loop-code-item.is in
    omega (arith, next, c.len.ensures.count, c.loop-code.invariant.place, c.requires.fits)

pub loop-code-preserved : goal.loop-code-preserved
loop-code-preserved c =
    let codes = c.args.codes.now in
    let l = link_in c.args.addresses.now in
    let code = c.loop-code-item.result in
    let at = c.loop-code.at in
    let rest = all_items (drop (c.loop-code.code-index + 1) codes) in
    let next = next_size codes c.loop-code.code-index code (omega arith) c.loop-code-item.is in
    let pushed = c.in_ok-push_items.ensures ∙ ap (λ is. c.loop-code.text.items ++ bytes_of (linked l at is)) c.as_slice.ensures.all in
    let words = one_pushed l codes c.loop-code.code-index code at c.loop-code.text.items c.push_items.new.text.items (c.args.text.now.items ++ bytes_of (linked l c.args.start (all_items codes))) (omega arith) c.loop-code-item.is pushed c.loop-code.invariant.words in
    record {
      words = ap (λ n. c.push_items.new.text.items ++ bytes_of (linked l (at + 4 * n) rest)) c.len.ensures.count ∙ words;
      place = omega (arith, next, c.len.ensures.count, c.loop-code.invariant.place);
    }

pub returns : goal.returns
returns c =
    let text = c.loop-code.text.items in
    let l = link_in c.args.addresses.now in
    let none = drop_all c.loop-code.code-index c.args.codes.now (omega arith) in
    sym (append-nil text) ∙ ap (λ cs. text ++ bytes_of (linked l c.loop-code.at (all_items cs))) (sym none) ∙ c.loop-code.invariant.words
