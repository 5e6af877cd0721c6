use Rattle.inline_certificate.proofs.WordLists.{is_some_left, no_blank, no_number, next_words, next_so_far, next_others}
use Rattle.inline_certificate.proofs.lines.funcs.Goals as goal

pub returns-in_default : goal.returns-in_default
returns-in_default c = no_blank c.args.words.now c.loop-rest.rest.now c.loop-rest.invariant.others (is_some_left c.loop-rest.rest.now c.is_empty.result c.is_empty.ensures c.loop-rest-test.true) c.in_default.ensures

pub returns-in_default-number : goal.returns-in_default-number
returns-in_default-number c = no_number c.args.words.now c.loop-rest.rest.now c.in-Some.after.now c.place_of_byte.result c.split_at.result.0.now c.loop-rest.invariant.others c.in-Some.ensures c.place_of_byte.ensures.place c.split_at.ensures.front c.in_default-number.ensures

pub loop-rest-preserved : goal.loop-rest-preserved
loop-rest-preserved c =
    let n = c.in-Some-number.ensures in
    let new = c.in_ok-push.ensures.items in record {
      so_far = next_so_far c.args.words.now c.loop-rest.rest.now c.in-Some.after.now c.place_of_byte.result c.split_at.result.0.now c.split_at.result.1.now c.loop-rest.funcs.items c.push.new.self.items c.in-Some-number.n c.loop-rest.invariant.so_far c.in-Some.ensures c.split_at.ensures.by_index.0 n.is new;
      words = next_words c.loop-rest.funcs.items c.push.new.self.items c.in-Some-number.n c.loop-rest.invariant.words n.fits new;
      others = next_others c.args.words.now c.loop-rest.rest.now c.in-Some.after.now c.place_of_byte.result c.split_at.result.1.now c.loop-rest.invariant.others c.in-Some.ensures c.place_of_byte.ensures.place c.split_at.ensures.back;
    }
