use Rattle.std.proofs.Common.{arith}
use Rattle.image_layout.proofs.CodesLeft.{few_codes}
use Rattle.image_layout.proofs.imaging.image.Goals as goal

pub text_size-size-requires : goal.text_size-size-requires
text_size-size-requires c = record { few = few_codes c.args.v.now c.args.codes.now c.module-m.ensures.proper c.requires.codes }

pub returns-then-size-clause-refused : goal.returns-then-size-clause-refused
returns-then-size-clause-refused c =
    let size = c.text_size-size.ensures.size c.args.v.now in
    (omega (arith, size, c.if-size.true), size)

pub image_of-requires-clause-fits : goal.image_of-requires-clause-fits
image_of-requires-clause-fits c = let size = c.text_size-size.ensures.size c.module-m.result.now in omega (arith, size, c.if-size.false)

pub returns-clause-fits : goal.returns-clause-fits
returns-clause-fits c = let size = c.text_size-size.ensures.size c.args.v.now in omega (arith, size, c.if-size.false)
