use Rattle.std.proofs.Common.{refl, []}
use Rattle.ir_printer.proofs.TextTokens.{text_tokens}
use Rattle.ir_printer.proofs.laws.a_text_has_the_tokens_of_its_marks.Goals as goal

pub returns : goal.returns
returns c n ms rest p h free = text_tokens n [] ms rest p refl h free
