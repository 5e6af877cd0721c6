use Rattle.std.proofs.Common.{◌≡◌, ◌++◌, take}
use Rattle.std.specs.Prelude.{flat_map}
use Rattle.inline_certificate.specs.Text.{func_word}
use Rattle.inline_certificate.specs.Certificates.{AreFuncs}
use Rattle.inline_certificate.proofs.printing.push_funcs.Given as goal

abbrev pub invariant-loop-f : goal.invariant-loop-f
invariant-loop-f l = record {
  text : l.text.items ≡ l.initial.text.items ++ flat_map func_word (take l.f-index l.funcs);
  words : AreFuncs (take l.f-index l.funcs);
}
