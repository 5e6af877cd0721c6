use Rattle.std.proofs.Common.{◌≡◌, ◌++◌, List, length}
use Rattle.std.specs.Prelude.{flat_map}
use Rattle.oi_base.specs.declared.ids.FuncId.{FuncId}
use Rattle.inline_certificate.specs.Text.{func_word}
use Rattle.inline_certificate.specs.Certificates.{AreFuncs}
use Rattle.inline_certificate.proofs.lines.funcs.Given as goal

abbrev pub invariant-loop-rest : goal.invariant-loop-rest
invariant-loop-rest l = record {
  so_far : l.words ≡ flat_map func_word l.funcs.items ++ l.rest;
  words : AreFuncs l.funcs.items;
  others : (fs : List FuncId) → AreFuncs fs → l.words ≡ flat_map func_word fs → (more : List FuncId) × AreFuncs more × (l.rest ≡ flat_map func_word more);
}

abbrev pub decreases-loop-rest : goal.decreases-loop-rest
decreases-loop-rest l = length l.rest
