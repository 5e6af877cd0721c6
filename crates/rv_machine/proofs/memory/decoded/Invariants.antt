use Rattle.std.proofs.Common.{◌≡◌, ℕ, ◌*◌, ◌<◌, length, None, slice_index_or}
use Rattle.rv_isa.specs.Decode.{decode_of}
use Rattle.rv_isa.specs.Memory.{read}
use Rattle.rv_machine.specs.Bytes.{held}
use Rattle.rv_machine.proofs.memory.decoded.Given as goal

abbrev pub invariant-loop-k : goal.invariant-loop-k
invariant-loop-k l = record {
  words : length l.code.items ≡ l.k;
  each : (k : ℕ) → k < length l.code.items → slice_index_or l.code.items k None ≡ decode_of (read (held l.text) 4 (4 * k));
}
