use Rattle.std.proofs.Common.{ℕ, ◌<◌}
use Rattle.std.specs.Prelude.{slice_index_or}
use Rattle.rv_select.specs.declared.item.Item.{Item}
use Rattle.image_tests.specs.Words.{IsWord}
use Rattle.image_tests.proofs.codes.are_words.Given as goal

abbrev pub invariant-loop-item : goal.invariant-loop-item
invariant-loop-item l = (k : ℕ) (d : Item) → k < l.item-index → IsWord (slice_index_or l.items k d)
