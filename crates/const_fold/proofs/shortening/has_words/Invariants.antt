use Rattle.std.proofs.Common.{◌≡◌, drop}
use Rattle.std.specs.List.{list_any}
use Rattle.const_fold.specs.Shortening.{is_word}
use Rattle.const_fold.proofs.shortening.has_words.Given as goal

abbrev pub invariant-loop-term : goal.invariant-loop-term
invariant-loop-term l = list_any is_word (drop l.term-index l.terms) ≡ list_any is_word l.terms
