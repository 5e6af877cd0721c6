use Rattle.std.proofs.Common.{◌≡◌, length}
use Rattle.ir_grammar.specs.Forms.{rounds}
use Rattle.ir_grammar.specs.declared.parts.Draft.{Draft}
use Rattle.ir_grammar.specs.Tokens.{stated}
use Rattle.ir_grammar.specs.Entities.{no_entities, next_set, next_entity, text_end}
use Rattle.ir_reader.proofs.module.text_form.Given as goal

abbrev pub invariant-loop-reader : goal.invariant-loop-reader
invariant-loop-reader l = (rounds (λ (x : Draft). next_set x.declares) (λ (x : Draft). next_entity stated x x.declares) (λ (x : Draft). text_end x) l.draft).parse l.reader ≡ (rounds (λ (x : Draft). next_set x.declares) (λ (x : Draft). next_entity stated x x.declares) (λ (x : Draft). text_end x) no_entities).parse l.initial.reader

abbrev pub decreases-loop-reader : goal.decreases-loop-reader
decreases-loop-reader l = length l.reader.tokens
