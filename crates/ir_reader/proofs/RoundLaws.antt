-- The laws of one round of each loop.
use Rattle.std.proofs.Common.{◌≡◌, ℕ, Bool, true, false, ◌||◌, Option, Some, refl}
use Rattle.std.specs.Prelude.{codes}
use Rattle.ir_core.specs.declared.limits.TheConstants.{MOST_LENGTH}
use Rattle.ir_grammar.specs.declared.parts.Draft.{Draft}
use Rattle.ir_grammar.specs.Tokens.{stated}
use Rattle.ir_grammar.specs.Entities.{global_words, one_linkage, one_global_end, next_entity}
use Rattle.ir_grammar.proofs.Rules.{seq, or, done, law_one_word}
use Rattle.ir_grammar.proofs.LawsOfTokens.{is_sign, is_word, law_number}
use Rattle.ir_grammar.proofs.LawsOfAttributes.{law_note}
use Rattle.ir_grammar.proofs.LawsOfEntities as entities
use Rattle.ir_bodies.proofs.RoundLaws.{Consumes, no_any_params}

pub no_any_functions : entities.AnyFunctions false stated
no_any_functions e = absurd cc

pub one_more_word : (b : Bool) → Consumes (one_linkage b)
one_more_word b = (_, refl, seq (law_one_word global_words (codes "internal") true refl) (λ (i : Bool). done (b || i)) refl)

pub one_more_end : (a : Option ℕ) → Consumes (one_global_end stated a)
one_more_end a = (_, refl, seq (is_sign 44 refl) (λ (c : Unit). or (seq (is_word (codes "align") refl) (λ (u : Unit). seq (law_number (Some MOST_LENGTH)) (λ (n : ℕ). done (Some n)) refl) refl) (seq law_note (λ (n : Unit). done a) refl) refl refl) refl)

pub one_more_entity : (d : Draft) → Consumes (next_entity stated d d.declares)
one_more_entity d = (entities.z d.declares, refl, entities.law_next_entity stated d d.declares no_any_params no_any_functions)
