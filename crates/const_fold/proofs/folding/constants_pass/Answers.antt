use Rattle.std.proofs.Common.{◌≡◌, false, sym, ap, ◌∙◌, rules}
use Rattle.std.specs.List.{fold, list_any}
use Rattle.const_fold.specs.FoldConstants.{no_facts, block_noted, all_facts}
use Rattle.const_fold.specs.Shortening.{block_shortens}
use Rattle.const_fold.proofs.Unchanged.{nothing_folded}
use Rattle.const_fold.proofs.folding.constants_pass.Goals as goal

pub returns-then-not-any_shortens-clause-body : goal.returns-then-not-any_shortens-clause-body
returns-then-not-any_shortens-clause-body c =
    let none : all_facts c.args.b ≡ no_facts = ap (fold block_noted no_facts) (sym c.as_slice.ensures) ∙ sym c.in_ok-facts.ensures ∙ c.is_empty.ensures c.if-is_empty.true in
    let last : c.any_shortens.result ≡ false = search rules in
    let short : list_any block_shortens c.args.b.blocks ≡ false = ap (list_any block_shortens) (sym c.as_slice-then-is_empty.ensures) ∙ sym c.any_shortens.ensures ∙ last in
    nothing_folded c.args.b none short
