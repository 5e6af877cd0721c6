use Rattle.std.proofs.Common.{◌++◌, [], ◌∷◌, set, ap, ◌∙◌}
use Rattle.component_split.proofs.Dealing.{put_is}
use Rattle.component_split.proofs.parts.put.Goals as goal

pub returns : goal.returns
returns g c =
    let ls = c.args.lists.now.items in
    ap (λ ys. set ls c.args.at ys) (c.in_ok-push.ensures.ok ∙ ap (λ ys. ys ++ c.args.item ∷ []) c.index_mut.ensures.value) ∙ put_is c.args.at c.args.item ls c.index_mut.result.now c.requires
