use Rattle.std.proofs.Common.{◌<◌, List, [], map, take, replicate, length, get_or, refl, sym, ap, ◌∙◌, arith}
use Rattle.std.specs.List.{filter}
use Rattle.oi_base.specs.declared.ids.FuncId.{FuncId}
use Rattle.component_split.specs.declared.parts.Member.{Member}
use Rattle.component_split.specs.Members.{funcs_in, is_of, put_at}
use Rattle.component_split.specs.Over.{func_numbers}
use Rattle.component_split.proofs.FuncSearch.{map_length}
use Rattle.component_split.proofs.Dealing.{map_put, map_empty, none_dealt, deal_member}
use Rattle.component_split.proofs.parts.deal_funcs.Goals as goal

pub loop-member-init : goal.loop-member-init
loop-member-init c =
    let n = map_length c.args.heads.now in
    ap (λ (yss : List (List FuncId)). map func_numbers yss) c.in_ok-lists.ensures ∙ map_empty (λ (f : FuncId). f.0) (length c.args.heads.now) ∙ ap (λ k. replicate k []) (sym n) ∙ none_dealt (λ r. funcs_in (filter (is_of r) (take 0 c.args.members.now))) (func_numbers c.args.heads.now) (λ r. refl)

pub loop-member-preserved : goal.loop-member-preserved
loop-member-preserved c =
    let ms = c.args.members.now in
    let i = c.loop-member.member-index in
    let d : Member = record { func = record { 0 = 0 }; low = record { 0 = 0 } } in
    let rs = func_numbers c.args.heads.now in
    let k = c.place_in.result in
    let m = get_or ms i d in
    let n = map_length c.args.heads.now in
    let w = c.place_in.ensures.in_range in
    let w2 : k < length rs = omega (arith, n, w) in
    ap (λ (yss : List (List FuncId)). map func_numbers yss) c.in_ok-put.ensures ∙ map_put (λ (f : FuncId). f.0) k m.func c.loop-member.lists.items ∙ ap (put_at k m.func.0) c.loop-member.invariant ∙ deal_member ms i d rs k c.loop-member-test.true c.requires.rising w2 c.place_in.ensures.here
