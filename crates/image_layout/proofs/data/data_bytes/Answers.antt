use Rattle.std.proofs.Common.{◌≡◌, ◌-◌, ◌+◌, ◌<◌, ◌≤◌, ◌++◌, ◌∷◌, ℕ, List, drop, length, map, replicate, append-nil, slice_index_or, sym, ap, ◌∙◌, subst, arith}
use Rattle.std.specs.Int.{next_multiple_of}
use Rattle.std.proofs.lemmas.List.{drop_more, drop_all}
use Rattle.ir_core.specs.declared.module.GlobalVar.{GlobalVar}
use Rattle.ir_core.specs.Constants.{global_block, global_memory}
use Rattle.image_layout.specs.Addresses.{link_in}
use Rattle.image_layout.specs.DataBytes.{bytes_from}
use Rattle.image_layout.proofs.GlobalBytes.{one_written}
use Rattle.image_layout.proofs.data.data_bytes.Goals as goal

pub loop-global-preserved : goal.loop-global-preserved
loop-global-preserved c =
    let m = c.args.m.now in
    let l = link_in c.args.addresses.now in
    let i = c.loop-global.global-index in
    let g = c.global-item.result in
    let bytes = c.loop-global.bytes.items in
    let rest = drop (i + 1) m.globals in
    let within = subst (λ (gs : List GlobalVar). i < length gs) c.as_slice-global-items.ensures c.loop-global-test.true in
    let is : g ≡ slice_index_or m.globals i g = subst (λ (gs : List GlobalVar). g ≡ slice_index_or gs i g) c.as_slice-global-items.ensures c.global-item.is in
    let left : drop i m.globals ≡ g ∷ rest = drop_more m.globals i g within ∙ ap (λ (x : GlobalVar). x ∷ rest) (sym is) in
    let all = bytes_from l 0 (global_memory m) in
    let before = subst (λ (gs : List GlobalVar). bytes ++ bytes_from l (length bytes) (map (global_block m) gs) ≡ all) left c.loop-global.invariant in
    let whole : length bytes - 0 ≡ length bytes = omega arith in
    let padded =
    c.in_ok-push_padding.ensures ∙ ap (λ (n : ℕ). bytes ++ replicate (next_multiple_of n c.alignment.result - n) 0) whole
    ∙ ap (λ (a : ℕ). bytes ++ replicate (next_multiple_of (length bytes) a - length bytes) 0) c.alignment.ensures in
    one_written l (global_block m g) (map (global_block m) rest) bytes _ _ all padded c.in_ok-push_init.ensures before

pub returns : goal.returns
returns c =
    let m = c.args.m.now in
    let l = link_in c.args.addresses.now in
    let bytes = c.loop-global.bytes.items in
    let past = subst (λ (gs : List GlobalVar). length gs ≤ c.loop-global.global-index) c.as_slice-global-items.ensures c.loop-global-test.false in
    let all = bytes_from l 0 (global_memory m) in
    c.from_vec.ensures ∙ sym (append-nil bytes)
    ∙ subst (λ (gs : List GlobalVar). bytes ++ bytes_from l (length bytes) (map (global_block m) gs) ≡ all) (drop_all c.loop-global.global-index m.globals past) c.loop-global.invariant
