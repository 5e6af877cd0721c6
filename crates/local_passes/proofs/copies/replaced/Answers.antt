use Rattle.std.proofs.Common.{map, refl, ap, ◌∙◌}
use Rattle.local_passes.specs.CopyTables.{phis_copied, ends_told}
use Rattle.local_passes.proofs.CopySweeps.{code_once, copies_done}
use Rattle.local_passes.proofs.copies.replaced.Goals as goal

pub sweep_blocks-requires : goal.sweep_blocks-requires
sweep_blocks-requires c = record { once = code_once c.args.b c.requires.formed }

pub returns : goal.returns
returns c =
    let s = c.in_ok-blocks.field-0 in
    copies_done c.args.b (record { params = c.args.b.params; regs = c.args.b.regs; blocks = c.in_ok-blocks-2.blocks }) s c.in_ok-blocks-2.blocks c.in_ok-blocks.ensures.swept
    (c.in_ok-blocks-2.ensures ∙ ap (λ ss. map (phis_copied (ends_told s.table.definitions.items ss)) s.blocks) c.as_slice.ensures.value) refl
