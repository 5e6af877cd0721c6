use Rattle.std.proofs.Common.{◌≡◌, ◌≤◌, ℕ, List, ◌++◌, length, sym, ap, ◌∙◌, arith}
use Rattle.std.specs.List.{flat_map}
use Rattle.std.proofs.lemmas.List.{append-nil}
use Rattle.std.proofs.lemmas.Option.{slice_get_past}
use Rattle.ir_core.specs.declared.flat.FlatBlock.{FlatBlock}
use Rattle.frame_layout.specs.Offsets.{Offsets}
use Rattle.rv_select.specs.declared.item.Draft.{Draft}
use Rattle.rv_select.specs.Lowered.{give_phi, give_phis, phis_of}
use Rattle.rv_select.proofs.ends.push_give_to.Goals as goal

nothing : (code : List Draft) (f : Offsets) (blocks : List FlatBlock) (n to : ℕ) → length blocks ≤ to → code ≡ code ++ give_phis f blocks n to
nothing code f blocks n to past = sym (append-nil code) ∙ ap (λ k. code ++ flat_map (give_phi f n) (phis_of k)) (sym (slice_get_past blocks to past))

pub returns-in-None : goal.returns-in-None
returns-in-None c = nothing c.args.code.now c.args.f.now c.args.blocks.now c.args.n c.args.to.0 (omega (arith, c.in-None.ensures))
