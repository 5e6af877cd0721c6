use Rattle.std.proofs.Common.{◌≡◌, drop, replicate, length}
use Rattle.frame_layout.specs.declared.homes.Home.TheVariants.{NoHome}
use Rattle.frame_layout.specs.Parts.{end_of_all}
use Rattle.frame_layout.specs.Homes.{with_homes}
use Rattle.frame_layout.proofs.homes.homes.Given as goal

abbrev pub invariant-loop-part : goal.invariant-loop-part
invariant-loop-part l =
    (end_of_all l.end (drop l.part-index l.parts) ≡ end_of_all 4 l.parts) × (with_homes l.homes.items l.end (drop l.part-index l.parts) ≡ with_homes (replicate l.regs NoHome) 4 l.parts) × (length l.homes.items ≡ l.regs)
