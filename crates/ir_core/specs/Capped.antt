-- Sizes above the limit as one number.
use Rattle.std.specs.Prelude.{min}
use Rattle.ir_core.specs.declared.limits.TheConstants.{TOO_LARGE}
use Rattle.ir_core.specs.declared.layout.Layout.{Layout}

-- a layout with a size above 16,777,216 written as 16,777,217
abbrev pub capped : Layout → Layout
capped l = record { size = min l.size TOO_LARGE; align = l.align }
