use Rattle.std.proofs.Common.{◌≡◌, map, drop, Option}
use Rattle.std.specs.Option.{option_map}
use Rattle.ir_core.specs.declared.layout.Layout.{Layout}
use Rattle.ir_core.specs.declared.ty.TypeName.{TypeName}
use Rattle.ir_core.specs.Capped.{capped}
use Rattle.ir_core.specs.Sizes.{layout_by, placed, empty}
use Rattle.ir_core.specs.Known.{Knows}
use Rattle.ir_core.proofs.sizes.+layouts.Given as goal

abbrev pub invariant-fields_of-loop-field : goal.invariant-fields_of-loop-field
invariant-fields_of-loop-field l = (l.before ≡ capped l.before) × ((names : TypeName → Option Layout) → Knows l.table names →
    option_map capped (placed l.before (map (layout_by names) (drop l.field-index l.fields))) ≡ option_map capped (placed empty (map (layout_by names) l.fields)))
