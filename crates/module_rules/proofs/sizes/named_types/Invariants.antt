use Rattle.std.proofs.Common.{◌≡◌, ◌++◌, map, drop}
use Rattle.ir_core.specs.declared.ty.TypeName.{TypeName}
use Rattle.ir_core.specs.declared.ty.IrType.{Named}
use Rattle.module_rules.proofs.sizes.named_types.Given as goal

abbrev pub invariant-loop-name : goal.invariant-loop-name
invariant-loop-name l =
    l.types ++ map (λ (x : TypeName). Named x) (drop l.name-index l.names) ≡ map (λ (x : TypeName). Named x) l.names
