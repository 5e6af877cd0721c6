use Rattle.std.proofs.Common.{◌≡◌, ◌≤◌, ◌<◌, sym, ◌∙◌, subst, arith, pos, length}
use Rattle.std.proofs.lemmas.Int.{ints}
use Rattle.ir_core.specs.declared.limits.TheConstants.{LARGEST}
use Rattle.ir_core.specs.declared.ty.IrType.{IrType}
use Rattle.ir_core.specs.Sizes.{IsLaid, size, fields}
use Rattle.ir_core.specs.ValidConsts.{const_index}
use Rattle.module_rules.proofs.InnerTypes.{into_laid, into_small, small_size}
use Rattle.ir_verifier.proofs.OffsetLaws.{to_item, field_within}
use Rattle.ir_verifier.proofs.offsets.distance_by.Goals as goal

pub moves-requires-clause-laid : goal.moves-requires-clause-laid
moves-requires-clause-laid c =
    let defs = c.args.m.now.types.defs in
    let i = const_index c.args.index.now in
    subst (IsLaid defs) (sym c.get.ensures) (into_laid defs c.args.at.now i c.in-Array.item (to_item defs c.args.at.now i c.in-Array.field-0 c.in-Array.item (sym c.resolved.ensures ∙ c.in-Array.is)) c.requires.laid)

pub moves-requires-clause-small : goal.moves-requires-clause-small
moves-requires-clause-small c =
    let defs = c.args.m.now.types.defs in
    let i = const_index c.args.index.now in
    subst (λ (u : IrType). size defs u ≤ LARGEST) (sym c.get.ensures)
    (small_size defs c.in-Array.item (into_small defs c.args.at.now i c.in-Array.item (to_item defs c.args.at.now i c.in-Array.field-0 c.in-Array.item (sym c.resolved.ensures ∙ c.in-Array.is)) c.requires.small))

pub field_offset-requires-clause-field : goal.field_offset-requires-clause-field
field_offset-requires-clause-field c =
    let r = c.requires.leads in
    let k = field_within c.args.m.now.types.defs c.args.at.now c.args.index.now c.in-Struct.field-0 r.0 (sym c.resolved.ensures ∙ c.in-Struct.is) r.1 c.requires.fits in
    let number : c.args.index.now.count ≡ pos k.0 = k.1 in
    let small : k.0 < 4294967296 = k.2 in
    let lt : k.0 < length (fields c.args.m.now.types.defs c.args.at.now) = k.3 in
    omega (arith, ints)
