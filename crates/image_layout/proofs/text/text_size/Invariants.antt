use Rattle.std.proofs.Common.{◌≡◌, ◌≤◌, ◌+◌, ◌*◌, length, take, drop, All}
use Rattle.oi_base.specs.declared.ids.FuncId.{FuncId}
use Rattle.std.specs.Prelude.{List}
use Rattle.rv_select.specs.declared.item.Item.{Item}
use Rattle.rv_select.specs.Pending.{IsItem}
use Rattle.image_layout.proofs.CodesLeft.{all_items}
use Rattle.image_layout.proofs.text.text_size.Given as goal

abbrev pub invariant-loop-code : goal.invariant-loop-code
invariant-loop-code l = record {
  sum : l.size + 4 * length (all_items (drop l.code-index l.codes)) ≡ 16 + 4 * length (all_items l.codes);
  low : l.size ≤ 16 + 1000000 * l.code-index;
  items : All (λ (c : FuncId × List Item). All IsItem c.1) (take l.code-index l.codes);
}
