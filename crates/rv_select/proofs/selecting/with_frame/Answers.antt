use Rattle.std.proofs.Common.{◌≡◌, ◌≤◌, ◌*◌, ℕ, Bool, List, All, length, min, refl, sym, ap, ap₂, ◌∙◌, subst, arith}
use Rattle.rv_select.specs.declared.item.Item.{Item}
use Rattle.rv_select.specs.declared.item.Draft.{Draft}
use Rattle.rv_select.specs.Branches.{settled}
use Rattle.rv_select.specs.declared.selecting.TheConstants.{LARGEST_CODE}
use Rattle.rv_select.specs.Pending.{IsItem, IsDraft}
use Rattle.rv_select.specs.Heads.{head_in}
use Rattle.rv_select.specs.Code.{items_of}
use Rattle.rv_select.proofs.HeadOffsets.{drafted, headed, low_heads, code_is, count_is, choice_length, items_are}
use Rattle.rv_select.proofs.selecting.with_frame.Goals as goal

-- what is read through slices is what they are of
settled_over : (hs hs' : List ℕ) (ds ds' : List Draft) (ls : List Bool) → hs ≡ hs' → ds ≡ ds' → ls ≡ settled (head_in hs (length ds)) ds → ls ≡ settled (head_in hs' (length ds')) ds'
settled_over hs hs' ds ds' ls eh ed e = e ∙ ap₂ (λ (h : List ℕ) (d : List Draft). settled (head_in h (length d)) d) eh ed

items_over : (hs hs' : List ℕ) (ds ds' : List Draft) (ls : List Bool) (is : List Item) → hs ≡ hs' → ds ≡ ds' → is ≡ items_of (head_in hs (length ds)) ls ds → is ≡ items_of (head_in hs' (length ds')) ls ds'
items_over hs hs' ds ds' ls is eh ed e = e ∙ ap₂ (λ (h : List ℕ) (d : List Draft). items_of (head_in h (length d)) ls d) eh ed

pub settle-requires : goal.settle-requires
settle-requires c =
    let whole = drafted c.args.f.now c.args.b.now c.as_slice-blocks.result.now c.new-code.result c.push_prologue.new.code c.push_blocks.new.code c.as_slice-blocks.ensures c.new-code.ensures c.in_ok-push_prologue.ensures c.in_ok-heads.ensures.code in
    let heads = headed c.args.f.now c.args.b.now c.as_slice-blocks.result.now c.new-code.result c.push_prologue.new.code c.in_ok-heads.heads.items c.as_slice-blocks.ensures c.new-code.ensures c.in_ok-push_prologue.ensures c.in_ok-heads.ensures.heads in
    low_heads c.args.f.now c.args.b.now c.as_slice.result.now c.deref.result.now (c.as_slice.ensures.all ∙ whole) (c.deref.ensures.value ∙ heads)

pub returns-then-items-gt-MOST_ITEMS-clause-refused : goal.returns-then-items-gt-MOST_ITEMS-clause-refused
returns-then-items-gt-MOST_ITEMS-clause-refused c =
    let whole = drafted c.args.f.now c.args.b.now c.as_slice-blocks.result.now c.new-code.result c.push_prologue.new.code c.push_blocks.new.code c.as_slice-blocks.ensures c.new-code.ensures c.in_ok-push_prologue.ensures c.in_ok-heads.ensures.code in
    let heads = headed c.args.f.now c.args.b.now c.as_slice-blocks.result.now c.new-code.result c.push_prologue.new.code c.in_ok-heads.heads.items c.as_slice-blocks.ensures c.new-code.ensures c.in_ok-push_prologue.ensures c.in_ok-heads.ensures.heads in
    let chosen = settled_over c.deref.result.now c.in_ok-heads.heads.items c.as_slice.result.now c.push_blocks.new.code c.in_ok-choice.choice c.deref.ensures.value c.as_slice.ensures.all c.in_ok-choice.ensures in
    let count = count_is c.args.f.now c.args.b.now c.push_blocks.new.code c.in_ok-heads.heads.items whole heads c.in_ok-choice.choice chosen in
    let few = c.items.ensures in
    let again = c.items-then-items-gt-MOST_ITEMS.ensures in
    let above = c.if-items-gt-MOST_ITEMS.true in
    (refl, omega arith, c.saturating_mul.ensures ∙ ap (λ (n : ℕ). min n 18446744073709551615) (omega arith))

pub items-requires-2-clause-same : goal.items-requires-2-clause-same
items-requires-2-clause-same c =
    let whole = drafted c.args.f.now c.args.b.now c.as_slice-blocks.result.now c.new-code.result c.push_prologue.new.code c.push_blocks.new.code c.as_slice-blocks.ensures c.new-code.ensures c.in_ok-push_prologue.ensures c.in_ok-heads.ensures.code in
    let heads = headed c.args.f.now c.args.b.now c.as_slice-blocks.result.now c.new-code.result c.push_prologue.new.code c.in_ok-heads.heads.items c.as_slice-blocks.ensures c.new-code.ensures c.in_ok-push_prologue.ensures c.in_ok-heads.ensures.heads in
    let chosen = settled_over c.deref.result.now c.in_ok-heads.heads.items c.as_slice.result.now c.push_blocks.new.code c.in_ok-choice.choice c.deref.ensures.value c.as_slice.ensures.all c.in_ok-choice.ensures in
    ap (λ (ds : List Draft). length ds) c.as_slice-2.ensures.all ∙ sym (choice_length c.args.f.now c.args.b.now c.push_blocks.new.code c.in_ok-heads.heads.items whole heads c.in_ok-choice.choice chosen)

pub items-requires-2-clause-few : goal.items-requires-2-clause-few
items-requires-2-clause-few c =
    let whole = drafted c.args.f.now c.args.b.now c.as_slice-blocks.result.now c.new-code.result c.push_prologue.new.code c.push_blocks.new.code c.as_slice-blocks.ensures c.new-code.ensures c.in_ok-push_prologue.ensures c.in_ok-heads.ensures.code in
    let heads = headed c.args.f.now c.args.b.now c.as_slice-blocks.result.now c.new-code.result c.push_prologue.new.code c.in_ok-heads.heads.items c.as_slice-blocks.ensures c.new-code.ensures c.in_ok-push_prologue.ensures c.in_ok-heads.ensures.heads in
    let chosen = settled_over c.deref.result.now c.in_ok-heads.heads.items c.as_slice.result.now c.push_blocks.new.code c.in_ok-choice.choice c.deref.ensures.value c.as_slice.ensures.all c.in_ok-choice.ensures in
    let same = ap (λ (ds : List Draft). length ds) c.as_slice-2.ensures.all in
    omega (arith, same, choice_length c.args.f.now c.args.b.now c.push_blocks.new.code c.in_ok-heads.heads.items whole heads c.in_ok-choice.choice chosen, c.items.ensures, c.if-items-gt-MOST_ITEMS.false)

pub items-requires-2-clause-heads : goal.items-requires-2-clause-heads
items-requires-2-clause-heads c =
    let whole = drafted c.args.f.now c.args.b.now c.as_slice-blocks.result.now c.new-code.result c.push_prologue.new.code c.push_blocks.new.code c.as_slice-blocks.ensures c.new-code.ensures c.in_ok-push_prologue.ensures c.in_ok-heads.ensures.code in
    let heads = headed c.args.f.now c.args.b.now c.as_slice-blocks.result.now c.new-code.result c.push_prologue.new.code c.in_ok-heads.heads.items c.as_slice-blocks.ensures c.new-code.ensures c.in_ok-push_prologue.ensures c.in_ok-heads.ensures.heads in
    low_heads c.args.f.now c.args.b.now c.as_slice-2.result.now c.deref-2.result.now (c.as_slice-2.ensures.all ∙ whole) (c.deref-2.ensures.value ∙ heads)

pub of-requires-clause-items : goal.of-requires-clause-items
of-requires-clause-items c =
    let whole = drafted c.args.f.now c.args.b.now c.as_slice-blocks.result.now c.new-code.result c.push_prologue.new.code c.push_blocks.new.code c.as_slice-blocks.ensures c.new-code.ensures c.in_ok-push_prologue.ensures c.in_ok-heads.ensures.code in
    let heads = headed c.args.f.now c.args.b.now c.as_slice-blocks.result.now c.new-code.result c.push_prologue.new.code c.in_ok-heads.heads.items c.as_slice-blocks.ensures c.new-code.ensures c.in_ok-push_prologue.ensures c.in_ok-heads.ensures.heads in
    let chosen = settled_over c.deref.result.now c.in_ok-heads.heads.items c.as_slice.result.now c.push_blocks.new.code c.in_ok-choice.choice c.deref.ensures.value c.as_slice.ensures.all c.in_ok-choice.ensures in
    let items = items_over c.deref-2.result.now c.in_ok-heads.heads.items c.as_slice-2.result.now c.push_blocks.new.code c.in_ok-choice.choice c.in_ok-items.items.items c.deref-2.ensures.value c.as_slice-2.ensures.all c.in_ok-items.ensures in
    let are = subst (λ (ds : List Draft). All IsDraft ds) c.as_slice.ensures.all c.as_slice.ensures.drafts in
    subst (λ (is : List Item). All IsItem is) (sym items) (items_are c.args.f.now c.args.b.now c.push_blocks.new.code c.in_ok-heads.heads.items whole heads c.in_ok-choice.choice chosen (omega (arith, c.items.ensures, c.if-items-gt-MOST_ITEMS.false)) are)

pub of-requires-clause-fits : goal.of-requires-clause-fits
of-requires-clause-fits c =
    let whole = drafted c.args.f.now c.args.b.now c.as_slice-blocks.result.now c.new-code.result c.push_prologue.new.code c.push_blocks.new.code c.as_slice-blocks.ensures c.new-code.ensures c.in_ok-push_prologue.ensures c.in_ok-heads.ensures.code in
    let heads = headed c.args.f.now c.args.b.now c.as_slice-blocks.result.now c.new-code.result c.push_prologue.new.code c.in_ok-heads.heads.items c.as_slice-blocks.ensures c.new-code.ensures c.in_ok-push_prologue.ensures c.in_ok-heads.ensures.heads in
    let chosen = settled_over c.deref.result.now c.in_ok-heads.heads.items c.as_slice.result.now c.push_blocks.new.code c.in_ok-choice.choice c.deref.ensures.value c.as_slice.ensures.all c.in_ok-choice.ensures in
    let items = items_over c.deref-2.result.now c.in_ok-heads.heads.items c.as_slice-2.result.now c.push_blocks.new.code c.in_ok-choice.choice c.in_ok-items.items.items c.deref-2.ensures.value c.as_slice-2.ensures.all c.in_ok-items.ensures in
    let same = code_is c.args.f.now c.args.b.now c.push_blocks.new.code c.in_ok-heads.heads.items whole heads c.in_ok-choice.choice c.in_ok-items.items.items chosen items in
    subst (λ (is : List Item). 4 * length is ≤ LARGEST_CODE) (sym same) (omega (arith, count_is c.args.f.now c.args.b.now c.push_blocks.new.code c.in_ok-heads.heads.items whole heads c.in_ok-choice.choice chosen, c.items.ensures, c.if-items-gt-MOST_ITEMS.false))

pub returns-clause-code : goal.returns-clause-code
returns-clause-code c =
    let whole = drafted c.args.f.now c.args.b.now c.as_slice-blocks.result.now c.new-code.result c.push_prologue.new.code c.push_blocks.new.code c.as_slice-blocks.ensures c.new-code.ensures c.in_ok-push_prologue.ensures c.in_ok-heads.ensures.code in
    let heads = headed c.args.f.now c.args.b.now c.as_slice-blocks.result.now c.new-code.result c.push_prologue.new.code c.in_ok-heads.heads.items c.as_slice-blocks.ensures c.new-code.ensures c.in_ok-push_prologue.ensures c.in_ok-heads.ensures.heads in
    let chosen = settled_over c.deref.result.now c.in_ok-heads.heads.items c.as_slice.result.now c.push_blocks.new.code c.in_ok-choice.choice c.deref.ensures.value c.as_slice.ensures.all c.in_ok-choice.ensures in
    let items = items_over c.deref-2.result.now c.in_ok-heads.heads.items c.as_slice-2.result.now c.push_blocks.new.code c.in_ok-choice.choice c.in_ok-items.items.items c.deref-2.ensures.value c.as_slice-2.ensures.all c.in_ok-items.ensures in
    c.of.ensures ∙ code_is c.args.f.now c.args.b.now c.push_blocks.new.code c.in_ok-heads.heads.items whole heads c.in_ok-choice.choice c.in_ok-items.items.items chosen items

pub returns-clause-fits : goal.returns-clause-fits
returns-clause-fits c =
    let whole = drafted c.args.f.now c.args.b.now c.as_slice-blocks.result.now c.new-code.result c.push_prologue.new.code c.push_blocks.new.code c.as_slice-blocks.ensures c.new-code.ensures c.in_ok-push_prologue.ensures c.in_ok-heads.ensures.code in
    let heads = headed c.args.f.now c.args.b.now c.as_slice-blocks.result.now c.new-code.result c.push_prologue.new.code c.in_ok-heads.heads.items c.as_slice-blocks.ensures c.new-code.ensures c.in_ok-push_prologue.ensures c.in_ok-heads.ensures.heads in
    let chosen = settled_over c.deref.result.now c.in_ok-heads.heads.items c.as_slice.result.now c.push_blocks.new.code c.in_ok-choice.choice c.deref.ensures.value c.as_slice.ensures.all c.in_ok-choice.ensures in
    omega (arith, count_is c.args.f.now c.args.b.now c.push_blocks.new.code c.in_ok-heads.heads.items whole heads c.in_ok-choice.choice chosen, c.items.ensures, c.if-items-gt-MOST_ITEMS.false)

pub returns-clause-items : goal.returns-clause-items
returns-clause-items c =
    let whole = drafted c.args.f.now c.args.b.now c.as_slice-blocks.result.now c.new-code.result c.push_prologue.new.code c.push_blocks.new.code c.as_slice-blocks.ensures c.new-code.ensures c.in_ok-push_prologue.ensures c.in_ok-heads.ensures.code in
    let heads = headed c.args.f.now c.args.b.now c.as_slice-blocks.result.now c.new-code.result c.push_prologue.new.code c.in_ok-heads.heads.items c.as_slice-blocks.ensures c.new-code.ensures c.in_ok-push_prologue.ensures c.in_ok-heads.ensures.heads in
    let chosen = settled_over c.deref.result.now c.in_ok-heads.heads.items c.as_slice.result.now c.push_blocks.new.code c.in_ok-choice.choice c.deref.ensures.value c.as_slice.ensures.all c.in_ok-choice.ensures in
    let items = items_over c.deref-2.result.now c.in_ok-heads.heads.items c.as_slice-2.result.now c.push_blocks.new.code c.in_ok-choice.choice c.in_ok-items.items.items c.deref-2.ensures.value c.as_slice-2.ensures.all c.in_ok-items.ensures in
    let are = subst (λ (ds : List Draft). All IsDraft ds) c.as_slice.ensures.all c.as_slice.ensures.drafts in
    let same = code_is c.args.f.now c.args.b.now c.push_blocks.new.code c.in_ok-heads.heads.items whole heads c.in_ok-choice.choice c.in_ok-items.items.items chosen items in
    subst (λ (is : List Item). All IsItem is) (sym items ∙ same) (items_are c.args.f.now c.args.b.now c.push_blocks.new.code c.in_ok-heads.heads.items whole heads c.in_ok-choice.choice chosen (omega (arith, c.items.ensures, c.if-items-gt-MOST_ITEMS.false)) are)
