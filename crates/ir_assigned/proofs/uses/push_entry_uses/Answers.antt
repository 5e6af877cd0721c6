use Rattle.std.proofs.Common.{◌≡◌, ◌++◌, ℕ, None, Some, slice_get, sym, ap, ◌∙◌, subst}
use Rattle.std.specs.Prelude.{OnOk}
use Rattle.std.specs.Option.{option_copied}
use Rattle.std.proofs.lemmas.List.{append-nil}
use Rattle.ir_assigned.specs.Uses.{uses_of}
use Rattle.ir_assigned.proofs.Using.{entry_at, entry_past}
use Rattle.ir_assigned.proofs.uses.push_entry_uses.Goals as goal

pub returns-in_default-get : goal.returns-in_default-get
returns-in_default-get c =
    let past : slice_get c.args.blocks.now c.in-Some.b ≡ None = sym c.get-2.ensures.value ∙ ap option_copied c.in_default-get.is in
    sym (ap (λ us. c.args.uses.now.items ++ us) (entry_past c.args.labels.now c.args.blocks.now c.args.place c.args.entry.now c.in-Some.b (sym c.get.ensures ∙ c.in-Some.is) past) ∙ append-nil c.args.uses.now.items)

pub returns : goal.returns
returns c =
    let block = c.in-Some-get.block.now in
    let here : slice_get c.args.blocks.now c.in-Some.b ≡ Some block = sym c.get-2.ensures.value ∙ ap option_copied c.in-Some-get.is in
    subst (λ us. OnOk c.push_use.result (c.push_use.new.uses.items ≡ c.args.uses.now.items ++ us))
    (ap (λ (n : ℕ). uses_of (record { block = c.in-Some.b; at = n; place = c.args.place }) c.args.entry.now.value) c.len.ensures ∙ sym (entry_at c.args.labels.now c.args.blocks.now c.args.place c.args.entry.now c.in-Some.b block (sym c.get.ensures ∙ c.in-Some.is) here))
    c.push_use.ensures
