use Rattle.std.proofs.Common.{◌++◌, ap, ◌∙◌, ℕ, List}
use Rattle.std.specs.Int.{w32, to_le_bytes}
use Rattle.ir_core.specs.Constants.{global_number as global_position}
use Rattle.rv_select.specs.Linked.{address_of}
use Rattle.image_layout.specs.Addresses.{link_in}
use Rattle.image_layout.proofs.GlobalNames.{global_found}
use Rattle.image_layout.proofs.WrittenBytes.{address_written}
use Rattle.image_layout.proofs.initialisers.push_address.Goals as goal

pub returns : goal.returns
returns c m s e =
    let link = link_in c.args.addresses.now in
    let number = c.number_of.ensures ∙ global_found m c.args.addresses.now.names c.args.name e in
    let address = c.address_of-address.ensures ∙ ap (λ (g : ℕ). address_of link g c.args.offset) number in
    c.in_ok-extend_from_slice.ensures.items
    ∙ ap (λ (bs : List ℕ). c.args.bytes.now.items ++ bs) (c.to_le_bytes.ensures ∙ ap (to_le_bytes w32) address ∙ address_written link s (global_position m c.args.name) c.args.offset)
