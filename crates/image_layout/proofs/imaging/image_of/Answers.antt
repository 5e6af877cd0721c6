use Rattle.std.proofs.Common.{sym, subst}
use Rattle.elf_object.specs.Image.{IsImage}
use Rattle.image_layout.specs.Addresses.{link_in}
use Rattle.image_layout.proofs.Bounds.{within_bounds}
use Rattle.image_layout.proofs.LinkedAlike.{made_image}
use Rattle.image_layout.proofs.PlaceableGlobals.{all_placeable}
use Rattle.image_layout.proofs.imaging.image_of.Goals as goal

pub data_bytes-requires-clause-globals : goal.data_bytes-requires-clause-globals
data_bytes-requires-clause-globals c = all_placeable c.args.m.now c.requires.valid

pub symbols-requires : goal.symbols-requires
symbols-requires c = record { globals = all_placeable c.args.m.now c.requires.valid }

pub invariant_of-result : goal.invariant_of-result
invariant_of-result c =
    let m = c.args.m.now in
    let codes = c.args.codes.now in
    let made = made_image m codes (link_in c.in_ok-addresses.addresses) c.in_ok-addresses.ensures.links c.requires.codes c.in_ok-text.text c.in_ok-data_bytes.data_bytes c.in_ok-symbols.symbols c.in_ok-text.ensures c.in_ok-data_bytes.ensures c.in_ok-symbols.ensures in
    subst IsImage (sym made) (within_bounds m c.requires.proper c.requires.valid codes c.requires.codes c.requires.items c.requires.fits)

pub returns : goal.returns
returns c =
    made_image c.args.m.now c.args.codes.now (link_in c.in_ok-addresses.addresses) c.in_ok-addresses.ensures.links c.requires.codes c.in_ok-text.text c.in_ok-data_bytes.data_bytes c.in_ok-symbols.symbols c.in_ok-text.ensures c.in_ok-data_bytes.ensures c.in_ok-symbols.ensures
