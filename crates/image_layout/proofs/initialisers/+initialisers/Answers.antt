use Rattle.std.proofs.Common.{rules, ◌≡◌, ◌≤◌, ◌+◌, ◌++◌, ◌∷◌, ℕ, List, All, None, drop, length, map, replicate, OnOk, of_z, to_z, sym, ap, ◌∙◌, subst}
use Rattle.std.specs.Int.{w128}
use Rattle.std.specs.List.{flat_map}
use Rattle.std.proofs.lemmas.List.{drop_more, drop_all}
use Rattle.oi_base.specs.Words.{modulus, word_of}
use Rattle.ir_core.specs.declared.constant.Const.{Const}
use Rattle.ir_core.specs.declared.constant.TypedConst.{TypedConst}
use Rattle.ir_core.specs.declared.ty.IrType.{IrType}
use Rattle.ir_core.specs.Constants.{width_of, scalar_of, global_number as global_position, filled_up, initial_bytes}
use Rattle.ir_core.specs.Formed.{IsAlign}
use Rattle.ir_core.specs.Memory.{At, scalar_size, octets, stored}
use Rattle.ir_core.specs.Parts.{const_types}
use Rattle.ir_core.specs.Sizes.{size}
use Rattle.ir_core.specs.ValidConsts.{IndicesFit, gep_offset}
use Rattle.ir_safety.proofs.OperandMeanings.{offset_of_path}
use Rattle.ir_safety.proofs.TypeSizes.{aligned_well}
use Rattle.module_rules.specs.TypeFaults.{typed_const_types}
use Rattle.image_layout.specs.Addresses.{link_in}
use Rattle.image_layout.specs.DataBytes.{byte_in}
use Rattle.image_layout.specs.Initialisers.{HasBytes, IsPart, fields_from}
use Rattle.image_layout.proofs.InitialParts.{part_bytes, array_bytes, array_parts, struct_bytes, struct_parts, array_types, struct_types, one_of_all}
use Rattle.image_layout.proofs.StructBytes.{next_field, all_filled}
use Rattle.image_layout.proofs.WrittenBytes.{ok_too, written_too, numbers_written, blank_written}
use Rattle.image_layout.proofs.initialisers.+initialisers.Goals as goal

pub push_elements-push_init-requires : goal.push_elements-push_init-requires
push_elements-push_init-requires t c =
    let items = c.args.items.now in
    let i = c.loop-item.item-index in
    let item = c.item-item.result in
    let part = subst (IsPart c.args.m.now) (sym c.item-item.is) (c.requires.items i item c.loop-item-test.true) in
    let within : length (typed_const_types item) ≤ length (flat_map typed_const_types items) =
    subst (λ (x : TypedConst). length (typed_const_types x) ≤ length (flat_map typed_const_types items)) (sym c.item-item.is) (one_of_all typed_const_types items i item c.loop-item-test.true) in
    (search rules, (part.1, c.requires.names))

pub push_init-gep_offset-offset-requires-clause-fit :
    goal.push_init-gep_offset-offset-requires-clause-fit
push_init-gep_offset-offset-requires-clause-fit t c =
    let h = subst (HasBytes c.args.m.now c.args.t.now) c.in-Gep.is c.requires.bytes in
    subst IndicesFit (sym c.as_slice-in-Gep.ensures) h.3

pub push_init-push_elements-requires : goal.push_init-push_elements-requires
push_init-push_elements-requires t c =
    let m = c.args.m.now in
    let items = c.in-Array.items in
    let parts = array_parts m items c.args.t.now (subst (HasBytes m c.args.t.now) c.in-Array.is c.requires.bytes) in
    let same : length (flat_map typed_const_types c.as_slice-in-Array.result.now) ≡ length (const_types c.args.init.now) =
    ap (λ (xs : List TypedConst). length (flat_map typed_const_types xs)) c.as_slice-in-Array.ensures
    ∙ sym (ap (λ (ts : List IrType). length ts) (array_types items))
    ∙ sym (ap (λ (k : Const). length (const_types k)) c.in-Array.is) in
    (search rules, (subst (All (IsPart m)) (sym c.as_slice-in-Array.ensures) parts, c.requires.names))

pub push_init-push_struct-requires : goal.push_init-push_struct-requires
push_init-push_struct-requires t c =
    let m = c.args.m.now in
    let fields = c.in-Struct.fields in
    let parts = struct_parts m fields c.args.t.now (subst (HasBytes m c.args.t.now) c.in-Struct.is c.requires.bytes) in
    let same : length (flat_map typed_const_types c.as_slice-in-Struct.result.now) ≡ length (const_types c.args.init.now) =
    ap (λ (xs : List TypedConst). length (flat_map typed_const_types xs)) c.as_slice-in-Struct.ensures
    ∙ sym (ap (λ (ts : List IrType). length ts) (struct_types fields))
    ∙ sym (ap (λ (k : Const). length (const_types k)) c.in-Struct.is) in
    (search rules, (parts.0, (subst (All (IsPart m)) (sym c.as_slice-in-Struct.ensures) parts.1, c.requires.names)))

pub push_init-returns-in_ok-extend_from_slice-in-Bytes :
    goal.push_init-returns-in_ok-extend_from_slice-in-Bytes
push_init-returns-in_ok-extend_from_slice-in-Bytes t c =
    let l = link_in c.args.addresses.now in
    c.in_ok-extend_from_slice-in-Bytes.ensures.items
    ∙ ap (λ (bs : List ℕ). c.args.bytes.now.items ++ bs)
    (c.as_slice.ensures ∙ sym (numbers_written l c.in-Bytes.text) ∙ ap (λ (k : Const). map (byte_in l) (initial_bytes c.args.m.now c.args.t.now k)) (sym c.in-Bytes.is))

pub push_init-returns-in-Int : goal.push_init-returns-in-Int
push_init-returns-in-Int t c =
    let l = link_in c.args.addresses.now in
    let n = c.in-Int.number in
    let read : to_z w128 (of_z w128 n) ≡ n = search rules in
    let word = c.number_word.ensures ∙ ap (word_of (modulus (width_of c.args.t.now))) read in
    written_too l c.push_word.result c.push_word.new.bytes.items c.args.bytes.now.items
    (ap (octets (scalar_size (scalar_of c.args.t.now))) word ∙ ap (initial_bytes c.args.m.now c.args.t.now) (sym c.in-Int.is))
    (c.push_word.ensures l)

pub push_init-returns-in-Bool : goal.push_init-returns-in-Bool
push_init-returns-in-Bool t c =
    let l = link_in c.args.addresses.now in
    written_too l c.push_word-in-Bool.result c.push_word-in-Bool.new.bytes.items c.args.bytes.now.items (ap (initial_bytes c.args.m.now c.args.t.now) (sym c.in-Bool.is)) (c.push_word-in-Bool.ensures l)

pub push_init-returns-in-Null : goal.push_init-returns-in-Null
push_init-returns-in-Null t c =
    let l = link_in c.args.addresses.now in
    written_too l c.push_word-in-Null.result c.push_word-in-Null.new.bytes.items c.args.bytes.now.items (ap (initial_bytes c.args.m.now c.args.t.now) (sym c.in-Null.is)) (c.push_word-in-Null.ensures l)

pub push_init-returns-in-Address : goal.push_init-returns-in-Address
push_init-returns-in-Address t c =
    let l = link_in c.args.addresses.now in
    written_too l c.push_address.result c.push_address.new.bytes.items c.args.bytes.now.items
    (ap (initial_bytes c.args.m.now c.args.t.now) (sym c.in-Address.is))
    (c.push_address.ensures c.args.m.now (scalar_of c.args.t.now) c.requires.names)

pub push_init-returns-in-Gep : goal.push_init-returns-in-Gep
push_init-returns-in-Gep t c =
    let l = link_in c.args.addresses.now in
    let m = c.args.m.now in
    let s = scalar_of c.args.t.now in
    let defs = m.types.defs in
    let h = subst (HasBytes m c.args.t.now) c.in-Gep.is c.requires.bytes in
    let offset =
    c.gep_offset-offset.ensures ∙ ap (gep_offset defs c.in-Gep.source) c.as_slice-in-Gep.ensures ∙ sym (offset_of_path defs c.in-Gep.indices c.in-Gep.source h.2 h.3) in
    written_too l c.push_address-in-Gep.result c.push_address-in-Gep.new.bytes.items c.args.bytes.now.items
    (ap (λ (k : ℕ). stored s (At (global_position m c.in-Gep.name) k)) offset ∙ ap (initial_bytes m c.args.t.now) (sym c.in-Gep.is))
    (c.push_address-in-Gep.ensures m s c.requires.names)

pub push_init-returns-in-Array : goal.push_init-returns-in-Array
push_init-returns-in-Array t c =
    let l = link_in c.args.addresses.now in
    let m = c.args.m.now in
    written_too l c.push_elements.result c.push_elements.new.bytes.items c.args.bytes.now.items
    (ap (flat_map (part_bytes m)) c.as_slice-in-Array.ensures ∙ sym (array_bytes m c.in-Array.items c.args.t.now) ∙ ap (initial_bytes m c.args.t.now) (sym c.in-Array.is))
    c.push_elements.ensures

pub push_init-returns-in-Struct : goal.push_init-returns-in-Struct
push_init-returns-in-Struct t c =
    let l = link_in c.args.addresses.now in
    let m = c.args.m.now in
    written_too l c.push_struct.result c.push_struct.new.bytes.items c.args.bytes.now.items
    (ap (λ (fs : List TypedConst). filled_up (size m.types.defs c.args.t.now) (fields_from m 0 fs)) c.as_slice-in-Struct.ensures
    ∙ sym (struct_bytes m c.in-Struct.fields c.args.t.now) ∙ ap (initial_bytes m c.args.t.now) (sym c.in-Struct.is))
    c.push_struct.ensures

pub push_struct-push_padding-requires-clause-align :
    goal.push_struct-push_padding-requires-clause-align
push_struct-push_padding-requires-clause-align t c =
    subst IsAlign (sym c.align_of.ensures) (aligned_well c.args.m.now.types.defs None c.field-item.result.ty tt)

pub push_struct-push_init-requires : goal.push_struct-push_init-requires
push_struct-push_init-requires t c =
    let fields = c.args.fields.now in
    let i = c.loop-field.field-index in
    let field = c.field-item.result in
    let part = subst (IsPart c.args.m.now) (sym c.field-item.is) (c.requires.fields i field c.loop-field-test.true) in
    let within : length (typed_const_types field) ≤ length (flat_map typed_const_types fields) =
    subst (λ (x : TypedConst). length (typed_const_types x) ≤ length (flat_map typed_const_types fields)) (sym c.field-item.is) (one_of_all typed_const_types fields i field c.loop-field-test.true) in
    (search rules, (part.1, c.requires.names))

pub push_struct-loop-field-preserved : goal.push_struct-loop-field-preserved
push_struct-loop-field-preserved t c =
    let m = c.args.m.now in
    let fields = c.args.fields.now in
    let i = c.loop-field.field-index in
    let f = c.field-item.result in
    let part = subst (IsPart m) (sym c.field-item.is) (c.requires.fields i f c.loop-field-test.true) in
    let left : drop i fields ≡ f ∷ drop (i + 1) fields = drop_more fields i f c.loop-field-test.true ∙ ap (λ (x : TypedConst). x ∷ drop (i + 1) fields) (sym c.field-item.is) in
    let more =
    next_field (link_in c.args.addresses.now) m _ f (drop (i + 1) fields) (drop i fields) c.align_of.result c.loop-field.bytes.items _ _ _
    left c.align_of.ensures c.loop-field.invariant.1 part.0 c.in_ok-push_padding.ensures c.in_ok-push_init.ensures c.loop-field.invariant.2 in
    (c.loop-field.invariant.0, more.0, more.1)

pub push_struct-returns : goal.push_struct-returns
push_struct-returns t c =
    let m = c.args.m.now in
    let i = c.loop-field.field-index in
    let fields = c.args.fields.now in
    ok_too c.push_rest.result
    (λ w. all_filled (link_in c.args.addresses.now) m _ _ _ (size m.types.defs c.args.t.now) (drop i fields) c.args.bytes.now.items c.loop-field.bytes.items c.push_rest.new.bytes.items (fields_from m 0 fields)
    (drop_all i fields c.loop-field-test.false) c.loop-field.invariant.0 c.size_in.ensures.size c.loop-field.invariant.2 w)
    c.push_rest.ensures

pub push_init-returns-in-Zero : goal.push_init-returns-in-Zero
push_init-returns-in-Zero t c =
    let l = link_in c.args.addresses.now in
    let m = c.args.m.now in
    subst (λ (bs : List ℕ). OnOk c.push_zeros.result (c.push_zeros.new.bytes.items ≡ c.args.bytes.now.items ++ bs))
    (ap (λ (n : ℕ). replicate n 0) c.size_in.ensures.size ∙ sym (blank_written l m c.args.t.now c.args.init.now c.in-Zero.is))
    c.push_zeros.ensures
