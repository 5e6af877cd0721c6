-- The bytes of each global of a valid module can be told.
use Rattle.std.proofs.Common.{◌≡◌, inl, inr, ℕ, Bool, true, false, List, [], ◌∷◌, length, slice_get, Some, All, pos, refl, sym, ap, ◌∙◌, subst}
use Rattle.std.specs.Bool.{Decides}
use Rattle.std.specs.List.{AllByRecursion as Each}
use Rattle.std.proofs.lemmas.Bool.{cases_eq}
use Rattle.std.proofs.lemmas.List.Elements.{All-from_recursion}
use Rattle.oi_base.specs.declared.words.Width.TheVariants.{W32}
use Rattle.ir_core.specs.declared.ty.TypeDef.{TypeDef}
use Rattle.ir_core.specs.declared.ty.IrType.{IrType, Int, out-IrType}
use Rattle.ir_core.specs.declared.ty.IrType.TheOpen.{IrType-F}
use Rattle.ir_core.specs.declared.module.GlobalVar.{GlobalVar}
use Rattle.ir_core.specs.declared.module.Module.{Module}
use Rattle.ir_core.specs.declared.constant.Const.{Const, Row_of-TypedConst, end_of-TypedConst, more_of-TypedConst}
use Rattle.ir_core.specs.declared.constant.Const as consts
use Rattle.ir_core.specs.Constants.{initial_bytes}
use Rattle.ir_core.specs.Parts.{const_types, consts_types}
use Rattle.ir_core.specs.Sizes.{IsLaid, layout, size, types_in}
use Rattle.ir_core.specs.Valid.{IsValid}
use Rattle.ir_core.specs.ValidConsts.{plain, HasType, AreItems, AreFields}
use Rattle.ir_core.specs.ValidTypes.{const_sources, consts_sources}
use Rattle.ir_core.proofs.Lists.{Has, each_from, each_left, each_right, contains, at_has}
use Rattle.ir_core.proofs.Names.{some_value}
use Rattle.ir_safety.proofs.Decided.{so}
use Rattle.ir_safety.proofs.Safe.{NotFalse, in_turn}
use Rattle.module_rules.specs.Faults.{global_numbers}
use Rattle.module_rules.specs.InitFaults.{has_type}
use Rattle.module_rules.proofs.Decided.{false_is_not_true}
use Rattle.module_rules.proofs.InitLaws.{init_decides}
use Rattle.module_rules.proofs.InnerTypes.{IsSmall, small_size, into_small}
use Rattle.image_layout.specs.Initialisers.{FillsType, HasBytes, HaveBytes, IsPlaceable}
use Rattle.image_layout.proofs.Globals.{inside, typed, in_module, names, aligned, bytes_length}
use Rattle.image_layout.proofs.InitialBytes.{OkType, init_length, size_is}
use Rattle.image_layout.proofs.LaidTypes.{use_laid}

-- what is tested and not false is true
tested : {P : Type 0} (t : Bool) → Decides t P → NotFalse P → P
tested true d h = d.0 refl
tested false d h = absurd (h (λ p. false_is_not_true (d.1 p)))

module _ (m : Module) where
  abbrev defs : List TypeDef
  defs = m.types.defs

  -- an initialiser of a type
  record IsKnown (t : IrType) (c : Const) : Type 0 where
    pub typed : HasType m c t
    pub names : NotFalse (Each (OkType m) (t ∷ const_types c))
    pub laid : Each (IsLaid defs) (t ∷ const_types c)
    pub small : Each (IsSmall defs) (t ∷ const_sources c)

  -- elements or fields, but for their own types
  record AreKnown {n : _} (row : Row_of-TypedConst n) : Type 0 where
    pub names : NotFalse (Each (OkType m) (consts_types row))
    pub laid : Each (IsLaid defs) (consts_types row)
    pub small : Each (IsSmall defs) (consts_sources row)

  first_known : {n : _} (t : IrType) (c : Const) (cs : Row_of-TypedConst n) → AreKnown (more_of-TypedConst t c cs) → HasType m c t → IsSmall defs t → IsKnown t c
  first_known t c cs k h s = record {
    typed = h;
    names = in_turn k.names (λ ns. (ns.0, each_left (OkType m) (const_types c) (consts_types cs) ns.1));
    laid = (k.laid.0, each_left (IsLaid defs) (const_types c) (consts_types cs) k.laid.1);
    small = (s, each_left (IsSmall defs) (const_sources c) (consts_sources cs) k.small);
  }

  rest_known : {n : _} (t : IrType) (c : Const) (cs : Row_of-TypedConst n) → AreKnown (more_of-TypedConst t c cs) → AreKnown cs
  rest_known t c cs k = record {
    names = in_turn k.names (λ ns. each_right (OkType m) (const_types c) (consts_types cs) ns.1);
    laid = each_right (IsLaid defs) (const_types c) (consts_types cs) k.laid.1;
    small = each_right (IsSmall defs) (const_sources c) (consts_sources cs) k.small;
  }

  fills : (t : IrType) (c : Const) → IsKnown t c → FillsType m t c
  fills t c k =
      let l = some_value (layout defs t) k.laid.0 in
      (k.laid.0, so (cases_eq (length (initial_bytes m t c)) (size defs t)) (in_turn k.names (λ ns. init_length m t c k.typed ns.1 ns.0 l.0 l.1 ∙ sym (size_is m t l.0 l.1))))

  item_small : (t item : IrType) (n : ℕ) → out-IrType (plain defs t) ≡ IrType-F.Array n item → IsSmall defs t → IsSmall defs item
  item_small t item n e s = into_small defs t (record { ty = Int W32; number = Some (pos 0) }) item (inl (n, e)) s

  field_small : (t : IrType) (us : List IrType) → out-IrType (plain defs t) ≡ IrType-F.Struct us → IsSmall defs t → Each (IsSmall defs) us
  field_small t us e s =
      each_from (IsSmall defs) us (λ u h.
      let at = at_has us u h in
      into_small defs t (record { ty = Int W32; number = Some (pos at.0) }) u (inr (at.0, refl, refl, ap (λ (l : IrType-F IrType). slice_get (types_in l) at.0) e ∙ at.1)) s)

  mutual
    has_bytes : (t : IrType) (c : Const) → IsKnown t c → HasBytes m t c
    has_bytes t (consts.Int n) k = tt
    has_bytes t (consts.Bool b) k = tt
    has_bytes t consts.Null k = tt
    has_bytes t consts.Undef k = (k.laid.0, small_size defs t k.small.0)
    has_bytes t consts.Poison k = (k.laid.0, small_size defs t k.small.0)
    has_bytes t consts.Zero k = (k.laid.0, small_size defs t k.small.0)
    has_bytes t (consts.Bytes bs) k = tt
    has_bytes t (consts.Address s) k = tt
    has_bytes t (consts.Gep source s is) k = (k.laid.1.0, k.small.1.0, k.typed.2, k.typed.3)
    has_bytes t (consts.Array' each items) k =
        items_have items k.typed.0 k.typed.2 (item_small t k.typed.0 (length each) k.typed.1 k.small.0) (record { names = in_turn k.names (λ ns. ns.1); laid = k.laid.1; small = k.small.1 })
    has_bytes t (consts.Struct' each values) k = (
      (k.laid.0, small_size defs t k.small.0),
      fields_have values k.typed.0 k.typed.2 (field_small t k.typed.0 k.typed.1 k.small.0) (record { names = in_turn k.names (λ ns. ns.1); laid = k.laid.1; small = k.small.1 }),
    )

    items_have : {n : _} (row : Row_of-TypedConst n) (item : IrType) → AreItems m row item → IsSmall defs item → AreKnown row → HaveBytes m row
    items_have end_of-TypedConst item h s k = tt
    items_have (more_of-TypedConst t c cs) item h s k =
        let one = first_known t c cs k h.1 (subst (IsSmall defs) (sym h.0) s) in
        ((fills t c one, has_bytes t c one), items_have cs item h.2 s (rest_known t c cs k))

    fields_have : {n : _} (row : Row_of-TypedConst n) (us : List IrType) → AreFields m row us → Each (IsSmall defs) us → AreKnown row → HaveBytes m row
    fields_have end_of-TypedConst us h s k = tt
    fields_have (more_of-TypedConst t c cs) [] h s k = absurd h
    fields_have (more_of-TypedConst t c cs) (u ∷ us) h s k =
        let one = first_known t c cs k h.1 (subst (IsSmall defs) (sym h.0) s.0) in
        ((fills t c one, has_bytes t c one), fields_have cs us h.2 s.1 (rest_known t c cs k))

  module _ (valid : IsValid m) where
    known : (g : GlobalVar) → Has m.globals g → IsKnown g.ty g.init
    known g h = record {
      typed = tested (has_type defs (global_numbers m) g.init g.ty) (init_decides m g.init g.ty) (typed m valid g h);
      names = names m valid g h;
      laid = each_from (IsLaid defs) (g.ty ∷ const_types g.init) (λ t k. use_laid m valid.type_names g.place t (in_module m valid g h t k));
      small =
          each_from (IsSmall defs) (g.ty ∷ const_sources g.init) (λ t k big.
          valid.sizes g.place (inl (g, inside m valid g h, refl, (t, contains (g.ty ∷ const_sources g.init) t k, big))));
    }

    placeable : (g : GlobalVar) → Has m.globals g → IsPlaceable m g
    placeable g h =
        let k = known g h in record {
          sized = (k.laid.0, small_size defs g.ty k.small.0);
          filled = bytes_length m valid g h;
          bytes = has_bytes g.ty g.init k;
          aligned = aligned m valid g h;
        }

    pub all_placeable : All (IsPlaceable m) m.globals
    all_placeable = All-from_recursion (IsPlaceable m) m.globals (each_from (IsPlaceable m) m.globals placeable)
