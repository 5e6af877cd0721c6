-- The memory that a run of a valid module begins with points within itself: the parts of pointers in the bytes of an initialiser
-- that has its type are of global variables, with offsets of 32 bits.
use Rattle.std.proofs.Common.{◌≡◌, ℕ, zero, suc, ◌+◌, ◌-◌, ◌/◌, ◌<◌, List, [], ◌∷◌, ◌++◌, map, replicate, length, slice_get, refl, sym, ap, ◌∙◌, subst, arith}
use Rattle.std.specs.List.{AllByRecursion as Each}
use Rattle.std.specs.Int.{next_multiple_of}
use Rattle.std.proofs.lemmas.List.{length-map}
use Rattle.ir_core.specs.declared.flat.Scalar.{Scalar}
use Rattle.ir_core.specs.declared.ty.IrType.{IrType}
use Rattle.ir_core.specs.declared.module.SymId.{SymId}
use Rattle.ir_core.specs.declared.module.GlobalVar.{GlobalVar}
use Rattle.ir_core.specs.declared.module.Module.{Module}
use Rattle.ir_core.specs.declared.constant.Const.{Const, Row_of-TypedConst, end_of-TypedConst, more_of-TypedConst}
use Rattle.ir_core.specs.declared.constant.Const as consts
use Rattle.ir_core.specs.Constants.{scalar_of, global_number, gap, initial_bytes, element_bytes, field_bytes, global_block, global_memory}
use Rattle.ir_core.specs.Memory.{At, Byte, Unset, PoisonByte, Octet, PartOf, Block, Memory, scalar_size, octets, stored, IsPartWithin, PointsWithin}
use Rattle.ir_core.specs.Sizes.{size, align}
use Rattle.ir_core.specs.Valid.{IsValid}
use Rattle.ir_core.specs.ValidConsts.{IsVariable, HasType, AreItems, AreFields}
use Rattle.ir_core.proofs.Lists.{each_of, contains, has_in, has_at, map_source, place_within}
use Rattle.ir_safety.specs.TypedRuns.{HasPartOffset, HoldsOffsets}
use Rattle.ir_safety.proofs.Decided.{Decided, so, always, both, is_less}
use Rattle.ir_safety.proofs.Elements.{each_joined}
use Rattle.ir_safety.proofs.Safe.{in_turn}

-- ---- bytes

part_within : (n : ℕ) (c : Byte) → Decided (IsPartWithin n c)
part_within n Unset = always
part_within n PoisonByte = always
part_within n (Octet k) = always
part_within n (PartOf b o k) = both (is_less b n) (is_less o 4294967296)

part_offset : (n : ℕ) (c : Byte) → IsPartWithin n c → HasPartOffset c
part_offset n Unset h = tt
part_offset n PoisonByte h = tt
part_offset n (Octet a) h = tt
part_offset n (PartOf b o k) h = h.1

-- pointers within memory have offsets of 32 bits
pub offsets_held : (m : Memory) → PointsWithin m → HoldsOffsets m
offsets_held m h i b e k c g = part_offset (length m) c (h i b e k c g)

octets_within : (count n a : ℕ) → Each (IsPartWithin count) (octets n a)
octets_within count zero a = tt
octets_within count (suc n) a = (tt, octets_within count n (a / 256))

copies_within : (count n : ℕ) (b : Byte) → IsPartWithin count b → Each (IsPartWithin count) (replicate n b)
copies_within count zero b h = tt
copies_within count (suc n) b h = (h, copies_within count n b h)

numbers_within : (count : ℕ) (bs : List ℕ) → Each (IsPartWithin count) (map Octet bs)
numbers_within count [] = tt
numbers_within count (b ∷ bs) = (tt, numbers_within count bs)

pointer_within : (count : ℕ) (s : Scalar) (b o : ℕ) → b < count → o < 4294967296 → Each (IsPartWithin count) (stored s (At b o))
pointer_within count s b o h k = ((h, k), ((h, k), ((h, k), ((h, k), tt))))

module _ (m : Module) where
  abbrev count : ℕ
  count = length (global_memory m)

  -- the number of a global variable is that of one of the blocks
  pub variable_number : (s : SymId) → IsVariable m s → global_number m s < count
  variable_number s (v, has, e) =
      let n : count ≡ length m.globals = length-map m.globals (global_block m) in
      let lt : global_number m v.name < length m.globals = place_within (λ (w : GlobalVar). w.name.0) m.globals v (has_in m.globals v has) in
      subst (λ (k : ℕ). global_number m s < k) (sym n) (subst (λ (y : SymId). global_number m y < length m.globals) e lt)

  -- ---- initialisers

  mutual
    init_within : (t : IrType) (c : Const) → HasType m c t → Each (IsPartWithin count) (initial_bytes m t c)
    init_within t (consts.Int n) h = octets_within count (scalar_size (scalar_of t)) _
    init_within t (consts.Bool b) h = octets_within count (scalar_size (scalar_of t)) _
    init_within t consts.Null h = octets_within count (scalar_size (scalar_of t)) 0
    init_within t consts.Undef h = copies_within count (size m.types.defs t) (Octet 0) tt
    init_within t consts.Poison h = copies_within count (size m.types.defs t) PoisonByte tt
    init_within t consts.Zero h = copies_within count (size m.types.defs t) (Octet 0) tt
    init_within t (consts.Bytes bs) h = numbers_within count bs
    init_within t (consts.Address s) h = pointer_within count (scalar_of t) (global_number m s) 0 (variable_number s h.1) (omega arith)
    init_within t (consts.Gep source s is) h = pointer_within count (scalar_of t) (global_number m s) _ (variable_number s h.1) (omega arith)
    init_within t (consts.Array' each items) h = items_within items h.0 h.2
    init_within t (consts.Struct' each values) h =
        let own = field_bytes m 0 values in
        let left = size m.types.defs t - length own in
        each_joined (IsPartWithin count) own (gap left) (fields_within 0 values h.0 h.2) (copies_within count left Unset tt)

    items_within : {n : _} (row : Row_of-TypedConst n) (item : IrType) → AreItems m row item → Each (IsPartWithin count) (element_bytes m row)
    items_within end_of-TypedConst item h = tt
    items_within (more_of-TypedConst t c cs) item h = each_joined (IsPartWithin count) (initial_bytes m t c) (element_bytes m cs) (init_within t c h.1) (items_within cs item h.2)

    fields_within : (from : ℕ) {n : _} (row : Row_of-TypedConst n) (us : List IrType) → AreFields m row us → Each (IsPartWithin count) (field_bytes m from row)
    fields_within from end_of-TypedConst us h = tt
    fields_within from (more_of-TypedConst t c cs) [] h = absurd h
    fields_within from (more_of-TypedConst t c cs) (u ∷ us) h =
        let at = next_multiple_of from (align m.types.defs t) in
        each_joined (IsPartWithin count) (gap (at - from) ++ initial_bytes m t c) (field_bytes m (at + size m.types.defs t) cs)
        (each_joined (IsPartWithin count) (gap (at - from)) (initial_bytes m t c) (copies_within count (at - from) Unset tt) (init_within t c h.1))
        (fields_within (at + size m.types.defs t) cs us h.2)

  -- ---- all globals

  pub globals_within : IsValid m → PointsWithin (global_memory m)
  globals_within valid i b at k c there =
      let g = map_source (global_block m) m.globals b (has_at (global_memory m) i b at) in
      let has = has_at (initial_bytes m g.0.ty g.0.init) k c (ap (λ (x : Block). slice_get x.bytes k) g.2 ∙ there) in
      so (part_within count c) (in_turn (λ n. valid.initialisers g.0.place (g.0, contains m.globals g.0 g.1, refl, n)) (λ h. each_of (IsPartWithin count) (initial_bytes m g.0.ty g.0.init) c (init_within g.0.ty g.0.init h) has))
