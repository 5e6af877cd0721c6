-- The places at which the rule of initialisers is broken.
use Rattle.std.proofs.Common.{◌≡◌, refl, ap, ◌∙◌, subst, Bool, true, false, not, ◌&&◌, nat_eq, ℕ, List, [], ◌∷◌, map, length, None, arith}
use Rattle.std.specs.Bool.{Decides}
use Rattle.std.specs.List.{list_all}
use Rattle.std.proofs.lemmas.Bool.Decides.{Decides-and, Decides-not, nat_tests}
use Rattle.oi_base.specs.declared.words.Width.TheVariants.{W1, W8, W16, W32}
use Rattle.ir_core.specs.declared.ty.TypeDef.{TypeDef}
use Rattle.ir_core.specs.declared.ty.IrType.{IrType, Void, Int, Ptr, Array', Struct', Named, out-IrType}
use Rattle.ir_core.specs.declared.ty.IrType.TheOpen.{IrType-F}
use Rattle.ir_core.specs.declared.module.SymId.{SymId}
use Rattle.ir_core.specs.declared.module.GlobalVar.{GlobalVar}
use Rattle.ir_core.specs.declared.module.Module.{Module}
use Rattle.ir_core.specs.declared.constant.Const.{Const, Row_of-TypedConst, end_of-TypedConst, more_of-TypedConst}
use Rattle.ir_core.specs.declared.constant.Const as consts
use Rattle.ir_core.specs.declared.constant.TypedCount.{TypedCount}
use Rattle.ir_core.specs.ValidConsts.{FitsType, const_index, plain, HasType, AreItems, AreFields, BreaksInitialisers}
use Rattle.module_rules.specs.First.{earliest, IsFound}
use Rattle.ir_core.specs.Types.{is_pointer}
use Rattle.module_rules.specs.Faults.{global_numbers, count_fits}
use Rattle.module_rules.specs.Walks.{walks}
use Rattle.module_rules.specs.SameTypes.{same_type}
use Rattle.module_rules.specs.InitFaults.{is_byte, is_string, is_array_of, is_struct_of, is_among, has_type, are_items, are_fields, has_its_type, init_faults}
use Rattle.module_rules.proofs.Decided.{always, never, each, false_is_not_true}
use Rattle.module_rules.proofs.At.{found_at}
use Rattle.module_rules.proofs.IntegerLaws.{type_decides, bit_decides, pointer_decides, count_decides}
use Rattle.module_rules.proofs.Sets.{variable_decides}
use Rattle.module_rules.proofs.SameTypeLaws.{alike_decides, two_true}
use Rattle.module_rules.proofs.WalkLaws.{walk_decides}

-- ---- one level of a type

byte_decides : (t : IrType) → Decides (is_byte t) (t ≡ Int W8)
byte_decides (Int W8) = (λ e. refl, λ h. refl)
byte_decides (Int W1) = never (λ h. cc)
byte_decides (Int W16) = never (λ h. cc)
byte_decides (Int W32) = never (λ h. cc)
byte_decides Void = never (λ h. cc)
byte_decides Ptr = never (λ h. cc)
byte_decides (Array' k m ts) = never (λ h. cc)
byte_decides (Struct' m ts) = never (λ h. cc)
byte_decides (Named x) = never (λ h. cc)

number_decides : (m n : ℕ) → Decides (nat_eq m n) (m ≡ n)
number_decides m n = (λ e. grind (arith, nat_tests), λ h. grind (arith, nat_tests))

array_decides : (n : ℕ) (test : IrType → Bool) (Is : IrType → Type 0) → ((u : IrType) → Decides (test u) (Is u)) → (l : IrType-F IrType) → Decides (is_array_of n test l) ((item : IrType) × (l ≡ IrType-F.Array n item) × Is item)
array_decides n test Is d IrType-F.Void = never (λ h. let clash : IrType-F.Void ≡ IrType-F.Array n h.0 = h.1 in cc)
array_decides n test Is d (IrType-F.Int w) = never (λ h. let clash : IrType-F.Int w ≡ IrType-F.Array n h.0 = h.1 in cc)
array_decides n test Is d IrType-F.Ptr = never (λ h. let clash : IrType-F.Ptr ≡ IrType-F.Array n h.0 = h.1 in cc)
array_decides n test Is d (IrType-F.Array k u) = (of_test, to_test)
  where
    of_test : (nat_eq k n && test u) ≡ true → (item : IrType) × (IrType-F.Array k u ≡ IrType-F.Array n item) × Is item
    of_test e = let b = two_true (nat_eq k n) (test u) e in (u, ap (λ (j : ℕ). IrType-F.Array j u) ((number_decides k n).0 b.0), (d u).0 b.1)

    to_test : (item : IrType) × (IrType-F.Array k u ≡ IrType-F.Array n item) × Is item → (nat_eq k n && test u) ≡ true
    to_test h =
        let e : IrType-F.Array k u ≡ IrType-F.Array n h.0 = h.1 in
        let many : k ≡ n = cc in
        let item : h.0 ≡ u = cc in
        ap (λ (b : Bool). b && test u) ((number_decides k n).1 many) ∙ (d u).1 (subst Is item h.2)
array_decides n test Is d (IrType-F.Struct types) = never (λ h. let clash : IrType-F.Struct types ≡ IrType-F.Array n h.0 = h.1 in cc)
array_decides n test Is d (IrType-F.Named x) = never (λ h. let clash : IrType-F.Named x ≡ IrType-F.Array n h.0 = h.1 in cc)

struct_decides : (test : List IrType → Bool) (Are : List IrType → Type 0) → ((us : List IrType) → Decides (test us) (Are us)) → (l : IrType-F IrType) → Decides (is_struct_of test l) ((types : List IrType) × (l ≡ IrType-F.Struct types) × Are types)
struct_decides test Are d IrType-F.Void = never (λ h. let clash : IrType-F.Void ≡ IrType-F.Struct h.0 = h.1 in cc)
struct_decides test Are d (IrType-F.Int w) = never (λ h. let clash : IrType-F.Int w ≡ IrType-F.Struct h.0 = h.1 in cc)
struct_decides test Are d IrType-F.Ptr = never (λ h. let clash : IrType-F.Ptr ≡ IrType-F.Struct h.0 = h.1 in cc)
struct_decides test Are d (IrType-F.Array k u) = never (λ h. let clash : IrType-F.Array k u ≡ IrType-F.Struct h.0 = h.1 in cc)
struct_decides test Are d (IrType-F.Struct us) = (
  λ e. (us, refl, (d us).0 e),
  λ h. (d us).1 (let e : IrType-F.Struct us ≡ IrType-F.Struct h.0 = h.1 in let same : h.0 ≡ us = cc in subst Are same h.2),
)
struct_decides test Are d (IrType-F.Named x) = never (λ h. let clash : IrType-F.Named x ≡ IrType-F.Struct h.0 = h.1 in cc)

string_decides : (n : ℕ) (l : IrType-F IrType) → Decides (is_string n l) (l ≡ IrType-F.Array n (Int W8))
string_decides n IrType-F.Void = never (λ h. cc)
string_decides n (IrType-F.Int w) = never (λ h. cc)
string_decides n IrType-F.Ptr = never (λ h. cc)
string_decides n (IrType-F.Array k u) = (of_test, to_test)
  where
    of_test : (nat_eq k n && is_byte u) ≡ true → IrType-F.Array k u ≡ IrType-F.Array n (Int W8)
    of_test e =
        let b = two_true (nat_eq k n) (is_byte u) e in
        ap (λ (j : ℕ). IrType-F.Array j u) ((number_decides k n).0 b.0) ∙ ap (IrType-F.Array n) ((byte_decides u).0 b.1)

    to_test : IrType-F.Array k u ≡ IrType-F.Array n (Int W8) → (nat_eq k n && is_byte u) ≡ true
    to_test e =
        let many : k ≡ n = cc in
        let item : u ≡ Int W8 = cc in
        ap (λ (b : Bool). b && is_byte u) ((number_decides k n).1 many) ∙ (byte_decides u).1 item
string_decides n (IrType-F.Struct types) = never (λ h. cc)
string_decides n (IrType-F.Named x) = never (λ h. cc)

-- several tests one after the other
three : {P Q R : Type 0} (p q r : Bool) → Decides p P → Decides q Q → Decides r R → Decides ((p && q) && r) (P × Q × R)
three true true r a b c = (λ e. (a.0 refl, b.0 refl, c.0 e), λ h. c.1 h.2)
three true false r a b c = never (λ h. false_is_not_true (b.1 h.1))
three false q r a b c = never (λ h. false_is_not_true (a.1 h.0))

four : {P Q R S : Type 0} (p q r s : Bool) → Decides p P → Decides q Q → Decides r R → Decides s S → Decides (p && (q && (r && s))) (P × Q × R × S)
four true true true s a b c d = (λ e. (a.0 refl, b.0 refl, c.0 refl, d.0 e), λ h. d.1 h.3)
four true true false s a b c d = never (λ h. false_is_not_true (c.1 h.2))
four true false r s a b c d = never (λ h. false_is_not_true (b.1 h.1))
four false q r s a b c d = never (λ h. false_is_not_true (a.1 h.0))

module _ (m : Module) where
  abbrev Defs : List TypeDef
  Defs = m.types.defs

  abbrev Names : List ℕ
  Names = global_numbers m

  -- ---- initialisers

  gep_decides : (source : IrType) (s : SymId) (is : List TypedCount) (t : IrType) → Decides (has_type Defs Names (consts.Gep source s is) t) (HasType m (consts.Gep source s is) t)
  gep_decides source s is t =
      four (is_pointer (plain Defs t)) (is_among Names s) (walks Defs source (map const_index is)) (list_all count_fits is)
      (pointer_decides (plain Defs t)) (variable_decides m s) (walk_decides Defs (map const_index is) source)
      (each count_fits (λ (i : TypedCount). FitsType i.ty i.count) count_decides is)

  mutual
    pub init_decides : (c : Const) (t : IrType) → Decides (has_type Defs Names c t) (HasType m c t)
    init_decides (consts.Int n) t = type_decides (plain Defs t) n
    init_decides (consts.Bool b) t = bit_decides (plain Defs t)
    init_decides consts.Null t = pointer_decides (plain Defs t)
    init_decides consts.Undef t = always
    init_decides consts.Poison t = always
    init_decides consts.Zero t = always
    init_decides (consts.Bytes b) t = string_decides (length b) (out-IrType (plain Defs t))
    init_decides (consts.Address s) t = Decides-and (is_pointer (plain Defs t)) (is_among Names s) (pointer_decides (plain Defs t)) (variable_decides m s)
    init_decides (consts.Gep source s is) t = gep_decides source s is t
    init_decides (consts.Array' n items) t = array_decides (length n) (are_items Defs Names items) (AreItems m items) (λ u. items_decide items u) (out-IrType (plain Defs t))
    init_decides (consts.Struct' n values) t = struct_decides (are_fields Defs Names values) (AreFields m values) (λ us. fields_decide values us) (out-IrType (plain Defs t))

    items_decide : {n : _} (row : Row_of-TypedConst n) (u : IrType) → Decides (are_items Defs Names row u) (AreItems m row u)
    items_decide end_of-TypedConst u = always
    items_decide (more_of-TypedConst t c cs) u = three (same_type t u) (has_type Defs Names c t) (are_items Defs Names cs u) (alike_decides t u) (init_decides c t) (items_decide cs u)

    fields_decide : {n : _} (row : Row_of-TypedConst n) (us : List IrType) → Decides (are_fields Defs Names row us) (AreFields m row us)
    fields_decide end_of-TypedConst [] = always
    fields_decide end_of-TypedConst (u ∷ us) = never (λ h. h)
    fields_decide (more_of-TypedConst t c cs) [] = never (λ h. h)
    fields_decide (more_of-TypedConst t c cs) (u ∷ us) = three (same_type t u) (has_type Defs Names c t) (are_fields Defs Names cs us) (alike_decides t u) (init_decides c t) (fields_decide cs us)

  -- ---- the places

  abbrev Bad : GlobalVar → Bool
  Bad g = not (has_its_type m g)

  bad_decides : (g : GlobalVar) → Decides (Bad g) (HasType m g.init g.ty → ⊥)
  bad_decides g = Decides-not (has_its_type m g) (init_decides g.init g.ty)

  pub inits_found : IsFound (BreaksInitialisers m) (earliest None (init_faults m))
  inits_found = found_at Bad (λ g. g.place) (λ (g : GlobalVar). HasType m g.init g.ty → ⊥) (λ g. (bad_decides g).0) (λ g. (bad_decides g).1) m.globals
