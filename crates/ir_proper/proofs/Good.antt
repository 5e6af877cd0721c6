-- Parts of a module that are right in view of the names that there are in the end.
use Rattle.std.proofs.Common.{◌≡◌, ℕ, List, [], ◌∷◌, ◌++◌, map, refl, sym, ap, ◌∙◌, subst}
use Rattle.std.specs.Prelude.{⊤}
use Rattle.std.specs.List.{flat_map, AllByRecursion as Each}
use Rattle.std.proofs.lemmas.List.{append-nil}
use Rattle.ir_core.specs.declared.ty.TypeName.{TypeName}
use Rattle.ir_core.specs.declared.ty.IrType.{IrType, Void, Row_of-IrType, end_of-IrType, more_of-IrType, items-the_row-IrType, items_hidden-the_row-IrType-1}
use Rattle.ir_core.specs.declared.ty.IrType.TheBlock.{hidden-the_row-IrType-1}
use Rattle.ir_core.specs.declared.ty.IrType.TheVariants as types
use Rattle.ir_core.specs.declared.module.SymId.{SymId}
use Rattle.ir_core.specs.declared.constant.Const.{Const, Row_of-TypedConst, end_of-TypedConst, more_of-TypedConst, items-the_row-TypedConst, items_hidden-the_row-TypedConst-0}
use Rattle.ir_core.specs.declared.constant.Const.TheBlock.{hidden-the_row-TypedConst-0}
use Rattle.ir_core.specs.declared.constant.Const.TheVariants as consts
use Rattle.ir_core.specs.declared.constant.TypedConst.{TypedConst}
use Rattle.ir_core.specs.declared.op.Operand.{Operand}
use Rattle.ir_core.specs.declared.op.Operand.TheVariants as operands
use Rattle.ir_core.specs.declared.op.TypedOperand.{TypedOperand}
use Rattle.ir_core.specs.Parts.{names_in_type, names_in_types, const_types, consts_types, const_symbols, consts_symbols}
use Rattle.ir_core.specs.Proper.{IsValue}
use Rattle.ir_grammar.specs.Names.{Names}
use Rattle.ir_proper.proofs.Kept.{each_append}
use Rattle.ir_proper.proofs.KeptNames.{KnownSymbol, KnownType, KnownLocal}

-- ---- lists made from lists

pub each_flat : {A B : Type 0} (P : B → Type 0) (f : A → List B) (xs : List A) → Each (λ (x : A). Each P (f x)) xs → Each P (flat_map f xs)
each_flat P f [] h = tt
each_flat P f (x ∷ xs) h = each_append P (f x) (flat_map f xs) h.0 (each_flat P f xs h.1)

pub each_map : {A B : Type 0} (P : B → Type 0) (f : A → B) (xs : List A) → Each (λ (x : A). P (f x)) xs → Each P (map f xs)
each_map P f [] h = tt
each_map P f (x ∷ xs) h = (h.0, each_map P f xs h.1)

pub each_more : {A : Type 0} (P Q : A → Type 0) → ((x : A) → P x → Q x) → (xs : List A) → Each P xs → Each Q xs
each_more P Q f [] h = tt
each_more P Q f (x ∷ xs) h = (f x h.0, each_more P Q f xs h.1)

-- ---- types

abbrev pub GoodType : Names → IrType → Type 0
GoodType n t = Each (KnownType n) (names_in_type t)

abbrev pub NotVoid : IrType → Type 0
NotVoid Void = ⊥
NotVoid t = ⊤

row_names : (k : _) (row : Row_of-IrType k) → names_in_types row ≡ flat_map names_in_type (items-the_row-IrType k row)
row_names _ end_of-IrType = refl
row_names _ (more_of-IrType t ts) = ap (λ (xs : List TypeName). names_in_type t ++ xs) (row_names _ ts)

struct_names : (fields : List IrType) → names_in_type (types.Struct fields) ≡ flat_map names_in_type fields
struct_names fields = row_names _ (hidden-the_row-IrType-1 fields) ∙ ap (flat_map names_in_type) (items_hidden-the_row-IrType-1 fields)

array_names : (m : ℕ) (item : IrType) → names_in_type (types.Array m item) ≡ names_in_type item
unfolding Rattle.ir_core.specs.declared.ty.IrType.TheBlock.hidden-the_row-IrType-0 denote.Hole.Carrier.hidden
array_names m item = append-nil (names_in_type item)

pub good_array : (n : Names) (m : ℕ) (t : IrType) → GoodType n t → GoodType n (types.Array m t)
good_array n m t h = subst (Each (KnownType n)) (sym (array_names m t)) h

pub good_struct : (n : Names) (ts : List IrType) → Each (GoodType n) ts → GoodType n (types.Struct ts)
good_struct n ts h = subst (Each (KnownType n)) (sym (struct_names ts)) (each_flat (KnownType n) names_in_type ts h)

-- ---- constants

pub record GoodConst (n : Names) (c : Const) : Type 0 where
  pub symbols : Each (KnownSymbol n) (const_symbols c)
  pub types : Each (GoodType n) (const_types c)

pub record GoodTypedConst (n : Names) (c : TypedConst) : Type 0 where
  pub ty : GoodType n c.ty
  pub value : GoodConst n c.value

-- a constant that may stand as an operand
abbrev pub GoodValue : Names → Const → Type 0
GoodValue n c = IsValue c × GoodConst n c

abbrev typed_symbols : TypedConst → List SymId
typed_symbols c = const_symbols c.value

abbrev typed_types : TypedConst → List IrType
typed_types c = c.ty ∷ const_types c.value

row_symbols : (k : _) (row : Row_of-TypedConst k) → consts_symbols row ≡ flat_map typed_symbols (items-the_row-TypedConst k row)
row_symbols _ end_of-TypedConst = refl
row_symbols _ (more_of-TypedConst t c cs) = ap (λ (xs : List SymId). const_symbols c ++ xs) (row_symbols _ cs)

row_types : (k : _) (row : Row_of-TypedConst k) → consts_types row ≡ flat_map typed_types (items-the_row-TypedConst k row)
row_types _ end_of-TypedConst = refl
row_types _ (more_of-TypedConst t c cs) = ap (λ (ts : List IrType). typed_types (record { ty = t; value = c }) ++ ts) (row_types _ cs)

hidden_symbols : (cs : List TypedConst) → consts_symbols (hidden-the_row-TypedConst-0 cs) ≡ flat_map typed_symbols cs
hidden_symbols cs = row_symbols _ (hidden-the_row-TypedConst-0 cs) ∙ ap (flat_map typed_symbols) (items_hidden-the_row-TypedConst-0 cs)

hidden_types : (cs : List TypedConst) → consts_types (hidden-the_row-TypedConst-0 cs) ≡ flat_map typed_types cs
hidden_types cs = row_types _ (hidden-the_row-TypedConst-0 cs) ∙ ap (flat_map typed_types) (items_hidden-the_row-TypedConst-0 cs)

items_symbols : (n : Names) (cs : List TypedConst) → Each (GoodTypedConst n) cs → Each (KnownSymbol n) (flat_map typed_symbols cs)
items_symbols n cs h = each_flat (KnownSymbol n) typed_symbols cs (each_more (GoodTypedConst n) (λ (c : TypedConst). Each (KnownSymbol n) (typed_symbols c)) (λ c g. g.value.symbols) cs h)

items_types : (n : Names) (cs : List TypedConst) → Each (GoodTypedConst n) cs → Each (GoodType n) (flat_map typed_types cs)
items_types n cs h = each_flat (GoodType n) typed_types cs (each_more (GoodTypedConst n) (λ (c : TypedConst). Each (GoodType n) (typed_types c)) (λ c g. (g.ty, g.value.types)) cs h)

pub good_array_const : (n : Names) (cs : List TypedConst) → Each (GoodTypedConst n) cs → GoodConst n (consts.Array cs)
good_array_const n cs h = record { symbols = subst (Each (KnownSymbol n)) (sym (hidden_symbols cs)) (items_symbols n cs h); types = subst (Each (GoodType n)) (sym (hidden_types cs)) (items_types n cs h) }

pub good_struct_const : (n : Names) (cs : List TypedConst) → Each (GoodTypedConst n) cs → GoodConst n (consts.Struct cs)
good_struct_const n cs h = record { symbols = subst (Each (KnownSymbol n)) (sym (hidden_symbols cs)) (items_symbols n cs h); types = subst (Each (GoodType n)) (sym (hidden_types cs)) (items_types n cs h) }

-- ---- operands

abbrev pub GoodOperand : Names → Operand → Type 0
GoodOperand n (operands.Local x) = KnownLocal n x
GoodOperand n (operands.Const c) = GoodValue n c

pub record GoodTyped (n : Names) (a : TypedOperand) : Type 0 where
  pub ty : GoodType n a.ty
  pub value : GoodOperand n a.value
