-- The places at which the rule of phis is broken, in text order.
use Rattle.std.specs.Prelude.{ℕ, Bool, true, false, not, ◌&&◌, nat_eq, List, [], ◌∷◌, ◌++◌, fold, Option, Some, None, slice_get, slice_set, slice_index_or, All}
use Rattle.std.specs.List.{flat_map, list_any, list_all, position}
use Rattle.std.specs.Option.{option_and_then}
use Rattle.oi_base.specs.declared.ids.Place.{Place}
use Rattle.ir_core.specs.declared.ty.TypeDef.{TypeDef}
use Rattle.ir_core.specs.declared.ty.IrType.{IrType}
use Rattle.ir_core.specs.declared.constant.Const.{Const}
use Rattle.ir_core.specs.declared.constant.Const as consts
use Rattle.ir_core.specs.declared.op.LocalId.{LocalId}
use Rattle.ir_core.specs.declared.op.Operand.{Operand}
use Rattle.ir_core.specs.declared.op.Operand.TheVariants as operands
use Rattle.ir_core.specs.declared.op.Pair.{Pair}
use Rattle.ir_core.specs.declared.op.Op.{Op}
use Rattle.ir_core.specs.declared.op.Op.TheVariants.{Phi}
use Rattle.ir_core.specs.declared.func.Instr.{Instr}
use Rattle.ir_core.specs.declared.func.Block.{Block}
use Rattle.ir_core.specs.declared.func.Func.{Func}
use Rattle.ir_core.specs.Parts.{targets}
use Rattle.ir_core.specs.Sizes.{IsLaid}
use Rattle.ir_core.specs.ValidTypes.{IsTooLarge}
use Rattle.ir_core.specs.ValidConsts.{Meaning, OfLocal, IsWord, IsNull, IsAddress, IsPoison, HasNone, meaning, ConstWalk, IndicesFit}
use Rattle.module_rules.specs.Faults.{place_if, is_local, with_number}
use Rattle.ir_verifier.specs.Faults.{label_numbers}

-- ---- predecessors

-- for each label the labels of the blocks that lead to it
pub record Sources : Type 0 where
  pub labels : List ℕ
  pub rows : List (List ℕ)

abbrev pub row_at : Sources → LocalId → Option (List ℕ)
row_at s y = option_and_then (slice_get s.rows) (position (nat_eq y.0) s.labels)

abbrev pub no_rows : List ℕ → List (List ℕ)
no_rows [] = []
no_rows (n ∷ ns) = [] ∷ no_rows ns

abbrev pub with_row : Sources → Option ℕ → LocalId → Sources
with_row s None from = s
with_row s (Some k) from = record { labels = s.labels; rows = slice_set s.rows k (with_number (slice_index_or s.rows k []) from.0) }

-- a block leads to a label, and to several
abbrev pub with_source : Sources → LocalId → LocalId → Sources
with_source s from to = with_row s (position (nat_eq to.0) s.labels) from

abbrev pub with_sources : LocalId → Sources → List LocalId → Sources
with_sources from s to = fold (λ (t : Sources) (y : LocalId). with_source t from y) s to

abbrev pub with_block : Sources → Block → Sources
with_block s b = with_sources b.label s (targets b.end)

abbrev pub sources_of : Func → Sources
sources_of f = fold with_block (record { labels = label_numbers f; rows = no_rows (label_numbers f) }) f.blocks

-- ---- values

abbrev pub same_meaning : Meaning → Meaning → Bool
same_meaning (OfLocal x) (OfLocal y) = is_local x y
same_meaning (IsWord a) (IsWord b) = nat_eq a b
same_meaning IsNull IsNull = true
same_meaning (IsAddress g a) (IsAddress h b) = nat_eq g.0 h.0 && nat_eq a b
same_meaning IsPoison IsPoison = true
same_meaning HasNone HasNone = true
same_meaning _ _ = false

-- the blocks of the entries so far, each with the value of its first entry
pub record Values : Type 0 where
  pub labels : List ℕ
  pub values : List Meaning

abbrev pub no_values : Values
no_values = record { labels = []; values = [] }

abbrev pub is_value : Option Meaning → Meaning → Bool
is_value None m = false
is_value (Some n) m = same_meaning n m

abbrev pub agrees_at : Values → Option ℕ → Meaning → Bool
agrees_at s None m = true
agrees_at s (Some k) m = is_value (slice_get s.values k) m

-- the block has no value yet, or this one
abbrev pub agrees_with : Values → ℕ → Meaning → Bool
agrees_with s x m = agrees_at s (position (nat_eq x) s.labels) m

abbrev pub with_value_at : Values → Option ℕ → ℕ → Meaning → Values
with_value_at s None x m = record { labels = with_number s.labels x; values = s.values ++ m ∷ [] }
with_value_at s (Some k) x m = s

abbrev pub with_value : Values → ℕ → Meaning → Values
with_value s x m = with_value_at s (position (nat_eq x) s.labels) x m

-- ---- phis

abbrev pub are_listed : List ℕ → List ℕ → Bool
are_listed ns more = list_all (λ (n : ℕ). list_any (nat_eq n) ns) more

-- each entry's block is among the predecessors and has this value alone, and each of them has an entry
abbrev pub entries_agree : List TypeDef → List ℕ → IrType → Values → List Pair → Bool
entries_agree defs row t s [] = are_listed s.labels row
entries_agree defs row t s (e ∷ es) =
    list_any (nat_eq e.from.0) row
    && (agrees_with s e.from.0 (meaning defs t e.value) && entries_agree defs row t (with_value s e.from.0 (meaning defs t e.value)) es)

abbrev pub has_good_entries : List TypeDef → Option (List ℕ) → IrType → List Pair → Bool
has_good_entries defs None t es = false
has_good_entries defs (Some row) t es = entries_agree defs row t no_values es

abbrev pub is_good_phi : List TypeDef → Option (List ℕ) → Op → Bool
is_good_phi defs row (Phi t es) = has_good_entries defs row t es
is_good_phi defs row _ = true

abbrev pub phi_fault : List TypeDef → Option (List ℕ) → Instr → List Place
phi_fault defs row i = place_if (not (is_good_phi defs row i.op)) i.place

abbrev pub block_phi_faults : List TypeDef → Sources → Block → List Place
block_phi_faults defs s b = flat_map (phi_fault defs (row_at s b.label)) b.code

abbrev pub phi_faults : List TypeDef → Sources → Func → List Place
phi_faults defs s f = flat_map (block_phi_faults defs s) f.blocks

-- ---- constants with an offset

-- the offset of a constant `getelementptr` can be told: the type is laid out and not too large, and the indices walk into it
abbrev pub IsMeasured : List TypeDef → Operand → Type 0
IsMeasured defs (operands.Const (consts.Gep source s is)) = IsLaid defs source × (IsTooLarge defs source → ⊥) × ConstWalk defs source is × IndicesFit is
IsMeasured defs _ = Unit {0}

abbrev pub AreMeasured : List TypeDef → Op → Type 0
AreMeasured defs (Phi t es) = All (λ (e : Pair). IsMeasured defs e.value) es
AreMeasured defs _ = Unit {0}

abbrev pub IsMeasuredBlock : List TypeDef → Block → Type 0
IsMeasuredBlock defs b = All (λ (i : Instr). AreMeasured defs i.op) b.code

abbrev pub IsMeasuredFunc : List TypeDef → Func → Type 0
IsMeasuredFunc defs f = All (IsMeasuredBlock defs) f.blocks
