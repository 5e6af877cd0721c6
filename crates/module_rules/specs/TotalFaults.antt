-- Where the data and the names are too large.
use Rattle.std.specs.Prelude.{◌≡◌, ℕ, ◌+◌, ◌<◌, ◌≤◌, true, List, length, map, filter, take, sum_by, slice_get, slice_index_or, Some, Contains}
use Rattle.ir_core.specs.declared.limits.TheConstants.{MOST_DATA}
use Rattle.oi_base.specs.declared.ids.Place.{Place}
use Rattle.ir_core.specs.declared.ty.TypeDef.{TypeDef}
use Rattle.ir_core.specs.declared.module.SymId.{SymId}
use Rattle.ir_core.specs.declared.module.GlobalVar.{GlobalVar}
use Rattle.ir_core.specs.declared.module.Module.{Module}
use Rattle.ir_core.specs.Operands.{is_up_to, symbol_text}
use Rattle.ir_core.specs.ValidModule.{Introduced, named, name_bytes, data_end}
use Rattle.module_rules.specs.declared.totals.Name.{Name}

-- ---- data

-- a global among these with which they are too large
abbrev pub AreDataPast : List TypeDef → List GlobalVar → Place → Type 0
AreDataPast defs globals p = (i : ℕ) × (g : GlobalVar) × (slice_get globals i ≡ Some g) × (g.place ≡ p) × (MOST_DATA < data_end defs (take (i + 1) globals))

-- ---- names

-- a definition or a global with which the names up to its place have more bytes than the most
abbrev pub HasNamesPast : ℕ → Module → Place → Type 0
HasNamesPast most m p = (a : Introduced) × Contains (named m) a × (a.place ≡ p) × (most < name_bytes m p)

-- what a name adds
abbrev pub name_size : Module → SymId → ℕ
name_size m s = length (symbol_text m s) + 17

abbrev pub sized : Module → Introduced → Name
sized m a = record { place = a.place; bytes = name_size m a.name }

abbrev pub sized_names : Module → List Name
sized_names m = map (sized m) (named m)

-- the same of names whose bytes are known
abbrev pub bytes_up_to : List Name → Place → ℕ
bytes_up_to names p = sum_by (λ (n : Name). n.bytes) (filter (λ (n : Name). is_up_to n.place p) names)

abbrev pub AreNamesPast : ℕ → List Name → Place → Type 0
AreNamesPast most names p = (n : Name) × Contains names n × (n.place ≡ p) × (most < bytes_up_to names p)

-- no name stands before one that is earlier in the list
abbrev pub AreInOrder : List Name → Type 0
AreInOrder names = (i j : ℕ) (d : Name) → i ≤ j → j < length names → is_up_to (slice_index_or names i d).place (slice_index_or names j d).place ≡ true
