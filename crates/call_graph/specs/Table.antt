-- A table of the functions' positions by their names.
use Rattle.std.specs.Prelude.{◌≡◌, ℕ, List, Option, None, slice_index_or}
use Rattle.oi_base.specs.declared.ids.FuncId.{FuncId}
use Rattle.ir_core.specs.declared.module.SymId.{SymId}
use Rattle.ir_core.specs.declared.func.Func.{Func}
use Rattle.call_graph.specs.Sites.{func_id}

abbrev pub number_at : List (Option FuncId) → ℕ → Option FuncId
number_at table x = slice_index_or table x None

-- the table has each name's function
abbrev pub Knows : List (Option FuncId) → List Func → Type 0
Knows table funcs = (s : SymId) → number_at table s.0 ≡ func_id funcs s
