-- A table of facts, by the registers' numbers.
use Rattle.std.specs.Prelude.{List, Option, None, slice_index_or}
use Rattle.ir_core.specs.declared.flat.FlatOp.{FlatOp}
use Rattle.const_fold.specs.declared.fact_table.FactTable.{FactTable}
use Rattle.const_fold.specs.FoldConstants.{Facts}

abbrev pub facts_of : List (Option FlatOp) → Facts
facts_of table q = slice_index_or table q None

abbrev pub facts_in : FactTable → Facts
facts_in t = facts_of t.table.items
