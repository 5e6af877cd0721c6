-- Every entity that is read is left out or printed.
use Rattle.std.proofs.Common.{inl, inr, ℕ, List}
use Rattle.ir_grammar.specs.Tokens.{Limits}
use Rattle.ir_grammar.specs.Entities.{other_entity, entity}
use Rattle.ir_printer.specs.Layout.{Tables}
use Rattle.ir_printer.proofs.Positions.{IsIndexed}
use Rattle.ir_printer.proofs.Reprinting.{IndexedTables}
use Rattle.ir_printer.proofs.PrintedForms.{PrintsBody, PrintsEntities}
use Rattle.ir_printer.proofs.EntitiesReprinted.{read_source, read_target, read_attributes, read_metadata, read_type_def}
use Rattle.ir_printer.proofs.GlobalsReprinted.{read_global_var, read_declaration}
use Rattle.ir_printer.proofs.FunctionsReprinted.{read_definition}

-- each entity that is read is left out or printed, where that is so of the bodies of functions
pub prints_entities : (n : Tables) (l : Limits) (noinline : List (List ℕ)) → IsIndexed n.symbols → IsIndexed n.types → ((m : Tables) → IndexedTables m → PrintsBody m l) → PrintsEntities n l noinline
unfolding entity other_entity
prints_entities n l noinline i j bodies count s u x t (inl r) = read_metadata n l noinline s u x t r
prints_entities n l noinline i j bodies count s u x t (inr (inl r)) = read_source n l noinline s u x t r
prints_entities n l noinline i j bodies count s u x t (inr (inr (inl r))) = read_target n l noinline s u x t r
prints_entities n l noinline i j bodies count s u x t (inr (inr (inr (inl r)))) = read_attributes n l noinline s u x t r
prints_entities n l noinline i j bodies count s u x t (inr (inr (inr (inr (inl r))))) = read_type_def n l noinline i j s u x t r
prints_entities n l noinline i j bodies count s u x t (inr (inr (inr (inr (inr (inl r)))))) = read_global_var n l noinline i j s u x t r
prints_entities n l noinline i j bodies count s u x t (inr (inr (inr (inr (inr (inr (inl r))))))) = read_definition n l noinline i j bodies count s u x t r
prints_entities n l noinline i j bodies count s u x t (inr (inr (inr (inr (inr (inr (inr r))))))) = read_declaration n l noinline i j s u x t r
