-- The order of the entities of a module. A text numbers symbols and type names in order of first appearance, so an
-- entity stands after those that bring the names which come before its own.
use Rattle.std.specs.Prelude.{ℕ, zero, suc, ◌+◌, nat_le, max, Bool, true, false, ◌&&◌, List, [], ◌∷◌, length, fold, Option, Some, None, if◌then◌else◌}
use Rattle.std.specs.Option.{option_map_or}
use Rattle.ir_printer.specs.declared.marks.Mark.{Mark}
use Rattle.ir_printer.specs.declared.marks.Mark.TheVariants as marks
use Rattle.ir_printer.specs.declared.demands.Span.{Span}
use Rattle.ir_printer.specs.declared.demands.Demand.{Demand}
use Rattle.ir_printer.specs.declared.demands.Demands.{Demands}
use Rattle.ir_printer.specs.declared.demands.Known.{Known}
use Rattle.ir_printer.specs.declared.order.Kind.{Kind}
use Rattle.ir_printer.specs.declared.order.Kind.TheVariants as kinds

-- ---- what an entity asks of those before it

abbrev pub no_span : Span
no_span = record { need = 0; reach = 0 }

-- one more name appears: it is one of those here, or so many must have come before
abbrev pub span_after : Span → ℕ → Span
span_after s x = record { need = if nat_le x s.reach then s.need else max s.need x; reach = max s.reach (x + 1) }

-- of names in order of appearance: how many must have come before, so that each is one of those or the next one; and
-- how many have come after them
abbrev pub span : List ℕ → Span
span names = fold span_after no_span names

abbrev pub no_demand : Demand
no_demand = record { symbols = no_span; types = no_span }

abbrev pub demand_after : Demand → Mark → Demand
demand_after d (marks.Symbol x) = record d { symbols = span_after d.symbols x.0 }
demand_after d (marks.TypeName x) = record d { types = span_after d.types x.0 }
demand_after d m = d

-- the symbols and type names of marks
abbrev pub demand : List Mark → Demand
demand ms = fold demand_after no_demand ms

-- ---- the order

abbrev pub nothing_known : Known
nothing_known = record { symbols = 0; types = 0 }

abbrev pub known_beyond : Known → Demand → Known
known_beyond k d = record { symbols = max k.symbols d.symbols.reach; types = max k.types d.types.reach }

abbrev pub fits : Known → Demand → Bool
fits k d = nat_le d.symbols.need k.symbols && nat_le d.types.need k.types

abbrev pub first_fits : Known → List Demand → Bool
first_fits k [] = false
first_fits k (d ∷ ds) = fits k d

abbrev pub is_left : List Demand → Bool
is_left [] = false
is_left (d ∷ ds) = true

-- the first kind of which an entity is left
abbrev pub first_left : Demands → Option Kind
first_left q =
    if is_left q.types then Some kinds.Type
    else (if is_left q.globals then Some kinds.Global
    else (if is_left q.funcs then Some kinds.Func
    else (if is_left q.declared then Some kinds.Declared else None)))

-- The kind of the next entity: the first kind whose next entity fits. Where none does, the text has no names in the
-- module's order, and the first kind of which an entity is left is taken.
abbrev pub turn : Known → Demands → Option Kind
turn k q =
    if first_fits k q.types then Some kinds.Type
    else (if first_fits k q.globals then Some kinds.Global
    else (if first_fits k q.funcs then Some kinds.Func
    else (if first_fits k q.declared then Some kinds.Declared else first_left q)))

abbrev pub first_known : Known → List Demand → Known
first_known k [] = k
first_known k (d ∷ ds) = known_beyond k d

abbrev pub queue_of : Kind → Demands → List Demand
queue_of kinds.Target q = []
queue_of kinds.Type q = q.types
queue_of kinds.Global q = q.globals
queue_of kinds.Func q = q.funcs
queue_of kinds.Declared q = q.declared

abbrev pub rest : List Demand → List Demand
rest [] = []
rest (d ∷ ds) = ds

abbrev pub without_first : Kind → Demands → Demands
without_first kinds.Target q = q
without_first kinds.Type q = record q { types = rest q.types }
without_first kinds.Global q = record q { globals = rest q.globals }
without_first kinds.Func q = record q { funcs = rest q.funcs }
without_first kinds.Declared q = record q { declared = rest q.declared }

abbrev pub count : Demands → ℕ
count q = length q.types + (length q.globals + (length q.funcs + length q.declared))

-- the kinds of so many entities, in the order of the text
abbrev pub turns : ℕ → Known → Demands → List Kind
turns zero k q = []
turns (suc n) k q = option_map_or (λ (kind : Kind). kind ∷ turns n (first_known k (queue_of kind q)) (without_first kind q)) (turn k q) []

-- the kinds of all entities
unfoldable pub order : Demands → List Kind
order q = turns (count q) nothing_known q
