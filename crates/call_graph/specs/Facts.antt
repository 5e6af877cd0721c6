-- What the components of a call graph say of functions and sites.
use Rattle.std.specs.Prelude.{ℕ, ◌+◌, ◌==◌, Bool, true, false, not, ◌&&◌, ◌||◌, List, [], ◌∷◌, map, slice_get}
use Rattle.std.specs.Option.{option_map_or}
use Rattle.ir_core.specs.declared.func.Func.{Func}
use Rattle.call_graph.specs.declared.sites.Site.{Site}
use Rattle.strong_components.specs.declared.walk.Mark.{Mark}
use Rattle.strong_components.specs.declared.walk.Mark.TheVariants.{Unseen, Open, Closed}
use Rattle.strong_components.specs.Marks.{mark_at}
use Rattle.call_graph.specs.declared.facts.FuncFacts.{FuncFacts}
use Rattle.call_graph.specs.declared.facts.SiteFacts.{SiteFacts}

abbrev pub is_closed : Mark → Bool
is_closed Unseen = false
is_closed (Open p) = false
is_closed (Closed c) = true

-- functions from a position on
abbrev pub func_facts : List Mark → ℕ → List Func → List FuncFacts
func_facts marks f [] = []
func_facts marks f (g ∷ gs) = record { external = not g.internal; reached = is_closed (mark_at marks f) } ∷ func_facts marks (f + 1) gs

abbrev pub may_be_inlined : List Func → Bool → ℕ → Bool
may_be_inlined funcs free f = option_map_or (λ (g : Func). free || not g.noinline) (slice_get funcs f) false

-- both functions are in components, and in two
abbrev pub are_apart : Mark → Mark → Bool
are_apart (Closed a) (Closed b) = not (a == b)
are_apart _ _ = false

abbrev pub is_candidate : List Func → List Mark → Bool → Site → Bool
is_candidate funcs marks free s = are_apart (mark_at marks s.caller.0) (mark_at marks s.callee.0) && may_be_inlined funcs free s.callee.0

abbrev pub site_facts : List Func → List Mark → Bool → List Site → List SiteFacts
site_facts funcs marks free sites = map (λ (s : Site). record { site = s; candidate = is_candidate funcs marks free s }) sites
