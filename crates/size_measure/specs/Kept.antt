-- Which functions a map keeps, as a test.
use Rattle.std.specs.Prelude.{ℕ, suc, Bool, false, ◌&&◌, ◌||◌, nat_eq, List, [], ◌∷◌, slice_get}
use Rattle.std.specs.Option.{option_map_or}
use Rattle.call_graph.specs.declared.facts.FuncFacts.{FuncFacts}
use Rattle.call_graph.specs.declared.facts.SiteFacts.{SiteFacts}
use Rattle.call_graph.specs.Graph.{Graph}
use Rattle.size_measure.specs.Maps.{Map, is_keep}

abbrev pub is_reached : Graph → ℕ → Bool
is_reached g f = option_map_or (λ (h : FuncFacts). h.reached) (slice_get g.funcs f) false

abbrev pub is_external : Graph → ℕ → Bool
is_external g f = option_map_or (λ (h : FuncFacts). h.external) (slice_get g.funcs f) false

-- a kept site with a reached caller calls the function, among these sites, which are numbered from n on
abbrev pub any_keeps : Graph → Map → ℕ → ℕ → List SiteFacts → Bool
any_keeps g d f n [] = false
any_keeps g d f n (x ∷ xs) = (is_reached g x.site.caller.0 && (nat_eq x.site.callee.0 f && is_keep (d n))) || any_keeps g d f (suc n) xs

-- whether a reached function is kept: it is external, or a kept site with a reached caller calls it
abbrev pub is_kept : Graph → Map → ℕ → Bool
is_kept g d f = is_external g f || any_keeps g d f 1 g.sites
