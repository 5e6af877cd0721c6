-- The call graph of a module.
use Rattle.std.specs.Prelude.{◌≡◌, ◌↔◌, refl, ℕ, ◌+◌, ◌-◌, ◌≤◌, Bool, if◌then◌else◌, IsTrue, List, [], ◌∷◌, map, length, Some, slice_get}
use Rattle.std.specs.Coded.{Coded, coded_list, coded×, code_by}
use Rattle.oi_base.specs.declared.ids.SiteId.{SiteId}
use Rattle.ir_core.specs.declared.func.Func.{Func}
use Rattle.call_graph.specs.declared.facts.FuncFacts.{FuncFacts}
use Rattle.call_graph.specs.declared.facts.SiteFacts.{SiteFacts}
use Rattle.call_graph.specs.contracts.facts.FuncFacts as of_func
use Rattle.call_graph.specs.contracts.facts.SiteFacts as of_site
use Rattle.call_graph.specs.Sites.{all_sites, IsExternal, IsReached, IsCandidate}

-- what is said of each function, by its position in text order, and of each site, of which the first has the number 1
pub record Graph : Type 0 where
  pub funcs : List FuncFacts
  pub sites : List SiteFacts

abbrev pub coded_graph : Coded Graph
coded_graph = code_by (List FuncFacts × List SiteFacts) (coded× (coded_list of_func.the_row.coded) (coded_list of_site.the_row.coded)) (λ g. (g.funcs, g.sites)) (λ p. record { funcs = p.0; sites = p.1 }) (λ _. refl)

-- the graph of a module's functions; where `free` is true, `noinline` on a function has no effect
pub record IsGraph (funcs : List Func) (free : Bool) (g : Graph) : Type 0 where
  pub count : length g.funcs ≡ length funcs
  pub external : (f : ℕ) (x : FuncFacts) → slice_get g.funcs f ≡ Some x → IsTrue x.external ↔ IsExternal funcs f
  pub reached : (f : ℕ) (x : FuncFacts) → slice_get g.funcs f ≡ Some x → IsTrue x.reached ↔ IsReached funcs f
  pub sites : map (λ (s : SiteFacts). s.site) g.sites ≡ all_sites funcs
  pub candidate : (k : ℕ) (s : SiteFacts) → slice_get g.sites k ≡ Some s → IsTrue s.candidate ↔ IsCandidate funcs free s.site

-- the numbers of the candidates among sites that are numbered from n on
abbrev pub candidates_from : ℕ → List SiteFacts → List SiteId
candidates_from n [] = []
candidates_from n (s ∷ ss) = if s.candidate then (record { 0 = n } ∷ candidates_from (n + 1) ss) else candidates_from (n + 1) ss

abbrev pub candidate_ids : Graph → List SiteId
candidate_ids g = candidates_from 1 g.sites

-- a site by its number
abbrev pub IsNumber : Graph → SiteId → Type 0
IsNumber g s = (1 ≤ s.0) × (s.0 ≤ length g.sites)

abbrev pub SiteIs : Graph → SiteId → SiteFacts → Type 0
SiteIs g s x = slice_get g.sites (s.0 - 1) ≡ Some x

-- a candidate of the graph
abbrev pub IsCandidateOf : Graph → SiteId → Type 0
IsCandidateOf g s = IsNumber g s × ((x : SiteFacts) × SiteIs g s x × IsTrue x.candidate)
