-- Which functions reach a function by sites that a map labels inline.
use Rattle.std.specs.Prelude.{◌≡◌, ◌↔◌, ℕ, ◌<◌, ◌==◌, Bool, true, false, ◌||◌, List, length, filter, Contains, Option, slice_index_or}
use Rattle.std.specs.Option.{option_map_or}
use Rattle.oi_base.specs.declared.ids.FuncId.{FuncId}
use Rattle.oi_base.specs.declared.ids.SiteId.{SiteId}
use Rattle.call_graph.specs.declared.facts.SiteFacts.{SiteFacts}
use Rattle.call_graph.specs.Graph.{Graph, SiteIs}
use Rattle.decisions.specs.Maps as maps
use Rattle.shapes.specs.Tree.{Tree, node, Callees, none, more}
use Rattle.shapes.specs.Standing.{Labels, is_inline}

-- ---- chains

-- a chain of sites that the map labels inline, of none or more, leads from one function to another
pub data InlinesLead (g : Graph) (p : Labels) : ℕ → ℕ → Type 0 where
  stays : (f : ℕ) → InlinesLead g p f f
  goes : (s : SiteId) (x : SiteFacts) (f : ℕ) → SiteIs g s x → is_inline (maps.label_of p s) ≡ true → InlinesLead g p x.site.callee.0 f → InlinesLead g p x.site.caller.0 f

-- so many numbers are so
pub record IsCount (P : ℕ → Type 0) (n : ℕ) : Type 0 where
  pub those : List ℕ
  pub ascending : (i j d : ℕ) → i < j → j < length those → slice_index_or those i d < slice_index_or those j d
  pub exactly : (f : ℕ) → Contains those f ↔ P f
  pub many : length those ≡ n

-- ---- trees

-- whether a function stands in a tree
abbrev mutual
  pub has_func : FuncId → Tree → Bool
  has_func c (node f w ks) = f.0 == c.0 || have_func c ks

  pub have_func : FuncId → Callees → Bool
  have_func c none = false
  have_func c (more s t ks) = has_func c t || have_func c ks

-- in how many trees a function stands; in a forest these are the trees of the functions that reach it
abbrev pub reaching_count : FuncId → List (Option Tree) → ℕ
reaching_count c trees = length (filter (λ (o : Option Tree). option_map_or (has_func c) o false) trees)
