-- Chains of sites are chains of edges, and external functions are the nodes from which the walk begins.
use Rattle.std.proofs.Common.{◌≡◌, ◌+◌, ◌<◌, ◌≤◌, ℕ, Bool, true, false, not, List, map, length, Option, Some, None, slice_get, Contains, refl, sym, ap, ◌∙◌, subst, arith}
use Rattle.std.specs.Option.{option_map}
use Rattle.std.proofs.lemmas.List.{length-map}
use Rattle.std.proofs.lemmas.Option.{slice_get-map, slice_get_read}
use Rattle.ir_core.specs.declared.func.Func.{Func}
use Rattle.strong_components.specs.declared.edge.Edge.{Edge}
use Rattle.strong_components.specs.Chains as chains
use Rattle.strong_components.specs.Chains.{IsRootIn}
use Rattle.strong_components.proofs.Turning.{contains_at}
use Rattle.call_graph.specs.declared.sites.Site.{Site}
use Rattle.call_graph.specs.Sites.{Leads, stays, goes, IsExternal}
use Rattle.call_graph.specs.Edges.{edge_of, edges_of, are_external}

-- an edge at a place is that of the site there
pub edge_site : (sites : List Site) (k : ℕ) (e : Edge) → slice_get (edges_of sites) k ≡ Some e → (s : Site) × (slice_get sites k ≡ Some s) × (edge_of s ≡ e)
edge_site sites k e at = by_site (slice_get sites k) refl (sym (slice_get-map edge_of sites k) ∙ at)
  where
    by_site : (o : Option Site) → slice_get sites k ≡ o → option_map edge_of (slice_get sites k) ≡ Some e → (s : Site) × (slice_get sites k ≡ Some s) × (edge_of s ≡ e)
    by_site None o h = let clash : None ≡ Some e = sym (ap (option_map edge_of) o) ∙ h in absurd cc
    by_site (Some s) o h = let same : Some (edge_of s) ≡ Some e = sym (ap (option_map edge_of) o) ∙ h in (s, o, cc)

pub site_edge : (sites : List Site) (k : ℕ) (s : Site) → slice_get sites k ≡ Some s → slice_get (edges_of sites) k ≡ Some (edge_of s)
site_edge sites k s at = slice_get-map edge_of sites k ∙ ap (option_map edge_of) at

read_at : {A : Type 0} (xs : List A) (x : A) (has : Contains xs x) → slice_get xs has.0 ≡ Some x
read_at xs x has = slice_get_read xs (length xs) has.0 x refl has.1 (sym has.2)

pub edges_lead : {sites : List Site} {f g : ℕ} → Leads sites f g → chains.Leads (edges_of sites) f g
edges_lead (stays f) = chains.stays f
edges_lead {sites} (goes s f has l) = chains.goes (edge_of s) f (contains_at (edges_of sites) has.0 (edge_of s) (site_edge sites has.0 s (read_at sites s has))) (edges_lead l)

pub sites_lead : {sites : List Site} {f g : ℕ} → chains.Leads (edges_of sites) f g → Leads sites f g
sites_lead (chains.stays f) = stays f
sites_lead {sites} (chains.goes e f has l) =
    let s = edge_site sites has.0 e (read_at (edges_of sites) e has) in
    subst (λ (x : Edge). Leads sites x.to f → Leads sites x.from f) s.2 (goes s.0 f (contains_at sites has.0 s.0 s.1)) (sites_lead l)

-- ---- external functions

pub root_external : (funcs : List Func) (f : ℕ) → IsRootIn (are_external funcs) f → IsExternal funcs f
root_external funcs f at = by_func (slice_get funcs f) refl (sym (slice_get-map (λ (g : Func). not g.internal) funcs f) ∙ at)
  where
    by_flag : (b : Bool) → Some (not b) ≡ Some true → b ≡ false
    by_flag true e = let same : false ≡ true = cc in absurd cc
    by_flag false e = refl

    by_func : (o : Option Func) → slice_get funcs f ≡ o → option_map (λ (g : Func). not g.internal) (slice_get funcs f) ≡ Some true → IsExternal funcs f
    by_func None o h = let clash : None ≡ Some true = sym (ap (option_map (λ (g : Func). not g.internal)) o) ∙ h in absurd cc
    by_func (Some g) o h = (g, o, by_flag g.internal (sym (ap (option_map (λ (x : Func). not x.internal)) o) ∙ h))

pub external_root : (funcs : List Func) (f : ℕ) → IsExternal funcs f → IsRootIn (are_external funcs) f
external_root funcs f h = slice_get-map (λ (g : Func). not g.internal) funcs f ∙ ap (option_map (λ (g : Func). not g.internal)) h.1 ∙ ap (λ b. Some (not b)) h.2

pub as_many : (funcs : List Func) → length (are_external funcs) ≡ length funcs
as_many funcs = length-map funcs (λ (f : Func). not f.internal)
