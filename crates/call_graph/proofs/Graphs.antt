-- What the components say is the call graph.
use Rattle.std.proofs.Common.{◌≡◌, ◌≢◌, inl, inr, ⊎_elim, ℕ, zero, suc, ◌+◌, ◌≤◌, ◌==◌, Bool, true, false, not, ◌&&◌, ◌||◌, List, [], ◌∷◌, map, length, Option, Some, None, slice_get, IsTrue, ◌↔◌, refl, sym, ap, ◌∙◌, subst, arith}
use Rattle.std.specs.Option.{option_map, option_map_or}
use Rattle.std.proofs.lemmas.Bool.Decides.{nat_tests}
use Rattle.std.proofs.lemmas.Option.{slice_get_within, slice_get-map, slice_get_read}
use Rattle.ir_core.specs.declared.limits.TheConstants.{MOST_FUNCTIONS, MOST_SITES}
use Rattle.ir_core.specs.declared.func.Func.{Func}
use Rattle.ir_core.specs.declared.module.Module.{Module}
use Rattle.ir_core.specs.Proper.{IsProper}
use Rattle.call_graph.specs.declared.sites.Site.{Site}
use Rattle.strong_components.specs.declared.walk.Mark.{Mark}
use Rattle.strong_components.specs.declared.walk.Mark.TheVariants.{Unseen, Open, Closed}
use Rattle.call_graph.specs.declared.facts.FuncFacts.{FuncFacts}
use Rattle.call_graph.specs.declared.facts.SiteFacts.{SiteFacts}
use Rattle.call_graph.specs.Sites.{Leads, stays, goes, all_sites, IsExternal, IsReached, MayBeInlined, IsCandidate}
use Rattle.strong_components.specs.Chains.{IsRootIn}
use Rattle.strong_components.specs.Walk.{AreComponents, IsClosedUpTo}
use Rattle.strong_components.proofs.Falling.{closed_or}
use Rattle.strong_components.proofs.Falling.{falls as edges_fall}
use Rattle.call_graph.specs.Edges.{edge_of, edges_of, are_external}
use Rattle.call_graph.proofs.Nodes.{site_edge, edges_lead, sites_lead, root_external, external_root, as_many}
use Rattle.strong_components.specs.Marks.{mark_at}
use Rattle.call_graph.specs.Facts.{is_closed, func_facts, may_be_inlined, are_apart, is_candidate, site_facts}
use Rattle.call_graph.specs.Graph.{Graph, IsGraph}
use Rattle.call_graph.proofs.AllSites.{count_sites}

-- the components of a module's functions
abbrev pub AreOfSites : List Func → List Mark → Type 0
AreOfSites funcs marks = AreComponents (length (are_external funcs)) (edges_of (all_sites funcs)) (IsRootIn (are_external funcs)) marks

module _ (funcs : List Func) (marks : List Mark) (comps : AreOfSites funcs marks) where
  abbrev sites : List Site
  sites = all_sites funcs

  -- a chain of sites never leads to a component with a greater number
  falls : {u v : ℕ} → Leads sites u v → (c : ℕ) → mark_at marks u ≡ Closed c → (d : ℕ) × (mark_at marks v ≡ Closed d) × (d ≤ c)
  falls l c e = edges_fall (length (are_external funcs)) (edges_of sites) (IsRootIn (are_external funcs)) marks comps (edges_lead l) c e

  reached_closed : (f : ℕ) → IsReached funcs f → (c : ℕ) × (mark_at marks f ≡ Closed c)
  reached_closed f h =
      let external = h.1 in
      let n = as_many funcs in
      let w = slice_get_within funcs h.0 external.0 external.1 in
      let root = closed_or (length (are_external funcs)) (edges_of sites) (IsRootIn (are_external funcs)) marks comps h.0 (comps.roots h.0 (omega (arith, w, n)) (external_root funcs h.0 external)) in
      let r = falls h.2 root.0 root.1 in
      (r.0, r.1)

  closed_reached : (f c : ℕ) → mark_at marks f ≡ Closed c → IsReached funcs f
  closed_reached f c e =
      let r = comps.reached f (λ u. let clash : Closed c ≡ Unseen = sym e ∙ u in cc) in
      (r.0, root_external funcs r.0 r.1, sites_lead r.2)

  -- ---- functions

  closed_true : (m : Mark) → is_closed m ≡ true → (c : ℕ) × (m ≡ Closed c)
  closed_true Unseen e = let clash : false ≡ true = e in absurd cc
  closed_true (Open p) e = let clash : false ≡ true = e in absurd cc
  closed_true (Closed c) e = (c, refl)

  is_reached : (f : ℕ) → (is_closed (mark_at marks f) ≡ true) ↔ IsReached funcs f
  is_reached f = (λ e. let c = closed_true (mark_at marks f) e in closed_reached f c.0 c.1, λ h. let c = reached_closed f h in ap is_closed c.1)

  same_internal : (b : Bool) → not b ≡ true → b ≡ false
  same_internal true e = let clash : false ≡ true = e in absurd cc
  same_internal false e = refl

  -- the facts of the function at a place
  fact_at : (n : ℕ) (fs : List Func) (f : ℕ) (x : FuncFacts) → slice_get (func_facts marks n fs) f ≡ Some x → (g : Func) × (slice_get fs f ≡ Some g) × (record { external = not g.internal; reached = is_closed (mark_at marks (n + f)) } ≡ x)
  fact_at n [] f x e = absurd (let clash : None ≡ Some x = e in cc)
  fact_at n (g ∷ gs) zero x e = let z : n ≡ n + 0 = omega arith in (g, refl, ap (λ k. record { external = not g.internal; reached = is_closed (mark_at marks k) }) (sym z) ∙ (let same : record { external = not g.internal; reached = is_closed (mark_at marks n) } ≡ x = cc in same))
  fact_at n (g ∷ gs) (suc f) x e =
      let r = fact_at (n + 1) gs f x e in
      let z : n + suc f ≡ n + 1 + f = omega arith in
      (r.0, r.1, ap (λ k. record { external = not r.0.internal; reached = is_closed (mark_at marks k) }) z ∙ r.2)

  facts_long : (n : ℕ) (fs : List Func) → length (func_facts marks n fs) ≡ length fs
  facts_long n [] = refl
  facts_long n (g ∷ gs) = ap suc (facts_long (n + 1) gs)

  -- ---- sites

  both_true : (a b : Bool) → (a && b) ≡ true → (a ≡ true) × (b ≡ true)
  both_true true b e = (refl, e)
  both_true false b e = let clash : false ≡ true = e in absurd cc

  may_to : (free : Bool) (f : ℕ) → may_be_inlined funcs free f ≡ true → MayBeInlined funcs free f
  may_to free f e = by_func (slice_get funcs f) refl e
    where
      by_flag : (g : Func) → slice_get funcs f ≡ Some g → (b n : Bool) → free ≡ b → g.noinline ≡ n → (b || not n) ≡ true → MayBeInlined funcs free f
      by_flag g at true n eb en h = (g, at, inr eb)
      by_flag g at false true eb en h = let clash : false ≡ true = h in absurd cc
      by_flag g at false false eb en h = (g, at, inl en)

      by_func : (o : Option Func) → slice_get funcs f ≡ o → option_map_or (λ (g : Func). free || not g.noinline) o false ≡ true → MayBeInlined funcs free f
      by_func None at h = let clash : false ≡ true = h in absurd cc
      by_func (Some g) at h = by_flag g at free g.noinline refl refl h

  may_from : (free : Bool) (f : ℕ) → MayBeInlined funcs free f → may_be_inlined funcs free f ≡ true
  may_from free f h = ap (λ (o : Option Func). option_map_or (λ (g : Func). free || not g.noinline) o false) h.1 ∙ ⊎_elim
      (λ e. by_noinline free h.0.noinline e)
      (λ e. ap (λ b. b || not h.0.noinline) e)
      h.2
    where
      by_noinline : (b n : Bool) → n ≡ false → (b || not n) ≡ true
      by_noinline true n e = refl
      by_noinline false n e = ap not e

  apart_to : (a b : Mark) → are_apart a b ≡ true → (c d : ℕ) × (a ≡ Closed c) × (b ≡ Closed d) × (c ≢ d)
  apart_to Unseen b e = let clash : false ≡ true = e in absurd cc
  apart_to (Open p) b e = let clash : false ≡ true = e in absurd cc
  apart_to (Closed c) Unseen e = let clash : false ≡ true = e in absurd cc
  apart_to (Closed c) (Open p) e = let clash : false ≡ true = e in absurd cc
  apart_to (Closed c) (Closed d) e = (c, d, refl, refl, λ same. by_test (c == d) refl e same)
    where
      by_test : (t : Bool) → (c == d) ≡ t → not t ≡ true → c ≡ d → ⊥
      by_test true t h same = let clash : false ≡ true = h in cc
      by_test false t h same = absurd (grind (arith, nat_tests))

  apart_from : (c d : ℕ) → c ≢ d → not (c == d) ≡ true
  apart_from c d ne = by_test (c == d) refl
    where
      by_test : (t : Bool) → (c == d) ≡ t → not t ≡ true
      by_test true t = let same : c ≡ d = grind (arith, nat_tests) in absurd (ne same)
      by_test false t = refl

  callee_closed : (k : ℕ) (s : Site) (c : ℕ) → slice_get sites k ≡ Some s → mark_at marks s.caller.0 ≡ Closed c → (d : ℕ) × (mark_at marks s.callee.0 ≡ Closed d) × (d ≤ c)
  callee_closed k s c at e = by_mark (mark_at marks s.callee.0) refl (comps.edges_fall s.caller.0 c k (edge_of s) e (site_edge sites k s at) refl)
    where
      by_mark : (m : Mark) → mark_at marks s.callee.0 ≡ m → IsClosedUpTo (length (are_external funcs)) (edges_of sites) (IsRootIn (are_external funcs)) c m → (d : ℕ) × (mark_at marks s.callee.0 ≡ Closed d) × (d ≤ c)
      by_mark Unseen m h = absurd h
      by_mark (Open p) m h = absurd h
      by_mark (Closed d) m h = (d, m, h)

  candidate_to : (free : Bool) (k : ℕ) (s : Site) → slice_get sites k ≡ Some s → is_candidate funcs marks free s ≡ true → IsCandidate funcs free s
  candidate_to free k s at e =
      let both = both_true (are_apart (mark_at marks s.caller.0) (mark_at marks s.callee.0)) (may_be_inlined funcs free s.callee.0) e in
      let apart = apart_to (mark_at marks s.caller.0) (mark_at marks s.callee.0) both.0 in
      record {
        reached = closed_reached s.caller.0 apart.0 apart.2;
        no_cycle = λ l.
            let down = callee_closed k s apart.0 at apart.2 in
            let up = falls l apart.1 apart.3 in
            let d_is : down.0 ≡ apart.1 = same_number (mark_at marks s.callee.0) down.0 apart.1 down.1 apart.3 in
            let u_is : up.0 ≡ apart.0 = same_number (mark_at marks s.caller.0) up.0 apart.0 up.1 apart.2 in
            let le1 = down.2 in
            let le2 = up.2 in
            apart.4 (omega (arith, d_is, u_is, le1, le2));
        may = may_to free s.callee.0 both.1;
      }
    where
      same_number : (m : Mark) (c d : ℕ) → m ≡ Closed c → m ≡ Closed d → c ≡ d
      same_number m c d e h = let both : Closed c ≡ Closed d = sym e ∙ h in cc

  candidate_from : (free : Bool) (k : ℕ) (s : Site) → slice_get sites k ≡ Some s → IsCandidate funcs free s → is_candidate funcs marks free s ≡ true
  candidate_from free k s at h =
      let c = reached_closed s.caller.0 h.reached in
      let d = callee_closed k s c.0 at c.1 in
      let apart : c.0 ≢ d.0 = λ same. h.no_cycle (sites_lead (comps.joined s.callee.0 s.caller.0 d.0 d.1 (c.1 ∙ ap Closed same))) in
      rw (c.1, d.1, apart_from c.0 d.0 apart) (may_from free s.callee.0 h.may)

  pub is_graph : (free : Bool) → IsGraph funcs free (record { funcs = func_facts marks 0 funcs; sites = site_facts funcs marks free sites })
  is_graph free = record { count = facts_long 0 funcs; external = external_is; reached = reached_is; sites = back_map sites; candidate = candidate_is }
    where
      external_is : (f : ℕ) (x : FuncFacts) → slice_get (func_facts marks 0 funcs) f ≡ Some x → IsTrue x.external ↔ IsExternal funcs f
      external_is f x e =
          let r = fact_at 0 funcs f x e in
          let is : not r.0.internal ≡ x.external = ap (λ (y : FuncFacts). y.external) r.2 in
          (λ t. (r.0, r.1, same_internal r.0.internal (is ∙ t)), λ h. sym is ∙ (let both : Some h.0 ≡ Some r.0 = sym h.1 ∙ r.1 in let g : h.0 ≡ r.0 = cc in ap (λ (z : Func). not z.internal) (sym g) ∙ ap not h.2))

      reached_is : (f : ℕ) (x : FuncFacts) → slice_get (func_facts marks 0 funcs) f ≡ Some x → IsTrue x.reached ↔ IsReached funcs f
      reached_is f x e =
          let r = fact_at 0 funcs f x e in
          let z : 0 + f ≡ f = omega arith in
          let is : is_closed (mark_at marks f) ≡ x.reached = ap (λ k. is_closed (mark_at marks k)) (sym z) ∙ ap (λ (y : FuncFacts). y.reached) r.2 in
          (λ t. (is_reached f).0 (is ∙ t), λ h. sym is ∙ (is_reached f).1 h)

      candidate_is : (k : ℕ) (s : SiteFacts) → slice_get (site_facts funcs marks free sites) k ≡ Some s → IsTrue s.candidate ↔ IsCandidate funcs free s.site
      candidate_is k s e = by_site (slice_get sites k) refl
        where
          by_site : (o : Option Site) → slice_get sites k ≡ o → IsTrue s.candidate ↔ IsCandidate funcs free s.site
          by_site None at = let gone : None ≡ Some s = sym (slice_get-map (λ (x : Site). record { site = x; candidate = is_candidate funcs marks free x }) sites k ∙ ap (option_map (λ (x : Site). record { site = x; candidate = is_candidate funcs marks free x })) at) ∙ e in absurd cc
          by_site (Some x) at =
              let made : Some (record { site = x; candidate = is_candidate funcs marks free x }) ≡ Some s = sym (slice_get-map (λ (x : Site). record { site = x; candidate = is_candidate funcs marks free x }) sites k ∙ ap (option_map (λ (x : Site). record { site = x; candidate = is_candidate funcs marks free x })) at) ∙ e in
              let same : record { site = x; candidate = is_candidate funcs marks free x } ≡ s = cc in
              subst (λ (y : SiteFacts). IsTrue y.candidate ↔ IsCandidate funcs free y.site) same (candidate_to free k x at, candidate_from free k x at)

      back_map : (xs : List Site) → map (λ (s : SiteFacts). s.site) (site_facts funcs marks free xs) ≡ xs
      back_map [] = refl
      back_map (x ∷ xs) = ap (λ ys. x ∷ ys) (back_map xs)

-- ---- how many there are

few_sites : (m : Module) → IsProper m → length (all_sites m.funcs) ≤ MOST_SITES
few_sites m proper = let a = count_sites m in let b = proper.site_count in omega (arith, a, b)

module _ (free : Bool) (funcs : List Func) where
  pub whole_graph : (them : List Site) (marks first last : List Mark) (fs : List FuncFacts) (ss : List SiteFacts) → them ≡ all_sites funcs → first ≡ marks → last ≡ marks
      → AreOfSites funcs marks → fs ≡ func_facts last 0 funcs → ss ≡ site_facts funcs first free them → IsGraph funcs free (record { funcs = fs; sites = ss })
  whole_graph them marks first last fs ss e2 e3 e4 comps ef es =
      let f_is : fs ≡ func_facts marks 0 funcs = ef ∙ ap (λ x. func_facts x 0 funcs) e4 in
      let s_is : ss ≡ site_facts funcs marks free (all_sites funcs) = es ∙ ap (λ x. site_facts funcs x free them) e3 ∙ ap (site_facts funcs marks free) e2 in
      subst (λ x. IsGraph funcs free (record { funcs = x; sites = ss })) (sym f_is)
      (subst (λ x. IsGraph funcs free (record { funcs = func_facts marks 0 funcs; sites = x })) (sym s_is) (is_graph funcs marks comps free))

module _ (m : Module) (free : Bool) (g : Graph) (proper : IsProper m) (graph : IsGraph m.funcs free g) where
  long : (ss : List SiteFacts) → length (map (λ (s : SiteFacts). s.site) ss) ≡ length ss
  long [] = refl
  long (s ∷ ss) = ap suc (long ss)

  pub few_sites_said : length g.sites ≤ MOST_SITES
  few_sites_said = let few = few_sites m proper in let a = ap length graph.sites in let b = long g.sites in omega (arith, few, a, b)

  pub few_funcs_said : length g.funcs ≤ MOST_FUNCTIONS
  few_funcs_said = let few = proper.funcs in let a = graph.count in omega (arith, few, a)
