-- Candidates form no cycle.
use Rattle.std.proofs.Common.{◌≡◌, ℕ, Bool, List, refl, subst}
use Rattle.ir_core.specs.declared.func.Func.{Func}
use Rattle.call_graph.specs.Sites.{Leads, stays, goes, all_sites, CandidatesLead, by_one, by_more}

along : {funcs : List Func} {free : Bool} {f g : ℕ} → CandidatesLead funcs free f g → Leads (all_sites funcs) f g
along (by_one s has c) = goes s _ has (stays _)
along (by_more s f has c rest) = goes s f has (along rest)

ends_elsewhere : {funcs : List Func} {free : Bool} {f g : ℕ} → CandidatesLead funcs free f g → g ≡ f → ⊥
ends_elsewhere {funcs} (by_one s has c) e = c.no_cycle (subst (λ x. Leads (all_sites funcs) s.callee.0 x) e (stays s.callee.0))
ends_elsewhere {funcs} (by_more s f has c rest) e = c.no_cycle (subst (λ x. Leads (all_sites funcs) s.callee.0 x) e (along rest))

pub no_cycle : (funcs : List Func) (free : Bool) (f : ℕ) → CandidatesLead funcs free f f → ⊥
no_cycle funcs free f l = ends_elsewhere l refl
