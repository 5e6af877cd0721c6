-- A map whose certificate passes is least.
use Rattle.std.proofs.Common.{◌≡◌, ℕ, ◌+◌, subst, arith, Some}
use Rattle.ir_core.specs.declared.module.Module.{Module}
use Rattle.call_graph.specs.Graph.{Graph}
use Rattle.component_split.specs.Over.{reached_from}
use Rattle.component_split.specs.States.{none_decided}
use Rattle.inline_certificate.specs.declared.certificates.Certificate.{Certificate}
use Rattle.shapes.specs.Over.{IsGraphOf}
use Rattle.size_measure.specs.Maps.{Map, Completes}
use Rattle.size_measure.specs.Sizes.{IsAtMost, part, size}
use Rattle.size_measure.specs.Low.{low}
use Rattle.size_measure.proofs.Bounds.{at_most_refl, plus_mono, low_bound}
use Rattle.cert_checker.specs.Worth.{Passes}
use Rattle.cert_checker.proofs.WorthBounds.{worth_bound}
use Rattle.cert_checker.proofs.Whole.{whole_closed}

pub passing_is_least : (m : Module) (g : Graph) → IsGraphOf m g → (c : Certificate) → Passes m g c → (d : Map) → Completes d (none_decided g) → IsAtMost (Some c.text) (size m g d)
passing_is_least m g graph c passes d completes =
    let worth = worth_bound m g (low m g) (λ p fs closed. low_bound m g p closed.over fs) passes.tree (none_decided g) (reached_from 0 g.funcs) (Some passes.worth) (whole_closed m g graph) passes.has_worth d completes in
    let root = passes.root in
    let text : 16 + passes.worth ≡ c.text = omega (arith, root) in
    subst (λ (n : ℕ). IsAtMost (Some n) (size m g d)) text (plus_mono (Some 16) (Some 16) (Some passes.worth) (part m g d (reached_from 0 g.funcs)) (at_most_refl (Some 16)) worth)
