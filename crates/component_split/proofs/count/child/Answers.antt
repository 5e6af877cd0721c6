use Rattle.std.proofs.Common.{ℕ, List, Option, Some, sym, ap₂, subst}
use Rattle.std.specs.Option.{IsSome}
use Rattle.oi_base.specs.declared.ids.SiteId.{SiteId}
use Rattle.decisions.specs.declared.maps.Label.{Label}
use Rattle.decisions.specs.Maps.{label_of, SetsOnly}
use Rattle.component_split.specs.Graph.{Labels}
use Rattle.component_split.specs.States.{Point}
use Rattle.component_split.specs.Over.{Set, IsSetOf, HoldsInside}
use Rattle.component_split.proofs.Held.{holds_set}
use Rattle.component_split.proofs.Trees.{labels_set}
use Rattle.component_split.proofs.count.child.Goals as goal

pub set-requires : goal.set-requires
set-requires c = subst (λ (p : List (SiteId × Option Label)). IsSome (label_of p c.args.site)) (sym c.in_ok-partial.ensures) (c.requires.state.1 c.args.site c.requires.site c.requires.inside)

pub returns-clause-point : goal.returns-clause-point
returns-clause-point c =
    let s : SetsOnly c.args.state.now.partial c.set.new.self c.args.site (Some c.args.label) = subst (λ (p : List (SiteId × Option Label)). SetsOnly p c.set.new.self c.args.site (Some c.args.label)) c.in_ok-partial.ensures c.set.ensures in
    ap₂ (λ (p : Labels) (v : List ℕ × List ℕ). let x : Point = (p, v.0) in x) (labels_set c.args.state.now.partial c.set.new.self c.args.site c.args.label s) c.in_ok-copy.ensures

pub returns-clause-state : goal.returns-clause-state
returns-clause-state c =
    let s : SetsOnly c.args.state.now.partial c.set.new.self c.args.site (Some c.args.label) = subst (λ (p : List (SiteId × Option Label)). SetsOnly p c.set.new.self c.args.site (Some c.args.label)) c.in_ok-partial.ensures c.set.ensures in
    let set = sym c.in_ok-copy.ensures in
    (subst (IsSetOf c.args.g.now) set c.requires.state.0, subst (λ (v : Set). HoldsInside c.args.g.now v c.set.new.self) set (holds_set c.args.g.now c.args.state.now.set c.args.state.now.partial c.set.new.self c.args.site (Some c.args.label) s c.requires.state.1))
