use Rattle.std.proofs.Common.{◌≡◌}
use Rattle.std.specs.Bool.{Decides}
use Rattle.std.proofs.lemmas.Slice.Eq.{slice_eq-Decides}
use Rattle.decisions.proofs.Equality.{site_decides, label_decides}
use Rattle.decisions.proofs.Lookups.{like, unlike}
use Rattle.decisions.proofs.maps.Decisions.same.Goals as goal

pub returns-then-eq : goal.returns-then-eq
returns-then-eq c =
    let sites : Decides c.eq.result (c.as_slice.result.now ≡ c.as_slice-2.result.now) = slice_eq-Decides site_decides _ _ _ c.eq.ensures in
    let labels : Decides c.eq-then-eq.result (c.as_slice-then-eq.result.now ≡ c.as_slice-then-eq-2.result.now) = slice_eq-Decides label_decides _ _ _ c.eq-then-eq.ensures in
    let same_sites = rw (c.as_slice.ensures.value, c.as_slice-2.ensures.value) at sites.0 c.if-eq.true in
    rw (← c.self.view_is, ← c.other.view_is) (like _ _ _ _ c.self.invariant.one_each c.other.invariant.one_each _ (rw (c.as_slice-then-eq.ensures.value, c.as_slice-then-eq-2.ensures.value) at labels) same_sites)

pub returns-else-eq : goal.returns-else-eq
returns-else-eq c =
    let sites : Decides c.eq.result (c.as_slice.result.now ≡ c.as_slice-2.result.now) = slice_eq-Decides site_decides _ _ _ c.eq.ensures in
    rw (← c.self.view_is, ← c.other.view_is) (unlike _ _ _ _ c.self.invariant.one_each c.other.invariant.one_each _ (rw (c.as_slice.ensures.value, c.as_slice-2.ensures.value) at sites) c.if-eq.false)
