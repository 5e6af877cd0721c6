-- `==` on sites and labels.
use Rattle.std.proofs.Common.{◌≡◌, refl, ap, arith}
use Rattle.std.proofs.lemmas.Bool.Decides.{nat_tests}
use Rattle.std.specs.Bool.{Decides}
use Rattle.oi_base.specs.declared.ids.SiteId.{SiteId}
use Rattle.oi_base.specs.contracts.ids.SiteIdPartialEq.TheImpl as of_site
use Rattle.decisions.specs.declared.maps.Label.{Label}
use Rattle.decisions.specs.declared.maps.Label.TheVariants.{Keep, Inline}
use Rattle.decisions.specs.contracts.maps.LabelPartialEq.TheImpl as of_label
use Rattle.decisions.proofs.Lookups.{same_site}

pub site_decides : (a b : SiteId) → Decides (of_site.eq-value.it a b) (a ≡ b)
site_decides a b = (λ e. same_site a b (grind (arith, nat_tests)), λ e. let same : a.0 ≡ b.0 = ap (λ (x : SiteId). x.0) e in grind (arith, nat_tests))

pub label_decides : (a b : Label) → Decides (of_label.eq-value.it a b) (a ≡ b)
label_decides Keep Keep = (λ _. refl, λ _. refl)
label_decides Keep Inline = (λ e. cc, λ e. cc)
label_decides Inline Keep = (λ e. cc, λ e. cc)
label_decides Inline Inline = (λ _. refl, λ _. refl)
