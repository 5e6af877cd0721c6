-- Cases of tests and labels.
use Rattle.std.proofs.Common.{◌≡◌, ◌≢◌, ◌⊎◌, inl, inr, refl, Bool, true, false, ◌||◌, Option, Some, None}
use Rattle.decisions.specs.declared.maps.Label.{Label}
use Rattle.decisions.specs.declared.maps.Label.TheVariants.{Keep, Inline}

pub or_true : (b : Bool) → (b || true) ≡ true
or_true true = refl
or_true false = refl

pub keep_or : (o : Option Label) → (o ≡ Some Keep) ⊎ (o ≢ Some Keep)
keep_or None = inr (λ e. absurd cc)
keep_or (Some Inline) = inr (λ e. absurd cc)
keep_or (Some Keep) = inl refl
