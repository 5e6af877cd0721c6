-- The first site without a label, by places.
use Rattle.std.proofs.Common.{◌≡◌, ◌<◌, ℕ, suc, length, get_or, List, [], ◌∷◌, Some, None, refl, ap, ◌∙◌, arith}
use Rattle.std.specs.Prelude.{Option, zip, All, IsSome, is_none}
use Rattle.std.specs.List.{position_or_len}
use Rattle.std.proofs.lemmas.List.Elements.{All-cons, All-nil}
use Rattle.oi_base.specs.declared.ids.SiteId.{SiteId}
use Rattle.decisions.specs.declared.maps.Label.{Label}
use Rattle.decisions.specs.Steps.{first_undecided}

pub found : (sites : List SiteId) (labels : List (Option Label)) (d : SiteId) → length labels ≡ length sites → position_or_len (λ l. is_none l) labels < length labels → first_undecided (zip sites labels) ≡ Some (get_or sites (position_or_len (λ l. is_none l) labels) d)
found [] [] d e lt = absurd (omega arith)
found [] (l ∷ ls) d e lt = absurd (omega arith)
found (x ∷ xs) [] d e lt = absurd (omega arith)
found (x ∷ xs) (None ∷ ls) d e lt = refl
found (x ∷ xs) (Some l ∷ ls) d e lt = found xs ls d (omega arith) (omega arith) ∙ ap (λ (n : ℕ). Some (get_or (x ∷ xs) n d)) {x = suc (position_or_len (λ l. is_none l) ls)} (omega arith)

pub not_found : (sites : List SiteId) (labels : List (Option Label)) → length labels ≡ position_or_len (λ l. is_none l) labels → first_undecided (zip sites labels) ≡ None
not_found [] ls e = refl
not_found (x ∷ xs) [] e = refl
not_found (x ∷ xs) (None ∷ ls) e = absurd (omega arith)
not_found (x ∷ xs) (Some l ∷ ls) e = not_found xs ls (omega arith)

pub all_decided : (m : List (SiteId × Option Label)) → None ≡ first_undecided m → All (λ e. IsSome e.1) m
all_decided [] h = All-nil (λ (e : SiteId × Option Label). IsSome e.1)
all_decided ((s, None) ∷ rest) h = cc
all_decided ((s, Some l) ∷ rest) h = All-cons (λ (e : SiteId × Option Label). IsSome e.1) (s, Some l) rest refl (all_decided rest h)
