-- A text that grows line by line.
use Rattle.std.proofs.Common.{◌≡◌, ℕ, ◌+◌, ◌<◌, ◌≤◌, length, get_or, take, List, [], ◌∷◌, ◌++◌, refl, sym, ap, ◌∙◌, arith}
use Rattle.std.specs.Prelude.{zip}
use Rattle.std.proofs.lemmas.Grind.{common_steps, flat_map-append}
use Rattle.std.proofs.lemmas.List.{take_all, append-nil}
use Rattle.std.proofs.lemmas.Slice.Zip.{get_or-zip, length-zip}
use Rattle.oi_base.specs.declared.ids.SiteId.{SiteId}
use Rattle.decisions.specs.declared.maps.Label.{Label}
use Rattle.decisions.specs.Maps.{sites_of, labels_of}
use Rattle.decisions.specs.Text.{line_of, text_of}

next_text : (lines : List (SiteId × Label)) (i : ℕ) (d : SiteId × Label) → i < length lines → text_of (take (i + 1) lines) ≡ text_of (take i lines) ++ line_of (get_or lines i d)
next_text lines i d lt =
    let more : take (i + 1) lines ≡ take i lines ++ get_or lines i d ∷ [] = grind (arith, common_steps) in
    ap (λ (x : List (SiteId × Label)). text_of x) more ∙ flat_map-append line_of (take i lines) (get_or lines i d ∷ []) ∙ ap (λ (x : List ℕ). text_of (take i lines) ++ x) (append-nil (line_of (get_or lines i d)))

pub next_line : (sites : List SiteId) (labels : List Label) (i : ℕ) (s : SiteId) (l : Label) (old new : List ℕ) → i < length sites → length labels ≡ length sites → new ≡ old ++ line_of (get_or sites i s, get_or labels i l) → old ≡ text_of (take i (zip sites labels)) → new ≡ text_of (take (i + 1) (zip sites labels))
next_line sites labels i s l old new lt e is so_far =
    let pair : get_or (zip sites labels) i (s, l) ≡ (get_or sites i s, get_or labels i l) = get_or-zip sites labels i (s, l) lt (omega arith) in
    is ∙ ap (λ (x : List ℕ). x ++ line_of (get_or sites i s, get_or labels i l)) so_far ∙ ap (λ (x : SiteId × Label). text_of (take i (zip sites labels)) ++ line_of x) (sym pair) ∙ sym (next_text (zip sites labels) i (s, l) (omega (arith, length-zip sites labels)))

pub all_lines : (sites : List SiteId) (labels : List Label) (i : ℕ) (text : List ℕ) → length sites ≤ i → text ≡ text_of (take i (zip sites labels)) → text ≡ text_of (zip sites labels)
all_lines sites labels i text le is = is ∙ ap (λ (x : List (SiteId × Label)). text_of x) (take_all i (zip sites labels) (omega (arith, length-zip sites labels)))

pub zip_of_parts : (m : List (SiteId × Label)) → zip (sites_of m) (labels_of m) ≡ m
zip_of_parts [] = refl
zip_of_parts (e ∷ rest) = ap (λ (x : List (SiteId × Label)). e ∷ x) (zip_of_parts rest)
