-- What a label looked up by its place is in a map.
use Rattle.std.proofs.Common.{◌≡◌, ◌≢◌, ℕ, zero, suc, Bool, false, length, get_or, set, replicate, map, List, [], ◌∷◌, Some, None, refl, sym, ap, subst, ◌∙◌, arith}
use mathlib.Core.Bool.{false≢true}
use Rattle.std.specs.Bool.{Decides}
use Rattle.std.specs.Prelude.{Option, zip, All, IsSome}
use Rattle.std.proofs.lemmas.Bool.Decides.{nat_tests}
use Rattle.std.proofs.lemmas.Grind.{common_steps}
use Rattle.std.proofs.lemmas.Slice.Zip.{firsts-zip}
use Rattle.std.proofs.lemmas.List.Elements.{All-map}
use Rattle.std.proofs.lemmas.List.{length-set}
use Rattle.oi_base.specs.declared.ids.SiteId.{SiteId}
use Rattle.decisions.specs.Maps.{label_of, sites_of, labels_of, undecided, decided, IsAt, IsAbsent, SetsOnly}

pub same_site : (a b : SiteId) → a.0 ≡ b.0 → a ≡ b
same_site a b e = ap (λ (n : ℕ). let x : SiteId = record { 0 = n } in x) e

at_tail : (x : SiteId) (xs : List SiteId) (s : SiteId) (i : ℕ) → IsAt (x ∷ xs) s (suc i) → IsAt xs s i
at_tail x xs s i at = record { in_range = omega (arith, at.in_range); here = λ d. at.here d; first = λ j d lt. at.first (suc j) d (omega arith) }

absent_tail : (x : SiteId) (xs : List SiteId) (s : SiteId) → IsAbsent (x ∷ xs) s → IsAbsent xs s
absent_tail x xs s h j d lt = h (suc j) d (omega arith)

pub label_at : {L : Type 0} (sites : List SiteId) (labels : List L) (s : SiteId) (i : ℕ) (d : L) → length labels ≡ length sites → IsAt sites s i → label_of (zip sites labels) s ≡ Some (get_or labels i d)
label_at [] labels s i d e at = absurd (omega (arith, at.in_range))
label_at (x ∷ xs) [] s i d e at = absurd (omega arith)
label_at (x ∷ xs) (l ∷ ls) s zero d e at = grind (arith, nat_tests, at.here x)
label_at (x ∷ xs) (l ∷ ls) s (suc i) d e at = grind (arith, nat_tests, at.first 0 x (omega arith), label_at xs ls s i d (omega arith) (at_tail x xs s i at))

pub no_label : {L : Type 0} (sites : List SiteId) (labels : List L) (s : SiteId) → IsAbsent sites s → label_of (zip sites labels) s ≡ None
no_label [] labels s h = refl
no_label (x ∷ xs) [] s h = refl
no_label (x ∷ xs) (l ∷ ls) s h = grind (arith, nat_tests, h 0 x (omega arith), no_label xs ls s (absent_tail x xs s h))

other_labels : {L : Type 0} (sites : List SiteId) (labels : List L) (s : SiteId) (i : ℕ) (l : L) → IsAt sites s i → (o : SiteId) → o.0 ≢ s.0 → label_of (zip sites (set labels i l)) o ≡ label_of (zip sites labels) o
other_labels [] labels s i l at o differs = refl
other_labels (x ∷ xs) [] s i l at o differs = refl
other_labels (x ∷ xs) (y ∷ ys) s zero l at o differs = grind (arith, nat_tests, at.here x)
other_labels (x ∷ xs) (y ∷ ys) s (suc i) l at o differs = grind (arith, nat_tests, other_labels xs ys s i l (at_tail x xs s i at) o differs)

pub sets_only : {L : Type 0} (sites : List SiteId) (labels : List L) (s : SiteId) (i : ℕ) (l : L) → length labels ≡ length sites → IsAt sites s i → SetsOnly (zip sites labels) (zip sites (set labels i l)) s l
sets_only {L} sites labels s i l e at = record {
  same_sites = firsts-zip sites (set labels i l) (length-set labels i l ∙ e) ∙ sym (firsts-zip sites labels e);
  this_site = label_at sites (set labels i l) s i l (length-set labels i l ∙ e) at ∙ ap (λ (x : L). Some x) (grind (arith, common_steps, at.in_range));
  other_sites = λ o differs. other_labels sites labels s i l at o (λ same. differs (same_site o s same));
}

pub seconds-zip : {L : Type 0} (sites : List SiteId) (labels : List L) → length labels ≡ length sites → labels_of (zip sites labels) ≡ labels
seconds-zip [] [] e = refl
seconds-zip [] (l ∷ ls) e = absurd (omega arith)
seconds-zip (x ∷ xs) [] e = refl
seconds-zip {L} (x ∷ xs) (l ∷ ls) e = ap (λ (rest : List L). l ∷ rest) (seconds-zip xs ls (omega arith))

pub zip-replicate : {L : Type 0} (sites : List SiteId) → zip sites (replicate (length sites) None) ≡ undecided {L = L} sites
zip-replicate [] = refl
zip-replicate {L} (x ∷ xs) = ap (λ (rest : List (SiteId × Option L)). (x, None) ∷ rest) (zip-replicate xs)

pub decided-zip : {L : Type 0} (sites : List SiteId) (labels : List L) → decided (zip sites labels) ≡ zip sites (map (λ l. Some l) labels)
decided-zip [] labels = refl
decided-zip (x ∷ xs) [] = refl
decided-zip {L} (x ∷ xs) (l ∷ ls) = ap (λ (rest : List (SiteId × Option L)). (x, Some l) ∷ rest) (decided-zip xs ls)

pub same_zip : {L : Type 0} (sites sites' : List SiteId) (labels labels' : List L) → length labels ≡ length sites → length labels' ≡ length sites' → zip sites labels ≡ zip sites' labels' → (sites ≡ sites') × (labels ≡ labels')
same_zip {L} sites sites' labels labels' e e' h = (sym (firsts-zip sites labels e) ∙ ap (λ (m : List (SiteId × L)). sites_of m) h ∙ firsts-zip sites' labels' e', sym (seconds-zip sites labels e) ∙ ap (λ (m : List (SiteId × L)). labels_of m) h ∙ seconds-zip sites' labels' e')

pub all_seconds : {L : Type 0} (sites : List SiteId) (labels : List (Option L)) → length labels ≡ length sites → All (λ e. IsSome e.1) (zip sites labels) → All (λ l. IsSome l) labels
all_seconds {L} sites labels e h = subst (λ (x : List (Option L)). All (λ l. IsSome l) x) (seconds-zip sites labels e) (All-map (λ (l : Option L). IsSome l) (λ (e : SiteId × Option L). e.1) (zip sites labels) h)

pub some_is_some : {A : Type 0} (o : Option A) → IsSome o → o ≡ None → ⊥
some_is_some None h e = false≢true h
some_is_some (Some x) h e = cc

-- maps with the same sites are the same where their labels are
pub like : {L : Type 0} (sites sites' : List SiteId) (labels labels' : List L) → length labels ≡ length sites → length labels' ≡ length sites' → (r : Bool) → Decides r (labels ≡ labels') → sites ≡ sites' → Decides r (zip sites labels ≡ zip sites' labels')
like {L} sites sites' labels labels' e e' r d same = (λ h. ap (λ (x : List SiteId). zip x labels) same ∙ ap (λ (x : List L). zip sites' x) (d.0 h), λ h. d.1 (same_zip sites sites' labels labels' e e' h).1)

-- and no others are
pub unlike : {L : Type 0} (sites sites' : List SiteId) (labels labels' : List L) → length labels ≡ length sites → length labels' ≡ length sites' → (r : Bool) → Decides r (sites ≡ sites') → r ≡ false → Decides r (zip sites labels ≡ zip sites' labels')
unlike sites sites' labels labels' e e' r d is_false = (λ h. absurd (false≢true (sym is_false ∙ h)), λ h. d.1 (same_zip sites sites' labels labels' e e' h).0)
