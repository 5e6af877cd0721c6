-- What a binary search finds among ascending sites.
use Rattle.std.proofs.Common.{◌≡◌, ℕ, ◌<◌, ◌≤◌, length, get_or, List, Result, Ok, Err, sym, ap, ◌∙◌, refl, arith}
use Rattle.std.specs.Prelude.{IfSome, IfNone}
use Rattle.std.specs.List.Sorted.{IsSearchInRange, IsBinarySearchResult, IsNonDecreasingBy}
use Rattle.std.specs.Result.{result_ok}
use Rattle.std.specs.Ordering.{nat_cmp, ordering_index}
use Rattle.std.proofs.lemmas.Cmp.{ranked}
use Rattle.std.proofs.lemmas.Bool.Decides.{nat_tests}
use Rattle.oi_base.specs.declared.ids.SiteId.{SiteId}
use Rattle.decisions.specs.Maps.{IsAt, IsAbsent}
use Rattle.oi_base.specs.Ascending.{IsAscending}

abbrev number : SiteId → ℕ
number s = s.0

comparisons_rise : (sites : List SiteId) → IsAscending sites → (k : ℕ) → IsNonDecreasingBy (λ (x : SiteId). ordering_index (nat_cmp x.0 k)) sites
comparisons_rise sites ascending k i j d le in_range =
    let rises : number (get_or sites i d) ≤ number (get_or sites j d) = grind (arith, ascending i j d, λ (same : i ≡ j). ap (λ (n : ℕ). number (get_or sites n d)) same) in
    grind (arith, nat_tests)

found : (sites : List SiteId) → IsAscending sites → (s : SiteId) (r : Result ℕ ℕ) → IsSearchInRange r (length sites) → IsBinarySearchResult (λ (x : SiteId). nat_cmp x.0 s.0) sites r → (at : ℕ) → r ≡ Ok at → IsAt sites s at
found sites ascending s (Err i) in_range equal at e = cc
found sites ascending s (Ok i) in_range equal at e = record {
  in_range = let same : i ≡ at = cc in omega (arith, in_range);
  here = λ d. let same : i ≡ at = cc in ap (λ (n : ℕ). number (get_or sites n d)) (sym same) ∙ ranked _ s.0 _ (sym (equal d));
  first = λ j d lt same. let k : i ≡ at = cc in let here : number (get_or sites i d) ≡ s.0 = ranked _ s.0 _ (sym (equal d)) in omega (arith, ascending j i d (omega arith) in_range);
}

absent : (sites : List SiteId) → IsAscending sites → (s : SiteId) (r : Result ℕ ℕ) → IsSearchInRange r (length sites) → IsBinarySearchResult (λ (x : SiteId). nat_cmp x.0 s.0) sites r → (at : ℕ) → r ≡ Err at → IsAbsent sites s
absent sites ascending s (Ok i) in_range equal at e = cc
absent sites ascending s (Err i) in_range parted at e = λ j d lt same.
    let p = parted (comparisons_rise sites ascending s.0) in
    let below : j < i → number (get_or sites j d) < s.0 = λ h. ranked _ s.0 _ (sym (p.0 j d (omega arith) h)) in
    let above : i ≤ j → s.0 < number (get_or sites j d) = λ h. ranked _ s.0 _ (sym (p.1 j d h lt)) in
    grind (arith, below, above)

pub searched : (sites : List SiteId) → IsAscending sites → (s : SiteId) (r : Result ℕ ℕ) → IsSearchInRange r (length sites) → IsBinarySearchResult (λ (x : SiteId). nat_cmp x.0 s.0) sites r → record { found : IfSome (result_ok r) (IsAt sites s); absent : IfNone (result_ok r) (IsAbsent sites s) }
searched sites ascending s (Ok i) in_range at = record { found = found sites ascending s (Ok i) in_range at i refl; absent = tt }
searched sites ascending s (Err i) in_range at = record { found = tt; absent = absent sites ascending s (Err i) in_range at i refl }
