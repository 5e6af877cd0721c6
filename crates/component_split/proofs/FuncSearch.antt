-- What a binary search finds among rising functions.
use Rattle.std.proofs.Common.{◌≡◌, ℕ, ◌<◌, ◌≤◌, length, get_or, List, Result, Ok, Err, false, sym, ap, ◌∙◌, arith}
use Rattle.std.specs.Prelude.{IfSome, IfNone, slice_index}
use Rattle.std.specs.List.Sorted.{IsSearchInRange, IsBinarySearchResult, IsNonDecreasingBy}
use Rattle.std.specs.Result.{result_ok}
use Rattle.std.specs.Ordering.{nat_cmp, ordering_index}
use Rattle.std.proofs.lemmas.Cmp.{ranked}
use Rattle.std.proofs.lemmas.List.{get_or-map, length-map}
use Rattle.std.proofs.lemmas.Bool.Decides.{nat_tests}
use Rattle.oi_base.specs.declared.ids.FuncId.{FuncId}
use Rattle.component_split.specs.Graph.{has}
use Rattle.component_split.specs.Over.{func_numbers, IsRising}
use Rattle.component_split.proofs.Lists.{absent_has}

abbrev number : FuncId → ℕ
number f = f.0

pub map_length : (funcs : List FuncId) → length (func_numbers funcs) ≡ length funcs
map_length funcs = simp length-map

at_place : (funcs : List FuncId) (i : ℕ) (d : FuncId) → i < length funcs → slice_index (func_numbers funcs) i ≡ number (get_or funcs i d)
at_place funcs i d l = get_or-map (λ (f : FuncId). f.0) funcs i d 0 l

numbers_rise : (funcs : List FuncId) → IsRising (func_numbers funcs) → (i j : ℕ) (d : FuncId) → i < j → j < length funcs → number (get_or funcs i d) < number (get_or funcs j d)
numbers_rise funcs rising i j d l m =
    let n = map_length funcs in
    let h = rising i j l (omega (arith, n, m)) in
    let a = at_place funcs i d (omega arith) in
    let b = at_place funcs j d m in
    omega (arith, h, a, b)

comparisons_rise : (funcs : List FuncId) → IsRising (func_numbers funcs) → (k : ℕ) → IsNonDecreasingBy (λ (x : FuncId). ordering_index (nat_cmp x.0 k)) funcs
comparisons_rise funcs rising k i j d le in_range =
    let rises : number (get_or funcs i d) ≤ number (get_or funcs j d) = grind (arith, numbers_rise funcs rising i j d, λ (same : i ≡ j). ap (λ (n : ℕ). number (get_or funcs n d)) same) in
    grind (arith, nat_tests)

pub searched : (funcs : List FuncId) → IsRising (func_numbers funcs) → (f : FuncId) (r : Result ℕ ℕ) → IsSearchInRange r (length funcs) → IsBinarySearchResult (λ (x : FuncId). nat_cmp x.0 f.0) funcs r → record { in_range : IfSome (result_ok r) (λ at. at < length funcs); here : IfSome (result_ok r) (λ at. slice_index (func_numbers funcs) at ≡ f.0); absent : IfNone (result_ok r) (has (func_numbers funcs) f.0 ≡ false) }
searched funcs rising f (Ok i) in_range equal = record {
  in_range = in_range;
  here = at_place funcs i f in_range ∙ ranked _ f.0 _ (sym (equal f));
  absent = tt;
}
searched funcs rising f (Err i) in_range parted = record {
  in_range = tt;
  here = tt;
  absent = absent_has (func_numbers funcs) f.0 (λ j l e.
      let n = map_length funcs in
      let lt : j < length funcs = omega (arith, n, l) in
      let p = parted (comparisons_rise funcs rising f.0) in
      let same = at_place funcs j f lt in
      let below : j < i → number (get_or funcs j f) < f.0 = λ h. ranked _ f.0 _ (sym (p.0 j f (omega arith) h)) in
      let above : i ≤ j → f.0 < number (get_or funcs j f) = λ h. ranked _ f.0 _ (sym (p.1 j f h lt)) in
      grind (arith, below, above, same, e));
}
