-- Lists of sites and functions that loops put together.
use Rattle.std.proofs.Common.{◌≡◌, ℕ, ◌+◌, ◌<◌, refl, sym, ap, ◌∙◌, arith, Bool, true, false, cond, List, [], ◌∷◌, ◌++◌, length, take, get_or}
use Rattle.std.specs.List.{filter}
use Rattle.std.proofs.lemmas.List.{map-append, get_or-map, length-map, take-map}
use Rattle.std.proofs.lemmas.List.Elements.{filter_more}
use Rattle.oi_base.specs.declared.ids.SiteId.{SiteId}
use Rattle.component_split.specs.Over.{site_numbers}

append_none : (xs : List ℕ) → xs ++ [] ≡ xs
append_none [] = refl
append_none (x ∷ xs) = ap (λ (ys : List ℕ). x ∷ ys) (append_none xs)

-- one more site that passes a test, or doesn't
pub filter_site : (P : ℕ → Bool) (xs : List SiteId) (k : ℕ) (d : SiteId) (ys zs : List SiteId) → k < length xs → site_numbers ys ≡ filter P (site_numbers (take k xs)) → (b : Bool) → P (get_or xs k d).0 ≡ b → zs ≡ cond b (ys ++ get_or xs k d ∷ []) ys → site_numbers zs ≡ filter P (site_numbers (take (k + 1) xs))
filter_site P xs k d ys zs l h b e z =
    let n : SiteId → ℕ = λ (x : SiteId). x.0 in
    let m : length (site_numbers xs) ≡ length xs = simp length-map in
    let f : filter P (take (k + 1) (site_numbers xs)) ≡ filter P (take k (site_numbers xs)) ++ cond (P (get_or (site_numbers xs) k 0)) (get_or (site_numbers xs) k 0 ∷ []) [] = filter_more P (site_numbers xs) k 0 (omega (arith, l, m)) in
    let g : get_or (site_numbers xs) k 0 ≡ (get_or xs k d).0 = get_or-map n xs k d 0 l in
    let t : (i : ℕ) → take i (site_numbers xs) ≡ site_numbers (take i xs) = λ i. take-map n i xs in
    one b e z
    ∙ ap (λ (ws : List ℕ). ws ++ cond b ((get_or xs k d).0 ∷ []) []) h
    ∙ ap (λ (ws : List ℕ). filter P ws ++ cond b ((get_or xs k d).0 ∷ []) []) (sym (t k))
    ∙ ap (λ c. filter P (take k (site_numbers xs)) ++ cond c ((get_or xs k d).0 ∷ []) []) (sym (ap P g ∙ e))
    ∙ ap (λ v. filter P (take k (site_numbers xs)) ++ cond (P (get_or (site_numbers xs) k 0)) (v ∷ []) []) (sym g)
    ∙ sym f ∙ ap (filter P) (t (k + 1))
  where
    one : (b : Bool) → P (get_or xs k d).0 ≡ b → zs ≡ cond b (ys ++ get_or xs k d ∷ []) ys → site_numbers zs ≡ site_numbers ys ++ cond b ((get_or xs k d).0 ∷ []) []
    one true e z = ap site_numbers z ∙ map-append (λ (x : SiteId). x.0) ys (get_or xs k d ∷ [])
    one false e z = ap site_numbers z ∙ sym (append_none (site_numbers ys))
