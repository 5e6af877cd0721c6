-- Items of one more phi after a code.
use Rattle.std.proofs.Common.{◌≡◌, ℕ, suc, ◌+◌, ◌<◌, List, ◌∷◌, ◌++◌, length, drop, drop-cons, get_or, sym, ap, ◌∙◌, append_assoc, add-one}
use Rattle.std.specs.List.{flat_map}

-- a loop's step where the code of each element is appended
pub one_more_code : {X D : Type 0} → (g : X → List D) (code more whole : List D) (xs : List X) (i : ℕ) (x : X) → i < length xs → x ≡ get_or xs i x → more ≡ code ++ g x → code ++ flat_map g (drop i xs) ≡ whole → more ++ flat_map g (drop (i + 1) xs) ≡ whole
one_more_code g code more whole xs i x within is pushed before =
    let front : drop i xs ≡ x ∷ drop (i + 1) xs = drop-cons xs i x within ∙ ap (λ y. y ∷ drop (suc i) xs) (sym is) ∙ ap (λ k. x ∷ drop k xs) (sym (add-one i)) in
    ap (λ l. l ++ flat_map g (drop (i + 1) xs)) pushed
    ∙ append_assoc code (g x) (flat_map g (drop (i + 1) xs))
    ∙ ap (λ l. code ++ flat_map g l) (sym front)
    ∙ before
