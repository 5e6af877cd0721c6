use Rattle.std.proofs.Common.{◌≡◌, ℕ, ◌<◌, Bool, true, false, List, [], ◌∷◌, get_or, length, refl, sym, ap, ◌∙◌, arith}
use Rattle.std.specs.List.{position_or_len}
use Rattle.std.proofs.lemmas.List.Sums.{position_or_len_is}
use Rattle.ir_core.specs.Source.{is_main}
use Rattle.image_layout.proofs.entries.main_function.Goals as goal

found : {A : Type 0} (p : A → Bool) (xs : List A) (i : ℕ) (x : A) → i < length xs → x ≡ get_or xs i x → p x ≡ true → ((k : ℕ) (d : A) → k < i → p (get_or xs k d) ≡ false) → i ≡ position_or_len p xs
found p xs i x lt is here before = sym (position_or_len_is p xs i x (omega (arith, lt)) (λ k. before k x) (λ within. ap p (sym is) ∙ here))

not_found : {A : Type 0} (p : A → Bool) (xs : List A) → ((k : ℕ) (d : A) → k < length xs → p (get_or xs k d) ≡ false) → length xs ≡ position_or_len p xs
not_found p [] before = refl
not_found p (x ∷ xs) before = sym (position_or_len_is p (x ∷ xs) (length (x ∷ xs)) x (omega arith) (λ k. before k x) (λ within. absurd (omega (arith, within))))

pub returns-then-is_main : goal.returns-then-is_main
returns-then-is_main c =
    let m = c.args.m.now in
    let same = c.as_slice-func-items.ensures in
    let within : c.loop-number.number < length m.funcs = let n = ap (λ fs. length fs) same in omega (arith, n, c.loop-number-test.true) in
    let is : c.func-item.result ≡ get_or m.funcs c.loop-number.number c.func-item.result = c.func-item.is ∙ ap (λ fs. get_or fs c.loop-number.number c.func-item.result) same in
    found (is_main m) m.funcs c.loop-number.number c.func-item.result within is (sym c.is_main.ensures ∙ c.if-is_main.true) c.loop-number.invariant

pub returns : goal.returns
returns c =
    let m = c.args.m.now in
    let same = ap (λ fs. length fs) c.as_slice-func-items.ensures in
    c.len.ensures ∙ not_found (is_main m) m.funcs (λ k d lt. c.loop-number.invariant k d (omega (arith, lt, same, c.loop-number-test.false)))
