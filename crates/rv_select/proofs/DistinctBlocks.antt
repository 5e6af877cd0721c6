-- The blocks of a list, each once.
use Rattle.std.proofs.Common.{◌≡◌, ℕ, ◌+◌, ◌<◌, Bool, true, false, nat_eq, if◌then◌else◌, List, [], ◌∷◌, ◌++◌, length, drop, drop-cons, get_or, not, refl, sym, ap, ◌∙◌, append_assoc, add-one, arith}
use Rattle.std.proofs.lemmas.Bool.Decides.{nat_tests}
use Rattle.std.proofs.lemmas.List.{map-append}
use Rattle.oi_base.specs.declared.ids.BlockId.{BlockId}
use Rattle.rv_select.specs.Lowered.{numbers, is_in, distinct_from}

-- a set said whether a number was new to it, and has what is in the list
pub was_new : (added has in_list : Bool) → added ≡ not has → has ≡ in_list → added ≡ true → in_list ≡ false
was_new added has true e f t = let no : added ≡ false = e ∙ ap not f in cc
was_new added has false e f t = refl

pub was_known : (added has in_list : Bool) → added ≡ not has → has ≡ in_list → added ≡ false → in_list ≡ true
was_known added has true e f t = refl
was_known added has false e f t = let yes : added ≡ true = e ∙ ap not f in cc

either : (a b r : Bool) → (if a then true else if b then true else r) ≡ (if b then true else if a then true else r)
either true true r = refl
either true false r = refl
either false true r = refl
either false false r = refl

is_in-push : (xs : List ℕ) (x q : ℕ) → is_in (xs ++ x ∷ []) q ≡ (if nat_eq x q then true else is_in xs q)
is_in-push [] x q = refl
is_in-push (y ∷ xs) x q = ap (λ (r : Bool). if nat_eq y q then true else r) (is_in-push xs x q) ∙ either (nat_eq y q) (nat_eq x q) (is_in xs q)

again : (f : ℕ → Bool) (x q : ℕ) → f x ≡ true → (if nat_eq x q then true else f q) ≡ f q
again f x q there = grind (arith, nat_tests)

numbers-push : (items more : List BlockId) (b : BlockId) → more ≡ items ++ b ∷ [] → numbers more ≡ numbers items ++ b.0 ∷ []
numbers-push items more b pushed = ap numbers pushed ∙ map-append (λ (k : BlockId). k.0) items (b ∷ [])

-- what the set has, once a block was added to it and to the list
pub has_new : (items more : List BlockId) (b : BlockId) (q : ℕ) (has has_now : Bool) → more ≡ items ++ b ∷ [] → has ≡ is_in (numbers items) q → has_now ≡ (if nat_eq b.0 q then true else has) → has_now ≡ is_in (numbers more) q
has_new items more b q has has_now pushed before now =
    now
    ∙ ap (λ (h : Bool). if nat_eq b.0 q then true else h) before
    ∙ sym (is_in-push (numbers items) b.0 q)
    ∙ ap (λ ns. is_in ns q) (sym (numbers-push items more b pushed))

-- and once one was added to it that it had
pub has_known : (items : List BlockId) (b : BlockId) (q : ℕ) (has has_now : Bool) → is_in (numbers items) b.0 ≡ true → has ≡ is_in (numbers items) q → has_now ≡ (if nat_eq b.0 q then true else has) → has_now ≡ is_in (numbers items) q
has_known items b q has has_now known before now =
    now
    ∙ ap (λ (h : Bool). if nat_eq b.0 q then true else h) before
    ∙ again (is_in (numbers items)) b.0 q known

front : (blocks : List BlockId) (i : ℕ) (d : BlockId) → i < length blocks → numbers (drop i blocks) ≡ (get_or blocks i d).0 ∷ numbers (drop (i + 1) blocks)
front blocks i d within = ap numbers (drop-cons blocks i d within) ∙ ap (λ k. (get_or blocks i d).0 ∷ numbers (drop k blocks)) (sym (add-one i))

-- a loop's step at a block that is new
pub new_block : (items more blocks : List BlockId) (i : ℕ) (d : BlockId) (whole : List ℕ) → i < length blocks → is_in (numbers items) (get_or blocks i d).0 ≡ false → more ≡ items ++ get_or blocks i d ∷ [] → numbers items ++ distinct_from (numbers items) (numbers (drop i blocks)) ≡ whole → numbers more ++ distinct_from (numbers more) (numbers (drop (i + 1) blocks)) ≡ whole
new_block items more blocks i d whole within new pushed before =
    let x : ℕ = (get_or blocks i d).0 in
    let ns : List ℕ = numbers items in
    let rest : List ℕ = numbers (drop (i + 1) blocks) in
    ap (λ ms. ms ++ distinct_from ms rest) (numbers-push items more (get_or blocks i d) pushed)
    ∙ append_assoc ns (x ∷ []) (distinct_from (ns ++ x ∷ []) rest)
    ∙ ap (λ (b : Bool). ns ++ (if b then distinct_from ns rest else x ∷ distinct_from (ns ++ x ∷ []) rest)) (sym new)
    ∙ ap (λ l. ns ++ distinct_from ns l) (sym (front blocks i d within))
    ∙ before

-- and at one that is not
pub known_block : (items blocks : List BlockId) (i : ℕ) (d : BlockId) (whole : List ℕ) → i < length blocks → is_in (numbers items) (get_or blocks i d).0 ≡ true → numbers items ++ distinct_from (numbers items) (numbers (drop i blocks)) ≡ whole → numbers items ++ distinct_from (numbers items) (numbers (drop (i + 1) blocks)) ≡ whole
known_block items blocks i d whole within known before =
    let x : ℕ = (get_or blocks i d).0 in
    let ns : List ℕ = numbers items in
    let rest : List ℕ = numbers (drop (i + 1) blocks) in
    ap (λ (b : Bool). ns ++ (if b then distinct_from ns rest else x ∷ distinct_from (ns ++ x ∷ []) rest)) (sym known)
    ∙ ap (λ l. ns ++ distinct_from ns l) (sym (front blocks i d within))
    ∙ before
