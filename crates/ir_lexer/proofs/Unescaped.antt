-- The inside of a string, one said byte at a time.
use Rattle.std.proofs.Common.{◌≡◌, ℕ, ◌+◌, ◌*◌, ◌<◌, Bool, true, false, ◌==◌, ◌&&◌, List, [], ◌∷◌, ◌++◌, length, Option, Some, None, if◌then◌else◌, refl, sym, ap, ◌∙◌, arith, append_assoc, append-nil, ◌≤◌}
use Rattle.std.proofs.lemmas.Bool.{eqb-true}
use Rattle.std.specs.Prelude.{unwrap_or}
use Rattle.std.specs.Char.{is_ascii_hexdigit, digit_value}
use Rattle.ir_lexer.specs.Strings.{escape, first_said, unescaped}

-- what the first said byte and the bytes after it say
abbrev all_said : Option (ℕ × List ℕ) → List ℕ
all_said None = []
all_said (Some p) = p.0 ∷ unescaped p.1

one : (t : Bool) (x : ℕ) → (if t then 92 ∷ [] else 92 ∷ x ∷ []) ≡ all_said (Some (unwrap_or (if t then Some (92, []) else None) (92, x ∷ [])))
unfolding unescaped
one true x = refl
one false x = refl

two : (t h : Bool) (n x y : ℕ) (ys : List ℕ) → (if t then 92 ∷ unescaped (y ∷ ys) else (if h then n ∷ unescaped ys else 92 ∷ unescaped (x ∷ y ∷ ys))) ≡ all_said (Some (unwrap_or (if t then Some (92, y ∷ ys) else (if h then Some (n, ys) else None)) (92, x ∷ y ∷ ys)))
two true h n x y ys = refl
two false true n x y ys = refl
two false false n x y ys = refl

after_backslash : (bs : List ℕ) → unescaped (92 ∷ bs) ≡ all_said (Some (unwrap_or (escape bs) (92, bs)))
unfolding unescaped
after_backslash [] = refl
after_backslash (x ∷ []) = one (x == 92) x
after_backslash (x ∷ y ∷ ys) = two (x == 92) (is_ascii_hexdigit x && is_ascii_hexdigit y) (16 * digit_value x + digit_value y) x y ys

-- any other byte says itself
itself : (a : ℕ) (bs : List ℕ) → (a == 92) ≡ false → unescaped (a ∷ bs) ≡ a ∷ unescaped bs
unfolding unescaped
itself a [] e = refl
itself a (x ∷ []) e = rw e refl
itself a (x ∷ y ∷ ys) e = rw e refl

first : (a : ℕ) (bs : List ℕ) (t : Bool) → (a == 92) ≡ t → unescaped (a ∷ bs) ≡ all_said (if t then Some (unwrap_or (escape bs) (92, bs)) else Some (a, bs))
first a bs true e = rw (eqb-true a 92 e) (after_backslash bs)
first a bs false e = itself a bs e

-- what the whole says begins with the first said byte
by_first : (raw : List ℕ) → unescaped raw ≡ all_said (first_said raw)
unfolding unescaped
by_first [] = refl
by_first (a ∷ bs) = first a bs (a == 92) refl

-- a loop over said bytes takes one more
pub goes_on : (raw said : List ℕ) (b : ℕ) (rest total : List ℕ) → first_said raw ≡ Some (b, rest) → said ++ unescaped raw ≡ total → (said ++ b ∷ []) ++ unescaped rest ≡ total
goes_on raw said b rest total e so_far =
    let here : unescaped raw ≡ b ∷ unescaped rest = by_first raw ∙ ap all_said e in
    append_assoc said (b ∷ []) (unescaped rest) ∙ ap (λ (x : List ℕ). said ++ x) (sym here) ∙ so_far

-- it ends where nothing is left
pub ends : (raw said total : List ℕ) → first_said raw ≡ None → said ++ unescaped raw ≡ total → said ≡ total
ends raw said total e so_far =
    let here : unescaped raw ≡ [] = by_first raw ∙ ap all_said e in
    sym (ap (λ (x : List ℕ). said ++ x) here ∙ append-nil said) ∙ so_far

-- how many bytes stand after the first said byte
abbrev left : Option (ℕ × List ℕ) → ℕ
left None = 0
left (Some p) = length p.1

left_one : (t : Bool) (x : ℕ) → left (Some (unwrap_or (if t then Some (92, []) else None) (92, x ∷ []))) ≤ 1
left_one true x = omega arith
left_one false x = omega arith

left_two : (t h : Bool) (n x y : ℕ) (ys : List ℕ) → left (Some (unwrap_or (if t then Some (92, y ∷ ys) else (if h then Some (n, ys) else None)) (92, x ∷ y ∷ ys))) ≤ length (x ∷ y ∷ ys)
left_two true h n x y ys = omega arith
left_two false true n x y ys = omega arith
left_two false false n x y ys = omega arith

left_after : (bs : List ℕ) → left (Some (unwrap_or (escape bs) (92, bs))) ≤ length bs
left_after [] = omega arith
left_after (x ∷ []) = left_one (x == 92) x
left_after (x ∷ y ∷ ys) = left_two (x == 92) (is_ascii_hexdigit x && is_ascii_hexdigit y) (16 * digit_value x + digit_value y) x y ys

left_first : (a : ℕ) (bs : List ℕ) (t : Bool) → left (if t then Some (unwrap_or (escape bs) (92, bs)) else Some (a, bs)) ≤ length bs
left_first a bs true = left_after bs
left_first a bs false = omega arith

left_all : (raw : List ℕ) → 0 < length raw → left (first_said raw) < length raw
left_all [] some = omega arith
left_all (a ∷ bs) some = let k = left_first a bs (a == 92) in omega arith

some_left : (raw : List ℕ) (b : ℕ) (rest : List ℕ) → first_said raw ≡ Some (b, rest) → 0 < length raw
some_left [] b rest e = cc
some_left (a ∷ bs) b rest e = omega arith

-- and the bytes after are fewer
pub shorter : (raw : List ℕ) (b : ℕ) (rest : List ℕ) → first_said raw ≡ Some (b, rest) → length rest < length raw
shorter raw b rest e =
    let k = left_all raw (some_left raw b rest e) in
    let same : left (first_said raw) ≡ length rest = ap left e in
    omega arith
