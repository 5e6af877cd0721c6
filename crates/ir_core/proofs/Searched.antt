-- A search for a word goes on one operation further.
use Rattle.std.proofs.Common.{◌≡◌, ℕ, ◌+◌, ◌<◌, suc, Bool, false, List, length, get_or, drop, Some, sym, ap, ◌∙◌, drop-cons, arith, if◌then◌else◌}
use Rattle.std.specs.Str.{bytes_eq}
use Rattle.ir_core.specs.Opcodes.{with_words, named}

-- it goes on where an operation, whose word is `said`, has another word than w
pub named_next : {A : Type 0} (text : A → List ℕ) (all : List A) (k next : ℕ) (w : List ℕ) (d : A) (said bytes : List ℕ) (is : Bool) → next ≡ k + 1 → k < length all → said ≡ text (get_or all k d) → bytes ≡ said → is ≡ bytes_eq w bytes → is ≡ false → named (with_words text (drop k all)) w ≡ named (with_words text (drop next all)) w
named_next text all k next w d said bytes is step lt word read test other =
    let on : suc k ≡ next = omega (arith, step) in
    let same : bytes_eq w (text (get_or all k d)) ≡ false = ap (bytes_eq w) (sym word ∙ sym read) ∙ sym test ∙ other in
    ap (λ rest. named (with_words text rest) w) (drop-cons all k d lt)
    ∙ ap (λ b. if b then Some (get_or all k d) else named (with_words text (drop (suc k) all)) w) same
    ∙ ap (λ n. named (with_words text (drop n all)) w) on
