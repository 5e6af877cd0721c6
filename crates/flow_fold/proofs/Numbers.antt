-- The new numbers of blocks past the last one.
use Rattle.std.proofs.Common.{◌≡◌, ℕ, zero, suc, ◌+◌, ◌-◌, ◌≤◌, Bool, false, List, [], ◌∷◌, length, slice_index_or, refl, sym, ap, ◌∙◌, subst, arith}
use Rattle.flow_fold.specs.Blocks.{one_if, number_of}
use Rattle.flow_fold.specs.Walks.{marked_in}
use Rattle.flow_fold.specs.Numbering.{IsNumbering}

pub unmarked : (ms : List Bool) (b : ℕ) → length ms ≤ b → marked_in ms b ≡ false
unmarked [] zero le = refl
unmarked [] (suc b) le = refl
unmarked (m ∷ ms) zero le = absurd (omega (arith, le))
unmarked (m ∷ ms) (suc b) le = unmarked ms b (omega (arith, le))

past : (ms : List Bool) (c : ℕ) → number_of (marked_in ms) (length ms + c) ≡ number_of (marked_in ms) (length ms)
past ms zero = let same : length ms + 0 ≡ length ms = omega arith in ap (number_of (marked_in ms)) same
past ms (suc c) =
    let next : length ms + suc c ≡ suc (length ms + c) = omega arith in
    let none : one_if (marked_in ms (length ms + c)) ≡ 0 = ap one_if (unmarked ms (length ms + c) (omega arith)) in
    let rest = past ms c in
    ap (number_of (marked_in ms)) next ∙ omega (arith, none, rest)

pub number_last : (ms : List Bool) (ns : List ℕ) (b : ℕ) → IsNumbering ms ns → length ms ≤ b → slice_index_or ns (length ms) 0 ≡ number_of (marked_in ms) b
number_last ms ns b h le =
    let on : length ms + (b - length ms) ≡ b = omega (arith, le) in
    h.each (length ms) (omega arith) ∙ sym (past ms (b - length ms)) ∙ ap (number_of (marked_in ms)) on
