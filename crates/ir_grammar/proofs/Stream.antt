-- The pieces of a text are what the lexer gives, one after another.
use Rattle.std.proofs.Common.{◌≡◌, ℕ, zero, suc, ◌+◌, ◌<◌, Bool, true, false, List, [], ◌∷◌, length, Result, Ok, Err, refl, ap, arith}
use Rattle.std.specs.Prelude.{if◌then◌else◌}
use Rattle.oi_base.specs.declared.ids.Place.{Place}
use Rattle.ir_lexer.specs.declared.fault.LexFault.{LexFault}
use Rattle.ir_lexer.specs.declared.table.Token.{Token}
use Rattle.ir_lexer.specs.Lexing.{Unread, next_token, is_end}
use Rattle.ir_grammar.specs.Pieces.{Piece, Is, then_more, pieces_at, pieces_of}
use Rattle.ir_grammar.proofs.Ends.{fewer}

same_more : (t : Token) (p : Place) (xs ys : List Piece) → (is_end t ≡ false → xs ≡ ys) → Is (record { token = t; place = p }) ∷ (if is_end t then [] else xs) ≡ Is (record { token = t; place = p }) ∷ (if is_end t then [] else ys)
same_more t p xs ys h = at (is_end t) h
  where
    at : (b : Bool) → (b ≡ false → xs ≡ ys) → Is (record { token = t; place = p }) ∷ (if b then [] else xs) ≡ Is (record { token = t; place = p }) ∷ (if b then [] else ys)
    at true h = refl
    at false h = ap (λ zs. Is (record { token = t; place = p }) ∷ zs) (h refl)

-- more pieces than bytes are all
enough : (n m : ℕ) (u : Unread) → length u.bytes < n → length u.bytes < m → pieces_at n u ≡ pieces_at m u
unfolding pieces_at
enough zero m u h k = absurd (omega arith)
enough (suc n) zero u h k = absurd (omega arith)
enough (suc n) (suc m) u h k = at (λ v a b. enough n m v a b) (next_token u) refl
  where
    at : ((v : Unread) → length v.bytes < n → length v.bytes < m → pieces_at n v ≡ pieces_at m v) → (o : Result ((Token × Place) × Unread) LexFault) → next_token u ≡ o → then_more o (λ v. pieces_at n v) ≡ then_more o (λ v. pieces_at m v)
    at ih (Err f) e = refl
    at ih (Ok t) e = same_more t.0.0 t.0.1 (pieces_at n t.1) (pieces_at m t.1) (λ more. let less = fewer u t.1 t.0.0 t.0.1 e more in ih t.1 (omega arith) (omega arith))

pub pieces_step : (u : Unread) → pieces_of u ≡ then_more (next_token u) (λ v. pieces_of v)
unfolding pieces_of pieces_at
pieces_step u = first (length u.bytes + 1) (omega arith)
  where
    at : (n : ℕ) → length u.bytes < suc n → (o : Result ((Token × Place) × Unread) LexFault) → next_token u ≡ o → then_more o (λ v. pieces_at n v) ≡ then_more o (λ v. pieces_of v)
    at n h (Err f) e = refl
    at n h (Ok t) e = same_more t.0.0 t.0.1 (pieces_at n t.1) (pieces_of t.1) (λ more. let less = fewer u t.1 t.0.0 t.0.1 e more in enough n (length t.1.bytes + 1) t.1 (omega arith) (omega arith))

    first : (n : ℕ) → length u.bytes < n → pieces_at n u ≡ then_more (next_token u) (λ v. pieces_of v)
    first zero h = absurd (omega arith)
    first (suc n) h = at n h (next_token u) refl
