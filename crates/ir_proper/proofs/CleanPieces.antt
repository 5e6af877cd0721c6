-- A name after `@` among the tokens of a text is not empty and holds no zero byte.
use Rattle.std.proofs.Common.{◌≡◌, ◌≢◌, inl, inr, ℕ, ◌<◌, ◌+◌, zero, suc, Bool, true, false, List, [], ◌∷◌, length, refl, sym, subst, arith}
use Rattle.std.specs.Prelude.{not, nat_lt, ◌&&◌, ◌||◌, ◌==◌, if◌then◌else◌, Result, Ok, Err}
use Rattle.std.specs.List.{list_all, list_any, AllByRecursion as Each}
use Rattle.std.proofs.lemmas.Bool.Decides.{nat_tests}
use Rattle.oi_base.specs.declared.ids.Place.{Place}
use Rattle.ir_lexer.specs.declared.fault.LexFault.{LexFault}
use Rattle.ir_lexer.specs.declared.table.Token.{Token}
use Rattle.ir_lexer.specs.declared.table.Token.TheVariants as tokens
use Rattle.ir_lexer.specs.Alphabet.{is_run_byte}
use Rattle.ir_lexer.specs.Strings.{is_name}
use Rattle.ir_lexer.specs.Spellings.{Names as Named, Spells}
use Rattle.ir_lexer.specs.Lexing.{Unread, next_token, is_end, whole}
use Rattle.ir_lexer.proofs.After.{in_parts}
use Rattle.ir_grammar.specs.Pieces.{Piece, then_more, pieces_at, pieces_of, pieces}
use Rattle.ir_proper.proofs.Kept.{IsClean, CleanToken, Clean}

-- ---- names

not_empty : (name : List ℕ) → 0 < length name → name ≢ []
not_empty [] h e = omega (arith, h)
not_empty (b ∷ bs) h e = cc

no_zero : (b : ℕ) → is_run_byte b ≡ true → b ≢ 0
no_zero zero h e = absurd cc
no_zero (suc b) h e = omega (arith, e)

run_clean : (name : List ℕ) → list_all is_run_byte name ≡ true → Each (λ (b : ℕ). b ≢ 0) name
run_clean [] h = tt
run_clean (b ∷ bs) h = by (is_run_byte b) refl h (λ k. run_clean bs k)
  where
    by : (c : Bool) → is_run_byte b ≡ c → (c && list_all is_run_byte bs) ≡ true → (list_all is_run_byte bs ≡ true → Each (λ (x : ℕ). x ≢ 0) bs) → Each (λ (x : ℕ). x ≢ 0) (b ∷ bs)
    by true e k go = (no_zero b e, go k)
    by false e k go = absurd cc

string_clean : (name : List ℕ) → list_any (λ b. b == 0) name ≡ false → Each (λ (b : ℕ). b ≢ 0) name
string_clean [] h = tt
string_clean (b ∷ bs) h = by (b == 0) refl h (λ k. string_clean bs k)
  where
    by : (c : Bool) → (b == 0) ≡ c → (c || list_any (λ b. b == 0) bs) ≡ false → (list_any (λ b. b == 0) bs ≡ false → Each (λ (x : ℕ). x ≢ 0) bs) → Each (λ (x : ℕ). x ≢ 0) (b ∷ bs)
    by true e k go = absurd cc
    by false e k go = (λ z. grind (arith, nat_tests), go k)

name_clean : (name : List ℕ) → is_name name ≡ true → IsClean name
unfolding is_name
name_clean name h = by (nat_lt 0 (length name)) (list_any (λ b. b == 0) name) refl refl h
  where
    by : (c d : Bool) → nat_lt 0 (length name) ≡ c → list_any (λ b. b == 0) name ≡ d → (c && not d) ≡ true → IsClean name
    by true false e f k = (not_empty name (grind (arith, nat_tests)), string_clean name f)
    by true true e f k = absurd cc
    by false d e f k = absurd cc

named_clean : (name bs : List ℕ) → Named name bs → IsClean name
named_clean name bs (inl h) = subst IsClean (sym h.1) (not_empty bs h.0.0, run_clean bs h.0.1)
named_clean name bs (inr h) = name_clean name h.1

token_clean : (t : Token) (bs : List ℕ) → Spells t bs → CleanToken t
token_clean (tokens.Global name) bs h = named_clean name h.0 h.2
token_clean (tokens.Word w) bs h = tt
token_clean (tokens.Int n) bs h = tt
token_clean (tokens.Label n) bs h = tt
token_clean (tokens.Local n) bs h = tt
token_clean (tokens.Str n) bs h = tt
token_clean (tokens.CStr n) bs h = tt
token_clean (tokens.Meta n) bs h = tt
token_clean (tokens.Hash n) bs h = tt
token_clean (tokens.Sign n) bs h = tt
token_clean tokens.End bs h = tt

-- ---- pieces

clean_if : (c : Bool) (more : List Piece) → Clean more → Clean (if c then [] else more)
clean_if true more h = tt
clean_if false more h = h

more_clean : (u : Unread) (o : Result ((Token × Place) × Unread) LexFault) (more : Unread → List Piece) → next_token u ≡ o → ((v : Unread) → Clean (more v)) → Clean (then_more o more)
more_clean u (Ok t) more e h =
    let x = in_parts u t.1 t.0.0 t.0.1 e in
    (token_clean t.0.0 x.1 x.3, clean_if (is_end t.0.0) (more t.1) (h t.1))
more_clean u (Err e) more f h = (tt, tt)

clean_at : (n : ℕ) (u : Unread) → Clean (pieces_at n u)
unfolding pieces_at
clean_at zero u = tt
clean_at (suc n) u = more_clean u (next_token u) (λ v. pieces_at n v) refl (λ v. clean_at n v)

pub clean_pieces : (bytes : List ℕ) → Clean (pieces bytes)
unfolding pieces_of
clean_pieces bytes = clean_at (length (whole bytes).bytes + 1) (whole bytes)
