-- The last piece of a text is its end or its first lexical fault, and no other piece is one of these. What a text form
-- has ends in the end.
use Rattle.std.proofs.Common.{◌≡◌, ◌⊎◌, inl, inr, ℕ, ◌<◌, ◌+◌, zero, suc, Bool, true, false, List, [], ◌∷◌, ◌++◌, length, Result, Ok, Err, refl, sym, ap, ◌∙◌, append_assoc, arith}
use Rattle.std.specs.Prelude.{if◌then◌else◌, not}
use Rattle.std.proofs.lemmas.List.{length-append}
use Rattle.oi_base.specs.declared.ids.Place.{Place}
use Rattle.ir_lexer.specs.declared.fault.LexFault.{LexFault}
use Rattle.ir_lexer.specs.declared.table.Token.{Token}
use Rattle.ir_lexer.specs.declared.table.Token.TheVariants as tokens
use Rattle.ir_lexer.specs.declared.table.Spot.{Spot}
use Rattle.ir_lexer.specs.Spellings.{Spells}
use Rattle.ir_lexer.specs.Lexing.{Unread, whole, next_token, is_end}
use Rattle.ir_lexer.proofs.After.{in_parts}
use Rattle.ir_core.specs.declared.module.Module as modules
use Rattle.ir_grammar.specs.declared.kinds.Kind.TheVariants as kinds
use Rattle.ir_grammar.specs.declared.parts.Draft.{Draft}
use Rattle.ir_grammar.specs.Pieces.{Piece, Is, is_last, then_more, pieces_at, pieces_of, pieces}
use Rattle.ir_grammar.specs.Names.{Names}
use Rattle.ir_grammar.specs.Sets.{is_debug, are_digits, has}
use Rattle.ir_grammar.specs.Forms.{Form, Takes, Rounds}
use Rattle.ir_grammar.specs.Tokens.{Limits, allows, kind}
use Rattle.ir_grammar.specs.Entities.{no_entities, next_entity, text_end, text_form}

-- the last of these is the end or a lexical fault, and no other is
abbrev pub OneLast : List Piece → Type 0
OneLast [] = ⊥
OneLast (t ∷ ts) = ((is_last t ≡ true) × (ts ≡ [])) ⊎ ((is_last t ≡ false) × OneLast ts)

pub nothing_after_last : (v : List Piece) (e : Piece) (w : List Piece) → OneLast (v ++ e ∷ w) → is_last e ≡ true → w ≡ []
nothing_after_last [] e w (inl h) last = h.1
nothing_after_last [] e w (inr h) last = absurd (cc (h.0, last))
nothing_after_last (t ∷ []) e w (inl h) last = absurd cc
nothing_after_last (t ∷ q ∷ v) e w (inl h) last = absurd cc
nothing_after_last (t ∷ v) e w (inr h) last = nothing_after_last v e w h.1 last

pub has_last : (ts : List Piece) → OneLast ts → (x : List Piece) × (e : Piece) × (ts ≡ x ++ e ∷ []) × (is_last e ≡ true)
has_last [] h = absurd h
has_last (t ∷ ts) (inl h) = ([], t, ap (λ x. t ∷ x) h.1, h.0)
has_last (t ∷ ts) (inr h) = let k = has_last ts h.1 in (t ∷ k.0, k.1, ap (λ x. t ∷ x) k.2, k.3)

-- ---- the pieces of a text

not_empty : (bs : List ℕ) (b : ℕ) (rest : List ℕ) → bs ≡ b ∷ rest → 0 < length bs
not_empty bs b rest e = omega (arith, ap length e)

-- a token but the end takes a byte
spelled : (t : Token) (bs : List ℕ) → Spells t bs → is_end t ≡ false → 0 < length bs
spelled (tokens.Int n) bs h e = h.0.0
spelled (tokens.Word n) bs h e = h.0.0
spelled (tokens.Label n) bs h e = omega (arith, ap length h.1 ∙ length-append h.0 (58 ∷ []))
spelled (tokens.Local n) bs h e = not_empty bs 37 h.0 h.1
spelled (tokens.Global n) bs h e = not_empty bs 64 h.0 h.1
spelled (tokens.Str n) bs h e = not_empty bs 34 _ h.1
spelled (tokens.CStr n) bs h e = not_empty bs 99 h.0 h.1
spelled (tokens.Meta n) bs h e = not_empty bs 33 n h.0
spelled (tokens.Hash n) bs h e = not_empty bs 35 n h.0
spelled (tokens.Sign n) bs h e = not_empty bs n [] h.0
spelled tokens.End bs h e = absurd cc

pub fewer : (u v : Unread) (t : Token) (p : Place) → next_token u ≡ Ok ((t, p), v) → is_end t ≡ false → length v.bytes < length u.bytes
fewer u v t p e more =
    let h = in_parts u v t p e in
    let some = spelled t h.1 h.3 more in
    omega (arith, ap length h.2 ∙ length-append h.0 (h.1 ++ v.bytes), length-append h.1 v.bytes)

one_last : (n : ℕ) (u : Unread) → length u.bytes < n → OneLast (pieces_at n u)
unfolding pieces_at
one_last zero u h = absurd (omega arith)
one_last (suc n) u h = at (λ v less. one_last n v less) (next_token u) refl
  where
    after : ((v : Unread) → length v.bytes < n → OneLast (pieces_at n v)) → (t : Token) (p : Place) (v : Unread) → next_token u ≡ Ok ((t, p), v) → (b : Bool) → is_end t ≡ b → OneLast (Is (record { token = t; place = p }) ∷ (if b then [] else pieces_at n v))
    after ih t p v e true end = inl (end, refl)
    after ih t p v e false more = let less = fewer u v t p e more in inr (more, ih v (omega arith))

    at : ((v : Unread) → length v.bytes < n → OneLast (pieces_at n v)) → (o : Result ((Token × Place) × Unread) LexFault) → next_token u ≡ o → OneLast (then_more o (λ v. pieces_at n v))
    at ih (Err f) e = inl (refl, refl)
    at ih (Ok t) e = after ih t.0.0 t.0.1 t.1 e (is_end t.0.0) refl

pub last_of_pieces : (bytes : List ℕ) → OneLast (pieces bytes)
unfolding pieces_of
last_of_pieces bytes = let u = whole bytes in one_last (length u.bytes + 1) u (omega arith)

-- ---- what a text form has

abbrev pub EndsInEnd : List Piece → Type 0
EndsInEnd u = (v : List Piece) × (t : Spot) × (u ≡ v ++ Is t ∷ []) × (is_end t.token ≡ true)

takes_end : (t : Token) → has (kind kinds.End) t ≡ true → is_end t ≡ true
takes_end (tokens.Int n) h = absurd cc
takes_end (tokens.Word n) h = absurd cc
takes_end (tokens.Label n) h = absurd cc
takes_end (tokens.Local n) h = absurd cc
takes_end (tokens.Global n) h = absurd cc
takes_end (tokens.Str n) h = absurd cc
takes_end (tokens.CStr n) h = absurd cc
takes_end (tokens.Sign n) h = absurd cc
takes_end tokens.End h = refl
takes_end (tokens.Meta n) h = at (not (is_debug n)) refl
  where
    at : (b : Bool) → not (is_debug n) ≡ b → is_end (tokens.Meta n) ≡ true
    at true e = let k : has (kind kinds.End) (tokens.Meta n) ≡ false = rw e refl in absurd (cc (h, k))
    at false e = let k : has (kind kinds.End) (tokens.Meta n) ≡ false = rw e refl in absurd (cc (h, k))
takes_end (tokens.Hash n) h = at (are_digits n) refl
  where
    at : (b : Bool) → are_digits n ≡ b → is_end (tokens.Hash n) ≡ true
    at true e = let k : has (kind kinds.End) (tokens.Hash n) ≡ false = rw e refl in absurd (cc (h, k))
    at false e = let k : has (kind kinds.End) (tokens.Hash n) ≡ false = rw e refl in absurd (cc (h, k))

allowed : (b : Bool) (a : Unit) → allows b ≡ Takes a → b ≡ true
allowed true a e = refl
allowed false a e = absurd cc

end_ends : (d : Draft) (s : Names) (u : List Piece) (m : modules.Module) (s' : Names) → (text_end d).reads s u m s' → EndsInEnd u
end_ends d s u m s' r =
    let t = r.5.0 in
    ([], t, r.4 ∙ rw (r.5.1, r.6.0) refl, takes_end t.token (allowed (has (kind kinds.End) t.token) r.0 r.5.2))

rounds_end : {X Y : Type 0} (go : X → Form X) (stop : X → Form Y) → ((x : X) (s : Names) (u : List Piece) (y : Y) (s' : Names) → (stop x).reads s u y s' → EndsInEnd u) → (n : ℕ) (x : X) (s : Names) (u : List Piece) (y : Y) (s' : Names) → Rounds go stop n x s u y s' → EndsInEnd u
rounds_end go stop h zero x s u y s' r = h x s u y s' r
rounds_end go stop h (suc n) x s u y s' r =
    let k = rounds_end go stop h n r.0 r.1 r.3 y s' r.6 in
    (r.2 ++ k.0, k.1, r.4 ∙ ap (λ q. r.2 ++ q) k.2 ∙ sym (append_assoc r.2 k.0 (Is k.1 ∷ [])), k.3)

pub text_ends : (l : Limits) (s : Names) (u : List Piece) (m : modules.Module) (s' : Names) → (text_form l).reads s u m s' → EndsInEnd u
unfolding text_form
text_ends l s u m s' r = rounds_end (λ (d : Draft). next_entity l d d.declares) (λ (d : Draft). text_end d) (λ (d : Draft) s u m s' r. end_ends d s u m s' r) r.0 no_entities s u m s' r.1
