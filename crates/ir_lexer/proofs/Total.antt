-- Every text gives its tokens or a fault.
use Rattle.std.proofs.Common.{◌≡◌, ℕ, zero, suc, ◌+◌, ◌<◌, ◌≤◌, false, List, [], ◌∷◌, length, drop, length-drop, Result, Ok, Err, ◌⊎◌, inl, inr, refl, sym, ap, ◌∙◌, subst, arith}
use Rattle.std.proofs.lemmas.Bool.{false≢true}
use Rattle.oi_base.specs.declared.ids.Place.{Place}
use Rattle.ir_lexer.specs.declared.fault.LexFault.{LexFault}
use Rattle.ir_lexer.specs.declared.table.Token.{Token}
use Rattle.ir_lexer.specs.declared.table.Token.TheVariants as tokens
use Rattle.ir_lexer.specs.declared.table.Spot.{Spot}
use Rattle.ir_lexer.specs.Table.{Found, token_at}
use Rattle.ir_lexer.specs.Lexing.{Unread, unread, skip, gap_len, taken, next_token, is_end, Lexes}
use Rattle.ir_lexer.proofs.Solid.{Solid, solid}

abbrev Read : Type 0
Read = (Token × Place) × Unread

-- a token that is read: the end, where nothing is left, or a token with fewer bytes after it
abbrev Moves : Unread → Read → Type 0
Moves u n = ((n ≡ ((tokens.End, u.place), u)) × (u.bytes ≡ [])) ⊎ ((is_end n.0.0 ≡ false) × (length n.1.bytes < length u.bytes))

abbrev pub read_or : Read → Result Read LexFault → Read
read_or m (Ok n) = n
read_or m (Err e) = m

by_found : (u : Unread) (x : Found) (n : Read) → 0 < length u.bytes → Solid x → taken u x ≡ Ok n → (is_end n.0.0 ≡ false) × (length n.1.bytes < length u.bytes)
by_found u (Ok t) n some s e =
    let same : ((t.0, u.place), skip t.1 u) ≡ n = ap (read_or n) e in
    let fewer : length (drop t.1 u.bytes) < length u.bytes = simp length-drop (omega arith) in
    subst (λ (m : Read). (is_end m.0.0 ≡ false) × (length m.1.bytes < length u.bytes)) same (s.0, fewer)
by_found u (Err f) n some s e = cc

at_front : (p : Place) (bs : List ℕ) (n : Read) → taken (record { bytes = bs; place = p }) (token_at p bs) ≡ Ok n → Moves (record { bytes = bs; place = p }) n
unfolding token_at
at_front p [] n e = inl (sym (ap (read_or n) e), refl)
at_front p (b ∷ bs) n e = inr (by_found (record { bytes = b ∷ bs; place = p }) (token_at p (b ∷ bs)) n (omega arith) (solid p b bs) e)

moved : (u : Unread) (n : Read) → next_token u ≡ Ok n → Moves (skip (gap_len false u.bytes) u) n
unfolding next_token
moved u n e = let v = skip (gap_len false u.bytes) u in at_front v.place v.bytes n e

-- after the end nothing is left, and the end comes again
again : (p : Place) → next_token (record { bytes = []; place = p }) ≡ Ok ((tokens.End, p), record { bytes = []; place = p })
unfolding next_token gap_len token_at
again p = refl

stays : (v : Unread) (p : Place) (w : Unread) → Moves v ((tokens.End, p), w) → (w ≡ record { bytes = []; place = p }) × (next_token w ≡ Ok ((tokens.End, p), w))
stays v p w (inl h) =
    let rest : w ≡ v = ap (λ (m : Read). m.1) h.0 in
    let place : p ≡ v.place = ap (λ (m : Read). m.0.1) h.0 in
    let empty : w ≡ unread [] p = rest ∙ ap (λ (bs : List ℕ). unread bs v.place) h.1 ∙ ap (unread []) (sym place) in
    (empty, rw empty (again p))
stays v p w (inr h) = absurd (false≢true (sym h.0))

pub end_stays : (u : Unread) (p : Place) (w : Unread) → next_token u ≡ Ok ((tokens.End, p), w) → (w ≡ record { bytes = []; place = p }) × (next_token w ≡ Ok ((tokens.End, p), w))
end_stays u p w e = stays (skip (gap_len false u.bytes) u) p w (moved u ((tokens.End, p), w) e)

-- one token more at the start
one_before : (u : Unread) (n : Read) → next_token u ≡ Ok n → is_end n.0.0 ≡ false → (r : Result (List Spot) LexFault) → Lexes n.1 r → (r' : Result (List Spot) LexFault) × Lexes u r'
one_before u n e more (Ok ts) h =
    let s : Spot = record { token = n.0.0; place = n.0.1 } in
    (Ok (s ∷ ts), (s ∷ h.0, h.1, h.2, h.3, ap (λ (x : List Spot). s ∷ x) h.4, (n.1, e, more, h.5), h.6))
one_before u n e more (Err f) h =
    let s : Spot = record { token = n.0.0; place = n.0.1 } in
    (Err f, (s ∷ h.0, (h.1.0, (n.1, e, more, h.1.1), h.1.2)))

by_move : (k : ℕ) (u v : Unread) (n : Read) → length v.bytes ≤ length u.bytes → length u.bytes < suc k → ((w : Unread) → length w.bytes < k → (r : Result (List Spot) LexFault) × Lexes w r) → next_token u ≡ Ok n → Moves v n → (r : Result (List Spot) LexFault) × Lexes u r
by_move k u v n le less rest e (inl h) =
    (Ok (record { token = tokens.End; place = v.place } ∷ []), ([], u, v.place, v, refl, refl, e ∙ ap Ok h.0))
by_move k u v n le less rest e (inr h) = let more = rest n.1 (omega arith) in one_before u n e h.0 more.0 more.1

by_next : (k : ℕ) (u : Unread) → length u.bytes < suc k → ((w : Unread) → length w.bytes < k → (r : Result (List Spot) LexFault) × Lexes w r) → (o : Result Read LexFault) → next_token u ≡ o → (r : Result (List Spot) LexFault) × Lexes u r
by_next k u less rest (Ok n) e = by_move k u (skip (gap_len false u.bytes) u) n (simp length-drop (omega arith)) less rest e (moved u n e)
by_next k u less rest (Err f) e = (Err f, ([], (u, refl, e)))

within : (k : ℕ) (u : Unread) → length u.bytes < k → (r : Result (List Spot) LexFault) × Lexes u r
within zero u less = absurd (omega arith)
within (suc k) u less = by_next k u less (within k) (next_token u) refl

pub some_answer : (u : Unread) → (r : Result (List Spot) LexFault) × Lexes u r
some_answer u = within (length u.bytes + 1) u (omega arith)
