-- The text of marks has their tokens.
use Rattle.std.proofs.Common.{◌≡◌, refl, sym, ap, ◌∙◌, subst, ℕ, Bool, true, false, List, [], ◌∷◌, ◌++◌, Ok}
use Rattle.std.specs.List.{list_all}
use Rattle.std.proofs.lemmas.List.{append_assoc}
use Rattle.oi_base.specs.declared.ids.Place.{Place}
use Rattle.ir_lexer.specs.declared.table.Token.{Token}
use Rattle.ir_lexer.specs.declared.table.Token.TheVariants as tokens
use Rattle.ir_lexer.specs.declared.table.Spot.{Spot}
use Rattle.ir_lexer.specs.Alphabet.{is_separator}
use Rattle.ir_lexer.specs.Places.{next_place, place_after}
use Rattle.ir_lexer.specs.Lexing.{Unread, unread, next_token, gap_len, is_end}
use Rattle.ir_lexer.specs.Table.{token_at}
use Rattle.ir_lexer.specs.Spellings.{Spells, continues}
use Rattle.ir_lexer.proofs.After.{past_separator, read_here}
use Rattle.ir_grammar.specs.Pieces.{Piece, Is, then_more, pieces_of}
use Rattle.ir_printer.specs.declared.marks.Sign.{Sign}
use Rattle.ir_printer.specs.declared.marks.Sign.TheVariants as signs
use Rattle.ir_printer.specs.declared.marks.Mark.{Mark}
use Rattle.ir_printer.specs.declared.marks.Mark.TheVariants as marks
use Rattle.ir_printer.specs.Words.{word_text}
use Rattle.ir_printer.specs.Layout.{Tables, name_at, quoted, spelled_name, spelled, sign_byte, marks_text}
use Rattle.ir_printer.specs.Tokens.{tokens_of, Are, AreSpellable}
use Rattle.ir_printer.proofs.Strings.{both, quotes, names}
use Rattle.ir_printer.proofs.Digits.{int_spelled}
use Rattle.ir_printer.proofs.WordForms.{word_spelled}
use Rattle.ir_grammar.proofs.Stream.{pieces_step}

abbrev IsGap : List ℕ → Type 0
IsGap gap = list_all is_separator gap ≡ true

-- ---- one token

-- what is left after a gap
past_gap : (gap bs : List ℕ) (p : Place) → IsGap gap → (q : Place) × (pieces_of (unread (gap ++ bs) p) ≡ pieces_of (unread bs q))
past_gap [] bs p h = (p, refl)
past_gap (b ∷ gap) bs p h =
    let k = both (is_separator b) (list_all is_separator gap) h in
    let more = past_gap gap bs (next_place p b) k.1 in
    (more.0, pieces_step (unread (b ∷ (gap ++ bs)) p) ∙ ap (λ r. then_more r (λ v. pieces_of v)) (past_separator b (gap ++ bs) p k.0) ∙ sym (pieces_step (unread (gap ++ bs) (next_place p b))) ∙ more.1)

-- the first piece is this token, and these bytes are left
abbrev Begins : Token → List ℕ → Place → List ℕ → Type 0
Begins t bs p rest = (s : Spot) × (q : Place) × (s.token ≡ t) × (pieces_of (unread bs p) ≡ Is s ∷ pieces_of (unread rest q))

one_more : (t : Token) (p : Place) (v : Unread) (c : Bool) → is_end t ≡ c → c ≡ false → then_more (Ok ((t, p), v)) (λ v. pieces_of v) ≡ Is (record { token = t; place = p }) ∷ pieces_of v
one_more t p v c e f = rw (e, f) refl

read_step : (t : Token) (p q : Place) (bs rest : List ℕ) → is_end t ≡ false → next_token (unread bs p) ≡ Ok ((t, p), unread rest q) → Begins t bs p rest
read_step t p q bs rest e h =
    (record { token = t; place = p }, q, refl, pieces_step (unread bs p) ∙ ap (λ r. then_more r (λ v. pieces_of v)) h ∙ one_more t p (unread rest q) (is_end t) refl e)

after_gap : (t : Token) (gap bs rest : List ℕ) (p : Place) → IsGap gap → ((q : Place) → Begins t bs q rest) → Begins t (gap ++ bs) p rest
after_gap t gap bs rest p h read =
    let g = past_gap gap bs p h in
    let r = read g.0 in
    (r.0, r.1, r.2, g.1 ∙ r.3)

-- a token that a blank, a sign or nothing follows
solid : (t : Token) (gap form rest : List ℕ) (p : Place) → IsGap gap → Spells t form → is_end t ≡ false → continues rest ≡ false → Begins t ((gap ++ form) ++ rest) p rest
solid t gap form rest p g h e free =
    subst (λ (bs : List ℕ). Begins t bs p rest) (sym (append_assoc gap form rest))
    (after_gap t gap (form ++ rest) rest p g (λ q. read_step t q (place_after q form) (form ++ rest) rest e (read_here t form rest q h e free)))

sign_read : (s : Sign) (p : Place) (rest : List ℕ) → next_token (unread (sign_byte s ∷ rest) p) ≡ Ok ((tokens.Sign (sign_byte s), p), unread rest (place_after p (sign_byte s ∷ [])))
unfolding next_token gap_len token_at
sign_read signs.Equals p rest = refl
sign_read signs.Comma p rest = refl
sign_read signs.OpenRound p rest = refl
sign_read signs.CloseRound p rest = refl
sign_read signs.OpenSquare p rest = refl
sign_read signs.CloseSquare p rest = refl
sign_read signs.OpenCurly p rest = refl
sign_read signs.CloseCurly p rest = refl

sign_begins : (s : Sign) (rest : List ℕ) (p : Place) → Begins (tokens.Sign (sign_byte s)) (sign_byte s ∷ rest) p rest
sign_begins s rest p = read_step (tokens.Sign (sign_byte s)) p _ (sign_byte s ∷ rest) rest refl (sign_read s p rest)

-- a sign after a gap
spaced : (s : Sign) (gap rest : List ℕ) (p : Place) → IsGap gap → Begins (tokens.Sign (sign_byte s)) ((gap ++ sign_byte s ∷ []) ++ rest) p rest
spaced s gap rest p g =
    subst (λ (bs : List ℕ). Begins (tokens.Sign (sign_byte s)) bs p rest) (sym (append_assoc gap (sign_byte s ∷ []) rest))
    (after_gap (tokens.Sign (sign_byte s)) gap (sign_byte s ∷ rest) rest p g (λ q. sign_begins s rest q))

-- ---- what follows a token

sign_free : (s : Sign) (rest : List ℕ) → continues (sign_byte s ∷ rest) ≡ false
sign_free signs.Equals rest = refl
sign_free signs.Comma rest = refl
sign_free signs.OpenRound rest = refl
sign_free signs.CloseRound rest = refl
sign_free signs.OpenSquare rest = refl
sign_free signs.CloseSquare rest = refl
sign_free signs.OpenCurly rest = refl
sign_free signs.CloseCurly rest = refl

-- no token goes on with what stands after a gap of at least one byte
free : (n : Tables) (b : ℕ) (gap : List ℕ) (ms : List Mark) (rest : List ℕ) → continues (b ∷ []) ≡ false → continues rest ≡ false → continues (marks_text n (b ∷ gap) ms ++ rest) ≡ false
free n b gap [] rest h r = r
free n b gap (marks.Word w ∷ ms) rest h r = h
free n b gap (marks.Int i ∷ ms) rest h r = h
free n b gap (marks.Str said ∷ ms) rest h r = h
free n b gap (marks.CStr said ∷ ms) rest h r = h
free n b gap (marks.Symbol x ∷ ms) rest h r = h
free n b gap (marks.TypeName x ∷ ms) rest h r = h
free n b gap (marks.Local x ∷ ms) rest h r = h
free n b gap (marks.Label x ∷ ms) rest h r = h
free n b gap (marks.Spaced s ∷ ms) rest h r = h
free n b gap (marks.Opening s ∷ ms) rest h r = h
free n b gap (marks.Closing s ∷ ms) rest h r = sign_free s (marks_text n (32 ∷ []) ms ++ rest)
free n b gap (marks.Joined s ∷ ms) rest h r = sign_free s (marks_text n [] ms ++ rest)
free n b gap (marks.Line ∷ ms) rest h r = free n 10 [] ms rest refl r
free n b gap (marks.Indented ∷ ms) rest h r = free n 10 (32 ∷ 32 ∷ []) ms rest refl r

-- ---- marks

-- the text of marks after a gap begins with their tokens, and the rest is left
abbrev Read : Tables → List ℕ → List Mark → List ℕ → Place → Type 0
Read n gap ms rest p = (us : List Piece) × (q : Place) × Are us (tokens_of n ms) × (pieces_of (unread (marks_text n gap ms ++ rest) p) ≡ us ++ pieces_of (unread rest q))

-- one more token
then_read : (n : Tables) (t : Token) (ts : List Token) (first text rest : List ℕ) (p : Place) →
    Begins t (first ++ (text ++ rest)) p (text ++ rest) →
    ((q : Place) → (us : List Piece) × (r : Place) × Are us ts × (pieces_of (unread (text ++ rest) q) ≡ us ++ pieces_of (unread rest r))) →
    (us : List Piece) × (r : Place) × Are us (t ∷ ts) × (pieces_of (unread ((first ++ text) ++ rest) p) ≡ us ++ pieces_of (unread rest r))
then_read n t ts first text rest p b more =
    let m = more b.1 in
    (Is b.0 ∷ m.0, m.1, (b.2, m.2), ap (λ (bs : List ℕ). pieces_of (unread bs p)) (append_assoc first text rest) ∙ b.3 ∙ ap (λ (us : List Piece). Is b.0 ∷ us) m.3)

blank_free : (n : Tables) (ms : List Mark) (rest : List ℕ) → continues rest ≡ false → continues (marks_text n (32 ∷ []) ms ++ rest) ≡ false
blank_free n ms rest r = free n 32 [] ms rest refl r

pub text_tokens : (n : Tables) (gap : List ℕ) (ms : List Mark) (rest : List ℕ) (p : Place) → IsGap gap → AreSpellable n ms → continues rest ≡ false → Read n gap ms rest p
text_tokens n gap [] rest p g h r = ([], p, tt, refl)
text_tokens n gap (marks.Word w ∷ ms) rest p g h r =
    then_read n (tokens.Word (word_text w)) (tokens_of n ms) (gap ++ word_text w) (marks_text n (32 ∷ []) ms) rest p
    (solid (tokens.Word (word_text w)) gap (word_text w) _ p g (word_spelled w) refl (blank_free n ms rest r)) (λ q. text_tokens n (32 ∷ []) ms rest q refl h.1 r)
text_tokens n gap (marks.Int i ∷ ms) rest p g h r =
    then_read n (tokens.Int i) (tokens_of n ms) (gap ++ spelled n (marks.Int i)) (marks_text n (32 ∷ []) ms) rest p
    (solid (tokens.Int i) gap _ _ p g (int_spelled i h.0) refl (blank_free n ms rest r)) (λ q. text_tokens n (32 ∷ []) ms rest q refl h.1 r)
text_tokens n gap (marks.Str said ∷ ms) rest p g h r =
    then_read n (tokens.Str said) (tokens_of n ms) (gap ++ quoted said) (marks_text n (32 ∷ []) ms) rest p
    (solid (tokens.Str said) gap (quoted said) _ p g (quotes said h.0) refl (blank_free n ms rest r)) (λ q. text_tokens n (32 ∷ []) ms rest q refl h.1 r)
text_tokens n gap (marks.CStr said ∷ ms) rest p g h r =
    then_read n (tokens.CStr said) (tokens_of n ms) (gap ++ 99 ∷ quoted said) (marks_text n (32 ∷ []) ms) rest p
    (solid (tokens.CStr said) gap (99 ∷ quoted said) _ p g (quoted said, refl, quotes said h.0) refl (blank_free n ms rest r)) (λ q. text_tokens n (32 ∷ []) ms rest q refl h.1 r)
text_tokens n gap (marks.Symbol x ∷ ms) rest p g h r =
    let name = name_at n.symbols x.0 in
    then_read n (tokens.Global name) (tokens_of n ms) (gap ++ 64 ∷ spelled_name name) (marks_text n (32 ∷ []) ms) rest p
    (solid (tokens.Global name) gap (64 ∷ spelled_name name) _ p g (spelled_name name, refl, names name h.0) refl (blank_free n ms rest r)) (λ q. text_tokens n (32 ∷ []) ms rest q refl h.1 r)
text_tokens n gap (marks.TypeName x ∷ ms) rest p g h r =
    let name = name_at n.types x.0 in
    then_read n (tokens.Local name) (tokens_of n ms) (gap ++ 37 ∷ spelled_name name) (marks_text n (32 ∷ []) ms) rest p
    (solid (tokens.Local name) gap (37 ∷ spelled_name name) _ p g (spelled_name name, refl, names name h.0) refl (blank_free n ms rest r)) (λ q. text_tokens n (32 ∷ []) ms rest q refl h.1 r)
text_tokens n gap (marks.Local x ∷ ms) rest p g h r =
    let name = name_at n.locals x.0 in
    then_read n (tokens.Local name) (tokens_of n ms) (gap ++ 37 ∷ spelled_name name) (marks_text n (32 ∷ []) ms) rest p
    (solid (tokens.Local name) gap (37 ∷ spelled_name name) _ p g (spelled_name name, refl, names name h.0) refl (blank_free n ms rest r)) (λ q. text_tokens n (32 ∷ []) ms rest q refl h.1 r)
text_tokens n gap (marks.Label x ∷ ms) rest p g h r =
    let name = name_at n.locals x.0 in
    then_read n (tokens.Label name) (tokens_of n ms) (gap ++ (spelled_name name ++ 58 ∷ [])) (marks_text n (32 ∷ []) ms) rest p
    (solid (tokens.Label name) gap (spelled_name name ++ 58 ∷ []) _ p g (spelled_name name, refl, names name h.0) refl (blank_free n ms rest r)) (λ q. text_tokens n (32 ∷ []) ms rest q refl h.1 r)
text_tokens n gap (marks.Spaced s ∷ ms) rest p g h r =
    then_read n (tokens.Sign (sign_byte s)) (tokens_of n ms) (gap ++ sign_byte s ∷ []) (marks_text n (32 ∷ []) ms) rest p (spaced s gap _ p g) (λ q. text_tokens n (32 ∷ []) ms rest q refl h.1 r)
text_tokens n gap (marks.Opening s ∷ ms) rest p g h r =
    then_read n (tokens.Sign (sign_byte s)) (tokens_of n ms) (gap ++ sign_byte s ∷ []) (marks_text n [] ms) rest p (spaced s gap _ p g) (λ q. text_tokens n [] ms rest q refl h.1 r)
text_tokens n gap (marks.Closing s ∷ ms) rest p g h r =
    then_read n (tokens.Sign (sign_byte s)) (tokens_of n ms) (sign_byte s ∷ []) (marks_text n (32 ∷ []) ms) rest p (sign_begins s _ p) (λ q. text_tokens n (32 ∷ []) ms rest q refl h.1 r)
text_tokens n gap (marks.Joined s ∷ ms) rest p g h r =
    then_read n (tokens.Sign (sign_byte s)) (tokens_of n ms) (sign_byte s ∷ []) (marks_text n [] ms) rest p (sign_begins s _ p) (λ q. text_tokens n [] ms rest q refl h.1 r)
text_tokens n gap (marks.Line ∷ ms) rest p g h r = text_tokens n (10 ∷ []) ms rest p refl h.1 r
text_tokens n gap (marks.Indented ∷ ms) rest p g h r = text_tokens n (10 ∷ 32 ∷ 32 ∷ []) ms rest p refl h.1 r
