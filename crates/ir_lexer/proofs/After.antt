-- What stands before a token and after it.
use Rattle.std.proofs.Common.{◌≡◌, ℕ, suc, ◌+◌, Bool, true, false, ◌==◌, ◌&&◌, ◌||◌, not, List, [], ◌∷◌, ◌++◌, length, take, if◌then◌else◌, Result, Ok, Err, ◌⊎◌, inl, inr, refl, sym, ap, ◌∙◌, subst, arith, zero-add, add-zero}
use Rattle.std.specs.List.{list_any}
use Rattle.std.proofs.lemmas.Bool.{eqb-true}
use Rattle.std.proofs.lemmas.Bool.Decides.{nat_tests}
use Rattle.std.proofs.lemmas.List.{take-append-drop}
use Rattle.oi_base.specs.declared.ids.Place.{Place}
use Rattle.ir_lexer.specs.declared.fault.LexFault.{LexFault}
use Rattle.ir_lexer.specs.declared.fault.LexFault.TheVariants.{BadByte}
use Rattle.ir_lexer.specs.declared.table.Token.{Token}
use Rattle.ir_lexer.specs.Alphabet.{is_run_byte, is_separator, is_sign, begins_with}
use Rattle.ir_lexer.specs.Places.{next_place, place_after}
use Rattle.ir_lexer.specs.Table.{Found, token_at}
use Rattle.ir_lexer.specs.Lexing.{Unread, unread, skip, is_in_comment, is_skipped, gap_len, taken, next_token, is_end}
use Rattle.ir_lexer.specs.Spellings.{Spells, continues}
use Rattle.ir_lexer.proofs.Starts.{neither}
use Rattle.ir_lexer.proofs.Spelled.{spelled}
use Rattle.ir_lexer.proofs.ReadBack.{read_back}

-- what is left after a prefix and n bytes more
skip_more : (front bs : List ℕ) (n : ℕ) (p : Place) → skip (length front + n) (unread (front ++ bs) p) ≡ skip n (unread bs (place_after p front))
skip_more [] bs n p = rw zero-add refl
skip_more (b ∷ front) bs n p =
    let one : suc (length front) + n ≡ suc (length front + n) = omega arith in
    ap (λ (m : ℕ). skip m (unread (b ∷ (front ++ bs)) p)) one ∙ skip_more front bs n (next_place p b)

-- the token here
abbrev found_here : Unread → Result ((Token × Place) × Unread) LexFault
found_here u = taken u (token_at u.place u.bytes)

-- a prefix that is all in the gap
passes : (front bs : List ℕ) (p : Place) → gap_len false (front ++ bs) ≡ length front + gap_len false bs → next_token (unread (front ++ bs) p) ≡ next_token (unread bs (place_after p front))
unfolding next_token
passes front bs p e = ap found_here (ap (λ (n : ℕ). skip n (unread (front ++ bs) p)) e ∙ skip_more front bs (gap_len false bs) p)

or_true : (a b : Bool) → b ≡ true → (a || b) ≡ true
or_true true b e = refl
or_true false b e = e

and_false : (a b : Bool) → a ≡ false → (a && b) ≡ false
and_false a b e = rw e refl

-- a separator
separator_59 : (b : ℕ) → is_separator b ≡ true → (b == 59) ≡ false
separator_59 b h = grind (arith, nat_tests)

separator_skipped : (b : ℕ) → is_separator b ≡ true → (is_skipped false b ≡ true) × (is_in_comment false b ≡ false)
separator_skipped b h = (or_true (b == 59) (is_separator b) h, and_false (b == 59) (not (b == 10)) (separator_59 b h))

separator_gap : (b : ℕ) (bs : List ℕ) → is_separator b ≡ true → gap_len false (b ∷ bs) ≡ 1 + gap_len false bs
unfolding gap_len
separator_gap b bs h = let k = separator_skipped b h in rw (k.0, k.1) refl

pub past_separator : (b : ℕ) (bs : List ℕ) (p : Place) → is_separator b ≡ true → next_token (unread (b ∷ bs) p) ≡ next_token (unread bs (next_place p b))
past_separator b bs p h = passes (b ∷ []) bs p (separator_gap b bs h)

-- a comment
comment_gap : (body bs : List ℕ) → list_any (λ b. b == 10) body ≡ false → (bs ≡ []) ⊎ (begins_with 10 bs ≡ true) → gap_len true (body ++ bs) ≡ length body + gap_len false bs
unfolding gap_len
comment_gap [] bs h (inl e) = rw e refl
comment_gap [] [] h (inr e) = cc
comment_gap [] (c ∷ cs) h (inr e) = rw (eqb-true c 10 e) (omega arith)
comment_gap (c ∷ body) bs h end =
    let k = neither (c == 10) (list_any (λ b. b == 10) body) h in
    let more = comment_gap body bs k.1 end in
    let here : gap_len true (c ∷ (body ++ bs)) ≡ 1 + gap_len true (body ++ bs) = rw k.0 refl in
    omega arith

comment_all : (body bs : List ℕ) → gap_len false (59 ∷ (body ++ bs)) ≡ 1 + gap_len true (body ++ bs)
unfolding gap_len
comment_all body bs = refl

pub past_comment : (body bs : List ℕ) (p : Place) → list_any (λ b. b == 10) body ≡ false → (bs ≡ []) ⊎ (begins_with 10 bs ≡ true) → next_token (unread (59 ∷ (body ++ bs)) p) ≡ next_token (unread bs (place_after p (59 ∷ body)))
past_comment body bs p h end =
    let more = comment_gap body bs h end in
    let here = comment_all body bs in
    passes (59 ∷ body) bs p (omega arith)

-- a byte of the gap begins no token
skipped_run : (b : ℕ) → is_skipped false b ≡ true → is_run_byte b ≡ false
skipped_run b h = grind (arith, nat_tests)

skipped_mark : (b : ℕ) → is_skipped false b ≡ true → ((b == 34) ≡ false) × ((b == 37) ≡ false) × ((b == 64) ≡ false) × ((b == 33) ≡ false) × ((b == 35) ≡ false)
skipped_mark b h = (grind (arith, nat_tests), grind (arith, nat_tests), grind (arith, nat_tests), grind (arith, nat_tests), grind (arith, nat_tests))

skipped_sign : (b : ℕ) → is_skipped false b ≡ true → is_sign b ≡ false
skipped_sign b h = grind (arith, nat_tests)

skipped_bad : (p : Place) (b : ℕ) (bs : List ℕ) → is_skipped false b ≡ true → token_at p (b ∷ bs) ≡ Err (BadByte p b)
unfolding token_at
skipped_bad p b bs h = let k = skipped_mark b h in rw (skipped_run b h, skipped_sign b h, k.0, k.1, k.2, k.3, k.4) refl

no_gap : (p : Place) (bs : List ℕ) (t : Token) (n : ℕ) → token_at p bs ≡ Ok (t, n) → gap_len false bs ≡ 0
unfolding gap_len
no_gap p [] t n e = refl
no_gap p (b ∷ bs) t n e = by_skip (is_skipped false b) refl
  where
    by_skip : (s : Bool) → is_skipped false b ≡ s → (if s then 1 + gap_len (is_in_comment false b) bs else 0) ≡ 0
    by_skip true h = let k = sym (skipped_bad p b bs h) ∙ e in cc
    by_skip false h = refl

pub read_here : (t : Token) (form after : List ℕ) (p : Place) → Spells t form → is_end t ≡ false → continues after ≡ false → next_token (unread (form ++ after) p) ≡ Ok ((t, p), unread after (place_after p form))
unfolding next_token
read_here t form after p h more free =
    let u = unread (form ++ after) p in
    let e = read_back p t form after h more free in
    let front : skip (length form) u ≡ unread after (place_after p form) = ap (λ (n : ℕ). skip n u) (sym (add-zero (length form))) ∙ skip_more form after 0 p in
    ap found_here (ap (λ (n : ℕ). skip n u) (no_gap p (form ++ after) t (length form) e)) ∙ (ap (taken u) e ∙ ap (λ (v : Unread). Ok ((t, p), v)) front)

-- the bytes of a text are its gap, a form of its token, and what is left
abbrev Read : Type 0
Read = (Token × Place) × Unread

abbrev read_or : Read → Result Read LexFault → Read
read_or m (Ok n) = n
read_or m (Err e) = m

abbrev Parts : Unread → Read → Type 0
Parts h n = (form : List ℕ) × (h.bytes ≡ form ++ n.1.bytes) × Spells n.0.0 form × (n.0.1 ≡ h.place) × (n.1.place ≡ place_after n.0.1 form)

found_parts : (h : Unread) (x : Found) (n : Read) → token_at h.place h.bytes ≡ x → taken h x ≡ Ok n → Parts h n
found_parts h (Ok s) n at e =
    subst (Parts h) (ap (read_or n) e) (take s.1 h.bytes, sym (take-append-drop s.1 h.bytes), (spelled h.place h.bytes s.0 s.1 at).0, refl, refl)
found_parts h (Err f) n at e = cc

pub in_parts : (u v : Unread) (t : Token) (p : Place) → next_token u ≡ Ok ((t, p), v) → (gap form : List ℕ) × (u.bytes ≡ gap ++ (form ++ v.bytes)) × Spells t form × (p ≡ place_after u.place gap) × (v.place ≡ place_after p form)
unfolding next_token
in_parts u v t p e =
    let n = gap_len false u.bytes in
    let h = skip n u in
    let k = found_parts h (token_at h.place h.bytes) ((t, p), v) refl e in
    (take n u.bytes, k.0, sym (take-append-drop n u.bytes) ∙ ap (λ (x : List ℕ). take n u.bytes ++ x) k.1, k.2, k.3, k.4)
