-- A form of a token is read as that token, where the byte after it goes on with no token.
use Rattle.std.proofs.Common.{◌≡◌, ℕ, suc, ◌+◌, ◌<◌, ◌≤◌, Bool, true, false, ◌==◌, ◌&&◌, ◌||◌, cond, nat_lt, nat_le, List, [], ◌∷◌, ◌++◌, length, drop, if◌then◌else◌, Some, None, Result, Ok, Err, ℤ, inl, inr, refl, sym, ap, ◌∙◌, arith}
use Rattle.std.specs.Prelude.{position}
use Rattle.std.specs.List.{list_all, list_any, position_or_len}
use Rattle.std.specs.Str.Parse.{signed_digits_value}
use Rattle.std.proofs.lemmas.Bool.Decides.{nat_tests}
use Rattle.std.proofs.lemmas.List.{append_assoc, length-append, take_at, drop_at}
use Rattle.oi_base.specs.declared.ids.Place.{Place}
use Rattle.ir_lexer.specs.declared.fault.LexFault.{LexFault}
use Rattle.ir_lexer.specs.declared.fault.LexFault.TheVariants.{BadByte}
use Rattle.ir_lexer.specs.declared.table.Token.{Token}
use Rattle.ir_lexer.specs.declared.table.Token.TheVariants.{Int, Word, Label, Local, Global, Str, CStr, Meta, Hash, Sign, End}
use Rattle.ir_lexer.specs.Alphabet.{is_run_byte, is_sign, begins_with, run_of, without_minus, is_int}
use Rattle.ir_lexer.specs.Places.{next_place}
use Rattle.ir_lexer.specs.Strings.{unescaped, string_up_to, string_at, is_name}
use Rattle.ir_lexer.specs.Table.{Found, and_then, is_c, int_token, cstring_token, run_token, string_token, name_after, token_at}
use Rattle.ir_lexer.specs.Lexing.{is_end}
use Rattle.ir_lexer.specs.Spellings.{IsRun, Names, Spells, continues}
use Rattle.ir_lexer.proofs.Starts.{both, neither, begins_run, run_is}

free_run : (after : List ℕ) → continues after ≡ false → begins_run after ≡ false
free_run [] h = refl
free_run (c ∷ cs) h = (neither (is_run_byte c) ((c == 58) || (c == 34)) h).0

free_colon : (after : List ℕ) → continues after ≡ false → begins_with 58 after ≡ false
free_colon [] h = refl
free_colon (c ∷ cs) h = (neither (c == 58) (c == 34) (neither (is_run_byte c) ((c == 58) || (c == 34)) h).1).0

free_quote : (after : List ℕ) → continues after ≡ false → begins_with 34 after ≡ false
free_quote [] h = refl
free_quote (c ∷ cs) h = (neither (c == 58) (c == 34) (neither (is_run_byte c) ((c == 58) || (c == 34)) h).1).1

-- a text that begins with a run and goes on with no run byte
run_case : Place → List ℕ → List ℕ → List ℕ → Found
run_case p bs run after =
    if begins_with 58 after then Ok (Label run, length run + 1)
    else (if is_c run && begins_with 34 after then cstring_token p bs
    else (if is_int run then int_token p run
    else Ok (Word run, length run)))

by_case : (p : Place) (bs run after : List ℕ) → run_of bs ≡ run → drop (length run) bs ≡ after → run_token p bs ≡ run_case p bs run after
unfolding run_token run_case
by_case p bs run after e f = rw (← f, ← e) refl

by_run : (p : Place) (run after : List ℕ) → IsRun run → begins_run after ≡ false → token_at p (run ++ after) ≡ run_case p (run ++ after) run after
unfolding token_at
by_run p [] after run free = let k = run.0 in absurd (omega arith)
by_run p (b ∷ rs) after run free =
    let k = both (is_run_byte b) (list_all is_run_byte rs) run.1 in
    let here : token_at p (b ∷ (rs ++ after)) ≡ run_token p (b ∷ (rs ++ after)) = rw k.0 refl in
    here ∙ by_case p (b ∷ (rs ++ after)) (b ∷ rs) after (run_is (b ∷ rs) after run.1 free) (drop_at (b ∷ rs) after (length (b ∷ rs)) refl)

and_false : (a b : Bool) → b ≡ false → (a && b) ≡ false
and_false true b e = e
and_false false b e = refl

read_word : (p : Place) (run after : List ℕ) → IsRun run → is_int run ≡ false → continues after ≡ false → token_at p (run ++ after) ≡ Ok (Word run, length run)
unfolding run_case
read_word p run after ok word free =
    by_run p run after ok (free_run after free) ∙ rw (free_colon after free, and_false (is_c run) (begins_with 34 after) (free_quote after free), word) refl

most : (n : ℕ) → n ≤ 30 → nat_le n 30 ≡ true
most n h = grind (arith, nat_tests)

read_int : (p : Place) (run after : List ℕ) → IsRun run → is_int run ≡ true → length (without_minus run) ≤ 30 → continues after ≡ false → token_at p (run ++ after) ≡ Ok (Int (signed_digits_value 10 run), length run)
unfolding run_case int_token
read_int p run after ok int short free =
    by_run p run after ok (free_run after free) ∙ rw (free_colon after free, and_false (is_c run) (begins_with 34 after) (free_quote after free), int, most (length (without_minus run)) short) refl

read_label : (p : Place) (run after : List ℕ) → IsRun run → token_at p (run ++ 58 ∷ after) ≡ Ok (Label run, length run + 1)
unfolding run_case
read_label p run after ok = by_run p run (58 ∷ after) ok refl ∙ refl

-- strings
abbrev is_quote : ℕ → Bool
is_quote b = b == 34

quote_len : (raw after : List ℕ) → list_any is_quote raw ≡ false → position_or_len is_quote (raw ++ 34 ∷ after) ≡ length raw
quote_len [] after h = refl
quote_len (c ∷ raw) after h =
    let k = neither (c == 34) (list_any is_quote raw) h in
    let more = quote_len raw after k.1 in
    rw (k.0, more) (omega arith)

found : (k n : ℕ) (t : Bool) → k ≡ n → t ≡ true → cond t (Some k) None ≡ Some n
found k n t e h = rw (h, e) refl

lt_true : (m n : ℕ) → m < n → nat_lt m n ≡ true
lt_true m n h = grind (arith, nat_tests)

quote_at : (raw after : List ℕ) → list_any is_quote raw ≡ false → position is_quote (raw ++ 34 ∷ after) ≡ Some (length raw)
quote_at raw after h =
    let k = quote_len raw after h in
    let long : length (raw ++ 34 ∷ after) ≡ length raw + suc (length after) = length-append raw (34 ∷ after) in
    found (position_or_len is_quote (raw ++ 34 ∷ after)) (length raw) (nat_lt (position_or_len is_quote (raw ++ 34 ∷ after)) (length (raw ++ 34 ∷ after))) k (lt_true (position_or_len is_quote (raw ++ 34 ∷ after)) (length (raw ++ 34 ∷ after)) (omega arith))

read_string : (p : Place) (raw after : List ℕ) → list_any is_quote raw ≡ false → string_at p (34 ∷ (raw ++ 34 ∷ after)) ≡ Ok (unescaped raw, length raw + 2)
read_string p raw after h =
    ap (string_up_to p (34 ∷ (raw ++ 34 ∷ after))) (quote_at raw after h) ∙ ap (λ (x : List ℕ). Ok (unescaped x, length raw + 2)) (take_at raw (34 ∷ after) (length raw) refl)

in_quotes : (raw after : List ℕ) → (34 ∷ (raw ++ 34 ∷ [])) ++ after ≡ 34 ∷ (raw ++ 34 ∷ after)
in_quotes raw after = ap (λ (x : List ℕ). 34 ∷ x) (append_assoc raw (34 ∷ []) after)

quotes_len : (raw : List ℕ) → length (34 ∷ (raw ++ 34 ∷ [])) ≡ length raw + 2
quotes_len raw = let k = length-append raw (34 ∷ []) in omega arith

past_string : (raw after : List ℕ) → drop (length raw + 2) (34 ∷ (raw ++ 34 ∷ after)) ≡ after
past_string raw after = ap (drop (length raw + 2)) (sym (in_quotes raw after)) ∙ drop_at (34 ∷ (raw ++ 34 ∷ [])) after (length raw + 2) (quotes_len raw)

after_string : Place → List ℕ → List ℕ × ℕ → Found
after_string p bs s =
    if begins_with 58 (drop s.1 bs) then (if is_name s.0 then Ok (Label s.0, s.1 + 1) else Err (BadByte p 34))
    else Ok (Str s.0, s.1)

by_string : (p : Place) (raw after : List ℕ) → list_any is_quote raw ≡ false → token_at p (34 ∷ (raw ++ 34 ∷ after)) ≡ after_string p (34 ∷ (raw ++ 34 ∷ after)) (unescaped raw, length raw + 2)
unfolding token_at string_token after_string
by_string p raw after h = ap (λ (r : Result (List ℕ × ℕ) LexFault). and_then r (after_string p (34 ∷ (raw ++ 34 ∷ after)))) (read_string p raw after h)

read_str : (p : Place) (raw after : List ℕ) → list_any is_quote raw ≡ false → begins_with 58 after ≡ false → token_at p (34 ∷ (raw ++ 34 ∷ after)) ≡ Ok (Str (unescaped raw), length raw + 2)
unfolding after_string
read_str p raw after h free = by_string p raw after h ∙ rw (past_string raw after, free) refl

read_quoted_label : (p : Place) (raw after : List ℕ) → list_any is_quote raw ≡ false → is_name (unescaped raw) ≡ true → token_at p (34 ∷ (raw ++ 34 ∷ 58 ∷ after)) ≡ Ok (Label (unescaped raw), length raw + 2 + 1)
unfolding after_string
read_quoted_label p raw after h name = by_string p raw (58 ∷ after) h ∙ rw (past_string raw (58 ∷ after), name) refl

read_cstring : (p : Place) (raw after : List ℕ) → list_any is_quote raw ≡ false → token_at p (99 ∷ 34 ∷ (raw ++ 34 ∷ after)) ≡ Ok (CStr (unescaped raw), length raw + 2 + 1)
unfolding run_case cstring_token
read_cstring p raw after h =
    by_run p (99 ∷ []) (34 ∷ (raw ++ 34 ∷ after)) (omega arith, refl) refl ∙ ap (λ (r : Result (List ℕ × ℕ) LexFault). and_then r (λ s. Ok (CStr s.0, s.1 + 1))) (read_string (next_place p 99) raw after h)

-- names
not_quote : (c : ℕ) → is_run_byte c ≡ true → (c == 34) ≡ false
not_quote c h = grind (arith, nat_tests)

no_quote : (run after : List ℕ) → IsRun run → begins_with 34 (run ++ after) ≡ false
no_quote [] after run = let k = run.0 in absurd (omega arith)
no_quote (c ∷ cs) after run = not_quote c (both (is_run_byte c) (list_all is_run_byte cs) run.1).0

name_case : Place → ℕ → List ℕ → List ℕ → Result (List ℕ × ℕ) LexFault
name_case p b bs run =
    if begins_with 34 bs then and_then (string_at (next_place p b) bs) (λ s. if is_name s.0 then Ok (s.0, s.1 + 1) else Err (BadByte p b))
    else (if nat_lt 0 (length run) then Ok (run, length run + 1)
    else Err (BadByte p b))

by_name : (p : Place) (b : ℕ) (bs run : List ℕ) → run_of bs ≡ run → name_after p b bs ≡ name_case p b bs run
unfolding name_after name_case
by_name p b bs run e = rw (← e) refl

quoted_name : (p : Place) (b : ℕ) (raw after : List ℕ) → list_any is_quote raw ≡ false → is_name (unescaped raw) ≡ true → name_after p b (34 ∷ (raw ++ 34 ∷ after)) ≡ Ok (unescaped raw, length raw + 2 + 1)
unfolding name_after
quoted_name p b raw after h name =
    ap (λ (r : Result (List ℕ × ℕ) LexFault). and_then r (λ s. if is_name s.0 then Ok (s.0, s.1 + 1) else Err (BadByte p b))) (read_string (next_place p b) raw after h) ∙ rw name refl

same_name : (p : Place) (b : ℕ) (x y s t : List ℕ) (n m : ℕ) → x ≡ y → s ≡ t → n ≡ m → name_after p b x ≡ Ok (s, n) → name_after p b y ≡ Ok (t, m)
same_name p b x y s t n m e f g h = cc

said_name : (name raw : List ℕ) → name ≡ unescaped raw → is_name name ≡ true → is_name (unescaped raw) ≡ true
said_name name raw e h = rw (← e) h

quotes_text : (form raw after : List ℕ) → form ≡ 34 ∷ (raw ++ 34 ∷ []) → 34 ∷ (raw ++ 34 ∷ after) ≡ form ++ after
quotes_text form raw after e = sym (ap (λ (x : List ℕ). x ++ after) e ∙ in_quotes raw after)

form_len : (form raw : List ℕ) → form ≡ 34 ∷ (raw ++ 34 ∷ []) → length raw + 2 ≡ length form
form_len form raw e = sym (ap length e ∙ quotes_len raw)

read_name : (p : Place) (b : ℕ) (name form after : List ℕ) → Names name form → begins_run after ≡ false → name_after p b (form ++ after) ≡ Ok (name, length form + 1)
unfolding name_case name_after
read_name p b name form after (inl h) free =
    by_name p b (form ++ after) form (run_is form after h.0.1 free) ∙ (rw (no_quote form after h.0, lt_true 0 (length form) h.0.0) refl ∙ ap (λ (x : List ℕ). Ok (x, length form + 1)) (sym h.1))
read_name p b name form after (inr h) free =
    let raw = h.0.0 in
    same_name p b (34 ∷ (raw ++ 34 ∷ after)) (form ++ after) (unescaped raw) name (length raw + 2 + 1) (length form + 1) (quotes_text form raw after h.0.1) (sym h.0.3) (ap (λ (n : ℕ). n + 1) (form_len form raw h.0.1)) (quoted_name p b raw after h.0.2 (said_name name raw h.0.3 h.1))

-- the same answer of the same text
told : (p : Place) (x y : List ℕ) (t u : Token) (n m : ℕ) → x ≡ y → t ≡ u → n ≡ m → token_at p x ≡ Ok (t, n) → token_at p y ≡ Ok (u, m)
told p x y t u n m e f g h = cc

read_local : (p : Place) (name form after : List ℕ) → Names name form → begins_run after ≡ false → token_at p (37 ∷ (form ++ after)) ≡ Ok (Local name, length form + 1)
unfolding token_at
read_local p name form after h free = ap (λ (r : Result (List ℕ × ℕ) LexFault). and_then r (λ n. Ok (Local n.0, n.1))) (read_name p 37 name form after h free)

read_global : (p : Place) (name form after : List ℕ) → Names name form → begins_run after ≡ false → token_at p (64 ∷ (form ++ after)) ≡ Ok (Global name, length form + 1)
unfolding token_at
read_global p name form after h free = ap (λ (r : Result (List ℕ × ℕ) LexFault). and_then r (λ n. Ok (Global n.0, n.1))) (read_name p 64 name form after h free)

mark_case : Place → ℕ → List ℕ → Found
mark_case p b run =
    if (b == 33) && nat_lt 0 (length run) then Ok (Meta run, length run + 1)
    else (if (b == 35) && nat_lt 0 (length run) then Ok (Hash run, length run + 1)
    else (if is_sign b then Ok (Sign b, 1)
    else Err (BadByte p b)))

by_mark_33 : (p : Place) (bs run : List ℕ) → run_of bs ≡ run → token_at p (33 ∷ bs) ≡ mark_case p 33 run
unfolding token_at mark_case
by_mark_33 p bs run e = rw (← e) refl

by_mark_35 : (p : Place) (bs run : List ℕ) → run_of bs ≡ run → token_at p (35 ∷ bs) ≡ mark_case p 35 run
unfolding token_at mark_case
by_mark_35 p bs run e = rw (← e) refl

read_meta : (p : Place) (name after : List ℕ) → IsRun name → begins_run after ≡ false → token_at p (33 ∷ (name ++ after)) ≡ Ok (Meta name, length name + 1)
unfolding mark_case
read_meta p name after h free = by_mark_33 p (name ++ after) name (run_is name after h.1 free) ∙ rw (lt_true 0 (length name) h.0) refl

read_hash : (p : Place) (name after : List ℕ) → IsRun name → begins_run after ≡ false → token_at p (35 ∷ (name ++ after)) ≡ Ok (Hash name, length name + 1)
unfolding mark_case
read_hash p name after h free = by_mark_35 p (name ++ after) name (run_is name after h.1 free) ∙ rw (lt_true 0 (length name) h.0) refl

-- a sign begins nothing else
sign_run : (b : ℕ) → is_sign b ≡ true → is_run_byte b ≡ false
sign_run b h = grind (arith, nat_tests)

sign_34 : (b : ℕ) → is_sign b ≡ true → (b == 34) ≡ false
sign_34 b h = grind (arith, nat_tests)

sign_37 : (b : ℕ) → is_sign b ≡ true → (b == 37) ≡ false
sign_37 b h = grind (arith, nat_tests)

sign_64 : (b : ℕ) → is_sign b ≡ true → (b == 64) ≡ false
sign_64 b h = grind (arith, nat_tests)

no_run : (after : List ℕ) → begins_run after ≡ false → nat_lt 0 (length (run_of after)) ≡ false
no_run after free = ap (λ (x : List ℕ). nat_lt 0 (length x)) (run_is [] after refl free)

read_sign : (p : Place) (b : ℕ) (after : List ℕ) → is_sign b ≡ true → begins_run after ≡ false → token_at p (b ∷ after) ≡ Ok (Sign b, 1)
unfolding token_at
read_sign p b after h free =
    rw (sign_run b h, sign_34 b h, sign_37 b h, sign_64 b h, and_false (b == 33) (nat_lt 0 (length (run_of after))) (no_run after free), and_false (b == 35) (nat_lt 0 (length (run_of after))) (no_run after free), h) refl

read_label_form : (p : Place) (name form after : List ℕ) → Names name form → token_at p ((form ++ 58 ∷ []) ++ after) ≡ Ok (Label name, length (form ++ 58 ∷ []))
read_label_form p name form after (inl h) =
    told p (form ++ 58 ∷ after) ((form ++ 58 ∷ []) ++ after) (Label form) (Label name) (length form + 1) (length (form ++ 58 ∷ [])) (sym (append_assoc form (58 ∷ []) after)) (ap Label (sym h.1)) (sym (length-append form (58 ∷ []))) (read_label p form after h.0)
read_label_form p name form after (inr h) =
    let raw = h.0.0 in
    let text : 34 ∷ (raw ++ 34 ∷ 58 ∷ after) ≡ (form ++ 58 ∷ []) ++ after = quotes_text form raw (58 ∷ after) h.0.1 ∙ sym (append_assoc form (58 ∷ []) after) in
    let size : length raw + 2 + 1 ≡ length (form ++ 58 ∷ []) = ap (λ (n : ℕ). n + 1) (form_len form raw h.0.1) ∙ sym (length-append form (58 ∷ [])) in
    told p (34 ∷ (raw ++ 34 ∷ 58 ∷ after)) ((form ++ 58 ∷ []) ++ after) (Label (unescaped raw)) (Label name) (length raw + 2 + 1) (length (form ++ 58 ∷ [])) text (ap Label (sym h.0.3)) size (read_quoted_label p raw after h.0.2 (said_name name raw h.0.3 h.1))

-- a byte before a form
before : (p : Place) (k : ℕ) (bs form after : List ℕ) (t : Token) → bs ≡ k ∷ form → token_at p (k ∷ (form ++ after)) ≡ Ok (t, length form + 1) → token_at p (bs ++ after) ≡ Ok (t, length bs)
before p k bs form after t e h =
    let size : length form + 1 ≡ length bs = sym (ap length e ∙ size_more k form) in
    told p (k ∷ (form ++ after)) (bs ++ after) t t (length form + 1) (length bs) (sym (ap (λ (x : List ℕ). x ++ after) e)) refl size h
  where
    size_more : (k : ℕ) (form : List ℕ) → suc (length form) ≡ length form + 1
    size_more k form = omega arith

pub read_back : (p : Place) (t : Token) (bs after : List ℕ) → Spells t bs → is_end t ≡ false → continues after ≡ false → token_at p (bs ++ after) ≡ Ok (t, length bs)
read_back p (Int n) bs after h more free = read_int p bs after h.0 h.1 h.2 free ∙ ap (λ (x : ℤ). Ok (Int x, length bs)) (sym h.3)
read_back p (Word w) bs after h more free = read_word p bs after h.0 h.1 free ∙ ap (λ (x : List ℕ). Ok (Word x, length bs)) (sym h.2)
read_back p (Label name) bs after h more free = rw h.1 (read_label_form p name h.0 after h.2)
read_back p (Local name) bs after h more free = before p 37 bs h.0 after (Local name) h.1 (read_local p name h.0 after h.2 (free_run after free))
read_back p (Global name) bs after h more free = before p 64 bs h.0 after (Global name) h.1 (read_global p name h.0 after h.2 (free_run after free))
read_back p (Str said) bs after h more free =
    told p (34 ∷ (h.0 ++ 34 ∷ after)) (bs ++ after) (Str (unescaped h.0)) (Str said) (length h.0 + 2) (length bs) (quotes_text bs h.0 after h.1) (ap Str (sym h.3)) (form_len bs h.0 h.1) (read_str p h.0 after h.2 (free_colon after free))
read_back p (CStr said) bs after h more free =
    let raw = h.2.0 in
    before p 99 bs h.0 after (CStr said) h.1
    (told p (99 ∷ 34 ∷ (raw ++ 34 ∷ after)) (99 ∷ (h.0 ++ after)) (CStr (unescaped raw)) (CStr said) (length raw + 2 + 1) (length h.0 + 1) (ap (λ (x : List ℕ). 99 ∷ x) (quotes_text h.0 raw after h.2.1)) (ap CStr (sym h.2.3)) (ap (λ (n : ℕ). n + 1) (form_len h.0 raw h.2.1)) (read_cstring p raw after h.2.2))
read_back p (Meta name) bs after h more free = before p 33 bs name after (Meta name) h.0 (read_meta p name after h.1 (free_run after free))
read_back p (Hash name) bs after h more free = before p 35 bs name after (Hash name) h.0 (read_hash p name after h.1 (free_run after free))
read_back p (Sign b) bs after h more free = rw h.0 (read_sign p b after h.1 (free_run after free))
read_back p End bs after h more free = cc
