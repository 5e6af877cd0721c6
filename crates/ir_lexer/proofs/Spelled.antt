-- What a token takes is a form of it.
use Rattle.std.proofs.Common.{◌≡◌, ℕ, suc, ◌+◌, ◌<◌, ◌≤◌, Bool, true, false, ◌==◌, ◌&&◌, not, cond, nat_lt, nat_le, List, [], ◌∷◌, ◌++◌, length, take, drop, get_or, if◌then◌else◌, Option, Some, None, Result, Ok, Err, inl, inr, refl, sym, ap, ◌∙◌, subst, arith, add-one}
use Rattle.std.specs.Prelude.{position}
use Rattle.std.specs.List.{list_any, position_or_len}
use Rattle.std.specs.Str.Parse.{signed_digits_value}
use Rattle.std.proofs.lemmas.Bool.{eqb-true}
use Rattle.std.proofs.lemmas.Bool.Decides.{nat_tests}
use Rattle.oi_base.specs.declared.ids.Place.{Place}
use Rattle.ir_lexer.specs.declared.fault.LexFault.{LexFault}
use Rattle.ir_lexer.specs.declared.fault.LexFault.TheVariants.{BadByte, LongNumber}
use Rattle.ir_lexer.specs.declared.table.Token.{Token}
use Rattle.ir_lexer.specs.declared.table.Token.TheVariants.{Int, Word, Label, Local, Global, Str, CStr, Meta, Hash, Sign}
use Rattle.ir_lexer.specs.Alphabet.{is_run_byte, is_sign, begins_with, run_of, without_minus, is_int}
use Rattle.ir_lexer.specs.Places.{next_place}
use Rattle.ir_lexer.specs.Strings.{unescaped, string_up_to, string_at, is_name}
use Rattle.ir_lexer.specs.Table.{Found, and_then, is_c, int_token, cstring_token, run_token, string_token, name_after, token_at}
use Rattle.ir_lexer.specs.Spellings.{IsRun, Quotes, Names, Spells}
use Rattle.ir_lexer.proofs.Starts.{both, begins, all_run, run_front, run_within, front_more}

-- the bytes that a token takes are a form of it
abbrev pub Good : List ℕ → Found → Type 0
Good bs (Ok t) = Spells t.0 (take t.1 bs) × (t.1 ≤ length bs)
Good bs (Err e) = Unit {0}

chosen : {A : Type 0} (P : A → Type 0) (t : Bool) (x y : A) → (t ≡ true → P x) → (t ≡ false → P y) → P (if t then x else y)
chosen P true x y p q = p refl
chosen P false x y p q = q refl

chained : {A B : Type 0} (P : Result B LexFault → Type 0) (r : Result A LexFault) (f : A → Result B LexFault) → ((e : LexFault) → P (Err e)) → ((a : A) → r ≡ Ok a → P (f a)) → P (and_then r f)
chained P (Ok a) f g h = h a refl
chained P (Err e) f g h = g e

no_token : (bs : List ℕ) (e : LexFault) → Good bs (Err e)
no_token bs e = tt

-- the next quote
found_at : (t : Bool) (k n : ℕ) → cond t (Some k) None ≡ Some n → (t ≡ true) × (k ≡ n)
found_at true k n e = (refl, cc)
found_at false k n e = (cc, cc)

abbrev is_quote : ℕ → Bool
is_quote b = b == 34

abbrev Closes : ℕ → List ℕ → Type 0
Closes n cs = (begins_with 34 (drop n cs) ≡ true) × (list_any is_quote (take n cs) ≡ false)

by_first : (t : Bool) (c : ℕ) (cs : List ℕ) → (c == 34) ≡ t → cond (not t) (1 + position_or_len is_quote cs) 0 < suc (length cs) → (position_or_len is_quote cs < length cs → Closes (position_or_len is_quote cs) cs) → Closes (cond (not t) (1 + position_or_len is_quote cs) 0) (c ∷ cs)
by_first true c cs e lt rest = (e, refl)
by_first false c cs e lt rest =
    let k = rest (omega arith) in
    let one : 1 + position_or_len is_quote cs ≡ suc (position_or_len is_quote cs) = omega arith in
    subst (λ (n : ℕ). Closes n (c ∷ cs)) (sym one) (k.0, rw e k.1)

closes : (cs : List ℕ) → position_or_len is_quote cs < length cs → Closes (position_or_len is_quote cs) cs
closes [] lt = absurd (omega arith)
closes (c ∷ cs) lt = by_first (c == 34) c cs refl lt (closes cs)

less : (m n : ℕ) → nat_lt m n ≡ true → m < n
less m n h = grind (arith, nat_tests)

at_most : (m n : ℕ) → nat_le m n ≡ true → m ≤ n
at_most m n h = grind (arith, nat_tests)

closing : (cs : List ℕ) (n : ℕ) → position is_quote cs ≡ Some n → Closes n cs
closing cs n e =
    let k = found_at (nat_lt (position_or_len is_quote cs) (length cs)) (position_or_len is_quote cs) n e in
    subst (λ (m : ℕ). Closes m cs) k.1 (closes cs (less (position_or_len is_quote cs) (length cs) k.0))

-- a string takes its quotes and what is between them
abbrev Quoted : List ℕ → List ℕ × ℕ → Type 0
Quoted bs s = Quotes s.0 (take s.1 bs) × (s.1 ≤ length bs) × (0 < s.1)

abbrev said_or : List ℕ × ℕ → Result (List ℕ × ℕ) LexFault → List ℕ × ℕ
said_or d (Ok s) = s
said_or d (Err e) = d

by_position : (p : Place) (b : ℕ) (cs : List ℕ) (o : Option ℕ) (s : List ℕ × ℕ) → b ≡ 34 → position is_quote cs ≡ o → string_up_to p (b ∷ cs) o ≡ Ok s → Quoted (b ∷ cs) s
by_position p b cs None s quote at e = cc
by_position p b cs (Some n) s quote at e =
    let same : (unescaped (take n cs), n + 2) ≡ s = ap (said_or s) e in
    let k = closing cs n at in
    let more = front_more cs n 34 k.0 in
    let two : n + 2 ≡ suc (n + 1) = omega arith in
    let whole : take (n + 2) (b ∷ cs) ≡ 34 ∷ (take n cs ++ 34 ∷ []) = rw (two, quote) (ap (λ (x : List ℕ). 34 ∷ x) more.0) in
    let le = more.1 in
    subst (Quoted (b ∷ cs)) same ((take n cs, whole, k.1, refl), omega arith, omega arith)

quoted : (p : Place) (b : ℕ) (cs : List ℕ) (s : List ℕ × ℕ) → b ≡ 34 → string_at p (b ∷ cs) ≡ Ok s → Quoted (b ∷ cs) s
quoted p b cs s quote e = by_position p b cs (position is_quote cs) s quote refl e

-- the same of a text that begins with a quote
quoted_text : (p : Place) (bs : List ℕ) (s : List ℕ × ℕ) → begins_with 34 bs ≡ true → string_at p bs ≡ Ok s → Quoted bs s
quoted_text p [] s quote e = cc
quoted_text p (b ∷ cs) s quote e = quoted p b cs s (eqb-true b 34 quote) e

-- the tokens of a run
run_good : (bs : List ℕ) → 0 < length (run_of bs) → IsRun (run_of bs)
run_good bs some = (some, all_run bs)

with_run : (bs : List ℕ) (t : Token) → Spells t (run_of bs) → Good bs (Ok (t, length (run_of bs)))
with_run bs t h = (subst (Spells t) (sym (run_front bs)) h, run_within bs)

good_int : (p : Place) (bs : List ℕ) → IsRun (run_of bs) → is_int (run_of bs) ≡ true → Good bs (int_token p (run_of bs))
unfolding int_token
good_int p bs run int =
    chosen (Good bs) (nat_le (length (without_minus (run_of bs))) 30) (Ok (Int (signed_digits_value 10 (run_of bs)), length (run_of bs))) (Err (LongNumber p))
    (λ short. with_run bs (Int (signed_digits_value 10 (run_of bs))) (run, int, at_most (length (without_minus (run_of bs))) 30 short, refl)) (λ _. tt)

good_label : (bs : List ℕ) → IsRun (run_of bs) → begins_with 58 (drop (length (run_of bs)) bs) ≡ true → Good bs (Ok (Label (run_of bs), length (run_of bs) + 1))
good_label bs run colon =
    let k = front_more bs (length (run_of bs)) 58 colon in
    ((run_of bs, k.0 ∙ ap (λ (x : List ℕ). x ++ 58 ∷ []) (run_front bs), inl (run, refl)), k.1)

good_c : (p : Place) (cs : List ℕ) → begins_with 34 cs ≡ true → Good (99 ∷ cs) (cstring_token p (99 ∷ cs))
unfolding cstring_token
good_c p cs quote =
    chained (Good (99 ∷ cs)) (string_at (next_place p 99) cs) (λ s. Ok (CStr s.0, s.1 + 1)) (no_token (99 ∷ cs)) (λ s e.
    let q = quoted_text (next_place p 99) cs s quote e in
    let le = q.1 in
    let whole : take (s.1 + 1) (99 ∷ cs) ≡ 99 ∷ take s.1 cs = rw add-one refl in
    ((take s.1 cs, whole, q.0), omega arith))

-- a text whose run is `c`
first_c : (bs run : List ℕ) → is_c run ≡ true → take (length run) bs ≡ run → (cs : List ℕ) × (bs ≡ 99 ∷ cs) × (drop (length run) bs ≡ cs)
first_c bs [] c front = cc
first_c [] (r ∷ rs) c front = cc
first_c (b ∷ cs) (r ∷ rs) c front =
    let k = both (r == 99) (length rs == 0) c in
    let none : length rs ≡ 0 = eqb-true (length rs) 0 k.1 in
    let first : b ≡ r = ap (λ (x : List ℕ). get_or x 0 0) front in
    (cs, ap (λ (x : ℕ). x ∷ cs) (first ∙ eqb-true r 99 k.0), rw none refl)

good_cstring : (p : Place) (bs : List ℕ) → (is_c (run_of bs) && begins_with 34 (drop (length (run_of bs)) bs)) ≡ true → Good bs (cstring_token p bs)
good_cstring p bs h =
    let k = both (is_c (run_of bs)) (begins_with 34 (drop (length (run_of bs)) bs)) h in
    let f = first_c bs (run_of bs) k.0 (run_front bs) in
    subst (λ (x : List ℕ). Good x (cstring_token p x)) (sym f.1) (good_c p f.0 (subst (λ (x : List ℕ). begins_with 34 x ≡ true) f.2 k.1))

good_run : (p : Place) (bs : List ℕ) → IsRun (run_of bs) → Good bs (run_token p bs)
unfolding run_token
good_run p bs run =
    let after = drop (length (run_of bs)) bs in
    chosen (Good bs) (begins_with 58 after) (Ok (Label (run_of bs), length (run_of bs) + 1)) _ (λ colon. good_label bs run colon) (λ _.
    chosen (Good bs) (is_c (run_of bs) && begins_with 34 after) (cstring_token p bs) _ (λ c. good_cstring p bs c) (λ _.
    chosen (Good bs) (is_int (run_of bs)) (int_token p (run_of bs)) (Ok (Word (run_of bs), length (run_of bs))) (λ int. good_int p bs run int) (λ word. with_run bs (Word (run_of bs)) (run, word, refl))))

good_string : (p : Place) (bs : List ℕ) → begins_with 34 bs ≡ true → Good bs (string_token p bs)
unfolding string_token
good_string p bs quote =
    chained (Good bs) (string_at p bs) _ (no_token bs) (λ s e.
    let q = quoted_text p bs s quote e in
    chosen (Good bs) (begins_with 58 (drop s.1 bs)) (if is_name s.0 then Ok (Label s.0, s.1 + 1) else Err (BadByte p 34)) (Ok (Str s.0, s.1))
    (λ colon. chosen (Good bs) (is_name s.0) (Ok (Label s.0, s.1 + 1)) (Err (BadByte p 34)) (λ name. let k = front_more bs s.1 58 colon in ((take s.1 bs, k.0, inr (q.0, name)), k.1)) (λ _. tt))
    (λ _. (q.0, q.1)))

-- a name and the byte before it
abbrev GoodName : ℕ → List ℕ → Result (List ℕ × ℕ) LexFault → Type 0
GoodName b bs (Ok n) = ((form : List ℕ) × (take n.1 (b ∷ bs) ≡ b ∷ form) × Names n.0 form) × (n.1 ≤ length (b ∷ bs))
GoodName b bs (Err e) = Unit {0}

no_name : (b : ℕ) (bs : List ℕ) (e : LexFault) → GoodName b bs (Err e)
no_name b bs e = tt

one_before : (b n : ℕ) (bs : List ℕ) → take (n + 1) (b ∷ bs) ≡ b ∷ take n bs
one_before b n bs = rw add-one refl

good_name : (p : Place) (b : ℕ) (bs : List ℕ) → GoodName b bs (name_after p b bs)
unfolding name_after
good_name p b bs =
    chosen (GoodName b bs) (begins_with 34 bs) _ _
    (λ quote. chained (GoodName b bs) (string_at (next_place p b) bs) (λ s. if is_name s.0 then Ok (s.0, s.1 + 1) else Err (BadByte p b)) (no_name b bs) (λ s e.
    let q = quoted_text (next_place p b) bs s quote e in
    let le = q.1 in
    chosen (GoodName b bs) (is_name s.0) (Ok (s.0, s.1 + 1)) (Err (BadByte p b)) (λ name. ((take s.1 bs, one_before b s.1 bs, inr (q.0, name)), omega arith)) (λ _. tt)))
    (λ _. chosen (GoodName b bs) (nat_lt 0 (length (run_of bs))) (Ok (run_of bs, length (run_of bs) + 1)) (Err (BadByte p b))
    (λ some.
    let le = run_within bs in
    ((run_of bs, one_before b (length (run_of bs)) bs ∙ ap (λ (x : List ℕ). b ∷ x) (run_front bs), inl (run_good bs (less 0 (length (run_of bs)) some), refl)), omega arith))
    (λ _. tt))

-- a sign and a run
good_mark : (b k : ℕ) (bs : List ℕ) → (b ≡ k) → 0 < length (run_of bs) → ((take (length (run_of bs) + 1) (b ∷ bs) ≡ k ∷ run_of bs) × IsRun (run_of bs)) × (length (run_of bs) + 1 ≤ length (b ∷ bs))
good_mark b k bs e some =
    let le = run_within bs in
    ((one_before b (length (run_of bs)) bs ∙ (ap (λ (x : List ℕ). b ∷ x) (run_front bs) ∙ ap (λ (x : ℕ). x ∷ run_of bs) e), run_good bs some), omega arith)

with_name : (k b : ℕ) (bs : List ℕ) (n : List ℕ × ℕ) → b ≡ k → GoodName b bs (Ok n) → ((form : List ℕ) × (take n.1 (b ∷ bs) ≡ k ∷ form) × Names n.0 form) × (n.1 ≤ length (b ∷ bs))
with_name k b bs n e h = ((h.0.0, h.0.1 ∙ ap (λ (x : ℕ). x ∷ h.0.0) e, h.0.2), h.1)

good : (p : Place) (bs : List ℕ) → Good bs (token_at p bs)
unfolding token_at
good p [] = (refl, omega arith)
good p (b ∷ bs) =
    let run = run_of bs in
    chosen (Good (b ∷ bs)) (is_run_byte b) (run_token p (b ∷ bs)) _ (λ h. good_run p (b ∷ bs) (run_good (b ∷ bs) (begins b bs h))) (λ _.
    chosen (Good (b ∷ bs)) (b == 34) (string_token p (b ∷ bs)) _ (λ h. good_string p (b ∷ bs) h) (λ _.
    chosen (Good (b ∷ bs)) (b == 37) (and_then (name_after p b bs) (λ n. Ok (Local n.0, n.1))) _
    (λ h. chained (Good (b ∷ bs)) (name_after p b bs) (λ n. Ok (Local n.0, n.1)) (no_token (b ∷ bs)) (λ n e. with_name 37 b bs n (eqb-true b 37 h) (subst (GoodName b bs) e (good_name p b bs)))) (λ _.
    chosen (Good (b ∷ bs)) (b == 64) (and_then (name_after p b bs) (λ n. Ok (Global n.0, n.1))) _
    (λ h. chained (Good (b ∷ bs)) (name_after p b bs) (λ n. Ok (Global n.0, n.1)) (no_token (b ∷ bs)) (λ n e. with_name 64 b bs n (eqb-true b 64 h) (subst (GoodName b bs) e (good_name p b bs)))) (λ _.
    chosen (Good (b ∷ bs)) ((b == 33) && nat_lt 0 (length run)) (Ok (Meta run, length run + 1)) _
    (λ h. let k = both (b == 33) (nat_lt 0 (length run)) h in good_mark b 33 bs (eqb-true b 33 k.0) (less 0 (length run) k.1)) (λ _.
    chosen (Good (b ∷ bs)) ((b == 35) && nat_lt 0 (length run)) (Ok (Hash run, length run + 1)) _
    (λ h. let k = both (b == 35) (nat_lt 0 (length run)) h in good_mark b 35 bs (eqb-true b 35 k.0) (less 0 (length run) k.1)) (λ _.
    chosen (Good (b ∷ bs)) (is_sign b) (Ok (Sign b, 1)) (Err (BadByte p b)) (λ h. ((refl, h), omega arith)) (λ _. tt)))))))

pub spelled : (p : Place) (bs : List ℕ) (t : Token) (n : ℕ) → token_at p bs ≡ Ok (t, n) → Spells t (take n bs) × (n ≤ length bs)
spelled p bs t n e = subst (Good bs) e (good p bs)
