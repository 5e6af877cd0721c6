-- Every token but the end takes a byte or more, and the end stands only where no byte is left.
use Rattle.std.proofs.Common.{◌≡◌, ℕ, ◌+◌, ◌<◌, Bool, true, false, ◌==◌, nat_lt, nat_le, ◌&&◌, List, ◌∷◌, length, drop, if◌then◌else◌, Option, Some, None, Result, Ok, Err, refl, arith}
use Rattle.std.specs.Prelude.{position}
use Rattle.ir_lexer.proofs.Starts.{begins}
use Rattle.std.specs.Str.Parse.{signed_digits_value}
use Rattle.oi_base.specs.declared.ids.Place.{Place}
use Rattle.ir_lexer.specs.declared.fault.LexFault.{LexFault}
use Rattle.ir_lexer.specs.declared.fault.LexFault.TheVariants.{BadByte, LongNumber}
use Rattle.ir_lexer.specs.declared.table.Token.TheVariants.{Int, Label, Local, Global, CStr, Sign}
use Rattle.ir_lexer.specs.Alphabet.{is_run_byte, is_sign, begins_with, run_of, without_minus, is_int}
use Rattle.ir_lexer.specs.Places.{next_place}
use Rattle.ir_lexer.specs.Strings.{string_up_to, string_at, is_name}
use Rattle.ir_lexer.specs.Table.{Found, and_then, is_c, int_token, cstring_token, run_token, string_token, name_after, token_at}
use Rattle.ir_lexer.specs.Lexing.{is_end}

-- a token that is not the end, and takes a byte or more
abbrev pub Solid : Found → Type 0
Solid (Ok t) = (is_end t.0 ≡ false) × (0 < t.1)
Solid (Err e) = Unit {0}

abbrev Named : Result (List ℕ × ℕ) LexFault → Type 0
Named (Ok n) = 0 < n.1
Named (Err e) = Unit {0}

choice : (b : Bool) (x y : Found) → Solid x → Solid y → Solid (if b then x else y)
choice true x y p q = p
choice false x y p q = q

either_name : (b : Bool) (x y : Result (List ℕ × ℕ) LexFault) → Named x → Named y → Named (if b then x else y)
either_name true x y p q = p
either_name false x y p q = q

chained : {A : Type 0} (r : Result A LexFault) (f : A → Found) → ((a : A) → Solid (f a)) → Solid (and_then r f)
chained (Ok a) f h = h a
chained (Err e) f h = tt

chained_name : {A : Type 0} (r : Result A LexFault) (f : A → Result (List ℕ × ℕ) LexFault) → ((a : A) → Named (f a)) → Named (and_then r f)
chained_name (Ok a) f h = h a
chained_name (Err e) f h = tt

after_name : (r : Result (List ℕ × ℕ) LexFault) (f : (List ℕ × ℕ) → Found) → Named r → ((a : List ℕ × ℕ) → 0 < a.1 → Solid (f a)) → Solid (and_then r f)
after_name (Ok a) f n h = h a n
after_name (Err e) f n h = tt

solid_int : (p : Place) (run : List ℕ) → 0 < length run → Solid (int_token p run)
unfolding int_token
solid_int p run some = choice (nat_le (length (without_minus run)) 30) (Ok (Int (signed_digits_value 10 run), length run)) (Err (LongNumber p)) (refl, some) tt

solid_cstring : (p : Place) (bs : List ℕ) → Solid (cstring_token p bs)
unfolding cstring_token
solid_cstring p bs = chained (string_at (next_place p 99) (drop 1 bs)) (λ s. Ok (CStr s.0, s.1 + 1)) (λ s. (refl, omega arith))

solid_run : (p : Place) (bs : List ℕ) → 0 < length (run_of bs) → Solid (run_token p bs)
unfolding run_token
solid_run p bs some =
    let run = run_of bs in let after = drop (length run) bs in
    choice (begins_with 58 after) _ _ (refl, omega arith)
    (choice (is_c run && begins_with 34 after) _ _ (solid_cstring p bs)
    (choice (is_int run) _ _ (solid_int p run some) (refl, some)))

sized : (p : Place) (bs : List ℕ) (o : Option ℕ) → Named (string_up_to p bs o)
sized p bs None = tt
sized p bs (Some n) = omega arith

solid_string : (p : Place) (bs : List ℕ) → Solid (string_token p bs)
unfolding string_token
solid_string p bs =
    after_name (string_at p bs) _ (sized p bs (position (λ b. b == 34) (drop 1 bs))) (λ s some.
    choice (begins_with 58 (drop s.1 bs)) _ _ (choice (is_name s.0) (Ok (Label s.0, s.1 + 1)) (Err (BadByte p 34)) (refl, omega arith) tt) (refl, some))

named : (p : Place) (b : ℕ) (bs : List ℕ) → Named (name_after p b bs)
unfolding name_after
named p b bs =
    either_name (begins_with 34 bs) _ _
    (chained_name (string_at (next_place p b) bs) _ (λ s. either_name (is_name s.0) (Ok (s.0, s.1 + 1)) (Err (BadByte p b)) (omega arith) tt))
    (either_name (nat_lt 0 (length (run_of bs))) (Ok (run_of bs, length (run_of bs) + 1)) (Err (BadByte p b)) (omega arith) tt)

chosen : (t : Bool) (x y : Found) → (t ≡ true → Solid x) → Solid y → Solid (if t then x else y)
chosen true x y p q = p refl
chosen false x y p q = q

-- of a text that is not empty
pub solid : (p : Place) (b : ℕ) (bs : List ℕ) → Solid (token_at p (b ∷ bs))
unfolding token_at
solid p b bs =
    let run = run_of bs in
    chosen (is_run_byte b) _ _ (λ h. solid_run p (b ∷ bs) (begins b bs h))
    (choice (b == 34) _ _ (solid_string p (b ∷ bs))
    (choice (b == 37) _ _ (after_name (name_after p b bs) (λ n. Ok (Local n.0, n.1)) (named p b bs) (λ n some. (refl, some)))
    (choice (b == 64) _ _ (after_name (name_after p b bs) (λ n. Ok (Global n.0, n.1)) (named p b bs) (λ n some. (refl, some)))
    (choice ((b == 33) && nat_lt 0 (length run)) _ _ (refl, omega arith)
    (choice ((b == 35) && nat_lt 0 (length run)) _ _ (refl, omega arith)
    (choice (is_sign b) (Ok (Sign b, 1)) (Err (BadByte p b)) (refl, omega arith) tt))))))
