-- How a type is read, by the levels left.
use Rattle.std.proofs.Common.{◌≡◌, ℕ, ◌-◌, ◌<◌, zero, suc, Bool, true, false, refl, arith}
use Rattle.std.specs.Prelude.{Option}
use Rattle.ir_grammar.specs.declared.kinds.Kind.TheVariants as kinds
use Rattle.ir_grammar.specs.Sets.{head_in}
use Rattle.ir_grammar.specs.Forms.{Left, token}
use Rattle.ir_grammar.specs.Tokens.{sign, kind, words_of, one_word}
use Rattle.ir_grammar.specs.Types.{scalars, named, last_of, type_in, array, struct}

pub at_name : (void : Bool) (most : Option ℕ) (n : ℕ) (l : Left) → head_in (kind kinds.Local) l.tokens ≡ true → (type_in void most n).parse l ≡ named.parse l
unfolding type_in
at_name void most zero l h = rw h refl
at_name void most (suc n) l h = rw h refl

pub at_zero : (void : Bool) (most : Option ℕ) (n : ℕ) (l : Left) → head_in (kind kinds.Local) l.tokens ≡ false → n ≡ 0 → (type_in void most n).parse l ≡ (token (last_of void)).parse l
unfolding type_in
at_zero void most zero l h e = rw h refl
at_zero void most (suc n) l h e = absurd (omega arith)

pub at_word : (void : Bool) (most : Option ℕ) (n : ℕ) (l : Left) → head_in (kind kinds.Local) l.tokens ≡ false → 0 < n → head_in (words_of (scalars void)) l.tokens ≡ true → (type_in void most n).parse l ≡ (one_word (scalars void)).parse l
unfolding type_in
at_word void most zero l h e k = absurd (omega arith)
at_word void most (suc n) l h e k = rw (h, k) refl

pub at_array : (void : Bool) (most : Option ℕ) (n : ℕ) (l : Left) → head_in (kind kinds.Local) l.tokens ≡ false → 0 < n → head_in (words_of (scalars void)) l.tokens ≡ false → head_in (sign 91) l.tokens ≡ true → (type_in void most n).parse l ≡ (array most (type_in true most (n - 1))).parse l
unfolding type_in
at_array void most zero l h e k b = absurd (omega arith)
at_array void most (suc n) l h e k b = let p : suc n - 1 ≡ n = omega arith in rw (h, k, b, p) refl

pub at_struct : (void : Bool) (most : Option ℕ) (n : ℕ) (l : Left) → head_in (kind kinds.Local) l.tokens ≡ false → 0 < n → head_in (words_of (scalars void)) l.tokens ≡ false → head_in (sign 91) l.tokens ≡ false → (type_in void most n).parse l ≡ (struct (type_in true most (n - 1))).parse l
unfolding type_in
at_struct void most zero l h e k b = absurd (omega arith)
at_struct void most (suc n) l h e k b = let p : suc n - 1 ≡ n = omega arith in rw (h, k, b, p) refl
