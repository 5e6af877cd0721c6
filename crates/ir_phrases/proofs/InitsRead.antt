-- How an initialiser is read, by the levels left.
use Rattle.std.proofs.Common.{◌≡◌, ℕ, ◌-◌, ◌<◌, zero, suc, true, false, refl, arith}
use Rattle.std.specs.Prelude.{Option, codes}
use Rattle.ir_grammar.specs.declared.kinds.Kind.TheVariants as kinds
use Rattle.ir_grammar.specs.Sets.{head_in}
use Rattle.ir_grammar.specs.Forms.{Left, token}
use Rattle.ir_grammar.specs.Tokens.{sign, word, kind, one_word}
use Rattle.ir_grammar.specs.Values.{const_words, gep_word, gep, address, integer, zero_init, bytes, last_const_of, typed_init, array_init, struct_init, init_at}

pub at_address : (most : Option ℕ) (n : ℕ) (l : Left) → head_in (kind kinds.Global) l.tokens ≡ true → (init_at most n).parse l ≡ address.parse l
unfolding init_at
at_address most zero l h = rw h refl
at_address most (suc n) l h = rw h refl

pub at_gep : (most : Option ℕ) (n : ℕ) (l : Left) → head_in (kind kinds.Global) l.tokens ≡ false → head_in gep_word l.tokens ≡ true → (init_at most n).parse l ≡ (gep most n).parse l
unfolding init_at
at_gep most zero l h k = rw (h, k) refl
at_gep most (suc n) l h k = rw (h, k) refl

pub at_integer : (most : Option ℕ) (n : ℕ) (l : Left) → head_in (kind kinds.Global) l.tokens ≡ false → head_in gep_word l.tokens ≡ false → head_in (kind kinds.Int) l.tokens ≡ true → (init_at most n).parse l ≡ integer.parse l
unfolding init_at
at_integer most zero l h k i = rw (h, k, i) refl
at_integer most (suc n) l h k i = rw (h, k, i) refl

abbrev pub NoValue : Left → Type 0
NoValue l = (head_in (kind kinds.Global) l.tokens ≡ false) × (head_in gep_word l.tokens ≡ false) × (head_in (kind kinds.Int) l.tokens ≡ false)

pub at_zero : (most : Option ℕ) (n : ℕ) (l : Left) → NoValue l → head_in (word (codes "zeroinitializer")) l.tokens ≡ true → (init_at most n).parse l ≡ zero_init.parse l
unfolding init_at
at_zero most zero l h k = rw (h.0, h.1, h.2, k) refl
at_zero most (suc n) l h k = rw (h.0, h.1, h.2, k) refl

pub at_bytes : (most : Option ℕ) (n : ℕ) (l : Left) → NoValue l → head_in (word (codes "zeroinitializer")) l.tokens ≡ false → head_in (kind kinds.CStr) l.tokens ≡ true → (init_at most n).parse l ≡ bytes.parse l
unfolding init_at
at_bytes most zero l h k b = rw (h.0, h.1, h.2, k, b) refl
at_bytes most (suc n) l h k b = rw (h.0, h.1, h.2, k, b) refl

abbrev pub NoFlat : Left → Type 0
NoFlat l = NoValue l × (head_in (word (codes "zeroinitializer")) l.tokens ≡ false) × (head_in (kind kinds.CStr) l.tokens ≡ false)

pub at_last : (most : Option ℕ) (n : ℕ) (l : Left) → NoFlat l → n ≡ 0 → (init_at most n).parse l ≡ (token last_const_of).parse l
unfolding init_at
at_last most zero l h e = rw (h.0.0, h.0.1, h.0.2, h.1, h.2) refl
at_last most (suc n) l h e = absurd (omega arith)

pub at_array : (most : Option ℕ) (n : ℕ) (l : Left) → NoFlat l → 0 < n → head_in (sign 91) l.tokens ≡ true → (init_at most n).parse l ≡ (array_init (typed_init (init_at most (n - 1)) most (n - 1))).parse l
unfolding init_at
at_array most zero l h e b = absurd (omega arith)
at_array most (suc n) l h e b = let p : suc n - 1 ≡ n = omega arith in rw (h.0.0, h.0.1, h.0.2, h.1, h.2, b, p) refl

pub at_struct : (most : Option ℕ) (n : ℕ) (l : Left) → NoFlat l → 0 < n → head_in (sign 91) l.tokens ≡ false → head_in (sign 123) l.tokens ≡ true → (init_at most n).parse l ≡ (struct_init (typed_init (init_at most (n - 1)) most (n - 1))).parse l
unfolding init_at
at_struct most zero l h e b c = absurd (omega arith)
at_struct most (suc n) l h e b c = let p : suc n - 1 ≡ n = omega arith in rw (h.0.0, h.0.1, h.0.2, h.1, h.2, b, c, p) refl

pub at_word : (most : Option ℕ) (n : ℕ) (l : Left) → NoFlat l → 0 < n → head_in (sign 91) l.tokens ≡ false → head_in (sign 123) l.tokens ≡ false → (init_at most n).parse l ≡ (one_word const_words).parse l
unfolding init_at
at_word most zero l h e b c = absurd (omega arith)
at_word most (suc n) l h e b c = rw (h.0.0, h.0.1, h.0.2, h.1, h.2, b, c) refl
