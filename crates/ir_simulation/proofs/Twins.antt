-- Memories of which one has more blocks: each block of the other has its twin in it, and both may grow.
use Rattle.std.proofs.Common.{◌≡◌, ◌⊎◌, inl, inr, ⊎_elim, ℕ, zero, suc, ◌+◌, ◌<◌, true, false, List, [], ◌∷◌, ◌++◌, length, length-append, replicate, Some, slice_get, refl, sym, ap, ◌∙◌, subst, arith}
use Rattle.std.proofs.lemmas.Bool.{cases_lt}
use Rattle.ir_core.specs.Memory.{Value, Bits, At, NullPointer, Poisoned, Byte, Unset, PoisonByte, Octet, PartOf, Block, Memory, kill_all, fresh}
use Rattle.ir_simulation.proofs.Below.{Below, ByteBelow, BytesBelow, BlockBelow, MemoryBelow}
use Rattle.ir_simulation.proofs.Dead.{IsDead, IsOneOf}
use Rattle.ir_simulation.proofs.Kills.{live_before, kills_other, kills_dead, kills_long, get_end, get_more}

-- ---- more twins

module _ (T U : ℕ → ℕ → Type 0) (ext : (i c : ℕ) → T i c → U i c) where
  pub below_more : (v u : Value) → Below T v u → Below U v u
  below_more (Bits n) u h = h
  below_more (At b o) u h = (h.0, ext b h.0 h.1, h.2)
  below_more NullPointer u h = h
  below_more Poisoned u h = tt

  byte_more : (x y : Byte) → ByteBelow T x y → ByteBelow U x y
  byte_more Unset y h = tt
  byte_more PoisonByte y h = tt
  byte_more (Octet n) y h = h
  byte_more (PartOf b o k) y h = (h.0, ext b h.0 h.1, h.2)

  bytes_more : (xs ys : List Byte) → BytesBelow T xs ys → BytesBelow U xs ys
  bytes_more [] [] h = tt
  bytes_more [] (y ∷ ys) h = absurd h
  bytes_more (x ∷ xs) [] h = absurd h
  bytes_more (x ∷ xs) (y ∷ ys) h = (byte_more x y h.0, bytes_more xs ys h.1)

  block_more : (b c : Block) → BlockBelow T b c → BlockBelow U b c
  block_more b c h = record { live = h.live; align = h.align; constant = h.constant; long = h.long; bytes = bytes_more b.bytes c.bytes h.bytes }

pub record Twins (T : ℕ → ℕ → Type 0) (m n : Memory) : Type 0 where
  pub below : MemoryBelow T m n
  pub bounds : (i c : ℕ) → T i c → (i < length m) × (c < length n)

-- memories as long, of which the first has no more that is live, and the second keeps the twins of what is live
twins_changed : (T : ℕ → ℕ → Type 0) (m n m1 n1 : Memory) → Twins T m n → length m1 ≡ length m → length n1 ≡ length n → ((j c : ℕ) (b : Block) → T j c → slice_get m1 j ≡ Some b → b.live ≡ true → (slice_get m j ≡ Some b) × (slice_get n1 c ≡ slice_get n c)) → Twins T m1 n1
twins_changed T m n m1 n1 h lm ln k = record {
  below = record {
    one_twin = h.below.one_twin;
    one_source = h.below.one_source;
    twin = λ i c b t e live.
        let x = k i c b t e live in
        let d = h.below.twin i c b t x.0 live in
        (d.0, x.1 ∙ d.1, d.2);
  };
  bounds = λ i c t. let b = h.bounds i c t in let lt = b.0 in let lu = b.1 in (omega (arith, lt, lm), omega (arith, lu, ln));
}

not_live : (m : Memory) (i : ℕ) (b : Block) → IsDead m i → slice_get m i ≡ Some b → b.live ≡ true → ⊥
not_live m i b d e live =
    let both : Some d.block ≡ Some b = sym d.is ∙ e in
    let same : d.block ≡ b = cc in
    let no : false ≡ true = sym d.dead ∙ ap (λ (x : Block). x.live) same ∙ live in
    cc

-- what the second kills are twins of what the first kills
pub twins_killed : (T : ℕ → ℕ → Type 0) (m n : Memory) (is js : List ℕ) → Twins T m n → ((c : ℕ) → IsOneOf js c → (i : ℕ) × IsOneOf is i × T i c) → Twins T (kill_all m is) (kill_all n js)
twins_killed T m n is js h k = twins_changed T m n (kill_all m is) (kill_all n js) h (kills_long m is) (kills_long n js) (λ j c b t e live.
    let before = live_before m is j b e live in (
      before,
      kills_other n js c (λ one.
          let x = k c one in
          let same : x.0 ≡ j = h.below.one_source x.0 j c x.2 t in
          not_live (kill_all m is) j b (kills_dead m is j b before (subst (IsOneOf is) same x.1)) e live),
    ))

unset_below : (T : ℕ → ℕ → Type 0) (n : ℕ) → BytesBelow T (replicate n Unset) (replicate n Unset)
unset_below T zero = tt
unset_below T (suc n) = (tt, unset_below T n)

fresh_block : (T : ℕ → ℕ → Type 0) (size align : ℕ) → BlockBelow T (fresh size align) (fresh size align)
fresh_block T size align = record { live = refl; align = refl; constant = refl; long = refl; bytes = unset_below T size }

-- what stands in memory before one more
get_old : (m : Memory) (x b : Block) (j : ℕ) → j < length m → slice_get (m ++ x ∷ []) j ≡ Some b → slice_get m j ≡ Some b
get_old [] x b j lt e = absurd (omega (arith, lt))
get_old (y ∷ ys) x b zero lt e = e
get_old (y ∷ ys) x b (suc j) lt e = get_old ys x b j (omega (arith, lt)) e

longer : (m : Memory) (x : Block) → length (m ++ x ∷ []) ≡ length m + 1
longer m x = length-append m (x ∷ [])

-- a block that the first alone has
pub twins_alone : (T : ℕ → ℕ → Type 0) (m n : Memory) (x : Block) → Twins T m n → Twins T (m ++ x ∷ []) n
twins_alone T m n x h = record {
  below = record {
    one_twin = h.below.one_twin;
    one_source = h.below.one_source;
    twin = λ i c b t e live. h.below.twin i c b t (get_old m x b i (h.bounds i c t).0 e) live;
  };
  bounds = λ i c t. let b = h.bounds i c t in let lt = b.0 in let l = longer m x in (omega (arith, lt, l), b.1);
}

-- with one pair more
abbrev pub Grown : (ℕ → ℕ → Type 0) → ℕ → ℕ → ℕ → ℕ → Type 0
Grown T a b i c = ((i ≡ a) × (c ≡ b)) ⊎ T i c

pub twins_fresh : (T : ℕ → ℕ → Type 0) (m n : Memory) (size align : ℕ) → Twins T m n → Twins (Grown T (length m) (length n)) (m ++ fresh size align ∷ []) (n ++ fresh size align ∷ [])
twins_fresh T m n size align h = record {
  below = record { one_twin = one_twin; one_source = one_source; twin = twin };
  bounds = bounds;
}
  where
    one_twin : (i c d : ℕ) → Grown T (length m) (length n) i c → Grown T (length m) (length n) i d → c ≡ d
    one_twin i c d (inr s) (inr t) = h.below.one_twin i c d s t
    one_twin i c d (inr s) (inl t) = let lt = (h.bounds i c s).0 in let e = t.0 in absurd (omega (arith, lt, e))
    one_twin i c d (inl s) (inr t) = let lt = (h.bounds i d t).0 in let e = s.0 in absurd (omega (arith, lt, e))
    one_twin i c d (inl s) (inl t) = s.1 ∙ sym t.1

    one_source : (i j c : ℕ) → Grown T (length m) (length n) i c → Grown T (length m) (length n) j c → i ≡ j
    one_source i j c (inr s) (inr t) = h.below.one_source i j c s t
    one_source i j c (inr s) (inl t) = let lt = (h.bounds i c s).1 in let e = t.1 in absurd (omega (arith, lt, e))
    one_source i j c (inl s) (inr t) = let lt = (h.bounds j c t).1 in let e = s.1 in absurd (omega (arith, lt, e))
    one_source i j c (inl s) (inl t) = s.0 ∙ sym t.0

    twin : (i c : ℕ) (b : Block) → Grown T (length m) (length n) i c → slice_get (m ++ fresh size align ∷ []) i ≡ Some b → b.live ≡ true
        → (d : Block) × (slice_get (n ++ fresh size align ∷ []) c ≡ Some d) × BlockBelow (Grown T (length m) (length n)) b d
    twin i c b (inr t) e live =
        let d = h.below.twin i c b t (get_old m (fresh size align) b i (h.bounds i c t).0 e) live in
        (d.0, get_more n (fresh size align) d.0 c d.1, block_more T (Grown T (length m) (length n)) (λ i c t. inr t) b d.0 d.2)
    twin i c b (inl t) e live =
        let both : Some b ≡ Some (fresh size align) = sym e ∙ get_end m (fresh size align) i t.0 in
        let same : b ≡ fresh size align = cc in
        (fresh size align, get_end n (fresh size align) c t.1, subst (λ (x : Block). BlockBelow (Grown T (length m) (length n)) x (fresh size align)) (sym same) (fresh_block (Grown T (length m) (length n)) size align))

    bounds : (i c : ℕ) → Grown T (length m) (length n) i c → (i < length (m ++ fresh size align ∷ [])) × (c < length (n ++ fresh size align ∷ []))
    bounds i c (inr t) =
        let b = h.bounds i c t in
        let lt = b.0 in
        let lu = b.1 in
        let l = longer m (fresh size align) in
        let k = longer n (fresh size align) in
        (omega (arith, lt, l), omega (arith, lu, k))
    bounds i c (inl t) =
        let e = t.0 in
        let f = t.1 in
        let l = longer m (fresh size align) in
        let k = longer n (fresh size align) in
        (omega (arith, e, l), omega (arith, f, k))

-- twins by a list of pairs
abbrev pub Paired : List (ℕ × ℕ) → ℕ → ℕ → Type 0
Paired [] i c = ⊥
Paired (x ∷ xs) i c = ((i ≡ x.0) × (c ≡ x.1)) ⊎ Paired xs i c

-- each number below n with itself
abbrev pub diagonal : ℕ → List (ℕ × ℕ)
diagonal zero = []
diagonal (suc n) = (n, n) ∷ diagonal n

pub on_diagonal : (n i : ℕ) → i < n → Paired (diagonal n) i i
on_diagonal zero i lt = absurd (omega (arith, lt))
on_diagonal (suc n) i lt = ⊎_elim (λ less. inr (on_diagonal n i less)) (λ le. let same : i ≡ n = omega (arith, lt, le) in inl (same, same)) (cases_lt i n)
