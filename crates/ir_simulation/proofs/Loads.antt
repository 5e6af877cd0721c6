-- A load and a store respect what may stand for their operands, bytes and blocks.
use Rattle.std.proofs.Common.{◌≡◌, ◌≢◌, ◌⊎◌, ℕ, zero, suc, ◌+◌, ◌/◌, ◌%◌, refl, sym, ap, ap₂, ◌∙◌, subst, ⊎_elim, arith, Bool, true, false, not, ◌&&◌, nat_le, nat_eq, if◌then◌else◌, List, [], ◌∷◌, ◌++◌, take, drop, replicate, length, Option, Some, None, slice_get, slice_set}
use Rattle.std.proofs.lemmas.Bool.Decides.{nat_tests}
use Rattle.ir_core.specs.declared.flat.Scalar.{Scalar}
use Rattle.ir_core.specs.declared.flat.Scalar.TheVariants as scalar
use Rattle.oi_base.specs.Words.{modulus}
use Rattle.ir_core.specs.Memory.{Value, Bits, At, NullPointer, Poisoned, Byte, Unset, PoisonByte, Octet, PartOf, Block, Memory, scalar_size, octets, number, stored, are_parts, null_or_poison, pointer_of, loaded, is_within, load, load_from, written, store, store_to}
use Rattle.ir_core.specs.Rows.{is_of}
use Rattle.ir_simulation.proofs.Below.{Below, BytesBelow, BlockBelow, MemoryBelow, number_too, word_load}

pub get_set_other : (xs : List Block) (i j : ℕ) (v : Block) → j ≢ i → slice_get (slice_set xs i v) j ≡ slice_get xs j
get_set_other [] i j v h = refl
get_set_other (x ∷ xs) zero zero v h = absurd (h refl)
get_set_other (x ∷ xs) zero (suc j) v h = refl
get_set_other (x ∷ xs) (suc i) zero v h = refl
get_set_other (x ∷ xs) (suc i) (suc j) v h = get_set_other xs i j v (λ e. h (ap suc e))

pub get_set_same : (xs : List Block) (i : ℕ) (v b : Block) → slice_get (slice_set xs i v) i ≡ Some b → b ≡ v
get_set_same [] i v b e = let e' : None ≡ Some b = e in absurd (cc)
get_set_same (x ∷ xs) zero v b e = let e' : Some v ≡ Some b = e in cc
get_set_same (x ∷ xs) (suc i) v b e = get_set_same xs i v b e

pub get_set_there : (xs : List Block) (i : ℕ) (v b : Block) → slice_get xs i ≡ Some b → slice_get (slice_set xs i v) i ≡ Some v
get_set_there [] i v b e = let e' : None ≡ Some b = e in absurd (cc)
get_set_there (x ∷ xs) zero v b e = refl
get_set_there (x ∷ xs) (suc i) v b e = get_set_there xs i v b e

same_dec : (i j : ℕ) → (i ≡ j) ⊎ (i ≢ j)
same_dec i j = grind arith

-- a test that holds
holds : (a b c d : Bool) → (a && b && c && d) ≡ true → (a ≡ true) × (b ≡ true) × (c ≡ true) × (d ≡ true)
holds a b c d e = grind (arith, nat_tests)

all_hold : (a b c d : Bool) → a ≡ true → b ≡ true → c ≡ true → d ≡ true → (a && b && c && d) ≡ true
all_hold a b c d e f g h = grind (arith, nat_tests)

module _ (Twin : ℕ → ℕ → Type 0) where
  -- ---- lists of bytes

  take_below : (n : ℕ) (xs ys : List Byte) → BytesBelow Twin xs ys → BytesBelow Twin (take n xs) (take n ys)
  take_below zero xs ys h = tt
  take_below (suc n) [] [] h = tt
  take_below (suc n) (x ∷ xs) (y ∷ ys) h = (h.0, take_below n xs ys h.1)
  take_below (suc n) [] (y ∷ ys) h = absurd h
  take_below (suc n) (x ∷ xs) [] h = absurd h

  drop_below : (n : ℕ) (xs ys : List Byte) → BytesBelow Twin xs ys → BytesBelow Twin (drop n xs) (drop n ys)
  drop_below zero xs ys h = h
  drop_below (suc n) [] [] h = tt
  drop_below (suc n) (x ∷ xs) (y ∷ ys) h = drop_below n xs ys h.1
  drop_below (suc n) [] (y ∷ ys) h = absurd h
  drop_below (suc n) (x ∷ xs) [] h = absurd h

  append_below : (xs ys us vs : List Byte) → BytesBelow Twin xs ys → BytesBelow Twin us vs → BytesBelow Twin (xs ++ us) (ys ++ vs)
  append_below [] [] us vs h k = k
  append_below (x ∷ xs) (y ∷ ys) us vs h k = (h.0, append_below xs ys us vs h.1 k)
  append_below [] (y ∷ ys) us vs h k = absurd h
  append_below (x ∷ xs) [] us vs h k = absurd h

  same_length : (xs ys : List Byte) → BytesBelow Twin xs ys → length ys ≡ length xs
  same_length [] [] h = refl
  same_length (x ∷ xs) (y ∷ ys) h = ap suc (same_length xs ys h.1)
  same_length [] (y ∷ ys) h = absurd h
  same_length (x ∷ xs) [] h = absurd h

  octets_below : (n a : ℕ) → BytesBelow Twin (octets n a) (octets n a)
  octets_below zero a = tt
  octets_below (suc n) a = (refl, octets_below n (a / 256))

  poison_below : (n : ℕ) (ys : List Byte) → length ys ≡ n → BytesBelow Twin (replicate n PoisonByte) ys
  poison_below zero [] e = tt
  poison_below zero (y ∷ ys) e = absurd (omega arith)
  poison_below (suc n) [] e = absurd (omega arith)
  poison_below (suc n) (y ∷ ys) e = (tt, poison_below n ys (omega arith))

  octets_long : (n a : ℕ) → length (octets n a) ≡ n
  octets_long zero a = refl
  octets_long (suc n) a = ap suc (octets_long n (a / 256))

  poison_long : (n : ℕ) → length (replicate n PoisonByte) ≡ n
  poison_long zero = refl
  poison_long (suc n) = ap suc (poison_long n)

  -- the store of a value of its type; a pointer as a word never comes about
  unfoldable pub Sized : Scalar → Value → Type 0
  Sized s v = length (stored s v) ≡ scalar_size s

  pub sized : (s : Scalar) (v : Value) → is_of s v ≡ true → Sized s v
  unfolding Sized
  sized (scalar.Word w) (Bits a) e = octets_long (scalar_size (scalar.Word w)) a
  sized (scalar.Word w) Poisoned e = poison_long (scalar_size (scalar.Word w))
  sized (scalar.Word w) (At b o) e = let e' : false ≡ true = e in absurd (cc)
  sized (scalar.Word w) NullPointer e = let e' : false ≡ true = e in absurd (cc)
  sized scalar.Pointer (Bits a) e = let e' : false ≡ true = e in absurd (cc)
  sized scalar.Pointer (At b o) e = refl
  sized scalar.Pointer NullPointer e = refl
  sized scalar.Pointer Poisoned e = refl

  stored_below : (s : Scalar) (v u : Value) → Below Twin v u → Sized s u → BytesBelow Twin (stored s v) (stored s u)
  unfolding Sized
  stored_below s (Bits a) u b z = subst (λ w. BytesBelow Twin (stored s (Bits a)) (stored s w)) (sym b) (octets_below (scalar_size s) a)
  stored_below s (At c o) u b z = subst (λ w. BytesBelow Twin (stored s (At c o)) (stored s w)) (sym b.2) ((b.0, b.1, refl), ((b.0, b.1, refl), ((b.0, b.1, refl), ((b.0, b.1, refl), tt))))
  stored_below s NullPointer u b z = subst (λ w. BytesBelow Twin (stored s NullPointer) (stored s w)) (sym b) (octets_below (scalar_size s) 0)
  stored_below s Poisoned u b z = poison_below (scalar_size s) (stored s u) z

  -- ---- what a load gives

  parts_too : (one : (i c d : ℕ) → Twin i c → Twin i d → c ≡ d) (b c o k : ℕ) (xs ys : List Byte) → Twin b c → BytesBelow Twin xs ys → are_parts b o k xs ≡ true → are_parts c o k ys ≡ true
  parts_too one b c o k [] [] t h e = refl
  parts_too one b c o k (PartOf b' o' k' ∷ xs) (y ∷ ys) t h e =
      let f = holds (nat_eq b b') (nat_eq o o') (nat_eq k k') (are_parts b o (k + 1) xs) e in
      let same : b ≡ b' = grind (arith, nat_tests) in
      let twin : c ≡ h.0.0 = one b c h.0.0 t (subst (λ z. Twin z h.0.0) (sym same) h.0.1) in
      let eq : nat_eq c h.0.0 ≡ true = grind (arith, nat_tests) in
      ap (λ z. are_parts c o k (z ∷ ys)) h.0.2 ∙ all_hold (nat_eq c h.0.0) (nat_eq o o') (nat_eq k k') (are_parts c o (k + 1) ys) eq f.1 f.2 (parts_too one b c o (k + 1) xs ys t h.1 f.3)
  parts_too one b c o k (Unset ∷ xs) ys t h e = let e' : false ≡ true = e in absurd (cc)
  parts_too one b c o k (PoisonByte ∷ xs) ys t h e = let e' : false ≡ true = e in absurd (cc)
  parts_too one b c o k (Octet n ∷ xs) ys t h e = let e' : false ≡ true = e in absurd (cc)
  parts_too one b c o k [] (y ∷ ys) t h e = absurd h
  parts_too one b c o k (PartOf b' o' k' ∷ xs) [] t h e = absurd h

  null_by : (o o' : Option ℕ) → ((v : ℕ) → o ≡ Some v → o' ≡ Some v) → Below Twin (null_or_poison o) (null_or_poison o')
  null_by None o' h = tt
  null_by (Some zero) o' h = ap null_or_poison (h zero refl)
  null_by (Some (suc a)) o' h = tt

  pointer_below : (one : (i c d : ℕ) → Twin i c → Twin i d → c ≡ d) (xs ys : List Byte) → BytesBelow Twin xs ys → Below Twin (pointer_of xs) (pointer_of ys)
  pointer_below one [] [] h = refl
  pointer_below one (Octet n ∷ xs) (y ∷ ys) h = subst (λ z. Below Twin (pointer_of (Octet n ∷ xs)) (pointer_of (z ∷ ys))) (sym h.0) (null_by (number (Octet n ∷ xs)) (number (Octet n ∷ ys)) (λ v e. number_too Twin (Octet n ∷ xs) (Octet n ∷ ys) v (refl, h.1) e))
  pointer_below one (PartOf b o k ∷ xs) (y ∷ ys) h =
      subst (λ z. Below Twin (pointer_of (PartOf b o k ∷ xs)) (pointer_of (z ∷ ys))) (sym h.0.2) (by_test (are_parts b o 0 (PartOf b o k ∷ xs)) (are_parts h.0.0 o 0 (PartOf h.0.0 o k ∷ ys)) (λ e. parts_too one b h.0.0 o 0 (PartOf b o k ∷ xs) (PartOf h.0.0 o k ∷ ys) h.0.1 ((h.0.0, h.0.1, refl), h.1) e))
    where
      by_test : (s t : Bool) → (s ≡ true → t ≡ true) → Below Twin (if s then At b o else Poisoned) (if t then At h.0.0 o else Poisoned)
      by_test false t f = tt
      by_test true true f = (h.0.0, h.0.1, refl)
      by_test true false f = let e : false ≡ true = f refl in absurd (cc)
  pointer_below one (Unset ∷ xs) ys h = tt
  pointer_below one (PoisonByte ∷ xs) ys h = tt
  pointer_below one [] (y ∷ ys) h = absurd h
  pointer_below one (Octet n ∷ xs) [] h = absurd h
  pointer_below one (PartOf b o k ∷ xs) [] h = absurd h

  loaded_below : (one : (i c d : ℕ) → Twin i c → Twin i d → c ≡ d) (s : Scalar) (xs ys : List Byte) → BytesBelow Twin xs ys → Below Twin (loaded s xs) (loaded s ys)
  loaded_below one (scalar.Word w) xs ys h = word_load Twin (modulus w) xs ys h
  loaded_below one scalar.Pointer xs ys h = pointer_below one xs ys h

  module _ (m n : Memory) (mb : MemoryBelow Twin m n) where
    -- the place of an access in the twin
    within_too : (b d : Block) (o size align : ℕ) → BlockBelow Twin b d → is_within b o size align ≡ true → is_within d o size align ≡ true
    within_too b d o size align k h =
        let f = holds b.live (nat_le (o + size) (length b.bytes)) (nat_eq (o % align) 0) (nat_eq (b.align % align) 0) h in
        all_hold d.live (nat_le (o + size) (length d.bytes)) (nat_eq (o % align) 0) (nat_eq (d.align % align) 0) k.live (ap (nat_le (o + size)) k.long ∙ f.1) f.2 (ap (λ a. nat_eq (a % align) 0) k.align ∙ f.3)

    -- where a load has a value, its follower has one above it
    load_at : (s : Scalar) (align b c o : ℕ) (v : Value) (k : Option Block) → Twin b c → slice_get m b ≡ k → load_from s align o k ≡ Some v → (u : Value) × (load_from s align o (slice_get n c) ≡ Some u) × Below Twin v u
    load_at s align b c o v None t e h = let h' : None ≡ Some v = h in absurd (cc)
    load_at s align b c o v (Some x) t e h = by_test (is_within x o (scalar_size s) align) refl h
      where
        by_test : (q : Bool) → is_within x o (scalar_size s) align ≡ q → (if q then Some (loaded s (take (scalar_size s) (drop o x.bytes))) else None) ≡ Some v → (u : Value) × (load_from s align o (slice_get n c) ≡ Some u) × Below Twin v u
        by_test false f h = let h' : None ≡ Some v = h in absurd (cc)
        by_test true f h =
            let live = (holds x.live (nat_le (o + scalar_size s) (length x.bytes)) (nat_eq (o % align) 0) (nat_eq (x.align % align) 0) f).0 in
            let k = mb.twin b c x t e live in
            let g = within_too x k.0 o (scalar_size s) align k.2 f in
            let same : loaded s (take (scalar_size s) (drop o x.bytes)) ≡ v = cc in (
              loaded s (take (scalar_size s) (drop o k.0.bytes)),
              ap (load_from s align o) k.1 ∙ ap (λ (z : Bool). if z then Some (loaded s (take (scalar_size s) (drop o k.0.bytes))) else None) g,
              subst (λ z. Below Twin z (loaded s (take (scalar_size s) (drop o k.0.bytes)))) same
                  (loaded_below mb.one_twin s _ _ (take_below (scalar_size s) (drop o x.bytes) (drop o k.0.bytes) (drop_below o x.bytes k.0.bytes k.2.bytes))),
            )

    pub load_too : (s : Scalar) (align : ℕ) (x x' v : Value) → Below Twin x x' → load m s align x ≡ Some v → (u : Value) × (load n s align x' ≡ Some u) × Below Twin v u
    load_too s align (At b o) x' v h e =
        let r = load_at s align b h.0 o v (slice_get m b) h.1 refl e in
        (r.0, ap (load n s align) h.2 ∙ r.1, r.2)
    load_too s align (Bits w) x' v h e = let e' : None ≡ Some v = e in absurd (cc)
    load_too s align NullPointer x' v h e = let e' : None ≡ Some v = e in absurd (cc)
    load_too s align Poisoned x' v h e = let e' : None ≡ Some v = e in absurd (cc)

    -- ---- a store

    written_below : (xs ys us vs : List Byte) (o : ℕ) → BytesBelow Twin xs ys → BytesBelow Twin us vs → BytesBelow Twin (written xs o us) (written ys o vs)
    written_below xs ys us vs o h k =
        let l = same_length us vs k in
        subst (λ z. BytesBelow Twin (written xs o us) (take o ys ++ vs ++ drop (o + z) ys)) (sym l)
        (append_below (take o xs ++ us) (take o ys ++ vs) (drop (o + length us) xs) (drop (o + length us) ys) (append_below (take o xs) (take o ys) us vs (take_below o xs ys h) k) (drop_below (o + length us) xs ys h))

    -- both blocks are changed alike
    set_both : (b c : ℕ) (x x' y y' : Block) → Twin b c → slice_get n c ≡ Some y → BlockBelow Twin x' y' → x'.live ≡ true → MemoryBelow Twin (slice_set m b x') (slice_set n c y')
    set_both b c x x' y y' t ey k live = record {
      one_twin = mb.one_twin;
      one_source = mb.one_source;
      twin = λ i d z td e l. ⊎_elim
          (λ same.
          let zx = get_set_same m b x' z (ap (slice_get (slice_set m b x')) (sym same) ∙ e) in
          let dc : d ≡ c = mb.one_twin b d c (subst (λ q. Twin q d) same td) t in
          (y', ap (slice_get (slice_set n c y')) dc ∙ get_set_there n c y' y ey, subst (λ q. BlockBelow Twin q y') (sym zx) k))
          (λ ne.
          let old = mb.twin i d z td (sym (get_set_other m b i x' ne) ∙ e) l in
          (old.0, get_set_other n c d y' (λ dc. ne (mb.one_source i b c (subst (λ q. Twin i q) dc td) t)) ∙ old.1, old.2))
          (same_dec i b);
    }

    store_at : (s : Scalar) (align b c o : ℕ) (v u : Value) (m' : Memory) (k : Option Block) → Twin b c → Below Twin v u → Sized s u → slice_get m b ≡ k → store_to m b s align v o k ≡ Some m' → (n' : Memory) × (store_to n c s align u o (slice_get n c) ≡ Some n') × MemoryBelow Twin m' n'
    store_at s align b c o v u m' None t vu z e h = let h' : None ≡ Some m' = h in absurd (cc)
    store_at s align b c o v u m' (Some x) t vu z e h = by_test (is_within x o (scalar_size s) align) (not x.constant) refl refl h
      where
        by_test : (q w : Bool) → is_within x o (scalar_size s) align ≡ q → not x.constant ≡ w → (if q && w then Some (slice_set m b (record x { bytes = written x.bytes o (stored s v) })) else None) ≡ Some m' → (n' : Memory) × (store_to n c s align u o (slice_get n c) ≡ Some n') × MemoryBelow Twin m' n'
        by_test false w f g h = let h' : None ≡ Some m' = h in absurd (cc)
        by_test true false f g h = let h' : None ≡ Some m' = h in absurd (cc)
        by_test true true f g h =
            let live = (holds x.live (nat_le (o + scalar_size s) (length x.bytes)) (nat_eq (o % align) 0) (nat_eq (x.align % align) 0) f).0 in
            let k = mb.twin b c x t e live in
            let g1 = within_too x k.0 o (scalar_size s) align k.2 f in
            let g2 : not k.0.constant ≡ true = ap not k.2.constant ∙ g in
            let x' : Block = record x { bytes = written x.bytes o (stored s v) } in
            let y' : Block = record k.0 { bytes = written k.0.bytes o (stored s u) } in
            let bytes = written_below x.bytes k.0.bytes (stored s v) (stored s u) o k.2.bytes (stored_below s v u vu z) in
            let both : BlockBelow Twin x' y' = record { live = k.2.live; align = k.2.align; constant = k.2.constant; long = same_length (written x.bytes o (stored s v)) (written k.0.bytes o (stored s u)) bytes; bytes = bytes } in
            let same : slice_set m b x' ≡ m' = cc in (
              slice_set n c y',
              ap (store_to n c s align u o) k.1 ∙ ap₂ (λ (p q : Bool). if p && q then Some (slice_set n c y') else None) g1 g2,
              subst (λ z. MemoryBelow Twin z (slice_set n c y')) same (set_both b c x x' k.0 y' t k.1 both live),
            )

    pub store_too : (s : Scalar) (align : ℕ) (v u x x' : Value) (m' : Memory) → Below Twin v u → Sized s u → Below Twin x x' → store m s align v x ≡ Some m' → (n' : Memory) × (store n s align u x' ≡ Some n') × MemoryBelow Twin m' n'
    store_too s align v u (At b o) x' m' vu z h e =
        let r = store_at s align b h.0 o v u m' (slice_get m b) h.1 vu z refl e in
        (r.0, ap (store n s align u) h.2 ∙ r.1, r.2)
    store_too s align v u (Bits w) x' m' vu z h e = let e' : None ≡ Some m' = e in absurd (cc)
    store_too s align v u NullPointer x' m' vu z h e = let e' : None ≡ Some m' = e in absurd (cc)
    store_too s align v u Poisoned x' m' vu z h e = let e' : None ≡ Some m' = e in absurd (cc)
