-- Memory where blocks die and fresh ones are made: the follower may kill more, if what it kills is dead in the source.
use Rattle.std.proofs.Common.{◌≡◌, ◌≢◌, ◌⊎◌, ℕ, zero, suc, refl, sym, ap, ◌∙◌, subst, inl, inr, ⊎_elim, arith, true, false, List, [], ◌∷◌, ◌++◌, length, length-set, Option, Some, None, slice_get}
use Rattle.ir_core.specs.Memory.{Block, Memory, kill, killed_at, kill_all}
use Rattle.ir_simulation.proofs.Below.{BlockBelow, MemoryBelow}
use Rattle.ir_simulation.proofs.Loads.{get_set_other, get_set_there}
pub use Rattle.ir_simulation.proofs.Dead.{IsDead, IsOneOf}

-- the twin of a block is the block with its number
abbrev pub SameBlock : ℕ → ℕ → Type 0
SameBlock b c = b ≡ c

pub same_dec : (i j : ℕ) → (i ≡ j) ⊎ (i ≢ j)
same_dec i j = grind arith

-- ---- one kill

killed_other : (m : Memory) (i j : ℕ) (o : Option Block) → slice_get m i ≡ o → j ≢ i → slice_get (killed_at m i o) j ≡ slice_get m j
killed_other m i j None e ne = refl
killed_other m i j (Some c) e ne = get_set_other m i j (record c { live = false }) ne

kill_other : (m : Memory) (i j : ℕ) → j ≢ i → slice_get (kill m i) j ≡ slice_get m j
kill_other m i j ne = killed_other m i j (slice_get m i) refl ne

killed_dead : (m : Memory) (i : ℕ) (b : Block) (o : Option Block) → slice_get m i ≡ o → o ≡ Some b → IsDead (killed_at m i o) i
killed_dead m i b None e f = let f' : None ≡ Some b = f in absurd (cc)
killed_dead m i b (Some c) e f = record { block = record c { live = false }; is = get_set_there m i (record c { live = false }) c e; dead = refl }

dead_by : (m : Memory) (i j : ℕ) → IsDead m j → (i ≡ j) ⊎ (i ≢ j) → IsDead (kill m i) j
dead_by m i j d (inl e) = subst (λ q. IsDead (kill m i) q) e (killed_dead m i d.block (slice_get m i) refl (ap (slice_get m) e ∙ d.is))
dead_by m i j d (inr ne) = record { block = d.block; is = kill_other m i j (λ e. ne (sym e)) ∙ d.is; dead = d.dead }

pub dead_kill : (m : Memory) (i j : ℕ) → IsDead m j → IsDead (kill m i) j
dead_kill m i j d = dead_by m i j d (same_dec i j)

pub dead_kills : (m : Memory) (is : List ℕ) (j : ℕ) → IsDead m j → IsDead (kill_all m is) j
dead_kills m [] j d = d
dead_kills m (i ∷ is) j d = dead_kills (kill m i) is j (dead_kill m i j d)

-- what is killed is dead
killed_by : (m : Memory) (i j : ℕ) (b : Block) → slice_get m j ≡ Some b → j ≡ i → IsDead (kill m i) j
killed_by m i j b e same = subst (λ q. IsDead (kill m i) q) (sym same) (killed_dead m i b (slice_get m i) refl (ap (slice_get m) (sym same) ∙ e))

pub there_by : (m : Memory) (i j : ℕ) (b : Block) → slice_get m j ≡ Some b → (j ≡ i) ⊎ (j ≢ i) → (c : Block) × (slice_get (kill m i) j ≡ Some c)
there_by m i j b e (inl same) = let d = killed_by m i j b e same in (d.block, d.is)
there_by m i j b e (inr ne) = (b, kill_other m i j ne ∙ e)

pub kills_there : (m : Memory) (is : List ℕ) (j : ℕ) (b : Block) → slice_get m j ≡ Some b → (c : Block) × (slice_get (kill_all m is) j ≡ Some c)
kills_there m [] j b e = (b, e)
kills_there m (i ∷ is) j b e = let t = there_by m i j b e (same_dec j i) in kills_there (kill m i) is j t.0 t.1

pub kills_dead : (m : Memory) (is : List ℕ) (j : ℕ) (b : Block) → slice_get m j ≡ Some b → IsOneOf is j → IsDead (kill_all m is) j
kills_dead m [] j b e h = absurd h
kills_dead m (i ∷ is) j b e h = ⊎_elim
    (λ same. dead_kills (kill m i) is j (killed_by m i j b e same))
    (λ rest. let t = there_by m i j b e (same_dec j i) in kills_dead (kill m i) is j t.0 t.1 rest)
    h

-- what is live afterwards was so before
live_by : (m : Memory) (i j : ℕ) (b : Block) → slice_get (kill m i) j ≡ Some b → b.live ≡ true → (j ≡ i) ⊎ (j ≢ i) → slice_get m j ≡ Some b
live_by m i j b e live (inr ne) = sym (kill_other m i j ne) ∙ e
live_by m i j b e live (inl same) = by_block (slice_get m j) refl
  where
    by_block : (o : Option Block) → slice_get m j ≡ o → slice_get m j ≡ Some b
    by_block (Some c) f =
        let d = killed_by m i j c f same in
        let g : Some d.block ≡ Some b = sym d.is ∙ e in
        let h : d.block ≡ b = cc in
        let z : false ≡ true = sym d.dead ∙ ap (λ (x : Block). x.live) h ∙ live in
        absurd (cc)
    by_block None f =
        let g : kill m i ≡ m = ap (killed_at m i) (ap (slice_get m) (sym same) ∙ f) in
        sym (ap (λ z. slice_get z j) g) ∙ e

pub live_before : (m : Memory) (is : List ℕ) (j : ℕ) (b : Block) → slice_get (kill_all m is) j ≡ Some b → b.live ≡ true → slice_get m j ≡ Some b
live_before m [] j b e live = e
live_before m (i ∷ is) j b e live = live_by m i j b (live_before (kill m i) is j b e live) live (same_dec j i)

pub kills_other : (m : Memory) (is : List ℕ) (j : ℕ) → (IsOneOf is j → ⊥) → slice_get (kill_all m is) j ≡ slice_get m j
kills_other m [] j h = refl
kills_other m (i ∷ is) j h = kills_other (kill m i) is j (λ z. h (inr z)) ∙ kill_other m i j (λ e. h (inl e))

pub kill_long : (m : Memory) (i : ℕ) (o : Option Block) → length (killed_at m i o) ≡ length m
kill_long m i None = refl
kill_long m i (Some c) = length-set m i (record c { live = false })

pub kills_long : (m : Memory) (is : List ℕ) → length (kill_all m is) ≡ length m
kills_long m [] = refl
kills_long m (i ∷ is) = kills_long (kill m i) is ∙ kill_long m i (slice_get m i)

-- the follower kills what is dead in the source afterwards
pub kills_below : (m n : Memory) (is js : List ℕ) → MemoryBelow SameBlock m n → ((j : ℕ) → IsOneOf js j → IsDead (kill_all m is) j) → MemoryBelow SameBlock (kill_all m is) (kill_all n js)
kills_below m n is js mb h = record {
  one_twin = mb.one_twin;
  one_source = mb.one_source;
  twin = λ i c b t e live.
      let old = mb.twin i c b t (live_before m is i b e live) live in
      let free : IsOneOf js c → ⊥ = λ z.
      let d = h c z in
      let e' : slice_get (kill_all m is) c ≡ Some b = ap (slice_get (kill_all m is)) (sym t) ∙ e in
      let g : Some d.block ≡ Some b = sym d.is ∙ e' in
      let k : d.block ≡ b = cc in
      let y : false ≡ true = sym d.dead ∙ ap (λ (x : Block). x.live) k ∙ live in
      absurd (cc) in
      (old.0, kills_other n js c free ∙ old.1, old.2);
}

-- a fresh block at the end of both
get_last : (xs : List Block) (x b : Block) (j : ℕ) → slice_get (xs ++ x ∷ []) j ≡ Some b → (slice_get xs j ≡ Some b) ⊎ ((j ≡ length xs) × (b ≡ x))
get_last [] x b zero e = let e' : Some x ≡ Some b = e in inr (refl, cc)
get_last [] x b (suc j) e = let e' : None ≡ Some b = e in absurd (cc)
get_last (y ∷ xs) x b zero e = inl e
get_last (y ∷ xs) x b (suc j) e = ⊎_elim (λ h. inl h) (λ h. inr (ap suc h.0, h.1)) (get_last xs x b j e)

pub get_end : (xs : List Block) (x : Block) (j : ℕ) → j ≡ length xs → slice_get (xs ++ x ∷ []) j ≡ Some x
get_end [] x zero e = refl
get_end [] x (suc j) e = absurd (omega arith)
get_end (y ∷ xs) x zero e = absurd (omega arith)
get_end (y ∷ xs) x (suc j) e = get_end xs x j (omega arith)

pub get_more : (xs : List Block) (x b : Block) (j : ℕ) → slice_get xs j ≡ Some b → slice_get (xs ++ x ∷ []) j ≡ Some b
get_more [] x b j e = let e' : None ≡ Some b = e in absurd (cc)
get_more (y ∷ xs) x b zero e = e
get_more (y ∷ xs) x b (suc j) e = get_more xs x b j e

pub fresh_below : (m n : Memory) (x : Block) → length n ≡ length m → BlockBelow SameBlock x x → MemoryBelow SameBlock m n → MemoryBelow SameBlock (m ++ x ∷ []) (n ++ x ∷ [])
fresh_below m n x l xx mb = record {
  one_twin = mb.one_twin;
  one_source = mb.one_source;
  twin = λ i c b t e live. ⊎_elim
      (λ old. let r = mb.twin i c b t old live in (r.0, get_more n x r.0 c r.1, r.2))
      (λ new. (x, get_end n x c (sym t ∙ new.0 ∙ sym l), subst (λ z. BlockBelow SameBlock z x) (sym new.1) xx))
      (get_last m x b i e);
}

pub dead_more : (m : Memory) (x : Block) (i : ℕ) → IsDead m i → IsDead (m ++ x ∷ []) i
dead_more m x i d = record { block = d.block; is = get_more m x d.block i d.is; dead = d.dead }
