-- The registers and the places that are left where what gives the others is dropped.
use Rattle.std.proofs.Common.{◌≡◌, ◌≢◌, ◌⊎◌, inl, inr, ℕ, zero, suc, ◌+◌, Bool, true, false, nat_eq, if◌then◌else◌, List, [], ◌∷◌, map, length, take, Option, Some, None, slice_get, refl, sym, ap, ◌∙◌, subst, arith}
use Rattle.std.specs.List.{filter_map, cons_option}
use Rattle.std.proofs.lemmas.Bool.Decides.{nat_tests}
use Rattle.ir_core.specs.declared.flat.FlatInstr.{FlatInstr}
use Rattle.ir_core.specs.Memory.{Value, At}
use Rattle.ir_core.specs.Flat.{Regs, with_reg}
use Rattle.local_passes.specs.DropDead.{instr_kept}
use Rattle.ir_simulation.proofs.Below.{Below}
use Rattle.ir_simulation.proofs.Matches.{RegsBelow}
use Rattle.ir_simulation.proofs.Needed.{only}
use Rattle.ir_simulation.proofs.Twins.{below_more}

-- ---- registers

abbrev pub Same : ℕ → ℕ
Same r = r

module _ (T : ℕ → ℕ → Type 0) (keep : ℕ → Bool) (old new : Regs) (h : RegsBelow T Same (only keep old) new) where
  abbrev pub OneBelow : ℕ → Option Value → Value → (ℕ → Option Value) → Type 0
  OneBelow r o w to = o ≡ Some w → (u : Value) × (to r ≡ Some u) × Below T w u

  pub set_kept : (d : ℕ) (v u : Value) → Below T v u → RegsBelow T Same (only keep (with_reg old d v)) (with_reg new d u)
  set_kept d v u b r w = at (keep r) (nat_eq r d) refl refl
    where
      at : (k t : Bool) → keep r ≡ k → nat_eq r d ≡ t → (if k then (if t then Some v else old r) else None) ≡ Some w → (x : Value) × ((if t then Some u else new r) ≡ Some x) × Below T w x
      at false t ek et e = absurd cc
      at true true ek et e = let same : v ≡ w = cc in (u, refl, subst (λ x. Below T x u) same b)
      at true false ek et e = h r w (ap (λ (c : Bool). if c then old r else None) ek ∙ e)

  pub set_lost : (d : ℕ) (v : Value) → keep d ≡ false → RegsBelow T Same (only keep (with_reg old d v)) new
  set_lost d v lost r w = at (keep r) (nat_eq r d) refl refl
    where
      at : (k t : Bool) → keep r ≡ k → nat_eq r d ≡ t → (if k then (if t then Some v else old r) else None) ≡ Some w → (x : Value) × (new r ≡ Some x) × Below T w x
      at false t ek et e = absurd cc
      at true true ek et e = let same : r ≡ d = grind (arith, nat_tests) in absurd (let both : true ≡ false = sym ek ∙ ap keep same ∙ lost in cc)
      at true false ek et e = h r w (ap (λ (c : Bool). if c then old r else None) ek ∙ e)

pub regs_more : (T U : ℕ → ℕ → Type 0) → ((i c : ℕ) → T i c → U i c) → (keep : ℕ → Bool) (old new : Regs) → RegsBelow T Same (only keep old) new → RegsBelow U Same (only keep old) new
regs_more T U ext keep old new h r v e = let x = h r v e in (x.0, x.1, below_more T U ext v x.0 x.2)

-- an alloca's register is unwritten in both, or holds a block and its twin
abbrev pub HomeBoth : (ℕ → ℕ → Type 0) → Option Value → Option Value → Type 0
HomeBoth T o u = ((o ≡ None) × (u ≡ None)) ⊎ ((i c x : ℕ) × (o ≡ Some (At i x)) × (u ≡ Some (At c x)) × T i c)

pub home_more : (T U : ℕ → ℕ → Type 0) → ((i c : ℕ) → T i c → U i c) → (o u : Option Value) → HomeBoth T o u → HomeBoth U o u
home_more T U ext o u (inl h) = inl h
home_more T U ext o u (inr h) = inr (h.0, h.1, h.2, h.3, h.4, ext h.0 h.1 h.5)

pub other_reg : (regs : Regs) (d q : ℕ) (v : Value) → q ≢ d → with_reg regs d v q ≡ regs q
other_reg regs d q v apart = let t : nat_eq q d ≡ false = grind (arith, nat_tests) in ap (λ (b : Bool). if b then Some v else regs q) t

pub own_reg : (regs : Regs) (d : ℕ) (v : Value) → with_reg regs d v d ≡ Some v
own_reg regs d v = let t : nat_eq d d ≡ true = grind (arith, nat_tests) in ap (λ (b : Bool). if b then Some v else regs d) t

-- ---- places

abbrev pub before : (ℕ → Bool) → List FlatInstr → ℕ → ℕ
before keep code n = length (filter_map (instr_kept keep) (take n code))

pub mapped_at : {A B : Type 0} (f : A → B) (xs : List A) (k : ℕ) (x : A) → slice_get xs k ≡ Some x → slice_get (map f xs) k ≡ Some (f x)
mapped_at f [] k x e = cc
mapped_at f (y ∷ ys) zero x e = let same : y ≡ x = cc in ap (λ z. Some (f z)) same
mapped_at f (y ∷ ys) (suc k) x e = mapped_at f ys k x e

pub kept_next : (keep : ℕ → Bool) (code : List FlatInstr) (n : ℕ) (i j : FlatInstr) → slice_get code n ≡ Some i → instr_kept keep i ≡ Some j → (slice_get (filter_map (instr_kept keep) code) (before keep code n) ≡ Some j) × (before keep code (suc n) ≡ before keep code n + 1)
kept_next keep [] n i j e k = absurd cc
kept_next keep (x ∷ xs) zero i j e k =
    let same : x ≡ i = cc in
    let is : instr_kept keep x ≡ Some j = ap (instr_kept keep) same ∙ k in
    (ap (λ o. slice_get (cons_option o (filter_map (instr_kept keep) xs)) 0) is, ap (λ o. length (cons_option o [])) is)
kept_next keep (x ∷ xs) (suc n) i j e k = at (instr_kept keep x) (kept_next keep xs n i j e k)
  where
    at : (o : Option FlatInstr) → (slice_get (filter_map (instr_kept keep) xs) (before keep xs n) ≡ Some j) × (before keep xs (suc n) ≡ before keep xs n + 1)
        → (slice_get (cons_option o (filter_map (instr_kept keep) xs)) (length (cons_option o (filter_map (instr_kept keep) (take n xs)))) ≡ Some j) × (length (cons_option o (filter_map (instr_kept keep) (take (suc n) xs))) ≡ length (cons_option o (filter_map (instr_kept keep) (take n xs))) + 1)
    at None h = h
    at (Some y) h = let e = h.1 in (h.0, omega (arith, e))

pub lost_next : (keep : ℕ → Bool) (code : List FlatInstr) (n : ℕ) (i : FlatInstr) → slice_get code n ≡ Some i → instr_kept keep i ≡ None → before keep code (suc n) ≡ before keep code n
lost_next keep [] n i e k = absurd cc
lost_next keep (x ∷ xs) zero i e k = let same : x ≡ i = cc in ap (λ o. length (cons_option o [])) (ap (instr_kept keep) same ∙ k)
lost_next keep (x ∷ xs) (suc n) i e k = at (instr_kept keep x) (lost_next keep xs n i e k)
  where
    at : (o : Option FlatInstr) → before keep xs (suc n) ≡ before keep xs n → length (cons_option o (filter_map (instr_kept keep) (take (suc n) xs))) ≡ length (cons_option o (filter_map (instr_kept keep) (take n xs)))
    at None h = h
    at (Some y) h = ap suc h

pub at_end : (keep : ℕ → Bool) (code : List FlatInstr) (n : ℕ) → slice_get code n ≡ None → slice_get (filter_map (instr_kept keep) code) (before keep code n) ≡ None
at_end keep [] zero e = refl
at_end keep [] (suc n) e = refl
at_end keep (x ∷ xs) zero e = absurd cc
at_end keep (x ∷ xs) (suc n) e = by (instr_kept keep x) (at_end keep xs n e)
  where
    by : (o : Option FlatInstr) → slice_get (filter_map (instr_kept keep) xs) (before keep xs n) ≡ None → slice_get (cons_option o (filter_map (instr_kept keep) xs)) (length (cons_option o (filter_map (instr_kept keep) (take n xs)))) ≡ None
    by None h = h
    by (Some y) h = h
