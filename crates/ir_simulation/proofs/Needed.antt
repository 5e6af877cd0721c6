-- A row reads its operands' registers alone: so its lemma holds where only the needed registers stand for one another.
use Rattle.std.proofs.Common.{◌≡◌, ℕ, ◌%◌, refl, ap, ap₂, ◌∙◌, subst, Bool, true, ◌&&◌, if◌then◌else◌, List, [], ◌∷◌, map, None}
use Rattle.ir_core.specs.declared.flat.Term.{Term}
use Rattle.ir_core.specs.declared.flat.FlatOp.{FlatOp}
use Rattle.ir_core.specs.declared.flat.FlatOp.TheVariants.{Reg, Word, Null, Address, Poison}
use Rattle.ir_core.specs.declared.flat.FlatInstr.{FlatInstr}
use Rattle.ir_core.specs.declared.flat.FlatInstr.TheVariants.{Bin, Icmp, Select, Cast, Copy, Alloca, Load, Store, Gep, Call, Put, Get, Exit}
use Rattle.oi_base.specs.Words.{modulus}
use Rattle.ir_core.specs.Memory.{Memory, load, store}
use Rattle.ir_core.specs.Rows.{as_word, is_pointer, is_of, bin, icmp, choose, cast_read}
use Rattle.ir_core.specs.Formed.{used_by}
use Rattle.ir_core.specs.Flat.{Regs, Sets, Puts, Stops, Enters, using, operand, answered, word_in, load_gives, store_gives, if_typed, gep_gives, distance, further, read_option, arguments, value_of, effect}
use Rattle.ir_simulation.proofs.Below.{MemoryBelow}
use Rattle.ir_simulation.specs.Renamed.{instr_to}
use Rattle.ir_simulation.proofs.Matches.{RegsBelow, AllFit, Matches}
use Rattle.ir_simulation.proofs.Rows.{row}

module _ (needed : ℕ → Bool) where
  -- the registers that are needed, and no other
  abbrev pub only : Regs → Regs
  only regs q = if needed q then regs q else None

  abbrev pub IsNeeded : FlatOp → Type 0
  IsNeeded (Reg r) = needed r.0 ≡ true
  IsNeeded o = Unit {0}

  abbrev pub AreNeeded : List FlatOp → Type 0
  AreNeeded [] = Unit {0}
  AreNeeded (o ∷ os) = IsNeeded o × AreNeeded os

  module _ (regs : Regs) where
    pub value_only : (o : FlatOp) → IsNeeded o → value_of (only regs) o ≡ value_of regs o
    value_only (Reg r) h = ap (λ (c : Bool). if c then regs r.0 else None) h
    value_only (Word a) h = refl
    value_only Null h = refl
    value_only (Address s k) h = refl
    value_only Poison h = refl

    arguments_only : (os : List FlatOp) → AreNeeded os → arguments (only regs) os ≡ arguments regs os
    arguments_only [] h = refl
    arguments_only (o ∷ os) h = ap₂ (λ x xs. x ∷ xs) (value_only o h.0) (arguments_only os h.1)

    distance_only : (k : ℕ) (ts : List Term) → AreNeeded (map (λ (t : Term). t.operand) ts) → distance (only regs) k ts ≡ distance regs k ts
    distance_only k [] h = refl
    distance_only k (t ∷ ts) h = ap₂ (λ x d. further t (read_option (modulus t.width) x) d) (value_only t.operand h.0) (distance_only k ts h.1)

    pub effect_only : (m : Memory) (i : FlatInstr) → AreNeeded (used_by i) → effect (only regs) m i ≡ effect regs m i
    effect_only m (Bin d op w a b) h = ap₂ (λ u v. using u (λ x. using v (λ y. answered d (bin op w x y)))) (value_only a h.0) (value_only b h.1.0)
    effect_only m (Icmp d c s a b) h = ap₂ (λ u v. using u (λ x. using v (λ y. answered d (icmp m c s x y)))) (value_only a h.0) (value_only b h.1.0)
    effect_only m (Select d c a b) h =
        ap (λ w. using w (λ z. operand (only regs) a (λ x. operand (only regs) b (λ y. answered d (choose (as_word 2 z) x y))))) (value_only c h.0)
        ∙ ap₂ (λ u v. operand regs c (λ z. using u (λ x. using v (λ y. answered d (choose (as_word 2 z) x y))))) (value_only a h.1.0) (value_only b h.1.1.0)
    effect_only m (Cast d c from to a) h = ap (λ u. using u (λ x. answered d (cast_read c from to (as_word (modulus from) x)))) (value_only a h.0)
    effect_only m (Copy d a) h = ap (λ u. using u (λ x. Sets d x)) (value_only a h.0)
    effect_only m (Alloca d size align) h = refl
    effect_only m (Load d s align a) h = ap (λ u. using u (λ x. if_typed (is_pointer x) (load_gives d (load m s align x)))) (value_only a h.0)
    effect_only m (Store s align v a) h = ap₂ (λ u w. using u (λ x. using w (λ y. if_typed (is_of s x && is_pointer y) (store_gives (store m s align x y))))) (value_only v h.0) (value_only a h.1.0)
    effect_only m (Gep d a k ts) h = ap₂ (λ u e. using u (λ x. gep_gives d x e)) (value_only a h.0) (distance_only k ts h.1)
    effect_only m (Call d f args) h = ap (Enters d f.0) (arguments_only args h)
    effect_only m (Put d a) h = ap (λ u. using u (λ x. word_in (as_word 4294967296 x) (λ c. Puts d (c % 256)))) (value_only a h.0)
    effect_only m (Get d) h = refl
    effect_only m (Exit a) h = ap (λ u. using u (λ x. word_in (as_word 4294967296 x) (λ c. Stops c))) (value_only a h.0)

  -- an instruction whose operands are needed respects what stands for them
  pub needed_row : (Twin : ℕ → ℕ → Type 0) (g h : ℕ → ℕ) (m n : Memory) → MemoryBelow Twin m n → (old new : Regs) → RegsBelow Twin g (only old) new → (i : FlatInstr) → AreNeeded (used_by i) → AllFit Twin (used_by i) → Matches Twin g h (effect old m i) (effect new n (instr_to g i))
  needed_row Twin g h m n mb old new rb i ok fits = subst (λ e. Matches Twin g h e (effect new n (instr_to g i))) (effect_only old m i ok) (row Twin g h m n mb (only old) new rb i fits)
