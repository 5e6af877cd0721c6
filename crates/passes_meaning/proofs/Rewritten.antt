-- Other operands with the same values have the same effect.
use Rattle.std.proofs.Common.{◌≡◌, ℕ, ◌%◌, ◌&&◌, nat_eq, if◌then◌else◌, List, [], ◌∷◌, map, Some, None, refl, ap, ap₂, ◌∙◌}
use Rattle.std.specs.List.{AllByRecursion as Each}
use Rattle.oi_base.specs.Words.{modulus}
use Rattle.ir_core.specs.declared.flat.FlatOp.{FlatOp}
use Rattle.ir_core.specs.declared.flat.Term.{Term}
use Rattle.ir_core.specs.declared.flat.FlatInstr.{FlatInstr}
use Rattle.ir_core.specs.declared.flat.FlatInstr.TheVariants.{Bin, Icmp, Select, Cast, Copy, Alloca, Load, Store, Gep, Call, Put, Get, Exit}
use Rattle.ir_core.specs.declared.flat.FlatEnd.{FlatEnd}
use Rattle.ir_core.specs.declared.flat.FlatEnd.TheVariants.{Ret, Br, Cond, Switch, Unreachable}
use Rattle.ir_core.specs.Memory.{Value, Memory, load, store}
use Rattle.ir_core.specs.Rows.{as_word, bin, icmp, choose, cast_read, is_pointer, is_of}
use Rattle.ir_core.specs.Flat.{Regs, Effect, Sets, Puts, Enters, Goes, Returns, Stops, value_of, using, operand, word_in, answered, load_gives, store_gives, if_typed, further, read_option, distance, gep_gives, arguments, effect, end_effect, case_for}
use Rattle.ir_core.specs.Formed.{used_by, used_at_end}
use Rattle.const_fold.specs.Operands.{with_operand, with_operands, end_with_operands}

module _ (regs : Regs) (g : FlatOp → FlatOp) where
  -- in the operand's place stands one with its value
  abbrev pub Same : FlatOp → Type 0
  Same o = value_of regs (g o) ≡ value_of regs o

  two : (go : Value → Value → Effect) (a b : FlatOp) → Same a → Same b → operand regs (g a) (λ x. operand regs (g b) (λ y. go x y)) ≡ operand regs a (λ x. operand regs b (λ y. go x y))
  two go a b sa sb = ap₂ (λ u v. using u (λ x. using v (λ y. go x y))) sa sb

  args_same : (os : List FlatOp) → Each Same os → arguments regs (map g os) ≡ arguments regs os
  args_same [] h = refl
  args_same (o ∷ os) h = ap₂ (λ v vs. v ∷ vs) h.0 (args_same os h.1)

  distance_same : (k : ℕ) (ts : List Term) → Each Same (map (λ (t : Term). t.operand) ts) → distance regs k (map (with_operand g) ts) ≡ distance regs k ts
  distance_same k [] h = refl
  distance_same k (t ∷ ts) h = ap₂ (λ v d. further t (read_option (modulus t.width) v) d) h.0 (distance_same k ts h.1)

  pub same_effect : (m : Memory) (i : FlatInstr) → Each Same (used_by i) → effect regs m (with_operands g i) ≡ effect regs m i
  same_effect m (Bin d op w a b) h = two (λ x y. answered d (bin op w x y)) a b h.0 h.1.0
  same_effect m (Icmp d c s a b) h = two (λ x y. answered d (icmp m c s x y)) a b h.0 h.1.0
  same_effect m (Select d c a b) h =
      ap (λ u. using u (λ z. operand regs (g a) (λ x. operand regs (g b) (λ y. answered d (choose (as_word 2 z) x y))))) h.0
      ∙ ap (λ u. operand regs c (λ z. using u (λ x. operand regs (g b) (λ y. answered d (choose (as_word 2 z) x y))))) h.1.0
      ∙ ap (λ u. operand regs c (λ z. operand regs a (λ x. using u (λ y. answered d (choose (as_word 2 z) x y))))) h.1.1.0
  same_effect m (Cast d c from to a) h = ap (λ u. using u (λ x. answered d (cast_read c from to (as_word (modulus from) x)))) h.0
  same_effect m (Copy d a) h = ap (λ u. using u (λ x. Sets d x)) h.0
  same_effect m (Alloca d size align) h = refl
  same_effect m (Load d s align a) h = ap (λ u. using u (λ x. if_typed (is_pointer x) (load_gives d (load m s align x)))) h.0
  same_effect m (Store s align v a) h = two (λ x y. if_typed (is_of s x && is_pointer y) (store_gives (store m s align x y))) v a h.0 h.1.0
  same_effect m (Gep d a k ts) h = ap₂ (λ u j. using u (λ x. gep_gives d x j)) h.0 (distance_same k ts h.1)
  same_effect m (Call d f args) h = ap (λ vs. Enters d f.0 vs) (args_same args h)
  same_effect m (Put d a) h = ap (λ u. using u (λ x. word_in (as_word 4294967296 x) (λ c. Puts d (c % 256)))) h.0
  same_effect m (Get d) h = refl
  same_effect m (Exit a) h = ap (λ u. using u (λ x. word_in (as_word 4294967296 x) (λ c. Stops c))) h.0

  pub same_end : (e : FlatEnd) → Each Same (used_at_end e) → end_effect regs (end_with_operands g e) ≡ end_effect regs e
  same_end (Ret None) h = refl
  same_end (Ret (Some a)) h = ap (λ u. using u (λ x. Returns (Some x))) h.0
  same_end (Br b) h = refl
  same_end (Cond c t f) h = ap (λ u. using u (λ x. word_in (as_word 2 x) (λ z. Goes (if nat_eq z 0 then f.0 else t.0)))) h.0
  same_end (Switch a w cases other) h = ap (λ u. using u (λ x. word_in (as_word (modulus w) x) (λ z. Goes (case_for z cases other).0))) h.0
  same_end Unreachable h = refl

pub each_same : (P : FlatOp → Type 0) → ((o : FlatOp) → P o) → (os : List FlatOp) → Each P os
each_same P h [] = tt
each_same P h (o ∷ os) = (h o, each_same P h os)
