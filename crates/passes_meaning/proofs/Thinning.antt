-- Renaming by the identity changes nothing, and what an effect says of its instruction.
use Rattle.std.proofs.Common.{◌≡◌, ℕ, ◌%◌, Bool, true, false, not, ◌&&◌, nat_eq, if◌then◌else◌, List, [], ◌∷◌, map, length, length-set, Option, Some, None, slice_get, slice_set, refl, sym, ap, ap₂, ◌∙◌, subst}
use Rattle.std.specs.Option.{option_map}
use Rattle.oi_base.specs.declared.ids.RegId.{RegId}
use Rattle.oi_base.specs.Words.{modulus}
use Rattle.ir_core.specs.declared.flat.Scalar.{Scalar}
use Rattle.ir_core.specs.declared.flat.FlatOp.{FlatOp}
use Rattle.ir_core.specs.declared.flat.FlatOp.TheVariants.{Reg, Word, Null, Address, Poison}
use Rattle.ir_core.specs.declared.flat.Term.{Term}
use Rattle.ir_core.specs.declared.flat.Case.{Case}
use Rattle.ir_core.specs.declared.flat.FlatInstr.{FlatInstr}
use Rattle.ir_core.specs.declared.flat.FlatInstr.TheVariants.{Bin, Icmp, Select, Cast, Copy, Alloca, Load, Store, Gep, Call, Put, Get, Exit}
use Rattle.ir_core.specs.declared.flat.FlatEnd.{FlatEnd}
use Rattle.ir_core.specs.declared.flat.FlatEnd.TheVariants.{Ret, Br, Cond, Switch, Unreachable}
use Rattle.ir_core.specs.Memory.{Value, Bits, At, NullPointer, Poisoned, Block, Memory, load, store, store_to, is_within, scalar_size, written, stored}
use Rattle.ir_core.specs.Rows.{Answer, Gives, NoGood, Mistyped, Read, Is, IsPoison, IsOther, as_word, bin, icmp, choose, cast_read, moved, is_pointer, is_of}
use Rattle.ir_core.specs.Flat.{Regs, Effect, Sets, Allocates, Stores, Puts, Takes, Enters, Goes, Returns, Stops, NoMeaning, NoValue, value_of, using, word_in, answered, load_gives, store_gives, if_typed, Distance, Far, PoisonFar, NoDistance, distance, gep_gives, effect, end_effect, case_for}
use Rattle.ir_core.specs.Formed.{used_at_end}
use Rattle.ir_simulation.specs.Renamed.{reg_to, op_to, term_to, instr_to, case_to, end_to}
use Rattle.local_passes.specs.DropDead.{result_kept, kept_if, instr_kept}
use Rattle.ir_simulation.proofs.Needed.{only, AreNeeded, value_only}

abbrev Id : ℕ → ℕ
Id r = r

pub same_op : (o : FlatOp) → op_to Id o ≡ o
same_op (Reg r) = refl
same_op (Word a) = refl
same_op Null = refl
same_op (Address s k) = refl
same_op Poison = refl

same_ops : (os : List FlatOp) → map (op_to Id) os ≡ os
same_ops [] = refl
same_ops (o ∷ os) = ap₂ (λ x xs. x ∷ xs) (same_op o) (same_ops os)

same_terms : (ts : List Term) → map (term_to Id) ts ≡ ts
same_terms [] = refl
same_terms (t ∷ ts) = ap₂ (λ (o : FlatOp) us. (record t { operand = o }) ∷ us) (same_op t.operand) (same_terms ts)

pub same_result : (d : Option RegId) → option_map (reg_to Id) d ≡ d
same_result None = refl
same_result (Some d) = refl

pub same_instr : (i : FlatInstr) → instr_to Id i ≡ i
same_instr (Bin d op w a b) = ap₂ (λ x y. Bin d op w x y) (same_op a) (same_op b)
same_instr (Icmp d c s a b) = ap₂ (λ x y. Icmp d c s x y) (same_op a) (same_op b)
same_instr (Select d c a b) = ap (λ z. Select d z (op_to Id a) (op_to Id b)) (same_op c) ∙ ap₂ (λ x y. Select d c x y) (same_op a) (same_op b)
same_instr (Cast d c from to a) = ap (λ x. Cast d c from to x) (same_op a)
same_instr (Copy d a) = ap (λ x. Copy d x) (same_op a)
same_instr (Alloca d size align) = refl
same_instr (Load d s align a) = ap (λ x. Load d s align x) (same_op a)
same_instr (Store s align v a) = ap₂ (λ x y. Store s align x y) (same_op v) (same_op a)
same_instr (Gep d a k ts) = ap₂ (λ x us. Gep d x k us) (same_op a) (same_terms ts)
same_instr (Call d f args) = ap₂ (λ x xs. Call x f xs) (same_result d) (same_ops args)
same_instr (Put d a) = ap₂ (λ x y. Put x y) (same_result d) (same_op a)
same_instr (Get d) = ap (λ x. Get x) (same_result d)
same_instr (Exit a) = ap (λ x. Exit x) (same_op a)

same_cases : (cs : List Case) → map (case_to Id) cs ≡ cs
same_cases [] = refl
same_cases (c ∷ cs) = ap (λ xs. c ∷ xs) (same_cases cs)

pub same_end : (e : FlatEnd) → end_to Id Id e ≡ e
same_end (Ret None) = refl
same_end (Ret (Some a)) = ap (λ x. Ret (Some x)) (same_op a)
same_end (Br b) = refl
same_end (Cond c t f) = ap (λ x. Cond x t f) (same_op c)
same_end (Switch a w cases other) = ap₂ (λ x cs. Switch x w cs other) (same_op a) (same_cases cases)
same_end Unreachable = refl

pub end_only : (needed : ℕ → Bool) (regs : Regs) (e : FlatEnd) → AreNeeded needed (used_at_end e) → end_effect (only needed regs) e ≡ end_effect regs e
end_only needed regs (Ret None) h = refl
end_only needed regs (Ret (Some a)) h = ap (λ u. using u (λ x. Returns (Some x))) (value_only needed regs a h.0)
end_only needed regs (Br b) h = refl
end_only needed regs (Cond c t f) h = ap (λ u. using u (λ x. word_in (as_word 2 x) (λ z. Goes (if nat_eq z 0 then f.0 else t.0)))) (value_only needed regs c h.0)
end_only needed regs (Switch a w cases other) h = ap (λ u. using u (λ x. word_in (as_word (modulus w) x) (λ z. Goes (case_for z cases other).0))) (value_only needed regs a h.0)
end_only needed regs Unreachable h = refl

-- ---- the effect of an instruction that loses its result

abbrev pub lose : (ℕ → Bool) → Effect → Effect
lose keep (Puts d b) = Puts (result_kept keep d) b
lose keep (Takes d) = Takes (result_kept keep d)
lose keep (Enters d f args) = Enters (result_kept keep d) f args
lose keep (Sets d v) = Sets d v
lose keep (Allocates d size align) = Allocates d size align
lose keep (Stores m) = Stores m
lose keep (Goes b) = Goes b
lose keep (Returns v) = Returns v
lose keep (Stops w) = Stops w
lose keep NoMeaning = NoMeaning
lose keep NoValue = NoValue

-- what an instruction that is no alloca may do
abbrev pub Plain : Memory → Effect → Type 0
Plain m (Stores n) = length n ≡ length m
Plain m (Allocates d size align) = ⊥
Plain m (Goes b) = ⊥
Plain m (Returns v) = ⊥
Plain m (Sets d v) = Unit {0}
Plain m (Puts d b) = Unit {0}
Plain m (Takes d) = Unit {0}
Plain m (Enters d f args) = Unit {0}
Plain m (Stops w) = Unit {0}
Plain m NoMeaning = Unit {0}
Plain m NoValue = Unit {0}

module _ (P : Effect → Type 0) where
  by_value : (o : Option Value) (go : Value → Effect) → P NoValue → ((v : Value) → P (go v)) → P (using o go)
  by_value None go n k = n
  by_value (Some v) go n k = k v

  by_word : (x : Read) (go : ℕ → Effect) → P NoMeaning → P NoValue → ((a : ℕ) → P (go a)) → P (word_in x go)
  by_word (Is a) go u n k = k a
  by_word IsPoison go u n k = u
  by_word IsOther go u n k = n

  by_answer : (d : RegId) (a : Answer) → P NoMeaning → P NoValue → ((v : Value) → P (Sets d v)) → P (answered d a)
  by_answer d (Gives v) u n k = k v
  by_answer d NoGood u n k = u
  by_answer d Mistyped u n k = n

  by_load : (d : RegId) (o : Option Value) → P NoMeaning → ((v : Value) → P (Sets d v)) → P (load_gives d o)
  by_load d None u k = u
  by_load d (Some v) u k = k v

  by_gep : (d : RegId) (v : Value) (x : Distance) → P NoMeaning → P NoValue → ((v : Value) → P (Sets d v)) → P (gep_gives d v x)
  by_gep d v (Far k) u n s = by_answer d (moved v k) u n s
  by_gep d v PoisonFar u n s = s Poisoned
  by_gep d v NoDistance u n s = n

  by_type : (t : Bool) (e : Effect) → P NoValue → P e → P (if_typed t e)
  by_type true e n k = k
  by_type false e n k = n

  -- an instruction that sets a register alone
  abbrev SetsOne : FlatInstr → RegId → Type 0
  SetsOne (Bin e op w a b) d = e ≡ d
  SetsOne (Icmp e c s a b) d = e ≡ d
  SetsOne (Select e c a b) d = e ≡ d
  SetsOne (Cast e c from to a) d = e ≡ d
  SetsOne (Copy e a) d = e ≡ d
  SetsOne (Load e s align a) d = e ≡ d
  SetsOne (Gep e a k ts) d = e ≡ d
  SetsOne i d = ⊥

  pub sets_one : (regs : Regs) (m : Memory) (i : FlatInstr) (d : RegId) → SetsOne i d → P NoMeaning → P NoValue → ((v : Value) → P (Sets d v)) → P (effect regs m i)
  sets_one regs m (Bin e op w a b) d h u n k = subst (λ z. P (effect regs m (Bin z op w a b))) (sym h) (by_value (value_of regs a) _ n (λ x. by_value (value_of regs b) _ n (λ y. by_answer d (bin op w x y) u n k)))
  sets_one regs m (Icmp e c s a b) d h u n k = subst (λ z. P (effect regs m (Icmp z c s a b))) (sym h) (by_value (value_of regs a) _ n (λ x. by_value (value_of regs b) _ n (λ y. by_answer d (icmp m c s x y) u n k)))
  sets_one regs m (Select e c a b) d h u n k = subst (λ z. P (effect regs m (Select z c a b))) (sym h)
      (by_value (value_of regs c) _ n (λ z. by_value (value_of regs a) _ n (λ x. by_value (value_of regs b) _ n (λ y. by_answer d (choose (as_word 2 z) x y) u n k))))
  sets_one regs m (Cast e c from to a) d h u n k = subst (λ z. P (effect regs m (Cast z c from to a))) (sym h) (by_value (value_of regs a) _ n (λ x. by_answer d (cast_read c from to (as_word (modulus from) x)) u n k))
  sets_one regs m (Copy e a) d h u n k = subst (λ z. P (effect regs m (Copy z a))) (sym h) (by_value (value_of regs a) _ n k)
  sets_one regs m (Load e s align a) d h u n k = subst (λ z. P (effect regs m (Load z s align a))) (sym h) (by_value (value_of regs a) _ n (λ x. by_type (is_pointer x) _ n (by_load d (load m s align x) u k)))
  sets_one regs m (Gep e a j ts) d h u n k = subst (λ z. P (effect regs m (Gep z a j ts))) (sym h) (by_value (value_of regs a) _ n (λ x. by_gep d x (distance regs j ts) u n k))
  sets_one regs m (Alloca e size align) d h u n k = absurd h
  sets_one regs m (Store s align v a) d h u n k = absurd h
  sets_one regs m (Call e f args) d h u n k = absurd h
  sets_one regs m (Put e a) d h u n k = absurd h
  sets_one regs m (Get e) d h u n k = absurd h
  sets_one regs m (Exit a) d h u n k = absurd h

-- a store changes no number of blocks
stored_long : (m n : Memory) (s : Scalar) (align : ℕ) (v x : Value) → store m s align v x ≡ Some n → length n ≡ length m
stored_long m n s align v (At b o) e = by (slice_get m b) e
  where
    at : (t : Bool) (x : Memory) → length x ≡ length m → (if t then Some x else None) ≡ Some n → length n ≡ length m
    at true x l e = let same : x ≡ n = cc in ap length (sym same) ∙ l
    at false x l e = absurd cc

    by : (k : Option Block) → store_to m b s align v o k ≡ Some n → length n ≡ length m
    by None e = absurd cc
    by (Some k) e = at (is_within k o (scalar_size s) align && not k.constant) (slice_set m b (record k { bytes = written k.bytes o (stored s v) })) (length-set m b (record k { bytes = written k.bytes o (stored s v) })) e
stored_long m n s align v (Bits a) e = absurd cc
stored_long m n s align v NullPointer e = absurd cc
stored_long m n s align v Poisoned e = absurd cc

store_plain : (m : Memory) (o : Option Memory) → ((n : Memory) → o ≡ Some n → length n ≡ length m) → Plain m (store_gives o)
store_plain m None h = tt
store_plain m (Some n) h = h n refl

abbrev pub IsPlain : FlatInstr → Type 0
IsPlain (Alloca d size align) = ⊥
IsPlain i = Unit {0}

pub effect_plain : (regs : Regs) (m : Memory) (i : FlatInstr) → IsPlain i → Plain m (effect regs m i)
effect_plain regs m (Bin d op w a b) h = sets_one (Plain m) regs m (Bin d op w a b) d refl tt tt (λ v. tt)
effect_plain regs m (Icmp d c s a b) h = sets_one (Plain m) regs m (Icmp d c s a b) d refl tt tt (λ v. tt)
effect_plain regs m (Select d c a b) h = sets_one (Plain m) regs m (Select d c a b) d refl tt tt (λ v. tt)
effect_plain regs m (Cast d c from to a) h = sets_one (Plain m) regs m (Cast d c from to a) d refl tt tt (λ v. tt)
effect_plain regs m (Copy d a) h = sets_one (Plain m) regs m (Copy d a) d refl tt tt (λ v. tt)
effect_plain regs m (Load d s align a) h = sets_one (Plain m) regs m (Load d s align a) d refl tt tt (λ v. tt)
effect_plain regs m (Gep d a k ts) h = sets_one (Plain m) regs m (Gep d a k ts) d refl tt tt (λ v. tt)
effect_plain regs m (Alloca d size align) h = absurd h
effect_plain regs m (Store s align v a) h = by_value (Plain m) (value_of regs v) _ tt (λ x. by_value (Plain m) (value_of regs a) _ tt (λ y. by_type (Plain m) (is_of s x && is_pointer y) _ tt (store_plain m (store m s align x y) (λ n e. stored_long m n s align x y e))))
effect_plain regs m (Call d f args) h = tt
effect_plain regs m (Put d a) h = by_value (Plain m) (value_of regs a) _ tt (λ x. by_word (Plain m) (as_word 4294967296 x) _ tt tt (λ c. tt))
effect_plain regs m (Get d) h = tt
effect_plain regs m (Exit a) h = by_value (Plain m) (value_of regs a) _ tt (λ x. by_word (Plain m) (as_word 4294967296 x) _ tt tt (λ c. tt))

-- what a dropped instruction may do
abbrev pub Drops : (ℕ → Bool) → Effect → Type 0
Drops keep (Sets d v) = keep d.0 ≡ false
Drops keep (Allocates d size align) = keep d.0 ≡ false
Drops keep NoMeaning = Unit {0}
Drops keep NoValue = Unit {0}
Drops keep e = ⊥

not_kept : (t : Bool) (i : FlatInstr) → kept_if t i ≡ None → t ≡ false
not_kept true i e = absurd cc
not_kept false i e = refl

pub drops : (keep : ℕ → Bool) (regs : Regs) (m : Memory) (i : FlatInstr) → instr_kept keep i ≡ None → Drops keep (effect regs m i)
drops keep regs m (Bin d op w a b) e = sets_one (Drops keep) regs m (Bin d op w a b) d refl tt tt (λ v. not_kept (keep d.0) (Bin d op w a b) e)
drops keep regs m (Icmp d c s a b) e = sets_one (Drops keep) regs m (Icmp d c s a b) d refl tt tt (λ v. not_kept (keep d.0) (Icmp d c s a b) e)
drops keep regs m (Select d c a b) e = sets_one (Drops keep) regs m (Select d c a b) d refl tt tt (λ v. not_kept (keep d.0) (Select d c a b) e)
drops keep regs m (Cast d c from to a) e = sets_one (Drops keep) regs m (Cast d c from to a) d refl tt tt (λ v. not_kept (keep d.0) (Cast d c from to a) e)
drops keep regs m (Copy d a) e = sets_one (Drops keep) regs m (Copy d a) d refl tt tt (λ v. not_kept (keep d.0) (Copy d a) e)
drops keep regs m (Load d s align a) e = sets_one (Drops keep) regs m (Load d s align a) d refl tt tt (λ v. not_kept (keep d.0) (Load d s align a) e)
drops keep regs m (Gep d a k ts) e = sets_one (Drops keep) regs m (Gep d a k ts) d refl tt tt (λ v. not_kept (keep d.0) (Gep d a k ts) e)
drops keep regs m (Alloca d size align) e = not_kept (keep d.0) (Alloca d size align) e
drops keep regs m (Store s align v a) e = absurd cc
drops keep regs m (Call d f args) e = absurd cc
drops keep regs m (Put d a) e = absurd cc
drops keep regs m (Get d) e = absurd cc
drops keep regs m (Exit a) e = absurd cc

kept_same : (t : Bool) (i j : FlatInstr) → kept_if t i ≡ Some j → j ≡ i
kept_same true i j e = let same : i ≡ j = cc in sym same
kept_same false i j e = absurd cc

-- what a kept instruction does is what the old one does, but for its result
pub lose_effect : (keep : ℕ → Bool) (regs : Regs) (m : Memory) (i j : FlatInstr) → instr_kept keep i ≡ Some j → effect regs m j ≡ lose keep (effect regs m i)
lose_effect keep regs m (Bin d op w a b) j e = ap (effect regs m) (kept_same (keep d.0) (Bin d op w a b) j e) ∙ sets_one (λ x. x ≡ lose keep x) regs m (Bin d op w a b) d refl refl refl (λ v. refl)
lose_effect keep regs m (Icmp d c s a b) j e = ap (effect regs m) (kept_same (keep d.0) (Icmp d c s a b) j e) ∙ sets_one (λ x. x ≡ lose keep x) regs m (Icmp d c s a b) d refl refl refl (λ v. refl)
lose_effect keep regs m (Select d c a b) j e = ap (effect regs m) (kept_same (keep d.0) (Select d c a b) j e) ∙ sets_one (λ x. x ≡ lose keep x) regs m (Select d c a b) d refl refl refl (λ v. refl)
lose_effect keep regs m (Cast d c from to a) j e = ap (effect regs m) (kept_same (keep d.0) (Cast d c from to a) j e) ∙ sets_one (λ x. x ≡ lose keep x) regs m (Cast d c from to a) d refl refl refl (λ v. refl)
lose_effect keep regs m (Copy d a) j e = ap (effect regs m) (kept_same (keep d.0) (Copy d a) j e) ∙ sets_one (λ x. x ≡ lose keep x) regs m (Copy d a) d refl refl refl (λ v. refl)
lose_effect keep regs m (Load d s align a) j e = ap (effect regs m) (kept_same (keep d.0) (Load d s align a) j e) ∙ sets_one (λ x. x ≡ lose keep x) regs m (Load d s align a) d refl refl refl (λ v. refl)
lose_effect keep regs m (Gep d a k ts) j e = ap (effect regs m) (kept_same (keep d.0) (Gep d a k ts) j e) ∙ sets_one (λ x. x ≡ lose keep x) regs m (Gep d a k ts) d refl refl refl (λ v. refl)
lose_effect keep regs m (Alloca d size align) j e = ap (effect regs m) (kept_same (keep d.0) (Alloca d size align) j e)
lose_effect keep regs m (Store s align v a) j e = ap (effect regs m) (let same : Store s align v a ≡ j = cc in sym same) ∙ by_value (λ x. x ≡ lose keep x) (value_of regs v) _ refl (λ x. by_value (λ z. z ≡ lose keep z) (value_of regs a) _ refl (λ y. by_type (λ z. z ≡ lose keep z) (is_of s x && is_pointer y) _ refl (by_store (store m s align x y))))
  where
    by_store : (o : Option Memory) → store_gives o ≡ lose keep (store_gives o)
    by_store None = refl
    by_store (Some n) = refl
lose_effect keep regs m (Call d f args) j e = ap (effect regs m) (let same : Call (result_kept keep d) f args ≡ j = cc in sym same)
lose_effect keep regs m (Put d a) j e = ap (effect regs m) (let same : Put (result_kept keep d) a ≡ j = cc in sym same) ∙ by (value_of regs a)
  where
    by_read : (x : Read) → word_in x (λ c. Puts (result_kept keep d) (c % 256)) ≡ lose keep (word_in x (λ c. Puts d (c % 256)))
    by_read (Is c) = refl
    by_read IsPoison = refl
    by_read IsOther = refl

    by : (o : Option Value) → using o (λ x. word_in (as_word 4294967296 x) (λ c. Puts (result_kept keep d) (c % 256))) ≡ lose keep (using o (λ x. word_in (as_word 4294967296 x) (λ c. Puts d (c % 256))))
    by None = refl
    by (Some x) = by_read (as_word 4294967296 x)
lose_effect keep regs m (Get d) j e = ap (effect regs m) (let same : Get (result_kept keep d) ≡ j = cc in sym same)
lose_effect keep regs m (Exit a) j e = ap (effect regs m) (let same : Exit a ≡ j = cc in sym same) ∙ by_value (λ x. x ≡ lose keep x) (value_of regs a) _ refl (λ x. by_word (λ z. z ≡ lose keep z) (as_word 4294967296 x) _ refl refl (λ c. refl))

pub kept_true : (t : Bool) (i j : FlatInstr) → kept_if t i ≡ Some j → t ≡ true
kept_true true i j e = refl
kept_true false i j e = absurd cc
