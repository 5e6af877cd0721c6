-- With other numbers for registers and blocks an instruction does the same.
use Rattle.std.proofs.Common.{◌≡◌, ℕ, Bool, true, false, ◌&&◌, if◌then◌else◌, nat_eq, List, [], ◌∷◌, map, Option, Some, None, refl, ap, ◌∙◌}
use Rattle.std.specs.Option.{option_map}
use Rattle.oi_base.specs.declared.ids.RegId.{RegId}
use Rattle.oi_base.specs.declared.ids.BlockId.{BlockId}
use Rattle.oi_base.specs.Words.{modulus}
use Rattle.ir_core.specs.declared.flat.FlatOp.{FlatOp}
use Rattle.ir_core.specs.declared.flat.FlatOp.TheVariants.{Reg, Word, Null, Address, Poison}
use Rattle.ir_core.specs.declared.flat.Term.{Term}
use Rattle.ir_core.specs.declared.flat.Case.{Case}
use Rattle.ir_core.specs.declared.flat.FlatInstr.{FlatInstr}
use Rattle.ir_core.specs.declared.flat.FlatInstr.TheVariants.{Bin, Icmp, Select, Cast, Copy, Alloca, Load, Store, Gep, Call, Put, Get, Exit}
use Rattle.ir_core.specs.declared.flat.FlatEnd.{FlatEnd}
use Rattle.ir_core.specs.declared.flat.FlatEnd.TheVariants.{Ret, Br, Cond, Switch, Unreachable}
use Rattle.ir_core.specs.Memory.{Value, Memory, load, store}
use Rattle.ir_core.specs.Rows.{Answer, Gives, NoGood, Mistyped, Read, Is, IsPoison, IsOther, as_word, bin, icmp, choose, cast_read, is_pointer, is_of}
use Rattle.ir_core.specs.Flat.{Regs, Effect, Sets, Allocates, Stores, Puts, Takes, Enters, Goes, Returns, Stops, NoMeaning, NoValue, value_of, using, operand, word_in, answered, load_gives, store_gives, if_typed, Distance, Far, PoisonFar, NoDistance, further, read_option, distance, gep_gives, arguments, effect, case_for, end_effect}
use Rattle.ir_core.specs.Plain.{Numbers, other_reg, other_block, other_operand, other_term, other_instr, other_case, other_end}

abbrev pub other_effect : Numbers → Effect → Effect
other_effect n (Sets d v) = Sets (other_reg n d) v
other_effect n (Allocates d size align) = Allocates (other_reg n d) size align
other_effect n (Stores m) = Stores m
other_effect n (Puts d b) = Puts (option_map (other_reg n) d) b
other_effect n (Takes d) = Takes (option_map (other_reg n) d)
other_effect n (Enters d f args) = Enters (option_map (other_reg n) d) f args
other_effect n (Goes b) = Goes (n.block b)
other_effect n (Returns v) = Returns v
other_effect n (Stops w) = Stops w
other_effect n NoMeaning = NoMeaning
other_effect n NoValue = NoValue

module _ (n : Numbers) where
  using_other : (v : Option Value) (go go' : Value → Effect) → ((x : Value) → go' x ≡ other_effect n (go x)) → using v go' ≡ other_effect n (using v go)
  using_other None go go' h = refl
  using_other (Some x) go go' h = h x

  word_other : (x : Read) (go go' : ℕ → Effect) → ((a : ℕ) → go' a ≡ other_effect n (go a)) → word_in x go' ≡ other_effect n (word_in x go)
  word_other (Is a) go go' h = h a
  word_other IsPoison go go' h = refl
  word_other IsOther go go' h = refl

  answered_other : (d : RegId) (a : Answer) → answered (other_reg n d) a ≡ other_effect n (answered d a)
  answered_other d (Gives v) = refl
  answered_other d NoGood = refl
  answered_other d Mistyped = refl

  load_other : (d : RegId) (v : Option Value) → load_gives (other_reg n d) v ≡ other_effect n (load_gives d v)
  load_other d None = refl
  load_other d (Some v) = refl

  store_other : (o : Option Memory) → store_gives o ≡ other_effect n (store_gives o)
  store_other None = refl
  store_other (Some m) = refl

  typed_other : (typed : Bool) (e e' : Effect) → e' ≡ other_effect n e → if_typed typed e' ≡ other_effect n (if_typed typed e)
  typed_other true e e' h = h
  typed_other false e e' h = refl

  gep_other : (d : RegId) (v : Value) (k : Distance) → gep_gives (other_reg n d) v k ≡ other_effect n (gep_gives d v k)
  gep_other d v (Far k) = answered_other d _
  gep_other d v PoisonFar = refl
  gep_other d v NoDistance = refl

  case_other : (a : ℕ) (cases : List Case) (other : BlockId) → (case_for a (map (other_case n) cases) (other_block n other)).0 ≡ n.block (case_for a cases other).0
  case_other a [] other = refl
  case_other a (c ∷ cs) other = by_test (nat_eq c.word a) (case_other a cs other)
    where
      by_test : (t : Bool) → (case_for a (map (other_case n) cs) (other_block n other)).0 ≡ n.block (case_for a cs other).0 → (if t then other_block n c.to else case_for a (map (other_case n) cs) (other_block n other)).0 ≡ n.block (if t then c.to else case_for a cs other).0
      by_test true rest = refl
      by_test false rest = rest

  cond_other : (t f : BlockId) (b : Bool) → Goes (if b then (other_block n f).0 else (other_block n t).0) ≡ other_effect n (Goes (if b then f.0 else t.0))
  cond_other t f true = refl
  cond_other t f false = refl

  module _ (old new : Regs) (same : (x : ℕ) → new (n.reg x) ≡ old x) where
    pub value_other : (o : FlatOp) → value_of new (other_operand n o) ≡ value_of old o
    value_other (Reg r) = same r.0
    value_other (Word a) = refl
    value_other Null = refl
    value_other (Address g k) = refl
    value_other Poison = refl

    operand_other : (o : FlatOp) (go go' : Value → Effect) → ((x : Value) → go' x ≡ other_effect n (go x)) → operand new (other_operand n o) go' ≡ other_effect n (operand old o go)
    operand_other o go go' h = ap (λ v. using v go') (value_other o) ∙ using_other (value_of old o) go go' h

    distance_other : (k : ℕ) (ts : List Term) → distance new k (map (other_term n) ts) ≡ distance old k ts
    distance_other k [] = refl
    distance_other k (t ∷ ts) =
        ap (λ v. further (other_term n t) (read_option (modulus t.width) v) (distance new k (map (other_term n) ts))) (value_other t.operand)
        ∙ ap (λ d. further t (read_option (modulus t.width) (value_of old t.operand)) d) (distance_other k ts)

    arguments_other : (as' : List FlatOp) → arguments new (map (other_operand n) as') ≡ arguments old as'
    arguments_other [] = refl
    arguments_other (a ∷ as') = ap (λ v. v ∷ arguments new (map (other_operand n) as')) (value_other a) ∙ ap (λ vs. value_of old a ∷ vs) (arguments_other as')

    pub effect_other : (m : Memory) (i : FlatInstr) → effect new m (other_instr n i) ≡ other_effect n (effect old m i)
    effect_other m (Bin d op w a b) = operand_other a _ _ (λ x. operand_other b _ _ (λ y. answered_other d (bin op w x y)))
    effect_other m (Icmp d c s a b) = operand_other a _ _ (λ x. operand_other b _ _ (λ y. answered_other d (icmp m c s x y)))
    effect_other m (Select d c a b) = operand_other c _ _ (λ z. operand_other a _ _ (λ x. operand_other b _ _ (λ y. answered_other d (choose (as_word 2 z) x y))))
    effect_other m (Cast d c from to a) = operand_other a _ _ (λ x. answered_other d (cast_read c from to (as_word (modulus from) x)))
    effect_other m (Copy d a) = operand_other a _ _ (λ x. refl)
    effect_other m (Alloca d size align) = refl
    effect_other m (Load d s align a) = operand_other a _ _ (λ x. typed_other (is_pointer x) _ _ (load_other d (load m s align x)))
    effect_other m (Store s align v a) = operand_other v _ _ (λ x. operand_other a _ _ (λ y. typed_other (is_of s x && is_pointer y) _ _ (store_other (store m s align x y))))
    effect_other m (Gep d a k ts) = operand_other a _ _ (λ x. ap (λ e. gep_gives (other_reg n d) x e) (distance_other k ts) ∙ gep_other d x (distance old k ts))
    effect_other m (Call d f args) = ap (λ vs. Enters (option_map (other_reg n) d) f.0 vs) (arguments_other args)
    effect_other m (Put d a) = operand_other a _ _ (λ x. word_other (as_word 4294967296 x) _ _ (λ c. refl))
    effect_other m (Get d) = refl
    effect_other m (Exit a) = operand_other a _ _ (λ x. word_other (as_word 4294967296 x) _ _ (λ c. refl))

    pub end_other : (e : FlatEnd) → end_effect new (other_end n e) ≡ other_effect n (end_effect old e)
    end_other (Ret None) = refl
    end_other (Ret (Some a)) = operand_other a _ _ (λ x. refl)
    end_other (Br b) = refl
    end_other (Cond c t f) = operand_other c _ _ (λ x. word_other (as_word 2 x) _ _ (λ z. cond_other t f (nat_eq z 0)))
    end_other (Switch a w cases other) = operand_other a _ _ (λ x. word_other (as_word (modulus w) x) _ _ (λ z. ap Goes (case_other z cases other)))
    end_other Unreachable = refl
