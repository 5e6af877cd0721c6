-- What the instructions and the ends of blocks of a formed body do, where their operands' values are there and of their types.
use Rattle.std.proofs.Common.{◌≡◌, inl, inr, ℕ, ◌<◌, List, [], ◌∷◌, ◌++◌, map, Option, Some, None, All, Contains, Bool, true, false, ◌&&◌, nat_eq, if◌then◌else◌, refl, sym, subst, arith}
use Rattle.std.specs.List.{AllByRecursion as Each}
use Rattle.std.proofs.lemmas.List.Elements.{All-head, All-tail}
use Rattle.oi_base.specs.declared.words.Width.TheVariants.{W1, W32}
use Rattle.oi_base.specs.declared.ids.RegId.{RegId}
use Rattle.oi_base.specs.declared.ids.BlockId.{BlockId}
use Rattle.oi_base.specs.Words.{modulus}
use Rattle.ir_core.specs.declared.flat.Scalar.{Scalar}
use Rattle.ir_core.specs.declared.flat.Scalar.TheVariants as scalar
use Rattle.ir_core.specs.declared.flat.FlatOp.{FlatOp}
use Rattle.ir_core.specs.declared.flat.FlatOp.TheVariants.{Reg, Word, Null, Address, Poison}
use Rattle.ir_core.specs.declared.flat.Term.{Term}
use Rattle.ir_core.specs.declared.flat.Case.{Case}
use Rattle.ir_core.specs.declared.flat.FlatInstr.{FlatInstr}
use Rattle.ir_core.specs.declared.flat.FlatInstr.TheVariants.{Bin, Icmp, Select, Cast, Copy, Alloca, Load, Store, Gep, Call, Put, Get, Exit}
use Rattle.ir_core.specs.declared.flat.FlatEnd.{FlatEnd}
use Rattle.ir_core.specs.declared.flat.FlatEnd.TheVariants.{Ret, Br, Cond, Switch, Unreachable}
use Rattle.ir_core.specs.declared.flat.FlatBlock.{FlatBlock}
use Rattle.ir_core.specs.declared.flat.FlatBody.{FlatBody}
use Rattle.ir_core.specs.Memory.{Value, Bits, At, NullPointer, Poisoned, Memory, load, store}
use Rattle.ir_core.specs.Rows.{Answer, Gives, NoGood, Mistyped, Read, Is, IsPoison, IsOther, as_word, bin, icmp, choose, cast_read, moved, is_pointer, is_of}
use Rattle.ir_core.specs.Flat.{Program, Regs, Effect, Sets, Allocates, Stores, Puts, Takes, Enters, Goes, Returns, Stops, NoMeaning, NoValue, value_of, using, operand, word_in, answered, load_gives, store_gives, if_typed, Distance, Far, PoisonFar, NoDistance, further, read_option, distance, gep_gives, arguments, effect, case_for, end_effect}
use Rattle.ir_core.specs.Formed.{FuncType, HasType, Receives, AllTyped, ReturnsType, IsBlock, of_result, written_by, used_by, used_at_end, targets}
use Rattle.ir_core.proofs.Lists.{Has, contains}
use Rattle.ir_safety.proofs.Safe.{IsTypedInstr, IsTypedEnd}
use Rattle.ir_safety.proofs.Typed.{IsOf, Answers, IsWord, Loads, tested, word_read, bin_of, icmp_of, choose_of, poison_of, cast_of, moved_of, load_of}

-- the operand's value is there and of this type
abbrev pub HasValue : Regs → FlatOp → Scalar → Type 0
HasValue regs o s = (v : Value) × (value_of regs o ≡ Some v) × IsOf s v

-- a register that is used has a value of its type
abbrev pub IsThere : (ℕ → Scalar) → Regs → FlatOp → Type 0
IsThere types regs (Reg r) = HasValue regs (Reg r) (types r.0)
IsThere types regs o = Unit {0}

-- a list of values, which are there and of these types
abbrev pub AreOf : List (Option Value) → List Scalar → Type 0
AreOf [] [] = Unit {0}
AreOf (None ∷ vs) (s ∷ ss) = ⊥
AreOf (Some v ∷ vs) (s ∷ ss) = IsOf s v × AreOf vs ss
AreOf [] (s ∷ ss) = ⊥
AreOf (v ∷ vs) [] = ⊥

-- what an instruction that writes this register, and the end of a block with these targets in a function with this result, may do
module _ (p : Program) (types : ℕ → Scalar) (funcs : ℕ → FuncType) where
  -- the function's body, and its first block, which has no phis
  abbrev pub Callee : ℕ → Type 0
  Callee f = (body : FlatBody) × (p.body f ≡ Some body) × ((k : FlatBlock) × IsBlock body 0 k × (k.phis ≡ []))

  abbrev pub MayDo : Option ℕ → Effect → Type 0
  MayDo written (Sets d v) = (written ≡ Some d.0) × IsOf (types d.0) v
  MayDo written (Allocates d size align) = (written ≡ Some d.0) × (types d.0 ≡ scalar.Pointer)
  MayDo written (Stores m) = written ≡ None
  MayDo written (Puts d b) = (written ≡ of_result d) × Receives types d (Some (scalar.Word W32)) × (b < 256)
  MayDo written (Takes d) = (written ≡ of_result d) × Receives types d (Some (scalar.Word W32))
  MayDo written (Enters d f args) = (written ≡ of_result d) × AreOf args (funcs f).params × Receives types d (funcs f).result × Callee f
  MayDo written (Goes b) = ⊥
  MayDo written (Returns v) = ⊥
  MayDo written (Stops w) = Unit {0}
  MayDo written NoMeaning = Unit {0}
  MayDo written NoValue = ⊥

  abbrev pub MayEnd : Option Scalar → List ℕ → Effect → Type 0
  MayEnd result to (Goes b) = Contains to b
  MayEnd result to (Returns None) = result ≡ None
  MayEnd result to (Returns (Some v)) = (s : Scalar) × (result ≡ Some s) × IsOf s v
  MayEnd result to NoMeaning = Unit {0}
  MayEnd result to e = ⊥

  -- ---- operands

  pub value_there : (regs : Regs) (o : FlatOp) (s : Scalar) → IsThere types regs o → HasType types o s → HasValue regs o s
  value_there regs (Reg r) s h t = (h.0, h.1, subst (λ (k : Scalar). IsOf k h.0) t h.2)
  value_there regs (Word a) (scalar.Word w) h t = (Bits a, refl, tested a (modulus w) t)
  value_there regs (Word a) scalar.Pointer h t = absurd t
  value_there regs Null s h t = (NullPointer, refl, subst (λ (k : Scalar). IsOf k NullPointer) (sym t) refl)
  value_there regs (Address g k) s h t = (At g k, refl, subst (λ (j : Scalar). IsOf j (At g k)) (sym t.0) refl)
  value_there regs Poison s h t = (Poisoned, refl, poison_of s)

  use_value : (E : Effect → Type 0) (regs : Regs) (o : FlatOp) (s : Scalar) (go : Value → Effect) → IsThere types regs o → HasType types o s → ((v : Value) → IsOf s v → E (go v)) → E (operand regs o go)
  use_value E regs o s go h t k = let v = value_there regs o s h t in subst (λ (x : Option Value). E (using x go)) (sym v.1) (k v.0 v.2)

  use_word : (E : Effect → Type 0) (m : ℕ) (x : Read) (go : ℕ → Effect) → IsWord m x → ((a : ℕ) → E (go a)) → E NoMeaning → E (word_in x go)
  use_word E m (Is a) go h k u = k a
  use_word E m IsPoison go h k u = u
  use_word E m IsOther go h k u = absurd h

  -- ---- instructions

  answer_may : (d : RegId) (s : Scalar) (x : Answer) → types d.0 ≡ s → Answers s x → MayDo (Some d.0) (answered d x)
  answer_may d s (Gives v) t h = (refl, subst (λ (k : Scalar). IsOf k v) (sym t) h)
  answer_may d s NoGood t h = tt
  answer_may d s Mistyped t h = absurd h

  load_may : (d : RegId) (s : Scalar) (o : Option Value) → types d.0 ≡ s → Loads s o → MayDo (Some d.0) (load_gives d o)
  load_may d s None t h = tt
  load_may d s (Some v) t h = (refl, subst (λ (k : Scalar). IsOf k v) (sym t) h)

  store_may : (o : Option Memory) → MayDo None (store_gives o)
  store_may None = tt
  store_may (Some m) = refl

  typed_may : (written : Option ℕ) (typed : Bool) (e : Effect) → typed ≡ true → MayDo written e → MayDo written (if_typed typed e)
  typed_may written true e t h = h
  typed_may written false e t h = absurd cc

  pointer_typed : (v : Value) → IsOf scalar.Pointer v → is_pointer v ≡ true
  pointer_typed (Bits a) h = h
  pointer_typed (At b o) h = refl
  pointer_typed NullPointer h = refl
  pointer_typed Poisoned h = refl

  -- distances
  abbrev Spans : Distance → Type 0
  Spans (Far k) = Unit {0}
  Spans PoisonFar = Unit {0}
  Spans NoDistance = ⊥

  further_spans : (t : Term) (x : Read) (k : Distance) → IsWord (modulus t.width) x → Spans k → Spans (further t x k)
  further_spans t (Is a) (Far k) h g = tt
  further_spans t IsPoison (Far k) h g = tt
  further_spans t IsOther k h g = absurd h
  further_spans t (Is a) PoisonFar h g = tt
  further_spans t IsPoison PoisonFar h g = tt
  further_spans t (Is a) NoDistance h g = absurd g
  further_spans t IsPoison NoDistance h g = absurd g

  abbrev IsTerm : Term → Type 0
  IsTerm t = HasType types t.operand (scalar.Word t.width)

  distance_spans : (regs : Regs) (k : ℕ) (ts : List Term) → Each (IsThere types regs) (map (λ (t : Term). t.operand) ts) → All IsTerm ts → Spans (distance regs k ts)
  distance_spans regs k [] h g = tt
  distance_spans regs k (t ∷ ts) h g =
      let v = value_there regs t.operand (scalar.Word t.width) h.0 (All-head IsTerm t ts g) in
      subst (λ (x : Option Value). Spans (further t (read_option (modulus t.width) x) (distance regs k ts))) (sym v.1)
      (further_spans t (as_word (modulus t.width) v.0) (distance regs k ts) (word_read t.width v.0 v.2) (distance_spans regs k ts h.1 (All-tail IsTerm t ts g)))

  gep_may : (d : RegId) (v : Value) (k : Distance) → types d.0 ≡ scalar.Pointer → IsOf scalar.Pointer v → Spans k → MayDo (Some d.0) (gep_gives d v k)
  gep_may d v (Far k) t h g = answer_may d scalar.Pointer (moved v k) t (moved_of v k h)
  gep_may d v PoisonFar t h g = (refl, poison_of (types d.0))
  gep_may d v NoDistance t h g = absurd g

  arguments_of : (regs : Regs) (os : List FlatOp) (ss : List Scalar) → Each (IsThere types regs) os → AllTyped types os ss → AreOf (arguments regs os) ss
  arguments_of regs [] [] h t = tt
  arguments_of regs [] (s ∷ ss) h t = absurd t
  arguments_of regs (o ∷ os) [] h t = absurd t
  arguments_of regs (o ∷ os) (s ∷ ss) h t =
      let v = value_there regs o s h.0 t.0 in
      subst (λ (x : Option Value). AreOf (x ∷ arguments regs os) (s ∷ ss)) (sym v.1) (v.2, arguments_of regs os ss h.1 t.1)

  -- a call's callee is there
  abbrev pub CallsOne : FlatInstr → Type 0
  CallsOne (Call d f args) = Callee f.0
  CallsOne i = Unit {0}

  pub effect_may : (regs : Regs) (m : Memory) (i : FlatInstr) → Each (IsThere types regs) (used_by i) → IsTypedInstr types funcs i → CallsOne i → MayDo (written_by i) (effect regs m i)
  effect_may regs m (Bin d op w a b) h t c =
      use_value (MayDo (Some d.0)) regs a (scalar.Word w) _ h.0 t.1 (λ x hx. use_value (MayDo (Some d.0)) regs b (scalar.Word w) _ h.1.0 t.2 (λ y hy.
      answer_may d (scalar.Word w) (bin op w x y) t.0 (bin_of op w x y hx hy)))
  effect_may regs m (Icmp d k s a b) h t c =
      use_value (MayDo (Some d.0)) regs a s _ h.0 t.1 (λ x hx. use_value (MayDo (Some d.0)) regs b s _ h.1.0 t.2 (λ y hy.
      answer_may d (scalar.Word W1) (icmp m k s x y) t.0 (icmp_of m k s x y hx hy)))
  effect_may regs m (Select d z a b) h t c =
      use_value (MayDo (Some d.0)) regs z (scalar.Word W1) _ h.0 t.0 (λ x hx. use_value (MayDo (Some d.0)) regs a (types d.0) _ h.1.0 t.1 (λ y hy.
      use_value (MayDo (Some d.0)) regs b (types d.0) _ h.1.1.0 t.2 (λ u hu.
      answer_may d (types d.0) (choose (as_word 2 x) y u) refl (choose_of (types d.0) (as_word 2 x) y u (word_read W1 x hx) hy hu (poison_of (types d.0))))))
  effect_may regs m (Cast d k from into a) h t c =
      use_value (MayDo (Some d.0)) regs a (scalar.Word from) _ h.0 t.1 (λ x hx.
      answer_may d (scalar.Word into) (cast_read k from into (as_word (modulus from) x)) t.0 (cast_of k from into (as_word (modulus from) x) t.2 (word_read from x hx)))
  effect_may regs m (Copy d a) h t c = use_value (MayDo (Some d.0)) regs a (types d.0) _ h.0 t (λ x hx. (refl, hx))
  effect_may regs m (Alloca d size align) h t c = (refl, t)
  effect_may regs m (Load d s align a) h t c =
      use_value (MayDo (Some d.0)) regs a scalar.Pointer _ h.0 t.1 (λ x hx.
      typed_may (Some d.0) (is_pointer x) _ (pointer_typed x hx) (load_may d s (load m s align x) t.0 (load_of m s align x)))
  effect_may regs m (Store s align v a) h t c =
      use_value (MayDo None) regs v s _ h.0 t.0 (λ x hx. use_value (MayDo None) regs a scalar.Pointer _ h.1.0 t.1 (λ y hy.
      typed_may None (is_of s x && is_pointer y) _ (rw hx (pointer_typed y hy)) (store_may (store m s align x y))))
  effect_may regs m (Gep d a k ts) h t c =
      use_value (MayDo (Some d.0)) regs a scalar.Pointer _ h.0 t.1 (λ x hx. gep_may d x (distance regs k ts) t.0 hx (distance_spans regs k ts h.1 t.2))
  effect_may regs m (Call d f args) h t c = (refl, arguments_of regs args (funcs f.0).params h t.0, t.1, c)
  effect_may regs m (Put d a) h t c =
      use_value (MayDo (of_result d)) regs a (scalar.Word W32) _ h.0 t.0 (λ x hx.
      use_word (MayDo (of_result d)) 4294967296 (as_word 4294967296 x) _ (word_read W32 x hx) (λ b. (refl, t.1, omega arith)) tt)
  effect_may regs m (Get d) h t c = (refl, t)
  effect_may regs m (Exit a) h t c =
      use_value (MayDo None) regs a (scalar.Word W32) _ h.0 t (λ x hx. use_word (MayDo None) 4294967296 (as_word 4294967296 x) _ (word_read W32 x hx) (λ b. tt) tt)

  -- ---- ends of blocks

  case_has : (a : ℕ) (cases : List Case) (other : BlockId) → Has (map (λ (c : Case). c.to.0) cases ++ other.0 ∷ []) (case_for a cases other).0
  case_has a [] other = inl refl
  case_has a (c ∷ cs) other = at (nat_eq c.word a) (case_has a cs other)
    where
      at : (t : Bool) → Has (map (λ (c : Case). c.to.0) cs ++ other.0 ∷ []) (case_for a cs other).0 → Has (c.to.0 ∷ (map (λ (c : Case). c.to.0) cs ++ other.0 ∷ [])) (if t then c.to else case_for a cs other).0
      at true h = inl refl
      at false h = inr h

  branch_has : (t : Bool) (x y : ℕ) → Has (x ∷ y ∷ []) (if t then y else x)
  branch_has true x y = inr (inl refl)
  branch_has false x y = inl refl

  nothing_returned : (r : Option Scalar) → ReturnsType types r None → r ≡ None
  nothing_returned None h = refl
  nothing_returned (Some s) h = absurd h

  something_returned : (r : Option Scalar) (a : FlatOp) → ReturnsType types r (Some a) → (s : Scalar) × (r ≡ Some s) × HasType types a s
  something_returned None a h = absurd h
  something_returned (Some s) a h = (s, refl, h)

  pub end_may : (result : Option Scalar) (regs : Regs) (e : FlatEnd) → Each (IsThere types regs) (used_at_end e) → IsTypedEnd types result e → MayEnd result (targets e) (end_effect regs e)
  end_may result regs (Ret None) h t = nothing_returned result t
  end_may result regs (Ret (Some a)) h t =
      let r = something_returned result a t in
      use_value (MayEnd result []) regs a r.0 _ h.0 r.2 (λ x hx. (r.0, r.1, hx))
  end_may result regs (Br b) h t = contains (b.0 ∷ []) b.0 (inl refl)
  end_may result regs (Cond c x y) h t =
      use_value (MayEnd result (x.0 ∷ y.0 ∷ [])) regs c (scalar.Word W1) _ h.0 t (λ v hv.
      use_word (MayEnd result (x.0 ∷ y.0 ∷ [])) 2 (as_word 2 v) _ (word_read W1 v hv) (λ z. contains (x.0 ∷ y.0 ∷ []) _ (branch_has (nat_eq z 0) x.0 y.0)) tt)
  end_may result regs (Switch a w cases other) h t =
      use_value (MayEnd result (targets (Switch a w cases other))) regs a (scalar.Word w) _ h.0 t (λ x hx.
      use_word (MayEnd result (targets (Switch a w cases other))) (modulus w) (as_word (modulus w) x) _ (word_read w x hx) (λ z. contains (targets (Switch a w cases other)) _ (case_has z cases other)) tt)
  end_may result regs Unreachable h t = tt
