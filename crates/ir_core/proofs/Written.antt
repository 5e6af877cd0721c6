-- Which register an instruction writes, and to which blocks a terminator goes.
use Rattle.std.proofs.Common.{◌≡◌, inl, inr, ℕ, Bool, true, false, ◌&&◌, if◌then◌else◌, nat_eq, List, [], ◌∷◌, ◌++◌, map, Option, Some, None, refl}
use Rattle.oi_base.specs.declared.ids.RegId.{RegId}
use Rattle.oi_base.specs.declared.ids.BlockId.{BlockId}
use Rattle.oi_base.specs.Words.{modulus}
use Rattle.ir_core.specs.declared.flat.Case.{Case}
use Rattle.ir_core.specs.declared.flat.FlatInstr.{FlatInstr}
use Rattle.ir_core.specs.declared.flat.FlatInstr.TheVariants.{Bin, Icmp, Select, Cast, Copy, Alloca, Load, Store, Gep, Call, Put, Get, Exit}
use Rattle.ir_core.specs.declared.flat.FlatEnd.{FlatEnd}
use Rattle.ir_core.specs.declared.flat.FlatEnd.TheVariants.{Ret, Br, Cond, Switch, Unreachable}
use Rattle.ir_core.specs.Memory.{Value, Memory, load, store}
use Rattle.ir_core.specs.Rows.{Answer, Gives, NoGood, Mistyped, Read, Is, IsPoison, IsOther, as_word, bin, icmp, choose, cast_read, is_pointer, is_of}
use Rattle.ir_core.specs.Flat.{Regs, Effect, Sets, Allocates, Stores, Puts, Takes, Enters, Goes, Returns, Stops, NoMeaning, NoValue, value_of, using, word_in, answered, load_gives, store_gives, if_typed, Distance, Far, PoisonFar, NoDistance, distance, gep_gives, effect, case_for, end_effect}
use Rattle.ir_core.specs.Rows.{moved}
use Rattle.ir_core.specs.Formed.{written_by, of_result, targets}
use Rattle.ir_core.proofs.Lists.{Has}

-- an effect writes the register that the instruction names, and only an alloca makes a block
abbrev pub Fits : FlatInstr → Effect → Type 0
Fits i (Sets d v) = written_by i ≡ Some d.0
Fits i (Allocates d size align) = i ≡ Alloca d size align
Fits i (Stores m) = Unit {0}
Fits i (Puts d b) = written_by i ≡ of_result d
Fits i (Takes d) = written_by i ≡ of_result d
Fits i (Enters d f args) = written_by i ≡ of_result d
Fits i (Goes b) = ⊥
Fits i (Returns v) = ⊥
Fits i (Stops w) = Unit {0}
Fits i NoMeaning = Unit {0}
Fits i NoValue = Unit {0}

-- a terminator goes to one of its targets
abbrev pub EndFits : FlatEnd → Effect → Type 0
EndFits e (Sets d v) = ⊥
EndFits e (Allocates d size align) = ⊥
EndFits e (Stores m) = ⊥
EndFits e (Puts d b) = ⊥
EndFits e (Takes d) = ⊥
EndFits e (Enters d f args) = ⊥
EndFits e (Goes b) = Has (targets e) b
EndFits e (Returns v) = Unit {0}
EndFits e (Stops w) = Unit {0}
EndFits e NoMeaning = Unit {0}
EndFits e NoValue = Unit {0}

module _ (i : FlatInstr) where
  using_fits : (v : Option Value) (go : Value → Effect) → ((x : Value) → Fits i (go x)) → Fits i (using v go)
  using_fits None go h = tt
  using_fits (Some x) go h = h x

  word_fits : (x : Read) (go : ℕ → Effect) → ((a : ℕ) → Fits i (go a)) → Fits i (word_in x go)
  word_fits (Is a) go h = h a
  word_fits IsPoison go h = tt
  word_fits IsOther go h = tt

  answered_fits : (d : RegId) (a : Answer) → written_by i ≡ Some d.0 → Fits i (answered d a)
  answered_fits d (Gives v) h = h
  answered_fits d NoGood h = tt
  answered_fits d Mistyped h = tt

  load_fits : (d : RegId) (v : Option Value) → written_by i ≡ Some d.0 → Fits i (load_gives d v)
  load_fits d None h = tt
  load_fits d (Some v) h = h

  store_fits : (o : Option Memory) → Fits i (store_gives o)
  store_fits None = tt
  store_fits (Some m) = tt

  typed_fits : (typed : Bool) (e : Effect) → Fits i e → Fits i (if_typed typed e)
  typed_fits true e h = h
  typed_fits false e h = tt

  gep_fits : (d : RegId) (v : Value) (k : Distance) → written_by i ≡ Some d.0 → Fits i (gep_gives d v k)
  gep_fits d v (Far k) h = answered_fits d (moved v k) h
  gep_fits d v PoisonFar h = h
  gep_fits d v NoDistance h = tt

pub fits : (regs : Regs) (m : Memory) (i : FlatInstr) → Fits i (effect regs m i)
fits regs m (Bin d op w a b) = let i : FlatInstr = Bin d op w a b in using_fits i (value_of regs a) _ (λ x. using_fits i (value_of regs b) _ (λ y. answered_fits i d (bin op w x y) refl))
fits regs m (Icmp d c s a b) = let i : FlatInstr = Icmp d c s a b in using_fits i (value_of regs a) _ (λ x. using_fits i (value_of regs b) _ (λ y. answered_fits i d (icmp m c s x y) refl))
fits regs m (Select d c a b) = let i : FlatInstr = Select d c a b in using_fits i (value_of regs c) _ (λ z. using_fits i (value_of regs a) _ (λ x. using_fits i (value_of regs b) _ (λ y. answered_fits i d (choose (as_word 2 z) x y) refl)))
fits regs m (Cast d c from to a) = let i : FlatInstr = Cast d c from to a in using_fits i (value_of regs a) _ (λ x. answered_fits i d (cast_read c from to (as_word (modulus from) x)) refl)
fits regs m (Copy d a) = let i : FlatInstr = Copy d a in using_fits i (value_of regs a) _ (λ x. refl)
fits regs m (Alloca d size align) = refl
fits regs m (Load d s align a) = let i : FlatInstr = Load d s align a in using_fits i (value_of regs a) _ (λ x. typed_fits i (is_pointer x) _ (load_fits i d (load m s align x) refl))
fits regs m (Store s align v a) = let i : FlatInstr = Store s align v a in using_fits i (value_of regs v) _ (λ x. using_fits i (value_of regs a) _ (λ y. typed_fits i (is_of s x && is_pointer y) _ (store_fits i (store m s align x y))))
fits regs m (Gep d a k ts) = let i : FlatInstr = Gep d a k ts in using_fits i (value_of regs a) _ (λ x. gep_fits i d x (distance regs k ts) refl)
fits regs m (Call d f args) = refl
fits regs m (Put d a) = let i : FlatInstr = Put d a in using_fits i (value_of regs a) _ (λ x. word_fits i (as_word 4294967296 x) _ (λ c. refl))
fits regs m (Get d) = refl
fits regs m (Exit a) = let i : FlatInstr = Exit a in using_fits i (value_of regs a) _ (λ x. word_fits i (as_word 4294967296 x) _ (λ c. tt))

module _ (e : FlatEnd) where
  using_leads : (v : Option Value) (go : Value → Effect) → ((x : Value) → EndFits e (go x)) → EndFits e (using v go)
  using_leads None go h = tt
  using_leads (Some x) go h = h x

  word_leads : (x : Read) (go : ℕ → Effect) → ((a : ℕ) → EndFits e (go a)) → EndFits e (word_in x go)
  word_leads (Is a) go h = h a
  word_leads IsPoison go h = tt
  word_leads IsOther go h = tt

cond_leads : (t f : ℕ) (b : Bool) → Has (t ∷ f ∷ []) (if b then f else t)
cond_leads t f true = inr (inl refl)
cond_leads t f false = inl refl

case_leads : (a : ℕ) (cases : List Case) (other : BlockId) → Has (map (λ (c : Case). c.to.0) cases ++ other.0 ∷ []) (case_for a cases other).0
case_leads a [] other = inl refl
case_leads a (c ∷ cs) other = by_test (nat_eq c.word a) (case_leads a cs other)
  where
    by_test : (t : Bool) → Has (map (λ (c : Case). c.to.0) cs ++ other.0 ∷ []) (case_for a cs other).0 → Has (map (λ (c : Case). c.to.0) (c ∷ cs) ++ other.0 ∷ []) (if t then c.to else case_for a cs other).0
    by_test true rest = inl refl
    by_test false rest = inr rest

pub leads : (regs : Regs) (e : FlatEnd) → EndFits e (end_effect regs e)
leads regs (Ret None) = tt
leads regs (Ret (Some a)) = let e : FlatEnd = (Ret (Some a)) in using_leads e (value_of regs a) _ (λ x. tt)
leads regs (Br b) = inl refl
leads regs (Cond c t f) = let e : FlatEnd = (Cond c t f) in using_leads e (value_of regs c) _ (λ x. word_leads e (as_word 2 x) _ (λ z. cond_leads t.0 f.0 (nat_eq z 0)))
leads regs (Switch a w cases other) = let e : FlatEnd = (Switch a w cases other) in using_leads e (value_of regs a) _ (λ x. word_leads e (as_word (modulus w) x) _ (λ z. case_leads z cases other))
leads regs Unreachable = tt
