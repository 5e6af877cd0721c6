-- In the runs of a formed program each register that has a value has one of its type, and offsets are numbers of 32 bits.
use Rattle.std.proofs.Common.{◌≡◌, inl, inr, ⊎_elim, ℕ, zero, suc, ◌+◌, ◌%◌, ◌<◌, Bool, true, false, ◌&&◌, nat_eq, if◌then◌else◌, List, [], ◌∷◌, ◌++◌, length, take, Option, Some, None, slice_get, All, Contains, refl, sym, ap, subst, arith}
use Rattle.std.specs.List.{AllByRecursion as Each}
use Rattle.std.specs.Fn.{iterate}
use Rattle.std.proofs.lemmas.Bool.Decides.{nat_tests}
use Rattle.std.proofs.lemmas.Option.{slice_get_cases}
use Rattle.std.proofs.lemmas.List.Elements.{All-head, All-tail, All-from_recursion}
use Rattle.oi_base.specs.declared.words.Width.{Width}
use Rattle.oi_base.specs.declared.words.Width.TheVariants.{W1, W32}
use Rattle.oi_base.specs.declared.ids.RegId.{RegId}
use Rattle.oi_base.specs.Words.{modulus}
use Rattle.oi_base.specs.Follows.{Status, Going, Ended, Undefined, Stuck}
use Rattle.ir_core.specs.declared.flat.Scalar.{Scalar}
use Rattle.ir_core.specs.declared.flat.Scalar.TheVariants as scalar
use Rattle.ir_core.specs.declared.flat.FlatOp.{FlatOp}
use Rattle.ir_core.specs.declared.flat.FlatOp.TheVariants.{Reg, Word, Null, Address, Poison}
use Rattle.ir_core.specs.declared.flat.Entry.{Entry}
use Rattle.ir_core.specs.declared.flat.Phi.{Phi}
use Rattle.ir_core.specs.declared.flat.FlatInstr.{FlatInstr}
use Rattle.ir_core.specs.declared.flat.FlatInstr.TheVariants.{Bin, Icmp, Select, Cast, Copy, Alloca, Load, Store, Gep, Call, Put, Get, Exit}
use Rattle.ir_core.specs.declared.flat.FlatEnd.{FlatEnd}
use Rattle.ir_core.specs.declared.flat.FlatEnd.TheVariants.{Ret, Br, Cond, Switch, Unreachable}
use Rattle.ir_core.specs.declared.flat.FlatBlock.{FlatBlock}
use Rattle.ir_core.specs.declared.flat.FlatBody.{FlatBody}
use Rattle.ir_core.specs.Memory.{Value, Bits, At, NullPointer, Poisoned, Memory, load, store, kill_all}
use Rattle.ir_core.specs.Rows.{Answer, Gives, NoGood, Mistyped, Read, Is, IsPoison, IsOther, as_word, bin, icmp, choose, cast_read, moved, is_pointer, is_of}
use Rattle.ir_core.specs.Flat.{Program, Activation, Run, Regs, with_reg, Effect, Sets, Allocates, Stores, Puts, Takes, Enters, Goes, Returns, Stops, NoMeaning, NoValue, value_of, using, operand, word_in, answered, load_gives, store_gives, if_typed, Distance, Far, PoisonFar, NoDistance, distance, gep_gives, arguments, effect, end_effect, with_result, without, got, at_most_one, entered, entry_for, entry_value, with_phi, after_phis, block_of, stands_at, goes_into, ended, back, returned, applied, what_stands, in_block, turn_of, flat_step, flat_start}
use Rattle.ir_core.specs.Formed.{FuncType, HasType, Receives, AllTyped, ReturnsType, IsTyped, IsEndTyped, IsFormed}
use Rattle.ir_core.proofs.Lists.{Has, contains}
use Rattle.ir_safety.specs.TypedRuns.{HasOffset, IsValueOf, HoldsTypes, HoldsOffsets, activations}
use Rattle.ir_safety.proofs.Typed.{IsOf, Answers, Loads, tested, word_read, bin_of, icmp_of, poison_of, cast_of, load_of}
use Rattle.ir_safety.proofs.Offsets.{GivesOffset, load_offset, KeepsOffsets, store_keeps, fresh_holds, kill_keeps, kill_all_keeps}
use Rattle.ir_safety.proofs.Elements.{same_some}
use Rattle.ir_safety.proofs.GlobalPointers.{offsets_held}

-- ---- values

-- a word has no offset
word_offset : (w : Width) (v : Value) → IsOf (scalar.Word w) v → HasOffset v
word_offset w (Bits a) h = tt
word_offset w (At b o) h = absurd cc
word_offset w NullPointer h = tt
word_offset w Poisoned h = tt

with_reg_holds : (types : ℕ → Scalar) (regs : Regs) (d : ℕ) (v : Value) → IsValueOf (types d) v → ((r : ℕ) (u : Value) → regs r ≡ Some u → IsValueOf (types r) u) → (r : ℕ) (u : Value) → with_reg regs d v r ≡ Some u → IsValueOf (types r) u
with_reg_holds types regs d v h old r u e = at (nat_eq r d) refl e
  where
    at : (t : Bool) → nat_eq r d ≡ t → (if t then Some v else regs r) ≡ Some u → IsValueOf (types r) u
    at true f e =
        let same : r ≡ d = grind (arith, nat_tests) in
        subst (λ (k : Scalar). IsValueOf k u) (ap types (sym same)) (subst (IsValueOf (types d)) (same_some v u e) h)
    at false f e = old r u e

module _ (types : ℕ → Scalar) (funcs : ℕ → FuncType) where
  abbrev Holds : Regs → Type 0
  Holds regs = (r : ℕ) (v : Value) → regs r ≡ Some v → IsValueOf (types r) v

  -- values of some types, as far as there are both
  abbrev pub AreArguments : List (Option Value) → List Scalar → Type 0
  AreArguments args ss = (k : ℕ) (v : Value) (s : Scalar) → slice_get args k ≡ Some (Some v) → slice_get ss k ≡ Some s → IsValueOf s v

  abbrev pub IsResult : Option Scalar → Option Value → Type 0
  IsResult result None = Unit {0}
  IsResult result (Some v) = (s : Scalar) → result ≡ Some s → IsValueOf s v

  -- what an effect may give in a function with this result
  abbrev pub IsGood : Option Scalar → Effect → Type 0
  IsGood result (Sets d v) = IsValueOf (types d.0) v
  IsGood result (Allocates d size align) = types d.0 ≡ scalar.Pointer
  IsGood result (Stores m) = HoldsOffsets m
  IsGood result (Puts d b) = Receives types d (Some (scalar.Word W32)) × (b < 256)
  IsGood result (Takes d) = Receives types d (Some (scalar.Word W32))
  IsGood result (Enters d f args) = AreArguments args (funcs f).params × Receives types d (funcs f).result
  IsGood result (Returns v) = IsResult result v
  IsGood result e = Unit {0}

  -- an operand's value is of its type
  module _ (regs : Regs) (holds : Holds regs) where
    of_operand : (o : FlatOp) (s : Scalar) (v : Value) → HasType types o s → value_of regs o ≡ Some v → IsValueOf s v
    of_operand (Reg r) s v t e = subst (λ (k : Scalar). IsValueOf k v) t (holds r.0 v e)
    of_operand (Word a) (scalar.Word w) v t e = subst (IsValueOf (scalar.Word w)) (same_some (Bits a) v e) (tested a (modulus w) t, tt)
    of_operand (Word a) scalar.Pointer v t e = absurd t
    of_operand Null s v t e = subst (IsValueOf s) (same_some NullPointer v e) (subst (λ (k : Scalar). IsOf k NullPointer) (sym t) refl, tt)
    of_operand (Address g k) s v t e = subst (IsValueOf s) (same_some (At g k) v e) (subst (λ (j : Scalar). IsOf j (At g k)) (sym t.0) refl, t.1)
    of_operand Poison s v t e = subst (IsValueOf s) (same_some Poisoned v e) (poison_of s, tt)

    with_operand : (E : Effect → Type 0) (o : FlatOp) (s : Scalar) (go : Value → Effect) → HasType types o s → E NoValue → ((v : Value) → IsValueOf s v → E (go v)) → E (operand regs o go)
    with_operand E o s go t none k = by (value_of regs o) refl
      where
        by : (x : Option Value) → value_of regs o ≡ x → E (using x go)
        by None e = none
        by (Some v) e = k v (of_operand o s v t e)

    with_word : (E : Effect → Type 0) (x : Read) (go : ℕ → Effect) → E NoMeaning → E NoValue → ((a : ℕ) → E (go a)) → E (word_in x go)
    with_word E (Is a) go u n k = k a
    with_word E IsPoison go u n k = u
    with_word E IsOther go u n k = n

    word_answer : (result : Option Scalar) (d : RegId) (w : Width) (x : Answer) → types d.0 ≡ scalar.Word w → Answers (scalar.Word w) x → IsGood result (answered d x)
    word_answer result d w (Gives v) t h = (subst (λ (k : Scalar). IsOf k v) (sym t) h, word_offset w v h)
    word_answer result d w NoGood t h = tt
    word_answer result d w Mistyped t h = absurd h

    chosen : (result : Option Scalar) (d : RegId) (z : Read) (x y : Value) → IsValueOf (types d.0) x → IsValueOf (types d.0) y → IsGood result (answered d (choose z x y))
    chosen result d (Is zero) x y hx hy = hy
    chosen result d (Is (suc n)) x y hx hy = hx
    chosen result d IsPoison x y hx hy = (poison_of (types d.0), tt)
    chosen result d IsOther x y hx hy = tt

    moved_good : (result : Option Scalar) (d : RegId) (v : Value) (k : ℕ) → types d.0 ≡ scalar.Pointer → IsGood result (answered d (moved v k))
    moved_good result d (Bits a) k t = tt
    moved_good result d (At b o) k t = (subst (λ (s : Scalar). IsOf s (At b ((o + k) % 4294967296))) (sym t) refl, omega arith)
    moved_good result d NullPointer k t = at (nat_eq (k % 4294967296) 0)
      where
        at : (c : Bool) → IsGood result (answered d (if c then Gives NullPointer else Gives Poisoned))
        at true = (subst (λ (s : Scalar). IsOf s NullPointer) (sym t) refl, tt)
        at false = (poison_of (types d.0), tt)
    moved_good result d Poisoned k t = (poison_of (types d.0), tt)

    gep_good : (result : Option Scalar) (d : RegId) (v : Value) (k : Distance) → types d.0 ≡ scalar.Pointer → IsGood result (gep_gives d v k)
    gep_good result d v (Far k) t = moved_good result d v k t
    gep_good result d v PoisonFar t = (poison_of (types d.0), tt)
    gep_good result d v NoDistance t = tt

    arguments_good : (os : List FlatOp) (ss : List Scalar) → AllTyped types os ss → AreArguments (arguments regs os) ss
    arguments_good [] ss t k v s e f = absurd (none e)
      where
        none : None ≡ Some (Some v) → ⊥
        none z = cc
    arguments_good (o ∷ os) [] t k v s e f = absurd t
    arguments_good (o ∷ os) (c ∷ ss) t zero v s e f = subst (λ (k : Scalar). IsValueOf k v) (same_some c s f) (of_operand o c v t.0 (same_some (value_of regs o) (Some v) e))
    arguments_good (o ∷ os) (c ∷ ss) t (suc k) v s e f = arguments_good os ss t.1 k v s e f

    module _ (m : Memory) (offsets : HoldsOffsets m) (result : Option Scalar) where
      loads : (d : RegId) (s : Scalar) (o : Option Value) → types d.0 ≡ s → Loads s o → GivesOffset o → IsGood result (load_gives d o)
      loads d s None t h g = tt
      loads d s (Some v) t h g = (subst (λ (k : Scalar). IsOf k v) (sym t) h, g)

      stores : (o : Option Memory) → KeepsOffsets o → IsGood result (store_gives o)
      stores None g = tt
      stores (Some n) g = g

      where_typed : (t : Bool) (e : Effect) → IsGood result e → IsGood result (if_typed t e)
      where_typed true e h = h
      where_typed false e h = tt

      instr_good : (i : FlatInstr) → IsTyped types funcs i → IsGood result (effect regs m i)
      instr_good (Bin d op w a b) t =
          with_operand (IsGood result) a (scalar.Word w) _ t.1 tt (λ x hx. with_operand (IsGood result) b (scalar.Word w) _ t.2 tt (λ y hy.
          word_answer result d w (bin op w x y) t.0 (bin_of op w x y hx.0 hy.0)))
      instr_good (Icmp d c s a b) t =
          with_operand (IsGood result) a s _ t.1 tt (λ x hx. with_operand (IsGood result) b s _ t.2 tt (λ y hy.
          word_answer result d W1 (icmp m c s x y) t.0 (icmp_of m c s x y hx.0 hy.0)))
      instr_good (Select d c a b) t =
          with_operand (IsGood result) c (scalar.Word W1) _ t.0 tt (λ z hz. with_operand (IsGood result) a (types d.0) _ t.1 tt (λ x hx. with_operand (IsGood result) b (types d.0) _ t.2 tt (λ y hy.
          chosen result d (as_word 2 z) x y hx hy)))
      instr_good (Cast d c from to a) t =
          with_operand (IsGood result) a (scalar.Word from) _ t.1 tt (λ x hx.
          word_answer result d to (cast_read c from to (as_word (modulus from) x)) t.0 (cast_of c from to (as_word (modulus from) x) t.2 (word_read from x hx.0)))
      instr_good (Copy d a) t = with_operand (IsGood result) a (types d.0) _ t tt (λ x hx. hx)
      instr_good (Alloca d size align) t = t.0
      instr_good (Load d s align a) t =
          with_operand (IsGood result) a scalar.Pointer _ t.1 tt (λ x hx. where_typed (is_pointer x) _ (loads d s (load m s align x) t.0 (load_of m s align x) (load_offset m offsets s align x)))
      instr_good (Store s align v a) t =
          with_operand (IsGood result) v s _ t.0 tt (λ x hx. with_operand (IsGood result) a scalar.Pointer _ t.1 tt (λ y hy.
          where_typed (is_of s x && is_pointer y) _ (stores (store m s align x y) (store_keeps m offsets s align x y hx.1))))
      instr_good (Gep d a k ts) t = with_operand (IsGood result) a scalar.Pointer _ t.1 tt (λ x hx. gep_good result d x (distance regs k ts) t.0)
      instr_good (Call d f args) t = (arguments_good args (funcs f.0).params t.0, t.2)
      instr_good (Put d a) t = with_operand (IsGood result) a (scalar.Word W32) _ t.0 tt (λ x hx. with_word (IsGood result) (as_word 4294967296 x) _ tt tt (λ c. (t.1, omega arith)))
      instr_good (Get d) t = t
      instr_good (Exit a) t = with_operand (IsGood result) a (scalar.Word W32) _ t tt (λ x hx. with_word (IsGood result) (as_word 4294967296 x) _ tt tt (λ c. tt))

    returns : (result : Option Scalar) (a : FlatOp) → ReturnsType types result (Some a) → (v : Value) → value_of regs a ≡ Some v → IsResult result (Some v)
    returns None a t v e s f = absurd (none f)
      where
        none : None ≡ Some s → ⊥
        none z = cc
    returns (Some k) a t v e s f = subst (λ (x : Scalar). IsValueOf x v) (same_some k s f) (of_operand a k v t e)

    end_good : (result : Option Scalar) (e : FlatEnd) → IsEndTyped types result e → IsGood result (end_effect regs e)
    end_good result (Ret None) t = tt
    end_good result (Ret (Some a)) t = by (value_of regs a) refl
      where
        by : (x : Option Value) → value_of regs a ≡ x → IsGood result (using x (λ v. Returns (Some v)))
        by None e = tt
        by (Some v) e = returns result a t v e
    end_good result (Br b) t = tt
    end_good result (Cond c x y) t = with_operand (IsGood result) c (scalar.Word W1) _ t tt (λ v hv. with_word (IsGood result) (as_word 2 v) _ tt tt (λ z. tt))
    end_good result (Switch a w cases other) t = with_operand (IsGood result) a (scalar.Word w) _ t.0 tt (λ v hv. with_word (IsGood result) (as_word (modulus w) v) _ tt tt (λ z. tt))
    end_good result Unreachable t = tt

    entry_typed : (from : ℕ) (s : Scalar) (es : List Entry) → All (λ (x : Entry). HasType types x.value s) es → (o : FlatOp) → entry_for from es ≡ Some o → HasType types o s
    entry_typed from s [] all o g = absurd (none g)
      where
        none : None ≡ Some o → ⊥
        none z = cc
    entry_typed from s (x ∷ es) all o g = at (nat_eq x.from.0 from) g (λ k. entry_typed from s es (All-tail (λ (y : Entry). HasType types y.value s) x es all) o k)
      where
        at : (t : Bool) → (if t then Some x.value else entry_for from es) ≡ Some o → (entry_for from es ≡ Some o → HasType types o s) → HasType types o s
        at true g later = subst (λ (y : FlatOp). HasType types y s) (same_some x.value o g) (All-head (λ (y : Entry). HasType types y.value s) x es all)
        at false g later = later g

    -- the registers once the phis took their values
    phis_hold : (from : ℕ) (fs : List Phi) → Each (λ (f : Phi). All (λ (e : Entry). HasType types e.value (types f.reg.0)) f.entries) fs → (new : Regs) → after_phis regs from fs ≡ Some new → Holds new
    phis_hold from [] h new e = subst Holds (same_some regs new e) holds
    phis_hold from (f ∷ fs) h new e = by (entry_value regs (entry_for from f.entries)) refl (after_phis regs from fs) refl (λ old q. phis_hold from fs h.1 old q) e
      where
        value_typed : (o : Option FlatOp) → entry_for from f.entries ≡ o → (v : Value) → entry_value regs o ≡ Some v → IsValueOf (types f.reg.0) v
        value_typed None g v k = absurd (none k)
          where
            none : None ≡ Some v → ⊥
            none z = cc
        value_typed (Some o) g v k = of_operand o (types f.reg.0) v (entry_typed from (types f.reg.0) f.entries h.0 o g) k

        by : (x : Option Value) → entry_value regs (entry_for from f.entries) ≡ x → (rest : Option Regs) → after_phis regs from fs ≡ rest → ((old : Regs) → after_phis regs from fs ≡ Some old → Holds old) → with_phi f.reg.0 x rest ≡ Some new → Holds new
        by None p rest q later e = absurd (none e)
          where
            none : None ≡ Some new → ⊥
            none z = cc
        by (Some v) p None q later e = absurd (none e)
          where
            none : None ≡ Some new → ⊥
            none z = cc
        by (Some v) p (Some old) q later e = subst Holds (same_some (with_reg old f.reg.0 v) new e) (with_reg_holds types old f.reg.0 v (value_typed (entry_for from f.entries) refl v p) (later old q))

-- ---- runs

module _ (p : Program) (types : ℕ → ℕ → Scalar) (funcs : ℕ → FuncType) (formed : IsFormed p types funcs) where
  -- the activations below wait for results of their types
  abbrev AreBelow : ℕ → Option RegId → List Activation → Type 0
  AreBelow f waiting [] = Unit {0}
  AreBelow f waiting (a ∷ as') = Receives (types a.func) waiting (funcs f).result × HoldsTypes types a × AreBelow a.func a.waiting as'

  record HoldsAll (r : Run) : Type 0 where
    top : HoldsTypes types r.top
    below : AreBelow r.top.func r.top.waiting r.below
    memory : HoldsOffsets r.memory
    input : All (λ b. b < 256) r.input

  abbrev Good : Run → Effect → Type 0
  Good r e = IsGood (types r.top.func) funcs (funcs r.top.func).result e

  module _ (r : Run) (h : HoldsAll r) where
    sets : (d : RegId) (v : Value) (m : Memory) → HoldsOffsets m → (made : List ℕ) → IsValueOf (types r.top.func d.0) v → (r' : Run) → r'.top.func ≡ r.top.func → r'.top.waiting ≡ r.top.waiting → r'.top.regs ≡ with_reg r.top.regs d.0 v → r'.below ≡ r.below → r'.memory ≡ m → All (λ b. b < 256) r'.input → HoldsAll r'
    sets d v m offsets made of r' func waiting regs below memory input = record {
      top = λ q u e. subst (λ (f : ℕ). IsValueOf (types f q) u) (sym func) (with_reg_holds (types r.top.func) r.top.regs d.0 v of h.top q u (subst (λ (g : Regs). g q ≡ Some u) regs e));
      below = subst (λ (f : ℕ). AreBelow f r'.top.waiting r'.below) (sym func) (subst (λ (w : Option RegId). AreBelow r.top.func w r'.below) (sym waiting) (subst (AreBelow r.top.func r.top.waiting) (sym below) h.below));
      memory = subst HoldsOffsets (sym memory) offsets;
      input = input;
    }

    value_set : (d : RegId) (v : Value) → IsValueOf (types r.top.func d.0) v → (r' : Run) → r'.top.func ≡ r.top.func → r'.top.waiting ≡ r.top.waiting → r'.top.regs ≡ with_reg r.top.regs d.0 v → r'.below ≡ r.below → r'.memory ≡ r.memory → All (λ b. b < 256) r'.input → HoldsAll r'
    value_set d v of r' = sets d v r.memory h.memory [] of r'

    same : (r' : Run) → r'.top.func ≡ r.top.func → r'.top.waiting ≡ r.top.waiting → r'.top.regs ≡ r.top.regs → r'.below ≡ r.below → HoldsOffsets r'.memory → All (λ b. b < 256) r'.input → HoldsAll r'
    same r' func waiting regs below memory input = record {
      top = λ q u e. subst (λ (f : ℕ). IsValueOf (types f q) u) (sym func) (h.top q u (subst (λ (g : Regs). g q ≡ Some u) regs e));
      below = subst (λ (f : ℕ). AreBelow f r'.top.waiting r'.below) (sym func) (subst (λ (w : Option RegId). AreBelow r.top.func w r'.below) (sym waiting) (subst (AreBelow r.top.func r.top.waiting) (sym below) h.below));
      memory = memory;
      input = input;
    }

    -- a word of 32 bits into the register that a call of the environment has, if it has one
    received : (d : Option RegId) (a : ℕ) → a < 4294967296 → Receives (types r.top.func) d (Some (scalar.Word W32)) → (r' : Run) → r'.top ≡ r.top → r'.below ≡ r.below → r'.memory ≡ r.memory → All (λ b. b < 256) r'.input → HoldsAll (with_result r' d (Bits a))
    received None a small t r' top below memory input = same _ (ap (λ (x : Activation). x.func) top) (ap (λ (x : Activation). x.waiting) top) (ap (λ (x : Activation). x.regs) top) below (subst HoldsOffsets (sym memory) h.memory) input
    received (Some d) a small t r' top below memory input =
        value_set d (Bits a) (subst (λ (s : Scalar). IsOf s (Bits a)) (same_some (scalar.Word W32) (types r.top.func d.0) t) (tested a 4294967296 small), tt) _ (ap (λ (x : Activation). x.func) top) (ap (λ (x : Activation). x.waiting) top)
        (ap (λ (x : Activation). with_reg x.regs d.0 (Bits a)) top) below memory input

    ends_hold : (s : Status) → HoldsAll (record r { status = s })
    ends_hold s = record { top = h.top; below = h.below; memory = h.memory; input = h.input }

    got_holds : (d : Option RegId) → Receives (types r.top.func) d (Some (scalar.Word W32)) → (bytes : List ℕ) → All (λ b. b < 256) bytes → HoldsAll (got r d bytes)
    got_holds d t [] small = received d 4294967295 (omega arith) t r refl refl refl h.input
    got_holds d t (b ∷ bs) small =
        let few = All-head (λ (c : ℕ). c < 256) b bs small in
        received d b (omega (arith, few)) t (record r { input = bs }) refl refl refl (All-tail (λ (c : ℕ). c < 256) b bs small)

    freed : (d : RegId) → HoldsOffsets (without r.memory (r.top.regs d.0))
    freed d = by (r.top.regs d.0)
      where
        by : (x : Option Value) → HoldsOffsets (without r.memory x)
        by None = h.memory
        by (Some (Bits a)) = h.memory
        by (Some (At b o)) = kill_keeps r.memory b h.memory
        by (Some NullPointer) = h.memory
        by (Some Poisoned) = h.memory

    parameter : (args : List (Option Value)) (n q : ℕ) (v : Value) → at_most_one (slice_get (take n args) q) ≡ Some v → (q < n) × (slice_get args q ≡ Some (Some v))
    parameter args zero q v e = absurd (none e)
      where
        none : None ≡ Some v → ⊥
        none z = cc
    parameter [] (suc n) q v e = absurd (none e)
      where
        none : None ≡ Some v → ⊥
        none z = cc
    parameter (a ∷ args) (suc n) zero v e = (omega arith, ap (λ (x : Option Value). Some x) e)
    parameter (a ∷ args) (suc n) (suc q) v e = let k = parameter args n q v e in let lt = k.0 in (omega (arith, lt), k.1)

    entered_holds : (g : ℕ) (args : List (Option Value)) (d : Option RegId) → AreArguments (types r.top.func) funcs args (funcs g).params → Receives (types r.top.func) d (funcs g).result → HoldsAll (entered r g args d (p.body g))
    entered_holds g args d of t = by (p.body g) refl
      where
        by : (x : Option FlatBody) → p.body g ≡ x → HoldsAll (entered r g args d x)
        by None e = ends_hold Stuck
        by (Some b) e = record { top = params; below = (t, h.top, h.below); memory = h.memory; input = h.input }
          where
            own : (length (funcs g).params ≡ b.params) × ((q : ℕ) (s : Scalar) → slice_get (funcs g).params q ≡ Some s → types g q ≡ s)
            own = (formed.bodies g b e).own_params

            params : (q : ℕ) (v : Value) → at_most_one (slice_get (take b.params args) q) ≡ Some v → IsValueOf (types g q) v
            params q v a =
                let k = parameter args b.params q v a in
                let lt = k.0 in
                let count = own.0 in
                ⊎_elim
                (λ s. subst (λ (x : Scalar). IsValueOf x v) (sym (own.1 q s.0 s.2)) (of q v s.0 k.1 s.2))
                (λ none. let le = none.0 in absurd (omega (arith, lt, count, le)))
                (slice_get_cases (funcs g).params q).1

    went : (b : ℕ) → HoldsAll (goes_into r b (block_of (p.body r.top.func) b))
    went b = by_body (p.body r.top.func) refl
      where
        by_block : (body : FlatBody) → p.body r.top.func ≡ Some body → (k : Option FlatBlock) → slice_get body.blocks b ≡ k → HoldsAll (goes_into r b k)
        by_block body e None is = ends_hold Stuck
        by_block body e (Some k) is = by_regs (after_phis r.top.regs r.top.block k.phis) refl
          where
            typed : (f : Phi) → Contains k.phis f → All (λ (x : Entry). HasType (types r.top.func) x.value (types r.top.func f.reg.0)) f.entries
            typed f has = ((formed.bodies r.top.func body e).phis b k f is has).2

            each : (fs : List Phi) → ((f : Phi) → Has fs f → Contains k.phis f) → Each (λ (f : Phi). All (λ (x : Entry). HasType (types r.top.func) x.value (types r.top.func f.reg.0)) f.entries) fs
            each [] inside = tt
            each (f ∷ fs) inside = (typed f (inside f (inl refl)), each fs (λ g has. inside g (inr has)))

            by_regs : (x : Option Regs) → after_phis r.top.regs r.top.block k.phis ≡ x → HoldsAll (stands_at r b x)
            by_regs None q = ends_hold Stuck
            by_regs (Some new) q = record {
              top = phis_hold (types r.top.func) funcs r.top.regs h.top r.top.block k.phis (each k.phis (λ f has. contains k.phis f has)) new q;
              below = h.below;
              memory = h.memory;
              input = h.input;
            }

        by_body : (x : Option FlatBody) → p.body r.top.func ≡ x → HoldsAll (goes_into r b (block_of x b))
        by_body None e = ends_hold Stuck
        by_body (Some body) e = by_block body e (slice_get body.blocks b) refl

    returned_holds : (below : List Activation) (v : Option Value) → r.below ≡ below → IsResult (types r.top.func) funcs (funcs r.top.func).result v → HoldsAll (returned r below v)
    returned_holds [] None e g = ends_hold Stuck
    returned_holds [] (Some v) e g = by (as_word 4294967296 v)
      where
        by : (x : Read) → HoldsAll (ended r x)
        by (Is a) = ends_hold (Ended a)
        by IsPoison = ends_hold Undefined
        by IsOther = ends_hold Stuck
    returned_holds (a ∷ as') v e g = back_holds r.top.waiting v (subst (AreBelow r.top.func r.top.waiting) e h.below) g
      where
        back_holds : (d : Option RegId) (v : Option Value) → AreBelow r.top.func d (a ∷ as') → IsResult (types r.top.func) funcs (funcs r.top.func).result v → HoldsAll (back (record r { memory = kill_all r.memory r.top.made; top = a; below = as' }) d v)
        back_holds None v w g = record { top = w.1; below = w.2; memory = kill_all_keeps r.top.made r.memory h.memory; input = h.input }
        back_holds (Some d) None w g = record { top = w.1; below = w.2; memory = kill_all_keeps r.top.made r.memory h.memory; input = h.input }
        back_holds (Some d) (Some v) w g = record {
          top = with_reg_holds (types a.func) a.regs d.0 v (g (types a.func d.0) w.0) w.1;
          below = w.2;
          memory = kill_all_keeps r.top.made r.memory h.memory;
          input = h.input;
        }

    applied_holds : (e : Effect) → Good r e → HoldsAll (applied p r e)
    applied_holds (Sets d v) g = value_set d v g _ refl refl refl refl refl h.input
    applied_holds (Allocates d size align) g =
        let m = without r.memory (r.top.regs d.0) in
        sets d (At (length m) 0) _ (fresh_holds m size align (freed d)) [] (subst (λ (s : Scalar). IsOf s (At (length m) 0)) (sym g) refl, omega arith) _ refl refl refl refl refl h.input
    applied_holds (Stores m) g = same _ refl refl refl refl g h.input
    applied_holds (Puts d b) g = let few = g.1 in received d b (omega (arith, few)) g.0 (record r { output = r.output ++ b ∷ [] }) refl refl refl h.input
    applied_holds (Takes d) g = got_holds d g r.input h.input
    applied_holds (Enters d f args) g = entered_holds f args d g.0 g.1
    applied_holds (Goes b) g = went b
    applied_holds (Returns v) g = returned_holds r.below v refl g
    applied_holds (Stops w) g = ends_hold (Ended w)
    applied_holds NoMeaning g = ends_hold Undefined
    applied_holds NoValue g = ends_hold Stuck

    in_block_holds : HoldsAll (in_block p r (block_of (p.body r.top.func) r.top.block))
    in_block_holds = by_body (p.body r.top.func) refl
      where
        by_block : (body : FlatBody) → p.body r.top.func ≡ Some body → (k : Option FlatBlock) → slice_get body.blocks r.top.block ≡ k → HoldsAll (in_block p r k)
        by_block body e None is = ends_hold Stuck
        by_block body e (Some k) is = by_place (slice_get k.code r.top.place) refl
          where
            by_place : (i : Option FlatInstr) → slice_get k.code r.top.place ≡ i → HoldsAll (applied p r (what_stands r k i))
            by_place (Some i) at = applied_holds (effect r.top.regs r.memory i) (instr_good (types r.top.func) funcs r.top.regs h.top r.memory h.memory (funcs r.top.func).result i ((formed.bodies r.top.func body e).code r.top.block r.top.place k i is at))
            by_place None at = applied_holds (end_effect r.top.regs k.end) (end_good (types r.top.func) funcs r.top.regs h.top (funcs r.top.func).result k.end ((formed.bodies r.top.func body e).ends r.top.block k is))

        by_body : (x : Option FlatBody) → p.body r.top.func ≡ x → HoldsAll (in_block p r (block_of x r.top.block))
        by_body None e = ends_hold Stuck
        by_body (Some body) e = by_block body e (slice_get body.blocks r.top.block) refl

  turn_holds : (r : Run) → HoldsAll r → HoldsAll (flat_step p r)
  unfolding flat_step
  turn_holds r h = by (r.status)
    where
      by : (s : Status) → HoldsAll (turn_of p r s)
      by Going = in_block_holds r h
      by (Ended w) = h
      by Undefined = h
      by Stuck = h

  turns_hold : (n : ℕ) (r : Run) → HoldsAll r → HoldsAll (iterate (flat_step p) n r)
  turns_hold zero r h = h
  turns_hold (suc n) r h = turns_hold n (flat_step p r) (turn_holds r h)

  all_below : (f : ℕ) (waiting : Option RegId) (as' : List Activation) → AreBelow f waiting as' → Each (HoldsTypes types) as'
  all_below f waiting [] h = tt
  all_below f waiting (a ∷ as') h = (h.1, all_below a.func a.waiting as' h.2)

  module _ (input : List ℕ) (small : All (λ b. b < 256) input) (n : ℕ) where
    all_hold : HoldsAll (iterate (flat_step p) n (flat_start p input))
    all_hold = turns_hold n (flat_start p input) (record { top = λ q v e. absurd (none v e); below = tt; memory = offsets_held p.globals formed.pointers; input = small })
      where
        none : (v : Value) → None ≡ Some v → ⊥
        none v z = cc

    pub registers_hold : All (HoldsTypes types) (activations (iterate (flat_step p) n (flat_start p input)))
    registers_hold = let r = iterate (flat_step p) n (flat_start p input) in All-from_recursion (HoldsTypes types) (activations r) (all_hold.top, all_below r.top.func r.top.waiting r.below all_hold.below)

    pub memory_holds : HoldsOffsets (iterate (flat_step p) n (flat_start p input)).memory
    memory_holds = all_hold.memory
