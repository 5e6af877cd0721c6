-- Runs of flat bodies.
use Rattle.std.specs.Prelude.{ℕ, ◌+◌, ◌%◌, Bool, true, false, ◌&&◌, nat_eq, if◌then◌else◌, List, [], ◌∷◌, ◌++◌, length, take, Option, Some, None, slice_get}
use Rattle.oi_base.specs.declared.ids.RegId.{RegId}
use Rattle.oi_base.specs.declared.ids.BlockId.{BlockId}
use Rattle.ir_core.specs.declared.flat.FlatOp.{FlatOp}
use Rattle.ir_core.specs.declared.flat.FlatOp.TheVariants.{Reg, Word, Null, Address, Poison}
use Rattle.ir_core.specs.declared.flat.Term.{Term}
use Rattle.ir_core.specs.declared.flat.Case.{Case}
use Rattle.ir_core.specs.declared.flat.Entry.{Entry}
use Rattle.ir_core.specs.declared.flat.Phi.{Phi}
use Rattle.ir_core.specs.declared.flat.FlatInstr.{FlatInstr}
use Rattle.ir_core.specs.declared.flat.FlatInstr.TheVariants.{Bin, Icmp, Select, Cast, Copy, Alloca, Load, Store, Gep, Call, Put, Get, Exit}
use Rattle.ir_core.specs.declared.flat.FlatEnd.{FlatEnd}
use Rattle.ir_core.specs.declared.flat.FlatEnd.TheVariants.{Ret, Br, Cond, Switch, Unreachable}
use Rattle.ir_core.specs.declared.flat.FlatBlock.{FlatBlock}
use Rattle.ir_core.specs.declared.flat.FlatBody.{FlatBody}
use Rattle.std.specs.Fn.{iterate}
use Rattle.oi_base.specs.Follows.{Status, Going, Ended, Undefined, Stuck, Seen}
use Rattle.oi_base.specs.Words.{modulus}
use Rattle.ir_core.specs.Memory.{Value, Bits, At, NullPointer, Poisoned, Memory, load, store, fresh, kill, kill_all}
use Rattle.ir_core.specs.Rows.{Answer, Gives, NoGood, Mistyped, Read, Is, IsPoison, IsOther, as_word, bin, icmp, choose, cast_read, scaled, moved, is_pointer, is_of}

-- a program: its globals, which are the first blocks of memory, and its functions' bodies
pub record Program : Type 0 where
  pub globals : Memory
  pub body : ℕ → Option FlatBody
  pub main : ℕ

-- a call that hasn't returned: where it stands, its registers, the blocks that its allocas made, and the register of its caller that waits for its result
pub record Activation : Type 0 where
  pub func : ℕ
  pub block : ℕ
  pub place : ℕ
  pub regs : ℕ → Option Value
  pub made : List ℕ
  pub waiting : Option RegId

-- a run: its activations, the newest first
pub record Run : Type 0 where
  pub top : Activation
  pub below : List Activation
  pub memory : Memory
  pub input : List ℕ
  pub output : List ℕ
  pub status : Status

-- a map with one more entry
abbrev pub with_reg : (ℕ → Option Value) → ℕ → Value → ℕ → Option Value
with_reg f r v q = if nat_eq q r then Some v else f q

-- the value of an operand
abbrev pub value_of : (ℕ → Option Value) → FlatOp → Option Value
value_of regs (Reg r) = regs r.0
value_of regs (Word a) = Some (Bits a)
value_of regs Null = Some NullPointer
value_of regs (Address g k) = Some (At g k)
value_of regs Poison = Some Poisoned

-- what an instruction or a terminator does: a register's value, a new block for an alloca's register, a new memory, a byte put, a byte taken, a call, a branch, a return, the end, or nothing, since it is undefined or an operand is missing or of another type
pub data Effect : Type 0 where
  Sets : (reg : RegId) (value : Value) → Effect
  Allocates : (reg : RegId) (size align : ℕ) → Effect
  Stores : (memory : Memory) → Effect
  Puts : (reg : Option RegId) (byte : ℕ) → Effect
  Takes : (reg : Option RegId) → Effect
  Enters : (reg : Option RegId) (func : ℕ) (args : List (Option Value)) → Effect
  Goes : (to : ℕ) → Effect
  Returns : (value : Option Value) → Effect
  Stops : (word : ℕ) → Effect
  NoMeaning : Effect
  NoValue : Effect

abbrev pub Regs : Type 0
Regs = ℕ → Option Value

-- goes on with an operand's value, and with a word
abbrev pub using : Option Value → (Value → Effect) → Effect
using None go = NoValue
using (Some v) go = go v

abbrev pub operand : Regs → FlatOp → (Value → Effect) → Effect
operand regs o go = using (value_of regs o) go

abbrev pub word_in : Read → (ℕ → Effect) → Effect
word_in (Is a) go = go a
word_in IsPoison go = NoMeaning
word_in IsOther go = NoValue

abbrev pub answered : RegId → Answer → Effect
answered d (Gives v) = Sets d v
answered d NoGood = NoMeaning
answered d Mistyped = NoValue

abbrev pub load_gives : RegId → Option Value → Effect
load_gives d None = NoMeaning
load_gives d (Some v) = Sets d v

abbrev pub store_gives : Option Memory → Effect
store_gives None = NoMeaning
store_gives (Some m) = Stores m

-- where the operands are of the types that are asked for, else a value is missing
abbrev pub if_typed : Bool → Effect → Effect
if_typed true e = e
if_typed false e = NoValue

-- the distance that a GEP's terms make
pub data Distance : Type 0 where
  Far : (distance : ℕ) → Distance
  PoisonFar : Distance
  NoDistance : Distance

abbrev pub further : Term → Read → Distance → Distance
further t (Is a) (Far d) = Far (scaled t.width t.stride a + d)
further t IsPoison (Far d) = PoisonFar
further t IsOther d = NoDistance
further t a NoDistance = NoDistance
further t a PoisonFar = PoisonFar

abbrev pub read_option : ℕ → Option Value → Read
read_option m None = IsOther
read_option m (Some v) = as_word m v

abbrev pub distance : Regs → ℕ → List Term → Distance
distance regs k [] = Far k
distance regs k (t ∷ ts) = further t (read_option (modulus t.width) (value_of regs t.operand)) (distance regs k ts)

abbrev pub gep_gives : RegId → Value → Distance → Effect
gep_gives d v (Far k) = answered d (moved v k)
gep_gives d v PoisonFar = Sets d Poisoned
gep_gives d v NoDistance = NoValue

abbrev pub arguments : Regs → List FlatOp → List (Option Value)
arguments regs [] = []
arguments regs (o ∷ os) = value_of regs o ∷ arguments regs os

-- one row an instruction
abbrev pub effect : Regs → Memory → FlatInstr → Effect
effect regs m (Bin d op w a b) = operand regs a (λ x. operand regs b (λ y. answered d (bin op w x y)))
effect regs m (Icmp d c s a b) = operand regs a (λ x. operand regs b (λ y. answered d (icmp m c s x y)))
effect regs m (Select d c a b) = operand regs c (λ z. operand regs a (λ x. operand regs b (λ y. answered d (choose (as_word 2 z) x y))))
effect regs m (Cast d c from to a) = operand regs a (λ x. answered d (cast_read c from to (as_word (modulus from) x)))
effect regs m (Copy d a) = operand regs a (λ x. Sets d x)
effect regs m (Alloca d size align) = Allocates d size align
effect regs m (Load d s align a) = operand regs a (λ x. if_typed (is_pointer x) (load_gives d (load m s align x)))
effect regs m (Store s align v a) = operand regs v (λ x. operand regs a (λ y. if_typed (is_of s x && is_pointer y) (store_gives (store m s align x y))))
effect regs m (Gep d a k ts) = operand regs a (λ x. gep_gives d x (distance regs k ts))
effect regs m (Call d f args) = Enters d f.0 (arguments regs args)
effect regs m (Put d a) = operand regs a (λ x. word_in (as_word 4294967296 x) (λ c. Puts d (c % 256)))
effect regs m (Get d) = Takes d
effect regs m (Exit a) = operand regs a (λ x. word_in (as_word 4294967296 x) (λ c. Stops c))

abbrev pub case_for : ℕ → List Case → BlockId → BlockId
case_for a [] other = other
case_for a (c ∷ cs) other = if nat_eq c.word a then c.to else case_for a cs other

abbrev pub end_effect : Regs → FlatEnd → Effect
end_effect regs (Ret None) = Returns None
end_effect regs (Ret (Some a)) = operand regs a (λ x. Returns (Some x))
end_effect regs (Br b) = Goes b.0
end_effect regs (Cond c t f) = operand regs c (λ x. word_in (as_word 2 x) (λ z. Goes (if nat_eq z 0 then f.0 else t.0)))
end_effect regs (Switch a w cases other) = operand regs a (λ x. word_in (as_word (modulus w) x) (λ z. Goes (case_for z cases other).0))
end_effect regs Unreachable = NoMeaning

-- ---- what an effect makes of a run

abbrev pub ends : Run → Status → Run
ends r s = record r { status = s }

-- the next instruction, with a register written or not
abbrev pub advanced : Run → Run
advanced r = record r { top = record r.top { place = r.top.place + 1 } }

abbrev pub with_value : Run → RegId → Value → Run
with_value r d v = record r { top = record r.top { place = r.top.place + 1; regs = with_reg r.top.regs d.0 v } }

abbrev pub with_result : Run → Option RegId → Value → Run
with_result r None v = advanced r
with_result r (Some d) v = with_value r d v

-- where an alloca's register already holds a block, that block dies
abbrev pub without : Memory → Option Value → Memory
without m (Some (At b o)) = kill m b
without m _ = m

abbrev pub allocated : Run → RegId → ℕ → ℕ → Memory → Run
allocated r d size align m =
    with_value (record r { memory = m ++ fresh size align ∷ []; top = record r.top { made = length m ∷ r.top.made } }) d (At (length m) 0)

abbrev pub at_most_one : Option (Option Value) → Option Value
at_most_one None = None
at_most_one (Some v) = v

-- a callee begins with its parameters, which are its first registers
abbrev pub entered : Run → ℕ → List (Option Value) → Option RegId → Option FlatBody → Run
entered r f args waiting None = ends r Stuck
entered r f args waiting (Some b) = record r {
  top = record { func = f; block = 0; place = 0; regs = λ q. at_most_one (slice_get (take b.params args) q); made = []; waiting = waiting };
  below = (record r.top { place = r.top.place + 1 }) ∷ r.below;
}

abbrev pub got : Run → Option RegId → List ℕ → Run
got r d [] = with_result r d (Bits 4294967295)
got r d (b ∷ bs) = with_result (record r { input = bs }) d (Bits b)

-- the operand that a phi has for a block
abbrev pub entry_for : ℕ → List Entry → Option FlatOp
entry_for b [] = None
entry_for b (e ∷ es) = if nat_eq e.from.0 b then Some e.value else entry_for b es

abbrev pub entry_value : (ℕ → Option Value) → Option FlatOp → Option Value
entry_value regs None = None
entry_value regs (Some o) = value_of regs o

-- a phi's register with its value, beside those of the phis after it
abbrev pub with_phi : ℕ → Option Value → Option (ℕ → Option Value) → Option (ℕ → Option Value)
with_phi r None rest = None
with_phi r (Some v) None = None
with_phi r (Some v) (Some regs) = Some (with_reg regs r v)

-- the registers once the phis took their values, all from the old ones
abbrev pub after_phis : (ℕ → Option Value) → ℕ → List Phi → Option (ℕ → Option Value)
after_phis old from [] = Some old
after_phis old from (f ∷ fs) = with_phi f.reg.0 (entry_value old (entry_for from f.entries)) (after_phis old from fs)

abbrev pub block_of : Option FlatBody → ℕ → Option FlatBlock
block_of None b = None
block_of (Some body) b = slice_get body.blocks b

abbrev pub stands_at : Run → ℕ → Option (ℕ → Option Value) → Run
stands_at r b None = ends r Stuck
stands_at r b (Some regs) = record r { top = record r.top { block = b; place = 0; regs = regs } }

abbrev pub goes_into : Run → ℕ → Option FlatBlock → Run
goes_into r b None = ends r Stuck
goes_into r b (Some k) = stands_at r b (after_phis r.top.regs r.top.block k.phis)

-- the end of the first activation, with its word
abbrev pub ended : Run → Read → Run
ended r (Is a) = ends r (Ended a)
ended r IsPoison = ends r Undefined
ended r IsOther = ends r Stuck

abbrev pub last : Run → Option Value → Run
last r None = ends r Stuck
last r (Some v) = ended r (as_word 4294967296 v)

-- back in the caller
abbrev pub back : Run → Option RegId → Option Value → Run
back r None v = r
back r (Some d) None = ends r Stuck
back r (Some d) (Some v) = record r { top = record r.top { regs = with_reg r.top.regs d.0 v } }

abbrev pub returned : Run → List Activation → Option Value → Run
returned r [] v = last r v
returned r (a ∷ as') v = back (record r { memory = kill_all r.memory r.top.made; top = a; below = as' }) r.top.waiting v

abbrev pub applied : Program → Run → Effect → Run
applied p r (Sets d v) = with_value r d v
applied p r (Allocates d size align) = allocated r d size align (without r.memory (r.top.regs d.0))
applied p r (Stores m) = advanced (record r { memory = m })
applied p r (Puts d b) = with_result (record r { output = r.output ++ b ∷ [] }) d (Bits b)
applied p r (Takes d) = got r d r.input
applied p r (Enters d f args) = entered r f args d (p.body f)
applied p r (Goes b) = goes_into r b (block_of (p.body r.top.func) b)
applied p r (Returns v) = returned r r.below v
applied p r (Stops w) = ends r (Ended w)
applied p r NoMeaning = ends r Undefined
applied p r NoValue = ends r Stuck

-- what stands at the place: an instruction, or after the last the terminator
abbrev pub what_stands : Run → FlatBlock → Option FlatInstr → Effect
what_stands r b (Some i) = effect r.top.regs r.memory i
what_stands r b None = end_effect r.top.regs b.end

abbrev pub in_block : Program → Run → Option FlatBlock → Run
in_block p r None = ends r Stuck
in_block p r (Some b) = applied p r (what_stands r b (slice_get b.code r.top.place))

-- one turn; a run that isn't going stays as it is
abbrev pub turn_of : Program → Run → Status → Run
turn_of p r Going = in_block p r (block_of (p.body r.top.func) r.top.block)
turn_of p r (Ended w) = r
turn_of p r Undefined = r
turn_of p r Stuck = r

unfoldable pub flat_step : Program → Run → Run
flat_step p r = turn_of p r r.status

abbrev pub flat_start : Program → List ℕ → Run
flat_start p input = record {
  top = record { func = p.main; block = 0; place = 0; regs = λ q. None; made = []; waiting = None };
  below = [];
  memory = p.globals;
  input = input;
  output = [];
  status = Going;
}

abbrev pub seen : Run → Seen
seen r = record { output = r.output; status = r.status; depth = length r.below + 1 }

-- what is seen of a program's run after m turns
abbrev pub flat_run : Program → List ℕ → ℕ → Seen
flat_run p input m = seen (iterate (flat_step p) m (flat_start p input))
