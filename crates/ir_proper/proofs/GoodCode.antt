-- Operations, instructions, terminators and blocks that are right in view of the names that there are in the end.
use Rattle.std.proofs.Common.{◌≡◌, ℕ, ◌≤◌, pos, false, nat_lt, List, length, refl, subst, arith}
use Rattle.std.specs.Prelude.{⊤, Option, Some, None}
use Rattle.std.specs.List.{AllByRecursion as Each}
use Rattle.std.proofs.lemmas.Bool.Decides.{nat_tests}
use Rattle.oi_base.specs.declared.ids.Place.{Place}
use Rattle.ir_core.specs.declared.ty.IrType.{IrType, Void, Int, Ptr, Array', Struct', Named}
use Rattle.ir_core.specs.declared.module.SymId.{SymId}
use Rattle.ir_core.specs.declared.constant.TypedCount.{TypedCount}
use Rattle.ir_core.specs.declared.op.LocalId.{LocalId}
use Rattle.ir_core.specs.declared.op.TypedOperand.{TypedOperand}
use Rattle.ir_core.specs.declared.op.Pair.{Pair}
use Rattle.ir_core.specs.declared.op.SwitchCase.{SwitchCase}
use Rattle.ir_core.specs.declared.op.Op.{Op}
use Rattle.ir_core.specs.declared.op.Op.TheVariants as ops
use Rattle.ir_core.specs.declared.op.End.{End}
use Rattle.ir_core.specs.declared.func.Instr.{Instr}
use Rattle.ir_core.specs.declared.func.Block.{Block}
use Rattle.ir_core.specs.Parts.{listed, values_of, types_of, op_values, op_types, op_labels, op_callee, end_values, end_types, targets}
use Rattle.ir_core.specs.Proper.{HasItsResult, HasEntries, HasFewArguments, IsCount, HasItsCount}
use Rattle.ir_grammar.specs.Names.{Names}
use Rattle.ir_grammar.specs.Tokens.{Limits, stated, is_past}
use Rattle.ir_grammar.specs.Operations.{Line, instr_at}
use Rattle.ir_proper.proofs.KeptNames.{KnownSymbol, KnownLocal}
use Rattle.ir_proper.proofs.Good.{each_map, each_more, GoodType, NotVoid, GoodOperand, GoodTyped}

-- ---- operations

-- how many arguments and what count it has is said within the limits of a text alone
pub record GoodOp (l : Limits) (n : Names) (o : Op) : Type 0 where
  pub values : Each (GoodOperand n) (op_values o)
  pub types : Each (GoodType n) (op_types o)
  pub labels : Each (KnownLocal n) (op_labels o)
  pub callee : Each (KnownSymbol n) (op_callee o)
  pub entries : HasEntries o
  pub few : l ≡ stated → HasFewArguments o
  pub count : l ≡ stated → HasItsCount o

-- a result is right for an operation
abbrev pub ResultOf : Option LocalId → Op → Type 0
ResultOf r o = (p : Place) → HasItsResult (record { place = p; result = r; op = o })

-- the operation has a result
abbrev pub Gives : Op → Type 0
Gives o = (r : LocalId) → ResultOf (Some r) o

abbrev pub GoodWithResult : Limits → Names → Op → Type 0
GoodWithResult l n o = GoodOp l n o × Gives o

pub good_values : (n : Names) (as' : List TypedOperand) → Each (GoodTyped n) as' → Each (GoodOperand n) (values_of as')
good_values n as' h = each_map (GoodOperand n) (λ (a : TypedOperand). a.value) as' (each_more (GoodTyped n) (λ (a : TypedOperand). GoodOperand n a.value) (λ a g. g.value) as' h)

pub good_types : (n : Names) (as' : List TypedOperand) → Each (GoodTyped n) as' → Each (GoodType n) (types_of as')
good_types n as' h = each_map (GoodType n) (λ (a : TypedOperand). a.ty) as' (each_more (GoodTyped n) (λ (a : TypedOperand). GoodType n a.ty) (λ a g. g.ty) as' h)

-- ---- allocas

abbrev pub CountFits : Option TypedCount → Type 0
CountFits None = ⊤
CountFits (Some c) = IsCount c.count

pub its_count : (t : IrType) (c : Option TypedCount) (a : Option ℕ) → CountFits c → HasItsCount (ops.Alloca t c a)
its_count t None a h = tt
its_count t (Some c) a h = h

count_within : (m : ℕ) → nat_lt 4294967295 m ≡ false → IsCount (pos m)
count_within m h = grind (arith, nat_tests)

pub is_count : (l : Limits) (m : ℕ) → is_past l.length m ≡ false → l ≡ stated → IsCount (pos m)
is_count l m h w = count_within m (subst (λ (x : Limits). is_past x.length m ≡ false) w h)

-- ---- phis

pub record GoodPair (n : Names) (e : Pair) : Type 0 where
  pub value : GoodOperand n e.value
  pub label : KnownLocal n e.from

pub good_phi : (l : Limits) (n : Names) (t : IrType) (es : List Pair) → GoodType n t → Each (GoodPair n) es → 1 ≤ length es → GoodWithResult l n (ops.Phi t es)
good_phi l n t es h e few = (
  record {
    values = each_map (GoodOperand n) (λ (p : Pair). p.value) es (each_more (GoodPair n) (λ (p : Pair). GoodOperand n p.value) (λ p g. g.value) es e);
    types = (h, tt);
    labels = each_map (KnownLocal n) (λ (p : Pair). p.from) es (each_more (GoodPair n) (λ (p : Pair). KnownLocal n p.from) (λ p g. g.label) es e);
    callee = tt;
    entries = omega (arith, few);
    few = λ w. tt;
    count = λ w. tt;
  },
  λ r p. refl,
)

-- ---- calls

pub good_call : (l : Limits) (n : Names) (t : IrType) (f : SymId) (as' : List TypedOperand) → GoodType n t → KnownSymbol n f → Each (GoodTyped n) as' → (l ≡ stated → length as' ≤ 8) → GoodOp l n (ops.Call t f as')
good_call l n t f as' h k e few = record { values = good_values n as' e; types = (h, good_types n as' e); labels = tt; callee = (k, tt); entries = tt; few = few; count = λ w. tt }

-- a result is right for a call of this type
abbrev pub ResultOfCall : IrType → Option LocalId → Type 0
ResultOfCall t r = (f : SymId) (as' : List TypedOperand) → ResultOf r (ops.Call t f as')

pub call_gives : (t : IrType) (r : LocalId) → NotVoid t → ResultOfCall t (Some r)
call_gives Void r h f as' p = absurd h
call_gives (Int w) r h f as' p = refl
call_gives Ptr r h f as' p = refl
call_gives (Array' m k items) r h f as' p = refl
call_gives (Struct' m fields) r h f as' p = refl
call_gives (Named x) r h f as' p = refl

-- ---- instructions

pub record GoodInstr (l : Limits) (n : Names) (i : Instr) : Type 0 where
  pub op : GoodOp l n i.op
  pub known : Each (KnownLocal n) (listed i.result)
  pub result : HasItsResult i

abbrev pub IfAny : {A : Type 0} → (A → Type 0) → Option A → Type 0
IfAny P None = ⊤
IfAny P (Some a) = P a

pub record GoodLine (l : Limits) (n : Names) (x : Option LocalId × Op) : Type 0 where
  pub op : GoodOp l n x.1
  pub known : Each (KnownLocal n) (listed x.0)
  pub result : ResultOf x.0 x.1

pub good_instr : (l : Limits) (n : Names) (p : Place) (x : Line) → IfAny (GoodLine l n) x → IfAny (GoodInstr l n) (instr_at p x)
good_instr l n p None h = tt
good_instr l n p (Some x) h = record { op = h.op; known = h.known; result = h.result p }

-- ---- terminators and blocks

pub record GoodEnd (n : Names) (e : End) : Type 0 where
  pub values : Each (GoodOperand n) (end_values e)
  pub types : Each (GoodType n) (end_types e)
  pub targets : Each (KnownLocal n) (targets e)

pub record GoodCase (n : Names) (c : SwitchCase) : Type 0 where
  pub value : GoodTyped n c.value
  pub to : KnownLocal n c.to

pub record GoodBlock (l : Limits) (n : Names) (b : Block) : Type 0 where
  pub label : KnownLocal n b.label
  pub code : Each (GoodInstr l n) b.code
  pub end : GoodEnd n b.end
