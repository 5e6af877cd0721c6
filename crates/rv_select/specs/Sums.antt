-- Programs of one function and one block of sums and differences, whose result is returned.
use Rattle.std.specs.Prelude.{◌≡◌, ◌≢◌, ℕ, ◌<◌, List, [], ◌∷◌, All, Some}
use Rattle.oi_base.specs.Follows.{Stuck}
use Rattle.ir_core.specs.declared.flat.BinOp.TheVariants.{Add, Sub}
use Rattle.ir_core.specs.declared.flat.FlatOp.{FlatOp}
use Rattle.ir_core.specs.declared.flat.FlatOp.TheVariants.{Reg, Word, Null, Address, Poison}
use Rattle.ir_core.specs.declared.flat.FlatInstr.{FlatInstr}
use Rattle.ir_core.specs.declared.flat.FlatInstr.TheVariants.{Bin}
use Rattle.ir_core.specs.declared.flat.FlatEnd.TheVariants.{Ret}
use Rattle.ir_core.specs.declared.flat.FlatBody.{FlatBody}
use Rattle.ir_core.specs.Flat.{Program, flat_run}
use Rattle.frame_layout.specs.Frame.{slot}

-- the register has a slot in the body's frame
abbrev pub HasSlot : FlatBody → ℕ → Type 0
HasSlot b r = (o : ℕ) × (slot b r ≡ Some o)

-- an operand that is a register with a slot, a word of 32 bits, null or poison
abbrev pub IsPlain : FlatBody → FlatOp → Type 0
IsPlain b (Reg q) = HasSlot b q.0
IsPlain b (Word w) = w < 4294967296
IsPlain b Null = Unit {0}
IsPlain b Poison = Unit {0}
IsPlain b (Address g k) = ⊥

-- a sum or a difference of some width, of plain operands, into a register with a slot
abbrev pub IsSum : FlatBody → FlatInstr → Type 0
IsSum f (Bin d Add w a b) = IsPlain f a × IsPlain f b × HasSlot f d.0
IsSum f (Bin d Sub w a b) = IsPlain f a × IsPlain f b × HasSlot f d.0
IsSum f i = ⊥

-- the program's first function is one block without phis, of sums and differences, and returns a plain operand
pub record IsSums (p : Program) : Type 0 where
  pub code : List FlatInstr
  pub value : FlatOp
  pub body : FlatBody
  pub is_body : p.body p.main ≡ Some body
  pub no_parameters : body.params ≡ 0
  pub one_block : body.blocks ≡ record { phis = []; code = code; end = Ret (Some value) } ∷ []
  pub sums : All (IsSum body) code
  pub returned : IsPlain body value

-- the run on an input is never stuck
abbrev pub IsNeverStuck : Program → List ℕ → Type 0
IsNeverStuck p input = (n : ℕ) → (flat_run p input n).status ≢ Stuck
