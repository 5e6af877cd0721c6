-- Calls in instructions with other operands.
use Rattle.std.proofs.Common.{◌≡◌, List, Option, refl, subst}
use Rattle.oi_base.specs.declared.ids.RegId.{RegId}
use Rattle.oi_base.specs.declared.ids.FuncId.{FuncId}
use Rattle.ir_core.specs.declared.flat.FlatOp.{FlatOp}
use Rattle.ir_core.specs.declared.flat.FlatInstr.{FlatInstr}
use Rattle.ir_core.specs.declared.flat.FlatInstr.TheVariants.{Bin, Icmp, Select, Cast, Copy, Alloca, Load, Store, Gep, Call, Put, Get, Exit}
use Rattle.const_fold.specs.Operands.{with_operands}

-- the instruction is a call of this function
pub record IsCallOf (g : FuncId) (i : FlatInstr) : Type 0 where
  pub result : Option RegId
  pub args : List FlatOp
  pub is_call : i ≡ Call result g args

-- a call with other operands was one
pub call_before : (f : FlatOp → FlatOp) (g : FuncId) (d : Option RegId) (args : List FlatOp) (i : FlatInstr) → with_operands f i ≡ Call d g args → IsCallOf g i
call_before f g d args (Call x h os) e = let same : h ≡ g = cc in record { result = x; args = os; is_call = subst (λ y. Call x h os ≡ Call x y os) same refl }
call_before f g d args (Bin x op w a b) e = absurd cc
call_before f g d args (Icmp x c s a b) e = absurd cc
call_before f g d args (Select x c a b) e = absurd cc
call_before f g d args (Cast x c from to a) e = absurd cc
call_before f g d args (Copy x a) e = absurd cc
call_before f g d args (Alloca x size align) e = absurd cc
call_before f g d args (Load x s align a) e = absurd cc
call_before f g d args (Store s align v a) e = absurd cc
call_before f g d args (Gep x a k ts) e = absurd cc
call_before f g d args (Put x a) e = absurd cc
call_before f g d args (Get x) e = absurd cc
call_before f g d args (Exit a) e = absurd cc
