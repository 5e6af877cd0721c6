-- A formed program is safe.
use Rattle.std.proofs.Common.{ℕ}
use Rattle.ir_core.specs.declared.flat.Scalar.{Scalar}
use Rattle.ir_core.specs.declared.flat.FlatInstr.{FlatInstr}
use Rattle.ir_core.specs.declared.flat.FlatInstr.TheVariants.{Bin, Icmp, Select, Cast, Copy, Alloca, Load, Store, Gep, Call, Put, Get, Exit}
use Rattle.ir_core.specs.declared.flat.FlatEnd.{FlatEnd}
use Rattle.ir_core.specs.declared.flat.FlatEnd.TheVariants.{Ret, Br, Cond, Switch, Unreachable}
use Rattle.ir_core.specs.declared.flat.FlatBody.{FlatBody}
use Rattle.ir_core.specs.Flat.{Program}
use Rattle.ir_core.specs.Formed.{FuncType, IsTyped, IsEndTyped, IsFormedBody, IsFormed}
use Rattle.ir_safety.proofs.Safe.{true_too, IsTypedInstr, IsTypedEnd, IsSafeBody, IsSafe}

typed_instr : (types : ℕ → Scalar) (funcs : ℕ → FuncType) (i : FlatInstr) → IsTyped types funcs i → IsTypedInstr types funcs i
typed_instr types funcs (Bin d op w a b) t = t
typed_instr types funcs (Icmp d c s a b) t = t
typed_instr types funcs (Select d c a b) t = t
typed_instr types funcs (Cast d c from to a) t = t
typed_instr types funcs (Copy d a) t = t
typed_instr types funcs (Alloca d size align) t = t.0
typed_instr types funcs (Load d s align a) t = (t.0, t.1)
typed_instr types funcs (Store s align v a) t = (t.0, t.1)
typed_instr types funcs (Gep d a k ts) t = (t.0, t.1, λ n d2 lt. (t.3 n d2 lt).0)
typed_instr types funcs (Call d f args) t = (t.0, t.2)
typed_instr types funcs (Put d a) t = t
typed_instr types funcs (Get d) t = t
typed_instr types funcs (Exit a) t = t

typed_end : (types : ℕ → Scalar) (own : FuncType) (e : FlatEnd) → IsEndTyped types own.result e → IsTypedEnd types own.result e
typed_end types own (Ret a) t = t
typed_end types own (Br b) t = t
typed_end types own (Cond c x y) t = t
typed_end types own (Switch a w cases other) t = t.0
typed_end types own Unreachable t = t

safe_body : (types : ℕ → Scalar) (funcs : ℕ → FuncType) (own : FuncType) (body : FlatBody) → IsFormedBody types funcs own body → IsSafeBody types funcs own body
safe_body types funcs own body f = record {
  own_params = f.own_params;
  entry = true_too f.entry;
  in_range = λ b c edge. true_too (f.in_range b c edge);
  phis = λ a b k g edge is has. true_too ((f.phis b k g is has).0.each a edge);
  phi_types = λ b k g is has. true_too (f.phis b k g is has).2;
  code = λ b n k i is at. true_too (typed_instr types funcs i (f.code b n k i is at));
  ends = λ b k is. true_too (typed_end types own k.end (f.ends b k is));
  by_code = λ b older k n i path is at. true_too (f.defined_first.by_code b older k n i path is at);
  by_end = λ b older k path is. true_too (f.defined_first.by_end b older k path is);
  by_phi = λ b c older k l g e path is next has in_it from. true_too (f.defined_first.by_phi b c older k l g e path is next has in_it from);
}

pub formed_safe : (p : Program) (types : ℕ → ℕ → Scalar) (funcs : ℕ → FuncType) → IsFormed p types funcs → IsSafe p types funcs
formed_safe p types funcs f = record {
  bodies = λ g body is. safe_body (types g) funcs (funcs g) body (f.bodies g body is);
  has_main = true_too f.has_main;
  main_type = true_too f.main_type;
  called = λ g b n body k d h args is at there. true_too (f.called g b n body k d h args is at there);
}
