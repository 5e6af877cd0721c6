-- Formed bodies and programs: those whose runs never ask for a value that is not there or has another type.
use Rattle.std.specs.Prelude.{◌≡◌, ◌≢◌, ◌⊎◌, ℕ, ◌<◌, ◌≤◌, List, [], ◌∷◌, ◌++◌, length, map, Option, Some, None, slice_get, All, AllPairs, Contains}
use Rattle.std.specs.List.{flat_map, filter_map}
use Rattle.oi_base.specs.declared.words.Width.{Width}
use Rattle.oi_base.specs.declared.words.Width.TheVariants.{W1, W32}
use Rattle.ir_core.specs.declared.limits.TheConstants.{MOST_PARAMS}
use Rattle.ir_core.specs.declared.flat.Scalar.{Scalar}
use Rattle.ir_core.specs.declared.flat.Scalar.TheVariants as scalar
use Rattle.ir_core.specs.declared.flat.CastOp.{CastOp}
use Rattle.ir_core.specs.declared.flat.CastOp.TheVariants.{Zext, Sext, Trunc}
use Rattle.oi_base.specs.declared.ids.RegId.{RegId}
use Rattle.ir_core.specs.declared.flat.FlatOp.{FlatOp}
use Rattle.ir_core.specs.declared.flat.FlatOp.TheVariants.{Reg, Word, Null, Address, Poison}
use Rattle.ir_core.specs.declared.flat.Case.{Case}
use Rattle.ir_core.specs.declared.flat.Entry.{Entry}
use Rattle.ir_core.specs.declared.flat.Phi.{Phi}
use Rattle.ir_core.specs.declared.flat.FlatInstr.{FlatInstr}
use Rattle.ir_core.specs.declared.flat.FlatInstr.TheVariants.{Bin, Icmp, Select, Cast, Copy, Alloca, Load, Store, Gep, Call, Put, Get, Exit}
use Rattle.ir_core.specs.declared.flat.FlatEnd.{FlatEnd}
use Rattle.ir_core.specs.declared.flat.FlatEnd.TheVariants.{Ret, Br, Cond, Switch, Unreachable}
use Rattle.ir_core.specs.declared.flat.FlatBlock.{FlatBlock}
use Rattle.ir_core.specs.declared.flat.FlatBody.{FlatBody}
use Rattle.oi_base.specs.Words.{modulus, bits}
use Rattle.ir_core.specs.Memory.{scalar_size, PointsWithin}
use Rattle.ir_core.specs.Flat.{Program}

-- ---- what is written and used

abbrev pub of_reg : RegId → Option ℕ
of_reg r = Some r.0

abbrev pub of_result : Option RegId → Option ℕ
of_result None = None
of_result (Some r) = Some r.0

-- the register that an instruction writes
abbrev pub result_of : FlatInstr → Option RegId
result_of (Bin d op w a b) = Some d
result_of (Icmp d c s a b) = Some d
result_of (Select d c a b) = Some d
result_of (Cast d c from to a) = Some d
result_of (Copy d a) = Some d
result_of (Alloca d size align) = Some d
result_of (Load d s align a) = Some d
result_of (Store s align v a) = None
result_of (Gep d a k ts) = Some d
result_of (Call d f args) = d
result_of (Put d a) = d
result_of (Get d) = d
result_of (Exit a) = None

-- its number
abbrev pub written_by : FlatInstr → Option ℕ
written_by i = of_result (result_of i)

abbrev pub used_by : FlatInstr → List FlatOp
used_by (Bin d op w a b) = a ∷ b ∷ []
used_by (Icmp d c s a b) = a ∷ b ∷ []
used_by (Select d c a b) = c ∷ a ∷ b ∷ []
used_by (Cast d c from to a) = a ∷ []
used_by (Copy d a) = a ∷ []
used_by (Alloca d size align) = []
used_by (Load d s align a) = a ∷ []
used_by (Store s align v a) = v ∷ a ∷ []
used_by (Gep d a k ts) = a ∷ map (λ t. t.operand) ts
used_by (Call d f args) = args
used_by (Put d a) = a ∷ []
used_by (Get d) = []
used_by (Exit a) = a ∷ []

abbrev pub used_at_end : FlatEnd → List FlatOp
used_at_end (Ret None) = []
used_at_end (Ret (Some a)) = a ∷ []
used_at_end (Br b) = []
used_at_end (Cond c t f) = c ∷ []
used_at_end (Switch a w cases other) = a ∷ []
used_at_end Unreachable = []

abbrev pub targets : FlatEnd → List ℕ
targets (Br b) = b.0 ∷ []
targets (Cond c t f) = t.0 ∷ f.0 ∷ []
targets (Switch a w cases other) = map (λ c. c.to.0) cases ++ other.0 ∷ []
targets _ = []

-- ---- paths and definitions

-- block b stands in the body
abbrev pub IsBlock : FlatBody → ℕ → FlatBlock → Type 0
IsBlock body b k = slice_get body.blocks b ≡ Some k

abbrev pub IsEdge : FlatBody → ℕ → ℕ → Type 0
IsEdge body a b = (k : FlatBlock) × IsBlock body a k × Contains (targets k.end) b

-- the blocks of a path from block 0, the last first
abbrev pub IsPath : FlatBody → List ℕ → Type 0
IsPath body [] = ⊥
IsPath body (b ∷ []) = b ≡ 0
IsPath body (b ∷ a ∷ older) = IsEdge body a b × IsPath body (a ∷ older)

-- a phi of the block or one of its first n instructions writes the register
abbrev pub IsWritten : FlatBlock → ℕ → ℕ → Type 0
IsWritten k n r = Contains (map (λ f. f.reg.0) k.phis) r ⊎ ((j : ℕ) × (i : FlatInstr) × (j < n) × (slice_get k.code j ≡ Some i) × (written_by i ≡ Some r))

-- it is a parameter, or written in a block of the path
abbrev pub ComesIn : FlatBody → List ℕ → ℕ → Type 0
ComesIn body [] r = r < body.params
ComesIn body (b ∷ older) r = ((k : FlatBlock) × IsBlock body b k × IsWritten k (length k.code) r) ⊎ ComesIn body older r

-- the definition comes first on a path that ends in block k before its instruction n
abbrev pub ComesFirst : FlatBody → List ℕ → FlatBlock → ℕ → FlatOp → Type 0
ComesFirst body older k n (Reg r) = IsWritten k n r.0 ⊎ ComesIn body older r.0
ComesFirst body older k n o = Unit {0}

pub record DefinedFirst (body : FlatBody) : Type 0 where
  pub by_code : (b : ℕ) (older : List ℕ) (k : FlatBlock) (n : ℕ) (i : FlatInstr) → IsPath body (b ∷ older) → IsBlock body b k → slice_get k.code n ≡ Some i → All (ComesFirst body older k n) (used_by i)
  pub by_end : (b : ℕ) (older : List ℕ) (k : FlatBlock) → IsPath body (b ∷ older) → IsBlock body b k → All (ComesFirst body older k (length k.code)) (used_at_end k.end)
  pub by_phi : (b c : ℕ) (older : List ℕ) (k l : FlatBlock) (f : Phi) (e : Entry) → IsPath body (c ∷ b ∷ older) → IsBlock body b k → IsBlock body c l → Contains l.phis f → Contains f.entries e → e.from.0 ≡ b → ComesFirst body older k (length k.code) e.value

-- ---- types

abbrev pub HasType : (ℕ → Scalar) → FlatOp → Scalar → Type 0
HasType types (Reg r) s = types r.0 ≡ s
HasType types (Word a) (scalar.Word w) = a < modulus w
HasType types (Word a) scalar.Pointer = ⊥
HasType types Null s = s ≡ scalar.Pointer
HasType types (Address g k) s = (s ≡ scalar.Pointer) × (k < 4294967296)
HasType types Poison s = Unit {0}

abbrev pub is_cast : CastOp → Width → Width → Type 0
is_cast Zext from to = bits from < bits to
is_cast Sext from to = bits from < bits to
is_cast Trunc from to = bits to < bits from

abbrev pub IsAlign : ℕ → Type 0
IsAlign k = Contains (1 ∷ 2 ∷ 4 ∷ 8 ∷ 16 ∷ []) k

-- a result's register has the type that a call gives, or there is none
abbrev pub Receives : (ℕ → Scalar) → Option RegId → Option Scalar → Type 0
Receives types None s = Unit {0}
Receives types (Some d) s = s ≡ Some (types d.0)

abbrev pub AllTyped : (ℕ → Scalar) → List FlatOp → List Scalar → Type 0
AllTyped types [] [] = Unit {0}
AllTyped types (o ∷ os) (s ∷ ss) = HasType types o s × AllTyped types os ss
AllTyped types [] (s ∷ ss) = ⊥
AllTyped types (o ∷ os) [] = ⊥

-- a function's type: its parameters and its result
pub record FuncType : Type 0 where
  pub params : List Scalar
  pub result : Option Scalar

abbrev pub IsTyped : (ℕ → Scalar) → (ℕ → FuncType) → FlatInstr → Type 0
IsTyped types funcs (Bin d op w a b) = (types d.0 ≡ scalar.Word w) × HasType types a (scalar.Word w) × HasType types b (scalar.Word w)
IsTyped types funcs (Icmp d c s a b) = (types d.0 ≡ scalar.Word W1) × HasType types a s × HasType types b s
IsTyped types funcs (Select d c a b) = HasType types c (scalar.Word W1) × HasType types a (types d.0) × HasType types b (types d.0)
IsTyped types funcs (Cast d c from to a) = (types d.0 ≡ scalar.Word to) × HasType types a (scalar.Word from) × is_cast c from to
IsTyped types funcs (Copy d a) = HasType types a (types d.0)
IsTyped types funcs (Alloca d size align) = (types d.0 ≡ scalar.Pointer) × IsAlign align × (size < 4294967296)
IsTyped types funcs (Load d s align a) = (types d.0 ≡ s) × HasType types a scalar.Pointer × IsAlign align × (scalar_size s ≤ align)
IsTyped types funcs (Store s align v a) = HasType types v s × HasType types a scalar.Pointer × IsAlign align × (scalar_size s ≤ align)
IsTyped types funcs (Gep d a k ts) = (types d.0 ≡ scalar.Pointer) × HasType types a scalar.Pointer × (k < 4294967296) × All (λ t. HasType types t.operand (scalar.Word t.width) × (t.stride < 4294967296)) ts
IsTyped types funcs (Call d f args) = AllTyped types args (funcs f.0).params × (length args ≤ MOST_PARAMS) × Receives types d (funcs f.0).result
IsTyped types funcs (Put d a) = HasType types a (scalar.Word W32) × Receives types d (Some (scalar.Word W32))
IsTyped types funcs (Get d) = Receives types d (Some (scalar.Word W32))
IsTyped types funcs (Exit a) = HasType types a (scalar.Word W32)

abbrev pub ReturnsType : (ℕ → Scalar) → Option Scalar → Option FlatOp → Type 0
ReturnsType types None None = Unit {0}
ReturnsType types (Some s) (Some a) = HasType types a s
ReturnsType types None (Some a) = ⊥
ReturnsType types (Some s) None = ⊥

-- no two of the cases have one word
abbrev pub DifferentCases : List Case → Type 0
DifferentCases cases = AllPairs (λ c d. c.word ≢ d.word) cases

abbrev pub IsEndTyped : (ℕ → Scalar) → Option Scalar → FlatEnd → Type 0
IsEndTyped types result (Ret a) = ReturnsType types result a
IsEndTyped types result (Br b) = Unit {0}
IsEndTyped types result (Cond c t f) = HasType types c (scalar.Word W1)
IsEndTyped types result (Switch a w cases other) = HasType types a (scalar.Word w) × All (λ c. c.word < modulus w) cases × DifferentCases cases
IsEndTyped types result Unreachable = Unit {0}

-- ---- bodies and programs

-- a phi has an entry for each block before it, and only for those; two for one block have one operand
pub record IsPhi (body : FlatBody) (b : ℕ) (f : Phi) : Type 0 where
  pub only : (e : Entry) → Contains f.entries e → IsEdge body e.from.0 b
  pub each : (a : ℕ) → IsEdge body a b → (e : Entry) × Contains f.entries e × (e.from.0 ≡ a)
  pub equal : (e g : Entry) → Contains f.entries e → Contains f.entries g → e.from.0 ≡ g.from.0 → e.value ≡ g.value

-- the registers that a block writes, and the operands that it uses, phis first
abbrev pub writes : FlatBlock → List ℕ
writes k = map (λ (f : Phi). f.reg.0) k.phis ++ filter_map written_by k.code

abbrev pub all_writes : FlatBody → List ℕ
all_writes body = flat_map writes body.blocks

abbrev pub uses : FlatBlock → List FlatOp
uses k = flat_map (λ (f : Phi). map (λ (e : Entry). e.value) f.entries) k.phis ++ flat_map used_by k.code ++ used_at_end k.end

abbrev pub all_uses : FlatBody → List FlatOp
all_uses body = flat_map uses body.blocks

-- an operand that is a register is a parameter or written by a phi or an instruction
abbrev pub IsParamOrWritten : FlatBody → FlatOp → Type 0
IsParamOrWritten body (Reg r) = (r.0 < body.params) ⊎ Contains (all_writes body) r.0
IsParamOrWritten body o = Unit {0}

-- an address is that of one of the globals
abbrev pub NamesGlobal : ℕ → FlatOp → Type 0
NamesGlobal globals (Address g k) = g < globals
NamesGlobal globals o = Unit {0}

pub record IsFormedBody (types : ℕ → Scalar) (funcs : ℕ → FuncType) (own : FuncType) (body : FlatBody) : Type 0 where
  pub entry : (k : FlatBlock) × IsBlock body 0 k × (k.phis ≡ [])
  pub no_way_back : (a : ℕ) → IsEdge body a 0 → ⊥
  pub few_params : (body.params ≤ MOST_PARAMS) × (body.params ≤ body.regs)
  pub numbers : (body.regs < 4294967296) × (length body.blocks < 4294967296)
  pub own_params : (length own.params ≡ body.params) × ((q : ℕ) (s : Scalar) → slice_get own.params q ≡ Some s → types q ≡ s)
  pub in_range : (b c : ℕ) → IsEdge body b c → c < length body.blocks
  pub phis : (b : ℕ) (k : FlatBlock) (f : Phi) → IsBlock body b k → Contains k.phis f → IsPhi body b f × (f.reg.0 < body.regs) × All (λ e. HasType types e.value (types f.reg.0)) f.entries
  pub code : (b n : ℕ) (k : FlatBlock) (i : FlatInstr) → IsBlock body b k → slice_get k.code n ≡ Some i → IsTyped types funcs i
  pub written_once : AllPairs (λ r s. r ≢ s) (all_writes body)
  pub written : All (λ r. (body.params ≤ r) × (r < body.regs)) (all_writes body)
  pub used : All (IsParamOrWritten body) (all_uses body)
  pub ends : (b : ℕ) (k : FlatBlock) → IsBlock body b k → IsEndTyped types own.result k.end
  pub defined_first : DefinedFirst body

-- a program: each body is formed, types agree between a call and its callee, main is there, addresses name globals, and so do the
-- pointers in the globals' bytes
pub record IsFormed (p : Program) (types : ℕ → ℕ → Scalar) (funcs : ℕ → FuncType) : Type 0 where
  pub bodies : (f : ℕ) (body : FlatBody) → p.body f ≡ Some body → IsFormedBody (types f) funcs (funcs f) body
  pub has_main : (body : FlatBody) × (p.body p.main ≡ Some body)
  pub main_type : ((funcs p.main).params ≡ []) × ((funcs p.main).result ≡ Some (scalar.Word W32))
  pub called : (f b n : ℕ) (body : FlatBody) (k : FlatBlock) (d : Option RegId) (g : _) (args : List FlatOp) → p.body f ≡ Some body → IsBlock body b k → slice_get k.code n ≡ Some (Call d g args) → (callee : FlatBody) × (p.body g.0 ≡ Some callee)
  pub addresses : (f : ℕ) (body : FlatBody) → p.body f ≡ Some body → All (NamesGlobal (length p.globals)) (all_uses body)
  pub pointers : PointsWithin p.globals
