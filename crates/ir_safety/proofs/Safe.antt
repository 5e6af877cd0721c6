-- What a program has to be so that its run is not stuck. Rules say what is not so, and that a run is not stuck is such a
-- statement too; so it is enough that none of these facts is false.
use Rattle.std.proofs.Common.{◌≡◌, ℕ, ◌<◌, List, [], ◌∷◌, length, Option, Some, slice_get, All, Contains}
use Rattle.std.proofs.lemmas.List.Elements.{All-nil, All-cons, All-contains_itself}
use Rattle.oi_base.specs.declared.words.Width.TheVariants.{W1, W32}
use Rattle.oi_base.specs.declared.ids.RegId.{RegId}
use Rattle.oi_base.specs.declared.ids.FuncId.{FuncId}
use Rattle.ir_core.specs.declared.flat.Scalar.{Scalar}
use Rattle.ir_core.specs.declared.flat.Scalar.TheVariants as scalar
use Rattle.ir_core.specs.declared.flat.FlatOp.{FlatOp}
use Rattle.ir_core.specs.declared.flat.Term.{Term}
use Rattle.ir_core.specs.declared.flat.Entry.{Entry}
use Rattle.ir_core.specs.declared.flat.Phi.{Phi}
use Rattle.ir_core.specs.declared.flat.FlatInstr.{FlatInstr}
use Rattle.ir_core.specs.declared.flat.FlatInstr.TheVariants.{Bin, Icmp, Select, Cast, Copy, Alloca, Load, Store, Gep, Call, Put, Get, Exit}
use Rattle.ir_core.specs.declared.flat.FlatEnd.{FlatEnd}
use Rattle.ir_core.specs.declared.flat.FlatEnd.TheVariants.{Ret, Br, Cond, Switch, Unreachable}
use Rattle.ir_core.specs.declared.flat.FlatBlock.{FlatBlock}
use Rattle.ir_core.specs.declared.flat.FlatBody.{FlatBody}
use Rattle.ir_core.specs.Flat.{Program}
use Rattle.ir_core.specs.Formed.{FuncType, HasType, is_cast, Receives, AllTyped, ReturnsType, IsBlock, IsEdge, IsPath, ComesFirst, used_by, used_at_end}

-- ---- what is not false

abbrev pub NotFalse : Type 0 → Type 0
NotFalse P = (P → ⊥) → ⊥

pub true_too : {P : Type 0} → P → NotFalse P
true_too p not = not p

pub and_so : {P Q : Type 0} → NotFalse P → (P → NotFalse Q) → NotFalse Q
and_so h k not = h (λ p. k p not)

pub in_turn : {P Q : Type 0} → NotFalse P → (P → Q) → NotFalse Q
in_turn h k not = h (λ p. not (k p))

pub all_too : {A : Type 0} (P : A → Type 0) (xs : List A) → ((x : A) → NotFalse (P x)) → NotFalse (All P xs)
all_too P [] h = true_too (All-nil P)
all_too P (x ∷ xs) h = and_so (h x) (λ p. in_turn (all_too P xs h) (λ ps. All-cons P x xs p ps))

implied : {P Q : Type 0} → (P → NotFalse Q) → NotFalse (P → Q)
implied h not = not (λ p. absurd (h p (λ q. not (λ p1. q))))

pub each_too : {A : Type 0} (P : A → Type 0) (xs : List A) → ((x : A) → Contains xs x → NotFalse (P x)) → NotFalse (All P xs)
each_too {A} P xs h = in_turn (all_too (λ (x : A). Contains xs x → P x) xs (λ (x : A). implied (h x))) (λ each. λ n d lt. each n d lt (All-contains_itself xs n d lt))

-- ---- types

-- the operands of an instruction are of its types, and its register is of the type of what it gives
abbrev pub IsTypedInstr : (ℕ → Scalar) → (ℕ → FuncType) → FlatInstr → Type 0
IsTypedInstr types funcs (Bin d op w a b) = (types d.0 ≡ scalar.Word w) × HasType types a (scalar.Word w) × HasType types b (scalar.Word w)
IsTypedInstr types funcs (Icmp d c s a b) = (types d.0 ≡ scalar.Word W1) × HasType types a s × HasType types b s
IsTypedInstr types funcs (Select d c a b) = HasType types c (scalar.Word W1) × HasType types a (types d.0) × HasType types b (types d.0)
IsTypedInstr types funcs (Cast d c from to a) = (types d.0 ≡ scalar.Word to) × HasType types a (scalar.Word from) × is_cast c from to
IsTypedInstr types funcs (Copy d a) = HasType types a (types d.0)
IsTypedInstr types funcs (Alloca d size align) = types d.0 ≡ scalar.Pointer
IsTypedInstr types funcs (Load d s align a) = (types d.0 ≡ s) × HasType types a scalar.Pointer
IsTypedInstr types funcs (Store s align v a) = HasType types v s × HasType types a scalar.Pointer
IsTypedInstr types funcs (Gep d a k ts) = (types d.0 ≡ scalar.Pointer) × HasType types a scalar.Pointer × All (λ (t : Term). HasType types t.operand (scalar.Word t.width)) ts
IsTypedInstr types funcs (Call d f args) = AllTyped types args (funcs f.0).params × Receives types d (funcs f.0).result
IsTypedInstr types funcs (Put d a) = HasType types a (scalar.Word W32) × Receives types d (Some (scalar.Word W32))
IsTypedInstr types funcs (Get d) = Receives types d (Some (scalar.Word W32))
IsTypedInstr types funcs (Exit a) = HasType types a (scalar.Word W32)

abbrev pub IsTypedEnd : (ℕ → Scalar) → Option Scalar → FlatEnd → Type 0
IsTypedEnd types result (Ret a) = ReturnsType types result a
IsTypedEnd types result (Br b) = Unit {0}
IsTypedEnd types result (Cond c t f) = HasType types c (scalar.Word W1)
IsTypedEnd types result (Switch a w cases other) = HasType types a (scalar.Word w)
IsTypedEnd types result Unreachable = Unit {0}

-- ---- bodies and programs

pub record IsSafeBody (types : ℕ → Scalar) (funcs : ℕ → FuncType) (own : FuncType) (body : FlatBody) : Type 0 where
  pub own_params : (length own.params ≡ body.params) × ((q : ℕ) (s : Scalar) → slice_get own.params q ≡ Some s → types q ≡ s)
  pub entry : NotFalse ((k : FlatBlock) × IsBlock body 0 k × (k.phis ≡ []))
  pub in_range : (b c : ℕ) → IsEdge body b c → NotFalse (c < length body.blocks)
  pub phis : (a b : ℕ) (k : FlatBlock) (f : Phi) → IsEdge body a b → IsBlock body b k → Contains k.phis f → NotFalse ((e : Entry) × Contains f.entries e × (e.from.0 ≡ a))
  pub phi_types : (b : ℕ) (k : FlatBlock) (f : Phi) → IsBlock body b k → Contains k.phis f → NotFalse (All (λ (e : Entry). HasType types e.value (types f.reg.0)) f.entries)
  pub code : (b n : ℕ) (k : FlatBlock) (i : FlatInstr) → IsBlock body b k → slice_get k.code n ≡ Some i → NotFalse (IsTypedInstr types funcs i)
  pub ends : (b : ℕ) (k : FlatBlock) → IsBlock body b k → NotFalse (IsTypedEnd types own.result k.end)
  pub by_code : (b : ℕ) (older : List ℕ) (k : FlatBlock) (n : ℕ) (i : FlatInstr) → IsPath body (b ∷ older) → IsBlock body b k → slice_get k.code n ≡ Some i → NotFalse (All (ComesFirst body older k n) (used_by i))
  pub by_end : (b : ℕ) (older : List ℕ) (k : FlatBlock) → IsPath body (b ∷ older) → IsBlock body b k → NotFalse (All (ComesFirst body older k (length k.code)) (used_at_end k.end))
  pub by_phi : (b c : ℕ) (older : List ℕ) (k l : FlatBlock) (f : Phi) (e : Entry) → IsPath body (c ∷ b ∷ older) → IsBlock body b k → IsBlock body c l → Contains l.phis f → Contains f.entries e → e.from.0 ≡ b →
      NotFalse (ComesFirst body older k (length k.code) e.value)

pub record IsSafe (p : Program) (types : ℕ → ℕ → Scalar) (funcs : ℕ → FuncType) : Type 0 where
  pub bodies : (f : ℕ) (body : FlatBody) → p.body f ≡ Some body → IsSafeBody (types f) funcs (funcs f) body
  pub has_main : NotFalse ((body : FlatBody) × (p.body p.main ≡ Some body))
  pub main_type : NotFalse (((funcs p.main).params ≡ []) × ((funcs p.main).result ≡ Some (scalar.Word W32)))
  pub called : (f b n : ℕ) (body : FlatBody) (k : FlatBlock) (d : Option RegId) (g : FuncId) (args : List FlatOp) → p.body f ≡ Some body → IsBlock body b k → slice_get k.code n ≡ Some (Call d g args) →
      NotFalse ((callee : FlatBody) × (p.body g.0 ≡ Some callee))
