-- The plain bodies of a proper and valid module are safe: all that has to be known of them, put together.
use Rattle.std.proofs.Common.{◌≡◌, ℕ, List, [], ◌∷◌, length, Option, Some, slice_get, All, Contains, sym, ap, subst}
use Rattle.std.specs.Option.{option_map_or}
use Rattle.oi_base.specs.declared.words.Width.TheVariants.{W32}
use Rattle.oi_base.specs.declared.ids.RegId.{RegId}
use Rattle.oi_base.specs.declared.ids.FuncId.{FuncId}
use Rattle.ir_core.specs.declared.flat.Scalar.{Scalar}
use Rattle.ir_core.specs.declared.flat.Scalar.TheVariants as scalar
use Rattle.ir_core.specs.declared.flat.FlatOp.{FlatOp}
use Rattle.ir_core.specs.declared.flat.Entry.{Entry}
use Rattle.ir_core.specs.declared.flat.Phi.{Phi}
use Rattle.ir_core.specs.declared.flat.FlatInstr.{FlatInstr}
use Rattle.ir_core.specs.declared.flat.FlatInstr.TheVariants.{Call}
use Rattle.ir_core.specs.declared.flat.FlatBlock.{FlatBlock}
use Rattle.ir_core.specs.declared.flat.FlatBody.{FlatBody}
use Rattle.ir_core.specs.declared.ty.IrType.{Void}
use Rattle.ir_core.specs.declared.func.Func.{Func}
use Rattle.ir_core.specs.declared.module.Module.{Module}
use Rattle.ir_core.specs.Constants.{scalar_of}
use Rattle.ir_core.specs.Formed.{FuncType, HasType, IsBlock, IsPath, ComesFirst, used_by, used_at_end}
use Rattle.ir_core.specs.Plain.{plain_body, plain_program}
use Rattle.ir_core.specs.Proper.{IsProper}
use Rattle.ir_core.specs.Valid.{IsValid}
use Rattle.ir_core.proofs.Lists.{mapped}
use Rattle.ir_safety.proofs.Safe.{NotFalse, IsTypedInstr, IsTypedEnd, IsSafeBody, IsSafe}
use Rattle.ir_safety.specs.PlainTypes.{func_types, func_type, plain_types, plain_funcs}
use Rattle.ir_safety.proofs.Callees.{type_at}
use Rattle.ir_safety.proofs.Labels.{entry_safe, in_range_safe, phis_safe}

-- ---- what is known of each function, and of the whole

abbrev pub OwnParams : Func → Type 0
OwnParams f = (length (func_type f).params ≡ length f.params) × ((q : ℕ) (s : Scalar) → slice_get (func_type f).params q ≡ Some s → func_types f q ≡ s)

abbrev pub PhiTypes : Module → Func → Type 0
PhiTypes m f = (b : ℕ) (k : FlatBlock) (q : Phi) → IsBlock (plain_body m f) b k → Contains k.phis q → NotFalse (All (λ (e : Entry). HasType (func_types f) e.value (func_types f q.reg.0)) q.entries)

abbrev pub CodeTypes : Module → Func → Type 0
CodeTypes m f = (b n : ℕ) (k : FlatBlock) (i : FlatInstr) → IsBlock (plain_body m f) b k → slice_get k.code n ≡ Some i → NotFalse (IsTypedInstr (func_types f) (plain_funcs m) i)

abbrev pub EndTypes : Module → Func → Type 0
EndTypes m f = (b : ℕ) (k : FlatBlock) → IsBlock (plain_body m f) b k → NotFalse (IsTypedEnd (func_types f) (func_type f).result k.end)

abbrev pub FirstByCode : Module → Func → Type 0
FirstByCode m f = (b : ℕ) (older : List ℕ) (k : FlatBlock) (n : ℕ) (i : FlatInstr) → IsPath (plain_body m f) (b ∷ older) → IsBlock (plain_body m f) b k → slice_get k.code n ≡ Some i →
    NotFalse (All (ComesFirst (plain_body m f) older k n) (used_by i))

abbrev pub FirstByEnd : Module → Func → Type 0
FirstByEnd m f = (b : ℕ) (older : List ℕ) (k : FlatBlock) → IsPath (plain_body m f) (b ∷ older) → IsBlock (plain_body m f) b k → NotFalse (All (ComesFirst (plain_body m f) older k (length k.code)) (used_at_end k.end))

abbrev pub FirstByPhi : Module → Func → Type 0
FirstByPhi m f = (b c : ℕ) (older : List ℕ) (k l : FlatBlock) (q : Phi) (e : Entry) → IsPath (plain_body m f) (c ∷ b ∷ older) → IsBlock (plain_body m f) b k → IsBlock (plain_body m f) c l → Contains l.phis q →
    Contains q.entries e → e.from.0 ≡ b → NotFalse (ComesFirst (plain_body m f) older k (length k.code) e.value)

abbrev pub HasMain : Module → Type 0
HasMain m = NotFalse ((body : FlatBody) × ((plain_program m).body (plain_program m).main ≡ Some body))

abbrev pub MainType : Module → Type 0
MainType m = NotFalse (((plain_funcs m (plain_program m).main).params ≡ []) × ((plain_funcs m (plain_program m).main).result ≡ Some (scalar.Word W32)))

abbrev pub AllCalled : Module → Type 0
AllCalled m = (f b n : ℕ) (body : FlatBody) (k : FlatBlock) (d : Option RegId) (g : FuncId) (args : List FlatOp) → (plain_program m).body f ≡ Some body → IsBlock body b k → slice_get k.code n ≡ Some (Call d g args) →
    NotFalse ((callee : FlatBody) × ((plain_program m).body g.0 ≡ Some callee))

-- what holds of each function of a module
abbrev pub OfEach : Module → (Func → Type 0) → Type 0
OfEach m P = (g : ℕ) (f : Func) → slice_get m.funcs g ≡ Some f → P f

-- ---- the whole

-- what holds of each plain body with the types of its function holds of what has that function's number
pub placed : (m : Module) (P : (ℕ → Scalar) → FuncType → FlatBody → Type 0) (g : ℕ) (body : FlatBody)
    → ((f : Func) → slice_get m.funcs g ≡ Some f → P (func_types f) (func_type f) (plain_body m f))
    → (plain_program m).body g ≡ Some body → P (plain_types m g) (plain_funcs m g) body
placed m P g body each e =
    let f = mapped (plain_body m) (slice_get m.funcs g) body e in
    let types : plain_types m g ≡ func_types f.0 = ap (λ (o : Option Func). option_map_or func_types o (λ (r : ℕ). scalar_of Void)) f.1 in
    subst (λ (ts : ℕ → Scalar). P ts (plain_funcs m g) body) (sym types)
    (subst (λ (t : FuncType). P (func_types f.0) t body) (sym (type_at m g f.0 f.1))
    (subst (P (func_types f.0) (func_type f.0)) f.2 (each f.0 f.1)))

pub plain_bodies_safe : (m : Module) → IsProper m → IsValid m → ((f : Func) → OwnParams f) → OfEach m (PhiTypes m) → OfEach m (CodeTypes m) → OfEach m (EndTypes m) → OfEach m (FirstByCode m)
    → OfEach m (FirstByEnd m) → OfEach m (FirstByPhi m) → HasMain m → MainType m → AllCalled m → IsSafe (plain_program m) (plain_types m) (plain_funcs m)
plain_bodies_safe m proper valid own_params phi_types code ends by_code by_end by_phi has_main main_type called = record {
  bodies = λ g body e. placed m (λ ts t x. IsSafeBody ts (plain_funcs m) t x) g body (body_safe g) e;
  has_main = has_main;
  main_type = main_type;
  called = called;
}
  where
    body_safe : (g : ℕ) (f : Func) → slice_get m.funcs g ≡ Some f → IsSafeBody (func_types f) (plain_funcs m) (func_type f) (plain_body m f)
    body_safe g f at = record {
      own_params = own_params f;
      entry = entry_safe m proper valid g f at;
      in_range = in_range_safe m proper valid g f at;
      phis = phis_safe m proper valid g f at;
      phi_types = phi_types g f at;
      code = code g f at;
      ends = ends g f at;
      by_code = by_code g f at;
      by_end = by_end g f at;
      by_phi = by_phi g f at;
    }
