-- A formed program with another formed body in the place of one is formed.
use Rattle.std.proofs.Common.{◌≡◌, ℕ, Bool, true, false, nat_eq, if◌then◌else◌, List, length, Option, Some, slice_get, All, refl, sym, subst, arith}
use Rattle.std.proofs.lemmas.Bool.Decides.{nat_tests}
use Rattle.std.proofs.lemmas.List.Elements.{All-contains_itself}
use Rattle.oi_base.specs.declared.ids.RegId.{RegId}
use Rattle.oi_base.specs.declared.ids.FuncId.{FuncId}
use Rattle.ir_core.specs.declared.flat.Scalar.{Scalar}
use Rattle.ir_core.specs.declared.flat.FlatOp.{FlatOp}
use Rattle.ir_core.specs.declared.flat.FlatInstr.TheVariants.{Call}
use Rattle.ir_core.specs.declared.flat.FlatBlock.{FlatBlock}
use Rattle.ir_core.specs.declared.flat.FlatBody.{FlatBody}
use Rattle.ir_core.specs.Flat.{Program}
use Rattle.ir_core.specs.Formed.{FuncType, IsBlock, IsFormedBody, IsFormed, NamesGlobal, all_uses}
use Rattle.ir_core.proofs.Lists.{Has, has_in}
use Rattle.ir_simulation.specs.Replaced.{body_at, with_body}

pub each_all : {A : Type 0} (P : A → Type 0) (xs : List A) → ((x : A) → Has xs x → P x) → All P xs
each_all P xs h = λ k d lt. h _ (has_in xs _ (All-contains_itself xs k d lt))

-- a function of this number is called in the body
pub record IsCalled (body : FlatBody) (g : FuncId) : Type 0 where
  pub block : ℕ
  pub place : ℕ
  pub code : FlatBlock
  pub result : Option RegId
  pub args : List FlatOp
  pub is_block : IsBlock body block code
  pub is_call : slice_get code.code place ≡ Some (Call result g args)

-- where a body is replaced by one that is formed too, calls no other function and uses no other address
module _ (p : Program) (types : ℕ → ℕ → Scalar) (funcs : ℕ → FuncType) (h : IsFormed p types funcs) (f : ℕ) (old new : FlatBody) (is_old : p.body f ≡ Some old) (formed : IsFormedBody (types f) funcs (funcs f) new)
    (calls : (g : FuncId) → IsCalled new g → IsCalled old g) (addresses : All (NamesGlobal (length p.globals)) (all_uses new)) where
  -- each function's body is the new one or as before
  by_body : (P : ℕ → FlatBody → Type 0) → P f new → ((g : ℕ) (body : FlatBody) → p.body g ≡ Some body → P g body) → (g : ℕ) (body : FlatBody) → body_at p.body f new g ≡ Some body → P g body
  by_body P here there g body e = by_test (nat_eq g f) refl e
    where
      by_test : (t : Bool) → nat_eq g f ≡ t → (if t then Some new else p.body g) ≡ Some body → P g body
      by_test true is e = let same : g ≡ f = grind (arith, nat_tests) in let one : new ≡ body = cc in subst (λ n. P n body) (sym same) (subst (P f) one here)
      by_test false is e = there g body e

  -- a function that had a body has one
  still_there : (g : ℕ) (body : FlatBody) → p.body g ≡ Some body → (b : FlatBody) × (body_at p.body f new g ≡ Some b)
  still_there g body e = by_test (nat_eq g f)
    where
      by_test : (t : Bool) → (b : FlatBody) × ((if t then Some new else p.body g) ≡ Some b)
      by_test true = (new, refl)
      by_test false = (body, e)

  pub replaced_formed : IsFormed (with_body p f new) types funcs
  replaced_formed = record {
    bodies = by_body (λ g body. IsFormedBody (types g) funcs (funcs g) body) formed h.bodies;
    has_main = still_there p.main h.has_main.0 h.has_main.1;
    main_type = h.main_type;
    called = λ g b n body k d c args is_body is_block is_call.
        let x = by_body (λ g body. IsCalled body c → (callee : FlatBody) × (p.body c.0 ≡ Some callee))
        (λ call. let o = calls c call in h.called f o.block o.place old o.code o.result c o.args is_old o.is_block o.is_call)
        (λ g body is call. h.called g call.block call.place body call.code call.result c call.args is call.is_block call.is_call)
        g body is_body (record { block = b; place = n; code = k; result = d; args = args; is_block = is_block; is_call = is_call }) in
        still_there c.0 x.0 x.1;
    addresses = by_body (λ g body. All (NamesGlobal (length p.globals)) (all_uses body)) addresses h.addresses;
    pointers = h.pointers;
  }
