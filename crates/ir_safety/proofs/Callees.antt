-- `main` and the functions that are called are there, with the types that the rules ask.
use Rattle.std.proofs.Common.{◌≡◌, ◌⊎◌, inl, inr, ℕ, suc, ◌+◌, ◌<◌, ◌≤◌, ◌==◌, Bool, true, false, not, cond, if◌then◌else◌, codes, List, [], ◌∷◌, ◌++◌, map, length, Option, Some, None, slice_get, Contains, refl, sym, ap, ◌∙◌, subst, arith}
use Rattle.std.specs.Prelude.{unwrap_or}
use Rattle.std.specs.List.{position_or_len}
use Rattle.std.specs.Option.{option_map, option_map_or}
use Rattle.std.proofs.lemmas.Bool.{cases_eq, cases_lt}
use Rattle.std.proofs.lemmas.Option.{slice_get-map, slice_get_within, get_or_from_slice_get}
use Rattle.std.proofs.lemmas.Slice.Eq.{bytes_eq-Decides}
use Rattle.oi_base.specs.declared.words.Width.TheVariants.{W32}
use Rattle.oi_base.specs.declared.ids.RegId.{RegId}
use Rattle.oi_base.specs.declared.ids.FuncId.{FuncId}
use Rattle.ir_core.specs.declared.flat.Scalar.TheVariants as scalar
use Rattle.ir_core.specs.declared.flat.FlatOp.{FlatOp}
use Rattle.ir_core.specs.declared.flat.FlatInstr.{FlatInstr}
use Rattle.ir_core.specs.declared.flat.FlatInstr.TheVariants as flat
use Rattle.ir_core.specs.declared.flat.FlatBlock.{FlatBlock}
use Rattle.ir_core.specs.declared.flat.FlatBody.{FlatBody}
use Rattle.ir_core.specs.declared.ty.IrType.{IrType}
use Rattle.ir_core.specs.declared.module.SymId.{SymId}
use Rattle.ir_core.specs.declared.module.Declaration.{Declaration}
use Rattle.ir_core.specs.declared.module.Module.{Module}
use Rattle.ir_core.specs.declared.op.LocalId.{LocalId}
use Rattle.ir_core.specs.declared.op.Op.{Op}
use Rattle.ir_core.specs.declared.op.Op.TheVariants as ops
use Rattle.ir_core.specs.declared.func.Instr.{Instr}
use Rattle.ir_core.specs.declared.func.Func.{Func}
use Rattle.ir_core.specs.declared.func.Param.{Param}
use Rattle.ir_core.specs.Parts.{instrs, is_defined, types_of}
use Rattle.ir_core.specs.Operands.{start, symbol_text}
use Rattle.ir_core.specs.Constants.{scalar_of}
use Rattle.ir_core.specs.Instructions.{typed, register, func_number, external_call, call, instruction}
use Rattle.ir_core.specs.Source.{is_main, main_number}
use Rattle.ir_core.specs.Plain.{Numbers, other_instr, numbers, plain_body, plain_program}
use Rattle.ir_core.specs.Formed.{FuncType, IsBlock}
use Rattle.ir_core.specs.Proper.{IsProper, AllDiffer}
use Rattle.ir_core.specs.Valid.{IsValid, IsValidFunc}
use Rattle.ir_core.specs.ValidModule.{HasMain, Introduced, introduced_globals, introduced_funcs, introduced}
use Rattle.ir_core.specs.ValidOps.{IsDefinedAs, IsExternal, IsDeclaredAs, CallsWell}
use Rattle.ir_core.proofs.Lists.{Has, has_at, at_has, element, place_within, place_has, all_at, has_in, mapped}
use Rattle.ir_safety.proofs.Safe.{NotFalse, in_turn}
use Rattle.ir_safety.specs.PlainTypes.{func_type, result_scalar, plain_funcs}
use Rattle.ir_safety.proofs.Elements.{left_at, mapped_twice}
use Rattle.ir_safety.proofs.PlainEdges.{IsFrom, block_of}
use Rattle.ir_safety.proofs.PlainRows.{instr_row}
use Rattle.ir_safety.proofs.PlainSources.{is_instr, code_source}
use Rattle.ir_safety.proofs.Named.{same_symbol, introduced_once, named_func, named_any}

-- ---- lists

right_at : {A : Type 0} (xs ys : List A) (k : ℕ) → slice_get (xs ++ ys) (length xs + k) ≡ slice_get ys k
right_at [] ys k = let n : 0 + k ≡ k = omega arith in ap (slice_get ys) n
right_at (x ∷ xs) ys k = let n : suc (length xs) + k ≡ suc (length xs + k) = omega arith in ap (slice_get (x ∷ (xs ++ ys))) n ∙ right_at xs ys k

-- what passes the test stands at the first place that does
first_at : {A : Type 0} (p : A → Bool) (xs : List A) (x : A) → Has xs x → p x ≡ true → (y : A) × (slice_get xs (position_or_len p xs) ≡ Some y) × (p y ≡ true)
first_at p [] x h e = absurd h
first_at {A} p (y ∷ ys) x h e = by_test (p y) refl (λ g. first_at p ys x g e) h
  where
    at : (b : Bool) (z : A) → p y ≡ b → slice_get (y ∷ ys) (cond (not b) (1 + position_or_len p ys) 0) ≡ Some z → slice_get (y ∷ ys) (position_or_len p (y ∷ ys)) ≡ Some z
    at b z t h = subst (λ c. slice_get (y ∷ ys) (cond (not c) (1 + position_or_len p ys) 0) ≡ Some z) (sym t) h

    by_test : (b : Bool) → p y ≡ b → (Has ys x → (z : A) × (slice_get ys (position_or_len p ys) ≡ Some z) × (p z ≡ true)) → (y ≡ x) ⊎ Has ys x → (z : A) × (slice_get (y ∷ ys) (position_or_len p (y ∷ ys)) ≡ Some z) × (p z ≡ true)
    by_test true t rest g = (y, at true y t refl, t)
    by_test false t rest (inl same) = let passes : p y ≡ true = ap p same ∙ e in absurd (let both : false ≡ true = sym t ∙ passes in cc)
    by_test false t rest (inr g) =
        let r = rest g in
        let n : suc (position_or_len p ys) ≡ 1 + position_or_len p ys = omega arith in
        (r.0, at false r.0 t (subst (λ k. slice_get (y ∷ ys) k ≡ Some r.0) n r.1), r.2)

-- ---- names after `@`

-- the symbol whose text is `main`
main_at : (m : Module) (s : SymId) → symbol_text m s ≡ codes "main" → slice_get m.symbols s.0 ≡ Some (codes "main")
main_at m s e = by_symbol (slice_get m.symbols s.0) refl e
  where
    by_symbol : (o : Option (List ℕ)) → slice_get m.symbols s.0 ≡ o → unwrap_or o [] ≡ codes "main" → slice_get m.symbols s.0 ≡ Some (codes "main")
    by_symbol None at e = absurd cc
    by_symbol (Some text) at e = at ∙ ap Some e

-- no text stands twice
in_order : (xs : List (List ℕ)) (x : List ℕ) (i j : ℕ) → AllDiffer xs → slice_get xs i ≡ Some x → slice_get xs j ≡ Some x → i < j → ⊥
in_order xs x i j differ a b lt = differ i j [] lt (slice_get_within xs j x b) (get_or_from_slice_get xs i x [] a ∙ sym (get_or_from_slice_get xs j x [] b))

one_place : (xs : List (List ℕ)) (x : List ℕ) (i j : ℕ) → AllDiffer xs → slice_get xs i ≡ Some x → slice_get xs j ≡ Some x → i ≡ j
one_place xs x i j differ a b = by_less (in_order xs x i j differ a b) (in_order xs x j i differ b a)
  where
    by_less : (i < j → ⊥) → (j < i → ⊥) → i ≡ j
    by_less h g = omega (arith, h, g)

-- ---- functions

pub type_at : (m : Module) (i : ℕ) (f : Func) → slice_get m.funcs i ≡ Some f → plain_funcs m i ≡ func_type f
type_at m i f at = ap (λ (o : Option Func). option_map_or func_type o (record { params = []; result = None })) at

module _ (m : Module) (valid : IsValid m) where
  abbrev known : Func → Introduced
  known f = record { name = f.name; place = f.place }

  abbrev declarations : List Introduced
  declarations = map (λ (d : Declaration). record { name = d.name; place = d.place }) m.declared

  introduced_at : (i : ℕ) (f : Func) → slice_get m.funcs i ≡ Some f → slice_get (introduced m) (length (introduced_globals m) + i) ≡ Some (known f)
  introduced_at i f at =
      left_at (introduced_globals m ++ introduced_funcs m) declarations (length (introduced_globals m) + i) (known f)
      (right_at (introduced_globals m) (introduced_funcs m) i ∙ slice_get-map known m.funcs i ∙ ap (option_map known) at)

  less : {i j : ℕ} → (i ≡ j → ⊥) → j ≤ i → j < i
  less apart le = omega (arith, apart, le)

  -- two functions of one name are one
  pub same_func : (i j : ℕ) (f g : Func) → slice_get m.funcs i ≡ Some f → slice_get m.funcs j ≡ Some g → f.name ≡ g.name → i ≡ j
  same_func i j f g at_i at_j same = by_case (cases_eq i j) (cases_lt i j)
    where
      n : ℕ
      n = length (introduced_globals m)

      by_case : (i ≡ j) ⊎ (i ≡ j → ⊥) → (i < j) ⊎ (j ≤ i) → i ≡ j
      by_case (inl e) order = e
      by_case (inr apart) (inl lt) = absurd (introduced_once m valid (known f) (known g) (n + i, n + j, omega (arith, lt), introduced_at i f at_i, introduced_at j g at_j) same)
      by_case (inr apart) (inr le) =
          let lt : j < i = less (λ (e : i ≡ j). apart e) le in
          absurd (introduced_once m valid (known g) (known f) (n + j, n + i, omega arith, introduced_at j g at_j, introduced_at i f at_i) (sym same))

  -- at the number of a name that a function has stands a function
  named_at : (s : SymId) (f : Func) → Has m.funcs f → f.name.0 ≡ s.0 → (g : Func) × (slice_get m.funcs (func_number m s) ≡ Some g)
  named_at s f h e =
      let within = place_within (λ (g : Func). g.name.0) m.funcs f h in
      element m.funcs (func_number m s) (subst (λ x. position_or_len (λ (g : Func). g.name.0 == x) m.funcs < length m.funcs) e within)

  -- a function stands at the number of its name
  func_at : (f : Func) → Contains m.funcs f → slice_get m.funcs (func_number m f.name) ≡ Some f
  func_at f h =
      let at = at_has m.funcs f (has_in m.funcs f h) in
      let g = named_at f.name f (has_in m.funcs f h) refl in
      let name : g.0.name ≡ f.name = same_symbol g.0.name f.name (place_has (λ (g : Func). g.name.0) m.funcs f.name.0 g.0 g.1) in
      ap (slice_get m.funcs) (same_func (func_number m f.name) at.0 g.0 f g.1 at.1 name) ∙ at.1

  -- the type of a function that the module defines
  pub callee_type : (s : SymId) (t : IrType) (ts : List IrType) → IsDefinedAs m s t ts → ((plain_funcs m (func_number m s)).params ≡ map scalar_of ts) × ((plain_funcs m (func_number m s)).result ≡ result_scalar t)
  callee_type s t ts d =
      let at : slice_get m.funcs (func_number m s) ≡ Some d.0 = subst (λ (x : SymId). slice_get m.funcs (func_number m x) ≡ Some d.0) d.2 (func_at d.0 d.1) in
      let of_it : plain_funcs m (func_number m s) ≡ func_type d.0 = type_at m (func_number m s) d.0 at in (
        ap (λ (t : FuncType). t.params) of_it ∙ sym (mapped_twice scalar_of (λ (q : Param). q.ty) d.0.params) ∙ ap (map scalar_of) d.4,
        ap (λ (t : FuncType). t.result) of_it ∙ ap result_scalar d.3,
      )

  -- ---- main

  main_there : NotFalse (HasMain m)
  main_there none = valid.main start (refl, none)

  first_main : HasMain m → (g : Func) × (slice_get m.funcs (main_number m) ≡ Some g) × (is_main m g ≡ true)
  first_main h = first_at (is_main m) m.funcs h.0 (has_in m.funcs h.0 h.1) ((bytes_eq-Decides (symbol_text m h.0.name) (codes "main")).1 h.2)

  pub has_main : NotFalse ((body : FlatBody) × ((plain_program m).body (plain_program m).main ≡ Some body))
  has_main = in_turn main_there (λ h. let g = first_main h in (plain_body m g.0, ap (option_map (plain_body m)) g.1))

  pub main_type : IsProper m → NotFalse (((plain_funcs m (plain_program m).main).params ≡ []) × ((plain_funcs m (plain_program m).main).result ≡ Some (scalar.Word W32)))
  main_type proper = in_turn main_there (λ h. of_it h)
    where
      of_it : HasMain m → ((plain_funcs m (main_number m)).params ≡ []) × ((plain_funcs m (main_number m)).result ≡ Some (scalar.Word W32))
      of_it h =
          let g = first_main h in
          let at = at_has m.funcs h.0 (has_in m.funcs h.0 h.1) in
          let named : symbol_text m g.0.name ≡ codes "main" = (bytes_eq-Decides (symbol_text m g.0.name) (codes "main")).0 g.2 in
          let number : g.0.name.0 ≡ h.0.name.0 = one_place m.symbols (codes "main") g.0.name.0 h.0.name.0 proper.symbols_once (main_at m g.0.name named) (main_at m h.0.name h.2) in
          let same : main_number m ≡ at.0 = same_func (main_number m) at.0 g.0 h.0 g.1 at.1 (same_symbol g.0.name h.0.name number) in
          let its_type : plain_funcs m (main_number m) ≡ func_type h.0 = type_at m (main_number m) h.0 (ap (slice_get m.funcs) same ∙ at.1) in (
            ap (λ (t : FuncType). t.params) its_type ∙ ap (map (λ (q : Param). scalar_of q.ty)) h.4,
            ap (λ (t : FuncType). t.result) its_type ∙ ap result_scalar h.5,
          )

  -- ---- calls

  -- a call's callee is a function of the module
  abbrev CallsOne : FlatInstr → Type 0
  CallsOne (flat.Call d g args) = (f : Func) × (slice_get m.funcs g.0 ≡ Some f)
  CallsOne _ = Unit {0}

  abbrev MayCall : Option FlatInstr → Type 0
  MayCall None = Unit {0}
  MayCall (Some i) = CallsOne i

  -- the call of a function of the module, and what stands for a call where the name is no function of the module
  abbrev inner : Option RegId → SymId → List FlatOp → FlatInstr
  inner d s args = flat.Call d (record { 0 = func_number m s }) args

  abbrev outer : Option RegId → SymId → List FlatOp → List ℕ → FlatInstr
  outer d s args text = external_call text d args (inner d s args)

  not_defined : (s : SymId) (t : IrType) (ts : List IrType) → is_defined m s ≡ false → IsDefinedAs m s t ts → ⊥
  not_defined s t ts e d =
      let both : false ≡ true = sym e ∙ named_any s m.funcs d.0 (has_in m.funcs d.0 d.1) d.2 in
      cc

  call_one : (d : Option RegId) (s : SymId) (args : List FlatOp) (t : IrType) (ts : List IrType) → IsDefinedAs m s t ts ⊎ IsDeclaredAs m s t ts → CallsOne (call m d s args)
  call_one d s args t ts well = by_defined (is_defined m s) refl
    where
      by_name : (text : List ℕ) → IsExternal text t ts → CallsOne (outer d s args text)
      by_name text (inl e) = subst (λ (x : List ℕ). CallsOne (outer d s args x)) (sym e.0) tt
      by_name text (inr (inl e)) = subst (λ (x : List ℕ). CallsOne (outer d s args x)) (sym e.0) tt
      by_name text (inr (inr e)) = subst (λ (x : List ℕ). CallsOne (outer d s args x)) (sym e.0) tt

      by_rule : is_defined m s ≡ false → IsDefinedAs m s t ts ⊎ IsDeclaredAs m s t ts → CallsOne (outer d s args (symbol_text m s))
      by_rule e (inl h) = absurd (not_defined s t ts e h)
      by_rule e (inr h) = by_name (symbol_text m s) h.3

      by_defined : (b : Bool) → is_defined m s ≡ b → CallsOne (if b then inner d s args else outer d s args (symbol_text m s))
      by_defined true e =
          let f = named_func s m.funcs e in
          named_at s f.0 f.1 (ap (λ (x : SymId). x.0) f.2)
      by_defined false e = by_rule e well

  row_calls : (r : Option LocalId) (op : Op) → CallsWell m op → MayCall (instruction m r op)
  row_calls (Some d) (ops.Bin op t a b) w = tt
  row_calls (Some d) (ops.Icmp c t a b) w = tt
  row_calls (Some d) (ops.Select c a b) w = tt
  row_calls (Some d) (ops.Cast c a t) w = tt
  row_calls (Some d) (ops.Alloca t count stated) w = tt
  row_calls (Some d) (ops.Load t a stated) w = tt
  row_calls (Some d) (ops.Gep t a is) w = tt
  row_calls (Some d) (ops.Store a p stated) w = tt
  row_calls (Some d) (ops.Call t s as') w = call_one (Some (register d)) s (map (typed m) as') t (types_of as') w
  row_calls (Some d) (ops.Phi t es) w = tt
  row_calls None (ops.Bin op t a b) w = tt
  row_calls None (ops.Icmp c t a b) w = tt
  row_calls None (ops.Select c a b) w = tt
  row_calls None (ops.Cast c a t) w = tt
  row_calls None (ops.Alloca t count stated) w = tt
  row_calls None (ops.Load t a stated) w = tt
  row_calls None (ops.Gep t a is) w = tt
  row_calls None (ops.Store a p stated) w = tt
  row_calls None (ops.Call t s as') w = call_one None s (map (typed m) as') t (types_of as') w
  row_calls None (ops.Phi t es) w = tt

  other_calls : (n : Numbers) (i : FlatInstr) → CallsOne i → CallsOne (other_instr n i)
  other_calls n (flat.Bin d op w a b) h = tt
  other_calls n (flat.Icmp d c s a b) h = tt
  other_calls n (flat.Select d c a b) h = tt
  other_calls n (flat.Cast d c from to a) h = tt
  other_calls n (flat.Copy d a) h = tt
  other_calls n (flat.Alloca d size align) h = tt
  other_calls n (flat.Load d s align a) h = tt
  other_calls n (flat.Store s align v a) h = tt
  other_calls n (flat.Gep d a k ts) h = tt
  other_calls n (flat.Call d f args) h = h
  other_calls n (flat.Put d a) h = tt
  other_calls n (flat.Get d) h = tt
  other_calls n (flat.Exit a) h = tt

  -- what a plain body calls is there
  pub called : (f b n : ℕ) (body : FlatBody) (k : FlatBlock) (d : Option RegId) (g : FuncId) (args : List FlatOp) → (plain_program m).body f ≡ Some body → IsBlock body b k → slice_get k.code n ≡ Some (flat.Call d g args)
      → NotFalse ((callee : FlatBody) × ((plain_program m).body g.0 ≡ Some callee))
  called f b n body k d g args at_f at_b at_n = in_turn rule (λ w. callee w)
    where
      func : (h : Func) × (slice_get m.funcs f ≡ Some h) × (plain_body m h ≡ body)
      func = mapped (plain_body m) (slice_get m.funcs f) body at_f

      block : IsFrom m func.0 b k
      block = block_of m func.0 b k (ap (λ (z : FlatBody). slice_get z.blocks b) func.2 ∙ at_b)

      row : (j : Instr) × (i : FlatInstr) × Has block.0.code j × (instr_row m j ≡ Some i)
          × (other_instr (numbers func.0) i ≡ flat.Call d g args)
      row =
          code_source m func.0 block.0 (flat.Call d g args)
          (subst (λ (l : FlatBlock). Has l.code (flat.Call d g args)) (sym block.2) (has_at k.code n (flat.Call d g args) at_n))

      rule : NotFalse (CallsWell m row.0.op)
      rule none =
          let stands : Contains (instrs func.0) row.0 = is_instr func.0 block.0 (has_at func.0.blocks b block.0 block.1) row.0 row.2 in
          (all_at (IsValidFunc m) m.funcs f func.0 valid.each_func func.1).calls row.0.place (row.0, stands, refl, none)

      callee : CallsWell m row.0.op → (callee : FlatBody) × ((plain_program m).body g.0 ≡ Some callee)
      callee w =
          let its : CallsOne row.1 = subst MayCall row.3 (row_calls row.0.result row.0.op w) in
          let there : CallsOne (flat.Call d g args) = subst CallsOne row.4 (other_calls (numbers func.0) row.1 its) in
          (plain_body m there.0, ap (option_map (plain_body m)) there.1)
