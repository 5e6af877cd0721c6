-- Where a run of a formed program stands: each activation is on a path from its body's entry, and each register that is written
-- before has a value of its type. What an instruction may do keeps that.
use Rattle.std.proofs.Common.{◌≡◌, ◌≢◌, ◌⊎◌, inl, inr, ⊎_elim, ℕ, zero, suc, ◌+◌, ◌<◌, ◌≤◌, Bool, true, false, nat_eq, if◌then◌else◌, List, [], ◌∷◌, map, length, take, Option, Some, None, slice_get, All, refl, sym, ap, ◌∙◌, subst, arith}
use Rattle.std.proofs.lemmas.Bool.{cases_lt}
use Rattle.std.proofs.lemmas.Bool.Decides.{nat_tests}
use Rattle.std.proofs.lemmas.List.Elements.{All-head, All-tail}
use Rattle.oi_base.specs.declared.words.Width.TheVariants.{W32}
use Rattle.oi_base.specs.declared.ids.RegId.{RegId}
use Rattle.oi_base.specs.Follows.{Going, Stuck}
use Rattle.ir_core.specs.declared.flat.Scalar.{Scalar}
use Rattle.ir_core.specs.declared.flat.Scalar.TheVariants.{Word}
use Rattle.ir_core.specs.declared.flat.Entry.{Entry}
use Rattle.ir_core.specs.declared.flat.Phi.{Phi}
use Rattle.ir_core.specs.declared.flat.FlatInstr.{FlatInstr}
use Rattle.ir_core.specs.declared.flat.FlatBlock.{FlatBlock}
use Rattle.ir_core.specs.declared.flat.FlatBody.{FlatBody}
use Rattle.ir_core.specs.Memory.{Value, Bits}
use Rattle.ir_core.specs.Flat.{Program, Activation, Run, Regs, with_reg, with_result, entry_for, entry_value, with_phi, after_phis}
use Rattle.ir_core.specs.Formed.{FuncType, Receives, IsBlock, IsPath, IsWritten, ComesIn, of_result, written_by}
use Rattle.ir_core.proofs.Lists.{Has}
use Rattle.ir_safety.proofs.Typed.{IsOf, tested}
use Rattle.ir_safety.proofs.Effects.{AreOf}
use Rattle.ir_safety.proofs.Elements.{none_is_none, same_some, one_at}

-- the register has a value of its type
abbrev pub HasReg : (ℕ → Scalar) → Regs → ℕ → Type 0
HasReg types regs r = (v : Value) × (regs r ≡ Some v) × IsOf (types r) v

-- the register is written when a call returns
abbrev pub IsAwaited : Option RegId → ℕ → Type 0
IsAwaited None r = ⊥
IsAwaited (Some d) r = r ≡ d.0

-- ---- registers

pub set_has : (types : ℕ → Scalar) (regs : Regs) (d : ℕ) (v : Value) → IsOf (types d) v → (q : ℕ) → (q ≡ d) ⊎ HasReg types regs q → HasReg types (with_reg regs d v) q
set_has types regs d v h q before = at (nat_eq q d) refl before
  where
    at : (t : Bool) → nat_eq q d ≡ t → (q ≡ d) ⊎ HasReg types regs q → (w : Value) × ((if t then Some v else regs q) ≡ Some w) × IsOf (types q) w
    at true e b = let same : q ≡ d = grind (arith, nat_tests) in (v, refl, subst (λ (r : ℕ). IsOf (types r) v) (sym same) h)
    at false e (inl same) = absurd (grind (arith, nat_tests))
    at false e (inr k) = k

-- ---- phis

-- each phi's operand for a block has its value, so the registers are there after it, with those of the phis
module _ (types : ℕ → Scalar) (old : Regs) (from : ℕ) where
  abbrev pub TakesValue : Phi → Type 0
  TakesValue f = (v : Value) × (entry_value old (entry_for from f.entries) ≡ Some v) × IsOf (types f.reg.0) v

  abbrev AfterPhis : List Phi → Type 0
  AfterPhis fs = (regs : Regs) × (after_phis old from fs ≡ Some regs) × ((q : ℕ) → Has (map (λ (f : Phi). f.reg.0) fs) q ⊎ HasReg types old q → HasReg types regs q)

  pub phis_taken : (fs : List Phi) → All TakesValue fs → AfterPhis fs
  phis_taken [] h = (old, refl, λ q has. ⊎_elim (λ none. absurd none) (λ k. k) has)
  phis_taken (f ∷ fs) h =
      let v = All-head TakesValue f fs h in
      let rest = phis_taken fs (All-tail TakesValue f fs h) in (
        with_reg rest.0 f.reg.0 v.0,
        ap (λ (o : Option Value). with_phi f.reg.0 o (after_phis old from fs)) v.1 ∙ ap (with_phi f.reg.0 (Some v.0)) rest.1,
        λ q has. set_has types rest.0 f.reg.0 v.0 v.2 q (by_phi rest.0 rest.2 q has),
      )
    where
      by_phi : (regs : Regs) → ((q : ℕ) → Has (map (λ (g : Phi). g.reg.0) fs) q ⊎ HasReg types old q → HasReg types regs q) → (q : ℕ) → Has (map (λ (g : Phi). g.reg.0) (f ∷ fs)) q ⊎ HasReg types old q → (q ≡ f.reg.0) ⊎ HasReg types regs q
      by_phi regs k q (inl (inl e)) = inl (sym e)
      by_phi regs k q (inl (inr has)) = inr (k q (inl has))
      by_phi regs k q (inr has) = inr (k q (inr has))

-- an entry for a block is the first of its entries
pub entry_first : (b : ℕ) (es : List Entry) (e : Entry) → Has es e → e.from.0 ≡ b → (g : Entry) × Has es g × (g.from.0 ≡ b) × (entry_for b es ≡ Some g.value)
entry_first b [] e h same = absurd h
entry_first b (g ∷ es) e h same = at (nat_eq g.from.0 b) refl (λ has. entry_first b es e has same) h
  where
    at : (t : Bool) → nat_eq g.from.0 b ≡ t → (Has es e → (k : Entry) × Has es k × (k.from.0 ≡ b) × (entry_for b es ≡ Some k.value)) → Has (g ∷ es) e →
        (k : Entry) × Has (g ∷ es) k × (k.from.0 ≡ b) × ((if t then Some g.value else entry_for b es) ≡ Some k.value)
    at true f on has = (g, inl refl, grind (arith, nat_tests), refl)
    at false f on (inl is) = let this : g.from.0 ≡ b = ap (λ (k : Entry). k.from.0) is ∙ same in absurd (grind (arith, nat_tests))
    at false f on (inr has) = let k = on has in (k.0, inr k.1, k.2, k.3)

-- ---- arguments

pub argument_at : (args : List (Option Value)) (ss : List Scalar) (r : ℕ) → AreOf args ss → r < length ss → (v : Value) × (s : Scalar) × (slice_get args r ≡ Some (Some v)) × (slice_get ss r ≡ Some s) × IsOf s v
argument_at [] [] r h lt = absurd (omega arith)
argument_at [] (s ∷ ss) r h lt = absurd h
argument_at (None ∷ vs) [] r h lt = absurd h
argument_at (Some v ∷ vs) [] r h lt = absurd h
argument_at (None ∷ vs) (s ∷ ss) r h lt = absurd h
argument_at (Some v ∷ vs) (s ∷ ss) zero h lt = (v, s, refl, refl, h.0)
argument_at (Some v ∷ vs) (s ∷ ss) (suc r) h lt = argument_at vs ss r h.1 (omega arith)

pub taken_at : {A : Type 0} (n : ℕ) (xs : List A) (r : ℕ) → r < n → slice_get (take n xs) r ≡ slice_get xs r
taken_at zero xs r lt = absurd (omega arith)
taken_at (suc n) [] r lt = refl
taken_at (suc n) (x ∷ xs) zero lt = refl
taken_at (suc n) (x ∷ xs) (suc r) lt = taken_at n xs r (omega arith)

-- ---- where a run stands

module _ (p : Program) (types : ℕ → ℕ → Scalar) (funcs : ℕ → FuncType) where
  -- function f stands in block b before its instruction n
  pub record Stands (awaited : Option RegId) (f b n : ℕ) (regs : Regs) : Type 0 where
    pub body : FlatBody
    pub is_body : p.body f ≡ Some body
    pub block : FlatBlock
    pub is_block : IsBlock body b block
    pub older : List ℕ
    pub path : IsPath body (b ∷ older)
    pub values : (r : ℕ) → IsWritten block n r ⊎ ComesIn body older r → IsAwaited awaited r ⊎ HasReg (types f) regs r

  abbrev pub StandsWell : Option RegId → Activation → Type 0
  StandsWell awaited a = Stands awaited a.func a.block a.place a.regs

  -- the activations below wait for results of their types, and the last one gives the program's word
  abbrev pub AreWaiting : ℕ → Option RegId → List Activation → Type 0
  AreWaiting f waiting [] = (funcs f).result ≡ Some (Word W32)
  AreWaiting f waiting (a ∷ as') = Receives (types a.func) waiting (funcs f).result × StandsWell waiting a × AreWaiting a.func a.waiting as'

  pub record Runs (r : Run) : Type 0 where
    pub top : StandsWell None r.top
    pub below : AreWaiting r.top.func r.top.waiting r.below
    pub input : All (λ b. b < 256) r.input

  abbrev pub IsFine : Run → Type 0
  IsFine r = (r.status ≢ Stuck) × (r.status ≡ Going → Runs r)

  pub goes_on : (r : Run) → r.status ≡ Going → Runs r → IsFine r
  goes_on r going runs = (λ stuck. absurd (not_stuck (sym going ∙ stuck)), λ e. runs)
    where
      not_stuck : Going ≡ Stuck → ⊥
      not_stuck e = cc

  pub is_over : (r : Run) → r.status ≢ Stuck → r.status ≢ Going → IsFine r
  is_over r unstuck over = (unstuck, λ e. absurd (over e))

  -- ---- the next instruction

  -- after an instruction, where the register that it writes is there or awaited
  next_stands : {f b n : ℕ} {regs : Regs} (s : Stands None f b n regs) (i : FlatInstr) → slice_get s.block.code n ≡ Some i → (awaited : Option RegId) (new : Regs) →
      ((r : ℕ) → written_by i ≡ Some r ⊎ HasReg (types f) regs r → IsAwaited awaited r ⊎ HasReg (types f) new r) → Stands awaited f b (n + 1) new
  next_stands {f} {b} {n} {regs} s i at awaited new there = record {
    body = s.body;
    is_body = s.is_body;
    block = s.block;
    is_block = s.is_block;
    older = s.older;
    path = s.path;
    values = by_place;
  }
    where
      old : (r : ℕ) → IsWritten s.block n r ⊎ ComesIn s.body s.older r → IsAwaited awaited r ⊎ HasReg (types f) new r
      old r w = ⊎_elim (λ none. absurd none) (λ h. there r (inr h)) (s.values r w)

      by_code : (r j : ℕ) (k : FlatInstr) → j < n + 1 → slice_get s.block.code j ≡ Some k → written_by k ≡ Some r → (j < n) ⊎ (n ≤ j) → IsAwaited awaited r ⊎ HasReg (types f) new r
      by_code r j k lt e w (inl before) = old r (inl (inr (j, k, before, e, w)))
      by_code r j k lt e w (inr after) =
          let here : j ≡ n = omega arith in
          let same : k ≡ i = one_at (slice_get s.block.code n) k i (sym (ap (slice_get s.block.code) here) ∙ e) at in
          there r (inl (ap written_by (sym same) ∙ w))

      by_place : (r : ℕ) → IsWritten s.block (n + 1) r ⊎ ComesIn s.body s.older r → IsAwaited awaited r ⊎ HasReg (types f) new r
      by_place r (inl (inl phi)) = old r (inl (inl phi))
      by_place r (inl (inr h)) = let lt = h.2 in by_code r h.0 h.1 lt h.3 h.4 (cases_lt h.0 n)
      by_place r (inr c) = old r (inr c)

  -- with a register set, or with none
  pub set_stands : {f b n : ℕ} {regs : Regs} (s : Stands None f b n regs) (i : FlatInstr) → slice_get s.block.code n ≡ Some i → (d : RegId) (v : Value) → written_by i ≡ Some d.0 → IsOf (types f d.0) v → Stands None f b (n + 1) (with_reg regs d.0 v)
  set_stands {f} {regs = regs} s i at d v w h = next_stands s i at None (with_reg regs d.0 v) (λ r there. inr (set_has (types f) regs d.0 v h r (⊎_elim (λ e. inl (same_some r d.0 (sym e ∙ w))) (λ k. inr k) there)))

  pub none_stands : {f b n : ℕ} {regs : Regs} (s : Stands None f b n regs) (i : FlatInstr) → slice_get s.block.code n ≡ Some i → written_by i ≡ None → Stands None f b (n + 1) regs
  none_stands {f} {regs = regs} s i at w = next_stands s i at None regs (λ r there. inr (⊎_elim (λ e. absurd (none_is_none r (sym w ∙ e))) (λ k. k) there))

  -- a call's result, where it has one, is awaited
  pub call_stands : {f b n : ℕ} {regs : Regs} (s : Stands None f b n regs) (i : FlatInstr) → slice_get s.block.code n ≡ Some i → (d : Option RegId) → written_by i ≡ of_result d → Stands d f b (n + 1) regs
  call_stands s i at None w = none_stands s i at w
  call_stands {f} {regs = regs} s i at (Some d) w = next_stands s i at (Some d) regs (λ r there. ⊎_elim (λ e. inl (same_some r d.0 (sym e ∙ w))) (λ k. inr k) there)

  -- ---- a word that is put or taken

  received : (t : ℕ → Scalar) (d : RegId) (s : Scalar) → Receives t (Some d) (Some s) → t d.0 ≡ s
  received t d s e = cc

  pub result_fine : (q : Run) (s : StandsWell None q.top) (i : FlatInstr) → slice_get s.block.code q.top.place ≡ Some i → (d : Option RegId) (a : ℕ) → written_by i ≡ of_result d → Receives (types q.top.func) d (Some (Word W32)) → a < 4294967296 →
      q.status ≡ Going → AreWaiting q.top.func q.top.waiting q.below → All (λ b. b < 256) q.input → IsFine (with_result q d (Bits a))
  result_fine q s i at None a w t small going below input = goes_on _ going (record { top = none_stands s i at w; below = below; input = input })
  result_fine q s i at (Some d) a w t small going below input = goes_on _ going (record {
    top = set_stands s i at d (Bits a) w (subst (λ (k : Scalar). IsOf k (Bits a)) (sym (received (types q.top.func) d (Word W32) t)) (tested a 4294967296 small));
    below = below;
    input = input;
  })
