-- In each state that a formed program's run comes to, the operands of what comes next have values.
use Rattle.std.proofs.Common.{◌≡◌, inl, inr, ⊎_elim, ℕ, ◌<◌, ◌≤◌, List, length, Option, Some, None, slice_get, All, refl, sym, ap, ◌∙◌, subst, arith}
use Rattle.std.specs.List.{AllByRecursion as Each}
use Rattle.std.proofs.lemmas.Option.{slice_get_cases}
use Rattle.std.proofs.lemmas.List.Elements.{All-contains}
use Rattle.oi_base.specs.Follows.{Going}
use Rattle.ir_core.specs.declared.flat.Scalar.{Scalar}
use Rattle.ir_core.specs.declared.flat.FlatOp.{FlatOp}
use Rattle.ir_core.specs.declared.flat.FlatOp.TheVariants.{Reg, Word, Null, Address, Poison}
use Rattle.ir_core.specs.declared.flat.FlatInstr.{FlatInstr}
use Rattle.ir_core.specs.declared.flat.FlatBlock.{FlatBlock}
use Rattle.ir_core.specs.Memory.{Value}
use Rattle.ir_core.specs.Flat.{Program, Run, Regs, value_of, block_of}
use Rattle.ir_core.specs.Formed.{FuncType, IsWritten, ComesFirst, IsFormed, used_by, used_at_end}
use Rattle.ir_core.proofs.Lists.{Has, contains, each_from}
use Rattle.ir_safety.proofs.Safe.{NotFalse}
use Rattle.ir_safety.proofs.Standing.{Runs}
use Rattle.ir_safety.proofs.FormedSafe.{formed_safe}
use Rattle.ir_safety.proofs.NeverStuck.{runs_on}
use Rattle.ir_simulation.proofs.Reached.{Reached}

-- the operand has a value
abbrev pub IsThere : Regs → FlatOp → Type 0
IsThere regs o = (v : Value) × (value_of regs o ≡ Some v)

-- it is enough that it isn't missing
found : (regs : Regs) (o : FlatOp) → (value_of regs o ≡ None → ⊥) → IsThere regs o
found regs o h = by_value (value_of regs o) refl
  where
    by_value : (u : Option Value) → value_of regs o ≡ u → (v : Value) × (value_of regs o ≡ Some v)
    by_value None e = absurd (h e)
    by_value (Some v) e = (v, e)

module _ (p : Program) (types : ℕ → ℕ → Scalar) (funcs : ℕ → FuncType) (formed : IsFormed p types funcs) (input : List ℕ) (small : All (λ b. b < 256) input) where
  abbrev At_run : Run → Type 0
  At_run r = Runs p types funcs r

  stands : (r : Run) → Reached p input r → r.status ≡ Going → NotFalse (At_run r)
  stands r h going = subst (λ (x : Run). NotFalse (Runs p types funcs x)) (sym h.1) (runs_on p types funcs (formed_safe p types funcs formed) input small h.0 (ap (λ (x : Run). x.status) (sym h.1) ∙ going))

  one_block : {o : Option FlatBlock} {k l : FlatBlock} → o ≡ Some k → o ≡ Some l → k ≡ l
  one_block e f = let both : Some _ ≡ Some _ = sym e ∙ f in cc

  -- what comes first has a value
  comes : (r : Run) (runs : At_run r) (n : ℕ) → n ≡ r.top.place → (o : FlatOp) → ComesFirst runs.top.body runs.top.older runs.top.block n o → value_of r.top.regs o ≡ None → ⊥
  comes r runs n same (Reg q) first none = ⊎_elim (λ w. absurd w) (λ has. let both : None ≡ Some has.0 = sym none ∙ has.1 in cc)
      (runs.top.values q.0 (subst (λ m. ComesFirst runs.top.body runs.top.older runs.top.block m (Reg q)) same first))
  comes r runs n same (Word a) first none = cc
  comes r runs n same Null first none = cc
  comes r runs n same (Address g k) first none = cc
  comes r runs n same Poison first none = cc

  found_block : (r : Run) (runs : At_run r) (k : FlatBlock) → block_of (p.body r.top.func) r.top.block ≡ Some k → runs.top.block ≡ k
  found_block r runs k e = one_block runs.top.is_block (sym (ap (λ o. block_of o r.top.block) runs.top.is_body) ∙ e)

  pub code_there : (r : Run) → Reached p input r → r.status ≡ Going → (k : FlatBlock) (i : FlatInstr) → block_of (p.body r.top.func) r.top.block ≡ Some k → slice_get k.code r.top.place ≡ Some i → Each (IsThere r.top.regs) (used_by i)
  code_there r h going k i found_k here = each_from (IsThere r.top.regs) (used_by i) (λ o has. found r.top.regs o (λ none. stands r h going (λ runs.
      let same = found_block r runs k found_k in
      let here' : slice_get runs.top.block.code r.top.place ≡ Some i = ap (λ (l : FlatBlock). slice_get l.code r.top.place) same ∙ here in
      let first = (formed.bodies r.top.func runs.top.body runs.top.is_body).defined_first.by_code r.top.block runs.top.older runs.top.block r.top.place i runs.top.path runs.top.is_block here' in
      comes r runs r.top.place refl o (All-contains (ComesFirst runs.top.body runs.top.older runs.top.block r.top.place) (used_by i) o first (contains (used_by i) o has)) none)))

  past_end : (k : FlatBlock) (n : ℕ) → slice_get k.code n ≡ None → length k.code ≤ n
  past_end k n e = ⊎_elim (λ x. absurd (let both : Some x.0 ≡ None = sym x.2 ∙ e in cc)) (λ x. x.0) (slice_get_cases k.code n).1

  -- what comes first at the end of the block has a value
  comes_at_end : (r : Run) (runs : At_run r) → length runs.top.block.code ≤ r.top.place → (o : FlatOp) → ComesFirst runs.top.body runs.top.older runs.top.block (length runs.top.block.code) o → value_of r.top.regs o ≡ None → ⊥
  comes_at_end r runs past (Reg q) first none = ⊎_elim (λ w. absurd w) (λ has. let both : None ≡ Some has.0 = sym none ∙ has.1 in cc)
      (runs.top.values q.0 (⊎_elim (λ w. inl (before w)) (λ c. inr c) first))
    where
      before : IsWritten runs.top.block (length runs.top.block.code) q.0 → IsWritten runs.top.block r.top.place q.0
      before (inl phi) = inl phi
      before (inr h) = let lt = h.2 in inr (h.0, h.1, omega (arith, lt, past), h.3, h.4)
  comes_at_end r runs past (Word a) first none = cc
  comes_at_end r runs past Null first none = cc
  comes_at_end r runs past (Address g k) first none = cc
  comes_at_end r runs past Poison first none = cc

  pub end_there : (r : Run) → Reached p input r → r.status ≡ Going → (k : FlatBlock) → block_of (p.body r.top.func) r.top.block ≡ Some k → slice_get k.code r.top.place ≡ None → Each (IsThere r.top.regs) (used_at_end k.end)
  end_there r h going k found_k past = each_from (IsThere r.top.regs) (used_at_end k.end) (λ o has. found r.top.regs o (λ none. stands r h going (λ runs.
      let same = found_block r runs k found_k in
      let first = (formed.bodies r.top.func runs.top.body runs.top.is_body).defined_first.by_end r.top.block runs.top.older runs.top.block runs.top.path runs.top.is_block in
      let in_it = contains (used_at_end runs.top.block.end) o (subst (λ (l : FlatBlock). Has (used_at_end l.end) o) (sym same) has) in
      let long : length runs.top.block.code ≤ r.top.place = subst (λ (l : FlatBlock). length l.code ≤ r.top.place) (sym same) (past_end k r.top.place past) in
      comes_at_end r runs long o (All-contains (ComesFirst runs.top.body runs.top.older runs.top.block (length runs.top.block.code)) (used_at_end runs.top.block.end) o first in_it) none)))
