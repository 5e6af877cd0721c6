-- The rows of sums and differences at the turn of a run.
use Rattle.std.proofs.Common.{◌≡◌, ℕ, ◌+◌, ◌%◌, ◌<◌, refl, sym, ap, ◌∙◌, subst, false, List, [], ◌∷◌, ◌++◌, Option, Some, None, slice_get}
use Rattle.oi_base.specs.declared.words.Width.{Width}
use Rattle.oi_base.specs.declared.ids.RegId.{RegId}
use Rattle.oi_base.specs.Follows.{Going, Undefined, Stuck}
use Rattle.oi_base.specs.Words.{modulus}
use Rattle.ir_core.specs.declared.flat.BinOp.{BinOp}
use Rattle.ir_core.specs.declared.flat.BinOp.TheVariants as op
use Rattle.ir_core.specs.declared.flat.FlatOp.{FlatOp}
use Rattle.ir_core.specs.declared.flat.FlatInstr.{FlatInstr}
use Rattle.ir_core.specs.declared.flat.FlatInstr.TheVariants.{Bin}
use Rattle.ir_core.specs.declared.flat.FlatBlock.{FlatBlock}
use Rattle.ir_core.specs.declared.flat.FlatBody.{FlatBody}
use Rattle.ir_core.specs.Words.{Known, word_op, divides}
use Rattle.ir_core.specs.Memory.{Value, Poisoned}
use Rattle.ir_core.specs.Rows.{Answer, Gives, NoGood, Mistyped, of_unknown, bin}
use Rattle.ir_core.specs.Formed.{IsBlock}
use Rattle.ir_core.specs.Flat.{Program, Run, with_value, value_of, block_of, flat_step, turn_of, in_block, applied, what_stands, effect, end_effect, answered, using, operand, ends}
use Rattle.rv_isa.specs.Arithmetic.{wrapping_add, wrapping_sub}
use Rattle.rv_isa.specs.declared.rv.Rv.{Rv}
use Rattle.rv_isa.specs.declared.rv.Rv.TheVariants as rv
use Rattle.rv_isa.specs.Isa.{Machine, executed, sets}
use Rattle.rv_select.specs.Parts.{signs, machine_op, cuts, zero_extend, store_slot}
use Rattle.rv_select.specs.Stands.{Object, body_in, goes_on, StandsFor, IsLaid}
use Rattle.rv_select.specs.Sums.{IsPlain, HasSlot}
use Rattle.rv_select.proofs.BinRow.{bin_code, bin_words, nested, cut_row, Row}
use Rattle.rv_select.proofs.Operands.{plain_code, formed}
use Rattle.rv_select.proofs.Placing.{IsAt, instr_stands}
use Rattle.rv_select.proofs.Results.{add_low, sub_low, result_is, result_made}

module _ (p : Program) (r : Run) (going : r.status ≡ Going) (block : FlatBlock) (here : block_of (p.body r.top.func) r.top.block ≡ Some block) where
  -- the turn at an instruction, and at the end of a block
  pub turn_is : (i : FlatInstr) → slice_get block.code r.top.place ≡ Some i → flat_step p r ≡ applied p r (effect r.top.regs r.memory i)
  unfolding flat_step
  turn_is i e = ap (turn_of p r) going ∙ ap (in_block p r) here ∙ ap (λ y. applied p r (what_stands r block y)) e

  pub end_is : slice_get block.code r.top.place ≡ None → flat_step p r ≡ applied p r (end_effect r.top.regs block.end)
  unfolding flat_step
  end_is e = ap (turn_of p r) going ∙ ap (in_block p r) here ∙ ap (λ y. applied p r (what_stands r block y)) e

  pub bin_effect : (d : RegId) (o : BinOp) (w : Width) (a b : FlatOp) (x y : Value) (g : Answer) → value_of r.top.regs a ≡ Some x → value_of r.top.regs b ≡ Some y → bin o w x y ≡ g → effect r.top.regs r.memory (Bin d o w a b) ≡ answered d g
  bin_effect d o w a b x y g ea eb h =
      ap (λ v. using v (λ x. operand r.top.regs b (λ y. answered d (bin o w x y)))) ea
      ∙ ap (λ v. using v (λ y. answered d (bin o w x y))) eb
      ∙ ap (answered d) h

  pub bin_turn : (d : RegId) (o : BinOp) (w : Width) (a b : FlatOp) (x y u : Value) → slice_get block.code r.top.place ≡ Some (Bin d o w a b) → value_of r.top.regs a ≡ Some x → value_of r.top.regs b ≡ Some y → bin o w x y ≡ Gives u → flat_step p r ≡ with_value r d u
  bin_turn d o w a b x y u e ea eb g = turn_is (Bin d o w a b) e ∙ ap (applied p r) (bin_effect d o w a b x y (Gives u) ea eb g)

-- what the turn at an operation comes to
pub data BinTurn (p : Program) (r : Run) (d : RegId) (o : BinOp) (w : Width) (a b : FlatOp) : Type 0 where
  is_stuck : flat_step p r ≡ ends r Stuck → BinTurn p r d o w a b
  is_undefined : flat_step p r ≡ ends r Undefined → BinTurn p r d o w a b
  has_value : (x y u : Value) → value_of r.top.regs a ≡ Some x → value_of r.top.regs b ≡ Some y → bin o w x y ≡ Gives u → flat_step p r ≡ with_value r d u → BinTurn p r d o w a b

module _ (p : Program) (r : Run) (going : r.status ≡ Going) (block : FlatBlock) (here : block_of (p.body r.top.func) r.top.block ≡ Some block) (d : RegId) (o : BinOp) (w : Width) (a b : FlatOp) (e : slice_get block.code r.top.place ≡ Some (Bin d o w a b)) where
  turn_at : flat_step p r ≡ applied p r (effect r.top.regs r.memory (Bin d o w a b))
  turn_at = turn_is p r going block here (Bin d o w a b) e

  pub bin_turns : BinTurn p r d o w a b
  bin_turns = by_operands (value_of r.top.regs a) (value_of r.top.regs b) refl refl
    where
      by_answer : (x y : Value) → value_of r.top.regs a ≡ Some x → value_of r.top.regs b ≡ Some y → (g : Answer) → bin o w x y ≡ g → BinTurn p r d o w a b
      by_answer x y ea eb g h = of g h (turn_at ∙ ap (applied p r) (bin_effect p r going block here d o w a b x y g ea eb h))
        where
          of : (g : Answer) → bin o w x y ≡ g → flat_step p r ≡ applied p r (answered d g) → BinTurn p r d o w a b
          of (Gives u) h t = has_value x y u ea eb h t
          of NoGood h t = is_undefined t
          of Mistyped h t = is_stuck t

      by_operands : (va vb : Option Value) → value_of r.top.regs a ≡ va → value_of r.top.regs b ≡ vb → BinTurn p r d o w a b
      by_operands None vb ea eb = is_stuck (turn_at ∙ ap (λ v. applied p r (using v (λ x. operand r.top.regs b (λ y. answered d (bin o w x y))))) ea)
      by_operands (Some x) None ea eb = is_stuck (turn_at ∙ ap (λ v. applied p r (using v (λ x. operand r.top.regs b (λ y. answered d (bin o w x y))))) ea ∙ ap (λ v. applied p r (using v (λ y. answered d (bin o w x y)))) eb)
      by_operands (Some x) (Some y) ea eb = by_answer x y ea eb (bin o w x y) refl

-- an operation whose code is one instruction on t0 and t1 and the extension by zeros
record IsCutOp (op' : BinOp) (g : ℕ → ℕ → ℕ) (i : Rv) : Type 0 where
  total : divides op' ≡ false
  unknown : (w : Width) (k : ℕ) → of_unknown op' w k ≡ Gives Poisoned
  gives : (w : Width) (n k : ℕ) → n < modulus w → k < modulus w → word_op op' w n k ≡ Known (g n k % modulus w)
  machine : machine_op op' ≡ i
  no_signs : (w : Width) → signs op' w ≡ []
  is_cut : (w : Width) → cuts op' w ≡ zero_extend w 5

adds : IsCutOp op.Add wrapping_add (rv.Add 5 5 6)
adds = record { total = refl; unknown = λ w k. refl; gives = λ w n k ln lk. ap Known (sym (add_low w n k)); machine = refl; no_signs = λ w. refl; is_cut = λ w. refl }

subtracts : IsCutOp op.Sub wrapping_sub (rv.Sub 5 5 6)
subtracts = record { total = refl; unknown = λ w k. refl; gives = λ w n k ln lk. ap Known (sym (sub_low w n k ln lk)); machine = refl; no_signs = λ w. refl; is_cut = λ w. refl }

module _ (o : Object) (p : Program) (laid : IsLaid o p) (at : ℕ → ℕ) (r : Run) (m : Machine) (st : StandsFor o p at r m) (block : FlatBlock) (in_body : IsBlock (body_in p r.top.func) r.top.block block) where
  abbrev here : FlatBody
  here = body_in p r.top.func

  pub in_run : block_of (p.body r.top.func) r.top.block ≡ Some block
  in_run = ap (λ b. block_of b r.top.block) st.frames.0.body ∙ in_body

  cut_op_row : (op' : BinOp) (g : ℕ → ℕ → ℕ) (i : Rv) → IsCutOp op' g i → ((z : Machine) → executed o.segments z i ≡ sets z 5 (g (z.registers 5) (z.registers 6)))
      → (d : RegId) (w : Width) (a b : FlatOp) (x y u : Value) → slice_get block.code r.top.place ≡ Some (Bin d op' w a b) → IsPlain here a → IsPlain here b → HasSlot here d.0 → value_of r.top.regs a ≡ Some x → value_of r.top.regs b ≡ Some y → bin op' w x y ≡ Gives u → Row o p laid at r m st (flat_step p r)
  cut_op_row op' g i is does d w a b x y u e pa pb sd ea eb gu =
      let la = plain_code here a pa 5 in
      let lb = plain_code here b pb 6 in
      let sc = store_slot 5 sd.0 in
      let code = bin_code here a b pa pb op' w sd.0 in
      let next = goes_on o p (record r.top { place = r.top.place + 1 }) in
      let stands = instr_stands o p laid r.top st.frames.0.body block in_body (Bin d op' w a b) code e (bin_words here (formed o p laid at r m st) d op' w a b pa pb sd) in
      let order : code ≡ la ++ (lb ++ (i ∷ (zero_extend w 5 ++ sc))) =
      ap (λ (z : List Rv). la ++ lb ++ z ++ machine_op op' ∷ [] ++ cuts op' w ++ sc) (is.no_signs w)
      ∙ ap (λ (z : Rv). la ++ lb ++ [] ++ z ∷ [] ++ cuts op' w ++ sc) is.machine
      ∙ ap (λ (z : List Rv). la ++ lb ++ [] ++ i ∷ [] ++ z ++ sc) (is.is_cut w)
      ∙ nested la lb i (zero_extend w 5) sc in
      let has = subst (IsAt o.segments m.pc next) order (subst (λ n. IsAt o.segments n next code) (sym st.pc) stands) in
      let k = cut_row o p laid at r m st w g i d a b x y u pa pb sd ea eb does (λ j l hj hl. (result_is r.memory at op' w g is.total (is.unknown w) (is.gives w) x y u j l hj hl gu).is) (result_made r.memory at op' w g is.total (is.unknown w) (is.gives w) x y u gu _) has in
      (k.0, k.1, subst (λ z. StandsFor o p at z k.0) (sym (bin_turn p r st.going block in_run d op' w a b x y u e ea eb gu)) k.2)

  pub add_row : (d : RegId) (w : Width) (a b : FlatOp) (x y u : Value) → slice_get block.code r.top.place ≡ Some (Bin d op.Add w a b) → IsPlain here a → IsPlain here b → HasSlot here d.0 → value_of r.top.regs a ≡ Some x → value_of r.top.regs b ≡ Some y → bin op.Add w x y ≡ Gives u → Row o p laid at r m st (flat_step p r)
  add_row = cut_op_row op.Add wrapping_add (rv.Add 5 5 6) adds (λ z. refl)

  pub sub_row : (d : RegId) (w : Width) (a b : FlatOp) (x y u : Value) → slice_get block.code r.top.place ≡ Some (Bin d op.Sub w a b) → IsPlain here a → IsPlain here b → HasSlot here d.0 → value_of r.top.regs a ≡ Some x → value_of r.top.regs b ≡ Some y → bin op.Sub w x y ≡ Gives u → Row o p laid at r m st (flat_step p r)
  sub_row = cut_op_row op.Sub wrapping_sub (rv.Sub 5 5 6) subtracts (λ z. refl)
