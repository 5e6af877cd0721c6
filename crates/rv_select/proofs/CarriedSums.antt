-- Sums and differences are carried out, in any activation.
use Rattle.std.proofs.Common.{◌≡◌, ◌≢◌, ℕ, ap, inl, Some, slice_get}
use Rattle.oi_base.specs.declared.ids.RegId.{RegId}
use Rattle.oi_base.specs.declared.words.Width.{Width}
use Rattle.oi_base.specs.Follows.{Stuck}
use Rattle.ir_core.specs.declared.flat.BinOp.{BinOp}
use Rattle.ir_core.specs.declared.flat.BinOp.TheVariants as op
use Rattle.ir_core.specs.declared.flat.FlatOp.{FlatOp}
use Rattle.ir_core.specs.declared.flat.FlatInstr.{FlatInstr}
use Rattle.ir_core.specs.declared.flat.FlatInstr.TheVariants.{Bin}
use Rattle.ir_core.specs.declared.flat.FlatBlock.{FlatBlock}
use Rattle.ir_core.specs.Memory.{Value}
use Rattle.ir_core.specs.Rows.{Gives, bin}
use Rattle.ir_core.specs.Formed.{IsBlock}
use Rattle.ir_core.specs.Flat.{Program, Run, value_of, flat_step}
use Rattle.rv_isa.specs.Isa.{Machine}
use Rattle.rv_select.specs.Stands.{Object, body_in, StandsFor, IsLaid}
use Rattle.rv_select.specs.Sums.{IsSum}
use Rattle.rv_select.specs.Carried.{IsCarriedOut}
use Rattle.rv_select.proofs.BinRow.{Row}
use Rattle.rv_select.proofs.Rows.{BinTurn, is_stuck, is_undefined, has_value, bin_turns, in_run, add_row, sub_row}
use Rattle.rv_select.proofs.Turns.{by_path, by_undefined}

module _ (o : Object) (p : Program) (laid : IsLaid o p) (largest : ℕ) (at : ℕ → ℕ) (r : Run) (m : Machine) (st : StandsFor o p at r m) (block : FlatBlock) (in_body : IsBlock (body_in p r.top.func) r.top.block block) (safe : (flat_step p r).status ≢ Stuck) where
  abbrev Done : Type 0
  Done = IsCarriedOut o p largest r m

  carried : Row o p laid at r m st (flat_step p r) → Done
  carried k = by_path o p largest at r m k.0 st k.1.path k.1.moved (inl (at, k.2))

  -- a binary operation, where the row of its result is known
  bin_by : (d : RegId) (op' : BinOp) (w : Width) (a b : FlatOp) → ((x y u : Value) → value_of r.top.regs a ≡ Some x → value_of r.top.regs b ≡ Some y → bin op' w x y ≡ Gives u → Row o p laid at r m st (flat_step p r)) → BinTurn p r d op' w a b → Done
  bin_by d op' w a b row (is_stuck t) = absurd (safe (ap (λ z. z.status) t))
  bin_by d op' w a b row (is_undefined t) = by_undefined o p largest at r m st (ap (λ z. z.status) t)
  bin_by d op' w a b row (has_value x y u ea eb g t) = carried (row x y u ea eb g)

  turns : (d : RegId) (op' : BinOp) (w : Width) (a b : FlatOp) → slice_get block.code r.top.place ≡ Some (Bin d op' w a b) → BinTurn p r d op' w a b
  turns d op' w a b e = bin_turns p r st.going block (in_run o p laid at r m st block in_body) d op' w a b e

  pub sum_carried : (i : FlatInstr) → slice_get block.code r.top.place ≡ Some i → IsSum (body_in p r.top.func) i → Done
  sum_carried (Bin d op.Add w a b) e h = bin_by d op.Add w a b (λ x y u ea eb g. add_row o p laid at r m st block in_body d w a b x y u e h.0 h.1 h.2 ea eb g) (turns d op.Add w a b e)
  sum_carried (Bin d op.Sub w a b) e h = bin_by d op.Sub w a b (λ x y u ea eb g. sub_row o p laid at r m st block in_body d w a b x y u e h.0 h.1 h.2 ea eb g) (turns d op.Sub w a b e)
  sum_carried i e h = absurd h

pub sums_carried : (o : Object) (p : Program) → IsLaid o p → (largest : ℕ) (at : ℕ → ℕ) (r : Run) (m : Machine) → StandsFor o p at r m → (block : FlatBlock) (i : FlatInstr) → IsBlock (body_in p r.top.func) r.top.block block → slice_get block.code r.top.place ≡ Some i → IsSum (body_in p r.top.func) i → (flat_step p r).status ≢ Stuck → IsCarriedOut o p largest r m
sums_carried o p laid largest at r m st block i here e sum safe = sum_carried o p laid largest at r m st block here safe i e sum
