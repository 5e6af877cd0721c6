-- Runs of a module (LangRef, "Instruction Reference"): a turn carries out one instruction or terminator. An activation's
-- registers are its function's local names, and its block is named by its label.
use Rattle.std.specs.Prelude.{ℕ, ◌+◌, ◌==◌, Bool, if◌then◌else◌, List, [], ◌∷◌, ◌++◌, codes, bytes_eq, Option, Some, None, slice_get}
use Rattle.std.specs.List.{find, position_or_len}
use Rattle.std.specs.Option.{option_map, option_map_or, option_and_then}
use Rattle.std.specs.Fn.{iterate}
use Rattle.oi_base.specs.declared.ids.RegId.{RegId}
use Rattle.oi_base.specs.Follows.{Status, Going, Ended, Undefined, Stuck, Seen}
use Rattle.ir_core.specs.declared.flat.FlatBlock.{FlatBlock}
use Rattle.ir_core.specs.declared.func.Block.{Block}
use Rattle.ir_core.specs.declared.func.Func.{Func}
use Rattle.ir_core.specs.declared.func.Param.{Param}
use Rattle.ir_core.specs.declared.module.Module.{Module}
use Rattle.ir_core.specs.Memory.{Value, Bits}
use Rattle.ir_core.specs.Operands.{symbol_text}
use Rattle.ir_core.specs.Flat.{Activation, Run, Effect, Sets, Allocates, Stores, Puts, Takes, Enters, Goes, Returns, Stops, NoMeaning, NoValue, ends, advanced, with_value, with_result, got, allocated, goes_into, returned, what_stands, seen}
use Rattle.ir_core.specs.Instructions.{block_rows}
use Rattle.ir_core.specs.Constants.{global_memory}

-- ---- what stands where

abbrev pub is_labelled : ℕ → Block → Bool
is_labelled x b = b.label.0 == x

-- the block of a function with this label
abbrev pub block_at : Module → ℕ → ℕ → Option FlatBlock
block_at m f x = option_and_then (λ (g : Func). option_map (block_rows m) (find (is_labelled x) g.blocks)) (slice_get m.funcs f)

-- the label of a function's entry block, which is its first
abbrev pub entry_label : Func → ℕ
entry_label f = option_map_or (λ (b : Block). b.label.0) (slice_get f.blocks 0) 0

abbrev pub is_main : Module → Func → Bool
is_main m f = bytes_eq (symbol_text m f.name) (codes "main")

-- the position of `main`
abbrev pub main_number : Module → ℕ
main_number m = position_or_len (is_main m) m.funcs

-- ---- a turn

-- the parameters of a new activation: each has the value of the argument in its place
abbrev pub bound : List Param → List (Option Value) → ℕ → Option Value
bound [] args x = None
bound (p ∷ ps) [] x = None
bound (p ∷ ps) (v ∷ vs) x = if p.name.0 == x then v else bound ps vs x

abbrev pub activated : ℕ → List (Option Value) → Option RegId → Func → Activation
activated f args waiting g =
    record { func = f; block = entry_label g; place = 0; regs = bound g.params args; made = []; waiting = waiting }

-- the caller goes on after the call once the callee has returned
abbrev pub called : Run → ℕ → List (Option Value) → Option RegId → Option Func → Run
called r f args waiting None = ends r Stuck
called r f args waiting (Some g) =
    record r { top = activated f args waiting g; below = (record r.top { place = r.top.place + 1 }) ∷ r.below }

-- an alloca makes a fresh block at each execution
abbrev pub carried_out : Module → Run → Effect → Run
carried_out m r (Sets d v) = with_value r d v
carried_out m r (Allocates d size align) = allocated r d size align r.memory
carried_out m r (Stores memory) = advanced (record r { memory = memory })
carried_out m r (Puts d b) = with_result (record r { output = r.output ++ b ∷ [] }) d (Bits b)
carried_out m r (Takes d) = got r d r.input
carried_out m r (Enters d f args) = called r f args d (slice_get m.funcs f)
carried_out m r (Goes b) = goes_into r b (block_at m r.top.func b)
carried_out m r (Returns v) = returned r r.below v
carried_out m r (Stops w) = ends r (Ended w)
carried_out m r NoMeaning = ends r Undefined
carried_out m r NoValue = ends r Stuck

abbrev pub at_block : Module → Run → Option FlatBlock → Run
at_block m r None = ends r Stuck
at_block m r (Some b) = carried_out m r (what_stands r b (slice_get b.code r.top.place))

-- a run that isn't going stays as it is
abbrev pub turn_in : Module → Run → Status → Run
turn_in m r Going = at_block m r (block_at m r.top.func r.top.block)
turn_in m r (Ended w) = r
turn_in m r Undefined = r
turn_in m r Stuck = r

unfoldable pub source_step : Module → Run → Run
source_step m r = turn_in m r r.status

-- ---- runs

-- `main` begins, with the global variables in memory
abbrev pub first_activation : Module → Activation
first_activation m = record {
  func = main_number m;
  block = option_map_or entry_label (slice_get m.funcs (main_number m)) 0;
  place = 0;
  regs = λ x. None;
  made = [];
  waiting = None;
}

abbrev pub source_start : Module → List ℕ → Run
source_start m input = record { top = first_activation m; below = []; memory = global_memory m; input = input; output = []; status = Going }

-- what is seen of a module's run on an input after n turns
abbrev pub src : Module → List ℕ → ℕ → Seen
src m input n = seen (iterate (source_step m) n (source_start m input))
