-- A program of sums and differences is refined by its object, from the load.
use Rattle.std.proofs.Common.{◌≡◌, ◌≢◌, ℕ, suc, ◌<◌, ◌≤◌, refl, sym, ap, ap₂, ◌∙◌, subst, inr, ⊎_elim, arith, List, [], length, Option, Some, None, slice_get, All}
use Rattle.std.specs.Prelude.{unwrap_or}
use Rattle.std.specs.Fn.{iterate}
use Rattle.std.proofs.lemmas.Option.{slice_get_within, slice_get_cases, get_or_from_slice_get}
use Rattle.std.proofs.lemmas.List.Elements.{All-get_or}
use Rattle.oi_base.specs.declared.ids.RegId.{RegId}
use Rattle.oi_base.specs.declared.words.Width.{Width}
use Rattle.oi_base.specs.Follows.{Status, Going, Ended, Undefined, Stuck}
use Rattle.ir_core.specs.declared.flat.BinOp.{BinOp}
use Rattle.ir_core.specs.declared.flat.BinOp.TheVariants as op
use Rattle.ir_core.specs.declared.flat.FlatOp.{FlatOp}
use Rattle.ir_core.specs.declared.flat.FlatInstr.{FlatInstr}
use Rattle.ir_core.specs.declared.flat.FlatInstr.TheVariants.{Bin}
use Rattle.ir_core.specs.declared.flat.FlatEnd.TheVariants.{Ret}
use Rattle.ir_core.specs.declared.flat.FlatBlock.{FlatBlock}
use Rattle.ir_core.specs.declared.flat.FlatBody.{FlatBody}
use Rattle.ir_core.specs.Memory.{Value}
use Rattle.ir_core.specs.Rows.{as_word}
use Rattle.ir_core.specs.Formed.{IsBlock}
use Rattle.ir_core.specs.Flat.{Program, Run, value_of, block_of, flat_step, flat_start, flat_run, applied, Returns, using, with_value, returned, ended, ends}
use Rattle.rv_isa.specs.Isa.{Machine, run}
use Rattle.rv_isa.specs.Refines.{Refines}
use Rattle.rv_select.specs.Stands.{Object, empty_body, body_in, frame_in, StandsFor, IsLaid}
use Rattle.rv_select.specs.Sums.{IsPlain, IsSum, IsSums, IsNeverStuck}
use Rattle.rv_select.specs.Carried.{IsCarriedOut}
use Rattle.rv_select.proofs.Results.{ReadIs, read_is, other, poison, number}
use Rattle.rv_select.proofs.Rows.{BinTurn, is_stuck, is_undefined, has_value, end_is, bin_turns, in_run}
use Rattle.rv_select.proofs.Return.{ret_row}
use Rattle.rv_select.proofs.Start.{starts}
use Rattle.rv_select.proofs.Turns.{by_path, by_undefined, refined_by}
use Rattle.rv_select.proofs.CarriedSums.{sums_carried}
use Rattle.rv_select.proofs.QuietPrefix.{after_path}

all_at : {X : Type 0} (P : X → Type 0) (xs : List X) (k : ℕ) (y : X) → All P xs → slice_get xs k ≡ Some y → P y
all_at P xs k y all e = subst P (get_or_from_slice_get xs k y y e) (All-get_or P xs k y (slice_get_within xs k y e) all)

module _ (o : Object) (p : Program) (laid : IsLaid o p) (sums : IsSums p) where
  abbrev block : FlatBlock
  block = record { phis = []; code = sums.code; end = Ret (Some sums.value) }

  abbrev largest : ℕ
  largest = frame_in p p.main

  main_is : body_in p p.main ≡ sums.body
  main_is = ap (λ (x : Option FlatBody). unwrap_or x empty_body) sums.is_body

  -- in the one block of the one activation, and the run is never stuck
  record InMain (r : Run) : Type 0 where
    func : r.top.func ≡ p.main
    block : r.top.block ≡ 0
    place : r.top.place ≤ length sums.code
    first : r.below ≡ []
    fine : (n : ℕ) → (iterate (flat_step p) n r).status ≢ Stuck

  module _ (at : ℕ → ℕ) (r : Run) (m : Machine) (st : StandsFor o p at r m) (in_main : InMain r) where
    abbrev Turned : Type 0
    Turned = IsCarriedOut o p largest r m × ((flat_step p r).status ≡ Going → InMain (flat_step p r))

    body_is : body_in p r.top.func ≡ sums.body
    body_is = ap (body_in p) in_main.func ∙ main_is

    here : IsBlock (body_in p r.top.func) r.top.block block
    here = ap₂ (λ (b : FlatBody) (n : ℕ). slice_get b.blocks n) body_is in_main.block ∙ ap (λ (ks : List FlatBlock). slice_get ks 0) sums.one_block

    in_block : block_of (p.body r.top.func) r.top.block ≡ Some block
    in_block = in_run o p laid at r m st block here

    safe : (flat_step p r).status ≢ Stuck
    safe = in_main.fine 1

    stops : (x : Status) → x ≢ Going → flat_step p r ≡ ends r x → (flat_step p r).status ≡ Going → InMain (flat_step p r)
    stops x differs e going = absurd (differs (sym (ap (λ z. z.status) e) ∙ going))

    no_stuck : Stuck ≢ Going
    no_stuck e = cc

    no_undefined : Undefined ≢ Going
    no_undefined e = cc

    still : (i : FlatInstr) (d : RegId) (u : Value) → slice_get sums.code r.top.place ≡ Some i → flat_step p r ≡ with_value r d u → InMain (flat_step p r)
    still i d u e t = let short = slice_get_within sums.code r.top.place i e in record {
      func = ap (λ z. z.top.func) t ∙ in_main.func;
      block = ap (λ z. z.top.block) t ∙ in_main.block;
      place = subst (λ n. n ≤ length sums.code) (sym (ap (λ z. z.top.place) t)) (omega arith);
      first = ap (λ z. z.below) t ∙ in_main.first;
      fine = λ n. in_main.fine (suc n);
    }

    goes_on_in : (d : RegId) (op' : BinOp) (w : Width) (a b : FlatOp) → slice_get sums.code r.top.place ≡ Some (Bin d op' w a b) → BinTurn p r d op' w a b → (flat_step p r).status ≡ Going → InMain (flat_step p r)
    goes_on_in d op' w a b e (is_stuck t) = stops Stuck no_stuck t
    goes_on_in d op' w a b e (is_undefined t) = stops Undefined no_undefined t
    goes_on_in d op' w a b e (has_value x y u ea eb g t) = λ going. still (Bin d op' w a b) d u e t

    by_instr : (i : FlatInstr) → slice_get sums.code r.top.place ≡ Some i → IsSum sums.body i → Turned
    by_instr i e h = (sums_carried o p laid largest at r m st block i here e (subst (λ (b : FlatBody). IsSum b i) (sym body_is) h) safe, stays i e h)
      where
        stays : (i : FlatInstr) → slice_get sums.code r.top.place ≡ Some i → IsSum sums.body i → (flat_step p r).status ≡ Going → InMain (flat_step p r)
        stays (Bin d op.Add w a b) e h = goes_on_in d op.Add w a b e (bin_turns p r st.going block in_block d op.Add w a b e)
        stays (Bin d op.Sub w a b) e h = goes_on_in d op.Sub w a b e (bin_turns p r st.going block in_block d op.Sub w a b e)
        stays i e h = absurd h

    -- the return: the run has ended with the word, and the object has exited with it
    ret_by : slice_get sums.code r.top.place ≡ None → r.top.place ≡ length sums.code → (va : Option Value) → value_of r.top.regs sums.value ≡ va → Turned
    ret_by e at_end None ea =
        let t = end_is p r st.going block in_block e ∙ ap (λ v. applied p r (using v (λ x. Returns (Some x)))) ea in
        (absurd (safe (ap (λ z. z.status) t)), stops Stuck no_stuck t)
    ret_by e at_end (Some x) ea = by_read (read_is 4294967296 x)
      where
        turn : flat_step p r ≡ ended r (as_word 4294967296 x)
        turn = end_is p r st.going block in_block e ∙ ap (λ v. applied p r (using v (λ x. Returns (Some x)))) ea ∙ ap (λ as'. returned r as' (Some x)) in_main.first

        by_read : ReadIs 4294967296 x → Turned
        by_read (other q) = let t = turn ∙ ap (ended r) q in (absurd (safe (ap (λ z. z.status) t)), stops Stuck no_stuck t)
        by_read (poison h q) = let t = turn ∙ ap (ended r) q in (by_undefined o p largest at r m st (ap (λ z. z.status) t), stops Undefined no_undefined t)
        by_read (number n h low q) =
            let t = turn ∙ ap (ended r) q in
            let k = ret_row o p laid at r m st in_main.first block here at_end sums.value n refl (subst (λ (b : FlatBody). IsPlain b sums.value) (sym body_is) sums.returned) (ea ∙ ap Some h) in (
              by_path o p largest at r m k.0 st k.1.path k.1.moved (inr (record { word = n; ended = ap (λ z. z.status) t; exited = k.2; output = k.3 ∙ st.output ∙ sym (ap (λ z. z.output) t) })),
              stops (Ended n) (λ z. not_going n z) t,
            )
          where
            not_going : (n : ℕ) → Ended n ≡ Going → ⊥
            not_going n z = cc

    main_turn : Turned
    main_turn = by_place (slice_get sums.code r.top.place) refl
      where
        by_place : (i : Option FlatInstr) → slice_get sums.code r.top.place ≡ i → Turned
        by_place (Some i) e = by_instr i e (all_at (IsSum sums.body) sums.code r.top.place i sums.sums e)
        by_place None e = ret_by e at_end (value_of r.top.regs sums.value) refl
          where
            at_end : r.top.place ≡ length sums.code
            at_end = ⊎_elim (λ h. absurd (no_value h.0 (sym e ∙ h.2))) (λ h. let l = h.0 in let k = in_main.place in omega arith) (slice_get_cases sums.code r.top.place).1
              where
                no_value : (i : FlatInstr) → None ≡ Some i → ⊥
                no_value i z = cc

  pub sums_refined : (input : List ℕ) → All (λ (b : ℕ). b < 256) input → IsNeverStuck p input → Refines (frame_in p p.main) (flat_run p input) (run o.segments input)
  sums_refined input small fine =
      let has_main : p.body p.main ≡ Some (body_in p p.main) = sums.is_body ∙ ap Some (sym main_is) in
      let start = starts o p laid input small has_main (ap (λ (b : FlatBody). b.params) main_is ∙ sums.no_parameters) in
      after_path o.segments largest (flat_run p input) _ start.after start.path refl refl
      (refined_by o p largest InMain main_turn o.link.global_at (flat_start p input) start.after start.stands
      (record { func = refl; block = refl; place = omega arith; first = refl; fine = fine }))
