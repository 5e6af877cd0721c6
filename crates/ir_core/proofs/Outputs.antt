-- What every turn keeps: the output grows, and an undefined turn leaves it.
use Rattle.std.proofs.Common.{◌≡◌, ◌≢◌, ℕ, zero, suc, ◌+◌, List, [], ◌∷◌, ◌++◌, refl, sym, ap, ◌∙◌, subst, append-nil, Option, Some, None, slice_get}
use Rattle.std.specs.Fn.{iterate}
use Rattle.oi_base.specs.Follows.{Status, Going, Ended, Undefined, Stuck, IsPrefix}
use Rattle.oi_base.proofs.Chain.{prefix_trans}
use Rattle.oi_base.proofs.Iterate.{iterate_more}
use Rattle.oi_base.specs.declared.ids.RegId.{RegId}
use Rattle.ir_core.specs.declared.flat.FlatBody.{FlatBody}
use Rattle.ir_core.specs.declared.flat.FlatBlock.{FlatBlock}
use Rattle.ir_core.specs.Memory.{Value, Bits}
use Rattle.ir_core.specs.Rows.{Read, Is, IsPoison, IsOther, as_word}
use Rattle.ir_core.specs.Flat.{Program, Run, Activation, Effect, Sets, Allocates, Stores, Puts, Takes, Enters, Goes, Returns, Stops, NoMeaning, NoValue, flat_step, flat_start, flat_run, seen, turn_of, in_block, applied, what_stands, block_of, with_result, got, entered, goes_into, stands_at, after_phis, returned, last, ended, back}

same_prefix : (xs : List ℕ) → IsPrefix xs xs
same_prefix xs = ([], append-nil xs)

-- after an effect the output is the old one, but that a byte may be put; and where the run is undefined, it is the old one
record Keeps (r s : Run) : Type 0 where
  grows : IsPrefix r.output s.output
  silent : s.status ≡ Undefined → s.output ≡ r.output

silent_step : (r s : Run) → s.output ≡ r.output → Keeps r s
silent_step r s e = record { grows = subst (λ o. IsPrefix r.output o) (sym e) (same_prefix r.output); silent = λ u. e }

with_result_keeps : (q r : Run) (d : Option RegId) (v : Value) → q.output ≡ r.output → Keeps r (with_result q d v)
with_result_keeps q r None v e = silent_step r _ e
with_result_keeps q r (Some d) v e = silent_step r _ e

put_keeps : (r : Run) (b : ℕ) (d : Option RegId) → r.status ≡ Going → Keeps r (with_result (record r { output = r.output ++ b ∷ [] }) d (Bits b))
put_keeps r b None e = record { grows = (b ∷ [], refl); silent = λ u. absurd (cc) }
put_keeps r b (Some d) e = record { grows = (b ∷ [], refl); silent = λ u. absurd (cc) }

got_keeps : (r : Run) (d : Option RegId) (bs : List ℕ) → Keeps r (got r d bs)
got_keeps r d [] = with_result_keeps r r d _ refl
got_keeps r d (b ∷ bs) = with_result_keeps (record r { input = bs }) r d _ refl

entered_keeps : (r : Run) (f : ℕ) (args : List (Option Value)) (w : Option RegId) (b : Option FlatBody) → Keeps r (entered r f args w b)
entered_keeps r f args w None = silent_step r _ refl
entered_keeps r f args w (Some b) = silent_step r _ refl

stands_keeps : (r : Run) (b : ℕ) (regs : Option (ℕ → Option Value)) → Keeps r (stands_at r b regs)
stands_keeps r b None = silent_step r _ refl
stands_keeps r b (Some regs) = silent_step r _ refl

goes_keeps : (r : Run) (b : ℕ) (k : Option FlatBlock) → Keeps r (goes_into r b k)
goes_keeps r b None = silent_step r _ refl
goes_keeps r b (Some k) = stands_keeps r b (after_phis r.top.regs r.top.block k.phis)

ended_keeps : (r : Run) (x : Read) → Keeps r (ended r x)
ended_keeps r (Is a) = silent_step r _ refl
ended_keeps r IsPoison = silent_step r _ refl
ended_keeps r IsOther = silent_step r _ refl

last_keeps : (r : Run) (v : Option Value) → Keeps r (last r v)
last_keeps r None = silent_step r _ refl
last_keeps r (Some v) = ended_keeps r (as_word 4294967296 v)

back_keeps : (q r : Run) (d : Option RegId) (v : Option Value) → q.output ≡ r.output → Keeps r (back q d v)
back_keeps q r None v e = silent_step r _ e
back_keeps q r (Some d) None e = silent_step r _ e
back_keeps q r (Some d) (Some v) e = silent_step r _ e

returned_keeps : (r : Run) (as' : List Activation) (v : Option Value) → Keeps r (returned r as' v)
returned_keeps r [] v = last_keeps r v
returned_keeps r (a ∷ as') v = back_keeps _ r r.top.waiting v refl

applied_keeps : (p : Program) (r : Run) (e : Effect) → r.status ≡ Going → Keeps r (applied p r e)
applied_keeps p r (Sets d v) g = silent_step r _ refl
applied_keeps p r (Allocates d size align) g = silent_step r _ refl
applied_keeps p r (Stores m) g = silent_step r _ refl
applied_keeps p r (Puts d b) g = put_keeps r b d g
applied_keeps p r (Takes d) g = got_keeps r d r.input
applied_keeps p r (Enters d f args) g = entered_keeps r f args d (p.body f)
applied_keeps p r (Goes b) g = goes_keeps r b (block_of (p.body r.top.func) b)
applied_keeps p r (Returns v) g = returned_keeps r r.below v
applied_keeps p r (Stops w) g = silent_step r _ refl
applied_keeps p r NoMeaning g = silent_step r _ refl
applied_keeps p r NoValue g = silent_step r _ refl

block_keeps : (p : Program) (r : Run) (b : Option FlatBlock) → r.status ≡ Going → Keeps r (in_block p r b)
block_keeps p r None g = silent_step r _ refl
block_keeps p r (Some b) g = applied_keeps p r (what_stands r b (slice_get b.code r.top.place)) g

turn_keeps : (p : Program) (r : Run) (s : Status) → r.status ≡ s → Keeps r (turn_of p r s)
turn_keeps p r Going e = block_keeps p r (block_of (p.body r.top.func) r.top.block) e
turn_keeps p r (Ended w) e = silent_step r _ refl
turn_keeps p r Undefined e = silent_step r _ refl
turn_keeps p r Stuck e = silent_step r _ refl

step_keeps : (p : Program) (r : Run) → Keeps r (flat_step p r)
unfolding flat_step
step_keeps p r = turn_keeps p r r.status refl

pub output_grows : (p : Program) (n : ℕ) (r : Run) → IsPrefix r.output (iterate (flat_step p) n r).output
output_grows p zero r = same_prefix r.output
output_grows p (suc n) r = prefix_trans _ _ _ (step_keeps p r).grows (output_grows p n (flat_step p r))

pub undefined_keeps : (p : Program) (r : Run) → (flat_step p r).status ≡ Undefined → (flat_step p r).output ≡ r.output
undefined_keeps p r u = (step_keeps p r).silent u

-- ---- over turns

stays_at : (p : Program) (r : Run) (s : Status) → s ≢ Going → turn_of p r s ≡ r
stays_at p r Going h = absurd (h refl)
stays_at p r (Ended w) h = refl
stays_at p r Undefined h = refl
stays_at p r Stuck h = refl

step_stays : (p : Program) (r : Run) → r.status ≢ Going → flat_step p r ≡ r
unfolding flat_step
step_stays p r h = stays_at p r r.status h

pub run_stays : (p : Program) (n : ℕ) (r : Run) → r.status ≢ Going → iterate (flat_step p) n r ≡ r
run_stays p zero r h = refl
run_stays p (suc n) r h = ap (iterate (flat_step p) n) (step_stays p r h) ∙ run_stays p n r h

pub seen_grows : (p : Program) (input : List ℕ) (m n : ℕ) → IsPrefix (flat_run p input m).output (flat_run p input (m + n)).output
seen_grows p input m n =
    let start = flat_start p input in
    subst (λ (r : Run). IsPrefix (iterate (flat_step p) m start).output r.output) (iterate_more (flat_step p) m n start) (output_grows p n (iterate (flat_step p) m start))

pub seen_stays : (p : Program) (input : List ℕ) (m n : ℕ) → (flat_run p input m).status ≢ Going → flat_run p input (m + n) ≡ flat_run p input m
seen_stays p input m n h =
    let start = flat_start p input in
    ap seen (sym (iterate_more (flat_step p) m n start) ∙ run_stays p n (iterate (flat_step p) m start) h)

pub undefined_leaves : (p : Program) (input : List ℕ) (m : ℕ) → (flat_run p input (m + 1)).status ≡ Undefined → (flat_run p input (m + 1)).output ≡ (flat_run p input m).output
undefined_leaves p input m u =
    let start = flat_start p input in
    let one = iterate_more (flat_step p) m 1 start in
    let here : (flat_step p (iterate (flat_step p) m start)).status ≡ Undefined = ap (λ (r : Run). r.status) one ∙ u in
    sym (ap (λ (r : Run). r.output) one) ∙ undefined_keeps p (iterate (flat_step p) m start) here
