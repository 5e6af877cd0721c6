-- A code has at least the two instructions that open its frame.
use Rattle.std.proofs.Common.{◌≡◌, ℕ, suc, ◌+◌, ◌≤◌, nat_lt, nat_le, Bool, true, false, if◌then◌else◌, refl, ap, arith, pos, neg_ℤ, List, [], ◌∷◌, ◌++◌, length, length-append, Option, Some, None, Ok, Err}
use Rattle.std.specs.Option.{option_and_then}
use Rattle.ir_core.specs.declared.flat.FlatBody.{FlatBody}
use Rattle.ir_core.specs.declared.module.Module.{Module}
use Rattle.ir_core.specs.Weight.{weight}
use Rattle.call_graph.specs.Graph.{Graph}
use Rattle.frame_layout.specs.declared.laying.TheConstants.{LARGEST_FRAME}
use Rattle.frame_layout.specs.Offsets.{Offsets}
use Rattle.frame_layout.specs.Frame.{frame, frame_of}
use Rattle.local_passes.specs.Simplify.{simplified}
use Rattle.rv_isa.specs.declared.rv.Rv.{Rv}
use Rattle.rv_select.specs.declared.item.Draft.{Draft}
use Rattle.rv_select.specs.declared.item.Draft.TheVariants.{Fixed, Jump, Near}
use Rattle.rv_select.specs.declared.faults.NoSize.{NoSize}
use Rattle.rv_select.specs.declared.selecting.TheConstants.{LARGEST_CODE}
use Rattle.rv_isa.specs.declared.rv.Rv.TheVariants as rv
use Rattle.rv_select.specs.Branches.{is_long, place}
use Rattle.rv_select.specs.Parts.{sp, ra, t0, large_frame, frame_down, open_frame}
use Rattle.rv_select.specs.Pending.{words, draft_items, items_from}
use Rattle.rv_select.specs.Lowered.{prologue, keep_parameters, blocks_from}
use Rattle.rv_select.specs.Code.{drafts, block_head, longs, code, code_bytes}
use Rattle.size_measure.specs.Maps.{Map}
use Rattle.size_measure.specs.Trees.{body}
use Rattle.size_measure.specs.Sizes.{IsAtMost, heaviest, code_size, measured, ok, body_size}

-- ---- as many items as drafts, or more

one_item : (places : ℕ → ℕ) (long : Bool) (at : ℕ) (d : Draft) → 1 ≤ length (draft_items places long at d)
one_item places long at (Fixed i) = omega arith
one_item places long at (Jump b) = omega arith
one_item places false at (Near t r q b) = omega arith
one_item places true at (Near t r q b) = omega arith

as_many : (places : ℕ → ℕ) (longs : List Bool) (k : ℕ) (ds : List Draft) → length ds ≤ length (items_from places longs k ds)
as_many places longs k [] = omega arith
as_many places longs k (d ∷ ds) =
    let one = one_item places (is_long longs k) (place longs k) d in
    let rest = as_many places longs (k + 1) ds in
    let l = length-append (draft_items places (is_long longs k) (place longs k) d) (items_from places longs (k + 1) ds) in
    omega (arith, one, rest, l)

words_length : (is : List Rv) → length (words is) ≡ length is
words_length [] = refl
words_length (i ∷ is) = ap suc (words_length is)

-- ---- the two that open the frame

down_some : (size : ℕ) → 1 ≤ length (frame_down size)
unfolding frame_down
down_some size = by (nat_le size 2032)
  where
    by : (t : Bool) → 1 ≤ length (if t then rv.Addi sp sp (neg_ℤ (pos size)) ∷ [] else large_frame size ++ rv.Sub sp sp t0 ∷ [])
    by true = omega arith
    by false = omega arith

opening : (size : ℕ) → 2 ≤ length (open_frame size)
opening size = let d = down_some size in let l = length-append (frame_down size) (rv.Sw sp ra (pos 0) ∷ []) in omega (arith, d, l)

pub least_code : (b : FlatBody) → 8 ≤ code_bytes b
unfolding code
least_code b =
    let f : Offsets = frame_of b in
    let o = opening f.bytes in
    let w = words_length (open_frame f.bytes) in
    let p = length-append (words (open_frame f.bytes)) (keep_parameters f b.params) in
    let d = length-append (prologue f b.params) (blocks_from f b.blocks 0 b.blocks) in
    let many = as_many (λ n. place (longs f b) (block_head f b n)) (longs f b) 0 (drafts f b) in
    omega (arith, o, w, p, d, many)

-- ---- sizes

code_at_least : (b : FlatBody) → IsAtMost (Some 8) (ok (code_size b))
code_at_least b = by (nat_lt LARGEST_FRAME (frame b)) (nat_lt LARGEST_CODE (code_bytes b)) _ _
  where
    by : (large long : Bool) (x y : NoSize) → IsAtMost (Some 8) (ok (if large then Err x else (if long then Err y else Ok (code_bytes b))))
    by true long x y = tt
    by false true x y = tt
    by false false x y = least_code b

measured_at_least : (b : FlatBody) → IsAtMost (Some 8) (ok (measured b))
unfolding measured
measured_at_least b = by (nat_lt heaviest (weight b)) _
  where
    by : (heavy : Bool) (x : NoSize) → IsAtMost (Some 8) (ok (if heavy then Err x else code_size (simplified b)))
    by true x = tt
    by false x = code_at_least (simplified b)

pub least_body : (m : Module) (g : Graph) (d : Map) (f : ℕ) → IsAtMost (Some 8) (body_size m g d f)
unfolding body_size
least_body m g d f = by (body m g d f)
  where
    by : (o : Option FlatBody) → IsAtMost (Some 8) (option_and_then (λ (b : FlatBody). ok (measured b)) o)
    by None = tt
    by (Some b) = measured_at_least b
