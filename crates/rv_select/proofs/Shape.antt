-- The shape of the stack under activations' frames, and where their blocks lie.
use Rattle.std.proofs.Common.{◌≡◌, ◌⊎◌, inl, inr, ⊎_elim, ℕ, ◌+◌, ◌*◌, ◌%◌, ◌<◌, ◌≤◌, true, List, [], ◌∷◌, length, Some, slice_get, arith}
use Rattle.std.proofs.lemmas.Option.{slice_get_cases}
use Rattle.rv_isa.specs.Memory.{data_start, stack_start, stack_end, stack_size}
use Rattle.ir_core.specs.Memory.{Block, Memory}
use Rattle.ir_core.specs.Flat.{Program, Activation, Run}
use Rattle.frame_layout.specs.Frame.{slots_end}
use Rattle.frame_layout.specs.Laws.{LieApart}
use Rattle.frame_layout.proofs.HomeLaws.{lie_apart}
use Rattle.rv_isa.specs.Isa.{Machine}
use Rattle.rv_select.specs.Stands.{Object, body_in, frame_in, FrameStands, FramesStand, IsOwned, StandsFor, IsLaid}

module _ (o : Object) (p : Program) (laid : IsLaid o p) where
  module _ (mem : Memory) (at bytes : ℕ → ℕ) where
    pub apart_of : (s : ℕ) (a : Activation) (as' : List Activation) → FrameStands o p mem at bytes s a as' → LieApart (body_in p a.func)
    apart_of s a as' st = lie_apart (body_in p a.func) (laid.codes a.func (body_in p a.func) st.body).formed

    -- where the frames fill the stack, the stack pointer is at most its end and a multiple of 16
    pub stack_shape : (s : ℕ) (as' : List Activation) → FramesStand o p mem at bytes s as' → (s ≤ stack_end) × (s % 16 ≡ 0)
    stack_shape s [] st = let e : s ≡ stack_end = st in (omega arith, omega arith)
    stack_shape s (a ∷ as') st =
        let h = stack_shape (s + frame_in p a.func) as' st.1 in
        let w = (apart_of s a as' st.0).whole in
        (omega arith, omega arith)

    -- a block that activations own lies in their frames, above the slots of the first one
    pub owned_inside : (s : ℕ) (as' : List Activation) (i size : ℕ) → FramesStand o p mem at bytes s as' → IsOwned p at s as' i size → (s ≤ at i) × (at i + size ≤ stack_end)
    owned_inside s [] i size st own = absurd own
    owned_inside s (a ∷ as') i size st (inl k) =
        let l = (apart_of s a as' st.0).memory k.reg size k.align k.home k.alloca k.is_home in
        let low = l.0 in
        let high = l.1 in
        let shape = stack_shape (s + frame_in p a.func) as' st.1 in
        let e = k.address in
        (omega (arith, e, low), omega (arith, e, high, shape))
    owned_inside s (a ∷ as') i size st (inr k) =
        let h = owned_inside (s + frame_in p a.func) as' i size st.1 k in
        let low = h.0 in
        (omega (arith, low), h.1)

    pub owned_above : (s : ℕ) (a : Activation) (as' : List Activation) (i size : ℕ) → FramesStand o p mem at bytes s (a ∷ as') → IsOwned p at s (a ∷ as') i size → s + slots_end (body_in p a.func) ≤ at i
    owned_above s a as' i size st (inl k) =
        let l = (apart_of s a as' st.0).memory k.reg size k.align k.home k.alloca k.is_home in
        let low = l.0 in
        let e = k.address in
        omega (arith, e, low)
    owned_above s a as' i size st (inr k) =
        let h = owned_inside (s + frame_in p a.func) as' i size st.1 k in
        let low = h.0 in
        let inside = (apart_of s a as' st.0).within.1 in
        omega (arith, low, inside)

    -- no function that is active has a larger frame
    abbrev pub AllWithin : ℕ → List Activation → Type 0
    AllWithin largest [] = Unit {0}
    AllWithin largest (a ∷ as') = (frame_in p a.func ≤ largest) × AllWithin largest as'

    depth_bound : (s largest : ℕ) (as' : List Activation) → AllWithin largest as' → FramesStand o p mem at bytes s as' → stack_end ≤ s + length as' * largest
    depth_bound s largest [] all st = let e : s ≡ stack_end = st in omega arith
    depth_bound s largest (a ∷ as') all st =
        let h = depth_bound (s + frame_in p a.func) largest as' all.1 st.1 in
        let k = all.0 in
        omega arith

    -- where one more frame doesn't fit, one more activation of the largest frame exceeds the stack
    pub too_deep : (s largest new : ℕ) (as' : List Activation) → AllWithin largest as' → new ≤ largest → FramesStand o p mem at bytes s as' → s < stack_start + new → stack_size < (length as' + 1) * largest
    too_deep s largest new as' all h st low =
        let k = depth_bound s largest as' all st in
        omega arith

  -- ---- live blocks

  module _ (at : ℕ → ℕ) (r : Run) (m : Machine) (st : StandsFor o p at r m) where
    -- a global lies in the data
    global_inside : (i : ℕ) (b : Block) → slice_get r.memory i ≡ Some b → i < length p.globals → (data_start ≤ at i) × (at i + length b.bytes ≤ data_start + length o.segments.data_bytes)
    global_inside i b e lt = ⊎_elim
        (λ k.
        let in_data = laid.globals.inside i k.0 k.2 in
        let low = in_data.0 in
        let high = in_data.1 in
        let same = st.globals i lt in
        let size = st.sizes i k.0 b k.2 e in
        (omega (arith, same, low), omega (arith, same, high, size)))
        (λ none. let le = none.0 in absurd (omega (arith, lt, le)))
        (slice_get_cases p.globals i).1

    -- a live block lies in the data, or from the slots' end of the first frame on in the stack
    pub live_inside : (i : ℕ) (b : Block) → slice_get r.memory i ≡ Some b → b.live ≡ true → ((data_start ≤ at i) × (at i + length b.bytes ≤ data_start + length o.segments.data_bytes)) ⊎ ((m.registers 2 + slots_end (body_in p r.top.func) ≤ at i) × (at i + length b.bytes ≤ stack_end))
    live_inside i b e live = ⊎_elim
        (λ lt. inl (global_inside i b e lt))
        (λ own. inr (owned_above r.memory at m.memory (m.registers 2) r.top r.below i (length b.bytes) st.frames own, (owned_inside r.memory at m.memory (m.registers 2) (r.top ∷ r.below) i (length b.bytes) st.frames own).1))
        (st.owners i b e live)
