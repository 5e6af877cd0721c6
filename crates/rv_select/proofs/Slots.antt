-- A register's slot is written: all else that a state of the machine stands for stays.
use Rattle.std.proofs.Common.{◌≡◌, ◌≢◌, ◌⊎◌, ℕ, ◌+◌, ◌%◌, ◌<◌, ◌≤◌, sym, ap, ◌∙◌, subst, inl, inr, ⊎_elim, arith, true, List, [], ◌∷◌, length, Option, Some, slice_get}
use Rattle.std.proofs.lemmas.Bool.Decides.{nat_tests}
use Rattle.std.proofs.lemmas.Option.{slice_get_within}
use Rattle.oi_base.specs.declared.ids.RegId.{RegId}
use Rattle.ir_core.specs.declared.flat.FlatBody.{FlatBody}
use Rattle.ir_core.specs.Memory.{Value, Block, Memory}
use Rattle.ir_core.specs.Flat.{Program, Activation, Run, with_value, with_reg}
use Rattle.ir_core.specs.WellFormed.{IsWellFormed}
use Rattle.frame_layout.specs.Frame.{slot}
use Rattle.frame_layout.proofs.HomeLaws.{lie_apart}
use Rattle.rv_isa.specs.Memory.{read, write, in_text, stack_start}
use Rattle.rv_isa.specs.Isa.{Machine}
use Rattle.rv_isa.proofs.Bytes.{read_back, read_outside, write_outside}
use Rattle.rv_select.specs.Stands.{Object, body_in, frame_in, IsWordOf, IsByteOf, IsMade, RegsStand, ReturnsTo, FramesStand, BlockStands, IsOwned, goes_on, StandsFor, IsLaid}
use Rattle.rv_select.proofs.Stores.{Wrote}
use Rattle.rv_select.proofs.Homes.{other_register}
use Rattle.rv_select.proofs.Shape.{live_inside}

pub with_reg_cases : (f : ℕ → Option Value) (d : ℕ) (v u : Value) (r : ℕ) → with_reg f d v r ≡ Some u → ((r ≡ d) × (u ≡ v)) ⊎ ((r ≢ d) × (f r ≡ Some u))
with_reg_cases f d v u r h = grind (arith, nat_tests)

with_reg_other : (f : ℕ → Option Value) (d : ℕ) (v : Value) (r : ℕ) → r ≢ d → with_reg f d v r ≡ f r
with_reg_other f d v r h = grind (arith, nat_tests)

-- the registers of an activation over a write outside of its slots
module _ (mem : Memory) (at bytes : ℕ → ℕ) (b : FlatBody) (formed : IsWellFormed b) (s : ℕ) (regs : ℕ → Option Value) (st : RegsStand mem at bytes b s regs) where
  pub regs_above : (a w : ℕ) → a + 4 ≤ s → RegsStand mem at (write bytes 4 a w) b s regs
  regs_above a w h = record {
    slots = λ r o v is e. subst (IsWordOf mem at v) (sym (read_outside bytes 4 4 a w (s + o) (inr (omega arith)))) (st.slots r o v is e);
    allocas = st.allocas;
    homes = st.homes;
  }

  -- the registers of the activation whose slot is written
  pub regs_written : (d o w : ℕ) (v : Value) → slot b d ≡ Some o → IsWordOf mem at v (w % 4294967296) → RegsStand mem at (write bytes 4 (s + o) w) b s (with_reg regs d v)
  regs_written d o w v is_slot is = record {
    slots = by_slot;
    allocas = λ r q u p e. ⊎_elim (λ y. absurd (other_register b formed r d q o p is_slot y.0)) (λ y. st.allocas r q u p y.1) (with_reg_cases regs d v u r e);
    homes = λ r u e. ⊎_elim (λ y. inl (o, ap (slot b) y.0 ∙ is_slot)) (λ y. st.homes r u y.1) (with_reg_cases regs d v u r e);
  }
    where
      back : read (write bytes 4 (s + o) w) 4 (s + o) ≡ w % 4294967296
      back = read_back bytes 4 (s + o) w

      same_offset : (q : ℕ) → Some q ≡ Some o → q ≡ o
      same_offset q e = cc

      by_slot : (r q : ℕ) (u : Value) → slot b r ≡ Some q → with_reg regs d v r ≡ Some u → IsWordOf mem at u (read (write bytes 4 (s + o) w) 4 (s + q))
      by_slot r q u p e = ⊎_elim
          (λ y.
          let here : q ≡ o = same_offset q (sym p ∙ ap (slot b) y.0 ∙ is_slot) in
          subst (λ x. IsWordOf mem at x (read (write bytes 4 (s + o) w) 4 (s + q))) (sym y.1)
          (subst (λ n. IsWordOf mem at v (read (write bytes 4 (s + o) w) 4 (s + n))) (sym here) (subst (IsWordOf mem at v) (sym back) is)))
          (λ y. subst (IsWordOf mem at u) (sym (read_outside bytes 4 4 (s + o) w (s + q) (⊎_elim (λ z. inl (omega arith)) (λ z. inr (omega arith)) ((lie_apart b formed).slots_apart r d q o p is_slot y.0)))) (st.slots r q u p y.1))
          (with_reg_cases regs d v u r e)

module _ (o : Object) (p : Program) (laid : IsLaid o p) where
  -- the frames above a write
  pub frames_above : (mem : Memory) (at bytes : ℕ → ℕ) (s : ℕ) (as' : List Activation) (a w : ℕ) → a + 4 ≤ s → FramesStand o p mem at bytes s as' → FramesStand o p mem at (write bytes 4 a w) s as'
  frames_above mem at bytes s [] a w h st = st
  frames_above mem at bytes s (c ∷ as') a w h st = (
    record {
      body = st.0.body;
      regs = regs_above mem at bytes (body_in p c.func) (laid.codes c.func (body_in p c.func) st.0.body).formed s c.regs st.0.regs a w h;
      return_address = subst (ReturnsTo o p c.waiting as') (sym (read_outside bytes 4 4 a w s (inr (omega arith)))) st.0.return_address;
    },
    frames_above mem at bytes (s + frame_in p c.func) as' a w (omega arith) st.1,
  )

  module _ (at : ℕ → ℕ) (r : Run) (m m' : Machine) (d : RegId) (v : Value) (offset w : ℕ) (st : StandsFor o p at r m) where
    abbrev here : FlatBody
    here = body_in p r.top.func

    abbrev formed : IsWellFormed here
    formed = (laid.codes r.top.func here st.frames.0.body).formed

    abbrev slot_at : ℕ
    slot_at = m.registers 2 + offset

    block_kept : (i : ℕ) (b : Block) → slice_get r.memory i ≡ Some b → b.live ≡ true → slot here d.0 ≡ Some offset → m'.memory ≡ write m.memory 4 slot_at w → BlockStands r.memory at m.memory i b → BlockStands r.memory at m'.memory i b
    block_kept i b e live is_slot wrote k = record {
      each = λ j c at_j.
          let lt = slice_get_within b.bytes j c at_j in
          let low = st.low in
          let few = laid.data_bytes in
          let below = ((lie_apart here formed).slots d.0 offset is_slot).2 in
          let out = live_inside o p laid at r m st i b e live in
          let same : m'.memory (at i + j) ≡ m.memory (at i + j) = ap (λ (g : ℕ → ℕ). g (at i + j)) wrote ∙ write_outside m.memory 4 slot_at w (at i + j) (⊎_elim (λ h. inl (omega (arith, h.1))) (λ h. inr (omega (arith, h.0))) out) in
          subst (IsByteOf r.memory at c) (sym same) (k.each j c at_j);
      aligned = k.aligned;
    }

    owner_kept : (i size : ℕ) → slot here d.0 ≡ Some offset → IsOwned p at (m.registers 2) (r.top ∷ r.below) i size → IsOwned p at (m.registers 2) ((with_value r d v).top ∷ r.below) i size
    owner_kept i size is_slot (inl k) = inl (record {
      reg = k.reg;
      align = k.align;
      home = k.home;
      alloca = k.alloca;
      is_home = k.is_home;
      value = with_reg_other r.top.regs d.0 v k.reg.0 (other_register here formed k.reg.0 d.0 k.home offset k.is_home is_slot) ∙ k.value;
      made = k.made;
      address = k.address;
    })
    owner_kept i size is_slot (inr k) = inr k

    text_below : (a q : ℕ) → stack_start ≤ q → in_text o.segments a 1 ≡ true → a < q
    text_below a q low h = let text = laid.text in grind (arith, nat_tests)

    pub slot_written : slot here d.0 ≡ Some offset → IsWordOf r.memory at v (w % 4294967296) → IsMade (length r.memory) v → Wrote o.segments m m' slot_at w (goes_on o p (record r.top { place = r.top.place + 1 })) (m.registers 2) → StandsFor o p at (with_value r d v) m'
    slot_written is_slot is made wr =
        let s = m.registers 2 in
        let low = st.low in
        let apart = lie_apart here formed in
        let place = apart.slots d.0 offset is_slot in
        let above = place.0 in
        let below = place.2 in
        let inside = apart.within.1 in
        let as' = (with_value r d v).top ∷ r.below in
        let frames' : FramesStand o p r.memory at (write m.memory 4 slot_at w) s as' = (
          record {
            body = st.frames.0.body;
            regs = regs_written r.memory at m.memory here formed s r.top.regs st.frames.0.regs d.0 offset w v is_slot is;
            return_address = subst (ReturnsTo o p r.top.waiting r.below) (sym (read_outside m.memory 4 4 slot_at w s (inl (omega arith)))) st.frames.0.return_address;
          },
          frames_above r.memory at m.memory (s + frame_in p r.top.func) r.below slot_at w (omega arith) st.frames.1,
        ) in
        record {
          going = st.going;
          running = wr.running;
          output = wr.output ∙ st.output;
          input = wr.input ∙ st.input;
          input_bytes = st.input_bytes;
          pc = wr.pc_is;
          kept = λ a h. ap (λ (g : ℕ → ℕ). g a) wr.memory ∙ write_outside m.memory 4 slot_at w a (inl (text_below a slot_at (omega arith) h)) ∙ st.kept a h;
          low = subst (λ y. stack_start ≤ y) (sym wr.sp_is) low;
          frames = subst (λ y. FramesStand o p r.memory at m'.memory y as') (sym wr.sp_is) (subst (λ (g : ℕ → ℕ). FramesStand o p r.memory at g s as') (sym wr.memory) frames');
          blocks = λ i b e live. block_kept i b e live is_slot wr.memory (st.blocks i b e live);
          owners = λ i b e live. ⊎_elim (λ lt. inl lt) (λ k. inr (subst (λ y. IsOwned p at y as' i (length b.bytes)) (sym wr.sp_is) (owner_kept i (length b.bytes) is_slot k))) (st.owners i b e live);
          globals = st.globals;
          sizes = st.sizes;
          more = st.more;
          regs_made = (λ q u e. ⊎_elim (λ y. subst (IsMade (length r.memory)) (sym y.1) made) (λ y. st.regs_made.0 q u y.1) (with_reg_cases r.top.regs d.0 v u q e), st.regs_made.1);
          pointers = st.pointers;
        }
