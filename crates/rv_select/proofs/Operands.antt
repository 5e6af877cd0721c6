-- The instructions that bring an operand into a register.
use Rattle.std.proofs.Common.{◌≡◌, ◌≢◌, ℕ, ◌+◌, ◌*◌, ◌%◌, ◌<◌, ◌≤◌, refl, ap₂, ◌∙◌, subst, arith, List, ◌∷◌, length, Option, Some}
use Rattle.ir_core.specs.declared.flat.FlatOp.{FlatOp}
use Rattle.ir_core.specs.declared.flat.FlatOp.TheVariants.{Reg, Word, Null, Address, Poison}
use Rattle.ir_core.specs.declared.flat.FlatBody.{FlatBody}
use Rattle.ir_core.specs.Memory.{Value, Bits, NullPointer, Poisoned, Memory}
use Rattle.ir_core.specs.Flat.{Program, Run, value_of}
use Rattle.ir_core.specs.WellFormed.{IsWellFormed}
use Rattle.frame_layout.specs.Frame.{frame_of, slot}
use Rattle.frame_layout.proofs.HomeLaws.{lie_apart}
use Rattle.rv_isa.specs.declared.rv.Rv.{Rv}
use Rattle.rv_isa.specs.Memory.{Segments, read, stack_end}
use Rattle.rv_isa.specs.Isa.{Machine}
use Rattle.rv_isa.specs.Laws.{Holds}
use Rattle.rv_select.specs.Parts.{load_word, load_slot}
use Rattle.rv_select.specs.Pending.{words}
use Rattle.rv_select.specs.Lowered.{load, load_register}
use Rattle.rv_select.specs.Stands.{Object, body_in, frame_in, IsWordOf, StandsFor, IsLaid}
use Rattle.rv_select.specs.Sums.{IsPlain}
use Rattle.rv_select.proofs.Items.{Mid, Got}
use Rattle.rv_select.proofs.Homes.{slot_same, place_same, no_place}
use Rattle.rv_select.proofs.Loads.{word_runs, slot_runs}
use Rattle.rv_select.proofs.Shape.{stack_shape}

-- an operand as its code leaves it: the register has a word that stands for the value
pub record Brought (s : Segments) (m m1 : Machine) (mem : Memory) (at : ℕ → ℕ) (pc sp r : ℕ) (v : Value) : Type 0 where
  pub word : ℕ
  pub got : Got s m m1 pc sp r word
  pub is : IsWordOf mem at v word

-- the instructions that bring a plain operand into a register
abbrev pub plain_code : (b : FlatBody) (a : FlatOp) → IsPlain b a → ℕ → List Rv
plain_code b (Reg q) h t = load_slot t h.0
plain_code b (Word w) h t = load_word t w
plain_code b Null h t = load_word t 0
plain_code b Poison h t = load_word t 0
plain_code b (Address g k) h t = absurd h

pub plain_words : (b : FlatBody) → IsWellFormed b → (a : FlatOp) (h : IsPlain b a) (t : ℕ) → load (frame_of b) t a ≡ words (plain_code b a h t)
plain_words b w (Reg q) h t = ap₂ (λ (x y : Option ℕ). load_register t x y) (place_same b w q.0 ∙ no_place b w q.0 h.0 h.1) (slot_same b w q.0 ∙ h.1)
plain_words b w (Word a) h t = refl
plain_words b w Null h t = refl
plain_words b w Poison h t = refl
plain_words b w (Address g k) h t = absurd h

module _ (o : Object) (p : Program) (laid : IsLaid o p) (at : ℕ → ℕ) (r : Run) (m : Machine) (st : StandsFor o p at r m) where
  abbrev here : FlatBody
  here = body_in p r.top.func

  abbrev pub formed : IsWellFormed here
  formed = (laid.codes r.top.func here st.frames.0.body).formed

  -- where a slot of the frame is
  pub record SlotAt (q : ℕ) : Type 0 where
    pub high : m.registers 2 + q + 4 ≤ stack_end
    pub aligned : (m.registers 2 + q) % 4 ≡ 0

  pub slot_at : (r' q : ℕ) → slot here r' ≡ Some q → SlotAt q
  slot_at r' q e =
      let apart = lie_apart here formed in
      let h = apart.slots r' q e in
      let low = h.0 in
      let whole = h.1 in
      let below = h.2 in
      let i = apart.within.1 in
      let shape = stack_shape o p laid r.memory at m.memory (m.registers 2) (r.top ∷ r.below) st.frames in
      let above = stack_shape o p laid r.memory at m.memory (m.registers 2 + frame_in p r.top.func) r.below st.frames.1 in
      record { high = omega arith; aligned = omega arith }

  -- a register that has a slot
  from_slot : (t r' q : ℕ) (v : Value) (m1 : Machine) (pc : ℕ) → t ≢ 0 → t ≢ 2 → slot here r' ≡ Some q → r.top.regs r' ≡ Some v → Mid o.segments m m1 pc (m.registers 2) → Holds o.segments pc (load_slot t q) → Brought o.segments m m1 r.memory at (pc + 4 * length (load_slot t q)) (m.registers 2) t v
  from_slot t r' q v m1 pc nz two is_slot e mid has =
      let w = slot_at r' q is_slot in
      record {
        word = read m.memory 4 (m.registers 2 + q);
        got = slot_runs o.segments m st.kept t q m1 pc (m.registers 2) nz two st.low w.high w.aligned mid has;
        is = st.frames.0.regs.slots r' q v is_slot e;
      }

  -- a word, null or poison
  from_word : (t w : ℕ) (v : Value) (m1 : Machine) (pc : ℕ) → t ≢ 0 → t ≢ 2 → w < 4294967296 → IsWordOf r.memory at v w → Mid o.segments m m1 pc (m.registers 2) → Holds o.segments pc (load_word t w) → Brought o.segments m m1 r.memory at (pc + 4 * length (load_word t w)) (m.registers 2) t v
  from_word t w v m1 pc nz two fits is mid has = record { word = w; got = word_runs o.segments m st.kept t w m1 pc (m.registers 2) fits nz two mid has; is = is }

  same_value : (v u : Value) → Some v ≡ Some u → v ≡ u
  same_value v u e = cc

  pub brings : (t : ℕ) (a : FlatOp) (v : Value) (m1 : Machine) (pc : ℕ) → t ≢ 0 → t ≢ 2 → (plain : IsPlain here a) → value_of r.top.regs a ≡ Some v → Mid o.segments m m1 pc (m.registers 2) → Holds o.segments pc (plain_code here a plain t) → Brought o.segments m m1 r.memory at (pc + 4 * length (plain_code here a plain t)) (m.registers 2) t v
  brings t (Reg q) v m1 pc nz two plain e mid has = from_slot t q.0 plain.0 v m1 pc nz two plain.1 e mid has
  brings t (Word w) v m1 pc nz two plain e mid has = from_word t w v m1 pc nz two plain (subst (λ y. IsWordOf r.memory at y w) (same_value (Bits w) v e) refl) mid has
  brings t Null v m1 pc nz two plain e mid has = from_word t 0 v m1 pc nz two (omega arith) (subst (λ y. IsWordOf r.memory at y 0) (same_value NullPointer v e) refl) mid has
  brings t Poison v m1 pc nz two plain e mid has = from_word t 0 v m1 pc nz two (omega arith) (subst (λ y. IsWordOf r.memory at y 0) (same_value Poisoned v e) tt) mid has
  brings t (Address g k) v m1 pc nz two plain e mid has = absurd plain
