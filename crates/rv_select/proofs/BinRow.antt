-- The rows of sums and differences: their code leads to a state that stands for the next state of the run.
use Rattle.std.proofs.Common.{◌≡◌, ℕ, ◌+◌, ◌*◌, ◌%◌, refl, sym, ap, ap₂, ◌∙◌, arith, List, [], ◌∷◌, ◌++◌, length, length-append, append_assoc, Some}
use Rattle.oi_base.specs.declared.words.Width.{Width}
use Rattle.oi_base.specs.declared.ids.RegId.{RegId}
use Rattle.ir_core.specs.declared.flat.BinOp.{BinOp}
use Rattle.ir_core.specs.declared.flat.FlatOp.{FlatOp}
use Rattle.ir_core.specs.declared.flat.FlatInstr.TheVariants.{Bin}
use Rattle.ir_core.specs.declared.flat.FlatBody.{FlatBody}
use Rattle.ir_core.specs.Memory.{Value}
use Rattle.ir_core.specs.Flat.{Program, Run, with_value, value_of}
use Rattle.ir_core.specs.WellFormed.{IsWellFormed}
use Rattle.frame_layout.specs.Frame.{frame_of}
use Rattle.rv_isa.specs.declared.rv.Rv.{Rv}
use Rattle.rv_isa.specs.Isa.{Machine, executed, sets}
use Rattle.rv_select.specs.declared.item.Draft.{Draft}
use Rattle.rv_select.specs.Parts.{t0, t1, store_slot, zero_extend, signs, machine_op, cuts}
use Rattle.rv_select.specs.Pending.{words}
use Rattle.rv_select.specs.Lowered.{store, store_to, instr}
use Rattle.rv_select.specs.Stands.{Object, body_in, IsWordOf, IsMade, goes_on, StandsFor, IsLaid}
use Rattle.rv_select.specs.Sums.{IsPlain, HasSlot}
use Rattle.rv_select.proofs.Items.{begin, sets_runs, Moves, holds_front, holds_back}
use Rattle.rv_select.proofs.Cuts.{cut, zero_runs}
use Rattle.rv_select.proofs.Homes.{slot_same}
use Rattle.rv_select.proofs.Instructions.{words_join}
use Rattle.rv_select.proofs.Placing.{IsAt}
use Rattle.rv_select.proofs.Stores.{store_runs}
use Rattle.rv_select.proofs.Slots.{slot_written}
use Rattle.rv_select.proofs.Operands.{plain_code, plain_words, brings, slot_at}

-- the instructions of an operation on plain operands, one part after another
abbrev pub bin_code : (b : FlatBody) (x y : FlatOp) → IsPlain b x → IsPlain b y → BinOp → Width → ℕ → List Rv
bin_code b x y px py op w slot = plain_code b x px t0 ++ plain_code b y py t1 ++ signs op w ++ machine_op op ∷ [] ++ cuts op w ++ store_slot t0 slot

pub bin_words : (b : FlatBody) → IsWellFormed b → (d : RegId) (op : BinOp) (w : Width) (x y : FlatOp) (px : IsPlain b x) (py : IsPlain b y) (h : HasSlot b d.0) → instr (frame_of b) (Bin d op w x y) ≡ words (bin_code b x y px py op w h.0)
bin_words b wf d op w x y px py h =
    let cx = plain_code b x px t0 in
    let cy = plain_code b y py t1 in
    let st = store_slot t0 h.0 in
    let stored : store (frame_of b) t0 d ≡ words st = ap (store_to t0) (slot_same b wf d.0 ∙ h.1) in
    ap₂ (λ (a c : List Draft). a ++ c ++ words (signs op w) ++ words (machine_op op ∷ []) ++ words (cuts op w) ++ store (frame_of b) t0 d) (plain_words b wf x px t0) (plain_words b wf y py t1)
    ∙ ap (λ (z : List Draft). words cx ++ words cy ++ words (signs op w) ++ words (machine_op op ∷ []) ++ words (cuts op w) ++ z) stored
    ∙ sym (
    words_join (cx ++ cy ++ signs op w ++ machine_op op ∷ [] ++ cuts op w) st
    ∙ ap (λ z. z ++ words st) (words_join (cx ++ cy ++ signs op w ++ machine_op op ∷ []) (cuts op w)
    ∙ ap (λ z. z ++ words (cuts op w)) (words_join (cx ++ cy ++ signs op w) (machine_op op ∷ [])
    ∙ ap (λ z. z ++ words (machine_op op ∷ [])) (words_join (cx ++ cy) (signs op w)
    ∙ ap (λ z. z ++ words (signs op w)) (words_join cx cy)))))

-- the code of an operation, one part after another
pub nested : (a b : List Rv) (i : Rv) (c d : List Rv) → a ++ b ++ [] ++ i ∷ [] ++ c ++ d ≡ a ++ (b ++ (i ∷ (c ++ d)))
nested a b i c d =
    let e1 : a ++ b ++ [] ++ i ∷ [] ≡ a ++ (b ++ (i ∷ [])) = append_assoc (a ++ b) [] (i ∷ []) ∙ append_assoc a b (i ∷ []) in
    ap (λ l. l ++ c ++ d) e1
    ∙ append_assoc (a ++ (b ++ (i ∷ []))) c d
    ∙ append_assoc a (b ++ (i ∷ [])) (c ++ d)
    ∙ ap (λ l. a ++ l) (append_assoc b (i ∷ []) (c ++ d))

module _ (o : Object) (p : Program) (laid : IsLaid o p) (at : ℕ → ℕ) (r : Run) (m : Machine) (st : StandsFor o p at r m) where
  abbrev here : FlatBody
  here = body_in p r.top.func

  -- what a row leads to
  abbrev pub Row : Run → Type 0
  Row next = (m' : Machine) × Moves o.segments m m' × StandsFor o p at next m'

  -- the row of an operation whose code is one instruction and the extension by zeros
  pub cut_row : (w : Width) (g : ℕ → ℕ → ℕ) (i : Rv) (d : RegId) (a b : FlatOp) (u v y : Value) (pa : IsPlain here a) (pb : IsPlain here b) (sd : HasSlot here d.0) → value_of r.top.regs a ≡ Some u → value_of r.top.regs b ≡ Some v
      → ((z : Machine) → executed o.segments z i ≡ sets z 5 (g (z.registers 5) (z.registers 6)))
      → ((j k : ℕ) → IsWordOf r.memory at u j → IsWordOf r.memory at v k → IsWordOf r.memory at y (cut w (g j k) % 4294967296)) → IsMade (length r.memory) y
      → IsAt o.segments m.pc (goes_on o p (record r.top { place = r.top.place + 1 })) (plain_code here a pa t0 ++ (plain_code here b pb t1 ++ (i ∷ (zero_extend w 5 ++ store_slot t0 sd.0)))) → Row (with_value r d y)
  cut_row w g i d a b u v y pa pb sd ea eb does is made stands =
      let s = o.segments in
      let pc = m.pc in
      let sp = m.registers 2 in
      let la = plain_code here a pa 5 in
      let lb = plain_code here b pb 6 in
      let z = zero_extend w 5 in
      let c = store_slot 5 sd.0 in
      let has = stands.0 in
      let next = stands.1 in
      let pc1 = pc + 4 * length la in
      let pc2 = pc1 + 4 * length lb in
      let pc3 = pc2 + 4 + 4 * length z in
      let h1 = holds_back s pc la (lb ++ (i ∷ (z ++ c))) has in
      let h2 = holds_back s pc1 lb (i ∷ (z ++ c)) h1 in
      let h3 = holds_back s (pc2 + 4) z c h2.1 in
      let b0 = brings o p laid at r m st 5 a u m pc (λ e. absurd (omega arith)) (λ e. absurd (omega arith)) pa ea (begin s m pc sp st.running refl refl) (holds_front s pc la _ has) in
      let b1 = brings o p laid at r m st 6 b v b0.got.after pc1 (λ e. absurd (omega arith)) (λ e. absurd (omega arith)) pb eb b0.got.mid (holds_front s _ lb _ h1) in
      let five : b1.got.after.registers 5 ≡ b0.word = b1.got.others 5 (λ e. absurd (omega arith)) ∙ b0.got.value in
      let g2 = sets_runs s m st.kept b1.got.after pc2 sp (g b0.word b1.word) i 5 (λ e. absurd (omega arith)) b1.got.mid h2.0 (does b1.got.after ∙ ap₂ (λ j k. sets b1.got.after 5 (g j k)) five b1.got.value) in
      let g3 = zero_runs s m st.kept w g2.after (pc2 + 4) sp g2.mid (holds_front s _ z c h2.1) in
      let q = slot_at o p laid at r m st d.0 sd.0 sd.1 in
      let value : g3.after.registers 5 ≡ cut w (g b0.word b1.word) = g3.value ∙ ap (cut w) g2.value in
      let k = store_runs s m st.kept g3.after pc3 sp 5 sd.0 (cut w (g b0.word b1.word)) (λ e. absurd (omega arith)) (λ e. absurd (omega arith)) g3.mid value st.low q.high q.aligned h3 in
      let end : pc3 + 4 * length c ≡ goes_on o p (record r.top { place = r.top.place + 1 }) = omega (arith, next, length-append la (lb ++ (i ∷ (z ++ c))), length-append lb (i ∷ (z ++ c)), length-append z c) in
      let wr = k.2 in (
        k.0,
        k.1,
        slot_written o p laid at r m k.0 d y sd.0 (cut w (g b0.word b1.word)) st sd.1 (is b0.word b1.word b0.is b1.is) made
            (record { pc_is = wr.pc_is ∙ end; running = wr.running; memory = wr.memory; input = wr.input; output = wr.output; sp_is = wr.sp_is }),
      )
