-- The return from the first `main`: through the stub to the exit with its result.
use Rattle.std.proofs.Common.{◌≡◌, ℕ, ◌+◌, ◌*◌, ◌/◌, ◌%◌, refl, sym, ap, ap₂, ◌∙◌, subst, arith, List, [], ◌∷◌, ◌++◌, length, Some, pos}
use Rattle.ir_core.specs.declared.flat.FlatOp.{FlatOp}
use Rattle.ir_core.specs.declared.flat.FlatEnd.{FlatEnd}
use Rattle.ir_core.specs.declared.flat.FlatEnd.TheVariants.{Ret}
use Rattle.ir_core.specs.declared.flat.FlatBlock.{FlatBlock}
use Rattle.ir_core.specs.declared.flat.FlatBody.{FlatBody}
use Rattle.ir_core.specs.Memory.{Bits}
use Rattle.ir_core.specs.Flat.{Program, Run, value_of}
use Rattle.ir_core.specs.Formed.{IsBlock}
use Rattle.ir_core.specs.WellFormed.{IsWellFormed}
use Rattle.frame_layout.specs.Frame.{frame, frame_of}
use Rattle.frame_layout.proofs.HomeLaws.{lie_apart}
use Rattle.rv_isa.specs.declared.rv.Rv.TheVariants as rv
use Rattle.rv_isa.specs.Arithmetic.{to_word, wrapping_add}
use Rattle.rv_isa.specs.Memory.{Segments, read, text_start}
use Rattle.rv_isa.specs.Isa.{Machine, Exit, executed, stopped, called, sets, offset, with_register}
use Rattle.rv_isa.specs.Laws.{Kept, Holds}
use Rattle.rv_isa.proofs.Stretches.{one_turn, join}
use Rattle.rv_select.specs.declared.item.Draft.{Draft}
use Rattle.rv_select.specs.Parts.{a0, frame_up, epilogue}
use Rattle.rv_select.specs.Pending.{words}
use Rattle.rv_select.specs.Lowered.{before_end, end_code}
use Rattle.rv_select.specs.Stands.{Object, body_in, ReturnsTo, goes_on, StandsFor, IsLaid}
use Rattle.rv_select.specs.Sums.{IsPlain}
use Rattle.rv_select.proofs.Items.{Mid, begin, sets_runs, executes_at, Moves, moves_on, with_other, holds_front, holds_back}
use Rattle.rv_select.proofs.Loads.{lw_is}
use Rattle.rv_select.proofs.FrameMoves.{up_runs}
use Rattle.rv_select.proofs.Operands.{plain_code, plain_words, brings, formed}
use Rattle.rv_select.proofs.Homes.{bytes_same}
use Rattle.rv_select.proofs.Instructions.{words_join}
use Rattle.rv_select.proofs.Placing.{end_stands}
use Rattle.rv_select.proofs.Shape.{stack_shape}

-- where the machine is back in the stub, with a word in a0, it exits with the word
module _ (s : Segments) (m : Machine) (kept : Kept s m) where
  pub exits : (m1 : Machine) (pc sp n : ℕ) → Mid s m m1 pc sp → m1.registers 10 ≡ n → Holds s pc (rv.Addi 17 0 (pos 3) ∷ rv.Ecall ∷ []) → (m' : Machine) × Moves s m m' × (m'.stop ≡ Exit n) × (m'.output ≡ m.output)
  exits m1 pc sp n mid value has =
      let g = sets_runs s m kept m1 pc sp 3 (rv.Addi 17 0 (pos 3)) 17 (λ e. absurd (omega arith)) mid has.0 refl in
      let m2 = g.after in
      let ten : m2.registers 10 ≡ n = g.others 10 (λ e. absurd (omega arith)) ∙ value in
      let does : executed s m2 rv.Ecall ≡ stopped m2 (Exit n) = ap₂ (called m2) g.value ten in
      (stopped m2 (Exit n), moves_on s m m2 (stopped m2 (Exit n)) g.mid.output g.mid.path g.mid.running (executes_at s m kept m2 (pc + 4) sp rv.Ecall g.mid has.1.0 ∙ does), refl, g.mid.output)

module _ (o : Object) (p : Program) (laid : IsLaid o p) (at : ℕ → ℕ) (r : Run) (m : Machine) (st : StandsFor o p at r m) (first : r.below ≡ []) where
  abbrev s : Segments
  s = o.segments

  abbrev here : FlatBody
  here = body_in p r.top.func

  back_to_stub : read m.memory 4 (m.registers 2) ≡ text_start + 8
  back_to_stub = subst (λ as'. ReturnsTo o p r.top.waiting as' (read m.memory 4 (m.registers 2))) first st.frames.0.return_address

  -- the row of a return of a word from the first activation
  ret_runs : (a : FlatOp) (n pc : ℕ) → m.pc ≡ pc → (plain : IsPlain here a) → value_of r.top.regs a ≡ Some (Bits n) → Holds s pc (plain_code here a plain 10 ++ epilogue (frame here)) → (m' : Machine) × Moves s m m' × (m'.stop ≡ Exit n) × (m'.output ≡ m.output)
  ret_runs a n pc at_pc plain ea has =
      let sp = m.registers 2 in
      let la = plain_code here a plain 10 in
      let up = frame_up (frame here) in
      let lw = rv.Lw 1 2 (pos 0) in
      let jalr = rv.Jalr 0 1 (pos 0) in
      let shape = stack_shape o p laid r.memory at m.memory sp (r.top ∷ r.below) st.frames in
      let above = stack_shape o p laid r.memory at m.memory (sp + frame here) r.below st.frames.1 in
      let apart = lie_apart here (formed o p laid at r m st) in
      let return_address = apart.within.0 in
      let inside = apart.within.1 in
      let small = (laid.codes r.top.func here st.frames.0.body).small in
      let low = st.low in
      let pc1 = pc + 4 * length la in
      let b = brings o p laid at r m st 10 a (Bits n) m pc (λ e. absurd (omega arith)) (λ e. absurd (omega arith)) plain ea (begin s m pc sp st.running at_pc refl) (holds_front s pc la (epilogue (frame here)) has) in
      let h1 : Holds s pc1 (lw ∷ (up ++ jalr ∷ [])) = holds_back s pc la (epilogue (frame here)) has in
      let place : wrapping_add (b.got.after.registers 2) (to_word (pos 0)) ≡ sp = ap (λ y. wrapping_add y 0) b.got.mid.sp_is ∙ (let z : (sp + 0) % 4294967296 ≡ sp = omega arith in z) in
      let loads = lw_is s m st.kept b.got.after 1 2 (pos 0) sp place low (omega arith) (omega arith) ∙ ap (λ (f : ℕ → ℕ). sets b.got.after 1 (read f 4 sp)) b.got.mid.memory ∙ ap (sets b.got.after 1) back_to_stub in
      let g = sets_runs s m st.kept b.got.after pc1 sp (text_start + 8) lw 1 (λ e. absurd (omega arith)) b.got.mid h1.0 loads in
      let u = up_runs s m st.kept g.after (pc1 + 4) sp (frame here) small (omega arith) g.mid (holds_front s (pc1 + 4) up (jalr ∷ []) h1.1) in
      let pc2 = pc1 + 4 + 4 * length up in
      let h2 = holds_back s (pc1 + 4) up (jalr ∷ []) h1.1 in
      let back : u.after.registers 1 ≡ text_start + 8 = u.others 1 (λ e. absurd (omega arith)) (λ e. absurd (omega arith)) ∙ g.value in
      let target : offset (u.after.registers 1) (pos 0) / 2 * 2 ≡ text_start + 8 = ap (λ (y : ℕ). wrapping_add y 0 / 2 * 2) back in
      let m3 : Machine = record u.after { pc = text_start + 8; registers = with_register u.after.registers 0 (u.after.pc + 4) } in
      let does : executed s u.after jalr ≡ m3 = ap (λ (y : ℕ). let z = u.after in record z { pc = y; registers = with_register z.registers 0 (z.pc + 4) }) target in
      let mid3 : Mid s m m3 (text_start + 8) (sp + frame here) = record {
        path = join s m u.after m3 u.mid.output u.mid.path (one_turn s u.after m3 u.mid.running (executes_at s m st.kept u.after pc2 (sp + frame here) jalr u.mid h2.0 ∙ does));
        pc_is = refl;
        running = u.mid.running;
        memory = u.mid.memory;
        input = u.mid.input;
        output = u.mid.output;
        sp_is = with_other u.after.registers 0 (u.after.pc + 4) 2 (λ e. absurd (omega arith)) ∙ u.mid.sp_is;
      } in
      let ten : m3.registers 10 ≡ n = with_other u.after.registers 0 (u.after.pc + 4) 10 (λ e. absurd (omega arith)) ∙ u.others 10 (λ e. absurd (omega arith)) (λ e. absurd (omega arith)) ∙ g.others 10 (λ e. absurd (omega arith)) ∙ b.got.value ∙ b.is in
      exits s m st.kept m3 (text_start + 8) (sp + frame here) n mid3 ten laid.start.1.1

  -- what stands at the end of a block that returns a plain operand
  return_words : (f : FlatBody) → IsWellFormed f → (n : ℕ) (a : FlatOp) (plain : IsPlain f a) → before_end (frame_of f) f.blocks n (Ret (Some a)) ++ end_code (frame_of f) n (Ret (Some a)) ≡ words (plain_code f a plain 10 ++ epilogue (frame f))
  return_words f w n a plain =
      ap (λ (z : List Draft). z ++ words (epilogue (frame_of f).bytes)) (plain_words f w a plain a0)
      ∙ ap (λ (k : ℕ). words (plain_code f a plain a0) ++ words (epilogue k)) (bytes_same f)
      ∙ sym (words_join (plain_code f a plain a0) (epilogue (frame f)))

  pub ret_row : (block : FlatBlock) → IsBlock here r.top.block block → r.top.place ≡ length block.code → (a : FlatOp) (n : ℕ) → block.end ≡ Ret (Some a) → IsPlain here a → value_of r.top.regs a ≡ Some (Bits n) → (m' : Machine) × Moves s m m' × (m'.stop ≡ Exit n) × (m'.output ≡ m.output)
  ret_row block in_body at_end a n is plain ea =
      let cs = plain_code here a plain 10 ++ epilogue (frame here) in
      let drafts_are : before_end (frame_of here) here.blocks r.top.block block.end ++ end_code (frame_of here) r.top.block block.end ≡ words cs =
      ap (λ (e : FlatEnd). before_end (frame_of here) here.blocks r.top.block e ++ end_code (frame_of here) r.top.block e) is ∙ return_words here (formed o p laid at r m st) r.top.block a plain in
      ret_runs a n (goes_on o p r.top) st.pc plain ea (end_stands o p laid r.top st.frames.0.body block in_body cs at_end drafts_are)
