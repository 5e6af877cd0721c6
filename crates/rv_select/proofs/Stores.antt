-- The instructions that store a register into a slot of the frame.
use Rattle.std.proofs.Common.{◌≡◌, ◌≢◌, ℕ, ◌+◌, ◌*◌, ◌%◌, ◌≤◌, refl, ap, ap₂, ◌∙◌, subst, arith, Bool, true, false, nat_le, if◌then◌else◌, [], ◌∷◌, ◌++◌, length, ℤ, pos}
use Rattle.std.proofs.lemmas.Bool.Decides.{nat_tests}
use Rattle.rv_isa.specs.declared.rv.Rv.TheVariants as rv
use Rattle.rv_isa.specs.Arithmetic.{to_word, wrapping_add}
use Rattle.rv_isa.specs.Memory.{Segments, Writable, write, stack_start, stack_end}
use Rattle.rv_isa.specs.Isa.{Machine, Running, executed, applied, Stores, sets, x, offset}
use Rattle.rv_isa.specs.Laws.{Kept, Stands, Holds}
use Rattle.rv_isa.proofs.KeptText.{accessed_goes}
use Rattle.rv_select.specs.Parts.{sp as sp_number, t2, hi, lo, far_base, store_slot}
use Rattle.rv_select.proofs.Halves.{upper, hi_base_lo, small_sum}
use Rattle.rv_select.proofs.Items.{Mid, x_is, sets_runs, Moves, moves_on, executes_at}

-- a word was written, and all else of the machine is as it was, but for registers other than the stack pointer
pub record Wrote (s : Segments) (m m' : Machine) (a w pc sp : ℕ) : Type 0 where
  pub pc_is : m'.pc ≡ pc
  pub running : m'.stop ≡ Running
  pub memory : m'.memory ≡ write m.memory 4 a w
  pub input : m'.input ≡ m.input
  pub output : m'.output ≡ m.output
  pub sp_is : m'.registers 2 ≡ sp

abbrev pub Stored : Segments → Machine → ℕ → ℕ → ℕ → ℕ → Type 0
Stored s m a w pc sp = (m' : Machine) × Moves s m m' × Wrote s m m' a w pc sp

module _ (s : Segments) (m : Machine) (kept : Kept s m) where
  -- one `sw` at an address that a register and a distance make
  pub word_stored : (m2 : Machine) (pc sp r b : ℕ) (i : ℤ) (a w : ℕ) → Mid s m m2 pc sp → x m2.registers r ≡ w → offset (x m2.registers b) i ≡ a → stack_start ≤ a → a + 4 ≤ stack_end → a % 4 ≡ 0 → Stands s pc (rv.Sw b r i) → Stored s m a w (pc + 4) sp
  word_stored m2 pc sp r b i a w mid value e low high aligned here =
      let m' : Machine = record m2 { pc = m2.pc + 4; memory = write m2.memory 4 a w } in
      let does : executed s m2 (rv.Sw b r i) ≡ m' = ap₂ (λ (q v : ℕ). applied s m2 (Stores q 4 v)) e value ∙ accessed_goes s m2 Writable a 4 m' (grind (arith, nat_tests)) (grind (arith, nat_tests)) aligned in (
        m',
        moves_on s m m2 m' mid.output mid.path mid.running (executes_at s m kept m2 pc sp (rv.Sw b r i) mid here ∙ does),
        record { pc_is = ap (λ n. n + 4) mid.pc_is; running = mid.running; memory = ap (λ (f : ℕ → ℕ). write f 4 a w) mid.memory; input = mid.input; output = mid.output; sp_is = mid.sp_is },
      )

  stored_by : (m1 : Machine) (pc sp r o w : ℕ) (c : Bool) → r ≢ 0 → r ≢ 7 → Mid s m m1 pc sp → m1.registers r ≡ w → stack_start ≤ sp → sp + o + 4 ≤ stack_end → (sp + o) % 4 ≡ 0 → nat_le o 2047 ≡ c
      → let code = (if c then rv.Sw sp_number r (pos o) ∷ [] else far_base t2 o ++ rv.Sw t2 r (lo o) ∷ []) in Holds s pc code → Stored s m (sp + o) w (pc + 4 * length code) sp
  stored_by m1 pc sp r o w true nz n7 mid value low high aligned ec has =
      word_stored m1 pc sp r 2 (pos o) (sp + o) w mid (x_is m1.registers r nz ∙ value) (ap (λ y. wrapping_add y (to_word (pos o))) mid.sp_is ∙ small_sum sp o (omega arith)) (omega arith) high aligned has.0
  stored_by m1 pc sp r o w false nz n7 mid value low high aligned ec has =
      let u = upper o in
      let g = sets_runs s m kept m1 pc sp u (rv.Lui 7 (hi o)) 7 (λ z. absurd (omega arith)) mid has.0 refl in
      let e1 : wrapping_add (g.after.registers 7) (g.after.registers 2) ≡ wrapping_add u sp = ap₂ wrapping_add g.value g.mid.sp_is in
      let g1 = sets_runs s m kept g.after (pc + 4) sp (wrapping_add u sp) (rv.Add 7 7 2) 7 (λ z. absurd (omega arith)) g.mid has.1.0 (ap (sets g.after 7) e1) in
      let e2 : wrapping_add (g1.after.registers 7) (to_word (lo o)) ≡ sp + o = ap (λ y. wrapping_add y (to_word (lo o))) g1.value ∙ hi_base_lo o sp (omega arith) in
      let same : x g1.after.registers r ≡ w = x_is g1.after.registers r nz ∙ g1.others r n7 ∙ g.others r n7 ∙ value in
      let q : pc + 4 + 4 + 4 ≡ pc + 12 = omega arith in
      subst (λ n. Stored s m (sp + o) w n sp) q (word_stored g1.after (pc + 4 + 4) sp r 7 (lo o) (sp + o) w g1.mid same e2 (omega arith) high aligned has.1.1.0)

  pub store_runs : (m1 : Machine) (pc sp r o w : ℕ) → r ≢ 0 → r ≢ 7 → Mid s m m1 pc sp → m1.registers r ≡ w → stack_start ≤ sp → sp + o + 4 ≤ stack_end → (sp + o) % 4 ≡ 0 → Holds s pc (store_slot r o) → Stored s m (sp + o) w (pc + 4 * length (store_slot r o)) sp
  unfolding store_slot
  store_runs m1 pc sp r o w nz n7 mid value low high aligned has = stored_by m1 pc sp r o w (nat_le o 2047) nz n7 mid value low high aligned refl has
