-- The entry of a function: the frame is taken and the return address kept, or the stack ends.
use Rattle.frame_layout.specs.declared.laying.TheConstants.{LARGEST_FRAME}
use Rattle.std.proofs.Common.{◌≡◌, ℕ, ◌+◌, ◌-◌, ◌*◌, ◌%◌, ◌<◌, ◌≤◌, refl, ap, ◌∙◌, subst, arith, [], ◌∷◌, length, length-append, pos}
use Rattle.std.proofs.lemmas.Bool.Decides.{nat_tests}
use Rattle.rv_isa.specs.declared.rv.Rv.TheVariants as rv
use Rattle.rv_isa.specs.Arithmetic.{to_word, wrapping_add}
use Rattle.rv_isa.specs.Memory.{Segments, guard_start, stack_start, stack_end}
use Rattle.rv_isa.specs.Isa.{Machine, Running, Stack, executed, applied, Stores, stopped}
use Rattle.rv_isa.specs.Laws.{Kept, Holds}
use Rattle.rv_select.specs.Parts.{frame_down, open_frame}
use Rattle.rv_select.proofs.Items.{begin, executes_at, Moves, moves_on, holds_front, holds_back}
use Rattle.rv_select.proofs.FrameMoves.{down_runs}
use Rattle.rv_select.proofs.Stores.{Stored, word_stored}

module _ (s : Segments) (m : Machine) (kept : Kept s m) where
  -- the frame fits: the return address is at its place 0
  pub opened : (pc sp f back : ℕ) → m.stop ≡ Running → m.pc ≡ pc → m.registers 2 ≡ sp → m.registers 1 ≡ back → f ≤ LARGEST_FRAME → sp ≤ stack_end → sp % 16 ≡ 0 → f % 16 ≡ 0 → 4 ≤ f → stack_start + f ≤ sp → Holds s pc (open_frame f) → Stored s m (sp - f) back (pc + 4 * length (open_frame f)) (sp - f)
  opened pc sp f back running at_pc at_sp at_ra small high whole even some room has =
      let d = frame_down f in
      let i = rv.Sw 2 1 (pos 0) in
      let g = down_runs s m kept m pc sp f small (omega arith) (omega arith) (begin s m pc sp running at_pc at_sp) (holds_front s pc d (i ∷ []) has) in
      let same : g.after.registers 1 ≡ back = g.others 1 (λ e. absurd (omega arith)) (λ e. absurd (omega arith)) ∙ at_ra in
      let place : wrapping_add (g.after.registers 2) (to_word (pos 0)) ≡ sp - f = ap (λ y. wrapping_add y 0) g.mid.sp_is ∙ (let z : (sp - f + 0) % 4294967296 ≡ sp - f = omega arith in z) in
      let pc1 = pc + 4 * length d in
      let end : pc1 + 4 ≡ pc + 4 * length (open_frame f) = omega (arith, length-append d (i ∷ [])) in
      subst (λ n. Stored s m (sp - f) back n (sp - f)) end (word_stored s m kept g.after pc1 (sp - f) 1 2 (pos 0) (sp - f) back g.mid same place (omega arith) (omega arith) (omega arith) (holds_back s pc d (i ∷ []) has).0)

  -- it doesn't: the machine stops in the guard, for want of stack
  pub unopened : (pc sp f : ℕ) → m.stop ≡ Running → m.pc ≡ pc → m.registers 2 ≡ sp → f ≤ LARGEST_FRAME → stack_start ≤ sp → sp ≤ stack_end → sp < stack_start + f → Holds s pc (open_frame f) → (m' : Machine) × Moves s m m' × (m'.stop ≡ Stack (sp - f)) × (m'.output ≡ m.output)
  unopened pc sp f running at_pc at_sp small low high no_room has =
      let d = frame_down f in
      let i = rv.Sw 2 1 (pos 0) in
      let g = down_runs s m kept m pc sp f small (omega arith) (omega arith) (begin s m pc sp running at_pc at_sp) (holds_front s pc d (i ∷ []) has) in
      let place : wrapping_add (g.after.registers 2) (to_word (pos 0)) ≡ sp - f = ap (λ y. wrapping_add y 0) g.mid.sp_is ∙ (let z : (sp - f + 0) % 4294967296 ≡ sp - f = omega arith in z) in
      let pc1 = pc + 4 * length d in
      let does : executed s g.after i ≡ stopped g.after (Stack (sp - f)) = ap (λ (q : ℕ). applied s g.after (Stores q 4 (g.after.registers 1))) place ∙ touching g.after (sp - f) (omega arith) (omega arith) in
      (stopped g.after (Stack (sp - f)), moves_on s m g.after (stopped g.after (Stack (sp - f))) g.mid.output g.mid.path g.mid.running (executes_at s m kept g.after pc1 (sp - f) i g.mid (holds_back s pc d (i ∷ []) has).0 ∙ does), refl, g.mid.output)
    where
      touching : (z : Machine) (q : ℕ) → q < stack_start → guard_start ≤ q → applied s z (Stores q 4 (z.registers 1)) ≡ stopped z (Stack q)
      touching z q low high = grind (arith, nat_tests)
