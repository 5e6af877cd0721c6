-- The instructions that load a word or a slot into a register.
use Rattle.std.proofs.Common.{◌≡◌, ◌≢◌, ℕ, ◌+◌, ◌*◌, ◌%◌, ◌<◌, ◌≤◌, refl, ap, ap₂, ◌∙◌, arith, Bool, true, false, nat_le, ◌==◌, if◌then◌else◌, [], ◌∷◌, ◌++◌, length, ℤ, pos}
use Rattle.std.proofs.lemmas.Bool.Decides.{nat_tests}
use Rattle.rv_isa.specs.declared.rv.Rv.TheVariants as rv
use Rattle.rv_isa.specs.Arithmetic.{to_word, wrapping_add}
use Rattle.rv_isa.specs.Memory.{Segments, Readable, read, stack_start, stack_end}
use Rattle.rv_isa.specs.Isa.{Machine, executed, applied, Loads, sets, x, offset}
use Rattle.rv_isa.specs.Laws.{Kept, Holds}
use Rattle.rv_isa.proofs.KeptText.{accessed_goes}
use Rattle.rv_select.specs.Parts.{zero_register, sp as sp_number, hi, lo, is_short, load_word, far_base, load_slot}
use Rattle.rv_select.proofs.Halves.{upper, hi_lo, lo_short, hi_alone, hi_base_lo, small_sum}
use Rattle.rv_select.proofs.Items.{Mid, Got, x_is, sets_runs, then_sets, ends_at}

module _ (s : Segments) (m : Machine) (kept : Kept s m) where
  word_by : (r w : ℕ) (m1 : Machine) (pc sp : ℕ) (b c : Bool) → w < 4294967296 → r ≢ 0 → r ≢ 2 → is_short w ≡ b → (w % 4096 == 0) ≡ c → Mid s m m1 pc sp
      → let code = (if b then rv.Addi r zero_register (lo w) ∷ [] else rv.Lui r (hi w) ∷ (if c then [] else rv.Addi r r (lo w) ∷ [])) in Holds s pc code → Got s m m1 (pc + 4 * length code) sp r w
  word_by r w m1 pc sp true c fits nz two eb ec mid has = sets_runs s m kept m1 pc sp w _ r two mid has.0 (ap (sets m1 r) (lo_short w fits eb))
  word_by r w m1 pc sp false true fits nz two eb ec mid has = sets_runs s m kept m1 pc sp w _ r two mid has.0 (ap (sets m1 r) (hi_alone w fits ec))
  word_by r w m1 pc sp false false fits nz two eb ec mid has =
      let g = sets_runs s m kept m1 pc sp (upper w) (rv.Lui r (hi w)) r two mid has.0 refl in
      let e : wrapping_add (x g.after.registers r) (to_word (lo w)) ≡ w = ap (λ y. wrapping_add y (to_word (lo w))) (x_is g.after.registers r nz ∙ g.value) ∙ hi_lo w fits in
      let g' = sets_runs s m kept g.after (pc + 4) sp w (rv.Addi r r (lo w)) r two g.mid has.1.0 (ap (sets g.after r) e) in
      ends_at s m kept m1 _ _ sp r w (omega arith) (then_sets s m kept m1 (pc + 4) sp r (upper w) w g (pc + 4 + 4) g')

  pub word_runs : (r w : ℕ) (m1 : Machine) (pc sp : ℕ) → w < 4294967296 → r ≢ 0 → r ≢ 2 → Mid s m m1 pc sp → Holds s pc (load_word r w) → Got s m m1 (pc + 4 * length (load_word r w)) sp r w
  unfolding load_word
  word_runs r w m1 pc sp fits nz two mid has = word_by r w m1 pc sp (is_short w) (w % 4096 == 0) fits nz two refl refl mid has

  -- a word of the stack is loaded
  pub lw_is : (m1 : Machine) (r b : ℕ) (i : ℤ) (a : ℕ) → offset (x m1.registers b) i ≡ a → stack_start ≤ a → a + 4 ≤ stack_end → a % 4 ≡ 0 → executed s m1 (rv.Lw r b i) ≡ sets m1 r (read m1.memory 4 a)
  lw_is m1 r b i a e low high aligned =
      ap (λ y. applied s m1 (Loads r y 4 (λ v. v))) e ∙ accessed_goes s m1 Readable a 4 _ (grind (arith, nat_tests)) (grind (arith, nat_tests)) aligned

  slot_by : (r o : ℕ) (m1 : Machine) (pc sp : ℕ) (b : Bool) → r ≢ 0 → r ≢ 2 → stack_start ≤ sp → sp + o + 4 ≤ stack_end → (sp + o) % 4 ≡ 0 → nat_le o 2047 ≡ b → Mid s m m1 pc sp
      → let code = (if b then rv.Lw r sp_number (pos o) ∷ [] else far_base r o ++ rv.Lw r r (lo o) ∷ []) in Holds s pc code → Got s m m1 (pc + 4 * length code) sp r (read m.memory 4 (sp + o))
  slot_by r o m1 pc sp true nz two low high aligned eb mid has =
      let e : wrapping_add (m1.registers 2) (to_word (pos o)) ≡ sp + o = ap (λ y. wrapping_add y (to_word (pos o))) mid.sp_is ∙ small_sum sp o (omega arith) in
      let l = lw_is m1 r 2 (pos o) (sp + o) e (omega arith) high aligned in
      sets_runs s m kept m1 pc sp _ _ r two mid has.0 (l ∙ ap (λ (f : ℕ → ℕ). sets m1 r (read f 4 (sp + o))) mid.memory)
  slot_by r o m1 pc sp false nz two low high aligned eb mid has =
      let u = upper o in
      let g = sets_runs s m kept m1 pc sp u (rv.Lui r (hi o)) r two mid has.0 refl in
      let e1 : wrapping_add (x g.after.registers r) (g.after.registers 2) ≡ wrapping_add u sp = ap₂ wrapping_add (x_is g.after.registers r nz ∙ g.value) g.mid.sp_is in
      let g1 = sets_runs s m kept g.after (pc + 4) sp (wrapping_add u sp) (rv.Add r r 2) r two g.mid has.1.0 (ap (sets g.after r) e1) in
      let e2 : wrapping_add (x g1.after.registers r) (to_word (lo o)) ≡ sp + o = ap (λ y. wrapping_add y (to_word (lo o))) (x_is g1.after.registers r nz ∙ g1.value) ∙ hi_base_lo o sp (omega arith) in
      let l = lw_is g1.after r r (lo o) (sp + o) e2 (omega arith) high aligned in
      let v = read m.memory 4 (sp + o) in
      let g2 = sets_runs s m kept g1.after (pc + 4 + 4) sp v (rv.Lw r r (lo o)) r two g1.mid has.1.1.0 (l ∙ ap (λ (f : ℕ → ℕ). sets g1.after r (read f 4 (sp + o))) g1.mid.memory) in
      ends_at s m kept m1 _ _ sp r _ (omega arith) (then_sets s m kept m1 (pc + 4) sp r u _ g (pc + 4 + 4 + 4) (then_sets s m kept g.after (pc + 4 + 4) sp r (wrapping_add u sp) _ g1 (pc + 4 + 4 + 4) g2))

  pub slot_runs : (r o : ℕ) (m1 : Machine) (pc sp : ℕ) → r ≢ 0 → r ≢ 2 → stack_start ≤ sp → sp + o + 4 ≤ stack_end → (sp + o) % 4 ≡ 0 → Mid s m m1 pc sp → Holds s pc (load_slot r o) → Got s m m1 (pc + 4 * length (load_slot r o)) sp r (read m.memory 4 (sp + o))
  unfolding load_slot
  slot_runs r o m1 pc sp nz two low high aligned mid has = slot_by r o m1 pc sp (nat_le o 2047) nz two low high aligned refl mid has
