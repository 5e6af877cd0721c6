-- The instructions that move the stack pointer by a frame.
use Rattle.frame_layout.specs.declared.laying.TheConstants.{LARGEST_FRAME}
use Rattle.std.proofs.Common.{◌≡◌, ◌≢◌, ℕ, zero, suc, ◌+◌, ◌-◌, ◌*◌, ◌%◌, ◌<◌, ◌≤◌, refl, ap, ap₂, ◌∙◌, subst, arith, Bool, true, false, nat_le, if◌then◌else◌, [], ◌∷◌, ◌++◌, length, pos, neg_ℤ}
use Rattle.std.proofs.lemmas.Bool.Decides.{nat_tests}
use Rattle.rv_isa.specs.declared.rv.Rv.TheVariants as rv
use Rattle.rv_isa.specs.Arithmetic.{to_word, wrapping_add, wrapping_sub}
use Rattle.rv_isa.specs.Memory.{Segments}
use Rattle.rv_isa.specs.Isa.{Machine, sets}
use Rattle.rv_isa.specs.Laws.{Kept, Holds}
use Rattle.rv_select.specs.Parts.{hi, lo, large_frame, frame_down, frame_up}
use Rattle.rv_select.proofs.Halves.{upper, hi_lo, small_sum}
use Rattle.rv_select.proofs.Items.{Mid, Got, sets_runs, sets_sp}

-- the stack pointer and t0 have other values, the other registers those that they had
pub record Moved (s : Segments) (m m1 : Machine) (pc sp : ℕ) : Type 0 where
  pub after : Machine
  pub mid : Mid s m after pc sp
  pub others : (q : ℕ) → q ≢ 2 → q ≢ 5 → after.registers q ≡ m1.registers q

pub down_short : (sp f : ℕ) → f ≤ sp → sp < 4294967296 → f ≤ 2032 → wrapping_add sp (to_word (neg_ℤ (pos f))) ≡ sp - f
down_short sp zero h k l = omega arith
down_short sp (suc f) h k l = omega arith

pub down_far : (sp f : ℕ) → f ≤ sp → sp < 4294967296 → wrapping_sub sp f ≡ sp - f
down_far sp f h k = omega arith

module _ (s : Segments) (m : Machine) (kept : Kept s m) where
  -- the size of a large frame in t0
  size_runs : (m1 : Machine) (pc sp f : ℕ) → f < 4294967296 → Mid s m m1 pc sp → Holds s pc (large_frame f) → Got s m m1 (pc + 8) sp 5 f
  size_runs m1 pc sp f fits mid has =
      let g = sets_runs s m kept m1 pc sp (upper f) (rv.Lui 5 (hi f)) 5 (λ z. absurd (omega arith)) mid has.0 refl in
      let e : wrapping_add (g.after.registers 5) (to_word (lo f)) ≡ f = ap (λ y. wrapping_add y (to_word (lo f))) g.value ∙ hi_lo f fits in
      let g' = sets_runs s m kept g.after (pc + 4) sp f (rv.Addi 5 5 (lo f)) 5 (λ z. absurd (omega arith)) g.mid has.1.0 (ap (sets g.after 5) e) in
      let q : pc + 4 + 4 ≡ pc + 8 = omega arith in
      subst (λ n. Got s m m1 n sp 5 f) q (record { after = g'.after; mid = g'.mid; value = g'.value; others = λ q h. g'.others q h ∙ g.others q h })

  down_by : (m1 : Machine) (pc sp f : ℕ) (c : Bool) → nat_le f 2032 ≡ c → f ≤ LARGEST_FRAME → f ≤ sp → sp < 4294967296 → Mid s m m1 pc sp
      → let code = (if c then rv.Addi 2 2 (neg_ℤ (pos f)) ∷ [] else large_frame f ++ rv.Sub 2 2 5 ∷ []) in Holds s pc code → Moved s m m1 (pc + 4 * length code) (sp - f)
  down_by m1 pc sp f true e small fits low mid has =
      let short : f ≤ 2032 = grind (arith, nat_tests) in
      let v : wrapping_add (m1.registers 2) (to_word (neg_ℤ (pos f))) ≡ sp - f = ap (λ y. wrapping_add y (to_word (neg_ℤ (pos f)))) mid.sp_is ∙ down_short sp f fits low short in
      let g = sets_sp s m kept m1 pc sp (sp - f) (rv.Addi 2 2 (neg_ℤ (pos f))) mid has.0 (ap (sets m1 2) v) in
      record { after = g.after; mid = g.mid; others = λ q h k. g.others q h }
  down_by m1 pc sp f false e small fits low mid has =
      let g = size_runs m1 pc sp f (omega arith) mid (has.0, (has.1.0, tt)) in
      let v : wrapping_sub (g.after.registers 2) (g.after.registers 5) ≡ sp - f = ap₂ wrapping_sub g.mid.sp_is g.value ∙ down_far sp f fits low in
      let here : Holds s (pc + 8) (rv.Sub 2 2 5 ∷ []) = let q : pc + 4 + 4 ≡ pc + 8 = omega arith in subst (λ n. Holds s n (rv.Sub 2 2 5 ∷ [])) q has.1.1 in
      let g' = sets_sp s m kept g.after (pc + 8) sp (sp - f) (rv.Sub 2 2 5) g.mid here.0 (ap (sets g.after 2) v) in
      let q : pc + 8 + 4 ≡ pc + 12 = omega arith in
      record { after = g'.after; mid = subst (λ n. Mid s m g'.after n (sp - f)) q g'.mid; others = λ r h k. g'.others r h ∙ g.others r k }

  pub down_runs : (m1 : Machine) (pc sp f : ℕ) → f ≤ LARGEST_FRAME → f ≤ sp → sp < 4294967296 → Mid s m m1 pc sp → Holds s pc (frame_down f) → Moved s m m1 (pc + 4 * length (frame_down f)) (sp - f)
  unfolding frame_down
  down_runs m1 pc sp f small fits low mid has = down_by m1 pc sp f (nat_le f 2032) refl small fits low mid has

  up_by : (m1 : Machine) (pc sp f : ℕ) (c : Bool) → f ≤ LARGEST_FRAME → sp + f < 4294967296 → Mid s m m1 pc sp
      → let code = (if c then rv.Addi 2 2 (pos f) ∷ [] else large_frame f ++ rv.Add 2 2 5 ∷ []) in Holds s pc code → Moved s m m1 (pc + 4 * length code) (sp + f)
  up_by m1 pc sp f true small fits mid has =
      let v : wrapping_add (m1.registers 2) (to_word (pos f)) ≡ sp + f = ap (λ y. wrapping_add y (to_word (pos f))) mid.sp_is ∙ small_sum sp f fits in
      let g = sets_sp s m kept m1 pc sp (sp + f) (rv.Addi 2 2 (pos f)) mid has.0 (ap (sets m1 2) v) in
      record { after = g.after; mid = g.mid; others = λ q h k. g.others q h }
  up_by m1 pc sp f false small fits mid has =
      let g = size_runs m1 pc sp f (omega arith) mid (has.0, (has.1.0, tt)) in
      let v : wrapping_add (g.after.registers 2) (g.after.registers 5) ≡ sp + f = ap₂ wrapping_add g.mid.sp_is g.value ∙ (let z : (sp + f) % 4294967296 ≡ sp + f = omega arith in z) in
      let here : Holds s (pc + 8) (rv.Add 2 2 5 ∷ []) = let q : pc + 4 + 4 ≡ pc + 8 = omega arith in subst (λ n. Holds s n (rv.Add 2 2 5 ∷ [])) q has.1.1 in
      let g' = sets_sp s m kept g.after (pc + 8) sp (sp + f) (rv.Add 2 2 5) g.mid here.0 (ap (sets g.after 2) v) in
      let q : pc + 8 + 4 ≡ pc + 12 = omega arith in
      record { after = g'.after; mid = subst (λ n. Mid s m g'.after n (sp + f)) q g'.mid; others = λ r h k. g'.others r h ∙ g.others r k }

  pub up_runs : (m1 : Machine) (pc sp f : ℕ) → f ≤ LARGEST_FRAME → sp + f < 4294967296 → Mid s m m1 pc sp → Holds s pc (frame_up f) → Moved s m m1 (pc + 4 * length (frame_up f)) (sp + f)
  unfolding frame_up
  up_runs m1 pc sp f small fits mid has = up_by m1 pc sp f (nat_le f 2032) small fits mid has
