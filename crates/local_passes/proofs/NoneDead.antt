-- Bodies without dead code stay as they are.
use Rattle.std.proofs.Common.{◌≡◌, ℕ, zero, suc, Bool, true, false, not, ◌||◌, if◌then◌else◌, List, [], ◌∷◌, Option, Some, None, slice_get, refl, sym, ap, ap₂, ◌∙◌}
use Rattle.std.specs.List.{filter, filter_map, cons_option, list_any}
use Rattle.oi_base.specs.declared.ids.RegId.{RegId}
use Rattle.ir_core.specs.declared.flat.Phi.{Phi}
use Rattle.ir_core.specs.declared.flat.FlatInstr.{FlatInstr}
use Rattle.ir_core.specs.declared.flat.FlatInstr.TheVariants.{Bin, Icmp, Select, Cast, Copy, Alloca, Load, Store, Gep, Call, Put, Get, Exit}
use Rattle.ir_core.specs.declared.flat.FlatBlock.{FlatBlock}
use Rattle.ir_core.specs.declared.flat.FlatBody.{FlatBody}
use Rattle.const_fold.proofs.Unchanged.{map_same_at, left_fails, right_fails, none_passes}
use Rattle.local_passes.specs.DropDead.{is_needed, result_kept, kept_if, instr_kept, block_kept, only_registers, dead_dropped}
use Rattle.local_passes.specs.DeadTests.{is_lost, loses, block_loses}

not_false : (t : Bool) → not t ≡ false → t ≡ true
not_false true e = refl
not_false false e = absurd (let none : true ≡ false = e in cc)

filter_same : {A : Type 0} (p : A → Bool) (xs : List A) → list_any (λ x. not (p x)) xs ≡ false → filter p xs ≡ xs
filter_same p [] e = refl
filter_same p (x ∷ xs) e =
    ap (λ (t : Bool). if t then x ∷ filter p xs else filter p xs) (not_false (p x) (left_fails (not (p x)) (list_any (λ y. not (p y)) xs) e))
    ∙ ap (λ ys. x ∷ ys) (filter_same p xs (right_fails (not (p x)) (list_any (λ y. not (p y)) xs) e))

filter_map_same : {A : Type 0} (f : A → Option A) (xs : List A) → ((n : ℕ) (x : A) → slice_get xs n ≡ Some x → f x ≡ Some x) → filter_map f xs ≡ xs
filter_map_same f [] same = refl
filter_map_same f (x ∷ xs) same = ap (λ o. cons_option o (filter_map f xs)) (same 0 x refl) ∙ ap (λ ys. x ∷ ys) (filter_map_same f xs (λ n y at. same (suc n) y at))

module _ (keep : ℕ → Bool) where
  kept : (i : FlatInstr) (r : ℕ) → not (keep r) ≡ false → kept_if (keep r) i ≡ Some i
  kept i r e = ap (λ t. kept_if t i) (not_false (keep r) e)

  result_same : (d : RegId) → not (keep d.0) ≡ false → result_kept keep (Some d) ≡ Some d
  result_same d e = ap (λ (t : Bool). if t then Some d else None) (not_false (keep d.0) e)

  instr_same : (i : FlatInstr) → loses keep i ≡ false → instr_kept keep i ≡ Some i
  instr_same (Bin d op w a b) e = kept (Bin d op w a b) d.0 e
  instr_same (Icmp d c s a b) e = kept (Icmp d c s a b) d.0 e
  instr_same (Select d c a b) e = kept (Select d c a b) d.0 e
  instr_same (Cast d c from to a) e = kept (Cast d c from to a) d.0 e
  instr_same (Copy d a) e = kept (Copy d a) d.0 e
  instr_same (Alloca d size align) e = kept (Alloca d size align) d.0 e
  instr_same (Load d s align a) e = kept (Load d s align a) d.0 e
  instr_same (Store s align v a) e = refl
  instr_same (Gep d a k ts) e = kept (Gep d a k ts) d.0 e
  instr_same (Call None f args) e = refl
  instr_same (Call (Some d) f args) e = ap (λ o. Some (Call o f args)) (result_same d e)
  instr_same (Put None a) e = refl
  instr_same (Put (Some d) a) e = ap (λ o. Some (Put o a)) (result_same d e)
  instr_same (Get None) e = refl
  instr_same (Get (Some d)) e = ap (λ o. Some (Get o)) (result_same d e)
  instr_same (Exit a) e = refl

  block_same : (k : FlatBlock) → block_loses keep k ≡ false → block_kept keep k ≡ k
  block_same k e =
      let phis = left_fails (list_any (λ (f : Phi). not (keep f.reg.0)) k.phis) (list_any (loses keep) k.code) e in
      let code = right_fails (list_any (λ (f : Phi). not (keep f.reg.0)) k.phis) (list_any (loses keep) k.code) e in
      ap₂ (λ fs is. record { phis = fs; code = is; end = k.end })
      (filter_same (λ (f : Phi). keep f.reg.0) k.phis phis)
      (filter_map_same (instr_kept keep) k.code (λ n i at. instr_same i (none_passes (loses keep) k.code n i code at)))

  registers_stay : (b : FlatBody) → list_any (block_loses keep) b.blocks ≡ false → only_registers keep b ≡ b
  registers_stay b e = ap (λ ks. record b { blocks = ks }) (map_same_at (block_kept keep) b.blocks (λ n k at. block_same k (none_passes (block_loses keep) b.blocks n k e at)))

pub dead_stay : (b : FlatBody) (keep : ℕ → Bool) → keep ≡ is_needed b → list_any (block_loses keep) b.blocks ≡ false → b ≡ dead_dropped b
unfolding dead_dropped
dead_stay b keep is none = sym (registers_stay keep b none) ∙ ap (λ t. only_registers t b) is
