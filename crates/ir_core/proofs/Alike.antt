-- When a run of a module and one of its plain bodies stand alike.
use Rattle.std.proofs.Common.{◌≡◌, ◌≢◌, ℕ, zero, suc, ◌+◌, ◌<◌, nat_eq, Bool, true, false, if◌then◌else◌, List, [], ◌∷◌, map, length, drop, Option, Some, None, slice_get, refl, sym, ap, ◌∙◌, subst, arith}
use Rattle.std.specs.List.{filter_map, cons_option, find, AllByRecursion as Each}
use Rattle.std.specs.Option.{option_map, option_and_then}
use Rattle.std.proofs.lemmas.Bool.Decides.{nat_tests}
use Rattle.std.proofs.lemmas.List.Folds.{find_at}
use Rattle.std.proofs.lemmas.Option.{slice_get-map}
use Rattle.oi_base.specs.declared.ids.RegId.{RegId}
use Rattle.oi_base.specs.Follows.{Going}
use Rattle.ir_core.specs.declared.flat.Entry.{Entry}
use Rattle.ir_core.specs.declared.flat.Phi.{Phi}
use Rattle.ir_core.specs.declared.flat.FlatInstr.{FlatInstr}
use Rattle.ir_core.specs.declared.flat.FlatBlock.{FlatBlock}
use Rattle.ir_core.specs.declared.func.Block.{Block}
use Rattle.ir_core.specs.declared.func.Func.{Func}
use Rattle.ir_core.specs.declared.op.LocalId.{LocalId}
use Rattle.ir_core.specs.declared.module.Module.{Module}
use Rattle.ir_core.specs.Memory.{Value, Memory}
use Rattle.ir_core.specs.Flat.{Activation, Run, Regs, with_reg, seen, block_of, entry_for, entry_value, with_phi, after_phis}
use Rattle.ir_core.specs.Formed.{written_by}
use Rattle.ir_core.specs.Instructions.{block_rows}
use Rattle.ir_core.specs.Source.{is_labelled, block_at, entry_label}
use Rattle.ir_core.specs.Plain.{other_reg, other_operand, other_entry, other_phi, renumbered, numbers, registers, plain_body, plain_program}
use Rattle.ir_core.proofs.Lists.{Apart, place_own}
use Rattle.ir_core.proofs.Renamed.{value_other}
use Rattle.ir_core.proofs.Sound.{IsAt, coming, IsRegister, Sound}

-- ---- states

abbrev pub act : ℕ → ℕ → ℕ → Regs → List ℕ → Option RegId → Activation
act f x p regs made w = record { func = f; block = x; place = p; regs = regs; made = made; waiting = w }

abbrev pub run : Activation → List Activation → Memory → List ℕ → List ℕ → Run
run a as' memory input output = record { top = a; below = as'; memory = memory; input = input; output = output; status = Going }

-- the registers that an alloca of the entry block still writes have no value
abbrev pub Unwritten : Module → Func → ℕ → ℕ → ℕ → (ℕ → Type 0) → Type 0
Unwritten m g f x p Is = x ≡ entry_label g → (k : FlatBlock) → block_at m f x ≡ Some k → Each Is (coming k p)

-- the activations of function g have the same registers, and those that are still written in the entry block have no value
pub record Alike (m : Module) (g : Func) (f x p : ℕ) (old new : Regs) : Type 0 where
  pub func : slice_get m.funcs f ≡ Some g
  pub same : (q : ℕ) → new ((numbers g).reg q) ≡ old q
  pub fresh : Unwritten m g f x p (λ d. old d ≡ None)

-- the register of the caller that waits for a result
pub data Waits (m : Module) (g : Func) (f x p : ℕ) : Option RegId → Option RegId → Type 0 where
  no_result : Waits m g f x p None None
  result : (d : RegId) → IsRegister g d.0 → Unwritten m g f x p (λ e. d.0 ≢ e) → Waits m g f x p (Some d) (Some (other_reg (numbers g) d))

pub data Below (m : Module) : Option RegId → Option RegId → List Activation → List Activation → Type 0 where
  bottom : (w w' : Option RegId) → Below m w w' [] []
  over : (g : Func) (f x p : ℕ) (old new : Regs) (made : List ℕ) (v v' w w' : Option RegId) (as' bs : List Activation) → Alike m g f x p old new → Waits m g f x p w w' → Below m v v' as' bs
      → Below m w w' (act f x p old made v ∷ as') (act f ((numbers g).block x) p new made v' ∷ bs)

pub data Related (m : Module) : Run → Run → Type 0 where
  both_go : (g : Func) (f x p : ℕ) (old new : Regs) (made : List ℕ) (w w' : Option RegId) (as' bs : List Activation) (memory : Memory) (input output : List ℕ) → Alike m g f x p old new → Below m w w' as' bs
      → Related m (run (act f x p old made w) as' memory input output) (run (act f ((numbers g).block x) p new made w') bs memory input output)
  both_stand : (r s : Run) → seen s ≡ seen r → r.status ≢ Going → s.status ≢ Going → Related m r s

-- ---- blocks

twice : {A B C : Type 0} (f : A → B) (g : B → C) (o : Option A) → option_map (λ x. g (f x)) o ≡ option_map g (option_map f o)
twice f g None = refl
twice f g (Some x) = refl

pub block_found : (m : Module) (f x : ℕ) (g : Func) → slice_get m.funcs f ≡ Some g → block_of ((plain_program m).body f) ((numbers g).block x) ≡ option_map (renumbered (numbers g)) (block_at m f x)
block_found m f x g e =
    ap (λ o. block_of (option_map (plain_body m) o) ((numbers g).block x)) e
    ∙ slice_get-map (λ (b : Block). renumbered (numbers g) (block_rows m b)) g.blocks ((numbers g).block x)
    ∙ ap (option_map (λ (b : Block). renumbered (numbers g) (block_rows m b))) (sym (find_at (is_labelled x) g.blocks))
    ∙ twice (block_rows m) (renumbered (numbers g)) (find (is_labelled x) g.blocks)
    ∙ sym (ap (λ (o : Option Func). option_map (renumbered (numbers g)) (option_and_then (λ (h : Func). option_map (block_rows m) (find (is_labelled x) h.blocks)) o)) e)

pub same_block : {o : Option FlatBlock} {k l : FlatBlock} → o ≡ Some k → o ≡ Some l → k ≡ l
same_block e h = let both : Some _ ≡ Some _ = sym e ∙ h in cc

-- ---- registers

pub reg_own : (g : Func) (q d : ℕ) → IsRegister g d → nat_eq ((numbers g).reg q) ((numbers g).reg d) ≡ nat_eq q d
reg_own g q d h = place_own (λ (r : LocalId). r.0) (registers g) q d h

pub block_own : (g : Func) (x y : ℕ) → (numbers g).block y < length g.blocks → nat_eq ((numbers g).block x) ((numbers g).block y) ≡ nat_eq x y
block_own g x y h = place_own (λ (b : Block). b.label.0) g.blocks x y h

pub write_same : (g : Func) (old new : Regs) (d : ℕ) (v : Value) → IsRegister g d → ((q : ℕ) → new ((numbers g).reg q) ≡ old q) → (q : ℕ) → with_reg new ((numbers g).reg d) v ((numbers g).reg q) ≡ with_reg old d v q
write_same g old new d v h same q =
    ap (λ t. if t then Some v else new ((numbers g).reg q)) (reg_own g q d h)
    ∙ ap (λ o. if nat_eq q d then Some v else o) (same q)

-- a register that is not written keeps having no value
kept_none : (old : Regs) (d e : ℕ) (v : Value) → d ≢ e → old e ≡ None → with_reg old d v e ≡ None
kept_none old d e v apart none = by_test (nat_eq e d) refl
  where
    by_test : (t : Bool) → nat_eq e d ≡ t → (if t then Some v else old e) ≡ None
    by_test true t = let same : e ≡ d = grind (arith, nat_tests) in absurd (apart (sym same))
    by_test false t = none

pub both_each : (old : Regs) (d : ℕ) (v : Value) (es : List ℕ) → Each (λ e. d ≢ e) es → Each (λ e. old e ≡ None) es → Each (λ e. with_reg old d v e ≡ None) es
both_each old d v [] a n = tt
both_each old d v (e ∷ es) a n = (kept_none old d e v a.0 n.0, both_each old d v es a.1 n.1)

-- ---- what is still to come

drop_at : {A : Type 0} (xs : List A) (p : ℕ) (x : A) → slice_get xs p ≡ Some x → drop p xs ≡ x ∷ drop (suc p) xs
drop_at [] p x e = cc
drop_at (y ∷ ys) zero x e = let same : y ≡ x = cc in ap (λ z. z ∷ ys) same
drop_at (y ∷ ys) (suc p) x e = drop_at ys p x e

pub coming_at : (k : FlatBlock) (p : ℕ) (i : FlatInstr) → slice_get k.code p ≡ Some i → coming k p ≡ cons_option (written_by i) (coming k (p + 1))
coming_at k p i e =
    let n : suc p ≡ p + 1 = omega arith in
    ap (filter_map written_by) (drop_at k.code p i e) ∙ ap (λ n. cons_option (written_by i) (filter_map written_by (drop n k.code))) n

each_after : (P : ℕ → Type 0) (o : Option ℕ) (xs : List ℕ) → Each P (cons_option o xs) → Each P xs
each_after P None xs e = e
each_after P (Some x) xs e = e.1

apart_after : (o : Option ℕ) (xs : List ℕ) → Apart (cons_option o xs) → Apart xs
apart_after None xs a = a
apart_after (Some x) xs a = a.1

apart_drop : (xs : List FlatInstr) (p : ℕ) → Apart (filter_map written_by xs) → Apart (filter_map written_by (drop p xs))
apart_drop xs zero a = a
apart_drop [] (suc p) a = a
apart_drop (x ∷ xs) (suc p) a = apart_drop xs p (apart_after (written_by x) (filter_map written_by xs) a)

-- after an instruction, what held of all that was to come
pub unwritten_next : (m : Module) (g : Func) (f x p : ℕ) (k : FlatBlock) (i : FlatInstr) (Is : ℕ → Type 0) → block_at m f x ≡ Some k → slice_get k.code p ≡ Some i → Unwritten m g f x p Is → Unwritten m g f x (p + 1) Is
unwritten_next m g f x p k i Is at here u entry l found =
    let same : l ≡ k = same_block found at in
    let all : Each Is (cons_option (written_by i) (coming k (p + 1))) = subst (Each Is) (coming_at k p i here) (u entry k at) in
    subst (λ z. Each Is (coming z (p + 1))) (sym same) (each_after Is (written_by i) (coming k (p + 1)) all)

-- the register of an instruction is none of those that come after it
pub not_again : (m : Module) → Sound m → (g : Func) (f x p : ℕ) (k : FlatBlock) (i : FlatInstr) (d : ℕ) → IsAt m f x g k → slice_get k.code p ≡ Some i → written_by i ≡ Some d → Unwritten m g f x (p + 1) (λ e. d ≢ e)
not_again m sound g f x p k i d at here w entry l found =
    let same : l ≡ k = same_block found at.block in
    let all : Apart (coming k p) = apart_drop k.code p (sound.once f x g k at) in
    let ahead : Apart (cons_option (Some d) (coming k (p + 1))) = subst Apart (coming_at k p i here ∙ ap (λ o. cons_option o (coming k (p + 1))) w) all in
    subst (λ z. Each (λ e. d ≢ e) (coming z (p + 1))) (sym same) ahead.0

pub written_alike : (m : Module) → Sound m → (g : Func) (f x p : ℕ) (old new : Regs) (k : FlatBlock) (i : FlatInstr) (d : RegId) (v : Value) → IsAt m f x g k → slice_get k.code p ≡ Some i → written_by i ≡ Some d.0 → Alike m g f x p old new
    → Alike m g f x (p + 1) (with_reg old d.0 v) (with_reg new ((numbers g).reg d.0) v)
written_alike m sound g f x p old new k i d v at here w a = record {
  func = a.func;
  same = write_same g old new d.0 v (sound.results f x g k at p d.0 i here w) a.same;
  fresh = λ entry l found. both_each old d.0 v (coming l (p + 1)) (not_again m sound g f x p k i d.0 at here w entry l found) (unwritten_next m g f x p k i (λ e. old e ≡ None) at.block here a.fresh entry l found);
}

pub next_alike : (m : Module) (g : Func) (f x p : ℕ) (old new : Regs) (k : FlatBlock) (i : FlatInstr) → IsAt m f x g k → slice_get k.code p ≡ Some i → Alike m g f x p old new → Alike m g f x (p + 1) old new
next_alike m g f x p old new k i at here a = record { func = a.func; same = a.same; fresh = unwritten_next m g f x p k i (λ e. old e ≡ None) at.block here a.fresh }

-- ---- phis

abbrev pub SameMaps : Func → Option Regs → Option Regs → Type 0
SameMaps g None None = Unit {0}
SameMaps g None (Some new) = ⊥
SameMaps g (Some old) None = ⊥
SameMaps g (Some old) (Some new) = (q : ℕ) → new ((numbers g).reg q) ≡ old q

module _ (g : Func) (x : ℕ) (within : (numbers g).block x < length g.blocks) (old new : Regs) (same : (q : ℕ) → new ((numbers g).reg q) ≡ old q) where
  entry_same : (es : List Entry) → entry_value new (entry_for ((numbers g).block x) (map (other_entry (numbers g)) es)) ≡ entry_value old (entry_for x es)
  entry_same [] = refl
  entry_same (e ∷ es) =
      ap (λ t. entry_value new (if t then Some (other_operand (numbers g) e.value) else entry_for ((numbers g).block x) (map (other_entry (numbers g)) es))) (block_own g e.from.0 x within)
      ∙ by_test (nat_eq e.from.0 x) (entry_same es)
    where
      by_test : (t : Bool) → entry_value new (entry_for ((numbers g).block x) (map (other_entry (numbers g)) es)) ≡ entry_value old (entry_for x es)
          → entry_value new (if t then Some (other_operand (numbers g) e.value) else entry_for ((numbers g).block x) (map (other_entry (numbers g)) es)) ≡ entry_value old (if t then Some e.value else entry_for x es)
      by_test true rest = value_other (numbers g) old new same e.value
      by_test false rest = rest

  phi_same : (r : ℕ) → IsRegister g r → (v : Option Value) (a b : Option Regs) → SameMaps g a b → SameMaps g (with_phi r v a) (with_phi ((numbers g).reg r) v b)
  phi_same r h None a b s = tt
  phi_same r h (Some v) None None s = tt
  phi_same r h (Some v) None (Some b) s = absurd s
  phi_same r h (Some v) (Some a) None s = absurd s
  phi_same r h (Some v) (Some a) (Some b) s = write_same g a b r v h s

  pub phis_same : (fs : List Phi) → Each (λ (f : Phi). IsRegister g f.reg.0) fs → SameMaps g (after_phis old x fs) (after_phis new ((numbers g).block x) (map (other_phi (numbers g)) fs))
  phis_same [] h = same
  phis_same (f ∷ fs) h =
      subst (λ v. SameMaps g (after_phis old x (f ∷ fs)) (with_phi ((numbers g).reg f.reg.0) v (after_phis new ((numbers g).block x) (map (other_phi (numbers g)) fs)))) (sym (entry_same f.entries))
      (phi_same f.reg.0 h.0 (entry_value old (entry_for x f.entries)) (after_phis old x fs) (after_phis new ((numbers g).block x) (map (other_phi (numbers g)) fs)) (phis_same fs h.1))
