-- Which registers are needed.
use Rattle.std.proofs.Common.{◌≡◌, ◌⊎◌, inl, inr, ⊎_elim, ℕ, ◌<◌, ◌≤◌, Bool, true, false, ◌||◌, nat_eq, if◌then◌else◌, List, [], ◌∷◌, ◌++◌, map, Option, Some, None, Contains, refl, ap, ◌∙◌, subst, arith}
use Rattle.std.specs.List.{list_any, flat_map, filter_map}
use Rattle.std.proofs.lemmas.Bool.Decides.{nat_tests}
use Rattle.std.proofs.lemmas.List.Elements.{All-contains}
use Rattle.ir_core.specs.declared.flat.FlatOp.{FlatOp}
use Rattle.ir_core.specs.declared.flat.FlatOp.TheVariants.{Reg, Word, Null, Address, Poison}
use Rattle.ir_core.specs.declared.flat.Phi.{Phi}
use Rattle.ir_core.specs.declared.flat.FlatInstr.{FlatInstr}
use Rattle.ir_core.specs.declared.flat.FlatInstr.TheVariants.{Bin, Icmp, Select, Cast, Copy, Alloca, Load, Store, Gep, Call, Put, Get, Exit}
use Rattle.ir_core.specs.declared.flat.FlatBlock.{FlatBlock}
use Rattle.ir_core.specs.declared.flat.FlatBody.{FlatBody}
use Rattle.ir_core.specs.Formed.{written_by, used_by, used_at_end, uses, all_uses, all_writes, IsParamOrWritten, writes}
use Rattle.ir_core.specs.WellFormed.{IsWellFormed}
use Rattle.ir_core.proofs.Lists.{Has, contains, has_in, has_left, has_right, has_part, has_mapped, has_made}
use Rattle.ir_safety.proofs.Elements.{split, in_part}
use Rattle.flow_fold.specs.Ways.{leads}
use Rattle.flow_fold.proofs.Ways.{by_edge, to_itself, joins, least}
use Rattle.local_passes.specs.DropDead.{is_reg, used_by_act, acts_in, all_acts, values, if_same, used_in, used_for, is_used_for, reaches, is_needed}
use Rattle.local_passes.specs.DropDead as cases
use Rattle.local_passes.specs.NeedTables.{Names}

-- ---- tests

pub any_has : {A : Type 0} (p : A → Bool) (xs : List A) → list_any p xs ≡ true → (x : A) × Has xs x × (p x ≡ true)
any_has p [] e = absurd cc
any_has p (x ∷ xs) e = by_test (p x) refl e (λ f. any_has p xs f)
  where
    by_test : (b : Bool) → p x ≡ b → (b || list_any p xs) ≡ true → (list_any p xs ≡ true → (y : _) × Has xs y × (p y ≡ true)) → (y : _) × Has (x ∷ xs) y × (p y ≡ true)
    by_test true is e rest = (x, inl refl, is)
    by_test false is e rest = let r = rest e in (r.0, inr r.1, r.2)

pub has_any : {A : Type 0} (p : A → Bool) (xs : List A) (x : A) → Has xs x → p x ≡ true → list_any p xs ≡ true
has_any p [] x h e = absurd h
has_any p (y ∷ ys) x (inl same) e = ap (λ b. b || list_any p ys) (ap p same ∙ e)
has_any p (y ∷ ys) x (inr h) e = ap (λ b. p y || b) (has_any p ys x h e) ∙ or_true (p y)
  where
    or_true : (b : Bool) → (b || true) ≡ true
    or_true true = refl
    or_true false = refl

register_is : (r : ℕ) (o : FlatOp) → is_reg r o ≡ true → o ≡ Reg (record { 0 = r })
register_is r (Reg q) e = let same : q.0 ≡ r = grind (arith, nat_tests) in ap (λ n. Reg (record { 0 = n })) same
register_is r (Word a) e = absurd cc
register_is r Null e = absurd cc
register_is r (Address g k) e = absurd cc
register_is r Poison e = absurd cc

is_own : (r : ℕ) → is_reg r (Reg (record { 0 = r })) ≡ true
is_own r = grind (arith, nat_tests)

reached_from : (body : FlatBody) (r : ℕ) (o : FlatOp) → reaches body r o ≡ true → (q : ℕ) × (o ≡ Reg (record { 0 = q })) × (leads (is_used_for body) body.regs q r ≡ true)
reached_from body r (Reg q) e = (q.0, refl, e)
reached_from body r (Word a) e = absurd cc
reached_from body r Null e = absurd cc
reached_from body r (Address g k) e = absurd cc
reached_from body r Poison e = absurd cc

module _ (body : FlatBody) where
  pub names_of : (d r : ℕ) → is_used_for body d r ≡ true → Names (used_for body d) r
  names_of d r e =
      let x = any_has (is_reg r) (used_for body d) e in
      contains (used_for body d) (Reg (record { 0 = r })) (subst (Has (used_for body d)) (register_is r x.0 x.2) x.1)

  pub used_of : (d r : ℕ) → Names (used_for body d) r → is_used_for body d r ≡ true
  used_of d r h = has_any (is_reg r) (used_for body d) (Reg (record { 0 = r })) (has_in (used_for body d) (Reg (record { 0 = r })) h) (is_own r)

  -- what is used in any case is needed
  pub by_act : (r : ℕ) → Names (all_acts body) r → is_needed body r ≡ true
  by_act r h = has_any (reaches body r) (all_acts body) (Reg (record { 0 = r })) (has_in (all_acts body) (Reg (record { 0 = r })) h) (to_itself (is_used_for body) body.regs r)

  -- a needed register is led to from what is used in any case
  pub needed_from : (r : ℕ) → is_needed body r ≡ true → (q : ℕ) × Names (all_acts body) q × (leads (is_used_for body) body.regs q r ≡ true)
  needed_from r e =
      let x = any_has (reaches body r) (all_acts body) e in
      let q = reached_from body r x.0 x.2 in
      (q.0, contains (all_acts body) (Reg (record { 0 = q.0 })) (subst (Has (all_acts body)) q.1 x.1), q.2)

  -- what the definition of a needed register uses is needed
  pub by_use : (d r : ℕ) → d < body.regs → is_needed body d ≡ true → Names (used_for body d) r → is_needed body r ≡ true
  by_use d r lt e h =
      let q = needed_from d e in
      has_any (reaches body r) (all_acts body) (Reg (record { 0 = q.0 })) (has_in (all_acts body) (Reg (record { 0 = q.0 })) q.1)
      (joins (is_used_for body) body.regs q.0 d r lt q.2 (by_edge (is_used_for body) body.regs d r (used_of d r h)))

-- ---- what is used is a register of the body

same_has : (d : ℕ) (w : Option ℕ) (os : List FlatOp) (o : FlatOp) → Has (if_same d w os) o → Has os o
same_has d None os o h = absurd h
same_has d (Some r) os o h = by_test (nat_eq r d) h
  where
    by_test : (t : Bool) → Has (if t then os else []) o → Has os o
    by_test true h = h
    by_test false h = absurd h

act_has : (i : FlatInstr) (o : FlatOp) → Has (used_by_act i) o → Has (used_by i) o
act_has (Store s align v a) o h = h
act_has (Call d f args) o h = h
act_has (Put d a) o h = h
act_has (Exit a) o h = h
act_has (Get d) o h = absurd h
act_has (Bin d op w a b) o h = absurd h
act_has (Icmp d c s a b) o h = absurd h
act_has (Select d c a b) o h = absurd h
act_has (Cast d c from to a) o h = absurd h
act_has (Copy d a) o h = absurd h
act_has (Alloca d size align) o h = absurd h
act_has (Load d s align a) o h = absurd h
act_has (Gep d a k ts) o h = absurd h

module _ (k : FlatBlock) where
  abbrev phi_uses : List FlatOp
  phi_uses = flat_map values k.phis

  abbrev code_uses : List FlatOp
  code_uses = flat_map used_by k.code

  pub of_phi : (f : Phi) (o : FlatOp) → Has k.phis f → Has (values f) o → Has (uses k) o
  of_phi f o h g = has_left (phi_uses ++ code_uses) (used_at_end k.end) o (has_left phi_uses code_uses o (has_part values k.phis f o h g))

  pub of_instr : (i : FlatInstr) (o : FlatOp) → Has k.code i → Has (used_by i) o → Has (uses k) o
  of_instr i o h g = has_left (phi_uses ++ code_uses) (used_at_end k.end) o (has_right phi_uses code_uses o (has_part used_by k.code i o h g))

  pub of_end : (o : FlatOp) → Has (used_at_end k.end) o → Has (uses k) o
  of_end o g = has_right (phi_uses ++ code_uses) (used_at_end k.end) o g

  used_in_has : (d : ℕ) (o : FlatOp) → Has (used_in d k) o → Has (uses k) o
  used_in_has d o h = ⊎_elim
      (λ g. let f = in_part (λ (f : Phi). if_same d (Some f.reg.0) (values f)) k.phis o g in of_phi f.0 o f.1 (same_has d (Some f.0.reg.0) (values f.0) o f.2))
      (λ g. let i = in_part (λ (i : FlatInstr). if_same d (written_by i) (used_by i)) k.code o g in of_instr i.0 o i.1 (same_has d (written_by i.0) (used_by i.0) o i.2))
      (split (flat_map (λ (f : Phi). if_same d (Some f.reg.0) (values f)) k.phis) (flat_map (λ (i : FlatInstr). if_same d (written_by i) (used_by i)) k.code) o h)

  acts_in_has : (o : FlatOp) → Has (acts_in k) o → Has (uses k) o
  acts_in_has o h = ⊎_elim
      (λ g. let i = in_part used_by_act k.code o g in of_instr i.0 o i.1 (act_has i.0 o i.2))
      (λ g. of_end o g)
      (split (flat_map used_by_act k.code) (used_at_end k.end) o h)

module _ (body : FlatBody) (h : IsWellFormed body) where
  pub written_within : (r : ℕ) → Contains (all_writes body) r → r < body.regs
  written_within r w = (All-contains (λ (q : ℕ). (body.params ≤ q) × (q < body.regs)) (all_writes body) r h.formed.written w).1

  within : (r : ℕ) → Has (all_uses body) (Reg (record { 0 = r })) → r < body.regs
  within r g = by_case (All-contains (IsParamOrWritten body) (all_uses body) (Reg (record { 0 = r })) h.formed.used (contains (all_uses body) (Reg (record { 0 = r })) g))
    where
      by_case : (r < body.params) ⊎ Contains (all_writes body) r → r < body.regs
      by_case (inl p) = let few = h.formed.few_params.1 in omega (arith, p, few)
      by_case (inr w) = written_within r w

  pub uses_within : (d r : ℕ) → Names (used_for body d) r → r < body.regs
  uses_within d r g =
      let k = in_part (used_in d) body.blocks (Reg (record { 0 = r })) (has_in (used_for body d) (Reg (record { 0 = r })) g) in
      within r (has_part uses body.blocks k.0 (Reg (record { 0 = r })) k.1 (used_in_has k.0 d (Reg (record { 0 = r })) k.2))

  pub acts_within : (r : ℕ) → Names (all_acts body) r → r < body.regs
  acts_within r g =
      let k = in_part acts_in body.blocks (Reg (record { 0 = r })) (has_in (all_acts body) (Reg (record { 0 = r })) g) in
      within r (has_part uses body.blocks k.0 (Reg (record { 0 = r })) k.1 (acts_in_has k.0 (Reg (record { 0 = r })) k.2))

-- ---- needed registers in two cases

module _ (body : FlatBody) (h : IsWellFormed body) where
  same_of : (d : ℕ) (w : Option ℕ) (os : List FlatOp) (o : FlatOp) → Has (if_same d w os) o → w ≡ Some d
  same_of d None os o g = absurd g
  same_of d (Some r) os o g = by_test (nat_eq r d) refl g
    where
      by_test : (t : Bool) → nat_eq r d ≡ t → Has (if t then os else []) o → Some r ≡ Some d
      by_test true e g = let same : r ≡ d = grind (arith, nat_tests) in ap Some same
      by_test false e g = absurd g

  -- a register whose definition uses something is written
  defined_within : (d r : ℕ) → Names (used_for body d) r → d < body.regs
  defined_within d r names =
      let k = in_part (used_in d) body.blocks (Reg (record { 0 = r })) (has_in (used_for body d) (Reg (record { 0 = r })) names) in
      written_within body h d (contains (all_writes body) d (has_part writes body.blocks k.0 d k.1 (in_block k.0 k.2)))
    where
      in_block : (k : FlatBlock) → Has (used_in d k) (Reg (record { 0 = r })) → Has (writes k) d
      in_block k g = ⊎_elim
          (λ in_phis.
          let f = in_part (λ (f : Phi). if_same d (Some f.reg.0) (values f)) k.phis (Reg (record { 0 = r })) in_phis in
          let one : Some f.0.reg.0 ≡ Some d = same_of d (Some f.0.reg.0) (values f.0) (Reg (record { 0 = r })) f.2 in
          let same : f.0.reg.0 ≡ d = cc in
          has_left (map (λ (f : Phi). f.reg.0) k.phis) (filter_map written_by k.code) d (subst (Has (map (λ (f : Phi). f.reg.0) k.phis)) same (has_mapped (λ (f : Phi). f.reg.0) k.phis f.0 f.1)))
          (λ in_code.
          let i = in_part (λ (i : FlatInstr). if_same d (written_by i) (used_by i)) k.code (Reg (record { 0 = r })) in_code in
          has_right (map (λ (f : Phi). f.reg.0) k.phis) (filter_map written_by k.code) d (has_made written_by k.code i.0 d i.1 (same_of d (written_by i.0) (used_by i.0) (Reg (record { 0 = r })) i.2)))
          (split (flat_map (λ (f : Phi). if_same d (Some f.reg.0) (values f)) k.phis) (flat_map (λ (i : FlatInstr). if_same d (written_by i) (used_by i)) k.code) (Reg (record { 0 = r })) g)

  pub needed_told : (r : ℕ) → is_needed body r ≡ true → cases.IsNeeded body r
  needed_told r e =
      let q = needed_from body r e in
      least (is_used_for body) (cases.IsNeeded body) (λ d s n u. cases.by_definition d s n (names_of body d s u)) body.regs q.0 r (cases.by_act q.0 q.1) q.2

  pub told_needed : {r : ℕ} → cases.IsNeeded body r → is_needed body r ≡ true
  told_needed (cases.by_act r names) = by_act body r names
  told_needed (cases.by_definition d r n names) = by_use body d r (defined_within d r names) (told_needed n) names
