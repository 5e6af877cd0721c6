-- A formed program follows itself once what gives registers that aren't needed is dropped from one function.
use Rattle.std.proofs.Common.{◌≡◌, inl, inr, ℕ, ◌<◌, ◌≤◌, Bool, true, false, nat_eq, if◌then◌else◌, List, [], ◌∷◌, ◌++◌, map, length, Option, Some, None, slice_get, All, refl, sym, ap, ap₂, ◌∙◌, subst, arith}
use Rattle.std.specs.List.{filter, filter_map, cons_option, flat_map}
use Rattle.std.specs.Option.{option_map}
use Rattle.std.proofs.lemmas.Bool.Decides.{nat_tests}
use Rattle.std.proofs.lemmas.List.Elements.{All-contains}
use Rattle.oi_base.specs.declared.ids.RegId.{RegId}
use Rattle.oi_base.specs.Follows.{Follows}
use Rattle.ir_core.specs.declared.flat.Scalar.{Scalar}
use Rattle.ir_core.specs.declared.flat.FlatOp.{FlatOp}
use Rattle.ir_core.specs.declared.flat.FlatOp.TheVariants.{Reg, Word, Null, Address, Poison}
use Rattle.ir_core.specs.declared.flat.Entry.{Entry}
use Rattle.ir_core.specs.declared.flat.Phi.{Phi}
use Rattle.ir_core.specs.declared.flat.FlatInstr.{FlatInstr}
use Rattle.ir_core.specs.declared.flat.FlatInstr.TheVariants.{Bin, Icmp, Select, Cast, Copy, Alloca, Load, Store, Gep, Call, Put, Get, Exit}
use Rattle.ir_core.specs.declared.flat.FlatBlock.{FlatBlock}
use Rattle.ir_core.specs.declared.flat.FlatBody.{FlatBody}
use Rattle.ir_core.specs.Flat.{Program, block_of, flat_run}
use Rattle.ir_core.specs.Formed.{FuncType, IsFormed, NamesGlobal, written_by, used_by, used_at_end, uses, all_uses, writes, all_writes}
use Rattle.ir_core.proofs.Lists.{Has, Apart, has_at, has_part, has_left, has_right, has_mapped, has_made, contains}
use Rattle.ir_safety.proofs.FormedSafe.{formed_safe}
use Rattle.ir_safety.proofs.NeverStuck.{never_stuck}
use Rattle.ir_simulation.specs.Replaced.{body_at, with_body}
use Rattle.local_passes.specs.DropDead.{is_needed, result_kept, instr_kept, block_kept, only_registers, dead_dropped}
use Rattle.ir_simulation.proofs.Reached.{Reached, reached_on, reached_not_stuck}
use Rattle.ir_simulation.proofs.Needed.{IsNeeded, AreNeeded}
use Rattle.ir_simulation.proofs.Twins.{Twins, Paired, diagonal}
use Rattle.passes_meaning.proofs.OneWriter.{same_instr, no_phi}
use Rattle.flow_fold.proofs.DroppedFormed.{apart_pairs}
use Rattle.local_passes.proofs.DeadFormed.{instr_needs, end_needs, phi_needs}
use Rattle.passes_meaning.proofs.Thinned.{IsHome, IsAlloca, Named, Facts, thinned_follows}

-- ---- where all registers are kept, nothing changes

abbrev always : ℕ → Bool
always r = true

kept_result : (d : Option RegId) → result_kept always d ≡ d
kept_result None = refl
kept_result (Some d) = refl

kept_instr : (i : FlatInstr) → instr_kept always i ≡ Some i
kept_instr (Bin d op w a b) = refl
kept_instr (Icmp d c s a b) = refl
kept_instr (Select d c a b) = refl
kept_instr (Cast d c from to a) = refl
kept_instr (Copy d a) = refl
kept_instr (Alloca d size align) = refl
kept_instr (Load d s align a) = refl
kept_instr (Store s align v a) = refl
kept_instr (Gep d a k ts) = refl
kept_instr (Call d f args) = ap (λ x. Some (Call x f args)) (kept_result d)
kept_instr (Put d a) = ap (λ x. Some (Put x a)) (kept_result d)
kept_instr (Get d) = ap (λ x. Some (Get x)) (kept_result d)
kept_instr (Exit a) = refl

kept_code : (is : List FlatInstr) → filter_map (instr_kept always) is ≡ is
kept_code [] = refl
kept_code (i ∷ is) = ap₂ cons_option (kept_instr i) (kept_code is)

kept_phis : (fs : List Phi) → filter (λ (f : Phi). always f.reg.0) fs ≡ fs
kept_phis [] = refl
kept_phis (f ∷ fs) = ap (λ gs. f ∷ gs) (kept_phis fs)

kept_block : (k : FlatBlock) → block_kept always k ≡ k
kept_block k = λ i. record { phis = kept_phis k.phis i; code = kept_code k.code i; end = k.end }

kept_blocks : (ks : List FlatBlock) → map (block_kept always) ks ≡ ks
kept_blocks [] = refl
kept_blocks (k ∷ ks) = ap₂ (λ x xs. x ∷ xs) (kept_block k) (kept_blocks ks)

kept_body : (o : Option FlatBody) → option_map (only_registers always) o ≡ o
kept_body None = refl
kept_body (Some b) = λ i. Some (record { params = b.params; regs = b.regs; blocks = kept_blocks b.blocks i })

all_needed : (os : List FlatOp) → AreNeeded always os
all_needed [] = tt
all_needed (Reg r ∷ os) = (refl, all_needed os)
all_needed (Word a ∷ os) = (tt, all_needed os)
all_needed (Null ∷ os) = (tt, all_needed os)
all_needed (Address g k ∷ os) = (tt, all_needed os)
all_needed (Poison ∷ os) = (tt, all_needed os)

one_needed : (o : FlatOp) → IsNeeded always o
one_needed (Reg r) = refl
one_needed (Word a) = tt
one_needed Null = tt
one_needed (Address g k) = tt
one_needed Poison = tt

-- operands are needed where each register among them is
needed_by : (keep : ℕ → Bool) (os : List FlatOp) → ((r : RegId) → Has os (Reg r) → keep r.0 ≡ true) → AreNeeded keep os
needed_by keep [] h = tt
needed_by keep (Reg r ∷ os) h = (h r (inl refl), needed_by keep os (λ q has. h q (inr has)))
needed_by keep (Word a ∷ os) h = (tt, needed_by keep os (λ q has. h q (inr has)))
needed_by keep (Null ∷ os) h = (tt, needed_by keep os (λ q has. h q (inr has)))
needed_by keep (Address g k ∷ os) h = (tt, needed_by keep os (λ q has. h q (inr has)))
needed_by keep (Poison ∷ os) h = (tt, needed_by keep os (λ q has. h q (inr has)))

one_by : (keep : ℕ → Bool) (o : FlatOp) → ((r : RegId) → o ≡ Reg r → keep r.0 ≡ true) → IsNeeded keep o
one_by keep (Reg r) h = h r refl
one_by keep (Word a) h = tt
one_by keep Null h = tt
one_by keep (Address g k) h = tt
one_by keep Poison h = tt

-- ---- one function

module _ (p : Program) (types : ℕ → ℕ → Scalar) (funcs : ℕ → FuncType) (formed : IsFormed p types funcs) (f : ℕ) (old : FlatBody) (is_old : p.body f ≡ Some old) where
  abbrev new : FlatBody
  new = only_registers (is_needed old) old

  abbrev q : Program
  q = with_body p f new

  -- which registers are kept in each function
  abbrev kept_by : Bool → ℕ → Bool
  kept_by true = is_needed old
  kept_by false = always

  abbrev kept : ℕ → ℕ → Bool
  kept g = kept_by (nat_eq g f)

  same_body : (g : ℕ) → g ≡ f → p.body g ≡ Some old
  same_body g e = ap p.body e ∙ is_old

  bodies : (g : ℕ) → body_at p.body f new g ≡ option_map (only_registers (kept_by (nat_eq g f))) (p.body g)
  bodies g = at (nat_eq g f) refl
    where
      at : (t : Bool) → nat_eq g f ≡ t → (if t then Some new else p.body g) ≡ option_map (only_registers (kept_by t)) (p.body g)
      at true e = sym (ap (option_map (only_registers (is_needed old))) (same_body g (grind (arith, nat_tests))))
      at false e = sym (kept_body (p.body g))

  -- a body and a block of it
  record Found (g b : ℕ) (k : FlatBlock) : Type 0 where
    body : FlatBody
    is_body : p.body g ≡ Some body
    is_block : slice_get body.blocks b ≡ Some k

  find : (g b : ℕ) (k : FlatBlock) → block_of (p.body g) b ≡ Some k → Found g b k
  find g b k e = at (p.body g) refl e
    where
      at : (o : Option FlatBody) → p.body g ≡ o → block_of o b ≡ Some k → Found g b k
      at None is e = absurd cc
      at (Some body) is e = record { body = body; is_body = is; is_block = e }

  once : (body : FlatBody) (g : ℕ) → p.body g ≡ Some body → Apart (all_writes body)
  once body g e = apart_pairs (all_writes body) (formed.bodies g body e).written_once

  names : (g b : ℕ) (k : FlatBlock) → Found g b k → (o : FlatOp) → Has (uses k) o → NamesGlobal (length p.globals) o
  names g b k x o h = All-contains (NamesGlobal (length p.globals)) (all_uses x.body) o (formed.addresses g x.body x.is_body) (contains (all_uses x.body) o (has_part uses x.body.blocks k o (has_at x.body.blocks b k x.is_block) h))

  all_names : (os : List FlatOp) → ((o : FlatOp) → Has os o → NamesGlobal (length p.globals) o) → Named p q kept os
  all_names [] h = tt
  all_names (o ∷ os) h = (h o (inl refl), all_names os (λ x has. h x (inr has)))

  abbrev phi_uses : List Phi → List FlatOp
  phi_uses fs = flat_map (λ (x : Phi). map (λ (e : Entry). e.value) x.entries) fs

  abbrev code_uses : List FlatInstr → List FlatOp
  code_uses is = flat_map used_by is

  in_old : (g b : ℕ) (k : FlatBlock) → nat_eq g f ≡ true → Found g b k → slice_get old.blocks b ≡ Some k
  in_old g b k e x =
      let same : g ≡ f = grind (arith, nat_tests) in
      let both : Some old ≡ Some x.body = sym (same_body g same) ∙ x.is_body in
      let one : x.body ≡ old = cc in
      ap (λ (y : FlatBody). slice_get y.blocks b) (sym one) ∙ x.is_block

  facts : Facts p q kept
  facts = record {
    bodies = bodies;
    globals = refl;
    main = refl;
    entry = λ g body e. let k = (formed.bodies g body e).entry in (k.0, k.1);
    code = λ g b n k i j e here is. (
      code_part g b n k i j (find g b k e) here (nat_eq g f) refl is,
      all_names (used_by i) (λ o has. names g b k (find g b k e) o (has_left (phi_uses k.phis ++ code_uses k.code) (used_at_end k.end) o (has_right (phi_uses k.phis) (code_uses k.code) o (has_part used_by k.code i o (has_at k.code n i here) has)))),
    );
    ends = λ g b k e. (
      end_part g b k (find g b k e) (nat_eq g f) refl,
      all_names (used_at_end k.end) (λ o has. names g b k (find g b k e) o (has_right (phi_uses k.phis ++ code_uses k.code) (used_at_end k.end) o has)),
    );
    phis = λ g b k x en e has keep in_it. (
      phi_part g b k x en (find g b k e) has (nat_eq g f) refl keep in_it,
      names g b k (find g b k e) en.value (has_left (phi_uses k.phis ++ code_uses k.code) (used_at_end k.end) en.value (has_left (phi_uses k.phis) (code_uses k.code) en.value
          (has_part (λ (y : Phi). map (λ (z : Entry). z.value) y.entries) k.phis x en.value has (has_mapped (λ (z : Entry). z.value) x.entries en in_it)))),
    );
    home_phis = λ g d b k x home e has. let here = find g b k e in let there = find g home.block home.code home.is_block in
        no_phi here.body (once here.body g here.is_body) home.block b home.place home.code k (Alloca home.reg home.size home.align) x d (one_body g here there) here.is_block home.is_code (ap Some home.is_reg) has;
    home_code = λ g d b n k i home e here w. let x = find g b k e in let there = find g home.block home.code home.is_block in
        subst (IsAlloca p q kept) (same_instr x.body (once x.body g x.is_body) home.block b home.place n home.code k (Alloca home.reg home.size home.align) i d (one_body g x there) x.is_block home.is_code here (ap Some home.is_reg) w) tt;
    home_params = λ g d body home e. param_part g d body home e;
  }
    where
      one_body : {b c : ℕ} {k l : FlatBlock} (g : ℕ) (x : Found g b k) (y : Found g c l) → slice_get x.body.blocks c ≡ Some l
      one_body g x y =
          let both : Some x.body ≡ Some y.body = sym x.is_body ∙ y.is_body in
          let one : x.body ≡ y.body = cc in
          ap (λ (z : FlatBody). slice_get z.blocks _) one ∙ y.is_block

      code_part : (g b n : ℕ) (k : FlatBlock) (i j : FlatInstr) → Found g b k → slice_get k.code n ≡ Some i → (t : Bool) → nat_eq g f ≡ t → instr_kept (kept_by t) i ≡ Some j → AreNeeded (kept_by t) (used_by i)
      code_part g b n k i j x here true e is = needed_by (is_needed old) (used_by i) (λ r has. instr_needs (types f) funcs (funcs f) old (formed.bodies f old is_old) b k (in_old g b k e x) i j r.0 (has_at k.code n i here) is has)
      code_part g b n k i j x here false e is = all_needed (used_by i)

      end_part : (g b : ℕ) (k : FlatBlock) → Found g b k → (t : Bool) → nat_eq g f ≡ t → AreNeeded (kept_by t) (used_at_end k.end)
      end_part g b k x true e = needed_by (is_needed old) (used_at_end k.end) (λ r has. end_needs (types f) funcs (funcs f) old (formed.bodies f old is_old) b k (in_old g b k e x) r.0 has)
      end_part g b k x false e = all_needed (used_at_end k.end)

      phi_part : (g b : ℕ) (k : FlatBlock) (x : Phi) (en : Entry) → Found g b k → Has k.phis x → (t : Bool) → nat_eq g f ≡ t → kept_by t x.reg.0 ≡ true → Has x.entries en → IsNeeded (kept_by t) en.value
      phi_part g b k x en at' has true e keep in_it =
          one_by (is_needed old) en.value (λ r is. phi_needs (types f) funcs (funcs f) old (formed.bodies f old is_old) b k (in_old g b k e at') x r.0 has keep (subst (Has (map (λ (z : Entry). z.value) x.entries)) is (has_mapped (λ (z : Entry). z.value) x.entries en in_it)))
      phi_part g b k x en at' has false e keep in_it = one_needed en.value

      param_part : (g d : ℕ) (body : FlatBody) → IsHome p q kept g d → p.body g ≡ Some body → body.params ≤ d
      param_part g d body home e =
          let x = find g home.block home.code home.is_block in
          let both : Some x.body ≡ Some body = sym x.is_body ∙ e in
          let one : x.body ≡ body = cc in
          let at' : slice_get body.blocks home.block ≡ Some home.code = ap (λ (z : FlatBody). slice_get z.blocks home.block) (sym one) ∙ x.is_block in
          let in_it = has_part writes body.blocks home.code d (has_at body.blocks home.block home.code at') (has_right (map (λ (y : Phi). y.reg.0) home.code.phis) (filter_map written_by home.code.code) d
          (has_made written_by home.code.code (Alloca home.reg home.size home.align) d (has_at home.code.code home.place (Alloca home.reg home.size home.align) home.is_code) (ap Some home.is_reg))) in
          (All-contains (λ (r : ℕ). (body.params ≤ r) × (r < body.regs)) (all_writes body) d (formed.bodies g body e).written (contains (all_writes body) d in_it)).0

  -- the globals' pointers name globals, and the new program is formed too
  module _ (globals : Twins (Paired (diagonal (length p.globals))) p.globals p.globals) (new_formed : IsFormed (with_body p f (only_registers (is_needed old) old)) types funcs) (input : List ℕ) (small : All (λ b. b < 256) input) where
    pub dead_follow : Follows (flat_run p input) (flat_run (with_body p f (dead_dropped old)) input)
    unfolding dead_dropped
    dead_follow = thinned_follows p q kept facts (Reached p input) (Reached q input) (reached_on p input) (reached_on q input)
        (reached_not_stuck p input (never_stuck p types funcs (formed_safe p types funcs formed) input small)) (reached_not_stuck q input (never_stuck q types funcs (formed_safe q types funcs new_formed) input small))
        input (0, refl) (0, refl) globals
