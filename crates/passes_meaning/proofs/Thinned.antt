-- Programs of which one lacks what gives registers that aren't needed, allocas among them: it follows the other.
use Rattle.std.proofs.Common.{◌≡◌, ◌≢◌, ◌⊎◌, inl, inr, ⊎_elim, ℕ, zero, suc, ◌+◌, ◌-◌, ◌<◌, ◌≤◌, Bool, true, false, cond, nat_eq, if◌then◌else◌, List, [], ◌∷◌, ◌++◌, length, take, Option, Some, None, slice_get, refl, sym, ap, ap₂, ◌∙◌, subst, arith, le_of_eq}
use Rattle.std.specs.Fn.{iterate}
use Rattle.std.specs.List.{filter, filter_map}
use Rattle.std.specs.Option.{option_map}
use Rattle.std.proofs.lemmas.Bool.Decides.{nat_tests}
use Rattle.std.proofs.lemmas.Option.{none-some, same_Some, slice_get_within}
use Rattle.oi_base.specs.declared.ids.RegId.{RegId}
use Rattle.oi_base.specs.Follows.{Status, Going, Ended, Undefined, Stuck, IsLasting, IsPrefix, Follows}
use Rattle.oi_base.specs.Turns.{Turn, breaks}
use Rattle.oi_base.specs.Turns as turning
use Rattle.ir_core.specs.declared.flat.FlatOp.{FlatOp}
use Rattle.ir_core.specs.declared.flat.FlatOp.TheVariants.{Reg, Word, Null, Address, Poison}
use Rattle.ir_core.specs.declared.flat.Entry.{Entry}
use Rattle.ir_core.specs.declared.flat.Phi.{Phi}
use Rattle.ir_core.specs.declared.flat.FlatInstr.{FlatInstr}
use Rattle.ir_core.specs.declared.flat.FlatInstr.TheVariants as ins
use Rattle.ir_core.specs.declared.flat.FlatEnd.{FlatEnd}
use Rattle.ir_core.specs.declared.flat.FlatBlock.{FlatBlock}
use Rattle.ir_core.specs.declared.flat.FlatBody.{FlatBody}
use Rattle.ir_core.specs.Memory.{Value, Bits, At, NullPointer, Poisoned, Memory, kill_all, fresh}
use Rattle.ir_core.specs.Rows.{Read, Is, IsPoison, IsOther, as_word}
use Rattle.ir_core.specs.Flat.{Program, Activation, Run, Regs, Effect, Sets, Allocates, Stores, Puts, Takes, Enters, Goes, Returns, Stops, NoMeaning, NoValue, with_reg, value_of, with_value, with_result, without, at_most_one, entered, got, entry_for, entry_value, with_phi, after_phis, block_of, stands_at, goes_into, ended, last, back, returned, applied, what_stands, in_block, turn_of, flat_step, flat_start, flat_run, effect, end_effect}
use Rattle.ir_core.specs.Formed.{of_result, written_by, used_by, used_at_end, NamesGlobal}
use Rattle.ir_core.proofs.Lists.{Has}
use Rattle.ir_core.proofs.Outputs.{output_grows, undefined_keeps}
use Rattle.local_passes.specs.DropDead.{result_kept, instr_kept, block_kept, only_registers}
use Rattle.ir_simulation.proofs.Simulate.{Meets, Step, follows}
use Rattle.ir_simulation.proofs.Writes.{Writes, effect_writes, Ends, end_ends}
use Rattle.ir_simulation.proofs.Ends.{end_matches}
use Rattle.ir_simulation.proofs.Below.{Below}
use Rattle.ir_simulation.proofs.Matches.{RegsBelow, Fits, AllFit, AllBelow, OptionBelow, value_below, Matches, sets, allocates, stores, puts, takes, enters, goes, returns, stops, broken, no_source, no_follower}
use Rattle.passes_meaning.proofs.Thinning.{kept_true, same_op, same_result, same_instr, same_end, end_only, lose, Plain, IsPlain, effect_plain, Drops, drops, lose_effect}
use Rattle.ir_simulation.specs.Renamed.{reg_to, op_to, end_to}
use Rattle.ir_simulation.proofs.Needed.{only, IsNeeded, AreNeeded, value_only, needed_row}
use Rattle.ir_simulation.proofs.Dead.{IsOneOf}
use Rattle.ir_simulation.proofs.Twins.{Twins, twins_killed, twins_alone, twins_fresh, Paired, diagonal, on_diagonal}
use Rattle.passes_meaning.proofs.LeftRegisters.{Same, set_kept, set_lost, regs_more, HomeBoth, home_more, other_reg, before, mapped_at, kept_next, lost_next, at_end}

-- ---- the relation

-- the follower's run: the same places but for the numbers of instructions, and other registers and blocks
abbrev pub at : Run → List Activation → Memory → ℕ → Regs → List ℕ → Option RegId → Run
at r below m j regs made w = record r { top = record r.top { place = j; regs = regs; made = made; waiting = w }; below = below; memory = m }

module _ (p q : Program) (kept : ℕ → ℕ → Bool) where
  -- register d of function g takes the block of an alloca
  pub record IsHome (g d : ℕ) : Type 0 where
    pub block : ℕ
    pub place : ℕ
    pub code : FlatBlock
    pub reg : RegId
    pub size : ℕ
    pub align : ℕ
    pub is_block : block_of (p.body g) block ≡ Some code
    pub is_code : slice_get code.code place ≡ Some (ins.Alloca reg size align)
    pub is_reg : reg.0 ≡ d

  pub record Stand (T : ℕ → ℕ → Type 0) (g b n : ℕ) (old : Regs) (made : List ℕ) (j : ℕ) (new : Regs) (made' : List ℕ) : Type 0 where
    pub code : FlatBlock
    pub is_code : block_of (p.body g) b ≡ Some code
    pub place : j ≡ before (kept g) code.code n
    pub regs : RegsBelow T Same (only (kept g) old) new
    pub homes : (d : ℕ) → IsHome g d → kept g d ≡ true → HomeBoth T (old d) (new d)
    pub blocks : (c : ℕ) → IsOneOf made' c → (i : ℕ) × IsOneOf made i × T i c

  -- the register that waits for a result is no alloca's
  abbrev pub WaitsApart : ℕ → Option RegId → Type 0
  WaitsApart g None = Unit {0}
  WaitsApart g (Some d) = (h : ℕ) → IsHome g h → h ≢ d.0

  abbrev pub Acts : (ℕ → ℕ → Type 0) → Option RegId → Option RegId → List Activation → List Activation → Type 0
  Acts T w u [] [] = Unit {0}
  Acts T w u [] (b ∷ bs) = ⊥
  Acts T w u (a ∷ as') [] = ⊥
  Acts T w u (a ∷ as') (b ∷ bs) = (u ≡ result_kept (kept a.func) w) × (b ≡ record a { place = b.place; regs = b.regs; made = b.made; waiting = b.waiting })
      × Stand T a.func a.block a.place a.regs a.made b.place b.regs b.made × Acts T a.waiting b.waiting as' bs × WaitsApart a.func w

  stand_more : (T U : ℕ → ℕ → Type 0) → ((i c : ℕ) → T i c → U i c) → (g b n : ℕ) (old : Regs) (made : List ℕ) (j : ℕ) (new : Regs) (made' : List ℕ) → Stand T g b n old made j new made' → Stand U g b n old made j new made'
  stand_more T U ext g b n old made j new made' s = record {
    code = s.code;
    is_code = s.is_code;
    place = s.place;
    regs = regs_more T U ext (kept g) old new s.regs;
    homes = λ d h k. home_more T U ext (old d) (new d) (s.homes d h k);
    blocks = λ c one. let x = s.blocks c one in (x.0, x.1, ext x.0 c x.2);
  }

  acts_more : (T U : ℕ → ℕ → Type 0) → ((i c : ℕ) → T i c → U i c) → (w u : Option RegId) (as' bs : List Activation) → Acts T w u as' bs → Acts U w u as' bs
  acts_more T U ext w u [] [] h = tt
  acts_more T U ext w u [] (b ∷ bs) h = absurd h
  acts_more T U ext w u (a ∷ as') [] h = absurd h
  acts_more T U ext w u (a ∷ as') (b ∷ bs) h = (h.0, h.1, stand_more T U ext a.func a.block a.place a.regs a.made b.place b.regs b.made h.2, acts_more T U ext a.waiting b.waiting as' bs h.3, h.4)

  same_depth : (T : ℕ → ℕ → Type 0) (w u : Option RegId) (as' bs : List Activation) → Acts T w u as' bs → length bs ≡ length as'
  same_depth T w u [] [] h = refl
  same_depth T w u [] (b ∷ bs) h = absurd h
  same_depth T w u (a ∷ as') [] h = absurd h
  same_depth T w u (a ∷ as') (b ∷ bs) h = ap suc (same_depth T a.waiting b.waiting as' bs h.3)

  abbrev pub Grounded : (ℕ → ℕ → Type 0) → Type 0
  Grounded T = (s : ℕ) → s < length p.globals → T s s

  pub data Close (r s : Run) : Type 0 where
    stand : (ps : List (ℕ × ℕ)) (below : List Activation) (m : Memory) (j : ℕ) (regs : Regs) (made : List ℕ) (w : Option RegId) → s ≡ at r below m j regs made w → r.status ≡ Going → Grounded (Paired ps) → Twins (Paired ps) r.memory m
        → Stand (Paired ps) r.top.func r.top.block r.top.place r.top.regs r.top.made j regs made → Acts (Paired ps) r.top.waiting w r.below below → Close r s
    over : (w : ℕ) → r.status ≡ Ended w → s.status ≡ Ended w → s.output ≡ r.output → length s.below ≡ length r.below → Close r s
    lost : (r.status ≡ Undefined) ⊎ (r.status ≡ Stuck) → Close r s
    no_target : s.status ≡ Stuck → Close r s

  -- ---- what is known of the programs

  abbrev pub Named : List FlatOp → Type 0
  Named [] = Unit {0}
  Named (o ∷ os) = NamesGlobal (length p.globals) o × Named os

  abbrev pub IsAlloca : FlatInstr → Type 0
  IsAlloca (ins.Alloca d size align) = Unit {0}
  IsAlloca i = ⊥

  pub record Facts : Type 0 where
    pub bodies : (g : ℕ) → q.body g ≡ option_map (only_registers (kept g)) (p.body g)
    pub globals : q.globals ≡ p.globals
    pub main : q.main ≡ p.main
    pub entry : (g : ℕ) (body : FlatBody) → p.body g ≡ Some body → (k : FlatBlock) × (slice_get body.blocks 0 ≡ Some k)
    pub code : (g b n : ℕ) (k : FlatBlock) (i j : FlatInstr) → block_of (p.body g) b ≡ Some k → slice_get k.code n ≡ Some i → instr_kept (kept g) i ≡ Some j → AreNeeded (kept g) (used_by i) × Named (used_by i)
    pub ends : (g b : ℕ) (k : FlatBlock) → block_of (p.body g) b ≡ Some k → AreNeeded (kept g) (used_at_end k.end) × Named (used_at_end k.end)
    pub phis : (g b : ℕ) (k : FlatBlock) (x : Phi) (e : Entry) → block_of (p.body g) b ≡ Some k → Has k.phis x → kept g x.reg.0 ≡ true → Has x.entries e → IsNeeded (kept g) e.value × NamesGlobal (length p.globals) e.value
    pub home_phis : (g d b : ℕ) (k : FlatBlock) (x : Phi) → IsHome g d → block_of (p.body g) b ≡ Some k → Has k.phis x → x.reg.0 ≢ d
    pub home_code : (g d b n : ℕ) (k : FlatBlock) (i : FlatInstr) → IsHome g d → block_of (p.body g) b ≡ Some k → slice_get k.code n ≡ Some i → written_by i ≡ Some d → IsAlloca i
    pub home_params : (g d : ℕ) (body : FlatBody) → IsHome g d → p.body g ≡ Some body → body.params ≤ d

  module _ (facts : Facts) where
    block_in : (g b : ℕ) (k : FlatBlock) → block_of (p.body g) b ≡ Some k → block_of (q.body g) b ≡ Some (block_kept (kept g) k)
    block_in g b k e = ap (λ o. block_of o b) (facts.bodies g) ∙ by (p.body g) e
      where
        by : (o : Option FlatBody) → block_of o b ≡ Some k → block_of (option_map (only_registers (kept g)) o) b ≡ Some (block_kept (kept g) k)
        by None e = absurd cc
        by (Some body) e = mapped_at (block_kept (kept g)) body.blocks b k e

    fits : (T : ℕ → ℕ → Type 0) → Grounded T → (o : FlatOp) → NamesGlobal (length p.globals) o → Fits T o
    fits T ground (Reg r) h = tt
    fits T ground (Word a) h = tt
    fits T ground Null h = tt
    fits T ground (Address s k) h = ground s h
    fits T ground Poison h = tt

    all_fit : (T : ℕ → ℕ → Type 0) → Grounded T → (os : List FlatOp) → Named os → AllFit T os
    all_fit T ground [] h = tt
    all_fit T ground (o ∷ os) h = (fits T ground o h.0, all_fit T ground os h.1)

    -- ---- the next place

    -- behind an instruction that is kept, with other registers and blocks
    next_kept : {T : ℕ → ℕ → Type 0} {g b n j : ℕ} {old new : Regs} {made made' : List ℕ} (s : Stand T g b n old made j new made') (i k : FlatInstr) → slice_get s.code.code n ≡ Some i → instr_kept (kept g) i ≡ Some k
        → (U : ℕ → ℕ → Type 0) (old1 new1 : Regs) (made1 made1' : List ℕ) → RegsBelow U Same (only (kept g) old1) new1 → ((d : ℕ) → IsHome g d → kept g d ≡ true → HomeBoth U (old1 d) (new1 d)) → ((c : ℕ) → IsOneOf made1' c → (i : ℕ) × IsOneOf made1 i × U i c)
        → Stand U g b (n + 1) old1 made1 (j + 1) new1 made1'
    next_kept {g = g} {n = n} {j = j} s i k at' is U old1 new1 made1 made1' regs homes blocks = record {
      code = s.code;
      is_code = s.is_code;
      place =
          let one : suc n ≡ n + 1 = omega arith in
          ap (λ x. x + 1) s.place ∙ sym (kept_next (kept g) s.code.code n i k at' is).1 ∙ ap (before (kept g) s.code.code) one;
      regs = regs;
      homes = homes;
      blocks = blocks;
    }

    next_lost : {T : ℕ → ℕ → Type 0} {g b n j : ℕ} {old new : Regs} {made made' : List ℕ} (s : Stand T g b n old made j new made') (i : FlatInstr) → slice_get s.code.code n ≡ Some i → instr_kept (kept g) i ≡ None
        → (old1 : Regs) (made1 : List ℕ) → RegsBelow T Same (only (kept g) old1) new → ((d : ℕ) → IsHome g d → kept g d ≡ true → HomeBoth T (old1 d) (new d)) → ((c : ℕ) → IsOneOf made' c → (i : ℕ) × IsOneOf made1 i × T i c)
        → Stand T g b (n + 1) old1 made1 j new made'
    next_lost {g = g} {n = n} s i at' is old1 made1 regs homes blocks = record {
      code = s.code;
      is_code = s.is_code;
      place = let one : suc n ≡ n + 1 = omega arith in s.place ∙ sym (lost_next (kept g) s.code.code n i at' is) ∙ ap (before (kept g) s.code.code) one;
      regs = regs;
      homes = homes;
      blocks = blocks;
    }

    -- homes stay where another register is set
    homes_other : (T : ℕ → ℕ → Type 0) (g d : ℕ) (old new old1 new1 : Regs) → ((h : ℕ) → IsHome g h → h ≢ d) → ((h : ℕ) → h ≢ d → old1 h ≡ old h) → ((h : ℕ) → h ≢ d → new1 h ≡ new h)
        → ((h : ℕ) → IsHome g h → kept g h ≡ true → HomeBoth T (old h) (new h)) → (h : ℕ) → IsHome g h → kept g h ≡ true → HomeBoth T (old1 h) (new1 h)
    homes_other T g d old new old1 new1 apart eo en homes h is k =
        let ne = apart h is in
        subst (λ o. HomeBoth T o (new1 h)) (sym (eo h ne)) (subst (λ o. HomeBoth T (old h) o) (sym (en h ne)) (homes h is k))

    -- a register that an instruction but an alloca writes is no home
    not_home : (g b n : ℕ) (k : FlatBlock) (i : FlatInstr) → block_of (p.body g) b ≡ Some k → slice_get k.code n ≡ Some i → (IsAlloca i → ⊥) → (d : ℕ) → written_by i ≡ Some d → (h : ℕ) → IsHome g h → h ≢ d
    not_home g b n k i is at' plain d w h home same = plain (facts.home_code g h b n k i home is at' (w ∙ ap Some (sym same)))

    plain_not : (i : FlatInstr) → IsPlain i → IsAlloca i → ⊥
    plain_not (ins.Alloca d size align) h k = h
    plain_not (ins.Bin d op w a b) h k = k
    plain_not (ins.Icmp d c s a b) h k = k
    plain_not (ins.Select d c a b) h k = k
    plain_not (ins.Cast d c from to a) h k = k
    plain_not (ins.Copy d a) h k = k
    plain_not (ins.Load d s align a) h k = k
    plain_not (ins.Store s align v a) h k = k
    plain_not (ins.Gep d a j ts) h k = k
    plain_not (ins.Call d f args) h k = k
    plain_not (ins.Put d a) h k = k
    plain_not (ins.Get d) h k = k
    plain_not (ins.Exit a) h k = k

    -- ---- one effect on both

    module _ (r : Run) (ps : List (ℕ × ℕ)) (below : List Activation) (m : Memory) (j : ℕ) (regs : Regs) (made : List ℕ) (w : Option RegId) (going : r.status ≡ Going) (ground : Grounded (Paired ps)) (twins : Twins (Paired ps) r.memory m)
        (top : Stand (Paired ps) r.top.func r.top.block r.top.place r.top.regs r.top.made j regs made) (acts : Acts (Paired ps) r.top.waiting w r.below below) where
      abbrev T : ℕ → ℕ → Type 0
      T = Paired ps

      abbrev g : ℕ
      g = r.top.func

      abbrev s : Run
      s = at r below m j regs made w

      module _ (i k : FlatInstr) (here : slice_get top.code.code r.top.place ≡ Some i) (is : instr_kept (kept g) i ≡ Some k) where
        -- a result, or none in the follower where it isn't needed
        result_close : (out inp : List ℕ) (d : Option RegId) (v : ℕ) → IsPlain i → written_by i ≡ of_result d → Close (with_result (record r { output = out; input = inp }) d (Bits v)) (with_result (record s { output = out; input = inp }) (result_kept (kept g) (option_map (reg_to Same) d)) (Bits v))
        result_close out inp None v plain wr = stand ps below m (j + 1) regs made w refl going ground twins (next_kept top i k here is T r.top.regs regs r.top.made made top.regs top.homes top.blocks) acts
        result_close out inp (Some d) v plain wr = by_test (kept g d.0) refl
          where
            other : (h : ℕ) → IsHome g h → h ≢ d.0
            other = not_home g r.top.block r.top.place top.code i top.is_code here (plain_not i plain) d.0 wr

            by_test : (t : Bool) → kept g d.0 ≡ t → Close (with_value (record r { output = out; input = inp }) d (Bits v)) (with_result (record s { output = out; input = inp }) (if t then Some (reg_to Same d) else None) (Bits v))
            by_test true e = stand ps below m (j + 1) (with_reg regs d.0 (Bits v)) made w refl going ground twins
                (next_kept top i k here is T (with_reg r.top.regs d.0 (Bits v)) (with_reg regs d.0 (Bits v)) r.top.made made (set_kept T (kept g) r.top.regs regs top.regs d.0 (Bits v) (Bits v) refl)
                (homes_other T g d.0 r.top.regs regs (with_reg r.top.regs d.0 (Bits v)) (with_reg regs d.0 (Bits v)) other (λ h ne. other_reg r.top.regs d.0 h (Bits v) ne) (λ h ne. other_reg regs d.0 h (Bits v) ne) top.homes) top.blocks) acts
            by_test false e = stand ps below m (j + 1) regs made w refl going ground twins
                (next_kept top i k here is T (with_reg r.top.regs d.0 (Bits v)) regs r.top.made made (set_lost T (kept g) r.top.regs regs top.regs d.0 (Bits v) e)
                (homes_other T g d.0 r.top.regs regs (with_reg r.top.regs d.0 (Bits v)) regs other (λ h ne. other_reg r.top.regs d.0 h (Bits v) ne) (λ h ne. refl) top.homes) top.blocks) acts

        -- the caller behind a call
        called_stand : (d : Option RegId) → Stand T g r.top.block (r.top.place + 1) r.top.regs r.top.made (j + 1) regs made
        called_stand d = next_kept top i k here is T r.top.regs regs r.top.made made top.regs top.homes top.blocks

        argument : (xs ys : List (Option Value)) (n q : ℕ) (v : Value) → AllBelow T xs ys → at_most_one (slice_get (take n xs) q) ≡ Some v → (u : Value) × (at_most_one (slice_get (take n ys) q) ≡ Some u) × Below T v u
        argument [] [] zero q v h e = absurd cc
        argument [] [] (suc n) q v h e = absurd cc
        argument [] (y ∷ ys) n q v h e = absurd h
        argument (x ∷ xs) [] n q v h e = absurd h
        argument (x ∷ xs) (y ∷ ys) zero q v h e = absurd cc
        argument (None ∷ xs) (y ∷ ys) (suc n) zero v h e = absurd cc
        argument (Some x ∷ xs) (y ∷ ys) (suc n) zero v h e = let same : x ≡ v = cc in subst (λ z. (u : Value) × (at_most_one (Some y) ≡ Some u) × Below T z u) same (h.0.0, h.0.1, h.0.2)
        argument (x ∷ xs) (y ∷ ys) (suc n) (suc q) v h e = argument xs ys n q v h.1 e

        nothing : (args : List (Option Value)) (n q : ℕ) → n ≤ q → at_most_one (slice_get (take n args) q) ≡ None
        nothing [] zero q le = refl
        nothing [] (suc n) q le = refl
        nothing (a ∷ as') zero q le = refl
        nothing (a ∷ as') (suc n) zero le = absurd (omega (arith, le))
        nothing (a ∷ as') (suc n) (suc q) le = nothing as' n q (omega (arith, le))

        entered_close : (f : ℕ) (xs ys : List (Option Value)) (d : Option RegId) (o : Option FlatBody) → p.body f ≡ o → AllBelow T xs ys → WaitsApart g d
            → Close (entered r f xs d o) (entered s f ys (result_kept (kept g) (option_map (reg_to Same) d)) (option_map (only_registers (kept f)) o))
        entered_close f xs ys d None is_body args apart = lost (inr refl)
        entered_close f xs ys d (Some body) is_body args apart = let e = facts.entry f body is_body in
            stand ps ((record s.top { place = j + 1 }) ∷ below) m 0 (λ q. at_most_one (slice_get (take body.params ys) q)) [] (result_kept (kept g) (option_map (reg_to Same) d)) refl going ground twins
            (record {
              code = e.0;
              is_code = ap (λ o. block_of o 0) is_body ∙ e.1;
              place = refl;
              regs = λ q v h. argument xs ys body.params q v args (by_keep (kept f q) (at_most_one (slice_get (take body.params xs) q)) v h);
              homes = λ h home k. let le = facts.home_params f h body home is_body in inl (nothing xs body.params h le, nothing ys body.params h le);
              blocks = λ c one. absurd one;
            })
            (ap (result_kept (kept g)) (same_result d), refl, called_stand d, acts, apart)
          where
            by_keep : (t : Bool) (o : Option Value) (v : Value) → (if t then o else None) ≡ Some v → o ≡ Some v
            by_keep true o v e = e
            by_keep false o v e = absurd cc

        got_close : (d : Option RegId) (bytes : List ℕ) → IsPlain i → written_by i ≡ of_result d → Close (got r d bytes) (got s (result_kept (kept g) (option_map (reg_to Same) d)) bytes)
        got_close d [] plain wr = result_close r.output r.input d 4294967295 plain wr
        got_close d (b ∷ bytes) plain wr = result_close r.output bytes d b plain wr

        waits_apart : (d : Option RegId) → IsPlain i → written_by i ≡ of_result d → WaitsApart g d
        waits_apart None plain wr = tt
        waits_apart (Some d) plain wr = not_home g r.top.block r.top.place top.code i top.is_code here (plain_not i plain) d.0 wr

        step : (e e' : Effect) → Matches T Same Same e e' → IsPlain i → Writes (written_by i) e → Plain r.memory e → Plain m e' → Close (applied p r e) (applied q s (lose (kept g) e'))
        step e e' (sets {d} {v} {u} b) plain wr pl pl' = stand ps below m (j + 1) (with_reg regs d.0 u) made w refl going ground twins
            (next_kept top i k here is T (with_reg r.top.regs d.0 v) (with_reg regs d.0 u) r.top.made made (set_kept T (kept g) r.top.regs regs top.regs d.0 v u b)
            (homes_other T g d.0 r.top.regs regs (with_reg r.top.regs d.0 v) (with_reg regs d.0 u) (not_home g r.top.block r.top.place top.code i top.is_code here (plain_not i plain) d.0 wr)
            (λ h ne. other_reg r.top.regs d.0 h v ne) (λ h ne. other_reg regs d.0 h u ne) top.homes) top.blocks) acts
        step e e' allocates plain wr pl pl' = absurd pl
        step e e' (stores {m = m1} {n = n1} b) plain wr pl pl' = stand ps below n1 (j + 1) regs made w refl going ground
            (record { below = b; bounds = λ x c t. let y = twins.bounds x c t in let lt = y.0 in let lu = y.1 in (omega (arith, lt, pl), omega (arith, lu, pl')) })
            (next_kept top i k here is T r.top.regs regs r.top.made made top.regs top.homes top.blocks) acts
        step e e' (puts {d} {b}) plain wr pl pl' = result_close (r.output ++ b ∷ []) r.input d b plain wr
        step e e' (takes {d}) plain wr pl pl' = got_close d r.input plain wr
        step e e' (enters {d} {f} {xs} {ys} b) plain wr pl pl' =
            subst (λ o. Close (entered r f xs d (p.body f)) (entered s f ys (result_kept (kept g) (option_map (reg_to Same) d)) o)) (sym (facts.bodies f)) (entered_close f xs ys d (p.body f) refl b (waits_apart d plain wr))
        step e e' goes plain wr pl pl' = absurd pl
        step e e' (returns b) plain wr pl pl' = absurd pl
        step e e' (stops {w = a}) plain wr pl pl' = over a refl refl refl (same_depth T r.top.waiting w r.below below acts)
        step e e' broken plain wr pl pl' = lost (inl refl)
        step e e' no_source plain wr pl pl' = lost (inr refl)
        step e e' no_follower plain wr pl pl' = no_target refl

      -- ---- what the follower lacks

      without_alone : (o : Option Value) → Twins T (without r.memory o) m
      without_alone None = twins
      without_alone (Some (Bits a)) = twins
      without_alone (Some NullPointer) = twins
      without_alone (Some Poisoned) = twins
      without_alone (Some (At b x)) = twins_killed T r.memory m (b ∷ []) [] twins (λ c one. absurd one)

      lost_home : (d h : ℕ) → kept g d ≡ false → kept g h ≡ true → h ≢ d
      lost_home d h e k same = let both : true ≡ false = sym k ∙ ap (kept g) same ∙ e in cc

      drop_close : (i : FlatInstr) → slice_get top.code.code r.top.place ≡ Some i → instr_kept (kept g) i ≡ None → (e : Effect) → Drops (kept g) e → Close (applied p r e) s
      drop_close i here is (Sets d v) k = stand ps below m j regs made w refl going ground twins
          (next_lost top i here is (with_reg r.top.regs d.0 v) r.top.made (set_lost T (kept g) r.top.regs regs top.regs d.0 v k)
          (λ h home kh. subst (λ o. HomeBoth T o (regs h)) (sym (other_reg r.top.regs d.0 h v (lost_home d.0 h k kh))) (top.homes h home kh)) top.blocks) acts
      drop_close i here is (Allocates d size align) k =
          let dead = without r.memory (r.top.regs d.0) in
          stand ps below m j regs made w refl going ground (twins_alone T dead m (fresh size align) (without_alone (r.top.regs d.0)))
          (next_lost top i here is (with_reg r.top.regs d.0 (At (length dead) 0)) (length dead ∷ r.top.made) (set_lost T (kept g) r.top.regs regs top.regs d.0 (At (length dead) 0) k)
          (λ h home kh. subst (λ o. HomeBoth T o (regs h)) (sym (other_reg r.top.regs d.0 h (At (length dead) 0) (lost_home d.0 h k kh))) (top.homes h home kh))
          (λ c one. let x = top.blocks c one in (x.0, inr x.1, x.2))) acts
      drop_close i here is NoMeaning k = lost (inl refl)
      drop_close i here is NoValue k = lost (inr refl)
      drop_close i here is (Stores n) k = absurd k
      drop_close i here is (Puts d b) k = absurd k
      drop_close i here is (Takes d) k = absurd k
      drop_close i here is (Enters d f args) k = absurd k
      drop_close i here is (Goes b) k = absurd k
      drop_close i here is (Returns v) k = absurd k
      drop_close i here is (Stops v) k = absurd k

      -- ---- an alloca in both

      without_both : (o u : Option Value) → HomeBoth T o u → Twins T (without r.memory o) (without m u)
      without_both o u (inl none) = subst (λ x. Twins T (without r.memory x) (without m u)) (sym none.0) (subst (λ y. Twins T r.memory (without m y)) (sym none.1) twins)
      without_both o u (inr h) = subst (λ x. Twins T (without r.memory x) (without m u)) (sym h.3) (subst (λ y. Twins T (without r.memory (Some (At h.0 h.2))) (without m y)) (sym h.4)
          (twins_killed T r.memory m (h.0 ∷ []) (h.1 ∷ []) twins (λ c one. (h.0, inl refl, subst (λ x. T h.0 x) (sym (⊎_elim (λ same. same) (λ none. absurd none) one)) h.5))))

      module _ (d : RegId) (size align : ℕ) (k : FlatInstr) (here : slice_get top.code.code r.top.place ≡ Some (ins.Alloca d size align)) (is : instr_kept (kept g) (ins.Alloca d size align) ≡ Some k) (keep : kept g d.0 ≡ true) where
        abbrev old : Memory
        old = without r.memory (r.top.regs d.0)

        abbrev new : Memory
        new = without m (regs d.0)

        abbrev U : ℕ → ℕ → Type 0
        U = Paired ((length (without r.memory (r.top.regs d.0)), length (without m (regs d.0))) ∷ ps)

        more : (x c : ℕ) → T x c → U x c
        more x c t = inr t

        home : IsHome g d.0
        home = record { block = r.top.block; place = r.top.place; code = top.code; reg = d; size = size; align = align; is_block = top.is_code; is_code = here; is_reg = refl }

        new_home : (h : ℕ) → IsHome g h → kept g h ≡ true → (t : Bool) → nat_eq h d.0 ≡ t → HomeBoth U (with_reg r.top.regs d.0 (At (length old) 0) h) (with_reg regs d.0 (At (length new) 0) h)
        new_home h is_home kh true e = inr (length old, length new, 0, ap (λ (b : Bool). if b then Some (At (length old) 0) else r.top.regs h) e, ap (λ (b : Bool). if b then Some (At (length new) 0) else regs h) e, inl (refl, refl))
        new_home h is_home kh false e =
            let ne : h ≢ d.0 = λ same. absurd (grind (arith, nat_tests)) in
            subst (λ o. HomeBoth U o (with_reg regs d.0 (At (length new) 0) h)) (sym (other_reg r.top.regs d.0 h (At (length old) 0) ne))
            (subst (λ o. HomeBoth U (r.top.regs h) o) (sym (other_reg regs d.0 h (At (length new) 0) ne)) (home_more T U more (r.top.regs h) (regs h) (top.homes h is_home kh)))

        new_blocks : (c : ℕ) → IsOneOf (length new ∷ made) c → (x : ℕ) × IsOneOf (length old ∷ r.top.made) x × U x c
        new_blocks c (inl same) = (length old, inl refl, inl (refl, same))
        new_blocks c (inr one) = let x = top.blocks c one in (x.0, inr x.1, inr x.2)

        alloca_close : Close (applied p r (Allocates d size align)) (applied q s (Allocates d size align))
        alloca_close = stand ((length old, length new) ∷ ps) below (new ++ fresh size align ∷ []) (j + 1) (with_reg regs d.0 (At (length new) 0)) (length new ∷ made) w refl going (λ x lt. inr (ground x lt))
            (twins_fresh T old new size align (without_both (r.top.regs d.0) (regs d.0) (top.homes d.0 home keep)))
            (next_kept top (ins.Alloca d size align) k here is U (with_reg r.top.regs d.0 (At (length old) 0)) (with_reg regs d.0 (At (length new) 0)) (length old ∷ r.top.made) (length new ∷ made)
            (set_kept U (kept g) r.top.regs regs (regs_more T U more (kept g) r.top.regs regs top.regs) d.0 (At (length old) 0) (At (length new) 0) (length new, inl (refl, refl), refl))
            (λ h is_home kh. new_home h is_home kh (nat_eq h d.0) refl) new_blocks)
            (acts_more T U more r.top.waiting w r.below below acts)

      -- ---- the end of a block

      word_close : (x : Read) → Close (ended r x) (ended s x)
      word_close (Is a) = over a refl refl refl (same_depth T r.top.waiting w r.below below acts)
      word_close IsPoison = lost (inl refl)
      word_close IsOther = lost (inr refl)

      last_close : (v : Value) (u : Value) → Below T v u → Close (ended r (as_word 4294967296 v)) (ended s (as_word 4294967296 u))
      last_close (Bits a) u b = subst (λ (x : Value). Close (ended r (as_word 4294967296 (Bits a))) (ended s (as_word 4294967296 x))) (sym b) (word_close (as_word 4294967296 (Bits a)))
      last_close (At x o) u b = lost (inr refl)
      last_close NullPointer u b = lost (inr refl)
      last_close Poisoned u b = lost (inl refl)

      ends_close : (v u : Option Value) → OptionBelow T v u → Close (last r v) (last s u)
      ends_close None u b = lost (inr refl)
      ends_close (Some v) u b = subst (λ o. Close (last r (Some v)) (last s o)) (sym b.1) (last_close v b.0 b.2)

    -- back in the caller, which stood for its counterpart
    module _ (r : Run) (ps : List (ℕ × ℕ)) (below : List Activation) (m : Memory) (j : ℕ) (regs : Regs) (made : List ℕ) (w : Option RegId) (going : r.status ≡ Going) (ground : Grounded (Paired ps)) (twins : Twins (Paired ps) r.memory m)
        (top : Stand (Paired ps) r.top.func r.top.block r.top.place r.top.regs r.top.made j regs made) (acts : Acts (Paired ps) r.top.waiting w r.below below) where
      abbrev B : ℕ → ℕ → Type 0
      B = Paired ps

      same_stand : (old1 new1 : Regs) → RegsBelow B Same (only (kept r.top.func) old1) new1 → ((d : ℕ) → IsHome r.top.func d → kept r.top.func d ≡ true → HomeBoth B (old1 d) (new1 d)) → Stand B r.top.func r.top.block r.top.place old1 r.top.made j new1 made
      same_stand old1 new1 rb homes = record { code = top.code; is_code = top.is_code; place = top.place; regs = rb; homes = homes; blocks = top.blocks }

      back_close : (d : Option RegId) (u : Option RegId) (v x : Option Value) → u ≡ result_kept (kept r.top.func) d → WaitsApart r.top.func d → OptionBelow B v x → Close (back r d v) (back (at r below m j regs made w) u x)
      back_close None u v x is apart b = subst (λ o. Close r (back (at r below m j regs made w) o x)) (sym is) (stand ps below m j regs made w refl going ground twins top acts)
      back_close (Some d) u None x is apart b = lost (inr refl)
      back_close (Some d) u (Some v) x is apart b = subst (λ o. Close (back r (Some d) (Some v)) (back (at r below m j regs made w) o x)) (sym is) (by_test (kept r.top.func d.0) refl)
        where
          by_test : (t : Bool) → kept r.top.func d.0 ≡ t → Close (back r (Some d) (Some v)) (back (at r below m j regs made w) (if t then Some d else None) x)
          by_test true e = subst (λ o. Close (back r (Some d) (Some v)) (back (at r below m j regs made w) (Some d) o)) (sym b.1)
              (stand ps below m j (with_reg regs d.0 b.0) made w refl going ground twins (same_stand (with_reg r.top.regs d.0 v) (with_reg regs d.0 b.0) (set_kept B (kept r.top.func) r.top.regs regs top.regs d.0 v b.0 b.2)
              (homes_other B r.top.func d.0 r.top.regs regs (with_reg r.top.regs d.0 v) (with_reg regs d.0 b.0) apart (λ h ne. other_reg r.top.regs d.0 h v ne) (λ h ne. other_reg regs d.0 h b.0 ne) top.homes)) acts)
          by_test false e = stand ps below m j regs made w refl going ground twins (same_stand (with_reg r.top.regs d.0 v) regs (set_lost B (kept r.top.func) r.top.regs regs top.regs d.0 v e)
              (homes_other B r.top.func d.0 r.top.regs regs (with_reg r.top.regs d.0 v) regs apart (λ h ne. other_reg r.top.regs d.0 h v ne) (λ h ne. refl) top.homes)) acts

    module _ (r : Run) (ps : List (ℕ × ℕ)) (below : List Activation) (m : Memory) (j : ℕ) (regs : Regs) (made : List ℕ) (w : Option RegId) (going : r.status ≡ Going) (ground : Grounded (Paired ps)) (twins : Twins (Paired ps) r.memory m)
        (top : Stand (Paired ps) r.top.func r.top.block r.top.place r.top.regs r.top.made j regs made) (acts : Acts (Paired ps) r.top.waiting w r.below below) where
      abbrev P : ℕ → ℕ → Type 0
      P = Paired ps

      abbrev t : Run
      t = at r below m j regs made w

      returned_close : (as' bs : List Activation) → Acts P r.top.waiting w as' bs → as' ≡ r.below → bs ≡ below → (v u : Option Value) → OptionBelow P v u → Close (returned r as' v) (returned t bs u)
      returned_close [] [] h ea eb v u b = ends_close r ps below m j regs made w going ground twins top acts v u b
      returned_close [] (y ∷ ys) h ea eb v u b = absurd h
      returned_close (x ∷ xs) [] h ea eb v u b = absurd h
      returned_close (x ∷ xs) (y ∷ ys) h ea eb v u b =
          subst (λ (z : Activation). Close (returned r (x ∷ xs) v) (back (record t { memory = kill_all m made; top = z; below = ys }) w u)) (sym h.1)
          (back_close (record r { memory = kill_all r.memory r.top.made; top = x; below = xs }) ps ys (kill_all m made) y.place y.regs y.made y.waiting going ground (twins_killed P r.memory m r.top.made made twins top.blocks) h.2 h.3 r.top.waiting w v u h.0 h.4 b)

      -- ---- phis

      with_phi_is : (d : ℕ) (o : Option Value) (rest : Option Regs) (all : Regs) → with_phi d o rest ≡ Some all → (v : Value) × (u : Regs) × (o ≡ Some v) × (rest ≡ Some u) × (with_reg u d v ≡ all)
      with_phi_is d None rest all e = absurd (none-some all e)
      with_phi_is d (Some v) None all e = absurd (none-some all e)
      with_phi_is d (Some v) (Some u) all e = (v, u, refl, refl, same_Some (with_reg u d v) all e)

      entry_in : (es : List Entry) (v : Value) → entry_value r.top.regs (entry_for r.top.block es) ≡ Some v → (e : Entry) × Has es e × (entry_for r.top.block es ≡ Some e.value) × (value_of r.top.regs e.value ≡ Some v)
      entry_in [] v e = absurd cc
      entry_in (x ∷ xs) v e = by_test (nat_eq x.from.0 r.top.block) e (λ f. entry_in xs v f)
        where
          by_test : (b : Bool) → entry_value r.top.regs (if b then Some x.value else entry_for r.top.block xs) ≡ Some v
              → (entry_value r.top.regs (entry_for r.top.block xs) ≡ Some v → (e : Entry) × Has xs e × (entry_for r.top.block xs ≡ Some e.value) × (value_of r.top.regs e.value ≡ Some v))
              → (e : Entry) × Has (x ∷ xs) e × ((if b then Some x.value else entry_for r.top.block xs) ≡ Some e.value) × (value_of r.top.regs e.value ≡ Some v)
          by_test true e rest = (x, inl refl, refl, e)
          by_test false e rest = let z = rest e in (z.0, inr z.1, z.2, z.3)

      -- an operand that is needed has a value in the follower too
      needed_value : (o : FlatOp) (v : Value) → IsNeeded (kept r.top.func) o → NamesGlobal (length p.globals) o → value_of r.top.regs o ≡ Some v → (u : Value) × (value_of regs o ≡ Some u) × Below P v u
      needed_value o v need named e =
          let b = value_below P Same (only (kept r.top.func) r.top.regs) regs o top.regs (fits P ground o named) in
          let c = subst (λ x. OptionBelow P x (value_of regs (op_to Same o))) (value_only (kept r.top.func) r.top.regs o need ∙ e) b in
          (c.0, sym (ap (value_of regs) (same_op o)) ∙ c.1, c.2)

      abbrev IsThere : Phi → Type 0
      IsThere x = kept r.top.func x.reg.0 ≡ true → (e : Entry) → Has x.entries e → IsNeeded (kept r.top.func) e.value × NamesGlobal (length p.globals) e.value

      record After (fs : List Phi) (old1 : Regs) : Type 0 where
        new1 : Regs
        is : after_phis regs r.top.block (filter (λ (x : Phi). kept r.top.func x.reg.0) fs) ≡ Some new1
        lower : RegsBelow P Same (only (kept r.top.func) old1) new1
        homes : (h : ℕ) → ((x : Phi) → Has fs x → x.reg.0 ≢ h) → (old1 h ≡ r.top.regs h) × (new1 h ≡ regs h)

      phis_close : (fs : List Phi) → ((x : Phi) → Has fs x → IsThere x) → (old1 : Regs) → after_phis r.top.regs r.top.block fs ≡ Some old1 → After fs old1
      phis_close [] there old1 e = let same = same_Some r.top.regs old1 e in record {
        new1 = regs;
        is = refl;
        lower = subst (λ (x : Regs). RegsBelow P Same (only (kept r.top.func) x) regs) same top.regs;
        homes = λ h apart. (ap (λ (x : Regs). x h) (sym same), refl);
      }
      phis_close (x ∷ xs) there old1 e =
          let z = with_phi_is x.reg.0 (entry_value r.top.regs (entry_for r.top.block x.entries)) (after_phis r.top.regs r.top.block xs) old1 e in
          subst (λ (o : Regs). After (x ∷ xs) o) z.4 (by_test z.0 z.1 z.2 (phis_close xs (λ y has. there y (inr has)) z.1 z.3) (kept r.top.func x.reg.0) refl)
        where
          by_test : (v : Value) (u : Regs) → entry_value r.top.regs (entry_for r.top.block x.entries) ≡ Some v → After xs u → (b : Bool) → kept r.top.func x.reg.0 ≡ b → After (x ∷ xs) (with_reg u x.reg.0 v)
          by_test v u value rest true k =
              let en = entry_in x.entries v value in
              let need = there x (inl refl) k en.0 en.1 in
              let nv = needed_value en.0.value v need.0 need.1 en.3 in record {
                new1 = with_reg rest.new1 x.reg.0 nv.0;
                is =
                    ap (λ (b : Bool). after_phis regs r.top.block (cond b (x ∷ filter (λ (y : Phi). kept r.top.func y.reg.0) xs) (filter (λ (y : Phi). kept r.top.func y.reg.0) xs))) k
                    ∙ ap₂ (with_phi x.reg.0) (ap (entry_value regs) en.2 ∙ nv.1) rest.is;
                lower = set_kept P (kept r.top.func) u rest.new1 rest.lower x.reg.0 v nv.0 nv.2;
                homes = λ h apart.
                    let o = rest.homes h (λ y has. apart y (inr has)) in
                    let ne : h ≢ x.reg.0 = λ same. apart x (inl refl) (sym same) in
                    (other_reg u x.reg.0 h v ne ∙ o.0, other_reg rest.new1 x.reg.0 h nv.0 ne ∙ o.1);
              }
          by_test v u value rest false k = record {
            new1 = rest.new1;
            is = ap (λ (b : Bool). after_phis regs r.top.block (cond b (x ∷ filter (λ (y : Phi). kept r.top.func y.reg.0) xs) (filter (λ (y : Phi). kept r.top.func y.reg.0) xs))) k ∙ rest.is;
            lower = set_lost P (kept r.top.func) u rest.new1 rest.lower x.reg.0 v k;
            homes = λ h apart.
                let o = rest.homes h (λ y has. apart y (inr has)) in
                let ne : h ≢ x.reg.0 = λ same. apart x (inl refl) (sym same) in
                (other_reg u x.reg.0 h v ne ∙ o.0, o.1);
          }

      goes_close : (c : ℕ) (o : Option FlatBlock) → block_of (p.body r.top.func) c ≡ o → Close (goes_into r c o) (goes_into t c (block_of (q.body r.top.func) c))
      goes_close c None e = lost (inr refl)
      goes_close c (Some l) e = subst (λ o. Close (goes_into r c (Some l)) (goes_into t c o)) (sym (block_in r.top.func c l e)) (by_phis (after_phis r.top.regs r.top.block l.phis) refl)
        where
          by_phis : (o : Option Regs) → after_phis r.top.regs r.top.block l.phis ≡ o → Close (stands_at r c o) (stands_at t c (after_phis regs r.top.block (filter (λ (x : Phi). kept r.top.func x.reg.0) l.phis)))
          by_phis None is = lost (inr refl)
          by_phis (Some old1) is =
              let a = phis_close l.phis (λ x has k en in_it. facts.phis r.top.func c l x en e has k in_it) old1 is in
              subst (λ o. Close (stands_at r c (Some old1)) (stands_at t c o)) (sym a.is)
              (stand ps below m 0 a.new1 made w refl going ground twins (record {
                code = l;
                is_code = e;
                place = refl;
                regs = a.lower;
                homes = λ h home k.
                    let o = a.homes h (λ x has. facts.home_phis r.top.func h c l x home e has) in
                    subst (λ u. HomeBoth P u (a.new1 h)) (sym o.0) (subst (λ u. HomeBoth P (r.top.regs h) u) (sym o.1) (top.homes h home k));
                blocks = top.blocks;
              }) acts)

      end_close : (end : FlatEnd) (e e' : Effect) → Matches P Same Same e e' → Ends end e → Close (applied p r e) (applied q t e')
      end_close end e e' (goes {x = c}) a = goes_close c (block_of (p.body r.top.func) c) refl
      end_close end e e' (returns {v = v} {u = u} b) a = returned_close r.below below acts refl refl v u b
      end_close end e e' broken a = lost (inl refl)
      end_close end e e' no_source a = lost (inr refl)
      end_close end e e' no_follower a = no_target refl
      end_close end e e' (sets b) a = absurd a
      end_close end e e' allocates a = absurd a
      end_close end e e' (stores b) a = absurd a
      end_close end e e' puts a = absurd a
      end_close end e e' takes a = absurd a
      end_close end e e' (enters b) a = absurd a
      end_close end e e' stops a = absurd a

    -- ---- one turn

    step_going : (o : Program) (r : Run) → r.status ≡ Going → flat_step o r ≡ in_block o r (block_of (o.body r.top.func) r.top.block)
    unfolding flat_step
    step_going o r e = ap (turn_of o r) e

    step_ended : (o : Program) (r : Run) (w : ℕ) → r.status ≡ Ended w → flat_step o r ≡ r
    unfolding flat_step
    step_ended o r w e = ap (turn_of o r) e

    -- how many instructions are ahead in the block
    abbrev to_go : Option FlatBlock → ℕ → ℕ
    to_go None n = 0
    to_go (Some k) n = length k.code - n

    abbrev left : Run → ℕ
    left r = to_go (block_of (p.body r.top.func) r.top.block) r.top.place

    module _ (FineP FineQ : Run → Type 0) (on_p : (r : Run) → FineP r → FineP (flat_step p r)) (on_q : (r : Run) → FineQ r → FineQ (flat_step q r)) (not_p : (r : Run) → FineP r → r.status ≢ Stuck) (not_q : (r : Run) → FineQ r → r.status ≢ Stuck) where
      record Kept (r s : Run) : Type 0 where
        fine_p : FineP r
        fine_q : FineQ s
        lasts : (r.status ≡ Undefined) → ⊥
        close : Close r s

      lasting : (t : Status) → t ≢ Stuck → t ≢ Undefined → IsLasting t
      lasting Going a b = tt
      lasting (Ended w) a b = tt
      lasting Undefined a b = b refl
      lasting Stuck a b = a refl

      close_meets : (r s : Run) → FineP r → FineQ s → (r.status ≡ Undefined → ⊥) → Close r s → Meets r s
      close_meets r s f fq d (stand ps below m j regs made w is going ground twins top acts) = subst (λ (y : Run). Meets r y) (sym is) (record {
        agrees = record { same_output = refl; same_status = refl; lasting = lasting r.status (not_p r f) d };
        shallow = le_of_eq (ap (λ n. n + 1) (same_depth (Paired ps) r.top.waiting w r.below below acts));
      })
      close_meets r s f fq d (over w e u out deep) = record {
        agrees = record { same_output = sym out; same_status = e ∙ sym u; lasting = lasting r.status (not_p r f) d };
        shallow = le_of_eq (ap (λ n. n + 1) deep);
      }
      close_meets r s f fq d (lost bad) = absurd (⊎_elim d (not_p r f) bad)
      close_meets r s f fq d (no_target bad) = absurd (not_q s fq bad)

      kept_meets : (r s : Run) → Kept r s → Meets r s
      kept_meets r s k = close_meets r s k.fine_p k.fine_q k.lasts k.close

      abbrev Turns : Run → Run → Type 0
      Turns r s = Step p q Kept left r s

      breaks_here : (r s : Run) → Meets r s → (flat_step p r).status ≡ Undefined → Turns r s
      breaks_here r s m u =
          breaks (λ i. record { undefined = u; kept = subst (λ o. IsPrefix o (iterate (flat_step q) i s).output) (sym m.agrees.same_output ∙ sym (undefined_keeps p r u)) (output_grows q i s) })

      by_status : (r s : Run) → Meets r s → ((flat_step p r).status ≢ Undefined → Turns r s) → (t : Status) → (flat_step p r).status ≡ t → Turns r s
      by_status r s m on Undefined e = breaks_here r s m e
      by_status r s m on Going e = on (λ u. let y : Going ≡ Undefined = sym e ∙ u in absurd cc)
      by_status r s m on (Ended w) e = on (λ u. let y : Ended w ≡ Undefined = sym e ∙ u in absurd cc)
      by_status r s m on Stuck e = on (λ u. let y : Stuck ≡ Undefined = sym e ∙ u in absurd cc)

      both_turn : (r s : Run) → Kept r s → Close (flat_step p r) (flat_step q s) → Turns r s
      both_turn r s k c = by_status r s (kept_meets r s k) (λ d. turning.goes 1 (record { fine_p = on_p r k.fine_p; fine_q = on_q s k.fine_q; lasts = d; close = c })
          (λ i less. let z : 0 ≡ i = omega (arith, less) in inl (subst (λ n. Meets r (iterate (flat_step q) n s)) z (kept_meets r s k))) (λ z. absurd (omega (arith, z)))) (flat_step p r).status refl

      -- the source goes on alone
      alone_turn : (r s : Run) → Kept r s → Close (flat_step p r) s → left (flat_step p r) < left r → Turns r s
      alone_turn r s k c less = by_status r s (kept_meets r s k) (λ d. turning.goes 0 (record { fine_p = on_p r k.fine_p; fine_q = k.fine_q; lasts = d; close = c })
          (λ i lt. absurd (omega (arith, lt))) (λ z. less)) (flat_step p r).status refl

      stuck_turn : (r s : Run) → Kept r s → (e : Run) → flat_step p r ≡ e → e.status ≡ Stuck → Turns r s
      stuck_turn r s k e is stuck = absurd (not_p (flat_step p r) (on_p r k.fine_p) (ap (λ (z : Run). z.status) is ∙ stuck))

      module _ (r : Run) (ps : List (ℕ × ℕ)) (below : List Activation) (m : Memory) (j : ℕ) (regs : Regs) (made : List ℕ) (w : Option RegId) (going : r.status ≡ Going) (ground : Grounded (Paired ps)) (twins : Twins (Paired ps) r.memory m)
          (top : Stand (Paired ps) r.top.func r.top.block r.top.place r.top.regs r.top.made j regs made) (acts : Acts (Paired ps) r.top.waiting w r.below below) (k : Kept r (at r below m j regs made w)) where
        abbrev to : Run
        to = at r below m j regs made w

        abbrev keep : ℕ → Bool
        keep = kept r.top.func

        old_turn : (o : Option FlatInstr) → slice_get top.code.code r.top.place ≡ o → flat_step p r ≡ applied p r (what_stands r top.code o)
        old_turn o e = step_going p r going ∙ ap (in_block p r) top.is_code ∙ ap (λ x. applied p r (what_stands r top.code x)) e

        new_turn : (o : Option FlatInstr) → slice_get (filter_map (instr_kept keep) top.code.code) j ≡ o → flat_step q to ≡ applied q to (what_stands to (block_kept keep top.code) o)
        new_turn o e = step_going q to going ∙ ap (in_block q to) (block_in r.top.func r.top.block top.code top.is_code) ∙ ap (λ x. applied q to (what_stands to (block_kept keep top.code) x)) e

        both_close : (e f : Effect) → flat_step p r ≡ applied p r e → flat_step q to ≡ applied q to f → Close (applied p r e) (applied q to f) → Turns r to
        both_close e f is_old is_new c = both_turn r to k (subst (λ (y : Run). Close y (flat_step q to)) (sym is_old) (subst (λ (y : Run). Close (applied p r e) y) (sym is_new) c))

        kept_turn : (i l : FlatInstr) → slice_get top.code.code r.top.place ≡ Some i → instr_kept keep i ≡ Some l → Turns r to
        kept_turn i l here is =
            let need = facts.code r.top.func r.top.block r.top.place top.code i l top.is_code here is in
            let at_j : slice_get (filter_map (instr_kept keep) top.code.code) j ≡ Some l = ap (slice_get (filter_map (instr_kept keep) top.code.code)) top.place ∙ (kept_next keep top.code.code r.top.place i l here is).0 in
            let new : flat_step q to ≡ applied q to (lose keep (effect regs m i)) = new_turn (Some l) at_j ∙ ap (applied q to) (lose_effect keep regs m i l is) in
            by_kind i here is need new
          where
            plain : (i : FlatInstr) → slice_get top.code.code r.top.place ≡ Some i → instr_kept keep i ≡ Some l → AreNeeded keep (used_by i) × Named (used_by i) → flat_step q to ≡ applied q to (lose keep (effect regs m i)) → IsPlain i → Turns r to
            plain i here is need new pl =
                let row = needed_row keep (Paired ps) Same Same r.memory m twins.below r.top.regs regs top.regs i need.0 (all_fit (Paired ps) ground (used_by i) need.1) in
                let match = subst (λ x. Matches (Paired ps) Same Same (effect r.top.regs r.memory i) (effect regs m x)) (same_instr i) row in
                both_close (effect r.top.regs r.memory i) (lose keep (effect regs m i)) (old_turn (Some i) here) new
                (step r ps below m j regs made w going ground twins top acts i l here is (effect r.top.regs r.memory i) (effect regs m i) match pl (effect_writes r.top.regs r.memory i) (effect_plain r.top.regs r.memory i pl) (effect_plain regs m i pl))

            by_kind : (i : FlatInstr) → slice_get top.code.code r.top.place ≡ Some i → instr_kept keep i ≡ Some l → AreNeeded keep (used_by i) × Named (used_by i) → flat_step q to ≡ applied q to (lose keep (effect regs m i)) → Turns r to
            by_kind (ins.Alloca d size align) here is need new = both_close (Allocates d size align) (Allocates d size align) (old_turn (Some (ins.Alloca d size align)) here) new
                (alloca_close r ps below m j regs made w going ground twins top acts d size align l here is (kept_true (keep d.0) (ins.Alloca d size align) l is))
            by_kind (ins.Bin d op x a b) here is need new = plain (ins.Bin d op x a b) here is need new tt
            by_kind (ins.Icmp d c x a b) here is need new = plain (ins.Icmp d c x a b) here is need new tt
            by_kind (ins.Select d c a b) here is need new = plain (ins.Select d c a b) here is need new tt
            by_kind (ins.Cast d c from to a) here is need new = plain (ins.Cast d c from to a) here is need new tt
            by_kind (ins.Copy d a) here is need new = plain (ins.Copy d a) here is need new tt
            by_kind (ins.Load d x align a) here is need new = plain (ins.Load d x align a) here is need new tt
            by_kind (ins.Store x align v a) here is need new = plain (ins.Store x align v a) here is need new tt
            by_kind (ins.Gep d a y ts) here is need new = plain (ins.Gep d a y ts) here is need new tt
            by_kind (ins.Call d f args) here is need new = plain (ins.Call d f args) here is need new tt
            by_kind (ins.Put d a) here is need new = plain (ins.Put d a) here is need new tt
            by_kind (ins.Get d) here is need new = plain (ins.Get d) here is need new tt
            by_kind (ins.Exit a) here is need new = plain (ins.Exit a) here is need new tt

        lost_turn : (i : FlatInstr) → slice_get top.code.code r.top.place ≡ Some i → instr_kept keep i ≡ None → Turns r to
        lost_turn i here is = by_effect (effect r.top.regs r.memory i) refl (drops keep r.top.regs r.memory i is)
          where
            nearer : (e : Run) → flat_step p r ≡ e → e.top.func ≡ r.top.func → e.top.block ≡ r.top.block → e.top.place ≡ r.top.place + 1 → left (flat_step p r) < left r
            nearer e is same_func same_block next =
                let lt = slice_get_within top.code.code r.top.place i here in
                let now : left r ≡ length top.code.code - r.top.place = ap (λ o. to_go o r.top.place) top.is_code in
                let later : left (flat_step p r) ≡ length top.code.code - (r.top.place + 1) =
                ap left is ∙ ap₂ (λ f b. to_go (block_of (p.body f) b) e.top.place) same_func same_block ∙ ap (λ o. to_go o e.top.place) top.is_code ∙ ap (λ n. length top.code.code - n) next in
                omega (arith, lt, now, later)

            by_effect : (e : Effect) → effect r.top.regs r.memory i ≡ e → Drops keep e → Turns r to
            by_effect (Sets d v) eq k' = let turn = old_turn (Some i) here ∙ ap (applied p r) eq in
                alone_turn r to k (subst (λ (y : Run). Close y to) (sym turn) (drop_close r ps below m j regs made w going ground twins top acts i here is (Sets d v) k')) (nearer _ turn refl refl refl)
            by_effect (Allocates d size align) eq k' = let turn = old_turn (Some i) here ∙ ap (applied p r) eq in
                alone_turn r to k (subst (λ (y : Run). Close y to) (sym turn) (drop_close r ps below m j regs made w going ground twins top acts i here is (Allocates d size align) k')) (nearer _ turn refl refl refl)
            by_effect NoMeaning eq k' = breaks_here r to (kept_meets r to k) (ap (λ (y : Run). y.status) (old_turn (Some i) here ∙ ap (applied p r) eq))
            by_effect NoValue eq k' = stuck_turn r to k _ (old_turn (Some i) here ∙ ap (applied p r) eq) refl
            by_effect (Stores n) eq k' = absurd k'
            by_effect (Puts d b) eq k' = absurd k'
            by_effect (Takes d) eq k' = absurd k'
            by_effect (Enters d f args) eq k' = absurd k'
            by_effect (Goes b) eq k' = absurd k'
            by_effect (Returns v) eq k' = absurd k'
            by_effect (Stops v) eq k' = absurd k'

        end_turn : slice_get top.code.code r.top.place ≡ None → Turns r to
        end_turn past =
            let need = facts.ends r.top.func r.top.block top.code top.is_code in
            let at_j : slice_get (filter_map (instr_kept keep) top.code.code) j ≡ None = ap (slice_get (filter_map (instr_kept keep) top.code.code)) top.place ∙ at_end keep top.code.code r.top.place past in
            let row = end_matches (Paired ps) Same Same (only keep r.top.regs) regs top.code.end (all_fit (Paired ps) ground (used_at_end top.code.end) need.1) top.regs in
            let match = subst (λ x. Matches (Paired ps) Same Same (end_effect r.top.regs top.code.end) (end_effect regs x)) (same_end top.code.end)
            (subst (λ x. Matches (Paired ps) Same Same x (end_effect regs (end_to Same Same top.code.end))) (end_only keep r.top.regs top.code.end need.0) row) in
            both_close (end_effect r.top.regs top.code.end) (end_effect regs top.code.end) (old_turn None past) (new_turn None at_j)
            (end_close r ps below m j regs made w going ground twins top acts top.code.end (end_effect r.top.regs top.code.end) (end_effect regs top.code.end) match (end_ends r.top.regs top.code.end))

        stand_turn : (o : Option FlatInstr) → slice_get top.code.code r.top.place ≡ o → Turns r to
        stand_turn None past = end_turn past
        stand_turn (Some i) here = by_kept (instr_kept keep i) refl
          where
            by_kept : (o : Option FlatInstr) → instr_kept keep i ≡ o → Turns r to
            by_kept None is = lost_turn i here is
            by_kept (Some l) is = kept_turn i l here is

      close_turn : (r s : Run) → Kept r s → Close r s → Turns r s
      close_turn r s k (stand ps below m j regs made w is going ground twins top acts) =
          subst (λ (y : Run). Turns r y) (sym is) (stand_turn r ps below m j regs made w going ground twins top acts (subst (λ (y : Run). Kept r y) is k) (slice_get top.code.code r.top.place) refl)
      close_turn r s k (over w e u out deep) =
          both_turn r s k (subst (λ (y : Run). Close y (flat_step q s)) (sym (step_ended p r w e)) (subst (λ (y : Run). Close r y) (sym (step_ended q s w u)) (over w e u out deep)))
      close_turn r s k (lost bad) = absurd (⊎_elim k.lasts (not_p r k.fine_p) bad)
      close_turn r s k (no_target bad) = absurd (not_q s k.fine_q bad)

      -- ---- whole runs

      module _ (input : List ℕ) (fine_p : FineP (flat_start p input)) (fine_q : FineQ (flat_start q input)) (twins : Twins (Paired (diagonal (length p.globals))) p.globals p.globals) where
        starts : (o : Option FlatBody) → p.body p.main ≡ o → Kept (flat_start p input) (flat_start q input)
        starts None e = absurd (not_p (flat_step p (flat_start p input)) (on_p (flat_start p input) fine_p) (ap (λ (z : Run). z.status) (step_going p (flat_start p input) refl ∙ ap (λ u. in_block p (flat_start p input) (block_of u 0)) e)))
        starts (Some body) e = record {
          fine_p = fine_p;
          fine_q = fine_q;
          lasts = λ u. let y : Going ≡ Undefined = u in absurd cc;
          close =
              let z = facts.entry p.main body e in
              stand (diagonal (length p.globals)) [] p.globals 0 (λ n. None) [] None same refl (λ x lt. on_diagonal (length p.globals) x lt) twins (record {
                code = z.0;
                is_code = ap (λ o. block_of o 0) e ∙ z.1;
                place = refl;
                regs = λ x v h. absurd (none_at (kept p.main x) v h);
                homes = λ h home kh. inl (refl, refl);
                blocks = λ c one. absurd one;
              }) tt;
        }
          where
            none_at : (b : Bool) (v : Value) → (if b then None else None) ≡ Some v → ⊥
            none_at true v e = cc
            none_at false v e = cc

            same : flat_start q input ≡ flat_start p input
            same = λ i. record {
              top = record { func = facts.main i; block = 0; place = 0; regs = λ n. None; made = []; waiting = None };
              below = [];
              memory = facts.globals i;
              input = input;
              output = [];
              status = Going;
            }

        pub thinned_follows : Follows (flat_run p input) (flat_run q input)
        thinned_follows = follows p q Kept left kept_meets (λ r s k. close_turn r s k k.close) (flat_start p input) (flat_start q input) (starts (p.body p.main) refl)
