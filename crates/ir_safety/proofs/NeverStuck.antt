-- The run of a safe program is never stuck: each turn keeps what is said of where it stands.
use Rattle.std.proofs.Common.{◌≡◌, ◌≢◌, ◌⊎◌, inl, inr, ⊎_elim, ℕ, zero, suc, ◌<◌, ◌≤◌, List, [], ◌∷◌, ◌++◌, map, length, take, Option, Some, None, slice_get, All, Contains, refl, sym, ap, ◌∙◌, subst, arith}
use Rattle.std.specs.List.{AllByRecursion as Each}
use Rattle.std.specs.Fn.{iterate}
use Rattle.std.proofs.lemmas.Option.{slice_get_cases}
use Rattle.std.proofs.lemmas.List.Elements.{All-head, All-tail, All-contains}
use Rattle.oi_base.specs.declared.words.Width.TheVariants.{W32}
use Rattle.oi_base.specs.declared.ids.RegId.{RegId}
use Rattle.oi_base.specs.Follows.{Status, Going, Ended, Undefined, Stuck}
use Rattle.ir_core.specs.declared.flat.Scalar.{Scalar}
use Rattle.ir_core.specs.declared.flat.Scalar.TheVariants.{Word, Pointer}
use Rattle.ir_core.specs.declared.flat.FlatOp.{FlatOp}
use Rattle.ir_core.specs.declared.flat.FlatOp.TheVariants.{Reg}
use Rattle.ir_core.specs.declared.flat.FlatOp.TheVariants as ops
use Rattle.ir_core.specs.declared.flat.Entry.{Entry}
use Rattle.ir_core.specs.declared.flat.Phi.{Phi}
use Rattle.ir_core.specs.declared.flat.FlatInstr.{FlatInstr}
use Rattle.ir_core.specs.declared.flat.FlatInstr.TheVariants.{Bin, Icmp, Select, Cast, Copy, Alloca, Load, Store, Gep, Call, Put, Get, Exit}
use Rattle.ir_core.specs.declared.flat.FlatBlock.{FlatBlock}
use Rattle.ir_core.specs.declared.flat.FlatBody.{FlatBody}
use Rattle.ir_core.specs.Memory.{Value, At, kill_all}
use Rattle.ir_core.specs.Rows.{Read, Is, IsPoison, IsOther, as_word}
use Rattle.ir_core.specs.Flat.{Program, Activation, Run, Regs, Effect, Sets, Allocates, Stores, Puts, Takes, Enters, Goes, Returns, Stops, NoMeaning, NoValue, without, got, at_most_one, entered, entry_for, entry_value, block_of, stands_at, goes_into, ended, back, returned, applied, what_stands, in_block, turn_of, flat_step, flat_start, flat_run}
use Rattle.ir_core.specs.Formed.{FuncType, HasType, Receives, IsBlock, IsEdge, IsWritten, ComesIn, ComesFirst, of_result, written_by, used_by, used_at_end, targets}
use Rattle.ir_core.proofs.Lists.{Has, contains, has_in}
use Rattle.ir_safety.proofs.Safe.{NotFalse, true_too, and_so, in_turn, each_too, IsSafeBody, IsSafe}
use Rattle.ir_safety.proofs.Typed.{IsOf, IsWord, word_read}
use Rattle.ir_safety.proofs.Effects.{IsThere, AreOf, Callee, MayDo, MayEnd, CallsOne, value_there, effect_may, end_may}
use Rattle.ir_safety.proofs.Elements.{none_is_none, same_some, one_at}
use Rattle.ir_safety.proofs.Standing.{HasReg, IsAwaited, set_has, TakesValue, phis_taken, entry_first, argument_at, taken_at, Stands, StandsWell, AreWaiting, Runs, IsFine, goes_on, is_over, set_stands, none_stands, call_stands, result_fine}

going_not_stuck : Going ≡ Stuck → ⊥
going_not_stuck e = cc

ended_not_stuck : (w : ℕ) → Ended w ≡ Stuck → ⊥
ended_not_stuck w e = cc

ended_not_going : (w : ℕ) → Ended w ≡ Going → ⊥
ended_not_going w e = cc

undefined_not_stuck : Undefined ≡ Stuck → ⊥
undefined_not_stuck e = cc

undefined_not_going : Undefined ≡ Going → ⊥
undefined_not_going e = cc

points : (t : Scalar) (b : ℕ) → t ≡ Pointer → IsOf t (At b 0)
points t b e = subst (λ (k : Scalar). IsOf k (At b 0)) (sym e) refl

no_phi : (k : FlatBlock) (q : ℕ) → k.phis ≡ [] → Contains (map (λ (g : Phi). g.reg.0) k.phis) q → ⊥
no_phi k q e h = has_in (map (λ (g : Phi). g.reg.0) []) q (subst (λ (fs : List Phi). Contains (map (λ (g : Phi). g.reg.0) fs) q) e h)

module _ (p : Program) (types : ℕ → ℕ → Scalar) (funcs : ℕ → FuncType) (safe : IsSafe p types funcs) where
  abbrev Fine : Run → Type 0
  Fine r = IsFine p types funcs r

  abbrev Well : Option RegId → Activation → Type 0
  Well d a = StandsWell p types funcs d a

  -- ---- a callee's first turn

  enters : (g : ℕ) (args : List (Option Value)) (c : Callee p (types g) funcs g) → AreOf args (funcs g).params → Stands p types funcs None g 0 0 (λ q. at_most_one (slice_get (take c.0.params args) q))
  enters g args c of = record {
    body = c.0;
    is_body = c.1;
    block = c.2.0;
    is_block = c.2.1;
    older = [];
    path = refl;
    values = by_place;
  }
    where
      there : IsSafeBody (types g) funcs (funcs g) c.0
      there = safe.bodies g c.0 c.1

      param : (q : ℕ) → q < c.0.params → HasReg (types g) (λ (k : ℕ). at_most_one (slice_get (take c.0.params args) k)) q
      param q lt =
          let count = there.own_params.0 in
          let a = argument_at args (funcs g).params q of (omega (arith, lt, count)) in (
            a.0,
            ap at_most_one (taken_at c.0.params args q lt ∙ a.2),
            subst (λ (k : Scalar). IsOf k a.0) (sym (there.own_params.1 q a.1 a.3)) a.4,
          )

      by_place : (q : ℕ) → IsWritten c.2.0 0 q ⊎ ComesIn c.0 [] q → IsAwaited None q ⊎ HasReg (types g) (λ (k : ℕ). at_most_one (slice_get (take c.0.params args) k)) q
      by_place q (inl (inl phi)) = absurd (no_phi c.2.0 q c.2.2 phi)
      by_place q (inl (inr h)) = let lt = h.2 in absurd (omega (arith, lt))
      by_place q (inr lt) = inr (param q lt)

  -- ---- a run that goes on

  module _ (r : Run) (going : r.status ≡ Going) (runs : Runs p types funcs r) where
    abbrev f : ℕ
    f = r.top.func

    abbrev s : Well None r.top
    s = runs.top

    abbrev here : IsSafeBody (types f) funcs (funcs f) s.body
    here = safe.bodies f s.body s.is_body

    ends_well : (w : ℕ) → Fine (record r { status = Ended w })
    ends_well w = is_over p types funcs _ (ended_not_stuck w) (ended_not_going w)

    undefined_well : Fine (record r { status = Undefined })
    undefined_well = is_over p types funcs _ undefined_not_stuck undefined_not_going

    goes_well : (q : Run) → q.status ≡ Going → Runs p types funcs q → Fine q
    goes_well q = goes_on p types funcs q

    -- ---- values that are there

    -- what is written before an instruction of the block that is not after the place
    written_before : (n q : ℕ) → n ≤ r.top.place → IsWritten s.block n q → IsWritten s.block r.top.place q
    written_before n q le (inl phi) = inl phi
    written_before n q le (inr h) = let lt = h.2 in inr (h.0, h.1, omega (arith, lt), h.3, h.4)

    reg_there : (n q : ℕ) → n ≤ r.top.place → IsWritten s.block n q ⊎ ComesIn s.body s.older q → HasReg (types f) r.top.regs q
    reg_there n q le w = ⊎_elim (λ none. absurd none) (λ h. h) (s.values q (⊎_elim (λ h. inl (written_before n q le h)) (λ c. inr c) w))

    op_there : (n : ℕ) → n ≤ r.top.place → (o : FlatOp) → ComesFirst s.body s.older s.block n o → IsThere (types f) r.top.regs o
    op_there n le (Reg q) c = reg_there n q.0 le c
    op_there n le (ops.Word a) c = tt
    op_there n le ops.Null c = tt
    op_there n le (ops.Address g k) c = tt
    op_there n le ops.Poison c = tt

    ops_there : (n : ℕ) → n ≤ r.top.place → (os : List FlatOp) → All (ComesFirst s.body s.older s.block n) os → Each (IsThere (types f) r.top.regs) os
    ops_there n le [] h = tt
    ops_there n le (o ∷ os) h = (op_there n le o (All-head (ComesFirst s.body s.older s.block n) o os h), ops_there n le os (All-tail (ComesFirst s.body s.older s.block n) o os h))

    -- ---- instructions

    got_well : (i : FlatInstr) → slice_get s.block.code r.top.place ≡ Some i → (d : Option RegId) (bytes : List ℕ) → written_by i ≡ of_result d → Receives (types f) d (Some (Word W32)) → All (λ b. b < 256) bytes → Fine (got r d bytes)
    got_well i at d [] w t small = result_fine p types funcs r s i at d 4294967295 w t (omega arith) going runs.below runs.input
    got_well i at d (b ∷ bs) w t small =
        let few = All-head (λ (c : ℕ). c < 256) b bs small in
        result_fine p types funcs (record r { input = bs }) s i at d b w t (omega (arith, few)) going runs.below (All-tail (λ (c : ℕ). c < 256) b bs small)

    step_well : (i : FlatInstr) → slice_get s.block.code r.top.place ≡ Some i → (e : Effect) → MayDo p (types f) funcs (written_by i) e → Fine (applied p r e)
    step_well i at (Sets d v) h = goes_well _ going (record { top = set_stands p types funcs s i at d v h.0 h.1; below = runs.below; input = runs.input })
    step_well i at (Allocates d size align) h = goes_well _ going (record {
      top = set_stands p types funcs s i at d (At (length (without r.memory (r.top.regs d.0))) 0) h.0 (points (types f d.0) (length (without r.memory (r.top.regs d.0))) h.1);
      below = runs.below;
      input = runs.input;
    })
    step_well i at (Stores m) h = goes_well _ going (record { top = none_stands p types funcs s i at h; below = runs.below; input = runs.input })
    step_well i at (Puts d b) h = let few = h.2 in result_fine p types funcs (record r { output = r.output ++ b ∷ [] }) s i at d b h.0 h.1 (omega (arith, few)) going runs.below runs.input
    step_well i at (Takes d) h = got_well i at d r.input h.0 h.1 runs.input
    step_well i at (Enters d g args) h = subst (λ (o : Option FlatBody). Fine (entered r g args d o)) (sym h.3.1) (goes_well _ going (record {
      top = enters g args h.3 h.1;
      below = (h.2, call_stands p types funcs s i at d h.0, runs.below);
      input = runs.input;
    }))
    step_well i at (Goes b) h = absurd h
    step_well i at (Returns v) h = absurd h
    step_well i at (Stops w) h = ends_well w
    step_well i at NoMeaning h = undefined_well
    step_well i at NoValue h = absurd h

    calls_one : (i : FlatInstr) → slice_get s.block.code r.top.place ≡ Some i → NotFalse (CallsOne p (types f) funcs i)
    calls_one (Call d g args) at =
        and_so (safe.called f r.top.block r.top.place s.body s.block d g args s.is_body s.is_block at) (λ c. in_turn (safe.bodies g.0 c.0 c.1).entry (λ e. (c.0, c.1, e)))
    calls_one (Bin d op w a b) at = true_too tt
    calls_one (Icmp d c t a b) at = true_too tt
    calls_one (Select d c a b) at = true_too tt
    calls_one (Cast d c from to a) at = true_too tt
    calls_one (Copy d a) at = true_too tt
    calls_one (Alloca d size align) at = true_too tt
    calls_one (Load d t align a) at = true_too tt
    calls_one (Store t align v a) at = true_too tt
    calls_one (Gep d a k ts) at = true_too tt
    calls_one (Put d a) at = true_too tt
    calls_one (Get d) at = true_too tt
    calls_one (Exit a) at = true_too tt

    instr_well : (i : FlatInstr) → slice_get s.block.code r.top.place ≡ Some i → NotFalse (Fine (applied p r (what_stands r s.block (Some i))))
    instr_well i at =
        and_so (here.by_code r.top.block s.older s.block r.top.place i s.path s.is_block at) (λ used.
        and_so (here.code r.top.block r.top.place s.block i s.is_block at) (λ typed.
        in_turn (calls_one i at) (λ calls.
        step_well i at _ (effect_may p (types f) funcs r.top.regs r.memory i (ops_there r.top.place (omega arith) (used_by i) used) typed calls))))

    -- ---- ends of blocks

    module _ (past : length s.block.code ≤ r.top.place) where
      phi_taken : (b : ℕ) (k : FlatBlock) → IsEdge s.body r.top.block b → IsBlock s.body b k → (g : Phi) → Contains k.phis g → NotFalse (TakesValue (types f) r.top.regs r.top.block g)
      phi_taken b k edge is g in_it =
          and_so (here.phis r.top.block b k g edge is in_it) (λ e. one (entry_first r.top.block g.entries e.0 (has_in g.entries e.0 e.1) e.2))
        where
          one : (x : Entry) × Has g.entries x × (x.from.0 ≡ r.top.block) × (entry_for r.top.block g.entries ≡ Some x.value) → NotFalse (TakesValue (types f) r.top.regs r.top.block g)
          one x =
              let in_entries = contains g.entries x.0 x.1 in
              and_so (here.phi_types b k g is in_it) (λ typed.
              in_turn (here.by_phi r.top.block b s.older s.block k g x.0 (edge, s.path) s.is_block is in_it in_entries x.2) (λ first.
              let of = All-contains (λ (y : Entry). HasType (types f) y.value (types f g.reg.0)) g.entries x.0 typed in_entries in
              let v = value_there p (types f) funcs r.top.regs x.0.value (types f g.reg.0) (op_there (length s.block.code) past x.0.value first) of in
              (v.0, subst (λ (o : Option FlatOp). entry_value r.top.regs o ≡ Some v.0) (sym x.3) v.1, v.2)))

      block_entered : (b : ℕ) → IsEdge s.body r.top.block b → (k : FlatBlock) → IsBlock s.body b k → All (TakesValue (types f) r.top.regs r.top.block) k.phis → Fine (goes_into r b (Some k))
      block_entered b edge k is each =
          let taken = phis_taken (types f) r.top.regs r.top.block k.phis each in
          subst (λ (o : Option Regs). Fine (stands_at r b o)) (sym taken.1) (goes_well _ going (record {
            top = record {
              body = s.body;
              is_body = s.is_body;
              block = k;
              is_block = is;
              older = r.top.block ∷ s.older;
              path = (edge, s.path);
              values = λ q w. inr (taken.2 q (by_place q w));
            };
            below = runs.below;
            input = runs.input;
          }))
        where
          by_place : (q : ℕ) → IsWritten k 0 q ⊎ ComesIn s.body (r.top.block ∷ s.older) q → Has (map (λ (g : Phi). g.reg.0) k.phis) q ⊎ HasReg (types f) r.top.regs q
          by_place q (inl (inl phi)) = inl (has_in _ q phi)
          by_place q (inl (inr h)) = let lt = h.2 in absurd (omega (arith, lt))
          by_place q (inr (inl h)) =
              let same : h.0 ≡ s.block = one_at (slice_get s.body.blocks r.top.block) h.0 s.block h.1 s.is_block in
              inr (reg_there (length s.block.code) q past (inl (subst (λ (l : FlatBlock). IsWritten l (length l.code) q) same h.2)))
          by_place q (inr (inr c)) = inr (reg_there (length s.block.code) q past (inr c))

      went : (b : ℕ) → Contains (targets s.block.end) b → NotFalse (Fine (goes_into r b (block_of (p.body f) b)))
      went b to =
          and_so (here.in_range r.top.block b edge) (λ lt. ⊎_elim
          (λ k. in_turn (each_too (TakesValue (types f) r.top.regs r.top.block) k.0.phis (phi_taken b k.0 edge k.2)) (λ each.
          subst (λ (o : Option FlatBlock). Fine (goes_into r b o)) (sym (ap (λ (o : Option FlatBody). block_of o b) s.is_body ∙ k.2)) (block_entered b edge k.0 k.2 each)))
          (λ none. let le = none.0 in absurd (omega (arith, lt, le)))
          (slice_get_cases s.body.blocks b).1)
        where
          edge : IsEdge s.body r.top.block b
          edge = (s.block, s.is_block, to)

      word_ended : (q : Run) (x : Read) → IsWord 4294967296 x → Fine (ended q x)
      word_ended q (Is a) h = is_over p types funcs _ (ended_not_stuck a) (ended_not_going a)
      word_ended q IsPoison h = is_over p types funcs _ undefined_not_stuck undefined_not_going
      word_ended q IsOther h = absurd h

      -- what is returned is of the function's type
      abbrev IsReturned : Option Scalar → Option Value → Type 0
      IsReturned result None = result ≡ None
      IsReturned result (Some v) = (t : Scalar) × (result ≡ Some t) × IsOf t v

      back_well : (q : Run) (waiting : Option RegId) (v : Option Value) → q.status ≡ Going → Receives (types q.top.func) waiting (funcs f).result → IsReturned (funcs f).result v → Well waiting q.top → AreWaiting p types funcs q.top.func q.top.waiting q.below → All (λ b. b < 256) q.input → Fine (back q waiting v)
      back_well q None v on t h top below input = goes_well q on (record { top = top; below = below; input = input })
      back_well q (Some d) None on t h top below input = absurd (none_is_none (types q.top.func d.0) (sym h ∙ t))
      back_well q (Some d) (Some v) on t h top below input =
          let same : h.0 ≡ types q.top.func d.0 = same_some h.0 (types q.top.func d.0) (sym h.1 ∙ t) in
          let of : IsOf (types q.top.func d.0) v = subst (λ (k : Scalar). IsOf k v) same h.2 in
          goes_well _ on (record {
            top = record {
              body = top.body;
              is_body = top.is_body;
              block = top.block;
              is_block = top.is_block;
              older = top.older;
              path = top.path;
              values = λ x w. inr (set_has (types q.top.func) q.top.regs d.0 v of x (top.values x w));
            };
            below = below;
            input = input;
          })

      returned_well : (below : List Activation) (v : Option Value) → IsReturned (funcs f).result v → AreWaiting p types funcs f r.top.waiting below → Fine (returned r below v)
      returned_well [] None h w = absurd (none_is_none (Word W32) (sym h ∙ w))
      returned_well [] (Some v) h w =
          let same : h.0 ≡ Word W32 = same_some h.0 (Word W32) (sym h.1 ∙ w) in
          word_ended r (as_word 4294967296 v) (word_read W32 v (subst (λ (k : Scalar). IsOf k v) same h.2))
      returned_well (a ∷ as') v h w = back_well (record r { memory = kill_all r.memory r.top.made; top = a; below = as' }) r.top.waiting v going w.0 h w.1 w.2 runs.input

      end_step : (e : Effect) → MayEnd p (types f) funcs (funcs f).result (targets s.block.end) e → NotFalse (Fine (applied p r e))
      end_step (Goes b) h = went b h
      end_step (Returns None) h = true_too (returned_well r.below None h runs.below)
      end_step (Returns (Some v)) h = true_too (returned_well r.below (Some v) h runs.below)
      end_step NoMeaning h = true_too undefined_well
      end_step (Sets d v) h = absurd h
      end_step (Allocates d size align) h = absurd h
      end_step (Stores m) h = absurd h
      end_step (Puts d b) h = absurd h
      end_step (Takes d) h = absurd h
      end_step (Enters d g args) h = absurd h
      end_step (Stops w) h = absurd h
      end_step NoValue h = absurd h

      end_well : NotFalse (Fine (applied p r (what_stands r s.block None)))
      end_well =
          and_so (here.by_end r.top.block s.older s.block s.path s.is_block) (λ used.
          and_so (here.ends r.top.block s.block s.is_block) (λ typed.
          end_step _ (end_may p (types f) funcs (funcs f).result r.top.regs s.block.end (ops_there (length s.block.code) past (used_at_end s.block.end) used) typed)))

    turn_well : NotFalse (Fine (in_block p r (block_of (p.body f) r.top.block)))
    turn_well =
        subst (λ (o : Option FlatBlock). NotFalse (Fine (in_block p r o))) (sym (ap (λ (o : Option FlatBody). block_of o r.top.block) s.is_body ∙ s.is_block))
        (⊎_elim
        (λ h. subst (λ (o : Option FlatInstr). NotFalse (Fine (applied p r (what_stands r s.block o)))) (sym h.2) (instr_well h.0 h.2))
        (λ h. subst (λ (o : Option FlatInstr). NotFalse (Fine (applied p r (what_stands r s.block o)))) (sym h.1) (end_well h.0))
        (slice_get_cases s.block.code r.top.place).1)

  -- ---- all turns

  one_turn : (r : Run) → Fine r → NotFalse (Fine (flat_step p r))
  unfolding flat_step
  one_turn r fine = by_status r.status refl
    where
      by_status : (t : Status) → r.status ≡ t → NotFalse (Fine (turn_of p r t))
      by_status Going e = turn_well r e (fine.1 e)
      by_status (Ended w) e = true_too fine
      by_status Undefined e = true_too fine
      by_status Stuck e = true_too fine

  all_turns : (n : ℕ) (r : Run) → Fine r → NotFalse (Fine (iterate (flat_step p) n r))
  all_turns zero r fine = true_too fine
  all_turns (suc n) r fine = and_so (one_turn r fine) (λ next. all_turns n (flat_step p r) next)

  -- ---- the start

  module _ (input : List ℕ) (small : All (λ b. b < 256) input) where
    starts : Callee p (types p.main) funcs p.main → ((funcs p.main).params ≡ []) × ((funcs p.main).result ≡ Some (Word W32)) → Fine (flat_start p input)
    starts c t = goes_on p types funcs (flat_start p input) refl (record { top = top; below = t.1; input = small })
      where
        none : c.0.params ≡ 0
        none =
            let empty : length (funcs p.main).params ≡ 0 = ap length t.0 in
            let count = (safe.bodies p.main c.0 c.1).own_params.0 in
            omega (arith, empty, count)

        top : Well None (flat_start p input).top
        top =
            subst (λ (n : ℕ). Stands p types funcs None p.main 0 0 (λ q. at_most_one (slice_get (take n []) q))) none
            (enters p.main [] c (subst (AreOf []) (sym t.0) tt))

    started : NotFalse (Fine (flat_start p input))
    started = and_so safe.has_main (λ b. and_so safe.main_type (λ t. in_turn (safe.bodies p.main b.0 b.1).entry (λ e. starts (b.0, b.1, e) t)))

    pub never_stuck : (n : ℕ) → (flat_run p input n).status ≢ Stuck
    never_stuck n stuck = and_so started (all_turns n (flat_start p input)) (λ fine. fine.0 stuck)

    -- where the run goes on, it stands on a path, with values of their types in the registers that are written there
    pub runs_on : (n : ℕ) → (iterate (flat_step p) n (flat_start p input)).status ≡ Going → NotFalse (Runs p types funcs (iterate (flat_step p) n (flat_start p input)))
    runs_on n going = in_turn (and_so started (all_turns n (flat_start p input))) (λ fine. fine.1 going)
