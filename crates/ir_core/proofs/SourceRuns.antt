-- A module's run and that of its plain bodies stand alike after each turn.
use Rattle.std.proofs.Common.{◌≡◌, ◌≢◌, ℕ, zero, suc, ◌+◌, ◌==◌, Bool, true, false, not, cond, if◌then◌else◌, List, [], ◌∷◌, ◌++◌, map, length, take, Option, Some, None, slice_get, refl, sym, ap, ◌∙◌, subst, arith}
use Rattle.std.specs.List.{position_or_len, find, AllByRecursion as Each}
use Rattle.std.specs.Option.{option_map, option_map_or, option_and_then}
use Rattle.std.specs.Fn.{iterate}
use Rattle.std.proofs.lemmas.Bool.Decides.{nat_tests}
use Rattle.std.proofs.lemmas.Option.{slice_get-map}
use Rattle.oi_base.specs.declared.ids.RegId.{RegId}
use Rattle.oi_base.specs.Follows.{Status, Going, Ended, Undefined, Stuck}
use Rattle.ir_core.specs.declared.flat.FlatInstr.{FlatInstr}
use Rattle.ir_core.specs.declared.flat.FlatInstr.TheVariants.{Alloca}
use Rattle.ir_core.specs.declared.flat.FlatBlock.{FlatBlock}
use Rattle.ir_core.specs.declared.func.Block.{Block}
use Rattle.ir_core.specs.declared.func.Func.{Func}
use Rattle.ir_core.specs.declared.func.Param.{Param}
use Rattle.ir_core.specs.declared.op.LocalId.{LocalId}
use Rattle.ir_core.specs.declared.module.Module.{Module}
use Rattle.ir_core.specs.Memory.{Value, Bits, At, Memory, fresh, kill_all}
use Rattle.ir_core.specs.Rows.{Read, Is, IsPoison, IsOther, as_word}
use Rattle.ir_core.specs.Flat.{Activation, Run, Regs, Effect, Sets, Allocates, Stores, Puts, Takes, Enters, Goes, Returns, Stops, NoMeaning, NoValue, with_reg, seen, effect, end_effect, applied, what_stands, in_block, block_of, ends, with_result, without, allocated, got, entered, at_most_one, after_phis, goes_into, stands_at, returned, back, last, ended, flat_step, flat_start, flat_run}
use Rattle.ir_core.specs.Formed.{written_by, of_result}
use Rattle.ir_core.specs.Instructions.{block_rows}
use Rattle.ir_core.specs.Source.{is_labelled, block_at, entry_label, bound, called, carried_out, at_block, source_step, source_start, main_number, src}
use Rattle.ir_core.specs.Constants.{global_memory}
use Rattle.ir_core.specs.Plain.{other_reg, other_instr, renumbered, numbers, is_local, plain_body, plain_program, RunsAsTheSource}
use Rattle.ir_core.proofs.Renamed.{other_effect, effect_other, end_other}
use Rattle.ir_core.proofs.Written.{Fits, EndFits, fits, leads}
use Rattle.ir_core.proofs.Sound.{IsAt, coming, Sound}
use Rattle.ir_core.proofs.Alike.{act, run, Alike, Waits, no_result, result, Below, bottom, over, Related, both_go, both_stand, block_found, write_same, both_each, coming_at, not_again, written_alike, next_alike, SameMaps, phis_same}

-- ---- statuses

ended_not_going : (w : ℕ) → Ended w ≢ Going
ended_not_going w e = cc

undefined_not_going : Undefined ≢ Going
undefined_not_going e = cc

stuck_not_going : Stuck ≢ Going
stuck_not_going e = cc

-- ---- a callee's start

module _ (g : Func) where
  abbrev names_of : List Param → List LocalId
  names_of ps = map (λ (p : Param). p.name) ps

  args_same : (ps : List Param) (rest : List LocalId) (args : List (Option Value)) (q : ℕ) → at_most_one (slice_get (take (length ps) args) (position_or_len (is_local q) (names_of ps ++ rest))) ≡ bound ps args q
  args_same [] rest args q = refl
  args_same (p ∷ ps) rest [] q = refl
  args_same (p ∷ ps) rest (v ∷ vs) q = by_test (p.name.0 == q) refl (args_same ps rest vs q)
    where
      by_test : (t : Bool) → (p.name.0 == q) ≡ t → at_most_one (slice_get (take (length ps) vs) (position_or_len (is_local q) (names_of ps ++ rest))) ≡ bound ps vs q
          → at_most_one (slice_get (take (length (p ∷ ps)) (v ∷ vs)) (cond (not (p.name.0 == q)) (1 + position_or_len (is_local q) (names_of ps ++ rest)) 0)) ≡ (if p.name.0 == q then v else bound ps vs q)
      by_test true t h = rw t refl
      by_test false t h =
          let n : 1 + position_or_len (is_local q) (names_of ps ++ rest) ≡ suc (position_or_len (is_local q) (names_of ps ++ rest)) = omega arith in
          rw (t, n) h

not_bound : (ps : List Param) (args : List (Option Value)) (d : ℕ) → Each (λ (p : Param). p.name.0 ≢ d) ps → bound ps args d ≡ None
not_bound [] args d h = refl
not_bound (p ∷ ps) [] d h = refl
not_bound (p ∷ ps) (v ∷ vs) d h = by_test (p.name.0 == d) refl (not_bound ps vs d h.1)
  where
    by_test : (t : Bool) → (p.name.0 == d) ≡ t → bound ps vs d ≡ None → (if t then v else bound ps vs d) ≡ None
    by_test true t rest = let same : p.name.0 ≡ d = grind (arith, nat_tests) in absurd (h.0 same)
    by_test false t rest = rest

none_bound : (ps : List Param) (args : List (Option Value)) (ds : List ℕ) → Each (λ d. Each (λ (p : Param). p.name.0 ≢ d) ps) ds → Each (λ d. bound ps args d ≡ None) ds
none_bound ps args [] h = tt
none_bound ps args (d ∷ ds) h = (not_bound ps args d h.0, none_bound ps args ds h.1)

entry_first : (g : Func) → (numbers g).block (entry_label g) ≡ 0
entry_first g = by_blocks g.blocks refl
  where
    by_blocks : (bs : List Block) → g.blocks ≡ bs → position_or_len (is_labelled (option_map_or (λ (b : Block). b.label.0) (slice_get bs 0) 0)) bs ≡ 0
    by_blocks [] e = refl
    by_blocks (b ∷ bs) e = let t : (b.label.0 == b.label.0) ≡ true = grind (arith, nat_tests) in rw t refl

-- ---- ends

pub same_depth : (m : Module) {w w' : Option RegId} {as' bs : List Activation} → Below m w w' as' bs → length bs ≡ length as'
same_depth m (bottom w w') = refl
same_depth m (over g f x p old new made v v' w w' as' bs alike waits below) = ap suc (same_depth m below)

-- both end, with the same output at the same depth
both_end : (m : Module) (a b : Activation) (as' bs : List Activation) (memory memory' : Memory) (input output : List ℕ) (st : Status) → st ≢ Going → length bs ≡ length as' → Related m (ends (run a as' memory input output) st) (ends (run b bs memory' input output) st)
both_end m a b as' bs memory memory' input output st h e = both_stand _ _ (ap (λ n. record { output = output; status = st; depth = n + 1 }) e) h h

ended_alike : (m : Module) (a b : Activation) (as' bs : List Activation) (memory : Memory) (input output : List ℕ) → length bs ≡ length as' → (u : Read) → Related m (ended (run a as' memory input output) u) (ended (run b bs memory input output) u)
ended_alike m a b as' bs memory input output e (Is word) = both_end m a b as' bs memory memory input output (Ended word) (ended_not_going word) e
ended_alike m a b as' bs memory input output e IsPoison = both_end m a b as' bs memory memory input output Undefined undefined_not_going e
ended_alike m a b as' bs memory input output e IsOther = both_end m a b as' bs memory memory input output Stuck stuck_not_going e

-- ---- returns

back_alike : (m : Module) (g : Func) (f x p : ℕ) (old new : Regs) (made : List ℕ) (v v' : Option RegId) (as' bs : List Activation) (memory : Memory) (input output : List ℕ) → Alike m g f x p old new → Below m v v' as' bs → {w w' : Option RegId} → Waits m g f x p w w' → (u : Option Value)
    → Related m (back (run (act f x p old made v) as' memory input output) w u) (back (run (act f ((numbers g).block x) p new made v') bs memory input output) w' u)
back_alike m g f x p old new made v v' as' bs memory input output alike below no_result u = both_go g f x p old new made v v' as' bs memory input output alike below
back_alike m g f x p old new made v v' as' bs memory input output alike below (result d known unwritten) None = both_end m _ _ as' bs memory memory input output Stuck stuck_not_going (same_depth m below)
back_alike m g f x p old new made v v' as' bs memory input output alike below (result d known unwritten) (Some u) =
    both_go g f x p (with_reg old d.0 u) (with_reg new ((numbers g).reg d.0) u) made v v' as' bs memory input output
    (record {
      func = alike.func;
      same = write_same g old new d.0 u known alike.same;
      fresh = λ entry k at. both_each old d.0 u (coming k p) (unwritten entry k at) (alike.fresh entry k at);
    })
    below

last_alike : (m : Module) (a b : Activation) (memory : Memory) (input output : List ℕ) (v : Option Value) → Related m (last (run a [] memory input output) v) (last (run b [] memory input output) v)
last_alike m a b memory input output None = both_end m a b [] [] memory memory input output Stuck stuck_not_going refl
last_alike m a b memory input output (Some v) = ended_alike m a b [] [] memory input output refl (as_word 4294967296 v)

returned_alike : (m : Module) (f x y p : ℕ) (old new : Regs) (made : List ℕ) (memory : Memory) (input output : List ℕ) (u : Option Value) {w w' : Option RegId} {as' bs : List Activation} → Below m w w' as' bs
    → Related m (returned (run (act f x p old made w) as' memory input output) as' u) (returned (run (act f y p new made w') bs memory input output) bs u)
returned_alike m f x y p old new made memory input output u (bottom w w') = last_alike m (act f x p old made w) (act f y p new made w') memory input output u
returned_alike m f x y p old new made memory input output u (over g f' x' p' old' new' made' v v' w w' as' bs alike waits below) =
    back_alike m g f' x' p' old' new' made' v v' as' bs (kill_all memory made) input output alike below waits u

-- ---- turns

module _ (m : Module) (sound : Sound m) where
  start_alike : (g : Func) (f : ℕ) (args : List (Option Value)) → slice_get m.funcs f ≡ Some g → Alike m g f (entry_label g) 0 (bound g.params args) (λ q. at_most_one (slice_get (take (length g.params) args) q))
  start_alike g f args found = record {
    func = found;
    same = λ q. args_same g g.params _ args q;
    fresh = λ entry k at. none_bound g.params args (coming k 0) (sound.params f (entry_label g) g k (record { func = found; block = at }));
  }

  -- ---- one turn

  module _ (g : Func) (f x p : ℕ) (old new : Regs) (made : List ℕ) (w w' : Option RegId) (as' bs : List Activation) (memory : Memory) (input output : List ℕ) (alike : Alike m g f x p old new) (below : Below m w w' as' bs) where
    abbrev r : Run
    r = run (act f x p old made w) as' memory input output

    abbrev s : Run
    s = run (act f ((numbers g).block x) p new made w') bs memory input output

    abbrev after : Effect → Type 0
    after e = Related m (carried_out m r e) (applied (plain_program m) s (other_effect (numbers g) e))

    ends_so : (st : Status) → st ≢ Going → Related m (ends r st) (ends s st)
    ends_so st h = both_end m (act f x p old made w) (act f ((numbers g).block x) p new made w') as' bs memory memory input output st h (same_depth m below)

    stuck : Related m (ends r Stuck) (ends s Stuck)
    stuck = ends_so Stuck stuck_not_going

    module _ (k : FlatBlock) (at : IsAt m f x g k) where
      module _ (i : FlatInstr) (here : slice_get k.code p ≡ Some i) where
        -- with another memory, input and output, and a register written or not
        goes_on : (d : Option RegId) (v : Value) (made' : List ℕ) (memory' : Memory) (input' output' : List ℕ) → written_by i ≡ of_result d
            → Related m (with_result (run (act f x p old made' w) as' memory' input' output') d v) (with_result (run (act f ((numbers g).block x) p new made' w') bs memory' input' output') (option_map (other_reg (numbers g)) d) v)
        goes_on None v made' memory' input' output' h = both_go g f x (p + 1) old new made' w w' as' bs memory' input' output' (next_alike m g f x p old new k i at here alike) below
        goes_on (Some d) v made' memory' input' output' h =
            both_go g f x (p + 1) (with_reg old d.0 v) (with_reg new ((numbers g).reg d.0) v) made' w w' as' bs memory' input' output' (written_alike m sound g f x p old new k i d v at here h alike) below

        got_alike : (d : Option RegId) (bytes : List ℕ) → written_by i ≡ of_result d
            → Related m (got (run (act f x p old made w) as' memory bytes output) d bytes) (got (run (act f ((numbers g).block x) p new made w') bs memory bytes output) (option_map (other_reg (numbers g)) d) bytes)
        got_alike d [] h = goes_on d (Bits 4294967295) made memory [] output h
        got_alike d (b ∷ bytes) h = goes_on d (Bits b) made memory bytes output h

        -- the alloca's register has no value yet, so no block dies
        none_dies : (d : RegId) (size align : ℕ) → i ≡ Alloca d size align → without memory (new ((numbers g).reg d.0)) ≡ memory
        none_dies d size align e =
            let stands : slice_get k.code p ≡ Some (Alloca d size align) = here ∙ ap Some e in
            let entry : x ≡ entry_label g = sound.allocas f x g k at p size align d stands in
            let all : Each (λ q. old q ≡ None) (coming k p) = alike.fresh entry k at.block in
            let none : old d.0 ≡ None = (subst (Each (λ q. old q ≡ None)) (coming_at k p (Alloca d size align) stands) all).0 in
            ap (without memory) (alike.same d.0 ∙ none)

        waits : (d : Option RegId) → written_by i ≡ of_result d → Waits m g f x (p + 1) d (option_map (other_reg (numbers g)) d)
        waits None h = no_result
        waits (Some d) h = result d (sound.results f x g k at p d.0 i here h) (not_again m sound g f x p k i d.0 at here h)

        entered_alike : (d : Option RegId) (f' : ℕ) (args : List (Option Value)) (o : Option Func) → slice_get m.funcs f' ≡ o → written_by i ≡ of_result d
            → Related m (called r f' args d o) (entered s f' args (option_map (other_reg (numbers g)) d) (option_map (plain_body m) o))
        entered_alike d f' args None found h = stuck
        entered_alike d f' args (Some g') found h =
            subst (λ (n : ℕ). Related m (called r f' args d (Some g')) (run (act f' n 0 (λ q. at_most_one (slice_get (take (length g'.params) args) q)) [] (option_map (other_reg (numbers g)) d)) (act f ((numbers g).block x) (p + 1) new made w' ∷ bs) memory input output)) (entry_first g')
            (both_go g' f' (entry_label g') 0 (bound g'.params args) (λ q. at_most_one (slice_get (take (length g'.params) args) q)) [] d (option_map (other_reg (numbers g)) d) (act f x (p + 1) old made w ∷ as') (act f ((numbers g).block x) (p + 1) new made w' ∷ bs) memory input output
            (start_alike g' f' args found)
            (over g f x (p + 1) old new made w w' d (option_map (other_reg (numbers g)) d) as' bs (next_alike m g f x p old new k i at here alike) (waits d h) below))

        instr_alike : (e : Effect) → Fits i e → after e
        instr_alike (Sets d v) h = goes_on (Some d) v made memory input output h
        instr_alike (Allocates d size align) h =
            subst (λ (mem : Memory). Related m (carried_out m r (Allocates d size align)) (allocated s (other_reg (numbers g) d) size align mem)) (sym (none_dies d size align h))
            (goes_on (Some d) (At (length memory) 0) (length memory ∷ made) (memory ++ fresh size align ∷ []) input output (ap written_by h))
        instr_alike (Stores memory') h = both_go g f x (p + 1) old new made w w' as' bs memory' input output (next_alike m g f x p old new k i at here alike) below
        instr_alike (Puts d b) h = goes_on d (Bits b) made memory input (output ++ b ∷ []) h
        instr_alike (Takes d) h = got_alike d input h
        instr_alike (Enters d f' args) h = entered_alike d f' args (slice_get m.funcs f') refl h
        instr_alike (Goes b) h = absurd h
        instr_alike (Returns v) h = absurd h
        instr_alike (Stops word) h = ends_so (Ended word) (ended_not_going word)
        instr_alike NoMeaning h = ends_so Undefined undefined_not_going
        instr_alike NoValue h = stuck

      -- ---- terminators

      stands_alike : (t : ℕ) → t ≢ entry_label g → (a b : Option Regs) → SameMaps g a b → Related m (stands_at r t a) (stands_at s ((numbers g).block t) b)
      stands_alike t h None None same = stuck
      stands_alike t h None (Some b) same = absurd same
      stands_alike t h (Some a) None same = absurd same
      stands_alike t h (Some a) (Some b) same =
          both_go g f t 0 a b made w w' as' bs memory input output (record { func = alike.func; same = same; fresh = λ entry l found. absurd (h entry) }) below

      goes_alike : (t : ℕ) → t ≢ entry_label g → (o : Option FlatBlock) → block_at m f t ≡ o → Related m (goes_into r t o) (goes_into s ((numbers g).block t) (option_map (renumbered (numbers g)) o))
      goes_alike t h None found = stuck
      goes_alike t h (Some l) found =
          stands_alike t h (after_phis old x l.phis) _ (phis_same g x (sound.labels f x g k at) old new alike.same l.phis (sound.phis f t g l (record { func = alike.func; block = found })))

      end_alike : (e : Effect) → EndFits k.end e → after e
      end_alike (Sets d v) h = absurd h
      end_alike (Allocates d size align) h = absurd h
      end_alike (Stores memory') h = absurd h
      end_alike (Puts d b) h = absurd h
      end_alike (Takes d) h = absurd h
      end_alike (Enters d f' args) h = absurd h
      end_alike (Goes t) h =
          subst (λ (o : Option FlatBlock). Related m (goes_into r t (block_at m f t)) (goes_into s ((numbers g).block t) o)) (sym (block_found m f t g alike.func))
          (goes_alike t (sound.no_way_back f x g k at t h) (block_at m f t) refl)
      end_alike (Returns v) h = returned_alike m f x ((numbers g).block x) p old new made memory input output v below
      end_alike (Stops word) h = ends_so (Ended word) (ended_not_going word)
      end_alike NoMeaning h = ends_so Undefined undefined_not_going
      end_alike NoValue h = stuck

      by_place : (o : Option FlatInstr) → slice_get k.code p ≡ o → Related m (carried_out m r (what_stands r k o)) (applied (plain_program m) s (what_stands s (renumbered (numbers g) k) (option_map (other_instr (numbers g)) o)))
      by_place (Some i) here = subst (λ (e : Effect). Related m (carried_out m r (effect old memory i)) (applied (plain_program m) s e)) (sym (effect_other (numbers g) old new alike.same memory i)) (instr_alike i here (effect old memory i) (fits old memory i))
      by_place None here = subst (λ (e : Effect). Related m (carried_out m r (end_effect old k.end)) (applied (plain_program m) s e)) (sym (end_other (numbers g) old new alike.same k.end)) (end_alike (end_effect old k.end) (leads old k.end))

      block_alike : Related m (at_block m r (Some k)) (in_block (plain_program m) s (Some (renumbered (numbers g) k)))
      block_alike =
          subst (λ (o : Option FlatInstr). Related m (at_block m r (Some k)) (applied (plain_program m) s (what_stands s (renumbered (numbers g) k) o))) (sym (slice_get-map (other_instr (numbers g)) k.code p))
          (by_place (slice_get k.code p) refl)

    by_block : (o : Option FlatBlock) → block_at m f x ≡ o → Related m (at_block m r o) (in_block (plain_program m) s (option_map (renumbered (numbers g)) o))
    by_block None found = stuck
    by_block (Some k) found = block_alike k (record { func = alike.func; block = found })

    turn_alike : Related m (at_block m r (block_at m f x)) (in_block (plain_program m) s (block_of ((plain_program m).body f) ((numbers g).block x)))
    turn_alike =
        subst (λ (o : Option FlatBlock). Related m (at_block m r (block_at m f x)) (in_block (plain_program m) s o)) (sym (block_found m f x g alike.func))
        (by_block (block_at m f x) refl)

  source_stays : (r : Run) (st : Status) → r.status ≡ st → st ≢ Going → source_step m r ≡ r
  unfolding source_step
  source_stays r Going e h = absurd (h refl)
  source_stays r (Ended w) e h = rw e refl
  source_stays r Undefined e h = rw e refl
  source_stays r Stuck e h = rw e refl

  flat_stays : (r : Run) (st : Status) → r.status ≡ st → st ≢ Going → flat_step (plain_program m) r ≡ r
  unfolding flat_step
  flat_stays r Going e h = absurd (h refl)
  flat_stays r (Ended w) e h = rw e refl
  flat_stays r Undefined e h = rw e refl
  flat_stays r Stuck e h = rw e refl

  step_related : {r s : Run} → Related m r s → Related m (source_step m r) (flat_step (plain_program m) s)
  unfolding source_step flat_step
  step_related (both_go g f x p old new made w w' as' bs memory input output alike below) = turn_alike g f x p old new made w w' as' bs memory input output alike below
  step_related (both_stand r s e hr hs) =
      subst (λ (q : Run). Related m q (flat_step (plain_program m) s)) (sym (source_stays r r.status refl hr))
      (subst (λ (q : Run). Related m r q) (sym (flat_stays s s.status refl hs)) (both_stand r s e hr hs))

  related_seen : {r s : Run} → Related m r s → seen s ≡ seen r
  related_seen (both_go g f x p old new made w w' as' bs memory input output alike below) = ap (λ n. record { output = output; status = Going; depth = n + 1 }) (same_depth m below)
  related_seen (both_stand r s e hr hs) = e

  runs_alike : (n : ℕ) {r s : Run} → Related m r s → seen (iterate (flat_step (plain_program m)) n s) ≡ seen (iterate (source_step m) n r)
  runs_alike zero h = related_seen h
  runs_alike (suc n) h = runs_alike n (step_related h)

  -- ---- from the start

  abbrev nothing : Regs
  nothing x = None

  none_yet : (ds : List ℕ) → Each (λ (d : ℕ). nothing d ≡ None) ds
  none_yet [] = tt
  none_yet (d ∷ ds) = (refl, none_yet ds)

  abbrev begun : List ℕ → ℕ → Run
  begun input x = run (act (main_number m) x 0 nothing [] None) [] (global_memory m) input []

  with_main : (input : List ℕ) (g : Func) → slice_get m.funcs (main_number m) ≡ Some g → Related m (begun input (entry_label g)) (flat_start (plain_program m) input)
  with_main input g found =
      subst (λ (b : ℕ). Related m (begun input (entry_label g)) (begun input b)) (entry_first g)
      (both_go g (main_number m) (entry_label g) 0 nothing nothing [] None None [] [] (global_memory m) input []
      (record { func = found; same = λ q. refl; fresh = λ entry k at. none_yet (coming k 0) }) (bottom None None))

  without_main : (input : List ℕ) → slice_get m.funcs (main_number m) ≡ None → Related m (source_step m (source_start m input)) (flat_step (plain_program m) (flat_start (plain_program m) input))
  unfolding source_step flat_step
  without_main input found =
      let x : ℕ = (source_start m input).top.block in
      subst (λ (o : Option Func). Related m (at_block m (source_start m input) (option_and_then (λ (g : Func). option_map (block_rows m) (find (is_labelled x) g.blocks)) o)) (in_block (plain_program m) (flat_start (plain_program m) input) (block_of (option_map (plain_body m) o) 0)))
      (sym found) (both_stand _ _ refl stuck_not_going stuck_not_going)

  pub runs_as_the_source : RunsAsTheSource m
  runs_as_the_source input n = by_main (slice_get m.funcs (main_number m)) refl n
    where
      by_main : (o : Option Func) → slice_get m.funcs (main_number m) ≡ o → (n : ℕ) → flat_run (plain_program m) input n ≡ src m input n
      by_main (Some g) found n =
          let start : source_start m input ≡ begun input (entry_label g) = ap (λ (o : Option Func). begun input (option_map_or entry_label o 0)) found in
          runs_alike n (with_main input g found) ∙ sym (ap (λ (r : Run). seen (iterate (source_step m) n r)) start)
      by_main None found zero = refl
      by_main None found (suc n) = runs_alike n (without_main input found)
