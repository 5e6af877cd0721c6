-- Programs whose runs have the same registers and memory at other places of their blocks: the second follows the first.
use Rattle.std.proofs.Common.{◌≡◌, ◌≢◌, ◌⊎◌, inl, inr, ⊎_elim, ℕ, zero, suc, ◌+◌, ◌<◌, ◌≤◌, List, [], ◌∷◌, length, take, Option, Some, None, slice_get, refl, sym, ap, ◌∙◌, subst, arith, le_of_eq}
use Rattle.std.specs.Fn.{iterate}
use Rattle.oi_base.specs.declared.ids.RegId.{RegId}
use Rattle.oi_base.specs.Follows.{Status, Going, Ended, Undefined, Stuck, IsLasting, IsPrefix, Follows}
use Rattle.oi_base.specs.Turns.{goes, breaks}
use Rattle.ir_core.specs.declared.flat.FlatBlock.{FlatBlock}
use Rattle.ir_core.specs.declared.flat.FlatBody.{FlatBody}
use Rattle.ir_core.specs.Memory.{Value, kill_all}
use Rattle.ir_core.specs.Rows.{Read, Is, IsPoison, IsOther, as_word}
use Rattle.ir_core.specs.Flat.{Program, Activation, Run, Regs, Effect, Sets, Allocates, Stores, Puts, Takes, Enters, Goes, Returns, Stops, NoMeaning, NoValue, with_reg, with_result, at_most_one, entered, got, after_phis, block_of, stands_at, goes_into, ended, last, back, returned, applied, what_stands, in_block, turn_of, flat_step, flat_start, flat_run, seen}
use Rattle.ir_core.proofs.Outputs.{output_grows, undefined_keeps}
use Rattle.ir_simulation.proofs.Simulate.{Meets, Step, follows}

-- what is no effect of a defined run that isn't stuck
abbrev pub IsBad : Effect → Type 0
IsBad e = (e ≡ NoMeaning) ⊎ (e ≡ NoValue)

-- the run with its newest activation at another place and with other registers
abbrev pub at : Run → List Activation → ℕ → ℕ → Regs → Run
at r below x j regs = record r { top = record r.top { block = x; place = j; regs = regs }; below = below }

abbrev pub SameParams : Option FlatBody → Option FlatBody → Type 0
SameParams None None = Unit {0}
SameParams (Some b) (Some c) = c.params ≡ b.params
SameParams None (Some c) = ⊥
SameParams (Some b) None = ⊥

-- Lies g b n x j regs: in function g, place n of block b with these registers is place j of block x of the new body.
-- ahead g b n: how many turns without a counterpart are ahead
module _ (p q : Program) (Lies : ℕ → ℕ → ℕ → ℕ → ℕ → Regs → Type 0) (ahead : ℕ → ℕ → ℕ → ℕ) where
  -- behind the instruction at which the run stands
  abbrev pub Next : Run → ℕ → ℕ → Regs → Type 0
  Next r x j regs = Lies r.top.func r.top.block (r.top.place + 1) x (j + 1) regs

  abbrev pub NextResult : Run → ℕ → ℕ → Option RegId → Type 0
  NextResult r x j None = Next r x j r.top.regs
  NextResult r x j (Some d) = (v : Value) → Next r x j (with_reg r.top.regs d.0 v)

  -- what has to lie where behind an effect
  abbrev pub After : Run → ℕ → ℕ → Effect → Type 0
  After r x j (Sets d v) = Next r x j (with_reg r.top.regs d.0 v)
  After r x j (Allocates d size align) = (v : Value) → Next r x j (with_reg r.top.regs d.0 v)
  After r x j (Stores m) = Next r x j r.top.regs
  After r x j (Puts d b) = NextResult r x j d
  After r x j (Takes d) = NextResult r x j d
  After r x j (Enters d f args) = NextResult r x j d
  After r x j (Goes c) = ⊥
  After r x j (Returns v) = Unit {0}
  After r x j (Stops w) = Unit {0}
  After r x j NoMeaning = Unit {0}
  After r x j NoValue = Unit {0}

  -- the follower comes quietly from place j of block x to where the source stands behind its branch to block c
  pub record Went (r : Run) (x j c : ℕ) (regs : Regs) : Type 0 where
    pub turns : ℕ
    pub block : ℕ
    pub place : ℕ
    pub lies : Lies r.top.func c 0 block place regs
    pub way : (below : List Activation) → iterate (flat_step q) turns (at r below x j r.top.regs) ≡ at r below block place regs
    pub quiet : (below : List Activation) (i : ℕ) → i < turns → seen (iterate (flat_step q) i (at r below x j r.top.regs)) ≡ seen (at r below x j r.top.regs)
    pub nearer : turns ≡ 0 → ahead r.top.func c 0 < ahead r.top.func r.top.block r.top.place

  -- what the follower does at place j of block x where the source's turn has an effect
  pub data Local (r : Run) (x j : ℕ) (e : Effect) : Type 0 where
    does : (k : FlatBlock) → block_of (q.body r.top.func) x ≡ Some k → what_stands r k (slice_get k.code j) ≡ e → After r x j e → Local r x j e
    fails : IsBad e → Local r x j e
    leaves : (c : ℕ) → e ≡ Goes c → ((l : FlatBlock) (regs : Regs) → block_of (p.body r.top.func) c ≡ Some l → after_phis r.top.regs r.top.block l.phis ≡ Some regs → Went r x j c regs) → Local r x j e

  pub record Places (Fine : Run → Type 0) : Type 0 where
    pub fine_on : (r : Run) → Fine r → Fine (flat_step p r)
    pub not_stuck : (r : Run) → Fine r → r.status ≢ Stuck
    pub globals : q.globals ≡ p.globals
    pub main : q.main ≡ p.main
    pub bodies : (g : ℕ) → SameParams (p.body g) (q.body g)
    pub starts : (g : ℕ) (body : FlatBody) → p.body g ≡ Some body → (regs : Regs) → ((r : ℕ) → body.params ≤ r → regs r ≡ None) → Lies g 0 0 0 0 regs
    pub turn : (r : Run) → Fine r → r.status ≡ Going → (x j : ℕ) → Lies r.top.func r.top.block r.top.place x j r.top.regs
        → (k : FlatBlock) → block_of (p.body r.top.func) r.top.block ≡ Some k → Local r x j (what_stands r k (slice_get k.code r.top.place))

  -- ---- the relation

  abbrev pub Awaits : Option RegId → Activation → ℕ → ℕ → Type 0
  Awaits None a x j = Lies a.func a.block a.place x j a.regs
  Awaits (Some d) a x j = (v : Value) → Lies a.func a.block a.place x j (with_reg a.regs d.0 v)

  abbrev pub Belows : Option RegId → List Activation → List Activation → Type 0
  Belows w [] [] = Unit {0}
  Belows w [] (b ∷ bs) = ⊥
  Belows w (a ∷ as') [] = ⊥
  Belows w (a ∷ as') (b ∷ bs) = (b ≡ record a { block = b.block; place = b.place }) × Awaits w a b.block b.place × Belows a.waiting as' bs

  same_length : (w : Option RegId) (as' bs : List Activation) → Belows w as' bs → length bs ≡ length as'
  same_length w [] [] h = refl
  same_length w [] (b ∷ bs) h = absurd h
  same_length w (a ∷ as') [] h = absurd h
  same_length w (a ∷ as') (b ∷ bs) h = ap suc (same_length a.waiting as' bs h.2)

  -- both go on, both have ended alike, or the source is undefined or stuck
  pub data Close (r s : Run) : Type 0 where
    stand : (x j : ℕ) (below : List Activation) → s ≡ at r below x j r.top.regs → r.status ≡ Going → Lies r.top.func r.top.block r.top.place x j r.top.regs → Belows r.top.waiting r.below below → Close r s
    over : (w : ℕ) → r.status ≡ Ended w → s.status ≡ Ended w → s.output ≡ r.output → length s.below ≡ length r.below → Close r s
    lost : (r.status ≡ Undefined) ⊎ (r.status ≡ Stuck) → Close r s

  module _ (Fine : Run → Type 0) (h : Places Fine) where
    -- ---- one effect on both

    entered_close : (r : Run) (below : List Activation) (x j g : ℕ) (args : List (Option Value)) (d : Option RegId) (o u : Option FlatBody) → r.status ≡ Going → p.body g ≡ o → SameParams o u → NextResult r x j d → Belows r.top.waiting r.below below
        → Close (entered r g args d o) (entered (at r below x j r.top.regs) g args d u)
    entered_close r below x j g args d None None going is same next bs = lost (inr refl)
    entered_close r below x j g args d None (Some c) going is same next bs = absurd same
    entered_close r below x j g args d (Some b) None going is same next bs = absurd same
    entered_close r below x j g args d (Some b) (Some c) going is same next bs = subst
        (λ (n : ℕ). Close (entered r g args d (Some b)) (record (at r below x j r.top.regs) {
          top = record { func = g; block = 0; place = 0; regs = λ k. at_most_one (slice_get (take n args) k); made = []; waiting = d };
          below = (record r.top { block = x; place = j + 1 }) ∷ below;
        }))
        (sym same)
        (stand 0 0 ((record r.top { block = x; place = j + 1 }) ∷ below) refl going (h.starts g b is _ (λ k le. nothing args b.params k le)) (refl, awaits d next, bs))
      where
        nothing : (args : List (Option Value)) (n k : ℕ) → n ≤ k → at_most_one (slice_get (take n args) k) ≡ None
        nothing [] zero k le = refl
        nothing [] (suc n) k le = refl
        nothing (a ∷ as') zero k le = refl
        nothing (a ∷ as') (suc n) zero le = absurd (omega arith)
        nothing (a ∷ as') (suc n) (suc k) le = nothing as' n k (omega arith)

        awaits : (d : Option RegId) → NextResult r x j d → Awaits d (record r.top { place = r.top.place + 1 }) x (j + 1)
        awaits None n = n
        awaits (Some e) n = n

    back_close : (r : Run) (below : List Activation) (x j : ℕ) (w : Option RegId) (v : Option Value) → r.status ≡ Going → Awaits w r.top x j → Belows r.top.waiting r.below below → Close (back r w v) (back (at r below x j r.top.regs) w v)
    back_close r below x j None v going a bs = stand x j below refl going a bs
    back_close r below x j (Some d) None going a bs = lost (inr refl)
    back_close r below x j (Some d) (Some v) going a bs = stand x j below refl going (a v) bs

    ended_close : (r s : Run) (x : Read) → s.output ≡ r.output → length s.below ≡ length r.below → Close (ended r x) (ended s x)
    ended_close r s (Is a) e l = over a refl refl e l
    ended_close r s IsPoison e l = lost (inl refl)
    ended_close r s IsOther e l = lost (inr refl)

    last_close : (r s : Run) (v : Option Value) → s.output ≡ r.output → length s.below ≡ length r.below → Close (last r v) (last s v)
    last_close r s None e l = lost (inr refl)
    last_close r s (Some v) e l = ended_close r s (as_word 4294967296 v) e l

    returned_close : (r : Run) (below : List Activation) (x j : ℕ) (as' bs : List Activation) (v : Option Value) → r.status ≡ Going → length below ≡ length r.below → Belows r.top.waiting as' bs → Close (returned r as' v) (returned (at r below x j r.top.regs) bs v)
    returned_close r below x j [] [] v going l b = last_close r (at r below x j r.top.regs) v refl l
    returned_close r below x j [] (b ∷ bs) v going l h' = absurd h'
    returned_close r below x j (a ∷ as') [] v going l h' = absurd h'
    returned_close r below x j (a ∷ as') (b ∷ bs) v going l h' =
        subst (λ (c : Activation). Close (returned r (a ∷ as') v) (back (record r { memory = kill_all r.memory r.top.made; top = c; below = bs }) r.top.waiting v)) (sym h'.0)
        (back_close (record r { memory = kill_all r.memory r.top.made; top = a; below = as' }) bs b.block b.place r.top.waiting v going h'.1 h'.2)

    result_close : (r : Run) (below : List Activation) (x j : ℕ) (d : Option RegId) (v : Value) → r.status ≡ Going → NextResult r x j d → Belows r.top.waiting r.below below → Close (with_result r d v) (with_result (at r below x j r.top.regs) d v)
    result_close r below x j None v going n bs = stand x (j + 1) below refl going n bs
    result_close r below x j (Some d) v going n bs = stand x (j + 1) below refl going (n v) bs

    got_close : (r : Run) (below : List Activation) (x j : ℕ) (d : Option RegId) (bytes : List ℕ) → r.status ≡ Going → NextResult r x j d → Belows r.top.waiting r.below below → Close (got r d bytes) (got (at r below x j r.top.regs) d bytes)
    got_close r below x j d [] going n bs = result_close r below x j d _ going n bs
    got_close r below x j None (b ∷ bytes) going n bs = stand x (j + 1) below refl going n bs
    got_close r below x j (Some d) (b ∷ bytes) going n bs = stand x (j + 1) below refl going (n _) bs

    put_close : (r : Run) (below : List Activation) (x j : ℕ) (d : Option RegId) (b : ℕ) → r.status ≡ Going → NextResult r x j d → Belows r.top.waiting r.below below → Close (applied p r (Puts d b)) (applied q (at r below x j r.top.regs) (Puts d b))
    put_close r below x j None b going n bs = stand x (j + 1) below refl going n bs
    put_close r below x j (Some d) b going n bs = stand x (j + 1) below refl going (n _) bs

    applied_close : (r : Run) (below : List Activation) (x j : ℕ) (e : Effect) → r.status ≡ Going → After r x j e → Belows r.top.waiting r.below below → Close (applied p r e) (applied q (at r below x j r.top.regs) e)
    applied_close r below x j (Sets d v) going a bs = stand x (j + 1) below refl going a bs
    applied_close r below x j (Allocates d size align) going a bs = stand x (j + 1) below refl going (a _) bs
    applied_close r below x j (Stores m) going a bs = stand x (j + 1) below refl going a bs
    applied_close r below x j (Puts d b) going a bs = put_close r below x j d b going a bs
    applied_close r below x j (Takes d) going a bs = got_close r below x j d r.input going a bs
    applied_close r below x j (Enters d g args) going a bs = entered_close r below x j g args d (p.body g) (q.body g) going refl (h.bodies g) a bs
    applied_close r below x j (Goes c) going a bs = absurd a
    applied_close r below x j (Returns v) going a bs = returned_close r below x j r.below below v going (same_length r.top.waiting r.below below bs) bs
    applied_close r below x j (Stops w) going a bs = over w refl refl refl (same_length r.top.waiting r.below below bs)
    applied_close r below x j NoMeaning going a bs = lost (inl refl)
    applied_close r below x j NoValue going a bs = lost (inr refl)

    -- ---- one turn

    step_going : (o : Program) (r : Run) → r.status ≡ Going → flat_step o r ≡ in_block o r (block_of (o.body r.top.func) r.top.block)
    unfolding flat_step
    step_going o r e = ap (turn_of o r) e

    step_ended : (o : Program) (r : Run) (w : ℕ) → r.status ≡ Ended w → flat_step o r ≡ r
    unfolding flat_step
    step_ended o r w e = ap (turn_of o r) e

    pub record Kept (r s : Run) : Type 0 where
      fine : Fine r
      lasts : (r.status ≡ Undefined) → ⊥
      close : Close r s

    lasting : (t : Status) → t ≢ Stuck → t ≢ Undefined → IsLasting t
    lasting Going a b = tt
    lasting (Ended w) a b = tt
    lasting Undefined a b = b refl
    lasting Stuck a b = a refl

    close_meets : (r s : Run) → Fine r → (r.status ≡ Undefined → ⊥) → Close r s → Meets r s
    close_meets r s f d (stand x j below is going lies bs) = subst (λ (y : Run). Meets r y) (sym is) (record {
      agrees = record { same_output = refl; same_status = refl; lasting = lasting r.status (h.not_stuck r f) d };
      shallow = le_of_eq (ap (λ n. n + 1) (same_length r.top.waiting r.below below bs));
    })
    close_meets r s f d (over w e u out deep) = record {
      agrees = record { same_output = sym out; same_status = e ∙ sym u; lasting = lasting r.status (h.not_stuck r f) d };
      shallow = le_of_eq (ap (λ n. n + 1) deep);
    }
    close_meets r s f d (lost bad) = absurd (⊎_elim d (h.not_stuck r f) bad)

    kept_meets : (r s : Run) → Kept r s → Meets r s
    kept_meets r s k = close_meets r s k.fine k.lasts k.close

    abbrev left : Run → ℕ
    left r = ahead r.top.func r.top.block r.top.place

    abbrev Turns : Run → Run → Type 0
    Turns r s = Step p q Kept left r s

    -- the source's turn is undefined
    breaks_here : (r s : Run) → Meets r s → (flat_step p r).status ≡ Undefined → Turns r s
    breaks_here r s m u =
        breaks (λ i. record { undefined = u; kept = subst (λ o. IsPrefix o (iterate (flat_step q) i s).output) (sym m.agrees.same_output ∙ sym (undefined_keeps p r u)) (output_grows q i s) })

    -- by what its status is then
    by_status : (r s : Run) → Meets r s → ((flat_step p r).status ≢ Undefined → Turns r s) → (t : Status) → (flat_step p r).status ≡ t → Turns r s
    by_status r s m on Undefined e = breaks_here r s m e
    by_status r s m on Going e = on (λ u. let y : Going ≡ Undefined = sym e ∙ u in absurd cc)
    by_status r s m on (Ended w) e = on (λ u. let y : Ended w ≡ Undefined = sym e ∙ u in absurd cc)
    by_status r s m on Stuck e = on (λ u. let y : Stuck ≡ Undefined = sym e ∙ u in absurd cc)

    -- one turn of each
    both_turn : (r s : Run) → Kept r s → Close (flat_step p r) (flat_step q s) → Turns r s
    both_turn r s k c = by_status r s (kept_meets r s k) (λ d. goes 1 (record { fine = h.fine_on r k.fine; lasts = d; close = c })
        (λ i less. let z : 0 ≡ i = omega (arith, less) in inl (subst (λ n. Meets r (iterate (flat_step q) n s)) z (kept_meets r s k))) (λ z. absurd (omega (arith, z)))) (flat_step p r).status refl

    -- the follower's way over a branch
    way_turn : (r : Run) (x j : ℕ) (below : List Activation) → Kept r (at r below x j r.top.regs) → (c : ℕ) (regs : Regs) → r.status ≡ Going → Belows r.top.waiting r.below below → flat_step p r ≡ record r { top = record r.top { block = c; place = 0; regs = regs } } → Went r x j c regs → Turns r (at r below x j r.top.regs)
    way_turn r x j below k c regs going bs e w = goes w.turns (record {
      fine = h.fine_on r k.fine;
      lasts = λ u. let y : Going ≡ Undefined = sym going ∙ sym (ap (λ (z : Run). z.status) e) ∙ u in absurd cc;
      close = subst (λ (z : Run). Close z (iterate (flat_step q) w.turns (at r below x j r.top.regs))) (sym e) (stand w.block w.place below (w.way below) going w.lies bs);
    })
        (λ i less. inl (record {
          agrees = record {
            same_output = (kept_meets r _ k).agrees.same_output ∙ sym (ap (λ z. z.output) (w.quiet below i less));
            same_status = (kept_meets r _ k).agrees.same_status ∙ sym (ap (λ z. z.status) (w.quiet below i less));
            lasting = (kept_meets r _ k).agrees.lasting;
          };
          shallow = subst (λ n. n ≤ length r.below + 1) (sym (ap (λ z. z.depth) (w.quiet below i less))) (kept_meets r _ k).shallow;
        }))
        (λ z. subst (λ (y : Run). left y < left r) (sym e) (w.nearer z))

    -- a turn that can't be the source's, which is never stuck
    stuck_turn : (r s : Run) → Kept r s → (e : Run) → flat_step p r ≡ e → e.status ≡ Stuck → Turns r s
    stuck_turn r s k e is stuck = absurd (h.not_stuck (flat_step p r) (h.fine_on r k.fine) (ap (λ (z : Run). z.status) is ∙ stuck))

    went_turn : (r : Run) (x j : ℕ) (below : List Activation) → Kept r (at r below x j r.top.regs) → r.status ≡ Going → Belows r.top.waiting r.below below → (c : ℕ) (o : Option FlatBlock) → flat_step p r ≡ goes_into r c o → ((l : FlatBlock) (regs : Regs) → o ≡ Some l → after_phis r.top.regs r.top.block l.phis ≡ Some regs → Went r x j c regs) → Turns r (at r below x j r.top.regs)
    went_turn r x j below k going bs c None e w = stuck_turn r _ k _ e refl
    went_turn r x j below k going bs c (Some l) e w = by_phis (after_phis r.top.regs r.top.block l.phis) refl
      where
        by_phis : (u : Option Regs) → after_phis r.top.regs r.top.block l.phis ≡ u → Turns r (at r below x j r.top.regs)
        by_phis None eq = stuck_turn r _ k _ (e ∙ ap (stands_at r c) eq) refl
        by_phis (Some regs) eq = way_turn r x j below k c regs going bs (e ∙ ap (stands_at r c) eq) (w l regs refl eq)

    local_turn : (r : Run) (x j : ℕ) (below : List Activation) → Kept r (at r below x j r.top.regs) → r.status ≡ Going → Belows r.top.waiting r.below below → (e : Effect) → flat_step p r ≡ applied p r e → Local r x j e → Turns r (at r below x j r.top.regs)
    local_turn r x j below k going bs e is (does b found same after) =
        let s = at r below x j r.top.regs in
        let mine : flat_step q s ≡ applied q s e = step_going q s going ∙ ap (in_block q s) found ∙ ap (applied q s) same in
        both_turn r s k (subst (λ (y : Run). Close y (flat_step q s)) (sym is) (subst (λ (y : Run). Close (applied p r e) y) (sym mine) (applied_close r below x j e going after bs)))
    local_turn r x j below k going bs e is (fails bad) = ⊎_elim
        (λ u. breaks_here r _ (kept_meets r _ k) (ap (λ (z : Run). z.status) (is ∙ ap (applied p r) u)))
        (λ u. stuck_turn r _ k _ (is ∙ ap (applied p r) u) refl) bad
    local_turn r x j below k going bs e is (leaves c to way) = went_turn r x j below k going bs c (block_of (p.body r.top.func) c) (is ∙ ap (applied p r) to) way

    stand_turn : (r : Run) (x j : ℕ) (below : List Activation) → Kept r (at r below x j r.top.regs) → r.status ≡ Going → Lies r.top.func r.top.block r.top.place x j r.top.regs → Belows r.top.waiting r.below below → (o : Option FlatBlock) → block_of (p.body r.top.func) r.top.block ≡ o → Turns r (at r below x j r.top.regs)
    stand_turn r x j below k going lies bs None found = stuck_turn r _ k _ (step_going p r going ∙ ap (in_block p r) found) refl
    stand_turn r x j below k going lies bs (Some b) found =
        local_turn r x j below k going bs (what_stands r b (slice_get b.code r.top.place)) (step_going p r going ∙ ap (in_block p r) found) (h.turn r k.fine going x j lies b found)

    close_turn : (r s : Run) → Kept r s → Close r s → Turns r s
    close_turn r s k (stand x j below is going lies bs) =
        subst (λ (y : Run). Turns r y) (sym is) (stand_turn r x j below (subst (λ (y : Run). Kept r y) is k) going lies bs (block_of (p.body r.top.func) r.top.block) refl)
    close_turn r s k (over w e u out deep) =
        both_turn r s k (subst (λ (y : Run). Close y (flat_step q s)) (sym (step_ended p r w e)) (subst (λ (y : Run). Close r y) (sym (step_ended q s w u)) (over w e u out deep)))
    close_turn r s k (lost bad) = absurd (⊎_elim k.lasts (h.not_stuck r k.fine) bad)

    kept_turn : (r s : Run) → Kept r s → Turns r s
    kept_turn r s k = close_turn r s k k.close

    -- ---- whole runs

    starts_kept : (input : List ℕ) → Fine (flat_start p input) → (o : Option FlatBody) → p.body p.main ≡ o → Kept (flat_start p input) (flat_start q input)
    starts_kept input f None e = absurd (h.not_stuck (flat_step p (flat_start p input)) (h.fine_on (flat_start p input) f) (ap (λ (z : Run). z.status) (step_going p (flat_start p input) refl ∙ ap (λ u. in_block p (flat_start p input) (block_of u 0)) e)))
    starts_kept input f (Some b) e = record {
      fine = f;
      lasts = λ u. let y : Going ≡ Undefined = u in absurd cc;
      close = stand 0 0 [] same refl (h.starts p.main b e (λ n. None) (λ n le. refl)) tt;
    }
      where
        same : flat_start q input ≡ flat_start p input
        same = λ i. record {
          top = record { func = h.main i; block = 0; place = 0; regs = λ n. None; made = []; waiting = None };
          below = [];
          memory = h.globals i;
          input = input;
          output = [];
          status = Going;
        }

    pub moved_follows : (input : List ℕ) → Fine (flat_start p input) → Follows (flat_run p input) (flat_run q input)
    moved_follows input f = follows p q Kept left kept_meets kept_turn (flat_start p input) (flat_start q input) (starts_kept input f (p.body p.main) refl)
