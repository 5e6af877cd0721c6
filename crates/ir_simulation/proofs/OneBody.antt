-- One body in the place of another: what has to be shown of the two bodies alone, so that the new program follows.
use Rattle.std.proofs.Common.{◌≡◌, ◌≢◌, ◌⊎◌, inl, inr, ℕ, zero, suc, ◌+◌, ◌<◌, ◌≤◌, Bool, true, false, nat_eq, if◌then◌else◌, List, Option, Some, None, slice_get, refl, sym, ap, ◌∙◌, subst, arith}
use Rattle.std.specs.Fn.{iterate}
use Rattle.std.proofs.lemmas.Bool.Decides.{nat_tests}
use Rattle.oi_base.specs.declared.ids.RegId.{RegId}
use Rattle.oi_base.specs.Follows.{Going, Stuck, Follows}
use Rattle.ir_core.specs.declared.flat.FlatOp.{FlatOp}
use Rattle.ir_core.specs.declared.flat.FlatInstr.{FlatInstr}
use Rattle.ir_core.specs.declared.flat.FlatInstr.TheVariants.{Copy}
use Rattle.ir_core.specs.declared.flat.FlatBlock.{FlatBlock}
use Rattle.ir_core.specs.declared.flat.FlatBody.{FlatBody}
use Rattle.ir_core.specs.Memory.{Value}
use Rattle.ir_core.specs.Flat.{Program, Activation, Run, Regs, Effect, Sets, Allocates, Stores, Puts, Takes, Enters, Goes, Returns, Stops, NoMeaning, NoValue, value_of, using, with_reg, after_phis, block_of, stands_at, goes_into, applied, what_stands, in_block, turn_of, flat_step, flat_start, flat_run, seen, end_effect, effect}
use Rattle.ir_core.specs.Formed.{written_by}
use Rattle.ir_simulation.specs.Replaced.{with_body}
use Rattle.ir_simulation.proofs.Moved.{IsBad, at, SameParams, After, NextResult, Local, does, fails, leaves, Places, moved_follows}
use Rattle.ir_simulation.proofs.Writes.{Writes, effect_writes, Ends, end_ends}

-- n copies from place j on, one after another, make the one map of registers of the other
pub data Copied (k : FlatBlock) : ℕ → Regs → ℕ → Regs → Type 0 where
  no_copy : {j : ℕ} {regs : Regs} → Copied k j regs 0 regs
  one_copy : {j n : ℕ} {regs last : Regs} (d : RegId) (o : FlatOp) (v : Value) → slice_get k.code j ≡ Some (Copy d o) → value_of regs o ≡ Some v → Copied k (j + 1) (with_reg regs d.0 v) n last → Copied k j regs (suc n) last

-- Lies b n x j regs: place n of block b of the old body, with these registers, is place j of block x of the new one
module _ (p : Program) (f : ℕ) (old new : FlatBody) (Lies : ℕ → ℕ → ℕ → ℕ → Regs → Type 0) (ahead : ℕ → ℕ → ℕ) where
  abbrev q : Program
  q = with_body p f new

  abbrev LiesAny : ℕ → ℕ → ℕ → ℕ → ℕ → Regs → Type 0
  LiesAny g b n x j regs = Lies b n x j regs

  abbrev pub AfterIn : Run → ℕ → ℕ → Effect → Type 0
  AfterIn r x j e = After p q LiesAny (λ g. ahead) r x j e

  abbrev pub NextIn : Run → ℕ → ℕ → Regs → Type 0
  NextIn r x j regs = Lies r.top.block (r.top.place + 1) x (j + 1) regs

  pub data Here (r : Run) (x j : ℕ) (e : Effect) : Type 0 where
    does_so : (k : FlatBlock) → slice_get new.blocks x ≡ Some k → what_stands r k (slice_get k.code j) ≡ e → AfterIn r x j e → Here r x j e
    is_bad : IsBad e → Here r x j e
    jumps : (c y : ℕ) (k : FlatBlock) → e ≡ Goes c → slice_get new.blocks x ≡ Some k → what_stands r k (slice_get k.code j) ≡ Goes y
        → ((l : FlatBlock) (regs : Regs) → slice_get old.blocks c ≡ Some l → after_phis r.top.regs r.top.block l.phis ≡ Some regs → (z : FlatBlock) × (slice_get new.blocks y ≡ Some z) × (after_phis r.top.regs x z.phis ≡ Some regs) × Lies c 0 y 0 regs) → Here r x j e
    copies : (c : ℕ) (k : FlatBlock) → e ≡ Goes c → slice_get new.blocks x ≡ Some k
        → ((l : FlatBlock) (regs : Regs) → slice_get old.blocks c ≡ Some l → after_phis r.top.regs r.top.block l.phis ≡ Some regs → (n : ℕ) × Copied k j r.top.regs n regs × Lies c 0 x (j + n) regs × (n ≡ 0 → ahead c 0 < ahead r.top.block r.top.place)) → Here r x j e

  pub record BodyPlaces (Fine : Run → Type 0) : Type 0 where
    pub is_old : p.body f ≡ Some old
    pub same_params : new.params ≡ old.params
    pub fine_on : (r : Run) → Fine r → Fine (flat_step p r)
    pub not_stuck : (r : Run) → Fine r → r.status ≢ Stuck
    pub starts : (regs : Regs) → ((r : ℕ) → old.params ≤ r → regs r ≡ None) → Lies 0 0 0 0 regs
    pub turn : (r : Run) → Fine r → r.status ≡ Going → r.top.func ≡ f → (x j : ℕ) → Lies r.top.block r.top.place x j r.top.regs
        → (k : FlatBlock) → slice_get old.blocks r.top.block ≡ Some k → Here r x j (what_stands r k (slice_get k.code r.top.place))

  -- ---- other functions stay where they are

  abbrev In : ℕ → ℕ → ℕ → ℕ → ℕ → Regs → Type 0
  In g b n x j regs = ((g ≡ f) × Lies b n x j regs) ⊎ ((g ≢ f) × (x ≡ b) × (j ≡ n))

  abbrev ahead_in : ℕ → ℕ → ℕ → ℕ
  ahead_in g b n = if nat_eq g f then ahead b n else 0

  is_f : (g : ℕ) → g ≡ f → nat_eq g f ≡ true
  is_f g e = grind (arith, nat_tests)

  not_f : (g : ℕ) → g ≢ f → nat_eq g f ≡ false
  not_f g e = grind (arith, nat_tests)

  new_body : (g : ℕ) → g ≡ f → q.body g ≡ Some new
  new_body g e = ap (λ (t : Bool). if t then Some new else p.body g) (is_f g e)

  other_body : (g : ℕ) → g ≢ f → q.body g ≡ p.body g
  other_body g e = ap (λ (t : Bool). if t then Some new else p.body g) (not_f g e)

  step_going : (r : Run) → r.status ≡ Going → flat_step q r ≡ in_block q r (block_of (q.body r.top.func) r.top.block)
  unfolding flat_step
  step_going r e = ap (turn_of q r) e

  -- one branch of the follower
  jump_way : (r : Run) (x j y : ℕ) (k z : FlatBlock) (regs : Regs) (below : List Activation) → r.status ≡ Going → block_of (q.body r.top.func) x ≡ Some k → what_stands r k (slice_get k.code j) ≡ Goes y → block_of (q.body r.top.func) y ≡ Some z
      → after_phis r.top.regs x z.phis ≡ Some regs → flat_step q (at r below x j r.top.regs) ≡ at r below y 0 regs
  jump_way r x j y k z regs below going found ends there phis =
      let s = at r below x j r.top.regs in
      step_going s going ∙ ap (in_block q s) found ∙ ap (applied q s) ends ∙ ap (goes_into s y) there ∙ ap (stands_at s y) phis

  -- copies of the follower
  copy_step : (r : Run) (below : List Activation) (x j : ℕ) (k : FlatBlock) (regs : Regs) (d : RegId) (o : FlatOp) (v : Value) → r.status ≡ Going → block_of (q.body r.top.func) x ≡ Some k → slice_get k.code j ≡ Some (Copy d o) → value_of regs o ≡ Some v
      → flat_step q (at r below x j regs) ≡ at r below x (j + 1) (with_reg regs d.0 v)
  copy_step r below x j k regs d o v going found here value =
      let s = at r below x j regs in
      step_going s going ∙ ap (in_block q s) found ∙ ap (λ i. applied q s (what_stands s k i)) here ∙ ap (λ u. applied q s (using u (λ w. Sets d w))) value

  copies_way : (r : Run) (below : List Activation) (x : ℕ) (k : FlatBlock) → r.status ≡ Going → block_of (q.body r.top.func) x ≡ Some k → {j n : ℕ} {regs last : Regs} → Copied k j regs n last → iterate (flat_step q) n (at r below x j regs) ≡ at r below x (j + n) last
  copies_way r below x k going found {j} {n} {regs} {last} no_copy = let e : j ≡ j + 0 = omega arith in ap (λ m. at r below x m regs) e
  copies_way r below x k going found {j} {n} {regs} {last} (one_copy {n = m} d o v here value rest) =
      let e : (j + 1) + m ≡ j + suc m = omega arith in
      ap (iterate (flat_step q) m) (copy_step r below x j k regs d o v going found here value) ∙ copies_way r below x k going found rest ∙ ap (λ i. at r below x i last) e

  copies_quiet : (r : Run) (below : List Activation) (x : ℕ) (k : FlatBlock) → r.status ≡ Going → block_of (q.body r.top.func) x ≡ Some k → {j n : ℕ} {regs last : Regs} → Copied k j regs n last → (i : ℕ) → i < n → seen (iterate (flat_step q) i (at r below x j regs)) ≡ seen (at r below x j regs)
  copies_quiet r below x k going found no_copy i less = absurd (omega (arith, less))
  copies_quiet r below x k going found (one_copy d o v here value rest) zero less = refl
  copies_quiet r below x k going found {j} {regs = regs} (one_copy d o v here value rest) (suc i) less =
      ap (λ s. seen (iterate (flat_step q) i s)) (copy_step r below x j k regs d o v going found here value) ∙ copies_quiet r below x k going found rest i (omega (arith, less))

  module _ (Fine : Run → Type 0) (h : BodyPlaces Fine) where
    -- ---- a turn in the function

    after_in : (r : Run) (x j : ℕ) → r.top.func ≡ f → (e : Effect) → AfterIn r x j e → After p q In ahead_in r x j e
    after_in r x j is (Sets d v) a = inl (is, a)
    after_in r x j is (Allocates d size align) a = λ v. inl (is, a v)
    after_in r x j is (Stores m) a = inl (is, a)
    after_in r x j is (Puts d b) a = by_result d a
      where
        by_result : (d : Option RegId) → NextResult p q LiesAny (λ g. ahead) r x j d → NextResult p q In ahead_in r x j d
        by_result None n = inl (is, n)
        by_result (Some e) n = λ v. inl (is, n v)
    after_in r x j is (Takes d) a = by_result d a
      where
        by_result : (d : Option RegId) → NextResult p q LiesAny (λ g. ahead) r x j d → NextResult p q In ahead_in r x j d
        by_result None n = inl (is, n)
        by_result (Some e) n = λ v. inl (is, n v)
    after_in r x j is (Enters d g args) a = by_result d a
      where
        by_result : (d : Option RegId) → NextResult p q LiesAny (λ g. ahead) r x j d → NextResult p q In ahead_in r x j d
        by_result None n = inl (is, n)
        by_result (Some e) n = λ v. inl (is, n v)
    after_in r x j is (Goes c) a = a
    after_in r x j is (Returns v) a = tt
    after_in r x j is (Stops w) a = tt
    after_in r x j is NoMeaning a = tt
    after_in r x j is NoValue a = tt

    ahead_f : (g b n : ℕ) → g ≡ f → ahead_in g b n ≡ ahead b n
    ahead_f g b n e = ap (λ (t : Bool). if t then ahead b n else 0) (is_f g e)

    found_new : (g x : ℕ) (k : FlatBlock) → g ≡ f → slice_get new.blocks x ≡ Some k → block_of (q.body g) x ≡ Some k
    found_new g x k e at' = ap (λ o. block_of o x) (new_body g e) ∙ at'

    found_old : (g x : ℕ) (k : FlatBlock) → g ≡ f → block_of (p.body g) x ≡ Some k → slice_get old.blocks x ≡ Some k
    found_old g x k e at' = ap (λ o. block_of o x) (sym (ap p.body e ∙ h.is_old)) ∙ at'

    here_local : (r : Run) (x j : ℕ) → r.status ≡ Going → r.top.func ≡ f → (e : Effect) → Here r x j e → Local p q In ahead_in r x j e
    here_local r x j going is e (does_so k found same after) = does k (found_new r.top.func x k is found) same (after_in r x j is e after)
    here_local r x j going is e (is_bad bad) = fails bad
    here_local r x j going is e (jumps c y k to found goes_there rest) = leaves c to (λ l regs at' phis.
        let z = rest l regs (found_old r.top.func c l is at') phis in record {
          turns = 1;
          block = y;
          place = 0;
          lies = inl (is, z.3);
          way = λ below. jump_way r x j y k z.0 regs below going (found_new r.top.func x k is found) goes_there (found_new r.top.func y z.0 is z.1) z.2;
          quiet = λ below i less. let e : 0 ≡ i = omega (arith, less) in ap (λ i. seen (iterate (flat_step q) i (at r below x j r.top.regs))) (sym e);
          nearer = λ apart. absurd (omega (arith, apart));
        })
    here_local r x j going is e (copies c k to found rest) = leaves c to (λ l regs at' phis.
        let z = rest l regs (found_old r.top.func c l is at') phis in record {
          turns = z.0;
          block = x;
          place = j + z.0;
          lies = inl (is, z.2);
          way = λ below. copies_way r below x k going (found_new r.top.func x k is found) z.1;
          quiet = λ below i less. copies_quiet r below x k going (found_new r.top.func x k is found) z.1 i less;
          nearer = λ apart. subst (λ m. m < ahead_in r.top.func r.top.block r.top.place) (sym (ahead_f r.top.func c 0 is)) (subst (λ m. ahead c 0 < m) (sym (ahead_f r.top.func r.top.block r.top.place is)) (z.3 apart));
        })

    -- ---- a turn in another function

    after_other : (r : Run) → r.top.func ≢ f → (i : FlatInstr) (w : Option ℕ) (e : Effect) → Writes w e → After p q In ahead_in r r.top.block r.top.place e
    after_other r apart i w (Sets d v) a = inr (apart, refl, refl)
    after_other r apart i w (Allocates d size align) a = λ v. inr (apart, refl, refl)
    after_other r apart i w (Stores m) a = inr (apart, refl, refl)
    after_other r apart i w (Puts None b) a = inr (apart, refl, refl)
    after_other r apart i w (Puts (Some d) b) a = λ v. inr (apart, refl, refl)
    after_other r apart i w (Takes None) a = inr (apart, refl, refl)
    after_other r apart i w (Takes (Some d)) a = λ v. inr (apart, refl, refl)
    after_other r apart i w (Enters None g args) a = inr (apart, refl, refl)
    after_other r apart i w (Enters (Some d) g args) a = λ v. inr (apart, refl, refl)
    after_other r apart i w (Goes c) a = absurd a
    after_other r apart i w (Returns v) a = tt
    after_other r apart i w (Stops x) a = tt
    after_other r apart i w NoMeaning a = tt
    after_other r apart i w NoValue a = tt

    other_end : (r : Run) → r.status ≡ Going → r.top.func ≢ f → (k : FlatBlock) → block_of (p.body r.top.func) r.top.block ≡ Some k → slice_get k.code r.top.place ≡ None → (e : Effect) → end_effect r.top.regs k.end ≡ e → Ends k.end e → Local p q In ahead_in r r.top.block r.top.place e
    other_end r going apart k found past (Goes c) is a = leaves c refl (λ l regs at' phis. record {
      turns = 1;
      block = c;
      place = 0;
      lies = inr (apart, refl, refl);
      way = λ below. jump_way r r.top.block r.top.place c k l regs below going (ap (λ o. block_of o r.top.block) (other_body r.top.func apart) ∙ found) (ap (what_stands r k) past ∙ is) (ap (λ o. block_of o c) (other_body r.top.func apart) ∙ at') phis;
      quiet = λ below i less. let e : 0 ≡ i = omega (arith, less) in ap (λ i. seen (iterate (flat_step q) i (at r below r.top.block r.top.place r.top.regs))) (sym e);
      nearer = λ none. absurd (omega (arith, none));
    })
    other_end r going apart k found past (Returns v) is a = does k (ap (λ o. block_of o r.top.block) (other_body r.top.func apart) ∙ found) (ap (what_stands r k) past ∙ is) tt
    other_end r going apart k found past NoMeaning is a = fails (inl refl)
    other_end r going apart k found past NoValue is a = fails (inr refl)
    other_end r going apart k found past (Sets d v) is a = absurd a
    other_end r going apart k found past (Allocates d size align) is a = absurd a
    other_end r going apart k found past (Stores m) is a = absurd a
    other_end r going apart k found past (Puts d b) is a = absurd a
    other_end r going apart k found past (Takes d) is a = absurd a
    other_end r going apart k found past (Enters d g args) is a = absurd a
    other_end r going apart k found past (Stops w) is a = absurd a

    other_local : (r : Run) → r.status ≡ Going → r.top.func ≢ f → (k : FlatBlock) → block_of (p.body r.top.func) r.top.block ≡ Some k → (o : Option FlatInstr) → slice_get k.code r.top.place ≡ o → Local p q In ahead_in r r.top.block r.top.place (what_stands r k o)
    other_local r going apart k found (Some i) e =
        does k (ap (λ o. block_of o r.top.block) (other_body r.top.func apart) ∙ found) (ap (what_stands r k) e) (after_other r apart i (written_by i) (effect r.top.regs r.memory i) (effect_writes r.top.regs r.memory i))
    other_local r going apart k found None e = other_end r going apart k found e (end_effect r.top.regs k.end) refl (end_ends r.top.regs k.end)

    local : (r : Run) → Fine r → r.status ≡ Going → (x j : ℕ) → In r.top.func r.top.block r.top.place x j r.top.regs → (k : FlatBlock) → block_of (p.body r.top.func) r.top.block ≡ Some k → Local p q In ahead_in r x j (what_stands r k (slice_get k.code r.top.place))
    local r fine going x j (inl (is, lies)) k found = here_local r x j going is _ (h.turn r fine going is x j lies k (found_old r.top.func r.top.block k is found))
    local r fine going x j (inr (apart, same_block, same_place)) k found =
        subst (λ y. Local p q In ahead_in r y j (what_stands r k (slice_get k.code r.top.place))) (sym same_block)
        (subst (λ y. Local p q In ahead_in r r.top.block y (what_stands r k (slice_get k.code r.top.place))) (sym same_place) (other_local r going apart k found (slice_get k.code r.top.place) refl))

    params_same : (g : ℕ) (t : Bool) → nat_eq g f ≡ t → (o : Option FlatBody) → p.body g ≡ o → SameParams o (if t then Some new else o)
    params_same g true e None is = let same : g ≡ f = grind (arith, nat_tests) in absurd (let both : Some old ≡ None = sym h.is_old ∙ ap p.body (sym same) ∙ is in cc)
    params_same g true e (Some b) is = let same : g ≡ f = grind (arith, nat_tests) in let both : Some old ≡ Some b = sym h.is_old ∙ ap p.body (sym same) ∙ is in let one : old ≡ b = cc in h.same_params ∙ ap (λ (x : FlatBody). x.params) one
    params_same g false e None is = tt
    params_same g false e (Some b) is = refl

    begins : (g : ℕ) (body : FlatBody) → p.body g ≡ Some body → (regs : Regs) → ((r : ℕ) → body.params ≤ r → regs r ≡ None) → (t : Bool) → nat_eq g f ≡ t → In g 0 0 0 0 regs
    begins g body is regs none true e =
        let same : g ≡ f = grind (arith, nat_tests) in
        let both : Some old ≡ Some body = sym h.is_old ∙ ap p.body (sym same) ∙ is in
        let one : old ≡ body = cc in
        inl (same, h.starts regs (λ r le. none r (subst (λ (b : FlatBody). b.params ≤ r) one le)))
    begins g body is regs none false e = inr (λ same. absurd (grind (arith, nat_tests)), refl, refl)

    places : Places p q In ahead_in Fine
    places = record {
      fine_on = h.fine_on;
      not_stuck = h.not_stuck;
      globals = refl;
      main = refl;
      bodies = λ g. params_same g (nat_eq g f) refl (p.body g) refl;
      starts = λ g body is regs none. begins g body is regs none (nat_eq g f) refl;
      turn = local;
    }

    pub body_follows : (input : List ℕ) → Fine (flat_start p input) → Follows (flat_run p input) (flat_run q input)
    body_follows = moved_follows p q In ahead_in Fine places
