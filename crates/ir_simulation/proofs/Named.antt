-- A body whose blocks are those of another under other names, place by place: what has to be shown of the two.
use Rattle.std.proofs.Common.{◌≡◌, ◌≢◌, ◌⊎◌, inl, inr, ⊎_elim, ℕ, ◌+◌, ◌≤◌, Option, Some, None, slice_get, refl, sym, ap, ◌∙◌, subst}
use Rattle.oi_base.specs.declared.ids.RegId.{RegId}
use Rattle.oi_base.specs.Follows.{Going, Stuck, Follows}
use Rattle.ir_core.specs.declared.flat.FlatInstr.{FlatInstr}
use Rattle.ir_core.specs.declared.flat.FlatBlock.{FlatBlock}
use Rattle.ir_core.specs.declared.flat.FlatBody.{FlatBody}
use Rattle.ir_core.specs.Memory.{Value}
use Rattle.ir_core.specs.Flat.{Program, Run, Regs, Effect, Sets, Allocates, Stores, Puts, Takes, Enters, Goes, Returns, Stops, NoMeaning, NoValue, with_reg, after_phis, what_stands, flat_step, flat_start, flat_run, end_effect, effect}
use Rattle.ir_core.specs.Formed.{written_by}
use Rattle.ir_simulation.specs.Replaced.{with_body}
use Rattle.ir_simulation.proofs.Moved.{IsBad}
use Rattle.ir_simulation.proofs.Writes.{Writes, effect_writes, Ends, end_ends}
use Rattle.ir_simulation.proofs.OneBody.{Here, does_so, is_bad, jumps, AfterIn, BodyPlaces, body_follows}

-- Inv b n regs: what is known of the registers before instruction n of block b
module _ (p : Program) (f : ℕ) (old new : FlatBody) (name : ℕ → ℕ) (Inv : ℕ → ℕ → Regs → Type 0) where
  abbrev pub Lies : ℕ → ℕ → ℕ → ℕ → Regs → Type 0
  Lies b n x j regs = (x ≡ name b) × (j ≡ n) × Inv b n regs

  abbrev pub KeptBy : Run → Option RegId → Type 0
  KeptBy r None = Inv r.top.block (r.top.place + 1) r.top.regs
  KeptBy r (Some d) = (v : Value) → Inv r.top.block (r.top.place + 1) (with_reg r.top.regs d.0 v)

  -- what is known is kept by an effect
  abbrev pub Keeps : Run → Effect → Type 0
  Keeps r (Sets d v) = Inv r.top.block (r.top.place + 1) (with_reg r.top.regs d.0 v)
  Keeps r (Allocates d size align) = (v : Value) → Inv r.top.block (r.top.place + 1) (with_reg r.top.regs d.0 v)
  Keeps r (Stores m) = Inv r.top.block (r.top.place + 1) r.top.regs
  Keeps r (Puts d b) = KeptBy r d
  Keeps r (Takes d) = KeptBy r d
  Keeps r (Enters d g args) = KeptBy r d
  Keeps r e = Unit {0}

  -- what the end of the new block does, where that of the old one has this effect
  abbrev pub EndsSo : Run → FlatBlock → Effect → Type 0
  EndsSo r l (Goes c) = (end_effect r.top.regs l.end ≡ Goes (name c)) × ((k : FlatBlock) (regs : Regs) → slice_get old.blocks c ≡ Some k → after_phis r.top.regs r.top.block k.phis ≡ Some regs
      → (z : FlatBlock) × (slice_get new.blocks (name c) ≡ Some z) × (after_phis r.top.regs (name r.top.block) z.phis ≡ Some regs) × Inv c 0 regs)
  EndsSo r l (Returns v) = end_effect r.top.regs l.end ≡ Returns v
  EndsSo r l e = Unit {0}

  pub record SameBlocks (Fine : Run → Type 0) : Type 0 where
    pub is_old : p.body f ≡ Some old
    pub same_params : new.params ≡ old.params
    pub fine_on : (r : Run) → Fine r → Fine (flat_step p r)
    pub not_stuck : (r : Run) → Fine r → r.status ≢ Stuck
    pub entry : name 0 ≡ 0
    pub starts : (regs : Regs) → ((r : ℕ) → old.params ≤ r → regs r ≡ None) → Inv 0 0 regs
    pub blocks : (b n : ℕ) (regs : Regs) (k : FlatBlock) → Inv b n regs → slice_get old.blocks b ≡ Some k → (l : FlatBlock) × (slice_get new.blocks (name b) ≡ Some l)
    pub code : (r : Run) → Fine r → r.status ≡ Going → r.top.func ≡ f → Inv r.top.block r.top.place r.top.regs → (k l : FlatBlock) → slice_get old.blocks r.top.block ≡ Some k → slice_get new.blocks (name r.top.block) ≡ Some l
        → (i : FlatInstr) → slice_get k.code r.top.place ≡ Some i
        → IsBad (effect r.top.regs r.memory i) ⊎ ((j : FlatInstr) × (slice_get l.code r.top.place ≡ Some j) × (effect r.top.regs r.memory j ≡ effect r.top.regs r.memory i) × Keeps r (effect r.top.regs r.memory i))
    pub ends : (r : Run) → Fine r → r.status ≡ Going → r.top.func ≡ f → Inv r.top.block r.top.place r.top.regs → (k l : FlatBlock) → slice_get old.blocks r.top.block ≡ Some k → slice_get new.blocks (name r.top.block) ≡ Some l
        → slice_get k.code r.top.place ≡ None → (slice_get l.code r.top.place ≡ None) × EndsSo r l (end_effect r.top.regs k.end)

  module _ (Fine : Run → Type 0) (h : SameBlocks Fine) where
    keeps_after : (r : Run) (w : Option ℕ) (e : Effect) → Writes w e → Keeps r e → AfterIn p f old new Lies (λ b n. 0) r (name r.top.block) r.top.place e
    keeps_after r w (Sets d v) a k = (refl, refl, k)
    keeps_after r w (Allocates d size align) a k = λ v. (refl, refl, k v)
    keeps_after r w (Stores m) a k = (refl, refl, k)
    keeps_after r w (Puts None b) a k = (refl, refl, k)
    keeps_after r w (Puts (Some d) b) a k = λ v. (refl, refl, k v)
    keeps_after r w (Takes None) a k = (refl, refl, k)
    keeps_after r w (Takes (Some d)) a k = λ v. (refl, refl, k v)
    keeps_after r w (Enters None g args) a k = (refl, refl, k)
    keeps_after r w (Enters (Some d) g args) a k = λ v. (refl, refl, k v)
    keeps_after r w (Goes c) a k = absurd a
    keeps_after r w (Returns v) a k = tt
    keeps_after r w (Stops x) a k = tt
    keeps_after r w NoMeaning a k = tt
    keeps_after r w NoValue a k = tt

    abbrev At : Run → Effect → Type 0
    At r e = Here p f old new Lies (λ b n. 0) r (name r.top.block) r.top.place e

    end_here : (r : Run) (k l : FlatBlock) → slice_get new.blocks (name r.top.block) ≡ Some l → slice_get l.code r.top.place ≡ None → (e : Effect) → Ends k.end e → EndsSo r l e → At r e
    end_here r k l found past (Goes c) a s = jumps c (name c) l refl found (ap (what_stands r l) past ∙ s.0) (λ z regs at' phis. let u = s.1 z regs at' phis in (u.0, u.1, u.2, (refl, refl, u.3)))
    end_here r k l found past (Returns v) a s = does_so l found (ap (what_stands r l) past ∙ s) tt
    end_here r k l found past NoMeaning a s = is_bad (inl refl)
    end_here r k l found past NoValue a s = is_bad (inr refl)
    end_here r k l found past (Sets d v) a s = absurd a
    end_here r k l found past (Allocates d size align) a s = absurd a
    end_here r k l found past (Stores m) a s = absurd a
    end_here r k l found past (Puts d b) a s = absurd a
    end_here r k l found past (Takes d) a s = absurd a
    end_here r k l found past (Enters d g args) a s = absurd a
    end_here r k l found past (Stops w) a s = absurd a

    here : (r : Run) → Fine r → r.status ≡ Going → r.top.func ≡ f → Inv r.top.block r.top.place r.top.regs → (k : FlatBlock) → slice_get old.blocks r.top.block ≡ Some k
        → (l : FlatBlock) × (slice_get new.blocks (name r.top.block) ≡ Some l) → (o : Option FlatInstr) → slice_get k.code r.top.place ≡ o → At r (what_stands r k o)
    here r fine going is inv k found new_block (Some i) stands = ⊎_elim
        (λ bad. is_bad bad)
        (λ c. does_so new_block.0 new_block.1 (ap (what_stands r new_block.0) c.1 ∙ c.2) (keeps_after r (written_by i) (effect r.top.regs r.memory i) (effect_writes r.top.regs r.memory i) c.3))
        (h.code r fine going is inv k new_block.0 found new_block.1 i stands)
    here r fine going is inv k found new_block None stands =
        let s = h.ends r fine going is inv k new_block.0 found new_block.1 stands in
        end_here r k new_block.0 new_block.1 s.0 (end_effect r.top.regs k.end) (end_ends r.top.regs k.end) s.1

    places : BodyPlaces p f old new Lies (λ b n. 0) Fine
    places = record {
      is_old = h.is_old;
      same_params = h.same_params;
      fine_on = h.fine_on;
      not_stuck = h.not_stuck;
      starts = λ regs none. (sym h.entry, refl, h.starts regs none);
      turn = λ r fine going is x j lies k found.
          subst (λ y. Here p f old new Lies (λ b n. 0) r y j (what_stands r k (slice_get k.code r.top.place))) (sym lies.0)
          (subst (λ y. Here p f old new Lies (λ b n. 0) r (name r.top.block) y (what_stands r k (slice_get k.code r.top.place))) (sym lies.1)
          (here r fine going is lies.2 k found (h.blocks r.top.block r.top.place r.top.regs k lies.2 found) (slice_get k.code r.top.place) refl));
    }

    pub same_blocks_follow : (input : _) → Fine (flat_start p input) → Follows (flat_run p input) (flat_run (with_body p f new) input)
    same_blocks_follow = body_follows p f old new Lies (λ b n. 0) Fine places
