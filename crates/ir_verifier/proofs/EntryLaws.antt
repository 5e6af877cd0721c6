-- The places at which the rule of the entry block is broken.
use Rattle.std.proofs.Common.{◌≡◌, refl, sym, ◌∙◌, subst, List, [], Option, Some, None, slice_get, Contains}
use Rattle.std.specs.List.{flat_map}
use Rattle.oi_base.specs.declared.ids.Place.{Place}
use Rattle.ir_core.specs.declared.func.Block.{Block}
use Rattle.ir_core.specs.declared.func.Func.{Func}
use Rattle.ir_core.specs.Parts.{targets}
use Rattle.ir_core.specs.ValidFunc.{BreaksEntry}
use Rattle.ir_core.proofs.Lists.{Has, contains}
use Rattle.module_rules.specs.First.{earliest, IsFound}
use Rattle.ir_verifier.specs.Faults.{names_entry, entry_fault, entry_faults}
use Rattle.module_rules.proofs.Earliest.{found}
use Rattle.module_rules.proofs.Faulty.{has, named_has, has_named, has_fault, fault_has}

module _ (f : Func) where
  abbrev faults_of : Option Block → List Place
  faults_of None = []
  faults_of (Some entry) = flat_map (entry_fault entry.label) f.blocks

  sound : (o : Option Block) → slice_get f.blocks 0 ≡ o → (p : Place) → Has (faults_of o) p → BreaksEntry f p
  sound None at p h = absurd h
  sound (Some entry) at p h =
      let r = fault_has (names_entry entry.label) (λ (b : Block). b.end_place) f.blocks p h in
      (entry, at, (r.0, contains f.blocks r.0 r.1, r.2, contains (targets r.0.end) entry.label (named_has entry.label (targets r.0.end) r.3)))

  complete : (o : Option Block) → slice_get f.blocks 0 ≡ o → (p : Place) → BreaksEntry f p → Has (faults_of o) p
  complete None at p b = absurd (let clash : None ≡ Some b.0 = sym at ∙ b.1 in cc)
  complete (Some entry) at p b =
      let k : Block = b.2.0 in
      let same : b.0 ≡ entry = let e : Some b.0 ≡ Some entry = sym b.1 ∙ at in cc in
      let names : Contains (targets k.end) entry.label = subst (λ (e : Block). Contains (targets k.end) e.label) same b.2.3 in
      subst (Has (faults_of (Some entry))) b.2.2
      (has_fault (names_entry entry.label) (λ (e : Block). e.end_place) f.blocks k (has f.blocks k b.2.1) (has_named entry.label (targets k.end) (has (targets k.end) entry.label names)))

  pub entry_found : IsFound (BreaksEntry f) (earliest None (entry_faults f))
  entry_found = found (BreaksEntry f) (entry_faults f) (sound (slice_get f.blocks 0) refl) (complete (slice_get f.blocks 0) refl)
