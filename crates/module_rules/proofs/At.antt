-- A rule that something stands at a place and is so, where a test tells it.
use Rattle.std.proofs.Common.{◌≡◌, refl, sym, ap, ◌∙◌, subst, Bool, true, List, [], ◌∷◌, ◌++◌, map, None, Contains}
use Rattle.std.specs.List.{flat_map}
use Rattle.std.proofs.lemmas.Grind.{flat_map-append}
use Rattle.std.proofs.lemmas.List.Folds.{flat_map-map}
use Rattle.std.proofs.lemmas.List.{append-nil}
use Rattle.oi_base.specs.declared.ids.Place.{Place}
use Rattle.ir_core.specs.declared.func.Instr.{Instr}
use Rattle.ir_core.specs.declared.func.Block.{Block}
use Rattle.ir_core.specs.Operands.{Step, Does, Ends, block_steps, place_of}
use Rattle.ir_core.proofs.Lists.{Has, contains}
use Rattle.module_rules.specs.First.{earliest, IsFound}
use Rattle.module_rules.specs.Faults.{place_if, block_faults}
use Rattle.module_rules.proofs.Earliest.{found}
use Rattle.module_rules.proofs.Faulty.{has, places, has_fault, fault_has}

module _ {A : Type 0} (bad : A → Bool) (place : A → Place) (Is : A → Type 0) (xs : List A) (sound : (x : A) → Has xs x → bad x ≡ true → Is x) (complete : (x : A) → Has xs x → Is x → bad x ≡ true) where
  abbrev pub At : Place → Type 0
  At p = (x : A) × Contains xs x × (place x ≡ p) × Is x

  pub found_in : IsFound At (earliest None (places bad place xs))
  found_in = found At (places bad place xs) of_fault to_fault
    where
      of_fault : (p : Place) → Has (places bad place xs) p → At p
      of_fault p h = let r = fault_has bad place xs p h in (r.0, contains xs r.0 r.1, r.2, sound r.0 r.1 r.3)

      to_fault : (p : Place) → At p → Has (places bad place xs) p
      to_fault p a = subst (Has (places bad place xs)) a.2 (has_fault bad place xs a.0 (has xs a.0 a.1) (complete a.0 (has xs a.0 a.1) a.3))

-- where the test tells of anything whether it is so
pub found_at : {A : Type 0} (bad : A → Bool) (place : A → Place) (Is : A → Type 0) (sound : (x : A) → bad x ≡ true → Is x) (complete : (x : A) → Is x → bad x ≡ true) (xs : List A) → IsFound (λ (p : Place). (x : A) × Contains xs x × (place x ≡ p) × Is x) (earliest None (places bad place xs))
found_at bad place Is sound complete xs = found_in bad place Is xs (λ x h. sound x) (λ x h. complete x)

-- the places of the steps of blocks, block by block
pub step_places : (bad : Step → Bool) (blocks : List Block) → flat_map (block_faults bad) blocks ≡ places bad place_of (flat_map block_steps blocks)
step_places bad [] = refl
step_places bad (b ∷ bs) =
    ap (λ (ps : List Place). block_faults bad b ++ ps) (step_places bad bs)
    ∙ ap (λ (ps : List Place). ps ++ places bad place_of (flat_map block_steps bs)) (of_block b.code)
    ∙ sym (flat_map-append (λ (s : Step). place_if (bad s) (place_of s)) (block_steps b) (flat_map block_steps bs))
  where
    -- the instructions, and the terminator
    of_block : (code : List Instr) → flat_map (λ (i : Instr). place_if (bad (Does i)) i.place) code ++ place_if (bad (Ends b)) b.end_place ≡ places bad place_of (map (λ (i : Instr). Does i) code ++ Ends b ∷ [])
    of_block code =
        ap (λ (ps : List Place). ps ++ place_if (bad (Ends b)) b.end_place) (sym (flat_map-map at_step (λ (i : Instr). Does i) code))
        ∙ ap (λ (ps : List Place). flat_map at_step (map (λ (i : Instr). Does i) code) ++ ps) (sym (append-nil (at_step (Ends b))))
        ∙ sym (flat_map-append at_step (map (λ (i : Instr). Does i) code) (Ends b ∷ []))
      where
        at_step : Step → List Place
        at_step s = place_if (bad s) (place_of s)
