-- What the frame of a well-formed body gives a row.
use Rattle.std.proofs.Common.{◌≡◌, ◌≢◌, ℕ, refl, sym, ap, ◌∙◌, Option, Some, None}
use Rattle.ir_core.specs.declared.flat.FlatBody.{FlatBody}
use Rattle.ir_core.specs.WellFormed.{IsWellFormed}
use Rattle.frame_layout.specs.Homes.{slot_in, shadow_in, place_in}
use Rattle.frame_layout.specs.Offsets.{home_of, slot_of, shadow_of, place_of}
use Rattle.frame_layout.specs.Frame.{frame, frame_of, home, slot, shadow, place}
use Rattle.frame_layout.proofs.Body.{home_in_table}
use Rattle.frame_layout.proofs.HomeLaws.{have_homes}

module _ (b : FlatBody) (w : IsWellFormed b) where
  home_same : (r : ℕ) → home_of (frame_of b) r ≡ home b r
  unfolding frame_of
  home_same r = home_in_table w.types w.funcs w.own b w.formed r

  pub slot_same : (r : ℕ) → slot_of (frame_of b) r ≡ slot b r
  slot_same r = ap slot_in (home_same r)

  pub place_same : (r : ℕ) → place_of (frame_of b) r ≡ place b r
  place_same r = ap place_in (home_same r)

  pub shadow_same : (r : ℕ) → shadow_of (frame_of b) r ≡ shadow b r
  shadow_same r = ap shadow_in (home_same r)

  -- a register with a slot is no alloca's
  pub no_place : (r o : ℕ) → slot b r ≡ Some o → place b r ≡ None
  no_place r o e = by (place b r) refl
    where
      by : (x : Option ℕ) → place b r ≡ x → x ≡ None
      by None p = refl
      by (Some q) p = absurd (differ (sym ((have_homes b w).no_slot_and_place r q p) ∙ e))
        where
          differ : None ≡ Some o → ⊥
          differ z = cc

  pub other_register : (r d o q : ℕ) → place b r ≡ Some o → slot b d ≡ Some q → r ≢ d
  other_register r d o q p s e = differ (sym (no_place d q s) ∙ ap (place b) (sym e) ∙ p)
    where
      differ : None ≡ Some o → ⊥
      differ z = cc

pub bytes_same : (b : FlatBody) → (frame_of b).bytes ≡ frame b
unfolding frame_of
bytes_same b = refl
