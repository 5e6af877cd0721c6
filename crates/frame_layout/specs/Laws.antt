-- What holds of the frame of a formed body.
use Rattle.std.specs.Prelude.{◌≡◌, ◌≢◌, ◌⊎◌, ℕ, ◌+◌, ◌%◌, ◌<◌, ◌≤◌, Some, None, slice_get}
use Rattle.oi_base.specs.declared.ids.RegId.{RegId}
use Rattle.ir_core.specs.declared.flat.Phi.{Phi}
use Rattle.ir_core.specs.declared.flat.FlatInstr.{FlatInstr}
use Rattle.ir_core.specs.declared.flat.FlatInstr.TheVariants.{Alloca}
use Rattle.ir_core.specs.declared.flat.FlatBlock.{FlatBlock}
use Rattle.ir_core.specs.declared.flat.FlatBody.{FlatBody}
use Rattle.ir_core.specs.Formed.{IsBlock, written_by}
use Rattle.frame_layout.specs.Frame.{frame, slots_end, slot, shadow, place}

-- a phi or an instruction stands in the body
abbrev pub HasPhi : FlatBody → Phi → Type 0
HasPhi body f = (n m : ℕ) × (k : FlatBlock) × IsBlock body n k × (slice_get k.phis m ≡ Some f)

abbrev pub HasInstr : FlatBody → FlatInstr → Type 0
HasInstr body i = (n m : ℕ) × (k : FlatBlock) × IsBlock body n k × (slice_get k.code m ≡ Some i)

abbrev pub IsNoAlloca : FlatInstr → Type 0
IsNoAlloca (Alloca d size align) = ⊥
IsNoAlloca i = Unit {0}

-- a phi or an instruction that is no alloca writes the register
abbrev pub IsWrittenBy : FlatBody → ℕ → Type 0
IsWrittenBy body r = ((f : Phi) × HasPhi body f × (f.reg.0 ≡ r)) ⊎ ((i : FlatInstr) × HasInstr body i × IsNoAlloca i × (written_by i ≡ Some r))

-- which registers have which homes
pub record HaveHomes (b : FlatBody) : Type 0 where
  pub params : (r : ℕ) → r < b.params → (o : ℕ) × (slot b r ≡ Some o)
  pub phis : (f : Phi) → HasPhi b f → (o : ℕ) × (slot b f.reg.0 ≡ Some o) × (shadow b f.reg.0 ≡ Some (o + 4))
  pub results : (i : FlatInstr) (r : ℕ) → HasInstr b i → IsNoAlloca i → written_by i ≡ Some r → (o : ℕ) × (slot b r ≡ Some o)
  pub allocas : (d : RegId) (size align : ℕ) → HasInstr b (Alloca d size align) → (o : ℕ) × (place b d.0 ≡ Some o)
  pub only_slots : (r o : ℕ) → slot b r ≡ Some o → (r < b.params) ⊎ IsWrittenBy b r
  pub only_shadows : (r o : ℕ) → shadow b r ≡ Some o → (f : Phi) × HasPhi b f × (f.reg.0 ≡ r)
  pub only_places : (r o : ℕ) → place b r ≡ Some o → (d : RegId) × (size align : ℕ) × HasInstr b (Alloca d size align) × (d.0 ≡ r)
  pub no_slot_and_place : (r o : ℕ) → place b r ≡ Some o → slot b r ≡ None

-- two ranges, each from an offset on, have nothing in common
abbrev pub AreApart : ℕ → ℕ → ℕ → ℕ → Type 0
AreApart o m p n = (o + m ≤ p) ⊎ (p + n ≤ o)

-- where the homes lie: slots and shadows after the return address, and memory after them
pub record LieApart (b : FlatBody) : Type 0 where
  pub slots : (r o : ℕ) → slot b r ≡ Some o → (4 ≤ o) × (o % 4 ≡ 0) × (o + 4 ≤ slots_end b)
  pub shadows : (r o : ℕ) → shadow b r ≡ Some o → (s : ℕ) × (slot b r ≡ Some s) × (o ≡ s + 4) × (o + 4 ≤ slots_end b)
  pub slots_apart : (r q o p : ℕ) → slot b r ≡ Some o → slot b q ≡ Some p → r ≢ q → AreApart o 4 p 4
  pub shadow_apart : (r q o p : ℕ) → shadow b r ≡ Some o → slot b q ≡ Some p → AreApart o 4 p 4
  pub shadows_apart : (r q o p : ℕ) → shadow b r ≡ Some o → shadow b q ≡ Some p → r ≢ q → AreApart o 4 p 4
  pub memory : (d : RegId) (size align o : ℕ) → HasInstr b (Alloca d size align) → place b d.0 ≡ Some o → (slots_end b ≤ o) × (o + size ≤ frame b) × (o % align ≡ 0)
  pub memory_apart : (d e : RegId) (size align size' align' o p : ℕ) → HasInstr b (Alloca d size align) → HasInstr b (Alloca e size' align') → place b d.0 ≡ Some o → place b e.0 ≡ Some p → d.0 ≢ e.0 → AreApart o size p size'
  pub within : (4 ≤ slots_end b) × (slots_end b ≤ frame b)
  pub whole : frame b % 16 ≡ 0
