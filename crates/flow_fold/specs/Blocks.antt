-- Lists of blocks of which some are changed by their numbers or dropped.
use Rattle.std.specs.Prelude.{ℕ, zero, suc, ◌+◌, Bool, true, false, if◌then◌else◌, List, [], ◌∷◌, map}
use Rattle.std.specs.List.{filter}
use Rattle.oi_base.specs.declared.ids.BlockId.{BlockId}
use Rattle.ir_core.specs.declared.flat.Case.{Case}
use Rattle.ir_core.specs.declared.flat.Entry.{Entry}
use Rattle.ir_core.specs.declared.flat.Phi.{Phi}
use Rattle.ir_core.specs.declared.flat.FlatEnd.{FlatEnd}
use Rattle.ir_core.specs.declared.flat.FlatEnd.TheVariants.{Ret, Br, Cond, Switch, Unreachable}
use Rattle.ir_core.specs.declared.flat.FlatBlock.{FlatBlock}
use Rattle.ir_core.specs.declared.flat.FlatBody.{FlatBody}

-- f of each element and its number, the first of which is n
abbrev pub by_number : {A B : Type 0} → (ℕ → A → B) → ℕ → List A → List B
by_number f n [] = []
by_number f n (x ∷ xs) = f n x ∷ by_number f (suc n) xs

-- the elements whose numbers pass the test
abbrev pub kept_from : {A : Type 0} → (ℕ → Bool) → ℕ → List A → List A
kept_from keep n [] = []
kept_from keep n (x ∷ xs) = if keep n then x ∷ kept_from keep (suc n) xs else kept_from keep (suc n) xs

-- 1 or 0
abbrev pub one_if : Bool → ℕ
one_if true = 1
one_if false = 0

-- how many numbers below b pass, so the new number of b
abbrev pub number_of : (ℕ → Bool) → ℕ → ℕ
number_of keep zero = 0
number_of keep (suc b) = number_of keep b + one_if (keep b)

-- a phi with the entries that pass
abbrev pub with_entries : (Entry → Bool) → Phi → Phi
with_entries test f = record f { entries = filter test f.entries }

-- an entry that names another block
abbrev pub entry_renamed : (ℕ → ℕ) → Entry → Entry
entry_renamed name e = record e { from = record { 0 = name e.from.0 } }

-- a phi whose entries name other blocks
abbrev pub phi_renamed : (ℕ → ℕ) → Phi → Phi
phi_renamed name f = record f { entries = map (entry_renamed name) f.entries }

abbrev pub block_named : (ℕ → ℕ) → BlockId → BlockId
block_named name b = record { 0 = name b.0 }

abbrev pub case_renamed : (ℕ → ℕ) → Case → Case
case_renamed name c = record c { to = block_named name c.to }

-- a terminator that goes to other blocks
abbrev pub end_renamed : (ℕ → ℕ) → FlatEnd → FlatEnd
end_renamed name (Ret a) = Ret a
end_renamed name (Br b) = Br (block_named name b)
end_renamed name (Cond c t f) = Cond c (block_named name t) (block_named name f)
end_renamed name (Switch a w cases other) = Switch a w (map (case_renamed name) cases) (block_named name other)
end_renamed name Unreachable = Unreachable

-- a block where only some blocks are left, under their new numbers
abbrev pub left_in : (ℕ → Bool) → FlatBlock → FlatBlock
left_in keep k = record {
  phis = map (λ (f : Phi). phi_renamed (number_of keep) (with_entries (λ e. keep e.from.0) f)) k.phis;
  code = k.code;
  end = end_renamed (number_of keep) k.end;
}

-- the body of the blocks that pass
abbrev pub only_blocks : (ℕ → Bool) → FlatBody → FlatBody
only_blocks keep body = record body { blocks = map (left_in keep) (kept_from keep 0 body.blocks) }
