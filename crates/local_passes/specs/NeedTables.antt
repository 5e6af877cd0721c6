-- Marks of needed registers, and tables of what definitions use.
use Rattle.std.specs.Prelude.{◌≡◌, ◌⊎◌, ℕ, ◌+◌, ◌<◌, ◌≤◌, true, List, [], ◌++◌, length, slice_index_or, Contains}
use Rattle.ir_core.specs.declared.flat.FlatOp.{FlatOp}
use Rattle.ir_core.specs.declared.flat.FlatOp.TheVariants.{Reg}
use Rattle.flow_fold.specs.Walks.{marked_in, missing}
use Rattle.local_passes.specs.declared.needs.Needs.{Needs}
use Rattle.local_passes.specs.declared.use_table.UseTable.{UseTable}

-- ---- marks

abbrev pub is_open : Needs → ℕ → Type 0
is_open w r = Contains w.todo (record { 0 = r })

-- how many turns are left at most
abbrev pub work : Needs → ℕ
work w = missing w.marks + length w.todo

abbrev pub Names : List FlatOp → ℕ → Type 0
Names os r = Contains os (Reg (record { 0 = r }))

-- the registers of a table among some operands were marked, if they weren't, and are to be looked at
pub record Marks (old new : Needs) (os : List FlatOp) : Type 0 where
  pub long : length new.marks ≡ length old.marks
  pub kept : (q : ℕ) → marked_in old.marks q ≡ true → marked_in new.marks q ≡ true
  pub done : (q : ℕ) → q < length old.marks → Names os q → marked_in new.marks q ≡ true
  pub only : (q : ℕ) → marked_in new.marks q ≡ true → (marked_in old.marks q ≡ true) ⊎ Names os q
  pub open_new : (q : ℕ) → marked_in new.marks q ≡ true → (marked_in old.marks q ≡ true) ⊎ is_open new q
  pub open_old : (q : ℕ) → is_open old q → is_open new q
  pub open_only : (q : ℕ) → is_open new q → is_open old q ⊎ Names os q
  pub less : work new ≤ work old

-- ---- what definitions use

abbrev pub uses_in : UseTable → ℕ → List FlatOp
uses_in t r = slice_index_or t.uses.items r []

-- each register of the table uses something more
pub record Adds (old new : UseTable) (more : ℕ → List FlatOp) : Type 0 where
  pub long : length new.uses.items ≡ length old.uses.items
  pub each : (q : ℕ) → q < length old.uses.items → uses_in new q ≡ uses_in old q ++ more q
