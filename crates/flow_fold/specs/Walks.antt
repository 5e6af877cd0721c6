-- Blocks that are marked, and those of them that are still to be looked at.
use Rattle.std.specs.Prelude.{◌≡◌, ◌⊎◌, ℕ, ◌+◌, ◌≤◌, Bool, true, false, List, [], ◌∷◌, length, slice_index_or, Contains}
use Rattle.flow_fold.specs.declared.walk.Walk.{Walk}

abbrev pub marked_in : List Bool → ℕ → Bool
marked_in marks b = slice_index_or marks b false

abbrev pub is_marked : Walk → ℕ → Bool
is_marked w b = marked_in w.marks b

abbrev pub is_open : Walk → ℕ → Type 0
is_open w b = Contains w.todo (record { 0 = b })

-- how many are not marked
abbrev pub missing : List Bool → ℕ
missing [] = 0
missing (true ∷ ms) = missing ms
missing (false ∷ ms) = missing ms + 1

-- how many turns are left at most
abbrev pub work : Walk → ℕ
work w = missing w.marks + length w.todo

-- these blocks were marked, if they weren't, and are to be looked at
pub record Marks (old new : Walk) (blocks : List ℕ) : Type 0 where
  pub long : length new.marks ≡ length old.marks
  pub kept : (q : ℕ) → is_marked old q ≡ true → is_marked new q ≡ true
  pub done : (q : ℕ) → Contains blocks q → is_marked new q ≡ true
  pub only : (q : ℕ) → is_marked new q ≡ true → (is_marked old q ≡ true) ⊎ Contains blocks q
  pub open_new : (q : ℕ) → is_marked new q ≡ true → (is_marked old q ≡ true) ⊎ is_open new q
  pub open_old : (q : ℕ) → is_open old q → is_open new q
  pub open_only : (q : ℕ) → is_open new q → is_open old q ⊎ Contains blocks q
  pub less : work new ≤ work old
