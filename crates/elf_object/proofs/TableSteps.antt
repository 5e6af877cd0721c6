-- Going over the entries of a symbol table and over strings, one after the other.
use Rattle.std.proofs.Common.{◌≡◌, ℕ, suc, ◌+◌, ◌-◌, ◌<◌, ◌≤◌, Bool, true, false, cond, List, [], ◌∷◌, ◌++◌, length, get_or, drop, Some, None, refl, sym, ap, ◌∙◌, append_assoc, arith}
use Rattle.std.specs.Prelude.{◌==◌}
use Rattle.std.specs.List.{position, position_or_len}
use Rattle.std.proofs.lemmas.Bool.{ltb-false}
use Rattle.std.proofs.lemmas.List.{append-nil, drop_all}
use Rattle.std.proofs.lemmas.List.Sums.{prefix_len-le-length}
use Rattle.elf_object.specs.declared.symbol.Symbol.{Symbol}
use Rattle.elf_object.specs.declared.fault.ElfFault.{ElfFault}
use Rattle.elf_object.specs.declared.fault.ElfField.TheVariants as fields
use Rattle.elf_object.specs.Elf32.{sym_fields}
use Rattle.elf_object.specs.File.{entry}
use Rattle.elf_object.specs.Checks.{first_failed, field_checks, place_after, string_at, symbol_at, symbols_at, entry_checks, name_check, name_checks}
use Rattle.elf_object.proofs.CheckLaws.{Answer, passes, fails, passed_in, failed_in}
use Rattle.elf_object.proofs.Symbols.{drop_at}

-- ---- the first place that passes

some_is : (b : Bool) (n i : ℕ) → cond b (Some n) None ≡ Some i → i ≡ n
some_is true n i h = cc
some_is false n i h = absurd cc

none_is : (b : Bool) (n : ℕ) → cond b (Some n) None ≡ None → b ≡ false
none_is true n h = absurd cc
none_is false n h = refl

pub position_is : (p : ℕ → Bool) (xs : List ℕ) (i : ℕ) → position p xs ≡ Some i → i ≡ position_or_len p xs
position_is p xs i h = some_is _ _ i h

pub no_position : (p : ℕ → Bool) (xs : List ℕ) → position p xs ≡ None → length xs ≡ position_or_len p xs
no_position p xs h =
    let le : length xs ≤ position_or_len p xs = ltb-false _ _ (none_is _ _ h) in
    let ge : position_or_len p xs ≤ length xs = prefix_len-le-length _ xs in
    omega arith

-- ---- symbols

-- one more symbol was read, and the others follow
pub symbols-go_on : (before : List Symbol) (file table name : List ℕ) (at name_at next locals rest count i : ℕ) (s : Symbol) (all : List Symbol) → i < count
    → name ≡ string_at table name_at → next ≡ place_after (length table) name_at name → rest ≡ locals - 1 → s ≡ symbol_at file at (locals == 0) name
    → before ++ symbols_at file table at name_at locals (count - i) ≡ all → (before ++ s ∷ []) ++ symbols_at file table (at + 16) next rest (count - (i + 1)) ≡ all
unfolding symbols_at
symbols-go_on before file table name at name_at next locals rest count i s all lt name-is next-is rest-is s-is so_far =
    let k : count - i ≡ suc (count - (i + 1)) = omega arith in
    let e : symbols_at file table at name_at locals (count - i) ≡ s ∷ symbols_at file table (at + 16) next rest (count - (i + 1)) = rw (k, next-is, rest-is, s-is, name-is) refl in
    append_assoc before (s ∷ []) (symbols_at file table (at + 16) next rest (count - (i + 1))) ∙ ap (λ (t : List Symbol). before ++ t) (sym e) ∙ so_far

pub symbols-end : (before : List Symbol) (file table : List ℕ) (at name_at locals count i : ℕ) (all : List Symbol) → count ≤ i
    → before ++ symbols_at file table at name_at locals (count - i) ≡ all → before ≡ all
unfolding symbols_at
symbols-end before file table at name_at locals count i all le so_far =
    let k : count - i ≡ 0 = omega arith in
    sym (append-nil before) ∙ ap (λ (n : ℕ). before ++ symbols_at file table at name_at locals n) (sym k) ∙ so_far

-- ---- entries

entries-drop : (file : List ℕ) (size at name_at i : ℕ) (symbols : List Symbol) (s : Symbol) → i < length symbols → s ≡ get_or symbols i s
    → entry_checks file size at name_at (drop i symbols) ≡ field_checks fields.Symbol file at (sym_fields (entry name_at s)) ++ entry_checks file size (at + 16) (place_after size name_at s.name) (drop (i + 1) symbols)
unfolding entry_checks
entries-drop file size at name_at i symbols s lt is = rw (drop_at symbols i s lt is) refl

pub entries-go_on : (file : List ℕ) (size at name_at next i : ℕ) (symbols : List Symbol) (s : Symbol) (r total : Answer) → i < length symbols → s ≡ get_or symbols i s
    → next ≡ place_after size name_at s.name → r ≡ first_failed (field_checks fields.Symbol file at (sym_fields (entry name_at s))) → r ≡ passes
    → first_failed (entry_checks file size at name_at (drop i symbols)) ≡ total → first_failed (entry_checks file size (at + 16) next (drop (i + 1) symbols)) ≡ total
entries-go_on file size at name_at next i symbols s r total lt is next-is r-is ok so_far =
    rw next-is (passed_in (field_checks fields.Symbol file at (sym_fields (entry name_at s))) (entry_checks file size (at + 16) (place_after size name_at s.name) (drop (i + 1) symbols)) r total r-is ok (sym (ap first_failed (entries-drop file size at name_at i symbols s lt is)) ∙ so_far))

pub entries-stop : (file : List ℕ) (size at name_at i : ℕ) (symbols : List Symbol) (s : Symbol) (r total : Answer) (e : ElfFault) → i < length symbols → s ≡ get_or symbols i s
    → r ≡ first_failed (field_checks fields.Symbol file at (sym_fields (entry name_at s))) → r ≡ fails e
    → first_failed (entry_checks file size at name_at (drop i symbols)) ≡ total → fails e ≡ total
entries-stop file size at name_at i symbols s r total e lt is r-is bad so_far =
    failed_in (field_checks fields.Symbol file at (sym_fields (entry name_at s))) (entry_checks file size (at + 16) (place_after size name_at s.name) (drop (i + 1) symbols)) r total e r-is bad (sym (ap first_failed (entries-drop file size at name_at i symbols s lt is)) ∙ so_far)

pub entries-end : (file : List ℕ) (size at name_at i : ℕ) (symbols : List Symbol) (total : Answer) → length symbols ≤ i → first_failed (entry_checks file size at name_at (drop i symbols)) ≡ total → passes ≡ total
unfolding first_failed entry_checks
entries-end file size at name_at i symbols total le so_far = sym (ap (λ (ss : List Symbol). first_failed (entry_checks file size at name_at ss)) (drop_all i symbols le)) ∙ so_far

-- ---- names

names-drop : (file : List ℕ) (start size name_at i : ℕ) (symbols : List Symbol) (s : Symbol) → i < length symbols → s ≡ get_or symbols i s
    → name_checks file start size name_at (drop i symbols) ≡ (name_check file start size name_at s.name ∷ []) ++ name_checks file start size (place_after size name_at s.name) (drop (i + 1) symbols)
unfolding name_checks
names-drop file start size name_at i symbols s lt is = rw (drop_at symbols i s lt is) refl

pub names-go_on : (file : List ℕ) (start size name_at next i : ℕ) (symbols : List Symbol) (s : Symbol) (r total : Answer) → i < length symbols → s ≡ get_or symbols i s
    → next ≡ place_after size name_at s.name → r ≡ first_failed (name_check file start size name_at s.name ∷ []) → r ≡ passes
    → first_failed (name_checks file start size name_at (drop i symbols)) ≡ total → first_failed (name_checks file start size next (drop (i + 1) symbols)) ≡ total
names-go_on file start size name_at next i symbols s r total lt is next-is r-is ok so_far =
    rw next-is (passed_in (name_check file start size name_at s.name ∷ []) (name_checks file start size (place_after size name_at s.name) (drop (i + 1) symbols)) r total r-is ok (sym (ap first_failed (names-drop file start size name_at i symbols s lt is)) ∙ so_far))

pub names-stop : (file : List ℕ) (start size name_at i : ℕ) (symbols : List Symbol) (s : Symbol) (r total : Answer) (e : ElfFault) → i < length symbols → s ≡ get_or symbols i s
    → r ≡ first_failed (name_check file start size name_at s.name ∷ []) → r ≡ fails e
    → first_failed (name_checks file start size name_at (drop i symbols)) ≡ total → fails e ≡ total
names-stop file start size name_at i symbols s r total e lt is r-is bad so_far =
    failed_in (name_check file start size name_at s.name ∷ []) (name_checks file start size (place_after size name_at s.name) (drop (i + 1) symbols)) r total e r-is bad (sym (ap first_failed (names-drop file start size name_at i symbols s lt is)) ∙ so_far)

pub names-end : (file : List ℕ) (start size name_at i : ℕ) (symbols : List Symbol) (r total : Answer) → length symbols ≤ i → r ≡ first_failed (name_checks file start size name_at [])
    → first_failed (name_checks file start size name_at (drop i symbols)) ≡ total → r ≡ total
names-end file start size name_at i symbols r total le is so_far = is ∙ sym (ap (λ (ss : List Symbol). first_failed (name_checks file start size name_at ss)) (drop_all i symbols le)) ∙ so_far
