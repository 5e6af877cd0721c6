-- Going over symbols one after the other: their names and their entries.
use Rattle.std.proofs.Common.{◌≡◌, ℕ, suc, ◌+◌, ◌<◌, ◌≤◌, List, [], ◌∷◌, ◌++◌, length, get_or, drop, refl, sym, ap, ◌∙◌, add-one, arith, length-append, append_assoc, drop-cons}
use Rattle.std.specs.List.{flat_map}
use Rattle.std.proofs.lemmas.List.{append-nil, drop_all}
use Rattle.std.proofs.lemmas.List.Concat.{flat_map-cons}
use Rattle.elf_object.specs.declared.symbol.Symbol.{Symbol}
use Rattle.elf_object.specs.Elf32.{fields_bytes, sym_fields}
use Rattle.elf_object.specs.File.{entry, entries_bytes}

-- a name with a zero byte after it
abbrev pub ended : Symbol → List ℕ
ended s = s.name ++ 0 ∷ []

-- the names, each with a zero byte after it
abbrev pub names : List Symbol → List ℕ
names symbols = flat_map ended symbols

-- the symbols from one of them on
pub drop_at : (symbols : List Symbol) (k : ℕ) (s : Symbol) → k < length symbols → s ≡ get_or symbols k s → drop k symbols ≡ s ∷ drop (k + 1) symbols
drop_at symbols k s lt is = rw add-one (drop-cons symbols k s lt ∙ ap (λ (t : Symbol). t ∷ drop (suc k) symbols) (sym is))

pub names-cons : (s : Symbol) (ss : List Symbol) → length (names (s ∷ ss)) ≡ length s.name + 1 + length (names ss)
names-cons s ss = rw (flat_map-cons ended s ss) (omega (arith, length-append (ended s) (names ss), length-append s.name (0 ∷ [])))

pub names-drop : (symbols : List Symbol) (k : ℕ) (s : Symbol) → k < length symbols → s ≡ get_or symbols k s
    → length (names (drop k symbols)) ≡ length s.name + 1 + length (names (drop (k + 1) symbols))
names-drop symbols k s lt is = rw (drop_at symbols k s lt is) (names-cons s (drop (k + 1) symbols))

-- one more entry was written, and the others follow
pub entries-step : (symbols : List Symbol) (k n m : ℕ) (s : Symbol) (before after rest : List ℕ) → k < length symbols → s ≡ get_or symbols k s → m ≡ n + length s.name + 1
    → after ≡ before ++ fields_bytes (sym_fields (entry n s)) → before ++ entries_bytes n (drop k symbols) ≡ rest → after ++ entries_bytes m (drop (k + 1) symbols) ≡ rest
unfolding entries_bytes
entries-step symbols k n m s before after rest lt is m-is put so_far =
    let e : entries_bytes n (drop k symbols) ≡ fields_bytes (sym_fields (entry n s)) ++ entries_bytes (n + length s.name + 1) (drop (k + 1) symbols) = rw (drop_at symbols k s lt is) refl in
    rw (put, m-is) (append_assoc before _ _ ∙ ap (λ (t : List ℕ). before ++ t) (sym e) ∙ so_far)

-- no symbol is left
pub entries-end : (symbols : List Symbol) (k n : ℕ) (before rest : List ℕ) → length symbols ≤ k → before ++ entries_bytes n (drop k symbols) ≡ rest → before ≡ rest
unfolding entries_bytes
entries-end symbols k n before rest le so_far =
    let e : entries_bytes n (drop k symbols) ≡ [] = rw (drop_all k symbols le) refl in
    sym (append-nil before) ∙ ap (λ (t : List ℕ). before ++ t) (sym e) ∙ so_far
