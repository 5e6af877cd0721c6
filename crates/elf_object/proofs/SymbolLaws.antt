-- The symbols of a file: what passed checks say of them, and that those of a written file are read again.
use Rattle.std.proofs.Common.{◌≡◌, ℕ, zero, suc, ◌+◌, ◌-◌, ◌*◌, ◌<◌, ◌≤◌, Bool, true, false, cond, eqb, ltb, List, [], ◌∷◌, ◌++◌, length, drop, refl, sym, ap, ◌∙◌, subst, arith, append_assoc, length-append, length-drop}
use Rattle.std.specs.Prelude.{All, not, count_by, IsTrue}
use Rattle.std.specs.List.{AllByRecursion}
use Rattle.std.proofs.lemmas.Bool.{false≢true, eqb-true, ltb-true, lt-ltb, and_parts, and_from, eq-eqb, ne_eqb}
use Rattle.std.proofs.lemmas.List.{drop-drop, drop_all, drop_at}
use Rattle.std.proofs.lemmas.List.Elements.{All-from_recursion, recursion_from_All}
use Rattle.std.proofs.lemmas.List.Sums.{sum_by-cons}
use Rattle.elf_object.specs.declared.symbol.Symbol.{Symbol}
use Rattle.elf_object.specs.declared.symbol.SymKind.{SymKind}
use Rattle.elf_object.specs.declared.symbol.SymKind.TheVariants.{Func, Object}
use Rattle.elf_object.specs.declared.fault.ElfField.TheVariants as fields
use Rattle.elf_object.specs.Image.{IsNamed, HasWords, IsLocalFirst}
use Rattle.elf_object.specs.Elf32.{fields_bytes, sym_fields, span}
use Rattle.elf_object.specs.File.{info_of, section_of, entry, entries_bytes}
use Rattle.elf_object.specs.Checks.{Check, first_failed, byte_at, word_at, field_checks, string_at, place_after, symbol_at, symbols_at, entry_checks, name_check, name_checks}
use Rattle.elf_object.proofs.CheckLaws.{passes}
use Rattle.elf_object.proofs.Symbols.{names, ended}
use Rattle.elf_object.proofs.PassedChecks.{holds, one_passes}
use Rattle.elf_object.proofs.PartLaws.{HasPart, IsBytes, both, left, right, has_nothing}
use Rattle.elf_object.proofs.FieldLaws.{first_pass, second_pass, both_pass, checks_here, checks_pass, AreFit, fields_right, length-fields_bytes}
use Rattle.elf_object.proofs.StringLaws.{string_no_zero, string_ends, string_is, place_is}

-- ---- what passed checks say

-- the symbols that were found: their names fill the strings from a place on, and their entries stand in the file
pub record AreFound (file table : List ℕ) (at name_at : ℕ) (ss : List Symbol) : Type 0 where
  pub filled : drop name_at table ≡ names ss
  pub named : AllByRecursion IsNamed ss
  pub entries : HasPart file at (entries_bytes name_at ss)

span-entry : (name_at : ℕ) (s : Symbol) → span (sym_fields (entry name_at s)) ≡ 16
unfolding sym_fields
span-entry name_at s = refl

pub length-entry : (name_at : ℕ) (s : Symbol) → length (fields_bytes (sym_fields (entry name_at s))) ≡ 16
length-entry name_at s = length-fields_bytes (sym_fields (entry name_at s)) ∙ span-entry name_at s

name_of : (file : List ℕ) (at : ℕ) (global : Bool) (name : List ℕ) → (symbol_at file at global name).name ≡ name
unfolding symbol_at
name_of file at global name = refl

-- one more symbol, whose name and entry are right
found_one : (file table : List ℕ) (at name_at next : ℕ) (s : Symbol) (ss : List Symbol) → IsBytes file → at + 16 ≤ length file
    → next ≡ name_at + length s.name + 1 → drop name_at table ≡ s.name ++ 0 ∷ drop next table → IsNamed s
    → first_failed (field_checks fields.Symbol file at (sym_fields (entry name_at s))) ≡ passes
    → AreFound file table (at + 16) next ss → AreFound file table at name_at (s ∷ ss)
unfolding entries_bytes
found_one file table at name_at next s ss bytes le next-is here named ok rest = record {
  filled = here ∙ ap (λ (r : List ℕ). s.name ++ 0 ∷ r) rest.filled ∙ sym (append_assoc s.name (0 ∷ []) (names ss));
  named = (named, rest.named);
  entries =
      let one : HasPart file at (fields_bytes (sym_fields (entry name_at s))) = checks_here fields.Symbol file bytes at (sym_fields (entry name_at s)) (omega (arith, span-entry name_at s)) ok in
      let others : HasPart file (at + length (fields_bytes (sym_fields (entry name_at s)))) (entries_bytes (name_at + length s.name + 1) ss) =
      rw (length-entry name_at s, ← next-is) rest.entries in
      both file at _ _ one others;
}

name_passed : (file : List ℕ) (start size name_at : ℕ) (name : List ℕ) (cs : List Check) → first_failed (name_check file start size name_at name ∷ cs) ≡ passes
    → (0 < length name) × (name_at + length name < size)
name_passed file start size name_at name cs ok =
    let k = and_parts (ltb 0 (length name)) (ltb (name_at + length name) size) (holds (name_check file start size name_at name) (first_pass (name_check file start size name_at name ∷ []) cs ok)) in
    (ltb-true _ _ k.0, ltb-true _ _ k.1)

pub are_found : (file table : List ℕ) → IsBytes file → (start at name_at locals n : ℕ) → name_at ≤ length table → at + 16 * n ≤ length file
    → first_failed (entry_checks file (length table) at name_at (symbols_at file table at name_at locals n)) ≡ passes
    → first_failed (name_checks file start (length table) name_at (symbols_at file table at name_at locals n)) ≡ passes
    → AreFound file table at name_at (symbols_at file table at name_at locals n)
unfolding symbols_at symbol_at entry_checks name_checks entries_bytes
are_found file table bytes start at name_at locals zero le within entries_ok names_ok =
    let end : name_at ≡ length table = eqb-true _ _ (holds _ names_ok) in
    record { filled = drop_all name_at table (omega arith); named = tt; entries = has_nothing file at (omega arith) }
are_found file table bytes start at name_at locals (suc n) le within entries_ok names_ok =
    let name : List ℕ = string_at table name_at in
    let s : Symbol = symbol_at file at (eqb locals 0) name in
    let next : ℕ = place_after (length table) name_at name in
    let rest : List Symbol = symbols_at file table (at + 16) next (locals - 1) n in
    let k = name_passed file start (length table) name_at name (name_checks file start (length table) next rest) names_ok in
    let entry_ok : first_failed (field_checks fields.Symbol file at (sym_fields (entry name_at s))) ≡ passes = first_pass _ (entry_checks file (length table) (at + 16) next rest) entries_ok in
    let rest_entries_ok : first_failed (entry_checks file (length table) (at + 16) next rest) ≡ passes = second_pass (field_checks fields.Symbol file at (sym_fields (entry name_at s))) _ entries_ok in
    let rest_names_ok : first_failed (name_checks file start (length table) next rest) ≡ passes = second_pass (name_check file start (length table) name_at name ∷ []) _ names_ok in
    let next-is : next ≡ name_at + length name + 1 = place_is (length table) name_at name k.1 in
    let here : drop name_at table ≡ name ++ 0 ∷ drop next table = string_ends table name_at k.1 ∙ ap (λ (m : ℕ). name ++ 0 ∷ drop m table) (sym next-is) in
    let others : AreFound file table (at + 16) next rest = are_found file table bytes start (at + 16) next (locals - 1) n (omega arith) (omega arith) rest_entries_ok rest_names_ok in
    found_one file table at name_at next s rest bytes (omega arith) next-is here (record { not_empty = k.0; no_zero = string_no_zero table name_at }) entry_ok others

suc_not_zero : (n : ℕ) → eqb (suc n) 0 ≡ false
suc_not_zero n = ne_eqb _ _ (λ e. absurd (omega (arith, e)))

-- after the local symbols stand global ones
all_global : (file table : List ℕ) (at name_at n : ℕ) → AllByRecursion (λ t. IsTrue t.global) (symbols_at file table at name_at 0 n)
unfolding symbols_at symbol_at
all_global file table at name_at zero = tt
all_global file table at name_at (suc n) = (refl, all_global file table (at + 16) _ n)

pub are_local_first : (file table : List ℕ) (at name_at locals n : ℕ) → IsLocalFirst (symbols_at file table at name_at locals n)
unfolding symbols_at symbol_at
are_local_first file table at name_at locals zero = tt
are_local_first file table at name_at zero (suc n) = (λ _. All-from_recursion (λ (t : Symbol). IsTrue t.global) _ (all_global file table (at + 16) _ n), are_local_first file table (at + 16) _ 0 n)
are_local_first file table at name_at (suc locals) (suc n) = (λ h. absurd (false≢true (sym (suc_not_zero locals) ∙ h)), are_local_first file table (at + 16) _ _ n)

no_locals : (file table : List ℕ) (at name_at n : ℕ) → count_by (λ s. not s.global) (symbols_at file table at name_at 0 n) ≡ 0
unfolding symbols_at symbol_at
no_locals file table at name_at zero = refl
no_locals file table at name_at (suc n) = no_locals file table (at + 16) _ n

pub locals_are : (file table : List ℕ) (at name_at locals n : ℕ) → locals ≤ n → count_by (λ s. not s.global) (symbols_at file table at name_at locals n) ≡ locals
unfolding symbols_at symbol_at
locals_are file table at name_at zero n le = no_locals file table at name_at n
locals_are file table at name_at (suc locals) zero le = absurd (omega arith)
locals_are file table at name_at (suc locals) (suc n) le =
    let name : List ℕ = string_at table name_at in
    let others : List Symbol = symbols_at file table (at + 16) (place_after (length table) name_at name) (suc locals - 1) n in
    let less : suc locals - 1 ≡ locals = omega arith in
    let rest : count_by (λ s. not s.global) others ≡ locals =
    ap (λ (m : ℕ). count_by (λ s. not s.global) (symbols_at file table (at + 16) (place_after (length table) name_at name) m n)) less
    ∙ locals_are file table (at + 16) (place_after (length table) name_at name) locals n (omega arith) in
    let more : count_by (λ s. not s.global) (symbol_at file at (eqb (suc locals) 0) name ∷ others) ≡ cond (not (eqb (suc locals) 0)) 1 0 + count_by (λ s. not s.global) others =
    sum_by-cons (λ (s : Symbol). cond (not s.global) 1 0) (symbol_at file at (eqb (suc locals) 0) name) others in
    more ∙ rw (suc_not_zero locals) (omega (arith, rest))

-- ---- what a written file says

-- the symbols of a written file are read again, and the checks of their entries and names pass
pub record AreAgain (file table : List ℕ) (start at name_at locals : ℕ) (ss : List Symbol) : Type 0 where
  pub read : symbols_at file table at name_at locals (length ss) ≡ ss
  pub entries_ok : first_failed (entry_checks file (length table) at name_at ss) ≡ passes
  pub names_ok : first_failed (name_checks file start (length table) name_at ss) ≡ passes

none_local_by : (ss : List Symbol) → AllByRecursion (λ t. IsTrue t.global) ss → count_by (λ t. not t.global) ss ≡ 0
none_local_by [] h = refl
none_local_by (s ∷ ss) h =
    let rest : count_by (λ t. not t.global) ss ≡ 0 = none_local_by ss h.1 in
    sum_by-cons (λ (t : Symbol). cond (not t.global) 1 0) s ss ∙ rw h.0 (omega (arith, rest))

none_local : (ss : List Symbol) → All (λ t. IsTrue t.global) ss → count_by (λ t. not t.global) ss ≡ 0
none_local ss h = none_local_by ss (recursion_from_All (λ (t : Symbol). IsTrue t.global) ss h)

-- the number of local symbols tells whether the first one is global
locals_tell : (s : Symbol) (ss : List Symbol) (g : Bool) → s.global ≡ g → IsLocalFirst (s ∷ ss) → eqb (count_by (λ t. not t.global) (s ∷ ss)) 0 ≡ g
locals_tell s ss true is first =
    let none : count_by (λ t. not t.global) ss ≡ 0 = none_local ss (first.0 is) in
    let more : count_by (λ t. not t.global) (s ∷ ss) ≡ cond (not s.global) 1 0 + count_by (λ t. not t.global) ss = sum_by-cons (λ (t : Symbol). cond (not t.global) 1 0) s ss in
    eq-eqb _ _ (more ∙ rw is (omega (arith, none)))
locals_tell s ss false is first =
    let more : count_by (λ t. not t.global) (s ∷ ss) ≡ cond (not s.global) 1 0 + count_by (λ t. not t.global) ss = sum_by-cons (λ (t : Symbol). cond (not t.global) 1 0) s ss in
    let one : count_by (λ t. not t.global) (s ∷ ss) ≡ 1 + count_by (λ t. not t.global) ss = more ∙ rw is refl in
    ne_eqb _ _ (λ e. absurd (omega (arith, one, e)))

-- one local symbol less, where there is one
locals_less : (s : Symbol) (ss : List Symbol) (g : Bool) → s.global ≡ g → IsLocalFirst (s ∷ ss) → count_by (λ t. not t.global) (s ∷ ss) - 1 ≡ count_by (λ t. not t.global) ss
locals_less s ss true is first =
    let none : count_by (λ t. not t.global) ss ≡ 0 = none_local ss (first.0 is) in
    let more : count_by (λ t. not t.global) (s ∷ ss) ≡ cond (not s.global) 1 0 + count_by (λ t. not t.global) ss = sum_by-cons (λ (t : Symbol). cond (not t.global) 1 0) s ss in
    let same : count_by (λ t. not t.global) (s ∷ ss) ≡ 0 = more ∙ rw is (omega (arith, none)) in
    omega (arith, same, none)
locals_less s ss false is first =
    let more : count_by (λ t. not t.global) (s ∷ ss) ≡ cond (not s.global) 1 0 + count_by (λ t. not t.global) ss = sum_by-cons (λ (t : Symbol). cond (not t.global) 1 0) s ss in
    let one : count_by (λ t. not t.global) (s ∷ ss) ≡ 1 + count_by (λ t. not t.global) ss = more ∙ rw is refl in
    omega (arith, one)

-- the info byte tells the kind
kind_told : (kind : SymKind) (global : Bool) → cond (eqb (info_of kind global) (info_of Object global)) Object Func ≡ kind
kind_told Func false = refl
kind_told Func true = refl
kind_told Object false = refl
kind_told Object true = refl

info_small : (kind : SymKind) (global : Bool) → info_of kind global < 256
info_small Func false = omega arith
info_small Func true = omega arith
info_small Object false = omega arith
info_small Object true = omega arith

section_small : (kind : SymKind) → section_of kind < 65536
section_small Func = omega arith
section_small Object = omega arith

pub fit-entry : (name_at : ℕ) (s : Symbol) → name_at < 4294967296 → HasWords s → AreFit (sym_fields (entry name_at s))
unfolding sym_fields entry
fit-entry name_at s small words = (small, (words.value, (words.size, (info_small s.kind s.global, (omega arith, (section_small s.kind, tt))))))

-- the entry of a symbol is read as the symbol
read_one : (file : List ℕ) (at name_at : ℕ) (g : Bool) (s : Symbol) → name_at < 4294967296 → HasWords s → g ≡ s.global → HasPart file at (fields_bytes (sym_fields (entry name_at s)))
    → symbol_at file at g s.name ≡ s
unfolding symbol_at sym_fields entry
read_one file at name_at g s small words g-is h =
    let k = fields_right file at (sym_fields (entry name_at s)) (fit-entry name_at s small words) h in
    let value : word_at file (at + 4) ≡ s.value = k.1.0 in
    let size : word_at file (at + 8) ≡ s.size = ap (λ (n : ℕ). word_at file n) (omega arith) ∙ k.1.1.0 in
    let info : byte_at file (at + 12) ≡ info_of s.kind s.global = ap (λ (n : ℕ). byte_at file n) (omega arith) ∙ k.1.1.1.0 in
    let kind : cond (eqb (byte_at file (at + 12)) (info_of Object s.global)) Object Func ≡ s.kind = rw info (kind_told s.kind s.global) in
    rw g-is (rw (value, size, kind) refl)

name_passes : (file : List ℕ) (start size name_at : ℕ) (name : List ℕ) → 0 < length name → name_at + length name < size → first_failed (name_check file start size name_at name ∷ []) ≡ passes
name_passes file start size name_at name not_empty lt =
    one_passes (name_check file start size name_at name) (and_from (ltb 0 (length name)) (ltb (name_at + length name) size) (lt-ltb _ _ not_empty) (lt-ltb _ _ lt))

pub are_again : (file table : List ℕ) (start at name_at : ℕ) (ss : List Symbol) → length table < 4294967296 → name_at ≤ length table → drop name_at table ≡ names ss
    → AllByRecursion IsNamed ss → AllByRecursion HasWords ss → IsLocalFirst ss → HasPart file at (entries_bytes name_at ss)
    → AreAgain file table start at name_at (count_by (λ t. not t.global) ss) ss
unfolding first_failed symbols_at entry_checks name_checks entries_bytes
are_again file table start at name_at [] short le filled named words first h =
    let len : length (drop name_at table) ≡ 0 = ap length filled in
    record {
      read = refl;
      entries_ok = refl;
      names_ok = one_passes _ (eq-eqb _ _ (omega (arith, len, length-drop name_at table)));
    }
are_again file table start at name_at (s ∷ ss) short le filled named words first h =
    let here : drop name_at table ≡ s.name ++ 0 ∷ names ss = filled ∙ append_assoc s.name (0 ∷ []) (names ss) in
    let len : length (drop name_at table) ≡ length (s.name ++ 0 ∷ names ss) = ap length here in
    let lt : name_at + length s.name < length table = omega (arith, len, length-append s.name (0 ∷ names ss), length-drop name_at table) in
    let name-is : string_at table name_at ≡ s.name = string_is table name_at s.name (names ss) named.0.no_zero here in
    let next-is : place_after (length table) name_at s.name ≡ name_at + length s.name + 1 = place_is (length table) name_at s.name lt in
    let rest_filled : drop (name_at + length s.name + 1) table ≡ names ss =
    ap (λ (n : ℕ). drop n table) (omega arith) ∙ sym (drop-drop (length s.name + 1) name_at table) ∙ ap (drop (length s.name + 1)) filled ∙ drop_at (ended s) (names ss) (length s.name + 1) (omega (arith, length-append s.name (0 ∷ []))) in
    let one : HasPart file at (fields_bytes (sym_fields (entry name_at s))) = left file at _ (entries_bytes (name_at + length s.name + 1) ss) h in
    let others : HasPart file (at + 16) (entries_bytes (name_at + length s.name + 1) ss) =
    subst (λ (n : ℕ). HasPart file (at + n) (entries_bytes (name_at + length s.name + 1) ss)) (length-entry name_at s) (right file at (fields_bytes (sym_fields (entry name_at s))) (entries_bytes (name_at + length s.name + 1) ss) h) in
    let again : AreAgain file table start (at + 16) (name_at + length s.name + 1) (count_by (λ t. not t.global) ss) ss =
    are_again file table start (at + 16) (name_at + length s.name + 1) ss short (omega arith) rest_filled named.1 words.1 first.1 others in
    let first_is : symbol_at file at (eqb (count_by (λ t. not t.global) (s ∷ ss)) 0) s.name ≡ s =
    read_one file at name_at _ s (omega arith) words.0 (locals_tell s ss s.global refl first) one in
    let rest_is : symbols_at file table (at + 16) (place_after (length table) name_at s.name) (count_by (λ t. not t.global) (s ∷ ss) - 1) (length ss) ≡ ss =
    rw (next-is, locals_less s ss s.global refl first) again.read in
    record {
      read = rw name-is (ap (λ (t : Symbol). t ∷ symbols_at file table (at + 16) (place_after (length table) name_at s.name) (count_by (λ t. not t.global) (s ∷ ss) - 1) (length ss)) first_is ∙ ap (λ (ts : List Symbol). s ∷ ts) rest_is);
      entries_ok = both_pass (field_checks fields.Symbol file at (sym_fields (entry name_at s))) (entry_checks file (length table) (at + 16) (place_after (length table) name_at s.name) ss) (checks_pass fields.Symbol file at (sym_fields (entry name_at s)) (fit-entry name_at s (omega arith) words.0) one) (rw next-is again.entries_ok);
      names_ok = both_pass (name_check file start (length table) name_at s.name ∷ []) (name_checks file start (length table) (place_after (length table) name_at s.name) ss) (name_passes file start (length table) name_at s.name named.0.not_empty lt) (rw next-is again.names_ok);
    }
