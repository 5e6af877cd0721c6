-- The text of an image holds the stub and each code at its function's entry.
use Rattle.std.proofs.Common.{◌≡◌, inl, inr, ℕ, suc, ◌+◌, ◌-◌, ◌*◌, ◌<◌, ◌≤◌, ◌==◌, Bool, true, false, if◌then◌else◌, refl, ap, ◌∙◌, subst, arith, List, [], ◌∷◌, ◌++◌, length, All, AllPairs, pos}
use Rattle.std.specs.List.{flat_map}
use Rattle.std.proofs.lemmas.Bool.Decides.{nat_tests}
use Rattle.std.proofs.lemmas.Int.{ints}
use Rattle.std.proofs.lemmas.List.Elements.{All-nil, All-cons, All-head, All-tail, All-append}
use Rattle.oi_base.specs.declared.ids.FuncId.{FuncId}
use Rattle.ir_core.specs.declared.module.Module.{Module}
use Rattle.ir_core.specs.Source.{main_number}
use Rattle.ir_core.proofs.Lists.{Has, all_at, at_has}
use Rattle.rv_isa.specs.declared.rv.Rv.{Rv}
use Rattle.rv_isa.specs.declared.rv.Rv.TheVariants as rv
use Rattle.rv_isa.specs.Words.{InRange, IsSigned}
use Rattle.rv_isa.specs.Memory.{Segments, text_start}
use Rattle.rv_isa.specs.Laws.{Holds}
use Rattle.elf_object.specs.Image.{loaded_segments}
use Rattle.rv_select.specs.declared.item.Item.{Item}
use Rattle.rv_select.specs.declared.item.Item.TheVariants.{Word, CallHigh, CallLow, AddressHigh, AddressLow}
use Rattle.rv_select.specs.Parts.{hi, lo}
use Rattle.rv_select.specs.Linked.{Link, instruction_at, linked, stub, distance, address_of}
use Rattle.rv_select.specs.Pending.{IsItem}
use Rattle.rv_select.specs.Texts.{bytes_of}
use Rattle.rv_select.proofs.Items.{holds_front, holds_back}
use Rattle.rv_select.proofs.Slices.{linked_join, linked_length}
use Rattle.rv_select.proofs.Texts.{bytes_length, text_holds}
use Rattle.image_layout.specs.Addresses.{Codes, items_before, link_of}
use Rattle.image_layout.specs.Image.{text_items, text_size, image}

-- ---- the instructions of a text have words

hi_signed : (w : ℕ) → IsSigned 19 (hi w)
unfolding hi
hi_signed w = grind (arith, nat_tests, ints)

lo_signed : (w : ℕ) → IsSigned 11 (lo w)
unfolding lo
lo_signed w = grind (arith, nat_tests, ints)

three_signed : IsSigned 11 (pos 3)
three_signed = grind (arith, nat_tests, ints)

instruction_range : (l : Link) (at : ℕ) (i : Item) → IsItem i → InRange (instruction_at l at i)
instruction_range l at (Word i) h = h
instruction_range l at (CallHigh f) h = (omega arith, hi_signed (distance at (l.entry f.0)))
instruction_range l at (CallLow f) h = (omega arith, omega arith, lo_signed (distance (at - 4) (l.entry f.0)))
instruction_range l at (AddressHigh r g k) h = (h, hi_signed (address_of l g k))
instruction_range l at (AddressLow r g k) h = (h, h, lo_signed (address_of l g k))

linked_ranges : (l : Link) (at : ℕ) (is : List Item) → All IsItem is → All InRange (linked l at is)
linked_ranges l at [] h = All-nil InRange
linked_ranges l at (i ∷ is) h =
    All-cons InRange (instruction_at l at i) (linked l (at + 4) is) (instruction_range l at i (All-head IsItem i is h)) (linked_ranges l (at + 4) is (All-tail IsItem i is h))

stub_items : (main : ℕ) → All IsItem (stub main)
stub_items main =
    let last = Word (rv.Addi 17 0 (pos 3)) ∷ Word rv.Ecall ∷ [] in
    let f : FuncId = record { 0 = main } in
    All-cons IsItem (CallHigh f) (CallLow f ∷ last) tt
    (All-cons IsItem (CallLow f) last tt
    (All-cons IsItem (Word (rv.Addi 17 0 (pos 3))) (Word rv.Ecall ∷ []) (omega arith, omega arith, three_signed)
    (All-cons IsItem (Word rv.Ecall) [] tt (All-nil IsItem))))

abbrev items_of : FuncId × List Item → List Item
items_of c = c.1

all_items : (codes : Codes) → All (λ (c : FuncId × List Item). All IsItem c.1) codes → All IsItem (flat_map items_of codes)
all_items [] h = All-nil IsItem
all_items (c ∷ codes) h =
    let each = λ (d : FuncId × List Item). All IsItem d.1 in
    All-append IsItem c.1 (flat_map items_of codes) (All-head each c codes h) (all_items codes (All-tail each c codes h))

-- ---- each code at its entry

pub pairs_head : {A : Type 0} (R : A → A → Type 0) (x : A) (xs : List A) → AllPairs R (x ∷ xs) → All (R x) xs
pairs_head R x xs h k d lt = h 0 (suc k) d (omega arith) (omega (arith, lt))

pub pairs_tail : {A : Type 0} (R : A → A → Type 0) (x : A) (xs : List A) → AllPairs R (x ∷ xs) → AllPairs R xs
pairs_tail R x xs h i j d lt within = h (suc i) (suc j) d (omega (arith, lt)) (omega (arith, within))

abbrev Ascends : Codes → Type 0
Ascends codes = AllPairs (λ (a b : FuncId × List Item). a.0.0 < b.0.0) codes

code_holds : (s : Segments) (l : Link) (at f : ℕ) (code : List Item) (codes : Codes) → Ascends codes → Has codes (record { 0 = f }, code) → Holds s at (linked l at (flat_map items_of codes)) → Holds s (at + 4 * items_before f codes) (linked l (at + 4 * items_before f codes) code)
code_holds s l at f code [] up h holds = absurd h
code_holds s l at f code (c ∷ codes) up (inl same) holds =
    let here : Holds s at (linked l at c.1) = holds_front s at (linked l at c.1) (linked l (at + 4 * length c.1) (flat_map items_of codes)) (subst (Holds s at) (linked_join l at c.1 (flat_map items_of codes)) holds) in
    let first : items_before f (c ∷ codes) ≡ 0 = ap (λ (t : Bool). if t then 0 else length c.1 + items_before f codes) (is_first c same) in
    let place : at ≡ at + 4 * items_before f (c ∷ codes) = omega (arith, first) in
    subst (λ (a : ℕ). Holds s a (linked l a code)) place (subst (λ (is : List Item). Holds s at (linked l at is)) (ap items_of same) here)
  where
    is_first : (c : FuncId × List Item) → c ≡ (record { 0 = f }, code) → (c.0.0 == f) ≡ true
    is_first c e = let n = ap (λ (d : FuncId × List Item). d.0.0) e in grind (arith, nat_tests)
code_holds s l at f code (c ∷ codes) up (inr h) holds =
    let n = length c.1 in
    let later : Holds s (at + 4 * length (linked l at c.1)) (linked l (at + 4 * n) (flat_map items_of codes)) = holds_back s at (linked l at c.1) (linked l (at + 4 * n) (flat_map items_of codes)) (subst (Holds s at) (linked_join l at c.1 (flat_map items_of codes)) holds) in
    let count = linked_length l at c.1 in
    let back : at + 4 * length (linked l at c.1) ≡ at + 4 * n = omega (arith, count) in
    let found = code_holds s l (at + 4 * n) f code codes (pairs_tail (λ (a b : FuncId × List Item). a.0.0 < b.0.0) c codes up) h (subst (λ (a : ℕ). Holds s a (linked l (at + 4 * n) (flat_map items_of codes))) back later) in
    let other : items_before f (c ∷ codes) ≡ n + items_before f codes = ap (λ (t : Bool). if t then 0 else n + items_before f codes) (is_other (all_has (pairs_head (λ (a b : FuncId × List Item). a.0.0 < b.0.0) c codes up))) in
    let place : at + 4 * n + 4 * items_before f codes ≡ at + 4 * items_before f (c ∷ codes) = omega (arith, other) in
    subst (λ (a : ℕ). Holds s a (linked l a code)) place found
  where
    all_has : All (λ (b : FuncId × List Item). c.0.0 < b.0.0) codes → c.0.0 < f
    all_has all = let at = at_has codes (record { 0 = f }, code) h in all_at (λ (b : FuncId × List Item). c.0.0 < b.0.0) codes at.0 (record { 0 = f }, code) all at.1

    is_other : c.0.0 < f → (c.0.0 == f) ≡ false
    is_other lt = grind (arith, nat_tests)

-- ---- the text

module _ (m : Module) (codes : Codes) (items : All (λ (c : FuncId × List Item). All IsItem c.1) codes) (fits : text_size m codes ≤ 4194304) where
  abbrev l : Link
  l = link_of m codes

  abbrev s : Segments
  s = loaded_segments (image m codes)

  text_is : s.text ≡ bytes_of (linked l text_start (text_items m codes))
  unfolding image
  text_is = refl

  pub text_length : length s.text ≡ text_size m codes
  text_length = let n = linked_length l text_start (text_items m codes) in ap (λ (bs : List ℕ). length bs) text_is ∙ bytes_length (linked l text_start (text_items m codes)) ∙ ap (λ (k : ℕ). 4 * k) n

  text_short : length s.text ≤ 4194304
  text_short = omega (arith, text_length, fits)

  abbrev front : List Rv
  front = linked l text_start (stub (main_number m))

  all_hold : Holds s text_start (front ++ linked l (text_start + 16) (flat_map items_of codes))
  all_hold =
      let ranges = linked_ranges l text_start (text_items m codes) (All-append IsItem (stub (main_number m)) (flat_map items_of codes) (stub_items (main_number m)) (all_items codes items)) in
      subst (Holds s text_start) (linked_join l text_start (stub (main_number m)) (flat_map items_of codes)) (text_holds s text_short (linked l text_start (text_items m codes)) text_is ranges)

  pub stub_holds : Holds s text_start front
  stub_holds = holds_front s text_start front (linked l (text_start + 16) (flat_map items_of codes)) all_hold

  pub code_at_entry : Ascends codes → (f : ℕ) (code : List Item) → Has codes (record { 0 = f }, code) → Holds s (l.entry f) (linked l (l.entry f) code)
  code_at_entry up f code h =
      let rest : Holds s (text_start + 16) (linked l (text_start + 16) (flat_map items_of codes)) = holds_back s text_start front (linked l (text_start + 16) (flat_map items_of codes)) all_hold in
      let place : text_start + 16 + 4 * items_before f codes ≡ l.entry f = omega arith in
      subst (λ (a : ℕ). Holds s a (linked l a code)) place (code_holds s l (text_start + 16) f code codes up h rest)
