-- The codes that are left in a walk over codes: how many items they have, and their words.
use Rattle.std.proofs.Common.{◌≡◌, ℕ, zero, suc, ◌+◌, ◌*◌, ◌<◌, ◌≤◌, sym, ap, ◌∙◌, arith, List, [], ◌∷◌, ◌++◌, length, length-append, append_assoc, get_or, drop, AllPairs}
use Rattle.std.specs.List.{flat_map}
use Rattle.std.proofs.lemmas.Grind.{flat_map-append}
use Rattle.std.proofs.lemmas.List.{at_drop_more}
use Rattle.oi_base.specs.declared.ids.FuncId.{FuncId}
use Rattle.ir_core.specs.declared.limits.TheConstants.{MOST_FUNCTIONS}
use Rattle.ir_core.specs.declared.module.Module.{Module}
use Rattle.ir_core.specs.Proper.{IsProper}
use Rattle.rv_isa.specs.declared.rv.Rv.{Rv}
use Rattle.rv_isa.specs.Words.{word_of}
use Rattle.rv_select.specs.declared.item.Item.{Item}
use Rattle.rv_select.specs.Linked.{Link, linked}
use Rattle.rv_select.specs.Texts.{bytes_of}
use Rattle.rv_select.proofs.Slices.{linked_join}
use Rattle.rv_select.proofs.Texts.{four}
use Rattle.image_layout.specs.Addresses.{Codes}
use Rattle.image_layout.specs.Codes.{AreCodes}
use Rattle.image_layout.specs.Image.{items_of}

-- the items of codes
abbrev pub all_items : Codes → List Item
all_items codes = flat_map items_of codes

-- the next code and the others
pub next_is : {Y : Type 0} (F : Codes → Y) (codes : Codes) (k : ℕ) (c : FuncId × List Item) → k < length codes → c ≡ get_or codes k c → F (drop k codes) ≡ F (c ∷ drop (k + 1) codes)
next_is F codes k c lt at = at_drop_more F codes k c lt ∙ ap (λ (d : FuncId × List Item). F (d ∷ drop (k + 1) codes)) (sym at)

pub next_size : (codes : Codes) (k : ℕ) (c : FuncId × List Item) → k < length codes → c ≡ get_or codes k c → length (all_items (drop k codes)) ≡ length c.1 + length (all_items (drop (k + 1) codes))
next_size codes k c lt at = next_is (λ (cs : Codes). length (all_items cs)) codes k c lt at ∙ length-append c.1 (all_items (drop (k + 1) codes))

-- the words of a code, and those of the codes after it
pub words_join : (l : Link) (at : ℕ) (xs ys : List Item) → bytes_of (linked l at (xs ++ ys)) ≡ bytes_of (linked l at xs) ++ bytes_of (linked l (at + 4 * length xs) ys)
words_join l at xs ys = ap bytes_of (linked_join l at xs ys) ∙ flat_map-append (λ (i : Rv). four (word_of i)) (linked l at xs) (linked l (at + 4 * length xs) ys)

pub one_pushed : (l : Link) (codes : Codes) (k : ℕ) (c : FuncId × List Item) (at : ℕ) (text pushed all : List ℕ) → k < length codes → c ≡ get_or codes k c
    → pushed ≡ text ++ bytes_of (linked l at c.1)
    → text ++ bytes_of (linked l at (all_items (drop k codes))) ≡ all
    → pushed ++ bytes_of (linked l (at + 4 * length c.1) (all_items (drop (k + 1) codes))) ≡ all
one_pushed l codes k c at text pushed all lt is p before =
    let rest = bytes_of (linked l (at + 4 * length c.1) (all_items (drop (k + 1) codes))) in
    ap (λ (bs : List ℕ). bs ++ rest) p
    ∙ append_assoc text (bytes_of (linked l at c.1)) rest
    ∙ ap (λ (bs : List ℕ). text ++ bs) (sym (next_is (λ (cs : Codes). bytes_of (linked l at (all_items cs))) codes k c lt is ∙ words_join l at c.1 (all_items (drop (k + 1) codes))))
    ∙ before

-- ---- how many codes there are

-- numbers that rise are no less than their positions
numbers_rise : (codes : Codes) (d : FuncId × List Item) → AllPairs (λ (a b : FuncId × List Item). a.0.0 < b.0.0) codes → (k : ℕ) → k < length codes → k ≤ (get_or codes k d).0.0
numbers_rise codes d up zero lt = omega arith
numbers_rise codes d up (suc k) lt =
    let before = numbers_rise codes d up k (omega (arith, lt)) in
    let more = up k (suc k) d (omega arith) lt in
    omega (arith, before, more)

pub few_codes : (m : Module) (codes : Codes) → IsProper m → AreCodes m codes → length codes ≤ MOST_FUNCTIONS
few_codes m [] proper are = omega arith
few_codes m (c ∷ codes) proper are =
    let last = numbers_rise (c ∷ codes) c are.ascending (length codes) (omega arith) in
    let low = are.definitions (length codes) c (omega arith) in
    let few = proper.funcs in
    omega (arith, last, low, few)
