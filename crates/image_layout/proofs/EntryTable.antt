-- The table of where functions begin.
use Rattle.std.proofs.Common.{◌≡◌, inl, inr, ℕ, suc, ◌+◌, ◌-◌, ◌*◌, ◌<◌, ◌≤◌, ◌==◌, Bool, true, false, if◌then◌else◌, refl, sym, ap, ap₂, ◌∙◌, subst, arith, List, [], ◌∷◌, ◌++◌, map, replicate, take, drop, length, length-append, append_assoc, get_or, All, AllPairs}
use Rattle.std.specs.Prelude.{unwrap_or, slice_get}
use Rattle.std.proofs.lemmas.Bool.Decides.{nat_tests}
use Rattle.std.proofs.lemmas.List.{get_or-append-add, get_or-drop, get_or_default, length-replicate, length-drop, take_all}
use Rattle.std.proofs.lemmas.List.Elements.{All-head, All-tail}
use Rattle.std.proofs.lemmas.Option.{unwrap_or-slice_get}
use Rattle.oi_base.specs.declared.ids.FuncId.{FuncId}
use Rattle.ir_core.specs.declared.module.Module.{Module}
use Rattle.ir_core.proofs.Lists.{Has, has_in}
use Rattle.rv_isa.specs.Memory.{text_start}
use Rattle.rv_select.specs.declared.item.Item.{Item}
use Rattle.image_layout.specs.Addresses.{Codes, items_before, entry}
use Rattle.image_layout.specs.Codes.{HasCode}
use Rattle.image_layout.proofs.CodesLeft.{next_is}
use Rattle.image_layout.proofs.TextLaid.{pairs_head, pairs_tail}

abbrev number : FuncId × List Item → ℕ
number c = c.0.0

abbrev pub Ascends : Codes → Type 0
Ascends codes = AllPairs (λ (a b : FuncId × List Item). a.0.0 < b.0.0) codes

-- of functions from a number on, whose codes stand one after another from an address on
abbrev pub table : ℕ → ℕ → Codes → List ℕ
table at n [] = []
table at n (c ∷ codes) = replicate (c.0.0 - n) 0 ++ at ∷ table (at + 4 * length c.1) (c.0.0 + 1) codes

-- ---- what stands in it

past : (n i : ℕ) (at : ℕ) (rest : List ℕ) → get_or (replicate n 0 ++ at ∷ rest) (n + i) 0 ≡ get_or (at ∷ rest) i 0
past n i at rest =
    ap (λ (k : ℕ). get_or (replicate n 0 ++ at ∷ rest) (k + i) 0) (sym (length-replicate n (let z : ℕ = 0 in z)))
    ∙ get_or-append-add (replicate n 0) (at ∷ rest) i 0

found : (codes : Codes) (at n f i : ℕ) → n + i ≡ f → All (λ (c : FuncId × List Item). n ≤ c.0.0) codes → Ascends codes → Has (map number codes) f → get_or (table at n codes) i 0 ≡ at + 4 * items_before f codes
found [] at n f i e low up h = absurd h
found (c ∷ codes) at n f i e low up (inl same) =
    let here : n ≤ c.0.0 = All-head (λ (d : FuncId × List Item). n ≤ d.0.0) c codes low in
    let index : i ≡ c.0.0 - n + 0 = omega (arith, same, e, here) in
    let first : items_before f (c ∷ codes) ≡ 0 = ap (λ (t : Bool). if t then 0 else length c.1 + items_before f codes) (is_first c f same) in
    let whole : at ≡ at + 4 * items_before f (c ∷ codes) = omega (arith, first) in
    ap (λ (k : ℕ). get_or (table at n (c ∷ codes)) k 0) index ∙ past (c.0.0 - n) 0 at (table (at + 4 * length c.1) (c.0.0 + 1) codes) ∙ whole
  where
    is_first : (c : FuncId × List Item) (f : ℕ) → c.0.0 ≡ f → (c.0.0 == f) ≡ true
    is_first c f e = grind (arith, nat_tests)
found (c ∷ codes) at n f i e low up (inr h) =
    let here : n ≤ c.0.0 = All-head (λ (d : FuncId × List Item). n ≤ d.0.0) c codes low in
    let after : All (λ (d : FuncId × List Item). c.0.0 < d.0.0) codes = pairs_head (λ (a b : FuncId × List Item). a.0.0 < b.0.0) c codes up in
    let more : c.0.0 < f = greater c codes f after h in
    let index : i ≡ c.0.0 - n + suc (f - (c.0.0 + 1)) = omega (arith, e, here, more) in
    let begin : c.0.0 + 1 + (f - (c.0.0 + 1)) ≡ f = omega (arith, more) in
    let rest = found codes (at + 4 * length c.1) (c.0.0 + 1) f (f - (c.0.0 + 1)) begin (λ k d lt. let x = after k d lt in omega (arith, x)) (pairs_tail (λ (a b : FuncId × List Item). a.0.0 < b.0.0) c codes up) h in
    let other : items_before f (c ∷ codes) ≡ length c.1 + items_before f codes = ap (λ (t : Bool). if t then 0 else length c.1 + items_before f codes) (is_other c f more) in
    let whole : at + 4 * length c.1 + 4 * items_before f codes ≡ at + 4 * items_before f (c ∷ codes) = omega (arith, other) in
    ap (λ (k : ℕ). get_or (table at n (c ∷ codes)) k 0) index ∙ past (c.0.0 - n) (suc (f - (c.0.0 + 1))) at (table (at + 4 * length c.1) (c.0.0 + 1) codes) ∙ rest ∙ whole
  where
    greater : (c : FuncId × List Item) (codes : Codes) (f : ℕ) → All (λ (d : FuncId × List Item). c.0.0 < d.0.0) codes → Has (map number codes) f → c.0.0 < f
    greater c [] f all h = absurd h
    greater c (d ∷ codes) f all (inl e) = let x = All-head (λ (b : FuncId × List Item). c.0.0 < b.0.0) d codes all in omega (arith, e, x)
    greater c (d ∷ codes) f all (inr h) = greater c codes f (All-tail (λ (b : FuncId × List Item). c.0.0 < b.0.0) d codes all) h

    is_other : (c : FuncId × List Item) (f : ℕ) → c.0.0 < f → (c.0.0 == f) ≡ false
    is_other c f lt = grind (arith, nat_tests)

pub entries_right : (codes : Codes) → Ascends codes → (es : List ℕ) → es ≡ table (text_start + 16) 0 codes → (m : Module) (f : ℕ) → HasCode codes f → unwrap_or (slice_get es f) 0 ≡ entry m codes f
entries_right codes up es e m f h =
    let there = found codes (text_start + 16) 0 f f (let z : 0 + f ≡ f = omega arith in z) (λ k d lt. omega arith) up (has_in (map number codes) f h) in
    let sum : text_start + 16 + 4 * items_before f codes ≡ entry m codes f = omega arith in
    unwrap_or-slice_get es f 0 ∙ ap (λ (xs : List ℕ). get_or xs f 0) e ∙ there ∙ sum

-- ---- how it is made

-- the table so far, and the codes that are left
pub record Entering (codes left : Codes) (es : List ℕ) (at : ℕ) : Type 0 where
  pub all : es ++ table at (length es) left ≡ table (text_start + 16) 0 codes
  pub low : All (λ (c : FuncId × List Item). length es ≤ c.0.0) left

pub none_entered : (codes : Codes) → Entering codes codes [] (text_start + 16)
none_entered codes = record { all = refl; low = λ k d lt. omega arith }

later : (codes : Codes) (k : ℕ) (c : FuncId × List Item) → Ascends codes → k < length codes → c ≡ get_or codes k c → All (λ (d : FuncId × List Item). c.0.0 + 1 ≤ d.0.0) (drop (k + 1) codes)
later codes k c up lt is j d within =
    let count = length-drop (k + 1) codes in
    let place : get_or (drop (k + 1) codes) j d ≡ get_or codes (k + 1 + j) d = get_or-drop (k + 1) codes j d in
    let more = up k (k + 1 + j) d (omega arith) (omega (arith, within, count)) in
    let mine : c.0.0 ≡ (get_or codes k d).0.0 = ap number (is ∙ get_or_default codes k c d lt) in
    let other : (get_or (drop (k + 1) codes) j d).0.0 ≡ (get_or codes (k + 1 + j) d).0.0 = ap number place in
    omega (arith, more, mine, other)

pub one_entered : (codes : Codes) (k : ℕ) (c : FuncId × List Item) (es padded pushed : List ℕ) (at : ℕ) → Ascends codes → k < length codes → c ≡ get_or codes k c
    → padded ≡ take c.0.0 es ++ replicate (c.0.0 - length es) 0
    → pushed ≡ padded ++ at ∷ []
    → Entering codes (drop k codes) es at → Entering codes (drop (k + 1) codes) pushed (at + 4 * length c.1)
one_entered codes k c es padded pushed at up lt is p q before =
    let left : drop k codes ≡ c ∷ drop (k + 1) codes = next_is (λ (cs : Codes). cs) codes k c lt is in
    let begun : Entering codes (c ∷ drop (k + 1) codes) es at = subst (λ (cs : Codes). Entering codes cs es at) left before in
    let low : length es ≤ c.0.0 = All-head (λ (d : FuncId × List Item). length es ≤ d.0.0) c (drop (k + 1) codes) begun.low in
    let zeros = replicate (c.0.0 - length es) 0 in
    let padded_is : padded ≡ es ++ zeros = p ∙ ap (λ (xs : List ℕ). xs ++ zeros) (take_all c.0.0 es low) in
    let whole : pushed ≡ (es ++ zeros) ++ at ∷ [] = q ∙ ap (λ (xs : List ℕ). xs ++ at ∷ []) padded_is in
    let a = length-append (es ++ zeros) (at ∷ []) in
    let b = length-append es zeros in
    let n = length-replicate (c.0.0 - length es) (let z : ℕ = 0 in z) in
    let size : length pushed ≡ c.0.0 + 1 = ap (λ (xs : List ℕ). length xs) whole ∙ omega (arith, a, b, n, low) in
    let next = at + 4 * length c.1 in
    record {
      all = ap₂ (λ (xs : List ℕ) (j : ℕ). xs ++ table next j (drop (k + 1) codes)) whole size
          ∙ append_assoc (es ++ zeros) (at ∷ []) (table next (c.0.0 + 1) (drop (k + 1) codes))
          ∙ append_assoc es zeros (at ∷ table next (c.0.0 + 1) (drop (k + 1) codes))
          ∙ begun.all;
      low = subst (λ (j : ℕ). All (λ (d : FuncId × List Item). j ≤ d.0.0) (drop (k + 1) codes)) (sym size) (later codes k c up lt is);
    }
