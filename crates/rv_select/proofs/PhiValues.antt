-- Loops that add the values of phis to a table.
use Rattle.std.proofs.Common.{◌≡◌, ℕ, suc, ◌+◌, ◌-◌, ◌<◌, ◌≤◌, Bool, true, false, ◌&&◌, ◌==◌, nat_lt, if◌then◌else◌, List, ◌∷◌, Option, Some, None, length, drop, drop-cons, slice_get, get_or, refl, sym, ap, ◌∙◌, arith}
use Rattle.std.proofs.lemmas.Bool.Decides.{nat_tests}
use Rattle.std.proofs.lemmas.Option.{slice_get_past, slice_get_read}
use Rattle.ir_core.specs.declared.flat.FlatOp.{FlatOp}
use Rattle.ir_core.specs.declared.flat.Entry.{Entry}
use Rattle.ir_core.specs.declared.flat.Phi.{Phi}
use Rattle.ir_core.specs.declared.flat.FlatBlock.{FlatBlock}
use Rattle.ir_core.specs.Flat.{entry_for}
use Rattle.rv_select.specs.Lowered.{phis_of}
use Rattle.rv_select.specs.Incoming.{value_for}

-- an entry comes before those after it
pub entry_first : {X : Type 0} → (here this : Bool) (v rest old : Option X) → (if here && this then v else if here then rest else old) ≡ (if here then (if this then v else rest) else old)
entry_first true true v rest old = refl
entry_first true false v rest old = refl
entry_first false this v rest old = refl

-- what stands at the numbers below i, and then at i too
pub one_more : {X : Type 0} → (f : ℕ → Option X) (i p : ℕ) (v : Option X) → v ≡ f i → (if i == p then v else if nat_lt p i then f p else None) ≡ (if nat_lt p (i + 1) then f p else None)
one_more f i p v e = grind (arith, nat_tests)

-- the same within one block
pub one_more_phi : {X : Type 0} → (f : ℕ → Option X) (here : Bool) (i p : ℕ) (v old : Option X) → v ≡ f i → (if here && i == p then v else if here then (if nat_lt p i then f p else None) else old) ≡ (if here then (if nat_lt p (i + 1) then f p else None) else old)
one_more_phi f true i p v old e = one_more f i p v e
one_more_phi f false i p v old e = refl

no_phi : (phis : List Phi) (p n : ℕ) → length phis ≤ p → None ≡ value_for n (slice_get phis p)
no_phi phis p n past = ap (value_for n) (sym (slice_get_past phis p past))

no_block : (blocks : List FlatBlock) (b p n : ℕ) → length blocks ≤ b → None ≡ value_for n (slice_get (phis_of (slice_get blocks b)) p)
no_block blocks b p n past = ap (λ k. value_for n (slice_get (phis_of k) p)) (sym (slice_get_past blocks b past))

bounded : {X : Type 0} → (k p : ℕ) (v : Option X) → (k ≤ p → None ≡ v) → (if nat_lt p k then v else None) ≡ v
bounded k p v past = grind (arith, nat_tests)

-- all numbers of a list are reached
pub all_phis : (phis : List Phi) (p n : ℕ) → (if nat_lt p (length phis) then value_for n (slice_get phis p) else None) ≡ value_for n (slice_get phis p)
all_phis phis p n = bounded (length phis) p (value_for n (slice_get phis p)) (no_phi phis p n)

pub all_blocks : (blocks : List FlatBlock) (b p n : ℕ) → (if nat_lt b (length blocks) then value_for n (slice_get (phis_of (slice_get blocks b)) p) else None) ≡ value_for n (slice_get (phis_of (slice_get blocks b)) p)
all_blocks blocks b p n = bounded (length blocks) b (value_for n (slice_get (phis_of (slice_get blocks b)) p)) (no_block blocks b p n)

-- a loop's step at block `to`: what the table had there, and what it has now
pub next_block : (blocks : List FlatBlock) (to b p n : ℕ) (k : FlatBlock) (phis : List Phi) (old new : Option FlatOp) → to < length blocks → k ≡ get_or blocks to k → phis ≡ k.phis → old ≡ (if nat_lt b to then value_for n (slice_get (phis_of (slice_get blocks b)) p) else None) → new ≡ (if to == b then value_for n (slice_get phis p) else old) → new ≡ (if nat_lt b (to + 1) then value_for n (slice_get (phis_of (slice_get blocks b)) p) else None)
next_block blocks to b p n k phis old new within is same before after =
    let there : slice_get blocks to ≡ Some k = slice_get_read blocks (length blocks) to k refl within is in
    let value : value_for n (slice_get phis p) ≡ value_for n (slice_get (phis_of (slice_get blocks to)) p) = ap (λ ps. value_for n (slice_get ps p)) (same ∙ ap phis_of (sym there)) in
    after
    ∙ ap (λ o. if to == b then value_for n (slice_get phis p) else o) before
    ∙ one_more (λ q. value_for n (slice_get (phis_of (slice_get blocks q)) p)) to b (value_for n (slice_get phis p)) value

-- at a phi of a block
pub next_phi : (phis : List Phi) (here : Bool) (i p n : ℕ) (f : Phi) (es : List Entry) (old now new : Option FlatOp) → i < length phis → f ≡ get_or phis i f → es ≡ f.entries → now ≡ (if here then (if nat_lt p i then value_for n (slice_get phis p) else None) else old) → new ≡ (if here && i == p then entry_for n es else now) → new ≡ (if here then (if nat_lt p (i + 1) then value_for n (slice_get phis p) else None) else old)
next_phi phis here i p n f es old now new within is same before after =
    let there : slice_get phis i ≡ Some f = slice_get_read phis (length phis) i f refl within is in
    let value : entry_for n es ≡ value_for n (slice_get phis i) = ap (entry_for n) same ∙ ap (value_for n) (sym there) in
    after
    ∙ ap (λ o. if here && i == p then entry_for n es else o) before
    ∙ one_more_phi (λ q. value_for n (slice_get phis q)) here i p (entry_for n es) old value

-- an entry is added, and those after it are in the table
pub next_entry : (es : List Entry) (here : Bool) (i n : ℕ) (d : Entry) (old now new : Option FlatOp) → 0 < i → i ≤ length es → now ≡ (if here then entry_for n (drop i es) else old) → new ≡ (if here && (get_or es (i - 1) d).from.0 == n then Some (get_or es (i - 1) d).value else now) → new ≡ (if here then entry_for n (drop (i - 1) es) else old)
next_entry es here i n d old now new some within before after =
    let e : Entry = get_or es (i - 1) d in
    let low : i - 1 < length es = omega arith in
    let up : suc (i - 1) ≡ i = omega arith in
    let front : drop (i - 1) es ≡ e ∷ drop i es = drop-cons es (i - 1) d low ∙ ap (λ k. e ∷ drop k es) up in
    after
    ∙ ap (λ o. if here && e.from.0 == n then Some e.value else o) before
    ∙ entry_first here (e.from.0 == n) (Some e.value) (entry_for n (drop i es)) old
    ∙ ap (λ l. if here then entry_for n l else old) (sym front)
