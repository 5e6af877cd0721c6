-- The globals one after another: where each begins, and the bytes of the data so far.
use Rattle.std.proofs.Common.{◌≡◌, ℕ, ◌+◌, ◌-◌, ◌≤◌, List, [], ◌∷◌, ◌++◌, map, replicate, length, length-append, append_assoc, All, sym, ap, ap₂, ◌∙◌, subst, arith}
use Rattle.std.specs.Int.{next_multiple_of}
use Rattle.std.proofs.lemmas.List.{length-map, length-replicate}
use Rattle.std.proofs.lemmas.List.Elements.{All-nil, All-cons, All-append}
use Rattle.ir_core.specs.declared.limits.TheConstants.{MOST_DATA}
use Rattle.ir_core.specs.declared.module.GlobalVar.{GlobalVar}
use Rattle.ir_core.specs.declared.module.Module.{Module}
use Rattle.ir_core.specs.Constants.{aligned_as, global_block, global_memory}
use Rattle.ir_core.specs.Memory.{Memory, Block}
use Rattle.ir_core.specs.Sizes.{size}
use Rattle.rv_select.specs.Linked.{Link}
use Rattle.image_layout.specs.Addresses.{places, end_of}
use Rattle.image_layout.specs.DataBytes.{byte_in, bytes_from}
use Rattle.image_layout.specs.Initialisers.{IsPlaceable}

ends_later : (from : ℕ) (bs : Memory) → from ≤ end_of from bs
ends_later from [] = omega arith
ends_later from (b ∷ bs) = let more = ends_later (next_multiple_of from b.align + length b.bytes) bs in omega (arith, more)

-- ---- places

-- the places so far, where the last of their globals ends, and the globals that are left
pub record Placing (m : Module) (ps : List ℕ) (end : ℕ) (rest : List GlobalVar) : Type 0 where
  pub all : ps ++ places end (map (global_block m) rest) ≡ places 0 (global_memory m)
  pub low : All (λ (p : ℕ). p ≤ MOST_DATA) ps
  pub last : end_of end (map (global_block m) rest) ≡ end_of 0 (global_memory m)

module _ (m : Module) (g : GlobalVar) (rest : List GlobalVar) (placeable : IsPlaceable m g) (fits : end_of 0 (global_memory m) ≤ MOST_DATA) (ps : List ℕ) (end : ℕ) (left : List GlobalVar) (before : Placing m ps end left) (first : left ≡ g ∷ rest) where
  abbrev place : ℕ
  place = next_multiple_of end (aligned_as m.types.defs g.align g.ty)

  abbrev next : ℕ
  next = place + size m.types.defs g.ty

  begun : Placing m ps end (g ∷ rest)
  begun = subst (Placing m ps end) first before

  last_is : end_of next (map (global_block m) rest) ≡ end_of 0 (global_memory m)
  last_is = ap (λ (n : ℕ). end_of (place + n) (map (global_block m) rest)) (sym placeable.filled) ∙ begun.last

  pub next_low : next ≤ MOST_DATA
  next_low = let up = ends_later next (map (global_block m) rest) in omega (arith, up, last_is, fits)

  pub one_placed : Placing m (ps ++ place ∷ []) next rest
  one_placed = record {
    all = append_assoc ps (place ∷ []) (places next (map (global_block m) rest)) ∙ ap (λ (n : ℕ). ps ++ place ∷ places (place + n) (map (global_block m) rest)) (sym placeable.filled) ∙ begun.all;
    low = All-append (λ (p : ℕ). p ≤ MOST_DATA) ps (place ∷ []) before.low (All-cons (λ (p : ℕ). p ≤ MOST_DATA) place [] (let most = next_low in omega (arith, most)) (All-nil (λ (p : ℕ). p ≤ MOST_DATA)));
    last = last_is;
  }

-- ---- bytes

pub one_written : (l : Link) (b : Block) (rest : Memory) (bytes padded written : List ℕ) (all : List ℕ)
    → padded ≡ bytes ++ replicate (next_multiple_of (length bytes) b.align - length bytes) 0
    → written ≡ padded ++ map (byte_in l) b.bytes
    → bytes ++ bytes_from l (length bytes) (b ∷ rest) ≡ all
    → written ++ bytes_from l (length written) rest ≡ all
one_written l b rest bytes padded written all p w before =
    let at = next_multiple_of (length bytes) b.align in
    let zeros = replicate (at - length bytes) 0 in
    let own = map (byte_in l) b.bytes in
    let whole : written ≡ (bytes ++ zeros) ++ own = w ∙ ap (λ (bs : List ℕ). bs ++ own) p in
    let first = length-append (bytes ++ zeros) own in
    let second = length-append bytes zeros in
    let third = length-replicate (at - length bytes) (let z : ℕ = 0 in z) in
    let fourth = length-map b.bytes (byte_in l) in
    let size : length written ≡ at + length b.bytes = ap (λ (bs : List ℕ). length bs) whole ∙ omega (arith, first, second, third, fourth) in
    ap₂ (λ (bs : List ℕ) (n : ℕ). bs ++ bytes_from l n rest) whole size
    ∙ append_assoc (bytes ++ zeros) own (bytes_from l (at + length b.bytes) rest)
    ∙ append_assoc bytes zeros (own ++ bytes_from l (at + length b.bytes) rest)
    ∙ ap (λ (bs : List ℕ). bytes ++ bs) (sym (append_assoc zeros own (bytes_from l (at + length b.bytes) rest)))
    ∙ before
