-- Sweeps over the code of a block, and over blocks.
use Rattle.std.proofs.Common.{◌≡◌, ◌≢◌, ◌⊎◌, inl, inr, ⊎_elim, ℕ, zero, suc, ◌+◌, ◌<◌, ◌≤◌, List, [], ◌∷◌, ◌++◌, map, length, length-append, take, drop, Option, Some, None, slice_get, AllPairs, Contains, refl, sym, ap, ap₂, ◌∙◌, subst, arith, add-one}
use Rattle.std.specs.Prelude.{reverse}
use Rattle.std.specs.List.{flat_map, AllByRecursion as Each}
use Rattle.std.proofs.lemmas.List.{append-nil, map-append}
use Rattle.std.proofs.lemmas.Grind.{flat_map-append}
use Rattle.ir_core.specs.declared.flat.FlatInstr.{FlatInstr}
use Rattle.ir_core.specs.declared.flat.FlatBlock.{FlatBlock}
use Rattle.ir_core.specs.declared.flat.Phi.{Phi}
use Rattle.ir_core.specs.declared.flat.FlatBody.{FlatBody}
use Rattle.ir_core.specs.Formed.{writes, all_writes}
use Rattle.ir_core.specs.WellFormed.{IsWellFormed}
use Rattle.ir_core.proofs.ByPosition.{take_next}
use Rattle.ir_safety.proofs.Elements.{split, mapped_twice}
use Rattle.const_fold.proofs.Shapes.{map_length}
use Rattle.ir_core.proofs.Lists.{Has, Apart, each_of, each_from, apart_left, apart_right, apart_across, contains, has_in, has_left, has_right}
use Rattle.const_fold.specs.Operands.{with_operands}
use Rattle.local_passes.specs.declared.copy_table.Definition.{Definition}
use Rattle.local_passes.specs.declared.copy_table.Span.{Span}
use Rattle.local_passes.specs.declared.copy_table.CopyTable.{CopyTable}
use Rattle.local_passes.specs.declared.copies.Sweep.{Sweep}
use Rattle.local_passes.specs.LocalCopies.{from_source, past, source, instr_copied, end_sources, sources_from, block_copied, all_ends, copies_replaced}
use Rattle.local_passes.specs.CopyTables.{definition, source_in, sources_in, Extends, sources_told, ends_told, block_swept, phis_copied, code_writes, IsSwept}
use Rattle.flow_fold.proofs.DroppedFormed.{pairs_apart, apart_pairs, apart_joined}
use Rattle.local_passes.proofs.Popped.{popped, first_apart}
use Rattle.local_passes.proofs.CopySteps.{fresh, FirstAfter, kept_sources}

-- ---- one block

pub source_start : (t : CopyTable) (start : ℕ) (code : List FlatInstr) → start ≡ t.time → sources_in t start ≡ source code 0
unfolding source
source_start t start code e = ap (λ n. source_in t.definitions.items n t.time) e ∙ fresh t.definitions.items t.time

pub source_next : (code : List FlatInstr) (n : ℕ) (i : FlatInstr) → slice_get code n ≡ Some i → past (source code n) (Some i) ≡ source code (n + 1)
unfolding source
source_next code n i e = rw add-one (ap (past (source code n)) (sym e))

-- an instruction is that of the definition, by the sources up to now
pub instr_so_far : (t : CopyTable) (code : List FlatInstr) (start end n : ℕ) (i j : FlatInstr) → end ≡ t.time → sources_in t start ≡ source code n → j ≡ with_operands (from_source (source_in t.definitions.items start end)) i → j ≡ instr_copied code n i
instr_so_far t code start end n i j now so_far is =
    is ∙ ap (λ e. with_operands (from_source (source_in t.definitions.items start e)) i) now ∙ ap (λ s. with_operands (from_source s) i) so_far

-- ---- more blocks

-- a list of spans and one of blocks, with one more each
more_told : (ds : List (Option Definition)) (spans : List Span) (done : List FlatBlock) (span : Span) (k : FlatBlock) → length spans ≡ length done
    → ((b : ℕ) → sources_told ds (slice_get spans b) ≡ sources_from (slice_get done b)) → source_in ds span.start span.end ≡ end_sources k
    → (b : ℕ) → sources_told ds (slice_get (spans ++ span ∷ []) b) ≡ sources_from (slice_get (done ++ k ∷ []) b)
more_told ds [] [] span k long h last zero = last
more_told ds [] [] span k long h last (suc b) = refl
more_told ds [] (d ∷ done) span k long h last b = absurd (omega (arith, long))
more_told ds (s ∷ spans) [] span k long h last b = absurd (omega (arith, long))
more_told ds (s ∷ spans) (d ∷ done) span k long h last zero = h 0
more_told ds (s ∷ spans) (d ∷ done) span k long h last (suc b) = more_told ds spans done span k (omega (arith, long)) (λ c. h (suc c)) last b

more_ended : (spans : List Span) (span : Span) (t u : ℕ) → t ≤ u → span.end ≡ u → ((b : ℕ) (s : Span) → slice_get spans b ≡ Some s → s.end ≤ t) → (b : ℕ) (s : Span) → slice_get (spans ++ span ∷ []) b ≡ Some s → s.end ≤ u
more_ended [] span t u le last h zero s e = let same : span ≡ s = cc in let now = ap (λ (x : Span). x.end) same in omega (arith, now, last)
more_ended [] span t u le last h (suc b) s e = absurd cc
more_ended (x ∷ spans) span t u le last h zero s e = let old = h 0 s e in omega (arith, old, le)
more_ended (x ∷ spans) span t u le last h (suc b) s e = more_ended spans span t u le last (λ c. h (suc c)) b s e

longer : {A B : Type 0} (xs : List A) (ys : List B) (x : A) (y : B) → length xs ≡ length ys → length (xs ++ x ∷ []) ≡ length (ys ++ y ∷ [])
longer [] [] x y e = refl
longer [] (z ∷ ys) x y e = absurd (omega (arith, e))
longer (z ∷ xs) [] x y e = absurd (omega (arith, e))
longer (z ∷ xs) (w ∷ ys) x y e = ap suc (longer xs ys x y (omega (arith, e)))

module _ (done : List FlatBlock) (block : FlatBlock) (old new : Sweep) (span : Span) (swept : IsSwept done old)
    (once : AllPairs (λ r s. r ≢ s) (flat_map code_writes (done ++ block ∷ [])))
    (extends : Extends old.table new.table block.code) where
  parts : flat_map code_writes (done ++ block ∷ []) ≡ flat_map code_writes done ++ code_writes block
  parts = flat_map-append code_writes done (block ∷ []) ∙ ap (λ ws. flat_map code_writes done ++ ws) (append-nil (code_writes block))

  across : (q : ℕ) → Contains (flat_map code_writes done) q → Contains (code_writes block) q → ⊥
  across q in_done in_block =
      let apart = apart_across (flat_map code_writes done) (code_writes block) (apart_pairs (flat_map code_writes done ++ code_writes block) (subst (AllPairs (λ r s. r ≢ s)) parts once)) in
      each_of (λ (y : ℕ). q ≢ y) (code_writes block) q (each_of (λ (x : ℕ). Each (λ (y : ℕ). x ≢ y) (code_writes block)) (flat_map code_writes done) q apart (has_in (flat_map code_writes done) q in_done)) (has_in (code_writes block) q in_block) refl

  -- what the block defines was not defined before
  first_after : (end : ℕ) → end ≤ old.table.time → (q : ℕ) → FirstAfter end (definition old.table.definitions.items q) (definition new.table.definitions.items q)
  first_after end le q = by_change (extends.each q) (swept.written q)
    where
      by_change : (definition new.table.definitions.items q ≡ definition old.table.definitions.items q) ⊎ ((old.table.time < (definition new.table.definitions.items q).time) × Contains (code_writes block) q)
          → ((definition old.table.definitions.items q).time ≡ 0) ⊎ Contains (flat_map code_writes done) q → FirstAfter end (definition old.table.definitions.items q) (definition new.table.definitions.items q)
      by_change (inl same) was = inl same
      by_change (inr h) (inl none) = inr (none, let lt = h.0 in omega (arith, lt, le))
      by_change (inr h) (inr in_done) = absurd (across q in_done h.1)

  kept : (b : ℕ) → sources_told new.table.definitions.items (slice_get old.spans.items b) ≡ sources_from (slice_get done b)
  kept b = by_span (slice_get old.spans.items b) refl ∙ swept.sources b
    where
      by_span : (o : Option Span) → slice_get old.spans.items b ≡ o → sources_told new.table.definitions.items o ≡ sources_told old.table.definitions.items o
      by_span None e = refl
      by_span (Some s) e = kept_sources old.table.definitions.items new.table.definitions.items s.start s.end (first_after s.end (swept.ended b s e))

  in_all : (q : ℕ) → Contains (flat_map code_writes done) q ⊎ Contains (code_writes block) q → Contains (flat_map code_writes (done ++ block ∷ [])) q
  in_all q (inl h) = subst (λ rs. Contains rs q) (sym parts) (contains (flat_map code_writes done ++ code_writes block) q (has_left (flat_map code_writes done) (code_writes block) q (has_in (flat_map code_writes done) q h)))
  in_all q (inr h) = subst (λ rs. Contains rs q) (sym parts) (contains (flat_map code_writes done ++ code_writes block) q (has_right (flat_map code_writes done) (code_writes block) q (has_in (code_writes block) q h)))

  -- one block more was swept
  pub swept_more : (swept_block : FlatBlock) → swept_block ≡ block_swept block → new.blocks ≡ old.blocks ++ swept_block ∷ [] → new.spans.items ≡ old.spans.items ++ span ∷ []
      → span.start ≡ old.table.time → span.end ≡ new.table.time → sources_in new.table old.table.time ≡ end_sources block → IsSwept (done ++ block ∷ []) new
  swept_more k is blocks spans start end sources = record {
    blocks = blocks ∙ ap₂ (λ ks l. ks ++ l ∷ []) swept.blocks is ∙ sym (map-append block_swept done (block ∷ []));
    spans = ap length spans ∙ longer old.spans.items done span block swept.spans;
    sources = λ b.
        ap (λ ss. sources_told new.table.definitions.items (slice_get ss b)) spans
        ∙ more_told new.table.definitions.items old.spans.items done span block swept.spans kept
        (ap₂ (source_in new.table.definitions.items) start end ∙ sources) b;
    ended = λ b s e. more_ended old.spans.items span old.table.time new.table.time extends.time end swept.ended b s (ap (λ ss. slice_get ss b) (sym spans) ∙ e);
    written = λ q. by_change q (extends.each q) (swept.written q);
  }
    where
      by_change : (q : ℕ) → (definition new.table.definitions.items q ≡ definition old.table.definitions.items q) ⊎ ((old.table.time < (definition new.table.definitions.items q).time) × Contains (code_writes block) q)
          → ((definition old.table.definitions.items q).time ≡ 0) ⊎ Contains (flat_map code_writes done) q → ((definition new.table.definitions.items q).time ≡ 0) ⊎ Contains (flat_map code_writes (done ++ block ∷ [])) q
      by_change q (inl same) (inl none) = inl (ap (λ (d : Definition). d.time) same ∙ none)
      by_change q (inl same) (inr h) = inr (in_all q (inl h))
      by_change q (inr h) was = inr (in_all q (inr h.1))

pub none_swept : (s : Sweep) → s.blocks ≡ [] → s.spans.items ≡ [] → s.table.definitions.items ≡ [] → IsSwept [] s
none_swept s blocks spans table = record {
  blocks = blocks;
  spans = ap length spans;
  sources = λ b. ap (λ ss. ends_told s.table.definitions.items ss b) spans;
  ended = λ b span e. absurd (let none = sym e ∙ ap (λ ss. slice_get ss b) spans in cc);
  written = λ q. inl (ap (λ ds. (definition ds q).time) table);
}

count_swept : (done : List FlatBlock) (s : Sweep) → IsSwept done s → length s.blocks ≡ length done
count_swept done s swept = ap length swept.blocks ∙ map_length block_swept done

-- the next block of a list was swept
pub next_swept : (bs : List FlatBlock) (old new : Sweep) (left rest : List FlatBlock) (block : FlatBlock) → AllPairs (λ r s. r ≢ s) (flat_map code_writes bs)
    → reverse left ≡ drop (length old.blocks) bs → left ≡ rest ++ block ∷ [] → IsSwept (take (length old.blocks) bs) old
    → ((done : List FlatBlock) → IsSwept done old → AllPairs (λ r s. r ≢ s) (flat_map code_writes (done ++ block ∷ [])) → IsSwept (done ++ block ∷ []) new)
    → (reverse rest ≡ drop (length new.blocks) bs) × IsSwept (take (length new.blocks) bs) new
next_swept bs old new left rest block once so_far was swept more =
    let n = length old.blocks in
    let p = popped bs n left rest block so_far was in
    let next = take_next bs n (n + 1) block refl p.0 in
    let done = take n bs in
    let now = more done swept (subst (λ ks. AllPairs (λ r s. r ≢ s) (flat_map code_writes ks)) next (first_apart code_writes bs (n + 1) once)) in
    let was_long = count_swept done old swept in
    let long = count_swept (done ++ block ∷ []) new now in
    let one_more = length-append done (block ∷ []) in
    let count : length new.blocks ≡ n + 1 = omega (arith, was_long, long, one_more) in (
      sym p.1 ∙ ap (λ k. drop k bs) (sym count),
      subst (λ ks. IsSwept ks new) (sym next ∙ ap (λ k. take k bs) (sym count)) now,
    )

-- ---- all blocks

has_code : (ks : List FlatBlock) (r : ℕ) → Has (flat_map code_writes ks) r → Has (flat_map writes ks) r
has_code [] r h = h
has_code (k ∷ ks) r h = ⊎_elim
    (λ g. has_left (writes k) (flat_map writes ks) r (has_right (map (λ (f : Phi). f.reg.0) k.phis) (code_writes k) r g))
    (λ g. has_right (writes k) (flat_map writes ks) r (has_code ks r g))
    (split (code_writes k) (flat_map code_writes ks) r h)

code_apart : (ks : List FlatBlock) → Apart (flat_map writes ks) → Apart (flat_map code_writes ks)
code_apart [] a = a
code_apart (k ∷ ks) a =
    let regs = map (λ (f : Phi). f.reg.0) k.phis in
    let rest = flat_map code_writes ks in
    apart_joined (code_writes k) rest (apart_right regs (code_writes k) (apart_left (writes k) (flat_map writes ks) a)) (code_apart ks (apart_right (writes k) (flat_map writes ks) a))
    (each_from (λ (x : ℕ). Each (λ (y : ℕ). x ≢ y) rest) (code_writes k) (λ x in_it. each_from (λ (y : ℕ). x ≢ y) rest (λ y has.
    each_of (λ (z : ℕ). x ≢ z) (flat_map writes ks) y (each_of (λ (u : ℕ). Each (λ (z : ℕ). u ≢ z) (flat_map writes ks)) (writes k) x (apart_across (writes k) (flat_map writes ks) a) (has_right regs (code_writes k) x in_it)) (has_code ks y has))))

-- the code of a formed body writes no register twice
pub code_once : (b : FlatBody) → IsWellFormed b → AllPairs (λ r s. r ≢ s) (flat_map code_writes b.blocks)
code_once b h = pairs_apart (flat_map code_writes b.blocks) (code_apart b.blocks (apart_pairs (all_writes b) h.formed.written_once))

-- blocks that were swept, with the sources in their phis too
pub copies_done : (b new : FlatBody) (s : Sweep) (blocks : List FlatBlock) → IsSwept b.blocks s → blocks ≡ map (phis_copied (ends_told s.table.definitions.items s.spans.items)) s.blocks → new ≡ record b { blocks = blocks } → new ≡ copies_replaced b
unfolding copies_replaced
copies_done b new s blocks swept made is =
    let ends : ends_told s.table.definitions.items s.spans.items ≡ all_ends b = λ i n. swept.sources n i in
    is ∙ ap (λ (ks : List FlatBlock). record b { blocks = ks }) (made
    ∙ ap (map (phis_copied (ends_told s.table.definitions.items s.spans.items))) swept.blocks
    ∙ mapped_twice (phis_copied (ends_told s.table.definitions.items s.spans.items)) block_swept b.blocks
    ∙ ap (λ e. map (block_copied e) b.blocks) ends)
