-- Where the code of an instruction, of the end of a block and of a function's entry stands in an object.
use Rattle.std.proofs.Common.{◌≡◌, ℕ, zero, suc, ◌+◌, ◌*◌, refl, sym, ap, ◌∙◌, subst, arith, Bool, List, [], ◌∷◌, ◌++◌, length, length-append, append_assoc, take, Option, Some, None, slice_get}
use Rattle.std.specs.List.{flat_map}
use Rattle.std.proofs.lemmas.List.{append-nil}
use Rattle.ir_core.specs.declared.flat.FlatInstr.{FlatInstr}
use Rattle.ir_core.specs.declared.flat.FlatBlock.{FlatBlock}
use Rattle.ir_core.specs.declared.flat.FlatBody.{FlatBody}
use Rattle.ir_core.specs.Flat.{Program, Activation}
use Rattle.ir_core.specs.Formed.{IsBlock}
use Rattle.frame_layout.specs.Offsets.{Offsets}
use Rattle.frame_layout.specs.Frame.{frame_of}
use Rattle.rv_isa.specs.declared.rv.Rv.{Rv}
use Rattle.rv_isa.specs.Memory.{Segments}
use Rattle.rv_isa.specs.Laws.{Holds}
use Rattle.rv_select.specs.declared.item.Draft.{Draft}
use Rattle.rv_select.specs.Branches as branches
use Rattle.rv_select.specs.Code.{drafts, drafts_before, longs, block_head, block_place, code_with, code}
use Rattle.rv_select.specs.Pending.{words}
use Rattle.rv_select.specs.Lowered.{head, instr, before_end, end_code, block, blocks_from, prologue}
use Rattle.rv_select.specs.Linked.{linked}
use Rattle.rv_select.specs.Stands.{Object, body_in, drafts_in_block, drafts_to, offset_of, goes_on, CodeIsLaid, IsLaid}
use Rattle.rv_select.proofs.Slices.{OnlyBranches, only_left, only_right, settled_only, Part, part_front, part_back, part_words, after_words}

-- drafts that come after others
pub record PartOf (all before ds : List Draft) : Type 0 where
  pub rest : List Draft
  pub is : all ≡ before ++ (ds ++ rest)

-- a part of what follows others
later : (all before ds es : List Draft) → (p : PartOf all before ds) → (q : PartOf ds [] es) → PartOf all before es
later all before ds es p q = record {
  rest = q.rest ++ p.rest;
  is = p.is ∙ ap (λ x. before ++ (x ++ p.rest)) q.is ∙ ap (λ x. before ++ x) (append_assoc es q.rest p.rest);
}

-- more after what comes before
deeper : (all before ds xs es : List Draft) → PartOf all before ds → PartOf ds xs es → PartOf all (before ++ xs) es
deeper all before ds xs es p q = record {
  rest = q.rest ++ p.rest;
  is = p.is ∙ ap (λ x. before ++ (x ++ p.rest)) q.is
      ∙ ap (λ x. before ++ x) (append_assoc xs (es ++ q.rest) p.rest ∙ ap (λ x. xs ++ x) (append_assoc es q.rest p.rest))
      ∙ sym (append_assoc before xs (es ++ (q.rest ++ p.rest)));
}

same_some : {A : Type 0} (x y : A) → Some x ≡ Some y → x ≡ y
same_some x y e = cc

no_some : {A : Type 0} (x : A) → None ≡ Some x → ⊥
no_some x e = cc

module _ {A : Type 0} (g : A → List Draft) where
  one_of : (xs : List A) (j : ℕ) (x : A) → slice_get xs j ≡ Some x → PartOf (flat_map g xs) (flat_map g (take j xs)) (g x)
  one_of [] j x e = absurd (no_some x e)
  one_of (y ∷ xs) zero x e = let same = same_some y x e in record { rest = flat_map g xs; is = ap (λ (z : A). g z ++ flat_map g xs) same }
  one_of (y ∷ xs) (suc j) x e = let p = one_of xs j x e in record { rest = p.rest; is = ap (λ r. g y ++ r) p.is ∙ sym (append_assoc (g y) (flat_map g (take j xs)) (g x ++ p.rest)) }

  one_further : (xs : List A) (j : ℕ) (x : A) → slice_get xs j ≡ Some x → flat_map g (take (j + 1) xs) ≡ flat_map g (take j xs) ++ g x
  one_further [] j x e = absurd (no_some x e)
  one_further (y ∷ xs) zero x e = let same = same_some y x e in ap (λ (z : A). g z ++ []) same ∙ append-nil (g x)
  one_further (y ∷ xs) (suc j) x e =
      let n : suc j + 1 ≡ suc (j + 1) = omega arith in
      ap (λ m. flat_map g (take m (y ∷ xs))) n ∙ ap (λ r. g y ++ r) (one_further xs j x e) ∙ sym (append_assoc (g y) (flat_map g (take j xs)) (g x))

take_all : {A : Type 0} (xs : List A) → take (length xs) xs ≡ xs
take_all [] = refl
take_all (x ∷ xs) = ap (λ ys. x ∷ ys) (take_all xs)

module _ (f : Offsets) (b : FlatBody) where
  block_part_from : (ks : List FlatBlock) (m n : ℕ) (k : FlatBlock) → slice_get ks n ≡ Some k → PartOf (blocks_from f b.blocks m ks) (blocks_from f b.blocks m (take n ks)) (block f b.blocks (m + n) k)
  block_part_from [] m n k e = absurd (no_some k e)
  block_part_from (c ∷ ks) m zero k e =
      let same = same_some c k e in
      let n : m ≡ m + 0 = omega arith in
      record { rest = blocks_from f b.blocks (m + 1) ks; is = ap (λ (x : FlatBlock). block f b.blocks m x ++ blocks_from f b.blocks (m + 1) ks) same ∙ ap (λ x. block f b.blocks x k ++ blocks_from f b.blocks (m + 1) ks) n }
  block_part_from (c ∷ ks) m (suc n) k e =
      let p = block_part_from ks (m + 1) n k e in
      let q : m + 1 + n ≡ m + suc n = omega arith in
      record { rest = p.rest; is = ap (λ r. block f b.blocks m c ++ r) (p.is ∙ ap (λ x. blocks_from f b.blocks (m + 1) (take n ks) ++ (block f b.blocks x k ++ p.rest)) q) ∙ sym (append_assoc (block f b.blocks m c) (blocks_from f b.blocks (m + 1) (take n ks)) (block f b.blocks (m + suc n) k ++ p.rest)) }

  -- a block of the body
  pub block_part : (n : ℕ) (k : FlatBlock) → IsBlock b n k → PartOf (drafts f b) (drafts_before f b n) (block f b.blocks n k)
  block_part n k e =
      let p = block_part_from b.blocks 0 n k e in
      let z : 0 + n ≡ n = omega arith in
      record { rest = p.rest; is = ap (λ r. prologue f b.params ++ r) (p.is ∙ ap (λ x. blocks_from f b.blocks 0 (take n b.blocks) ++ (block f b.blocks x k ++ p.rest)) z) ∙ sym (append_assoc (prologue f b.params) (blocks_from f b.blocks 0 (take n b.blocks)) (block f b.blocks n k ++ p.rest)) }

  -- what a block is made of
  parts_of_block : (n : ℕ) (k : FlatBlock) → block f b.blocks n k ≡ head f k.phis ++ (flat_map (instr f) k.code ++ (before_end f b.blocks n k.end ++ end_code f n k.end))
  parts_of_block n k =
      append_assoc (head f k.phis ++ flat_map (instr f) k.code) (before_end f b.blocks n k.end) (end_code f n k.end)
      ∙ append_assoc (head f k.phis) (flat_map (instr f) k.code) (before_end f b.blocks n k.end ++ end_code f n k.end)

  pub head_part : (n : ℕ) (k : FlatBlock) → IsBlock b n k → PartOf (drafts f b) (drafts_before f b n) (head f k.phis)
  head_part n k e = later (drafts f b) (drafts_before f b n) (block f b.blocks n k) (head f k.phis) (block_part n k e) (record { rest = flat_map (instr f) k.code ++ (before_end f b.blocks n k.end ++ end_code f n k.end); is = parts_of_block n k })

  pub instr_part : (n j : ℕ) (k : FlatBlock) (i : FlatInstr) → IsBlock b n k → slice_get k.code j ≡ Some i → PartOf (drafts f b) (drafts_before f b n ++ (head f k.phis ++ flat_map (instr f) (take j k.code))) (instr f i)
  instr_part n j k i e at =
      let code = flat_map (instr f) k.code in
      let front = flat_map (instr f) (take j k.code) in
      let p = one_of (instr f) k.code j i at in
      deeper (drafts f b) (drafts_before f b n) (block f b.blocks n k) (head f k.phis ++ front) (instr f i) (block_part n k e)
      (deeper (block f b.blocks n k) (head f k.phis) code front (instr f i) (record { rest = before_end f b.blocks n k.end ++ end_code f n k.end; is = parts_of_block n k }) p)

  pub end_part : (n : ℕ) (k : FlatBlock) → IsBlock b n k → PartOf (drafts f b) (drafts_before f b n ++ (head f k.phis ++ flat_map (instr f) (take (length k.code) k.code))) (before_end f b.blocks n k.end ++ end_code f n k.end)
  end_part n k e =
      let code = flat_map (instr f) k.code in
      let last = before_end f b.blocks n k.end ++ end_code f n k.end in
      let front = flat_map (instr f) (take (length k.code) k.code) in
      deeper (drafts f b) (drafts_before f b n) (block f b.blocks n k) (head f k.phis ++ front) last (block_part n k e) (record {
        rest = [];
        is = parts_of_block n k
            ∙ sym (append_assoc (head f k.phis) code last)
            ∙ ap (λ (c : List FlatInstr). (head f k.phis ++ flat_map (instr f) c) ++ last) (sym (take_all k.code))
            ∙ ap (λ x. (head f k.phis ++ front) ++ x) (sym (append-nil last));
      })

-- ---- in an object

abbrev pub IsAt : Segments → ℕ → ℕ → List Rv → Type 0
IsAt s from to code = Holds s from code × (from + 4 * length code ≡ to)

module _ (o : Object) (f : ℕ) (b : FlatBody) (laid : CodeIsLaid o f b) where
  abbrev s : Segments
  s = o.segments

  abbrev pub start : ℕ
  start = o.link.entry f

  abbrev pub fr : Offsets
  fr = frame_of b

  abbrev pub ls : List Bool
  ls = longs fr b

  abbrev pub places : ℕ → ℕ
  places n = block_place fr b n

  only_all : OnlyBranches ls 0 (drafts fr b)
  only_all = settled_only (block_head fr b) (drafts fr b)

  abbrev pub Stand : List Draft → List Draft → Type 0
  Stand before ds = Part s o.link start places ls (length before) ds

  all_stand : Part s o.link start places ls 0 (drafts fr b)
  unfolding code
  all_stand = let e : start ≡ start + branches.place ls 0 = omega arith in subst (λ a. Holds s a (linked o.link a (code_with fr b))) e laid.holds

  pub part_stands : (before ds : List Draft) → PartOf (drafts fr b) before ds → Stand before ds × OnlyBranches ls (length before) ds
  part_stands before ds p =
      let all = subst (Part s o.link start places ls 0) p.is all_stand in
      let only = subst (OnlyBranches ls 0) p.is only_all in
      let z : 0 + length before ≡ length before = omega arith in
      let rest = subst (λ n. Part s o.link start places ls n (ds ++ p.rest)) z (part_back s o.link start places ls 0 before (ds ++ p.rest) (only_left ls 0 before (ds ++ p.rest) only) all) in
      let only_rest = subst (λ n. OnlyBranches ls n (ds ++ p.rest)) z (only_right ls 0 before (ds ++ p.rest) only) in (
        part_front s o.link start places ls (length before) ds p.rest rest,
        only_left ls (length before) ds p.rest only_rest,
      )

  -- instructions stand as they are
  pub words_stand : (before : List Draft) (cs : List Rv) → PartOf (drafts fr b) before (words cs) → IsAt s (start + branches.place ls (length before)) (start + branches.place ls (length (before ++ words cs))) cs
  words_stand before cs p =
      let h = part_stands before (words cs) p in
      let n = length-append before (words cs) in (
        part_words s o.link start places ls (length before) cs h.0,
        after_words s o.link start places ls (length before) cs h.1 ∙ ap (λ k. start + branches.place ls k) (sym n),
      )

-- an activation before an instruction that is so many instructions of the machine, and before the end of its block
module _ (o : Object) (p : Program) (laid : IsLaid o p) (a : Activation) (has : p.body a.func ≡ Some (body_in p a.func)) (k : FlatBlock) (here : IsBlock (body_in p a.func) a.block k) where
  abbrev b : FlatBody
  b = body_in p a.func

  abbrev code_laid : CodeIsLaid o a.func b
  code_laid = laid.codes a.func b has

  -- what comes before instruction j of the block
  to_is : (j : ℕ) → drafts_to b a.block j ≡ drafts_before (frame_of b) b a.block ++ (head (frame_of b) k.phis ++ flat_map (instr (frame_of b)) (take j k.code))
  to_is j = ap (λ (x : Option FlatBlock). drafts_before (frame_of b) b a.block ++ drafts_in_block (frame_of b) x j) here

  pub instr_stands : (i : FlatInstr) (cs : List Rv) → slice_get k.code a.place ≡ Some i → instr (frame_of b) i ≡ words cs → IsAt o.segments (goes_on o p a) (goes_on o p (record a { place = a.place + 1 })) cs
  instr_stands i cs at is =
      let fr = frame_of b in
      let before = drafts_before fr b a.block ++ (head fr k.phis ++ flat_map (instr fr) (take a.place k.code)) in
      let part = subst (PartOf (drafts fr b) before) is (instr_part fr b a.block a.place k i here at) in
      let h = words_stand o a.func b code_laid before cs part in
      let next : before ++ words cs ≡ drafts_to b a.block (a.place + 1) =
      append_assoc (drafts_before fr b a.block) (head fr k.phis ++ flat_map (instr fr) (take a.place k.code)) (words cs)
      ∙ ap (λ x. drafts_before fr b a.block ++ x) (append_assoc (head fr k.phis) (flat_map (instr fr) (take a.place k.code)) (words cs) ∙ ap (λ x. head fr k.phis ++ x) (ap (λ x. flat_map (instr fr) (take a.place k.code) ++ x) (sym is) ∙ sym (one_further (instr fr) k.code a.place i at)))
      ∙ sym (to_is (a.place + 1)) in
      let from : o.link.entry a.func + branches.place (longs fr b) (length before) ≡ goes_on o p a = ap (λ (ds : List Draft). o.link.entry a.func + branches.place (longs fr b) (length ds)) (sym (to_is a.place)) in
      let to : o.link.entry a.func + branches.place (longs fr b) (length (before ++ words cs)) ≡ goes_on o p (record a { place = a.place + 1 }) = ap (λ (ds : List Draft). o.link.entry a.func + branches.place (longs fr b) (length ds)) next in
      (subst (λ n. Holds o.segments n cs) from h.0, ap (λ n. n + 4 * length cs) (sym from) ∙ h.1 ∙ to)

  pub end_stands : (cs : List Rv) → a.place ≡ length k.code → before_end (frame_of b) b.blocks a.block k.end ++ end_code (frame_of b) a.block k.end ≡ words cs → Holds o.segments (goes_on o p a) cs
  end_stands cs at is =
      let fr = frame_of b in
      let before = drafts_before fr b a.block ++ (head fr k.phis ++ flat_map (instr fr) (take (length k.code) k.code)) in
      let part = subst (PartOf (drafts fr b) before) is (end_part fr b a.block k here) in
      let h = words_stand o a.func b code_laid before cs part in
      let from : o.link.entry a.func + branches.place (longs fr b) (length before) ≡ goes_on o p a = ap (λ (ds : List Draft). o.link.entry a.func + branches.place (longs fr b) (length ds)) (sym (to_is (length k.code))) ∙ ap (λ n. o.link.entry a.func + offset_of b a.block n) (sym at) in
      subst (λ n. Holds o.segments n cs) from h.0
