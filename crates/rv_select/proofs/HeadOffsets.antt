-- Blocks begin where the codes before them end.
use Rattle.std.proofs.Common.{◌≡◌, ℕ, zero, suc, ◌+◌, ◌≤◌, All, List, [], ◌∷◌, ◌++◌, length, get_or, take, map, nat_lt, true, false, refl, sym, ap, ap₂, ◌∙◌, subst, length-append, arith}
use Rattle.std.proofs.lemmas.List.Elements.{All-nil, All-cons}
use Rattle.std.proofs.lemmas.List.{get_or_past}
use Rattle.std.proofs.lemmas.Bool.Decides.{nat_tests}
use Rattle.std.proofs.lemmas.Option.{slice_get-get_or}
use Rattle.ir_core.specs.declared.flat.Scalar.{Scalar}
use Rattle.ir_core.specs.declared.flat.FlatInstr.{FlatInstr}
use Rattle.ir_core.specs.declared.flat.FlatInstr.TheVariants.{Bin, Icmp, Select, Cast, Copy, Alloca, Load, Store, Gep, Call, Put, Get, Exit}
use Rattle.ir_core.specs.declared.flat.FlatBlock.{FlatBlock}
use Rattle.ir_core.specs.declared.flat.FlatBody.{FlatBody}
use Rattle.ir_core.specs.Formed.{FuncType, IsTyped}
use Rattle.ir_core.specs.WellFormed.{IsWellFormed}
use Rattle.frame_layout.specs.Offsets.{Offsets}
use Rattle.rv_select.specs.declared.item.Item.{Item}
use Rattle.rv_select.specs.declared.item.Draft.{Draft}
use Rattle.rv_select.specs.declared.item.Draft.TheVariants.{Fixed, Jump, Near}
use Rattle.std.specs.Prelude.{◌||◌, Bool}
use Rattle.std.specs.List.{count_by}
use Rattle.std.specs.Fn.{iterate}
use Rattle.rv_select.specs.Branches.{is_long, count_true, place, is_far, is_out_of_reach, grown_from, grown, is_branch, all_short, settled, IsWithin}
use Rattle.rv_select.specs.Pending.{jump, branch_items, draft_items, items_from, IsDraft, IsItem}
use Rattle.rv_select.specs.Lowered.{block, blocks_from, prologue, HasFewArguments}
use Rattle.rv_select.specs.Heads.{HasFewIn, heads_from, head_in}
use Rattle.rv_select.specs.Code.{drafts, block_head, longs, items_of, code_with}
use Rattle.rv_select.proofs.Branches.{choices, starts, settled_stays}
use Rattle.rv_select.proofs.ItemRanges.{items_count, all_items}

pub head_at : (f : Offsets) (blocks : List FlatBlock) (m at end n : ℕ) (ks : List FlatBlock) → end ≡ at + length (blocks_from f blocks m ks) → get_or (heads_from f blocks m at ks) n end ≡ at + length (blocks_from f blocks m (take n ks))
head_at f blocks m at end zero [] e = e
head_at f blocks m at end (suc n) [] e = e
head_at f blocks m at end zero (k ∷ ks) e = omega arith
head_at f blocks m at end (suc n) (k ∷ ks) e =
    let all = length-append (block f blocks m k) (blocks_from f blocks (m + 1) ks) in
    let some = length-append (block f blocks m k) (blocks_from f blocks (m + 1) (take n ks)) in
    let rest = head_at f blocks (m + 1) (at + length (block f blocks m k)) end n ks (omega arith) in
    omega arith

pub heads_low : (f : Offsets) (blocks : List FlatBlock) (m at end : ℕ) (ks : List FlatBlock) → at + length (blocks_from f blocks m ks) ≤ end → All (λ h. h ≤ end) (heads_from f blocks m at ks)
heads_low f blocks m at end [] le = All-nil (λ h. h ≤ end)
heads_low f blocks m at end (k ∷ ks) le =
    let all = length-append (block f blocks m k) (blocks_from f blocks (m + 1) ks) in
    All-cons (λ h. h ≤ end) at (heads_from f blocks (m + 1) (at + length (block f blocks m k)) ks) (omega arith) (heads_low f blocks (m + 1) (at + length (block f blocks m k)) end ks (omega arith))

-- the same drafts become the same items where blocks have the same places
draft_same : (p q : ℕ → ℕ) (long : Bool) (at : ℕ) (d : Draft) → ((n : ℕ) → p n ≡ q n) → draft_items p long at d ≡ draft_items q long at d
draft_same p q long at (Fixed i) same = refl
draft_same p q long at (Jump b) same = ap (λ (n : ℕ). jump at n ∷ []) (same b.0)
draft_same p q long at (Near t r u b) same = ap (λ (n : ℕ). branch_items long t r u at n) (same b.0)

items_same : (p q : ℕ → ℕ) (ls : List Bool) (k : ℕ) (ds : List Draft) → ((n : ℕ) → p n ≡ q n) → items_from p ls k ds ≡ items_from q ls k ds
items_same p q ls k [] same = refl
items_same p q ls k (d ∷ ds) same = ap₂ (λ (xs ys : List Item). xs ++ ys) (draft_same p q (is_long ls k) (place ls k) d same) (items_same p q ls (k + 1) ds same)

-- and in a round the same branches become long
reach_same : (p q : ℕ → ℕ) (ls : List Bool) (k : ℕ) (d : Draft) → ((n : ℕ) → p n ≡ q n) → is_out_of_reach p ls k d ≡ is_out_of_reach q ls k d
reach_same p q ls k (Fixed i) same = refl
reach_same p q ls k (Jump b) same = refl
reach_same p q ls k (Near t r u b) same = ap (λ (n : ℕ). is_far (place ls k) (place ls n)) (same b.0)

grown_same : (p q : ℕ → ℕ) (ls : List Bool) (k : ℕ) (ds : List Draft) → ((n : ℕ) → p n ≡ q n) → grown_from p ls k ds ≡ grown_from q ls k ds
grown_same p q ls k [] same = refl
grown_same p q ls k (d ∷ ds) same = ap₂ (λ (b : Bool) (bs : List Bool). (is_long ls k || b) ∷ bs) (reach_same p q ls k d same) (grown_same p q ls (k + 1) ds same)

rounds_same : (p q : ℕ → ℕ) (ds : List Draft) (n : ℕ) (ls : List Bool) → ((n : ℕ) → p n ≡ q n) → iterate (grown p ds) n ls ≡ iterate (grown q ds) n ls
rounds_same p q ds zero ls same = refl
rounds_same p q ds (suc n) ls same = ap (iterate (grown p ds) n) (grown_same p q ls 0 ds same) ∙ rounds_same p q ds n (grown q ds ls) same

-- ---- the whole code

pub drafted : (f : Offsets) (b : FlatBody) (bs : List FlatBlock) (d0 d1 d2 : List Draft) → bs ≡ b.blocks → d0 ≡ [] → d1 ≡ d0 ++ prologue f b.params → d2 ≡ d1 ++ blocks_from f bs 0 bs → d2 ≡ drafts f b
drafted f b bs d0 d1 d2 eb e0 e1 e2 =
    e2 ∙ ap (λ (ds : List Draft). ds ++ blocks_from f bs 0 bs) (e1 ∙ ap (λ (ds : List Draft). ds ++ prologue f b.params) e0) ∙ ap (λ (ks : List FlatBlock). prologue f b.params ++ blocks_from f ks 0 ks) eb

pub headed : (f : Offsets) (b : FlatBody) (bs : List FlatBlock) (d0 d1 : List Draft) (hs : List ℕ) → bs ≡ b.blocks → d0 ≡ [] → d1 ≡ d0 ++ prologue f b.params → hs ≡ heads_from f bs 0 (length d1) bs → hs ≡ heads_from f b.blocks 0 (length (prologue f b.params)) b.blocks
headed f b bs d0 d1 hs eb e0 e1 eh =
    eh ∙ ap (λ (n : ℕ). heads_from f bs 0 n bs) (ap (λ (ds : List Draft). length ds) (e1 ∙ ap (λ (ds : List Draft). ds ++ prologue f b.params) e0)) ∙ ap (λ (ks : List FlatBlock). heads_from f ks 0 (length (prologue f b.params)) ks) eb

by_place : (end : ℕ) (n : ℕ) (hs : List ℕ) → All (λ h. h ≤ end) hs → get_or hs n end ≤ end
by_place end n hs are = by_test (nat_lt n (length hs)) refl
  where
    by_test : (b : Bool) → nat_lt n (length hs) ≡ b → get_or hs n end ≤ end
    by_test true t = are n end (grind (arith, nat_tests))
    by_test false t = let past : length hs ≤ n = grind (arith, nat_tests) in omega (arith, get_or_past hs n end past)

-- what stands in a body's code, and where its blocks begin
module _ (f : Offsets) (b : FlatBody) (ds : List Draft) (hs : List ℕ) (e : ds ≡ drafts f b) (eh : hs ≡ heads_from f b.blocks 0 (length (prologue f b.params)) b.blocks) where
  total : length ds ≡ length (prologue f b.params) + length (blocks_from f b.blocks 0 b.blocks)
  total = ap (λ (x : List Draft). length x) e ∙ length-append (prologue f b.params) (blocks_from f b.blocks 0 b.blocks)

  pub low_heads : All (λ h. h ≤ length ds) hs
  low_heads =
      let t = total in
      subst (λ (x : List ℕ). All (λ h. h ≤ length ds) x) (sym eh) (heads_low f b.blocks 0 (length (prologue f b.params)) (length ds) b.blocks (omega arith))

  pub at_head : (n : ℕ) → head_in hs (length ds) n ≡ block_head f b n
  at_head n =
      let h : get_or (heads_from f b.blocks 0 (length (prologue f b.params)) b.blocks) n (length ds) ≡ length (prologue f b.params) + length (blocks_from f b.blocks 0 (take n b.blocks)) = head_at f b.blocks 0 (length (prologue f b.params)) (length ds) n b.blocks total in
      let g : get_or hs n (length ds) ≡ get_or (heads_from f b.blocks 0 (length (prologue f b.params)) b.blocks) n (length ds) = ap (λ (x : List ℕ). get_or x n (length ds)) eh in
      g ∙ h ∙ sym (length-append (prologue f b.params) (blocks_from f b.blocks 0 (take n b.blocks)))

  pub longs_are : (ls : List Bool) → ls ≡ settled (head_in hs (length ds)) ds → ls ≡ longs f b
  longs_are ls el =
      el ∙ ap (λ (x : List Draft). settled (head_in hs (length ds)) x) e ∙ rounds_same (head_in hs (length ds)) (block_head f b) (drafts f b) (count_by is_branch (drafts f b)) (all_short (drafts f b)) at_head

  pub code_is : (ls : List Bool) (is : List Item) → ls ≡ settled (head_in hs (length ds)) ds → is ≡ items_of (head_in hs (length ds)) ls ds → is ≡ code_with f b
  code_is ls is el ei =
      ei
      ∙ items_same (λ n. place ls (head_in hs (length ds) n)) (λ n. place ls (block_head f b n)) ls 0 ds (λ n. ap (place ls) (at_head n))
      ∙ ap₂ (λ (x : List Bool) (y : List Draft). items_of (block_head f b) x y) (longs_are ls el) e

  pub choice_length : (ls : List Bool) → ls ≡ settled (head_in hs (length ds)) ds → length ls ≡ length ds
  choice_length ls el = ap (λ (x : List Bool). length x) el ∙ (choices (head_in hs (length ds)) ds (count_by is_branch ds) (all_short ds) (starts (head_in hs (length ds)) ds)).len

  pub count_is : (ls : List Bool) → ls ≡ settled (head_in hs (length ds)) ds → length ls + count_true ls ≡ length (code_with f b)
  count_is ls el =
      let chosen = choices (head_in hs (length ds)) ds (count_by is_branch ds) (all_short ds) (starts (head_in hs (length ds)) ds) in
      let len : length ls ≡ length ds = choice_length ls el in
      let among : IsWithin ls (map is_branch ds) = subst (λ (x : List Bool). IsWithin x (map is_branch ds)) (sym el) chosen.branches in
      sym (items_count (head_in hs (length ds)) ls ds len among) ∙ ap (λ (x : List Item). length x) (code_is ls (items_of (head_in hs (length ds)) ls ds) el refl)

  -- each item has a word
  pub items_are : (ls : List Bool) → ls ≡ settled (head_in hs (length ds)) ds → length ls + count_true ls ≤ 250000 → All IsDraft ds → All IsItem (items_of (head_in hs (length ds)) ls ds)
  items_are ls el few are =
      let len : length ls ≡ length ds = choice_length ls el in
      let stays : grown (head_in hs (length ds)) ds ls ≡ ls = ap (grown (head_in hs (length ds)) ds) el ∙ settled_stays (head_in hs (length ds)) ds ∙ sym el in
      all_items (head_in hs (length ds)) ls ds stays (omega (arith, len, few)) low are
    where
      low : (n : ℕ) → head_in hs (length ds) n ≤ length ds
      low n = by_place (length ds) n hs low_heads

-- ---- few arguments

pub few_arguments : (types : ℕ → Scalar) (funcs : ℕ → FuncType) (i : FlatInstr) → IsTyped types funcs i → HasFewArguments i
few_arguments types funcs (Call d g args) h = h.1
few_arguments types funcs (Bin d op w a b) h = tt
few_arguments types funcs (Icmp d c s a b) h = tt
few_arguments types funcs (Select d c a b) h = tt
few_arguments types funcs (Cast d c from to a) h = tt
few_arguments types funcs (Copy d a) h = tt
few_arguments types funcs (Alloca d size align) h = tt
few_arguments types funcs (Load d s align a) h = tt
few_arguments types funcs (Store s align v a) h = tt
few_arguments types funcs (Gep d a k ts) h = tt
few_arguments types funcs (Put d a) h = tt
few_arguments types funcs (Get d) h = tt
few_arguments types funcs (Exit a) h = tt

pub few_in_body : (b : FlatBody) → IsWellFormed b → All HasFewIn b.blocks
few_in_body b w k d lt j e within =
    few_arguments w.types w.funcs (get_or (get_or b.blocks k d).code j e) (w.formed.code k j (get_or b.blocks k d) (get_or (get_or b.blocks k d).code j e) (slice_get-get_or b.blocks k d lt) (slice_get-get_or (get_or b.blocks k d).code j e within))
