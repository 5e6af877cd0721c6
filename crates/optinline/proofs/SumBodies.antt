-- A flat body of at most so many sums and differences of words of 32 bits: its frame and its code are small, all its items are
-- instructions, and a program that begins with it is one of sums.
use Rattle.std.proofs.Common.{◌≡◌, ◌⊎◌, inl, inr, ℕ, zero, suc, ◌+◌, ◌*◌, ◌%◌, ◌<◌, ◌≤◌, refl, sym, ap, ap₂, ◌∙◌, subst, arith, Bool, true, false, if◌then◌else◌, nat_le, ◌==◌, List, [], ◌∷◌, ◌++◌, map, length, Option, Some, None, All, Contains, slice_get, pos}
use Rattle.std.specs.List.{flat_map, filter_map, cons_option, AllByRecursion as Each}
use Rattle.std.specs.Int.{next_multiple_of}
use Rattle.std.proofs.lemmas.List.{append-nil, length-append}
use Rattle.std.proofs.lemmas.List.Elements.{All-from_recursion}
use Rattle.oi_base.specs.declared.ids.RegId.{RegId}
use Rattle.oi_base.specs.declared.words.Width.TheVariants.{W1, W8, W16, W32}
use Rattle.rv_isa.specs.declared.rv.Rv.{Rv}
use Rattle.rv_isa.specs.declared.rv.Rv.TheVariants as rv
use Rattle.rv_isa.specs.Words.{InRange}
use Rattle.ir_core.specs.declared.flat.Scalar.{Scalar}
use Rattle.ir_core.specs.declared.flat.Scalar.TheVariants as scalar
use Rattle.ir_core.specs.declared.flat.BinOp.{BinOp}
use Rattle.ir_core.specs.declared.flat.BinOp.TheVariants.{Add, Sub}
use Rattle.ir_core.specs.declared.flat.FlatOp.{FlatOp}
use Rattle.ir_core.specs.declared.flat.FlatOp.TheVariants.{Reg, Word, Null, Address, Poison}
use Rattle.ir_core.specs.declared.flat.FlatInstr.{FlatInstr}
use Rattle.ir_core.specs.declared.flat.FlatInstr.TheVariants.{Bin}
use Rattle.ir_core.specs.declared.flat.FlatEnd.TheVariants.{Ret}
use Rattle.ir_core.specs.declared.flat.FlatBlock.{FlatBlock}
use Rattle.ir_core.specs.declared.flat.FlatBody.{FlatBody}
use Rattle.ir_core.specs.Flat.{Program}
use Rattle.ir_core.specs.Formed.{FuncType, HasType, IsTyped, IsBlock, IsParamOrWritten, IsFormedBody, ReturnsType, written_by, used_by, used_at_end, all_writes, all_uses}
use Rattle.ir_core.specs.WellFormed.{IsWellFormed}
use Rattle.ir_core.proofs.Lists.{Has, has_in, at_has, all_at, has_left, has_right, has_part, has_source, each_of, each_from}
use Rattle.frame_layout.specs.Offsets.{Offsets, slot_of, place_of}
use Rattle.frame_layout.specs.declared.laying.TheConstants.{LARGEST_FRAME}
use Rattle.frame_layout.specs.declared.parts.Part.{Part}
use Rattle.frame_layout.specs.Parts.{slot_part, alloca_part, parts, end_of_all}
use Rattle.frame_layout.specs.Frame.{frame, frame_of}
use Rattle.frame_layout.specs.Laws.{HasInstr, IsNoAlloca, HaveHomes}
use Rattle.frame_layout.proofs.HomeLaws.{have_homes}
use Rattle.rv_select.specs.declared.item.Item.{Item}
use Rattle.rv_select.specs.declared.item.Item.TheVariants as items
use Rattle.rv_select.specs.declared.item.Draft.{Draft}
use Rattle.rv_select.specs.declared.selecting.TheConstants.{LARGEST_CODE}
use Rattle.rv_select.specs.Branches.{place}
use Rattle.rv_select.specs.Parts.{zero_register, ra, sp, t0, t1, a0, hi, lo, machine_op, load_word, load_slot, store_slot, load_home, frame_down, frame_up, open_frame, epilogue, is_short}
use Rattle.rv_select.specs.Pending.{word, words, items_from}
use Rattle.rv_select.specs.Lowered as lowered
use Rattle.rv_select.specs.Lowered.{load, load_register, load_from, store, store_to, instr, head, before_end, end_code, blocks_from, keep_parameters, prologue}
use Rattle.rv_select.specs.Code.{drafts, block_head, longs, code, code_bytes}
use Rattle.optinline.proofs.Ranges.{none as no_instructions, one, both, word_ranges, slot_ranges, home_ranges, store_ranges, open_ranges, epilogue_ranges}
use Rattle.rv_select.specs.Sums.{HasSlot, IsPlain, IsSum, IsSums}

-- ---- the form

abbrev pub IsNoAddress : FlatOp → Type 0
IsNoAddress (Address g k) = ⊥
IsNoAddress o = Unit {0}

-- a sum or a difference of words of 32 bits
pub record IsAddition (i : FlatInstr) : Type 0 where
  pub reg : RegId
  pub op : BinOp
  pub left : FlatOp
  pub right : FlatOp
  pub is : i ≡ Bin reg op W32 left right
  pub adds : (op ≡ Add) ⊎ (op ≡ Sub)
  pub left_free : IsNoAddress left
  pub right_free : IsNoAddress right

pub record IsSumBody (most : ℕ) (b : FlatBody) : Type 0 where
  pub code : List FlatInstr
  pub value : FlatOp
  pub params : b.params ≡ 0
  pub blocks : b.blocks ≡ record { phis = []; code = code; end = Ret (Some value) } ∷ []
  pub sums : Each IsAddition code
  pub returned : IsNoAddress value
  pub few : length code ≤ most

all_has : {A : Type 0} (P : A → Type 0) (xs : List A) (x : A) → All P xs → Has xs x → P x
all_has P xs x all h = let at = at_has xs x h in all_at P xs at.0 x all at.1

all_from_has : {A : Type 0} (P : A → Type 0) (xs : List A) → ((x : A) → Has xs x → P x) → All P xs
all_from_has P xs h = All-from_recursion P xs (each_from P xs h)

-- ---- the frame

no_alloca : (code : List FlatInstr) → Each IsAddition code → filter_map alloca_part code ≡ []
no_alloca [] h = refl
no_alloca (i ∷ is) h = ap₂ (λ (o : Option Part) (ps : List Part). cons_option o ps) (ap alloca_part h.0.is) (no_alloca is h.1)

slots_end_at : (at : ℕ) (code : List FlatInstr) → Each IsAddition code → end_of_all at (filter_map slot_part code) ≡ at + 4 * length code
slots_end_at at [] h = omega arith
slots_end_at at (i ∷ is) h =
    ap (λ (o : Option Part). end_of_all at (cons_option o (filter_map slot_part is))) (ap slot_part h.0.is) ∙ slots_end_at (at + 4) is h.1 ∙ omega arith

module _ (most : ℕ) (b : FlatBody) (form : IsSumBody most b) where
  abbrev block : FlatBlock
  block = record { phis = []; code = form.code; end = Ret (Some form.value) }

  abbrev one_block : ℕ → FlatBody
  one_block regs = record { params = 0; regs = regs; blocks = block ∷ [] }

  body_is : b ≡ one_block b.regs
  body_is = ap₂ (λ (n : ℕ) (bs : List FlatBlock). record { params = n; regs = b.regs; blocks = bs }) form.params form.blocks

  parts_are : parts b ≡ filter_map slot_part form.code
  parts_are =
      ap parts body_is
      ∙ ap (λ (ps : List Part). (filter_map slot_part form.code ++ []) ++ (ps ++ [])) (no_alloca form.code form.sums)
      ∙ append-nil (filter_map slot_part form.code ++ []) ∙ append-nil (filter_map slot_part form.code)

  pub frame_at_most : frame b ≤ 4 * most + 32
  unfolding frame
  frame_at_most =
      let end : end_of_all 4 (parts b) ≡ 4 + 4 * length form.code = ap (end_of_all 4) parts_are ∙ slots_end_at 4 form.code form.sums in
      let few = form.few in
      omega (arith, end, few)

-- ---- the code

-- these drafts are instructions, at most so many
record AreWords (most : ℕ) (ds : List Draft) : Type 0 where
  code : List Rv
  same : ds ≡ words code
  few : length code ≤ most
  ranges : All InRange code

words_joined : (xs ys : List Rv) → words (xs ++ ys) ≡ words xs ++ words ys
words_joined [] ys = refl
words_joined (x ∷ xs) ys = ap (λ (ds : List Draft). word x ∷ ds) (words_joined xs ys)

joined : (m n : ℕ) (ds es : List Draft) → AreWords m ds → AreWords n es → AreWords (m + n) (ds ++ es)
joined m n ds es h k =
    let l = length-append h.code k.code in
    let a = h.few in
    let b = k.few in
    record { code = h.code ++ k.code; same = ap₂ (λ (x y : List Draft). x ++ y) h.same k.same ∙ sym (words_joined h.code k.code); few = omega (arith, l, a, b); ranges = both h.code k.code h.ranges k.ranges }

these : (m : ℕ) (code : List Rv) → length code ≤ m → All InRange code → AreWords m (words code)
these m code h k = record { code = code; same = refl; few = h; ranges = k }

none : AreWords 0 []
none = these 0 [] (omega arith) no_instructions

more : (m n : ℕ) (ds : List Draft) → m ≤ n → AreWords m ds → AreWords n ds
more m n ds le h = let few = h.few in record { code = h.code; same = h.same; few = omega (arith, few, le); ranges = h.ranges }

either : (n : ℕ) (t : Bool) (xs ys : List Rv) → length xs ≤ n → length ys ≤ n → length (if t then xs else ys) ≤ n
either n true xs ys h k = h
either n false xs ys h k = k

load_word_short : (r w : ℕ) → length (load_word r w) ≤ 3
unfolding load_word
load_word_short r w =
    let low = if w % 4096 == 0 then [] else rv.Addi r r (lo w) ∷ [] in
    let l = either 1 (w % 4096 == 0) [] (rv.Addi r r (lo w) ∷ []) (omega arith) (omega arith) in
    either 3 (is_short w) (rv.Addi r zero_register (lo w) ∷ []) (rv.Lui r (hi w) ∷ low) (omega arith) (omega (arith, l))

load_slot_short : (r o : ℕ) → length (load_slot r o) ≤ 3
unfolding load_slot
load_slot_short r o = either 3 (nat_le o 2047) _ _ (omega arith) (omega arith)

store_slot_short : (r o : ℕ) → length (store_slot r o) ≤ 3
unfolding store_slot
store_slot_short r o = either 3 (nat_le o 2047) _ _ (omega arith) (omega arith)

load_home_short : (r o : ℕ) → length (load_home r o) ≤ 3
unfolding load_home
load_home_short r o = either 3 (nat_le o 2047) _ _ (omega arith) (omega arith)

frame_down_short : (n : ℕ) → length (frame_down n) ≤ 3
unfolding frame_down
frame_down_short n = either 3 (nat_le n 2032) _ _ (omega arith) (omega arith)

frame_up_short : (n : ℕ) → length (frame_up n) ≤ 3
unfolding frame_up
frame_up_short n = either 3 (nat_le n 2032) _ _ (omega arith) (omega arith)

load_from_short : (r : ℕ) (o : Option ℕ) → r < 32 → AreWords 3 (load_from r o)
load_from_short r None low = these 3 [] (omega arith) no_instructions
load_from_short r (Some o) low = these 3 (load_slot r o) (load_slot_short r o) (slot_ranges r o low)

load_register_short : (r : ℕ) (o q : Option ℕ) → r < 32 → AreWords 3 (load_register r o q)
load_register_short r (Some o) q low = these 3 (load_home r o) (load_home_short r o) (home_ranges r o low)
load_register_short r None q low = load_from_short r q low

load_short : (f : Offsets) (r : ℕ) (o : FlatOp) → r < 32 → IsNoAddress o → AreWords 3 (load f r o)
load_short f r (Reg q) low h = load_register_short r (place_of f q.0) (slot_of f q.0) low
load_short f r (Word w) low h = these 3 (load_word r w) (load_word_short r w) (word_ranges r w low)
load_short f r Null low h = these 3 (load_word r 0) (load_word_short r 0) (word_ranges r 0 low)
load_short f r Poison low h = these 3 (load_word r 0) (load_word_short r 0) (word_ranges r 0 low)
load_short f r (Address g k) low h = absurd h

store_to_short : (r : ℕ) (o : Option ℕ) → r < 32 → AreWords 3 (store_to r o)
store_to_short r None low = these 3 [] (omega arith) no_instructions
store_to_short r (Some o) low = these 3 (store_slot r o) (store_slot_short r o) (store_ranges r o low)

-- both operands, one instruction, and the result
sum_short : (f : Offsets) (i : Rv) (d : RegId) (a c : FlatOp) → InRange i → IsNoAddress a → IsNoAddress c → AreWords 10 (load f t0 a ++ load f t1 c ++ [] ++ (word i ∷ []) ++ [] ++ store f t0 d)
sum_short f i d a c range ha hc =
    let both = joined 3 3 (load f t0 a) (load f t1 c) (load_short f t0 a (omega arith) ha) (load_short f t1 c (omega arith) hc) in
    let three = joined (3 + 3) 0 (load f t0 a ++ load f t1 c) [] both none in
    let four = joined (3 + 3 + 0) 1 (load f t0 a ++ load f t1 c ++ []) (word i ∷ []) three (these 1 (i ∷ []) (omega arith) (one i range)) in
    let five = joined (3 + 3 + 0 + 1) 0 (load f t0 a ++ load f t1 c ++ [] ++ (word i ∷ [])) [] four none in
    more (3 + 3 + 0 + 1 + 0 + 3) 10 _ (omega arith) (joined (3 + 3 + 0 + 1 + 0) 3 (load f t0 a ++ load f t1 c ++ [] ++ (word i ∷ []) ++ []) (store f t0 d) five (store_to_short t0 (slot_of f d.0) (omega arith)))

instr_short : (f : Offsets) (i : FlatInstr) → IsAddition i → AreWords 10 (instr f i)
instr_short f i h = subst (λ (x : FlatInstr). AreWords 10 (instr f x)) (sym h.is) (by h.op h.adds)
  where
    by : (op : BinOp) → (op ≡ Add) ⊎ (op ≡ Sub) → AreWords 10 (instr f (Bin h.reg op W32 h.left h.right))
    by op (inl e) = subst (λ (o : BinOp). AreWords 10 (instr f (Bin h.reg o W32 h.left h.right))) (sym e) (sum_short f (machine_op Add) h.reg h.left h.right (omega arith, omega arith, omega arith) h.left_free h.right_free)
    by op (inr e) = subst (λ (o : BinOp). AreWords 10 (instr f (Bin h.reg o W32 h.left h.right))) (sym e) (sum_short f (machine_op Sub) h.reg h.left h.right (omega arith, omega arith, omega arith) h.left_free h.right_free)

code_short : (f : Offsets) (code : List FlatInstr) → Each IsAddition code → AreWords (10 * length code) (flat_map (instr f) code)
code_short f [] h = none
code_short f (i ∷ is) h = more (10 + 10 * length is) (10 * length (i ∷ is)) _ (omega arith) (joined 10 (10 * length is) (instr f i) (flat_map (instr f) is) (instr_short f i h.0) (code_short f is h.1))

open_short : (n : ℕ) → length (open_frame n) ≤ 4
open_short n = let l = frame_down_short n in let e = length-append (frame_down n) (rv.Sw sp ra (pos 0) ∷ []) in omega (arith, l, e)

epilogue_short : (n : ℕ) → length (epilogue n) ≤ 5
epilogue_short n = let l = frame_up_short n in let e = length-append (frame_up n) (rv.Jalr zero_register ra (pos 0) ∷ []) in omega (arith, l, e)

-- what the drafts of instructions become
items_are : (places : ℕ → ℕ) (longs : List Bool) (k : ℕ) (code : List Rv) → items_from places longs k (words code) ≡ map (λ (i : Rv). items.Word i) code
items_are places longs k [] = refl
items_are places longs k (i ∷ is) = ap (λ (rest : List Item). items.Word i ∷ rest) (items_are places longs (k + 1) is)

module _ (most : ℕ) (b : FlatBody) (form : IsSumBody most b) where
  drafts_short : (f : Offsets) → AreWords (10 * most + 12) (drafts f b)
  drafts_short f =
      let few = form.few in
      let n = 10 * length form.code in
      let k = block most b form in
      let v = load f a0 form.value in
      let last = joined 3 5 v (words (epilogue f.bytes)) (load_short f a0 form.value (omega arith) form.returned) (these 5 (epilogue f.bytes) (epilogue_short f.bytes) (epilogue_ranges f.bytes)) in
      let early = joined 0 n (head f k.phis) (flat_map (instr f) k.code) none (code_short f form.code form.sums) in
      let middle = joined (0 + n) 0 (head f k.phis ++ flat_map (instr f) k.code) (before_end f (k ∷ []) 0 k.end) early none in
      let all = joined (0 + n + 0) (3 + 5) (head f k.phis ++ flat_map (instr f) k.code ++ before_end f (k ∷ []) 0 k.end) (end_code f 0 k.end) middle last in
      let body = joined (0 + n + 0 + (3 + 5)) 0 (lowered.block f (k ∷ []) 0 k) [] all none in
      let first = joined 4 0 (words (open_frame f.bytes)) (keep_parameters f 0) (these 4 (open_frame f.bytes) (open_short f.bytes) (open_ranges f.bytes)) none in
      let whole = joined (4 + 0) (0 + n + 0 + (3 + 5) + 0) (prologue f 0) (blocks_from f (k ∷ []) 0 (k ∷ [])) first body in
      subst (AreWords (10 * most + 12)) (sym (ap (drafts f) (body_is most b form)))
      (more (4 + 0 + (0 + n + 0 + (3 + 5) + 0)) (10 * most + 12) _ (omega (arith, few)) whole)

  -- its code is instructions alone, and small
  pub code_is_words : (instructions : List Rv) × (code b ≡ map (λ (i : Rv). items.Word i) instructions) × (length instructions ≤ 10 * most + 12) × All InRange instructions
  unfolding code
  code_is_words =
      let f = frame_of b in
      let d = drafts_short f in
      let places = λ (n : ℕ). place (longs f b) (block_head f b n) in
      (d.code, ap (λ (ds : List Draft). items_from places (longs f b) 0 ds) d.same ∙ items_are places (longs f b) 0 d.code, d.few, d.ranges)

  -- ---- what its operands are

  module _ (w : IsWellFormed b) where
    block_at : IsBlock b 0 (block most b form)
    block_at = ap (λ (bs : List FlatBlock). slice_get bs 0) form.blocks

    has : (i : FlatInstr) → Has form.code i → HasInstr b i
    has i h = let at = at_has form.code i h in (0, at.0, block most b form, block_at, at.1)

    addition_is : (i : FlatInstr) → IsAddition i → IsNoAlloca i
    addition_is i h = subst IsNoAlloca (sym h.is) tt

    -- the result of an addition has a slot
    result_slot : (i : FlatInstr) → Has form.code i → (r : ℕ) → written_by i ≡ Some r → HasSlot b r
    result_slot i h r e = (have_homes b w).results i r (has i h) (addition_is i (each_of IsAddition form.code i form.sums h)) e

    writes_are : all_writes b ≡ filter_map written_by form.code
    writes_are = ap all_writes (body_is most b form) ∙ append-nil (filter_map written_by form.code)

    register_slot : (q : ℕ) → (q < b.params) ⊎ Contains (all_writes b) q → HasSlot b q
    register_slot q (inl lt) = let none = form.params in absurd (omega (arith, lt, none))
    register_slot q (inr c) =
        let at = has_source written_by form.code q (has_in (filter_map written_by form.code) q (subst (λ (rs : List ℕ). Contains rs q) writes_are c)) in
        result_slot at.0 at.1 q at.2

    plain : (o : FlatOp) → IsNoAddress o → IsParamOrWritten b o → HasType w.types o (scalar.Word W32) → IsPlain b o
    plain (Reg q) free known typed = register_slot q.0 known
    plain (Word n) free known typed = typed
    plain Null free known typed = tt
    plain Poison free known typed = tt
    plain (Address g k) free known typed = absurd free

    used : All (IsParamOrWritten b) (flat_map used_by form.code ++ form.value ∷ [])
    used =
        let all : All (IsParamOrWritten b) (all_uses b) = w.formed.used in
        let uses_are : all_uses b ≡ flat_map used_by form.code ++ form.value ∷ [] = ap all_uses (body_is most b form) ∙ append-nil (flat_map used_by form.code ++ form.value ∷ []) in
        subst (All (IsParamOrWritten b)) uses_are all

    used_at : (i : FlatInstr) (o : FlatOp) → Has form.code i → Has (used_by i) o → IsParamOrWritten b o
    used_at i o h k =
        let uses = flat_map used_by form.code ++ form.value ∷ [] in
        all_has (IsParamOrWritten b) uses o used (has_left (flat_map used_by form.code) (form.value ∷ []) o (has_part used_by form.code i o h k))

    typed_at : (i : FlatInstr) → Has form.code i → IsTyped w.types w.funcs i
    typed_at i h = let at = at_has form.code i h in w.formed.code 0 at.0 (block most b form) i block_at at.1

    sum_of : (i : FlatInstr) → Has form.code i → IsSum b i
    sum_of i h = by (each_of IsAddition form.code i form.sums h)
      where
        by : IsAddition i → IsSum b i
        by a =
            let typed = subst (IsTyped w.types w.funcs) a.is (typed_at i h) in
            let used : (o : FlatOp) → Has (a.left ∷ a.right ∷ []) o → IsParamOrWritten b o = subst (λ (x : FlatInstr). (o : FlatOp) → Has (used_by x) o → IsParamOrWritten b o) a.is (λ o. used_at i o h) in
            let left = plain a.left a.left_free (used a.left (inl refl)) typed.1 in
            let right = plain a.right a.right_free (used a.right (inr (inl refl))) typed.2 in
            let slot = result_slot i h a.reg.0 (ap written_by a.is) in
            subst (IsSum b) (sym a.is) (by_op a.op a.adds (left, right, slot))
          where
            by_op : (op : BinOp) → (op ≡ Add) ⊎ (op ≡ Sub) → IsPlain b a.left × IsPlain b a.right × HasSlot b a.reg.0 → IsSum b (Bin a.reg op W32 a.left a.right)
            by_op op (inl e) all = subst (λ (o : BinOp). IsSum b (Bin a.reg o W32 a.left a.right)) (sym e) all
            by_op op (inr e) all = subst (λ (o : BinOp). IsSum b (Bin a.reg o W32 a.left a.right)) (sym e) all

    returned_plain : (result : w.own.result ≡ Some (scalar.Word W32)) → IsPlain b form.value
    returned_plain result =
        let typed : ReturnsType w.types w.own.result (Some form.value) = w.formed.ends 0 (block most b form) block_at in
        let uses = flat_map used_by form.code ++ form.value ∷ [] in
        plain form.value form.returned
        (all_has (IsParamOrWritten b) uses form.value used (has_right (flat_map used_by form.code) (form.value ∷ []) form.value (inl refl)))
        (subst (λ (r : Option Scalar). ReturnsType w.types r (Some form.value)) result typed)

    pub sums_are : (p : Program) → p.body p.main ≡ Some b → w.own.result ≡ Some (scalar.Word W32) → IsSums p
    sums_are p is result = record {
      code = form.code;
      value = form.value;
      body = b;
      is_body = is;
      no_parameters = form.params;
      one_block = form.blocks;
      sums = all_from_has (IsSum b) form.code sum_of;
      returned = returned_plain result;
    }
