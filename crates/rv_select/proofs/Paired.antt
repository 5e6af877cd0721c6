-- The halves of calls stand in pairs.
use Rattle.std.proofs.Common.{◌≡◌, ℕ, zero, suc, ◌+◌, ◌==◌, Bool, true, false, nat_eq, if◌then◌else◌, List, [], ◌∷◌, ◌++◌, refl, sym, ap, ◌∙◌, arith}
use Rattle.std.specs.Prelude.{Option, Some, None, slice_get}
use Rattle.std.specs.List.{flat_map}
use Rattle.oi_base.specs.declared.ids.FuncId.{FuncId}
use Rattle.oi_base.specs.declared.ids.BlockId.{BlockId}
use Rattle.oi_base.specs.declared.ids.RegId.{RegId}
use Rattle.rv_isa.specs.declared.rv.Rv.{Rv}
use Rattle.rv_isa.specs.declared.rv.Rv.TheVariants as rv
use Rattle.ir_core.specs.declared.flat.FlatOp.{FlatOp}
use Rattle.ir_core.specs.declared.flat.FlatOp.TheVariants as operand
use Rattle.ir_core.specs.declared.flat.Term.{Term}
use Rattle.ir_core.specs.declared.flat.Case.{Case}
use Rattle.ir_core.specs.declared.flat.Phi.{Phi}
use Rattle.ir_core.specs.declared.flat.FlatInstr.{FlatInstr}
use Rattle.ir_core.specs.declared.flat.FlatInstr.TheVariants.{Bin, Icmp, Select, Cast, Copy, Alloca, Load, Store, Gep, Call, Put, Get, Exit}
use Rattle.ir_core.specs.declared.flat.FlatEnd.{FlatEnd}
use Rattle.ir_core.specs.declared.flat.FlatEnd.TheVariants.{Ret, Br, Cond, Switch, Unreachable}
use Rattle.ir_core.specs.declared.flat.FlatBlock.{FlatBlock}
use Rattle.ir_core.specs.declared.flat.FlatBody.{FlatBody}
use Rattle.ir_core.specs.Flat.{entry_for}
use Rattle.frame_layout.specs.Offsets.{Offsets, slot_of, shadow_of, place_of}
use Rattle.frame_layout.specs.Frame.{frame_of}
use Rattle.rv_select.specs.declared.item.Item.{Item}
use Rattle.rv_select.specs.declared.item.Item.TheVariants.{Word, CallHigh, CallLow, AddressHigh, AddressLow}
use Rattle.rv_select.specs.declared.item.Test.{Test}
use Rattle.rv_select.specs.declared.item.Draft.{Draft}
use Rattle.rv_select.specs.declared.item.Draft.TheVariants.{Fixed, Jump, Near}
use Rattle.rv_select.specs.Parts.{t0, t1, t2, a0, load_word, load_slot, store_slot, load_home, open_frame, epilogue, sign_extend, signs, machine_op, cuts}
use Rattle.rv_select.specs.Branches.{is_long, place}
use Rattle.rv_select.specs.Pending.{words, branch_items, items_from}
use Rattle.rv_select.specs.Lowered.{load_from, store_to, load_register, load, store, store_result, width_of, compared, test, choice, converted, fetched, put_down, term, constant_part, arguments, environment_call, instr, take_phi, load_entry, give_phi, phis_of, give_phis, successors, jump, case_code, load_value, end_code, block, blocks_from, keep_parameters}
use Rattle.rv_select.specs.Code.{drafts, block_head, longs, code, ArePaired}

-- no half of a call
abbrev IsWhole : Item → Type 0
IsWhole (Word i) = Unit {0}
IsWhole (CallHigh f) = ⊥
IsWhole (CallLow f) = ⊥
IsWhole (AddressHigh r g k) = Unit {0}
IsWhole (AddressLow r g k) = Unit {0}

data Paired : List Item → Type 0 where
  none : Paired []
  call : {is : List Item} (f : FuncId) → Paired is → Paired (CallHigh f ∷ CallLow f ∷ is)
  whole : {is : List Item} (i : Item) → IsWhole i → Paired is → Paired (i ∷ is)

not_high : (i : Item) (f : FuncId) → IsWhole i → Some i ≡ Some (CallHigh f) → ⊥
not_high (Word i) f w e = cc
not_high (AddressHigh r g k) f w e = cc
not_high (AddressLow r g k) f w e = cc
not_high (CallHigh g) f w e = w
not_high (CallLow g) f w e = w

not_low : (i : Item) (f : FuncId) → IsWhole i → Some i ≡ Some (CallLow f) → ⊥
not_low (Word i) f w e = cc
not_low (AddressHigh r g k) f w e = cc
not_low (AddressLow r g k) f w e = cc
not_low (CallHigh g) f w e = w
not_low (CallLow g) f w e = w

high_at : {is : List Item} → Paired is → (k : ℕ) (f : FuncId) → slice_get is k ≡ Some (CallHigh f) → slice_get is (suc k) ≡ Some (CallLow f)
high_at none k f e = absurd (nothing k e)
  where
    nothing : (k : ℕ) → slice_get {X = Item} [] k ≡ Some (CallHigh f) → ⊥
    nothing k e = cc
high_at (call g p) zero f e = cc
high_at (call g p) (suc zero) f e = absurd (low_is_no_high e)
  where
    low_is_no_high : Some (CallLow g) ≡ Some (CallHigh f) → ⊥
    low_is_no_high e = cc
high_at (call g p) (suc (suc k)) f e = high_at p k f e
high_at (whole i w p) zero f e = absurd (not_high i f w e)
high_at (whole i w p) (suc k) f e = high_at p k f e

-- a low half, and the place before it
record HasHigh (is : List Item) (k : ℕ) (f : FuncId) : Type 0 where
  j : ℕ
  next : k ≡ suc j
  there : slice_get is j ≡ Some (CallHigh f)

later : (is : List Item) (i : Item) (k : ℕ) (f : FuncId) → HasHigh is k f → HasHigh (i ∷ is) (suc k) f
later is i k f h = record { j = suc h.j; next = ap (λ (n : ℕ). suc n) h.next; there = h.there }

low_at : {is : List Item} → Paired is → (k : ℕ) (f : FuncId) → slice_get is k ≡ Some (CallLow f) → HasHigh is k f
low_at none k f e = absurd (nothing k e)
  where
    nothing : (k : ℕ) → slice_get {X = Item} [] k ≡ Some (CallLow f) → ⊥
    nothing k e = cc
low_at (call g p) zero f e = absurd (high_is_no_low e)
  where
    high_is_no_low : Some (CallHigh g) ≡ Some (CallLow f) → ⊥
    high_is_no_low e = cc
low_at (call g p) (suc zero) f e = record { j = 0; next = refl; there = cc }
low_at (call {is} g p) (suc (suc k)) f e = later (CallLow g ∷ is) (CallHigh g) (suc k) f (later is (CallLow g) k f (low_at p k f e))
low_at (whole i w p) zero f e = absurd (not_low i f w e)
low_at (whole {is} i w p) (suc k) f e = later is i k f (low_at p k f e)

are_paired : (is : List Item) → Paired is → ArePaired is
are_paired is p = record {
  high = λ k f e. let next : suc k ≡ k + 1 = omega arith in ap (slice_get is) (sym next) ∙ high_at p k f e;
  low = λ k f e. let h = low_at p k f e in (h.j, let next : k ≡ h.j + 1 = omega (arith, h.next) in next, h.there);
}

-- ---- of drafts

data InPairs : List Draft → Type 0 where
  none : InPairs []
  call : {ds : List Draft} (f : FuncId) → InPairs ds → InPairs (Fixed (CallHigh f) ∷ Fixed (CallLow f) ∷ ds)
  fixed : {ds : List Draft} (i : Item) → IsWhole i → InPairs ds → InPairs (Fixed i ∷ ds)
  jump_to : {ds : List Draft} (b : BlockId) → InPairs ds → InPairs (Jump b ∷ ds)
  near : {ds : List Draft} (t : Test) (r q : ℕ) (b : BlockId) → InPairs ds → InPairs (Near t r q b ∷ ds)

branch_paired : (long : Bool) (t : Test) (r q at to : ℕ) (is : List Item) → Paired is → Paired (branch_items long t r q at to ++ is)
branch_paired false t r q at to is p = whole _ tt p
branch_paired true t r q at to is p = whole _ tt (whole _ tt p)

items_paired : (places : ℕ → ℕ) (ls : List Bool) {ds : List Draft} → InPairs ds → (k : ℕ) → Paired (items_from places ls k ds)
items_paired places ls none k = none
items_paired places ls (call f p) k = call f (items_paired places ls p (k + 1 + 1))
items_paired places ls (fixed i w p) k = whole i w (items_paired places ls p (k + 1))
items_paired places ls (jump_to b p) k = whole _ tt (items_paired places ls p (k + 1))
items_paired places ls (near {ds} t r q b p) k = branch_paired (is_long ls k) t r q (place ls k) (places b.0) (items_from places ls (k + 1) ds) (items_paired places ls p (k + 1))

join : {xs ys : List Draft} → InPairs xs → InPairs ys → InPairs (xs ++ ys)
join none h = h
join (call f p) h = call f (join p h)
join (fixed i w p) h = fixed i w (join p h)
join (jump_to b p) h = jump_to b (join p h)
join (near t r q b p) h = near t r q b (join p h)

either : (b : Bool) {xs ys : List Draft} → InPairs xs → InPairs ys → InPairs (if b then xs else ys)
either true p q = p
either false p q = q

each : {X : Type 0} (g : X → List Draft) → ((x : X) → InPairs (g x)) → (xs : List X) → InPairs (flat_map g xs)
each g h [] = none
each g h (x ∷ xs) = join (h x) (each g h xs)

plain : (is : List Rv) → InPairs (words is)
plain [] = none
plain (i ∷ is) = fixed (Word i) tt (plain is)

-- ---- each row

loads_from : (r : ℕ) (o : Option ℕ) → InPairs (load_from r o)
loads_from r None = none
loads_from r (Some o) = plain (load_slot r o)

stores_to : (r : ℕ) (o : Option ℕ) → InPairs (store_to r o)
stores_to r None = none
stores_to r (Some o) = plain (store_slot r o)

loads_register : (r : ℕ) (o slot : Option ℕ) → InPairs (load_register r o slot)
loads_register r (Some o) slot = plain (load_home r o)
loads_register r None slot = loads_from r slot

loads : (f : Offsets) (r : ℕ) (o : FlatOp) → InPairs (load f r o)
loads f r (operand.Reg q) = loads_register r (place_of f q.0) (slot_of f q.0)
loads f r (operand.Word w) = plain (load_word r w)
loads f r operand.Null = plain (load_word r 0)
loads f r operand.Poison = plain (load_word r 0)
loads f r (operand.Address g k) = fixed (AddressHigh r g k) tt (fixed (AddressLow r g k) tt none)

stores : (f : Offsets) (r : ℕ) (d : RegId) → InPairs (store f r d)
stores f r d = stores_to r (slot_of f d.0)

stores_result : (f : Offsets) (d : Option RegId) → InPairs (store_result f d)
stores_result f None = none
stores_result f (Some d) = stores f a0 d

terms : (f : Offsets) (t : Term) → InPairs (term f t)
terms f t = join (join (join (loads f t1 t.operand) (plain (sign_extend t.width t1))) (either (t.stride == 1) none (join (plain (load_word t2 t.stride)) (plain (rv.Mul t1 t1 t2 ∷ []))))) (plain (rv.Add t0 t0 t1 ∷ []))

constants : (k : ℕ) → InPairs (constant_part k)
constants k = either (k == 0) none (join (plain (load_word t1 k)) (plain (rv.Add t0 t0 t1 ∷ [])))

all_arguments : (f : Offsets) (n : ℕ) (os : List FlatOp) → InPairs (arguments f n os)
all_arguments f n [] = none
all_arguments f n (o ∷ os) = join (loads f (a0 + n) o) (all_arguments f (n + 1) os)

instrs : (f : Offsets) (i : FlatInstr) → InPairs (instr f i)
instrs f (Bin d op w a b) = join (join (join (join (join (loads f t0 a) (loads f t1 b)) (plain (signs op w))) (plain (machine_op op ∷ []))) (plain (cuts op w))) (stores f t0 d)
instrs f (Icmp d c s a b) = join (join (join (join (loads f t0 a) (loads f t1 b)) (plain (compared c (width_of s)))) (plain (test c))) (stores f t0 d)
instrs f (Select d c a b) = join (join (join (join (loads f t0 c) (loads f t1 a)) (loads f t2 b)) (plain choice)) (stores f t1 d)
instrs f (Cast d c from to a) = join (join (loads f t0 a) (plain (converted c from to))) (stores f t0 d)
instrs f (Copy d a) = join (loads f t0 a) (stores f t0 d)
instrs f (Alloca d size align) = none
instrs f (Load d s align a) = join (join (loads f t0 a) (plain (fetched s ∷ []))) (stores f t0 d)
instrs f (Store s align v a) = join (join (loads f t0 v) (loads f t1 a)) (plain (put_down s ∷ []))
instrs f (Gep d a k ts) = join (join (join (loads f t0 a) (each (term f) (terms f) ts)) (constants k)) (stores f t0 d)
instrs f (Call d g args) = join (join (all_arguments f 0 args) (call g none)) (stores_result f d)
instrs f (Put d a) = join (join (loads f a0 a) (plain (environment_call 1))) (stores_result f d)
instrs f (Get d) = join (plain (environment_call 2)) (stores_result f d)
instrs f (Exit a) = join (loads f a0 a) (plain (environment_call 3))

takes : (f : Offsets) (p : Phi) → InPairs (take_phi f p)
takes f p = join (loads_from t0 (shadow_of f p.reg.0)) (stores f t0 p.reg)

loads_entry : (f : Offsets) (o : Option FlatOp) → InPairs (load_entry f o)
loads_entry f None = none
loads_entry f (Some o) = loads f t0 o

gives : (f : Offsets) (n : ℕ) (p : Phi) → InPairs (give_phi f n p)
gives f n p = join (loads_entry f (entry_for n p.entries)) (stores_to t0 (shadow_of f p.reg.0))

jumps : (n : ℕ) (b : BlockId) → InPairs (jump n b)
jumps n b = either (nat_eq b.0 (n + 1)) none (jump_to b none)

cases : (c : Case) → InPairs (case_code c)
cases c = join (plain (load_word t1 c.word)) (near _ _ _ c.to none)

values : (f : Offsets) (o : Option FlatOp) → InPairs (load_value f o)
values f None = none
values f (Some o) = loads f a0 o

ends : (f : Offsets) (n : ℕ) (e : FlatEnd) → InPairs (end_code f n e)
ends f n (Ret v) = join (values f v) (plain (epilogue f.bytes))
ends f n (Br b) = jumps n b
ends f n (Cond c t e) = join (loads f t0 c) (either (nat_eq t.0 (n + 1)) (near _ _ _ e none) (near _ _ _ t (jumps n e)))
ends f n (Switch v w cs other) = join (join (loads f t0 v) (each case_code cases cs)) (jumps n other)
ends f n Unreachable = plain (rv.Ebreak ∷ [])

blocks : (f : Offsets) (all : List FlatBlock) (n : ℕ) (ks : List FlatBlock) → InPairs (blocks_from f all n ks)
blocks f all n [] = none
blocks f all n (k ∷ ks) = join whole_block (blocks f all (n + 1) ks)
  where
    given : (to : ℕ) → InPairs (give_phis f all n to)
    given to = each (give_phi f n) (gives f n) (phis_of (slice_get all to))

    whole_block : InPairs (block f all n k)
    whole_block = join (join (join (each (take_phi f) (takes f) k.phis) (each (instr f) (instrs f) k.code)) (each (give_phis f all n) given (successors k.end))) (ends f n k.end)

parameters : (f : Offsets) (n : ℕ) → InPairs (keep_parameters f n)
parameters f zero = none
parameters f (suc n) = join (parameters f n) (stores f (a0 + n) (record { 0 = n }))

all_drafts : (f : Offsets) (b : FlatBody) → InPairs (drafts f b)
all_drafts f b = join (join (plain (open_frame f.bytes)) (parameters f b.params)) (blocks f b.blocks 0 b.blocks)

pub code_paired : (b : FlatBody) → ArePaired (code b)
unfolding code
code_paired b = are_paired _ (items_paired (λ n. place (longs (frame_of b) b) (block_head (frame_of b) b n)) (longs (frame_of b) b) (all_drafts (frame_of b) b) 0)
