-- A program follows itself once one block of one function is merged into its only predecessor.
use Rattle.std.proofs.Common.{◌≡◌, ◌≢◌, ◌⊎◌, inl, inr, ⊎_elim, ℕ, zero, suc, ◌+◌, ◌<◌, ◌≤◌, Bool, true, false, ◌&&◌, nat_eq, nat_le, if◌then◌else◌, List, [], ◌∷◌, ◌++◌, map, length, Option, Some, None, slice_get, slice_set, refl, sym, ap, ap₂, ◌∙◌, subst, append_assoc, arith}
use Rattle.std.specs.List.{AllByRecursion as Each}
use Rattle.std.proofs.lemmas.Bool.Decides.{nat_tests}
use Rattle.std.proofs.lemmas.Option.{none-some, same_Some, slice_get_within, slice_get_cases}
use Rattle.oi_base.specs.declared.ids.RegId.{RegId}
use Rattle.oi_base.specs.declared.ids.BlockId.{BlockId}
use Rattle.oi_base.specs.Follows.{Going, Stuck, Follows}
use Rattle.ir_core.specs.declared.flat.FlatOp.{FlatOp}
use Rattle.ir_core.specs.declared.flat.FlatOp.TheVariants.{Reg, Word, Null, Address, Poison}
use Rattle.ir_core.specs.declared.flat.Entry.{Entry}
use Rattle.ir_core.specs.declared.flat.Phi.{Phi}
use Rattle.ir_core.specs.declared.flat.FlatInstr.{FlatInstr}
use Rattle.ir_core.specs.declared.flat.FlatEnd.{FlatEnd}
use Rattle.ir_core.specs.declared.flat.FlatEnd.TheVariants.{Br}
use Rattle.ir_core.specs.declared.flat.FlatBlock.{FlatBlock}
use Rattle.ir_core.specs.declared.flat.FlatBody.{FlatBody}
use Rattle.ir_core.specs.Memory.{Value}
use Rattle.ir_core.specs.Flat.{Program, Run, Regs, Effect, Sets, Allocates, Stores, Puts, Takes, Enters, Goes, Returns, Stops, NoMeaning, NoValue, with_reg, value_of, entry_for, entry_value, with_phi, after_phis, what_stands, effect, end_effect, flat_run}
use Rattle.ir_core.specs.Formed.{written_by, IsPath}
use Rattle.ir_core.proofs.Lists.{Has}
use Rattle.flow_fold.specs.Targets.{goes_to}
use Rattle.ir_simulation.specs.Replaced.{with_body}
use Rattle.flow_fold.specs.Blocks.{entry_renamed, phi_renamed}
use Rattle.flow_fold.specs.MergeBlocks.{first_value, as_copy, joined, empty_block, one_name, renamed_in}
use Rattle.ir_simulation.proofs.Writes.{Writes, effect_writes, Ends, end_ends}
use Rattle.ir_simulation.proofs.OneBody.{Copied, no_copy, one_copy, Here, does_so, is_bad, jumps, copies, AfterIn, BodyPlaces, body_follows}
use Rattle.ir_simulation.proofs.Reached.{Reached, reached_on, reached_not_stuck}
use Rattle.flow_fold.proofs.Listed.{map_at}

-- ---- phis at once are copies in order

-- the value that a phi has for block b is the operand of the copy
abbrev pub TakesFirst : ℕ → Phi → Type 0
TakesFirst b f = entry_for b f.entries ≡ Some (first_value f.entries)

-- the phi's operand isn't this register, nor does the phi write it
abbrev pub LeavesAlone : ℕ → Phi → Type 0
LeavesAlone r f = (f.reg.0 ≢ r) × ((q : RegId) → first_value f.entries ≡ Reg q → q.0 ≢ r)

-- no phi writes what another one, or it itself, reads or writes
abbrev pub InOrder : List Phi → Type 0
InOrder [] = Unit {0}
InOrder (f ∷ fs) = Each (LeavesAlone f.reg.0) fs × InOrder fs

test_apart : (a b : ℕ) → a ≢ b → nat_eq a b ≡ false
test_apart a b h = grind (arith, nat_tests)

other_reg : (regs : Regs) (r q : ℕ) (v : Value) → q ≢ r → with_reg regs r v q ≡ regs q
other_reg regs r q v h = ap (λ (t : Bool). if t then Some v else regs q) (test_apart q r h)

other_value : (regs : Regs) (r : ℕ) (v : Value) (o : FlatOp) → ((q : RegId) → o ≡ Reg q → q.0 ≢ r) → value_of (with_reg regs r v) o ≡ value_of regs o
other_value regs r v (Reg q) h = other_reg regs r q.0 v (h q refl)
other_value regs r v (Word a) h = refl
other_value regs r v Null h = refl
other_value regs r v (Address g k) h = refl
other_value regs r v Poison h = refl

-- two registers set in either order
swapped : (regs : Regs) (r s : ℕ) (v u : Value) → s ≢ r → with_reg (with_reg regs r v) s u ≡ with_reg (with_reg regs s u) r v
swapped regs r s v u h = λ i q. at q (nat_eq q s) (nat_eq q r) refl refl i
  where
    at : (q : ℕ) (x y : Bool) → nat_eq q s ≡ x → nat_eq q r ≡ y → (if x then Some u else (if y then Some v else regs q)) ≡ (if y then Some v else (if x then Some u else regs q))
    at q true true ex ey = absurd (let a : q ≡ s = grind (arith, nat_tests) in let b : q ≡ r = grind (arith, nat_tests) in h (sym a ∙ b))
    at q true false ex ey = refl
    at q false true ex ey = refl
    at q false false ex ey = refl

with_phi_is : (r : ℕ) (o : Option Value) (rest : Option Regs) (regs : Regs) → with_phi r o rest ≡ Some regs → (v : Value) × (u : Regs) × (o ≡ Some v) × (rest ≡ Some u) × (with_reg u r v ≡ regs)
with_phi_is r None rest regs e = absurd (none-some regs e)
with_phi_is r (Some v) None regs e = absurd (none-some regs e)
with_phi_is r (Some v) (Some u) regs e = (v, u, refl, refl, same_Some (with_reg u r v) regs e)

-- a register that phis leave alone may be set before them
set_before : (old : Regs) (b r : ℕ) (v : Value) (fs : List Phi) → Each (TakesFirst b) fs → Each (LeavesAlone r) fs → (regs : Regs) → after_phis old b fs ≡ Some regs → after_phis (with_reg old r v) b fs ≡ Some (with_reg regs r v)
set_before old b r v [] first alone regs e = ap (λ u. Some (with_reg u r v)) (same_Some old regs e)
set_before old b r v (f ∷ fs) first alone regs e =
    let z = with_phi_is f.reg.0 (entry_value old (entry_for b f.entries)) (after_phis old b fs) regs e in
    let value : entry_value (with_reg old r v) (entry_for b f.entries) ≡ Some z.0 =
    ap (entry_value (with_reg old r v)) first.0 ∙ other_value old r v (first_value f.entries) alone.0.1 ∙ sym (ap (entry_value old) first.0) ∙ z.2 in
    ap₂ (with_phi f.reg.0) value (set_before old b r v fs first.1 alone.1 z.1 z.3) ∙ ap Some (swapped z.1 r f.reg.0 v z.0 alone.0.0 ∙ ap (λ u. with_reg u r v) z.4)

-- the copies stand from place j on
abbrev Stand : FlatBlock → ℕ → List Phi → Type 0
Stand k j [] = Unit {0}
Stand k j (f ∷ fs) = (slice_get k.code j ≡ Some (as_copy f)) × Stand k (j + 1) fs

phis_copied : (k : FlatBlock) (b : ℕ) (fs : List Phi) (j : ℕ) (old regs : Regs) → Each (TakesFirst b) fs → InOrder fs → Stand k j fs → after_phis old b fs ≡ Some regs → Copied k j old (length fs) regs
phis_copied k b [] j old regs first order stand e = subst (λ u. Copied k j old 0 u) (same_Some old regs e) no_copy
phis_copied k b (f ∷ fs) j old regs first order stand e =
    let z = with_phi_is f.reg.0 (entry_value old (entry_for b f.entries)) (after_phis old b fs) regs e in
    let value : value_of old (first_value f.entries) ≡ Some z.0 = sym (ap (entry_value old) first.0) ∙ z.2 in
    one_copy f.reg (first_value f.entries) z.0 stand.0 value
    (phis_copied k b fs (j + 1) (with_reg old f.reg.0 z.0) regs first.1 order.1 stand.1 (set_before old b f.reg.0 z.0 fs first.1 order.0 z.1 z.3 ∙ ap Some z.4))

-- ---- places in joined code

left_at : {A : Type 0} (xs ys : List A) (k : ℕ) (x : A) → slice_get xs k ≡ Some x → slice_get (xs ++ ys) k ≡ Some x
left_at [] ys k x e = cc
left_at (y ∷ xs) ys zero x e = e
left_at (y ∷ xs) ys (suc k) x e = left_at xs ys k x e

right_at : {A : Type 0} (xs ys : List A) (k : ℕ) → slice_get (xs ++ ys) (length xs + k) ≡ slice_get ys k
right_at [] ys k = let e : 0 + k ≡ k = omega arith in ap (slice_get ys) e
right_at (x ∷ xs) ys k = let e : suc (length xs) + k ≡ suc (length xs + k) = omega arith in ap (slice_get (x ∷ (xs ++ ys))) e ∙ right_at xs ys k

set_own : {A : Type 0} (xs : List A) (i : ℕ) (x y : A) → slice_get xs i ≡ Some x → slice_get (slice_set xs i y) i ≡ Some y
set_own [] i x y e = cc
set_own (z ∷ zs) zero x y e = refl
set_own (z ∷ zs) (suc i) x y e = set_own zs i x y e

set_other : {A : Type 0} (xs : List A) (i j : ℕ) (y : A) → j ≢ i → slice_get (slice_set xs i y) j ≡ slice_get xs j
set_other [] i j y h = refl
set_other (z ∷ zs) zero zero y h = absurd (h refl)
set_other (z ∷ zs) zero (suc j) y h = refl
set_other (z ∷ zs) (suc i) zero y h = refl
set_other (z ∷ zs) (suc i) (suc j) y h = set_other zs i j y (λ e. h (ap suc e))

copies_stand : (k : FlatBlock) (xs : List FlatInstr) (fs : List Phi) (ys : List FlatInstr) → k.code ≡ xs ++ (map as_copy fs ++ ys) → Stand k (length xs) fs
copies_stand k xs [] ys e = tt
copies_stand k xs (f ∷ fs) ys e = (
  ap (λ c. slice_get c (length xs)) e ∙ (let z : length xs ≡ length xs + 0 = omega arith in ap (slice_get (xs ++ as_copy f ∷ (map as_copy fs ++ ys))) z) ∙ right_at xs (as_copy f ∷ (map as_copy fs ++ ys)) 0,
  subst (λ n. Stand k n fs) (longer xs (as_copy f)) (copies_stand k (xs ++ as_copy f ∷ []) fs ys (e ∙ moved xs (as_copy f) (map as_copy fs ++ ys))),
)
  where
    longer : (xs : List FlatInstr) (x : FlatInstr) → length (xs ++ x ∷ []) ≡ length xs + 1
    longer [] x = refl
    longer (y ∷ ys) x = ap suc (longer ys x) ∙ omega arith

    moved : (xs : List FlatInstr) (x : FlatInstr) (ys : List FlatInstr) → xs ++ x ∷ ys ≡ (xs ++ x ∷ []) ++ ys
    moved [] x ys = refl
    moved (z ∷ zs) x ys = ap (λ l. z ∷ l) (moved zs x ys)

copied_code : (xs : List FlatInstr) (fs : List Phi) (ys : List FlatInstr) (k : ℕ) → slice_get (xs ++ (map as_copy fs ++ ys)) (length xs + length fs + k) ≡ slice_get ys k
copied_code xs fs ys k =
    let e : length xs + length fs + k ≡ length xs + (length fs + k) = omega arith in
    ap (slice_get (xs ++ (map as_copy fs ++ ys))) e ∙ right_at xs (map as_copy fs ++ ys) (length fs + k) ∙ ap (λ n. slice_get (map as_copy fs ++ ys) (n + k)) (sym (same_length fs)) ∙ right_at (map as_copy fs) ys k
  where
    same_length : (fs : List Phi) → length (map as_copy fs) ≡ length fs
    same_length [] = refl
    same_length (g ∷ gs) = ap suc (same_length gs)

-- ---- entries under other names

module _ (n m b c : ℕ) where
  abbrev IsNamed : Entry → Type 0
  IsNamed e = nat_eq (one_name n m e.from.0) c ≡ nat_eq e.from.0 b

  entry_named : (es : List Entry) → ((e : Entry) → Has es e → IsNamed e) → entry_for c (map (entry_renamed (one_name n m)) es) ≡ entry_for b es
  entry_named [] h = refl
  entry_named (e ∷ es) h = ap₂ (λ (t : Bool) o. if t then Some e.value else o) (h e (inl refl)) (entry_named es (λ x has. h x (inr has)))

  phis_named : (regs : Regs) (fs : List Phi) → ((g : Phi) → Has fs g → (e : Entry) → Has g.entries e → IsNamed e) → after_phis regs c (map (phi_renamed (one_name n m)) fs) ≡ after_phis regs b fs
  phis_named regs [] h = refl
  phis_named regs (f ∷ fs) h = ap₂ (λ o rest. with_phi f.reg.0 (entry_value regs o) rest) (entry_named f.entries (h f (inl refl))) (phis_named regs fs (λ g has. h g (inr has)))

-- ---- the whole

module _ (p : Program) (f : ℕ) (old : FlatBody) (n m : ℕ) (k l : FlatBlock) where
  abbrev new : FlatBody
  new = record old { blocks = map (renamed_in (one_name n m)) (slice_set (slice_set old.blocks n (joined k l)) m empty_block) }

  abbrev base : ℕ
  base = length k.code + length l.phis

  -- block m is behind block n
  pub record IsMerge : Type 0 where
    pub apart : m ≢ n
    pub inner : m ≢ 0
    pub is_first : slice_get old.blocks n ≡ Some k
    pub is_second : slice_get old.blocks m ≡ Some l
    pub goes_there : (b : BlockId) × (k.end ≡ Br b) × (b.0 ≡ m)
    pub only : (b : ℕ) (z : FlatBlock) → slice_get old.blocks b ≡ Some z → goes_to m z.end ≡ true → b ≡ n
    pub first : Each (TakesFirst n) l.phis
    -- where control comes to block n at all
    pub order : (older : List ℕ) → IsPath old (n ∷ older) → InOrder l.phis
    -- no phi but those of block m has an entry for block n
    pub entries : (c : ℕ) (z : FlatBlock) (g : Phi) (e : Entry) → c ≢ m → slice_get old.blocks c ≡ Some z → Has z.phis g → Has g.entries e → e.from.0 ≢ n

  -- a place outside block m is the same; those of block m come behind block n and the copies
  abbrev Lies : ℕ → ℕ → ℕ → ℕ → Regs → Type 0
  Lies b i x j regs = ((b ≢ m) × (x ≡ b) × (j ≡ i) × (b ≡ n → i ≤ length k.code)) ⊎ ((b ≡ m) × (x ≡ n) × (j ≡ base + i))

  abbrev ahead : ℕ → ℕ → ℕ
  ahead b i = if nat_eq b n && nat_le (length k.code) i then 1 else 0

  module _ (h : IsMerge) where
    -- ---- which block stands where

    other_block : (b : ℕ) (z : FlatBlock) → b ≢ n → b ≢ m → slice_get old.blocks b ≡ Some z → slice_get new.blocks b ≡ Some (renamed_in (one_name n m) z)
    other_block b z apart_n apart_m e = map_at (renamed_in (one_name n m)) (slice_set (slice_set old.blocks n (joined k l)) m empty_block) b z
        (set_other (slice_set old.blocks n (joined k l)) m b empty_block apart_m ∙ set_other old.blocks n b (joined k l) apart_n ∙ e)

    joined_block : slice_get new.blocks n ≡ Some (renamed_in (one_name n m) (joined k l))
    joined_block = map_at (renamed_in (one_name n m)) (slice_set (slice_set old.blocks n (joined k l)) m empty_block) n (joined k l)
        (set_other (slice_set old.blocks n (joined k l)) m n empty_block (λ e. h.apart (sym e)) ∙ set_own old.blocks n k (joined k l) h.is_first)

    code_is : (joined k l).code ≡ k.code ++ (map as_copy l.phis ++ l.code)
    code_is = append_assoc k.code (map as_copy l.phis) l.code

    -- the block in the place of one that isn't m: its phis and its first instructions are the old ones
    record Kept (b : ℕ) (z : FlatBlock) : Type 0 where
      block : FlatBlock
      is_block : slice_get new.blocks b ≡ Some block
      phis : block.phis ≡ map (phi_renamed (one_name n m)) z.phis
      code : (i : ℕ) (x : FlatInstr) → slice_get z.code i ≡ Some x → slice_get block.code i ≡ Some x

    kept : (b : ℕ) (z : FlatBlock) → b ≢ m → slice_get old.blocks b ≡ Some z → Kept b z
    kept b z apart e = by_test (nat_eq b n) refl
      where
        by_test : (t : Bool) → nat_eq b n ≡ t → Kept b z
        by_test true t =
            let same : b ≡ n = grind (arith, nat_tests) in
            let both : Some z ≡ Some k = sym e ∙ ap (slice_get old.blocks) same ∙ h.is_first in
            let one : z ≡ k = cc in
            record {
              block = renamed_in (one_name n m) (joined k l);
              is_block = ap (slice_get new.blocks) same ∙ joined_block;
              phis = ap (λ (y : FlatBlock). map (phi_renamed (one_name n m)) y.phis) (sym one);
              code = λ i x at'. left_at (k.code ++ map as_copy l.phis) l.code i x (left_at k.code (map as_copy l.phis) i x (subst (λ (y : FlatBlock). slice_get y.code i ≡ Some x) one at'));
            }
        by_test false t = record {
          block = renamed_in (one_name n m) z;
          is_block = other_block b z (λ same. absurd (grind (arith, nat_tests))) apart e;
          phis = refl;
          code = λ i x at'. at';
        }

    -- ---- entries

    same_name : (b : ℕ) → b ≢ n → b ≢ m → (e : Entry) → nat_eq (one_name n m e.from.0) b ≡ nat_eq e.from.0 b
    same_name b apart_n apart_m e = by_test (nat_eq e.from.0 m) refl
      where
        by_test : (t : Bool) → nat_eq e.from.0 m ≡ t → nat_eq (if t then n else e.from.0) b ≡ nat_eq e.from.0 b
        by_test true t = let is : e.from.0 ≡ m = grind (arith, nat_tests) in test_apart n b (λ same. apart_n (sym same)) ∙ sym (test_apart e.from.0 b (λ same. apart_m (sym same ∙ is)))
        by_test false t = refl

    second_name : (e : Entry) → e.from.0 ≢ n → nat_eq (one_name n m e.from.0) n ≡ nat_eq e.from.0 m
    second_name e apart = by_test (nat_eq e.from.0 m) refl
      where
        by_test : (t : Bool) → nat_eq e.from.0 m ≡ t → nat_eq (if t then n else e.from.0) n ≡ t
        by_test true t = grind (arith, nat_tests)
        by_test false t = test_apart e.from.0 n apart

    -- ---- turns

    abbrev At : Run → ℕ → ℕ → Effect → Type 0
    At r x j e = Here p f old new Lies ahead r x j e

    after_any : (r : Run) (x j : ℕ) → Lies r.top.block (r.top.place + 1) x (j + 1) r.top.regs → (w : Option ℕ) (e : Effect) → Writes w e → AfterIn p f old new Lies ahead r x j e
    after_any r x j next w (Sets d v) a = next
    after_any r x j next w (Allocates d size align) a = λ v. next
    after_any r x j next w (Stores o) a = next
    after_any r x j next w (Puts None b) a = next
    after_any r x j next w (Puts (Some d) b) a = λ v. next
    after_any r x j next w (Takes None) a = next
    after_any r x j next w (Takes (Some d)) a = λ v. next
    after_any r x j next w (Enters None g args) a = next
    after_any r x j next w (Enters (Some d) g args) a = λ v. next
    after_any r x j next w (Goes c) a = absurd a
    after_any r x j next w (Returns v) a = tt
    after_any r x j next w (Stops y) a = tt
    after_any r x j next w NoMeaning a = tt
    after_any r x j next w NoValue a = tt

    -- an end that is not a merged branch
    end_here : (r : Run) (x j : ℕ) (z : FlatBlock) → slice_get new.blocks x ≡ Some z → slice_get z.code j ≡ None → (e : FlatEnd) → (u : Effect) → Ends e u → end_effect r.top.regs z.end ≡ u
        → ((c : ℕ) → goes_to c e ≡ true → (y : FlatBlock) → slice_get old.blocks c ≡ Some y → (c ≢ m) × ((g : Phi) → Has y.phis g → (a : Entry) → Has g.entries a → IsNamed n m r.top.block x a)) → At r x j u
    end_here r x j z found past e (Goes c) a same to = jumps c c z refl found (ap (what_stands r z) past ∙ same) (λ y regs at' phis.
        let t = to c a y at' in
        let w = kept c y t.0 at' in (
          w.block,
          w.is_block,
          ap (after_phis r.top.regs x) w.phis ∙ phis_named n m r.top.block x r.top.regs y.phis t.1 ∙ phis,
          inl (t.0, refl, refl, λ is. omega arith),
        ))
    end_here r x j z found past e (Returns v) a same to = does_so z found (ap (what_stands r z) past ∙ same) tt
    end_here r x j z found past e NoMeaning a same to = is_bad (inl refl)
    end_here r x j z found past e NoValue a same to = is_bad (inr refl)
    end_here r x j z found past e (Sets d v) a same to = absurd a
    end_here r x j z found past e (Allocates d size align) a same to = absurd a
    end_here r x j z found past e (Stores o) a same to = absurd a
    end_here r x j z found past e (Puts d b) a same to = absurd a
    end_here r x j z found past e (Takes d) a same to = absurd a
    end_here r x j z found past e (Enters d g args) a same to = absurd a
    end_here r x j z found past e (Stops w) a same to = absurd a

    -- outside block m
    outside : (r : Run) → (r.top.block ≡ n → InOrder l.phis) → r.top.block ≢ m → (r.top.block ≡ n → r.top.place ≤ length k.code) → (z : FlatBlock) → slice_get old.blocks r.top.block ≡ Some z → (o : Option FlatInstr) → slice_get z.code r.top.place ≡ o → At r r.top.block r.top.place (what_stands r z o)
    outside r order apart bound z found (Some i) here =
        let w = kept r.top.block z apart found in
        does_so w.block w.is_block (ap (what_stands r w.block) (w.code r.top.place i here))
        (after_any r r.top.block r.top.place (inl (apart, refl, refl, λ is. next is)) (written_by i) (effect r.top.regs r.memory i) (effect_writes r.top.regs r.memory i))
      where
        next : r.top.block ≡ n → r.top.place + 1 ≤ length k.code
        next is =
            let both : Some z ≡ Some k = sym found ∙ ap (slice_get old.blocks) is ∙ h.is_first in
            let one : z ≡ k = cc in
            let lt = slice_get_within z.code r.top.place i here in
            let same : length z.code ≡ length k.code = ap (λ (y : FlatBlock). length y.code) one in
            omega (arith, lt, same)
    outside r order apart bound z found None past = by_test (nat_eq r.top.block n) refl
      where
        by_test : (t : Bool) → nat_eq r.top.block n ≡ t → At r r.top.block r.top.place (end_effect r.top.regs z.end)
        by_test false t =
            let apart_n : r.top.block ≢ n = λ same. absurd (grind (arith, nat_tests)) in
            end_here r r.top.block r.top.place (renamed_in (one_name n m) z) (other_block r.top.block z apart_n apart found) past z.end (end_effect r.top.regs z.end) (end_ends r.top.regs z.end) refl
            (λ c goes y at'. (λ is. apart_n (h.only r.top.block z found (subst (λ d. goes_to d z.end ≡ true) is goes)), λ g has a in_it. same_name r.top.block apart_n apart a))
        by_test true t =
            let is : r.top.block ≡ n = grind (arith, nat_tests) in
            let both : Some z ≡ Some k = sym found ∙ ap (slice_get old.blocks) is ∙ h.is_first in
            let one : z ≡ k = cc in
            let past_k : slice_get k.code r.top.place ≡ None = subst (λ (y : FlatBlock). slice_get y.code r.top.place ≡ None) one past in
            let full : r.top.place ≡ length k.code = at_length is past_k in
            let goes_m : end_effect r.top.regs z.end ≡ Goes m = ap (λ (y : FlatBlock). end_effect r.top.regs y.end) one ∙ ap (end_effect r.top.regs) h.goes_there.1 ∙ ap Goes h.goes_there.2 in
            copies m (renamed_in (one_name n m) (joined k l)) goes_m (ap (slice_get new.blocks) is ∙ joined_block) (λ y regs at' phis.
            let two : Some y ≡ Some l = sym at' ∙ h.is_second in
            let same : y ≡ l = cc in (
              length l.phis,
              subst (λ i. Copied (renamed_in (one_name n m) (joined k l)) i r.top.regs (length l.phis) regs) (sym full)
                  (phis_copied (renamed_in (one_name n m) (joined k l)) n l.phis (length k.code) r.top.regs regs h.first (order is) (copies_stand (renamed_in (one_name n m) (joined k l)) k.code l.phis l.code code_is)
                  (ap (λ b. after_phis r.top.regs b l.phis) (sym is) ∙ ap (λ (u : FlatBlock). after_phis r.top.regs r.top.block u.phis) (sym same) ∙ phis)),
              inr (refl, is, omega (arith, full)),
              λ none. nearer is full,
            ))
          where
            at_length : r.top.block ≡ n → slice_get k.code r.top.place ≡ None → r.top.place ≡ length k.code
            at_length is past = ⊎_elim
                (λ x. absurd (none-some x.0 (sym past ∙ x.2)))
                (λ x. let le = x.0 in let most = bound is in omega (arith, le, most))
                (slice_get_cases k.code r.top.place).1

            nearer : r.top.block ≡ n → r.top.place ≡ length k.code → ahead m 0 < ahead r.top.block r.top.place
            nearer is full =
                let one : nat_eq m n ≡ false = test_apart m n h.apart in
                let low : ahead m 0 ≡ 0 = ap (λ t. if t && nat_le (length k.code) 0 then 1 else 0) one in
                let up : nat_eq r.top.block n ≡ true = grind (arith, nat_tests) in
                let far : nat_le (length k.code) r.top.place ≡ true = grind (arith, nat_tests, full) in
                let high : ahead r.top.block r.top.place ≡ 1 = ap₂ (λ s t. if s && t then 1 else 0) up far in
                omega (arith, low, high)

    -- in block m
    within : (r : Run) (j : ℕ) → r.top.block ≡ m → j ≡ base + r.top.place → (z : FlatBlock) → slice_get old.blocks r.top.block ≡ Some z → (o : Option FlatInstr) → slice_get z.code r.top.place ≡ o → At r n j (what_stands r z o)
    within r j is place z found o here =
        let both : Some z ≡ Some l = sym found ∙ ap (slice_get old.blocks) is ∙ h.is_second in
        let one : z ≡ l = cc in
        let code : slice_get (joined k l).code j ≡ o = ap (slice_get (joined k l).code) place ∙ ap (λ c. slice_get c (base + r.top.place)) code_is ∙ copied_code k.code l.phis l.code r.top.place ∙ sym (ap (λ (y : FlatBlock). slice_get y.code r.top.place) one) ∙ here in
        by_code one o code
      where
        by_code : z ≡ l → (o : Option FlatInstr) → slice_get (joined k l).code j ≡ o → At r n j (what_stands r z o)
        by_code one (Some i) code = does_so (renamed_in (one_name n m) (joined k l)) joined_block (ap (what_stands r (renamed_in (one_name n m) (joined k l))) code)
            (after_any r n j (inr (is, refl, omega (arith, place))) (written_by i) (effect r.top.regs r.memory i) (effect_writes r.top.regs r.memory i))
        by_code one None code = end_here r n j (renamed_in (one_name n m) (joined k l)) joined_block code z.end (end_effect r.top.regs z.end) (end_ends r.top.regs z.end) (ap (λ (y : FlatBlock). end_effect r.top.regs y.end) (sym one))
            (λ c goes y at'.
            let apart : c ≢ m = λ same. h.apart (sym is ∙ h.only r.top.block z found (subst (λ d. goes_to d z.end ≡ true) same goes)) in
            (apart, λ g has a in_it. second_name a (h.entries c y g a apart at' has in_it) ∙ ap (nat_eq a.from.0) (sym is)))

    -- what isn't false of phis in order is so
    alone_so : (r : ℕ) (fs : List Phi) → ((Each (LeavesAlone r) fs → ⊥) → ⊥) → Each (LeavesAlone r) fs
    alone_so r [] h = tt
    alone_so r (x ∷ xs) h = ((λ e. h (λ a. a.0.0 e), λ q is e. h (λ a. a.0.1 q is e)), alone_so r xs (λ none. h (λ a. none a.1)))

    order_so : (fs : List Phi) → ((InOrder fs → ⊥) → ⊥) → InOrder fs
    order_so [] h = tt
    order_so (x ∷ xs) h = (alone_so x.reg.0 xs (λ none. h (λ a. none a.0)), order_so xs (λ none. h (λ a. none a.1)))

    -- the run stands on a path
    abbrev OnPaths : List ℕ → Type 0
    OnPaths input = (r : Run) → Reached p input r → r.status ≡ Going → r.top.func ≡ f → (((older : List ℕ) × IsPath old (r.top.block ∷ older)) → ⊥) → ⊥

    module _ (is_old : p.body f ≡ Some old) (input : List ℕ) (never : (i : ℕ) → (flat_run p input i).status ≢ Stuck) (paths : OnPaths input) where
      places : BodyPlaces p f old new Lies ahead (Reached p input)
      places = record {
        is_old = is_old;
        same_params = refl;
        fine_on = reached_on p input;
        not_stuck = reached_not_stuck p input never;
        starts = λ regs none. inl (λ e. h.inner (sym e), refl, refl, λ e. omega arith);
        turn = λ r fine going is x j lies z found. by_place r (λ here. order_so l.phis (λ none. paths r fine going is (λ path. none (h.order path.0 (subst (λ b. IsPath old (b ∷ path.0)) here path.1))))) x j lies z found;
      }
        where
          by_place : (r : Run) → (r.top.block ≡ n → InOrder l.phis) → (x j : ℕ) → Lies r.top.block r.top.place x j r.top.regs → (z : FlatBlock) → slice_get old.blocks r.top.block ≡ Some z → At r x j (what_stands r z (slice_get z.code r.top.place))
          by_place r order x j (inl (apart, same_block, same_place, bound)) z found =
              subst (λ y. At r y j (what_stands r z (slice_get z.code r.top.place))) (sym same_block)
              (subst (λ y. At r r.top.block y (what_stands r z (slice_get z.code r.top.place))) (sym same_place) (outside r order apart bound z found (slice_get z.code r.top.place) refl))
          by_place r order x j (inr (is, same_block, place)) z found =
              subst (λ y. At r y j (what_stands r z (slice_get z.code r.top.place))) (sym same_block) (within r j is place z found (slice_get z.code r.top.place) refl)

      pub merge_follows : Follows (flat_run p input) (flat_run (with_body p f new) input)
      merge_follows = body_follows p f old new Lies ahead (Reached p input) places input (0, refl)
