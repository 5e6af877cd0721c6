-- Which homes a formed body's registers have, and that they lie apart.
use Rattle.std.proofs.Common.{◌≡◌, ◌≢◌, ◌⊎◌, inl, inr, ⊎_elim, ℕ, zero, suc, ◌+◌, ◌%◌, ◌<◌, ◌≤◌, Bool, true, false, nat_eq, List, [], ◌∷◌, ◌++◌, map, slice_get, Option, Some, None, refl, sym, ap, ◌∙◌, subst, arith}
use Rattle.std.specs.List.{flat_map, filter_map, cons_option, AllByRecursion as Each}
use Rattle.std.proofs.lemmas.Bool.{cases_lt}
use Rattle.std.proofs.lemmas.Bool.Decides.{nat_tests}
use Rattle.oi_base.specs.declared.ids.RegId.{RegId}
use Rattle.ir_core.specs.declared.flat.Phi.{Phi}
use Rattle.ir_core.specs.declared.flat.FlatInstr.{FlatInstr}
use Rattle.ir_core.specs.declared.flat.FlatInstr.TheVariants.{Bin, Icmp, Select, Cast, Copy, Alloca, Load, Store, Gep, Call, Put, Get, Exit}
use Rattle.ir_core.specs.declared.flat.FlatBlock.{FlatBlock}
use Rattle.ir_core.specs.declared.flat.FlatBody.{FlatBody}
use Rattle.ir_core.specs.Formed.{IsBlock, written_by}
use Rattle.ir_core.specs.WellFormed.{IsWellFormed}
use Rattle.frame_layout.specs.declared.parts.Need.{Need}
use Rattle.frame_layout.specs.declared.parts.Need.TheVariants.{Slot, SlotAndShadow, Memory}
use Rattle.frame_layout.specs.declared.parts.Part.{Part}
use Rattle.frame_layout.specs.declared.homes.Home.TheVariants.{NoHome}
use Rattle.frame_layout.specs.Parts.{part, slot_part, slot_for, alloca_part, phi_part, param_parts, block_slots, block_allocas, slots, allocas, parts, end_of_all, size_of}
use Rattle.frame_layout.specs.Homes.{home_at, home_among, slot_in, shadow_in, place_in}
use Rattle.frame_layout.specs.Frame.{size, frame, slots_end, home, slot, shadow, place}
use Rattle.frame_layout.specs.Laws.{HasPhi, HasInstr, IsNoAlloca, IsWrittenBy, HaveHomes, AreApart, LieApart}
use Rattle.frame_layout.proofs.Each.{OfOption, each_join, each_flat, each_map, each_filter, each_free, each_by_index}
use Rattle.frame_layout.proofs.Ends.{ends_after, end_of_join}
use Rattle.frame_layout.proofs.Body.{parts_once, parts_need}
use Rattle.frame_layout.proofs.Standing.{StandsAt, Found, found, stands, Has, stands-low, stands-high, stands-apart, stands-split, stands-each, stands-home, IsSlotNeed, IsMemoryNeed, slots-aligned, stands-aligned}

-- ---- a part of a list

has_left : (ps qs : List Part) (p : Part) → Has ps p → Has (ps ++ qs) p
has_left [] qs p h = absurd h
has_left (x ∷ ps) qs p (inl e) = inl e
has_left (x ∷ ps) qs p (inr h) = inr (has_left ps qs p h)

has_right : (ps qs : List Part) (p : Part) → Has qs p → Has (ps ++ qs) p
has_right [] qs p h = h
has_right (x ∷ ps) qs p h = inr (has_right ps qs p h)

has_map : {A : Type 0} (f : A → Part) (xs : List A) (n : ℕ) (x : A) → slice_get xs n ≡ Some x → Has (map f xs) (f x)
has_map f [] n x e = absurd (cc)
has_map f (y ∷ xs) zero x e = inl (ap f (cc))
has_map f (y ∷ xs) (suc n) x e = inr (has_map f xs n x e)

before_some : (o : Option Part) (ps : List Part) (p : Part) → o ≡ Some p → Has (cons_option o ps) p
before_some None ps p e = absurd (cc)
before_some (Some q) ps p e = inl (cc)

before_more : (o : Option Part) (ps : List Part) (p : Part) → Has ps p → Has (cons_option o ps) p
before_more None ps p h = h
before_more (Some q) ps p h = inr h

has_filter : {A : Type 0} (f : A → Option Part) (xs : List A) (n : ℕ) (x : A) (p : Part) → slice_get xs n ≡ Some x → f x ≡ Some p → Has (filter_map f xs) p
has_filter f [] n x p e s = absurd (cc)
has_filter f (y ∷ xs) zero x p e s = let same : y ≡ x = cc in before_some (f y) (filter_map f xs) p (ap f same ∙ s)
has_filter f (y ∷ xs) (suc n) x p e s = before_more (f y) (filter_map f xs) p (has_filter f xs n x p e s)

has_flat : {A : Type 0} (f : A → List Part) (xs : List A) (n : ℕ) (x : A) (p : Part) → slice_get xs n ≡ Some x → Has (f x) p → Has (flat_map f xs) p
has_flat f [] n x p e h = absurd (cc)
has_flat f (y ∷ xs) zero x p e h = let same : x ≡ y = cc in has_left (f y) (flat_map f xs) p (subst (λ z. Has (f z) p) same h)
has_flat f (y ∷ xs) (suc n) x p e h = has_right (f y) (flat_map f xs) p (has_flat f xs n x p e h)

last : (n r : ℕ) → r < suc n → (r < n) ⊎ (n ≤ r) → (r < n) ⊎ (r ≡ n)
last n r lt (inl h) = inl h
last n r lt (inr h) = inr (omega arith)

has_param : (n r : ℕ) → r < n → Has (param_parts n) (slot_for (record { 0 = r }))
has_param zero r lt = absurd (omega arith)
has_param (suc n) r lt =
    ⊎_elim (λ h. has_left (param_parts n) (slot_for (record { 0 = n }) ∷ []) (slot_for (record { 0 = r })) (has_param n r h))
    (λ e. has_right (param_parts n) (slot_for (record { 0 = n }) ∷ []) (slot_for (record { 0 = r })) (inl (ap (λ (x : ℕ). slot_for (record { 0 = x })) (sym e)))) (last n r lt (cases_lt r n))

-- ---- where parts come from

abbrev IsOrigin : FlatBody → ℕ → Need → Type 0
IsOrigin b r Slot = (r < b.params) ⊎ ((i : FlatInstr) × HasInstr b i × IsNoAlloca i × (written_by i ≡ Some r))
IsOrigin b r SlotAndShadow = (f : Phi) × HasPhi b f × (f.reg.0 ≡ r)
IsOrigin b r (Memory size align) = (d : RegId) × HasInstr b (Alloca d size align) × (d.0 ≡ r)

abbrev HasOrigin : FlatBody → Part → Type 0
HasOrigin b p = IsOrigin b p.reg.0 p.need

origin_params : (b : FlatBody) (n : ℕ) → n ≤ b.params → Each (HasOrigin b) (param_parts n)
origin_params b zero le = tt
origin_params b (suc n) le = each_join (HasOrigin b) (param_parts n) (slot_for (record { 0 = n }) ∷ []) (origin_params b n (omega arith)) (inl (omega arith), tt)

origin_result : (b : FlatBody) (i : FlatInstr) → HasInstr b i → OfOption (HasOrigin b) (slot_part i)
origin_result b (Bin d op w x y) h = inr (Bin d op w x y, h, tt, refl)
origin_result b (Icmp d c s x y) h = inr (Icmp d c s x y, h, tt, refl)
origin_result b (Select d c x y) h = inr (Select d c x y, h, tt, refl)
origin_result b (Cast d c from to x) h = inr (Cast d c from to x, h, tt, refl)
origin_result b (Copy d x) h = inr (Copy d x, h, tt, refl)
origin_result b (Alloca d size align) h = tt
origin_result b (Load d s align x) h = inr (Load d s align x, h, tt, refl)
origin_result b (Store s align v x) h = tt
origin_result b (Gep d x k ts) h = inr (Gep d x k ts, h, tt, refl)
origin_result b (Call None f args) h = tt
origin_result b (Call (Some d) f args) h = inr (Call (Some d) f args, h, tt, refl)
origin_result b (Put None x) h = tt
origin_result b (Put (Some d) x) h = inr (Put (Some d) x, h, tt, refl)
origin_result b (Get None) h = tt
origin_result b (Get (Some d)) h = inr (Get (Some d), h, tt, refl)
origin_result b (Exit x) h = tt

origin_memory : (b : FlatBody) (i : FlatInstr) → HasInstr b i → OfOption (HasOrigin b) (alloca_part i)
origin_memory b (Alloca d size align) h = (d, h, refl)
origin_memory b (Bin d op w x y) h = tt
origin_memory b (Icmp d c s x y) h = tt
origin_memory b (Select d c x y) h = tt
origin_memory b (Cast d c from to x) h = tt
origin_memory b (Copy d x) h = tt
origin_memory b (Load d s align x) h = tt
origin_memory b (Store s align v x) h = tt
origin_memory b (Gep d x k ts) h = tt
origin_memory b (Call d f args) h = tt
origin_memory b (Put d x) h = tt
origin_memory b (Get d) h = tt
origin_memory b (Exit x) h = tt

origin_slots : (b : FlatBody) (n : ℕ) (k : FlatBlock) → IsBlock b n k → Each (HasOrigin b) (block_slots k)
origin_slots b n k is = each_join (HasOrigin b) (map phi_part k.phis) (filter_map slot_part k.code)
    (each_map (HasOrigin b) phi_part k.phis (each_by_index (λ f. HasOrigin b (phi_part f)) k.phis (λ m f e. (f, (n, m, k, is, e), refl))))
    (each_filter (HasOrigin b) slot_part k.code (each_by_index (λ i. OfOption (HasOrigin b) (slot_part i)) k.code (λ m i e. origin_result b i (n, m, k, is, e))))

origin_allocas : (b : FlatBody) (n : ℕ) (k : FlatBlock) → IsBlock b n k → Each (HasOrigin b) (block_allocas k)
origin_allocas b n k is = each_filter (HasOrigin b) alloca_part k.code (each_by_index (λ i. OfOption (HasOrigin b) (alloca_part i)) k.code (λ m i e. origin_memory b i (n, m, k, is, e)))

origins : (b : FlatBody) → Each (HasOrigin b) (parts b)
origins b = each_join (HasOrigin b) (slots b) (allocas b)
    (each_join (HasOrigin b) (param_parts b.params) (flat_map block_slots b.blocks) (origin_params b b.params (omega arith)) (each_flat (HasOrigin b) block_slots b.blocks (each_by_index (λ k. Each (HasOrigin b) (block_slots k)) b.blocks (origin_slots b))))
    (each_flat (HasOrigin b) block_allocas b.blocks (each_by_index (λ k. Each (HasOrigin b) (block_allocas k)) b.blocks (origin_allocas b)))

-- ---- slots, and then memory

abbrev TakesSlot : Part → Type 0
TakesSlot p = IsSlotNeed p.need

abbrev TakesMemory : Part → Type 0
TakesMemory p = IsMemoryNeed p.need

result_slot : (i : FlatInstr) → OfOption TakesSlot (slot_part i)
result_slot (Bin d op w x y) = tt
result_slot (Icmp d c s x y) = tt
result_slot (Select d c x y) = tt
result_slot (Cast d c from to x) = tt
result_slot (Copy d x) = tt
result_slot (Alloca d size align) = tt
result_slot (Load d s align x) = tt
result_slot (Store s align v x) = tt
result_slot (Gep d x k ts) = tt
result_slot (Call None f args) = tt
result_slot (Call (Some d) f args) = tt
result_slot (Put None x) = tt
result_slot (Put (Some d) x) = tt
result_slot (Get None) = tt
result_slot (Get (Some d)) = tt
result_slot (Exit x) = tt

alloca_memory : (i : FlatInstr) → OfOption TakesMemory (alloca_part i)
alloca_memory (Alloca d size align) = tt
alloca_memory (Bin d op w x y) = tt
alloca_memory (Icmp d c s x y) = tt
alloca_memory (Select d c x y) = tt
alloca_memory (Cast d c from to x) = tt
alloca_memory (Copy d x) = tt
alloca_memory (Load d s align x) = tt
alloca_memory (Store s align v x) = tt
alloca_memory (Gep d x k ts) = tt
alloca_memory (Call d f args) = tt
alloca_memory (Put d x) = tt
alloca_memory (Get d) = tt
alloca_memory (Exit x) = tt

param_slots : (n : ℕ) → Each TakesSlot (param_parts n)
param_slots zero = tt
param_slots (suc n) = each_join TakesSlot (param_parts n) (slot_for (record { 0 = n }) ∷ []) (param_slots n) (tt, tt)

all_slots : (b : FlatBody) → Each TakesSlot (slots b)
all_slots b = each_join TakesSlot (param_parts b.params) (flat_map block_slots b.blocks) (param_slots b.params)
    (each_flat TakesSlot block_slots b.blocks (each_free (λ k. Each TakesSlot (block_slots k)) b.blocks
    (λ k. each_join TakesSlot (map phi_part k.phis) (filter_map slot_part k.code) (each_map TakesSlot phi_part k.phis (each_free (λ f. TakesSlot (phi_part f)) k.phis (λ f. tt))) (each_filter TakesSlot slot_part k.code (each_free (λ i. OfOption TakesSlot (slot_part i)) k.code result_slot)))))

all_memory : (b : FlatBody) → Each TakesMemory (allocas b)
all_memory b = each_flat TakesMemory block_allocas b.blocks (each_free (λ k. Each TakesMemory (block_allocas k)) b.blocks (λ k. each_filter TakesMemory alloca_part k.code (each_free (λ i. OfOption TakesMemory (alloca_part i)) k.code alloca_memory)))

-- ---- homes and parts

-- a register's part in a body's frame
abbrev HasPart : FlatBody → ℕ → ℕ → Need → Type 0
HasPart b r o n = StandsAt 4 (parts b) r o n

record SlotPart (b : FlatBody) (r o : ℕ) : Type 0 where
  need : Need
  is_slot : IsSlotNeed need
  stands : HasPart b r o need

from_slot : (b : FlatBody) (r o begin : ℕ) (n : Need) → HasPart b r begin n → slot_in (home_at begin n) ≡ Some o → SlotPart b r o
from_slot b r o begin Slot h e = let same : begin ≡ o = cc in record { need = Slot; is_slot = tt; stands = subst (λ (x : ℕ). HasPart b r x Slot) same h }
from_slot b r o begin SlotAndShadow h e = let same : begin ≡ o = cc in record { need = SlotAndShadow; is_slot = tt; stands = subst (λ (x : ℕ). HasPart b r x SlotAndShadow) same h }
from_slot b r o begin (Memory size align) h e = absurd (cc)

slot_part_of : (b : FlatBody) (r o : ℕ) → slot b r ≡ Some o → SlotPart b r o
unfolding home
slot_part_of b r o e = by_home (found 4 (parts b) r)
  where
    by_home : (home_among 4 (parts b) r ≡ NoHome) ⊎ Found 4 (parts b) r → SlotPart b r o
    by_home (inl none) = let clash : None ≡ Some o = ap slot_in (sym none) ∙ e in absurd (cc)
    by_home (inr f) = from_slot b r o f.begin f.need f.stands (ap slot_in (sym f.is_home) ∙ e)

record ShadowPart (b : FlatBody) (r o : ℕ) : Type 0 where
  begin : ℕ
  stands : HasPart b r begin SlotAndShadow
  after : o ≡ begin + 4

from_shadow : (b : FlatBody) (r o begin : ℕ) (n : Need) → HasPart b r begin n → shadow_in (home_at begin n) ≡ Some o → ShadowPart b r o
from_shadow b r o begin Slot h e = absurd (cc)
from_shadow b r o begin SlotAndShadow h e = record { begin = begin; stands = h; after = cc }
from_shadow b r o begin (Memory size align) h e = absurd (cc)

shadow_part_of : (b : FlatBody) (r o : ℕ) → shadow b r ≡ Some o → ShadowPart b r o
unfolding home
shadow_part_of b r o e = by_home (found 4 (parts b) r)
  where
    by_home : (home_among 4 (parts b) r ≡ NoHome) ⊎ Found 4 (parts b) r → ShadowPart b r o
    by_home (inl none) = let clash : None ≡ Some o = ap shadow_in (sym none) ∙ e in absurd (cc)
    by_home (inr f) = from_shadow b r o f.begin f.need f.stands (ap shadow_in (sym f.is_home) ∙ e)

record MemoryPart (b : FlatBody) (r o : ℕ) : Type 0 where
  bytes : ℕ
  align : ℕ
  stands : HasPart b r o (Memory bytes align)

from_place : (b : FlatBody) (r o begin : ℕ) (n : Need) → HasPart b r begin n → place_in (home_at begin n) ≡ Some o → MemoryPart b r o
from_place b r o begin Slot h e = absurd (cc)
from_place b r o begin SlotAndShadow h e = absurd (cc)
from_place b r o begin (Memory size align) h e = let same : begin ≡ o = cc in record { bytes = size; align = align; stands = subst (λ (x : ℕ). HasPart b r x (Memory size align)) same h }

memory_part_of : (b : FlatBody) (r o : ℕ) → place b r ≡ Some o → MemoryPart b r o
unfolding home
memory_part_of b r o e = by_home (found 4 (parts b) r)
  where
    by_home : (home_among 4 (parts b) r ≡ NoHome) ⊎ Found 4 (parts b) r → MemoryPart b r o
    by_home (inl none) = let clash : None ≡ Some o = ap place_in (sym none) ∙ e in absurd (cc)
    by_home (inr f) = from_place b r o f.begin f.need f.stands (ap place_in (sym f.is_home) ∙ e)

-- conversely, where no register has two parts
home_of_part : (b : FlatBody) → IsWellFormed b → (r o : ℕ) (n : Need) → HasPart b r o n → home b r ≡ home_at o n
unfolding home
home_of_part b w r o n h = stands-home 4 (parts b) r o n (parts_once w.types w.funcs w.own b w.formed r) h

slot_of_need : (o : ℕ) (n : Need) → IsSlotNeed n → slot_in (home_at o n) ≡ Some o
slot_of_need o Slot h = refl
slot_of_need o SlotAndShadow h = refl
slot_of_need o (Memory size align) h = absurd h

-- ---- which homes

part_home : (b : FlatBody) → IsWellFormed b → (p : Part) → Has (parts b) p → (o : ℕ) × (home b p.reg.0 ≡ home_at o p.need)
part_home b w p h = let s = stands 4 (parts b) p h in (s.0, home_of_part b w p.reg.0 s.0 p.need s.1)

has_slot : (b : FlatBody) (n : ℕ) (k : FlatBlock) (p : Part) → IsBlock b n k → Has (block_slots k) p → Has (parts b) p
has_slot b n k p is h = has_left (slots b) (allocas b) p (has_right (param_parts b.params) (flat_map block_slots b.blocks) p (has_flat block_slots b.blocks n k p is h))

has_memory : (b : FlatBody) (d : RegId) (size align : ℕ) → HasInstr b (Alloca d size align) → Has (parts b) (part d (Memory size align))
has_memory b d size align (n, m, k, is, at) =
    has_right (slots b) (allocas b) (part d (Memory size align)) (has_flat block_allocas b.blocks n k (part d (Memory size align)) is (has_filter alloca_part k.code m (Alloca d size align) (part d (Memory size align)) at refl))

-- the slot of what an instruction writes
slot_of_result : (r : ℕ) (d : RegId) → Some d.0 ≡ Some r → Some (slot_for d) ≡ Some (slot_for (record { 0 = r }))
slot_of_result r d e = let same : d.0 ≡ r = cc in ap (λ (x : ℕ). Some (slot_for (record { 0 = x }))) same

result_part : (i : FlatInstr) (r : ℕ) → IsNoAlloca i → written_by i ≡ Some r → slot_part i ≡ Some (slot_for (record { 0 = r }))
result_part (Bin d op w x y) r no_alloca e = slot_of_result r d e
result_part (Icmp d c s x y) r no_alloca e = slot_of_result r d e
result_part (Select d c x y) r no_alloca e = slot_of_result r d e
result_part (Cast d c from to x) r no_alloca e = slot_of_result r d e
result_part (Copy d x) r no_alloca e = slot_of_result r d e
result_part (Alloca d size align) r no_alloca e = absurd no_alloca
result_part (Load d s align x) r no_alloca e = slot_of_result r d e
result_part (Store s align v x) r no_alloca e = absurd (cc)
result_part (Gep d x k ts) r no_alloca e = slot_of_result r d e
result_part (Call None f args) r no_alloca e = absurd (cc)
result_part (Call (Some d) f args) r no_alloca e = slot_of_result r d e
result_part (Put None x) r no_alloca e = absurd (cc)
result_part (Put (Some d) x) r no_alloca e = slot_of_result r d e
result_part (Get None) r no_alloca e = absurd (cc)
result_part (Get (Some d)) r no_alloca e = slot_of_result r d e
result_part (Exit x) r no_alloca e = absurd (cc)

origin_of_slot : (b : FlatBody) (r : ℕ) (n : Need) → IsSlotNeed n → IsOrigin b r n → (r < b.params) ⊎ IsWrittenBy b r
origin_of_slot b r Slot is (inl lt) = inl lt
origin_of_slot b r Slot is (inr w) = inr (inr w)
origin_of_slot b r SlotAndShadow is w = inr (inl w)
origin_of_slot b r (Memory size align) is w = absurd is

pub have_homes : (b : FlatBody) → IsWellFormed b → HaveHomes b
have_homes b w = record {
  params = λ r lt. let p = part_home b w (slot_for (record { 0 = r })) (has_left (slots b) (allocas b) (slot_for (record { 0 = r })) (has_left (param_parts b.params) (flat_map block_slots b.blocks) (slot_for (record { 0 = r })) (has_param b.params r lt))) in (p.0, ap slot_in p.1);
  phis = λ f (n, m, k, is, at). let p = part_home b w (phi_part f) (has_slot b n k (phi_part f) is (has_left (map phi_part k.phis) (filter_map slot_part k.code) (phi_part f) (has_map phi_part k.phis m f at))) in (p.0, ap slot_in p.1, ap shadow_in p.1);
  results = λ i r (n, m, k, is, at) no_alloca e. let p = part_home b w (slot_for (record { 0 = r })) (has_slot b n k (slot_for (record { 0 = r })) is (has_right (map phi_part k.phis) (filter_map slot_part k.code) (slot_for (record { 0 = r })) (has_filter slot_part k.code m i (slot_for (record { 0 = r })) at (result_part i r no_alloca e)))) in (p.0, ap slot_in p.1);
  allocas = λ d size align h. let p = part_home b w (part d (Memory size align)) (has_memory b d size align h) in (p.0, ap place_in p.1);
  only_slots = λ r o e. let p = slot_part_of b r o e in origin_of_slot b r p.need p.is_slot (stands-each (IsOrigin b) 4 (parts b) r o p.need (origins b) p.stands);
  only_shadows = λ r o e. let p = shadow_part_of b r o e in stands-each (IsOrigin b) 4 (parts b) r p.begin SlotAndShadow (origins b) p.stands;
  only_places = λ r o e. let p = memory_part_of b r o e in let s = stands-each (IsOrigin b) 4 (parts b) r o (Memory p.bytes p.align) (origins b) p.stands in (s.0, p.bytes, p.align, s.1, s.2);
  no_slot_and_place = λ r o e. let p = memory_part_of b r o e in ap slot_in (home_of_part b w r o (Memory p.bytes p.align) p.stands);
}

-- ---- where they lie

-- slots stand among the slots, and memory after them
among_slots : (b : FlatBody) (r o : ℕ) (n : Need) → IsSlotNeed n → HasPart b r o n → StandsAt 4 (slots b) r o n
among_slots b r o n is h = of_two n is (stands-split 4 (slots b) (allocas b) r o n h)
  where
    of_two : (n : Need) → IsSlotNeed n → StandsAt 4 (slots b) r o n ⊎ StandsAt (end_of_all 4 (slots b)) (allocas b) r o n → StandsAt 4 (slots b) r o n
    of_two n is (inl s) = s
    of_two Slot is (inr s) = absurd (stands-each (λ r n. IsMemoryNeed n) (end_of_all 4 (slots b)) (allocas b) r o Slot (all_memory b) s)
    of_two SlotAndShadow is (inr s) = absurd (stands-each (λ r n. IsMemoryNeed n) (end_of_all 4 (slots b)) (allocas b) r o SlotAndShadow (all_memory b) s)
    of_two (Memory size align) is (inr s) = absurd is

after_slots : (b : FlatBody) (r o size align : ℕ) → HasPart b r o (Memory size align) → StandsAt (end_of_all 4 (slots b)) (allocas b) r o (Memory size align)
after_slots b r o size align h = of_two (stands-split 4 (slots b) (allocas b) r o (Memory size align) h)
  where
    of_two : StandsAt 4 (slots b) r o (Memory size align) ⊎ StandsAt (end_of_all 4 (slots b)) (allocas b) r o (Memory size align) → StandsAt (end_of_all 4 (slots b)) (allocas b) r o (Memory size align)
    of_two (inl s) = absurd (stands-each (λ r n. IsSlotNeed n) 4 (slots b) r o (Memory size align) (all_slots b) s)
    of_two (inr s) = s

four : (n : Need) → IsSlotNeed n → 4 ≤ size_of n
four Slot is = omega arith
four SlotAndShadow is = omega arith
four (Memory size align) is = absurd is

slot_lies : (b : FlatBody) (r o : ℕ) → slot b r ≡ Some o → (4 ≤ o) × (o % 4 ≡ 0) × (o + 4 ≤ slots_end b)
unfolding slots_end
slot_lies b r o e =
    let p = slot_part_of b r o e in
    let s = among_slots b r o p.need p.is_slot p.stands in
    let high = stands-high 4 (slots b) r o p.need s in
    let size = four p.need p.is_slot in
    (stands-low 4 (slots b) r o p.need s, slots-aligned 4 (slots b) r o p.need (all_slots b) refl s, omega arith)

shadow_lies : (b : FlatBody) → IsWellFormed b → (r o : ℕ) → shadow b r ≡ Some o → (s : ℕ) × (slot b r ≡ Some s) × (o ≡ s + 4) × (o + 4 ≤ slots_end b)
unfolding slots_end
shadow_lies b w r o e =
    let p = shadow_part_of b r o e in
    let s = among_slots b r p.begin SlotAndShadow tt p.stands in
    let high = stands-high 4 (slots b) r p.begin SlotAndShadow s in
    let after = p.after in
    (p.begin, ap slot_in (home_of_part b w r p.begin SlotAndShadow p.stands), p.after, omega arith)

narrower : (o p s t m : ℕ) → 4 ≤ s → 4 ≤ t → m ≤ s → AreApart o s p t → AreApart o m p 4
narrower o p s t m a b c (inl h) = inl (omega arith)
narrower o p s t m a b c (inr h) = inr (omega arith)

slots_apart : (b : FlatBody) (r q o p : ℕ) → slot b r ≡ Some o → slot b q ≡ Some p → r ≢ q → AreApart o 4 p 4
slots_apart b r q o p e f apart =
    let x = slot_part_of b r o e in
    let y = slot_part_of b q p f in
    narrower o p (size_of x.need) (size_of y.need) 4 (four x.need x.is_slot) (four y.need y.is_slot) (four x.need x.is_slot) (stands-apart 4 (parts b) r q o p x.need y.need x.stands y.stands apart)

shifted : (o s p : ℕ) → o ≡ s + 4 → AreApart s 8 p 4 → AreApart o 4 p 4
shifted o s p e (inl h) = inl (omega arith)
shifted o s p e (inr h) = inr (omega arith)

shadow_apart : (b : FlatBody) → IsWellFormed b → (r q o p : ℕ) → shadow b r ≡ Some o → slot b q ≡ Some p → AreApart o 4 p 4
shadow_apart b w r q o p e f = by_test (nat_eq r q) refl
  where
    by_test : (t : Bool) → nat_eq r q ≡ t → AreApart o 4 p 4
    by_test true same =
        let s = shadow_lies b w r o e in
        let eq : q ≡ r = grind (arith, nat_tests, same) in
        let f' : slot b r ≡ Some p = sym (ap (slot b) eq) ∙ f in
        let at : s.0 ≡ p = let both : Some s.0 ≡ Some p = sym s.1 ∙ f' in cc in
        let after = s.2 in
        inr (omega arith)
    by_test false other =
        let x = shadow_part_of b r o e in
        let y = slot_part_of b q p f in
        shifted o x.begin p x.after (narrower x.begin p 8 (size_of y.need) 8 (omega arith) (four y.need y.is_slot) (omega arith) (stands-apart 4 (parts b) r q x.begin p SlotAndShadow y.need x.stands y.stands (λ eq. let s : nat_eq r q ≡ true = grind (arith, nat_tests, eq) in absurd (cc))))

both_shifted : (o p s t : ℕ) → o ≡ s + 4 → p ≡ t + 4 → AreApart s 8 t 8 → AreApart o 4 p 4
both_shifted o p s t e f (inl h) = inl (omega arith)
both_shifted o p s t e f (inr h) = inr (omega arith)

shadows_apart : (b : FlatBody) (r q o p : ℕ) → shadow b r ≡ Some o → shadow b q ≡ Some p → r ≢ q → AreApart o 4 p 4
shadows_apart b r q o p e f apart =
    let x = shadow_part_of b r o e in
    let y = shadow_part_of b q p f in
    both_shifted o p x.begin y.begin x.after y.after (stands-apart 4 (parts b) r q x.begin y.begin SlotAndShadow SlotAndShadow x.stands y.stands apart)

-- an alloca's memory
memory_stands : (b : FlatBody) → IsWellFormed b → (d : RegId) (size align o : ℕ) → HasInstr b (Alloca d size align) → place b d.0 ≡ Some o → HasPart b d.0 o (Memory size align)
memory_stands b w d size align o h e =
    let s = stands 4 (parts b) (part d (Memory size align)) (has_memory b d size align h) in
    let at : Some s.0 ≡ Some o = sym (ap place_in (home_of_part b w d.0 s.0 (Memory size align) s.1)) ∙ e in
    let same : s.0 ≡ o = cc in
    subst (λ (x : ℕ). HasPart b d.0 x (Memory size align)) same s.1

slots_within : (b : FlatBody) → (4 ≤ slots_end b) × (slots_end b ≤ frame b)
unfolding slots_end frame
slots_within b =
    let a = ends_after 4 (slots b) in
    let c = ends_after (end_of_all 4 (slots b)) (allocas b) in
    let j = end_of_join 4 (slots b) (allocas b) in
    (a, omega arith)

memory_lies : (b : FlatBody) → IsWellFormed b → (d : RegId) (bytes align o : ℕ) → HasInstr b (Alloca d bytes align) → place b d.0 ≡ Some o → (slots_end b ≤ o) × (o + bytes ≤ frame b) × (o % align ≡ 0)
unfolding slots_end frame
memory_lies b w d bytes align o h e =
    let s = memory_stands b w d bytes align o h e in
    let low = stands-low (end_of_all 4 (slots b)) (allocas b) d.0 o (Memory bytes align) (after_slots b d.0 o bytes align s) in
    let high : o + bytes ≤ end_of_all 4 (parts b) = stands-high 4 (parts b) d.0 o (Memory bytes align) s in
    let aligned = stands-aligned 4 (parts b) d.0 o (Memory bytes align) (parts_need w.types w.funcs w.own b w.formed) s in
    (low, omega arith, aligned)

frame_whole : (b : FlatBody) → frame b % 16 ≡ 0
unfolding frame
frame_whole b = omega arith

pub lie_apart : (b : FlatBody) → IsWellFormed b → LieApart b
lie_apart b w = record {
  slots = slot_lies b;
  shadows = shadow_lies b w;
  slots_apart = slots_apart b;
  shadow_apart = shadow_apart b w;
  shadows_apart = shadows_apart b;
  memory = memory_lies b w;
  memory_apart = λ d e s a t c o p h k x y apart. stands-apart 4 (parts b) d.0 e.0 o p (Memory s a) (Memory t c) (memory_stands b w d s a o h x) (memory_stands b w e t c p k y) apart;
  within = slots_within b;
  whole = frame_whole b;
}
