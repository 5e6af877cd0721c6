-- The parts of a formed body.
use Rattle.std.proofs.Common.{◌≡◌, ◌⊎◌, inl, inr, ℕ, zero, suc, ◌+◌, ◌<◌, ◌≤◌, false, nat_eq, All, List, [], ◌∷◌, map, length, get_or, replicate, slice_get, Some, None, refl, sym, ap, ◌∙◌, arith}
use Rattle.std.proofs.lemmas.List.{length-map, ext_get_or, length-replicate, get_or-replicate, get_or_past}
use Rattle.std.proofs.lemmas.List.FromFn.{get_or-map-range_with_len, length-range_with_len}
use Rattle.std.proofs.lemmas.Bool.Decides.{nat_tests}
use Rattle.std.specs.List.{flat_map, filter_map, range_with_len, AllByRecursion as Each}
use Rattle.std.proofs.lemmas.List.Elements.{recursion_from_All, All-from_recursion}
use Rattle.std.proofs.lemmas.Bool.{cases_lt}
use Rattle.ir_core.specs.declared.flat.Scalar.{Scalar}
use Rattle.ir_core.specs.declared.flat.Phi.{Phi}
use Rattle.ir_core.specs.declared.flat.FlatInstr.{FlatInstr}
use Rattle.ir_core.specs.declared.flat.FlatInstr.TheVariants.{Bin, Icmp, Select, Cast, Copy, Alloca, Load, Store, Gep, Call, Put, Get, Exit}
use Rattle.ir_core.specs.declared.flat.FlatBlock.{FlatBlock}
use Rattle.ir_core.specs.declared.flat.FlatBody.{FlatBody}
use Rattle.ir_core.specs.Formed.{FuncType, IsFormedBody, IsTyped, written_by, writes, all_writes}
use Rattle.frame_layout.specs.declared.parts.Part.{Part}
use Rattle.frame_layout.specs.Parts.{slot_part, alloca_part, phi_part, slot_for, param_parts, block_slots, block_allocas, slots, allocas, parts, IsNeed, IsPart}
use Rattle.frame_layout.specs.declared.homes.Home.{Home}
use Rattle.frame_layout.specs.declared.homes.Home.TheVariants.{NoHome, InSlot, OfPhi, InMemory}
use Rattle.frame_layout.specs.Homes.{home_among, with_homes}
use Rattle.frame_layout.specs.Frame.{home}
use Rattle.frame_layout.proofs.Table.{home_or, absent, with_homes-length, with_homes-get}
use Rattle.ir_core.proofs.Lists.{each_left, each_right, each_map as each_weaker}
use Rattle.frame_layout.proofs.Each.{OfOption, each_join, each_flat, each_of_flat, each_map, each_of_map, each_filter, each_of_filter, each_both, each_by_index, each_free}
use Rattle.frame_layout.proofs.Counts.{one, among, times, by_body, params-past, params-once, among-past, among-once, few_parts}

-- ---- registers in range

abbrev pub IsBelow : ℕ → Part → Type 0
IsBelow n p = p.reg.0 < n

below_params : (n m : ℕ) → n ≤ m → Each (IsBelow m) (param_parts n)
below_params zero m le = tt
below_params (suc n) m le = each_join (IsBelow m) (param_parts n) (slot_for (record { 0 = n }) ∷ []) (below_params n m (omega arith)) (omega arith, tt)

below_instr : (m : ℕ) (i : FlatInstr) → OfOption (λ r. r < m) (written_by i) → OfOption (IsBelow m) (slot_part i) × OfOption (IsBelow m) (alloca_part i)
below_instr m (Bin d op w a b) h = (h, tt)
below_instr m (Icmp d c s a b) h = (h, tt)
below_instr m (Select d c a b) h = (h, tt)
below_instr m (Cast d c from to a) h = (h, tt)
below_instr m (Copy d a) h = (h, tt)
below_instr m (Alloca d size align) h = (tt, h)
below_instr m (Load d s align a) h = (h, tt)
below_instr m (Store s align v a) h = (tt, tt)
below_instr m (Gep d a k ts) h = (h, tt)
below_instr m (Call None f args) h = (tt, tt)
below_instr m (Call (Some d) f args) h = (h, tt)
below_instr m (Put None a) h = (tt, tt)
below_instr m (Put (Some d) a) h = (h, tt)
below_instr m (Get None) h = (tt, tt)
below_instr m (Get (Some d)) h = (h, tt)
below_instr m (Exit a) h = (tt, tt)

below_slots : (m : ℕ) (k : FlatBlock) → Each (λ r. r < m) (writes k) → Each (IsBelow m) (block_slots k)
below_slots m k h =
    let phis = each_map (IsBelow m) phi_part k.phis (each_of_map (λ r. r < m) (λ (f : Phi). f.reg.0) k.phis (each_left (λ r. r < m) (map (λ (f : Phi). f.reg.0) k.phis) (filter_map written_by k.code) h)) in
    let code = each_weaker (λ i. OfOption (λ r. r < m) (written_by i)) (λ i. OfOption (IsBelow m) (slot_part i)) k.code (λ i w. (below_instr m i w).0) (each_of_filter (λ r. r < m) written_by k.code (each_right (λ r. r < m) (map (λ (f : Phi). f.reg.0) k.phis) (filter_map written_by k.code) h)) in
    each_join (IsBelow m) (map phi_part k.phis) (filter_map slot_part k.code) phis (each_filter (IsBelow m) slot_part k.code code)

below_allocas : (m : ℕ) (k : FlatBlock) → Each (λ r. r < m) (writes k) → Each (IsBelow m) (block_allocas k)
below_allocas m k h =
    let code = each_weaker (λ i. OfOption (λ r. r < m) (written_by i)) (λ i. OfOption (IsBelow m) (alloca_part i)) k.code (λ i w. (below_instr m i w).1) (each_of_filter (λ r. r < m) written_by k.code (each_right (λ r. r < m) (map (λ (f : Phi). f.reg.0) k.phis) (filter_map written_by k.code) h)) in
    each_filter (IsBelow m) alloca_part k.code code

-- each part is of a register of the body
pub parts_below : (types : ℕ → Scalar) (funcs : ℕ → FuncType) (own : FuncType) (b : FlatBody) → IsFormedBody types funcs own b → Each (IsBelow b.regs) (parts b)
parts_below types funcs own b formed =
    let written = each_weaker (λ r. (b.params ≤ r) × (r < b.regs)) (λ r. r < b.regs) (all_writes b) (λ r h. h.1) (recursion_from_All (λ r. (b.params ≤ r) × (r < b.regs)) (all_writes b) formed.written) in
    let blocks = each_of_flat (λ r. r < b.regs) writes b.blocks written in
    let ss = each_flat (IsBelow b.regs) block_slots b.blocks (each_weaker (λ k. Each (λ r. r < b.regs) (writes k)) (λ k. Each (IsBelow b.regs) (block_slots k)) b.blocks (below_slots b.regs) blocks) in
    let as' = each_flat (IsBelow b.regs) block_allocas b.blocks (each_weaker (λ k. Each (λ r. r < b.regs) (writes k)) (λ k. Each (IsBelow b.regs) (block_allocas k)) b.blocks (below_allocas b.regs) blocks) in
    each_join (IsBelow b.regs) (slots b) (allocas b) (each_join (IsBelow b.regs) (param_parts b.params) (flat_map block_slots b.blocks) (below_params b.params b.regs formed.few_params.1) ss) as'

-- ---- no register has two parts

-- a parameter is not written
once_of : (r n : ℕ) (xs : List ℕ) → Each (λ x. n ≤ x) xs → times r (param_parts n) ≤ 1 → among r xs ≤ 1 → (r < n) ⊎ (n ≤ r) → times r (param_parts n) + among r xs ≤ 1
once_of r n xs past a b (inl lt) = let h = among-past r n xs lt past in omega arith
once_of r n xs past a b (inr le) = let h = params-past r n le in omega arith

pub parts_once : (types : ℕ → Scalar) (funcs : ℕ → FuncType) (own : FuncType) (b : FlatBody) → IsFormedBody types funcs own b → (r : ℕ) → times r (parts b) ≤ 1
parts_once types funcs own b formed r =
    let past = each_weaker (λ q. (b.params ≤ q) × (q < b.regs)) (λ q. b.params ≤ q) (all_writes b) (λ q h. h.0) (recursion_from_All (λ q. (b.params ≤ q) × (q < b.regs)) (all_writes b) formed.written) in
    let h = once_of r b.params (all_writes b) past (params-once r b.params) (among-once r (all_writes b) formed.written_once) (cases_lt r b.params) in
    let e = by_body r b in
    omega arith

-- ---- what they need

-- in a formed body each instruction of a block is typed
abbrev pub IsTypedBlock : (ℕ → Scalar) → (ℕ → FuncType) → FlatBlock → Type 0
IsTypedBlock types funcs k = (n : ℕ) (i : FlatInstr) → slice_get k.code n ≡ Some i → IsTyped types funcs i

need_of_slot : (i : FlatInstr) → OfOption (λ p. IsNeed p.need) (slot_part i)
need_of_slot (Bin d op w a b) = tt
need_of_slot (Icmp d c s a b) = tt
need_of_slot (Select d c a b) = tt
need_of_slot (Cast d c from to a) = tt
need_of_slot (Copy d a) = tt
need_of_slot (Alloca d size align) = tt
need_of_slot (Load d s align a) = tt
need_of_slot (Store s align v a) = tt
need_of_slot (Gep d a k ts) = tt
need_of_slot (Call None f args) = tt
need_of_slot (Call (Some d) f args) = tt
need_of_slot (Put None a) = tt
need_of_slot (Put (Some d) a) = tt
need_of_slot (Get None) = tt
need_of_slot (Get (Some d)) = tt
need_of_slot (Exit a) = tt

need_of_alloca : (types : ℕ → Scalar) (funcs : ℕ → FuncType) (i : FlatInstr) → IsTyped types funcs i → OfOption (λ p. IsNeed p.need) (alloca_part i)
need_of_alloca types funcs (Alloca d size align) h = (h.1, h.2)
need_of_alloca types funcs (Bin d op w a b) h = tt
need_of_alloca types funcs (Icmp d c s a b) h = tt
need_of_alloca types funcs (Select d c a b) h = tt
need_of_alloca types funcs (Cast d c from to a) h = tt
need_of_alloca types funcs (Copy d a) h = tt
need_of_alloca types funcs (Load d s align a) h = tt
need_of_alloca types funcs (Store s align v a) h = tt
need_of_alloca types funcs (Gep d a k ts) h = tt
need_of_alloca types funcs (Call d f args) h = tt
need_of_alloca types funcs (Put d a) h = tt
need_of_alloca types funcs (Get d) h = tt
need_of_alloca types funcs (Exit a) h = tt

needs_params : (n : ℕ) → Each (λ p. IsNeed p.need) (param_parts n)
needs_params zero = tt
needs_params (suc n) = each_join (λ p. IsNeed p.need) (param_parts n) (slot_for (record { 0 = n }) ∷ []) (needs_params n) (tt, tt)

needs_slots : (k : FlatBlock) → Each (λ p. IsNeed p.need) (block_slots k)
needs_slots k =
    each_join (λ p. IsNeed p.need) (map phi_part k.phis) (filter_map slot_part k.code) (each_map (λ p. IsNeed p.need) phi_part k.phis (each_free (λ f. Unit {0}) k.phis (λ f. tt)))
    (each_filter (λ p. IsNeed p.need) slot_part k.code (each_free (λ i. OfOption (λ p. IsNeed p.need) (slot_part i)) k.code need_of_slot))

needs_allocas : (types : ℕ → Scalar) (funcs : ℕ → FuncType) (k : FlatBlock) → IsTypedBlock types funcs k → Each (λ p. IsNeed p.need) (block_allocas k)
needs_allocas types funcs k typed =
    each_filter (λ p. IsNeed p.need) alloca_part k.code (each_by_index (λ i. OfOption (λ p. IsNeed p.need) (alloca_part i)) k.code (λ n i e. need_of_alloca types funcs i (typed n i e)))

pub parts_need : (types : ℕ → Scalar) (funcs : ℕ → FuncType) (own : FuncType) (b : FlatBody) → IsFormedBody types funcs own b → Each (λ p. IsNeed p.need) (parts b)
parts_need types funcs own b formed =
    each_join (λ p. IsNeed p.need) (slots b) (allocas b)
    (each_join (λ p. IsNeed p.need) (param_parts b.params) (flat_map block_slots b.blocks) (needs_params b.params) (each_flat (λ p. IsNeed p.need) block_slots b.blocks (each_free (λ k. Each (λ p. IsNeed p.need) (block_slots k)) b.blocks needs_slots)))
    (each_flat (λ p. IsNeed p.need) block_allocas b.blocks (each_by_index (λ k. Each (λ p. IsNeed p.need) (block_allocas k)) b.blocks (λ m k at. needs_allocas types funcs k (λ n i e. formed.code m n k i at e))))

pub parts_are_parts : (types : ℕ → Scalar) (funcs : ℕ → FuncType) (own : FuncType) (b : FlatBody) → IsFormedBody types funcs own b → All (IsPart b.regs) (parts b)
parts_are_parts types funcs own b formed =
    All-from_recursion (IsPart b.regs) (parts b) (each_both (IsBelow b.regs) (λ p. IsNeed p.need) (IsPart b.regs) (parts b) (λ p h k. (h, k)) (parts_below types funcs own b formed) (parts_need types funcs own b formed))

pub parts_are_few : (types : ℕ → Scalar) (funcs : ℕ → FuncType) (own : FuncType) (b : FlatBody) → IsFormedBody types funcs own b → length (parts b) ≤ b.regs
parts_are_few types funcs own b formed = few_parts b.regs (parts b) (parts_below types funcs own b formed) (parts_once types funcs own b formed)

-- ---- the table of homes

home_or_none : (h : Home) → home_or h NoHome ≡ h
home_or_none NoHome = refl
home_or_none (InSlot o) = refl
home_or_none (OfPhi o) = refl
home_or_none (InMemory o) = refl

pub table_of_homes : (types : ℕ → Scalar) (funcs : ℕ → FuncType) (own : FuncType) (b : FlatBody) → IsFormedBody types funcs own b → with_homes (replicate b.regs NoHome) 4 (parts b) ≡ map (home b) (range_with_len 0 b.regs)
unfolding home
table_of_homes types funcs own b formed =
    ext_get_or NoHome (with_homes (replicate b.regs NoHome) 4 (parts b)) (map (home b) (range_with_len 0 b.regs)) (len ∙ sym (length-map (range_with_len 0 b.regs) (home b) ∙ length-range_with_len 0 b.regs)) each
  where
    len : length (with_homes (replicate b.regs NoHome) 4 (parts b)) ≡ b.regs
    len = with_homes-length (replicate b.regs NoHome) 4 (parts b) ∙ length-replicate b.regs NoHome

    each : (i : ℕ) → i < length (with_homes (replicate b.regs NoHome) 4 (parts b)) → get_or (with_homes (replicate b.regs NoHome) 4 (parts b)) i NoHome ≡ get_or (map (home b) (range_with_len 0 b.regs)) i NoHome
    each i lt =
        let within : i < b.regs = let l = len in omega arith in
        let empty : get_or (replicate b.regs NoHome) i NoHome ≡ NoHome = get_or-replicate b.regs i NoHome NoHome within in
        with_homes-get (replicate b.regs NoHome) 4 (parts b) i b.regs (length-replicate b.regs NoHome) (parts_below types funcs own b formed) (parts_once types funcs own b formed i)
        ∙ ap (λ (h : Home). home_or (home_among 4 (parts b) i) h) empty
        ∙ home_or_none (home_among 4 (parts b) i)
        ∙ sym (get_or-map-range_with_len (home b) 0 b.regs i i NoHome within (omega arith))

-- a register that is none of the body's has no home
no_part : (at : ℕ) (ps : List Part) (n r : ℕ) → Each (IsBelow n) ps → n ≤ r → times r ps ≡ 0
no_part at [] n r below le = refl
no_part at (p ∷ ps) n r below le =
    let rest = no_part at ps n r below.1 le in
    let e : nat_eq p.reg.0 r ≡ false = let b = below.0 in grind (arith, nat_tests) in
    let here : one (nat_eq p.reg.0 r) ≡ 0 = ap one e in
    omega arith

pub home_in_table : (types : ℕ → Scalar) (funcs : ℕ → FuncType) (own : FuncType) (b : FlatBody) → IsFormedBody types funcs own b → (r : ℕ) → get_or (map (home b) (range_with_len 0 b.regs)) r NoHome ≡ home b r
unfolding home
home_in_table types funcs own b formed r = by_range (cases_lt r b.regs)
  where
    by_range : (r < b.regs) ⊎ (b.regs ≤ r) → get_or (map (home b) (range_with_len 0 b.regs)) r NoHome ≡ home b r
    by_range (inl lt) = get_or-map-range_with_len (home b) 0 b.regs r r NoHome lt (omega arith)
    by_range (inr le) =
        let len : length (map (home b) (range_with_len 0 b.regs)) ≡ b.regs = length-map (range_with_len 0 b.regs) (home b) ∙ length-range_with_len 0 b.regs in
        get_or_past (map (home b) (range_with_len 0 b.regs)) r NoHome (omega arith) ∙ sym (absent 4 (parts b) r (no_part 4 (parts b) b.regs r (parts_below types funcs own b formed) le))
