-- How often a register stands among parts and among what a body writes.
use Rattle.std.proofs.Common.{◌≡◌, ◌≢◌, ℕ, zero, suc, ◌+◌, ◌<◌, ◌≤◌, Bool, true, false, nat_eq, List, [], ◌∷◌, ◌++◌, map, length, Option, Some, None, refl, sym, ap, ◌∙◌, arith}
use Rattle.std.specs.Prelude.{All, AllPairs}
use Rattle.std.proofs.lemmas.List.Elements.{All-tail}
use Rattle.std.specs.List.{flat_map, filter_map, cons_option, AllByRecursion as Each}
use Rattle.std.specs.Option.{option_map}
use Rattle.std.proofs.lemmas.Bool.Decides.{nat_tests}
use Rattle.oi_base.specs.declared.ids.RegId.{RegId}
use Rattle.ir_core.specs.declared.flat.Phi.{Phi}
use Rattle.ir_core.specs.declared.flat.FlatInstr.{FlatInstr}
use Rattle.ir_core.specs.declared.flat.FlatInstr.TheVariants.{Bin, Icmp, Select, Cast, Copy, Alloca, Load, Store, Gep, Call, Put, Get, Exit}
use Rattle.ir_core.specs.declared.flat.FlatBlock.{FlatBlock}
use Rattle.ir_core.specs.declared.flat.FlatBody.{FlatBody}
use Rattle.ir_core.specs.Formed.{written_by, of_result, writes, all_writes}
use Rattle.frame_layout.specs.declared.parts.Part.{Part}
use Rattle.frame_layout.specs.Parts.{slot_part, alloca_part, phi_part, slot_for, param_parts, block_slots, block_allocas, slots, allocas, parts}

abbrev pub one : Bool → ℕ
one true = 1
one false = 0

-- how often a number is in a list
abbrev pub among : ℕ → List ℕ → ℕ
among r [] = 0
among r (x ∷ xs) = one (nat_eq x r) + among r xs

-- how often parts are a register's
abbrev pub times : ℕ → List Part → ℕ
times r [] = 0
times r (p ∷ ps) = one (nat_eq p.reg.0 r) + times r ps

pub among-join : (r : ℕ) (xs ys : List ℕ) → among r (xs ++ ys) ≡ among r xs + among r ys
among-join r [] ys = omega arith
among-join r (x ∷ xs) ys = let h = among-join r xs ys in omega arith

pub times-join : (r : ℕ) (ps qs : List Part) → times r (ps ++ qs) ≡ times r ps + times r qs
times-join r [] qs = omega arith
times-join r (p ∷ ps) qs = let h = times-join r ps qs in omega arith

-- one or none
abbrev pub of_part : ℕ → Option Part → ℕ
of_part r None = 0
of_part r (Some p) = one (nat_eq p.reg.0 r)

abbrev pub of_number : ℕ → Option ℕ → ℕ
of_number r None = 0
of_number r (Some x) = one (nat_eq x r)

times-before : (r : ℕ) (o : Option Part) (ps : List Part) → times r (cons_option o ps) ≡ of_part r o + times r ps
times-before r None ps = omega arith
times-before r (Some p) ps = refl

among-before : (r : ℕ) (o : Option ℕ) (xs : List ℕ) → among r (cons_option o xs) ≡ of_number r o + among r xs
among-before r None xs = omega arith
among-before r (Some x) xs = refl

-- an instruction has a slot or memory for what it writes
by_result : (r : ℕ) (d : Option RegId) → of_part r (option_map slot_for d) + 0 ≡ of_number r (of_result d)
by_result r None = refl
by_result r (Some d) = omega arith

by_instr : (r : ℕ) (i : FlatInstr) → of_part r (slot_part i) + of_part r (alloca_part i) ≡ of_number r (written_by i)
by_instr r (Bin d op w a b) = omega arith
by_instr r (Icmp d c s a b) = omega arith
by_instr r (Select d c a b) = omega arith
by_instr r (Cast d c from to a) = omega arith
by_instr r (Copy d a) = omega arith
by_instr r (Alloca d size align) = omega arith
by_instr r (Load d s align a) = omega arith
by_instr r (Store s align v a) = refl
by_instr r (Gep d a k ts) = omega arith
by_instr r (Call d f args) = by_result r d
by_instr r (Put d a) = by_result r d
by_instr r (Get d) = by_result r d
by_instr r (Exit a) = refl

by_code : (r : ℕ) (code : List FlatInstr) → times r (filter_map slot_part code) + times r (filter_map alloca_part code) ≡ among r (filter_map written_by code)
by_code r [] = refl
by_code r (i ∷ code) =
    let a = times-before r (slot_part i) (filter_map slot_part code) in
    let b = times-before r (alloca_part i) (filter_map alloca_part code) in
    let c = among-before r (written_by i) (filter_map written_by code) in
    let d = by_instr r i in
    let e = by_code r code in
    omega arith

by_phis : (r : ℕ) (phis : List Phi) → times r (map phi_part phis) ≡ among r (map (λ (f : Phi). f.reg.0) phis)
by_phis r [] = refl
by_phis r (f ∷ fs) = ap (λ (n : ℕ). one (nat_eq f.reg.0 r) + n) (by_phis r fs)

by_block : (r : ℕ) (k : FlatBlock) → times r (block_slots k) + times r (block_allocas k) ≡ among r (writes k)
by_block r k =
    let a = times-join r (map phi_part k.phis) (filter_map slot_part k.code) in
    let b = among-join r (map (λ (f : Phi). f.reg.0) k.phis) (filter_map written_by k.code) in
    let c = by_code r k.code in
    let d = by_phis r k.phis in
    omega arith

by_blocks : (r : ℕ) (ks : List FlatBlock) → times r (flat_map block_slots ks) + times r (flat_map block_allocas ks) ≡ among r (flat_map writes ks)
by_blocks r [] = refl
by_blocks r (k ∷ ks) =
    let a = times-join r (block_slots k) (flat_map block_slots ks) in
    let b = times-join r (block_allocas k) (flat_map block_allocas ks) in
    let c = among-join r (writes k) (flat_map writes ks) in
    let d = by_block r k in
    let e = by_blocks r ks in
    omega arith

pub by_body : (r : ℕ) (b : FlatBody) → times r (parts b) ≡ times r (param_parts b.params) + among r (all_writes b)
by_body r b =
    let a = times-join r (slots b) (allocas b) in
    let c = times-join r (param_parts b.params) (flat_map block_slots b.blocks) in
    let d = by_blocks r b.blocks in
    omega arith

-- ---- once at most

past_more : (r n : ℕ) → times r (param_parts n) ≡ 0 → suc n ≤ r → (t : Bool) → nat_eq n r ≡ t → times r (param_parts (suc n)) ≡ 0
past_more r n before le true e = absurd (grind (arith, nat_tests, e, le))
past_more r n before le false e =
    let j : times r (param_parts (suc n)) ≡ times r (param_parts n) + (one (nat_eq n r) + 0) = times-join r (param_parts n) (slot_for (record { 0 = n }) ∷ []) in
    let here : one (nat_eq n r) ≡ 0 = ap one e in
    omega arith

-- the first n registers, each once
pub params-past : (r n : ℕ) → n ≤ r → times r (param_parts n) ≡ 0
params-past r zero le = refl
params-past r (suc n) le = past_more r n (params-past r n (omega arith)) le (nat_eq n r) refl

-- the last of n registers is none of those before it
one_more : (r n : ℕ) → times r (param_parts n) ≤ 1 → (t : Bool) → nat_eq n r ≡ t → times r (param_parts n) + one (nat_eq n r) ≤ 1
one_more r n most true e =
    let past : times r (param_parts n) ≡ 0 = params-past r n (grind (arith, nat_tests, e)) in
    let here : one (nat_eq n r) ≡ 1 = ap one e in
    omega arith
one_more r n most false e =
    let here : one (nat_eq n r) ≡ 0 = ap one e in
    omega arith

pub params-once : (r n : ℕ) → times r (param_parts n) ≤ 1
params-once r zero = omega arith
params-once r (suc n) =
    let j : times r (param_parts (suc n)) ≡ times r (param_parts n) + (one (nat_eq n r) + 0) = times-join r (param_parts n) (slot_for (record { 0 = n }) ∷ []) in
    let h = one_more r n (params-once r n) (nat_eq n r) refl in
    omega arith

-- where no two numbers are equal, none is there twice
none_more : (r x : ℕ) (xs : List ℕ) → x ≢ r → among r xs ≡ 0 → (t : Bool) → nat_eq x r ≡ t → one (nat_eq x r) + among r xs ≡ 0
none_more r x xs other rest true e = absurd (other (grind (arith, nat_tests, e)))
none_more r x xs other rest false e = let here : one (nat_eq x r) ≡ 0 = ap one e in omega arith

pub among-none : (r : ℕ) (xs : List ℕ) → All (λ x. x ≢ r) xs → among r xs ≡ 0
among-none r [] apart = refl
among-none r (x ∷ xs) apart = none_more r x xs (apart 0 0 (omega arith)) (among-none r xs (All-tail (λ y. y ≢ r) x xs apart)) (nat_eq x r) refl

pub among-past : (r n : ℕ) (xs : List ℕ) → r < n → Each (λ x. n ≤ x) xs → among r xs ≡ 0
among-past r n [] lt past = refl
among-past r n (x ∷ xs) lt past = none_more r x xs (λ e. let p = past.0 in absurd (omega arith)) (among-past r n xs lt past.1) (nat_eq x r) refl

once_more : (r x : ℕ) (xs : List ℕ) → AllPairs (λ y z. y ≢ z) (x ∷ xs) → among r xs ≤ 1 → (t : Bool) → nat_eq x r ≡ t → one (nat_eq x r) + among r xs ≤ 1
once_more r x xs apart most true e =
    let same : x ≡ r = grind (arith, nat_tests, e) in
    let none : among r xs ≡ 0 = among-none r xs (λ k d lt eq. apart 0 (suc k) d (omega arith) (omega arith) (same ∙ sym eq)) in
    let here : one (nat_eq x r) ≡ 1 = ap one e in
    omega arith
once_more r x xs apart most false e =
    let here : one (nat_eq x r) ≡ 0 = ap one e in
    omega arith

pub among-once : (r : ℕ) (xs : List ℕ) → AllPairs (λ x y. x ≢ y) xs → among r xs ≤ 1
among-once r [] apart = omega arith
among-once r (x ∷ xs) apart = once_more r x xs apart (among-once r xs (λ i j d lt within. apart (suc i) (suc j) d (omega arith) (omega arith))) (nat_eq x r) refl

-- ---- so many parts at most

-- how many parts are of the registers below n
tally : ℕ → List Part → ℕ
tally zero ps = 0
tally (suc n) ps = tally n ps + times n ps

tally-nil : (n : ℕ) → tally n [] ≡ 0
unfolding tally
tally-nil zero = refl
tally-nil (suc n) = let h = tally-nil n in omega arith

step_past : (n : ℕ) (p : Part) (ps : List Part) → n ≤ p.reg.0 → tally n (p ∷ ps) ≡ tally n ps
unfolding tally
step_past zero p ps le = refl
step_past (suc n) p ps le =
    let h = step_past n p ps (omega arith) in
    let e : nat_eq p.reg.0 n ≡ false = grind (arith, nat_tests) in
    let here : one (nat_eq p.reg.0 n) ≡ 0 = ap one e in
    omega arith

within_more : (n : ℕ) (p : Part) (ps : List Part) → (p.reg.0 < n → tally n (p ∷ ps) ≡ suc (tally n ps)) → p.reg.0 < suc n → (t : Bool) → nat_eq p.reg.0 n ≡ t → tally n (p ∷ ps) + (one (nat_eq p.reg.0 n) + times n ps) ≡ suc (tally n ps + times n ps)
within_more n p ps so_far lt true e =
    let here : one (nat_eq p.reg.0 n) ≡ 1 = ap one e in
    let same : p.reg.0 ≡ n = grind (arith, nat_tests, e) in
    let h : tally n (p ∷ ps) ≡ tally n ps = step_past n p ps (omega arith) in
    omega arith
within_more n p ps so_far lt false e =
    let here : one (nat_eq p.reg.0 n) ≡ 0 = ap one e in
    let less : p.reg.0 < n = grind (arith, nat_tests, e) in
    let h = so_far less in
    omega arith

step_within : (n : ℕ) (p : Part) (ps : List Part) → p.reg.0 < n → tally n (p ∷ ps) ≡ suc (tally n ps)
unfolding tally
step_within zero p ps lt = absurd (omega arith)
step_within (suc n) p ps lt = within_more n p ps (step_within n p ps) lt (nat_eq p.reg.0 n) refl

tally-all : (n : ℕ) (ps : List Part) → Each (λ p. p.reg.0 < n) ps → tally n ps ≡ length ps
tally-all n [] below = tally-nil n
tally-all n (p ∷ ps) below =
    let h = step_within n p ps below.0 in
    let k = tally-all n ps below.1 in
    omega arith

tally-most : (n : ℕ) (ps : List Part) → ((r : ℕ) → times r ps ≤ 1) → tally n ps ≤ n
unfolding tally
tally-most zero ps once = omega arith
tally-most (suc n) ps once = let h = tally-most n ps once in let k = once n in omega arith

-- where each is of a register below n, and none of the same
pub few_parts : (n : ℕ) (ps : List Part) → Each (λ p. p.reg.0 < n) ps → ((r : ℕ) → times r ps ≤ 1) → length ps ≤ n
few_parts n ps below once = let h = tally-all n ps below in let k = tally-most n ps once in omega arith
