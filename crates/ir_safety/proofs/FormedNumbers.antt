-- The registers and blocks of a plain body: each register is written once and is no parameter, all have numbers below the count of
-- registers, targets are blocks, and none is the entry block.
use Rattle.std.proofs.Common.{◌≡◌, ◌≢◌, inr, ℕ, suc, ◌<◌, ◌≤◌, ◌==◌, Bool, true, false, List, [], ◌∷◌, ◌++◌, map, length, Option, Some, None, slice_get, All, Contains, refl, sym, ap, ◌∙◌, subst, arith}
use Rattle.std.specs.Prelude.{AllPairs}
use Rattle.std.specs.List.{flat_map, filter_map, cons_option, AllByRecursion as Each}
use Rattle.std.specs.Option.{option_map}
use Rattle.std.proofs.lemmas.Bool.Decides.{nat_tests}
use Rattle.std.proofs.lemmas.List.{map-append, length-append, length-map}
use Rattle.std.proofs.lemmas.List.Folds.{flat_map-map}
use Rattle.std.proofs.lemmas.List.Elements.{All-from_recursion}
use Rattle.ir_core.specs.declared.flat.Phi.{Phi}
use Rattle.ir_core.specs.declared.flat.FlatInstr.{FlatInstr}
use Rattle.ir_core.specs.declared.flat.FlatBlock.{FlatBlock}
use Rattle.ir_core.specs.declared.module.Module.{Module}
use Rattle.ir_core.specs.declared.op.LocalId.{LocalId}
use Rattle.ir_core.specs.declared.func.Instr.{Instr}
use Rattle.ir_core.specs.declared.func.Block.{Block}
use Rattle.ir_core.specs.declared.func.Func.{Func}
use Rattle.ir_core.specs.declared.func.Param.{Param}
use Rattle.ir_core.specs.Parts.{targets}
use Rattle.ir_core.specs.Formed.{IsEdge, written_by, writes, all_writes}
use Rattle.ir_core.specs.Instructions.{block_rows}
use Rattle.ir_core.specs.Plain.{Numbers, other_phi, other_instr, renumbered, numbers, results, registers, plain_body}
use Rattle.ir_core.specs.Proper.{IsProper, IsProperFunc}
use Rattle.ir_core.specs.Valid.{IsValid, IsValidFunc}
use Rattle.ir_core.proofs.Lists.{Has, Apart, each_of, each_from, has_at, has_right, has_part, has_made, has_mapped, has_source, map_source, contains, all_at, element, mapped_parts, place, place_within}
use Rattle.ir_core.proofs.SoundRules.{same_name}
use Rattle.ir_safety.proofs.Elements.{each_joined, in_part, mapped_twice, one_key}
use Rattle.ir_safety.proofs.RowUses.{written_other}
use Rattle.ir_safety.proofs.PlainEdges.{row, GoesFrom, edge_of, labelled}
use Rattle.ir_safety.proofs.PlainRows.{instr_row, phi_row, writes_result, phi_is, phi_alone}
use Rattle.ir_safety.proofs.Once.{apart_between, apart_parts, apart_made, pairs_differ, result_names, own_names, blocks_once, no_param}

-- ---- what the rows of some instructions write

module _ (m : Module) where
  abbrev pub phi_names : List Instr → List ℕ
  phi_names code = map (λ (q : Phi). q.reg.0) (filter_map (phi_row m) code)

  abbrev pub row_names : List Instr → List ℕ
  row_names code = filter_map written_by (filter_map (instr_row m) code)

  abbrev pub written_names : List Instr → List ℕ
  written_names code = phi_names code ++ row_names code

  is_result : (code : List Instr) (i : Instr) (x : ℕ) → Has code i → i.result ≡ Some (record { 0 = x }) → Has (result_names code) x
  is_result code i x h e = has_mapped (λ (y : LocalId). y.0) (filter_map (λ (j : Instr). j.result) code) (record { 0 = x }) (has_made (λ (j : Instr). j.result) code i (record { 0 = x }) h e)

  by_phi : (code : List Instr) (x : ℕ) → Has (phi_names code) x → Has (result_names code) x
  by_phi code x h =
      let q = map_source (λ (q : Phi). q.reg.0) (filter_map (phi_row m) code) x h in
      let i = has_source (phi_row m) code q.0 q.1 in
      subst (Has (result_names code)) q.2 (is_result code i.0 q.0.reg.0 i.1 (phi_is m i.0.result i.0.op q.0 i.2).result)

  by_row : (code : List Instr) (x : ℕ) → Has (row_names code) x → Has (result_names code) x
  by_row code x h =
      let w = has_source written_by (filter_map (instr_row m) code) x h in
      let i = has_source (instr_row m) code w.0 w.1 in
      is_result code i.0 x i.1 (writes_result m i.0.result i.0.op w.0 x i.2 w.2)

  -- what is written is a result
  pub is_named : (code : List Instr) (x : ℕ) → Has (written_names code) x → Has (result_names code) x
  is_named code x h =
      let phis : Each (Has (result_names code)) (phi_names code) = each_from (Has (result_names code)) (phi_names code) (by_phi code) in
      let rows : Each (Has (result_names code)) (row_names code) = each_from (Has (result_names code)) (row_names code) (by_row code) in
      each_of (Has (result_names code)) (written_names code) x (each_joined (Has (result_names code)) (phi_names code) (row_names code) phis rows) h

  after : (r : Option LocalId) (xs : List LocalId) → Apart (map (λ (x : LocalId). x.0) (cons_option r xs)) → Apart (map (λ (x : LocalId). x.0) xs)
  after None xs a = a
  after (Some x) xs a = a.1

  -- and written once where no result is named twice
  code_once : (code : List Instr) → Apart (result_names code) → Apart (written_names code)
  code_once [] a = tt
  code_once (i ∷ is) a = first (phi_row m i) refl (code_once is (after i.result (filter_map (λ (j : Instr). j.result) is) a))
    where
      away : (x : ℕ) → i.result ≡ Some (record { 0 = x }) → Each (λ y. x ≢ y) (written_names is)
      away x e =
          let front = subst (λ (r : Option LocalId). Apart (map (λ (y : LocalId). y.0) (cons_option r (filter_map (λ (j : Instr). j.result) is)))) e a in
          each_from (λ (y : ℕ). x ≢ y) (written_names is) (λ y h. each_of (λ (z : ℕ). x ≢ z) (result_names is) y front.0 (is_named is y h))

      by_written : (w : FlatInstr) → instr_row m i ≡ Some w → (o : Option ℕ) → written_by w ≡ o → Apart (written_names is) → Apart (phi_names is ++ cons_option o (row_names is))
      by_written w e None is_o rest = rest
      by_written w e (Some x) is_o rest = apart_between (phi_names is) (row_names is) x rest (away x (writes_result m i.result i.op w x e is_o))

      second : (o : Option FlatInstr) → instr_row m i ≡ o → Apart (written_names is) → Apart (phi_names is ++ filter_map written_by (cons_option o (filter_map (instr_row m) is)))
      second None e rest = rest
      second (Some w) e rest = by_written w e (written_by w) refl rest

      first : (o : Option Phi) → phi_row m i ≡ o → Apart (written_names is) → Apart (map (λ (q : Phi). q.reg.0) (cons_option o (filter_map (phi_row m) is)) ++ row_names (i ∷ is))
      first None e rest = second (instr_row m i) refl rest
      first (Some q) e rest =
          subst (λ (o : Option FlatInstr). Apart (q.reg.0 ∷ (phi_names is ++ filter_map written_by (cons_option o (filter_map (instr_row m) is))))) (sym (phi_alone m i.result i.op q e))
          (away q.reg.0 (phi_is m i.result i.op q e).result, rest)

-- ---- other numbers

module _ (n : Numbers) where
  code_other : (code : List FlatInstr) → filter_map written_by (map (other_instr n) code) ≡ map n.reg (filter_map written_by code)
  code_other [] = refl
  code_other (i ∷ is) =
      ap (λ o. cons_option o (filter_map written_by (map (other_instr n) is))) (written_other n i)
      ∙ ap (λ ys. cons_option (option_map n.reg (written_by i)) ys) (code_other is) ∙ past (written_by i)
    where
      past : (o : Option ℕ) → cons_option (option_map n.reg o) (map n.reg (filter_map written_by is)) ≡ map n.reg (cons_option o (filter_map written_by is))
      past None = refl
      past (Some x) = refl

  phis_other : (qs : List Phi) → map (λ (q : Phi). q.reg.0) (map (other_phi n) qs) ≡ map n.reg (map (λ (q : Phi). q.reg.0) qs)
  phis_other qs = mapped_twice (λ (q : Phi). q.reg.0) (other_phi n) qs ∙ sym (mapped_twice n.reg (λ (q : Phi). q.reg.0) qs)

  writes_other : (k : FlatBlock) → writes (renumbered n k) ≡ map n.reg (writes k)
  writes_other k =
      ap (λ xs. xs ++ filter_map written_by (map (other_instr n) k.code)) (phis_other k.phis)
      ∙ ap (λ ys. map n.reg (map (λ (q : Phi). q.reg.0) k.phis) ++ ys) (code_other k.code)
      ∙ sym (map-append n.reg (map (λ (q : Phi). q.reg.0) k.phis) (filter_map written_by k.code))

-- ---- the numbers of registers

abbrev name : LocalId → ℕ
name x = x.0

module _ (f : Func) where
  abbrev pub number : ℕ → ℕ
  number x = place name (registers f) x

  -- what is named has a number of its own
  one_number : (x y : ℕ) → Has (registers f) (record { 0 = x }) → number x ≡ number y → x ≡ y
  one_number x y h same = one_key name (registers f) x y (place_within name (registers f) (record { 0 = x }) h) same

-- what no parameter is named has a number after theirs
past_params : (ps : List Param) (ys : List LocalId) (x : ℕ) → Each (λ (p : ℕ). p ≢ x) (map (λ (q : Param). q.name.0) ps) → length ps ≤ place name (map (λ (q : Param). q.name) ps ++ ys) x
past_params [] ys x e = omega arith
past_params (p ∷ ps) ys x e = by_test (p.name.0 == x) refl (past_params ps ys x e.1)
  where
    by_test : (t : Bool) → (p.name.0 == x) ≡ t → length ps ≤ place name (map (λ (q : Param). q.name) ps ++ ys) x
        → suc (length ps) ≤ place name (p.name ∷ (map (λ (q : Param). q.name) ps ++ ys)) x
    by_test true t rest = absurd (e.0 (grind (arith, nat_tests)))
    by_test false t rest = rw t (omega (arith, rest))

-- ---- what is written in a function

module _ (m : Module) (f : Func) where
  abbrev pub all_named : List ℕ
  all_named = flat_map (λ (b : Block). written_names m b.code) f.blocks

  pub writes_all : all_writes (plain_body m f) ≡ map (numbers f).reg all_named
  writes_all =
      flat_map-map writes (row m f) f.blocks
      ∙ sym (mapped_parts (numbers f).reg (λ (b : Block). written_names m b.code) (λ (b : Block). writes (row m f b)) (λ b. sym (writes_other (numbers f) (block_rows m b))) f.blocks)

  own_name : (x : ℕ) → Has all_named x → Has (flat_map own_names f.blocks) x
  own_name x h =
      let b = in_part (λ (b : Block). written_names m b.code) f.blocks x h in
      has_part own_names f.blocks b.0 x b.1 (inr (is_named m b.0.code x b.2))

  is_register : (x : ℕ) → Has all_named x → Has (registers f) (record { 0 = x })
  is_register x h =
      let b = in_part (λ (b : Block). written_names m b.code) f.blocks x h in
      let y = map_source name (results b.0) x (is_named m b.0.code x b.2) in
      let there : Has (results b.0) (record { 0 = x }) = subst (Has (results b.0)) (same_name y.0 (record { 0 = x }) y.2) y.1 in
      has_right (map (λ (q : Param). q.name) f.params) (flat_map results f.blocks) (record { 0 = x }) (has_part results f.blocks b.0 (record { 0 = x }) b.1 there)

  named_once : IsValidFunc m f → Apart all_named
  named_once rules =
      apart_parts (λ (b : Block). written_names m b.code) own_names (λ b a. code_once m b.code a.1) (λ b x h. inr (is_named m b.code x h)) f.blocks (blocks_once m f rules)

module _ (m : Module) (proper : IsProper m) (valid : IsValid m) (g : ℕ) (f : Func) (at : slice_get m.funcs g ≡ Some f) where
  rules : IsValidFunc m f
  rules = all_at (IsValidFunc m) m.funcs g f valid.each_func at

  is_proper : IsProperFunc f
  is_proper = all_at IsProperFunc m.funcs g f proper.each_func at

  -- no register is written twice
  pub written_once : AllPairs (λ (r s : ℕ). r ≢ s) (all_writes (plain_body m f))
  written_once =
      subst (AllPairs (λ (r s : ℕ). r ≢ s)) (sym (writes_all m f))
      (pairs_differ (map (numbers f).reg (all_named m f))
      (apart_made (numbers f).reg (all_named m f) (named_once m f rules) (λ x y h k e. one_number f x y (is_register m f x h) e)))

  -- what is written is a register and no parameter
  pub written : All (λ (r : ℕ). (length f.params ≤ r) × (r < length (registers f))) (all_writes (plain_body m f))
  written =
      subst (All IsIn) (sym (writes_all m f)) (All-from_recursion IsIn (map (numbers f).reg (all_named m f)) (each_from IsIn (map (numbers f).reg (all_named m f)) is_in))
    where
      IsIn : ℕ → Type 0
      IsIn r = (length f.params ≤ r) × (r < length (registers f))

      is_in : (r : ℕ) → Has (map (numbers f).reg (all_named m f)) r → IsIn r
      is_in r h =
          let x = map_source (numbers f).reg (all_named m f) r h in
          let after : length f.params ≤ (numbers f).reg x.0 = past_params f.params (flat_map results f.blocks) x.0 (no_param m f rules x.0 (own_name m f x.0 x.1)) in
          subst IsIn x.2 (after, place_within name (registers f) (record { 0 = x.0 }) (is_register m f x.0 x.1))

  -- ---- parameters, targets and the entry block

  pub few_params : (length f.params ≤ 8) × (length f.params ≤ length (registers f))
  few_params =
      let first : length (map (λ (q : Param). q.name) f.params) ≡ length f.params = length-map f.params (λ (q : Param). q.name) in
      let all = length-append (map (λ (q : Param). q.name) f.params) (flat_map results f.blocks) in
      (is_proper.params, omega (arith, first, all))

  pub no_way_back : (a : ℕ) → IsEdge (plain_body m f) a 0 → ⊥
  no_way_back a h = from (edge_of m f a 0 h)
    where
      from : GoesFrom m f a 0 → ⊥
      from (c, at_c, (x, goes, to)) =
          let b = element f.blocks 0 is_proper.has_blocks in
          rules.entry c.end_place
          (b.0, b.1, (c, contains f.blocks c (has_at f.blocks a c at_c), refl, subst (Contains (targets c.end)) (labelled f 0 b.0 x b.1 to) (contains (targets c.end) x goes)))
