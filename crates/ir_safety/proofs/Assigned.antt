-- In the plain bodies of a valid module each register's definition comes first: what the rule of assignment says of the rows
-- with their new numbers.
use Rattle.std.proofs.Common.{◌≡◌, ◌⊎◌, inl, inr, ℕ, zero, suc, ◌<◌, List, [], ◌∷◌, ◌++◌, map, length, Option, Some, None, slice_get, All, Contains, refl, sym, ap, ◌∙◌, subst, arith}
use Rattle.std.specs.List.{flat_map, filter_map, cons_option}
use Rattle.std.specs.Option.{option_map}
use Rattle.std.proofs.lemmas.List.{length-map}
use Rattle.std.proofs.lemmas.Option.{slice_get_within, slice_get-map}
use Rattle.oi_base.specs.declared.ids.Place.{Place}
use Rattle.oi_base.specs.declared.ids.RegId.{RegId}
use Rattle.ir_core.specs.declared.flat.FlatOp.{FlatOp}
use Rattle.ir_core.specs.declared.flat.FlatOp.TheVariants.{Reg, Word, Null, Address, Poison}
use Rattle.ir_core.specs.declared.flat.Entry.{Entry}
use Rattle.ir_core.specs.declared.flat.Phi.{Phi}
use Rattle.ir_core.specs.declared.flat.FlatInstr.{FlatInstr}
use Rattle.ir_core.specs.declared.flat.FlatBlock.{FlatBlock}
use Rattle.ir_core.specs.declared.module.Module.{Module}
use Rattle.ir_core.specs.declared.op.LocalId.{LocalId}
use Rattle.ir_core.specs.declared.op.Operand.{Operand}
use Rattle.ir_core.specs.declared.func.Instr.{Instr}
use Rattle.ir_core.specs.declared.func.Block.{Block}
use Rattle.ir_core.specs.declared.func.Func.{Func}
use Rattle.ir_core.specs.Parts.{op_values, end_values, operand_locals, targets}
use Rattle.ir_core.specs.Instructions.{operand, terminator}
use Rattle.ir_core.specs.Formed.{IsBlock, IsEdge, IsPath, IsWritten, ComesIn, ComesFirst, used_by, used_at_end}
use Rattle.ir_core.specs.Plain.{other_operand, other_instr, other_phi, numbers, plain_body}
use Rattle.ir_core.specs.Proper.{IsProper, IsProperFunc}
use Rattle.ir_core.specs.Valid.{IsValid, IsValidFunc}
use Rattle.ir_core.specs.ValidPaths.{IsBlockOf, IsSuccessor, IsPathOf, Writes, IsAssigned, IsUse}
use Rattle.ir_core.proofs.Lists.{Has, has_at, at_has, contains, all_at, has_in, has_mapped, map_source, has_made, mapped}
use Rattle.ir_safety.proofs.Safe.{NotFalse, true_too, and_so, in_turn, each_too}
use Rattle.ir_safety.proofs.Elements.{one_at, left_at, split}
use Rattle.ir_safety.proofs.Registers.{param_first}
use Rattle.ir_safety.proofs.PlainEdges.{row, IsFrom, GoesFrom, block_of, block_there, edge_of, labelled}
use Rattle.ir_safety.proofs.PlainRows.{instr_row, phi_row}
use Rattle.ir_safety.proofs.PlainSources.{is_instr, Source, source_of, pair_of}
use Rattle.ir_safety.proofs.RowUses.{AreOf, is_local_name, row_of, end_of, no_phi, written_other, used_other, end_used_other, HasRow, result_row}

-- ---- lists

-- what the elements before a place are made into stands before place n of what is made
abbrev Earlier : {A B : Type 0} → (A → Option B) → List A → List B → ℕ → ℕ → Type 0
Earlier {A} {B} f xs made place n = (j : ℕ) (z : A) (w : B) → j < place → slice_get xs j ≡ Some z → f z ≡ Some w → (q : ℕ) × (q < n) × (slice_get made q ≡ Some w)

-- the element of which filter_map made what stands at place n
record Origin {A B : Type 0} (f : A → Option B) (xs : List A) (made : List B) (n : ℕ) (y : B) : Type 0 where
  place : ℕ
  element : A
  found : slice_get xs place ≡ Some element
  makes : f element ≡ Some y
  earlier : Earlier f xs made place n

module _ {A B : Type 0} (f : A → Option B) where
  earlier_past : (x : A) (xs : List A) (place n : ℕ) → f x ≡ None → Earlier f xs (filter_map f xs) place n → Earlier f (x ∷ xs) (filter_map f xs) (suc place) n
  earlier_past x xs place n none h zero z w lt found makes = let same : x ≡ z = cc in absurd cc
  earlier_past x xs place n none h (suc j) z w lt found makes = h j z w (omega (arith, lt)) found makes

  earlier_after : (x : A) (v : B) (xs : List A) (place n : ℕ) → f x ≡ Some v → Earlier f xs (filter_map f xs) place n → Earlier f (x ∷ xs) (v ∷ filter_map f xs) (suc place) (suc n)
  earlier_after x v xs place n e h zero z w lt found makes = let same : x ≡ z = cc in (0, omega arith, cc)
  earlier_after x v xs place n e h (suc j) z w lt found makes = let r = h j z w (omega (arith, lt)) found makes in let less = r.1 in (suc r.0, omega (arith, less), r.2)

  source_at : (xs : List A) (n : ℕ) (y : B) → slice_get (filter_map f xs) n ≡ Some y → Origin f xs (filter_map f xs) n y
  source_at [] n y e = absurd cc
  source_at (x ∷ xs) n y e = by_first (f x) n refl e (λ k g. source_at xs k y g)
    where
      by_first : (o : Option B) (n : ℕ) → f x ≡ o → slice_get (cons_option o (filter_map f xs)) n ≡ Some y → ((k : ℕ) → slice_get (filter_map f xs) k ≡ Some y → Origin f xs (filter_map f xs) k y) → Origin f (x ∷ xs) (cons_option o (filter_map f xs)) n y
      by_first None n o g rest = let r = rest n g in record { place = suc r.place; element = r.element; found = r.found; makes = r.makes; earlier = earlier_past x xs r.place n o r.earlier }
      by_first (Some v) zero o g rest = record { place = 0; element = x; found = refl; makes = o ∙ g; earlier = λ j z w lt found makes. absurd (omega (arith, lt)) }
      by_first (Some v) (suc n) o g rest = let r = rest n g in record { place = suc r.place; element = r.element; found = r.found; makes = r.makes; earlier = earlier_after x v xs r.place n o r.earlier }

  -- at the end all that is made stands before
  all_earlier : {C : Type 0} (h : B → C) (xs : List A) → Earlier f xs (filter_map f xs) (length xs) (length (map h (filter_map f xs)))
  all_earlier h xs j z w lt found makes =
      let r = at_has (filter_map f xs) w (has_made f xs z w (has_at xs j z found) makes) in
      (r.0, subst (λ (n : ℕ). r.0 < n) (sym (length-map (filter_map f xs) h)) (slice_get_within (filter_map f xs) r.0 w r.1), r.1)

-- ---- paths

-- the blocks of a path, the first first
abbrev in_order : List ℕ → List ℕ
in_order [] = []
in_order (b ∷ older) = in_order older ++ b ∷ []

is_older : (older : List ℕ) (a : ℕ) → Has (in_order older) a → Has older a
is_older [] a h = h
is_older (b ∷ older) a h = past (split (in_order older) (b ∷ []) a h) (λ g. is_older older a g)
  where
    past : Has (in_order older) a ⊎ Has (b ∷ []) a → (Has (in_order older) a → Has older a) → Has (b ∷ older) a
    past (inl g) rest = inr (rest g)
    past (inr (inl e)) rest = inl e
    past (inr (inr h)) rest = absurd h

abbrev Steps : Func → List ℕ → Type 0
Steps g [] = Unit {0}
Steps g (a ∷ []) = Unit {0}
Steps g (a ∷ b ∷ rest) = IsSuccessor g a b × Steps g (b ∷ rest)

step_at : (g : Func) (path : List ℕ) → Steps g path → (n a b : ℕ) → slice_get path n ≡ Some a → slice_get path (suc n) ≡ Some b → IsSuccessor g a b
step_at g [] s n a b p q = absurd cc
step_at g (x ∷ []) s n a b p q = absurd cc
step_at g (x ∷ y ∷ rest) s zero a b p q = let e : x ≡ a = cc in let h : y ≡ b = cc in subst (λ (z : ℕ). IsSuccessor g z b) e (subst (λ (z : ℕ). IsSuccessor g x z) h s.0)
step_at g (x ∷ y ∷ rest) s (suc n) a b p q = step_at g (y ∷ rest) s.1 n a b p q

step_more : (g : Func) (xs : List ℕ) (a b : ℕ) → Steps g (xs ++ a ∷ []) → IsSuccessor g a b → Steps g ((xs ++ a ∷ []) ++ b ∷ [])
step_more g [] a b s h = (h, tt)
step_more g (x ∷ []) a b s h = (s.0, (h, tt))
step_more g (x ∷ y ∷ ys) a b s h = (s.0, step_more g (y ∷ ys) a b s.1 h)

module _ (m : Module) (g : Func) where
  edge_step : (a b : ℕ) (l : FlatBlock) → IsEdge (plain_body m g) a b → IsBlock (plain_body m g) b l → IsSuccessor g a b
  edge_step a b l edge at = from (edge_of m g a b edge) (block_of m g b l at)
    where
      from : GoesFrom m g a b → IsFrom m g b l → IsSuccessor g a b
      from (c, at_c, (t, goes, to)) (d, at_d, same) =
          (c, d, at_c, at_d, subst (Contains (targets c.end)) (labelled g b d t at_d to) (contains (targets c.end) t goes))

  steps_of : (older : List ℕ) (b : ℕ) (k : FlatBlock) → IsPath (plain_body m g) (b ∷ older) → IsBlock (plain_body m g) b k → (slice_get (in_order (b ∷ older)) 0 ≡ Some 0) × Steps g (in_order (b ∷ older))
  steps_of [] b k p at = (ap Some p, tt)
  steps_of (a ∷ older) b k p at =
      let r = steps_of older a p.0.0 p.1 p.0.1 in
      (left_at (in_order (a ∷ older)) (b ∷ []) 0 0 r.0, step_more g (in_order older) a b r.1 (edge_step a b k p.0 at))

  -- a path of the body is one of the function
  is_path : (older : List ℕ) (b : ℕ) (k : FlatBlock) → IsPath (plain_body m g) (b ∷ older) → IsBlock (plain_body m g) b k → IsPathOf g (in_order older ++ b ∷ [])
  is_path older b k p at = let r = steps_of older b k p at in (r.0, λ n x y e h. step_at g (in_order (b ∷ older)) r.1 n x y e h)

  -- ---- what comes in on a path

  comes_param : (older : List ℕ) (r : ℕ) → r < length g.params → ComesIn (plain_body m g) older r
  comes_param [] r lt = lt
  comes_param (b ∷ older) r lt = inr (comes_param older r lt)

  comes_in : (older : List ℕ) (a : ℕ) (c : Block) (r : ℕ) → Has older a → IsBlockOf g a c → IsWritten (row m g c) (length (row m g c).code) r → ComesIn (plain_body m g) older r
  comes_in [] a c r h at w = absurd h
  comes_in (b ∷ older) a c r (inl e) at w = inl (row m g c, subst (λ (z : ℕ). IsBlock (plain_body m g) z (row m g c)) (sym e) (block_there m g a c at), w)
  comes_in (b ∷ older) a c r (inr h) at w = inr (comes_in older a c r h at w)

-- ---- what comes first

module _ (m : Module) (g : Func) (proper : IsProperFunc g) (rules : IsValidFunc m g) where
  -- what one of the first instructions of a block writes, a phi of its rows or one of their first instructions writes
  written_at : (c : Block) (p n : ℕ) → Has g.blocks c → Earlier (instr_row m) c.code (filter_map (instr_row m) c.code) p n → (d : LocalId) → Writes c p d → NotFalse (IsWritten (row m g c) n ((numbers g).reg d.0))
  written_at c p n hc earlier d w = in_turn (result_row m g proper rules w.1 d (is_instr g c hc w.1 here) w.4) by_row
    where
      here : Has c.code w.1
      here = has_at c.code w.0 w.1 w.3

      by_row : HasRow m d w.1.result w.1.op → IsWritten (row m g c) n ((numbers g).reg d.0)
      by_row (inl q) =
          let stands : Has (filter_map (phi_row m) c.code) q.0 = has_made (phi_row m) c.code w.1 q.0 here q.1 in
          let other : Has (map (λ (f : Phi). f.reg.0) (row m g c).phis) ((numbers g).reg q.0.reg.0) = has_mapped (λ (f : Phi). f.reg.0) (row m g c).phis (other_phi (numbers g) q.0) (has_mapped (other_phi (numbers g)) (filter_map (phi_row m) c.code) q.0 stands) in
          inl (contains (map (λ (f : Phi). f.reg.0) (row m g c).phis) ((numbers g).reg d.0) (subst (λ (z : ℕ). Has (map (λ (f : Phi). f.reg.0) (row m g c).phis) ((numbers g).reg z)) q.2 other))
      by_row (inr r) =
          let at = earlier w.0 w.1 r.0 w.2 w.3 r.1 in
          inr (at.0, other_instr (numbers g) r.0, at.1, slice_get-map (other_instr (numbers g)) (filter_map (instr_row m) c.code) at.0 ∙ ap (option_map (other_instr (numbers g))) at.2, written_other (numbers g) r.0 ∙ ap (option_map (numbers g).reg) r.2)

  -- before n rows of a block, of its first p instructions, on a path
  module _ (older : List ℕ) (b p n : ℕ) (c : Block) (found : IsBlockOf g b c) (earlier : Earlier (instr_row m) c.code (filter_map (instr_row m) c.code) p n) where
    abbrev IsThere : ℕ → Type 0
    IsThere r = IsWritten (row m g c) n r ⊎ ComesIn (plain_body m g) older r

    -- what is assigned comes first
    is_there : (d : LocalId) → IsAssigned g (in_order older) b p d → NotFalse (IsThere ((numbers g).reg d.0))
    is_there d (inl q) = true_too (inr (comes_param m g older ((numbers g).reg d.0) (param_first g d q)))
    is_there d (inr (inl k)) =
        let w : Writes c p d = subst (λ (z : Block). Writes z p d) (one_at (slice_get g.blocks b) k.0 c k.1 found) k.2 in
        in_turn (written_at c p n (has_at g.blocks b c found) earlier d w) (λ w. inl w)
    is_there d (inr (inr k)) =
        let l : Block = k.1 in
        in_turn (written_at l (length l.code) (length (row m g l).code) (has_at g.blocks k.0 l k.3) (all_earlier (instr_row m) (other_instr (numbers g)) l.code) d k.4)
        (λ w. inr (comes_in m g older k.0 l ((numbers g).reg d.0) (is_older older k.0 (has_in (in_order older) k.0 k.2)) k.3 w))

    only_registers : (o : FlatOp) → ((x : RegId) → o ≡ Reg x → NotFalse (IsThere ((numbers g).reg x.0))) → NotFalse (ComesFirst (plain_body m g) older (row m g c) n (other_operand (numbers g) o))
    only_registers (Reg x) h = h x refl
    only_registers (Word a) h = true_too tt
    only_registers Null h = true_too tt
    only_registers (Address i k) h = true_too tt
    only_registers Poison h = true_too tt

    all_first : (vs : List Operand) (os : List FlatOp) → AreOf vs os → ((d : LocalId) → Has (flat_map operand_locals vs) d → NotFalse (IsAssigned g (in_order older) b p d))
        → NotFalse (All (ComesFirst (plain_body m g) older (row m g c) n) (map (other_operand (numbers g)) os))
    all_first vs os are assigned = each_too (ComesFirst (plain_body m g) older (row m g c) n) (map (other_operand (numbers g)) os) (λ o h.
        let s = map_source (other_operand (numbers g)) os o (has_in (map (other_operand (numbers g)) os) o h) in
        subst (λ (z : FlatOp). NotFalse (ComesFirst (plain_body m g) older (row m g c) n z)) s.2
        (only_registers s.0 (λ x e. and_so (assigned (record { 0 = x.0 }) (are x (subst (Has os) e s.1))) (λ a. is_there (record { 0 = x.0 }) a))))

    -- by the rule, what is used is assigned
    assigned_for : IsPathOf g (in_order older ++ b ∷ []) → (place : Place) (d : LocalId) → IsUse g b p d place → NotFalse (IsAssigned g (in_order older) b p d)
    assigned_for path place d used not = rules.assignment place (in_order older, b, d, (p, path, used, not))

  -- each operand of a row of a block on a path
  in_code : (b : ℕ) (older : List ℕ) (c : Block) (n : ℕ) (i : FlatInstr) → IsPathOf g (in_order older ++ b ∷ []) → IsBlockOf g b c → slice_get (row m g c).code n ≡ Some i
      → NotFalse (All (ComesFirst (plain_body m g) older (row m g c) n) (used_by i))
  in_code b older c n i path found e =
      let o = mapped (other_instr (numbers g)) (slice_get (filter_map (instr_row m) c.code) n) i (sym (slice_get-map (other_instr (numbers g)) (filter_map (instr_row m) c.code) n) ∙ e) in
      let s = source_at (instr_row m) c.code n o.0 o.1 in
      let j : Instr = s.element in
      let are : AreOf (op_values j.op) (used_by o.0) = row_of m j.result j.op o.0 s.makes in
      let used : (d : LocalId) → Has (flat_map operand_locals (op_values j.op)) d → IsUse g b s.place d j.place = λ d h. inl (c, j, found, s.found, refl, no_phi m j.result j.op o.0 s.makes, contains (flat_map operand_locals (op_values j.op)) d h) in
      subst (λ (z : FlatInstr). NotFalse (All (ComesFirst (plain_body m g) older (row m g c) n) (used_by z))) o.2
      (subst (λ (os : List FlatOp). NotFalse (All (ComesFirst (plain_body m g) older (row m g c) n) os)) (sym (used_other (numbers g) o.0))
      (all_first older b s.place n c found s.earlier (op_values j.op) (used_by o.0) are (λ d h. assigned_for older b s.place n c found s.earlier path j.place d (used d h))))

  at_end : (b : ℕ) (older : List ℕ) (c : Block) → IsPathOf g (in_order older ++ b ∷ []) → IsBlockOf g b c
      → NotFalse (All (ComesFirst (plain_body m g) older (row m g c) (length (row m g c).code)) (used_at_end (row m g c).end))
  at_end b older c path found =
      let n : ℕ = length (row m g c).code in
      let earlier : Earlier (instr_row m) c.code (filter_map (instr_row m) c.code) (length c.code) n = all_earlier (instr_row m) (other_instr (numbers g)) c.code in
      let used : (d : LocalId) → Has (flat_map operand_locals (end_values c.end)) d → IsUse g b (length c.code) d c.end_place = λ d h. inr (inl (c, found, refl, refl, contains (flat_map operand_locals (end_values c.end)) d h)) in
      subst (λ (os : List FlatOp). NotFalse (All (ComesFirst (plain_body m g) older (row m g c) n) os)) (sym (end_used_other (numbers g) (terminator m c.end)))
      (all_first older b (length c.code) n c found earlier (end_values c.end) (used_at_end (terminator m c.end)) (end_of m c.end) (λ d h. assigned_for older b (length c.code) n c found earlier path c.end_place d (used d h)))

  in_phi : (b : ℕ) (older : List ℕ) (c l : Block) (entries : List Entry) (e : Entry) → IsPathOf g (in_order older ++ b ∷ []) → IsBlockOf g b c
      → Has g.blocks l → Source m g l entries → Has entries e → e.from.0 ≡ b
      → NotFalse (ComesFirst (plain_body m g) older (row m g c) (length (row m g c).code) e.value)
  in_phi b older c l entries e path found hl s he from =
      let v = pair_of m g l entries s e he in
      let n : ℕ = length (row m g c).code in
      let earlier : Earlier (instr_row m) c.code (filter_map (instr_row m) c.code) (length c.code) n = all_earlier (instr_row m) (other_instr (numbers g)) c.code in
      let label : v.0.from ≡ c.label = labelled g b c v.0.from found (subst (λ (z : Entry). z.from.0 ≡ b) (sym v.2) from) in
      let used : (r : RegId) → operand m s.ty v.0.value ≡ Reg r → IsUse g b (length c.code) (record { 0 = r.0 }) s.instr.place = λ r h.
      inr (inr (c, l, s.instr, s.ty, s.pairs, v.0, found, refl, contains g.blocks l hl, contains l.code s.instr s.stands, refl, s.is_phi, contains s.pairs v.0 v.1, label, is_local_name m s.ty v.0.value r h)) in
      subst (λ (z : Entry). NotFalse (ComesFirst (plain_body m g) older (row m g c) n z.value)) v.2
      (only_registers older b (length c.code) n c found earlier (operand m s.ty v.0.value) (λ r h.
      and_so (assigned_for older b (length c.code) n c found earlier path s.instr.place (record { 0 = r.0 }) (used r h))
      (λ a. is_there older b (length c.code) n c found earlier (record { 0 = r.0 }) a)))

-- ---- the bodies of a module

module _ (m : Module) (proper : IsProper m) (valid : IsValid m) (x : ℕ) (g : Func) (at : slice_get m.funcs x ≡ Some g) where
  func_proper : IsProperFunc g
  func_proper = all_at IsProperFunc m.funcs x g proper.each_func at

  func_rules : IsValidFunc m g
  func_rules = all_at (IsValidFunc m) m.funcs x g valid.each_func at

  pub code_comes_first : (b : ℕ) (older : List ℕ) (k : FlatBlock) (n : ℕ) (i : FlatInstr) → IsPath (plain_body m g) (b ∷ older) → IsBlock (plain_body m g) b k → slice_get k.code n ≡ Some i → NotFalse (All (ComesFirst (plain_body m g) older k n) (used_by i))
  code_comes_first b older k n i path there e =
      let c = block_of m g b k there in
      subst (λ (l : FlatBlock). NotFalse (All (ComesFirst (plain_body m g) older l n) (used_by i))) c.2
      (in_code m g func_proper func_rules b older c.0 n i (is_path m g older b k path there) c.1 (subst (λ (l : FlatBlock). slice_get l.code n ≡ Some i) (sym c.2) e))

  pub end_comes_first : (b : ℕ) (older : List ℕ) (k : FlatBlock) → IsPath (plain_body m g) (b ∷ older) → IsBlock (plain_body m g) b k → NotFalse (All (ComesFirst (plain_body m g) older k (length k.code)) (used_at_end k.end))
  end_comes_first b older k path there =
      let c = block_of m g b k there in
      subst (λ (l : FlatBlock). NotFalse (All (ComesFirst (plain_body m g) older l (length l.code)) (used_at_end l.end))) c.2
      (at_end m g func_proper func_rules b older c.0 (is_path m g older b k path there) c.1)

  pub phi_comes_first : (b c : ℕ) (older : List ℕ) (k l : FlatBlock) (f : Phi) (e : Entry) → IsPath (plain_body m g) (c ∷ b ∷ older) → IsBlock (plain_body m g) b k → IsBlock (plain_body m g) c l → Contains l.phis f → Contains f.entries e → e.from.0 ≡ b
      → NotFalse (ComesFirst (plain_body m g) older k (length k.code) e.value)
  phi_comes_first b c older k l f e path there to hf he from =
      let s = block_of m g b k there in
      let t = block_of m g c l to in
      let made : Source m g t.0 f.entries = source_of m g t.0 f (subst (λ (z : FlatBlock). Has z.phis f) (sym t.2) (has_in l.phis f hf)) in
      subst (λ (z : FlatBlock). NotFalse (ComesFirst (plain_body m g) older z (length z.code) e.value)) s.2
      (in_phi m g func_proper func_rules b older s.0 t.0 f.entries e (is_path m g older b k path.1 there) s.1 (has_at g.blocks c t.0 t.1) made (has_in f.entries e he) from)
