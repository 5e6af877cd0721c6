-- The sites of a module: callers ascend, callers and callees are functions, and there are as many as there are calls of functions.
use Rattle.std.proofs.Common.{◌≡◌, ◌⊎◌, inl, inr, ⊎_elim, ℕ, zero, suc, ◌+◌, ◌<◌, ◌≤◌, ◌==◌, Bool, true, false, cond, List, [], ◌∷◌, ◌++◌, length, filter, Option, Some, None, slice_get, refl, sym, ap, ◌∙◌, subst, arith}
use Rattle.std.specs.List.{flat_map, filter_map, cons_option, position_from, list_any}
use Rattle.std.specs.Option.{option_map}
use Rattle.std.proofs.lemmas.Grind.{flat_map-append}
use Rattle.std.proofs.lemmas.List.{length-append}
use Rattle.std.proofs.lemmas.Option.{slice_get_within}
use Rattle.oi_base.specs.declared.ids.FuncId.{FuncId}
use Rattle.ir_core.specs.declared.module.SymId.{SymId}
use Rattle.ir_core.specs.declared.module.Module.{Module}
use Rattle.ir_core.specs.declared.op.Op.{Op}
use Rattle.ir_core.specs.declared.op.Op.TheVariants as ops
use Rattle.ir_core.specs.declared.func.Instr.{Instr}
use Rattle.ir_core.specs.declared.func.Block.{Block}
use Rattle.ir_core.specs.declared.func.Func.{Func}
use Rattle.ir_core.specs.Parts.{op_callee, instrs, is_defined, sites}
use Rattle.call_graph.specs.declared.sites.Site.{Site}
use Rattle.call_graph.specs.Sites.{is_named, site_of, block_sites, func_sites, sites_from, all_sites}
use Rattle.strong_components.specs.declared.edge.Edge.{Edge}
use Rattle.strong_components.specs.Walk.{IsSorted, AreEdges}
use Rattle.call_graph.specs.Edges.{edge_of, edges_of}
use Rattle.call_graph.proofs.Nodes.{edge_site}
use Rattle.strong_components.proofs.Sorted.{append_cases}

-- ---- what holds of every element

abbrev Every : {A : Type 0} → (A → Type 0) → List A → Type 0
Every P [] = Unit {0}
Every P (x ∷ xs) = P x × Every P xs

every_append : {A : Type 0} (P : A → Type 0) (xs ys : List A) → Every P xs → Every P ys → Every P (xs ++ ys)
every_append P [] ys e f = f
every_append P (x ∷ xs) ys e f = (e.0, every_append P xs ys e.1 f)

every_at : {A : Type 0} (P : A → Type 0) (xs : List A) (k : ℕ) (x : A) → Every P xs → slice_get xs k ≡ Some x → P x
every_at P [] k x e at = absurd (let clash : None ≡ Some x = at in cc)
every_at P (y ∷ ys) zero x e at = let same : y ≡ x = cc in subst P same e.0
every_at P (y ∷ ys) (suc k) x e at = every_at P ys k x e.1 at

every_wider : {A : Type 0} (P Q : A → Type 0) (xs : List A) → ((x : A) → P x → Q x) → Every P xs → Every Q xs
every_wider P Q [] f e = tt
every_wider P Q (x ∷ xs) f e = (f x e.0, every_wider P Q xs f e.1)

every_made : {A B : Type 0} (P : B → Type 0) (f : A → Option B) (xs : List A) → ((x : A) (y : B) → f x ≡ Some y → P y) → Every P (filter_map f xs)
every_made P f [] h = tt
every_made {A} {B} P f (x ∷ xs) h = by_first (f x) refl (every_made P f xs h)
  where
    by_first : (o : Option B) → f x ≡ o → Every P (filter_map f xs) → Every P (cons_option o (filter_map f xs))
    by_first None e rest = rest
    by_first (Some y) e rest = (h x y e, rest)

every_flat : {A B : Type 0} (P : B → Type 0) (f : A → List B) (xs : List A) → ((x : A) → Every P (f x)) → Every P (flat_map f xs)
every_flat P f [] h = tt
every_flat P f (x ∷ xs) h = every_append P (f x) (flat_map f xs) (h x) (every_flat P f xs h)

-- ---- one site

found_within : (p : Func → Bool) (i : ℕ) (fs : List Func) (n : ℕ) → position_from p i fs ≡ Some n → n < i + length fs
found_within p i [] n e = absurd (let clash : None ≡ Some n = e in cc)
found_within p i (f ∷ fs) n e = by_test (p f) refl (found_within p (i + 1) fs n) e
  where
    by_test : (t : Bool) → p f ≡ t → (position_from p (i + 1) fs ≡ Some n → n < i + 1 + length fs) → cond t (Some i) (position_from p (i + 1) fs) ≡ Some n → n < i + suc (length fs)
    by_test true t rest h = let same : i ≡ n = cc in omega (arith, same)
    by_test false t rest h = let l = rest h in omega (arith, l)

-- a site of a function: its caller is that function, and its callee is defined
abbrev IsSiteOf : List Func → FuncId → Site → Type 0
IsSiteOf funcs caller s = (s.caller ≡ caller) × (s.callee.0 < length funcs)

made_of : (funcs : List Func) (caller : FuncId) (i : Instr) (o : Option ℕ) (s : Site) → ((n : ℕ) → o ≡ Some n → n < length funcs) → option_map (λ (callee : FuncId). record { caller = caller; callee = callee; place = i.place }) (option_map (λ (n : ℕ). record { 0 = n }) o) ≡ Some s → IsSiteOf funcs caller s
made_of funcs caller i None s h e = absurd (let clash : None ≡ Some s = e in cc)
made_of funcs caller i (Some n) s h e =
    let same : record { caller = caller; callee = record { 0 = n }; place = i.place } ≡ s = cc in
    subst (IsSiteOf funcs caller) same (refl, h n refl)

site_made : (funcs : List Func) (caller : FuncId) (i : Instr) (s : Site) → site_of funcs caller i ≡ Some s → IsSiteOf funcs caller s
site_made funcs caller i s e = by_op i.op refl
  where
    named : (x : SymId) (n : ℕ) → position_from (is_named x) 0 funcs ≡ Some n → n < length funcs
    named x n found = let l = found_within (is_named x) 0 funcs n found in omega (arith, l)

    nothing : (op : Op) → i.op ≡ op → site_of funcs caller (record i { op = op }) ≡ None → IsSiteOf funcs caller s
    nothing op same none = let clash : None ≡ Some s = sym none ∙ ap (λ (o : Op). site_of funcs caller (record i { op = o })) (sym same) ∙ e in absurd cc

    by_op : (op : Op) → i.op ≡ op → IsSiteOf funcs caller s
    by_op (ops.Bin op t a b) same = nothing (ops.Bin op t a b) same refl
    by_op (ops.Icmp c t a b) same = nothing (ops.Icmp c t a b) same refl
    by_op (ops.Select c a b) same = nothing (ops.Select c a b) same refl
    by_op (ops.Cast c a t) same = nothing (ops.Cast c a t) same refl
    by_op (ops.Alloca t n align) same = nothing (ops.Alloca t n align) same refl
    by_op (ops.Load t a align) same = nothing (ops.Load t a align) same refl
    by_op (ops.Store a p align) same = nothing (ops.Store a p align) same refl
    by_op (ops.Gep t a is) same = nothing (ops.Gep t a is) same refl
    by_op (ops.Phi t es) same = nothing (ops.Phi t es) same refl
    by_op (ops.Call t x args) same =
        made_of funcs caller i (position_from (is_named x) 0 funcs) s (named x) (ap (λ (o : Op). site_of funcs caller (record i { op = o })) (sym same) ∙ e)

func_made : (funcs : List Func) (caller : FuncId) (f : Func) → Every (IsSiteOf funcs caller) (func_sites funcs caller f)
func_made funcs caller f = every_flat (IsSiteOf funcs caller) (block_sites funcs caller) f.blocks (λ b. every_made (IsSiteOf funcs caller) (site_of funcs caller) b.code (site_made funcs caller))

-- ---- all sites

-- callers lie from one function up to another
record Between (funcs : List Func) (low high : ℕ) (s : Site) : Type 0 where
  from : low ≤ s.caller.0
  below : s.caller.0 < high
  callee : s.callee.0 < length funcs

between : (funcs : List Func) (n : ℕ) (fs : List Func) → Every (Between funcs n (n + length fs)) (sites_from funcs n fs)
between funcs n [] = tt
between funcs n (f ∷ fs) = every_append (Between funcs n (n + suc (length fs))) (func_sites funcs (record { 0 = n }) f) (sites_from funcs (n + 1) fs)
    (every_wider (IsSiteOf funcs (record { 0 = n })) (Between funcs n (n + suc (length fs))) (func_sites funcs (record { 0 = n }) f)
    (λ s h. let same : s.caller.0 ≡ n = ap (λ (c : FuncId). c.0) h.0 in record { from = omega (arith, same); below = omega (arith, same); callee = h.1 })
    (func_made funcs (record { 0 = n }) f))
    (every_wider (Between funcs (n + 1) (n + 1 + length fs)) (Between funcs n (n + suc (length fs))) (sites_from funcs (n + 1) fs)
    (λ s h. let l = h.from in let b = h.below in record { from = omega (arith, l); below = omega (arith, b); callee = h.callee })
    (between funcs (n + 1) fs))

-- callers ascend
abbrev Ascend : List Site → Type 0
Ascend sites = (i j : ℕ) (s t : Site) → i ≤ j → slice_get sites i ≡ Some s → slice_get sites j ≡ Some t → s.caller.0 ≤ t.caller.0

sorted : (funcs : List Func) (n : ℕ) (fs : List Func) → Ascend (sites_from funcs n fs)
sorted funcs n [] i j s t le es et = absurd (let clash : None ≡ Some s = es in cc)
sorted funcs n (f ∷ fs) i j s t le es et = by_parts (append_cases here rest i s es) (append_cases here rest j t et) (sorted funcs (n + 1) fs)
  where
    here : List Site
    here = func_sites funcs (record { 0 = n }) f

    rest : List Site
    rest = sites_from funcs (n + 1) fs

    at_n : (k : ℕ) (x : Site) → slice_get here k ≡ Some x → x.caller.0 ≡ n
    at_n k x e = ap (λ (c : FuncId). c.0) (every_at (IsSiteOf funcs (record { 0 = n })) here k x (func_made funcs (record { 0 = n }) f) e).0

    after : (k : ℕ) (x : Site) → slice_get rest k ≡ Some x → n + 1 ≤ x.caller.0
    after k x e = (every_at (Between funcs (n + 1) (n + 1 + length fs)) rest k x (between funcs (n + 1) fs) e).from

    by_parts : (slice_get here i ≡ Some s) ⊎ ((k : ℕ) × (i ≡ length here + k) × (slice_get rest k ≡ Some s)) → (slice_get here j ≡ Some t) ⊎ ((k : ℕ) × (j ≡ length here + k) × (slice_get rest k ≡ Some t)) → Ascend rest → s.caller.0 ≤ t.caller.0
    by_parts (inl x) (inl y) later = let a = at_n i s x in let b = at_n j t y in omega (arith, a, b)
    by_parts (inl x) (inr y) later = let a = at_n i s x in let b = after y.0 t y.2 in omega (arith, a, b)
    by_parts (inr x) (inl y) later = let w = slice_get_within here j t y in let e = x.1 in absurd (omega (arith, w, e, le))
    by_parts (inr x) (inr y) later = let a = x.1 in let b = y.1 in later x.0 y.0 s t (omega (arith, a, b, le)) x.2 y.2

pub sites_are_edges : (funcs : List Func) (n : ℕ) → n ≡ length funcs → AreEdges n (edges_of (all_sites funcs))
sites_are_edges funcs n all = record {
  tails = λ k e at. let s = edge_site (all_sites funcs) k e at in let b = (sites s.0 k s.1).below in let same : s.0.caller.0 ≡ e.from = ap Edge.from s.2 in omega (arith, b, same, all);
  heads = λ k e at. let s = edge_site (all_sites funcs) k e at in let b = (sites s.0 k s.1).callee in let same : s.0.callee.0 ≡ e.to = ap Edge.to s.2 in omega (arith, b, same, all);
  sorted = λ i j d e le id je.
      let s = edge_site (all_sites funcs) i d id in
      let t = edge_site (all_sites funcs) j e je in
      let up = sorted funcs 0 funcs i j s.0 t.0 le s.1 t.1 in
      let a : s.0.caller.0 ≡ d.from = ap Edge.from s.2 in
      let b : t.0.caller.0 ≡ e.from = ap Edge.from t.2 in
      omega (arith, up, a, b);
}
  where
    sites : (s : Site) (k : ℕ) → slice_get (all_sites funcs) k ≡ Some s → Between funcs 0 (0 + length funcs) s
    sites s k at = every_at (Between funcs 0 (0 + length funcs)) (all_sites funcs) k s (between funcs 0 funcs) at

-- ---- how many there are

filter_append : {A : Type 0} (p : A → Bool) (xs ys : List A) → length (filter p (xs ++ ys)) ≡ length (filter p xs) + length (filter p ys)
filter_append p [] ys = omega arith
filter_append p (x ∷ xs) ys = by_test (p x) (filter_append p xs ys)
  where
    by_test : (t : Bool) → length (filter p (xs ++ ys)) ≡ length (filter p xs) + length (filter p ys) → length (cond t (x ∷ filter p (xs ++ ys)) (filter p (xs ++ ys))) ≡ length (cond t (x ∷ filter p xs) (filter p xs)) + length (filter p ys)
    by_test true h = omega (arith, h)
    by_test false h = h

any_found : (s : SymId) (fs : List Func) (i : ℕ) → (list_any (λ (f : Func). f.name.0 == s.0) fs ≡ true) ⊎ (position_from (is_named s) i fs ≡ None)
any_found s [] i = inr refl
any_found s (f ∷ fs) i = by_test (f.name.0 == s.0) refl (any_found s fs (i + 1))
  where
    by_test : (t : Bool) → (f.name.0 == s.0) ≡ t → (list_any (λ (f : Func). f.name.0 == s.0) fs ≡ true) ⊎ (position_from (is_named s) (i + 1) fs ≡ None) → (list_any (λ (f : Func). f.name.0 == s.0) (f ∷ fs) ≡ true) ⊎ (position_from (is_named s) i (f ∷ fs) ≡ None)
    by_test true t rest = inl (rw t refl)
    by_test false t (inl h) = inl (rw (t, h) refl)
    by_test false t (inr h) = inr (rw (t, h) refl)

module _ (m : Module) where
  abbrev called : Instr → List SymId
  called i = op_callee i.op

  one_count : (caller : FuncId) (i : Instr) → length (cons_option (site_of m.funcs caller i) []) ≤ length (filter (is_defined m) (called i))
  one_count caller i = by_op i.op refl
    where
      none : (op : Op) → i.op ≡ op → site_of m.funcs caller (record i { op = op }) ≡ None → length (cons_option (site_of m.funcs caller i) []) ≤ length (filter (is_defined m) (called i))
      none op same e = let here : site_of m.funcs caller i ≡ None = ap (λ (o : Op). site_of m.funcs caller (record i { op = o })) same ∙ e in rw here (omega arith)

      by_op : (op : Op) → i.op ≡ op → length (cons_option (site_of m.funcs caller i) []) ≤ length (filter (is_defined m) (called i))
      by_op (ops.Bin op t a b) same = none (ops.Bin op t a b) same refl
      by_op (ops.Icmp c t a b) same = none (ops.Icmp c t a b) same refl
      by_op (ops.Select c a b) same = none (ops.Select c a b) same refl
      by_op (ops.Cast c a t) same = none (ops.Cast c a t) same refl
      by_op (ops.Alloca t n align) same = none (ops.Alloca t n align) same refl
      by_op (ops.Load t a align) same = none (ops.Load t a align) same refl
      by_op (ops.Store a p align) same = none (ops.Store a p align) same refl
      by_op (ops.Gep t a is) same = none (ops.Gep t a is) same refl
      by_op (ops.Phi t es) same = none (ops.Phi t es) same refl
      by_op (ops.Call t x args) same =
          let one : site_of m.funcs caller i ≡ site_of m.funcs caller (record i { op = ops.Call t x args }) = ap (λ (o : Op). site_of m.funcs caller (record i { op = o })) same in
          let names : called i ≡ x ∷ [] = ap op_callee same in
          rw (one, names) (by_name (any_found x m.funcs 0))
        where
          at_most : {A : Type 0} (o : Option A) → length (cons_option o []) ≤ 1
          at_most None = omega arith
          at_most (Some a) = omega arith

          by_name : (list_any (λ (f : Func). f.name.0 == x.0) m.funcs ≡ true) ⊎ (position_from (is_named x) 0 m.funcs ≡ None) → length (cons_option (site_of m.funcs caller (record i { op = ops.Call t x args })) []) ≤ length (filter (is_defined m) (x ∷ []))
          by_name (inl h) = rw h (at_most (site_of m.funcs caller (record i { op = ops.Call t x args })))
          by_name (inr h) = rw h (omega arith)

  made_count : (caller : FuncId) (code : List Instr) → length (filter_map (site_of m.funcs caller) code) ≤ length (filter (is_defined m) (flat_map called code))
  made_count caller [] = omega arith
  made_count caller (i ∷ is) =
      let one = one_count caller i in
      let rest = made_count caller is in
      let split = filter_append (is_defined m) (called i) (flat_map called is) in
      let parts = cons_count (site_of m.funcs caller i) (filter_map (site_of m.funcs caller) is) in
      omega (arith, one, rest, split, parts)
    where
      cons_count : (o : Option Site) (xs : List Site) → length (cons_option o xs) ≡ length (cons_option o []) + length xs
      cons_count None xs = omega arith
      cons_count (Some s) xs = omega arith

  block_count : (caller : FuncId) (bs : List Block) → length (flat_map (block_sites m.funcs caller) bs) ≤ length (filter (is_defined m) (flat_map called (flat_map (λ (b : Block). b.code) bs)))
  block_count caller [] = omega arith
  block_count caller (b ∷ bs) =
      let one = made_count caller b.code in
      let rest = block_count caller bs in
      let joins = ap (λ xs. length (filter (is_defined m) xs)) (flat_map-append called b.code (flat_map (λ (b : Block). b.code) bs)) in
      let split = filter_append (is_defined m) (flat_map called b.code) (flat_map called (flat_map (λ (b : Block). b.code) bs)) in
      let parts = length-append (block_sites m.funcs caller b) (flat_map (block_sites m.funcs caller) bs) in
      omega (arith, one, rest, joins, split, parts)

  abbrev calls_in : Func → List SymId
  calls_in f = flat_map called (instrs f)

  from_count : (n : ℕ) (fs : List Func) → length (sites_from m.funcs n fs) ≤ length (filter (is_defined m) (flat_map calls_in fs))
  from_count n [] = omega arith
  from_count n (f ∷ fs) =
      let one = block_count (record { 0 = n }) f.blocks in
      let rest = from_count (n + 1) fs in
      let split = filter_append (is_defined m) (calls_in f) (flat_map calls_in fs) in
      let parts = length-append (func_sites m.funcs (record { 0 = n }) f) (sites_from m.funcs (n + 1) fs) in
      omega (arith, one, rest, split, parts)

  pub count_sites : length (all_sites m.funcs) ≤ length (sites m)
  count_sites = from_count 0 m.funcs
