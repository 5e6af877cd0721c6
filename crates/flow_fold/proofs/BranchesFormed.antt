-- A formed body with its branches folded is formed.
use Rattle.std.proofs.Common.{◌≡◌, ◌≢◌, ◌⊎◌, inl, inr, ⊎_elim, ℕ, zero, suc, ◌+◌, ◌<◌, ◌≤◌, Bool, true, false, cond, not, ◌&&◌, ◌||◌, nat_eq, if◌then◌else◌, List, [], ◌∷◌, ◌++◌, map, length, Option, Some, None, slice_get, All, AllPairs, Contains, refl, sym, ap, ◌∙◌, subst, arith}
use Rattle.std.specs.List.{flat_map, filter, list_any}
use Rattle.std.proofs.lemmas.Bool.Decides.{nat_tests}
use Rattle.std.proofs.lemmas.List.Elements.{All-contains, All-contains_itself, All-filter}
use Rattle.oi_base.specs.declared.ids.BlockId.{BlockId}
use Rattle.oi_base.specs.declared.words.Width.{Width}
use Rattle.ir_core.specs.declared.flat.Scalar.{Scalar}
use Rattle.ir_core.specs.declared.flat.Case.{Case}
use Rattle.ir_core.specs.declared.flat.Entry.{Entry}
use Rattle.ir_core.specs.declared.flat.Phi.{Phi}
use Rattle.ir_core.specs.declared.flat.FlatOp.{FlatOp}
use Rattle.ir_core.specs.declared.flat.FlatInstr.{FlatInstr}
use Rattle.ir_core.specs.declared.flat.FlatEnd.{FlatEnd}
use Rattle.ir_core.specs.declared.flat.FlatEnd.TheVariants.{Ret, Br, Cond, Switch, Unreachable}
use Rattle.ir_core.specs.declared.flat.FlatBlock.{FlatBlock}
use Rattle.ir_core.specs.declared.flat.FlatBody.{FlatBody}
use Rattle.ir_core.specs.Flat.{case_for}
use Rattle.ir_core.specs.Formed.{FuncType, HasType, IsBlock, IsEdge, DefinedFirst, ComesFirst, IsPhi, IsFormedBody, IsEndTyped, IsParamOrWritten, used_by, used_at_end, targets, uses, all_uses}
use Rattle.ir_core.proofs.Lists.{Has, contains, has_in, has_at, has_left, has_right, has_part, has_mapped, map_source, at_has}
use Rattle.flow_fold.specs.Targets.{goes_to}
use Rattle.const_fold.specs.Operands.{word_of_op}
use Rattle.flow_fold.specs.Blocks.{by_number, with_entries}
use Rattle.flow_fold.specs.FoldBranches.{decided, cond_decided, switch_decided, leaves, still_comes, block_decided}
use Rattle.flow_fold.proofs.Listed.{numbered_at}
use Rattle.ir_safety.proofs.Elements.{split, in_part}
use Rattle.const_fold.proofs.Shapes.{SameShape, same_length, Reshaped, edge_back, path_back, comes_first, writes_same, param_or_written}

-- ---- targets as tests

pub goes_has : (ts : List ℕ) (c : ℕ) → list_any (λ t. nat_eq t c) ts ≡ true → Has ts c
goes_has [] c e = absurd cc
goes_has (t ∷ ts) c e = by_test (nat_eq t c) refl e (λ f. goes_has ts c f)
  where
    by_test : (b : Bool) → nat_eq t c ≡ b → (b || list_any (λ u. nat_eq u c) ts) ≡ true → (list_any (λ u. nat_eq u c) ts ≡ true → Has ts c) → (t ≡ c) ⊎ Has ts c
    by_test true is e rest = inl (grind (arith, nat_tests))
    by_test false is e rest = inr (rest e)

pub has_goes : (ts : List ℕ) (c : ℕ) → Has ts c → list_any (λ t. nat_eq t c) ts ≡ true
has_goes [] c h = absurd h
has_goes (t ∷ ts) c (inl same) = let e : nat_eq t c ≡ true = grind (arith, nat_tests) in ap (λ b. b || list_any (λ u. nat_eq u c) ts) e
has_goes (t ∷ ts) c (inr h) = ap (λ b. nat_eq t c || b) (has_goes ts c h) ∙ or_true (nat_eq t c)
  where
    or_true : (b : Bool) → (b || true) ≡ true
    or_true true = refl
    or_true false = refl

-- ---- a decided end goes to some of the targets and uses some of the operands

case_has : (a : ℕ) (cases : List Case) (other : BlockId) → Has (map (λ (c : Case). c.to.0) cases ++ other.0 ∷ []) (case_for a cases other).0
case_has a [] other = inl refl
case_has a (c ∷ cs) other = by_test (nat_eq c.word a) (case_has a cs other)
  where
    by_test : (t : Bool) → Has (map (λ (c : Case). c.to.0) cs ++ other.0 ∷ []) (case_for a cs other).0 → Has (c.to.0 ∷ (map (λ (c : Case). c.to.0) cs ++ other.0 ∷ [])) (if t then c.to else case_for a cs other).0
    by_test true h = inl refl
    by_test false h = inr h

-- ends that may stand for one another
record Fewer (old new : FlatEnd) : Type 0 where
  to : (c : ℕ) → Has (targets new) c → Has (targets old) c
  used : (o : FlatOp) → Has (used_at_end new) o → Has (used_at_end old) o
  typed : (types : ℕ → Scalar) (result : Option Scalar) → IsEndTyped types result old → IsEndTyped types result new

same_end : (e : FlatEnd) → Fewer e e
same_end e = record { to = λ c h. h; used = λ o h. h; typed = λ types result h. h }

to_one : (e : FlatEnd) (b : BlockId) → Has (targets e) b.0 → Fewer e (Br b)
to_one e b h = record {
  to = λ c g. ⊎_elim (λ same. subst (Has (targets e)) same h) (λ none. absurd none) g;
  used = λ o g. absurd g;
  typed = λ types result t. tt;
}

if_has : (z : Bool) (t f : BlockId) → Has (t.0 ∷ f.0 ∷ []) (if z then f else t).0
if_has true t f = inr (inl refl)
if_has false t f = inl refl

cond_fewer : (o : Option ℕ) (c : FlatOp) (t f : BlockId) → Fewer (Cond c t f) (cond_decided o c t f)
cond_fewer (Some z) c t f = to_one (Cond c t f) (if nat_eq z 0 then f else t) (if_has (nat_eq z 0) t f)
cond_fewer None c t f = by_test (nat_eq t.0 f.0)
  where
    by_test : (k : Bool) → Fewer (Cond c t f) (if k then Br t else Cond c t f)
    by_test true = to_one (Cond c t f) t (inl refl)
    by_test false = same_end (Cond c t f)

switch_fewer : (o : Option ℕ) (a : FlatOp) (w : Width) (cases : List Case) (other : BlockId) → Fewer (Switch a w cases other) (switch_decided o a w cases other)
switch_fewer (Some z) a w cases other = to_one (Switch a w cases other) (case_for z cases other) (case_has z cases other)
switch_fewer None a w [] other = to_one (Switch a w [] other) other (inl refl)
switch_fewer None a w (c ∷ cs) other = same_end (Switch a w (c ∷ cs) other)

decided_fewer : (e : FlatEnd) → Fewer e (decided e)
decided_fewer (Ret a) = same_end (Ret a)
decided_fewer (Br b) = same_end (Br b)
decided_fewer (Cond c t f) = cond_fewer (word_of_op c) c t f
decided_fewer (Switch a w cases other) = switch_fewer (word_of_op a) a w cases other
decided_fewer Unreachable = same_end Unreachable

-- ---- filtered entries

pub filter_from : {A : Type 0} (test : A → Bool) (xs : List A) (x : A) → Has (filter test xs) x → Has xs x × (test x ≡ true)
filter_from test [] x h = absurd h
filter_from test (y ∷ ys) x h = by_test (test y) refl h (λ g. filter_from test ys x g)
  where
    by_test : (t : Bool) → test y ≡ t → Has (cond t (y ∷ filter test ys) (filter test ys)) x → (Has (filter test ys) x → Has ys x × (test x ≡ true)) → ((y ≡ x) ⊎ Has ys x) × (test x ≡ true)
    by_test true e (inl same) rest = (inl same, ap test (sym same) ∙ e)
    by_test true e (inr g) rest = let r = rest g in (inr r.0, r.1)
    by_test false e g rest = let r = rest g in (inr r.0, r.1)

pub filter_has : {A : Type 0} (test : A → Bool) (xs : List A) (x : A) → Has xs x → test x ≡ true → Has (filter test xs) x
filter_has test [] x h e = absurd h
filter_has test (y ∷ ys) x h e = by_test (test y) refl h (λ g. filter_has test ys x g e)
  where
    by_test : (t : Bool) → test y ≡ t → (y ≡ x) ⊎ Has ys x → (Has ys x → Has (filter test ys) x) → Has (cond t (y ∷ filter test ys) (filter test ys)) x
    by_test true is (inl same) rest = inl same
    by_test true is (inr g) rest = inr (rest g)
    by_test false is (inl same) rest = absurd (let both : false ≡ true = sym is ∙ ap test same ∙ e in cc)
    by_test false is (inr g) rest = rest g

same_regs : (test : Entry → Bool) (fs : List Phi) → map (λ (g : Phi). g.reg.0) (map (with_entries test) fs) ≡ map (λ (g : Phi). g.reg.0) fs
same_regs test [] = refl
same_regs test (f ∷ fs) = ap (λ rs. f.reg.0 ∷ rs) (same_regs test fs)

by_number_length : {A B : Type 0} (f : ℕ → A → B) (n : ℕ) (xs : List A) → length (by_number f n xs) ≡ length xs
by_number_length f n [] = refl
by_number_length f n (x ∷ xs) = ap suc (by_number_length f (suc n) xs)

by_number_from : {A B : Type 0} (f : ℕ → A → B) (n : ℕ) (xs : List A) (k : ℕ) (y : B) → slice_get (by_number f n xs) k ≡ Some y → (x : A) × (slice_get xs k ≡ Some x) × (f (n + k) x ≡ y)
by_number_from f n [] k y e = absurd cc
by_number_from f n (x ∷ xs) zero y e = let same : f n x ≡ y = cc in let z : n + 0 ≡ n = omega arith in (x, refl, ap (λ m. f m x) z ∙ same)
by_number_from f n (x ∷ xs) (suc k) y e = let r = by_number_from f (suc n) xs k y e in let z : n + suc k ≡ suc n + k = omega arith in (r.0, r.1, ap (λ m. f m r.0) z ∙ r.2)

-- ---- the body

module _ (types : ℕ → Scalar) (funcs : ℕ → FuncType) (own : FuncType) (old : FlatBody) (h : IsFormedBody types funcs own old) where
  abbrev new : FlatBody
  new = record old { blocks = by_number (block_decided old) 0 old.blocks }

  shape : (b : ℕ) (k : FlatBlock) → SameShape k (block_decided old b k)
  shape b k = record {
    phis = same_regs (still_comes old b) k.phis;
    code = refl;
    edges = λ c in_it. contains (targets k.end) c ((decided_fewer k.end).to c (has_in (targets (decided k.end)) c in_it));
  }

  pub from_old : (b : ℕ) (l : FlatBlock) → IsBlock new b l → (k : FlatBlock) × IsBlock old b k × (l ≡ block_decided old b k)
  from_old b l e = let r = by_number_from (block_decided old) 0 old.blocks b l e in let z : 0 + b ≡ b = omega arith in (r.0, r.1, sym r.2 ∙ ap (λ m. block_decided old m r.0) z)

  reshaped : Reshaped old new
  reshaped = record {
    params = refl;
    count = by_number_length (block_decided old) 0 old.blocks;
    back = λ b l e. let k = from_old b l e in (k.0, k.1, subst (SameShape k.0) (sym k.2) (shape b k.0));
    forth = λ b k e. (block_decided old b k, numbered_at (block_decided old) old.blocks b k e, shape b k);
  }

  -- an entry's edge is still there exactly where the entry stays
  edge_stays : (a b : ℕ) (k : FlatBlock) → IsBlock old a k → goes_to b k.end ≡ true → not (leaves b (slice_get old.blocks a)) ≡ true → IsEdge new a b
  edge_stays a b k e goes stays = (block_decided old a k, numbered_at (block_decided old) old.blocks a k e, contains (targets (decided k.end)) b (goes_has (targets (decided k.end)) b (still (goes_to b k.end) (goes_to b (decided k.end)) goes (sym (ap (λ (o : Option FlatBlock). not (leaves b o)) e) ∙ stays))))
    where
      still : (s t : Bool) → s ≡ true → not (s && not t) ≡ true → t ≡ true
      still s t e f = grind (arith, nat_tests)

  entry_stays : (a b : ℕ) → IsEdge new a b → not (leaves b (slice_get old.blocks a)) ≡ true
  entry_stays a b edge =
      let k = from_old a edge.0 edge.1 in
      let goes : goes_to b (decided k.0.end) ≡ true = has_goes (targets (decided k.0.end)) b (has_in (targets (decided k.0.end)) b (subst (λ (l : FlatBlock). Contains (targets l.end) b) k.2 edge.2)) in
      ap (λ (o : Option FlatBlock). not (leaves b o)) k.1 ∙ ap (λ t. not (goes_to b k.0.end && not t)) goes ∙ none (goes_to b k.0.end)
    where
      none : (t : Bool) → not (t && false) ≡ true
      none true = refl
      none false = refl

  is_phi : (b : ℕ) (g : Phi) → IsPhi old b g → IsPhi new b (with_entries (still_comes old b) g)
  is_phi b g i = record {
    only = λ e in_it.
        let f = filter_from (still_comes old b) g.entries e (has_in (filter (still_comes old b) g.entries) e in_it) in
        let edge = i.only e (contains g.entries e f.0) in
        edge_stays e.from.0 b edge.0 edge.1 (has_goes (targets edge.0.end) b (has_in (targets edge.0.end) b edge.2)) f.1;
    each = λ a edge.
        let x = i.each a (edge_back old new reshaped a b edge) in
        let stays : still_comes old b x.0 ≡ true = ap (λ n. not (leaves b (slice_get old.blocks n))) x.2 ∙ entry_stays a b edge in
        (x.0, contains (filter (still_comes old b) g.entries) x.0 (filter_has (still_comes old b) g.entries x.0 (has_in g.entries x.0 x.1) stays), x.2);
    equal = λ e f in_e in_f same.
        i.equal e f (contains g.entries e (filter_from (still_comes old b) g.entries e (has_in _ e in_e)).0) (contains g.entries f (filter_from (still_comes old b) g.entries f (has_in _ f in_f)).0) same;
  }

  phi_from : (b : ℕ) (l : FlatBlock) (g : Phi) → IsBlock new b l → Contains l.phis g → (k : FlatBlock) × (f : Phi) × IsBlock old b k × Contains k.phis f × (with_entries (still_comes old b) f ≡ g)
  phi_from b l g e in_it =
      let k = from_old b l e in
      let f = map_source (with_entries (still_comes old b)) k.0.phis g (has_in (map (with_entries (still_comes old b)) k.0.phis) g (subst (λ (x : FlatBlock). Contains x.phis g) k.2 in_it)) in
      (k.0, f.0, k.1, contains k.0.phis f.0 f.1, f.2)

  each_all : {A : Type 0} (P : A → Type 0) (xs : List A) → ((x : A) → Has xs x → P x) → All P xs
  each_all P xs h = λ k d lt. h _ (has_in xs _ (All-contains_itself xs k d lt))

  -- ---- operands

  abbrev phi_uses : List Phi → List FlatOp
  phi_uses fs = flat_map (λ (f : Phi). map (λ (e : Entry). e.value) f.entries) fs

  abbrev code_uses : List FlatInstr → List FlatOp
  code_uses is = flat_map used_by is

  uses_fewer : (b : ℕ) (k : FlatBlock) (o : FlatOp) → Has (uses (block_decided old b k)) o → Has (uses k) o
  uses_fewer b k o h = by_part (split (phi_uses (map (with_entries (still_comes old b)) k.phis) ++ code_uses k.code) (used_at_end (decided k.end)) o h)
    where
      in_phis : Has (phi_uses (map (with_entries (still_comes old b)) k.phis)) o → Has (phi_uses k.phis) o
      in_phis g =
          let part = in_part (λ (f : Phi). map (λ (e : Entry). e.value) f.entries) (map (with_entries (still_comes old b)) k.phis) o g in
          let f = map_source (with_entries (still_comes old b)) k.phis part.0 part.1 in
          let e = map_source (λ (e : Entry). e.value) part.0.entries o part.2 in
          let in_f = filter_from (still_comes old b) f.0.entries e.0 (subst (λ (x : Phi). Has x.entries e.0) (sym f.2) e.1) in
          has_part (λ (f : Phi). map (λ (e : Entry). e.value) f.entries) k.phis f.0 o f.1 (subst (Has (map (λ (e : Entry). e.value) f.0.entries)) e.2 (has_mapped (λ (e : Entry). e.value) f.0.entries e.0 in_f.0))

      by_first : Has (phi_uses (map (with_entries (still_comes old b)) k.phis)) o ⊎ Has (code_uses k.code) o → Has (uses k) o
      by_first (inl g) = has_left (phi_uses k.phis ++ code_uses k.code) (used_at_end k.end) o (has_left (phi_uses k.phis) (code_uses k.code) o (in_phis g))
      by_first (inr g) = has_left (phi_uses k.phis ++ code_uses k.code) (used_at_end k.end) o (has_right (phi_uses k.phis) (code_uses k.code) o g)

      by_part : Has (phi_uses (map (with_entries (still_comes old b)) k.phis) ++ code_uses k.code) o ⊎ Has (used_at_end (decided k.end)) o → Has (uses k) o
      by_part (inl g) = by_first (split (phi_uses (map (with_entries (still_comes old b)) k.phis)) (code_uses k.code) o g)
      by_part (inr g) = has_right (phi_uses k.phis ++ code_uses k.code) (used_at_end k.end) o ((decided_fewer k.end).used o g)

  pub all_uses_fewer : (o : FlatOp) → Has (all_uses new) o → Has (all_uses old) o
  all_uses_fewer o g =
      let part = in_part uses new.blocks o g in
      let place = at_has new.blocks part.0 part.1 in
      let k = from_old place.0 part.0 place.1 in
      has_part uses old.blocks k.0 o (has_at old.blocks place.0 k.0 k.1) (uses_fewer place.0 k.0 o (subst (λ (l : FlatBlock). Has (uses l) o) k.2 part.2))

  first_defined : DefinedFirst new
  first_defined = record {
    by_code = λ b older l n i path e at'.
        let k = from_old b l e in
        let first = h.defined_first.by_code b older k.0 n i (path_back old new reshaped (b ∷ older) path) k.1 (subst (λ (x : FlatBlock). slice_get x.code n ≡ Some i) k.2 at') in
        each_all (ComesFirst new older l n) (used_by i) (λ o in_it.
        comes_first old new reshaped older k.0 l (subst (SameShape k.0) (sym k.2) (shape b k.0)) n o (All-contains (ComesFirst old older k.0 n) (used_by i) o first (contains (used_by i) o in_it)));
    by_end = λ b older l path e.
        let k = from_old b l e in
        let same = subst (SameShape k.0) (sym k.2) (shape b k.0) in
        let first = h.defined_first.by_end b older k.0 (path_back old new reshaped (b ∷ older) path) k.1 in
        each_all (ComesFirst new older l (length l.code)) (used_at_end l.end) (λ o in_it.
        subst (λ n. ComesFirst new older l n o) (sym (same_length k.0 l same))
        (comes_first old new reshaped older k.0 l same (length k.0.code) o (All-contains (ComesFirst old older k.0 (length k.0.code)) (used_at_end k.0.end) o first
        (contains (used_at_end k.0.end) o ((decided_fewer k.0.end).used o (subst (λ (x : FlatBlock). Has (used_at_end x.end) o) k.2 in_it))))));
    by_phi = λ b c older l z g e path is_l is_z in_z in_g from.
        let k = from_old b l is_l in
        let same = subst (SameShape k.0) (sym k.2) (shape b k.0) in
        let f = phi_from c z g is_z in_z in
        let in_f = filter_from (still_comes old c) f.1.entries e (has_in (filter (still_comes old c) f.1.entries) e (subst (λ (x : Phi). Contains x.entries e) (sym f.4) in_g)) in
        subst (λ n. ComesFirst new older l n e.value) (sym (same_length k.0 l same))
        (comes_first old new reshaped older k.0 l same (length k.0.code) e.value
        (h.defined_first.by_phi b c older k.0 f.0 f.1 e (path_back old new reshaped (c ∷ b ∷ older) path) k.1 f.2 f.3 (contains f.1.entries e in_f.0) from));
  }

  pub branches_formed : IsFormedBody types funcs own new
  branches_formed = record {
    entry =
        let k = h.entry in
        (block_decided old 0 k.0, numbered_at (block_decided old) old.blocks 0 k.0 k.1, ap (map (with_entries (still_comes old 0))) k.2);
    no_way_back = λ a e. h.no_way_back a (edge_back old new reshaped a 0 e);
    few_params = h.few_params;
    numbers = (h.numbers.0, subst (λ n. n < 4294967296) (sym reshaped.count) h.numbers.1);
    own_params = h.own_params;
    in_range = λ b c e. subst (λ n. c < n) (sym reshaped.count) (h.in_range b c (edge_back old new reshaped b c e));
    phis = λ b l g e in_it.
        let f = phi_from b l g e in_it in
        let old_phi = h.phis b f.0 f.1 f.2 f.3 in
        subst (λ (x : Phi). IsPhi new b x × (x.reg.0 < old.regs) × All (λ (y : Entry). HasType types y.value (types x.reg.0)) x.entries) f.4
        (is_phi b f.1 old_phi.0, old_phi.1, All-filter (still_comes old b) (λ (y : Entry). HasType types y.value (types f.1.reg.0)) f.1.entries old_phi.2);
    code = λ b n l i e at'. let k = from_old b l e in h.code b n k.0 i k.1 (subst (λ (x : FlatBlock). slice_get x.code n ≡ Some i) k.2 at');
    written_once = subst (AllPairs (λ r s. r ≢ s)) (sym (writes_same old new reshaped)) h.written_once;
    written = subst (All (λ r. (old.params ≤ r) × (r < old.regs))) (sym (writes_same old new reshaped)) h.written;
    used = each_all (IsParamOrWritten new) (all_uses new) (λ o in_it. param_or_written old new reshaped o (All-contains (IsParamOrWritten old) (all_uses old) o h.used (contains (all_uses old) o (all_uses_fewer o in_it))));
    ends = λ b l e. let k = from_old b l e in subst (λ (x : FlatBlock). IsEndTyped types own.result x.end) (sym k.2) ((decided_fewer k.0.end).typed types own.result (h.ends b k.0 k.1));
    defined_first = first_defined;
  }
