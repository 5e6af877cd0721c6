-- The blocks before each block, one more.
use Rattle.std.proofs.Common.{◌≡◌, ◌⊎◌, inl, inr, ⊎_elim, ℕ, zero, suc, ◌+◌, ◌<◌, List, [], ◌∷◌, ◌++◌, length, Option, Some, slice_get, slice_set, slice_index_or, replicate, Contains, refl, sym, ap, ◌∙◌, subst, arith}
use Rattle.std.proofs.lemmas.Bool.{cases_lt, cases_eq}
use Rattle.std.proofs.lemmas.List.{get_or-set_same, get_or-set_other, length-set, get_or_default}
use Rattle.std.proofs.lemmas.List.Elements.{Contains-append_left, Contains-append_right, Contains-append_cases, Contains-push, Contains-push_cases}
use Rattle.std.proofs.lemmas.Option.{slice_get_within, get_or_from_slice_get}
use Rattle.ir_core.specs.declared.op.LocalId.{LocalId}
use Rattle.ir_core.specs.declared.func.Block.{Block}
use Rattle.ir_core.specs.declared.func.Func.{Func}
use Rattle.ir_core.specs.Parts.{targets}
use Rattle.ir_core.specs.ValidPaths.{IsSuccessor}
use Rattle.ir_assigned.specs.Names.{found, AreLabels, LabelsDiffer}
use Rattle.ir_assigned.specs.Graph.{before_at, AreBeforeTo, LeadsTo, Joins}
use Rattle.ir_assigned.proofs.Tables.{some_value, one_at}

only_one : {A : Type 0} (x y : A) → Contains (x ∷ []) y → x ≡ y
only_one x y (zero, lt, e) = e
only_one x y (suc k, lt, e) = absurd (omega (arith, lt))

module _ (labels : List (Option ℕ)) (a : ℕ) where
  module _ (t : LocalId) (b : ℕ) (leads : found labels t.0 ≡ Some b) (old : List (List ℕ)) (within : b < length old) (v w : List ℕ) (read : v ≡ slice_index_or old b v) (pushed : w ≡ v ++ a ∷ []) where
    at_b : before_at (slice_set old b w) b ≡ before_at old b ++ a ∷ []
    at_b = get_or-set_same old b w [] within ∙ pushed ∙ ap (λ zs. zs ++ a ∷ []) (read ∙ get_or_default old b v [] within)

    other : (c : ℕ) → (c ≡ b → ⊥) → before_at (slice_set old b w) c ≡ before_at old c
    other c ne = get_or-set_other old b c w [] ne

    kept_join : (c x : ℕ) → Contains (before_at old c) x → (c ≡ b) ⊎ (c ≡ b → ⊥) → Contains (before_at (slice_set old b w) c) x
    kept_join c x h (inl eq) = subst (λ zs. Contains zs x) (sym (ap (before_at (slice_set old b w)) eq ∙ at_b)) (Contains-append_left (before_at old b) (a ∷ []) x (subst (λ d. Contains (before_at old d) x) eq h))
    kept_join c x h (inr ne) = subst (λ zs. Contains zs x) (sym (other c ne)) h

    only_join : (c x : ℕ) → Contains (before_at (slice_set old b w) c) x → (c ≡ b) ⊎ (c ≡ b → ⊥) → Contains (before_at old c) x ⊎ ((x ≡ a) × LeadsTo labels (t ∷ []) c)
    only_join c x h (inl eq) = ⊎_elim
        (λ o. inl (subst (λ d. Contains (before_at old d) x) (sym eq) o))
        (λ e. inr (sym e, (t, (0, omega arith, refl), leads ∙ ap Some (sym eq))))
        (Contains-push_cases (before_at old b) a x (subst (λ zs. Contains zs x) (ap (before_at (slice_set old b w)) eq ∙ at_b) h))
    only_join c x h (inr ne) = inl (subst (λ zs. Contains zs x) (other c ne) h)

    each_join : (c : ℕ) → LeadsTo labels (t ∷ []) c → Contains (before_at (slice_set old b w) c) a
    each_join c (u, among, e) =
        let both : Some b ≡ Some c = sym leads ∙ ap (λ (z : LocalId). found labels z.0) (only_one t u among) ∙ e in
        let eq : b ≡ c = cc in
        subst (λ d. Contains (before_at (slice_set old b w) d) a) eq (subst (λ zs. Contains zs a) (sym at_b) (Contains-push (before_at old b) a))

    pub join_one : Joins labels a (t ∷ []) old (slice_set old b w)
    join_one = record {
      count = length-set old b w;
      kept = λ c x h. kept_join c x h (cases_eq c b);
      only = λ c x h. only_join c x h (cases_eq c b);
      each = λ c lt h. each_join c h;
    }

  pub joins_more : (ts : List LocalId) (t : LocalId) (old mid new : List (List ℕ)) → Joins labels a ts old mid → Joins labels a (t ∷ []) mid new → Joins labels a (ts ++ t ∷ []) old new
  joins_more ts t old mid new one two = record {
    count = two.count ∙ one.count;
    kept = λ b x h. two.kept b x (one.kept b x h);
    only = λ b x h. ⊎_elim
        (λ m. ⊎_elim (λ o. inl o) (λ r. inr (r.0, (r.1.0, Contains-append_left ts (t ∷ []) r.1.0 r.1.1, r.1.2))) (one.only b x m))
        (λ r. inr (r.0, (r.1.0, Contains-append_right ts (t ∷ []) r.1.0 r.1.1, r.1.2)))
        (two.only b x h);
    each = λ b lt h. ⊎_elim
        (λ l. two.kept b a (one.each b lt (h.0, l, h.2)))
        (λ r. two.each b (subst (λ n. b < n) (sym one.count) lt) (h.0, r, h.2))
        (Contains-append_cases ts (t ∷ []) h.0 h.1);
  }

module _ (f : Func) (labels : List (Option ℕ)) (are : AreLabels f labels) (apart : LabelsDiffer f) (n : ℕ) (k : Block) (here : slice_get f.blocks n ≡ Some k) (old new : List (List ℕ)) (befores : AreBeforeTo f n old) (joins : Joins labels n (targets k.end) old new) where
  goes_to : (b : ℕ) → LeadsTo labels (targets k.end) b → IsSuccessor f n b
  goes_to b (t, among, e) =
      let l = are.only t b e in
      (k, l.0, here, l.1, subst (λ x. Contains (targets k.end) x) (sym l.2) among)

  comes_from : (b : ℕ) → IsSuccessor f n b → Contains (before_at new b) n
  comes_from b (k', l, at, bt, among) =
      let same : k' ≡ k = one_at f.blocks n k' k at here in
      let lt : b < length f.blocks = slice_get_within f.blocks b l bt in
      let v = some_value (found labels l.label.0) (are.each l.label b lt (l, bt, refl)) in
      let eq : v.0 ≡ b = apart l.label v.0 b (are.only l.label v.0 v.1) (l, bt, refl) in
      joins.each b (subst (λ m. b < m) (sym befores.count) lt) (l.label, subst (λ (z : Block). Contains (targets z.end) l.label) same among, v.1 ∙ ap Some eq)

  pub befores_more : AreBeforeTo f (n + 1) new
  befores_more = record {
    count = joins.count ∙ befores.count;
    only = λ a b h. ⊎_elim (befores.only a b) (λ r. subst (λ c. IsSuccessor f c b) (sym r.0) (goes_to b r.1)) (joins.only b a h);
    each = λ a b lt s. ⊎_elim
        (λ l. joins.kept b a (befores.each a b l s))
        (λ ge. let eq : a ≡ n = omega (arith, lt, ge) in subst (λ c. Contains (before_at new b) c) (sym eq) (comes_from b (subst (λ c. IsSuccessor f c b) eq s)))
        (cases_lt a n);
  }

-- ---- empty lists

pub nothing_at : (n b : ℕ) → before_at (replicate n []) b ≡ []
nothing_at zero b = refl
nothing_at (suc n) zero = refl
nothing_at (suc n) (suc b) = nothing_at n b

-- ---- what is read of them

module _ (g f : Func) (ps : List (List ℕ)) (are : AreBeforeTo g (length g.blocks) ps) (same : g ≡ f) (b : ℕ) (within : b < length f.blocks) (items row : List ℕ) (is : items ≡ row) (read : row ≡ slice_index_or ps b row) where
  low : b < length ps
  low = let n : length g.blocks ≡ length f.blocks = ap (λ (z : Func). length z.blocks) same in let m = are.count in omega (arith, n, m, within)

  row_is : items ≡ before_at ps b
  row_is = is ∙ read ∙ get_or_default ps b row [] low

  pub before_only : (k a : ℕ) → slice_get items k ≡ Some a → IsSuccessor f a b
  before_only k a e =
      let here : slice_get (before_at ps b) k ≡ Some a = ap (λ zs. slice_get zs k) (sym row_is) ∙ e in
      subst (λ z. IsSuccessor z a b) same (are.only a b (k, slice_get_within (before_at ps b) k a here, get_or_from_slice_get (before_at ps b) k a a here))

  pub before_each : (a : ℕ) → IsSuccessor f a b → Contains items a
  before_each a s =
      let s' = subst (λ z. IsSuccessor z a b) (sym same) s in
      subst (λ zs. Contains zs a) (sym row_is) (are.each a b (slice_get_within g.blocks a s'.0 s'.2) s')
