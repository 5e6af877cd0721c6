-- The row of a label has the labels of the blocks that lead to it.
use Rattle.std.proofs.Common.{◌≡◌, ◌⊎◌, inl, inr, refl, sym, ap, ◌∙◌, subst, Bool, true, false, nat_eq, ℕ, zero, suc, List, [], ◌∷◌, map, fold, Option, Some, None, slice_get, slice_set, slice_index_or, arith}
use Rattle.std.specs.List.{position}
use Rattle.std.specs.Option.{option_and_then}
use Rattle.std.proofs.lemmas.Bool.Decides.{nat_tests}
use Rattle.std.proofs.lemmas.Option.{get_or_from_slice_get}
use Rattle.ir_core.specs.declared.op.LocalId.{LocalId}
use Rattle.ir_core.specs.declared.func.Block.{Block}
use Rattle.ir_core.specs.declared.func.Func.{Func}
use Rattle.ir_core.specs.Parts.{targets}
use Rattle.ir_core.specs.ValidFunc.{IsLabel}
use Rattle.ir_core.specs.ValidPaths.{Precedes}
use Rattle.ir_core.proofs.Lists.{Has, contains}
use Rattle.module_rules.specs.Faults.{with_number}
use Rattle.ir_verifier.specs.Faults.{label_number, label_numbers}
use Rattle.ir_verifier.specs.PhiFaults.{Sources, row_at, no_rows, with_row, with_source, with_sources, with_block, sources_of}
use Rattle.module_rules.proofs.Faulty.{has}
use Rattle.module_rules.proofs.Sets.{local_of as same_local}
use Rattle.module_rules.proofs.Distinct.{position_is, no_position}
use Rattle.module_rules.proofs.Sets.{in_numbers, numbers_in, mapped_has}

-- ---- lists

set_here : (xs : List (List ℕ)) (k : ℕ) (r v : List ℕ) → slice_get xs k ≡ Some r → slice_get (slice_set xs k v) k ≡ Some v
set_here [] k r v e = absurd (let clash : None ≡ Some r = e in cc)
set_here (x ∷ xs) zero r v e = refl
set_here (x ∷ xs) (suc k) r v e = set_here xs k r v e

set_there : (xs : List (List ℕ)) (k j : ℕ) (v : List ℕ) → (j ≡ k → ⊥) → slice_get (slice_set xs k v) j ≡ slice_get xs j
set_there [] k j v other = refl
set_there (x ∷ xs) zero zero v other = absurd (other refl)
set_there (x ∷ xs) zero (suc j) v other = refl
set_there (x ∷ xs) (suc k) zero v other = refl
set_there (x ∷ xs) (suc k) (suc j) v other = set_there xs k j v (λ e. other (ap suc e))

-- one more number in a set
pub of_one : (ns : List ℕ) (m n : ℕ) → Has (with_number ns m) n → Has ns n ⊎ (m ≡ n)
of_one ns m n h = of_part (in_numbers (m ∷ []) ns n h)
  where
    of_part : Has ns n ⊎ Has (m ∷ []) n → Has ns n ⊎ (m ≡ n)
    of_part (inl g) = inl g
    of_part (inr (inl e)) = inr e
    of_part (inr (inr g)) = absurd g

pub to_one : (ns : List ℕ) (m n : ℕ) → Has ns n ⊎ (m ≡ n) → Has (with_number ns m) n
to_one ns m n (inl h) = numbers_in (m ∷ []) ns n (inl h)
to_one ns m n (inr e) = numbers_in (m ∷ []) ns n (inr (inl e))

empty_row : (ns : List ℕ) (k n : ℕ) → slice_get ns k ≡ Some n → slice_get (no_rows ns) k ≡ Some []
empty_row [] k n e = absurd (let clash : None ≡ Some n = e in cc)
empty_row (m ∷ ms) zero n e = refl
empty_row (m ∷ ms) (suc k) n e = empty_row ms k n e

-- ---- the row of a label, which stands at this place

module _ (labels : List ℕ) (y : LocalId) (at : ℕ) (place : position (nat_eq y.0) labels ≡ Some at) where
  record IsRow (s : Sources) (row : List ℕ) : Type 0 where
    same : s.labels ≡ labels
    here : slice_get s.rows at ≡ Some row

  -- a row with more in it
  record Grown (row : List ℕ) (More : ℕ → Type 0) (s : Sources) : Type 0 where
    next : List ℕ
    is : IsRow s next
    of_next : (x : ℕ) → Has next x → Has row x ⊎ More x
    to_next : (x : ℕ) → Has row x ⊎ More x → Has next x

  one_label : (to : LocalId) → position (nat_eq to.0) labels ≡ Some at → to ≡ y
  one_label to e = same_local to y (let both : Some to.0 ≡ Some y.0 = sym (position_is to.0 labels at e) ∙ position_is y.0 labels at place in cc)

  kept : (s : Sources) (row : List ℕ) (from to : LocalId) (t : Sources) → IsRow t row → (to ≡ y → ⊥) → Grown row (λ (x : ℕ). (to ≡ y) × (from.0 ≡ x)) t
  kept s row from to t r other = record { next = row; is = r; of_next = λ x h. inl h; to_next = back }
    where
      back : (x : ℕ) → Has row x ⊎ ((to ≡ y) × (from.0 ≡ x)) → Has row x
      back x (inl h) = h
      back x (inr h) = absurd (other h.0)

  one_source : (s : Sources) (row : List ℕ) (from to : LocalId) → IsRow s row → Grown row (λ (x : ℕ). (to ≡ y) × (from.0 ≡ x)) (with_source s from to)
  one_source s row from to r = by_place (position (nat_eq to.0) s.labels) (ap (position (nat_eq to.0)) (sym r.same))
    where
      -- the label has a place, where this one's row is or not
      by_test : (k : ℕ) → position (nat_eq to.0) labels ≡ Some k → (t : Bool) → nat_eq k at ≡ t → Grown row (λ (x : ℕ). (to ≡ y) × (from.0 ≡ x)) (with_row s (Some k) from)
      by_test k e true t =
          let same : k ≡ at = grind (arith, nat_tests) in
          let to_y : to ≡ y = one_label to (e ∙ ap Some same) in
          let old : slice_index_or s.rows k [] ≡ row = ap (λ (j : ℕ). slice_index_or s.rows j []) same ∙ get_or_from_slice_get s.rows at row [] r.here in
          let there : slice_get (slice_set s.rows k (with_number (slice_index_or s.rows k []) from.0)) at ≡ Some (with_number row from.0) =
          ap (λ (j : ℕ). slice_get (slice_set s.rows j (with_number (slice_index_or s.rows k []) from.0)) at) same
          ∙ set_here s.rows at row (with_number (slice_index_or s.rows k []) from.0) r.here
          ∙ ap (λ (ns : List ℕ). Some (with_number ns from.0)) old in
          record {
            next = with_number row from.0;
            is = record { same = r.same; here = there };
            of_next = λ x h. widened x (of_one row from.0 x h) to_y;
            to_next = λ x h. to_one row from.0 x (narrowed x h);
          }
        where
          widened : (x : ℕ) → Has row x ⊎ (from.0 ≡ x) → to ≡ y → Has row x ⊎ ((to ≡ y) × (from.0 ≡ x))
          widened x (inl g) same = inl g
          widened x (inr g) same = inr (same, g)

          narrowed : (x : ℕ) → Has row x ⊎ ((to ≡ y) × (from.0 ≡ x)) → Has row x ⊎ (from.0 ≡ x)
          narrowed x (inl g) = inl g
          narrowed x (inr g) = inr g.1
      by_test k e false t =
          let apart : at ≡ k → ⊥ = λ same. grind (arith, nat_tests) in
          kept s row from to (with_row s (Some k) from) (record { same = r.same; here = set_there s.rows k at (with_number (slice_index_or s.rows k []) from.0) apart ∙ r.here })
          (λ same. apart (let both : Some at ≡ Some k = sym place ∙ ap (λ (z : LocalId). position (nat_eq z.0) labels) (sym same) ∙ e in cc))

      by_place : (o : Option ℕ) → position (nat_eq to.0) labels ≡ o → Grown row (λ (x : ℕ). (to ≡ y) × (from.0 ≡ x)) (with_row s o from)
      by_place None e = kept s row from to s r (λ same. let clash : Some at ≡ None = sym place ∙ ap (λ (z : LocalId). position (nat_eq z.0) labels) (sym same) ∙ e in cc)
      by_place (Some k) e = by_test k e (nat_eq k at) refl

  -- more after some
  chained : (row : List ℕ) (More Next : ℕ → Type 0) (s t : Sources) (g : Grown row More s) → Grown g.next Next t → Grown row (λ (x : ℕ). More x ⊎ Next x) t
  chained row More Next s t g h = record { next = h.next; is = h.is; of_next = λ x e. of_both x (h.of_next x e); to_next = λ x e. h.to_next x (to_both x e) }
    where
      first : (x : ℕ) → Has row x ⊎ More x → Has row x ⊎ (More x ⊎ Next x)
      first x (inl e) = inl e
      first x (inr e) = inr (inl e)

      of_both : (x : ℕ) → Has g.next x ⊎ Next x → Has row x ⊎ (More x ⊎ Next x)
      of_both x (inl e) = first x (g.of_next x e)
      of_both x (inr e) = inr (inr e)

      to_both : (x : ℕ) → Has row x ⊎ (More x ⊎ Next x) → Has g.next x ⊎ Next x
      to_both x (inl e) = inl (g.to_next x (inl e))
      to_both x (inr (inl e)) = inl (g.to_next x (inr e))
      to_both x (inr (inr e)) = inr e

  -- the same by other words
  renamed : (row : List ℕ) (More Next : ℕ → Type 0) (s : Sources) → ((x : ℕ) → More x → Next x) → ((x : ℕ) → Next x → More x) → Grown row More s → Grown row Next s
  renamed row More Next s there back g = record { next = g.next; is = g.is; of_next = λ x h. of_more x (g.of_next x h); to_next = λ x h. g.to_next x (to_more x h) }
    where
      of_more : (x : ℕ) → Has row x ⊎ More x → Has row x ⊎ Next x
      of_more x (inl h) = inl h
      of_more x (inr h) = inr (there x h)

      to_more : (x : ℕ) → Has row x ⊎ Next x → Has row x ⊎ More x
      to_more x (inl h) = inl h
      to_more x (inr h) = inr (back x h)

  nothing_more : (row : List ℕ) (More : ℕ → Type 0) (s : Sources) → IsRow s row → ((x : ℕ) → More x → ⊥) → Grown row More s
  nothing_more row More s r none = record { next = row; is = r; of_next = λ x h. inl h; to_next = back }
    where
      back : (x : ℕ) → Has row x ⊎ More x → Has row x
      back x (inl h) = h
      back x (inr h) = absurd (none x h)

  abbrev Leads : LocalId → List LocalId → ℕ → Type 0
  Leads from to x = Has to y × (from.0 ≡ x)

  all_sources : (to : List LocalId) (s : Sources) (row : List ℕ) (from : LocalId) → IsRow s row → Grown row (Leads from to) (with_sources from s to)
  all_sources [] s row from r = nothing_more row (Leads from []) s r (λ x h. h.0)
  all_sources (z ∷ zs) s row from r =
      let g = one_source s row from z r in
      renamed row (λ (x : ℕ). ((z ≡ y) × (from.0 ≡ x)) ⊎ Leads from zs x) (Leads from (z ∷ zs)) (with_sources from s (z ∷ zs)) there back
      (chained row (λ (x : ℕ). (z ≡ y) × (from.0 ≡ x)) (Leads from zs) (with_source s from z) (with_sources from s (z ∷ zs)) g (all_sources zs (with_source s from z) g.next from g.is))
    where
      there : (x : ℕ) → ((z ≡ y) × (from.0 ≡ x)) ⊎ Leads from zs x → Leads from (z ∷ zs) x
      there x (inl h) = (inl h.0, h.1)
      there x (inr h) = (inr h.0, h.1)

      by_part : (x : ℕ) → (z ≡ y) ⊎ Has zs y → from.0 ≡ x → ((z ≡ y) × (from.0 ≡ x)) ⊎ Leads from zs x
      by_part x (inl h) e = inl (h, e)
      by_part x (inr h) e = inr (h, e)

      back : (x : ℕ) → Leads from (z ∷ zs) x → ((z ≡ y) × (from.0 ≡ x)) ⊎ Leads from zs x
      back x h = by_part x h.0 h.1

  abbrev Comes : List Block → ℕ → Type 0
  Comes blocks x = (b : Block) × Has blocks b × Leads b.label (targets b.end) x

  all_blocks : (blocks : List Block) (s : Sources) (row : List ℕ) → IsRow s row → Grown row (Comes blocks) (fold with_block s blocks)
  all_blocks [] s row r = nothing_more row (Comes []) s r (λ x h. h.1)
  all_blocks (b ∷ bs) s row r =
      let g = all_sources (targets b.end) s row b.label r in
      renamed row (λ (x : ℕ). Leads b.label (targets b.end) x ⊎ Comes bs x) (Comes (b ∷ bs)) (fold with_block s (b ∷ bs)) there back
      (chained row (Leads b.label (targets b.end)) (Comes bs) (with_block s b) (fold with_block s (b ∷ bs)) g (all_blocks bs (with_block s b) g.next g.is))
    where
      there : (x : ℕ) → Leads b.label (targets b.end) x ⊎ Comes bs x → Comes (b ∷ bs) x
      there x (inl h) = (b, inl refl, h)
      there x (inr h) = (h.0, inr h.1, h.2)

      by_part : (x : ℕ) (c : Block) → (b ≡ c) ⊎ Has bs c → Leads c.label (targets c.end) x → Leads b.label (targets b.end) x ⊎ Comes bs x
      by_part x c (inl e) h = inl (subst (λ (k : Block). Leads k.label (targets k.end) x) (sym e) h)
      by_part x c (inr e) h = inr (c, e, h)

      back : (x : ℕ) → Comes (b ∷ bs) x → Leads b.label (targets b.end) x ⊎ Comes bs x
      back x h = by_part x h.0 h.1 h.2

-- ---- functions

-- what is known of the row of a block
pub record HasSources (f : Func) (y : LocalId) : Type 0 where
  pub row : List ℕ
  pub is_row : row_at (sources_of f) y ≡ Some row
  pub of_row : (x : LocalId) → Has row x.0 → Precedes f x y
  pub to_row : (x : LocalId) → Precedes f x y → Has row x.0
  -- and each is a label
  pub label : (n : ℕ) → Has row n → (x : LocalId) × (x.0 ≡ n)

pub block_sources : (f : Func) (y : LocalId) → IsLabel f y → HasSources f y
block_sources f y is = by_place (position (nat_eq y.0) (label_numbers f)) refl
  where
    listed : Has (label_numbers f) y.0
    listed = numbers_in (map label_number f.blocks) [] y.0 (inr (subst (λ (z : LocalId). Has (map label_number f.blocks) z.0) is.2 (mapped_has label_number f.blocks is.0 (has f.blocks is.0 is.1))))

    empty : Sources
    empty = record { labels = label_numbers f; rows = no_rows (label_numbers f) }

    by_place : (o : Option ℕ) → position (nat_eq y.0) (label_numbers f) ≡ o → HasSources f y
    by_place None e = absurd (no_position y.0 (label_numbers f) e listed)
    by_place (Some k) e =
        let g = all_blocks (label_numbers f) y k e f.blocks (record { labels = label_numbers f; rows = no_rows (label_numbers f) }) [] (record { same = refl; here = empty_row (label_numbers f) k y.0 (position_is y.0 (label_numbers f) k e) }) in
        record {
          row = g.next;
          is_row = ap (λ (ns : List ℕ). option_and_then (slice_get (sources_of f).rows) (position (nat_eq y.0) ns)) g.is.same ∙ ap (option_and_then (slice_get (sources_of f).rows)) e ∙ g.is.here;
          of_row = λ x h. of_comes x (g.of_next x.0 h);
          to_row = λ x p. g.to_next x.0 (inr (p.0, has f.blocks p.0 p.1, (has (targets p.0.end) y p.3, ap (λ (z : LocalId). z.0) p.2)));
          label = λ n h. of_any n (g.of_next n h);
        }
      where
        of_comes : (x : LocalId) → Has [] x.0 ⊎ Comes (label_numbers f) y k e f.blocks x.0 → Precedes f x y
        of_comes x (inl h) = absurd h
        of_comes x (inr h) = (h.0, contains f.blocks h.0 h.1, same_local h.0.label x h.2.1, contains (targets h.0.end) y h.2.0)

        of_any : (n : ℕ) → Has [] n ⊎ Comes (label_numbers f) y k e f.blocks n → (x : LocalId) × (x.0 ≡ n)
        of_any n (inl h) = absurd h
        of_any n (inr h) = (h.0.label, h.2.1)
