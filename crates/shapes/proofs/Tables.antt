-- The walk over all functions.
use Rattle.std.proofs.Common.{◌≡◌, ℕ, ◌+◌, ◌<◌, ◌≤◌, true, List, [], ◌∷◌, ◌++◌, length, map, drop, replicate, slice_index_or, Option, Some, None, refl, sym, ap, subst, ◌∙◌, arith}
use Rattle.std.specs.Option.{option_map}
use Rattle.std.specs.declared.rc.Rc.{Rc}
use Rattle.std.specs.declared.alloc.Global.{Global}
use Rattle.std.proofs.lemmas.List.{drop_more, drop_all, append-nil, append_assoc, length-map, get_or-map, map-append}
use Rattle.std.proofs.lemmas.Bool.{cases_order}
use mathlib.Core.Logic.{◌⊎◌, inl, inr}
use Rattle.ir_core.specs.declared.module.Module.{Module}
use Rattle.shapes.specs.declared.renewal.Renewal.{Renewal}
use Rattle.shapes.specs.declared.renewal.Renewal.TheVariants.{Unseen}
use Rattle.shapes.specs.Tree.{Tree, func}
use Rattle.shapes.specs.Standing.{values}
use Rattle.shapes.specs.Added.{Added}
use Rattle.shapes.specs.Reaching.{reaching_count}
use Rattle.shapes.specs.Renewed.{renewed, is_seen, new_count, renewal_at, AreRenewals}
use Rattle.shapes.proofs.Renewals.{has_place, none_known, none_new, count_most, count_all}
use Rattle.shapes.proofs.Walks.{IsLater}

abbrev pub all_after : Module → Added → List (Option Tree) → List (Option Tree)
all_after m a os = map (option_map (renewed m a)) os

-- the functions from a number on are left
pub record Tables (m : Module) (a : Added) (i : ℕ) (table : List (Option Tree)) (now : List Renewal) (before after : ℕ) : Type 0 where
  pub known : AreRenewals m a a.trees now
  pub so_far : table ++ all_after m a (drop i a.trees) ≡ all_after m a a.trees
  pub seen : (f : ℕ) (t : Tree) → f < i → slice_index_or a.trees f None ≡ Some t → is_seen (slice_index_or now f Unseen) ≡ true
  pub ticks : after ≡ before + new_count now

module _ (m : Module) (a : Added) where
  pub tables_start : (count before : ℕ) (rs : List Renewal) → count ≡ length a.trees → rs ≡ replicate count Unseen → Tables m a 0 [] rs before before
  tables_start count before rs many is = rw (is, many) record {
    known = none_known m a a.trees;
    so_far = refl;
    seen = λ f t lt e. absurd (omega (arith, lt));
    ticks = let z = none_new (length a.trees) in omega (arith, z);
  }

  pub tables_step : (i : ℕ) (table : List (Option Tree)) (now next : List Renewal) (before after more_after : ℕ) (o new : Option Tree) → Tables m a i table now before after → i < length a.trees → o ≡ slice_index_or a.trees i None → new ≡ option_map (renewed m a) o
      → AreRenewals m a a.trees next → IsLater now next → ((t : Tree) → o ≡ Some t → is_seen (renewal_at next (func t)) ≡ true) → ((t : Tree) → o ≡ Some t → (func t).0 ≡ i) → more_after + new_count now ≡ after + new_count next → Tables m a (i + 1) (table ++ new ∷ []) next before more_after
  tables_step i table now next before after more_after o new h lt here is known on seen own tick = record {
    known = known;
    so_far =
        append_assoc table (new ∷ []) (all_after m a (drop (i + 1) a.trees))
        ∙ ap (λ (x : Option Tree). table ++ x ∷ all_after m a (drop (i + 1) a.trees)) (is ∙ ap (option_map (renewed m a)) here)
        ∙ ap (λ (xs : List (Option Tree)). table ++ all_after m a xs) (sym (drop_more a.trees i None lt))
        ∙ h.so_far;
    seen = λ f t below e. by_place f t e (cases_order f i) below;
    ticks = let x = h.ticks in omega (arith, x, tick);
  }
    where
      by_place : (f : ℕ) (t : Tree) → slice_index_or a.trees f None ≡ Some t → (f ≡ i) ⊎ ((f < i) ⊎ (i < f)) → f < i + 1 → is_seen (slice_index_or next f Unseen) ≡ true
      by_place f t e (inl same) below =
          let at : o ≡ Some t = here ∙ ap (λ (k : ℕ). slice_index_or a.trees k None) (sym same) ∙ e in
          subst (λ (k : ℕ). is_seen (slice_index_or next k Unseen) ≡ true) (own t at ∙ sym same) (seen t at)
      by_place f t e (inr (inl less)) below = on (record { 0 = f }) (h.seen f t less e)
      by_place f t e (inr (inr more)) below = absurd (omega (arith, more, below))

  pub tables_most : (i : ℕ) (table : List (Option Tree)) (now : List Renewal) (before after : ℕ) → Tables m a i table now before after → after ≤ before + reaching_count a.caller a.trees
  tables_most i table now before after h = let most = count_most m a a.trees now h.known in let x = h.ticks in omega (arith, most, x)

  pub tables_end : (i : ℕ) (table : List (Option Tree)) (now : List Renewal) (before after : ℕ) → Tables m a i table now before after → length a.trees ≤ i → (table ≡ all_after m a a.trees) × (after ≡ before + reaching_count a.caller a.trees)
  tables_end i table now before after h past = (
    sym (append-nil table) ∙ ap (λ (xs : List (Option Tree)). table ++ all_after m a xs) (sym (drop_all i a.trees past)) ∙ h.so_far,
    (let all = count_all m a a.trees now h.known (λ f t e. let w = has_place a.trees f t e in h.seen f t (omega (arith, w, past)) e) in let x = h.ticks in omega (arith, all, x)),
  )

-- ---- shared trees

pub values_long : (os : List (Option (Rc Tree Global))) → length (values os) ≡ length os
values_long os = length-map os (λ (o : Option (Rc Tree Global)). option_map (λ (r : Rc Tree Global). r.value) o)

pub values_push : (os : List (Option (Rc Tree Global))) (o : Option (Rc Tree Global)) → values (os ++ o ∷ []) ≡ values os ++ option_map (λ (r : Rc Tree Global). r.value) o ∷ []
values_push os o = map-append (λ (o : Option (Rc Tree Global)). option_map (λ (r : Rc Tree Global). r.value) o) os (o ∷ [])

pub value_at : (os : List (Option (Rc Tree Global))) (i : ℕ) (o : Option (Rc Tree Global)) → i < length os → o ≡ slice_index_or os i o → option_map (λ (r : Rc Tree Global). r.value) o ≡ slice_index_or (values os) i None
value_at os i o lt is = ap (λ (o : Option (Rc Tree Global)). option_map (λ (r : Rc Tree Global). r.value) o) is ∙ sym (get_or-map (λ (o : Option (Rc Tree Global)). option_map (λ (r : Rc Tree Global). r.value) o) os i o None lt)
