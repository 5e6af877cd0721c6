-- The walk over the callees of a function.
use Rattle.std.proofs.Common.{◌≡◌, ℕ, ◌+◌, ◌<◌, ◌==◌, Bool, true, false, List, length, slice_set, Option, Some, refl, sym, ap, subst, ◌∙◌, get_or-set_same, get_or-set_other, arith}
use Rattle.std.proofs.lemmas.Bool.{or_parts, eqb-false, cases_eq, false≢true}
use mathlib.Core.Logic.{◌⊎◌, inl, inr}
use Rattle.oi_base.specs.declared.ids.FuncId.{FuncId}
use Rattle.oi_base.specs.declared.ids.SiteId.{SiteId}
use Rattle.ir_core.specs.declared.module.Module.{Module}
use Rattle.shapes.specs.declared.renewal.Renewal.{Renewal}
use Rattle.shapes.specs.declared.renewal.Renewal.TheVariants.{Unseen}
use Rattle.shapes.specs.declared.renewal.Renewal.TheVariants as renewals
use Rattle.shapes.specs.Tree.{Tree, node, Callees, none, more, func, inlined}
use Rattle.shapes.specs.Added.{Added}
use Rattle.shapes.specs.Reaching.{has_func, have_func}
use Rattle.shapes.specs.Renewed.{one_if, is_new, is_seen, new_count, renewal_at, IsRenewal, AreRenewals, AreSeen, IsOld, AreOld}
use Rattle.shapes.proofs.Renewals.{held, not_inside, known_more, new_count_set, within_here}

-- what was known is known
abbrev pub IsLater : List Renewal → List Renewal → Type 0
IsLater old new = (f : FuncId) → is_seen (renewal_at old f) ≡ true → is_seen (renewal_at new f) ≡ true

-- what is so whenever a function ends that was to look at some functions
pub record Goes (m : Module) (a : Added) (IsInside : FuncId → Bool) (start now : List Renewal) (before after : ℕ) : Type 0 where
  pub known : AreRenewals m a a.trees now
  pub onward : IsLater start now
  pub others : (f : FuncId) → IsInside f ≡ false → renewal_at now f ≡ renewal_at start f
  pub ticks : after + new_count start ≡ before + new_count now

-- the walk stands before the rest of the callees
pub record Walks (m : Module) (a : Added) (whole rest : Callees) (start now : List Renewal) (before after : ℕ) : Type 0 where
  pub goes : Goes m a (λ (f : FuncId). have_func f whole) start now before after
  pub old : AreOld m a rest
  pub seen : (later : List Renewal) → IsLater now later → AreSeen later rest → AreSeen later whole
  pub outside : (f : FuncId) → have_func f whole ≡ false → have_func f rest ≡ false

module _ (m : Module) (a : Added) (whole : Callees) (start : List Renewal) (before : ℕ) where
  pub walk_starts : AreRenewals m a a.trees start → AreOld m a whole → Walks m a whole whole start start before before
  walk_starts known old = record {
    goes = record { known = known; onward = λ f e. e; others = λ f e. refl; ticks = refl };
    old = old;
    seen = λ later on h. h;
    outside = λ f e. e;
  }

  -- one callee more was looked at, whether memory ran out or not
  pub walk_goes : (s : SiteId) (t : Tree) (rest : Callees) (now next : List Renewal) (after more_after : ℕ) → Walks m a whole (more s t rest) start now before after → Goes m a (λ (f : FuncId). has_func f t) now next after more_after → Goes m a (λ (f : FuncId). have_func f whole) start next before more_after
  walk_goes s t rest now next after more_after w g = record {
    known = g.known;
    onward = λ f e. g.onward f (w.goes.onward f e);
    others = λ f e. g.others f (or_parts (has_func f t) (have_func f rest) (w.outside f e)).0 ∙ w.goes.others f e;
    ticks = let x = w.goes.ticks in let y = g.ticks in omega (arith, x, y);
  }

  pub walk_steps : (s : SiteId) (t : Tree) (rest : Callees) (now next : List Renewal) (after more_after : ℕ) → Walks m a whole (more s t rest) start now before after → Goes m a (λ (f : FuncId). has_func f t) now next after more_after → is_seen (renewal_at next (func t)) ≡ true → Walks m a whole rest start next before more_after
  walk_steps s t rest now next after more_after w g here = record {
    goes = walk_goes s t rest now next after more_after w g;
    old = w.old.1;
    seen = λ later on h. w.seen later (λ f e. on f (g.onward f e)) (on (func t) here, h);
    outside = λ f e. (or_parts (has_func f t) (have_func f rest) (w.outside f e)).1;
  }

  pub walk_ends : (now : List Renewal) (after : ℕ) → Walks m a whole none start now before after → AreSeen now whole
  walk_ends now after w = w.seen now (λ f e. e) tt

-- ---- the function itself

parts : (f : FuncId) (t : Tree) → has_func f t ≡ false → ((func t).0 == f.0 ≡ false) × (have_func f (inlined t) ≡ false)
parts f (node g w ks) e = or_parts (g.0 == f.0) (have_func f ks) e

-- its callees were looked at, and no more
pub halts : (m : Module) (a : Added) (t : Tree) (start now : List Renewal) (before after : ℕ) → Goes m a (λ (f : FuncId). have_func f (inlined t)) start now before after → Goes m a (λ (f : FuncId). has_func f t) start now before after
halts m a t start now before after g = record { known = g.known; onward = g.onward; others = λ f e. g.others f (parts f t e).1; ticks = g.ticks }

-- nothing was done
pub stays : (m : Module) (a : Added) (t : Tree) (start : List Renewal) (before : ℕ) → AreRenewals m a a.trees start → Goes m a (λ (f : FuncId). has_func f t) start start before before
stays m a t start before known = record { known = known; onward = λ f e. e; others = λ f e. refl; ticks = refl }

module _ (m : Module) (a : Added) (t : Tree) (old : IsOld m a t) (start now : List Renewal) (before after last : ℕ) (r : Renewal) (g : Goes m a (λ (f : FuncId). have_func f (inlined t)) start now before after) where
  lt : (func t).0 < length now
  lt = within_here m a t old now g.known

  pub closes_seen : is_seen r ≡ true → is_seen (renewal_at (slice_set now (func t).0 r) (func t)) ≡ true
  closes_seen seen = ap is_seen (get_or-set_same now (func t).0 r Unseen lt) ∙ seen

  pub closes : is_seen (renewal_at start (func t)) ≡ false → IsRenewal m a (Some t) r → is_seen r ≡ true → last ≡ after + one_if (is_new r) → Goes m a (λ (f : FuncId). has_func f t) start (slice_set now (func t).0 r) before last
  closes unseen is seen tick = record {
    known = known_more m a a.trees now (func t).0 r g.known (subst (λ (o : Option Tree). IsRenewal m a o r) (sym (held m a t old).place) is);
    onward = λ f e. by_place f e (cases_eq f.0 (func t).0);
    others = λ f e. let p = parts f t e in get_or-set_other now (func t).0 f.0 r Unseen (λ same. eqb-false (func t).0 f.0 p.0 (sym same)) ∙ g.others f p.1;
    ticks =
        let as_before = g.others (func t) (not_inside m a t old) in
        let none_here = was_unseen (renewal_at now (func t)) (ap is_seen as_before ∙ unseen) in
        let set = new_count_set now (func t).0 r lt in
        let so_far = g.ticks in
        omega (arith, none_here, set, so_far, tick);
  }
    where
      was_unseen : (x : Renewal) → is_seen x ≡ false → one_if (is_new x) ≡ 0
      was_unseen Unseen e = refl
      was_unseen renewals.Same e = refl
      was_unseen (renewals.New r) e = absurd (false≢true (sym e))

      by_place : (f : FuncId) → is_seen (renewal_at start f) ≡ true → (f.0 ≡ (func t).0) ⊎ (f.0 ≡ (func t).0 → ⊥) → is_seen (renewal_at (slice_set now (func t).0 r) f) ≡ true
      by_place f e (inl same) = rw same (closes_seen seen)
      by_place f e (inr other) = ap is_seen (get_or-set_other now (func t).0 f.0 r Unseen other) ∙ g.onward f e
