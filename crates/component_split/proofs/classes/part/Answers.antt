use Rattle.std.proofs.Common.{◌≡◌, ◌≢◌, ◌+◌, ◌<◌, ◌≤◌, ℕ, List, length, set, get_or-set_same, get_or-set_other, below_more, ⊎_elim, sym, subst, arith}
use Rattle.std.specs.Prelude.{slice_index}
use Rattle.std.proofs.lemmas.Bool.{cases_eq}
use Rattle.std.proofs.lemmas.List.{length-set}
use Rattle.component_split.specs.Classes.{AreApart}
use Rattle.component_split.proofs.classes.part.Goals as goal

apart_more : (ps : List ℕ) (k : ℕ) → AreApart k ps → k < length ps → AreApart (k + 1) (set ps k k)
apart_more ps k a l =
    let same = get_or-set_same ps k k 0 l in
    record {
      parents = λ j. ⊎_elim (λ e. subst (λ y. slice_index (set ps k k) y ≤ y) (sym e) (omega (arith, same))) (λ ne. let o = get_or-set_other ps k j k 0 ne in let b = a.parents j in omega (arith, o, b)) (cases_eq j k);
      room = let s = length-set ps k k in omega (arith, s, l);
      own = below_more (λ j. slice_index (set ps k k) j ≡ j) k (λ j h. let ne : j ≢ k = omega arith in let o = get_or-set_other ps k j k 0 ne in let b = a.own j h in omega (arith, o, b)) same;
    }

pub loop-k-preserved : goal.loop-k-preserved
loop-k-preserved c =
    let a = c.loop-k.invariant.apart in
    let n = c.loop-k.invariant.count in
    let t = c.loop-k-test.true in
    let r = c.requires.room in
    let s = length-set c.loop-k.parents.items c.loop-k.k c.loop-k.k in
    record { apart = apart_more c.loop-k.parents.items c.loop-k.k a (omega (arith, n, t, r)); count = omega (arith, s, n) }
