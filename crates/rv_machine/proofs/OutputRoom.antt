-- The bounded machine and the definition's, turn by turn.
use Rattle.std.proofs.Common.{◌≡◌, ℕ, zero, suc, ◌+◌, ◌<◌, ◌≤◌, refl, sym, ap, ◌∙◌, arith, Bool, true, false, nat_lt, if◌then◌else◌, List, length, ⊎_elim, length-append}
use Rattle.std.specs.Fn.{iterate}
use Rattle.std.proofs.lemmas.Bool.Decides.{nat_tests}
use Rattle.std.proofs.lemmas.Bool.{cases_lt}
use Rattle.rv_isa.specs.Memory.{Segments}
use Rattle.rv_isa.specs.Isa as isa
use Rattle.oi_base.specs.Follows.{IsPrefix}
use Rattle.rv_isa.proofs.OutputGrowth.{output_grows}
use Rattle.rv_machine.specs.State.{Bounded, output_room, started, carried, runs, turned}
use Rattle.rv_machine.specs.Laws.{IsRun, IsFull, carried_in}

-- ---- outputs

prefix_shorter : (xs ys : List ℕ) → IsPrefix xs ys → length xs ≤ length ys
prefix_shorter xs ys p = let e : length xs + length p.0 ≡ length ys = sym (length-append xs p.0) ∙ ap length p.1 in omega arith

output_most : (s : Segments) (m : isa.Machine) (n : ℕ) → length m.output ≤ length (iterate (isa.step s) n m).output
output_most s m n = prefix_shorter m.output _ (output_grows s m n)

-- ---- one turn

-- a machine that doesn't run takes no step
stepped_same : (s : Segments) (m : isa.Machine) (stop : isa.Stop) → runs stop ≡ false → isa.stepped s m stop ≡ m
stepped_same s m isa.Running h = cc
stepped_same s m (isa.Exit w) h = refl
stepped_same s m (isa.Access a) h = refl
stepped_same s m (isa.Stack a) h = refl
stepped_same s m (isa.Illegal w) h = refl
stepped_same s m (isa.BadCall n) h = refl

step_same : (s : Segments) (m : isa.Machine) → runs m.stop ≡ false → isa.step s m ≡ m
unfolding isa.step
step_same s m h = stepped_same s m m.stop h

-- how a machine with room stands after k instructions
abbrev roomy : isa.Machine → ℕ → Bounded
roomy m k = record { machine = m; full = false; steps = k }

turned_by : (s : Segments) (m : isa.Machine) (k : ℕ) (c : Bool) → runs m.stop ≡ c → length (isa.step s m).output ≤ output_room → turned s (roomy m k) ≡ roomy (isa.step s m) (k + (if c then carried (isa.step s m).stop else 0))
unfolding turned
turned_by s m k true e h = let room : nat_lt output_room (length (isa.step s m).output) ≡ false = grind (arith, nat_tests) in rw (e, room) refl
turned_by s m k false e h = let z : k + 0 ≡ k = omega arith in rw (e, step_same s m e, z) refl

turned_room : (s : Segments) (m : isa.Machine) (k : ℕ) → length (isa.step s m).output ≤ output_room → turned s (roomy m k) ≡ roomy (isa.step s m) (k + (if runs m.stop then carried (isa.step s m).stop else 0))
turned_room s m k h = turned_by s m k (runs m.stop) refl h

-- a put found no room
filled : isa.Machine → ℕ → Bounded
filled m k = record { machine = m; full = true; steps = k }

turned_full_by : (s : Segments) (m : isa.Machine) (k : ℕ) (c : Bool) → runs m.stop ≡ c → length m.output ≤ output_room → output_room < length (isa.step s m).output → turned s (roomy m k) ≡ filled m k
unfolding turned filled
turned_full_by s m k true e h more = let room : nat_lt output_room (length (isa.step s m).output) ≡ true = grind (arith, nat_tests) in rw (e, room) refl
turned_full_by s m k false e h more = let same : length (isa.step s m).output ≡ length m.output = ap (λ (x : isa.Machine). length x.output) (step_same s m e) in absurd (omega arith)

full_stays : (s : Segments) (n : ℕ) (m : isa.Machine) (k : ℕ) → iterate (turned s) n (filled m k) ≡ filled m k
unfolding turned filled
full_stays s zero m k = refl
full_stays s (suc n) m k = full_stays s n m k

-- ---- many turns

many : (s : Segments) (n : ℕ) (m : isa.Machine) (k : ℕ) → length (iterate (isa.step s) n m).output ≤ output_room → iterate (turned s) n (roomy m k) ≡ roomy (iterate (isa.step s) n m) (k + carried_in s n m)
many s zero m k h = let z : k + 0 ≡ k = omega arith in rw z refl
many s (suc n) m k h =
    let next = isa.step s m in
    let one : ℕ = (if runs m.stop then carried (isa.step s m).stop else 0) in
    let most : length (isa.step s m).output ≤ output_room = let grows = output_most s (isa.step s m) n in omega arith in
    let z : k + (if runs m.stop then carried (isa.step s m).stop else 0) + carried_in s n (isa.step s m) ≡ k + ((if runs m.stop then carried (isa.step s m).stop else 0) + carried_in s n (isa.step s m)) = omega arith in
    ap (iterate (turned s) n) (turned_room s m k most) ∙ many s n (isa.step s m) (k + (if runs m.stop then carried (isa.step s m).stop else 0)) h ∙ ap (roomy (iterate (isa.step s) n (isa.step s m))) z

record Fills (s : Segments) (n : ℕ) (m : isa.Machine) (k : ℕ) : Type 0 where
  turns : ℕ
  fewer : turns < n
  is : iterate (turned s) n (roomy m k) ≡ filled (iterate (isa.step s) turns m) (k + carried_in s turns m)
  fits : length (iterate (isa.step s) turns m).output ≤ output_room
  more : output_room < length (iterate (isa.step s) (suc turns) m).output

fills_many : (s : Segments) (n : ℕ) (m : isa.Machine) (k : ℕ) → length m.output ≤ output_room → output_room < length (iterate (isa.step s) n m).output → Fills s n m k
fills_many s zero m k fits more = absurd (omega arith)
fills_many s (suc n) m k fits more = ⊎_elim now (λ under. later under (fills_many s n (isa.step s m) (k + (if runs m.stop then carried (isa.step s m).stop else 0)) under more)) (cases_lt output_room (length (isa.step s m).output))
  where
    now : output_room < length (isa.step s m).output → Fills s (suc n) m k
    now over = record {
      turns = 0;
      fewer = omega arith;
      is = ap (iterate (turned s) n) (turned_full_by s m k (runs m.stop) refl fits over) ∙ full_stays s n m k ∙ ap (filled m) (let z : k ≡ k + 0 = omega arith in z);
      fits = fits;
      more = over;
    }

    later : length (isa.step s m).output ≤ output_room → Fills s n (isa.step s m) (k + (if runs m.stop then carried (isa.step s m).stop else 0)) → Fills s (suc n) m k
    later under f =
        let before = f.fewer in
        let z : k + (if runs m.stop then carried (isa.step s m).stop else 0) + carried_in s f.turns (isa.step s m) ≡ k + ((if runs m.stop then carried (isa.step s m).stop else 0) + carried_in s f.turns (isa.step s m)) = omega arith in
        record {
          turns = suc f.turns;
          fewer = omega arith;
          is = ap (iterate (turned s) n) (turned_room s m k under) ∙ f.is ∙ ap (filled (iterate (isa.step s) f.turns (isa.step s m))) z;
          fits = f.fits;
          more = f.more;
        }

-- ---- from the start

pub runs_on : (s : Segments) (input : List ℕ) (n : ℕ) → length (isa.run s input n).output ≤ output_room → IsRun s input n (iterate (turned s) n (started s input))
runs_on s input n h =
    let e : iterate (turned s) n (started s input) ≡ roomy (isa.run s input n) (0 + carried_in s n (isa.loaded s input)) = many s n (isa.loaded s input) 0 h in
    let z : 0 + carried_in s n (isa.loaded s input) ≡ carried_in s n (isa.loaded s input) = omega arith in
    record { machine = ap (λ (b : Bounded). b.machine) e; full = ap (λ (b : Bounded). b.full) e; steps = ap (λ (b : Bounded). b.steps) e ∙ z }

pub fills : (s : Segments) (input : List ℕ) (n : ℕ) → output_room < length (isa.run s input n).output → IsFull s input n (iterate (turned s) n (started s input))
unfolding filled
fills s input n h =
    let f : Fills s n (isa.loaded s input) 0 = fills_many s n (isa.loaded s input) 0 (omega arith) h in
    let z : 0 + carried_in s f.turns (isa.loaded s input) ≡ carried_in s f.turns (isa.loaded s input) = omega arith in
    record { turns = f.turns; fewer = f.fewer; machine = ap (λ (b : Bounded). b.machine) f.is; full = ap (λ (b : Bounded). b.full) f.is; steps = ap (λ (b : Bounded). b.steps) f.is ∙ z; fits = f.fits; more = f.more }
