-- Stretches of the machine's steps, and its instructions where they stand in the text.
use Rattle.std.proofs.Common.{◌≡◌, ℕ, ◌+◌, ◌-◌, ◌<◌, ◌≤◌, refl, sym, ap, ◌∙◌, subst, arith, true, List, length, ⊎_elim}
use Rattle.std.specs.Fn.{iterate}
use Rattle.std.proofs.lemmas.Bool.Decides.{nat_tests}
use Rattle.std.proofs.lemmas.Bool.{cases_lt}
use Rattle.rv_isa.specs.declared.rv.Rv.{Rv}
use Rattle.rv_isa.specs.Memory.{Segments, read, in_text, bytes_at_load, text_start, data_start}
use Rattle.rv_isa.specs.Isa.{Machine, Running, step, executed, loaded, run}
use Rattle.rv_isa.specs.Laws.{Kept, Stands}
use Rattle.rv_isa.proofs.Bytes.{read_same}
use Rattle.rv_isa.proofs.KeptText.{executes, text_stays}
use Rattle.oi_base.proofs.Iterate.{iterate_more, iterate_rest}

-- ---- instructions in the text

pub kept_at_load : (s : Segments) (input : List ℕ) → Kept s (loaded s input)
kept_at_load s input = λ a inside. refl

pub kept_on : (s : Segments) (m : Machine) (n : ℕ) → text_start + length s.text ≤ data_start → Kept s m → Kept s (iterate (step s) n m)
kept_on s m n low kept = λ a inside. text_stays s low a inside m n ∙ kept a inside

byte_inside : (s : Segments) (pc a : ℕ) → in_text s pc 4 ≡ true → pc ≤ a → a < pc + 4 → in_text s a 1 ≡ true
byte_inside s pc a inside from to = grind (arith, nat_tests)

pub fetch : (s : Segments) (m : Machine) (i : Rv) → m.stop ≡ Running → Kept s m → Stands s m.pc i → step s m ≡ executed s m i
fetch s m i running kept at =
    let e : read m.memory 4 m.pc ≡ read (bytes_at_load s) 4 m.pc = read_same m.memory (bytes_at_load s) 4 m.pc (λ a from to. kept a (byte_inside s m.pc a at.inside from to)) in
    executes s m i running at.range (e ∙ at.has) at.inside at.aligned at.low

pub stands_and_executes : (s : Segments) (input : List ℕ) (n : ℕ) (i : Rv) → text_start + length s.text ≤ data_start → (run s input n).stop ≡ Running → Stands s (run s input n).pc i → step s (run s input n) ≡ executed s (run s input n) i
stands_and_executes s input n i low running at = fetch s (run s input n) i running (kept_on s (loaded s input) n low (kept_at_load s input)) at

-- ---- stretches

-- what the environment sees doesn't change
pub record Quiet (m later : Machine) : Type 0 where
  pub running : later.stop ≡ Running
  pub output : later.output ≡ m.output

-- the machine comes from one state to another, quietly on the way
pub record Path (s : Segments) (m m' : Machine) : Type 0 where
  pub count : ℕ
  pub lands : iterate (step s) count m ≡ m'
  pub quiet : (j : ℕ) → j < count → Quiet m (iterate (step s) j m)

pub stay : (s : Segments) (m : Machine) → Path s m m
stay s m = record { count = 0; lands = refl; quiet = λ j h. absurd (omega arith) }

pub one_turn : (s : Segments) (m m' : Machine) → m.stop ≡ Running → step s m ≡ m' → Path s m m'
one_turn s m m' running e = record {
  count = 1;
  lands = e;
  quiet = λ j h. let z : 0 ≡ j = omega arith in subst (λ k. Quiet m (iterate (step s) k m)) z (record { running = running; output = refl });
}

pub join : (s : Segments) (m m' m'' : Machine) → m'.output ≡ m.output → Path s m m' → Path s m' m'' → Path s m m''
join s m m' m'' o p q = record {
  count = p.count + q.count;
  lands = sym (iterate_more (step s) p.count q.count m) ∙ ap (iterate (step s) q.count) p.lands ∙ q.lands;
  quiet = λ j h. ⊎_elim (λ lt. p.quiet j lt) (λ le. later j le (omega arith)) (cases_lt j p.count);
}
  where
    later : (j : ℕ) → p.count ≤ j → j - p.count < q.count → Quiet m (iterate (step s) j m)
    later j le h =
        let e : iterate (step s) (j - p.count) m' ≡ iterate (step s) j m = ap (iterate (step s) (j - p.count)) (sym p.lands) ∙ iterate_rest (step s) p.count j m le in
        let k = q.quiet (j - p.count) h in
        subst (λ y. Quiet m y) e (record { running = k.running; output = k.output ∙ o })

pub join_counts : (s : Segments) (m m' m'' : Machine) (o : m'.output ≡ m.output) (p : Path s m m') (q : Path s m' m'') → (join s m m' m'' o p q).count ≡ p.count + q.count
unfolding join
join_counts s m m' m'' o p q = refl

pub one_counts : (s : Segments) (m m' : Machine) (running : m.stop ≡ Running) (e : step s m ≡ m') → (one_turn s m m' running e).count ≡ 1
unfolding one_turn
one_counts s m m' running e = refl
