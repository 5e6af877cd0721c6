-- Instructions that set one register each: how far a row has come.
use Rattle.std.proofs.Common.{◌≡◌, ◌≢◌, ℕ, ◌+◌, ◌*◌, ◌<◌, refl, sym, ap, ◌∙◌, subst, arith, List, [], ◌∷◌, ◌++◌, length}
use Rattle.std.proofs.lemmas.Bool.Decides.{nat_tests}
use Rattle.rv_isa.specs.declared.rv.Rv.{Rv}
use Rattle.rv_isa.specs.Memory.{Segments}
use Rattle.rv_isa.specs.Isa.{Machine, Running, step, executed, sets, x, with_register}
use Rattle.rv_isa.specs.Laws.{Kept, Stands, Holds}
use Rattle.rv_isa.proofs.Stretches.{fetch, Path, stay, one_turn, join, join_counts, one_counts}

-- within a row: from m the machine came to m', and nothing changed but registers
pub record Mid (s : Segments) (m m' : Machine) (pc sp : ℕ) : Type 0 where
  pub path : Path s m m'
  pub pc_is : m'.pc ≡ pc
  pub running : m'.stop ≡ Running
  pub memory : m'.memory ≡ m.memory
  pub input : m'.input ≡ m.input
  pub output : m'.output ≡ m.output
  pub sp_is : m'.registers 2 ≡ sp

-- and then to where register r has the value v, and the others are as in m1
pub record Got (s : Segments) (m m1 : Machine) (pc sp r v : ℕ) : Type 0 where
  pub after : Machine
  pub mid : Mid s m after pc sp
  pub value : after.registers r ≡ v
  pub others : (q : ℕ) → q ≢ r → after.registers q ≡ m1.registers q

pub begin : (s : Segments) (m : Machine) (pc sp : ℕ) → m.stop ≡ Running → m.pc ≡ pc → m.registers 2 ≡ sp → Mid s m m pc sp
begin s m pc sp running at_pc at_sp = record { path = stay s m; pc_is = at_pc; running = running; memory = refl; input = refl; output = refl; sp_is = at_sp }

pub x_is : (registers : ℕ → ℕ) (r : ℕ) → r ≢ 0 → x registers r ≡ registers r
x_is registers r h = grind (arith, nat_tests)

pub with_same : (f : ℕ → ℕ) (r v : ℕ) → with_register f r v r ≡ v
with_same f r v = grind (arith, nat_tests)

pub with_other : (f : ℕ → ℕ) (r v q : ℕ) → q ≢ r → with_register f r v q ≡ f q
with_other f r v q h = grind (arith, nat_tests)

-- a path of at least one turn
pub record Moves (s : Segments) (m m' : Machine) : Type 0 where
  pub path : Path s m m'
  pub moved : 0 < path.count

pub moves_on : (s : Segments) (m m' m'' : Machine) → m'.output ≡ m.output → Path s m m' → m'.stop ≡ Running → step s m' ≡ m'' → Moves s m m''
moves_on s m m' m'' o p run e = record { path = join s m m' m'' o p (one_turn s m' m'' run e); moved = omega (arith, join_counts s m m' m'' o p (one_turn s m' m'' run e), one_counts s m' m'' run e) }

-- ---- codes one after another

pub holds_front : (s : Segments) (pc : ℕ) (a b : List Rv) → Holds s pc (a ++ b) → Holds s pc a
holds_front s pc [] b h = tt
holds_front s pc (i ∷ a) b h = (h.0, holds_front s (pc + 4) a b h.1)

pub holds_back : (s : Segments) (pc : ℕ) (a b : List Rv) → Holds s pc (a ++ b) → Holds s (pc + 4 * length a) b
holds_back s pc [] b h = let e : pc ≡ pc + 4 * 0 = omega arith in subst (λ n. Holds s n b) e h
holds_back s pc (i ∷ a) b h =
    let e : pc + 4 + 4 * length a ≡ pc + 4 * length (i ∷ a) = omega arith in
    subst (λ n. Holds s n b) e (holds_back s (pc + 4) a b h.1)

module _ (s : Segments) (m : Machine) (kept : Kept s m) where
  pub kept_mid : (m1 : Machine) (pc sp : ℕ) → Mid s m m1 pc sp → Kept s m1
  kept_mid m1 pc sp mid = λ a h. ap (λ (f : ℕ → ℕ). f a) mid.memory ∙ kept a h

  -- what the instruction at the place makes of the machine
  pub executes_at : (m1 : Machine) (pc sp : ℕ) (i : Rv) → Mid s m m1 pc sp → Stands s pc i → step s m1 ≡ executed s m1 i
  executes_at m1 pc sp i mid here = fetch s m1 i mid.running (kept_mid m1 pc sp mid) (subst (λ p. Stands s p i) (sym mid.pc_is) here)

  -- one instruction that sets a register, the stack pointer too
  one_set : (m1 : Machine) (pc sp sp' v : ℕ) (i : Rv) (d : ℕ) → with_register m1.registers d v 2 ≡ sp' → Mid s m m1 pc sp → Stands s pc i → executed s m1 i ≡ sets m1 d v → Got s m m1 (pc + 4) sp' d v
  one_set m1 pc sp sp' v i d two mid here e = record {
    after = sets m1 d v;
    mid = record {
      path = join s m m1 (sets m1 d v) mid.output mid.path (one_turn s m1 (sets m1 d v) mid.running (executes_at m1 pc sp i mid here ∙ e));
      pc_is = ap (λ p. p + 4) mid.pc_is;
      running = mid.running;
      memory = mid.memory;
      input = mid.input;
      output = mid.output;
      sp_is = two;
    };
    value = with_same m1.registers d v;
    others = λ q h. with_other m1.registers d v q h;
  }

  pub sets_runs : (m1 : Machine) (pc sp v : ℕ) (i : Rv) (d : ℕ) → d ≢ 2 → Mid s m m1 pc sp → Stands s pc i → executed s m1 i ≡ sets m1 d v → Got s m m1 (pc + 4) sp d v
  sets_runs m1 pc sp v i d two mid here e = let two' : 2 ≢ d = λ z. two (sym z) in one_set m1 pc sp sp v i d (with_other m1.registers d v 2 two' ∙ mid.sp_is) mid here e

  pub sets_sp : (m1 : Machine) (pc sp v : ℕ) (i : Rv) → Mid s m m1 pc sp → Stands s pc i → executed s m1 i ≡ sets m1 2 v → Got s m m1 (pc + 4) v 2 v
  sets_sp m1 pc sp v i mid here e = one_set m1 pc sp v v i 2 (with_same m1.registers 2 v) mid here e

  -- two stretches that set one register
  pub then_sets : (m1 : Machine) (pc sp r v u : ℕ) → (g : Got s m m1 pc sp r v) → (pc' : ℕ) → Got s m g.after pc' sp r u → Got s m m1 pc' sp r u
  then_sets m1 pc sp r v u g pc' g' = record { after = g'.after; mid = g'.mid; value = g'.value; others = λ q h. g'.others q h ∙ g.others q h }

  pub ends_at : (m1 : Machine) (pc pc' sp r v : ℕ) → pc ≡ pc' → Got s m m1 pc sp r v → Got s m m1 pc' sp r v
  ends_at m1 pc pc' sp r v e g = subst (λ a. Got s m m1 a sp r v) e g
