-- A state that stands for the next machine.
use Rattle.std.proofs.Common.{◌≡◌, ◌≢◌, ℕ, zero, suc, ◌+◌, ◌-◌, ◌≤◌, refl, sym, ap, ◌∙◌, subst, arith, Bool, true, false, ◌&&◌, nat_lt, if◌then◌else◌, length, Option, Some, None, Result, Ok, Err}
use Rattle.std.proofs.lemmas.Bool.Decides.{nat_tests}
use Rattle.std.specs.Fn.{iterate}
use Rattle.rv_isa.specs.declared.rv.Rv.{Rv}
use Rattle.rv_isa.specs.Decode.{decode_of}
use Rattle.rv_isa.specs.Memory.{Segments, Permission, Executable, Readable, Writable, read, touches_guard, is_permitted, is_aligned}
use Rattle.rv_isa.specs.Isa as isa
use Rattle.oi_base.proofs.Iterate.{iterate_more, iterate_rest}
use Rattle.rv_machine.specs.Bytes.{held}
use Rattle.rv_machine.specs.Memory.{bytes_of, segments_of, KeepsText, refusal, or_illegal, fetched}
use Rattle.rv_machine.specs.State.{Bounded, State, Stands, IsFault, output_room, advanced, carried, turned, told, told_of, stop_of, is_full, machine_of, bounded}
use Rattle.rv_machine.specs.declared.stop.Stop.{Stop}
use Rattle.rv_machine.specs.declared.stop.Stop.TheVariants as halt

has_room : (b : Bounded) (next : isa.Machine) → length next.output ≤ output_room → advanced b next ≡ record { machine = next; full = false; steps = b.steps + carried next.stop }
has_room b next most = let e : nat_lt output_room (length next.output) ≡ false = grind (arith, nat_tests) in rw e refl

-- what a state has to hold
pub record Holds (st : State) (m : isa.Machine) : Type 0 where
  pub pc : st.pc ≡ m.pc
  pub registers : held st.registers ≡ m.registers
  pub memory : bytes_of st.contents ≡ m.memory
  pub input : st.input ≡ m.input
  pub output : st.output ≡ m.output
  pub stop : stop_of st.stop ≡ m.stop

same_machine : (st : State) (m : isa.Machine) → Holds st m → machine_of st ≡ m
same_machine st m h = λ i. record { pc = h.pc i; registers = h.registers i; memory = h.memory i; input = h.input i; output = h.output i; stop = h.stop i }

pub to_advanced : (old new : State) (next : isa.Machine) → length new.output ≤ output_room → Holds new next → is_full new.stop ≡ false → new.steps ≡ old.steps + carried next.stop → bounded new ≡ advanced (bounded old) next
to_advanced old new next most h full steps =
    let m = same_machine new next h in
    let most' : length next.output ≤ output_room = let e = h.output in omega (arith, ap length e) in
    (λ i. record { machine = m i; full = full i; steps = steps i }) ∙ sym (has_room (bounded old) next most')

-- ---- fetches

pub step_running : (s : Segments) (m : isa.Machine) → m.stop ≡ isa.Running → isa.step s m ≡ isa.fetched s m (read m.memory 4 m.pc)
unfolding isa.step
step_running s m running = ap (isa.stepped s m) running

-- an answer by whether the guard is touched and the fetch permitted, and by what the word decodes to
abbrev answered : ℕ → ℕ → Bool → Bool → Option Rv → Result Rv Stop
answered a w true permitted o = Err (halt.Stack a)
answered a w false true o = or_illegal w o
answered a w false false o = Err (halt.Access a)

abbrev next : Segments → isa.Machine → ℕ → Bool → Bool → Option Rv → isa.Machine
next s m w true permitted o = isa.stopped m (isa.Stack m.pc)
next s m w false true o = isa.decoded s m w o
next s m w false false o = isa.stopped m (isa.Access m.pc)

fetched_is : (s : Segments) (a w : ℕ) (c d e : Bool) → touches_guard a 4 ≡ c → is_permitted s Executable a 4 ≡ d → is_aligned a 4 ≡ e → fetched (refusal s Executable a 4) w ≡ answered a w c (d && e) (decode_of w)
fetched_is s a w true d e p q r = rw p refl
fetched_is s a w false true true p q r = rw (p, q, r) refl
fetched_is s a w false true false p q r = rw (p, q, r) refl
fetched_is s a w false false e p q r = rw (p, q) refl

next_is : (s : Segments) (m : isa.Machine) (w : ℕ) (c d e : Bool) → touches_guard m.pc 4 ≡ c → is_permitted s Executable m.pc 4 ≡ d → is_aligned m.pc 4 ≡ e → isa.fetched s m w ≡ next s m w c (d && e) (decode_of w)
next_is s m w true d e p q r = rw p refl
next_is s m w false true true p q r = rw (p, q, r) refl
next_is s m w false true false p q r = rw (p, q, r) refl
next_is s m w false false e p q r = rw (p, q) refl

ok_by : (s : Segments) (m : isa.Machine) (w : ℕ) (i : Rv) (c d : Bool) (o : Option Rv) → Ok i ≡ answered m.pc w c d o → next s m w c d o ≡ isa.executed s m i
ok_by s m w i true d o e = cc
ok_by s m w i false true (Some j) e = let same : j ≡ i = cc in ap (isa.executed s m) same
ok_by s m w i false true None e = cc
ok_by s m w i false false o e = cc

err_by : (s : Segments) (m : isa.Machine) (w : ℕ) (stop : Stop) (c d : Bool) (o : Option Rv) → Err stop ≡ answered m.pc w c d o → (next s m w c d o ≡ isa.stopped m (stop_of stop)) × IsFault stop
err_by s m w stop true d o e = let same : halt.Stack m.pc ≡ stop = cc in subst (λ x. (isa.stopped m (isa.Stack m.pc) ≡ isa.stopped m (stop_of x)) × IsFault x) same (refl, (refl, refl))
err_by s m w stop false true (Some j) e = cc
err_by s m w stop false true None e = let same : halt.Illegal w ≡ stop = cc in subst (λ x. (isa.stopped m (isa.Illegal w) ≡ isa.stopped m (stop_of x)) × IsFault x) same (refl, (refl, refl))
err_by s m w stop false false o e = let same : halt.Access m.pc ≡ stop = cc in subst (λ x. (isa.stopped m (isa.Access m.pc) ≡ isa.stopped m (stop_of x)) × IsFault x) same (refl, (refl, refl))

pub fetch_ok : (s : Segments) (m : isa.Machine) (w : ℕ) (i : Rv) → Ok i ≡ fetched (refusal s Executable m.pc 4) w → isa.fetched s m w ≡ isa.executed s m i
fetch_ok s m w i e =
    next_is s m w _ _ _ refl refl refl
    ∙ ok_by s m w i (touches_guard m.pc 4) (is_permitted s Executable m.pc 4 && is_aligned m.pc 4) (decode_of w) (e ∙ fetched_is s m.pc w _ _ _ refl refl refl)

pub fetch_err : (s : Segments) (m : isa.Machine) (w : ℕ) (stop : Stop) → Err stop ≡ fetched (refusal s Executable m.pc 4) w → (isa.fetched s m w ≡ isa.stopped m (stop_of stop)) × IsFault stop
fetch_err s m w stop e =
    let p = err_by s m w stop (touches_guard m.pc 4) (is_permitted s Executable m.pc 4 && is_aligned m.pc 4) (decode_of w) (e ∙ fetched_is s m.pc w _ _ _ refl refl refl) in
    (next_is s m w _ _ _ refl refl refl ∙ p.0, p.1)

-- ---- the sizes of the segments alone matter

module _ (s t : Segments) (text_size : length s.text ≡ length t.text) (data_size : length s.data_bytes ≡ length t.data_bytes) where
  same_permitted : (p : Permission) (a n : ℕ) → is_permitted s p a n ≡ is_permitted t p a n
  same_permitted Executable a n = rw text_size refl
  same_permitted Readable a n = rw (text_size, data_size) refl
  same_permitted Writable a n = rw data_size refl

  same_accessed : (m : isa.Machine) (p : Permission) (a n : ℕ) (k : isa.Machine) → isa.accessed s m p a n k ≡ isa.accessed t m p a n k
  same_accessed m p a n k = rw (same_permitted p a n) refl

  same_applied : (m : isa.Machine) (e : isa.Effect) → isa.applied s m e ≡ isa.applied t m e
  same_applied m (isa.Sets rd v) = refl
  same_applied m (isa.Jumps rd target) = refl
  same_applied m (isa.Branches test target) = refl
  same_applied m (isa.Loads rd a n extended) = same_accessed m Readable a n _
  same_applied m (isa.Stores a n v) = same_accessed m Writable a n _
  same_applied m isa.Continues = refl
  same_applied m isa.Calls = refl
  same_applied m isa.Breaks = refl

  same_decoded : (m : isa.Machine) (w : ℕ) (o : Option Rv) → isa.decoded s m w o ≡ isa.decoded t m w o
  same_decoded m w None = refl
  same_decoded m w (Some i) = same_applied m (isa.effect m.pc (isa.x m.registers) i)

  same_fetched : (m : isa.Machine) (w : ℕ) → isa.fetched s m w ≡ isa.fetched t m w
  same_fetched m w = same_accessed m Executable m.pc 4 _ ∙ ap (isa.accessed t m Executable m.pc 4) (same_decoded m w (decode_of w))

  same_stepped : (m : isa.Machine) (stop : isa.Stop) → isa.stepped s m stop ≡ isa.stepped t m stop
  same_stepped m isa.Running = same_fetched m (read m.memory 4 m.pc)
  same_stepped m (isa.Exit w) = refl
  same_stepped m (isa.Stack a) = refl
  same_stepped m (isa.Access a) = refl
  same_stepped m (isa.Illegal w) = refl
  same_stepped m (isa.BadCall n) = refl

  pub same_step : (m : isa.Machine) → isa.step s m ≡ isa.step t m
  unfolding isa.step
  same_step m = same_stepped m m.stop

-- ---- turns

turned_running : (s : Segments) (b : Bounded) → b.full ≡ false → b.machine.stop ≡ isa.Running → turned s b ≡ advanced b (isa.step s b.machine)
unfolding turned
turned_running s b full running = rw (full, running) refl

stopped_by : (s : Segments) (st : State) (stop : Stop) → st.stop ≡ stop → stop ≢ halt.Running → turned s (bounded st) ≡ bounded st
unfolding turned
stopped_by s st halt.Running is stopped = absurd (stopped refl)
stopped_by s st (halt.Exit w) is stopped = rw is refl
stopped_by s st (halt.Access a) is stopped = rw is refl
stopped_by s st (halt.Stack a) is stopped = rw is refl
stopped_by s st (halt.Illegal w) is stopped = rw is refl
stopped_by s st (halt.BadCall n) is stopped = rw is refl
stopped_by s st halt.OutputFull is stopped = rw is refl

-- a machine that stopped stays as it is
pub turned_stopped : (s : Segments) (st : State) (b : Bounded) → bounded st ≡ b → st.stop ≢ halt.Running → turned s b ≡ b
turned_stopped s st b e stopped = subst (λ c. turned s c ≡ c) e (stopped_by s st st.stop refl stopped)

pub stands_turned : (s : Segments) (old new : State) (b : Bounded) → old.stop ≡ halt.Running → KeepsText old.contents new.contents → bounded new ≡ advanced (bounded old) (isa.step (segments_of old.contents) (machine_of old)) → Stands s old b → Stands s new (turned s b)
stands_turned s old new b running keeps e st = record {
  text_size = ap length keeps.text ∙ st.text_size;
  data_size = keeps.data_size ∙ st.data_size;
  state = e ∙ ap (advanced (bounded old)) (same_step (segments_of old.contents) s st.text_size st.data_size (machine_of old)) ∙ sym (turned_running s (bounded old) (ap is_full running) (ap stop_of running)) ∙ ap (turned s) st.state;
}

pub stands_stopped : (s : Segments) (st : State) (b : Bounded) → st.stop ≢ halt.Running → Stands s st b → Stands s st (turned s b)
stands_stopped s st b stopped h = record {
  text_size = h.text_size;
  data_size = h.data_size;
  state = h.state ∙ sym (turned_stopped s st b h.state stopped);
}

told_by : (stop : Stop) → (if is_full stop then halt.OutputFull else told_of (stop_of stop)) ≡ stop
told_by halt.Running = refl
told_by (halt.Exit w) = refl
told_by (halt.Access a) = refl
told_by (halt.Stack a) = refl
told_by (halt.Illegal w) = refl
told_by (halt.BadCall n) = refl
told_by halt.OutputFull = refl

-- an answer is how the state stands
pub told_is : (st : State) → told (bounded st) ≡ st.stop
told_is st = told_by st.stop

-- ---- the turn of a fetch

pub turn_ok : (now st : State) (new : Bounded) (i : Rv) → st ≡ now → now.stop ≡ halt.Running → Ok i ≡ fetched (refusal (segments_of st.contents) Executable st.pc 4) (read (bytes_of st.contents) 4 st.pc) → new ≡ advanced (bounded now) (isa.executed (segments_of now.contents) (machine_of now) i) → new ≡ advanced (bounded now) (isa.step (segments_of now.contents) (machine_of now))
turn_ok now st new i same running e h =
    let f : Ok i ≡ fetched (refusal (segments_of now.contents) Executable now.pc 4) (read (bytes_of now.contents) 4 now.pc) = e ∙ ap (λ (x : State). fetched (refusal (segments_of x.contents) Executable x.pc 4) (read (bytes_of x.contents) 4 x.pc)) same in
    h ∙ ap (advanced (bounded now)) (sym (step_running (segments_of now.contents) (machine_of now) (ap stop_of running) ∙ fetch_ok (segments_of now.contents) (machine_of now) _ i f))

pub turn_err : (now st : State) (new : Bounded) (stop : Stop) → st ≡ now → now.stop ≡ halt.Running → Err stop ≡ fetched (refusal (segments_of st.contents) Executable st.pc 4) (read (bytes_of st.contents) 4 st.pc) → new ≡ advanced (bounded now) (isa.stopped (machine_of now) (stop_of stop)) → new ≡ advanced (bounded now) (isa.step (segments_of now.contents) (machine_of now))
turn_err now st new stop same running e h =
    let f : Err stop ≡ fetched (refusal (segments_of now.contents) Executable now.pc 4) (read (bytes_of now.contents) 4 now.pc) = e ∙ ap (λ (x : State). fetched (refusal (segments_of x.contents) Executable x.pc 4) (read (bytes_of x.contents) 4 x.pc)) same in
    h ∙ ap (advanced (bounded now)) (sym (step_running (segments_of now.contents) (machine_of now) (ap stop_of running) ∙ (fetch_err (segments_of now.contents) (machine_of now) _ stop f).0))

-- ---- counts

carried_most : (stop : isa.Stop) → carried stop ≤ 1
carried_most isa.Running = omega arith
carried_most (isa.Exit w) = omega arith
carried_most (isa.Access a) = omega arith
carried_most (isa.Stack a) = omega arith
carried_most (isa.Illegal w) = omega arith
carried_most (isa.BadCall n) = omega arith

pub record Counts (old new : State) : Type 0 where
  pub at_most : new.steps ≤ old.steps + 1
  pub running : new.stop ≡ halt.Running → new.steps ≡ old.steps + 1

counts_by : (old new : State) (next : isa.Machine) (c : Bool) → bounded new ≡ (if c then record (bounded old) { full = true } else record { machine = next; full = false; steps = old.steps + carried next.stop }) → Counts old new
counts_by old new next true e =
    let steps : new.steps ≡ old.steps = ap (λ (b : Bounded). b.steps) e in
    let full : is_full new.stop ≡ true = ap (λ (b : Bounded). b.full) e in
    record { at_most = omega arith; running = λ is. let f : false ≡ true = sym (ap is_full is) ∙ full in cc }
counts_by old new next false e =
    let steps : new.steps ≡ old.steps + carried next.stop = ap (λ (b : Bounded). b.steps) e in
    let stop : stop_of new.stop ≡ next.stop = ap (λ (b : Bounded). b.machine.stop) e in
    let most = carried_most next.stop in
    record { at_most = omega arith; running = λ is. let one : carried next.stop ≡ 1 = ap carried (sym stop ∙ ap stop_of is) in omega arith }

pub counts : (old new : State) (next : isa.Machine) → bounded new ≡ advanced (bounded old) next → Counts old new
counts old new next e = counts_by old new next (nat_lt output_room (length next.output)) e

-- ---- many turns

pub one_more : (s : Segments) (i : ℕ) (b : Bounded) → turned s (iterate (turned s) i b) ≡ iterate (turned s) (i + 1) b
one_more s i b = iterate_more (turned s) i 1 b

fixed : (s : Segments) (n : ℕ) (b : Bounded) → turned s b ≡ b → iterate (turned s) n b ≡ b
fixed s zero b e = refl
fixed s (suc n) b e = ap (iterate (turned s) n) e ∙ fixed s n b e

pub stays : (s : Segments) (i n : ℕ) (b : Bounded) → i ≤ n → turned s (iterate (turned s) i b) ≡ iterate (turned s) i b → iterate (turned s) n b ≡ iterate (turned s) i b
stays s i n b h e = sym (iterate_rest (turned s) i n b h) ∙ fixed s (n - i) (iterate (turned s) i b) e

pub stays_stopped : (s : Segments) (st : State) (i n : ℕ) (b : Bounded) → i ≤ n → st.stop ≢ halt.Running → Stands s st (iterate (turned s) i b) → Stands s st (iterate (turned s) n b)
stays_stopped s st i n b h stopped k =
    let e : iterate (turned s) n b ≡ iterate (turned s) i b = stays s i n b h (turned_stopped s st (iterate (turned s) i b) k.state stopped) in
    subst (Stands s st) (sym e) k
