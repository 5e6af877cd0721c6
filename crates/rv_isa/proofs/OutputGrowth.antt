-- What a machine has put stays, and a machine that stopped does nothing more.
use Rattle.std.proofs.Common.{◌≡◌, ◌≢◌, ℕ, zero, suc, ◌+◌, ◌%◌, List, [], ◌∷◌, refl, ap, ◌∙◌, append-nil, Bool, true, false, ◌&&◌, nat_eq, if◌then◌else◌, Option, Some, None}
use Rattle.std.specs.Fn.{iterate}
use Rattle.rv_isa.specs.declared.rv.Rv.{Rv}
use Rattle.rv_isa.specs.Decode.{decode_of}
use Rattle.rv_isa.specs.Memory.{Segments, Permission, Executable, Readable, Writable, read, write, touches_guard, is_permitted, is_aligned}
use Rattle.rv_isa.specs.Isa.{Machine, Stop, Running, Exit, Access, Stack, Illegal, BadCall, Effect, Sets, Jumps, Branches, Loads, Stores, Continues, Calls, Breaks, effect, x, stopped, accessed, sets, got, called, applied, decoded, stepped, step}
use Rattle.oi_base.specs.Follows.{IsPrefix}
use Rattle.oi_base.proofs.Chain.{prefix_trans}

abbrev Grows : Machine → Machine → Type 0
Grows m next = IsPrefix m.output next.output

same : (m : Machine) → Grows m m
same m = ([], append-nil m.output)

either : (m a b : Machine) (c : Bool) → Grows m a → Grows m b → Grows m (if c then a else b)
either m a b true p q = p
either m a b false p q = q

access_grows : (s : Segments) (m : Machine) (p : Permission) (a n : ℕ) (next : Machine) → Grows m next → Grows m (accessed s m p a n next)
access_grows s m p a n next h =
    either m (stopped m (Stack a)) (if is_permitted s p a n && is_aligned a n then next else stopped m (Access a)) (touches_guard a n) (same m)
    (either m next (stopped m (Access a)) (is_permitted s p a n && is_aligned a n) h (same m))

got_grows : (m : Machine) (bs : List ℕ) → Grows m (got m bs)
got_grows m [] = same m
got_grows m (b ∷ bs) = same m

call_grows : (m : Machine) (number v : ℕ) → Grows m (called m number v)
call_grows m number v =
    either m _ _ (nat_eq number 1) ((v % 256) ∷ [], refl)
    (either m _ _ (nat_eq number 2) (got_grows m m.input)
    (either m _ _ (nat_eq number 3) (same m) (same m)))

effect_grows : (s : Segments) (m : Machine) (e : Effect) → Grows m (applied s m e)
effect_grows s m (Sets rd v) = same m
effect_grows s m (Jumps rd target) = same m
effect_grows s m (Branches test target) = same m
effect_grows s m (Loads rd a n extended) = access_grows s m Readable a n (sets m rd (extended (read m.memory n a))) (same m)
effect_grows s m (Stores a n v) = access_grows s m Writable a n (record m { pc = m.pc + 4; memory = write m.memory n a v }) (same m)
effect_grows s m Continues = same m
effect_grows s m Calls = call_grows m (m.registers 17) (m.registers 10)
effect_grows s m Breaks = same m

decoded_grows : (s : Segments) (m : Machine) (w : ℕ) (o : Option Rv) → Grows m (decoded s m w o)
decoded_grows s m w None = same m
decoded_grows s m w (Some i) = effect_grows s m (effect m.pc (x m.registers) i)

stepped_grows : (s : Segments) (m : Machine) (stop : Stop) → Grows m (stepped s m stop)
stepped_grows s m Running =
    let w = read m.memory 4 m.pc in
    access_grows s m Executable m.pc 4 (decoded s m w (decode_of w)) (decoded_grows s m w (decode_of w))
stepped_grows s m (Exit w) = same m
stepped_grows s m (Stack a) = same m
stepped_grows s m (Access a) = same m
stepped_grows s m (Illegal w) = same m
stepped_grows s m (BadCall n) = same m

step_grows : (s : Segments) (m : Machine) → Grows m (step s m)
unfolding step
step_grows s m = stepped_grows s m m.stop

pub output_grows : (s : Segments) (m : Machine) (n : ℕ) → IsPrefix m.output (iterate (step s) n m).output
output_grows s m zero = same m
output_grows s m (suc n) = prefix_trans m.output (step s m).output (iterate (step s) n (step s m)).output (step_grows s m) (output_grows s (step s m) n)

-- ---- a machine that stopped

stepped_stays : (s : Segments) (m : Machine) (stop : Stop) → stop ≢ Running → stepped s m stop ≡ m
stepped_stays s m Running h = absurd (h refl)
stepped_stays s m (Exit w) h = refl
stepped_stays s m (Stack a) h = refl
stepped_stays s m (Access a) h = refl
stepped_stays s m (Illegal w) h = refl
stepped_stays s m (BadCall n) h = refl

step_stays : (s : Segments) (m : Machine) → m.stop ≢ Running → step s m ≡ m
unfolding step
step_stays s m h = stepped_stays s m m.stop h

pub stopped_stays : (s : Segments) (m : Machine) (n : ℕ) → m.stop ≢ Running → iterate (step s) n m ≡ m
stopped_stays s m zero h = refl
stopped_stays s m (suc n) h = ap (iterate (step s) n) (step_stays s m h) ∙ stopped_stays s m n h
