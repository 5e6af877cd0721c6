-- The text stays as it was loaded, and an instruction whose word stands there is executed.
use Rattle.std.proofs.Common.{◌≡◌, ◌⊎◌, ℕ, zero, suc, ◌+◌, ◌%◌, ◌<◌, ◌≤◌, refl, sym, ap, ◌∙◌, arith, Bool, true, false, ◌&&◌, nat_eq, if◌then◌else◌, List, [], ◌∷◌, length, Option, Some, None}
use Rattle.std.specs.Fn.{iterate}
use Rattle.std.proofs.lemmas.Bool.Decides.{nat_tests}
use Rattle.rv_isa.specs.declared.rv.Rv.{Rv}
use Rattle.rv_isa.specs.Words.{word_of, InRange}
use Rattle.rv_isa.specs.Decode.{decode_of}
use Rattle.rv_isa.specs.Memory.{Segments, Permission, Executable, Readable, Writable, read, write, in_text, touches_guard, is_permitted, is_aligned, text_start, data_start, guard_start}
use Rattle.rv_isa.specs.Isa.{Machine, Stop, Running, Exit, Access, Stack, Illegal, BadCall, Effect, Sets, Jumps, Branches, Loads, Stores, Continues, Calls, Breaks, effect, x, stopped, accessed, sets, got, called, applied, executed, decoded, stepped, step}
use Rattle.rv_isa.proofs.Bytes.{write_outside}
use Rattle.rv_isa.proofs.Completeness.{complete}

pub accessed_goes : (s : Segments) (m : Machine) (p : Permission) (a n : ℕ) (next : Machine) → touches_guard a n ≡ false → is_permitted s p a n ≡ true → a % n ≡ 0 → accessed s m p a n next ≡ next
accessed_goes s m p a n next free permitted aligned = grind (arith, nat_tests)

pub executes : (s : Segments) (m : Machine) (i : Rv) → m.stop ≡ Running → InRange i → read m.memory 4 m.pc ≡ word_of i → in_text s m.pc 4 ≡ true → m.pc % 4 ≡ 0 → m.pc + 4 ≤ guard_start → step s m ≡ executed s m i
unfolding step
executes s m i running range has inside aligned low =
    let free : touches_guard m.pc 4 ≡ false = grind (arith, nat_tests) in
    let d : decode_of (read m.memory 4 m.pc) ≡ Some i = complete i (read m.memory 4 m.pc) range (sym has) in
    ap (stepped s m) running ∙ accessed_goes s m Executable m.pc 4 _ free inside aligned ∙ ap (decoded s m (read m.memory 4 m.pc)) d

-- ---- the text

-- the text lies below the data
module _ (s : Segments) (low : text_start + length s.text ≤ data_start) (q : ℕ) (inside : in_text s q 1 ≡ true) where
  abbrev Stays : Machine → Machine → Type 0
  Stays m next = next.memory q ≡ m.memory q

  either : (m a b : Machine) (c : Bool) → Stays m a → Stays m b → Stays m (if c then a else b)
  either m a b true h k = h
  either m a b false h k = k

  access_stays : (m : Machine) (p : Permission) (a n : ℕ) (next : Machine) → (is_permitted s p a n ≡ true → Stays m next) → Stays m (accessed s m p a n next)
  access_stays m p a n next h =
      either m (stopped m (Stack a)) (if is_permitted s p a n && is_aligned a n then next else stopped m (Access a)) (touches_guard a n) refl
      (by_permission (is_permitted s p a n) (is_aligned a n) refl)
    where
      by_permission : (c d : Bool) → is_permitted s p a n ≡ c → Stays m (if c && d then next else stopped m (Access a))
      by_permission true true e = h e
      by_permission true false e = refl
      by_permission false d e = refl

  got_stays : (m : Machine) (bs : List ℕ) → Stays m (got m bs)
  got_stays m [] = refl
  got_stays m (b ∷ bs) = refl

  call_stays : (m : Machine) (number v : ℕ) → Stays m (called m number v)
  call_stays m number v =
      either m _ _ (nat_eq number 1) refl (either m _ _ (nat_eq number 2) (got_stays m m.input) (either m _ _ (nat_eq number 3) refl refl))

  apart : (a n : ℕ) → is_permitted s Writable a n ≡ true → (q < a) ⊎ (a + n ≤ q)
  apart a n e = grind (arith, nat_tests)

  effect_stays : (m : Machine) (e : Effect) → Stays m (applied s m e)
  effect_stays m (Sets rd v) = refl
  effect_stays m (Jumps rd target) = refl
  effect_stays m (Branches test target) = refl
  effect_stays m (Loads rd a n extended) = access_stays m Readable a n (sets m rd (extended (read m.memory n a))) (λ e. refl)
  effect_stays m (Stores a n v) = access_stays m Writable a n (record m { pc = m.pc + 4; memory = write m.memory n a v }) (λ e. write_outside m.memory n a v q (apart a n e))
  effect_stays m Continues = refl
  effect_stays m Calls = call_stays m (m.registers 17) (m.registers 10)
  effect_stays m Breaks = refl

  decoded_stays : (m : Machine) (w : ℕ) (o : Option Rv) → Stays m (decoded s m w o)
  decoded_stays m w None = refl
  decoded_stays m w (Some i) = effect_stays m (effect m.pc (x m.registers) i)

  stepped_stays : (m : Machine) (stop : Stop) → Stays m (stepped s m stop)
  stepped_stays m Running =
      let w = read m.memory 4 m.pc in
      access_stays m Executable m.pc 4 (decoded s m w (decode_of w)) (λ e. decoded_stays m w (decode_of w))
  stepped_stays m (Exit w) = refl
  stepped_stays m (Stack a) = refl
  stepped_stays m (Access a) = refl
  stepped_stays m (Illegal w) = refl
  stepped_stays m (BadCall n) = refl

  step_stays : (m : Machine) → Stays m (step s m)
  unfolding step
  step_stays m = stepped_stays m m.stop

  pub text_stays : (m : Machine) (n : ℕ) → (iterate (step s) n m).memory q ≡ m.memory q
  text_stays m zero = refl
  text_stays m (suc n) = text_stays (step s m) n ∙ step_stays m
