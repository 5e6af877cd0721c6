-- The parts of memory at their addresses.
use Rattle.std.proofs.Common.{◌≡◌, ◌⊎◌, inl, inr, ℕ, ◌+◌, ◌-◌, ◌<◌, ◌≤◌, sym, ap, ◌∙◌, arith, List, length, ⊎_elim}
use Rattle.std.proofs.lemmas.Bool.Decides.{nat_tests}
use Rattle.std.proofs.lemmas.Bool.{cases_lt}
use Rattle.std.proofs.Math.Path.{fun_ext}
use Rattle.rv_isa.specs.Memory.{read, write, text_start, data_start, stack_start, bytes_at_load, stack_size}
use Rattle.rv_isa.proofs.Bytes.{write_outside}
use Rattle.rv_machine.specs.Bytes.{held}
use Rattle.rv_machine.specs.Memory.{Contents, bytes_of, segments_of, IsMapped}
use Rattle.rv_machine.proofs.Numbers.{read_moved, write_moved}

-- ---- bytes

pub text_byte : (c : Contents) (k : ℕ) → k < length c.text → bytes_of c (text_start + k) ≡ held c.text k
unfolding bytes_of
text_byte c k h = grind (arith, nat_tests)

pub data_byte : (c : Contents) (k : ℕ) → IsMapped c → k < length c.data_bytes → bytes_of c (data_start + k) ≡ held c.data_bytes k
unfolding bytes_of
data_byte c k m h = let t = m.text_most in grind (arith, nat_tests)

pub stack_byte : (c : Contents) (k : ℕ) → IsMapped c → k < stack_size → bytes_of c (stack_start + k) ≡ held c.stack k
unfolding bytes_of
stack_byte c k m h = let t = m.text_most in let d = m.data_most in grind (arith, nat_tests)

other_data : (c : Contents) (new : List ℕ) (q : ℕ) → length new ≡ length c.data_bytes → (q < data_start) ⊎ (data_start + length c.data_bytes ≤ q) → bytes_of (record c { data_bytes = new }) q ≡ bytes_of c q
unfolding bytes_of
other_data c new q e h = grind (arith, nat_tests)

other_stack : (c : Contents) (new : List ℕ) (q : ℕ) → (q < stack_start) ⊎ (stack_start + stack_size ≤ q) → bytes_of (record c { stack = new }) q ≡ bytes_of c q
unfolding bytes_of
other_stack c new q h = grind (arith, nat_tests)

-- ---- reads

pub read_text : (c : Contents) (n at : ℕ) → at + n ≤ length c.text → read (bytes_of c) n (text_start + at) ≡ read (held c.text) n at
read_text c n at h = read_moved (bytes_of c) (held c.text) n (text_start + at) at (λ k lt. ap (bytes_of c) (omega arith) ∙ text_byte c (at + k) (omega arith))

pub read_data : (c : Contents) (n at : ℕ) → IsMapped c → at + n ≤ length c.data_bytes → read (bytes_of c) n (data_start + at) ≡ read (held c.data_bytes) n at
read_data c n at m h = read_moved (bytes_of c) (held c.data_bytes) n (data_start + at) at (λ k lt. ap (bytes_of c) (omega arith) ∙ data_byte c (at + k) m (omega arith))

pub read_stack : (c : Contents) (n at : ℕ) → IsMapped c → at + n ≤ length c.stack → read (bytes_of c) n (stack_start + at) ≡ read (held c.stack) n at
read_stack c n at m h = let z = m.stack_size in read_moved (bytes_of c) (held c.stack) n (stack_start + at) at (λ k lt. ap (bytes_of c) (omega arith) ∙ stack_byte c (at + k) m (omega arith))

-- ---- writes

-- an array in memory is written: so is memory at the array's place
written_part : (f f' g g' : ℕ → ℕ) (s len at n v : ℕ) → ((k : ℕ) → k < len → f (s + k) ≡ g k) → ((k : ℕ) → k < len → f' (s + k) ≡ g' k) → ((q : ℕ) → (q < s) ⊎ (s + len ≤ q) → f' q ≡ f q) → g' ≡ write g n at v → at + n ≤ len → f' ≡ write f n (s + at) v
written_part f f' g g' s len at n v old new others written fits =
    fun_ext (λ q. ⊎_elim (λ below. outside q (inl below)) (λ from. ⊎_elim (λ lt. inside q from lt) (λ above. outside q (inr above)) (cases_lt q (s + len))) (cases_lt q s))
  where
    outside : (q : ℕ) → (q < s) ⊎ (s + len ≤ q) → f' q ≡ write f n (s + at) v q
    outside q h = let far : (q < s + at) ⊎ (s + at + n ≤ q) = grind arith in others q h ∙ sym (write_outside f n (s + at) v q far)

    inside : (q : ℕ) → s ≤ q → q < s + len → f' q ≡ write f n (s + at) v q
    inside q from lt =
        let k = q - s in
        let e : s + (q - s) ≡ q = omega arith in
        let below : q - s < len = omega arith in
        ap f' (sym e) ∙ new k below ∙ ap (λ (h : ℕ → ℕ). h k) written ∙ sym (write_moved f g n s at v k (old k below)) ∙ ap (write f n (s + at) v) e

pub write_data : (c : Contents) (new : List ℕ) (n at v : ℕ) → IsMapped c → length new ≡ length c.data_bytes → held new ≡ write (held c.data_bytes) n at v → at + n ≤ length c.data_bytes → bytes_of (record c { data_bytes = new }) ≡ write (bytes_of c) n (data_start + at) v
write_data c new n at v m e written fits =
    let c' : Contents = record c { data_bytes = new } in
    let most = m.data_most in
    let m' : IsMapped c' = record { text_most = m.text_most; data_most = omega arith; stack_size = m.stack_size } in
    written_part (bytes_of c) (bytes_of c') (held c.data_bytes) (held new) data_start (length c.data_bytes) at n v (λ k lt. data_byte c k m lt) (λ k lt. data_byte c' k m' (omega arith)) (λ q h. other_data c new q e h) written fits

pub write_stack : (c : Contents) (new : List ℕ) (n at v : ℕ) → IsMapped c → length new ≡ length c.stack → held new ≡ write (held c.stack) n at v → at + n ≤ length c.stack → bytes_of (record c { stack = new }) ≡ write (bytes_of c) n (stack_start + at) v
write_stack c new n at v m e written fits =
    let c' : Contents = record c { stack = new } in
    let z = m.stack_size in
    let m' : IsMapped c' = record { text_most = m.text_most; data_most = m.data_most; stack_size = omega arith } in
    written_part (bytes_of c) (bytes_of c') (held c.stack) (held new) stack_start stack_size at n v (λ k lt. stack_byte c k m lt) (λ k lt. stack_byte c' k m' lt) (λ q h. other_stack c new q h) written (omega arith)

-- ---- at load

-- the stack is zero
pub bytes-at_load : (c : Contents) → ((q : ℕ) → held c.stack q ≡ 0) → bytes_of c ≡ bytes_at_load (segments_of c)
unfolding bytes_of
bytes-at_load c zeros = fun_ext (λ a. let z = zeros (a - stack_start) in grind (arith, nat_tests))
