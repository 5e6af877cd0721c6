-- A memory that points within itself is its own twin.
use Rattle.std.proofs.Common.{◌≡◌, inl, inr, ℕ, zero, suc, ◌<◌, List, [], ◌∷◌, length, Some, slice_get, refl, sym, ap, ◌∙◌, arith}
use Rattle.ir_core.specs.Memory.{Byte, Unset, PoisonByte, Octet, PartOf, Memory, IsPartWithin, PointsWithin}
use Rattle.ir_simulation.proofs.Below.{ByteBelow, BytesBelow}
use Rattle.ir_simulation.proofs.Twins.{Twins, Paired, diagonal, on_diagonal}

-- a pair on the diagonal is of two equal numbers below n
on_it : (n i c : ℕ) → Paired (diagonal n) i c → (i ≡ c) × (i < n)
on_it zero i c h = absurd h
on_it (suc n) i c (inl h) = let e = h.0 in (h.0 ∙ sym h.1, omega (arith, e))
on_it (suc n) i c (inr h) = let r = on_it n i c h in let lt = r.1 in (r.0, omega (arith, lt))

module _ (n : ℕ) where
  byte_itself : (x : Byte) → IsPartWithin n x → ByteBelow (Paired (diagonal n)) x x
  byte_itself Unset h = tt
  byte_itself PoisonByte h = tt
  byte_itself (Octet a) h = refl
  byte_itself (PartOf b o k) h = (b, on_diagonal n b h.0, refl)

  bytes_themselves : (xs : List Byte) → ((k : ℕ) (c : Byte) → slice_get xs k ≡ Some c → IsPartWithin n c) → BytesBelow (Paired (diagonal n)) xs xs
  bytes_themselves [] h = tt
  bytes_themselves (x ∷ xs) h = (byte_itself x (h 0 x refl), bytes_themselves xs (λ k c e. h (suc k) c e))

pub global_twins : (m : Memory) → PointsWithin m → Twins (Paired (diagonal (length m))) m m
global_twins m h = record {
  below = record {
    one_twin = λ i c d s t. sym (on_it (length m) i c s).0 ∙ (on_it (length m) i d t).0;
    one_source = λ i j c s t. (on_it (length m) i c s).0 ∙ sym (on_it (length m) j c t).0;
    twin = λ i c b t e live. (
      b,
      ap (slice_get m) (sym (on_it (length m) i c t).0) ∙ e,
      record { live = live; align = refl; constant = refl; long = refl; bytes = bytes_themselves (length m) b.bytes (λ k x at. h i b e k x at) },
    );
  };
  bounds = λ i c t.
      let r = on_it (length m) i c t in
      let same = r.0 in
      let lt = r.1 in
      (r.1, omega (arith, same, lt));
}
