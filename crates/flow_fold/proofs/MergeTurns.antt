-- What each merge keeps, all merges keep.
use Rattle.std.proofs.Common.{◌≡◌, ◌≢◌, ℕ, zero, suc, Bool, true, false, not, ◌&&◌, nat_eq, length, Option, Some, None, slice_get, refl, arith}
use Rattle.std.specs.Fn.{iterate}
use Rattle.std.proofs.lemmas.Bool.Decides.{nat_tests}
use Rattle.ir_core.specs.declared.flat.FlatBlock.{FlatBlock}
use Rattle.flow_fold.specs.MergeBlocks.{Merging, comes_only, plain_target, merged, merged_where, merged_to, merged_once_at, merged_once, merged_through}

module _ (Holds : Merging → Type 0)
    (merge_holds : (s : Merging) → Holds s → (n m : ℕ) (k l : FlatBlock) → slice_get s.blocks n ≡ Some k → slice_get s.blocks m ≡ Some l → plain_target k.end ≡ Some m → m ≢ 0 → m ≢ n → comes_only n m 0 s.blocks ≡ true → Holds (merged s n m k l)) where
  tested_holds : (s : Merging) → Holds s → (n m : ℕ) (k l : FlatBlock) → slice_get s.blocks n ≡ Some k → slice_get s.blocks m ≡ Some l → plain_target k.end ≡ Some m → (not (nat_eq m 0) && not (nat_eq m n) && comes_only n m 0 s.blocks) ≡ true → Holds (merged s n m k l)
  tested_holds s h n m k l at_n at_m plain test = by_tests (nat_eq m 0) (nat_eq m n) (comes_only n m 0 s.blocks) refl refl refl test
    where
      by_tests : (x y z : Bool) → nat_eq m 0 ≡ x → nat_eq m n ≡ y → comes_only n m 0 s.blocks ≡ z → (not x && not y && z) ≡ true → Holds (merged s n m k l)
      by_tests false false true ex ey ez t =
          let not_entry : m ≢ 0 = λ same. absurd (grind (arith, nat_tests)) in
          let apart : m ≢ n = λ same. absurd (grind (arith, nat_tests)) in
          merge_holds s h n m k l at_n at_m plain not_entry apart ez
      by_tests false false false ex ey ez t = absurd cc
      by_tests false true z ex ey ez t = absurd cc
      by_tests true y z ex ey ez t = absurd cc

  once_holds : (n : ℕ) (s : Merging) → Holds s → Holds (merged_once n s)
  once_holds n s h = by_block (slice_get s.blocks n) refl
    where
      by_target : (k : FlatBlock) → slice_get s.blocks n ≡ Some k → (o : Option ℕ) → plain_target k.end ≡ o → Holds (merged_to s n k o)
      by_target k at_n None plain = h
      by_target k at_n (Some m) plain = by_test (not (nat_eq m 0) && not (nat_eq m n) && comes_only n m 0 s.blocks) refl (slice_get s.blocks m) refl
        where
          by_test : (t : Bool) → (not (nat_eq m 0) && not (nat_eq m n) && comes_only n m 0 s.blocks) ≡ t → (o : Option FlatBlock) → slice_get s.blocks m ≡ o → Holds (merged_where s n m k t o)
          by_test false test o at_m = h
          by_test true test None at_m = h
          by_test true test (Some l) at_m = tested_holds s h n m k l at_n at_m plain test

      by_block : (o : Option FlatBlock) → slice_get s.blocks n ≡ o → Holds (merged_once_at s n o)
      by_block None at_n = h
      by_block (Some k) at_n = by_target k at_n (plain_target k.end) refl

  turns_hold : (n turns : ℕ) (s : Merging) → Holds s → Holds (iterate (merged_once n) turns s)
  turns_hold n zero s h = h
  turns_hold n (suc turns) s h = turns_hold n turns (merged_once n s) (once_holds n s h)

  pub blocks_hold : (n : ℕ) (s : Merging) → Holds s → Holds (merged_through n s)
  blocks_hold zero s h = h
  blocks_hold (suc n) s h = turns_hold n (length (merged_through n s).blocks) (merged_through n s) (blocks_hold n s h)
