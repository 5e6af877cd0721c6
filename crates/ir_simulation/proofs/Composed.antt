-- Passes one after another, one of them many times, and a pass over all bodies of a program.
use Rattle.std.proofs.Common.{◌≡◌, ◌≢◌, ◌⊎◌, inl, inr, ℕ, zero, suc, ◌≤◌, Bool, true, false, nat_eq, nat_lt, if◌then◌else◌, List, [], Option, Some, None, refl, sym, ap, ◌∙◌, subst, append-nil, le_of_eq, arith}
use Rattle.std.specs.Fn.{iterate}
use Rattle.std.specs.Option.{option_map}
use Rattle.std.proofs.lemmas.Bool.Decides.{nat_tests}
use Rattle.oi_base.specs.Follows.{Status, Going, Ended, Undefined, Stuck, IsLasting, Agrees, Breaks, Follows}
use Rattle.oi_base.proofs.Chain.{follows_trans}
use Rattle.ir_core.specs.declared.flat.Scalar.{Scalar}
use Rattle.ir_core.specs.declared.flat.FlatBody.{FlatBody}
use Rattle.ir_core.specs.Flat.{Program, flat_run}
use Rattle.ir_core.specs.Formed.{FuncType, IsFormed}
use Rattle.ir_safety.proofs.FormedSafe.{formed_safe}
use Rattle.ir_safety.proofs.NeverStuck.{never_stuck}
use Rattle.ir_simulation.specs.KeepsMeaning.{FollowsOnBytes, KeepsMeaning}
use Rattle.ir_simulation.specs.Replaced.{with_body, with_all}

-- ---- one pass after another

pub twice : (p : Program) (f : ℕ) (x y : FlatBody) → with_body (with_body p f x) f y ≡ with_body p f y
twice p f x y = λ i. record p { body = λ g. same (p.body g) (nat_eq g f) i }
  where
    same : (o : Option FlatBody) (t : Bool) → (if t then Some y else (if t then Some x else o)) ≡ (if t then Some y else o)
    same o true = refl
    same o false = refl

pub there : (p : Program) (f : ℕ) (x : FlatBody) → (with_body p f x).body f ≡ Some x
there p f x = let e : nat_eq f f ≡ true = grind (arith, nat_tests) in ap (λ (t : Bool). if t then Some x else p.body f) e

pub keeps_then : (a b : FlatBody → FlatBody) → KeepsMeaning a → KeepsMeaning b → KeepsMeaning (λ x. b (a x))
keeps_then a b ka kb p types funcs h f old is_old =
    let one = ka p types funcs h f old is_old in
    let two = kb (with_body p f (a old)) types funcs one.0 f (a old) (there p f (a old)) in
    let same = twice p f (a old) (b (a old)) in (
      subst (λ (q : Program). IsFormed q types funcs) same two.0,
      λ input small. follows_trans (flat_run p input) (flat_run (with_body p f (a old)) input) (flat_run (with_body p f (b (a old))) input) (one.1 input small) (subst (λ (q : Program). Follows (flat_run (with_body p f (a old)) input) (flat_run q input)) same (two.1 input small)),
    )

pub keeps_repeated : (a : FlatBody → FlatBody) → KeepsMeaning a → (n : ℕ) → KeepsMeaning (iterate a (suc n))
keeps_repeated a k zero = k
keeps_repeated a k (suc n) = keeps_then a (iterate a (suc n)) k (keeps_repeated a k n)

-- ---- all bodies

-- a run that is never stuck follows itself
pub follows_itself : (p : Program) (input : List ℕ) → ((n : ℕ) → (flat_run p input n).status ≢ Stuck) → Follows (flat_run p input) (flat_run p input)
follows_itself p input never = record {
  to_source = λ n. (n, by_status n (flat_run p input n).status refl);
  to_follower = λ m lasting. (m, record { same_output = refl; same_status = refl; lasting = lasting });
}
  where
    going : (n : ℕ) → IsLasting (flat_run p input n).status → Breaks (flat_run p input n) (flat_run p input n) ⊎ (Agrees (flat_run p input n) (flat_run p input n) × ((flat_run p input n).depth ≤ (flat_run p input n).depth))
    going n lasting = inr (record { same_output = refl; same_status = refl; lasting = lasting }, le_of_eq refl)

    by_status : (n : ℕ) (t : Status) → (flat_run p input n).status ≡ t → Breaks (flat_run p input n) (flat_run p input n) ⊎ (Agrees (flat_run p input n) (flat_run p input n) × ((flat_run p input n).depth ≤ (flat_run p input n).depth))
    by_status n Going e = going n (subst IsLasting (sym e) tt)
    by_status n (Ended w) e = going n (subst IsLasting (sym e) tt)
    by_status n Undefined e = inl (record { undefined = e; kept = ([], append-nil (flat_run p input n).output) })
    by_status n Stuck e = absurd (never n e)

-- the program with the passed bodies of the first n functions
abbrev with_first : Program → (FlatBody → FlatBody) → ℕ → Program
with_first p pass n = record p { body = λ g. if nat_lt g n then option_map pass (p.body g) else p.body g }

module _ (pass : FlatBody → FlatBody) (keeps : KeepsMeaning pass) (p : Program) (types : ℕ → ℕ → Scalar) (funcs : ℕ → FuncType) (h : IsFormed p types funcs) where
  abbrev IsKept : Program → Type 0
  IsKept q = IsFormed q types funcs × FollowsOnBytes p q

  one_more : (n : ℕ) (new : FlatBody) → option_map pass (p.body n) ≡ Some new → with_body (with_first p pass n) n new ≡ with_first p pass (suc n)
  one_more n new e = λ i. record p { body = λ g. at g (nat_eq g n) (nat_lt g n) (nat_lt g (suc n)) refl refl refl i }
    where
      at : (g : ℕ) (s t u : Bool) → nat_eq g n ≡ s → nat_lt g n ≡ t → nat_lt g (suc n) ≡ u → (if s then Some new else (if t then option_map pass (p.body g) else p.body g)) ≡ (if u then option_map pass (p.body g) else p.body g)
      at g true t true is before after = let same : n ≡ g = grind (arith, nat_tests) in sym e ∙ ap (λ k. option_map pass (p.body k)) same
      at g true t false is before after = absurd (grind (arith, nat_tests))
      at g false true true is before after = refl
      at g false true false is before after = absurd (grind (arith, nat_tests))
      at g false false true is before after = absurd (grind (arith, nat_tests))
      at g false false false is before after = refl

  none_more : (n : ℕ) → p.body n ≡ None → with_first p pass n ≡ with_first p pass (suc n)
  none_more n e = λ i. record p { body = λ g. at g (nat_eq g n) (nat_lt g n) (nat_lt g (suc n)) refl refl refl i }
    where
      at : (g : ℕ) (s t u : Bool) → nat_eq g n ≡ s → nat_lt g n ≡ t → nat_lt g (suc n) ≡ u → (if t then option_map pass (p.body g) else p.body g) ≡ (if u then option_map pass (p.body g) else p.body g)
      at g s true true is before after = refl
      at g s true false is before after = absurd (grind (arith, nat_tests))
      at g s false false is before after = refl
      at g true false true is before after = let same : n ≡ g = grind (arith, nat_tests) in let none : p.body g ≡ None = sym (ap p.body same) ∙ e in none ∙ sym (ap (option_map pass) none)
      at g false false true is before after = absurd (grind (arith, nat_tests))

  -- the next function's body is as it was
  next_body : (n : ℕ) → (with_first p pass n).body n ≡ p.body n
  next_body n = let e : nat_lt n n ≡ false = grind (arith, nat_tests) in ap (λ (t : Bool). if t then option_map pass (p.body n) else p.body n) e

  step : (n : ℕ) (o : Option FlatBody) → p.body n ≡ o → IsKept (with_first p pass n) → IsKept (with_first p pass (suc n))
  step n None e k = subst IsKept (none_more n e) k
  step n (Some old) e k =
      let more = keeps (with_first p pass n) types funcs k.0 n old (next_body n ∙ e) in
      let same = one_more n (pass old) (ap (option_map pass) e) in
      subst IsKept same (
        more.0,
        λ input small. follows_trans (flat_run p input) (flat_run (with_first p pass n) input) (flat_run (with_body (with_first p pass n) n (pass old)) input) (k.1 input small) (more.1 input small),
      )

  unpassed : with_first p pass 0 ≡ p
  unpassed = λ i. record p { body = λ g. at g (nat_lt g 0) refl i }
    where
      at : (g : ℕ) (t : Bool) → nat_lt g 0 ≡ t → (if t then option_map pass (p.body g) else p.body g) ≡ p.body g
      at g true e = absurd (grind (arith, nat_tests))
      at g false e = refl

  firsts_kept : (n : ℕ) → IsKept (with_first p pass n)
  firsts_kept zero = subst IsKept (sym unpassed) (h, λ input small. follows_itself p input (never_stuck p types funcs (formed_safe p types funcs h) input small))
  firsts_kept (suc n) = step n (p.body n) refl (firsts_kept n)

  all_are_first : (n : ℕ) → ((g : ℕ) → n ≤ g → p.body g ≡ None) → with_first p pass n ≡ with_all p pass
  all_are_first n few = λ i. record p { body = λ g. at g (nat_lt g n) refl i }
    where
      at : (g : ℕ) (t : Bool) → nat_lt g n ≡ t → (if t then option_map pass (p.body g) else p.body g) ≡ option_map pass (p.body g)
      at g true e = refl
      at g false e = let le : n ≤ g = grind (arith, nat_tests) in few g le ∙ sym (ap (option_map pass) (few g le))

  pub all_kept : (n : ℕ) → ((g : ℕ) → n ≤ g → p.body g ≡ None) → IsKept (with_all p pass)
  all_kept n few = subst IsKept (all_are_first n few) (firsts_kept n)
