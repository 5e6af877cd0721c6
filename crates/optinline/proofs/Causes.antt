-- Each status has its cause.
use Rattle.std.proofs.Common.{◌≡◌, ◌≢◌, [], ℕ, ◌<◌, ◌≤◌, Bool, true, false, List, length, Option, Some, None, refl, sym, ap, subst, ◌∙◌, arith}
use Rattle.std.specs.Prelude.{nat_lt, IfSome, MatchBool, codes, ◌++◌}
use Rattle.std.proofs.lemmas.Bool.Decides.{nat_tests}
use Rattle.std.specs.FinMap as finite
use Rattle.oi_world.specs.Desk.{Files}
use Rattle.ir_core.specs.declared.module.Module.{Module}
use Rattle.ir_core.specs.Valid.{IsValid}
use Rattle.ir_reader.specs.Refusals.{ReadsWithin}
use Rattle.optinline.specs.declared.status.TheConstants.{DONE, NO_COMMAND, REFUSED, TOO_LONG, NOT_BUILT, ABSENT}
use Rattle.optinline.specs.Words.{Words, command_of}
use Rattle.optinline.specs.Unbuilt.{unbuilt}
use Rattle.optinline.specs.Answer.{Answer, fault_place, fault_word, refusal, module_limit, IsValidAnswer, not_built, accepted, IsReadAnswer, broken, valid, IsModuleAnswer, unread, read, IsFileAnswer, IsCommandAnswer, IsAnswer, IsBuildOf, Iff, HasCauses}
use Rattle.optinline.proofs.Answered.{refused_status, not_yet_status, built_status, first_of_some}
use Rattle.ir_verifier.proofs.OneVerdict.{broken_not_valid}
use Rattle.optinline.proofs.Refusals.{refusal_none, one_within}

yes : {p q : Type 0} → p → q → Iff p q
yes x y = (λ _. y, λ _. x)

not_so : {p q : Type 0} → (p → ⊥) → (q → ⊥) → Iff p q
not_so f g = (λ x. absurd (f x), λ y. absurd (g y))

module _ (words : List (List ℕ)) (files : Files) (a : Answer) where
  on_no_command : command_of words ≡ None → a.status ≡ NO_COMMAND → HasCauses words files a.status
  on_no_command e s = record {
    no_command = yes s e;
    absent = not_so (λ t. omega (arith, s, t)) (λ x. let k = x.command in cc);
    too_long = not_so (λ t. omega (arith, s, t)) (λ x. let k = x.command in cc);
    refused = not_so (λ t. omega (arith, s, t)) (λ x. let k = x.command in cc);
    not_built = not_so (λ t. omega (arith, s, t)) (λ x. let k = x.1.command in cc);
    accepted = not_so (λ t. omega (arith, s, t)) (λ x. let k = x.1.command in cc);
  }

  -- two commands of the same words have the same file
  same_file : (w v : Words) (f g : Option (List ℕ)) → command_of words ≡ Some w → command_of words ≡ Some v → finite.get files w.«module» ≡ f → finite.get files v.«module» ≡ g → f ≡ g
  same_file w v f g e h p q = let same : w ≡ v = cc in sym p ∙ ap (λ (x : Words). finite.get files x.«module») same ∙ q

  on_absent : (w : Words) → command_of words ≡ Some w → finite.get files w.«module» ≡ None → a.status ≡ ABSENT → HasCauses words files a.status
  on_absent w e f s = record {
    no_command = not_so (λ t. omega (arith, s, t)) (λ x. cc);
    absent = yes s (record { build = w; command = e; file = f });
    too_long = not_so (λ t. omega (arith, s, t)) (λ x. let k = same_file w x.build _ _ e x.command f x.file in cc);
    refused = not_so (λ t. omega (arith, s, t)) (λ x. let k = same_file w x.build _ _ e x.command f x.file in cc);
    not_built = not_so (λ t. omega (arith, s, t)) (λ x. let k = same_file w x.1.build _ _ e x.1.command f x.1.file in cc);
    accepted = not_so (λ t. omega (arith, s, t)) (λ x. let k = same_file w x.1.build _ _ e x.1.command f x.1.file in cc);
  }

  -- the same bytes
  same_bytes : (w v : Words) (xs ys : List ℕ) → command_of words ≡ Some w → command_of words ≡ Some v → finite.get files w.«module» ≡ Some xs → finite.get files v.«module» ≡ Some ys → xs ≡ ys
  same_bytes w v xs ys e h p q = let k = same_file w v (Some xs) (Some ys) e h p q in cc

  same_length : (w v : Words) (xs ys : List ℕ) → command_of words ≡ Some w → command_of words ≡ Some v → finite.get files w.«module» ≡ Some xs → finite.get files v.«module» ≡ Some ys → length xs ≡ length ys
  same_length w v xs ys e h p q = ap (λ (x : List ℕ). length x) (same_bytes w v xs ys e h p q)

  on_long : (w : Words) (bytes : List ℕ) → command_of words ≡ Some w → finite.get files w.«module» ≡ Some bytes → module_limit < length bytes → a.status ≡ TOO_LONG → HasCauses words files a.status
  on_long w bytes e f long s = record {
    no_command = not_so (λ t. omega (arith, s, t)) (λ x. cc);
    absent = not_so (λ t. omega (arith, s, t)) (λ x. let k = same_file w x.build _ _ e x.command f x.file in cc);
    too_long = yes s (record { build = w; bytes = bytes; command = e; file = f; long = long });
    refused = not_so (λ t. omega (arith, s, t)) (λ x. let k = same_length w x.build _ _ e x.command f x.file in let short = x.short in omega arith);
    not_built = not_so (λ t. omega (arith, s, t)) (λ x. let k = same_length w x.1.build _ _ e x.1.command f x.1.file in let short = x.1.short in omega arith);
    accepted = not_so (λ t. omega (arith, s, t)) (λ x. let k = same_length w x.1.build _ _ e x.1.command f x.1.file in let short = x.1.short in omega arith);
  }

  -- the module of a build of the same words
  same_module : (w : Words) (bytes : List ℕ) (m n : Module) → command_of words ≡ Some w → finite.get files w.«module» ≡ Some bytes → ReadsWithin bytes m → IsBuildOf words files n → n ≡ m
  same_module w bytes m n e f h x = one_within bytes n m (subst (λ (y : List ℕ). ReadsWithin y n) (sym (same_bytes w x.build _ _ e x.command f x.file)) x.read) h

  on_refused : (w : Words) (bytes : List ℕ) → command_of words ≡ Some w → finite.get files w.«module» ≡ Some bytes → length bytes ≤ module_limit → ((m : Module) → ReadsWithin bytes m → IsValid m → ⊥) → a.status ≡ REFUSED → HasCauses words files a.status
  on_refused w bytes e f short none s = record {
    no_command = not_so (λ t. omega (arith, s, t)) (λ x. cc);
    absent = not_so (λ t. omega (arith, s, t)) (λ x. let k = same_file w x.build _ _ e x.command f x.file in cc);
    too_long = not_so (λ t. omega (arith, s, t)) (λ x. let k = same_length w x.build _ _ e x.command f x.file in let long = x.long in omega arith);
    refused = yes s (record { build = w; bytes = bytes; command = e; file = f; short = short; none = none });
    not_built = not_so (λ t. omega (arith, s, t)) (λ x. no_build x.0 x.1);
    accepted = not_so (λ t. omega (arith, s, t)) (λ x. no_build x.0 x.1);
  }
    where
      no_build : (m : Module) → IsBuildOf words files m → ⊥
      no_build m x = none m (subst (λ (y : List ℕ). ReadsWithin y m) (sym (same_bytes w x.build _ _ e x.command f x.file)) x.read) x.valid

  module _ (w : Words) (bytes : List ℕ) (m : Module) (e : command_of words ≡ Some w) (f : finite.get files w.«module» ≡ Some bytes) (short : length bytes ≤ module_limit) (h : ReadsWithin bytes m) where
    abbrev build_of : IsValid m → IsBuildOf words files m
    build_of v = record { build = w; bytes = bytes; command = e; file = f; short = short; read = h; valid = v }

    on_not_built : IsValid m → unbuilt m ≢ [] → a.status ≡ NOT_BUILT → HasCauses words files a.status
    on_not_built v some s = record {
      no_command = not_so (λ t. omega (arith, s, t)) (λ x. cc);
      absent = not_so (λ t. omega (arith, s, t)) (λ x. let k = same_file w x.build _ _ e x.command f x.file in cc);
      too_long = not_so (λ t. omega (arith, s, t)) (λ x. let k = same_length w x.build _ _ e x.command f x.file in let long = x.long in omega arith);
      refused = not_so (λ t. omega (arith, s, t)) (λ x. x.none m (subst (λ (y : List ℕ). ReadsWithin y m) (same_bytes w x.build _ _ e x.command f x.file) h) v);
      not_built = yes s (m, build_of v, some);
      accepted = not_so (λ t. omega (arith, s, t)) (λ x. some (sym (ap unbuilt (same_module w bytes m x.0 e f h x.1)) ∙ x.2));
    }

    on_accepted : IsValid m → unbuilt m ≡ [] → a.status ≡ DONE → HasCauses words files a.status
    on_accepted v all s = record {
      no_command = not_so (λ t. omega (arith, s, t)) (λ x. cc);
      absent = not_so (λ t. omega (arith, s, t)) (λ x. let k = same_file w x.build _ _ e x.command f x.file in cc);
      too_long = not_so (λ t. omega (arith, s, t)) (λ x. let k = same_length w x.build _ _ e x.command f x.file in let long = x.long in omega arith);
      refused = not_so (λ t. omega (arith, s, t)) (λ x. x.none m (subst (λ (y : List ℕ). ReadsWithin y m) (same_bytes w x.build _ _ e x.command f x.file) h) v);
      not_built = not_so (λ t. omega (arith, s, t)) (λ x. x.2 (ap unbuilt (same_module w bytes m x.0 e f h x.1) ∙ all));
      accepted = yes s (m, build_of v, all);
    }

    on_valid : IsValid m → IsValidAnswer w m a → HasCauses words files a.status
    on_valid v (not_built p first same) = on_not_built v (first_of_some (unbuilt m) p first) (ap (λ (x : Answer). x.status) same ∙ not_yet_status p)
    on_valid v (accepted all same) = on_accepted v all (ap (λ (x : Answer). x.status) same ∙ built_status w m)

    on_read : IsReadAnswer w m a → HasCauses words files a.status
    on_read (broken rule p first same) = on_refused w bytes e f short (λ n k v. broken_not_valid m rule p first (subst IsValid (one_within bytes n m k h) v)) (ap (λ (x : Answer). x.status) same ∙ refused_status p _)
    on_read (valid v answer) = on_valid v answer

  on_module : (w : Words) (bytes : List ℕ) → command_of words ≡ Some w → finite.get files w.«module» ≡ Some bytes → length bytes ≤ module_limit → IsModuleAnswer w bytes a → HasCauses words files a.status
  on_module w bytes e f short (unread fault other h same) = on_refused w bytes e f short (λ m k v. refusal_none bytes fault other h m k) (ap (λ (x : Answer). x.status) same ∙ refused_status (fault_place fault) (fault_word fault))
  on_module w bytes e f short (read m h answer) = on_read w bytes m e f short h answer

  on_length : (w : Words) (bytes : List ℕ) (t : Bool) → command_of words ≡ Some w → finite.get files w.«module» ≡ Some bytes → nat_lt module_limit (length bytes) ≡ t
      → MatchBool t (a ≡ refusal TOO_LONG (codes "too long " ++ w.«module» ++ codes "\n")) (IsModuleAnswer w bytes a) → HasCauses words files a.status
  on_length w bytes true e f l h = on_long w bytes e f (grind (arith, nat_tests)) (ap (λ (x : Answer). x.status) h)
  on_length w bytes false e f l h = on_module w bytes e f (grind (arith, nat_tests)) h

  on_file : (w : Words) (file : Option (List ℕ)) → command_of words ≡ Some w → finite.get files w.«module» ≡ file → IsFileAnswer w file a → HasCauses words files a.status
  on_file w None e f h = on_absent w e f (ap (λ (x : Answer). x.status) h)
  on_file w (Some bytes) e f h = on_length w bytes (nat_lt module_limit (length bytes)) e f refl h

  on_command : (c : Option Words) → command_of words ≡ c → IsCommandAnswer c files a → HasCauses words files a.status
  on_command None e h = on_no_command e (ap (λ (x : Answer). x.status) h)
  on_command (Some w) e h = on_file w (finite.get files w.«module») e refl h

  pub causes : IsAnswer words files a → HasCauses words files a.status
  causes h = on_command (command_of words) refl h

-- the same where the desk may not tell its files
pub causes_told : (fs : Option Files) (words : List (List ℕ)) (a : Answer) → IfSome fs (λ files. IsAnswer words files a) → IfSome fs (λ files. HasCauses words files a.status)
causes_told None words a h = tt
causes_told (Some files) words a h = causes words files a h
