-- The answer to a command, from the file that was read for it.
use Rattle.std.proofs.Common.{◌≡◌, ℕ, ◌+◌, ◌<◌, ◌≤◌, Bool, true, false, List, length, take, Option, Some, None, refl, sym, subst, inl, inr, ◌≢◌, arith}
use Rattle.std.specs.Prelude.{nat_lt, IfSome, MatchBool, codes, ◌++◌}
use Rattle.std.specs.Option.{option_map}
use Rattle.std.proofs.lemmas.Bool.Decides.{nat_tests}
use Rattle.std.proofs.lemmas.List.{length-take, take_all}
use Rattle.std.specs.FinMap as finite
use Rattle.oi_world.specs.Desk.{Files, read_of}
use Rattle.optinline.specs.declared.status.TheConstants.{NO_COMMAND, DESK_FAILED, TOO_LONG, NO_MEMORY}
use Rattle.optinline.specs.Words.{Words, command_of}
use Rattle.optinline.specs.Answer.{Answer, refusal, module_limit, IsModuleAnswer, IsFileAnswer, IsCommandAnswer, IsAnswer, IsBuildStatus, IsStatus}

-- one byte past the limit is enough to tell the answer
cut : (words : Words) (file : Option (List ℕ)) (a : Answer) → IsFileAnswer words (option_map (take (module_limit + 1)) file) a → IsFileAnswer words file a
cut words None a h = h
cut words (Some bytes) a h = by_length (nat_lt module_limit (length bytes)) refl
  where
    by_length : (b : Bool) → nat_lt module_limit (length bytes) ≡ b → IsFileAnswer words (Some bytes) a
    by_length true e =
        let long : module_limit < length bytes = grind (arith, nat_tests) in
        let still : nat_lt module_limit (length (take (module_limit + 1) bytes)) ≡ true = grind (arith, nat_tests, length-take (module_limit + 1) bytes) in
        let P : Bool → Type 0 = λ t. MatchBool t (a ≡ refusal TOO_LONG (codes "too long " ++ words.«module» ++ codes "\n")) (IsModuleAnswer words (take (module_limit + 1) bytes) a) in
        let Q : Bool → Type 0 = λ t. MatchBool t (a ≡ refusal TOO_LONG (codes "too long " ++ words.«module» ++ codes "\n")) (IsModuleAnswer words bytes a) in
        subst Q (sym e) (subst P still h)
    by_length false e =
        let short : length bytes ≤ module_limit = grind (arith, nat_tests) in
        let whole : take (module_limit + 1) bytes ≡ bytes = take_all (module_limit + 1) bytes (omega arith) in
        let P : List ℕ → Type 0 = λ x. IsFileAnswer words (Some x) a in
        subst P whole h

-- the answer to a command whose file was read
pub told : (fs : Option Files) (words : List (List ℕ)) (command : Words) (file : Option (List ℕ)) (a : Answer) → Some command ≡ command_of words → IfSome fs (λ files. file ≡ read_of files command.«module» module_limit) → IsFileAnswer command file a → IfSome fs (λ files. IsAnswer words files a)
told None words command file a is_command is_read h = tt
told (Some files) words command file a is_command is_read h =
    let P : Option Words → Type 0 = λ c. IsCommandAnswer c files a in
    let Q : Option (List ℕ) → Type 0 = λ f. IsFileAnswer command f a in
    subst P is_command (cut command (finite.get files command.«module») a (subst Q is_read h))

-- the answer to words that are no command
pub untold : (fs : Option Files) (words : List (List ℕ)) (a : Answer) → None ≡ command_of words → a ≡ refusal NO_COMMAND (codes "words\n") → IfSome fs (λ files. IsAnswer words files a)
untold None words a e h = tt
untold (Some files) words a e h = let P : Option Words → Type 0 = λ c. IsCommandAnswer c files a in subst P e h

-- the status of an answer to a build is not that of words that are no command
pub not_two : (n : ℕ) → IsBuildStatus n → n ≡ NO_COMMAND → ⊥
not_two n (inl a) e = omega arith
not_two n (inr (inl a)) e = omega arith
not_two n (inr (inr (inl a))) e = omega arith
not_two n (inr (inr (inr (inl a)))) e = omega arith
not_two n (inr (inr (inr (inr a)))) e = omega arith

-- and not that of a run that ended early
pub no_end : (n : ℕ) → IsStatus n → (n ≢ DESK_FAILED) × (n ≢ NO_MEMORY)
no_end n (inl a) = (λ e. omega arith, λ e. omega arith)
no_end n (inr (inl a)) = (λ e. omega arith, λ e. omega arith)
no_end n (inr (inr (inl a))) = (λ e. omega arith, λ e. omega arith)
no_end n (inr (inr (inr (inl a)))) = (λ e. omega arith, λ e. omega arith)
no_end n (inr (inr (inr (inr (inl a))))) = (λ e. omega arith, λ e. omega arith)
no_end n (inr (inr (inr (inr (inr a))))) = (λ e. omega arith, λ e. omega arith)
