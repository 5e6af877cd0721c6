-- The status of each answer to a module.
use Rattle.std.proofs.Common.{◌≡◌, ◌≢◌, ℕ, List, [], ◌++◌, append_assoc, Contains, refl, sym, ap, ◌∙◌, subst, arith}
use Rattle.std.specs.Prelude.{codes, decimal}
use Rattle.oi_base.specs.declared.ids.Place.{Place}
use Rattle.ir_core.specs.FirstBroken.{IsFirstPlace}
use Rattle.optinline.specs.declared.status.TheConstants.{DONE, REFUSED, NOT_BUILT}
use Rattle.ir_core.specs.declared.module.Module.{Module}
use Rattle.optinline.specs.Words.{Words}
use Rattle.optinline.specs.Answer.{refusal, refused, not_yet, built}

pub refused_status : (p : Place) (cause : List ℕ) → (refused p cause).status ≡ REFUSED
unfolding refused
refused_status p cause = refl

after : (x a b c d : List ℕ) → (((x ++ a) ++ b) ++ c) ++ d ≡ x ++ (a ++ (b ++ (c ++ d)))
after x a b c d = append_assoc ((x ++ a) ++ b) c d ∙ append_assoc (x ++ a) b (c ++ d) ∙ append_assoc x a (b ++ (c ++ d))

pub not_yet_is : (p : Place) → refusal NOT_BUILT (codes "not built " ++ (decimal p.line ++ (codes ":" ++ (decimal p.column ++ codes "\n")))) ≡ not_yet p
unfolding not_yet
not_yet_is p = ap (refusal NOT_BUILT) (sym (after (codes "not built ") (decimal p.line) (codes ":") (decimal p.column) (codes "\n")))

pub not_yet_status : (p : Place) → (not_yet p).status ≡ NOT_BUILT
unfolding not_yet
not_yet_status p = refl

pub built_status : (w : Words) (m : Module) → (built w m).status ≡ DONE
unfolding built
built_status w m = refl

-- a list with a first place has some
pub first_of_some : (ps : List Place) (p : Place) → IsFirstPlace (λ q. Contains ps q) p → ps ≢ []
first_of_some ps p first e = let lt = (subst (λ (qs : List Place). Contains qs p) e first.broken).1 in omega (arith, lt)
