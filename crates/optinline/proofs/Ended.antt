-- What a run leaves where it ends.
use Rattle.std.proofs.Common.{◌≡◌, ℕ, List, Option, Some, None, Ok, Err, refl, inl, inr}
use Rattle.std.specs.Prelude.{IfSome, IsErrOf}
use Rattle.oi_world.specs.Desk.{Files}
use Rattle.oi_world.specs.declared.desk.DeskFault.{DeskFault}
use Rattle.oi_world.specs.declared.desk.DeskFault.TheVariants.{Failed, Absent, NoMemory}
use Rattle.optinline.specs.Answer.{Answer, IsAnswer, Runs, Leaves}

-- before its answer was known, it has left nothing
pub ended : {T : Type 0} (fs fs' : Option Files) (said said' : Option (List ℕ)) (words : List (List ℕ)) (e : DeskFault) → (IsErrOf {T = T} (Err e) Absent → ⊥) → fs' ≡ fs → said' ≡ said → IfSome fs (λ files. Runs words files fs fs' said said' (Err e))
ended None fs' said said' words e present same_files same_said = tt
ended (Some files) fs' said said' words Failed present same_files same_said = inl (same_files, same_said)
ended (Some files) fs' said said' words Absent present same_files same_said = present refl
ended (Some files) fs' said said' words NoMemory present same_files same_said = inl (same_files, same_said)

-- while its answer was carried out
pub cut_off : (fs fs' : Option Files) (said said' : Option (List ℕ)) (words : List (List ℕ)) (a : Answer) (e : DeskFault) → IfSome fs (λ files. IsAnswer words files a) → Leaves {T = Unit} a fs fs' said said' (Err e) → IfSome fs (λ files. Runs words files fs fs' said said' (Err e))
cut_off None fs' said said' words a e h l = tt
cut_off (Some files) fs' said said' words a Failed h l = inr (a, h, l)
cut_off (Some files) fs' said said' words a Absent h l = l
cut_off (Some files) fs' said said' words a NoMemory h l = inr (a, h, l)

-- with its whole answer
pub done : (fs fs' : Option Files) (said said' : Option (List ℕ)) (words : List (List ℕ)) (a : Answer) → IfSome fs (λ files. IsAnswer words files a) → Leaves {T = Unit} a fs fs' said said' (Ok tt) → IfSome fs (λ files. Runs words files fs fs' said said' (Ok a.status))
done None fs' said said' words a h l = tt
done (Some files) fs' said said' words a h l = (a, h, (refl, l.0, l.1))
