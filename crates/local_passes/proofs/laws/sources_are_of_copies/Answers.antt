use Rattle.local_passes.proofs.CopyLaws.{copy_told, told_copy}
use Rattle.local_passes.proofs.laws.sources_are_of_copies.Goals as goal

pub returns : goal.returns
returns c code n x y ne = (copy_told code x y ne n, told_copy code x y ne n)
