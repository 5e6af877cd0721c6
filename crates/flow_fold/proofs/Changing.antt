-- Decided terminators by the blocks to which they go.
use Rattle.std.proofs.Common.{◌≡◌, ℕ, Bool, true, false, nat_eq, if◌then◌else◌, List, [], ◌∷◌, Option, Some, None, refl, sym, ap, ◌∙◌}
use Rattle.oi_base.specs.declared.ids.BlockId.{BlockId}
use Rattle.oi_base.specs.declared.words.Width.{Width}
use Rattle.ir_core.specs.declared.flat.FlatOp.{FlatOp}
use Rattle.ir_core.specs.declared.flat.Case.{Case}
use Rattle.ir_core.specs.declared.flat.FlatEnd.{FlatEnd}
use Rattle.ir_core.specs.declared.flat.FlatEnd.TheVariants.{Ret, Br, Cond, Switch, Unreachable}
use Rattle.const_fold.specs.Operands.{word_of_op}
use Rattle.flow_fold.specs.FoldBranches.{decided, cond_decided, switch_decided}
use Rattle.flow_fold.specs.Changes.{change, cond_change, switch_change, with_change}

cond_so : (o : Option ℕ) (c : FlatOp) (t f : BlockId) → cond_decided o c t f ≡ with_change (Cond c t f) (cond_change o t f)
cond_so (Some z) c t f = refl
cond_so None c t f = by_test (nat_eq t.0 f.0)
  where
    by_test : (b : Bool) → (if b then Br t else Cond c t f) ≡ with_change (Cond c t f) (if b then Some t else None)
    by_test true = refl
    by_test false = refl

switch_so : (o : Option ℕ) (a : FlatOp) (w : Width) (cases : List Case) (other : BlockId) → switch_decided o a w cases other ≡ with_change (Switch a w cases other) (switch_change o cases other)
switch_so (Some z) a w cases other = refl
switch_so None a w [] other = refl
switch_so None a w (c ∷ cs) other = refl

pub decided_is : (e : FlatEnd) → decided e ≡ with_change e (change e)
decided_is (Ret a) = refl
decided_is (Br b) = refl
decided_is (Cond c t f) = cond_so (word_of_op c) c t f
decided_is (Switch a w cases other) = switch_so (word_of_op a) a w cases other
decided_is Unreachable = refl

pub decided_so : (e : FlatEnd) (o : Option BlockId) → o ≡ change e → with_change e o ≡ decided e
decided_so e o h = ap (with_change e) h ∙ sym (decided_is e)
