-- The numbers of a function's registers and blocks, one instruction or one block more.
use Rattle.std.proofs.Common.{◌≡◌, ℕ, Bool, List, [], ◌∷◌, ◌++◌, ap, ap₂, ◌∙◌}
use Rattle.std.proofs.lemmas.List.{append_assoc}
use Rattle.oi_base.specs.declared.ids.FuncId.{FuncId}
use Rattle.ir_core.specs.declared.func.Instr.{Instr}
use Rattle.ir_core.specs.declared.func.Block.{Block}
use Rattle.ir_core.specs.declared.func.Func.{Func}
use Rattle.site_inliner.specs.Placed.{Point, past, written, if_result, is_site, next, code_end, code_regs, next_block, block_regs, firsts, lasts}

abbrev pub CodeDone : List Func → FuncId → Point → List Instr → List ℕ → Point → List ℕ → Type 0
CodeDone funcs f p is so_far end all = (code_end funcs f p is ≡ end) × (so_far ++ code_regs funcs f p is ≡ all)

pub code_more : (funcs : List Func) (f : FuncId) (p q r : Point) (b : Bool) (i : Instr) (is : List Instr) (old new all : List ℕ) (end : Point)
    → b ≡ is_site funcs f i → q ≡ past p b → r ≡ written q i.result → new ≡ old ++ if_result q.reg i.result → CodeDone funcs f p (i ∷ is) old end all → CodeDone funcs f r is new end all
code_more funcs f p q r b i is old new all end site here after made h =
    let s : q ≡ past p (is_site funcs f i) = here ∙ ap (λ (t : Bool). past p t) site in
    let n : r ≡ next funcs f p i = after ∙ ap (λ (x : Point). written x i.result) s in (
      ap (λ (x : Point). code_end funcs f x is) n ∙ h.0,
      ap₂ (λ (xs : List ℕ) (x : Point). xs ++ code_regs funcs f x is) made n
          ∙ append_assoc old (if_result q.reg i.result) (code_regs funcs f (next funcs f p i) is)
          ∙ ap (λ (x : Point). old ++ (if_result x.reg i.result ++ code_regs funcs f (next funcs f p i) is)) s
          ∙ h.1,
    )

abbrev pub BlocksDone : List Func → FuncId → Point → List Block → List ℕ → List ℕ → List ℕ → List ℕ → List ℕ → List ℕ → Type 0
BlocksDone funcs f p bs rs xs ys all_rs all_xs all_ys = (rs ++ block_regs funcs f p bs ≡ all_rs) × (xs ++ firsts funcs f p bs ≡ all_xs) × (ys ++ lasts funcs f p bs ≡ all_ys)

pub block_more : (funcs : List Func) (f : FuncId) (p q : Point) (b : Block) (bs : List Block) (rs xs ys rs' xs' ys' all_rs all_xs all_ys : List ℕ)
    → q ≡ next_block funcs f p b → rs' ≡ rs ++ code_regs funcs f p b.code → xs' ≡ xs ++ p.block ∷ [] → ys' ≡ ys ++ (code_end funcs f p b.code).block ∷ []
    → BlocksDone funcs f p (b ∷ bs) rs xs ys all_rs all_xs all_ys → BlocksDone funcs f q bs rs' xs' ys' all_rs all_xs all_ys
block_more funcs f p q b bs rs xs ys rs' xs' ys' all_rs all_xs all_ys n r x y h = (
  ap₂ (λ (zs : List ℕ) (z : Point). zs ++ block_regs funcs f z bs) r n ∙ append_assoc rs (code_regs funcs f p b.code) (block_regs funcs f (next_block funcs f p b) bs) ∙ h.0,
  ap₂ (λ (zs : List ℕ) (z : Point). zs ++ firsts funcs f z bs) x n ∙ append_assoc xs (p.block ∷ []) (firsts funcs f (next_block funcs f p b) bs) ∙ h.1,
  ap₂ (λ (zs : List ℕ) (z : Point). zs ++ lasts funcs f z bs) y n ∙ append_assoc ys ((code_end funcs f p b.code).block ∷ []) (lasts funcs f (next_block funcs f p b) bs) ∙ h.2,
)
