-- Instructions that have a shorter form.
use Rattle.std.specs.Prelude.{ℕ, Bool, true, false, ◌||◌, nat_eq, is_some, List, [], ◌∷◌}
use Rattle.std.specs.List.{list_any}
use Rattle.oi_base.specs.declared.words.Width.TheVariants.{W1}
use Rattle.ir_core.specs.declared.flat.Term.{Term}
use Rattle.ir_core.specs.declared.flat.FlatInstr.{FlatInstr}
use Rattle.ir_core.specs.declared.flat.FlatInstr.TheVariants.{Bin, Icmp, Select, Cast, Copy, Alloca, Load, Store, Gep, Call, Put, Get, Exit}
use Rattle.ir_core.specs.declared.flat.FlatBlock.{FlatBlock}
use Rattle.const_fold.specs.Operands.{word_in}

-- whether a term's operand is a word
abbrev pub is_word : Term → Bool
is_word t = is_some (word_in t.width t.operand)

-- whether an address moves its base by nothing
abbrev pub moves_nothing : ℕ → List Term → Bool
moves_nothing k [] = nat_eq k 0
moves_nothing k (t ∷ ts) = false

-- whether an instruction has a shorter form
abbrev pub shortens : FlatInstr → Bool
shortens (Select d c a b) = is_some (word_in W1 c)
shortens (Gep d a k ts) = list_any is_word ts || moves_nothing k ts
shortens (Bin d op w a b) = false
shortens (Icmp d c s a b) = false
shortens (Cast d c from to a) = false
shortens (Copy d a) = false
shortens (Alloca d size align) = false
shortens (Load d s align a) = false
shortens (Store s align v a) = false
shortens (Call d f args) = false
shortens (Put d a) = false
shortens (Get d) = false
shortens (Exit a) = false

-- whether some instruction of a block has one
abbrev pub block_shortens : FlatBlock → Bool
block_shortens k = list_any shortens k.code
