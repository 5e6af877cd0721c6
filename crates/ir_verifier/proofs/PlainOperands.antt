-- The constants that are operands of a proper function are no aggregates.
use Rattle.std.proofs.Common.{◌≡◌, ◌⊎◌, inl, inr, refl, sym, ap, subst, List, [], ◌∷◌, ◌++◌, map, Some, None, All}
use Rattle.std.specs.List.{flat_map}
use Rattle.ir_core.specs.declared.op.Operand.{Operand}
use Rattle.ir_core.specs.declared.op.Operand.TheVariants as operands
use Rattle.ir_core.specs.declared.op.TypedOperand.{TypedOperand}
use Rattle.ir_core.specs.declared.op.Pair.{Pair}
use Rattle.ir_core.specs.declared.op.SwitchCase.{SwitchCase}
use Rattle.ir_core.specs.declared.op.Op.{Op}
use Rattle.ir_core.specs.declared.op.Op.TheVariants.{Bin, Icmp, Select, Cast, Alloca, Load, Store, Gep, Phi, Call}
use Rattle.ir_core.specs.declared.op.End.{End}
use Rattle.ir_core.specs.declared.op.End.TheVariants.{Ret, Br, Cond, Switch, Unreachable}
use Rattle.ir_core.specs.declared.func.Instr.{Instr}
use Rattle.ir_core.specs.declared.func.Block.{Block}
use Rattle.ir_core.specs.declared.func.Func.{Func}
use Rattle.ir_core.specs.Proper.{IsValue, IsProperFunc}
use Rattle.ir_core.specs.Parts.{op_values, end_values, block_values, func_values, operand_consts, func_consts}
use Rattle.ir_core.specs.Operands.{Step, Does, Ends, steps, block_steps, op_operands, end_operands, operands_of, typed}
use Rattle.ir_core.proofs.Lists.{Has, has_left, has_right, has_part, contains}
use Rattle.module_rules.proofs.Sets.{has_made}
use Rattle.ir_verifier.proofs.ReferenceLaws.{IsPlain}

abbrev value : TypedOperand → Operand
value a = a.value

has_value : (as' : List TypedOperand) (a : TypedOperand) → Has as' a → Has (map value as') a.value
has_value [] a h = absurd h
has_value (b ∷ bs) a (inl e) = inl (ap value e)
has_value (b ∷ bs) a (inr h) = inr (has_value bs a h)

entry_values : (t : _) (es : List Pair) → map value (map (λ (e : Pair). typed t e.value) es) ≡ map (λ (e : Pair). e.value) es
entry_values t [] = refl
entry_values t (e ∷ es) = ap (λ vs. e.value ∷ vs) (entry_values t es)

case_values : (cs : List SwitchCase) → map value (map (λ (c : SwitchCase). c.value) cs) ≡ map (λ (c : SwitchCase). c.value.value) cs
case_values [] = refl
case_values (c ∷ cs) = ap (λ vs. c.value.value ∷ vs) (case_values cs)

op_values_of : (op : Op) → map value (op_operands op) ≡ op_values op
op_values_of (Bin op t a b) = refl
op_values_of (Icmp c t a b) = refl
op_values_of (Select c a b) = refl
op_values_of (Cast c a t) = refl
op_values_of (Alloca t n align) = refl
op_values_of (Load t a align) = refl
op_values_of (Store a p align) = refl
op_values_of (Gep t a is) = refl
op_values_of (Phi t es) = entry_values t es
op_values_of (Call t f as') = refl

end_values_of : (e : End) → map value (end_operands e) ≡ end_values e
end_values_of (Ret None) = refl
end_values_of (Ret (Some a)) = refl
end_values_of (Br b) = refl
end_values_of (Cond c t f) = refl
end_values_of (Switch a other cases) = ap (λ vs. a.value ∷ vs) (case_values cases)
end_values_of Unreachable = refl

-- a step is an instruction of the code, or the terminator
in_code : (code : List Instr) (b : Block) (s : Step) → Has (map (λ (i : Instr). Does i) code ++ Ends b ∷ []) s → ((i : Instr) × Has code i × (s ≡ Does i)) ⊎ (s ≡ Ends b)
in_code [] b s (inl e) = inr (sym e)
in_code [] b s (inr h) = absurd h
in_code (i ∷ is) b s (inl e) = inl (i, inl refl, sym e)
in_code (i ∷ is) b s (inr h) = wider (in_code is b s h)
  where
    wider : ((j : Instr) × Has is j × (s ≡ Does j)) ⊎ (s ≡ Ends b) → ((j : Instr) × Has (i ∷ is) j × (s ≡ Does j)) ⊎ (s ≡ Ends b)
    wider (inl r) = inl (r.0, inr r.1, r.2)
    wider (inr e) = inr e

block_value : (b : Block) (s : Step) (a : TypedOperand) → Has (block_steps b) s → Has (operands_of s) a → Has (block_values b) a.value
block_value b s a h g = by_kind (in_code b.code b s h)
  where
    by_kind : ((i : Instr) × Has b.code i × (s ≡ Does i)) ⊎ (s ≡ Ends b) → Has (block_values b) a.value
    by_kind (inl r) =
        let here : Has (op_values r.0.op) a.value = subst (λ vs. Has vs a.value) (op_values_of r.0.op) (has_value (op_operands r.0.op) a (subst (λ (t : Step). Has (operands_of t) a) r.2 g)) in
        has_left (flat_map (λ (i : Instr). op_values i.op) b.code) (end_values b.end) a.value (has_part (λ (i : Instr). op_values i.op) b.code r.0 a.value r.1 here)
    by_kind (inr e) =
        let here : Has (end_values b.end) a.value = subst (λ vs. Has vs a.value) (end_values_of b.end) (has_value (end_operands b.end) a (subst (λ (t : Step). Has (operands_of t) a) e g)) in
        has_right (flat_map (λ (i : Instr). op_values i.op) b.code) (end_values b.end) a.value here

pub all_of : {A : Type 0} (P : A → Type 0) (xs : List A) (x : A) → All P xs → Has xs x → P x
all_of P xs x all h = let c = contains xs x h in subst P c.2 (all c.0 x c.1)

pub plain_operands : (f : Func) → IsProperFunc f → (s : Step) → Has (steps f) s → (a : TypedOperand) → Has (operands_of s) a → IsPlain a.value
plain_operands f proper s h a g = by_value a.value refl
  where
    block : (b : Block) × Has f.blocks b × Has (block_steps b) s
    block = has_made block_steps f.blocks s h

    stands : Has (func_values f) a.value
    stands = has_part block_values f.blocks block.0 a.value block.1 (block_value block.0 s a block.2 g)

    by_value : (v : Operand) → a.value ≡ v → IsPlain v
    by_value (operands.Local x) e = tt
    by_value (operands.Const c) e =
        all_of IsValue (func_consts f) c proper.values (has_part operand_consts (func_values f) (operands.Const c) c (subst (λ (v : Operand). Has (func_values f) v) e stands) (inl refl))
