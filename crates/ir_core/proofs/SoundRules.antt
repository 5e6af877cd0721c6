-- The rules on names, allocas and the entry block say what a run needs.
use Rattle.std.proofs.Common.{◌≡◌, ◌≢◌, inl, inr, ℕ, zero, suc, ◌<◌, Bool, true, false, if◌then◌else◌, bytes_eq, codes, List, [], ◌∷◌, ◌++◌, map, length, Option, Some, None, slice_get, Contains, refl, sym, ap, ◌∙◌, subst}
use Rattle.std.specs.List.{flat_map, filter_map, cons_option, find, AllByRecursion as Each}
use Rattle.std.specs.Option.{option_map, option_map_or, option_and_then}
use Rattle.std.proofs.lemmas.List.{map-append}
use Rattle.std.proofs.lemmas.List.Folds.{find_at}
use Rattle.std.proofs.lemmas.Option.{slice_get_within}
use Rattle.oi_base.specs.declared.ids.RegId.{RegId}
use Rattle.ir_core.specs.declared.flat.FlatOp.{FlatOp}
use Rattle.ir_core.specs.declared.flat.FlatInstr.{FlatInstr}
use Rattle.ir_core.specs.declared.flat.FlatInstr.TheVariants as flat
use Rattle.ir_core.specs.declared.flat.Case.{Case}
use Rattle.ir_core.specs.declared.flat.Phi.{Phi}
use Rattle.ir_core.specs.declared.flat.FlatBlock.{FlatBlock}
use Rattle.ir_core.specs.declared.module.SymId.{SymId}
use Rattle.ir_core.specs.declared.module.Module.{Module}
use Rattle.ir_core.specs.declared.op.LocalId.{LocalId}
use Rattle.ir_core.specs.declared.op.SwitchCase.{SwitchCase}
use Rattle.ir_core.specs.declared.op.Op.{Op}
use Rattle.ir_core.specs.declared.op.Op.TheVariants as ops
use Rattle.ir_core.specs.declared.op.End.{End}
use Rattle.ir_core.specs.declared.op.End.TheVariants as ends
use Rattle.ir_core.specs.declared.func.Instr.{Instr}
use Rattle.ir_core.specs.declared.func.Block.{Block}
use Rattle.ir_core.specs.declared.func.Func.{Func}
use Rattle.ir_core.specs.declared.func.Param.{Param}
use Rattle.ir_core.specs.Parts.{is_defined, targets}
use Rattle.ir_core.specs.Operands.{symbol_text}
use Rattle.ir_core.specs.Formed as formed
use Rattle.ir_core.specs.Formed.{written_by, of_result}
use Rattle.ir_core.specs.Instructions.{register, first, func_number, instruction, phi, call, external_call, switch_case, terminator, block_rows}
use Rattle.ir_core.specs.Source.{is_labelled, entry_label}
use Rattle.ir_core.specs.Plain.{numbers, registers, results, RunsAsTheSource}
use Rattle.ir_core.specs.Valid.{IsValid, IsValidFunc}
use Rattle.ir_core.specs.ValidFunc.{LocalAt, instr_local, block_locals_at, locals_at, IsAlloca}
use Rattle.ir_core.proofs.Lists.{Has, Apart, each_of, each_map, each_from, each_left, each_right, each_part, apart_mapped, apart_right, apart_part, apart_across, has_right, has_part, has_at, at_has, has_mapped, has_made, contains, all_at, has_source, mapped, mapped_parts, place_within, place_has}
use Rattle.ir_core.proofs.Sound.{IsAt, coming, IsRegister, Sound}
use Rattle.ir_core.proofs.SourceRuns.{runs_as_the_source}

-- ---- results

-- what an instruction writes is the result that it names
abbrev OfResult : Option LocalId → Option ℕ → Type 0
OfResult r None = Unit {0}
OfResult r (Some d) = r ≡ Some (record { 0 = d })

abbrev Agrees : Option LocalId → Option FlatInstr → Type 0
Agrees r None = Unit {0}
Agrees r (Some i) = OfResult r (written_by i)

of_register : (r : Option LocalId) → OfResult r (of_result (option_map register r))
of_register None = tt
of_register (Some x) = refl

-- a call is one of four instructions
call_forms : (m : Module) (d : Option RegId) (s : SymId) (args : List FlatOp) (Is : FlatInstr → Type 0) → Is (flat.Call d (record { 0 = func_number m s }) args) → Is (flat.Put d (first args)) → Is (flat.Get d) → Is (flat.Exit (first args)) → Is (call m d s args)
call_forms m d s args Is inner put get exit = by_defined (is_defined m s)
  where
    by_exit : (t : Bool) → Is (if t then flat.Exit (first args) else flat.Call d (record { 0 = func_number m s }) args)
    by_exit true = exit
    by_exit false = inner

    by_get : (t u : Bool) → Is (if t then flat.Get d else (if u then flat.Exit (first args) else flat.Call d (record { 0 = func_number m s }) args))
    by_get true u = get
    by_get false u = by_exit u

    by_put : (t u v : Bool) → Is (if t then flat.Put d (first args) else (if u then flat.Get d else (if v then flat.Exit (first args) else flat.Call d (record { 0 = func_number m s }) args)))
    by_put true u v = put
    by_put false u v = by_get u v

    by_defined : (t : Bool) → Is (if t then flat.Call d (record { 0 = func_number m s }) args else external_call (symbol_text m s) d args (flat.Call d (record { 0 = func_number m s }) args))
    by_defined true = inner
    by_defined false = by_put (bytes_eq (symbol_text m s) (codes "putchar")) (bytes_eq (symbol_text m s) (codes "getchar")) (bytes_eq (symbol_text m s) (codes "exit"))

call_agrees : (m : Module) (r : Option LocalId) (s : SymId) (args : List FlatOp) → OfResult r (written_by (call m (option_map register r) s args))
call_agrees m r s args = call_forms m (option_map register r) s args (λ i. OfResult r (written_by i)) (of_register r) (of_register r) (of_register r) tt

agrees : (m : Module) (r : Option LocalId) (op : Op) → Agrees r (instruction m r op)
agrees m (Some d) (ops.Bin op t a b) = refl
agrees m (Some d) (ops.Icmp c t a b) = refl
agrees m (Some d) (ops.Select c a b) = refl
agrees m (Some d) (ops.Cast c a t) = refl
agrees m (Some d) (ops.Alloca t count stated) = refl
agrees m (Some d) (ops.Load t a stated) = refl
agrees m (Some d) (ops.Gep t a is) = refl
agrees m (Some d) (ops.Store a p stated) = tt
agrees m (Some d) (ops.Call t s as') = call_agrees m (Some d) s _
agrees m (Some d) (ops.Phi t es) = tt
agrees m None (ops.Bin op t a b) = tt
agrees m None (ops.Icmp c t a b) = tt
agrees m None (ops.Select c a b) = tt
agrees m None (ops.Cast c a t) = tt
agrees m None (ops.Alloca t count stated) = tt
agrees m None (ops.Load t a stated) = tt
agrees m None (ops.Gep t a is) = tt
agrees m None (ops.Store a p stated) = tt
agrees m None (ops.Call t s as') = call_agrees m None s _
agrees m None (ops.Phi t es) = tt

writes_result : (m : Module) (j : Instr) (i : FlatInstr) (d : ℕ) → instruction m j.result j.op ≡ Some i → written_by i ≡ Some d → j.result ≡ Some (record { 0 = d })
writes_result m j i d e w = subst (OfResult j.result) w (subst (Agrees j.result) e (agrees m j.result j.op))

abbrev PhiAgrees : Option LocalId → Option Phi → Type 0
PhiAgrees r None = Unit {0}
PhiAgrees r (Some q) = r ≡ Some (record { 0 = q.reg.0 })

phi_agrees : (m : Module) (r : Option LocalId) (op : Op) → PhiAgrees r (phi m r op)
phi_agrees m (Some d) (ops.Bin op t a b) = tt
phi_agrees m (Some d) (ops.Icmp c t a b) = tt
phi_agrees m (Some d) (ops.Select c a b) = tt
phi_agrees m (Some d) (ops.Cast c a t) = tt
phi_agrees m (Some d) (ops.Alloca t count stated) = tt
phi_agrees m (Some d) (ops.Load t a stated) = tt
phi_agrees m (Some d) (ops.Gep t a is) = tt
phi_agrees m (Some d) (ops.Store a p stated) = tt
phi_agrees m (Some d) (ops.Call t s as') = tt
phi_agrees m (Some d) (ops.Phi t es) = refl
phi_agrees m None op = tt

-- ---- the registers of a function

register_of : (g : Func) (b : Block) (j : Instr) (d : ℕ) → Has g.blocks b → Has b.code j → j.result ≡ Some (record { 0 = d }) → IsRegister g d
register_of g b j d hb hj e =
    let named : Has (results b) (record { 0 = d }) = has_made (λ (i : Instr). i.result) b.code j _ hj e in
    let all : Has (registers g) (record { 0 = d }) = has_right (map (λ (p : Param). p.name) g.params) (flat_map results g.blocks) _ (has_part results g.blocks b _ hb named) in
    place_within (λ (r : LocalId). r.0) (registers g) (record { 0 = d }) all

-- ---- a block of the module

record Placed (m : Module) (x : ℕ) (g : Func) (k : FlatBlock) : Type 0 where
  block : Block
  found : slice_get g.blocks ((numbers g).block x) ≡ Some block
  rows : block_rows m block ≡ k

placed : (m : Module) (f x : ℕ) (g : Func) (k : FlatBlock) → IsAt m f x g k → Placed m x g k
placed m f x g k at =
    let here : option_map (block_rows m) (find (is_labelled x) g.blocks) ≡ Some k = sym (ap (λ (o : Option Func). option_and_then (λ (h : Func). option_map (block_rows m) (find (is_labelled x) h.blocks)) o) at.func) ∙ at.block in
    let r = mapped (block_rows m) (find (is_labelled x) g.blocks) k here in
    record { block = r.0; found = sym (find_at (is_labelled x) g.blocks) ∙ r.1; rows = r.2 }

-- ---- names that stand once

abbrev pub key : LocalAt → ℕ
key a = a.name.0

pub same_name : (a b : LocalId) → a.0 ≡ b.0 → a ≡ b
same_name a b e = ap (λ (n : ℕ). record { 0 = n }) e

abbrev own : Option LocalId → List ℕ
own None = []
own (Some x) = x.0 ∷ []

own_is : (j : Instr) (r : Option LocalId) → j.result ≡ r → map key (instr_local j) ≡ own r
own_is j None e = rw e refl
own_is j (Some x) e = rw e refl

abbrev names : List Instr → List ℕ
names code = map key (flat_map instr_local code)

names_first : (j : Instr) (js : List Instr) → names (j ∷ js) ≡ own j.result ++ names js
names_first j js = map-append key (instr_local j) (flat_map instr_local js) ∙ ap (λ ys. ys ++ names js) (own_is j j.result refl)

module _ (m : Module) where
  abbrev code_rows : List Instr → List FlatInstr
  code_rows code = filter_map (λ (i : Instr). instruction m i.result i.op) code

  head_each : (P : ℕ → Type 0) (r : Option LocalId) (o : Option FlatInstr) (rest : List FlatInstr) → Agrees r o → Each P (own r) → Each P (filter_map written_by rest) → Each P (filter_map written_by (cons_option o rest))
  head_each P r None rest a e all = all
  head_each P r (Some i) rest a e all = by_written (written_by i) a
    where
      by_written : (w : Option ℕ) → OfResult r w → Each P (cons_option w (filter_map written_by rest))
      by_written None a = all
      by_written (Some d) a = ((subst (λ q. Each P (own q)) a e).0, all)

  each_rows : (P : ℕ → Type 0) (code : List Instr) → Each P (names code) → Each P (filter_map written_by (code_rows code))
  each_rows P [] e = tt
  each_rows P (j ∷ js) e =
      let all : Each P (own j.result ++ names js) = subst (Each P) (names_first j js) e in
      head_each P j.result (instruction m j.result j.op) (code_rows js) (agrees m j.result j.op) (each_left P (own j.result) (names js) all) (each_rows P js (each_right P (own j.result) (names js) all))

  head_apart : (r : Option LocalId) (o : Option FlatInstr) (rest : List FlatInstr) → Agrees r o → Each (λ x. Each (λ y. x ≢ y) (filter_map written_by rest)) (own r) → Apart (filter_map written_by rest) → Apart (filter_map written_by (cons_option o rest))
  head_apart r None rest a e all = all
  head_apart r (Some i) rest a e all = by_written (written_by i) a
    where
      by_written : (w : Option ℕ) → OfResult r w → Apart (cons_option w (filter_map written_by rest))
      by_written None a = all
      by_written (Some d) a = ((subst (λ q. Each (λ x. Each (λ y. x ≢ y) (filter_map written_by rest)) (own q)) a e).0, all)

  apart_rows : (code : List Instr) → Apart (names code) → Apart (filter_map written_by (code_rows code))
  apart_rows [] a = tt
  apart_rows (j ∷ js) a =
      let all : Apart (own j.result ++ names js) = subst Apart (names_first j js) a in
      let across : Each (λ x. Each (λ y. x ≢ y) (names js)) (own j.result) = apart_across (own j.result) (names js) all in
      head_apart j.result (instruction m j.result j.op) (code_rows js) (agrees m j.result j.op)
      (each_map (λ x. Each (λ y. x ≢ y) (names js)) (λ x. Each (λ y. x ≢ y) (filter_map written_by (code_rows js))) (own j.result) (λ x h. each_rows (λ y. x ≢ y) js h) across)
      (apart_rows js (apart_right (own j.result) (names js) all))

-- ---- allocas

abbrev FromAlloca : Op → Option FlatInstr → Type 0
FromAlloca op None = Unit {0}
FromAlloca op (Some i) = (d : RegId) (size align : ℕ) → i ≡ flat.Alloca d size align → IsAlloca op

from_alloca : (m : Module) (r : Option LocalId) (op : Op) → FromAlloca op (instruction m r op)
from_alloca m (Some d) (ops.Bin op t a b) = λ d size align e. absurd cc
from_alloca m (Some d) (ops.Icmp c t a b) = λ d size align e. absurd cc
from_alloca m (Some d) (ops.Select c a b) = λ d size align e. absurd cc
from_alloca m (Some d) (ops.Cast c a t) = λ d size align e. absurd cc
from_alloca m (Some d) (ops.Alloca t count stated) = λ d size align e. tt
from_alloca m (Some d) (ops.Load t a stated) = λ d size align e. absurd cc
from_alloca m (Some d) (ops.Gep t a is) = λ d size align e. absurd cc
from_alloca m (Some d) (ops.Store a p stated) = λ d size align e. absurd cc
from_alloca m (Some d) (ops.Call t s as') = call_forms m (Some (register d)) s _ (λ i. (d : RegId) (size align : ℕ) → i ≡ flat.Alloca d size align → ⊥) (λ d size align e. cc) (λ d size align e. cc) (λ d size align e. cc) (λ d size align e. cc)
from_alloca m (Some d) (ops.Phi t es) = tt
from_alloca m None (ops.Bin op t a b) = tt
from_alloca m None (ops.Icmp c t a b) = tt
from_alloca m None (ops.Select c a b) = tt
from_alloca m None (ops.Cast c a t) = tt
from_alloca m None (ops.Alloca t count stated) = tt
from_alloca m None (ops.Load t a stated) = tt
from_alloca m None (ops.Gep t a is) = tt
from_alloca m None (ops.Store a p stated) = λ d size align e. absurd cc
from_alloca m None (ops.Call t s as') = call_forms m None s _ (λ i. (d : RegId) (size align : ℕ) → i ≡ flat.Alloca d size align → ⊥) (λ d size align e. cc) (λ d size align e. cc) (λ d size align e. cc) (λ d size align e. cc)
from_alloca m None (ops.Phi t es) = tt

-- ---- targets

case_label : (m : Module) (other : LocalId) (cs : List SwitchCase) (t : ℕ) → Has (map (λ (c : Case). c.to.0) (map (switch_case m) cs) ++ other.0 ∷ []) t → Has (other ∷ map (λ (c : SwitchCase). c.to) cs) (record { 0 = t })
case_label m other [] t (inl e) = inl (same_name other _ e)
case_label m other [] t (inr h) = absurd h
case_label m other (c ∷ cs) t (inl e) = inr (inl (same_name c.to _ e))
case_label m other (c ∷ cs) t (inr h) = past (case_label m other cs t h)
  where
    past : Has (other ∷ map (λ (c : SwitchCase). c.to) cs) (record { 0 = t }) → Has (other ∷ map (λ (c : SwitchCase). c.to) (c ∷ cs)) (record { 0 = t })
    past (inl e) = inl e
    past (inr g) = inr (inr g)

goes_label : (m : Module) (e : End) (t : ℕ) → Has (formed.targets (terminator m e)) t → Has (targets e) (record { 0 = t })
goes_label m (ends.Ret None) t h = absurd h
goes_label m (ends.Ret (Some a)) t h = absurd h
goes_label m (ends.Br b) t (inl e) = inl (same_name b _ e)
goes_label m (ends.Br b) t (inr h) = absurd h
goes_label m (ends.Cond c x y) t (inl e) = inl (same_name x _ e)
goes_label m (ends.Cond c x y) t (inr (inl e)) = inr (inl (same_name y _ e))
goes_label m (ends.Cond c x y) t (inr (inr h)) = absurd h
goes_label m (ends.Switch a other cases) t h = case_label m other cases t h
goes_label m ends.Unreachable t h = absurd h

-- ---- all of it

module _ (m : Module) (valid : IsValid m) where
  module _ (f x : ℕ) (g : Func) (k : FlatBlock) (at : IsAt m f x g k) where
    rules : IsValidFunc m g
    rules = all_at (IsValidFunc m) m.funcs f g valid.each_func at.func

    abbrev here : Placed m x g k
    here = placed m f x g k at

    abbrev b : Block
    b = here.block

    here_has : Has g.blocks b
    here_has = has_at g.blocks ((numbers g).block x) b here.found

    labelled : b.label.0 ≡ x
    labelled = place_has (λ (c : Block). c.label.0) g.blocks x b here.found

    labels_known : (numbers g).block x < length g.blocks
    labels_known = slice_get_within g.blocks ((numbers g).block x) b here.found

    instr_source : (p : ℕ) (i : FlatInstr) → slice_get k.code p ≡ Some i → (j : Instr) × Has b.code j × (instruction m j.result j.op ≡ Some i)
    instr_source p i e =
        let c : slice_get (code_rows m b.code) p ≡ Some i = ap (λ (l : FlatBlock). slice_get l.code p) here.rows ∙ e in
        has_source (λ (j : Instr). instruction m j.result j.op) b.code i (has_at (code_rows m b.code) p i c)

    results_known : (p d : ℕ) (i : FlatInstr) → slice_get k.code p ≡ Some i → written_by i ≡ Some d → IsRegister g d
    results_known p d i e w = let j = instr_source p i e in register_of g b j.0 d here_has j.1 (writes_result m j.0 i d j.2 w)

    phis_known : Each (λ (q : Phi). IsRegister g q.reg.0) k.phis
    phis_known = subst (λ (l : FlatBlock). Each (λ (q : Phi). IsRegister g q.reg.0) l.phis) here.rows
        (each_from (λ (q : Phi). IsRegister g q.reg.0) (block_rows m b).phis (λ q h.
        let j = has_source (λ (j : Instr). phi m j.result j.op) b.code q h in
        register_of g b j.0 q.reg.0 here_has j.1 (subst (PhiAgrees j.0.result) j.2 (phi_agrees m j.0.result j.0.op))))

    abbrev params_at : List LocalAt
    params_at = map (λ (q : Param). record { name = q.name; place = g.place }) g.params

    abbrev block_names : Block → List ℕ
    block_names c = map key (block_locals_at c)

    named_once : Apart (map key params_at ++ flat_map block_names g.blocks)
    named_once = subst Apart (map-append key params_at (flat_map block_locals_at g.blocks) ∙ ap (λ ys. map key params_at ++ ys) (mapped_parts key block_locals_at block_names (λ c. refl) g.blocks))
        (apart_mapped key (locals_at g) (λ i j a c lt ei ej same. rules.names c.place (i, j, a, c, lt, ei, ej, same_name a.name c.name same, refl)))

    code_once : Apart (coming k 0)
    code_once =
        let own_names : Apart (block_names b) = apart_part block_names g.blocks b (apart_right (map key params_at) (flat_map block_names g.blocks) named_once) here_has in
        subst (λ (l : FlatBlock). Apart (coming l 0)) here.rows (apart_rows m b.code own_names.1)

    no_param : (q : Param) → Has g.params q → Each (λ (d : ℕ). q.name.0 ≢ d) (coming k 0)
    no_param q h =
        let across : Each (λ y. Each (λ z. y ≢ z) (flat_map block_names g.blocks)) (map key params_at) = apart_across (map key params_at) (flat_map block_names g.blocks) named_once in
        let stands : Has (map key params_at) q.name.0 = has_mapped key params_at _ (has_mapped (λ (q : Param). record { name = q.name; place = g.place }) g.params q h) in
        let away : Each (λ z. q.name.0 ≢ z) (flat_map block_names g.blocks) = each_of (λ y. Each (λ z. y ≢ z) (flat_map block_names g.blocks)) (map key params_at) q.name.0 across stands in
        let here_away : Each (λ z. q.name.0 ≢ z) (block_names b) = each_part (λ z. q.name.0 ≢ z) block_names g.blocks b away here_has in
        subst (λ (l : FlatBlock). Each (λ z. q.name.0 ≢ z) (coming l 0)) here.rows (each_rows m (λ z. q.name.0 ≢ z) b.code here_away.1)

    no_params : Each (λ (d : ℕ). Each (λ (q : Param). q.name.0 ≢ d) g.params) (coming k 0)
    no_params = each_from (λ (d : ℕ). Each (λ (q : Param). q.name.0 ≢ d) g.params) (coming k 0) (λ d hd. each_from (λ (q : Param). q.name.0 ≢ d) g.params (λ q hq. each_of (λ (e : ℕ). q.name.0 ≢ e) (coming k 0) d (no_param q hq) hd))

    at_first : (c : Block) → slice_get g.blocks 0 ≡ Some c → entry_label g ≡ c.label.0
    at_first c e = ap (λ (o : Option Block). option_map_or (λ (z : Block). z.label.0) o 0) e

    in_entry : (p size align : ℕ) (d : RegId) → slice_get k.code p ≡ Some (flat.Alloca d size align) → x ≡ entry_label g
    in_entry p size align d e = by_place ((numbers g).block x) here.found
      where
        j : (j : Instr) × Has b.code j × (instruction m j.result j.op ≡ Some (flat.Alloca d size align))
        j = instr_source p (flat.Alloca d size align) e

        is_alloca : IsAlloca j.0.op
        is_alloca = subst (FromAlloca j.0.op) j.2 (from_alloca m j.0.result j.0.op) d size align refl

        n : (n : ℕ) × (slice_get b.code n ≡ Some j.0)
        n = at_has b.code j.0 j.1

        by_place : (at : ℕ) → slice_get g.blocks at ≡ Some b → x ≡ entry_label g
        by_place zero found = sym (at_first b found ∙ labelled)
        by_place (suc at) found = absurd (rules.positions j.0.place (suc at, n.0, b, j.0, found, n.1, refl, inr (is_alloca, λ z. cc)))

    not_back : (t : ℕ) → Has (formed.targets k.end) t → t ≢ entry_label g
    not_back t h same = by_first (slice_get g.blocks 0) refl
      where
        goes : Has (targets b.end) (record { 0 = t })
        goes = goes_label m b.end t (subst (λ (l : FlatBlock). Has (formed.targets l.end) t) (sym here.rows) h)

        by_first : (o : Option Block) → slice_get g.blocks 0 ≡ o → ⊥
        by_first (Some c) e =
            let entry : record { 0 = t } ≡ c.label = same_name _ c.label (same ∙ at_first c e) in
            rules.entry b.end_place (c, e, (b, contains g.blocks b here_has, refl, subst (Contains (targets b.end)) entry (contains (targets b.end) _ goes)))
        by_first None e = none_there g.blocks e here_has
          where
            none_there : (bs : List Block) → slice_get bs 0 ≡ None → Has bs b → ⊥
            none_there [] e h = h
            none_there (c ∷ cs) e h = cc

  rules_sound : Sound m
  rules_sound = record {
    labels = λ f x g k at. labels_known f x g k at;
    results = λ f x g k at p d i e w. results_known f x g k at p d i e w;
    phis = λ f x g k at. phis_known f x g k at;
    once = λ f x g k at. code_once f x g k at;
    params = λ f x g k at. no_params f x g k at;
    allocas = λ f x g k at p size align d e. in_entry f x g k at p size align d e;
    no_way_back = λ f x g k at t h. not_back f x g k at t h;
  }

  pub runs_as_the_source_where_valid : RunsAsTheSource m
  runs_as_the_source_where_valid = runs_as_the_source m rules_sound
