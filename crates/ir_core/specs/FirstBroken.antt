-- The rule that a verifier names: those of the module first, in the order of their numbers, and then the functions in
-- text order, each with its rules in that order. Each rule counts at its first place.
use Rattle.std.specs.Prelude.{◌≡◌, ◌⊎◌, ℕ, ◌<◌, IsTrue, Some, slice_get}
use Rattle.oi_base.specs.declared.ids.Place.{Place}
use Rattle.ir_core.specs.declared.module.Module.{Module}
use Rattle.ir_core.specs.declared.func.Func.{Func}
use Rattle.ir_core.specs.declared.rule.ModuleRule.{ModuleRule}
use Rattle.ir_core.specs.declared.rule.ModuleRule.TheVariants.{Main, SymbolTwice, TypeNames, Sizes, Initialisers, Totals, Alignments, Target}
use Rattle.ir_core.specs.declared.rule.FuncRule.{FuncRule}
use Rattle.ir_core.specs.declared.rule.FuncRule.TheVariants.{Names, References, Positions, Entry, Types, Constants, Calls, Phis, Cases, Assignment}
use Rattle.ir_core.specs.declared.rule.Rule.{Rule}
use Rattle.ir_core.specs.declared.rule.Rule.TheVariants as rules
use Rattle.ir_core.specs.Operands.{is_up_to}
use Rattle.ir_core.specs.ValidModule.{BreaksMain, BreaksSymbolTwice, BreaksTotals, BreaksTarget}
use Rattle.ir_core.specs.ValidTypes.{BreaksTypeNames, BreaksSizes, BreaksAlignments}
use Rattle.ir_core.specs.ValidConsts.{BreaksInitialisers}
use Rattle.ir_core.specs.ValidFunc.{BreaksNames, BreaksReferences, BreaksPositions, BreaksEntry}
use Rattle.ir_core.specs.ValidOps.{BreaksTypes, BreaksConstants, BreaksCalls, BreaksCases}
use Rattle.ir_core.specs.ValidPaths.{BreaksPhis, BreaksAssignment}
use Rattle.ir_core.specs.Valid.{IsValidFunc}

abbrev pub module_rule : ModuleRule → ℕ
module_rule Main = 1
module_rule SymbolTwice = 2
module_rule TypeNames = 3
module_rule Sizes = 4
module_rule Initialisers = 5
module_rule Totals = 6
module_rule Alignments = 7
module_rule Target = 8

abbrev pub func_rule : FuncRule → ℕ
func_rule Names = 9
func_rule References = 10
func_rule Positions = 11
func_rule Entry = 12
func_rule Types = 13
func_rule Constants = 14
func_rule Calls = 15
func_rule Phis = 16
func_rule Cases = 17
func_rule Assignment = 18

abbrev pub rule_number : Rule → ℕ
rule_number (rules.Module r) = module_rule r
rule_number (rules.Func r) = func_rule r

abbrev pub BreaksModule : Module → ModuleRule → Place → Type 0
BreaksModule m Main p = BreaksMain m p
BreaksModule m SymbolTwice p = BreaksSymbolTwice m p
BreaksModule m TypeNames p = BreaksTypeNames m p
BreaksModule m Sizes p = BreaksSizes m p
BreaksModule m Initialisers p = BreaksInitialisers m p
BreaksModule m Totals p = BreaksTotals m p
BreaksModule m Alignments p = BreaksAlignments m p
BreaksModule m Target p = BreaksTarget m p

abbrev pub BreaksFunc : Module → Func → FuncRule → Place → Type 0
BreaksFunc m f Names p = BreaksNames f p
BreaksFunc m f References p = BreaksReferences m f p
BreaksFunc m f Positions p = BreaksPositions f p
BreaksFunc m f Entry p = BreaksEntry f p
BreaksFunc m f Types p = BreaksTypes m f p
BreaksFunc m f Constants p = BreaksConstants f p
BreaksFunc m f Calls p = BreaksCalls m f p
BreaksFunc m f Phis p = BreaksPhis m f p
BreaksFunc m f Cases p = BreaksCases m f p
BreaksFunc m f Assignment p = BreaksAssignment f p

-- a rule is broken at this place and at none before it
pub record IsFirstPlace (Breaks : Place → Type 0) (p : Place) : Type 0 where
  pub broken : Breaks p
  pub first : (q : Place) → Breaks q → IsTrue (is_up_to p q)

-- the first broken rule of the module, without its functions'
pub record IsModuleFault (m : Module) (r : ModuleRule) (p : Place) : Type 0 where
  pub place : IsFirstPlace (BreaksModule m r) p
  pub lower : (s : ModuleRule) (q : Place) → module_rule s < module_rule r → BreaksModule m s q → ⊥

-- the first broken rule of the first function that breaks one, in a module that breaks none of its own
pub record IsFuncFault (m : Module) (at : ℕ) (f : Func) (r : FuncRule) (p : Place) : Type 0 where
  pub here : slice_get m.funcs at ≡ Some f
  pub place : IsFirstPlace (BreaksFunc m f r) p
  pub lower : (s : FuncRule) (q : Place) → func_rule s < func_rule r → BreaksFunc m f s q → ⊥
  pub own : (s : ModuleRule) (q : Place) → BreaksModule m s q → ⊥
  pub before : (i : ℕ) (g : Func) → i < at → slice_get m.funcs i ≡ Some g → IsValidFunc m g

-- the rule of this number, at this place, is the one that a verifier names
abbrev pub IsFirstBroken : Module → ℕ → Place → Type 0
IsFirstBroken m number p =
    ((r : ModuleRule) × (number ≡ module_rule r) × IsModuleFault m r p)
    ⊎ ((at : ℕ) × (f : Func) × (r : FuncRule) × (number ≡ func_rule r) × IsFuncFault m at f r p)
