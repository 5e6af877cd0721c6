-- Where the rule of `main` is broken.
use Rattle.std.proofs.Common.{◌≡◌, refl, sym, ◌∙◌, subst, Bool, true, false, not, ◌&&◌, List, [], ◌∷◌, codes, Some, Contains}
use Rattle.std.specs.Prelude.{◌↔◌, IsTrue}
use Rattle.std.specs.Bool.{Decides}
use Rattle.std.specs.List.{list_any}
use Rattle.std.proofs.lemmas.Bool.Decides.{Decides-and}
use Rattle.std.proofs.lemmas.Slice.Eq.{bytes_eq-Decides}
use Rattle.oi_base.specs.declared.ids.Place.{Place}
use Rattle.oi_base.specs.declared.words.Width.TheVariants.{W32}
use Rattle.ir_core.specs.declared.ty.IrType.{Int}
use Rattle.ir_core.specs.declared.module.Module.{Module}
use Rattle.ir_core.specs.declared.func.Func.{Func}
use Rattle.ir_core.specs.declared.func.Param.{Param}
use Rattle.ir_core.specs.Source.{is_main}
use Rattle.ir_core.specs.Operands.{start, is_up_to, symbol_text}
use Rattle.ir_core.specs.ValidModule.{BreaksMain}
use Rattle.module_rules.specs.First.{IsFound}
use Rattle.module_rules.specs.HasMain.{is_empty, is_good_main}
use Rattle.ir_core.specs.Types.{is_word}
use Rattle.module_rules.proofs.Decided.{never, false_is_not_true}
use Rattle.module_rules.proofs.Earliest.{up_to_itself}
use Rattle.module_rules.proofs.InParts.{some_decides}
use Rattle.module_rules.proofs.WalkLaws.{word_decides}

pub empty_told : (t : Bool) (ps : List Param) → (IsTrue t ↔ (ps ≡ [])) → t ≡ is_empty ps
empty_told true [] h = refl
empty_told false [] h = absurd (false_is_not_true (h.1 refl))
empty_told true (p ∷ ps) h = absurd (let clash : p ∷ ps ≡ [] = h.0 refl in cc)
empty_told false (p ∷ ps) h = refl

empty_decides : (ps : List Param) → Decides (is_empty ps) (ps ≡ [])
empty_decides [] = (λ e. refl, λ h. refl)
empty_decides (p ∷ ps) = never (λ h. cc)

external_decides : (internal : Bool) → Decides (not internal) (internal ≡ false)
external_decides false = (λ e. refl, λ h. refl)
external_decides true = never (λ h. cc)

module _ (m : Module) where
  abbrev IsGoodMain : Func → Type 0
  IsGoodMain f = (symbol_text m f.name ≡ codes "main") × ((f.internal ≡ false) × ((f.params ≡ []) × (f.result ≡ Int W32)))

  good_decides : (f : Func) → Decides (is_good_main m f) (IsGoodMain f)
  unfolding is_good_main
  good_decides f =
      Decides-and (is_main m f) (not f.internal && (is_empty f.params && is_word f.result)) (bytes_eq-Decides (symbol_text m f.name) (codes "main"))
      (Decides-and (not f.internal) (is_empty f.params && is_word f.result) (external_decides f.internal) (Decides-and (is_empty f.params) (is_word f.result) (empty_decides f.params) (word_decides f.result)))

  one_decides : Decides (list_any (is_good_main m) m.funcs) ((f : Func) × Contains m.funcs f × IsGoodMain f)
  one_decides = some_decides (is_good_main m) IsGoodMain m.funcs (λ f h. good_decides f)

  pub main_good : list_any (is_good_main m) m.funcs ≡ true → (p : Place) → BreaksMain m p → ⊥
  main_good e p b = let h = one_decides.0 e in let is = h.2 in b.1 (h.0, h.1, is.0, is.1.0, is.1.1.0, is.1.1.1)

  pub main_broken : list_any (is_good_main m) m.funcs ≡ false → IsFound (BreaksMain m) (Some start)
  main_broken e = record {
    broken = (refl, λ h. false_is_not_true (sym e ∙ one_decides.1 (h.0, h.1, (h.2, (h.3, (h.4, h.5))))));
    first = λ q b. subst (λ (p : Place). IsTrue (is_up_to start p)) (sym b.0) (up_to_itself start);
  }
