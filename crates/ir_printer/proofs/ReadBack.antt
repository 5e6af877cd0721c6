-- A readable module's text is read as the module, but for places.
use Rattle.std.proofs.Common.{◌≡◌, refl, sym, ap, ◌∙◌, subst, ℕ, ◌<◌, ◌≤◌, false, List, length, arith}
use Rattle.std.proofs.lemmas.Bool.Decides.{nat_tests}
use Rattle.std.specs.Prelude.{All, nat_lt}
use Rattle.std.proofs.lemmas.List.{length-map}
use Rattle.ir_core.specs.declared.module.Module as modules
use Rattle.ir_core.specs.Places.{unplaced_func, unplaced, AreSameButForPlaces}
use Rattle.ir_grammar.specs.Pieces.{pieces}
use Rattle.ir_grammar.specs.Tokens.{Limits, stated, unlimited, is_past}
use Rattle.ir_grammar.specs.Reading.{ReadsPieces, Reads, ReadsWithinLimits, IsReadable, IsReadableWithinLimits}
use Rattle.ir_grammar.proofs.Faults.{enough_levels, limits_lifted}
use Rattle.ir_grammar.proofs.OneModule.{one_module}
use Rattle.ir_proper.proofs.ReadIsProper.{few_functions}
use Rattle.ir_printer.specs.Printed.{printed}
use Rattle.ir_printer.proofs.LinesReprinted.{prints_code}
use Rattle.ir_printer.proofs.LinesReread.{rereads_code}
use Rattle.ir_printer.proofs.BodiesReprinted.{prints_body}
use Rattle.ir_printer.proofs.BodiesReread.{rereads_body}
use Rattle.ir_printer.proofs.EntitiesPrinted.{prints_entities}
use Rattle.ir_printer.proofs.EntitiesReread.{rereads_entities}
use Rattle.ir_printer.proofs.PrintedBack.{printed_back}
use Rattle.ir_core.specs.declared.limits.TheConstants.{MOST_FUNCTIONS}

-- a text that was read within these limits: the text of its module is read within them as the module, but for places
back : (l : Limits) (m : modules.Module) (bytes : List ℕ) (read : modules.Module) → All (λ b. b < 256) bytes → ReadsPieces l (pieces bytes) read → AreSameButForPlaces read m → is_past l.functions (length m.funcs) ≡ false →
    (n : modules.Module) × ReadsPieces l (pieces (printed m)) n × AreSameButForPlaces n m
back = printed_back (λ n l noinline s t. prints_entities n l noinline s t (λ o i. prints_body i l (prints_code i l))) (λ l. rereads_entities l (rereads_body l (rereads_code l)))

-- a text that is the printed one has a module that is this one
pub reads_back : (m : modules.Module) → IsReadable m → (text : List ℕ) → text ≡ printed m → (n : modules.Module) × Reads text n × AreSameButForPlaces n m
reads_back m h text e =
    let k = length (pieces h.0) in
    let b = back (unlimited k) m h.0 h.1 h.2 h.3 h.4 refl in
    (b.0, subst (λ (bs : List ℕ). Reads bs b.0) (sym e) (enough_levels k (pieces (printed m)) b.0 b.1), b.2)

-- and what is read of it within the limits is this one
pub within : (m : modules.Module) → IsReadable m → (text : List ℕ) → text ≡ printed m → (n : modules.Module) → ReadsWithinLimits text n → AreSameButForPlaces n m
within m h text e n r = let b = reads_back m h text e in ap unplaced (one_module text n b.0 (limits_lifted (pieces text) n r) b.1) ∙ b.2

few_enough : (k : ℕ) → k ≤ MOST_FUNCTIONS → nat_lt MOST_FUNCTIONS k ≡ false
few_enough k h = grind (arith, nat_tests)

-- where a text within the limits has a module that is this one, the printed one has too
pub stays_within : (m : modules.Module) → IsReadableWithinLimits m → (text : List ℕ) → text ≡ printed m → (n : modules.Module) × ReadsWithinLimits text n × AreSameButForPlaces n m
stays_within m h text e =
    let many : length h.1.funcs ≡ length m.funcs = sym (length-map h.1.funcs unplaced_func) ∙ ap (λ (y : modules.Module). length y.funcs) h.4 ∙ length-map m.funcs unplaced_func in
    let b = back stated m h.0 h.1 h.2 h.3 h.4 (few_enough (length m.funcs) (subst (λ (k : ℕ). k ≤ MOST_FUNCTIONS) many (few_functions h.0 h.1 h.3))) in
    (b.0, subst (λ (bs : List ℕ). ReadsWithinLimits bs b.0) (sym e) b.1, b.2)
