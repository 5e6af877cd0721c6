-- What is said of a text that is not read is a function of the text, and such a text has no module within the limits.
use Rattle.std.proofs.Common.{◌≡◌, ◌≢◌, inl, inr, ℕ, Bool, true, false, List, [], ◌∷◌, ◌++◌, length, Option, Some, None, Ok, Err, slice_get, refl, sym, ap, ap₂, ◌∙◌, subst, arith}
use Rattle.std.specs.Prelude.{codes}
use Rattle.std.proofs.lemmas.Option.{slice_get_within}
use Rattle.oi_base.specs.declared.ids.Place.{Place}
use Rattle.ir_core.specs.declared.module.Module.{Module}
use Rattle.call_graph.specs.declared.sites.Site.{Site}
use Rattle.call_graph.specs.Sites.{all_sites}
use Rattle.ir_grammar.specs.declared.which.Which.{Which}
use Rattle.ir_grammar.specs.declared.which.Which.TheVariants as limits
use Rattle.ir_grammar.specs.Forms.{Fault, Why, Refused, Exceeds, Outcome}
use Rattle.ir_grammar.specs.Pieces.{Piece, Is, Bad, lexical_place}
use Rattle.ir_grammar.specs.Words.{is_left_out}
use Rattle.ir_grammar.specs.Reading.{read}
use Rattle.ir_grammar.proofs.Faults.{read_exactly, refused_told, exceeded_told}
use Rattle.ir_grammar.proofs.OneModule.{one_module_within}
use Rattle.ir_phrases.specs.declared.fault.ReadFault.{ReadFault}
use Rattle.ir_phrases.specs.declared.fault.ReadFault.TheVariants as faults
use Rattle.ir_core.specs.Proper.{IsProper}
use Rattle.ir_proper.proofs.ReadIsProper.{read_with_few_sites}
use Rattle.ir_reader.specs.Refusals.{ReadsWithin, ExceedsSites, IsRefusal}
use Rattle.optinline.specs.Answer.{limit_word, lexical_word, fault_word, fault_place}
use Rattle.ir_core.specs.declared.limits.TheConstants.{MOST_SITES}

-- ---- what is said

abbrev Said : Type 0
Said = Place × List ℕ

abbrev pub said_of : ReadFault → Said
said_of e = (fault_place e, fault_word e)

abbrev nothing : Said
nothing = (record { line = 0; column = 0 }, [])

abbrev token_word : Bool → List ℕ
token_word true = codes "left out"
token_word false = codes "syntax"

abbrev by_piece : Piece → Why → Said
by_piece (Bad e) Refused = (lexical_place e, lexical_word e)
by_piece (Bad e) (Exceeds w) = nothing
by_piece (Is t) Refused = (t.place, token_word (is_left_out t.token))
by_piece (Is t) (Exceeds w) = (t.place, codes "limit " ++ limit_word w)

abbrev by_pieces : List Piece → Why → Said
by_pieces [] why = nothing
by_pieces (t ∷ ts) why = by_piece t why

abbrev by_site : Option Site → Said
by_site None = nothing
by_site (Some s) = (s.place, codes "limit sites")

-- what is said after this reading
abbrev pub by_reading : Outcome Module → Said
by_reading (Ok r) = by_site (slice_get (all_sites r.0.funcs) MOST_SITES)
by_reading (Err d) = by_pieces d.at d.why

not_both : {A B : Type 0} (a : A) (b : B) → Ok a ≡ Err b → ⊥
not_both a b e = cc

-- ---- each refusal

record Refuses (bytes : List ℕ) (e : ReadFault) : Type 0 where
  said : said_of e ≡ by_reading (read bytes)
  none : (m : Module) → ReadsWithin bytes m → ⊥

-- where the reading has this fault
at_fault : (bytes : List ℕ) (e : ReadFault) (d : Fault) → read bytes ≡ Err d → said_of e ≡ by_pieces d.at d.why → Refuses bytes e
at_fault bytes e d reads same = record {
  said = same ∙ sym (ap by_reading reads);
  none = λ m h. let whole = read_exactly bytes m h.0 in not_both (m, record { names = whole.0; tokens = [] }) d (sym whole.1 ∙ reads);
}

at_sites : (bytes : List ℕ) (p : Place) → ExceedsSites bytes p → Refuses bytes (faults.Limit p limits.Sites)
at_sites bytes p (m, h, s, at, place) =
    let whole = read_exactly bytes m h in
    record {
      said = ap (λ (q : Place). (q, codes "limit sites")) (sym place) ∙ sym (ap by_site at) ∙ sym (ap by_reading whole.1);
      none = λ n k.
          let same : m ≡ n = one_module_within bytes m n h k.0 in
          let few = k.1 in
          let many = slice_get_within (all_sites m.funcs) MOST_SITES s at in
          let equal : length (all_sites m.funcs) ≡ length (all_sites n.funcs) = ap (λ (x : Module). length (all_sites x.funcs)) same in
          omega (arith, few, many, equal);
    }

refuses : (bytes : List ℕ) (e : ReadFault) → e ≢ faults.NoMemory → IsRefusal bytes e → Refuses bytes e
refuses bytes (faults.Lexical e) other h =
    at_fault bytes (faults.Lexical e) (record { at = Bad e ∷ h.0.1; why = Refused }) (refused_told bytes h.0.0 (Bad e) h.0.1 h.0.2 h.1) refl
refuses bytes (faults.Syntax p) other (u, rest, t, first, place, named, none) =
    at_fault bytes (faults.Syntax p) (record { at = Is t ∷ rest; why = Refused }) (refused_told bytes u (Is t) rest first none) (ap₂ (λ (q : Place) (b : Bool). (q, token_word b)) (sym place) (sym named))
refuses bytes (faults.LeftOut p) other (u, rest, t, first, place, named, none) =
    at_fault bytes (faults.LeftOut p) (record { at = Is t ∷ rest; why = Refused }) (refused_told bytes u (Is t) rest first none) (ap₂ (λ (q : Place) (b : Bool). (q, token_word b)) (sym place) (sym named))
refuses bytes (faults.Limit p w) other (inl h) =
    at_fault bytes (faults.Limit p w) (record { at = Is h.2 ∷ h.1; why = Exceeds w }) (exceeded_told bytes w h.0 h.2 h.1 h.3) (ap (λ (q : Place). (q, codes "limit " ++ limit_word w)) (sym h.4))
refuses bytes (faults.Limit p w) other (inr h) = subst (λ (x : Which). Refuses bytes (faults.Limit p x)) (sym h.0) (at_sites bytes p h.1)
refuses bytes faults.NoMemory other h = absurd (other refl)

pub refusal_said : (bytes : List ℕ) (e : ReadFault) → e ≢ faults.NoMemory → IsRefusal bytes e → said_of e ≡ by_reading (read bytes)
refusal_said bytes e other h = (refuses bytes e other h).said

pub refusal_none : (bytes : List ℕ) (e : ReadFault) → e ≢ faults.NoMemory → IsRefusal bytes e → (m : Module) → ReadsWithin bytes m → ⊥
refusal_none bytes e other h = (refuses bytes e other h).none

-- a text has one module within the limits
pub one_within : (bytes : List ℕ) (m n : Module) → ReadsWithin bytes m → ReadsWithin bytes n → m ≡ n
one_within bytes m n h k = one_module_within bytes m n h.0 k.0

-- such a module is proper
pub read_proper : (bytes : List ℕ) (m : Module) → ReadsWithin bytes m → IsProper m
read_proper bytes m h = read_with_few_sites bytes m h.0 h.1
