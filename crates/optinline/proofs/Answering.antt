-- The answer to words on a desk with files is a function of both.
use Rattle.std.proofs.Common.{◌≡◌, ◌≢◌, ◌⊎◌, Bool, true, false, List, [], ◌∷◌, ℕ, zero, suc, ◌≤◌, length, Option, Some, None, Ok, Err, slice_get, Contains, refl, sym, ap, ap₂, ◌∙◌, subst, inl, inr, arith}
use Rattle.std.specs.Prelude.{nat_lt, MatchBool, codes, ◌++◌}
use Rattle.std.specs.FinMap as finite
use Rattle.oi_base.specs.declared.ids.Place.{Place}
use Rattle.oi_world.specs.Desk.{Files}
use Rattle.ir_lexer.specs.declared.table.Spot.{Spot}
use Rattle.ir_core.specs.declared.module.Module.{Module}
use Rattle.ir_core.specs.FirstBroken.{IsFirstBroken}
use Rattle.ir_core.specs.Proper.{IsProper}
use Rattle.ir_core.specs.Valid.{IsValid}
use Rattle.call_graph.specs.declared.sites.Site.{Site}
use Rattle.call_graph.specs.Sites.{all_sites}
use Rattle.ir_grammar.specs.declared.which.Which.{Which}
use Rattle.ir_grammar.specs.declared.which.Which.TheVariants as limits
use Rattle.ir_grammar.specs.Forms.{Why, Refused, Exceeds, Outcome}
use Rattle.ir_grammar.specs.Pieces.{Piece, Is, Bad}
use Rattle.ir_grammar.specs.Words.{is_left_out}
use Rattle.ir_grammar.specs.Reading.{ReadsWithinLimits, FirstRefused, read as reading}
use Rattle.ir_grammar.proofs.Faults.{read_to_end, first_refused, exceeded_place, exceeded_told}
use Rattle.ir_phrases.specs.declared.fault.ReadFault.{ReadFault}
use Rattle.ir_phrases.specs.declared.fault.ReadFault.TheVariants as faults
use Rattle.ir_reader.specs.Refusals.{ReadsWithin, ExceedsNone, IsRefusal}
use Rattle.ir_verifier.proofs.OneVerdict.{one_first, one_first_broken, broken_not_valid}
use Rattle.ir_verifier.proofs.VerdictDecided.{verdict}
use Rattle.module_rules.specs.First.{earliest, IsFound}
use Rattle.optinline.specs.declared.status.TheConstants.{NO_COMMAND, TOO_LONG, ABSENT}
use Rattle.optinline.specs.Words.{Words, command_of}
use Rattle.optinline.specs.Unbuilt.{unbuilt}
use Rattle.optinline.specs.Answer.{Answer, refusal, refused, rule_word, not_yet, fault_place, fault_word, built, module_limit, IsValidAnswer, not_built, accepted, IsReadAnswer, broken, valid, IsModuleAnswer, unread, read, IsFileAnswer, IsCommandAnswer, IsAnswer}
use Rattle.optinline.proofs.Answered.{first_of_some}
use Rattle.optinline.proofs.FirstUnbuilt.{first_place}
use Rattle.optinline.proofs.Refusals.{refusal_said, refusal_none, one_within, read_proper}
use Rattle.ir_core.specs.declared.limits.TheConstants.{MOST_SITES}

-- ---- there is one

-- why a reading ends, where it has a fault
abbrev why_of : Outcome Module → Why
why_of (Ok r) = Refused
why_of (Err d) = d.why

other_why : (w : Which) → Refused ≡ Exceeds w → ⊥
other_why w e = cc

module _ (words : Words) where
  module _ (m : Module) where
    to_valid : IsValid m → (a : Answer) × IsReadAnswer words m a
    to_valid v = by_first (earliest None (unbuilt m)) (first_place (unbuilt m))
      where
        no_place : (ps : List Place) → ((p : Place) → Contains ps p → ⊥) → ps ≡ []
        no_place [] h = refl
        no_place (p ∷ ps) h = absurd (h p (0, omega arith, refl))

        by_first : (o : Option Place) → IsFound (λ q. Contains (unbuilt m) q) o → (a : Answer) × IsReadAnswer words m a
        by_first None h = (built words m, valid v (accepted (no_place (unbuilt m) h) refl))
        by_first (Some p) h = (not_yet p, valid v (not_built p h refl))

    to_read : IsProper m → (a : Answer) × IsReadAnswer words m a
    to_read proper = by_verdict (verdict m proper)
      where
        by_verdict : IsValid m ⊎ ((rule : ℕ) × (p : Place) × IsFirstBroken m rule p) → (a : Answer) × IsReadAnswer words m a
        by_verdict (inl v) = to_valid v
        by_verdict (inr (rule, p, h)) = (refused p (rule_word rule), broken rule p h refl)

  module _ (bytes : List ℕ) where
    to_unread : (e : ReadFault) → e ≢ faults.NoMemory → IsRefusal bytes e → (a : Answer) × IsModuleAnswer words bytes a
    to_unread e other h = (refused (fault_place e) (fault_word e), unread e other h refl)

    -- a token that is refused
    at_token : (at : List Piece) → reading bytes ≡ Err (record { at = at; why = Refused }) → (a : Answer) × IsModuleAnswer words bytes a
    at_token at e = let f = first_refused bytes at e in by_piece f.0 f.1 f.2 f.4
      where
        no_limit : ExceedsNone bytes
        no_limit w u t rest x = other_why w (sym (ap why_of e) ∙ ap why_of (exceeded_told bytes w u t rest x))

        by_name : (u rest : List Piece) (s : Spot) (b : Bool) → is_left_out s.token ≡ b → FirstRefused bytes u (Is s) rest → (a : Answer) × IsModuleAnswer words bytes a
        by_name u rest s true b first = to_unread (faults.LeftOut s.place) (λ z. cc) (u, rest, s, first, refl, b, no_limit)
        by_name u rest s false b first = to_unread (faults.Syntax s.place) (λ z. cc) (u, rest, s, first, refl, b, no_limit)

        by_piece : (u rest : List Piece) (t : Piece) → FirstRefused bytes u t rest → (a : Answer) × IsModuleAnswer words bytes a
        by_piece u rest (Bad x) first = to_unread (faults.Lexical x) (λ z. cc) ((u, rest, first), no_limit)
        by_piece u rest (Is s) first = by_name u rest s (is_left_out s.token) refl first

    at_limit : (at : List Piece) (w : Which) → reading bytes ≡ Err (record { at = at; why = Exceeds w }) → (a : Answer) × IsModuleAnswer words bytes a
    at_limit at w e = let x = exceeded_place bytes at w e in to_unread (faults.Limit x.2.place w) (λ z. cc) (inl (x.0, x.1, x.2, x.4, refl))

    at_module : (m : Module) → ReadsWithinLimits bytes m → (a : Answer) × IsModuleAnswer words bytes a
    at_module m h = by_site (slice_get (all_sites m.funcs) MOST_SITES) refl
      where
        by_site : (o : Option Site) → slice_get (all_sites m.funcs) MOST_SITES ≡ o → (a : Answer) × IsModuleAnswer words bytes a
        by_site (Some s) e = to_unread (faults.Limit s.place limits.Sites) (λ z. cc) (inr (refl, (m, h, s, e, refl)))
        by_site None e =
            let within : ReadsWithin bytes m = (h, few (all_sites m.funcs) MOST_SITES e) in
            let a = to_read m (read_proper bytes m within) in
            (a.0, read m within a.1)
          where
            few : (ss : List Site) (n : ℕ) → slice_get ss n ≡ None → length ss ≤ n
            few [] n z = omega arith
            few (s ∷ ss) zero z = absurd cc
            few (s ∷ ss) (suc n) z = let l = few ss n z in omega (arith, l)

    to_module : (a : Answer) × IsModuleAnswer words bytes a
    to_module = by_reading (reading bytes) refl
      where
        by_reading : (o : Outcome Module) → reading bytes ≡ o → (a : Answer) × IsModuleAnswer words bytes a
        by_reading (Ok r) e = at_module r.0 (read_to_end bytes r.0 r.1 e)
        by_reading (Err d) e = by_why d.why d.at e
          where
            by_why : (why : Why) (at : List Piece) → reading bytes ≡ Err (record { at = at; why = why }) → (a : Answer) × IsModuleAnswer words bytes a
            by_why Refused at z = at_token at z
            by_why (Exceeds w) at z = at_limit at w z

  to_bytes : (bytes : List ℕ) (long : Bool) → (a : Answer) × MatchBool long (a ≡ refusal TOO_LONG (codes "too long " ++ words.«module» ++ codes "\n")) (IsModuleAnswer words bytes a)
  to_bytes bytes true = (refusal TOO_LONG (codes "too long " ++ words.«module» ++ codes "\n"), refl)
  to_bytes bytes false = to_module bytes

  to_file : (file : Option (List ℕ)) → (a : Answer) × IsFileAnswer words file a
  to_file None = (refusal ABSENT (codes "absent " ++ words.«module» ++ codes "\n"), refl)
  to_file (Some bytes) = to_bytes bytes (nat_lt module_limit (length bytes))

to_command : (command : Option Words) (files : Files) → (a : Answer) × IsCommandAnswer command files a
to_command None files = (refusal NO_COMMAND (codes "words\n"), refl)
to_command (Some words) files = to_file words (finite.get files words.«module»)

pub an_answer_to : (words : List (List ℕ)) (files : Files) → (a : Answer) × IsAnswer words files a
an_answer_to words files = to_command (command_of words) files

-- ---- there is one at most

same_on_valid : (words : Words) (m : Module) (a b : Answer) → IsValidAnswer words m a → IsValidAnswer words m b → a ≡ b
same_on_valid words m a b (not_built p first e) (not_built q next f) = e ∙ ap not_yet (one_first (λ r. Contains (unbuilt m) r) p q first next) ∙ sym f
same_on_valid words m a b (not_built p first e) (accepted all f) = absurd (first_of_some (unbuilt m) p first all)
same_on_valid words m a b (accepted all e) (not_built q next f) = absurd (first_of_some (unbuilt m) q next all)
same_on_valid words m a b (accepted all e) (accepted also f) = e ∙ sym f

same_on_read : (words : Words) (m : Module) (a b : Answer) → IsReadAnswer words m a → IsReadAnswer words m b → a ≡ b
same_on_read words m a b (broken rule p h e) (broken other q g f) =
    let one = one_first_broken m rule other p q h g in
    e ∙ ap₂ (λ (r : Place) (n : ℕ). refused r (rule_word n)) one.1 one.0 ∙ sym f
same_on_read words m a b (broken rule p h e) (valid v f) = absurd (broken_not_valid m rule p h v)
same_on_read words m a b (valid v e) (broken rule p h f) = absurd (broken_not_valid m rule p h v)
same_on_read words m a b (valid v e) (valid u f) = same_on_valid words m a b e f

same_on_module : (words : Words) (bytes : List ℕ) (a b : Answer) → IsModuleAnswer words bytes a → IsModuleAnswer words bytes b → a ≡ b
same_on_module words bytes a b (unread d other h e) (unread g also k f) =
    e ∙ ap (λ (s : Place × List ℕ). refused s.0 s.1) (refusal_said bytes d other h ∙ sym (refusal_said bytes g also k)) ∙ sym f
same_on_module words bytes a b (unread d other h e) (read m k f) = absurd (refusal_none bytes d other h m k)
same_on_module words bytes a b (read m k e) (unread d other h f) = absurd (refusal_none bytes d other h m k)
same_on_module words bytes a b (read m h e) (read n k f) = same_on_read words m a b e (subst (λ (x : Module). IsReadAnswer words x b) (one_within bytes n m k h) f)

same_on_length : (words : Words) (bytes : List ℕ) (long : Bool) (t : Answer) (a b : Answer) → MatchBool long (a ≡ t) (IsModuleAnswer words bytes a) → MatchBool long (b ≡ t) (IsModuleAnswer words bytes b) → a ≡ b
same_on_length words bytes true t a b e f = e ∙ sym f
same_on_length words bytes false t a b e f = same_on_module words bytes a b e f

same_on_file : (words : Words) (file : Option (List ℕ)) (a b : Answer) → IsFileAnswer words file a → IsFileAnswer words file b → a ≡ b
same_on_file words None a b e f = e ∙ sym f
same_on_file words (Some bytes) a b e f = same_on_length words bytes (nat_lt module_limit (length bytes)) (refusal TOO_LONG (codes "too long " ++ words.«module» ++ codes "\n")) a b e f

same_on_command : (command : Option Words) (files : Files) (a b : Answer) → IsCommandAnswer command files a → IsCommandAnswer command files b → a ≡ b
same_on_command None files a b e f = e ∙ sym f
same_on_command (Some words) files a b e f = same_on_file words (finite.get files words.«module») a b e f

pub one_answer_to : (words : List (List ℕ)) (files : Files) (a b : Answer) → IsAnswer words files a → IsAnswer words files b → a ≡ b
one_answer_to words files a b e f = same_on_command (command_of words) files a b e f
