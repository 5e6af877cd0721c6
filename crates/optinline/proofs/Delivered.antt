-- What a build that is done leaves.
use Rattle.std.proofs.Common.{◌≡◌, ◌≢◌, ℕ, ◌+◌, ◌*◌, ◌<◌, ◌≤◌, Bool, true, false, cond, not, ◌&&◌, if◌then◌else◌, List, [], ◌∷◌, ◌++◌, length, length-append, Option, Some, None, All, refl, sym, ap, ◌∙◌, subst, arith}
use Rattle.std.specs.Prelude.{nat_lt, IfSome, MatchBool, codes}
use Rattle.std.specs.Option.{option_and_then}
use Rattle.std.specs.Str.{bytes_eq}
use Rattle.std.specs.FinMap as finite
use Rattle.std.proofs.lemmas.Cmp.{nat_list_cmp_total}
use Rattle.std.proofs.lemmas.Map.Text.{is_eq-slice_cmp}
use Rattle.std.proofs.lemmas.Slice.Eq.{bytes_eq-Decides}
use Rattle.std.proofs.Math.Nat.{le_refl}
use Rattle.oi_world.specs.Desk.{Files}
use Rattle.oi_base.specs.declared.ids.Place.{Place}
use Rattle.ir_core.specs.declared.module.Module.{Module}
use Rattle.ir_core.specs.Proper.{IsProper}
use Rattle.ir_core.specs.Valid.{IsValid}
use Rattle.frame_layout.specs.Frame.{frame}
use Rattle.image_layout.specs.Image.{image}
use Rattle.ir_reader.specs.Refusals.{ReadsWithin}
use Rattle.optinline.specs.declared.status.TheConstants.{DONE, NO_COMMAND, TOO_LONG, ABSENT}
use Rattle.optinline.specs.Reply.{after_writes}
use Rattle.optinline.specs.Words.{Words, files_differ, checked, budget_of, command_of}
use Rattle.optinline.specs.Object.{main_body, main_codes, size, object_file}
use Rattle.optinline.specs.Unbuilt.{unbuilt}
use Rattle.optinline.specs.Answer.{Answer, refusal, refused, rule_word, fault_place, fault_word, built, certificate, module_limit, IsValidAnswer, not_built, accepted, IsReadAnswer, broken, valid, IsModuleAnswer, unread, read, IsFileAnswer, IsCommandAnswer, IsAnswer}
use Rattle.optinline.specs.Delivered.{DoesAs, Delivers}
use Rattle.optinline.proofs.Answered.{refused_status, not_yet_status}
use Rattle.optinline.proofs.Objects.{object_bounds, object_words, object_refines, text_length}
use Rattle.optinline.proofs.Refusals.{read_proper}

-- ---- files

get_file : (files : Files) (name other bytes : List ℕ) (c : Bool) → bytes_eq name other ≡ c → finite.get (finite.insert files other bytes) name ≡ cond c (Some bytes) (finite.get files name)
get_file files name other bytes c e =
    finite.get-insert nat_list_cmp_total files other bytes name ∙ ap (λ (b : Bool). cond b (Some bytes) (finite.get files name)) (is_eq-slice_cmp name other ∙ e)

same_name : (name : List ℕ) → bytes_eq name name ≡ true
same_name name = (bytes_eq-Decides name name).1 refl

-- the names of a command's files differ
last_three : (a b c d e f : Bool) → (not a && (not b && (not c && (not d && (not e && not f))))) ≡ true → (d ≡ false) × (e ≡ false) × (f ≡ false)
last_three true b c d e f h = absurd (cc)
last_three false true c d e f h = absurd (cc)
last_three false false true d e f h = absurd (cc)
last_three false false false true e f h = absurd (cc)
last_three false false false false true f h = absurd (cc)
last_three false false false false false true h = absurd (cc)
last_three false false false false false false h = (refl, refl, refl)

pub record Differ (w : Words) : Type 0 where
  pub object_decisions : bytes_eq w.object w.decisions ≡ false
  pub object_cert : bytes_eq w.object w.cert ≡ false
  pub decisions_cert : bytes_eq w.decisions w.cert ≡ false

differ : (w : Words) → files_differ w ≡ true → Differ w
differ w e =
    let t = last_three (bytes_eq w.«module» w.object) (bytes_eq w.«module» w.decisions) (bytes_eq w.«module» w.cert) (bytes_eq w.object w.decisions) (bytes_eq w.object w.cert) (bytes_eq w.decisions w.cert) e in
    record { object_decisions = t.0; object_cert = t.1; decisions_cert = t.2 }

no_words : (w : Words) → None ≡ Some w → ⊥
no_words w e = cc

checked_differ : (v w : Words) (c : Bool) → files_differ v ≡ c → (if c then Some v else None) ≡ Some w → Differ w
checked_differ v w true e h = subst Differ (same h) (differ v e)
  where
    same : Some v ≡ Some w → v ≡ w
    same h = cc
checked_differ v w false e h = absurd (no_words w h)

budget_differ : (m o d c : List ℕ) (w : Words) (b : Option ℕ) → option_and_then (λ budget. checked (record { «module» = m; object = o; decisions = d; cert = c; budget = budget })) b ≡ Some w → Differ w
budget_differ m o d c w None h = absurd (no_words w h)
budget_differ m o d c w (Some n) h = let v : Words = record { «module» = m; object = o; decisions = d; cert = c; budget = n } in checked_differ v w (files_differ v) refl h

build_differ : (m o d c last : List ℕ) (w : Words) (t : Bool) → (if t then option_and_then (λ budget. checked (record { «module» = m; object = o; decisions = d; cert = c; budget = budget })) (budget_of last) else None) ≡ Some w → Differ w
build_differ m o d c last w true h = budget_differ m o d c w (budget_of last) h
build_differ m o d c last w false h = absurd (no_words w h)

command_differ : (words : List (List ℕ)) (w : Words) → command_of words ≡ Some w → Differ w
command_differ [] w h = absurd (no_words w h)
command_differ (a ∷ []) w h = absurd (no_words w h)
command_differ (a ∷ m ∷ []) w h = absurd (no_words w h)
command_differ (a ∷ m ∷ o ∷ []) w h = absurd (no_words w h)
command_differ (a ∷ m ∷ o ∷ d ∷ []) w h = absurd (no_words w h)
command_differ (a ∷ m ∷ o ∷ d ∷ c ∷ []) w h = absurd (no_words w h)
command_differ (a ∷ m ∷ o ∷ d ∷ c ∷ last ∷ []) w h = build_differ m o d c last w (bytes_eq a (codes "build")) h
command_differ (a ∷ m ∷ o ∷ d ∷ c ∷ last ∷ more ∷ rest) w h = absurd (no_words w h)

-- ---- the object

module _ (m : Module) (proper : IsProper m) (valid : IsValid m) (all : unbuilt m ≡ []) where
  does_as : DoesAs m (frame (main_body m)) (object_file m) (image m (main_codes m))
  does_as = record { file = refl; bounds = object_bounds m proper valid all; words = object_words m proper valid all; refines = object_refines m proper valid all }

  -- ---- the files after a build of this module

  module _ (words : List (List ℕ)) (w : Words) (before : Files) (bytes : List ℕ) (fs' : Option Files) (command : command_of words ≡ Some w) (file : finite.get before w.«module» ≡ Some bytes) (within : ReadsWithin bytes m) where
    written : (a : Answer) → a ≡ built w m → fs' ≡ after_writes a.writes (Some before) → (after : Files) × (fs' ≡ Some after) × Delivers words before after
    unfolding built
    written a is left =
        let d = command_differ words w command in
        let after1 = finite.insert before w.object (object_file m) in
        let after2 = finite.insert after1 w.decisions [] in
        let after3 = finite.insert after2 w.cert (certificate m) in (
          after3,
          left ∙ ap (λ (x : Answer). after_writes x.writes (Some before)) is,
          record {
            build = w;
            bytes = bytes;
            «module» = m;
            object = object_file m;
            image = image m (main_codes m);
            map = [];
            command = command;
            file = file;
            read = within;
            valid = valid;
            object_file = get_file after2 w.object w.cert (certificate m) false d.object_cert ∙ get_file after1 w.object w.decisions [] false d.object_decisions ∙ get_file before w.object w.object (object_file m) true (same_name w.object);
            does = does_as;
            text = text_length m (main_codes m);
            over = refl;
            decisions_file = get_file after2 w.decisions w.cert (certificate m) false d.decisions_cert ∙ get_file after1 w.decisions w.decisions [] true (same_name w.decisions);
            least = λ other h. le_refl (size m);
            certificate_file = get_file after2 w.cert w.cert (certificate m) true (same_name w.cert);
          },
        )

module _ (words : List (List ℕ)) (before : Files) (fs' : Option Files) (a : Answer) (zero : a.status ≡ DONE) (left : fs' ≡ after_writes a.writes (Some before)) where
  abbrev Done : Type 0
  Done = (after : Files) × (fs' ≡ Some after) × Delivers words before after

  other_status : (n : ℕ) (text : List ℕ) → 0 < n → a ≡ refusal n text → ⊥
  other_status n text h e = let s = ap (λ (x : Answer). x.status) e in omega (arith, s, zero)

  module _ (w : Words) (bytes : List ℕ) (command : command_of words ≡ Some w) (file : finite.get before w.«module» ≡ Some bytes) where
    refused_here : (p : Place) (cause : List ℕ) → a ≡ refused p cause → ⊥
    refused_here p cause e = let s = ap (λ (x : Answer). x.status) e ∙ refused_status p cause in omega (arith, s, zero)

    on_valid : (m : Module) → ReadsWithin bytes m → IsValid m → IsValidAnswer w m a → Done
    on_valid m within v (not_built p first e) = absurd (let s = ap (λ (x : Answer). x.status) e ∙ not_yet_status p in omega (arith, s, zero))
    on_valid m within v (accepted all e) = written m (read_proper bytes m within) v all words w before bytes fs' command file within a e left

    on_read : (m : Module) → ReadsWithin bytes m → IsReadAnswer w m a → Done
    on_read m within (broken rule p first e) = absurd (refused_here p (rule_word rule) e)
    on_read m within (valid v answer) = on_valid m within v answer

    on_module : IsModuleAnswer w bytes a → Done
    on_module (unread fault other h e) = absurd (refused_here (fault_place fault) (fault_word fault) e)
    on_module (read m within answer) = on_read m within answer

  on_length : (w : Words) (bytes : List ℕ) (long : Bool) → command_of words ≡ Some w → finite.get before w.«module» ≡ Some bytes → MatchBool long (a ≡ refusal TOO_LONG (codes "too long " ++ w.«module» ++ codes "\n")) (IsModuleAnswer w bytes a) → Done
  on_length w bytes true command file e = absurd (other_status TOO_LONG (codes "too long " ++ w.«module» ++ codes "\n") (omega arith) e)
  on_length w bytes false command file h = on_module w bytes command file h

  on_file : (w : Words) (file : Option (List ℕ)) → command_of words ≡ Some w → finite.get before w.«module» ≡ file → IsFileAnswer w file a → Done
  on_file w None command file e = absurd (other_status ABSENT (codes "absent " ++ w.«module» ++ codes "\n") (omega arith) e)
  on_file w (Some bytes) command file h = on_length w bytes (nat_lt module_limit (length bytes)) command file h

  on_command : (c : Option Words) → command_of words ≡ c → IsCommandAnswer c before a → Done
  on_command None command e = absurd (other_status NO_COMMAND (codes "words\n") (omega arith) e)
  on_command (Some w) command h = on_file w (finite.get before w.«module») command refl h

  pub answer_delivers : IsAnswer words before a → Done
  answer_delivers h = on_command (command_of words) refl h

pub delivered : (fs now fs' : Option Files) (words : List (List ℕ)) (a : Answer) → IfSome fs (λ files. IsAnswer words files a) → now ≡ fs → fs' ≡ after_writes a.writes now → a.status ≡ DONE → IfSome fs (λ files. (after : Files) × (fs' ≡ Some after) × Delivers words files after)
delivered None now fs' words a h same left z = tt
delivered (Some files) now fs' words a h same left z = answer_delivers words files fs' a z (left ∙ ap (after_writes a.writes) same) h
