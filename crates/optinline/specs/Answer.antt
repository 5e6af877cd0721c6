-- What a run answers, from its words and the files of its desk.
use Rattle.std.specs.Prelude.{◌≡◌, ◌≢◌, ℕ, ◌<◌, ◌≤◌, ◌⊎◌, List, [], ◌∷◌, ◌++◌, length, take, decimal, nat_lt, MatchBool, Option, Some, None, Result, Ok, Err, codes, is_some, Contains}
use Rattle.std.specs.FinMap as finite
use Rattle.std.specs.String.{string_bytes}
use Rattle.oi_world.specs.Desk.{Files}
use Rattle.oi_world.specs.declared.desk.DeskFault.{DeskFault}
use Rattle.oi_world.specs.declared.desk.DeskFault.TheVariants.{Failed, Absent, NoMemory}
use Rattle.oi_base.specs.declared.ids.Place.{Place}
use Rattle.ir_lexer.specs.declared.fault.LexFault.{LexFault}
use Rattle.ir_lexer.specs.declared.fault.LexFault.TheVariants as lexical
use Rattle.ir_core.specs.declared.module.Module.{Module}
use Rattle.ir_core.specs.Valid.{IsValid}
use Rattle.ir_core.specs.FirstBroken.{IsFirstBroken, IsFirstPlace}
use Rattle.ir_grammar.specs.declared.which.Which.{Which}
use Rattle.ir_grammar.specs.declared.which.Which.TheVariants as limits
use Rattle.ir_grammar.specs.Pieces.{lexical_place}
use Rattle.ir_phrases.specs.declared.fault.ReadFault.{ReadFault}
use Rattle.ir_phrases.specs.declared.fault.ReadFault.TheVariants as faults
use Rattle.ir_reader.specs.Refusals.{ReadsWithin, IsRefusal}
use Rattle.optinline.specs.declared.reply.Reply.{Reply}
use Rattle.optinline.specs.declared.answer.TheConstants.{MODULE_LIMIT}
use Rattle.optinline.specs.declared.status.TheConstants.{DONE, NO_COMMAND, REFUSED, TOO_LONG, NOT_BUILT, ABSENT}
use Rattle.optinline.specs.Object.{size, body_size, object_file}
use Rattle.optinline.specs.Reply.{writes_of, after_writes, with_said, CutShort}
use Rattle.optinline.specs.Words.{Words, command_of}
use Rattle.optinline.specs.Unbuilt.{unbuilt}

-- ---- answers

-- the status, the files that are written, in order, and the text that is said
pub record Answer : Type 0 where
  pub status : ℕ
  pub writes : List (List ℕ × List ℕ)
  pub said : List ℕ

abbrev pub answer_of : Reply → Answer
answer_of r = record { status = r.status; writes = writes_of r.writes.items; said = string_bytes r.said }

-- an answer that writes nothing
abbrev pub refusal : ℕ → List ℕ → Answer
refusal status text = record { status = status; writes = []; said = text }

-- how many bytes a module has at most
abbrev pub module_limit : ℕ
module_limit = MODULE_LIMIT

-- the line of a build without candidate sites: the bytes of the text, and one node of the search
abbrev pub summary : ℕ → List ℕ
summary text = codes "text " ++ decimal text ++ codes " candidates 0 inlined 0 nodes 1\n"

unfoldable pub heading : ℕ → List ℕ
heading text = codes "certificate 1\ntext " ++ decimal text ++ codes "\n"

unfoldable pub leaf : ℕ → List ℕ
leaf part = codes "tree\nL " ++ decimal part ++ codes "\n"

-- The certificate of a module without candidate sites: the bytes of its text, no decisions, and a tree of one leaf,
-- which states the bytes of the functions' codes.
abbrev pub certificate : Module → List ℕ
certificate m = heading (size m) ++ leaf (body_size m)

-- the answer to a build of a module of which all is built: there are no candidate sites, so there are no decisions
unfoldable pub built : Words → Module → Answer
built words m = record {
  status = DONE;
  writes = (words.object, object_file m) ∷ (words.decisions, []) ∷ (words.cert, certificate m) ∷ [];
  said = summary (size m);
}

-- ---- refusals of a module

-- a text with LINE:COLUMN after it
abbrev pub with_place : List ℕ → Place → List ℕ
with_place text p = text ++ decimal p.line ++ codes ":" ++ decimal p.column

abbrev pub limit_word : Which → List ℕ
limit_word limits.Functions = codes "functions"
limit_word limits.Sites = codes "sites"
limit_word limits.Params = codes "params"
limit_word limits.Nesting = codes "nesting"
limit_word limits.Length = codes "length"

abbrev pub lexical_word : LexFault → List ℕ
lexical_word (lexical.BadByte p b) = codes "byte"
lexical_word (lexical.OpenString p) = codes "string"
lexical_word (lexical.LongNumber p) = codes "number"
lexical_word lexical.NoMemory = codes "memory"

-- why a text is not read, and the place
abbrev pub fault_word : ReadFault → List ℕ
fault_word (faults.Lexical e) = lexical_word e
fault_word (faults.Syntax p) = codes "syntax"
fault_word (faults.LeftOut p) = codes "left out"
fault_word (faults.Limit p w) = codes "limit " ++ limit_word w
fault_word faults.NoMemory = codes "memory"

abbrev pub fault_place : ReadFault → Place
fault_place (faults.Lexical e) = lexical_place e
fault_place (faults.Syntax p) = p
fault_place (faults.LeftOut p) = p
fault_place (faults.Limit p w) = p
fault_place faults.NoMemory = record { line = 0; column = 0 }

-- a module with a fault at a place
unfoldable pub refused : Place → List ℕ → Answer
refused p cause = refusal REFUSED (with_place (codes "module ") p ++ codes " " ++ cause ++ codes "\n")

abbrev pub rule_word : ℕ → List ℕ
rule_word number = codes "rule " ++ decimal number

-- a module of which something isn't built yet
unfoldable pub not_yet : Place → Answer
not_yet p = refusal NOT_BUILT (with_place (codes "not built ") p ++ codes "\n")

-- ---- which answer a run has

-- the answer to a build of a valid module
pub data IsValidAnswer (words : Words) (m : Module) (a : Answer) : Type 0 where
  not_built : (p : Place) → IsFirstPlace (λ q. Contains (unbuilt m) q) p → a ≡ not_yet p → IsValidAnswer words m a
  accepted : unbuilt m ≡ [] → a ≡ built words m → IsValidAnswer words m a

-- to that of a module that was read
pub data IsReadAnswer (words : Words) (m : Module) (a : Answer) : Type 0 where
  broken : (rule : ℕ) (p : Place) → IsFirstBroken m rule p → a ≡ refused p (rule_word rule) → IsReadAnswer words m a
  valid : IsValid m → IsValidAnswer words m a → IsReadAnswer words m a

-- and where the file of the module has these bytes
pub data IsModuleAnswer (words : Words) (bytes : List ℕ) (a : Answer) : Type 0 where
  unread : (e : ReadFault) → e ≢ faults.NoMemory → IsRefusal bytes e → a ≡ refused (fault_place e) (fault_word e) → IsModuleAnswer words bytes a
  read : (m : Module) → ReadsWithin bytes m → IsReadAnswer words m a → IsModuleAnswer words bytes a

-- the answer where the file of the module has these bytes, or isn't there
abbrev pub IsFileAnswer : Words → Option (List ℕ) → Answer → Type 0
IsFileAnswer words None a = a ≡ refusal ABSENT (codes "absent " ++ words.«module» ++ codes "\n")
IsFileAnswer words (Some bytes) a =
    MatchBool (nat_lt module_limit (length bytes)) (a ≡ refusal TOO_LONG (codes "too long " ++ words.«module» ++ codes "\n")) (IsModuleAnswer words bytes a)

abbrev pub IsCommandAnswer : Option Words → Files → Answer → Type 0
IsCommandAnswer None files a = a ≡ refusal NO_COMMAND (codes "words\n")
IsCommandAnswer (Some words) files a = IsFileAnswer words (finite.get files words.«module») a

-- the answer to these words on a desk with these files
abbrev pub IsAnswer : List (List ℕ) → Files → Answer → Type 0
IsAnswer words files a = IsCommandAnswer (command_of words) files a

-- ---- causes

-- the words are a build, and the module isn't there
pub record IsAbsent (words : List (List ℕ)) (files : Files) : Type 0 where
  pub build : Words
  pub command : command_of words ≡ Some build
  pub file : finite.get files build.«module» ≡ None

-- the words are a build of a module of more bytes than the limit
pub record IsTooLong (words : List (List ℕ)) (files : Files) : Type 0 where
  pub build : Words
  pub bytes : List ℕ
  pub command : command_of words ≡ Some build
  pub file : finite.get files build.«module» ≡ Some bytes
  pub long : module_limit < length bytes

-- the words are a build of a file within the limit that is the text of no valid module
pub record IsRefused (words : List (List ℕ)) (files : Files) : Type 0 where
  pub build : Words
  pub bytes : List ℕ
  pub command : command_of words ≡ Some build
  pub file : finite.get files build.«module» ≡ Some bytes
  pub short : length bytes ≤ module_limit
  pub none : (m : Module) → ReadsWithin bytes m → IsValid m → ⊥

-- the words are a build of a file within the limit that is the text of this valid module
pub record IsBuildOf (words : List (List ℕ)) (files : Files) (m : Module) : Type 0 where
  pub build : Words
  pub bytes : List ℕ
  pub command : command_of words ≡ Some build
  pub file : finite.get files build.«module» ≡ Some bytes
  pub short : length bytes ≤ module_limit
  pub read : ReadsWithin bytes m
  pub valid : IsValid m

-- of a module of which something isn't built yet
abbrev pub IsNotBuilt : List (List ℕ) → Files → Type 0
IsNotBuilt words files = (m : Module) × IsBuildOf words files m × (unbuilt m ≢ [])

-- and of one of which all is built
abbrev pub IsAccepted : List (List ℕ) → Files → Type 0
IsAccepted words files = (m : Module) × IsBuildOf words files m × (unbuilt m ≡ [])

abbrev pub Iff : Type 0 → Type 0 → Type 0
Iff p q = (p → q) × (q → p)

-- each status has its cause
pub record HasCauses (words : List (List ℕ)) (files : Files) (status : ℕ) : Type 0 where
  pub no_command : Iff (status ≡ NO_COMMAND) (command_of words ≡ None)
  pub absent : Iff (status ≡ ABSENT) (IsAbsent words files)
  pub too_long : Iff (status ≡ TOO_LONG) (IsTooLong words files)
  pub refused : Iff (status ≡ REFUSED) (IsRefused words files)
  pub not_built : Iff (status ≡ NOT_BUILT) (IsNotBuilt words files)
  pub accepted : Iff (status ≡ DONE) (IsAccepted words files)

-- the statuses of an answer to a build, and of an answer
abbrev pub IsBuildStatus : ℕ → Type 0
IsBuildStatus n = (n ≡ DONE) ⊎ ((n ≡ REFUSED) ⊎ ((n ≡ TOO_LONG) ⊎ ((n ≡ NOT_BUILT) ⊎ (n ≡ ABSENT))))

abbrev pub IsStatus : ℕ → Type 0
IsStatus n = (n ≡ NO_COMMAND) ⊎ IsBuildStatus n

-- ---- what a run leaves

-- this status, with the whole answer
abbrev pub Answered : Answer → ℕ → Option Files → Option Files → Option (List ℕ) → Option (List ℕ) → Type 0
Answered a status files files' said said' = (status ≡ a.status) × (files' ≡ after_writes a.writes files) × (said' ≡ with_said a.said said)

-- A failure of the desk ended the run: between two writes, in one, or in saying. What a failed write's name holds is
-- not known, nor what was said after a failure to say.
pub data Interrupted (a : Answer) (files files' : Option Files) (said said' : Option (List ℕ)) : Type 0 where
  between : (at : ℕ) → at ≤ length a.writes → files' ≡ after_writes (take at a.writes) files → said' ≡ said → Interrupted a files files' said said'
  writing : CutShort a.writes files files' Failed → said' ≡ said → Interrupted a files files' said said'
  saying : files' ≡ after_writes a.writes files → is_some said' ≡ is_some said → Interrupted a files files' said said'

-- Want of memory ended the run: a prefix of the answer's writes was made, and nothing was said.
abbrev pub EndedEarly : Answer → Option Files → Option Files → Option (List ℕ) → Option (List ℕ) → Type 0
EndedEarly a files files' said said' = (at : ℕ) × (at ≤ length a.writes) × (files' ≡ after_writes (take at a.writes) files) × (said' ≡ said)

-- what carrying an answer out leaves
abbrev pub Leaves : {T : Type 0} → Answer → Option Files → Option Files → Option (List ℕ) → Option (List ℕ) → Result T DeskFault → Type 0
Leaves a files files' said said' (Ok x) = (files' ≡ after_writes a.writes files) × (said' ≡ with_said a.said said)
Leaves a files files' said said' (Err Failed) = Interrupted a files files' said said'
Leaves a files files' said said' (Err Absent) = ⊥
Leaves a files files' said said' (Err NoMemory) = EndedEarly a files files' said said'

-- nothing was written and nothing said
abbrev pub IsUntouched : Option Files → Option Files → Option (List ℕ) → Option (List ℕ) → Type 0
IsUntouched files files' said said' = (files' ≡ files) × (said' ≡ said)

-- what a run leaves: its answer; or, where it ended early, nothing or what was carried out of its answer
abbrev pub Runs : List (List ℕ) → Files → Option Files → Option Files → Option (List ℕ) → Option (List ℕ) → Result ℕ DeskFault → Type 0
Runs words on files files' said said' (Ok status) = (a : Answer) × IsAnswer words on a × Answered a status files files' said said'
Runs words on files files' said said' (Err Failed) = IsUntouched files files' said said' ⊎ ((a : Answer) × IsAnswer words on a × Interrupted a files files' said said')
Runs words on files files' said said' (Err Absent) = ⊥
Runs words on files files' said said' (Err NoMemory) = IsUntouched files files' said said' ⊎ ((a : Answer) × IsAnswer words on a × EndedEarly a files files' said said')
