-- What a desk in memory is.
use Rattle.std.specs.Prelude.{◌≡◌, ℕ, ◌+◌, min, List, map, Bool, if◌then◌else◌, Result, Ok, Err, String, refl}
use Rattle.std.specs.FinMap as finite
use Rattle.std.specs.Coded.{Coded, code_by, coded×, coded_ℕ, coded_list}
use Rattle.std.specs.Global.{Vec, Global}
use Rattle.std.specs.BTreeMap.{BTreeMap}
use Rattle.std.specs.String.{string_bytes}
use Rattle.oi_world.specs.Desk.{Files}
use Rattle.oi_world.specs.declared.desk.DeskFault.{DeskFault}
use Rattle.oi_world.specs.declared.desk.DeskFault.TheVariants.{Failed, Absent, NoMemory}

-- the files of a map from names
abbrev pub files_of : BTreeMap (String Global) (Vec ℕ) → Files
files_of m = finite.from_entries (map (λ e. (string_bytes e.0, e.1.items)) m.entries)

-- a desk in memory: its files, what was said, which of its calls are to fail, how many calls there were, and how many failed
pub record Memory : Type 0 where
  pub files : Files
  pub said : List ℕ
  pub fails : List ℕ
  pub calls : ℕ
  pub faults : ℕ

-- a desk is stored as the pairs of its fields
abbrev pub coded_memory : Coded Memory
coded_memory = code_by (Files × (List ℕ × (List ℕ × (ℕ × ℕ)))) (coded× (finite.code (coded_list coded_ℕ) (coded_list coded_ℕ)) (coded× (coded_list coded_ℕ) (coded× (coded_list coded_ℕ) (coded× coded_ℕ coded_ℕ)))) (λ m. (m.files, (m.said, (m.fails, (m.calls, m.faults))))) (λ p. record { files = p.0; said = p.1.0; fails = p.1.1.0; calls = p.1.1.1.0; faults = p.1.1.1.1 }) (λ _. refl)

-- the number of the call that begins now
abbrev pub next_call : Memory → ℕ
next_call m = min (m.calls + 1) 18446744073709551615

-- the desk after a call has begun
abbrev pub begun : Memory → Bool → Memory
begun m fails = record m { calls = next_call m; faults = if fails then m.faults + 1 else m.faults }

-- the faults after a call with this result: one more exactly where it failed
abbrev pub faults_after : {T : Type 0} → ℕ → Result T DeskFault → ℕ
faults_after before (Ok x) = before
faults_after before (Err Failed) = before + 1
faults_after before (Err Absent) = before
faults_after before (Err NoMemory) = before

-- what a call does to the desk's own account: it is counted, and the list of the calls that are to fail stays
pub record KeepsCount {T : Type 0} (old new : Memory) (result : Result T DeskFault) : Type 0 where
  pub calls : new.calls ≡ next_call old
  pub fails : new.fails ≡ old.fails
  pub faults : new.faults ≡ faults_after old.faults result
