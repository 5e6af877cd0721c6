-- How a machine with room for so many put bytes stands, and its turns.
use Rattle.std.specs.Prelude.{ℕ, ◌≡◌, ◌+◌, Bool, true, false, not, ◌&&◌, nat_lt, if◌then◌else◌, List, length}
use Rattle.rv_isa.specs.Memory.{Segments}
use Rattle.rv_isa.specs.Isa as isa
use Rattle.rv_isa.specs.Isa.{step, loaded}
use Rattle.rv_machine.specs.Bytes.{held}
use Rattle.rv_machine.specs.Memory.{Contents, bytes_of}
use Rattle.rv_machine.specs.declared.streams.TheConstants.{OUTPUT_ROOM}
use Rattle.rv_machine.specs.declared.stop.Stop.{Stop}
use Rattle.rv_machine.specs.declared.stop.Stop.TheVariants.{Running, Exit, Access, Stack, Illegal, BadCall, OutputFull}

-- ---- turns

-- how many bytes can be put
abbrev pub output_room : ℕ
output_room = OUTPUT_ROOM

-- the machine of the definition, whose output has no bound, whether a put found no room, and how many instructions
-- were carried out
pub record Bounded : Type 0 where
  pub machine : isa.Machine
  pub full : Bool
  pub steps : ℕ

-- at load
abbrev pub started : Segments → List ℕ → Bounded
started s input = record { machine = loaded s input; full = false; steps = 0 }

-- an instruction was carried out where the machine goes on, and where it exits
abbrev pub carried : isa.Stop → ℕ
carried isa.Running = 1
carried (isa.Exit word) = 1
carried (isa.Access address) = 0
carried (isa.Stack address) = 0
carried (isa.Illegal word) = 0
carried (isa.BadCall number) = 0

-- the machine goes on as the next one; where that has put more than there is room for, it is full, and stays as it was
abbrev pub advanced : Bounded → isa.Machine → Bounded
advanced b next =
    if nat_lt output_room (length next.output) then record b { full = true }
    else record { machine = next; full = false; steps = b.steps + carried next.stop }

abbrev pub runs : isa.Stop → Bool
runs isa.Running = true
runs (isa.Exit word) = false
runs (isa.Access address) = false
runs (isa.Stack address) = false
runs (isa.Illegal word) = false
runs (isa.BadCall number) = false

-- one turn of the definition's machine; one that stopped stays as it is
unfoldable pub turned : Segments → Bounded → Bounded
turned s b = if not b.full && runs b.machine.stop then advanced b (step s b.machine) else b

-- ---- states

-- what a machine holds, in arrays
pub record State : Type 0 where
  pub contents : Contents
  pub registers : List ℕ
  pub pc : ℕ
  pub input : List ℕ
  pub output : List ℕ
  pub stop : Stop
  pub steps : ℕ

-- the definition's stop of an answer: a machine that found no room for a put goes on without end there
abbrev pub stop_of : Stop → isa.Stop
stop_of Running = isa.Running
stop_of (Exit word) = isa.Exit word
stop_of (Access address) = isa.Access address
stop_of (Stack address) = isa.Stack address
stop_of (Illegal word) = isa.Illegal word
stop_of (BadCall number) = isa.BadCall number
stop_of OutputFull = isa.Running

abbrev pub is_full : Stop → Bool
is_full OutputFull = true
is_full stop = false

-- a stop at an instruction that was not carried out
abbrev pub IsFault : Stop → Type 0
IsFault stop = (is_full stop ≡ false) × (carried (stop_of stop) ≡ 0)

-- the machine of the definition that a state stands for
abbrev pub machine_of : State → isa.Machine
machine_of st = record {
  pc = st.pc;
  registers = held st.registers;
  memory = bytes_of st.contents;
  input = st.input;
  output = st.output;
  stop = stop_of st.stop;
}

abbrev pub bounded : State → Bounded
bounded st = record { machine = machine_of st; full = is_full st.stop; steps = st.steps }

-- the answer of a machine that stands so
abbrev pub told_of : isa.Stop → Stop
told_of isa.Running = Running
told_of (isa.Exit word) = Exit word
told_of (isa.Access address) = Access address
told_of (isa.Stack address) = Stack address
told_of (isa.Illegal word) = Illegal word
told_of (isa.BadCall number) = BadCall number

abbrev pub told : Bounded → Stop
told b = if b.full then OutputFull else told_of b.machine.stop

-- a state of the machine that was loaded with these segments stands as the bounded machine does
pub record Stands (s : Segments) (st : State) (b : Bounded) : Type 0 where
  pub text_size : length st.contents.text ≡ length s.text
  pub data_size : length st.contents.data_bytes ≡ length s.data_bytes
  pub state : bounded st ≡ b
