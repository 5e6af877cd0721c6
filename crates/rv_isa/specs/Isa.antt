-- The machine: one hart of RV32IM with a fixed map of its memory and three calls of its environment (RISC-V
-- Unprivileged ISA, "RV32I Base Integer Instruction Set" and "M Standard Extension for Integer Multiplication and
-- Division").
use Rattle.std.specs.Prelude.{ℕ, ◌+◌, ◌-◌, ◌*◌, ◌/◌, ◌%◌, ◌^◌, Bool, not, ◌&&◌, nat_eq, nat_lt, if◌then◌else◌, List, [], ◌∷◌, ◌++◌, Option, Some, None, ℤ, pos, ◌*ℤ◌, int_lt, bit_and, bit_or, bit_xor}
use Rattle.std.specs.Fn.{iterate}
use Rattle.rv_isa.specs.declared.encoding.TheConstants.{EBREAK_WORD}
use Rattle.rv_isa.specs.declared.rv.Rv.{Rv}
use Rattle.rv_isa.specs.declared.rv.Rv.TheVariants.{Lui, Auipc, Jal, Jalr, Beq, Bne, Blt, Bge, Bltu, Bgeu, Lb, Lh, Lw, Lbu, Lhu, Sb, Sh, Sw, Addi, Slti, Sltiu, Xori, Ori, Andi, Slli, Srli, Srai, Add, Sub, Sll, Slt, Sltu, Xor, Srl, Sra, Or, And, Mul, Mulh, Mulhsu, Mulhu, Div, Divu, Rem, Remu, Fence, Ecall, Ebreak}
use Rattle.rv_isa.specs.Arithmetic.{signed, to_word, wrapping_add, wrapping_sub, is_less, is_less_unsigned, shift_left, shift_right, shift_right_arithmetic, upper_half, quotient, quotient_unsigned, remainder, remainder_unsigned, sign_extended}
use Rattle.rv_isa.specs.Decode.{decode_of}
use Rattle.rv_isa.specs.Memory.{Segments, Permission, Executable, Readable, Writable, read, write, touches_guard, is_permitted, is_aligned, bytes_at_load, text_start, stack_end}

-- how a machine stands: it runs, it exited with a word, or it stopped at an access that isn't permitted or aligned, at
-- one to the guard below its stack, at a word that it can't execute, or at a call that its environment doesn't have
pub data Stop : Type 0 where
  Running : Stop
  Exit : (word : ℕ) → Stop
  Access : (address : ℕ) → Stop
  Stack : (address : ℕ) → Stop
  Illegal : (word : ℕ) → Stop
  BadCall : (number : ℕ) → Stop

pub record Machine : Type 0 where
  pub pc : ℕ
  pub registers : ℕ → ℕ
  pub memory : ℕ → ℕ
  pub input : List ℕ
  pub output : List ℕ
  pub stop : Stop

-- what a register reads: x0 is zero, whatever was written to it
abbrev pub x : (ℕ → ℕ) → ℕ → ℕ
x registers r = if nat_eq r 0 then 0 else registers r

abbrev pub with_register : (ℕ → ℕ) → ℕ → ℕ → ℕ → ℕ
with_register registers rd v q = if nat_eq q rd then v else registers q

-- ---- what an instruction does

pub data Effect : Type 0 where
  -- a register is written
  Sets : (rd value : ℕ) → Effect
  -- the next instruction's address is written to a register, and the machine goes on at the target
  Jumps : (rd target : ℕ) → Effect
  -- the machine goes on at the target, if the test is true
  Branches : (test : Bool) (target : ℕ) → Effect
  -- the number of so many bytes is loaded into a register, extended to a word
  Loads : (rd address size : ℕ) (extended : ℕ → ℕ) → Effect
  -- the low bytes of a word are stored
  Stores : (address size value : ℕ) → Effect
  -- nothing but the next instruction
  Continues : Effect
  -- the environment is called
  Calls : Effect
  -- the machine stops
  Breaks : Effect

-- the sum of a register or the pc and an immediate
abbrev pub offset : ℕ → ℤ → ℕ
offset a imm = wrapping_add a (to_word imm)

-- the rows of the manual, where the registers read r
abbrev pub effect : ℕ → (ℕ → ℕ) → Rv → Effect
effect pc r (Lui rd imm) = Sets rd (to_word (imm *ℤ pos (2 ^ 12)))
effect pc r (Auipc rd imm) = Sets rd (offset pc (imm *ℤ pos (2 ^ 12)))
effect pc r (Jal rd distance) = Jumps rd (offset pc distance)
effect pc r (Jalr rd rs1 imm) = Jumps rd (offset (r rs1) imm / 2 * 2)
effect pc r (Beq rs1 rs2 distance) = Branches (nat_eq (r rs1) (r rs2)) (offset pc distance)
effect pc r (Bne rs1 rs2 distance) = Branches (not (nat_eq (r rs1) (r rs2))) (offset pc distance)
effect pc r (Blt rs1 rs2 distance) = Branches (int_lt (signed (r rs1)) (signed (r rs2))) (offset pc distance)
effect pc r (Bge rs1 rs2 distance) = Branches (not (int_lt (signed (r rs1)) (signed (r rs2)))) (offset pc distance)
effect pc r (Bltu rs1 rs2 distance) = Branches (nat_lt (r rs1) (r rs2)) (offset pc distance)
effect pc r (Bgeu rs1 rs2 distance) = Branches (not (nat_lt (r rs1) (r rs2))) (offset pc distance)
effect pc r (Lb rd rs1 imm) = Loads rd (offset (r rs1) imm) 1 (sign_extended (2 ^ 8))
effect pc r (Lh rd rs1 imm) = Loads rd (offset (r rs1) imm) 2 (sign_extended (2 ^ 16))
effect pc r (Lw rd rs1 imm) = Loads rd (offset (r rs1) imm) 4 (λ a. a)
effect pc r (Lbu rd rs1 imm) = Loads rd (offset (r rs1) imm) 1 (λ a. a)
effect pc r (Lhu rd rs1 imm) = Loads rd (offset (r rs1) imm) 2 (λ a. a)
effect pc r (Sb rs1 rs2 imm) = Stores (offset (r rs1) imm) 1 (r rs2)
effect pc r (Sh rs1 rs2 imm) = Stores (offset (r rs1) imm) 2 (r rs2)
effect pc r (Sw rs1 rs2 imm) = Stores (offset (r rs1) imm) 4 (r rs2)
effect pc r (Addi rd rs1 imm) = Sets rd (wrapping_add (r rs1) (to_word imm))
effect pc r (Slti rd rs1 imm) = Sets rd (is_less (r rs1) (to_word imm))
effect pc r (Sltiu rd rs1 imm) = Sets rd (is_less_unsigned (r rs1) (to_word imm))
effect pc r (Xori rd rs1 imm) = Sets rd (bit_xor (r rs1) (to_word imm))
effect pc r (Ori rd rs1 imm) = Sets rd (bit_or (r rs1) (to_word imm))
effect pc r (Andi rd rs1 imm) = Sets rd (bit_and (r rs1) (to_word imm))
effect pc r (Slli rd rs1 amount) = Sets rd (shift_left (r rs1) (to_word amount))
effect pc r (Srli rd rs1 amount) = Sets rd (shift_right (r rs1) (to_word amount))
effect pc r (Srai rd rs1 amount) = Sets rd (shift_right_arithmetic (r rs1) (to_word amount))
effect pc r (Add rd rs1 rs2) = Sets rd (wrapping_add (r rs1) (r rs2))
effect pc r (Sub rd rs1 rs2) = Sets rd (wrapping_sub (r rs1) (r rs2))
effect pc r (Sll rd rs1 rs2) = Sets rd (shift_left (r rs1) (r rs2))
effect pc r (Slt rd rs1 rs2) = Sets rd (is_less (r rs1) (r rs2))
effect pc r (Sltu rd rs1 rs2) = Sets rd (is_less_unsigned (r rs1) (r rs2))
effect pc r (Xor rd rs1 rs2) = Sets rd (bit_xor (r rs1) (r rs2))
effect pc r (Srl rd rs1 rs2) = Sets rd (shift_right (r rs1) (r rs2))
effect pc r (Sra rd rs1 rs2) = Sets rd (shift_right_arithmetic (r rs1) (r rs2))
effect pc r (Or rd rs1 rs2) = Sets rd (bit_or (r rs1) (r rs2))
effect pc r (And rd rs1 rs2) = Sets rd (bit_and (r rs1) (r rs2))
effect pc r (Mul rd rs1 rs2) = Sets rd (r rs1 * r rs2 % 2 ^ 32)
effect pc r (Mulh rd rs1 rs2) = Sets rd (upper_half (signed (r rs1) *ℤ signed (r rs2)))
effect pc r (Mulhsu rd rs1 rs2) = Sets rd (upper_half (signed (r rs1) *ℤ pos (r rs2)))
effect pc r (Mulhu rd rs1 rs2) = Sets rd (r rs1 * r rs2 / 2 ^ 32)
effect pc r (Div rd rs1 rs2) = Sets rd (quotient (r rs1) (r rs2))
effect pc r (Divu rd rs1 rs2) = Sets rd (quotient_unsigned (r rs1) (r rs2))
effect pc r (Rem rd rs1 rs2) = Sets rd (remainder (r rs1) (r rs2))
effect pc r (Remu rd rs1 rs2) = Sets rd (remainder_unsigned (r rs1) (r rs2))
effect pc r (Fence rd rs1 imm) = Continues
effect pc r Ecall = Calls
effect pc r Ebreak = Breaks

-- ---- one step

abbrev pub stopped : Machine → Stop → Machine
stopped m stop = record m { stop = stop }

-- an access to n bytes: the machine goes on, or stops. The guard is tested first, then permission and alignment; the
-- address of a stop is that of the access's first byte
abbrev pub accessed : Segments → Machine → Permission → ℕ → ℕ → Machine → Machine
accessed s m permission a n next =
    if touches_guard a n then stopped m (Stack a)
    else (if is_permitted s permission a n && is_aligned a n then next else stopped m (Access a))

-- a register is written, and the machine goes on with the next instruction, which lies far below the end of addresses
abbrev pub sets : Machine → ℕ → ℕ → Machine
sets m rd v = record m { pc = m.pc + 4; registers = with_register m.registers rd v }

-- the register a0, which has a call's argument and its result, and a7, which has its number
abbrev pub a0 : ℕ
a0 = 10

abbrev pub a7 : ℕ
a7 = 17

-- the next byte of the input, or a word with all bits set at its end
abbrev pub got : Machine → List ℕ → Machine
got m [] = sets m a0 (2 ^ 32 - 1)
got m (b ∷ bs) = sets (record m { input = bs }) a0 b

-- the call 1 puts the low byte of a0, which stays there alone, 2 gets a byte, and 3 exits with a0
abbrev pub called : Machine → ℕ → ℕ → Machine
called m number v =
    if nat_eq number 1 then sets (record m { output = m.output ++ (v % 256) ∷ [] }) a0 (v % 256)
    else (if nat_eq number 2 then got m m.input
    else (if nat_eq number 3 then stopped m (Exit v)
    else stopped m (BadCall number)))

abbrev pub applied : Segments → Machine → Effect → Machine
applied s m (Sets rd v) = sets m rd v
applied s m (Jumps rd target) = record m { pc = target; registers = with_register m.registers rd (m.pc + 4) }
applied s m (Branches test target) = record m { pc = if test then target else m.pc + 4 }
applied s m (Loads rd a n extended) = accessed s m Readable a n (sets m rd (extended (read m.memory n a)))
applied s m (Stores a n v) = accessed s m Writable a n (record m { pc = m.pc + 4; memory = write m.memory n a v })
applied s m Continues = record m { pc = m.pc + 4 }
applied s m Calls = called m (m.registers a7) (m.registers a0)
applied s m Breaks = stopped m (Illegal EBREAK_WORD)

abbrev pub executed : Segments → Machine → Rv → Machine
executed s m i = applied s m (effect m.pc (x m.registers) i)

-- what a fetched word does
abbrev pub decoded : Segments → Machine → ℕ → Option Rv → Machine
decoded s m w None = stopped m (Illegal w)
decoded s m w (Some i) = executed s m i

abbrev pub fetched : Segments → Machine → ℕ → Machine
fetched s m w = accessed s m Executable m.pc 4 (decoded s m w (decode_of w))

-- a machine that stopped stays as it is
abbrev pub stepped : Segments → Machine → Stop → Machine
stepped s m Running = fetched s m (read m.memory 4 m.pc)
stepped s m stop = m

unfoldable pub step : Segments → Machine → Machine
step s m = stepped s m m.stop

-- ---- runs

-- at load the pc is at the text's start, sp at the stack's end, and all else is zero
abbrev pub loaded : Segments → List ℕ → Machine
loaded s input = record {
  pc = text_start;
  registers = λ q. if nat_eq q 2 then stack_end else 0;
  memory = bytes_at_load s;
  input = input;
  output = [];
  stop = Running;
}

-- the machine after n turns
abbrev pub run : Segments → List ℕ → ℕ → Machine
run s input n = iterate (step s) n (loaded s input)
