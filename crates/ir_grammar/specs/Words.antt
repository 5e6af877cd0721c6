-- Words that the accepted text leaves out by name, and words that are no attributes.
use Rattle.std.specs.Prelude.{ℕ, Bool, false, not, ◌||◌, ◌&&◌, ◌==◌, List, [], ◌∷◌, ◌++◌, map, codes}
use Rattle.ir_lexer.specs.declared.table.Token.{Token}
use Rattle.ir_lexer.specs.declared.table.Token.TheVariants as tokens
use Rattle.ir_core.specs.declared.opcodes.TheConstants.{BIN_OPS, CAST_OPS}
use Rattle.ir_core.specs.Opcodes.{bin_text, cast_text}
use Rattle.ir_grammar.specs.declared.kinds.Barred.{Barred}
use Rattle.ir_grammar.specs.declared.kinds.Barred.TheVariants as barred
use Rattle.ir_grammar.specs.Sets.{are_digits, is_integer_type, is_debug, among}

-- types
abbrev pub left_out_types : List (List ℕ)
left_out_types = codes "half" ∷ codes "bfloat" ∷ codes "float" ∷ codes "double" ∷ codes "fp128" ∷ codes "x86_fp80" ∷ codes "ppc_fp128" ∷ codes "x86_amx" ∷ codes "token" ∷ codes "metadata" ∷ codes "opaque" ∷ codes "vscale" ∷ codes "..." ∷ []

-- operations and constant expressions
abbrev pub left_out_operations : List (List ℕ)
left_out_operations = codes "fadd" ∷ codes "fsub" ∷ codes "fmul" ∷ codes "fdiv" ∷ codes "frem" ∷ codes "fneg" ∷ codes "fcmp" ∷ codes "fptrunc" ∷ codes "fpext" ∷ codes "fptoui" ∷ codes "fptosi" ∷ codes "uitofp" ∷ codes "sitofp" ∷ codes "ptrtoint" ∷ codes "inttoptr" ∷ codes "bitcast" ∷ codes "addrspacecast" ∷ codes "freeze" ∷ codes "va_arg" ∷ codes "extractvalue" ∷ codes "insertvalue" ∷ codes "extractelement" ∷ codes "insertelement" ∷ codes "shufflevector" ∷ []

-- exceptions and other ways of control
abbrev pub left_out_control : List (List ℕ)
left_out_control = codes "invoke" ∷ codes "callbr" ∷ codes "indirectbr" ∷ codes "resume" ∷ codes "landingpad" ∷ codes "catchswitch" ∷ codes "catchpad" ∷ codes "catchret" ∷ codes "cleanuppad" ∷ codes "cleanupret" ∷ []

-- threads and memory of their own
abbrev pub left_out_shared : List (List ℕ)
left_out_shared = codes "fence" ∷ codes "cmpxchg" ∷ codes "atomicrmw" ∷ codes "atomic" ∷ codes "volatile" ∷ codes "musttail" ∷ codes "asm" ∷ codes "addrspace" ∷ []

-- ways of passing an argument
abbrev pub left_out_passing : List (List ℕ)
left_out_passing = codes "byval" ∷ codes "inalloca" ∷ codes "preallocated" ∷ codes "nest" ∷ codes "swifterror" ∷ []

-- linkages
abbrev pub left_out_linkage : List (List ℕ)
left_out_linkage = codes "external" ∷ codes "available_externally" ∷ codes "linkonce" ∷ codes "linkonce_odr" ∷ codes "weak" ∷ codes "weak_odr" ∷ codes "common" ∷ codes "appending" ∷ codes "extern_weak" ∷ codes "externally_initialized" ∷ codes "thread_local" ∷ []

-- other entities and their parts
abbrev pub left_out_entities : List (List ℕ)
left_out_entities = codes "alias" ∷ codes "ifunc" ∷ codes "comdat" ∷ codes "section" ∷ codes "personality" ∷ codes "gc" ∷ codes "prologue" ∷ codes "prefix" ∷ codes "partition" ∷ codes "module" ∷ codes "uselistorder" ∷ codes "uselistorder_bb" ∷ codes "blockaddress" ∷ codes "inrange" ∷ []

abbrev pub left_out_words : List (List ℕ)
left_out_words = left_out_types ++ (left_out_operations ++ (left_out_control ++ (left_out_shared ++ (left_out_passing ++ (left_out_linkage ++ left_out_entities)))))

-- the types of the profile
abbrev pub type_words : List (List ℕ)
type_words = codes "void" ∷ codes "i1" ∷ codes "i8" ∷ codes "i16" ∷ codes "i32" ∷ codes "ptr" ∷ []

-- is the token one that this profile leaves out by name? So is every integer type but `i1`, `i8`, `i16` and `i32`
abbrev pub is_left_out : Token → Bool
is_left_out (tokens.Word w) = among left_out_words w || (is_integer_type w && not (among type_words w))
is_left_out (tokens.Sign c) = (c == 60) || ((c == 62) || (c == 42))
is_left_out (tokens.Meta name) = is_debug name
is_left_out (tokens.Hash name) = not (are_digits name)
is_left_out t = false

-- words that are never an attribute; nor is a left-out word or a word for an integer type
abbrev pub never : List (List ℕ)
never = codes "void" ∷ codes "ptr" ∷ codes "define" ∷ codes "declare" ∷ codes "attributes" ∷ codes "target" ∷ codes "source_filename" ∷ []

-- words that begin a value
abbrev pub value_words : List (List ℕ)
value_words = codes "true" ∷ codes "false" ∷ codes "null" ∷ codes "undef" ∷ codes "poison" ∷ codes "getelementptr" ∷ []

-- words that begin an instruction or a terminator
abbrev pub code_words : List (List ℕ)
code_words =
    map bin_text BIN_OPS ++ codes "icmp" ∷ codes "select" ∷ [] ++ map cast_text CAST_OPS
    ++ codes "alloca" ∷ codes "load" ∷ codes "store" ∷ codes "getelementptr" ∷ codes "phi" ∷ codes "tail" ∷ codes "notail" ∷ codes "call" ∷ codes "ret" ∷ codes "br" ∷ codes "switch" ∷ codes "unreachable" ∷ []

abbrev pub barred_words : Barred → List (List ℕ)
barred_words barred.Nothing = []
barred_words barred.Values = value_words
barred_words barred.Code = code_words

-- the words that are no attributes in a list
abbrev pub no_attributes : Barred → List (List ℕ)
no_attributes b = barred_words b ++ (never ++ left_out_words)
