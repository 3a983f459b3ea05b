-- What is wrong with bytes that are no module's file: the first fault, in the order in which they stand here,
-- and instruction by instruction.
use Rattle.std.specs.Prelude.{◌≡◌, ◌≢◌, ℕ, ◌+◌, ◌-◌, ◌/◌, ◌%◌, ◌^◌, ◌<◌, ◌≤◌, Bool, true, false, ◌&&◌, nat_le, ◌⊎◌, List, [], ◌∷◌, ◌++◌, length, take, drop, slice_index, Some, None, All, Result, Ok, Err}
use Rattle.std.specs.List.{flat_map, AllByRecursion}
use Rattle.std.specs.Int.{w32, from_le_bytes}
use Rattle.gsl_base.specs.Ranges.{AreWords}
use Rattle.gsl_instr.specs.declared.form.Form.{Form}
use Rattle.gsl_instr.specs.Forms.{form_of, allows_words}
use Rattle.gsl_instr.specs.Fitting.{Fits}
use Rattle.gsl_words.specs.declared.fault.WordFault.{WordFault}
use Rattle.gsl_words.specs.declared.fault.WordFault.TheVariants.{NotWhole, BigEndian, BadMagic, BadHeader, UnknownOpcode, BadCount, BadString, Memory}
use Rattle.gsl_words.specs.declared.module.Instr.{Instr}
use Rattle.gsl_words.specs.declared.module.Module.{Module}
use Rattle.gsl_words.specs.Instructions.{IsInTable, HasFile}
use Rattle.gsl_words.specs.Bytes.{instr_words, bytes_of}
use Rattle.gsl_words.specs.Flat.{starts_from}
use Rattle.gsl_words.specs.Versions.{IsKnown}

-- the words of bytes, the least byte of each first
abbrev pub words_of : List ℕ → List ℕ
words_of [] = []
words_of (a ∷ []) = []
words_of (a ∷ b ∷ []) = []
words_of (a ∷ b ∷ c ∷ []) = []
words_of (a ∷ b ∷ c ∷ d ∷ bytes) = from_le_bytes w32 (a ∷ b ∷ c ∷ d ∷ []) ∷ words_of bytes

-- The bytes are whole words, and have those of a header.
pub record AreWhole (bytes : List ℕ) : Type 0 where
  pub enough : 20 ≤ length bytes
  pub words : length bytes % 4 ≡ 0

-- a word of the file by its place
abbrev pub word_of : List ℕ → ℕ → ℕ
word_of bytes k = slice_index (words_of bytes) k

-- the first word of a file, and what it is where the most significant bytes come first
abbrev pub magic : ℕ
magic = 0x07230203

abbrev pub magic_turned : ℕ
magic_turned = 0x03022307

-- The words behind the first are those of a header.
pub record HasHeader (bytes : List ℕ) : Type 0 where
  pub version : IsKnown (word_of bytes 1)
  pub generator : word_of bytes 2 ≡ 0
  pub last : word_of bytes 4 ≡ 0

-- the opcode, the count of words and the operand words of the instruction that words begin with
abbrev pub op_of : List ℕ → ℕ
op_of words = slice_index words 0 % 65536

abbrev pub count_of : List ℕ → ℕ
count_of words = slice_index words 0 / 65536

abbrev pub args_of : List ℕ → List ℕ
args_of words = take (count_of words - 1) (drop 1 words)

-- whether a count of words is one of the form's, where so many are left
abbrev pub is_counted : Form → ℕ → ℕ → Bool
is_counted form count left = nat_le 1 count && nat_le count left && allows_words form (count - 1)

-- whether that of the instruction that words begin with is
abbrev pub counted : Form → List ℕ → Bool
counted form words = is_counted form (count_of words) (length words)

-- What is wrong with the instruction that words begin with, at a place of the file.
abbrev pub Breaks : List ℕ → ℕ → WordFault → Type 0
Breaks words place NotWhole = ⊥
Breaks words place BigEndian = ⊥
Breaks words place BadMagic = ⊥
Breaks words place BadHeader = ⊥
Breaks words place (UnknownOpcode at) = (at ≡ place) × (form_of (op_of words) ≡ None)
Breaks words place (BadCount at) = (at ≡ place) × (form : Form) × (form_of (op_of words) ≡ Some form) × (counted form words ≡ false)
Breaks words place (BadString at) = (at ≡ place) × (form : Form) × (form_of (op_of words) ≡ Some form) × (counted form words ≡ true) × (Fits (op_of words) (args_of words) → ⊥)
Breaks words place Memory = Unit {0}

-- The words are instructions of the table up to one that is not.
pub record StopsAt (words : List ℕ) (fault : WordFault) : Type 0 where
  pub code : List Instr
  pub whole : All IsInTable code
  pub rest : List ℕ
  pub words_are : words ≡ flat_map instr_words code ++ rest
  pub some : 0 < length rest
  pub breaks : Breaks rest (5 + length (flat_map instr_words code)) fault

-- The instruction that words begin with is one of the table, of so many words.
pub record IsHead (words : List ℕ) (count : ℕ) : Type 0 where
  pub is : count ≡ count_of words
  pub some : 1 ≤ count
  pub within : count ≤ length words
  pub fits : Fits (op_of words) (args_of words)

-- The words are those of instructions of the table that start at these places.
pub record AreRead (words starts : List ℕ) : Type 0 where
  pub code : List Instr
  pub whole : All IsInTable code
  pub ops : AllByRecursion (λ instr. instr.op < 2 ^ 16) code
  pub words_are : words ≡ flat_map instr_words code
  pub starts_are : starts ≡ starts_from 0 code

-- Memory was wanting, or an instruction is wrong.
abbrev pub Ends : List ℕ → WordFault → Type 0
Ends words fault = (fault ≡ Memory) ⊎ StopsAt words fault

-- The file begins well, and an instruction is wrong.
abbrev pub StopsBehind : List ℕ → WordFault → Type 0
StopsBehind bytes fault = AreWhole bytes × (word_of bytes 0 ≡ magic) × HasHeader bytes × StopsAt (drop 5 (words_of bytes)) fault

-- what is wrong with bytes that are no module's file
abbrev pub HasFault : List ℕ → WordFault → Type 0
HasFault bytes NotWhole = AreWhole bytes → ⊥
HasFault bytes BigEndian = AreWhole bytes × (word_of bytes 0 ≡ magic_turned)
HasFault bytes BadMagic = AreWhole bytes × (word_of bytes 0 ≢ magic_turned) × (word_of bytes 0 ≢ magic)
HasFault bytes BadHeader = AreWhole bytes × (word_of bytes 0 ≡ magic) × (HasHeader bytes → ⊥)
HasFault bytes (UnknownOpcode at) = StopsBehind bytes (UnknownOpcode at)
HasFault bytes (BadCount at) = StopsBehind bytes (BadCount at)
HasFault bytes (BadString at) = StopsBehind bytes (BadString at)
HasFault bytes Memory = Unit {0}

-- The numbers of an instruction are in the ranges of their types.
abbrev pub FitsInstr : Instr → Type 0
FitsInstr instr = (instr.op < 2 ^ 16) × AreWords instr.args

-- the numbers of a module
pub record FitsTypes (m : Module) : Type 0 where
  pub bound : m.bound < 2 ^ 32
  pub instrs : AllByRecursion FitsInstr m.instrs

-- Unless memory was wanting, what was read is this module.
abbrev pub Gives : Result Module WordFault → Module → Type 0
Gives (Ok n) m = n ≡ m
Gives (Err fault) m = fault ≡ Memory

-- What is judged of bytes: they are the file of this module, or have this fault.
abbrev pub Judges : List ℕ → Result Module WordFault → Type 0
Judges bytes (Ok m) = HasFile m × FitsTypes m × (bytes ≡ bytes_of m)
Judges bytes (Err fault) = (fault ≢ Memory) × HasFault bytes fault
