-- Reading a module line by line.
use Rattle.std.specs.Prelude.{◌≡◌, ℕ, ◌+◌, ◌^◌, Bool, true, false, ◌==◌, ◌&&◌, not, nat_lt, if◌then◌else◌, List, [], ◌∷◌, ◌++◌, length, slice_index, Option, Some, None, Result, Ok, Err, MatchOption, codes}
use Rattle.std.specs.List.{list_any}
use Rattle.std.specs.Option.{option_map}
use Rattle.std.specs.Str.{is_utf8, bytes_eq}
use Rattle.gsl_instr.specs.declared.form.Form.{Form}
use Rattle.gsl_instr.specs.declared.slot.Enumeration.TheVariants.{BuiltIn}
use Rattle.gsl_instr.specs.declared.slot.Slot.{Slot}
use Rattle.gsl_instr.specs.declared.slot.Slot.TheVariants.{Result as ResultSlot, Id, Forward, Number, Named, OfDecoration, Text}
use Rattle.gsl_instr.specs.declared.slot.Rest.{Rest}
use Rattle.gsl_instr.specs.declared.enumerant.decoration.TheConstants as decoration
use Rattle.gsl_instr.specs.Strings.{string_words}
use Rattle.gsl_instr.specs.Forms.{form_of, slots, rest, allows, next_of}
use Rattle.gsl_text.specs.Numbers.{◌>>=◌, unsigned}
use Rattle.gsl_words.specs.declared.target.Target.{Target}
use Rattle.gsl_words.specs.declared.target.Target.TheVariants.{V10, V13}
use Rattle.gsl_words.specs.declared.module.Instr.{Instr}
use Rattle.gsl_words.specs.declared.module.Module.{Module}
use Rattle.gsl_words.specs.Versions.{version_of}
use Rattle.gsl_asm.specs.declared.fault.AsmFault.{AsmFault}
use Rattle.gsl_asm.specs.declared.fault.AsmFault.TheVariants.{Line, Memory}
use Rattle.gsl_asm.specs.declared.place.Place.{Place}
use Rattle.gsl_asm.specs.declared.place.Place.TheVariants.{Nowhere, First, Second}
use Rattle.gsl_asm.specs.declared.word.Word.{Word}
use Rattle.gsl_asm.specs.declared.word.Word.TheVariants.{Plain, Quoted}
use Rattle.gsl_asm.specs.Names.{opcode_of}
use Rattle.gsl_asm.specs.Splitting.{words_of}
use Rattle.gsl_asm.specs.Operands.{id_of, enumerant_of}
use Rattle.gsl_asm.specs.Ordered.{inserted}
use Rattle.gsl_asm.specs.Instructions.{last_of, place_of}

-- one operand word
abbrev pub one : Option ℕ → Option (List ℕ)
one found = option_map (λ n. n ∷ []) found

-- a plain word as an operand, by its kind and the operand word before it
abbrev pub plain_operand : Target → ℕ → Slot → List ℕ → Option (List ℕ)
plain_operand target last ResultSlot word = one (id_of word)
plain_operand target last Id word = one (id_of word)
plain_operand target last Forward word = one (id_of word)
plain_operand target last Number word = one (unsigned word)
plain_operand target last (Named enumeration) word = one (enumerant_of target enumeration word)
plain_operand target last OfDecoration word = if last == decoration.BUILT_IN then one (enumerant_of target BuiltIn word) else one (unsigned word)
plain_operand target last Text word = None

-- the words of a string, if it is text without a zero byte
abbrev pub text_operand : List ℕ → Option (List ℕ)
text_operand bytes = if is_utf8 bytes && not (list_any (λ byte. byte == 0) bytes) then Some (string_words bytes) else None

-- a string as an operand
abbrev pub quoted_operand : Slot → List ℕ → Option (List ℕ)
quoted_operand ResultSlot bytes = None
quoted_operand Id bytes = None
quoted_operand Forward bytes = None
quoted_operand Number bytes = None
quoted_operand (Named enumeration) bytes = None
quoted_operand OfDecoration bytes = None
quoted_operand Text bytes = text_operand bytes

-- the operand words that a word stands for
unfoldable pub operand_of : Target → ℕ → Slot → Word → Option (List ℕ)
operand_of target last slot (Plain word) = plain_operand target last slot word
operand_of target last slot (Quoted bytes) = quoted_operand slot bytes

-- operand words in front of others
abbrev pub before : List ℕ → Option (List ℕ) → Option (List ℕ)
before args found = option_map (λ more. args ++ more) found

-- what the operands that every instruction of a form has leave: their words, the last of these, and the words behind
abbrev pub Fixed : Type 0
Fixed = List ℕ × ℕ × List Word

abbrev pub ahead : List ℕ → Option Fixed → Option Fixed
ahead args found = option_map {U = Fixed} (λ fixed. (args ++ fixed.0, fixed.1, fixed.2)) found

-- the operands that every instruction of a form has
unfoldable pub fixed_of : Target → List Slot → ℕ → List Word → Option Fixed
fixed_of target [] last words = Some ([], last, words)
fixed_of target (slot ∷ slots) last [] = None
fixed_of target (slot ∷ slots) last (word ∷ words) = operand_of target last slot word >>= λ args. ahead args (fixed_of target slots (last_of args) words)

-- what follows them
unfoldable pub more_of : Target → Rest → Bool → ℕ → List Word → Option (List ℕ)
more_of target rest second last [] = Some []
more_of target rest second last (word ∷ words) =
    operand_of target last (next_of rest second) word >>= λ args. before args (more_of target rest (not second) (last_of args) words)

-- operands behind others, if so many may follow
abbrev pub counted : Rest → List ℕ → List ℕ → Option (List ℕ)
counted rest args more = if allows rest (length more) then Some (args ++ more) else None

-- what follows these
abbrev pub behind_fixed : Target → Rest → Fixed → Option (List ℕ)
behind_fixed target rest fixed = more_of target rest false fixed.1 fixed.2 >>= counted rest fixed.0

-- the operands of an instruction of a form
unfoldable pub args_of : Target → Form → List Word → Option (List ℕ)
args_of target form words = fixed_of target (slots form) 0 words >>= behind_fixed target (rest form)

-- the operands with the result among them, if it stands where its form has it
abbrev pub placed : Place → Option (List ℕ) → List Word → Option (List Word)
placed Nowhere None operands = Some operands
placed Nowhere (Some result) operands = None
placed First None operands = None
placed First (Some result) operands = Some (inserted First result operands)
placed Second None operands = None
placed Second (Some result) operands = Some (inserted Second result operands)

-- an instruction, if it is short enough
abbrev pub instr_with : ℕ → List ℕ → Option Instr
instr_with op args = if nat_lt (1 + length args) (2 ^ 16) then Some (record { op = op; args = args }) else None

-- the instruction of a form with these operands
abbrev pub formed : Target → ℕ → Option (List ℕ) → List Word → Form → Option Instr
formed target op result operands form = placed (place_of (slots form)) result operands >>= λ words. args_of target form words >>= instr_with op

-- the instruction of a name, a result and operands
abbrev pub named : Target → Option (List ℕ) → List ℕ → List Word → Option Instr
named target result name operands = opcode_of name >>= λ op. form_of op >>= formed target op result operands

-- the name and the operands behind a result and `=`
abbrev pub behind_result : Target → List ℕ → List Word → Option Instr
behind_result target result [] = None
behind_result target result (Quoted bytes ∷ words) = None
behind_result target result (Plain sign ∷ []) = None
behind_result target result (Plain sign ∷ Quoted bytes ∷ words) = None
behind_result target result (Plain sign ∷ Plain name ∷ words) = if bytes_eq sign (codes "=") then named target (Some result) name words else None

-- the instruction that words say; a result begins with `%`
abbrev pub instr_of : Target → Word → List Word → Option Instr
instr_of target (Quoted bytes) words = None
instr_of target (Plain first) words = if slice_index first 0 == 37 then behind_result target first words else named target None first words

-- the instruction of a line, or none where it has no word
abbrev pub instrs_of : Target → List Word → Option (List Instr)
instrs_of target [] = Some []
instrs_of target (word ∷ words) = option_map (λ instr. instr ∷ []) (instr_of target word words)

-- whether a line is UTF-8 without a zero byte
abbrev pub is_text : List ℕ → Bool
is_text line = is_utf8 line && not (list_any (λ byte. byte == 0) line)

-- the words of a line
abbrev pub line_words : List ℕ → Option (List Word)
line_words line = if is_text line then words_of line else None

-- the instruction that a line says
unfoldable pub line_instrs : Target → List ℕ → Option (List Instr)
line_instrs target line = line_words line >>= instrs_of target

-- the version that a word names
abbrev pub target_of : List ℕ → Option Target
target_of word = if bytes_eq word (codes "1.0") then Some V10 else if bytes_eq word (codes "1.3") then Some V13 else None

-- the version and the bound of two words
abbrev pub head_by : List ℕ → List ℕ → Option (Target × ℕ)
head_by version bound = target_of version >>= λ target. unsigned bound >>= λ n. Some (target, n)

-- the version and the bound that plain words say behind the first
abbrev pub head_behind : List ℕ → List Word → Option (Target × ℕ)
head_behind spirv [] = None
head_behind spirv (Quoted b ∷ words) = None
head_behind spirv (Plain b ∷ []) = None
head_behind spirv (Plain b ∷ Quoted c ∷ words) = None
head_behind spirv (Plain b ∷ Plain c ∷ []) = if bytes_eq spirv (codes "spirv") then head_by b c else None
head_behind spirv (Plain b ∷ Plain c ∷ word ∷ words) = None

-- the version and the bound that words say, of which this is the first
abbrev pub head_of : Word → List Word → Option (Target × ℕ)
head_of (Quoted a) words = None
head_of (Plain a) words = head_behind a words

-- what words say before any instruction: nothing, or the version and the bound
abbrev pub line_head : List Word → Option (Option (Target × ℕ))
line_head [] = Some None
line_head (word ∷ words) = option_map {U = Option (Target × ℕ)} (λ head. Some head) (head_of word words)

-- and a line
abbrev pub first_head : List ℕ → Option (Option (Target × ℕ))
first_head line = line_words line >>= line_head

-- instructions in front of others
abbrev pub code_before : List Instr → Result (List Instr) ℕ → Result (List Instr) ℕ
code_before code (Ok more) = Ok (code ++ more)
code_before code (Err n) = Err n

-- the instructions of lines, of which the first is line n, or the line that says none
abbrev pub body : Target → ℕ → List (List ℕ) → Result (List Instr) ℕ
body target n [] = Ok []
body target n (line ∷ lines) = elim (line_instrs target line) [ Some code ↦ code_before code (body target (n + 1) lines) | None ↦ Err n ]

-- a module of these instructions
abbrev pub with_head : Target × ℕ → Result (List Instr) ℕ → Result Module ℕ
with_head head (Ok code) = Ok (record { version = version_of head.0; bound = head.1; instrs = code })
with_head head (Err n) = Err n

-- goes on behind a line, where it says this
abbrev pub behind_head : Option (Option (Target × ℕ)) → ℕ → Result Module ℕ → (Target → Result (List Instr) ℕ) → Result Module ℕ
behind_head None n later code = Err n
behind_head (Some None) n later code = later
behind_head (Some (Some head)) n later code = with_head head (code head.0)

-- the module of lines, of which the first is line n, or the line that is wrong; line 1 where none has a word
abbrev pub module_from : ℕ → List (List ℕ) → Result Module ℕ
module_from n [] = Err 1
module_from n (line ∷ lines) = behind_head (first_head line) n (module_from (n + 1) lines) (λ target. body target (n + 1) lines)

-- Unless memory was wanting, what was given is the answer.
abbrev pub Gives : {A : Type 0} → Result A AsmFault → Result A ℕ → Type 0
Gives (Ok x) answer = answer ≡ Ok x
Gives (Err (Line n)) answer = answer ≡ Err n
Gives (Err Memory) answer = Unit {0}

-- Operand words were added, or those that were wanted are none.
abbrev pub Added : Bool → List ℕ → List ℕ → Option (List ℕ) → Type 0
Added good old new found = MatchOption found (good ≡ false) (λ args. (good ≡ true) × (new ≡ old ++ args))

-- Instructions were added, or those that were wanted are none.
abbrev pub Put : Bool → List Instr → List Instr → Option (List Instr) → Type 0
Put good old new found = MatchOption found (good ≡ false) (λ code. (good ≡ true) × (new ≡ old ++ code))

-- The operands that every instruction of a form has were added, or they are none.
abbrev pub Took : Option ℕ → List ℕ → List ℕ → List Word → Option Fixed → Type 0
Took last old new left found = MatchOption found (last ≡ None) (λ fixed. (last ≡ Some fixed.1) × (new ≡ old ++ fixed.0) × (left ≡ fixed.2))

-- one instruction
abbrev pub single : Option Instr → Option (List Instr)
single found = option_map (λ instr. instr ∷ []) found
