-- Which module a text is.
use Rattle.std.specs.Prelude.{◌≡◌, ℕ, ◌-◌, ◌≤◌, ◌⊎◌, false, ◌==◌, List, [], ◌∷◌, ◌++◌, length, take, Result, Ok, Err}
use Rattle.std.specs.List.{list_any}
use Rattle.std.specs.Str.{IsUtf8}
use Rattle.gsl_text.specs.Lines.{lines_of}
use Rattle.gsl_words.specs.declared.target.Target.{Target}
use Rattle.gsl_words.specs.declared.module.Instr.{Instr}
use Rattle.gsl_words.specs.declared.module.Module.{Module}
use Rattle.gsl_words.specs.Versions.{version_of}
use Rattle.gsl_asm.specs.declared.fault.AsmFault.{AsmFault}
use Rattle.gsl_asm.specs.declared.fault.AsmFault.TheVariants.{Line, Memory}
use Rattle.gsl_asm.specs.declared.word.Word.{Word}
use Rattle.gsl_asm.specs.Words.{Spells}
use Rattle.gsl_asm.specs.Instructions.{IsInstr, IsHead}

-- The line is UTF-8 without a zero byte and has these words.
pub record HasWords (line : List ℕ) (words : List Word) : Type 0 where
  pub utf8 : IsUtf8 line
  pub nonzero : list_any (λ byte. byte == 0) line ≡ false
  pub spelled : Spells line words

-- Each line with a word is an instruction.
pub data AreInstrs (target : Target) : List (List ℕ) → List Instr → Type 0 where
  end : AreInstrs target [] []
  empty : (line : List ℕ) (lines : List (List ℕ)) (code : List Instr) → HasWords line [] → AreInstrs target lines code → AreInstrs target (line ∷ lines) code
  instr : (line : List ℕ) (word : Word) (words : List Word) (lines : List (List ℕ)) (instr : Instr) (code : List Instr) → HasWords line (word ∷ words) →
      IsInstr target (word ∷ words) instr → AreInstrs target lines code → AreInstrs target (line ∷ lines) (instr ∷ code)

-- The first line with a word has the version and the bound, and the instructions follow.
pub data AreModule : List (List ℕ) → Module → Type 0 where
  blank : (line : List ℕ) (lines : List (List ℕ)) (m : Module) → HasWords line [] → AreModule lines m → AreModule (line ∷ lines) m
  head : (line : List ℕ) (words : List Word) (lines : List (List ℕ)) (target : Target) (bound : ℕ) (code : List Instr) → HasWords line words → IsHead words target bound →
      AreInstrs target lines code → AreModule (line ∷ lines) (record { version = version_of target; bound = bound; instrs = code })

-- The bytes are a text of the module.
abbrev pub IsTextOf : List ℕ → Module → Type 0
IsTextOf bytes m = AreModule (lines_of bytes) m

-- Some text begins with these lines.
abbrev pub Begin : List (List ℕ) → Type 0
Begin lines = (later : List (List ℕ)) × (m : Module) × AreModule (lines ++ later) m

-- Line n is the least such that no text begins with the lines up to it.
pub record BreaksAt (lines : List (List ℕ)) (n : ℕ) : Type 0 where
  pub some : 1 ≤ n
  pub within : n ≤ length lines
  pub before : Begin (take (n - 1) lines)
  pub here : Begin (take n lines) → ⊥

-- The lines are no text, and line n is where: the first that no text has there, or line 1 where there is no such line.
abbrev pub IsWrong : List (List ℕ) → ℕ → Type 0
IsWrong lines n = ((m : Module) → AreModule lines m → ⊥) × (BreaksAt lines n ⊎ ((n ≡ 1) × Begin lines))

-- Unless memory was wanting, the answer is the module of the text, or the line where it is wrong.
abbrev pub Answers : Result Module AsmFault → List ℕ → Type 0
Answers (Ok m) bytes = IsTextOf bytes m
Answers (Err (Line n)) bytes = IsWrong (lines_of bytes) n
Answers (Err Memory) bytes = Unit {0}
