-- What the words of a command line ask for. The first word is the program's own name.
use Rattle.std.specs.Prelude.{ℕ, Bool, true, false, ◌==◌, List, [], ◌∷◌, take, drop, length, nat_le, Option, Some, None, codes, if◌then◌else◌}
use Rattle.std.specs.Option.{option_map, option_and_then}
use Rattle.std.specs.Str.{bytes_eq}
use Rattle.gsl_base.specs.declared.stage.Stage.{Stage}
use Rattle.gsl_base.specs.declared.stage.Stage.TheVariants.{Vertex, Fragment, Compute}
use Rattle.gsl_words.specs.declared.target.Target.{Target}
use Rattle.gsl_words.specs.declared.target.Target.TheVariants.{V10, V13}
use Rattle.gsl_plan.specs.declared.planning.TheConstants.{MAX_FILES}
use Rattle.gsl_plan.specs.declared.command.Command.{Command}
use Rattle.gsl_plan.specs.declared.command.Command.TheVariants as command

-- the name of a file
abbrev pub Name : Type 0
Name = List ℕ

-- A command with its arguments.
pub data Plan : Type 0 where
  -- `compile`: sources are compiled to a module for the target
  Compile : (target : Target) (stage : Stage) (out : Name) (files : List Name) → Plan
  -- `dis`: a module is shown as text
  Disassemble : (file out : Name) → Plan
  -- `asm`: a text is assembled to a module
  Assemble : (file out : Name) → Plan
  -- `check`: a module is judged
  Check : (file : Name) → Plan
  -- `exec`: a module is run on the input of a manifest
  Exec : (file inputs : Name) → Plan
  -- `run`: sources are compiled, and their module is run on the input of a manifest
  Run : (stage : Stage) (inputs : Name) (files : List Name) → Plan

-- whether a word begins with `-` and is not `-` alone
abbrev pub is_option : Name → Bool
is_option [] = false
is_option (byte ∷ []) = false
is_option (byte ∷ next ∷ word) = byte == 45

-- The operands among the words behind a command: all but the first `--`, before which no other word is an option.
abbrev pub operands : List Name → Option (List Name)
operands [] = Some []
operands (word ∷ words) =
    if bytes_eq word (codes "--") then Some words else if is_option word then None else option_map (λ more. word ∷ more) (operands words)

-- What stands behind a command: the value of `--target`, if the option is there, and the operands.
abbrev pub Arguments : Type 0
Arguments = Option Name × List Name

-- one operand more in front
abbrev pub with_operand : Name → Option Arguments → Option Arguments
with_operand word = option_map (λ p. (p.0, word ∷ p.1))

abbrev pub with_first : Name → Option Name → List Name → Option Arguments
with_first value None more = Some (Some value, more)
with_first value (Some other) more = None

-- `--target` with this value in front, which stands once
abbrev pub with_target : Name → Option Arguments → Option Arguments
with_target value = option_and_then (λ p. with_first value p.0 p.1)

-- the value in a word `--target=V`
abbrev pub attached : Name → Option Name
attached word = if bytes_eq (take 9 word) (codes "--target=") then Some (drop 9 word) else None

-- a word that attaches a value, or an operand; there is no other option
abbrev pub with_word : Option Name → Name → Option Arguments → Option Arguments
with_word (Some value) word more = with_target value more
with_word None word more = if is_option word then None else with_operand word more

-- The arguments among the words behind `compile`. With `true` the word before was `--target`: the next one is its value, and no option.
abbrev pub aimed : Bool → List Name → Option Arguments
aimed true [] = None
aimed true (word ∷ words) = if is_option word then None else with_target word (aimed false words)
aimed false [] = Some (None, [])
aimed false (word ∷ words) =
    if bytes_eq word (codes "--") then Some (None, words) else if bytes_eq word (codes "--target") then aimed true words
    else with_word (attached word) word (aimed false words)

-- the arguments of a command, of which `compile` alone has the option
abbrev pub arguments : Name → List Name → Option Arguments
arguments command words = if bytes_eq command (codes "compile") then aimed false words else option_map (λ more. (None, more)) (operands words)

abbrev pub no_plan : Option Plan
no_plan = None

abbrev pub stage_of : Name → Option Stage
stage_of word =
    if bytes_eq word (codes "vert") then Some Vertex else if bytes_eq word (codes "frag") then Some Fragment else if bytes_eq word (codes "comp") then Some Compute else None

abbrev pub known_target : Name → Option Target
known_target word = if bytes_eq word (codes "1.0") then Some V10 else if bytes_eq word (codes "1.3") then Some V13 else None

-- the target by the value of `--target`, which is 1.0 without one
abbrev pub target_of : Option Name → Option Target
target_of None = Some V10
target_of (Some word) = known_target word

abbrev pub compile_in : Option Target → Option Stage → Name → List Name → Option Plan
compile_in None stage out files = None
compile_in (Some target) None out files = None
compile_in (Some target) (Some stage) out files = Some (Compile target stage out files)

abbrev pub run_in : Option Stage → Name → List Name → Option Plan
run_in None inputs files = None
run_in (Some stage) inputs files = Some (Run stage inputs files)

-- one source file or more, and not too many
abbrev pub are_files : List Name → Bool
are_files [] = false
are_files (file ∷ files) = nat_le (length (file ∷ files)) MAX_FILES

-- the stage by its word, if there are as many files as there may be
abbrev pub staged : Name → List Name → Option Stage
staged stage files = if are_files files then stage_of stage else None

abbrev pub compile_of : Option Name → List Name → Option Plan
compile_of value (stage ∷ out ∷ files) = compile_in (target_of value) (staged stage files) out files
compile_of value _ = None

abbrev pub run_of : List Name → Option Plan
run_of (stage ∷ inputs ∷ files) = run_in (staged stage files) inputs files
run_of _ = None

abbrev pub disassemble_of : List Name → Option Plan
disassemble_of (file ∷ out ∷ []) = Some (Disassemble file out)
disassemble_of _ = None

abbrev pub assemble_of : List Name → Option Plan
assemble_of (file ∷ out ∷ []) = Some (Assemble file out)
assemble_of _ = None

abbrev pub check_of : List Name → Option Plan
check_of (file ∷ []) = Some (Check file)
check_of _ = None

abbrev pub exec_of : List Name → Option Plan
exec_of (file ∷ inputs ∷ []) = Some (Exec file inputs)
exec_of _ = None

-- goes on with the arguments, if the words have some
abbrev pub given : Option Arguments → (Option Name → List Name → Option Plan) → Option Plan
given None f = None
given (Some p) f = f p.0 p.1

-- `compile STAGE OUT FILE..` with `--target V`, `dis MODULE OUT`, `asm TEXT OUT`, `check MODULE`, `exec MODULE INPUTS`, `run STAGE INPUTS FILE..`
abbrev pub named : Name → Option Name → List Name → Option Plan
named command value words =
    if bytes_eq command (codes "compile") then compile_of value words else if bytes_eq command (codes "dis") then disassemble_of words
    else if bytes_eq command (codes "asm") then assemble_of words else if bytes_eq command (codes "check") then check_of words
    else if bytes_eq command (codes "exec") then exec_of words else if bytes_eq command (codes "run") then run_of words else None

abbrev pub command_of : Name → List Name → Option Plan
command_of command words = given (arguments command words) (named command)

-- the command that the words are, if they are one
abbrev pub plan_of : List Name → Option Plan
plan_of (program ∷ command ∷ words) = command_of command words
plan_of _ = None

-- the plan of a command in the code
abbrev pub plan_in : Command → Option Plan
plan_in (command.Usage text) = None
plan_in (command.Compile target stage out files) = Some (Compile target stage out files)
plan_in (command.Disassemble file out) = Some (Disassemble file out)
plan_in (command.Assemble file out) = Some (Assemble file out)
plan_in (command.Check file) = Some (Check file)
plan_in (command.Exec file inputs) = Some (Exec file inputs)
plan_in (command.Run stage inputs files) = Some (Run stage inputs files)
