-- The command line as a command of `clap`, and what the matches of one hold.
use Rattle.std.specs.Prelude.{Bool, true, ◌||◌, List, [], ◌∷◌, Option, Some, None, codes, if◌then◌else◌, option_map, unwrap_or}
use Rattle.std.specs.Str.{bytes_eq}
use Rattle.clap.specs.Simple.{App, new_app, new_rule, on_top, subcommand_rows_of, with_rule, with_subcommand}
use Rattle.clap.specs.Walk.{Row, Rule, all_of, first_of}
use Rattle.clap.specs.declared.builder.action.ArgAction.TheVariants.{Append, Set}
use Rattle.clap.specs.declared.parser.matches.ArgMatches.{ArgMatches}
use Rattle.gsl_plan.specs.Plan.{Arguments, Name, arguments}

-- operands, as many as there are
abbrev pub operands_rule : Rule
operands_rule = record (new_rule (codes "operands")) { action = Some Append }

-- a command that takes operands alone
abbrev pub operated : Name → App
operated name = with_rule (new_app name) operands_rule

-- an option with one value, which stands once
abbrev pub target_rule : Rule
target_rule = record (new_rule (codes "target")) { long = Some (codes "target"); action = Some Set; value_names = 1 }

-- the command that takes this option beside its operands
abbrev pub aiming : App
aiming = with_rule (with_rule (new_app (codes "compile")) target_rule) operands_rule

-- the program, which takes one of its commands
abbrev pub program : App
program = on_top (λ s. record s { subcommand_required = true }) (new_app (codes "gsl"))

-- the program with the commands that write a file
abbrev pub writing : App
writing = with_subcommand (with_subcommand (with_subcommand program aiming.top) (operated (codes "dis")).top) (operated (codes "asm")).top

-- and the one that judges a module
abbrev pub judging : App
judging = with_subcommand writing (operated (codes "check")).top

abbrev pub grammar : App
grammar = with_subcommand (with_subcommand judging (operated (codes "exec")).top) (operated (codes "run")).top

abbrev pub operands_in : List Row → List Name
operands_in rows = unwrap_or (all_of (codes "operands") rows) []

abbrev pub arguments_in : List Row → Arguments
arguments_in rows = (first_of (codes "target") rows, operands_in rows)

-- the command that was found, with its arguments
abbrev pub found_in : ArgMatches → Option (Name × Arguments)
found_in m = option_map (λ p. (p.0, arguments_in p.1)) (subcommand_rows_of m)

abbrev pub is_command : Name → Bool
is_command word =
    bytes_eq (codes "compile") word || (bytes_eq (codes "dis") word || (bytes_eq (codes "asm") word || (bytes_eq (codes "check") word || (bytes_eq (codes "exec") word || bytes_eq (codes "run") word))))

-- a command with its arguments, where the words have one
abbrev pub taken : List Name → Option (Name × Arguments)
taken (name ∷ command ∷ words) = if is_command command then option_map (λ p. (command, p)) (arguments command words) else None
taken _ = None
