use Rattle.std.proofs.Common.{ap, ◌∙◌, []}
use Rattle.std.specs.List.{position_or_len}
use Rattle.gsl_link_whole.specs.Whole.{is_main}
use Rattle.gsl_link_numbers.specs.Numbering as spec
use Rattle.gsl_link_numbers.proofs.Tabled.{globals_are, functions_are, numberings_are}
use Rattle.gsl_link_numbers.proofs.program.whole.Goals as goal

pub returns-clause-program : goal.returns-clause-program
returns-clause-program c =
    let sides = c.args.sides.now in
    let tables = c.in_ok-lists.ensures.tables in
    let functions = c.in_ok-parts.ensures.functions ∙ ap (λ t. spec.all_functions_behind [] t 0 sides) tables ∙ functions_are sides in
    c.in_ok-w.ensures.program
    ∙ (λ j. record {
      stage = c.args.stage;
      structs = c.args.structs;
      globals = (c.in_ok-parts.ensures.globals ∙ ap (λ t. spec.all_globals_behind [] t 0 sides) tables ∙ globals_are sides) j;
      blocks = c.in_ok-lists.ensures.ordered j;
      interfaces = c.in_ok-lists.ensures.interfaces j;
      prototypes = c.in_ok-lists.ensures.heads j;
      functions = functions j;
      main = position_or_len (is_main (c.in_ok-lists.ensures.heads j)) (functions j);
      local_size = c.local_size.ensures j;
    })

pub returns-clause-numbers : goal.returns-clause-numbers
returns-clause-numbers c =
    let sides = c.args.sides.now in
    c.in_ok-w.ensures.numbers ∙ c.in_ok-parts.ensures.numbers ∙ ap (λ t. spec.numberings_behind [] t 0 sides) c.in_ok-lists.ensures.tables ∙ numberings_are sides
