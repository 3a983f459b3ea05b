use Rattle.std.proofs.Common.{ap, sym, ◌∙◌, Some, Option, ℕ, take}
use Rattle.std.specs.List.{list_any}
use Rattle.gsl_decorations.specs.Firsts.{is_below}
use Rattle.gsl_decorations.proofs.Fronts.{in_front_of_all}
use Rattle.gsl_valid.specs.Instruction.{read}
use Rattle.gsl_valid.specs.EntryRules.{gives_location}
use Rattle.gsl_valid_entry.proofs.Located.{no_class}
use Rattle.gsl_valid_entry.proofs.stage.Stage.locates_in.Goals as goal

pub returns-in-Some : goal.returns-in-Some
returns-in-Some c =
    let m = c.args.self.now in
    c.is_below.ensures ∙ ap (is_below c.args.count) c.first_located.ensures
    ∙ in_front_of_all (λ i. gives_location m (Some c.in-Some.class) c.args.location (read i)) c.args.count m.instrs
    ∙ sym (ap (λ (class : Option ℕ). list_any (λ i. gives_location m class c.args.location (read i)) (take c.args.count m.instrs)) c.in-Some.is)

pub returns-in-None : goal.returns-in-None
returns-in-None c =
    let m = c.args.self.now in
    let code = take c.args.count m.instrs in
    sym (ap (λ (class : Option ℕ). list_any (λ i. gives_location m class c.args.location (read i)) code) c.in-None.is ∙ no_class m c.args.location code)
