use Rattle.std.proofs.Common.{ap, sym, ◌∙◌, Some, Option, ℕ, take}
use Rattle.std.specs.List.{list_any}
use Rattle.gsl_decorations.specs.Firsts.{is_below}
use Rattle.gsl_decorations.proofs.Fronts.{in_front_of_all}
use Rattle.gsl_valid.specs.Instruction.{read}
use Rattle.gsl_valid.specs.DecorationRules.{is_bound_to}
use Rattle.gsl_valid_blocks.proofs.Bindings.{no_set, no_binding}
use Rattle.gsl_valid_blocks.proofs.variables.Variables.has_binding_in.Goals as goal

pub returns-in-Some-binding : goal.returns-in-Some-binding
returns-in-Some-binding c =
    let m = c.args.self.now in
    let code = take c.args.count m.instrs in
    c.is_below.ensures ∙ ap (is_below c.args.count) c.first_bound.ensures
    ∙ in_front_of_all (λ i. is_bound_to m (Some c.in-Some.set) (Some c.in-Some-binding.binding) (read i)) c.args.count m.instrs
    ∙ sym (ap (λ (set : Option ℕ). list_any (λ i. is_bound_to m set c.args.binding (read i)) code) c.in-Some.is
    ∙ ap (λ (binding : Option ℕ). list_any (λ i. is_bound_to m (Some c.in-Some.set) binding (read i)) code) c.in-Some-binding.is)

pub returns-in-None-binding : goal.returns-in-None-binding
returns-in-None-binding c =
    let m = c.args.self.now in
    let code = take c.args.count m.instrs in
    sym (ap (λ (binding : Option ℕ). list_any (λ i. is_bound_to m c.args.set binding (read i)) code) c.in-None-binding.is ∙ no_binding m c.args.set code)

pub returns-in-None : goal.returns-in-None
returns-in-None c =
    let code = take c.args.count c.args.self.now.instrs in
    sym (ap (λ set. list_any (λ i. is_bound_to c.args.self.now set c.args.binding (read i)) code) c.in-None.is ∙ no_set c.args.self.now c.args.binding code)
