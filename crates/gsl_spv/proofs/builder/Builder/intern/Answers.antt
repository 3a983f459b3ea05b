use Rattle.std.proofs.Common.{◌∙◌, ap, sym, rules, ◌∷◌, ◌++◌}
use Rattle.std.specs.Prelude.{option_to_list}
use Rattle.std.specs.Map.{lookup}
use Rattle.gsl_spv.specs.Once.{entries, same}
use Rattle.gsl_spv.specs.Declarations.{declaration}
use Rattle.gsl_spv.proofs.Interning.{interned_found}
use Rattle.gsl_spv.proofs.builder.Builder.intern.Goals as goal

pub returns-in-Some-clause-answer : goal.returns-in-Some-clause-answer
returns-in-Some-clause-answer c = (
  search rules,
  interned_found (declaration c.args.op c.args.ty c.args.operands.now) c.args.self.now c.in-Some.id
      (ap (λ s. lookup (same (c.args.op ∷ option_to_list c.args.ty ++ c.args.operands.now)) (entries s)) (sym (ap (λ s. s.globals) c.self.view_is))
      ∙ ap (λ k. lookup (same k) (entries c.self.inside.globals)) (sym c.in-Ok.ensures)
      ∙ sym c.find.ensures ∙ c.in-Some.is),
  search rules,
)
