use Rattle.std.proofs.Common.{◌∙◌, ap, map, List, ℕ}
use Rattle.gsl_names.specs.Scopes.{Declared}
use Rattle.gsl_check_heads.specs.Builtins as spec
use Rattle.gsl_check_heads.proofs.Listed.{found_in}
use Rattle.gsl_check_heads.proofs.builtin.names_function.Goals as goal

pub returns : goal.returns
unfolding spec.names_function
returns c =
    c.is_among.ensures ∙ ap (λ (t : List ℕ). spec.among (map (λ (d : Declared). d.0) spec.functions) t) c.as_str.ensures ∙ found_in spec.functions c.args.name.now
