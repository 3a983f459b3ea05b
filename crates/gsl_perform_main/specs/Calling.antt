-- What calls do, in words of which each is one call of the code.
use Rattle.std.specs.Prelude.{List}
use Rattle.gsl_types.specs.declared.ty.Ty.{Ty}
use Rattle.gsl_values.specs.declared.value.Value.{Value}
use Rattle.gsl_tree.specs.declared.unit.Function.{Function}
use Rattle.gsl_meaning.specs.Running.{Run}
use Rattle.gsl_meaning.specs.Expressions.{Called, Setting}
use Rattle.gsl_meaning.specs.Shader.{running}

-- the body of a function, on these arguments
unfoldable pub performs : Setting → Function → Ty → List Value → Run Called
performs setting f result args = running setting f result args
