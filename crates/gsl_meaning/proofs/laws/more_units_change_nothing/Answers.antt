use Rattle.gsl_meaning.proofs.LastsShader.{shader_lasts}
use Rattle.gsl_meaning.proofs.laws.more_units_change_nothing.Goals as goal

pub returns : goal.returns
returns c p units more input = shader_lasts p input units more
