use Rattle.gsl_cmd.proofs.Carried.{end_alike, program_runs}
use Rattle.gsl_cmd.specs.Lowering.{module_of}
use Rattle.gsl_cmd.proofs.meaning.headline.Goals as goal

pub returns : goal.returns
returns c = record {
  carried = end_alike;
  own = λ p form. end_alike (module_of p) p (program_runs p form);
  compiled = λ target stage sources bytes (m, accepts, is, promised).
      (m, accepts, is, promised.valid, λ p own. ((promised.carries p own).placed, end_alike m p (promised.carries p own).runs));
}
