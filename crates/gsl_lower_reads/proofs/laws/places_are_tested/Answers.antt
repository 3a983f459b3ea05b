use Rattle.gsl_lower_reads.proofs.Probing.{probe_in, probe_out}
use Rattle.gsl_lower_reads.specs.Testing.{IsTested}
use Rattle.gsl_lower_reads.proofs.laws.places_are_tested.Goals as goal

pub returns-clause-inside : goal.returns-clause-inside
returns-clause-inside c = λ m input sections f p around loose writes t r l units b s state calls a are sound good is inside. probe_in m input sections f p around are loose writes t sound b s units state r l good is calls a inside

pub returns-clause-outside : goal.returns-clause-outside
returns-clause-outside c = λ m input sections f p around loose writes t r l units b s state v are sound good is outside typed. probe_out m input sections f p around are loose writes t sound b s units state r l good is (IsTested m input sections f p around b s state) (v, typed) outside
