use Rattle.std.proofs.Common.{false}
use Rattle.gsl_lower_follows.specs.Giving.{HasGiven}
use Rattle.gsl_lower_law_gathered.proofs.Given.{any_strays, any_taken}
use Rattle.gsl_lower_law_gathered.proofs.laws.trails_are_read.Goals as goal

pub returns-clause-inside : goal.returns-clause-inside
returns-clause-inside c = λ m input sections f p around valid written shaped are plain start writes t sound_t values b s state r l a units good is inside.
    any_taken m input sections f p around valid written shaped are plain start writes t sound_t values b s state r l good units a is inside

pub returns-clause-outside : goal.returns-clause-outside
returns-clause-outside c = λ m input sections f p around valid written shaped are plain start writes t sound_t values b s state r l units good is outside.
    any_strays m input sections f p around valid written shaped are plain start writes t sound_t values b s state r l good units (HasGiven m input sections f p around false t b state) is outside
