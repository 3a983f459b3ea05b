-- Words of the laws.
use Rattle.gsl_machine.specs.State.{Ended, Going, Outcome, Strayed, Stuck}

-- A run that came to this does not go on.
abbrev pub IsOver : Outcome → Type 0
IsOver (Going state) = ⊥
IsOver (Ended output) = Unit {0}
IsOver (Strayed place) = Unit {0}
IsOver Stuck = Unit {0}
