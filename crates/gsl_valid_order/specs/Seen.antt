-- What a pass keeps, seen as the rules have it.
use Rattle.gsl_words.specs.declared.module.Module.{Module}
use Rattle.gsl_valid.specs.Where as rules
use Rattle.gsl_valid_order.specs.declared.standing.Standing.{Standing}
use Rattle.gsl_valid_order.specs.declared.standing.Standing.TheVariants as standing

-- where the code stands in a function
abbrev pub standing_seen : Standing → rules.Standing
standing_seen standing.Outside = rules.Outside
standing_seen (standing.Begun parameters) = rules.Begun parameters.now
standing_seen standing.AtHead = rules.AtHead
standing_seen standing.InBlock = rules.InBlock
standing_seen standing.AtMerge = rules.AtMerge
standing_seen standing.Behind = rules.Behind

-- A module, and where a pass over it stands.
pub record Reached : Type 0 where
  pub of : Module
  pub standing : rules.Standing
