use Rattle.clap.specs.Words.{app_of}
use Rattle.gsl_plan.proofs.Planned.{matched, refused}
use Rattle.gsl_plan.proofs.matching.matches_of.Goals as goal

pub returns-clause-ok : goal.returns-clause-ok
returns-clause-ok c = matched c.try_get_matches_from.result (app_of c.in_ok-grammar.field-0) _ c.in_ok-grammar.ensures c.requires c.try_get_matches_from.ensures.kinds c.try_get_matches_from.ensures.matches

pub returns-clause-err : goal.returns-clause-err
returns-clause-err c = refused c.try_get_matches_from.result (app_of c.in_ok-grammar.field-0) _ c.in_ok-grammar.ensures c.requires c.try_get_matches_from.ensures.kinds
