use Rattle.std.proofs.Common.{refl}
use Rattle.gsl_lex.specs.Refused.{refused, other_types, other_keywords, reserved, functions, variables, matrices, matrix_sizes, opaques, opaque_kinds, shadow_samplers, shadow_kinds}
use Rattle.gsl_lex.specs.Spellings.{puncts, keywords}
use Rattle.gsl_lex.specs.Tables.{punct_of, key_of, is_refused}
use Rattle.gsl_lex.proofs.Distinct.{puncts_differ, keywords_differ, refused_differ}
use Rattle.gsl_lex.proofs.laws.rows_are_rules.Goals as goal

pub returns : goal.returns
unfolding puncts punct_of keywords key_of is_refused refused other_types other_keywords reserved functions variables matrices matrix_sizes opaques opaque_kinds shadow_samplers shadow_kinds
returns c = record {
  puncts = refl;
  keywords = refl;
  puncts_differ = puncts_differ;
  keywords_differ = keywords_differ;
  refused_differ = refused_differ;
  apart = refl;
}
