use Rattle.std.proofs.Common.{sym, ap, ◌∙◌}
use Rattle.gsl_overload.specs.Best.{beats, at_place}
use Rattle.gsl_overload.proofs.Walks.{count_of, read_at}
use Rattle.gsl_overload.proofs.choice.beats_at.Goals as goal

pub beats-requires-clause-first : goal.beats-requires-clause-first
beats-requires-clause-first c = count_of c.args.candidates.now c.args.args.now c.args.first c.index.result.now c.requires.first c.index.ensures

pub beats-requires-clause-second : goal.beats-requires-clause-second
beats-requires-clause-second c = count_of c.args.candidates.now c.args.args.now c.args.second c.index-2.result.now c.requires.second c.index-2.ensures

pub returns : goal.returns
returns c =
    c.beats.ensures
    ∙ ap (λ s. beats c.args.args.now s c.index-2.result.now) (sym (read_at c.args.candidates.now c.args.first c.index.result.now c.index.ensures))
    ∙ ap (λ s. beats c.args.args.now (at_place c.args.candidates.now c.args.first) s) (sym (read_at c.args.candidates.now c.args.second c.index-2.result.now c.index-2.ensures))
