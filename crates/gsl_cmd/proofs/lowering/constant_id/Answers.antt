use Rattle.std.proofs.Common.{ℕ, ◌+◌, ◌∙◌, ap, Option}
use Rattle.std.specs.Prelude.{◌==◌}
use Rattle.std.specs.List.{position}
use Rattle.std.specs.Option.{unwrap_or}
use Rattle.gsl_cmd.proofs.Constants.{place_of}
use Rattle.gsl_cmd.proofs.lowering.constant_id.Goals as goal

pub returns : goal.returns
returns c =
    let test = λ (other : ℕ). other == c.args.value in
    let found = c.place_of.ensures.place ∙ ap (position test) c.as_slice.ensures in
    ap (λ n. 10 + n) (c.unwrap_or-place.ensures ∙ ap (λ (o : Option ℕ). unwrap_or o c.len.result) found
    ∙ ap (unwrap_or (position test c.args.constants.now)) c.len.ensures ∙ place_of test c.args.constants.now)
