use Rattle.std.proofs.Common.{◌≡◌, inl, inr, ap, ap₂, ◌∙◌, arith, rules}
use Rattle.std.specs.Prelude.{FitsSigned}
use Rattle.std.specs.Int.{w32, cast_unsigned, int_rem_euclid}
use Rattle.std.proofs.lemmas.Int.{ints, to_z-of_z}
use Rattle.gsl_values.proofs.Words.{rest_kept, rest_turned}
use Rattle.gsl_values.proofs.operators.signed_rest.Goals as goal
use Rattle.gsl_values.proofs.operators.signed_rest.Goals.{else-y-lt0-via-then-y-lt0+else-rest-ne0, else-y-lt0-via-else-y-lt0}

pub returns-then-rest-ne0 : goal.returns-then-rest-ne0
returns-then-rest-ne0 c =
    let fits : FitsSigned w32 c.rem_euclid-rest.result = search rules in
    let value : c.rem_euclid-rest.result ≡ int_rem_euclid c.args.x c.args.y = c.rem_euclid-rest.ensures.value ∙ ap₂ int_rem_euclid (to_z-of_z w32 c.args.x c.ranges.x) (to_z-of_z w32 c.args.y c.ranges.y) in
    rest_turned c.args.x c.args.y c.rem_euclid-rest.result c.ranges.y fits value (grind (arith, ints)) (λ e. c.if-rest-ne0.true (ap (cast_unsigned w32) e))

pub returns-else-y-lt0 : goal.returns-else-y-lt0
returns-else-y-lt0 c =
    let fits : FitsSigned w32 c.rem_euclid-rest.result = search rules in
    let value : c.rem_euclid-rest.result ≡ int_rem_euclid c.args.x c.args.y = c.rem_euclid-rest.ensures.value ∙ ap₂ int_rem_euclid (to_z-of_z w32 c.args.x c.ranges.x) (to_z-of_z w32 c.args.y c.ranges.y) in
    rest_kept c.args.x c.args.y c.rem_euclid-rest.result fits value
    (elim c.else-y-lt0.branch [
      | else-y-lt0-via-then-y-lt0+else-rest-ne0 w ↦ inr (grind (arith, ints))
      | else-y-lt0-via-else-y-lt0 w ↦ inl (grind (arith, ints))
    ])
