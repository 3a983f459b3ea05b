use Rattle.std.specs.Prelude.{◌==◌, not}
use Rattle.std.specs.Int.{bit_at}
use Rattle.gsl_values.specs.Functions.{sign_bit}
use Rattle.gsl_values.proofs.Places.{highest_found, highest_missing}
use Rattle.gsl_values.proofs.positions.highest_bit.Goals as goal

pub returns-then-differing-eq0 : goal.returns-then-differing-eq0
returns-then-differing-eq0 c = highest_missing (λ i. not (bit_at c.args.a i == sign_bit c.args.signed c.args.a)) c.differing_bits-differing.result c.differing_bits-differing.ensures c.if-differing-eq0.true

pub returns-else-differing-eq0 : goal.returns-else-differing-eq0
returns-else-differing-eq0 c = highest_found (λ i. not (bit_at c.args.a i == sign_bit c.args.signed c.args.a)) c.differing_bits-differing.result c.differing_bits-differing.type_inv c.differing_bits-differing.ensures c.if-differing-eq0.false
