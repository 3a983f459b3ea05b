use Rattle.std.proofs.Common.{arith, ◌+◌, ◌-◌, inl, inr}
use Rattle.gsl_values.proofs.BitFields.{extracted_none, extracted_field, extended_field, tested_sign, tested_none}
use Rattle.gsl_values.proofs.fields.extracted.Goals as goal
use Rattle.gsl_values.proofs.fields.extracted.Goals.{else-signed-via-then-signed+else-a-offset-eq1, else-signed-via-else-signed}

pub returns-then-bits-eq0 : goal.returns-then-bits-eq0
returns-then-bits-eq0 c = extracted_none c.args.signed c.args.a c.args.offset c.args.bits c.if-bits-eq0.true

pub returns-then-a-offset-eq1 : goal.returns-then-a-offset-eq1
returns-then-a-offset-eq1 c = rw c.if-signed.true (extended_field c.args.a c.args.offset c.args.bits c.low_ones-ones.result c.ranges.a.fits c.low_ones-ones.ensures (omega arith) (omega arith) (tested_sign c.args.a (c.args.offset + c.args.bits - 1) c.if-a-offset-eq1.true))

pub returns-else-signed : goal.returns-else-signed
returns-else-signed c = extracted_field c.args.signed c.args.a c.args.offset c.args.bits c.low_ones-ones.result c.ranges.a.fits c.low_ones-ones.ensures
    (elim c.else-signed.branch [ else-signed-via-then-signed+else-a-offset-eq1 w ↦ inr (inr (tested_none c.args.a (c.args.offset + c.args.bits - 1) w.if-a-offset-eq1.false)) | else-signed-via-else-signed w ↦ inl w.if-signed.false ])
