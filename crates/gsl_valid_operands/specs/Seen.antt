-- What code holds of opcodes, seen as the rules have it.
use Rattle.gsl_valid.specs.OperandRules as operands
use Rattle.gsl_valid.specs.ExtendedRules as rules
use Rattle.gsl_valid_operands.specs.declared.sign.Sign.{Sign}
use Rattle.gsl_valid_operands.specs.declared.sign.Sign.TheVariants as sign
use Rattle.gsl_valid_operands.specs.declared.builtin.Row.{Row}

-- a signedness
abbrev pub sign_seen : Sign → operands.Sign
sign_seen sign.Either = operands.Either
sign_seen (sign.Only signedness) = operands.Only signedness

-- a row of the table of extended instructions
abbrev pub row_seen : Row → rules.Extended
row_seen e = record { number = e.number; count = e.count; sign = sign_seen e.sign; finds = e.finds }
