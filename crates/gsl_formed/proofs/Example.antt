-- Names, lists and blocks that are as they are asked for, and some that are not.
use Rattle.std.proofs.Common.{◌≡◌, refl, true, false, [], ◌∷◌, replicate}
use Rattle.gsl_base.specs.declared.fault.Place.{Place}
use Rattle.gsl_syntax.specs.declared.expr.Basic.TheVariants.{Int}
use Rattle.gsl_syntax.specs.declared.expr.Expr.TheVariants as e
use Rattle.gsl_syntax.specs.declared.expr.TypeSpec.TheVariants as ty
use Rattle.gsl_syntax.specs.declared.operator.BinaryOp.TheVariants.{LogicalAnd, LogicalOr, LogicalXor}
use Rattle.gsl_formed.specs.Formed.{is_name, some_formed, is_formed, line_formed, lines_formed}
use Rattle.gsl_formed.specs.Nested.{binary_arms}
use Rattle.gsl_formed.proofs.Layers as at

here : Place
here = record { unit = 0; line = 1 }

-- ---- names

longest : is_name (replicate 1024 97) ≡ true
longest = refl

too_long : is_name (replicate 1025 97) ≡ false
too_long = refl

zero_byte : is_name (97 ∷ 0 ∷ []) ≡ false
zero_byte = refl

-- ---- literals and commas

largest : is_formed (e.Signed here 4294967295) ≡ true
largest = at.at_Signed here 4294967295

too_large : is_formed (e.Unsigned here 4294967296) ≡ false
too_large = at.at_Unsigned here 4294967296

no_comma : some_formed [] ≡ false
no_comma = refl

-- ---- blocks

no_line : lines_formed [] ≡ false
no_line = refl

no_name : line_formed (record { quals = []; ty = ty.Basic here Int []; names = [] }) ≡ false
no_name = refl

-- ---- arms

and_arm : binary_arms LogicalAnd 3 4 ≡ 5
and_arm = refl

or_arm : binary_arms LogicalOr 7 4 ≡ 7
or_arm = refl

xor_arms : binary_arms LogicalXor 3 4 ≡ 4
xor_arms = refl
