-- Whole values of structs and arrays, leaf by leaf: between blocks and values, so that what stands between the leaves of a block is not
-- touched; and whether two are equal (GLSL 4.50, 5.8 and 5.9).
use Rattle.std.specs.Prelude.{ℕ, List, [], ◌∷◌, ◌++◌}
use Rattle.gsl_instr.specs.declared.op.TheConstants as op
use Rattle.gsl_instr.specs.declared.enumerant.storage_class.TheConstants as storage_class
use Rattle.gsl_types.specs.declared.ty.Scalar.TheVariants.{Bool as Boolean}
use Rattle.gsl_values.specs.declared.op.BinaryOp.{BinaryOp}
use Rattle.gsl_values.specs.declared.op.BinaryOp.TheVariants.{Unequal}
use Rattle.gsl_tree.specs.declared.expr.LogicOp.{LogicOp}
use Rattle.gsl_tree.specs.declared.expr.LogicOp.TheVariants as logic
use Rattle.gsl_lower_values.specs.Building.{Step, ◌>>=◌, given, giving}
use Rattle.gsl_lower_values.specs.Constructors.{operand}
use Rattle.gsl_lower_values.specs.Operators.{binary, logical}
use Rattle.gsl_lower_values.specs.Types.{scalar_constant, type_of}
use Rattle.gsl_lower_places.specs.declared.reached.Part.{Part}
use Rattle.gsl_lower_places.specs.Reading.{extracted, loaded}
use Rattle.gsl_lower_places.specs.Writing.{put_at}
use Rattle.gsl_lower_leaves.specs.declared.leaf.Leaf.{Leaf}

-- ---- out of a block

-- a leaf of what parts of a block's variable lead to is copied to the same leaf of a function's variable
unfoldable pub copied_out : ℕ → ℕ → List Part → ℕ → Leaf → Step (Unit {0})
copied_out block class parts variable one =
    loaded block class one.shape (parts ++ one.path) >>= (λ v. put_at variable storage_class.FUNCTION one.shape one.path v)

-- a step for each leaf
unfoldable pub each : (Leaf → Step (Unit {0})) → List Leaf → Step (Unit {0})
each step [] = given tt
each step (one ∷ more) = step one >>= (λ done. each step more)

-- the value in a block whose leaves these are, by way of a variable of its type
unfoldable pub read_whole : ℕ → ℕ → List Part → ℕ → ℕ → List Leaf → Step ℕ
read_whole block class parts variable type leaves =
    each (copied_out block class parts variable) leaves >>= (λ done. giving op.LOAD (variable ∷ []) type)

-- ---- into a block

unfoldable pub copied_in : ℕ → ℕ → List Part → ℕ → Leaf → Step (Unit {0})
copied_in block class parts value one =
    type_of one.shape >>= (λ type. extracted value type one.path >>= (λ v. put_at block class one.shape (parts ++ one.path) v))

-- a value whose leaves these are is stored in a block
unfoldable pub store_whole : ℕ → ℕ → List Part → ℕ → List Leaf → Step (Unit {0})
store_whole block class parts value leaves = each (copied_in block class parts value) leaves

-- ---- equality

-- whether two values are equal in a leaf, or unequal
unfoldable pub compared : BinaryOp → ℕ → ℕ → Leaf → Step ℕ
compared which a b one =
    type_of one.shape >>= (λ type. extracted a type one.path >>= (λ x. extracted b type one.path >>= (λ y. binary which (operand one.shape x) (operand one.shape y))))

-- values are equal where all leaves are, and unequal where any is
abbrev pub joined_by : BinaryOp → LogicOp
joined_by Unequal = logic.Or
joined_by which = logic.And

-- what is so far, and what comes of one more leaf
unfoldable pub one_more : BinaryOp → ℕ → ℕ → ℕ → Leaf → Step ℕ
one_more which a b so_far one = compared which a b one >>= logical (joined_by which) so_far

-- what is so far, and what comes of the other leaves
unfoldable pub all_compared : BinaryOp → ℕ → ℕ → ℕ → List Leaf → Step ℕ
all_compared which a b so_far [] = given so_far
all_compared which a b so_far (one ∷ more) = one_more which a b so_far one >>= (λ both. all_compared which a b both more)

abbrev pub of_none : BinaryOp → ℕ
of_none Unequal = 0
of_none which = 1

unfoldable pub compared_whole : BinaryOp → ℕ → ℕ → List Leaf → Step ℕ
compared_whole which a b [] = scalar_constant Boolean (of_none which)
compared_whole which a b (one ∷ more) = compared which a b one >>= (λ first. all_compared which a b first more)
