-- Whole values, leaf by leaf.
use Rattle.std.proofs.Common.{ℕ, List, [], ◌∷◌, refl}
use Rattle.gsl_types.specs.declared.ty.Scalar.TheVariants.{Bool as Boolean}
use Rattle.gsl_values.specs.declared.op.BinaryOp.{BinaryOp}
use Rattle.gsl_lower_values.specs.Building.{Step}
use Rattle.gsl_lower_places.specs.declared.reached.Part.{Part}
use Rattle.gsl_lower_leaves.specs.Copies.{all_compared, compared, compared_whole, copied_in, copied_out, each, one_more, read_whole, store_whole}
use Rattle.gsl_lower_leaves.specs.declared.leaf.Leaf.{Leaf}
use Rattle.gsl_lower_law_inner.specs.Inner.{AllBuild}
use Rattle.gsl_lower_law_inner.proofs.Steps.{builds_given, builds_giving, builds_then}
use Rattle.gsl_lower_law_inner.proofs.Values.{builds_binary, builds_logical, builds_scalar, builds_type}
use Rattle.gsl_lower_law_inner.proofs.Places.{builds_extracted, builds_loaded, builds_put_at}

builds_each : (step : Leaf → Step (Unit {0})) (leaves : List Leaf) → ((one : Leaf) → AllBuild (step one)) → AllBuild (each step leaves)
unfolding each
builds_each step [] p = builds_given
builds_each step (one ∷ more) p = builds_then (p one) (λ done. builds_each step more p)

builds_out : (block class : ℕ) (parts : List Part) (variable : ℕ) (one : Leaf) → AllBuild (copied_out block class parts variable one)
unfolding copied_out
builds_out block class parts variable one = builds_then (builds_loaded block class one.shape _) (λ v. builds_put_at variable _ one.shape one.path v)

pub builds_read_whole : (block class : ℕ) (parts : List Part) (variable type : ℕ) (leaves : List Leaf) → AllBuild (read_whole block class parts variable type leaves)
unfolding read_whole
builds_read_whole block class parts variable type leaves = builds_then (builds_each (copied_out block class parts variable) leaves (builds_out block class parts variable)) (λ done. builds_giving _ _ type refl)

builds_copied_in : (block class : ℕ) (parts : List Part) (value : ℕ) (one : Leaf) → AllBuild (copied_in block class parts value one)
unfolding copied_in
builds_copied_in block class parts value one = builds_then (builds_type one.shape) (λ type. builds_then (builds_extracted value type one.path) (λ v. builds_put_at block class one.shape _ v))

pub builds_store_whole : (block class : ℕ) (parts : List Part) (value : ℕ) (leaves : List Leaf) → AllBuild (store_whole block class parts value leaves)
unfolding store_whole
builds_store_whole block class parts value leaves = builds_each (copied_in block class parts value) leaves (builds_copied_in block class parts value)

builds_compared : (which : BinaryOp) (a b : ℕ) (one : Leaf) → AllBuild (compared which a b one)
unfolding compared
builds_compared which a b one =
    builds_then (builds_type one.shape) (λ type. builds_then (builds_extracted a type one.path) (λ x. builds_then (builds_extracted b type one.path) (λ y. builds_binary which _ _)))

builds_one_more : (which : BinaryOp) (a b so_far : ℕ) (one : Leaf) → AllBuild (one_more which a b so_far one)
unfolding one_more
builds_one_more which a b so_far one = builds_then (builds_compared which a b one) (λ same. builds_logical _ so_far same)

builds_all_compared : (which : BinaryOp) (a b so_far : ℕ) (leaves : List Leaf) → AllBuild (all_compared which a b so_far leaves)
unfolding all_compared
builds_all_compared which a b so_far [] = builds_given
builds_all_compared which a b so_far (one ∷ more) = builds_then (builds_one_more which a b so_far one) (λ both. builds_all_compared which a b both more)

pub builds_compared_whole : (which : BinaryOp) (a b : ℕ) (leaves : List Leaf) → AllBuild (compared_whole which a b leaves)
unfolding compared_whole
builds_compared_whole which a b [] = builds_scalar Boolean _
builds_compared_whole which a b (one ∷ more) = builds_then (builds_compared which a b one) (λ first. builds_all_compared which a b first more)
