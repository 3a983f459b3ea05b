-- Equality leaf by leaf.
use Rattle.std.proofs.Common.{◌≡◌, ℕ, List, [], ◌∷◌, None, refl, sym, ap, inl, inr, subst}
use Rattle.gsl_types.specs.declared.ty.Scalar.TheVariants.{Bool as Boolean}
use Rattle.gsl_values.specs.declared.op.BinaryOp.{BinaryOp}
use Rattle.gsl_tree.specs.Shapes.{Shape, flag}
use Rattle.gsl_words.specs.declared.module.Module.{Module}
use Rattle.gsl_spv.specs.Growing.{Extends}
use Rattle.gsl_spv.specs.Sections.{Sections}
use Rattle.gsl_lower_law.specs.Operands.{Fit}
use Rattle.gsl_lower_values.specs.Building.{Built, Step, behind}
use Rattle.gsl_lower_values.specs.Constructors.{operand}
use Rattle.gsl_lower_values.specs.Operators as operators
use Rattle.gsl_lower_values.specs.Types as types
use Rattle.gsl_lower_leaves.specs.Copies.{all_compared, compared, compared_whole, joined_by, of_none, one_more}
use Rattle.gsl_lower_leaves.specs.declared.leaf.Leaf.{Leaf}
use Rattle.gsl_lower_places.specs.Reading.{extracted}
use Rattle.gsl_fitting.specs.Fits.{Frame}
use Rattle.gsl_fitting_types.specs.Making.{AreSorted, IsConstant, IsTypeOf, Sorts, made}
use Rattle.gsl_fitting_types.proofs.Knowing.{type_later}
use Rattle.gsl_fitting_types.proofs.Sorting.{sorts_then, stays_same}
use Rattle.gsl_fitting_types.proofs.Stepping.{Wider, comes_so, comes_then, given_comes}
use Rattle.gsl_fitting_types.proofs.Types.{scalar_constant_comes, scalar_constant_sorts, type_comes, type_sorts}
use Rattle.gsl_fitting_operators.specs.Operands.{Suits, pair_shape}
use Rattle.gsl_fitting_operators.proofs.Operators.{fixed_value, value_later}
use Rattle.gsl_fitting_operators.proofs.Pairs.{binary_fits, binary_sorts, logical_fits, logical_sorts}
use Rattle.gsl_fitting_places.proofs.Moves.{F, G, V}
use Rattle.gsl_fitting_places.proofs.Parting.{extracted_sorts}
use Rattle.gsl_fitting_leaves.specs.Wholes.{Equates, HaveLeaf, HaveLeaves}
use Rattle.gsl_fitting_leaves.proofs.Copying.{leaf_fits, part_later}

-- ---- they sort

abbrev with_both : BinaryOp → ℕ → ℕ → Leaf → ℕ → ℕ → Step ℕ
with_both which a b one type x s = behind (extracted b type one.path s) (λ y. operators.binary which (operand one.shape x) (operand one.shape y))

abbrev with_type : BinaryOp → ℕ → ℕ → Leaf → ℕ → Step ℕ
with_type which a b one type s = behind (extracted a type one.path s) (with_both which a b one type)

both_sorts : (which : BinaryOp) (a b : ℕ) (one : Leaf) (type x : ℕ) (s : Sections) → Sorts s (with_both which a b one type x s)
both_sorts which a b one type x s =
    sorts_then s (extracted b type one.path s) (λ y. operators.binary which (operand one.shape x) (operand one.shape y)) (extracted_sorts b type one.path s) (λ y t. binary_sorts which (operand one.shape x) (operand one.shape y) t)

with_sorts : (which : BinaryOp) (a b : ℕ) (one : Leaf) (type : ℕ) (s : Sections) → Sorts s (with_type which a b one type s)
with_sorts which a b one type s = sorts_then s (extracted a type one.path s) (with_both which a b one type) (extracted_sorts a type one.path s) (λ x t. both_sorts which a b one type x t)

compared_sorts : (which : BinaryOp) (a b : ℕ) (one : Leaf) (s : Sections) → Sorts s (compared which a b one s)
unfolding compared
compared_sorts which a b one s = sorts_then s (types.type_of one.shape s) (with_type which a b one) (type_sorts one.shape s) (λ type t. with_sorts which a b one type t)

more_sorts : (which : BinaryOp) (a b so_far : ℕ) (one : Leaf) (s : Sections) → Sorts s (one_more which a b so_far one s)
unfolding one_more
more_sorts which a b so_far one s = sorts_then s (compared which a b one s) (operators.logical (joined_by which) so_far) (compared_sorts which a b one s) (λ y t. logical_sorts (joined_by which) so_far y t)

all_sorts : (which : BinaryOp) (a b so_far : ℕ) (leaves : List Leaf) (s : Sections) → Sorts s (all_compared which a b so_far leaves s)
unfolding all_compared
all_sorts which a b so_far [] s = stays_same s
all_sorts which a b so_far (one ∷ more) s = sorts_then s (one_more which a b so_far one s) (λ both. all_compared which a b both more) (more_sorts which a b so_far one s) (λ both t. all_sorts which a b both more t)

pub equality_sorts : (which : BinaryOp) (a b : ℕ) (leaves : List Leaf) (s : Sections) → Sorts s (compared_whole which a b leaves s)
unfolding compared_whole
equality_sorts which a b [] s = scalar_constant_sorts Boolean (of_none which) s
equality_sorts which a b (one ∷ more) s = sorts_then s (compared which a b one s) (λ first. all_compared which a b first more) (compared_sorts which a b one s) (λ first t. all_sorts which a b first more t)

-- ---- what equality takes and gives

equal_fits : (which : BinaryOp) (n : ℕ) → Equates which → Fit which n n
equal_fits which n (inl e) = subst (λ w. Fit w n n) (sym e) refl
equal_fits which n (inr e) = subst (λ w. Fit w n n) (sym e) refl

equal_suits : (which : BinaryOp) (shape : Shape) → Equates which → Suits which shape.0 shape.0
equal_suits which shape (inl e) = subst (λ w. Suits w shape.0 shape.0) (sym e) refl
equal_suits which shape (inr e) = subst (λ w. Suits w shape.0 shape.0) (sym e) refl

equal_gives : (which : BinaryOp) (shape : Shape) → Equates which → pair_shape which shape shape ≡ flag
equal_gives which shape (inl e) = ap (λ w. pair_shape w shape shape) e
equal_gives which shape (inr e) = ap (λ w. pair_shape w shape shape) e

module _ (whole : Sections) (main : ℕ) (local_size : List ℕ) (rank : ℕ → ℕ) (f : Frame) (sorted : AreSorted whole) where
  abbrev m : Module
  m = made whole main local_size rank f

  abbrev D : List ℕ → Shape → Sections → Built ℕ → Type 0
  D given shape before built = F whole main local_size rank f sorted given (G whole main local_size rank f sorted shape) before built

  abbrev H : Shape → ℕ → List ℕ → Sections → Type 0
  H shape = G whole main local_size rank f sorted shape

  compared_fits : (given : List ℕ) (which : BinaryOp) (a b : ℕ) (one : Leaf) (before : Sections) → Equates which → HaveLeaf whole main local_size rank f given a b one → D given flag before (compared which a b one before)
  unfolding compared
  compared_fits given which a b one before equal k =
      comes_then whole main local_size rank f given (λ type now after. IsTypeOf after one.shape type) (H flag) before (types.type_of one.shape before) (with_type which a b one) (type_sorts one.shape before)
      (type_comes whole main local_size rank f sorted given one.shape before k.first.is) (λ type t. with_sorts which a b one type t)
      (λ type t now of wider extends inside. comes_then whole main local_size rank f now (H one.shape) (H flag) t (extracted a type one.path t) (with_both which a b one type) (extracted_sorts a type one.path t)
      (leaf_fits whole main local_size rank f sorted now a one type t of (part_later whole main local_size rank f sorted given now a one.path one.shape None wider k.first)) (λ x u. both_sorts which a b one type x u)
      (λ x u later v wider_on extends_on inside_on. comes_then whole main local_size rank f later (H one.shape) (H flag) u (extracted b type one.path u) (λ y. operators.binary which (operand one.shape x) (operand one.shape y)) (extracted_sorts b type one.path u)
      (leaf_fits whole main local_size rank f sorted later b one type u (type_on t u one.shape type extends_on of) (part_later whole main local_size rank f sorted given later b one.path one.shape None (λ id h. wider_on id (wider id h)) k.second))
      (λ y w. binary_sorts which (operand one.shape x) (operand one.shape y) w)
      (λ y w last z wide extends_last inside_last. subst (λ shape. D last shape w (operators.binary which (operand one.shape x) (operand one.shape y) w)) (equal_gives which one.shape equal)
      (binary_fits whole main local_size rank f sorted last which (operand one.shape x) (operand one.shape y) w k.first.is k.first.is (equal_fits which one.shape.1 equal) (equal_suits which one.shape equal)
      (value_later whole main local_size rank f sorted later last one.shape x wide v) z))))
    where
      type_on : (a b : Sections) (shape : Shape) (id : ℕ) → Extends a b → IsTypeOf a shape id → IsTypeOf b shape id
      type_on a b shape id extends is = type_later a b shape id extends is

  have_later : (given now : List ℕ) (a b : ℕ) (leaves : List Leaf) → Wider given now → HaveLeaves whole main local_size rank f given a b leaves → HaveLeaves whole main local_size rank f now a b leaves
  have_later given now a b [] wider all = tt
  have_later given now a b (one ∷ leaves) wider all =
      (record { first = part_later whole main local_size rank f sorted given now a one.path one.shape None wider all.0.first; second = part_later whole main local_size rank f sorted given now b one.path one.shape None wider all.0.second }, have_later given now a b leaves wider all.1)

  more_fits : (given : List ℕ) (which : BinaryOp) (a b so_far : ℕ) (one : Leaf) (before : Sections) → Equates which → HaveLeaf whole main local_size rank f given a b one → V whole main local_size rank f sorted given flag so_far → D given flag before (one_more which a b so_far one before)
  unfolding one_more
  more_fits given which a b so_far one before equal k v =
      comes_then whole main local_size rank f given (H flag) (H flag) before (compared which a b one before) (operators.logical (joined_by which) so_far) (compared_sorts which a b one before) (compared_fits given which a b one before equal k)
      (λ y t. logical_sorts (joined_by which) so_far y t)
      (λ y t now is wider extends inside. logical_fits whole main local_size rank f sorted now (joined_by which) so_far y t (value_later whole main local_size rank f sorted given now flag so_far wider v) is)

  all_fits : (given : List ℕ) (which : BinaryOp) (a b so_far : ℕ) (leaves : List Leaf) (before : Sections) → Equates which → HaveLeaves whole main local_size rank f given a b leaves → V whole main local_size rank f sorted given flag so_far → D given flag before (all_compared which a b so_far leaves before)
  unfolding all_compared
  all_fits given which a b so_far [] before equal all v = given_comes whole main local_size rank f given (H flag) so_far before (λ inside. v)
  all_fits given which a b so_far (one ∷ leaves) before equal all v =
      comes_then whole main local_size rank f given (H flag) (H flag) before (one_more which a b so_far one before) (λ both. all_compared which a b both leaves) (more_sorts which a b so_far one before) (more_fits given which a b so_far one before equal all.0 v)
      (λ both t. all_sorts which a b both leaves t)
      (λ both t now is wider extends inside. all_fits now which a b both leaves t equal (have_later given now a b leaves wider all.1) is)

  pub equality_comes : (given : List ℕ) (which : BinaryOp) (a b : ℕ) (leaves : List Leaf) (before : Sections) → Equates which → HaveLeaves whole main local_size rank f given a b leaves → D given flag before (compared_whole which a b leaves before)
  unfolding compared_whole
  equality_comes given which a b [] before equal all =
      comes_so whole main local_size rank f given (λ id now after. IsConstant after flag id) (H flag) before (types.scalar_constant Boolean (of_none which) before) (λ id now after inside is. fixed_value whole main local_size rank f sorted now flag id after is inside)
      (scalar_constant_comes whole main local_size rank f sorted given Boolean (of_none which) before)
  equality_comes given which a b (one ∷ leaves) before equal all =
      comes_then whole main local_size rank f given (H flag) (H flag) before (compared which a b one before) (λ first. all_compared which a b first leaves) (compared_sorts which a b one before) (compared_fits given which a b one before equal all.0)
      (λ first t. all_sorts which a b first leaves t)
      (λ first t now is wider extends inside. all_fits now which a b first leaves t equal (have_later given now a b leaves wider all.1) is)
