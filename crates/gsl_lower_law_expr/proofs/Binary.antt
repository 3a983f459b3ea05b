-- Operators on two values.
use Rattle.std.proofs.Common.{◌≡◌, refl, sym, ap, ◌∙◌, subst, inl, inr, ℕ, Bool, true, false, ◌||◌, List, [], ◌∷◌, Option, Some, None, IsTrue}
use Rattle.std.specs.Prelude.{unwrap_or}
use Rattle.gsl_base.specs.declared.input.Input.{Input}
use Rattle.gsl_types.specs.declared.ty.Scalar.TheVariants.{Int}
use Rattle.gsl_types.specs.declared.ty.StructType.{StructType}
use Rattle.gsl_types.specs.declared.ty.Ty.{Ty}
use Rattle.gsl_words.specs.declared.module.Module.{Module}
use Rattle.gsl_values.specs.declared.op.BinaryOp.{BinaryOp}
use Rattle.gsl_values.specs.declared.op.BinaryOp.TheVariants.{Equal, Unequal}
use Rattle.gsl_values.specs.declared.value.Value.{Value}
use Rattle.gsl_values.specs.declared.value.Value.TheVariants.{Word}
use Rattle.gsl_tree.specs.Around.{Around}
use Rattle.gsl_tree.specs.Expressions.{IsBinary}
use Rattle.gsl_tree.specs.Operations.{binary_value, is_signed, is_signed_scalar}
use Rattle.gsl_tree.specs.Shapes.{Shape, is_equality, shape_of}
use Rattle.gsl_tree.specs.Values.{is_value_of, same_value}
use Rattle.gsl_tree.specs.declared.program.Program.{Program}
use Rattle.gsl_meaning.specs.Expressions.{binary as means_binary}
use Rattle.gsl_meaning.specs.Running.{Run, drawing}
use Rattle.gsl_meaning.specs.Running as shader_run
use Rattle.gsl_meaning.specs.State as shader
use Rattle.gsl_machine.specs.State.{State}
use Rattle.gsl_spv.specs.Sections.{Sections}
use Rattle.gsl_lower_values.specs.Building.{◌>>=◌}
use Rattle.gsl_lower_values.specs.Constructors.{operand}
use Rattle.gsl_lower_leaves.specs.Copies.{all_compared, compared, compared_whole, joined_by, of_none, one_more}
use Rattle.gsl_lower_leaves.specs.Leaves.{leaves_of}
use Rattle.gsl_lower_leaves.specs.declared.leaf.Leaf.{Leaf}
use Rattle.gsl_lower_values.specs.Operators.{binary as binary_step, logical}
use Rattle.gsl_lower_values.specs.Types.{type_of}
use Rattle.gsl_lower_places.specs.Reading.{extracted}
use Rattle.gsl_lower_law.specs.Computing.{Computes}
use Rattle.gsl_lower_law.specs.Operands.{Fit}
use Rattle.gsl_lower_law.specs.Values.{Stands}
use Rattle.gsl_lower_law.proofs.Constants.{scalar_stands}
use Rattle.gsl_lower_law_leaves.specs.Equal.{told}
use Rattle.gsl_lower_law_leaves.proofs.Compared.{whole_computes}
use Rattle.gsl_lower_law_leaves.proofs.Structs.{values_agree}
use Rattle.gsl_lower_follows.proofs.OfLawOperators.{binary_computes}
use Rattle.gsl_lower_follows.proofs.OfLawPlaces.{extracted_grows}
use Rattle.gsl_lower_holders.specs.Flow.{Flow, lift}
use Rattle.gsl_lower_expr.specs.Parts.{Lower, binary, binary_by, binary_of, shape_or}
use Rattle.gsl_lower_follows.specs.Frames.{Frame, Good}
use Rattle.gsl_lower_follows.specs.Giving.{Does, GivesValue, HasGiven, none_waits}
use Rattle.gsl_lower_follows.proofs.Drawn.{computed_given}
use Rattle.gsl_lower_follows.proofs.Fetching.{no_state}
use Rattle.gsl_lower_follows.proofs.Growing.{adds_lift}
use Rattle.gsl_lower_law_expr.specs.Known.{Operates}
use Rattle.gsl_lower_law_expr.proofs.Operands.{two_give}
use Rattle.gsl_lower_law_expr.proofs.Shapes.{operation_fits, signed_shape, value_shape}
use Rattle.gsl_lower_law_expr.proofs.Steps.{Always, always_binary, always_given, always_logical, always_then, always_type}

true_is : (b : Bool) → IsTrue b → b ≡ true
true_is b e = e

pub shape_is : (t : Ty) (shape : Shape) → shape_of t ≡ Some shape → shape_or t ≡ shape
shape_is t shape is = ap (λ (o : Option Shape). unwrap_or o (Int, 1)) is

module _ (m : Module) (input : Input) (whole : Sections) where
  always_compared : (which : BinaryOp) (a b : ℕ) (one : Leaf) → Always (compared which a b one)
  unfolding compared
  always_compared which a b one =
      always_then m input whole (type_of one.shape) (λ type. extracted a type one.path >>= (λ x. extracted b type one.path >>= (λ y. binary_step which (operand one.shape x) (operand one.shape y)))) (always_type m input whole one.shape)
      (λ type. always_then m input whole (extracted a type one.path) (λ x. extracted b type one.path >>= (λ y. binary_step which (operand one.shape x) (operand one.shape y))) (λ before. extracted_grows m input whole a type one.path no_state before)
      (λ x. always_then m input whole (extracted b type one.path) (λ y. binary_step which (operand one.shape x) (operand one.shape y)) (λ before. extracted_grows m input whole b type one.path no_state before) (λ y. always_binary m input whole which (operand one.shape x) (operand one.shape y))))

  always_more : (which : BinaryOp) (a b so_far : ℕ) (one : Leaf) → Always (one_more which a b so_far one)
  unfolding one_more
  always_more which a b so_far one = always_then m input whole (compared which a b one) (logical (joined_by which) so_far) (always_compared which a b one) (λ id. always_logical m input whole (joined_by which) so_far id)

  always_all : (which : BinaryOp) (a b so_far : ℕ) (leaves : List Leaf) → Always (all_compared which a b so_far leaves)
  unfolding all_compared
  always_all which a b so_far [] = always_given m input whole so_far
  always_all which a b so_far (one ∷ more) = always_then m input whole (one_more which a b so_far one) (λ both. all_compared which a b both more) (always_more which a b so_far one) (λ both. always_all which a b both more)

  always_whole : (which : BinaryOp) (a b : ℕ) (leaves : List Leaf) → Always (compared_whole which a b leaves)
  unfolding compared_whole
  always_whole which a b [] = λ before. (scalar_stands m input whole _ (of_none which) no_state before).grows
  always_whole which a b (one ∷ more) = always_then m input whole (compared which a b one) (λ first. all_compared which a b first more) (always_compared which a b one) (λ first. always_all which a b first more)

  always_of : (structs : List StructType) (which : BinaryOp) (left right : Ty) (x y : ℕ) → Always (binary_of structs which left right x y)
  always_of structs which left right x y = by (shape_of left)
    where
      by : (o : Option Shape) → Always (binary_by structs which left right x y o)
      by None = always_whole which x y (leaves_of structs left)
      by (Some shape) = always_binary m input whole which (operand (shape_or left) x) (operand (shape_or right) y)

  module _ (f : Frame m input whole) (p : Program) (around : Around) where
    equal_told : (which : BinaryOp) (signed : Bool) (v w : Value) (choices : List ℕ) → is_equality which ≡ true → binary_value which signed v w choices ≡ (Word (told which (same_value v w)), choices)
    equal_told Equal signed v w choices e = refl
    equal_told Unequal signed v w choices e = refl
    equal_told _ signed v w choices e = absurd cc

    module _ (which : BinaryOp) (left right ty : Ty) (known : Operates p around which left right ty) where
      computes_shaped : (x y : Shape) (i j : ℕ) (v w : Value) (state : State) (before : Sections) → shape_of left ≡ Some x → shape_of right ≡ Some y → Fit which x.1 y.1 → is_value_of p.structs left v ≡ true → is_value_of p.structs right w ≡ true → Stands state.ids i v → Stands state.ids j w
          → Computes m input whole (binary_value which (is_signed left) v w state.choices) state before (binary_step which (operand (shape_or left) i) (operand (shape_or right) j))
      computes_shaped x y i j v w state before is_x is_y fit typed_v typed_w stands_v stands_w =
          let a = value_shape p.structs left x v known.are known.sound_left is_x typed_v in
          let b = value_shape p.structs right y w known.are known.sound_right is_y typed_w in
          subst (λ signed. Computes m input whole (binary_value which signed v w state.choices) state before (binary_step which (operand (shape_or left) i) (operand (shape_or right) j))) (sym (signed_shape left x is_x))
          (subst (λ s. Computes m input whole (binary_value which (is_signed_scalar x.0) v w state.choices) state before (binary_step which (operand s i) (operand (shape_or right) j))) (sym (shape_is left x is_x))
          (subst (λ t. Computes m input whole (binary_value which (is_signed_scalar x.0) v w state.choices) state before (binary_step which (operand x i) (operand t j))) (sym (shape_is right y is_y))
          (binary_computes m input whole (operand x i) (operand y j) v w state before a.1 b.1 a.0 b.0 stands_v stands_w which fit)))

      same_fits : (which : BinaryOp) (n : ℕ) → is_equality which ≡ true → Fit which n n
      same_fits Equal n e = refl
      same_fits Unequal n e = refl
      same_fits _ n e = absurd cc

      computes_of : (i j : ℕ) (v w : Value) (state : State) (before : Sections) → is_value_of p.structs left v ≡ true → is_value_of p.structs right w ≡ true → Stands state.ids i v → Stands state.ids j w
          → Computes m input whole (binary_value which (is_signed left) v w state.choices) state before (binary_of p.structs which left right i j)
      computes_of i j v w state before typed_v typed_w stands_v stands_w = by (shape_of left) refl known.operands
        where
          by : (o : Option Shape) → shape_of left ≡ o → IsBinary around which left right ty → Computes m input whole (binary_value which (is_signed left) v w state.choices) state before (binary_by p.structs which left right i j o)
          by (Some x) is (inl e) = computes_shaped x x i j v w state before is (ap shape_of (sym e.1.0) ∙ is) (same_fits which x.1 (true_is (is_equality which) e.0)) typed_v typed_w stands_v stands_w
          by (Some x) is (inr e) = computes_shaped e.0 e.1 i j v w state before e.3 e.4 (operation_fits which e.0 e.1 e.2 e.5) typed_v typed_w stands_v stands_w
          by None is (inl e) =
              let typed_other : is_value_of p.structs left w ≡ true = subst (λ t. is_value_of p.structs t w ≡ true) (sym e.1.0) typed_w in
              let agree = values_agree p.structs left known.are known.sound_left v w typed_v typed_other in
              let other = values_agree p.structs left known.are known.sound_left w v typed_other typed_v in
              subst (λ answer. Computes m input whole answer state before (compared_whole which i j (leaves_of p.structs left))) (ap (λ same. (Word (told which same), state.choices)) (sym agree.1) ∙ sym (equal_told which (is_signed left) v w state.choices (true_is (is_equality which) e.0)))
              (whole_computes m input whole which (true_is (is_equality which) e.0) i j (leaves_of p.structs left) v w state before stands_v stands_w agree.0 other.0)
          by None is (inr e) = absurd (let no_shape : None ≡ Some e.0 = sym is ∙ e.3 in cc)

      operated : (i j : ℕ) (v w : Value) (b : Flow) (s : shader.State) (units : ℕ) (state : State) → Good m input whole f p around b s state → is_value_of p.structs left v ≡ true → is_value_of p.structs right w ≡ true → Stands state.ids i v → Stands state.ids j w
          → Does m input whole f p 0 units state (HasGiven m input whole f p around false ty b state) none_waits (drawing (binary_value which (is_signed left) v w) s units) (lift (binary_of p.structs which left right i j) b)
      operated i j v w b s units state good typed_v typed_w stands_v stands_w =
          computed_given m input whole f p around ty (binary_value which (is_signed left) v w) (binary_of p.structs which left right i j) (λ b. always_of p.structs which left right i j b.sections) (λ choices are. known.gives v w choices are typed_v typed_w) b s units state good
          (computes_of i j v w state b.sections typed_v typed_w stands_v stands_w)

    -- An operator on the values of two expressions.
    pub binary_gives : (which : BinaryOp) (a b : Lower) (ty : Ty) (x y : Run Value) → Operates p around which a.ty b.ty ty → GivesValue m input whole f p around a.traits.splits a.ty a.value x → GivesValue m input whole f p around b.traits.splits b.ty b.value y
        → GivesValue m input whole f p around (a.traits.splits || b.traits.splits) ty (binary p.structs which a b) (means_binary ty x y (binary_value which (is_signed a.ty)))
    binary_gives which a b ty x y known first second =
        two_give m input whole f p around a.traits.splits b.traits.splits a.ty b.ty ty a.value b.value x y (λ i j. lift (binary_of p.structs which a.ty b.ty i j)) (λ v w. drawing (binary_value which (is_signed a.ty) v w)) (λ v. shader_run.◌>>=◌ y (λ w. drawing (binary_value which (is_signed a.ty) v w))) known.real_left known.real_right first second
        (λ i j. adds_lift (binary_of p.structs which a.ty b.ty i j) (λ now. always_of p.structs which a.ty b.ty i j now.sections))
        (operated which a.ty b.ty ty known)
        (λ v s units typed are. refl)
