-- Leaves that are compared one behind the other.
use Rattle.std.proofs.Common.{◌≡◌, refl, subst, ℕ, ◌<◌, ◌≤◌, Bool, true, false, ◌&&◌, List, [], ◌∷◌, arith}
use Rattle.std.proofs.lemmas.Bool.{false≢true}
use Rattle.gsl_base.specs.declared.input.Input.{Input}
use Rattle.gsl_types.specs.declared.ty.Scalar.TheVariants.{Bool as Boolean}
use Rattle.gsl_words.specs.declared.module.Module.{Module}
use Rattle.gsl_values.specs.declared.op.BinaryOp.{BinaryOp}
use Rattle.gsl_values.specs.declared.op.BinaryOp.TheVariants.{Equal, Unequal}
use Rattle.gsl_values.specs.declared.value.Value.{Value}
use Rattle.gsl_values.specs.declared.value.Value.TheVariants.{Word}
use Rattle.gsl_tree.specs.Shapes.{is_equality}
use Rattle.gsl_tree.specs.Values.{same_value}
use Rattle.gsl_machine.specs.State.{State}
use Rattle.gsl_spv.specs.Sections.{Sections}
use Rattle.gsl_lower_values.specs.Building.{Step, given, ◌>>=◌}
use Rattle.gsl_lower_values.specs.Constructors.{operand}
use Rattle.gsl_lower_values.specs.Operators.{binary, logical}
use Rattle.gsl_lower_values.specs.Types.{type_of}
use Rattle.gsl_lower_places.specs.Reading.{extracted}
use Rattle.gsl_lower_leaves.specs.Copies.{all_compared, compared, compared_whole, joined_by, one_more}
use Rattle.gsl_lower_leaves.specs.declared.leaf.Leaf.{Leaf}
use Rattle.gsl_lower_law_places.specs.OfLaw.{Computes, Grows}
use Rattle.gsl_lower_law_places.specs.OfLaw.{logic_answer}
use Rattle.gsl_lower_law_places.specs.OfLaw.{IsOf, Stands}
use Rattle.gsl_lower_law_places.proofs.OfLaw.{scalar_stands}
use Rattle.gsl_lower_law_places.proofs.OfLaw.{does_then, given_does, grows_then}
use Rattle.gsl_lower_law_places.proofs.OfLaw.{IsType, type_does}
use Rattle.gsl_lower_law_places.proofs.OfLawConstructors.{where_all_stand, zeros_are, zeros_of}
use Rattle.gsl_lower_law_places.proofs.OfLawOperators.{binary_computes}
use Rattle.gsl_lower_law_places.proofs.OfLawOperators.{logical_computes}
use Rattle.gsl_lower_law_places.proofs.Loads.{extracted_does, extracted_grows}
use Rattle.gsl_lower_law_leaves.specs.Equal.{HasLeaves, leaf_in, same_leaves, told}

-- ---- what is told

told_small : (which : BinaryOp) (same : Bool) → is_equality which ≡ true → told which same < 2
told_small Equal true is = omega arith
told_small Equal false is = omega arith
told_small Unequal true is = omega arith
told_small Unequal false is = omega arith
told_small _ same is = absurd (false≢true is)

told_both : (which : BinaryOp) (a b : Bool) → is_equality which ≡ true → logic_answer (joined_by which) (told which a) (told which b) ≡ told which (a && b)
told_both Equal true b is = refl
told_both Equal false b is = refl
told_both Unequal true b is = refl
told_both Unequal false b is = refl
told_both _ a b is = absurd (false≢true is)

associates : (a b c : Bool) → ((a && b) && c) ≡ (a && (b && c))
associates true b c = refl
associates false b c = refl

module _ (m : Module) (input : Input) (whole : Sections) (which : BinaryOp) (is : is_equality which ≡ true) where
  -- two scalars or vectors of a shape
  pair_computes : (a b : ℕ) (one : Leaf) (v w : Value) (state : State) (before : Sections) → 1 ≤ one.shape.1 → IsOf one.shape v → IsOf one.shape w → Stands state.ids a v → Stands state.ids b w
      → Computes m input whole (Word (told which (same_value v w)), state.choices) state before (binary which (operand one.shape a) (operand one.shape b))
  pair_computes a b one v w state before some is_v is_w first second = by which is
    where
      by : (which : BinaryOp) → is_equality which ≡ true → Computes m input whole (Word (told which (same_value v w)), state.choices) state before (binary which (operand one.shape a) (operand one.shape b))
      by Equal is = binary_computes m input whole (operand one.shape a) (operand one.shape b) v w state before is_v is_w some some first second Equal refl
      by Unequal is = binary_computes m input whole (operand one.shape a) (operand one.shape b) v w state before is_v is_w some some first second Unequal refl
      by _ is = absurd (false≢true is)

  pair_grows : (a b : ℕ) (one : Leaf) (state : State) (before : Sections) → 1 ≤ one.shape.1 → Grows before (binary which (operand one.shape a) (operand one.shape b) before)
  pair_grows a b one state before some = (pair_computes a b one (zeros_of one.shape) (zeros_of one.shape) (where_all_stand state (zeros_of one.shape)) before some (zeros_are one.shape) (zeros_are one.shape) refl refl).grows

  leaf_grows : (a b : ℕ) (one : Leaf) (state : State) (before : Sections) → 1 ≤ one.shape.1 → Grows before (compared which a b one before)
  unfolding compared
  leaf_grows a b one state before some =
      grows_then m input whole before (type_of one.shape before) (λ type. extracted a type one.path >>= (λ x. extracted b type one.path >>= (λ y. binary which (operand one.shape x) (operand one.shape y)))) (type_does m input whole one.shape state before).grows
      (λ type between. grows_then m input whole between (extracted a type one.path between) (λ x. extracted b type one.path >>= (λ y. binary which (operand one.shape x) (operand one.shape y))) (extracted_grows m input whole a type one.path state between)
      (λ x later. grows_then m input whole later (extracted b type one.path later) (λ y. binary which (operand one.shape x) (operand one.shape y)) (extracted_grows m input whole b type one.path state later) (λ y last. pair_grows x y one state last some)))

  leaf_computes : (a b : ℕ) (one : Leaf) (v w : Value) (state : State) (before : Sections) → 1 ≤ one.shape.1 → IsOf one.shape (leaf_in v one) → IsOf one.shape (leaf_in w one) → Stands state.ids a v → Stands state.ids b w
      → Computes m input whole (Word (told which (same_value (leaf_in v one) (leaf_in w one))), state.choices) state before (compared which a b one)
  unfolding compared
  leaf_computes a b one v w state before some is_v is_w first second =
      does_then m input whole (IsType m input whole one.shape) (λ id ids. Stands ids id result) state.choices state.choices state before (type_of one.shape) behind_type
      (type_does m input whole one.shape state before)
      (λ type between. type_grows type between)
      (λ type between ids typed keeps.
      does_then m input whole (λ id ids. Stands ids id (leaf_in v one)) (λ id ids. Stands ids id result) state.choices state.choices (record state { ids = ids }) between (extracted a type one.path) (behind_first type)
      (extracted_does m input whole a type one.path v (record state { ids = ids }) between (keeps.same a _ first))
      (λ x later. first_grows type x later)
      (λ x later now is_x kept.
      does_then m input whole (λ id ids. Stands ids id (leaf_in w one)) (λ id ids. Stands ids id result) state.choices state.choices (record state { ids = now }) later (extracted b type one.path) (λ y. binary which (operand one.shape x) (operand one.shape y))
      (extracted_does m input whole b type one.path w (record state { ids = now }) later (kept.same b _ (keeps.same b _ second)))
      (λ y last. pair_grows x y one state last some)
      (λ y last end is_y held. pair_computes x y one (leaf_in v one) (leaf_in w one) (record state { ids = end }) last some is_v is_w (held.same x _ is_x) is_y)))
    where
      result : Value
      result = Word (told which (same_value (leaf_in v one) (leaf_in w one)))

      behind_first : ℕ → ℕ → Step ℕ
      behind_first type x = extracted b type one.path >>= (λ y. binary which (operand one.shape x) (operand one.shape y))

      behind_type : ℕ → Step ℕ
      behind_type type = extracted a type one.path >>= behind_first type

      first_grows : (type x : ℕ) (later : Sections) → Grows later (behind_first type x later)
      first_grows type x later = grows_then m input whole later (extracted b type one.path later) (λ y. binary which (operand one.shape x) (operand one.shape y)) (extracted_grows m input whole b type one.path state later) (λ y last. pair_grows x y one state last some)

      type_grows : (type : ℕ) (between : Sections) → Grows between (behind_type type between)
      type_grows type between = grows_then m input whole between (extracted a type one.path between) (behind_first type) (extracted_grows m input whole a type one.path state between) (λ x later. first_grows type x later)

  -- ---- one leaf more

  join_grows : (a b : ℕ) (state : State) (before : Sections) → Grows before (logical (joined_by which) a b before)
  join_grows a b state before = (logical_computes m input whole (joined_by which) a b 0 0 (where_all_stand state (Word 0)) before (omega arith) (omega arith) refl refl).grows

  more_grows : (a b so_far : ℕ) (one : Leaf) (state : State) (before : Sections) → 1 ≤ one.shape.1 → Grows before (one_more which a b so_far one before)
  unfolding one_more
  more_grows a b so_far one state before some = grows_then m input whole before (compared which a b one before) (λ id. logical (joined_by which) so_far id) (leaf_grows a b one state before some) (λ id between. join_grows so_far id state between)

  more_computes : (a b so_far : ℕ) (same : Bool) (one : Leaf) (v w : Value) (state : State) (before : Sections) → 1 ≤ one.shape.1 → IsOf one.shape (leaf_in v one) → IsOf one.shape (leaf_in w one) → Stands state.ids a v → Stands state.ids b w → Stands state.ids so_far (Word (told which same))
      → Computes m input whole (Word (told which (same && same_value (leaf_in v one) (leaf_in w one))), state.choices) state before (one_more which a b so_far one)
  unfolding one_more
  more_computes a b so_far same one v w state before some is_v is_w first second far =
      does_then m input whole (λ id ids. Stands ids id (Word (told which (same_value (leaf_in v one) (leaf_in w one))))) (λ id ids. Stands ids id (Word (told which (same && same_value (leaf_in v one) (leaf_in w one))))) state.choices state.choices state before (compared which a b one) (λ id. logical (joined_by which) so_far id)
      (leaf_computes a b one v w state before some is_v is_w first second)
      (λ id between. join_grows so_far id state between)
      (λ id between ids there keeps. subst (λ n. Computes m input whole (Word n, state.choices) (record state { ids = ids }) between (logical (joined_by which) so_far id)) (told_both which same (same_value (leaf_in v one) (leaf_in w one)) is)
      (logical_computes m input whole (joined_by which) so_far id (told which same) (told which (same_value (leaf_in v one) (leaf_in w one))) (record state { ids = ids }) between (told_small which same is) (told_small which (same_value (leaf_in v one) (leaf_in w one)) is) (keeps.same so_far _ far) there))

  all_grow : (a b so_far : ℕ) (leaves : List Leaf) (v : Value) (state : State) (before : Sections) → HasLeaves v leaves → Grows before (all_compared which a b so_far leaves before)
  unfolding all_compared
  all_grow a b so_far [] v state before has = (given_does m input whole (λ id ids. Unit {0}) so_far state before tt).grows
  all_grow a b so_far (one ∷ more) v state before has =
      grows_then m input whole before (one_more which a b so_far one before) (λ both. all_compared which a b both more) (more_grows a b so_far one state before has.0.0) (λ both between. all_grow a b both more v state between has.1)

  all_compute : (a b so_far : ℕ) (same : Bool) (leaves : List Leaf) (v w : Value) (state : State) (before : Sections) → HasLeaves v leaves → HasLeaves w leaves → Stands state.ids a v → Stands state.ids b w → Stands state.ids so_far (Word (told which same))
      → Computes m input whole (Word (told which (same && same_leaves v w leaves)), state.choices) state before (all_compared which a b so_far leaves)
  unfolding all_compared
  all_compute a b so_far same [] v w state before has_v has_w first second far =
      subst (λ x. Computes m input whole (Word (told which x), state.choices) state before (given so_far)) (last same) (given_does m input whole (λ id ids. Stands ids id (Word (told which same))) so_far state before far)
    where
      last : (b : Bool) → b ≡ (b && true)
      last true = refl
      last false = refl
  all_compute a b so_far same (one ∷ more) v w state before has_v has_w first second far =
      subst (λ x. Computes m input whole (Word (told which x), state.choices) state before (one_more which a b so_far one >>= (λ both. all_compared which a b both more))) (associates same (same_value (leaf_in v one) (leaf_in w one)) (same_leaves v w more))
      (does_then m input whole (λ id ids. Stands ids id (Word (told which (same && same_value (leaf_in v one) (leaf_in w one))))) (λ id ids. Stands ids id (Word (told which ((same && same_value (leaf_in v one) (leaf_in w one)) && same_leaves v w more)))) state.choices state.choices state before (one_more which a b so_far one) (λ both. all_compared which a b both more)
      (more_computes a b so_far same one v w state before has_v.0.0 has_v.0.1 has_w.0.1 first second far)
      (λ both between. all_grow a b both more v state between has_v.1)
      (λ both between ids there keeps. all_compute a b both (same && same_value (leaf_in v one) (leaf_in w one)) more v w (record state { ids = ids }) between has_v.1 has_w.1 (keeps.same a _ first) (keeps.same b _ second) there))

  pub whole_computes : (a b : ℕ) (leaves : List Leaf) (v w : Value) (state : State) (before : Sections) → Stands state.ids a v → Stands state.ids b w → HasLeaves v leaves → HasLeaves w leaves
      → Computes m input whole (Word (told which (same_leaves v w leaves)), state.choices) state before (compared_whole which a b leaves)
  unfolding compared_whole
  whole_computes a b [] v w state before first second has_v has_w = none which is
    where
      none : (which : BinaryOp) → is_equality which ≡ true → Computes m input whole (Word (told which true), state.choices) state before (compared_whole which a b [])
      none Equal is = scalar_stands m input whole Boolean 1 state before
      none Unequal is = scalar_stands m input whole Boolean 0 state before
      none _ is = absurd (false≢true is)
  whole_computes a b (one ∷ more) v w state before first second has_v has_w =
      does_then m input whole (λ id ids. Stands ids id (Word (told which (same_value (leaf_in v one) (leaf_in w one))))) (λ id ids. Stands ids id (Word (told which (same_leaves v w (one ∷ more))))) state.choices state.choices state before (compared which a b one) (λ first. all_compared which a b first more)
      (leaf_computes a b one v w state before has_v.0.0 has_v.0.1 has_w.0.1 first second)
      (λ id between. all_grow a b id more v state between has_v.1)
      (λ id between ids there keeps. all_compute a b id (same_value (leaf_in v one) (leaf_in w one)) more v w (record state { ids = ids }) between has_v.1 has_w.1 (keeps.same a _ first) (keeps.same b _ second) there)
