-- Built-in functions on values of types give values of their types.
use Rattle.std.proofs.Common.{◌≡◌, refl, sym, ap, ◌∙◌, subst, ℕ, zero, suc, ◌+◌, ◌<◌, ◌≤◌, Bool, true, false, ◌&&◌, List, [], ◌∷◌, map, length, Option, Some, None, arith}
use Rattle.std.specs.Prelude.{nat_eq, slice_index}
use Rattle.std.specs.List.{list_all, list_any}
use Rattle.std.proofs.lemmas.Bool.{and_parts, eqb-true, false≢true, true≢false}
use Rattle.gsl_types.specs.declared.ty.Scalar.{Scalar}
use Rattle.gsl_types.specs.declared.ty.Scalar.TheVariants.{Bool as Boolean, Int, Uint}
use Rattle.gsl_types.specs.declared.ty.StructType.{StructType}
use Rattle.gsl_types.specs.declared.ty.Ty.{Ty}
use Rattle.gsl_values.specs.declared.function.Builtin.{Builtin}
use Rattle.gsl_values.specs.declared.function.Builtin.TheVariants as f
use Rattle.gsl_values.specs.declared.value.Value.{Value}
use Rattle.gsl_values.specs.Functions.{builtin_answer}
use Rattle.gsl_tree.specs.Expressions.{IsBuilt, shapes_of, shapes_with, types_of}
use Rattle.gsl_tree.specs.Operations.{builtin_each, builtin_value, builtin_words, component_at, first_count, first_words, is_true, of_words}
use Rattle.gsl_tree.specs.Shapes.{Shape, built_shape, flag, is_boolean, is_vector, of_shape, same_scalar, same_shape, shape_of}
use Rattle.gsl_tree.specs.Trees.{type_of}
use Rattle.gsl_tree.specs.Values.{all_pass, components_in, is_value_of, is_word_of}
use Rattle.gsl_tree.specs.declared.expr.Expr.{Expr}
use Rattle.gsl_typed_law.specs.Given.{AreChoices, Gives}
use Rattle.gsl_typed_law.proofs.Bounds.{first_of, when_is}
use Rattle.gsl_typed_law.proofs.Components.{AllFit, Fill, components_fill, some_same}
use Rattle.gsl_typed_law.proofs.Functions.{Answers, Needs, first_size, joins, shapes_built}
use Rattle.gsl_typed_law.proofs.Operators.{FillLeft, truth_given, words_given}

-- ---- the words of arguments

-- words of each of some shapes
abbrev pub FillEach : List Shape → List (List ℕ) → Type 0
FillEach [] [] = Unit {0}
FillEach [] (words ∷ more) = ⊥
FillEach (shape ∷ shapes) [] = ⊥
FillEach (shape ∷ shapes) (words ∷ more) = Fill shape words × FillEach shapes more

pub args_fill : (structs : List StructType) (args : List Expr) (vs : List Value) (shapes : List Shape) → shapes_of args ≡ Some shapes → all_pass (map (is_value_of structs) (types_of args)) vs ≡ true → FillEach shapes (map components_in vs)
args_fill structs [] [] shapes is pass = subst (λ l. FillEach l []) (some_same is) tt
args_fill structs [] (v ∷ vs) shapes is pass = absurd (false≢true pass)
args_fill structs (e ∷ es) [] shapes is pass = absurd (false≢true pass)
args_fill structs (e ∷ es) (v ∷ vs) shapes is pass =
    let both = and_parts (is_value_of structs (type_of e) v) (all_pass (map (is_value_of structs) (types_of es)) vs) pass in
    by (shape_of (type_of e)) (shapes_of es) refl (λ more same. args_fill structs es vs more same both.1) is
  where
    by : (o : Option Shape) (os : Option (List Shape)) → shape_of (type_of e) ≡ o → ((more : List Shape) → os ≡ Some more → FillEach more (map components_in vs)) → shapes_with o os ≡ Some shapes → FillEach shapes (map components_in (v ∷ vs))
    by None None first later is = absurd cc
    by None (Some more) first later is = absurd cc
    by (Some shape) None first later is = absurd cc
    by (Some shape) (Some more) first later is =
        subst (λ l. FillEach l (map components_in (v ∷ vs))) (some_same is)
        (components_fill structs (type_of e) shape v first (and_parts (is_value_of structs (type_of e) v) (all_pass (map (is_value_of structs) (types_of es)) vs) pass).0, later more refl)

first_filled : (shapes : List Shape) (args : List (List ℕ)) → FillEach shapes args → first_count args ≡ first_size shapes
first_filled [] [] fill = refl
first_filled [] (words ∷ args) fill = absurd fill
first_filled (shape ∷ shapes) [] fill = absurd fill
first_filled (shape ∷ shapes) (words ∷ args) fill = fill.0.0

pub index_fits : (s : Scalar) (words : List ℕ) (k : ℕ) → AllFit s words → k < length words → is_word_of s (slice_index words k) ≡ true
index_fits s [] k fit below = absurd (omega (arith, below))
index_fits s (word ∷ words) zero fit below = fit.0
index_fits s (word ∷ words) (suc k) fit below = index_fits s words k fit.1 (omega (arith, below))

component_fits : (shape : Shape) (words : List ℕ) (k : ℕ) → Fill shape words → k < shape.1 → is_word_of shape.0 (component_at k words) ≡ true
component_fits shape [] k fill below = absurd (omega (arith, fill.0, below))
component_fits shape (word ∷ []) k fill below = fill.1.0
component_fits shape (word ∷ next ∷ words) k fill below = index_fits shape.0 (word ∷ next ∷ words) k fill.1 (omega (arith, fill.0, below))

first_fits : (a : Shape) (shapes : List Shape) (args : List (List ℕ)) (k : ℕ) → FillEach (a ∷ shapes) args → k < a.1 → is_word_of a.0 (slice_index (map (component_at k) args) 0) ≡ true
first_fits a shapes [] k fill below = absurd fill
first_fits a shapes (words ∷ args) k fill below = component_fits a words k fill.0 below

second_fits : (a b : Shape) (shapes : List Shape) (args : List (List ℕ)) (k : ℕ) → FillEach (a ∷ b ∷ shapes) args → k < b.1 → is_word_of b.0 (slice_index (map (component_at k) args) 1) ≡ true
second_fits a b shapes [] k fill below = absurd fill
second_fits a b shapes (words ∷ args) k fill below = first_fits b shapes args k fill.1 below

scalar_is : (s t : Scalar) → same_scalar s t ≡ true → s ≡ t
scalar_is Boolean Boolean is = refl
scalar_is Int Int is = refl
scalar_is Uint Uint is = refl
scalar_is _ _ is = absurd (false≢true is)

mix_needs : (a b c z : Shape) (args : List (List ℕ)) (k : ℕ) → built_shape f.Mix (a ∷ b ∷ c ∷ []) ≡ Some z → FillEach (a ∷ b ∷ c ∷ []) args → k < z.1 → Needs f.Mix z.0 (map (component_at k) args)
mix_needs a b c z args k e fill below =
    let w = when_is (same_shape a b && is_boolean c.0 && nat_eq c.1 a.1) a z e in
    let same = first_of (same_shape a b) (is_boolean c.0) (first_of (same_shape a b && is_boolean c.0) (nat_eq c.1 a.1) w.0) in
    let parts = and_parts (same_scalar a.0 b.0) (nat_eq a.1 b.1) same in
    let low : k < a.1 = subst (λ (q : Shape). k < q.1) (sym w.1) below in
    let second = second_fits a b (c ∷ []) args k fill (subst (λ n. k < n) (eqb-true a.1 b.1 parts.1) low) in
    subst (λ (q : Shape). Needs f.Mix q.0 (map (component_at k) args)) w.1 (first_fits a (b ∷ c ∷ []) args k fill low, subst (λ s. is_word_of s (slice_index (map (component_at k) args) 1) ≡ true) (sym (scalar_is a.0 b.0 parts.0)) second)

built_needs : (which : Builtin) (shapes : List Shape) (z : Shape) (args : List (List ℕ)) (k : ℕ) → built_shape which shapes ≡ Some z → FillEach shapes args → k < z.1 → Needs which z.0 (map (component_at k) args)
built_needs f.Mix [] z args k e fill below = absurd cc
built_needs f.Mix (a ∷ []) z args k e fill below = absurd cc
built_needs f.Mix (a ∷ b ∷ []) z args k e fill below = absurd cc
built_needs f.Mix (a ∷ b ∷ c ∷ []) z args k e fill below = mix_needs a b c z args k e fill below
built_needs f.Mix (a ∷ b ∷ c ∷ d ∷ []) z args k e fill below = absurd cc
built_needs f.Mix (a ∷ b ∷ c ∷ d ∷ x ∷ rest) z args k e fill below = absurd cc
built_needs _ shapes z args k e fill below = tt

-- ---- component by component

each_fill : (which : Builtin) (signed : Bool) (args : List (List ℕ)) (z : Shape) → Answers which z.0 → ((k : ℕ) → k < z.1 → Needs which z.0 (map (component_at k) args))
    → (count from : ℕ) (choices : List ℕ) → from + count ≤ z.1 → AreChoices choices → FillLeft (z.0, count) (builtin_each which signed args count from choices)
each_fill which signed args z answers needs zero from choices within are = ((refl, tt), are)
each_fill which signed args z answers needs (suc count) from choices within are =
    let here = answers signed (map (component_at from) args) choices (needs from (omega (arith, within))) are in
    let more = each_fill which signed args z answers needs count (from + 1) (builtin_answer which signed (map (component_at from) args) choices).1 (omega (arith, within)) here.1 in
    ((ap suc more.0.0, (here.0, more.0.1)), more.1)

each_words : (which : Builtin) (signed : Bool) (args : List (List ℕ)) (choices : List ℕ) → joins which ≡ false → builtin_words which signed args choices ≡ of_words (builtin_each which signed args (first_count args) 0 choices)
each_words f.Any signed args choices is = absurd (true≢false is)
each_words f.All signed args choices is = absurd (true≢false is)
each_words _ signed args choices is = refl

joined_flag : (which : Builtin) (shapes : List Shape) (z : Shape) → joins which ≡ true → built_shape which shapes ≡ Some z → flag ≡ z
joined_flag f.Any (a ∷ []) z is e = (when_is (is_boolean a.0 && is_vector a) flag z e).1
joined_flag f.All (a ∷ []) z is e = (when_is (is_boolean a.0 && is_vector a) flag z e).1
joined_flag f.Any [] z is e = absurd cc
joined_flag f.All [] z is e = absurd cc
joined_flag f.Any (a ∷ b ∷ []) z is e = absurd cc
joined_flag f.All (a ∷ b ∷ []) z is e = absurd cc
joined_flag f.Any (a ∷ b ∷ c ∷ []) z is e = absurd cc
joined_flag f.All (a ∷ b ∷ c ∷ []) z is e = absurd cc
joined_flag f.Any (a ∷ b ∷ c ∷ d ∷ []) z is e = absurd cc
joined_flag f.All (a ∷ b ∷ c ∷ d ∷ []) z is e = absurd cc
joined_flag f.Any (a ∷ b ∷ c ∷ d ∷ x ∷ rest) z is e = absurd cc
joined_flag f.All (a ∷ b ∷ c ∷ d ∷ x ∷ rest) z is e = absurd cc
joined_flag _ shapes z is e = absurd (false≢true is)

module _ (structs : List StructType) (signed : Bool) (choices : List ℕ) (are : AreChoices choices) (t : Ty) (shapes : List Shape) (z : Shape) (args : List (List ℕ)) (fill : FillEach shapes args) (gives : of_shape z ≡ t) where
  joined_given : (which : Builtin) → joins which ≡ true → built_shape which shapes ≡ Some z → Gives structs t (builtin_words which signed args choices)
  joined_given f.Any is e = subst (λ u. Gives structs u (builtin_words f.Any signed args choices)) (ap of_shape (joined_flag f.Any shapes z is e) ∙ gives) (truth_given structs (list_any is_true (first_words args)) choices are)
  joined_given f.All is e = subst (λ u. Gives structs u (builtin_words f.All signed args choices)) (ap of_shape (joined_flag f.All shapes z is e) ∙ gives) (truth_given structs (list_all is_true (first_words args)) choices are)
  joined_given _ is e = absurd (false≢true is)

  each_given : (which : Builtin) → joins which ≡ false → built_shape which shapes ≡ Some z → Gives structs t (builtin_words which signed args choices)
  each_given which is e =
      let built = shapes_built which shapes z is e in
      let count : first_count args ≡ z.1 = first_filled shapes args fill ∙ built.1 in
      let each = each_fill which signed args z built.0 (λ k below. built_needs which shapes z args k e fill below) (first_count args) 0 choices (omega (arith, count)) are in
      subst (Gives structs t) (sym (each_words which signed args choices is))
      (words_given structs z t (builtin_each which signed args (first_count args) 0 choices) gives (subst (λ n. FillLeft (z.0, n) (builtin_each which signed args (first_count args) 0 choices)) count each))

  pub words_typed : (which : Builtin) → built_shape which shapes ≡ Some z → Gives structs t (builtin_words which signed args choices)
  words_typed which e = by (joins which) refl
    where
      by : (b : Bool) → joins which ≡ b → Gives structs t (builtin_words which signed args choices)
      by true is = joined_given which is e
      by false is = each_given which is e

pub builtin_typed : (structs : List StructType) (which : Builtin) (signed : Bool) (args : List Expr) (t : Ty) (vs : List Value) (choices : List ℕ) → IsBuilt which args t → all_pass (map (is_value_of structs) (types_of args)) vs ≡ true
    → AreChoices choices → Gives structs t (builtin_value which signed vs choices)
builtin_typed structs which signed args t vs choices (shapes, shape, is, takes, gives) pass are = words_typed structs signed choices are t shapes shape (map components_in vs) (args_fill structs args vs shapes is pass) gives which takes
