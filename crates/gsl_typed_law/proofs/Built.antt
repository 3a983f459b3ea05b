-- Constructors give values of their types.
use Rattle.std.proofs.Common.{◌≡◌, refl, sym, ap, ◌∙◌, subst, ℕ, zero, suc, ◌+◌, ◌-◌, ◌^◌, ◌<◌, ◌≤◌, ◌⊎◌, inl, inr, Bool, true, not, ◌||◌, List, [], ◌∷◌, ◌++◌, map, take, replicate, length, length-append, Some, arith}
use Rattle.std.specs.Prelude.{◌==◌, nat_lt, slice_get, slice_index}
use Rattle.std.specs.List.{AllByRecursion}
use Rattle.std.proofs.lemmas.Bool.{and_parts, eqb-true, false≢true, lt-ltb, ltb-true, or_cases}
use Rattle.std.proofs.lemmas.List.{length-replicate, length-take-le}
use Rattle.gsl_types.specs.Known.{AreStructs}
use Rattle.gsl_types.specs.Structs.{members_over, numbered}
use Rattle.gsl_types.specs.declared.ty.Member.{Member}
use Rattle.gsl_types.specs.declared.ty.Scalar.{Scalar}
use Rattle.gsl_types.specs.declared.ty.Scalar.TheVariants.{Bool as Boolean, Int, Uint}
use Rattle.gsl_types.specs.declared.ty.StructType.{StructType}
use Rattle.gsl_types.specs.declared.ty.Ty.{Ty}
use Rattle.gsl_types.specs.declared.ty.Ty.TheOpen.{Ty-F}
use Rattle.gsl_types.specs.declared.ty.Ty.TheVariants as ty
use Rattle.gsl_types.specs.declared.ty.Ty.TheVariants.{rolls-Array, rolls-One, rolls-Struct, rolls-Vector}
use Rattle.gsl_types.specs.declared.ty.Ty.TheViews.{out-Ty, roll-Ty, roll-out-Ty}
use Rattle.gsl_types.proofs.Layers.{over_struct}
use Rattle.gsl_types.proofs.Structs.{numbered_is}
use Rattle.gsl_values.specs.declared.value.Value.{Value}
use Rattle.gsl_values.specs.declared.value.Value.TheVariants.{Many}
use Rattle.gsl_tree.specs.Around.{Around}
use Rattle.gsl_tree.specs.Expressions.{IsBuild, IsBuildKind, is_one_scalar, member_types, shapes_of, supplies, types_of}
use Rattle.gsl_tree.specs.Operations.{all_components, build_kind, build_value, converted, filled, scalar_from, spread, vector_from}
use Rattle.gsl_tree.specs.Shapes.{Shape}
use Rattle.gsl_tree.specs.Values.{all_pass, components_in, has_parts, is_value_of, is_word_of, tests_of, value_meaning}
use Rattle.gsl_tree.specs.declared.expr.Expr.{Expr}
use Rattle.gsl_tree.proofs.Nodes.{value_of_array}
use Rattle.gsl_typed_law.proofs.Bounds.{truth_fits}
use Rattle.gsl_typed_law.proofs.Builtins.{FillEach, args_fill}
use Rattle.gsl_typed_law.proofs.Components.{AllFit, Fill, scalar_typed, vector_typed}
use Rattle.gsl_typed_law.proofs.Zeros.{many_pass}

-- ---- words in a row

abbrev AllBelow : List ℕ → Type 0
AllBelow = AllByRecursion (λ word. word < 2 ^ 32)

-- how many components shapes have in a row
abbrev total : List Shape → ℕ
total [] = 0
total (shape ∷ shapes) = shape.1 + total shapes

fit_below : (s : Scalar) (word : ℕ) → is_word_of s word ≡ true → word < 2 ^ 32
fit_below Boolean word is = omega (arith, ltb-true word 2 is)
fit_below Int word is = ltb-true word (2 ^ 32) is
fit_below Uint word is = ltb-true word (2 ^ 32) is

row_below : (s : Scalar) (words more : List ℕ) → AllFit s words → AllBelow more → AllBelow (words ++ more)
row_below s [] more fit below = below
row_below s (word ∷ words) more fit below = (fit_below s word fit.0, row_below s words more fit.1 below)

rows_below : (shapes : List Shape) (vs : List Value) → FillEach shapes (map components_in vs) → (length (all_components vs) ≡ total shapes) × AllBelow (all_components vs)
rows_below [] [] fill = (refl, tt)
rows_below [] (v ∷ vs) fill = absurd fill
rows_below (shape ∷ shapes) [] fill = absurd fill
rows_below (shape ∷ shapes) (v ∷ vs) fill =
    let more = rows_below shapes vs fill.1 in
    (omega (arith, length-append (components_in v) (all_components vs), fill.0.0, more.0), row_below shape.0 (components_in v) (all_components vs) fill.0.1 more.1)

index_below : (words : List ℕ) (k : ℕ) → AllBelow words → slice_index words k < 2 ^ 32
index_below [] k below = omega arith
index_below (word ∷ words) zero below = below.0
index_below (word ∷ words) (suc k) below = index_below words k below.1

converted_fits : (s : Scalar) (word : ℕ) → word < 2 ^ 32 → is_word_of s (converted s word) ≡ true
converted_fits Boolean word below = truth_fits (not (word == 0))
converted_fits Int word below = lt-ltb word (2 ^ 32) below
converted_fits Uint word below = lt-ltb word (2 ^ 32) below

-- ---- vectors

converted_fill : (s : Scalar) (words : List ℕ) (n : ℕ) → length words ≡ n → AllBelow words → Fill (s, n) (map (converted s) words)
converted_fill s [] n is below = (is, tt)
converted_fill s (word ∷ words) zero is below = absurd (omega (arith, is))
converted_fill s (word ∷ words) (suc n) is below = let more = converted_fill s words n (omega (arith, is)) below.1 in (ap suc more.0, (converted_fits s word below.0, more.1))

take_below : (k : ℕ) (words : List ℕ) → AllBelow words → AllBelow (take k words)
take_below zero words below = tt
take_below (suc k) [] below = tt
take_below (suc k) (word ∷ words) below = (below.0, take_below k words below.1)

repeat_below : (n word : ℕ) → word < 2 ^ 32 → AllBelow (replicate n word)
repeat_below zero word below = tt
repeat_below (suc n) word below = (below, repeat_below n word below)

spread_below : (n : ℕ) (words : List ℕ) → AllBelow words → AllBelow (spread n words)
spread_below n [] below = tt
spread_below n (word ∷ []) below = repeat_below n word below.0
spread_below n (word ∷ next ∷ words) below = below

spread_enough : (n : ℕ) (words : List ℕ) → (n ≤ length words) ⊎ (length words ≡ 1) → n ≤ length (spread n words)
spread_enough n [] (inl enough) = enough
spread_enough n [] (inr one) = absurd (omega (arith, one))
spread_enough n (word ∷ []) is = omega (arith, length-replicate n word)
spread_enough n (word ∷ next ∷ words) (inl enough) = enough
spread_enough n (word ∷ next ∷ words) (inr one) = absurd (omega (arith, one))

supplies_enough : (n : ℕ) (shapes : List Shape) → supplies n shapes ≡ true → n ≤ total shapes
supplies_enough n [] is = omega (arith, eqb-true n 0 is)
supplies_enough n (shape ∷ shapes) is = omega (arith, supplies_enough (n - shape.1) shapes (and_parts (nat_lt 0 n) (supplies (n - shape.1) shapes) is).1)

one_total : (shapes : List Shape) → is_one_scalar shapes ≡ true → total shapes ≡ 1
one_total [] is = absurd (false≢true is)
one_total (shape ∷ []) is = omega (arith, eqb-true shape.1 1 is)
one_total (shape ∷ next ∷ shapes) is = absurd (false≢true is)

serves_all : (n : ℕ) (shapes : List Shape) (words : List ℕ) → (is_one_scalar shapes || supplies n shapes) ≡ true → length words ≡ total shapes → (n ≤ length words) ⊎ (length words ≡ 1)
serves_all n shapes words is counted =
    elim (or_cases (is_one_scalar shapes) (supplies n shapes) is) [ inl one ↦ inr (counted ∙ one_total shapes one) | inr enough ↦ inl (omega (arith, counted, supplies_enough n shapes enough)) ]

filled_fill : (s : Scalar) (n : ℕ) (words : List ℕ) → AllBelow words → (n ≤ length words) ⊎ (length words ≡ 1) → Fill (s, n) (filled s n words)
filled_fill s n words below enough =
    converted_fill s (take n (spread n words)) n (length-take-le n (spread n words) (spread_enough n words enough)) (take_below n (spread n words) (spread_below n words below))

-- ---- arrays and structs

repeat_tests : (test : Ty → Value → Bool) (n : ℕ) (element : Ty) → map test (replicate n element) ≡ replicate n (test element)
repeat_tests test zero element = refl
repeat_tests test (suc n) element = ap (λ l. test element ∷ l) (repeat_tests test n element)

member_tests : (structs : List StructType) (members : List Member) → tests_of (members_over value_meaning (numbered value_meaning structs) members) ≡ map (is_value_of structs) (member_types members)
member_tests structs [] = refl
member_tests structs (member ∷ members) = ap (λ l. is_value_of structs member.ty ∷ l) (member_tests structs members)

-- the values of a struct
pub value_of_struct : (structs : List StructType) → AreStructs structs → (number : ℕ) (struct : StructType) → slice_get structs number ≡ Some struct → (v : Value)
    → is_value_of structs (ty.Struct number) v ≡ has_parts (map (is_value_of structs) (member_types struct.members)) v
value_of_struct structs are number struct at v =
    ap (λ (test : Value → Bool). test v) (over_struct value_meaning (numbered value_meaning structs) number ∙ numbered_is value_meaning structs number struct at (are number struct at).earlier)
    ∙ ap (λ tests. has_parts tests v) (member_tests structs struct.members)

-- ---- constructors

module _ (around : Around) (are : AreStructs around.structs) (args : List Expr) (vs : List Value) (pass : all_pass (map (is_value_of around.structs) (types_of args)) vs ≡ true) where
  scalar_built : (s : Scalar) (shapes : List Shape) → shapes_of args ≡ Some shapes → is_value_of around.structs (ty.One s) (scalar_from s vs) ≡ true
  scalar_built s shapes is =
      let below = (rows_below shapes vs (args_fill around.structs args vs shapes is pass)).1 in
      scalar_typed around.structs s (converted s (slice_index (all_components vs) 0)) (converted_fits s (slice_index (all_components vs) 0) (index_below (all_components vs) 0 below))

  vector_built : (s : Scalar) (n : ℕ) (shapes : List Shape) → shapes_of args ≡ Some shapes → (is_one_scalar shapes || supplies n shapes) ≡ true → is_value_of around.structs (ty.Vector s n) (vector_from s n vs) ≡ true
  vector_built s n shapes is enough =
      let rows = rows_below shapes vs (args_fill around.structs args vs shapes is pass) in
      vector_typed around.structs s n (filled s n (all_components vs)) (filled_fill s n (all_components vs) rows.1 (serves_all n shapes (all_components vs) enough rows.0))

  array_built : (element : Ty) (n : ℕ) → types_of args ≡ replicate n element → is_value_of around.structs (ty.Array element n) (Many vs) ≡ true
  array_built element n is =
      value_of_array around.structs element n (Many vs)
      ∙ many_pass (replicate n (is_value_of around.structs element)) vs (ap (λ l. all_pass l vs) (sym (ap (map (is_value_of around.structs)) is ∙ repeat_tests (is_value_of around.structs) n element)) ∙ pass)

  struct_built : (number : ℕ) (struct : StructType) → slice_get around.structs number ≡ Some struct → types_of args ≡ member_types struct.members → is_value_of around.structs (ty.Struct number) (Many vs) ≡ true
  struct_built number struct at is =
      value_of_struct around.structs are number struct at (Many vs)
      ∙ many_pass (map (is_value_of around.structs) (member_types struct.members)) vs (ap (λ l. all_pass (map (is_value_of around.structs) l) vs) (sym is) ∙ pass)

  pub build_typed : (t : Ty) → IsBuild around args t → is_value_of around.structs t (build_value t vs) ≡ true
  build_typed t is = by (out-Ty t) (roll-out-Ty t) is.0
    where
      at_type : (x : Ty) (v : Value) → x ≡ t → is_value_of around.structs x v ≡ true → is_value_of around.structs t v ≡ true
      at_type x v e typed = subst (λ u. is_value_of around.structs u v ≡ true) e typed

      by : (layer : Ty-F Ty) → roll-Ty layer ≡ t → IsBuildKind around layer args → is_value_of around.structs t (build_kind layer vs) ≡ true
      by Ty-F.Void e kind = absurd kind
      by (Ty-F.One s) e (shape, shapes) = at_type (ty.One s) (scalar_from s vs) (sym (rolls-One s) ∙ e) (scalar_built s (shape ∷ []) shapes)
      by (Ty-F.Vector s n) e (shapes, has, enough) = at_type (ty.Vector s n) (vector_from s n vs) (sym (rolls-Vector s n) ∙ e) (vector_built s n shapes has enough)
      by (Ty-F.Array element n) e kind = at_type (ty.Array element n) (Many vs) (sym (rolls-Array element n) ∙ e) (array_built element n kind)
      by (Ty-F.Runtime element) e kind = absurd kind
      by (Ty-F.Struct number) e (struct, at, types) = at_type (ty.Struct number) (Many vs) (sym (rolls-Struct number) ∙ e) (struct_built number struct at types)
