-- Arrays and structs of arguments of the types of their parts.
use Rattle.std.proofs.Common.{◌≡◌, refl, sym, ap, ap₂, ◌∙◌, ℕ, zero, suc, Bool, true, ◌&&◌, List, [], ◌∷◌, map, replicate, Some, None}
use Rattle.std.specs.Prelude.{slice_get}
use Rattle.gsl_types.specs.Known.{AreStructs}
use Rattle.gsl_types.specs.Structs.{members_meaning, numbered}
use Rattle.gsl_types.specs.declared.ty.Member.{Member}
use Rattle.gsl_types.specs.declared.ty.StructType.{StructType}
use Rattle.gsl_types.specs.declared.ty.Ty.{Ty}
use Rattle.gsl_types.specs.declared.ty.Ty.TheVariants.{Array, Struct, outs-Array, outs-Struct}
use Rattle.gsl_types.proofs.Layers.{over_struct}
use Rattle.gsl_types.proofs.Structs.{numbered_is}
use Rattle.gsl_values.specs.declared.value.Value.{Value}
use Rattle.gsl_values.specs.declared.value.Value.TheVariants.{Many, outs-Many}
use Rattle.gsl_tree.specs.Expressions.{member_types}
use Rattle.gsl_tree.specs.Shapes.{shape_kind, shape_of}
use Rattle.gsl_tree.specs.Values.{all_pass, has_parts, has_parts_layer, is_value_of, tests_of, value_meaning}
use Rattle.gsl_tree.specs.declared.program.Program.{Program}
use Rattle.gsl_tree.proofs.Nodes.{value_of_array}
use Rattle.gsl_lower_expr.specs.Parts.{Lower}
use Rattle.gsl_lower_law_expr.specs.Known.{AllTyped}
use Rattle.gsl_lower_law_built.specs.Arguments.{Composes, types_of}
use Rattle.gsl_lower_law_built.proofs.Composed.{parts_are}

-- values of the types of arguments pass the tests of those types
pub passes : (p : Program) (args : List Lower) (vs : List Value) → AllTyped p args vs → all_pass (map (is_value_of p.structs) (types_of args)) vs ≡ true
passes p [] [] fits = refl
passes p [] (v ∷ vs) fits = absurd fits
passes p (e ∷ es) [] fits = absurd fits
passes p (e ∷ es) (v ∷ vs) fits = ap₂ (λ a b. a && b) fits.0 (passes p es vs fits.1)

-- a type whose values have parts of the types of the arguments
composes_by : (p : Program) (args : List Lower) (ty : Ty) (tests : List (Value → Bool)) → shape_of ty ≡ None → ((v : Value) → is_value_of p.structs ty v ≡ has_parts tests v) → tests ≡ map (is_value_of p.structs) (types_of args) → Composes p args ty
composes_by p args ty tests whole is same = record {
  whole = whole;
  gives = λ vs fits. ap (is_value_of p.structs ty) (parts_are ty vs whole) ∙ is (Many vs) ∙ ap (has_parts_layer tests) (outs-Many vs) ∙ ap (λ tests. all_pass tests vs) same ∙ passes p args vs fits;
}

map_replicated : {A B : Type 0} (g : A → B) (n : ℕ) (a : A) → map g (replicate n a) ≡ replicate n (g a)
map_replicated g zero a = refl
map_replicated g (suc n) a = ap (λ l. g a ∷ l) (map_replicated g n a)

-- An array of elements of the type that it has.
pub array_composes : (p : Program) (args : List Lower) (element : Ty) (n : ℕ) → types_of args ≡ replicate n element → Composes p args (Array element n)
array_composes p args element n types =
    composes_by p args (Array element n) (replicate n (is_value_of p.structs element)) (ap shape_kind (outs-Array element n)) (value_of_array p.structs element n)
    (sym (ap (map (is_value_of p.structs)) types ∙ map_replicated (is_value_of p.structs) n element))

tests_are : (structs : List StructType) (members : List Member) → tests_of (members_meaning value_meaning structs members) ≡ map (is_value_of structs) (member_types members)
tests_are structs [] = refl
tests_are structs (member ∷ members) = ap (λ l. is_value_of structs member.ty ∷ l) (tests_are structs members)

-- A struct of members of the types that it has.
pub struct_composes : (p : Program) (args : List Lower) (number : ℕ) (struct : StructType) → AreStructs p.structs → slice_get p.structs number ≡ Some struct → types_of args ≡ member_types struct.members → Composes p args (Struct number)
struct_composes p args number struct are found types =
    composes_by p args (Struct number) (tests_of (members_meaning value_meaning p.structs struct.members)) (ap shape_kind (outs-Struct number))
    (λ v. ap (λ (test : Value → Bool). test v) (over_struct value_meaning (numbered value_meaning p.structs) number ∙ numbered_is value_meaning p.structs number struct found (are number struct found).earlier))
    (tests_are p.structs struct.members ∙ ap (map (is_value_of p.structs)) (sym types))
