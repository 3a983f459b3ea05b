-- What a valid module says of the types that lie in blocks, and of the variables of blocks.
use Rattle.std.proofs.Common.{◌≡◌, refl, ap, ◌∙◌, ℕ, true, List, [], ◌∷◌, ◌++◌, Option, Some}
use Rattle.std.specs.Prelude.{option_to_list}
use Rattle.std.specs.List.{Contains}
use Rattle.std.proofs.lemmas.Bool.{eq-eqb}
use Rattle.std.proofs.lemmas.List.Elements.{Contains-append_left, Contains-append_right}
use Rattle.gsl_instr.specs.Forms.{form_of}
use Rattle.gsl_types.specs.declared.ty.Scalar.{Scalar}
use Rattle.gsl_types.specs.declared.ty.Scalar.TheVariants.{Bool as Boolean, Int, Uint}
use Rattle.gsl_words.specs.declared.module.Instr.{Instr}
use Rattle.gsl_words.specs.declared.module.Module.{Module}
use Rattle.gsl_owed.specs.Types.{has_size, shape_at}
use Rattle.gsl_valid.specs.DecorationRules.{pointee, pointee_of}
use Rattle.gsl_valid.specs.Kinds.{OfArray, OfRuntimeArray, OfStruct, shape_of, value_of, variable_is}
use Rattle.gsl_valid.specs.Types.{defined_as, lanes_in, lanes_of, lanes_with, scalar_in, target_of}
use Rattle.gsl_spv.specs.Declarations as d
use Rattle.gsl_spv.specs.Declarations.{defining}
use Rattle.gsl_spv.specs.Finished.{capabilities, entry_point, memory_models, modes, module_of}
use Rattle.gsl_spv.specs.Once.{interface_of}
use Rattle.gsl_spv.specs.Sections.{Sections}
use Rattle.gsl_spv.specs.declared.plain.PlainType.TheVariants as plain
use Rattle.gsl_lower_values.specs.Types.{plain_scalar}
use Rattle.gsl_lower_text.proofs.Constants.{At}

-- the decorations of sections are those of their module
pub decorations_stand : (s : Sections) (main : ℕ) (local_size : List ℕ) (i : Instr) → Contains s.decorations i → Contains (module_of s main local_size).instrs i
decorations_stand s main local_size i there =
    let front = capabilities ++ s.imports ++ memory_models ++ entry_point s.stage main (interface_of s.globals) ∷ [] ++ modes s.stage main local_size ++ s.names in
    Contains-append_left (front ++ s.decorations ++ s.globals) s.functions i (Contains-append_left (front ++ s.decorations) s.globals i (Contains-append_right front s.decorations i there))

module _ (m : Module) where
  -- ---- arrays and structs

  pub array_shape : (element length id : ℕ) → At m (defining (d.array_type element length) id) → shape_at m id ≡ OfArray element length
  unfolding form_of
  array_shape element length id a = ap shape_of (a.keeps.own id refl)

  pub runtime_shape : (element id : ℕ) → At m (defining (d.runtime_type element) id) → shape_at m id ≡ OfRuntimeArray element
  unfolding form_of
  runtime_shape element id a = ap shape_of (a.keeps.own id refl)

  pub struct_shape : (members : List ℕ) (id : ℕ) → At m (defining (d.struct_type members) id) → shape_at m id ≡ OfStruct id members
  unfolding form_of
  struct_shape members id a = ap shape_of (a.keeps.own id refl)

  -- the word of a constant
  pub word_said : (type bits id : ℕ) → At m (defining (d.word type bits) id) → value_of (defined_as m id) ≡ Some bits
  unfolding form_of
  word_said type bits id a = ap value_of (a.keeps.own id refl)

  -- ---- scalars and vectors

  pub scalar_with : (x : Scalar) (id : ℕ) → At m (defining (d.plain_type (plain_scalar x)) id) → (n : ℕ) → has_size m n (lanes_with n (scalar_in (shape_of (defined_as m id)))) ≡ true
  unfolding form_of
  scalar_with Boolean id a n = ap (λ o. has_size m n (lanes_with n (scalar_in (shape_of o)))) (a.keeps.own id refl) ∙ eq-eqb n n refl
  scalar_with Int id a n = ap (λ o. has_size m n (lanes_with n (scalar_in (shape_of o)))) (a.keeps.own id refl) ∙ eq-eqb n n refl
  scalar_with Uint id a n = ap (λ o. has_size m n (lanes_with n (scalar_in (shape_of o)))) (a.keeps.own id refl) ∙ eq-eqb n n refl

  pub scalar_size : (x : Scalar) (id : ℕ) → At m (defining (d.plain_type (plain_scalar x)) id) → has_size m 1 (lanes_of m id) ≡ true
  unfolding form_of
  scalar_size Boolean id a = ap (λ o. has_size m 1 (lanes_in m (shape_of o))) (a.keeps.own id refl)
  scalar_size Int id a = ap (λ o. has_size m 1 (lanes_in m (shape_of o))) (a.keeps.own id refl)
  scalar_size Uint id a = ap (λ o. has_size m 1 (lanes_in m (shape_of o))) (a.keeps.own id refl)

  pub vector_size : (component n id : ℕ) → At m (defining (d.plain_type (plain.Vector component n)) id) → has_size m n (lanes_of m id) ≡ has_size m n (lanes_with n (scalar_in (shape_of (defined_as m component))))
  unfolding form_of
  vector_size component n id a = ap (λ o. has_size m n (lanes_in m (shape_of o))) (a.keeps.own id refl)

  -- ---- variables

  pub variable_said : (pointer class id : ℕ) (init : Option ℕ) → At m (defining (d.variable pointer class init) id) → variable_is (defined_as m id) ≡ Some (record { type = pointer; id = id; class = class; initialiser = option_to_list init })
  unfolding form_of
  variable_said pointer class id init a = ap variable_is (a.keeps.own id refl)

  pub pointee_said : (class type pointer : ℕ) → At m (defining (d.plain_type (plain.Pointer class type)) pointer) → pointee m pointer ≡ type
  unfolding form_of
  pointee_said class type pointer a = ap (λ o. pointee_of (target_of o)) (a.keeps.own pointer refl)
