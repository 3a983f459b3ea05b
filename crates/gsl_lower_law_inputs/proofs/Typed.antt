-- The values with which variables outside functions begin are of their types.
use Rattle.std.proofs.Common.{◌≡◌, refl, sym, ap, ◌∙◌, subst, inl, inr, ℕ, zero, suc, ◌+◌, ◌<◌, ◌≤◌, Bool, true, false, not, ◌&&◌, if◌then◌else◌, List, [], ◌∷◌, length, take, slice_get, unwrap_or, Option, Some, None, arith}
use Rattle.std.specs.Prelude.{◌==◌, nat_lt, Ok, Err}
use Rattle.std.specs.List.{AllByRecursion}
use Rattle.std.proofs.lemmas.Bool.{cases_lt, eq-eqb, false≢true, ltb-false, not-true, true≢false}
use Rattle.std.proofs.lemmas.List.{length-take-le}
use Rattle.gsl_base.specs.Ranges.{AreWords, FitsLocated, FitsTypes}
use Rattle.gsl_base.specs.declared.input.Input.{Input}
use Rattle.gsl_base.specs.declared.input.InputRefusal.TheVariants.{NoValue}
use Rattle.gsl_base.specs.declared.input.Located.{Located}
use Rattle.gsl_types.specs.Conversions.{components}
use Rattle.gsl_types.specs.declared.ty.Scalar.{Scalar}
use Rattle.gsl_types.specs.declared.ty.Ty.{Ty}
use Rattle.gsl_words.specs.declared.module.Module.{Module}
use Rattle.gsl_values.specs.declared.value.Value.{Value}
use Rattle.gsl_tree.specs.Shapes.{Shape, is_integer}
use Rattle.gsl_tree.specs.Values.{is_value_of, of_components, zero_value}
use Rattle.gsl_tree.specs.WellTyped.{IsInterface, IsProgram, IsVariableType, around_body, program_lists}
use Rattle.gsl_tree.specs.declared.program.Program.{Program}
use Rattle.gsl_tree.specs.declared.unit.GlobalVar.{GlobalVar}
use Rattle.gsl_tree.specs.declared.unit.Interface.{Interface}
use Rattle.gsl_inputs.specs.Demands.{Met, and_met, has_words}
use Rattle.gsl_inputs.specs.Given.{is_there, words_at}
use Rattle.gsl_meaning.specs.Fits.{blocks_met, ids_met, is_wanting, value_met, values_from, values_met}
use Rattle.gsl_meaning.specs.Shader.{begins, global_begins}
use Rattle.gsl_meaning.specs.Stages.{interface_begins}
use Rattle.gsl_meaning.proofs.Lists.{values_begin}
use Rattle.gsl_typed_law.specs.Plain.{ArePlain}
use Rattle.gsl_typed_law.proofs.Bounds.{integer_fits}
use Rattle.gsl_typed_law.proofs.Components.{AllFit, filled_typed, shape_again}
use Rattle.gsl_typed_law.proofs.Zeros.{declared_plain, zero_typed}
use Rattle.gsl_spv.specs.Sections.{Sections}
use Rattle.gsl_lower_follows.specs.Frames.{Frame, HasType, Name, Global, Interface as Passed, Stage, Param, Local, Holder, type_named, type_of_global, type_of_interface, value_of}
use Rattle.gsl_lower_law_outside.specs.OfLawReturns.{is_shared}
use Rattle.gsl_lower_law_outside.proofs.OfLawEntered.{map_there}
use Rattle.gsl_lower_law_inputs.specs.Beginning.{AreInitialised, IsFitting}
use Rattle.gsl_lower_law_inputs.proofs.Passed.{at_number, components_are, shape_plain}

-- ---- demands that are met

abbrev pub met : Met
met = Ok tt

pub first_met : (a b : Met) → and_met a b ≡ met → a ≡ met
first_met (Ok x) b is = refl
first_met (Err refusal) b is = absurd (cc)

pub second_met : (a b : Met) → and_met a b ≡ met → b ≡ met
second_met (Ok x) b is = is
second_met (Err refusal) b is = absurd (cc)

module _ (input : Input) where
  -- the values at each of some locations are there
  value_here : (interfaces : List Interface) (count from location : ℕ) → values_from interfaces input from count ≡ met → from ≤ location → location < from + count → value_met input location interfaces ≡ met
  value_here interfaces zero from location is low high = absurd (omega (arith, low, high))
  value_here interfaces (suc count) from location is low high = elim (cases_lt from location) [
    | inl less ↦ value_here interfaces count (from + 1) location (second_met (value_met input from interfaces) (values_from interfaces input (from + 1) count) is) (omega (arith, less)) (omega (arith, high))
    | inr least ↦ (let same : from ≡ location = omega (arith, low, least) in ap (λ n. value_met input n interfaces) (sym same) ∙ first_met (value_met input from interfaces) (values_from interfaces input (from + 1) count) is)
  ]

  not_wanting : (interfaces : List Interface) (location number : ℕ) (i : Interface) → value_met input location interfaces ≡ met → slice_get interfaces number ≡ Some i → is_wanting input location i ≡ false
  not_wanting [] location zero i is at = absurd (cc)
  not_wanting [] location (suc number) i is at = absurd (cc)
  not_wanting (j ∷ interfaces) location number i is at = by (is_wanting input location j) refl is (λ k e later. not_wanting interfaces location k i later e) number at
    where
      by : (b : Bool) → is_wanting input location j ≡ b → (if b then Err (NoValue location) else value_met input location interfaces) ≡ met → ((k : ℕ) → slice_get interfaces k ≡ Some i → value_met input location interfaces ≡ met → is_wanting input location i ≡ false)
          → (number : ℕ) → slice_get (j ∷ interfaces) number ≡ Some i → is_wanting input location i ≡ false
      by true e is later number at = absurd (cc)
      by false e is later zero at = let same : j ≡ i = cc in ap (is_wanting input location) (sym same) ∙ e
      by false e is later (suc number) at = later number at is

  words_there : (output same has : Bool) → output ≡ false → same ≡ true → (not output && same && not has) ≡ false → has ≡ true
  words_there true same has a b c = absurd (true≢false a)
  words_there false false has a b c = absurd (false≢true b)
  words_there false true true a b c = refl
  words_there false true false a b c = absurd (true≢false c)

  -- ---- words by location

  given_words : (ins : List Located) (location : ℕ) (words : List ℕ) → AllByRecursion FitsLocated ins → words_at ins location ≡ Some words → AreWords words
  given_words [] location words all is = absurd (cc)
  given_words (v ∷ ins) location words all is = by (is_there location v) is (given_words ins location words all.1)
    where
      by : (b : Bool) → (if b then Some v.words else words_at ins location) ≡ Some words → (words_at ins location ≡ Some words → AreWords words) → AreWords words
      by true is later = let same : v.words ≡ words = cc in subst AreWords same all.0.words
      by false is later = later is

  first_fit : (s : Scalar) (count : ℕ) (words : List ℕ) → is_integer s ≡ true → AreWords words → AllFit s (take count words)
  first_fit s zero words integer are = tt
  first_fit s (suc count) [] integer are = tt
  first_fit s (suc count) (word ∷ words) integer are = (integer_fits s word integer are.0, first_fit s count words integer are.1)

  module _ (p : Program) (program : IsProgram p) where
    are_plain : ArePlain p.structs
    are_plain = declared_plain p.structs program.typed.declared

    -- ---- global variables

    global_typed : AreInitialised p → (number : ℕ) (g : GlobalVar) → slice_get p.globals number ≡ Some g → is_value_of p.structs g.ty (global_begins p.structs g.ty g.value) ≡ true
    global_typed initialised number g at = by g.value refl
      where
        type : IsVariableType p.structs g.ty
        type = (program.typed.globals number g at).type

        by : (o : Option Value) → g.value ≡ o → is_value_of p.structs g.ty (global_begins p.structs g.ty o) ≡ true
        by None is = zero_typed p.structs program.typed.structs are_plain g.ty type.known type.plain
        by (Some v) is = initialised number g v at is

    -- ---- inputs and outputs

    module _ (fitting : IsFitting p input) (ranges : FitsTypes input) where
      all_met : values_from p.interfaces input 0 1024 ≡ met
      all_met = values_begin p.interfaces input ∙ first_met (values_met p.interfaces input) (ids_met p input) (second_met (blocks_met p.blocks input) (and_met (values_met p.interfaces input) (ids_met p input)) fitting)

      input_has : (number : ℕ) (i : Interface) → slice_get p.interfaces number ≡ Some i → i.output ≡ false → has_words (components i.ty) (words_at input.ins i.location) ≡ true
      input_has number i at is =
          let right = at_number (IsInterface p.stage p.structs) p.interfaces number i program.typed.interfaces at in
          let here = value_here p.interfaces 1024 0 i.location all_met (omega arith) (let low = right.location in omega (arith, low)) in
          words_there i.output (i.location == i.location) (has_words (components i.ty) (words_at input.ins i.location)) is (eq-eqb i.location i.location refl) (not_wanting p.interfaces i.location number i here at)

      words_typed : (i : Interface) → IsInterface p.stage p.structs i → (o : Option (List ℕ)) → words_at input.ins i.location ≡ o → has_words (components i.ty) o ≡ true → is_value_of p.structs i.ty (of_components (take (components i.ty) (unwrap_or o []))) ≡ true
      words_typed i right None at has = absurd (false≢true has)
      words_typed i right (Some words) at has =
          let shape : Shape = right.type.0 in
          let enough = ltb-false (length words) (components i.ty) (not-true (nat_lt (length words) (components i.ty)) has) in
          subst (λ t. is_value_of p.structs t (of_components (take (components i.ty) words)) ≡ true) (shape_again (length p.structs) i.ty shape right.known right.type.1)
          (filled_typed p.structs shape.0 shape.1 (take (components i.ty) words)
          (length-take-le (components i.ty) words enough ∙ components_are i.ty shape right.type.1, first_fit shape.0 (components i.ty) words right.type.2 (given_words input.ins i.location words ranges.ins at)))

      interface_typed : (number : ℕ) (i : Interface) → slice_get p.interfaces number ≡ Some i → is_value_of p.structs i.ty (interface_begins p.structs input i) ≡ true
      interface_typed number i at = by i.output refl
        where
          right : IsInterface p.stage p.structs i
          right = at_number (IsInterface p.stage p.structs) p.interfaces number i program.typed.interfaces at

          by : (b : Bool) → i.output ≡ b → is_value_of p.structs i.ty (if b then zero_value p.structs i.ty else of_components (take (components i.ty) (unwrap_or (words_at input.ins i.location) []))) ≡ true
          by true is = zero_typed p.structs program.typed.structs are_plain i.ty right.known (shape_plain i.ty right.type.0 right.type.1)
          by false is = words_typed i right (words_at input.ins i.location) refl (input_has number i at is)

      -- ---- all of them

      module _ (initialised : AreInitialised p) (m : Module) (whole : Sections) (f : Frame m input whole) (stages : List (Option Value)) where
        abbrev Typed : Option Ty → Option Value → Type 0
        Typed t v = HasType m input whole f p (around_body (program_lists p) [] []) t v

        global_at : (number : ℕ) (o : Option GlobalVar) → slice_get p.globals number ≡ o → Typed (type_of_global o) (slice_get (begins p input).globals number)
        global_at number None at = tt
        global_at number (Some g) at = subst (Typed (Some g.ty)) (sym (map_there (λ (x : GlobalVar). global_begins p.structs x.ty x.value) p.globals number g at)) (global_typed initialised number g at)

        interface_at : (number : ℕ) (o : Option Interface) → slice_get p.interfaces number ≡ o → Typed (type_of_interface o) (slice_get (begins p input).interfaces number)
        interface_at number None at = tt
        interface_at number (Some i) at = subst (Typed (Some i.ty)) (sym (map_there (interface_begins p.structs input) p.interfaces number i at)) (interface_typed number i at)

        pub variables_typed : (name : Name) → is_shared name ≡ true → Typed (type_named (around_body (program_lists p) [] []) name) (value_of stages (begins p input) name)
        variables_typed (Global number) shared = global_at number (slice_get p.globals number) refl
        variables_typed (Passed number) shared = interface_at number (slice_get p.interfaces number) refl
        variables_typed (Stage number) shared = tt
        variables_typed (Param number) shared = absurd (false≢true shared)
        variables_typed (Local number) shared = absurd (false≢true shared)
        variables_typed (Holder number) shared = absurd (false≢true shared)
