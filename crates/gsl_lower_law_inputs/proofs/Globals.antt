-- The global variables of a module.
use Rattle.std.proofs.Common.{◌≡◌, refl, ◌∙◌, ℕ, IsTrue, true, List, length, Option, Some, None}
use Rattle.gsl_instr.specs.declared.enumerant.storage_class.TheConstants as storage_class
use Rattle.gsl_types.specs.Known.{AreStructs, IsSound, is_plain}
use Rattle.gsl_types.specs.declared.ty.StructType.{StructType}
use Rattle.gsl_types.specs.declared.ty.Ty.{Ty}
use Rattle.gsl_words.specs.declared.module.Module.{Module}
use Rattle.gsl_values.specs.declared.value.Value.{Value}
use Rattle.gsl_tree.specs.Values.{is_value_of, zero_value}
use Rattle.gsl_tree.specs.declared.unit.GlobalVar.{GlobalVar}
use Rattle.gsl_machine.specs.Constants.{constant}
use Rattle.gsl_sound_code.proofs.Looks.{Kept}
use Rattle.gsl_spv.specs.Calls as call
use Rattle.gsl_spv.specs.Sections.{Sections}
use Rattle.gsl_spv.specs.declared.plain.PlainConst.TheVariants as of
use Rattle.gsl_lower_values.specs.Building.{◌>>=◌, id_by}
use Rattle.gsl_lower_text.specs.Written.{Written}
use Rattle.gsl_lower_text.proofs.Constants.{at}
use Rattle.gsl_lower_types.specs.Declaring.{variable_in}
use Rattle.gsl_lower_types.specs.Globals.{beginning, constant_of, global_put, globals_put, variable_of}
use Rattle.gsl_lower_types.specs.Known.{Known, aside}
use Rattle.gsl_lower_types.specs.Values.{value_type}
use Rattle.gsl_lower_law_outside.proofs.OfLawZeros.{null_begins}
use Rattle.gsl_lower_law_outside.specs.Known.{AreTold}
use Rattle.gsl_lower_law_inputs.proofs.Constants.{constant_tells}
use Rattle.gsl_lower_law_inputs.proofs.Interfaces.{null_tells}
use Rattle.gsl_lower_law_inputs.proofs.Puts.{AllTellPut, EachTells, each_tell, put_aside, put_by, put_so, put_then}
use Rattle.gsl_lower_law_inputs.proofs.Tells.{HasVariable, variable_tells}
use Rattle.gsl_lower_law_inputs.proofs.Types.{IsType, type_tells}

module _ (m : Module) (whole : Sections) (structs : List StructType) (held : Kept m) (written : Written m whole) (known_all : Known) (are : AreTold m structs known_all) (are_structs : AreStructs structs) where
  -- A constant is what a variable of a type begins with, by the value of its initialiser.
  abbrev pub BeginsAs : Ty → Option Value → ℕ → Type 0
  BeginsAs t None init = IsSound (length structs) t → IsTrue (is_plain t) → constant m init ≡ zero_value structs t
  BeginsAs t (Some v) init = is_value_of structs t v ≡ true → constant m init ≡ v

  -- The whole has a global variable under an id.
  pub record HasGlobalVariable (g : GlobalVar) (id : ℕ) : Type 0 where
    pub type : ℕ
    pub init : ℕ
    pub begins : BeginsAs g.ty g.value init
    pub variable : HasVariable whole storage_class.PRIVATE type (Some init) id

  beginning_tells : (t : Ty) (type : ℕ) (o : Option Value) → AllTellPut whole known_all (beginning structs t type o) (λ init. IsType m whole structs held written known_all are t type → BeginsAs t o init)
  beginning_tells t type None =
      put_by whole known_all (beginning structs t type None) (aside (id_by (call.constant (of.Null type)))) (λ known s. refl)
      (put_so whole known_all (put_aside whole known_all (id_by (call.constant (of.Null type))) (null_tells whole type)) (λ init null is_type sound is_whole. null_begins m type init (at m held _ (written.globals _ null)) ∙ is_type.zero sound is_whole))
  beginning_tells t type (Some v) =
      put_by whole known_all (beginning structs t type (Some v)) (constant_of structs v t) (λ known s. refl)
      (put_so whole known_all (constant_tells m whole structs held written known_all are are_structs v t) (λ init said is_type. said))

  variable_of_tells : (g : GlobalVar) (type : ℕ) → AllTellPut whole known_all (variable_of structs g type) (λ id. IsType m whole structs held written known_all are g.ty type → HasGlobalVariable g id)
  variable_of_tells g type =
      put_by whole known_all (variable_of structs g type) (λ known. beginning structs g.ty type g.value known >>= (λ r. aside (variable_in storage_class.PRIVATE type (Some r.0)) r.1)) (λ known s. refl)
      (put_so whole known_all (put_then whole known_all (beginning structs g.ty type g.value) (λ init. aside (variable_in storage_class.PRIVATE type (Some init))) (beginning_tells g.ty type g.value) (λ init.
      put_aside whole known_all (variable_in storage_class.PRIVATE type (Some init)) (variable_tells whole storage_class.PRIVATE type (Some init))))
      (λ id b is_type. record { type = type; init = b.first; begins = b.one is_type; variable = b.other }))

  global_tells : (g : GlobalVar) → AllTellPut whole known_all (global_put structs g) (HasGlobalVariable g)
  unfolding global_put
  global_tells g =
      put_by whole known_all (global_put structs g) (λ known. value_type g.ty known >>= (λ r. variable_of structs g r.0 r.1)) (λ known s. refl)
      (put_so whole known_all (put_then whole known_all (value_type g.ty) (variable_of structs g) (type_tells m whole structs held written known_all are g.ty) (variable_of_tells g)) (λ id b. b.other b.one))

  pub globals_tell : (globals : List GlobalVar) → AllTellPut whole known_all (globals_put structs globals) (EachTells HasGlobalVariable globals)
  globals_tell globals = each_tell whole known_all (global_put structs) global_tells globals
