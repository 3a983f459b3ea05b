-- The inputs and outputs of a module.
use Rattle.std.proofs.Common.{◌≡◌, refl, subst, ℕ, Bool, true, false, List, Some, None}
use Rattle.gsl_instr.specs.declared.enumerant.decoration.TheConstants as decoration
use Rattle.gsl_instr.specs.declared.enumerant.storage_class.TheConstants as storage_class
use Rattle.gsl_types.specs.declared.ty.StructType.{StructType}
use Rattle.gsl_words.specs.declared.module.Module.{Module}
use Rattle.gsl_tree.specs.declared.unit.Interface.{Interface}
use Rattle.gsl_sound_code.proofs.Looks.{Kept}
use Rattle.gsl_spv.specs.Calls as call
use Rattle.gsl_spv.specs.Declarations as d
use Rattle.gsl_spv.specs.Declarations.{defining}
use Rattle.gsl_spv.specs.Sections.{Sections}
use Rattle.gsl_spv.specs.declared.plain.PlainConst.TheVariants as of
use Rattle.gsl_spv.proofs.Answering.{constant_once}
use Rattle.gsl_lower_values.specs.Building.{◌>>=◌, given, id_by}
use Rattle.gsl_lower_text.specs.Written.{Written}
use Rattle.gsl_lower_types.specs.Declaring.{decorated, variable_in}
use Rattle.gsl_lower_types.specs.Interfaces.{flat_where, interface_put, interface_variable, interfaces_put, located, plain_variable}
use Rattle.gsl_lower_types.specs.Known.{Known, aside}
use Rattle.gsl_lower_types.specs.Values.{value_type}
use Rattle.gsl_lower_law_outside.specs.Known.{AreTold}
use Rattle.gsl_lower_law_outside.proofs.Program.{flat_adds}
use Rattle.gsl_lower_law_inputs.proofs.Types.{IsType, type_tells}
use Rattle.gsl_lower_law_inputs.proofs.Puts.{AllTellPut, EachTells, each_tell, put_aside, put_by, put_so, put_then}
use Rattle.gsl_lower_law_inputs.proofs.Tells.{AllTell, HasDecoration, HasGlobal, HasVariable, adds_tells, decorated_tells, given_tells, interned_tells, tells_so, tells_then, variable_tells}

module _ (whole : Sections) where
  -- The whole has a variable of a type that begins as zeros.
  pub record HasZeroed (class type id : ℕ) : Type 0 where
    pub zero : ℕ
    pub null : HasGlobal whole (defining (d.null type) zero)
    pub variable : HasVariable whole class type (Some zero) id

  -- an output begins as zeros, an input as what is given
  abbrev pub HasPassed : Bool → ℕ → ℕ → Type 0
  HasPassed true type id = HasZeroed storage_class.OUTPUT type id
  HasPassed false type id = HasVariable whole storage_class.INPUT type None id

  pub null_tells : (type : ℕ) → AllTell whole (id_by (call.constant (of.Null type))) (λ id. HasGlobal whole (defining (d.null type) id))
  null_tells type = interned_tells whole (d.null type) (constant_once (of.Null type) 0)

  plain_tells : (output : Bool) (type : ℕ) → AllTell whole (plain_variable output type) (HasPassed output type)
  plain_tells true type =
      tells_so whole (tells_then whole (id_by (call.constant (of.Null type))) (λ zero. variable_in storage_class.OUTPUT type (Some zero)) (null_tells type) (λ zero. variable_tells whole storage_class.OUTPUT type (Some zero)))
      (λ id b. record { zero = b.first; null = b.one; variable = b.other })
  plain_tells false type = variable_tells whole storage_class.INPUT type None

  located_tells : (i : Interface) (id : ℕ) → AllTell whole (located i id) (λ same. HasDecoration whole id decoration.LOCATION i.location × (id ≡ same))
  located_tells i id =
      tells_so whole (tells_then whole (decorated id None decoration.LOCATION (Some i.location)) (λ a. flat_where i.flat id >>= (λ b. given id)) (decorated_tells whole id decoration.LOCATION i.location) (λ a.
      tells_then whole (flat_where i.flat id) (λ b. given id) (adds_tells whole (flat_where i.flat id) (flat_adds i.flat id)) (λ b. given_tells whole id)))
      (λ same b. (b.one, b.other.other))

  module _ (m : Module) (structs : List StructType) (held : Kept m) (written : Written m whole) (known_all : Known) (are : AreTold m structs known_all) where
    -- The whole has an input or output under an id, of its type and at its location.
    pub record HasInterface (i : Interface) (id : ℕ) : Type 0 where
      pub type : ℕ
      pub is_type : IsType m whole structs held written known_all are i.ty type
      pub passed : HasPassed i.output type id
      pub marked : HasDecoration whole id decoration.LOCATION i.location

    variable_told : (i : Interface) (type : ℕ) → AllTell whole (interface_variable i type) (λ id. HasPassed i.output type id × HasDecoration whole id decoration.LOCATION i.location)
    variable_told i type =
        tells_so whole (tells_then whole (plain_variable i.output type) (located i) (plain_tells i.output type) (λ id. located_tells i id))
        (λ id b. (subst (HasPassed i.output type) b.other.1 b.one, subst (λ n. HasDecoration whole n decoration.LOCATION i.location) b.other.1 b.other.0))

    interface_tells : (i : Interface) → AllTellPut whole known_all (interface_put i) (HasInterface i)
    unfolding interface_put
    interface_tells i =
        put_by whole known_all (interface_put i) (λ known. value_type i.ty known >>= (λ r. aside (interface_variable i r.0) r.1)) (λ known s. refl)
        (put_so whole known_all (put_then whole known_all (value_type i.ty) (λ type. aside (interface_variable i type)) (type_tells m whole structs held written known_all are i.ty) (λ type. put_aside whole known_all (interface_variable i type) (variable_told i type)))
        (λ id b. record { type = b.first; is_type = b.one; passed = b.other.0; marked = b.other.1 }))

    pub interfaces_tell : (interfaces : List Interface) → AllTellPut whole known_all (interfaces_put interfaces) (EachTells HasInterface interfaces)
    interfaces_tell interfaces = each_tell whole known_all interface_put interface_tells interfaces
