-- What a program asks of an input, as a module asks it (GLSL 4.50, 4.3.4, 4.3.9 and 7.1; SPIR-V 1.0, 3.20).
use Rattle.std.specs.Prelude.{◌≡◌, ℕ, if◌then◌else◌, Option, Some, None}
use Rattle.std.specs.List.{filter_map}
use Rattle.gsl_base.specs.declared.stage.Stage.TheVariants.{Compute}
use Rattle.gsl_types.specs.Conversions.{components}
use Rattle.gsl_words.specs.declared.module.Module.{Module}
use Rattle.gsl_tree.specs.WellTyped.{is_push}
use Rattle.gsl_tree.specs.declared.program.Program.{Program}
use Rattle.gsl_tree.specs.declared.unit.Block.{Block}
use Rattle.gsl_tree.specs.declared.unit.Interface.{Interface}
use Rattle.gsl_valid.specs.EntryRules.{model_of}
use Rattle.gsl_machine.specs.Fits.{Bound, Place, bound_of, place_of, push_of}
use Rattle.gsl_machine.specs.Interfaces.{block_variables, local_size, value_variables}
use Rattle.gsl_owed.specs.Places.{model}

-- the set and binding of a block and how many bytes its buffer must have
abbrev pub bound_in : Block → Option Bound
bound_in b = if is_push b.kind then None else Some (record { set = b.set; binding = b.binding; need = b.need })

-- how many bytes the push constants must have
abbrev pub push_in : Block → Option ℕ
push_in b = if is_push b.kind then Some b.need else None

-- the location of an input and how many words it has
abbrev pub place_in : Interface → Option Place
place_in i = if i.output then None else Some (record { location = i.location; count = components i.ty })

-- A module asks what a program asks: it has the blocks and the inputs of the program in their order, its stage, and the size of its work groups.
pub record AsksAlike (m : Module) (p : Program) : Type 0 where
  pub bounds : filter_map (bound_of m) (block_variables m) ≡ filter_map bound_in p.blocks
  pub pushes : filter_map (push_of m) (block_variables m) ≡ filter_map push_in p.blocks
  pub places : filter_map (place_of m) (value_variables m) ≡ filter_map place_in p.interfaces
  pub stage : model_of m.instrs ≡ model p.stage
  pub size : p.stage ≡ Compute → local_size m ≡ p.local_size
