-- A module that places its program, and changes by which one does not, so that a wrong definition is seen.
use Rattle.std.proofs.Common.{◌≡◌, refl, ℕ, Bool, true, false, [], ◌∷◌, ◌++◌, None}
use Rattle.std.specs.Prelude.{codes}
use Rattle.gsl_base.specs.declared.fault.Place.{Place}
use Rattle.gsl_base.specs.declared.stage.Stage.TheVariants.{Compute}
use Rattle.gsl_instr.specs.declared.enumerant.decoration.TheConstants as decoration
use Rattle.gsl_instr.specs.Forms.{form_of}
use Rattle.gsl_types.specs.declared.ty.Scalar.TheVariants.{Int, Uint}
use Rattle.gsl_types.specs.declared.ty.Ty.TheVariants as ty
use Rattle.gsl_types.proofs.Layers.{over_one}
use Rattle.gsl_words.specs.declared.module.Module.{Module}
use Rattle.gsl_tree.specs.declared.program.Program.{Program}
use Rattle.gsl_tree.specs.declared.unit.Block.{Block}
use Rattle.gsl_tree.specs.declared.unit.BlockKind.TheVariants.{Buffer}
use Rattle.gsl_tree.specs.declared.unit.BlockMember.{BlockMember}
use Rattle.gsl_valid.proofs.Example.{block, binding, front, globals, main, module_with, set}
use Rattle.gsl_machine.specs.Interfaces.{all_variables}
use Rattle.gsl_owed.specs.Places.{Places, count_of, is_block_of}
use Rattle.gsl_owed.specs.Types.{stands_for}
use Rattle.gsl_owed.proofs.Standing.{stands_step}

abbrev here : Place
here = record { unit = 0; line = 1 }

abbrev member : Bool → BlockMember
member readonly =
    record { name = codes "a"; ty = ty.One Int; readonly = readonly; writeonly = false; coherent = false; volatile = false; restrict = false; offset = None; align = None; place = here }

abbrev storage : Bool → Block
storage readonly =
    record { name = codes "B"; instance = None; kind = Buffer; set = 0; binding = 0; std140 = false; members = member readonly ∷ []; need = 4; place = here }

abbrev program : Program
program = record {
  stage = Compute;
  structs = [];
  globals = [];
  blocks = storage false ∷ [];
  interfaces = [];
  prototypes = [];
  functions = [];
  main = 0;
  local_size = 1 ∷ 1 ∷ 1 ∷ [];
}

-- with the offset of its member
abbrev placing : ℕ → Module
placing offset = module_with 14 (front ++ block decoration.BUFFER_BLOCK offset ++ set ++ binding ++ globals ++ main)

ruleset computes = (stands_step, over_one)

an_int_is_one : stands_for (placing 0) [] (ty.One Int) 5 ≡ true
unfolding form_of
an_int_is_one = simp computes refl

but_no_uint : stands_for (placing 0) [] (ty.One Uint) 5 ≡ false
unfolding form_of
but_no_uint = simp computes refl

-- the module has one variable for the block
the_block_is_placed : count_of (is_block_of (placing 0) [] (storage false)) (all_variables (placing 0)) ≡ 1
unfolding form_of
the_block_is_placed = simp computes refl

-- and none where its member stands elsewhere, or is not marked as it should be
not_at_another_offset : count_of (is_block_of (placing 4) [] (storage false)) (all_variables (placing 4)) ≡ 0
unfolding form_of
not_at_another_offset = simp computes refl

not_without_its_mark : count_of (is_block_of (placing 0) [] (storage true)) (all_variables (placing 0)) ≡ 0
unfolding form_of
not_without_its_mark = simp computes refl

all_is_placed : Places (placing 0) program
unfolding form_of
all_is_placed = record { stage = refl; size = λ is. refl; blocks = simp computes refl; no_other_block = refl; interfaces = refl; no_other_location = refl; names = refl }
