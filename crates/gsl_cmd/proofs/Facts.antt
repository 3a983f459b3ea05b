-- What the ids of a program's module stand for.
use Rattle.std.proofs.Common.{◌≡◌, ℕ, true, [], length, refl, ap, ◌∙◌, inl, inr, arith}
use Rattle.std.specs.Prelude.{replicate, Some}
use Rattle.gsl_instr.specs.declared.enumerant.storage_class.TheConstants as storage_class
use Rattle.gsl_instr.specs.declared.instruction.Instruction.TheVariants as instruction
use Rattle.gsl_instr.specs.Forms.{form_of}
use Rattle.gsl_valid.specs.Ids.{definition}
use Rattle.gsl_valid.proofs.Lookups.{Has}
use Rattle.gsl_form.specs.declared.program.Program.{Program}
use Rattle.gsl_cmd.specs.declared.lowering.id.TheConstants as id
use Rattle.gsl_form.specs.Form.{IsProgram}
use Rattle.gsl_cmd.specs.Lowering.{code_of, constant_code, constant_id, constants_of}
use Rattle.gsl_cmd.proofs.Known.{among, place, place_within, value_at_place}
use Rattle.gsl_cmd.proofs.Parts.{constant_at, in_types, in_constants, in_variable, in_main, has_range}
use Rattle.gsl_cmd.proofs.ValidIds.{defined_by}

pub record Facts (p : Program) : Type 0 where
  pub void : definition (code_of p) id.VOID ≡ Some (instruction.TypeVoid id.VOID)
  pub main_type : definition (code_of p) id.MAIN_TYPE ≡ Some (instruction.TypeFunction id.MAIN_TYPE id.VOID [])
  pub int : definition (code_of p) id.INT ≡ Some (instruction.TypeInt id.INT 32 1)
  pub block : definition (code_of p) id.BLOCK ≡ Some (instruction.TypeStruct id.BLOCK (replicate (length p.members) id.INT))
  pub block_pointer : definition (code_of p) id.BLOCK_POINTER ≡ Some (instruction.TypePointer id.BLOCK_POINTER storage_class.UNIFORM id.BLOCK)
  pub member_pointer : definition (code_of p) id.MEMBER_POINTER ≡ Some (instruction.TypePointer id.MEMBER_POINTER storage_class.UNIFORM id.INT)
  pub buffer : definition (code_of p) id.BUFFER ≡ Some (instruction.Variable id.BLOCK_POINTER id.BUFFER storage_class.UNIFORM [])
  pub main : definition (code_of p) id.MAIN ≡ Some (instruction.Function id.VOID id.MAIN 0 id.MAIN_TYPE)
  pub constant : (v : ℕ) → among (constants_of p) v ≡ true → definition (code_of p) (constant_id (constants_of p) v) ≡ Some (instruction.Constant id.INT (constant_id (constants_of p) v) v)

-- a value's constant is among the constants
pub has_constant : (p : Program) (v : ℕ) → among (constants_of p) v ≡ true → Has (constant_code (constants_of p)) (constant_at (constants_of p) (place (constants_of p) v))
unfolding form_of
has_constant p v known =
    let within = place_within (constants_of p) v known in
    has_range (constant_at (constants_of p)) 0 (length (constants_of p)) (place (constants_of p) v) (omega arith) (omega arith)

pub facts : (p : Program) → IsProgram p → Facts p
unfolding form_of
facts p fits = record {
  void = defined_by p fits _ id.VOID (in_types p _ (inl refl)) refl;
  main_type = defined_by p fits _ id.MAIN_TYPE (in_types p _ (inr (inl refl))) refl;
  int = defined_by p fits _ id.INT (in_types p _ (inr (inr (inl refl)))) refl;
  block = defined_by p fits _ id.BLOCK (in_types p _ (inr (inr (inr (inl refl))))) refl;
  block_pointer = defined_by p fits _ id.BLOCK_POINTER (in_types p _ (inr (inr (inr (inr (inl refl)))))) refl;
  member_pointer = defined_by p fits _ id.MEMBER_POINTER (in_types p _ (inr (inr (inr (inr (inr (inl refl))))))) refl;
  buffer = defined_by p fits _ id.BUFFER (in_variable p _ (inl refl)) refl;
  main = defined_by p fits _ id.MAIN (in_main p _ (inl refl)) refl;
  constant = λ v known.
      defined_by p fits _ (constant_id (constants_of p) v) (in_constants p _ (has_constant p v known)) refl
      ∙ ap (λ word. Some (instruction.Constant id.INT (constant_id (constants_of p) v) word)) (value_at_place (constants_of p) v known);
}
