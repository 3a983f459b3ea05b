-- Which variables of some classes code declares, and which of them are outputs (SPIR-V 1.0, 3.32.8).
use Rattle.std.specs.Prelude.{◌≡◌, ℕ, Bool, ◌==◌, false, if◌then◌else◌, List, [], ◌++◌, Option, Some, None}
use Rattle.std.specs.List.{AllByRecursion, filter_map}
use Rattle.gsl_instr.specs.declared.enumerant.storage_class.TheConstants as storage_class
use Rattle.gsl_words.specs.declared.module.Instr.{Instr}
use Rattle.gsl_valid.specs.Instruction.{read}
use Rattle.gsl_valid.specs.Kinds.{Variable, variable_is}
use Rattle.gsl_valid.specs.Placed.{Code}
use Rattle.gsl_valid.specs.Types.{function_begins}
use Rattle.gsl_spv.specs.Sections.{Sections}

abbrev pub BeginsNone : Instr → Type 0
BeginsNone i = function_begins (read i) ≡ false

module _ (test : ℕ → Bool) where
  -- a variable, where its class passes the test
  abbrev pub chosen : Variable → Option Variable
  chosen v = if test v.class then Some v else None

  abbrev pub chosen_if : Option Variable → Option Variable
  chosen_if None = None
  chosen_if (Some v) = chosen v

  -- the one that an instruction declares, if it declares one
  abbrev pub chosen_in : Instr → Option Variable
  chosen_in i = chosen_if (variable_is (read i))

  abbrev pub chosen_among : Code → List Variable
  chosen_among code = filter_map chosen_in code

  -- Code grew by some that begins no function and declares these.
  pub record Grows (front whole : Code) (variables : List Variable) : Type 0 where
    pub put : Code
    pub is : whole ≡ front ++ put
    pub quiet : AllByRecursion BeginsNone put
    pub those : chosen_among put ≡ variables

  -- From some sections to later ones none was declared, and no function begins but among functions.
  pub record DeclaresNone (before after : Sections) : Type 0 where
    pub imports : Grows before.imports after.imports []
    pub names : Grows before.names after.names []
    pub decorations : Grows before.decorations after.decorations []
    pub globals : Grows before.globals after.globals []
    pub put : Code
    pub is : after.functions ≡ before.functions ++ put
    pub those : chosen_among put ≡ []

-- ---- outputs

abbrev pub is_output : ℕ → Bool
is_output class = class == storage_class.OUTPUT

abbrev pub out_of : Variable → Option Variable
out_of v = chosen is_output v

abbrev pub outputs_in : Code → List Variable
outputs_in code = chosen_among is_output code

abbrev pub DeclaresNoOutput : Sections → Sections → Type 0
DeclaresNoOutput before after = DeclaresNone is_output before after
