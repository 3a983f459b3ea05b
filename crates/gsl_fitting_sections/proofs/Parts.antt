-- The parts of the module of some sections: what stands before names, and what stands before functions.
use Rattle.std.proofs.Common.{◌≡◌, ℕ, List, [], ◌∷◌, ◌++◌, Option, ap}
use Rattle.gsl_base.specs.declared.stage.Stage.{Stage}
use Rattle.gsl_valid.specs.Placed.{Code}
use Rattle.gsl_spv.specs.Calls.{imports_of}
use Rattle.gsl_spv.specs.Finished.{capabilities, code_of, entry_point, memory_models, modes}
use Rattle.gsl_spv.specs.Once.{interface_of}
use Rattle.gsl_spv.specs.Sections.{Sections}

-- what stands before names, where the set of extended instructions has this id or none
abbrev pub head_of : ℕ → List ℕ → Option ℕ → Stage → List ℕ → Code
head_of main local_size set stage interface = capabilities ++ imports_of set ++ memory_models ++ entry_point stage main interface ∷ [] ++ modes stage main local_size

module _ (s : Sections) (main : ℕ) (local_size : List ℕ) where
  abbrev pub head : Option ℕ → Code
  head set = head_of main local_size set s.stage (interface_of s.globals)

  -- what stands before functions
  abbrev pub front : Option ℕ → Code
  front set = head set ++ s.names ++ s.decorations ++ s.globals

  pub parts_are : (set : Option ℕ) → s.imports ≡ imports_of set → code_of s main local_size ≡ front set ++ s.functions
  parts_are set is =
      ap (λ i. capabilities ++ i ++ memory_models ++ entry_point s.stage main (interface_of s.globals) ∷ [] ++ modes s.stage main local_size ++ s.names ++ s.decorations ++ s.globals ++ s.functions) is
