-- The module that a builder gives.
use Rattle.std.proofs.Common.{ℕ, List, [], ◌∷◌, ◌++◌}
use Rattle.gsl_words.specs.declared.module.Instr.{Instr}
use Rattle.std.proofs.lemmas.List.Elements.{Contains-append_left, Contains-append_right}
use Rattle.gsl_spv.specs.Finished.{capabilities, entry_point, memory_models, module_of, modes}
use Rattle.gsl_spv.specs.Once.{interface_of}
use Rattle.gsl_spv.specs.Sections.{Sections}
use Rattle.gsl_lower_text.specs.Written.{Written}

-- what stands before what is declared
abbrev front : Sections → ℕ → List ℕ → List Instr
front s main local_size = capabilities ++ s.imports ++ memory_models ++ entry_point s.stage main (interface_of s.globals) ∷ [] ++ modes s.stage main local_size ++ s.names ++ s.decorations

-- what is declared, and then functions, stand behind all else
pub finished_written : (s : Sections) (main : ℕ) (local_size : List ℕ) → Written (module_of s main local_size) s
finished_written s main local_size = record {
  globals = λ i there. Contains-append_left (front s main local_size ++ s.globals) s.functions i (Contains-append_right (front s main local_size) s.globals i there);
  functions = λ i there. Contains-append_right (front s main local_size ++ s.globals) s.functions i there;
}
