-- The module of sound sections is valid.
use Rattle.std.proofs.Common.{ℕ, List}
use Rattle.gsl_words.specs.Instructions.{HasFile}
use Rattle.gsl_valid.specs.Valid.{KeepsEach, Valid}
use Rattle.gsl_valid.proofs.Rules.{valid_each}
use Rattle.gsl_spv.specs.Finished.{module_of}
use Rattle.gsl_spv.specs.Sections.{Sections}
use Rattle.gsl_fitting_sections.specs.Sections.{AreSound}
use Rattle.gsl_fitting_valid.proofs.Entering.{entry_none}
use Rattle.gsl_fitting_sections.proofs.Kept.{calls_none, constants_none, decorations_none, extended_none, globals_none, layouts_none, limits_none, locality_none, memory_none, once_none, operands_none, returns_none, sections_none, shape_none, structure_none, types_none, uses_none}

module _ (s : Sections) (main : ℕ) (local_size : List ℕ) (sound : AreSound s main local_size) where
  pub each_kept : KeepsEach (module_of s main local_size)
  each_kept = (
    sections_none s main local_size sound,
    (
      once_none s main local_size sound,
      (
        uses_none s main local_size sound,
        (
          types_none s main local_size sound,
          (
            constants_none s main local_size sound,
            (
              globals_none s main local_size sound,
              (
                decorations_none s main local_size sound,
                (
                  layouts_none s main local_size sound,
                  (
                    entry_none s main local_size sound,
                    (
                      shape_none s main local_size sound,
                      (
                        calls_none s main local_size sound,
                        (
                          structure_none s main local_size sound,
                          (
                            locality_none s main local_size sound,
                            (
                              operands_none s main local_size sound,
                              (memory_none s main local_size sound, (returns_none s main local_size sound, (extended_none s main local_size sound, (limits_none s main local_size sound, tt)))),
                            ),
                          ),
                        ),
                      ),
                    ),
                  ),
                ),
              ),
            ),
          ),
        ),
      ),
    ),
  )

  pub sections_valid : HasFile (module_of s main local_size) → Valid (module_of s main local_size)
  sections_valid file = (valid_each (module_of s main local_size)).1 (file, each_kept)
