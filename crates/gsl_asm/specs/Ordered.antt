-- The operands of a line in the order in which a module has them.
use Rattle.std.specs.Prelude.{ℕ, List, [], ◌∷◌}
use Rattle.gsl_asm.specs.declared.place.Place.{Place}
use Rattle.gsl_asm.specs.declared.place.Place.TheVariants.{Nowhere, First, Second}
use Rattle.gsl_asm.specs.declared.word.Word.{Word}
use Rattle.gsl_asm.specs.declared.word.Word.TheVariants.{Plain}

-- words with the result in its place among them
abbrev pub inserted : Place → List ℕ → List Word → List Word
inserted Nowhere result words = words
inserted First result words = Plain result ∷ words
inserted Second result [] = []
inserted Second result (word ∷ words) = word ∷ Plain result ∷ words
