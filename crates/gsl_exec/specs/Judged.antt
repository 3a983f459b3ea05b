-- What is judged of the bytes of a module's file.
use Rattle.std.specs.Prelude.{◌≡◌, ℕ, List, Option, Some, Result, Ok, Err, option_map}
use Rattle.gsl_base.specs.Ranges.{AreBytes}
use Rattle.gsl_words.specs.declared.fault.WordFault.{WordFault}
use Rattle.gsl_words.specs.declared.fault.WordFault.TheVariants.{NotWhole}
use Rattle.gsl_words.specs.declared.module.Module.{Module}
use Rattle.gsl_words.specs.Faults.{Judges}
use Rattle.gsl_valid.specs.Valid.{broken}
use Rattle.gsl_exec.specs.Texts.{word_text, broken_text}

-- The module of a file's bytes, or what is wrong with them. A list of other numbers is no file, and is never read.
abbrev pub JudgesFile : List ℕ → Result Module WordFault → Type 0
JudgesFile bytes verdict = (AreBytes bytes → Judges bytes verdict) × ((AreBytes bytes → ⊥) → verdict ≡ Err NotWhole)

-- the line of the least rule that a module breaks, none where it is valid
unfoldable pub refused_module : Module → Option (List ℕ)
refused_module m = option_map broken_text (broken m)

-- the line of what is wrong with a module's file, none where it is the file of a valid module
abbrev pub refusal_of : Result Module WordFault → Option (List ℕ)
refusal_of (Ok m) = refused_module m
refusal_of (Err fault) = Some (word_text fault)
