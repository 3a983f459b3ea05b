use Rattle.std.proofs.Common.{◌≡◌, take}
use Rattle.std.specs.List.{All}
use Rattle.std.specs.Str.{IsUtf8}
use Rattle.clap.specs.Walk.{texts}
use Rattle.gsl_plan.proofs.planning.texts_of.Given as goal

abbrev pub invariant-loop-word : goal.invariant-loop-word
invariant-loop-word l = (texts l.texts.items ≡ take l.word-index l.words) × All IsUtf8 (texts l.texts.items)
