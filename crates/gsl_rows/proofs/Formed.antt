-- What a unit spells is a program.
use Rattle.std.proofs.Common.{Option, Some, None, Result, Ok, Err}
use Rattle.std.specs.Prelude.{IfOk, IfSome}
use Rattle.gsl_base.specs.declared.memory.Memory.{Memory as WantOfMemory}
use Rattle.gsl_form.specs.declared.program.Program.{Program}
use Rattle.gsl_form.specs.Form.{IsProgram}
use Rattle.gsl_form.specs.Trees.{Spells}
use Rattle.gsl_tree.specs.WellTyped.{Lists}

pub formed : (lists : Lists) (result : Result (Option Program) WantOfMemory) → IfOk result (λ found. IfSome found (λ p. Spells lists p)) → IfOk result (λ found. IfSome found IsProgram)
formed lists (Ok (Some p)) spells = spells.fits
formed lists (Ok None) spells = tt
formed lists (Err memory) spells = tt
