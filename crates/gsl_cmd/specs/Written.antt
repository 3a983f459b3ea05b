-- What a command that ended well has written.
use Rattle.std.specs.Prelude.{◌≡◌, ℕ, List, Option, Some}
use Rattle.std.specs.FinMap.{get, insert}
use Rattle.gsl_base.specs.declared.input.Output.{Output}
use Rattle.gsl_host.specs.Outside.{Files}
use Rattle.gsl_exec.specs.Done.{HasEnded}
use Rattle.gsl_words.specs.Bytes.{bytes_of}
use Rattle.gsl_words.specs.Instructions.{HasFile}
use Rattle.gsl_asm.specs.Shown.{shown}
use Rattle.gsl_asm.specs.Texts.{IsTextOf}
use Rattle.gsl_words.specs.declared.module.Module.{Module}
use Rattle.gsl_words.specs.declared.target.Target.TheVariants.{V10}
use Rattle.gsl_cmd.specs.Job.{gather, Sources}
use Rattle.gsl_plan.specs.Plan.{Plan}
use Rattle.gsl_cmd.specs.Verdict.{Accepts, IsPromised}
use Rattle.gsl_valid.specs.Valid.{Valid}

-- For `compile`: the sources that the plan names give a module, which is as is promised, and OUT is now its file. For `dis`: OUT is now the text that shows the module of FILE; for `asm`: the file of the module that FILE is a text of.
-- For `check`: FILE is that of a valid module. For `exec`: MODULE is that of a valid module, whose run on the input of the manifest has ended. For `run`: the sources give a module, which is
-- as is promised, and its run on the input of the manifest has ended. All other files are as before.
abbrev pub Written : Plan → Files → Option Files → Type 0
Written (Plan.Compile version stage out names) before after =
    (sources : List (List ℕ)) × (m : Module) × (gather before 0 names ≡ Sources sources) × Accepts version stage sources m
    × (after ≡ Some (insert before out (bytes_of m))) × IsPromised version stage sources m
Written (Plan.Disassemble file out) before after =
    (bytes : List ℕ) × (m : Module) × (get before file ≡ Some bytes) × HasFile m × (bytes ≡ bytes_of m) × (after ≡ Some (insert before out (shown m)))
Written (Plan.Assemble file out) before after =
    (text : List ℕ) × (m : Module) × (get before file ≡ Some text) × IsTextOf text m × (after ≡ Some (insert before out (bytes_of m)))
Written (Plan.Check file) before after =
    (bytes : List ℕ) × (m : Module) × (get before file ≡ Some bytes) × Valid m × (bytes ≡ bytes_of m) × (after ≡ Some before)
Written (Plan.Exec file inputs) before after =
    (bytes : List ℕ) × (m : Module) × (output : Output) × (get before file ≡ Some bytes) × Valid m × (bytes ≡ bytes_of m) × HasEnded before inputs m output × (after ≡ Some before)
Written (Plan.Run stage inputs names) before after =
    (sources : List (List ℕ)) × (m : Module) × (output : Output) × (gather before 0 names ≡ Sources sources) × Accepts V10 stage sources m
    × IsPromised V10 stage sources m × HasEnded before inputs m output × (after ≡ Some before)
