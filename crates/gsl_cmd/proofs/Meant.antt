-- What compiling writes does what the sources mean.
use Rattle.std.proofs.Common.{◌≡◌, sym, ◌∙◌, ℕ, ◌≤◌, inl, inr, List, [], length, Some, Ok}
use Rattle.gsl_base.specs.Proper.{IsProper}
use Rattle.gsl_base.specs.Ranges.{FitsTypes}
use Rattle.gsl_base.specs.declared.input.Input.{Input}
use Rattle.gsl_base.specs.declared.input.Output.{Output}
use Rattle.gsl_base.specs.declared.stage.Stage.{Stage}
use Rattle.gsl_words.specs.declared.module.Module.{Module}
use Rattle.gsl_words.specs.declared.target.Target.{Target}
use Rattle.gsl_tree.specs.declared.program.Program.{Program}
use Rattle.gsl_tree.specs.declared.unit.Block.{Block}
use Rattle.gsl_host.specs.Outside.{Files, Name as FileName}
use Rattle.gsl_text.specs.Lines.{lines_of}
use Rattle.gsl_manifest.specs.Manifests.{AreManifest}
use Rattle.gsl_manifest.specs.declared.manifest.Manifest.{Manifest}
use Rattle.gsl_given.specs.Given.{Got, given}
use Rattle.gsl_given_law.specs.Files.{AreShort, HoldBytes}
use Rattle.gsl_exec.specs.Done.{HasEnded}
use Rattle.gsl_owed.specs.Runs.{IsFitting}
use Rattle.gsl_valid.specs.Valid.{Valid}
use Rattle.gsl_lower_flow.specs.Programs.{module_for}
use Rattle.gsl_form.specs.Form.{Name}
use Rattle.gsl_form.specs.Trees.{AreBlocksOf}
use Rattle.gsl_lower_law_exact.specs.Exactly.{Does, EndsExactly}
use Rattle.gsl_lower_law_exact.specs.Sizes.{IsShortFor}
use Rattle.gsl_lower_law_exact.proofs.Ending.{blockless_ends, program_ends, program_fits}
use Rattle.gsl_cmd.specs.Meant.{KeepsMeaning, ShaderHasEnded}
use Rattle.gsl_cmd.specs.Verdict.{Accepts, HasModule, IsOther, linked_of}
use Rattle.gsl_cmd.specs.declared.compiling.TheConstants.{MAX_SOURCES}
use Rattle.gsl_cmd.proofs.Linking.{IsNested, sources_nest}

-- what is spelled has a block
some_block : (blocks : List Block) (names : List Name) → AreBlocksOf blocks names → blocks ≡ [] → ⊥
some_block blocks names (AreBlocksOf.block place need each) none = cc

module _ (target : Target) (stage : Stage) (sources : List (List ℕ)) (m : Module) (few : length sources ≤ MAX_SOURCES) (accepts : Accepts target stage sources m) (blockless : accepts.linked.blocks ≡ []) (input : Input) (fitting : IsFitting accepts.linked input) where
  nested : IsNested accepts.linked
  nested = sources_nest stage sources accepts.linked few accepts.read

  has_does : HasModule target stage accepts.linked m → Does m accepts.linked input × EndsExactly m accepts.linked input
  has_does (inl (form, formed, same)) = absurd (some_block accepts.linked.blocks form.members formed.spelled.blocks blockless)
  has_does (inr (none, lowered)) = blockless_ends target accepts.linked m nested.0 nested.1 nested.2 blockless lowered.made lowered.sound.valid input fitting

  pub compiled_does : Does m accepts.linked input × EndsExactly m accepts.linked input
  compiled_does = has_does accepts.has

-- what a program is lowered to
pub lowered_does : (target : Target) (stage : Stage) (sources : List (List ℕ)) (p : Program) (m : Module) → length sources ≤ MAX_SOURCES → linked_of stage sources ≡ Ok p → module_for target p ≡ Some m → Valid m → (input : Input) → IsFitting p input → IsShortFor p input → Does m p input × EndsExactly m p input
lowered_does target stage sources p m few linked made valid input fitting short =
    let nested = sources_nest stage sources p few linked in
    program_ends target p m nested.0 nested.1 nested.2 made valid input fitting short

-- the module of a program that is not of the form keeps its meaning
pub other_keeps : (target : Target) (stage : Stage) (sources : List (List ℕ)) (p : Program) (m : Module) → length sources ≤ MAX_SOURCES → linked_of stage sources ≡ Ok p → IsOther target stage p m → KeepsMeaning m p
other_keeps target stage sources p m few linked (none, lowered) = record {
  fits = program_fits target p m (sources_nest stage sources p few linked).0 lowered.made lowered.sound.valid;
  does = λ input fitting short. lowered_does target stage sources p m few linked lowered.made lowered.sound.valid input fitting short;
}

-- ---- what `run` lists

module _ (files : Files) (hold : HoldBytes files)
    (proper_of : (files : Files) (lines : List (List ℕ)) (m : Manifest) (input : Input) → HoldBytes files → AreManifest lines m → given files m ≡ Got input → IsProper input)
    (types_of : (files : Files) (lines : List (List ℕ)) (m : Manifest) (input : Input) → HoldBytes files → AreManifest lines m → given files m ≡ Got input → FitsTypes input)
    (short_of : (files : Files) (lines : List (List ℕ)) (m : Manifest) (input : Input) → HoldBytes files → AreManifest lines m → given files m ≡ Got input → AreShort input) where
  pub shader_ended : (m : Module) (p : Program) (inputs : FileName) (output : Output) → KeepsMeaning m p → HasEnded files inputs m output → ShaderHasEnded files inputs p output
  shader_ended m p inputs output keeps done =
      let lines = lines_of done.text in
      let fitting : IsFitting p done.input = record {
        proper = proper_of files lines done.said done.input hold done.says done.got;
        types = types_of files lines done.said done.input hold done.says done.got;
        fits = sym (keeps.fits done.input) ∙ done.fit;
      } in
      let short = short_of files lines done.said done.input hold done.says done.got in
      let does = keeps.does done.input fitting (λ number block there. record { buffers = short.buffers; push = short.push }) in
      let its = (does.1.ended output).0 (done.said.steps, done.ended) in
      record { text = done.text; said = done.said; input = done.input; read = done.read; says = done.says; got = done.got; fitting = fitting; units = its.0; ended = its.1 }
