use Rattle.std.proofs.Common.{[], refl, ◌∙◌, ap}
use Rattle.gsl_words.specs.declared.module.Instr.{Instr}
use Rattle.gsl_words.specs.declared.module.Module.{Module}
use Rattle.std.specs.Prelude.{ℕ}
use Rattle.gsl_valid.specs.Placed.{placed}
use Rattle.gsl_valid.specs.MemoryRules.{memory_kept}
use Rattle.gsl_ids.specs.Pass.{first_failed}
use Rattle.gsl_ids.proofs.Passes.{blind}
use Rattle.gsl_valid_blocks.proofs.access.first_unkept.Goals as goal

pub returns : goal.returns
returns c =
    let m = c.args.runtimes.now in
    c.first_failed.ensures.place
    ∙ ap (λ (n : Module). first_failed (λ (s : Module) (at : ℕ) (i : Instr). memory_kept s [] i) (λ (s : Module) (at : ℕ) (i : Instr). s) m 0 (placed n)) (c.module.ensures ∙ c.definitions.ensures)
    ∙ blind (λ (s : Module). s) memory_kept (λ n before i. refl) m
