use Rattle.std.proofs.Common.{ℕ, ap, ◌∙◌, length, arith}
use Rattle.gsl_words.specs.declared.module.Instr.{Instr}
use Rattle.gsl_words.specs.declared.module.Module.{Module}
use Rattle.gsl_valid.specs.Placed.{placed, header_size}
use Rattle.gsl_ids.specs.Pass.{first_failed}
use Rattle.gsl_ids.proofs.Passes.{as_many}
use Rattle.gsl_valid_entry.specs.Stages.{entry_at}
use Rattle.gsl_valid_entry.proofs.Entering.{finds}
use Rattle.gsl_valid_entry.proofs.entry_point.entry.Goals as goal

pub first_unkept-requires : goal.first_unkept-requires
first_unkept-requires c =
    let e = c.new-2.ensures ∙ ap (λ (m : Module). placed m) (c.module.ensures ∙ c.definitions.ensures) in
    let many = ap length e ∙ as_many header_size c.args.decorations.now.instrs in
    omega (arith, many, c.requires.length)

pub returns : goal.returns
returns c =
    let m = c.args.decorations.now in
    let keep : Module → ℕ → Instr → Module = λ n at i. n in
    c.in_ok-place.ensures
    ∙ ap (first_failed entry_at keep c.in_ok-stage.stage 0) (c.new-2.ensures ∙ ap (λ (m : Module). placed m) (c.module.ensures ∙ c.definitions.ensures))
    ∙ ap (λ (n : Module). first_failed entry_at keep n 0 (placed m)) c.in_ok-stage.ensures ∙ finds m
