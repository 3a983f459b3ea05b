use Rattle.std.proofs.Common.{◌∙◌, ◌≡◌, ◌⊎◌, None, ap, sym, subst, rules}
use Rattle.std.specs.List.{All}
use Rattle.std.specs.Str.{IsUtf8}
use Rattle.clap.specs.Walk.{texts}
use Rattle.clap.specs.Words.{kind_of}
use Rattle.clap.specs.declared.error.kind.ErrorKind.TheVariants.{OutOfMemory}
use Rattle.gsl_plan.specs.Found.{found_in, taken}
use Rattle.gsl_plan.proofs.Planned.{found_plan, refused_plan}
use Rattle.gsl_plan.proofs.planning.plan.Goals as goal

pub matches_of-requires : goal.matches_of-requires
matches_of-requires c = subst (λ items. All IsUtf8 (texts items)) (sym c.as_slice-2.ensures.value) c.in_ok-texts.ensures.utf8

pub returns-in-Ok : goal.returns-in-Ok
returns-in-Ok c =
    let same : texts c.as_slice-2.result.now ≡ c.args.words.now = search rules in
    found_plan c.args.words.now c.command_in.result (found_in c.in-Ok.matches) (c.in-Ok.ensures.ok ∙ ap taken same) c.command_in.ensures

pub returns : goal.returns
returns c =
    let same : texts c.as_slice-2.result.now ≡ c.args.words.now = search rules in
    refused_plan c.args.words.now c.refused.result c.in-Err.error (subst (λ w. (kind_of c.in-Err.error ≡ OutOfMemory) ⊎ (taken w ≡ None)) same c.in-Err.ensures.err) c.refused.ensures.none c.refused.ensures.cause
