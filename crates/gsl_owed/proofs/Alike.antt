-- A module that does what its shader does ends exactly when it does.
use Rattle.std.proofs.Common.{◌≡◌, refl, sym, ap, ◌∙◌, subst, ℕ, ◌+◌, arith}
use Rattle.gsl_base.specs.declared.input.Input.{Input}
use Rattle.gsl_base.specs.declared.input.Output.{Output}
use Rattle.gsl_words.specs.declared.module.Module.{Module}
use Rattle.gsl_tree.specs.declared.program.Program.{Program}
use Rattle.gsl_machine.specs.Laws.{IsOver}
use Rattle.gsl_machine.specs.Machine as machine
use Rattle.gsl_machine.specs.State as outcome
use Rattle.gsl_machine.proofs.Over.{stays_over}
use Rattle.gsl_meaning.specs.Shader as shader
use Rattle.gsl_owed.specs.Runs.{EndAlike, Runs}

-- an end is the one at any sum of counts
over_at : (m : Module) (input : Input) (count more : ℕ) (output : Output) → machine.after m count input ≡ outcome.Ended output → machine.after m (count + more) input ≡ outcome.Ended output
over_at m input count more output is = stays_over m input count more (over (sym is)) ∙ is
  where
    over : {r : outcome.Outcome} → outcome.Ended output ≡ r → IsOver r
    over e = subst IsOver e tt

one_end : (m : Module) (input : Input) (count other : ℕ) (a b : Output) → machine.after m count input ≡ outcome.Ended a → machine.after m other input ≡ outcome.Ended b → outcome.Ended a ≡ outcome.Ended b
one_end m input count other a b first second =
    sym (over_at m input count other a first) ∙ ap (λ n. machine.after m n input) (let e : count + other ≡ other + count = omega arith in e) ∙ over_at m input other count b second

pub end_alike : (m : Module) (p : Program) → Runs m p → EndAlike m p
end_alike m p runs input fitting in_bounds output = (backwards, λ (units, e). let found = runs.ends input fitting units output e in (found.0, found.2))
  where
    by_outcome : (k : ℕ) → machine.after m k input ≡ outcome.Ended output → (o : shader.Outcome) → shader.shader p k input ≡ o → (units : ℕ) × (shader.shader p units input ≡ shader.Ended output)
    by_outcome k e (shader.Ended other) h =
        let found = runs.ends input fitting k other h in
        let same : outcome.Ended output ≡ outcome.Ended other = one_end m input k found.0 output other e found.2 in
        let one : other ≡ output = cc in
        (k, h ∙ ap shader.Ended one)
    by_outcome k e shader.Strayed h = absurd (in_bounds k h)
    by_outcome k e shader.Going h = let found = runs.goes input fitting k h in let clash : outcome.Ended output ≡ outcome.Going found.0 = sym e ∙ found.1 in absurd (cc)

    backwards : ((k : ℕ) × (machine.after m k input ≡ outcome.Ended output)) → (units : ℕ) × (shader.shader p units input ≡ shader.Ended output)
    backwards (k, e) = by_outcome k e (shader.shader p k input) refl
