-- A command that came to its end, and what was printed then, perform its job.
use Rattle.std.proofs.Common.{◌≡◌, ℕ, List, Option, Some, Ok, Err, refl, ap, sym, subst, ◌∙◌, inl, inr, ◌⊎◌}
use Rattle.std.specs.Prelude.{Result}
use Rattle.gsl_base.specs.declared.fault.Fault.{Fault}
use Rattle.gsl_host.specs.declared.target.Stream.{Stream}
use Rattle.gsl_host.specs.declared.target.Stream.TheVariants as stream
use Rattle.gsl_host.specs.declared.target.Target.{Target}
use Rattle.gsl_host.specs.Outside.{Files, AppendsSome, NeverFall}
use Rattle.gsl_cmd.specs.declared.stop.Stop.{Stop}
use Rattle.gsl_cmd.specs.declared.stop.Stop.TheVariants as stop
use Rattle.gsl_form.specs.Form.{Name}
use Rattle.gsl_cmd.specs.Job.{Job, Effect, IsJob}
use Rattle.gsl_plan.specs.Plan.{Plan}
use Rattle.gsl_cmd.specs.Performs.{Performs, Prints, effect_on}
use Rattle.gsl_cmd.specs.Command.{Ended, Reported}
use Rattle.gsl_cmd.specs.Texts.{told_fault}
use Rattle.gsl_exec.specs.Texts.{host_text}
use Rattle.gsl_cmd.proofs.Streams.{appends_no_text, appends_some, earlier_rise, prints_over}

module _ (plan : Plan) (names : List Name) (before : Files) (after : Option Files) (first then last : Target → ℕ) (printed printed' : Stream → Option (List ℕ))
    (up : NeverFall first then) (over : NeverFall then last) (quiet : printed' stream.Out ≡ printed stream.Out) where
  abbrev Done : ℕ → Type 0
  Done status = (job : Job) × IsJob plan before job × Performs job before after first last printed printed' status

  abbrev Came : Result (Unit {0}) Stop → Type 0
  Came end = Ended plan names before after first then end

  memory : {end : Result (Unit {0}) Stop} (e : Came end) → AppendsSome (printed stream.Err) (printed' stream.Err) e.job.err ⊎ AppendsSome (printed stream.Err) (printed' stream.Err) host_text → Done 4
  memory e some = (
    e.job,
    e.is_job,
    record {
      status_is = λ n3 n4. absurd (n4 refl);
      cause = λ is. absurd (let no : 4 ≡ 3 = is in cc);
      files = λ n3 n4. absurd (n4 refl);
      kept = e.kept;
      err = λ n4. absurd (n4 refl);
      err_memory = λ is. some;
      out = λ n3 n4. absurd (n4 refl);
      out_part = appends_some _ _ e.job.out quiet;
    },
  )

  pub done_ok : Came (Ok tt) → printed' stream.Err ≡ printed stream.Err → Done 0
  done_ok e silent = (
    e.job,
    e.is_job,
    record {
      status_is = λ n3 n4. sym e.did.0;
      cause = λ is. absurd (let no : 0 ≡ 3 = is in cc);
      files = λ n3 n4. e.did.2;
      kept = e.kept;
      err = λ n4. inl (appends_no_text _ _ e.job.err e.did.1 silent);
      err_memory = λ is. absurd (let no : 0 ≡ 4 = is in cc);
      out = λ n3 n4. appends_no_text _ _ e.job.out (e.out tt) quiet;
      out_part = appends_some _ _ e.job.out quiet;
    },
  )

  host : Came (Err stop.Host) → Prints then last stream.Err (printed stream.Err) (printed' stream.Err) host_text → Done 3
  host e said = (
    e.job,
    e.is_job,
    record {
      status_is = λ n3 n4. absurd (n3 refl);
      cause = λ is. (e.did.0, e.did.1, earlier_rise first then last e.did.0 e.did.2 over);
      files = λ n3 n4. absurd (n3 refl);
      kept = e.kept;
      err = λ n4. prints_over first then last _ _ host_text up said;
      err_memory = λ is. absurd (let no : 3 ≡ 4 = is in cc);
      out = λ n3 n4. absurd (n3 refl);
      out_part = appends_some _ _ e.job.out quiet;
    },
  )

  fault : (f : Fault) → (e : Came (Err (stop.Fault f))) → Prints then last stream.Err (printed stream.Err) (printed' stream.Err) (told_fault names f) → Done 1
  fault f e said = (
    e.job,
    e.is_job,
    record {
      status_is = λ n3 n4. sym e.did.0;
      cause = λ is. absurd (let no : 1 ≡ 3 = is in cc);
      files = λ n3 n4. e.did.3 ∙ ap Some (ap (λ (effect : Effect). effect_on effect before) (sym e.did.2));
      kept = e.kept;
      err = λ n4. prints_over first then last _ _ e.job.err up (subst (Prints then last stream.Err (printed stream.Err) (printed' stream.Err)) (sym e.did.1) said);
      err_memory = λ is. absurd (let no : 1 ≡ 4 = is in cc);
      out = λ n3 n4. appends_no_text _ _ e.job.out (e.out tt) quiet;
      out_part = appends_some _ _ e.job.out quiet;
    },
  )

  rejected : (text : List ℕ) → (e : Came (Err (stop.Rejected text))) → Prints then last stream.Err (printed stream.Err) (printed' stream.Err) text → Done 8
  rejected text e said = (
    e.job,
    e.is_job,
    record {
      status_is = λ n3 n4. sym e.did.0;
      cause = λ is. absurd (let no : 8 ≡ 3 = is in cc);
      files = λ n3 n4. e.did.3 ∙ ap Some (ap (λ (effect : Effect). effect_on effect before) (sym e.did.2));
      kept = e.kept;
      err = λ n4. prints_over first then last _ _ e.job.err up (subst (Prints then last stream.Err (printed stream.Err) (printed' stream.Err)) (sym e.did.1) said);
      err_memory = λ is. absurd (let no : 8 ≡ 4 = is in cc);
      out = λ n3 n4. appends_no_text _ _ e.job.out (e.out tt) quiet;
      out_part = appends_some _ _ e.job.out quiet;
    },
  )

  pub done_err : (why : Stop) (result : ℕ) → Came (Err why) → Reported names why then last (printed stream.Err) (printed' stream.Err) result → Done result
  done_err stop.Memory result e (is, silent) = subst Done (sym is) (memory e (inl (appends_some _ _ e.job.err silent)))
  done_err stop.Host result e (inl (is, said)) = subst Done (sym is) (host e said)
  done_err stop.Host result e (inr (is, part)) = subst Done (sym is) (memory e (inr part))
  done_err (stop.Fault f) result e (inl (inl (is, said))) = subst Done (sym is) (fault f e said)
  done_err (stop.Fault f) result e (inl (inr (is, part))) =
      subst Done (sym is) (memory e (inl (subst (AppendsSome (printed stream.Err) (printed' stream.Err)) (sym e.did.1) part)))
  done_err (stop.Fault f) result e (inr (is, silent)) = subst Done (sym is) (memory e (inl (appends_some _ _ e.job.err silent)))
  done_err (stop.Rejected text) result e (inl (is, said)) = subst Done (sym is) (rejected text e said)
  done_err (stop.Rejected text) result e (inr (is, part)) =
      subst Done (sym is) (memory e (inl (subst (AppendsSome (printed stream.Err) (printed' stream.Err)) (sym e.did.1) part)))
