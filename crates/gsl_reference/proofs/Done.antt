-- A run that came to its end, and what was printed then, perform its job.
use Rattle.std.proofs.Common.{◌≡◌, ℕ, List, Option, Some, Result, Ok, Err, refl, ap, sym, subst, ◌∙◌, inl, inr, ◌⊎◌}
use Rattle.std.specs.Prelude.{◌≢◌}
use Rattle.gsl_host.specs.declared.target.Stream.{Stream}
use Rattle.gsl_host.specs.declared.target.Stream.TheVariants as stream
use Rattle.gsl_host.specs.declared.target.Target.{Target}
use Rattle.gsl_host.specs.declared.target.Target.TheVariants.{Printing}
use Rattle.gsl_host.specs.Outside.{Files, Appends, AppendsSome, NeverFall}
use Rattle.gsl_cmd.specs.Command.{Said, Shown}
use Rattle.gsl_cmd.specs.Job.{Job, Effect}
use Rattle.gsl_cmd.specs.Performs.{Performs, Prints, KeepsAllBut, effect_on, text_of}
use Rattle.gsl_exec.specs.Texts.{host_text}
use Rattle.gsl_cmd.proofs.Streams.{appends_no_text, appends_part, appends_some, later_rise, earlier_rise, prints_over}
use Rattle.gsl_reference.specs.declared.stop.Stop.{Stop}
use Rattle.gsl_reference.specs.declared.stop.Stop.TheVariants as stop
use Rattle.gsl_reference.specs.Steps.{Comes, Ends, EndsWith, Reaches, Reported}

module _ (before : Files) (after : Option Files) (first then last : Target → ℕ) (printed printed' : Stream → Option (List ℕ)) (same : after ≡ Some before) (up : NeverFall first then)
    (over : NeverFall then last) where
  module _ (job : Job) (keeps : job.effect ≡ Effect.Keeps) where
    abbrev Done : ℕ → Type 0
    Done status = Performs job before after first last printed printed' status

    kept : KeepsAllBut job.effect before after
    kept = subst (λ (effect : Effect). KeepsAllBut effect before after) (sym keeps) same

    files_are : after ≡ Some (effect_on job.effect before)
    files_are = same ∙ ap (λ (effect : Effect). Some (effect_on effect before)) (sym keeps)

    memory : AppendsSome (printed stream.Out) (printed' stream.Out) job.out
        → AppendsSome (printed stream.Err) (printed' stream.Err) job.err ⊎ AppendsSome (printed stream.Err) (printed' stream.Err) host_text → Done 4
    memory part some = record {
      status_is = λ n3 n4. absurd (n4 refl);
      cause = λ is. absurd (let no : 4 ≡ 3 = is in cc);
      files = λ n3 n4. absurd (n4 refl);
      kept = kept;
      err = λ n4. absurd (n4 refl);
      err_memory = λ is. some;
      out = λ n3 n4. absurd (n4 refl);
      out_part = part;
    }

    failed : Reaches first last job → Prints then last stream.Err (printed stream.Err) (printed' stream.Err) host_text → AppendsSome (printed stream.Out) (printed' stream.Out) job.out → Done 3
    failed rose said part = record {
      status_is = λ n3 n4. absurd (n3 refl);
      cause = λ is. rose;
      files = λ n3 n4. absurd (n3 refl);
      kept = kept;
      err = λ n4. prints_over first then last _ _ host_text up said;
      err_memory = λ is. absurd (let no : 3 ≡ 4 = is in cc);
      out = λ n3 n4. absurd (n3 refl);
      out_part = part;
    }

    -- a listing was shown
    listed : (text : List ℕ) (result : ℕ) → Comes (Reaches first then job) job (Ok text)
        → Shown then last (printed stream.Out) (printed' stream.Out) (printed stream.Err) (printed' stream.Err) text result → Done result
    listed text result (status, out, err, effect, at) (inl (is, shown, quiet)) =
        subst Done (sym is) (record {
          status_is = λ n3 n4. sym status;
          cause = λ three. absurd (let no : 0 ≡ 3 = three in cc);
          files = λ n3 n4. files_are;
          kept = kept;
          err = λ n4. inl (appends_no_text _ _ job.err err quiet);
          err_memory = λ four. absurd (let no : 0 ≡ 4 = four in cc);
          out = λ n3 n4. subst (Appends (printed stream.Out) (printed' stream.Out)) (sym out) shown;
          out_part = subst (AppendsSome (printed stream.Out) (printed' stream.Out)) (sym out) (appends_part _ _ text shown);
        })
    listed text result (status, out, err, effect, at) (inr (inl (is, rose, part, said))) =
        subst Done (sym is) (failed (Printing stream.Out, at, later_rise first then last (Printing stream.Out) up rose) said (subst (AppendsSome (printed stream.Out) (printed' stream.Out)) (sym out) part))
    listed text result (status, out, err, effect, at) (inr (inr (is, part, said))) =
        subst Done (sym is) (memory (subst (AppendsSome (printed stream.Out) (printed' stream.Out)) (sym out) part) (inr said))

    module _ (quiet : printed' stream.Out ≡ printed stream.Out) where
      -- a text was printed in place of a listing
      said : (status : ℕ) (text : List ℕ) (result : ℕ) → status ≢ 3 → status ≢ 4 → text_of job status ≡ job.err → EndsWith job status text
          → Said then last (printed stream.Err) (printed' stream.Err) text status result → Done result
      said status text result n3 n4 own (its, out, err, effect) (inl (is, prints)) =
          subst Done (sym is) (record {
            status_is = λ m3 m4. sym its;
            cause = λ three. absurd (n3 three);
            files = λ m3 m4. files_are;
            kept = kept;
            err = λ m4. subst (λ (t : List ℕ). Prints first last stream.Err (printed stream.Err) (printed' stream.Err) t) (sym err ∙ sym own) (prints_over first then last _ _ text up prints);
            err_memory = λ four. absurd (n4 four);
            out = λ m3 m4. appends_no_text _ _ job.out out quiet;
            out_part = appends_some _ _ job.out quiet;
          })
      said status text result n3 n4 own (its, out, err, effect) (inr (is, part)) =
          subst Done (sym is) (memory (appends_some _ _ job.out quiet) (inl (subst (AppendsSome (printed stream.Err) (printed' stream.Err)) (sym err) part)))

      reported : (why : Stop) (result : ℕ) → Comes (Reaches first then job) job (Err why) → Reported why then last (printed stream.Err) (printed' stream.Err) result → Done result
      reported (stop.Fault text) result comes told = said 1 text result (λ e. cc) (λ e. cc) refl comes told
      reported stop.Going result comes told = said 5 _ result (λ e. cc) (λ e. cc) refl comes told
      reported stop.Strayed result comes told = said 6 _ result (λ e. cc) (λ e. cc) refl comes told
      reported (stop.Input text) result comes told = said 7 text result (λ e. cc) (λ e. cc) refl comes told
      reported stop.Host result (effect, (target, at, rose)) (inl (is, prints)) =
          subst Done (sym is) (failed (target, at, earlier_rise first then last target rose over) prints (appends_some _ _ job.out quiet))
      reported stop.Host result (effect, (target, at, rose)) (inr (is, part)) = subst Done (sym is) (memory (appends_some _ _ job.out quiet) (inr part))
      reported stop.Memory result comes (is, silent) = subst Done (sym is) (memory (appends_some _ _ job.out quiet) (inl (appends_some _ _ job.err silent)))

  effect_of : (Failing : Type 0) (job : Job) (end : Result (List ℕ) Stop) → Comes Failing job end → job.effect ≡ Effect.Keeps
  effect_of Failing job (Ok text) comes = comes.3
  effect_of Failing job (Err (stop.Fault text)) comes = comes.3
  effect_of Failing job (Err stop.Going) comes = comes.3
  effect_of Failing job (Err stop.Strayed) comes = comes.3
  effect_of Failing job (Err (stop.Input text)) comes = comes.3
  effect_of Failing job (Err stop.Host) comes = comes.0
  effect_of Failing job (Err stop.Memory) comes = comes

  module _ (IsIts : Job → Type 0) where
    abbrev Performed : ℕ → Type 0
    Performed result = (job : Job) × IsIts job × Performs job before after first last printed printed' result

    pub done_ok : (text : List ℕ) (result : ℕ) → Ends IsIts first then (Ok text) → Shown then last (printed stream.Out) (printed' stream.Out) (printed stream.Err) (printed' stream.Err) text result
        → Performed result
    done_ok text result (job, is, comes) shown = (job, is, listed job (effect_of (Reaches first then job) job (Ok text) comes) text result comes shown)

    pub done_err : (why : Stop) (result : ℕ) → Ends IsIts first then (Err why) → printed' stream.Out ≡ printed stream.Out → Reported why then last (printed stream.Err) (printed' stream.Err) result
        → Performed result
    done_err why result (job, is, comes) quiet told = (job, is, reported job (effect_of (Reaches first then job) job (Err why) comes) quiet why result comes told)

-- what was shown of streams that were as before
pub shown_over : (faults faults' : Target → ℕ) (first then last : Stream → Option (List ℕ)) (text shown : List ℕ) (result : ℕ) → ((stream : Stream) → then stream ≡ first stream) → shown ≡ text
    → Shown faults faults' (then stream.Out) (last stream.Out) (then stream.Err) (last stream.Err) shown result
    → Shown faults faults' (first stream.Out) (last stream.Out) (first stream.Err) (last stream.Err) text result
shown_over faults faults' first then last text shown result same is came =
    subst (λ (t : List ℕ). Shown faults faults' (first stream.Out) (last stream.Out) (first stream.Err) (last stream.Err) t result) is
    (subst (λ (e : Option (List ℕ)). Shown faults faults' (first stream.Out) (last stream.Out) e (last stream.Err) shown result) (same stream.Err)
    (subst (λ (o : Option (List ℕ)). Shown faults faults' o (last stream.Out) (then stream.Err) (last stream.Err) shown result) (same stream.Out) came))
