-- A command that prints what it made, and what was printed then, perform its job.
use Rattle.std.proofs.Common.{◌≡◌, ◌≢◌, ℕ, List, Option, Some, Result, Ok, Err, refl, ap, sym, subst, ◌∙◌, inl, inr, ◌⊎◌}
use Rattle.std.proofs.lemmas.Bool.{cond-false, ne_eqb}
use Rattle.gsl_host.specs.declared.target.Stream.{Stream}
use Rattle.gsl_host.specs.declared.target.Stream.TheVariants as stream
use Rattle.gsl_host.specs.declared.target.Target.{Target}
use Rattle.gsl_host.specs.declared.target.Target.TheVariants.{Printing}
use Rattle.gsl_host.specs.Outside.{Files, Appends, AppendsSome, NeverFall, Rose}
use Rattle.gsl_exec.specs.declared.stop.Stop.{Stop}
use Rattle.gsl_exec.specs.declared.stop.Stop.TheVariants as stop
use Rattle.gsl_exec.specs.Texts.{host_text}
use Rattle.gsl_cmd.specs.Command.{Comes, Ends, Finished, HasOwn, Lists, Reaches, Said, Says, Shown}
use Rattle.gsl_cmd.specs.Job.{Job, Effect}
use Rattle.gsl_cmd.specs.Performs.{Performs, Prints, KeepsAllBut, effect_on}
use Rattle.gsl_cmd.proofs.Streams.{appends_no_text, appends_part, appends_some, later_rise, earlier_rise, prints_over}

-- ---- the status

module _ (then last : Target → ℕ) (out out' err err' : Option (List ℕ)) (status : ℕ) where
  abbrev pub End : Result (List ℕ) Stop → Type 0
  End end = Finished end then last out out' err err' status

  -- no end is one of words that are no command
  pub never_usage : (end : Result (List ℕ) Stop) → HasOwn end → End end → status ≢ 2
  never_usage (Ok text) own (inl (is, whole, quiet)) e = absurd (let no : 0 ≡ 2 = sym is ∙ e in cc)
  never_usage (Ok text) own (inr (inl (is, rose, part, said))) e = absurd (let no : 3 ≡ 2 = sym is ∙ e in cc)
  never_usage (Ok text) own (inr (inr (is, part, said))) e = absurd (let no : 4 ≡ 2 = sym is ∙ e in cc)
  never_usage (Err (stop.Told told text)) own (inl (is, said), quiet) e = own.0 (sym is ∙ e)
  never_usage (Err (stop.Told told text)) own (inr (is, said), quiet) e = absurd (let no : 4 ≡ 2 = sym is ∙ e in cc)
  never_usage (Err stop.Host) own (inl (is, said), quiet) e = absurd (let no : 3 ≡ 2 = sym is ∙ e in cc)
  never_usage (Err stop.Host) own (inr (is, said), quiet) e = absurd (let no : 4 ≡ 2 = sym is ∙ e in cc)
  never_usage (Err stop.Memory) own (is, silent, quiet) e = absurd (let no : 4 ≡ 2 = sym is ∙ e in cc)

  -- the host failed before the end, or printing on standard output did
  pub host_failed : (end : Result (List ℕ) Stop) → HasOwn end → End end → status ≡ 3 → (end ≡ Err stop.Host) ⊎ Rose then last (Printing stream.Out)
  host_failed (Ok text) own (inl (is, whole, quiet)) e = absurd (let no : 0 ≡ 3 = sym is ∙ e in cc)
  host_failed (Ok text) own (inr (inl (is, rose, part, said))) e = inr rose
  host_failed (Ok text) own (inr (inr (is, part, said))) e = absurd (let no : 4 ≡ 3 = sym is ∙ e in cc)
  host_failed (Err (stop.Told told text)) own (inl (is, said), quiet) e = absurd (own.1 (sym is ∙ e))
  host_failed (Err (stop.Told told text)) own (inr (is, said), quiet) e = absurd (let no : 4 ≡ 3 = sym is ∙ e in cc)
  host_failed (Err stop.Host) own ended e = inl refl
  host_failed (Err stop.Memory) own (is, silent, quiet) e = absurd (let no : 4 ≡ 3 = sym is ∙ e in cc)

-- ---- the job

module _ (before : Files) (after : Option Files) (first then last : Target → ℕ) (printed printed' : Stream → Option (List ℕ)) (same : after ≡ Some before) (up : NeverFall first then)
    (over : NeverFall then last) where
  module _ (job : Job) (keeps : job.effect ≡ Effect.Keeps) where
    abbrev Done : ℕ → Type 0
    Done status = Performs job before after first last printed printed' status

    kept : KeepsAllBut job.effect before after
    kept = subst (λ (effect : Effect). KeepsAllBut effect before after) (sym keeps) same

    files_are : after ≡ Some (effect_on job.effect before)
    files_are = same ∙ ap (λ (effect : Effect). Some (effect_on effect before)) (sym keeps)

    memory : AppendsSome (printed stream.Out) (printed' stream.Out) job.out
        → AppendsSome (printed stream.Err) (printed' stream.Err) job.err ⊎ AppendsSome (printed stream.Err) (printed' stream.Err) host_text → Done 4
    memory part some = record {
      status_is = λ n3 n4. absurd (n4 refl);
      cause = λ is. absurd (let no : 4 ≡ 3 = is in cc);
      files = λ n3 n4. absurd (n4 refl);
      kept = kept;
      err = λ n4. absurd (n4 refl);
      err_memory = λ is. some;
      out = λ n3 n4. absurd (n4 refl);
      out_part = part;
    }

    failed : Reaches first last job → Prints then last stream.Err (printed stream.Err) (printed' stream.Err) host_text → AppendsSome (printed stream.Out) (printed' stream.Out) job.out → Done 3
    failed rose said part = record {
      status_is = λ n3 n4. absurd (n3 refl);
      cause = λ is. rose;
      files = λ n3 n4. absurd (n3 refl);
      kept = kept;
      err = λ n4. prints_over first then last _ _ host_text up said;
      err_memory = λ is. absurd (let no : 3 ≡ 4 = is in cc);
      out = λ n3 n4. absurd (n3 refl);
      out_part = part;
    }

    -- a text was shown
    shown : (text : List ℕ) (result : ℕ) → Lists job text → Shown then last (printed stream.Out) (printed' stream.Out) (printed stream.Err) (printed' stream.Err) text result → Done result
    shown text result lists (inl (is, whole, quiet)) =
        subst Done (sym is) (record {
          status_is = λ n3 n4. sym lists.status;
          cause = λ three. absurd (let no : 0 ≡ 3 = three in cc);
          files = λ n3 n4. files_are;
          kept = kept;
          err = λ n4. inl (appends_no_text _ _ job.err lists.err quiet);
          err_memory = λ four. absurd (let no : 0 ≡ 4 = four in cc);
          out = λ n3 n4. subst (Appends (printed stream.Out) (printed' stream.Out)) (sym lists.out) whole;
          out_part = subst (AppendsSome (printed stream.Out) (printed' stream.Out)) (sym lists.out) (appends_part _ _ text whole);
        })
    shown text result lists (inr (inl (is, rose, part, said))) =
        subst Done (sym is)
        (failed (Printing stream.Out, lists.reached, later_rise first then last (Printing stream.Out) up rose) said (subst (AppendsSome (printed stream.Out) (printed' stream.Out)) (sym lists.out) part))
    shown text result lists (inr (inr (is, part, said))) =
        subst Done (sym is) (memory (subst (AppendsSome (printed stream.Out) (printed' stream.Out)) (sym lists.out) part) (inr said))

    -- a line was told in its place
    told : (status : ℕ) (text : List ℕ) (result : ℕ) → Says job status text → Said then last (printed stream.Err) (printed' stream.Err) text status result → printed' stream.Out ≡ printed stream.Out
        → Done result
    told status text result says (inl (is, prints)) quiet =
        subst Done (sym is) (record {
          status_is = λ n3 n4. sym says.ends;
          cause = λ three. absurd (says.own.1 three);
          files = λ n3 n4. files_are;
          kept = kept;
          err = λ n4. subst (Prints first last stream.Err (printed stream.Err) (printed' stream.Err)) (sym (cond-false _ _ _ (ne_eqb status 3 says.own.1) ∙ says.says))
              (prints_over first then last _ _ text up prints);
          err_memory = λ four. absurd (says.own.2 four);
          out = λ n3 n4. appends_no_text _ _ job.out says.quiet quiet;
          out_part = appends_some _ _ job.out quiet;
        })
    told status text result says (inr (is, part)) quiet =
        subst Done (sym is) (memory (appends_some _ _ job.out quiet) (inl (subst (AppendsSome (printed stream.Err) (printed' stream.Err)) (sym says.says) part)))

    finished : (end : Result (List ℕ) Stop) (result : ℕ) → Comes (Reaches first then job) job end
        → Finished end then last (printed stream.Out) (printed' stream.Out) (printed stream.Err) (printed' stream.Err) result → Done result
    finished (Ok text) result comes ended = shown text result comes ended
    finished (Err (stop.Told status text)) result comes (said, quiet) = told status text result comes said quiet
    finished (Err stop.Host) result (effect, (target, at, rose)) (inl (is, prints), quiet) =
        subst Done (sym is) (failed (target, at, earlier_rise first then last target rose over) prints (appends_some _ _ job.out quiet))
    finished (Err stop.Host) result (effect, (target, at, rose)) (inr (is, part), quiet) = subst Done (sym is) (memory (appends_some _ _ job.out quiet) (inr part))
    finished (Err stop.Memory) result comes (is, silent, quiet) = subst Done (sym is) (memory (appends_some _ _ job.out quiet) (inl (appends_some _ _ job.err silent)))

  effect_of : (Failing : Type 0) (job : Job) (end : Result (List ℕ) Stop) → Comes Failing job end → job.effect ≡ Effect.Keeps
  effect_of Failing job (Ok text) comes = comes.keeps
  effect_of Failing job (Err (stop.Told status text)) comes = comes.keeps
  effect_of Failing job (Err stop.Host) comes = comes.0
  effect_of Failing job (Err stop.Memory) comes = comes

  -- Streams were as before when the end was come to.
  pub performed : (IsIts : Job → Type 0) (mid : Stream → Option (List ℕ)) (end : Result (List ℕ) Stop) (result : ℕ) → ((stream : Stream) → mid stream ≡ printed stream) → Ends IsIts first then end
      → Finished end then last (mid stream.Out) (printed' stream.Out) (mid stream.Err) (printed' stream.Err) result
      → (job : Job) × IsIts job × Performs job before after first last printed printed' result
  performed IsIts mid end result silent (job, is, comes) ended =
      let by_out = subst (λ (o : Option (List ℕ)). Finished end then last o (printed' stream.Out) (mid stream.Err) (printed' stream.Err) result) (silent stream.Out) ended in
      let by_err = subst (λ (e : Option (List ℕ)). Finished end then last (printed stream.Out) (printed' stream.Out) e (printed' stream.Err) result) (silent stream.Err) by_out in
      (job, is, finished job (effect_of (Reaches first then job) job end comes) end result comes by_err)
