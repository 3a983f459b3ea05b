-- One part behind another, and steps of the builder.
use Rattle.std.proofs.Common.{◌≡◌, sym, ap, ◌∙◌, subst, ℕ, ◌+◌, ◌≤◌, ◌++◌, length, arith}
use Rattle.std.proofs.lemmas.List.{length-append}
use Rattle.gsl_base.specs.declared.input.Input.{Input}
use Rattle.gsl_words.specs.declared.module.Module.{Module}
use Rattle.gsl_tree.specs.Around.{Around}
use Rattle.gsl_tree.specs.declared.program.Program.{Program}
use Rattle.gsl_meaning.specs.Running.{Ran, Run, Got, Strays}
use Rattle.gsl_meaning.specs.Running as shader_run
use Rattle.gsl_meaning.specs.State as shader
use Rattle.gsl_valid.specs.Placed.{placed_from}
use Rattle.gsl_machine.specs.Machine.{run}
use Rattle.gsl_machine.specs.State.{Going, Ids, State, Strayed}
use Rattle.gsl_spv.specs.Growing.{Extends}
use Rattle.gsl_spv.specs.Sections.{Sections}
use Rattle.gsl_lower_values.specs.Building.{Built, Made, Full, Step}
use Rattle.gsl_lower_law.specs.Computing.{Acts, Comes, Grows, Left, Reaches, leaving}
use Rattle.gsl_lower_law.specs.Straying.{GoesOut, Strays as StepStrays}
use Rattle.gsl_lower_law.specs.Values.{Keeps, Ready, Text}
use Rattle.gsl_lower_holders.specs.Flow.{Emit, Flow, Gives, Lacks, Lowered, behind, built_in, flow_of, lift}
use Rattle.gsl_lower_follows.specs.Following.Astray.{now}
use Rattle.gsl_lower_follows.specs.Frames.{Frame, Good, Inside, coming}
use Rattle.gsl_lower_follows.specs.Giving.{Adds, Does, Grown, GrownTo}
use Rattle.gsl_lower_follows.specs.Reached.{Reached}
use Rattle.gsl_lower_follows.specs.Stretching.{Stretch}
use Rattle.gsl_lower_follows.proofs.Behind.{follows_then}
use Rattle.gsl_lower_follows.proofs.Placing.{coming_before, inside_between, placed_length}
use Rattle.gsl_lower_follows.proofs.Reached.{reached_then}
use Rattle.gsl_lower_follows.proofs.Stretches.{stretch_of}

module _ (m : Module) (input : Input) (whole : Sections) (f : Frame m input whole) where
  module _ (p : Program) {A B R T : Type 0} where
    -- What is lowered behind what was lowered, where the shader does one part behind another.
    pub does_then : (lent units : ℕ) (b : Flow) (state : State) (First : A → Flow → R → shader.State → State → Type 0) (FirstWaits : A → Flow → shader.State → State → Type 0) (Is : B → Flow → T → shader.State → State → Type 0) (Waits : B → Flow → shader.State → State → Type 0)
        (ran : Ran R) (go : R → Run T) (first : Lowered A) (next : A → Emit B) → Inside m input whole f b.sections → GrownTo b first → ((a : A) → Adds (next a)) → Does m input whole f p 0 units state First FirstWaits ran first
        → ((a : A) (between : Flow) (r : R) (s : shader.State) (left : ℕ) (mid : State) → Inside m input whole f between.sections → Grown b between → First a between r s mid → left ≤ units → Does m input whole f p lent left mid Is Waits (go r s left) (next a between))
        → ((a : A) (between : Flow) (s : shader.State) (left : ℕ) (mid : State) → Inside m input whole f between.sections → Grown b between → FirstWaits a between s mid → left ≤ units → Does m input whole f p lent left mid Is Waits Strays (next a between))
        → Does m input whole f p lent units state Is Waits (shader_run.behind ran go) (behind first next)
    does_then lent units b state First FirstWaits Is Waits ran go Lacks next here grown adds does more wait = tt
    does_then lent units b state First FirstWaits Is Waits ran go (Gives a between) next here grown adds does more wait = by (next a between) (adds a between) (more a between) (wait a between)
      where
        by : (second : Lowered B) → GrownTo between second
            → ((r : R) (s : shader.State) (left : ℕ) (mid : State) → Inside m input whole f between.sections → Grown b between → First a between r s mid → left ≤ units → Does m input whole f p lent left mid Is Waits (go r s left) second)
            → ((s : shader.State) (left : ℕ) (mid : State) → Inside m input whole f between.sections → Grown b between → FirstWaits a between s mid → left ≤ units → Does m input whole f p lent left mid Is Waits Strays second)
            → Does m input whole f p lent units state Is Waits (shader_run.behind ran go) second
        by Lacks g q w = tt
        by (Gives c later) g q w = λ inside.
            let between_is = inside_between m input whole f b.sections between.sections later.sections here inside grown.extends g.extends in
            follows_then m input p lent units state (First a between) (FirstWaits a between) (Is c later) (Waits c later) ran go (does between_is)
            (λ r s left mid first less. q r s left mid between_is grown first less inside)
            (λ s left mid first less. w s left mid between_is grown first less inside)

  -- ---- steps of the builder

  module _ (p : Program) (around : Around) where
    -- Where a step that was lifted has led: the ids that stand for something then, and the state behind the instructions.
    pub record Lifted {A : Type 0} (Is : A → Ids → Type 0) (left : Left) (b : Flow) (state : State) (a : A) (later : Sections) : Type 0 where
      pub ids : Ids
      pub is : Is a ids
      pub keeps : Keeps state.ids ids
      pub ready : Ready later.last f.own ids
      pub stretch : (units : ℕ) → Stretch m input 0 0 units state units (Going (record (leaving state left ids) { rest = coming m input whole f later }))
      pub reached : Reached m input (record (leaving state left ids) { rest = coming m input whole f later })

    lifted_from : {A : Type 0} (Is : A → Ids → Type 0) (left : Left) (b : Flow) (s : shader.State) (state : State) (a : A) (later : Sections) → Good m input whole f p around b s state → Inside m input whole f later
        → Reaches m input Is left state b.sections a later → Lifted Is left b state a later
    lifted_from Is left b s state a later good inside r =
        let at = coming_before m input whole f b.sections later r.code good.inside inside r.puts in
        let rest : state.rest ≡ placed_from at.0 r.code ++ coming m input whole f later = good.rest ∙ at.1 in
        let runs : run m input (length r.code) state ≡ Going (record (leaving state left r.ids) { rest = coming m input whole f later }) = ap (λ l. run m input (length r.code) (record state { rest = l })) rest ∙ r.leads at.0 (coming m input whole f later) in
        record {
          ids = r.ids;
          is = r.is;
          keeps = r.keeps;
          ready = subst (λ own. Ready later.last own r.ids) good.own r.ready;
          stretch = λ units. stretch_of m input (length r.code) units state (Going (record (leaving state left r.ids) { rest = coming m input whole f later }))
              (let long : length state.rest ≡ length r.code + length (coming m input whole f later) = ap length rest ∙ length-append (placed_from at.0 r.code) (coming m input whole f later) ∙ ap (λ n. n + length (coming m input whole f later)) (placed_length at.0 r.code) in omega (arith, long))
              runs;
          reached = reached_then m input (length r.code) state (record (leaving state left r.ids) { rest = coming m input whole f later }) good.reached runs;
        }

    -- What a step of the builder that was lifted does.
    pub does_lift : {A R : Type 0} (units : ℕ) (b : Flow) (s : shader.State) (state : State) (Is : A → Ids → Type 0) (left : Left) (Then : A → Flow → R → shader.State → State → Type 0) (Waits : A → Flow → shader.State → State → Type 0) (r : R) (t : shader.State) (step : Step A)
        → Good m input whole f p around b s state → Acts m input whole Is left state b.sections step
        → ((a : A) (later : Sections) (l : Lifted Is left b state a later) → Inside m input whole f later → Extends b.sections later → Then a (flow_of later b.place) r t (record (leaving state left l.ids) { rest = coming m input whole f later }))
        → Does m input whole f p 0 units state Then Waits (Got r t units) (lift step b)
    does_lift {A} {R} units b s state Is left Then Waits r t step good acts then_ = by (step b.sections) acts.grows (acts.comes (subst (Text m whole) (sym good.own) f.text) (subst (λ own. Ready b.sections.last own state.ids) (sym good.own) good.ready))
      where
        by : (built : Built A) → Grows b.sections built → Comes m input whole Is left state b.sections built → Does m input whole f p 0 units state Then Waits (Got r t units) (built_in b.place built)
        by Full grows comes = tt
        by (Made a later) grows comes = λ inside.
            let l = lifted_from Is left b s state a later good inside (comes inside.extends) in
            record { later = record (leaving state left l.ids) { rest = coming m input whole f later }; is = then_ a later l inside grows; less = omega arith; stretch = l.stretch units }

    -- A step that strays.
    pub strays_lift : {A R : Type 0} (units : ℕ) (b : Flow) (s : shader.State) (state : State) (Then : A → Flow → R → shader.State → State → Type 0) (Waits : A → Flow → shader.State → State → Type 0) (step : Step A) → Good m input whole f p around b s state → StepStrays m input whole state b.sections step
        → Does m input whole f p 0 units state Then Waits Strays (lift step b)
    strays_lift {A} {R} units b s state Then Waits step good strays = by (step b.sections) (strays.goes (subst (Text m whole) (sym good.own) f.text) (subst (λ own. Ready b.sections.last own state.ids) (sym good.own) good.ready))
      where
        by : (built : Built A) → GoesOut m input whole state b.sections built → Does m input whole f p 0 units state Then Waits Strays (built_in b.place built)
        by Full goes = tt
        by (Made a later) goes = λ inside.
            let q = goes inside.extends in
            let at = coming_before m input whole f b.sections later q.code good.inside inside q.puts in
            let rest : state.rest ≡ placed_from at.0 q.code ++ coming m input whole f later = good.rest ∙ at.1 in
            let out = q.leads at.0 (coming m input whole f later) in
            now (record {
              left = units;
              place = out.0;
              stretch = stretch_of m input (length q.code) units state (Strayed out.0)
                  (let long : length state.rest ≡ length q.code + length (coming m input whole f later) = ap length rest ∙ length-append (placed_from at.0 q.code) (coming m input whole f later) ∙ ap (λ n. n + length (coming m input whole f later)) (placed_length at.0 q.code) in omega (arith, long))
                  (ap (λ l. run m input (length q.code) (record state { rest = l })) rest ∙ out.1);
            })
