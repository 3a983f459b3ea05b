-- Blocks that begin behind a branch.
use Rattle.std.proofs.Common.{◌≡◌, refl, sym, ap, ◌∙◌, subst, ℕ, suc, Bool, true, false, [], ◌∷◌, length, append_assoc, arith, if◌then◌else◌, ◌==◌}
use Rattle.gsl_base.specs.declared.input.Input.{Input}
use Rattle.gsl_instr.specs.Forms.{form_of}
use Rattle.gsl_instr.specs.declared.op.TheConstants as op
use Rattle.gsl_words.specs.declared.module.Instr.{Instr}
use Rattle.gsl_words.specs.declared.module.Module.{Module}
use Rattle.gsl_values.specs.declared.value.Value.{Value}
use Rattle.gsl_tree.specs.Around.{Around}
use Rattle.gsl_tree.specs.Values.{word_in}
use Rattle.gsl_tree.specs.declared.program.Program.{Program}
use Rattle.gsl_meaning.specs.Running.{Got, Ran}
use Rattle.gsl_meaning.specs.State as shader
use Rattle.gsl_machine.specs.Machine.{step}
use Rattle.gsl_machine.specs.State.{Going, Ids, State, on_whole}
use Rattle.gsl_machine.specs.Steps.{branching}
use Rattle.gsl_spv.specs.Calls.{put, take}
use Rattle.gsl_spv.specs.Declarations.{instr}
use Rattle.gsl_spv.specs.Growing.{Extends}
use Rattle.gsl_spv.specs.Sections.{Sections}
use Rattle.gsl_spv.proofs.Extending.{extends_take, extends_then}
use Rattle.gsl_lower_values.specs.Building.{Step, id_by}
use Rattle.gsl_lower_law.specs.Computing as law
use Rattle.gsl_lower_law.specs.Computing.{drawing, leaving}
use Rattle.gsl_lower_law.specs.Values.{Stands}
use Rattle.gsl_lower_law.proofs.Adding.{extends_put}
use Rattle.gsl_lower_law.proofs.Joining.{keeps_same}
use Rattle.gsl_lower_law.proofs.Plain.{asking_does}
use Rattle.gsl_lower_holders.specs.Flow.{Flow, Gives, Lacks, Lowered, flow_of, fresh, lift}
use Rattle.gsl_lower_follows.specs.Frames.{Frame, Good, Inside, Seated, body, coming}
use Rattle.gsl_lower_follows.specs.Giving.{After, Does, Grown, GrownTo, none_waits}
use Rattle.gsl_lower_follows.specs.Stretching.{Stretch}
use Rattle.gsl_lower_follows.proofs.Behind.{follows_behind}
use Rattle.gsl_lower_follows.proofs.Doing.{does_lift}
use Rattle.gsl_lower_follows.proofs.Drawn.{after_drawn, choices_are, left_with}
use Rattle.gsl_lower_follows.proofs.Holding.{Unchanged, seated_moved}
use Rattle.gsl_lower_follows.proofs.Jumping.{begun_at, jumps}
use Rattle.gsl_lower_follows.proofs.Placing.{coming_before, inside_between}
use Rattle.gsl_lower_follows.proofs.Reached.{reached_by}
use Rattle.gsl_lower_follows.proofs.Stretches.{stretch_one, stretch_then}

module _ (m : Module) (input : Input) (whole : Sections) (f : Frame m input whole) where
  pub seated_grown : (b later : Flow) → Grown b later → Seated m input whole f b.place → Seated m input whole f later.place
  seated_grown b later grown seated = subst (Seated m input whole f) (sym grown.place) (seated_moved m input whole f b.place later.place.label later.place.used seated)

  module _ (p : Program) (around : Around) where
    -- at the beginning of a block the state is that of the shader as well
    pub good_begun : {lent back units left : ℕ} (b later : Flow) (s : shader.State) (state : State) → Good m input whole f p around b s state → Grown b later → Inside m input whole f later.sections
        → Stretch m input lent back units state left (Going (begun_at m input whole f state later.sections)) → Good m input whole f p around later s (begun_at m input whole f state later.sections)
    good_begun {lent} {back} {units} {left} b later s state good grown inside led = record {
      inside = inside;
      rest = refl;
      within = good.within;
      own = good.own;
      waiting = good.waiting;
      ready = record { lasting = keeps_same f.own; later = λ id less. refl };
      seated = seated_grown b later grown good.seated;
      holds = (let h = good.holds in record { values = h.values; blocks = h.blocks; buffers = h.buffers; choices = h.choices; count = h.count; outside = h.outside });
      typed = good.typed;
      reached = reached_by m input good.reached led;
    }

    -- a step that only finds or takes an id
    pub does_aside : {A : Type 0} (Is : A → Ids → Type 0) (units : ℕ) (b : Flow) (s : shader.State) (state : State) (step : Step A) → Good m input whole f p around b s state → law.Does m input whole Is state.choices state b.sections step
        → Does m input whole f p 0 units state (Unchanged m input whole f p around b state) none_waits (Got tt s units) (lift step b)
    does_aside Is units b s state step good does =
        does_lift m input whole f p around units b s state Is (drawing state state.choices) (Unchanged m input whole f p around b state) none_waits tt s step good does
        (λ a later l inside extends. subst (λ t. After m input whole f p around false b state (flow_of later b.place) t (record (leaving state (drawing state state.choices) l.ids) { rest = coming m input whole f later })) (ap (left_with s) good.holds.choices)
        (after_drawn m input whole f p around b s state l.ids state.choices later (choices_are m input whole f p around b s state good) good inside l.ready l.keeps l.reached))

    pub does_fresh : (units : ℕ) (b : Flow) (s : shader.State) (state : State) → Good m input whole f p around b s state → Does m input whole f p 0 units state (Unchanged m input whole f p around b state) none_waits (Got tt s units) (fresh b)
    does_fresh units b s state good = does_aside (λ id ids. Unit {0}) units b s state (id_by take) good (asking_does m input whole (λ id ids. Unit {0}) take state b.sections (extends_take b.sections) refl (λ inside text keeps. tt))

  -- ---- a choice between two blocks

  module _ (b : Sections) (end x on_true on_false : ℕ) where
    abbrev pub merged : Sections
    merged = put op.SELECTION_MERGE (end ∷ 0 ∷ []) b

    abbrev pub chosen : Sections
    chosen = put op.BRANCH_CONDITIONAL (x ∷ on_true ∷ on_false ∷ []) merged

    -- the block that is chosen begins, wherever its label stands behind
    pub chooses : (v : Value) (label : ℕ) (before : Sections) (state : State) (units : ℕ) → (if word_in v == 0 then on_false else on_true) ≡ label → Stands state.ids x v → Inside m input whole f b → Inside m input whole f (put op.LABEL (label ∷ []) before) → Extends chosen before
        → state.rest ≡ coming m input whole f b → state.body ≡ body m input whole f → state.own ≡ f.own
        → Stretch m input 0 0 units state units (Going (begun_at m input whole f state (put op.LABEL (label ∷ []) before)))
    unfolding form_of
    chooses v label before state units which stands here last grown rest_is within own =
        stretch_then m input 0 0 0 units units units state mid _ first (jumps m input whole f branch label merged before mid units inside_merged inside_before last refl within own grown.functions.more
        (grown.functions.is ∙ append_assoc merged.functions (branch ∷ []) grown.functions.more)
        (λ at more. ap (λ o. on_whole o (λ c. if word_in c == 0 then branching (record mid { rest = more }) on_false else branching (record mid { rest = more }) on_true)) stands ∙ by_word (word_in v == 0) (record mid { rest = more }) which))
      where
        branch : Instr
        branch = instr op.BRANCH_CONDITIONAL (x ∷ on_true ∷ on_false ∷ [])

        mid : State
        mid = record state { rest = coming m input whole f merged }

        all_on : Extends merged (put op.LABEL (label ∷ []) before)
        all_on = extends_then (extends_put op.BRANCH_CONDITIONAL (x ∷ on_true ∷ on_false ∷ []) merged) (extends_then grown (extends_put op.LABEL (label ∷ []) before))

        inside_merged : Inside m input whole f merged
        inside_merged = inside_between m input whole f b merged (put op.LABEL (label ∷ []) before) here last (extends_put op.SELECTION_MERGE (end ∷ 0 ∷ []) b) all_on

        inside_before : Inside m input whole f before
        inside_before = inside_between m input whole f b before (put op.LABEL (label ∷ []) before) here last (extends_then (extends_put op.SELECTION_MERGE (end ∷ 0 ∷ []) b) (extends_then (extends_put op.BRANCH_CONDITIONAL (x ∷ on_true ∷ on_false ∷ []) merged) grown)) (extends_put op.LABEL (label ∷ []) before)

        at_merge : (at : ℕ) × (coming m input whole f b ≡ record { at = at; instr = instr op.SELECTION_MERGE (end ∷ 0 ∷ []) } ∷ coming m input whole f merged)
        at_merge = coming_before m input whole f b merged (instr op.SELECTION_MERGE (end ∷ 0 ∷ []) ∷ []) here inside_merged refl

        first : Stretch m input 0 0 units state units (Going mid)
        first = stretch_one m input units state (Going mid) (let long : length state.rest ≡ suc (length (coming m input whole f merged)) = ap length (rest_is ∙ at_merge.1) in omega (arith, long)) (ap (λ l. step m input (record state { rest = l })) (rest_is ∙ at_merge.1))

        by_word : (zero_word : Bool) (now : State) → (if zero_word then on_false else on_true) ≡ label → (if zero_word then branching now on_false else branching now on_true) ≡ branching now label
        by_word true now e = ap (branching now) e
        by_word false now e = ap (branching now) e

  -- ---- behind a stretch

  module _ (p : Program) where
    -- what is lowered behind a place that is reached
    pub does_behind : {A R : Type 0} (units : ℕ) (b between : Flow) (state mid : State) (Is : A → Flow → R → shader.State → State → Type 0) (ran : Ran R) (low : Lowered A) → Inside m input whole f b.sections → Grown b between → GrownTo between low
        → (Inside m input whole f between.sections → Stretch m input 0 0 units state units (Going mid))
        → (Inside m input whole f between.sections → Stretch m input 0 0 units state units (Going mid) → Does m input whole f p 0 units mid Is none_waits ran low)
        → Does m input whole f p 0 units state Is none_waits ran low
    does_behind units b between state mid Is ran Lacks here grown more stretch does = tt
    does_behind units b between state mid Is ran (Gives a later) here grown more stretch does = λ inside.
        let there = inside_between m input whole f b.sections between.sections later.sections here inside grown.extends more.extends in
        follows_behind m input p 0 0 units units state mid (Is a later) (none_waits a later) ran (stretch there) (omega arith) (does there (stretch there) inside)
