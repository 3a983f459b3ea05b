-- `switch`.
use Rattle.std.proofs.Common.{◌≡◌, ◌≢◌, refl, sym, ap, ◌∙◌, subst, ℕ, suc, Bool, true, false, if◌then◌else◌, ◌==◌, List, [], ◌∷◌, length, append_assoc, arith}
use Rattle.std.specs.List.{list_any}
use Rattle.std.proofs.lemmas.List.{length-map}
use Rattle.gsl_base.specs.declared.input.Input.{Input}
use Rattle.gsl_instr.specs.Forms.{form_of}
use Rattle.gsl_instr.specs.declared.op.TheConstants as op
use Rattle.gsl_types.specs.declared.ty.Ty.{Ty}
use Rattle.gsl_types.specs.declared.ty.Ty.TheVariants.{Void}
use Rattle.gsl_words.specs.declared.module.Instr.{Instr}
use Rattle.gsl_words.specs.declared.module.Module.{Module}
use Rattle.gsl_values.specs.declared.value.Value.{Value}
use Rattle.gsl_tree.specs.Around.{Around}
use Rattle.gsl_tree.specs.Values.{word_in}
use Rattle.gsl_tree.specs.declared.program.Program.{Program}
use Rattle.gsl_meaning.specs.Running.{Run}
use Rattle.gsl_meaning.specs.Running as shader_run
use Rattle.gsl_meaning.specs.State as shader
use Rattle.gsl_meaning.specs.Statements as statement
use Rattle.gsl_meaning.specs.Statements.{Arm, Normal, Broke, Continued, Returned, arms_for, arms_from, behind_switch, has_label}
use Rattle.gsl_machine.specs.Machine.{step}
use Rattle.gsl_machine.specs.State.{Going, State, on_whole}
use Rattle.gsl_machine.specs.Steps.{branching, label_for}
use Rattle.gsl_spv.specs.Calls.{put, take}
use Rattle.gsl_spv.specs.Declarations.{instr}
use Rattle.gsl_spv.specs.Growing.{Extends}
use Rattle.gsl_spv.specs.Sections.{Sections}
use Rattle.gsl_spv.proofs.Extending.{extends_same, extends_then}
use Rattle.gsl_lower_law.specs.Values.{Stands}
use Rattle.gsl_lower_law.proofs.Adding.{extends_put}
use Rattle.gsl_lower_holders.specs.Flow.{Emit, Flow, Gives, Lacks, Lowered, behind, each, flow_of, fresh, given, opening, putting_here, ◌>>=◌}
use Rattle.gsl_lower_stmt.specs.Lowering.{defaults_of, switched, words_of}
use Rattle.gsl_lower_stmt.specs.Parts.{LowerArm, begin_switch, default_of, falling, in_switch, targets}
use Rattle.gsl_lower_stmt.specs.declared.exits.Exits.{Exits}
use Rattle.gsl_lower_follows.specs.Following.{Follows}
use Rattle.gsl_lower_follows.specs.Frames.{Frame, Good, Inside, Seated, coming}
use Rattle.gsl_lower_follows.specs.Giving.{Adds, Does, GivesValue, Grown, GrownTo, HasGiven, none_waits}
use Rattle.gsl_lower_follows.specs.Stretching.{Stretch}
use Rattle.gsl_lower_follows.proofs.Beginning.{seated_grown}
use Rattle.gsl_lower_follows.proofs.Behind.{follows_behind, follows_then, reaches_here}
use Rattle.gsl_lower_follows.proofs.Fetching.{adds_fresh, adds_opening}
use Rattle.gsl_lower_follows.proofs.Growing.{adds_given, adds_then, grown_same, grown_then}
use Rattle.gsl_lower_follows.proofs.Jumping.{begun_at, jumps}
use Rattle.gsl_lower_follows.proofs.Placing.{coming_before, inside_between}
use Rattle.gsl_lower_follows.proofs.Stretches.{stretch_one, stretch_then}
use Rattle.gsl_lower_law_expr.proofs.Operands.{given_value}
use Rattle.gsl_lower_law_stmt.specs.Doing.{DoesHere, DoesStatement, IsDone, LeadBehind}
use Rattle.gsl_lower_law_stmt.proofs.Exits.{adds_putting, within_good}
use Rattle.gsl_lower_law_stmt.proofs.Ways.{block_at, fresh_then, grown_block, taken}
use Rattle.gsl_lower_law_loops.proofs.Opening.{flow_in, good_aside, grown_by, grown_taken, opens}
use Rattle.gsl_lower_law_loops.proofs.Units.{good_at, good_on}
use Rattle.gsl_lower_law_switch.specs.Choosing.{AreArms, switched_means}
use Rattle.gsl_lower_law_switch.proofs.Arms.{Land, Lands, adds_falling, arms_land, behind_all}
use Rattle.gsl_lower_law_switch.proofs.Labels.{any_is, default_is, has, label_found, label_is, label_missed}

-- ---- labels

-- an id for each
abbrev IdsFor : List (List ℕ) → Flow → Lowered (List ℕ) → Type 0
IdsFor words b Lacks = Unit {0}
IdsFor words b (Gives labels later) = Grown b later × (later.sections.functions ≡ b.sections.functions) × (length labels ≡ length words)

ids_for : (words : List (List ℕ)) (b : Flow) → IdsFor words b (each (λ one. fresh) words b)
unfolding each
ids_for [] b = (grown_same b, refl, refl)
ids_for (first ∷ words) b =
    fresh_then (IdsFor (first ∷ words) b) b (λ id. each (λ one. fresh) words >>= (λ more. given (id ∷ more))) tt (by (take b.sections).id (each (λ one. fresh) words (taken b)) (ids_for words (taken b)))
  where
    by : (id : ℕ) (low : Lowered (List ℕ)) → IdsFor words (taken b) low → IdsFor (first ∷ words) b (behind low (λ more. given (id ∷ more)))
    by id Lacks k = tt
    by id (Gives labels later) k = (grown_then (grown_taken b) k.0, k.1, ap suc k.2)

-- control goes to the label of an arm
module _ (words : List (List ℕ)) (defaults : List Bool) (x : ℕ) (labels : List ℕ) (end : ℕ) (b : Flow) where
  abbrev merged : Sections
  merged = put op.SELECTION_MERGE (end ∷ 0 ∷ []) b.sections

  abbrev switching : Flow
  switching = flow_of (put op.SWITCH (x ∷ default_of defaults labels end ∷ targets words labels) merged) b.place

  grown_switching : Grown b switching
  grown_switching = record { extends = extends_then (extends_put op.SELECTION_MERGE (end ∷ 0 ∷ []) b.sections) (extends_put op.SWITCH (x ∷ default_of defaults labels end ∷ targets words labels) merged); used = omega arith; place = refl }

-- The code of a `switch` behind its value: labels for its arms and for its end were taken, and the arms stand behind.
record Opened (arms : List LowerArm) (exits : Exits) (x : ℕ) (b later : Flow) : Type 0 where
  pub labels : List ℕ
  pub end : ℕ
  pub before : Flow
  pub last : Flow
  pub grown : Grown b before
  pub same : before.sections.functions ≡ b.sections.functions
  pub long : length labels ≡ length (words_of arms)
  pub falls : falling end labels arms exits (switching (words_of arms) (defaults_of arms) x labels end before) ≡ Gives tt last
  pub is : block_at end last.sections last ≡ later

abbrev carrier : {A : Type 0} → Emit A → Type 0
carrier {A} emit = A

abbrev Labels : Type 0
Labels = carrier (begin_switch [] [] 0)

abbrev named : List ℕ → ℕ → Labels
named labels end = record { arms = labels; end = end }

-- what stands behind labels
abbrev labelled : List (List ℕ) → List Bool → ℕ → List ℕ → Emit Labels
labelled words defaults x labels = fresh >>= (λ end. putting_here op.SELECTION_MERGE (end ∷ 0 ∷ []) >>= (λ a. putting_here op.SWITCH (x ∷ default_of defaults labels end ∷ targets words labels) >>= (λ b. given (named labels end))))

-- the arms, and what is behind them
abbrev choosing : List LowerArm → Exits → Labels → Emit (Unit {0})
choosing arms exits l = falling l.end l.arms arms exits >>= (λ done. opening l.end)

module _ (arms : List LowerArm) (exits : Exits) (x : ℕ) where
  abbrev rest : Emit (Unit {0})
  rest = begin_switch (words_of arms) (defaults_of arms) x >>= choosing arms exits

  switch_opens : (b later : Flow) → rest b ≡ Gives tt later → Opened arms exits x b later
  unfolding begin_switch opening
  switch_opens b later e = by (each (λ one. fresh) (words_of arms) b) (ids_for (words_of arms) b) e
    where
      opened : (labels : List ℕ) (end : ℕ) (before : Flow) → Grown b before → before.sections.functions ≡ b.sections.functions → length labels ≡ length (words_of arms)
          → behind (falling end labels arms exits (switching (words_of arms) (defaults_of arms) x labels end before)) (λ done. opening end) ≡ Gives tt later → Opened arms exits x b later
      opened labels end before grown same long e =
          let o = opens (falling end labels arms exits (switching (words_of arms) (defaults_of arms) x labels end before)) (λ done. opening end) tt later e in
          record { labels = labels; end = end; before = before; last = o.1; grown = grown; same = same; long = long; falls = o.2; is = ap (flow_in o.1) o.3 }

      by : (low : Lowered (List ℕ)) → IdsFor (words_of arms) b low → behind (behind low (labelled (words_of arms) (defaults_of arms) x)) (choosing arms exits) ≡ Gives tt later → Opened arms exits x b later
      by Lacks known e = absurd cc
      by (Gives labels between) known e =
          fresh_then (λ (low : Lowered Labels). behind low (choosing arms exits) ≡ Gives tt later → Opened arms exits x b later) between
          (λ end. putting_here op.SELECTION_MERGE (end ∷ 0 ∷ []) >>= (λ a. putting_here op.SWITCH (x ∷ default_of (defaults_of arms) labels end ∷ targets (words_of arms) labels) >>= (λ b. given (named labels end))))
          (λ e. absurd cc) (λ e. opened labels (take between.sections).id (taken between) (grown_then known.0 (grown_taken between)) known.1 known.2 e) e

module _ (m : Module) (input : Input) (sections : Sections) (f : Frame m input sections) (p : Program) (around : Around) (arms : List LowerArm) (means : List Arm) (are : AreArms m input sections f p around arms means) where
  -- ---- what is lowered only adds

  adds_each : (words : List (List ℕ)) → Adds (each (λ one. fresh) words)
  adds_each words b = by (each (λ one. fresh) words b) (ids_for words b)
    where
      by : (low : Lowered (List ℕ)) → IdsFor words b low → GrownTo b low
      by Lacks known = tt
      by (Gives labels later) known = known.0

  adds_begin : (words : List (List ℕ)) (defaults : List Bool) (x : ℕ) → Adds (begin_switch words defaults x)
  unfolding begin_switch
  adds_begin words defaults x =
      adds_then (each (λ one. fresh) words) (labelled words defaults x) (adds_each words)
      (λ labels. adds_then fresh (λ end. putting_here op.SELECTION_MERGE (end ∷ 0 ∷ []) >>= (λ a. putting_here op.SWITCH (x ∷ default_of defaults labels end ∷ targets words labels) >>= (λ b. given (named labels end)))) adds_fresh
      (λ end. adds_then (putting_here op.SELECTION_MERGE (end ∷ 0 ∷ [])) (λ a. putting_here op.SWITCH (x ∷ default_of defaults labels end ∷ targets words labels) >>= (λ b. given (named labels end))) (adds_putting op.SELECTION_MERGE (end ∷ 0 ∷ []))
      (λ a. adds_then (putting_here op.SWITCH (x ∷ default_of defaults labels end ∷ targets words labels)) (λ b. given (named labels end)) (adds_putting op.SWITCH (x ∷ default_of defaults labels end ∷ targets words labels))
      (λ b. adds_given (named labels end)))))

  adds_rest : (exits : Exits) (x : ℕ) → Adds (rest arms exits x)
  adds_rest exits x =
      adds_then (begin_switch (words_of arms) (defaults_of arms) x) (choosing arms exits) (adds_begin (words_of arms) (defaults_of arms) x)
      (λ l. adds_then (falling l.end l.arms arms exits) (λ done. opening l.end) (adds_falling m input sections f p around l.end exits arms means are l.arms) (λ done. adds_opening l.end))

  -- ---- the arm that is chosen

  module _ (end : ℕ) (exits : Exits) (last : Flow) (whole : Inside m input sections f (behind_all m input sections f p around end exits last).sections) (lead : LeadBehind m input sections f (behind_all m input sections f p around end exits last).sections exits) where
    lands_for : (labels : List ℕ) → length labels ≡ length arms → (start : Sections) → Land m input sections f p around end exits last whole lead labels arms means start → (word : ℕ)
        → Lands m input sections f p around end exits last whole lead start (label_for word (default_of (defaults_of arms) labels end) (targets (words_of arms) labels)) (statement.falling (arms_for word means))
    lands_for labels long start land word = by (list_any (has_label word) means) refl
      where
        by : (any : Bool) → list_any (has_label word) means ≡ any
            → Lands m input sections f p around end exits last whole lead start (label_for word (default_of (defaults_of arms) labels end) (targets (words_of arms) labels)) (statement.falling (if any then arms_from (has_label word) means else arms_from (λ one. one.is_default) means))
        by true is =
            subst (λ l. Lands m input sections f p around end exits last whole lead start l (statement.falling (arms_from (has_label word) means)))
            (sym (label_is word (default_of (defaults_of arms) labels end) labels arms ∙ label_found (has word) (default_of (defaults_of arms) labels end) end labels arms long (any_is m input sections f p around word arms means are ∙ is)))
            (land.finds (has word) (has_label word) (λ arm one same. ap (λ labels. list_any (λ label. label == word) labels) same.labels))
        by false is =
            subst (λ l. Lands m input sections f p around end exits last whole lead start l (statement.falling (arms_from (λ one. one.is_default) means)))
            (sym (label_is word (default_of (defaults_of arms) labels end) labels arms ∙ label_missed (has word) (default_of (defaults_of arms) labels end) labels arms (any_is m input sections f p around word arms means are ∙ is) ∙ default_is end labels arms))
            (land.finds (λ arm. arm.is_default) (λ one. one.is_default) (λ arm one same. same.is_default))

    abbrev behind_it : Flow
    behind_it = behind_all m input sections f p around end exits last

    abbrev In : statement.Flow → shader.State → State → Type 0
    In = IsDone m input sections f p around false (in_switch end exits) tt behind_it

    abbrev Out : statement.Flow → shader.State → State → Type 0
    Out = IsDone m input sections f p around false exits tt behind_it

    abbrev Waits : shader.State → State → Type 0
    Waits = none_waits {A = Unit {0}} tt behind_it

    -- behind the arms, however they were left
    leaves_arms : (run : Run statement.Flow) (s : shader.State) (units : ℕ) (state : State) → Inside m input sections f last.sections → Seated m input sections f behind_it.place
        → Follows m input p 0 units state In Waits (run s units) → Follows m input p 0 units state Out Waits (shader_run.behind (run s units) behind_switch)
    leaves_arms run s units state inside seated does =
        follows_then m input p 0 units state In Waits Out Waits (run s units) behind_switch does
        (λ flow t left mid is less. goes flow t left mid is)
        (λ t left mid none less. absurd none)
      where
        goes : (flow : statement.Flow) (t : shader.State) (left : ℕ) (mid : State) → In flow t mid → Follows m input p 0 left mid Out Waits (behind_switch flow t left)
        goes Normal t left mid is = reaches_here m input left mid (Out Normal t) is
        goes Broke t left mid is = reaches_here m input left mid (Out Normal t) (refl, good_at m input sections f p around last.sections end last t mid seated inside whole is)
        goes Continued t left mid is = reaches_here m input left mid (Out Continued t) is
        goes (Returned v) t left mid is = reaches_here m input left mid (Out (Returned v) t) is

    -- from behind the value on
    module _ (x : ℕ) (labels : List ℕ) (before : Flow) (inside : Inside m input sections f before.sections) (seated : Seated m input sections f before.place) (long : length labels ≡ length arms)
        (falls : falling end labels arms exits (switching (words_of arms) (defaults_of arms) x labels end before) ≡ Gives tt last) where
      abbrev start : Flow
      start = switching (words_of arms) (defaults_of arms) x labels end before

      abbrev between : Sections
      between = merged (words_of arms) (defaults_of arms) x labels end before

      abbrev branch : Instr
      branch = instr op.SWITCH (x ∷ default_of (defaults_of arms) labels end ∷ targets (words_of arms) labels)

      grown_last : Grown start last
      grown_last = grown_by (falling end labels arms exits) start tt last (adds_falling m input sections f p around end exits arms means are labels) falls

      from_start : Extends start.sections behind_it.sections
      from_start = extends_then grown_last.extends (extends_put op.LABEL (end ∷ []) last.sections)

      within : (c : Sections) → Extends before.sections c → Extends c behind_it.sections → Inside m input sections f c
      within c one two = inside_between m input sections f before.sections c behind_it.sections inside whole one two

      inside_start : Inside m input sections f start.sections
      inside_start = within start.sections (grown_switching (words_of arms) (defaults_of arms) x labels end before).extends from_start

      inside_merged : Inside m input sections f between
      inside_merged = within between (extends_put op.SELECTION_MERGE (end ∷ 0 ∷ []) before.sections) (extends_then (extends_put op.SWITCH (x ∷ default_of (defaults_of arms) labels end ∷ targets (words_of arms) labels) between) from_start)

      inside_last : Inside m input sections f last.sections
      inside_last = within last.sections (extends_then (grown_switching (words_of arms) (defaults_of arms) x labels end before).extends grown_last.extends) (extends_put op.LABEL (end ∷ []) last.sections)

      grown_later : Grown before behind_it
      grown_later = grown_then (grown_switching (words_of arms) (defaults_of arms) x labels end before) (grown_then grown_last (grown_block end last.sections last (extends_same last.sections)))

      land : Land m input sections f p around end exits last whole lead labels arms means start.sections
      land = arms_land m input sections f p around end exits last whole lead labels arms means are long start inside_start (seated_grown m input sections f before start (grown_switching (words_of arms) (defaults_of arms) x labels end before) seated) falls

      -- to the label of the arm
      leads_to : (s : shader.State) (units : ℕ) (state : State) (v : Value) → Good m input sections f p around before s state → Stands state.ids x v → (label : ℕ) → label_for (word_in v) (default_of (defaults_of arms) labels end) (targets (words_of arms) labels) ≡ label
          → (from : Sections) → Extends start.sections from → Inside m input sections f from → Inside m input sections f (put op.LABEL (label ∷ []) from)
          → Stretch m input 0 0 units state units (Going (begun_at m input sections f state (put op.LABEL (label ∷ []) from)))
      unfolding form_of
      leads_to s units state v good stands label is from grown inside_from inside_label =
          stretch_then m input 0 0 0 units units units state mid _ at_merge
          (jumps m input sections f branch label between from mid units inside_merged inside_from inside_label refl good.within good.own grown.functions.more
          (grown.functions.is ∙ append_assoc between.functions (branch ∷ []) grown.functions.more)
          (λ at more. ap (λ o. on_whole o (λ v. branching (record mid { rest = more }) (label_for (word_in v) (default_of (defaults_of arms) labels end) (targets (words_of arms) labels)))) stands ∙ ap (branching (record mid { rest = more })) is))
        where
          mid : State
          mid = record state { rest = coming m input sections f between }

          merge : (at : ℕ) × (coming m input sections f before.sections ≡ record { at = at; instr = instr op.SELECTION_MERGE (end ∷ 0 ∷ []) } ∷ coming m input sections f between)
          merge = coming_before m input sections f before.sections between (instr op.SELECTION_MERGE (end ∷ 0 ∷ []) ∷ []) inside inside_merged refl

          at_merge : Stretch m input 0 0 units state units (Going mid)
          at_merge = stretch_one m input units state (Going mid) (let longer : length state.rest ≡ suc (length (coming m input sections f between)) = ap length (good.rest ∙ merge.1) in omega (arith, longer)) (ap (λ l. step m input (record state { rest = l })) (good.rest ∙ merge.1))

      chosen : (s : shader.State) (units : ℕ) (state : State) (v : Value) → Good m input sections f p around before s state → Stands state.ids x v
          → Follows m input p 0 units state Out Waits (shader_run.behind (statement.falling (arms_for (word_in v) means) s units) behind_switch)
      chosen s units state v good stands = by (lands_for labels long start.sections land (word_in v))
        where
          by : Lands m input sections f p around end exits last whole lead start.sections (label_for (word_in v) (default_of (defaults_of arms) labels end) (targets (words_of arms) labels)) (statement.falling (arms_for (word_in v) means))
              → Follows m input p 0 units state Out Waits (shader_run.behind (statement.falling (arms_for (word_in v) means) s units) behind_switch)
          by l =
              let label = label_for (word_in v) (default_of (defaults_of arms) labels end) (targets (words_of arms) labels) in
              let entered = begun_at m input sections f state (put op.LABEL (label ∷ []) l.from.sections) in
              let led = leads_to s units state v good stands label refl l.from.sections l.extends l.inside l.inside_label in
              follows_behind m input p 0 0 units units state entered Out Waits (shader_run.behind (statement.falling (arms_for (word_in v) means) s units) behind_switch)
              led (omega arith)
              (leaves_arms (statement.falling (arms_for (word_in v) means)) s units entered inside_last (seated_grown m input sections f before behind_it grown_later seated)
              (l.does s units entered (good_on m input sections f p around (block_at label l.from.sections l.from) s state l.seated l.inside_label (within_good m input sections f p around before s state good) led)))

  -- ---- the whole `switch`

  module _ (splits : Bool) (ty : Ty) (value : Emit ℕ) (y : Run Value) (real : ty ≢ Void) (gives : GivesValue m input sections f p around splits ty value y) where
    abbrev go : Value → Run statement.Flow
    go v = shader_run.◌>>=◌ (statement.falling (arms_for (word_in v) means)) behind_switch

    -- behind the value, where the code is known
    from_value : (exits : Exits) (x : ℕ) (b later : Flow) → Opened arms exits x b later → Inside m input sections f b.sections → Inside m input sections f later.sections → LeadBehind m input sections f later.sections exits
        → (s : shader.State) (units : ℕ) (state : State) (v : Value) → Good m input sections f p around b s state → Stands state.ids x v
        → Follows m input p 0 units state (IsDone m input sections f p around false exits tt later) (none_waits {A = Unit {0}} tt later) (go v s units)
    from_value exits x b later o inside inside_later lead s units state v good stands =
        subst (λ (later : Flow). Follows m input p 0 units state (IsDone m input sections f p around false exits tt later) (none_waits {A = Unit {0}} tt later) (go v s units)) o.is
        (chosen o.end exits o.last whole (subst (λ (later : Flow). LeadBehind m input sections f later.sections exits) (sym o.is) lead) x o.labels o.before inside_before there.seated long o.falls s units state v there stands)
      where
        whole : Inside m input sections f (block_at o.end o.last.sections o.last).sections
        whole = subst (λ (later : Flow). Inside m input sections f later.sections) (sym o.is) inside_later

        to_last : Grown (switching (words_of arms) (defaults_of arms) x o.labels o.end o.before) o.last
        to_last = grown_by (falling o.end o.labels arms exits) (switching (words_of arms) (defaults_of arms) x o.labels o.end o.before) tt o.last (adds_falling m input sections f p around o.end exits arms means are o.labels) o.falls

        inside_before : Inside m input sections f o.before.sections
        inside_before = inside_between m input sections f b.sections o.before.sections (block_at o.end o.last.sections o.last).sections inside whole o.grown.extends
            (extends_then (grown_switching (words_of arms) (defaults_of arms) x o.labels o.end o.before).extends (extends_then to_last.extends (extends_put op.LABEL (o.end ∷ []) o.last.sections)))

        there : Good m input sections f p around o.before s state
        there = good_aside m input sections f p around b o.before s state good o.grown o.same inside_before

        long : length o.labels ≡ length arms
        long = o.long ∙ length-map arms (λ (arm : LowerArm). arm.labels)

    switch_here : (exits : Exits) (b : Flow) (s : shader.State) (units : ℕ) (state : State) → Good m input sections f p around b s state → DoesHere m input sections f p around units state false exits (switched_means y means s units) (switched value arms exits b)
    switch_here exits b s units state good = by (value b) (gives.adds b) (gives.does b s units state good)
      where
        by : (low : Lowered ℕ) → GrownTo b low → Does m input sections f p 0 units state (HasGiven m input sections f p around splits ty b state) none_waits (y s units) low
            → DoesHere m input sections f p around units state false exits (shader_run.behind (y s units) go) (behind (behind low (begin_switch (words_of arms) (defaults_of arms))) (choosing arms exits))
        by Lacks grown does = tt
        by (Gives x b1) grown does = later_by (rest arms exits x b1) refl
          where
            later_by : (low : Lowered (Unit {0})) → rest arms exits x b1 ≡ low → DoesHere m input sections f p around units state false exits (shader_run.behind (y s units) go) low
            later_by Lacks e = tt
            later_by (Gives done later) e = λ inside lead.
                let more = grown_by (rest arms exits x) b1 tt later (adds_rest exits x) e in
                let inside1 = inside_between m input sections f b.sections b1.sections later.sections good.inside inside grown.extends more.extends in
                follows_then m input p 0 units state (HasGiven m input sections f p around splits ty b state x b1) (none_waits x b1) (IsDone m input sections f p around false exits tt later) (none_waits {A = Unit {0}} tt later) (y s units) go (does inside1)
                (λ v t left mid g less. from_value exits x b1 later (switch_opens arms exits x b1 later e) inside1 inside lead t left mid v g.after.good (given_value m input sections f p around mid.ids x ty v real g.given).1)
                (λ t left mid none less. absurd none)

    adds_switch : (exits : Exits) → Adds (switched value arms exits)
    adds_switch exits b = by (value b) (gives.adds b)
      where
        by : (low : Lowered ℕ) → GrownTo b low → GrownTo b (behind (behind low (begin_switch (words_of arms) (defaults_of arms))) (choosing arms exits))
        by Lacks grown = tt
        by (Gives x b1) grown = grown_on (rest arms exits x b1) (adds_rest exits x b1)
          where
            grown_on : (low : Lowered (Unit {0})) → GrownTo b1 low → GrownTo b low
            grown_on Lacks more = tt
            grown_on (Gives done later) more = grown_then grown more

    pub switch_does : DoesStatement m input sections f p around false (switched value arms) (switched_means y means)
    switch_does = record { adds = adds_switch; does = switch_here }
