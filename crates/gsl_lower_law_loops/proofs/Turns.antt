-- Turns of loops: the body, the step and the way back to the head, for which a unit was spent.
use Rattle.std.proofs.Common.{◌≡◌, ◌≢◌, refl, sym, ap, ◌∙◌, subst, ℕ, zero, suc, ◌<◌, ◌≤◌, Bool, true, false, if◌then◌else◌, ◌==◌, List, [], ◌∷◌, ◌++◌, length, Some, arith}
use Rattle.gsl_base.specs.declared.input.Input.{Input}
use Rattle.gsl_instr.specs.Forms.{form_of}
use Rattle.gsl_instr.specs.declared.op.TheConstants as op
use Rattle.gsl_words.specs.declared.module.Instr.{Instr}
use Rattle.gsl_words.specs.declared.module.Module.{Module}
use Rattle.gsl_types.specs.declared.ty.Ty.{Ty}
use Rattle.gsl_types.specs.declared.ty.Ty.TheVariants.{Void}
use Rattle.gsl_values.specs.declared.value.Value.{Value}
use Rattle.gsl_tree.specs.Around.{Around}
use Rattle.gsl_tree.specs.Values.{word_in}
use Rattle.gsl_tree.specs.declared.program.Program.{Program}
use Rattle.gsl_meaning.specs.Running.{Got, Ran, Run}
use Rattle.gsl_meaning.specs.Running as shader_run
use Rattle.gsl_meaning.specs.State as shader
use Rattle.gsl_meaning.specs.Statements as statement
use Rattle.gsl_meaning.specs.Statements.{Normal, Broke, Continued, Returned, again_if, behind_body, turns}
use Rattle.gsl_valid.specs.Instruction.{read}
use Rattle.gsl_valid.specs.Placed.{Placed}
use Rattle.gsl_machine.specs.State.{Going, State, on, on_whole}
use Rattle.gsl_machine.specs.Steps.{act, branching}
use Rattle.gsl_spv.specs.Calls.{put}
use Rattle.gsl_spv.specs.Declarations.{instr}
use Rattle.gsl_spv.specs.Growing.{Extends}
use Rattle.gsl_spv.specs.Sections.{Sections}
use Rattle.gsl_spv.proofs.Extending.{extends_same, extends_then}
use Rattle.gsl_lower_law.specs.Values.{Stands}
use Rattle.gsl_lower_law.proofs.Adding.{extends_put}
use Rattle.gsl_lower_holders.specs.Flow.{Flow}
use Rattle.gsl_lower_stmt.specs.declared.exits.Exits.{Exits}
use Rattle.gsl_lower_follows.specs.Following.{Follows, Reaches}
use Rattle.gsl_lower_follows.specs.Frames.{Frame, Good, Inside, Seated, coming}
use Rattle.gsl_lower_follows.specs.Giving.{Grown, HasGiven, none_waits}
use Rattle.gsl_lower_follows.specs.Stretching.{Stretch, worth}
use Rattle.gsl_lower_follows.proofs.Beginning.{chooses, seated_grown}
use Rattle.gsl_lower_follows.proofs.Behind.{follows_behind, follows_then}
use Rattle.gsl_lower_follows.proofs.Growing.{grown_then}
use Rattle.gsl_lower_follows.proofs.Jumping.{begun_at, jumps}
use Rattle.gsl_lower_follows.proofs.Placing.{coming_before, inside_between}
use Rattle.gsl_lower_follows.proofs.Stretches.{lasts_at_once, lent_through, loan_unused, stretch_none}
use Rattle.gsl_lower_law_stmt.proofs.OfLawExpr.{given_value}
use Rattle.gsl_lower_law_stmt.specs.Doing.{IsDone}
use Rattle.gsl_lower_law_stmt.proofs.Exits.{within_good}
use Rattle.gsl_lower_law_stmt.proofs.Ways.{block_at, extends_sealed, grown_block, sealed}
use Rattle.gsl_lower_law_loops.specs.Looping.{testing}
use Rattle.gsl_lower_law_loops.proofs.Heads.{at_first, at_head, from_head, grown_first, grown_head, inside_before_head, inside_head}
use Rattle.gsl_lower_law_loops.proofs.Units.{coming_less, good_at, good_on, jumps_back, unit_taken}

-- what is given for a part of a run, and what stands behind it
pub ran_assoc : {A B C : Type 0} (r : Ran A) (go : A → Run B) (next : B → Run C) → shader_run.behind (shader_run.behind r go) next ≡ shader_run.behind r (λ a s units. shader_run.behind (go a s units) next)
ran_assoc (Got a s units) go next = refl
ran_assoc (shader_run.Ends s) go next = refl
ran_assoc shader_run.Strays go next = refl
ran_assoc shader_run.Goes go next = refl

-- a choice whose merge is its first block
abbrev pub chosen_at : ℕ → ℕ → ℕ → Sections → Sections
chosen_at i inner end b = put op.BRANCH_CONDITIONAL (i ∷ inner ∷ end ∷ []) (put op.SELECTION_MERGE (inner ∷ 0 ∷ []) b)

-- Flows of a loop, from the labels on that are known: before it, in its body and behind that, behind its step and behind the test that may
-- stand there.
module _ (leaves : Bool) (head first next end : ℕ) (before entered turned stepped tested : Flow) where
  abbrev pub at_step : Flow
  at_step = block_at next (sealed leaves next turned.sections) turned

  abbrev pub behind : Flow
  behind = block_at end tested.sections tested

  abbrev pub leading : Exits
  leading = record { break_to = Some end; continue_to = Some next }

  module _ (m : Module) (input : Input) (sections : Sections) (f : Frame m input sections) where
    -- they stand in the function, one behind the other
    pub record Lie : Type 0 where
      pub inside : Inside m input sections f before.sections
      pub whole : Inside m input sections f behind.sections
      pub seated : Seated m input sections f before.place
      pub to_body : Grown (at_first head first next end before) entered
      pub to_turned : Grown entered turned
      pub to_stepped : Grown at_step stepped
      pub to_tested : Grown stepped tested

    module _ (lie : Lie) where
      grown_body : Grown before entered
      grown_body = grown_then (grown_head head first next end before) (grown_then (grown_first head first next end before) lie.to_body)

      grown_turned : Grown before turned
      grown_turned = grown_then grown_body lie.to_turned

      grown_step : Grown turned at_step
      grown_step = grown_block next (sealed leaves next turned.sections) turned (extends_sealed leaves next turned.sections)

      grown_stepped : Grown before stepped
      grown_stepped = grown_then grown_turned (grown_then grown_step lie.to_stepped)

      grown_tested : Grown before tested
      grown_tested = grown_then grown_stepped lie.to_tested

      extends_behind : Extends tested.sections behind.sections
      extends_behind = extends_put op.LABEL (end ∷ []) tested.sections

      from_stepped : Extends stepped.sections behind.sections
      from_stepped = extends_then lie.to_tested.extends extends_behind

      from_step : Extends at_step.sections behind.sections
      from_step = extends_then lie.to_stepped.extends from_stepped

      from_turned : Extends turned.sections behind.sections
      from_turned = extends_then grown_step.extends from_step

      pub to_test : Extends turned.sections tested.sections
      to_test = extends_then grown_step.extends (extends_then lie.to_stepped.extends lie.to_tested.extends)

      from_body : Extends entered.sections behind.sections
      from_body = extends_then lie.to_turned.extends from_turned

      between : (b : Sections) → Extends before.sections b → Extends b behind.sections → Inside m input sections f b
      between b one two = inside_between m input sections f before.sections b behind.sections lie.inside lie.whole one two

      pub inside_first : Inside m input sections f (at_first head first next end before).sections
      inside_first = between (at_first head first next end before).sections (extends_then (grown_head head first next end before).extends (grown_first head first next end before).extends) (extends_then lie.to_body.extends from_body)

      pub inside_body : Inside m input sections f entered.sections
      inside_body = between entered.sections grown_body.extends from_body

      pub inside_turned : Inside m input sections f turned.sections
      inside_turned = between turned.sections grown_turned.extends from_turned

      pub inside_sealed : Inside m input sections f (sealed leaves next turned.sections)
      inside_sealed = between (sealed leaves next turned.sections) (extends_then grown_turned.extends (extends_sealed leaves next turned.sections)) (extends_then (extends_put op.LABEL (next ∷ []) (sealed leaves next turned.sections)) from_step)

      pub inside_step : Inside m input sections f at_step.sections
      inside_step = between at_step.sections (extends_then grown_turned.extends grown_step.extends) from_step

      pub inside_stepped : Inside m input sections f stepped.sections
      inside_stepped = between stepped.sections grown_stepped.extends from_stepped

      pub inside_tested : Inside m input sections f tested.sections
      inside_tested = between tested.sections grown_tested.extends extends_behind

      pub seated_step : Seated m input sections f at_step.place
      seated_step = seated_grown m input sections f before at_step (grown_then grown_turned grown_step) lie.seated

      pub seated_behind : Seated m input sections f behind.place
      seated_behind = seated_grown m input sections f before behind (grown_then grown_tested (grown_block end tested.sections tested (extends_same tested.sections))) lie.seated

      pub seated_head : Seated m input sections f (at_head head first next end before).place
      seated_head = seated_grown m input sections f before (at_head head first next end before) (grown_head head first next end before) lie.seated

      pub seated_first : Seated m input sections f (at_first head first next end before).place
      seated_first = seated_grown m input sections f before (at_first head first next end before) (grown_then (grown_head head first next end before) (grown_first head first next end before)) lie.seated

      module _ (p : Program) (around : Around) (exits : Exits) where
        -- where control is behind the loop
        abbrev pub Is : statement.Flow → shader.State → State → Type 0
        Is = IsDone m input sections f p around false exits tt behind

        abbrev pub Waits : shader.State → State → Type 0
        Waits = none_waits {A = Unit {0}} tt behind

        -- nothing is done, and a loan is not needed
        reaches_lent : (units : ℕ) (state : State) (Is : State → Type 0) → Is state → Reaches m input (worth m) units state Is units
        reaches_lent units state Is is = record { later = state; is = is; less = omega arith; stretch = loan_unused m input (worth m) units units state (Going state) (stretch_none m input 0 units state) }

        -- behind the body, however that was left
        pub behind_turn : (x go : Run statement.Flow) (u : shader.State) (units : ℕ) (state : State)
            → Follows m input p 0 units state (IsDone m input sections f p around leaves leading tt turned) (none_waits {A = Unit {0}} tt turned) (x u units)
            → ((t : shader.State) (left : ℕ) (mid : State) → left ≤ units → Good m input sections f p around at_step t mid → Follows m input p (worth m) left mid Is Waits (go t left))
            → Follows m input p (worth m) units state Is Waits (shader_run.behind (x u units) (behind_body go))
        unfolding form_of
        behind_turn x go u units state body on =
            follows_then m input p (worth m) units state (IsDone m input sections f p around leaves leading tt turned) (none_waits {A = Unit {0}} tt turned) Is Waits (x u units) (behind_body go) body
            (λ flow t left mid is less. goes flow t left mid less is)
            (λ t left mid none less. absurd none)
          where
            goes : (flow : statement.Flow) (t : shader.State) (left : ℕ) (mid : State) → left ≤ units → IsDone m input sections f p around leaves leading tt turned flow t mid → Follows m input p (worth m) left mid Is Waits (behind_body go flow t left)
            goes Normal t left mid less is =
                let led = jumps m input sections f (instr op.BRANCH (next ∷ [])) next turned.sections (sealed leaves next turned.sections) mid left inside_turned inside_sealed inside_step is.1.rest is.1.within is.1.own []
                (ap (λ l. (sealed l next turned.sections).functions) is.0) (λ at more. refl) in
                follows_behind m input p (worth m) (worth m) left left mid (begun_at m input sections f mid at_step.sections) Is Waits (go t left)
                (lent_through m input (worth m) left left mid _ led) (omega arith)
                (on t left (begun_at m input sections f mid at_step.sections) less (good_on m input sections f p around at_step t mid seated_step inside_step (within_good m input sections f p around turned t mid is.1) led))
            goes Broke t left mid less is = reaches_lent left mid (Is Normal t) (refl, good_at m input sections f p around tested.sections end tested t mid seated_behind inside_tested lie.whole is)
            goes Continued t left mid less is = on t left mid less (good_at m input sections f p around (sealed leaves next turned.sections) next turned t mid seated_step inside_sealed inside_step is)
            goes (Returned v) t left mid less is = reaches_lent left mid (Is (Returned v) t) is

        -- behind the step
        pub behind_step : (step go : Run statement.Flow) (u : shader.State) (units : ℕ) (state : State)
            → Follows m input p 0 units state (λ flow t last. Good m input sections f p around stepped t last) (none_waits {A = Unit {0}} tt stepped) (step u units)
            → ((t : shader.State) (left : ℕ) (mid : State) → left ≤ units → Good m input sections f p around stepped t mid → Follows m input p (worth m) left mid Is Waits (go t left))
            → Follows m input p (worth m) units state Is Waits (shader_run.behind (step u units) (λ flow. go))
        behind_step step go u units state steps on =
            follows_then m input p (worth m) units state (λ flow t last. Good m input sections f p around stepped t last) (none_waits {A = Unit {0}} tt stepped) Is Waits (step u units) (λ flow. go) steps
            (λ flow t left mid is less. on t left mid less is)
            (λ t left mid none less. absurd none)

        -- an instruction behind a flow that leads back to the head, for which a unit was spent
        pub back_by : (i : Instr) (from : Flow) → Inside m input sections f from.sections → tested.sections.functions ≡ from.sections.functions ++ i ∷ [] → (ran : Ran statement.Flow) (t : shader.State) (left : ℕ) (mid : State) → Good m input sections f p around from t mid
            → ((at : ℕ) → on (read i) (act m input at (record mid { rest = coming m input sections f tested.sections })) ≡ branching (record mid { rest = coming m input sections f tested.sections }) head)
            → ((state : State) → Good m input sections f p around (at_head head first next end before) t state → Follows m input p 0 left state Is Waits ran)
            → Follows m input p (worth m) left mid Is Waits ran
        back_by i from inside_from puts ran t left mid good acts on_head =
            let led = jumps_back m input sections f i head (put op.BRANCH (head ∷ []) before.sections) mid left at.0 (coming m input sections f tested.sections) (inside_before_head head first next end before m input sections f lie.inside inside_first)
            (inside_head head first next end before m input sections f lie.inside inside_first) (good.rest ∙ at.1) good.within good.own (acts at.0) in
            follows_behind m input p (worth m) 0 left left mid (begun_at m input sections f mid (at_head head first next end before).sections) Is Waits ran
            led (omega arith)
            (on_head (begun_at m input sections f mid (at_head head first next end before).sections) (good_on m input sections f p around (at_head head first next end before) t mid seated_head
            (inside_head head first next end before m input sections f lie.inside inside_first) (within_good m input sections f p around from t mid good) led))
          where
            at : (at : ℕ) × (coming m input sections f from.sections ≡ record { at = at; instr = i } ∷ coming m input sections f tested.sections)
            at = coming_before m input sections f from.sections tested.sections (i ∷ []) inside_from inside_tested puts

        -- an instruction behind a flow that leads to behind the loop
        pub out_by : (i : Instr) (from : Flow) → Inside m input sections f from.sections → tested.sections.functions ≡ from.sections.functions ++ i ∷ [] → (t : shader.State) (left : ℕ) (mid : State) → Good m input sections f p around from t mid
            → ((at : ℕ) (more : List Placed) → on (read i) (act m input at (record mid { rest = more })) ≡ branching (record mid { rest = more }) end)
            → Reaches m input (worth m) left mid (Is Normal t) left
        out_by i from inside_from puts t left mid good acts =
            let led = jumps m input sections f i end from.sections tested.sections mid left inside_from inside_tested lie.whole good.rest good.within good.own [] puts acts in
            record {
              later = begun_at m input sections f mid behind.sections;
              is = (refl, good_on m input sections f p around behind t mid seated_behind lie.whole (within_good m input sections f p around from t mid good) led);
              less = omega arith;
              stretch = loan_unused m input (worth m) left left mid _ led;
            }

        -- from the head to the first block
        pub first_good : (s : shader.State) (state : State) → Good m input sections f p around (at_head head first next end before) s state → Good m input sections f p around (at_first head first next end before) s (begun_at m input sections f state (at_first head first next end before).sections)
        first_good s state good = good_on m input sections f p around (at_first head first next end before) s state seated_first inside_first (within_good m input sections f p around (at_head head first next end before) s state good)
            (from_head head first next end before m input sections f lie.inside inside_first p around s 0 state good)

        -- ---- tests

        module _ (splits : Bool) (ty : Ty) (real : ty ≢ Void) (y : Run Value) (i : ℕ) (valued : Flow) where
          -- a test behind the step
          pub test_behind : Inside m input sections f valued.sections → tested.sections.functions ≡ valued.sections.functions ++ instr op.BRANCH_CONDITIONAL (i ∷ head ∷ end ∷ []) ∷ [] → (go : Run statement.Flow) (u : shader.State) (units : ℕ) (state : State)
              → Follows m input p 0 units state (HasGiven m input sections f p around splits ty stepped state i valued) (none_waits i valued) (y u units)
              → ((t : shader.State) (left : ℕ) (mid : State) → left ≤ units → Good m input sections f p around (at_head head first next end before) t mid → Follows m input p 0 left mid Is Waits (go t left))
              → Follows m input p (worth m) units state Is Waits (shader_run.behind (testing (Some y) u units) (again_if go))
          unfolding form_of
          test_behind inside_valued puts go u units state value on_head =
              subst (Follows m input p (worth m) units state Is Waits) (sym (ran_assoc (y u units) (λ v. shader_run.given (if word_in v == 0 then false else true)) (again_if go)))
              (follows_then m input p (worth m) units state (HasGiven m input sections f p around splits ty stepped state i valued) (none_waits i valued) Is Waits (y u units) (λ v. again_if go (if word_in v == 0 then false else true)) value
              (λ v t left mid g less. by v t left mid less g (word_in v == 0) refl)
              (λ t left mid none less. absurd none))
            where
              by : (v : Value) (t : shader.State) (left : ℕ) (mid : State) → left ≤ units → HasGiven m input sections f p around splits ty stepped state i valued v t mid → (z : Bool) → (word_in v == 0) ≡ z
                  → Follows m input p (worth m) left mid Is Waits (again_if go (if z then false else true) t left)
              by v t left mid less g true which =
                  out_by (instr op.BRANCH_CONDITIONAL (i ∷ head ∷ end ∷ [])) valued inside_valued puts t left mid g.after.good
                  (λ at more. ap (λ o. on_whole o (λ c. if word_in c == 0 then branching (record mid { rest = more }) end else branching (record mid { rest = more }) head)) (given_value m input sections f p around mid.ids i ty v real g.given).1
                  ∙ ap (λ z. if z then branching (record mid { rest = more }) end else branching (record mid { rest = more }) head) which)
              by v t left mid less g false which =
                  back_by (instr op.BRANCH_CONDITIONAL (i ∷ head ∷ end ∷ [])) valued inside_valued puts (go t left) t left mid g.after.good
                  (λ at. ap (λ o. on_whole o (λ c. if word_in c == 0 then branching (record mid { rest = coming m input sections f tested.sections }) end else branching (record mid { rest = coming m input sections f tested.sections }) head)) (given_value m input sections f p around mid.ids i ty v real g.given).1
                  ∙ ap (λ z. if z then branching (record mid { rest = coming m input sections f tested.sections }) end else branching (record mid { rest = coming m input sections f tested.sections }) head) which)
                  (λ now good. on_head t left now less good)

          -- a test before the body
          module _ (inner : ℕ) (entered_is : entered ≡ block_at inner (chosen_at i inner end valued.sections) valued) (to_valued : Grown (at_first head first next end before) valued) where
            abbrev choice : Sections
            choice = chosen_at i inner end valued.sections

            extends_choice : Extends valued.sections choice
            extends_choice = extends_then (extends_put op.SELECTION_MERGE (inner ∷ 0 ∷ []) valued.sections) (extends_put op.BRANCH_CONDITIONAL (i ∷ inner ∷ end ∷ []) (put op.SELECTION_MERGE (inner ∷ 0 ∷ []) valued.sections))

            from_choice : Extends choice entered.sections
            from_choice = subst (λ (e : Flow). Extends choice e.sections) (sym entered_is) (extends_put op.LABEL (inner ∷ []) choice)

            grown_valued : Grown before valued
            grown_valued = grown_then (grown_head head first next end before) (grown_then (grown_first head first next end before) to_valued)

            inside_block : Inside m input sections f (put op.LABEL (inner ∷ []) choice)
            inside_block = subst (λ (e : Flow). Inside m input sections f e.sections) entered_is inside_body

            pub inside_valued : Inside m input sections f valued.sections
            inside_valued = between valued.sections grown_valued.extends (extends_then extends_choice (extends_then from_choice from_body))

            inside_choice : Inside m input sections f choice
            inside_choice = between choice (extends_then grown_valued.extends extends_choice) (extends_then from_choice from_body)

            seated_block : Seated m input sections f (block_at inner choice valued).place
            seated_block = subst (λ (e : Flow). Seated m input sections f e.place) entered_is (seated_grown m input sections f before entered grown_body lie.seated)

            -- Control is before the choice, and the test holds.
            abbrev pub AtChoice : shader.State → State → Type 0
            AtChoice t mid = (v : Value) × Good m input sections f p around valued t mid × Stands mid.ids i v × ((word_in v == 0) ≡ false)

            -- the body is entered
            pub enters_body : (t : shader.State) (units : ℕ) (mid : State) → AtChoice t mid → (last : State) × Stretch m input 0 (worth m) (suc units) mid units (Going last) × Good m input sections f p around entered t last
            enters_body t units mid c = let led = chooses m input sections f valued.sections inner i inner end c.0 inner choice mid units (ap (λ z. if z then end else inner) c.3) c.2 inside_valued inside_block (extends_same choice) c.1.rest c.1.within c.1.own in (
              begun_at m input sections f mid (put op.LABEL (inner ∷ []) choice),
              unit_taken m input units mid (begun_at m input sections f mid (put op.LABEL (inner ∷ []) choice))
                  (let less = coming_less m input sections f valued.sections choice inner inside_valued inside_choice inside_block extends_choice in let long : length mid.rest ≡ length (coming m input sections f valued.sections) = ap length c.1.rest in omega (arith, less, long))
                  led,
              subst (λ (e : Flow). Good m input sections f p around e t (begun_at m input sections f mid (put op.LABEL (inner ∷ []) choice))) (sym entered_is)
                  (good_on m input sections f p around (block_at inner choice valued) t mid seated_block inside_block (within_good m input sections f p around valued t mid c.1) led),
            )

            pub test_before : (go : Run statement.Flow) (u : shader.State) (units : ℕ) (state : State)
                → Follows m input p 0 units state (HasGiven m input sections f p around splits ty (at_first head first next end before) state i valued) (none_waits i valued) (y u units)
                → ((t : shader.State) (left : ℕ) (mid : State) → left ≤ units → AtChoice t mid → Follows m input p 0 left mid Is Waits (go t left))
                → Follows m input p 0 units state Is Waits (shader_run.behind (testing (Some y) u units) (again_if go))
            test_before go u units state value on_choice =
                subst (Follows m input p 0 units state Is Waits) (sym (ran_assoc (y u units) (λ v. shader_run.given (if word_in v == 0 then false else true)) (again_if go)))
                (follows_then m input p 0 units state (HasGiven m input sections f p around splits ty (at_first head first next end before) state i valued) (none_waits i valued) Is Waits (y u units) (λ v. again_if go (if word_in v == 0 then false else true)) value
                (λ v t left mid g less. by v t left mid less g (word_in v == 0) refl)
                (λ t left mid none less. absurd none))
              where
                to_end : Extends choice tested.sections
                to_end = extends_then from_choice (extends_then lie.to_turned.extends to_test)

                by : (v : Value) (t : shader.State) (left : ℕ) (mid : State) → left ≤ units → HasGiven m input sections f p around splits ty (at_first head first next end before) state i valued v t mid → (z : Bool) → (word_in v == 0) ≡ z
                    → Follows m input p 0 left mid Is Waits (again_if go (if z then false else true) t left)
                by v t left mid less g true which =
                    let led = chooses m input sections f valued.sections inner i inner end v end tested.sections mid left (ap (λ z. if z then end else inner) which) (given_value m input sections f p around mid.ids i ty v real g.given).1
                    inside_valued lie.whole to_end g.after.good.rest g.after.good.within g.after.good.own in
                    record {
                      later = begun_at m input sections f mid behind.sections;
                      is = (refl, good_on m input sections f p around behind t mid seated_behind lie.whole (within_good m input sections f p around valued t mid g.after.good) led);
                      less = omega arith;
                      stretch = led;
                    }
                by v t left mid less g false which = on_choice t left mid less (v, g.after.good, (given_value m input sections f p around mid.ids i ty v real g.given).1, which)

            -- from the head on
            pub head_test : (go : Run statement.Flow) (u : shader.State) (units : ℕ) (state : State) → Good m input sections f p around (at_head head first next end before) u state
                → ((mid : State) → Good m input sections f p around (at_first head first next end before) u mid → Follows m input p 0 units mid (HasGiven m input sections f p around splits ty (at_first head first next end before) mid i valued) (none_waits i valued) (y u units))
                → ((t : shader.State) (left : ℕ) (mid : State) → left ≤ units → AtChoice t mid → Follows m input p 0 left mid Is Waits (go t left))
                → Follows m input p 0 units state Is Waits (shader_run.behind (testing (Some y) u units) (again_if go))
            head_test go u units state good value on_choice =
                follows_behind m input p 0 0 units units state (begun_at m input sections f state (at_first head first next end before).sections) Is Waits (shader_run.behind (testing (Some y) u units) (again_if go))
                (from_head head first next end before m input sections f lie.inside inside_first p around u units state good) (omega arith)
                (test_before go u units (begun_at m input sections f state (at_first head first next end before).sections) (value (begun_at m input sections f state (at_first head first next end before).sections) (first_good u state good)) on_choice)

        module _ (x step : Run statement.Flow) (test : Run Bool) (Before : shader.State → State → Type 0)
            (enters : (t : shader.State) (units : ℕ) (mid : State) → Before t mid → (next : State) × Stretch m input 0 (worth m) (suc units) mid units (Going next) × Good m input sections f p around entered t next)
            (body_does : (u : shader.State) (units : ℕ) (state : State) → Good m input sections f p around entered u state → Follows m input p 0 units state (IsDone m input sections f p around leaves leading tt turned) (none_waits {A = Unit {0}} tt turned) (x u units))
            (step_does : (u : shader.State) (units : ℕ) (state : State) → Good m input sections f p around at_step u state → Follows m input p 0 units state (λ flow t last. Good m input sections f p around stepped t last) (none_waits {A = Unit {0}} tt stepped) (step u units))
            (test_does : (go : Run statement.Flow) (u : shader.State) (units : ℕ) (state : State) → Good m input sections f p around stepped u state
            → ((t : shader.State) (left : ℕ) (mid : State) → left ≤ units → Before t mid → Follows m input p 0 left mid Is Waits (go t left))
            → Follows m input p (worth m) units state Is Waits (shader_run.behind (test u units) (again_if go))) where
          -- From where a turn begins, as many turns as units are enough.
          pub turns_do : (most : ℕ) (s : shader.State) (units : ℕ) (state : State) → units < most → Before s state → Follows m input p 0 units state Is Waits (turns most test step x s units)
          turns_do zero s units state few before = absurd (omega (arith, few))
          turns_do (suc most) s zero state few before = lasts_at_once m input state
          turns_do (suc most) s (suc units) state few before =
              let e = enters s units state before in
              follows_behind m input p 0 (worth m) (suc units) units state e.0 Is Waits (shader_run.behind (x s units) (behind_body (shader_run.◌>>=◌ step (λ flow. shader_run.◌>>=◌ test (again_if (turns most test step x)))))) e.1 (omega arith)
              (behind_turn x (shader_run.◌>>=◌ step (λ flow. shader_run.◌>>=◌ test (again_if (turns most test step x)))) s units e.0 (body_does s units e.0 e.2)
              (λ t left mid less good. behind_step step (shader_run.◌>>=◌ test (again_if (turns most test step x))) t left mid (step_does t left mid good)
              (λ t2 left2 mid2 less2 good2. test_does (turns most test step x) t2 left2 mid2 good2
              (λ t3 left3 mid3 less3 now. turns_do most t3 left3 mid3 (omega (arith, few, less, less2, less3)) now))))
