-- Loops.
use Rattle.std.proofs.Common.{◌≡◌, refl, sym, ap, ◌∙◌, subst, ℕ, suc, ◌≤◌, [], ◌∷◌, ◌++◌, Option, Some, None, Bool, true, false, arith}
use Rattle.gsl_base.specs.declared.input.Input.{Input}
use Rattle.gsl_instr.specs.Forms.{form_of}
use Rattle.gsl_instr.specs.declared.op.TheConstants as op
use Rattle.gsl_words.specs.declared.module.Module.{Module}
use Rattle.gsl_types.specs.declared.ty.Ty.{Ty}
use Rattle.gsl_values.specs.declared.value.Value.{Value}
use Rattle.gsl_tree.specs.Around.{Around}
use Rattle.gsl_tree.specs.declared.program.Program.{Program}
use Rattle.gsl_meaning.specs.Running.{Ran, Run}
use Rattle.gsl_meaning.specs.Running as shader_run
use Rattle.gsl_meaning.specs.State as shader
use Rattle.gsl_meaning.specs.Statements as statement
use Rattle.gsl_meaning.specs.Statements.{Normal, all_turns}
use Rattle.gsl_machine.specs.State.{Going, State}
use Rattle.gsl_spv.specs.Calls.{put}
use Rattle.gsl_spv.specs.Declarations.{instr}
use Rattle.gsl_spv.specs.Growing.{Extends}
use Rattle.gsl_spv.specs.Sections.{Sections}
use Rattle.gsl_spv.proofs.Extending.{extends_then}
use Rattle.gsl_lower_law.proofs.Adding.{extends_put}
use Rattle.gsl_lower_holders.specs.Flow.{Emit, Flow, Gives, Lacks, Lowered, behind, given, opening, ◌>>=◌}
use Rattle.gsl_lower_stmt.specs.Parts as part
use Rattle.gsl_lower_stmt.specs.Parts.{LowerStmt, before_body, begin_loop, begin_step, behind_step, enter_body, enter_loop, five_labels, in_loop, looped, seal, turning}
use Rattle.gsl_lower_stmt.specs.declared.exits.Exits.{Exits}
use Rattle.gsl_lower_follows.specs.Following.{Follows}
use Rattle.gsl_lower_follows.specs.Frames.{Frame, Good, Inside}
use Rattle.gsl_lower_follows.specs.Giving.{Adds, Does, GivesValue, Grown, GrownTo, HasGiven, none_waits}
use Rattle.gsl_lower_follows.specs.Stretching.{Stretch, worth}
use Rattle.gsl_lower_follows.proofs.Beginning.{seated_grown}
use Rattle.gsl_lower_follows.proofs.Behind.{follows_behind, follows_then, reaches_here}
use Rattle.gsl_lower_follows.proofs.Fetching.{adds_opening}
use Rattle.gsl_lower_follows.proofs.Growing.{adds_given, adds_then, grown_then}
use Rattle.gsl_lower_follows.proofs.Jumping.{begun_at}
use Rattle.gsl_lower_follows.proofs.Placing.{inside_between}
use Rattle.gsl_lower_law_stmt.specs.Doing.{DoesHere, DoesStatement, IsDone, LeadBehind}
use Rattle.gsl_lower_law_stmt.proofs.Exits.{adds_putting, within_good}
use Rattle.gsl_lower_law_stmt.proofs.Ways.{block_at, extends_sealed, fresh_then, grown_block, sealed, taken}
use Rattle.gsl_lower_law_loops.specs.Looping.{ForBoth, IsStep, IsTest, looped_means, stepping, testing}
use Rattle.gsl_lower_law_loops.proofs.Heads.{at_first, at_head, first_less, from_head, grown_first, grown_head, inside_head, to_head}
use Rattle.gsl_lower_law_loops.proofs.Opening.{Known, flow_in, good_aside, grown_by, grown_taken, opens}
use Rattle.gsl_lower_law_loops.proofs.Turns as turn
use Rattle.gsl_lower_law_loops.proofs.Turns.{Lie, at_step, back_by, inside_first, inside_sealed, inside_step, inside_stepped, inside_tested, inside_turned, turns_do}
use Rattle.gsl_lower_law_loops.proofs.Units.{good_on, stands_at, unit_taken}

-- ---- what was lowered is taken apart

abbrev carrier : {A : Type 0} → Emit A → Type 0
carrier {A} emit = A

abbrev Labels : Type 0
Labels = carrier five_labels

labels_known : (b : Flow) → Known b (five_labels b)
unfolding five_labels
labels_known b =
    fresh_then (Known b) b _ tt (fresh_then (Known b) (taken b) _ tt (fresh_then (Known b) (taken (taken b)) _ tt (fresh_then (Known b) (taken (taken (taken b))) _ tt (fresh_then (Known b) (taken (taken (taken (taken b)))) _ tt
    (grown_then (grown_taken b) (grown_then (grown_taken (taken b)) (grown_then (grown_taken (taken (taken b))) (grown_then (grown_taken (taken (taken (taken b)))) (grown_taken (taken (taken (taken (taken b)))))))), refl)))))

step_is : (l : Labels) (left : Bool) (b : Flow) → begin_step l left b ≡ Gives tt (block_at l.next (sealed left l.next b.sections) b)
unfolding begin_step seal opening
step_is l true b = refl
step_is l false b = refl

-- ---- what is lowered only adds

adds_labels : Adds five_labels
adds_labels b = by (five_labels b) (labels_known b)
  where
    by : (low : Lowered Labels) → Known b low → GrownTo b low
    by Lacks known = tt
    by (Gives l later) known = known.0

adds_enter : (l : Labels) → Adds (enter_loop l)
unfolding enter_loop opening
adds_enter l b = grown_then (grown_head l.head l.first l.next l.end b) (grown_first l.head l.first l.next l.end b)

adds_begin : Adds begin_loop
unfolding begin_loop
adds_begin = adds_then five_labels (λ l. enter_loop l >>= (λ done. given l)) adds_labels (λ l. adds_then (enter_loop l) (λ done. given l) (adds_enter l) (λ done. adds_given l))

adds_choice : (l : Labels) (i : ℕ) → Adds (enter_body l i)
unfolding enter_body opening
adds_choice l i b = record {
  extends = extends_then (extends_put op.SELECTION_MERGE (l.body ∷ 0 ∷ []) b.sections) (extends_then (extends_put op.BRANCH_CONDITIONAL (i ∷ l.body ∷ l.end ∷ []) (put op.SELECTION_MERGE (l.body ∷ 0 ∷ []) b.sections))
      (extends_put op.LABEL (l.body ∷ []) (put op.BRANCH_CONDITIONAL (i ∷ l.body ∷ l.end ∷ []) (put op.SELECTION_MERGE (l.body ∷ 0 ∷ []) b.sections))));
  used = omega arith;
  place = refl;
}

adds_begin_step : (l : Labels) (left : Bool) → Adds (begin_step l left)
adds_begin_step l left b = subst (GrownTo b) (sym (step_is l left b)) (grown_block l.next (sealed left l.next b.sections) b (extends_sealed left l.next b.sections))

adds_again : (l : Labels) (i : ℕ) → Adds (part.again_if l i)
unfolding part.again_if
adds_again l i = adds_putting op.BRANCH_CONDITIONAL (i ∷ l.head ∷ l.end ∷ [])

module _ (m : Module) (input : Input) (sections : Sections) (f : Frame m input sections) (p : Program) (around : Around) where
  adds_before : (last : Bool) (test : Option (Emit ℕ)) (y : Option (Run Value)) → ForBoth (IsTest m input sections f p around) test y → (l : Labels) → Adds (before_body last test l)
  adds_before true test y is l = adds_given {A = Unit {0}} tt
  adds_before false None None is l = adds_given {A = Unit {0}} tt
  adds_before false None (Some x) is l = absurd is
  adds_before false (Some emit) None is l = absurd is
  adds_before false (Some emit) (Some x) is l = adds_then emit (enter_body l) is.gives.adds (adds_choice l)

  adds_behind : (last : Bool) (test : Option (Emit ℕ)) (y : Option (Run Value)) → ForBoth (IsTest m input sections f p around) test y → (l : Labels) → Adds (behind_step last test l)
  adds_behind true None None is l = adds_putting op.BRANCH (l.head ∷ [])
  adds_behind true None (Some x) is l = absurd is
  adds_behind true (Some emit) None is l = absurd is
  adds_behind true (Some emit) (Some x) is l = adds_then emit (part.again_if l) is.gives.adds (adds_again l)
  adds_behind false test y is l = adds_putting op.BRANCH (l.head ∷ [])

  adds_stepped : (step : Option (Emit ℕ)) (z : Option (Run Value)) → ForBoth (IsStep m input sections f p around) step z → Adds (part.stepped step)
  adds_stepped None None is = adds_given {A = Unit {0}} tt
  adds_stepped None (Some x) is = absurd is
  adds_stepped (Some emit) None is = absurd is
  adds_stepped (Some emit) (Some x) is = adds_then emit (λ x. given {A = Unit {0}} tt) is.gives.adds (λ x. adds_given {A = Unit {0}} tt)

  -- ---- the step

  step_follows : (step : Option (Emit ℕ)) (z : Option (Run Value)) → ForBoth (IsStep m input sections f p around) step z → (b : Flow) (s : shader.State) (units : ℕ) (state : State) → Good m input sections f p around b s state
      → Does m input sections f p 0 units state (λ (done : Unit {0}) later (flow : statement.Flow) t last. Good m input sections f p around later t last) none_waits (stepping z s units) (part.stepped step b)
  step_follows None None is b s units state good = λ inside. reaches_here m input units state (Good m input sections f p around b s) good
  step_follows None (Some x) is b s units state good = absurd is
  step_follows (Some emit) None is b s units state good = absurd is
  step_follows (Some emit) (Some x) is b s units state good = by (emit b) (is.gives.does b s units state good)
    where
      by : (low : Lowered ℕ) → Does m input sections f p 0 units state (HasGiven m input sections f p around is.splits is.ty b state) none_waits (x s units) low
          → Does m input sections f p 0 units state (λ (done : Unit {0}) later (flow : statement.Flow) t last. Good m input sections f p around later t last) none_waits (stepping (Some x) s units) (behind low (λ x. given {A = Unit {0}} tt))
      by Lacks does = tt
      by (Gives id later) does = λ inside.
          follows_then m input p 0 units state (HasGiven m input sections f p around is.splits is.ty b state id later) (none_waits id later) (λ flow t last. Good m input sections f p around later t last) (none_waits {A = Unit {0}} tt later) (x s units) (λ v. shader_run.given Normal) (does inside)
          (λ v t left mid g less. reaches_here m input left mid (Good m input sections f p around later t) g.after.good)
          (λ t left mid none less. absurd none)

  module _ (body : LowerStmt) (x : Run statement.Flow) (does_body : DoesStatement m input sections f p around body.leaves body.run x) (step : Option (Emit ℕ)) (z : Option (Run Value)) (steps : ForBoth (IsStep m input sections f p around) step z) where
    -- The code of a loop behind its labels, part by part.
    record Opened (last : Bool) (test : Option (Emit ℕ)) (l : Labels) (before later : Flow) : Type 0 where
      pub entered : Flow
      pub turned : Flow
      pub stepped : Flow
      pub tested : Flow
      pub enters : before_body last test l (at_first l.head l.first l.next l.end before) ≡ Gives tt entered
      pub turns : body.run (in_loop l) entered ≡ Gives tt turned
      pub takes : part.stepped step (at_step body.leaves l.head l.first l.next l.end before entered turned stepped tested) ≡ Gives tt stepped
      pub tests : behind_step last test l stepped ≡ Gives tt tested
      pub is : block_at l.end tested.sections tested ≡ later

    turning_opens : (last : Bool) (test : Option (Emit ℕ)) (l : Labels) (before later : Flow) → behind (turning last test step body l (at_first l.head l.first l.next l.end before)) (λ done. opening l.end) ≡ Gives tt later → Opened last test l before later
    unfolding opening
    turning_opens last test l before later e =
        let a = opens (turning last test step body l (at_first l.head l.first l.next l.end before)) (λ done. opening l.end) tt later e in
        let b = opens (before_body last test l (at_first l.head l.first l.next l.end before)) (λ a. body.run (in_loop l) >>= (λ b. begin_step l body.leaves >>= (λ c. part.stepped step >>= (λ d. behind_step last test l)))) tt a.1 a.2 in
        let c = opens (body.run (in_loop l) b.1) (λ b. begin_step l body.leaves >>= (λ c. part.stepped step >>= (λ d. behind_step last test l))) tt a.1 b.3 in
        let d = opens (part.stepped step (block_at l.next (sealed body.leaves l.next c.1.sections) c.1)) (λ d. behind_step last test l) tt a.1 (ap (λ low. behind low (λ c. part.stepped step >>= (λ d. behind_step last test l))) (sym (step_is l body.leaves c.1)) ∙ c.3) in
        record { entered = b.1; turned = c.1; stepped = d.1; tested = a.1; enters = b.2; turns = c.2; takes = d.2; tests = d.3; is = ap (flow_in a.1) a.3 }

    loop_opens : (last : Bool) (test : Option (Emit ℕ)) (b later : Flow) → looped last test step body b ≡ Gives tt later
        → (l : Labels) × (before : Flow) × Grown b before × (before.sections.functions ≡ b.sections.functions) × Opened last test l before later
    unfolding begin_loop enter_loop opening
    loop_opens last test b later e = by (five_labels b) (labels_known b) e
      where
        by : (low : Lowered Labels) → Known b low → behind (behind low (λ l. enter_loop l >>= (λ done. given l))) (λ l. turning last test step body l >>= (λ done. opening l.end)) ≡ Gives tt later
            → (l : Labels) × (before : Flow) × Grown b before × (before.sections.functions ≡ b.sections.functions) × Opened last test l before later
        by Lacks known e = absurd cc
        by (Gives l before) known e = (l, before, known.0, known.1, turning_opens last test l before later e)

    -- ---- turns, where the labels are known

    module _ (l : Labels) (before entered turned stepped tested : Flow) (lie : Lie body.leaves l.head l.first l.next l.end before entered turned stepped tested m input sections f) (turns : body.run (in_loop l) entered ≡ Gives tt turned)
        (takes : part.stepped step (at_step body.leaves l.head l.first l.next l.end before entered turned stepped tested) ≡ Gives tt stepped) (exits : Exits) where
      abbrev Is : statement.Flow → shader.State → State → Type 0
      Is = turn.Is body.leaves l.head l.first l.next l.end before entered turned stepped tested m input sections f lie p around exits

      abbrev Waits : shader.State → State → Type 0
      Waits = turn.Waits body.leaves l.head l.first l.next l.end before entered turned stepped tested m input sections f lie p around exits

      abbrev first : Flow
      first = at_first l.head l.first l.next l.end before

      abbrev head : Flow
      head = at_head l.head l.first l.next l.end before

      body_follows : (u : shader.State) (units : ℕ) (state : State) → Good m input sections f p around entered u state
          → Follows m input p 0 units state (IsDone m input sections f p around body.leaves (in_loop l) tt turned) (none_waits {A = Unit {0}} tt turned) (x u units)
      body_follows u units state good = subst (DoesHere m input sections f p around units state body.leaves (in_loop l) (x u units)) turns (does_body.does (in_loop l) entered u units state good) (inside_turned body.leaves l.head l.first l.next l.end before entered turned stepped tested m input sections f lie) lead
        where
          lead : LeadBehind m input sections f turned.sections (in_loop l)
          lead = record {
            broke = stands_at m input sections f turned.sections tested.sections l.end (inside_turned body.leaves l.head l.first l.next l.end before entered turned stepped tested m input sections f lie) (inside_tested body.leaves l.head l.first l.next l.end before entered turned stepped tested m input sections f lie) lie.whole (turn.to_test body.leaves l.head l.first l.next l.end before entered turned stepped tested m input sections f lie);
            continued = stands_at m input sections f turned.sections (sealed body.leaves l.next turned.sections) l.next (inside_turned body.leaves l.head l.first l.next l.end before entered turned stepped tested m input sections f lie) (inside_sealed body.leaves l.head l.first l.next l.end before entered turned stepped tested m input sections f lie) (inside_step body.leaves l.head l.first l.next l.end before entered turned stepped tested m input sections f lie) (extends_sealed body.leaves l.next turned.sections);
          }

      step_does : (u : shader.State) (units : ℕ) (state : State) → Good m input sections f p around (at_step body.leaves l.head l.first l.next l.end before entered turned stepped tested) u state
          → Follows m input p 0 units state (λ flow t last. Good m input sections f p around stepped t last) (none_waits {A = Unit {0}} tt stepped) (stepping z u units)
      step_does u units state good = subst (Does m input sections f p 0 units state (λ (done : Unit {0}) later (flow : statement.Flow) t last. Good m input sections f p around later t last) none_waits (stepping z u units)) takes
          (step_follows step z steps (at_step body.leaves l.head l.first l.next l.end before entered turned stepped tested) u units state good) (inside_stepped body.leaves l.head l.first l.next l.end before entered turned stepped tested m input sections f lie)

      -- from before the loop to its head
      from_before : (s : shader.State) (units : ℕ) (state : State) → Good m input sections f p around before s state → (ran : Ran statement.Flow) → ((now : State) → Good m input sections f p around head s now → Follows m input p 0 units now Is Waits ran) → Follows m input p 0 units state Is Waits ran
      from_before s units state good ran on =
          let led = to_head l.head l.first l.next l.end before m input sections f lie.inside (inside_first body.leaves l.head l.first l.next l.end before entered turned stepped tested m input sections f lie) p around s units state good in
          follows_behind m input p 0 0 units units state (begun_at m input sections f state head.sections) Is Waits ran led (omega arith)
          (on (begun_at m input sections f state head.sections) (good_on m input sections f p around head s state (turn.seated_head body.leaves l.head l.first l.next l.end before entered turned stepped tested m input sections f lie) (inside_head l.head l.first l.next l.end before m input sections f lie.inside (inside_first body.leaves l.head l.first l.next l.end before entered turned stepped tested m input sections f lie)) (within_good m input sections f p around before s state good) led))

      -- a branch back to the head behind the step
      back : tested.sections.functions ≡ stepped.sections.functions ++ instr op.BRANCH (l.head ∷ []) ∷ [] → (u : shader.State) (units : ℕ) (state : State) → Good m input sections f p around stepped u state → (ran : Ran statement.Flow)
          → ((now : State) → Good m input sections f p around head u now → Follows m input p 0 units now Is Waits ran) → Follows m input p (worth m) units state Is Waits ran
      unfolding form_of
      back puts u units state good ran on = back_by body.leaves l.head l.first l.next l.end before entered turned stepped tested m input sections f lie p around exits (instr op.BRANCH (l.head ∷ [])) stepped (inside_stepped body.leaves l.head l.first l.next l.end before entered turned stepped tested m input sections f lie) puts ran u units state good (λ at. refl) on

      -- ---- turns whose test comes behind them, or that have none

      rounds : first ≡ entered → (test : Run Bool)
          → ((go : Run statement.Flow) (u : shader.State) (units : ℕ) (state : State) → Good m input sections f p around stepped u state → ((t : shader.State) (left : ℕ) (mid : State) → left ≤ units → Good m input sections f p around head t mid → Follows m input p 0 left mid Is Waits (go t left))
          → Follows m input p (worth m) units state Is Waits (shader_run.behind (test u units) (statement.again_if go)))
          → (s : shader.State) (units : ℕ) (state : State) → Good m input sections f p around before s state → Follows m input p 0 units state Is Waits (all_turns test (stepping z) x s units)
      rounds is test test_does s units state good =
          from_before s units state good (all_turns test (stepping z) x s units)
          (λ now at. turns_do body.leaves l.head l.first l.next l.end before entered turned stepped tested m input sections f lie p around exits x (stepping z) test (Good m input sections f p around head) enters body_follows step_does test_does (suc units) s units now (omega arith) at)
        where
          enters : (t : shader.State) (units : ℕ) (mid : State) → Good m input sections f p around head t mid → (last : State) × Stretch m input 0 (worth m) (suc units) mid units (Going last) × Good m input sections f p around entered t last
          enters t units mid at = (
            begun_at m input sections f mid first.sections,
            unit_taken m input units mid (begun_at m input sections f mid first.sections) (first_less l.head l.first l.next l.end before m input sections f lie.inside (inside_first body.leaves l.head l.first l.next l.end before entered turned stepped tested m input sections f lie) p around t mid at) (from_head l.head l.first l.next l.end before m input sections f lie.inside (inside_first body.leaves l.head l.first l.next l.end before entered turned stepped tested m input sections f lie) p around t units mid at),
            subst (λ e. Good m input sections f p around e t (begun_at m input sections f mid first.sections)) is (turn.first_good body.leaves l.head l.first l.next l.end before entered turned stepped tested m input sections f lie p around exits t mid at),
          )

      -- what is given where a part of the code is known
      value_there : (splits : Bool) (ty : Ty) (emit : Emit ℕ) (y : Run Value) (gives : GivesValue m input sections f p around splits ty emit y) (b valued : Flow) (i : ℕ) → emit b ≡ Gives i valued → Inside m input sections f valued.sections → (u : shader.State) (units : ℕ) (state : State) → Good m input sections f p around b u state
          → Follows m input p 0 units state (HasGiven m input sections f p around splits ty b state i valued) (none_waits i valued) (y u units)
      value_there splits ty emit y gives b valued i e inside u units state good = subst (Does m input sections f p 0 units state (HasGiven m input sections f p around splits ty b state) none_waits (y u units)) e (gives.does b u units state good) inside

      -- a loop whose test stands behind the step
      test_last : (emit : Emit ℕ) (y : Run Value) → IsTest m input sections f p around emit y → first ≡ entered → behind (emit stepped) (part.again_if l) ≡ Gives tt tested
          → (s : shader.State) (units : ℕ) (state : State) → Good m input sections f p around before s state → Follows m input p 0 units state Is Waits (all_turns (testing (Some y)) (stepping z) x s units)
      unfolding part.again_if
      test_last emit y is at tests = rounds at (testing (Some y)) (λ go u units state good on_head.
          turn.test_behind body.leaves l.head l.first l.next l.end before entered turned stepped tested m input sections f lie p around exits is.splits is.ty is.real y o.0 o.1 inside_valued (sym (ap (λ low. (flow_in stepped low).sections.functions) o.3)) go u units state
          (value_there is.splits is.ty emit y is.gives stepped o.1 o.0 o.2 inside_valued u units state good) on_head)
        where
          o : (i : ℕ) × (valued : Flow) × (emit stepped ≡ Gives i valued) × (part.again_if l i valued ≡ Gives tt tested)
          o = opens (emit stepped) (part.again_if l) tt tested tests

          grown : Grown stepped o.1
          grown = grown_by emit stepped o.0 o.1 is.gives.adds o.2

          inside_valued : Inside m input sections f o.1.sections
          inside_valued = inside_between m input sections f stepped.sections o.1.sections tested.sections (inside_stepped body.leaves l.head l.first l.next l.end before entered turned stepped tested m input sections f lie) (inside_tested body.leaves l.head l.first l.next l.end before entered turned stepped tested m input sections f lie) grown.extends
              (grown_by (part.again_if l o.0) o.1 tt tested (adds_again l o.0) o.3).extends

      -- a loop whose test stands before the body
      test_first : (emit : Emit ℕ) (y : Run Value) → IsTest m input sections f p around emit y → behind (emit first) (enter_body l) ≡ Gives tt entered → tested.sections.functions ≡ stepped.sections.functions ++ instr op.BRANCH (l.head ∷ []) ∷ []
          → (s : shader.State) (units : ℕ) (state : State) → Good m input sections f p around before s state → Follows m input p 0 units state Is Waits (looped_means false (Some y) z x s units)
      unfolding enter_body opening
      test_first emit y is at puts s units state good =
          from_before s units state good (looped_means false (Some y) z x s units)
          (λ now there. tested_then (all_turns (testing (Some y)) (stepping z) x) s units now there
          (λ t left mid less c. turns_do body.leaves l.head l.first l.next l.end before entered turned stepped tested m input sections f lie p around exits x (stepping z) (testing (Some y)) Chosen (turn.enters_body body.leaves l.head l.first l.next l.end before entered turned stepped tested m input sections f lie p around exits is.splits is.ty is.real y o.0 o.1 l.body entered_is grown) body_follows step_does
          (λ go u units state good on_choice. back puts u units state good (shader_run.behind (testing (Some y) u units) (statement.again_if go)) (λ now2 there2. tested_then go u units now2 there2 on_choice))
          (suc left) t left mid (omega arith) c))
        where
          o : (i : ℕ) × (valued : Flow) × (emit first ≡ Gives i valued) × (enter_body l i valued ≡ Gives tt entered)
          o = opens (emit first) (enter_body l) tt entered at

          entered_is : entered ≡ block_at l.body (turn.chosen_at o.0 l.body l.end o.1.sections) o.1
          entered_is = sym (ap (flow_in first) o.3)

          grown : Grown first o.1
          grown = grown_by emit first o.0 o.1 is.gives.adds o.2

          Chosen : shader.State → State → Type 0
          Chosen = turn.AtChoice body.leaves l.head l.first l.next l.end before entered turned stepped tested m input sections f lie p around exits is.splits is.ty is.real y o.0 o.1 l.body entered_is grown

          tested_then : (go : Run statement.Flow) (u : shader.State) (units : ℕ) (state : State) → Good m input sections f p around head u state → ((t : shader.State) (left : ℕ) (mid : State) → left ≤ units → Chosen t mid → Follows m input p 0 left mid Is Waits (go t left))
              → Follows m input p 0 units state Is Waits (shader_run.behind (testing (Some y) u units) (statement.again_if go))
          tested_then go u units state there on_choice =
              turn.head_test body.leaves l.head l.first l.next l.end before entered turned stepped tested m input sections f lie p around exits is.splits is.ty is.real y o.0 o.1 l.body entered_is grown go u units state there
              (λ mid at. value_there is.splits is.ty emit y is.gives first o.1 o.0 o.2 (turn.inside_valued body.leaves l.head l.first l.next l.end before entered turned stepped tested m input sections f lie p around exits is.splits is.ty is.real y o.0 o.1 l.body entered_is grown) u units mid at) on_choice

      -- a loop without a test
      no_test : first ≡ entered → tested.sections.functions ≡ stepped.sections.functions ++ instr op.BRANCH (l.head ∷ []) ∷ [] → (s : shader.State) (units : ℕ) (state : State) → Good m input sections f p around before s state → Follows m input p 0 units state Is Waits (all_turns (testing None) (stepping z) x s units)
      no_test at puts = rounds at (testing None) (λ go u units state good on_head. back puts u units state good (go u units) (λ now there. on_head u units now (omega arith) there))

      all_follow : (last : Bool) (test : Option (Emit ℕ)) (y : Option (Run Value)) → ForBoth (IsTest m input sections f p around) test y → before_body last test l first ≡ Gives tt entered → behind_step last test l stepped ≡ Gives tt tested
          → (s : shader.State) (units : ℕ) (state : State) → Good m input sections f p around before s state → Follows m input p 0 units state Is Waits (looped_means last y z x s units)
      all_follow true None None is at tests = no_test (ap (flow_in first) at) (sym (ap (λ low. (flow_in stepped low).sections.functions) tests))
      all_follow true None (Some y) is at tests = absurd is
      all_follow true (Some emit) None is at tests = absurd is
      all_follow true (Some emit) (Some y) is at tests = test_last emit y is (ap (flow_in first) at) tests
      all_follow false None None is at tests = no_test (ap (flow_in first) at) (sym (ap (λ low. (flow_in stepped low).sections.functions) tests))
      all_follow false None (Some y) is at tests = absurd is
      all_follow false (Some emit) None is at tests = absurd is
      all_follow false (Some emit) (Some y) is at tests = test_first emit y is at (sym (ap (λ low. (flow_in stepped low).sections.functions) tests))

    -- ---- the whole loop

    module _ (test : Option (Emit ℕ)) (y : Option (Run Value)) (tests : ForBoth (IsTest m input sections f p around) test y) (last : Bool) where
      adds_loop : Adds (looped last test step body)
      adds_loop =
          adds_then begin_loop (λ l. turning last test step body l >>= (λ done. opening l.end)) adds_begin
          (λ l. adds_then (turning last test step body l) (λ done. opening l.end) (adds_then (before_body last test l) (λ a. body.run (in_loop l) >>= (λ b. begin_step l body.leaves >>= (λ c. part.stepped step >>= (λ d. behind_step last test l)))) (adds_before last test y tests l)
          (λ a. adds_then (body.run (in_loop l)) (λ b. begin_step l body.leaves >>= (λ c. part.stepped step >>= (λ d. behind_step last test l))) (does_body.adds (in_loop l))
          (λ b. adds_then (begin_step l body.leaves) (λ c. part.stepped step >>= (λ d. behind_step last test l)) (adds_begin_step l body.leaves)
          (λ c. adds_then (part.stepped step) (λ d. behind_step last test l) (adds_stepped step z steps) (λ d. adds_behind last test y tests l)))))
          (λ done. adds_opening l.end))

      loop_here : (exits : Exits) (b : Flow) (s : shader.State) (units : ℕ) (state : State) → Good m input sections f p around b s state → DoesHere m input sections f p around units state false exits (looped_means last y z x s units) (looped last test step body b)
      loop_here exits b s units state good = by (looped last test step body b) refl
        where
          opened : (l : Labels) (before later : Flow) → Grown b before → before.sections.functions ≡ b.sections.functions → Opened last test l before later → Inside m input sections f later.sections
              → Follows m input p 0 units state (IsDone m input sections f p around false exits tt later) (none_waits {A = Unit {0}} tt later) (looped_means last y z x s units)
          opened l before later grown same c inside =
              subst (λ (later : Flow). Follows m input p 0 units state (IsDone m input sections f p around false exits tt later) (none_waits {A = Unit {0}} tt later) (looped_means last y z x s units)) c.is
              (all_follow l before c.entered c.turned c.stepped c.tested lie c.turns c.takes exits last test y tests c.enters c.tests s units state there)
            where
              first : Flow
              first = at_first l.head l.first l.next l.end before

              behind_loop : Flow
              behind_loop = block_at l.end c.tested.sections c.tested

              stepping_at : Flow
              stepping_at = block_at l.next (sealed body.leaves l.next c.turned.sections) c.turned

              to_body : Grown first c.entered
              to_body = grown_by (before_body last test l) first tt c.entered (adds_before last test y tests l) c.enters

              to_turned : Grown c.entered c.turned
              to_turned = grown_by (body.run (in_loop l)) c.entered tt c.turned (does_body.adds (in_loop l)) c.turns

              to_stepped : Grown stepping_at c.stepped
              to_stepped = grown_by (part.stepped step) stepping_at tt c.stepped (adds_stepped step z steps) c.takes

              to_tested : Grown c.stepped c.tested
              to_tested = grown_by (behind_step last test l) c.stepped tt c.tested (adds_behind last test y tests l) c.tests

              extends : Extends before.sections behind_loop.sections
              extends = extends_then (grown_head l.head l.first l.next l.end before).extends (extends_then (grown_first l.head l.first l.next l.end before).extends (extends_then to_body.extends (extends_then to_turned.extends
                  (extends_then (grown_block l.next (sealed body.leaves l.next c.turned.sections) c.turned (extends_sealed body.leaves l.next c.turned.sections)).extends (extends_then to_stepped.extends (extends_then to_tested.extends
                  (extends_put op.LABEL (l.end ∷ []) c.tested.sections)))))))

              whole : Inside m input sections f behind_loop.sections
              whole = subst (λ (later : Flow). Inside m input sections f later.sections) (sym c.is) inside

              lie : Lie body.leaves l.head l.first l.next l.end before c.entered c.turned c.stepped c.tested m input sections f
              lie = record {
                inside = inside_between m input sections f b.sections before.sections behind_loop.sections good.inside whole grown.extends extends;
                whole = whole;
                seated = seated_grown m input sections f b before grown good.seated;
                to_body = to_body;
                to_turned = to_turned;
                to_stepped = to_stepped;
                to_tested = to_tested;
              }

              there : Good m input sections f p around before s state
              there = good_aside m input sections f p around b before s state good grown same lie.inside

          by : (low : Lowered (Unit {0})) → looped last test step body b ≡ low → DoesHere m input sections f p around units state false exits (looped_means last y z x s units) low
          by Lacks e = tt
          by (Gives done later) e = λ inside lead.
              let o = loop_opens last test b later e in
              opened o.0 o.1 later o.2 o.3 o.4 inside

      pub loop_does : DoesStatement m input sections f p around false (λ exits. looped last test step body) (looped_means last y z x)
      loop_does = record { adds = λ exits. adds_loop; does = loop_here }
