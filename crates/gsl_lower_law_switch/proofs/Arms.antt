-- Arms of a `switch`, each of which falls through to the next.
use Rattle.std.proofs.Common.{◌≡◌, refl, sym, ap, ◌∙◌, subst, ℕ, Bool, true, false, if◌then◌else◌, List, [], ◌∷◌, length, append_assoc, arith}
use Rattle.gsl_base.specs.declared.input.Input.{Input}
use Rattle.gsl_instr.specs.Forms.{form_of}
use Rattle.gsl_instr.specs.declared.op.TheConstants as op
use Rattle.gsl_words.specs.declared.module.Module.{Module}
use Rattle.gsl_tree.specs.Around.{Around}
use Rattle.gsl_tree.specs.declared.program.Program.{Program}
use Rattle.gsl_meaning.specs.Running.{Run}
use Rattle.gsl_meaning.specs.Running as shader_run
use Rattle.gsl_meaning.specs.State as shader
use Rattle.gsl_meaning.specs.Statements as statement
use Rattle.gsl_meaning.specs.Statements.{Arm, Normal, Broke, Continued, Returned, arms_from, then_if_normal}
use Rattle.gsl_machine.specs.State.{State}
use Rattle.gsl_spv.specs.Calls.{put}
use Rattle.gsl_spv.specs.Declarations.{instr}
use Rattle.gsl_spv.specs.Growing.{Extends}
use Rattle.gsl_spv.specs.Sections.{Sections}
use Rattle.gsl_spv.proofs.Extending.{extends_same, extends_then}
use Rattle.gsl_lower_law.proofs.Adding.{extends_put}
use Rattle.gsl_lower_holders.specs.Flow.{Flow, Gives, behind, flow_of, opening, ◌>>=◌}
use Rattle.gsl_lower_stmt.specs.Parts.{LowerArm, falling, in_switch, next_or, seal}
use Rattle.gsl_lower_stmt.specs.declared.exits.Exits.{Exits}
use Rattle.gsl_lower_follows.specs.Following.{Follows}
use Rattle.gsl_lower_follows.specs.Frames.{Frame, Good, Inside, Seated}
use Rattle.gsl_lower_follows.specs.Giving.{Adds, Grown, GrownTo, none_waits}
use Rattle.gsl_lower_follows.proofs.Beginning.{seated_grown}
use Rattle.gsl_lower_follows.proofs.Behind.{follows_behind, follows_then, reaches_here}
use Rattle.gsl_lower_follows.proofs.Fetching.{adds_opening}
use Rattle.gsl_lower_follows.proofs.Growing.{adds_given, adds_then, grown_then}
use Rattle.gsl_lower_follows.proofs.Jumping.{begun_at, jumps}
use Rattle.gsl_lower_follows.proofs.Placing.{inside_between}
use Rattle.gsl_lower_law_stmt.specs.Doing.{DoesHere, DoesStatement, IsDone, LeadBehind}
use Rattle.gsl_lower_law_stmt.proofs.Exits.{within_good}
use Rattle.gsl_lower_law_stmt.proofs.Rows.{lead_before}
use Rattle.gsl_lower_law_stmt.proofs.Ways.{block_at, extends_sealed, grown_block, sealed}
use Rattle.gsl_lower_law_loops.proofs.Opening.{flow_in, grown_by, opens}
use Rattle.gsl_lower_law_loops.proofs.Units.{good_on, stands_at}
use Rattle.gsl_lower_law_switch.specs.Choosing.{AreArms, IsArm}
use Rattle.gsl_lower_law_switch.proofs.Labels.{label_by}

-- a block is left, unless it was left
abbrev pub left_for : Bool → ℕ → Flow → Flow
left_for left next b = flow_of (sealed left next b.sections) b.place

seal_is : (left : Bool) (next : ℕ) (b : Flow) → seal left next b ≡ Gives tt (left_for left next b)
unfolding seal
seal_is true next b = refl
seal_is false next b = refl

grown_left : (left : Bool) (next : ℕ) (b : Flow) → Grown b (left_for left next b)
grown_left left next b = record { extends = extends_sealed left next b.sections; used = omega arith; place = refl }

module _ (m : Module) (input : Input) (sections : Sections) (f : Frame m input sections) (p : Program) (around : Around) where
  pub adds_falling : (end : ℕ) (exits : Exits) (arms : List LowerArm) (means : List Arm) → AreArms m input sections f p around arms means → (labels : List ℕ) → Adds (falling end labels arms exits)
  unfolding falling
  adds_falling end exits [] [] are labels = adds_given {A = Unit {0}} tt
  adds_falling end exits [] (means ∷ more) are labels = absurd are
  adds_falling end exits (arm ∷ arms) [] are labels = absurd are
  adds_falling end exits (arm ∷ arms) (means ∷ more) are [] = adds_given {A = Unit {0}} tt
  adds_falling end exits (arm ∷ arms) (means ∷ more) are (label ∷ labels) =
      adds_then (opening label) (λ a. arm.run (in_switch end exits) >>= (λ b. seal arm.leaves (next_or end labels) >>= (λ c. falling end labels arms exits))) (adds_opening label)
      (λ a. adds_then (arm.run (in_switch end exits)) (λ b. seal arm.leaves (next_or end labels) >>= (λ c. falling end labels arms exits)) (are.0.does.adds (in_switch end exits))
      (λ b. adds_then (seal arm.leaves (next_or end labels)) (λ c. falling end labels arms exits) (λ b. subst (GrownTo b) (sym (seal_is arm.leaves (next_or end labels) b)) (grown_left arm.leaves (next_or end labels) b))
      (λ c. adds_falling end exits arms more are.1 labels)))

  module _ (end : ℕ) (exits : Exits) (last : Flow) where
    -- the flow behind the `switch`
    abbrev pub behind_all : Flow
    behind_all = block_at end last.sections last

    module _ (whole : Inside m input sections f behind_all.sections) (lead : LeadBehind m input sections f behind_all.sections exits) where
      abbrev Is : statement.Flow → shader.State → State → Type 0
      Is = IsDone m input sections f p around false (in_switch end exits) tt behind_all

      abbrev Waits : shader.State → State → Type 0
      Waits = none_waits {A = Unit {0}} tt behind_all

      -- A label stands behind these sections, and from there the code does what is meant.
      pub record Lands (start : Sections) (label : ℕ) (run : Run statement.Flow) : Type 0 where
        pub from : Flow
        pub extends : Extends start from.sections
        pub inside : Inside m input sections f from.sections
        pub inside_label : Inside m input sections f (put op.LABEL (label ∷ []) from.sections)
        pub seated : Seated m input sections f (block_at label from.sections from).place
        pub does : (s : shader.State) (units : ℕ) (state : State) → Good m input sections f p around (block_at label from.sections from) s state → Follows m input p 0 units state Is Waits (run s units)

      lands_behind : (start between : Sections) (label : ℕ) (run : Run statement.Flow) → Extends start between → Lands between label run → Lands start label run
      lands_behind start between label run grown l = record { from = l.from; extends = extends_then grown l.extends; inside = l.inside; inside_label = l.inside_label; seated = l.seated; does = l.does }

      -- behind the last arm
      lands_end : Inside m input sections f last.sections → Seated m input sections f last.place → Lands last.sections end (shader_run.given Normal)
      lands_end inside seated = record {
        from = last;
        extends = extends_same last.sections;
        inside = inside;
        inside_label = whole;
        seated = seated_grown m input sections f last behind_all (grown_block end last.sections last (extends_same last.sections)) seated;
        does = λ s units state good. reaches_here m input units state (Is Normal s) (refl, good);
      }

      -- an arm, before others
      module _ (arm : LowerArm) (x rest : Run statement.Flow) (does_arm : DoesStatement m input sections f p around arm.leaves arm.run x) (label next : ℕ) (b done : Flow)
          (inside : Inside m input sections f b.sections) (seated : Seated m input sections f b.place) (runs : arm.run (in_switch end exits) (block_at label b.sections b) ≡ Gives tt done)
          (more : Lands (left_for arm.leaves next done).sections next rest) (grown : Extends (left_for arm.leaves next done).sections last.sections) where
        abbrev entered : Flow
        entered = block_at label b.sections b

        grown_arm : Grown entered done
        grown_arm = grown_by (arm.run (in_switch end exits)) entered tt done (does_arm.adds (in_switch end exits)) runs

        grown_entered : Grown b entered
        grown_entered = grown_block label b.sections b (extends_same b.sections)

        from_done : Extends done.sections last.sections
        from_done = extends_then (extends_sealed arm.leaves next done.sections) grown

        to_end : Extends last.sections behind_all.sections
        to_end = extends_put op.LABEL (end ∷ []) last.sections

        between : (c : Sections) → Extends b.sections c → Extends c behind_all.sections → Inside m input sections f c
        between c one two = inside_between m input sections f b.sections c behind_all.sections inside whole one two

        inside_entered : Inside m input sections f entered.sections
        inside_entered = between entered.sections grown_entered.extends (extends_then grown_arm.extends (extends_then from_done to_end))

        inside_done : Inside m input sections f done.sections
        inside_done = between done.sections (extends_then grown_entered.extends grown_arm.extends) (extends_then from_done to_end)

        inside_last : Inside m input sections f last.sections
        inside_last = between last.sections (extends_then grown_entered.extends (extends_then grown_arm.extends from_done)) to_end

        leads : LeadBehind m input sections f done.sections (in_switch end exits)
        leads = record {
          broke = stands_at m input sections f done.sections last.sections end inside_done inside_last whole from_done;
          continued = (lead_before m input sections f done.sections behind_all.sections exits inside_done whole (extends_then from_done to_end) lead).continued;
        }

        arm_follows : (s : shader.State) (units : ℕ) (state : State) → Good m input sections f p around entered s state → Follows m input p 0 units state (IsDone m input sections f p around arm.leaves (in_switch end exits) tt done) (none_waits {A = Unit {0}} tt done) (x s units)
        arm_follows s units state good = subst (DoesHere m input sections f p around units state arm.leaves (in_switch end exits) (x s units)) runs (does_arm.does (in_switch end exits) entered s units state good) inside_done leads

        -- it falls through where it was not left otherwise
        falls : (s : shader.State) (units : ℕ) (state : State) → Good m input sections f p around entered s state → Follows m input p 0 units state Is Waits (shader_run.behind (x s units) (then_if_normal rest))
        unfolding form_of
        falls s units state good =
            follows_then m input p 0 units state (IsDone m input sections f p around arm.leaves (in_switch end exits) tt done) (none_waits {A = Unit {0}} tt done) Is Waits (x s units) (then_if_normal rest) (arm_follows s units state good)
            (λ flow t left mid is less. goes flow t left mid is)
            (λ t left mid none less. absurd none)
          where
            open_end : arm.leaves ≡ false → Extends (put op.BRANCH (next ∷ []) done.sections) more.from.sections
            open_end e = subst (λ l. Extends (sealed l next done.sections) more.from.sections) e more.extends

            goes : (flow : statement.Flow) (t : shader.State) (left : ℕ) (mid : State) → IsDone m input sections f p around arm.leaves (in_switch end exits) tt done flow t mid → Follows m input p 0 left mid Is Waits (then_if_normal rest flow t left)
            goes Normal t left mid is =
                let grown = open_end is.0 in
                let led = jumps m input sections f (instr op.BRANCH (next ∷ [])) next done.sections more.from.sections mid left inside_done more.inside more.inside_label is.1.rest is.1.within is.1.own grown.functions.more
                (grown.functions.is ∙ append_assoc done.sections.functions (instr op.BRANCH (next ∷ []) ∷ []) grown.functions.more) (λ at more. refl) in
                follows_behind m input p 0 0 left left mid (begun_at m input sections f mid (put op.LABEL (next ∷ []) more.from.sections)) Is Waits (rest t left)
                led (omega arith)
                (more.does t left (begun_at m input sections f mid (put op.LABEL (next ∷ []) more.from.sections))
                (good_on m input sections f p around (block_at next more.from.sections more.from) t mid more.seated more.inside_label (within_good m input sections f p around done t mid is.1) led))
            goes Broke t left mid is = reaches_here m input left mid (Is Broke t) is
            goes Continued t left mid is = reaches_here m input left mid (Is Continued t) is
            goes (Returned v) t left mid is = reaches_here m input left mid (Is (Returned v) t) is

        lands_arm : Lands b.sections label (shader_run.◌>>=◌ x (then_if_normal rest))
        lands_arm = record { from = b; extends = extends_same b.sections; inside = inside; inside_label = inside_entered; seated = seated_grown m input sections f b entered grown_entered seated; does = falls }

        grown_over : Extends b.sections (left_for arm.leaves next done).sections
        grown_over = extends_then grown_entered.extends (extends_then grown_arm.extends (extends_sealed arm.leaves next done.sections))

      -- Where arms begin, control falls into the first; and it lands at the first that is wanted.
      pub record Land (labels : List ℕ) (arms : List LowerArm) (means : List Arm) (start : Sections) : Type 0 where
        pub falls : Lands start (next_or end labels) (statement.falling means)
        pub finds : (test : LowerArm → Bool) (wanted : Arm → Bool) → ((arm : LowerArm) (one : Arm) → IsArm m input sections f p around arm one → test arm ≡ wanted one) → Lands start (label_by test end labels arms) (statement.falling (arms_from wanted means))

      module _ (arm : LowerArm) (one : Arm) (is : IsArm m input sections f p around arm one) (label : ℕ) (labels : List ℕ) (arms : List LowerArm) (means : List Arm) (b done : Flow)
          (inside : Inside m input sections f b.sections) (seated : Seated m input sections f b.place) (runs : arm.run (in_switch end exits) (block_at label b.sections b) ≡ Gives tt done)
          (more : Land labels arms means (left_for arm.leaves (next_or end labels) done).sections) (grown : Extends (left_for arm.leaves (next_or end labels) done).sections last.sections) where
        here : Lands b.sections label (statement.falling (one ∷ means))
        here = lands_arm arm one.body (statement.falling means) is.does label (next_or end labels) b done inside seated runs more.falls grown

        one_more : Land (label ∷ labels) (arm ∷ arms) (one ∷ means) b.sections
        one_more = record {
          falls = here;
          finds = λ test wanted same. by (test arm) (wanted one) (same arm one is) test wanted (more.finds test wanted same);
        }
          where
            by : (a w : Bool) → a ≡ w → (test : LowerArm → Bool) (wanted : Arm → Bool) → Lands (left_for arm.leaves (next_or end labels) done).sections (label_by test end labels arms) (statement.falling (arms_from wanted means))
                → Lands b.sections (if a then label else label_by test end labels arms) (statement.falling (if w then one ∷ means else arms_from wanted means))
            by true true e test wanted later = here
            by true false e test wanted later = absurd cc
            by false true e test wanted later = absurd cc
            by false false e test wanted later = lands_behind b.sections (left_for arm.leaves (next_or end labels) done).sections (label_by test end labels arms) (statement.falling (arms_from wanted means))
                (grown_over arm one.body (statement.falling means) is.does label (next_or end labels) b done inside seated runs more.falls grown) later

      pub arms_land : (labels : List ℕ) (arms : List LowerArm) (means : List Arm) → AreArms m input sections f p around arms means → length labels ≡ length arms → (b : Flow) → Inside m input sections f b.sections → Seated m input sections f b.place → falling end labels arms exits b ≡ Gives tt last
          → Land labels arms means b.sections
      unfolding falling opening
      arms_land [] [] [] are long b inside seated e =
          let here = ends b (ap (flow_in b) e) inside seated in record { falls = here; finds = λ test wanted same. here }
        where
          ends : (b : Flow) → b ≡ last → Inside m input sections f b.sections → Seated m input sections f b.place → Lands b.sections end (shader_run.given Normal)
          ends b e inside seated = subst (λ (c : Flow). Lands c.sections end (shader_run.given Normal)) (sym e)
              (lands_end (subst (λ (c : Flow). Inside m input sections f c.sections) e inside) (subst (λ (c : Flow). Seated m input sections f c.place) e seated))
      arms_land [] [] (one ∷ means) are long b inside seated e = absurd are
      arms_land [] (arm ∷ arms) means are long b inside seated e = absurd (omega (arith, long))
      arms_land (label ∷ labels) [] means are long b inside seated e = absurd (omega (arith, long))
      arms_land (label ∷ labels) (arm ∷ arms) [] are long b inside seated e = absurd are
      arms_land (label ∷ labels) (arm ∷ arms) (one ∷ means) are long b inside seated e =
          one_more arm one are.0 label labels arms means b o.1 inside seated o.2 (arms_land labels arms means are.1 (omega (arith, long)) after inside_after seated_after fallen) grown_after
        where
          o : (a : Unit {0}) × (done : Flow) × (arm.run (in_switch end exits) (block_at label b.sections b) ≡ Gives a done) × (behind (seal arm.leaves (next_or end labels) done) (λ c. falling end labels arms exits) ≡ Gives tt last)
          o = opens (arm.run (in_switch end exits) (block_at label b.sections b)) (λ a. seal arm.leaves (next_or end labels) >>= (λ c. falling end labels arms exits)) tt last e

          after : Flow
          after = left_for arm.leaves (next_or end labels) o.1

          fallen : falling end labels arms exits after ≡ Gives tt last
          fallen = ap (λ low. behind low (λ c. falling end labels arms exits)) (sym (seal_is arm.leaves (next_or end labels) o.1)) ∙ o.3

          grown_after : Extends after.sections last.sections
          grown_after = (grown_by (falling end labels arms exits) after tt last (adds_falling end exits arms means are.1 labels) fallen).extends

          to_after : Grown b after
          to_after = grown_then (grown_block label b.sections b (extends_same b.sections)) (grown_then (grown_by (arm.run (in_switch end exits)) (block_at label b.sections b) tt o.1 (are.0.does.adds (in_switch end exits)) o.2) (grown_left arm.leaves (next_or end labels) o.1))

          inside_after : Inside m input sections f after.sections
          inside_after = inside_between m input sections f b.sections after.sections behind_all.sections inside whole to_after.extends (extends_then grown_after (extends_put op.LABEL (end ∷ []) last.sections))

          seated_after : Seated m input sections f after.place
          seated_after = seated_grown m input sections f b after to_after seated
