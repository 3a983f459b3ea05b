-- Statements one behind the other.
use Rattle.std.proofs.Common.{◌≡◌, refl, sym, ap, ◌∙◌, subst, ℕ, ◌+◌, Bool, true, false, ◌||◌, List, [], ◌∷◌, map, length, Option, Some, None, arith}
use Rattle.std.proofs.lemmas.List.{length-append}
use Rattle.gsl_base.specs.declared.input.Input.{Input}
use Rattle.gsl_words.specs.declared.module.Module.{Module}
use Rattle.gsl_tree.specs.Around.{Around}
use Rattle.gsl_tree.specs.declared.program.Program.{Program}
use Rattle.gsl_meaning.specs.Running.{Got, Ran, Run, given as shader_given}
use Rattle.gsl_meaning.specs.Running as shader_run
use Rattle.gsl_meaning.specs.State as shader
use Rattle.gsl_meaning.specs.Statements as statement
use Rattle.gsl_meaning.specs.Statements.{Normal, Broke, Continued, Returned, then_if_normal}
use Rattle.gsl_valid.specs.Placed.{placed_from}
use Rattle.gsl_machine.specs.State.{State}
use Rattle.gsl_spv.specs.Growing.{Extends}
use Rattle.gsl_spv.specs.Sections.{Sections}
use Rattle.gsl_lower_holders.specs.Flow.{Emit, Flow, Gives, Lacks, Lowered, behind, given, ◌>>=◌}
use Rattle.gsl_lower_stmt.specs.Parts.{LowerStmt, in_turn, unless}
use Rattle.gsl_lower_stmt.specs.declared.exits.Exits.{Exits}
use Rattle.gsl_lower_follows.specs.Following.{Follows}
use Rattle.gsl_lower_follows.specs.Frames.{Frame, Good, Inside, coming}
use Rattle.gsl_lower_follows.specs.Giving.{GrownTo, none_waits}
use Rattle.gsl_lower_follows.proofs.Behind.{follows_then, reaches_here}
use Rattle.gsl_lower_follows.proofs.Growing.{adds_given, adds_then}
use Rattle.gsl_lower_follows.proofs.Placing.{coming_before, inside_between}
use Rattle.gsl_lower_needs.specs.Bodies.{any_leaves}
use Rattle.gsl_lower_law_stmt.specs.Doing.{DoesHere, DoesStatement, EachDoes, ForLabel, IsDone, LeadBehind, StandsBehind}

module _ (m : Module) (input : Input) (sections : Sections) (f : Frame m input sections) where
  -- what stands behind what a builder holds, stands behind what it held before
  pub stands_before : (b later : Sections) (label : ℕ) → Inside m input sections f b → Inside m input sections f later → Extends b later → StandsBehind m input sections f later label → StandsBehind m input sections f b label
  stands_before b later label here there grown stands =
      let at = coming_before m input sections f b later grown.functions.more here there grown.functions.is in
      let long : length (coming m input sections f b) ≡ length (placed_from at.0 grown.functions.more) + length (coming m input sections f later) = ap length at.1 ∙ length-append (placed_from at.0 grown.functions.more) (coming m input sections f later) in
      record { place = stands.place; rest = stands.rest; found = stands.found; ahead = (let near = stands.ahead in omega (arith, near, long)) }

  for_before : (b later : Sections) (exit : Option ℕ) → Inside m input sections f b → Inside m input sections f later → Extends b later → ForLabel m input sections f (StandsBehind m input sections f later) exit → ForLabel m input sections f (StandsBehind m input sections f b) exit
  for_before b later None here there grown stands = tt
  for_before b later (Some label) here there grown stands = stands_before b later label here there grown stands

  pub lead_before : (b later : Sections) (exits : Exits) → Inside m input sections f b → Inside m input sections f later → Extends b later → LeadBehind m input sections f later exits → LeadBehind m input sections f b exits
  lead_before b later exits here there grown lead = record { broke = for_before b later exits.break_to here there grown lead.broke; continued = for_before b later exits.continue_to here there grown lead.continued }

  module _ (p : Program) (around : Around) where
    -- no statement
    pub nothing_does : DoesStatement m input sections f p around false (λ exits. given tt) (shader_given Normal)
    nothing_does = record {
      adds = λ exits. adds_given {A = Unit {0}} tt;
      does = λ exits b s units state good inside lead. reaches_here m input units state (IsDone m input sections f p around false exits tt b Normal s) (refl, good);
    }

    module _ (first : LowerStmt) (rest : Exits → Emit (Unit {0})) (rest_leaves : Bool) (x y : Run statement.Flow) (does_first : DoesStatement m input sections f p around first.leaves first.run x) (does_rest : DoesStatement m input sections f p around rest_leaves rest y) where
      -- a statement that leaves, and what stands behind it is dropped
      cut : (leaves : Bool) → first.leaves ≡ true → leaves ≡ true → (exits : Exits) (b : Flow) (s : shader.State) (units : ℕ) (state : State) → Good m input sections f p around b s state
          → DoesHere m input sections f p around units state leaves exits (shader_run.◌>>=◌ x (then_if_normal y) s units) ((first.run exits >>= (λ done. given tt)) b)
      cut leaves is all exits b s units state good = by (first.run exits b) (does_first.does exits b s units state good)
        where
          by : (low : Lowered (Unit {0})) → DoesHere m input sections f p around units state first.leaves exits (x s units) low → DoesHere m input sections f p around units state leaves exits (shader_run.◌>>=◌ x (then_if_normal y) s units) (behind low (λ done. given tt))
          by Lacks does = tt
          by (Gives done later) does = λ inside lead.
              follows_then m input p 0 units state (IsDone m input sections f p around first.leaves exits done later) (none_waits done later) (IsDone m input sections f p around leaves exits tt later) (none_waits {A = Unit {0}} tt later) (x s units) (then_if_normal y) (does inside lead)
              (λ flow t left mid is less. goes flow t left mid is)
              (λ t left mid none less. absurd none)
            where
              goes : (flow : statement.Flow) (t : shader.State) (left : ℕ) (mid : State) → IsDone m input sections f p around first.leaves exits done later flow t mid
                  → Follows m input p 0 left mid (IsDone m input sections f p around leaves exits tt later) (none_waits {A = Unit {0}} tt later) (then_if_normal y flow t left)
              goes Normal t left mid x = absurd (let z : true ≡ false = sym is ∙ x.0 in cc)
              goes Broke t left mid x = reaches_here m input left mid (IsDone m input sections f p around leaves exits tt later Broke t) x
              goes Continued t left mid x = reaches_here m input left mid (IsDone m input sections f p around leaves exits tt later Continued t) x
              goes (Returned v) t left mid x = reaches_here m input left mid (IsDone m input sections f p around leaves exits tt later (Returned v) t) x

      -- a statement, and the others behind it
      joined : (exits : Exits) (b : Flow) (s : shader.State) (units : ℕ) (state : State) → Good m input sections f p around b s state
          → DoesHere m input sections f p around units state rest_leaves exits (shader_run.◌>>=◌ x (then_if_normal y) s units) ((first.run exits >>= (λ done. rest exits)) b)
      joined exits b s units state good = by (first.run exits b) (does_first.adds exits b) (does_first.does exits b s units state good)
        where
          by : (low : Lowered (Unit {0})) → GrownTo b low → DoesHere m input sections f p around units state first.leaves exits (x s units) low → DoesHere m input sections f p around units state rest_leaves exits (shader_run.◌>>=◌ x (then_if_normal y) s units) (behind low (λ done. rest exits))
          by Lacks grown does = tt
          by (Gives done between) grown does = later_by (rest exits between) (does_rest.adds exits between) (λ t left mid g. does_rest.does exits between t left mid g)
            where
              later_by : (low : Lowered (Unit {0})) → GrownTo between low → ((t : shader.State) (left : ℕ) (mid : State) → Good m input sections f p around between t mid → DoesHere m input sections f p around left mid rest_leaves exits (y t left) low)
                  → DoesHere m input sections f p around units state rest_leaves exits (shader_run.◌>>=◌ x (then_if_normal y) s units) low
              later_by Lacks more next = tt
              later_by (Gives end later) more next = λ inside lead.
                  let between_is = inside_between m input sections f b.sections between.sections later.sections good.inside inside grown.extends more.extends in
                  follows_then m input p 0 units state (IsDone m input sections f p around first.leaves exits done between) (none_waits done between) (IsDone m input sections f p around rest_leaves exits end later) (none_waits end later) (x s units) (then_if_normal y)
                  (does between_is (lead_before between.sections later.sections exits between_is inside more.extends lead))
                  (λ flow t left mid is less. goes flow t left mid is inside lead)
                  (λ t left mid none less. absurd none)
                where
                  goes : (flow : statement.Flow) (t : shader.State) (left : ℕ) (mid : State) → IsDone m input sections f p around first.leaves exits done between flow t mid → Inside m input sections f later.sections → LeadBehind m input sections f later.sections exits
                      → Follows m input p 0 left mid (IsDone m input sections f p around rest_leaves exits end later) (none_waits end later) (then_if_normal y flow t left)
                  goes Normal t left mid x inside lead = next t left mid x.1 inside lead
                  goes Broke t left mid x inside lead = reaches_here m input left mid (IsDone m input sections f p around rest_leaves exits end later Broke t) x
                  goes Continued t left mid x inside lead = reaches_here m input left mid (IsDone m input sections f p around rest_leaves exits end later Continued t) x
                  goes (Returned v) t left mid x inside lead = reaches_here m input left mid (IsDone m input sections f p around rest_leaves exits end later (Returned v) t) x

      pub one_then : (leaves : Bool) → leaves ≡ first.leaves || rest_leaves → DoesStatement m input sections f p around leaves (λ exits. first.run exits >>= (λ done. unless first.leaves (rest exits))) (shader_run.◌>>=◌ x (then_if_normal y))
      one_then leaves is = by first.leaves refl
        where
          by : (left : Bool) → first.leaves ≡ left → DoesStatement m input sections f p around leaves (λ exits. first.run exits >>= (λ done. unless left (rest exits))) (shader_run.◌>>=◌ x (then_if_normal y))
          by true left = record {
            adds = λ exits. adds_then (first.run exits) (λ done. given tt) (does_first.adds exits) (λ done. adds_given {A = Unit {0}} tt);
            does = cut leaves left (is ∙ ap (λ l. l || rest_leaves) left);
          }
          by false left = subst (λ l. DoesStatement m input sections f p around l (λ exits. first.run exits >>= (λ done. rest exits)) (shader_run.◌>>=◌ x (then_if_normal y))) (sym (is ∙ ap (λ l. l || rest_leaves) left))
              (record { adds = λ exits. adds_then (first.run exits) (λ done. rest exits) (does_first.adds exits) (λ done. does_rest.adds exits); does = joined })

    -- statements one behind the other
    pub all_do : (ss : List LowerStmt) (runs : List (Run statement.Flow)) → EachDoes m input sections f p around ss runs → DoesStatement m input sections f p around (any_leaves (map (λ (s : LowerStmt). s.leaves) ss)) (in_turn ss) (statement.in_turn runs)
    unfolding in_turn
    all_do [] [] each = nothing_does
    all_do [] (run ∷ runs) each = absurd each
    all_do (s ∷ ss) [] each = absurd each
    all_do (s ∷ ss) (run ∷ runs) each = one_then s (in_turn ss) (any_leaves (map (λ (s : LowerStmt). s.leaves) ss)) run (statement.in_turn runs) each.0 (all_do ss runs each.1) (any_leaves (map (λ (s : LowerStmt). s.leaves) (s ∷ ss))) refl
