-- Main, from where its body begins to the end of the module.
use Rattle.std.proofs.Common.{refl, sym, subst, ℕ, List, [], map, Option}
use Rattle.gsl_base.specs.declared.input.Input.{Input}
use Rattle.gsl_types.specs.declared.ty.Ty.TheVariants.{Void}
use Rattle.gsl_words.specs.declared.module.Module.{Module}
use Rattle.gsl_values.specs.declared.value.Value.{Value}
use Rattle.gsl_tree.specs.declared.program.Program.{Program}
use Rattle.gsl_tree.specs.declared.unit.Function.{Function}
use Rattle.gsl_meaning.specs.Running.{Ran, Run, Got, Ends, Strays, Goes, behind}
use Rattle.gsl_meaning.specs.Shader as shader
use Rattle.gsl_meaning.specs.Shader.{begins, calls, left, main_of, most_calls, outcome_of, result_of, setting_of}
use Rattle.gsl_meaning.specs.Statements as statement
use Rattle.gsl_meaning.specs.Statements.{runs_all}
use Rattle.gsl_machine.specs.State.{State}
use Rattle.gsl_valid.specs.Valid.{Valid}
use Rattle.gsl_spv.specs.Sections.{Sections}
use Rattle.gsl_lower_holders.specs.Flow.{Flow, Lowered}
use Rattle.gsl_lower_holders.specs.declared.place.FlowPlace.{FlowPlace}
use Rattle.gsl_lower_text.specs.Written.{Written}
use Rattle.gsl_lower_needs.specs.Bodies.{any_leaves}
use Rattle.gsl_lower_stmt.specs.Parts.{LowerStmt, in_turn}
use Rattle.gsl_lower_follows.specs.Following.{Astray, Follows}
use Rattle.gsl_lower_follows.specs.Frames.{Frame, Good}
use Rattle.gsl_lower_follows.specs.Giving.{Does, none_waits}
use Rattle.gsl_lower_follows.proofs.Stretches.{stretch_then}
use Rattle.gsl_lower_law_stmt.specs.Doing.{DoesStatement}
use Rattle.gsl_lower_law_main.proofs.Ends.{ends}
use Rattle.gsl_lower_law_passed.specs.OfLawFunctions.{AtResult, DoesBody}
use Rattle.gsl_lower_law_passed.proofs.OfLawFunctions.{void_body_does}
use Rattle.gsl_lower_law_shader.proofs.Bodies.{typed_body_does}
use Rattle.gsl_lower_law_shader.proofs.Called.{body_asked}
use Rattle.gsl_lower_law_shader.specs.Depths.{AllStand, body_of, call_of, stage_of, statements_of}
use Rattle.gsl_lower_law_shader.proofs.Ranked.{ranked_do}
use Rattle.gsl_lower_law_shader.specs.Alike.{EndsAs, IsMain, around_main, main_begins}

module _ (m : Module) (input : Input) (whole : Sections) (p : Program) (place : FlowPlace) (stages : List (Option Value)) (rank : ℕ → ℕ) (f : Frame m input whole) (tree : Function) (begin : Flow) (valid : Valid m) (written : Written m whole) (all : AllStand m input whole p place stages rank most_calls) (main : IsMain m input whole p place stages rank f tree begin) where
  abbrev run : Run statement.Flow
  run = runs_all (setting_of p input (calls p input most_calls)) tree.locals tree.body

  statements_do : DoesStatement m input whole f p (around_main p tree) (any_leaves (map (λ (s : LowerStmt). s.leaves) (statements_of p tree))) (in_turn (statements_of p tree)) run
  statements_do =
      typed_body_does m input whole f p [] tree.locals (call_of p) (stage_of p input) (calls p input most_calls) tree.body main.typed main.knows main.body
      (body_asked m input whole p place stages rank most_calls most_calls (λ other below. ranked_do m input whole p place stages rank most_calls other valid written all below) f main.of_module [] tree.locals main.typed main.knows f.result tree.body main.body main.asks)

  body_does : DoesBody m input whole f p (around_main p tree) begin (body_of p tree f.result) run
  body_does = void_body_does m input whole f p (around_main p tree) (any_leaves (map (λ (s : LowerStmt). s.leaves) (statements_of p tree))) (in_turn (statements_of p tree)) run begin statements_do main.nothing

  module _ (units : ℕ) (state : State) (good : Good m input whole f p (around_main p tree) begin (main_begins p input tree) state) where
    follows : Follows m input p 0 units state (λ flow t last. AtResult m input whole f p (around_main p tree) flow t last) (λ t last. ⊥) (run (main_begins p input tree) units)
    follows =
        subst (λ (low : Lowered (Unit {0})). Does m input whole f p 0 units state (λ (done : Unit {0}) later flow t last. AtResult m input whole f p (around_main p tree) flow t last) none_waits (run (main_begins p input tree) units) low) main.lowered
        (body_does.does (main_begins p input tree) units state good) main.inside

    -- behind its body main gives nothing, and its caller's variables are no matter
    ended : (ran : Ran statement.Flow) → Follows m input p 0 units state (λ flow t last. AtResult m input whole f p (around_main p tree) flow t last) (λ t last. ⊥) ran
        → EndsAs m input units state (outcome_of p input (behind ran (λ flow. left (begins p input) (result_of p.structs Void flow))))
    ended (Got flow t rest) q =
        let e = ends m input whole f p (around_main p tree) main.outs refl main.alone (result_of p.structs f.result flow) t rest q.later q.is in
        record { left = e.left; stretch = stretch_then m input 0 0 0 units rest e.left state q.later _ q.stretch e.stretch }
    ended (Ends t) q = record { left = q.left; stretch = q.stretch }
    ended Strays (Astray.now faults) = faults
    ended Strays (Astray.later s left reaches) = absurd reaches.is
    ended Goes q = q

    shader_ends : EndsAs m input units state (shader.shader p units input)
    unfolding shader.shader
    shader_ends =
        subst (λ o. EndsAs m input units state (outcome_of p input (main_of p input o (begins p input) units))) (sym main.found) (ended (run (main_begins p input tree) units) follows)

pub ends_as : (m : Module) (input : Input) (whole : Sections) (p : Program) (place : FlowPlace) (stages : List (Option Value)) (rank : ℕ → ℕ) (f : Frame m input whole) (tree : Function) (begin : Flow) (units : ℕ) (state : State) → Valid m → Written m whole → AllStand m input whole p place stages rank most_calls
    → IsMain m input whole p place stages rank f tree begin → Good m input whole f p (around_main p tree) begin (main_begins p input tree) state → EndsAs m input units state (shader.shader p units input)
ends_as m input whole p place stages rank f tree begin units state valid written all main good = shader_ends m input whole p place stages rank f tree begin valid written all main units state good
