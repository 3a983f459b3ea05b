-- Functions of a program, by the depth of their calls.
use Rattle.std.proofs.Common.{◌≡◌, sym, ap, ◌∙◌, subst, inl, inr, ℕ, zero, suc, ◌<◌, Bool, List, map, length, slice_get, Option, Some, arith}
use Rattle.gsl_base.specs.declared.input.Input.{Input}
use Rattle.gsl_types.specs.Known.{IsSound}
use Rattle.gsl_types.specs.declared.ty.Ty.TheFolds.{fold-roll-Ty}
use Rattle.gsl_types.specs.declared.ty.Ty.TheOpen.{Ty-F}
use Rattle.gsl_types.specs.declared.ty.Ty.TheVariants.{rolls-Void}
use Rattle.gsl_types.specs.Known.{sound, sound_kind}
use Rattle.gsl_words.specs.declared.module.Module.{Module}
use Rattle.gsl_values.specs.declared.value.Value.{Value}
use Rattle.gsl_tree.specs.Around.{Around}
use Rattle.gsl_tree.specs.Statements.{IsBody}
use Rattle.gsl_tree.specs.WellTyped.{IsResult, IsVariableType, around_body, program_lists}
use Rattle.gsl_tree.specs.declared.program.Program.{Program}
use Rattle.gsl_tree.specs.declared.unit.Prototype.{Prototype}
use Rattle.gsl_typed_law.proofs.Zeros.{declared_plain, zero_typed}
use Rattle.gsl_meaning.specs.Running.{Run, spending}
use Rattle.gsl_meaning.specs.Shader.{calls, result_type, setting_of}
use Rattle.gsl_meaning.specs.Statements as statement
use Rattle.gsl_meaning.specs.Statements.{runs_all}
use Rattle.gsl_valid.specs.Valid.{Valid}
use Rattle.gsl_spv.specs.Sections.{Sections}
use Rattle.gsl_lower_holders.specs.declared.place.FlowPlace.{FlowPlace}
use Rattle.gsl_lower_text.specs.Written.{Written}
use Rattle.gsl_lower_needs.specs.Bodies.{any_leaves}
use Rattle.gsl_lower_stmt.specs.Parts.{LowerStmt, in_turn}
use Rattle.gsl_lower_follows.specs.Frames.{Frame}
use Rattle.gsl_lower_law_stmt.specs.Doing.{DoesStatement}
use Rattle.gsl_lower_law_entered.specs.Modules.{IsFrame}
use Rattle.gsl_lower_law_passed.specs.OfLawFunctions.{DoesBody, GivesZeros}
use Rattle.gsl_lower_law_passed.specs.OfLawFunctions.{FunctionDoes, running_body}
use Rattle.gsl_lower_law_passed.proofs.OfLawFunctions.{call_does}
use Rattle.gsl_lower_law_passed.proofs.OfLawFunctions.{function_does}
use Rattle.gsl_lower_law_passed.proofs.OfLawFunctions.{body_does, void_body_does}
use Rattle.gsl_lower_law_zeros.proofs.Given.{zeros_given}
use Rattle.gsl_lower_law_evaluated.proofs.Facts.{plain_real}
use Rattle.gsl_lower_law_shader.proofs.Bodies.{typed_body_does}
use Rattle.gsl_lower_law_shader.proofs.Called.{body_asked}
use Rattle.gsl_lower_law_shader.specs.Depths.{AllStand, CallsDo, DoesAt, Stands, body_of, call_of, globals_of, stage_of, statements_of}

module _ (m : Module) (input : Input) (whole : Sections) (p : Program) (place : FlowPlace) (stages : List (Option Value)) (rank : ℕ → ℕ) (valid : Valid m) (written : Written m whole) where
  module _ (depth number function : ℕ) (head : Prototype) (named : slice_get p.prototypes number ≡ Some head) (s : Stands m input whole p place stages rank number function head) (lower : (other : ℕ) → rank other < rank number → CallsDo m input whole p place stages depth other) where
    abbrev inner : Around
    inner = around_body (program_lists p) head.params s.tree.locals

    abbrev run : Run statement.Flow
    run = runs_all (setting_of p input (calls p input depth)) s.tree.locals s.tree.body

    result_sound : IsResult p.structs head.result → IsSound (length p.structs) head.result
    result_sound (inl none) = subst (IsSound (length p.structs)) (sym none) (ap (sound (length p.structs)) (sym rolls-Void) ∙ fold-roll-Ty Bool (sound_kind (length p.structs)) Ty-F.Void)
    result_sound (inr is) = is.known

    -- in a frame of the function its statements do what they mean
    statements_do : (g : Frame m input whole) → IsFrame m input whole place stages g → g.result ≡ head.result
        → DoesStatement m input whole g p inner (any_leaves (map (λ (s : LowerStmt). s.leaves) (statements_of p s.tree))) (in_turn (statements_of p s.tree)) run
    statements_do g of_module gives =
        typed_body_does m input whole g p head.params s.tree.locals (call_of p) (stage_of p input) (calls p input depth) s.tree.body s.typed (s.knows g of_module)
        (subst (λ t. IsBody inner t s.tree.body) (sym gives) s.body)
        (body_asked m input whole p place stages rank (rank number) depth lower g of_module head.params s.tree.locals s.typed (s.knows g of_module) head.result s.tree.body s.body (s.asks depth g of_module))

    bodies : (g : Frame m input whole) → IsFrame m input whole place stages g → g.before ≡ s.stands.before → g.code ≡ s.stands.code → g.result ≡ head.result → DoesBody m input whole g p inner s.begin (body_of p s.tree head.result) run
    bodies g of_module front same gives = subst (λ t. DoesBody m input whole g p inner s.begin (body_of p s.tree t) run) gives (by s.result)
      where
        zeros_there : IsVariableType p.structs head.result → GivesZeros m input whole g p inner g.result s.begin
        zeros_there is later grown u units state good =
            let t = subst (IsVariableType p.structs) (sym gives) is in
            let knows = s.knows g of_module in
            (zeros_given m input whole g p inner g.result knows.nulls (λ composite. knows.zeros g.result composite t) t.known (zero_typed p.structs s.typed.program.structs (declared_plain p.structs s.typed.program.declared) g.result t.known t.plain)).does later u units state good

        by : IsResult p.structs head.result → DoesBody m input whole g p inner s.begin (body_of p s.tree g.result) run
        by (inl none) = void_body_does m input whole g p inner (any_leaves (map (λ (s : LowerStmt). s.leaves) (statements_of p s.tree))) (in_turn (statements_of p s.tree)) run s.begin (statements_do g of_module gives) (gives ∙ none)
        by (inr is) = body_does m input whole g p inner (any_leaves (map (λ (s : LowerStmt). s.leaves) (statements_of p s.tree))) (in_turn (statements_of p s.tree)) run s.begin (statements_do g of_module gives) (λ e. plain_real head.result is.plain (sym gives ∙ e)) (zeros_there is)

    at_depth : FunctionDoes m input whole p place stages inner function head.params head.result (λ args. spending (running_body p.structs s.tree.locals head.result run args))
    at_depth = function_does m input whole p inner place stages function s.begin head.result (body_of p s.tree head.result) run valid written s.stands s.lowered s.many s.typed.program.structs (result_sound s.result) bodies

    result_is : result_type (slice_get p.prototypes number) ≡ head.result
    result_is = ap result_type named

    -- all functions have the program's variables
    outside : FunctionDoes m input whole p place stages (globals_of p) function head.params (result_type (slice_get p.prototypes number)) (λ args. spending (running_body p.structs s.tree.locals (result_type (slice_get p.prototypes number)) run args))
    outside = subst (λ t. FunctionDoes m input whole p place stages (globals_of p) function head.params t (λ args. spending (running_body p.structs s.tree.locals t run args))) (sym result_is)
        (record {
          does = λ f around b later args type id first units t state of_module alike good puts inside held enough typed.
              at_depth.does f around b later args type id first units t state of_module (record { globals = alike.globals; interfaces = alike.interfaces }) good puts inside held enough typed;
        })

    pub one_does : DoesAt m input whole p place stages (suc depth) number function head
    one_does =
        subst (λ t. FunctionDoes m input whole p place stages (globals_of p) function head.params t (calls p input (suc depth) number)) result_is
        (call_does m input whole p place stages (globals_of p) function number depth head.params s.tree s.found outside)

  pub at_each_depth : (depth number : ℕ) → AllStand m input whole p place stages rank depth → rank number < depth → CallsDo m input whole p place stages depth number
  at_each_depth zero number all less = λ head function named there. absurd (omega (arith, less))
  at_each_depth (suc depth) number all less = λ head function named there.
      one_does depth number function head named (all number function head named there less)
      (λ other below. at_each_depth depth other (λ n f h is has low. all n f h is has (omega (arith, low))) (omega (arith, less, below)))

pub ranked_do : (m : Module) (input : Input) (whole : Sections) (p : Program) (place : FlowPlace) (stages : List (Option Value)) (rank : ℕ → ℕ) (depth number : ℕ) → Valid m → Written m whole → AllStand m input whole p place stages rank depth → rank number < depth → CallsDo m input whole p place stages depth number
ranked_do m input whole p place stages rank depth number valid written all less = at_each_depth m input whole p place stages rank valid written depth number all less
