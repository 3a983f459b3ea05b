-- Steps that compute a value, and draw choices at most.
use Rattle.std.proofs.Common.{◌≡◌, refl, sym, ◌∙◌, subst, inr, ℕ, false, List, Option}
use Rattle.gsl_base.specs.declared.input.Input.{Input}
use Rattle.gsl_types.specs.declared.ty.Ty.{Ty}
use Rattle.gsl_words.specs.declared.module.Module.{Module}
use Rattle.gsl_values.specs.declared.value.Value.{Value}
use Rattle.gsl_tree.specs.Around.{Around}
use Rattle.gsl_tree.specs.Operations.{Given}
use Rattle.gsl_tree.specs.declared.program.Program.{Program}
use Rattle.gsl_typed_law.specs.Given.{AreChoices, Gives}
use Rattle.gsl_meaning.specs.Running.{drawing as shader_drawing}
use Rattle.gsl_meaning.specs.State as shader
use Rattle.gsl_machine.specs.State.{Ids, State}
use Rattle.gsl_spv.specs.Sections.{Sections}
use Rattle.gsl_lower_values.specs.Building.{Step}
use Rattle.gsl_lower_law.specs.Computing.{Computes, Grows, drawing, leaving}
use Rattle.gsl_lower_law.specs.Values.{Keeps, Ready, Stands}
use Rattle.gsl_lower_holders.specs.Flow.{Flow, flow_of, lift}
use Rattle.gsl_lower_follows.specs.Frames.{AreTyped, Frame, Global, Good, HasType, Holder, Inside, Interface, Local, Name, Param, Stage, coming, type_named, value_of}
use Rattle.gsl_lower_follows.specs.Giving.{After, Does, HasGiven, none_waits}
use Rattle.gsl_lower_follows.specs.Reached.{Reached}
use Rattle.gsl_lower_follows.proofs.Doing.{does_lift}

-- a state of the shader with these choices left
abbrev pub left_with : shader.State → List ℕ → shader.State
left_with s choices = record s { choices = choices }

-- choices are no matter of variables
pub value_left : (stages : List (Option Value)) (s : shader.State) (choices : List ℕ) (name : Name) → value_of stages (left_with s choices) name ≡ value_of stages s name
value_left stages s choices (Global number) = refl
value_left stages s choices (Interface number) = refl
value_left stages s choices (Stage number) = refl
value_left stages s choices (Param number) = refl
value_left stages s choices (Local number) = refl
value_left stages s choices (Holder number) = refl

module _ (m : Module) (input : Input) (whole : Sections) (f : Frame m input whole) (p : Program) (around : Around) where
  pub typed_left : (s : shader.State) (choices : List ℕ) → AreChoices choices → AreTyped m input whole f p around s → AreTyped m input whole f p around (left_with s choices)
  typed_left s choices are t = record { choices = are; each = λ name. subst (HasType m input whole f p around (type_named around name)) (sym (value_left f.stages s choices name)) (t.each name); blocks = t.blocks; stages = t.stages }

  -- behind a step that stores nothing
  pub good_drawn : (b : Flow) (s : shader.State) (state : State) (ids : Ids) (choices : List ℕ) (later : Sections) → AreChoices choices → Good m input whole f p around b s state → Inside m input whole f later → Ready later.last f.own ids
      → Reached m input (record (leaving state (drawing state choices) ids) { rest = coming m input whole f later })
      → Good m input whole f p around (flow_of later b.place) (left_with s choices) (record (leaving state (drawing state choices) ids) { rest = coming m input whole f later })
  good_drawn b s state ids choices later are good inside ready reached = record {
    inside = inside;
    rest = refl;
    within = good.within;
    own = good.own;
    waiting = good.waiting;
    ready = ready;
    seated = good.seated;
    holds = record {
      values = λ name v is. good.holds.values name v (sym (value_left f.stages s choices name) ∙ is);
      blocks = good.holds.blocks;
      buffers = good.holds.buffers;
      choices = refl;
      count = good.holds.count;
      outside = good.holds.outside;
    };
    typed = typed_left s choices are good.typed;
    reached = reached;
  }

  pub after_drawn : (b : Flow) (s : shader.State) (state : State) (ids : Ids) (choices : List ℕ) (later : Sections) → AreChoices choices → Good m input whole f p around b s state → Inside m input whole f later → Ready later.last f.own ids → Keeps state.ids ids
      → Reached m input (record (leaving state (drawing state choices) ids) { rest = coming m input whole f later })
      → After m input whole f p around false b state (flow_of later b.place) (left_with s choices) (record (leaving state (drawing state choices) ids) { rest = coming m input whole f later })
  after_drawn b s state ids choices later are good inside ready keeps reached = record {
    good = good_drawn b s state ids choices later are good inside ready reached;
    held = record { same = λ holder number less is. refl };
    ids = λ e. keeps;
  }

  -- the choices that are left in the module are words as well
  pub choices_are : (b : Flow) (s : shader.State) (state : State) → Good m input whole f p around b s state → AreChoices state.choices
  choices_are b s state good = subst AreChoices (sym good.holds.choices) good.typed.choices

  -- A step that computes a value from whatever state is one that gives it.
  pub computed_given : (ty : Ty) (answer : List ℕ → Given) (step : Step ℕ) → ((b : Flow) → Grows b.sections (step b.sections)) → ((choices : List ℕ) → AreChoices choices → Gives p.structs ty (answer choices))
      → (b : Flow) (s : shader.State) (units : ℕ) (state : State) → Good m input whole f p around b s state → Computes m input whole (answer state.choices) state b.sections step
      → Does m input whole f p 0 units state (HasGiven m input whole f p around false ty b state) none_waits (shader_drawing answer s units) (lift step b)
  computed_given ty answer step grows typed b s units state good computes =
      does_lift m input whole f p around units b s state (λ id ids. Stands ids id (answer state.choices).0) (drawing state (answer state.choices).1) (HasGiven m input whole f p around false ty b state) none_waits (answer s.choices).0 (left_with s (answer s.choices).1) step good computes
      (λ id later l inside extends. record {
        given = inr ((typed s.choices good.typed.choices).typed, subst (λ choices. Stands l.ids id (answer choices).0) good.holds.choices l.is);
        after = subst (λ choices. After m input whole f p around false b state (flow_of later b.place) (left_with s (answer choices).1) (record (leaving state (drawing state (answer state.choices).1) l.ids) { rest = coming m input whole f later })) good.holds.choices
            (after_drawn b s state l.ids (answer state.choices).1 later (typed state.choices (choices_are b s state good)).left good inside l.ready l.keeps l.reached);
      })
