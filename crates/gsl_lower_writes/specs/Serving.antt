-- What it is for what an expression leads to, to serve what is read there and what is stored, in a variable and in a block alike (GLSL 4.50, 5.8).
use Rattle.std.specs.Prelude.{◌≡◌, ℕ, true, false}
use Rattle.gsl_base.specs.declared.input.Input.{Input}
use Rattle.gsl_types.specs.declared.ty.Ty.{Ty}
use Rattle.gsl_words.specs.declared.module.Module.{Module}
use Rattle.gsl_values.specs.declared.value.Value.{Value}
use Rattle.gsl_tree.specs.Around.{Around}
use Rattle.gsl_tree.specs.Values.{is_value_of}
use Rattle.gsl_tree.specs.declared.program.Program.{Program}
use Rattle.gsl_meaning.specs.Accesses.{Access, read as means_read, stored}
use Rattle.gsl_meaning.specs.Running.{Got}
use Rattle.gsl_meaning.specs.State as shader
use Rattle.gsl_machine.specs.State.{Ids, State}
use Rattle.gsl_spv.specs.Sections.{Sections}
use Rattle.gsl_lower_places.specs.declared.reached.Reached.{Reached}
use Rattle.gsl_lower_law.specs.Values.{Keeps, Stands}
use Rattle.gsl_lower_holders.specs.Flow.{Flow}
use Rattle.gsl_lower_expr.specs.Parts as parts
use Rattle.gsl_lower_follows.specs.Frames.{Frame, Good}
use Rattle.gsl_lower_follows.specs.Giving.{After, Does, HasGiven, none_waits}
use Rattle.gsl_lower_writes.specs.Written.{IsWritten}

module _ (m : Module) (input : Input) (sections : Sections) (f : Frame m input sections) (p : Program) (around : Around) (t : Ty) (a : Access) where
  -- Whenever ids still stand for the same, what was given reads what the access does, and what is stored there stands there for the shader too.
  pub record Serves (to : Reached) (ids : Ids) : Type 0 where
    pub reads : (b : Flow) (s : shader.State) (units : ℕ) (state : State) → Good m input sections f p around b s state → Keeps ids state.ids
        → Does m input sections f p 0 units state (HasGiven m input sections f p around false t b state) none_waits (Got (means_read p.structs t a s) s units) (parts.reads p.structs t to b)
    pub stores : (b : Flow) (s : shader.State) (units : ℕ) (state : State) (value : ℕ) (v : Value) → Good m input sections f p around b s state → Keeps ids state.ids → is_value_of p.structs t v ≡ true → Stands state.ids value v
        → Does m input sections f p 0 units state (IsWritten m input sections f p around b state) none_waits (Got tt (stored a v s) units) (parts.stores p.structs t to value b)

  -- From a flow on nothing has changed, and the place is served.
  pub record IsReady (b : Flow) (s : shader.State) (state : State) (to : Reached) (later : Flow) (one : Unit {0}) (u : shader.State) (last : State) : Type 0 where
    pub after : After m input sections f p around false b state later u last
    pub same : u ≡ s
    pub serves : Serves to last.ids
