-- What it is for the body of a function, as it is lowered, to do what the body does up to the return (GLSL 4.50, 6.1 and 6.4).
use Rattle.std.specs.Prelude.{ℕ, Bool, true, false, [], ◌∷◌, None}
use Rattle.gsl_base.specs.declared.input.Input.{Input}
use Rattle.gsl_instr.specs.declared.op.TheConstants as op
use Rattle.gsl_types.specs.declared.ty.Ty.{Ty}
use Rattle.gsl_types.specs.declared.ty.Ty.TheOpen.{Ty-F}
use Rattle.gsl_types.specs.declared.ty.Ty.TheViews.{out-Ty}
use Rattle.gsl_words.specs.declared.module.Module.{Module}
use Rattle.gsl_tree.specs.Around.{Around}
use Rattle.gsl_tree.specs.Values.{zero_value}
use Rattle.gsl_tree.specs.declared.program.Program.{Program}
use Rattle.gsl_meaning.specs.Running.{Got, Run}
use Rattle.gsl_meaning.specs.Shader.{result_of}
use Rattle.gsl_meaning.specs.State as shader
use Rattle.gsl_meaning.specs.Statements as statement
use Rattle.gsl_machine.specs.State.{State}
use Rattle.gsl_spv.specs.Sections.{Sections}
use Rattle.gsl_lower_holders.specs.Flow.{Emit, Flow, given, putting_here, ◌>>=◌}
use Rattle.gsl_lower_expr.specs.Calls.{zeros}
use Rattle.gsl_lower_stmt.specs.declared.exits.Exits.{Exits}
use Rattle.gsl_lower_follows.specs.Frames.{Frame, Good}
use Rattle.gsl_lower_follows.specs.Giving.{Does, Grown, GrownTo, HasGiven, none_waits}
use Rattle.gsl_lower_law_entered.specs.OfLawStmt.{AtReturn}

-- ---- what is put behind the statements of a body

abbrev pub zeros_returned : Ty → Ty-F Ty → Emit (Unit {0})
zeros_returned t Ty-F.Void = putting_here op.RETURN []
zeros_returned t layer = zeros t >>= (λ zero. putting_here op.RETURN_VALUE (zero ∷ []))

-- where its end is reached a function gives zeros, unless its statements leave
unfoldable pub ending : Bool → Ty → Emit (Unit {0})
ending true t = given tt
ending false t = zeros_returned t (out-Ty t)

-- no jump leaves a body
abbrev pub no_exits : Exits
no_exits = record { break_to = None; continue_to = None }

-- the statements of a body with what is put behind them
abbrev pub bodied : (Exits → Emit (Unit {0})) → Bool → Ty → Emit (Unit {0})
bodied row leaves result = row no_exits >>= (λ done. ending leaves result)

-- ---- what it does

module _ (m : Module) (input : Input) (whole : Sections) (f : Frame m input whole) (p : Program) (around : Around) where
  -- Control is before the return of what a function gives whose body was left so.
  abbrev pub AtResult : statement.Flow → shader.State → State → Type 0
  AtResult flow s state = AtReturn m input whole f p around (result_of p.structs f.result flow) s state

  -- What is lowered behind what a builder holds does what a body does up to the return.
  pub record DoesBody (b : Flow) (emit : Emit (Unit {0})) (run : Run statement.Flow) : Type 0 where
    pub adds : GrownTo b (emit b)
    pub does : (s : shader.State) (units : ℕ) (state : State) → Good m input whole f p around b s state → Does m input whole f p 0 units state (λ (done : Unit {0}) later flow t last. AtResult flow t last) none_waits (run s units) (emit b)

  -- Behind what a builder holds and more zeros of a type are given.
  abbrev pub GivesZeros : Ty → Flow → Type 0
  GivesZeros t b = (later : Flow) → Grown b later → (s : shader.State) (units : ℕ) (state : State) → Good m input whole f p around later s state → Does m input whole f p 0 units state (HasGiven m input whole f p around false t later state) none_waits (Got (zero_value p.structs t) s units) (zeros t later)
