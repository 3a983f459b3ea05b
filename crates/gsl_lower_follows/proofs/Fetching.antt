-- What is held, fetched again; and that holding and fetching only add.
use Rattle.std.proofs.Common.{refl, ℕ, ◌+◌, Bool, true, false, List, [], ◌∷◌, Option, Some, None, arith}
use Rattle.gsl_base.specs.declared.input.Input.{Input}
use Rattle.gsl_instr.specs.declared.op.TheConstants as op
use Rattle.gsl_types.specs.declared.ty.Ty.{Ty}
use Rattle.gsl_words.specs.declared.module.Module.{Module}
use Rattle.gsl_values.specs.declared.value.Value.{Value}
use Rattle.gsl_tree.specs.Around.{Around}
use Rattle.gsl_tree.specs.Shapes.{Shape, shape_of}
use Rattle.gsl_tree.specs.declared.program.Program.{Program}
use Rattle.gsl_meaning.specs.Running.{Got}
use Rattle.gsl_meaning.specs.State as shader
use Rattle.gsl_machine.specs.State.{State}
use Rattle.gsl_spv.specs.Sections.{Sections}
use Rattle.gsl_spv.proofs.Extending.{extends_same, extends_take}
use Rattle.gsl_lower_values.specs.Building.{giving, Made, Full, id_by}
use Rattle.gsl_spv.specs.Calls.{take}
use Rattle.gsl_spv.specs.declared.refusal.TheConstants.{MOST_IDS}
use Rattle.std.specs.Prelude.{nat_le, if◌then◌else◌, slice_get}
use Rattle.gsl_lower_values.specs.Types.{type_of}
use Rattle.gsl_lower_law.specs.Computing.{Grows}
use Rattle.gsl_lower_law.specs.Values.{Stands}
use Rattle.gsl_lower_law.proofs.Adding.{extends_put}
use Rattle.gsl_lower_law.proofs.Giving.{giving_grows}
use Rattle.gsl_lower_law.proofs.Plain.{type_does}
use Rattle.gsl_lower_holders.specs.Flow.{Flow, Lowered, find_type, fresh, given, giving_here, id_at, opening, putting_here, type_by, type_id, ◌>>=◌}
use Rattle.gsl_lower_holders.specs.Waiting.{fetch, hold, holder, holder_at, keep, take_back}
use Rattle.gsl_lower_follows.specs.Frames.{Frame, Good, HeldAs, Waits}
use Rattle.gsl_lower_follows.specs.Giving.{Adds, After, Does, Grown, GrownTo, none_waits}
use Rattle.gsl_lower_follows.proofs.Behind.{reaches_here}
use Rattle.gsl_lower_follows.proofs.Doing.{does_then}
use Rattle.gsl_lower_follows.proofs.Growing.{adds_given, adds_lift, adds_then}
use Rattle.gsl_lower_follows.proofs.Holding.{Unchanged, after_same, after_then, does_so, does_take_back, does_type_id, waits_after}

-- a state in which nothing stands for anything
abbrev pub no_state : State
no_state = record { rest = []; body = []; ids = λ id. None; own = λ id. None; variables = []; buffers = []; choices = []; waiting = [] }

-- ---- what only adds

pub adds_put : (code : ℕ) (operands : List ℕ) → Adds (putting_here code operands)
adds_put code operands b = record { extends = extends_put code operands b.sections; used = omega arith; place = refl }

pub adds_holder : Adds holder
unfolding holder
adds_holder b = by (slice_get b.place.holders b.place.used)
  where
    by : (o : Option ℕ) → GrownTo b (holder_at o b)
    by None = tt
    by (Some h) = record { extends = extends_same b.sections; used = omega arith; place = refl }

pub adds_keep : (value : ℕ) → Adds (keep value)
unfolding keep
adds_keep value = adds_then holder (λ h. putting_here op.STORE (h ∷ value ∷ []) >>= (λ done. given h)) adds_holder (λ h. adds_then (putting_here op.STORE (h ∷ value ∷ [])) (λ done. given h) (adds_put op.STORE (h ∷ value ∷ [])) (λ done. adds_given h))

pub adds_hold : (waits : Bool) (value : ℕ) → Adds (hold waits value)
unfolding hold
adds_hold false value = adds_given value
adds_hold true value = adds_keep value

pub adds_fresh : Adds fresh
adds_fresh = adds_lift (id_by take) (λ b. by b (nat_le (b.sections.last + 1) MOST_IDS))
  where
    by : (b : Flow) (test : Bool) → Grows b.sections (if test then Made (b.sections.last + 1) (take b.sections).sections else Full)
    by b true = extends_take b.sections
    by b false = tt

pub adds_opening : (label : ℕ) → Adds (opening label)
unfolding opening
adds_opening label b = record { extends = extends_put op.LABEL (label ∷ []) b.sections; used = omega arith; place = refl }

module _ (m : Module) (input : Input) (whole : Sections) where
  pub adds_giving : (code : ℕ) (operands : List ℕ) (type : ℕ) → Adds (giving_here code operands type)
  adds_giving code operands type = adds_lift (giving code operands type) (λ b. giving_grows m input whole code operands type b.sections)

  pub adds_type_id : (ty : Ty) → Adds (type_id ty)
  unfolding type_id
  adds_type_id ty = by (shape_of ty)
    where
      found : (o : Option ℕ) → Adds (id_at o)
      found None = λ b. tt
      found (Some id) = adds_given id

      by : (o : Option Shape) → Adds (type_by ty o)
      by None = λ b. found (find_type ty b.place.composites) b
      by (Some shape) = adds_lift (type_of shape) (λ b. (type_does m input whole shape no_state b.sections).grows)

  pub adds_take_back : (h type : ℕ) → Adds (take_back h type)
  adds_take_back h type = adds_giving op.LOAD (h ∷ []) type

  pub adds_fetch : (waits : Bool) (ty : Ty) (kept : ℕ) → Adds (fetch waits ty kept)
  unfolding fetch
  adds_fetch false ty kept = adds_given kept
  adds_fetch true ty kept = adds_then (type_id ty) (take_back kept) (adds_type_id ty) (λ type. adds_take_back kept type)

  -- ---- what waited

  module _ (f : Frame m input whole) (p : Program) (around : Around) where
    -- an id stands for a value, and nothing else has changed
    abbrev pub Again : Value → Flow → State → ℕ → Flow → Unit {0} → shader.State → State → Type 0
    Again v b state id later r t last = After m input whole f p around false b state later t last × Stands last.ids id v

    pub does_waited : (h : ℕ) (ty : Ty) (v : Value) (units : ℕ) (b : Flow) (s : shader.State) (state : State) → Good m input whole f p around b s state → Waits m input whole f b.place.used h v state
        → Does m input whole f p 0 units state (Again v b state) none_waits (Got tt s units) ((type_id ty >>= take_back h) b)
    does_waited h ty v units b s state good waits =
        does_then m input whole f p 0 units b state (Unchanged m input whole f p around b state) none_waits (Again v b state) none_waits (Got tt s units) (λ r t left. Got tt t left) (type_id ty b) (take_back h) good.inside (adds_type_id ty b) (λ type. adds_take_back h type)
        (does_type_id m input whole f p around ty units b s state good)
        (λ type between r t left mid inside grown after less.
        does_so_again between t left mid (take_back h type between) (does_take_back m input whole f p around h type v left between t mid after.good (waits_after m input whole f p around false b between state mid t h v grown after waits)) grown after)
        (λ type between t left mid inside grown none less. absurd none)
      where
        does_so_again : (between : Flow) (t : shader.State) (left : ℕ) (mid : State) (low : Lowered ℕ) → Does m input whole f p 0 left mid (Again v between mid) none_waits (Got tt t left) low → Grown b between → After m input whole f p around false b state between t mid
            → Does m input whole f p 0 left mid (Again v b state) none_waits (Got tt t left) low
        does_so_again between t left mid low does grown after =
            does_so m input whole f p around 0 left mid (Again v between mid) (Again v b state) (Got tt t left) low
            (λ id later r u last is. (after_then m input whole f p around false false b between later state mid last t u grown after is.0, is.1)) does

    pub does_fetch : (waits : Bool) (ty : Ty) (kept : ℕ) (v : Value) (units : ℕ) (b : Flow) (s : shader.State) (state : State) → Good m input whole f p around b s state → HeldAs m input whole f waits kept v b state
        → Does m input whole f p 0 units state (Again v b state) none_waits (Got tt s units) (fetch waits ty kept b)
    unfolding fetch
    does_fetch false ty kept v units b s state good held = λ inside. reaches_here m input units state (Again v b state kept b tt s) (after_same m input whole f p around b s state good, held)
    does_fetch true ty kept v units b s state good held = does_waited kept ty v units b s state good held
