-- Types and constants: nothing is put for them.
use Rattle.std.proofs.Common.{◌≡◌, refl, sym, ◌∙◌, subst, ℕ, Bool, true, false, [], arith, if◌then◌else◌, append-nil}
use Rattle.std.specs.Prelude.{nat_le, ◌==◌}
use Rattle.std.specs.List.{Contains}
use Rattle.std.proofs.lemmas.List.Elements.{Contains-append_left}
use Rattle.gsl_base.specs.declared.input.Input.{Input}
use Rattle.gsl_types.specs.declared.ty.Scalar.{Scalar}
use Rattle.gsl_words.specs.declared.module.Module.{Module}
use Rattle.gsl_machine.specs.State.{Ids, State}
use Rattle.gsl_tree.specs.Shapes.{Shape}
use Rattle.gsl_spv.specs.Calls.{Out, intern}
use Rattle.gsl_spv.specs.Declarations as d
use Rattle.gsl_spv.specs.Declarations.{Declaration, defining}
use Rattle.gsl_spv.specs.Growing.{Extends}
use Rattle.gsl_spv.specs.Once.{IsOnce}
use Rattle.gsl_spv.specs.Sections.{Sections}
use Rattle.gsl_spv.specs.declared.plain.PlainType.TheVariants as plain
use Rattle.gsl_spv.specs.declared.refusal.TheConstants.{MOST_IDS}
use Rattle.gsl_spv.proofs.Defining.{interned_stands}
use Rattle.gsl_spv.proofs.Answering.{plain_once}
use Rattle.gsl_lower_values.specs.Building.{Made, Full, given, id_by}
use Rattle.gsl_lower_values.specs.Types.{plain_scalar, scalar_type, type_of, vector_type}
use Rattle.gsl_lower_law.specs.Values.{Keeps, Ready, Text}
use Rattle.gsl_lower_law.specs.Computing.{Grows, Comes, Does, drawing}
use Rattle.gsl_lower_law.proofs.Adding.{extends_intern, intern_functions}
use Rattle.gsl_lower_law.proofs.Joining.{does_then, given_does, keeps_same, leads_same}

module _ (m : Module) (input : Input) (whole : Sections) where
  -- a call that gives an id and puts nothing
  pub asking_does : (Is : ℕ → Ids → Type 0) (ask : Sections → Out) (state : State) (before : Sections) → Extends before (ask before).sections → (ask before).sections.functions ≡ before.functions
      → (Extends (ask before).sections whole → Text m whole state.own → Keeps state.own state.ids → Is (ask before).id state.ids) → Does m input whole Is state.choices state before (id_by ask)
  asking_does Is ask state before grows same is = record { grows = grows_by (nat_le (ask before).sections.last MOST_IDS); comes = λ text ready. by text ready (nat_le (ask before).sections.last MOST_IDS) }
    where
      grows_by : (b : Bool) → Grows before (if b then Made (ask before).id (ask before).sections else Full)
      grows_by true = grows
      grows_by false = tt

      by : Text m whole state.own → Ready before.last state.own state.ids → (b : Bool) → Comes m input whole Is (drawing state state.choices) state before (if b then Made (ask before).id (ask before).sections else Full)
      by text ready true = λ inside. record {
        code = [];
        puts = same ∙ sym (append-nil before.functions);
        ids = state.ids;
        leads = leads_same m input state;
        is = is inside text ready.lasting;
        keeps = keeps_same state.ids;
        ready = record { lasting = ready.lasting; later = λ id less. ready.later id (omega (arith, less, grows.last)) };
      }
      by text ready false = tt

  -- what is declared once, under its id
  pub intern_does : (Is : ℕ → Ids → Type 0) (d : Declaration) (state : State) (before : Sections) → IsOnce d
      → ((id : ℕ) → Contains whole.globals (defining d id) → Text m whole state.own → Keeps state.own state.ids → Is id state.ids) → Does m input whole Is state.choices state before (id_by (intern d))
  intern_does Is d state before once is = asking_does Is (intern d) state before (extends_intern d before) (intern_functions d before)
      (λ inside text lasting. is (intern d before).id
      (subst (λ l. Contains l (defining d (intern d before).id)) (sym inside.globals.is) (Contains-append_left (intern d before).sections.globals inside.globals.more _ (interned_stands d before once))) text lasting)

  -- nothing in particular
  abbrev pub Any : {A : Type 0} → A → Ids → Type 0
  Any a ids = Unit {0}

  -- a vector's type is one; of a scalar's nothing is said
  abbrev pub IsType : Shape → ℕ → Ids → Type 0
  IsType shape id ids = (component : ℕ) × ((shape.1 == 1) ≡ false → Contains whole.globals (defining (d.plain_type (plain.Vector component shape.1)) id))

  pub scalar_type_does : (s : Scalar) (state : State) (before : Sections) → Does m input whole Any state.choices state before (scalar_type s)
  unfolding scalar_type
  scalar_type_does s state before = intern_does Any (d.plain_type (plain_scalar s)) state before (plain_once (plain_scalar s)) (λ id stands text lasting. tt)

  pub type_does : (shape : Shape) (state : State) (before : Sections) → Does m input whole (IsType shape) state.choices state before (type_of shape)
  unfolding type_of
  type_does shape state before =
      does_then m input whole Any (IsType shape) state.choices state.choices state before (scalar_type shape.0) (λ component. if shape.1 == 1 then given component else vector_type shape.1 component) (scalar_type_does shape.0 state before)
      (λ component between. (by component between state (shape.1 == 1) refl).grows)
      (λ component between ids is keeps. by component between (record state { ids = ids }) (shape.1 == 1) refl)
    where
      by : (component : ℕ) (between : Sections) (state : State) (b : Bool) → (shape.1 == 1) ≡ b → Does m input whole (IsType shape) state.choices state between (if b then given component else vector_type shape.1 component)
      by component between state true e = given_does m input whole (IsType shape) component state between (component, λ f. absurd (let z : true ≡ false = sym e ∙ f in cc))
      by component between state false e =
          intern_does (IsType shape) (d.plain_type (plain.Vector component shape.1)) state between (plain_once (plain.Vector component shape.1)) (λ id stands text lasting. (component, λ f. stands))
