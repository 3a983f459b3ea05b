-- Zeros as they are lowered.
use Rattle.std.proofs.Common.{◌≡◌, refl, sym, ap, ◌∙◌, subst, inr, ℕ, Bool, true, false, List, length, replicate, Option, Some, None, if◌then◌else◌}
use Rattle.std.specs.Prelude.{nat_le, ◌==◌, nat_eq}
use Rattle.gsl_base.specs.declared.input.Input.{Input}
use Rattle.gsl_types.specs.Known.{IsSound}
use Rattle.gsl_types.specs.Structs.{numbered}
use Rattle.gsl_types.specs.declared.ty.Scalar.{Scalar}
use Rattle.gsl_types.specs.declared.ty.StructType.{StructType}
use Rattle.gsl_types.specs.declared.ty.Ty.{Ty}
use Rattle.gsl_types.specs.declared.ty.Ty.TheVariants as ty
use Rattle.gsl_types.proofs.Layers.{over_one, over_vector}
use Rattle.gsl_words.specs.declared.module.Module.{Module}
use Rattle.gsl_values.specs.declared.value.Value.{Value}
use Rattle.gsl_values.specs.declared.value.Value.TheVariants.{Word, Many}
use Rattle.gsl_tree.specs.Around.{Around}
use Rattle.gsl_tree.specs.Shapes.{Shape, of_shape, shape_of}
use Rattle.gsl_tree.specs.Values.{is_value_of, zero_meaning, zero_value}
use Rattle.gsl_tree.specs.declared.program.Program.{Program}
use Rattle.gsl_typed_law.proofs.Components.{shape_again}
use Rattle.gsl_meaning.specs.Running.{Got, given as shader_given}
use Rattle.gsl_meaning.specs.State as shader
use Rattle.gsl_machine.specs.Constants.{zeros as module_zeros}
use Rattle.gsl_machine.specs.State.{Ids, State}
use Rattle.gsl_spv.specs.Calls as call
use Rattle.gsl_spv.specs.Declarations as d
use Rattle.gsl_spv.specs.Sections.{Sections}
use Rattle.gsl_spv.specs.declared.plain.PlainConst.TheVariants as of
use Rattle.gsl_spv.specs.declared.plain.PlainType.TheVariants as plain
use Rattle.gsl_spv.specs.declared.refusal.TheConstants.{MOST_IDS}
use Rattle.gsl_spv.proofs.Answering.{constant_once, plain_once}
use Rattle.gsl_spv.proofs.Extending.{extends_same}
use Rattle.gsl_lower_values.specs.Building.{Full, Made, given as made_given, id_by}
use Rattle.gsl_lower_values.specs.Types.{plain_scalar, scalar_type, type_of, vector_type}
use Rattle.gsl_lower_law.specs.Computing as law
use Rattle.gsl_lower_law.specs.Computing.{Grows, drawing, leaving}
use Rattle.gsl_lower_law.specs.Values.{Stands}
use Rattle.gsl_lower_law.proofs.Adding.{extends_intern}
use Rattle.gsl_lower_law.proofs.Joining.{does_then as step_then, given_does}
use Rattle.gsl_lower_law.proofs.Plain.{intern_does}
use Rattle.gsl_lower_holders.specs.declared.place.FlowPlace.{FlowPlace}
use Rattle.gsl_lower_holders.specs.Flow.{Flow, find_type, flow_of, id_at, lift, type_by, type_id}
use Rattle.gsl_lower_expr.specs.Calls.{zeros}
use Rattle.gsl_lower_follows.specs.Frames.{Frame, Good, Local, coming}
use Rattle.gsl_lower_follows.specs.Giving.{Adds, After, Does, GivesValue, HasGiven, none_waits}
use Rattle.gsl_lower_follows.proofs.Behind.{reaches_here}
use Rattle.gsl_lower_follows.proofs.Doing.{does_lift, does_then}
use Rattle.gsl_lower_follows.proofs.Drawn.{after_drawn, choices_are, left_with}
use Rattle.gsl_lower_follows.proofs.Fetching.{adds_type_id}
use Rattle.gsl_lower_follows.proofs.Growing.{adds_lift, adds_then}
use Rattle.gsl_lower_follows.proofs.Holding.{after_same, after_then, does_so}
use Rattle.gsl_lower_law_stmt.specs.OfLawNames.{IsNamed}
use Rattle.gsl_lower_law_stmt.specs.Doing.{DoesStatement, declared, declared_means}
use Rattle.gsl_lower_law_stmt.proofs.Declared.{declared_does}
use Rattle.gsl_lower_law_zeros.specs.Nulls.{KnowsZeros, Nulls}

-- the zeros of a scalar or vector
abbrev pub zero_of : Shape → Value
zero_of shape = if shape.1 == 1 then Word 0 else Many (replicate shape.1 (Word 0))

shape_zero : (structs : List StructType) (shape : Shape) → zero_value structs (of_shape shape) ≡ zero_of shape
shape_zero structs shape = by (nat_eq shape.1 1)
  where
    by : (b : Bool) → zero_value structs (if b then ty.One shape.0 else ty.Vector shape.0 shape.1) ≡ (if b then Word 0 else Many (replicate shape.1 (Word 0)))
    by true = over_one zero_meaning (numbered zero_meaning structs) shape.0
    by false = over_vector zero_meaning (numbered zero_meaning structs) shape.0 shape.1

pub zero_is : (structs : List StructType) (t : Ty) (shape : Shape) → IsSound (length structs) t → shape_of t ≡ Some shape → zero_value structs t ≡ zero_of shape
zero_is structs t shape sound is = ap (zero_value structs) (sym (shape_again (length structs) t shape sound is)) ∙ shape_zero structs shape

adds_zeros : (m : Module) (input : Input) (whole : Sections) (t : Ty) → Adds (zeros t)
unfolding zeros
adds_zeros m input whole t = adds_then (type_id t) (λ type. lift (id_by (call.constant (of.Null type)))) (adds_type_id m input whole t) (λ type. adds_lift (id_by (call.constant (of.Null type))) (λ b. by type b (nat_le (call.constant (of.Null type) b.sections).sections.last MOST_IDS)))
  where
    by : (type : ℕ) (b : Flow) (test : Bool) → Grows b.sections (if test then Made (call.constant (of.Null type) b.sections).id (call.constant (of.Null type) b.sections).sections else Full)
    by type b true = extends_intern (d.null type) b.sections
    by type b false = tt

module _ (m : Module) (input : Input) (whole : Sections) (f : Frame m input whole) (p : Program) (around : Around) (nulls : Nulls m whole f.own) where
  -- ---- types of scalars and vectors

  abbrev ZeroIs : Value → ℕ → Ids → Type 0
  ZeroIs v type ids = module_zeros m type ≡ v

  scalar_does : (s : Scalar) (state : State) (before : Sections) → law.Does m input whole (ZeroIs (Word 0)) state.choices state before (scalar_type s)
  unfolding scalar_type
  scalar_does s state before = intern_does m input whole (ZeroIs (Word 0)) (d.plain_type (plain_scalar s)) state before (plain_once (plain_scalar s)) (λ id stands text lasting. nulls.scalar s id stands)

  shape_does : (shape : Shape) (state : State) (before : Sections) → law.Does m input whole (ZeroIs (zero_of shape)) state.choices state before (type_of shape)
  unfolding type_of
  shape_does shape state before =
      step_then m input whole (ZeroIs (Word 0)) (ZeroIs (zero_of shape)) state.choices state.choices state before (scalar_type shape.0) (λ component. if shape.1 == 1 then made_given component else vector_type shape.1 component) (scalar_does shape.0 state before)
      (λ component between. grows component between (shape.1 == 1))
      (λ component between ids is keeps. by component between (record state { ids = ids }) is (shape.1 == 1))
    where
      grows : (component : ℕ) (between : Sections) (b : Bool) → Grows between ((if b then made_given component else vector_type shape.1 component) between)
      grows component between true = extends_same between
      grows component between false = (intern_does m input whole (λ id ids. Unit {0}) (d.plain_type (plain.Vector component shape.1)) state between (plain_once (plain.Vector component shape.1)) (λ id stands text lasting. tt)).grows

      by : (component : ℕ) (between : Sections) (state : State) → module_zeros m component ≡ Word 0 → (b : Bool)
          → law.Does m input whole (ZeroIs (if b then Word 0 else Many (replicate shape.1 (Word 0)))) state.choices state between (if b then made_given component else vector_type shape.1 component)
      by component between state is true = given_does m input whole (ZeroIs (Word 0)) component state between is
      by component between state is false =
          intern_does m input whole (ZeroIs (Many (replicate shape.1 (Word 0)))) (d.plain_type (plain.Vector component shape.1)) state between (plain_once (plain.Vector component shape.1))
          (λ id stands text lasting. nulls.vector component shape.1 id stands ∙ ap (λ v. Many (replicate shape.1 v)) is)

  -- ---- a type, whatever it is

  -- nothing has changed, and the zeros of a type are those of a type of the program
  abbrev IsTyped : Ty → Flow → State → ℕ → Flow → Unit {0} → shader.State → State → Type 0
  IsTyped t b state type later r u last = After m input whole f p around false b state later u last × (module_zeros m type ≡ zero_value p.structs t)

  type_does_zero : (t : Ty) → IsSound (length p.structs) t → (units : ℕ) (b : Flow) (s : shader.State) (state : State) → Good m input whole f p around b s state → (shape_of t ≡ None → KnowsZeros m p.structs t f.place)
      → Does m input whole f p 0 units state (IsTyped t b state) none_waits (Got tt s units) (type_id t b)
  unfolding type_id
  type_does_zero t sound units b s state good knows = by (shape_of t) refl
    where
      found : (o : Option ℕ) → find_type t b.place.composites ≡ o → KnowsZeros m p.structs t b.place → Does m input whole f p 0 units state (IsTyped t b state) none_waits (Got tt s units) (id_at o b)
      found None e known = tt
      found (Some id) e known = λ inside. reaches_here m input units state (IsTyped t b state id b tt s) (after_same m input whole f p around b s state good, known id e)

      by : (o : Option Shape) → shape_of t ≡ o → Does m input whole f p 0 units state (IsTyped t b state) none_waits (Got tt s units) (type_by t o b)
      by None e = found (find_type t b.place.composites) refl (λ id there. knows e id (sym (ap (λ (place : FlowPlace). find_type t place.composites) good.seated.same) ∙ there))
      by (Some shape) e =
          does_lift m input whole f p around units b s state (ZeroIs (zero_of shape)) (drawing state state.choices) (IsTyped t b state) none_waits tt s (type_of shape) good (shape_does shape state b.sections)
          (λ type later l inside extends. (
            subst (λ u. After m input whole f p around false b state (flow_of later b.place) u (record (leaving state (drawing state state.choices) l.ids) { rest = coming m input whole f later })) (ap (left_with s) good.holds.choices)
                (after_drawn m input whole f p around b s state l.ids state.choices later (choices_are m input whole f p around b s state good) good inside l.ready l.keeps l.reached),
            l.is ∙ sym (zero_is p.structs t shape sound e),
          ))

  -- ---- zeros

  null_does : (type : ℕ) (v : Value) (t : Ty) → module_zeros m type ≡ v → is_value_of p.structs t v ≡ true → (units : ℕ) (b : Flow) (s : shader.State) (state : State) → Good m input whole f p around b s state
      → Does m input whole f p 0 units state (HasGiven m input whole f p around false t b state) none_waits (Got v s units) (lift (id_by (call.constant (of.Null type))) b)
  null_does type v t is typed units b s state good =
      does_lift m input whole f p around units b s state (λ id ids. Stands ids id v) (drawing state state.choices) (HasGiven m input whole f p around false t b state) none_waits v s (id_by (call.constant (of.Null type))) good
      (intern_does m input whole (λ id ids. Stands ids id v) (d.null type) state b.sections (constant_once (of.Null type) 0)
      (λ id stands text lasting. lasting.same id _ (subst (λ own. Stands own id v) (sym good.own) (subst (Stands f.own id) is (nulls.null type id stands)))))
      (λ id later l inside extends. record {
        given = inr (typed, l.is);
        after = subst (λ u. After m input whole f p around false b state (flow_of later b.place) u (record (leaving state (drawing state state.choices) l.ids) { rest = coming m input whole f later })) (ap (left_with s) good.holds.choices)
            (after_drawn m input whole f p around b s state l.ids state.choices later (choices_are m input whole f p around b s state good) good inside l.ready l.keeps l.reached);
      })

  zeros_do : (t : Ty) → IsSound (length p.structs) t → is_value_of p.structs t (zero_value p.structs t) ≡ true → (b : Flow) (s : shader.State) (units : ℕ) (state : State) → Good m input whole f p around b s state → (shape_of t ≡ None → KnowsZeros m p.structs t f.place)
      → Does m input whole f p 0 units state (HasGiven m input whole f p around false t b state) none_waits (Got (zero_value p.structs t) s units) (zeros t b)
  unfolding zeros
  zeros_do t sound typed b s units state good knows =
      does_then m input whole f p 0 units b state (IsTyped t b state) none_waits (HasGiven m input whole f p around false t b state) none_waits (Got tt s units) (λ (r : Unit {0}). shader_given (zero_value p.structs t)) (type_id t b) (λ type. lift (id_by (call.constant (of.Null type)))) good.inside
      (adds_type_id m input whole t b) (λ type. adds_lift (id_by (call.constant (of.Null type))) (λ b. grows type b (nat_le (call.constant (of.Null type) b.sections).sections.last MOST_IDS)))
      (type_does_zero t sound units b s state good knows)
      (λ type between r u left mid inside grown is less.
      does_so m input whole f p around 0 left mid (HasGiven m input whole f p around false t between mid) (HasGiven m input whole f p around false t b state) (Got (zero_value p.structs t) u left) (lift (id_by (call.constant (of.Null type))) between)
      (λ id later v w last g. record { given = g.given; after = after_then m input whole f p around false false b between later state mid last u w grown is.0 g.after })
      (null_does type (zero_value p.structs t) t is.1 typed left between u mid is.0.good))
      (λ type between u left mid inside grown none less. absurd none)
    where
      grows : (type : ℕ) (b : Flow) (test : Bool) → Grows b.sections (if test then Made (call.constant (of.Null type) b.sections).id (call.constant (of.Null type) b.sections).sections else Full)
      grows type b true = extends_intern (d.null type) b.sections
      grows type b false = tt

pub zeros_given : (m : Module) (input : Input) (sections : Sections) (f : Frame m input sections) (p : Program) (around : Around) (t : Ty) → Nulls m sections f.own → (shape_of t ≡ None → KnowsZeros m p.structs t f.place) → IsSound (length p.structs) t
    → is_value_of p.structs t (zero_value p.structs t) ≡ true → GivesValue m input sections f p around false t (zeros t) (shader_given (zero_value p.structs t))
zeros_given m input sections f p around t nulls knows sound typed = record {
  adds = adds_zeros m input sections t;
  does = λ b s units state good. zeros_do m input sections f p around nulls t sound typed b s units state good knows;
}

pub zeros_declared : (m : Module) (input : Input) (sections : Sections) (f : Frame m input sections) (p : Program) (around : Around) (number : ℕ) (t : Ty) → Nulls m sections f.own → (shape_of t ≡ None → KnowsZeros m p.structs t f.place) → IsNamed p around (Local number) t
    → is_value_of p.structs t (zero_value p.structs t) ≡ true → DoesStatement m input sections f p around false (declared number (zeros t)) (declared_means number (shader_given (zero_value p.structs t)))
zeros_declared m input sections f p around number t nulls knows named typed =
    declared_does m input sections f p around number t named false (zeros t) (shader_given (zero_value p.structs t)) (zeros_given m input sections f p around t nulls knows named.sound typed)
