-- Variables that are read whole.
use Rattle.std.proofs.Common.{◌≡◌, refl, sym, ap, ap₂, ◌∙◌, subst, inr, ℕ, Bool, true, false, List, [], ◌∷◌, length, map, Option, Some, None, if◌then◌else◌}
use Rattle.std.specs.Prelude.{slice_get}
use Rattle.gsl_base.specs.declared.input.Input.{Input}
use Rattle.gsl_instr.specs.declared.op.TheConstants as op
use Rattle.gsl_types.specs.Known.{AreStructs, IsSound}
use Rattle.gsl_types.specs.declared.ty.StructType.{StructType}
use Rattle.gsl_types.specs.declared.ty.Ty.{Ty}
use Rattle.gsl_words.specs.declared.module.Module.{Module}
use Rattle.gsl_values.specs.declared.value.Value.{Value}
use Rattle.gsl_tree.specs.Around.{Around}
use Rattle.gsl_tree.specs.Operations.{value_at}
use Rattle.gsl_tree.specs.Operations as operation
use Rattle.gsl_tree.specs.Shapes.{Shape, shape_of}
use Rattle.gsl_tree.specs.Values.{is_value_of, of_components}
use Rattle.gsl_tree.specs.declared.program.Program.{Program}
use Rattle.gsl_meaning.specs.Running.{Got}
use Rattle.gsl_meaning.specs.State as shader
use Rattle.gsl_machine.specs.State.{InVariable, Points, State, on}
use Rattle.gsl_spv.specs.Sections.{Sections}
use Rattle.gsl_lower_values.specs.Building.{giving, ◌>>=◌}
use Rattle.gsl_lower_values.specs.Constructors.{operand}
use Rattle.gsl_lower_values.specs.Operators.{converted}
use Rattle.gsl_lower_values.specs.Types.{type_of}
use Rattle.gsl_lower_places.specs.declared.reached.Base.TheVariants.{Variable}
use Rattle.gsl_lower_places.specs.Reached.{is_block_class, stored_scalar, stored_shape, whole}
use Rattle.gsl_lower_places.specs.Reading.{loaded, pointer, read}
use Rattle.gsl_lower_law.specs.Computing.{Computes, drawing, leaving}
use Rattle.gsl_lower_law.specs.Operands.{converted_value}
use Rattle.gsl_lower_law.specs.Values.{AreWords, IsOf, Stands}
use Rattle.gsl_lower_law.proofs.Giving.{giving_does}
use Rattle.gsl_lower_follows.proofs.OfLawConstructors.{words_in}
use Rattle.gsl_lower_follows.specs.OfLawPlaces.{HoldsValue}
use Rattle.gsl_lower_follows.proofs.OfLawPlaces.{pointer_grows}
use Rattle.gsl_lower_follows.proofs.OfLawPlaces.{loaded_computes, loads}
use Rattle.gsl_lower_holders.specs.Flow as flow
use Rattle.gsl_lower_holders.specs.Flow.{Flow, flow_of, giving_here, lift, type_id}
use Rattle.gsl_lower_law_expr.specs.OfExpr.{read_block, read_by, read_own, reads}
use Rattle.gsl_lower_follows.specs.Frames.{Frame, Good, Name, coming, value_of}
use Rattle.gsl_lower_follows.specs.Giving.{Adds, After, Does, HasGiven, none_waits}
use Rattle.gsl_lower_follows.proofs.Doing.{does_lift, does_then}
use Rattle.gsl_lower_follows.proofs.Drawn.{after_drawn, choices_are, computed_given, left_with}
use Rattle.gsl_lower_follows.proofs.Fetching.{adds_giving, adds_type_id, no_state}
use Rattle.gsl_lower_follows.proofs.Growing.{adds_lift, adds_then}
use Rattle.gsl_lower_follows.proofs.Holding.{Unchanged, after_then, does_so, does_type_id}
use Rattle.gsl_lower_law_expr.proofs.Constant.{word_same}
use Rattle.gsl_lower_law_expr.proofs.Shapes.{value_shape}
use Rattle.gsl_lower_law_expr.proofs.Short.{does_change}
use Rattle.gsl_lower_law_expr.proofs.Steps.{Always, always_converted, always_giving, always_then, always_type}

-- ---- values as they lie outside blocks

words_as_they_are : (shape : Shape) (words : List ℕ) → AreWords shape.0 words → map (operation.converted shape.0) words ≡ words
words_as_they_are shape [] all = refl
words_as_they_are shape (word ∷ words) all = ap₂ (λ a b. a ∷ b) (word_same shape.0 word all.0) (words_as_they_are shape words all.1)

pub value_as_it_is : (shape : Shape) (v : Value) → IsOf shape v → converted_value shape.0 v ≡ v
value_as_it_is shape v of = ap (λ l. of_components (map (operation.converted shape.0) l)) (words_in v of) ∙ ap of_components (words_as_they_are shape of.words of.fits) ∙ sym of.is

pub outside_blocks : (class : ℕ) (shape : Shape) → is_block_class class ≡ false → stored_shape class shape ≡ shape
outside_blocks class shape is = by (is_block_class class) is
  where
    by : (block : Bool) → block ≡ false → (if block then (stored_scalar shape.0, shape.1) else shape) ≡ shape
    by true e = absurd cc
    by false e = refl

module _ (m : Module) (input : Input) (whole_sections : Sections) where
  always_loaded : (id class : ℕ) (shape : Shape) → Always (loaded id class shape [])
  unfolding loaded
  always_loaded id class shape =
      always_then m input whole_sections (type_of (stored_shape class shape)) (λ type. pointer id class type [] >>= (λ from. giving op.LOAD (from ∷ []) type >>= (λ v. converted shape.0 (operand (stored_shape class shape) v)))) (always_type m input whole_sections (stored_shape class shape))
      (λ type. always_then m input whole_sections (pointer id class type []) (λ from. giving op.LOAD (from ∷ []) type >>= (λ v. converted shape.0 (operand (stored_shape class shape) v))) (λ before. pointer_grows m input whole_sections id class type [] no_state before)
      (λ from. always_then m input whole_sections (giving op.LOAD (from ∷ []) type) (λ v. converted shape.0 (operand (stored_shape class shape) v)) (always_giving m input whole_sections op.LOAD (from ∷ []) type) (λ v. always_converted m input whole_sections shape.0 (operand (stored_shape class shape) v))))

  always_read : (id class : ℕ) (shape : Shape) → Always (read shape (whole (Variable id class)))
  unfolding read
  always_read id class shape = always_loaded id class shape

  adds_own : (t : Ty) (id class : ℕ) → Adds (read_own t id class [])
  adds_own t id class =
      adds_then (type_id t) (λ type. flow.◌>>=◌ (lift (pointer id class type [])) (λ from. giving_here op.LOAD (from ∷ []) type)) (adds_type_id m input whole_sections t)
      (λ type. adds_then (lift (pointer id class type [])) (λ from. giving_here op.LOAD (from ∷ []) type) (adds_lift (pointer id class type []) (λ b. pointer_grows m input whole_sections id class type [] no_state b.sections)) (λ from. adds_giving m input whole_sections op.LOAD (from ∷ []) type))

  pub adds_reads : (structs : List StructType) (t : Ty) (id class : ℕ) → is_block_class class ≡ false → Adds (reads structs t (whole (Variable id class)))
  unfolding reads
  adds_reads structs t id class outside = by (shape_of t)
    where
      own : (block : Bool) → block ≡ false → Adds (if block then read_block structs t id class [] else read_own t id class [])
      own true e = absurd cc
      own false e = adds_own t id class

      by : (o : Option Shape) → Adds (read_by structs t (whole (Variable id class)) o)
      by None = own (is_block_class class) outside
      by (Some shape) = adds_lift (read shape (whole (Variable id class))) (λ b. always_read id class shape b.sections)

  module _ (f : Frame m input whole_sections) (p : Program) (around : Around) where
    holds_value : (number : ℕ) (v : Value) (state : State) → slice_get state.variables number ≡ Some v → HoldsValue m input state (InVariable number []) v
    holds_value number v state there go = ap (λ o. on o (λ x. go (value_at x []))) there

    -- a variable is loaded
    does_load : (id number type : ℕ) (v : Value) (units : ℕ) (b : Flow) (s : shader.State) (state : State) → Good m input whole_sections f p around b s state → f.own id ≡ Some (Points (InVariable number [])) → slice_get state.variables number ≡ Some v → (t : Ty) → is_value_of p.structs t v ≡ true
        → Does m input whole_sections f p 0 units state (HasGiven m input whole_sections f p around false t b state) none_waits (Got v s units) (giving_here op.LOAD (id ∷ []) type b)
    does_load id number type v units b s state good points there t typed =
        does_lift m input whole_sections f p around units b s state (λ given ids. Stands ids given v) (drawing state state.choices) (HasGiven m input whole_sections f p around false t b state) none_waits v s (giving op.LOAD (id ∷ []) type) good
        (giving_does m input whole_sections op.LOAD (id ∷ []) type state v state.choices b.sections (λ text. loads m input type id (InVariable number []) v state (good.ready.lasting.same id _ points) (holds_value number v state there)))
        (λ given later l inside extends. record {
          given = inr (typed, l.is);
          after = subst (λ t. After m input whole_sections f p around false b state (flow_of later b.place) t (record (leaving state (drawing state state.choices) l.ids) { rest = coming m input whole_sections f later })) (ap (left_with s) good.holds.choices)
              (after_drawn m input whole_sections f p around b s state l.ids state.choices later (choices_are m input whole_sections f p around b s state good) good inside l.ready l.keeps l.reached);
        })

    some_same : {a b : ℕ} → Some a ≡ Some b → a ≡ b
    some_same e = cc

    -- what a variable of a name has
    pub variable_there : (name : Name) (number : ℕ) (v : Value) (b : Flow) (s : shader.State) (state : State) → Good m input whole_sections f p around b s state → f.seat name ≡ Some number → value_of f.stages s name ≡ Some v → slice_get state.variables number ≡ Some v
    variable_there name number v b s state good seat is =
        let there = good.holds.values name v is in
        subst (λ n. slice_get state.variables n ≡ Some v) (some_same (sym there.1 ∙ seat)) there.2

    -- nothing has changed, the shader's state too
    abbrev Still : Flow → State → shader.State → ℕ → Flow → Unit {0} → shader.State → State → Type 0
    Still b state s type later r t last = After m input whole_sections f p around false b state later t last × (t ≡ s)

    -- the variable is loaded by the id of its type
    own_reads : (id class number : ℕ) (name : Name) (t : Ty) (v : Value) (units : ℕ) (b : Flow) (s : shader.State) (state : State) → Good m input whole_sections f p around b s state → f.own id ≡ Some (Points (InVariable number [])) → f.seat name ≡ Some number → value_of f.stages s name ≡ Some v
        → is_value_of p.structs t v ≡ true → Does m input whole_sections f p 0 units state (HasGiven m input whole_sections f p around false t b state) none_waits (Got v s units) (read_own t id class [] b)
    unfolding pointer
    own_reads id class number name t v units b s state good points seat is typed =
        does_then m input whole_sections f p 0 units b state (Still b state s) none_waits (HasGiven m input whole_sections f p around false t b state) none_waits (Got tt s units) (λ r u left. Got v u left) (type_id t b) (λ type. flow.◌>>=◌ (lift (pointer id class type [])) (λ from. giving_here op.LOAD (from ∷ []) type)) good.inside
        (adds_type_id m input whole_sections t b) (λ type. adds_then (lift (pointer id class type [])) (λ from. giving_here op.LOAD (from ∷ []) type) (adds_lift (pointer id class type []) (λ b. pointer_grows m input whole_sections id class type [] no_state b.sections)) (λ from. adds_giving m input whole_sections op.LOAD (from ∷ []) type))
        (does_change m input whole_sections f p around units units state (Unchanged m input whole_sections f p around b state) (Still b state s) tt tt s (type_id t b) (λ type later last x. (x, refl)) (does_type_id m input whole_sections f p around t units b s state good))
        (λ type between r u left mid inside grown x less.
        does_so m input whole_sections f p around 0 left mid (HasGiven m input whole_sections f p around false t between mid) (HasGiven m input whole_sections f p around false t b state) (Got v u left) (giving_here op.LOAD (id ∷ []) type between)
        (λ got later w z last h. record { given = h.given; after = after_then m input whole_sections f p around false false b between later state mid last u z grown x.0 h.after })
        (does_load id number type v left between u mid x.0.good points (variable_there name number v between u mid x.0.good seat (ap (λ u. value_of f.stages u name) x.1 ∙ is)) t typed))
        (λ type between u left mid inside grown none less. absurd none)

    -- a variable outside blocks is read whole
    pub does_reads : (id class number : ℕ) (name : Name) (t : Ty) (v : Value) (units : ℕ) (b : Flow) (s : shader.State) (state : State) → is_block_class class ≡ false → AreStructs p.structs → IsSound (length p.structs) t → Good m input whole_sections f p around b s state
        → f.own id ≡ Some (Points (InVariable number [])) → f.seat name ≡ Some number → value_of f.stages s name ≡ Some v → is_value_of p.structs t v ≡ true
        → Does m input whole_sections f p 0 units state (HasGiven m input whole_sections f p around false t b state) none_waits (Got v s units) (reads p.structs t (whole (Variable id class)) b)
    unfolding reads read
    does_reads id class number name t v units b s state outside are sound good points seat is typed = by (shape_of t) refl
      where
        shaped : (shape : Shape) → shape_of t ≡ Some shape → Does m input whole_sections f p 0 units state (HasGiven m input whole_sections f p around false t b state) none_waits (Got v s units) (lift (loaded id class shape []) b)
        shaped shape has =
            let of = (value_shape p.structs t shape v are sound has typed).1 in
            computed_given m input whole_sections f p around t (λ choices. (v, choices)) (loaded id class shape []) (λ b. always_loaded id class shape b.sections) (λ choices are. record { typed = typed; left = are }) b s units state good
            (subst (λ value. Computes m input whole_sections (value, state.choices) state b.sections (loaded id class shape [])) (value_as_it_is shape v of)
            (loaded_computes m input whole_sections id class shape [] [] (InVariable number []) (InVariable number []) v state b.sections (good.ready.lasting.same id _ points) tt (λ place go. refl) (holds_value number v state (variable_there name number v b s state good seat is))
            (subst (λ lying. IsOf lying v) (sym (outside_blocks class shape outside)) of)))

        own : (block : Bool) → block ≡ false → Does m input whole_sections f p 0 units state (HasGiven m input whole_sections f p around false t b state) none_waits (Got v s units) ((if block then read_block p.structs t id class [] else read_own t id class []) b)
        own true e = absurd cc
        own false e = own_reads id class number name t v units b s state good points seat is typed

        by : (o : Option Shape) → shape_of t ≡ o → Does m input whole_sections f p 0 units state (HasGiven m input whole_sections f p around false t b state) none_waits (Got v s units) (read_by p.structs t (whole (Variable id class)) o b)
        by (Some shape) has = shaped shape has
        by None has = own (is_block_class class) outside
