-- What comes back to arguments, from left to right.
use Rattle.std.proofs.Common.{◌≡◌, refl, sym, subst, inr, ℕ, ◌+◌, Bool, true, false, List, [], ◌∷◌, map, Option, Some, None}
use Rattle.gsl_base.specs.declared.input.Input.{Input}
use Rattle.gsl_types.specs.Known.{AreStructs}
use Rattle.gsl_types.specs.declared.ty.Direction.{Direction}
use Rattle.gsl_types.specs.declared.ty.Ty.{Ty}
use Rattle.gsl_words.specs.declared.module.Module.{Module}
use Rattle.gsl_values.specs.declared.value.Value.{Value}
use Rattle.gsl_tree.specs.Around.{Around}
use Rattle.gsl_tree.specs.Shapes.{Shape, shape_of}
use Rattle.gsl_tree.specs.Values.{is_value_of}
use Rattle.gsl_tree.specs.declared.program.Program.{Program}
use Rattle.gsl_meaning.specs.Accesses.{Access, stored}
use Rattle.gsl_meaning.specs.Expressions as shader_expr
use Rattle.gsl_meaning.specs.Expressions.{Meant}
use Rattle.gsl_meaning.specs.Running.{Got}
use Rattle.gsl_meaning.specs.State as shader
use Rattle.gsl_machine.specs.State.{State}
use Rattle.gsl_spv.specs.Sections.{Sections}
use Rattle.gsl_lower_values.specs.Constructors.{operand}
use Rattle.gsl_lower_values.specs.Operators.{converted}
use Rattle.gsl_lower_places.specs.declared.reached.Reached.{Reached}
use Rattle.gsl_lower_law.specs.Computing.{Computes}
use Rattle.gsl_lower_law.specs.Values.{Stands}
use Rattle.gsl_lower_law_operators.proofs.Conversions.{converted_computes}
use Rattle.gsl_lower_holders.specs.Flow.{Emit, Flow, type_id, ◌>>=◌}
use Rattle.gsl_lower_holders.specs.Waiting.{fetch_reached, take_back}
use Rattle.gsl_lower_expr.specs.Calls.{all_back, as_argument, back, back_if, back_to, tys}
use Rattle.gsl_lower_expr.specs.Parts.{Lower, any_splits, scalar_of, stores}
use Rattle.gsl_lower_follows.specs.Frames.{Frame, Good, Waits}
use Rattle.gsl_lower_follows.specs.Giving.{Adds, After, Does, Grown, HasGiven, none_waits}
use Rattle.gsl_lower_follows.proofs.Behind.{reaches_here}
use Rattle.gsl_lower_follows.proofs.Doing.{does_then}
use Rattle.gsl_lower_follows.proofs.Drawn.{computed_given}
use Rattle.gsl_lower_follows.proofs.Fetching.{Again, adds_take_back, adds_type_id, does_waited}
use Rattle.gsl_lower_follows.proofs.Growing.{adds_given, adds_lift, adds_then, grown_then}
use Rattle.gsl_lower_follows.proofs.Holding.{after_any, after_same, after_then, does_so, waits_after}
use Rattle.gsl_lower_law_expr.proofs.Operands.{given_value}
use Rattle.gsl_lower_law_expr.proofs.Shapes.{value_shape}
use Rattle.gsl_lower_law_expr.proofs.Short.{behind_assoc}
use Rattle.gsl_lower_law_expr.proofs.Steps.{always_converted}
use Rattle.gsl_lower_law_functions.proofs.Passing.{Passed}
use Rattle.gsl_lower_stores.specs.OfReads.{IsKept}
use Rattle.gsl_lower_stores.proofs.OfReads.{adds_fetched, is_fetched}
use Rattle.gsl_lower_stores.specs.OfWrites.{IsWritten}
use Rattle.gsl_lower_stores.proofs.OfWrites.{adds_stores}
use Rattle.gsl_lower_stores.proofs.Stored.{place_stored}
use Rattle.gsl_lower_law_passed.specs.Arguments.{ComesBack}
use Rattle.gsl_lower_law_passed.proofs.Items.{IsBack, IsBackIf, Item, back_after, meant_of, way_by, way_of, ways_of}

module _ (m : Module) (input : Input) (whole : Sections) (f : Frame m input whole) (p : Program) (around : Around) where
  -- ---- what only adds

  adds_argument : (arg : Ty) (o : Option Shape) (v : ℕ) → Adds (as_argument arg o v)
  adds_argument arg None v = adds_given v
  adds_argument arg (Some shape) v = adds_lift (converted (scalar_of arg) (operand shape v)) (λ b. always_converted m input whole (scalar_of arg) (operand shape v) b.sections)

  abbrev put_word : Ty → ℕ → Reached → Emit (Unit {0})
  put_word arg word r = stores p.structs arg r word

  abbrev with_word : Ty → Bool → Reached → ℕ → Emit (Unit {0})
  with_word arg waits kept word = fetch_reached waits kept >>= put_word arg word

  abbrev with_value : Ty → Ty → Bool → Reached → ℕ → Emit (Unit {0})
  with_value t arg waits kept v = as_argument arg (shape_of t) v >>= with_word arg waits kept

  adds_word : (arg : Ty) (waits : Bool) (kept : Reached) (word : ℕ) → Adds (with_word arg waits kept word)
  adds_word arg waits kept word = adds_then (fetch_reached waits kept) (put_word arg word) (adds_fetched m input whole waits kept) (λ r. adds_stores m input whole p.structs arg r word)

  adds_value : (t arg : Ty) (waits : Bool) (kept : Reached) (v : ℕ) → Adds (with_value t arg waits kept v)
  adds_value t arg waits kept v = adds_then (as_argument arg (shape_of t) v) (with_word arg waits kept) (adds_argument arg (shape_of t) v) (adds_word arg waits kept)

  adds_to : (t arg : Ty) (h : ℕ) (waits : Bool) (kept : Reached) → Adds (back_to p.structs t arg h waits kept)
  adds_to t arg h waits kept =
      adds_then (type_id t) (λ type. take_back h type >>= with_value t arg waits kept) (adds_type_id m input whole t)
      (λ type. adds_then (take_back h type) (with_value t arg waits kept) (adds_take_back m input whole h type) (adds_value t arg waits kept))

  pub adds_back : (t arg : Ty) (pass : Passed) → Adds (back p.structs t arg pass)
  unfolding back
  adds_back t arg pass = by pass.back
    where
      by : (o : Option Reached) → Adds (back_if p.structs t arg pass.pointer pass.waits o)
      by None = adds_given {A = Unit {0}} tt
      by (Some kept) = adds_to t arg pass.pointer pass.waits kept

  pub adds_all : (passes : List Passed) (params : List (Direction × Ty)) (args : List Ty) → Adds (all_back p.structs passes params args)
  unfolding all_back
  adds_all [] params args = adds_given {A = Unit {0}} tt
  adds_all (pass ∷ passes) [] args = adds_given {A = Unit {0}} tt
  adds_all (pass ∷ passes) (param ∷ params) [] = adds_given {A = Unit {0}} tt
  adds_all (pass ∷ passes) (param ∷ params) (arg ∷ args) = adds_then (back p.structs param.1 arg pass) (λ done. all_back p.structs passes params args) (adds_back param.1 arg pass) (λ done. adds_all passes params args)

  -- ---- one argument

  module _ (are : AreStructs p.structs) where
    module _ (waits : Bool) (t : Ty) (e : Lower) (x : Meant) (c : ComesBack m input whole f p around t e x) (a : Access) (v : Value) (typed : is_value_of p.structs t v ≡ true) where
      -- as a value of the place's type
      does_argument : (id : ℕ) (b : Flow) (s : shader.State) (units : ℕ) (state : State) → Good m input whole f p around b s state → Stands state.ids id v → Does m input whole f p 0 units state (HasGiven m input whole f p around false e.ty b state) none_waits (Got v s units) (as_argument e.ty (shape_of t) id b)
      does_argument id b s units state good stands = by (shape_of t) refl
        where
          by : (o : Option Shape) → shape_of t ≡ o → Does m input whole f p 0 units state (HasGiven m input whole f p around false e.ty b state) none_waits (Got v s units) (as_argument e.ty o id b)
          by None none = λ inside. reaches_here m input units state (HasGiven m input whole f p around false e.ty b state id b v s) (record { given = inr (c.fits v typed, stands); after = after_same m input whole f p around b s state good })
          by (Some shape) is =
              computed_given m input whole f p around e.ty (λ choices. (v, choices)) (converted (scalar_of e.ty) (operand shape id)) (λ b. always_converted m input whole (scalar_of e.ty) (operand shape id) b.sections) (λ choices words. record { typed = c.fits v typed; left = words }) b s units state good
              (subst (λ w. Computes m input whole (w, state.choices) state b.sections (converted (scalar_of e.ty) (operand shape id))) (c.words shape v is typed)
              (converted_computes m input whole (operand shape id) v (value_shape p.structs t shape v are c.sound is typed).1 (scalar_of e.ty) state b.sections stands))

      -- behind the value of the place's type
      does_word : (low high : ℕ) (kept : Reached) (word : ℕ) (w : Value) (b : Flow) (s : shader.State) (units : ℕ) (state : State) → Good m input whole f p around b s state → IsBack m input whole f p around waits e low high b state kept a → is_value_of p.structs e.ty w ≡ true → Stands state.ids word w
          → Does m input whole f p 0 units state (IsWritten m input whole f p around b state) none_waits (Got tt (stored a w s) units) (with_word e.ty waits kept word b)
      does_word low high kept word w b s units state good is typed_w stands =
          does_then m input whole f p 0 units b state (IsKept m input whole f p around false is.start is.trail s b state) none_waits (IsWritten m input whole f p around b state) none_waits (Got tt s units) (λ (one : Unit {0}) u left. Got tt (stored a w u) left) (fetch_reached waits kept b) (put_word e.ty word) good.inside
          (adds_fetched m input whole waits kept b) (λ r. adds_stores m input whole p.structs e.ty r word)
          (is_fetched m input whole f p around s is.start waits kept is.trail units b state good is.is)
          (λ r between one u left mid within grown k less.
          does_so m input whole f p around 0 left mid (IsWritten m input whole f p around between mid) (IsWritten m input whole f p around b state) (Got tt (stored a w u) left) (stores p.structs e.ty r word between)
          (λ done later z t2 last h. after_then m input whole f p around false false b between later state mid last u t2 grown k.after h)
          (place_stored m input whole f p around are is.start e.ty c.sound_place word w typed_w is.knows a is.trail is.inside between u left mid r k.after.good k.is ((k.after.ids refl).same word _ stands)))
          (λ r between u left mid within grown none less. absurd none)

      does_to : (low high h : ℕ) (kept : Reached) (b : Flow) (s : shader.State) (units : ℕ) (state : State) → Good m input whole f p around b s state → IsBack m input whole f p around waits e low high b state kept a → Waits m input whole f b.place.used h v state
          → Does m input whole f p 0 units state (IsWritten m input whole f p around b state) none_waits (Got tt (stored a v s) units) (back_to p.structs t e.ty h waits kept b)
      does_to low high h kept b s units state good is held =
          subst (λ lowered. Does m input whole f p 0 units state (IsWritten m input whole f p around b state) none_waits (Got tt (stored a v s) units) lowered) (behind_assoc (type_id t b) (take_back h) (with_value t e.ty waits kept))
          (does_then m input whole f p 0 units b state (Again m input whole f p around v b state) none_waits (IsWritten m input whole f p around b state) none_waits (Got tt s units) (λ (one : Unit {0}) u left. Got tt (stored a v u) left) ((type_id t >>= take_back h) b) (with_value t e.ty waits kept) good.inside
          (adds_then (type_id t) (take_back h) (adds_type_id m input whole t) (λ type. adds_take_back m input whole h type) b) (adds_value t e.ty waits kept)
          (does_waited m input whole f p around h t v units b s state good held)
          (λ id b1 one u left mid within grown q less.
          does_then m input whole f p 0 left b1 mid (HasGiven m input whole f p around false e.ty b1 mid) none_waits (IsWritten m input whole f p around b state) none_waits (Got v u left) (λ (w : Value) z rest. Got tt (stored a w z) rest) (as_argument e.ty (shape_of t) id b1) (with_word e.ty waits kept) within
          (adds_argument e.ty (shape_of t) id b1) (adds_word e.ty waits kept)
          (does_argument id b1 u left mid q.0.good q.1)
          (λ word b2 w z rest mid2 within2 grown2 has less2.
          let got = given_value m input whole f p around mid2.ids word e.ty w c.real_place has.given in
          let after : After m input whole f p around false b state b2 z mid2 = after_then m input whole f p around false false b b1 b2 state mid mid2 u z grown q.0 has.after in
          does_so m input whole f p around 0 rest mid2 (IsWritten m input whole f p around b2 mid2) (IsWritten m input whole f p around b state) (Got tt (stored a w z) rest) (with_word e.ty waits kept word b2)
          (λ done later one t2 last h. after_then m input whole f p around false false b b2 later state mid2 last z t2 (grown_then grown grown2) after h)
          (does_word low high kept word w b2 z rest mid2 has.after.good (back_after m input whole f p around waits e low high b b2 state mid2 z (Some kept) (Some a) (grown_then grown grown2) (after_any m input whole f p around waits b b2 state mid2 z after) is) got.0 got.1))
          (λ word b2 z rest mid2 within2 grown2 none less2. absurd none))
          (λ id b1 u left mid within grown none less. absurd none))

    -- ---- all of them

    -- An argument's parameter ended with a value, which is in its holder.
    pub record IsEnd (first : ℕ) (waits : Bool) (t : Ty) (e : Lower) (x : Meant) (b : Flow) (state : State) (i : Item) (v : Value) : Type 0 where
      pub comes : (kept : Reached) → i.back ≡ Some kept → ComesBack m input whole f p around t e x
      pub typed : is_value_of p.structs t v ≡ true
      pub held : Waits m input whole f b.place.used i.argument.id v state
      pub back : IsBackIf m input whole f p around waits e first i.argument.holder b state i.back i.access

    abbrev pub AreEnds : ℕ → List (Direction × Ty) → List Lower → List Meant → Flow → State → List Item → List Value → Type 0
    AreEnds first [] [] [] b state [] vs = Unit {0}
    AreEnds first (param ∷ params) (e ∷ es) (x ∷ xs) b state (i ∷ items) (v ∷ vs) = IsEnd first (any_splits es) param.1 e x b state i v × AreEnds (i.argument.holder + 1) params es xs b state items vs
    AreEnds first _ _ _ b state _ _ = ⊥

    ends_after : (first : ℕ) (params : List (Direction × Ty)) (es : List Lower) (xs : List Meant) (items : List Item) (vs : List Value) (b later : Flow) (state last : State) (s : shader.State) → Grown b later → After m input whole f p around false b state later s last → AreEnds first params es xs b state items vs → AreEnds first params es xs later last items vs
    ends_after first [] [] [] [] vs b later state last s grown after ends = tt
    ends_after first [] [] [] (i ∷ items) vs b later state last s grown after ends = ends
    ends_after first [] [] (x ∷ xs) items vs b later state last s grown after ends = ends
    ends_after first [] (e ∷ es) xs items vs b later state last s grown after ends = ends
    ends_after first (param ∷ params) [] xs items vs b later state last s grown after ends = ends
    ends_after first (param ∷ params) (e ∷ es) [] items vs b later state last s grown after ends = ends
    ends_after first (param ∷ params) (e ∷ es) (x ∷ xs) [] vs b later state last s grown after ends = ends
    ends_after first (param ∷ params) (e ∷ es) (x ∷ xs) (i ∷ items) [] b later state last s grown after ends = ends
    ends_after first (param ∷ params) (e ∷ es) (x ∷ xs) (i ∷ items) (v ∷ vs) b later state last s grown after (one, more) = (
      record {
        comes = one.comes;
        typed = one.typed;
        held = waits_after m input whole f p around false b later state last s i.argument.id v grown after one.held;
        back = back_after m input whole f p around (any_splits es) e first i.argument.holder b later state last s i.back i.access grown (after_any m input whole f p around (any_splits es) b later state last s after) one.back;
      },
      ends_after (i.argument.holder + 1) params es xs items vs b later state last s grown after more,
    )

    -- one argument, whether something comes back or not
    does_one : (first : ℕ) (waits : Bool) (t : Ty) (e : Lower) (x : Meant) (i : Item) (v : Value) (b : Flow) (s : shader.State) (units : ℕ) (state : State) → Good m input whole f p around b s state → IsEnd first waits t e x b state i v
        → Does m input whole f p 0 units state (IsWritten m input whole f p around b state) none_waits (Got tt (shader_expr.put_back i.access v s) units) (back p.structs t e.ty (way_of waits i) b)
    unfolding back
    does_one first waits t e x i v b s units state good end = by i.back refl i.access end.back
      where
        by : (back : Option Reached) → i.back ≡ back → (access : Option Access) → IsBackIf m input whole f p around waits e first i.argument.holder b state back access
            → Does m input whole f p 0 units state (IsWritten m input whole f p around b state) none_waits (Got tt (shader_expr.put_back access v s) units) (back_if p.structs t e.ty (way_by waits i.argument.id i.back).pointer (way_by waits i.argument.id i.back).waits (way_by waits i.argument.id i.back).back b)
        by None same None is =
            subst (λ o. Does m input whole f p 0 units state (IsWritten m input whole f p around b state) none_waits (Got tt s units) (back_if p.structs t e.ty (way_by waits i.argument.id o).pointer (way_by waits i.argument.id o).waits (way_by waits i.argument.id o).back b)) (sym same)
            (λ inside. reaches_here m input units state (IsWritten m input whole f p around b state tt b tt s) (after_same m input whole f p around b s state good))
        by None same (Some a) is = absurd is
        by (Some kept) same None is = absurd is
        by (Some kept) same (Some a) is =
            subst (λ o. Does m input whole f p 0 units state (IsWritten m input whole f p around b state) none_waits (Got tt (stored a v s) units) (back_if p.structs t e.ty (way_by waits i.argument.id o).pointer (way_by waits i.argument.id o).waits (way_by waits i.argument.id o).back b)) (sym same)
            (does_to waits t e x (end.comes kept same) a v end.typed first i.argument.holder i.argument.id kept b s units state good is end.held)

    pub does_all : (first : ℕ) (params : List (Direction × Ty)) (es : List Lower) (xs : List Meant) (items : List Item) (vs : List Value) (b : Flow) (s : shader.State) (units : ℕ) (state : State) → Good m input whole f p around b s state → AreEnds first params es xs b state items vs
        → Does m input whole f p 0 units state (IsWritten m input whole f p around b state) none_waits (Got tt (shader_expr.all_back (map meant_of items) vs s) units) (all_back p.structs (ways_of es items) params (tys es) b)
    unfolding all_back
    does_all first [] [] [] [] vs b s units state good ends = λ inside. reaches_here m input units state (IsWritten m input whole f p around b state tt b tt s) (after_same m input whole f p around b s state good)
    does_all first [] [] [] (i ∷ items) vs b s units state good ends = absurd ends
    does_all first [] [] (x ∷ xs) items vs b s units state good ends = absurd ends
    does_all first [] (e ∷ es) xs items vs b s units state good ends = absurd ends
    does_all first (param ∷ params) [] xs items vs b s units state good ends = absurd ends
    does_all first (param ∷ params) (e ∷ es) [] items vs b s units state good ends = absurd ends
    does_all first (param ∷ params) (e ∷ es) (x ∷ xs) [] vs b s units state good ends = absurd ends
    does_all first (param ∷ params) (e ∷ es) (x ∷ xs) (i ∷ items) [] b s units state good ends = absurd ends
    does_all first (param ∷ params) (e ∷ es) (x ∷ xs) (i ∷ items) (v ∷ vs) b s units state good (one, more) =
        does_then m input whole f p 0 units b state (IsWritten m input whole f p around b state) none_waits (IsWritten m input whole f p around b state) none_waits (Got tt (shader_expr.put_back i.access v s) units) (λ (done : Unit {0}) u left. Got tt (shader_expr.all_back (map meant_of items) vs u) left)
        (back p.structs param.1 e.ty (way_of (any_splits es) i) b) (λ done. all_back p.structs (ways_of es items) params (tys es)) good.inside
        (adds_back param.1 e.ty (way_of (any_splits es) i) b) (λ done. adds_all (ways_of es items) params (tys es))
        (does_one first (any_splits es) param.1 e x i v b s units state good one)
        (λ done between one u left mid within grown after less.
        does_so m input whole f p around 0 left mid (IsWritten m input whole f p around between mid) (IsWritten m input whole f p around b state) (Got tt (shader_expr.all_back (map meant_of items) vs u) left) (all_back p.structs (ways_of es items) params (tys es) between)
        (λ done later z w last h. after_then m input whole f p around false false b between later state mid last u w grown after h)
        (does_all (i.argument.holder + 1) params es xs items vs between u left mid after.good (ends_after (i.argument.holder + 1) params es xs items vs b between state mid u grown after more)))
        (λ done between u left mid within grown none less. absurd none)
