-- Assignments by operators.
use Rattle.std.proofs.Common.{◌≡◌, refl, sym, ap, ◌∙◌, subst, inl, inr, ℕ, Bool, true, false, not, ◌||◌, List, Some, None, IsTrue}
use Rattle.gsl_base.specs.declared.input.Input.{Input}
use Rattle.gsl_types.specs.declared.ty.Ty.{Ty}
use Rattle.gsl_words.specs.declared.module.Module.{Module}
use Rattle.gsl_values.specs.declared.op.BinaryOp.{BinaryOp}
use Rattle.gsl_values.specs.declared.op.BinaryOp.TheVariants.{Equal, Unequal}
use Rattle.gsl_values.specs.declared.value.Value.{Value}
use Rattle.gsl_tree.specs.Around.{Around}
use Rattle.gsl_tree.specs.Expressions.{IsBinary}
use Rattle.gsl_tree.specs.Operations.{Given, binary_value, is_signed, is_signed_scalar}
use Rattle.gsl_tree.specs.Shapes.{Shape, is_equality, shape_of}
use Rattle.gsl_tree.specs.Values.{is_value_of}
use Rattle.gsl_tree.specs.declared.program.Program.{Program}
use Rattle.gsl_meaning.specs.Accesses.{Access, read as means_read}
use Rattle.gsl_meaning.specs.Running.{Got, Run, Strays, drawing, storing, told_by}
use Rattle.gsl_meaning.specs.Running as shader_run
use Rattle.gsl_meaning.specs.State as shader
use Rattle.gsl_machine.specs.State.{Ids, State}
use Rattle.gsl_spv.specs.Sections.{Sections}
use Rattle.gsl_lower_values.specs.Building.{Step}
use Rattle.gsl_lower_values.specs.Constructors.{operand}
use Rattle.gsl_lower_values.specs.Operators as operators
use Rattle.gsl_lower_places.specs.Pointed.{to_renew}
use Rattle.gsl_lower_places.specs.declared.reached.Reached.{Reached}
use Rattle.gsl_lower_law.specs.Computing.{Computes}
use Rattle.gsl_lower_law.specs.Operands.{Fit}
use Rattle.gsl_lower_law.specs.Values.{Stands}
use Rattle.gsl_lower_law.proofs.Joining.{keeps_same}
use Rattle.gsl_lower_law_operators.proofs.Binaries.{binary_computes}
use Rattle.gsl_lower_holders.specs.Flow.{Emit, Flow, given, lift, ◌>>=◌}
use Rattle.gsl_lower_holders.specs.Waiting.{fetch, fetch_reached, hold, hold_reached}
use Rattle.gsl_lower_expr.specs.Parts.{Lower, after_update, before_update, pointed_if, reads, shape_or, stores, updated}
use Rattle.gsl_lower_follows.specs.Frames.{Frame, Good, HeldAs}
use Rattle.gsl_lower_follows.specs.Giving.{Adds, After, Does, GivesValue, Grown, GrownTo, HasGiven, none_waits}
use Rattle.gsl_lower_follows.proofs.Behind.{reaches_here}
use Rattle.gsl_lower_follows.proofs.Doing.{does_then}
use Rattle.gsl_lower_follows.proofs.Fetching.{Again, adds_fetch, adds_hold, does_fetch}
use Rattle.gsl_lower_follows.proofs.Growing.{adds_given, adds_lift, adds_then, grown_then}
use Rattle.gsl_lower_follows.proofs.Holding.{after_any, after_then, does_hold, held_after}
use Rattle.gsl_lower_law_expr.specs.Known.{Operates}
use Rattle.gsl_lower_law_expr.proofs.Binary.{shape_is}
use Rattle.gsl_lower_law_expr.proofs.Operands.{given_value}
use Rattle.gsl_lower_law_expr.proofs.Shapes.{operation_fits, signed_shape, value_shape}
use Rattle.gsl_lower_law_expr.proofs.Short.{behind_assoc, does_change}
use Rattle.gsl_lower_law_expr.proofs.Steps.{Always, always_binary, always_given}
use Rattle.gsl_lower_law_stored.specs.Buffers.{KnowsBuffers}
use Rattle.gsl_lower_reaching.specs.Reaching.{GivesPlace, HasReached, HasStrayed, IsTrail, Start}
use Rattle.gsl_lower_reaching.specs.Reaching.Start.{OfBlock}
use Rattle.gsl_lower_reaching.specs.Trails.{IsInside, IsOutside, Trail}
use Rattle.gsl_lower_reaching.proofs.Moving.{trail_after}
use Rattle.gsl_lower_indexes.specs.OfReads.{IsKept}
use Rattle.gsl_lower_indexes.proofs.OfReads.{adds_fetched, adds_held, is_fetched, is_held}
use Rattle.gsl_lower_indexes.proofs.OfReads.{adds_reads}
use Rattle.gsl_lower_indexes.proofs.OfReads.{read_strays}
use Rattle.gsl_lower_indexes.proofs.OfReads.{taken}
use Rattle.gsl_lower_stores.specs.OfWrites.{IsReady}
use Rattle.gsl_lower_stores.proofs.OfWrites.{adds_stores, always_renewed}
use Rattle.gsl_lower_stores.proofs.Ready.{place_ready, ready_strays}
use Rattle.gsl_lower_stores.proofs.Staying.{trail_still}
use Rattle.gsl_lower_stores.proofs.Stored.{place_stored}
use Rattle.gsl_lower_assigns.specs.Updating.{Updates, update_means}
use Rattle.gsl_lower_assigns.proofs.Finishing.{Has, Keeping, Serving, finishes, from_before, serving_keeps, still_serving}

-- what a part of lowering gives
abbrev carrier : {B C A : Type 0} → (B → C → Emit A) → Type 0
carrier {B} {C} {A} lowered = A

true_is : (b : Bool) → IsTrue b → b ≡ true
true_is b e = e

same_fits : (which : BinaryOp) (n : ℕ) → is_equality which ≡ true → Fit which n n
same_fits Equal n e = refl
same_fits Unequal n e = refl
same_fits _ n e = absurd cc

module _ (m : Module) (input : Input) (sections : Sections) (f : Frame m input sections) (p : Program) (around : Around) (loose : Start) (knows : loose ≡ OfBlock → KnowsBuffers m input sections f p) (t right : Ty) (which : BinaryOp) (known : Updates p around which t right) where
  abbrev operates : Operates p around which t right t
  operates = known.operates

  abbrev answer : Value → Value → List ℕ → Given
  answer old w = binary_value which (is_signed t) old w

  abbrev step : ℕ → ℕ → Step ℕ
  step x y = operators.binary which (operand (shape_or t) x) (operand (shape_or right) y)

  always_step : (x y : ℕ) → Always (step x y)
  always_step x y = always_binary m input sections which (operand (shape_or t) x) (operand (shape_or right) y)

  -- it is a scalar or vector
  shape_apart : shape_of t ≡ None → loose ≡ OfBlock → ⊥
  shape_apart none e = absurd (let z : None ≡ Some known.shape = sym none ∙ known.shaped in cc)

  same_shape : shape_or t ≡ known.shape
  same_shape = shape_is t known.shape known.shaped

  computes_shaped : (s2 : Shape) (i j : ℕ) (v w : Value) (state : State) (before : Sections) → shape_of right ≡ Some s2 → Fit which known.shape.1 s2.1 → is_value_of p.structs t v ≡ true → is_value_of p.structs right w ≡ true → Stands state.ids i v → Stands state.ids j w
      → Computes m input sections (answer v w state.choices) state before (step i j)
  computes_shaped s2 i j v w state before is_right fit typed_v typed_w stands_v stands_w =
      let a = value_shape p.structs t known.shape v operates.are operates.sound_left known.shaped typed_v in
      let b = value_shape p.structs right s2 w operates.are operates.sound_right is_right typed_w in
      subst (λ signed. Computes m input sections (binary_value which signed v w state.choices) state before (step i j)) (sym (signed_shape t known.shape known.shaped))
      (subst (λ s. Computes m input sections (binary_value which (is_signed_scalar known.shape.0) v w state.choices) state before (operators.binary which (operand s i) (operand (shape_or right) j))) (sym same_shape)
      (subst (λ s. Computes m input sections (binary_value which (is_signed_scalar known.shape.0) v w state.choices) state before (operators.binary which (operand known.shape i) (operand s j))) (sym (shape_is right s2 is_right))
      (binary_computes m input sections (operand known.shape i) (operand s2 j) v w state before a.1 b.1 a.0 b.0 stands_v stands_w which fit)))

  some_same : {A : Type 0} {a b : A} → Some a ≡ Some b → a ≡ b
  some_same e = cc

  computes : (i j : ℕ) (v w : Value) (state : State) (before : Sections) → is_value_of p.structs t v ≡ true → is_value_of p.structs right w ≡ true → Stands state.ids i v → Stands state.ids j w → Computes m input sections (answer v w state.choices) state before (step i j)
  computes i j v w state before typed_v typed_w stands_v stands_w = by operates.operands
    where
      by : IsBinary around which t right t → Computes m input sections (answer v w state.choices) state before (step i j)
      by (inl e) = computes_shaped known.shape i j v w state before (ap shape_of (sym e.1.0) ∙ known.shaped) (same_fits which known.shape.1 (true_is (is_equality which) e.0)) typed_v typed_w stands_v stands_w
      by (inr e) =
          let same : e.0 ≡ known.shape = some_same (sym e.3 ∙ known.shaped) in
          computes_shaped e.1 i j v w state before e.4 (subst (λ (s : Shape). Fit which s.1 e.1.1) same (operation_fits which e.0 e.1 e.2 e.5)) typed_v typed_w stands_v stands_w

  -- ---- as it is lowered

  -- an old value and what it was read from
  abbrev Kept : Type 0
  Kept = carrier (before_update p.structs t)

  abbrev kept_as : ℕ → Reached → Kept
  kept_as old to = record { old = old; to = to }

  abbrev held_both : Bool → Reached → ℕ → Emit Kept
  held_both waits to old = hold waits old >>= (λ before. hold_reached waits to >>= (λ kept. given (kept_as before kept)))

  abbrev read_both : Bool → Reached → Emit Kept
  read_both waits to = reads p.structs t to >>= held_both waits to

  abbrev begin : Bool → Reached → Emit Kept
  begin waits r = lift (pointed_if (not waits) (shape_or t) r) >>= read_both waits

  abbrev store_new : Reached → ℕ → Emit ℕ
  store_new to new = stores p.structs t to new >>= (λ done. given new)

  abbrev finished : ℕ → ℕ → Reached → Emit ℕ
  finished y x to = lift (step x y) >>= store_new to

  abbrev with_old : Bool → Kept → ℕ → ℕ → Emit ℕ
  with_old waits kept y x = fetch_reached waits kept.to >>= finished y x

  abbrev end : Bool → Kept → ℕ → Emit ℕ
  end waits kept y = fetch waits t kept.old >>= with_old waits kept y

  adds_both : (waits : Bool) (to : Reached) (old : ℕ) → Adds (held_both waits to old)
  adds_both waits to old =
      adds_then (hold waits old) (λ before. hold_reached waits to >>= (λ kept. given (kept_as before kept))) (adds_hold waits old)
      (λ before. adds_then (hold_reached waits to) (λ kept. given (kept_as before kept)) (adds_held waits to) (λ kept. adds_given {A = Kept} (kept_as before kept)))

  adds_read : (waits : Bool) (to : Reached) → Adds (read_both waits to)
  adds_read waits to = adds_then (reads p.structs t to) (held_both waits to) (adds_reads m input sections p.structs t to) (adds_both waits to)

  always_if : (one : Bool) (shape : Shape) (r : Reached) → Always (pointed_if one shape r)
  always_if false shape r = always_given m input sections {A = Reached} r
  always_if true shape r = always_renewed m input sections shape r

  adds_begin : (waits : Bool) (r : Reached) → Adds (begin waits r)
  adds_begin waits r = adds_then (lift (pointed_if (not waits) (shape_or t) r)) (read_both waits) (adds_lift (pointed_if (not waits) (shape_or t) r) (λ b. always_if (not waits) (shape_or t) r b.sections)) (adds_read waits)

  adds_finished : (y x : ℕ) (to : Reached) → Adds (finished y x to)
  adds_finished y x to =
      adds_then (lift (step x y)) (store_new to) (adds_lift (step x y) (λ b. always_step x y b.sections))
      (λ new. adds_then (stores p.structs t to new) (λ done. given new) (adds_stores m input sections p.structs t to new) (λ done. adds_given new))

  adds_with : (waits : Bool) (kept : Kept) (y x : ℕ) → Adds (with_old waits kept y x)
  adds_with waits kept y x = adds_then (fetch_reached waits kept.to) (finished y x) (adds_fetched m input sections waits kept.to) (adds_finished y x)

  adds_end : (waits : Bool) (kept : Kept) (y : ℕ) → Adds (end waits kept y)
  adds_end waits kept y = adds_then (fetch waits t kept.old) (with_old waits kept y) (adds_fetch m input sections waits t kept.old) (adds_with waits kept y)

  abbrev Gives_ : Bool → Flow → State → ℕ → Flow → Value → shader.State → State → Type 0
  Gives_ = Has m input sections f p around t

  -- ---- where it leads

  module _ (r : Reached) (acc : Access) (l : Trail) (inside : IsInside p.structs p.blocks true t acc l) where
    abbrev Served : Reached → Ids → Type 0
    Served = Serving m input sections f p around t acc

    -- a pointer to it, or the trail itself, which waits in holders
    abbrev PlaceAs : Bool → Reached → Flow → State → Type 0
    PlaceAs false to b state = Served to state.ids
    PlaceAs true to b state = IsTrail m input sections f p around true loose b state to l

    place_after : (waits : Bool) (b later : Flow) (state last : State) (s : shader.State) (to : Reached) → Grown b later → After m input sections f p around waits b state later s last → PlaceAs waits to b state → PlaceAs waits to later last
    place_after false b later state last s to grown after place = still_serving m input sections f p around t acc to state.ids last.ids (after.ids refl) place
    place_after true b later state last s to grown after place = trail_after m input sections f p around true loose b later state last s to l grown after place

    -- the old value and the place are there, or wait
    record IsBegun (waits : Bool) (b : Flow) (s : shader.State) (state : State) (kept : Kept) (later : Flow) (one : Unit {0}) (u : shader.State) (last : State) : Type 0 where
      after : After m input sections f p around false b state later u last
      still : u ≡ s
      typed : is_value_of p.structs t (means_read p.structs t acc s) ≡ true
      old : HeldAs m input sections f waits kept.old (means_read p.structs t acc s) later last
      to : PlaceAs waits kept.to later last

    -- the old value stands there, and nothing else has changed
    record HasRead (s : shader.State) (b : Flow) (state : State) (id : ℕ) (later : Flow) (one : Unit {0}) (u : shader.State) (last : State) : Type 0 where
      after : After m input sections f p around false b state later u last
      still : u ≡ s
      typed : is_value_of p.structs t (means_read p.structs t acc s) ≡ true
      stands : Stands last.ids id (means_read p.structs t acc s)

    -- it waits
    record IsOldHeld (v : Value) (s : shader.State) (b : Flow) (state : State) (kept : ℕ) (later : Flow) (one : Unit {0}) (u : shader.State) (last : State) : Type 0 where
      after : After m input sections f p around false b state later u last
      still : u ≡ s
      old : HeldAs m input sections f true kept v later last

    -- it was read from a pointer
    begun_by : (to : Reached) (b0 : Flow) (s0 : shader.State) (state0 : State) (b : Flow) (s : shader.State) (units : ℕ) (state : State) → Grown b0 b → After m input sections f p around false b0 state0 b s state → s ≡ s0 → Served to state.ids
        → Does m input sections f p 0 units state (IsBegun false b0 s0 state0) none_waits (Got tt s units) (read_both false to b)
    unfolding hold hold_reached
    begun_by to b0 s0 state0 b s units state grown0 after0 same serving =
        does_then m input sections f p 0 units b state (HasRead s b state) none_waits (IsBegun false b0 s0 state0) none_waits (Got tt s units) (λ one u left. Got tt u left) (reads p.structs t to b) (held_both false to) after0.good.inside
        (adds_reads m input sections p.structs t to b) (adds_both false to)
        (does_change m input sections f p around units units state (Gives_ false b state) (HasRead s b state) (means_read p.structs t acc s) tt s (reads p.structs t to b) (λ id later last h. let got = given_value m input sections f p around last.ids id t (means_read p.structs t acc s) operates.real_left h.given in record { after = h.after; still = refl; typed = got.0; stands = got.1 })
        (serving.reads b s units state after0.good (keeps_same state.ids)))
        (λ old between one u left mid within grown q less.
        λ there. reaches_here m input left mid (IsBegun false b0 s0 state0 (kept_as old to) between tt u) (record {
          after = after_then m input sections f p around false false b0 b between state0 state mid s u grown0 after0 q.after;
          still = q.still ∙ same;
          typed = subst (λ w. is_value_of p.structs t (means_read p.structs t acc w) ≡ true) same q.typed;
          old = subst (λ w. Stands mid.ids old (means_read p.structs t acc w)) same q.stands;
          to = still_serving m input sections f p around t acc to state.ids mid.ids (q.after.ids refl) serving;
        }))
        (λ old between u left mid within grown none less. absurd none)

    begun_pointed : (b : Flow) (s : shader.State) (units : ℕ) (state : State) → Good m input sections f p around b s state → IsTrail m input sections f p around false loose b state r l → Does m input sections f p 0 units state (IsBegun false b s state) none_waits (Got tt s units) (begin false r b)
    begun_pointed b s units state good is =
        subst (λ shape. Does m input sections f p 0 units state (IsBegun false b s state) none_waits (Got tt s units) ((lift (to_renew shape r) >>= read_both false) b)) (sym same_shape)
        (does_then m input sections f p 0 units b state (IsReady m input sections f p around t acc b s state) none_waits (IsBegun false b s state) none_waits (Got tt s units) (λ one u left. Got tt u left) (lift (to_renew known.shape r) b) (read_both false) good.inside
        (adds_lift (to_renew known.shape r) (λ b. always_renewed m input sections known.shape r b.sections) b) (adds_read false)
        (place_ready m input sections f p around operates.are loose t operates.sound_left known.shape known.shaped knows r acc l inside b s units state good is)
        (λ to between one u left mid within grown q less. begun_by to b s state between u left mid grown q.after q.same q.serves)
        (λ to between u left mid within grown none less. absurd none))

    -- both wait
    begun_held : (b : Flow) (s : shader.State) (units : ℕ) (state : State) → Good m input sections f p around b s state → IsTrail m input sections f p around false loose b state r l → Does m input sections f p 0 units state (IsBegun true b s state) none_waits (Got tt s units) (begin true r b)
    begun_held b s units state good is =
        does_then m input sections f p 0 units b state (HasRead s b state) none_waits (IsBegun true b s state) none_waits (Got tt s units) (λ one u left. Got tt u left) (reads p.structs t r b) (held_both true r) good.inside
        (adds_reads m input sections p.structs t r b) (adds_both true r)
        (does_change m input sections f p around units units state (Gives_ false b state) (HasRead s b state) (means_read p.structs t acc s) tt s (reads p.structs t r b) (λ id later last h. let got = given_value m input sections f p around last.ids id t (means_read p.structs t acc s) operates.real_left h.given in record { after = h.after; still = refl; typed = got.0; stands = got.1 })
        (taken m input sections f p around operates.are loose true t operates.sound_left b s state r acc l good is inside units shape_apart))
        (λ old b1 one u left mid within grown q less.
        does_then m input sections f p 0 left b1 mid (IsOldHeld (means_read p.structs t acc s) u b1 mid) none_waits (IsBegun true b s state) none_waits (Got tt u left) (λ one w left. Got tt w left) (hold true old b1) (λ before. hold_reached true r >>= (λ kept. given (kept_as before kept))) within
        (adds_hold true old b1) (λ before. adds_then (hold_reached true r) (λ kept. given (kept_as before kept)) (adds_held true r) (λ kept. adds_given {A = Kept} (kept_as before kept)))
        (does_change m input sections f p around left left mid (λ kept later (one : Unit {0}) w last. After m input sections f p around false b1 mid later w last × HeldAs m input sections f true kept (means_read p.structs t acc s) later last) (IsOldHeld (means_read p.structs t acc s) u b1 mid) tt tt u (hold true old b1) (λ kept later last h. record { after = h.0; still = refl; old = h.1 })
        (does_hold m input sections f p around true old (means_read p.structs t acc s) left b1 u mid q.after.good q.stands))
        (λ before b2 one w left mid2 within2 grown2 h less2.
        does_then m input sections f p 0 left b2 mid2 (IsKept m input sections f p around true loose l w b2 mid2) none_waits (IsBegun true b s state) none_waits (Got tt w left) (λ one z left. Got tt z left) (hold_reached true r b2) (λ kept. given (kept_as before kept)) within2
        (adds_held true r b2) (λ kept. adds_given {A = Kept} (kept_as before kept))
        (is_held m input sections f p around w loose true r l left b2 mid2 h.after.good
        (trail_after m input sections f p around false loose b1 b2 mid mid2 w r l grown2 h.after (trail_after m input sections f p around false loose b b1 state mid u r l grown q.after is)))
        (λ kept b3 one z left mid3 within3 grown3 k less3.
        λ there. reaches_here m input left mid3 (IsBegun true b s state (kept_as before kept) b3 tt z) (record {
          after = after_then m input sections f p around false false b b2 b3 state mid2 mid3 w z (grown_then grown grown2) (after_then m input sections f p around false false b b1 b2 state mid mid2 u w grown q.after h.after) k.after;
          still = k.still ∙ h.still ∙ q.still;
          typed = q.typed;
          old = held_after m input sections f p around true b2 b3 mid2 mid3 z before (means_read p.structs t acc s) grown3 (after_any m input sections f p around true b2 b3 mid2 mid3 z k.after) h.old;
          to = k.is;
        }))
        (λ kept b3 z left mid3 within3 grown3 none less3. absurd none))
        (λ before b2 w left mid2 within2 grown2 none less2. absurd none))
        (λ old b1 u left mid within grown none less. absurd none)

    begun : (waits : Bool) (b : Flow) (s : shader.State) (units : ℕ) (state : State) → Good m input sections f p around b s state → IsTrail m input sections f p around false loose b state r l → Does m input sections f p 0 units state (IsBegun waits b s state) none_waits (Got tt s units) (begin waits r b)
    begun false b s units state good is = begun_pointed b s units state good is
    begun true b s units state good is = begun_held b s units state good is

    -- ---- behind the right side

    abbrev goes_on : Value → Value → Run Value
    goes_on old w = shader_run.◌>>=◌ (drawing (answer old w)) (storing acc)

    done_by : (to : Reached) (y i : ℕ) (v w : Value) (b : Flow) (s : shader.State) (units : ℕ) (state : State) → Good m input sections f p around b s state → Keeping m input sections f p around t acc to state.ids → is_value_of p.structs t v ≡ true → is_value_of p.structs right w ≡ true → Stands state.ids i v → Stands state.ids y w
        → Does m input sections f p 0 units state (Gives_ false b state) none_waits (goes_on v w s units) (finished y i to b)
    done_by to y i v w b s units state good keeping typed_v typed_w stands_v stands_w =
        finishes m input sections f p around t acc to (answer v w) (step i y) (always_step i y) (λ choices are. operates.gives v w choices are typed_v typed_w) operates.real_left b s units state good keeping (computes i y v w state b.sections typed_v typed_w stands_v stands_w)

    -- a trail that is there serves to store while ids stand for the same
    trail_keeps : (to : Reached) (b : Flow) (state : State) → IsTrail m input sections f p around false loose b state to l → Keeping m input sections f p around t acc to state.ids
    trail_keeps to b state is = record {
      stores = λ later s units last value v good keeps typed stands.
          place_stored m input sections f p around operates.are loose t operates.sound_left value v typed knows acc l inside later s units last to good (trail_still m input sections f p around loose b later state last to l (inside.named refl) keeps is) stands;
    }

    module _ (kept : Kept) (y : ℕ) (v w : Value) (typed_v : is_value_of p.structs t v ≡ true) (typed_w : is_value_of p.structs right w ≡ true) where
      ended : (waits : Bool) (b : Flow) (s : shader.State) (units : ℕ) (state : State) → Good m input sections f p around b s state → HeldAs m input sections f waits kept.old v b state → PlaceAs waits kept.to b state → Stands state.ids y w
          → Does m input sections f p 0 units state (Gives_ false b state) none_waits (goes_on v w s units) (end waits kept y b)
      unfolding fetch fetch_reached
      ended false b s units state good old place stands =
          done_by kept.to y kept.old v w b s units state good (serving_keeps m input sections f p around t acc kept.to state.ids place) typed_v typed_w old stands
      ended true b s units state good old place stands =
          does_then m input sections f p 0 units b state (Again m input sections f p around v b state) none_waits (Gives_ false b state) none_waits (Got tt s units) (λ one u left. goes_on v w u left) (fetch true t kept.old b) (with_old true kept y) good.inside
          (adds_fetch m input sections true t kept.old b) (adds_with true kept y)
          (does_fetch m input sections f p around true t kept.old v units b s state good old)
          (λ i b1 one u left mid within grown q less.
          does_then m input sections f p 0 left b1 mid (IsKept m input sections f p around false loose l u b1 mid) none_waits (Gives_ false b state) none_waits (Got tt u left) (λ one z left. goes_on v w z left) (fetch_reached true kept.to b1) (finished y i) within
          (adds_fetched m input sections true kept.to b1) (adds_finished y i)
          (is_fetched m input sections f p around u loose true kept.to l left b1 mid q.0.good (trail_after m input sections f p around true loose b b1 state mid u kept.to l grown (after_any m input sections f p around true b b1 state mid u q.0) place))
          (λ to b2 one z left mid2 within2 grown2 k less2.
          from_before m input sections f p around t false false false b b2 state mid2 z left (goes_on v w z left) (finished y i to) (λ e. refl) (grown_then grown grown2) (after_then m input sections f p around false false b b1 b2 state mid mid2 u z grown q.0 k.after)
          (done_by to y i v w b2 z left mid2 k.after.good (trail_keeps to b2 mid2 k.is) typed_v typed_w ((k.after.ids refl).same i _ q.1) ((k.after.ids refl).same y _ ((q.0.ids refl).same y _ stands))))
          (λ to b2 z left mid2 within2 grown2 none less2. absurd none))
          (λ i b1 u left mid within grown none less. absurd none)

    -- ---- the right side

    module _ (waits : Bool) (value : Emit ℕ) (run : Run Value) (gives : GivesValue m input sections f p around waits right value run) where
      abbrev shader_rest : Value → Run Value
      shader_rest old = shader_run.◌>>=◌ run (goes_on old)

      none_more : (c : Bool) → c ≡ false → (c || false) ≡ false
      none_more true e = e
      none_more false e = e

      right_in : (kept : Kept) (v : Value) (b : Flow) (s : shader.State) (units : ℕ) (state : State) → Good m input sections f p around b s state → HeldAs m input sections f waits kept.old v b state → PlaceAs waits kept.to b state → is_value_of p.structs t v ≡ true
          → Does m input sections f p 0 units state (Gives_ waits b state) none_waits (shader_rest v s units) ((value >>= end waits kept) b)
      right_in kept v b s units state good old place typed_v =
          does_then m input sections f p 0 units b state (HasGiven m input sections f p around waits right b state) none_waits (Gives_ waits b state) none_waits (run s units) (goes_on v) (value b) (end waits kept) good.inside
          (gives.adds b) (adds_end waits kept)
          (gives.does b s units state good)
          (λ y between w u left mid within grown g less.
          let got = given_value m input sections f p around mid.ids y right w operates.real_right g.given in
          from_before m input sections f p around t waits false waits b between state mid u left (goes_on v w u left) (end waits kept y) (none_more waits) grown g.after
          (ended kept y v w typed_v got.0 waits between u left mid g.after.good (held_after m input sections f p around waits b between state mid u kept.old v grown g.after old) (place_after waits b between state mid u kept.to grown g.after place) got.1))
          (λ y between u left mid within grown none less. absurd none)

      all_in : (b : Flow) (s : shader.State) (units : ℕ) (state : State) → Good m input sections f p around b s state → IsTrail m input sections f p around false loose b state r l
          → Does m input sections f p 0 units state (Gives_ waits b state) none_waits (shader_rest (means_read p.structs t acc s) s units) ((begin waits r >>= (λ kept. value >>= end waits kept)) b)
      all_in b s units state good is =
          does_then m input sections f p 0 units b state (IsBegun waits b s state) none_waits (Gives_ waits b state) none_waits (Got tt s units) (λ one u left. shader_rest (means_read p.structs t acc s) u left) (begin waits r b) (λ kept. value >>= end waits kept) good.inside
          (adds_begin waits r b) (λ kept. adds_then value (end waits kept) gives.adds (adds_end waits kept))
          (begun waits b s units state good is)
          (λ kept between one u left mid within grown q less.
          from_before m input sections f p around t false waits waits b between state mid u left (shader_rest (means_read p.structs t acc s) u left) (value >>= end waits kept) (λ e. e) grown q.after
          (right_in kept (means_read p.structs t acc s) between u left mid q.after.good q.old q.to q.typed))
          (λ kept between u left mid within grown none less. absurd none)

  -- ---- out of bounds

  module _ (b : Flow) (s : shader.State) (units : ℕ) (state : State) (r : Reached) (l : Trail) (good : Good m input sections f p around b s state) (is : IsTrail m input sections f p around false loose b state r l) (outside : IsOutside p.structs p.blocks true t l) where
    abbrev Never : {A : Type 0} → A → Flow → Value → shader.State → State → Type 0
    Never a later one u last = ⊥

    both_out : (waits : Bool) → Does m input sections f p 0 units state (λ (kept : Kept). Never kept) none_waits Strays (read_both waits r b)
    both_out waits =
        does_then m input sections f p 0 units b state (λ (id : ℕ). Never id) none_waits (λ (kept : Kept). Never kept) none_waits Strays (λ one u left. Strays) (reads p.structs t r b) (held_both waits r) good.inside
        (adds_reads m input sections p.structs t r b) (adds_both waits r)
        (read_strays m input sections f p around operates.are loose true t b s state r l good is outside units (λ (id : ℕ). Never id) shape_apart)
        (λ id between one u left mid within grown none less. absurd none)
        (λ id between u left mid within grown none less. absurd none)

    begin_out : (waits : Bool) → Does m input sections f p 0 units state (λ (kept : Kept). Never kept) none_waits Strays (begin waits r b)
    begin_out false =
        subst (λ shape. Does m input sections f p 0 units state (λ (kept : Kept). Never kept) none_waits Strays ((lift (to_renew shape r) >>= read_both false) b)) (sym same_shape)
        (ready_strays m input sections f p around operates.are loose t operates.sound_left known.shape known.shaped units b s state r l (read_both false) (λ (kept : Kept). Never kept) good is outside (adds_read false) (both_out false))
    begin_out true = both_out true

    all_out : (waits : Bool) (value : Emit ℕ) → Adds value → Does m input sections f p 0 units state (Gives_ waits b state) none_waits Strays ((begin waits r >>= (λ kept. value >>= end waits kept)) b)
    all_out waits value adds =
        does_then m input sections f p 0 units b state (λ (kept : Kept). Never kept) none_waits (Gives_ waits b state) none_waits Strays (λ one u left. Strays) (begin waits r b) (λ kept. value >>= end waits kept) good.inside
        (adds_begin waits r b) (λ kept. adds_then value (end waits kept) adds (adds_end waits kept))
        (begin_out waits)
        (λ kept between one u left mid within grown none less. absurd none)
        (λ kept between u left mid within grown none less. absurd none)

module _ (m : Module) (input : Input) (sections : Sections) (f : Frame m input sections) (p : Program) (around : Around) (loose : Start) (knows : loose ≡ OfBlock → KnowsBuffers m input sections f p) (splits : Bool) (which : BinaryOp) (a b : Lower) (known : Updates p around which a.ty b.ty) (left : Run Access) (right : Run Value) where
  abbrev waits : Bool
  waits = b.traits.splits

  abbrev next : Reached → Emit ℕ
  next r = begin m input sections f p around loose knows a.ty b.ty which known waits r >>= (λ kept. b.value >>= end m input sections f p around loose knows a.ty b.ty which known waits kept)

  joined : (now : Flow) → updated p.structs which a b now ≡ (a.reach >>= next) now
  unfolding before_update after_update
  joined now = behind_assoc (a.reach now) (begin m input sections f p around loose knows a.ty b.ty which known waits) (λ kept. b.value >>= end m input sections f p around loose knows a.ty b.ty which known waits kept)

  -- an assignment by an operator reads the old value first, and stores the new one where the left side leads
  pub place_updated : GivesPlace m input sections f p around splits loose true a.ty a.reach left → GivesValue m input sections f p around b.traits.splits b.ty b.value right
      → GivesValue m input sections f p around (splits || b.traits.splits) a.ty (updated p.structs which a b) (update_means p.structs a.ty left right (binary_value which (is_signed a.ty)))
  place_updated leads gives = record {
    adds = λ now. subst (GrownTo now) (sym (joined now)) (all.adds now);
    does = λ now s units state good. subst (λ low. Does m input sections f p 0 units state (HasGiven m input sections f p around (splits || waits) a.ty now state) none_waits (update_means p.structs a.ty left right (binary_value which (is_signed a.ty)) s units) low) (sym (joined now)) (all.does now s units state good);
  }
    where
      adds_next : (r : Reached) → Adds (next r)
      adds_next r = adds_then (begin m input sections f p around loose knows a.ty b.ty which known waits r) (λ kept. b.value >>= end m input sections f p around loose knows a.ty b.ty which known waits kept) (adds_begin m input sections f p around loose knows a.ty b.ty which known waits r)
          (λ kept. adds_then b.value (end m input sections f p around loose knows a.ty b.ty which known waits kept) gives.adds (adds_end m input sections f p around loose knows a.ty b.ty which known waits kept))

      all : GivesValue m input sections f p around (splits || waits) a.ty (a.reach >>= next) (update_means p.structs a.ty left right (binary_value which (is_signed a.ty)))
      all = record {
        adds = adds_then a.reach next leads.adds adds_next;
        does = λ now s units state good.
            does_then m input sections f p 0 units now state (HasReached m input sections f p around splits loose true a.ty now state) (HasStrayed m input sections f p around splits loose true a.ty now state) (HasGiven m input sections f p around (splits || waits) a.ty now state) none_waits
            (left s units) (λ x. shader_run.◌>>=◌ (told_by (means_read p.structs a.ty x)) (λ old. shader_run.◌>>=◌ right (λ y. shader_run.◌>>=◌ (drawing (binary_value which (is_signed a.ty) old y)) (storing x)))) (a.reach now) next good.inside (leads.adds now) adds_next
            (leads.does now s units state good)
            (λ r between x u last mid within grown q less.
            from_before m input sections f p around a.ty splits waits (splits || waits) now between state mid u last (shader_run.◌>>=◌ right (λ y. shader_run.◌>>=◌ (drawing (binary_value which (is_signed a.ty) (means_read p.structs a.ty x u) y)) (storing x)) u last) (next r) (λ e. e) grown q.after
            (all_in m input sections f p around loose knows a.ty b.ty which known r x q.trail q.inside waits b.value right gives between u last mid q.after.good q.is))
            (λ r between u last mid within grown q less.
            from_before m input sections f p around a.ty splits waits (splits || waits) now between state mid u last Strays (next r) (λ e. e) grown q.after
            (all_out m input sections f p around loose knows a.ty b.ty which known between u last mid r q.trail q.after.good q.is q.outside waits b.value gives.adds));
      }
