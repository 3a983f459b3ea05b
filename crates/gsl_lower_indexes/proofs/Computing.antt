-- Indexes that are computed.
use Rattle.std.proofs.Common.{◌≡◌, ◌≢◌, refl, sym, ap, ◌∙◌, subst, inl, inr, ℕ, Bool, true, false, not, ◌&&◌, ◌||◌, Option, Some, None}
use Rattle.std.proofs.lemmas.Bool.{and_parts}
use Rattle.gsl_base.specs.declared.input.Input.{Input}
use Rattle.gsl_instr.specs.declared.enumerant.storage_class.TheConstants as storage_class
use Rattle.gsl_types.specs.Known.{AreStructs}
use Rattle.gsl_types.specs.declared.ty.Ty.{Ty}
use Rattle.gsl_types.specs.declared.ty.Ty.TheVariants.{Void}
use Rattle.gsl_words.specs.declared.module.Module.{Module}
use Rattle.gsl_values.specs.declared.value.Value.{Value}
use Rattle.gsl_tree.specs.Around.{Around}
use Rattle.gsl_tree.specs.Shapes.{Shape, shape_of}
use Rattle.gsl_tree.specs.Values.{is_value_of, word_in}
use Rattle.gsl_tree.specs.declared.program.Program.{Program}
use Rattle.gsl_meaning.specs.Accesses.{Access}
use Rattle.gsl_meaning.specs.Running.{Got, Run, Strays, indexing}
use Rattle.gsl_meaning.specs.Running as shader_run
use Rattle.gsl_meaning.specs.State as shader
use Rattle.gsl_machine.specs.State.{State}
use Rattle.gsl_spv.specs.Sections.{Sections}
use Rattle.gsl_lower_places.specs.Reached.{whole}
use Rattle.gsl_lower_places.specs.declared.reached.Base.TheVariants.{Variable}
use Rattle.gsl_lower_places.specs.declared.reached.Part.TheVariants.{By}
use Rattle.gsl_lower_places.specs.declared.reached.Reached.{Reached}
use Rattle.gsl_lower_traits.specs.Traits.{has_shape, is_dynamic, is_plain, spills}
use Rattle.gsl_lower_holders.specs.Flow.{Emit, Flow, behind, given, lift, ◌>>=◌}
use Rattle.gsl_lower_holders.specs.Waiting.{fetch_reached, hold_reached, keep}
use Rattle.gsl_lower_expr.specs.Parts.{Lower, after_index, before_index, index_by, indexed, known_of, probe, reads, scalar_of, spilled, step_into}
use Rattle.gsl_lower_follows.specs.Frames.{Frame, Good}
use Rattle.gsl_lower_follows.specs.Giving.{Adds, After, Does, GivesValue, GrownTo, none_waits}
use Rattle.gsl_lower_follows.proofs.Doing.{does_then}
use Rattle.gsl_lower_follows.proofs.Fetching.{adds_keep}
use Rattle.gsl_lower_follows.proofs.Growing.{adds_given, adds_then}
use Rattle.gsl_lower_follows.proofs.Holding.{after_then, does_so}
use Rattle.gsl_lower_law_expr.proofs.Short.{behind_assoc}
use Rattle.gsl_lower_reads.specs.OfElements.{Indexes, indexed_means}
use Rattle.gsl_lower_reads.specs.OfReaching.{GivesPlace, HasReached, HasStrayed, IsTrail, Start, is_of_value}
use Rattle.gsl_lower_reads.specs.OfReaching.{OfBlock, OfValue, OfVariable}
use Rattle.gsl_lower_reads.specs.OfReaching.{IsInside, IsOutside, Trail}
use Rattle.gsl_lower_reads.proofs.OfElements.{GoesOn, place_then}
use Rattle.gsl_lower_reads.specs.Waiting.{IsKept}
use Rattle.gsl_lower_reads.proofs.Probing.{adds_tested, kept_in as tested_in, kept_none as tested_none, kept_out as tested_out}
use Rattle.gsl_lower_reads.proofs.Adding.{adds_reads}
use Rattle.gsl_lower_reads.proofs.Straying.{read_strays}
use Rattle.gsl_lower_indexes.specs.Computed.{CanTest, MayCall, IsComputed, spilled_to}
use Rattle.gsl_lower_indexes.proofs.Spilling.{IsReady, MaySpill, adds_spilled, spilled_in}
use Rattle.gsl_lower_indexes.proofs.Stages.{adds_kept, behind_after, behind_kept, kept_in, kept_out}

value_start : (start : Start) → is_of_value start ≡ true → start ≡ OfValue
value_start OfVariable e = absurd (let z : false ≡ true = e in cc)
value_start OfValue e = refl
value_start OfBlock e = absurd (let z : false ≡ true = e in cc)

module _ (m : Module) (input : Input) (sections : Sections) (f : Frame m input sections) (p : Program) (around : Around) (are : AreStructs p.structs) where
  module _ (spill : Bool) (lies : Start) (writes : Bool) (base t : Ty) (is : Indexes p base t) (real_base : base ≢ Void) (may : MaySpill m input sections f p around are writes base is.sound spill lies) (fast : shape_of base ≡ None → spilled_to spill lies ≡ OfValue → ⊥) (i : Lower) (y : Run Value) (real : i.ty ≢ Void) (known : MayCall i y)
      (gives : GivesValue m input sections f p around i.traits.splits i.ty i.value y) where
    abbrev loose : Start
    loose = spilled_to spill lies

    abbrev more : Bool
    more = i.traits.splits

    abbrev Reaches : Bool → Flow → State → Reached → Flow → Access → shader.State → State → Type 0
    Reaches splits b state = HasReached m input sections f p around splits loose writes t b state

    abbrev Strayed : Bool → Flow → State → Reached → Flow → shader.State → State → Type 0
    Strayed splits b state = HasStrayed m input sections f p around splits loose writes t b state

    abbrev goes : Access → Run Access
    goes x = shader_run.◌>>=◌ y (λ v. indexing x (word_in v))

    abbrev rest : Reached → Emit Reached
    rest = behind_kept m input sections f p around are loose writes base t is.sound is.sound_part is.element fast i y real known gives

    -- it is tested where the index calls, and waits
    abbrev then_held : Bool → Reached → Emit Reached
    then_held calls x = lift (probe p.structs calls base x) >>= (λ done. hold_reached more x)

    abbrev held : Reached → Emit Reached
    held r = spilled p.structs spill base r >>= then_held i.traits.calls

    abbrev pub next : Reached → Emit Reached
    next r = held r >>= rest

    adds_rest : (kept : Reached) → Adds (rest kept)
    adds_rest kept = adds_kept m input sections f p around are loose writes base t is.sound is.sound_part is.element fast i y real known gives kept

    adds_before : (r : Reached) → Adds (held r)
    adds_before r = adds_then (spilled p.structs spill base r) (then_held i.traits.calls) (adds_spilled m input sections f p around are writes base is.sound spill r) (adds_tested m input sections p.structs i.traits.calls more base)

    -- it leads where the access does, or waits to, and the shader is where it was
    record IsHeld (a : Access) (s : shader.State) (b : Flow) (state : State) (kept : Reached) (later : Flow) (one : Unit {0}) (u : shader.State) (last : State) : Type 0 where
      trail : Trail
      kept_is : IsTrail m input sections f p around more loose later last kept trail
      inside : IsInside p.structs p.blocks writes base a trail
      after : After m input sections f p around false b state later u last
      still : u ≡ s

    module _ (b : Flow) (s : shader.State) (units : ℕ) (state : State) (r : Reached) (l : Trail) (good : Good m input sections f p around b s state) (trail_is : IsTrail m input sections f p around false lies b state r l) where
      held_in : (a : Access) → IsInside p.structs p.blocks writes base a l → Does m input sections f p 0 units state (IsHeld a s b state) none_waits (Got tt s units) (held r b)
      held_in a inside =
          does_then m input sections f p 0 units b state (IsReady m input sections f p around are writes base is.sound loose a s b state) none_waits (IsHeld a s b state) none_waits (Got tt s units) (λ one u left. Got tt u left) (spilled p.structs spill base r b) (then_held i.traits.calls) good.inside
          (adds_spilled m input sections f p around are writes base is.sound spill r b) (adds_tested m input sections p.structs i.traits.calls more base)
          (spilled_in m input sections f p around are writes base is.sound real_base a s units b state r l good inside spill lies may trail_is)
          (λ to between one u left mid within grown x less.
          does_so m input sections f p around 0 left mid (IsKept m input sections f p around more loose x.trail u between mid) (IsHeld a s b state) (Got tt u left) (then_held i.traits.calls to between)
          (λ kept later two w last z. record { trail = x.trail; kept_is = z.is; inside = x.inside; after = after_then m input sections f p around false false b between later state mid last u w grown x.after z.after; still = z.still ∙ x.still })
          (tested_in m input sections f p around are loose writes base is.sound between u left mid to x.trail x.after.good x.is i.traits.calls more a x.inside))
          (λ to between u left mid within grown none less. absurd none)

      next_in : (a : Access) → IsInside p.structs p.blocks writes base a l → Does m input sections f p 0 units state (Reaches more b state) (Strayed more b state) (goes a s units) (next r b)
      next_in a inside =
          does_then m input sections f p 0 units b state (IsHeld a s b state) none_waits (Reaches more b state) (Strayed more b state) (Got tt s units) (λ one u left. goes a u left) (held r b) rest good.inside (adds_before r b) adds_rest
          (held_in a inside)
          (λ kept between one u left mid within grown x less.
          behind_after m input sections f p around are loose writes base t is.sound is.sound_part is.element fast i y real known gives false more more b between state mid u left (goes a u left) (rest kept between) (λ e. e) grown x.after
          (kept_in m input sections f p around are loose writes base t is.sound is.sound_part is.element fast i y real known gives between u left mid kept x.trail x.after.good x.kept_is a x.inside))
          (λ kept between u left mid within grown none less. absurd none)

    abbrev Never : {A : Type 0} → A → Flow → Unit {0} → shader.State → State → Type 0
    Never a later one u last = ⊥

    -- behind an index that was out of bounds
    next_out : (b : Flow) (s : shader.State) (units : ℕ) (state : State) (r : Reached) (l : Trail) → Good m input sections f p around b s state → IsTrail m input sections f p around false lies b state r l → IsOutside p.structs p.blocks writes base l
        → (i.traits.calls ≡ true → (v : Value) × (is_value_of p.structs base v ≡ true)) → Does m input sections f p 0 units state (Reaches more b state) (Strayed more b state) Strays (next r b)
    next_out b s units state r l good trail_is outside some = by_spill spill may fast
      where
        by_spill : (spill : Bool) (may : MaySpill m input sections f p around are writes base is.sound spill lies) (fast : shape_of base ≡ None → spilled_to spill lies ≡ OfValue → ⊥)
            → Does m input sections f p 0 units state (HasReached m input sections f p around more (spilled_to spill lies) writes t b state) (HasStrayed m input sections f p around more (spilled_to spill lies) writes t b state) Strays
            ((spilled p.structs spill base r >>= then_held i.traits.calls >>= behind_kept m input sections f p around are (spilled_to spill lies) writes base t is.sound is.sound_part is.element fast i y real known gives) b)
        by_spill false may fast = by_calls i.traits.calls refl
          where
            adds_here : (kept : Reached) → Adds (behind_kept m input sections f p around are lies writes base t is.sound is.sound_part is.element fast i y real known gives kept)
            adds_here kept = adds_kept m input sections f p around are lies writes base t is.sound is.sound_part is.element fast i y real known gives kept

            by_calls : (calls : Bool) → i.traits.calls ≡ calls → Does m input sections f p 0 units state (HasReached m input sections f p around more lies writes t b state) (HasStrayed m input sections f p around more lies writes t b state) Strays ((then_held calls r >>= behind_kept m input sections f p around are lies writes base t is.sound is.sound_part is.element fast i y real known gives) b)
            by_calls false e =
                does_then m input sections f p 0 units b state (IsKept m input sections f p around more lies l s b state) none_waits (HasReached m input sections f p around more lies writes t b state) (HasStrayed m input sections f p around more lies writes t b state) (Got tt s units) (λ one u left. Strays) (then_held false r b)
                (behind_kept m input sections f p around are lies writes base t is.sound is.sound_part is.element fast i y real known gives) good.inside (adds_tested m input sections p.structs false more base r b) adds_here
                (tested_none m input sections f p around are lies writes base is.sound b s units state r l good trail_is more)
                (λ kept between one u left mid within grown x less.
                behind_after m input sections f p around are lies writes base t is.sound is.sound_part is.element fast i y real known gives false more more b between state mid u left Strays (behind_kept m input sections f p around are lies writes base t is.sound is.sound_part is.element fast i y real known gives kept between) (λ e. e) grown x.after
                (kept_out m input sections f p around are lies writes base t is.sound is.sound_part is.element fast i y real known gives between u left mid kept l x.after.good x.is e outside))
                (λ kept between u left mid within grown none less. absurd none)
            by_calls true e =
                does_then m input sections f p 0 units b state Never none_waits (HasReached m input sections f p around more lies writes t b state) (HasStrayed m input sections f p around more lies writes t b state) Strays (λ one u left. Strays) (then_held true r b)
                (behind_kept m input sections f p around are lies writes base t is.sound is.sound_part is.element fast i y real known gives) good.inside (adds_tested m input sections p.structs true more base r b) adds_here
                (tested_out m input sections f p around are lies writes base is.sound b s units state r l good trail_is Never more (some e) outside)
                (λ kept between one u left mid within grown none less. absurd none) (λ kept between u left mid within grown none less. absurd none)
        by_spill true may fast =
            does_then m input sections f p 0 units b state Never none_waits (HasReached m input sections f p around more OfVariable writes t b state) (HasStrayed m input sections f p around more OfVariable writes t b state) Strays (λ one u left. Strays)
            ((reads p.structs base r >>= keep >>= (λ h. given (whole (Variable h storage_class.FUNCTION))) >>= then_held i.traits.calls) b)
            (behind_kept m input sections f p around are OfVariable writes base t is.sound is.sound_part is.element fast i y real known gives) good.inside
            (adds_then (reads p.structs base r >>= keep >>= (λ h. given (whole (Variable h storage_class.FUNCTION)))) (then_held i.traits.calls) (adds_then (reads p.structs base r >>= keep) (λ h. given (whole (Variable h storage_class.FUNCTION))) adds_kept_read (λ h. adds_given (whole (Variable h storage_class.FUNCTION)))) (adds_tested m input sections p.structs i.traits.calls more base) b)
            (adds_kept m input sections f p around are OfVariable writes base t is.sound is.sound_part is.element fast i y real known gives)
            (does_then m input sections f p 0 units b state Never none_waits Never none_waits Strays (λ one u left. Strays) ((reads p.structs base r >>= keep >>= (λ h. given (whole (Variable h storage_class.FUNCTION)))) b) (then_held i.traits.calls) good.inside
            (adds_then (reads p.structs base r >>= keep) (λ h. given (whole (Variable h storage_class.FUNCTION))) adds_kept_read (λ h. adds_given (whole (Variable h storage_class.FUNCTION))) b) (adds_tested m input sections p.structs i.traits.calls more base)
            (does_then m input sections f p 0 units b state Never none_waits Never none_waits Strays (λ one u left. Strays) ((reads p.structs base r >>= keep) b) (λ h. given (whole (Variable h storage_class.FUNCTION))) good.inside
            (adds_kept_read b) (λ h. adds_given (whole (Variable h storage_class.FUNCTION)))
            (does_then m input sections f p 0 units b state Never none_waits Never none_waits Strays (λ one u left. Strays) (reads p.structs base r b) keep good.inside (adds_reads m input sections p.structs base r b) adds_keep
            (read_strays m input sections f p around are lies writes base b s state r l good trail_is outside units Never (λ none e. absurd (let z : OfValue ≡ OfBlock = sym (may.lies_so refl) ∙ e in cc)))
            (λ id between one u left mid within grown none less. absurd none) (λ id between u left mid within grown none less. absurd none))
            (λ h between one u left mid within grown none less. absurd none) (λ h between u left mid within grown none less. absurd none))
            (λ to between one u left mid within grown none less. absurd none) (λ to between u left mid within grown none less. absurd none))
            (λ kept between one u left mid within grown none less. absurd none) (λ kept between u left mid within grown none less. absurd none)
          where
            adds_kept_read : Adds (reads p.structs base r >>= keep)
            adds_kept_read = adds_then (reads p.structs base r) keep (adds_reads m input sections p.structs base r) adds_keep

    pub goes_on : (splits : Bool) (reach : Emit Reached) (run : Run Access) → (i.traits.calls ≡ true → CanTest p base run) → GoesOn m input sections f p around splits more lies loose writes base t reach run next goes
    goes_on splits reach run test = record {
      adds = λ r. adds_then (held r) rest (adds_before r) adds_rest;
      inside = λ b s units state r x l good trail_is inside. next_in b s units state r l good trail_is x inside;
      outside = λ b s units state r l good trail_is outside origin budget strays. next_out b s units state r l good trail_is outside (λ calls. some_of (test calls) origin budget strays);
    }
      where
        some_of : CanTest p base run → (origin : shader.State) (budget : ℕ) → run origin budget ≡ Strays → (v : Value) × (is_value_of p.structs base v ≡ true)
        some_of (inl some) origin budget strays = some
        some_of (inr never) origin budget strays = absurd (never origin budget strays)

  -- ---- as it is lowered

  module _ (splits writes : Bool) (start : Start) (t : Ty) (a i : Lower) (run : Run Access) (y : Run Value) (start_is : is_of_value start ≡ a.traits.is_loose) (is : Indexes p a.ty t) (real_base : a.ty ≢ Void) (real : i.ty ≢ Void) (known : MayCall i y) (test : i.traits.calls ≡ true → CanTest p a.ty run) (gives : GivesValue m input sections f p around i.traits.splits i.ty i.value y) where
    abbrev spill_of : Bool
    spill_of = a.traits.is_loose && is_dynamic i.traits.literal && not (is_plain a.ty)

    spill_is : spill_of ≡ (a.traits.is_loose && true && not (is_plain a.ty))
    spill_is = ap (λ o. a.traits.is_loose && is_dynamic o && not (is_plain a.ty)) known.computed

    shapeless_of : (o : Option Shape) → not (has_shape o) ≡ true → o ≡ None
    shapeless_of None e = refl
    shapeless_of (Some shape) e = absurd (let z : false ≡ true = e in cc)

    may : MaySpill m input sections f p around are writes a.ty is.sound spill_of start
    may = record {
      lies_so = λ e. value_start start (start_is ∙ (and_parts a.traits.is_loose (is_dynamic i.traits.literal) (and_parts (a.traits.is_loose && is_dynamic i.traits.literal) (not (is_plain a.ty)) e).0).0);
      shapeless = λ e. shapeless_of (shape_of a.ty) (and_parts (a.traits.is_loose && is_dynamic i.traits.literal) (not (is_plain a.ty)) e).1;
    }

    fast : shape_of a.ty ≡ None → spilled_to spill_of start ≡ OfValue → ⊥
    fast none e = by start a.traits.is_loose start_is (sym (ap (λ c. spilled_to c start) (spill_is ∙ ap (λ o. a.traits.is_loose && true && not (has_shape o)) none)) ∙ e)
      where
        by : (start : Start) (c : Bool) → is_of_value start ≡ c → spilled_to (c && true && not false) start ≡ OfValue → ⊥
        by OfVariable true is e = absurd (let z : false ≡ true = is in cc)
        by OfVariable false is e = absurd (let z : OfVariable ≡ OfValue = e in cc)
        by OfValue true is e = absurd (let z : OfVariable ≡ OfValue = e in cc)
        by OfValue false is e = absurd (let z : true ≡ false = is in cc)
        by OfBlock true is e = absurd (let z : false ≡ true = is in cc)
        by OfBlock false is e = absurd (let z : OfBlock ≡ OfValue = e in cc)

    abbrev next_all : Reached → Emit Reached
    next_all = next spill_of start writes a.ty t is real_base may fast i y real known gives

    abbrev next_by : Option ℕ → Reached → Emit Reached
    next_by literal r =
        spilled p.structs spill_of a.ty r >>= (λ x. lift (probe p.structs i.traits.calls a.ty x) >>= (λ done. hold_reached i.traits.splits x)) >>= (λ kept. index_by i literal >>= (λ part. fetch_reached i.traits.splits kept >>= (λ to. lift (step_into (shape_of a.ty) part to))))

    abbrev next_code : Reached → Emit Reached
    next_code r = before_index p.structs (known_of a) i.traits r >>= (λ kept. index_by i i.traits.literal >>= after_index a.ty i.traits kept)

    straight : (r : Reached) (b : Flow) → next_by None r b ≡ next_all r b
    straight r b =
        ap (behind ((spilled p.structs spill_of a.ty r >>= (λ x. lift (probe p.structs i.traits.calls a.ty x) >>= (λ done. hold_reached i.traits.splits x))) b))
        (λ j kept flow. behind_assoc (i.value flow) (λ id. given (By (scalar_of i.ty) id)) (λ part. fetch_reached i.traits.splits kept >>= (λ to. lift (step_into (shape_of a.ty) part to))) j)

    next_is : (r : Reached) (b : Flow) → next_code r b ≡ next_all r b
    next_is r b = ap (λ o. next_by o r b) known.computed ∙ straight r b

    joined : (b : Flow) → indexed p.structs a i b ≡ (a.reach >>= next_all) b
    joined b =
        behind_assoc (a.reach b) (before_index p.structs (known_of a) i.traits) (λ kept. index_by i i.traits.literal >>= after_index a.ty i.traits kept)
        ∙ ap (behind (a.reach b)) (λ j r flow. next_is r flow j)

    pub index_place : GivesPlace m input sections f p around splits start writes a.ty a.reach run → GivesPlace m input sections f p around (splits || i.traits.splits) (spilled_to spill_of start) writes t (indexed p.structs a i) (indexed_means run y)
    index_place leads =
        let all = place_then m input sections f p around splits i.traits.splits start (spilled_to spill_of start) writes a.ty t a.reach run next_all (λ x. shader_run.◌>>=◌ y (λ v. indexing x (word_in v))) leads
        (goes_on spill_of start writes a.ty t is real_base may fast i y real known gives splits a.reach run test) in
        record {
          adds = λ b. subst (GrownTo b) (sym (joined b)) (all.adds b);
          does = λ b s units state good.
              subst (λ low. Does m input sections f p 0 units state (HasReached m input sections f p around (splits || i.traits.splits) (spilled_to spill_of start) writes t b state)
              (HasStrayed m input sections f p around (splits || i.traits.splits) (spilled_to spill_of start) writes t b state) (indexed_means run y s units) low) (sym (joined b)) (all.does b s units state good);
        }

  -- where the index calls no function, nothing is tested
  pub computed_place : (splits writes : Bool) (start : Start) (t : Ty) (a i : Lower) (run : Run Access) (y : Run Value) → is_of_value start ≡ a.traits.is_loose → Indexes p a.ty t → a.ty ≢ Void → i.ty ≢ Void → IsComputed i y → GivesValue m input sections f p around i.traits.splits i.ty i.value y
      → GivesPlace m input sections f p around splits start writes a.ty a.reach run → GivesPlace m input sections f p around (splits || i.traits.splits) (spilled_to (spills (known_of a) i.traits) start) writes t (indexed p.structs a i) (indexed_means run y)
  computed_place splits writes start t a i run y start_is is real_base real known gives leads =
      index_place splits writes start t a i run y start_is is real_base real (record { computed = known.computed; number = known.integer; comes = λ alone. known.comes }) (λ calls. absurd (let z : false ≡ true = sym known.calls_none ∙ calls in cc)) gives leads
