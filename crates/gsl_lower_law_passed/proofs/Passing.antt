-- Arguments that are passed, from left to right.
use Rattle.std.proofs.Common.{◌≡◌, refl, sym, ap, ◌∙◌, subst, ℕ, ◌+◌, ◌≤◌, Bool, true, false, ◌||◌, List, [], ◌∷◌, map, Option, Some, None, arith}
use Rattle.std.specs.Prelude.{slice_get}
use Rattle.std.specs.List.{AllByRecursion}
use Rattle.gsl_base.specs.declared.input.Input.{Input}
use Rattle.gsl_types.specs.Known.{AreStructs}
use Rattle.gsl_types.specs.declared.ty.Direction.{Direction}
use Rattle.gsl_types.specs.declared.ty.Direction.TheVariants.{In, Out, InOut}
use Rattle.gsl_types.specs.declared.ty.Ty.{Ty}
use Rattle.gsl_words.specs.declared.module.Module.{Module}
use Rattle.gsl_values.specs.declared.value.Value.{Value}
use Rattle.gsl_tree.specs.Around.{Around}
use Rattle.gsl_tree.specs.Shapes.{Shape, shape_of}
use Rattle.gsl_tree.specs.Values.{is_value_of, zero_value}
use Rattle.gsl_tree.specs.declared.program.Program.{Program}
use Rattle.gsl_meaning.specs.Accesses.{Access, read as means_read}
use Rattle.gsl_meaning.specs.Expressions as shader_expr
use Rattle.gsl_meaning.specs.Expressions.{Meant, Passed as ShaderPassed}
use Rattle.gsl_meaning.specs.Running.{Got, Run, Strays}
use Rattle.gsl_meaning.specs.Running as shader_run
use Rattle.gsl_meaning.specs.State as shader
use Rattle.gsl_machine.specs.State.{State}
use Rattle.gsl_spv.specs.Sections.{Sections}
use Rattle.gsl_lower_places.specs.declared.reached.Part.{Part}
use Rattle.gsl_lower_places.specs.declared.reached.Part.TheVariants.{Fixed, By}
use Rattle.gsl_lower_places.specs.declared.reached.Picked.{Picked}
use Rattle.gsl_lower_places.specs.declared.reached.Reached.{Reached}
use Rattle.gsl_lower_law.specs.Values.{Stands}
use Rattle.gsl_lower_holders.specs.Flow.{Emit, Flow, given, lift, ◌>>=◌}
use Rattle.gsl_lower_holders.specs.Waiting.{hold_reached, keep}
use Rattle.gsl_lower_holders.specs.declared.place.FlowPlace.{FlowPlace}
use Rattle.gsl_lower_expr.specs.Calls.{coming_back, going_in, passed, passed_both, passed_out, passing, passing_all, zeros}
use Rattle.gsl_lower_expr.specs.Parts.{Lower, any_splits, probe, reads}
use Rattle.gsl_lower_follows.specs.Frames.{Frame, Good}
use Rattle.gsl_lower_follows.specs.Giving.{Adds, After, Does, Grown, HasGiven, none_waits}
use Rattle.gsl_lower_follows.proofs.Behind.{reaches_here}
use Rattle.gsl_lower_follows.proofs.Doing.{does_then}
use Rattle.gsl_lower_follows.proofs.Fetching.{adds_keep}
use Rattle.gsl_lower_follows.proofs.Growing.{adds_given, adds_then, grown_then}
use Rattle.gsl_lower_follows.proofs.Holding.{NowWaits, after_any, after_same, after_then, does_keep, does_so}
use Rattle.gsl_lower_law_expr.proofs.Operands.{after_less, given_value}
use Rattle.gsl_lower_law_functions.proofs.Passing.{Passed, still_held}
use Rattle.gsl_lower_reaching.specs.Reaching.{HasReached, HasStrayed, IsTrail}
use Rattle.gsl_lower_reaching.specs.Trails.{IsInside, IsOutside, Trail}
use Rattle.gsl_lower_reaching.proofs.Moving.{trail_after}
use Rattle.gsl_lower_stores.specs.OfReads.{IsTested}
use Rattle.gsl_lower_stores.specs.OfReads.{IsKept}
use Rattle.gsl_lower_stores.proofs.OfReads.{adds_held, is_held}
use Rattle.gsl_lower_stores.proofs.OfReads.{adds_reads}
use Rattle.gsl_lower_stores.proofs.OfReads.{adds_probe, probe_in, probe_out}
use Rattle.gsl_lower_stores.proofs.OfReads.{read_strays}
use Rattle.gsl_lower_stores.proofs.OfReads.{taken}
use Rattle.gsl_lower_law_gathered.proofs.Given.{any_strays, any_taken}
use Rattle.gsl_lower_law_passed.specs.Arguments.{AllServe, ComesBack, GoesIn, HasZeros, KnowsWhole, Serves}
use Rattle.gsl_lower_law_passed.proofs.Fresh.{AreIds, FreshBy, PartIf, PartIs, PickedIf, does_with, held_fresh}
use Rattle.gsl_lower_law_passed.proofs.Items.{AreItems, IsItem, Item, back_after, meant_of, way_of, ways_of}

-- ids that are so are otherwise too
pub ids_so : (one other : ℕ → Type 0) → ((id : ℕ) → one id → other id) → (r : Reached) → AreIds one r → AreIds other r
ids_so one other so r is = record { parts = all r.path is.parts; picked = picked r.picked is.picked }
  where
    part : (x : Part) → PartIs one x → PartIs other x
    part (Fixed number) is = tt
    part (By s id) is = so id is

    all : (parts : List Part) → AllByRecursion (PartIs one) parts → AllByRecursion (PartIs other) parts
    all [] is = tt
    all (x ∷ parts) is = (part x is.0, all parts is.1)

    by : (o : Option Part) → PartIf one o → PartIf other o
    by None is = tt
    by (Some x) is = part x is

    picked : (o : Option Picked) → PickedIf one o → PickedIf other o
    picked None is = tt
    picked (Some p) is = by p.by is

wider : (waits : Bool) (holders others : List ℕ) (low high few many id : ℕ) → holders ≡ others → few ≤ low → high ≤ many → FreshBy waits holders low high id → FreshBy waits others few many id
wider false holders others low high few many id same less more is = tt
wider true holders others low high few many id same less more (k, from, to, there) = (k, omega (arith, from, less), omega (arith, to, more), ap (λ l. slice_get l k) (sym same) ∙ there)

module _ (m : Module) (input : Input) (whole : Sections) (f : Frame m input whole) (p : Program) (around : Around) where
  -- An argument was passed behind so many holders.
  record IsPassed (splits : Bool) (first : ℕ) (waits : Bool) (t : Ty) (e : Lower) (x : Meant) (b : Flow) (state : State) (pass : Passed) (later : Flow) (q : ShaderPassed) (s : shader.State) (last : State) : Type 0 where
    item : Item
    is : pass ≡ way_of waits item
    means : q ≡ meant_of item
    one : IsItem m input whole f p around first waits t e x later last item
    after : After m input whole f p around splits b state later s last

  or_none : (c : Bool) → c ≡ false → (c || false) ≡ false
  or_none true e = absurd cc
  or_none false e = refl

  passed_from : (first : Bool) (number : ℕ) (waits : Bool) (t : Ty) (e : Lower) (x : Meant) (b between later : Flow) (state mid last : State) (u w : shader.State) (pass : Passed) (q : ShaderPassed) → Grown b between → After m input whole f p around first b state between u mid → IsPassed false number waits t e x between mid pass later q w last
      → IsPassed first number waits t e x b state pass later q w last
  passed_from first number waits t e x b between later state mid last u w pass q grown after one =
      record { item = one.item; is = one.is; means = one.means; one = one.one; after = after_less m input whole f p around (first || false) first b later state last w (or_none first) (after_then m input whole f p around first false b between later state mid last u w grown after one.after) }

  -- ---- what comes back

  adds_coming : (waits : Bool) (r : Reached) (v : ℕ) → Adds (coming_back waits r v)
  unfolding coming_back
  adds_coming waits r v =
      adds_then (hold_reached waits r) (λ kept. keep v >>= (λ h. given (passed h waits (Some kept)))) (adds_held waits r) (λ kept. adds_then (keep v) (λ h. given (passed h waits (Some kept))) (adds_keep v) (λ h. adds_given (passed h waits (Some kept))))

  module _ (first : ℕ) (waits : Bool) (t : Ty) (e : Lower) (x : Meant) (c : ComesBack m input whole f p around t e x) (a : Access) where
    -- what it leads to is kept in holders that were not in use
    record HeldFresh (l : Trail) (s : shader.State) (b : Flow) (state : State) (kept : Reached) (later : Flow) (one : Unit {0}) (u : shader.State) (last : State) : Type 0 where
      kept_is : IsKept m input whole f p around waits c.start l s b state kept later one u last
      fresh : AreIds (FreshBy waits b.place.holders b.place.used later.place.used) kept

    done : (l : Trail) → IsInside p.structs p.blocks true e.ty a l → (v : Value) → is_value_of p.structs t v ≡ true → (b between later : Flow) (s u w : shader.State) (state mid last : State) → Good m input whole f p around b s state → first ≤ b.place.used → Grown b between → Grown between later → (kept : Reached) → HeldFresh l s b state kept between tt u mid
        → (h : ℕ) → NowWaits m input whole f p around v between mid h later tt w last → IsPassed false first waits t e x b state (passed h waits (Some kept)) later (record { value = v; back = Some a }) w last
    done l inside v typed b between later s u w state mid last good enough grown more kept k h now = record {
      item = record { argument = record { id = h; holder = now.1.0.holder; seat = now.1.0.number; value = v }; back = Some kept; access = Some a };
      is = refl;
      means = refl;
      one = record {
        comes = λ other same. c;
        typed = typed;
        held = record { behind = (let used = grown.used in let next = now.1.1 in omega (arith, used, next, enough)); seat = now.1.0.seat; points = now.1.0.points; value = now.1.0.value };
        below = now.1.0.among;
        back = record {
          trail = l;
          start = c.start;
          knows = c.knows;
          is = trail_after m input whole f p around waits c.start between later mid last w kept l more (after_any m input whole f p around waits between later mid last w now.0) k.kept_is.is;
          inside = inside;
          fresh = ids_so (FreshBy waits b.place.holders b.place.used between.place.used) (FreshBy waits f.place.holders first now.1.0.holder)
              (λ id here. wider waits b.place.holders f.place.holders b.place.used between.place.used first now.1.0.holder id (ap (λ (place : FlowPlace). place.holders) good.seated.same) enough now.1.1 here) kept k.fresh;
        };
      };
      after = after_then m input whole f p around false false b between later state mid last u w grown k.kept_is.after now.0;
    }

    does_coming : (l : Trail) → IsInside p.structs p.blocks true e.ty a l → (r : Reached) (id : ℕ) (v : Value) (b : Flow) (s : shader.State) (units : ℕ) (state : State) → Good m input whole f p around b s state → first ≤ b.place.used → IsTrail m input whole f p around false c.start b state r l → is_value_of p.structs t v ≡ true
        → Stands state.ids id v → Does m input whole f p 0 units state (IsPassed false first waits t e x b state) none_waits (Got (record { value = v; back = Some a }) s units) (coming_back waits r id b)
    unfolding coming_back
    does_coming l inside r id v b s units state good enough is typed stands =
        does_then m input whole f p 0 units b state (HeldFresh l s b state) none_waits (IsPassed false first waits t e x b state) none_waits (Got tt s units) (λ (one : Unit {0}). shader_run.given {A = ShaderPassed} (record { value = v; back = Some a })) (hold_reached waits r b) (λ kept. keep id >>= (λ h. given (passed h waits (Some kept)))) good.inside
        (adds_held waits r b) (λ kept. adds_then (keep id) (λ h. given (passed h waits (Some kept))) (adds_keep id) (λ h. adds_given (passed h waits (Some kept))))
        (does_with m input whole f p units state (λ kept later. AreIds (FreshBy waits b.place.holders b.place.used later.place.used) kept) (IsKept m input whole f p around waits c.start l s b state) (HeldFresh l s b state) none_waits (Got tt s units) (hold_reached waits r b) (held_fresh waits r b)
        (λ kept later one u last fresh x. record { kept_is = x; fresh = fresh })
        (is_held m input whole f p around s c.start waits r l units b state good is))
        (λ kept between one u left mid within grown k less.
        does_then m input whole f p 0 left between mid (NowWaits m input whole f p around v between mid) none_waits (IsPassed false first waits t e x b state) none_waits (Got tt u left) (λ (one : Unit {0}). shader_run.given {A = ShaderPassed} (record { value = v; back = Some a })) (keep id between) (λ h. given (passed h waits (Some kept))) within
        (adds_keep id between) (λ h. adds_given (passed h waits (Some kept)))
        (does_keep m input whole f p around id v left between u mid k.kept_is.after.good ((k.kept_is.after.ids refl).same id _ stands))
        (λ h later two w rest last within2 more now less2. λ there. reaches_here m input rest last (IsPassed false first waits t e x b state (passed h waits (Some kept)) later (record { value = v; back = Some a }) w) (done l inside v typed b between later s u w state mid last good enough grown more kept k h now))
        (λ h later w rest last within2 more none less2. absurd none))
        (λ kept between u left mid within grown none less. absurd none)

  module _ (are : AreStructs p.structs) (first : ℕ) (waits : Bool) (t : Ty) (e : Lower) (x : Meant) where
    abbrev Passes : Direction → Type 0
    Passes way = (b : Flow) (s : shader.State) (units : ℕ) (state : State) → Good m input whole f p around b s state → first ≤ b.place.used
        → Does m input whole f p 0 units state (IsPassed e.traits.splits first waits t e x b state) none_waits (shader_expr.passing p.structs way t x s units) (passing p.structs waits way t e b)

    -- ---- in alone

    adds_in : GoesIn m input whole f p around t e x → Adds (passing p.structs waits In t e)
    unfolding going_in
    adds_in g = adds_then e.value going_in g.gives.adds (λ v. adds_then (keep v) (λ h. given (passed h false None)) (adds_keep v) (λ h. adds_given (passed h false None)))

    passes_in : GoesIn m input whole f p around t e x → Passes In
    unfolding going_in
    passes_in g b s units state good enough =
        does_then m input whole f p 0 units b state (HasGiven m input whole f p around e.traits.splits t b state) none_waits (IsPassed e.traits.splits first waits t e x b state) none_waits (x.value s units) (λ v. shader_run.given {A = ShaderPassed} (record { value = v; back = None })) (e.value b) going_in good.inside
        (g.gives.adds b) (λ v. adds_then (keep v) (λ h. given (passed h false None)) (adds_keep v) (λ h. adds_given (passed h false None)))
        (g.gives.does b s units state good)
        (λ id between v u left mid within grown has less.
        let got = given_value m input whole f p around mid.ids id t v g.real has.given in
        does_then m input whole f p 0 left between mid (NowWaits m input whole f p around v between mid) none_waits (IsPassed e.traits.splits first waits t e x b state) none_waits (Got tt u left) (λ (one : Unit {0}). shader_run.given {A = ShaderPassed} (record { value = v; back = None })) (keep id between) (λ h. given (passed h false None)) within
        (adds_keep id between) (λ h. adds_given (passed h false None))
        (does_keep m input whole f p around id v left between u mid has.after.good got.1)
        (λ h later two w rest last within2 more now less2. λ there. reaches_here m input rest last (IsPassed e.traits.splits first waits t e x b state (passed h false None) later (record { value = v; back = None }) w)
        (passed_from e.traits.splits first waits t e x b between later state mid last u w (passed h false None) (record { value = v; back = None }) grown has.after (record {
          item = record { argument = record { id = h; holder = now.1.0.holder; seat = now.1.0.number; value = v }; back = None; access = None };
          is = refl;
          means = refl;
          one = record { comes = λ other same. absurd (let z : None ≡ Some other = same in cc); typed = got.0; held = record { behind = (let used = grown.used in let next = now.1.1 in omega (arith, used, next, enough)); seat = now.1.0.seat; points = now.1.0.points; value = now.1.0.value }; below = now.1.0.among; back = tt };
          after = now.0;
        })))
        (λ h later w rest last within2 more none less2. absurd none))
        (λ id between u left mid within grown none less. absurd none)

    -- ---- what comes back

    module _ (c : ComesBack m input whole f p around t e x) where
      -- what it leads to, and what goes on with that
      module _ (next : Reached → Emit Passed) (adds : (r : Reached) → Adds (next r)) (go : Access → Run ShaderPassed)
          (inside_does : (a : Access) (l : Trail) → IsInside p.structs p.blocks true e.ty a l → (r : Reached) (b : Flow) (s : shader.State) (units : ℕ) (state : State) → Good m input whole f p around b s state → first ≤ b.place.used → IsTrail m input whole f p around false c.start b state r l
          → Does m input whole f p 0 units state (IsPassed false first waits t e x b state) none_waits (go a s units) (next r b))
          (outside_does : (l : Trail) → IsOutside p.structs p.blocks true e.ty l → (r : Reached) (b : Flow) (s : shader.State) (units : ℕ) (state : State) → Good m input whole f p around b s state → IsTrail m input whole f p around false c.start b state r l
          → Does m input whole f p 0 units state (λ pass later (q : ShaderPassed) u last. ⊥) none_waits Strays (next r b)) where
        led : (b : Flow) (s : shader.State) (units : ℕ) (state : State) → Good m input whole f p around b s state → first ≤ b.place.used → Does m input whole f p 0 units state (IsPassed e.traits.splits first waits t e x b state) none_waits (shader_run.◌>>=◌ x.access go s units) ((e.reach >>= next) b)
        led b s units state good enough =
            does_then m input whole f p 0 units b state (HasReached m input whole f p around e.traits.splits c.start true e.ty b state) (HasStrayed m input whole f p around e.traits.splits c.start true e.ty b state) (IsPassed e.traits.splits first waits t e x b state) none_waits
            (x.access s units) go (e.reach b) next good.inside (c.leads.adds b) adds
            (c.leads.does b s units state good)
            (λ r between a u left mid within grown q less.
            does_so m input whole f p around 0 left mid (IsPassed false first waits t e x between mid) (IsPassed e.traits.splits first waits t e x b state) (go a u left) (next r between)
            (λ pass later z w last one. passed_from e.traits.splits first waits t e x b between later state mid last u w pass z grown q.after one)
            (inside_does a q.trail q.inside r between u left mid q.after.good (let used = grown.used in omega (arith, used, enough)) q.is))
            (λ r between u left mid within grown q less.
            does_so m input whole f p around 0 left mid (λ pass later (z : ShaderPassed) w last. ⊥) (IsPassed e.traits.splits first waits t e x b state) Strays (next r between) (λ pass later z w last none. absurd none)
            (outside_does q.trail q.outside r between u left mid q.after.good q.is))

      -- ---- as zeros

      module _ (z : HasZeros m input whole f p around t) where
        adds_out_zeros : (r : Reached) → Adds (zeros t >>= coming_back waits r)
        adds_out_zeros r = adds_then (zeros t) (coming_back waits r) z.gives.adds (adds_coming waits r)

        adds_out : (r : Reached) → Adds (passed_out p.structs waits t e.ty r)
        unfolding passed_out
        adds_out r = adds_then (lift (probe p.structs true e.ty r)) (λ done. zeros t >>= coming_back waits r) (adds_probe m input whole p.structs true e.ty r) (λ done. adds_out_zeros r)

        abbrev begins : Access → Run ShaderPassed
        begins a = shader_run.given {A = ShaderPassed} (record { value = zero_value p.structs t; back = Some a })

        out_in : (a : Access) (l : Trail) → IsInside p.structs p.blocks true e.ty a l → (r : Reached) (b : Flow) (s : shader.State) (units : ℕ) (state : State) → Good m input whole f p around b s state → first ≤ b.place.used → IsTrail m input whole f p around false c.start b state r l
            → Does m input whole f p 0 units state (IsPassed false first waits t e x b state) none_waits (begins a s units) (passed_out p.structs waits t e.ty r b)
        unfolding passed_out
        out_in a l inside r b s units state good enough is =
            does_then m input whole f p 0 units b state (IsTested m input whole f p around b s state) none_waits (IsPassed false first waits t e x b state) none_waits (Got tt s units) (λ (one : Unit {0}). begins a) (lift (probe p.structs true e.ty r) b) (λ done. zeros t >>= coming_back waits r) good.inside
            (adds_probe m input whole p.structs true e.ty r b) (λ done. adds_out_zeros r)
            (probe_in m input whole f p around are c.start true e.ty c.sound_place b s units state r l good is true a inside)
            (λ done b1 one u left mid within grown tested less.
            does_then m input whole f p 0 left b1 mid (HasGiven m input whole f p around false t b1 mid) none_waits (IsPassed false first waits t e x b state) none_waits (Got (zero_value p.structs t) u left) (λ v. shader_run.given {A = ShaderPassed} (record { value = v; back = Some a })) (zeros t b1) (coming_back waits r) within
            (z.gives.adds b1) (adds_coming waits r)
            (z.gives.does b1 u left mid tested.after.good)
            (λ id b2 v w rest mid2 within2 more has less2.
            let got = given_value m input whole f p around mid2.ids id t v c.real has.given in
            let after : After m input whole f p around false b state b2 w mid2 = after_then m input whole f p around false false b b1 b2 state mid mid2 u w grown tested.after has.after in
            does_so m input whole f p around 0 rest mid2 (IsPassed false first waits t e x b2 mid2) (IsPassed false first waits t e x b state) (Got (record { value = v; back = Some a }) w rest) (coming_back waits r id b2)
            (λ pass later q last_s last one. passed_from false first waits t e x b b2 later state mid2 last w last_s pass q (grown_then grown more) after one)
            (does_coming first waits t e x c a l inside r id v b2 w rest mid2 has.after.good (let used = grown.used in let used2 = more.used in omega (arith, used, used2, enough))
            (trail_after m input whole f p around false c.start b b2 state mid2 w r l (grown_then grown more) after is) got.0 got.1))
            (λ id b2 w rest mid2 within2 more none less2. absurd none))
            (λ done b1 u left mid within grown none less. absurd none)

        out_out : (l : Trail) → IsOutside p.structs p.blocks true e.ty l → (r : Reached) (b : Flow) (s : shader.State) (units : ℕ) (state : State) → Good m input whole f p around b s state → IsTrail m input whole f p around false c.start b state r l
            → Does m input whole f p 0 units state (λ pass later (q : ShaderPassed) u last. ⊥) none_waits Strays (passed_out p.structs waits t e.ty r b)
        unfolding passed_out
        out_out l outside r b s units state good is =
            does_then m input whole f p 0 units b state (λ done later (one : Unit {0}) u last. ⊥) none_waits (λ pass later (q : ShaderPassed) u last. ⊥) none_waits Strays (λ (one : Unit {0}) u left. Strays) (lift (probe p.structs true e.ty r) b) (λ done. zeros t >>= coming_back waits r) good.inside
            (adds_probe m input whole p.structs true e.ty r b) (λ done. adds_out_zeros r)
            (probe_out m input whole f p around are c.start true e.ty c.sound_place b s units state r l good is (λ done later (one : Unit {0}) u last. ⊥) c.some outside)
            (λ done b1 one u left mid within grown none less. absurd none)
            (λ done b1 u left mid within grown none less. absurd none)

        passes_out : Passes Out
        passes_out b s units state good enough = led (passed_out p.structs waits t e.ty) adds_out begins out_in out_out b s units state good enough

      -- ---- as what is there

      adds_both : (r : Reached) → Adds (passed_both p.structs waits e.ty r)
      unfolding passed_both
      adds_both r = adds_then (reads p.structs e.ty r) (coming_back waits r) (adds_reads m input whole p.structs e.ty r) (adds_coming waits r)

      abbrev holds : Access → Run ShaderPassed
      holds a = shader_run.told_by {A = ShaderPassed} (λ u. record { value = means_read p.structs x.ty a u; back = Some a })

      module _ (same : e.ty ≡ t) (knows : shape_of e.ty ≡ None → KnowsWhole m input whole f p around e.ty) where
        -- what is there is read, whatever its type
        any_read : (a : Access) (l : Trail) → IsInside p.structs p.blocks true e.ty a l → (r : Reached) (b : Flow) (s : shader.State) (units : ℕ) (state : State) → Good m input whole f p around b s state → IsTrail m input whole f p around false c.start b state r l
            → Does m input whole f p 0 units state (HasGiven m input whole f p around false e.ty b state) none_waits (Got (means_read p.structs e.ty a s) s units) (reads p.structs e.ty r b)
        any_read a l inside r b s units state good is = by (shape_of e.ty) refl
          where
            by : (o : Option Shape) → shape_of e.ty ≡ o → Does m input whole f p 0 units state (HasGiven m input whole f p around false e.ty b state) none_waits (Got (means_read p.structs e.ty a s) s units) (reads p.structs e.ty r b)
            by None none = let k = knows none in any_taken m input whole f p around k.valid k.written k.shaped are k.plain c.start true e.ty c.sound_place (λ composite. (knows composite).values) b s state r l good units a is inside
            by (Some shape) of = taken m input whole f p around are c.start true e.ty c.sound_place b s state r a l good is inside units (λ none marked. absurd (let z : None ≡ Some shape = sym none ∙ of in cc))

        any_astray : (l : Trail) → IsOutside p.structs p.blocks true e.ty l → (r : Reached) (b : Flow) (s : shader.State) (units : ℕ) (state : State) → Good m input whole f p around b s state → IsTrail m input whole f p around false c.start b state r l
            → Does m input whole f p 0 units state (λ id later (one : Unit {0}) u last. ⊥) none_waits Strays (reads p.structs e.ty r b)
        any_astray l outside r b s units state good is = by (shape_of e.ty) refl
          where
            by : (o : Option Shape) → shape_of e.ty ≡ o → Does m input whole f p 0 units state (λ id later (one : Unit {0}) u last. ⊥) none_waits Strays (reads p.structs e.ty r b)
            by None none = let k = knows none in any_strays m input whole f p around k.valid k.written k.shaped are k.plain c.start true e.ty c.sound_place (λ composite. (knows composite).values) b s state r l good units (λ id later (one : Unit {0}) u last. ⊥) is outside
            by (Some shape) of = read_strays m input whole f p around are c.start true e.ty b s state r l good is outside units (λ id later (one : Unit {0}) u last. ⊥) (λ none marked. absurd (let z : None ≡ Some shape = sym none ∙ of in cc))

        both_in : (a : Access) (l : Trail) → IsInside p.structs p.blocks true e.ty a l → (r : Reached) (b : Flow) (s : shader.State) (units : ℕ) (state : State) → Good m input whole f p around b s state → first ≤ b.place.used → IsTrail m input whole f p around false c.start b state r l
            → Does m input whole f p 0 units state (IsPassed false first waits t e x b state) none_waits (holds a s units) (passed_both p.structs waits e.ty r b)
        unfolding passed_both
        both_in a l inside r b s units state good enough is =
            subst (λ ty. Does m input whole f p 0 units state (IsPassed false first waits t e x b state) none_waits (Got (record { value = means_read p.structs ty a s; back = Some a }) s units) ((reads p.structs e.ty r >>= coming_back waits r) b)) (sym c.meant)
            (does_then m input whole f p 0 units b state (HasGiven m input whole f p around false e.ty b state) none_waits (IsPassed false first waits t e x b state) none_waits (Got (means_read p.structs e.ty a s) s units) (λ v. shader_run.given {A = ShaderPassed} (record { value = v; back = Some a })) (reads p.structs e.ty r b) (coming_back waits r) good.inside
            (adds_reads m input whole p.structs e.ty r b) (adds_coming waits r)
            (any_read a l inside r b s units state good is)
            (λ id b2 v w rest mid2 within2 more has less2.
            let got = given_value m input whole f p around mid2.ids id e.ty v c.real_place has.given in
            does_so m input whole f p around 0 rest mid2 (IsPassed false first waits t e x b2 mid2) (IsPassed false first waits t e x b state) (Got (record { value = v; back = Some a }) w rest) (coming_back waits r id b2)
            (λ pass later q last_s last one. passed_from false first waits t e x b b2 later state mid2 last w last_s pass q more has.after one)
            (does_coming first waits t e x c a l inside r id v b2 w rest mid2 has.after.good (let used2 = more.used in omega (arith, used2, enough))
            (trail_after m input whole f p around false c.start b b2 state mid2 w r l more has.after is) (subst (λ ty. is_value_of p.structs ty v ≡ true) same got.0) got.1))
            (λ id b2 w rest mid2 within2 more none less2. absurd none))

        both_out : (l : Trail) → IsOutside p.structs p.blocks true e.ty l → (r : Reached) (b : Flow) (s : shader.State) (units : ℕ) (state : State) → Good m input whole f p around b s state → IsTrail m input whole f p around false c.start b state r l
            → Does m input whole f p 0 units state (λ pass later (q : ShaderPassed) u last. ⊥) none_waits Strays (passed_both p.structs waits e.ty r b)
        unfolding passed_both
        both_out l outside r b s units state good is =
            does_then m input whole f p 0 units b state (λ id later (one : Unit {0}) u last. ⊥) none_waits (λ pass later (q : ShaderPassed) u last. ⊥) none_waits Strays (λ (one : Unit {0}) u left. Strays) (reads p.structs e.ty r b) (coming_back waits r) good.inside
            (adds_reads m input whole p.structs e.ty r b) (adds_coming waits r)
            (any_astray l outside r b s units state good is)
            (λ id b1 one u left mid within grown none less. absurd none)
            (λ id b1 u left mid within grown none less. absurd none)

        passes_both : Passes InOut
        passes_both b s units state good enough = led (passed_both p.structs waits e.ty) adds_both holds both_in both_out b s units state good enough

    -- ---- in whatever way

    pub adds_one : (way : Direction) → Serves m input whole f p around way t e x → Adds (passing p.structs waits way t e)
    adds_one In g = adds_in g
    adds_one Out (c, z) = adds_then e.reach (passed_out p.structs waits t e.ty) c.leads.adds (adds_out c z)
    adds_one InOut (c, same, knows) = adds_then e.reach (passed_both p.structs waits e.ty) c.leads.adds (adds_both c)

    passes_one : (way : Direction) → Serves m input whole f p around way t e x → Passes way
    passes_one In g = passes_in g
    passes_one Out (c, z) = passes_out c z
    passes_one InOut (c, same, knows) = passes_both c same knows

  -- ---- later on

  pub item_after : (first : ℕ) (waits : Bool) (t : Ty) (e : Lower) (x : Meant) (b later : Flow) (state last : State) (s : shader.State) (i : Item) → Grown b later → After m input whole f p around waits b state later s last → IsItem m input whole f p around first waits t e x b state i → IsItem m input whole f p around first waits t e x later last i
  item_after first waits t e x b later state last s i grown after one = record {
    comes = one.comes;
    typed = one.typed;
    held = still_held m input whole f p around first b.place.used state last i.argument one.below after.held one.held;
    below = (let less = one.below in let used = grown.used in omega (arith, less, used));
    back = back_after m input whole f p around waits e first i.argument.holder b later state last s i.back i.access grown after one.back;
  }

  -- ---- all of them

  -- Arguments were passed behind so many holders.
  pub record ArePassed (splits : Bool) (first : ℕ) (params : List (Direction × Ty)) (es : List Lower) (xs : List Meant) (b : Flow) (state : State) (passes : List Passed) (later : Flow) (qs : List ShaderPassed) (s : shader.State) (last : State) : Type 0 where
    pub items : List Item
    pub are : passes ≡ ways_of es items
    pub mean : qs ≡ map meant_of items
    pub each : AreItems m input whole f p around first params es xs later last items
    pub after : After m input whole f p around splits b state later s last

  module _ (are : AreStructs p.structs) where
    pub adds_passing : (params : List (Direction × Ty)) (es : List Lower) (xs : List Meant) → AllServe m input whole f p around params es xs → Adds (passing_all p.structs es params)
    unfolding passing_all
    adds_passing [] [] xs all = adds_given {A = List Passed} []
    adds_passing [] (e ∷ es) xs all = absurd all
    adds_passing (param ∷ params) [] xs all = absurd all
    adds_passing (param ∷ params) (e ∷ es) [] all = absurd all
    adds_passing (param ∷ params) (e ∷ es) (x ∷ xs) all =
        adds_then (passing p.structs (any_splits es) param.0 param.1 e) (λ one. passing_all p.structs es params >>= (λ more. given (one ∷ more))) (adds_one are 0 (any_splits es) param.1 e x param.0 all.0)
        (λ one. adds_then (passing_all p.structs es params) (λ more. given (one ∷ more)) (adds_passing params es xs all.1) (λ more. adds_given (one ∷ more)))

    pub passing_does : (params : List (Direction × Ty)) (es : List Lower) (xs : List Meant) → AllServe m input whole f p around params es xs → (first : ℕ) (b : Flow) (s : shader.State) (units : ℕ) (state : State) → Good m input whole f p around b s state → first ≤ b.place.used
        → Does m input whole f p 0 units state (ArePassed (any_splits es) first params es xs b state) none_waits (shader_expr.passing_all p.structs params xs s units) (passing_all p.structs es params b)
    unfolding passing_all
    passing_does [] [] [] all first b s units state good enough = λ inside. reaches_here m input units state (ArePassed false first [] [] [] b state [] b [] s) (record { items = []; are = refl; mean = refl; each = tt; after = after_same m input whole f p around b s state good })
    passing_does [] [] (x ∷ xs) all first b s units state good enough = absurd all
    passing_does [] (e ∷ es) xs all first b s units state good enough = absurd all
    passing_does (param ∷ params) [] xs all first b s units state good enough = absurd all
    passing_does (param ∷ params) (e ∷ es) [] all first b s units state good enough = absurd all
    passing_does (param ∷ params) (e ∷ es) (x ∷ xs) all first b s units state good enough =
        does_then m input whole f p 0 units b state (IsPassed e.traits.splits first (any_splits es) param.1 e x b state) none_waits (ArePassed (any_splits (e ∷ es)) first (param ∷ params) (e ∷ es) (x ∷ xs) b state) none_waits (shader_expr.passing p.structs param.0 param.1 x s units)
        (λ q. shader_run.◌>>=◌ (shader_expr.passing_all p.structs params xs) (λ qs. shader_run.given (q ∷ qs))) (passing p.structs (any_splits es) param.0 param.1 e b) (λ one. passing_all p.structs es params >>= (λ more. given (one ∷ more))) good.inside
        (adds_one are 0 (any_splits es) param.1 e x param.0 all.0 b) (λ one. adds_then (passing_all p.structs es params) (λ more. given (one ∷ more)) (adds_passing params es xs all.1) (λ more. adds_given (one ∷ more)))
        (passes_one are first (any_splits es) param.1 e x param.0 all.0 b s units state good enough)
        (λ pass between q u left mid within grown one less.
        does_then m input whole f p 0 left between mid (ArePassed (any_splits es) (one.item.argument.holder + 1) params es xs between mid) none_waits (ArePassed (any_splits (e ∷ es)) first (param ∷ params) (e ∷ es) (x ∷ xs) b state) none_waits (shader_expr.passing_all p.structs params xs u left) (λ qs. shader_run.given (q ∷ qs))
        (passing_all p.structs es params between) (λ more. given (pass ∷ more)) within (adds_passing params es xs all.1 between) (λ more. adds_given (pass ∷ more))
        (passing_does params es xs all.1 (one.item.argument.holder + 1) between u left mid one.after.good (let less = one.one.below in omega (arith, less)))
        (λ passes later qs w rest last within2 more r less2. λ there. reaches_here m input rest last (ArePassed (any_splits (e ∷ es)) first (param ∷ params) (e ∷ es) (x ∷ xs) b state (pass ∷ passes) later (q ∷ qs) w) (record {
          items = one.item ∷ r.items;
          are = ap (λ z. z ∷ passes) one.is ∙ ap (λ l. way_of (any_splits es) one.item ∷ l) r.are;
          mean = ap (λ z. z ∷ qs) one.means ∙ ap (λ l. meant_of one.item ∷ l) r.mean;
          each = (item_after first (any_splits es) param.1 e x between later mid last w one.item more r.after one.one, r.each);
          after = after_then m input whole f p around e.traits.splits (any_splits es) b between later state mid last u w grown one.after r.after;
        }))
        (λ passes later w rest last within2 more none less2. absurd none))
        (λ pass between u left mid within grown none less. absurd none)
