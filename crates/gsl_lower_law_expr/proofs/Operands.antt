-- Operands, the first of which waits where the second has labels.
use Rattle.std.proofs.Common.{◌≡◌, ◌≢◌, refl, sym, subst, inl, inr, ℕ, Bool, true, false, ◌||◌}
use Rattle.gsl_base.specs.declared.input.Input.{Input}
use Rattle.gsl_types.specs.declared.ty.Ty.{Ty}
use Rattle.gsl_types.specs.declared.ty.Ty.TheVariants.{Void}
use Rattle.gsl_words.specs.declared.module.Module.{Module}
use Rattle.gsl_values.specs.declared.value.Value.{Value}
use Rattle.gsl_tree.specs.Around.{Around}
use Rattle.gsl_tree.specs.Values.{is_value_of}
use Rattle.gsl_tree.specs.declared.program.Program.{Program}
use Rattle.gsl_meaning.specs.Running.{Got, Ran, Run}
use Rattle.gsl_meaning.specs.Running as shader_run
use Rattle.gsl_meaning.specs.State as shader
use Rattle.gsl_machine.specs.State.{Ids, State}
use Rattle.gsl_spv.specs.Sections.{Sections}
use Rattle.gsl_lower_law.specs.Values.{Stands}
use Rattle.gsl_lower_holders.specs.Flow.{Emit, Flow, ◌>>=◌}
use Rattle.gsl_lower_holders.specs.Waiting.{fetch, hold}
use Rattle.gsl_lower_follows.specs.Frames.{AreTyped, Frame, Good, HeldAs, Inside}
use Rattle.gsl_lower_follows.specs.Giving.{Adds, After, Does, GivesValue, Grown, HasGiven, IsGiven, none_waits}
use Rattle.gsl_lower_follows.proofs.Doing.{does_then}
use Rattle.gsl_lower_follows.proofs.Fetching.{Again, adds_fetch, adds_hold, does_fetch}
use Rattle.gsl_lower_follows.proofs.Growing.{adds_then, grown_then}
use Rattle.gsl_lower_follows.proofs.Holding.{after_then, does_hold, does_so, held_after}

module _ (m : Module) (input : Input) (whole : Sections) (f : Frame m input whole) (p : Program) (around : Around) where
  -- what has a type that values have, has a value
  pub given_value : (ids : Ids) (id : ℕ) (ty : Ty) (v : Value) → ty ≢ Void → IsGiven m input whole f p around ids id ty v → (is_value_of p.structs ty v ≡ true) × Stands ids id v
  given_value ids id ty v real (inl e) = absurd (real e)
  given_value ids id ty v real (inr g) = g

  pub after_less : (first splits : Bool) (b later : Flow) (state last : State) (s : shader.State) → (splits ≡ false → first ≡ false) → After m input whole f p around first b state later s last → After m input whole f p around splits b state later s last
  after_less first splits b later state last s less x = record { good = x.good; held = x.held; ids = λ e. x.ids (less e) }

  -- what was given behind a stretch was given from its start on
  pub given_behind : (first second splits : Bool) (ty : Ty) (b between later : Flow) (state mid last : State) (s t : shader.State) (id : ℕ) (v : Value) → (splits ≡ false → (first || second) ≡ false) → Grown b between → After m input whole f p around first b state between s mid
      → HasGiven m input whole f p around second ty between mid id later v t last → HasGiven m input whole f p around splits ty b state id later v t last
  given_behind first second splits ty b between later state mid last s t id v less grown x y =
      record { given = y.given; after = after_less (first || second) splits b later state last t less (after_then m input whole f p around first second b between later state mid last s t grown x y.after) }

  module _ (sa sb : Bool) (ta tb ty : Ty) (a b : Emit ℕ) (x y : Run Value) (go : ℕ → ℕ → Emit ℕ) (apply : Value → Value → Run Value) (rest : Value → Run Value) where
    abbrev again_first : ℕ → ℕ → Emit ℕ
    again_first kept j = fetch sb ta kept >>= (λ again. go again j)

    abbrev then_second : ℕ → Emit ℕ
    then_second kept = b >>= again_first kept

    abbrev held_first : ℕ → Emit ℕ
    held_first i = hold sb i >>= then_second

    abbrev second_value : Value → Run Value
    second_value v = shader_run.◌>>=◌ y (apply v)

    -- What is done with both values, where they are there.
    abbrev pub Finishes : Type 0
    Finishes = (i j : ℕ) (v w : Value) (b : Flow) (s : shader.State) (units : ℕ) (state : State) → Good m input whole f p around b s state → is_value_of p.structs ta v ≡ true → is_value_of p.structs tb w ≡ true → Stands state.ids i v → Stands state.ids j w
        → Does m input whole f p 0 units state (HasGiven m input whole f p around false ty b state) none_waits (apply v w s units) (go i j b)

    module _ (real_a : ta ≢ Void) (real_b : tb ≢ Void) (first : GivesValue m input whole f p around sa ta a x) (second : GivesValue m input whole f p around sb tb b y) (adds_go : (i j : ℕ) → Adds (go i j)) (finishes : Finishes)
        (goes : (v : Value) (s : shader.State) (units : ℕ) → is_value_of p.structs ta v ≡ true → AreTyped m input whole f p around s → rest v s units ≡ second_value v s units) where
      adds_again : (kept j : ℕ) → Adds (again_first kept j)
      adds_again kept j = adds_then (fetch sb ta kept) (λ again. go again j) (adds_fetch m input whole sb ta kept) (λ again. adds_go again j)

      adds_second : (kept : ℕ) → Adds (then_second kept)
      adds_second kept = adds_then b (again_first kept) second.adds (adds_again kept)

      adds_held : (i : ℕ) → Adds (held_first i)
      adds_held i = adds_then (hold sb i) then_second (adds_hold sb i) adds_second

      none_split : (c d : Bool) → (c || d) ≡ false → ((((c || false) || d) || false) || false) ≡ false
      none_split true d e = absurd cc
      none_split false true e = absurd cc
      none_split false false e = refl

      -- ---- from the last step on

      fetched : (b0 b3 : Flow) (state0 : State) (kept j : ℕ) (v w : Value) (s : shader.State) (units : ℕ) (state : State) → Inside m input whole f b3.sections → Grown b0 b3 → After m input whole f p around ((sa || false) || sb) b0 state0 b3 s state
          → HeldAs m input whole f sb kept v b3 state → Stands state.ids j w → is_value_of p.structs ta v ≡ true → is_value_of p.structs tb w ≡ true
          → Does m input whole f p 0 units state (HasGiven m input whole f p around (sa || sb) ty b0 state0) none_waits (apply v w s units) (again_first kept j b3)
      fetched b0 b3 state0 kept j v w s units state inside grown acc held stands typed_v typed_w =
          does_then m input whole f p 0 units b3 state (Again m input whole f p around v b3 state) none_waits (HasGiven m input whole f p around (sa || sb) ty b0 state0) none_waits (Got tt s units) (λ r t left. apply v w t left) (fetch sb ta kept b3) (λ again. go again j) inside
          (adds_fetch m input whole sb ta kept b3) (λ again. adds_go again j)
          (does_fetch m input whole f p around sb ta kept v units b3 s state acc.good held)
          (λ again b4 r t left mid inside4 grown4 is less.
          does_so m input whole f p around 0 left mid (HasGiven m input whole f p around false ty b4 mid) (HasGiven m input whole f p around (sa || sb) ty b0 state0) (apply v w t left) (go again j b4)
          (λ id later z u last g. given_behind (((sa || false) || sb) || false) false (sa || sb) ty b0 b4 later state0 mid last t u id z (none_split sa sb) (grown_then grown grown4)
          (after_then m input whole f p around ((sa || false) || sb) false b0 b3 b4 state0 state mid s t grown acc is.0) g)
          (finishes again j v w b4 t left mid is.0.good typed_v typed_w is.1 ((is.0.ids refl).same j _ stands)))
          (λ again b4 t left mid inside4 grown4 none less. absurd none)

      second_done : (b0 b2 : Flow) (state0 : State) (kept : ℕ) (v : Value) (s : shader.State) (units : ℕ) (state : State) → Inside m input whole f b2.sections → Grown b0 b2 → After m input whole f p around (sa || false) b0 state0 b2 s state → HeldAs m input whole f sb kept v b2 state
          → is_value_of p.structs ta v ≡ true → Does m input whole f p 0 units state (HasGiven m input whole f p around (sa || sb) ty b0 state0) none_waits (second_value v s units) (then_second kept b2)
      second_done b0 b2 state0 kept v s units state inside grown acc held typed_v =
          does_then m input whole f p 0 units b2 state (HasGiven m input whole f p around sb tb b2 state) none_waits (HasGiven m input whole f p around (sa || sb) ty b0 state0) none_waits (y s units) (apply v) (b b2) (again_first kept) inside
          (second.adds b2) (adds_again kept)
          (second.does b2 s units state acc.good)
          (λ j b3 w t left mid inside3 grown3 g less.
          let real = given_value mid.ids j tb w real_b g.given in
          fetched b0 b3 state0 kept j v w t left mid inside3 (grown_then grown grown3) (after_then m input whole f p around (sa || false) sb b0 b2 b3 state0 state mid s t grown acc g.after)
          (held_after m input whole f p around sb b2 b3 state mid t kept v grown3 g.after held) real.1 typed_v real.0)
          (λ j b3 t left mid inside3 grown3 none less. absurd none)

      held_done : (b0 b1 : Flow) (state0 : State) (i : ℕ) (v : Value) (s : shader.State) (units : ℕ) (state : State) → Inside m input whole f b1.sections → Grown b0 b1 → HasGiven m input whole f p around sa ta b0 state0 i b1 v s state
          → Does m input whole f p 0 units state (HasGiven m input whole f p around (sa || sb) ty b0 state0) none_waits (rest v s units) (held_first i b1)
      held_done b0 b1 state0 i v s units state inside grown g =
          let real = given_value state.ids i ta v real_a g.given in
          subst (λ ran. Does m input whole f p 0 units state (HasGiven m input whole f p around (sa || sb) ty b0 state0) none_waits ran (held_first i b1)) (sym (goes v s units real.0 g.after.good.typed))
          (does_then m input whole f p 0 units b1 state (λ kept later (r : Unit {0}) t last. After m input whole f p around false b1 state later t last × HeldAs m input whole f sb kept v later last) none_waits (HasGiven m input whole f p around (sa || sb) ty b0 state0) none_waits
          (Got tt s units) (λ r t left. second_value v t left) (hold sb i b1) then_second inside (adds_hold sb i b1) adds_second
          (does_hold m input whole f p around sb i v units b1 s state g.after.good real.1)
          (λ kept b2 r t left mid inside2 grown2 is less. second_done b0 b2 state0 kept v t left mid inside2 (grown_then grown grown2) (after_then m input whole f p around sa false b0 b1 b2 state0 state mid s t grown g.after is.0) is.1 real.0)
          (λ kept b2 t left mid inside2 grown2 none less. absurd none))

      pub two_give : GivesValue m input whole f p around (sa || sb) ty (a >>= held_first) (shader_run.◌>>=◌ x rest)
      two_give = record {
        adds = adds_then a held_first first.adds adds_held;
        does = λ b0 s units state good.
            does_then m input whole f p 0 units b0 state (HasGiven m input whole f p around sa ta b0 state) none_waits (HasGiven m input whole f p around (sa || sb) ty b0 state) none_waits (x s units) rest (a b0) held_first good.inside (first.adds b0) adds_held
            (first.does b0 s units state good)
            (λ i b1 v t left mid inside grown g less. held_done b0 b1 state i v t left mid inside grown g)
            (λ i b1 t left mid inside grown none less. absurd none);
      }

  -- ---- one operand

  module _ (sa : Bool) (ta ty : Ty) (a : Emit ℕ) (x : Run Value) (go : ℕ → Emit ℕ) (apply : Value → Run Value) where
    abbrev pub Ends : Type 0
    Ends = (i : ℕ) (v : Value) (b : Flow) (s : shader.State) (units : ℕ) (state : State) → Good m input whole f p around b s state → is_value_of p.structs ta v ≡ true → Stands state.ids i v
        → Does m input whole f p 0 units state (HasGiven m input whole f p around false ty b state) none_waits (apply v s units) (go i b)

    none_more : (c : Bool) → c ≡ false → (c || false) ≡ false
    none_more true e = absurd cc
    none_more false e = refl

    pub one_give : ta ≢ Void → GivesValue m input whole f p around sa ta a x → ((i : ℕ) → Adds (go i)) → Ends → GivesValue m input whole f p around sa ty (a >>= go) (shader_run.◌>>=◌ x apply)
    one_give real_a first adds_go ends = record {
      adds = adds_then a go first.adds adds_go;
      does = λ b0 s units state good.
          does_then m input whole f p 0 units b0 state (HasGiven m input whole f p around sa ta b0 state) none_waits (HasGiven m input whole f p around sa ty b0 state) none_waits (x s units) apply (a b0) go good.inside (first.adds b0) adds_go
          (first.does b0 s units state good)
          (λ i b1 v t left mid inside grown g less.
          let real = given_value mid.ids i ta v real_a g.given in
          does_so m input whole f p around 0 left mid (HasGiven m input whole f p around false ty b1 mid) (HasGiven m input whole f p around sa ty b0 state) (apply v t left) (go i b1)
          (λ id later z u last h. given_behind sa false sa ty b0 b1 later state mid last t u id z (none_more sa) grown g.after h)
          (ends i v b1 t left mid g.after.good real.0 real.1))
          (λ i b1 t left mid inside grown none less. absurd none);
    }
