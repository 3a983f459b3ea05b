-- What was reached waits in holders, and is there again.
use Rattle.std.proofs.Common.{refl, sym, subst, ℕ, Bool, true, false, List}
use Rattle.gsl_base.specs.declared.input.Input.{Input}
use Rattle.gsl_instr.specs.declared.enumerant.storage_class.TheConstants as storage_class
use Rattle.gsl_types.specs.declared.ty.Scalar.{Scalar}
use Rattle.gsl_words.specs.declared.module.Module.{Module}
use Rattle.gsl_values.specs.declared.value.Value.{Value}
use Rattle.gsl_values.specs.declared.value.Value.TheVariants.{Word}
use Rattle.gsl_tree.specs.Around.{Around}
use Rattle.gsl_tree.specs.declared.program.Program.{Program}
use Rattle.gsl_meaning.specs.Running.{Got}
use Rattle.gsl_meaning.specs.State as shader
use Rattle.gsl_machine.specs.State.{State}
use Rattle.gsl_spv.specs.Sections.{Sections}
use Rattle.gsl_lower_values.specs.Types as types
use Rattle.gsl_lower_places.specs.declared.reached.Base.{Base}
use Rattle.gsl_lower_places.specs.declared.reached.Base.TheVariants.{Variable, Value as Loose}
use Rattle.gsl_lower_places.specs.declared.reached.Part.{Part}
use Rattle.gsl_lower_places.specs.declared.reached.Part.TheVariants.{Fixed, By}
use Rattle.gsl_lower_places.specs.declared.reached.Reached.{Reached}
use Rattle.gsl_lower_law.specs.Values.{Stands}
use Rattle.gsl_lower_law.proofs.Plain.{Any, scalar_type_does}
use Rattle.gsl_lower_holders.specs.Flow.{Flow, given, lift, ◌>>=◌}
use Rattle.gsl_lower_holders.specs.Waiting.{fetch_reached, hold_reached, keep, keep_base, keep_part, take_back, take_base, take_part}
use Rattle.gsl_lower_follows.specs.Frames.{Frame, Good, HeldAs, Waits}
use Rattle.gsl_lower_follows.specs.Giving.{Adds, After, Does, none_waits}
use Rattle.gsl_lower_follows.proofs.Beginning.{does_aside}
use Rattle.gsl_lower_follows.proofs.Fetching.{adds_keep, adds_take_back, no_state}
use Rattle.gsl_lower_follows.proofs.Growing.{adds_given, adds_lift, adds_then}
use Rattle.gsl_lower_follows.proofs.Holding.{NowWaits, Unchanged, after_any, does_keep, does_so, does_take_back, held_after}
use Rattle.gsl_lower_elements.proofs.OfLawExpr.{does_change}
use Rattle.gsl_lower_elements.specs.OfReaching.{AtBlock, Begins, IsTrail, NumberBy, Start}
use Rattle.gsl_lower_elements.specs.OfReaching.{variable, value, holder}
use Rattle.gsl_lower_elements.specs.OfReaching.{Trail}
use Rattle.gsl_lower_reads.specs.Waiting.{IsKept}
use Rattle.gsl_lower_reads.proofs.Moves.{IsPart, Made, Makes, adds_reached, made_here, made_then, moves_reached}

-- ---- what only adds

pub adds_keep_part : (part : Part) → Adds (keep_part part)
adds_keep_part (Fixed number) = adds_given (Fixed number)
adds_keep_part (By kind id) = adds_then (keep id) (λ h. given (By kind h)) (adds_keep id) (λ h. adds_given (By kind h))

pub adds_keep_base : (base : Base) → Adds (keep_base base)
adds_keep_base (Variable id class) = adds_given (Variable id class)
adds_keep_base (Loose id type) = adds_then (keep id) (λ h. given (Loose h type)) (adds_keep id) (λ h. adds_given (Loose h type))

pub adds_held : (waits : Bool) (r : Reached) → Adds (hold_reached waits r)
unfolding hold_reached
adds_held false r = adds_given r
adds_held true r = adds_reached keep_base keep_part adds_keep_base adds_keep_part r

module _ (m : Module) (input : Input) (sections : Sections) where
  adds_scalar : (kind : Scalar) → Adds (lift (types.scalar_type kind))
  adds_scalar kind = adds_lift (types.scalar_type kind) (λ b. (scalar_type_does m input sections kind no_state b.sections).grows)

  pub adds_take_part : (part : Part) → Adds (take_part part)
  adds_take_part (Fixed number) = adds_given (Fixed number)
  adds_take_part (By kind h) = adds_then (lift (types.scalar_type kind) >>= take_back h) (λ id. given (By kind id)) (adds_then (lift (types.scalar_type kind)) (take_back h) (adds_scalar kind) (λ type. adds_take_back m input sections h type)) (λ id. adds_given (By kind id))

  pub adds_take_base : (base : Base) → Adds (take_base base)
  adds_take_base (Variable id class) = adds_given (Variable id class)
  adds_take_base (Loose h type) = adds_then (take_back h type) (λ id. given (Loose id type)) (adds_take_back m input sections h type) (λ id. adds_given (Loose id type))

  pub adds_fetched : (waits : Bool) (r : Reached) → Adds (fetch_reached waits r)
  unfolding fetch_reached
  adds_fetched false r = adds_given r
  adds_fetched true r = adds_reached take_base take_part adds_take_base adds_take_part r

  module _ (f : Frame m input sections) (p : Program) (around : Around) (s : shader.State) where
    -- ---- values

    abbrev WaitsIn : Value → ℕ → Flow → State → Type 0
    WaitsIn v h later last = Waits m input sections f later.place.used h v last

    abbrev IsThere : Value → ℕ → Flow → State → Type 0
    IsThere v id later last = Stands last.ids id v

    kept : (id : ℕ) (v : Value) (units : ℕ) (b : Flow) (state : State) → Good m input sections f p around b s state → Stands state.ids id v → Makes m input sections f p around s (WaitsIn v) units b state (keep id b)
    kept id v units b state good stands =
        does_change m input sections f p around units units state (NowWaits m input sections f p around v b state) (Made m input sections f p around (WaitsIn v) s b state) tt tt s (keep id b) (λ h later last x. record { after = x.0; still = refl; so = x.1.0 })
        (does_keep m input sections f p around id v units b s state good stands)

    taken : (h type : ℕ) (v : Value) (units : ℕ) (b : Flow) (state : State) → Good m input sections f p around b s state → Waits m input sections f b.place.used h v state → Makes m input sections f p around s (IsThere v) units b state (take_back h type b)
    taken h type v units b state good waits =
        does_change m input sections f p around units units state (λ id later (r : Unit {0}) t last. After m input sections f p around false b state later t last × Stands last.ids id v) (Made m input sections f p around (IsThere v) s b state) tt tt s (take_back h type b) (λ id later last x. record { after = x.0; still = refl; so = x.1 })
        (does_take_back m input sections f p around h type v units b s state good waits)

    typed : (kind : Scalar) (units : ℕ) (b : Flow) (state : State) → Good m input sections f p around b s state → Makes m input sections f p around s (λ (type : ℕ) later last. Unit {0}) units b state (lift (types.scalar_type kind) b)
    typed kind units b state good =
        does_change m input sections f p around units units state (Unchanged m input sections f p around b state) (Made m input sections f p around (λ (type : ℕ) later last. Unit {0}) s b state) tt tt s (lift (types.scalar_type kind) b) (λ type later last x. record { after = x; still = refl; so = tt })
        (does_aside m input sections f p around (Any m input sections) units b s state (types.scalar_type kind) good (scalar_type_does m input sections kind state b.sections))

    module _ (loose : Start) where
      -- ---- what is kept

      keeps_part : (part : Part) (word : ℕ) (units : ℕ) (b : Flow) (state : State) → Good m input sections f p around b s state → NumberBy (λ id v. HeldAs m input sections f false id v b state) part word
          → Makes m input sections f p around s (IsPart m input sections f p around s false true loose keep_base keep_part adds_keep_base adds_keep_part part word) units b state (keep_part part b)
      keeps_part (Fixed number) word units b state good is =
          made_here m input sections f p around s (IsPart m input sections f p around s false true loose keep_base keep_part adds_keep_base adds_keep_part (Fixed number) word) units b state (Fixed number) good (record { number = is; fixed = λ x. x })
      keeps_part (By kind id) word units b state good is =
          made_then m input sections f p around s (WaitsIn (Word word)) (IsPart m input sections f p around s false true loose keep_base keep_part adds_keep_base adds_keep_part (By kind id) word) units b state (keep id) (λ h. given (By kind h)) good (adds_keep id) (λ h. adds_given (By kind h))
          (kept id (Word word) units b state good is)
          (λ h between mid left grown after waits.
          made_here m input sections f p around s (IsPart m input sections f p around s false true loose keep_base keep_part adds_keep_base adds_keep_part (By kind id) word) left between mid (By kind h) after.good (record { number = waits; fixed = λ x. absurd x }))

      abbrev KeptBase : List Part → Trail → Base → Flow → State → Type 0
      KeptBase parts l base later last = Begins m input sections f p around (λ id v. HeldAs m input sections f true id v later last) later.place.used last loose base parts l

      keeps_base : (base : Base) (parts : List Part) (l : Trail) (units : ℕ) (b : Flow) (state : State) → Good m input sections f p around b s state → Begins m input sections f p around (λ id v. HeldAs m input sections f false id v b state) b.place.used state loose base parts l
          → Makes m input sections f p around s (KeptBase parts l) units b state (keep_base base b)
      keeps_base base parts l units b state good (variable x) =
          subst (λ base. Makes m input sections f p around s (KeptBase parts l) units b state (keep_base base b)) (sym x.is)
          (made_here m input sections f p around s (KeptBase parts l) units b state (Variable x.id x.class) good (variable (record { name = x.name; id = x.id; class = x.class; number = x.number; is = refl; marked = x.marked; outside = x.outside; begins = x.begins; none = x.none; seat = x.seat; points = x.points; typed = x.typed })))
      keeps_base base parts l units b state good (value x) =
          subst (λ base. Makes m input sections f p around s (KeptBase parts l) units b state (keep_base base b)) (sym x.is)
          (made_then m input sections f p around s (WaitsIn x.value) (KeptBase parts l) units b state (keep x.id) (λ h. given (Loose h x.type_id)) good (adds_keep x.id) (λ h. adds_given (Loose h x.type_id))
          (kept x.id x.value units b state good x.stands)
          (λ h between mid left grown after waits.
          made_here m input sections f p around s (KeptBase parts l) left between mid (Loose h x.type_id) after.good
          (value (record { id = h; type_id = x.type_id; value = x.value; is = refl; marked = x.marked; fixed = x.fixed; begins = x.begins; none = x.none; stands = waits; typed = x.typed; has = x.has }))))
      keeps_base base parts l units b state good (holder x) =
          subst (λ base. Makes m input sections f p around s (KeptBase parts l) units b state (keep_base base b)) (sym x.is)
          (made_here m input sections f p around s (KeptBase parts l) units b state (Variable x.id storage_class.FUNCTION) good (holder (record { id = x.id; value = x.value; is = refl; begins = x.begins; waits = x.waits; typed = x.typed })))

      abbrev BlockBase : Trail → Base → Flow → State → Type 0
      BlockBase l base later last = AtBlock m input sections f p around loose base l

      keeps_block : (base : Base) (l : Trail) (units : ℕ) (b : Flow) (state : State) → Good m input sections f p around b s state → AtBlock m input sections f p around loose base l → Makes m input sections f p around s (BlockBase l) units b state (keep_base base b)
      keeps_block base l units b state good x =
          subst (λ base. Makes m input sections f p around s (BlockBase l) units b state (keep_base base b)) (sym x.is)
          (made_here m input sections f p around s (BlockBase l) units b state (Variable x.id x.class) good (subst (λ base. AtBlock m input sections f p around loose base l) x.is x))

      takes_block : (base : Base) (l : Trail) (units : ℕ) (b : Flow) (state : State) → Good m input sections f p around b s state → AtBlock m input sections f p around loose base l → Makes m input sections f p around s (BlockBase l) units b state (take_base base b)
      takes_block base l units b state good x =
          subst (λ base. Makes m input sections f p around s (BlockBase l) units b state (take_base base b)) (sym x.is)
          (made_here m input sections f p around s (BlockBase l) units b state (Variable x.id x.class) good (subst (λ base. AtBlock m input sections f p around loose base l) x.is x))

      -- ---- what is taken back

      takes_part : (part : Part) (word : ℕ) (units : ℕ) (b : Flow) (state : State) → Good m input sections f p around b s state → NumberBy (λ id v. HeldAs m input sections f true id v b state) part word
          → Makes m input sections f p around s (IsPart m input sections f p around s true false loose take_base take_part adds_take_base adds_take_part part word) units b state (take_part part b)
      takes_part (Fixed number) word units b state good is =
          made_here m input sections f p around s (IsPart m input sections f p around s true false loose take_base take_part adds_take_base adds_take_part (Fixed number) word) units b state (Fixed number) good (record { number = is; fixed = λ x. x })
      takes_part (By kind h) word units b state good is =
          made_then m input sections f p around s (IsThere (Word word)) (IsPart m input sections f p around s true false loose take_base take_part adds_take_base adds_take_part (By kind h) word) units b state (lift (types.scalar_type kind) >>= take_back h) (λ id. given (By kind id)) good
          (adds_then (lift (types.scalar_type kind)) (take_back h) (adds_scalar kind) (λ type. adds_take_back m input sections h type)) (λ id. adds_given (By kind id))
          (made_then m input sections f p around s (λ (type : ℕ) later last. Unit {0}) (IsThere (Word word)) units b state (lift (types.scalar_type kind)) (take_back h) good (adds_scalar kind) (λ type. adds_take_back m input sections h type)
          (typed kind units b state good)
          (λ type between mid left grown after done. taken h type (Word word) left between mid after.good (held_after m input sections f p around true b between state mid s h (Word word) grown (after_any m input sections f p around true b between state mid s after) is)))
          (λ id between mid left grown after there.
          made_here m input sections f p around s (IsPart m input sections f p around s true false loose take_base take_part adds_take_base adds_take_part (By kind h) word) left between mid (By kind id) after.good (record { number = there; fixed = λ x. absurd x }))

      abbrev TakenBase : List Part → Trail → Base → Flow → State → Type 0
      TakenBase parts l base later last = Begins m input sections f p around (λ id v. HeldAs m input sections f false id v later last) later.place.used last loose base parts l

      takes_base : (base : Base) (parts : List Part) (l : Trail) (units : ℕ) (b : Flow) (state : State) → Good m input sections f p around b s state → Begins m input sections f p around (λ id v. HeldAs m input sections f true id v b state) b.place.used state loose base parts l
          → Makes m input sections f p around s (TakenBase parts l) units b state (take_base base b)
      takes_base base parts l units b state good (variable x) =
          subst (λ base. Makes m input sections f p around s (TakenBase parts l) units b state (take_base base b)) (sym x.is)
          (made_here m input sections f p around s (TakenBase parts l) units b state (Variable x.id x.class) good (variable (record { name = x.name; id = x.id; class = x.class; number = x.number; is = refl; marked = x.marked; outside = x.outside; begins = x.begins; none = x.none; seat = x.seat; points = x.points; typed = x.typed })))
      takes_base base parts l units b state good (value x) =
          subst (λ base. Makes m input sections f p around s (TakenBase parts l) units b state (take_base base b)) (sym x.is)
          (made_then m input sections f p around s (IsThere x.value) (TakenBase parts l) units b state (take_back x.id x.type_id) (λ id. given (Loose id x.type_id)) good (adds_take_back m input sections x.id x.type_id) (λ id. adds_given (Loose id x.type_id))
          (taken x.id x.type_id x.value units b state good x.stands)
          (λ id between mid left grown after there.
          made_here m input sections f p around s (TakenBase parts l) left between mid (Loose id x.type_id) after.good
          (value (record { id = id; type_id = x.type_id; value = x.value; is = refl; marked = x.marked; fixed = x.fixed; begins = x.begins; none = x.none; stands = there; typed = x.typed; has = x.has }))))
      takes_base base parts l units b state good (holder x) =
          subst (λ base. Makes m input sections f p around s (TakenBase parts l) units b state (take_base base b)) (sym x.is)
          (made_here m input sections f p around s (TakenBase parts l) units b state (Variable x.id storage_class.FUNCTION) good (holder (record { id = x.id; value = x.value; is = refl; begins = x.begins; waits = x.waits; typed = x.typed })))

      -- ---- what was reached

      abbrev pub IsNow : Bool → Trail → Reached → Flow → State → Type 0
      IsNow waits l r later last = IsTrail m input sections f p around waits loose later last r l

      pub does_held : (waits : Bool) (r : Reached) (l : Trail) (units : ℕ) (b : Flow) (state : State) → Good m input sections f p around b s state → IsTrail m input sections f p around false loose b state r l
          → Makes m input sections f p around s (IsNow waits l) units b state (hold_reached waits r b)
      unfolding hold_reached
      does_held false r l units b state good x = made_here m input sections f p around s (IsNow false l) units b state r good x
      does_held true r l units b state good x = moves_reached m input sections f p around s false true loose keep_base keep_part adds_keep_base adds_keep_part keeps_part keeps_base keeps_block r l units b state good x

      pub does_fetched : (waits : Bool) (r : Reached) (l : Trail) (units : ℕ) (b : Flow) (state : State) → Good m input sections f p around b s state → IsTrail m input sections f p around waits loose b state r l
          → Makes m input sections f p around s (IsNow false l) units b state (fetch_reached waits r b)
      unfolding fetch_reached
      does_fetched false r l units b state good x = made_here m input sections f p around s (IsNow false l) units b state r good x
      does_fetched true r l units b state good x = moves_reached m input sections f p around s true false loose take_base take_part adds_take_base adds_take_part takes_part takes_base takes_block r l units b state good x

      -- as the laws say it
      pub is_held : (waits : Bool) (r : Reached) (l : Trail) (units : ℕ) (b : Flow) (state : State) → Good m input sections f p around b s state → IsTrail m input sections f p around false loose b state r l
          → Does m input sections f p 0 units state (IsKept m input sections f p around waits loose l s b state) none_waits (Got tt s units) (hold_reached waits r b)
      is_held waits r l units b state good x =
          does_so m input sections f p around 0 units state (Made m input sections f p around (IsNow waits l) s b state) (IsKept m input sections f p around waits loose l s b state) (Got tt s units) (hold_reached waits r b)
          (λ kept later one u last y. record { after = y.after; still = y.still; is = y.so }) (does_held waits r l units b state good x)

      pub is_fetched : (waits : Bool) (r : Reached) (l : Trail) (units : ℕ) (b : Flow) (state : State) → Good m input sections f p around b s state → IsTrail m input sections f p around waits loose b state r l
          → Does m input sections f p 0 units state (IsKept m input sections f p around false loose l s b state) none_waits (Got tt s units) (fetch_reached waits r b)
      is_fetched waits r l units b state good x =
          does_so m input sections f p around 0 units state (Made m input sections f p around (IsNow false l) s b state) (IsKept m input sections f p around false loose l s b state) (Got tt s units) (fetch_reached waits r b)
          (λ kept later one u last y. record { after = y.after; still = y.still; is = y.so }) (does_fetched waits r l units b state good x)
