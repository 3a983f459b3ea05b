-- Operators and conversions on scalars and vectors.
use Rattle.std.proofs.Common.{◌≡◌, ℕ, Bool, true, false, cond, List, [], ◌∷◌, Some, refl, sym, ap, ◌∙◌, subst, suc, zero, ◌⊎◌, inl, inr, arith}
use Rattle.std.specs.Prelude.{◌==◌, replicate, sum}
use Rattle.std.proofs.lemmas.Bool.{and_from, eq-eqb, eqb-true, true≢false}
use Rattle.std.proofs.lemmas.List.Folds.{sum_by-replicate}
use Rattle.gsl_instr.specs.Forms.{form_of}
use Rattle.gsl_instr.specs.declared.op.TheConstants as op
use Rattle.gsl_instr.specs.declared.form.Form.TheVariants as form
use Rattle.gsl_types.specs.declared.ty.Scalar.{Scalar}
use Rattle.gsl_types.specs.declared.ty.Scalar.TheVariants.{Bool as Boolean, Int, Uint}
use Rattle.gsl_values.specs.declared.op.UnaryOp.{UnaryOp}
use Rattle.gsl_values.specs.declared.op.UnaryOp.TheVariants.{Negate, Flip, Not}
use Rattle.gsl_tree.specs.Shapes.{Shape, is_boolean, is_integer}
use Rattle.gsl_words.specs.declared.module.Module.{Module}
use Rattle.gsl_valid.specs.Ids.{result}
use Rattle.gsl_valid.specs.Instruction.{read}
use Rattle.gsl_valid.specs.OperandRules as rules
use Rattle.gsl_spv.specs.Declarations.{instr}
use Rattle.gsl_spv.specs.Growing.{Extends}
use Rattle.gsl_spv.specs.Sections.{Sections}
use Rattle.gsl_lower_values.specs.Building.{Built, behind, given as give, giving}
use Rattle.gsl_lower_values.specs.Operators as operators
use Rattle.gsl_lower_values.specs.Operators.{unary_code}
use Rattle.gsl_lower_values.specs.Types as types
use Rattle.gsl_lower_values.specs.declared.operand.Operand.{Operand}
use Rattle.gsl_fitting.specs.Fits.{Frame}
use Rattle.gsl_fitting_operators.specs.Operands.{SuitsOne}
use Rattle.gsl_fitting_types.specs.Making.{AreSorted, Comes, GivesValue, IsConstant, IsSized, IsTypeOf, IsValue, Sorts, Stands, made}
use Rattle.gsl_fitting_operators.proofs.Composites.{AreValues, construct_stands}
use Rattle.gsl_fitting_operators.proofs.Forms.{comparison_stands, ints, select_stands, sizes, truths, unary_stands}
use Rattle.gsl_fitting_types.proofs.Knowing.{constant_later, known_wider, one_type, type_later}
use Rattle.gsl_fitting_types.proofs.Sorting.{giving_sorts, sorts_then, stays_same}
use Rattle.gsl_fitting_types.proofs.Stepping.{Wider, comes_then, given_comes, giving_comes}
use Rattle.gsl_fitting_types.proofs.Types.{constant_value, filled_constant_comes, filled_constant_sorts, type_comes, type_sorts}

-- ---- a type, and then one instruction

pub typed_sorts : (shape : Shape) (code : ℕ) (operands : List ℕ) (s : Sections) → ((type id : ℕ) → result (read (instr code (type ∷ id ∷ operands))) ≡ Some id) → Sorts s (behind (types.type_of shape s) (giving code operands))
typed_sorts shape code operands s named = sorts_then s (types.type_of shape s) (giving code operands) (type_sorts shape s) (λ type t. giving_sorts code operands type t (named type))

-- ---- they sort

unary_named : (which : UnaryOp) (type id a : ℕ) → result (read (instr (unary_code which) (type ∷ id ∷ a ∷ []))) ≡ Some id
unfolding form_of
unary_named Negate type id a = refl
unary_named Flip type id a = refl
unary_named Not type id a = refl

pub unary_sorts : (which : UnaryOp) (a : Operand) (s : Sections) → Sorts s (operators.unary which a s)
unfolding operators.unary
unary_sorts which a s = typed_sorts a.shape (unary_code which) (a.id ∷ []) s (λ type id. unary_named which type id a.id)

pub recast_sorts : (to : Scalar) (a : Operand) (s : Sections) → Sorts s (operators.recast to a s)
unfolding form_of
recast_sorts to a s = typed_sorts (to, a.shape.1) op.BITCAST (a.id ∷ []) s (λ type id. refl)

pub numbered_sorts : (to : Scalar) (a : Operand) (s : Sections) → Sorts s (operators.numbered to a s)
unfolding form_of
numbered_sorts to a s =
    sorts_then s (types.filled_constant (to, a.shape.1) 1 s) (λ ones t. behind (types.filled_constant (to, a.shape.1) 0 t) (λ zeros u. behind (types.type_of (to, a.shape.1) u) (giving op.SELECT (a.id ∷ ones ∷ zeros ∷ [])))) (filled_constant_sorts (to, a.shape.1) 1 s)
    (λ ones t. sorts_then t (types.filled_constant (to, a.shape.1) 0 t) (λ zeros u. behind (types.type_of (to, a.shape.1) u) (giving op.SELECT (a.id ∷ ones ∷ zeros ∷ []))) (filled_constant_sorts (to, a.shape.1) 0 t)
    (λ zeros u. typed_sorts (to, a.shape.1) op.SELECT (a.id ∷ ones ∷ zeros ∷ []) u (λ type id. refl)))

pub tested_sorts : (a : Operand) (s : Sections) → Sorts s (operators.tested a s)
unfolding form_of
tested_sorts a s =
    sorts_then s (types.filled_constant a.shape 0 s) (λ zeros t. behind (types.type_of (Boolean, a.shape.1) t) (giving op.I_NOT_EQUAL (a.id ∷ zeros ∷ []))) (filled_constant_sorts a.shape 0 s)
    (λ zeros t. typed_sorts (Boolean, a.shape.1) op.I_NOT_EQUAL (a.id ∷ zeros ∷ []) t (λ type id. refl))

pub converted_sorts : (to : Scalar) (a : Operand) (s : Sections) → Sorts s (operators.converted to a s)
unfolding operators.converted
converted_sorts to a s = by a.shape.0 to
  where
    by : (from to : Scalar) → Sorts s (operators.converted_from from to a s)
    by Boolean Boolean = stays_same s
    by Boolean Int = numbered_sorts Int a s
    by Boolean Uint = numbered_sorts Uint a s
    by Int Boolean = tested_sorts a s
    by Int Int = stays_same s
    by Int Uint = recast_sorts Uint a s
    by Uint Boolean = tested_sorts a s
    by Uint Int = recast_sorts Int a s
    by Uint Uint = stays_same s

pub spread_sorts : (count : ℕ) (a : Operand) (s : Sections) → Sorts s (operators.spread count a s)
unfolding operators.spread form_of
spread_sorts count a s = by (a.shape.1 == count)
  where
    by : (b : Bool) → Sorts s ((cond b (give a.id) (λ s. behind (types.type_of (a.shape.0, count) s) (giving op.COMPOSITE_CONSTRUCT (replicate count a.id)))) s)
    by true = stays_same s
    by false = typed_sorts (a.shape.0, count) op.COMPOSITE_CONSTRUCT (replicate count a.id) s (λ type id. refl)

pub selected_sorts : (shape : Shape) (condition a b : ℕ) (s : Sections) → Sorts s (operators.selected shape condition a b s)
unfolding operators.selected form_of
selected_sorts shape condition a b s = typed_sorts shape op.SELECT (condition ∷ a ∷ b ∷ []) s (λ type id. refl)

module _ (whole : Sections) (main : ℕ) (local_size : List ℕ) (rank : ℕ → ℕ) (f : Frame) (sorted : AreSorted whole) where
  abbrev m : Module
  m = made whole main local_size rank f

  abbrev pub Value : List ℕ → Shape → ℕ → Type 0
  Value given shape id = IsValue whole main local_size rank f given shape id

  abbrev pub Gives : Shape → ℕ → List ℕ → Sections → Type 0
  Gives shape = GivesValue whole main local_size rank f shape

  abbrev pub Fits : {A : Type 0} → List ℕ → (A → List ℕ → Sections → Type 0) → Sections → Built A → Type 0
  Fits given Is before built = Comes whole main local_size rank f given Is before built

  -- a value may be used later in its block
  abbrev pub value_later : (given now : List ℕ) (shape : Shape) (id : ℕ) → Wider given now → Value given shape id → Value now shape id
  value_later given now shape id wider v = record { type = v.type; of = v.of; typed = v.typed; known = known_wider whole main local_size sorted f given now id wider v.known }

  pub typed_comes : (given : List ℕ) (shape : Shape) (code : ℕ) (operands : List ℕ) (before : Sections) → IsSized shape → ((type : ℕ) → ((id : ℕ) → result (read (instr code (type ∷ id ∷ operands))) ≡ Some id))
      → ((type : ℕ) (now : List ℕ) → Wider given now → IsTypeOf whole shape type → Stands whole main local_size rank f now code operands type)
      → Fits given (Gives shape) before (behind (types.type_of shape before) (giving code operands))
  typed_comes given shape code operands before sized named stands =
      comes_then whole main local_size rank f given (λ id now after. IsTypeOf after shape id) (Gives shape) before (types.type_of shape before) (giving code operands) (type_sorts shape before) (type_comes whole main local_size rank f sorted given shape before sized)
      (λ type s. giving_sorts code operands type s (named type))
      (λ type s now of wider extends inside. giving_comes whole main local_size rank f now code operands shape type s sorted of (λ start. stands type now wider (type_later s whole shape type start of)))

  -- ---- one operand

  unary_form : (which : UnaryOp) → form_of (unary_code which) ≡ Some form.Unary
  unfolding form_of
  unary_form Negate = refl
  unary_form Flip = refl
  unary_form Not = refl

  same_id : (shape : Shape) (a b : ℕ) → IsTypeOf whole shape a → IsTypeOf whole shape b → (a == b) ≡ true
  same_id shape a b x y = eq-eqb a b (one_type whole shape a b x y)

  unary_may : (which : UnaryOp) (shape : Shape) (type other : ℕ) → SuitsOne which shape → IsTypeOf whole shape type → IsTypeOf whole shape other → rules.is_unary_of m (unary_code which) type other ≡ true
  unary_may Negate shape type other suits x y = and_from _ _ (ints whole main local_size rank f sorted shape type suits x) (same_id shape type other x y)
  unary_may Flip shape type other suits x y = and_from _ _ (ints whole main local_size rank f sorted shape type suits x) (same_id shape type other x y)
  unary_may Not shape type other suits x y = and_from _ _ (truths whole main local_size rank f sorted shape type suits x) (same_id shape type other x y)

  pub unary_fits : (given : List ℕ) (which : UnaryOp) (a : Operand) (before : Sections) → IsSized a.shape → SuitsOne which a.shape → Value given a.shape a.id → Fits given (Gives a.shape) before (operators.unary which a before)
  unfolding operators.unary
  unary_fits given which a before sized suits v =
      typed_comes given a.shape (unary_code which) (a.id ∷ []) before sized (λ type id. unary_named which type id a.id)
      (λ type now wider of. unary_stands whole main local_size rank f sorted now (unary_code which) type a.id a.shape a.shape (unary_form which) of (value_later given now a.shape a.id wider v) (unary_may which a.shape type v.type suits of v.of))

  -- ---- conversions

  pub recast_fits : (given : List ℕ) (to : Scalar) (a : Operand) (before : Sections) → IsSized a.shape → is_integer to ≡ true → is_integer a.shape.0 ≡ true → Value given a.shape a.id → Fits given (Gives (to, a.shape.1)) before (operators.recast to a before)
  unfolding form_of
  recast_fits given to a before sized integer from v =
      typed_comes given (to, a.shape.1) op.BITCAST (a.id ∷ []) before (record { some = sized.some; few = sized.few }) (λ type id. refl)
      (λ type now wider of. unary_stands whole main local_size rank f sorted now op.BITCAST type a.id (to, a.shape.1) a.shape refl of (value_later given now a.shape a.id wider v)
      (and_from _ _ (and_from _ _ (ints whole main local_size rank f sorted (to, a.shape.1) type integer of) (ints whole main local_size rank f sorted a.shape v.type from v.of)) (sizes whole main local_size rank f sorted (to, a.shape.1) a.shape type v.type refl of v.of)))

  -- a constant as a value, behind more
  pub fixed_value : (given : List ℕ) (shape : Shape) (id : ℕ) (at : Sections) → IsConstant at shape id → Extends at whole → Value given shape id
  fixed_value given shape id at is inside = constant_value whole main local_size rank f sorted given shape id (constant_later at whole shape id inside is)

  pub numbered_fits : (given : List ℕ) (to : Scalar) (a : Operand) (before : Sections) → IsSized a.shape → is_boolean a.shape.0 ≡ true → Value given a.shape a.id → Fits given (Gives (to, a.shape.1)) before (operators.numbered to a before)
  unfolding form_of
  numbered_fits given to a before sized boolean v =
      let shape : Shape = (to, a.shape.1) in
      let fine : IsSized shape = record { some = sized.some; few = sized.few } in
      comes_then whole main local_size rank f given (λ id now after. IsConstant after shape id) (Gives shape) before (types.filled_constant shape 1 before)
      (λ ones t. behind (types.filled_constant shape 0 t) (λ zeros u. behind (types.type_of shape u) (giving op.SELECT (a.id ∷ ones ∷ zeros ∷ [])))) (filled_constant_sorts shape 1 before)
      (filled_constant_comes whole main local_size rank f sorted given shape 1 before fine)
      (λ ones t. sorts_then t (types.filled_constant shape 0 t) (λ zeros u. behind (types.type_of shape u) (giving op.SELECT (a.id ∷ ones ∷ zeros ∷ []))) (filled_constant_sorts shape 0 t) (λ zeros u. typed_sorts shape op.SELECT (a.id ∷ ones ∷ zeros ∷ []) u (λ type id. refl)))
      (λ ones t now one wider extends inside. comes_then whole main local_size rank f now (λ id now after. IsConstant after shape id) (Gives shape) t (types.filled_constant shape 0 t) (λ zeros u. behind (types.type_of shape u) (giving op.SELECT (a.id ∷ ones ∷ zeros ∷ []))) (filled_constant_sorts shape 0 t)
      (filled_constant_comes whole main local_size rank f sorted now shape 0 t fine) (λ zeros u. typed_sorts shape op.SELECT (a.id ∷ ones ∷ zeros ∷ []) u (λ type id. refl))
      (λ zeros u later none wider_on extends_on inside_on. typed_comes later shape op.SELECT (a.id ∷ ones ∷ zeros ∷ []) u fine (λ type id. refl)
      (λ type last wide of. select_stands whole main local_size rank f sorted last type a.id ones zeros shape a.shape refl boolean refl of (value_later given last a.shape a.id (λ id h. wide id (wider_on id (wider id h))) v) (fixed_value last shape ones t one inside) (fixed_value last shape zeros u none inside_on))))

  pub tested_fits : (given : List ℕ) (a : Operand) (before : Sections) → IsSized a.shape → is_integer a.shape.0 ≡ true → Value given a.shape a.id → Fits given (Gives (Boolean, a.shape.1)) before (operators.tested a before)
  unfolding form_of
  tested_fits given a before sized integer v =
      let shape : Shape = (Boolean, a.shape.1) in
      let fine : IsSized shape = record { some = sized.some; few = sized.few } in
      comes_then whole main local_size rank f given (λ id now after. IsConstant after a.shape id) (Gives shape) before (types.filled_constant a.shape 0 before)
      (λ zeros t. behind (types.type_of shape t) (giving op.I_NOT_EQUAL (a.id ∷ zeros ∷ []))) (filled_constant_sorts a.shape 0 before)
      (filled_constant_comes whole main local_size rank f sorted given a.shape 0 before sized)
      (λ zeros t. typed_sorts shape op.I_NOT_EQUAL (a.id ∷ zeros ∷ []) t (λ type id. refl))
      (λ zeros t now none wider extends inside. typed_comes now shape op.I_NOT_EQUAL (a.id ∷ zeros ∷ []) t fine (λ type id. refl)
      (λ type last wide of. comparison_stands whole main local_size rank f sorted last op.I_NOT_EQUAL type a.id zeros shape a.shape refl refl integer refl (λ other is. refl) of (value_later given last a.shape a.id (λ id h. wide id (wider id h)) v) (fixed_value last a.shape zeros t none inside)))

  pub converted_fits : (given : List ℕ) (to : Scalar) (a : Operand) (before : Sections) → IsSized a.shape → Value given a.shape a.id → Fits given (Gives (to, a.shape.1)) before (operators.converted to a before)
  unfolding operators.converted
  converted_fits given to a before sized v = by a.shape.0 refl to
    where
      same : (s : Scalar) → a.shape.0 ≡ s → Fits given (Gives (s, a.shape.1)) before (give a.id before)
      same s e = given_comes whole main local_size rank f given (Gives (s, a.shape.1)) a.id before (λ inside. subst (λ s. Value given (s, a.shape.1) a.id) e v)

      by : (from : Scalar) → a.shape.0 ≡ from → (to : Scalar) → Fits given (Gives (to, a.shape.1)) before (operators.converted_from from to a before)
      by Boolean e Boolean = same Boolean e
      by Boolean e Int = numbered_fits given Int a before sized (ap is_boolean e) v
      by Boolean e Uint = numbered_fits given Uint a before sized (ap is_boolean e) v
      by Int e Boolean = tested_fits given a before sized (ap is_integer e) v
      by Int e Int = same Int e
      by Int e Uint = recast_fits given Uint a before sized refl (ap is_integer e) v
      by Uint e Boolean = tested_fits given a before sized (ap is_integer e) v
      by Uint e Int = recast_fits given Int a before sized refl (ap is_integer e) v
      by Uint e Uint = same Uint e

  -- ---- scalars as vectors

  pub all_alike : (given : List ℕ) (s : Scalar) (n id : ℕ) → Value given (s, 1) id → AreValues whole main local_size rank f sorted given s (replicate n 1) (replicate n id)
  all_alike given s zero id v = AreValues.none
  all_alike given s (suc n) id v = AreValues.one v (all_alike given s n id v)

  not_same : (a b : ℕ) → (a == b) ≡ false → (b == a) ≡ false
  not_same a b e = by (b == a) refl
    where
      by : (c : Bool) → (b == a) ≡ c → c ≡ false
      by true f = absurd (true≢false (sym (eq-eqb a b (sym (eqb-true b a f))) ∙ e))
      by false f = refl

  pub ones_sum : (n : ℕ) → sum (replicate n 1) ≡ n
  ones_sum n = let e = sum_by-replicate (λ x. x) n 1 in omega (arith, e)

  pub spread_fits : (given : List ℕ) (count : ℕ) (a : Operand) (before : Sections) → IsSized (a.shape.0, count) → (a.shape.1 ≡ count) ⊎ (a.shape.1 ≡ 1) → Value given a.shape a.id → Fits given (Gives (a.shape.0, count)) before (operators.spread count a before)
  unfolding operators.spread form_of
  spread_fits given count a before sized or v = by (a.shape.1 == count) refl
    where
      by : (b : Bool) → (a.shape.1 == count) ≡ b → Fits given (Gives (a.shape.0, count)) before ((cond b (give a.id) (λ s. behind (types.type_of (a.shape.0, count) s) (giving op.COMPOSITE_CONSTRUCT (replicate count a.id)))) before)
      by true e = given_comes whole main local_size rank f given (Gives (a.shape.0, count)) a.id before (λ inside. subst (λ n. Value given (a.shape.0, n) a.id) (eqb-true a.shape.1 count e) v)
      by false e = one or
        where
          one : (a.shape.1 ≡ count) ⊎ (a.shape.1 ≡ 1) → Fits given (Gives (a.shape.0, count)) before (behind (types.type_of (a.shape.0, count) before) (giving op.COMPOSITE_CONSTRUCT (replicate count a.id)))
          one (inl same) = absurd (true≢false (sym (eq-eqb a.shape.1 count same) ∙ e))
          one (inr single) =
              let w : Value given (a.shape.0, 1) a.id = subst (λ n. Value given (a.shape.0, n) a.id) single v in
              let many : (count == 1) ≡ false = subst (λ n. (count == n) ≡ false) single (not_same a.shape.1 count e) in
              typed_comes given (a.shape.0, count) op.COMPOSITE_CONSTRUCT (replicate count a.id) before sized (λ type id. refl)
              (λ type now wider of. construct_stands whole main local_size rank f sorted now type (a.shape.0, count) (replicate count 1) (replicate count a.id) refl many of (all_alike now a.shape.0 count a.id (value_later given now (a.shape.0, 1) a.id wider w)) (ones_sum count))
