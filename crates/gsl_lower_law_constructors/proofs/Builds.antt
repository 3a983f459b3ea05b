-- Constructors of scalars and vectors.
use Rattle.std.proofs.Common.{◌≡◌, refl, sym, ap, ap₂, ◌∙◌, subst, ℕ, zero, suc, ◌+◌, ◌≤◌, Bool, true, false, List, [], ◌∷◌, ◌⊎◌, inl, inr, length, map, take, Some, append-nil, arith, if◌then◌else◌}
use Rattle.std.proofs.lemmas.Bool.{eqb-true, eq-eqb, true≢false}
use Rattle.std.proofs.lemmas.List.{length-append, length-take-le}
use Rattle.std.specs.Prelude.{◌==◌, nat_eq, replicate, slice_index}
use Rattle.gsl_base.specs.declared.input.Input.{Input}
use Rattle.gsl_types.specs.declared.ty.Scalar.{Scalar}
use Rattle.gsl_types.specs.declared.ty.Ty.TheViews.{outs-One, outs-Vector}
use Rattle.gsl_types.specs.declared.ty.Ty.TheVariants as ty
use Rattle.gsl_words.specs.declared.module.Module.{Module}
use Rattle.gsl_values.specs.declared.value.Value.{Value}
use Rattle.gsl_values.specs.declared.value.Value.TheVariants.{Word, Many}
use Rattle.gsl_tree.specs.Operations.{all_components, build_kind, build_value, converted as converted_word, filled, scalar_from, spread, vector_from}
use Rattle.gsl_tree.specs.Shapes.{Shape, of_shape}
use Rattle.gsl_tree.specs.Values.{components_in, of_components}
use Rattle.gsl_lower_law_operators.specs.OfMachine.{Ids, State, Whole}
use Rattle.gsl_spv.specs.Sections.{Sections}
use Rattle.gsl_lower_values.specs.Building.{given}
use Rattle.gsl_lower_values.specs.Constructors.{as_operand, built, component, construct, filled_with, first_of, in_row, parts, picked, put_together, scalar, vector}
use Rattle.gsl_lower_values.specs.Operators.{converted}
use Rattle.gsl_lower_values.specs.declared.operand.Operand.{Operand}
use Rattle.gsl_lower_law_operators.specs.OfLaw.{Computes, Does, Grows}
use Rattle.gsl_lower_law_operators.specs.OfLaw.{AllStand, converted_value}
use Rattle.gsl_lower_law_operators.specs.OfLaw.{AreWords, IsOf, Stands, StandEach}
use Rattle.gsl_lower_law_operators.proofs.OfLaw.{components_of, words_replicated}
use Rattle.gsl_lower_law_operators.proofs.OfLaw.{construct_does, each_stands}
use Rattle.gsl_lower_law_operators.proofs.OfLaw.{does_then, given_does}
use Rattle.gsl_lower_law_operators.proofs.OfLaw.{one_word, picked_computes}
use Rattle.gsl_lower_law_operators.proofs.OfLaw.{typed_grows}
use Rattle.gsl_lower_law_operators.proofs.Conversions.{converted_computes}
use Rattle.gsl_instr.specs.declared.op.TheConstants as op
use Rattle.gsl_lower_law_constructors.specs.Supply.{Serve, supplied}
use Rattle.gsl_lower_law_constructors.proofs.Fronts.{first_in_row, many_words, map_replicated, take_same}
use Rattle.gsl_lower_law_constructors.proofs.Shares.{Holds, alone_stands, as_operand_does, convert_does, row_does, share_values, share_words, words_in}

-- ---- what a constructor gives

scalar_built : (s : Scalar) (vs : List Value) → build_value (of_shape (s, 1)) vs ≡ scalar_from s vs
scalar_built s vs = ap (λ t. build_kind t vs) (outs-One s)

vector_built : (s : Scalar) (n : ℕ) (vs : List Value) → nat_eq n 1 ≡ false → build_value (of_shape (s, n)) vs ≡ vector_from s n vs
vector_built s n vs e = ap (λ b. build_value (if b then ty.One s else ty.Vector s n) vs) e ∙ ap (λ t. build_kind t vs) (outs-Vector s n)

-- as many words as arguments have components
words_supplied : (ids : Ids) (args : List Operand) (vs : List Value) → AllStand ids args vs → length (all_components vs) ≡ supplied args
words_supplied ids [] [] stand = refl
words_supplied ids [] (v ∷ vs) stand = absurd stand
words_supplied ids (a ∷ args) [] stand = absurd stand
words_supplied ids (a ∷ args) (v ∷ vs) stand = length-append (components_in v) (all_components vs) ∙ ap₂ (λ a b. a + b) (ap length (words_in v stand.0) ∙ stand.0.count) (words_supplied ids args vs stand.2)

many_spread : (count : ℕ) (ws : List ℕ) → 2 ≤ length ws → spread count ws ≡ ws
many_spread count [] many = refl
many_spread count (w ∷ []) many = absurd (let z : 2 ≤ 1 = many in omega (arith, z))
many_spread count (w ∷ next ∷ ws) many = refl

mapped_length : (f : ℕ → ℕ) (ws : List ℕ) → length (map f ws) ≡ length ws
mapped_length f [] = refl
mapped_length f (w ∷ ws) = ap suc (mapped_length f ws)

-- of at least two components that are there, what is given are the first words
row_given : (s : Scalar) (n : ℕ) (vs : List Value) → 2 ≤ n → n ≤ length (all_components vs) → of_components (map (converted_word s) (take n (all_components vs))) ≡ vector_from s n vs
row_given s n vs many enough =
    many_words (map (converted_word s) (take n (all_components vs))) (omega (arith, many, mapped_length (converted_word s) (take n (all_components vs)), length-take-le n (all_components vs) enough))
    ∙ ap (λ ws. Many (map Word (map (converted_word s) (take n ws)))) (sym (many_spread n (all_components vs) (omega (arith, many, enough))))

-- one word alone fills all components
one_given : (s : Scalar) (n w : ℕ) (v : Value) → 2 ≤ n → components_in v ≡ w ∷ [] → of_components (replicate n (converted_word s w)) ≡ vector_from s n (v ∷ [])
one_given s n w v many e =
    many_words (replicate n (converted_word s w)) (omega (arith, many, length_of n (converted_word s w)))
    ∙ ap (λ ws. Many (map Word ws)) (sym (map_replicated (converted_word s) n w) ∙ ap (map (converted_word s)) (sym (take_same n w)))
    ∙ ap (λ ws. Many (map Word (filled s n ws))) (sym (append-nil (components_in v) ∙ e))
  where
    length_of : (n w : ℕ) → length (replicate n w) ≡ n
    length_of zero w = refl
    length_of (suc n) w = ap suc (length_of n w)

-- ---- counts

not_one : (n : ℕ) → 2 ≤ n → (n == 1) ≡ false
not_one n many = by (n == 1) refl
  where
    by : (b : Bool) → (n == 1) ≡ b → (n == 1) ≡ false
    by true e = absurd (let z : n ≡ 1 = eqb-true n 1 e in omega (arith, z, many))
    by false e = e

other : (n : ℕ) → (n == 1) ≡ false → nat_eq n 1 ≡ false
other n e = e

several : (n : ℕ) → 1 ≤ n → (n == 1) ≡ false → 2 ≤ n
several zero some e = absurd (let z : 1 ≤ 0 = some in omega (arith, z))
several (suc zero) some e = absurd (true≢false e)
several (suc (suc n)) some e = omega arith

module _ (m : Module) (input : Input) (whole : Sections) where
  -- ---- scalars

  first_does : (a : Operand) (v : Value) (state : State) (before : Sections) → 1 ≤ a.shape.1 → IsOf a.shape v → Stands state.ids a.id v
      → Does m input whole (Holds (Word (slice_index (components_in v) 0))) state.choices state before (first_of a)
  unfolding first_of picked
  first_does a v state before some is stands = by (a.shape.1 == 1) refl
    where
      first : Value
      first = Word (slice_index (components_in v) 0)

      first_is : IsOf (a.shape.0, 1) first
      first_is = record { words = slice_index (components_in v) 0 ∷ []; is = refl; count = refl; fits = subst (λ ws. AreWords a.shape.0 (slice_index ws 0 ∷ [])) (sym (words_in v is)) (front is.words (omega (arith, some, is.count)) is.fits) }
        where
          front : (ws : List ℕ) → 1 ≤ length ws → AreWords a.shape.0 ws → AreWords a.shape.0 (slice_index ws 0 ∷ [])
          front [] few fits = absurd (let z : 1 ≤ 0 = few in omega (arith, z))
          front (w ∷ ws) few fits = (fits.0, tt)

      by : (b : Bool) → (a.shape.1 == 1) ≡ b → Does m input whole (Holds first) state.choices state before (if b then given a else as_operand (a.shape.0, 1) (component a 0))
      by true e =
          let one = one_word is.words (is.count ∙ eqb-true a.shape.1 1 e) in
          let same : v ≡ first = is.is ∙ ap of_components one.1 ∙ ap (λ ws. Word (slice_index ws 0)) (sym (words_in v is ∙ one.1)) in
          given_does m input whole (Holds first) a state before (subst (λ w. IsOf a.shape w) same is, stands ∙ ap (λ w. Some (Whole w)) same)
      by false e = as_operand_does m input whole (a.shape.0, 1) first state before (component a 0) first_is
          (subst (λ b. Computes m input whole (first, state.choices) state before (if b then given a.id else component a 0)) e (picks some))
        where
          picks : 1 ≤ a.shape.1 → Computes m input whole (first, state.choices) state before (if a.shape.1 == 1 then given a.id else component a 0)
          picks some = picked_computes m input whole a v is state before stands (0 ∷ []) (omega arith) (omega (arith, some), tt)

  scalar_does : (s : Scalar) (args : List Operand) (vs : List Value) (state : State) (before : Sections) → Serve 1 args → AllStand state.ids args vs
      → Computes m input whole (scalar_from s vs, state.choices) state before (scalar s args)
  scalar_does s [] vs state before serve stand = absurd (none serve.all)
    where
      none : (1 ≤ supplied []) ⊎ (supplied [] ≡ 1) → ⊥
      none (inl z) = omega (arith, z)
      none (inr z) = omega (arith, z)
  scalar_does s (a ∷ args) [] state before serve stand = absurd stand
  scalar_does s (a ∷ args) (v ∷ vs) state before serve stand =
      subst (λ w. Computes m input whole (w, state.choices) state before (scalar s (a ∷ args)))
      (ap (λ ws. of_components (map (converted_word s) ws)) (components_of (slice_index (components_in v) 0 ∷ []))
      ∙ ap (λ w. Word (converted_word s w)) (sym (first_in_row (components_in v) (all_components vs) (omega (arith, serve.each.0, stand.0.count, ap length (words_in v stand.0))))))
      (convert_does m input whole s (Word (slice_index (components_in v) 0)) state before (first_of a) (first_does a v state before serve.each.0 stand.0 stand.1))

  -- ---- vectors

  filled_does : (shape : Shape) (a : Operand) (v : Value) (state : State) (before : Sections) → 2 ≤ shape.1 → a.shape.1 ≡ 1 → IsOf a.shape v → Stands state.ids a.id v
      → Computes m input whole (vector_from shape.0 shape.1 (v ∷ []), state.choices) state before (filled_with shape a)
  filled_does shape a v state before many one is stands =
      let w = one_word is.words (is.count ∙ one) in
      let alone : components_in v ≡ w.0 ∷ [] = words_in v is ∙ w.1 in
      subst (λ w. Computes m input whole (w, state.choices) state before (filled_with shape a))
      (ap of_components (words_replicated shape.1 (converted_word shape.0 w.0) (converted_value shape.0 v) (ap (λ ws. components_in (of_components (map (converted_word shape.0) ws))) alone ∙ components_of (converted_word shape.0 w.0 ∷ [])))
      ∙ one_given shape.0 shape.1 w.0 v many alone)
      (does_then m input whole (λ id ids. Stands ids id (converted_value shape.0 v)) (λ id ids. Stands ids id (of_components (all_components (replicate shape.1 (converted_value shape.0 v))))) state.choices state.choices state before (converted shape.0 a) (λ part. construct shape (replicate shape.1 part))
      (converted_computes m input whole a v is shape.0 state before stands)
      (λ part between. typed_grows m input whole shape op.COMPOSITE_CONSTRUCT (replicate shape.1 part) state between)
      (λ part between ids part_is keeps. construct_does m input whole shape (replicate shape.1 part) (replicate shape.1 (converted_value shape.0 v)) (record state { ids = ids }) between (not_one shape.1 many) (each_stands ids shape.1 part (converted_value shape.0 v) part_is)))

  together_grows : (shape : Shape) (given : List ℕ) (state : State) (before : Sections) → Grows before (put_together shape given before)
  together_grows shape [] state before = typed_grows m input whole shape op.COMPOSITE_CONSTRUCT [] state before
  together_grows shape (id ∷ []) state before = (given_does m input whole (λ id ids. Unit {0}) id state before tt).grows
  together_grows shape (id ∷ next ∷ ids) state before = typed_grows m input whole shape op.COMPOSITE_CONSTRUCT (id ∷ next ∷ ids) state before

  row_built : (shape : Shape) (args : List Operand) (vs : List Value) (state : State) (before : Sections) → 2 ≤ shape.1 → shape.1 ≤ supplied args → AllStand state.ids args vs
      → Computes m input whole (vector_from shape.0 shape.1 vs, state.choices) state before (in_row shape args)
  row_built shape args vs state before many enough stand =
      subst (λ w. Computes m input whole (w, state.choices) state before (in_row shape args))
      (ap of_components (share_words shape.0 state.ids shape.1 args vs stand) ∙ row_given shape.0 shape.1 vs many (omega (arith, enough, words_supplied state.ids args vs stand)))
      (does_then m input whole (λ given ids. StandEach ids given values) (λ id ids. Stands ids id (of_components (all_components values))) state.choices state.choices state before (parts shape.0 shape.1 args) (put_together shape)
      (row_does m input whole shape.0 shape.1 args vs state before stand)
      (λ given between. together_grows shape given state between)
      (λ given between ids each keeps. by given between ids each))
    where
      values : List Value
      values = share_values shape.0 shape.1 args vs

      by : (parts : List ℕ) (between : Sections) (ids : Ids) → StandEach ids parts values → Computes m input whole (of_components (all_components values), state.choices) (record state { ids = ids }) between (put_together shape parts)
      by [] between ids each = construct_does m input whole shape [] values (record state { ids = ids }) between (not_one shape.1 many) each
      by (id ∷ []) between ids each = given_does m input whole (λ id ids. Stands ids id (of_components (all_components values))) id (record state { ids = ids }) between (alone_stands shape.0 ids shape.1 args vs id each)
      by (id ∷ next ∷ more) between ids each = construct_does m input whole shape (id ∷ next ∷ more) values (record state { ids = ids }) between (not_one shape.1 many) each

  vector_does : (shape : Shape) (args : List Operand) (vs : List Value) (state : State) (before : Sections) → 2 ≤ shape.1 → Serve shape.1 args → AllStand state.ids args vs
      → Computes m input whole (vector_from shape.0 shape.1 vs, state.choices) state before (vector shape args)
  vector_does shape [] vs state before many serve stand = absurd (by serve.all)
    where
      by : (shape.1 ≤ supplied []) ⊎ (supplied [] ≡ 1) → ⊥
      by (inl z) = omega (arith, z, many)
      by (inr z) = omega (arith, z)
  vector_does shape (a ∷ []) [] state before many serve stand = absurd stand
  vector_does shape (a ∷ []) (v ∷ w ∷ vs) state before many serve stand = absurd stand.2
  vector_does shape (a ∷ []) (v ∷ []) state before many serve stand = by (a.shape.1 == 1) refl
    where
      enough : (a.shape.1 == 1) ≡ false → (shape.1 ≤ a.shape.1 + 0) ⊎ (a.shape.1 + 0 ≡ 1) → shape.1 ≤ a.shape.1 + 0
      enough e (inl le) = le
      enough e (inr one) = absurd (true≢false (sym (eq-eqb a.shape.1 1 (omega (arith, one))) ∙ e))

      by : (b : Bool) → (a.shape.1 == 1) ≡ b → Computes m input whole (vector_from shape.0 shape.1 (v ∷ []), state.choices) state before (if b then filled_with shape a else in_row shape (a ∷ []))
      by true e = filled_does shape a v state before many (eqb-true a.shape.1 1 e) stand.0 stand.1
      by false e = row_built shape (a ∷ []) (v ∷ []) state before many (enough e serve.all) stand
  vector_does shape (a ∷ b ∷ args) vs state before many serve stand = row_built shape (a ∷ b ∷ args) vs state before many (enough serve.all) stand
    where
      enough : (shape.1 ≤ supplied (a ∷ b ∷ args)) ⊎ (supplied (a ∷ b ∷ args) ≡ 1) → shape.1 ≤ supplied (a ∷ b ∷ args)
      enough (inl le) = le
      enough (inr one) = absurd (omega (arith, one, serve.each.0, serve.each.1.0))

  pub built_computes : (shape : Shape) (args : List Operand) (vs : List Value) (state : State) (before : Sections) → 1 ≤ shape.1 → Serve shape.1 args → AllStand state.ids args vs
      → Computes m input whole (build_value (of_shape shape) vs, state.choices) state before (built shape args)
  unfolding built
  built_computes shape args vs state before some serve stand = by (shape.1 == 1) refl
    where
      by : (b : Bool) → (shape.1 == 1) ≡ b → Computes m input whole (build_value (of_shape shape) vs, state.choices) state before (if b then scalar shape.0 args else vector shape args)
      by true e =
          let one = eqb-true shape.1 1 e in
          subst (λ w. Computes m input whole (w, state.choices) state before (scalar shape.0 args)) (sym (ap (λ n. build_value (of_shape (shape.0, n)) vs) one ∙ scalar_built shape.0 vs))
          (scalar_does shape.0 args vs state before (subst (λ n. Serve n args) one serve) stand)
      by false e =
          subst (λ w. Computes m input whole (w, state.choices) state before (vector shape args)) (sym (vector_built shape.0 shape.1 vs (other shape.1 e)))
          (vector_does shape args vs state before (several shape.1 some e) serve stand)
