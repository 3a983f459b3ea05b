-- What arguments in a row supply, each with as many components as are still wanted.
use Rattle.std.proofs.Common.{◌≡◌, refl, sym, ap, ap₂, ◌∙◌, subst, ℕ, zero, suc, ◌-◌, ◌<◌, ◌≤◌, Bool, true, false, List, [], ◌∷◌, ◌++◌, length, map, take, Some, append-nil, arith, if◌then◌else◌}
use Rattle.std.proofs.lemmas.Bool.{eqb-true, leb-false, leb-true, true≢false}
use Rattle.std.proofs.lemmas.List.{length-take-le, take_all}
use Rattle.std.specs.Prelude.{◌==◌, nat_le, replicate}
use Rattle.std.specs.List.{range_with_len}
use Rattle.std.proofs.lemmas.List.FromFn.{length-range_with_len}
use Rattle.gsl_base.specs.declared.input.Input.{Input}
use Rattle.gsl_types.specs.declared.ty.Scalar.{Scalar}
use Rattle.gsl_words.specs.declared.module.Module.{Module}
use Rattle.gsl_values.specs.declared.value.Value.{Value}
use Rattle.gsl_tree.specs.Operations.{all_components, converted as converted_word}
use Rattle.gsl_tree.specs.Shapes.{Shape}
use Rattle.gsl_tree.specs.Values.{components_in, of_components}
use Rattle.gsl_lower_law_operators.specs.OfMachine.{Ids, State, Whole}
use Rattle.gsl_spv.specs.Sections.{Sections}
use Rattle.gsl_lower_values.specs.Building.{Step, given, in_order, ◌>>=◌}
use Rattle.gsl_lower_values.specs.Constructors.{as_operand, cut, operand, picked, share, shares}
use Rattle.gsl_lower_values.specs.Operators.{converted}
use Rattle.gsl_lower_values.specs.declared.operand.Operand.{Operand}
use Rattle.gsl_lower_law_operators.specs.OfLaw.{Computes, Does, Grows}
use Rattle.gsl_lower_law_operators.specs.OfLaw.{AllStand, converted_value}
use Rattle.gsl_lower_law_operators.specs.OfLaw.{AreWords, IsOf, Keeps, Stands, StandEach}
use Rattle.gsl_lower_law_operators.proofs.OfLaw.{components_of, length_replicated}
use Rattle.gsl_lower_law_operators.proofs.OfLaw.{does_then, given_does, grows_then}
use Rattle.gsl_lower_law_operators.proofs.OfLaw.{picked_computes}
use Rattle.gsl_lower_law_operators.proofs.Conversions.{converted_computes}
use Rattle.gsl_lower_law_constructors.proofs.Fronts.{front_fits, map_row, picked_front, positions_below, take_row, zeros_fit}

-- An operand stands for a value of its shape.
abbrev pub Holds : Value → Operand → Ids → Type 0
Holds v a ids = IsOf a.shape v × Stands ids a.id v

abbrev pub zeros_of : Shape → Value
zeros_of shape = of_components (replicate shape.1 0)

pub zeros_are : (shape : Shape) → IsOf shape (zeros_of shape)
zeros_are shape = record { words = replicate shape.1 0; is = refl; count = length_replicated shape.1 0; fits = zeros_fit shape.0 shape.1 }

-- a state in which each id stands for a value
abbrev pub where_all_stand : State → Value → State
where_all_stand state v = record state { ids = λ id. Some (Whole v) }

pub words_in : {shape : Shape} (v : Value) (is : IsOf shape v) → components_in v ≡ is.words
words_in v is = ap components_in is.is ∙ components_of is.words

pub still_stand : (a b : Ids) → Keeps a b → (args : List Operand) (vs : List Value) → AllStand a args vs → AllStand b args vs
still_stand a b keeps [] [] stand = tt
still_stand a b keeps [] (v ∷ vs) stand = stand
still_stand a b keeps (o ∷ args) [] stand = stand
still_stand a b keeps (o ∷ args) (v ∷ vs) stand = (stand.0, keeps.same o.id _ stand.1, still_stand a b keeps args vs stand.2)

-- the first of the components, as many as are wanted, converted
abbrev pub share_value : Scalar → ℕ → Value → Value
share_value s wanted v = of_components (map (converted_word s) (take wanted (components_in v)))

-- what each argument supplies
pub share_values : Scalar → ℕ → List Operand → List Value → List Value
share_values s count [] vs = []
share_values s count (a ∷ args) [] = []
share_values s count (a ∷ args) (v ∷ vs) = if count == 0 then [] else share_value s count v ∷ share_values s (count - a.shape.1) args vs

module _ (m : Module) (input : Input) (whole : Sections) where
  pub converted_grows : (to : Scalar) (a : Operand) (state : State) (before : Sections) → Grows before (converted to a before)
  converted_grows to a state before = (converted_computes m input whole a (zeros_of a.shape) (zeros_are a.shape) to (where_all_stand state (zeros_of a.shape)) before refl).grows

  -- what is computed of a shape is an operand of it
  pub as_operand_does : (shape : Shape) (v : Value) (state : State) (before : Sections) (step : Step ℕ) → IsOf shape v → Computes m input whole (v, state.choices) state before step → Does m input whole (Holds v) state.choices state before (as_operand shape step)
  as_operand_does shape v state before step is computes =
      does_then m input whole (λ id ids. Stands ids id v) (Holds v) state.choices state.choices state before step (λ id. given (operand shape id)) computes
      (λ id between. (given_does m input whole (λ a ids. Unit {0}) (operand shape id) state between tt).grows)
      (λ id between ids stands keeps. given_does m input whole (Holds v) (operand shape id) (record state { ids = ids }) between (is, stands))

  -- a step that gives an operand, which is then converted
  pub convert_does : (to : Scalar) (v : Value) (state : State) (before : Sections) (step : Step Operand) → Does m input whole (Holds v) state.choices state before step
      → Computes m input whole (converted_value to v, state.choices) state before (step >>= converted to)
  convert_does to v state before step does =
      does_then m input whole (Holds v) (λ id ids. Stands ids id (converted_value to v)) state.choices state.choices state before step (converted to) does
      (λ a between. converted_grows to a state between)
      (λ a between ids holds keeps. converted_computes m input whole a v holds.0 to (record state { ids = ids }) between holds.1)

  module _ (s : Scalar) where
    share_does : (wanted : ℕ) (a : Operand) (v : Value) (state : State) (before : Sections) → 1 ≤ wanted → IsOf a.shape v → Stands state.ids a.id v
        → Computes m input whole (share_value s wanted v, state.choices) state before (share s (record { wanted = wanted; of = a }))
    unfolding share cut
    share_does wanted a v state before some is stands = by (nat_le a.shape.1 wanted) refl
      where
        front : Value
        front = of_components (take wanted (components_in v))

        converts : (step : Step Operand) → Does m input whole (Holds front) state.choices state before step → Computes m input whole (share_value s wanted v, state.choices) state before (step >>= converted s)
        converts step does = subst (λ w. Computes m input whole (w, state.choices) state before (step >>= converted s)) (ap (λ ws. of_components (map (converted_word s) ws)) (components_of (take wanted (components_in v)))) (convert_does s front state before step does)

        whole_front : a.shape.1 ≤ wanted → v ≡ front
        whole_front le = is.is ∙ ap of_components (sym (words_in v is) ∙ sym (take_all wanted (components_in v) (omega (arith, le, is.count, ap length (words_in v is)))))

        front_is : wanted ≤ a.shape.1 → IsOf (a.shape.0, wanted) front
        front_is le = record {
          words = take wanted (components_in v);
          is = refl;
          count = length-take-le wanted (components_in v) (omega (arith, le, is.count, ap length (words_in v is)));
          fits = front_fits a.shape.0 wanted (components_in v) (subst (AreWords a.shape.0) (sym (words_in v is)) is.fits);
        }

        picks : wanted ≤ a.shape.1 → Computes m input whole (front, state.choices) state before (picked a (range_with_len 0 wanted))
        picks le = subst (λ ws. Computes m input whole (of_components ws, state.choices) state before (picked a (range_with_len 0 wanted))) (picked_front (components_in v) wanted (omega (arith, le, is.count, ap length (words_in v is))))
            (picked_computes m input whole a v is state before stands (range_with_len 0 wanted) (omega (arith, some, length-range_with_len 0 wanted)) (positions_below a.shape.1 0 wanted (omega (arith, le))))

        by : (b : Bool) → nat_le a.shape.1 wanted ≡ b → Computes m input whole (share_value s wanted v, state.choices) state before ((if b then given a else as_operand (a.shape.0, wanted) (picked a (range_with_len 0 wanted))) >>= converted s)
        by true e = converts (given a) (subst (λ w. Does m input whole (Holds w) state.choices state before (given a)) (whole_front (leb-true a.shape.1 wanted e)) (given_does m input whole (Holds v) a state before (is, stands)))
        by false e = let less : wanted < a.shape.1 = leb-false a.shape.1 wanted e in let le : wanted ≤ a.shape.1 = omega (arith, less) in converts (as_operand (a.shape.0, wanted) (picked a (range_with_len 0 wanted))) (as_operand_does (a.shape.0, wanted) front state before (picked a (range_with_len 0 wanted)) (front_is le) (picks le))

    share_grows : (wanted : ℕ) (a : Operand) (state : State) (before : Sections) → 1 ≤ wanted → Grows before (share s (record { wanted = wanted; of = a }) before)
    share_grows wanted a state before some = (share_does wanted a (zeros_of a.shape) (where_all_stand state (zeros_of a.shape)) before some (zeros_are a.shape) refl).grows

    given_grows : (ids : List ℕ) (state : State) (before : Sections) → Grows before (given ids before)
    given_grows ids state before = (given_does m input whole (λ ids now. Unit {0}) ids state before tt).grows

    some : (n : ℕ) → (n == 0) ≡ false → 1 ≤ n
    some zero e = absurd (true≢false e)
    some (suc n) e = omega arith

    row_grows : (count : ℕ) (args : List Operand) (state : State) (before : Sections) → Grows before (in_order (share s) (shares count args) before)
    unfolding in_order
    row_grows count [] state before = given_grows [] state before
    row_grows count (a ∷ args) state before = by (λ between. row_grows (count - a.shape.1) args state between) (count == 0) refl
      where
        by : ((between : Sections) → Grows between (in_order (share s) (shares (count - a.shape.1) args) between)) → (b : Bool) → (count == 0) ≡ b → Grows before (in_order (share s) (if b then [] else record { wanted = count; of = a } ∷ shares (count - a.shape.1) args) before)
        by later true e = given_grows [] state before
        by later false e =
            grows_then m input whole before (share s (record { wanted = count; of = a }) before) (λ id. in_order (share s) (shares (count - a.shape.1) args) >>= (λ ids. given (id ∷ ids))) (share_grows count a state before (some count e))
            (λ id between. grows_then m input whole between (in_order (share s) (shares (count - a.shape.1) args) between) (λ ids. given (id ∷ ids)) (later between) (λ ids last. given_grows (id ∷ ids) state last))

    -- each of the ids stands for what its argument supplies
    pub row_does : (count : ℕ) (args : List Operand) (vs : List Value) (state : State) (before : Sections) → AllStand state.ids args vs
        → Does m input whole (λ given ids. StandEach ids given (share_values s count args vs)) state.choices state before (in_order (share s) (shares count args))
    unfolding in_order share_values
    row_does count [] [] state before stand = given_does m input whole (λ given ids. StandEach ids given []) [] state before tt
    row_does count [] (v ∷ vs) state before stand = absurd stand
    row_does count (a ∷ args) [] state before stand = absurd stand
    row_does count (a ∷ args) (v ∷ vs) state before stand = by (λ ids between still. row_does (count - a.shape.1) args vs (record state { ids = ids }) between still) (count == 0) refl
      where
        by : ((ids : Ids) (between : Sections) → AllStand ids args vs → Does m input whole (λ given ids. StandEach ids given (share_values s (count - a.shape.1) args vs)) state.choices (record state { ids = ids }) between (in_order (share s) (shares (count - a.shape.1) args)))
            → (b : Bool) → (count == 0) ≡ b
            → Does m input whole (λ given ids. StandEach ids given (if b then [] else share_value s count v ∷ share_values s (count - a.shape.1) args vs)) state.choices state before (in_order (share s) (if b then [] else record { wanted = count; of = a } ∷ shares (count - a.shape.1) args))
        by later true e = given_does m input whole (λ given ids. StandEach ids given []) [] state before tt
        by later false e =
            does_then m input whole (λ id ids. Stands ids id (share_value s count v)) (λ given ids. StandEach ids given (share_value s count v ∷ share_values s (count - a.shape.1) args vs)) state.choices state.choices state before (share s (record { wanted = count; of = a })) (λ id. in_order (share s) (shares (count - a.shape.1) args) >>= (λ ids. given (id ∷ ids)))
            (share_does count a v state before (some count e) stand.0 stand.1)
            (λ id between. grows_then m input whole between (in_order (share s) (shares (count - a.shape.1) args) between) (λ ids. given (id ∷ ids)) (row_grows (count - a.shape.1) args state between) (λ ids last. given_grows (id ∷ ids) state last))
            (λ id between ids stands keeps.
            does_then m input whole (λ given ids. StandEach ids given (share_values s (count - a.shape.1) args vs)) (λ given ids. StandEach ids given (share_value s count v ∷ share_values s (count - a.shape.1) args vs)) state.choices state.choices (record state { ids = ids }) between (in_order (share s) (shares (count - a.shape.1) args)) (λ more. given (id ∷ more))
            (later ids between (still_stand state.ids ids keeps args vs stand.2))
            (λ more last. given_grows (id ∷ more) state last)
            (λ more last now each kept. given_does m input whole (λ given ids. StandEach ids given (share_value s count v ∷ share_values s (count - a.shape.1) args vs)) (id ∷ more) (record state { ids = now }) last (kept.same id _ stands, each)))

-- ---- the words of what is supplied

-- they are the first of the words of all arguments, converted
pub share_words : (s : Scalar) (ids : Ids) (count : ℕ) (args : List Operand) (vs : List Value) → AllStand ids args vs → all_components (share_values s count args vs) ≡ map (converted_word s) (take count (all_components vs))
unfolding share_values
share_words s ids count [] [] stand = nothing count
  where
    nothing : (n : ℕ) → [] ≡ map (converted_word s) (take n [])
    nothing zero = refl
    nothing (suc n) = refl
share_words s ids count [] (v ∷ vs) stand = absurd stand
share_words s ids count (a ∷ args) [] stand = absurd stand
share_words s ids count (a ∷ args) (v ∷ vs) stand = by (share_words s ids (count - a.shape.1) args vs stand.2) (count == 0) refl
  where
    by : all_components (share_values s (count - a.shape.1) args vs) ≡ map (converted_word s) (take (count - a.shape.1) (all_components vs)) → (b : Bool) → (count == 0) ≡ b
        → all_components (if b then [] else share_value s count v ∷ share_values s (count - a.shape.1) args vs) ≡ map (converted_word s) (take count (all_components (v ∷ vs)))
    by later true e = ap (λ n. map (converted_word s) (take n (all_components (v ∷ vs)))) (sym (eqb-true count 0 e))
    by later false e =
        ap₂ (λ xs ys. xs ++ ys) (components_of (map (converted_word s) (take count (components_in v)))) later
        ∙ sym (map_row (converted_word s) (take count (components_in v)) (take (count - a.shape.1) (all_components vs)))
        ∙ ap (λ n. map (converted_word s) (take count (components_in v) ++ take (count - n) (all_components vs))) (sym (ap length (words_in v stand.0) ∙ stand.0.count))
        ∙ ap (map (converted_word s)) (sym (take_row count (components_in v) (all_components vs)))

-- one id alone stands for them
pub alone_stands : (s : Scalar) (ids : Ids) (count : ℕ) (args : List Operand) (vs : List Value) (id : ℕ) → StandEach ids (id ∷ []) (share_values s count args vs) → Stands ids id (of_components (all_components (share_values s count args vs)))
unfolding share_values
alone_stands s ids count [] vs id stands = absurd stands
alone_stands s ids count (a ∷ args) [] id stands = absurd stands
alone_stands s ids count (a ∷ args) (v ∷ vs) id stands = by (count == 0) stands
  where
    by_rest : (others : List Value) → StandEach ids (id ∷ []) (share_value s count v ∷ others) → Stands ids id (of_components (all_components (share_value s count v ∷ others)))
    by_rest [] stands = stands.0 ∙ ap (λ ws. Some (Whole (of_components ws))) (sym (append-nil (components_in (share_value s count v)) ∙ components_of (map (converted_word s) (take count (components_in v)))))
    by_rest (w ∷ others) stands = absurd stands.1

    by : (b : Bool) → StandEach ids (id ∷ []) (if b then [] else share_value s count v ∷ share_values s (count - a.shape.1) args vs) → Stands ids id (of_components (all_components (if b then [] else share_value s count v ∷ share_values s (count - a.shape.1) args vs)))
    by true stands = absurd stands
    by false stands = by_rest (share_values s (count - a.shape.1) args vs) stands
