-- Access chains.
use Rattle.std.proofs.Common.{◌≡◌, refl, ap, ◌∙◌, subst, ℕ, List, [], ◌∷◌, Option, Some, None}
use Rattle.gsl_base.specs.declared.input.Input.{Input}
use Rattle.gsl_instr.specs.Forms.{form_of}
use Rattle.gsl_instr.specs.declared.op.TheConstants as op
use Rattle.gsl_types.specs.declared.ty.Scalar.TheVariants.{Int}
use Rattle.gsl_words.specs.declared.module.Module.{Module}
use Rattle.gsl_values.specs.declared.value.Value.TheVariants.{Word, outs-Word}
use Rattle.gsl_tree.specs.Values.{word_in, word_layer}
use Rattle.gsl_lower_law_constructors.specs.OfMachine.{along, into}
use Rattle.gsl_lower_law_constructors.specs.OfMachine.{Going, Held, Ids, Outcome, Pointer, Points, State, Whole, giving, on_pointer, on_whole}
use Rattle.gsl_spv.specs.Declarations as d
use Rattle.gsl_spv.specs.Sections.{Sections}
use Rattle.gsl_spv.specs.declared.plain.PlainType.TheVariants as plain
use Rattle.gsl_spv.proofs.Answering.{plain_once}
use Rattle.gsl_lower_values.specs.Building.{given, giving as put_giving, in_order, ◌>>=◌}
use Rattle.gsl_lower_values.specs.Types.{scalar_constant}
use Rattle.gsl_lower_places.specs.Reading.{index, indexes, pointer, pointer_type}
use Rattle.gsl_lower_places.specs.declared.reached.Part.{Part}
use Rattle.gsl_lower_places.specs.declared.reached.Part.TheVariants.{Fixed, By}
use Rattle.gsl_lower_law_constructors.specs.OfLaw.{Computes, Does, Grows}
use Rattle.gsl_lower_law_constructors.specs.OfLaw.{Keeps, Stands}
use Rattle.gsl_lower_law_constructors.proofs.OfLaw.{scalar_stands}
use Rattle.gsl_lower_law_constructors.proofs.OfLaw.{Yields, giving_grows, yielding_does}
use Rattle.gsl_lower_law_constructors.proofs.OfLaw.{does_then, given_does, grows_then}
use Rattle.gsl_lower_law_constructors.proofs.OfLaw.{Any, intern_does}
use Rattle.gsl_lower_law_places.specs.Leading.{LeadsTo, NumberEach, Numbers, through}

-- ids stand for words
abbrev pub StandForWords : Ids → List ℕ → List ℕ → Type 0
StandForWords ids [] [] = Unit {0}
StandForWords ids [] (word ∷ words) = ⊥
StandForWords ids (id ∷ more) [] = ⊥
StandForWords ids (id ∷ more) (word ∷ words) = Stands ids id (Word word) × StandForWords ids more words

pub still_number : (a b : Ids) → Keeps a b → (parts : List Part) (words : List ℕ) → NumberEach a parts words → NumberEach b parts words
still_number a b keeps [] [] each = tt
still_number a b keeps [] (word ∷ words) each = each
still_number a b keeps (part ∷ parts) [] each = each
still_number a b keeps (Fixed number ∷ parts) (word ∷ words) each = (each.0, still_number a b keeps parts words each.1)
still_number a b keeps (By s id ∷ parts) (word ∷ words) each = (keeps.same id _ each.0, still_number a b keeps parts words each.1)

module _ (m : Module) (input : Input) where
  -- a chain goes through the words for which its indexes stand
  pub along_through : (place : ℕ) (state : State) (from : Pointer) (ids words : List ℕ) (go : Pointer → Outcome) → StandForWords state.ids ids words → along m input place state from ids go ≡ through m input place state from words go
  along_through place state from [] [] go stand = refl
  along_through place state from [] (word ∷ words) go stand = absurd stand
  along_through place state from (id ∷ ids) [] go stand = absurd stand
  along_through place state from (id ∷ ids) (word ∷ words) go stand =
      ap (λ o. on_whole o (λ v. into m input place state from (word_in v) (λ to. along m input place state to ids go))) stand.0
      ∙ ap (λ n. into m input place state from n (λ to. along m input place state to ids go)) (ap word_layer (outs-Word word))
      ∙ ap (into m input place state from word) (λ i to. along_through place state to ids words go stand.1 i)

  chains : (type base : ℕ) (ids words : List ℕ) (from to : Pointer) (state : State) → state.ids base ≡ Some (Points from) → StandForWords state.ids ids words → LeadsTo m input state from words to
      → Yields m input op.ACCESS_CHAIN (base ∷ ids) type state (Points to) state.choices
  unfolding form_of
  chains type base ids words from to state stands stand leads = record {
    gives = λ id. refl;
    named = λ id. refl;
    done = λ id at rest.
        ap (λ o. on_pointer o (λ from. along m input at (record state { rest = rest }) from ids (λ to. giving (record state { rest = rest }) id (Points to)))) stands
        ∙ along_through at (record state { rest = rest }) from ids words (λ to. giving (record state { rest = rest }) id (Points to)) stand
        ∙ leads at (λ to. giving (record state { rest = rest }) id (Points to));
  }

  module _ (whole : Sections) where
    pub pointer_type_does : (class pointee : ℕ) (state : State) (before : Sections) → Does m input whole (Any m input whole) state.choices state before (pointer_type class pointee)
    pointer_type_does class pointee state before = intern_does m input whole (Any m input whole) (d.plain_type (plain.Pointer class pointee)) state before (plain_once (plain.Pointer class pointee)) (λ id stands text lasting. tt)

    pub index_grows : (part : Part) (state : State) (before : Sections) → Grows before (index part before)
    unfolding index
    index_grows (Fixed number) state before = (scalar_stands m input whole Int number state before).grows
    index_grows (By s id) state before = (given_does m input whole (Any m input whole) id state before tt).grows

    pub index_does : (part : Part) (word : ℕ) (state : State) (before : Sections) → Numbers state.ids part word → Computes m input whole (Word word, state.choices) state before (index part)
    unfolding index
    index_does (Fixed number) word state before is = subst (λ n. Computes m input whole (Word n, state.choices) state before (scalar_constant Int number)) is (scalar_stands m input whole Int number state before)
    index_does (By s id) word state before is = given_does m input whole (λ given ids. Stands ids given (Word word)) id state before is

    given_grows : (ids : List ℕ) (state : State) (before : Sections) → Grows before (given ids before)
    given_grows ids state before = (given_does m input whole (Any m input whole) ids state before tt).grows

    indexes_grow : (parts : List Part) (state : State) (before : Sections) → Grows before (indexes parts before)
    unfolding in_order
    indexes_grow [] state before = given_grows [] state before
    indexes_grow (part ∷ parts) state before =
        grows_then m input whole before (index part before) (λ id. in_order index parts >>= (λ ids. given (id ∷ ids))) (index_grows part state before)
        (λ id between. grows_then m input whole between (in_order index parts between) (λ ids. given (id ∷ ids)) (indexes_grow parts state between) (λ ids later. given_grows (id ∷ ids) state later))

    pub indexes_do : (parts : List Part) (words : List ℕ) (state : State) (before : Sections) → NumberEach state.ids parts words → Does m input whole (λ given ids. StandForWords ids given words) state.choices state before (indexes parts)
    unfolding in_order
    indexes_do [] [] state before each = given_does m input whole (λ given ids. StandForWords ids given []) [] state before tt
    indexes_do [] (word ∷ words) state before each = absurd each
    indexes_do (part ∷ parts) [] state before each = absurd each
    indexes_do (part ∷ parts) (word ∷ words) state before each =
        does_then m input whole (λ id ids. Stands ids id (Word word)) (λ given ids. StandForWords ids given (word ∷ words)) state.choices state.choices state before (index part) (λ id. in_order index parts >>= (λ ids. given (id ∷ ids)))
        (index_does part word state before each.0)
        (λ id between. grows_then m input whole between (in_order index parts between) (λ ids. given (id ∷ ids)) (indexes_grow parts state between) (λ ids later. given_grows (id ∷ ids) state later))
        (λ id between ids stands keeps.
        does_then m input whole (λ given ids. StandForWords ids given words) (λ given ids. StandForWords ids given (word ∷ words)) state.choices state.choices (record state { ids = ids }) between (in_order index parts) (λ more. given (id ∷ more))
        (indexes_do parts words (record state { ids = ids }) between (still_number state.ids ids keeps parts words each.1))
        (λ more later. given_grows (id ∷ more) state later)
        (λ more later last rest kept. given_does m input whole (λ given ids. StandForWords ids given (word ∷ words)) (id ∷ more) (record state { ids = last }) later (kept.same id _ stands, rest)))

    pub still_words : (a b : Ids) → Keeps a b → (ids words : List ℕ) → StandForWords a ids words → StandForWords b ids words
    still_words a b keeps [] [] stand = tt
    still_words a b keeps [] (word ∷ words) stand = stand
    still_words a b keeps (id ∷ ids) [] stand = stand
    still_words a b keeps (id ∷ ids) (word ∷ words) stand = (keeps.same id _ stand.0, still_words a b keeps ids words stand.1)

    pub chain_grows : (class pointee : ℕ) (operands : List ℕ) (state : State) (before : Sections) → Grows before ((pointer_type class pointee >>= put_giving op.ACCESS_CHAIN operands) before)
    chain_grows class pointee operands state before =
        grows_then m input whole before (pointer_type class pointee before) (put_giving op.ACCESS_CHAIN operands) (pointer_type_does class pointee state before).grows (λ type between. giving_grows m input whole op.ACCESS_CHAIN operands type between)

    pub pointer_grows : (id class pointee : ℕ) (parts : List Part) (state : State) (before : Sections) → Grows before (pointer id class pointee parts before)
    unfolding pointer
    pointer_grows id class pointee [] state before = (given_does m input whole (Any m input whole) id state before tt).grows
    pointer_grows id class pointee (part ∷ parts) state before =
        grows_then m input whole before (indexes (part ∷ parts) before) (λ ids. pointer_type class pointee >>= put_giving op.ACCESS_CHAIN (id ∷ ids)) (indexes_grow (part ∷ parts) state before) (λ ids between. chain_grows class pointee (id ∷ ids) state between)

    pub pointer_does : (id class pointee : ℕ) (parts : List Part) (words : List ℕ) (from to : Pointer) (state : State) (before : Sections) → state.ids id ≡ Some (Points from) → NumberEach state.ids parts words → LeadsTo m input state from words to
        → Does m input whole (λ given ids. ids given ≡ Some (Points to)) state.choices state before (pointer id class pointee parts)
    unfolding pointer
    pointer_does id class pointee [] [] from to state before stands each leads = given_does m input whole (λ given ids. ids given ≡ Some (Points to)) id state before (stands ∙ ap (λ p. Some (Points p)) (ap led_to (leads 0 (λ p. Going (record state { ids = λ id. Some (Points p) })))))
      where
        held_to : Option Held → Pointer
        held_to None = from
        held_to (Some (Whole v)) = from
        held_to (Some (Points p)) = p

        led_to : Outcome → Pointer
        led_to (Going state) = held_to (state.ids id)
        led_to _ = from
    pointer_does id class pointee [] (word ∷ words) from to state before stands each leads = absurd each
    pointer_does id class pointee (part ∷ parts) [] from to state before stands each leads = absurd each
    pointer_does id class pointee (part ∷ parts) (word ∷ words) from to state before stands each leads =
        does_then m input whole (λ given ids. StandForWords ids given (word ∷ words)) (λ given ids. ids given ≡ Some (Points to)) state.choices state.choices state before (indexes (part ∷ parts)) (λ ids. pointer_type class pointee >>= put_giving op.ACCESS_CHAIN (id ∷ ids))
        (indexes_do (part ∷ parts) (word ∷ words) state before each)
        (λ given between. chain_grows class pointee (id ∷ given) state between)
        (λ given between ids stand keeps.
        does_then m input whole (Any m input whole) (λ given ids. ids given ≡ Some (Points to)) state.choices state.choices (record state { ids = ids }) between (pointer_type class pointee) (put_giving op.ACCESS_CHAIN (id ∷ given))
        (pointer_type_does class pointee (record state { ids = ids }) between)
        (λ type later. giving_grows m input whole op.ACCESS_CHAIN (id ∷ given) type later)
        (λ type later last any kept. yielding_does m input whole op.ACCESS_CHAIN (id ∷ given) type (record state { ids = last }) (Points to) state.choices later
        (λ text. chains type id given (word ∷ words) from to (record state { ids = last }) (kept.same id _ (keeps.same id _ stands)) (still_words ids last kept given (word ∷ words) stand) leads)))
