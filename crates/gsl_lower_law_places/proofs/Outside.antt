-- Indexes out of bounds stray.
use Rattle.std.proofs.Common.{◌≡◌, ap, ◌∙◌, ℕ, List, [], ◌∷◌, Some}
use Rattle.gsl_base.specs.declared.input.Input.{Input}
use Rattle.gsl_instr.specs.Forms.{form_of}
use Rattle.gsl_instr.specs.declared.op.TheConstants as op
use Rattle.gsl_words.specs.declared.module.Module.{Module}
use Rattle.gsl_values.specs.declared.value.Value.{Value}
use Rattle.gsl_tree.specs.Shapes.{Shape}
use Rattle.gsl_lower_law_constructors.specs.OfMachine.{along}
use Rattle.gsl_lower_law_constructors.specs.OfMachine.{Going, Pointer, Points, State, Strayed, giving, on_pointer}
use Rattle.gsl_spv.specs.Sections.{Sections}
use Rattle.gsl_lower_values.specs.Building.{Step, giving as put_giving, putting, ◌>>=◌}
use Rattle.gsl_lower_values.specs.Constructors.{operand}
use Rattle.gsl_lower_values.specs.Operators.{converted}
use Rattle.gsl_lower_values.specs.Types.{type_of}
use Rattle.gsl_lower_places.specs.Reached.{stored_shape}
use Rattle.gsl_lower_places.specs.Reading.{indexes, loaded, pointer, pointer_type}
use Rattle.gsl_lower_places.specs.Writing.{in_class, put_at}
use Rattle.gsl_lower_places.specs.declared.reached.Part.{Part}
use Rattle.gsl_lower_law_constructors.specs.OfLaw.{Grows, drawing}
use Rattle.gsl_lower_law_constructors.specs.OfLaw.{converted_value}
use Rattle.gsl_lower_law_constructors.specs.OfLaw.{Strays}
use Rattle.gsl_lower_law_constructors.specs.OfLaw.{IsOf, Stands}
use Rattle.gsl_lower_law_constructors.proofs.OfLaw.{extends_put}
use Rattle.gsl_lower_law_constructors.proofs.OfLaw.{giving_grows}
use Rattle.gsl_lower_law_constructors.proofs.OfLaw.{grows_then}
use Rattle.gsl_lower_law_constructors.proofs.OfLaw.{Any, IsType, type_does}
use Rattle.gsl_lower_law_constructors.proofs.OfLaw.{giving_strays, strays_before, strays_then}
use Rattle.gsl_lower_law_constructors.proofs.Shares.{converted_grows}
use Rattle.gsl_lower_law_places.specs.Leading.{NumberEach, StraysFrom}
use Rattle.gsl_lower_law_places.proofs.Chains.{StandForWords, along_through, chain_grows, indexes_do, pointer_grows, pointer_type_does, still_number, still_words}
use Rattle.gsl_lower_law_places.proofs.Stored.{in_class_computes}

module _ (m : Module) (input : Input) (whole : Sections) where
  chain_strays : (type base : ℕ) (ids words : List ℕ) (from : Pointer) (state : State) (before : Sections) → state.ids base ≡ Some (Points from) → StandForWords state.ids ids words → StraysFrom m input state from words
      → Strays m input whole state before (put_giving op.ACCESS_CHAIN (base ∷ ids) type)
  unfolding form_of
  chain_strays type base ids words from state before stands stand out =
      giving_strays m input whole op.ACCESS_CHAIN (base ∷ ids) type state before
      (λ id at rest.
      ap (λ o. on_pointer o (λ from. along m input at (record state { rest = rest }) from ids (λ to. giving (record state { rest = rest }) id (Points to)))) stands
      ∙ along_through m input at (record state { rest = rest }) from ids words (λ to. giving (record state { rest = rest }) id (Points to)) stand
      ∙ out at (λ to. giving (record state { rest = rest }) id (Points to)))

  -- a chain of which an index is out of bounds
  pub pointer_strays : (id class pointee : ℕ) (parts : List Part) (words : List ℕ) (from : Pointer) (state : State) (before : Sections) → state.ids id ≡ Some (Points from) → NumberEach state.ids parts words → StraysFrom m input state from words
      → Strays m input whole state before (pointer id class pointee parts)
  unfolding pointer
  pointer_strays id class pointee [] [] from state before stands each out = absurd (let over : Going state ≡ Strayed 0 = out 0 (λ p. Going state) in cc)
  pointer_strays id class pointee [] (word ∷ words) from state before stands each out = absurd each
  pointer_strays id class pointee (part ∷ parts) [] from state before stands each out = absurd each
  pointer_strays id class pointee (part ∷ parts) (word ∷ words) from state before stands each out =
      strays_then m input whole (λ given ids. StandForWords ids given (word ∷ words)) (drawing state state.choices) state before (indexes (part ∷ parts)) behind_indexes
      (indexes_do m input whole (part ∷ parts) (word ∷ words) state before each)
      (λ given between. chain_grows m input whole class pointee (id ∷ given) state between)
      (λ given between ids stand keeps.
      strays_then m input whole (Any m input whole) (drawing (record state { ids = ids }) state.choices) (record state { ids = ids }) between (pointer_type class pointee) (put_giving op.ACCESS_CHAIN (id ∷ given))
      (pointer_type_does m input whole class pointee (record state { ids = ids }) between)
      (λ type later. giving_grows m input whole op.ACCESS_CHAIN (id ∷ given) type later)
      (λ type later now any kept. chain_strays type id given (word ∷ words) from (record state { ids = now }) later (kept.same id _ (keeps.same id _ stands)) (still_words m input whole ids now kept given (word ∷ words) stand) out))
    where
      behind_indexes : List ℕ → Step ℕ
      behind_indexes ids = pointer_type class pointee >>= put_giving op.ACCESS_CHAIN (id ∷ ids)

  pub loaded_strays : (id class : ℕ) (shape : Shape) (parts : List Part) (words : List ℕ) (from : Pointer) (state : State) (before : Sections) → state.ids id ≡ Some (Points from) → NumberEach state.ids parts words → StraysFrom m input state from words
      → Strays m input whole state before (loaded id class shape parts)
  unfolding loaded
  loaded_strays id class shape parts words from state before stands each out =
      strays_then m input whole (IsType m input whole stored) (drawing state state.choices) state before (type_of stored) behind_type
      (type_does m input whole stored state before)
      (λ type between. grows_then m input whole between (pointer id class type parts between) (behind_pointer type) (pointer_grows m input whole id class type parts state between) (λ at later. load_grows type at later))
      (λ type between ids typed keeps.
      strays_before m input whole (record state { ids = ids }) between (pointer id class type parts) (behind_pointer type)
      (pointer_strays id class type parts words from (record state { ids = ids }) between (keeps.same id _ stands) (still_number state.ids ids keeps parts words each) out)
      (λ at later. load_grows type at later))
    where
      stored : Shape
      stored = stored_shape class shape

      behind_load : ℕ → Step ℕ
      behind_load w = converted shape.0 (operand stored w)

      behind_pointer : ℕ → ℕ → Step ℕ
      behind_pointer type at = put_giving op.LOAD (at ∷ []) type >>= behind_load

      behind_type : ℕ → Step ℕ
      behind_type type = pointer id class type parts >>= behind_pointer type

      load_grows : (type at : ℕ) (later : Sections) → Grows later (behind_pointer type at later)
      load_grows type at later = grows_then m input whole later (put_giving op.LOAD (at ∷ []) type later) behind_load (giving_grows m input whole op.LOAD (at ∷ []) type later) (λ w last. converted_grows m input whole shape.0 (operand stored w) state last)

  pub put_strays : (id class : ℕ) (shape : Shape) (parts : List Part) (value : ℕ) (words : List ℕ) (from : Pointer) (v : Value) (state : State) (before : Sections) → state.ids id ≡ Some (Points from) → NumberEach state.ids parts words → StraysFrom m input state from words
      → IsOf shape v → Stands state.ids value v → Strays m input whole state before (put_at id class shape parts value)
  unfolding put_at
  put_strays id class shape parts value words from v state before points each out is stands =
      strays_then m input whole (λ id ids. Stands ids id (converted_value stored.0 v)) (drawing state state.choices) state before (in_class class shape value) behind_word
      (in_class_computes m input whole class shape value v state before is stands)
      (λ word between. grows_then m input whole between (type_of stored between) (behind_type word) (type_does m input whole stored state between).grows (λ type later. type_grows word type later))
      (λ word between ids lies keeps.
      strays_then m input whole (IsType m input whole stored) (drawing (record state { ids = ids }) state.choices) (record state { ids = ids }) between (type_of stored) (behind_type word)
      (type_does m input whole stored (record state { ids = ids }) between)
      (λ type later. type_grows word type later)
      (λ type later now typed kept.
      strays_before m input whole (record state { ids = now }) later (pointer id class type parts) (behind_pointer word)
      (pointer_strays id class type parts words from (record state { ids = now }) later (kept.same id _ (keeps.same id _ points)) (still_number ids now kept parts words (still_number state.ids ids keeps parts words each)) out)
      (λ at last. extends_put op.STORE (at ∷ word ∷ []) last)))
    where
      stored : Shape
      stored = stored_shape class shape

      behind_pointer : ℕ → ℕ → Step (Unit {0})
      behind_pointer word at = putting op.STORE (at ∷ word ∷ [])

      behind_type : ℕ → ℕ → Step (Unit {0})
      behind_type word type = pointer id class type parts >>= behind_pointer word

      behind_word : ℕ → Step (Unit {0})
      behind_word word = type_of stored >>= behind_type word

      type_grows : (word type : ℕ) (later : Sections) → Grows later (behind_type word type later)
      type_grows word type later = grows_then m input whole later (pointer id class type parts later) (behind_pointer word) (pointer_grows m input whole id class type parts state later) (λ at last. extends_put op.STORE (at ∷ word ∷ []) last)
