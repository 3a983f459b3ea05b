-- What has the shape of a type of a module has the form of the zeros of that type.
use Rattle.std.proofs.Common.{◌≡◌, refl, sym, ap, ap₂, ◌∙◌, ℕ, zero, suc, Bool, true, false, List, [], ◌∷◌, map, replicate, if◌then◌else◌}
use Rattle.std.proofs.lemmas.Bool.{and_parts, false≢true}
use Rattle.gsl_words.specs.declared.module.Module.{Module}
use Rattle.gsl_values.specs.declared.value.Value.{Value}
use Rattle.gsl_values.specs.declared.value.Value.TheFolds.{fold-Value, fold-roll-Value}
use Rattle.gsl_values.specs.declared.value.Value.TheOpen.{Value-F}
use Rattle.gsl_values.specs.declared.value.Value.TheVariants.{Word, Many, rolls-Many}
use Rattle.gsl_values.specs.declared.value.Value.TheViews.{out-Value, roll-Value, roll-out-Value}
use Rattle.gsl_tree.specs.Values.{all_pass, has_parts}
use Rattle.gsl_valid.specs.Ids.{defines}
use Rattle.gsl_valid.specs.Instruction.{read}
use Rattle.gsl_valid.specs.Kinds.{Shape, OfVoid, OfBool, OfInt, OfVector, OfArray, OfRuntimeArray, OfStruct, OfPointer, OfFunction, NoType, shape_of}
use Rattle.gsl_valid.specs.Placed.{Code}
use Rattle.gsl_valid.specs.Search.{whole}
use Rattle.gsl_machine.specs.Constants.{length_by, zeros, zeros_as, zeros_in}
use Rattle.gsl_sound_values.specs.Shaped.{is_shaped, is_word, is_word_layer, shaped_as, shaped_in}
use Rattle.gsl_lower_law_leaves.proofs.Typed.{many_from}

-- ---- the form of a value

abbrev pub reset_layer : Value-F Value → Value
reset_layer (Value-F.Word word) = Word 0
reset_layer (Value-F.Many parts) = Many parts

-- a value with zero for each of its words
abbrev pub reset : Value → Value
reset = fold-Value Value reset_layer

pub reset_many : (vs : List Value) → reset (Many vs) ≡ Many (map reset vs)
reset_many vs = ap reset (sym (rolls-Many vs)) ∙ fold-roll-Value Value reset_layer (Value-F.Many vs)

pub reset_word : (v : Value) → is_word v ≡ true → reset v ≡ Word 0
reset_word v = by (out-Value v) (roll-out-Value v)
  where
    by : (layer : Value-F Value) → roll-Value layer ≡ v → is_word_layer layer ≡ true → reset v ≡ Word 0
    by (Value-F.Word word) e is = ap reset (sym e) ∙ fold-roll-Value Value reset_layer (Value-F.Word word)
    by (Value-F.Many parts) e is = absurd (false≢true is)

-- What passes a test has this form.
abbrev HasForm : (Value → Bool) → Value → Type 0
HasForm test z = (v : Value) → test v ≡ true → reset v ≡ z

abbrev HaveForms : List (Value → Bool) → List Value → Type 0
HaveForms [] [] = Unit {0}
HaveForms [] (z ∷ zs) = ⊥
HaveForms (test ∷ tests) [] = ⊥
HaveForms (test ∷ tests) (z ∷ zs) = HasForm test z × HaveForms tests zs

all_formed : (tests : List (Value → Bool)) (zs : List Value) → HaveForms tests zs → (vs : List Value) → all_pass tests vs ≡ true → map reset vs ≡ zs
all_formed [] [] have [] pass = refl
all_formed [] [] have (v ∷ vs) pass = absurd (false≢true pass)
all_formed [] (z ∷ zs) have vs pass = absurd have
all_formed (test ∷ tests) [] have vs pass = absurd have
all_formed (test ∷ tests) (z ∷ zs) have [] pass = absurd (false≢true pass)
all_formed (test ∷ tests) (z ∷ zs) have (v ∷ vs) pass = let p = and_parts (test v) (all_pass tests vs) pass in ap₂ (λ a l. a ∷ l) (have.0 v p.0) (all_formed tests zs have.1 vs p.1)

parts_formed : (tests : List (Value → Bool)) (zs : List Value) → HaveForms tests zs → HasForm (has_parts tests) (Many zs)
parts_formed tests zs have v pass = let x = many_from tests v pass in ap reset x.is ∙ reset_many x.parts ∙ ap Many (all_formed tests zs have x.parts x.pass)

each_formed : (n : ℕ) (test : Value → Bool) (z : Value) → HasForm test z → HaveForms (replicate n test) (replicate n z)
each_formed zero test z has = tt
each_formed (suc n) test z has = (has, each_formed n test z has)

-- ---- types of a module

module _ (m : Module) where
  members_formed : (test : ℕ → Value → Bool) (zero_of : ℕ → Value) → ((type : ℕ) → HasForm (test type) (zero_of type)) → (members : List ℕ) → HaveForms (map test members) (map zero_of members)
  members_formed test zero_of has [] = tt
  members_formed test zero_of has (type ∷ members) = (has type, members_formed test zero_of has members)

  shape_formed : (test : ℕ → Value → Bool) (zero_of : ℕ → Value) → ((type : ℕ) → HasForm (test type) (zero_of type)) → (s : Shape) → HasForm (shaped_as m test s) (zeros_as m zero_of s)
  shape_formed test zero_of has OfVoid v is = absurd (false≢true is)
  shape_formed test zero_of has OfBool v is = reset_word v is
  shape_formed test zero_of has (OfInt signedness) v is = reset_word v is
  shape_formed test zero_of has (OfVector component count) v is = parts_formed (replicate count (test component)) (replicate count (zero_of component)) (each_formed count (test component) (zero_of component) (has component)) v is
  shape_formed test zero_of has (OfArray element length) v is =
      parts_formed (replicate (length_by m length) (test element)) (replicate (length_by m length) (zero_of element)) (each_formed (length_by m length) (test element) (zero_of element) (has element)) v is
  shape_formed test zero_of has (OfRuntimeArray element) v is = absurd (false≢true is)
  shape_formed test zero_of has (OfStruct id members) v is = parts_formed (map test members) (map zero_of members) (members_formed test zero_of has members) v is
  shape_formed test zero_of has (OfPointer class pointee) v is = absurd (false≢true is)
  shape_formed test zero_of has (OfFunction returned parameters) v is = absurd (false≢true is)
  shape_formed test zero_of has NoType v is = absurd (false≢true is)

  code_formed : (code : Code) (type : ℕ) → HasForm (shaped_in m code type) (zeros_in m code type)
  code_formed [] type v is = absurd (false≢true is)
  code_formed (i ∷ before) type v is = by (defines i type) (λ other. code_formed before other) is
    where
      by : (b : Bool) → ((other : ℕ) → HasForm (shaped_in m before other) (zeros_in m before other)) → (if b then shaped_as m (shaped_in m before) (shape_of (read i)) v else shaped_in m before type v) ≡ true
          → reset v ≡ (if b then zeros_as m (zeros_in m before) (shape_of (read i)) else zeros_in m before type)
      by true later is = shape_formed (shaped_in m before) (zeros_in m before) later (shape_of (read i)) v is
      by false later is = later type v is

  -- what has the shape of a type has the form of its zeros
  pub shaped_formed : (type : ℕ) (v : Value) → is_shaped m type v ≡ true → reset v ≡ zeros m type
  shaped_formed type v is = code_formed (whole m) type v is
