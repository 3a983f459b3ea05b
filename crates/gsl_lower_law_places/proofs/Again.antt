-- Where chains lead once something was stored: to the same places, since what is there has as many parts as before.
use Rattle.std.proofs.Common.{◌≡◌, refl, sym, ap, ◌∙◌, subst, ℕ, zero, suc, ◌≤◌, Bool, true, false, if◌then◌else◌, List, [], ◌∷◌, ◌++◌, length, map, set, Option, Some, None, arith}
use Rattle.std.specs.Prelude.{nat_lt, slice_get, slice_index_or}
use Rattle.std.proofs.lemmas.Bool.{cond-false}
use Rattle.std.proofs.lemmas.List.{length-set}
use Rattle.gsl_base.specs.declared.input.Buffer.{Buffer}
use Rattle.gsl_base.specs.declared.input.Input.{Input}
use Rattle.gsl_words.specs.declared.module.Module.{Module}
use Rattle.gsl_values.specs.declared.value.Value.{Value}
use Rattle.gsl_values.specs.declared.value.Value.TheVariants.{Many, Word, outs-Many, outs-Word}
use Rattle.gsl_tree.specs.Operations.{member_value, value_at, with_value_at}
use Rattle.gsl_tree.specs.Values.{of_components, parts_in, parts_layer}
use Rattle.gsl_valid.specs.Decorations.{number_on}
use Rattle.gsl_valid.specs.Kinds.{shape_of}
use Rattle.gsl_valid.specs.Types.{defined_as}
use Rattle.gsl_instr.specs.declared.enumerant.decoration.TheConstants as decoration
use Rattle.gsl_views.specs.Buffers.{bytes_at, is_at, with_bytes}
use Rattle.gsl_lower_law_constructors.specs.OfMachine.{bytes_if, bytes_of, into, into_block, into_variable, is_push, part_as, parts_as, with_bytes_if}
use Rattle.gsl_lower_law_constructors.specs.OfMachine.{Ids, InBlock, InVariable, Outcome, Pointer, State, Strayed, on}
use Rattle.gsl_lower_law_places.specs.Leading.{LeadsTo, through}
use Rattle.gsl_lower_law_places.specs.Storing.{buffers_with}
use Rattle.gsl_lower_law_places.proofs.Lists.{bytes_put, bytes_twice}
use Rattle.gsl_lower_law_places.proofs.Variables.{parts_are, words_long}

-- ---- values with as many parts

-- Wherever a path leads, two values have as many parts.
abbrev pub AsMany : Value → Value → Type 0
AsMany a b = (path : List ℕ) → length (parts_in (value_at a path)) ≡ length (parts_in (value_at b path))

pub parts_of : (vs : List Value) → parts_in (Many vs) ≡ vs
parts_of vs = ap parts_layer (outs-Many vs)

-- a word has none
word_parts : (word : ℕ) (path : List ℕ) → length (parts_in (value_at (Word word) path)) ≡ 0
word_parts word [] = ap (λ l. length l) (ap parts_layer (outs-Word word))
word_parts word (k ∷ path) = ap (λ l. length (parts_in (value_at (slice_index_or l k (Word 0)) path))) (ap parts_layer (outs-Word word)) ∙ word_parts 0 path

component_parts : (ws : List ℕ) (k : ℕ) (path : List ℕ) → length (parts_in (value_at (slice_index_or (map Word ws) k (Word 0)) path)) ≡ 0
component_parts [] k path = word_parts 0 path
component_parts (w ∷ ws) zero path = word_parts w path
component_parts (w ∷ ws) (suc k) path = component_parts ws k path

pub words_many : (xs ys : List ℕ) → 2 ≤ length ys → length xs ≡ length ys → AsMany (of_components xs) (of_components ys)
words_many xs ys many same [] =
    ap (λ l. length l) (parts_are xs (omega (arith, many, same))) ∙ words_long xs ∙ same ∙ sym (words_long ys) ∙ sym (ap (λ l. length l) (parts_are ys many))
words_many xs ys many same (k ∷ path) = none xs (omega (arith, many, same)) ∙ sym (none ys many)
  where
    none : (ws : List ℕ) → 2 ≤ length ws → length (parts_in (value_at (of_components ws) (k ∷ path))) ≡ 0
    none ws many = ap (λ l. length (parts_in (value_at (slice_index_or l k (Word 0)) path))) (parts_are ws many) ∙ component_parts ws k path

set_many : (ps : List Value) (k j : ℕ) (x : Value) → AsMany x (slice_index_or ps k (Word 0)) → AsMany (slice_index_or (set ps k x) j (Word 0)) (slice_index_or ps j (Word 0))
set_many [] k j x same path = refl
set_many (p ∷ ps) zero zero x same path = same path
set_many (p ∷ ps) zero (suc j) x same path = refl
set_many (p ∷ ps) (suc k) zero x same path = refl
set_many (p ∷ ps) (suc k) (suc j) x same path = set_many ps k j x same path

-- a part that is put in place of one with as many parts
pub part_many : (old : Value) (path : List ℕ) (x : Value) → AsMany x (value_at old path) → AsMany (with_value_at old path x) old
part_many old [] x same more = same more
part_many old (k ∷ path) x same [] =
    ap (λ l. length l) (parts_of (set (parts_in old) k (with_value_at (member_value old k) path x))) ∙ length-set (parts_in old) k (with_value_at (member_value old k) path x)
part_many old (k ∷ path) x same (j ∷ more) =
    ap (λ l. length (parts_in (value_at (slice_index_or l j (Word 0)) more))) (parts_of (set (parts_in old) k (with_value_at (member_value old k) path x)))
    ∙ set_many (parts_in old) k j (with_value_at (member_value old k) path x) (part_many (member_value old k) path x same) more

-- ---- parts that were put

-- what has no parts is nowhere
set_there : (ps : List Value) (k : ℕ) (x : Value) (path : List ℕ) → 1 ≤ length (parts_in (value_at (slice_index_or ps k (Word 0)) path)) → slice_index_or (set ps k x) k (Word 0) ≡ x
set_there [] k x path some = absurd (let none = word_parts 0 path in omega (arith, some, none))
set_there (p ∷ ps) zero x path some = refl
set_there (p ∷ ps) (suc k) x path some = set_there ps k x path some

pub value_put : (old : Value) (path : List ℕ) (x : Value) → 1 ≤ length (parts_in (value_at old path)) → value_at (with_value_at old path x) path ≡ x
value_put old [] x some = refl
value_put old (k ∷ path) x some =
    ap (λ l. value_at (slice_index_or l k (Word 0)) path) (parts_of (set (parts_in old) k (with_value_at (member_value old k) path x)))
    ∙ ap (λ v. value_at v path) (set_there (parts_in old) k (with_value_at (member_value old k) path x) path some) ∙ value_put (member_value old k) path x some

set_over : (ps : List Value) (k : ℕ) (x y : Value) (change : Value → Value) → change x ≡ y → set (set ps k x) k (change (slice_index_or (set ps k x) k (Word 0))) ≡ set ps k y
set_over [] k x y change e = refl
set_over (p ∷ ps) zero x y change e = ap (λ v. v ∷ ps) e
set_over (p ∷ ps) (suc k) x y change e = ap (λ l. p ∷ l) (set_over ps k x y change e)

pub value_twice : (old : Value) (path : List ℕ) (x y : Value) → with_value_at (with_value_at old path x) path y ≡ with_value_at old path y
value_twice old [] x y = refl
value_twice old (k ∷ path) x y =
    ap (λ ps. Many (set ps k (with_value_at (slice_index_or ps k (Word 0)) path y))) (parts_of (set (parts_in old) k (with_value_at (member_value old k) path x)))
    ∙ ap Many (set_over (parts_in old) k (with_value_at (member_value old k) path x) (with_value_at (member_value old k) path y) (λ v. with_value_at v path y) (value_twice (member_value old k) path x y))

-- ---- states with as many

-- Both are there, and alike, or neither is.
abbrev pub AreAlike : {A : Type 0} → (A → A → Type 0) → Option A → Option A → Type 0
AreAlike Alike None None = Unit {0}
AreAlike Alike (Some a) (Some b) = Alike a b
AreAlike Alike _ _ = ⊥

abbrev pub AsLong : List ℕ → List ℕ → Type 0
AsLong a b = length a ≡ length b

alike_self : {A : Type 0} (Alike : A → A → Type 0) → ((a : A) → Alike a a) → (o : Option A) → AreAlike Alike o o
alike_self Alike self None = tt
alike_self Alike self (Some a) = self a

-- What variables and blocks hold is as big in a later state.
pub record IsAsBig (m : Module) (input : Input) (state later : State) : Type 0 where
  pub blocks : (variable : ℕ) → AreAlike AsLong (bytes_of m input later variable) (bytes_of m input state variable)
  pub variables : (number : ℕ) → AreAlike AsMany (slice_get later.variables number) (slice_get state.variables number)

module _ (m : Module) (input : Input) (state later : State) (big : IsAsBig m input state later) where
  into_same : (place : ℕ) (from : Pointer) (word : ℕ) (go : Pointer → Outcome) → into m input place later from word go ≡ into m input place state from word go
  into_same place (InBlock variable offset pointee) word go = by (bytes_of m input later variable) (bytes_of m input state variable) (big.blocks variable)
    where
      by : (a b : Option (List ℕ)) → AreAlike AsLong a b → on a (into_block m input place variable offset pointee word go) ≡ on b (into_block m input place variable offset pointee word go)
      by None None same = refl
      by None (Some b) same = absurd same
      by (Some a) None same = absurd same
      by (Some a) (Some b) same =
          ap (λ size. if nat_lt word (parts_as m size offset pointee (shape_of (defined_as m pointee))) then on (part_as m variable offset pointee word (shape_of (defined_as m pointee))) go else Strayed place) same
  into_same place (InVariable number path) word go = by (slice_get later.variables number) (slice_get state.variables number) (big.variables number)
    where
      by : (a b : Option Value) → AreAlike AsMany a b → on a (into_variable m input place number path word go) ≡ on b (into_variable m input place number path word go)
      by None None same = refl
      by None (Some b) same = absurd same
      by (Some a) None same = absurd same
      by (Some a) (Some b) same = ap (λ count. if nat_lt word count then go (InVariable number (path ++ word ∷ [])) else Strayed place) (same path)

  through_same : (place : ℕ) (from : Pointer) (words : List ℕ) (go : Pointer → Outcome) → through m input place later from words go ≡ through m input place state from words go
  through_same place from [] go = refl
  through_same place from (word ∷ words) go = into_same place from word (λ to. through m input place later to words go) ∙ ap (into m input place state from word) (λ i to. through_same place to words go i)

  pub leads_again : (from to : Pointer) (words : List ℕ) → LeadsTo m input state from words to → LeadsTo m input later from words to
  leads_again from to words leads place go = through_same place from words go ∙ leads place go

-- ---- a variable in which a part was put

some_value : (a b : Value) → Some a ≡ Some b → a ≡ b
some_value a b e = cc

set_alike : (xs : List Value) (k : ℕ) (old new : Value) → slice_get xs k ≡ Some old → AsMany new old → (n : ℕ) → AreAlike AsMany (slice_get (set xs k new) n) (slice_get xs n)
set_alike [] k old new there same n = tt
set_alike (x ∷ xs) zero old new there same zero = subst (AsMany new) (sym (some_value x old there)) same
set_alike (x ∷ xs) zero old new there same (suc n) = alike_self AsMany (λ v path. refl) (slice_get xs n)
set_alike (x ∷ xs) (suc k) old new there same zero = λ path. refl
set_alike (x ∷ xs) (suc k) old new there same (suc n) = set_alike xs k old new there same n

pub variable_big : (m : Module) (input : Input) (state : State) (ids : Ids) (number : ℕ) (old new : Value) → slice_get state.variables number ≡ Some old → AsMany new old → IsAsBig m input state (record state { ids = ids; variables = set state.variables number new })
variable_big m input state ids number old new there same = record {
  blocks = λ variable. alike_self AsLong (λ bytes. refl) (bytes_of m input state variable);
  variables = set_alike state.variables number old new there same;
}

-- ---- bytes that were put in a block

some_bytes : (a b : List ℕ) → Some a ≡ Some b → a ≡ b
some_bytes a b e = cc

bytes_alike : (buffers : List Buffer) (set binding : ℕ) (bytes new : List ℕ) → bytes_at buffers set binding ≡ Some bytes → AsLong new bytes → (s b : ℕ) → AreAlike AsLong (bytes_at (with_bytes buffers set binding new) s b) (bytes_at buffers s b)
bytes_alike [] set binding bytes new there long s b = tt
bytes_alike (buffer ∷ buffers) set binding bytes new there long s b = by (λ e. bytes_alike buffers set binding bytes new e long s b) (is_at set binding buffer) there
  where
    put : (c : Bool) → AsLong new buffer.bytes → AreAlike AsLong (if c then Some new else bytes_at buffers s b) (if c then Some buffer.bytes else bytes_at buffers s b)
    put true same = same
    put false same = alike_self AsLong (λ l. refl) (bytes_at buffers s b)

    kept : (c : Bool) → AreAlike AsLong (bytes_at (with_bytes buffers set binding new) s b) (bytes_at buffers s b) → AreAlike AsLong (if c then Some buffer.bytes else bytes_at (with_bytes buffers set binding new) s b) (if c then Some buffer.bytes else bytes_at buffers s b)
    kept true later = refl
    kept false later = later

    by : (bytes_at buffers set binding ≡ Some bytes → AreAlike AsLong (bytes_at (with_bytes buffers set binding new) s b) (bytes_at buffers s b)) → (a : Bool) → (if a then Some buffer.bytes else bytes_at buffers set binding) ≡ Some bytes
        → AreAlike AsLong (bytes_at (if a then record buffer { bytes = new } ∷ buffers else buffer ∷ with_bytes buffers set binding new) s b) (bytes_at (buffer ∷ buffers) s b)
    by later true e = put (is_at s b buffer) (long ∙ ap (λ l. length l) (sym (some_bytes buffer.bytes bytes e)))
    by later false e = kept (is_at s b buffer) (later e)

if_alike : (buffers : List Buffer) (set binding : Option ℕ) (bytes new : List ℕ) → bytes_if buffers set binding ≡ Some bytes → AsLong new bytes → (s b : Option ℕ) → AreAlike AsLong (bytes_if (with_bytes_if buffers set binding new) s b) (bytes_if buffers s b)
if_alike buffers None binding bytes new there long s b = alike_self AsLong (λ l. refl) (bytes_if buffers s b)
if_alike buffers (Some set) None bytes new there long s b = alike_self AsLong (λ l. refl) (bytes_if buffers s b)
if_alike buffers (Some set) (Some binding) bytes new there long None b = tt
if_alike buffers (Some set) (Some binding) bytes new there long (Some s) None = tt
if_alike buffers (Some set) (Some binding) bytes new there long (Some s) (Some b) = bytes_alike buffers set binding bytes new there long s b

if_put : (buffers : List Buffer) (set binding : Option ℕ) (bytes new : List ℕ) → bytes_if buffers set binding ≡ Some bytes → bytes_if (with_bytes_if buffers set binding new) set binding ≡ Some new
if_put buffers None binding bytes new there = absurd cc
if_put buffers (Some set) None bytes new there = absurd cc
if_put buffers (Some set) (Some binding) bytes new there = bytes_put buffers set binding bytes new there

if_twice : (buffers : List Buffer) (set binding : Option ℕ) (new last : List ℕ) → with_bytes_if (with_bytes_if buffers set binding new) set binding last ≡ with_bytes_if buffers set binding last
if_twice buffers None binding new last = refl
if_twice buffers (Some set) None new last = refl
if_twice buffers (Some set) (Some binding) new last = bytes_twice buffers set binding new last

module _ (m : Module) (input : Input) (variable : ℕ) (no_push : is_push m variable ≡ false) where
  abbrev at_set : Option ℕ
  at_set = number_on m decoration.DESCRIPTOR_SET variable

  abbrev at_binding : Option ℕ
  at_binding = number_on m decoration.BINDING variable

  in_buffers : (state : State) (bytes : List ℕ) → bytes_of m input state variable ≡ Some bytes → bytes_if state.buffers at_set at_binding ≡ Some bytes
  in_buffers state bytes there = sym (cond-false (is_push m variable) input.push (bytes_if state.buffers at_set at_binding) no_push) ∙ there

  pub block_big : (state : State) (ids : Ids) (bytes new : List ℕ) → bytes_of m input state variable ≡ Some bytes → AsLong new bytes → IsAsBig m input state (record state { ids = ids; buffers = buffers_with m state variable new })
  block_big state ids bytes new there long = record {
    blocks = λ one. by one (is_push m one);
    variables = λ number. alike_self AsMany (λ v path. refl) (slice_get state.variables number);
  }
    where
      by : (one : ℕ) (push : Bool)
          → AreAlike AsLong (if push then input.push else bytes_if (buffers_with m state variable new) (number_on m decoration.DESCRIPTOR_SET one) (number_on m decoration.BINDING one)) (if push then input.push else bytes_if state.buffers (number_on m decoration.DESCRIPTOR_SET one) (number_on m decoration.BINDING one))
      by one true = alike_self AsLong (λ l. refl) input.push
      by one false = if_alike state.buffers at_set at_binding bytes new (in_buffers state bytes there) long (number_on m decoration.DESCRIPTOR_SET one) (number_on m decoration.BINDING one)

  -- the bytes that were put are there
  pub block_put : (state : State) (ids : Ids) (bytes new : List ℕ) → bytes_of m input state variable ≡ Some bytes → bytes_of m input (record state { ids = ids; buffers = buffers_with m state variable new }) variable ≡ Some new
  block_put state ids bytes new there =
      cond-false (is_push m variable) input.push (bytes_if (buffers_with m state variable new) at_set at_binding) no_push ∙ if_put state.buffers at_set at_binding bytes new (in_buffers state bytes there)

  -- and others in their place
  pub block_twice : (state : State) (ids : Ids) (new last : List ℕ) → buffers_with m (record state { ids = ids; buffers = buffers_with m state variable new }) variable last ≡ buffers_with m state variable last
  block_twice state ids new last = if_twice state.buffers at_set at_binding new last
