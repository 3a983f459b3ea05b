-- Variables and their types.
use Rattle.std.proofs.Common.{◌≡◌, refl, sym, ap, ◌∙◌, subst, ℕ, zero, suc, ◌+◌, ◌≤◌, true, List, [], ◌∷◌, ◌++◌, length, set, take, drop, slice_get, slice_index_or, Option, Some, None, length-append, arith}
use Rattle.std.specs.List.{sum_by}
use Rattle.std.proofs.lemmas.List.Sums.{sum_by-cons}
use Rattle.std.proofs.lemmas.Option.{none-some}
use Rattle.gsl_words.specs.declared.module.Module.{Module}
use Rattle.gsl_values.specs.declared.value.Value.{Value}
use Rattle.gsl_values.specs.declared.value.Value.TheVariants.{Word}
use Rattle.gsl_tree.specs.Operations.{value_at, with_value_at}
use Rattle.gsl_valid.specs.Kinds.{shape_of}
use Rattle.gsl_valid.specs.OperandRules.{part_of_at, part_within}
use Rattle.gsl_valid.specs.Search.{whole}
use Rattle.gsl_valid.specs.Types.{defined_as}
use Rattle.gsl_sound_code.proofs.Looks.{Kept}
use Rattle.gsl_sound_values.specs.Shaped.{is_shaped}
use Rattle.gsl_sound_values.proofs.Parts.{within_shaped}
use Rattle.gsl_leaves.specs.Leaves.{ahead, leaves, offset}
use Rattle.gsl_leaves_law.proofs.Counted.{counted_in}
use Rattle.gsl_leaves_law.proofs.Parts.{path_stands}
use Rattle.gsl_region.specs.Flat.{flat, flat_all}
use Rattle.gsl_region.specs.Places.{in_front, place}
use Rattle.gsl_region.specs.Showing.{Shows, with_words}
use Rattle.gsl_region.proofs.Focus.{read_at, written_at}
use Rattle.gsl_memory_law.specs.Typed.{HaveTypes, place_by}

-- A variable has the shape of its type.
pub record TypedAt (m : Module) (variables : List Value) (number type : ℕ) : Type 0 where
  pub v : Value
  pub is : slice_get variables number ≡ Some v
  pub here : slice_index_or variables number (Word 0) ≡ v
  pub shaped : is_shaped m type v ≡ true

module _ (m : Module) where
  pub typed_at : (types : List ℕ) (variables : List Value) (number type : ℕ) → HaveTypes m types variables → slice_get types number ≡ Some type → TypedAt m variables number type
  typed_at [] [] number type have is = absurd (none-some type is)
  typed_at [] (v ∷ variables) number type have is = absurd have
  typed_at (t ∷ types) [] number type have is = absurd have
  typed_at (t ∷ types) (v ∷ variables) zero type have is = let same : t ≡ type = cc in record { v = v; is = refl; here = refl; shaped = ap (λ u. is_shaped m u v) (sym same) ∙ have.0 }
  typed_at (t ∷ types) (v ∷ variables) (suc number) type have is =
      let later = typed_at types variables number type have.1 is in record { v = later.v; is = later.is; here = later.here; shaped = later.shaped }

  pub words_typed : (types : List ℕ) (variables : List Value) → HaveTypes m types variables → length (flat_all variables) ≡ sum_by (leaves m) types
  words_typed [] [] have = refl
  words_typed [] (v ∷ variables) have = absurd have
  words_typed (type ∷ types) [] have = absurd have
  words_typed (type ∷ types) (v ∷ variables) have =
      omega (arith, length-append (flat v) (flat_all variables), counted_in m (whole m) type v have.0, words_typed types variables have.1, sum_by-cons (leaves m) type types)

  pub front_typed : (types : List ℕ) (variables : List Value) (count : ℕ) → HaveTypes m types variables → HaveTypes m (take count types) (take count variables)
  front_typed types variables zero have = tt
  front_typed [] [] (suc count) have = tt
  front_typed [] (v ∷ variables) (suc count) have = absurd have
  front_typed (type ∷ types) [] (suc count) have = absurd have
  front_typed (type ∷ types) (v ∷ variables) (suc count) have = (have.0, front_typed types variables count have.1)

  pub more_typed : (types more : List ℕ) (variables new : List Value) → HaveTypes m types variables → HaveTypes m more new → HaveTypes m (types ++ more) (variables ++ new)
  more_typed [] more [] new have also = also
  more_typed [] more (v ∷ variables) new have also = absurd have
  more_typed (type ∷ types) more [] new have also = absurd have
  more_typed (type ∷ types) more (v ∷ variables) new have also = (have.0, more_typed types more variables new have.1 also)

  pub set_typed : (types : List ℕ) (variables : List Value) (number type : ℕ) (new : Value) → HaveTypes m types variables → slice_get types number ≡ Some type → is_shaped m type new ≡ true → HaveTypes m types (set variables number new)
  set_typed [] [] number type new have is shaped = absurd (none-some type is)
  set_typed [] (v ∷ variables) number type new have is shaped = absurd have
  set_typed (t ∷ types) [] number type new have is shaped = absurd have
  set_typed (t ∷ types) (v ∷ variables) zero type new have is shaped = let same : t ≡ type = cc in (ap (λ u. is_shaped m u new) same ∙ shaped, have.1)
  set_typed (t ∷ types) (v ∷ variables) (suc number) type new have is shaped = (have.0, set_typed types variables number type new have.1 is shaped)

  -- the same place, where further types stand behind
  pub place_stays : (types more path : List ℕ) (number type : ℕ) → slice_get types number ≡ Some type → place_by m (types ++ more) number path ≡ place_by m types number path
  place_stays types more path number type is = let s = stays types number is in omega (arith, ap (sum_by (leaves m)) s.0, ap (λ o. offset m o path) s.1)
    where
      stays : (types : List ℕ) (number : ℕ) → slice_get types number ≡ Some type → (take number (types ++ more) ≡ take number types) × (slice_get (types ++ more) number ≡ slice_get types number)
      stays [] number is = absurd (none-some type is)
      stays (t ∷ types) zero is = (refl, refl)
      stays (t ∷ types) (suc number) is = let later = stays types number is in (ap (λ l. t ∷ l) later.0, later.1)

  -- ---- chains

  none_within : (path : List ℕ) (part : ℕ) → part_within m None path ≡ Some part → ⊥
  none_within path part is = cc

  pub type_on : (path : List ℕ) (type part index : ℕ) → part_within m (Some type) path ≡ Some part → part_within m (Some type) (path ++ index ∷ []) ≡ part_of_at m index (shape_of (defined_as m part))
  type_on [] type part index is = let same : type ≡ part = cc in last (part_of_at m index (shape_of (defined_as m type))) ∙ ap (λ t. part_of_at m index (shape_of (defined_as m t))) same
    where
      last : (o : Option ℕ) → part_within m o [] ≡ o
      last None = refl
      last (Some t) = refl
  type_on (k ∷ path) type part index is = by_part (part_of_at m k (shape_of (defined_as m type))) (λ next e. type_on path next part index e) is
    where
      by_part : (o : Option ℕ) → ((next : ℕ) → part_within m (Some next) path ≡ Some part → part_within m (Some next) (path ++ index ∷ []) ≡ part_of_at m index (shape_of (defined_as m part)))
          → part_within m o path ≡ Some part → part_within m o (path ++ index ∷ []) ≡ part_of_at m index (shape_of (defined_as m part))
      by_part None later is = absurd (none_within path part is)
      by_part (Some next) later is = later next is

  offset_on : (path : List ℕ) (type part index : ℕ) → part_within m (Some type) path ≡ Some part → offset m (Some type) (path ++ index ∷ []) ≡ offset m (Some type) path + ahead m part index
  unfolding offset
  offset_on [] type part index is = let same : type ≡ part = cc in omega (arith, last (part_of_at m index (shape_of (defined_as m type))), ap (λ t. ahead m t index) same)
    where
      last : (o : Option ℕ) → offset m o [] ≡ 0
      last None = refl
      last (Some t) = refl
  offset_on (k ∷ path) type part index is =
      let later = by_part (part_of_at m k (shape_of (defined_as m type))) (λ next e. offset_on path next part index e) is in omega (arith, later)
    where
      by_part : (o : Option ℕ) → ((next : ℕ) → part_within m (Some next) path ≡ Some part → offset m (Some next) (path ++ index ∷ []) ≡ offset m (Some next) path + ahead m part index)
          → part_within m o path ≡ Some part → offset m o (path ++ index ∷ []) ≡ offset m o path + ahead m part index
      by_part None later is = absurd (none_within path part is)
      by_part (Some next) later is = later next is

  pub place_on : (types path : List ℕ) (number type part index : ℕ) → slice_get types number ≡ Some type → part_within m (Some type) path ≡ Some part → place_by m types number (path ++ index ∷ []) ≡ place_by m types number path + ahead m part index
  place_on types path number type part index is leads = omega (arith, ap (λ o. offset m o (path ++ index ∷ [])) is, ap (λ o. offset m o path) is, offset_on path type part index leads)

module _ (m : Module) (kept : Kept m) (types path : List ℕ) (variables : List Value) (number type part : ℕ) (have : HaveTypes m types variables) (is : slice_get types number ≡ Some type) (leads : part_within m (Some type) path ≡ Some part) where
  place_at : TypedAt m variables number type
  place_at = typed_at m types variables number type have is

  -- a part stands where the types tell
  pub place_typed : place variables number path ≡ place_by m types number path
  place_typed =
      let s = path_stands m kept type path part place_at.v leads place_at.shaped in
      omega (arith, words_typed m (take number types) (take number variables) (front_typed m types variables number have), ap (λ v. in_front v path) place_at.here, s.front, ap (λ o. offset m o path) is)

  variable_is : (v : Value) → slice_get variables number ≡ Some v → place_at.v ≡ v
  variable_is v e = let both : Some place_at.v ≡ Some v = sym place_at.is ∙ e in cc

  pub part_shaped : (v : Value) → slice_get variables number ≡ Some v → is_shaped m part (value_at v path) ≡ true
  part_shaped v e = (within_shaped m kept type path part v v leads (ap (is_shaped m type) (sym (variable_is v e)) ∙ place_at.shaped)).0

  part_long : (v : Value) → slice_get variables number ≡ Some v → length (flat (value_at v path)) ≡ leaves m part
  part_long v e = counted_in m (whole m) part (value_at v path) (part_shaped v e)

  pub loaded : (words : List ℕ) (v : Value) → Shows words variables → slice_get variables number ≡ Some v
      → (place_by m types number path + leaves m part ≤ length words) × (take (leaves m part) (drop (place_by m types number path) words) ≡ flat (value_at v path))
  loaded words v shows e =
      let s = path_stands m kept type path part v leads (ap (is_shaped m type) (sym (variable_is v e)) ∙ place_at.shaped) in
      let r = read_at words variables number v path shows e s.leads in
      (omega (arith, r.0, place_typed, part_long v e), ap (λ n. take n (drop (place_by m types number path) words)) (sym (part_long v e)) ∙ ap (λ p. take (length (flat (value_at v path))) (drop p words)) (sym place_typed) ∙ r.1)

  pub room : (words : List ℕ) → Shows words variables → place_by m types number path + leaves m part ≤ length words
  room words shows = (loaded words place_at.v shows place_at.is).0

  pub stored : (words : List ℕ) (v new : Value) → Shows words variables → slice_get variables number ≡ Some v → is_shaped m part new ≡ true
      → Shows (with_words words (place_by m types number path) (flat new)) (set variables number (with_value_at v path new))
  stored words v new shows e shaped =
      let s = path_stands m kept type path part v leads (ap (is_shaped m type) (sym (variable_is v e)) ∙ place_at.shaped) in
      subst (λ p. Shows (with_words words p (flat new)) (set variables number (with_value_at v path new))) place_typed
      (written_at words variables number v new path shows e s.leads (counted_in m (whole m) part new shaped ∙ sym (part_long v e)))

  pub stored_typed : (v new : Value) → slice_get variables number ≡ Some v → is_shaped m part new ≡ true → HaveTypes m types (set variables number (with_value_at v path new))
  stored_typed v new e shaped =
      set_typed m types variables number type (with_value_at v path new) have is ((within_shaped m kept type path part v new leads (ap (is_shaped m type) (sym (variable_is v e)) ∙ place_at.shaped)).1 shaped)
