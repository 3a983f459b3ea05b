-- Where the parts of values stand.
use Rattle.std.proofs.Common.{◌≡◌, refl, sym, ap, ◌∙◌, ℕ, zero, suc, ◌+◌, ◌<◌, ◌≤◌, Bool, true, false, ◌||◌, if◌then◌else◌, nat_lt, List, [], ◌∷◌, ◌++◌, map, replicate, length, take, slice_index, Option, Some, None, unwrap_or, length-append, arith}
use Rattle.std.proofs.lemmas.Bool.{and_parts, false≢true, lt-ltb, ltb-true}
use Rattle.gsl_instr.specs.declared.instruction.Instruction.{Instruction}
use Rattle.gsl_words.specs.declared.module.Module.{Module}
use Rattle.gsl_values.specs.declared.value.Value.{Value}
use Rattle.gsl_values.specs.declared.value.Value.TheViews.{out-Value}
use Rattle.gsl_tree.specs.Operations.{member_value, value_at}
use Rattle.gsl_tree.specs.Values.{all_pass, parts_in}
use Rattle.gsl_valid.specs.Ids.{defined, defines, definition, result}
use Rattle.gsl_valid.specs.Instruction.{read}
use Rattle.gsl_valid.specs.Kinds.{Shape, OfBool, OfInt, OfVector, OfArray, OfStruct, shape_of, value_of}
use Rattle.gsl_valid.specs.OperandRules.{if_below, part_of_at, part_within}
use Rattle.gsl_valid.specs.Placed.{Code}
use Rattle.gsl_valid.specs.Search.{whole}
use Rattle.gsl_valid.specs.Types.{defined_as}
use Rattle.gsl_ids.proofs.Numbers.{turned}
use Rattle.gsl_machine.specs.Constants.{length_by}
use Rattle.gsl_sound_code.proofs.Looks.{Kept, defined_found}
use Rattle.gsl_sound_values.specs.Shaped.{is_shaped, shaped_as, shaped_in}
use Rattle.gsl_sound_values.proofs.Unfolded.{shape_unfolds}
use Rattle.gsl_sound_values.proofs.Parts.{within_shaped}
use Rattle.gsl_leaves.specs.Leaves.{ahead_as, leaves, offset, parts_as}
use Rattle.gsl_region.specs.Flat.{flat, flat_all}
use Rattle.gsl_region.specs.Places.{LeadsIn, in_front}
use Rattle.gsl_region.proofs.Focus.{Focus, focus}
use Rattle.gsl_leaves_law.proofs.Counted.{counted_in, many_there, members_ahead, no_parts, same_ahead}

-- ---- a type of which there are values is defined

shaped_defined : (m : Module) (code : Code) (type : ℕ) (v : Value) → shaped_in m code type v ≡ true → defined code type ≡ true
shaped_defined m [] type v is = absurd (false≢true is)
shaped_defined m (i ∷ code) type v is = by_test (shaped_defined m code type v) (defines i type) is
  where
    by_test : (shaped_in m code type v ≡ true → defined code type ≡ true) → (b : Bool) → (if b then shaped_as m (shaped_in m code) (shape_of (read i)) v else shaped_in m code type v) ≡ true → (b || defined code type) ≡ true
    by_test later true is = refl
    by_test later false is = later is

module _ (m : Module) (kept : Kept m) where
  type_there : (type : ℕ) (v : Value) → is_shaped m type v ≡ true → (d : Instruction) × (defined_as m type ≡ Some d)
  type_there type v is = by_definition (definition m.instrs type) refl
    where
      or_none : (b : Bool) → (b || false) ≡ true → b ≡ true
      or_none true is = refl
      or_none false is = is

      here : defined m.instrs type ≡ true
      here = or_none _ (sym (turned [] m.instrs type) ∙ shaped_defined m (whole m) type v is)

      by_definition : (o : Option Instruction) → definition m.instrs type ≡ o → (d : Instruction) × (o ≡ Some d)
      by_definition None e = let f = defined_found m [] m.instrs type kept.all here in let none : None ≡ Some type = ap result (sym (f.reads ∙ e)) ∙ f.gives in absurd (cc)
      by_definition (Some d) e = (d, refl)

  -- what has the shape of a type has the shapes of its parts
  pub unfolded : (type : ℕ) (v : Value) → is_shaped m type v ≡ true → shaped_as m (is_shaped m) (shape_of (defined_as m type)) v ≡ true
  unfolded type v is = let t = type_there type v is in sym (shape_unfolds m kept type t.0 v t.1) ∙ is

-- ---- how many parts there are

same_long : (f : Value → Bool) (n : ℕ) (vs : List Value) → all_pass (replicate n f) vs ≡ true → length vs ≡ n
same_long f zero [] is = refl
same_long f zero (v ∷ vs) is = absurd (false≢true is)
same_long f (suc n) [] is = absurd (false≢true is)
same_long f (suc n) (v ∷ vs) is = ap suc (same_long f n vs (and_parts (f v) (all_pass (replicate n f) vs) is).1)

members_long : (f : ℕ → Value → Bool) (types : List ℕ) (vs : List Value) → all_pass (map f types) vs ≡ true → length vs ≡ length types
members_long f [] [] is = refl
members_long f [] (v ∷ vs) is = absurd (false≢true is)
members_long f (type ∷ types) [] is = absurd (false≢true is)
members_long f (type ∷ types) (v ∷ vs) is = ap suc (members_long f types vs (and_parts (f type v) (all_pass (map f types) vs) is).1)

module _ (m : Module) where
  each_counted : (type : ℕ) (v : Value) → is_shaped m type v ≡ true → length (flat v) ≡ leaves m type
  each_counted = counted_in m (whole m)

  pub parts_counted : (s : Shape) (v : Value) → shaped_as m (is_shaped m) s v ≡ true → length (parts_in v) ≡ parts_as m s
  parts_counted OfBool v is = no_parts v (out-Value v) refl is
  parts_counted (OfInt signedness) v is = no_parts v (out-Value v) refl is
  parts_counted (OfVector component count) v is = let p = many_there (replicate count (is_shaped m component)) v is in ap length p.1.parts ∙ same_long (is_shaped m component) count p.0 p.2
  parts_counted (OfArray element size) v is =
      let p = many_there (replicate (length_by m size) (is_shaped m element)) v is in ap length p.1.parts ∙ same_long (is_shaped m element) (length_by m size) p.0 p.2
  parts_counted (OfStruct id members) v is = let p = many_there (map (is_shaped m) members) v is in ap length p.1.parts ∙ members_long (is_shaped m) members p.0 p.2
  parts_counted _ v is = absurd (false≢true is)

  -- ---- the type of a part

  below_there : (k type : ℕ) (o : Option ℕ) → k < unwrap_or o 0 → (part : ℕ) × (if_below k o type ≡ Some part)
  below_there k type None below = absurd (omega (arith, below))
  below_there k type (Some count) below = (type, ap (λ b. if b then Some type else None) (lt-ltb k count below))

  pub part_there : (s : Shape) (k : ℕ) → k < parts_as m s → (part : ℕ) × (part_of_at m k s ≡ Some part)
  part_there (OfVector component count) k below = below_there k component (Some count) below
  part_there (OfArray element size) k below = below_there k element (value_of (defined_as m size)) below
  part_there (OfStruct id members) k below = (slice_index members k, ap (λ b. if b then Some (slice_index members k) else None) (lt-ltb k (length members) below))
  part_there _ k below = absurd (omega (arith, below))

  none_some : (part : ℕ) → None ≡ Some part → ⊥
  none_some part is = cc

  below_given : (k type part : ℕ) (o : Option ℕ) → if_below k o type ≡ Some part → k < unwrap_or o 0
  below_given k type part None is = absurd (none_some part is)
  below_given k type part (Some count) is = by_test (nat_lt k count) refl is
    where
      by_test : (b : Bool) → nat_lt k count ≡ b → (if b then Some type else None) ≡ Some part → k < count
      by_test true below is = ltb-true k count below
      by_test false below is = absurd (none_some part is)

  pub part_below : (s : Shape) (k part : ℕ) → part_of_at m k s ≡ Some part → k < parts_as m s
  part_below (OfVector component count) k part is = below_given k component part (Some count) is
  part_below (OfArray element size) k part is = below_given k element part (value_of (defined_as m size)) is
  part_below (OfStruct id members) k part is = below_given k (slice_index members k) part (Some (length members)) is
  part_below _ k part is = absurd (none_some part is)

  -- ---- the words in front of a part

  pub words_ahead : (s : Shape) (k : ℕ) (v : Value) → k < parts_as m s → shaped_as m (is_shaped m) s v ≡ true → length (flat_all (take k (parts_in v))) ≡ ahead_as (leaves m) k s
  words_ahead (OfVector component count) k v below is =
      let p = many_there (replicate count (is_shaped m component)) v is in
      ap (λ vs. length (flat_all (take k vs))) p.1.parts ∙ same_ahead (is_shaped m) (leaves m) each_counted component count k p.0 p.2 (omega (arith, below))
  words_ahead (OfArray element size) k v below is =
      let p = many_there (replicate (length_by m size) (is_shaped m element)) v is in
      ap (λ vs. length (flat_all (take k vs))) p.1.parts ∙ same_ahead (is_shaped m) (leaves m) each_counted element (length_by m size) k p.0 p.2 (omega (arith, below))
  words_ahead (OfStruct id members) k v below is =
      let p = many_there (map (is_shaped m) members) v is in ap (λ vs. length (flat_all (take k vs))) p.1.parts ∙ members_ahead (is_shaped m) (leaves m) each_counted members k p.0 p.2
  words_ahead _ k v below is = absurd (omega (arith, below))

-- ---- a path

-- A path leads in a value, and as many words stand in front as the types tell.
pub record StandsAt (m : Module) (type : ℕ) (path : List ℕ) (v : Value) : Type 0 where
  pub leads : LeadsIn v path
  pub front : in_front v path ≡ offset m (Some type) path

none_within : (m : Module) (path : List ℕ) (part : ℕ) → part_within m None path ≡ Some part → ⊥
none_within m path part is = cc

module _ (m : Module) (kept : Kept m) where
  pub path_stands : (type : ℕ) (path : List ℕ) (part : ℕ) (v : Value) → part_within m (Some type) path ≡ Some part → is_shaped m type v ≡ true → StandsAt m type path v
  unfolding in_front offset
  path_stands type [] part v is shaped = record { leads = tt; front = refl }
  path_stands type (k ∷ path) part v is shaped =
      by_part (part_of_at m k (shape_of (defined_as m type))) refl (λ next e here. path_stands next path part (member_value v k) e here) is
    where
      by_part : (o : Option ℕ) → part_of_at m k (shape_of (defined_as m type)) ≡ o
          → ((next : ℕ) → part_within m (Some next) path ≡ Some part → is_shaped m next (member_value v k) ≡ true → StandsAt m next path (member_value v k))
          → part_within m o path ≡ Some part → StandsAt m type (k ∷ path) v
      by_part None e later is = absurd (none_within m path part is)
      by_part (Some next) e later is =
          let s = shape_of (defined_as m type) in
          let here = unfolded m kept type v shaped in
          let below = part_below m s k next e in
          let inner = later next is (within_shaped m kept type (k ∷ []) next v v (ap (λ o. part_within m o []) e) shaped).0 in
          record {
            leads = (omega (arith, below, parts_counted m s v here), inner.leads);
            front = omega (arith, words_ahead m s k v below here, inner.front, ap (λ o. offset m o path) e);
          }

  pub within_words : (type : ℕ) (path : List ℕ) (part : ℕ) (v : Value) → part_within m (Some type) path ≡ Some part → is_shaped m type v ≡ true → offset m (Some type) path + leaves m part ≤ leaves m type
  within_words type path part v is shaped =
      let s = path_stands type path part v is shaped in
      let f : Focus v path = focus v path s.leads in
      let inner = (within_shaped m kept type path part v v is shaped).0 in
      omega (
        arith,
        counted_in m (whole m) type v shaped,
        counted_in m (whole m) part (value_at v path) inner,
        ap length f.is,
        length-append f.front (flat (value_at v path) ++ f.behind),
        length-append (flat (value_at v path)) f.behind,
        f.at,
        s.front,
      )
