-- Parts of blocks have their words in whatever state a shader is in.
use Rattle.std.proofs.Common.{◌≡◌, ◌≢◌, refl, sym, ap, ◌∙◌, subst, inl, inr, ◌⊎◌, ℕ, zero, suc, ◌+◌, ◌-◌, ◌*◌, ◌/◌, ◌<◌, ◌≤◌, ◌^◌, Bool, true, false, not, List, [], ◌∷◌, length, map, slice_get, Option, Some, None, arith, div-le_self}
use Rattle.std.specs.Prelude.{◌==◌, nat_lt, slice_index, slice_index_or}
use Rattle.std.specs.List.{AllByRecursion, list_all, range_with_len}
use Rattle.std.proofs.lemmas.Bool.{and_parts, ltb-true}
use Rattle.std.proofs.lemmas.List.{length-map}
use Rattle.std.proofs.lemmas.List.FromFn.{length-map-range_with_len}
use Rattle.gsl_layout.specs.Layout.{Layout}
use Rattle.gsl_types.specs.Known.{AreStructs, IsSound, sound, sound_kind}
use Rattle.gsl_types.specs.declared.ty.Scalar.{Scalar}
use Rattle.gsl_types.specs.declared.ty.Scalar.TheVariants.{Bool as Boolean, Int, Uint}
use Rattle.gsl_types.specs.declared.ty.StructType.{StructType}
use Rattle.gsl_types.specs.declared.ty.Ty.{Ty}
use Rattle.gsl_types.specs.declared.ty.Ty.TheFolds.{fold-roll-Ty}
use Rattle.gsl_types.specs.declared.ty.Ty.TheOpen.{Ty-F}
use Rattle.gsl_types.specs.declared.ty.Ty.TheVariants as ty
use Rattle.gsl_types.specs.declared.ty.Ty.TheVariants.{outs-One, outs-Struct}
use Rattle.gsl_types.specs.declared.ty.Ty.TheViews.{out-Ty, roll-Ty, roll-out-Ty}
use Rattle.gsl_words.specs.Words.{word_at}
use Rattle.gsl_words.proofs.Bytes.{byte_small}
use Rattle.gsl_values.specs.declared.value.Value.{Value}
use Rattle.gsl_values.specs.declared.value.Value.TheVariants.{Many, Word, outs-Many, outs-Word}
use Rattle.gsl_tree.specs.Around.{Around, member_in}
use Rattle.gsl_tree.specs.Expressions.{HasMemberType, HasPartType, element_kind, element_of, has_length_kind}
use Rattle.gsl_tree.specs.Laying.{layout_of}
use Rattle.gsl_tree.specs.Operations.{converted, has_fixed_length, is_fixed_kind, length_kind, length_of, member_value, value_at}
use Rattle.gsl_tree.specs.Shapes.{Shape, of_shape, shape_kind, shape_of}
use Rattle.gsl_tree.specs.Values.{components_in, components_layer, is_value_of, is_word_of, of_components, parts_in, parts_layer, word_in, word_layer}
use Rattle.gsl_tree.specs.declared.unit.Block.{Block as UnitBlock}
use Rattle.gsl_typed_law.proofs.Bounds.{integer_fits, truth_fits}
use Rattle.gsl_typed_law.proofs.Components.{AllFit, filled_typed, shape_again, some_component, some_same}
use Rattle.gsl_views.proofs.Words.{word_is}
use Rattle.gsl_views.specs.Paths.{Leads}
use Rattle.gsl_views.specs.Seen.{seen}
use Rattle.gsl_views.specs.Viewed.{elements}
use Rattle.gsl_meaning.specs.Accesses.{Block, nothing, pick, root_value, told}
use Rattle.gsl_meaning.specs.Blocks.{value_of, words_in}
use Rattle.gsl_meaning.specs.Expressions.{block_parts}
use Rattle.gsl_meaning.specs.State.{State}
use Rattle.gsl_lower_law_blocks.proofs.Shown.{parts_shown}
use Rattle.gsl_lower_law_members.specs.Parts.{IsRow, laid_as}
use Rattle.gsl_lower_law_members.specs.Parts.IsRow.{counted, endless}
use Rattle.gsl_lower_law_members.proofs.Laid.{block_member_laid, element_laid, row_laid, shape_laid, struct_member_laid}
use Rattle.gsl_lower_law_members.proofs.Told.{whole_told}
use Rattle.gsl_lower_traits_law.specs.Quiet.{AreHeld}
use Rattle.gsl_lower_traits_law.proofs.Shapes.{at_least_two, component_of, shape_back}

-- ---- words

abbrev pub AreWide : List ℕ → Type 0
AreWide = AllByRecursion (λ word. word < 2 ^ 32)

abbrev AreSmall : List ℕ → Type 0
AreSmall = AllByRecursion (λ byte. byte < 256)

words_again : (ws : List ℕ) → map word_in (map Word ws) ≡ ws
words_again [] = refl
words_again (w ∷ ws) = ap (λ n. n ∷ map word_in (map Word ws)) (ap word_layer (outs-Word w)) ∙ ap (λ l. w ∷ l) (words_again ws)

components_are : (ws : List ℕ) → components_in (of_components ws) ≡ ws
components_are [] = ap components_layer (outs-Many [])
components_are (w ∷ []) = ap components_layer (outs-Word w)
components_are (w ∷ next ∷ ws) = ap components_layer (outs-Many (map Word (w ∷ next ∷ ws))) ∙ words_again (w ∷ next ∷ ws)

many_parts : (ws : List ℕ) → 2 ≤ length ws → parts_in (of_components ws) ≡ map Word ws
many_parts [] many = absurd (let z : 2 ≤ 0 = many in omega (arith, z))
many_parts (w ∷ []) many = absurd (let z : 2 ≤ 1 = many in omega (arith, z))
many_parts (w ∷ next ∷ ws) many = ap parts_layer (outs-Many (map Word (w ∷ next ∷ ws)))

word_part : (ws : List ℕ) (k : ℕ) → k < length ws → slice_index_or (map Word ws) k (Word 0) ≡ Word (slice_index ws k)
word_part [] k below = absurd (omega (arith, below))
word_part (w ∷ ws) zero below = refl
word_part (w ∷ ws) (suc k) below = word_part ws k (omega (arith, below))

word_small : (bytes : List ℕ) (at : ℕ) → AreSmall bytes → word_at bytes at < 2 ^ 32
word_small bytes at small =
    let a = byte_small bytes small at in
    let b = byte_small bytes small (at + 1) in
    let c = byte_small bytes small (at + 2) in
    let d = byte_small bytes small (at + 3) in
    omega (arith, word_is bytes at, a, b, c, d)

run_wide : (bytes : List ℕ) (q a m : ℕ) → AreSmall bytes → AreWide (map (λ k. word_at bytes (q + 4 * k)) (range_with_len a m))
run_wide bytes q a zero small = tt
run_wide bytes q a (suc m) small = (word_small bytes (q + 4 * a) small, run_wide bytes q (a + 1) m small)

wide_at : (ws : List ℕ) (k : ℕ) → AreWide ws → k < length ws → slice_index ws k < 2 ^ 32
wide_at [] k wide below = absurd (omega (arith, below))
wide_at (w ∷ ws) zero wide below = wide.0
wide_at (w ∷ ws) (suc k) wide below = wide_at ws k wide.1 (omega (arith, below))

each_wide : (f : ℕ → ℕ) (positions : List ℕ) (k : ℕ) → AreWide (map f positions) → k < length positions → f (slice_index positions k) < 2 ^ 32
each_wide f [] k wide below = absurd (omega (arith, below))
each_wide f (position ∷ positions) zero wide below = wide.0
each_wide f (position ∷ positions) (suc k) wide below = each_wide f positions k wide.1 (omega (arith, below))

picked_wide : (ws positions : List ℕ) → AreWide ws → list_all (λ position. nat_lt position (length ws)) positions ≡ true → AreWide (map (slice_index ws) positions)
picked_wide ws [] wide below = tt
picked_wide ws (position ∷ positions) wide below =
    let both = and_parts (nat_lt position (length ws)) (list_all (λ position. nat_lt position (length ws)) positions) below in
    (wide_at ws position wide (ltb-true position (length ws) both.0), picked_wide ws positions wide both.1)

again_wide : (f : ℕ → ℕ) (before positions : List ℕ) → AreWide (map f before) → list_all (λ position. nat_lt position (length before)) positions ≡ true → AreWide (map f (map (slice_index before) positions))
again_wide f before [] wide below = tt
again_wide f before (position ∷ positions) wide below =
    let both = and_parts (nat_lt position (length before)) (list_all (λ position. nat_lt position (length before)) positions) below in
    (each_wide f before position wide (ltb-true position (length before) both.0), again_wide f before positions wide both.1)

converted_fits : (s : Scalar) (word : ℕ) → word < 2 ^ 32 → is_word_of s (converted s word) ≡ true
converted_fits Boolean word below = truth_fits (not (word == 0))
converted_fits Int word below = integer_fits Int word refl below
converted_fits Uint word below = integer_fits Uint word refl below

all_converted : (s : Scalar) (ws : List ℕ) → AreWide ws → AllFit s (map (converted s) ws)
all_converted s [] wide = tt
all_converted s (w ∷ ws) wide = (converted_fits s w wide.0, all_converted s ws wide.1)

all_words : (ws : List ℕ) → AreWide ws → AllFit Uint ws
all_words [] wide = tt
all_words (w ∷ ws) wide = (integer_fits Uint w refl wide.0, all_words ws wide.1)

-- a scalar or vector is sound in any structs
shape_sound : (count other : ℕ) (t : Ty) (shape : Shape) → shape_of t ≡ Some shape → IsSound count t → IsSound other t
shape_sound count other t shape is sound_t = by (out-Ty t) (roll-out-Ty t) is
  where
    by : (layer : Ty-F Ty) → roll-Ty layer ≡ t → shape_kind layer ≡ Some shape → sound other t ≡ true
    by Ty-F.Void e is = absurd cc
    by (Ty-F.One s) e is = ap (sound other) (sym e) ∙ fold-roll-Ty Bool (sound_kind other) (Ty-F.One s)
    by (Ty-F.Vector s n) e is =
        ap (sound other) (sym e) ∙ fold-roll-Ty Bool (sound_kind other) (Ty-F.Vector s n) ∙ sym (fold-roll-Ty Bool (sound_kind count) (Ty-F.Vector s n)) ∙ ap (sound count) e ∙ sound_t
    by (Ty-F.Array element n) e is = absurd cc
    by (Ty-F.Runtime element) e is = absurd cc
    by (Ty-F.Struct number) e is = absurd cc

-- what has a length that its type does not tell is a runtime array
runtime_is : (t : Ty) → has_length_kind (out-Ty t) ≡ true → has_fixed_length t ≡ false → (element : Ty) × (element_of t ≡ Some element) × (shape_of t ≡ None) × (length_of t ≡ 0)
runtime_is t = by (out-Ty t)
  where
    by : (layer : Ty-F Ty) → has_length_kind layer ≡ true → is_fixed_kind layer ≡ false → (element : Ty) × (element_kind layer ≡ Some element) × (shape_kind layer ≡ None) × (length_kind layer ≡ 0)
    by (Ty-F.Runtime element) long free = (element, refl, refl, refl)
    by (Ty-F.Vector s n) long free = absurd (let z : true ≡ false = free in cc)
    by (Ty-F.Array element n) long free = absurd (let z : true ≡ false = free in cc)
    by Ty-F.Void long free = absurd (let z : false ≡ true = long in cc)
    by (Ty-F.One s) long free = absurd (let z : false ≡ true = long in cc)
    by (Ty-F.Struct number) long free = absurd (let z : false ≡ true = long in cc)

-- ---- what stands in blocks

module _ (structs : List StructType) (are : AreStructs structs) where
  -- words of a shape
  pub record IsRun (t : Ty) (v : Value) : Type 0 where
    shape : Shape
    is : shape_of t ≡ Some shape
    words : List ℕ
    value : v ≡ of_components words
    count : length words ≡ shape.1
    wide : AreWide words

  -- what is seen of a struct or an array
  pub record IsLaid (t : Ty) (v : Value) : Type 0 where
    none : shape_of t ≡ None
    std140 : Bool
    offset : ℕ
    bytes : List ℕ
    value : v ≡ value_of (seen (laid_as std140 structs t) offset bytes)
    small : AreSmall bytes

  -- what is picked of it, or all of it
  abbrev pub FitsIn : Ty → Option (List ℕ) → Value → Type 0
  FitsIn t None v = IsRun t v ⊎ IsLaid t v
  FitsIn t (Some positions) v = (s : Scalar) × (of_shape (s, length positions) ≡ t) × AreWide (map (slice_index (components_in v)) positions)

  laid_fits : (t : Ty) (std140 : Bool) (offset : ℕ) (bytes : List ℕ) → AreSmall bytes → FitsIn t None (value_of (seen (laid_as std140 structs t) offset bytes))
  laid_fits t std140 offset bytes small = by (shape_of t) refl
    where
      by : (o : Option Shape) → shape_of t ≡ o → FitsIn t None (value_of (seen (laid_as std140 structs t) offset bytes))
      by None e = inr (record { none = e; std140 = std140; offset = offset; bytes = bytes; value = refl; small = small })
      by (Some shape) e = inl (record {
        shape = shape;
        is = e;
        words = map (λ k. word_at bytes (offset + 4 * k)) (range_with_len 0 shape.1);
        value = ap (λ l. value_of (seen l offset bytes)) (shape_laid structs (length bytes) std140 t shape e);
        count = length-map-range_with_len (λ k. word_at bytes (offset + 4 * k)) 0 shape.1;
        wide = run_wide bytes offset 0 shape.1 small;
      })

  -- a part of what is laid
  part_fits : (base t : Ty) (v : Value) (number : ℕ) (laid : IsLaid base v) → (offset : ℕ) × Leads (length laid.bytes) (laid_as laid.std140 structs base) laid.offset (number ∷ []) (laid_as laid.std140 structs t) offset → FitsIn t None (member_value v number)
  part_fits base t v number laid (offset, leads) =
      subst (FitsIn t None)
      (sym (ap (λ v. member_value v number) laid.value ∙ parts_shown laid.bytes (laid_as laid.std140 structs base) (laid_as laid.std140 structs t) laid.offset offset (number ∷ []) leads))
      (laid_fits t laid.std140 offset laid.bytes laid.small)

  pub member_fits : (base : Ty) (number : ℕ) (t : Ty) (v : Value) → HasPartType structs base number t → FitsIn base None v → FitsIn t None (member_value v number)
  member_fits base number t v is (inl run) = absurd (let z : ◌≡◌ {A = Option Shape} (Some run.shape) None = sym run.is ∙ ap shape_of is.3 ∙ ap shape_kind (outs-Struct is.0) in cc)
  member_fits base number t v is (inr laid) = part_fits base t v number laid (struct_member_laid structs (length laid.bytes) laid.std140 laid.offset number base t are is)

  pub record Indexed (t : Ty) (number : ℕ) (v : Value) : Type 0 where
    pub below : number < length (parts_in v)
    pub fits : FitsIn t None (member_value v number)

  row_parts : (n : ℕ) (f : ℕ → Value) → length (parts_in (Many (map f (range_with_len 0 n)))) ≡ n
  row_parts n f = ap length (ap parts_layer (outs-Many (map f (range_with_len 0 n)))) ∙ length-map-range_with_len f 0 n

  -- an element of an array
  element_fits : (base : Ty) (number : ℕ) (t : Ty) (v : Value) → element_of base ≡ Some t → number < length_of base → IsLaid base v → Indexed t number v
  element_fits base number t v element less laid = by (row_laid structs (length laid.bytes) laid.std140 base t element laid.none)
    where
      by : IsRow laid.std140 structs base t (laid_as laid.std140 structs base) → Indexed t number v
      by (counted stride is) = record {
        below =
            let many : length (parts_in v) ≡ length_of base =
            ap (λ v. length (parts_in v)) (laid.value ∙ ap (λ l. value_of (seen l laid.offset laid.bytes)) is)
            ∙ row_parts (length_of base) _ in
            omega (arith, less, many);
        fits = part_fits base t v number laid
            (element_laid structs (length laid.bytes) laid.std140 laid.offset number base t (laid_as laid.std140 structs base) (counted stride is) (subst (λ l. number < elements l laid.offset (length laid.bytes)) (sym is) less));
      }
      by (endless stride none is) = absurd (omega (arith, less, none))

  -- in few bytes a runtime array has few elements
  row_few : (t element : Ty) (std140 : Bool) (l : Layout) (offset : ℕ) (bytes : List ℕ) → IsRow std140 structs t element l → length_of t ≡ 0 → length bytes < 2 ^ 32 → length (parts_in (value_of (seen l offset bytes))) < 2 ^ 32
  row_few t element std140 l offset bytes (counted stride is) none few =
      let many : length (parts_in (value_of (seen l offset bytes))) ≡ length_of t = ap (λ l. length (parts_in (value_of (seen l offset bytes)))) is ∙ row_parts (length_of t) _ in
      omega (arith, many, none)
  row_few t element std140 l offset bytes (endless stride none is) long few =
      let many : length (parts_in (value_of (seen l offset bytes))) ≡ (length bytes - offset) / stride =
      ap (λ l. length (parts_in (value_of (seen l offset bytes)))) is ∙ row_parts ((length bytes - offset) / stride) _ in
      let less = div-le_self (length bytes - offset) stride in
      omega (arith, many, less, few)

  runtime_few : (t : Ty) (std140 : Bool) (offset : ℕ) (bytes : List ℕ) → has_length_kind (out-Ty t) ≡ true → has_fixed_length t ≡ false → length bytes < 2 ^ 32 → length (parts_in (value_of (seen (laid_as std140 structs t) offset bytes))) < 2 ^ 32
  runtime_few t std140 offset bytes long free few =
      let is = runtime_is t long free in
      row_few t is.0 std140 (laid_as std140 structs t) offset bytes (row_laid structs (length bytes) std140 t is.0 is.1 is.2) is.3 few

  -- a component of a vector
  word_fits : (base : Ty) (number : ℕ) (t : Ty) (v : Value) → IsSound (length structs) base → element_of base ≡ Some t → number < length_of base → IsRun base v → Indexed t number v
  word_fits base number t v sound_base element less run = record {
    below = let n = length-map run.words Word in let m = ap (λ v. length (parts_in v)) run.value ∙ ap length (many_parts run.words many) in omega (arith, less, n, m, long);
    fits = inl (record {
      shape = (scalar_there, 1);
      is = ap shape_of (sym vector.0) ∙ ap shape_kind (outs-One scalar_there);
      words = slice_index run.words number ∷ [];
      value = ap (λ v. member_value v number) run.value ∙ ap (λ l. slice_index_or l number (Word 0)) (many_parts run.words many) ∙ word_part run.words number (omega (arith, less, long));
      count = refl;
      wide = (wide_at run.words number run.wide (omega (arith, less, long)), tt);
    });
  }
    where
      scalar_there : Scalar
      scalar_there = run.shape.0

      again : of_shape (run.shape.0, run.shape.1) ≡ base
      again = shape_again (length structs) base run.shape sound_base run.is

      vector : (ty.One run.shape.0 ≡ t) × (length_of (of_shape (run.shape.0, run.shape.1)) ≡ run.shape.1) × (run.shape.1 ≢ 1)
      vector = component_of run.shape.0 run.shape.1 t (ap element_of again ∙ element)

      long : length run.words ≡ length_of base
      long = run.count ∙ sym vector.1 ∙ ap length_of again

      many : 2 ≤ length run.words
      many = let c = run.count in let few = at_least_two run.shape.1 (some_component (length structs) base run.shape sound_base run.is) vector.2 in omega (arith, c, few)

  pub index_fits : (base : Ty) (number : ℕ) (t : Ty) (v : Value) → IsSound (length structs) base → element_of base ≡ Some t → number < length_of base → FitsIn base None v → Indexed t number v
  index_fits base number t v sound_base element less (inl run) = word_fits base number t v sound_base element less run
  index_fits base number t v sound_base element less (inr laid) = element_fits base number t v element less laid

  pub index_picked : (base : Ty) (number : ℕ) (t : Ty) (v : Value) (positions : List ℕ) → element_of base ≡ Some t → number < length_of base → FitsIn base (Some positions) v
      → (number < length positions) × FitsIn t (Some (slice_index positions number ∷ [])) v
  index_picked base number t v positions element less (s, is, wide) =
      let vector = component_of s (length positions) t (ap element_of is ∙ element) in
      let count : length_of base ≡ length positions = sym (ap length_of is) ∙ vector.1 in
      let within : number < length positions = omega (arith, less, count) in
      (within, (s, vector.0, (each_wide (slice_index (components_in v)) positions number wide within, tt)))

  -- positions of a whole
  pub swizzle_fits : (base : Ty) (shape : Shape) (v : Value) (positions : List ℕ) → shape_of base ≡ Some shape → list_all (λ position. nat_lt position shape.1) positions ≡ true → FitsIn base None v
      → AreWide (map (slice_index (components_in v)) positions)
  swizzle_fits base shape v positions is below (inr laid) = absurd (let z : ◌≡◌ {A = Option Shape} None (Some shape) = sym laid.none ∙ is in cc)
  swizzle_fits base shape v positions is below (inl run) =
      let words : components_in v ≡ run.words = ap components_in run.value ∙ components_are run.words in
      let same : run.shape ≡ shape = some_same (sym run.is ∙ is) in
      picked_wide (components_in v) positions (subst AreWide (sym words) run.wide)
      (subst (λ n. list_all (λ position. nat_lt position n) positions ≡ true) (sym (ap length words ∙ run.count ∙ ap (λ (x : Shape). x.1) same)) below)

  pub swizzle_again : (base : Ty) (shape : Shape) (v : Value) (before positions : List ℕ) → shape_of base ≡ Some shape → list_all (λ position. nat_lt position shape.1) positions ≡ true → FitsIn base (Some before) v
      → (s : Scalar) × ((s, length before) ≡ shape) × AreWide (map (slice_index (components_in v)) (map (slice_index before) positions))
  swizzle_again base shape v before positions is below (s, e, wide) =
      let same : (s, length before) ≡ shape = some_same (sym (shape_back s (length before)) ∙ ap shape_of e ∙ is) in
      (s, same, again_wide (slice_index (components_in v)) before positions wide (subst (λ (x : Shape). list_all (λ position. nat_lt position x.1) positions ≡ true) (sym same) below))

  -- ---- what is read

  words_told : (others : List StructType) (t : Ty) (shape : Shape) (ws : List ℕ) → IsSound (length structs) t → shape_of t ≡ Some shape → length ws ≡ shape.1 → AreWide ws → is_value_of structs t (told others t (of_components ws)) ≡ true
  words_told others t shape ws sound_t is count wide =
      ap (is_value_of structs t)
      (whole_told others t shape (shape_sound (length structs) (length others) t shape is sound_t) is Uint (of_components ws) (record { words = ws; is = refl; count = count; fits = all_words ws wide })
      ∙ ap (λ l. of_components (map (converted shape.0) l)) (components_are ws))
      ∙ subst (λ u. is_value_of structs u (of_components (map (converted shape.0) ws)) ≡ true) (shape_again (length structs) t shape sound_t is)
      (filled_typed structs shape.0 shape.1 (map (converted shape.0) ws) (length-map ws (converted shape.0) ∙ count, all_converted shape.0 ws wide))

  pub read_in : (others : List StructType) (t : Ty) (shape : Shape) (o : Option (List ℕ)) (v : Value) → IsSound (length structs) t → shape_of t ≡ Some shape → FitsIn t o v → is_value_of structs t (told others t (pick o v)) ≡ true
  read_in others t shape None v sound_t is (inr laid) = absurd (let z : ◌≡◌ {A = Option Shape} None (Some shape) = sym laid.none ∙ is in cc)
  read_in others t shape None v sound_t is (inl run) = ap (λ v. is_value_of structs t (told others t v)) run.value ∙ words_told others t run.shape run.words sound_t run.is run.count run.wide
  read_in others t shape (Some positions) v sound_t is (s, e, wide) =
      words_told others t (s, length positions) (map (slice_index (components_in v)) positions) sound_t (ap shape_of (sym e) ∙ shape_back s (length positions)) (length-map positions (slice_index (components_in v))) wide

-- ---- where they begin

index_at : (items : List Value) (number : ℕ) (v : Value) → slice_get items number ≡ Some v → slice_index_or items number nothing ≡ v
index_at [] number v is = absurd cc
index_at (one ∷ items) zero v is = cc
index_at (one ∷ items) (suc number) v is = index_at items number v is

module _ (few : Bool) (around : Around) (are : AreStructs around.structs) where
  -- what is seen of a member of a block
  record IsMember (t : Ty) (v : Value) : Type 0 where
    std140 : Bool
    offset : ℕ
    bytes : List ℕ
    value : v ≡ value_of (seen (laid_as std140 around.structs t) offset bytes)
    small : AreSmall bytes
    short : few ≡ true → length bytes < 2 ^ 32

  root_seen : (s : State) (held : AreHeld few around s) (block number : ℕ) (t : Ty) → HasMemberType around block number t → IsMember t (value_at (root_value (Block block) s) (number ∷ []))
  root_seen s held block number t (one, found, type) = by (slice_get around.blocks block) refl found
    where
      by : (o : Option UnitBlock) → slice_get around.blocks block ≡ o → member_in o number ≡ Some one → IsMember t (value_at (root_value (Block block) s) (number ∷ []))
      by None e found = absurd cc
      by (Some known) e found =
          let has = held.blocks block known e in
          let laid = block_member_laid around.structs (length has.0) known number one found in
          record {
            std140 = known.std140;
            offset = laid.0;
            bytes = has.0;
            value =
                ap (λ v. member_value v number) (index_at s.blocks block (words_in around.structs known has.0) has.1)
                ∙ parts_shown has.0 (layout_of around.structs known) (laid_as known.std140 around.structs one.ty) 0 laid.0 (number ∷ []) laid.1
                ∙ ap (λ u. value_of (seen (laid_as known.std140 around.structs u) laid.0 has.0)) type;
            small = has.2;
            short = has.3;
          }

  pub root_fits : (s : State) (held : AreHeld few around s) (block number : ℕ) (t : Ty) → HasMemberType around block number t → FitsIn around.structs are t None (value_at (root_value (Block block) s) (number ∷ []))
  root_fits s held block number t is =
      let one = root_seen s held block number t is in
      subst (FitsIn around.structs are t None) (sym one.value) (laid_fits around.structs are t one.std140 one.offset one.bytes one.small)

  -- a runtime array has as many elements as a word counts
  pub root_few : (s : State) (held : AreHeld few around s) (block number : ℕ) (t : Ty) → HasMemberType around block number t → few ≡ true → has_length_kind (out-Ty t) ≡ true → has_fixed_length t ≡ false → block_parts block number s < 2 ^ 32
  root_few s held block number t is so long free =
      let one = root_seen s held block number t is in
      subst (λ v. length (parts_in v) < 2 ^ 32) (sym one.value) (runtime_few around.structs are t one.std140 one.offset one.bytes long free (one.short so))
