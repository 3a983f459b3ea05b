-- What is seen of a type in bytes has its words, what they tell is of the type, and what has the form of its zeros is filled with them.
use Rattle.std.proofs.Common.{◌≡◌, refl, sym, ap, ap₂, ◌∙◌, subst, ℕ, zero, suc, ◌+◌, ◌*◌, ◌^◌, ◌<◌, ◌≤◌, Bool, true, false, ◌&&◌, IsTrue, if◌then◌else◌, List, [], ◌∷◌, length, map, replicate, get_or, arith, nat_lt}
use Rattle.std.specs.Prelude.{drop, nat_le}
use Rattle.std.specs.List.{AllByRecursion, range_with_len}
use Rattle.std.proofs.lemmas.Bool.{and_from, and_parts, false≢true, leb-true, lt-ltb, ltb-true}
use Rattle.gsl_layout.specs.Kinds.{part_count}
use Rattle.gsl_layout.specs.Layout.{Array, Layout}
use Rattle.gsl_layout.specs.Measures.{measure, measuring, stride_of}
use Rattle.gsl_layout.specs.Placings.{Placed, end_of, free, offset_behind, parts_behind, placed}
use Rattle.gsl_layout.specs.declared.placing.Placing.{Placing}
use Rattle.gsl_types.specs.Known.{AreStructs, IsSound, is_plain, is_plain_kind, sound, sound_kind}
use Rattle.gsl_types.specs.Structs.{Meaning, layer, members_over, numbered, over, struct_over}
use Rattle.gsl_types.specs.declared.ty.Member.{Member}
use Rattle.gsl_types.specs.declared.ty.Scalar.{Scalar}
use Rattle.gsl_types.specs.declared.ty.StructType.{StructType}
use Rattle.gsl_types.specs.declared.ty.Ty.{Ty}
use Rattle.gsl_types.specs.declared.ty.Ty.TheFolds.{fold-roll-Ty, ind-Ty, map-Ty}
use Rattle.gsl_types.specs.declared.ty.Ty.TheOpen.{Ty-F}
use Rattle.gsl_types.specs.declared.ty.Ty.TheViews.{roll-Ty}
use Rattle.gsl_types.proofs.Shapes.{slice_found}
use Rattle.gsl_types.proofs.Structs.{numbered_is}
use Rattle.gsl_values.specs.declared.value.Value.{Value}
use Rattle.gsl_values.specs.declared.value.Value.TheFolds.{fold-roll-Value}
use Rattle.gsl_values.specs.declared.value.Value.TheOpen.{Value-F}
use Rattle.gsl_values.specs.declared.value.Value.TheVariants.{Word, Many, outs-Many, outs-Word, rolls-Many}
use Rattle.gsl_values.specs.declared.value.Value.TheViews.{out-Value, roll-Value, roll-out-Value}
use Rattle.gsl_tree.specs.Operations.{converted}
use Rattle.gsl_tree.specs.Shapes.{Shape}
use Rattle.gsl_tree.specs.Values.{all_pass, components_in, components_layer, has_parts, is_scalar, is_value_of, of_components, parts_in, parts_layer, tests_of, value_meaning, word_in, word_layer, zero_meaning, zero_value, zeros_of}
use Rattle.gsl_views.specs.Seen.{nothing, seen, seen_part}
use Rattle.gsl_views.proofs.Changes.{kept_guard}
use Rattle.gsl_meaning.specs.Accesses.{each_told, told, told_meaning, told_scalar}
use Rattle.gsl_meaning.specs.Blocks.{value_of}
use Rattle.gsl_typed_law.specs.Plain.{ArePlain}
use Rattle.gsl_typed_law.proofs.Components.{scalar_word}
use Rattle.gsl_typed_law.proofs.Zeros.{many_pass}
use Rattle.gsl_lower_places.specs.Reached.{is_block_class, stored_scalar, stored_shape}
use Rattle.gsl_lower_leaves.specs.Leaves.{leaves_meaning, leaves_of}
use Rattle.gsl_lower_leaves.specs.declared.leaf.Leaf.{Leaf}
use Rattle.gsl_lower_law.specs.Operands.{converted_value}
use Rattle.gsl_lower_law.specs.Values.{AreWords, IsOf}
use Rattle.gsl_lower_law.proofs.Components.{components_of}
use Rattle.gsl_lower_law_leaves.proofs.Structs.{members_rows}
use Rattle.gsl_lower_law_leaves.proofs.Typed.{elements_are, many_from, rows, word_from, words_from}
use Rattle.gsl_lower_law_places.proofs.Reading.{converted_is}
use Rattle.gsl_lower_law_copies.specs.Worded.{has_words, words_meaning}
use Rattle.gsl_lower_law_copies.proofs.Told.{TellEach, Tells, parts_tell, told_each, told_parts}
use Rattle.gsl_lower_reads.proofs.OfLawBlocks.{run_lies}
use Rattle.gsl_lower_law_gathered.proofs.Formed.{reset, reset_layer}

-- what is measured of a type
abbrev carrier : {A : Type 0} → Meaning A → Type 0
carrier {A} meaning = A

abbrev Measure : Type 0
Measure = carrier (measuring (λ align. align))

-- ---- the form of a type

abbrev pub form_kind : Ty-F (Value → Bool) → Value → Bool
form_kind Ty-F.Void v = false
form_kind (Ty-F.One s) v = true
form_kind (Ty-F.Vector s n) v = true
form_kind (Ty-F.Array element n) v = has_parts (replicate n element) v
form_kind (Ty-F.Runtime element) v = false
form_kind (Ty-F.Struct number) v = false

abbrev pub form_meaning : Meaning (Value → Bool)
form_meaning = record { kind = form_kind; struct = λ name members. has_parts (tests_of members); none = λ v. false }

-- whether a value has the parts of a type, whatever its scalars and vectors are
abbrev pub has_form : List StructType → Ty → Value → Bool
has_form structs t = over form_meaning (numbered form_meaning structs) t

abbrev AreSmall : List ℕ → Type 0
AreSmall = AllByRecursion (λ byte. byte < 256)

-- What is seen through a layout has words, which tell what is of a type, and fill what has the form of its zeros.
pub record IsFine (worded typed formed : Value → Bool) (told : Value → Value) (z : Value) (leaves : List Leaf) (l : Layout) : Type 0 where
  pub lies : (at : ℕ) (bytes : List ℕ) → AreSmall bytes → worded (value_of (seen l at bytes)) ≡ true
  pub tells : (v : Value) → worded v ≡ true → typed (told v) ≡ true
  pub forms : (v : Value) → reset v ≡ z → formed v ≡ true
  pub fills : Tells formed worded told leaves

-- ---- scalars and vectors

many_of : (ws : List ℕ) → 2 ≤ length ws → of_components ws ≡ Many (map Word ws)
many_of [] many = absurd (let z : 2 ≤ 0 = many in omega (arith, z))
many_of (w ∷ []) many = absurd (let z : 2 ≤ 1 = many in omega (arith, z))
many_of (w ∷ next ∷ ws) many = refl

words_pass : (s : Scalar) (ws : List ℕ) → AreWords s ws → all_pass (replicate (length ws) (is_scalar s)) (map Word ws) ≡ true
words_pass s [] are = refl
words_pass s (w ∷ ws) are = and_from _ _ (scalar_word s w are.0) (words_pass s ws are.1)

of_scalar : (s : Scalar) (v : Value) → IsOf (s, 1) v → is_scalar s v ≡ true
of_scalar s v x = by x.words x.is x.count x.fits
  where
    by : (ws : List ℕ) → v ≡ of_components ws → length ws ≡ 1 → AreWords s ws → is_scalar s v ≡ true
    by [] is count fits = absurd (let z : 0 ≡ 1 = count in omega (arith, z))
    by (w ∷ []) is count fits = ap (is_scalar s) is ∙ scalar_word s w fits.0
    by (w ∷ next ∷ ws) is count fits = absurd (let z : suc (suc (length ws)) ≡ 1 = count in omega (arith, z))

of_vector : (s : Scalar) (n : ℕ) (v : Value) → 2 ≤ n → IsOf (s, n) v → has_parts (replicate n (is_scalar s)) v ≡ true
of_vector s n v many x =
    ap (has_parts (replicate n (is_scalar s))) (x.is ∙ many_of x.words (let count = x.count in omega (arith, count, many)))
    ∙ many_pass (replicate n (is_scalar s)) (map Word x.words) (subst (λ k. all_pass (replicate k (is_scalar s)) (map Word x.words) ≡ true) x.count (words_pass s x.words x.fits))

-- what passes as words is of a shape
scalar_of : (s : Scalar) (v : Value) → is_scalar s v ≡ true → IsOf (s, 1) v
scalar_of s v pass = let x = word_from s v pass in record { words = x.word ∷ []; is = x.is; count = refl; fits = (x.fits, tt) }

vector_of : (s : Scalar) (n : ℕ) (v : Value) → 2 ≤ n → has_parts (replicate n (is_scalar s)) v ≡ true → IsOf (s, n) v
vector_of s n v many pass =
    let x = many_from (replicate n (is_scalar s)) v pass in
    let ws = words_from s n x.parts x.pass in
    record { words = ws.words; is = x.is ∙ ap Many ws.is ∙ sym (many_of ws.words (let count = ws.count in omega (arith, many, count))); count = ws.count; fits = ws.fits }

-- what is told of them are their words, converted
scalar_told : (s other : Scalar) (v : Value) → IsOf (other, 1) v → converted_value s v ≡ told_scalar s v
scalar_told s other v x = by x.words x.is x.count
  where
    by : (ws : List ℕ) → v ≡ of_components ws → length ws ≡ 1 → converted_value s v ≡ told_scalar s v
    by [] is count = absurd (let z : 0 ≡ 1 = count in omega (arith, z))
    by (w ∷ []) is count =
        ap (λ ws. of_components (map (converted s) ws)) (ap components_in is ∙ ap components_layer (outs-Word w)) ∙ ap (λ n. Word (converted s n)) (sym (ap word_in is ∙ ap word_layer (outs-Word w)))
    by (w ∷ next ∷ ws) is count = absurd (let z : suc (suc (length ws)) ≡ 1 = count in omega (arith, z))

map_words : (s : Scalar) (ws : List ℕ) → map (told_scalar s) (map Word ws) ≡ map Word (map (converted s) ws)
map_words s [] = refl
map_words s (w ∷ ws) = ap₂ (λ a l. Word (converted s a) ∷ l) (ap word_layer (outs-Word w)) (map_words s ws)

map_long : (s : Scalar) (ws : List ℕ) → length (map (converted s) ws) ≡ length ws
map_long s [] = refl
map_long s (w ∷ ws) = ap suc (map_long s ws)

vector_told : (s other : Scalar) (n : ℕ) (v : Value) → 2 ≤ n → IsOf (other, n) v → converted_value s v ≡ Many (map (told_scalar s) (parts_in v))
vector_told s other n v many x =
    let long : 2 ≤ length x.words = (let count = x.count in omega (arith, count, many)) in
    ap (λ ws. of_components (map (converted s) ws)) (ap components_in x.is ∙ components_of x.words)
    ∙ many_of (map (converted s) x.words) (let same = map_long s x.words in omega (arith, long, same))
    ∙ ap Many (sym (ap (map (told_scalar s)) (ap parts_in (x.is ∙ many_of x.words long) ∙ ap parts_layer (outs-Many (map Word x.words))) ∙ map_words s x.words))

-- ---- parts in a row

form_parts : (tests : List (Value → Bool)) (zs : List Value) → ((vs : List Value) → map reset vs ≡ zs → all_pass tests vs ≡ true) → (v : Value) → reset v ≡ Many zs → has_parts tests v ≡ true
form_parts tests zs all v is = by (out-Value v) (roll-out-Value v)
  where
    by : (layer : Value-F Value) → roll-Value layer ≡ v → has_parts tests v ≡ true
    by (Value-F.Word word) e =
        let same : Word 0 ≡ Many zs = sym (fold-roll-Value Value reset_layer (Value-F.Word word)) ∙ ap reset e ∙ is in
        absurd (let z : Value-F.Word 0 ≡ Value-F.Many zs = sym (outs-Word 0) ∙ ap out-Value same ∙ outs-Many zs in cc)
    by (Value-F.Many parts) e =
        let same : Many (map reset parts) ≡ Many zs = sym (fold-roll-Value Value reset_layer (Value-F.Many parts)) ∙ ap reset e ∙ is in
        let lists : map reset parts ≡ zs = sym (ap parts_layer (outs-Many (map reset parts))) ∙ ap parts_in same ∙ ap parts_layer (outs-Many zs) in
        ap (has_parts tests) (sym e ∙ rolls-Many parts) ∙ many_pass tests parts (all parts lists)

-- ---- arrays

module _ (worded typed formed : Value → Bool) (told : Value → Value) (z : Value) (leaves : List Leaf) (l : Layout) (fine : IsFine worded typed formed told z leaves l) where
  elements_lie : (stride n at : ℕ) (bytes : List ℕ) → AreSmall bytes → (from k : ℕ) → from + k ≤ n → all_pass (replicate k worded) (map (λ i. value_of (if nat_lt i n then seen l (at + stride * i) bytes else nothing)) (range_with_len from k)) ≡ true
  elements_lie stride n at bytes small from zero few = refl
  elements_lie stride n at bytes small from (suc k) few =
      let less : from < n = omega (arith, few) in
      and_from _ _ (ap (λ tree. worded (value_of tree)) (kept_guard (nat_lt from n) (seen l (at + stride * from) bytes) (lt-ltb from n less)) ∙ fine.lies (at + stride * from) bytes small)
      (elements_lie stride n at bytes small (from + 1) k (omega (arith, few)))

  elements_tell : (n : ℕ) (vs : List Value) → all_pass (replicate n worded) vs ≡ true → all_pass (replicate n typed) (map told vs) ≡ true
  elements_tell zero [] pass = refl
  elements_tell zero (v ∷ vs) pass = absurd (false≢true pass)
  elements_tell (suc n) [] pass = absurd (false≢true pass)
  elements_tell (suc n) (v ∷ vs) pass = let p = and_parts (worded v) (all_pass (replicate n worded) vs) pass in and_from _ _ (fine.tells v p.0) (elements_tell n vs p.1)

  elements_form : (n : ℕ) (vs : List Value) → map reset vs ≡ replicate n z → all_pass (replicate n formed) vs ≡ true
  elements_form zero [] is = refl
  elements_form zero (v ∷ vs) is = absurd cc
  elements_form (suc n) [] is = absurd cc
  elements_form (suc n) (v ∷ vs) is = let head : reset v ≡ z = cc in let tail : map reset vs ≡ replicate n z = cc in and_from _ _ (fine.forms v head) (elements_form n vs tail)

  elements_fill : (n : ℕ) → TellEach (replicate n formed) (replicate n worded) (replicate n told) (replicate n leaves)
  elements_fill zero = tt
  elements_fill (suc n) = (fine.fills, elements_fill n)

  told_elements : (n : ℕ) (vs : List Value) → all_pass (replicate n worded) vs ≡ true → told_each (replicate n told) vs ≡ map told vs
  told_elements zero [] pass = refl
  told_elements zero (v ∷ vs) pass = absurd (false≢true pass)
  told_elements (suc n) [] pass = absurd (false≢true pass)
  told_elements (suc n) (v ∷ vs) pass = ap (λ l. told v ∷ l) (told_elements n vs (and_parts (worded v) (all_pass (replicate n worded) vs) pass).1)

  pub array_fine : (stride n : ℕ) → IsFine (has_parts (replicate n worded)) (has_parts (replicate n typed)) (has_parts (replicate n formed)) (λ v. Many (map told (parts_in v))) (Many (replicate n z)) (rows 0 (replicate n leaves)) (Array stride n l)
  array_fine stride n = record {
    lies = λ at bytes small. many_pass (replicate n worded) _ (elements_lie stride n at bytes small 0 n (omega arith));
    tells = λ v pass. let x = many_from (replicate n worded) v pass in many_pass (replicate n typed) (map told (parts_in v)) (ap (λ vs. all_pass (replicate n typed) (map told vs)) (parts x.parts v x.is) ∙ elements_tell n x.parts x.pass);
    forms = form_parts (replicate n formed) (replicate n z) (elements_form n);
    fills = λ old v pass_old pass. let x = many_from (replicate n worded) v pass in let both = parts_tell (replicate n formed) (replicate n worded) (replicate n told) (replicate n leaves) (elements_fill n) old v pass_old pass in (
      both.0 ∙ ap (λ vs. Many (told_each (replicate n told) vs)) (parts x.parts v x.is) ∙ ap Many (told_elements n x.parts x.pass) ∙ ap (λ vs. Many (map told vs)) (sym (parts x.parts v x.is)),
      both.1,
    );
  }
    where
      parts : (ps : List Value) (v : Value) → v ≡ Many ps → parts_in v ≡ ps
      parts ps v is = ap parts_in is ∙ ap parts_layer (outs-Many ps)

-- ---- types over known structs

module _ (class : ℕ) (block : is_block_class class ≡ true) (structs : List StructType) (raise : ℕ → ℕ) where
  abbrev pub FineType : Ty → Type 0
  FineType t = IsFine (has_words structs t) (is_value_of structs t) (has_form structs t) (told structs t) (zero_value structs t) (leaves_of structs t) (measure raise structs t).laid

  abbrev FineNumber : ℕ → Type 0
  FineNumber number =
      IsFine (numbered words_meaning structs number) (numbered value_meaning structs number) (numbered form_meaning structs number) (numbered told_meaning structs number) (numbered zero_meaning structs number) (numbered leaves_meaning structs number) (numbered (measuring raise) structs number).laid

  abbrev FineLayer : Ty-F Ty → Type 0
  FineLayer x =
      IsFine (layer words_meaning (numbered words_meaning structs) (map-Ty _ _ (has_words structs) x)) (layer value_meaning (numbered value_meaning structs) (map-Ty _ _ (is_value_of structs) x)) (layer form_meaning (numbered form_meaning structs) (map-Ty _ _ (has_form structs) x))
      (layer told_meaning (numbered told_meaning structs) (map-Ty _ _ (told structs) x)) (layer zero_meaning (numbered zero_meaning structs) (map-Ty _ _ (zero_value structs) x)) (layer leaves_meaning (numbered leaves_meaning structs) (map-Ty _ _ (leaves_of structs) x))
      (layer (measuring raise) (numbered (measuring raise) structs) (map-Ty _ _ (measure raise structs) x)).laid

  -- the same of other tests, values and leaves that are these
  fine_so : {w w2 t t2 f f2 : Value → Bool} {g g2 : Value → Value} {z z2 : Value} {ls ls2 : List Leaf} {l l2 : Layout} → w ≡ w2 → t ≡ t2 → f ≡ f2 → g ≡ g2 → z ≡ z2 → ls ≡ ls2 → l ≡ l2 → IsFine w t f g z ls l → IsFine w2 t2 f2 g2 z2 ls2 l2
  fine_so {w} {w2} {t} {t2} {f} {f2} {g} {g2} {z} {z2} {ls} {ls2} {l} {l2} a b c d e h i fine =
      subst (λ x. IsFine w2 t2 f2 g2 z2 ls2 x) i (subst (λ x. IsFine w2 t2 f2 g2 z2 x l) h (subst (λ x. IsFine w2 t2 f2 g2 x ls l) e (subst (λ x. IsFine w2 t2 f2 x z ls l) d (subst (λ x. IsFine w2 t2 x g z ls l) c (subst (λ x. IsFine w2 x f g z ls l) b (subst (λ x. IsFine x t f g z ls l) a fine))))))

  so : (x : Ty-F Ty) → FineLayer x → FineType (roll-Ty x)
  so x fine =
      fine_so (sym (fold-roll-Ty (Value → Bool) (layer words_meaning (numbered words_meaning structs)) x)) (sym (fold-roll-Ty (Value → Bool) (layer value_meaning (numbered value_meaning structs)) x)) (sym (fold-roll-Ty (Value → Bool) (layer form_meaning (numbered form_meaning structs)) x))
      (sym (fold-roll-Ty (Value → Value) (layer told_meaning (numbered told_meaning structs)) x)) (sym (fold-roll-Ty Value (layer zero_meaning (numbered zero_meaning structs)) x)) (sym (fold-roll-Ty (List Leaf) (layer leaves_meaning (numbered leaves_meaning structs)) x))
      (sym (ap (λ (m : Measure). m.laid) (fold-roll-Ty Measure (layer (measuring raise) (numbered (measuring raise) structs)) x))) fine

  sound_of : (count : ℕ) (x : Ty-F Ty) → IsSound count (roll-Ty x) → IsTrue (sound_kind count (map-Ty _ _ (sound count) x))
  sound_of count x is = subst IsTrue (fold-roll-Ty Bool (sound_kind count) x) is

  plain_of : (x : Ty-F Ty) → IsTrue (is_plain (roll-Ty x)) → IsTrue (is_plain_kind (map-Ty _ _ is_plain x))
  plain_of x is = subst IsTrue (fold-roll-Ty Bool is_plain_kind x) is

  stored_is : (shape : Shape) (v : Value) → IsOf (stored_shape class shape) v → IsOf (stored_scalar shape.0, shape.1) v
  stored_is shape v is = subst (λ b. IsOf (if b then (stored_scalar shape.0, shape.1) else shape) v) block is

  stored_back : (shape : Shape) (v : Value) → IsOf (stored_scalar shape.0, shape.1) v → IsOf (stored_shape class shape) v
  stored_back shape v is = subst (λ b. IsOf (if b then (stored_scalar shape.0, shape.1) else shape) v) (sym block) is

  one_fine : (s : Scalar) → FineLayer (Ty-F.One s)
  one_fine s = record {
    lies = λ at bytes small. of_scalar (stored_scalar s) _ (stored_is (s, 1) _ (run_lies class (s, 1) bytes at block small));
    tells = λ v pass. let of = scalar_of (stored_scalar s) v pass in ap (is_scalar s) (sym (scalar_told s (stored_scalar s) v of)) ∙ of_scalar s (converted_value s v) (converted_is class (s, 1) v (stored_back (s, 1) v of));
    forms = λ v is. refl;
    fills = λ old v pass_old pass. (scalar_told s (stored_scalar s) v (scalar_of (stored_scalar s) v pass), (tt, tt));
  }

  vector_fine : (s : Scalar) (n : ℕ) → 2 ≤ n → FineLayer (Ty-F.Vector s n)
  vector_fine s n many = record {
    lies = λ at bytes small. of_vector (stored_scalar s) n _ many (stored_is (s, n) _ (run_lies class (s, n) bytes at block small));
    tells = λ v pass. let of = vector_of (stored_scalar s) n v many pass in ap (has_parts (replicate n (is_scalar s))) (sym (vector_told s (stored_scalar s) n v many of)) ∙ of_vector s n (converted_value s v) many (converted_is class (s, n) v (stored_back (s, n) v of));
    forms = λ v is. refl;
    fills = λ old v pass_old pass. (vector_told s (stored_scalar s) n v many (vector_of (stored_scalar s) n v many pass), (tt, tt));
  }

  module _ (count : ℕ) (known : (number : ℕ) → number < count → FineNumber number) where
    abbrev Is : Ty → Type 0
    Is t = IsSound count t → IsTrue (is_plain t) → FineType t

    by_layer : (y : Ty-F ((t : Ty) × Is t)) → Is (roll-Ty (map-Ty _ _ (λ e. e.0) y))
    by_layer Ty-F.Void is plain = absurd (false≢true (plain_of Ty-F.Void plain))
    by_layer (Ty-F.One s) is plain = so (Ty-F.One s) (one_fine s)
    by_layer (Ty-F.Vector s n) is plain = so (Ty-F.Vector s n) (vector_fine s n (leb-true 2 n (and_parts (nat_le 2 n) (nat_le n 4) (sound_of count (Ty-F.Vector s n) is)).0))
    by_layer (Ty-F.Array e n) is plain =
        let fine = e.1 (and_parts (nat_le 1 n && nat_lt n (2 ^ 32)) (sound count e.0) (sound_of count (Ty-F.Array e.0 n) is)).1 (plain_of (Ty-F.Array e.0 n) plain) in
        so (Ty-F.Array e.0 n)
        (subst (λ ls. IsFine (has_parts (replicate n (has_words structs e.0))) (has_parts (replicate n (is_value_of structs e.0))) (has_parts (replicate n (has_form structs e.0))) (λ v. Many (map (told structs e.0) (parts_in v))) (Many (replicate n (zero_value structs e.0))) ls
        (Array (stride_of raise (measure raise structs e.0)) n (measure raise structs e.0).laid))
        (sym (elements_are (leaves_of structs e.0) 0 n))
        (array_fine (has_words structs e.0) (is_value_of structs e.0) (has_form structs e.0) (told structs e.0) (zero_value structs e.0) (leaves_of structs e.0) (measure raise structs e.0).laid fine (stride_of raise (measure raise structs e.0)) n))
    by_layer (Ty-F.Runtime e) is plain = absurd (false≢true (plain_of (Ty-F.Runtime e.0) plain))
    by_layer (Ty-F.Struct number) is plain = so (Ty-F.Struct number) (known number (ltb-true number count (sound_of count (Ty-F.Struct number) is)))

    pub type_fine : (t : Ty) → Is t
    type_fine = ind-Ty Is (λ x y is. subst (λ z. Is (roll-Ty z)) is (by_layer y))

    -- ---- members

    abbrev AreSound : List Member → Type 0
    AreSound = AllByRecursion (λ (member : Member). IsSound count member.ty)

    abbrev HavePlain : List Member → Type 0
    HavePlain = AllByRecursion (λ (member : Member). IsTrue (is_plain member.ty))

    abbrev measured : List Member → List (List ℕ × Measure)
    measured = members_over (measuring raise) (numbered (measuring raise) structs)

    abbrev worded_by : List Member → List (Value → Bool)
    worded_by members = tests_of (members_over words_meaning (numbered words_meaning structs) members)

    abbrev typed_by : List Member → List (Value → Bool)
    typed_by members = tests_of (members_over value_meaning (numbered value_meaning structs) members)

    abbrev formed_by : List Member → List (Value → Bool)
    formed_by members = tests_of (members_over form_meaning (numbered form_meaning structs) members)

    abbrev told_by : List Member → List (List ℕ × (Value → Value))
    told_by = members_over told_meaning (numbered told_meaning structs)

    abbrev zeros_by : List Member → List Value
    zeros_by members = zeros_of (members_over zero_meaning (numbered zero_meaning structs) members)

    abbrev leaves_by : List Member → List (List ℕ × List Leaf)
    leaves_by = members_over leaves_meaning (numbered leaves_meaning structs)

    members_lie : (members : List Member) → AreSound members → HavePlain members → (before : List Placed) (placings : List Placing) (at : ℕ) (bytes : List ℕ) → AreSmall bytes → (g : ℕ → Value) (from : ℕ)
        → ((i : ℕ) → g (from + i) ≡ value_of (seen_part (parts_behind before (placed placings (measured members))) at bytes i))
        → all_pass (worded_by members) (map g (range_with_len from (part_count (parts_behind before (placed placings (measured members)))))) ≡ true
    members_lie [] sounds plains before placings at bytes small g from same = refl
    members_lie (member ∷ members) sounds plains before placings at bytes small g from same =
        let m : Measure = measure raise structs member.ty in
        let one : Placed = (get_or placings 0 free, m) in
        let rest = parts_behind (one ∷ before) (placed (drop 1 placings) (measured members)) in
        let first : g from ≡ value_of (seen m.laid (at + offset_behind (end_of before) one) bytes) = ap g (let z : from ≡ from + 0 = omega arith in z) ∙ same 0 in
        subst (λ n. all_pass (has_words structs member.ty ∷ worded_by members) (map g (range_with_len from n)) ≡ true) (let z : suc (part_count rest) ≡ part_count rest + 1 = omega arith in z)
        (and_from _ _ (ap (has_words structs member.ty) first ∙ (type_fine member.ty sounds.0 plains.0).lies (at + offset_behind (end_of before) one) bytes small)
        (members_lie members sounds.1 plains.1 (one ∷ before) (drop 1 placings) at bytes small g (from + 1) (λ i. ap g (let z : from + 1 + i ≡ from + suc i = omega arith in z) ∙ same (suc i))))

    members_tell : (members : List Member) → AreSound members → HavePlain members → (vs : List Value) → all_pass (worded_by members) vs ≡ true → all_pass (typed_by members) (each_told (told_by members) vs) ≡ true
    members_tell [] sounds plains [] pass = refl
    members_tell [] sounds plains (v ∷ vs) pass = absurd (false≢true pass)
    members_tell (member ∷ members) sounds plains [] pass = absurd (false≢true pass)
    members_tell (member ∷ members) sounds plains (v ∷ vs) pass =
        let p = and_parts (has_words structs member.ty v) (all_pass (worded_by members) vs) pass in
        and_from _ _ ((type_fine member.ty sounds.0 plains.0).tells v p.0) (members_tell members sounds.1 plains.1 vs p.1)

    members_form : (members : List Member) → AreSound members → HavePlain members → (vs : List Value) → map reset vs ≡ zeros_by members → all_pass (formed_by members) vs ≡ true
    members_form [] sounds plains [] is = refl
    members_form [] sounds plains (v ∷ vs) is = absurd cc
    members_form (member ∷ members) sounds plains [] is = absurd cc
    members_form (member ∷ members) sounds plains (v ∷ vs) is =
        let head : reset v ≡ zero_value structs member.ty = cc in
        let tail : map reset vs ≡ zeros_by members = cc in
        and_from _ _ ((type_fine member.ty sounds.0 plains.0).forms v head) (members_form members sounds.1 plains.1 vs tail)

    abbrev tolds_of : List (List ℕ × (Value → Value)) → List (Value → Value)
    tolds_of members = map (λ (member : List ℕ × (Value → Value)). member.1) members

    members_fill : (members : List Member) → AreSound members → HavePlain members → TellEach (formed_by members) (worded_by members) (tolds_of (told_by members)) (map (λ (member : List ℕ × List Leaf). member.1) (leaves_by members))
    members_fill [] sounds plains = tt
    members_fill (member ∷ members) sounds plains = ((type_fine member.ty sounds.0 plains.0).fills, members_fill members sounds.1 plains.1)

    members_told : (members : List (List ℕ × (Value → Value))) (vs : List Value) → told_each (tolds_of members) vs ≡ each_told members vs
    members_told [] [] = refl
    members_told [] (v ∷ vs) = refl
    members_told (member ∷ members) [] = refl
    members_told (member ∷ members) (v ∷ vs) = ap (λ l. member.1 v ∷ l) (members_told members vs)

    struct_fine : (struct : StructType) → AreSound struct.members → HavePlain struct.members
        → IsFine (struct_over words_meaning (numbered words_meaning structs) struct) (struct_over value_meaning (numbered value_meaning structs) struct) (struct_over form_meaning (numbered form_meaning structs) struct) (struct_over told_meaning (numbered told_meaning structs) struct)
        (struct_over zero_meaning (numbered zero_meaning structs) struct) (struct_over leaves_meaning (numbered leaves_meaning structs) struct) (struct_over (measuring raise) (numbered (measuring raise) structs) struct).laid
    struct_fine struct sounds plains = record {
      lies = λ at bytes small. many_pass (worded_by struct.members) _ (members_lie struct.members sounds plains [] [] at bytes small (λ i. value_of (seen_part (parts_behind [] (placed [] (measured struct.members))) at bytes i)) 0
          (λ i. ap (λ k. value_of (seen_part (parts_behind [] (placed [] (measured struct.members))) at bytes k)) (let z : 0 + i ≡ i = omega arith in z)));
      tells = λ v pass. let x = many_from (worded_by struct.members) v pass in
          many_pass (typed_by struct.members) (each_told (told_by struct.members) (parts_in v)) (ap (λ vs. all_pass (typed_by struct.members) (each_told (told_by struct.members) vs)) (ap parts_in x.is ∙ ap parts_layer (outs-Many x.parts)) ∙ members_tell struct.members sounds plains x.parts x.pass);
      forms = form_parts (formed_by struct.members) (zeros_by struct.members) (members_form struct.members sounds plains);
      fills = λ old v pass_old pass. let one = filling old v pass_old pass in (one.0 ∙ ap Many (members_told (told_by struct.members) (parts_in v)), one.1);
    }
      where
        filling : Tells (has_parts (formed_by struct.members)) (has_parts (worded_by struct.members)) (told_parts (tolds_of (told_by struct.members))) (struct_over leaves_meaning (numbered leaves_meaning structs) struct)
        filling =
            subst (Tells (has_parts (formed_by struct.members)) (has_parts (worded_by struct.members)) (told_parts (tolds_of (told_by struct.members)))) (sym (members_rows 0 (leaves_by struct.members)))
            (parts_tell (formed_by struct.members) (worded_by struct.members) (tolds_of (told_by struct.members)) (map (λ (member : List ℕ × List Leaf). member.1) (leaves_by struct.members)) (members_fill struct.members sounds plains))

  -- ---- structs

  module _ (are : AreStructs structs) (plain : ArePlain structs) where
    number_fine : (number : ℕ) → number < length structs → ((k : ℕ) → k < number → FineNumber k) → FineNumber number
    number_fine number below before =
        let found = slice_found structs number below in
        let struct = found.0 in
        let earlier = (are number struct found.1).earlier in
        fine_so (sym (numbered_is words_meaning structs number struct found.1 earlier)) (sym (numbered_is value_meaning structs number struct found.1 earlier)) (sym (numbered_is form_meaning structs number struct found.1 earlier)) (sym (numbered_is told_meaning structs number struct found.1 earlier))
        (sym (numbered_is zero_meaning structs number struct found.1 earlier)) (sym (numbered_is leaves_meaning structs number struct found.1 earlier)) (sym (ap (λ (m : Measure). m.laid) (numbered_is (measuring raise) structs number struct found.1 earlier)))
        (struct_fine number before struct earlier (plain number struct found.1))

    below_fine : (n number : ℕ) → number < n → number < length structs → FineNumber number
    below_fine zero number low below = absurd (omega (arith, low))
    below_fine (suc n) number low below = number_fine number below (λ k less. below_fine n k (omega (arith, less, low)) (omega (arith, less, below)))

    pub values_fine : (t : Ty) → IsSound (length structs) t → IsTrue (is_plain t) → FineType t
    values_fine = type_fine (length structs) (λ number below. below_fine (length structs) number below below)
