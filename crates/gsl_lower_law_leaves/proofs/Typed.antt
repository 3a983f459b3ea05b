-- Values of a type have its leaves, and are equal where these are.
use Rattle.std.proofs.Common.{◌≡◌, refl, sym, ap, ap₂, ◌∙◌, subst, ℕ, zero, suc, ◌+◌, ◌≤◌, Bool, true, false, ◌&&◌, List, [], ◌∷◌, ◌++◌, length, map, append_assoc, arith, nat_lt, ◌^◌}
use Rattle.std.specs.Prelude.{IsTrue, nat_le, replicate}
use Rattle.std.specs.List.{flat_map, range_with_len}
use Rattle.std.proofs.lemmas.Bool.{and_parts, false≢true, leb-true}
use Rattle.std.proofs.lemmas.List.{get_or_at, length-append}
use Rattle.gsl_types.specs.Known.{IsSound, sound, sound_kind}
use Rattle.gsl_types.specs.Structs.{layer, over}
use Rattle.gsl_types.specs.declared.ty.Scalar.{Scalar}
use Rattle.gsl_types.specs.declared.ty.Ty.{Ty}
use Rattle.gsl_types.specs.declared.ty.Ty.TheFolds.{fold-roll-Ty, ind-Ty, map-Ty}
use Rattle.gsl_types.specs.declared.ty.Ty.TheOpen.{Ty-F}
use Rattle.gsl_types.specs.declared.ty.Ty.TheViews.{roll-Ty}
use Rattle.gsl_values.specs.declared.value.Value.{Value}
use Rattle.gsl_values.specs.declared.value.Value.TheOpen.{Value-F}
use Rattle.gsl_values.specs.declared.value.Value.TheVariants.{Word, Many, rolls-Word, rolls-Many}
use Rattle.gsl_values.specs.declared.value.Value.TheViews.{out-Value, roll-Value, roll-out-Value}
use Rattle.gsl_tree.specs.Operations.{member_value}
use Rattle.gsl_tree.specs.Values.{all_pass, has_parts, has_parts_layer, is_scalar, is_scalar_layer, is_word_of, of_components, same_value, value_meaning}
use Rattle.gsl_compute.proofs.Loops.{member_of_many, same_of_many}
use Rattle.gsl_lower_leaves.specs.Leaves.{element_leaves, leaves_meaning, within}
use Rattle.gsl_lower_leaves.specs.declared.leaf.Leaf.{Leaf}
use Rattle.gsl_lower_law_places.specs.OfLaw.{AreWords}
use Rattle.gsl_lower_law_leaves.specs.Equal.{HasLeaves, leaf_in, same_leaves}

-- What passes a test has these leaves, and two such values are equal where all of them are.
abbrev pub Agree : (Value → Bool) → List Leaf → Type 0
Agree test leaves = (v w : Value) → test v ≡ true → test w ≡ true → HasLeaves v leaves × (same_value v w ≡ same_leaves v w leaves)

-- ---- leaves of parts

has_within : (v : Value) (number : ℕ) (leaves : List Leaf) → HasLeaves (member_value v number) leaves → HasLeaves v (map (within number) leaves)
has_within v number [] has = tt
has_within v number (one ∷ more) has = (has.0, has_within v number more has.1)

same_within : (v w : Value) (number : ℕ) (leaves : List Leaf) → same_leaves v w (map (within number) leaves) ≡ same_leaves (member_value v number) (member_value w number) leaves
same_within v w number [] = refl
same_within v w number (one ∷ more) = ap (λ b. same_value (leaf_in (member_value v number) one) (leaf_in (member_value w number) one) && b) (same_within v w number more)

has_both : (v : Value) (a b : List Leaf) → HasLeaves v a → HasLeaves v b → HasLeaves v (a ++ b)
has_both v [] b first second = second
has_both v (one ∷ a) b first second = (first.0, has_both v a b first.1 second)

associates : (a b c : Bool) → ((a && b) && c) ≡ (a && (b && c))
associates true b c = refl
associates false b c = refl

same_both : (v w : Value) (a b : List Leaf) → same_leaves v w (a ++ b) ≡ (same_leaves v w a && same_leaves v w b)
same_both v w [] b = refl
same_both v w (one ∷ a) b = ap (λ x. same_value (leaf_in v one) (leaf_in w one) && x) (same_both v w a b) ∙ sym (associates (same_value (leaf_in v one) (leaf_in w one)) (same_leaves v w a) (same_leaves v w b))

last_true : (b : Bool) → b ≡ (b && true)
last_true true = refl
last_true false = refl

-- ---- parts in a row

-- the leaves of parts, numbered from one on
abbrev pub rows : ℕ → List (List Leaf) → List Leaf
rows number [] = []
rows number (leaves ∷ more) = map (within number) leaves ++ rows (number + 1) more

abbrev pub AgreeEach : List (Value → Bool) → List (List Leaf) → Type 0
AgreeEach [] [] = Unit {0}
AgreeEach [] (leaves ∷ more) = ⊥
AgreeEach (test ∷ tests) [] = ⊥
AgreeEach (test ∷ tests) (leaves ∷ more) = Agree test leaves × AgreeEach tests more

-- the part behind those in front
pub part_is : (v : Value) (front : List Value) (x : Value) (xs : List Value) (number : ℕ) → v ≡ Many (front ++ x ∷ xs) → length front ≡ number → member_value v number ≡ x
part_is v front x xs number is long = ap (λ u. member_value u number) is ∙ member_of_many (front ++ x ∷ xs) number ∙ get_or_at front x xs (Word 0) number long

rows_agree : (tests : List (Value → Bool)) (all : List (List Leaf)) → AgreeEach tests all → (v w : Value) (front back xs ys : List Value) (number : ℕ) → v ≡ Many (front ++ xs) → w ≡ Many (back ++ ys) → length front ≡ number → length back ≡ number
    → all_pass tests xs ≡ true → all_pass tests ys ≡ true → HasLeaves v (rows number all) × (all_pass (map same_value xs) ys ≡ same_leaves v w (rows number all))
rows_agree [] [] agree v w front back [] [] number is_v is_w first second pass_x pass_y = (tt, refl)
rows_agree [] [] agree v w front back (x ∷ xs) ys number is_v is_w first second pass_x pass_y = absurd (false≢true pass_x)
rows_agree [] [] agree v w front back [] (y ∷ ys) number is_v is_w first second pass_x pass_y = absurd (false≢true pass_y)
rows_agree [] (leaves ∷ all) agree v w front back xs ys number is_v is_w first second pass_x pass_y = absurd agree
rows_agree (test ∷ tests) [] agree v w front back xs ys number is_v is_w first second pass_x pass_y = absurd agree
rows_agree (test ∷ tests) (leaves ∷ all) agree v w front back [] ys number is_v is_w first second pass_x pass_y = absurd (false≢true pass_x)
rows_agree (test ∷ tests) (leaves ∷ all) agree v w front back (x ∷ xs) [] number is_v is_w first second pass_x pass_y = absurd (false≢true pass_y)
rows_agree (test ∷ tests) (leaves ∷ all) agree v w front back (x ∷ xs) (y ∷ ys) number is_v is_w first second pass_x pass_y =
    let p = and_parts (test x) (all_pass tests xs) pass_x in
    let q = and_parts (test y) (all_pass tests ys) pass_y in
    let here = agree.0 x y p.0 q.0 in
    let part_v = part_is v front x xs number is_v first in
    let part_w = part_is w back y ys number is_w second in
    let later = rows_agree tests all agree.1 v w (front ++ x ∷ []) (back ++ y ∷ []) xs ys (number + 1) (is_v ∙ ap Many (sym (append_assoc front (x ∷ []) xs))) (is_w ∙ ap Many (sym (append_assoc back (y ∷ []) ys)))
    (length-append front (x ∷ []) ∙ ap (λ n. n + 1) first) (length-append back (y ∷ []) ∙ ap (λ n. n + 1) second) p.1 q.1 in (
      has_both v (map (within number) leaves) (rows (number + 1) all) (has_within v number leaves (subst (λ u. HasLeaves u leaves) (sym part_v) here.0)) later.0,
      ap₂ (λ a b. a && b) (here.1 ∙ ap₂ (λ a b. same_leaves a b leaves) (sym part_v) (sym part_w) ∙ sym (same_within v w number leaves)) later.1
          ∙ sym (same_both v w (map (within number) leaves) (rows (number + 1) all)),
    )

-- ---- values by what they pass

pub record IsMany (tests : List (Value → Bool)) (v : Value) : Type 0 where
  pub parts : List Value
  pub is : v ≡ Many parts
  pub pass : all_pass tests parts ≡ true

pub many_from : (tests : List (Value → Bool)) (v : Value) → has_parts tests v ≡ true → IsMany tests v
many_from tests v = by (out-Value v) (roll-out-Value v)
  where
    by : (l : Value-F Value) → roll-Value l ≡ v → has_parts_layer tests l ≡ true → IsMany tests v
    by (Value-F.Word word) e pass = absurd (false≢true pass)
    by (Value-F.Many parts) e pass = record { parts = parts; is = sym e ∙ rolls-Many parts; pass = pass }

pub record IsWord (s : Scalar) (v : Value) : Type 0 where
  pub word : ℕ
  pub is : v ≡ Word word
  pub fits : is_word_of s word ≡ true

pub word_from : (s : Scalar) (v : Value) → is_scalar s v ≡ true → IsWord s v
word_from s v = by (out-Value v) (roll-out-Value v)
  where
    by : (l : Value-F Value) → roll-Value l ≡ v → is_scalar_layer s l ≡ true → IsWord s v
    by (Value-F.Word word) e pass = record { word = word; is = sym e ∙ rolls-Word word; fits = pass }
    by (Value-F.Many parts) e pass = absurd (false≢true pass)

pub parts_agree : (tests : List (Value → Bool)) (all : List (List Leaf)) → AgreeEach tests all → Agree (has_parts tests) (rows 0 all)
parts_agree tests all agree v w pass_v pass_w =
    let x = many_from tests v pass_v in
    let y = many_from tests w pass_w in
    let both = rows_agree tests all agree v w [] [] x.parts y.parts 0 x.is y.is refl refl x.pass y.pass in
    (both.0, sym (same_of_many x.parts y.parts v w x.is y.is) ∙ both.1)

-- ---- scalars and vectors

one_agrees : (s : Scalar) → Agree (is_scalar s) (record { path = []; shape = (s, 1) } ∷ [])
one_agrees s v w pass_v pass_w =
    let x = word_from s v pass_v in
    (((omega arith, record { words = x.word ∷ []; is = x.is; count = refl; fits = (x.fits, tt) }), tt), last_true (same_value v w))

pub record AreOf (s : Scalar) (n : ℕ) (parts : List Value) : Type 0 where
  pub words : List ℕ
  pub is : parts ≡ map Word words
  pub count : length words ≡ n
  pub fits : AreWords s words

pub words_from : (s : Scalar) (n : ℕ) (parts : List Value) → all_pass (replicate n (is_scalar s)) parts ≡ true → AreOf s n parts
words_from s zero [] pass = record { words = []; is = refl; count = refl; fits = tt }
words_from s zero (x ∷ parts) pass = absurd (false≢true pass)
words_from s (suc n) [] pass = absurd (false≢true pass)
words_from s (suc n) (x ∷ parts) pass =
    let p = and_parts (is_scalar s x) (all_pass (replicate n (is_scalar s)) parts) pass in
    let one = word_from s x p.0 in
    let more = words_from s n parts p.1 in
    record { words = one.word ∷ more.words; is = ap₂ (λ a b. a ∷ b) one.is more.is; count = ap suc more.count; fits = (one.fits, more.fits) }

vector_agrees : (s : Scalar) (n : ℕ) → 2 ≤ n → Agree (has_parts (replicate n (is_scalar s))) (record { path = []; shape = (s, n) } ∷ [])
vector_agrees s n many v w pass_v pass_w =
    let x = many_from (replicate n (is_scalar s)) v pass_v in
    let words = words_from s n x.parts x.pass in
    (((omega (arith, many), record { words = words.words; is = x.is ∙ ap Many words.is ∙ sym (many_of words.words (omega (arith, many, words.count))); count = words.count; fits = words.fits }), tt), last_true (same_value v w))
  where
    many_of : (ws : List ℕ) → 2 ≤ length ws → of_components ws ≡ Many (map Word ws)
    many_of [] many = absurd (let z : 2 ≤ 0 = many in omega (arith, z))
    many_of (w ∷ []) many = absurd (let z : 2 ≤ 1 = many in omega (arith, z))
    many_of (w ∷ next ∷ ws) many = refl

-- ---- arrays

pub elements_are : (element : List Leaf) (a n : ℕ) → flat_map (element_leaves element) (range_with_len a n) ≡ rows a (replicate n element)
elements_are element a zero = refl
elements_are element a (suc n) = ap (λ l. map (within a) element ++ l) (elements_are element (a + 1) n)

each_agrees : (test : Value → Bool) (leaves : List Leaf) → Agree test leaves → (n : ℕ) → AgreeEach (replicate n test) (replicate n leaves)
each_agrees test leaves agree zero = tt
each_agrees test leaves agree (suc n) = (agree, each_agrees test leaves agree n)

-- ---- types over known structs

module _ (values : ℕ → Value → Bool) (leaves : ℕ → List Leaf) (known : (number : ℕ) → Agree (values number) (leaves number)) (count : ℕ) where
  abbrev Fits : Ty → Type 0
  Fits t = IsSound count t → Agree (over value_meaning values t) (over leaves_meaning leaves t)

  value_of : (x : Ty-F Ty) → over value_meaning values (roll-Ty x) ≡ layer value_meaning values (map-Ty _ _ (over value_meaning values) x)
  value_of x = fold-roll-Ty (Value → Bool) (layer value_meaning values) x

  leaves_at : (x : Ty-F Ty) → over leaves_meaning leaves (roll-Ty x) ≡ layer leaves_meaning leaves (map-Ty _ _ (over leaves_meaning leaves) x)
  leaves_at x = fold-roll-Ty (List Leaf) (layer leaves_meaning leaves) x

  sound_of : (x : Ty-F Ty) → IsSound count (roll-Ty x) → IsTrue (sound_kind count (map-Ty _ _ (sound count) x))
  sound_of x is = subst IsTrue (fold-roll-Ty Bool (sound_kind count) x) is

  so : (x : Ty-F Ty) → Agree (layer value_meaning values (map-Ty _ _ (over value_meaning values) x)) (layer leaves_meaning leaves (map-Ty _ _ (over leaves_meaning leaves) x)) → Agree (over value_meaning values (roll-Ty x)) (over leaves_meaning leaves (roll-Ty x))
  so x agree = subst (λ test. Agree test (over leaves_meaning leaves (roll-Ty x))) (sym (value_of x)) (subst (Agree (layer value_meaning values (map-Ty _ _ (over value_meaning values) x))) (sym (leaves_at x)) agree)

  by_layer : (y : Ty-F ((t : Ty) × Fits t)) → Fits (roll-Ty (map-Ty _ _ (λ e. e.0) y))
  by_layer Ty-F.Void is = so Ty-F.Void (λ v w pass_v pass_w. absurd (false≢true pass_v))
  by_layer (Ty-F.One s) is = so (Ty-F.One s) (one_agrees s)
  by_layer (Ty-F.Vector s n) is = so (Ty-F.Vector s n) (vector_agrees s n (leb-true 2 n (and_parts (nat_le 2 n) (nat_le n 4) (sound_of (Ty-F.Vector s n) is)).0))
  by_layer (Ty-F.Array e n) is =
      so (Ty-F.Array e.0 n) (subst (Agree (has_parts (replicate n (over value_meaning values e.0)))) (sym (elements_are (over leaves_meaning leaves e.0) 0 n))
      (parts_agree (replicate n (over value_meaning values e.0)) (replicate n (over leaves_meaning leaves e.0)) (each_agrees (over value_meaning values e.0) (over leaves_meaning leaves e.0) (e.1 (and_parts (nat_le 1 n && nat_lt n (2 ^ 32)) (sound count e.0) (sound_of (Ty-F.Array e.0 n) is)).1) n)))
  by_layer (Ty-F.Runtime e) is = so (Ty-F.Runtime e.0) (λ v w pass_v pass_w. absurd (false≢true pass_v))
  by_layer (Ty-F.Struct number) is = so (Ty-F.Struct number) (known number)

  pub type_agrees : (t : Ty) → Fits t
  type_agrees = ind-Ty Fits (λ x y is. subst (λ z. Fits (roll-Ty z)) is (by_layer y))
