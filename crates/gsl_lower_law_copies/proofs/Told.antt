-- A value that is filled with the leaves of another is what the words of that tell.
use Rattle.std.proofs.Common.{◌≡◌, refl, sym, ap, ap₂, ◌∙◌, subst, ℕ, zero, suc, ◌+◌, ◌≤◌, Bool, true, List, [], ◌∷◌, ◌++◌, length, map, set, get_or, Some, append_assoc, arith, nat_lt, ◌^◌, ◌&&◌}
use Rattle.std.specs.Prelude.{IsTrue, nat_le, replicate, slice_get}
use Rattle.std.proofs.lemmas.Bool.{and_parts, false≢true, leb-true}
use Rattle.std.proofs.lemmas.List.{length-append}
use Rattle.std.proofs.lemmas.Option.{get_or_from_slice_get, slice_get_within}
use Rattle.gsl_types.specs.Known.{IsSound, sound, sound_kind}
use Rattle.gsl_types.specs.Structs.{layer, over}
use Rattle.gsl_types.specs.declared.ty.Scalar.{Scalar}
use Rattle.gsl_types.specs.declared.ty.Ty.{Ty}
use Rattle.gsl_types.specs.declared.ty.Ty.TheFolds.{fold-roll-Ty, ind-Ty, map-Ty}
use Rattle.gsl_types.specs.declared.ty.Ty.TheOpen.{Ty-F}
use Rattle.gsl_types.specs.declared.ty.Ty.TheViews.{roll-Ty}
use Rattle.gsl_values.specs.declared.value.Value.{Value}
use Rattle.gsl_values.specs.declared.value.Value.TheVariants.{Word, Many, outs-Many, outs-Word}
use Rattle.gsl_tree.specs.Operations.{converted, member_value}
use Rattle.gsl_tree.specs.Values.{all_pass, components_in, components_layer, has_parts, is_scalar, of_components, parts_in, parts_layer, value_meaning, word_in, word_layer}
use Rattle.gsl_meaning.specs.Accesses.{told_meaning, told_scalar}
use Rattle.gsl_lower_places.specs.Reached.{stored_scalar}
use Rattle.gsl_lower_leaves.specs.Leaves.{leaves_meaning, within}
use Rattle.gsl_lower_leaves.specs.declared.leaf.Leaf.{Leaf}
use Rattle.gsl_lower_law.proofs.Components.{components_of}
use Rattle.gsl_lower_law_leaves.proofs.Typed.{elements_are, many_from, part_is, rows, word_from, words_from}
use Rattle.gsl_lower_law_places.proofs.Reading.{mapped_length}
use Rattle.gsl_lower_law_places.proofs.Variables.{parts_are}
use Rattle.gsl_lower_law_picks.specs.Outside.{HasPart}
use Rattle.gsl_lower_law_copies.specs.Copying.{Fits, filled, numbers_of, with_leaf}
use Rattle.gsl_lower_law_copies.specs.Worded.{words_meaning}
use Rattle.gsl_lower_law_places.proofs.Lists.{get_put, put_same, put_twice}

-- What passes a test is filled with the leaves of what has words, and is then what those tell.
abbrev pub Tells : (Value → Bool) → (Value → Bool) → (Value → Value) → List Leaf → Type 0
Tells typed worded told leaves = (old v : Value) → typed old ≡ true → worded v ≡ true → (filled old v leaves ≡ told v) × Fits old v leaves

-- ---- one part

parts_of : (olds : List Value) → parts_in (Many olds) ≡ olds
parts_of olds = ap parts_layer (outs-Many olds)

member_of : (olds : List Value) (k : ℕ) (x : Value) → slice_get olds k ≡ Some x → member_value (Many olds) k ≡ x
member_of olds k x at = ap (λ l. get_or l k (Word 0)) (parts_of olds) ∙ get_or_from_slice_get olds k x (Word 0) at

-- one leaf of a part
with_within : (olds : List Value) (v : Value) (k : ℕ) (x : Value) (one : Leaf) → slice_get olds k ≡ Some x → with_leaf (Many olds) v (within k one) ≡ Many (set olds k (with_leaf x (member_value v k) one))
with_within olds v k x one at = ap₂ (λ parts old. Many (set parts k (with_leaf old (member_value v k) one))) (parts_of olds) (member_of olds k x at)

filled_within : (leaves : List Leaf) (olds : List Value) (v : Value) (k : ℕ) (x : Value) → slice_get olds k ≡ Some x → filled (Many olds) v (map (within k) leaves) ≡ Many (set olds k (filled x (member_value v k) leaves))
filled_within [] olds v k x at = ap Many (sym (put_same olds k x at))
filled_within (one ∷ more) olds v k x at =
    ap (λ old. filled old v (map (within k) more)) (with_within olds v k x one at)
    ∙ filled_within more (set olds k (with_leaf x (member_value v k) one)) v k (with_leaf x (member_value v k) one) (get_put olds k x (with_leaf x (member_value v k) one) at)
    ∙ ap Many (put_twice olds k (with_leaf x (member_value v k) one) (filled x (member_value v k) (one ∷ more)))

fits_within : (leaves : List Leaf) (olds : List Value) (v : Value) (k : ℕ) (x : Value) → slice_get olds k ≡ Some x → Fits x (member_value v k) leaves → Fits (Many olds) v (map (within k) leaves)
fits_within [] olds v k x at fits = tt
fits_within (one ∷ more) olds v k x at fits = (
  (omega (arith, slice_get_within olds k x at, ap length (parts_of olds)), subst (λ old. HasPart old (numbers_of one)) (sym (member_of olds k x at)) fits.0),
  subst (λ old. Fits old v (map (within k) more)) (sym (with_within olds v k x one at))
      (fits_within more (set olds k (with_leaf x (member_value v k) one)) v k (with_leaf x (member_value v k) one) (get_put olds k x (with_leaf x (member_value v k) one) at) fits.1),
)

-- ---- leaves behind others

filled_both : (old v : Value) (a b : List Leaf) → filled old v (a ++ b) ≡ filled (filled old v a) v b
filled_both old v [] b = refl
filled_both old v (one ∷ a) b = filled_both (with_leaf old v one) v a b

fits_both : (old v : Value) (a b : List Leaf) → Fits old v a → Fits (filled old v a) v b → Fits old v (a ++ b)
fits_both old v [] b first second = second
fits_both old v (one ∷ a) b first second = (first.0, fits_both (with_leaf old v one) v a b first.1 second)

-- ---- parts in a row

abbrev pub told_each : List (Value → Value) → List Value → List Value
told_each (told ∷ tolds) (v ∷ vs) = told v ∷ told_each tolds vs
told_each _ _ = []

abbrev pub TellEach : List (Value → Bool) → List (Value → Bool) → List (Value → Value) → List (List Leaf) → Type 0
TellEach [] [] [] [] = Unit {0}
TellEach (typed ∷ ts) (worded ∷ ws) (told ∷ tolds) (leaves ∷ all) = Tells typed worded told leaves × TellEach ts ws tolds all
TellEach _ _ _ _ = ⊥

at_front : (front : List Value) (x : Value) (xs : List Value) (k : ℕ) → length front ≡ k → slice_get (front ++ x ∷ xs) k ≡ Some x
at_front [] x xs zero long = refl
at_front [] x xs (suc k) long = absurd (let z : 0 ≡ suc k = long in omega (arith, z))
at_front (y ∷ front) x xs zero long = absurd (let z : suc (length front) ≡ 0 = long in omega (arith, z))
at_front (y ∷ front) x xs (suc k) long = at_front front x xs k (let z : suc (length front) ≡ suc k = long in omega (arith, z))

put_front : (front : List Value) (x y : Value) (xs : List Value) (k : ℕ) → length front ≡ k → set (front ++ x ∷ xs) k y ≡ front ++ y ∷ xs
put_front [] x y xs zero long = refl
put_front [] x y xs (suc k) long = absurd (let z : 0 ≡ suc k = long in omega (arith, z))
put_front (a ∷ front) x y xs zero long = absurd (let z : suc (length front) ≡ 0 = long in omega (arith, z))
put_front (a ∷ front) x y xs (suc k) long = ap (λ l. a ∷ l) (put_front front x y xs k (let z : suc (length front) ≡ suc k = long in omega (arith, z)))

rows_tell : (ts ws : List (Value → Bool)) (tolds : List (Value → Value)) (all : List (List Leaf)) → TellEach ts ws tolds all → (v : Value) (front xs behind vs : List Value) (number : ℕ) → v ≡ Many (behind ++ vs) → length front ≡ number → length behind ≡ number
    → all_pass ts xs ≡ true → all_pass ws vs ≡ true → (filled (Many (front ++ xs)) v (rows number all) ≡ Many (front ++ told_each tolds vs)) × Fits (Many (front ++ xs)) v (rows number all)
rows_tell [] [] [] [] tell v front [] behind [] number is first second pass_x pass_v = (refl, tt)
rows_tell [] [] [] [] tell v front (x ∷ xs) behind vs number is first second pass_x pass_v = absurd (false≢true pass_x)
rows_tell [] [] [] [] tell v front [] behind (u ∷ vs) number is first second pass_x pass_v = absurd (false≢true pass_v)
rows_tell [] [] [] (l ∷ all) tell v front xs behind vs number is first second pass_x pass_v = absurd tell
rows_tell [] [] (told ∷ tolds) all tell v front xs behind vs number is first second pass_x pass_v = absurd tell
rows_tell [] (w ∷ ws) tolds all tell v front xs behind vs number is first second pass_x pass_v = absurd tell
rows_tell (t ∷ ts) [] tolds all tell v front xs behind vs number is first second pass_x pass_v = absurd tell
rows_tell (t ∷ ts) (w ∷ ws) [] all tell v front xs behind vs number is first second pass_x pass_v = absurd tell
rows_tell (t ∷ ts) (w ∷ ws) (told ∷ tolds) [] tell v front xs behind vs number is first second pass_x pass_v = absurd tell
rows_tell (t ∷ ts) (w ∷ ws) (told ∷ tolds) (l ∷ all) tell v front [] behind vs number is first second pass_x pass_v = absurd (false≢true pass_x)
rows_tell (t ∷ ts) (w ∷ ws) (told ∷ tolds) (l ∷ all) tell v front (x ∷ xs) behind [] number is first second pass_x pass_v = absurd (false≢true pass_v)
rows_tell (t ∷ ts) (w ∷ ws) (told ∷ tolds) (l ∷ all) tell v front (x ∷ xs) behind (u ∷ vs) number is first second pass_x pass_v =
    let p = and_parts (t x) (all_pass ts xs) pass_x in
    let q = and_parts (w u) (all_pass ws vs) pass_v in
    let here = tell.0 x u p.0 q.0 in
    let part : member_value v number ≡ u = part_is v behind u vs number is second in
    let at = at_front front x xs number first in
    let done : filled (Many (front ++ x ∷ xs)) v (map (within number) l) ≡ Many ((front ++ told u ∷ []) ++ xs) =
    filled_within l (front ++ x ∷ xs) v number x at ∙ ap (λ y. Many (set (front ++ x ∷ xs) number y)) (ap (λ m. filled x m l) part ∙ here.0) ∙ ap Many (put_front front x (told u) xs number first ∙ sym (append_assoc front (told u ∷ []) xs)) in
    let later = rows_tell ts ws tolds all tell.1 v (front ++ told u ∷ []) xs (behind ++ u ∷ []) vs (number + 1) (is ∙ ap Many (sym (append_assoc behind (u ∷ []) vs)))
    (length-append front (told u ∷ []) ∙ ap (λ n. n + 1) first) (length-append behind (u ∷ []) ∙ ap (λ n. n + 1) second) p.1 q.1 in (
      filled_both (Many (front ++ x ∷ xs)) v (map (within number) l) (rows (number + 1) all) ∙ ap (λ old. filled old v (rows (number + 1) all)) done ∙ later.0 ∙ ap Many (append_assoc front (told u ∷ []) (told_each tolds vs)),
      fits_both (Many (front ++ x ∷ xs)) v (map (within number) l) (rows (number + 1) all) (fits_within l (front ++ x ∷ xs) v number x at (subst (λ m. Fits x m l) (sym part) here.1))
          (subst (λ old. Fits old v (rows (number + 1) all)) (sym done) later.1),
    )

-- what tells each part of a value
abbrev pub told_parts : List (Value → Value) → Value → Value
told_parts tolds v = Many (told_each tolds (parts_in v))

pub parts_tell : (ts ws : List (Value → Bool)) (tolds : List (Value → Value)) (all : List (List Leaf)) → TellEach ts ws tolds all → Tells (has_parts ts) (has_parts ws) (told_parts tolds) (rows 0 all)
parts_tell ts ws tolds all tell old v pass_old pass_v =
    let x = many_from ts old pass_old in
    let y = many_from ws v pass_v in
    let both = rows_tell ts ws tolds all tell v [] x.parts [] y.parts 0 y.is refl refl x.pass y.pass in (
      ap (λ old. filled old v (rows 0 all)) x.is ∙ both.0 ∙ ap (λ ps. Many (told_each tolds ps)) (sym (ap parts_in y.is ∙ parts_of y.parts)),
      subst (λ old. Fits old v (rows 0 all)) (sym x.is) both.1,
    )

-- ---- scalars and vectors

one_tells : (s : Scalar) (typed : Value → Bool) → Tells typed (is_scalar (stored_scalar s)) (told_scalar s) (record { path = []; shape = (s, 1) } ∷ [])
one_tells s typed old v pass_old pass_v =
    let w = word_from (stored_scalar s) v pass_v in (
      ap (λ ws. of_components (map (converted s) ws)) (ap components_in w.is ∙ ap components_layer (outs-Word w.word)) ∙ ap (λ n. Word (converted s n)) (sym (ap word_in w.is ∙ ap word_layer (outs-Word w.word))),
      (tt, tt),
    )

vector_tells : (s : Scalar) (n : ℕ) (typed : Value → Bool) → 2 ≤ n → Tells typed (has_parts (replicate n (is_scalar (stored_scalar s)))) (λ v. Many (map (told_scalar s) (parts_in v))) (record { path = []; shape = (s, n) } ∷ [])
vector_tells s n typed many old v pass_old pass_v =
    let x = many_from (replicate n (is_scalar (stored_scalar s))) v pass_v in
    let ws = words_from (stored_scalar s) n x.parts x.pass in
    let is : v ≡ of_components ws.words = x.is ∙ ap Many ws.is ∙ sym (many_of ws.words (omega (arith, many, ws.count))) in (
      ap (λ l. of_components (map (converted s) l)) (ap components_in is ∙ components_of ws.words)
          ∙ many_of (map (converted s) ws.words) (omega (arith, many, ws.count, mapped_length (converted s) ws.words))
          ∙ ap Many (sym (ap (map (told_scalar s)) (ap parts_in is ∙ parts_are ws.words (omega (arith, many, ws.count))) ∙ told_words ws.words)),
      (tt, tt),
    )
  where
    many_of : (ws : List ℕ) → 2 ≤ length ws → of_components ws ≡ Many (map Word ws)
    many_of [] many = absurd (let z : 2 ≤ 0 = many in omega (arith, z))
    many_of (w ∷ []) many = absurd (let z : 2 ≤ 1 = many in omega (arith, z))
    many_of (w ∷ next ∷ ws) many = refl

    told_words : (ws : List ℕ) → map (told_scalar s) (map Word ws) ≡ map Word (map (converted s) ws)
    told_words [] = refl
    told_words (w ∷ ws) = ap₂ (λ a l. Word (converted s a) ∷ l) (ap word_layer (outs-Word w)) (told_words ws)

-- ---- arrays

each_tells : (typed worded : Value → Bool) (told : Value → Value) (leaves : List Leaf) → Tells typed worded told leaves → (n : ℕ) → TellEach (replicate n typed) (replicate n worded) (replicate n told) (replicate n leaves)
each_tells typed worded told leaves tells zero = tt
each_tells typed worded told leaves tells (suc n) = (tells, each_tells typed worded told leaves tells n)

told_elements : (n : ℕ) (worded : Value → Bool) (told : Value → Value) (vs : List Value) → all_pass (replicate n worded) vs ≡ true → told_each (replicate n told) vs ≡ map told vs
told_elements zero worded told [] pass = refl
told_elements zero worded told (v ∷ vs) pass = absurd (false≢true pass)
told_elements (suc n) worded told [] pass = absurd (false≢true pass)
told_elements (suc n) worded told (v ∷ vs) pass = ap (λ l. told v ∷ l) (told_elements n worded told vs (and_parts (worded v) (all_pass (replicate n worded) vs) pass).1)

elements_told : (n : ℕ) (worded : Value → Bool) (told : Value → Value) (v : Value) → has_parts (replicate n worded) v ≡ true → told_parts (replicate n told) v ≡ Many (map told (parts_in v))
elements_told n worded told v pass =
    let x = many_from (replicate n worded) v pass in
    let parts : parts_in v ≡ x.parts = ap parts_in x.is ∙ parts_of x.parts in
    ap (λ ps. Many (told_each (replicate n told) ps)) parts ∙ ap Many (told_elements n worded told x.parts x.pass) ∙ ap (λ ps. Many (map told ps)) (sym parts)

array_tells : (typed worded : Value → Bool) (told : Value → Value) (leaves : List Leaf) (n : ℕ) → Tells typed worded told leaves → Tells (has_parts (replicate n typed)) (has_parts (replicate n worded)) (λ v. Many (map told (parts_in v))) (rows 0 (replicate n leaves))
array_tells typed worded told leaves n tells old v pass_old pass_v =
    let both = parts_tell (replicate n typed) (replicate n worded) (replicate n told) (replicate n leaves) (each_tells typed worded told leaves tells n) old v pass_old pass_v in
    (both.0 ∙ elements_told n worded told v pass_v, both.1)

-- ---- types over known structs

module _ (typed worded : ℕ → Value → Bool) (told : ℕ → Value → Value) (leaves : ℕ → List Leaf) (known : (number : ℕ) → Tells (typed number) (worded number) (told number) (leaves number)) (count : ℕ) where
  abbrev TellsType : Ty → Type 0
  TellsType t = IsSound count t → Tells (over value_meaning typed t) (over words_meaning worded t) (over told_meaning told t) (over leaves_meaning leaves t)

  sound_of : (x : Ty-F Ty) → IsSound count (roll-Ty x) → IsTrue (sound_kind count (map-Ty _ _ (sound count) x))
  sound_of x is = subst IsTrue (fold-roll-Ty Bool (sound_kind count) x) is

  so : (x : Ty-F Ty)
      → Tells (layer value_meaning typed (map-Ty _ _ (over value_meaning typed) x)) (layer words_meaning worded (map-Ty _ _ (over words_meaning worded) x)) (layer told_meaning told (map-Ty _ _ (over told_meaning told) x)) (layer leaves_meaning leaves (map-Ty _ _ (over leaves_meaning leaves) x))
      → Tells (over value_meaning typed (roll-Ty x)) (over words_meaning worded (roll-Ty x)) (over told_meaning told (roll-Ty x)) (over leaves_meaning leaves (roll-Ty x))
  so x tells =
      subst (λ test. Tells test (over words_meaning worded (roll-Ty x)) (over told_meaning told (roll-Ty x)) (over leaves_meaning leaves (roll-Ty x))) (sym (fold-roll-Ty (Value → Bool) (layer value_meaning typed) x))
      (subst (λ test. Tells (layer value_meaning typed (map-Ty _ _ (over value_meaning typed) x)) test (over told_meaning told (roll-Ty x)) (over leaves_meaning leaves (roll-Ty x))) (sym (fold-roll-Ty (Value → Bool) (layer words_meaning worded) x))
      (subst (λ f. Tells (layer value_meaning typed (map-Ty _ _ (over value_meaning typed) x)) (layer words_meaning worded (map-Ty _ _ (over words_meaning worded) x)) f (over leaves_meaning leaves (roll-Ty x))) (sym (fold-roll-Ty (Value → Value) (layer told_meaning told) x))
      (subst (Tells (layer value_meaning typed (map-Ty _ _ (over value_meaning typed) x)) (layer words_meaning worded (map-Ty _ _ (over words_meaning worded) x)) (layer told_meaning told (map-Ty _ _ (over told_meaning told) x))) (sym (fold-roll-Ty (List Leaf) (layer leaves_meaning leaves) x)) tells)))

  by_layer : (y : Ty-F ((t : Ty) × TellsType t)) → TellsType (roll-Ty (map-Ty _ _ (λ e. e.0) y))
  by_layer Ty-F.Void is = so Ty-F.Void (λ old v pass_old pass_v. absurd (false≢true pass_old))
  by_layer (Ty-F.One s) is = so (Ty-F.One s) (one_tells s (is_scalar s))
  by_layer (Ty-F.Vector s n) is = so (Ty-F.Vector s n) (vector_tells s n (has_parts (replicate n (is_scalar s))) (leb-true 2 n (and_parts (nat_le 2 n) (nat_le n 4) (sound_of (Ty-F.Vector s n) is)).0))
  by_layer (Ty-F.Array e n) is =
      so (Ty-F.Array e.0 n) (subst (Tells (has_parts (replicate n (over value_meaning typed e.0))) (has_parts (replicate n (over words_meaning worded e.0))) (λ v. Many (map (over told_meaning told e.0) (parts_in v)))) (sym (elements_are (over leaves_meaning leaves e.0) 0 n))
      (array_tells (over value_meaning typed e.0) (over words_meaning worded e.0) (over told_meaning told e.0) (over leaves_meaning leaves e.0) n (e.1 (and_parts (nat_le 1 n && nat_lt n (2 ^ 32)) (sound count e.0) (sound_of (Ty-F.Array e.0 n) is)).1)))
  by_layer (Ty-F.Runtime e) is = so (Ty-F.Runtime e.0) (λ old v pass_old pass_v. absurd (false≢true pass_old))
  by_layer (Ty-F.Struct number) is = so (Ty-F.Struct number) (known number)

  pub type_tells : (t : Ty) → TellsType t
  type_tells = ind-Ty TellsType (λ x y is. subst (λ z. TellsType (roll-Ty z)) is (by_layer y))
