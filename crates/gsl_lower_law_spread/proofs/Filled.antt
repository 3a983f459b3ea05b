-- What lies by the layout of a type and is filled with the leaves of a value of that type is that value.
use Rattle.std.proofs.Common.{◌≡◌, refl, sym, ap, ap₂, ◌∙◌, subst, ℕ, zero, suc, ◌+◌, ◌*◌, ◌^◌, ◌<◌, ◌≤◌, Bool, true, ◌&&◌, if◌then◌else◌, List, [], ◌∷◌, ◌++◌, length, map, set, get_or, append_assoc, arith, nat_lt}
use Rattle.std.specs.Prelude.{IsTrue, drop, nat_le, replicate}
use Rattle.std.specs.List.{range_with_len}
use Rattle.std.proofs.lemmas.Bool.{and_parts, false≢true, leb-true, lt-ltb}
use Rattle.std.proofs.lemmas.List.{length-append}
use Rattle.gsl_layout.specs.Kinds.{part_count}
use Rattle.gsl_layout.specs.Layout.{Array, Group, Layout}
use Rattle.gsl_layout.specs.Measures.{measuring, stride_of}
use Rattle.gsl_layout.specs.Placings.{Placed, end_of, free, offset_behind, parts_behind, placed}
use Rattle.gsl_layout.specs.declared.placing.Placing.{Placing}
use Rattle.gsl_types.specs.Known.{IsSound, sound, sound_kind}
use Rattle.gsl_types.specs.Structs.{Meaning, layer, over}
use Rattle.gsl_types.specs.declared.ty.Scalar.{Scalar}
use Rattle.gsl_types.specs.declared.ty.Ty.{Ty}
use Rattle.gsl_types.specs.declared.ty.Ty.TheFolds.{fold-roll-Ty, ind-Ty, map-Ty}
use Rattle.gsl_types.specs.declared.ty.Ty.TheOpen.{Ty-F}
use Rattle.gsl_types.specs.declared.ty.Ty.TheViews.{roll-Ty}
use Rattle.gsl_values.specs.declared.value.Value.{Value}
use Rattle.gsl_values.specs.declared.value.Value.TheVariants.{Word, Many}
use Rattle.gsl_tree.specs.Operations.{converted, member_value, with_value_at}
use Rattle.gsl_tree.specs.Shapes.{Shape}
use Rattle.gsl_tree.specs.Values.{all_pass, components_in, has_parts, is_scalar, of_components, tests_of, value_meaning}
use Rattle.gsl_views.specs.Seen.{nothing, seen, seen_part}
use Rattle.gsl_views.proofs.Changes.{kept_guard}
use Rattle.gsl_meaning.specs.Blocks.{value_of}
use Rattle.gsl_lower_places.specs.Reached.{is_block_class, stored_shape}
use Rattle.gsl_lower_leaves.specs.Leaves.{leaves_meaning, within}
use Rattle.gsl_lower_leaves.specs.declared.leaf.Leaf.{Leaf}
use Rattle.gsl_lower_law.specs.Operands.{converted_value}
use Rattle.gsl_lower_law.specs.Values.{IsOf}
use Rattle.gsl_lower_law.proofs.Components.{components_of}
use Rattle.gsl_lower_law_leaves.specs.Equal.{leaf_in}
use Rattle.gsl_lower_law_leaves.proofs.Typed.{elements_are, many_from, part_is, rows, word_from, words_from}
use Rattle.gsl_lower_law_places.proofs.Again.{parts_of}
use Rattle.gsl_lower_law_copies.specs.Copying.{numbers_of}
use Rattle.gsl_lower_law_blocks.specs.Placing.{with_leaves}
use Rattle.gsl_lower_law_written.proofs.Words.{lying_value}

-- what is measured of a type
abbrev carrier : {A : Type 0} → Meaning A → Type 0
carrier {A} meaning = A

abbrev pub Measure : Type 0
Measure = carrier (measuring (λ align. align))

put_front : (front : List Value) (x y : Value) (xs : List Value) (k : ℕ) → length front ≡ k → set (front ++ x ∷ xs) k y ≡ front ++ y ∷ xs
put_front [] x y xs zero long = refl
put_front [] x y xs (suc k) long = absurd (let z : 0 ≡ suc k = long in omega (arith, z))
put_front (a ∷ front) x y xs zero long = absurd (let z : suc (length front) ≡ 0 = long in omega (arith, z))
put_front (a ∷ front) x y xs (suc k) long = ap (λ l. a ∷ l) (put_front front x y xs k (let z : suc (length front) ≡ suc k = long in omega (arith, z)))

module _ (class : ℕ) (block : is_block_class class ≡ true) where
  -- A value that is filled with the leaves of one which passes a test is that one.
  abbrev pub Fills : Value → (Value → Bool) → List Leaf → Type 0
  Fills old typed leaves = (v : Value) → typed v ≡ true → with_leaves class old v leaves ≡ v

  -- So is what is seen through a layout.
  abbrev pub Lays : Layout → (Value → Bool) → List Leaf → Type 0
  Lays l typed leaves = (at : ℕ) (bytes : List ℕ) → Fills (value_of (seen l at bytes)) typed leaves

  -- ---- one part

  abbrev with_one : Value → Value → Leaf → Value
  with_one old v one = with_value_at old (numbers_of one) (converted_value (stored_shape class one.shape).0 (leaf_in v one))

  one_within : (front xs : List Value) (x v : Value) (k : ℕ) (one : Leaf) → length front ≡ k → with_one (Many (front ++ x ∷ xs)) v (within k one) ≡ Many (front ++ with_one x (member_value v k) one ∷ xs)
  one_within front xs x v k one long =
      ap₂ (λ parts old. Many (set parts k (with_one old (member_value v k) one))) (parts_of (front ++ x ∷ xs)) (part_is (Many (front ++ x ∷ xs)) front x xs k refl long)
      ∙ ap Many (put_front front x (with_one x (member_value v k) one) xs k long)

  all_within : (leaves : List Leaf) (front xs : List Value) (x v : Value) (k : ℕ) → length front ≡ k → with_leaves class (Many (front ++ x ∷ xs)) v (map (within k) leaves) ≡ Many (front ++ with_leaves class x (member_value v k) leaves ∷ xs)
  all_within [] front xs x v k long = refl
  all_within (one ∷ more) front xs x v k long =
      ap (λ old. with_leaves class old v (map (within k) more)) (one_within front xs x v k one long) ∙ all_within more front xs (with_one x (member_value v k) one) v k long

  with_both : (old v : Value) (a b : List Leaf) → with_leaves class old v (a ++ b) ≡ with_leaves class (with_leaves class old v a) v b
  with_both old v [] b = refl
  with_both old v (one ∷ a) b = with_both (with_one old v one) v a b

  -- ---- parts in a row

  abbrev pub FillEach : List Value → List (Value → Bool) → List (List Leaf) → Type 0
  FillEach [] [] [] = Unit {0}
  FillEach (old ∷ olds) (typed ∷ ts) (leaves ∷ all) = Fills old typed leaves × FillEach olds ts all
  FillEach _ _ _ = ⊥

  rows_fill : (olds : List Value) (ts : List (Value → Bool)) (all : List (List Leaf)) → FillEach olds ts all → (v : Value) (front vs : List Value) (number : ℕ) → v ≡ Many (front ++ vs) → length front ≡ number → all_pass ts vs ≡ true
      → with_leaves class (Many (front ++ olds)) v (rows number all) ≡ Many (front ++ vs)
  rows_fill [] [] [] fill v front [] number is long pass = refl
  rows_fill [] [] [] fill v front (u ∷ vs) number is long pass = absurd (false≢true pass)
  rows_fill [] [] (l ∷ all) fill v front vs number is long pass = absurd fill
  rows_fill [] (t ∷ ts) all fill v front vs number is long pass = absurd fill
  rows_fill (old ∷ olds) [] all fill v front vs number is long pass = absurd fill
  rows_fill (old ∷ olds) (t ∷ ts) [] fill v front vs number is long pass = absurd fill
  rows_fill (old ∷ olds) (t ∷ ts) (l ∷ all) fill v front [] number is long pass = absurd (false≢true pass)
  rows_fill (old ∷ olds) (t ∷ ts) (l ∷ all) fill v front (u ∷ vs) number is long pass =
      let p = and_parts (t u) (all_pass ts vs) pass in
      let part : member_value v number ≡ u = part_is v front u vs number is long in
      let done : with_leaves class (Many (front ++ old ∷ olds)) v (map (within number) l) ≡ Many ((front ++ u ∷ []) ++ olds) =
      all_within l front olds old v number long ∙ ap (λ y. Many (front ++ y ∷ olds)) (ap (λ m. with_leaves class old m l) part ∙ fill.0 u p.0) ∙ ap Many (sym (append_assoc front (u ∷ []) olds)) in
      with_both (Many (front ++ old ∷ olds)) v (map (within number) l) (rows (number + 1) all)
      ∙ ap (λ old. with_leaves class old v (rows (number + 1) all)) done
      ∙ rows_fill olds ts all fill.1 v (front ++ u ∷ []) vs (number + 1) (is ∙ ap Many (sym (append_assoc front (u ∷ []) vs))) (length-append front (u ∷ []) ∙ ap (λ n. n + 1) long) p.1
      ∙ ap Many (append_assoc front (u ∷ []) vs)

  parts_fill : (olds : List Value) (ts : List (Value → Bool)) (all : List (List Leaf)) → FillEach olds ts all → Fills (Many olds) (has_parts ts) (rows 0 all)
  parts_fill olds ts all fill v pass = let x = many_from ts v pass in rows_fill olds ts all fill v [] x.parts 0 x.is refl x.pass ∙ sym x.is

  -- ---- scalars and vectors

  -- as it lies in a block, a value has its own words
  shape_fills : (shape : Shape) (old v : Value) → IsOf shape v → with_leaves class old v (record { path = []; shape = shape } ∷ []) ≡ v
  shape_fills shape old v of =
      sym (ap of_components (components_of (map (converted (stored_shape class shape).0) (components_in v)))) ∙ lying_value class block shape v of

  one_fills : (s : Scalar) (old : Value) → Fills old (is_scalar s) (record { path = []; shape = (s, 1) } ∷ [])
  one_fills s old v pass = let x = word_from s v pass in shape_fills (s, 1) old v (record { words = x.word ∷ []; is = x.is; count = refl; fits = (x.fits, tt) })

  vector_fills : (s : Scalar) (n : ℕ) → 2 ≤ n → (old : Value) → Fills old (has_parts (replicate n (is_scalar s))) (record { path = []; shape = (s, n) } ∷ [])
  vector_fills s n many old v pass =
      let x = many_from (replicate n (is_scalar s)) v pass in
      let words = words_from s n x.parts x.pass in
      shape_fills (s, n) old v (record { words = words.words; is = x.is ∙ ap Many words.is ∙ sym (many_of words.words (omega (arith, many, words.count))); count = words.count; fits = words.fits })
    where
      many_of : (ws : List ℕ) → 2 ≤ length ws → of_components ws ≡ Many (map Word ws)
      many_of [] many = absurd (let z : 2 ≤ 0 = many in omega (arith, z))
      many_of (w ∷ []) many = absurd (let z : 2 ≤ 1 = many in omega (arith, z))
      many_of (w ∷ next ∷ ws) many = refl

  -- ---- arrays

  elements_fill : (stride n : ℕ) (e : Layout) (typed : Value → Bool) (leaves : List Leaf) → Lays e typed leaves → (at : ℕ) (bytes : List ℕ) (from k : ℕ) → from + k ≤ n
      → FillEach (map (λ i. value_of (if nat_lt i n then seen e (at + stride * i) bytes else nothing)) (range_with_len from k)) (replicate k typed) (replicate k leaves)
  elements_fill stride n e typed leaves lays at bytes from zero few = tt
  elements_fill stride n e typed leaves lays at bytes from (suc k) few =
      let less : from < n = omega (arith, few) in (
        subst (λ tree. Fills (value_of tree) typed leaves) (sym (kept_guard (nat_lt from n) (seen e (at + stride * from) bytes) (lt-ltb from n less))) (lays (at + stride * from) bytes),
        elements_fill stride n e typed leaves lays at bytes (from + 1) k (omega (arith, few)),
      )

  array_lays : (stride n : ℕ) (e : Layout) (typed : Value → Bool) (leaves : List Leaf) → Lays e typed leaves → Lays (Array stride n e) (has_parts (replicate n typed)) (rows 0 (replicate n leaves))
  array_lays stride n e typed leaves lays at bytes =
      parts_fill (map (λ i. value_of (if nat_lt i n then seen e (at + stride * i) bytes else nothing)) (range_with_len 0 n)) (replicate n typed) (replicate n leaves) (elements_fill stride n e typed leaves lays at bytes 0 n (omega arith))

  -- ---- members

  abbrev pub MembersLay : List (List ℕ × Measure) → List (List ℕ × (Value → Bool)) → List (List ℕ × List Leaf) → Type 0
  MembersLay [] [] [] = Unit {0}
  MembersLay (m ∷ ms) (t ∷ ts) (l ∷ ls) = Lays m.1.laid t.1 l.1 × MembersLay ms ts ls
  MembersLay _ _ _ = ⊥

  members_fill : (before : List Placed) (placings : List Placing) (ms : List (List ℕ × Measure)) (ts : List (List ℕ × (Value → Bool))) (ls : List (List ℕ × List Leaf)) → MembersLay ms ts ls → (at : ℕ) (bytes : List ℕ) (g : ℕ → Value) (from : ℕ)
      → ((i : ℕ) → g (from + i) ≡ value_of (seen_part (parts_behind before (placed placings ms)) at bytes i))
      → FillEach (map g (range_with_len from (part_count (parts_behind before (placed placings ms))))) (tests_of ts) (map (λ (member : List ℕ × List Leaf). member.1) ls)
  members_fill before placings [] [] [] lay at bytes g from same = tt
  members_fill before placings [] [] (l ∷ ls) lay at bytes g from same = absurd lay
  members_fill before placings [] (t ∷ ts) ls lay at bytes g from same = absurd lay
  members_fill before placings (m ∷ ms) [] ls lay at bytes g from same = absurd lay
  members_fill before placings (m ∷ ms) (t ∷ ts) [] lay at bytes g from same = absurd lay
  members_fill before placings (m ∷ ms) (t ∷ ts) (l ∷ ls) lay at bytes g from same =
      let one : Placed = (get_or placings 0 free, m.1) in
      let rest = parts_behind (one ∷ before) (placed (drop 1 placings) ms) in
      let first : g from ≡ value_of (seen m.1.laid (at + offset_behind (end_of before) one) bytes) = ap g (let z : from ≡ from + 0 = omega arith in z) ∙ same 0 in
      subst (λ n. FillEach (map g (range_with_len from n)) (t.1 ∷ tests_of ts) (l.1 ∷ map (λ (member : List ℕ × List Leaf). member.1) ls)) (let z : suc (part_count rest) ≡ part_count rest + 1 = omega arith in z) (
        subst (λ x. Fills x t.1 l.1) (sym first) (lay.0 (at + offset_behind (end_of before) one) bytes),
        members_fill (one ∷ before) (drop 1 placings) ms ts ls lay.1 at bytes g (from + 1) (λ i. ap g (let z : from + 1 + i ≡ from + suc i = omega arith in z) ∙ same (suc i)),
      )

  pub group_lays : (placings : List Placing) (ms : List (List ℕ × Measure)) (ts : List (List ℕ × (Value → Bool))) (ls : List (List ℕ × List Leaf)) (all : ℕ) → MembersLay ms ts ls
      → Lays (Group (parts_behind [] (placed placings ms)) all) (has_parts (tests_of ts)) (rows 0 (map (λ (member : List ℕ × List Leaf). member.1) ls))
  group_lays placings ms ts ls all lay at bytes =
      let parts = parts_behind [] (placed placings ms) in
      parts_fill (map (λ i. value_of (seen_part parts at bytes i)) (range_with_len 0 (part_count parts))) (tests_of ts) (map (λ (member : List ℕ × List Leaf). member.1) ls)
      (members_fill [] placings ms ts ls lay at bytes (λ i. value_of (seen_part parts at bytes i)) 0 (λ i. ap (λ k. value_of (seen_part parts at bytes k)) (let z : 0 + i ≡ i = omega arith in z)))

  -- ---- types over known structs

  module _ (raise : ℕ → ℕ) (measures : ℕ → Measure) (values : ℕ → Value → Bool) (leaves : ℕ → List Leaf) (known : (number : ℕ) → Lays (measures number).laid (values number) (leaves number)) (count : ℕ) where
    abbrev TypeLays : Ty → Type 0
    TypeLays t = IsSound count t → Lays (over (measuring raise) measures t).laid (over value_meaning values t) (over leaves_meaning leaves t)

    sound_of : (x : Ty-F Ty) → IsSound count (roll-Ty x) → IsTrue (sound_kind count (map-Ty _ _ (sound count) x))
    sound_of x is = subst IsTrue (fold-roll-Ty Bool (sound_kind count) x) is

    so : (x : Ty-F Ty) → Lays (layer (measuring raise) measures (map-Ty _ _ (over (measuring raise) measures) x)).laid (layer value_meaning values (map-Ty _ _ (over value_meaning values) x)) (layer leaves_meaning leaves (map-Ty _ _ (over leaves_meaning leaves) x))
        → Lays (over (measuring raise) measures (roll-Ty x)).laid (over value_meaning values (roll-Ty x)) (over leaves_meaning leaves (roll-Ty x))
    so x lays =
        subst (λ (m : Measure). Lays m.laid (over value_meaning values (roll-Ty x)) (over leaves_meaning leaves (roll-Ty x))) (sym (fold-roll-Ty Measure (layer (measuring raise) measures) x))
        (subst (λ test. Lays (layer (measuring raise) measures (map-Ty _ _ (over (measuring raise) measures) x)).laid test (over leaves_meaning leaves (roll-Ty x))) (sym (fold-roll-Ty (Value → Bool) (layer value_meaning values) x))
        (subst (Lays (layer (measuring raise) measures (map-Ty _ _ (over (measuring raise) measures) x)).laid (layer value_meaning values (map-Ty _ _ (over value_meaning values) x))) (sym (fold-roll-Ty (List Leaf) (layer leaves_meaning leaves) x)) lays))

    by_layer : (y : Ty-F ((t : Ty) × TypeLays t)) → TypeLays (roll-Ty (map-Ty _ _ (λ e. e.0) y))
    by_layer Ty-F.Void is = so Ty-F.Void (λ at bytes v pass. absurd (false≢true pass))
    by_layer (Ty-F.One s) is = so (Ty-F.One s) (λ at bytes. one_fills s (value_of (seen (layer (measuring raise) measures (Ty-F.One s)).laid at bytes)))
    by_layer (Ty-F.Vector s n) is =
        so (Ty-F.Vector s n) (λ at bytes. vector_fills s n (leb-true 2 n (and_parts (nat_le 2 n) (nat_le n 4) (sound_of (Ty-F.Vector s n) is)).0) (value_of (seen (layer (measuring raise) measures (Ty-F.Vector s n)).laid at bytes)))
    by_layer (Ty-F.Array e n) is =
        let stride = stride_of raise (over (measuring raise) measures e.0) in
        so (Ty-F.Array e.0 n) (subst (Lays (Array stride n (over (measuring raise) measures e.0).laid) (has_parts (replicate n (over value_meaning values e.0)))) (sym (elements_are (over leaves_meaning leaves e.0) 0 n))
        (array_lays stride n (over (measuring raise) measures e.0).laid (over value_meaning values e.0) (over leaves_meaning leaves e.0) (e.1 (and_parts (nat_le 1 n && nat_lt n (2 ^ 32)) (sound count e.0) (sound_of (Ty-F.Array e.0 n) is)).1)))
    by_layer (Ty-F.Runtime e) is = so (Ty-F.Runtime e.0) (λ at bytes v pass. absurd (false≢true pass))
    by_layer (Ty-F.Struct number) is = so (Ty-F.Struct number) (known number)

    pub type_lays : (t : Ty) → TypeLays t
    type_lays = ind-Ty TypeLays (λ x y is. subst (λ z. TypeLays (roll-Ty z)) is (by_layer y))
