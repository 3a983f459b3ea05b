-- Lists of structs with one more, and their heights.
use Rattle.std.proofs.Common.{◌≡◌, refl, sym, ap, subst, ◌∙◌, ℕ, ◌+◌, ◌<◌, inl, inr, List, [], ◌∷◌, ◌++◌, length, slice_get, slice_index_or, Some, get_or, min, take, arith, length-append}
use Rattle.std.proofs.lemmas.Bool.{cases_lt}
use Rattle.std.proofs.lemmas.List.{get_or_append_left, get_or_push, get_or_past}
use Rattle.gsl_types.specs.declared.ty.Ty.TheVariants as ty
use Rattle.gsl_types.specs.declared.ty.StructType.{StructType}
use Rattle.gsl_types.specs.declared.ty.Member.{Member}
use Rattle.gsl_types.specs.Known.{AreStructs, IsStruct}
use Rattle.gsl_types.specs.Leaves.{leaves_together, counting, most_leaves}
use Rattle.gsl_types.specs.Structs.{Meaning, struct_over, table_from, numbered, members_meaning}
use Rattle.gsl_types.proofs.Layers.{over_struct}
use Rattle.gsl_types.proofs.Structs.{numbered_is, members_agree}
use Rattle.gsl_types.proofs.Longer.{numbered_push}
use Rattle.gsl_layout.specs.Extents.{ArePlain}
use Rattle.gsl_layout.proofs.PlainStructs.{AllPlain, longer as still_plain}
use Rattle.gsl_tree.specs.Weights.{height_of, height_meaning, highest}
use Rattle.gsl_makers.specs.Heights.{AreHeights}
use Rattle.gsl_check_decl.specs.Structs.{struct_of, leaves_together_told, height_over}

-- a table of meanings has one for each struct
table_length : {A : Type 0} (m : Meaning A) (structs : List StructType) (before : List A) → length (table_from m before structs) ≡ length before + length structs
table_length m [] before = omega arith
table_length m (struct ∷ structs) before =
    let next = struct_over m (λ number. get_or before number m.none) struct in
    omega (arith, table_length m structs (before ++ next ∷ []), length-append before (next ∷ []))

module _ (structs : List StructType) (s : StructType) (known : AreStructs (structs ++ s ∷ [])) (found : slice_get (structs ++ s ∷ []) (length structs) ≡ Some s) where
  abbrev longer : List StructType
  longer = structs ++ s ∷ []

  abbrev last : IsStruct longer (length structs) s
  last = known (length structs) s found

  -- the last struct has the meaning that its members give, behind those before it
  module _ {A : Type 0} (m : Meaning A) where
    pub last_is : numbered m longer (length structs) ≡ struct_over m (numbered m structs) s
    last_is = numbered_is m longer (length structs) s found last.earlier
        ∙ ap (m.struct s.name) (sym (members_agree m (length structs) (numbered m structs) (numbered m longer) (numbered_push m structs s) s.members last.earlier))

  -- the last struct tells the leaves of its members together
  pub last_leaves : s.leaves ≡ min (leaves_together (members_meaning counting structs s.members)) most_leaves
  last_leaves = last.told ∙ ap (λ n. min n most_leaves) (over_struct counting (numbered counting longer) (length structs) ∙ last_is counting)

  module _ (heights : List ℕ) (count : length heights ≡ length structs) (are : (k : ℕ) → slice_index_or heights k 0 ≡ height_of structs (ty.Struct k)) where
    abbrev height : ℕ
    height = 1 + highest (members_meaning height_meaning structs s.members)

    abbrev At : ℕ → Type 0
    At k = slice_index_or (heights ++ height ∷ []) k 0 ≡ height_of longer (ty.Struct k)

    before : (k : ℕ) → k < length structs → At k
    before k below = get_or_append_left heights (height ∷ []) 0 k (omega (arith, count, below)) ∙ are k ∙ over_struct height_meaning (numbered height_meaning structs) k
        ∙ numbered_push height_meaning structs s k below ∙ sym (over_struct height_meaning (numbered height_meaning longer) k)

    at_end : At (length structs)
    at_end = get_or_push heights height 0 (length structs) count ∙ sym (last_is height_meaning) ∙ sym (over_struct height_meaning (numbered height_meaning longer) (length structs))

    behind : (k : ℕ) → length structs < k → At k
    behind k above = get_or_past (heights ++ height ∷ []) k 0 (omega (arith, length-append heights (height ∷ []), count, above))
        ∙ sym (get_or_past (table_from height_meaning [] longer) k 0 (omega (arith, table_length height_meaning longer [], length-append structs (s ∷ []), above)))
        ∙ sym (over_struct height_meaning (numbered height_meaning longer) k)

    -- the heights of the structs, with that of the last one behind them
    pub longer_heights : (k : ℕ) → At k
    longer_heights k = elim (cases_lt k (length structs)) as (λ _. At k) [
      | inl below ↦ before k below
      | inr above ↦ elim (cases_lt (length structs) k) as (λ _. At k) [
        | inl past ↦ behind k past
        | inr within ↦ subst At (let e : length structs ≡ k = omega (arith, above, within) in e) at_end
      ]
    ]

-- what was put at the end of a list stands there
pub found_last : {X : Type 0} (xs : List X) (y : X) → slice_get (xs ++ y ∷ []) (length xs) ≡ Some y
found_last [] y = refl
found_last (x ∷ xs) y = found_last xs y

-- the next struct, by its name and its members
pub next_is : (structs : List StructType) (s : StructType) (name : List ℕ) (members : List Member) → s.name ≡ name → s.members ≡ members → AreStructs (structs ++ s ∷ [])
    → s ≡ struct_of structs name members
next_is structs s name members named has known =
    let told : s.leaves ≡ leaves_together_told structs s.members = last_leaves structs s known (found_last structs s) in
    ap (λ (leaves : ℕ). record { name = s.name; members = s.members; leaves = leaves }) told
    ∙ ap (λ (n : List ℕ). record { name = n; members = s.members; leaves = leaves_together_told structs s.members }) named
    ∙ ap (λ (ms : List Member). record { name = name; members = ms; leaves = leaves_together_told structs ms }) has

-- the heights of structs, with that of the next one
pub heights_behind : (structs : List StructType) (s : StructType) (heights : List ℕ) (h : ℕ) → AreStructs (structs ++ s ∷ []) → length heights ≡ length structs → AreHeights structs heights
    → h ≡ height_over structs s.members → AreHeights (structs ++ s ∷ []) (heights ++ h ∷ [])
heights_behind structs s heights h known count are is k =
    subst (λ n. slice_index_or (heights ++ n ∷ []) k 0 ≡ height_of (structs ++ s ∷ []) (ty.Struct k)) (sym is)
    (longer_heights structs s known (found_last structs s) heights count are k)

-- ---- what is kept of structs and their heights

abbrev pub AreKept : List StructType → List ℕ → Type 0
AreKept structs heights = AreStructs structs × ArePlain structs × AreHeights structs heights × (length heights ≡ length structs)

-- behind one more of each
pub kept_behind : (structs : List StructType) (s : StructType) (heights : List ℕ) (h : ℕ) (more : List StructType) (higher : List ℕ) → AreKept structs heights
    → AreStructs (structs ++ s ∷ []) → AllPlain s → h ≡ height_over structs s.members → more ≡ structs ++ s ∷ [] → higher ≡ heights ++ h ∷ [] → AreKept more higher
kept_behind structs s heights h more higher kept known plain is longer_is higher_is =
    let count : length (heights ++ h ∷ []) ≡ length (structs ++ s ∷ []) = omega (arith, length-append heights (h ∷ []), length-append structs (s ∷ []), kept.3) in
    subst (λ (m : List StructType). AreKept m higher) (sym longer_is)
    (subst (λ (l : List ℕ). AreKept (structs ++ s ∷ []) l) (sym higher_is)
    (known, still_plain structs s kept.1 plain, heights_behind structs s heights h known kept.3 kept.2 is, count))

front_of : {X : Type 0} (xs : List X) (y : X) → take (length xs) (xs ++ y ∷ []) ≡ xs
front_of [] y = refl
front_of (x ∷ xs) y = ap (λ l. x ∷ l) (front_of xs y)

-- where one more height is taken back
pub kept_back : (structs : List StructType) (heights : List ℕ) (h : ℕ) (same : List StructType) (higher back : List ℕ) (count : ℕ) → AreKept structs heights
    → same ≡ structs → higher ≡ heights ++ h ∷ [] → count ≡ length heights → back ≡ take count higher → AreKept same back
kept_back structs heights h same higher back count kept same_is higher_is count_is back_is =
    let back_to : back ≡ heights = back_is ∙ ap (λ l. take count l) higher_is ∙ ap (λ n. take n (heights ++ h ∷ [])) count_is ∙ front_of heights h in
    subst (λ (m : List StructType). AreKept m back) (sym same_is) (subst (λ (l : List ℕ). AreKept structs l) (sym back_to) kept)
