-- The numbers that the lines of a manifest give are in the ranges of their types.
use Rattle.std.proofs.Common.{◌≡◌, arith, refl, sym, subst, ℕ, suc, ◌+◌, ◌-◌, ◌^◌, ◌<◌, ◌≤◌, Bool, true, false, cond, List, [], ◌∷◌, ◌++◌, length, map, Option, Some, None}
use Rattle.std.proofs.Math.Nat.{mod-lt, one-le-pow}
use Rattle.std.specs.Prelude.{fold, ⊤}
use Rattle.std.specs.List.{AllByRecursion}
use Rattle.std.specs.Option.{unwrap_or}
use Rattle.gsl_base.specs.Ranges.{AreThreeWords, AreWords, FitsLocated, FitsTypes}
use Rattle.gsl_base.specs.declared.input.Located.{Located}
use Rattle.gsl_manifest.specs.declared.meaning.Meaning.{Meaning}
use Rattle.gsl_manifest.specs.declared.meaning.Meaning.TheVariants.{Nothing, Buffer, Push, In, Group, Local, Groups, Vertex, Instance, Choice, Steps}
use Rattle.gsl_manifest.specs.declared.manifest.BufferLine.{BufferLine}
use Rattle.gsl_manifest.specs.declared.manifest.Manifest.{Manifest}
use Rattle.gsl_manifest.specs.Manifests.{AreManifest, all, buffer_in, choices_in, first, gather, group_in, groups_in, in_order, instance_in, is_lower, local_in, manifest_of, place, values_in, vertex_in}
use Rattle.gsl_manifest.specs.Meanings.{meaning_of}
use Rattle.gsl_manifest.specs.Spelling.{Spells, WritesUnsigned, WritesWord, WritesWords}

-- ---- what a line gives

-- the numbers of a line are words
abbrev pub Fits : Meaning → Type 0
Fits Nothing = ⊤
Fits (Buffer set binding path) = (set < 2 ^ 32) × (binding < 2 ^ 32)
Fits (Push path) = ⊤
Fits (In location words) = (location < 2 ^ 32) × AreWords words
Fits (Group ids) = AreThreeWords ids
Fits (Local ids) = AreThreeWords ids
Fits (Groups ids) = AreThreeWords ids
Fits (Vertex id) = id < 2 ^ 32
Fits (Instance id) = id < 2 ^ 32
Fits (Choice words) = AreWords words
Fits (Steps n) = ⊤

unsigned_small : (field : List ℕ) (n : ℕ) → WritesUnsigned field n → n < 2 ^ 32
unsigned_small _ _ (WritesUnsigned.decimal_digits n small) = small
unsigned_small _ _ (WritesUnsigned.hexadecimal digits some all small) = small

word_small : (field : List ℕ) (n : ℕ) → WritesWord field n → n < 2 ^ 32
word_small _ _ (WritesWord.unsigned {field} {n} is) = unsigned_small field n is
word_small _ _ (WritesWord.negative n most) = mod-lt (2 ^ 32 - n) (one-le-pow 32 2 (omega arith))

words_small : (rest ns : List ℕ) → WritesWords rest ns → AreWords ns
words_small _ _ WritesWords.none = tt
words_small _ _ (WritesWords.more {gap} {field} {rest} {n} {ns} is_gap is more) = (word_small field n is, words_small rest ns more)

line_fits : (line : List ℕ) (says : Meaning) → Spells line says → Fits says
line_fits _ _ Spells.empty = tt
line_fits _ _ (Spells.comment text is) = tt
line_fits _ _ (Spells.buffer {a} {b} {c} {first} {second} {path} {set} {binding} x set_is y binding_is z path_is) = (unsigned_small first set set_is, unsigned_small second binding binding_is)
line_fits _ _ (Spells.push x path_is) = tt
line_fits _ _ (Spells.values {a} {first} {rest} {words} {location} x is words_are some most) = (unsigned_small first location is, words_small rest words words_are)
line_fits _ _ (Spells.group {rest} {ids} are three) = (three, words_small rest ids are)
line_fits _ _ (Spells.local {rest} {ids} are three) = (three, words_small rest ids are)
line_fits _ _ (Spells.groups {rest} {ids} are three) = (three, words_small rest ids are)
line_fits _ _ (Spells.vertex {rest} {id} are) = (words_small rest (id ∷ []) are).0
line_fits _ _ (Spells.instance {rest} {id} are) = (words_small rest (id ∷ []) are).0
line_fits _ _ (Spells.choice {rest} {words} are some) = words_small rest words are
line_fits _ _ (Spells.steps x is most) = tt

-- ---- what all lines give

all_more : {A : Type 0} (P : A → Type 0) (xs ys : List A) → AllByRecursion P xs → AllByRecursion P ys → AllByRecursion P (xs ++ ys)
all_more P [] ys front more = more
all_more P (x ∷ xs) ys front more = (front.0, all_more P xs ys front.1 more)

gathered : {A : Type 0} (P : A → Type 0) (give : ℕ → Meaning → List A) → ((n : ℕ) (says : Meaning) → Fits says → AllByRecursion P (give n says)) → (n : ℕ) (says : List Meaning) → AllByRecursion Fits says → AllByRecursion P (gather give n says)
gathered P give one n [] fit = tt
gathered P give one n (says ∷ more) fit = all_more P (give n says) (gather give (n + 1) more) (one n says fit.0) (gathered P give one (n + 1) more fit.1)

the_first : {A : Type 0} (P : A → Type 0) (xs : List A) (other : A) → AllByRecursion P xs → P other → P (unwrap_or (first xs) other)
the_first P [] other fit is = is
the_first P (x ∷ xs) other fit is = fit.0

module _ {A : Type 0} (before : A → A → Bool) (P : A → Type 0) where
  pub all_place : (x : A) (ys : List A) → P x → AllByRecursion P ys → AllByRecursion P (place before x ys)
  all_place x [] here fit = (here, tt)
  all_place x (y ∷ ys) here fit =
      elim (before x y) as (λ t. AllByRecursion P (cond t (x ∷ y ∷ ys) (y ∷ place before x ys))) [ true ↦ (here, fit) | false ↦ (fit.0, all_place x ys here fit.1) ]

  all_onto : (acc xs : List A) → AllByRecursion P acc → AllByRecursion P xs → AllByRecursion P (fold (λ placed x. place before x placed) acc xs)
  all_onto acc [] front fit = front
  all_onto acc (x ∷ xs) front fit = all_onto (place before x acc) xs (all_place x acc fit.0 front) fit.1

  all_order : (xs : List A) → AllByRecursion P xs → AllByRecursion P (in_order before xs)
  all_order xs fit = all_onto [] xs tt fit

-- ---- of each kind

abbrev pub FitsLine : BufferLine → Type 0
FitsLine line = (line.set < 2 ^ 32) × (line.binding < 2 ^ 32)

buffers_fit : (n : ℕ) (says : Meaning) → Fits says → AllByRecursion FitsLine (buffer_in n says)
buffers_fit n (Buffer set binding path) fit = (fit, tt)
buffers_fit n says fit = tt

values_fit : (n : ℕ) (says : Meaning) → Fits says → AllByRecursion FitsLocated (values_in n says)
values_fit n (In location words) fit = (record { location = fit.0; words = fit.1 }, tt)
values_fit n says fit = tt

group_fits : (n : ℕ) (says : Meaning) → Fits says → AllByRecursion AreThreeWords (group_in n says)
group_fits n (Group ids) fit = (fit, tt)
group_fits n says fit = tt

local_fits : (n : ℕ) (says : Meaning) → Fits says → AllByRecursion AreThreeWords (local_in n says)
local_fits n (Local ids) fit = (fit, tt)
local_fits n says fit = tt

groups_fit : (n : ℕ) (says : Meaning) → Fits says → AllByRecursion AreThreeWords (groups_in n says)
groups_fit n (Groups ids) fit = (fit, tt)
groups_fit n says fit = tt

abbrev IsWord : ℕ → Type 0
IsWord n = n < 2 ^ 32

vertex_fits : (n : ℕ) (says : Meaning) → Fits says → AllByRecursion IsWord (vertex_in n says)
vertex_fits n (Vertex id) fit = (fit, tt)
vertex_fits n says fit = tt

instance_fits : (n : ℕ) (says : Meaning) → Fits says → AllByRecursion IsWord (instance_in n says)
instance_fits n (Instance id) fit = (fit, tt)
instance_fits n says fit = tt

choices_fit : (n : ℕ) (says : Meaning) → Fits says → AllByRecursion IsWord (choices_in n says)
choices_fit n (Choice words) fit = fit
choices_fit n says fit = tt

-- ---- a manifest

three : (a : ℕ) → a < 2 ^ 32 → AreThreeWords (a ∷ a ∷ a ∷ [])
three a small = (refl, (small, (small, (small, tt))))

nothing : (bytes : List ℕ) → None ≡ Some bytes → ⊥
nothing bytes here = cc

said_fits : (says : List Meaning) → AllByRecursion Fits says → FitsTypes (manifest_of says).input
said_fits says fit = record {
  buffers = tt;
  push = λ bytes here. absurd (nothing bytes here);
  ins = all_order is_lower FitsLocated (all values_in says) (gathered FitsLocated values_in values_fit 1 says fit);
  group = the_first AreThreeWords (all group_in says) (0 ∷ 0 ∷ 0 ∷ []) (gathered AreThreeWords group_in group_fits 1 says fit) (three 0 (omega arith));
  local = the_first AreThreeWords (all local_in says) (0 ∷ 0 ∷ 0 ∷ []) (gathered AreThreeWords local_in local_fits 1 says fit) (three 0 (omega arith));
  groups = the_first AreThreeWords (all groups_in says) (1 ∷ 1 ∷ 1 ∷ []) (gathered AreThreeWords groups_in groups_fit 1 says fit) (three 1 (omega arith));
  vertex = the_first IsWord (all vertex_in says) 0 (gathered IsWord vertex_in vertex_fits 1 says fit) (omega arith);
  instance = the_first IsWord (all instance_in says) 0 (gathered IsWord instance_in instance_fits 1 says fit) (omega arith);
  choices = gathered IsWord choices_in choices_fit 1 says fit;
}

module _ (spells : (line : List ℕ) (says : Meaning) → meaning_of line ≡ Some says → Spells line says) where
  all_fit : (lines : List (List ℕ)) (says : List Meaning) → map meaning_of lines ≡ map Some says → AllByRecursion Fits says
  all_fit lines [] means = tt
  all_fit [] (one ∷ says) means = absurd cc
  all_fit (line ∷ lines) (one ∷ says) means =
      let here : meaning_of line ≡ Some one = cc in
      let rest : map meaning_of lines ≡ map Some says = cc in
      (line_fits line one (spells line one here), all_fit lines says rest)

  -- the numbers of a manifest's input are in their ranges
  pub manifest_fits : (lines : List (List ℕ)) (m : Manifest) → AreManifest lines m → FitsTypes m.input
  manifest_fits lines m are = subst (λ (k : Manifest). FitsTypes k.input) (sym are.value) (said_fits are.says (all_fit lines are.says are.means))

  -- so are those that its lines on buffers have
  pub lines_fit : (lines : List (List ℕ)) (m : Manifest) → AreManifest lines m → AllByRecursion FitsLine m.buffers
  lines_fit lines m are = subst (λ (k : Manifest). AllByRecursion FitsLine k.buffers) (sym are.value) (gathered FitsLine buffer_in buffers_fit 1 are.says (all_fit lines are.says are.means))
