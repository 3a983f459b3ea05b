-- What the lines of a manifest give: one to four words at a location, and all in order.
use Rattle.std.proofs.Common.{◌≡◌, ℕ, zero, suc, ◌+◌, ◌<◌, ◌≤◌, Bool, true, false, cond, List, [], ◌∷◌, ◌++◌, length, map, Option, Some, None, refl, ap, sym, subst, arith, ltb, leb}
use Rattle.std.proofs.lemmas.Bool.{ltb-true}
use Rattle.std.specs.List.{AllByRecursion}
use Rattle.std.specs.Str.{is_utf8}
use Rattle.gsl_manifest.specs.declared.meaning.Keyword.{Keyword}
use Rattle.gsl_manifest.specs.declared.meaning.Keyword.TheVariants as word
use Rattle.gsl_manifest.specs.declared.meaning.Meaning.{Meaning}
use Rattle.gsl_manifest.specs.declared.meaning.Meaning.TheVariants.{Nothing, Buffer, Push, In, Group, Local, Groups, Vertex, Instance, Choice, Steps}
use Rattle.gsl_manifest.specs.declared.manifest.BufferLine.{BufferLine}
use Rattle.gsl_manifest.specs.declared.manifest.Manifest.{Manifest}
use Rattle.gsl_text.specs.Numbers.{◌>>=◌}
use Rattle.gsl_manifest.specs.Fields.{field_at, number_at, unsigned_at, last, three_at, numbers_at, some_numbers_at, path_at}
use Rattle.gsl_manifest.specs.Meanings.{keyword_of, fields_say, buffer_at, in_at, choice_at, steps_at, is_blank, sentence, meaning_of, most_steps}
use Rattle.gsl_manifest.specs.Manifests.{gather, all, buffer_in, values_in, AreManifest, IsEarlier, is_lower, same_location}
use Rattle.gsl_base.specs.Proper.{Ascends, IsProper, IsComps, IsLower}
use Rattle.gsl_manifest.proofs.Ordered.{all_order, ascends_order, value_orders}

-- what a reading gives, each way it may give something
pub bind_all : {A B : Type 0} (found : Option A) (next : A → Option B) (y : B) (P : Type 0) → ((x : A) → found ≡ Some x → next x ≡ Some y → P) → (found >>= next) ≡ Some y → P
bind_all (Some x) next y P each e = each x refl e
bind_all None next y P each e = absurd (cc)

pub guard_all : {A : Type 0} (b : Bool) (x y : A) → cond b (Some x) None ≡ Some y → (b ≡ true) × (x ≡ y)
guard_all true x y e = (refl, cc)
guard_all false x y e = absurd (cc)

pub numbers_few : (most : ℕ) (bytes ns : List ℕ) → numbers_at most bytes ≡ Some ns → length ns ≤ most
unfolding numbers_at
numbers_few zero [] ns e = let none : [] ≡ ns = cc in omega (arith, ap length none)
numbers_few zero (b ∷ bytes) ns e = absurd (cc)
numbers_few (suc most) [] ns e = let none : [] ≡ ns = cc in omega (arith, ap length none)
numbers_few (suc most) (b ∷ bytes) ns e =
    bind_all (number_at (b ∷ bytes)) (λ n. numbers_at most n.1 >>= λ ms. Some (n.0 ∷ ms)) ns (length ns ≤ suc most)
    (λ n found rest.
    bind_all (numbers_at most n.1) (λ ms. Some (n.0 ∷ ms)) ns (length ns ≤ suc most)
    (λ ms later is. one_more n.0 ms ns most is (numbers_few most n.1 ms later)) rest) e
  where
    one_more : (n : ℕ) (ms ns : List ℕ) (most : ℕ) → Some (n ∷ ms) ≡ Some ns → length ms ≤ most → length ns ≤ suc most
    one_more n ms ns most is few = let same : n ∷ ms ≡ ns = cc in omega (arith, ap length same)

-- A line that gives words at a location gives one to four.
abbrev GivesComps : Meaning → Type 0
GivesComps m = AllByRecursion IsComps (values_in 1 m)

some_comps : (location : ℕ) (bytes words : List ℕ) → some_numbers_at 4 bytes ≡ Some words → GivesComps (In location words)
some_comps location bytes words e =
    bind_all (numbers_at 4 bytes) (λ ns. cond (ltb 0 (length ns)) (Some ns) None) words (GivesComps (In location words))
    (λ ns found is. counted ns words (numbers_few 4 bytes ns found) (guard_all (ltb 0 (length ns)) ns words is)) e
  where
    counted : (ns words : List ℕ) → length ns ≤ 4 → (ltb 0 (length ns) ≡ true) × (ns ≡ words) → GivesComps (In location words)
    counted ns words few met =
        (record { some = omega (arith, ltb-true _ _ met.0, ap length met.1); most = omega (arith, ap length met.1) }, tt)

said : (m k : Meaning) → Some m ≡ Some k → GivesComps m → GivesComps k
said m k e gives = let same : m ≡ k = cc in subst GivesComps same gives

fields_give : (keyword : Keyword) (bytes : List ℕ) (m : Meaning) → fields_say keyword bytes ≡ Some m → GivesComps m
unfolding buffer_at in_at choice_at steps_at
fields_give word.Buffer bytes m e =
    bind_all (unsigned_at bytes) _ m (GivesComps m)
    (λ set _ rest. bind_all (unsigned_at set.1) _ m (GivesComps m) (λ binding _ more. bind_all (path_at binding.1) _ m (GivesComps m) (λ path _ is. said _ m is tt) more) rest) e
fields_give word.Push bytes m e = bind_all (path_at bytes) _ m (GivesComps m) (λ path _ is. said _ m is tt) e
fields_give word.In bytes m e =
    bind_all (unsigned_at bytes) _ m (GivesComps m)
    (λ location _ rest. bind_all (some_numbers_at 4 location.1) _ m (GivesComps m) (λ words found is. said _ m is (some_comps location.0 location.1 words found)) rest) e
fields_give word.Group bytes m e = bind_all (three_at bytes) _ m (GivesComps m) (λ ids _ is. said _ m is tt) e
fields_give word.Local bytes m e = bind_all (three_at bytes) _ m (GivesComps m) (λ ids _ is. said _ m is tt) e
fields_give word.Groups bytes m e = bind_all (three_at bytes) _ m (GivesComps m) (λ ids _ is. said _ m is tt) e
fields_give word.Vertex bytes m e = bind_all (last (number_at bytes)) _ m (GivesComps m) (λ id _ is. said _ m is tt) e
fields_give word.Instance bytes m e = bind_all (last (number_at bytes)) _ m (GivesComps m) (λ id _ is. said _ m is tt) e
fields_give word.Choice bytes m e = bind_all (some_numbers_at (length bytes) bytes) _ m (GivesComps m) (λ words _ is. said _ m is tt) e
fields_give word.Steps bytes m e =
    bind_all (last (unsigned_at bytes)) (λ n. cond (leb n most_steps) (Some (Steps n)) None) m (GivesComps m)
    (λ n _ is. let met = guard_all (leb n most_steps) (Steps n) m is in subst GivesComps met.1 tt) e

sentence_gives : (line : List ℕ) (m : Meaning) → sentence line ≡ Some m → GivesComps m
unfolding sentence
sentence_gives line m e = bind_all (keyword_of (field_at line).0) _ m (GivesComps m) (λ keyword _ rest. fields_give keyword (field_at line).1 m rest) e

line_gives : (line : List ℕ) (m : Meaning) → meaning_of line ≡ Some m → GivesComps m
unfolding meaning_of
line_gives line m e = text (is_utf8 line) (is_blank line) e
  where
    text : (utf8 blank : Bool) → cond utf8 (cond blank (Some Nothing) (sentence line)) None ≡ Some m → GivesComps m
    text true true e = said Nothing m e tt
    text true false e = sentence_gives line m e
    text false blank e = absurd (cc)

all-append : {A : Type 0} (P : A → Type 0) (xs ys : List A) → AllByRecursion P xs → AllByRecursion P ys → AllByRecursion P (xs ++ ys)
all-append P [] ys front more = more
all-append P (x ∷ xs) ys front more = (front.0, all-append P xs ys front.1 more)

at_any_line : (n : ℕ) (m : Meaning) → GivesComps m → AllByRecursion IsComps (values_in n m)
at_any_line n (In location words) gives = gives
at_any_line n Nothing gives = tt
at_any_line n (Buffer set binding path) gives = tt
at_any_line n (Push path) gives = tt
at_any_line n (Group ids) gives = tt
at_any_line n (Local ids) gives = tt
at_any_line n (Groups ids) gives = tt
at_any_line n (Vertex id) gives = tt
at_any_line n (Instance id) gives = tt
at_any_line n (Choice words) gives = tt
at_any_line n (Steps k) gives = tt

all_comps : (lines : List (List ℕ)) (says : List Meaning) (n : ℕ) → map meaning_of lines ≡ map Some says → AllByRecursion IsComps (gather values_in n says)
all_comps [] [] n e = tt
all_comps [] (m ∷ says) n e = absurd (cc)
all_comps (l ∷ lines) [] n e = absurd (cc)
all_comps (l ∷ lines) (m ∷ says) n e =
    let here : meaning_of l ≡ Some m = cc in
    let rest : map meaning_of lines ≡ map Some says = cc in
    all-append IsComps (values_in n m) (gather values_in (n + 1) says) (at_any_line n m (line_gives l m here)) (all_comps lines says (n + 1) rest)

-- the input of a manifest is proper
pub proper_of : (lines : List (List ℕ)) (m : Manifest) → AreManifest lines m → IsProper m.input
proper_of lines m are =
    subst (λ (k : Manifest). IsProper k.input) (sym are.value) (record {
      buffers = tt;
      ins = ascends_order is_lower same_location IsLower value_orders (all values_in are.says) are.once.values;
      comps = all_order is_lower IsComps (all values_in are.says) (all_comps lines are.says 1 are.means);
    })

-- the files of buffers stand in the order of their lines
later_line : (n k : ℕ) (says : List Meaning) → n < k → AllByRecursion (λ (b : BufferLine). n < b.line) (gather buffer_in k says)
later_line n k [] low = tt
later_line n k (Buffer set binding path ∷ says) low = (low, later_line n (k + 1) says (omega arith))
later_line n k (Nothing ∷ says) low = later_line n (k + 1) says (omega arith)
later_line n k (Push path ∷ says) low = later_line n (k + 1) says (omega arith)
later_line n k (In location words ∷ says) low = later_line n (k + 1) says (omega arith)
later_line n k (Group ids ∷ says) low = later_line n (k + 1) says (omega arith)
later_line n k (Local ids ∷ says) low = later_line n (k + 1) says (omega arith)
later_line n k (Groups ids ∷ says) low = later_line n (k + 1) says (omega arith)
later_line n k (Vertex id ∷ says) low = later_line n (k + 1) says (omega arith)
later_line n k (Instance id ∷ says) low = later_line n (k + 1) says (omega arith)
later_line n k (Choice words ∷ says) low = later_line n (k + 1) says (omega arith)
later_line n k (Steps s ∷ says) low = later_line n (k + 1) says (omega arith)

lines_ascend : (k : ℕ) (says : List Meaning) → Ascends IsEarlier (gather buffer_in k says)
lines_ascend k [] = tt
lines_ascend k (Buffer set binding path ∷ says) = (later_line k (k + 1) says (omega arith), lines_ascend (k + 1) says)
lines_ascend k (Nothing ∷ says) = lines_ascend (k + 1) says
lines_ascend k (Push path ∷ says) = lines_ascend (k + 1) says
lines_ascend k (In location words ∷ says) = lines_ascend (k + 1) says
lines_ascend k (Group ids ∷ says) = lines_ascend (k + 1) says
lines_ascend k (Local ids ∷ says) = lines_ascend (k + 1) says
lines_ascend k (Groups ids ∷ says) = lines_ascend (k + 1) says
lines_ascend k (Vertex id ∷ says) = lines_ascend (k + 1) says
lines_ascend k (Instance id ∷ says) = lines_ascend (k + 1) says
lines_ascend k (Choice words ∷ says) = lines_ascend (k + 1) says
lines_ascend k (Steps s ∷ says) = lines_ascend (k + 1) says

pub by_lines : (lines : List (List ℕ)) (m : Manifest) → AreManifest lines m → Ascends IsEarlier m.buffers
by_lines lines m are = subst (λ (k : Manifest). Ascends IsEarlier k.buffers) (sym are.value) (lines_ascend 1 are.says)
