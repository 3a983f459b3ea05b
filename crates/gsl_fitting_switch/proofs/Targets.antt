-- The labels of arms, and the targets of a `switch`.
use Rattle.std.proofs.Common.{◌≡◌, ℕ, ◌+◌, ◌<◌, ◌≤◌, Bool, true, false, cond, List, [], ◌∷◌, ◌++◌, length, refl, sym, ap, ◌∙◌, suc, append_assoc, append-nil, arith}
use Rattle.std.specs.Prelude.{◌==◌, nat_eq}
use Rattle.std.specs.List.{AllByRecursion, list_all, list_any}
use Rattle.std.proofs.lemmas.Bool.{and_from, eq-eqb, eqb-true, or_from, or_left, or_right}
use Rattle.std.proofs.lemmas.List.{length-append}
use Rattle.gsl_blocks.specs.Targets.{firsts, once, once_from}
use Rattle.gsl_instr.specs.Instructions.{seconds}
use Rattle.gsl_lower_stmt.specs.Lowering.{defaults_of, words_of}
use Rattle.gsl_lower_stmt.specs.Parts.{LowerArm, default_of, pairs, targets}
use Rattle.gsl_fitting_shapes.proofs.Labels.{other}
use Rattle.gsl_fitting_switch.specs.Choosing.{AreNamed, all_literals}

-- ---- labels, one for each of some items, from a number on

abbrev pub labels_from : {A : Type 0} → ℕ → List A → List ℕ
labels_from n [] = []
labels_from n (a ∷ items) = (n + 1) ∷ labels_from (n + 1) items

abbrev pub last_of : {A : Type 0} → ℕ → List A → ℕ
last_of n [] = n
last_of n (a ∷ items) = last_of (n + 1) items

pub last_up : {A : Type 0} (n : ℕ) (items : List A) → n ≤ last_of n items
last_up n [] = omega arith
last_up n (a ∷ items) = let more = last_up (n + 1) items in omega (arith, more)

-- they are between these numbers
pub labels_between : {A : Type 0} (n : ℕ) (items : List A) → AllByRecursion (λ id. (n < id) × (id ≤ last_of n items)) (labels_from n items)
labels_between n [] = tt
labels_between n (a ∷ items) = ((omega arith, last_up (n + 1) items), lower n (n + 1) (last_of (n + 1) items) (labels_from (n + 1) items) (omega arith) (labels_between (n + 1) items))
  where
    lower : (low high top : ℕ) (ids : List ℕ) → low ≤ high → AllByRecursion (λ id. (high < id) × (id ≤ top)) ids → AllByRecursion (λ id. (low < id) × (id ≤ top)) ids
    lower low high top [] le h = tt
    lower low high top (id ∷ ids) le h = ((let lt = h.0.0 in omega (arith, le, lt), h.0.1), lower low high top ids le h.1)

pub labels_append : {A : Type 0} (n : ℕ) (items more : List A) → labels_from n (items ++ more) ≡ labels_from n items ++ labels_from (last_of n items) more
labels_append n [] more = refl
labels_append n (a ∷ items) more = ap (λ l. (n + 1) ∷ l) (labels_append (n + 1) items more)

-- ---- the default

-- it is the end, or one of the labels
pub default_by : (P : ℕ → Type 0) (end : ℕ) → P end → (defaults : List Bool) (labels : List ℕ) → ((label : ℕ) → list_any (nat_eq label) labels ≡ true → P label) → P (default_of defaults labels end)
default_by P end none [] labels one = none
default_by P end none (is ∷ more) [] one = none
default_by P end none (true ∷ more) (label ∷ labels) one = one label (or_left _ _ (eq-eqb label label refl))
default_by P end none (false ∷ more) (label ∷ labels) one = default_by P end none more labels (λ other_label h. one other_label (or_right (nat_eq other_label label) _ h))

-- the first of them
pub first_default : (n end : ℕ) (front : List LowerArm) (arm : LowerArm) (back : List LowerArm) → AllByRecursion (λ (one : LowerArm). one.is_default ≡ false) front → arm.is_default ≡ true → default_of (defaults_of (front ++ arm ∷ back)) (labels_from n (words_of (front ++ arm ∷ back))) end ≡ last_of n front + 1
first_default n end [] arm back none is = ap (λ b. cond b (n + 1) (default_of (defaults_of back) (labels_from (n + 1) (words_of back)) end)) is
first_default n end (one ∷ front) arm back none is =
    ap (λ b. cond b (n + 1) (default_of (defaults_of (front ++ arm ∷ back)) (labels_from (n + 1) (words_of (front ++ arm ∷ back))) end)) none.0 ∙ first_default (n + 1) end front arm back none.1 is

-- ---- literals

pairs_firsts : (label : ℕ) (words rest : List ℕ) → firsts (pairs label words ++ rest) ≡ words ++ firsts rest
pairs_firsts label [] rest = refl
pairs_firsts label (word ∷ words) rest = ap (λ l. word ∷ l) (pairs_firsts label words rest)

pub firsts_are : (n : ℕ) (words : List (List ℕ)) → firsts (targets words (labels_from n words)) ≡ all_literals words
firsts_are n [] = refl
firsts_are n (one ∷ words) = pairs_firsts (n + 1) one (targets words (labels_from (n + 1) words)) ∙ ap (λ l. one ++ l) (firsts_are (n + 1) words)

none_more : (k : ℕ) → k ≡ 0 + k
none_more k = omega arith

one_more : (a b k : ℕ) → a ≡ b + k → suc a ≡ suc b + k
one_more a b k e = omega (arith, e)

pairs_count : (label : ℕ) (words rest : List ℕ) → length (seconds (pairs label words ++ rest)) ≡ length words + length (seconds rest)
pairs_count label [] rest = none_more (length (seconds rest))
pairs_count label (word ∷ words) rest = one_more (length (seconds (pairs label words ++ rest))) (length words) (length (seconds rest)) (pairs_count label words rest)

pub seconds_count : (n : ℕ) (words : List (List ℕ)) → length (seconds (targets words (labels_from n words))) ≡ length (all_literals words)
seconds_count n [] = refl
seconds_count n (one ∷ words) = pairs_count (n + 1) one (targets words (labels_from (n + 1) words)) ∙ ap (λ k. length one + k) (seconds_count (n + 1) words) ∙ sym (length-append one (all_literals words))

-- what is so of all labels is so of those that are mentioned
pairs_all : (is : ℕ → Bool) (label : ℕ) (words rest : List ℕ) → is label ≡ true → list_all is (seconds rest) ≡ true → list_all is (seconds (pairs label words ++ rest)) ≡ true
pairs_all is label [] rest one all = all
pairs_all is label (word ∷ words) rest one all = and_from _ _ one (pairs_all is label words rest one all)

pub seconds_all : (is : ℕ → Bool) (n : ℕ) (words : List (List ℕ)) → AllByRecursion (λ id. is id ≡ true) (labels_from n words) → list_all is (seconds (targets words (labels_from n words))) ≡ true
seconds_all is n [] all = refl
seconds_all is n (one ∷ words) all = pairs_all is (n + 1) one (targets words (labels_from (n + 1) words)) all.0 (seconds_all is (n + 1) words all.1)

-- ---- labels that are mentioned, each once

abbrev pub named_from : ℕ → List (List ℕ) → List ℕ
named_from n [] = []
named_from n ([] ∷ words) = named_from (n + 1) words
named_from n ((word ∷ more) ∷ words) = (n + 1) ∷ named_from (n + 1) words

abbrev AreLow : ℕ → List ℕ → Type 0
AreLow n ids = AllByRecursion (λ id. id ≤ n) ids

not_any : (n : ℕ) (ids : List ℕ) → AreLow n ids → list_any (nat_eq (n + 1)) ids ≡ false
not_any n [] low = refl
not_any n (id ∷ ids) low = or_from ((n + 1) == id) _ (by_case ((n + 1) == id) refl) (not_any n ids low.1)
  where
    by_case : (b : Bool) → ((n + 1) == id) ≡ b → ((n + 1) == id) ≡ false
    by_case false e = e
    by_case true e = let same = eqb-true (n + 1) id e in let le = low.0 in absurd (omega (arith, same, le))

low_on : (n : ℕ) (ids : List ℕ) → AreLow n ids → AreLow (n + 1) (ids ++ (n + 1) ∷ [])
low_on n [] low = (omega arith, tt)
low_on n (id ∷ ids) low = (let le = low.0 in omega (arith, le), low_on n ids low.1)

low_same : (n : ℕ) (ids : List ℕ) → AreLow n ids → AreLow (n + 1) ids
low_same n [] low = tt
low_same n (id ∷ ids) low = (let le = low.0 in omega (arith, le), low_same n ids low.1)

any_last : (label : ℕ) (ids : List ℕ) → list_any (nat_eq label) (ids ++ label ∷ []) ≡ true
any_last label [] = or_left _ _ (eq-eqb label label refl)
any_last label (id ∷ ids) = or_right (nat_eq label id) _ (any_last label ids)

again : (label : ℕ) (before words rest : List ℕ) → once_from (before ++ label ∷ []) (seconds (pairs label words ++ rest)) ≡ once_from (before ++ label ∷ []) (seconds rest)
again label before [] rest = refl
again label before (word ∷ words) rest =
    ap (λ b. once_from (cond b (before ++ label ∷ []) ((before ++ label ∷ []) ++ label ∷ [])) (seconds (pairs label words ++ rest))) (any_last label before) ∙ again label before words rest

once_is : (n : ℕ) (words : List (List ℕ)) (before : List ℕ) → AreLow n before → once_from before (seconds (targets words (labels_from n words))) ≡ before ++ named_from n words
once_is n [] before low = sym (append-nil before)
once_is n ([] ∷ words) before low = once_is (n + 1) words before (low_same n before low)
once_is n ((word ∷ more) ∷ words) before low =
    ap (λ b. once_from (cond b before (before ++ (n + 1) ∷ [])) (seconds (pairs (n + 1) more ++ targets words (labels_from (n + 1) words)))) (not_any n before low) ∙ again (n + 1) before more (targets words (labels_from (n + 1) words))
    ∙ once_is (n + 1) words (before ++ (n + 1) ∷ []) (low_on n before low) ∙ append_assoc before ((n + 1) ∷ []) (named_from (n + 1) words)

pub once_are : (n : ℕ) (words : List (List ℕ)) → once (seconds (targets words (labels_from n words))) ≡ named_from n words
once_are n words = once_is n words [] tt

pub named_all : (n : ℕ) (arms : List LowerArm) → AreNamed arms → named_from n (words_of arms) ≡ labels_from n (words_of arms)
named_all n [] named = refl
named_all n (arm ∷ arms) named = by arm.labels named.0 (named_all (n + 1) arms named.1)
  where
    by : (words : List ℕ) → 0 < length words → named_from (n + 1) (words_of arms) ≡ labels_from (n + 1) (words_of arms) → named_from n (words ∷ words_of arms) ≡ (n + 1) ∷ labels_from (n + 1) (words_of arms)
    by [] lt rest = absurd (omega (arith, lt))
    by (word ∷ more) lt rest = ap (λ l. (n + 1) ∷ l) rest

pub named_apart : (n : ℕ) (front : List LowerArm) (arm : LowerArm) (back : List LowerArm) → AreNamed front → arm.labels ≡ [] → AreNamed back → named_from n (words_of (front ++ arm ∷ back)) ≡ labels_from n (words_of front) ++ labels_from (last_of n front + 1) (words_of back)
named_apart n [] arm back named none others = ap (λ words. named_from n (words ∷ words_of back)) none ∙ named_all (n + 1) back others
named_apart n (one ∷ front) arm back named none others = by one.labels named.0 (named_apart (n + 1) front arm back named.1 none others)
  where
    by : (words : List ℕ) → 0 < length words → named_from (n + 1) (words_of (front ++ arm ∷ back)) ≡ labels_from (n + 1) (words_of front) ++ labels_from (last_of (n + 1) front + 1) (words_of back)
        → named_from n (words ∷ words_of (front ++ arm ∷ back)) ≡ (n + 1) ∷ (labels_from (n + 1) (words_of front) ++ labels_from (last_of (n + 1) front + 1) (words_of back))
    by [] lt rest = absurd (omega (arith, lt))
    by (word ∷ more) lt rest = ap (λ l. (n + 1) ∷ l) rest

-- where the default has no literal, its label is between those of the others
pub labels_apart : (n : ℕ) (front : List LowerArm) (arm : LowerArm) (back : List LowerArm) → labels_from n (words_of (front ++ arm ∷ back)) ≡ labels_from n (words_of front) ++ ((last_of n front + 1) ∷ labels_from (last_of n front + 1) (words_of back))
labels_apart n [] arm back = refl
labels_apart n (one ∷ front) arm back = ap (λ l. (n + 1) ∷ l) (labels_apart (n + 1) front arm back)

-- and none of them
pub apart_other : (n : ℕ) (front back : List LowerArm) → list_any (nat_eq (last_of n front + 1)) (labels_from n (words_of front) ++ labels_from (last_of n front + 1) (words_of back)) ≡ false
apart_other n [] back = above (n + 1) (n + 1) (words_of back) (omega arith)
  where
    above : (label k : ℕ) (words : List (List ℕ)) → label ≤ k → list_any (nat_eq label) (labels_from k words) ≡ false
    above label k [] le = refl
    above label k (one ∷ words) le = or_from (label == (k + 1)) _ (other label (k + 1) (omega (arith, le))) (above label (k + 1) words (omega (arith, le)))
apart_other n (one ∷ front) back = or_from ((last_of (n + 1) front + 1) == (n + 1)) _ (by_case ((last_of (n + 1) front + 1) == (n + 1)) refl) (apart_other (n + 1) front back)
  where
    by_case : (b : Bool) → ((last_of (n + 1) front + 1) == (n + 1)) ≡ b → ((last_of (n + 1) front + 1) == (n + 1)) ≡ false
    by_case false e = e
    by_case true e = let same = eqb-true (last_of (n + 1) front + 1) (n + 1) e in let up = last_up (n + 1) front in absurd (omega (arith, same, up))
