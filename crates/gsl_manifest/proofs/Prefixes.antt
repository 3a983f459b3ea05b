-- The first lines of a manifest are a manifest, and lines are one manifest at most.
use Rattle.std.proofs.Common.{◌≡◌, ℕ, ◌+◌, ◌-◌, ◌<◌, ◌≤◌, Bool, true, List, [], ◌∷◌, ◌++◌, length, take, drop, map, Some, refl, ap, sym, subst, ◌∙◌, arith, append_assoc, length-append, take-append-drop, ◌⊎◌, inl, inr}
use Rattle.std.proofs.lemmas.Bool.{and_parts, and_from, or_parts, not-true, not_from_false, cases_order}
use Rattle.std.proofs.lemmas.List.{take-map, take-take}
use Rattle.std.proofs.lemmas.List.Folds.{list_any-append}
use Rattle.std.specs.Prelude.{Result, Ok, Err}
use Rattle.std.specs.List.{list_any}
use Rattle.gsl_manifest.specs.declared.meaning.Meaning.{Meaning}
use Rattle.gsl_manifest.specs.declared.manifest.Manifest.{Manifest}
use Rattle.gsl_manifest.specs.declared.draft.Draft.{Draft}
use Rattle.gsl_manifest.specs.Meanings.{meaning_of}
use Rattle.gsl_manifest.specs.Manifests.{gather, all, differ, same_buffer, same_location, buffer_in, push_in, values_in, group_in, local_in, groups_in, vertex_in, instance_in, steps_in, StandOnce, AreManifest, BreaksAt, manifest_of}
use Rattle.gsl_manifest.specs.Drafts.{read_all, empty, finished}
use Rattle.gsl_manifest.proofs.Manifested.{Judges, read_lines}

pub gather-append : {A : Type 0} (given : ℕ → Meaning → List A) (n : ℕ) (xs ys : List Meaning) → gather given n (xs ++ ys) ≡ gather given n xs ++ gather given (n + length xs) ys
gather-append given n [] ys = ap (λ k. gather given k ys) (omega arith)
gather-append given n (x ∷ xs) ys =
    let k : n + 1 + length xs ≡ n + length (x ∷ xs) = omega arith in
    ap (λ r. given n x ++ r) (gather-append given (n + 1) xs ys ∙ ap (λ j. gather given (n + 1) xs ++ gather given j ys) k)
    ∙ sym (append_assoc (given n x) (gather given (n + 1) xs) (gather given (n + length (x ∷ xs)) ys))

differ_front : {A : Type 0} (same : A → A → Bool) (xs ys : List A) → differ same (xs ++ ys) ≡ true → differ same xs ≡ true
differ_front same [] ys apart_now = refl
differ_front same (x ∷ xs) ys apart_now =
    let parts = and_parts _ _ apart_now in
    let here = or_parts (list_any (same x) xs) _ (sym (list_any-append (same x) xs ys) ∙ not-true _ parts.0) in
    and_from _ _ (not_from_false _ here.0) (differ_front same xs ys parts.1)

module _ (says more : List Meaning) where
  few_front : {A : Type 0} (given : ℕ → Meaning → List A) → length (all given (says ++ more)) ≤ 1 → length (all given says) ≤ 1
  few_front given few = omega (arith, ap length (gather-append given 1 says more), length-append (all given says) (gather given (1 + length says) more))

  apart_front : {A : Type 0} (same : A → A → Bool) (given : ℕ → Meaning → List A) → differ same (all given (says ++ more)) ≡ true → differ same (all given says) ≡ true
  apart_front same given now = differ_front same (all given says) (gather given (1 + length says) more) (sym (ap (differ same) (gather-append given 1 says more)) ∙ now)

  once_front : StandOnce (says ++ more) → StandOnce says
  once_front once = record {
    buffers = apart_front same_buffer buffer_in once.buffers;
    push = few_front push_in once.push;
    values = apart_front same_location values_in once.values;
    group = few_front group_in once.group;
    local = few_front local_in once.local;
    groups = few_front groups_in once.groups;
    vertex = few_front vertex_in once.vertex;
    instance = few_front instance_in once.instance;
    steps = few_front steps_in once.steps;
  }

-- the first lines of a manifest are one
pub front_is : (n : ℕ) (lines : List (List ℕ)) (m : Manifest) → AreManifest lines m → (k : Manifest) × AreManifest (take n lines) k
front_is n lines m are =
    let says = take n are.says in
    let means : map meaning_of (take n lines) ≡ map Some says = sym (take-map meaning_of n lines) ∙ ap (take n) are.means ∙ take-map Some n are.says in
    let once : StandOnce says = once_front says (drop n are.says) (subst StandOnce (sym (take-append-drop n are.says)) are.once) in
    (manifest_of says, record { says = says; means = means; once = once; value = refl })

same_says : (xs ys : List Meaning) → map Some xs ≡ map Some ys → xs ≡ ys
same_says [] [] e = refl
same_says [] (y ∷ ys) e = absurd (cc)
same_says (x ∷ xs) [] e = absurd (cc)
same_says (x ∷ xs) (y ∷ ys) e =
    let here : x ≡ y = cc in
    let rest : map Some xs ≡ map Some ys = cc in
    ap (λ z. z ∷ xs) here ∙ ap (λ zs. y ∷ zs) (same_says xs ys rest)

-- lines are one manifest at most
pub one_manifest : (lines : List (List ℕ)) (m k : Manifest) → AreManifest lines m → AreManifest lines k → m ≡ k
one_manifest lines m k a b = a.value ∙ ap manifest_of (same_says a.says b.says (sym a.means ∙ b.means)) ∙ sym b.value

-- lines that break at one place break at no other, and are no manifest
later_breaks : (lines : List (List ℕ)) (n k : ℕ) → BreaksAt lines n → BreaksAt lines k → n < k → ⊥
later_breaks lines n k a b low =
    let front = front_is n (take (k - 1) lines) b.manifest b.before in
    a.here front.0 (subst (λ ls. AreManifest ls front.0) (take-take n (k - 1) lines (omega arith)) front.1)

pub one_break : (lines : List (List ℕ)) (n k : ℕ) → BreaksAt lines n → BreaksAt lines k → n ≡ k
one_break lines n k a b = elim (cases_order n k) [
  | inl same ↦ same
  | inr (inl low) ↦ absurd (later_breaks lines n k a b low)
  | inr (inr high) ↦ absurd (later_breaks lines k n b a high)
]

pub never_both : (lines : List (List ℕ)) (m : Manifest) (n : ℕ) → AreManifest lines m → BreaksAt lines n → ⊥
never_both lines m n a b = let front = front_is n lines m a in b.here front.0 front.1

judged : (lines : List (List ℕ)) (r : Result Draft ℕ) → Judges lines r → ((m : Manifest) × AreManifest lines m) ⊎ ((n : ℕ) × BreaksAt lines n)
judged lines (Ok d) j = inl (finished d, j)
judged lines (Err n) j = inr (n, j)

-- lines are a manifest, or break somewhere
pub either_one : (lines : List (List ℕ)) → ((m : Manifest) × AreManifest lines m) ⊎ ((n : ℕ) × BreaksAt lines n)
either_one lines = judged lines (read_all 1 lines empty) (read_lines lines)
