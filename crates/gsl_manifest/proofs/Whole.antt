-- A manifest that is printed whole is read back.
use Rattle.std.proofs.Common.{◌≡◌, ℕ, suc, ◌+◌, ◌≤◌, Bool, true, false, cond, List, [], ◌∷◌, ◌++◌, length, map, Option, Some, None, refl, ap, sym, subst, ◌∙◌, arith, append_assoc, append-nil}
use Rattle.std.proofs.lemmas.Bool.{and_from, or_from, not_from_false, ne_eqb, le-ltb}
use Rattle.std.specs.Prelude.{fold}
use Rattle.std.specs.List.{list_any, AllByRecursion}
use Rattle.gsl_base.specs.declared.input.Located.{Located}
use Rattle.gsl_manifest.specs.declared.meaning.Meaning.{Meaning}
use Rattle.gsl_manifest.specs.declared.meaning.Meaning.TheVariants.{Push, Choice}
use Rattle.gsl_manifest.specs.declared.manifest.BufferLine.{BufferLine}
use Rattle.gsl_manifest.specs.declared.manifest.PushLine.{PushLine}
use Rattle.gsl_manifest.specs.declared.manifest.Manifest.{Manifest}
use Rattle.gsl_text.specs.Lines.{lines_of}
use Rattle.gsl_manifest.specs.Manifests.{gather, all, buffer_in, push_in, values_in, group_in, local_in, groups_in, vertex_in, instance_in, choices_in, steps_in, place, in_order, differ, same_buffer, same_location, is_lower, first, StandOnce, AreManifest, manifest_of}
use Rattle.gsl_base.specs.Proper.{Ascends, IsLower}
use Rattle.gsl_manifest.specs.Printing.{buffer_says, push_says, values_say, choices_say, rest_says, says_of, manifest_text, AreNumbered, IsNumbered, IsPrintable}
use Rattle.gsl_manifest.proofs.Prefixes.{gather-append}
use Rattle.gsl_manifest.proofs.Written.{written}

-- items that stand in order are in order already
module _ {A : Type 0} (before : A → A → Bool) where
  abbrev NotBefore : A → A → Type 0
  NotBefore a b = before b a ≡ false

  place_end : (x : A) (ys : List A) → AllByRecursion (λ y. before x y ≡ false) ys → place before x ys ≡ ys ++ x ∷ []
  place_end x [] all = refl
  place_end x (y ∷ ys) all = ap (λ t. cond t (x ∷ y ∷ ys) (y ∷ place before x ys)) all.0 ∙ ap (λ r. y ∷ r) (place_end x ys all.1)

  one_later : (z x : A) (ys : List A) → AllByRecursion (λ y. before z y ≡ false) ys → before z x ≡ false → AllByRecursion (λ y. before z y ≡ false) (ys ++ x ∷ [])
  one_later z x [] all here = (here, tt)
  one_later z x (y ∷ ys) all here = (all.0, one_later z x ys all.1 here)

  all_later : (x : A) (acc xs : List A) → AllByRecursion (λ z. AllByRecursion (λ y. before z y ≡ false) acc) xs → AllByRecursion (NotBefore x) xs → AllByRecursion (λ z. AllByRecursion (λ y. before z y ≡ false) (acc ++ x ∷ [])) xs
  all_later x acc [] all up = tt
  all_later x acc (z ∷ xs) all up = (one_later z x acc all.0 up.0, all_later x acc xs all.1 up.1)

  stays_onto : (acc xs : List A) → AllByRecursion (λ z. AllByRecursion (λ y. before z y ≡ false) acc) xs → Ascends NotBefore xs → fold (λ placed x. place before x placed) acc xs ≡ acc ++ xs
  stays_onto acc [] all up = sym (append-nil acc)
  stays_onto acc (x ∷ xs) all up =
      ap (λ placed. fold (λ placed x. place before x placed) placed xs) (place_end x acc all.0) ∙ stays_onto (acc ++ x ∷ []) xs (all_later x acc xs all.1 up.0) up.1
      ∙ append_assoc acc (x ∷ []) xs

  none_before : (xs : List A) → AllByRecursion (λ z. AllByRecursion (λ y. before z y ≡ false) []) xs
  none_before [] = tt
  none_before (x ∷ xs) = (tt, none_before xs)

  stays : (xs : List A) → Ascends NotBefore xs → in_order before xs ≡ xs
  stays xs up = stays_onto [] xs (none_before xs) up

module _ {A : Type 0} (P Q : A → A → Type 0) (each : (a b : A) → P a b → Q a b) where
  all_map : (x : A) (xs : List A) → AllByRecursion (P x) xs → AllByRecursion (Q x) xs
  all_map x [] all = tt
  all_map x (y ∷ xs) all = (each x y all.0, all_map x xs all.1)

  ascends_map : (xs : List A) → Ascends P xs → Ascends Q xs
  ascends_map [] up = tt
  ascends_map (x ∷ xs) up = (all_map x xs up.0, ascends_map xs up.1)

module _ {A : Type 0} (same : A → A → Bool) (P : A → A → Type 0) (each : (a b : A) → P a b → same a b ≡ false) where
  none_same : (x : A) (xs : List A) → AllByRecursion (P x) xs → list_any (same x) xs ≡ false
  none_same x [] all = refl
  none_same x (y ∷ xs) all = or_from _ _ (each x y all.0) (none_same x xs all.1)

  all_differ : (xs : List A) → Ascends P xs → differ same xs ≡ true
  all_differ [] up = refl
  all_differ (x ∷ xs) up = and_from _ _ (not_from_false _ (none_same x xs up.0)) (all_differ xs up.1)

value_not_before : (a b : Located) → IsLower a b → is_lower b a ≡ false
value_not_before a b low = le-ltb b.location a.location (omega arith)

value_apart : (a b : Located) → IsLower a b → same_location a b ≡ false
value_apart a b low = ne_eqb a.location b.location (λ e. omega arith)

-- what the parts of a printed manifest give
gather_none : {A X : Type 0} (given : ℕ → Meaning → List A) (says : X → Meaning) → ((n : ℕ) (x : X) → given n (says x) ≡ []) → (n : ℕ) (xs : List X) → gather given n (map says xs) ≡ []
gather_none given says none n [] = refl
gather_none given says none n (x ∷ xs) = ap (λ r. r ++ gather given (n + 1) (map says xs)) (none n x) ∙ gather_none given says none (n + 1) xs

gather_buffers : (n : ℕ) (bs : List BufferLine) → AreNumbered n bs → gather buffer_in n (map buffer_says bs) ≡ bs
gather_buffers n [] are = refl
gather_buffers n (b ∷ bs) are =
    ap (λ k. record b { line = k } ∷ gather buffer_in (n + 1) (map buffer_says bs)) (sym are.0) ∙ ap (λ r. b ∷ r) (gather_buffers (n + 1) bs are.1)

gather_values : (n : ℕ) (vs : List Located) → gather values_in n (map values_say vs) ≡ vs
gather_values n [] = refl
gather_values n (v ∷ vs) = ap (λ r. v ∷ r) (gather_values (n + 1) vs)

option_list : {A : Type 0} → Option A → List A
option_list None = []
option_list (Some x) = x ∷ []

gather_push : (n : ℕ) (p : Option PushLine) → IsNumbered n p → gather push_in n (push_says p) ≡ option_list p
unfolding option_list
gather_push n None is = refl
gather_push n (Some p) is = ap (λ k. record p { line = k } ∷ []) (sym is)

push_none : {A : Type 0} (given : ℕ → Meaning → List A) → ((n : ℕ) (path : List ℕ) → given n (Push path) ≡ []) → (n : ℕ) (p : Option PushLine) → gather given n (push_says p) ≡ []
push_none given none n None = refl
push_none given none n (Some p) = ap (λ r. r ++ []) (none n p.path)

choices_none : {A : Type 0} (given : ℕ → Meaning → List A) → ((n : ℕ) (words : List ℕ) → given n (Choice words) ≡ []) → (n : ℕ) (words : List ℕ) → gather given n (choices_say words) ≡ []
choices_none given none n [] = refl
choices_none given none n (w ∷ words) = ap (λ r. r ++ []) (none n (w ∷ words))

choices_all : (n : ℕ) (words : List ℕ) → gather choices_in n (choices_say words) ≡ words
choices_all n [] = refl
choices_all n (w ∷ words) = append-nil (w ∷ words)

length_map : {A B : Type 0} (f : A → B) (xs : List A) → length (map f xs) ≡ length xs
length_map f [] = refl
length_map f (x ∷ xs) = ap suc (length_map f xs)

module _ (m : Manifest) where
  -- what the four parts give, each with the number of its first line
  parts : {A : Type 0} (given : ℕ → Meaning → List A) (a b c d : List A) → gather given 1 (map buffer_says m.buffers) ≡ a → gather given (1 + length m.buffers) (push_says m.push) ≡ b →
      ((n : ℕ) → gather given n (map values_say m.input.ins) ≡ c) → ((n : ℕ) → gather given n (rest_says m) ≡ d) → all given (says_of m) ≡ a ++ (b ++ (c ++ d))
  parts given a b c d ae be ce de =
      let k : 1 + length (map buffer_says m.buffers) ≡ 1 + length m.buffers = ap (λ j. 1 + j) (length_map buffer_says m.buffers) in
      gather-append given 1 (map buffer_says m.buffers) _
      ∙ ap (λ j. gather given 1 (map buffer_says m.buffers) ++ gather given j (push_says m.push ++ (map values_say m.input.ins ++ rest_says m))) k
      ∙ ap (λ r. r ++ gather given (1 + length m.buffers) (push_says m.push ++ (map values_say m.input.ins ++ rest_says m))) ae
      ∙ ap (λ r. a ++ r) (
      gather-append given (1 + length m.buffers) (push_says m.push) _
      ∙ ap (λ r. r ++ gather given (1 + length m.buffers + length (push_says m.push)) (map values_say m.input.ins ++ rest_says m)) be
      ∙ ap (λ r. b ++ r) (
      gather-append given (1 + length m.buffers + length (push_says m.push)) (map values_say m.input.ins) (rest_says m)
      ∙ ap (λ r. r ++ gather given (1 + length m.buffers + length (push_says m.push) + length (map values_say m.input.ins)) (rest_says m)) (ce _)
      ∙ ap (λ r. c ++ r) (de _)
      )
      )

  buffers_given : AreNumbered 1 m.buffers → all buffer_in (says_of m) ≡ m.buffers
  buffers_given are =
      parts buffer_in m.buffers [] [] [] (gather_buffers 1 m.buffers are) (push_none buffer_in (λ n p. refl) _ m.push) (λ n. gather_none buffer_in values_say (λ k v. refl) n m.input.ins)
      (λ n. choices_none buffer_in (λ k ws. refl) _ m.input.choices) ∙ append-nil m.buffers

  push_given : IsNumbered (1 + length m.buffers) m.push → all push_in (says_of m) ≡ option_list m.push
  push_given is =
      parts push_in [] (option_list m.push) [] [] (gather_none push_in buffer_says (λ k b. refl) 1 m.buffers) (gather_push _ m.push is)
      (λ n. gather_none push_in values_say (λ k v. refl) n m.input.ins) (λ n. choices_none push_in (λ k ws. refl) _ m.input.choices) ∙ append-nil (option_list m.push)

  values_given : all values_in (says_of m) ≡ m.input.ins
  values_given =
      parts values_in [] [] m.input.ins [] (gather_none values_in buffer_says (λ k b. refl) 1 m.buffers) (push_none values_in (λ n p. refl) _ m.push)
      (λ n. gather_values n m.input.ins) (λ n. choices_none values_in (λ k ws. refl) _ m.input.choices) ∙ append-nil m.input.ins

  -- what one line of the rest gives
  rest_given : {A : Type 0} (given : ℕ → Meaning → List A) (d : List A) → ((n : ℕ) (b : BufferLine) → given n (buffer_says b) ≡ []) → ((n : ℕ) (p : List ℕ) → given n (Push p) ≡ []) →
      ((n : ℕ) (v : Located) → given n (values_say v) ≡ []) → ((n : ℕ) → gather given n (rest_says m) ≡ d) → all given (says_of m) ≡ d
  rest_given given d no_buffer no_push no_value rest =
      parts given [] [] [] d (gather_none given buffer_says no_buffer 1 m.buffers) (push_none given no_push _ m.push) (λ n. gather_none given values_say no_value n m.input.ins) rest

  group_given : all group_in (says_of m) ≡ m.input.group ∷ []
  group_given = rest_given group_in _ (λ n b. refl) (λ n p. refl) (λ n v. refl) (λ n. ap (λ r. m.input.group ∷ r) (choices_none group_in (λ k ws. refl) _ m.input.choices))

  local_given : all local_in (says_of m) ≡ m.input.local ∷ []
  local_given = rest_given local_in _ (λ n b. refl) (λ n p. refl) (λ n v. refl) (λ n. ap (λ r. m.input.local ∷ r) (choices_none local_in (λ k ws. refl) _ m.input.choices))

  groups_given : all groups_in (says_of m) ≡ m.input.groups ∷ []
  groups_given = rest_given groups_in _ (λ n b. refl) (λ n p. refl) (λ n v. refl) (λ n. ap (λ r. m.input.groups ∷ r) (choices_none groups_in (λ k ws. refl) _ m.input.choices))

  vertex_given : all vertex_in (says_of m) ≡ m.input.vertex ∷ []
  vertex_given = rest_given vertex_in _ (λ n b. refl) (λ n p. refl) (λ n v. refl) (λ n. ap (λ r. m.input.vertex ∷ r) (choices_none vertex_in (λ k ws. refl) _ m.input.choices))

  instance_given : all instance_in (says_of m) ≡ m.input.instance ∷ []
  instance_given = rest_given instance_in _ (λ n b. refl) (λ n p. refl) (λ n v. refl) (λ n. ap (λ r. m.input.instance ∷ r) (choices_none instance_in (λ k ws. refl) _ m.input.choices))

  steps_given : all steps_in (says_of m) ≡ m.steps ∷ []
  steps_given = rest_given steps_in _ (λ n b. refl) (λ n p. refl) (λ n v. refl) (λ n. ap (λ r. m.steps ∷ r) (choices_none steps_in (λ k ws. refl) _ m.input.choices))

  choices_given : all choices_in (says_of m) ≡ m.input.choices
  choices_given = rest_given choices_in _ (λ n b. refl) (λ n p. refl) (λ n v. refl) (λ n. choices_all _ m.input.choices)

  one_given : {A : Type 0} (xs : List A) (x : A) → xs ≡ x ∷ [] → length xs ≤ 1
  one_given xs x e = omega (arith, ap length e)

  one_push : (xs : List PushLine) (p : Option PushLine) → xs ≡ option_list p → length xs ≤ 1
  unfolding option_list
  one_push xs None e = omega (arith, ap length e)
  one_push xs (Some p) e = omega (arith, ap length e)

  first_push : (p : Option PushLine) → first (option_list p) ≡ p
  unfolding option_list
  first_push None = refl
  first_push (Some p) = refl

  once_given : IsPrintable m → StandOnce (says_of m)
  once_given can = record {
    buffers = ap (differ same_buffer) (buffers_given can.buffers) ∙ can.pairs;
    push = one_push (all push_in (says_of m)) m.push (push_given can.push);
    values = ap (differ same_location) values_given ∙ all_differ same_location IsLower value_apart m.input.ins can.proper.ins;
    group = one_given _ m.input.group group_given;
    local = one_given _ m.input.local local_given;
    groups = one_given _ m.input.groups groups_given;
    vertex = one_given _ m.input.vertex vertex_given;
    instance = one_given _ m.input.instance instance_given;
    steps = one_given _ m.steps steps_given;
  }

  whole_given : IsPrintable m → manifest_of (says_of m) ≡ m
  whole_given can =
      let b : all buffer_in (says_of m) ≡ m.buffers = buffers_given can.buffers in
      let v : in_order is_lower (all values_in (says_of m)) ≡ m.input.ins =
      ap (in_order is_lower) values_given ∙ stays is_lower m.input.ins (ascends_map IsLower (NotBefore is_lower) value_not_before m.input.ins can.proper.ins) in
      let p : first (all push_in (says_of m)) ≡ m.push = ap first (push_given can.push) ∙ first_push m.push in
      rw (b, p, v, group_given, local_given, groups_given, vertex_given, instance_given, choices_given, steps_given) (
      ap (λ bs. record m { input = record m.input { buffers = bs; push = None } }) (sym can.no_buffers)
      ∙ ap (λ q. record m { input = record m.input { push = q } }) (sym can.no_push)
      )

-- a printed manifest is read back
pub read_back : (m : Manifest) → IsPrintable m → AreManifest (lines_of (manifest_text m)) m
read_back m can = subst (AreManifest (lines_of (manifest_text m))) (whole_given m can) (written (says_of m) can.writable (once_given m can))
