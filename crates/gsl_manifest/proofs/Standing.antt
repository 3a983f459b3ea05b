-- What a draft holds of the lines that were read, and when one line more may stand.
use Rattle.std.proofs.Common.{◌≡◌, ℕ, ◌+◌, ◌≤◌, Bool, true, false, cond, ◌&&◌, ◌||◌, not, List, [], ◌∷◌, ◌++◌, length, Option, Some, refl, ap, sym, subst, ◌∙◌, arith, append-nil, append_assoc, length-append, eqb, inl, inr}
use Rattle.std.proofs.lemmas.Bool.{and_parts, and_from, or_parts, not-true, not_from_false, true≢false, cases_eq, eq-eqb, ne_eqb}
use Rattle.std.proofs.lemmas.List.Folds.{list_any-append}
use Rattle.std.specs.Prelude.{fold}
use Rattle.std.specs.List.{list_any}
use Rattle.std.specs.Option.{is_some}
use Rattle.gsl_base.specs.declared.input.Located.{Located}
use Rattle.gsl_manifest.specs.declared.meaning.Meaning.{Meaning}
use Rattle.gsl_manifest.specs.declared.meaning.Meaning.TheVariants.{Nothing, Buffer, Push, In, Group, Local, Groups, Vertex, Instance, Choice, Steps}
use Rattle.gsl_manifest.specs.declared.manifest.BufferLine.{BufferLine}
use Rattle.gsl_manifest.specs.declared.draft.Draft.{Draft}
use Rattle.gsl_manifest.specs.Manifests.{buffer_in, push_in, values_in, group_in, local_in, groups_in, vertex_in, instance_in, choices_in, steps_in, gather, all, same_buffer, same_location, differ, StandOnce, is_lower, place, in_order, first}
use Rattle.gsl_manifest.specs.Drafts.{empty}

gather_more : {A : Type 0} (given : ℕ → Meaning → List A) (n : ℕ) (says : List Meaning) (m : Meaning) → gather given n (says ++ m ∷ []) ≡ gather given n says ++ given (n + length says) m
gather_more given n [] m = append-nil (given n m) ∙ ap (λ k. given k m) (omega arith)
gather_more given n (s ∷ says) m =
    let k : n + 1 + length says ≡ n + length (s ∷ says) = omega arith in
    ap (λ r. given n s ++ r) (gather_more given (n + 1) says m ∙ ap (λ j. gather given (n + 1) says ++ given j m) k)
    ∙ sym (append_assoc (given n s) (gather given (n + 1) says) (given (n + length (s ∷ says)) m))

-- one line more
pub all_more : {A : Type 0} (given : ℕ → Meaning → List A) (n : ℕ) (says : List Meaning) (m : Meaning) → n ≡ 1 + length says → all given (says ++ m ∷ []) ≡ all given says ++ given n m
all_more given n says m is = gather_more given 1 says m ∙ ap (λ k. all given says ++ given k m) (sym is)

-- whether a value may be given, where one is given already or none
abbrev pub lone : {A : Type 0} → Option A → List A → Bool
lone given [] = true
lone given (x ∷ xs) = not (is_some given)

-- whether an item may be given among others
abbrev pub apart : {A : Type 0} → (A → A → Bool) → List A → List A → Bool
apart same given [] = true
apart same given (x ∷ xs) = not (list_any (same x) given)

-- the value that was given first, or is given now
abbrev pub later : {A : Type 0} → Option A → List A → Option A
later given [] = given
later given (x ∷ xs) = Some x

abbrev pub with_more : {A : Type 0} → List A → List A → List A
with_more given [] = given
with_more given (x ∷ xs) = given ++ x ∷ xs

pub with_more_is : {A : Type 0} (given xs : List A) → with_more given xs ≡ given ++ xs
with_more_is given [] = sym (append-nil given)
with_more_is given (x ∷ xs) = refl

abbrev pub with_place : {A : Type 0} → (A → A → Bool) → List A → List A → List A
with_place before given [] = given
with_place before given (x ∷ xs) = place before x given

-- one value at most
lone_more : {A : Type 0} (xs ys : List A) (given : Option A) → given ≡ first xs → length xs ≤ 1 → length ys ≤ 1 → lone given ys ≡ true → length (xs ++ ys) ≤ 1
lone_more [] ys given is one few free = few
lone_more (x ∷ xs) [] given is one few free = omega (arith, ap length (append-nil (x ∷ xs)))
lone_more (x ∷ xs) (y ∷ ys) given is one few free = absurd (true≢false (sym free ∙ ap (λ o. not (is_some o)) is))

-- and no more where there was one
lone_back : {A : Type 0} (xs : List A) (y : A) (given : Option A) → given ≡ first xs → length (xs ++ y ∷ []) ≤ 1 → not (is_some given) ≡ true
lone_back [] y given is few = ap (λ o. not (is_some o)) is
lone_back (x ∷ xs) y given is few = absurd (omega (arith, length-append xs (y ∷ [])))

first_more : {A : Type 0} (xs ys : List A) (given : Option A) → given ≡ first xs → lone given ys ≡ true → later given ys ≡ first (xs ++ ys)
first_more xs [] given is free = is ∙ ap first (sym (append-nil xs))
first_more [] (y ∷ ys) given is free = refl
first_more (x ∷ xs) (y ∷ ys) given is free = absurd (true≢false (sym free ∙ ap (λ o. not (is_some o)) is))

pub any_place : {A : Type 0} (before : A → A → Bool) (test : A → Bool) (x : A) (ys : List A) → list_any test (place before x ys) ≡ (test x || list_any test ys)
any_place before test x [] = refl
any_place before test x (y ∷ ys) =
    elim (before x y) as (λ t. list_any test (cond t (x ∷ y ∷ ys) (y ∷ place before x ys)) ≡ (test x || (test y || list_any test ys))) [
      | true ↦ refl
      | false ↦ ap (λ r. test y || r) (any_place before test x ys) ∙ or_swap (test y) (test x) (list_any test ys)
    ]
  where
    or_swap : (a b c : Bool) → (a || (b || c)) ≡ (b || (a || c))
    or_swap true true c = refl
    or_swap true false c = refl
    or_swap false true c = refl
    or_swap false false c = refl

module _ {A : Type 0} (before : A → A → Bool) where
  abbrev put_in : List A → A → List A
  put_in placed x = place before x placed

  order_onto : (acc xs : List A) (x : A) → fold put_in acc (xs ++ x ∷ []) ≡ place before x (fold put_in acc xs)
  order_onto acc [] x = refl
  order_onto acc (y ∷ xs) x = order_onto (place before y acc) xs x

  order_more : (xs ys given : List A) → given ≡ in_order before xs → length ys ≤ 1 → with_place before given ys ≡ in_order before (xs ++ ys)
  order_more xs [] given is few = is ∙ ap (in_order before) (sym (append-nil xs))
  order_more xs (y ∷ []) given is few = ap (place before y) is ∙ sym (order_onto [] xs y)
  order_more xs (y ∷ z ∷ ys) given is few = absurd (omega arith)

  or_move : (a b c : Bool) → ((b || a) || c) ≡ (a || (b || c))
  or_move true true c = refl
  or_move true false c = refl
  or_move false true c = refl
  or_move false false c = refl

  any_onto : (test : A → Bool) (acc xs : List A) → list_any test (fold put_in acc xs) ≡ (list_any test acc || list_any test xs)
  any_onto test acc [] = sym (or_end (list_any test acc))
    where
      or_end : (a : Bool) → (a || false) ≡ a
      or_end true = refl
      or_end false = refl
  any_onto test acc (x ∷ xs) =
      any_onto test (place before x acc) xs ∙ ap (λ b. b || list_any test xs) (any_place before test x acc)
      ∙ or_move (list_any test acc) (test x) (list_any test xs)

  any_order : (test : A → Bool) (xs given : List A) → given ≡ in_order before xs → list_any test given ≡ list_any test xs
  any_order test xs given is = ap (list_any test) is ∙ any_onto test [] xs

module _ {A : Type 0} (same : A → A → Bool) (either : (a b : A) → same a b ≡ same b a) where
  differ_one : (xs : List A) (x : A) → differ same xs ≡ true → list_any (same x) xs ≡ false → differ same (xs ++ x ∷ []) ≡ true
  differ_one [] x apart_now none = refl
  differ_one (y ∷ xs) x apart_now none =
      let parts = and_parts _ _ apart_now in
      let others = or_parts _ _ none in
      let here : list_any (same y) (xs ++ x ∷ []) ≡ false =
      list_any-append (same y) xs (x ∷ []) ∙ or_both _ _ (not-true _ parts.0) (or_both _ false (either y x ∙ others.0) refl) in
      and_from _ _ (not_from_false _ here) (differ_one xs x parts.1 others.1)
    where
      or_both : (a b : Bool) → a ≡ false → b ≡ false → (a || b) ≡ false
      or_both a b e f = ap (λ t. t || b) e ∙ f

  differ_back : (xs : List A) (x : A) → differ same (xs ++ x ∷ []) ≡ true → list_any (same x) xs ≡ false
  differ_back [] x apart_now = refl
  differ_back (y ∷ xs) x apart_now =
      let parts = and_parts _ _ apart_now in
      let here = or_parts (list_any (same y) xs) _ (sym (list_any-append (same y) xs (x ∷ [])) ∙ not-true _ parts.0) in
      let apart_here = or_parts (same y x) false here.1 in
      or_both _ _ (either x y ∙ apart_here.0) (differ_back xs x parts.1)
    where
      or_both : (a b : Bool) → a ≡ false → b ≡ false → (a || b) ≡ false
      or_both a b e f = ap (λ t. t || b) e ∙ f

  differ_more : (before : A → A → Bool) (xs ys given : List A) → given ≡ in_order before xs → differ same xs ≡ true → length ys ≤ 1 → apart same given ys ≡ true → differ same (xs ++ ys) ≡ true
  differ_more before xs [] given is now few free = ap (differ same) (append-nil xs) ∙ now
  differ_more before xs (y ∷ []) given is now few free = differ_one xs y now (sym (any_order before (same y) xs given is) ∙ not-true _ free)
  differ_more before xs (y ∷ z ∷ ys) given is now few free = absurd (omega arith)

  apart_back : (before : A → A → Bool) (xs given : List A) (y : A) → given ≡ in_order before xs → differ same (xs ++ y ∷ []) ≡ true → not (list_any (same y) given) ≡ true
  apart_back before xs given y is now = not_from_false _ (any_order before (same y) xs given is ∙ differ_back xs y now)

-- an order in which each item stands behind those before it
abbrev in_turn : BufferLine → BufferLine → Bool
in_turn a b = false

turns_onto : (acc xs : List BufferLine) → fold (λ placed x. place in_turn x placed) acc xs ≡ acc ++ xs
turns_onto acc [] = sym (append-nil acc)
turns_onto acc (x ∷ xs) = ap (λ placed. fold (λ placed x. place in_turn x placed) placed xs) (last acc) ∙ turns_onto (acc ++ x ∷ []) xs ∙ append_assoc acc (x ∷ []) xs
  where
    last : (ys : List BufferLine) → place in_turn x ys ≡ ys ++ x ∷ []
    last [] = refl
    last (y ∷ ys) = ap (λ r. y ∷ r) (last ys)

turns : (xs : List BufferLine) → in_order in_turn xs ≡ xs
turns xs = turns_onto [] xs

-- The draft holds what the lines say.
pub record Stands (says : List Meaning) (d : Draft) : Type 0 where
  pub buffers : d.buffers ≡ all buffer_in says
  pub push : d.push ≡ first (all push_in says)
  pub values : d.ins ≡ in_order is_lower (all values_in says)
  pub group : d.group ≡ first (all group_in says)
  pub local : d.local ≡ first (all local_in says)
  pub groups : d.groups ≡ first (all groups_in says)
  pub vertex : d.vertex ≡ first (all vertex_in says)
  pub instance : d.instance ≡ first (all instance_in says)
  pub choices : d.choices ≡ all choices_in says
  pub steps : d.steps ≡ first (all steps_in says)

pub none_stand : Stands [] empty
none_stand = record {
  buffers = refl;
  push = refl;
  values = refl;
  group = refl;
  local = refl;
  groups = refl;
  vertex = refl;
  instance = refl;
  choices = refl;
  steps = refl;
}

pub none_once : StandOnce []
none_once = record {
  buffers = refl;
  push = omega arith;
  values = refl;
  group = omega arith;
  local = omega arith;
  groups = omega arith;
  vertex = omega arith;
  instance = omega arith;
  steps = omega arith;
}

-- The line may stand behind those of the draft.
pub record MayStand (n : ℕ) (m : Meaning) (d : Draft) : Type 0 where
  pub buffers : apart same_buffer d.buffers (buffer_in n m) ≡ true
  pub push : lone d.push (push_in n m) ≡ true
  pub values : apart same_location d.ins (values_in n m) ≡ true
  pub group : lone d.group (group_in n m) ≡ true
  pub local : lone d.local (local_in n m) ≡ true
  pub groups : lone d.groups (groups_in n m) ≡ true
  pub vertex : lone d.vertex (vertex_in n m) ≡ true
  pub instance : lone d.instance (instance_in n m) ≡ true
  pub steps : lone d.steps (steps_in n m) ≡ true

-- the draft with what line n says
abbrev pub with_line : ℕ → Meaning → Draft → Draft
with_line n m d = record {
  buffers = with_more d.buffers (buffer_in n m);
  push = later d.push (push_in n m);
  ins = with_place is_lower d.ins (values_in n m);
  group = later d.group (group_in n m);
  local = later d.local (local_in n m);
  groups = later d.groups (groups_in n m);
  vertex = later d.vertex (vertex_in n m);
  instance = later d.instance (instance_in n m);
  choices = with_more d.choices (choices_in n m);
  steps = later d.steps (steps_in n m);
}

-- A line gives one item of a kind at most.
record GivesOne (n : ℕ) (m : Meaning) : Type 0 where
  buffers : length (buffer_in n m) ≤ 1
  push : length (push_in n m) ≤ 1
  values : length (values_in n m) ≤ 1
  group : length (group_in n m) ≤ 1
  local : length (local_in n m) ≤ 1
  groups : length (groups_in n m) ≤ 1
  vertex : length (vertex_in n m) ≤ 1
  instance : length (instance_in n m) ≤ 1
  steps : length (steps_in n m) ≤ 1

gives_one : (n : ℕ) (m : Meaning) → GivesOne n m
gives_one n Nothing = record { buffers = omega arith; push = omega arith; values = omega arith; group = omega arith; local = omega arith; groups = omega arith; vertex = omega arith; instance = omega arith; steps = omega arith }
gives_one n (Buffer set binding path) = record { buffers = omega arith; push = omega arith; values = omega arith; group = omega arith; local = omega arith; groups = omega arith; vertex = omega arith; instance = omega arith; steps = omega arith }
gives_one n (Push path) = record { buffers = omega arith; push = omega arith; values = omega arith; group = omega arith; local = omega arith; groups = omega arith; vertex = omega arith; instance = omega arith; steps = omega arith }
gives_one n (In location words) = record { buffers = omega arith; push = omega arith; values = omega arith; group = omega arith; local = omega arith; groups = omega arith; vertex = omega arith; instance = omega arith; steps = omega arith }
gives_one n (Group ids) = record { buffers = omega arith; push = omega arith; values = omega arith; group = omega arith; local = omega arith; groups = omega arith; vertex = omega arith; instance = omega arith; steps = omega arith }
gives_one n (Local ids) = record { buffers = omega arith; push = omega arith; values = omega arith; group = omega arith; local = omega arith; groups = omega arith; vertex = omega arith; instance = omega arith; steps = omega arith }
gives_one n (Groups ids) = record { buffers = omega arith; push = omega arith; values = omega arith; group = omega arith; local = omega arith; groups = omega arith; vertex = omega arith; instance = omega arith; steps = omega arith }
gives_one n (Vertex id) = record { buffers = omega arith; push = omega arith; values = omega arith; group = omega arith; local = omega arith; groups = omega arith; vertex = omega arith; instance = omega arith; steps = omega arith }
gives_one n (Instance id) = record { buffers = omega arith; push = omega arith; values = omega arith; group = omega arith; local = omega arith; groups = omega arith; vertex = omega arith; instance = omega arith; steps = omega arith }
gives_one n (Choice words) = record { buffers = omega arith; push = omega arith; values = omega arith; group = omega arith; local = omega arith; groups = omega arith; vertex = omega arith; instance = omega arith; steps = omega arith }
gives_one n (Steps k) = record { buffers = omega arith; push = omega arith; values = omega arith; group = omega arith; local = omega arith; groups = omega arith; vertex = omega arith; instance = omega arith; steps = omega arith }

eqb_either : (a b : ℕ) → eqb a b ≡ eqb b a
eqb_either a b = elim (cases_eq a b) [
  | inl same ↦ eq-eqb a b same ∙ sym (eq-eqb b a (sym same))
  | inr other ↦ ne_eqb a b other ∙ sym (ne_eqb b a (λ e. other (sym e)))
]

pub buffer_either : (a b : BufferLine) → same_buffer a b ≡ same_buffer b a
buffer_either a b = ap (λ t. t && eqb a.binding b.binding) (eqb_either a.set b.set) ∙ ap (λ t. eqb b.set a.set && t) (eqb_either a.binding b.binding)

pub location_either : (a b : Located) → same_location a b ≡ same_location b a
location_either a b = eqb_either a.location b.location

module _ (n : ℕ) (says : List Meaning) (m : Meaning) (d : Draft) (is : n ≡ 1 + length says) (stands : Stands says d) where
  one_more : {A : Type 0} (given : ℕ → Meaning → List A) (have : Option A) → have ≡ first (all given says) → length (all given says) ≤ 1 → length (given n m) ≤ 1 → lone have (given n m) ≡ true → length (all given (says ++ m ∷ [])) ≤ 1
  one_more given have held few one free = subst (λ k. k ≤ 1) (sym (ap length (all_more given n says m is))) (lone_more (all given says) (given n m) have held few one free)

  held_more : {A : Type 0} (given : ℕ → Meaning → List A) (have : Option A) → have ≡ first (all given says) → lone have (given n m) ≡ true → later have (given n m) ≡ first (all given (says ++ m ∷ []))
  held_more given have held free = first_more (all given says) (given n m) have held free ∙ ap first (sym (all_more given n says m is))

  -- a line that may stand
  pub once_more : StandOnce says → MayStand n m d → StandOnce (says ++ m ∷ [])
  once_more once may = let one = gives_one n m in record {
    buffers = ap (differ same_buffer) (all_more buffer_in n says m is) ∙ differ_more same_buffer buffer_either in_turn (all buffer_in says) (buffer_in n m) d.buffers (stands.buffers ∙ sym (turns (all buffer_in says))) once.buffers one.buffers may.buffers;
    push = one_more push_in d.push stands.push once.push one.push may.push;
    values = ap (differ same_location) (all_more values_in n says m is) ∙ differ_more same_location location_either is_lower (all values_in says) (values_in n m) d.ins stands.values once.values one.values may.values;
    group = one_more group_in d.group stands.group once.group one.group may.group;
    local = one_more local_in d.local stands.local once.local one.local may.local;
    groups = one_more groups_in d.groups stands.groups once.groups one.groups may.groups;
    vertex = one_more vertex_in d.vertex stands.vertex once.vertex one.vertex may.vertex;
    instance = one_more instance_in d.instance stands.instance once.instance one.instance may.instance;
    steps = one_more steps_in d.steps stands.steps once.steps one.steps may.steps;
  }

  pub stands_more : MayStand n m d → Stands (says ++ m ∷ []) (with_line n m d)
  stands_more may = let one = gives_one n m in record {
    buffers = with_more_is d.buffers (buffer_in n m) ∙ ap (λ c. c ++ buffer_in n m) stands.buffers ∙ sym (all_more buffer_in n says m is);
    push = held_more push_in d.push stands.push may.push;
    values = order_more is_lower (all values_in says) (values_in n m) d.ins stands.values one.values ∙ ap (in_order is_lower) (sym (all_more values_in n says m is));
    group = held_more group_in d.group stands.group may.group;
    local = held_more local_in d.local stands.local may.local;
    groups = held_more groups_in d.groups stands.groups may.groups;
    vertex = held_more vertex_in d.vertex stands.vertex may.vertex;
    instance = held_more instance_in d.instance stands.instance may.instance;
    choices = with_more_is d.choices (choices_in n m) ∙ ap (λ c. c ++ choices_in n m) stands.choices ∙ sym (all_more choices_in n says m is);
    steps = held_more steps_in d.steps stands.steps may.steps;
  }

  pub one_back : {A : Type 0} (given : ℕ → Meaning → List A) (have : Option A) (x : A) → given n m ≡ x ∷ [] → have ≡ first (all given says) → length (all given (says ++ m ∷ [])) ≤ 1 → not (is_some have) ≡ true
  one_back given have x here held few =
      lone_back (all given says) x have held (subst (λ k. k ≤ 1) (ap length (all_more given n says m is ∙ ap (λ r. all given says ++ r) here)) few)

  pub buffer_back : (x : BufferLine) → buffer_in n m ≡ x ∷ [] → differ same_buffer (all buffer_in (says ++ m ∷ [])) ≡ true → not (list_any (same_buffer x) d.buffers) ≡ true
  buffer_back x here now =
      apart_back same_buffer buffer_either in_turn (all buffer_in says) d.buffers x (stands.buffers ∙ sym (turns (all buffer_in says)))
      (ap (differ same_buffer) (sym (all_more buffer_in n says m is ∙ ap (λ r. all buffer_in says ++ r) here)) ∙ now)

  pub values_back : (x : Located) → values_in n m ≡ x ∷ [] → differ same_location (all values_in (says ++ m ∷ [])) ≡ true → not (list_any (same_location x) d.ins) ≡ true
  values_back x here now =
      apart_back same_location location_either is_lower (all values_in says) d.ins x stands.values
      (ap (differ same_location) (sym (all_more values_in n says m is ∙ ap (λ r. all values_in says ++ r) here)) ∙ now)
