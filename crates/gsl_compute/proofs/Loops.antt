-- Loops that go through lists.
use Rattle.std.proofs.Common.{◌≡◌, refl, sym, ap, ◌∙◌, subst, ℕ, suc, ◌+◌, ◌-◌, ◌<◌, ◌≤◌, min, Bool, false, true, ◌&&◌, List, [], ◌∷◌, ◌++◌, map, length, drop, get_or, slice_get, Some, arith, inl, inr, append_assoc, append-nil}
use Rattle.std.proofs.lemmas.Bool.{cases_lt}
use Rattle.std.proofs.lemmas.Option.{slice_get_within, get_or_from_slice_get}
use Rattle.std.proofs.lemmas.List.{drop_all}
use Rattle.std.proofs.Math.Seq.{drop-cons}
use Rattle.gsl_values.specs.declared.op.BinaryOp.{BinaryOp}
use Rattle.gsl_values.specs.Operators.{binary_answer}
use Rattle.gsl_values.specs.Vectors.{binary_each}
use Rattle.gsl_values.specs.Functions.{builtin_answer}
use Rattle.gsl_values.specs.declared.function.Builtin.{Builtin}
use Rattle.gsl_values.specs.declared.value.Value.{Value}
use Rattle.gsl_values.specs.declared.value.Value.TheVariants.{Word, Many, outs-Many, rolls-Many}
use Rattle.gsl_values.specs.declared.value.Value.TheOpen.{Value-F}
use Rattle.gsl_values.specs.declared.value.Value.TheViews.{out-Value}
use Rattle.gsl_values.specs.declared.value.Value.TheFolds.{fold-roll-Value}
use Rattle.gsl_tree.specs.Values.{parts_layer, all_pass, same_value, same_value_layer}
use Rattle.gsl_tree.specs.Operations.{component_at, builtin_each, index_value, member_value}
use Rattle.gsl_compute.specs.Columns.{column}

-- the rest at a place is the item there and what is behind it
pub opened : {X : Type 0} (xs : List X) (k : ℕ) (x : X) → slice_get xs k ≡ Some x → drop k xs ≡ x ∷ drop (k + 1) xs
opened xs k x is =
    drop-cons xs k x (slice_get_within xs k x is) ∙ ap (λ y. y ∷ drop (suc k) xs) (get_or_from_slice_get xs k x x is) ∙ ap (λ n. x ∷ drop n xs) (let e : suc k ≡ k + 1 = omega arith in e)

-- a list that gets what a function makes of each item
pub mapped : {X Y : Type 0} (f : X → Y) (xs : List X) (k : ℕ) (x : X) (front : List Y) → slice_get xs k ≡ Some x → front ++ map f (drop k xs) ≡ map f xs
    → (front ++ f x ∷ []) ++ map f (drop (k + 1) xs) ≡ map f xs
mapped f xs k x front is whole = append_assoc front (f x ∷ []) (map f (drop (k + 1) xs)) ∙ ap (λ l. front ++ map f l) (sym (opened xs k x is)) ∙ whole

pub mapped_end : {X Y : Type 0} (f : X → Y) (xs : List X) (k : ℕ) (front : List Y) → length xs ≤ k → front ++ map f (drop k xs) ≡ map f xs → front ≡ map f xs
mapped_end f xs k front past whole = sym (append-nil front) ∙ ap (λ l. front ++ map f l) (sym (drop_all k xs past)) ∙ whole

pub copied : {X : Type 0} (xs : List X) (k : ℕ) (x : X) (front : List X) → slice_get xs k ≡ Some x → front ++ drop k xs ≡ xs → (front ++ x ∷ []) ++ drop (k + 1) xs ≡ xs
copied xs k x front is whole = append_assoc front (x ∷ []) (drop (k + 1) xs) ∙ ap (λ l. front ++ l) (sym (opened xs k x is)) ∙ whole

pub copied_end : {X : Type 0} (xs : List X) (k : ℕ) (front : List X) → length xs ≤ k → front ++ drop k xs ≡ xs → front ≡ xs
copied_end xs k front past whole = sym (append-nil front) ∙ ap (λ l. front ++ l) (sym (drop_all k xs past)) ∙ whole

-- what was given so far and what is given from here on is all that is given, and the same choices are left
pub record RunsOn (front : List ℕ) (rest whole : List ℕ × List ℕ) : Type 0 where
  pub words : front ++ rest.0 ≡ whole.0
  pub left : rest.1 ≡ whole.1

pub runs_step : (front : List ℕ) (word : ℕ) (rest whole : List ℕ × List ℕ) → RunsOn front (word ∷ rest.0, rest.1) whole → RunsOn (front ++ word ∷ []) rest whole
runs_step front word rest whole so_far = record { words = append_assoc front (word ∷ []) rest.0 ∙ so_far.words; left = so_far.left }

pub each_at : (op : BinaryOp) (signed : Bool) (xs ys : List ℕ) (k x y : ℕ) (c : List ℕ) → slice_get xs k ≡ Some x → slice_get ys k ≡ Some y
    → binary_each op signed (drop k xs) (drop k ys) c
    ≡ (
      (binary_answer op signed x y c).0 ∷ (binary_each op signed (drop (k + 1) xs) (drop (k + 1) ys) (binary_answer op signed x y c).1).0,
      (binary_each op signed (drop (k + 1) xs) (drop (k + 1) ys) (binary_answer op signed x y c).1).1,
    )
each_at op signed xs ys k x y c at_x at_y =
    ap (λ l. binary_each op signed l (drop k ys) c) (opened xs k x at_x) ∙ ap (λ l. binary_each op signed (x ∷ drop (k + 1) xs) l c) (opened ys k y at_y)

no_right : (op : BinaryOp) (signed : Bool) (xs c : List ℕ) → binary_each op signed xs [] c ≡ ([], c)
no_right op signed [] c = refl
no_right op signed (x ∷ xs) c = refl

pub each_end_left : (op : BinaryOp) (signed : Bool) (xs ys : List ℕ) (k : ℕ) (c : List ℕ) → length xs ≤ k → binary_each op signed (drop k xs) (drop k ys) c ≡ ([], c)
each_end_left op signed xs ys k c past = ap (λ l. binary_each op signed l (drop k ys) c) (drop_all k xs past)

pub each_end_right : (op : BinaryOp) (signed : Bool) (xs ys : List ℕ) (k : ℕ) (c : List ℕ) → length ys ≤ k → binary_each op signed (drop k xs) (drop k ys) c ≡ ([], c)
each_end_right op signed xs ys k c past = ap (λ l. binary_each op signed (drop k xs) l c) (drop_all k ys past) ∙ no_right op signed (drop k xs) c

pub runs_end : (front c : List ℕ) (whole : List ℕ × List ℕ) → RunsOn front ([], c) whole → (front ≡ whole.0) × (c ≡ whole.1)
runs_end front c whole so_far = (sym (append-nil front) ∙ so_far.words, so_far.left)

-- the loops above, as the code pushes
pub pushed : {X Y : Type 0} (f : X → Y) (xs : List X) (k : ℕ) (x : X) (front new : List Y) (y : Y) → new ≡ front ++ y ∷ [] → y ≡ f x → slice_get xs k ≡ Some x → front ++ map f (drop k xs) ≡ map f xs
    → new ++ map f (drop (k + 1) xs) ≡ map f xs
pushed f xs k x front new y is made at_k whole = ap (λ l. l ++ map f (drop (k + 1) xs)) (is ∙ ap (λ z. front ++ z ∷ []) made) ∙ mapped f xs k x front at_k whole

pub copied_on : {X : Type 0} (xs : List X) (k : ℕ) (x : X) (front new : List X) (y : X) → new ≡ front ++ y ∷ [] → y ≡ x → slice_get xs k ≡ Some x → front ++ drop k xs ≡ xs → new ++ drop (k + 1) xs ≡ xs
copied_on xs k x front new y is made at_k whole = ap (λ l. l ++ drop (k + 1) xs) (is ∙ ap (λ z. front ++ z ∷ []) made) ∙ copied xs k x front at_k whole

-- a word that is drawn and pushed
pub pushed_on : (front new : List ℕ) (given : ℕ) (left : List ℕ) (rest : List ℕ → List ℕ × List ℕ) (whole : List ℕ × List ℕ) (word : ℕ) (next : List ℕ)
    → new ≡ front ++ given ∷ [] → given ≡ word → left ≡ next → RunsOn front (word ∷ (rest next).0, (rest next).1) whole → RunsOn new (rest left) whole
pushed_on front new given left rest whole word next is made same so_far =
    subst (λ l. RunsOn l (rest left) whole) (sym (is ∙ ap (λ w. front ++ w ∷ []) made))
    (subst (λ c. RunsOn (front ++ word ∷ []) (rest c) whole) (sym same) (runs_step front word (rest next) whole so_far))

none_left : (op : BinaryOp) (signed : Bool) (xs ys : List ℕ) (k : ℕ) (c : List ℕ) → min (length xs) (length ys) ≤ k → binary_each op signed (drop k xs) (drop k ys) c ≡ ([], c)
none_left op signed xs ys k c past =
    elim (cases_lt k (length xs)) as (λ _. binary_each op signed (drop k xs) (drop k ys) c ≡ ([], c)) [
      | inl long ↦ each_end_right op signed xs ys k c (omega (arith, past, long))
      | inr short ↦ each_end_left op signed xs ys k c short
    ]

-- behind the shorter of two lists all was given
pub both_done : (op : BinaryOp) (signed : Bool) (xs ys : List ℕ) (k : ℕ) (c front : List ℕ) (whole : List ℕ × List ℕ) → min (length xs) (length ys) ≤ k
    → RunsOn front (binary_each op signed (drop k xs) (drop k ys) c) whole → (front ≡ whole.0) × (c ≡ whole.1)
both_done op signed xs ys k c front whole past so_far = runs_end front c whole (subst (λ r. RunsOn front r whole) (none_left op signed xs ys k c past) so_far)

-- a row of lists, one behind the other
pub joined_on : {X : Type 0} (f : X → List ℕ) (join : List X → List ℕ) (opens : (x : X) (xs : List X) → join (x ∷ xs) ≡ f x ++ join xs) (xs : List X) (k : ℕ) (x : X) (front new more : List ℕ)
    → new ≡ front ++ more → more ≡ f x → slice_get xs k ≡ Some x → front ++ join (drop k xs) ≡ join xs → new ++ join (drop (k + 1) xs) ≡ join xs
joined_on f join opens xs k x front new more is made at_k whole =
    ap (λ l. l ++ join (drop (k + 1) xs)) (is ∙ ap (λ m. front ++ m) made) ∙ append_assoc front (f x) (join (drop (k + 1) xs))
    ∙ ap (λ l. front ++ l) (sym (opens x (drop (k + 1) xs)) ∙ ap join (sym (opened xs k x at_k))) ∙ whole

-- ---- tests of items side by side

pub and_on : (b r w s : Bool) → b ≡ true → w ≡ (b && r) → w ≡ s → r ≡ s
and_on b r w s is opens same = sym (opens ∙ ap (λ x. x && r) is) ∙ same

pub and_stops : (b r w s : Bool) → b ≡ false → w ≡ (b && r) → w ≡ s → false ≡ s
and_stops b r w s is opens same = sym (opens ∙ ap (λ x. x && r) is) ∙ same

pub all_at : (xs ys : List Value) (k : ℕ) (x y : Value) → slice_get xs k ≡ Some x → slice_get ys k ≡ Some y
    → all_pass (map same_value (drop k xs)) (drop k ys) ≡ (same_value x y && all_pass (map same_value (drop (k + 1) xs)) (drop (k + 1) ys))
all_at xs ys k x y at_x at_y =
    ap (λ l. all_pass (map same_value l) (drop k ys)) (opened xs k x at_x) ∙ ap (λ l. all_pass (map same_value (x ∷ drop (k + 1) xs)) l) (opened ys k y at_y)

second : (a b : Bool) → false ≡ b → false ≡ (a && b)
second true b is = is
second false b is = refl

pub all_differ : (xs ys : List Value) → (length xs ≡ length ys → ⊥) → false ≡ all_pass (map same_value xs) ys
all_differ [] [] apart = let no : ⊥ = apart refl in elim no [ ]
all_differ [] (y ∷ ys) apart = refl
all_differ (x ∷ xs) [] apart = refl
all_differ (x ∷ xs) (y ∷ ys) apart = second (same_value x y) (all_pass (map same_value xs) ys) (all_differ xs ys (λ same. apart (omega (arith, same))))

-- ---- built-in functions

pub column_answer : (which : Builtin) (signed : Bool) (rows : List (List ℕ)) (k : ℕ) (c : List ℕ) → builtin_answer which signed (column rows k) c ≡ builtin_answer which signed (map (component_at k) rows) c
unfolding builtin_answer
column_answer which signed [] k c = refl
column_answer which signed (p ∷ []) k c = refl
column_answer which signed (p ∷ q ∷ []) k c = refl
column_answer which signed (p ∷ q ∷ r ∷ []) k c = refl
column_answer which signed (p ∷ q ∷ r ∷ s ∷ rest) k c = refl

pub builtin_at : (which : Builtin) (signed : Bool) (rows : List (List ℕ)) (count k : ℕ) (c : List ℕ) → k < count
    → builtin_each which signed rows (count - k) k c
    ≡ (
      (builtin_answer which signed (column rows k) c).0 ∷ (builtin_each which signed rows (count - (k + 1)) (k + 1) (builtin_answer which signed (column rows k) c).1).0,
      (builtin_each which signed rows (count - (k + 1)) (k + 1) (builtin_answer which signed (column rows k) c).1).1,
    )
builtin_at which signed rows count k c within =
    ap (λ n. builtin_each which signed rows n k c) (let e : count - k ≡ suc (count - (k + 1)) = omega (arith, within) in e)
    ∙ ap (λ (a : ℕ × List ℕ). (a.0 ∷ (builtin_each which signed rows (count - (k + 1)) (k + 1) a.1).0, (builtin_each which signed rows (count - (k + 1)) (k + 1) a.1).1)) (sym (column_answer which signed rows k c))

-- ---- parts of what has parts

pub index_of_many : (parts : List Value) (i : ℕ) → index_value (Many parts) i ≡ slice_get parts i
index_of_many parts i = ap (λ l. slice_get (parts_layer l) i) (outs-Many parts)

pub member_of_many : (parts : List Value) (i : ℕ) → member_value (Many parts) i ≡ get_or parts i (Word 0)
member_of_many parts i = ap (λ l. get_or (parts_layer l) i (Word 0)) (outs-Many parts)

pub same_of_many : (xs ys : List Value) (a b : Value) → a ≡ Many xs → b ≡ Many ys → all_pass (map same_value xs) ys ≡ same_value a b
same_of_many xs ys a b a_is b_is =
    sym (ap (λ (test : Value → Bool). test b) (ap same_value (a_is ∙ sym (rolls-Many xs)) ∙ fold-roll-Value (Value → Bool) (λ layer other. same_value_layer layer (out-Value other)) (Value-F.Many xs))
    ∙ ap (λ v. same_value_layer (Value-F.Many (map same_value xs)) (out-Value v)) b_is ∙ ap (same_value_layer (Value-F.Many (map same_value xs))) (outs-Many ys))

pub all_done : (xs ys : List Value) (k : ℕ) (whole : Bool) (end : ℕ) → end ≡ length xs → end ≤ k → length xs ≡ length ys → all_pass (map same_value (drop k xs)) (drop k ys) ≡ whole → true ≡ whole
all_done xs ys k whole end is past same so_far =
    sym (ap (λ l. all_pass (map same_value l) (drop k ys)) (drop_all k xs (omega (arith, is, past))) ∙ ap (all_pass []) (drop_all k ys (omega (arith, is, past, same)))) ∙ so_far
