-- What built-in functions give on components, one by one.
use Rattle.std.proofs.Common.{◌≡◌, refl, sym, ap, ◌∙◌, ℕ, zero, suc, ◌+◌, ◌<◌, ◌≤◌, Bool, List, [], ◌∷◌, ◌++◌, length, get_or, set, map, arith}
use Rattle.gsl_tree.specs.Operations.{builtin_each, component_at}
use Rattle.gsl_values.specs.Functions.{builtin_answer}
use Rattle.gsl_values.specs.declared.function.Builtin.{Builtin}
use Rattle.gsl_lanes.specs.declared.functions.Operand.{Operand}
use Rattle.gsl_lanes.specs.Operands.{Serve, words_at}
use Rattle.gsl_region.specs.Showing.{with_words}
use Rattle.gsl_region.proofs.Copies.{with_more}
use Rattle.gsl_slots.proofs.Held.{front_of}

-- ---- operands stay where they are

later : (o : Operand) (operands : List Operand) (at count : ℕ) → Serve (o ∷ operands) at count → Serve operands at count
later o operands at count serve i operand is = serve (suc i) operand is

stay : (operands : List Operand) (first new : List ℕ) (at count k : ℕ) → Serve operands at count → at ≤ length first
    → map (λ operand. component_at k (words_at (with_words first at new) operand)) operands ≡ map (component_at k) (map (words_at first) operands)
stay [] first new at count k serve room = refl
stay (o ∷ operands) first new at count k serve room =
    ap (λ w. component_at k w ∷ map (λ operand. component_at k (words_at (with_words first at new) operand)) operands) (front_of first new o.place o.count at (serve 0 o refl).0 room)
    ∙ ap (λ l. component_at k (words_at first o) ∷ l) (stay operands first new at count k (later o operands at count serve) room)

-- ---- one component more

module _ (which : Builtin) (signed : Bool) (args : List (List ℕ)) where
  each_long : (count from : ℕ) (choices : List ℕ) → length (builtin_each which signed args count from choices).0 ≡ count
  each_long zero from choices = refl
  each_long (suc count) from choices = ap suc (each_long count (from + 1) (builtin_answer which signed (map (component_at from) args) choices).1)

  abbrev answer_at : ℕ → List ℕ → ℕ × List ℕ
  answer_at k choices = builtin_answer which signed (map (component_at k) args) choices

  each_more : (count from k : ℕ) (choices : List ℕ) → k ≡ from + count → ((builtin_each which signed args (suc count) from choices).0 ≡ (builtin_each which signed args count from choices).0 ++ (answer_at k (builtin_each which signed args count from choices).1).0 ∷ [])
      × ((builtin_each which signed args (suc count) from choices).1 ≡ (answer_at k (builtin_each which signed args count from choices).1).1)
  each_more zero from k choices is = let same : from ≡ k = omega (arith, is) in (ap (λ n. (answer_at n choices).0 ∷ []) same, ap (λ n. (answer_at n choices).1) same)
  each_more (suc count) from k choices is =
      let more = each_more count (from + 1) k (answer_at from choices).1 (omega (arith, is)) in (ap (λ l. (answer_at from choices).0 ∷ l) more.0, more.1)

-- What is put and left behind so many components.
pub record IsGiven (which : Builtin) (signed : Bool) (args : List (List ℕ)) (choices first now : List ℕ) (at k : ℕ) (left : List ℕ) : Type 0 where
  pub words : now ≡ with_words first at (builtin_each which signed args k 0 choices).0
  pub choices_left : left ≡ (builtin_each which signed args k 0 choices).1

four_are : (which : Builtin) (signed : Bool) (a b c d : ℕ) (args choices : List ℕ) → a ≡ get_or args 0 0 → b ≡ get_or args 1 0 → c ≡ get_or args 2 0 → d ≡ get_or args 3 0
    → builtin_answer which signed (a ∷ b ∷ c ∷ d ∷ []) choices ≡ builtin_answer which signed args choices
unfolding builtin_answer
four_are which signed a b c d args choices first second third fourth =
    ap (λ x. builtin_answer which signed (x ∷ b ∷ c ∷ d ∷ []) choices) first ∙ ap (λ x. builtin_answer which signed (get_or args 0 0 ∷ x ∷ c ∷ d ∷ []) choices) second
    ∙ ap (λ x. builtin_answer which signed (get_or args 0 0 ∷ get_or args 1 0 ∷ x ∷ d ∷ []) choices) third ∙ ap (λ x. builtin_answer which signed (get_or args 0 0 ∷ get_or args 1 0 ∷ get_or args 2 0 ∷ x ∷ []) choices) fourth

pub given_more : (which : Builtin) (signed : Bool) (operands : List Operand) (choices first now : List ℕ) (at count k a b c d word : ℕ) (left after : List ℕ) → Serve operands at count → at + count ≤ length first → k < count
    → IsGiven which signed (map (words_at first) operands) choices first now at k left
    → a ≡ get_or (map (λ operand. component_at k (words_at now operand)) operands) 0 0 → b ≡ get_or (map (λ operand. component_at k (words_at now operand)) operands) 1 0
    → c ≡ get_or (map (λ operand. component_at k (words_at now operand)) operands) 2 0 → d ≡ get_or (map (λ operand. component_at k (words_at now operand)) operands) 3 0
    → word ≡ (builtin_answer which signed (a ∷ b ∷ c ∷ d ∷ []) left).0 → after ≡ (builtin_answer which signed (a ∷ b ∷ c ∷ d ∷ []) left).1
    → IsGiven which signed (map (words_at first) operands) choices first (set now (at + k) word) at (k + 1) after
given_more which signed operands choices first now at count k a b c d word left after serve room below is first_is second_is third_is fourth_is gives leaves =
    let args = map (words_at first) operands in
    let so_far = (builtin_each which signed args k 0 choices).0 in
    let row = map (λ operand. component_at k (words_at now operand)) operands in
    let row_is : map (λ operand. component_at k (words_at now operand)) operands ≡ map (component_at k) (map (words_at first) operands) =
    ap (λ l. map (λ operand. component_at k (words_at l operand)) operands) is.words ∙ stay operands first so_far at count k serve (omega (arith, room)) in
    let answer_is : builtin_answer which signed (a ∷ b ∷ c ∷ d ∷ []) left ≡ builtin_answer which signed (map (component_at k) (map (words_at first) operands)) (builtin_each which signed (map (words_at first) operands) k 0 choices).1 =
    four_are which signed a b c d row left first_is second_is third_is fourth_is ∙ ap (λ l. builtin_answer which signed l left) row_is ∙ ap (builtin_answer which signed (map (component_at k) args)) is.choices_left in
    let more = each_more which signed args k 0 k choices (omega arith) in
    let next : suc k ≡ k + 1 = omega arith in
    record {
      words = ap (λ l. set l (at + k) word) is.words ∙ with_more first so_far at (at + k) word (omega (arith, each_long which signed args k 0 choices)) (omega (arith, below, room))
          ∙ ap (with_words first at) (ap (λ w. so_far ++ w ∷ []) (gives ∙ ap (λ p. p.0) answer_is) ∙ sym more.0 ∙ ap (λ n. (builtin_each which signed args n 0 choices).0) next);
      choices_left = leaves ∙ ap (λ p. p.1) answer_is ∙ sym more.1 ∙ ap (λ n. (builtin_each which signed args n 0 choices).1) next;
    }
