-- What the operators give on vectors, component by component (GLSL 4.50, 5.9).
use Rattle.std.specs.Prelude.{ℕ, ◌≤◌, Bool, List, [], ◌∷◌, take, length, slice_index}
use Rattle.gsl_values.specs.declared.op.BinaryOp.{BinaryOp}
use Rattle.gsl_values.specs.declared.lane.Lanes.{Lanes}
use Rattle.gsl_values.specs.Operators.{binary_answer}

-- there are 1 to 4 components, and a word for each
abbrev pub IsLanes : Lanes → Type 0
IsLanes lanes = (1 ≤ lanes.count) × (lanes.count ≤ 4) × (lanes.count ≤ length lanes.words)

-- the words of the components, lowest first
abbrev pub components : Lanes → List ℕ
components lanes = take lanes.count lanes.words

-- the lanes of up to 4 components, with 0 past the last
abbrev pub lanes_of : List ℕ → Lanes
lanes_of words = record {
  words = slice_index words 0 ∷ slice_index words 1 ∷ slice_index words 2 ∷ slice_index words 3 ∷ [];
  count = length words;
}

-- What an operator gives on components in their order: each draws from the choices that those before it left.
abbrev pub binary_each : BinaryOp → Bool → List ℕ → List ℕ → List ℕ → List ℕ × List ℕ
binary_each op signed [] ys choices = ([], choices)
binary_each op signed (x ∷ xs) [] choices = ([], choices)
binary_each op signed (x ∷ xs) (y ∷ ys) choices =
    let first = binary_answer op signed x y choices in
    let others = binary_each op signed xs ys first.1 in
    (first.0 ∷ others.0, others.1)

-- What an operator gives on lanes, and the choices that are left.
unfoldable pub lanes_answer : BinaryOp → Bool → Lanes → Lanes → List ℕ → Lanes × List ℕ
lanes_answer op signed a b choices =
    let each = binary_each op signed (components a) (components b) choices in
    (lanes_of each.0, each.1)
