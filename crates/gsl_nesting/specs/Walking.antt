-- What a walk over tokens keeps.
use Rattle.std.specs.Prelude.{◌≡◌, ◌≤◌, List, [], ◌∷◌}
use Rattle.gsl_syntax.specs.declared.nesting.Counter.{Counter}
use Rattle.gsl_syntax.specs.Nesting.{Counters, weight}
use Rattle.gsl_nesting.specs.declared.nesting.Walk.{Walk}

-- the counters of a walk
abbrev pub counters : Walk → Counters
counters w = (w.top, w.below)

-- no more is counted apart than is counted
abbrev pub Bounded : Counter → Type 0
Bounded c = (c.words ≤ c.value) × (c.choices ≤ c.value)

abbrev pub AllBounded : List Counter → Type 0
AllBounded [] = Unit {0}
AllBounded (c ∷ cs) = Bounded c × AllBounded cs

-- the weight is that of the counters
abbrev pub Holds : Walk → Type 0
Holds w = (w.weight ≡ weight (counters w)) × Bounded w.top × AllBounded w.below
