-- Words for what an expression draws.
use Rattle.std.specs.Prelude.{◌≡◌, ℕ, ◌≤◌, List, ◌∷◌, length, Option}
use Rattle.gsl_tree.specs.Drawing.{Drawing}

-- It draws nothing and gives this, whatever the choices are.
abbrev pub GivesAlways : {A : Type 0} → Drawing A → Option A → Type 0
GivesAlways d found = (choices : List ℕ) → d choices ≡ (found, choices)

-- It draws, whatever the choices are, where there is one.
abbrev pub DrawsAlways : {A : Type 0} → Drawing A → Type 0
DrawsAlways d = (choice : ℕ) (choices : List ℕ) → length (d (choice ∷ choices)).1 ≤ length choices
