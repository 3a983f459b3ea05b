-- Where a `switch` is entered, among the arms of the tree.
use Rattle.std.specs.Prelude.{ℕ, Bool, ◌==◌, if◌then◌else◌, List, [], ◌∷◌}
use Rattle.std.specs.List.{list_any}
use Rattle.gsl_tree.specs.declared.stmt.Arm.{Arm, out-Arm}

abbrev pub is_among : ℕ → List ℕ → Bool
is_among word labels = list_any (λ label. label == word) labels

unfoldable pub has_label : ℕ → Arm → Bool
has_label word arm = is_among word (out-Arm arm).labels

unfoldable pub is_default : Arm → Bool
is_default arm = (out-Arm arm).is_default

-- the arms from `default` on
abbrev pub from_default : List Arm → List Arm
from_default [] = []
from_default (arm ∷ arms) = if is_default arm then arm ∷ arms else from_default arms

-- the arms from the one with a label on, or others
abbrev pub from_label : ℕ → List Arm → List Arm → List Arm
from_label word [] others = others
from_label word (arm ∷ arms) others = if has_label word arm then arm ∷ arms else from_label word arms others
