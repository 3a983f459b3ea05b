-- Hide sets: the numbers of the macros that a token hides.
use Rattle.std.specs.Prelude.{ℕ, min, max, Bool, true, false, ◌==◌, ◌&&◌, ◌||◌, List, [], ◌∷◌, ◌++◌, Option, Some, None, if◌then◌else◌}

abbrev pub shown : Option (List ℕ) → List ℕ
shown None = []
shown (Some numbers) = numbers

-- whether the number is one of the numbers
abbrev pub among : ℕ → List ℕ → Bool
among number [] = false
among number (n ∷ numbers) = n == number || among number numbers

-- the numbers of the first list that are in the second
abbrev pub shared : List ℕ → List ℕ → List ℕ
shared [] others = []
shared (n ∷ numbers) others = if among n others then n ∷ shared numbers others else shared numbers others

-- the numbers of the first list that are not in the second
abbrev pub apart : List ℕ → List ℕ → List ℕ
apart [] others = []
apart (n ∷ numbers) others = if among n others then apart numbers others else n ∷ apart numbers others

-- the numbers of both, each once where each stands once in either
abbrev pub joined : List ℕ → List ℕ → List ℕ
joined numbers more = apart numbers more ++ more

-- all numbers of some lists
abbrev pub flat : List (List ℕ) → List ℕ
flat [] = []
flat (numbers ∷ more) = numbers ++ flat more

abbrev pub shown_all : Option (List (List ℕ)) → List ℕ
shown_all None = []
shown_all (Some lists) = flat lists

-- the least of a number and some more, and the greatest
abbrev pub least : ℕ → List ℕ → ℕ
least low [] = low
least low (n ∷ numbers) = least (min low n) numbers

abbrev pub greatest : ℕ → List ℕ → ℕ
greatest high [] = high
greatest high (n ∷ numbers) = greatest (max high n) numbers

abbrev pub same : List ℕ → List ℕ → Bool
same [] [] = true
same [] (b ∷ bs) = false
same (a ∷ as_) [] = false
same (a ∷ as_) (b ∷ bs) = a == b && same as_ bs

-- whether the number is in one of the lists
abbrev pub in_any : ℕ → List (List ℕ) → Bool
in_any number [] = false
in_any number (numbers ∷ more) = among number numbers || in_any number more

-- whether the second list is the first with a number in front of it
abbrev pub follows : List ℕ → List ℕ → Bool
follows numbers [] = false
follows numbers (n ∷ more) = same numbers more
