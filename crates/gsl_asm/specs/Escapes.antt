-- Characters between quotes, as they are written.
use Rattle.std.specs.Prelude.{ℕ, ◌+◌, Bool, true, false, ◌==◌, ◌||◌, if◌then◌else◌, List, [], ◌∷◌, Option, Some, None}
use Rattle.std.specs.Option.{option_map}
use Rattle.gsl_asm.specs.declared.step.Step.{Step}
use Rattle.gsl_asm.specs.declared.step.Step.TheVariants.{Ends, Breaks, Goes}

-- whether a byte may stand behind a backslash
abbrev pub is_escape : ℕ → Bool
is_escape byte = byte == 34 || byte == 92 || byte == 110 || byte == 114

-- what it stands for there
abbrev pub meant : ℕ → ℕ
meant byte = if byte == 110 then 10 else if byte == 114 then 13 else byte

-- what a byte between quotes is, by whether a backslash stands before it
abbrev pub step_of : Bool → ℕ → Step
step_of true byte = if is_escape byte then Goes false else Breaks
step_of false byte = if byte == 34 then Ends else if byte == 10 || byte == 13 then Breaks else Goes (byte == 92)

-- how many bytes there are up to the end
abbrev pub by_step : Step → (Bool → Option ℕ) → Option ℕ
by_step Ends later = Some 0
by_step Breaks later = None
by_step (Goes behind) later = option_map (λ n. 1 + n) (later behind)

-- how many bytes stand before the quote that ends a string; first, whether a backslash stands before them
abbrev pub raw_len : Bool → List ℕ → Option ℕ
raw_len behind [] = None
raw_len behind (byte ∷ bytes) = by_step (step_of behind byte) (λ next. raw_len next bytes)

-- the characters that such bytes stand for
abbrev pub unescaped : Bool → List ℕ → List ℕ
unescaped behind [] = []
unescaped true (byte ∷ bytes) = meant byte ∷ unescaped false bytes
unescaped false (byte ∷ bytes) = if byte == 92 then unescaped true bytes else byte ∷ unescaped false bytes
