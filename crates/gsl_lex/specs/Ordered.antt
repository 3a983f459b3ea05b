-- How the raw tokens of a source file lie in its lines.
use Rattle.std.specs.Prelude.{◌≡◌, ℕ, ◌≤◌, ◌<◌, true, List, [], ◌∷◌}
use Rattle.gsl_base.specs.declared.token.Raw.{Raw}

-- Lines do not fall from this one on, and a token that starts a line stands on a later one than what is
-- before it.
abbrev pub Rise : ℕ → List Raw → Type 0
Rise line [] = Unit {0}
Rise line (raw ∷ raws) = (line ≤ raw.place.line) × (raw.starts_line ≡ true → line < raw.place.line) × Rise raw.place.line raws

abbrev pub FirstStarts : List Raw → Type 0
FirstStarts [] = Unit {0}
FirstStarts (raw ∷ raws) = raw.starts_line ≡ true

-- The first token starts a line, and the lines rise.
pub record InLines (raws : List Raw) : Type 0 where
  pub first : FirstStarts raws
  pub rise : Rise 0 raws
