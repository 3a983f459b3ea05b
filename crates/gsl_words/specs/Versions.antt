-- The versions of SPIR-V that modules are written for (SPIR-V 1.3, 2.3).
use Rattle.std.specs.Prelude.{◌≡◌, ℕ, ◌==◌, Option, Some, None, if◌then◌else◌}
use Rattle.gsl_words.specs.declared.target.Target.{Target}
use Rattle.gsl_words.specs.declared.target.Target.TheVariants.{V10, V13}
use Rattle.gsl_words.specs.declared.target.TheConstants.{VERSION_1_0, VERSION_1_3}

-- the version word of a target
abbrev pub version_of : Target → ℕ
version_of V10 = VERSION_1_0
version_of V13 = VERSION_1_3

-- the target of a version word
abbrev pub target_of : ℕ → Option Target
target_of version = if version == VERSION_1_0 then Some V10 else if version == VERSION_1_3 then Some V13 else None

-- The version is that of a target.
abbrev pub IsKnown : ℕ → Type 0
IsKnown version = (target : Target) × (version ≡ version_of target)
