-- What a module breaks of the rules from a number on, where it keeps those before.
use Rattle.std.specs.Prelude.{ℕ, Option, drop}
use Rattle.gsl_words.specs.declared.module.Module.{Module}
use Rattle.gsl_valid.specs.Valid.{rules, broken_of}

unfoldable pub from_1 : Module → Option (ℕ × ℕ)
from_1 m = broken_of rules m

unfoldable pub from_3 : Module → Option (ℕ × ℕ)
from_3 m = broken_of (drop 2 rules) m

unfoldable pub from_5 : Module → Option (ℕ × ℕ)
from_5 m = broken_of (drop 4 rules) m

unfoldable pub from_7 : Module → Option (ℕ × ℕ)
from_7 m = broken_of (drop 6 rules) m

unfoldable pub from_10 : Module → Option (ℕ × ℕ)
from_10 m = broken_of (drop 9 rules) m

unfoldable pub from_14 : Module → Option (ℕ × ℕ)
from_14 m = broken_of (drop 13 rules) m
