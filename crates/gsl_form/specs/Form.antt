-- The programs of the form that is built so far, and the limits of their data.
use Rattle.std.specs.Prelude.{◌≡◌, ℕ, ◌≤◌, ◌<◌, ◌^◌, Bool, true, false, ◌&&◌, nat_le, not, IsTrue, List, [], ◌∷◌, length, slice_index_or}
use Rattle.std.specs.List.{list_any, AllByRecursion}
use Rattle.std.specs.Str.{bytes_eq, all_ascii_digits}
use Rattle.std.specs.Char.{is_ascii_lowercase}
use Rattle.gsl_form.specs.declared.program.Term.{Term}
use Rattle.gsl_form.specs.declared.program.Term.TheVariants.{Member, Literal}
use Rattle.gsl_form.specs.declared.program.Statement.{Statement}
use Rattle.gsl_form.specs.declared.program.Program.{Program}

abbrev pub Name : Type 0
Name = List ℕ

-- the name of a member by its number
abbrev pub name_of : List Name → ℕ → Name
name_of members i = slice_index_or members i []

-- whether a name is a letter from a to z and at most three digits
abbrev pub is_name : Name → Bool
is_name [] = false
is_name (letter ∷ digits) = is_ascii_lowercase letter && all_ascii_digits digits && nat_le (length digits) 3

-- whether no name is among those after it
abbrev pub differ : List Name → Bool
differ [] = true
differ (name ∷ names) = not (list_any (bytes_eq name) names) && differ names

-- A term is one of so many members, or a literal.
abbrev pub IsTerm : ℕ → Term → Type 0
IsTerm members (Member i) = i < members
IsTerm members (Literal n) = n < 2 ^ 32

pub record IsStatement (members : ℕ) (s : Statement) : Type 0 where
  pub target : s.target < members
  pub some : 1 ≤ length s.terms
  pub most : length s.terms ≤ 64
  pub terms : AllByRecursion (IsTerm members) s.terms

-- The data of a source of the form.
pub record IsProgram (p : Program) : Type 0 where
  pub some : 1 ≤ length p.members
  pub most : length p.members ≤ 64
  pub names : AllByRecursion (λ name. IsTrue (is_name name)) p.members
  pub differ : IsTrue (differ p.members)
  pub few : length p.statements ≤ 256
  pub statements : AllByRecursion (IsStatement (length p.members)) p.statements
