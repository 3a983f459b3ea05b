-- The decorations of a module, found by what they stand on (SPIR-V 1.0, 3.20).
use Rattle.std.specs.Prelude.{ℕ, Bool, false, ◌==◌, ◌&&◌, List, [], ◌∷◌, Option, Some, None, is_some, if◌then◌else◌}
use Rattle.std.specs.Option.{option_map_or}
use Rattle.gsl_words.specs.declared.module.Module.{Module}
use Rattle.gsl_valid.specs.Instruction.{read}
use Rattle.gsl_valid.specs.Kinds.{Place, On, OnMember, Decoration, decoration_of}
use Rattle.gsl_valid.specs.Placed.{Code}

-- whether two places are one
abbrev pub same_place : Place → Place → Bool
same_place (On t) (On u) = t == u
same_place (On t) (OnMember u k) = false
same_place (OnMember t j) (On u) = false
same_place (OnMember t j) (OnMember u k) = t == u && j == k

-- whether a decoration is of a kind and stands on a place
abbrev pub stands_on : Place → ℕ → Decoration → Bool
stands_on place kind d = d.kind == kind && same_place d.place place

-- the literals of a decoration that is the one looked for, or else those found later
abbrev pub literals_if : Bool → Option Decoration → Option (List ℕ) → Option (List ℕ)
literals_if found None later = later
literals_if found (Some d) later = if found then Some d.literals else later

-- the literals of the first decoration of a kind on a place, if there is one
abbrev pub literals_on : Code → Place → ℕ → Option (List ℕ)
literals_on [] place kind = None
literals_on (i ∷ code) place kind =
    let d = decoration_of (read i) in
    literals_if (option_map_or (stands_on place kind) d false) d (literals_on code place kind)

-- the first literal
abbrev pub number_in : Option (List ℕ) → Option ℕ
number_in None = None
number_in (Some []) = None
number_in (Some (n ∷ literals)) = Some n

-- whether both are numbers, and equal
abbrev pub same_number : Option ℕ → Option ℕ → Bool
same_number None b = false
same_number (Some a) None = false
same_number (Some a) (Some b) = a == b

module _ (m : Module) where
  -- whether an id has a decoration
  abbrev pub has : ℕ → ℕ → Bool
  has kind id = is_some (literals_on m.instrs (On id) kind)

  -- the number that a decoration of an id gives
  abbrev pub number_on : ℕ → ℕ → Option ℕ
  number_on kind id = number_in (literals_on m.instrs (On id) kind)

  -- whether a member of a struct has a decoration
  abbrev pub member_has : ℕ → ℕ → ℕ → Bool
  member_has kind id member = is_some (literals_on m.instrs (OnMember id member) kind)

  -- the number that a decoration of a member gives
  abbrev pub number_on_member : ℕ → ℕ → ℕ → Option ℕ
  number_on_member kind id member = number_in (literals_on m.instrs (OnMember id member) kind)
