-- A table of the decorations of a module.
use Rattle.std.specs.Prelude.{◌≡◌, ℕ, Bool, false, ◌==◌, ◌&&◌, nat_eq, List, slice_get, Option, Some, None}
use Rattle.std.specs.Borrow.{Bor}
use Rattle.std.specs.Option.{option_eq, option_map_or}
use Rattle.indexmap.specs.IndexMap.{IndexMap, get}
use Rattle.gsl_words.specs.declared.module.Instr.{Instr}
use Rattle.gsl_kinds.specs.declared.kind.Decoration.{Decoration}
use Rattle.gsl_kinds.specs.Seen.{decoration_seen}
use Rattle.gsl_valid.specs.Instruction.{read}
use Rattle.gsl_valid.specs.Kinds as kinds
use Rattle.gsl_valid.specs.Placed.{Code}
use Rattle.gsl_valid.specs.Decorations.{stands_on}
use Rattle.gsl_decorations.specs.declared.mark.Mark.{Mark}
use Rattle.gsl_decorations.specs.Firsts.{first_from}

-- whether two marks are one
abbrev pub same_mark : Mark → Mark → Bool
same_mark a b = a.kind == b.kind && (a.target == b.target && option_eq nat_eq a.member b.member)

-- the mark of a kind on a place
abbrev pub mark_on : kinds.Place → ℕ → Mark
mark_on (kinds.On target) kind = record { kind = kind; target = target; member = None }
mark_on (kinds.OnMember target member) kind = record { kind = kind; target = target; member = Some member }

-- the place of a mark
abbrev pub place_in : ℕ → Option ℕ → kinds.Place
place_in target None = kinds.On target
place_in target (Some member) = kinds.OnMember target member

-- whether an instruction is a decoration of a mark
abbrev pub has_mark : Mark → Instr → Bool
has_mark mark i = option_map_or (stands_on (place_in mark.target mark.member) mark.kind) (kinds.decoration_of (read i)) false

-- The rows give of each mark the number of the first decoration in some code.
abbrev pub Tells : {S : Type 0} → IndexMap Mark ℕ S → Code → Type 0
Tells rows code = (mark : Mark) → get same_mark rows mark ≡ first_from (has_mark mark) 0 code

-- a decoration, if there is one
abbrev pub decoration_if_seen : Option Decoration → Option kinds.Decoration
decoration_if_seen None = None
decoration_if_seen (Some d) = Some (decoration_seen d)

-- literals, if there are some
abbrev pub literals_seen : Option (Bor (List ℕ)) → Option (List ℕ)
literals_seen None = None
literals_seen (Some literals) = Some literals.now

-- the literals of a decoration, if there is one
abbrev pub literals_in : Option kinds.Decoration → Option (List ℕ)
literals_in None = None
literals_in (Some d) = Some d.literals

abbrev pub literals_of : Option Instr → Option (List ℕ)
literals_of None = None
literals_of (Some i) = literals_in (kinds.decoration_of (read i))

-- the literals of the decoration that a number, if there is one, gives
abbrev pub literals_numbered : Code → Option ℕ → Option (List ℕ)
literals_numbered code None = None
literals_numbered code (Some number) = literals_of (slice_get code number)
