-- The texts that are printed where nothing is listed.
use Rattle.std.specs.Prelude.{ℕ, List, codes}

-- the words ask for nothing
abbrev pub usage_text : List ℕ
usage_text = codes "usage\n"

-- the budget was spent
abbrev pub going_text : List ℕ
going_text = codes "steps used up\n"

-- an index was out of bounds
abbrev pub strayed_text : List ℕ
strayed_text = codes "strayed\n"
