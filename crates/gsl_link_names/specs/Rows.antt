-- Tables of declarations: for each name, or for the words of each head, those that have it, in their order.
use Rattle.std.specs.Prelude.{ℕ, bytes_eq, List, [], ◌∷◌, ◌++◌, Option, Some, None}
use Rattle.std.specs.Map.{lookup}
use Rattle.indexmap.specs.IndexMap.{insert_entry}

module _ {A : Type 0} where
  abbrev pub or_none : Option (List A) → List A
  or_none None = []
  or_none (Some row) = row

  -- what stands under a key
  abbrev pub row_of : List (List ℕ × List A) → List ℕ → List A
  row_of rows key = or_none (lookup (bytes_eq key) rows)

  -- the table with one more under a key
  abbrev pub with_one : List (List ℕ × List A) → List ℕ → A → List (List ℕ × List A)
  with_one rows key x = insert_entry bytes_eq rows key (row_of rows key ++ x ∷ [])
