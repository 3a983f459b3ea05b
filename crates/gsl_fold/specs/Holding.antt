-- Values that are lent, or own.
use Rattle.std.specs.Prelude.{Option, Some, None}

-- what is lent, and else what is one's own
abbrev pub lent_or : {A : Type 0} → A → Option A → A
lent_or own (Some lent) = lent
lent_or own None = own
