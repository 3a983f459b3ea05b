-- Which functions are lowered: `main`, and those that it reaches by calls.
use Rattle.std.specs.Prelude.{ℕ, Bool, ◌||◌, nat_eq, List, slice_get, Option, Some, None}
use Rattle.std.specs.List.{list_any}
use Rattle.gsl_tree.specs.declared.program.Program.{Program}
use Rattle.gsl_tree.specs.declared.unit.Function.{Function}
use Rattle.gsl_link_calls.specs.Calls.{reaches}

abbrev pub head_of : Option Function → ℕ
head_of None = 0
head_of (Some f) = f.prototype

-- the head of `main`
abbrev pub main_head : Program → ℕ
main_head p = head_of (slice_get p.functions p.main)

-- whether `main` is the function of a head, or reaches it by calls
abbrev pub is_reached : List Function → ℕ → ℕ → Bool
is_reached functions main head = nat_eq main head || reaches functions main head

-- whether a function is lowered
abbrev pub is_lowered : Program → Function → Bool
is_lowered p f = is_reached p.functions (main_head p) f.prototype

-- the same where the heads of the functions that `main` reaches are these
abbrev pub is_among : List ℕ → ℕ → Function → Bool
is_among heads main f = nat_eq main f.prototype || list_any (nat_eq f.prototype) heads
