-- What is around a run of blocks: its follow, its exits, and what its blocks may do.
use Rattle.std.specs.Prelude.{ℕ, ◌+◌, Bool, true, false, ◌&&◌, ◌||◌, not, ◌==◌, Option, Some, None}
use Rattle.gsl_blocks.specs.declared.around.Around.{Around}

-- whether an id is there and is this label
abbrev pub is_id : Option ℕ → ℕ → Bool
is_id None label = false
is_id (Some id) label = id == label

-- whether a label is an exit: the merge or the continue target of the loop around, or the merge of the switch around
abbrev pub is_exit : Around → ℕ → Bool
is_exit c label = is_id c.loop_merge label || is_id c.loop_continue label || is_id c.switch_merge label

-- whether a run may end with a branch to a label: its follow or an exit
abbrev pub may_end : Around → ℕ → Bool
may_end c label = is_id c.follow label || is_exit c label

-- whether it may end with a branch to either of two: the label and the merge of the loop whose continue part it is
abbrev pub may_turn : Around → ℕ → ℕ → Bool
may_turn c on_true on_false = (is_id c.follow on_true && is_id c.back on_false) || (is_id c.follow on_false && is_id c.back on_true)

-- whether the arm or target of a selection needs a run of its own: it is neither the merge nor an exit
abbrev pub needs_run : Around → ℕ → ℕ → Bool
needs_run c m label = not (label == m || is_exit c label)

-- around the arms of a selection with the merge m
abbrev pub in_arm : Around → ℕ → Around
in_arm c m =
    record { follow = Some m; loop_merge = c.loop_merge; loop_continue = c.loop_continue; switch_merge = c.switch_merge; back = None; leaves = c.leaves; depth = c.depth + 1 }

-- around a target of a switch with the merge m, before the next one
abbrev pub in_case : Around → ℕ → ℕ → Around
in_case c m next =
    record { follow = Some next; loop_merge = c.loop_merge; loop_continue = c.loop_continue; switch_merge = Some m; back = None; leaves = c.leaves; depth = c.depth + 1 }

-- around the body of a loop with the merge m and the continue target k
abbrev pub in_body : Around → ℕ → ℕ → Around
in_body c m k =
    record { follow = Some k; loop_merge = Some m; loop_continue = Some k; switch_merge = None; back = None; leaves = c.leaves; depth = c.depth + 1 }

-- around the continue part of the loop with this label and the merge m, in which no block returns or kills
abbrev pub in_continue : Around → ℕ → ℕ → Around
in_continue c label m =
    record { follow = Some label; loop_merge = None; loop_continue = None; switch_merge = None; back = Some m; leaves = false; depth = c.depth + 1 }

-- around the blocks of a function: no follow and no exits
abbrev pub outside : Around
outside = record { follow = None; loop_merge = None; loop_continue = None; switch_merge = None; back = None; leaves = true; depth = 0 }
