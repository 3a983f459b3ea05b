-- Chains of calls, and how many words the functions take that run at once.
use Rattle.std.specs.Prelude.{◌≡◌, ℕ, zero, suc, ◌+◌, ◌==◌, ◌≤◌, max, true, List, [], ◌∷◌, length, map, slice_index, Option, Some, None}
use Rattle.std.specs.List.{filter_map, list_any, range_with_len, sum_by}
use Rattle.gsl_words.specs.declared.module.Module.{Module}
use Rattle.gsl_valid.specs.CallRules.{callee, most_calls}
use Rattle.gsl_valid.specs.Instruction.{read}
use Rattle.gsl_valid.specs.Placed.{Placed}
use Rattle.gsl_machine.specs.Functions.{function_at}
use Rattle.gsl_leaves.specs.Table.{told}
use Rattle.gsl_frames.specs.declared.taken.Taken.{Taken}
use Rattle.gsl_frames.specs.Frames.{frame, plus_told}
use Rattle.gsl_chains.specs.declared.chains.Room.{Room}
use Rattle.gsl_chains.specs.declared.chains.Row.{Row}
use Rattle.gsl_chains.specs.declared.chains.Row.TheVariants.{Slots, Variables}

-- ---- calls

-- the functions that a body calls, in their order
abbrev pub calls_of : List Placed → List ℕ
calls_of body = filter_map (λ p. callee (read p.instr)) body

abbrev pub body_or : Option (List Placed) → List Placed
body_or None = []
body_or (Some body) = body

-- the body of the function of an id; where there is none, nothing
abbrev pub body_of : Module → ℕ → List Placed
body_of m id = body_or (function_at m id)

-- A function with a body calls one with another.
pub record Calls (m : Module) (body next : List Placed) : Type 0 where
  pub id : ℕ
  pub called : list_any (λ other. other == id) (calls_of body) ≡ true
  pub is : next ≡ body_of m id

-- A function with a body calls one with the first of these, and each of them the next.
abbrev pub AreChained : Module → List Placed → List (List Placed) → Type 0
AreChained m body [] = Unit {0}
AreChained m body (next ∷ bodies) = Calls m body next × AreChained m next bodies

-- ---- what they take

-- the words of a frame that are meant: its slots at most, or its variables
abbrev pub words_in : Row → Taken → ℕ
words_in Slots t = t.most
words_in Variables t = t.variables

-- the greatest count of any of these
abbrev pub greatest : (ℕ → ℕ) → List ℕ → ℕ
greatest of [] = 0
greatest of (id ∷ ids) = max (of id) (greatest of ids)

module _ (m : Module) (of : Taken → ℕ) where
  -- what functions with these bodies take
  abbrev pub taken_by_all : List (List Placed) → ℕ
  taken_by_all bodies = sum_by (λ body. of (frame m body)) bodies

  -- What is taken at most by a function with a body, one that it calls, one that this calls, and so on, where these are no more than so many.
  unfoldable pub in_chains : ℕ → List Placed → ℕ
  in_chains zero body = 0
  in_chains (suc more) body = of (frame m body) + greatest (λ id. in_chains more (body_of m id)) (calls_of body)

-- Some functions of which each calls the next, no more than one and so many, take in all what is taken at most.
pub record IsReached (m : Module) (of : Taken → ℕ) (body : List Placed) (more : ℕ) : Type 0 where
  pub bodies : List (List Placed)
  pub chained : AreChained m body bodies
  pub few : length bodies ≤ more
  pub is : taken_by_all m of bodies + of (frame m body) ≡ in_chains m of (suc more) body

-- calls nest no deeper than V11 lets them
abbrev pub most_functions : ℕ
most_functions = suc most_calls

-- what all functions take that run at once, at most, where the first is that of an id
abbrev pub room : Module → ℕ → Room
room m id = record { slots = in_chains m (words_in Slots) most_functions (body_of m id); variables = in_chains m (words_in Variables) most_functions (body_of m id) }

-- ---- as they are told

-- the greater of a count and that of the function that is called, if one is
abbrev pub with_call : (ℕ → ℕ) → Option ℕ → ℕ → ℕ
with_call of None most = most
with_call of (Some id) most = max most (of id)

abbrev pub told_room : Room → Room
told_room r = record { slots = told r.slots; variables = told r.variables }

-- of each id, what its function takes
abbrev pub own_rows : Module → (Taken → ℕ) → List ℕ
own_rows m of = map (λ id. told (of (frame m (body_of m id)))) (range_with_len 0 m.bound)

-- of each id, what its function takes with one that it calls, of which rows tell
abbrev pub longer : Module → List ℕ → List ℕ → List ℕ
longer m own rows = map (λ id. plus_told (slice_index own id) (greatest (slice_index rows) (calls_of (body_of m id)))) (range_with_len 0 m.bound)

-- The rows tell, by their ids, what is taken in chains of no more than so many functions.
abbrev pub Tells : List ℕ → Module → (Taken → ℕ) → ℕ → Type 0
Tells rows m of more = (id : ℕ) → slice_index rows id ≡ told (in_chains m of more (body_of m id))
