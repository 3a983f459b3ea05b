-- What a function takes: parameters below what is held, and that below the most.
use Rattle.std.proofs.Common.{◌≡◌, ◌≤◌, false, List, [], ◌∷◌, arith}
use Rattle.std.specs.List.{AllByRecursion}
use Rattle.std.proofs.lemmas.Bool.{true≢false}
use Rattle.gsl_words.specs.declared.module.Module.{Module}
use Rattle.gsl_valid.specs.Instruction.{read}
use Rattle.gsl_valid.specs.Kinds.{Kind, Begins, Takes, Calls, Gives, Opens, kind}
use Rattle.gsl_valid.specs.Placed.{Code, Placed}
use Rattle.gsl_valid.specs.Types.{begins}
use Rattle.gsl_frames.specs.declared.taken.Taken.{Taken}
use Rattle.gsl_frames.specs.Frames.{held_words, sum, taken_in, variable_words}
use Rattle.gsl_frames.specs.Taken.{behind, taken_by}

pub record Bounded (t : Taken) : Type 0 where
  pub parameters : t.parameters ≤ t.top
  pub top : t.top ≤ t.most

-- An instruction begins no function.
abbrev pub StaysIn : Placed → Type 0
StaysIn p = begins (kind (read p.instr)) ≡ false

module _ (m : Module) where
  abbrev pub after : Kind → Taken → Taken
  after k t = behind sum (held_words m) (variable_words m) k t

  bounded_behind : (k : Kind) (t : Taken) → Bounded t → Bounded (after k t)
  bounded_behind (Begins type id function_type) t b = record { parameters = omega arith; top = omega arith }
  bounded_behind (Takes type) t b = let p = b.parameters in let q = b.top in record { parameters = omega arith; top = omega arith }
  bounded_behind (Calls type function arguments) t b = let p = b.parameters in let q = b.top in record { parameters = omega (arith, p); top = omega arith }
  bounded_behind (Gives type) t b = let p = b.parameters in let q = b.top in record { parameters = omega (arith, p); top = omega arith }
  bounded_behind Opens t b = let p = b.parameters in let q = b.top in record { parameters = omega arith; top = omega (arith, p, q) }
  bounded_behind _ t b = record { parameters = b.parameters; top = b.top }

  pub bounded_in : (before : Code) → Bounded (taken_in m before)
  bounded_in [] = record { parameters = omega arith; top = omega arith }
  bounded_in (i ∷ before) = bounded_behind (kind (read i)) (taken_in m before) (bounded_in before)

  grow_one : (k : Kind) (t : Taken) → begins k ≡ false → t.most ≤ (after k t).most
  grow_one (Begins type id function_type) t is = absurd (true≢false is)
  grow_one (Takes type) t is = omega arith
  grow_one (Calls type function arguments) t is = omega arith
  grow_one (Gives type) t is = omega arith
  grow_one _ t is = omega arith

  -- what is taken never falls within a function
  pub grows : (body : List Placed) (t : Taken) → AllByRecursion StaysIn body → t.most ≤ (taken_by sum (held_words m) (variable_words m) body t).most
  grows [] t all = omega arith
  grows (p ∷ body) t all = let here = grow_one (kind (read p.instr)) t all.0 in let later = grows body (after (kind (read p.instr)) t) all.1 in omega (arith, here, later)
