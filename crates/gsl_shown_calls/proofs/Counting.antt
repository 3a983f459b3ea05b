-- How many words the variables of a function take, and what it is given.
use Rattle.std.proofs.Common.{◌≡◌, refl, sym, ap, ◌∙◌, ℕ, ◌+◌, Bool, true, false, ◌&&◌, if◌then◌else◌, List, [], ◌∷◌, ◌++◌, length, Option, Some, None, arith}
use Rattle.std.specs.List.{AllByRecursion, cons_option, flat_map, sum_by}
use Rattle.std.specs.Prelude.{◌==◌}
use Rattle.std.proofs.lemmas.Bool.{and_parts, eqb-true, false≢true, true≢false}
use Rattle.std.proofs.lemmas.List.Sums.{sum_by-cons}
use Rattle.gsl_instr.specs.declared.enumerant.storage_class.TheConstants as storage_class
use Rattle.gsl_words.specs.declared.module.Module.{Module}
use Rattle.gsl_valid.specs.ConstantRules.{have_each}
use Rattle.gsl_valid.specs.FunctionRules.{is_local_of, may_be_variable, may_stand_here, outside}
use Rattle.gsl_valid.specs.Instruction.{read}
use Rattle.gsl_valid.specs.Kinds.{Begins, Holds, Kind, Variable, kind, variable_in, variable_is}
use Rattle.gsl_valid.specs.Placed.{Code, Placed}
use Rattle.gsl_valid.specs.DecorationRules.{pointee}
use Rattle.gsl_valid.specs.Search.{from_here}
use Rattle.gsl_valid.specs.Types.{Target, begins, defined_as, has_type, initialises, is_block_class, target_of}
use Rattle.gsl_valid.specs.Where.{AtHead, AtMerge, Begun, Behind, InBlock, Outside, Standing, where_at}
use Rattle.gsl_machine.specs.Functions.{variables_of}
use Rattle.gsl_machine.specs.State.{Held, Ids, InBlock as IntoBlock, InVariable, Points, Whole}
use Rattle.std.specs.Prelude.{drop}
use Rattle.gsl_leaves.specs.Leaves.{leaves}
use Rattle.gsl_memory_law.specs.Typed.{place_by}
use Rattle.gsl_memory_law.proofs.Typed.{place_stays}
use Rattle.gsl_sound_code.specs.Spots.{Spot}
use Rattle.gsl_sound_code.proofs.Looks.{Kept}
use Rattle.gsl_sound_code.proofs.Walks.{walk}
use Rattle.gsl_sound_ids.proofs.Plain.{has_type_is}
use Rattle.gsl_sound_types.specs.Typed.{HoldTypes, IsAs, IsOfType, types_of}
use Rattle.gsl_sound_types.proofs.Entering.{AreOfTypes}
use Rattle.gsl_sound_types.proofs.Memories.{variable_kind}
use Rattle.gsl_frames.specs.declared.taken.Taken.{Taken}
use Rattle.gsl_frames.specs.Frames.{frame, held_words, sum, variable_words}
use Rattle.gsl_frames.specs.Taken.{nothing_taken, taken_by}
use Rattle.gsl_shown.specs.Shown.{held_as, two_words}
use Rattle.gsl_shown.proofs.Bounds.{StaysIn, after}
use Rattle.gsl_shown.proofs.Counted.{held_counted}
use Rattle.gsl_shown_calls.specs.Calling.{StandFor}
use Rattle.gsl_shown_calls.proofs.Putting.{AreCounted, gathered}

-- ---- variables

module _ (m : Module) where
  one_variable : (k : Kind) (t : Taken) (vs : List Variable) → begins k ≡ false → (after m k t).variables + sum_by (variable_words m) vs ≡ t.variables + sum_by (variable_words m) (cons_option (variable_in k) vs)
  one_variable (Holds v) t vs stays = omega (arith, sum_by-cons (variable_words m) v vs)
  one_variable (Begins type id function_type) t vs stays = absurd (true≢false stays)
  one_variable _ t vs stays = refl

  variables_taken : (body : List Placed) (t : Taken) → AllByRecursion StaysIn body → (taken_by sum (held_words m) (variable_words m) body t).variables ≡ t.variables + sum_by (variable_words m) (variables_of body)
  variables_taken [] t all = omega arith
  variables_taken (p ∷ body) t all =
      variables_taken body (after m (kind (read p.instr)) t) all.1 ∙ one_variable (kind (read p.instr)) t (variables_of body) all.0

  local_class : (type class : ℕ) (initialiser : List ℕ) (s : Standing) → outside s ≡ false → may_be_variable m type class initialiser s ≡ true → is_block_class class ≡ false
  local_class type class initialiser Outside inside may = absurd (true≢false inside)
  local_class type class initialiser (Begun parameters) inside may = absurd (false≢true may)
  local_class type class initialiser AtHead inside may = by_target (target_of (defined_as m type)) may
    where
      by_target : (o : Option Target) → is_local_of m class initialiser o ≡ true → is_block_class class ≡ false
      by_target None may = absurd (false≢true may)
      by_target (Some t) may =
          let both = and_parts (t.class == class && class == storage_class.FUNCTION) (initialises m t.pointee initialiser) may in
          ap is_block_class (eqb-true class storage_class.FUNCTION (and_parts (t.class == class) (class == storage_class.FUNCTION) both.0).1)
  local_class type class initialiser InBlock inside may = absurd (false≢true may)
  local_class type class initialiser AtMerge inside may = absurd (false≢true may)
  local_class type class initialiser Behind inside may = absurd (false≢true may)

module _ (m : Module) (kept : Kept m) (body : List Placed) (returned : ℕ) (start : Code) (spot : Spot m body returned start body) where
  pub none_of_blocks : AllByRecursion (λ v. is_block_class v.class ≡ false) (variables_of body)
  none_of_blocks = gathered (λ p. variable_is (read p.instr)) (λ v. is_block_class v.class ≡ false) body
      (walk m kept body returned (λ p. (v : Variable) → variable_is (read p.instr) ≡ Some v → is_block_class v.class ≡ false)
      (λ before p code keeps started v is. local_class m v.type v.class v.initialiser (where_at m before).standing started
      (ap (may_stand_here m (drop 1 (from_here m before)) (where_at m before).standing) (sym (variable_kind (kind (read p.instr)) v is)) ∙ keeps.shape)) start body spot)

  -- the words of a function's variables are those of their types
  pub variables_counted : AllByRecursion StaysIn body → (frame m body).variables ≡ sum_by (leaves m) (types_of m (variables_of body))
  variables_counted all = variables_taken m body nothing_taken all ∙ (let later = each (variables_of body) none_of_blocks in omega (arith, later))
    where
      word_count : (v : Variable) (b : Bool) → is_block_class v.class ≡ b → b ≡ false → (if b then 0 else leaves m (pointee m v.type)) ≡ leaves m (pointee m v.type)
      word_count v true e is = absurd (true≢false is)
      word_count v false e is = refl

      each : (vs : List Variable) → AllByRecursion (λ v. is_block_class v.class ≡ false) vs → sum_by (variable_words m) vs ≡ sum_by (leaves m) (types_of m vs)
      each [] all = refl
      each (v ∷ vs) all = let here : variable_words m v ≡ leaves m (pointee m v.type) = word_count v (is_block_class v.class) refl all.0 in
          let later = each vs all.1 in
          omega (arith, here, later, sum_by-cons (variable_words m) v vs, sum_by-cons (leaves m) (pointee m v.type) (types_of m vs))

-- ---- what is given

module _ (m : Module) (kept : Kept m) (types : List ℕ) where
  -- where further variables stand behind, the words of what is held stay the same
  pub words_stay : (more : List ℕ) (type : ℕ) (h : Held) → IsOfType m types type h → held_as m (types ++ more) h ≡ held_as m types h
  words_stay more type (Whole v) of = refl
  words_stay more type (Points (IntoBlock variable offset pointee)) of = refl
  words_stay more type (Points (InVariable number path)) of = by_target (target_of (defined_as m type)) of
    where
      by_target : (o : Option Target) → IsAs m types type o (Points (InVariable number path)) → 0 ∷ two_words (place_by m (types ++ more) number path) ≡ 0 ∷ two_words (place_by m types number path)
      by_target None of = absurd of
      by_target (Some t) of = ap (λ n. 0 ∷ two_words n) (place_stays m types more path number of.1.type of.1.is)

  pub arguments_typed : (ids : Ids) (parameters given : List ℕ) (held : List Held) → HoldTypes m types ids → have_each (has_type m) parameters given ≡ true → StandFor ids given held → AreOfTypes m types parameters held
  arguments_typed ids [] [] [] hold have stand = tt
  arguments_typed ids [] [] (h ∷ held) hold have stand = absurd stand
  arguments_typed ids [] (id ∷ given) held hold have stand = absurd (false≢true have)
  arguments_typed ids (type ∷ parameters) [] held hold have stand = absurd (false≢true have)
  arguments_typed ids (type ∷ parameters) (id ∷ given) [] hold have stand = absurd stand
  arguments_typed ids (type ∷ parameters) (id ∷ given) (h ∷ held) hold have stand =
      let both = and_parts (has_type m type id) (have_each (has_type m) parameters given) have in
      (hold.each id type h stand.0 (has_type_is m type id both.0), arguments_typed ids parameters given held hold both.1 stand.1)

  pub arguments_counted : (more parameters : List ℕ) (held : List Held) → AreOfTypes m types parameters held → AreCounted m (held_as m (types ++ more)) parameters held
  arguments_counted more [] [] are = tt
  arguments_counted more [] (h ∷ held) are = absurd are
  arguments_counted more (type ∷ parameters) [] are = absurd are
  arguments_counted more (type ∷ parameters) (h ∷ held) are = (ap length (words_stay more type h are.0) ∙ held_counted m kept types type h are.0, arguments_counted more parameters held are.1)

  pub arguments_stay : (more parameters : List ℕ) (held : List Held) → AreOfTypes m types parameters held → flat_map (held_as m (types ++ more)) held ≡ flat_map (held_as m types) held
  arguments_stay more [] [] are = refl
  arguments_stay more [] (h ∷ held) are = absurd are
  arguments_stay more (type ∷ parameters) [] are = absurd are
  arguments_stay more (type ∷ parameters) (h ∷ held) are =
      ap (λ l. l ++ flat_map (held_as m (types ++ more)) held) (words_stay more type h are.0) ∙ ap (λ l. held_as m types h ++ l) (arguments_stay more parameters held are.1)
