-- From instruction to instruction of a function.
use Rattle.std.proofs.Common.{◌≡◌, refl, sym, ap, ◌∙◌, subst, ℕ, ◌+◌, Bool, true, false, ◌||◌, if◌then◌else◌, nat_le, List, [], ◌∷◌}
use Rattle.std.specs.List.{AllByRecursion}
use Rattle.std.specs.Prelude.{◌==◌}
use Rattle.std.proofs.lemmas.Bool.{and_parts, cond-false, or_left, or_right, true≢false, false≢true}
use Rattle.gsl_instr.specs.declared.op.TheConstants as op
use Rattle.gsl_words.specs.declared.module.Instr.{Instr}
use Rattle.gsl_words.specs.declared.module.Module.{Module}
use Rattle.gsl_words.specs.Instructions.{word_count}
use Rattle.gsl_valid.specs.FunctionRules.{outside}
use Rattle.gsl_valid.specs.Ids.{defined, defines}
use Rattle.gsl_valid.specs.Instruction.{read, is_such}
use Rattle.gsl_valid.specs.Kinds.{Kind, Asks, Imports, Sets, Enters, Modes, Debugs, Decorates, Declares, Fixes, Holds, Begins, Takes, Calls, Gives, Does, Opens, Merges, Leaves, Ended, Absent, kind}
use Rattle.gsl_valid.specs.Placed.{Code, Placed, placed_from}
use Rattle.gsl_valid.specs.Search.{whole}
use Rattle.gsl_valid.specs.Sections.{has_numbers, may_come}
use Rattle.gsl_valid.specs.Types.{begins, function_begins}
use Rattle.gsl_valid.specs.Where.{Standing, Outside, Begun, AtHead, InBlock, AtMerge, Behind, block_begun, bounds_function, bounds_one, in_function_after, inside_after, one_taken, section_in, section_of, stands_after, where_at}
use Rattle.gsl_machine.specs.Functions.{up_to_end}
use Rattle.gsl_sound_code.specs.Rules.{KeepAll, Keeps}
use Rattle.gsl_sound_code.specs.Spots.{Leads, Spot, bare}
use Rattle.gsl_sound_code.proofs.Looks.{Kept}
use Rattle.gsl_sound_code.proofs.Opcodes.{reads_end}

-- ---- behind an instruction of a function

last_section : (inside : Bool) (k : Kind) → nat_le 9 (section_in inside k) ≡ true → section_in inside k ≡ 9
last_section true (Holds v) is = refl
last_section false (Holds v) is = absurd (false≢true is)
last_section inside Asks is = absurd (false≢true is)
last_section inside Imports is = absurd (false≢true is)
last_section inside Sets is = absurd (false≢true is)
last_section inside (Enters model function name interface) is = absurd (false≢true is)
last_section inside (Modes function mode parts) is = absurd (false≢true is)
last_section inside Debugs is = absurd (false≢true is)
last_section inside (Decorates d) is = absurd (false≢true is)
last_section inside (Declares shape) is = absurd (false≢true is)
last_section inside (Fixes type value) is = absurd (false≢true is)
last_section inside _ is = refl

-- what comes behind an instruction of the last section is of it
pub section_stays : (m : Module) (before : Code) (i : Instr) (code : Code) → Keeps m before i code → (where_at m before).section ≡ 9 → (where_at m (i ∷ before)).section ≡ 9
section_stays m before i code keeps last =
    let both = and_parts (may_come (where_at m before).section (section_of (where_at m before).inside (read i))) (is_such (has_numbers m) (read i)) keeps.section in
    let come = ap (λ n. may_come n (section_of (where_at m before).inside (read i))) (sym last) ∙ both.0 in
    last_section (where_at m before).inside (kind (read i)) (and_parts (nat_le 5 (section_of (where_at m before).inside (read i))) (nat_le 9 (section_of (where_at m before).inside (read i))) come).1

stays_inside : (k : Kind) → bounds_one k ≡ false → inside_after true k ≡ true
stays_inside Ended is = absurd (true≢false is)
stays_inside _ is = refl

taken_started : (s : Standing) → outside s ≡ false → outside (one_taken s) ≡ false
taken_started Outside is = is
taken_started (Begun types) is = refl
taken_started AtHead is = refl
taken_started InBlock is = refl
taken_started AtMerge is = refl
taken_started Behind is = refl

begun_started : (s : Standing) → outside (block_begun s) ≡ false
begun_started Outside = refl
begun_started (Begun types) = refl
begun_started AtHead = refl
begun_started InBlock = refl
begun_started AtMerge = refl
begun_started Behind = refl

pub stays_started : (m : Module) (s : Standing) (k : Kind) → bounds_one k ≡ false → outside s ≡ false → outside (stands_after m s k) ≡ false
stays_started m s Asks bounds is = is
stays_started m s Imports bounds is = is
stays_started m s Sets bounds is = is
stays_started m s (Enters model function name interface) bounds is = is
stays_started m s (Modes function mode parts) bounds is = is
stays_started m s Debugs bounds is = is
stays_started m s (Decorates d) bounds is = is
stays_started m s (Declares shape) bounds is = is
stays_started m s (Fixes type value) bounds is = is
stays_started m s (Holds v) bounds is = is
stays_started m s (Begins type id function_type) bounds is = refl
stays_started m s (Takes type) bounds is = taken_started s is
stays_started m s (Calls type function arguments) bounds is = refl
stays_started m s (Gives type) bounds is = refl
stays_started m s Does bounds is = refl
stays_started m s Opens bounds is = begun_started s
stays_started m s Merges bounds is = refl
stays_started m s Leaves bounds is = refl
stays_started m s Ended bounds is = absurd (true≢false bounds)
stays_started m s Absent bounds is = is

bounds_begins : (k : Kind) → bounds_one k ≡ false → begins k ≡ false
bounds_begins (Begins type id function_type) is = absurd (true≢false is)
bounds_begins _ is = refl

-- The next instruction of a function, and what is behind it.
pub record Next (m : Module) (body : List Placed) (returned : ℕ) (before : Code) (rest : List Placed) : Type 0 where
  pub first : Placed
  pub more : List Placed
  pub is : rest ≡ first ∷ more
  pub code : Code
  pub keeps : Keeps m before first.instr code
  pub goes : bounds_function (read first.instr) ≡ false → Spot m body returned (first.instr ∷ before) more
  pub ends : (first.instr.op == op.FUNCTION_END) ≡ true → more ≡ []

module _ (m : Module) (kept : Kept m) (body : List Placed) (returned : ℕ) where
  behind : (before : Code) (i : Instr) (code : Code) (at : ℕ) (rest : List Placed) → (spot : Spot m body returned before rest) → rest ≡ record { at = at; instr = i } ∷ up_to_end (placed_from (at + word_count i) code)
      → Keeps m before i code → KeepAll m (i ∷ before) code → bounds_function (read i) ≡ false → Spot m body returned (i ∷ before) (up_to_end (placed_from (at + word_count i) code))
  behind before i code at rest spot is keeps keep bounds =
      let w = where_at m before in
      let in_rest : (id : ℕ) → defined (i ∷ bare (up_to_end (placed_from (at + word_count i) code))) id ≡ true → defined (bare body) id ≡ true = λ id here. spot.later id (ap (λ l. defined (bare l) id) is ∙ here) in
      record {
        code = code;
        at = at + word_count i;
        is = refl;
        keep = keep;
        section = section_stays m before i code keeps spot.section;
        inside = ap (λ b. in_function_after b (read i)) spot.inside ∙ stays_inside (kind (read i)) bounds;
        started = stays_started m w.standing (kind (read i)) bounds spot.started;
        id = spot.id;
        function_type = spot.function_type;
        gives = spot.gives;
        function = ap kind (cond-false (function_begins (read i)) (read i) w.function (bounds_begins (kind (read i)) bounds)) ∙ spot.function;
        so_far = λ id here. by_test id (defines i id) refl (sym (ap (λ l. defined l id) (cond-false (bounds_function (read i)) [] (i ∷ w.body) bounds)) ∙ here) (λ d. in_rest id (or_left _ _ d)) (spot.so_far id);
        later = λ id here. in_rest id (or_right (defines i id) _ here);
        leads = (subst (AllByRecursion (Leads body)) is spot.leads).1;
      }
    where
      by_test : (id : ℕ) (b : Bool) → defines i id ≡ b → (b || defined (where_at m before).body id) ≡ true → (defines i id ≡ true → defined (bare body) id ≡ true) → (defined (where_at m before).body id ≡ true → defined (bare body) id ≡ true) → defined (bare body) id ≡ true
      by_test id true d is here later = here d
      by_test id false d is here later = later is

  pub next : (before : Code) (rest : List Placed) → Spot m body returned before rest → Next m body returned before rest
  next before rest spot = by_code spot.code refl
    where
      by_code : (code : Code) → spot.code ≡ code → Next m body returned before rest
      by_code [] e = let ended : before ≡ whole m = subst (KeepAll m before) e spot.keep in absurd (true≢false (sym (ap (λ b. outside (where_at m b).standing) ended ∙ kept.closed) ∙ spot.started))
      by_code (i ∷ code) e = by_end (i.op == op.FUNCTION_END) refl (spot.is ∙ ap (λ l. up_to_end (placed_from spot.at l)) e) (subst (KeepAll m before) e spot.keep)
        where
          by_end : (b : Bool) → (i.op == op.FUNCTION_END) ≡ b → rest ≡ (if b then record { at = spot.at; instr = i } ∷ [] else record { at = spot.at; instr = i } ∷ up_to_end (placed_from (spot.at + word_count i) code))
              → KeepAll m before (i ∷ code) → Next m body returned before rest
          by_end true ends is keep = record {
            first = record { at = spot.at; instr = i };
            more = [];
            is = is;
            code = code;
            keeps = keep.0;
            goes = λ bounds. absurd (true≢false (sym (ap bounds_function (reads_end i ends)) ∙ bounds));
            ends = λ e. refl;
          }
          by_end false ends is keep = record {
            first = record { at = spot.at; instr = i };
            more = up_to_end (placed_from (spot.at + word_count i) code);
            is = is;
            code = code;
            keeps = keep.0;
            goes = behind before i code spot.at rest spot is keep.0 keep.1;
            ends = λ e. absurd (true≢false (sym e ∙ ends));
          }
