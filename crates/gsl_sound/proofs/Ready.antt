-- An instruction of a block is to be performed.
use Rattle.std.proofs.Common.{◌≡◌, refl, sym, ap, ◌∙◌, subst, ℕ, ◌≤◌, Bool, true, false, List, [], ◌∷◌, drop, length, Some, inl}
use Rattle.std.specs.List.{AllByRecursion, list_all}
use Rattle.std.specs.Prelude.{◌==◌}
use Rattle.std.proofs.lemmas.Bool.{and_parts, cond-false, true≢false, false≢true}
use Rattle.gsl_base.specs.declared.input.Input.{Input}
use Rattle.gsl_instr.specs.declared.instruction.Instruction.{Instruction}
use Rattle.gsl_instr.specs.declared.instruction.Instruction.TheVariants as instruction
use Rattle.gsl_instr.specs.Instructions as table
use Rattle.gsl_words.specs.declared.module.Module.{Module}
use Rattle.gsl_values.specs.declared.value.Value.{Value}
use Rattle.gsl_valid.specs.FunctionRules.{in_block, may_begin, may_stand_here, may_take, outside}
use Rattle.gsl_valid.specs.FunctionRules as shape
use Rattle.gsl_valid.specs.Ids.{needs, result}
use Rattle.gsl_valid.specs.Instruction.{read}
use Rattle.gsl_valid.specs.Kinds.{Kind, Holds, Begins, Takes, Calls, Gives, Does, Opens, Merges, Leaves, Ended, Absent, kind, kind_of, type_in}
use Rattle.gsl_valid.specs.LocalityRules.{gives_value, is_near, of_block}
use Rattle.gsl_valid.specs.Placed.{Code, Placed}
use Rattle.gsl_valid.specs.Search.{from_here}
use Rattle.gsl_valid.specs.Types.{defined_as, target_of}
use Rattle.gsl_valid.specs.Where.{Standing, Outside, Begun, Behind, bounds, bounds_block, bounds_one, section_in, stands_after, where_at}
use Rattle.gsl_machine.specs.Interfaces.{value_variables}
use Rattle.gsl_machine.specs.State.{Held, State, Whole, give, giving, giving_value}
use Rattle.gsl_sound_ids.specs.Held.{Agrees, IsOf, usable_as, HaveBytes}
use Rattle.gsl_sound.specs.Sound.{Fine, Good, WaitEach}
use Rattle.gsl_sound_code.specs.Spots.{Spot, bare}
use Rattle.gsl_sound_ids.proofs.Agreeing.{agree_give, agree_same, near_usable}
use Rattle.gsl_sound_code.proofs.Looks.{Kept, defines_result}
use Rattle.gsl_sound_ids.proofs.Plain.{IsPlain, points_nowhere}
use Rattle.gsl_sound_code.proofs.Spots.{section_stays}
use Rattle.gsl_sound_code.proofs.Walks.{Step}

-- In a block an instruction is next that is in the table; what is to come of the state stands behind it.
pub record Ready (m : Module) (input : Input) (before : Code) (p : Placed) (d : Instruction) (state : State) : Type 0 where
  pub bytes : HaveBytes m input state.buffers
  pub returned : ℕ
  pub start : Code
  pub first : Spot m state.body returned start state.body
  pub lasting : Agrees m (length state.variables) (bare state.body) [] state.own
  pub spot : Spot m state.body returned before (p ∷ state.rest)
  pub step : Step m state.body returned before p state.rest
  pub reads : read p.instr ≡ Some d
  pub standing : in_block (where_at m before).standing ≡ true
  pub agrees : Agrees m (length state.variables) (bare state.body) (where_at m before).block state.ids
  pub waiting : WaitEach m (length state.variables) returned state.waiting
  pub enough : length (value_variables m) ≤ length state.variables

-- kinds of instructions that stand in a block behind its label
abbrev pub stands_in : Kind → Bool
stands_in (Holds v) = true
stands_in (Calls type function arguments) = true
stands_in (Gives type) = true
stands_in Does = true
stands_in Merges = true
stands_in Leaves = true
stands_in _ = false

-- where code stands in a block nothing comes that stands elsewhere
elsewhere : (s : Standing) → in_block s ≡ true → (outside s ≡ false) × (may_begin s ≡ false) × (shape.behind s ≡ false) × ((type : ℕ) → may_take type s ≡ false)
elsewhere Outside is = absurd (false≢true is)
elsewhere (Begun types) is = absurd (false≢true is)
elsewhere Behind is = absurd (false≢true is)
elsewhere _ is = (refl, refl, refl, λ type. refl)

present : (d : Instruction) → kind_of d ≡ Absent → ⊥
present instruction.Kill is = let e : Leaves ≡ Absent = is in absurd (cc)
present _ is = absurd (cc)

module _ (m : Module) (kept : Kept m) (input : Input) (before : Code) (p : Placed) (d : Instruction) (state : State) (r : Ready m input before p d state) where
  kind_is : kind (read p.instr) ≡ kind_of d
  kind_is = ap kind r.reads

  pub stands : stands_in (kind_of d) ≡ true
  stands = by_kind (kind_of d) refl
    where
      late : (k : Kind) → kind_of d ≡ k → (section_in (where_at m before).inside k == 9) ≡ true
      late k is = ap (λ x. section_in (where_at m before).inside x == 9) (sym (kind_is ∙ is)) ∙ ap (λ n. n == 9) (section_stays m before p.instr r.step.code r.step.keeps r.spot.section)

      may : (k : Kind) → kind_of d ≡ k → may_stand_here m (drop 1 (from_here m before)) (where_at m before).standing k ≡ true
      may k is = ap (may_stand_here m (drop 1 (from_here m before)) (where_at m before).standing) (sym (kind_is ∙ is)) ∙ r.step.keeps.shape

      by_kind : (k : Kind) → kind_of d ≡ k → stands_in k ≡ true
      by_kind (Begins type id function_type) is = absurd (true≢false (sym (and_parts (outside (where_at m before).standing) _ (may (Begins type id function_type) is)).0 ∙ (elsewhere (where_at m before).standing r.standing).0))
      by_kind (Takes type) is = absurd (true≢false (sym (may (Takes type) is) ∙ (elsewhere (where_at m before).standing r.standing).3 type))
      by_kind Opens is = absurd (true≢false (sym (may Opens is) ∙ (elsewhere (where_at m before).standing r.standing).1))
      by_kind Ended is = absurd (true≢false (sym (may Ended is) ∙ (elsewhere (where_at m before).standing r.standing).2))
      by_kind Absent is = absurd (present d is)
      by_kind (Holds v) is = refl
      by_kind (Calls type function arguments) is = refl
      by_kind (Gives type) is = refl
      by_kind Does is = refl
      by_kind Merges is = refl
      by_kind Leaves is = refl
      by_kind k is = absurd (false≢true (late k is))

  -- the ids that it needs may be used
  pub usable : AllByRecursion (λ id. usable_as (bare state.body) (where_at m before).block id (defined_as m id) ≡ true) (table.needs d)
  usable = each (table.needs d) (ap (λ x. list_all (is_near m before) (needs x)) (sym r.reads) ∙ (and_parts (list_all (is_near m before) (needs (read p.instr))) _ r.step.keeps.near).0)
    where
      each : (ids : List ℕ) → list_all (is_near m before) ids ≡ true → AllByRecursion (λ id. usable_as (bare state.body) (where_at m before).block id (defined_as m id) ≡ true) ids
      each [] all = tt
      each (id ∷ ids) all =
          let parts = and_parts (is_near m before id) (list_all (is_near m before) ids) all in
          (near_usable (where_at m before) (bare state.body) id (defined_as m id) r.spot.inside (r.spot.so_far id) parts.0, each ids parts.1)

  -- behind it ids stand for what they are to stand for
  behind_it : bounds (kind_of d) ≡ false → (where_at m (p.instr ∷ before)).block ≡ p.instr ∷ (where_at m before).block
  behind_it inside = cond-false (bounds_block (read p.instr)) [] (p.instr ∷ (where_at m before).block) (ap bounds kind_is ∙ inside)

  -- goes on with what the ids stood for
  pub going : bounds (kind_of d) ≡ false → bounds_one (kind_of d) ≡ false → gives_value (kind_of d) ≡ false → in_block (stands_after m (where_at m before).standing (kind_of d)) ≡ true → Good m input state
  going inside function none stays = record {
    bytes = r.bytes;
    returned = r.returned;
    waiting = r.waiting;
    enough = r.enough;
    runs = record {
      start = r.start;
      first = r.first;
      lasting = r.lasting;
      before = p.instr ∷ before;
      spot = r.step.goes (ap bounds_one kind_is ∙ function);
      now = inl (
        ap (λ k. in_block (stands_after m (where_at m before).standing k)) kind_is ∙ stays,
        subst (λ l. Agrees m (length state.variables) (bare state.body) l state.ids) (sym (behind_it inside))
            (agree_same m (length state.variables) (bare state.body) (where_at m before).block state.ids p.instr r.agrees
            (λ id type here block typed full. true≢false (sym block ∙ ap of_block (r.step.keeps.own id (defines_result p.instr id here)) ∙ ap gives_value kind_is ∙ none))),
      );
    };
  }

  -- goes on with one id more
  pub give_one : (id type : ℕ) (held : Held) → kind_of d ≡ Gives type → table.result_of d ≡ Some id → IsOf m (length state.variables) (target_of (defined_as m type)) held → Fine m input (giving state id held)
  give_one id type held gives result_is of =
      let k = kind_is ∙ gives in
      let result_here : result (read p.instr) ≡ Some id = ap result r.reads ∙ result_is in
      record {
        bytes = r.bytes;
        returned = r.returned;
        waiting = r.waiting;
        enough = r.enough;
        runs = record {
          start = r.start;
          first = r.first;
          lasting = r.lasting;
          before = p.instr ∷ before;
          spot = r.step.goes (ap bounds_one k);
          now = inl (
            ap (λ x. in_block (stands_after m (where_at m before).standing x)) k,
            subst (λ l. Agrees m (length state.variables) (bare state.body) l (give state.ids id held)) (sym (behind_it (ap bounds gives)))
                (agree_give m (length state.variables) (bare state.body) (where_at m before).block state.ids p.instr id type held r.agrees result_here (r.step.keeps.own id result_here) (ap gives_value k) (ap type_in k) of),
          );
        };
      }

  pub give_value : (id type : ℕ) (v : Value) → kind_of d ≡ Gives type → table.result_of d ≡ Some id → IsPlain m type → Fine m input (giving_value state id v)
  give_value id type v gives result_is plain = give_one id type (Whole v) gives result_is (subst (λ t. IsOf m (length state.variables) t (Whole v)) (sym (points_nowhere m type plain)) tt)

  -- what is drawn changes nothing of this
  pub drawn : (choices : List ℕ) → Ready m input before p d (record state { choices = choices })
  drawn choices = record {
    bytes = r.bytes;
    returned = r.returned;
    start = r.start;
    first = r.first;
    lasting = r.lasting;
    spot = r.spot;
    step = r.step;
    reads = r.reads;
    standing = r.standing;
    agrees = r.agrees;
    waiting = r.waiting;
    enough = r.enough;
  }
