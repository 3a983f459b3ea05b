-- Whole calls.
use Rattle.std.proofs.Common.{◌≡◌, refl, sym, ap, ◌∙◌, subst, inl, inr, ℕ, ◌+◌, ◌≤◌, Bool, false, List, [], ◌∷◌, length, map, Option, Some, None, arith}
use Rattle.std.specs.Prelude.{slice_get}
use Rattle.gsl_base.specs.declared.input.Input.{Input}
use Rattle.gsl_instr.specs.declared.op.TheConstants as op
use Rattle.gsl_types.specs.Known.{AreStructs}
use Rattle.gsl_types.specs.declared.ty.Direction.{Direction}
use Rattle.gsl_types.specs.declared.ty.StructType.{StructType}
use Rattle.gsl_types.specs.declared.ty.Ty.{Ty}
use Rattle.gsl_words.specs.declared.module.Module.{Module}
use Rattle.gsl_values.specs.declared.value.Value.{Value}
use Rattle.gsl_tree.specs.Around.{Around}
use Rattle.gsl_tree.specs.Weights.{params_of}
use Rattle.gsl_tree.specs.declared.program.Program.{Program}
use Rattle.gsl_meaning.specs.Expressions as shader_expr
use Rattle.gsl_meaning.specs.Expressions.{Called, Meant, Passed as ShaderPassed, Setting}
use Rattle.gsl_meaning.specs.Running.{Got, Run}
use Rattle.gsl_meaning.specs.Running as shader_run
use Rattle.gsl_meaning.specs.State as shader
use Rattle.gsl_machine.specs.State.{Ids, State}
use Rattle.gsl_spv.specs.Sections.{Sections}
use Rattle.gsl_lower_law.specs.Values.{Keeps}
use Rattle.gsl_lower_law.proofs.Joining.{keeps_then}
use Rattle.gsl_lower_holders.specs.Flow.{Emit, Flow, Gives, Lacks, Lowered, behind, given, giving_here, id_at, told, ◌>>=◌}
use Rattle.gsl_lower_holders.specs.declared.place.FlowPlace.{FlowPlace}
use Rattle.gsl_lower_expr.specs.Calls.{all_back, called_by, called_with, calling, passing_all, pointers, result_type, tys}
use Rattle.gsl_lower_expr.specs.Parts.{Lower, any_splits}
use Rattle.gsl_lower_follows.specs.Frames.{Frame, Good, Holder, Kept, Seated}
use Rattle.gsl_lower_follows.specs.Giving.{Adds, After, Does, GivesValue, Grown, GrownTo, HasGiven, IsGiven, none_waits}
use Rattle.gsl_lower_follows.proofs.Behind.{reaches_here}
use Rattle.gsl_lower_follows.proofs.Doing.{does_then}
use Rattle.gsl_lower_follows.proofs.Fetching.{adds_giving}
use Rattle.gsl_lower_follows.proofs.Growing.{adds_given, adds_then, grown_same}
use Rattle.gsl_lower_follows.proofs.Holding.{Unchanged, after_any, does_so, holder_number}
use Rattle.gsl_lower_law_expr.proofs.Short.{behind_assoc}
use Rattle.gsl_lower_law_returns.specs.Calling.{AreAlike}
use Rattle.gsl_lower_law_entered.specs.Modules.{IsFrame}
use Rattle.gsl_lower_law_entered.specs.Entering.{Argument, ids_of, values_of}
use Rattle.gsl_lower_law_functions.specs.Functions.{FunctionDoes, HasReturned}
use Rattle.gsl_lower_law_functions.proofs.Calling.{adds_result, does_result}
use Rattle.gsl_lower_law_functions.proofs.Passing.{Passed}
use Rattle.gsl_lower_stores.specs.OfWrites.{IsWritten}
use Rattle.gsl_lower_law_passed.specs.Arguments.{AllServe}
use Rattle.gsl_lower_law_passed.proofs.Backs.{adds_all, does_all}
use Rattle.gsl_lower_law_passed.proofs.Called.{ends, item_at, items_held, items_many, items_typed}
use Rattle.gsl_lower_law_passed.proofs.Items.{AreItems, Item, arguments_of, meant_of, pointers_are, values_are, ways_of}
use Rattle.gsl_lower_law_passed.proofs.Passing.{ArePassed, adds_passing, item_after, passing_does}

module _ (m : Module) (input : Input) (whole : Sections) (f : Frame m input whole) (p : Program) (around : Around) (are : AreStructs p.structs) where
  -- arguments that wait do so behind what has no blocks
  items_after : (first : ℕ) (params : List (Direction × Ty)) (es : List Lower) (xs : List Meant) (b later : Flow) (state last : State) (s : shader.State) (items : List Item) → Grown b later → After m input whole f p around false b state later s last
      → AreItems m input whole f p around first params es xs b state items → AreItems m input whole f p around first params es xs later last items
  items_after first [] [] [] b later state last s [] grown after is = tt
  items_after first [] [] [] b later state last s (i ∷ items) grown after is = is
  items_after first [] [] (x ∷ xs) b later state last s items grown after is = absurd is
  items_after first [] (e ∷ es) xs b later state last s items grown after is = absurd is
  items_after first (param ∷ params) [] xs b later state last s items grown after is = absurd is
  items_after first (param ∷ params) (e ∷ es) [] b later state last s items grown after is = absurd is
  items_after first (param ∷ params) (e ∷ es) (x ∷ xs) b later state last s [] grown after is = absurd is
  items_after first (param ∷ params) (e ∷ es) (x ∷ xs) b later state last s (i ∷ items) grown after is = (
    item_after m input whole f p around first (any_splits es) param.1 e x b later state last s i grown (after_any m input whole f p around (any_splits es) b later state last s after) is.0,
    items_after (i.argument.holder + 1) params es xs b later state last s items grown after is.1,
  )

  given_later : (ids later : Ids) (id : ℕ) (t : Ty) (v : Value) → Keeps ids later → IsGiven m input whole f p around ids id t v → IsGiven m input whole f p around later id t v
  given_later ids later id t v keeps (inl void) = inl void
  given_later ids later id t v keeps (inr (typed, stands)) = inr (typed, keeps.same id _ stands)

  module _ (globals : Around) (place : FlowPlace) (stages : List (Option Value)) (setting : Setting) (number function : ℕ) (params : List (Direction × Ty)) (t : Ty) (one : IsFrame m input whole place stages f) (named : slice_get place.functions number ≡ Some function) (alike : AreAlike around globals)
      (function_does : FunctionDoes m input whole p place stages globals function params t (setting.call number)) where
    -- wherever control is in the function, the function that is called has its id
    named_here : (b : Flow) → Seated m input whole f b.place → slice_get b.place.functions number ≡ Some function
    named_here b at = ap (λ (other : FlowPlace). slice_get other.functions number) at.same ∙ ap (λ l. slice_get l number) one.knows.functions ∙ named

    -- what the shader goes on with behind the arguments
    abbrev means : List ShaderPassed → Run Value
    means qs = shader_run.◌>>=◌ (setting.call number (shader_expr.values_of qs)) (shader_expr.returning qs)

    module _ (es : List Lower) (xs : List Meant) where
      abbrev behind_call : List Passed → ℕ → Emit ℕ
      behind_call ways id = all_back p.structs ways params (tys es) >>= (λ done. given id)

      adds_call : (ways : List Passed) (id : ℕ) → Adds (behind_call ways id)
      adds_call ways id = adds_then (all_back p.structs ways params (tys es)) (λ done. given id) (adds_all m input whole f p around ways params (tys es)) (λ done. adds_given id)

      abbrev made : List Passed → ℕ → Emit ℕ
      made ways type = giving_here op.FUNCTION_CALL (function ∷ pointers ways) type

      adds_told : Adds (told (λ place. place.functions) number)
      adds_told b = by (slice_get b.place.functions number)
        where
          by : (o : Option ℕ) → GrownTo b (id_at o b)
          by None = tt
          by (Some id) = grown_same b

      adds_called : (ways : List Passed) → Adds (called_with p.structs number params (tys es) t ways)
      unfolding called_with
      adds_called ways =
          adds_then (called_by number t ways) (behind_call ways)
          (adds_then (told (λ place. place.functions) number) (λ fid. result_type t >>= giving_here op.FUNCTION_CALL (fid ∷ pointers ways)) adds_told
          (λ fid. adds_then (result_type t) (giving_here op.FUNCTION_CALL (fid ∷ pointers ways)) (adds_result m input whole f p around t) (λ type. adds_giving m input whole op.FUNCTION_CALL (fid ∷ pointers ways) type)))
          (adds_call ways)

      -- The call is over, and what came back stands where it belongs.
      record HasEnded (first : ℕ) (b : Flow) (state : State) (id : ℕ) (later : Flow) (v : Value) (s : shader.State) (last : State) : Type 0 where
        good : Good m input whole f p around later s last
        ids : Keeps state.ids last.ids
        held : first ≤ b.place.used → Kept m input whole f first state last
        given : IsGiven m input whole f p around last.ids id t v

      module _ (first : ℕ) (b : Flow) (s : shader.State) (units : ℕ) (state : State) (good : Good m input whole f p around b s state) (items : List Item) (each : AreItems m input whole f p around first params es xs b state items) (type : ℕ) where
        abbrev args : List Argument
        args = arguments_of items

        many : (length items ≡ length es) × (length args ≡ length params)
        many = items_many m input whole f p around first params es xs b state items each

        -- the call itself
        call_does : Does m input whole f p 0 units state (λ id later c u last. HasReturned m input whole p f around params t first id args state later c u last) none_waits (setting.call number (values_of args) s units) (giving_here op.FUNCTION_CALL (function ∷ ids_of args) type b)
        call_does = by (giving_here op.FUNCTION_CALL (function ∷ ids_of args) type b) refl
          where
            by : (low : Lowered ℕ) → giving_here op.FUNCTION_CALL (function ∷ ids_of args) type b ≡ low → Does m input whole f p 0 units state (λ id later c u last. HasReturned m input whole p f around params t first id args state later c u last) none_waits (setting.call number (values_of args) s units) low
            by Lacks puts = tt
            by (Gives id later) puts = λ inside.
                function_does.does f around b later args type id first units s state one alike good puts inside (items_held m input whole f p around first params es xs b state items each) many.1 (items_typed m input whole f p around first params es xs b state items each)

        abbrev NotArgument : ℕ → Type 0
        NotArgument h = (j : ℕ) (a : Argument) → slice_get args j ≡ Some a → a.holder ≡ h → ⊥

        holder_same : (j k : ℕ) → Holder j ≡ Holder k → j ≡ k
        holder_same j k e = ap holder_number e

        others : (later : Flow) (last : State) (id : ℕ) (c : Called) (u : shader.State) → HasReturned m input whole p f around params t first id args state later c u last
            → (holder n : ℕ) → f.seat (Holder holder) ≡ Some n → ((j : ℕ) (a : Argument) → slice_get args j ≡ Some a → a.holder ≡ holder → ⊥) → slice_get last.variables n ≡ slice_get state.variables n
        others later last id c u ret holder n seat none =
            ret.others holder n seat (λ j a there same.
            none j a there (holder_same a.holder holder (f.apart (Holder a.holder) (Holder holder) n ((item_at m input whole f p around first params es xs b state items each j a there).held.seat ∙ ap Some same) seat)))

        -- and what comes back
        call_then : Does m input whole f p 0 units state (HasEnded first b state) none_waits (means (map meant_of items) s units) ((made (ways_of es items) type >>= behind_call (ways_of es items)) b)
        call_then =
            subst (λ ids. Does m input whole f p 0 units state (HasEnded first b state) none_waits (means (map meant_of items) s units) ((giving_here op.FUNCTION_CALL (function ∷ ids) type >>= behind_call (ways_of es items)) b)) (sym (pointers_are es items many.0))
            (subst (λ vs. Does m input whole f p 0 units state (HasEnded first b state) none_waits (shader_run.◌>>=◌ (setting.call number vs) (shader_expr.returning (map meant_of items)) s units) ((giving_here op.FUNCTION_CALL (function ∷ ids_of args) type >>= behind_call (ways_of es items)) b)) (sym (values_are items))
            (does_then m input whole f p 0 units b state (λ id later c u last. HasReturned m input whole p f around params t first id args state later c u last) none_waits (HasEnded first b state) none_waits (setting.call number (values_of args) s units) (shader_expr.returning (map meant_of items))
            (giving_here op.FUNCTION_CALL (function ∷ ids_of args) type b) (behind_call (ways_of es items)) good.inside (adds_giving m input whole op.FUNCTION_CALL (function ∷ ids_of args) type b) (adds_call (ways_of es items))
            call_does
            (λ id later c u left last within grown ret less.
            does_then m input whole f p 0 left later last (IsWritten m input whole f p around later last) none_waits (HasEnded first b state) none_waits (Got tt (shader_expr.all_back (map meant_of items) c.params u) left) (λ (done : Unit {0}) w rest. Got c.value w rest)
            (all_back p.structs (ways_of es items) params (tys es) later) (λ done. given id) within (adds_all m input whole f p around (ways_of es items) params (tys es) later) (λ done. adds_given id)
            (does_all m input whole f p around are first params es xs items c.params later u left last ret.good
            (ends m input whole f p around are b later state last ret.ids grown.used NotArgument (λ holder n seat none. others later last id c u ret holder n seat none) first params es xs items c.params each (λ h low none. none) ret.typed ret.params))
            (λ done later2 two w rest last2 within2 grown2 after less2.
            λ there. reaches_here m input rest last2 (HasEnded first b state id later2 c.value w) (record {
              good = after.good;
              ids = keeps_then ret.ids (after.ids refl);
              held = λ enough. record { same = λ holder n few seat. after.held.same holder n (let used = grown.used in omega (arith, few, used, enough)) seat ∙ ret.held.same holder n few seat };
              given = given_later last.ids last2.ids id t c.value (after.ids refl) ret.given;
            }))
            (λ done later2 w rest last2 within2 grown2 none less2. absurd none))
            (λ id later u left last within grown none less. absurd none)))

      -- the whole, behind the arguments
      module _ (splits : Bool) (b0 b : Flow) (state0 state : State) (s : shader.State) (units : ℕ) (grown : Grown b0 b) (items : List Item) (each : AreItems m input whole f p around b0.place.used params es xs b state items) (after : After m input whole f p around splits b0 state0 b s state) where
        called_here : Does m input whole f p 0 units state (HasGiven m input whole f p around splits t b0 state0) none_waits (means (map meant_of items) s units) (called_with p.structs number params (tys es) t (ways_of es items) b)
        unfolding called_with
        called_here =
            subst (λ (o : Option ℕ). Does m input whole f p 0 units state (HasGiven m input whole f p around splits t b0 state0) none_waits (means (map meant_of items) s units) (behind (behind (id_at o b) (λ fid. result_type t >>= giving_here op.FUNCTION_CALL (fid ∷ pointers (ways_of es items)))) (behind_call (ways_of es items)))) (sym (named_here b after.good.seated))
            (subst (λ low. Does m input whole f p 0 units state (HasGiven m input whole f p around splits t b0 state0) none_waits (means (map meant_of items) s units) low) (sym (behind_assoc (result_type t b) (made (ways_of es items)) (behind_call (ways_of es items))))
            (does_then m input whole f p 0 units b state (Unchanged m input whole f p around b state) none_waits (HasGiven m input whole f p around splits t b0 state0) none_waits (Got tt s units) (λ (one : Unit {0}) u left. means (map meant_of items) u left) (result_type t b) (λ type. made (ways_of es items) type >>= behind_call (ways_of es items)) after.good.inside
            (adds_result m input whole f p around t b) (λ type. adds_then (made (ways_of es items) type) (behind_call (ways_of es items)) (adds_giving m input whole op.FUNCTION_CALL (function ∷ pointers (ways_of es items)) type) (adds_call (ways_of es items)))
            (does_result m input whole f p around t units b s state after.good)
            (λ type b1 one u left mid within grown1 unchanged less.
            does_so m input whole f p around 0 left mid (HasEnded b0.place.used b1 mid) (HasGiven m input whole f p around splits t b0 state0) (means (map meant_of items) u left) ((made (ways_of es items) type >>= behind_call (ways_of es items)) b1)
            (λ id later v w last end. record {
              given = end.given;
              after = record {
                good = end.good;
                held = record { same = λ holder n few seat. (end.held (let used = grown.used in let more = grown1.used in omega (arith, used, more))).same holder n few seat ∙ unchanged.held.same holder n (let used = grown.used in omega (arith, few, used)) seat ∙ after.held.same holder n few seat };
                ids = λ e. keeps_then (after.ids e) (keeps_then (unchanged.ids refl) end.ids);
              };
            })
            (call_then b0.place.used b1 u left mid unchanged.good items (items_after b0.place.used params es xs b b1 state mid u items grown1 unchanged each) type))
            (λ type b1 u left mid within grown1 none less. absurd none)))

      -- ---- with the arguments

      module _ (all : AllServe m input whole f p around params es xs) where
        abbrev emit : Emit ℕ
        emit = passing_all p.structs es params >>= called_with p.structs number params (tys es) t

        abbrev run : Run Value
        run = shader_run.◌>>=◌ (shader_expr.passing_all p.structs params xs) means

        pub whole_gives : GivesValue m input whole f p around (any_splits es) t emit run
        whole_gives = record {
          adds = adds_then (passing_all p.structs es params) (called_with p.structs number params (tys es) t) (adds_passing m input whole f p around are params es xs all) adds_called;
          does = λ b s units state good.
              does_then m input whole f p 0 units b state (ArePassed m input whole f p around (any_splits es) b.place.used params es xs b state) none_waits (HasGiven m input whole f p around (any_splits es) t b state) none_waits (shader_expr.passing_all p.structs params xs s units) means
              (passing_all p.structs es params b) (called_with p.structs number params (tys es) t) good.inside (adds_passing m input whole f p around are params es xs all b) adds_called
              (passing_does m input whole f p around are params es xs all b.place.used b s units state good (omega arith))
              (λ passes between qs u left mid within grown r less.
              subst (λ (ws : List Passed). Does m input whole f p 0 left mid (HasGiven m input whole f p around (any_splits es) t b state) none_waits (means qs u left) (called_with p.structs number params (tys es) t ws between)) (sym r.are)
              (subst (λ (rs : List ShaderPassed). Does m input whole f p 0 left mid (HasGiven m input whole f p around (any_splits es) t b state) none_waits (means rs u left) (called_with p.structs number params (tys es) t (ways_of es r.items) between)) (sym r.mean)
              (called_here (any_splits es) b between state mid u left grown r.items r.each r.after)))
              (λ passes between u left mid within grown none less. absurd none);
        }

pub call_passes : (m : Module) (input : Input) (whole : Sections) (f : Frame m input whole) (p : Program) (around globals : Around) (place : FlowPlace) (stages : List (Option Value)) (setting : Setting) (number function : ℕ) (args : List Lower) (xs : List Meant) (t : Ty) → AreStructs p.structs → setting.structs ≡ p.structs → IsFrame m input whole place stages f
    → slice_get place.functions number ≡ Some function → AreAlike around globals → AllServe m input whole f p around (params_of (slice_get setting.prototypes number)) args xs → FunctionDoes m input whole p place stages globals function (params_of (slice_get setting.prototypes number)) t (setting.call number)
    → GivesValue m input whole f p around (any_splits args) t (calling p.structs setting.prototypes number args t) (shader_expr.calling setting number xs)
call_passes m input whole f p around globals place stages setting number function args xs t are structs one named alike all does =
    subst (λ (ss : List StructType). GivesValue m input whole f p around (any_splits args) t (calling p.structs setting.prototypes number args t)
    (shader_run.◌>>=◌ (shader_expr.passing_all ss (params_of (slice_get setting.prototypes number)) xs) (λ qs. shader_run.◌>>=◌ (setting.call number (shader_expr.values_of qs)) (shader_expr.returning qs)))) (sym structs)
    (whole_gives m input whole f p around are globals place stages setting number function (params_of (slice_get setting.prototypes number)) t one named alike does args xs all)
