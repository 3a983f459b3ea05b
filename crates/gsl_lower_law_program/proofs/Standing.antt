-- All functions of a program stand as is asked, and do what they mean.
use Rattle.std.proofs.Common.{◌≡◌, refl, sym, ap, ◌∙◌, subst, ℕ, zero, suc, ◌<◌, ◌≤◌, true, List, [], ◌∷◌, length, slice_get, Option, Some, arith}
use Rattle.gsl_base.specs.declared.input.Input.{Input}
use Rattle.gsl_types.specs.declared.ty.Ty.{Ty}
use Rattle.gsl_words.specs.declared.module.Module.{Module}
use Rattle.gsl_words.specs.declared.target.Target.{Target}
use Rattle.gsl_values.specs.declared.value.Value.{Value}
use Rattle.gsl_tree.specs.Statements.{IsBody}
use Rattle.gsl_tree.specs.Weights.{calls_of}
use Rattle.gsl_tree.specs.WellTyped.{AreWellTyped, IsFunction as IsTypedFunction, IsProgram, IsPrototype, around_body, program_lists}
use Rattle.gsl_tree.specs.declared.program.Program.{Program}
use Rattle.gsl_tree.specs.declared.unit.Prototype.{Prototype}
use Rattle.gsl_meaning.specs.Shader.{most_calls}
use Rattle.gsl_valid.specs.Valid.{Valid}
use Rattle.gsl_link_calls.specs.Calls.{called_by}
use Rattle.gsl_link_calls.specs.Ranks.{IsIn}
use Rattle.gsl_spv.specs.Finished.{module_of}
use Rattle.gsl_lower_text.proofs.Finishes.{finished_written}
use Rattle.gsl_lower_holders.specs.Flow.{Flow, find_type}
use Rattle.gsl_lower_flow.specs.Reaching.{is_lowered, is_reached, main_head}
use Rattle.gsl_lower_follows.specs.Frames.{Frame}
use Rattle.gsl_lower_law_entered.specs.Modules.{IsFrame}
use Rattle.gsl_lower_law_zeros.proofs.Said.{nulls_kept}
use Rattle.gsl_lower_law_shader.specs.Depths.{AllStand, CallsDo, MayCall, Stands}
use Rattle.gsl_lower_law_reached.proofs.Typed.{good_typed}
use Rattle.gsl_lower_law_shader.specs.Typed.{KnowsTypes}
use Rattle.gsl_lower_law_shader.proofs.Ranked.{ranked_do}
use Rattle.gsl_lower_law_linked.specs.Nesting.{MayNest}
use Rattle.gsl_lower_law_shader.specs.Asked.{AllAsked}
use Rattle.gsl_lower_law_program.specs.Ranks.{rank_of}
use Rattle.gsl_lower_law_program.specs.Standing.{HaveFunctions}
use Rattle.gsl_lower_law_program.proofs.Sounds.{body_known}
use Rattle.gsl_lower_law_program.proofs.Asking.{body_asked}
use Rattle.gsl_lower_law_program.proofs.Ranks.{IsAt, callee_lower, low_reached, reached_on, reached_there}
use Rattle.gsl_lower_law_linked.proofs.Linked.{all_at}

-- of two lists of one length, what is at a position of the one is at that of the other
in_both : {A B : Type 0} (xs : List A) (ys : List B) (k : ℕ) (x : A) → length ys ≡ length xs → slice_get xs k ≡ Some x → (y : B) × (slice_get ys k ≡ Some y)
in_both [] ys zero x same is = absurd (cc)
in_both [] ys (suc k) x same is = absurd (cc)
in_both (z ∷ xs) [] k x same is = absurd (omega (arith, same))
in_both (z ∷ xs) (y ∷ ys) zero x same is = (y, refl)
in_both (z ∷ xs) (y ∷ ys) (suc k) x same is = in_both xs ys k x (omega (arith, same)) is

some : {A : Type 0} (a b : A) → Some a ≡ Some b → a ≡ b
some a b e = cc

module _ (target : Target) (p : Program) (program : IsProgram p) (nests : MayNest p) (main : ℕ) (flow : Flow) (valid : Valid (module_of flow.sections main p.local_size)) (h : HaveFunctions target p main flow) where
  abbrev m : Module
  m = module_of flow.sections main p.local_size

  abbrev typed : AreWellTyped (program_lists p)
  typed = program.typed

  -- a function that is called by one that is reached has an id
  pub callee_known : (number n : ℕ) → is_reached p.functions (main_head p) number ≡ true → IsIn (called_by p.functions number) n → (function : ℕ) × (slice_get h.place.functions n ≡ Some function)
  callee_known number n reached call =
      let callee = reached_there p nests 0 program.function program.main n (reached_on p.functions (main_head p) number n reached call) in
      let t = all_at (IsTypedFunction (program_lists p)) p.functions callee.number callee.tree typed.functions callee.there in
      in_both p.prototypes h.place.functions n t.prototype h.outer.heads (subst (λ k. slice_get p.prototypes k ≡ Some t.prototype) callee.same t.declared)

  module _ (input : Input) (stages : List (Option Value)) where
    -- ---- what a frame knows

    pub knows_types : (g : Frame m input flow.sections) → IsFrame m input flow.sections h.place stages g → KnowsTypes m input flow.sections g p
    knows_types g of_module = record {
      vectors = λ t composite id is. h.told.vectors t id (known t id is);
      nulls = nulls_kept m flow.sections g.own valid (finished_written flow.sections main p.local_size) of_module.lasting;
      zeros = λ t composite is id found. h.told.zeros t id (known t id found) is.known is.plain;
      wholes = λ params locals. record {
        valid = valid;
        written = finished_written flow.sections main p.local_size;
        shaped = record { typed = λ state b s good. good_typed m input flow.sections g p (around_body (program_lists p) params locals) b s state good };
        zeros_are = λ t composite sound plain id found. h.told.zeros t id (known t id found) sound plain;
      };
    }
      where
        known : (t : Ty) (id : ℕ) → find_type t g.place.composites ≡ Some id → find_type t h.place.composites ≡ Some id
        known t id is = ap (find_type t) (sym of_module.knows.composites) ∙ is

    -- ---- what may be called

    may_call : (number : ℕ) (at : IsAt p.functions number) → is_reached p.functions (main_head p) number ≡ true → (n : ℕ) → IsIn (calls_of at.tree) n → MayCall m input flow.sections p h.place stages (rank_of p) (rank_of p number) n
    may_call number at reached n is =
        let call = subst (λ l. IsIn l n) (sym at.calls) is in
        let id = callee_known number n reached call in
        record { less = callee_lower p nests number n reached call; function = id.0; known = id.1 }

    -- ---- all functions

    module _ (asked : AllAsked m input flow.sections p h.place stages (is_lowered p)) where
      stands : (number function : ℕ) (head : Prototype) → slice_get p.prototypes number ≡ Some head → slice_get h.place.functions number ≡ Some function → is_reached p.functions (main_head p) number ≡ true → IsAt p.functions number
          → Stands m input flow.sections p h.place stages (rank_of p) number function head
      stands number function head named known reached at =
          let named_tree = subst (λ k. slice_get p.prototypes k ≡ Some head) (sym at.same) named in
          let s = h.stand at.number function at.tree head at.there (subst (λ k. is_reached p.functions (main_head p) k ≡ true) (sym at.same) reached) named_tree (subst (λ k. slice_get h.place.functions k ≡ Some function) (sym at.same) known) in
          let t = all_at (IsTypedFunction (program_lists p)) p.functions at.number at.tree typed.functions at.there in
          let q = all_at (IsPrototype p.structs) p.prototypes number head typed.prototypes named in
          let same : t.prototype ≡ head = some t.prototype head (sym t.declared ∙ named_tree) in
          let body = subst (λ (x : Prototype). IsBody (around_body (program_lists p) x.params at.tree.locals) x.result at.tree.body) same t.body in
          record {
            tree = at.tree;
            found = at.found;
            begin = s.begin;
            stands = s.stands;
            lowered = s.lowered;
            many = s.many;
            result = q.result;
            typed = record { program = typed; of_params = q.params; of_locals = t.locals };
            body = body;
            knows = knows_types;
            asks = λ depth g of_module.
                body_asked m input flow.sections p h.place stages (rank_of p) (rank_of p number) depth g head.params at.tree.locals at.tree (may_call number at reached) (body_known p program head.params at.tree.locals q.params t.locals head.result at.tree.body body) (asked number head at.tree at.found (subst (λ k. is_reached p.functions (main_head p) k ≡ true) (sym at.same) reached) named depth g of_module);
          }

      pub all_stand : AllStand m input flow.sections p h.place stages (rank_of p) most_calls
      all_stand number function head named known less =
          let reached = low_reached p nests number less in
          stands number function head named known reached (reached_there p nests 0 program.function program.main number reached)

      pub functions_do : (depth number : ℕ) → depth ≤ most_calls → rank_of p number < depth → CallsDo m input flow.sections p h.place stages depth number
      functions_do depth number low less =
          ranked_do m input flow.sections p h.place stages (rank_of p) depth number valid (finished_written flow.sections main p.local_size)
          (λ n f q named known below. all_stand n f q named known (omega (arith, below, low))) less

pub calls_do : (target : Target) (p : Program) (main : ℕ) (flow : Flow) → IsProgram p → MayNest p → Valid (module_of flow.sections main p.local_size) → (h : HaveFunctions target p main flow) → (input : Input) (stages : List (Option Value)) → AllAsked (module_of flow.sections main p.local_size) input flow.sections p h.place stages (is_lowered p)
    → (depth number : ℕ) → depth ≤ most_calls → rank_of p number < depth → CallsDo (module_of flow.sections main p.local_size) input flow.sections p h.place stages depth number
calls_do target p main flow program nests valid h input stages asked depth number low less = functions_do target p program nests main flow valid h input stages asked depth number low less
