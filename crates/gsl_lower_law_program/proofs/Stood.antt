-- The functions of a program stand in its module.
use Rattle.std.proofs.Common.{◌≡◌, refl, sym, ap, ◌∙◌, subst, ℕ, zero, suc, Bool, true, false, List, [], ◌∷◌, ◌++◌, map, length, slice_get, Some, append_assoc}
use Rattle.std.specs.List.{AllByRecursion}
use Rattle.std.proofs.lemmas.List.{length-map}
use Rattle.gsl_instr.specs.declared.op.TheConstants as op
use Rattle.gsl_types.specs.declared.ty.Ty.{Ty}
use Rattle.gsl_words.specs.declared.module.Module.{Module}
use Rattle.gsl_words.specs.declared.target.Target.{Target}
use Rattle.gsl_tree.specs.Values.{zero_value}
use Rattle.gsl_tree.specs.WellTyped.{AreWellTyped, IsFunction as IsTypedFunction, IsVariableType, program_lists}
use Rattle.gsl_tree.specs.declared.program.Program.{Program}
use Rattle.gsl_tree.specs.declared.unit.Function.{Function}
use Rattle.gsl_tree.specs.declared.unit.Prototype.{Prototype}
use Rattle.gsl_typed_law.proofs.Zeros.{declared_plain, zero_typed}
use Rattle.gsl_valid.specs.Placed.{Code, Placed, placed_from}
use Rattle.gsl_valid.specs.Valid.{Valid}
use Rattle.gsl_machine.specs.Constants.{constant}
use Rattle.gsl_sound_code.proofs.Looks.{kept}
use Rattle.gsl_spv.specs.Calls as call
use Rattle.gsl_spv.specs.Declarations.{instr}
use Rattle.gsl_spv.specs.Finished.{module_of}
use Rattle.gsl_spv.specs.Growing.{Extends}
use Rattle.gsl_spv.specs.Sections.{Sections, empty}
use Rattle.gsl_spv.proofs.Extending.{extends_same, extends_then}
use Rattle.gsl_lower_law.proofs.Adding.{extends_put}
use Rattle.gsl_lower_values.specs.Building.{Built, Full, Made}
use Rattle.gsl_lower_text.specs.Written.{Written}
use Rattle.gsl_lower_text.proofs.Finishes.{finished_written}
use Rattle.gsl_lower_holders.specs.Flow.{Flow, Gives, behind, flow_of, told}
use Rattle.gsl_lower_holders.specs.declared.place.FlowPlace.{FlowPlace}
use Rattle.gsl_lower_needs.specs.declared.need.Need.{Need}
use Rattle.gsl_lower_flow.specs.Functions as flow
use Rattle.gsl_lower_flow.specs.Functions.{function_put}
use Rattle.gsl_lower_flow.specs.Programs.{declared, from_there, functions_put, lowered, program_needs, program_setting, put_by, put_if, told_main}
use Rattle.gsl_lower_flow.specs.Reaching.{is_lowered, main_head}
use Rattle.gsl_lower_follows.specs.Frames.{Local, id_of}
use Rattle.gsl_lower_frames.specs.Standing.{StandsIn, begins, place_in}
use Rattle.gsl_lower_frames.proofs.Found.{section_held}
use Rattle.gsl_lower_frames.proofs.Starts.{variables_same}
use Rattle.gsl_lower_law_loops.proofs.Opening.{opens}
use Rattle.gsl_lower_law_entered.specs.Modules.{AreShared, Declared, Opens}
use Rattle.gsl_lower_law_entered.proofs.Given.{map_there}
use Rattle.gsl_lower_law_outside.specs.OfLawOpening.{HasOpened, Taken, takes}
use Rattle.gsl_lower_law_outside.proofs.OfLawOpening.{same_flow}
use Rattle.gsl_lower_law_outside.specs.Known.{AreTold}
use Rattle.gsl_lower_law_outside.specs.Outside.{HasOuter}
use Rattle.gsl_lower_law_outside.proofs.Program.{declared_told}
use Rattle.gsl_lower_law_outside.proofs.Variables.{outer_put}
use Rattle.gsl_lower_law_linked.proofs.Linked.{all_at}
use Rattle.gsl_lower_law_program.specs.Standing.{HaveFunctions, StandsAt}
use Rattle.gsl_lower_law_program.proofs.Codes.{code_of, ends_here, no_labels, opening_of, parameters_are, variables_are}
use Rattle.gsl_lower_law_program.proofs.Names.{front_at, placed, vs_new}
use Rattle.gsl_lower_law_program.proofs.Put.{Goes, IsPut, code_put, goes_same, goes_then, mid_goes, put_goes, put_is, told_here}
use Rattle.gsl_lower_law_program.proofs.Zeros.{all_zeroed, begins_zero}

-- ---- one function

module _ (p : Program) (typed : AreWellTyped (program_lists p)) (main : ℕ) (whole : Sections) (valid : Valid (module_of whole main p.local_size)) (asked : List Need) (start first : Sections) (place : FlowPlace)
    (outer : HasOuter p asked start place first) (told : AreTold (module_of whole main p.local_size) p.structs place.composites)
    (f : Function) (head : Prototype) (locals : AllByRecursion (IsVariableType p.structs) f.locals) (b later : Flow) (put : IsPut p f head b later) (shared : AreShared place b.place) (reached : Extends first b.sections) (into : Extends later.sections whole) where
  abbrev m : Module
  m = module_of whole main p.local_size

  abbrev o : HasOpened put.function head f.locals (flow.holder_types put.needs) b put.mid
  o = put.opening

  abbrev vs : List Declared
  vs = o.variables ++ o.waiting

  abbrev code : Code
  code = code_of o.params o.label vs put.inner.put

  abbrev opening : Code
  opening = opening_of o.params o.label vs

  abbrev ahead : Code
  ahead = b.sections.functions ++ begins put.function o.returned 0 o.function_type ∷ []

  abbrev more : Code
  more = into.functions.more

  whole_is : whole.functions ≡ b.sections.functions ++ begins put.function o.returned 0 o.function_type ∷ (code ++ more)
  whole_is = into.functions.is ∙ ap (λ l. l ++ more) (code_put p f head b later put) ∙ append_assoc b.sections.functions (begins put.function o.returned 0 o.function_type ∷ code) more

  stands_in : StandsIn m put.function code
  stands_in = section_held whole main p.local_size b.sections.functions code more put.function o.returned 0 o.function_type whole_is (ends_here o.params o.label vs put.inner.put put.inner.inner)

  abbrev body : List Placed
  body = placed_from (place_in m put.function code stands_in) code

  last_into : Extends put.last.sections whole
  last_into = extends_then (subst (λ (x : Flow). Extends put.last.sections x.sections) (sym put.ends) (end_extends put.last)) into
    where
      end_extends : (x : Flow) → Extends x.sections (call.put op.FUNCTION_END [] x.sections)
      end_extends x = extends_put op.FUNCTION_END [] x.sections

  mid_into : Extends put.mid.sections whole
  mid_into = extends_then put.inner.grown.extends last_into

  written : Written m whole
  written = finished_written whole main p.local_size

  told_there : AreTold m p.structs b.place.composites
  told_there = subst (AreTold m p.structs) (sym shared.composites) told

  opens_as : Opens m p.structs f.locals put.mid.place opening code
  opens_as = record {
    params = map takes o.params;
    label = o.label;
    variables = vs;
    is = refl;
    ahead = no_labels o.params o.label vs put.inner.put put.inner.inner;
    all = variables_are o.params o.label vs put.inner.put put.inner.inner;
    apart = λ j k v w first second same. (vs_new m whole (kept m valid) written p asked start first_ place outer put.function head f.locals (flow.holder_types put.needs) b put.mid shared reached o mid_into).apart j k v.id
        (map_there (λ (x : Declared). x.id) vs j v first) (map_there (λ (x : Declared). x.id) vs k w second ∙ ap Some (sym same));
    zeros = zeros;
  }
    where
      first_ : Sections
      first_ = first

      zeros : (number : ℕ) (t : Ty) → slice_get f.locals number ≡ Some t → (position : ℕ) × (v : Declared) × (slice_get vs position ≡ Some v) × (id_of put.mid.place (Local number) ≡ Some v.id) × (constant m v.zero ≡ zero_value p.structs t)
      zeros number t is =
          let z = all_zeroed b put.mid f.locals o.variables o.zeros number t is in
          let kind = all_at (IsVariableType p.structs) f.locals number t locals is in (
            number,
            z.v,
            front_at o.variables o.waiting number z.v z.there,
            ap (λ (q : FlowPlace). slice_get q.locals number) o.place ∙ map_there (λ (x : Declared). x.id) o.variables number z.v z.there,
            begins_zero m whole p.structs (kept m valid) written t b put.mid z.v told_there kind.known kind.plain z.zeros mid_into,
          )

  pub stands : StandsAt m whole p place put.function head f
  stands = record {
    begin = put.mid;
    stands = record {
      before = ahead;
      code = code;
      behind = more;
      stands = stands_in;
      among = whole_is ∙ sym (append_assoc b.sections.functions (begins put.function o.returned 0 o.function_type ∷ []) (code ++ more));
      opening = opening;
      rest = put.inner.put ++ instr op.FUNCTION_END [] ∷ [];
      is = refl;
      here = o.puts ∙ sym (append_assoc b.sections.functions (begins put.function o.returned 0 o.function_type ∷ []) opening);
      extends = mid_into;
      placed = placed m whole (kept m valid) written p asked start first place outer put.function head f.locals (flow.holder_types put.needs) b put.mid shared reached o mid_into body
          (parameters_are o.params o.label vs put.inner.put put.inner.inner (place_in m put.function code stands_in)) (variables_same (place_in m put.function code stands_in) code ∙ variables_are o.params o.label vs put.inner.put put.inner.inner);
      opens = opens_as;
      shared = (goes_then (record { sections = b.sections; place = place }) b put.mid (record { extends = extends_same b.sections; shared = shared }) (mid_goes p f head b later put)).shared;
      typed = λ number t is. let kind = all_at (IsVariableType p.structs) f.locals number t locals is in zero_typed p.structs typed.structs (declared_plain p.structs typed.declared) t kind.known kind.plain;
    };
    lowered = record { later = put.last; is = put.body; put = put.inner.put; puts = put.inner.is; behind = instr op.FUNCTION_END [] ∷ []; all = refl; extends = last_into };
    many = sym o.many ∙ sym (length-map o.params (λ (t : Taken). t.id)) ∙ ap (λ (q : FlowPlace). length q.params) (sym o.place);
  }

-- ---- all functions

-- A function was put between two flows.
record Found (p : Program) (f : Function) (head : Prototype) (b later : Flow) : Type 0 where
  before : Flow
  after : Flow
  put : IsPut p f head before after
  ahead : Goes b before
  behind : Goes after later

module _ (p : Program) (typed : AreWellTyped (program_lists p)) where
  head_of : (f : Function) → IsTypedFunction (program_lists p) f → (head : Prototype) × (slice_get p.prototypes f.prototype ≡ Some head)
  head_of f t = (t.prototype, t.declared)

  -- one function, if it is put
  one_goes : (b : Bool) (f : Function) → IsTypedFunction (program_lists p) f → (flow later : Flow) → put_if b (program_setting p) p.prototypes f flow ≡ Gives tt later → Goes flow later
  one_goes false f t flow later e = subst (Goes flow) (same_flow tt tt flow later e) (goes_same flow)
  one_goes true f t flow later e = put_goes p f t.prototype flow later (put_is p f t.prototype flow later t.declared e)

  module _ (is : Function → Bool) where
    all_go : (functions : List Function) → AllByRecursion (IsTypedFunction (program_lists p)) functions → (b later : Flow) → functions_put is (program_setting p) p.prototypes functions b ≡ Gives tt later → Goes b later
    unfolding functions_put
    all_go [] all b later e = subst (Goes b) (same_flow tt tt b later e) (goes_same b)
    all_go (f ∷ functions) all b later e =
        let o = opens (put_if (is f) (program_setting p) p.prototypes f b) (λ done. functions_put is (program_setting p) p.prototypes functions) tt later e in
        goes_then b o.1 later (one_goes (is f) f all.0 b o.1 o.2) (all_go functions all.1 o.1 later o.3)

    found_in : (functions : List Function) → AllByRecursion (IsTypedFunction (program_lists p)) functions → (b later : Flow) → functions_put is (program_setting p) p.prototypes functions b ≡ Gives tt later
        → (number : ℕ) (f : Function) (head : Prototype) → slice_get functions number ≡ Some f → is f ≡ true → slice_get p.prototypes f.prototype ≡ Some head → Found p f head b later
    unfolding functions_put
    found_in [] all b later e zero f head at put named = absurd (cc)
    found_in [] all b later e (suc number) f head at put named = absurd (cc)
    found_in (g ∷ functions) all b later e zero f head at put named =
        let same : g ≡ f = cc in
        let o = opens (put_if (is g) (program_setting p) p.prototypes g b) (λ done. functions_put is (program_setting p) p.prototypes functions) tt later e in
        let here : put_if true (program_setting p) p.prototypes f b ≡ Gives tt o.1 = ap (λ t. put_if t (program_setting p) p.prototypes f b) (sym put ∙ ap is (sym same)) ∙ ap (λ x. put_if (is g) (program_setting p) p.prototypes x b) (sym same) ∙ o.2 in
        record {
          before = b;
          after = o.1;
          put = put_is p f head b o.1 named here;
          ahead = goes_same b;
          behind = all_go functions all.1 o.1 later o.3;
        }
    found_in (g ∷ functions) all b later e (suc number) f head at put named =
        let o = opens (put_if (is g) (program_setting p) p.prototypes g b) (λ done. functions_put is (program_setting p) p.prototypes functions) tt later e in
        let x = found_in functions all.1 o.1 later o.3 number f head at put named in
        record { before = x.before; after = x.after; put = x.put; ahead = goes_then b o.1 x.before (one_goes (is g) g all.0 b o.1 o.2) x.ahead; behind = x.behind }

  -- ---- the program

  -- what stands outside functions was put
  record Begun (target : Target) (main : ℕ) (flow : Flow) : Type 0 where
    place : FlowPlace
    first : Sections
    outside : declared target p (program_needs p) (empty p.stage target) ≡ Made place first
    rest : put_by (is_lowered p) p (flow_of first place) ≡ Gives main flow

  begun_is : (target : Target) (main : ℕ) (flow : Flow) → lowered target p (empty p.stage target) ≡ Gives main flow → Begun target main flow
  unfolding lowered
  begun_is target main flow = by (declared target p (program_needs p) (empty p.stage target)) refl
    where
      by : (r : Built FlowPlace) → declared target p (program_needs p) (empty p.stage target) ≡ r → behind (from_there r) (λ done. put_by (is_lowered p) p) ≡ Gives main flow → Begun target main flow
      by Full is e = absurd (cc)
      by (Made place first) is e = record { place = place; first = first; outside = is; rest = e }

  pub functions_stand : (target : Target) (main : ℕ) (flow : Flow) → lowered target p (empty p.stage target) ≡ Gives main flow → Valid (module_of flow.sections main p.local_size) → HaveFunctions target p main flow
  functions_stand target main flow e valid =
      let begun = begun_is target main flow e in
      let there = flow_of begun.first begun.place in
      let o = opens (functions_put (is_lowered p) (program_setting p) p.prototypes p.functions there) (λ done. told_main p) main flow begun.rest in
      let t = told_here (slice_get o.1.place.functions (main_head p)) o.1 main flow o.3 in
      let goes = all_go (is_lowered p) p.functions typed.functions there o.1 o.2 in
      by begun.place begun.first begun.outside o.1 o.2 t.0 t.1 goes
    where
      by : (place : FlowPlace) (first : Sections) → declared target p (program_needs p) (empty p.stage target) ≡ Made place first → (last : Flow) → functions_put (is_lowered p) (program_setting p) p.prototypes p.functions (flow_of first place) ≡ Gives tt last
          → slice_get last.place.functions (main_head p) ≡ Some main → last ≡ flow → Goes (flow_of first place) last → HaveFunctions target p main flow
      by place first outside last puts main_is same goes =
          let m = module_of flow.sections main p.local_size in
          let into : Extends first flow.sections = subst (λ (x : Flow). Extends first x.sections) same goes.extends in
          let outer = outer_put m flow.sections target p (program_needs p) place (empty p.stage target) first valid (finished_written flow.sections main p.local_size) outside in
          let told = declared_told m flow.sections target p (program_needs p) place (empty p.stage target) first valid (finished_written flow.sections main p.local_size) typed outside into in
          record {
            place = place;
            first = first;
            outside = outside;
            extends = into;
            outer = outer;
            told = told;
            entered = ap (λ l. slice_get l (main_head p)) (sym goes.shared.functions) ∙ main_is;
            stand = λ number function f head at is named known. one number function f head at is named known outer told;
          }
        where
          one : (number function : ℕ) (f : Function) (head : Prototype) → slice_get p.functions number ≡ Some f → is_lowered p f ≡ true → slice_get p.prototypes f.prototype ≡ Some head → slice_get place.functions f.prototype ≡ Some function
              → HasOuter p (program_needs p) (empty p.stage target) place first → AreTold (module_of flow.sections main p.local_size) p.structs place.composites → StandsAt (module_of flow.sections main p.local_size) flow.sections p place function head f
          one number function f head at is named known outer told =
              let x = found_in (is_lowered p) p.functions typed.functions (flow_of first place) last puts number f head at is named in
              let t = all_at (IsTypedFunction (program_lists p)) p.functions number f typed.functions at in
              let id_is : x.put.function ≡ function = some x.put.function function (sym x.put.told ∙ ap (λ l. slice_get l f.prototype) x.ahead.shared.functions ∙ known) in
              subst (λ n. StandsAt (module_of flow.sections main p.local_size) flow.sections p place n head f) id_is
              (stands p typed main flow.sections valid (program_needs p) (empty p.stage target) first place outer told f head t.locals x.before x.after x.put x.ahead.shared x.ahead.extends
              (subst (λ (y : Flow). Extends x.after.sections y.sections) same x.behind.extends))
            where
              some : (a c : ℕ) → Some a ≡ Some c → a ≡ c
              some a c e = cc
