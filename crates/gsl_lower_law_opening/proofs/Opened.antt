-- How a function opens, part by part.
use Rattle.std.proofs.Common.{◌≡◌, refl, sym, ap, ◌∙◌, subst, ℕ, suc, ◌<◌, ◌≤◌, List, [], ◌∷◌, ◌++◌, map, length, slice_get, Option, arith, append_assoc, append-nil}
use Rattle.std.specs.List.{Contains}
use Rattle.std.proofs.lemmas.List.Elements.{Contains-append_left}
use Rattle.std.proofs.lemmas.List.{map-append}
use Rattle.gsl_instr.specs.declared.enumerant.storage_class.TheConstants as storage_class
use Rattle.gsl_instr.specs.declared.op.TheConstants as op
use Rattle.gsl_types.specs.declared.ty.Direction.{Direction}
use Rattle.gsl_types.specs.declared.ty.Ty.{Ty}
use Rattle.gsl_words.specs.declared.module.Instr.{Instr}
use Rattle.gsl_tree.specs.declared.unit.Function.{Function}
use Rattle.gsl_tree.specs.declared.unit.Prototype.{Prototype}
use Rattle.gsl_spv.specs.Calls as call
use Rattle.gsl_spv.specs.Calls.{intern}
use Rattle.gsl_spv.specs.Declarations as d
use Rattle.gsl_spv.specs.Declarations.{defining, instr}
use Rattle.gsl_spv.specs.Growing.{Extends}
use Rattle.gsl_spv.specs.Sections.{Sections}
use Rattle.gsl_spv.specs.declared.plain.PlainConst.TheVariants as of
use Rattle.gsl_spv.specs.declared.plain.PlainType.TheVariants as plain
use Rattle.gsl_spv.proofs.Answering.{constant_once}
use Rattle.gsl_spv.proofs.Defining.{interned_stands}
use Rattle.gsl_spv.proofs.Extending.{extends_same, extends_take, extends_then}
use Rattle.gsl_lower_values.specs.Building.{id_by}
use Rattle.gsl_lower_law.proofs.Adding.{extends_put}
use Rattle.gsl_lower_places.specs.Reading.{pointer_type}
use Rattle.gsl_lower_holders.specs.Flow.{Emit, Flow, Gives, ◌>>=◌, each, flow_of, fresh, given, giving_here, lift, opening, putting_here, type_id}
use Rattle.gsl_lower_holders.specs.declared.place.FlowPlace.{FlowPlace}
use Rattle.gsl_lower_expr.specs.Calls.{result_type}
use Rattle.gsl_lower_needs.specs.declared.need.Need.{Need}
use Rattle.gsl_lower_flow.specs.Functions as flow
use Rattle.gsl_lower_flow.specs.Functions.{begun, headed, holder_types, holders, placed, variable}
use Rattle.gsl_lower_frames.specs.Standing.{begins}
use Rattle.gsl_lower_law_loops.proofs.Opening.{opens}
use Rattle.gsl_lower_law_entered.specs.Modules.{Declared, declares}
use Rattle.gsl_lower_law_opening.specs.Opening.{AllHaveZeros, AreNew, HasOpened, HasZeros, Taken, ids_declared, ids_taken, takes}
use Rattle.gsl_lower_law_opening.proofs.Steps.{Stays, asked, giving_puts, intern_stays, result_stays, same_flow, same_given, stays_at, stays_then, type_stays}
use Rattle.gsl_lower_law_opening.proofs.Rows.{none_new, one_new}

-- ---- what is said of zeros, of a longer stretch

zeros_on : (a b c e : Flow) (t : Ty) (v : Declared) → b.place.composites ≡ a.place.composites → Extends c.sections e.sections → HasZeros b c t v → HasZeros a e t v
zeros_on a b c e t v same more z = record {
  at = z.at;
  then = z.then;
  type = z.type;
  typed = z.typed;
  known = z.known ∙ same;
  extends = extends_then z.extends more;
  null = subst (λ l. Contains l (defining (d.null z.type) v.zero)) (sym more.globals.is) (Contains-append_left c.sections.globals more.globals.more _ z.null);
}

all_on : (a b c e : Flow) (types : List Ty) (vs : List Declared) → b.place.composites ≡ a.place.composites → Extends c.sections e.sections → AllHaveZeros b c types vs → AllHaveZeros a e types vs
all_on a b c e [] [] same more z = tt
all_on a b c e [] (v ∷ vs) same more z = absurd z
all_on a b c e (t ∷ types) [] same more z = absurd z
all_on a b c e (t ∷ types) (v ∷ vs) same more z = (zeros_on a b c e t v same more z.0, all_on a b c e types vs same more z.1)

-- ---- one instruction under a new id

-- sections with a new last id, and an instruction
put_new : (b : Flow) (code id : ℕ) (args : List ℕ) (later : Flow) → b.sections.last < id → later ≡ flow_of (call.put code args (record b.sections { last = id })) b.place → Extends b.sections later.sections
put_new b code id args later less is =
    subst (λ (f : Flow). Extends b.sections f.sections) (sym is) (extends_then (reaching b.sections id (omega (arith, less))) (extends_put code args (record b.sections { last = id })))
  where
    reaching : (s : Sections) (n : ℕ) → s.last ≤ n → Extends s (record s { last = n })
    reaching s n more =
        let same = extends_same s in
        record { stage = refl; target = refl; imports = same.imports; names = same.names; decorations = same.decorations; globals = same.globals; functions = same.functions; last = more; wanting = λ e. e }

-- ---- variables

record IsVariable (t : Ty) (b later : Flow) (id : ℕ) : Type 0 where
  v : Declared
  same : v.id ≡ id
  over : b.sections.last < id
  under : id ≤ later.sections.last
  extends : Extends b.sections later.sections
  functions : later.sections.functions ≡ b.sections.functions ++ declares v ∷ []
  place : later.place ≡ b.place
  zeros : HasZeros b later t v

variable_is : (t : Ty) (b : Flow) (id : ℕ) (later : Flow) → variable t b ≡ Gives id later → IsVariable t b later id
unfolding variable
variable_is t b id later e =
    let o = opens (type_id t b) (λ type. lift (pointer_type storage_class.FUNCTION type) >>= (λ pointer. lift (id_by (call.constant (of.Null type))) >>= (λ start. giving_here op.VARIABLE (storage_class.FUNCTION ∷ start ∷ []) pointer))) id later e in
    by o.0 o.1 o.2 o.3
  where
    ends : (type : ℕ) (one two three : Flow) (pointer start : ℕ) → type_id t b ≡ Gives type one → Stays b three → Extends one.sections three.sections → Contains three.sections.globals (defining (d.null type) start)
        → giving_here op.VARIABLE (storage_class.FUNCTION ∷ start ∷ []) pointer three ≡ Gives id later → IsVariable t b later id
    ends type one two three pointer start typed stays grown null gives =
        let g = giving_puts op.VARIABLE (storage_class.FUNCTION ∷ start ∷ []) pointer three id later gives in
        let more = put_new three op.VARIABLE id (pointer ∷ id ∷ storage_class.FUNCTION ∷ start ∷ []) later g.0 g.1 in
        record {
          v = record { pointer = pointer; id = id; zero = start };
          same = refl;
          over = (let s = stays.extends.last in let l = g.0 in omega (arith, s, l));
          under = (let l = ap (λ (f : Flow). f.sections.last) g.1 in omega (arith, l));
          extends = extends_then stays.extends more;
          functions = ap (λ (f : Flow). f.sections.functions) g.1 ∙ ap (λ l. l ++ instr op.VARIABLE (pointer ∷ id ∷ storage_class.FUNCTION ∷ start ∷ []) ∷ []) stays.functions;
          place = ap (λ (f : Flow). f.place) g.1 ∙ stays.place;
          zeros = record {
            at = b;
            then = one;
            type = type;
            typed = typed;
            known = refl;
            extends = extends_then grown more;
            null = subst (λ l. Contains l (defining (d.null type) start)) (sym more.globals.is) (Contains-append_left three.sections.globals more.globals.more _ null);
          };
        }

    by : (type : ℕ) (one : Flow) → type_id t b ≡ Gives type one
        → (lift (pointer_type storage_class.FUNCTION type) >>= (λ pointer. lift (id_by (call.constant (of.Null type))) >>= (λ start. giving_here op.VARIABLE (storage_class.FUNCTION ∷ start ∷ []) pointer))) one ≡ Gives id later → IsVariable t b later id
    by type one typed rest =
        let p = opens (lift (pointer_type storage_class.FUNCTION type) one) (λ pointer. lift (id_by (call.constant (of.Null type))) >>= (λ start. giving_here op.VARIABLE (storage_class.FUNCTION ∷ start ∷ []) pointer)) id later rest in
        let q = opens (lift (id_by (call.constant (of.Null type))) p.1) (λ start. giving_here op.VARIABLE (storage_class.FUNCTION ∷ start ∷ []) p.0) id later p.3 in
        let first = type_stays t b type one typed in
        let second = intern_stays (d.plain_type (plain.Pointer storage_class.FUNCTION type)) one p.0 p.1 p.2 in
        let third = intern_stays (d.null type) p.1 q.0 q.1 q.2 in
        let a = asked (intern (d.null type)) p.1 q.0 q.1 q.2 in
        let there = interned_stands (d.null type) p.1.sections (constant_once (of.Null type) 0) in
        let null : Contains q.1.sections.globals (defining (d.null type) q.0) = subst (λ z. Contains q.1.sections.globals (defining (d.null type) z)) a.0 (subst (λ (f : Flow). Contains f.sections.globals (defining (d.null type) (intern (d.null type) p.1.sections).id)) a.1 there) in
        ends type one p.1 q.1 p.0 q.0 typed (stays_then first (stays_then second third)) (stays_then second third).extends null q.3

record AreVariables (types : List Ty) (b later : Flow) (ids : List ℕ) : Type 0 where
  variables : List Declared
  same : ids ≡ ids_declared variables
  extends : Extends b.sections later.sections
  functions : later.sections.functions ≡ b.sections.functions ++ map declares variables
  place : later.place ≡ b.place
  new : AreNew b.sections.last later.sections.last (slice_get ids)
  zeros : AllHaveZeros b later types variables

variables_are : (types : List Ty) (b : Flow) (ids : List ℕ) (later : Flow) → each variable types b ≡ Gives ids later → AreVariables types b later ids
unfolding each
variables_are [] b ids later e =
    let s = stays_at [] ids b later e in
    record {
      variables = [];
      same = sym (same_given [] ids b later e);
      extends = s.extends;
      functions = s.functions ∙ sym (append-nil b.sections.functions);
      place = s.place;
      new = subst (λ l. AreNew b.sections.last later.sections.last (slice_get l)) (same_given [] ids b later e) (none_new b.sections.last later.sections.last s.extends.last);
      zeros = tt;
    }
variables_are (t ∷ types) b ids later e =
    let o = opens (variable t b) (λ id. each variable types >>= (λ more. given (id ∷ more))) ids later e in
    let x = opens (each variable types o.1) (λ more. given (o.0 ∷ more)) ids later o.3 in
    let first = variable_is t b o.0 o.1 o.2 in
    let rest = variables_are types o.1 x.0 x.1 x.2 in
    by o.0 o.1 x.0 x.1 first rest (same_given (o.0 ∷ x.0) ids x.1 later x.3) (same_flow (o.0 ∷ x.0) ids x.1 later x.3)
  where
    by : (id : ℕ) (one : Flow) (more : List ℕ) (two : Flow) → IsVariable t b one id → AreVariables types one two more → id ∷ more ≡ ids → two ≡ later → AreVariables (t ∷ types) b later ids
    by id one more two first rest given_is flow_is =
        subst (λ (f : Flow). AreVariables (t ∷ types) b f ids) flow_is (record {
          variables = first.v ∷ rest.variables;
          same = sym given_is ∙ ap (λ n. n ∷ more) (sym first.same) ∙ ap (λ l. first.v.id ∷ l) rest.same;
          extends = extends_then first.extends rest.extends;
          functions = rest.functions ∙ ap (λ l. l ++ map declares rest.variables) first.functions ∙ append_assoc b.sections.functions (declares first.v ∷ []) (map declares rest.variables);
          place = rest.place ∙ first.place;
          new = subst (λ l. AreNew b.sections.last two.sections.last (slice_get l)) given_is (one_new b.sections.last one.sections.last two.sections.last id more first.over first.under rest.extends.last rest.new);
          zeros = (zeros_on b b one two t first.v refl rest.extends first.zeros, all_on b one two two types rest.variables (ap (λ (p : FlowPlace). p.composites) first.place) (extends_same two.sections) rest.zeros);
        })

-- ---- parameters

record AreParams (pointers : List ℕ) (b later : Flow) (ids : List ℕ) : Type 0 where
  params : List Taken
  same : ids ≡ ids_taken params
  many : length params ≡ length pointers
  extends : Extends b.sections later.sections
  functions : later.sections.functions ≡ b.sections.functions ++ map takes params
  place : later.place ≡ b.place
  new : AreNew b.sections.last later.sections.last (slice_get ids)

params_are : (pointers : List ℕ) (b : Flow) (ids : List ℕ) (later : Flow) → each flow.parameter pointers b ≡ Gives ids later → AreParams pointers b later ids
unfolding each flow.parameter
params_are [] b ids later e =
    let s = stays_at [] ids b later e in
    record {
      params = [];
      same = sym (same_given [] ids b later e);
      many = refl;
      extends = s.extends;
      functions = s.functions ∙ sym (append-nil b.sections.functions);
      place = s.place;
      new = subst (λ l. AreNew b.sections.last later.sections.last (slice_get l)) (same_given [] ids b later e) (none_new b.sections.last later.sections.last s.extends.last);
    }
params_are (pointer ∷ pointers) b ids later e =
    let o = opens (flow.parameter pointer b) (λ id. each flow.parameter pointers >>= (λ more. given (id ∷ more))) ids later e in
    let x = opens (each flow.parameter pointers o.1) (λ more. given (o.0 ∷ more)) ids later o.3 in
    let g = giving_puts op.FUNCTION_PARAMETER [] pointer b o.0 o.1 o.2 in
    let rest = params_are pointers o.1 x.0 x.1 x.2 in
    by o.0 o.1 x.0 x.1 g.0 g.1 rest (same_given (o.0 ∷ x.0) ids x.1 later x.3) (same_flow (o.0 ∷ x.0) ids x.1 later x.3)
  where
    by : (id : ℕ) (one : Flow) (more : List ℕ) (two : Flow) → b.sections.last < id → one ≡ flow_of (call.put op.FUNCTION_PARAMETER (pointer ∷ id ∷ []) (record b.sections { last = id })) b.place → AreParams pointers one two more → id ∷ more ≡ ids → two ≡ later
        → AreParams (pointer ∷ pointers) b later ids
    by id one more two less is rest given_is flow_is =
        subst (λ (f : Flow). AreParams (pointer ∷ pointers) b f ids) flow_is (record {
          params = record { pointer = pointer; id = id } ∷ rest.params;
          same = sym given_is ∙ ap (λ l. id ∷ l) rest.same;
          many = ap suc rest.many;
          extends = extends_then (put_new b op.FUNCTION_PARAMETER id (pointer ∷ id ∷ []) one less is) rest.extends;
          functions = rest.functions ∙ ap (λ (f : Flow). f.sections.functions ++ map takes rest.params) is ∙ append_assoc b.sections.functions (instr op.FUNCTION_PARAMETER (pointer ∷ id ∷ []) ∷ []) (map takes rest.params);
          place = rest.place ∙ ap (λ (f : Flow). f.place) is;
          new = subst (λ l. AreNew b.sections.last two.sections.last (slice_get l)) given_is
              (one_new b.sections.last one.sections.last two.sections.last id more less (let l = ap (λ (f : Flow). f.sections.last) is in omega (arith, l)) rest.extends.last rest.new);
        })

-- ---- the types of parameters

record ArePointers (params : List (Direction × Ty)) (b later : Flow) (pointers : List ℕ) : Type 0 where
  stays : Stays b later
  many : length pointers ≡ length params

pointers_are : (params : List (Direction × Ty)) (b : Flow) (pointers : List ℕ) (later : Flow) → each flow.parameter_type params b ≡ Gives pointers later → ArePointers params b later pointers
unfolding each flow.parameter_type
pointers_are [] b pointers later e = record { stays = stays_at [] pointers b later e; many = ap length (sym (same_given [] pointers b later e)) }
pointers_are (param ∷ params) b pointers later e =
    let o = opens (flow.parameter_type param b) (λ id. each flow.parameter_type params >>= (λ more. given (id ∷ more))) pointers later e in
    let x = opens (each flow.parameter_type params o.1) (λ more. given (o.0 ∷ more)) pointers later o.3 in
    let y = opens (type_id param.1 b) (λ type. lift (pointer_type storage_class.FUNCTION type)) o.0 o.1 o.2 in
    let rest = pointers_are params o.1 x.0 x.1 x.2 in
    record {
      stays = stays_then (type_stays param.1 b y.0 y.1 y.2) (stays_then (intern_stays (d.plain_type (plain.Pointer storage_class.FUNCTION y.0)) y.1 o.0 o.1 y.3) (stays_then rest.stays (stays_at (o.0 ∷ x.0) pointers x.1 later x.3)));
      many = ap length (sym (same_given (o.0 ∷ x.0) pointers x.1 later x.3)) ∙ ap suc rest.many;
    }

-- ---- the head

record IsHead (id : ℕ) (head : Prototype) (b later : Flow) (ids : List ℕ) : Type 0 where
  returned : ℕ
  function_type : ℕ
  params : List Taken
  label : ℕ
  past : ℕ
  same : ids ≡ ids_taken params
  many : length params ≡ length head.params
  extends : Extends b.sections later.sections
  functions : later.sections.functions ≡ b.sections.functions ++ begins id returned 0 function_type ∷ (map takes params ++ instr op.LABEL (label ∷ []) ∷ [])
  place : later.place ≡ record b.place { label = label }
  over : past ≤ later.sections.last
  new : AreNew b.sections.last past (slice_get ids)

abbrev labelled : List ℕ → ℕ → Emit (List ℕ)
labelled params label = opening label >>= (λ b. given params)

abbrev parameters_put : ℕ → ℕ → List ℕ → ℕ → Emit (List ℕ)
parameters_put id result pointers type =
    putting_here op.FUNCTION (result ∷ id ∷ 0 ∷ type ∷ []) >>= (λ a. each flow.parameter pointers >>= (λ params. fresh >>= (λ label. opening label >>= (λ b. given params))))

abbrev typed_put : ℕ → ℕ → List ℕ → Emit (List ℕ)
typed_put id result pointers = lift (id_by (call.function_type result pointers)) >>= (λ type. parameters_put id result pointers type)

head_is : (id : ℕ) (head : Prototype) (b : Flow) (ids : List ℕ) (later : Flow) → headed id head b ≡ Gives ids later → IsHead id head b later ids
unfolding headed opening
head_is id head b ids later e =
    let o = opens (result_type head.result b) (λ result. each flow.parameter_type head.params >>= (λ pointers. typed_put id result pointers)) ids later e in
    let x = opens (each flow.parameter_type head.params o.1) (λ pointers. typed_put id o.0 pointers) ids later o.3 in
    let y = opens (lift (id_by (call.function_type o.0 x.0)) x.1) (λ type. parameters_put id o.0 x.0 type) ids later x.3 in
    let first = result_stays head.result b o.0 o.1 o.2 in
    let second = pointers_are head.params o.1 x.0 x.1 x.2 in
    let third = intern_stays (d.function_type o.0 x.0) x.1 y.0 y.1 y.2 in
    by o.0 y.0 x.0 y.1 second.many (stays_then first (stays_then second.stays third)) y.3
  where
    ends : (result type : ℕ) (pointers : List ℕ) (one two three : Flow) (more : List ℕ) (label : ℕ) → length pointers ≡ length head.params → Stays b one
        → AreParams pointers (flow_of (call.put op.FUNCTION (result ∷ id ∷ 0 ∷ type ∷ []) one.sections) one.place) two more
        → (call.take two.sections).id ≡ label → flow_of (call.take two.sections).sections two.place ≡ three → more ≡ ids
        → flow_of (call.put op.LABEL (label ∷ []) three.sections) (record three.place { label = label }) ≡ later → IsHead id head b later ids
    ends result type pointers one two three more label many stays params label_is taken given_is flow_is =
        let grown = extends_then (extends_put op.FUNCTION (result ∷ id ∷ 0 ∷ type ∷ []) one.sections) (extends_then params.extends (subst (λ (f : Flow). Extends two.sections f.sections) taken (extends_take two.sections))) in
        let last = extends_put op.LABEL (label ∷ []) three.sections in
        subst (λ (f : Flow). IsHead id head b f ids) flow_is (record {
          returned = result;
          function_type = type;
          params = params.params;
          label = label;
          past = two.sections.last;
          same = sym given_is ∙ params.same;
          many = params.many ∙ many;
          extends = extends_then stays.extends (extends_then grown last);
          functions = ap (λ l. l ++ instr op.LABEL (label ∷ []) ∷ []) (ap (λ (f : Flow). f.sections.functions) (sym taken) ∙ params.functions ∙ ap (λ l. (l ++ begins id result 0 type ∷ []) ++ map takes params.params) stays.functions)
              ∙ joined (b.sections.functions) (begins id result 0 type) (map takes params.params) (instr op.LABEL (label ∷ []));
          place = ap (λ (place : FlowPlace). record place { label = label }) (ap (λ (f : Flow). f.place) (sym taken) ∙ params.place ∙ stays.place);
          over = (let l = ap (λ (f : Flow). f.sections.last) taken in omega (arith, l));
          new = subst (λ l. AreNew b.sections.last two.sections.last (slice_get l)) given_is (lower (slice_get more) stays.extends.last params.new);
        })
      where
        joined : (a : List Instr) (i : Instr) (c : List Instr) (j : Instr) → ((a ++ i ∷ []) ++ c) ++ j ∷ [] ≡ a ++ i ∷ (c ++ j ∷ [])
        joined a i c j = ap (λ l. l ++ j ∷ []) (append_assoc a (i ∷ []) c) ∙ append_assoc a (i ∷ c) (j ∷ [])

        lower : (at : ℕ → Option ℕ) → b.sections.last ≤ one.sections.last → AreNew one.sections.last two.sections.last at → AreNew b.sections.last two.sections.last at
        lower at less new = record { rises = (let r = new.rises in omega (arith, less, r)); each = λ k n is. (let w = new.each k n is in (let l = w.0 in omega (arith, less, l), w.1)); apart = new.apart }

    by : (result type : ℕ) (pointers : List ℕ) (one : Flow) → length pointers ≡ length head.params → Stays b one → parameters_put id result pointers type one ≡ Gives ids later → IsHead id head b later ids
    by result type pointers one many stays rest =
        let there = flow_of (call.put op.FUNCTION (result ∷ id ∷ 0 ∷ type ∷ []) one.sections) one.place in
        let o = opens (each flow.parameter pointers there) (λ params. fresh >>= (λ label. labelled params label)) ids later rest in
        let x = opens (fresh o.1) (λ label. labelled o.0 label) ids later o.3 in
        let a = asked call.take o.1 x.0 x.1 x.2 in
        let done = flow_of (call.put op.LABEL (x.0 ∷ []) x.1.sections) (record x.1.place { label = x.0 }) in
        ends result type pointers one o.1 x.1 o.0 x.0 many stays (params_are pointers there o.0 o.1 o.2) a.0 a.1 (same_given o.0 ids done later x.3) (same_flow o.0 ids done later x.3)

-- ---- all together

pub opened : (id : ℕ) (head : Prototype) (f : Function) (needs : List Need) (b later : Flow) → begun id head f needs b ≡ Gives tt later → HasOpened id head f.locals (holder_types needs) b later
unfolding begun holders placed
opened id head f needs b later e =
    let o = opens (headed id head b) (λ params. each variable f.locals >>= (λ locals. holders needs >>= placed params locals)) tt later e in
    let x = opens (each variable f.locals o.1) (λ locals. holders needs >>= placed o.0 locals) tt later o.3 in
    let y = opens (holders needs x.1) (placed o.0 x.0) tt later x.3 in
    by o.0 o.1 x.0 x.1 y.0 y.1 (head_is id head b o.0 o.1 o.2) (variables_are f.locals o.1 x.0 x.1 x.2) (variables_are (holder_types needs) x.1 y.0 y.1 y.2)
    (same_flow tt tt (record y.1 { place = record y.1.place { params = o.0; locals = x.0; holders = y.0; used = 0 } }) later y.3)
  where
    by : (params : List ℕ) (one : Flow) (locals : List ℕ) (two : Flow) (waiting : List ℕ) (three : Flow) → IsHead id head b one params → AreVariables f.locals one two locals → AreVariables (holder_types needs) two three waiting
        → record three { place = record three.place { params = params; locals = locals; holders = waiting; used = 0 } } ≡ later → HasOpened id head f.locals (holder_types needs) b later
    by params one locals two waiting three first second third is =
        subst (λ (g : Flow). HasOpened id head f.locals (holder_types needs) b g) is (record {
          returned = first.returned;
          function_type = first.function_type;
          params = first.params;
          label = first.label;
          variables = second.variables;
          waiting = third.variables;
          extends = extends_then first.extends (extends_then second.extends third.extends);
          puts = third.functions ∙ ap (λ l. l ++ map declares third.variables) (second.functions ∙ ap (λ l. l ++ map declares second.variables) first.functions)
              ∙ joined b.sections.functions (begins id first.returned 0 first.function_type) (map takes first.params) (instr op.LABEL (first.label ∷ [])) second.variables third.variables;
          place = ap (λ (place : FlowPlace). record place { params = params; locals = locals; holders = waiting; used = 0 }) (third.place ∙ second.place ∙ first.place)
              ∙ names params (ids_taken first.params) locals (ids_declared second.variables) waiting (ids_declared third.variables) first.same second.same third.same;
          many = first.many;
          past_params = first.past;
          past_locals = two.sections.last;
          params_new = subst (λ l. AreNew b.sections.last first.past (slice_get l)) first.same first.new;
          locals_new = subst (λ l. AreNew first.past two.sections.last (slice_get l)) second.same (lower (slice_get locals) first.over second.new);
          holders_new = subst (λ l. AreNew two.sections.last three.sections.last (slice_get l)) third.same third.new;
          zeros = all_on b one two (record three { place = record three.place { params = params; locals = locals; holders = waiting; used = 0 } }) f.locals second.variables (ap (λ (place : FlowPlace). place.composites) first.place) third.extends second.zeros;
        })
      where
        joined : (a : List Instr) (i : Instr) (c : List Instr) (j : Instr) (vs ws : List Declared) → ((a ++ i ∷ (c ++ j ∷ [])) ++ map declares vs) ++ map declares ws ≡ a ++ i ∷ (c ++ j ∷ map declares (vs ++ ws))
        joined a i c j vs ws =
            append_assoc (a ++ i ∷ (c ++ j ∷ [])) (map declares vs) (map declares ws) ∙ append_assoc a (i ∷ (c ++ j ∷ [])) (map declares vs ++ map declares ws)
            ∙ ap (λ l. a ++ i ∷ l) (append_assoc c (j ∷ []) (map declares vs ++ map declares ws) ∙ ap (λ l. c ++ j ∷ l) (sym (map-append declares vs ws)))

        names : (p q l m h w : List ℕ) → p ≡ q → l ≡ m → h ≡ w
            → ◌≡◌ {A = FlowPlace} (record b.place { label = first.label; params = p; locals = l; holders = h; used = 0 }) (record b.place { label = first.label; params = q; locals = m; holders = w; used = 0 })
        names p q l m h w pq lm hw =
            ap (λ k. record b.place { label = first.label; params = k; locals = l; holders = h; used = 0 }) pq ∙ ap (λ k. record b.place { label = first.label; params = q; locals = k; holders = h; used = 0 }) lm
            ∙ ap (λ k. record b.place { label = first.label; params = q; locals = m; holders = k; used = 0 }) hw

        lower : (at : ℕ → Option ℕ) → first.past ≤ one.sections.last → AreNew one.sections.last two.sections.last at → AreNew first.past two.sections.last at
        lower at less new = record { rises = (let r = new.rises in omega (arith, less, r)); each = λ k n is. (let w = new.each k n is in (let l = w.0 in omega (arith, less, l), w.1)); apart = new.apart }
