-- What parts of lowering came to, taken apart.
use Rattle.std.proofs.Common.{◌≡◌, refl, sym, ap, ◌∙◌, subst, ℕ, ◌<◌, ◌+◌, Bool, true, false, List, ◌∷◌, Option, Some, None, arith, if◌then◌else◌}
use Rattle.std.specs.Prelude.{nat_le, ◌==◌}
use Rattle.gsl_types.specs.declared.ty.Ty.{Ty}
use Rattle.gsl_types.specs.declared.ty.Ty.TheOpen.{Ty-F}
use Rattle.gsl_types.specs.declared.ty.Ty.TheViews.{out-Ty}
use Rattle.gsl_types.specs.declared.ty.Scalar.{Scalar}
use Rattle.gsl_tree.specs.Shapes.{Shape, shape_of}
use Rattle.gsl_spv.specs.Calls as call
use Rattle.gsl_spv.specs.Calls.{Out, intern}
use Rattle.gsl_spv.specs.Declarations as d
use Rattle.gsl_spv.specs.Declarations.{Declaration, instr}
use Rattle.gsl_spv.specs.Growing.{Extends}
use Rattle.gsl_spv.specs.Sections.{Sections}
use Rattle.gsl_spv.specs.declared.plain.PlainType.TheVariants as plain
use Rattle.gsl_spv.specs.declared.refusal.TheConstants.{MOST_IDS}
use Rattle.gsl_spv.proofs.Extending.{extends_same, extends_then}
use Rattle.gsl_lower_values.specs.Building.{Built, Step, Full, Made, behind as step_behind, given as made_given, giving, id_by, put_giving}
use Rattle.gsl_lower_values.specs.Types.{plain_scalar, scalar_type, type_of, vector_type}
use Rattle.gsl_lower_law.proofs.Adding.{extends_intern, intern_functions}
use Rattle.gsl_lower_holders.specs.Flow.{Flow, Lowered, Gives, Lacks, built_in, find_type, flow_of, id_at, lift, type_by, type_id}
use Rattle.gsl_lower_holders.specs.declared.place.FlowPlace.{FlowPlace}
use Rattle.gsl_lower_expr.specs.Calls.{result_by, result_type}
use Rattle.gsl_lower_law_loops.proofs.Opening.{flow_in}

pub same_flow : {A : Type 0} (a c : A) (b later : Flow) → Gives a b ≡ Gives c later → b ≡ later
same_flow a c b later e = ap (flow_in b) e

abbrev given_in : {A : Type 0} → A → Lowered A → A
given_in a (Gives c later) = c
given_in a Lacks = a

pub same_given : {A : Type 0} (a c : A) (b later : Flow) → Gives a b ≡ Gives c later → a ≡ c
same_given a c b later e = ap (given_in a) e

-- ---- steps of the builder

-- a call of the builder that gives an id
pub asked : (ask : Sections → Out) (b : Flow) (id : ℕ) (later : Flow) → lift (id_by ask) b ≡ Gives id later → ((ask b.sections).id ≡ id) × (flow_of (ask b.sections).sections b.place ≡ later)
asked ask b id later = by (nat_le (ask b.sections).sections.last MOST_IDS)
  where
    by : (test : Bool) → built_in b.place (if test then Made (ask b.sections).id (ask b.sections).sections else Full) ≡ Gives id later → ((ask b.sections).id ≡ id) × (flow_of (ask b.sections).sections b.place ≡ later)
    by true e = (same_given (ask b.sections).id id (flow_of (ask b.sections).sections b.place) later e, same_flow (ask b.sections).id id (flow_of (ask b.sections).sections b.place) later e)
    by false e = absurd cc

-- ---- parts that put nothing

-- Sections only grow, no instruction is put, and the place stays.
pub record Stays (b later : Flow) : Type 0 where
  pub extends : Extends b.sections later.sections
  pub functions : later.sections.functions ≡ b.sections.functions
  pub place : later.place ≡ b.place

pub stays_same : (b : Flow) → Stays b b
stays_same b = record { extends = extends_same b.sections; functions = refl; place = refl }

pub stays_then : {a b c : Flow} → Stays a b → Stays b c → Stays a c
stays_then p q = record { extends = extends_then p.extends q.extends; functions = q.functions ∙ p.functions; place = q.place ∙ p.place }

pub stays_at : {A : Type 0} (a c : A) (b later : Flow) → Gives a b ≡ Gives c later → Stays b later
stays_at a c b later e = subst (Stays b) (same_flow a c b later e) (stays_same b)

-- what is declared once
pub intern_stays : (decl : Declaration) (b : Flow) (id : ℕ) (later : Flow) → lift (id_by (intern decl)) b ≡ Gives id later → Stays b later
intern_stays decl b id later e =
    subst (Stays b) (asked (intern decl) b id later e).1
    (record { extends = extends_intern decl b.sections; functions = intern_functions decl b.sections; place = refl })

-- a step of two parts
pub step_opens : {A B : Type 0} (r : Built A) (next : A → Step B) (place : FlowPlace) (c : B) (later : Flow) → built_in place (step_behind r next) ≡ Gives c later
    → (a : A) × (mid : Sections) × (r ≡ Made a mid) × (built_in place (next a mid) ≡ Gives c later)
step_opens Full next place c later e = absurd cc
step_opens (Made a mid) next place c later e = (a, mid, refl, e)

scalar_stays : (s : Scalar) (b : Flow) (id : ℕ) (later : Flow) → lift (scalar_type s) b ≡ Gives id later → Stays b later
unfolding scalar_type
scalar_stays s b id later e = intern_stays (d.plain_type (plain_scalar s)) b id later e

shape_stays : (shape : Shape) (b : Flow) (id : ℕ) (later : Flow) → lift (type_of shape) b ≡ Gives id later → Stays b later
unfolding type_of
shape_stays shape b id later e =
    let o = step_opens (scalar_type shape.0 b.sections) (λ component. if shape.1 == 1 then made_given component else vector_type shape.1 component) b.place id later e in
    stays_then (scalar_stays shape.0 b o.0 (flow_of o.1 b.place) (ap (built_in b.place) o.2)) (by o.0 (flow_of o.1 b.place) (shape.1 == 1) o.3)
  where
    by : (component : ℕ) (mid : Flow) (one : Bool) → lift (if one then made_given component else vector_type shape.1 component) mid ≡ Gives id later → Stays mid later
    by component mid true is = stays_at component id mid later is
    by component mid false is = intern_stays (d.plain_type (plain.Vector component shape.1)) mid id later is

found_stays : (o : Option ℕ) (b : Flow) (id : ℕ) (later : Flow) → id_at o b ≡ Gives id later → Stays b later
found_stays None b id later e = absurd cc
found_stays (Some known) b id later e = stays_at known id b later e

pub type_stays : (t : Ty) (b : Flow) (id : ℕ) (later : Flow) → type_id t b ≡ Gives id later → Stays b later
unfolding type_id
type_stays t b id later = by (shape_of t)
  where
    by : (o : Option Shape) → type_by t o b ≡ Gives id later → Stays b later
    by None e = found_stays (find_type t b.place.composites) b id later e
    by (Some shape) e = shape_stays shape b id later e

pub result_stays : (t : Ty) (b : Flow) (id : ℕ) (later : Flow) → result_type t b ≡ Gives id later → Stays b later
unfolding result_type
result_stays t b id later = by (out-Ty t)
  where
    by : (layer : Ty-F Ty) → result_by t layer b ≡ Gives id later → Stays b later
    by Ty-F.Void e = intern_stays (d.plain_type plain.Void) b id later e
    by (Ty-F.One s) e = type_stays t b id later e
    by (Ty-F.Vector s n) e = type_stays t b id later e
    by (Ty-F.Array element n) e = type_stays t b id later e
    by (Ty-F.Runtime element) e = type_stays t b id later e
    by (Ty-F.Struct number) e = type_stays t b id later e

-- ---- parts that put an instruction

-- an instruction that gives a value gives a new id
pub giving_puts : (code : ℕ) (operands : List ℕ) (type : ℕ) (b : Flow) (id : ℕ) (later : Flow) → lift (giving code operands type) b ≡ Gives id later
    → (b.sections.last < id) × (later ≡ flow_of (call.put code (type ∷ id ∷ operands) (record b.sections { last = id })) b.place)
unfolding giving
giving_puts code operands type b id later e =
    let o = step_opens (id_by call.take b.sections) (put_giving code type operands) b.place id later e in
    let x = asked call.take b o.0 (flow_of o.1 b.place) (ap (built_in b.place) o.2) in
    by o.0 o.1 x.0 (ap (λ (f : Flow). f.sections) x.1) (same_given o.0 id (flow_of (call.put code (type ∷ o.0 ∷ operands) o.1) b.place) later o.3) (same_flow o.0 id (flow_of (call.put code (type ∷ o.0 ∷ operands) o.1) b.place) later o.3)
  where
    by : (new : ℕ) (mid : Sections) → b.sections.last + 1 ≡ new → (call.take b.sections).sections ≡ mid → new ≡ id → flow_of (call.put code (type ∷ new ∷ operands) mid) b.place ≡ later
        → (b.sections.last < id) × (later ≡ flow_of (call.put code (type ∷ id ∷ operands) (record b.sections { last = id })) b.place)
    by new mid next after same is = (
      omega (arith, next, same),
      sym is ∙ ap (λ n. flow_of (call.put code (type ∷ n ∷ operands) mid) b.place) same ∙ ap (λ s. flow_of (call.put code (type ∷ id ∷ operands) s) b.place) (sym after)
          ∙ ap (λ n. flow_of (call.put code (type ∷ id ∷ operands) (record b.sections { last = n })) b.place) (next ∙ same),
    )
