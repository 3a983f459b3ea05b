-- A function, as it is put.
use Rattle.std.proofs.Common.{◌≡◌, refl, sym, ap, ◌∙◌, subst, ℕ, Bool, true, false, List, [], ◌∷◌, ◌++◌, map, slice_get, Option, Some, None, append_assoc}
use Rattle.gsl_instr.specs.declared.op.TheConstants as op
use Rattle.gsl_types.specs.declared.ty.Ty.{Ty}
use Rattle.gsl_types.specs.declared.ty.Ty.TheOpen.{Ty-F}
use Rattle.gsl_types.specs.declared.ty.Ty.TheViews.{out-Ty}
use Rattle.gsl_tree.specs.declared.program.Program.{Program}
use Rattle.gsl_tree.specs.declared.unit.Function.{Function}
use Rattle.gsl_tree.specs.declared.unit.Prototype.{Prototype}
use Rattle.gsl_valid.specs.Placed.{Code}
use Rattle.gsl_spv.specs.Calls as call
use Rattle.gsl_spv.specs.Declarations.{instr}
use Rattle.gsl_spv.specs.Growing.{Extends}
use Rattle.gsl_spv.proofs.Extending.{extends_same, extends_then}
use Rattle.gsl_lower_law.proofs.Adding.{extends_put}
use Rattle.gsl_lower_holders.specs.Flow.{Emit, Flow, Gives, behind, ◌>>=◌, flow_of, given, id_at, putting_here, told}
use Rattle.gsl_lower_holders.specs.declared.place.FlowPlace.{FlowPlace}
use Rattle.gsl_lower_expr.specs.Calls.{zeros}
use Rattle.gsl_lower_needs.specs.Bodies.{any_leaves}
use Rattle.gsl_lower_needs.specs.declared.need.Need.{Need}
use Rattle.gsl_lower_stmt.specs.Coming.{row}
use Rattle.gsl_lower_stmt.specs.Parts.{LowerStmt, in_turn}
use Rattle.gsl_lower_flow.specs.Functions as flow
use Rattle.gsl_lower_flow.specs.Functions.{begun, function_put, holder_types, needs_of, under}
use Rattle.gsl_lower_flow.specs.Programs.{program_setting}
use Rattle.gsl_lower_frames.specs.Standing.{begins}
use Rattle.gsl_lower_law_loops.proofs.Opening.{opens}
use Rattle.gsl_lower_law_entered.specs.Modules.{AreShared}
use Rattle.gsl_lower_law_functions.specs.Bodies as law
use Rattle.gsl_lower_law_shader.specs.Depths.{body_of, statements_of}
use Rattle.gsl_lower_law_inner.specs.Inner.{AllPut, PutsInner, PutsTo}
use Rattle.gsl_lower_law_inner.proofs.Calls.{calls_inner, puts_zeros}
use Rattle.gsl_lower_law_inner.proofs.Flows.{puts_given, puts_here, puts_then}
use Rattle.gsl_lower_law_inner.proofs.Statements.{row_inner}
use Rattle.gsl_lower_law_outside.specs.OfLawOpening.{HasOpened}
use Rattle.gsl_lower_law_outside.proofs.OfLawOpening.{opened}
use Rattle.gsl_lower_law_outside.proofs.OfLawOpening.{same_flow, same_given}
use Rattle.gsl_lower_law_program.proofs.Codes.{code_of, opening_of}

-- ---- inner code

-- the end of a body puts a return, or nothing
puts_ending : (leaves : Bool) (t : Ty) → AllPut (flow.ending leaves t)
unfolding flow.ending
puts_ending true t = puts_given
puts_ending false t = by (out-Ty t)
  where
    valued : AllPut (zeros t >>= (λ zero. putting_here op.RETURN_VALUE (zero ∷ [])))
    valued = puts_then (puts_zeros t) (λ zero. puts_here op.RETURN_VALUE (zero ∷ []) refl)

    by : (layer : Ty-F Ty) → AllPut (flow.zeros_returned t layer)
    by Ty-F.Void = puts_here op.RETURN [] refl
    by (Ty-F.One s) = valued
    by (Ty-F.Vector s n) = valued
    by (Ty-F.Array element n) = valued
    by (Ty-F.Runtime element) = valued
    by (Ty-F.Struct number) = valued

-- the laws of bodies have the same end
same_ending : (leaves : Bool) (t : Ty) (b : Flow) → law.ending leaves t b ≡ flow.ending leaves t b
unfolding flow.ending law.ending
same_ending true t b = refl
same_ending false t b = by (out-Ty t)
  where
    by : (layer : Ty-F Ty) → law.zeros_returned t layer b ≡ flow.zeros_returned t layer b
    by Ty-F.Void = refl
    by (Ty-F.One s) = refl
    by (Ty-F.Vector s n) = refl
    by (Ty-F.Array element n) = refl
    by (Ty-F.Runtime element) = refl
    by (Ty-F.Struct number) = refl

-- ---- a function

-- A function of the program was put.
pub record IsPut (p : Program) (f : Function) (head : Prototype) (b later : Flow) : Type 0 where
  pub function : ℕ
  pub told : slice_get b.place.functions f.prototype ≡ Some function
  pub needs : List Need
  pub mid : Flow
  pub opening : HasOpened function head f.locals (holder_types needs) b mid
  pub last : Flow
  pub body : body_of p f head.result mid ≡ Gives tt last
  pub inner : PutsInner mid last
  pub ends : later ≡ flow_of (call.put op.FUNCTION_END [] last.sections) last.place

pub told_here : (o : Option ℕ) (b : Flow) (id : ℕ) (mid : Flow) → id_at o b ≡ Gives id mid → (o ≡ Some id) × (b ≡ mid)
told_here None b id mid e = absurd (cc)
told_here (Some known) b id mid e = (ap Some (same_given known id b mid e), same_flow known id b mid e)

module _ (p : Program) (f : Function) (head : Prototype) where
  -- the body, and the end of the function
  record IsBodied (mid later : Flow) : Type 0 where
    last : Flow
    body : body_of p f head.result mid ≡ Gives tt last
    inner : PutsInner mid last
    ends : later ≡ flow_of (call.put op.FUNCTION_END [] last.sections) last.place

  abbrev leaves : Bool
  leaves = any_leaves (map (λ (s : LowerStmt). s.leaves) (statements_of p f))

  abbrev ended : Bool → Emit (Unit {0})
  ended left = flow.ending left head.result

  body_puts : AllPut (row (program_setting p) f.locals f.body flow.no_exits >>= ended)
  body_puts = puts_then (row_inner (program_setting p) (calls_inner p.structs p.interfaces p.prototypes) f.locals f.body flow.no_exits) (λ left. puts_ending left head.result)

  bodied_is : (mid later : Flow) → flow.bodied (program_setting p) f head.result mid ≡ Gives tt later → IsBodied mid later
  unfolding row
  bodied_is mid later e =
      let o = opens (row (program_setting p) f.locals f.body flow.no_exits mid) (λ left. ended left >>= (λ done. putting_here op.FUNCTION_END [])) tt later e in
      let x = opens (ended o.0 o.1) (λ done. putting_here op.FUNCTION_END []) tt later o.3 in
      let y = opens (in_turn (statements_of p f) flow.no_exits mid) (λ done. given leaves) o.0 o.1 o.2 in
      by o.0 o.1 x.1 y.1 o.2 x.2 y.2 (same_given leaves o.0 y.1 o.1 y.3) (same_flow leaves o.0 y.1 o.1 y.3) (same_flow tt tt (flow_of (call.put op.FUNCTION_END [] x.1.sections) x.1.place) later x.3)
    where
      by : (left : Bool) (one last there : Flow) → row (program_setting p) f.locals f.body flow.no_exits mid ≡ Gives left one → ended left one ≡ Gives tt last → in_turn (statements_of p f) flow.no_exits mid ≡ Gives tt there → leaves ≡ left → there ≡ one
          → flow_of (call.put op.FUNCTION_END [] last.sections) last.place ≡ later → IsBodied mid later
      by left one last there rows end turn left_is same ends = record {
        last = last;
        body = ap (λ r. behind r (λ done. law.ending leaves head.result)) turn ∙ ap (law.ending leaves head.result) same ∙ same_ending leaves head.result one ∙ ap (λ b. ended b one) left_is ∙ end;
        inner = subst (PutsTo mid) (ap (λ r. behind r ended) rows ∙ end) (body_puts.all mid);
        ends = sym ends;
      }

  pub put_is : (b later : Flow) → slice_get p.prototypes f.prototype ≡ Some head → function_put (program_setting p) p.prototypes f b ≡ Gives tt later → IsPut p f head b later
  unfolding function_put
  put_is b later found e =
      let needs = needs_of p.prototypes f in
      let here = sym (ap (λ o. flow.with_head (program_setting p) f needs o b) found) ∙ e in
      let o = opens (told (λ place. place.functions) f.prototype b) (under (program_setting p) head f needs) tt later here in
      let t = told_here (slice_get b.place.functions f.prototype) b o.0 o.1 o.2 in
      let x = opens (begun o.0 head f needs o.1) (λ done. flow.bodied (program_setting p) f head.result) tt later o.3 in
      by o.0 o.1 t.0 t.1 x.1 (opened o.0 head f needs o.1 x.1 x.2) (bodied_is x.1 later x.3)
    where
      by : (id : ℕ) (there : Flow) → slice_get b.place.functions f.prototype ≡ Some id → b ≡ there → (mid : Flow) → HasOpened id head f.locals (holder_types (needs_of p.prototypes f)) there mid → IsBodied mid later → IsPut p f head b later
      by id there known same mid opening body = record {
        function = id;
        told = known;
        needs = needs_of p.prototypes f;
        mid = mid;
        opening = subst (λ (x : Flow). HasOpened id head f.locals (holder_types (needs_of p.prototypes f)) x mid) (sym same) opening;
        last = body.last;
        body = body.body;
        inner = body.inner;
        ends = body.ends;
      }

-- ---- what it leaves

-- From one flow to the next sections grew, and the place knows the same of the module.
pub record Goes (b later : Flow) : Type 0 where
  pub extends : Extends b.sections later.sections
  pub shared : AreShared b.place later.place

pub goes_same : (b : Flow) → Goes b b
goes_same b = record { extends = extends_same b.sections; shared = record { globals = refl; interfaces = refl; stages = refl; blocks = refl; classes = refl; functions = refl; composites = refl } }

pub goes_then : (a b c : Flow) → Goes a b → Goes b c → Goes a c
goes_then a b c p q = record {
  extends = extends_then p.extends q.extends;
  shared = record {
    globals = q.shared.globals ∙ p.shared.globals;
    interfaces = q.shared.interfaces ∙ p.shared.interfaces;
    stages = q.shared.stages ∙ p.shared.stages;
    blocks = q.shared.blocks ∙ p.shared.blocks;
    classes = q.shared.classes ∙ p.shared.classes;
    functions = q.shared.functions ∙ p.shared.functions;
    composites = q.shared.composites ∙ p.shared.composites;
  };
}

-- a place whose other parts are another's
pub shared_by : (place other : FlowPlace) (label used : ℕ) (params locals holders : List ℕ) → other ≡ record place { label = label; params = params; locals = locals; holders = holders; used = used } → AreShared place other
shared_by place other label used params locals holders is = subst (AreShared place) (sym is) (record { globals = refl; interfaces = refl; stages = refl; blocks = refl; classes = refl; functions = refl; composites = refl })

module _ (p : Program) (f : Function) (head : Prototype) (b later : Flow) (put : IsPut p f head b later) where
  abbrev o : HasOpened put.function head f.locals (holder_types put.needs) b put.mid
  o = put.opening

  last_extends : Extends put.last.sections later.sections
  last_extends = subst (λ (x : Flow). Extends put.last.sections x.sections) (sym put.ends) (extends_put op.FUNCTION_END [] put.last.sections)

  pub mid_goes : Goes b put.mid
  mid_goes = record { extends = o.extends; shared = shared_by b.place put.mid.place o.label 0 _ _ _ o.place }

  pub put_goes : Goes b later
  put_goes =
      let inner : Goes put.mid put.last = record { extends = put.inner.grown.extends; shared = shared_by put.mid.place put.last.place put.last.place.label put.last.place.used put.mid.place.params put.mid.place.locals put.mid.place.holders put.inner.grown.place } in
      let end : Goes put.last later = record { extends = last_extends; shared = subst (λ (x : Flow). AreShared put.last.place x.place) (sym put.ends) (goes_same put.last).shared } in
      goes_then b put.mid later mid_goes (goes_then put.mid put.last later inner end)

  -- its code behind what was there
  pub code_put : later.sections.functions ≡ b.sections.functions ++ begins put.function o.returned 0 o.function_type ∷ code_of o.params o.label (o.variables ++ o.waiting) put.inner.put
  code_put =
      ap (λ (x : Flow). x.sections.functions) put.ends ∙ ap (λ l. l ++ instr op.FUNCTION_END [] ∷ []) (put.inner.is ∙ ap (λ l. l ++ put.inner.put) o.puts)
      ∙ joined b.sections.functions (begins put.function o.returned 0 o.function_type ∷ opening_of o.params o.label (o.variables ++ o.waiting)) put.inner.put (instr op.FUNCTION_END [] ∷ [])
    where
      joined : (a c e g : Code) → ((a ++ c) ++ e) ++ g ≡ a ++ (c ++ (e ++ g))
      joined a c e g = append_assoc (a ++ c) e g ∙ append_assoc a c (e ++ g)
