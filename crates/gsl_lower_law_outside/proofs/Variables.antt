-- Variables outside functions, as they are put.
use Rattle.std.proofs.Common.{◌≡◌, ◌≢◌, refl, sym, ap, ◌∙◌, subst, ℕ, zero, suc, ◌<◌, ◌≤◌, Bool, true, false, List, [], ◌∷◌, ◌++◌, length, slice_get, Option, Some, None, if◌then◌else◌, arith}
use Rattle.std.specs.Prelude.{◌==◌}
use Rattle.std.specs.List.{Contains}
use Rattle.std.proofs.lemmas.Bool.{false≢true}
use Rattle.std.proofs.lemmas.List.Elements.{Contains-append_left}
use Rattle.gsl_instr.specs.declared.enumerant.decoration.TheConstants as decoration
use Rattle.gsl_instr.specs.declared.enumerant.storage_class.TheConstants as storage_class
use Rattle.gsl_types.specs.declared.ty.StructType.{StructType}
use Rattle.gsl_words.specs.declared.module.Module.{Module}
use Rattle.gsl_words.specs.declared.target.Target.{Target}
use Rattle.gsl_tree.specs.declared.expr.StageVar.{StageVar}
use Rattle.gsl_tree.specs.declared.expr.StageVar.TheVariants.{NumWorkGroups, WorkGroupId, LocalInvocationId, GlobalInvocationId, LocalInvocationIndex, VertexIndex, InstanceIndex}
use Rattle.gsl_tree.specs.declared.program.Program.{Program}
use Rattle.gsl_tree.specs.declared.unit.GlobalVar.{GlobalVar}
use Rattle.gsl_tree.specs.declared.unit.Interface.{Interface}
use Rattle.gsl_tree.specs.declared.unit.Prototype.{Prototype}
use Rattle.gsl_valid.specs.Types.{is_block_class}
use Rattle.gsl_valid.specs.Valid.{Valid}
use Rattle.gsl_sound_code.proofs.Looks.{Kept, kept}
use Rattle.gsl_spv.specs.Calls as call
use Rattle.gsl_spv.specs.Calls.{declare}
use Rattle.gsl_spv.specs.Declarations as d
use Rattle.gsl_spv.specs.Declarations.{defining}
use Rattle.gsl_spv.specs.Growing.{Extends}
use Rattle.gsl_spv.specs.Sections.{Sections}
use Rattle.gsl_spv.specs.declared.plain.PlainConst.TheVariants as of
use Rattle.gsl_spv.specs.declared.plain.PlainType.TheVariants as plain
use Rattle.gsl_spv.proofs.Extending.{extends_same, extends_then}
use Rattle.gsl_lower_values.specs.Building.{Made, ◌>>=◌, given, id_by, in_order}
use Rattle.gsl_lower_values.specs.Types.{type_of}
use Rattle.gsl_lower_text.specs.Written.{Written}
use Rattle.gsl_lower_holders.specs.declared.place.FlowPlace.{FlowPlace}
use Rattle.gsl_lower_expr.specs.Parts.{stage_number}
use Rattle.gsl_lower_needs.specs.declared.need.Need.{Need}
use Rattle.gsl_lower_places.specs.Reading.{pointer_type}
use Rattle.gsl_lower_types.specs.Blocks.{blocks_put, classes_of}
use Rattle.gsl_lower_types.specs.Declaring.{decorated, variable_in}
use Rattle.gsl_lower_types.specs.Globals.{beginning, global_put, globals_put, variable_of}
use Rattle.gsl_lower_types.specs.Interfaces.{built_in_of, built_in_variable, flat_where, interface_put, interface_variable, interfaces_put, located, plain_variable, stage_put, stage_shape}
use Rattle.gsl_lower_types.specs.Known.{Known, Put, all, aside, each}
use Rattle.gsl_lower_types.specs.Values.{program_types, value_type}
use Rattle.gsl_lower_types.proofs.Adding.{blocks_add, program_adds, value_adds}
use Rattle.gsl_lower_types.proofs.Finding.{came}
use Rattle.gsl_lower_flow.specs.Programs.{built_type, built_types, compute_stages, declared, nothing_laid, place, stage_if, stages, uses, vertex_stages}
use Rattle.gsl_lower_follows.specs.Frames.{Name, Global, Interface as Passed, Stage, Param, Local, Holder, id_if, id_of}
use Rattle.gsl_lower_law_opening.specs.OfLawReturns.{is_shared}
use Rattle.gsl_lower_law_opening.specs.Opening.{AreNew}
use Rattle.gsl_lower_law_opening.proofs.Rows.{none_new, one_new}
use Rattle.gsl_lower_law_outside.specs.Outside.{HasOuter, IsOuter}
use Rattle.gsl_lower_law_outside.proofs.Keeping.{asks_add, declared_anew, extends_declare, interns_add, made_by, same_after, same_made}
use Rattle.gsl_lower_law_outside.proofs.Program.{all_keep, begins_keep, built_keeps, decorated_adds, flat_adds, null_adds, takes_add}
use Rattle.gsl_lower_law_outside.proofs.Types.{shape_adds}

-- ---- one variable

-- A variable was put under a new id.
record IsPut (s : Sections) (id : ℕ) (after : Sections) : Type 0 where
  extends : Extends s after
  over : s.last < id
  under : id ≤ after.last
  outer : IsOuter after id

outer_on : (s after : Sections) (id : ℕ) → Extends s after → IsOuter s id → IsOuter after id
outer_on s after id e o = record {
  pointer = o.pointer;
  class = o.class;
  init = o.init;
  stands = subst (λ l. Contains l (defining (d.variable o.pointer o.class o.init) id)) (sym e.globals.is) (Contains-append_left s.globals e.globals.more _ o.stands);
  no_block = o.no_block;
  no_local = o.no_local;
}

-- what comes before and behind it only adds
put_on : (r s t : Sections) (id : ℕ) (after : Sections) → Extends r s → IsPut s id t → Extends t after → IsPut r id after
put_on r s t id after first p last = record {
  extends = extends_then first (extends_then p.extends last);
  over = (let a = first.last in let b = p.over in omega (arith, a, b));
  under = (let a = last.last in let b = p.under in omega (arith, a, b));
  outer = outer_on t after id last p.outer;
}

variable_put : (class type : ℕ) (init : Option ℕ) → is_block_class class ≡ false → (class == storage_class.FUNCTION) ≡ false → (s : Sections) (id : ℕ) (after : Sections) → variable_in class type init s ≡ Made id after → IsPut s id after
variable_put class type init no_block no_local s id after made =
    let c = came (pointer_type class type s) (λ pointer. id_by (call.global pointer class init)) id after made in
    let first = interns_add (d.plain_type (plain.Pointer class type)) s c.first c.between c.made in
    let second = asks_add (call.global c.first class init) (extends_declare (d.variable c.first class init)) c.between id after c.then_ in
    let m = made_by (declare (d.variable c.first class init)) c.between id after c.then_ in
    record {
      extends = extends_then first second;
      over = (let l = first.last in let e = m.0 in omega (arith, l, e));
      under = (let e = m.0 in let f = ap (λ (t : Sections). t.last) m.1 in omega (arith, e, f));
      outer = record { pointer = c.first; class = class; init = init; stands = declared_anew (d.variable c.first class init) c.between id after c.then_; no_block = no_block; no_local = no_local };
    }

-- an id that is given behind what was put
given_put : {A : Type 0} (s t : Sections) (id : ℕ) (a b : A) (after : Sections) → IsPut s id t → Made a t ≡ Made b after → IsPut s id after
given_put s t id a b after p made = subst (IsPut s id) (same_after a b t after made) p

-- ---- built-in variables

stage_is_put : (var : StageVar) (s : Sections) (id : ℕ) (after : Sections) → stage_put var s ≡ Made id after → IsPut s id after
unfolding stage_put
stage_is_put var s id after made =
    let c = came (type_of (stage_shape var) s) (built_in_variable var) id after made in
    let x = came (variable_in storage_class.INPUT c.first None c.between) (λ new. decorated new None decoration.BUILT_IN (Some (built_in_of var)) >>= (λ done. given new)) id after c.then_ in
    let y = came (decorated x.first None decoration.BUILT_IN (Some (built_in_of var)) x.between) (λ done. given x.first) id after x.then_ in
    let marked = decorated_adds x.first None decoration.BUILT_IN (Some (built_in_of var)) x.between y.first y.between y.made in
    subst (λ n. IsPut s n after) (same_made x.first id y.between after y.then_)
    (put_on s c.between x.between x.first after (shape_adds (stage_shape var) s c.first c.between c.made) (variable_put storage_class.INPUT c.first None refl refl c.between x.first x.between x.made)
    (subst (Extends x.between) (same_after x.first id y.between after y.then_) marked))

-- ---- one global variable, one input or output

interface_is_put : (i : Interface) (known : Known) (s : Sections) (r : ℕ × Known) (after : Sections) → interface_put i known s ≡ Made r after → IsPut s r.0 after
unfolding interface_put
interface_is_put i known s r after made =
    let c = came (value_type i.ty known s) (λ r. aside (interface_variable i r.0) r.1) r after made in
    let x = came (interface_variable i c.first.0 c.between) (λ a. given (a, c.first.1)) r after c.then_ in
    let y = came (plain_variable i.output c.first.0 c.between) (located i) x.first x.between x.made in
    let marked = located_adds y.first y.between x.first x.between y.then_ in
    subst (λ n. IsPut s n after) (marked.1 ∙ ap (λ (z : ℕ × Known). z.0) (same_made (x.first, c.first.1) r x.between after x.then_))
    (given_put s x.between y.first (x.first, c.first.1) r after (put_on s c.between y.between y.first x.between (value_adds i.ty known s c.first c.between c.made) (plain_is_put i.output c.first.0 c.between y.first y.between y.made) marked.0) x.then_)
  where
    plain_is_put : (output : Bool) (type : ℕ) (s : Sections) (id : ℕ) (after : Sections) → plain_variable output type s ≡ Made id after → IsPut s id after
    plain_is_put true type s id after made =
        let c = came (id_by (call.constant (of.Null type)) s) (λ null. variable_in storage_class.OUTPUT type (Some null)) id after made in
        put_on s c.between after id after (null_adds type s c.first c.between c.made) (variable_put storage_class.OUTPUT type (Some c.first) refl refl c.between id after c.then_) (extends_same after)
    plain_is_put false type s id after made = variable_put storage_class.INPUT type None refl refl s id after made

    located_adds : (new : ℕ) (s : Sections) (id : ℕ) (after : Sections) → located i new s ≡ Made id after → Extends s after × (new ≡ id)
    located_adds new s id after made =
        let c = came (decorated new None decoration.LOCATION (Some i.location) s) (λ a. flat_where i.flat new >>= (λ b. given new)) id after made in
        let x = came (flat_where i.flat new c.between) (λ b. given new) id after c.then_ in (
          extends_then (decorated_adds new None decoration.LOCATION (Some i.location) s c.first c.between c.made) (subst (Extends c.between) (same_after new id x.between after x.then_) (flat_adds i.flat new c.between x.first x.between x.made)),
          same_made new id x.between after x.then_,
        )

module _ (m : Module) (whole : Sections) (structs : List StructType) (held : Kept m) (written : Written m whole) where
  global_is_put : (g : GlobalVar) (known : Known) (s : Sections) (r : ℕ × Known) (after : Sections) → global_put structs g known s ≡ Made r after → IsPut s r.0 after
  unfolding global_put
  global_is_put g known s r after made =
      let c = came (value_type g.ty known s) (λ r. variable_of structs g r.0 r.1) r after made in
      let x = came (beginning structs g.ty c.first.0 g.value c.first.1 c.between) (λ q. aside (variable_in storage_class.PRIVATE c.first.0 (Some q.0)) q.1) r after c.then_ in
      let y = came (variable_in storage_class.PRIVATE c.first.0 (Some x.first.0) x.between) (λ a. given (a, x.first.1)) r after x.then_ in
      let init = (begins_keep m whole structs held written g.ty c.first.0 g.value c.first.1 c.between x.first x.between x.made).extends in
      subst (λ n. IsPut s n after) (ap (λ (z : ℕ × Known). z.0) (same_made (y.first, x.first.1) r y.between after y.then_))
      (given_put s y.between y.first (y.first, x.first.1) r after
      (put_on s x.between y.between y.first y.between (extends_then (value_adds g.ty known s c.first c.between c.made) init) (variable_put storage_class.PRIVATE c.first.0 (Some x.first.0) refl refl x.between y.first y.between y.made) (extends_same y.between)) y.then_)

-- ---- several

-- Variables were put for items, in their order.
record ArePut {A : Type 0} (items : List A) (s : Sections) (ids : List ℕ) (after : Sections) : Type 0 where
  extends : Extends s after
  many : length ids ≡ length items
  new : AreNew s.last after.last (slice_get ids)
  outer : (number id : ℕ) → slice_get ids number ≡ Some id → IsOuter after id

nothing_there : (number id : ℕ) {A : Type 0} → slice_get [] number ≡ Some id → A
nothing_there zero id is = absurd (cc)
nothing_there (suc number) id is = absurd (cc)

one_more : (s t after : Sections) (one : ℕ) (ids : List ℕ) → IsPut s one t → ((number id : ℕ) → slice_get ids number ≡ Some id → IsOuter after id) → Extends t after → (number id : ℕ) → slice_get (one ∷ ids) number ≡ Some id → IsOuter after id
one_more s t after one ids p rest last zero id is = let same : one ≡ id = cc in subst (IsOuter after) same (outer_on t after one last p.outer)
one_more s t after one ids p rest last (suc number) id is = rest number id is

all_put : {A : Type 0} (put : A → Put ℕ) → ((a : A) (known : Known) (s : Sections) (r : ℕ × Known) (after : Sections) → put a known s ≡ Made r after → IsPut s r.0 after)
    → (items : List A) (known : Known) (s : Sections) (r : List ℕ × Known) (after : Sections) → each put items known s ≡ Made r after → ArePut items s r.0 after
unfolding each
all_put {A} put p [] known s r after made =
    let same = ap (λ (z : List ℕ × Known). z.0) (same_made ([], known) r s after made) in
    subst (λ ids. ArePut {A = A} [] s ids after) same (subst (ArePut {A = A} [] s []) (same_after ([], known) r s after made)
    (record { extends = extends_same s; many = refl; new = none_new s.last s.last (omega arith); outer = λ number id is. nothing_there number id is }))
all_put {A} put p (a ∷ items) known s r after made =
    let c = came (put a known s) (λ r. each put items r.1 >>= (λ rs. given (r.0 ∷ rs.0, rs.1))) r after made in
    let x = came (each put items c.first.1 c.between) (λ rs. given (c.first.0 ∷ rs.0, rs.1)) r after c.then_ in
    let first = p a known s c.first c.between c.made in
    let rest = all_put put p items c.first.1 c.between x.first x.between x.made in
    subst (λ ids. ArePut (a ∷ items) s ids after) (ap (λ (z : List ℕ × Known). z.0) (same_made (c.first.0 ∷ x.first.0, x.first.1) r x.between after x.then_))
    (subst (ArePut (a ∷ items) s (c.first.0 ∷ x.first.0)) (same_after (c.first.0 ∷ x.first.0, x.first.1) r x.between after x.then_)
    (record {
      extends = extends_then first.extends rest.extends;
      many = ap suc rest.many;
      new = one_new s.last c.between.last x.between.last c.first.0 x.first.0 first.over first.under rest.extends.last rest.new;
      outer = one_more s c.between x.between c.first.0 x.first.0 first rest.outer rest.extends;
    }))

-- ---- the built-in variables that are asked for

-- Those from here on: each has an id, or 0 where it is not asked for.
record StagesPut (s : Sections) (ids : List ℕ) (after : Sections) : Type 0 where
  extends : Extends s after
  new : AreNew s.last after.last (λ number. id_if (slice_get ids number))
  outer : (number id : ℕ) → id_if (slice_get ids number) ≡ Some id → IsOuter after id

no_stages : (s : Sections) → StagesPut s [] s
no_stages s = record {
  extends = extends_same s;
  new = record { rises = omega arith; each = λ number id is. absurd (none number id is); apart = λ j k id is other. absurd (none j id is) };
  outer = λ number id is. absurd (none number id is);
}
  where
    none : (number id : ℕ) → id_if (slice_get [] number) ≡ Some id → ⊥
    none zero id is = cc
    none (suc number) id is = cc

-- one of them: it is put where it is asked for, and has no id else
abbrev IsStage : Bool → Sections → ℕ → Sections → Type 0
IsStage true s id after = IsPut s id after
IsStage false s id after = (id ≡ 0) × (s ≡ after)

stage_is : (asked : List Need) (var : StageVar) (s : Sections) (id : ℕ) (after : Sections) → stage_if asked var s ≡ Made id after → IsStage (uses asked var) s id after
unfolding stage_if
stage_is asked var s id after = by (uses asked var)
  where
    by : (b : Bool) → (if b then stage_put var else given 0) s ≡ Made id after → IsStage b s id after
    by true made = stage_is_put var s id after made
    by false made = (sym (same_made 0 id s after made), same_after 0 id s after made)

more_stages : (b : Bool) (s t after : Sections) (one : ℕ) (ids : List ℕ) → IsStage b s one t → StagesPut t ids after → StagesPut s (one ∷ ids) after
more_stages false s t after one ids (none, same) rest =
    subst (λ n. StagesPut s (n ∷ ids) after) (sym none) (subst (λ x. StagesPut x (0 ∷ ids) after) (sym same) (record { extends = rest.extends; new = record { rises = rest.new.rises; each = each; apart = apart }; outer = outer }))
  where
    each : (number id : ℕ) → id_if (slice_get (0 ∷ ids) number) ≡ Some id → (t.last < id) × (id ≤ after.last)
    each zero id is = absurd (cc)
    each (suc number) id is = rest.new.each number id is

    apart : (j k id : ℕ) → id_if (slice_get (0 ∷ ids) j) ≡ Some id → id_if (slice_get (0 ∷ ids) k) ≡ Some id → j ≡ k
    apart zero k id is other = absurd (cc)
    apart (suc j) zero id is other = absurd (cc)
    apart (suc j) (suc k) id is other = ap suc (rest.new.apart j k id is other)

    outer : (number id : ℕ) → id_if (slice_get (0 ∷ ids) number) ≡ Some id → IsOuter after id
    outer zero id is = absurd (cc)
    outer (suc number) id is = rest.outer number id is
more_stages true s t after one ids p rest = record { extends = extends_then p.extends rest.extends; new = record { rises = (let a = p.extends.last in let r = rest.new.rises in omega (arith, a, r)); each = each; apart = apart }; outer = outer }
  where
    -- a new id is none that is missing
    same : (n id : ℕ) → id_if (Some n) ≡ Some id → n ≡ id
    same zero id is = absurd (cc)
    same (suc n) id is = cc

    each : (number id : ℕ) → id_if (slice_get (one ∷ ids) number) ≡ Some id → (s.last < id) × (id ≤ after.last)
    each zero id is = (let e = same one id is in let a = p.over in omega (arith, e, a), let e = same one id is in let a = p.under in let b = rest.extends.last in omega (arith, e, a, b))
    each (suc number) id is = let w = rest.new.each number id is in (let a = w.0 in let b = p.extends.last in omega (arith, a, b), w.1)

    apart : (j k id : ℕ) → id_if (slice_get (one ∷ ids) j) ≡ Some id → id_if (slice_get (one ∷ ids) k) ≡ Some id → j ≡ k
    apart zero zero id is other = refl
    apart zero (suc k) id is other = absurd (let e = same one id is in let w = (rest.new.each k id other).0 in let u = p.under in omega (arith, e, w, u))
    apart (suc j) zero id is other = absurd (let e = same one id other in let w = (rest.new.each j id is).0 in let u = p.under in omega (arith, e, w, u))
    apart (suc j) (suc k) id is other = ap suc (rest.new.apart j k id is other)

    outer : (number id : ℕ) → id_if (slice_get (one ∷ ids) number) ≡ Some id → IsOuter after id
    outer zero id is = subst (IsOuter after) (same one id is) (outer_on t after one rest.extends p.outer)
    outer (suc number) id is = rest.outer number id is

abbrev HasUsed : List Need → List ℕ → StageVar → Type 0
HasUsed asked ids var = uses asked var ≡ true → (id : ℕ) × (slice_get ids (stage_number var) ≡ Some id) × (id ≢ 0)

real : (b : Bool) (s : Sections) (id : ℕ) (after : Sections) → IsStage b s id after → b ≡ true → id ≢ 0
real true s id after p is none = let a = p.over in omega (arith, a, none)
real false s id after p is none = false≢true is

record AllStages (asked : List Need) (s : Sections) (ids : List ℕ) (after : Sections) : Type 0 where
  put : StagesPut s ids after
  used : (var : StageVar) → HasUsed asked ids var

stages_are : (asked : List Need) (s : Sections) (ids : List ℕ) (after : Sections) → stages asked s ≡ Made ids after → AllStages asked s ids after
unfolding stages
stages_are asked s ids after made =
    let c = came (compute_stages asked s) (λ first. vertex_stages asked >>= (λ second. given (first ++ second))) ids after made in
    let v = came (vertex_stages asked c.between) (λ second. given (c.first ++ second)) ids after c.then_ in
    let a = came (stage_if asked NumWorkGroups s) (λ groups. stage_if asked WorkGroupId >>= (λ group. stage_if asked LocalInvocationId >>= (λ local. stage_if asked GlobalInvocationId >>= (λ global. stage_if asked LocalInvocationIndex >>= (λ index. given (groups ∷ group ∷ local ∷ global ∷ index ∷ [])))))) c.first c.between c.made in
    let b = came (stage_if asked WorkGroupId a.between) (λ group. stage_if asked LocalInvocationId >>= (λ local. stage_if asked GlobalInvocationId >>= (λ global. stage_if asked LocalInvocationIndex >>= (λ index. given (a.first ∷ group ∷ local ∷ global ∷ index ∷ []))))) c.first c.between a.then_ in
    let e = came (stage_if asked LocalInvocationId b.between) (λ local. stage_if asked GlobalInvocationId >>= (λ global. stage_if asked LocalInvocationIndex >>= (λ index. given (a.first ∷ b.first ∷ local ∷ global ∷ index ∷ [])))) c.first c.between b.then_ in
    let f = came (stage_if asked GlobalInvocationId e.between) (λ global. stage_if asked LocalInvocationIndex >>= (λ index. given (a.first ∷ b.first ∷ e.first ∷ global ∷ index ∷ []))) c.first c.between e.then_ in
    let g = came (stage_if asked LocalInvocationIndex f.between) (λ index. given (a.first ∷ b.first ∷ e.first ∷ f.first ∷ index ∷ [])) c.first c.between f.then_ in
    let x = came (stage_if asked VertexIndex c.between) (λ vertex. stage_if asked InstanceIndex >>= (λ instance. given (vertex ∷ instance ∷ []))) v.first v.between v.made in
    let y = came (stage_if asked InstanceIndex x.between) (λ instance. given (x.first ∷ instance ∷ [])) v.first v.between x.then_ in
    let first_is : (a.first ∷ b.first ∷ e.first ∷ f.first ∷ g.first ∷ []) ≡ c.first = same_made (a.first ∷ b.first ∷ e.first ∷ f.first ∷ g.first ∷ []) c.first g.between c.between g.then_ in
    let second_is : (x.first ∷ y.first ∷ []) ≡ v.first = same_made (x.first ∷ y.first ∷ []) v.first y.between v.between y.then_ in
    ends a.first b.first e.first f.first g.first x.first y.first a.between b.between e.between f.between g.between x.between y.between
    (stage_is asked NumWorkGroups s a.first a.between a.made) (stage_is asked WorkGroupId a.between b.first b.between b.made) (stage_is asked LocalInvocationId b.between e.first e.between e.made)
    (stage_is asked GlobalInvocationId e.between f.first f.between f.made) (stage_is asked LocalInvocationIndex f.between g.first g.between g.made)
    (subst (λ t. IsStage (uses asked VertexIndex) t x.first x.between) (sym (same_after (a.first ∷ b.first ∷ e.first ∷ f.first ∷ g.first ∷ []) c.first g.between c.between g.then_)) (stage_is asked VertexIndex c.between x.first x.between x.made))
    (stage_is asked InstanceIndex x.between y.first y.between y.made)
    (ap (λ l. l ++ (x.first ∷ y.first ∷ [])) first_is ∙ ap (λ l. c.first ++ l) second_is ∙ same_made (c.first ++ v.first) ids v.between after v.then_)
    (same_after (x.first ∷ y.first ∷ []) v.first y.between v.between y.then_ ∙ same_after (c.first ++ v.first) ids v.between after v.then_)
  where
    ends : (a b e f g x y : ℕ) (s1 s2 s3 s4 s5 s6 s7 : Sections) → IsStage (uses asked NumWorkGroups) s a s1 → IsStage (uses asked WorkGroupId) s1 b s2 → IsStage (uses asked LocalInvocationId) s2 e s3
        → IsStage (uses asked GlobalInvocationId) s3 f s4 → IsStage (uses asked LocalInvocationIndex) s4 g s5 → IsStage (uses asked VertexIndex) s5 x s6 → IsStage (uses asked InstanceIndex) s6 y s7
        → a ∷ b ∷ e ∷ f ∷ g ∷ x ∷ y ∷ [] ≡ ids → s7 ≡ after → AllStages asked s ids after
    ends a b e f g x y s1 s2 s3 s4 s5 s6 s7 pa pb pe pf pg px py list_is end_is =
        subst (λ l. AllStages asked s l after) list_is (subst (AllStages asked s (a ∷ b ∷ e ∷ f ∷ g ∷ x ∷ y ∷ [])) end_is (record {
          put =
              more_stages (uses asked NumWorkGroups) s s1 s7 a (b ∷ e ∷ f ∷ g ∷ x ∷ y ∷ []) pa (more_stages (uses asked WorkGroupId) s1 s2 s7 b (e ∷ f ∷ g ∷ x ∷ y ∷ []) pb (more_stages (uses asked LocalInvocationId) s2 s3 s7 e (f ∷ g ∷ x ∷ y ∷ []) pe
              (more_stages (uses asked GlobalInvocationId) s3 s4 s7 f (g ∷ x ∷ y ∷ []) pf (more_stages (uses asked LocalInvocationIndex) s4 s5 s7 g (x ∷ y ∷ []) pg (more_stages (uses asked VertexIndex) s5 s6 s7 x (y ∷ []) px
              (more_stages (uses asked InstanceIndex) s6 s7 s7 y [] py (no_stages s7)))))));
          used = used;
        }))
      where
        used : (var : StageVar) → HasUsed asked (a ∷ b ∷ e ∷ f ∷ g ∷ x ∷ y ∷ []) var
        used NumWorkGroups is = (a, refl, real (uses asked NumWorkGroups) s a s1 pa is)
        used WorkGroupId is = (b, refl, real (uses asked WorkGroupId) s1 b s2 pb is)
        used LocalInvocationId is = (e, refl, real (uses asked LocalInvocationId) s2 e s3 pe is)
        used GlobalInvocationId is = (f, refl, real (uses asked GlobalInvocationId) s3 f s4 pf is)
        used LocalInvocationIndex is = (g, refl, real (uses asked LocalInvocationIndex) s4 g s5 pg is)
        used VertexIndex is = (x, refl, real (uses asked VertexIndex) s5 x s6 px is)
        used InstanceIndex is = (y, refl, real (uses asked InstanceIndex) s6 y s7 py is)

-- ---- all that stands outside functions

heads_many : {A : Type 0} (items : List A) (s : Sections) (ids : List ℕ) (after : Sections) → in_order (λ (one : A). id_by call.take) items s ≡ Made ids after → length ids ≡ length items
unfolding in_order
heads_many [] s ids after made = ap length (sym (same_made [] ids s after made))
heads_many {A} (a ∷ items) s ids after made =
    let c = came (id_by call.take s) (λ id. in_order (λ (one : A). id_by call.take) items >>= (λ more. given (id ∷ more))) ids after made in
    let x = came (in_order (λ (one : A). id_by call.take) items c.between) (λ more. given (c.first ∷ more)) ids after c.then_ in
    ap length (sym (same_made (c.first ∷ x.first) ids x.between after x.then_)) ∙ ap suc (heads_many items c.between x.first x.between x.made)

pub outer_put : (m : Module) (whole : Sections) (target : Target) (p : Program) (asked : List Need) (there : FlowPlace) (s after : Sections) → Valid m → Written m whole → declared target p asked s ≡ Made there after → HasOuter p asked s there after
unfolding declared built_types
outer_put m whole target p asked there s after valid written made =
    let held = kept m valid in
    let heads = came (in_order (λ (one : Prototype). id_by call.take) p.prototypes s) _ there after made in
    let types = came (program_types p [] heads.between) _ there after heads.then_ in
    let built = came (all built_type asked types.first.1 types.between) _ there after types.then_ in
    let blocks = came (blocks_put target p.structs p.blocks nothing_laid built.between) _ there after built.then_ in
    let globals = came (globals_put p.structs p.globals built.first.1 blocks.between) _ there after blocks.then_ in
    let interfaces = came (interfaces_put p.interfaces globals.first.1 globals.between) _ there after globals.then_ in
    let ids = came (stages asked interfaces.between) _ there after interfaces.then_ in
    let one = takes_add p.prototypes s heads.first heads.between heads.made in
    let two = program_adds p [] heads.between types.first types.between types.made in
    let three = (all_keep m whole p.structs held written built_type (built_keeps m whole p.structs held written) asked types.first.1 types.between built.first built.between built.made).extends in
    let four = blocks_add target p.structs p.blocks nothing_laid built.between blocks.first blocks.between blocks.made in
    let five = all_put (global_put p.structs) (global_is_put m whole p.structs held written) p.globals built.first.1 blocks.between globals.first globals.between globals.made in
    let six = all_put interface_put interface_is_put p.interfaces globals.first.1 globals.between interfaces.first interfaces.between interfaces.made in
    let seven = stages_are asked interfaces.between ids.first ids.between ids.made in
    ends heads.first globals.first.0 interfaces.first.0 ids.first blocks.between globals.between interfaces.between ids.between interfaces.first.1 blocks.first.0
    (extends_then one (extends_then two (extends_then three four))) five six seven (heads_many p.prototypes s heads.first heads.between heads.made)
    (same_made (place heads.first interfaces.first.1 blocks.first.0 (classes_of target p.blocks) globals.first.0 interfaces.first.0 ids.first) there ids.between after ids.then_)
    (same_after (place heads.first interfaces.first.1 blocks.first.0 (classes_of target p.blocks) globals.first.0 interfaces.first.0 ids.first) there ids.between after ids.then_)
  where
    ends : (heads globals interfaces ids : List ℕ) (s1 s2 s3 s4 : Sections) (known : Known) (blocks : List ℕ) → Extends s s1 → ArePut p.globals s1 globals s2 → ArePut p.interfaces s2 interfaces s3 → AllStages asked s3 ids s4 → length heads ≡ length p.prototypes
        → place heads known blocks (classes_of target p.blocks) globals interfaces ids ≡ there → s4 ≡ after → HasOuter p asked s there after
    ends heads globals interfaces ids s1 s2 s3 s4 known blocks first g i v many place_is end_is =
        subst (λ f. HasOuter p asked s f after) place_is (subst (HasOuter p asked s (place heads known blocks (classes_of target p.blocks) globals interfaces ids)) end_is (record {
          extends = extends_then first (extends_then g.extends (extends_then i.extends v.put.extends));
          heads = many;
          globals = g.many;
          interfaces = i.many;
          before = s1.last;
          past_globals = s2.last;
          past_interfaces = s3.last;
          behind = first.last;
          globals_new = g.new;
          interfaces_new = i.new;
          stages_new = v.put.new;
          stand = stand;
          used = v.used;
        }))
      where
        stand : (name : Name) (id : ℕ) → is_shared name ≡ true → id_of (place heads known blocks (classes_of target p.blocks) globals interfaces ids) name ≡ Some id → IsOuter s4 id
        stand (Global number) id is has = outer_on s2 s4 id (extends_then i.extends v.put.extends) (g.outer number id has)
        stand (Passed number) id is has = outer_on s3 s4 id v.put.extends (i.outer number id has)
        stand (Stage number) id is has = v.put.outer number id has
        stand (Param number) id is has = absurd (false≢true is)
        stand (Local number) id is has = absurd (false≢true is)
        stand (Holder number) id is has = absurd (false≢true is)
