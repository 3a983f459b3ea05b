-- Parts of lowering, one behind the other, and what holders are for.
use Rattle.std.proofs.Common.{refl, sym, ap, ◌∙◌, ℕ, Bool, true, false, List, [], ◌∷◌, ◌++◌, slice_get, Option, Some, None, append_assoc, append-nil, if◌then◌else◌, arith}
use Rattle.std.specs.Prelude.{◌≡◌}
use Rattle.gsl_types.specs.declared.ty.Ty.{Ty}
use Rattle.gsl_tree.specs.Shapes.{Shape, shape_of}
use Rattle.gsl_tree.specs.declared.expr.LogicOp.{LogicOp}
use Rattle.gsl_spv.proofs.Extending.{extends_same}
use Rattle.gsl_lower_values.specs.Building.{Built, Made, Full, Step}
use Rattle.gsl_lower_places.specs.declared.reached.Base.{Base}
use Rattle.gsl_lower_places.specs.declared.reached.Base.TheVariants.{Variable, Value}
use Rattle.gsl_lower_places.specs.declared.reached.Part.{Part}
use Rattle.gsl_lower_places.specs.declared.reached.Part.TheVariants.{Fixed, By}
use Rattle.gsl_lower_places.specs.declared.reached.Picked.{Picked}
use Rattle.gsl_lower_places.specs.declared.reached.Reached.{Reached}
use Rattle.gsl_lower_holders.specs.Flow.{Emit, Flow, Gives, Lacks, Lowered, behind, built_in, each, find_type, fresh, given, giving_here, id_at, lacking, lift, opening, putting_here, told, type_by, type_id, ◌>>=◌}
use Rattle.gsl_lower_holders.specs.Waiting.{fetch, fetch_reached, hold, hold_reached, holder, holder_at, in_picked, in_reached, keep, keep_base, keep_part, picked_by, take_back, take_base, take_part}
use Rattle.gsl_lower_holders.specs.Ways.{begin_choice, begin_short, choosing, join, leaving, other_way}
use Rattle.gsl_lower_holders.specs.declared.blocks.Fork.{Fork}
use Rattle.gsl_lower_holders.specs.declared.place.FlowPlace.{FlowPlace}
use Rattle.gsl_lower_follows.proofs.Growing.{grown_same, grown_then}
use Rattle.gsl_lower_law_inner.specs.Inner.{AllBuild, AllPut, BuildsTo, PutsInner, PutsTo, is_inner}
use Rattle.gsl_lower_law_inner.proofs.Steps.{all_append, outside_same, outside_then, builds_giving, builds_putting, builds_taken}
use Rattle.gsl_lower_law_inner.proofs.Values.{builds_scalar_type, builds_type}

-- ---- inner code

inner_same : (b : Flow) → PutsInner b b
inner_same b = record { grown = grown_same b; put = []; is = sym (append-nil b.sections.functions); inner = tt; outside = outside_same b.sections }

inner_then : {a b c : Flow} → PutsInner a b → PutsInner b c → PutsInner a c
inner_then {a} {b} {c} p q = record {
  grown = grown_then p.grown q.grown;
  put = p.put ++ q.put;
  is = q.is ∙ ap (λ l. l ++ q.put) p.is ∙ append_assoc a.sections.functions p.put q.put;
  inner = all_append p.put q.put p.inner q.inner;
  outside = outside_then p.outside q.outside;
}

-- ---- types that their crates keep to themselves, by what gives a value of them

abbrev pub given_of : {A : Type 0} → Emit A → Type 0
given_of {A} emit = A

abbrev pub given_by : {A B : Type 0} → (A → Emit B) → Type 0
given_by {A} {B} emit = B

-- ---- one behind the other

pub puts_given : {A : Type 0} {a : A} → AllPut (given a)
puts_given = record { all = λ b. inner_same b }

pub puts_lacking : {A : Type 0} → AllPut {A = A} lacking
puts_lacking = record { all = λ b. tt }

puts_behind : {A B : Type 0} (b : Flow) (first : Lowered A) (next : A → Emit B) → PutsTo b first → ((a : A) → AllPut (next a)) → PutsTo b (behind first next)
puts_behind b Lacks next p q = tt
puts_behind {A} {B} b (Gives a between) next p q = by (next a between) ((q a).all between)
  where
    by : (second : Lowered B) → PutsTo between second → PutsTo b second
    by Lacks g = tt
    by (Gives c later) g = inner_then p g

pub puts_then : {A B : Type 0} {first : Emit A} {next : A → Emit B} → AllPut first → ((a : A) → AllPut (next a)) → AllPut (first >>= next)
puts_then {A} {B} {first} {next} p q = record { all = λ b. puts_behind b (first b) next (p.all b) q }

-- behind what gives nothing
pub puts_next : {B : Type 0} {first : Emit (Unit {0})} {second : Emit B} → AllPut first → AllPut second → AllPut (first >>= (λ done. second))
puts_next p q = puts_then p (λ done. q)

pub puts_if : {A : Type 0} {one other : Emit A} (test : Bool) → AllPut one → AllPut other → AllPut (if test then one else other)
puts_if true p q = p
puts_if false p q = q

pub puts_lift : {A : Type 0} {step : Step A} → AllBuild step → AllPut (lift step)
puts_lift {A} {step} p = record { all = λ b. by b (step b.sections) (p.all b.sections) }
  where
    by : (b : Flow) (built : Built A) → BuildsTo b.sections built → PutsTo b (built_in b.place built)
    by b Full g = tt
    by b (Made a sections) g = record { grown = record { extends = g.extends; used = omega arith; place = refl }; put = g.put; is = g.is; inner = g.inner; outside = g.outside }

pub puts_each : {A B : Type 0} (emit : A → Emit B) (items : List A) → ((a : A) → AllPut (emit a)) → AllPut (each emit items)
unfolding each
puts_each emit [] p = puts_given
puts_each emit (a ∷ items) p = puts_then (p a) (λ b. puts_then (puts_each emit items p) (λ more. puts_given))

-- ---- instructions

pub puts_here : (code : ℕ) (operands : List ℕ) → is_inner code ≡ true → AllPut (putting_here code operands)
puts_here code operands is = puts_lift (builds_putting code operands is)

pub puts_giving : (code : ℕ) (operands : List ℕ) (type : ℕ) → is_inner code ≡ true → AllPut (giving_here code operands type)
puts_giving code operands type is = puts_lift (builds_giving code operands type is)

pub puts_fresh : AllPut fresh
puts_fresh = puts_lift builds_taken

puts_label : (label : ℕ) → AllPut {A = Unit {0}} (λ flow. Gives tt (record flow { place = record flow.place { label = label } }))
puts_label label = record { all = λ b. record { grown = record { extends = extends_same b.sections; used = omega arith; place = refl }; put = []; is = sym (append-nil b.sections.functions); inner = tt; outside = outside_same b.sections } }

pub puts_opening : (label : ℕ) → AllPut (opening label)
unfolding opening
puts_opening label = puts_next (puts_here _ _ refl) (puts_label label)

-- ---- what the place tells

puts_id : (id : Option ℕ) → AllPut (id_at id)
puts_id None = puts_lacking
puts_id (Some id) = puts_given

pub puts_told : (list : FlowPlace → List ℕ) (number : ℕ) → AllPut (told list number)
puts_told list number = record { all = λ b. (puts_id (slice_get (list b.place) number)).all b }

puts_type_by : (ty : Ty) (shape : Option Shape) → AllPut (type_by ty shape)
puts_type_by ty None = record { all = λ b. (puts_id (find_type ty b.place.composites)).all b }
puts_type_by ty (Some shape) = puts_lift (builds_type shape)

pub puts_type : (ty : Ty) → AllPut (type_id ty)
unfolding type_id
puts_type ty = puts_type_by ty (shape_of ty)

-- ---- values that wait

pub puts_holder : AllPut holder
unfolding holder
puts_holder = record { all = λ b. by b (slice_get b.place.holders b.place.used) }
  where
    by : (b : Flow) (found : Option ℕ) → PutsTo b (holder_at found b)
    by b None = tt
    by b (Some id) = record { grown = record { extends = extends_same b.sections; used = omega arith; place = refl }; put = []; is = sym (append-nil b.sections.functions); inner = tt; outside = outside_same b.sections }

pub puts_keep : (value : ℕ) → AllPut (keep value)
unfolding keep
puts_keep value = puts_then puts_holder (λ h. puts_next (puts_here _ _ refl) puts_given)

pub puts_back : (h type : ℕ) → AllPut (take_back h type)
puts_back h type = puts_giving _ _ type refl

pub puts_hold : (waits : Bool) (value : ℕ) → AllPut (hold waits value)
unfolding hold
puts_hold false value = puts_given
puts_hold true value = puts_keep value

pub puts_fetch : (waits : Bool) (ty : Ty) (kept : ℕ) → AllPut (fetch waits ty kept)
unfolding fetch
puts_fetch false ty kept = puts_given
puts_fetch true ty kept = puts_then (puts_type ty) (λ type. puts_back kept type)

puts_keep_part : (part : Part) → AllPut (keep_part part)
puts_keep_part (Fixed number) = puts_given
puts_keep_part (By s id) = puts_then (puts_keep id) (λ h. puts_given)

puts_take_part : (part : Part) → AllPut (take_part part)
puts_take_part (Fixed number) = puts_given
puts_take_part (By s h) = puts_then (puts_then (puts_lift (builds_scalar_type s)) (λ type. puts_back h type)) (λ id. puts_given)

puts_picked_by : (emit : Part → Emit Part) (by : Option Part) → ((part : Part) → AllPut (emit part)) → AllPut (picked_by emit by)
puts_picked_by emit None p = puts_given
puts_picked_by emit (Some part) p = puts_then (p part) (λ one. puts_given)

puts_picked : (emit : Part → Emit Part) (picked : Option Picked) → ((part : Part) → AllPut (emit part)) → AllPut (in_picked emit picked)
puts_picked emit None p = puts_given
puts_picked emit (Some picked) p = puts_then (puts_picked_by emit picked.by p) (λ by. puts_given)

puts_keep_base : (base : Base) → AllPut (keep_base base)
puts_keep_base (Variable id class) = puts_given
puts_keep_base (Value id type) = puts_then (puts_keep id) (λ h. puts_given)

puts_take_base : (base : Base) → AllPut (take_base base)
puts_take_base (Variable id class) = puts_given
puts_take_base (Value h type) = puts_then (puts_back h type) (λ id. puts_given)

puts_reached : (emit_base : Base → Emit Base) (emit_part : Part → Emit Part) (r : Reached) → ((base : Base) → AllPut (emit_base base)) → ((part : Part) → AllPut (emit_part part)) → AllPut (in_reached emit_base emit_part r)
puts_reached emit_base emit_part r p q = puts_then (p r.base) (λ base. puts_then (puts_each emit_part r.path q) (λ path. puts_then (puts_picked emit_part r.picked q) (λ picked. puts_given)))

pub puts_hold_reached : (waits : Bool) (r : Reached) → AllPut (hold_reached waits r)
unfolding hold_reached
puts_hold_reached false r = puts_given
puts_hold_reached true r = puts_reached keep_base keep_part r puts_keep_base puts_keep_part

pub puts_fetch_reached : (waits : Bool) (r : Reached) → AllPut (fetch_reached waits r)
unfolding fetch_reached
puts_fetch_reached false r = puts_given
puts_fetch_reached true r = puts_reached take_base take_part r puts_take_base puts_take_part

-- ---- two ways that meet

puts_choosing : (end : ℕ) (operands : List ℕ) (first : ℕ) → AllPut (choosing end operands first)
puts_choosing end operands first = puts_next (puts_here _ _ refl) (puts_next (puts_here _ _ refl) (puts_opening first))

pub puts_begin_short : (which : LogicOp) (x : ℕ) → AllPut (begin_short which x)
unfolding begin_short
puts_begin_short which x = puts_then (puts_keep x) (λ h. puts_then puts_fresh (λ right. puts_then puts_fresh (λ end. puts_next (puts_choosing end _ right) puts_given)))

puts_leaving : (f : Fork) (v next : ℕ) → AllPut (leaving f v next)
puts_leaving f v next = puts_next (puts_here _ _ refl) (puts_next (puts_here _ _ refl) (puts_opening next))

pub puts_join : (t : Ty) (f : Fork) (v : ℕ) → AllPut (join t f v)
unfolding join
puts_join t f v = puts_next (puts_leaving f v f.end) (puts_then (puts_type t) (λ type. puts_back f.holder type))

pub puts_begin_choice : (x : ℕ) → AllPut (begin_choice x)
unfolding begin_choice
puts_begin_choice x = puts_then puts_holder (λ h. puts_then puts_fresh (λ first. puts_then puts_fresh (λ other. puts_then puts_fresh (λ end. puts_next (puts_choosing end _ first) puts_given))))

pub puts_other_way : (f : Fork) (v : ℕ) → AllPut (other_way f v)
unfolding other_way
puts_other_way f v = puts_leaving f v f.other
