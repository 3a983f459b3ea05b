-- Labels that are owed, and the code that puts them.
use Rattle.std.proofs.Common.{◌≡◌, ℕ, ◌+◌, ◌≤◌, Bool, true, false, List, [], ◌∷◌, ◌++◌, None, refl, sym, ap, ◌∙◌, subst, append_assoc, suc, zero, arith}
use Rattle.std.specs.Prelude.{◌==◌}
use Rattle.std.specs.List.{AllByRecursion, Contains}
use Rattle.std.proofs.lemmas.Bool.{or_from, or_parts}
use Rattle.std.proofs.lemmas.List.Elements.{Contains-append_left, Contains-append_right}
use Rattle.gsl_instr.specs.Forms.{form_of}
use Rattle.gsl_instr.specs.declared.op.TheConstants as op
use Rattle.gsl_words.specs.declared.module.Module.{Module}
use Rattle.gsl_valid.specs.EntryRules.{is_among}
use Rattle.gsl_valid.specs.Ids.{is_id, result}
use Rattle.gsl_valid.specs.Instruction.{read}
use Rattle.gsl_valid.specs.Kinds.{kind}
use Rattle.gsl_valid.specs.Placed.{Code}
use Rattle.gsl_spv.specs.Calls as call
use Rattle.gsl_spv.specs.Declarations.{instr}
use Rattle.gsl_spv.specs.Growing.{Extends, all_of}
use Rattle.gsl_spv.specs.Sections.{Sections}
use Rattle.gsl_spv.proofs.Contained.{first_in}
use Rattle.gsl_spv.proofs.Extending.{extends_same, extends_then}
use Rattle.gsl_lower_law.proofs.Adding.{extends_put}
use Rattle.gsl_lower_holders.specs.Flow.{Flow}
use Rattle.gsl_fitting.specs.Fits.{At, Fits, Frame, begins, is_mark}
use Rattle.gsl_fitting_sections.specs.Sections.{AreApart, count_of, one_if}
use Rattle.gsl_fitting_steps.specs.Keeping.{Fine, IsOwed}
use Rattle.gsl_fitting_steps.proofs.Counting.{apart_owed, apart_same, apart_wider}
use Rattle.gsl_fitting_steps.proofs.Giving.{put_count}
use Rattle.gsl_fitting_types.specs.Making.{AreSorted, Stays, made}
use Rattle.gsl_fitting_types.proofs.Knowing.{put_is}
use Rattle.gsl_fitting_flow.specs.Flowing.{Crosses, FlowStays}

abbrev pub AreOwed : Sections → List ℕ → Type 0
AreOwed s ids = AllByRecursion (IsOwed s) ids

-- From one builder to the next ids were defined that were owed, and new ones.
pub record Link (used : List ℕ) (a b : Sections) : Type 0 where
  pub extends : Extends a b
  pub sorted : AreOwed a used → AreSorted a → AreSorted b
  pub anew : (id : ℕ) → id ≤ a.last → is_among used id ≡ false → count_of id (all_of b) ≡ count_of id (all_of a)

-- And this code was put.
pub record Bridge (m : Module) (code : Code) (used : List ℕ) (a b : Sections) : Type 0 where
  pub link : Link used a b
  pub puts : b.functions ≡ a.functions ++ code
  pub fine : AreOwed a used → Fine m a → Fine m b

-- an id that is owed and is not used is owed still
owed_on : (used : List ℕ) (a b : Sections) (id : ℕ) → Link used a b → is_among used id ≡ false → IsOwed a id → IsOwed b id
owed_on used a b id x other o = record {
  least = o.least;
  taken = let low = o.taken in let more = x.extends.last in omega (arith, low, more);
  none = x.anew id o.taken other ∙ o.none;
}

all_on : (used : List ℕ) (a b : Sections) (ids : List ℕ) → Link used a b → AllByRecursion (λ id. is_among used id ≡ false) ids → AreOwed a ids → AreOwed b ids
all_on used a b [] x others o = tt
all_on used a b (id ∷ ids) x others o = (owed_on used a b id x others.0 o.0, all_on used a b ids x others.1 o.1)

front_owed : (s : Sections) (ids more : List ℕ) → AreOwed s (ids ++ more) → AreOwed s ids
front_owed s [] more o = tt
front_owed s (id ∷ ids) more o = (o.0, front_owed s ids more o.1)

back_owed : (s : Sections) (ids more : List ℕ) → AreOwed s (ids ++ more) → AreOwed s more
back_owed s [] more o = o
back_owed s (id ∷ ids) more o = back_owed s ids more o.1

among_parts : (ids more : List ℕ) (id : ℕ) → is_among (ids ++ more) id ≡ false → (is_among ids id ≡ false) × (is_among more id ≡ false)
among_parts [] more id h = (refl, h)
among_parts (first ∷ ids) more id h =
    let parts = or_parts (first == id) (is_among (ids ++ more) id) h in
    let rest = among_parts ids more id parts.1 in
    (or_from (first == id) (is_among ids id) parts.0 rest.0, rest.1)

pub link_then : (used more : List ℕ) (a b c : Sections) → AllByRecursion (λ id. is_among used id ≡ false) more → Link used a b → Link more b c → Link (used ++ more) a c
link_then used more a b c others x y = record {
  extends = extends_then x.extends y.extends;
  sorted = λ o h. y.sorted (all_on used a b more x others (back_owed a used more o)) (x.sorted (front_owed a used more o) h);
  anew = λ id low other.
      let parts = among_parts used more id other in
      y.anew id (let e = x.extends.last in omega (arith, low, e)) parts.1 ∙ x.anew id low parts.0;
}

pub bridge_then : (m : Module) (first second : Code) (used more : List ℕ) (a b c : Sections) → AllByRecursion (λ id. is_among used id ≡ false) more → Bridge m first used a b → Bridge m second more b c → Bridge m (first ++ second) (used ++ more) a c
bridge_then m first second used more a b c others x y = record {
  link = link_then used more a b c others x.link y.link;
  puts = y.puts ∙ ap (λ l. l ++ second) x.puts ∙ append_assoc a.functions first second;
  fine = λ o h. y.fine (all_on used a b more x.link others (back_owed a used more o)) (x.fine (front_owed a used more o) h);
}

-- ---- pieces

-- an instruction is put that defines nothing
pub put_bridge : (m : Module) (code : ℕ) (args : List ℕ) (s : Sections) → result (read (instr code args)) ≡ None → Bridge m (instr code args ∷ []) [] s (call.put code args s)
put_bridge m code args s none = record {
  link = record {
    extends = extends_put code args s;
    sorted = λ o h. record { set = h.set; imports = h.imports; names = h.names; decorations = h.decorations; globals = h.globals; apart = apart_same (s.last + 1) (all_of s) (all_of (call.put code args s)) same h.apart };
    anew = λ id low other. same id;
  };
  puts = refl;
  fine = λ o h. record { set = h.set; imports = h.imports; names = h.names; decorations = h.decorations; globals = h.globals; apart = apart_same (s.last + 1) (all_of s) (all_of (call.put code args s)) same h.apart };
}
  where
    same : (id : ℕ) → count_of id (all_of (call.put code args s)) ≡ count_of id (all_of s)
    same id = let e = put_count s (instr code args) id in let z : one_if (is_id id (result (read (instr code args)))) ≡ 0 = ap (λ o. one_if (is_id id o)) none in omega (arith, e, z)

-- a label is put that was owed
pub label_bridge : (m : Module) (label : ℕ) (s : Sections) → Bridge m (instr op.LABEL (label ∷ []) ∷ []) (label ∷ []) s (call.put op.LABEL (label ∷ []) s)
unfolding form_of
label_bridge m label s = record {
  link = record {
    extends = extends_put op.LABEL (label ∷ []) s;
    sorted = λ o h. record { set = h.set; imports = h.imports; names = h.names; decorations = h.decorations; globals = h.globals; apart = apart o.0 h.apart };
    anew = λ id low other. let e = one id in let z = no_more id (or_parts (label == id) false other).0 in omega (arith, e, z);
  };
  puts = refl;
  fine = λ o h. record { set = h.set; imports = h.imports; names = h.names; decorations = h.decorations; globals = h.globals; apart = apart o.0 h.apart };
}
  where
    one : (id : ℕ) → count_of id (all_of (call.put op.LABEL (label ∷ []) s)) ≡ count_of id (all_of s) + one_if (label == id)
    one id = put_count s (instr op.LABEL (label ∷ [])) id

    no_more : (id : ℕ) → (label == id) ≡ false → one_if (label == id) ≡ 0
    no_more id e = ap one_if e

    apart : IsOwed s label → AreApart (s.last + 1) (all_of s) → AreApart (s.last + 1) (all_of (call.put op.LABEL (label ∷ []) s))
    apart o h = apart_owed (s.last + 1) (all_of s) (all_of (call.put op.LABEL (label ∷ []) s)) label o.least (let low = o.taken in omega (arith, low)) o.none one h

-- what a part of lowering puts
pub part_link : (a b : Sections) → Stays a b → Link [] a b
part_link a b stays = record { extends = stays.extends; sorted = λ o h. stays.sorted h; anew = λ id low other. stays.anew id low }

pub part_bridge : (m : Module) (rank : ℕ → ℕ) (f : Frame) (deep : ℕ) (splits : Bool) (given now : List ℕ) (a b : Flow) → FlowStays a b → (x : Crosses m rank f deep splits given now a b) → Bridge m x.code [] a.sections b.sections
part_bridge m rank f deep splits given now a b stays x = record { link = part_link a.sections b.sections stays.sections; puts = x.puts; fine = λ o h. x.fine h }

-- ---- ids that are taken are owed

none_count : (n : ℕ) (code : Code) (bound id : ℕ) → count_of id code ≡ n → AreApart bound code → bound ≤ id → n ≡ 0
none_count zero code bound id e h le = refl
none_count (suc n) code bound id e h le = let low = h.below id (let z : count_of id code ≡ suc n = e in omega (arith, z)) in absurd (omega (arith, low, le))

-- so many more ids were taken
pub taken_owed : (s : Sections) (id last : ℕ) → AreApart (s.last + 1) (all_of s) → s.last + 1 ≤ id → id ≤ last → IsOwed (record s { last = last }) id
taken_owed s id last h least most = record { least = omega (arith, least); taken = most; none = none_count (count_of id (all_of s)) (all_of s) (s.last + 1) id refl h least }

-- all of it together, from where the ids were taken
pub stays_all : (used : List ℕ) (s b : Sections) (last : ℕ) → s.last ≤ last → Link used (record s { last = last }) b → (AreApart (s.last + 1) (all_of s) → AreOwed (record s { last = last }) used) → ((id : ℕ) → id ≤ s.last → is_among used id ≡ false) → Stays s b
stays_all used s b last more x owed others = record {
  extends = extends_then wide x.extends;
  sorted = λ h. x.sorted (owed h.apart) (record { set = h.set; imports = h.imports; names = h.names; decorations = h.decorations; globals = h.globals; apart = apart_wider (s.last + 1) (last + 1) (all_of s) (omega (arith, more)) h.apart });
  anew = λ id low. x.anew id (omega (arith, low, more)) (others id low);
}
  where
    wide : Extends s (record s { last = last })
    wide = record { stage = refl; target = refl; imports = (extends_same s).imports; names = (extends_same s).names; decorations = (extends_same s).decorations; globals = (extends_same s).globals; functions = (extends_same s).functions; last = more; wanting = λ h. h }

pub fine_all : (m : Module) (code : Code) (used : List ℕ) (s b : Sections) (last : ℕ) → s.last ≤ last → Bridge m code used (record s { last = last }) b → (AreApart (s.last + 1) (all_of s) → AreOwed (record s { last = last }) used) → Fine m s → Fine m b
fine_all m code used s b last more x owed h = x.fine (owed h.apart) (record { set = h.set; imports = h.imports; names = h.names; decorations = h.decorations; globals = h.globals; apart = apart_wider (s.last + 1) (last + 1) (all_of s) (omega (arith, more)) h.apart })

-- ---- labels are marks

pub label_marks : (whole : Sections) (main : ℕ) (local_size : List ℕ) (rank : ℕ → ℕ) (f : Frame) → AreSorted whole → (label : ℕ) (s : Sections) → Extends (call.put op.LABEL (label ∷ []) s) whole → is_mark (made whole main local_size rank f) label ≡ true
unfolding form_of
label_marks whole main local_size rank f sorted label s inside =
    let i = instr op.LABEL (label ∷ []) in
    let there : Contains whole.functions i = subst (λ l. Contains l i) (sym inside.functions.is) (Contains-append_left (s.functions ++ i ∷ []) inside.functions.more i (Contains-append_right s.functions (i ∷ []) i (first_in i []))) in
    ap (λ o. begins (kind o)) (put_is whole main local_size sorted i label there refl)

-- ---- code that leads from one place to another

module _ (m : Module) (rank : ℕ → ℕ) (f : Frame) where
  abbrev pub FromTo : Code → At → At → Type 0
  FromTo code from to = (follows : Code) → Fits m rank f follows to → Fits m rank f (code ++ follows) from

  pub from_then : (first second : Code) (a b c : At) → FromTo first a b → FromTo second b c → FromTo (first ++ second) a c
  from_then first second a b c x y = λ follows h. subst (λ code. Fits m rank f code a) (sym (append_assoc first second follows)) (x (second ++ follows) (y follows h))
