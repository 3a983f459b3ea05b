-- Where an expression leads waits in holders that were not in use.
use Rattle.std.proofs.Common.{◌≡◌, refl, sym, ap, ◌∙◌, ℕ, ◌<◌, ◌≤◌, Bool, true, false, List, [], ◌∷◌, Option, Some, None, arith}
use Rattle.std.specs.Prelude.{slice_get}
use Rattle.std.specs.List.{AllByRecursion}
use Rattle.gsl_base.specs.declared.input.Input.{Input}
use Rattle.gsl_instr.specs.declared.op.TheConstants as op
use Rattle.gsl_words.specs.declared.module.Module.{Module}
use Rattle.gsl_tree.specs.declared.program.Program.{Program}
use Rattle.gsl_meaning.specs.Running.{Ran}
use Rattle.gsl_meaning.specs.State as shader
use Rattle.gsl_machine.specs.State.{State}
use Rattle.gsl_spv.specs.Sections.{Sections}
use Rattle.gsl_lower_places.specs.declared.reached.Base.{Base}
use Rattle.gsl_lower_places.specs.declared.reached.Base.TheVariants.{Variable, Value as Loose}
use Rattle.gsl_lower_places.specs.declared.reached.Part.{Part}
use Rattle.gsl_lower_places.specs.declared.reached.Part.TheVariants.{Fixed, By}
use Rattle.gsl_lower_places.specs.declared.reached.Picked.{Picked}
use Rattle.gsl_lower_places.specs.declared.reached.Reached.{Reached}
use Rattle.gsl_lower_holders.specs.Flow.{Emit, Flow, Gives, Lacks, Lowered, behind, each, given, putting_here, ◌>>=◌}
use Rattle.gsl_lower_holders.specs.Waiting.{hold_reached, holder, holder_at, in_picked, in_reached, keep, keep_base, keep_part, picked_by}
use Rattle.gsl_lower_follows.specs.Frames.{Frame}
use Rattle.gsl_lower_follows.specs.Giving.{Does}
use Rattle.gsl_lower_follows.proofs.Behind.{follows_so}

-- ---- the ids of the numbers in what was reached

module _ (Is : ℕ → Type 0) where
  abbrev pub PartIs : Part → Type 0
  PartIs (Fixed number) = Unit {0}
  PartIs (By s id) = Is id

  abbrev pub PartIf : Option Part → Type 0
  PartIf None = Unit {0}
  PartIf (Some part) = PartIs part

  abbrev pub PickedIf : Option Picked → Type 0
  PickedIf None = Unit {0}
  PickedIf (Some p) = PartIf p.by

  pub record AreIds (r : Reached) : Type 0 where
    pub parts : AllByRecursion PartIs r.path
    pub picked : PickedIf r.picked

pub ids_any : (r : Reached) → AreIds (λ id. Unit {0}) r
ids_any r = record { parts = all r.path; picked = picked r.picked }
  where
    part : (one : Part) → PartIs (λ id. Unit {0}) one
    part (Fixed number) = tt
    part (By s id) = tt

    all : (parts : List Part) → AllByRecursion (PartIs (λ id. Unit {0})) parts
    all [] = tt
    all (one ∷ parts) = (part one, all parts)

    by : (o : Option Part) → PartIf (λ id. Unit {0}) o
    by None = tt
    by (Some one) = part one

    picked : (o : Option Picked) → PickedIf (λ id. Unit {0}) o
    picked None = tt
    picked (Some p) = by p.by

-- an id is that of a holder of a list, from one number on to another
abbrev pub IdWithin : List ℕ → ℕ → ℕ → ℕ → Type 0
IdWithin holders low high id = (k : ℕ) × (low ≤ k) × (k < high) × (slice_get holders k ≡ Some id)

-- ---- what was lowered

-- what was given is so, where anything was
abbrev pub OnGives : {A : Type 0} → (A → Flow → Type 0) → Lowered A → Type 0
OnGives Is (Gives a later) = Is a later
OnGives Is Lacks = Unit {0}

-- from a flow with these holders on, more are in use
abbrev Used : List ℕ → ℕ → Flow → Type 0
Used holders low later = (later.place.holders ≡ holders) × (low ≤ later.place.used)

gives_then : {A B : Type 0} (First : A → Flow → Type 0) (Is : B → Flow → Type 0) (first : Lowered A) (next : A → Emit B) → OnGives First first → ((a : A) (between : Flow) → First a between → OnGives Is (next a between)) → OnGives Is (behind first next)
gives_then First Is Lacks next one more = tt
gives_then First Is (Gives a between) next one more = more a between one

module _ (holders : List ℕ) (low : ℕ) where
  abbrev Within : ℕ → ℕ → Type 0
  Within = IdWithin holders low

  abbrev IsKept : ℕ → Flow → Type 0
  IsKept h later = Used holders low later × Within later.place.used h

  kept : (value : ℕ) (b : Flow) → Used holders low b → OnGives IsKept (keep value b)
  unfolding keep holder
  kept value b used = by (slice_get b.place.holders b.place.used) refl
    where
      by : (o : Option ℕ) → slice_get b.place.holders b.place.used ≡ o → OnGives IsKept (behind (holder_at o b) (λ h. putting_here op.STORE (h ∷ value ∷ []) >>= (λ done. given h)))
      by None e = tt
      by (Some h) e = let more = used.1 in ((used.0, omega (arith, more)), (b.place.used, more, omega arith, ap (λ l. slice_get l b.place.used) (sym used.0) ∙ e))

  within_more : (high more : ℕ) (id : ℕ) → high ≤ more → Within high id → Within more id
  within_more high more id less (k, from, to, there) = (k, from, omega (arith, to, less), there)

  part_more : (high more : ℕ) (part : Part) → high ≤ more → PartIs (Within high) part → PartIs (Within more) part
  part_more high more (Fixed number) less is = tt
  part_more high more (By s id) less is = within_more high more id less is

  abbrev IsPart : Flow → Part → Flow → Type 0
  IsPart b part later = Used holders low later × (b.place.used ≤ later.place.used) × PartIs (Within later.place.used) part

  -- a holder more is in use behind one that was kept
  kept_more : (value : ℕ) (b : Flow) → OnGives (λ (h : ℕ) later. b.place.used ≤ later.place.used) (keep value b)
  unfolding keep holder
  kept_more value b = by (slice_get b.place.holders b.place.used)
    where
      by : (o : Option ℕ) → OnGives (λ (h : ℕ) later. b.place.used ≤ later.place.used) (behind (holder_at o b) (λ h. putting_here op.STORE (h ∷ value ∷ []) >>= (λ done. given h)))
      by None = tt
      by (Some h) = omega arith

  both : {A : Type 0} (First Second : A → Flow → Type 0) (low : Lowered A) → OnGives First low → OnGives Second low → OnGives (λ a later. First a later × Second a later) low
  both First Second Lacks one two = tt
  both First Second (Gives a later) one two = (one, two)

  kept_part : (part : Part) (b : Flow) → Used holders low b → OnGives (IsPart b) (keep_part part b)
  kept_part (Fixed number) b used = (used, omega arith, tt)
  kept_part (By s id) b used =
      gives_then (λ h later. IsKept h later × (b.place.used ≤ later.place.used)) (IsPart b) (keep id b) (λ h. given (By s h)) (both IsKept (λ h later. b.place.used ≤ later.place.used) (keep id b) (kept id b used) (kept_more id b)) (λ h between is. (is.0.0, is.1, is.0.1))

  abbrev AreParts : Flow → List Part → Flow → Type 0
  AreParts b parts later = Used holders low later × (b.place.used ≤ later.place.used) × AllByRecursion (PartIs (Within later.place.used)) parts

  kept_parts : (parts : List Part) (b : Flow) → Used holders low b → OnGives (AreParts b) (each keep_part parts b)
  unfolding each
  kept_parts [] b used = (used, omega arith, tt)
  kept_parts (part ∷ parts) b used =
      gives_then (IsPart b) (AreParts b) (keep_part part b) (λ one. each keep_part parts >>= (λ more. given (one ∷ more))) (kept_part part b used)
      (λ one between first. gives_then (AreParts between) (AreParts b) (each keep_part parts between) (λ more. given (one ∷ more)) (kept_parts parts between first.0)
      (λ more later rest. let a = first.1 in let c = rest.1 in (rest.0, omega (arith, a, c), (part_more between.place.used later.place.used one c first.2, rest.2))))

  abbrev IsPicked : Flow → Option Picked → Flow → Type 0
  IsPicked b picked later = Used holders low later × (b.place.used ≤ later.place.used) × PickedIf (Within later.place.used) picked

  abbrev IsIf : Flow → Option Part → Flow → Type 0
  IsIf b part later = Used holders low later × (b.place.used ≤ later.place.used) × PartIf (Within later.place.used) part

  kept_if : (o : Option Part) (b : Flow) → Used holders low b → OnGives (IsIf b) (picked_by keep_part o b)
  kept_if None b used = (used, omega arith, tt)
  kept_if (Some part) b used = gives_then (IsPart b) (IsIf b) (keep_part part b) (λ one. given (Some one)) (kept_part part b used) (λ one later is. is)

  kept_picked : (o : Option Picked) (b : Flow) → Used holders low b → OnGives (IsPicked b) (in_picked keep_part o b)
  kept_picked None b used = (used, omega arith, tt)
  kept_picked (Some p) b used = gives_then (IsIf b) (IsPicked b) (picked_by keep_part p.by b) (λ by. given (Some (record p { by = by }))) (kept_if p.by b used) (λ by later is. is)

  abbrev IsBase : Flow → Base → Flow → Type 0
  IsBase b base later = Used holders low later × (b.place.used ≤ later.place.used)

  kept_base : (base : Base) (b : Flow) → Used holders low b → OnGives (IsBase b) (keep_base base b)
  kept_base (Variable id class) b used = (used, omega arith)
  kept_base (Loose id type) b used =
      gives_then (λ h later. IsKept h later × (b.place.used ≤ later.place.used)) (IsBase b) (keep id b) (λ h. given (Loose h type)) (both IsKept (λ h later. b.place.used ≤ later.place.used) (keep id b) (kept id b used) (kept_more id b)) (λ h between is. (is.0.0, is.1))

  kept_all : (r : Reached) (b : Flow) → Used holders low b → OnGives (λ kept later. AreIds (Within later.place.used) kept) (in_reached keep_base keep_part r b)
  kept_all r b used =
      gives_then (IsBase b) (λ kept later. AreIds (Within later.place.used) kept) (keep_base r.base b) (λ base. each keep_part r.path >>= (λ path. in_picked keep_part r.picked >>= (λ picked. given (record { base = base; path = path; picked = picked })))) (kept_base r.base b used)
      (λ base b1 one.
      gives_then (AreParts b1) (λ kept later. AreIds (Within later.place.used) kept) (each keep_part r.path b1) (λ path. in_picked keep_part r.picked >>= (λ picked. given (record { base = base; path = path; picked = picked }))) (kept_parts r.path b1 one.0)
      (λ path b2 two.
      gives_then (IsPicked b2) (λ kept later. AreIds (Within later.place.used) kept) (in_picked keep_part r.picked b2) (λ picked. given (record { base = base; path = path; picked = picked })) (kept_picked r.picked b2 two.0)
      (λ picked b3 three. record { parts = all_more b2.place.used b3.place.used path three.1 two.2; picked = three.2 })))
    where
      all_more : (high more : ℕ) (parts : List Part) → high ≤ more → AllByRecursion (PartIs (Within high)) parts → AllByRecursion (PartIs (Within more)) parts
      all_more high more [] less is = tt
      all_more high more (part ∷ parts) less is = (part_more high more part less is.0, all_more high more parts less is.1)

-- holders of a flow, from those in use on
abbrev pub FreshBy : Bool → List ℕ → ℕ → ℕ → ℕ → Type 0
FreshBy false holders low high id = Unit {0}
FreshBy true holders low high id = IdWithin holders low high id

pub held_fresh : (waits : Bool) (r : Reached) (b : Flow) → OnGives (λ kept later. AreIds (FreshBy waits b.place.holders b.place.used later.place.used) kept) (hold_reached waits r b)
unfolding hold_reached
held_fresh false r b = ids_any r
held_fresh true r b = kept_all b.place.holders b.place.used r b (refl, omega arith)

-- what is so of what was lowered, beside what is done
pub does_with : {A R : Type 0} (m : Module) (input : Input) (whole : Sections) (f : Frame m input whole) (p : Program) (units : ℕ) (state : State) (Is : A → Flow → Type 0) (First Then : A → Flow → R → shader.State → State → Type 0) (Waits : A → Flow → shader.State → State → Type 0) (ran : Ran R) (low : Lowered A) → OnGives Is low
    → ((a : A) (later : Flow) (r : R) (s : shader.State) (last : State) → Is a later → First a later r s last → Then a later r s last) → Does m input whole f p 0 units state First Waits ran low → Does m input whole f p 0 units state Then Waits ran low
does_with m input whole f p units state Is First Then Waits ran Lacks is so does = tt
does_with m input whole f p units state Is First Then Waits ran (Gives a later) is so does = λ inside. follows_so m input p 0 units state (First a later) (Then a later) (Waits a later) ran (λ r s last x. so a later r s last is x) (does inside)
