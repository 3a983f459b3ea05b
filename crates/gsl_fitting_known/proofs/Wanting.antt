-- What is asked for at parts in a row.
use Rattle.std.proofs.Common.{◌≡◌, Bool, true, false, List, [], ◌∷◌, ◌++◌, Option, Some, None, refl, sym, ap, ◌∙◌, subst, append_assoc, append-nil}
use Rattle.gsl_types.specs.declared.ty.Scalar.{Scalar}
use Rattle.gsl_types.specs.declared.ty.Ty.{Ty}
use Rattle.gsl_types.specs.declared.ty.Ty.TheVariants as ty
use Rattle.gsl_spv.specs.Sections.{Sections}
use Rattle.gsl_lower_holders.specs.declared.place.FlowPlace.{FlowPlace}
use Rattle.gsl_lower_needs.specs.Asking.{Ask, Asks, behind, given, need}
use Rattle.gsl_lower_needs.specs.Needs.{Asking, by_holder, hold, hold_lead, holders, index_types, of_two}
use Rattle.gsl_lower_needs.specs.declared.lead.Lead.{Lead}
use Rattle.gsl_lower_needs.specs.declared.need.Need.{Need}
use Rattle.gsl_lower_needs.specs.declared.need.Need.TheVariants.{Built, Holder, Stage}
use Rattle.gsl_tree.specs.declared.expr.StageVar.{StageVar}
use Rattle.gsl_fitting_flow.specs.Flowing.{asked_if}
use Rattle.gsl_fitting_reaching.specs.Reached.{Spot, asked_by, asked_of}
use Rattle.gsl_fitting_reads.specs.Waiting.{held_if}
use Rattle.gsl_fitting_known.specs.Ids.{Agree, Wants, holder_type, holder_types, type_for, types_for, word_of}
use Rattle.gsl_fitting_known.proofs.Types.{scalar_for}

-- ---- rows of needs

holder_types_append : (a b : List Need) → holder_types (a ++ b) ≡ holder_types a ++ holder_types b
holder_types_append [] b = refl
holder_types_append (one ∷ a) b = ap (λ l. holder_type one ++ l) (holder_types_append a b) ∙ sym (append_assoc (holder_type one) (holder_types a) (holder_types b))

pub types_append : (whole : Sections) (place : FlowPlace) (a b : List Ty) → types_for whole place (a ++ b) ≡ types_for whole place a ++ types_for whole place b
types_append whole place [] b = refl
types_append whole place (t ∷ a) b = ap (λ l. type_for whole place t ∷ l) (types_append whole place a b)

pub wants_given : {A : Type 0} (a : A) → Wants (given a) a []
wants_given a = record { needs = []; is = λ before. ap (Asks a) (sym (append-nil before)); holders = refl }

pub wants_holder : (t : Ty) → Wants (need (Holder t)) tt (t ∷ [])
wants_holder t = record { needs = Holder t ∷ []; is = λ before. refl; holders = refl }

pub wants_built : (t : Ty) → Wants (need (Built t)) tt []
wants_built t = record { needs = Built t ∷ []; is = λ before. refl; holders = refl }

pub wants_stage : (var : StageVar) → Wants (need (Stage var)) tt []
wants_stage var = record { needs = Stage var ∷ []; is = λ before. refl; holders = refl }

pub wants_then : {A B : Type 0} (first : Ask A) (next : A → Ask B) (a : A) (b : B) (ts us : List Ty) → Wants first a ts → Wants (next a) b us → Wants (λ before. behind (first before) next) b (ts ++ us)
wants_then first next a b ts us one two = record {
  needs = one.needs ++ two.needs;
  is = λ before. ap (λ x. behind x next) (one.is before) ∙ two.is (before ++ one.needs) ∙ ap (Asks b) (append_assoc before one.needs two.needs);
  holders = holder_types_append one.needs two.needs ∙ ap (λ l. l ++ holder_types two.needs) one.holders ∙ ap (λ l. ts ++ l) two.holders;
}

-- where what comes behind asks for nothing
pub wants_last : {A B : Type 0} (first : Ask A) (next : A → Ask B) (a : A) (b : B) (ts : List Ty) → Wants first a ts → Wants (next a) b [] → Wants (λ before. behind (first before) next) b ts
wants_last first next a b ts one two = subst (Wants (λ before. behind (first before) next) b) (append-nil ts) (wants_then first next a b ts [] one two)

-- ---- what waits

abbrev pub types_if : Bool → Ty → List Ty
types_if true t = t ∷ []
types_if false t = []

pub wants_hold : (b : Bool) (t : Ty) → Wants (hold b t) tt (types_if b t)
unfolding hold
wants_hold true t = wants_holder t
wants_hold false t = wants_given tt

pub if_for : (whole : Sections) (place : FlowPlace) (b : Bool) (t : Ty) → types_for whole place (types_if b t) ≡ asked_if b (type_for whole place t)
if_for whole place true t = refl
if_for whole place false t = refl

wants_holders : (ts : List Ty) → Wants (holders ts) tt ts
unfolding holders
wants_holders [] = wants_given tt
wants_holders (t ∷ ts) = wants_then (need (Holder t)) (λ done. holders ts) tt tt (t ∷ []) ts (wants_holder t) (wants_holders ts)

wants_by : (by : Option Scalar) → Wants (by_holder by) tt (index_types by)
wants_by None = wants_given tt
wants_by (Some s) = wants_holder (ty.One s)

abbrev pub lead_types : Bool → Lead → List Ty
lead_types true lead = lead.waiting ++ index_types lead.by
lead_types false lead = []

pub wants_lead : (b : Bool) (lead : Lead) → Wants (hold_lead b lead) tt (lead_types b lead)
unfolding hold_lead
wants_lead true lead = wants_then (holders lead.waiting) (λ done. by_holder lead.by) tt tt lead.waiting (index_types lead.by) (wants_holders lead.waiting) (wants_by lead.by)
wants_lead false lead = wants_given tt

by_for : (whole : Sections) (place : FlowPlace) (picked : Option (Option Scalar)) (by : Option Scalar) → word_of picked ≡ by → types_for whole place (index_types by) ≡ asked_by whole picked
by_for whole place picked by is = ap (λ o. types_for whole place (index_types o)) (sym is) ∙ known picked
  where
    known : (picked : Option (Option Scalar)) → types_for whole place (index_types (word_of picked)) ≡ asked_by whole picked
    known None = refl
    known (Some None) = refl
    known (Some (Some s)) = ap (λ x. x ∷ []) (scalar_for whole place s)

-- the holders that are asked for where a place waits are those that it takes
pub lead_for : (whole : Sections) (place : FlowPlace) (b : Bool) (spot : Spot) (lead : Lead) → Agree whole place spot lead → types_for whole place (lead_types b lead) ≡ held_if b (asked_of whole spot)
lead_for whole place true spot lead agree = types_append whole place lead.waiting (index_types lead.by) ∙ ap (λ l. l ++ types_for whole place (index_types lead.by)) (sym agree.waiting) ∙ ap (λ l. spot.held ++ l) (by_for whole place spot.picked lead.by agree.by)
lead_for whole place false spot lead agree = refl

-- ---- two operands, of which the first waits where the second has labels

pub wants_two : (a b : Asking) (ts us : List Ty) → Wants a.value tt ts → Wants b.value tt us → Wants (of_two a b) tt (ts ++ (types_if b.traits.splits a.ty ++ us))
wants_two a b ts us first second =
    wants_then a.value (λ x before. behind (hold b.traits.splits a.ty before) (λ done. b.value)) tt tt ts (types_if b.traits.splits a.ty ++ us) first
    (wants_then (hold b.traits.splits a.ty) (λ done. b.value) tt tt (types_if b.traits.splits a.ty) us (wants_hold b.traits.splits a.ty) second)

pub two_for : (whole : Sections) (place : FlowPlace) (ts : List Ty) (b : Bool) (t : Ty) (us : List Ty) → types_for whole place (ts ++ (types_if b t ++ us)) ≡ types_for whole place ts ++ (asked_if b (type_for whole place t) ++ types_for whole place us)
two_for whole place ts b t us =
    types_append whole place ts (types_if b t ++ us) ∙ ap (λ l. types_for whole place ts ++ l) (types_append whole place (types_if b t) us ∙ ap (λ l. l ++ types_for whole place us) (if_for whole place b t))
