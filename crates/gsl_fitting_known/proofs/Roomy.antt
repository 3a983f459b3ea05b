-- What stands for a type has the room that another place has for it.
use Rattle.std.proofs.Common.{◌≡◌, ℕ, ◌+◌, Bool, true, false, List, Option, Some, None, sym, ap, ◌∙◌, subst}
use Rattle.std.specs.Prelude.{slice_get}
use Rattle.gsl_types.specs.declared.ty.Member.{Member}
use Rattle.gsl_types.specs.declared.ty.StructType.{StructType}
use Rattle.gsl_types.specs.declared.ty.Ty.{Ty}
use Rattle.gsl_types.specs.declared.ty.Ty.TheOpen.{Ty-F}
use Rattle.gsl_tree.specs.Expressions.{element_kind, is_runtime_layer}
use Rattle.gsl_tree.specs.Shapes.{shape_kind}
use Rattle.gsl_spv.specs.Sections.{Sections}
use Rattle.gsl_lower_holders.specs.declared.place.FlowPlace.{FlowPlace}
use Rattle.gsl_fitting.specs.Fits.{Frame}
use Rattle.gsl_fitting_reaching.specs.Reached.{May}
use Rattle.gsl_fitting_known.specs.Lying.{LieAll, Lies}
use Rattle.gsl_fitting_known.proofs.Types.{some_is}

abbrev number_of : Ty-F Ty → ℕ
number_of (Ty-F.Struct k) = k
number_of _ = 0

abbrev is_struct : Ty-F Ty → Bool
is_struct (Ty-F.Struct k) = true
is_struct _ = false

abbrev is_fixed : Ty-F Ty → Bool
is_fixed (Ty-F.Array element n) = true
is_fixed _ = false

module _ (whole : Sections) (main : ℕ) (local_size : List ℕ) (rank : ℕ → ℕ) (f : Frame) (place : FlowPlace) (structs : List StructType) (home : Option ℕ) (may : May) (at : Option ℕ) (might : May) where
  abbrev L : ℕ → Ty → ℕ → Type 0
  L room t type = Lies whole main local_size rank f place structs home may room t type

  abbrev M : ℕ → Ty → ℕ → Type 0
  M room t type = Lies whole main local_size rank f place structs at might room t type

  abbrev AllL : ℕ → ℕ → List Member → ℕ → Type 0
  AllL room k members type = LieAll whole main local_size rank f place structs home may room k members type

  abbrev AllM : ℕ → ℕ → List Member → ℕ → Type 0
  AllM room k members type = LieAll whole main local_size rank f place structs at might room k members type

  mutual
    pub lies_roomy : (room less : ℕ) (t : Ty) (type other : ℕ) → L room t type → M less t other → L less t type
    lies_roomy _ less t type other (Lies.plain is stands) there = Lies.plain is stands
    lies_roomy _ _ t type other (Lies.array {other = inner} {n = n} {element = element} is own parts words lies) (Lies.plain {shape = shape} shaped stands) = absurd (let z : None ≡ Some shape = sym (ap shape_kind is) ∙ shaped in cc)
    lies_roomy _ _ t type other (Lies.array {room = room} {other = inner} {n = n} {element = element} is own parts words lies) (Lies.array {room = less} {other = there} {element = also} at_is at_own at_parts at_words at_lies) =
        let same : also ≡ element = some_is also element (ap element_kind (sym at_is ∙ is)) in
        Lies.array is own parts words (lies_roomy room less element inner there lies (subst (λ (u : Ty). M less u there) same at_lies))
    lies_roomy _ _ t type other (Lies.array {n = n} {element = element} is own parts words lies) (Lies.runtime {element = also} at_is at_parts at_lies) = absurd (let z : false ≡ true = ap is_runtime_layer (sym is ∙ at_is) in cc)
    lies_roomy _ _ t type other (Lies.array {n = n} {element = element} is own parts words lies) (Lies.struct {k = k} at_is found at_own at_lie) = absurd (let z : false ≡ true = ap is_struct (sym is ∙ at_is) in cc)
    lies_roomy _ _ t type other (Lies.runtime {element = element} is parts lies) (Lies.plain {shape = shape} shaped stands) = absurd (let z : None ≡ Some shape = sym (ap shape_kind is) ∙ shaped in cc)
    lies_roomy _ _ t type other (Lies.runtime {element = element} is parts lies) (Lies.array {n = n} {element = also} at_is at_own at_parts at_words at_lies) = absurd (let z : false ≡ true = ap is_fixed (sym is ∙ at_is) in cc)
    lies_roomy _ _ t type other (Lies.runtime {room = room} {other = inner} {element = element} is parts lies) (Lies.runtime {room = less} {other = there} {element = also} at_is at_parts at_lies) =
        let same : also ≡ element = some_is also element (ap element_kind (sym at_is ∙ is)) in
        Lies.runtime is parts (lies_roomy room less element inner there lies (subst (λ (u : Ty). M less u there) same at_lies))
    lies_roomy _ _ t type other (Lies.runtime {element = element} is parts lies) (Lies.struct {k = k} at_is found at_own at_lie) = absurd (let z : false ≡ true = ap is_struct (sym is ∙ at_is) in cc)
    lies_roomy _ _ t type other (Lies.struct {k = k} is found own lie) (Lies.plain {shape = shape} shaped stands) = absurd (let z : None ≡ Some shape = sym (ap shape_kind is) ∙ shaped in cc)
    lies_roomy _ _ t type other (Lies.struct {k = k} is found own lie) (Lies.array {n = n} {element = also} at_is at_own at_parts at_words at_lies) = absurd (let z : false ≡ true = ap is_fixed (sym is ∙ at_is) in cc)
    lies_roomy _ _ t type other (Lies.struct {k = k} is found own lie) (Lies.runtime {element = also} at_is at_parts at_lies) = absurd (let z : false ≡ true = ap is_runtime_layer (sym is ∙ at_is) in cc)
    lies_roomy _ _ t type other (Lies.struct {room = room} {k = k} {of = of} is found own lie) (Lies.struct {room = less} {k = also} {of = there} at_is at_found at_own at_lie) =
        let number : also ≡ k = ap number_of (sym at_is ∙ is) in
        let same : there ≡ of = some_is there of (sym at_found ∙ ap (λ x. slice_get structs x) number ∙ found) in
        Lies.struct is found own (all_roomy room less 0 of.members type other lie (subst (λ (x : StructType). AllM less 0 x.members other) same at_lie))

    all_roomy : (room less k : ℕ) (members : List Member) (type other : ℕ) → AllL room k members type → AllM less k members other → AllL less k members type
    all_roomy room less k _ type other LieAll.none there = LieAll.none
    all_roomy room less k _ type other (LieAll.more {other = inner} {member = member} {members = members} part lies rest) (LieAll.more {other = there} at_part at_lies at_rest) =
        LieAll.more part (lies_roomy room less member.ty inner there lies at_lies) (all_roomy room less (k + 1) members type other rest at_rest)
