use Rattle.std.proofs.Common.{◌≡◌, ◌∙◌, ◌∷◌, [], ◌++◌, ◌≤◌, ℕ, Ok, Err, None, Result, List, get_or, sym, ap, subst, take, length, IsTrue, arith}
use Rattle.std.specs.List.{AllByRecursion}
use Rattle.std.proofs.lemmas.Result.{err_from_is_err_and}
use Rattle.std.proofs.lemmas.List.{take_all}
use Rattle.std.proofs.lemmas.Option.{slice_get_within}
use Rattle.gsl_types.specs.declared.ty.Member.{Member}
use Rattle.gsl_types.specs.declared.ty.Ty.TheVariants as ty
use Rattle.gsl_types.specs.Known.{IsSound}
use Rattle.gsl_types.specs.Structs.{numbered}
use Rattle.gsl_types.proofs.Layers.{over_struct, sound_stays}
use Rattle.gsl_types.proofs.Sizes.{member_le, size, struct_size}
use Rattle.gsl_types.proofs.Structs.{member_sound, numbered_is}
use Rattle.gsl_layout.specs.Extents.{plain}
use Rattle.gsl_layout.specs.Gathers.{Adds, Gathers, IsShut, Measures}
use Rattle.gsl_layout.specs.Layout.{may_end}
use Rattle.gsl_layout.specs.Measures.{block, measure, measuring, misplaced_in}
use Rattle.gsl_layout.specs.Placings.{Placed, free}
use Rattle.gsl_layout.specs.Rules.{IsAlignment}
use Rattle.gsl_layout.specs.declared.gathered.Gathered.{Gathered}
use Rattle.gsl_layout.specs.declared.measured.Measured.{Measured}
use Rattle.gsl_layout.specs.declared.placing.Placing.{Placing}
use Rattle.gsl_layout.specs.declared.refusal.LayRefusal.{LayRefusal}
use Rattle.gsl_layout.proofs.Groups.{IsPlaced, aligned, meanings, member_extent, placed_of}
use Rattle.gsl_layout.proofs.Placements.{actual_least, none_misplaced, right_from}
use Rattle.gsl_layout.proofs.Refusals.{added_extent, array_extent, carried, closes_measures, closes_shut, group_layout, placed_taken, member_last, plain_members, runtime_extent, taken_all, too_far}
use Rattle.gsl_layout.proofs.measuring.+lay.Goals as goal

all_stay : (few many : ℕ) → few ≤ many → (members : List Member) → AllByRecursion (λ (member : Member). IsSound few member.ty) members → AllByRecursion (λ (member : Member). IsSound many member.ty) members
all_stay few many le [] all = tt
all_stay few many le (member ∷ members) all = (sound_stays few many le member.ty all.0, all_stay few many le members all.1)

-- what was added, by equal placings and measures
added_as : (r : Result Unit LayRefusal) (before now : Gathered) (p q : Placing) (m n : Measured) → p ≡ q → m ≡ n → Adds r before now (p, m) → Adds r before now (q, n)
added_as r before now p q m n is same adds = subst (λ y. Adds r before now (q, y)) same (subst (λ x. Adds r before now (x, m)) is adds)

pub lay_members-lay_type-requires : goal.lay_members-lay_type-requires
lay_members-lay_type-requires g t c κs within =
    let structs = c.args.structs.now in
    let members = c.args.members.now in
    let x = c.index.result.now in (
      omega (arith, member_le structs members c.loop-k.k x c.index.ensures, c.decreases),
      (
        within,
        (
          c.requires.known,
          (
            c.requires.plain,
            (member_sound (length structs) members c.requires.sound c.loop-k.k x c.index.ensures, member_last members c.loop-k.k x c.index.ensures c.requires.members),
          ),
        ),
      ),
    )

pub lay_members-returns-in_err-measured-clause-measure : goal.lay_members-returns-in_err-measured-clause-measure
lay_members-returns-in_err-measured-clause-measure g t c =
    let raise = g.R.Rules.raised c.args.rules.now in
    let raises = g.met.R.Rules.raises c.args.rules.now in
    let structs = c.args.structs.now in
    let members = c.args.members.now in
    let placings = c.args.placings.now in
    let k = c.loop-k.k in
    let x = c.index.result.now in
    let p = err_from_is_err_and c.from_residual.result c.from_residual.ensures.1 in
    let whole = block raise structs members placings in
    let right = right_from (placed_of raise raises structs members placings) [] 0 c.requires.placed in
    subst (λ r. Measures r whole) (sym (p.1 ∙ ap Err p.2))
    (carried c.in_err-measured.field-0.0 (measure raise structs x.ty) whole (member_extent raise raises structs members placings right k x c.index.ensures) c.in_err-measured.ensures.measure)

pub lay_members-add-requires-clause-align : goal.lay_members-add-requires-clause-align
lay_members-add-requires-clause-align g t c =
    subst (λ (m : Measured). IsAlignment m.align) (sym c.in_ok-measured.ensures.measure.0)
    (aligned (g.R.Rules.raised c.args.rules.now) (g.met.R.Rules.raises c.args.rules.now) c.args.structs.now c.index.result.now.ty)

pub lay_members-returns-in_err-add-clause-measure : goal.lay_members-returns-in_err-add-clause-measure
lay_members-returns-in_err-add-clause-measure g t c =
    let raise = g.R.Rules.raised c.args.rules.now in
    let raises = g.met.R.Rules.raises c.args.rules.now in
    let structs = c.args.structs.now in
    let members = c.args.members.now in
    let placings = c.args.placings.now in
    let k = c.loop-k.k in
    let x = c.index.result.now in
    let p = err_from_is_err_and c.from_residual-in_err-add.result c.from_residual-in_err-add.ensures.1 in
    let whole = block raise structs members placings in
    let right = right_from (placed_of raise raises structs members placings) [] 0 c.requires.placed in
    let member : Placed = (get_or placings k free, measure raise structs x.ty) in
    let adds : Adds (Err c.in_err-add.field-0.0) c.loop-k.gathered c.add.new.self member
    = added_as (Err c.in_err-add.field-0.0) c.loop-k.gathered c.add.new.self _ _ _ _ c.placing_at.ensures c.in_ok-measured.ensures.measure.0 c.in_err-add.ensures in
    subst (λ r. Measures r whole) (sym (p.1 ∙ ap Err p.2))
    (too_far c.in_err-add.field-0.0 c.loop-k.gathered c.add.new.self member whole (placed_of raise raises structs (take k members) placings) c.loop-k.invariant.0
    (added_extent raise raises structs members placings right k x c.index.ensures) adds)

pub lay_members-loop-k-preserved : goal.lay_members-loop-k-preserved
lay_members-loop-k-preserved g t c =
    let raise = g.R.Rules.raised c.args.rules.now in
    let raises = g.met.R.Rules.raises c.args.rules.now in
    let structs = c.args.structs.now in
    let members = c.args.members.now in
    let placings = c.args.placings.now in
    let k = c.loop-k.k in
    let x = c.index.result.now in
    let got = c.in_ok-measured.ensures in
    let member : Placed = (get_or placings k free, measure raise structs x.ty) in
    let first = placed_of raise raises structs (take k members) placings in
    let adds : Adds (Ok c.in_ok-add.field-0) c.loop-k.gathered c.add.new.self member
    = added_as (Ok c.in_ok-add.field-0) c.loop-k.gathered c.add.new.self _ _ _ _ c.placing_at.ensures got.measure.0 c.in_ok-add.ensures in
    let gathers : Gathers c.add.new.self (first ++ member ∷ []) = adds first c.loop-k.invariant.0 in
    let fits : IsPlaced raise structs x = record {
      measured = got.measure.1;
      ends = subst (λ (z : Measured). IsTrue (may_end z.laid)) got.measure.0 got.ends;
      shut = λ (is : IsTrue (plain x.ty)). subst IsShut got.measure.0 (got.shut is);
    } in (
      subst (Gathers c.add.new.self) (sym (placed_taken raise raises structs members placings k x c.index.ensures)) gathers,
      taken_all members k (IsPlaced raise structs) x c.index.ensures c.loop-k.invariant.1 fits,
      omega (arith, c.loop-k-test.true, c.len-k-end.ensures),
    )

pub lay_members-close-requires-clause-base : goal.lay_members-close-requires-clause-base
lay_members-close-requires-clause-base g t c =
    let raise = g.R.Rules.raised c.args.rules.now in
    let raises = g.met.R.Rules.raises c.args.rules.now in
    omega (arith, c.loop-k.invariant.0.align, actual_least (placed_of raise raises c.args.structs.now (take c.loop-k.k c.args.members.now) c.args.placings.now))

pub lay_members-close-requires-clause-layout : goal.lay_members-close-requires-clause-layout
lay_members-close-requires-clause-layout g t c few =
    let raise = g.R.Rules.raised c.args.rules.now in
    let raises = g.met.R.Rules.raises c.args.rules.now in
    let structs = c.args.structs.now in
    let members = c.args.members.now in
    let placings = c.args.placings.now in
    let k = c.loop-k.k in
    let all : take k members ≡ members = take_all k members (omega (arith, c.loop-k-test.false, c.len-k-end.ensures)) in
    let gathers : Gathers c.loop-k.gathered (placed_of raise raises structs members placings)
    = subst (λ ms. Gathers c.loop-k.gathered (placed_of raise raises structs ms placings)) all c.loop-k.invariant.0 in
    let fits : AllByRecursion (IsPlaced raise structs) members = subst (AllByRecursion (IsPlaced raise structs)) all c.loop-k.invariant.1 in
    let right = right_from (placed_of raise raises structs members placings) [] 0 c.requires.placed in
    group_layout raise raises structs members placings c.loop-k.gathered gathers c.requires.members fits right few

pub lay_members-returns-clause-measure : goal.lay_members-returns-clause-measure
lay_members-returns-clause-measure g t c =
    let raise = g.R.Rules.raised c.args.rules.now in
    let raises = g.met.R.Rules.raises c.args.rules.now in
    let structs = c.args.structs.now in
    let members = c.args.members.now in
    let placings = c.args.placings.now in
    let k = c.loop-k.k in
    let all : take k members ≡ members = take_all k members (omega (arith, c.loop-k-test.false, c.len-k-end.ensures)) in
    let gathers : Gathers c.loop-k.gathered (placed_of raise raises structs members placings)
    = subst (λ ms. Gathers c.loop-k.gathered (placed_of raise raises structs ms placings)) all c.loop-k.invariant.0 in
    let fits : AllByRecursion (IsPlaced raise structs) members = subst (AllByRecursion (IsPlaced raise structs)) all c.loop-k.invariant.1 in
    let right = right_from (placed_of raise raises structs members placings) [] 0 c.requires.placed in
    closes_measures raise raises structs members placings c.loop-k.gathered gathers c.requires.members fits right c.close.result c.close.ensures

pub lay_members-returns-clause-shut : goal.lay_members-returns-clause-shut
lay_members-returns-clause-shut g t c =
    let raise = g.R.Rules.raised c.args.rules.now in
    let raises = g.met.R.Rules.raises c.args.rules.now in
    let structs = c.args.structs.now in
    let members = c.args.members.now in
    let placings = c.args.placings.now in
    let k = c.loop-k.k in
    let all : take k members ≡ members = take_all k members (omega (arith, c.loop-k-test.false, c.len-k-end.ensures)) in
    let gathers : Gathers c.loop-k.gathered (placed_of raise raises structs members placings)
    = subst (λ ms. Gathers c.loop-k.gathered (placed_of raise raises structs ms placings)) all c.loop-k.invariant.0 in
    let fits : AllByRecursion (IsPlaced raise structs) members = subst (AllByRecursion (IsPlaced raise structs)) all c.loop-k.invariant.1 in
    let right = right_from (placed_of raise raises structs members placings) [] 0 c.requires.placed in
    closes_shut raise raises structs members placings c.loop-k.gathered gathers c.requires.members fits right c.close.result c.close.ensures

pub lay_type-returns-in_err-element-in-Array-clause-measure : goal.lay_type-returns-in_err-element-in-Array-clause-measure
lay_type-returns-in_err-element-in-Array-clause-measure g t c =
    let raise = g.R.Rules.raised c.args.rules.now in
    let raises = g.met.R.Rules.raises c.args.rules.now in
    let structs = c.args.structs.now in
    let p = err_from_is_err_and c.from_residual.result c.from_residual.ensures.1 in
    let e = c.in-Array.element in
    let n = c.in-Array.count in
    let refusal = c.in_err-element-in-Array.field-0.0 in
    let part : Measures (Err refusal) (measure raise structs e) = subst (λ t. Measures (Err refusal) (measure raise structs t)) c.get.ensures c.in_err-element-in-Array.ensures.measure in
    subst (λ r. Measures r (measure raise structs c.args.ty.now)) (sym (p.1 ∙ ap Err p.2))
    (subst (λ t. Measures (Err refusal) (measure raise structs t)) (sym c.in-Array.is)
    (carried refusal (measure raise structs e) (measure raise structs (ty.Array e n))
    (array_extent raise raises structs e n (subst (IsSound (length structs)) c.in-Array.is c.requires.sound)) part))

pub lay_type-array_of-requires-clause-align : goal.lay_type-array_of-requires-clause-align
lay_type-array_of-requires-clause-align g t c =
    subst (λ (m : Measured). IsAlignment m.align) (sym c.in_ok-element-in-Array.ensures.measure.0)
    (aligned (g.R.Rules.raised c.args.rules.now) (g.met.R.Rules.raises c.args.rules.now) c.args.structs.now c.get.result.now)

pub lay_type-returns-in_err-element-in-Runtime-clause-measure : goal.lay_type-returns-in_err-element-in-Runtime-clause-measure
lay_type-returns-in_err-element-in-Runtime-clause-measure g t c =
    let raise = g.R.Rules.raised c.args.rules.now in
    let raises = g.met.R.Rules.raises c.args.rules.now in
    let structs = c.args.structs.now in
    let p = err_from_is_err_and c.from_residual-in_err-element-in-Runtime.result c.from_residual-in_err-element-in-Runtime.ensures.1 in
    let e = c.in-Runtime.element in
    let refusal = c.in_err-element-in-Runtime.field-0.0 in
    let part : Measures (Err refusal) (measure raise structs e) = subst (λ t. Measures (Err refusal) (measure raise structs t)) c.get-in-Runtime.ensures c.in_err-element-in-Runtime.ensures.measure in
    subst (λ r. Measures r (measure raise structs c.args.ty.now)) (sym (p.1 ∙ ap Err p.2))
    (subst (λ t. Measures (Err refusal) (measure raise structs t)) (sym c.in-Runtime.is)
    (carried refusal (measure raise structs e) (measure raise structs (ty.Runtime e)) (runtime_extent raise raises structs e) part))

pub lay_type-array_of-requires-in-Runtime-clause-align : goal.lay_type-array_of-requires-in-Runtime-clause-align
lay_type-array_of-requires-in-Runtime-clause-align g t c =
    subst (λ (m : Measured). IsAlignment m.align) (sym c.in_ok-element-in-Runtime.ensures.measure.0)
    (aligned (g.R.Rules.raised c.args.rules.now) (g.met.R.Rules.raises c.args.rules.now) c.args.structs.now c.get-in-Runtime.result.now)

pub lay_type-lay_members-requires : goal.lay_type-lay_members-requires
lay_type-lay_members-requires g t c κs within =
    let raise = g.R.Rules.raised c.args.rules.now in
    let raises = g.met.R.Rules.raises c.args.rules.now in
    let structs = c.args.structs.now in
    let number = c.in-Struct.number in
    let struct = c.index.result.now in
    let is = c.requires.known number struct c.index.ensures in
    let below = slice_get_within structs number struct c.index.ensures in (
      omega (arith, struct_size structs c.requires.known number struct c.index.ensures, ap (size structs) c.in-Struct.is, c.decreases),
      (
        within,
        (
          c.requires.known,
          (
            c.requires.plain,
            (
              all_stay number (length structs) (omega (arith, below)) struct.members is.earlier,
              (
                plain_members struct.members is.some (c.requires.plain number struct c.index.ensures),
                subst (λ ps. misplaced_in raise structs struct.members ps ≡ None) (sym c.new-free.ensures) (none_misplaced (meanings raise raises structs struct.members) [] 0),
              ),
            ),
          ),
        ),
      ),
    )

pub lay_type-returns-in-Struct-clause-measure : goal.lay_type-returns-in-Struct-clause-measure
lay_type-returns-in-Struct-clause-measure g t c =
    let raise = g.R.Rules.raised c.args.rules.now in
    let structs = c.args.structs.now in
    let number = c.in-Struct.number in
    let struct = c.index.result.now in
    let is : measure raise structs (ty.Struct number) ≡ block raise structs struct.members []
    = over_struct (measuring raise) (numbered (measuring raise) structs) number
    ∙ numbered_is (measuring raise) structs number struct c.index.ensures (c.requires.known number struct c.index.ensures).earlier in
    subst (λ t. Measures c.lay_members.result (measure raise structs t)) (sym c.in-Struct.is) (subst (Measures c.lay_members.result) (sym is)
    (subst (λ ps. Measures c.lay_members.result (block raise structs struct.members ps)) c.new-free.ensures c.lay_members.ensures.measure))
