use Rattle.std.proofs.Common.{◌≡◌, ◌<◌, ℕ, refl, sym, ap, ◌∙◌, IsTrue, false, arith, List, subst, length, drop}
use Rattle.std.proofs.lemmas.Bool.{true≢false}
use Rattle.std.proofs.lemmas.List.{drop_all}
use Rattle.gsl_types.specs.Known.{IsSound}
use Rattle.gsl_types.specs.Spelling.{spelled, spelling}
use Rattle.gsl_types.specs.Structs.{numbered}
use Rattle.gsl_types.specs.declared.ty.Ty.{Ty}
use Rattle.gsl_types.specs.declared.ty.Ty.TheVariants as ty
use Rattle.gsl_types.specs.declared.ty.StructType.{StructType}
use Rattle.gsl_types.proofs.Layers.{over_void, over_one, over_vector, over_array, over_runtime, sound_stays}
use Rattle.gsl_types.proofs.Structs.{member_sound}
use Rattle.gsl_types.proofs.Sizes.{member_smaller}
use Rattle.gsl_types.proofs.Shapes.{void, one, vector, array, runtime, struct, kind_of, of_kind, struct_kind}
use Rattle.gsl_types.proofs.Chains.{chain, names_equal, names_differ, count_alike, step_on, names_alike, types_alike, rest_alike, structs_alike, struct_names, struct_members}
use Rattle.gsl_types.proofs.queries.+same.Goals as goal
use Rattle.gsl_types.proofs.queries.+same.Goals.{same_structs-then-ne-via-then-ne, same_structs-then-ne-via-else-ne+then-len, same_structs-then-ne-2-via-then-ne-2, same_structs-then-ne-2-via-else-ne-2+then-not-same}

never : {X : Type 0} → IsTrue false → X
never false_is = let absent : ⊥ = true≢false (sym false_is) in elim absent [ ]

pub same-returns-in_default : goal.same-returns-in_default
same-returns-in_default t c =
    let structs = c.args.structs.now in (
      never,
      λ alike.
          let has = of_kind structs c.requires.known void c.args.a.now c.args.b.now c.requires.second (ap kind_of (ap (spelled structs) c.in_default.is-0 ∙ over_void spelling (numbered spelling structs))) alike in
          let no : ⊥ = c.in_default.not-Void-1 has in elim no [ ],
    )

pub same-returns-in_default-2 : goal.same-returns-in_default-2
same-returns-in_default-2 t c =
    let structs = c.args.structs.now in (
      never,
      λ alike.
          let has = of_kind structs c.requires.known one c.args.a.now c.args.b.now c.requires.second (ap kind_of (ap (spelled structs) c.in_default.is-0 ∙ over_one spelling (numbered spelling structs) c.in_default.field-0-0)) alike in
          let no : ⊥ = c.in_default.not-One-1 has.0 has.1 in elim no [ ],
    )

pub same-returns-in_default-3 : goal.same-returns-in_default-3
same-returns-in_default-3 t c =
    let structs = c.args.structs.now in (
      never,
      λ alike.
          let has = of_kind structs c.requires.known vector c.args.a.now c.args.b.now c.requires.second (ap kind_of (ap (spelled structs) c.in_default.is-0 ∙ over_vector spelling (numbered spelling structs) c.in_default.field-0-0 c.in_default.field-1-0)) alike in
          let no : ⊥ = c.in_default.not-Vector-1 has.0 has.1 has.2 in elim no [ ],
    )

pub same-returns-in_default-4 : goal.same-returns-in_default-4
same-returns-in_default-4 t c =
    let structs = c.args.structs.now in (
      never,
      λ alike.
          let has = of_kind structs c.requires.known array c.args.a.now c.args.b.now c.requires.second (ap kind_of (ap (spelled structs) c.in_default.is-0 ∙ over_array spelling (numbered spelling structs) c.in_default.field-0-0 c.in_default.field-1-0)) alike in
          let no : ⊥ = c.in_default.not-Array-1 has.0 has.1 has.2 in elim no [ ],
    )

pub same-returns-in_default-5 : goal.same-returns-in_default-5
same-returns-in_default-5 t c =
    let structs = c.args.structs.now in (
      never,
      λ alike.
          let has = of_kind structs c.requires.known runtime c.args.a.now c.args.b.now c.requires.second (ap kind_of (ap (spelled structs) c.in_default.is-0 ∙ over_runtime spelling (numbered spelling structs) c.in_default.field-0-0)) alike in
          let no : ⊥ = c.in_default.not-Runtime-1 has.0 has.1 in elim no [ ],
    )

pub same-returns-in_default-6 : goal.same-returns-in_default-6
same-returns-in_default-6 t c =
    let structs = c.args.structs.now in (
      never,
      λ alike.
          let has = of_kind structs c.requires.known struct c.args.a.now c.args.b.now c.requires.second (ap kind_of (ap (spelled structs) c.in_default.is-0) ∙ struct_kind structs c.requires.known c.in_default.field-0-0 (subst (IsSound (length structs)) c.in_default.is-0 c.requires.first)) alike in
          let no : ⊥ = c.in_default.not-Struct-1 has.0 has.1 in elim no [ ],
    )

abbrev Apart : List StructType → ℕ → ℕ → Type 0
Apart structs i j = spelled structs (ty.Struct i) ≡ spelled structs (ty.Struct j) → IsTrue false

pub same_structs-returns-then-ne : goal.same_structs-returns-then-ne
same_structs-returns-then-ne t c =
    let structs = c.args.structs.now in
    let a = c.index-a.result.now in
    let b = c.index-b.result.now in
    let names = struct_names structs c.requires.known c.args.i c.args.j a b c.index-a.ensures c.index-b.ensures in
    let members = struct_members structs c.requires.known c.args.i c.args.j a b c.index-a.ensures c.index-b.ensures in
    elim c.then-ne.branch [
      | same_structs-then-ne-via-then-ne w ↦ (never, λ alike. let no : ⊥ = names_differ a.name b.name w.if-ne.ensures (names alike) in elim no [ ])
      | same_structs-then-ne-via-else-ne+then-len w ↦ (
        never,
        λ alike.
            let no : ⊥ = w.if-len.true (w.len.ensures ∙ count_alike structs a.members b.members (members alike) ∙ sym w.len-else-ne.ensures) in elim no [ ],
      )
    ]

pub same_structs-same-requires : goal.same_structs-same-requires
same_structs-same-requires t c =
    let structs = c.args.structs.now in
    let a = c.index-a.result.now in
    let b = c.index-b.result.now in
    let of = λ (count : ℕ) (below : count < length structs) (ty : Ty) (sound : IsSound count ty). sound_stays count (length structs) (omega (arith, below)) ty sound in (
      omega (arith, member_smaller structs c.requires.known c.args.i a c.index-a.ensures c.loop-k.k c.index-x.result.now c.index-x.ensures, c.decreases),
      (
        c.requires.known,
        (
          of c.args.i c.requires.first c.index-x.result.now.ty (member_sound c.args.i a.members (c.requires.known c.args.i a c.index-a.ensures).earlier c.loop-k.k c.index-x.result.now c.index-x.ensures),
          of c.args.j c.requires.second c.index-y.result.now.ty (member_sound c.args.j b.members (c.requires.known c.args.j b c.index-b.ensures).earlier c.loop-k.k c.index-y.result.now c.index-y.ensures),
        ),
      ),
    )

pub same_structs-returns-then-ne-2 : goal.same_structs-returns-then-ne-2
same_structs-returns-then-ne-2 t c =
    let structs = c.args.structs.now in
    let a = c.index-a.result.now in
    let b = c.index-b.result.now in
    let x = c.index-x.result.now in
    let y = c.index-y.result.now in
    let rest : spelled structs (ty.Struct c.args.i) ≡ spelled structs (ty.Struct c.args.j) → chain structs (drop c.loop-k.k a.members) ≡ chain structs (drop c.loop-k.k b.members)
    = λ alike. c.loop-k.invariant.0 (struct_members structs c.requires.known c.args.i c.args.j a b c.index-a.ensures c.index-b.ensures alike) in
    elim c.then-ne-2.branch [
      | same_structs-then-ne-2-via-then-ne-2 w ↦ (
        never,
        λ alike.
            let no : ⊥ = names_differ x.name y.name w.if-ne-2.ensures (names_alike structs a.members b.members c.loop-k.k x y c.index-x.ensures c.index-y.ensures (rest alike)) in elim no [ ],
      )
      | same_structs-then-ne-2-via-else-ne-2+then-not-same w ↦ (
        never,
        λ alike.
            w.if-not-same.ensures.1 (types_alike structs a.members b.members c.loop-k.k x y c.index-x.ensures c.index-y.ensures (rest alike)),
      )
    ]

pub same_structs-loop-k-preserved : goal.same_structs-loop-k-preserved
same_structs-loop-k-preserved t c =
    let structs = c.args.structs.now in
    let a = c.index-a.result.now in
    let b = c.index-b.result.now in
    let x = c.index-x.result.now in
    let y = c.index-y.result.now in
    let k = c.loop-k.k in (
      λ alike. rest_alike structs a.members b.members k x y c.index-x.ensures c.index-y.ensures (c.loop-k.invariant.0 alike),
      λ rest. c.loop-k.invariant.1 (step_on structs a.members b.members k x y c.index-x.ensures c.index-y.ensures
          (names_equal x.name y.name c.if-ne-2.ensures) (c.if-not-same.ensures.0 refl) rest),
    )

pub same_structs-returns : goal.same_structs-returns
same_structs-returns t c =
    let structs = c.args.structs.now in
    let a = c.index-a.result.now in
    let b = c.index-b.result.now in
    let k = c.loop-k.k in
    let none_a = drop_all k a.members (omega (arith, c.len-k-end.ensures, c.loop-k-test.false)) in
    let none_b = drop_all k b.members (omega (arith, c.len-k-end.ensures, c.loop-k-test.false, c.if-len.false, c.len.ensures, c.len-else-ne.ensures)) in (
      λ _. structs_alike structs c.requires.known c.args.i c.args.j a b c.index-a.ensures c.index-b.ensures
          (names_equal a.name b.name c.if-ne.ensures) (c.loop-k.invariant.1 (ap (chain structs) none_a ∙ sym (ap (chain structs) none_b))),
      λ alike. refl,
    )
