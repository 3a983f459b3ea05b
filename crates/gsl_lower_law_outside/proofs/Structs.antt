-- The struct types of a program, as they are put.
use Rattle.std.proofs.Common.{◌≡◌, refl, sym, ap, ◌∙◌, subst, ℕ, suc, ◌+◌, List, [], ◌∷◌, map, slice_get, Some, arith}
use Rattle.std.specs.List.{AllByRecursion}
use Rattle.gsl_types.specs.Known.{AreStructs}
use Rattle.gsl_types.specs.Structs.{members_over, numbered}
use Rattle.gsl_types.specs.declared.ty.Member.{Member}
use Rattle.gsl_types.specs.declared.ty.StructType.{StructType}
use Rattle.gsl_types.specs.declared.ty.Ty.TheVariants as ty
use Rattle.gsl_types.proofs.Layers.{over_struct}
use Rattle.gsl_types.proofs.Structs.{numbered_is}
use Rattle.gsl_words.specs.declared.module.Module.{Module}
use Rattle.gsl_values.specs.declared.value.Value.TheVariants.{Many}
use Rattle.gsl_tree.specs.Values.{zero_meaning, zero_value, zeros_of}
use Rattle.gsl_tree.specs.WellTyped.{IsStructDeclared, IsVariableType}
use Rattle.gsl_machine.specs.Constants.{zeros}
use Rattle.gsl_sound_code.proofs.Looks.{Kept}
use Rattle.gsl_spv.specs.Calls as call
use Rattle.gsl_spv.specs.Declarations as d
use Rattle.gsl_spv.specs.Growing.{Extends}
use Rattle.gsl_spv.specs.Sections.{Sections}
use Rattle.gsl_spv.proofs.Extending.{extends_then}
use Rattle.gsl_lower_values.specs.Building.{Made, ◌>>=◌, given, id_by}
use Rattle.gsl_lower_text.specs.Written.{Written}
use Rattle.gsl_lower_types.specs.Known.{Known, each, with_type}
use Rattle.gsl_lower_types.specs.Values.{member_type, struct_of, struct_type, struct_types}
use Rattle.gsl_lower_types.proofs.Finding.{came}
use Rattle.gsl_lower_law_outside.proofs.Keeping.{AllTold, Keeps, PutKeeps, asks_add, declared_anew, extends_declare, given_keeps, keeps_same, keeps_then, same_after, same_made, there, told_more}
use Rattle.gsl_lower_law_outside.proofs.Said.{struct_plain, struct_zero}
use Rattle.gsl_lower_law_outside.proofs.Types.{type_put}

module _ (m : Module) (whole : Sections) (structs : List StructType) (kept : Kept m) (written : Written m whole) where
  -- The members of a struct are put: their zeros are those of their types.
  record Members (members : List Member) (known : Known) (s : Sections) (r : List ℕ × Known) (after : Sections) : Type 0 where
    keeps : Keeps m whole structs kept written known s r.1 after
    zero : Extends after whole → AllTold m whole structs kept written known → AllByRecursion (λ (member : Member). IsVariableType structs member.ty) members
        → map (zeros m) r.0 ≡ zeros_of (members_over zero_meaning (numbered zero_meaning structs) members)

  members_put : (members : List Member) (known : Known) (s : Sections) (r : List ℕ × Known) (after : Sections) → each member_type members known s ≡ Made r after → Members members known s r after
  unfolding each member_type
  members_put [] known s r after made = record {
    keeps = given_keeps m whole structs kept written [] known s r after made;
    zero = λ into all typed. ap (λ (z : List ℕ × Known). map (zeros m) z.0) (sym (same_made ([], known) r s after made));
  }
  members_put (member ∷ members) known s r after made =
      let c = came (member_type member known s) (λ r. each member_type members r.1 >>= (λ rs. given (r.0 ∷ rs.0, rs.1))) r after made in
      let x = came (each member_type members c.first.1 c.between) (λ rs. given (c.first.0 ∷ rs.0, rs.1)) r after c.then_ in
      let first = type_put m whole structs kept written member.ty known s c.first c.between c.made in
      let rest = members_put members c.first.1 c.between x.first x.between x.made in
      record {
        keeps = keeps_then m whole structs kept written first.keeps (keeps_then m whole structs kept written rest.keeps (ends c.first.0 x.first x.between x.then_));
        zero = λ into all typed.
            let inside = subst (λ (t : Sections). Extends t whole) (sym (same_after (c.first.0 ∷ x.first.0, x.first.1) r x.between after x.then_)) into in
            ap (λ (z : List ℕ × Known). map (zeros m) z.0) (sym (same_made (c.first.0 ∷ x.first.0, x.first.1) r x.between after x.then_))
            ∙ ap (λ v. v ∷ map (zeros m) x.first.0) (first.zero (extends_then rest.keeps.extends inside) all typed.0.known typed.0.plain)
            ∙ ap (λ l. zero_value structs member.ty ∷ l) (rest.zero inside (first.keeps.all (extends_then rest.keeps.extends inside) all) typed.1);
      }
    where
      ends : (id : ℕ) (rs : List ℕ × Known) (between : Sections) → Made (id ∷ rs.0, rs.1) between ≡ Made r after → Keeps m whole structs kept written rs.1 between r.1 after
      ends id rs between is =
          subst (λ (t : Sections). Keeps m whole structs kept written rs.1 between r.1 t) (same_after (id ∷ rs.0, rs.1) r between after is)
          (subst (λ l. Keeps m whole structs kept written rs.1 between l between) (ap (λ (z : List ℕ × Known). z.1) (same_made (id ∷ rs.0, rs.1) r between after is)) (keeps_same m whole structs kept written rs.1 between))

  module _ (are : AreStructs structs) where
    -- a struct, where it is the one of its number
    struct_keeps : (number : ℕ) (struct : StructType) → slice_get structs number ≡ Some struct → AllByRecursion (λ (member : Member). IsVariableType structs member.ty) struct.members → PutKeeps m whole structs kept written (struct_type number struct)
    unfolding struct_type
    struct_keeps number struct found typed known s r after made =
        let c = came (each member_type struct.members known s) (λ r. struct_of number r.0 r.1) r after made in
        let x = came (id_by (call.struct_type c.first.0) c.between) (λ id. given (tt, with_type (ty.Struct number) id c.first.1)) r after c.then_ in
        let first = members_put struct.members known s c.first c.between c.made in
        let grows = asks_add (call.struct_type c.first.0) (extends_declare (d.struct_type c.first.0)) c.between x.first x.between x.made in
        subst (λ (t : Sections). Keeps m whole structs kept written known s r.1 t) (same_after (tt, with_type (ty.Struct number) x.first c.first.1) r x.between after x.then_)
        (subst (λ l. Keeps m whole structs kept written known s l x.between) (ap (λ (z : Unit {0} × Known). z.1) (same_made (tt, with_type (ty.Struct number) x.first c.first.1) r x.between after x.then_))
        (record {
          extends = extends_then first.keeps.extends grows;
          all = λ into all.
              let stands = there m whole structs kept written x.between _ into (declared_anew (d.struct_type c.first.0) c.between x.first x.between x.made) in
              told_more m whole structs kept written (ty.Struct number) x.first c.first.1 (first.keeps.all (extends_then grows into) all) (
                λ sounds plains.
                    struct_zero m c.first.0 x.first stands ∙ ap Many (first.zero (extends_then grows into) all typed)
                    ∙ sym (over_struct zero_meaning (numbered zero_meaning structs) number ∙ numbered_is zero_meaning structs number struct found (are number struct found).earlier),
                struct_plain m c.first.0 x.first stands,
              );
        }))

    pub structs_keep : (some : List StructType) (number : ℕ) → ((k : ℕ) (struct : StructType) → slice_get some k ≡ Some struct → slice_get structs (number + k) ≡ Some struct) → AllByRecursion (IsStructDeclared structs) some
        → PutKeeps m whole structs kept written (struct_types number some)
    unfolding struct_types
    structs_keep [] number at typed known s r after made = given_keeps m whole structs kept written tt known s r after made
    structs_keep (struct ∷ some) number at typed known s r after made =
        let c = came (struct_type number struct known s) (λ r. struct_types (number + 1) some r.1) r after made in
        keeps_then m whole structs kept written
        (struct_keeps number struct (subst (λ n. slice_get structs n ≡ Some struct) (let e : number + 0 ≡ number = omega arith in e) (at 0 struct refl)) typed.0.types known s c.first c.between c.made)
        (structs_keep some (number + 1) (λ k one is. subst (λ n. slice_get structs n ≡ Some one) (let e : number + suc k ≡ (number + 1) + k = omega arith in e) (at (suc k) one is)) typed.1 c.first.1 c.between r after c.then_)
