-- What a program declares is found, once its types are put.
use Rattle.std.proofs.Common.{◌≡◌, refl, sym, ap, subst, ◌∙◌, ℕ, zero, suc, ◌+◌, ◌<◌, Bool, true, false, IsTrue, List, [], ◌∷◌, length, arith}
use Rattle.std.specs.Prelude.{is_some}
use Rattle.std.specs.List.{AllByRecursion}
use Rattle.std.proofs.lemmas.Bool.{true≢false}
use Rattle.gsl_types.specs.declared.ty.Member.{Member}
use Rattle.gsl_types.specs.declared.ty.StructType.{StructType}
use Rattle.gsl_types.specs.declared.ty.Ty.{Ty}
use Rattle.gsl_types.specs.declared.ty.Ty.TheOpen.{Ty-F}
use Rattle.gsl_types.specs.declared.ty.Ty.TheViews.{out-Ty}
use Rattle.gsl_types.specs.declared.ty.Ty.TheVariants as ty
use Rattle.gsl_types.specs.declared.ty.Ty.TheVariants.{outs-Array, outs-Struct}
use Rattle.gsl_overload.proofs.Same.{same_is, same_itself}
use Rattle.gsl_spv.specs.Calls as call
use Rattle.gsl_spv.specs.Growing.{Begins}
use Rattle.gsl_spv.specs.Sections.{Sections}
use Rattle.gsl_tree.specs.declared.program.Program.{Program}
use Rattle.gsl_lower_values.specs.Building.{Built, Made, id_by}
use Rattle.gsl_lower_holders.specs.Flow.{find_type}
use Rattle.gsl_lower_types.specs.Finding.{AreFound, AreWhole, IsBlockFound, IsFound, IsFunctionFound, IsPrototypeFound, IsStructFound, found_by}
use Rattle.gsl_lower_types.specs.Known.{Known, Put, all, each, only, with_type}
use Rattle.gsl_lower_types.specs.Values.{block_member_type, block_types, function_types, global_type, local_type, member_type, parameter_type, program_types, prototype_types, struct_type, struct_types, value_type}
use Rattle.gsl_lower_types.proofs.Finding.{begins_as, begins_then, came, finds_itself, found_last, found_stays, given_in, last_or_before}

-- What puts types for an item only adds to what is known, of which something then holds, and lasts; and what was whole is so still.
record Tells {A : Type 0} (put : A → Put (Unit {0})) (P : Known → A → Type 0) : Type 0 where
  grows : (a : A) (known : Known) (s : Sections) (r : Unit {0} × Known) (after : Sections) → put a known s ≡ Made r after → Begins known r.1
  holds : (a : A) (known : Known) (s : Sections) (r : Unit {0} × Known) (after : Sections) → put a known s ≡ Made r after → P r.1 a
  stays : (a : A) (known after : Known) → Begins known after → P known a → P after a
  whole : (a : A) (known : Known) (s : Sections) (r : Unit {0} × Known) (after : Sections) → put a known s ≡ Made r after → AreWhole known → AreWhole r.1

-- ---- one type

module _ {A : Type 0} (put : A → Put (Unit {0})) (type : A → Ty) (is : (a : A) (known : Known) (s : Sections) → put a known s ≡ only (value_type (type a)) known s) where
  only_tells : Tells put (λ known a. IsFound known (type a))
  only_tells = record {
    grows = λ a known s r after made.
        let c = came (value_type (type a) known s) _ r after (sym (is a known s) ∙ made) in
        begins_then ((finds_itself (type a)).grows known s c.first c.between c.made) (begins_as (ap (λ (b : Built (Unit {0} × Known)). (given_in r b).1) c.then_));
    holds = λ a known s r after made.
        let c = came (value_type (type a) known s) _ r after (sym (is a known s) ∙ made) in
        subst (λ l. IsFound l (type a)) (ap (λ (b : Built (Unit {0} × Known)). (given_in r b).1) c.then_) ((finds_itself (type a)).found known s c.first c.between c.made);
    stays = λ a known after p found. found_stays (type a) p found;
    whole = λ a known s r after made w.
        let c = came (value_type (type a) known s) _ r after (sym (is a known s) ∙ made) in
        subst AreWhole (ap (λ (b : Built (Unit {0} × Known)). (given_in r b).1) c.then_) ((finds_itself (type a)).whole known s c.first c.between c.made w);
  }

-- ---- several items

module _ {A : Type 0} (put : A → Put (Unit {0})) (P : Known → A → Type 0) (t : Tells put P) where
  all_grow : (items : List A) (known : Known) (s : Sections) (r : Unit {0} × Known) (after : Sections) → all put items known s ≡ Made r after → Begins known r.1
  unfolding all
  all_grow [] known s r after is = begins_as (ap (λ (b : Built (Unit {0} × Known)). (given_in r b).1) is)
  all_grow (a ∷ items) known s r after is =
      let c = came (put a known s) _ r after is in begins_then (t.grows a known s c.first c.between c.made) (all_grow items c.first.1 c.between r after c.then_)

  all_hold : (items : List A) (known : Known) (s : Sections) (r : Unit {0} × Known) (after : Sections) → all put items known s ≡ Made r after → AllByRecursion (P r.1) items
  unfolding all
  all_hold [] known s r after is = tt
  all_hold (a ∷ items) known s r after is =
      let c = came (put a known s) _ r after is in
      (t.stays a c.first.1 r.1 (all_grow items c.first.1 c.between r after c.then_) (t.holds a known s c.first c.between c.made), all_hold items c.first.1 c.between r after c.then_)

  all_stay : (items : List A) (known after : Known) → Begins known after → AllByRecursion (P known) items → AllByRecursion (P after) items
  all_stay [] known after p is = tt
  all_stay (a ∷ items) known after p is = (t.stays a known after p is.0, all_stay items known after p is.1)

  all_whole : (items : List A) (known : Known) (s : Sections) (r : Unit {0} × Known) (after : Sections) → all put items known s ≡ Made r after → AreWhole known → AreWhole r.1
  unfolding all
  all_whole [] known s r after is w = subst AreWhole (ap (λ (b : Built (Unit {0} × Known)). (given_in r b).1) is) w
  all_whole (a ∷ items) known s r after is w =
      let c = came (put a known s) _ r after is in all_whole items c.first.1 c.between r after c.then_ (t.whole a known s c.first c.between c.made w)

  all_tell : {B : Type 0} (puts : B → Put (Unit {0})) (items : B → List A) → ((b : B) (known : Known) (s : Sections) → puts b known s ≡ all put (items b) known s) → Tells puts (λ known b. AllByRecursion (P known) (items b))
  all_tell puts items is = record {
    grows = λ b known s r after made. all_grow (items b) known s r after (sym (is b known s) ∙ made);
    holds = λ b known s r after made. all_hold (items b) known s r after (sym (is b known s) ∙ made);
    stays = λ b known after p found. all_stay (items b) known after p found;
    whole = λ b known s r after made w. all_whole (items b) known s r after (sym (is b known s) ∙ made) w;
  }

-- ---- what is declared

globals_tell : Tells global_type (λ known g. IsFound known g.ty)
unfolding global_type
globals_tell = only_tells global_type (λ g. g.ty) (λ g known s. refl)

block_members_tell : Tells block_member_type (λ known m. IsFound known m.ty)
unfolding block_member_type
block_members_tell = only_tells block_member_type (λ m. m.ty) (λ m known s. refl)

blocks_tell : Tells block_types IsBlockFound
unfolding block_types
blocks_tell = all_tell block_member_type (λ known m. IsFound known m.ty) block_members_tell block_types (λ b. b.members) (λ b known s. refl)

parameters_tell : Tells parameter_type (λ known p. IsFound known p.1)
unfolding parameter_type
parameters_tell = only_tells parameter_type (λ p. p.1) (λ p known s. refl)

locals_tell : Tells local_type IsFound
unfolding local_type
locals_tell = only_tells local_type (λ t. t) (λ t known s. refl)

functions_tell : Tells function_types IsFunctionFound
unfolding function_types
functions_tell = all_tell local_type IsFound locals_tell function_types (λ f. f.locals) (λ f known s. refl)

prototypes_tell : Tells prototype_types IsPrototypeFound
unfolding prototype_types
prototypes_tell = record {
  grows = λ q known s r after made.
      let c = came (value_type q.result known s) _ r after made in
      begins_then ((finds_itself q.result).grows known s c.first c.between c.made) (all_grow parameter_type (λ known p. IsFound known p.1) parameters_tell q.params c.first.1 c.between r after c.then_);
  holds = λ q known s r after made.
      let c = came (value_type q.result known s) _ r after made in (
        found_stays q.result (all_grow parameter_type (λ known p. IsFound known p.1) parameters_tell q.params c.first.1 c.between r after c.then_) ((finds_itself q.result).found known s c.first c.between c.made),
        all_hold parameter_type (λ known p. IsFound known p.1) parameters_tell q.params c.first.1 c.between r after c.then_,
      );
  stays = λ q known after p found. (found_stays q.result p found.0, all_stay parameter_type (λ known p. IsFound known p.1) parameters_tell q.params known after p found.1);
  whole = λ q known s r after made w.
      let c = came (value_type q.result known s) _ r after made in
      all_whole parameter_type (λ known p. IsFound known p.1) parameters_tell q.params c.first.1 c.between r after c.then_ ((finds_itself q.result).whole known s c.first c.between c.made w);
}

-- ---- structs

record Listed (members : List Member) (known : Known) (r : List ℕ × Known) : Type 0 where
  grows : Begins known r.1
  found : AllByRecursion (λ (m : Member). IsFound r.1 m.ty) members
  whole : AreWhole known → AreWhole r.1

members_list : (members : List Member) (known : Known) (s : Sections) (r : List ℕ × Known) (after : Sections) → each member_type members known s ≡ Made r after → Listed members known r
unfolding each member_type
members_list [] known s r after is =
    let same : known ≡ r.1 = ap (λ (b : Built (List ℕ × Known)). (given_in r b).1) is in record { grows = begins_as same; found = tt; whole = subst AreWhole same }
members_list (m ∷ members) known s r after is =
    let c = came (value_type m.ty known s) _ r after is in
    let d = came (each member_type members c.first.1 c.between) _ r after c.then_ in
    let rest = members_list members c.first.1 c.between d.first d.between d.made in
    let same : d.first.1 ≡ r.1 = ap (λ (b : Built (List ℕ × Known)). (given_in r b).1) d.then_ in
    let one = finds_itself m.ty in
    record {
      grows = begins_then (one.grows known s c.first c.between c.made) (subst (λ l. Begins c.first.1 l) same rest.grows);
      found = (found_stays m.ty (subst (λ l. Begins c.first.1 l) same rest.grows) (one.found known s c.first c.between c.made), subst (λ l. AllByRecursion (λ (x : Member). IsFound l x.ty) members) same rest.found);
      whole = λ w. subst AreWhole same (rest.whole (one.whole known s c.first c.between c.made w));
    }

members_stay : (members : List Member) (known after : Known) → Begins known after → AllByRecursion (λ (m : Member). IsFound known m.ty) members → AllByRecursion (λ (m : Member). IsFound after m.ty) members
members_stay [] known after p is = tt
members_stay (m ∷ members) known after p is = (found_stays m.ty p is.0, members_stay members known after p is.1)

structs_stay : (structs : List StructType) (known after : Known) → Begins known after → AllByRecursion (IsStructFound known) structs → AllByRecursion (IsStructFound after) structs
structs_stay [] known after p is = tt
structs_stay (struct ∷ structs) known after p is = (members_stay struct.members known after p is.0, structs_stay structs known after p is.1)

abbrev is_array : Ty-F Ty → Bool
is_array (Ty-F.Array e n) = true
is_array _ = false

struct_whole : (k id : ℕ) (known : Known) → AreWhole known → AreWhole (with_type (ty.Struct k) id known)
struct_whole k id known w f m is =
    let more : Begins known (with_type (ty.Struct k) id known) = record { more = (ty.Struct k, id) ∷ []; is = refl } in
    found_stays f more (last_or_before (ty.Array f m) (ty.Struct k) id known (IsFound known f) (w f m)
    (λ same. let no_ : ⊥ = true≢false (ap is_array (sym (outs-Array f m) ∙ ap out-Ty (same_is (ty.Array f m) (ty.Struct k) same) ∙ outs-Struct k)) in elim no_ [ ]) is)

record Structed (number : ℕ) (struct : StructType) (known : Known) (r : Unit {0} × Known) : Type 0 where
  grows : Begins known r.1
  itself : IsFound r.1 (ty.Struct number)
  members : IsStructFound r.1 struct
  whole : AreWhole known → AreWhole r.1

one_struct : (number : ℕ) (struct : StructType) (known : Known) (s : Sections) (r : Unit {0} × Known) (after : Sections) → struct_type number struct known s ≡ Made r after → Structed number struct known r
unfolding struct_type
one_struct number struct known s r after is =
    let c = came (each member_type struct.members known s) _ r after is in
    let d = came (id_by (call.struct_type c.first.0) c.between) _ r after c.then_ in
    let listed = members_list struct.members known s c.first c.between c.made in
    let same : with_type (ty.Struct number) d.first c.first.1 ≡ r.1 = ap (λ (b : Built (Unit {0} × Known)). (given_in r b).1) d.then_ in
    let grown : Begins c.first.1 r.1 = subst (λ l. Begins c.first.1 l) same (record { more = (ty.Struct number, d.first) ∷ []; is = refl }) in
    record {
      grows = begins_then listed.grows grown;
      itself = subst (λ y. IsTrue (found_by r.1 (ty.Struct number) y)) (sym (outs-Struct number))
          (subst (λ l. IsTrue (is_some (find_type (ty.Struct number) l))) same (found_last (ty.Struct number) (ty.Struct number) d.first c.first.1 (same_itself (ty.Struct number))));
      members = members_stay struct.members c.first.1 r.1 grown listed.found;
      whole = λ w. subst AreWhole same (struct_whole number d.first c.first.1 (listed.whole w));
    }

record AllStructed (number : ℕ) (structs : List StructType) (known : Known) (r : Unit {0} × Known) : Type 0 where
  grows : Begins known r.1
  each_ : (i : ℕ) → i < length structs → IsFound r.1 (ty.Struct (number + i))
  members : AllByRecursion (IsStructFound r.1) structs
  whole : AreWhole known → AreWhole r.1

from_first : (number count : ℕ) (known : Known) → IsFound known (ty.Struct number) → ((i : ℕ) → i < count → IsFound known (ty.Struct (number + 1 + i))) → (i : ℕ) → i < suc count → IsFound known (ty.Struct (number + i))
from_first number count known first later zero below = subst (λ n. IsFound known (ty.Struct n)) (let e : number ≡ number + 0 = omega arith in e) first
from_first number count known first later (suc i) below = subst (λ n. IsFound known (ty.Struct n)) (let e : number + 1 + i ≡ number + suc i = omega arith in e) (later i (omega (arith, below)))

all_structs : (number : ℕ) (structs : List StructType) (known : Known) (s : Sections) (r : Unit {0} × Known) (after : Sections) → struct_types number structs known s ≡ Made r after → AllStructed number structs known r
unfolding struct_types
all_structs number [] known s r after is =
    let same : known ≡ r.1 = ap (λ (b : Built (Unit {0} × Known)). (given_in r b).1) is in
    record { grows = begins_as same; each_ = λ i below. let no_ : ⊥ = omega (arith, below) in elim no_ [ ]; members = tt; whole = subst AreWhole same }
all_structs number (struct ∷ structs) known s r after is =
    let c = came (struct_type number struct known s) _ r after is in
    let one = one_struct number struct known s c.first c.between c.made in
    let rest = all_structs (number + 1) structs c.first.1 c.between r after c.then_ in
    record {
      grows = begins_then one.grows rest.grows;
      each_ = from_first number (length structs) r.1 (found_stays (ty.Struct number) rest.grows one.itself) rest.each_;
      members = (members_stay struct.members c.first.1 r.1 rest.grows one.members, rest.members);
      whole = λ w. rest.whole (one.whole w);
    }

-- ---- a program

pub record Declares (p : Program) (known after : Known) : Type 0 where
  pub found : AreFound after p
  pub whole : AreWhole known → AreWhole after

pub program_declares : (p : Program) (known : Known) (s : Sections) (r : Unit {0} × Known) (after : Sections) → program_types p known s ≡ Made r after → Declares p known r.1
unfolding program_types
program_declares p known s r after is =
    let a = came (struct_types 0 p.structs known s) _ r after is in
    let b = came (all global_type p.globals a.first.1 a.between) _ r after a.then_ in
    let c = came (all block_types p.blocks b.first.1 b.between) _ r after b.then_ in
    let d = came (all prototype_types p.prototypes c.first.1 c.between) _ r after c.then_ in
    let structs = all_structs 0 p.structs known s a.first a.between a.made in
    let last = all_grow function_types IsFunctionFound functions_tell p.functions d.first.1 d.between r after d.then_ in
    let from_prototypes = begins_then (all_grow prototype_types IsPrototypeFound prototypes_tell p.prototypes c.first.1 c.between d.first d.between d.made) last in
    let from_blocks = begins_then (all_grow block_types IsBlockFound blocks_tell p.blocks b.first.1 b.between c.first c.between c.made) from_prototypes in
    let from_globals = begins_then (all_grow global_type (λ known g. IsFound known g.ty) globals_tell p.globals a.first.1 a.between b.first b.between b.made) from_blocks in
    record {
      found = record {
        structs = λ number below. found_stays (ty.Struct number) from_globals (subst (λ n. IsFound a.first.1 (ty.Struct n)) (let e : 0 + number ≡ number = omega arith in e) (structs.each_ number below));
        members = structs_stay p.structs a.first.1 r.1 from_globals structs.members;
        globals = all_stay global_type (λ known g. IsFound known g.ty) globals_tell p.globals b.first.1 r.1 from_blocks (all_hold global_type (λ known g. IsFound known g.ty) globals_tell p.globals a.first.1 a.between b.first b.between b.made);
        blocks = all_stay block_types IsBlockFound blocks_tell p.blocks c.first.1 r.1 from_prototypes (all_hold block_types IsBlockFound blocks_tell p.blocks b.first.1 b.between c.first c.between c.made);
        prototypes = all_stay prototype_types IsPrototypeFound prototypes_tell p.prototypes d.first.1 r.1 last (all_hold prototype_types IsPrototypeFound prototypes_tell p.prototypes c.first.1 c.between d.first d.between d.made);
        functions = all_hold function_types IsFunctionFound functions_tell p.functions d.first.1 d.between r after d.then_;
      };
      whole = λ w.
          all_whole function_types IsFunctionFound functions_tell p.functions d.first.1 d.between r after d.then_
          (all_whole prototype_types IsPrototypeFound prototypes_tell p.prototypes c.first.1 c.between d.first d.between d.made
          (all_whole block_types IsBlockFound blocks_tell p.blocks b.first.1 b.between c.first c.between c.made
          (all_whole global_type (λ known g. IsFound known g.ty) globals_tell p.globals a.first.1 a.between b.first b.between b.made (structs.whole w))));
    }
