-- Steps in a row, instructions and declarations: what they bring.
use Rattle.std.proofs.Common.{◌≡◌, ℕ, ◌+◌, Bool, true, false, cond, List, [], ◌∷◌, ◌++◌, Some, refl, sym, ap, ◌∙◌, subst}
use Rattle.std.specs.Prelude.{nat_le}
use Rattle.std.specs.List.{Contains, list_all}
use Rattle.std.proofs.lemmas.List.Elements.{Contains-append_left, Contains-append_right}
use Rattle.gsl_words.specs.declared.module.Instr.{Instr}
use Rattle.gsl_words.specs.declared.module.Module.{Module}
use Rattle.gsl_instr.specs.Instructions as table
use Rattle.gsl_instr.specs.declared.instruction.Instruction.{Instruction}
use Rattle.gsl_tree.specs.Shapes.{Shape}
use Rattle.gsl_valid.specs.EntryRules.{is_among}
use Rattle.gsl_valid.specs.ExtendedRules.{extended_of}
use Rattle.gsl_valid.specs.Instruction.{read}
use Rattle.gsl_valid.specs.Kinds.{kind, kind_of, type_in, type_of}
use Rattle.gsl_valid.specs.LimitRules.{is_within}
use Rattle.gsl_valid.specs.MemoryRules.{memory_of}
use Rattle.gsl_valid.specs.OperandRules.{operands_typed}
use Rattle.gsl_valid.specs.Sections.{has_numbers}
use Rattle.gsl_spv.specs.Calls as call
use Rattle.gsl_spv.specs.Calls.{intern}
use Rattle.gsl_spv.specs.Declarations.{Declaration, instr}
use Rattle.gsl_spv.specs.Growing.{Extends}
use Rattle.gsl_spv.specs.Once.{IsOnce, id_of}
use Rattle.gsl_spv.specs.Sections.{Sections}
use Rattle.gsl_spv.specs.declared.refusal.TheConstants.{MOST_IDS}
use Rattle.gsl_spv.proofs.Contained.{first_in}
use Rattle.gsl_spv.proofs.Extending.{extends_take, extends_then}
use Rattle.gsl_spv.proofs.Lasting.{interned_known}
use Rattle.gsl_lower_law.proofs.Adding.{extends_intern, extends_put}
use Rattle.gsl_lower_values.specs.Building.{Built, Made, Full, Step, behind, given as give, giving, id_by, put_giving}
use Rattle.gsl_fitting.specs.Fits.{CallsOne, Frame, Sits, is_known, is_mark, may_leave, works}
use Rattle.gsl_fitting_steps.specs.Keeping.{Keeps, MayDeclare, Works}
use Rattle.gsl_fitting_steps.proofs.Declaring.{intern_keeps}
use Rattle.gsl_fitting_steps.proofs.Giving.{giving_keeps}
use Rattle.gsl_fitting_steps.proofs.Joining.{goes_on, nothing_put}
use Rattle.gsl_fitting_types.specs.Making.{AreSorted, Comes, GivesValue, IsTypeOf, Sorts, Stands, made}
use Rattle.gsl_fitting_types.proofs.Knowing.{first_known, put_is, type_later}

-- what a block has given is still there
abbrev pub Wider : List ℕ → List ℕ → Type 0
Wider given now = (id : ℕ) → is_among given id ≡ true → is_among now id ≡ true

module _ (whole : Sections) (main : ℕ) (local_size : List ℕ) (rank : ℕ → ℕ) (f : Frame) where
  abbrev m : Module
  m = made whole main local_size rank f

  -- ---- in a row

  pub given_comes : {A : Type 0} (given : List ℕ) (Is : A → List ℕ → Sections → Type 0) (a : A) (s : Sections) → (Extends s whole → Is a given s) → Comes whole main local_size rank f given Is s (give a s)
  given_comes given Is a s is = λ inside. record { now = given; goes = record { fine = λ h. h; puts = nothing_put m rank f given s s refl }; is = is inside }

  pub comes_then : {A B : Type 0} (given : List ℕ) (Is : A → List ℕ → Sections → Type 0) (Then : B → List ℕ → Sections → Type 0) (before : Sections) (built : Built A) (next : A → Step B) → Sorts before built → Comes whole main local_size rank f given Is before built
      → ((a : A) (s : Sections) → Sorts s (next a s)) → ((a : A) (s : Sections) (now : List ℕ) → Is a now s → Wider given now → Extends before s → Extends s whole → Comes whole main local_size rank f now Then s (next a s))
      → Comes whole main local_size rank f given Then before (behind built next)
  comes_then {A} {B} given Is Then before (Made a s) next stays first sorts more = by (next a s) (sorts a s) (λ inside. more a s (first inside).now (first inside).is (first inside).goes.puts.wider stays.extends inside)
    where
      by : (built : Built B) → Sorts s built → ((inside : Extends s whole) → Comes whole main local_size rank f (first inside).now Then s built) → Comes whole main local_size rank f given Then before built
      by (Made b after) later go = λ inside.
          let between = extends_then later.extends inside in
          let x = first between in
          let y = go between inside in
          record { now = y.now; goes = goes_on m rank f given x.now y.now before s after x.goes y.goes; is = y.is }
      by Full later go = tt
  comes_then given Is Then before Full next stays first sorts more = tt

  -- what was given is so in another way
  pub comes_so : {A : Type 0} (given : List ℕ) (Is So : A → List ℕ → Sections → Type 0) (before : Sections) (built : Built A) → ((a : A) (now : List ℕ) (s : Sections) → Extends s whole → Is a now s → So a now s) → Comes whole main local_size rank f given Is before built
      → Comes whole main local_size rank f given So before built
  comes_so given Is So before (Made a after) so comes = λ inside. let x = comes inside in record { now = x.now; goes = x.goes; is = so a x.now after inside x.is }
  comes_so given Is So before Full so comes = tt

  -- ---- one instruction that gives a value

  -- An instruction that reads so may stand where a block has given these ids.
  pub sits_read : (given : List ℕ) (i : Instr) (one : Instruction) → read i ≡ Some one → has_numbers m one ≡ true → list_all (is_known m f given) (table.needs one) ≡ true → list_all (is_mark m) (table.mentions one) ≡ true → operands_typed m one ≡ true
      → memory_of m one ≡ true → extended_of m one ≡ true → may_leave m f one ≡ true → is_within m [] one ≡ true → CallsOne m rank f (kind_of one) → Sits m rank f given i
  sits_read given i one reads numbers uses names operands memory extended leaves limits calls = record {
    numbers = rw (reads) numbers;
    uses = rw (reads) uses;
    names = rw (reads) names;
    operands = rw (reads) operands;
    memory = rw (reads) memory;
    extended = rw (reads) extended;
    leaves = rw (reads) leaves;
    limits = rw (reads) limits;
    calls = subst (λ o. CallsOne m rank f (kind o)) (sym reads) calls;
  }

  works_by : (given : List ℕ) (op : ℕ) (operands : List ℕ) (type id : ℕ) → Stands whole main local_size rank f given op operands type → Works m rank f given (instr op (type ∷ id ∷ operands)) (Some id)
  works_by given op operands type id s = record { works = ap works (s.gives id); sits = s.sits id; gives = s.named id }

  pub giving_comes : (given : List ℕ) (op : ℕ) (operands : List ℕ) (shape : Shape) (type : ℕ) (before : Sections) → AreSorted whole → IsTypeOf before shape type → (Extends before whole → Stands whole main local_size rank f given op operands type)
      → Comes whole main local_size rank f given (GivesValue whole main local_size rank f shape) before (giving op operands type before)
  unfolding giving
  giving_comes given op operands shape type before sorted of stands =
      by (nat_le (before.last + 1) MOST_IDS) (λ inside. giving_keeps m rank f given op operands type before (works_by given op operands type (before.last + 1) (stands inside)))
    where
      by : (b : Bool) → (Extends before whole → Keeps m rank f given (λ id. id ∷ given) before (behind (cond b (Made (before.last + 1) (record before { last = before.last + 1 })) Full) (put_giving op type operands)))
          → Comes whole main local_size rank f given (GivesValue whole main local_size rank f shape) before (behind (cond b (Made (before.last + 1) (record before { last = before.last + 1 })) Full) (put_giving op type operands))
      by true keeps = λ inside.
          let id = before.last + 1 in
          let i = instr op (type ∷ id ∷ operands) in
          let there : Contains whole.functions i = subst (λ l. Contains l i) (sym inside.functions.is) (Contains-append_left (before.functions ++ i ∷ []) inside.functions.more i (Contains-append_right before.functions (i ∷ []) i (first_in i []))) in
          let start = extends_then (extends_then (extends_take before) (extends_put op (type ∷ id ∷ operands) (call.take before).sections)) inside in
          record {
            now = id ∷ given;
            goes = keeps start;
            is = record {
              type = type;
              of = type_later before whole shape type start of;
              typed = ap type_of (put_is whole main local_size sorted i id there ((stands start).named id)) ∙ ap type_in ((stands start).gives id);
              known = first_known whole main local_size sorted f given id;
            };
          }
      by false keeps = tt

  -- ---- what is declared once

  pub intern_comes : (given : List ℕ) (Is : ℕ → List ℕ → Sections → Type 0) (dec : Declaration) (before : Sections) → IsOnce dec → (Extends before whole → MayDeclare m dec before)
      → ((id : ℕ) (after : Sections) → Extends before after → Extends after whole → id_of dec after.globals ≡ Some id → Is id given after) → Comes whole main local_size rank f given Is before (id_by (intern dec) before)
  intern_comes given Is dec before once may is = by (nat_le (intern dec before).sections.last MOST_IDS) (λ start. intern_keeps m rank f given dec before (may start))
    where
      by : (b : Bool) → (Extends before whole → Keeps m rank f given (λ id. given) before (cond b (Made (intern dec before).id (intern dec before).sections) Full))
          → Comes whole main local_size rank f given Is before (cond b (Made (intern dec before).id (intern dec before).sections) Full)
      by true keeps = λ inside. record {
        now = given;
        goes = keeps (extends_then (extends_intern dec before) inside);
        is = is (intern dec before).id (intern dec before).sections (extends_intern dec before) inside (interned_known dec before once);
      }
      by false keeps = tt
