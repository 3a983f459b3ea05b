-- Instructions that are put.
use Rattle.std.proofs.Common.{◌≡◌, ℕ, ◌+◌, Bool, true, false, cond, List, [], ◌∷◌, ◌++◌, Option, Some, None, refl, sym, ap, ◌∙◌, subst, arith}
use Rattle.std.specs.Prelude.{◌==◌, nat_le, option_to_list}
use Rattle.std.proofs.lemmas.Bool.{or_right}
use Rattle.gsl_words.specs.declared.module.Instr.{Instr}
use Rattle.gsl_words.specs.declared.module.Module.{Module}
use Rattle.gsl_valid.specs.EntryRules.{is_among}
use Rattle.gsl_valid.specs.Ids.{is_id, result}
use Rattle.gsl_valid.specs.Instruction.{read}
use Rattle.gsl_spv.specs.Calls as call
use Rattle.gsl_spv.specs.Declarations.{instr}
use Rattle.gsl_spv.specs.Growing.{all_of}
use Rattle.gsl_spv.specs.Sections.{Sections}
use Rattle.gsl_spv.specs.declared.refusal.TheConstants.{MOST_IDS}
use Rattle.gsl_lower_values.specs.Building.{Made, Full, behind, giving, put_giving, putting}
use Rattle.gsl_fitting.specs.Fits.{Fits, Frame, In}
use Rattle.gsl_fitting_sections.specs.Sections.{count_of, one_if}
use Rattle.gsl_fitting_sections.proofs.Once.{count_append}
use Rattle.gsl_fitting_steps.specs.Keeping.{Goes, Keeps, Puts, Works}
use Rattle.gsl_fitting_steps.proofs.Counting.{apart_more, apart_same}

-- one more instruction of functions counts for what it defines
pub put_count : (s : Sections) (i : Instr) (id : ℕ) → count_of id (s.imports ++ s.names ++ s.decorations ++ s.globals ++ (s.functions ++ i ∷ [])) ≡ count_of id (all_of s) + one_if (is_id id (result (read i)))
put_count s i id =
    let front = s.imports ++ s.names ++ s.decorations ++ s.globals in
    let a = count_append id front (s.functions ++ i ∷ []) in
    let b = count_append id s.functions (i ∷ []) in
    let c = count_append id front s.functions in
    omega (arith, a, b, c)

module _ (m : Module) (rank : ℕ → ℕ) (f : Frame) (given : List ℕ) where
  puts_one : (i : Instr) (o : Option ℕ) (now : List ℕ) (before after : Sections) → Works m rank f given i o → option_to_list o ++ given ≡ now → ((id : ℕ) → is_among given id ≡ true → is_among now id ≡ true) → after.functions ≡ before.functions ++ i ∷ []
      → Puts m rank f given now before after
  puts_one i o now before after w is wider put = record {
    code = i ∷ [];
    puts = put;
    wider = wider;
    fits = λ follows l c ds h. Fits.goes w.works w.sits (subst (λ ids. Fits m rank f follows (In l c ids ds)) (sym (ap (λ o. option_to_list o ++ given) w.gives ∙ is)) h);
  }

  pub putting_keeps : (op : ℕ) (operands : List ℕ) (s : Sections) → Works m rank f given (instr op operands) None → Keeps m rank f given (λ nothing. given) s (putting op operands s)
  putting_keeps op operands s w = record {
    fine = λ h. record {
      set = h.set;
      imports = h.imports;
      names = h.names;
      decorations = h.decorations;
      globals = h.globals;
      apart = apart_same (s.last + 1) (all_of s) _ (λ id. let e = put_count s (instr op operands) id in let z : one_if (is_id id (result (read (instr op operands)))) ≡ 0 = ap (λ o. one_if (is_id id o)) w.gives in omega (arith, e, z)) h.apart;
    };
    puts = puts_one (instr op operands) None given s (call.put op operands s) w refl (λ id h. h) refl;
  }

  given_one : (op : ℕ) (operands : List ℕ) (type : ℕ) (s : Sections) → Works m rank f given (instr op (type ∷ (s.last + 1) ∷ operands)) (Some (s.last + 1))
      → Goes m rank f given ((s.last + 1) ∷ given) s (call.put op (type ∷ (s.last + 1) ∷ operands) (record s { last = s.last + 1 }))
  given_one op operands type s w =
      let i = instr op (type ∷ (s.last + 1) ∷ operands) in
      record {
        fine = λ h. record {
          set = h.set;
          imports = h.imports;
          names = h.names;
          decorations = h.decorations;
          globals = h.globals;
          apart = apart_more (s.last + 1) (all_of s) _ (s.last + 1) (omega arith) (omega arith) (λ id. put_count s i id ∙ ap (λ o. count_of id (all_of s) + one_if (is_id id o)) w.gives) h.apart;
        };
        puts = puts_one i (Some (s.last + 1)) ((s.last + 1) ∷ given) s _ w refl (λ id h. or_right (s.last + 1 == id) _ h) refl;
      }

  pub giving_keeps : (op : ℕ) (operands : List ℕ) (type : ℕ) (s : Sections) → Works m rank f given (instr op (type ∷ (s.last + 1) ∷ operands)) (Some (s.last + 1))
      → Keeps m rank f given (λ id. id ∷ given) s (giving op operands type s)
  unfolding giving
  giving_keeps op operands type s w = by_room (nat_le (s.last + 1) MOST_IDS)
    where
      by_room : (b : Bool) → Keeps m rank f given (λ id. id ∷ given) s (behind (cond b (Made (s.last + 1) (record s { last = s.last + 1 })) Full) (put_giving op type operands))
      by_room true = given_one op operands type s w
      by_room false = tt
