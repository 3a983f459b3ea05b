-- Steps in a row.
use Rattle.std.proofs.Common.{◌≡◌, ℕ, List, [], ◌++◌, sym, ap, ◌∙◌, subst, append_assoc, append-nil}
use Rattle.gsl_words.specs.declared.module.Module.{Module}
use Rattle.gsl_spv.specs.Sections.{Sections}
use Rattle.gsl_lower_values.specs.Building.{Built, Made, Full, Step, behind}
use Rattle.gsl_fitting.specs.Fits.{Fits, Frame, In}
use Rattle.gsl_fitting_steps.specs.Keeping.{Goes, Keeps, Puts}

module _ (m : Module) (rank : ℕ → ℕ) (f : Frame) where
  pub nothing_put : (given : List ℕ) (before after : Sections) → after.functions ≡ before.functions → Puts m rank f given given before after
  nothing_put given before after same = record { code = []; puts = same ∙ sym (append-nil before.functions); wider = λ id h. h; fits = λ follows l c ds h. h }

  pub goes_on : (given between now : List ℕ) (a b c : Sections) → Goes m rank f given between a b → Goes m rank f between now b c → Goes m rank f given now a c
  goes_on given between now a b c x y = record {
    fine = λ h. y.fine (x.fine h);
    puts = record {
      code = x.puts.code ++ y.puts.code;
      puts = y.puts.puts ∙ ap (λ l. l ++ y.puts.code) x.puts.puts ∙ append_assoc a.functions x.puts.code y.puts.code;
      wider = λ id h. y.puts.wider id (x.puts.wider id h);
      fits = λ follows l around ds h. subst (λ code. Fits m rank f code (In l around given ds)) (sym (append_assoc x.puts.code y.puts.code follows)) (x.puts.fits (y.puts.code ++ follows) l around ds (y.puts.fits follows l around ds h));
    };
  }

  pub joined : {A B : Type 0} → (given : List ℕ) (first : Step A) (next : A → Step B) (between : A → List ℕ) (now : B → List ℕ) (before : Sections) → Keeps m rank f given between before (first before)
      → ((a : A) (s : Sections) → Keeps m rank f (between a) now s (next a s)) → Keeps m rank f given now before (behind (first before) next)
  joined {A} {B} given first next between now before x y = by_first (first before) x
    where
      by_next : (a : A) (s : Sections) (built : Built B) → Goes m rank f given (between a) before s → Keeps m rank f (between a) now s built → Keeps m rank f given now before built
      by_next a s (Made b after) x y = goes_on given (between a) (now b) before s after x y
      by_next a s Full x y = tt

      by_first : (built : Built A) → Keeps m rank f given between before built → Keeps m rank f given now before (behind built next)
      by_first (Made a s) x = by_next a s (next a s) x (y a s)
      by_first Full x = tt
