-- Parts of lowering in a row, and what is made of what a part gives.
use Rattle.std.proofs.Common.{◌≡◌, ℕ, Bool, true, false, ◌||◌, List, [], ◌++◌, refl, subst, append-nil}
use Rattle.gsl_spv.specs.Growing.{Extends}
use Rattle.gsl_spv.specs.Sections.{Sections}
use Rattle.gsl_lower_holders.specs.Flow.{Emit, Flow, Gives, Lacks, Lowered, behind, given as give}
use Rattle.gsl_fitting.specs.Fits.{Frame}
use Rattle.gsl_fitting_flow.specs.Flowing.{EmitStays, Flows, IsLater, Widens}
use Rattle.gsl_fitting_flow.proofs.Following.{emit_then, flows_then, later_of, later_then}
use Rattle.gsl_fitting_expr.specs.Evaluating.{Yields}

pub or_false : (b : Bool) → (b || false) ≡ b
or_false true = refl
or_false false = refl

pub stays_map : {A B : Type 0} (before : Flow) (lowered : Lowered A) (g : A → B) → EmitStays before lowered → EmitStays before (behind lowered (λ a. give (g a)))
stays_map before (Gives a after) g stays = stays
stays_map before Lacks g stays = tt

module _ (whole : Sections) (main : ℕ) (local_size : List ℕ) (rank : ℕ → ℕ) (f : Frame) where
  abbrev F : {A : Type 0} → List ℕ → ℕ → Bool → List ℕ → (A → List ℕ → Flow → Type 0) → Flow → Lowered A → Type 0
  F asks deep splits given Is before lowered = Flows whole main local_size rank f asks deep splits given Is before lowered

  pub flows_map : {A B : Type 0} (asks : List ℕ) (deep : ℕ) (splits : Bool) (given : List ℕ) (Is : A → List ℕ → Flow → Type 0) (Then : B → List ℕ → Flow → Type 0) (before : Flow) (lowered : Lowered A) (g : A → B)
      → ((a : A) (now : List ℕ) (s : Flow) → Extends s.sections whole → (splits ≡ false → Widens given now) → Is a now s → Then (g a) now s) → F asks deep splits given Is before lowered → F asks deep splits given Then before (behind lowered (λ a. give (g a)))
  flows_map asks deep splits given Is Then before (Gives a after) g so flows = λ inside hold. let x = flows inside hold in record { now = x.now; crosses = x.crosses; taken = x.taken; is = so a x.now after inside (λ e. (x.crosses.same e).1) x.is }
  flows_map asks deep splits given Is Then before Lacks g so flows = tt

  -- behind a part comes one that takes no holder and puts no label
  pub flows_last : {A B : Type 0} (asks : List ℕ) (deep : ℕ) (splits : Bool) (given : List ℕ) (Is : A → List ℕ → Flow → Type 0) (Then : B → List ℕ → Flow → Type 0) (before : Flow) (lowered : Lowered A) (next : A → Emit B) → EmitStays before lowered → F asks deep splits given Is before lowered
      → ((a : A) (s : Flow) → EmitStays s (next a s)) → ((a : A) (s : Flow) (now : List ℕ) → Is a now s → (splits ≡ false → Widens given now) → IsLater before s → Extends s.sections whole → F [] deep false now Then s (next a s)) → F asks deep splits given Then before (behind lowered next)
  flows_last asks deep splits given Is Then before lowered next stays flows sorts later =
      subst (λ l. F l deep splits given Then before (behind lowered next)) (append-nil asks)
      (subst (λ b. F (asks ++ []) deep b given Then before (behind lowered next)) (or_false splits)
      (flows_then whole main local_size rank f asks [] deep splits false given Is Then before lowered next stays flows sorts (λ a s now is wider on inside. later a s now is wider (later_of on) inside)))

  abbrev Y : {A : Type 0} → Flow → List ℕ → ℕ → Bool → (A → List ℕ → Flow → Type 0) → Emit A → Type 0
  Y s asks deep splits Is part = Yields whole main local_size rank f s asks deep splits Is part

  pub yields_then : {A B : Type 0} (s : Flow) (asks more : List ℕ) (deep : ℕ) (first second : Bool) (Is : A → List ℕ → Flow → Type 0) (Then : B → List ℕ → Flow → Type 0) (part : Emit A) (next : A → Emit B) → Y s asks deep first Is part → ((a : A) (u : Flow) → EmitStays u (next a u))
      → ((a : A) (u : Flow) (now : List ℕ) → Is a now u → IsLater s u → Extends u.sections whole → F more deep second now Then u (next a u)) → Y s (asks ++ more) deep (first || second) Then (λ u. behind (part u) next)
  yields_then s asks more deep first second Is Then part next y sorts later = record {
    stays = λ u. emit_then u (part u) next (y.stays u) sorts;
    flows = λ given u here.
        flows_then whole main local_size rank f asks more deep first second given Is Then u (part u) next (y.stays u) (y.flows given u here) sorts (λ a v now is wider on inside. later a v now is (later_then s u v here (later_of on)) inside);
  }

  -- behind a part comes one that takes no holder and puts no label
  pub yields_last : {A B : Type 0} (s : Flow) (asks : List ℕ) (deep : ℕ) (splits : Bool) (Is : A → List ℕ → Flow → Type 0) (Then : B → List ℕ → Flow → Type 0) (part : Emit A) (next : A → Emit B) → Y s asks deep splits Is part → ((a : A) (u : Flow) → EmitStays u (next a u))
      → ((a : A) (u : Flow) (now : List ℕ) → Is a now u → IsLater s u → Extends u.sections whole → F [] deep false now Then u (next a u)) → Y s asks deep splits Then (λ u. behind (part u) next)
  yields_last s asks deep splits Is Then part next y sorts later = record {
    stays = λ u. emit_then u (part u) next (y.stays u) sorts;
    flows = λ given u here. flows_last asks deep splits given Is Then u (part u) next (y.stays u) (y.flows given u here) sorts (λ a v now is wider on inside. later a v now is (later_then s u v here on) inside);
  }

  pub yields_map : {A B : Type 0} (s : Flow) (asks : List ℕ) (deep : ℕ) (splits : Bool) (Is : A → List ℕ → Flow → Type 0) (Then : B → List ℕ → Flow → Type 0) (part : Emit A) (g : A → B) → Y s asks deep splits Is part → ((a : A) (now : List ℕ) (u : Flow) → Is a now u → Then (g a) now u)
      → Y s asks deep splits Then (λ u. behind (part u) (λ a. give (g a)))
  yields_map s asks deep splits Is Then part g y so = record {
    stays = λ u. stays_map u (part u) g (y.stays u);
    flows = λ given u here. flows_map asks deep splits given Is Then u (part u) g (λ a now v inside wider is. so a now v is) (y.flows given u here);
  }
