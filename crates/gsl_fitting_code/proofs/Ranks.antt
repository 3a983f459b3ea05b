-- Each function calls functions of lower ranks alone.
use Rattle.std.proofs.Common.{◌≡◌, ℕ, ◌<◌, ◌≤◌, Bool, true, false, ◌&&◌, List, [], ◌∷◌, ◌++◌, Option, Some, None, refl, sym, ap, ◌∙◌, subst, append_assoc, arith, inl, inr}
use Rattle.std.specs.Prelude.{zero, suc, ◌==◌}
use Rattle.std.specs.List.{AllByRecursion, cons_option, list_any}
use Rattle.std.proofs.lemmas.Bool.{and_parts, cond_both, cond-false, cond-true, eqb-true, or_cases, true≢false}
use Rattle.gsl_words.specs.declared.module.Instr.{Instr}
use Rattle.gsl_words.specs.declared.module.Module.{Module}
use Rattle.gsl_valid.specs.CallRules.{called, called_by, callee, callee_in, has_chain, is_last, reaches_by}
use Rattle.gsl_valid.specs.Ids.{defines, is_id, result}
use Rattle.gsl_valid.specs.Instruction.{read}
use Rattle.gsl_valid.specs.Kinds as kinds
use Rattle.gsl_valid.specs.Kinds.{Kind, kind}
use Rattle.gsl_valid.specs.Placed.{Code}
use Rattle.gsl_valid.specs.Types.{begins, function_begins}
use Rattle.gsl_fitting.specs.Fits.{At, CallsOne, Fits, Frame, Sits}
use Rattle.gsl_fitting.specs.Functions.{AreFunctions, AreParameters, IsFunction, IsLocal}
use Rattle.gsl_fitting_code.specs.Kept.{Stands, is_outer}
use Rattle.gsl_fitting_code.proofs.Fronts.{outer_no_function}
use Rattle.gsl_fitting_code.proofs.Roles.{ends_kind, merges_kind, opens_label, works_no_function}

module _ (rank : ℕ → ℕ) where
  -- these functions are of lower ranks
  abbrev pub Lower : ℕ → List ℕ → Type 0
  Lower most ids = AllByRecursion (λ id. rank id < most) ids

  -- what some code calls behind an instruction, and what that calls
  called_step : (most : ℕ) (i : Instr) (code : Code) → ((id : ℕ) → callee (read i) ≡ Some id → rank id < most) → Lower most (called code) → Lower most (called (i ∷ code))
  called_step most i code here later = cond_both (is_last (kind (read i))) [] (cons_option (callee (read i)) (called code)) (Lower most) (λ e. tt) (λ e. by_callee (callee (read i)) here)
    where
      by_callee : (o : Option ℕ) → ((id : ℕ) → o ≡ Some id → rank id < most) → Lower most (cons_option o (called code))
      by_callee None here = later
      by_callee (Some id) here = (here id refl, later)

  no_call : (most : ℕ) (i : Instr) (code : Code) → callee (read i) ≡ None → Lower most (called code) → Lower most (called (i ∷ code))
  no_call most i code none later = called_step most i code (λ id is. absurd (differ (callee (read i)) id none is)) later
    where
      differ : (o : Option ℕ) (id : ℕ) → o ≡ None → o ≡ Some id → ⊥
      differ o id none is = absurd cc

  deeper : (m : Module) (f : Frame) (k : Kind) → CallsOne m rank f k → (id : ℕ) → callee_in k ≡ Some id → rank id < rank f.id
  deeper m f (kinds.Calls type function arguments) call id is = let same : function ≡ id = cc in subst (λ x. rank x < rank f.id) same call.deeper
  deeper m f _ call id is = absurd cc

  module _ (m : Module) (f : Frame) (tail : Code) (ended : called tail ≡ []) where
    sits_step : (given : List ℕ) (i : Instr) (code : Code) → Sits m rank f given i → Lower (rank f.id) (called code) → Lower (rank f.id) (called (i ∷ code))
    sits_step given i code sits later = called_step (rank f.id) i code (deeper m f (kind (read i)) sits.calls) later

    pub called_fits : (code : Code) (at : At) → Fits m rank f code at → Lower (rank f.id) (called (code ++ tail))
    called_fits _ _ Fits.over = subst (Lower (rank f.id)) (sym ended) tt
    called_fits _ _ (Fits.opens {i} {code} {l} role on) = no_call (rank f.id) i (code ++ tail) (ap callee (opens_label (read i) l role)) (called_fits code _ on)
    called_fits _ _ (Fits.goes {i} {code} {l} {c} {given} work sits on) = sits_step given i (code ++ tail) sits (called_fits code _ on)
    called_fits _ _ (Fits.ends {i} {code} {l} {c} {given} t role may sits on) = sits_step given i (code ++ tail) sits (called_fits code _ on)
    called_fits _ _ (Fits.leads {i} {code} {l} {c} {given} t role may sits on) = sits_step given i (code ++ tail) sits (called_fits code _ on)
    called_fits _ _ (Fits.turns {i} {code} {l} {c} {given} t u role may sits on) = sits_step given i (code ++ tail) sits (called_fits code _ on)
    called_fits _ _ (Fits.leaves {i} {code} {l} {c} {given} role may sits on) = sits_step given i (code ++ tail) sits (called_fits code _ on)
    called_fits _ _ (Fits.selects {i} {j} {code} {l} {c} {given} n t u merge role may below one two on) = sits_step given i (j ∷ (code ++ tail)) one (sits_step given j (code ++ tail) two (called_fits code _ on))
    called_fits _ _ (Fits.chooses {i} {j} {code} {l} {c} {given} n default targets arms merge role differ named below one two on) = sits_step given i (j ∷ (code ++ tail)) one (sits_step given j (code ++ tail) two (called_fits code _ on))
    called_fits _ _ (Fits.loops {i} {j} {code} {l} {c} {given} n k b merge role new below one two on) = sits_step given i (j ∷ (code ++ tail)) one (sits_step given j (code ++ tail) two (called_fits code _ on))

  called_parameters : (m : Module) (most : ℕ) (types : List ℕ) (code later : Code) → AreParameters m types code → Lower most (called later) → Lower most (called (code ++ later))
  called_parameters m most _ _ later AreParameters.none h = h
  called_parameters m most _ _ later (AreParameters.one {types = types} {i = i} {code = code} id reads known on) h = no_call most i (code ++ later) (ap callee reads) (called_parameters m most types code later on h)

  called_variables : (m : Module) (most : ℕ) (code later : Code) → AllByRecursion (IsLocal m) code → Lower most (called later) → Lower most (called (code ++ later))
  called_variables m most [] later all h = h
  called_variables m most (i ∷ code) later all h = no_call most i (code ++ later) (ap callee all.0.reads) (called_variables m most code later all.1 h)

-- No function begins in a function ----------------------------------------------------------------------------------------

abbrev NoneBegins : Code → Type 0
NoneBegins code = AllByRecursion (λ i. function_begins (read i) ≡ false) code

fits_begins : (m : Module) (rank : ℕ → ℕ) (f : Frame) (code : Code) (at : At) → Fits m rank f code at → NoneBegins code
fits_begins m rank f _ _ Fits.over = tt
fits_begins m rank f _ _ (Fits.opens {i} {code} {l} role on) = (ap function_begins (opens_label (read i) l role), fits_begins m rank f code _ on)
fits_begins m rank f _ _ (Fits.goes {i} {code} work sits on) = (works_no_function (kind (read i)) work, fits_begins m rank f code _ on)
fits_begins m rank f _ _ (Fits.ends {i} {code} t role may sits on) = (ap begins (ends_kind (read i) _ role), fits_begins m rank f code _ on)
fits_begins m rank f _ _ (Fits.leads {i} {code} t role may sits on) = (ap begins (ends_kind (read i) _ role), fits_begins m rank f code _ on)
fits_begins m rank f _ _ (Fits.turns {i} {code} t u role may sits on) = (ap begins (ends_kind (read i) _ role), fits_begins m rank f code _ on)
fits_begins m rank f _ _ (Fits.leaves {i} {code} role may sits on) = (ap begins (ends_kind (read i) _ role), fits_begins m rank f code _ on)
fits_begins m rank f _ _ (Fits.selects {i} {j} {code} n t u merge role may below one two on) = (ap begins (merges_kind (read i) _ merge), (ap begins (ends_kind (read j) _ role), fits_begins m rank f code _ on))
fits_begins m rank f _ _ (Fits.chooses {i} {j} {code} n default targets arms merge role differ named below one two on) = (ap begins (merges_kind (read i) _ merge), (ap begins (ends_kind (read j) _ role), fits_begins m rank f code _ on))
fits_begins m rank f _ _ (Fits.loops {i} {j} {code} n k b merge role new below one two on) = (ap begins (merges_kind (read i) _ merge), (ap begins (ends_kind (read j) _ role), fits_begins m rank f code _ on))

parameters_begin : (m : Module) (types : List ℕ) (code : Code) → AreParameters m types code → NoneBegins code
parameters_begin m _ _ AreParameters.none = tt
parameters_begin m _ _ (AreParameters.one {types = types} {i = i} {code = code} id reads known on) = (ap function_begins reads, parameters_begin m types code on)

variables_begin : (m : Module) (code : Code) → AllByRecursion (IsLocal m) code → NoneBegins code
variables_begin m [] all = tt
variables_begin m (i ∷ code) all = (ap function_begins all.0.reads, variables_begin m code all.1)

skip : (a b : Code) (id : ℕ) → NoneBegins a → called_by (a ++ b) id ≡ called_by b id
skip [] b id all = refl
skip (i ∷ a) b id all = cond-false _ _ _ (ap (λ c. c && defines i id) all.0) ∙ skip a b id all.1

-- Functions -----------------------------------------------------------------------------------------------------------------

module _ {m : Module} {rank : ℕ → ℕ} where
  function_lower : (code later : Code) (f : IsFunction m rank code) → Lower rank (rank f.id) (called ((f.parameters ++ (f.opening ∷ (f.variables ++ (f.body ++ (f.ending ∷ []))))) ++ later))
  function_lower code later f =
      let most = rank f.id in
      let tail = f.variables ++ (f.body ++ (f.ending ∷ [])) in
      let ended : called ((f.ending ∷ []) ++ later) ≡ [] = cond-true _ _ _ (ap (λ d. is_last (kind d)) f.ends) in
      let body = subst (λ c. Lower rank most (called c)) (sym (append_assoc f.body (f.ending ∷ []) later)) (called_fits rank m _ ((f.ending ∷ []) ++ later) ended f.body _ f.fits) in
      let variables = subst (λ c. Lower rank most (called c)) (sym (append_assoc f.variables (f.body ++ (f.ending ∷ [])) later)) (called_variables rank m most f.variables _ f.holds body) in
      subst (λ c. Lower rank most (called c)) (sym (append_assoc f.parameters (f.opening ∷ tail) later))
      (called_parameters rank m most _ f.parameters _ f.takes (no_call rank most f.opening (tail ++ later) (ap callee f.opens) variables))

  rest_skipped : (code later : Code) (f : IsFunction m rank code) (id : ℕ) → called_by ((f.parameters ++ (f.opening ∷ (f.variables ++ (f.body ++ (f.ending ∷ []))))) ++ later) id ≡ called_by later id
  rest_skipped code later f id =
      let tail = f.variables ++ (f.body ++ (f.ending ∷ [])) in
      let parameters = parameters_begin m _ f.parameters f.takes in
      ap (λ c. called_by c id) (append_assoc f.parameters (f.opening ∷ tail) later)
      ∙ skip f.parameters ((f.opening ∷ tail) ++ later) id parameters
      ∙ cond-false _ _ _ (ap (λ d. function_begins d && defines f.opening id) f.opens)
      ∙ ap (λ c. called_by c id) (append_assoc f.variables (f.body ++ (f.ending ∷ [])) later)
      ∙ skip f.variables ((f.body ++ (f.ending ∷ [])) ++ later) id (variables_begin m f.variables f.holds)
      ∙ ap (λ c. called_by c id) (append_assoc f.body (f.ending ∷ []) later)
      ∙ skip f.body ((f.ending ∷ []) ++ later) id (fits_begins m rank _ f.body _ f.fits)
      ∙ cond-false _ _ _ (ap (λ d. function_begins d && defines f.ending id) f.ends)

  functions_lower : (code : Code) → AreFunctions m rank code → (id : ℕ) → Lower rank (rank id) (called_by code id)
  functions_lower _ AreFunctions.none id = tt
  functions_lower _ (AreFunctions.one {first = first} {more = more} f on) id =
      let rest = (f.parameters ++ (f.opening ∷ (f.variables ++ (f.body ++ (f.ending ∷ []))))) ++ more in
      subst (λ c. Lower rank (rank id) (called_by (c ++ more) id)) (sym f.is)
      (cond_both (function_begins (read f.begin) && defines f.begin id) (called rest) (called_by rest id) (Lower rank (rank id))
      (λ e. let same : f.id ≡ id = eqb-true f.id id (ap (λ d. is_id id (result d)) (sym f.begins) ∙ (and_parts (function_begins (read f.begin)) _ e).1) in subst (λ x. Lower rank (rank x) (called rest)) same (function_lower first more f))
      (λ e. subst (Lower rank (rank id)) (sym (rest_skipped first more f id)) (functions_lower more on id)))

front_begins : (front : Code) → AllByRecursion (λ i. is_outer (kind (read i)) ≡ true) front → NoneBegins front
front_begins [] all = tt
front_begins (i ∷ front) all = (outer_no_function (kind (read i)) all.0, front_begins front all.1)

pub lower : {m : Module} {rank : ℕ → ℕ} {front functions : Code} → Stands m rank front functions → (id : ℕ) → Lower rank (rank id) (called_by m.instrs id)
lower {m} {rank} {front} {functions} s id =
    subst (Lower rank (rank id)) (sym (ap (λ c. called_by c id) s.is ∙ skip front functions id (front_begins front s.outer))) (functions_lower functions s.each id)

-- Ways of calls -------------------------------------------------------------------------------------------------------------

module _ (rank : ℕ → ℕ) (code : Code) (falls : (id : ℕ) → Lower rank (rank id) (called_by code id)) where
  any_lower : (most low : ℕ) (p : ℕ → Bool) (ids : List ℕ) → ((id : ℕ) → p id ≡ true → low ≤ rank id) → Lower rank most ids → list_any p ids ≡ true → low < most
  any_lower most low p [] each all h = absurd (true≢false (sym h))
  any_lower most low p (id ∷ ids) each all h = elim (or_cases (p id) _ h) [ inl here ↦ (let below = each id here in omega (arith, below, all.0)) | inr more ↦ any_lower most low p ids each all.1 more ]

  same_rank : (a b : ℕ) → (a == b) ≡ true → rank b ≤ rank a
  same_rank a b h = let e : rank a ≡ rank b = ap rank (eqb-true a b h) in omega (arith, e)

  pub reached : (most from id : ℕ) → reaches_by code most from id ≡ true → rank id ≤ rank from
  unfolding reaches_by
  reached zero from id h = same_rank from id h
  reached (suc most) from id h = elim (or_cases (from == id) _ h) [
    | inl same ↦ same_rank from id same
    | inr more ↦ (let low = any_lower (rank from) (rank id) (λ next. reaches_by code most next id) (called_by code from) (λ next r. reached most next id r) (falls from) more in omega (arith, low))
  ]

  pub chained : (count from : ℕ) → has_chain code count from ≡ true → count ≤ rank from
  unfolding has_chain
  chained zero from h = omega arith
  chained (suc count) from h =
      let low = any_lower (rank from) count (has_chain code count) (called_by code from) (λ next r. chained count next r) (falls from) h in omega (arith, low)
