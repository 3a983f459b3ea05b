-- Variables that a function which was called cannot change, and all its caller's variables behind the call.
use Rattle.std.proofs.Common.{◌≡◌, ◌≢◌, refl, sym, ap, ◌∙◌, subst, ℕ, zero, suc, ◌+◌, ◌<◌, ◌≤◌, Bool, true, false, List, [], ◌∷◌, ◌++◌, length, take, Some, arith}
use Rattle.std.specs.Prelude.{nat_lt, slice_get}
use Rattle.std.proofs.lemmas.List.{length-append, length-take-le}
use Rattle.std.proofs.lemmas.Option.{slice_get_past}
use Rattle.gsl_base.specs.declared.input.Input.{Input}
use Rattle.gsl_words.specs.declared.module.Module.{Module}
use Rattle.gsl_values.specs.declared.value.Value.{Value}
use Rattle.gsl_tree.specs.Around.{Around}
use Rattle.gsl_tree.specs.declared.program.Program.{Program}
use Rattle.gsl_meaning.specs.State as shader
use Rattle.gsl_valid.specs.Placed.{Placed}
use Rattle.gsl_machine.specs.State.{Ids, State, Waiting}
use Rattle.gsl_spv.specs.Sections.{Sections}
use Rattle.gsl_lower_holders.specs.Flow.{Flow}
use Rattle.gsl_lower_law_stmt.specs.OfFollows.{AreTyped, Frame, Global, Good, HasType, Holder, Holds, Interface, Local, Name, Param, Stage, type_named, type_of_global, type_of_interface, value_if, value_of}
use Rattle.gsl_lower_law_stmt.proofs.OfFollows.{holder_number}
use Rattle.gsl_lower_law_returns.specs.Calling.{AreAlike, IsCalled, back_with, is_own, is_shared}

-- ---- the first items of a list

pub get_taken : {A : Type 0} (n : ℕ) (l : List A) (i : ℕ) → i < n → slice_get (take n l) i ≡ slice_get l i
get_taken zero l i less = absurd (omega (arith, less))
get_taken (suc n) [] i less = refl
get_taken (suc n) (x ∷ l) zero less = refl
get_taken (suc n) (x ∷ l) (suc i) less = get_taken n l i (omega (arith, less))

pub get_in_front : {A : Type 0} (l more : List A) (i : ℕ) → i < length l → slice_get (l ++ more) i ≡ slice_get l i
get_in_front [] more i less = absurd (omega (arith, less))
get_in_front (x ∷ l) more zero less = refl
get_in_front (x ∷ l) more (suc i) less = get_in_front l more i (omega (arith, less))

-- ---- behind a call

module _ (m : Module) (input : Input) (whole : Sections) (f g : Frame m input whole) (p : Program) (around inner : Around) (first id : ℕ) (b : Flow) (rest : List Placed) (s t : shader.State) (state last : State)
    (alike : AreAlike around inner) (good : Good m input whole f p around b s state) (called : IsCalled m input whole f g first id state rest) (holds : Holds m input whole g p inner t last) (typed : AreTyped m input whole g p inner t) where
  abbrev count : ℕ
  count = length state.variables

  -- no variable of the caller's but one that was passed is one of the function's
  pub not_seated : (number : ℕ) → number < count → ((name : Name) → is_shared name ≡ true → f.seat name ≢ Some number) → ((holder : ℕ) → first ≤ holder → f.seat (Holder holder) ≢ Some number) → (name : Name) → g.seat name ≢ Some number
  not_seated number less shared passed (Global k) e = shared (Global k) refl (sym (called.shared (Global k) refl) ∙ e)
  not_seated number less shared passed (Interface k) e = shared (Interface k) refl (sym (called.shared (Interface k) refl) ∙ e)
  not_seated number less shared passed (Stage k) e = shared (Stage k) refl (sym (called.shared (Stage k) refl) ∙ e)
  not_seated number less shared passed (Param k) e = let h = called.params k number e in passed h.0 h.1 h.2
  not_seated number less shared passed (Local k) e = let behind = called.own (Local k) number refl e in absurd (omega (arith, less, behind))
  not_seated number less shared passed (Holder k) e = let behind = called.own (Holder k) number refl e in absurd (omega (arith, less, behind))

  many : count ≤ length last.variables
  many = let long : length last.variables ≡ count + length called.begins = holds.count ∙ ap length called.begun ∙ length-append state.variables called.begins in omega (arith, long)

  -- what is none of the function's is as it was when it was called
  pub stays : (number : ℕ) → (number < count → (name : Name) → g.seat name ≢ Some number) → slice_get (take count last.variables) number ≡ slice_get state.variables number
  stays number none = by (nat_lt number count) refl
    where
      by : (b : Bool) → nat_lt number count ≡ b → slice_get (take count last.variables) number ≡ slice_get state.variables number
      by true is =
          let less : number < count = grind (arith, is) in
          get_taken count last.variables number less ∙ holds.outside number (none less) ∙ ap (λ l. slice_get l number) called.begun ∙ get_in_front state.variables called.begins number less
      by false is =
          let past : count ≤ number = grind (arith, is) in
          slice_get_past (take count last.variables) number (let long = length-take-le count last.variables many in omega (arith, long, past)) ∙ sym (slice_get_past state.variables number past)

  below : (name : Name) (number : ℕ) → f.seat name ≡ Some number → number < count
  below name number seat = subst (λ n. number < n) (sym good.holds.count) (f.among name number seat)

  -- a name that has no variable of the module and is no holder
  abbrev IsPrivate : Name → Type 0
  IsPrivate name = ((other : Name) → is_shared other ≡ true → other ≢ name) × ((holder : ℕ) → Holder holder ≢ name)

  private_stays : (name : Name) (number : ℕ) (w : Value) → IsPrivate name → f.seat name ≡ Some number → slice_get state.variables number ≡ Some w → slice_get (take count last.variables) number ≡ Some w
  private_stays name number w private seat there =
      stays number (λ less. not_seated number less (λ other shared e. private.0 other shared (f.apart other name number e seat)) (λ holder passed e. private.1 holder (f.apart (Holder holder) name number e seat))) ∙ there

  -- the first holders are as they were
  pub holders_stay : (holder number : ℕ) → holder < first → f.seat (Holder holder) ≡ Some number → slice_get (take count last.variables) number ≡ slice_get state.variables number
  holders_stay holder number less seat = stays number (λ there. not_seated number there
      (λ other shared e. absurd (let q : true ≡ false = sym shared ∙ ap is_shared (f.apart other (Holder holder) number e seat) in cc))
      (λ other passed e. absurd (let n : other ≡ holder = ap holder_number (f.apart (Holder other) (Holder holder) number e seat) in omega (arith, less, passed, n))))

  -- and so are those that were not passed
  pub others_stay : (holder number : ℕ) → f.seat (Holder holder) ≡ Some number → ((parameter : ℕ) → g.seat (Param parameter) ≢ Some number) → slice_get (take count last.variables) number ≡ slice_get state.variables number
  others_stay holder number seat none = stays number by
    where
      not_shared : (name : Name) → is_shared name ≡ true → g.seat name ≢ Some number
      not_shared name shared e = absurd (let q : true ≡ false = sym shared ∙ ap is_shared (f.apart name (Holder holder) number (sym (called.shared name shared) ∙ e) seat) in cc)

      by : number < count → (name : Name) → g.seat name ≢ Some number
      by less (Global k) = not_shared (Global k) refl
      by less (Interface k) = not_shared (Interface k) refl
      by less (Stage k) = not_shared (Stage k) refl
      by less (Param k) = none k
      by less (Local k) = λ e. absurd (let behind = called.own (Local k) number refl e in omega (arith, less, behind))
      by less (Holder k) = λ e. absurd (let behind = called.own (Holder k) number refl e in omega (arith, less, behind))

  -- what a parameter is at the end, its variable is
  pub params_are : (number : ℕ) (w : Value) → slice_get t.params number ≡ Some w → (seat : ℕ) × (g.seat (Param number) ≡ Some seat) × (slice_get (take count last.variables) seat ≡ Some w)
  params_are number w is =
      let h = holds.values (Param number) w is in
      let passed = called.params number h.0 h.1 in
      (h.0, h.1, get_taken count last.variables h.0 (below (Holder passed.0) h.0 passed.2) ∙ h.2)

  -- ---- the state of the shader and that of the module

  abbrev after : shader.State
  after = back_with s t

  shared_is : (name : Name) (w : Value) → is_shared name ≡ true → value_of g.stages t name ≡ Some w → (number : ℕ) × (f.seat name ≡ Some number) × (slice_get (take count last.variables) number ≡ Some w)
  shared_is name w shared is =
      let h = holds.values name w is in
      let seat = sym (called.shared name shared) ∙ h.1 in
      (h.0, seat, get_taken count last.variables h.0 (below name h.0 seat) ∙ h.2)

  no_param : (number : ℕ) → IsPrivate (Param number)
  no_param number = (λ other shared e. absurd (let q : true ≡ false = sym shared ∙ ap is_shared e in cc), λ holder e. absurd (let q : true ≡ false = ap is_own e in cc))

  abbrev is_local : Name → Bool
  is_local (Global number) = false
  is_local (Interface number) = false
  is_local (Stage number) = false
  is_local (Param number) = false
  is_local (Local number) = true
  is_local (Holder number) = false

  no_local : (number : ℕ) → IsPrivate (Local number)
  no_local number = (λ other shared e. absurd (let q : true ≡ false = sym shared ∙ ap is_shared e in cc), λ holder e. absurd (let q : false ≡ true = ap is_local e in cc))

  private_is : (name : Name) (w : Value) → IsPrivate name → value_of f.stages s name ≡ Some w → (number : ℕ) × (f.seat name ≡ Some number) × (slice_get (take count last.variables) number ≡ Some w)
  private_is name w private is = let h = good.holds.values name w is in (h.0, h.1, private_stays name h.0 w private h.1 h.2)

  values_back : (name : Name) (w : Value) → value_of f.stages after name ≡ Some w → (number : ℕ) × (f.seat name ≡ Some number) × (slice_get (take count last.variables) number ≡ Some w)
  values_back (Global k) w is = shared_is (Global k) w refl is
  values_back (Interface k) w is = shared_is (Interface k) w refl is
  values_back (Stage k) w is = shared_is (Stage k) w refl (ap (λ stages. value_if (slice_get stages k)) called.stages ∙ is)
  values_back (Param k) w is = private_is (Param k) w (no_param k) is
  values_back (Local k) w is = private_is (Local k) w (no_local k) is
  values_back (Holder k) w is = absurd cc

  -- a variable that no name of the caller's has is as it was when the caller began
  outside_back : (number : ℕ) → ((name : Name) → f.seat name ≢ Some number) → slice_get (take count last.variables) number ≡ slice_get f.begun number
  outside_back number none =
      stays number (λ less. not_seated number less (λ other shared. none other) (λ holder passed. none (Holder holder))) ∙ good.holds.outside number none

  pub typed_back : AreTyped m input whole f p around after
  typed_back = record { each = each; choices = typed.choices; blocks = typed.blocks; stages = λ number ty w is has. good.typed.stages number ty w is has }
    where
      each : (name : Name) → HasType m input whole f p around (type_named around name) (value_of f.stages after name)
      each (Global k) = subst (λ l. HasType m input whole f p around (type_of_global (slice_get l k)) (slice_get t.globals k)) alike.globals (typed.each (Global k))
      each (Interface k) = subst (λ l. HasType m input whole f p around (type_of_interface (slice_get l k)) (slice_get t.interfaces k)) alike.interfaces (typed.each (Interface k))
      each (Stage k) = tt
      each (Param k) = good.typed.each (Param k)
      each (Local k) = good.typed.each (Local k)
      each (Holder k) = tt

  -- The caller's state is that of the shader behind the call.
  pub holds_back : (next body : List Placed) (ids own : Ids) (waiting : List Waiting) → Holds m input whole f p around after (record last { rest = next; body = body; ids = ids; own = own; variables = take count last.variables; waiting = waiting })
  holds_back next body ids own waiting = record {
    values = values_back;
    blocks = λ number block_id block is at. holds.blocks number block_id block is (ap (λ l. slice_get l number) called.blocks ∙ at);
    buffers = holds.buffers;
    choices = holds.choices;
    count = length-take-le count last.variables many ∙ good.holds.count;
    outside = outside_back;
  }
