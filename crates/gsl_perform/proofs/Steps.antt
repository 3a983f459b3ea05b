-- What is found of each kind of expression, from what is found of its parts.
use Rattle.std.proofs.Common.{◌≡◌, refl, sym, ap, subst, ◌∙◌, ℕ, List, [], ◌∷◌, map}
use Rattle.std.specs.Prelude.{Bool, true, false, if◌then◌else◌, slice_get, Some, None}
use Rattle.gsl_types.specs.declared.ty.Direction.TheVariants.{In, Out, InOut}
use Rattle.gsl_types.specs.declared.ty.StructType.{StructType}
use Rattle.gsl_types.specs.declared.ty.Ty.{Ty}
use Rattle.gsl_values.specs.declared.function.Builtin.{Builtin}
use Rattle.gsl_values.specs.declared.lane.Lanes.{Lanes}
use Rattle.gsl_values.specs.declared.op.BinaryOp.{BinaryOp}
use Rattle.gsl_values.specs.declared.op.UnaryOp.{UnaryOp}
use Rattle.gsl_values.specs.declared.value.Value.{Value}
use Rattle.gsl_values.specs.declared.value.Value.TheVariants.{Word}
use Rattle.gsl_tree.specs.declared.expr.Expr.{Expr, out-Expr}
use Rattle.gsl_tree.specs.declared.expr.ExprKind.{ExprKind, out-ExprKind}
use Rattle.gsl_tree.specs.declared.expr.ExprKind.TheFolds.{fold-Expr, fold-ExprKind, fold-roll-Expr, fold-roll-ExprKind, map-ExprKind}
use Rattle.gsl_tree.specs.declared.expr.ExprKind.TheOpen.{ExprKind-F}
use Rattle.gsl_tree.specs.declared.expr.ExprKind.TheVariants as kind
use Rattle.gsl_tree.specs.declared.expr.ExprKind.TheVariants.{outs-Const, outs-Local, outs-Global, outs-Param, outs-BlockMember, outs-Stage, outs-Interface, outs-Member, outs-Index, outs-Swizzle, outs-Unary, outs-Binary, outs-Logic, outs-Choose, outs-Assign, outs-Convert, outs-Call, outs-Built, outs-Build, outs-Comma, outs-Length, outs-Update, outs-Step}
use Rattle.gsl_tree.specs.declared.expr.ExprKind.TheViews.{roll-out-Expr, roll-out-ExprKind}
use Rattle.gsl_tree.specs.declared.expr.LogicOp.{LogicOp}
use Rattle.gsl_tree.specs.declared.expr.StageVar.{StageVar}
use Rattle.gsl_tree.specs.declared.expr.StepOp.{StepOp}
use Rattle.gsl_tree.specs.Operations.{build_value, builtin_value, has_fixed_length, is_signed, length_of}
use Rattle.gsl_tree.specs.Trees.{type_of}
use Rattle.gsl_tree.specs.Values.{zero_value}
use Rattle.gsl_tree.specs.Weights.{params_of}
use Rattle.gsl_meaning.specs.State.{State}
use Rattle.gsl_meaning.specs.Accesses.{Access, Loose, read, whole}
use Rattle.gsl_meaning.specs.Running.{Ran, Run, Got, Ends, Strays, Goes, behind, given, ◌>>=◌, told_by, drawing}
use Rattle.gsl_meaning.specs.Expressions.{counted, Meant, Setting, in_order, is_signed_first, kind_means, last_of, means, means_by, returning, typed_by, values_of}
use Rattle.gsl_meaning.specs.Stages.{stage_value}
use Rattle.gsl_meaning.proofs.Steps as of
use Rattle.gsl_perform.specs.Framed.{Framed, around}
use Rattle.gsl_perform.specs.declared.parts.Held.{Held}
use Rattle.gsl_perform.specs.declared.world.Found.TheVariants.{Place, Value as Valued}
use Rattle.gsl_perform.specs.Coming.{access_from, accesses, evaluates, evaluates_all, finds, found_by, gave, holds, leads, led, counts, parts_from, passes, passes_all, signed_first, steps, updates, valued_from}

module _ (setting : Setting) where
  abbrev part : Expr → Meant
  part = means setting

  abbrev Kinds : Type 0
  Kinds = Ty → Meant

  abbrev step : ExprKind-F Kinds Meant → Kinds
  step = means_by setting

  abbrev of_kinds : ExprKind → Kinds
  of_kinds = fold-ExprKind Kinds Meant step typed_by

  abbrev of_parts : Expr → Meant
  of_parts = fold-Expr Kinds Meant step typed_by

  -- What leads to a variable has the value that is read there; the rest is accessed as a value in no variable.
  abbrev Agrees : Bool → Meant → Type 0
  Agrees true x = (state : State) (units : ℕ) → x.value state units ≡ behind (x.access state units) (λ a. told_by (read setting.structs x.ty a))
  Agrees false x = (state : State) (units : ℕ) → x.access state units ≡ behind (x.value state units) (λ v. given (whole (Loose v)))

  record Regular (layer : ExprKind-F ExprKind Expr) (ty : Ty) (x : Meant) : Type 0 where
    pub typed : x.ty ≡ ty
    pub agrees : Agrees (leads layer) x
    pub parted : (state : State) → x.parts state ≡ parts_from layer state

  by_layer : (y : ExprKind-F ExprKind Expr) (ty : Ty) → Regular y ty (step (map-ExprKind _ _ _ _ of_kinds of_parts y) ty)
  by_layer (ExprKind-F.Const v) ty = record { typed = refl; agrees = λ state units. refl; parted = λ state. refl }
  by_layer (ExprKind-F.Local n) ty = record { typed = refl; agrees = λ state units. refl; parted = λ state. refl }
  by_layer (ExprKind-F.Global n) ty = record { typed = refl; agrees = λ state units. refl; parted = λ state. refl }
  by_layer (ExprKind-F.Param n) ty = record { typed = refl; agrees = λ state units. refl; parted = λ state. refl }
  by_layer (ExprKind-F.BlockMember b n) ty = record { typed = refl; agrees = λ state units. refl; parted = λ state. refl }
  by_layer (ExprKind-F.Stage v) ty = record { typed = refl; agrees = λ state units. refl; parted = λ state. refl }
  by_layer (ExprKind-F.Interface n) ty = record { typed = refl; agrees = λ state units. refl; parted = λ state. refl }
  by_layer (ExprKind-F.Member a n) ty = record { typed = refl; agrees = λ state units. refl; parted = λ state. refl }
  by_layer (ExprKind-F.Index a i) ty = record { typed = refl; agrees = λ state units. refl; parted = λ state. refl }
  by_layer (ExprKind-F.Swizzle a l) ty = record { typed = refl; agrees = λ state units. refl; parted = λ state. refl }
  by_layer (ExprKind-F.Unary o a) ty = record { typed = refl; agrees = λ state units. refl; parted = λ state. refl }
  by_layer (ExprKind-F.Binary o a b) ty = record { typed = refl; agrees = λ state units. refl; parted = λ state. refl }
  by_layer (ExprKind-F.Logic o a b) ty = record { typed = refl; agrees = λ state units. refl; parted = λ state. refl }
  by_layer (ExprKind-F.Choose t a b) ty = record { typed = refl; agrees = λ state units. refl; parted = λ state. refl }
  by_layer (ExprKind-F.Assign a b) ty = record { typed = refl; agrees = λ state units. refl; parted = λ state. refl }
  by_layer (ExprKind-F.Convert a) ty = record { typed = refl; agrees = λ state units. refl; parted = λ state. refl }
  by_layer (ExprKind-F.Call n es) ty = record { typed = refl; agrees = λ state units. refl; parted = λ state. refl }
  by_layer (ExprKind-F.Built f es) ty = record { typed = refl; agrees = λ state units. refl; parted = λ state. refl }
  by_layer (ExprKind-F.Build es) ty = record { typed = refl; agrees = λ state units. refl; parted = λ state. refl }
  by_layer (ExprKind-F.Comma es) ty = record { typed = refl; agrees = λ state units. refl; parted = λ state. refl }
  by_layer (ExprKind-F.Update o a b) ty = record { typed = refl; agrees = λ state units. refl; parted = λ state. refl }
  by_layer (ExprKind-F.Step o a) ty = record { typed = refl; agrees = λ state units. refl; parted = λ state. refl }
  by_layer (ExprKind-F.Length a) ty = record { typed = refl; agrees = λ state units. refl; parted = λ state. refl }

  regular : (k : ExprKind) (ty : Ty) → Regular (out-ExprKind k) ty (kind_means setting k ty)
  unfolding kind_means
  regular k ty =
      subst (λ z. Regular (out-ExprKind k) ty (of_kinds z ty)) (roll-out-ExprKind k)
      (subst (λ (f : Kinds). Regular (out-ExprKind k) ty (f ty)) (sym (fold-roll-ExprKind Kinds Meant step typed_by (out-ExprKind k))) (by_layer (out-ExprKind k) ty))

  opened : (e : Expr) → means setting e ≡ kind_means setting (out-Expr e).kind (type_of e)
  unfolding means kind_means
  opened e = ap of_parts (sym (roll-out-Expr e)) ∙ fold-roll-Expr Kinds Meant step typed_by (out-Expr e)

  type_is : (e : Expr) → (means setting e).ty ≡ type_of e
  type_is e = ap (λ (x : Meant). x.ty) (opened e) ∙ (regular (out-Expr e).kind (type_of e)).typed

  -- an expression by the words for what it does
  abbrev said : Expr → Meant
  said e = record { ty = type_of e; access = accesses setting e; value = evaluates setting e; parts = (means setting e).parts }

  named : (e : Expr) → means setting e ≡ said e
  unfolding accesses evaluates
  named e = ap (λ t. let x : Meant = record { ty = t; access = (means setting e).access; value = (means setting e).value; parts = (means setting e).parts } in x) (type_is e)

  -- ---- an expression, from what was found

  read_behind : (structs : List StructType) (ty : Ty) (r : Ran Access) → behind r (λ a. told_by (read structs ty a)) ≡ behind (behind r (λ a. given (Place a))) (λ f. told_by (valued_from structs ty f))
  read_behind structs ty (Got a state units) = refl
  read_behind structs ty (Ends state) = refl
  read_behind structs ty Strays = refl
  read_behind structs ty Goes = refl

  same_behind : (structs : List StructType) (ty : Ty) (r : Ran Value) → r ≡ behind (behind r (λ v. given (Valued v))) (λ f. told_by (valued_from structs ty f))
  same_behind structs ty (Got v state units) = refl
  same_behind structs ty (Ends state) = refl
  same_behind structs ty Strays = refl
  same_behind structs ty Goes = refl

  place_behind : (r : Ran Access) → r ≡ behind (behind r (λ a. given (Place a))) (λ f. given (access_from f))
  place_behind (Got a state units) = refl
  place_behind (Ends state) = refl
  place_behind Strays = refl
  place_behind Goes = refl

  loose_behind : (r : Ran Value) → behind r (λ v. given (whole (Loose v))) ≡ behind (behind r (λ v. given (Valued v))) (λ f. given (access_from f))
  loose_behind (Got v state units) = refl
  loose_behind (Ends state) = refl
  loose_behind Strays = refl
  loose_behind Goes = refl

  value_found : (b : Bool) (x : Meant) → Agrees b x → (state : State) (units : ℕ) → x.value state units ≡ behind (found_by b x state units) (λ f. told_by (valued_from setting.structs x.ty f))
  value_found true x agrees state units = agrees state units ∙ read_behind setting.structs x.ty (x.access state units)
  value_found false x agrees state units = same_behind setting.structs x.ty (x.value state units)

  access_found : (b : Bool) (x : Meant) → Agrees b x → (state : State) (units : ℕ) → x.access state units ≡ behind (found_by b x state units) (λ f. given (access_from f))
  access_found true x agrees state units = place_behind (x.access state units)
  access_found false x agrees state units = agrees state units ∙ loose_behind (x.value state units)

  pub evaluates-opens : (e : Expr) (state : State) (units : ℕ) → evaluates setting e state units ≡ behind (finds setting (out-Expr e).kind (type_of e) state units) (λ f. told_by (valued_from setting.structs (type_of e) f))
  unfolding evaluates finds
  evaluates-opens e state units =
      let k = (out-Expr e).kind in
      let ty = type_of e in
      let is = regular k ty in
      ap (λ (x : Meant). x.value state units) (opened e) ∙ value_found (leads (out-ExprKind k)) (kind_means setting k ty) is.agrees state units
      ∙ ap (λ t. behind (found_by (leads (out-ExprKind k)) (kind_means setting k ty) state units) (λ f. told_by (valued_from setting.structs t f))) is.typed

  pub accesses-opens : (e : Expr) (state : State) (units : ℕ) → accesses setting e state units ≡ behind (finds setting (out-Expr e).kind (type_of e) state units) (λ f. given (access_from f))
  unfolding accesses finds
  accesses-opens e state units =
      let k = (out-Expr e).kind in
      let ty = type_of e in
      ap (λ (x : Meant). x.access state units) (opened e) ∙ access_found (leads (out-ExprKind k)) (kind_means setting k ty) (regular k ty).agrees state units

  parts-opens : (e : Expr) (state : State) → (part e).parts state ≡ parts_from (out-ExprKind (out-Expr e).kind) state
  parts-opens e state = ap (λ (x : Meant). x.parts state) (opened e) ∙ (regular (out-Expr e).kind (type_of e)).parted state

  -- ---- every kind

  by_kind : (k : ExprKind) (layer : ExprKind-F ExprKind Expr) (ty : Ty) (x : Meant) (state : State) (units : ℕ) → out-ExprKind k ≡ layer → kind_means setting k ty ≡ x
      → finds setting k ty state units ≡ found_by (leads layer) x state units
  unfolding finds
  by_kind k layer ty x state units is meant =
      ap (λ l. found_by (leads l) (kind_means setting k ty) state units) is ∙ ap (λ y. found_by (leads layer) y state units) meant

  pub finds-Const : (v : Value) (ty : Ty) (state : State) (units : ℕ) → finds setting (kind.Const v) ty state units ≡ gave (step (ExprKind-F.Const v) ty).value state units
  finds-Const v ty state units =
      by_kind (kind.Const v) (ExprKind-F.Const v) ty (step (ExprKind-F.Const v) ty) state units (outs-Const v) (of.of-Const setting v ty)

  pub finds-Local : (n : ℕ) (ty : Ty) (state : State) (units : ℕ) → finds setting (kind.Local n) ty state units ≡ led (step (ExprKind-F.Local n) ty).access state units
  finds-Local n ty state units =
      by_kind (kind.Local n) (ExprKind-F.Local n) ty (step (ExprKind-F.Local n) ty) state units (outs-Local n) (of.of-Local setting n ty)

  pub finds-Global : (n : ℕ) (ty : Ty) (state : State) (units : ℕ) → finds setting (kind.Global n) ty state units ≡ led (step (ExprKind-F.Global n) ty).access state units
  finds-Global n ty state units =
      by_kind (kind.Global n) (ExprKind-F.Global n) ty (step (ExprKind-F.Global n) ty) state units (outs-Global n) (of.of-Global setting n ty)

  pub finds-Param : (n : ℕ) (ty : Ty) (state : State) (units : ℕ) → finds setting (kind.Param n) ty state units ≡ led (step (ExprKind-F.Param n) ty).access state units
  finds-Param n ty state units =
      by_kind (kind.Param n) (ExprKind-F.Param n) ty (step (ExprKind-F.Param n) ty) state units (outs-Param n) (of.of-Param setting n ty)

  pub finds-BlockMember : (b n : ℕ) (ty : Ty) (state : State) (units : ℕ) → finds setting (kind.BlockMember b n) ty state units ≡ led (step (ExprKind-F.BlockMember b n) ty).access state units
  finds-BlockMember b n ty state units =
      by_kind (kind.BlockMember b n) (ExprKind-F.BlockMember b n) ty (step (ExprKind-F.BlockMember b n) ty) state units (outs-BlockMember b n) (of.of-BlockMember setting b n ty)

  pub finds-Stage : (v : StageVar) (ty : Ty) (state : State) (units : ℕ) → finds setting (kind.Stage v) ty state units ≡ gave (step (ExprKind-F.Stage v) ty).value state units
  finds-Stage v ty state units =
      by_kind (kind.Stage v) (ExprKind-F.Stage v) ty (step (ExprKind-F.Stage v) ty) state units (outs-Stage v) (of.of-Stage setting v ty)

  pub finds-Interface : (n : ℕ) (ty : Ty) (state : State) (units : ℕ) → finds setting (kind.Interface n) ty state units ≡ led (step (ExprKind-F.Interface n) ty).access state units
  finds-Interface n ty state units =
      by_kind (kind.Interface n) (ExprKind-F.Interface n) ty (step (ExprKind-F.Interface n) ty) state units (outs-Interface n) (of.of-Interface setting n ty)

  pub finds-Member : (a : Expr) (n : ℕ) (ty : Ty) (state : State) (units : ℕ) → finds setting (kind.Member a n) ty state units ≡ led (step (ExprKind-F.Member (said a) n) ty).access state units
  finds-Member a n ty state units =
      by_kind (kind.Member a n) (ExprKind-F.Member a n) ty (step (ExprKind-F.Member (part a) n) ty) state units (outs-Member a n) (of.of-Member setting a n ty)
      ∙ ap (λ x. led (step (ExprKind-F.Member x n) ty).access state units) (named a)

  pub finds-Index : (a i : Expr) (ty : Ty) (state : State) (units : ℕ) → finds setting (kind.Index a i) ty state units ≡ led (step (ExprKind-F.Index (said a) (said i)) ty).access state units
  finds-Index a i ty state units =
      by_kind (kind.Index a i) (ExprKind-F.Index a i) ty (step (ExprKind-F.Index (part a) (part i)) ty) state units (outs-Index a i) (of.of-Index setting a i ty)
      ∙ ap (λ x. led (step (ExprKind-F.Index x (part i)) ty).access state units) (named a)
      ∙ ap (λ x. led (step (ExprKind-F.Index (said a) x) ty).access state units) (named i)

  pub finds-Swizzle : (a : Expr) (l : Lanes) (ty : Ty) (state : State) (units : ℕ) → finds setting (kind.Swizzle a l) ty state units ≡ led (step (ExprKind-F.Swizzle (said a) l) ty).access state units
  finds-Swizzle a l ty state units =
      by_kind (kind.Swizzle a l) (ExprKind-F.Swizzle a l) ty (step (ExprKind-F.Swizzle (part a) l) ty) state units (outs-Swizzle a l) (of.of-Swizzle setting a l ty)
      ∙ ap (λ x. led (step (ExprKind-F.Swizzle x l) ty).access state units) (named a)

  pub finds-Unary : (o : UnaryOp) (a : Expr) (ty : Ty) (state : State) (units : ℕ) → finds setting (kind.Unary o a) ty state units ≡ gave (step (ExprKind-F.Unary o (said a)) ty).value state units
  finds-Unary o a ty state units =
      by_kind (kind.Unary o a) (ExprKind-F.Unary o a) ty (step (ExprKind-F.Unary o (part a)) ty) state units (outs-Unary o a) (of.of-Unary setting o a ty)
      ∙ ap (λ x. gave (step (ExprKind-F.Unary o x) ty).value state units) (named a)

  pub finds-Binary : (o : BinaryOp) (a b : Expr) (ty : Ty) (state : State) (units : ℕ) → finds setting (kind.Binary o a b) ty state units ≡ gave (step (ExprKind-F.Binary o (said a) (said b)) ty).value state units
  finds-Binary o a b ty state units =
      by_kind (kind.Binary o a b) (ExprKind-F.Binary o a b) ty (step (ExprKind-F.Binary o (part a) (part b)) ty) state units (outs-Binary o a b) (of.of-Binary setting o a b ty)
      ∙ ap (λ x. gave (step (ExprKind-F.Binary o x (part b)) ty).value state units) (named a)
      ∙ ap (λ x. gave (step (ExprKind-F.Binary o (said a) x) ty).value state units) (named b)

  pub finds-Logic : (o : LogicOp) (a b : Expr) (ty : Ty) (state : State) (units : ℕ) → finds setting (kind.Logic o a b) ty state units ≡ gave (step (ExprKind-F.Logic o (said a) (said b)) ty).value state units
  finds-Logic o a b ty state units =
      by_kind (kind.Logic o a b) (ExprKind-F.Logic o a b) ty (step (ExprKind-F.Logic o (part a) (part b)) ty) state units (outs-Logic o a b) (of.of-Logic setting o a b ty)
      ∙ ap (λ x. gave (step (ExprKind-F.Logic o x (part b)) ty).value state units) (named a)
      ∙ ap (λ x. gave (step (ExprKind-F.Logic o (said a) x) ty).value state units) (named b)

  pub finds-Choose : (t a b : Expr) (ty : Ty) (state : State) (units : ℕ) → finds setting (kind.Choose t a b) ty state units ≡ gave (step (ExprKind-F.Choose (said t) (said a) (said b)) ty).value state units
  finds-Choose t a b ty state units =
      by_kind (kind.Choose t a b) (ExprKind-F.Choose t a b) ty (step (ExprKind-F.Choose (part t) (part a) (part b)) ty) state units (outs-Choose t a b) (of.of-Choose setting t a b ty)
      ∙ ap (λ x. gave (step (ExprKind-F.Choose x (part a) (part b)) ty).value state units) (named t)
      ∙ ap (λ x. gave (step (ExprKind-F.Choose (said t) x (part b)) ty).value state units) (named a)
      ∙ ap (λ x. gave (step (ExprKind-F.Choose (said t) (said a) x) ty).value state units) (named b)

  pub finds-Assign : (a b : Expr) (ty : Ty) (state : State) (units : ℕ) → finds setting (kind.Assign a b) ty state units ≡ gave (step (ExprKind-F.Assign (said a) (said b)) ty).value state units
  finds-Assign a b ty state units =
      by_kind (kind.Assign a b) (ExprKind-F.Assign a b) ty (step (ExprKind-F.Assign (part a) (part b)) ty) state units (outs-Assign a b) (of.of-Assign setting a b ty)
      ∙ ap (λ x. gave (step (ExprKind-F.Assign x (part b)) ty).value state units) (named a)
      ∙ ap (λ x. gave (step (ExprKind-F.Assign (said a) x) ty).value state units) (named b)

  pub finds-Convert : (a : Expr) (ty : Ty) (state : State) (units : ℕ) → finds setting (kind.Convert a) ty state units ≡ gave (step (ExprKind-F.Convert (said a)) ty).value state units
  finds-Convert a ty state units =
      by_kind (kind.Convert a) (ExprKind-F.Convert a) ty (step (ExprKind-F.Convert (part a)) ty) state units (outs-Convert a) (of.of-Convert setting a ty)
      ∙ ap (λ x. gave (step (ExprKind-F.Convert x) ty).value state units) (named a)

  counted_is : (a : Expr) (state : State) → counted (part a) state ≡ counts a state
  counted_is a state =
      ap (λ t. if has_fixed_length t then Word (length_of t) else Word ((part a).parts state)) (type_is a)
      ∙ ap (λ c. if has_fixed_length (type_of a) then Word (length_of (type_of a)) else Word c) (parts-opens a state)

  pub finds-Length : (a : Expr) (ty : Ty) (state : State) (units : ℕ) → finds setting (kind.Length a) ty state units ≡ Got (Valued (counts a state)) state units
  finds-Length a ty state units =
      by_kind (kind.Length a) (ExprKind-F.Length a) ty (step (ExprKind-F.Length (part a)) ty) state units (outs-Length a) (of.of-Length setting a ty)
      ∙ ap (λ v. Got (Valued v) state units) (counted_is a state)

  pub holds-opens : (e : Expr) (state : State) (units : ℕ) → holds setting e state units
      ≡ behind (accesses setting e state units) (λ x. told_by (λ after. record { access = x; value = read setting.structs (type_of e) x after }))
  unfolding holds
  holds-opens e state units = refl

  held_first : {A : Type 0} (ty : Ty) (r : Ran Access) (goes : Held → Run A) → behind r (λ x. told_by (read setting.structs ty x) >>= (λ old. goes (record { access = x; value = old })))
      ≡ behind (behind r (λ x. told_by (λ after. record { access = x; value = read setting.structs ty x after }))) goes
  held_first ty (Got x state units) goes = refl
  held_first ty (Ends state) goes = refl
  held_first ty Strays goes = refl
  held_first ty Goes goes = refl

  pub finds-Update : (o : BinaryOp) (a b : Expr) (ty : Ty) (state : State) (units : ℕ) → finds setting (kind.Update o a b) ty state units
      ≡ gave (holds setting a >>= (λ held. evaluates setting b >>= updates held o (is_signed (type_of a)))) state units
  unfolding updates holds
  finds-Update o a b ty state units =
      by_kind (kind.Update o a b) (ExprKind-F.Update o a b) ty (step (ExprKind-F.Update o (part a) (part b)) ty) state units (outs-Update o a b) (of.of-Update setting o a b ty)
      ∙ ap (λ x. gave (step (ExprKind-F.Update o x (part b)) ty).value state units) (named a) ∙ ap (λ x. gave (step (ExprKind-F.Update o (said a) x) ty).value state units) (named b)
      ∙ ap (λ r. behind r (λ v. given (Valued v))) (held_first (type_of a) (accesses setting a state units) (λ held. evaluates setting b >>= updates held o (is_signed (type_of a))))

  pub finds-Step : (o : StepOp) (a : Expr) (ty : Ty) (state : State) (units : ℕ) → finds setting (kind.Step o a) ty state units ≡ gave (holds setting a >>= (λ held. steps held o)) state units
  unfolding steps holds
  finds-Step o a ty state units =
      by_kind (kind.Step o a) (ExprKind-F.Step o a) ty (step (ExprKind-F.Step o (part a)) ty) state units (outs-Step o a) (of.of-Step setting o a ty)
      ∙ ap (λ x. gave (step (ExprKind-F.Step o x) ty).value state units) (named a)
      ∙ ap (λ r. behind r (λ v. given (Valued v))) (held_first (type_of a) (accesses setting a state units) (λ held. steps held o))

  first_signed : (es : List Expr) → is_signed_first (map part es) ≡ signed_first es
  first_signed [] = refl
  first_signed (e ∷ es) = ap is_signed (type_is e)

  pub finds-Call : (number : ℕ) (es : List Expr) (ty : Ty) (state : State) (units : ℕ) → finds setting (kind.Call number es) ty state units
      ≡ gave (passes_all setting (params_of (slice_get setting.prototypes number)) es >>= (λ passed. setting.call number (values_of passed) >>= returning passed)) state units
  unfolding passes_all
  finds-Call number es ty state units = by_kind (kind.Call number es) (ExprKind-F.Call number es) ty (step (ExprKind-F.Call number (map part es)) ty) state units (outs-Call number es) (of.of-Call setting number es ty)

  pub finds-Built : (f : Builtin) (es : List Expr) (ty : Ty) (state : State) (units : ℕ) → finds setting (kind.Built f es) ty state units
      ≡ gave (evaluates_all setting es >>= (λ vs. drawing (builtin_value f (signed_first es) vs))) state units
  unfolding evaluates_all
  finds-Built f es ty state units =
      by_kind (kind.Built f es) (ExprKind-F.Built f es) ty (step (ExprKind-F.Built f (map part es)) ty) state units (outs-Built f es) (of.of-Built setting f es ty)
      ∙ ap (λ b. gave (in_order (map part es) >>= (λ vs. drawing (builtin_value f b vs))) state units) (first_signed es)

  pub finds-Build : (es : List Expr) (ty : Ty) (state : State) (units : ℕ) → finds setting (kind.Build es) ty state units ≡ gave (evaluates_all setting es >>= (λ vs. given (build_value ty vs))) state units
  unfolding evaluates_all
  finds-Build es ty state units = by_kind (kind.Build es) (ExprKind-F.Build es) ty (step (ExprKind-F.Build (map part es)) ty) state units (outs-Build es) (of.of-Build setting es ty)

  pub finds-Comma : (es : List Expr) (ty : Ty) (state : State) (units : ℕ) → finds setting (kind.Comma es) ty state units ≡ gave (evaluates_all setting es >>= (λ vs. given (last_of vs))) state units
  unfolding evaluates_all
  finds-Comma es ty state units = by_kind (kind.Comma es) (ExprKind-F.Comma es) ty (step (ExprKind-F.Comma (map part es)) ty) state units (outs-Comma es) (of.of-Comma setting es ty)

  -- ---- arguments

  pub passes-In : (ty : Ty) (arg : Expr) (state : State) (units : ℕ) → passes setting In ty arg state units ≡ behind (evaluates setting arg state units) (λ v. given (record { value = v; back = None }))
  unfolding passes evaluates
  passes-In ty arg state units = refl

  pub passes-Out : (ty : Ty) (arg : Expr) (state : State) (units : ℕ) → passes setting Out ty arg state units
      ≡ behind (accesses setting arg state units) (λ a. given (record { value = zero_value setting.structs ty; back = Some a }))
  unfolding passes accesses
  passes-Out ty arg state units = refl

  pub passes-InOut : (ty : Ty) (arg : Expr) (state : State) (units : ℕ) → passes setting InOut ty arg state units
      ≡ behind (accesses setting arg state units) (λ a. told_by (λ s. record { value = read setting.structs (type_of arg) a s; back = Some a }))
  unfolding passes accesses
  passes-InOut ty arg state units = ap (λ t. behind ((part arg).access state units) (λ a. told_by (λ s. record { value = read setting.structs t a s; back = Some a }))) (type_is arg)

-- ---- what expressions stand in

pub around-structs : (f : Framed) (depth : ℕ) → (around f depth).structs ≡ f.program.structs
unfolding around
around-structs f depth = refl

pub around-prototypes : (f : Framed) (depth : ℕ) → (around f depth).prototypes ≡ f.program.prototypes
unfolding around
around-prototypes f depth = refl

pub around-stage : (f : Framed) (depth : ℕ) (var : StageVar) → (around f depth).stage_value var ≡ stage_value f.program.local_size f.input var
unfolding around
around-stage f depth var = refl

pub ruleset finds_step = (evaluates-opens, accesses-opens, finds-Const, finds-Local, finds-Global, finds-Param, finds-BlockMember, finds-Stage, finds-Interface, finds-Member, finds-Index, finds-Swizzle, finds-Unary, finds-Binary, finds-Logic, finds-Choose, finds-Assign, finds-Convert, finds-Call, finds-Built, finds-Build, finds-Comma, finds-Length, finds-Update, finds-Step, holds-opens, passes-In, passes-Out, passes-InOut, around-structs, around-prototypes, around-stage)
