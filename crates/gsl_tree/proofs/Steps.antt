-- What is known of an expression, from what is known of its parts.
use Rattle.std.proofs.Common.{◌≡◌, refl, sym, ap, ◌∙◌, ℕ, List, [], ◌∷◌, map, if◌then◌else◌}
use Rattle.std.specs.Prelude.{◌==◌}
use Rattle.gsl_types.specs.declared.ty.Ty.{Ty}
use Rattle.gsl_values.specs.declared.value.Value.{Value}
use Rattle.gsl_values.specs.declared.value.Value.TheVariants.{Word}
use Rattle.gsl_values.specs.declared.lane.Lanes.{Lanes}
use Rattle.gsl_values.specs.declared.op.UnaryOp.{UnaryOp}
use Rattle.gsl_values.specs.declared.op.BinaryOp.{BinaryOp}
use Rattle.gsl_values.specs.declared.function.Builtin.{Builtin}
use Rattle.gsl_tree.specs.declared.expr.Expr.{Expr, out-Expr}
use Rattle.gsl_tree.specs.declared.expr.LogicOp.{LogicOp}
use Rattle.gsl_tree.specs.declared.expr.StepOp.{StepOp}
use Rattle.gsl_tree.specs.declared.expr.StageVar.{StageVar}
use Rattle.gsl_tree.specs.declared.expr.ExprKind.TheVariants as kind
use Rattle.gsl_tree.specs.declared.expr.ExprKind.TheFolds.{fold-Expr, fold-roll-Expr}
use Rattle.gsl_tree.specs.declared.expr.ExprKind.TheViews.{roll-out-Expr}
use Rattle.gsl_tree.specs.declared.folded.Consts.{Consts}
use Rattle.gsl_tree.specs.declared.folded.Standing.{Standing}
use Rattle.gsl_tree.specs.declared.folded.Standing.TheVariants.{Settled, Never}
use Rattle.gsl_tree.specs.Values.{word_in}
use Rattle.gsl_tree.specs.Operations.{unary_value, binary_value, decides, logic_word, build_value, index_value, member_value, swizzle_value, length_of, has_fixed_length, is_signed, builtin_value}
use Rattle.gsl_tree.specs.Drawing.{Drawing, given, strays, ◌>>=◌, drawn, checked}
use Rattle.gsl_tree.specs.Constants.{Stood, Part, known_at, standing_of, worse, worst, standing_by, stood, standing, kind_standing, folded_value, in_order, is_signed_first, gives_by, part_of, gives, kind_gives, standings, gives_all, signed_first}
use Rattle.gsl_tree.specs.Trees.{type_of}
use Rattle.gsl_tree.proofs.Folds as at

module _ (consts : Consts) where
  abbrev standing_part : Expr → Stood
  standing_part = fold-Expr Standing Stood (standing_by consts) stood

  abbrev part : Expr → Part
  part = fold-Expr (Ty → Drawing Value) Part (gives_by consts) part_of

  opened : (e : Expr) → standing_part e ≡ stood (record { ty = type_of e; place = (out-Expr e).place; kind = kind_standing consts (out-Expr e).kind })
  unfolding kind_standing
  opened e = ap standing_part (sym (roll-out-Expr e)) ∙ fold-roll-Expr Standing Stood (standing_by consts) stood (out-Expr e)

  opened_part : (e : Expr) → part e ≡ (type_of e, kind_gives consts (out-Expr e).kind (type_of e))
  unfolding kind_gives
  opened_part e = ap part (sym (roll-out-Expr e)) ∙ fold-roll-Expr (Ty → Drawing Value) Part (gives_by consts) part_of (out-Expr e)

  -- a part has the type of its expression
  pub standing_type : (e : Expr) → (standing_part e).0 ≡ type_of e
  standing_type e = ap (λ (s : Stood). s.0) (opened e)

  pub part_type : (e : Expr) → (part e).0 ≡ type_of e
  part_type e = ap (λ (s : Part). s.0) (opened_part e)

  pub standing_opens : (e : Expr) → standing consts e ≡ kind_standing consts (out-Expr e).kind
  unfolding standing
  standing_opens e = ap (λ (s : Stood). s.1) (opened e)

  pub gives_opens : (e : Expr) (c : List ℕ) → gives consts e c ≡ kind_gives consts (out-Expr e).kind (type_of e) c
  unfolding gives
  gives_opens e c = ap (λ (s : Part). s.1 c) (opened_part e)

  unfold_standing : (e : Expr) → (standing_part e).1 ≡ standing consts e
  unfolding standing
  unfold_standing e = refl

  unfold_gives : (e : Expr) → (part e).1 ≡ gives consts e
  unfolding gives
  unfold_gives e = refl

  worst_is : (es : List Expr) → worst (map standing_part es) ≡ standings consts es
  worst_is [] = refl
  worst_is (e ∷ es) = ap (λ s. worse s (worst (map standing_part es))) (unfold_standing e) ∙ ap (worse (standing consts e)) (worst_is es)

  all_is : (es : List Expr) → in_order (map part es) ≡ gives_all consts es
  all_is [] = refl
  all_is (e ∷ es) =
      ap (λ (m : Drawing Value). m >>= (λ v. in_order (map part es) >>= (λ vs. given (v ∷ vs)))) (unfold_gives e)
      ∙ ap (λ (m : Drawing (List Value)). gives consts e >>= (λ v. m >>= (λ vs. given (v ∷ vs)))) (all_is es)

  first_is : (es : List Expr) → is_signed_first (map part es) ≡ signed_first es
  first_is [] = refl
  first_is (e ∷ es) = ap is_signed (part_type e)

  pub standing-Const : (v : Value) → kind_standing consts (kind.Const v) ≡ Settled
  unfolding kind_standing standing
  standing-Const v = at.at-Const Standing Stood (standing_by consts) stood v

  pub standing-Local : (n : ℕ) → kind_standing consts (kind.Local n) ≡ standing_of (known_at consts.locals n)
  unfolding kind_standing standing
  standing-Local n = at.at-Local Standing Stood (standing_by consts) stood n

  pub standing-Global : (n : ℕ) → kind_standing consts (kind.Global n) ≡ standing_of (known_at consts.globals n)
  unfolding kind_standing standing
  standing-Global n = at.at-Global Standing Stood (standing_by consts) stood n

  pub standing-Param : (n : ℕ) → kind_standing consts (kind.Param n) ≡ Never
  unfolding kind_standing standing
  standing-Param n = at.at-Param Standing Stood (standing_by consts) stood n

  pub standing-BlockMember : (b : ℕ) (n : ℕ) → kind_standing consts (kind.BlockMember b n) ≡ Never
  unfolding kind_standing standing
  standing-BlockMember b n = at.at-BlockMember Standing Stood (standing_by consts) stood b n

  pub standing-Stage : (v : StageVar) → kind_standing consts (kind.Stage v) ≡ Never
  unfolding kind_standing standing
  standing-Stage v = at.at-Stage Standing Stood (standing_by consts) stood v

  pub standing-Interface : (n : ℕ) → kind_standing consts (kind.Interface n) ≡ Never
  unfolding kind_standing standing
  standing-Interface n = at.at-Interface Standing Stood (standing_by consts) stood n

  pub standing-Member : (a : Expr) (n : ℕ) → kind_standing consts (kind.Member a n) ≡ standing consts a
  unfolding kind_standing standing
  standing-Member a n = at.at-Member Standing Stood (standing_by consts) stood a n

  pub standing-Index : (a : Expr) (i : Expr) → kind_standing consts (kind.Index a i) ≡ worse (standing consts a) (standing consts i)
  unfolding kind_standing standing
  standing-Index a i = at.at-Index Standing Stood (standing_by consts) stood a i

  pub standing-Swizzle : (a : Expr) (l : Lanes) → kind_standing consts (kind.Swizzle a l) ≡ standing consts a
  unfolding kind_standing standing
  standing-Swizzle a l = at.at-Swizzle Standing Stood (standing_by consts) stood a l

  pub standing-Length : (a : Expr) → kind_standing consts (kind.Length a) ≡ (if has_fixed_length (type_of a) then Settled else Never)
  unfolding kind_standing standing
  standing-Length a = at.at-Length Standing Stood (standing_by consts) stood a ∙ ap (λ t. if has_fixed_length t then Settled else Never) (standing_type a)

  pub standing-Unary : (o : UnaryOp) (a : Expr) → kind_standing consts (kind.Unary o a) ≡ standing consts a
  unfolding kind_standing standing
  standing-Unary o a = at.at-Unary Standing Stood (standing_by consts) stood o a

  pub standing-Binary : (o : BinaryOp) (a : Expr) (b : Expr) → kind_standing consts (kind.Binary o a b) ≡ worse (standing consts a) (standing consts b)
  unfolding kind_standing standing
  standing-Binary o a b = at.at-Binary Standing Stood (standing_by consts) stood o a b

  pub standing-Logic : (o : LogicOp) (a : Expr) (b : Expr) → kind_standing consts (kind.Logic o a b) ≡ worse (standing consts a) (standing consts b)
  unfolding kind_standing standing
  standing-Logic o a b = at.at-Logic Standing Stood (standing_by consts) stood o a b

  pub standing-Choose : (t : Expr) (a : Expr) (b : Expr) → kind_standing consts (kind.Choose t a b) ≡ worse (standing consts t) (worse (standing consts a) (standing consts b))
  unfolding kind_standing standing
  standing-Choose t a b = at.at-Choose Standing Stood (standing_by consts) stood t a b

  pub standing-Assign : (a : Expr) (b : Expr) → kind_standing consts (kind.Assign a b) ≡ Never
  unfolding kind_standing standing
  standing-Assign a b = at.at-Assign Standing Stood (standing_by consts) stood a b

  pub standing-Update : (o : BinaryOp) (a : Expr) (b : Expr) → kind_standing consts (kind.Update o a b) ≡ Never
  unfolding kind_standing standing
  standing-Update o a b = at.at-Update Standing Stood (standing_by consts) stood o a b

  pub standing-Step : (o : StepOp) (a : Expr) → kind_standing consts (kind.Step o a) ≡ Never
  unfolding kind_standing standing
  standing-Step o a = at.at-Step Standing Stood (standing_by consts) stood o a

  pub standing-Call : (n : ℕ) (es : List Expr) → kind_standing consts (kind.Call n es) ≡ Never
  unfolding kind_standing standing
  standing-Call n es = at.at-Call Standing Stood (standing_by consts) stood n es

  pub standing-Built : (f : Builtin) (es : List Expr) → kind_standing consts (kind.Built f es) ≡ standings consts es
  unfolding kind_standing standing
  standing-Built f es = at.at-Built Standing Stood (standing_by consts) stood f es ∙ worst_is es

  pub standing-Build : (es : List Expr) → kind_standing consts (kind.Build es) ≡ standings consts es
  unfolding kind_standing standing
  standing-Build es = at.at-Build Standing Stood (standing_by consts) stood es ∙ worst_is es

  pub standing-Convert : (a : Expr) → kind_standing consts (kind.Convert a) ≡ standing consts a
  unfolding kind_standing standing
  standing-Convert a = at.at-Convert Standing Stood (standing_by consts) stood a

  pub standing-Comma : (es : List Expr) → kind_standing consts (kind.Comma es) ≡ Never
  unfolding kind_standing standing
  standing-Comma es = at.at-Comma Standing Stood (standing_by consts) stood es

  pub gives-Const : (v : Value) (ty : Ty) (c : List ℕ) → kind_gives consts (kind.Const v) ty c ≡ given v c
  unfolding kind_gives gives
  gives-Const v ty c = ap (λ (m : Ty → Drawing Value). m ty c) (at.at-Const (Ty → Drawing Value) Part (gives_by consts) part_of v)

  pub gives-Local : (n : ℕ) (ty : Ty) (c : List ℕ) → kind_gives consts (kind.Local n) ty c ≡ folded_value (known_at consts.locals n) c
  unfolding kind_gives gives
  gives-Local n ty c = ap (λ (m : Ty → Drawing Value). m ty c) (at.at-Local (Ty → Drawing Value) Part (gives_by consts) part_of n)

  pub gives-Global : (n : ℕ) (ty : Ty) (c : List ℕ) → kind_gives consts (kind.Global n) ty c ≡ folded_value (known_at consts.globals n) c
  unfolding kind_gives gives
  gives-Global n ty c = ap (λ (m : Ty → Drawing Value). m ty c) (at.at-Global (Ty → Drawing Value) Part (gives_by consts) part_of n)

  pub gives-Param : (n : ℕ) (ty : Ty) (c : List ℕ) → kind_gives consts (kind.Param n) ty c ≡ strays c
  unfolding kind_gives gives
  gives-Param n ty c = ap (λ (m : Ty → Drawing Value). m ty c) (at.at-Param (Ty → Drawing Value) Part (gives_by consts) part_of n)

  pub gives-BlockMember : (b : ℕ) (n : ℕ) (ty : Ty) (c : List ℕ) → kind_gives consts (kind.BlockMember b n) ty c ≡ strays c
  unfolding kind_gives gives
  gives-BlockMember b n ty c = ap (λ (m : Ty → Drawing Value). m ty c) (at.at-BlockMember (Ty → Drawing Value) Part (gives_by consts) part_of b n)

  pub gives-Stage : (v : StageVar) (ty : Ty) (c : List ℕ) → kind_gives consts (kind.Stage v) ty c ≡ strays c
  unfolding kind_gives gives
  gives-Stage v ty c = ap (λ (m : Ty → Drawing Value). m ty c) (at.at-Stage (Ty → Drawing Value) Part (gives_by consts) part_of v)

  pub gives-Interface : (n : ℕ) (ty : Ty) (c : List ℕ) → kind_gives consts (kind.Interface n) ty c ≡ strays c
  unfolding kind_gives gives
  gives-Interface n ty c = ap (λ (m : Ty → Drawing Value). m ty c) (at.at-Interface (Ty → Drawing Value) Part (gives_by consts) part_of n)

  pub gives-Member : (a : Expr) (n : ℕ) (ty : Ty) (c : List ℕ) → kind_gives consts (kind.Member a n) ty c ≡ (gives consts a >>= (λ v. given (member_value v n))) c
  unfolding kind_gives gives
  gives-Member a n ty c = ap (λ (m : Ty → Drawing Value). m ty c) (at.at-Member (Ty → Drawing Value) Part (gives_by consts) part_of a n)

  pub gives-Index : (a : Expr) (i : Expr) (ty : Ty) (c : List ℕ) → kind_gives consts (kind.Index a i) ty c ≡ (gives consts a >>= (λ v. gives consts i >>= (λ at_index. checked (index_value v (word_in at_index))))) c
  unfolding kind_gives gives
  gives-Index a i ty c = ap (λ (m : Ty → Drawing Value). m ty c) (at.at-Index (Ty → Drawing Value) Part (gives_by consts) part_of a i)

  pub gives-Swizzle : (a : Expr) (l : Lanes) (ty : Ty) (c : List ℕ) → kind_gives consts (kind.Swizzle a l) ty c ≡ (gives consts a >>= (λ v. given (swizzle_value v l))) c
  unfolding kind_gives gives
  gives-Swizzle a l ty c = ap (λ (m : Ty → Drawing Value). m ty c) (at.at-Swizzle (Ty → Drawing Value) Part (gives_by consts) part_of a l)

  pub gives-Length : (a : Expr) (ty : Ty) (c : List ℕ) → kind_gives consts (kind.Length a) ty c ≡ given (Word (length_of (type_of a))) c
  unfolding kind_gives gives
  gives-Length a ty c = ap (λ (m : Ty → Drawing Value). m ty c) (at.at-Length (Ty → Drawing Value) Part (gives_by consts) part_of a) ∙ ap (λ t. given (Word (length_of t)) c) (part_type a)

  pub gives-Unary : (o : UnaryOp) (a : Expr) (ty : Ty) (c : List ℕ) → kind_gives consts (kind.Unary o a) ty c ≡ (gives consts a >>= (λ v. given (unary_value o v))) c
  unfolding kind_gives gives
  gives-Unary o a ty c = ap (λ (m : Ty → Drawing Value). m ty c) (at.at-Unary (Ty → Drawing Value) Part (gives_by consts) part_of o a)

  pub gives-Binary : (o : BinaryOp) (a : Expr) (b : Expr) (ty : Ty) (c : List ℕ) → kind_gives consts (kind.Binary o a b) ty c ≡ (gives consts a >>= (λ x. gives consts b >>= (λ y. drawn (binary_value o (is_signed (type_of a)) x y)))) c
  unfolding kind_gives gives
  gives-Binary o a b ty c = ap (λ (m : Ty → Drawing Value). m ty c) (at.at-Binary (Ty → Drawing Value) Part (gives_by consts) part_of o a b) ∙ ap (λ t. (gives consts a >>= (λ x. gives consts b >>= (λ y. drawn (binary_value o (is_signed t) x y)))) c) (part_type a)

  pub gives-Logic : (o : LogicOp) (a : Expr) (b : Expr) (ty : Ty) (c : List ℕ) → kind_gives consts (kind.Logic o a b) ty c ≡ (gives consts a >>= (λ x. if decides o (word_in x) then given x else gives consts b >>= (λ y. given (Word (logic_word o (word_in x) (word_in y)))))) c
  unfolding kind_gives gives
  gives-Logic o a b ty c = ap (λ (m : Ty → Drawing Value). m ty c) (at.at-Logic (Ty → Drawing Value) Part (gives_by consts) part_of o a b)

  pub gives-Choose : (t : Expr) (a : Expr) (b : Expr) (ty : Ty) (c : List ℕ) → kind_gives consts (kind.Choose t a b) ty c ≡ (gives consts t >>= (λ x. if word_in x == 0 then gives consts b else gives consts a)) c
  unfolding kind_gives gives
  gives-Choose t a b ty c = ap (λ (m : Ty → Drawing Value). m ty c) (at.at-Choose (Ty → Drawing Value) Part (gives_by consts) part_of t a b)

  pub gives-Assign : (a : Expr) (b : Expr) (ty : Ty) (c : List ℕ) → kind_gives consts (kind.Assign a b) ty c ≡ strays c
  unfolding kind_gives gives
  gives-Assign a b ty c = ap (λ (m : Ty → Drawing Value). m ty c) (at.at-Assign (Ty → Drawing Value) Part (gives_by consts) part_of a b)

  pub gives-Update : (o : BinaryOp) (a : Expr) (b : Expr) (ty : Ty) (c : List ℕ) → kind_gives consts (kind.Update o a b) ty c ≡ strays c
  unfolding kind_gives gives
  gives-Update o a b ty c = ap (λ (m : Ty → Drawing Value). m ty c) (at.at-Update (Ty → Drawing Value) Part (gives_by consts) part_of o a b)

  pub gives-Step : (o : StepOp) (a : Expr) (ty : Ty) (c : List ℕ) → kind_gives consts (kind.Step o a) ty c ≡ strays c
  unfolding kind_gives gives
  gives-Step o a ty c = ap (λ (m : Ty → Drawing Value). m ty c) (at.at-Step (Ty → Drawing Value) Part (gives_by consts) part_of o a)

  pub gives-Call : (n : ℕ) (es : List Expr) (ty : Ty) (c : List ℕ) → kind_gives consts (kind.Call n es) ty c ≡ strays c
  unfolding kind_gives gives
  gives-Call n es ty c = ap (λ (m : Ty → Drawing Value). m ty c) (at.at-Call (Ty → Drawing Value) Part (gives_by consts) part_of n es)

  pub gives-Built : (f : Builtin) (es : List Expr) (ty : Ty) (c : List ℕ) → kind_gives consts (kind.Built f es) ty c ≡ (gives_all consts es >>= (λ vs. drawn (builtin_value f (signed_first es) vs))) c
  unfolding kind_gives gives
  gives-Built f es ty c = ap (λ (m : Ty → Drawing Value). m ty c) (at.at-Built (Ty → Drawing Value) Part (gives_by consts) part_of f es) ∙ ap (λ (m : Drawing (List Value)). (m >>= (λ vs. drawn (builtin_value f (is_signed_first (map part es)) vs))) c) (all_is es) ∙ ap (λ s. (gives_all consts es >>= (λ vs. drawn (builtin_value f s vs))) c) (first_is es)

  pub gives-Build : (es : List Expr) (ty : Ty) (c : List ℕ) → kind_gives consts (kind.Build es) ty c ≡ (gives_all consts es >>= (λ vs. given (build_value ty vs))) c
  unfolding kind_gives gives
  gives-Build es ty c = ap (λ (m : Ty → Drawing Value). m ty c) (at.at-Build (Ty → Drawing Value) Part (gives_by consts) part_of es) ∙ ap (λ (m : Drawing (List Value)). (m >>= (λ vs. given (build_value ty vs))) c) (all_is es)

  pub gives-Convert : (a : Expr) (ty : Ty) (c : List ℕ) → kind_gives consts (kind.Convert a) ty c ≡ gives consts a c
  unfolding kind_gives gives
  gives-Convert a ty c = ap (λ (m : Ty → Drawing Value). m ty c) (at.at-Convert (Ty → Drawing Value) Part (gives_by consts) part_of a)

  pub gives-Comma : (es : List Expr) (ty : Ty) (c : List ℕ) → kind_gives consts (kind.Comma es) ty c ≡ strays c
  unfolding kind_gives gives
  gives-Comma es ty c = ap (λ (m : Ty → Drawing Value). m ty c) (at.at-Comma (Ty → Drawing Value) Part (gives_by consts) part_of es)

pub ruleset standings_step = (standing-Const, standing-Local, standing-Global, standing-Param, standing-BlockMember, standing-Stage, standing-Interface, standing-Member, standing-Index, standing-Swizzle, standing-Length, standing-Unary, standing-Binary, standing-Logic, standing-Choose, standing-Assign, standing-Update, standing-Step, standing-Call, standing-Built, standing-Build, standing-Convert, standing-Comma, standing_opens)

pub ruleset gives_step = (gives-Const, gives-Local, gives-Global, gives-Param, gives-BlockMember, gives-Stage, gives-Interface, gives-Member, gives-Index, gives-Swizzle, gives-Length, gives-Unary, gives-Binary, gives-Logic, gives-Choose, gives-Assign, gives-Update, gives-Step, gives-Call, gives-Built, gives-Build, gives-Convert, gives-Comma, gives_opens)
