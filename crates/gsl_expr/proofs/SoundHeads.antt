-- Brackets, and the heads of operands and types, stand for the tokens that were taken.
use Rattle.std.proofs.Common.{◌≡◌, ℕ, zero, suc, ◌≤◌, Bool, true, false, cond, ◌&&◌, List, [], ◌∷◌, ◌++◌, length, Ok, refl, sym, ap, subst, append_assoc, arith}
use Rattle.std.proofs.lemmas.List.{append-nil}
use Rattle.gsl_base.specs.declared.fault.Place.{Place}
use Rattle.gsl_base.specs.declared.token.Punct.TheVariants as punct
use Rattle.gsl_base.specs.declared.token.Kind.{Kind}
use Rattle.gsl_base.specs.declared.token.Kind.TheVariants as kind
use Rattle.gsl_syntax.specs.declared.declaration.Name.{Name}
use Rattle.gsl_syntax.specs.declared.expr.Basic.{Basic}
use Rattle.gsl_syntax.specs.declared.expr.Expr.{Expr}
use Rattle.gsl_syntax.specs.declared.expr.Expr.TheVariants as e
use Rattle.gsl_syntax.specs.declared.expr.Dim.{Dim}
use Rattle.gsl_syntax.specs.declared.expr.Dim.TheVariants as dim
use Rattle.gsl_syntax.specs.Phrases.{token, sign, word, IsExpr, IsType, IsDims}
use Rattle.gsl_syntax.specs.Phrases.IsExpr.{index}
use Rattle.gsl_syntax.specs.Phrases as phrases
use Rattle.gsl_syntax.specs.Phrases.IsDims.{no_dims, open_pair, sized}
use Rattle.gsl_expr.specs.declared.rule.Start.TheVariants as start
use Rattle.gsl_expr.specs.declared.rule.Mode.{Mode}
use Rattle.gsl_expr.specs.declared.rule.Mode.TheVariants as mode
use Rattle.gsl_expr.specs.declared.rule.Base.{Base}
use Rattle.gsl_expr.specs.declared.rule.Base.TheVariants as base
use Rattle.gsl_expr.specs.declared.rule.Head.{Head}
use Rattle.gsl_expr.specs.Rules.{start_at}
use Rattle.gsl_expr.specs.Reading.{Tokens, Parser, and_then, ◌>>=◌, pure, take_one, sees, expect}
use Rattle.gsl_expr.specs.Expressions.{is_cond, index_layer, index_one, index_all, head_type, named, keyword, mode_after, level_in, may_be_open, may_be_index, bracket, brackets, dims, named_head, basic_head}
use Rattle.gsl_expr.proofs.Indexes.{none_more, one_more}
use Rattle.gsl_expr.proofs.Taken.{Good, good_ok, good_weaken, good_map, good_front, good_then, good_sign, good_name, good_close}
use Rattle.gsl_expr.proofs.SoundLevels.{level_in_low, cond_is}
use Rattle.gsl_expr.proofs.SoundTells.{Names, starts_basic}

-- ---- lists of brackets

pub dims_append : {ds es : List Dim} {xs ys : Tokens} → IsDims ds xs → IsDims es ys → IsDims (ds ++ es) (xs ++ ys)
dims_append no_dims r = r
dims_append (open_pair q l) r = open_pair q (dims_append l r)
dims_append {es = es} {ys = ys} (sized {p = p} {a = a} {ds = ds} {xs = xs} {ys = zs} q w l) r =
    subst (λ (z : Tokens). IsDims (dim.Sized p a ∷ (ds ++ es)) (sign p punct.LeftBracket ∷ z)) (sym (append_assoc xs (sign q punct.RightBracket ∷ zs) ys)) (sized q w (dims_append l r))

-- one pair of brackets, from the first mode to the second
pub record One (m : Mode) (p : Place) (d : Dim) (n : Mode) (ys : Tokens) : Type 0 where
  pub dims : may_be_open n ≡ true → IsDims (d ∷ []) (sign p punct.LeftBracket ∷ ys)
  pub was_open : may_be_open n ≡ true → may_be_open m ≡ true
  pub indexes : may_be_index n ≡ true → (a : Expr) (zs : Tokens) → IsExpr 15 a zs → IsExpr 15 (index_one a d) (zs ++ sign p punct.LeftBracket ∷ ys)
  pub was_index : may_be_index n ≡ true → may_be_index m ≡ true

-- those that were found so far
pub record Dimmed (first m : Mode) (ds : List Dim) (xs : Tokens) : Type 0 where
  pub dims : may_be_open m ≡ true → IsDims ds xs
  pub indexes : may_be_index m ≡ true → (a : Expr) (zs : Tokens) → IsExpr 15 a zs → IsExpr 15 (index_all a ds) (zs ++ xs)
  pub was_index : may_be_index m ≡ true → may_be_index first ≡ true

pub none_dimmed : (first : Mode) → Dimmed first first [] []
none_dimmed first = record {
  dims = λ h. no_dims;
  indexes = λ h a zs w. subst (λ (b : Expr). IsExpr 15 b (zs ++ [])) (sym (none_more a)) (subst (λ (z : Tokens). IsExpr 15 a z) (sym (append-nil zs)) w);
  was_index = λ h. h;
}

pub more_dimmed : (first m : Mode) (ds : List Dim) (xs : Tokens) (p : Place) (d : Dim) (n : Mode) (ys : Tokens) → Dimmed first m ds xs → One m p d n ys
    → Dimmed first n (ds ++ d ∷ []) (xs ++ sign p punct.LeftBracket ∷ ys)
more_dimmed first m ds xs p d n ys s o = record {
  dims = λ h. dims_append (s.dims (o.was_open h)) (o.dims h);
  indexes = λ h a zs w.
      subst (λ (b : Expr). IsExpr 15 b (zs ++ (xs ++ sign p punct.LeftBracket ∷ ys))) (sym (one_more a ds d))
      (subst (λ (z : Tokens). IsExpr 15 (index_one (index_all a ds) d) z) (append_assoc zs xs (sign p punct.LeftBracket ∷ ys))
      (o.indexes h (index_all a ds) (zs ++ xs) (s.indexes (o.was_index h) a zs w)));
  was_index = λ h. s.was_index (o.was_index h);
}

index_sized : (p q : Place) (a b : Expr) (zs xs : Tokens) → IsExpr 15 a zs → IsExpr 0 b xs
    → IsExpr 15 (index_one a (dim.Sized p b)) (zs ++ sign p punct.LeftBracket ∷ (xs ++ sign q punct.RightBracket ∷ []))
unfolding index_one
index_sized p q a b zs xs v w =
    subst (λ (c : Expr). IsExpr 15 c (zs ++ sign p punct.LeftBracket ∷ (xs ++ sign q punct.RightBracket ∷ []))) (sym (ap (index_layer a) (dim.outs-Sized p b))) (index q (omega arith) v w)

open_one : (m : Mode) (p q : Place) → may_be_open m ≡ true → One m p (dim.Open p) mode.Type (sign q punct.RightBracket ∷ [])
open_one m p q o = record { dims = λ h. open_pair q no_dims; was_open = λ h. o; indexes = λ h. absurd cc; was_index = λ h. absurd cc }

pub sized_one : (m : Mode) (p q : Place) (a : Expr) (xs : Tokens) → IsExpr (level_in m) a xs → One m p (dim.Sized p a) (mode_after m a) (xs ++ sign q punct.RightBracket ∷ [])
sized_one mode.Type p q a xs w = record { dims = λ h. sized q w no_dims; was_open = λ h. h; indexes = λ h. absurd cc; was_index = λ h. h }
sized_one mode.Index p q a xs w = record { dims = λ h. absurd cc; was_open = λ h. h; indexes = λ h b zs v. index_sized p q b a zs xs v w; was_index = λ h. h }
sized_one mode.Either p q a xs w = go (is_cond a) refl
  where
    go : (b : Bool) → is_cond a ≡ b → One mode.Either p (dim.Sized p a) (cond b mode.Either mode.Index) (xs ++ sign q punct.RightBracket ∷ [])
    go true i = record { dims = λ h. sized q (cond_is i w) no_dims; was_open = λ h. h; indexes = λ h b zs v. index_sized p q b a zs xs v w; was_index = λ h. h }
    go false i = record { dims = λ h. absurd cc; was_open = λ h. absurd cc; indexes = λ h b zs v. index_sized p q b a zs xs v w; was_index = λ h. h }

-- ---- a head, which is a name or a type with its brackets

abbrev pub Indexed : Place → Base → List Dim → Tokens → Type 0
Indexed p (base.Named n) ds xs = IsExpr 15 (index_all (e.Name p n) ds) xs
Indexed p (base.Basic b) ds xs = ⊥

-- Whatever its mode lets it be, a head is of these tokens.
pub record Stands (h : Head) (xs : Tokens) : Type 0 where
  pub as_type : may_be_open h.mode ≡ true → IsType (head_type h) xs
  pub as_indexed : may_be_index h.mode ≡ true → Indexed h.place h.base h.dims xs

pub stands_type : {h : Head} {xs : Tokens} → may_be_open h.mode ≡ true → Stands h xs → IsType (head_type h) xs
stands_type o s = s.as_type o

pub named_stands : (n : Name) (r : List Dim × Mode) (ys : Tokens) → Dimmed mode.Either r.1 r.0 ys → Stands (named n r.0 r.1) (token n.place (kind.Name n.text) ∷ ys)
named_stands n r ys d = record { as_type = λ h. phrases.IsType.named (d.dims h); as_indexed = λ h. d.indexes h (e.Name n.place n.text) (token n.place (kind.Name n.text) ∷ []) phrases.IsExpr.name }

pub type_dims : (m : Mode) (ds : List Dim) (xs : Tokens) → Dimmed mode.Type m ds xs → IsDims ds xs
type_dims mode.Either ds xs d = d.dims refl
type_dims mode.Type ds xs d = d.dims refl
type_dims mode.Index ds xs d = let h : false ≡ true = d.was_index refl in absurd cc

module _ (next : ℕ → Parser Expr) (low : (k : ℕ) (ts : Tokens) → k ≤ 2 → Good (IsExpr k) ts (next k ts)) where
  pub bracket_good : (m : Mode) (p : Place) (ts : Tokens) → Good (λ (r : Dim × Mode) (ys : Tokens). One m p r.0 r.1 ys) ts (bracket next m p ts)
  unfolding bracket
  bracket_good m p ts = go (sees punct.RightBracket ts) (may_be_open m) refl refl
    where
      within : Good (λ (r : Dim × Mode) (ys : Tokens). One m p r.0 r.1 ys) ts (and_then (next (level_in m) ts) (λ a. expect punct.RightBracket >>= λ _. pure (dim.Sized p a, mode_after m a)))
      within =
          good_then (IsExpr (level_in m)) (λ (r : Dim × Mode) (ys : Tokens). One m p r.0 r.1 ys) ts (next (level_in m) ts) (λ a. expect punct.RightBracket >>= λ _. pure (dim.Sized p a, mode_after m a)) (low (level_in m) ts (level_in_low m))
          (λ a xs rest split w. good_close (λ (r : Dim × Mode) (ys : Tokens). One m p r.0 r.1 (xs ++ ys)) punct.RightBracket (dim.Sized p a, mode_after m a) rest (λ q. sized_one m p q a xs w))

      go : (b c : Bool) → sees punct.RightBracket ts ≡ b → may_be_open m ≡ c
          → Good (λ (r : Dim × Mode) (ys : Tokens). One m p r.0 r.1 ys) ts (cond (b && c) (and_then (take_one ts) (λ _. pure (dim.Open p, mode.Type))) (and_then (next (level_in m) ts) (λ a. expect punct.RightBracket >>= λ _. pure (dim.Sized p a, mode_after m a))))
      go true true h o =
          good_sign (λ (r : Dim × Mode) (ys : Tokens). One m p r.0 r.1 ys) punct.RightBracket ts (λ _. pure (dim.Open p, mode.Type)) h
          (λ q rest split. good_ok (λ (r : Dim × Mode) (ys : Tokens). One m p r.0 r.1 (sign q punct.RightBracket ∷ ys)) rest (dim.Open p, mode.Type) (open_one m p q o))
      go true false h o = within
      go false true h o = within
      go false false h o = within

  pub brackets_good : (n : ℕ) (first m : Mode) (found : List Dim) (xs ts : Tokens) → Dimmed first m found xs → Good (λ (r : List Dim × Mode) (ys : Tokens). Dimmed first r.1 r.0 (xs ++ ys)) ts (brackets next n m found ts)
  unfolding brackets
  brackets_good zero first m found xs ts d = good_ok (λ (r : List Dim × Mode) (ys : Tokens). Dimmed first r.1 r.0 (xs ++ ys)) ts (found, m) (subst (λ (z : Tokens). Dimmed first m found z) (sym (append-nil xs)) d)
  brackets_good (suc n) first m found xs ts d = go (sees punct.LeftBracket ts) refl (brackets_good n first)
    where
      go : (b : Bool) → sees punct.LeftBracket ts ≡ b
          → ((m : Mode) (found : List Dim) (xs ts : Tokens) → Dimmed first m found xs → Good (λ (r : List Dim × Mode) (ys : Tokens). Dimmed first r.1 r.0 (xs ++ ys)) ts (brackets next n m found ts))
          → Good (λ (r : List Dim × Mode) (ys : Tokens). Dimmed first r.1 r.0 (xs ++ ys)) ts (cond b (and_then (and_then (take_one ts) (bracket next m)) (λ r. brackets next n r.1 (found ++ r.0 ∷ []))) (Ok ((found, m), ts)))
      go false h ih = good_ok (λ (r : List Dim × Mode) (ys : Tokens). Dimmed first r.1 r.0 (xs ++ ys)) ts (found, m) (subst (λ (z : Tokens). Dimmed first m found z) (sym (append-nil xs)) d)
      go true h ih =
          good_then (λ (r : Dim × Mode) (ys : Tokens). Dimmed first r.1 (found ++ r.0 ∷ []) (xs ++ ys)) (λ (r : List Dim × Mode) (ys : Tokens). Dimmed first r.1 r.0 (xs ++ ys)) ts (and_then (take_one ts) (bracket next m)) (λ r. brackets next n r.1 (found ++ r.0 ∷ []))
          (good_sign (λ (r : Dim × Mode) (ys : Tokens). Dimmed first r.1 (found ++ r.0 ∷ []) (xs ++ ys)) punct.LeftBracket ts (bracket next m) h
          (λ p rest split. good_weaken (λ (r : Dim × Mode) (ys : Tokens). One m p r.0 r.1 ys) (λ (r : Dim × Mode) (ys : Tokens). Dimmed first r.1 (found ++ r.0 ∷ []) (xs ++ sign p punct.LeftBracket ∷ ys)) rest (bracket next m p rest) (bracket_good m p rest)
          (λ r ys o. more_dimmed first m found xs p r.0 r.1 ys d o)))
          (λ r ys rest split s. good_weaken (λ (q : List Dim × Mode) (zs : Tokens). Dimmed first q.1 q.0 ((xs ++ ys) ++ zs)) (λ (q : List Dim × Mode) (zs : Tokens). Dimmed first q.1 q.0 (xs ++ (ys ++ zs))) rest (brackets next n r.1 (found ++ r.0 ∷ []) rest)
          (ih r.1 (found ++ r.0 ∷ []) (xs ++ ys) rest s) (λ q zs w. subst (λ (z : Tokens). Dimmed first q.1 q.0 z) (append_assoc xs ys zs) w))

  pub dims_good : (ts : Tokens) → Good IsDims ts (dims next ts)
  unfolding dims
  dims_good ts =
      good_map (λ (r : List Dim × Mode) (ys : Tokens). Dimmed mode.Type r.1 r.0 ys) IsDims (λ r. r.0) ts (brackets next (length ts) mode.Type [] ts) (brackets_good (length ts) mode.Type mode.Type [] [] ts (none_dimmed mode.Type))
      (λ r ys d. type_dims r.1 r.0 ys d)

  pub named_head_good : (ts : Tokens) → Good Stands ts (named_head next ts)
  unfolding named_head
  named_head_good ts =
      good_name Stands ts (λ n ts. and_then (brackets next (length ts) mode.Either [] ts) (λ r. pure (named n r.0 r.1)))
      (λ n rest split. good_map (λ (r : List Dim × Mode) (ys : Tokens). Dimmed mode.Either r.1 r.0 ys) (λ h ys. Stands h (token n.place (kind.Name n.text) ∷ ys)) (λ r. named n r.0 r.1) rest (brackets next (length rest) mode.Either [] rest)
      (brackets_good (length rest) mode.Either mode.Either [] [] rest (none_dimmed mode.Either)) (named_stands n))

  -- a type keyword with its brackets, which may stay a type
  pub basic_open_good : (b : Basic) (ts : Tokens) → start_at ts ≡ start.Basic b → Good (λ h xs. Stands h xs × (may_be_open h.mode ≡ true)) ts (basic_head next b ts)
  unfolding basic_head start_at
  basic_open_good b [] h = tt
  basic_open_good b (t ∷ rest) h = go (starts_basic t.kind b h)
    where
      go : Names b t.kind → Good (λ h xs. Stands h xs × (may_be_open h.mode ≡ true)) (t ∷ rest) (and_then (dims next rest) (λ ds. pure (keyword t.place b ds)))
      go n =
          let is : t ∷ rest ≡ (word t.place n.word ∷ []) ++ rest = ap (λ (k : Kind). token t.place k ∷ rest) n.is in
          good_front (λ h xs. Stands h xs × (may_be_open h.mode ≡ true)) (t ∷ rest) (word t.place n.word ∷ []) rest (and_then (dims next rest) (λ ds. pure (keyword t.place b ds))) is
          (good_map IsDims (λ g ys. Stands g (word t.place n.word ∷ ys) × (may_be_open g.mode ≡ true)) (λ ds. keyword t.place b ds) rest (dims next rest) (dims_good rest)
          (λ ds ys d. (record { as_type = λ i. phrases.IsType.basic n.word n.names d; as_indexed = λ i. absurd cc }, refl)))

  pub basic_head_good : (b : Basic) (ts : Tokens) → start_at ts ≡ start.Basic b → Good Stands ts (basic_head next b ts)
  basic_head_good b ts h = good_weaken (λ h xs. Stands h xs × (may_be_open h.mode ≡ true)) Stands ts (basic_head next b ts) (basic_open_good b ts h) (λ h xs w. w.0)
