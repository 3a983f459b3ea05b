-- What the tokens of an expression give the reader, whatever stands behind them.
use Rattle.std.proofs.Common.{◌≡◌, refl, sym, ap, subst, ◌∙◌, ℕ, zero, suc, ◌+◌, ◌≤◌, ◌<◌, Bool, true, false, List, [], ◌∷◌, ◌++◌, length, Ok, max, append_assoc, append-nil, length-append, if◌then◌else◌, arith}
use Rattle.gsl_base.specs.declared.fault.Place.{Place}
use Rattle.gsl_base.specs.declared.token.Punct.TheVariants as punct
use Rattle.gsl_base.specs.declared.token.Kind.TheVariants as kind
use Rattle.gsl_base.specs.declared.token.Token.{Token}
use Rattle.gsl_syntax.specs.declared.expr.Expr.{Expr}
use Rattle.gsl_syntax.specs.declared.expr.Expr.TheVariants as e
use Rattle.gsl_syntax.specs.declared.expr.Dim.{Dim}
use Rattle.gsl_syntax.specs.declared.expr.Dim.TheVariants as dim
use Rattle.gsl_syntax.specs.Phrases.{token, sign}
use Rattle.gsl_expr.specs.declared.rule.Mode.{Mode}
use Rattle.gsl_expr.specs.declared.rule.Mode.TheVariants as mode
use Rattle.gsl_expr.specs.Rules.{follow_at, binds}
use Rattle.gsl_expr.specs.Reading.{Tokens, sees}
use Rattle.gsl_expr.specs.Expressions.{is_cond, index_all, mode_after, level_in, may_be_index, brackets, expr}
use Rattle.gsl_expr.proofs.Ends.{Ends, right_bracket_ends, ends_too}
use Rattle.gsl_expr.proofs.Indexes.{sized_more}
use Rattle.gsl_expr.proofs.Openings.{Opens, not_right_bracket}
use Rattle.gsl_expr.proofs.Signs.{Apart, loose_no_bracket, end_binds}
use Rattle.gsl_expr.proofs.Climbing.{single, Climbs, climb_from, climbs_at, climb_single, tailed_end, tailed_high, expr_single}
use Rattle.gsl_expr.proofs.Pieces.{brackets_stop, brackets_sized, operand_chain}

-- The brackets up to rest are read as ds, and the reader goes on from rest.
pub record Found (d fuel : ℕ) (m : Mode) (before ds : List Dim) (ts rest : Tokens) : Type 0 where
  pub left : ℕ
  pub enough : length rest ≤ left
  pub behind : Mode
  pub index : may_be_index behind ≡ true
  pub is : brackets (expr d) fuel m before ts ≡ brackets (expr d) left behind (before ++ ds) rest

-- brackets that are indexes
pub record Pairs (ds : List Dim) (ys : Tokens) : Type 0 where
  pub found : (d fuel : ℕ) (m : Mode) (before : List Dim) (rest : Tokens) → length (ys ++ rest) ≤ suc d → length (ys ++ rest) ≤ fuel → may_be_index m ≡ true → Found d fuel m before ds (ys ++ rest) rest

-- a name with indexes alone
pub record Chain (a : Expr) (xs : Tokens) : Type 0 where
  pub place : Place
  pub text : List ℕ
  pub dims : List Dim
  pub behind : Tokens
  pub tree : a ≡ index_all (e.Name place text) dims
  pub tokens : xs ≡ token place (kind.Name text) ∷ behind
  pub pairs : Pairs dims behind

-- operands and operators that bind at least so tightly
pub record Joins (j : ℕ) (a : Expr) (xs : Tokens) : Type 0 where
  pub climbs : (d low : ℕ) (rest : Tokens) → length (xs ++ rest) ≤ suc d → low ≤ j → binds (follow_at rest) ≤ j → sees punct.LeftParen rest ≡ false → Climbs (expr d) low (xs ++ rest) a rest

-- a condition or an assignment
pub record Singles (j : ℕ) (a : Expr) (xs : Tokens) : Type 0 where
  pub reads : (d least : ℕ) (rest : Tokens) → length (xs ++ rest) ≤ suc d → least ≤ j → Ends 1 rest → single (expr d) least (xs ++ rest) ≡ Ok (a, rest)

-- expressions with commas between
pub record Wholes (a : Expr) (xs : Tokens) : Type 0 where
  pub reads : (d : ℕ) (rest : Tokens) → length (xs ++ rest) ≤ suc d → Ends 0 rest → expr (suc d) 0 (xs ++ rest) ≡ Ok (a, rest)

pub data Stands (k : ℕ) (a : Expr) (xs : Tokens) : Type 0 where
  chained : Chain a xs → Stands k a xs
  joined : (j : ℕ) → k ≤ j → 3 ≤ j → Joins j a xs → Stands k a xs
  tailed : (j : ℕ) → k ≤ j → j ≤ 2 → Singles j a xs → Stands k a xs
  listed : k ≤ 0 → Wholes a xs → Stands k a xs

-- an expression that is read by itself
pub record Given (k : ℕ) (a : Expr) (xs : Tokens) : Type 0 where
  pub reads : (d least : ℕ) (rest : Tokens) → length (xs ++ rest) ≤ d → least ≤ k → least ≤ 2 → Ends least rest → expr d least (xs ++ rest) ≡ Ok (a, rest)
  pub opens : (rest : Tokens) → Opens (xs ++ rest)

-- ---- lists of tokens

pub regroup : (xs : Tokens) (t : Token) (ys rest : Tokens) → (xs ++ t ∷ ys) ++ rest ≡ xs ++ t ∷ (ys ++ rest)
regroup xs t ys rest = append_assoc xs (t ∷ ys) rest

pub regroup_two : (xs : Tokens) (t : Token) (ys : Tokens) (u : Token) (zs rest : Tokens) → (xs ++ t ∷ (ys ++ u ∷ zs)) ++ rest ≡ xs ++ t ∷ (ys ++ u ∷ (zs ++ rest))
regroup_two xs t ys u zs rest = append_assoc xs (t ∷ (ys ++ u ∷ zs)) rest ∙ ap (λ (z : Tokens). xs ++ t ∷ z) (append_assoc ys (u ∷ zs) rest)

pub regroup_behind : (xs ys : Tokens) (t : Token) (zs rest : Tokens) → (xs ++ (ys ++ t ∷ zs)) ++ rest ≡ xs ++ (ys ++ t ∷ (zs ++ rest))
regroup_behind xs ys t zs rest = append_assoc xs (ys ++ t ∷ zs) rest ∙ ap (λ (z : Tokens). xs ++ z) (regroup ys t zs rest)

pub longer : (xs : Tokens) (t : Token) (ys : Tokens) → length (xs ++ t ∷ ys) ≡ length xs + suc (length ys)
longer xs t ys = length-append xs (t ∷ ys)

-- ---- where an expression ends

pub ends_apart : {k : ℕ} {rest : Tokens} → Ends k rest → Apart rest
ends_apart {rest = rest} ends = let none = end_binds rest ends.follow in record { bracket = loose_no_bracket rest (omega arith); paren = ends.paren }

-- ---- chains

level_index : (m : Mode) → may_be_index m ≡ true → level_in m ≡ 0
level_index mode.Either h = refl
level_index mode.Type h = absurd cc
level_index mode.Index h = refl

index_by : (c : Bool) → may_be_index (if c then mode.Either else mode.Index) ≡ true
index_by true = refl
index_by false = refl

index_after : (m : Mode) (b : Expr) → may_be_index m ≡ true → may_be_index (mode_after m b) ≡ true
index_after mode.Either b h = index_by (is_cond b)
index_after mode.Type b h = absurd cc
index_after mode.Index b h = refl

pub chain_name : (p : Place) (n : List ℕ) → Chain (e.Name p n) (token p (kind.Name n) ∷ [])
unfolding index_all
chain_name p n = record {
  place = p;
  text = n;
  dims = [];
  behind = [];
  tree = refl;
  tokens = refl;
  pairs = record { found = λ d fuel m before rest fits most h. record { left = fuel; enough = most; behind = m; index = h; is = ap (λ (z : List Dim). brackets (expr d) fuel m z rest) (sym (append-nil before)) } };
}

found_more : (d fuel : ℕ) (m : Mode) (before ds : List Dim) (ts : Tokens) (p q : Place) (b : Expr) (zs rest : Tokens) → Found d fuel m before ds ts (sign p punct.LeftBracket ∷ zs) → sees punct.RightBracket zs ≡ false
    → expr d 0 zs ≡ Ok (b, sign q punct.RightBracket ∷ rest) → length rest ≤ length zs → Found d fuel m before (ds ++ dim.Sized p b ∷ []) ts rest
found_more d fuel m before ds ts p q b zs rest f apart x le = go f.left refl
  where
    go : (n : ℕ) → f.left ≡ n → Found d fuel m before (ds ++ dim.Sized p b ∷ []) ts rest
    go zero e = let some = f.enough in absurd (omega arith)
    go (suc n) e = let enough = f.enough in record {
      left = n;
      enough = omega arith;
      behind = mode_after f.behind b;
      index = index_after f.behind b f.index;
      is = f.is
          ∙ ap (λ (z : ℕ). brackets (expr d) z f.behind (before ++ ds) (sign p punct.LeftBracket ∷ zs)) e
          ∙ brackets_sized (expr d) n f.behind (before ++ ds) p q b zs rest apart (ap (λ (z : ℕ). expr d z zs) (level_index f.behind f.index) ∙ x)
          ∙ ap (λ (z : List Dim). brackets (expr d) n (mode_after f.behind b) z rest) (append_assoc before ds (dim.Sized p b ∷ []));
    }

found_at : {d fuel : ℕ} {m : Mode} {before ds : List Dim} {ts us rest : Tokens} → us ≡ ts → Found d fuel m before ds ts rest → Found d fuel m before ds us rest
found_at {d = d} {fuel = fuel} {m = m} {before = before} e f = record { left = f.left; enough = f.enough; behind = f.behind; index = f.index; is = ap (brackets (expr d) fuel m before) e ∙ f.is }

pairs_more : (p q : Place) (b : Expr) (ds : List Dim) (ys zs : Tokens) → Pairs ds ys → Given 0 b zs → Pairs (ds ++ dim.Sized p b ∷ []) (ys ++ sign p punct.LeftBracket ∷ (zs ++ sign q punct.RightBracket ∷ []))
pairs_more p q b ds ys zs c g = record { found = go }
  where
    go : (d fuel : ℕ) (m : Mode) (before : List Dim) (rest : Tokens) → length ((ys ++ sign p punct.LeftBracket ∷ (zs ++ sign q punct.RightBracket ∷ [])) ++ rest) ≤ suc d
        → length ((ys ++ sign p punct.LeftBracket ∷ (zs ++ sign q punct.RightBracket ∷ [])) ++ rest) ≤ fuel → may_be_index m ≡ true
        → Found d fuel m before (ds ++ dim.Sized p b ∷ []) ((ys ++ sign p punct.LeftBracket ∷ (zs ++ sign q punct.RightBracket ∷ [])) ++ rest) rest
    go d fuel m before rest fits most h =
        let us = zs ++ sign q punct.RightBracket ∷ rest in
        let same : (ys ++ sign p punct.LeftBracket ∷ (zs ++ sign q punct.RightBracket ∷ [])) ++ rest ≡ ys ++ sign p punct.LeftBracket ∷ us = regroup_two ys (sign p punct.LeftBracket) zs (sign q punct.RightBracket) [] rest in
        let long = longer ys (sign p punct.LeftBracket) us in
        let o = g.opens (sign q punct.RightBracket ∷ rest) in
        found_at same (found_more d fuel m before ds (ys ++ sign p punct.LeftBracket ∷ us) p q b us rest
        (c.found d fuel m before (sign p punct.LeftBracket ∷ us) (omega (arith, ap length same)) (omega (arith, ap length same)) h)
        (not_right_bracket us o.good)
        (g.reads d 0 (sign q punct.RightBracket ∷ rest) (omega (arith, ap length same)) (omega arith) (omega arith) (right_bracket_ends 0 q rest))
        (omega (arith, longer zs (sign q punct.RightBracket) rest)))

pub chain_more : {a b : Expr} {xs ys : Tokens} (p q : Place) → Chain a xs → Given 0 b ys → Chain (e.Index p a b) (xs ++ sign p punct.LeftBracket ∷ (ys ++ sign q punct.RightBracket ∷ []))
chain_more {b = b} {ys = ys} p q c g = record {
  place = c.place;
  text = c.text;
  dims = c.dims ++ dim.Sized p b ∷ [];
  behind = c.behind ++ sign p punct.LeftBracket ∷ (ys ++ sign q punct.RightBracket ∷ []);
  tree = ap (λ (z : Expr). e.Index p z b) c.tree ∙ sym (sized_more (e.Name c.place c.text) c.dims p b);
  tokens = ap (λ (z : Tokens). z ++ sign p punct.LeftBracket ∷ (ys ++ sign q punct.RightBracket ∷ [])) c.tokens;
  pairs = pairs_more p q b c.dims c.behind ys c.pairs g;
}

chain_operand : (d low : ℕ) (p : Place) (n : List ℕ) (ds : List Dim) (ys rest : Tokens) → Pairs ds ys → length (ys ++ rest) ≤ suc d → Apart rest → Climbs (expr d) low (token p (kind.Name n) ∷ (ys ++ rest)) (index_all (e.Name p n) ds) rest
chain_operand d low p n ds ys rest c fits apart =
    let f = c.found d (length (ys ++ rest)) mode.Either [] rest fits (omega arith) refl in
    climb_from (expr d) low (token p (kind.Name n) ∷ (ys ++ rest)) (index_all (e.Name p n) ds) rest
    (operand_chain (expr d) p n ds f.behind (ys ++ rest) rest (f.is ∙ brackets_stop (expr d) f.left f.behind ds rest apart.bracket) f.index apart.paren)

pub chain_climbs : {a : Expr} {xs : Tokens} → Chain a xs → (d low : ℕ) (rest : Tokens) → length (xs ++ rest) ≤ suc d → Apart rest → Climbs (expr d) low (xs ++ rest) a rest
chain_climbs {xs = xs} c d low rest fits apart =
    let same : xs ++ rest ≡ token c.place (kind.Name c.text) ∷ (c.behind ++ rest) = ap (λ (z : Tokens). z ++ rest) c.tokens in
    climbs_at same (subst (λ (z : Expr). Climbs (expr d) low (token c.place (kind.Name c.text) ∷ (c.behind ++ rest)) z rest) (sym c.tree)
    (chain_operand d low c.place c.text c.dims c.behind rest c.pairs (omega (arith, ap length same)) apart))

-- ---- what stands there is read

pub stands_climb : {k : ℕ} {a : Expr} {xs : Tokens} → Stands k a xs → 3 ≤ k → (d low : ℕ) (rest : Tokens) → length (xs ++ rest) ≤ suc d → low ≤ k → binds (follow_at rest) ≤ k → Apart rest → Climbs (expr d) low (xs ++ rest) a rest
stands_climb (chained c) high d low rest fits at loose apart = chain_climbs c d low rest fits apart
stands_climb (joined j le three f) high d low rest fits at loose apart = f.climbs d low rest fits (omega arith) (omega arith) apart.paren
stands_climb (tailed j le two f) high d low rest fits at loose apart = absurd (omega arith)
stands_climb (listed z f) high d low rest fits at loose apart = absurd (omega arith)

climbs_single : (d least : ℕ) (ts : Tokens) (a : Expr) (rest : Tokens) → Climbs (expr d) (max least 3) ts a rest → Ends 1 rest → single (expr d) least ts ≡ Ok (a, rest)
climbs_single d least ts a rest c ends =
    let none = end_binds rest ends.follow in
    climb_single (expr d) least ts a rest c (omega arith) ∙ tailed_end (expr d) least a rest ends.tail

-- an expression without commas
pub stands_single : {k : ℕ} {a : Expr} {xs : Tokens} → Stands k a xs → 1 ≤ k → (d least : ℕ) (rest : Tokens) → length (xs ++ rest) ≤ suc d → least ≤ k → least ≤ 2 → Ends 1 rest → single (expr d) least (xs ++ rest) ≡ Ok (a, rest)
stands_single {a = a} {xs = xs} (chained c) some d least rest fits at two ends = climbs_single d least (xs ++ rest) a rest (chain_climbs c d (max least 3) rest fits (ends_apart ends)) ends
stands_single {a = a} {xs = xs} (joined j le three f) some d least rest fits at two ends =
    let none = end_binds rest ends.follow in
    climbs_single d least (xs ++ rest) a rest (f.climbs d (max least 3) rest fits (omega arith) (omega arith) ends.paren) ends
stands_single (tailed j le low f) some d least rest fits at two ends = f.reads d least rest fits (omega arith) ends
stands_single (listed z f) some d least rest fits at two ends = absurd (omega arith)

stands_deep : {k : ℕ} {a : Expr} {xs : Tokens} → Stands k a xs → (d least : ℕ) (rest : Tokens) → length (xs ++ rest) ≤ suc d → least ≤ k → least ≤ 2 → Ends least rest → expr (suc d) least (xs ++ rest) ≡ Ok (a, rest)
stands_deep {a = a} {xs = xs} (chained c) d least rest fits at two ends =
    expr_single d least (xs ++ rest) a rest (climbs_single d least (xs ++ rest) a rest (chain_climbs c d (max least 3) rest fits (ends_apart ends)) (ends_too (omega arith) ends)) ends.comma
stands_deep {a = a} {xs = xs} (joined j le three f) d least rest fits at two ends =
    let none = end_binds rest ends.follow in
    expr_single d least (xs ++ rest) a rest (climbs_single d least (xs ++ rest) a rest (f.climbs d (max least 3) rest fits (omega arith) (omega arith) ends.paren) (ends_too (omega arith) ends)) ends.comma
stands_deep {a = a} {xs = xs} (tailed j le low f) d least rest fits at two ends = expr_single d least (xs ++ rest) a rest (f.reads d least rest fits (omega arith) (ends_too (omega arith) ends)) ends.comma
stands_deep {xs = xs} (listed z f) d least rest fits at two ends =
    let zeroth : least ≡ 0 = omega arith in
    ap (λ (l : ℕ). expr (suc d) l (xs ++ rest)) zeroth ∙ f.reads d rest fits (record { follow = ends.follow; tail = ends.tail; comma = λ z. ends.comma zeroth; paren = ends.paren })

stands_reads : {k : ℕ} {a : Expr} {xs : Tokens} → Stands k a xs → 1 ≤ length xs → (d least : ℕ) (rest : Tokens) → length (xs ++ rest) ≤ d → least ≤ k → least ≤ 2 → Ends least rest → expr d least (xs ++ rest) ≡ Ok (a, rest)
stands_reads {xs = xs} s some zero least rest fits at two ends = absurd (omega (arith, length-append xs rest))
stands_reads s some (suc d) least rest fits at two ends = stands_deep s d least rest fits at two ends

pub stands_given : {k : ℕ} {a : Expr} {xs : Tokens} → Stands k a xs → 1 ≤ length xs → ((rest : Tokens) → Opens (xs ++ rest)) → Given k a xs
stands_given s some o = record { reads = λ d least rest fits at two ends. stands_reads s some d least rest fits at two ends; opens = o }

-- an operand of an operator
pub stands_tight : {k : ℕ} {a : Expr} {xs : Tokens} → Stands k a xs → 1 ≤ length xs → (d least : ℕ) (rest : Tokens) → length (xs ++ rest) ≤ d → 3 ≤ least → least ≤ k → binds (follow_at rest) < least → Apart rest → expr d least (xs ++ rest) ≡ Ok (a, rest)
stands_tight {xs = xs} s some zero least rest fits three at loose apart = absurd (omega (arith, length-append xs rest))
stands_tight {a = a} {xs = xs} s some (suc d) least rest fits three at loose apart =
    expr_single d least (xs ++ rest) a rest
    (climb_single (expr d) least (xs ++ rest) a rest (stands_climb s (omega arith) d (max least 3) rest fits (omega arith) (omega arith) apart) (omega arith) ∙ tailed_high (expr d) least a rest three)
    (λ z. absurd (omega arith))
