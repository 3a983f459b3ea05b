-- The parts of typed lists, and the lists.
use Rattle.std.proofs.Common.{◌≡◌, ℕ, ◌≤◌, Bool, true, false, ◌&&◌, ◌||◌, ◌==◌, not, IsTrue, List, [], ◌∷◌, length, Option, Some, None, Result, Ok, Err, IfOk, IfSome, IfNone, refl, ap, sym, subst, ◌∙◌, arith, leb, codes}
use Rattle.std.proofs.lemmas.Bool.{and_parts, and_from, or_parts, not-true, cond-true, le-leb, leb-true, eqb-true}
use Rattle.std.proofs.lemmas.Slice.Eq.{bytes_eq-Decides}
use Rattle.std.specs.List.{AllByRecursion}
use Rattle.std.specs.Option.{option_map}
use Rattle.std.specs.Str.{bytes_eq}
use Rattle.gsl_base.specs.declared.fault.Place.{Place}
use Rattle.gsl_base.specs.declared.memory.Memory.{Memory}
use Rattle.gsl_types.specs.declared.ty.Ty.{Ty}
use Rattle.gsl_types.specs.declared.ty.Direction.{Direction}
use Rattle.gsl_types.specs.declared.ty.Ty.TheVariants as ty
use Rattle.gsl_tree.specs.declared.stmt.Stmt.{Stmt}
use Rattle.gsl_tree.specs.declared.unit.BlockKind.{BlockKind}
use Rattle.gsl_tree.specs.declared.unit.BlockKind.TheVariants.{Buffer}
use Rattle.gsl_tree.specs.declared.unit.Block.{Block}
use Rattle.gsl_tree.specs.declared.unit.BlockMember.{BlockMember}
use Rattle.gsl_tree.specs.declared.unit.Prototype.{Prototype}
use Rattle.gsl_tree.specs.declared.unit.Function.{Function}
use Rattle.gsl_tree.specs.Around.{is_buffer}
use Rattle.gsl_tree.specs.WellTyped.{Lists}
use Rattle.gsl_form.specs.declared.program.Statement.{Statement}
use Rattle.gsl_form.specs.declared.program.Program.{Program}
use Rattle.gsl_form.specs.Form.{Name, is_name, differ, IsStatement}
use Rattle.gsl_form.specs.Trees.{int, IsMemberOf, IsStatementOf, Each, block_at, AreBlocksOf, head_at, AreHeads, body_at, AreFunctionsOf, Spells}
use Rattle.gsl_form.specs.Reading.{◌>>=◌, is_empty, is_none, is_int, is_void, each, is_bare, member_of, limited, is_b, block_of, blocks_of, is_head, are_heads, few, statement_of, function_of, functions_of, is_one, are_one, are_sizes, are_plain, with_functions, program_by, program_of}
use Rattle.gsl_form.proofs.Sums.{int_is, int_gives, void_is, void_gives}
use Rattle.gsl_form.proofs.Exact.{bind_some, guard_some, map_some, statement_is, statement_gives, each_is, each_gives}

same_bytes : (a b : List ℕ) → bytes_eq a b ≡ true → a ≡ b
same_bytes a b same = (bytes_eq-Decides a b).0 same

equal_bytes : (a : List ℕ) → bytes_eq a a ≡ true
equal_bytes a = (bytes_eq-Decides a a).1 refl

empty_is : {A : Type 0} (xs : List A) → is_empty xs ≡ true → xs ≡ []
empty_is [] is = refl
empty_is (x ∷ xs) is = let none : length (x ∷ xs) ≡ 0 = eqb-true _ 0 is in absurd (omega arith)

empty_gives : {A : Type 0} (xs : List A) → xs ≡ [] → is_empty xs ≡ true
empty_gives xs is = ap is_empty is

none_is : {A : Type 0} (x : Option A) → is_none x ≡ true → x ≡ None
none_is None is = refl
none_is (Some a) is = absurd (cc)

-- ---- members

abbrev member_with : Place → Name → Ty → Bool → Bool → Bool → Bool → Bool → Option ℕ → Option ℕ → BlockMember
member_with p name t a b c d e f g = record { name = name; ty = t; readonly = a; writeonly = b; coherent = c; volatile = d; restrict = e; offset = f; align = g; place = p }

member_is : (m : BlockMember) (name : Name) → member_of m ≡ Some name → IsMemberOf m name × IsTrue (is_name name)
member_is m name read =
    let met = guard_some (is_bare m && is_int m.ty && is_name m.name) (Some m.name) name read in
    let named = and_parts (is_bare m && is_int m.ty) (is_name m.name) met.0 in
    let typed = and_parts (is_bare m) (is_int m.ty) named.0 in
    let aligned = and_parts (not (m.readonly || m.writeonly || m.coherent || m.volatile || m.restrict) && is_none m.offset) (is_none m.align) typed.0 in
    let placed = and_parts (not (m.readonly || m.writeonly || m.coherent || m.volatile || m.restrict)) (is_none m.offset) aligned.0 in
    let five = or_parts (m.readonly || m.writeonly || m.coherent || m.volatile) m.restrict (not-true _ placed.0) in
    let four = or_parts (m.readonly || m.writeonly || m.coherent) m.volatile five.0 in
    let three = or_parts (m.readonly || m.writeonly) m.coherent four.0 in
    let two = or_parts m.readonly m.writeonly three.0 in
    let same : m.name ≡ name = cc in
    let is : m ≡ member_with m.place name int false false false false false None None =
    ap (λ z. member_with m.place z m.ty m.readonly m.writeonly m.coherent m.volatile m.restrict m.offset m.align) same
    ∙ ap (λ z. member_with m.place name z m.readonly m.writeonly m.coherent m.volatile m.restrict m.offset m.align) (int_is m.ty typed.1)
    ∙ ap (λ z. member_with m.place name int z m.writeonly m.coherent m.volatile m.restrict m.offset m.align) two.0
    ∙ ap (λ z. member_with m.place name int false z m.coherent m.volatile m.restrict m.offset m.align) two.1
    ∙ ap (λ z. member_with m.place name int false false z m.volatile m.restrict m.offset m.align) three.1
    ∙ ap (λ z. member_with m.place name int false false false z m.restrict m.offset m.align) four.1
    ∙ ap (λ z. member_with m.place name int false false false false z m.offset m.align) five.1
    ∙ ap (λ z. member_with m.place name int false false false false false z m.align) (none_is m.offset placed.1)
    ∙ ap (λ z. member_with m.place name int false false false false false None z) (none_is m.align aligned.1) in
    (subst (λ z. IsMemberOf z name) (sym is) (IsMemberOf.named m.place name), subst (λ z. IsTrue (is_name z)) same named.1)

member_gives : (m : BlockMember) (name : Name) → IsMemberOf m name → IsTrue (is_name name) → member_of m ≡ Some name
member_gives m name (IsMemberOf.named p n) good = cond-true _ _ _ (and_from _ _ (and_from true (is_int int) refl int_gives) good)

-- ---- the block

-- Names that a block may have.
pub record AreNames (members : List Name) : Type 0 where
  pub some : 1 ≤ length members
  pub most : length members ≤ 64
  pub names : AllByRecursion (λ name. IsTrue (is_name name)) members
  pub apart : IsTrue (differ members)

limited_is : (found names : List Name) → limited found ≡ Some names → AllByRecursion (λ name. IsTrue (is_name name)) found → (found ≡ names) × AreNames names
limited_is found names read good =
    let kept = guard_some (leb 1 (length found) && leb (length found) 64 && differ found) (Some found) names read in
    let same : found ≡ names = cc in
    let tests = and_parts (leb 1 (length found) && leb (length found) 64) (differ found) kept.0 in
    let counts = and_parts (leb 1 (length found)) (leb (length found) 64) tests.0 in
    (same, subst AreNames same (record { some = leb-true _ _ counts.0; most = leb-true _ _ counts.1; names = good; apart = tests.1 }))

limited_gives : (names : List Name) → AreNames names → limited names ≡ Some names
limited_gives names are = cond-true _ _ _ (and_from _ _ (and_from _ _ (le-leb _ _ are.some) (le-leb _ _ are.most)) are.apart)

buffer_is : (k : BlockKind) → is_buffer k ≡ true → k ≡ Buffer
buffer_is Buffer is = refl
buffer_is _ is = absurd (cc)

abbrev block_with : Place → ℕ → List BlockMember → Name → Option Name → BlockKind → ℕ → ℕ → Bool → Block
block_with p need members name instance kind set binding std140 =
    record { name = name; instance = instance; kind = kind; set = set; binding = binding; std140 = std140; members = members; need = need; place = p }

b_is : (b : Block) → is_b b ≡ true → b ≡ block_at b.place b.need b.members
b_is b is =
    let six = and_parts (bytes_eq b.name (codes "B") && is_none b.instance && is_buffer b.kind && (b.set == 0) && (b.binding == 0)) (not b.std140) is in
    let five = and_parts (bytes_eq b.name (codes "B") && is_none b.instance && is_buffer b.kind && (b.set == 0)) (b.binding == 0) six.0 in
    let four = and_parts (bytes_eq b.name (codes "B") && is_none b.instance && is_buffer b.kind) (b.set == 0) five.0 in
    let three = and_parts (bytes_eq b.name (codes "B") && is_none b.instance) (is_buffer b.kind) four.0 in
    let two = and_parts (bytes_eq b.name (codes "B")) (is_none b.instance) three.0 in
    ap (λ z. block_with b.place b.need b.members z b.instance b.kind b.set b.binding b.std140) (same_bytes b.name (codes "B") two.0)
    ∙ ap (λ z. block_with b.place b.need b.members (codes "B") z b.kind b.set b.binding b.std140) (none_is b.instance two.1)
    ∙ ap (λ z. block_with b.place b.need b.members (codes "B") None z b.set b.binding b.std140) (buffer_is b.kind three.1)
    ∙ ap (λ z. block_with b.place b.need b.members (codes "B") None Buffer z b.binding b.std140) (eqb-true b.set 0 four.1)
    ∙ ap (λ z. block_with b.place b.need b.members (codes "B") None Buffer 0 z b.std140) (eqb-true b.binding 0 five.1)
    ∙ ap (λ z. block_with b.place b.need b.members (codes "B") None Buffer 0 0 z) (not-true b.std140 six.1)

block_is : (b : Block) (names : List Name) → block_of b ≡ Some names → AreBlocksOf (b ∷ []) names × AreNames names
block_is b names read =
    let met = guard_some (is_b b) (each member_of b.members >>= limited) names read in
    let found = bind_some (each member_of b.members) limited names met.1 in
    let all = each_is member_of IsMemberOf (λ name. IsTrue (is_name name)) member_is b.members found.0 found.1 in
    let kept = limited_is found.0 names found.2 all.1 in (
      subst (λ z. AreBlocksOf (z ∷ []) names) (sym (b_is b met.0)) (AreBlocksOf.block b.place b.need (subst (Each IsMemberOf b.members) kept.0 all.0)),
      kept.1,
    )

blocks_are : (bs : List Block) (names : List Name) → blocks_of bs ≡ Some names → AreBlocksOf bs names × AreNames names
blocks_are [] names read = absurd (cc)
blocks_are (b ∷ []) names read = block_is b names read
blocks_are (b ∷ c ∷ bs) names read = absurd (cc)

blocks_give : (bs : List Block) (names : List Name) → AreBlocksOf bs names → AreNames names → blocks_of bs ≡ Some names
blocks_give bs names (AreBlocksOf.block {members = members} p need each_member) are =
    ap (λ found. found >>= limited) (each_gives member_of IsMemberOf (λ name. IsTrue (is_name name)) member_gives members names each_member are.names)
    ∙ limited_gives names are

-- ---- the head

abbrev head_with : Place → Name → Ty → List (Direction × Ty) → Prototype
head_with p name result params = record { name = name; result = result; params = params; place = p }

head_is : (h : Prototype) → is_head h ≡ true → h ≡ head_at h.place
head_is h is =
    let three = and_parts (bytes_eq h.name (codes "main") && is_void h.result) (is_empty h.params) is in
    let two = and_parts (bytes_eq h.name (codes "main")) (is_void h.result) three.0 in
    ap (λ z. head_with h.place z h.result h.params) (same_bytes h.name (codes "main") two.0)
    ∙ ap (λ z. head_with h.place (codes "main") z h.params) (void_is h.result two.1)
    ∙ ap (λ z. head_with h.place (codes "main") ty.Void z) (empty_is h.params three.1)

heads_are : (hs : List Prototype) → are_heads hs ≡ true → AreHeads hs
heads_are [] is = absurd (cc)
heads_are (h ∷ []) is = subst (λ z. AreHeads (z ∷ [])) (sym (head_is h is)) (AreHeads.main h.place)
heads_are (h ∷ i ∷ hs) is = absurd (cc)

heads_give : (hs : List Prototype) → AreHeads hs → are_heads hs ≡ true
heads_give hs (AreHeads.main p) = and_from _ _ (and_from _ _ (equal_bytes (codes "main")) void_gives) refl

-- ---- the function

-- what the statements of `main` are
pub record AreStatements (count : ℕ) (statements : List Statement) : Type 0 where
  pub few : length statements ≤ 256
  pub fit : AllByRecursion (IsStatement count) statements

abbrev function_with : Place → List Stmt → ℕ → List Ty → Function
function_with p body prototype locals = record { prototype = prototype; locals = locals; body = body; place = p }

function_is : (count : ℕ) (f : Function) (statements : List Statement) → function_of count f ≡ Some statements → AreFunctionsOf (f ∷ []) statements × AreStatements count statements
function_is count f statements read =
    let met = guard_some ((f.prototype == 0) && is_empty f.locals) (each (statement_of count) f.body >>= few) statements read in
    let two = and_parts (f.prototype == 0) (is_empty f.locals) met.0 in
    let found = bind_some (each (statement_of count) f.body) few statements met.1 in
    let kept = guard_some (leb (length found.0) 256) (Some found.0) statements found.2 in
    let it : found.0 ≡ statements = cc in
    let all = each_is (statement_of count) IsStatementOf (IsStatement count) (statement_is count) f.body found.0 found.1 in
    let same : f ≡ body_at f.place f.body =
    ap (λ z. function_with f.place f.body z f.locals) (eqb-true f.prototype 0 two.0) ∙ ap (λ z. function_with f.place f.body 0 z) (empty_is f.locals two.1) in
    subst (λ z. AreFunctionsOf (f ∷ []) z × AreStatements count z) it (
      subst (λ z. AreFunctionsOf (z ∷ []) found.0) (sym same) (AreFunctionsOf.main f.place all.0),
      record { few = leb-true _ _ kept.0; fit = all.1 },
    )

functions_are : (count : ℕ) (fs : List Function) (statements : List Statement) → functions_of count fs ≡ Some statements → AreFunctionsOf fs statements × AreStatements count statements
functions_are count [] statements read = absurd (cc)
functions_are count (f ∷ []) statements read = function_is count f statements read
functions_are count (f ∷ g ∷ fs) statements read = absurd (cc)

functions_give : (count : ℕ) (fs : List Function) (statements : List Statement) → AreFunctionsOf fs statements → AreStatements count statements → functions_of count fs ≡ Some statements
functions_give count fs statements (AreFunctionsOf.main {trees = trees} p each_tree) are =
    ap (λ found. found >>= few) (each_gives (statement_of count) IsStatementOf (IsStatement count) (statement_gives count) trees statements each_tree are.fit)
    ∙ cond-true _ _ _ (le-leb _ _ are.few)

-- ---- all together

one_is : (size : List ℕ) → is_one size ≡ true → size ≡ 1 ∷ 1 ∷ 1 ∷ []
one_is (x ∷ y ∷ z ∷ []) is =
    let three = and_parts ((x == 1) && (y == 1)) (z == 1) is in
    let two = and_parts (x == 1) (y == 1) three.0 in
    ap (λ a. a ∷ y ∷ z ∷ []) (eqb-true x 1 two.0) ∙ ap (λ a. 1 ∷ a ∷ z ∷ []) (eqb-true y 1 two.1) ∙ ap (λ a. 1 ∷ 1 ∷ a ∷ []) (eqb-true z 1 three.1)
one_is _ is = absurd (cc)

sizes_are : (sizes : List (List ℕ)) → are_sizes sizes ≡ true → sizes ≡ (1 ∷ 1 ∷ 1 ∷ []) ∷ []
unfolding are_sizes
sizes_are [] is = absurd (cc)
sizes_are (size ∷ []) is = ap (λ z. z ∷ []) (one_is size is)
sizes_are (size ∷ other ∷ sizes) is = absurd (cc)

sizes_give : (sizes : List (List ℕ)) → sizes ≡ (1 ∷ 1 ∷ 1 ∷ []) ∷ [] → are_sizes sizes ≡ true
unfolding are_sizes
sizes_give sizes is = ap are_one is

pub program_is : (lists : Lists) (p : Program) → program_of lists ≡ Some p → Spells lists p
program_is lists p read =
    let met = guard_some (are_plain lists) (program_by lists.blocks lists.prototypes lists.functions) p read in
    let four = and_parts (are_sizes lists.sizes && is_empty lists.structs && is_empty lists.globals) (is_empty lists.interfaces) met.0 in
    let three = and_parts (are_sizes lists.sizes && is_empty lists.structs) (is_empty lists.globals) four.0 in
    let two = and_parts (are_sizes lists.sizes) (is_empty lists.structs) three.0 in
    let headed = guard_some (are_heads lists.prototypes) (blocks_of lists.blocks >>= with_functions lists.functions) p met.1 in
    let names = bind_some (blocks_of lists.blocks) (with_functions lists.functions) p headed.1 in
    let rest = map_some (λ statements. record { members = names.0; statements = statements }) (functions_of (length names.0) lists.functions) p names.2 in
    let block = blocks_are lists.blocks names.0 names.1 in
    let main = functions_are (length names.0) lists.functions rest.0 rest.1 in
    subst (Spells lists) rest.2 (record {
      fits = record { some = block.1.some; most = block.1.most; names = block.1.names; differ = block.1.apart; few = main.1.few; statements = main.1.fit };
      structs = empty_is lists.structs two.1;
      globals = empty_is lists.globals three.1;
      interfaces = empty_is lists.interfaces four.1;
      sizes = sizes_are lists.sizes two.0;
      blocks = block.0;
      prototypes = heads_are lists.prototypes headed.0;
      functions = main.0;
    })

pub program_gives : (lists : Lists) (p : Program) → Spells lists p → program_of lists ≡ Some p
program_gives lists p spells =
    cond-true _ _ _ (and_from _ _ (and_from _ _ (and_from _ _ (sizes_give lists.sizes spells.sizes) (empty_gives lists.structs spells.structs)) (empty_gives lists.globals spells.globals)) (empty_gives lists.interfaces spells.interfaces))
    ∙ cond-true _ _ _ (heads_give lists.prototypes spells.prototypes)
    ∙ ap (λ found. found >>= with_functions lists.functions)
    (blocks_give lists.blocks p.members spells.blocks (record { some = spells.fits.some; most = spells.fits.most; names = spells.fits.names; apart = spells.fits.differ }))
    ∙ ap (option_map (λ ss. record { members = p.members; statements = ss }))
    (functions_give (length p.members) lists.functions p.statements spells.functions (record { few = spells.fits.few; fit = spells.fits.statements }))

pub one_program : (lists : Lists) (p q : Program) → Spells lists p → Spells lists q → p ≡ q
one_program lists p q first second = let same : ◌≡◌ {A = Option Program} (Some p) (Some q) = sym (program_gives lists p first) ∙ program_gives lists q second in cc

-- what the reading found, and what it did not find
pub read_found : (lists : Lists) (read : Result (Option Program) Memory) → IfOk read (λ found. found ≡ program_of lists) → IfOk read (λ found. IfSome found (λ p. Spells lists p))
read_found lists (Ok None) is = tt
read_found lists (Ok (Some p)) is = program_is lists p (sym is)
read_found lists (Err e) is = tt

pub read_none : (lists : Lists) (read : Result (Option Program) Memory) → IfOk read (λ found. found ≡ program_of lists) → IfOk read (λ found. IfNone found ((p : Program) → Spells lists p → ⊥))
read_none lists (Ok None) is = λ p spells. let never : ◌≡◌ {A = Option Program} None (Some p) = is ∙ program_gives lists p spells in absurd (cc)
read_none lists (Ok (Some p)) is = tt
read_none lists (Err e) is = tt
