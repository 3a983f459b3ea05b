-- Declarations that are against earlier ones are those that the tables tell.
use Rattle.std.proofs.Common.{◌≡◌, refl, sym, ap, subst, ◌∙◌, ℕ, Bool, true, false, cond, not, ◌&&◌, ◌||◌, List, [], ◌∷◌, ◌++◌, map, append_assoc, append-nil}
use Rattle.std.specs.Prelude.{bytes_eq, filter, if◌then◌else◌}
use Rattle.std.specs.List.{list_any}
use Rattle.std.proofs.lemmas.List.{map-append}
use Rattle.std.proofs.lemmas.List.Elements.{filter-append}
use Rattle.gsl_base.specs.declared.fault.Place.{Place}
use Rattle.gsl_types.specs.declared.ty.StructType.{StructType}
use Rattle.gsl_tree.specs.declared.unit.Block.{Block}
use Rattle.gsl_tree.specs.declared.unit.GlobalVar.{GlobalVar}
use Rattle.gsl_tree.specs.declared.unit.Interface.{Interface}
use Rattle.gsl_tree.specs.declared.unit.Prototype.{Prototype}
use Rattle.gsl_tree.specs.WellTyped.{is_push}
use Rattle.gsl_link_units.specs.Declarations.{Side, Declaration, OfVariable, OfInterface, OfBlock, OfFunction, declarations, declared_at, is_shared, name_of}
use Rattle.gsl_link_units.specs.Agreement.{agree, agree_functions, same_params, same_directions, is_against, is_against_any, is_push_block}
use Rattle.gsl_link_units.specs.Types.{same_type}
use Rattle.gsl_link_structs.specs.Keys.{head_words}
use Rattle.gsl_link_structs.proofs.Distinguished.{heads_tell}
use Rattle.gsl_link_names.specs.declared.lent.Named.{Named}
use Rattle.gsl_link_names.specs.declared.lent.Named.TheVariants as named
use Rattle.gsl_link_names.specs.Earlier.{against_earlier}
use Rattle.gsl_link_names.specs.Rows.{row_of, with_one}
use Rattle.gsl_link_names.specs.Against.{NamedRows, HeadRows, laid, with_variables, with_interfaces, with_blocks, with_push, with_pushes, with_heads, with_functions, with_unit, agree_named, has_other, is_there, against_named, against_block, against_heads, with_place, variables_against, interfaces_against, blocks_against, heads_against, unit_against, all_against}
use Rattle.gsl_link_names.proofs.Tables.{or_false, any_or, any_and, any_alike, any_behind, any_more, any_put}

-- ---- what the tables tell

-- a test of heads, of functions alone
abbrev on_head : (Prototype → Bool) → Declaration → Bool
on_head test (OfVariable g) = false
on_head test (OfInterface i) = false
on_head test (OfBlock block) = false
on_head test (OfFunction p) = test p

abbrev of_name : List ℕ → Prototype → Bool
of_name name p = bytes_eq name p.name

abbrev of_words : (Prototype → Bool) → List ℕ → Prototype → Bool
of_words test key p = test p && bytes_eq key (head_words p)

abbrev other_push : List ℕ → Declaration → Bool
other_push name e = is_push_block e && not (bytes_eq name (name_of e))

module _ (structs : List StructType) where
  -- a test of the others, as they stand in their table
  abbrev on_named : (Named → Bool) → Declaration → Bool
  on_named test (OfVariable g) = test (named.Variable g)
  on_named test (OfInterface i) = test (named.Interface i)
  on_named test (OfBlock block) = test (laid structs block)
  on_named test (OfFunction p) = false

  abbrev named_so : (Named → Bool) → List ℕ → Declaration → Bool
  named_so test name e = on_named test e && bytes_eq name (name_of e)

  pub record Tells (rows : NamedRows) (heads : HeadRows) (functions pushes : List (List ℕ)) (earlier : List Declaration) : Type 0 where
    pub named : (test : Named → Bool) (name : List ℕ) → list_any test (row_of rows name) ≡ list_any (named_so test name) earlier
    pub headed : (test : Prototype → Bool) (key : List ℕ) → list_any test (row_of heads key) ≡ list_any (on_head (of_words test key)) earlier
    pub called : (name : List ℕ) → list_any (bytes_eq name) functions ≡ list_any (on_head (of_name name)) earlier
    pub pushed : (name : List ℕ) → has_other pushes name ≡ list_any (other_push name) earlier

  -- a declaration that a test does not concern
  stays : (test : Declaration → Bool) (earlier : List Declaration) (d : Declaration) → test d ≡ false → list_any test earlier ≡ list_any test (earlier ++ d ∷ [])
  stays test earlier d is = sym (or_false (list_any test earlier)) ∙ ap (λ b. list_any test earlier || b) (sym is) ∙ sym (any_behind test earlier d)

  grows : (test : Declaration → Bool) (earlier : List Declaration) (d : Declaration) (b c : Bool) → b ≡ list_any test earlier → c ≡ test d → (b || c) ≡ list_any test (earlier ++ d ∷ [])
  grows test earlier d b c is at = ap (λ x. x || c) is ∙ ap (λ x. list_any test earlier || x) at ∙ sym (any_behind test earlier d)

  variable_told : (rows : NamedRows) (heads : HeadRows) (functions pushes : List (List ℕ)) (earlier : List Declaration) (g : GlobalVar) → Tells rows heads functions pushes earlier
      → Tells (with_one rows g.name (named.Variable g)) heads functions pushes (earlier ++ OfVariable g ∷ [])
  variable_told rows heads functions pushes earlier g tells = record {
    named = λ test name. any_more test rows g.name (named.Variable g) name ∙ grows (named_so test name) earlier (OfVariable g) _ _ (tells.named test name) refl;
    headed = λ test key. tells.headed test key ∙ stays (on_head (of_words test key)) earlier (OfVariable g) refl;
    called = λ name. tells.called name ∙ stays (on_head (of_name name)) earlier (OfVariable g) refl;
    pushed = λ name. tells.pushed name ∙ stays (other_push name) earlier (OfVariable g) refl;
  }

  interface_told : (rows : NamedRows) (heads : HeadRows) (functions pushes : List (List ℕ)) (earlier : List Declaration) (i : Interface) → Tells rows heads functions pushes earlier
      → Tells (with_one rows i.name (named.Interface i)) heads functions pushes (earlier ++ OfInterface i ∷ [])
  interface_told rows heads functions pushes earlier i tells = record {
    named = λ test name. any_more test rows i.name (named.Interface i) name ∙ grows (named_so test name) earlier (OfInterface i) _ _ (tells.named test name) refl;
    headed = λ test key. tells.headed test key ∙ stays (on_head (of_words test key)) earlier (OfInterface i) refl;
    called = λ name. tells.called name ∙ stays (on_head (of_name name)) earlier (OfInterface i) refl;
    pushed = λ name. tells.pushed name ∙ stays (other_push name) earlier (OfInterface i) refl;
  }

  push_more : (pushes : List (List ℕ)) (block : Block) (name : List ℕ) → has_other (with_push pushes block) name ≡ (has_other pushes name || (is_push block.kind && not (bytes_eq name block.name)))
  push_more pushes block name = by_cases (is_push block.kind)
    where
      by_cases : (b : Bool) → has_other (if b then pushes ++ block.name ∷ [] else pushes) name ≡ (has_other pushes name || (b && not (bytes_eq name block.name)))
      by_cases true = any_behind (λ other. not (bytes_eq name other)) pushes block.name
      by_cases false = sym (or_false (has_other pushes name))

  block_told : (rows : NamedRows) (heads : HeadRows) (functions pushes : List (List ℕ)) (earlier : List Declaration) (block : Block) → Tells rows heads functions pushes earlier
      → Tells (with_one rows block.name (laid structs block)) heads functions (with_push pushes block) (earlier ++ OfBlock block ∷ [])
  block_told rows heads functions pushes earlier block tells = record {
    named = λ test name. any_more test rows block.name (laid structs block) name ∙ grows (named_so test name) earlier (OfBlock block) _ _ (tells.named test name) refl;
    headed = λ test key. tells.headed test key ∙ stays (on_head (of_words test key)) earlier (OfBlock block) refl;
    called = λ name. tells.called name ∙ stays (on_head (of_name name)) earlier (OfBlock block) refl;
    pushed = λ name. push_more pushes block name ∙ grows (other_push name) earlier (OfBlock block) _ _ (tells.pushed name) refl;
  }

  head_told : (rows : NamedRows) (heads : HeadRows) (functions pushes : List (List ℕ)) (earlier : List Declaration) (p : Prototype) → Tells rows heads functions pushes earlier
      → Tells rows (with_one heads (head_words p) p) (with_functions functions (p ∷ [])) pushes (earlier ++ OfFunction p ∷ [])
  head_told rows heads functions pushes earlier p tells = record {
    named = λ test name. tells.named test name ∙ stays (named_so test name) earlier (OfFunction p) refl;
    headed = λ test key. any_more test heads (head_words p) p key ∙ grows (on_head (of_words test key)) earlier (OfFunction p) _ _ (tells.headed test key) refl;
    called = λ name. any_put functions p.name name ∙ grows (on_head (of_name name)) earlier (OfFunction p) _ _ (tells.called name) refl;
    pushed = λ name. tells.pushed name ∙ stays (other_push name) earlier (OfFunction p) refl;
  }

  -- ---- kind by kind

  abbrev variables_in : List GlobalVar → List Declaration
  variables_in globals = map OfVariable (filter is_shared globals)

  none_more : (rows : NamedRows) (heads : HeadRows) (functions pushes : List (List ℕ)) (earlier : List Declaration) → Tells rows heads functions pushes earlier → Tells rows heads functions pushes (earlier ++ [])
  none_more rows heads functions pushes earlier tells = subst (Tells rows heads functions pushes) (sym (append-nil earlier)) tells

  variables_told : (rows : NamedRows) (heads : HeadRows) (functions pushes : List (List ℕ)) (earlier : List Declaration) (globals : List GlobalVar) → Tells rows heads functions pushes earlier
      → Tells (with_variables rows globals) heads functions pushes (earlier ++ variables_in globals)
  variables_told rows heads functions pushes earlier [] tells = none_more rows heads functions pushes earlier tells
  variables_told rows heads functions pushes earlier (g ∷ globals) tells =
      by_cases g.constant (variables_told rows heads functions pushes earlier globals tells)
      (variables_told (with_one rows g.name (named.Variable g)) heads functions pushes (earlier ++ OfVariable g ∷ []) globals (variable_told rows heads functions pushes earlier g tells))
    where
      by_cases : (b : Bool) → Tells (with_variables rows globals) heads functions pushes (earlier ++ variables_in globals)
          → Tells (with_variables (with_one rows g.name (named.Variable g)) globals) heads functions pushes ((earlier ++ OfVariable g ∷ []) ++ variables_in globals)
          → Tells (with_variables (if b then rows else with_one rows g.name (named.Variable g)) globals) heads functions pushes
          (earlier ++ map OfVariable (cond (not b) (g ∷ filter is_shared globals) (filter is_shared globals)))
      by_cases true without with = without
      by_cases false without with =
          subst (Tells (with_variables (with_one rows g.name (named.Variable g)) globals) heads functions pushes) (append_assoc earlier (OfVariable g ∷ []) (variables_in globals)) with

  interfaces_told : (rows : NamedRows) (heads : HeadRows) (functions pushes : List (List ℕ)) (earlier : List Declaration) (interfaces : List Interface) → Tells rows heads functions pushes earlier
      → Tells (with_interfaces rows interfaces) heads functions pushes (earlier ++ map OfInterface interfaces)
  interfaces_told rows heads functions pushes earlier [] tells = none_more rows heads functions pushes earlier tells
  interfaces_told rows heads functions pushes earlier (i ∷ interfaces) tells =
      subst (Tells (with_interfaces (with_one rows i.name (named.Interface i)) interfaces) heads functions pushes) (append_assoc earlier (OfInterface i ∷ []) (map OfInterface interfaces))
      (interfaces_told (with_one rows i.name (named.Interface i)) heads functions pushes (earlier ++ OfInterface i ∷ []) interfaces (interface_told rows heads functions pushes earlier i tells))

  blocks_told : (rows : NamedRows) (heads : HeadRows) (functions pushes : List (List ℕ)) (earlier : List Declaration) (blocks : List Block) → Tells rows heads functions pushes earlier
      → Tells (with_blocks structs rows blocks) heads functions (with_pushes pushes blocks) (earlier ++ map OfBlock blocks)
  blocks_told rows heads functions pushes earlier [] tells = none_more rows heads functions pushes earlier tells
  blocks_told rows heads functions pushes earlier (block ∷ blocks) tells =
      subst (Tells (with_blocks structs (with_one rows block.name (laid structs block)) blocks) heads functions (with_pushes (with_push pushes block) blocks))
      (append_assoc earlier (OfBlock block ∷ []) (map OfBlock blocks))
      (blocks_told (with_one rows block.name (laid structs block)) heads functions (with_push pushes block) (earlier ++ OfBlock block ∷ []) blocks
      (block_told rows heads functions pushes earlier block tells))

  heads_told : (rows : NamedRows) (heads : HeadRows) (functions pushes : List (List ℕ)) (earlier : List Declaration) (ps : List Prototype) → Tells rows heads functions pushes earlier
      → Tells rows (with_heads heads ps) (with_functions functions ps) pushes (earlier ++ map OfFunction ps)
  heads_told rows heads functions pushes earlier [] tells = none_more rows heads functions pushes earlier tells
  heads_told rows heads functions pushes earlier (p ∷ ps) tells =
      subst (Tells rows (with_heads (with_one heads (head_words p) p) ps) (with_functions (with_functions functions (p ∷ [])) ps) pushes) (append_assoc earlier (OfFunction p ∷ []) (map OfFunction ps))
      (heads_told rows (with_one heads (head_words p) p) (with_functions functions (p ∷ [])) pushes (earlier ++ OfFunction p ∷ []) ps (head_told rows heads functions pushes earlier p tells))

  unit_told : (rows : NamedRows) (heads : HeadRows) (functions pushes : List (List ℕ)) (earlier : List Declaration) (side : Side) → Tells rows heads functions pushes earlier
      → Tells (with_unit structs rows side) (with_heads heads side.unit.prototypes) (with_functions functions side.unit.prototypes) (with_pushes pushes side.unit.blocks) (earlier ++ declarations side)
  unit_told rows heads functions pushes earlier side tells =
      subst (Tells (with_unit structs rows side) (with_heads heads side.unit.prototypes) (with_functions functions side.unit.prototypes) (with_pushes pushes side.unit.blocks))
      (ap (λ l. (l ++ map OfBlock side.unit.blocks) ++ map OfFunction side.unit.prototypes) (append_assoc earlier variables interfaces)
      ∙ ap (λ l. l ++ map OfFunction side.unit.prototypes) (append_assoc earlier (variables ++ interfaces) (map OfBlock side.unit.blocks))
      ∙ append_assoc earlier ((variables ++ interfaces) ++ map OfBlock side.unit.blocks) (map OfFunction side.unit.prototypes))
      (heads_told _ heads functions _ _ side.unit.prototypes
      (blocks_told _ heads functions pushes _ side.unit.blocks
      (interfaces_told _ heads functions pushes _ side.unit.interfaces (variables_told rows heads functions pushes earlier side.unit.globals tells))))
    where
      variables : List Declaration
      variables = variables_in side.unit.globals

      interfaces : List Declaration
      interfaces = map OfInterface side.unit.interfaces

  -- ---- one declaration

  -- what is no function, beside one that is none either, and beside a function
  beside_named : (s a d e : Bool) → (if s then not a else d && e) ≡ (((not a && s) || false) || (d && (e && not s)))
  beside_named true true true true = refl
  beside_named true true true false = refl
  beside_named true true false e = refl
  beside_named true false d e = refl
  beside_named false true true true = refl
  beside_named false true true false = refl
  beside_named false true false e = refl
  beside_named false false true true = refl
  beside_named false false true false = refl
  beside_named false false false e = refl

  beside_function : (s d : Bool) → (if s then true else d && false) ≡ ((false || s) || (d && false))
  beside_function true d = refl
  beside_function false d = refl

  -- a declaration and how it stands in its table
  abbrev Stands : Declaration → Named → Type 0
  Stands d x =
      ((g : GlobalVar) → agree structs d (OfVariable g) ≡ agree_named x (named.Variable g))
      × ((i : Interface) → agree structs d (OfInterface i) ≡ agree_named x (named.Interface i))
      × ((block : Block) → agree structs d (OfBlock block) ≡ agree_named x (laid structs block))
      × ((p : Prototype) → agree structs d (OfFunction p) ≡ false)

  abbrev not_alike : Named → Named → Bool
  not_alike x other = not (agree_named x other)

  beside : (d : Declaration) (x : Named) → Stands d x → (e : Declaration)
      → is_against structs d e ≡ ((named_so (not_alike x) (name_of d) e || on_head (of_name (name_of d)) e) || (is_push_block d && other_push (name_of d) e))
  beside d x stands (OfVariable g) =
      ap (λ a. if bytes_eq (name_of d) g.name then not a else is_push_block d && false) (stands.0 g)
      ∙ beside_named (bytes_eq (name_of d) g.name) (agree_named x (named.Variable g)) (is_push_block d) false
  beside d x stands (OfInterface i) =
      ap (λ a. if bytes_eq (name_of d) i.name then not a else is_push_block d && false) (stands.1 i)
      ∙ beside_named (bytes_eq (name_of d) i.name) (agree_named x (named.Interface i)) (is_push_block d) false
  beside d x stands (OfBlock block) =
      ap (λ a. if bytes_eq (name_of d) block.name then not a else is_push_block d && is_push block.kind) (stands.2 block)
      ∙ beside_named (bytes_eq (name_of d) block.name) (agree_named x (laid structs block)) (is_push_block d) (is_push block.kind)
  beside d x stands (OfFunction p) =
      ap (λ a. if bytes_eq (name_of d) p.name then not a else is_push_block d && false) (stands.3 p)
      ∙ beside_function (bytes_eq (name_of d) p.name) (is_push_block d)

  module _ (rows : NamedRows) (heads : HeadRows) (functions pushes : List (List ℕ)) (earlier : List Declaration) (tells : Tells rows heads functions pushes earlier) where
    named_is : (d : Declaration) (x : Named) → Stands d x
        → (against_named rows functions (name_of d) x || (is_push_block d && has_other pushes (name_of d))) ≡ is_against_any structs earlier d
    named_is d x stands =
        ap (λ b. (b || list_any (bytes_eq name) functions) || (is_push_block d && has_other pushes name)) (tells.named (not_alike x) name)
        ∙ ap (λ b. (list_any (named_so (not_alike x) name) earlier || b) || (is_push_block d && has_other pushes name)) (tells.called name)
        ∙ ap (λ b. (list_any (named_so (not_alike x) name) earlier || list_any (on_head (of_name name)) earlier) || (is_push_block d && b)) (tells.pushed name)
        ∙ ap (λ b. b || (is_push_block d && list_any (other_push name) earlier)) (sym (any_or (named_so (not_alike x) name) (on_head (of_name name)) earlier))
        ∙ ap (λ b. list_any (λ e. named_so (not_alike x) name e || on_head (of_name name) e) earlier || b) (sym (any_and (is_push_block d) (other_push name) earlier))
        ∙ sym (any_or (λ e. named_so (not_alike x) name e || on_head (of_name name) e) (λ e. is_push_block d && other_push name e) earlier)
        ∙ sym (any_alike (is_against structs d) _ (beside d x stands) earlier)
      where
        name : List ℕ
        name = name_of d

    variable_is : (g : GlobalVar) → against_named rows functions g.name (named.Variable g) ≡ is_against_any structs earlier (OfVariable g)
    variable_is g = sym (or_false _) ∙ named_is (OfVariable g) (named.Variable g) ((λ h. refl), (λ i. refl), (λ block. refl), (λ p. refl))

    interface_is : (i : Interface) → against_named rows functions i.name (named.Interface i) ≡ is_against_any structs earlier (OfInterface i)
    interface_is i = sym (or_false _) ∙ named_is (OfInterface i) (named.Interface i) ((λ h. refl), (λ j. refl), (λ block. refl), (λ p. refl))

    block_is : (block : Block) → against_block structs rows functions pushes block ≡ is_against_any structs earlier (OfBlock block)
    block_is block = named_is (OfBlock block) (laid structs block) ((λ g. refl), (λ i. refl), (λ other. refl), (λ p. refl))

    there_is : {A : Type 0} (row : List A) → is_there row ≡ list_any (λ x. true) row
    there_is [] = refl
    there_is (x ∷ row) = refl

    -- heads of one function, and of two
    beside_head : (n s r : Bool) → (if n then not (not s || r) else false) ≡ ((not (not s || r) && (n && s)) || false)
    beside_head true true true = refl
    beside_head true true false = refl
    beside_head true false r = refl
    beside_head false true true = refl
    beside_head false true false = refl
    beside_head false false r = refl

    beside_other : (n : Bool) → (if n then true else false) ≡ (false || (true && n))
    beside_other true = refl
    beside_other false = refl

    abbrev not_alike_head : Prototype → Prototype → Bool
    not_alike_head p q = not (agree_functions p q)

    head_beside : (p : Prototype) (e : Declaration)
        → is_against structs (OfFunction p) e ≡ (on_head (of_words (not_alike_head p) (head_words p)) e || named_so (λ x. true) p.name e)
    head_beside p (OfVariable g) = beside_other (bytes_eq p.name g.name)
    head_beside p (OfInterface i) = beside_other (bytes_eq p.name i.name)
    head_beside p (OfBlock block) = beside_other (bytes_eq p.name block.name)
    head_beside p (OfFunction q) =
        beside_head (bytes_eq p.name q.name) (same_params p.params q.params) (same_type p.result q.result && same_directions p.params q.params)
        ∙ ap (λ b. (not_alike_head p q && b) || false) (sym (heads_tell p q))

    head_is : (p : Prototype) → against_heads rows heads p ≡ is_against_any structs earlier (OfFunction p)
    head_is p =
        ap (λ b. b || is_there (row_of rows p.name)) (tells.headed (not_alike_head p) (head_words p))
        ∙ ap (λ b. list_any (on_head (of_words (not_alike_head p) (head_words p))) earlier || b) (there_is (row_of rows p.name) ∙ tells.named (λ x. true) p.name)
        ∙ sym (any_or (on_head (of_words (not_alike_head p) (head_words p))) (named_so (λ x. true) p.name) earlier)
        ∙ sym (any_alike (is_against structs (OfFunction p)) _ (head_beside p) earlier)

    -- ---- places, kind by kind

    abbrev against : List Declaration → List Declaration
    against ds = filter (is_against_any structs earlier) ds

    abbrev places_of : List Declaration → List Place
    places_of ds = map declared_at ds

    -- one more
    placed : (so : Bool) (d : Declaration) (later : List Declaration) (go : List Place → List Place) (places : List Place) → so ≡ is_against_any structs earlier d
        → ((l : List Place) → go l ≡ l ++ places_of later) → go (with_place so places (declared_at d)) ≡ places ++ places_of (cond (is_against_any structs earlier d) (d ∷ later) later)
    placed so d later go places is goes = by_cases so ∙ ap (λ b. places ++ places_of (cond b (d ∷ later) later)) is
      where
        by_cases : (b : Bool) → go (with_place b places (declared_at d)) ≡ places ++ places_of (cond b (d ∷ later) later)
        by_cases true = goes (places ++ declared_at d ∷ []) ∙ append_assoc places (declared_at d ∷ []) (places_of later)
        by_cases false = goes places

    variables_are : (places : List Place) (globals : List GlobalVar) → variables_against rows functions places globals ≡ places ++ places_of (against (variables_in globals))
    variables_are places [] = sym (append-nil places)
    variables_are places (g ∷ globals) = by_cases g.constant (λ l. variables_are l globals)
      where
        by_cases : (b : Bool) → ((l : List Place) → variables_against rows functions l globals ≡ l ++ places_of (against (variables_in globals)))
            → variables_against rows functions (with_place (not b && against_named rows functions g.name (named.Variable g)) places g.place) globals
            ≡ places ++ places_of (against (map OfVariable (cond (not b) (g ∷ filter is_shared globals) (filter is_shared globals))))
        by_cases true goes = goes places
        by_cases false goes =
            placed (against_named rows functions g.name (named.Variable g)) (OfVariable g) (against (variables_in globals)) (λ l. variables_against rows functions l globals) places (variable_is g) goes

    interfaces_are : (places : List Place) (interfaces : List Interface) → interfaces_against rows functions places interfaces ≡ places ++ places_of (against (map OfInterface interfaces))
    interfaces_are places [] = sym (append-nil places)
    interfaces_are places (i ∷ interfaces) =
        placed (against_named rows functions i.name (named.Interface i)) (OfInterface i) (against (map OfInterface interfaces)) (λ l. interfaces_against rows functions l interfaces) places
        (interface_is i) (λ l. interfaces_are l interfaces)

    blocks_are : (places : List Place) (blocks : List Block) → blocks_against structs rows functions pushes places blocks ≡ places ++ places_of (against (map OfBlock blocks))
    blocks_are places [] = sym (append-nil places)
    blocks_are places (block ∷ blocks) =
        placed (against_block structs rows functions pushes block) (OfBlock block) (against (map OfBlock blocks)) (λ l. blocks_against structs rows functions pushes l blocks) places
        (block_is block) (λ l. blocks_are l blocks)

    heads_are : (places : List Place) (ps : List Prototype) → heads_against rows heads places ps ≡ places ++ places_of (against (map OfFunction ps))
    heads_are places [] = sym (append-nil places)
    heads_are places (p ∷ ps) =
        placed (against_heads rows heads p) (OfFunction p) (against (map OfFunction ps)) (λ l. heads_against rows heads l ps) places (head_is p) (λ l. heads_are l ps)

    -- what stands behind others
    joined : (places : List Place) (xs ys : List Declaration) → (places ++ places_of (against xs)) ++ places_of (against ys) ≡ places ++ places_of (against (xs ++ ys))
    joined places xs ys =
        append_assoc places (places_of (against xs)) (places_of (against ys))
        ∙ ap (λ l. places ++ l) (sym (map-append declared_at (against xs) (against ys)) ∙ ap places_of (sym (filter-append (is_against_any structs earlier) xs ys)))

    unit_is : (places : List Place) (side : Side) → unit_against structs rows heads functions pushes places side ≡ places ++ places_of (against (declarations side))
    unit_is places side =
        heads_are _ side.unit.prototypes
        ∙ ap (λ l. l ++ places_of (against functions_of)) (blocks_are _ side.unit.blocks
        ∙ ap (λ l. l ++ places_of (against blocks)) (interfaces_are _ side.unit.interfaces
        ∙ ap (λ l. l ++ places_of (against interfaces)) (variables_are places side.unit.globals)
        ∙ joined places variables interfaces)
        ∙ joined places (variables ++ interfaces) blocks)
        ∙ joined places ((variables ++ interfaces) ++ blocks) functions_of
      where
        variables : List Declaration
        variables = variables_in side.unit.globals

        interfaces : List Declaration
        interfaces = map OfInterface side.unit.interfaces

        blocks : List Declaration
        blocks = map OfBlock side.unit.blocks

        functions_of : List Declaration
        functions_of = map OfFunction side.unit.prototypes

  -- ---- of all units

  all_are : (rows : NamedRows) (heads : HeadRows) (functions pushes : List (List ℕ)) (earlier : List Declaration) (places : List Place) (sides : List Side) → Tells rows heads functions pushes earlier
      → all_against structs rows heads functions pushes places sides ≡ places ++ map declared_at (against_earlier structs earlier sides)
  all_are rows heads functions pushes earlier places [] tells = sym (append-nil places)
  all_are rows heads functions pushes earlier places (side ∷ sides) tells =
      ap (λ l. all_against structs (with_unit structs rows side) (with_heads heads side.unit.prototypes) (with_functions functions side.unit.prototypes) (with_pushes pushes side.unit.blocks) l sides)
      (unit_is rows heads functions pushes earlier tells places side)
      ∙ all_are (with_unit structs rows side) (with_heads heads side.unit.prototypes) (with_functions functions side.unit.prototypes) (with_pushes pushes side.unit.blocks) (earlier ++ declarations side)
      (places ++ map declared_at here) sides (unit_told rows heads functions pushes earlier side tells)
      ∙ append_assoc places (map declared_at here) (map declared_at later) ∙ ap (λ l. places ++ l) (sym (map-append declared_at here later))
    where
      here : List Declaration
      here = filter (is_against_any structs earlier) (declarations side)

      later : List Declaration
      later = against_earlier structs (earlier ++ declarations side) sides

  pub against_are : (sides : List Side) → all_against structs [] [] [] [] [] sides ≡ map declared_at (against_earlier structs [] sides)
  against_are sides = all_are [] [] [] [] [] [] sides (record { named = λ test name. refl; headed = λ test key. refl; called = λ name. refl; pushed = λ name. refl })
