-- Blocks that are declared are as a unit's must be.
use Rattle.std.proofs.Common.{◌≡◌, refl, sym, ap, ◌∙◌, subst, ℕ, ◌<◌, List, [], ◌∷◌, ◌++◌, map, length, Option, Some, None, is_some, Bool, true, false, not, ◌&&◌, ◌||◌, IsTrue, Ok, arith, length-append}
use Rattle.std.specs.List.{AllByRecursion, list_all}
use Rattle.std.proofs.lemmas.Bool.{and_parts, and_from, leb-true}
use Rattle.gsl_base.specs.Checked.{Checked, ◌>>=◌}
use Rattle.gsl_base.specs.declared.fault.Code.TheVariants.{E0403, E0404, E0510, E0708, E0709, E0908}
use Rattle.gsl_base.specs.declared.stage.Stage.{Stage}
use Rattle.gsl_syntax.specs.declared.declaration.Name.{Name}
use Rattle.gsl_syntax.specs.declared.declaration.Declared.{Declared}
use Rattle.gsl_syntax.specs.declared.declaration.Member.{Member as Line}
use Rattle.gsl_types.specs.Known.{IsSound, sound, sound_kind, is_plain, is_plain_kind}
use Rattle.gsl_types.specs.declared.ty.StructType.{StructType}
use Rattle.gsl_types.specs.declared.ty.Ty.{Ty}
use Rattle.gsl_types.specs.declared.ty.Ty.TheOpen.{Ty-F}
use Rattle.gsl_types.specs.declared.ty.Ty.TheFolds.{fold-roll-Ty}
use Rattle.gsl_types.specs.declared.ty.Ty.TheViews.{out-Ty, roll-Ty, roll-out-Ty}
use Rattle.gsl_types.specs.declared.ty.Ty.TheVariants as ty
use Rattle.gsl_types.specs.declared.ty.Ty.TheVariants.{outs-Runtime, rolls-Runtime}
use Rattle.gsl_layout.specs.Measures.{misplaced_in}
use Rattle.gsl_tree.specs.declared.unit.BlockKind.{BlockKind}
use Rattle.gsl_tree.specs.declared.unit.BlockKind.TheVariants as kind
use Rattle.gsl_tree.specs.declared.unit.BlockMember.{BlockMember}
use Rattle.gsl_tree.specs.Around.{is_buffer}
use Rattle.gsl_tree.specs.Laying.{rule_of, members_of, placings_of}
use Rattle.gsl_tree.specs.Weights.{height_of, most_high}
use Rattle.gsl_tree.specs.WellTyped.{is_member_kind, is_member_type, IsBlockMember, AreBlockMembers}
use Rattle.gsl_overload.proofs.Same.{no_more}
use Rattle.gsl_check_expr.specs.declared.env.Env.{Env}
use Rattle.gsl_check_expr.specs.declared.writing.Written.{Written}
use Rattle.gsl_check_expr.specs.declared.writing.Written.TheVariants.{Whole, Open}
use Rattle.gsl_check_expr.specs.Expressions.{bracket}
use Rattle.gsl_check_expr.specs.Written.{written_type, declared}
use Rattle.gsl_check_decl.specs.Declaring.{is_reserved, may_be_had, is_high}
use Rattle.gsl_check_decl.proofs.Gathering.{Holds, holds_after}
use Rattle.gsl_qualifiers.specs.declared.qualified.Role.TheVariants.{Member}
use Rattle.gsl_qualifiers.specs.declared.qualified.Qualified.{Qualified}
use Rattle.gsl_qualifiers.specs.Qualifiers.{qualified}
use Rattle.gsl_check_blocks.specs.declared.frame.Frame.{Frame}
use Rattle.gsl_check_blocks.specs.Blocks.{member_type, had_type, is_open, is_taken, is_misplaced_array, offset_place, member_of, is_misplaced, may_be_member, may_stand, with_member, is_end, with_name, with_names, with_line, with_lines, kind_of, is_uniform, frame_of, may_be_instance, text_of, is_block_taken, block_of, may_be_block, block_with, block}
use Rattle.gsl_check_blocks.specs.Blocks as blocks
use Rattle.gsl_formed.specs.Formed.{is_name, has_some, names_formed, line_formed, lines_formed, spec_formed, dims_formed}
use Rattle.gsl_check_law.specs.Scenes.{IsEnv}
use Rattle.gsl_check_law.proofs.Rows.{row, not_false, both, so}
use Rattle.gsl_check_law.proofs.Names.{name_is}
use Rattle.gsl_check_law.proofs.Found.{all_append}
use Rattle.gsl_check_law.proofs.Qualified.{Allowed, IsSaid}
use Rattle.gsl_check_law.proofs.Tops.{IsTop}
use Rattle.gsl_check_law.proofs.Outer.{said_here}
use Rattle.gsl_typing.specs.Rows.{unless}
use Rattle.gsl_check_law.proofs.Lists.{GoodAt}
use Rattle.gsl_check_law.specs.Small.{IsCounted, is_counted, counted_layer}
use Rattle.gsl_check_law.proofs.Declaring.{written_good, declared_good}

-- ---- types of members

member_layer : (last : Bool) (layer : Ty-F Ty) (t : Ty) → roll-Ty layer ≡ t → IsTrue (is_plain t) → IsTrue (is_member_kind last layer)
member_layer last Ty-F.Void t at flat = sym (fold-roll-Ty Bool is_plain_kind Ty-F.Void) ∙ ap is_plain at ∙ flat
member_layer last (Ty-F.One s) t at flat = refl
member_layer last (Ty-F.Vector s n) t at flat = refl
member_layer last (Ty-F.Array e n) t at flat = sym (fold-roll-Ty Bool is_plain_kind (Ty-F.Array e n)) ∙ ap is_plain at ∙ flat
member_layer last (Ty-F.Runtime e) t at flat = no_more (sym (fold-roll-Ty Bool is_plain_kind (Ty-F.Runtime e)) ∙ ap is_plain at ∙ flat)
member_layer last (Ty-F.Struct n) t at flat = refl

runtime_sound : (n : ℕ) (e : Ty) → sound n (ty.Runtime e) ≡ sound n e
runtime_sound n e = ap (sound n) (sym (rolls-Runtime e)) ∙ fold-roll-Ty Bool (sound_kind n) (Ty-F.Runtime e)

member_sound : (n : ℕ) (t : Written) → IsSound n (had_type t) → IsSound n (member_type t)
member_sound n (Whole t) is = is
member_sound n (Open place e) is = runtime_sound n e ∙ is

member_counted : (n : ℕ) (t : Written) → GoodAt n t → IsCounted (member_type t)
member_counted n (Whole t) is = is.1
member_counted n (Open place e) is = ap is_counted (sym (rolls-Runtime e)) ∙ fold-roll-Ty Bool counted_layer (Ty-F.Runtime e) ∙ is.1

-- the last part of a test that is not misplaced
may_be_open : (buffer last : Bool) → not (buffer && last) ≡ false → IsTrue (last && buffer)
may_be_open true true is = refl
may_be_open true false is = no_more (sym is)
may_be_open false last is = no_more (sym is)

member_kind : (buffer last : Bool) (t : Written) → IsTrue (is_plain (had_type t)) → (is_open t && not (buffer && last)) ≡ false → IsTrue (is_member_type (last && buffer) (member_type t))
member_kind buffer last (Whole t) flat right = member_layer (last && buffer) (out-Ty t) t (roll-out-Ty t) flat
member_kind buffer last (Open place e) flat right = ap (is_member_kind (last && buffer)) (outs-Runtime e) ∙ and_from (last && buffer) (is_plain e) (may_be_open buffer last right) flat

-- a type that another member may follow may end the block
may_end : (buffer : Bool) (layer : Ty-F Ty) → IsTrue (is_member_kind (false && buffer) layer) → IsTrue (is_member_kind (true && buffer) layer)
may_end buffer Ty-F.Void is = is
may_end buffer (Ty-F.One s) is = is
may_end buffer (Ty-F.Vector s n) is = is
may_end buffer (Ty-F.Array e n) is = is
may_end buffer (Ty-F.Runtime e) is = no_more is
may_end buffer (Ty-F.Struct n) is = is

-- ---- memory qualifiers

unsaid_is : (x : Bool) → Allowed x false → x ≡ false
unsaid_is false is = refl
unsaid_is true is = no_more is

neither_is : (x y : Bool) → x ≡ false → y ≡ false → (x || y) ≡ false
neither_is x y a b = ap (λ z. z || y) a ∙ b

memory_only : (b r w c v t r2 w2 c2 v2 t2 : Bool) → Allowed c b × Allowed v b × Allowed t b × Allowed r b × Allowed w b → Allowed c2 b × Allowed v2 b × Allowed t2 b × Allowed r2 b × Allowed w2 b
    → IsTrue (b || not ((r || r2) || (w || w2) || (c || c2) || (v || v2) || (t || t2)))
memory_only true r w c v t r2 w2 c2 v2 t2 first second = refl
memory_only false r w c v t r2 w2 c2 v2 t2 first second =
    let pair = λ (x y : Bool) (p : Allowed x false) (q : Allowed y false). neither_is x y (unsaid_is x p) (unsaid_is y q) in
    ap not (neither_is _ _ (neither_is _ _ (neither_is _ _ (neither_is _ _ (pair r r2 first.3 second.3) (pair w w2 first.4 second.4)) (pair c c2 first.0 second.0)) (pair v v2 first.1 second.1)) (pair t t2 first.2 second.2))

-- ---- members that are gathered

none_is : {A : Type 0} (o : Option A) → is_some o ≡ false → o ≡ None
none_is None is = refl
none_is (Some a) is = no_more (sym is)

pub buffer_is : (k : BlockKind) → blocks.is_buffer k ≡ is_buffer k
buffer_is kind.Uniform = refl
buffer_is kind.Buffer = refl
buffer_is kind.Push = refl

module _ (stage : Stage) (env : Env) (fine : IsEnv env) (top : IsTop stage env.scene) (k : BlockKind) (frame : Frame) (buffer : frame.buffer ≡ is_buffer k)
    (said : Allowed frame.said.coherent (is_buffer k) × Allowed frame.said.volatile (is_buffer k) × Allowed frame.said.restrict (is_buffer k) × Allowed frame.said.readonly (is_buffer k) × Allowed frame.said.writeonly (is_buffer k)) where
  abbrev structs : List StructType
  structs = env.scene.structs

  abbrev IsOne : Bool → BlockMember → Type 0
  IsOne last m = IsBlockMember structs k last m

  -- members so far: behind the end of the block there may be a runtime array
  pub record State (ended : Bool) (members : List BlockMember) : Type 0 where
    pub flat : ended ≡ false → AllByRecursion (IsOne false) members
    pub are : AreBlockMembers structs k members
    pub placed : misplaced_in (rule_of frame.std140) structs (members_of members) (placings_of members) ≡ None
    pub some : ended ≡ true → 0 < length members
    pub counted : AllByRecursion (λ (m : BlockMember). IsCounted m.ty) members

  ends : (m : BlockMember) → IsOne false m → IsOne true m
  ends m is = record { name = is.name; known = is.known; low = is.low; type = may_end (is_buffer k) (out-Ty m.ty) is.type; qualifiers = is.qualifiers }

  are_behind : (members : List BlockMember) (m : BlockMember) → AllByRecursion (IsOne false) members → IsOne true m → AreBlockMembers structs k (members ++ m ∷ [])
  are_behind [] m all is = is
  are_behind (x ∷ []) m all is = (all.0, is)
  are_behind (x ∷ y ∷ members) m all is = (all.0, are_behind (y ∷ members) m all.1 is)

  true_of : (last : Bool) (m : BlockMember) → IsOne last m → IsOne true m
  true_of true m is = is
  true_of false m is = ends m is

  state_more : (last : Bool) (members : List BlockMember) (m : BlockMember) → State false members → IsOne last m → IsCounted m.ty → misplaced_in (rule_of frame.std140) structs (members_of (members ++ m ∷ [])) (placings_of (members ++ m ∷ [])) ≡ None → State last (members ++ m ∷ [])
  state_more last members m state is count_is placed = record {
    flat = λ more. all_append (IsOne false) members (m ∷ []) (state.flat refl) (subst (λ (b : Bool). IsOne b m) more is, tt);
    are = are_behind members m (state.flat refl) (true_of last m is);
    placed = placed;
    some = λ _. omega (arith, length-append members (m ∷ []));
    counted = all_append (λ (m : BlockMember). IsCounted m.ty) members (m ∷ []) state.counted (count_is, tt);
  }

  module _ (last : Bool) (q : Qualified) (of_line : IsSaid stage (Member frame.buffer) q) where
    abbrev made : Name → Written → BlockMember
    made name t = member_of frame q name (member_type t)

    abbrev Had : Written → Type 0
    Had t = IsTrue (is_plain (had_type t)) × IsSound (length structs) (had_type t) × (is_misplaced_array frame last t ≡ false)

    had_member : (name : Name) (t : Written) (members : List BlockMember) → Holds (λ _. Had t) (may_be_member frame last env name t members)
    unfolding may_be_member may_be_had
    had_member name t members =
        let P = λ (_ : Unit {0}). Had t in
        let node : Checked (Unit {0}) = Ok tt in
        let arrays = (E0708, is_misplaced_array frame last t) ∷ [] in
        let types = (E0510, not (may_be_had env.scene (had_type t))) ∷ arrays in
        let names = (E0404, is_reserved name.text) ∷ types in
        row P name.place E0403 (is_taken frame env members name.text) names node
        (λ _. row P name.place E0404 (is_reserved name.text) types node
        (λ _. row P name.place E0510 (not (may_be_had env.scene (had_type t))) arrays node
        (λ had. row P name.place E0708 (is_misplaced_array frame last t) [] node
        (λ right. let parts = both (is_plain (had_type t)) (sound (length structs) (had_type t)) had in (parts.0, parts.1, right)))))

    abbrev Stands : List BlockMember → BlockMember → Type 0
    Stands members m = (is_misplaced frame env.scene (members ++ m ∷ []) ≡ false) × (is_high env.scene m.ty ≡ false)

    stands_is : (name : Name) (members : List BlockMember) (m : BlockMember) → Holds (λ _. Stands members m) (may_stand env frame q name members m)
    unfolding may_stand
    stands_is name members m =
        let P = λ (_ : Unit {0}). Stands members m in
        let node : Checked (Unit {0}) = Ok tt in
        row P (offset_place name.place q.offset) E0709 (is_misplaced frame env.scene (members ++ m ∷ [])) [] (unless name.place ((E0908, is_high env.scene m.ty) ∷ []) node)
        (λ placed. row P name.place E0908 (is_high env.scene m.ty) [] node (λ low. (placed, low)))

    one_is : (name : Name) (t : Written) (members : List BlockMember) → IsTrue (is_name name.text) → Had t → Stands members (made name t) → IsOne last (made name t)
    unfolding is_misplaced_array is_high
    one_is name t members formed had stands = record {
      name = name_is name.text formed;
      known = member_sound (length structs) t had.1;
      low = leb-true (height_of structs (member_type t)) most_high (not_false _ stands.1);
      type = subst (λ (b : Bool). IsTrue (is_member_type (last && b) (member_type t))) buffer (member_kind frame.buffer last t had.0 had.2);
      qualifiers = memory_only (is_buffer k) q.readonly q.writeonly q.coherent q.volatile q.restrict frame.said.readonly frame.said.writeonly frame.said.coherent frame.said.volatile frame.said.restrict
          (subst (λ (b : Bool). Allowed q.coherent b × Allowed q.volatile b × Allowed q.restrict b × Allowed q.readonly b × Allowed q.writeonly b) buffer of_line.1) said;
    }

    placed_is : (members : List BlockMember) → is_misplaced frame env.scene members ≡ false → misplaced_in (rule_of frame.std140) structs (members_of members) (placings_of members) ≡ None
    unfolding is_misplaced
    placed_is members is = none_is _ is

    member_state : (name : Name) (t : Written) (members : List BlockMember) → IsTrue (is_name name.text) → GoodAt (length structs) t → State false members → Holds (State last) (with_member frame last env q name t members)
    unfolding with_member
    member_state name t members formed good state =
        holds_after (λ _. Had t) (State last) (may_be_member frame last env name t members) (λ _. may_stand env frame q name members (made name t) >>= (λ _. Ok (members ++ made name t ∷ []))) (had_member name t members)
        (λ _ had. holds_after (λ _. Stands members (made name t)) (State last) (may_stand env frame q name members (made name t)) (λ _. Ok (members ++ made name t ∷ [])) (stands_is name members (made name t))
        (λ _ stands. state_more last members (made name t) state (one_is name t members formed had stands) (member_counted (length structs) t good) (placed_is (members ++ made name t ∷ []) stands.0)))

    name_state : (base : Written) (one : Declared) (members : List BlockMember) → GoodAt (length structs) base → IsTrue (is_name one.name.text && dims_formed one.dims) → State false members → Holds (State last) (with_name frame last env q base one members)
    unfolding with_name
    name_state base one members good formed state =
        let parts = and_parts (is_name one.name.text) (dims_formed one.dims) formed in
        holds_after (GoodAt (length structs)) (State last) (declared (map (bracket env) one.dims) base) (λ t. with_member frame last env q one.name t members) (declared_good env fine one.dims base parts.1 good) (λ t is. member_state one.name t members parts.0 is state)

  and_true : (b : Bool) → (b && true) ≡ b
  and_true true = refl
  and_true false = refl

  and_false : (b : Bool) → (b && false) ≡ false
  and_false true = refl
  and_false false = refl

  names_state : (last : Bool) (q : Qualified) → IsSaid stage (Member frame.buffer) q → (base : Written) (one : Declared) (more : List Declared) (members : List BlockMember) → GoodAt (length structs) base → IsTrue (names_formed (one ∷ more)) → State false members
      → Holds (State last) (with_names frame last env q base (one ∷ more) members)
  names_state last q of_line base one [] members good formed state =
      let parts = and_parts (is_name one.name.text && dims_formed one.dims) true formed in
      holds_after (State (last && true)) (State last) (with_name frame (last && true) env q base one members) (with_names frame last env q base []) (name_state (last && true) q of_line base one members good parts.0 state)
      (λ next is. subst (λ (b : Bool). State b next) (and_true last) is)
  names_state last q of_line base one (two ∷ more) members good formed state =
      let parts = and_parts (is_name one.name.text && dims_formed one.dims) (names_formed (two ∷ more)) formed in
      holds_after (State (last && false)) (State last) (with_name frame (last && false) env q base one members) (with_names frame last env q base (two ∷ more)) (name_state (last && false) q of_line base one members good parts.0 state)
      (λ next is. names_state last q of_line base two more next good parts.1 (subst (λ (b : Bool). State b next) (and_false last) is))

  some_names : (last : Bool) (q : Qualified) → IsSaid stage (Member frame.buffer) q → (base : Written) (names : List Declared) (members : List BlockMember) → GoodAt (length structs) base → IsTrue (has_some names) → IsTrue (names_formed names) → State false members
      → Holds (State last) (with_names frame last env q base names members)
  some_names last q of_line base [] members good some formed state = no_more some
  some_names last q of_line base (one ∷ more) members good some formed state = names_state last q of_line base one more members good formed state

  line_state : (last : Bool) (line : Line) (members : List BlockMember) → IsTrue (line_formed line) → State false members → Holds (State last) (with_line frame last env line members)
  unfolding with_line
  line_state last line members formed state =
      let parts = and_parts (has_some line.names) (spec_formed line.ty && names_formed line.names) formed in
      let types = and_parts (spec_formed line.ty) (names_formed line.names) parts.1 in
      holds_after (IsSaid stage (Member frame.buffer)) (State last) (qualified env (Member frame.buffer) line.quals) (λ q. written_type env line.ty >>= (λ base. with_names frame last env q base line.names members)) (said_here stage env fine top (Member frame.buffer) line.quals)
      (λ q of_line. holds_after (GoodAt (length structs)) (State last) (written_type env line.ty) (λ base. with_names frame last env q base line.names members) (written_good env fine line.ty types.0) (λ base good. some_names last q of_line base line.names members good parts.0 types.1 state))

  lines_state : (line : Line) (lines : List Line) (members : List BlockMember) → IsTrue (list_all line_formed (line ∷ lines)) → State false members → Holds (State true) (with_lines frame env (line ∷ lines) members)
  lines_state line [] members formed state =
      let parts = and_parts (line_formed line) true formed in
      holds_after (State true) (State true) (with_line frame true env line members) (with_lines frame env []) (line_state true line members parts.0 state) (λ next is. is)
  lines_state line (two ∷ lines) members formed state =
      let parts = and_parts (line_formed line) (list_all line_formed (two ∷ lines)) formed in
      holds_after (State false) (State true) (with_line frame false env line members) (with_lines frame env (two ∷ lines)) (line_state false line members parts.0 state) (λ next is. lines_state two lines next parts.1 is)

  -- the members of all lines are those of a block
  pub all_members : (lines : List Line) → IsTrue (lines_formed lines) → Holds (λ (members : List BlockMember). State true members × (0 < length members)) (with_lines frame env lines [])
  all_members [] formed = no_more formed
  all_members (line ∷ lines) formed = so (State true) (λ (members : List BlockMember). State true members × (0 < length members)) (with_lines frame env (line ∷ lines) []) (lines_state line lines [] (and_parts true (list_all line_formed (line ∷ lines)) formed).1 (record { flat = λ _. tt; are = tt; placed = refl; some = λ e. no_more e; counted = tt })) (λ members state. (state, state.some refl))
