-- What names, values, members and swizzles lead to.
use Rattle.std.proofs.Common.{◌≡◌, ◌≢◌, refl, sym, ap, ◌∙◌, subst, inl, ℕ, ◌||◌, Bool, true, false, List, [], ◌∷◌, length, Option, Some, None}
use Rattle.std.specs.Prelude.{slice_get}
use Rattle.gsl_base.specs.declared.input.Input.{Input}
use Rattle.gsl_instr.specs.declared.enumerant.storage_class.TheConstants as storage_class
use Rattle.gsl_types.specs.Known.{AreStructs, IsSound}
use Rattle.gsl_types.specs.declared.ty.Ty.{Ty}
use Rattle.gsl_types.specs.declared.ty.Ty.TheVariants.{Void}
use Rattle.gsl_words.specs.declared.module.Module.{Module}
use Rattle.gsl_values.specs.declared.value.Value.{Value}
use Rattle.gsl_values.specs.declared.lane.Lanes.{Lanes}
use Rattle.gsl_values.specs.Vectors.{components as positions_of}
use Rattle.gsl_tree.specs.Around.{Around}
use Rattle.gsl_tree.specs.Expressions.{HasPartType}
use Rattle.gsl_tree.specs.Laying.{layout_of}
use Rattle.gsl_tree.specs.Paths.{repeats}
use Rattle.gsl_tree.specs.Shapes.{Shape, shape_of}
use Rattle.gsl_tree.specs.declared.program.Program.{Program}
use Rattle.gsl_tree.specs.declared.unit.Block.{Block as Declared}
use Rattle.gsl_tree.specs.declared.unit.Interface.{Interface}
use Rattle.gsl_meaning.specs.Accesses as access
use Rattle.gsl_views.specs.Paths.{Leads}
use Rattle.gsl_meaning.specs.Accesses.{Access, Root, member_of, swizzle_of}
use Rattle.gsl_meaning.specs.Expressions.{member_root}
use Rattle.gsl_meaning.specs.Running.{Ends, Goes, Got, Ran, Run, Strays, given as shader_given}
use Rattle.gsl_meaning.specs.Running as shader_run
use Rattle.gsl_meaning.specs.State as shader
use Rattle.gsl_machine.specs.State.{State}
use Rattle.gsl_spv.specs.Sections.{Sections}
use Rattle.gsl_lower_places.specs.Reached.{is_block_class, loose, part_of, swizzled, whole}
use Rattle.gsl_lower_places.specs.declared.reached.Base.TheVariants.{Variable}
use Rattle.gsl_lower_places.specs.declared.reached.Part.TheVariants.{Fixed}
use Rattle.gsl_lower_places.specs.declared.reached.Reached.{Reached}
use Rattle.gsl_lower_holders.specs.Flow.{Emit, Flow, Gives, Lacks, Lowered, behind, given, id_at, told, type_id, ◌>>=◌}
use Rattle.gsl_lower_holders.specs.declared.place.FlowPlace.{FlowPlace}
use Rattle.gsl_lower_expr.specs.Parts.{Lower, in_block as in_block_code, class_by, interface_class, loose_value, member, named, shape_or, swizzled_by}
use Rattle.gsl_lower_follows.specs.Following.{Follows}
use Rattle.gsl_lower_follows.specs.Following.Astray.{later, now}
use Rattle.gsl_lower_follows.specs.Frames.{Frame, Global, Good, Holder, Interface as Passed, Local, Name, Param, Stage, id_of}
use Rattle.gsl_lower_follows.specs.Giving.{Adds, Does, GivesValue, GrownTo, HasGiven, none_waits}
use Rattle.gsl_lower_follows.proofs.Behind.{reaches_here}
use Rattle.gsl_lower_follows.proofs.Doing.{does_then}
use Rattle.gsl_lower_follows.proofs.Fetching.{adds_type_id}
use Rattle.gsl_lower_follows.proofs.Growing.{adds_given, adds_then}
use Rattle.gsl_lower_follows.proofs.Holding.{Unchanged, after_same, after_then, does_type_id, seat_known}
use Rattle.gsl_lower_law_names.proofs.OfLawExpr.{after_less, given_value}
use Rattle.gsl_lower_law_names.proofs.OfLawExpr.{shape_is}
use Rattle.gsl_lower_law_members.specs.Parts.{laid_as}
use Rattle.gsl_lower_law_members.specs.Sizes.{size_of}
use Rattle.gsl_lower_law_members.proofs.Laid.{block_member_laid}
use Rattle.gsl_lower_law_names.specs.Named.{IsNamed}
use Rattle.gsl_lower_reaching.specs.Reaching.{GivesPlace, HasReached, HasStrayed, IsTrail, KnowsMember, Start, root_of}
use Rattle.gsl_lower_reaching.specs.Reaching.Begins.{variable, value}
use Rattle.gsl_lower_reaching.specs.Reaching.IsTrail.{own, in_block}
use Rattle.gsl_lower_reaching.specs.Reaching.Start.{OfBlock, OfValue, OfVariable}
use Rattle.gsl_lower_reaching.specs.Trails.{IsInside, IsOutside, MayStore, Trail}
use Rattle.gsl_lower_reaching.specs.Stepping.{Swizzles}
use Rattle.gsl_lower_reaching.proofs.Blocks.{behind_beyond, block_further, block_here, block_longer, block_member, block_swizzled, further, inside_further, out_some}
use Rattle.gsl_lower_reaching.proofs.Parts.{inside_longer, inside_swizzled, longer, member_shapeless, more_inside, more_outside, outside_longer, outside_swizzled, own_member, own_swizzled, swizzled_trail}

some_same : {a b : Root} → Some a ≡ Some b → a ≡ b
some_same e = cc

-- names are those of variables
variable_root : (blocks : List Declared) (name : Name) (root : Root) → root_of name ≡ Some root → MayStore blocks root
variable_root blocks (Global number) root e = subst (MayStore blocks) (some_same e) tt
variable_root blocks (Passed number) root e = subst (MayStore blocks) (some_same e) tt
variable_root blocks (Stage number) root e = absurd cc
variable_root blocks (Param number) root e = subst (MayStore blocks) (some_same e) tt
variable_root blocks (Local number) root e = subst (MayStore blocks) (some_same e) tt
variable_root blocks (Holder number) root e = absurd cc

module _ (m : Module) (input : Input) (sections : Sections) (f : Frame m input sections) (p : Program) where
  -- what is given by what was given, on both sides
  pub does_maps : {A B R T : Type 0} (units : ℕ) (state : State) (First : A → Flow → R → shader.State → State → Type 0) (FirstWaits : A → Flow → shader.State → State → Type 0) (Is : B → Flow → T → shader.State → State → Type 0) (Waits : B → Flow → shader.State → State → Type 0)
      (ran : Ran R) (first : Lowered A) (g : A → B) (h : R → T) → ((a : A) (later : Flow) (r : R) (s : shader.State) (last : State) → First a later r s last → Is (g a) later (h r) s last)
      → ((a : A) (later : Flow) (s : shader.State) (last : State) → FirstWaits a later s last → Waits (g a) later s last)
      → Does m input sections f p 0 units state First FirstWaits ran first → Does m input sections f p 0 units state Is Waits (shader_run.behind ran (λ r. shader_given (h r))) (behind first (λ a. given (g a)))
  does_maps units state First FirstWaits Is Waits ran Lacks g h so waits does = tt
  does_maps {A} {B} {R} {T} units state First FirstWaits Is Waits ran (Gives a flow) g h so waits does = λ inside. by ran (does inside)
    where
      by : (ran : Ran R) → Follows m input p 0 units state (First a flow) (FirstWaits a flow) ran → Follows m input p 0 units state (Is (g a) flow) (Waits (g a) flow) (shader_run.behind ran (λ r. shader_given (h r)))
      by (Got r s left) q = record { later = q.later; is = so a flow r s q.later q.is; less = q.less; stretch = q.stretch }
      by (Ends s) q = q
      by Strays (now q) = now q
      by Strays (later s left q) = later s left (record { later = q.later; is = waits a flow s q.later q.is; less = q.less; stretch = q.stretch })
      by Goes q = q

  module _ (around : Around) where
    -- ---- names

    module _ (name : Name) (list : FlowPlace → List ℕ) (class number : ℕ) (root : Root) (same : (place : FlowPlace) → id_of place name ≡ slice_get (list place) number) (outside : is_block_class class ≡ false) (begins : root_of name ≡ Some root) (writes : Bool) (t : Ty) (known : IsNamed p around name t) where
      named_trail : Trail
      named_trail = record { root = root; front = []; ty = t; words = []; picks = None }

      pub named_place : GivesPlace m input sections f p around false OfVariable writes t (named list class number) (shader_given (access.whole root))
      unfolding named_trail
      named_place = record {
        adds = adds_then (told list number) (λ id. given (whole (Variable id class))) (λ b. by_id b (slice_get (list b.place) number)) (λ id. adds_given (whole (Variable id class)));
        does = λ b s units state good. by b s units state good (slice_get (list b.place) number) refl;
      }
        where
          by_id : (b : Flow) (o : Option ℕ) → GrownTo b (id_at o b)
          by_id b None = tt
          by_id b (Some id) = adds_given id b

          by : (b : Flow) (s : shader.State) (units : ℕ) (state : State) → Good m input sections f p around b s state → (o : Option ℕ) → slice_get (list b.place) number ≡ o
              → Does m input sections f p 0 units state (HasReached m input sections f p around false OfVariable writes t b state) (HasStrayed m input sections f p around false OfVariable writes t b state) (Got (access.whole root) s units) (behind (id_at o b) (λ id. given (whole (Variable id class))))
          by b s units state good None e = tt
          by b s units state good (Some id) e = λ inside.
              let seated = seat_known m input sections f b.place good.seated name id (same b.place ∙ e) in
              reaches_here m input units state (HasReached m input sections f p around false OfVariable writes t b state (whole (Variable id class)) b (access.whole root) s)
              (record {
                trail = named_trail;
                is = own (record {
                  begins = variable (record { name = name; id = id; class = class; number = seated.0; is = refl; marked = refl; outside = outside; begins = begins; none = refl; seat = seated.1; points = seated.2; typed = known.typed });
                  numbers = tt;
                  picks = tt;
                });
                inside = record { begins = refl; whole = t; sound = known.sound; leads = refl; picks = (refl, refl, refl); may = tt; named = λ e. variable_root p.blocks name root begins };
                after = after_same m input sections f p around b s state good;
              })

    -- ---- values

    pub value_place : (splits : Bool) (t : Ty) (emit : Emit ℕ) (run : Run Value) → t ≢ Void → IsSound (length p.structs) t → GivesValue m input sections f p around splits t emit run
        → GivesPlace m input sections f p around splits OfValue false t (emit >>= loose_value t) (shader_run.◌>>=◌ run (λ v. shader_given (access.whole (access.Loose v))))
    value_place splits t emit run real sound gives = record {
      adds = adds_then emit (loose_value t) gives.adds adds_loose;
      does = λ b s units state good.
          does_then m input sections f p 0 units b state (HasGiven m input sections f p around splits t b state) none_waits (HasReached m input sections f p around splits OfValue false t b state) (HasStrayed m input sections f p around splits OfValue false t b state)
          (run s units) (λ v. shader_given (access.whole (access.Loose v))) (emit b) (loose_value t) good.inside (gives.adds b) adds_loose
          (gives.does b s units state good)
          (λ id between v u left mid inside grown got less.
          let real_v = given_value m input sections f p around mid.ids id t v real got.given in
          does_then m input sections f p 0 left between mid (Unchanged m input sections f p around between mid) none_waits (HasReached m input sections f p around splits OfValue false t b state) (HasStrayed m input sections f p around splits OfValue false t b state)
          (Got tt u left) (λ r w rest. Got (access.whole (access.Loose v)) w rest) (type_id t between) (λ type. given (loose id type)) inside (adds_type_id m input sections t between) (λ type. adds_given (loose id type))
          (does_type_id m input sections f p around t left between u mid got.after.good)
          (λ type flow r w rest last there grown2 same fewer ending.
          reaches_here m input rest last (HasReached m input sections f p around splits OfValue false t b state (loose id type) flow (access.whole (access.Loose v)) w)
          (record {
            trail = record { root = access.Loose v; front = []; ty = t; words = []; picks = None };
            is = own (record {
              begins = value (record { id = id; type_id = type; value = v; is = refl; marked = refl; fixed = tt; begins = refl; none = refl; stands = (same.ids refl).same id _ real_v.1; typed = real_v.0; has = tt });
              numbers = tt;
              picks = tt;
            });
            inside = record { begins = refl; whole = t; sound = sound; leads = refl; picks = (refl, refl, refl); may = tt; named = λ e. absurd (let z : false ≡ true = e in cc) };
            after = after_less m input sections f p around (splits || false) splits b flow state last w (none_more splits) (after_then m input sections f p around splits false b between flow state mid last u w grown got.after same);
          }))
          (λ type flow w rest last there grown2 none fewer. absurd none))
          (λ id between u left mid inside grown none less. absurd none);
    }
      where
        adds_loose : (id : ℕ) → Adds (loose_value t id)
        adds_loose id = adds_then (type_id t) (λ type. given (loose id type)) (adds_type_id m input sections t) (λ type. adds_given (loose id type))

        none_more : (c : Bool) → c ≡ false → (c || false) ≡ false
        none_more true e = e
        none_more false e = refl

    -- ---- one step more

    module _ (splits : Bool) (lies : Start) (writes written : Bool) (t whole_type : Ty) (g : Reached → Reached) (h : Access → Access) where
      -- what was reached leads on
      pub record LeadsOn (b : Flow) (state : State) (r : Reached) (a : Access) : Type 0 where
        pub trail : Trail
        pub is : IsTrail m input sections f p around false lies b state (g r) trail
        pub inside : IsInside p.structs p.blocks written t (h a) trail

      pub record StraysOn (b : Flow) (state : State) (r : Reached) : Type 0 where
        pub trail : Trail
        pub is : IsTrail m input sections f p around false lies b state (g r) trail
        pub outside : IsOutside p.structs p.blocks written t trail

      pub place_maps : (emit : Emit Reached) (run : Run Access)
          → ((b : Flow) (state : State) (r : Reached) (a : Access) (l : Trail) → IsInside p.structs p.blocks writes whole_type a l → IsTrail m input sections f p around false lies b state r l → LeadsOn b state r a)
          → ((b : Flow) (state : State) (r : Reached) (l : Trail) → IsOutside p.structs p.blocks writes whole_type l → IsTrail m input sections f p around false lies b state r l → StraysOn b state r)
          → GivesPlace m input sections f p around splits lies writes whole_type emit run → GivesPlace m input sections f p around splits lies written t (emit >>= (λ r. given (g r))) (shader_run.◌>>=◌ run (λ a. shader_given (h a)))
      place_maps emit run insides outsides gives = record {
        adds = adds_then emit (λ r. given (g r)) gives.adds (λ r. adds_given (g r));
        does = λ b s units state good.
            does_maps units state (HasReached m input sections f p around splits lies writes whole_type b state) (HasStrayed m input sections f p around splits lies writes whole_type b state)
            (HasReached m input sections f p around splits lies written t b state) (HasStrayed m input sections f p around splits lies written t b state) (run s units) (emit b) g h
            (λ r flow a w last x. let on = insides flow last r a x.trail x.inside x.is in record { trail = on.trail; is = on.is; inside = on.inside; after = x.after })
            (λ r flow w last x. let on = outsides flow last r x.trail x.outside x.is in record { trail = on.trail; is = on.is; outside = on.outside; after = x.after })
            (gives.does b s units state good);
      }

    pub member_place : (splits : Bool) (lies : Start) (writes : Bool) (t : Ty) (number : ℕ) (a : Lower) (run : Run Access) → AreStructs p.structs → HasPartType p.structs a.ty number t → IsSound (length p.structs) t → GivesPlace m input sections f p around splits lies writes a.ty a.reach run
        → GivesPlace m input sections f p around splits lies writes t (member a number) (shader_run.◌>>=◌ run (λ x. shader_given (member_of x number)))
    member_place splits lies writes t number a run are part sound gives =
        place_maps splits lies writes writes t a.ty (λ r. part_of r (Fixed number)) (λ x. member_of x number) a.reach run insides outsides gives
      where
        shapeless : (shape : Shape) → shape_of a.ty ≡ Some shape → ⊥
        shapeless = member_shapeless p.structs a.ty number t part

        insides : (b : Flow) (state : State) (r : Reached) (y : Access) (l : Trail) → IsInside p.structs p.blocks writes a.ty y l → IsTrail m input sections f p around false lies b state r l → LeadsOn splits lies writes writes t a.ty (λ r. part_of r (Fixed number)) (λ x. member_of x number) b state r y
        insides b state r y l inside (own x) = record {
          trail = longer l number;
          is = own (own_member m input sections f p around lies b state r l number (λ v. more_inside p.structs p.blocks are writes a.ty t number y l shapeless (inl part) sound inside v.value v.typed) x);
          inside = inside_longer p.structs p.blocks writes a.ty t number y l shapeless (inl part) sound inside;
        }
        insides b state r y l inside (in_block x) =
            let here = block_here m input sections f p around are lies writes a.ty b state r y l shapeless inside x in
            record {
              trail = further l number t;
              is = in_block (block_further m input sections f p around lies b state r l x (Fixed number) number t refl here.none here.no_picks (block_member m input sections f p around are lies writes a.ty b state r y l here x number t part) sound);
              inside = inside_further p.structs p.blocks writes a.ty t number y l here.none here.path_is here.unpicked sound inside;
            }

        outsides : (b : Flow) (state : State) (r : Reached) (l : Trail) → IsOutside p.structs p.blocks writes a.ty l → IsTrail m input sections f p around false lies b state r l → StraysOn splits lies writes writes t a.ty (λ r. part_of r (Fixed number)) (λ x. member_of x number) b state r
        outsides b state r l outside (own x) = record {
          trail = longer l number;
          is = own (own_member m input sections f p around lies b state r l number (λ v. more_outside p.structs p.blocks are writes a.ty l shapeless outside number v.value v.typed v.has) x);
          outside = outside_longer p.structs p.blocks writes a.ty t number l shapeless outside;
        }
        outsides b state r l outside (in_block x) = record {
          trail = longer l number;
          is = in_block (block_longer m input sections f p around lies b state r l x (Fixed number) number refl (behind_beyond (size_of m input x.begins.id) (laid_as x.begins.block.std140 p.structs l.ty) x.begins.offset l.words number p.structs l.ty (out_some p.structs l.ty a.ty l.words l.picks shapeless outside.out) x.begins.beyond));
          outside = outside_longer p.structs p.blocks writes a.ty t number l shapeless outside;
        }

    pub swizzle_place : (splits : Bool) (lies : Start) (writes written : Bool) (t : Ty) (shape : Shape) (lanes : Lanes) (a : Lower) (run : Run Access) → Swizzles a.ty t shape (positions_of lanes) → (written ≡ true → (writes ≡ true) × (repeats (positions_of lanes) ≡ false))
        → GivesPlace m input sections f p around splits lies writes a.ty a.reach run → GivesPlace m input sections f p around splits lies written t (swizzled_by a lanes) (shader_run.◌>>=◌ run (λ x. shader_given (swizzle_of x (positions_of lanes))))
    swizzle_place splits lies writes written t shape lanes a run is may gives =
        place_maps splits lies writes written t a.ty (swizzled (shape_or a.ty) (positions_of lanes)) (λ x. swizzle_of x (positions_of lanes)) a.reach run
        (λ b state r y l inside x. record { trail = swizzled_trail shape (positions_of lanes) l; is = swizzles b state r l x; inside = inside_swizzled p.structs p.blocks writes written a.ty t shape (positions_of lanes) is may y l inside })
        (λ b state r l outside x. record { trail = swizzled_trail shape (positions_of lanes) l; is = swizzles b state r l x; outside = outside_swizzled p.structs p.blocks writes written a.ty t shape (positions_of lanes) is may l outside })
        gives
      where
        by : (b : Flow) (state : State) (r : Reached) (l : Trail) → IsTrail m input sections f p around false lies b state r l → IsTrail m input sections f p around false lies b state (swizzled shape (positions_of lanes) r) (swizzled_trail shape (positions_of lanes) l)
        by b state r l (own x) = own (own_swizzled m input sections f p around lies b state r l shape (positions_of lanes) x)
        by b state r l (in_block x) = in_block (block_swizzled m input sections f p around lies b state r l x shape (positions_of lanes))

        swizzles : (b : Flow) (state : State) (r : Reached) (l : Trail) → IsTrail m input sections f p around false lies b state r l → IsTrail m input sections f p around false lies b state (swizzled (shape_or a.ty) (positions_of lanes) r) (swizzled_trail shape (positions_of lanes) l)
        swizzles b state r l x = subst (λ s. IsTrail m input sections f p around false lies b state (swizzled s (positions_of lanes) r) (swizzled_trail shape (positions_of lanes) l)) (sym (shape_is a.ty shape is.of)) (by b state r l x)

    -- ---- members of blocks

    module _ (block number : ℕ) (writes : Bool) (t : Ty) (known : KnowsMember m input sections f p around block number t) (may : writes ≡ true → MayStore p.blocks (access.Block block)) where
      abbrev from_class : ℕ → Emit Reached
      from_class id = told (λ place. place.classes) block >>= (λ class. given (part_of (whole (Variable id class)) (Fixed number)))

      pub block_place : GivesPlace m input sections f p around false OfBlock writes t (in_block_code block number) (shader_given (member_root block number))
      block_place = record {
        adds = adds_then (told (λ place. place.blocks) block) (λ id. told (λ place. place.classes) block >>= (λ class. given (part_of (whole (Variable id class)) (Fixed number)))) (λ b. by_id b (slice_get b.place.blocks block))
            (λ id. adds_then (told (λ place. place.classes) block) (λ class. given (part_of (whole (Variable id class)) (Fixed number))) (λ b. by_id b (slice_get b.place.classes block)) (λ class. adds_given (part_of (whole (Variable id class)) (Fixed number))));
        does = λ b s units state good. by b s units state good (slice_get b.place.blocks block) refl;
      }
        where
          by_id : (b : Flow) (o : Option ℕ) → GrownTo b (id_at o b)
          by_id b None = tt
          by_id b (Some id) = adds_given id b

          by_class : (b : Flow) (s : shader.State) (units : ℕ) (state : State) → Good m input sections f p around b s state → (id : ℕ) → slice_get b.place.blocks block ≡ Some id → (c : Option ℕ) → slice_get b.place.classes block ≡ c
              → Does m input sections f p 0 units state (HasReached m input sections f p around false OfBlock writes t b state) (HasStrayed m input sections f p around false OfBlock writes t b state) (Got (member_root block number) s units) (behind (id_at c b) (λ class. given (part_of (whole (Variable id class)) (Fixed number))))
          by_class b s units state good id e None at = tt
          by_class b s units state good id e (Some class) at = λ inside.
              let knows = known.knows id (sym (ap (λ (place : FlowPlace). slice_get place.blocks block) good.seated.same) ∙ e) in
              let laid = block_member_laid p.structs (size_of m input id) known.block number known.one known.found in
              reaches_here m input units state (HasReached m input sections f p around false OfBlock writes t b state (part_of (whole (Variable id class)) (Fixed number)) b (member_root block number) s)
              (record {
                trail = record { root = access.Block block; front = number ∷ []; ty = t; words = []; picks = None };
                is = in_block (record {
                  begins = record { number = block; id = id; class = class; block = known.block; offset = laid.0; is = refl; marked = refl; inside = known.class class (sym (ap (λ (place : FlowPlace). slice_get place.classes block) good.seated.same) ∙ at); begins = refl; knows = knows; leads = subst (λ u. Leads (size_of m input id) (layout_of p.structs known.block) 0 (number ∷ []) (laid_as known.block.std140 p.structs u) laid.0) known.same laid.1; sound = known.sound; beyond = tt };
                  numbers = (refl, tt);
                  picks = tt;
                });
                inside = record { begins = refl; whole = t; sound = known.sound; leads = refl; picks = (refl, refl, refl); may = tt; named = may };
                after = after_same m input sections f p around b s state good;
              })

          by : (b : Flow) (s : shader.State) (units : ℕ) (state : State) → Good m input sections f p around b s state → (o : Option ℕ) → slice_get b.place.blocks block ≡ o
              → Does m input sections f p 0 units state (HasReached m input sections f p around false OfBlock writes t b state) (HasStrayed m input sections f p around false OfBlock writes t b state) (Got (member_root block number) s units) (behind (id_at o b) from_class)
          by b s units state good None e = tt
          by b s units state good (Some id) e = by_class b s units state good id e (slice_get b.place.classes block) refl

    -- ---- names of each kind

    pub local_place : (number : ℕ) (writes : Bool) (t : Ty) → IsNamed p around (Local number) t → GivesPlace m input sections f p around false OfVariable writes t (named (λ place. place.locals) storage_class.FUNCTION number) (shader_given (access.whole (access.Local number)))
    local_place number writes t known = named_place (Local number) (λ place. place.locals) storage_class.FUNCTION number (access.Local number) (λ place. refl) refl refl writes t known

    pub param_place : (number : ℕ) (writes : Bool) (t : Ty) → IsNamed p around (Param number) t → GivesPlace m input sections f p around false OfVariable writes t (named (λ place. place.params) storage_class.FUNCTION number) (shader_given (access.whole (access.Param number)))
    param_place number writes t known = named_place (Param number) (λ place. place.params) storage_class.FUNCTION number (access.Param number) (λ place. refl) refl refl writes t known

    pub global_place : (number : ℕ) (writes : Bool) (t : Ty) → IsNamed p around (Global number) t → GivesPlace m input sections f p around false OfVariable writes t (named (λ place. place.globals) storage_class.PRIVATE number) (shader_given (access.whole (access.Global number)))
    global_place number writes t known = named_place (Global number) (λ place. place.globals) storage_class.PRIVATE number (access.Global number) (λ place. refl) refl refl writes t known

    pub interface_place : (number : ℕ) (i : Option Interface) (writes : Bool) (t : Ty) → IsNamed p around (Passed number) t
        → GivesPlace m input sections f p around false OfVariable writes t (named (λ place. place.interfaces) (interface_class i) number) (shader_given (access.whole (access.Interface number)))
    interface_place number i writes t known = named_place (Passed number) (λ place. place.interfaces) (interface_class i) number (access.Interface number) (λ place. refl) (outside i) refl writes t known
      where
        class_outside : (output : Bool) → is_block_class (class_by output) ≡ false
        class_outside true = refl
        class_outside false = refl

        outside : (i : Option Interface) → is_block_class (interface_class i) ≡ false
        outside None = refl
        outside (Some i) = class_outside i.output
