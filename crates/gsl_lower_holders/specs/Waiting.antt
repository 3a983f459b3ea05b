-- Values that wait while blocks end and begin: they are kept in variables of the function, its holders, since an id serves in its own block
-- alone (SPIR-V 1.0, 2.16.1).
use Rattle.std.specs.Prelude.{ℕ, ◌+◌, Bool, true, false, [], ◌∷◌, slice_get, Option, Some, None}
use Rattle.gsl_instr.specs.declared.op.TheConstants as op
use Rattle.gsl_types.specs.declared.ty.Ty.{Ty}
use Rattle.gsl_lower_values.specs.Types as types
use Rattle.gsl_lower_places.specs.declared.reached.Base.{Base}
use Rattle.gsl_lower_places.specs.declared.reached.Base.TheVariants.{Variable, Value}
use Rattle.gsl_lower_places.specs.declared.reached.Part.{Part}
use Rattle.gsl_lower_places.specs.declared.reached.Part.TheVariants.{Fixed, By}
use Rattle.gsl_lower_places.specs.declared.reached.Picked.{Picked}
use Rattle.gsl_lower_places.specs.declared.reached.Reached.{Reached}
use Rattle.gsl_lower_holders.specs.Flow.{Emit, Gives, Lacks, ◌>>=◌, each, given, giving_here, lift, putting_here, type_id}

abbrev pub holder_at : Option ℕ → Emit ℕ
holder_at None flow = Lacks
holder_at (Some id) flow = Gives id (record flow { place = record flow.place { used = flow.place.used + 1 } })

-- the next holder
unfoldable pub holder : Emit ℕ
holder flow = holder_at (slice_get flow.place.holders flow.place.used) flow

-- a value is kept in the next holder
unfoldable pub keep : ℕ → Emit ℕ
keep value = holder >>= (λ h. putting_here op.STORE (h ∷ value ∷ []) >>= (λ done. given h))

-- what is in a holder, by the id of its type
abbrev pub take_back : ℕ → ℕ → Emit ℕ
take_back h type = giving_here op.LOAD (h ∷ []) type

-- ---- values

-- a value waits where blocks end before it is used
unfoldable pub hold : Bool → ℕ → Emit ℕ
hold false value = given value
hold true value = keep value

-- the value again, from what stands for it while it waits
unfoldable pub fetch : Bool → Ty → ℕ → Emit ℕ
fetch false ty kept = given kept
fetch true ty kept = type_id ty >>= take_back kept

-- ---- what an expression leads to: the ids in it

abbrev pub keep_part : Part → Emit Part
keep_part (Fixed number) = given (Fixed number)
keep_part (By s id) = keep id >>= (λ h. given (By s h))

abbrev pub take_part : Part → Emit Part
take_part (Fixed number) = given (Fixed number)
take_part (By s h) = lift (types.scalar_type s) >>= take_back h >>= (λ id. given (By s id))

abbrev pub picked_by : (Part → Emit Part) → Option Part → Emit (Option Part)
picked_by emit None = given None
picked_by emit (Some part) = emit part >>= (λ one. given (Some one))

abbrev pub in_picked : (Part → Emit Part) → Option Picked → Emit (Option Picked)
in_picked emit None = given None
in_picked emit (Some p) = picked_by emit p.by >>= (λ by. given (Some (record p { by = by })))

-- a value in no variable is kept whole
abbrev pub keep_base : Base → Emit Base
keep_base (Variable id class) = given (Variable id class)
keep_base (Value id type) = keep id >>= (λ h. given (Value h type))

abbrev pub take_base : Base → Emit Base
take_base (Variable id class) = given (Variable id class)
take_base (Value h type) = take_back h type >>= (λ id. given (Value id type))

abbrev pub in_reached : (Base → Emit Base) → (Part → Emit Part) → Reached → Emit Reached
in_reached emit_base emit_part r =
    emit_base r.base >>= (λ base. each emit_part r.path >>= (λ path. in_picked emit_part r.picked >>= (λ picked. given (record { base = base; path = path; picked = picked }))))

unfoldable pub hold_reached : Bool → Reached → Emit Reached
hold_reached false r = given r
hold_reached true r = in_reached keep_base keep_part r

unfoldable pub fetch_reached : Bool → Reached → Emit Reached
fetch_reached false r = given r
fetch_reached true r = in_reached take_base take_part r
