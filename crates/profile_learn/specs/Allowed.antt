-- What a learned profile says of a call: this project's own, docs/SEMANTICS.md, "Learned profiles".
use Rattle.std.specs.Prelude.{ℕ, ◌==◌, Bool, true, ◌&&◌, ◌||◌, if◌then◌else◌, List, slice_index, unwrap_or}
use Rattle.call_data.specs.declared.sys_call.SysCall.{SysCall}
use Rattle.oci_profile.specs.declared.decision.Decision.TheVariants.{Allow}
use Rattle.oci_profile.specs.declared.profile.Profile.{Profile}
use Rattle.oci_profile.specs.Decision.{value_of}
use Rattle.oci_profile.specs.Meaning.{meaning}
use Rattle.profile_learn.specs.declared.sighting.Sighting.{Sighting}
use Rattle.profile_learn.specs.declared.learner.Wanted.{Wanted}
use Rattle.profile_learn.specs.Needed.{is_needed}
use Rattle.profile_learn.specs.Sightings.{has_value, is_narrow, is_seen}
use Rattle.profile_learn.specs.Small.{small_argument}

-- the call's small argument
abbrev pub small_value : SysCall → ℕ
small_value call = slice_index call.args (unwrap_or (small_argument call.nr) 0)

-- The call's arguments are as they were seen. They are compared where that is asked for, and where each value
-- is known and there are four at most.
abbrev pub fits : List Sighting → Wanted → SysCall → Bool
fits history wanted call =
    if wanted.args && is_narrow history call.nr then has_value history call.nr (small_value call) else true

-- the call was seen, or is one of those that any program may need, if these are asked for
abbrev pub is_allowed : List Sighting → Wanted → SysCall → Bool
is_allowed history wanted call = (wanted.needed && is_needed call.nr)
    || (is_seen history call.nr && fits history wanted call)

-- A call of x86-64 that is allowed is allowed. On every other call the base decides. 0xc000003e is
-- AUDIT_ARCH_X86_64 of linux/audit.h.
abbrev pub learned_meaning : List Sighting → Wanted → Profile → SysCall → ℕ
learned_meaning history wanted base call =
    if call.arch == 0xc000003e && is_allowed history wanted call then value_of Allow else meaning base call
