-- The line that `seccheck learn` prints: this project's own, docs/SEMANTICS.md, "Learned profiles".
use Rattle.std.specs.Prelude.{◌≡◌, ℕ, List, ◌++◌, codes}
use Rattle.call_data.specs.declared.sys_call.SysCall.{SysCall}
use Rattle.sys_table.specs.declared.calls.CallTable.{CallTable}
use Rattle.oci_profile.specs.declared.profile.Profile.{Profile}
use Rattle.oci_profile.specs.Meaning.{meaning}
use Rattle.oci_profile.specs.Profile.{ReadsProfileWith}
use Rattle.profile_learn.specs.Allowed.{learned_meaning}
use Rattle.profile_learn.specs.declared.learner.Wanted.{Wanted}
use Rattle.profile_learn.specs.declared.sighting.Sighting.{Sighting}

-- With these calls known, its text reads as a profile that allows the calls of these sightings, as they are
-- wanted, and has the base's value on all others.
pub record IsLearnedLine (calls : CallTable) (history : List Sighting) (wanted : Wanted) (base : Profile)
    (line : List ℕ) : Type 0 where
  pub text : List ℕ
  pub profile : Profile
  pub is : line ≡ text ++ codes "\n"
  pub reads : ReadsProfileWith calls text profile
  pub means : (call : SysCall) → meaning profile call ≡ learned_meaning history wanted base call
