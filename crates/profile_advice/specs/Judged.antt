-- What a profile decides on calls: seccomp(2) has the order of actions.
use Rattle.std.specs.Prelude.{ℕ, nat_le, Bool, List, [], ◌∷◌}
use Rattle.action.specs.Verdict.{performs_of, rank_of, verdict_of}
use Rattle.action.specs.declared.action.Action.{Action}
use Rattle.action.specs.declared.action.Action.TheVariants as act
use Rattle.call_data.specs.declared.sys_call.SysCall.{SysCall}
use Rattle.oci_profile.specs.Decision.{value_of}
use Rattle.oci_profile.specs.Meaning.{meaning}
use Rattle.oci_profile.specs.declared.profile.Profile.{Profile}

-- a call of x86-64: 0xc000003e is AUDIT_ARCH_X86_64
abbrev pub call_of : ℕ → List ℕ → SysCall
call_of nr args = record { nr = nr; arch = 0xc000003e; ip = 0; args = args }

abbrev pub plain_call : ℕ → ℕ → SysCall
plain_call nr first = call_of nr (first ∷ 0 ∷ 0 ∷ 0 ∷ 0 ∷ 0 ∷ [])

abbrev pub action_on : Profile → SysCall → Action
action_on profile call = (verdict_of (meaning profile call)).action

-- the higher, the more lenient
abbrev pub rank_on : Profile → SysCall → ℕ
rank_on profile call = rank_of (action_on profile call)

abbrev pub is_allowed : Profile → SysCall → Bool
is_allowed profile call = performs_of (action_on profile call)

-- an errno, a signal or the end of the program
abbrev pub is_denied : Profile → SysCall → Bool
is_denied profile call = nat_le (rank_on profile call) (rank_of act.Errno)

abbrev pub allows_by_default : Profile → Bool
allows_by_default profile = performs_of (verdict_of (value_of profile.default)).action

abbrev pub denies_by_default : Profile → Bool
denies_by_default profile = nat_le (rank_of (verdict_of (value_of profile.default)).action) (rank_of act.Errno)
