-- All advice about a profile: of its entries in order, then of its default and of calls.
use Rattle.std.specs.Prelude.{ℕ, ◌==◌, nat_lt, ◌||◌, Bool, if◌then◌else◌, List, ◌++◌, flat_map, Option, Some, None}
use Rattle.std.specs.Prelude.{option_map, option_to_list}
use Rattle.std.specs.List.{enumerate_from}
use Rattle.oci_profile.specs.declared.decision.Decision.{Decision}
use Rattle.oci_profile.specs.declared.decision.Decision.TheVariants.{KillProcess, KillThread, Trap, Errno}
use Rattle.oci_profile.specs.declared.decision.Decision.TheVariants.{Trace, Allow, Log}
use Rattle.oci_profile.specs.declared.profile.Entry.{Entry}
use Rattle.oci_profile.specs.declared.profile.Profile.{Profile}
use Rattle.profile_advice.specs.Calls.{about_calls}
use Rattle.profile_advice.specs.Conditions.{about_conds}
use Rattle.profile_advice.specs.Names.{about_names}
use Rattle.profile_advice.specs.declared.kind.Advice.{Advice}
use Rattle.profile_advice.specs.declared.kind.Advice.TheVariants.{UnknownErrno, UnknownDefaultErrno}

-- the errnos of asm-generic/errno.h end at 133, and lack 41 and 58; 0 is no errno, but lets a call succeed
abbrev pub is_unknown : ℕ → Bool
is_unknown code = nat_lt 133 code || ((code == 41) || (code == 58))

abbrev pub odd_errno : Decision → Option ℕ
odd_errno (Errno code) = if is_unknown code then Some code else None
odd_errno KillProcess = None
odd_errno KillThread = None
odd_errno Trap = None
odd_errno (Trace message) = None
odd_errno Allow = None
odd_errno Log = None

abbrev pub about_errno : ℕ → Entry → List Advice
about_errno place entry = option_to_list (option_map (λ code. UnknownErrno place code) (odd_errno entry.decision))

abbrev pub about_entry : Profile → ℕ × Entry → List Advice
about_entry profile (place, entry) = about_errno place entry
    ++ (about_names profile.entries place entry ++ about_conds profile place entry)

abbrev pub about_default : Profile → List Advice
about_default profile = option_to_list (option_map (λ code. UnknownDefaultErrno code) (odd_errno profile.default))

unfoldable pub advice_of : Profile → List Advice
advice_of profile = flat_map (about_entry profile) (enumerate_from 0 profile.entries)
    ++ (about_default profile ++ about_calls profile)
