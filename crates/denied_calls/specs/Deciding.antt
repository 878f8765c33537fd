-- What of a profile may have denied a call of which the arguments are not known, this project's own:
-- docs/SEMANTICS.md, "Programs".
use Rattle.std.specs.Prelude.{ℕ, ◌+◌, ◌==◌, Bool, true, false, ◌&&◌, if◌then◌else◌, nat_le, List, [], ◌∷◌}
use Rattle.oci_profile.specs.Decision.{value_of}
use Rattle.oci_profile.specs.Meaning.{names}
use Rattle.oci_profile.specs.declared.decision.Decision.{Decision}
use Rattle.oci_profile.specs.declared.decision.Decision.TheVariants.{KillProcess}
use Rattle.oci_profile.specs.declared.profile.Entry.{Entry}
use Rattle.oci_profile.specs.declared.profile.Profile.{Profile}
use Rattle.explain.specs.declared.explanation.Decider.{Decider}
use Rattle.explain.specs.declared.explanation.Decider.TheVariants as by
use Rattle.action.specs.Verdict.{verdict_of, rank_of}
use Rattle.denied_calls.specs.declared.deciding.DeniedCall.{DeniedCall}
use Rattle.denied_calls.specs.declared.deciding.Returned.{Returned}
use Rattle.denied_calls.specs.declared.deciding.Returned.TheVariants.{Value, ActionOf}

-- the action of a value
abbrev pub rank_in : ℕ → ℕ
rank_in value = rank_of (verdict_of value).action

-- a filter that decides so returns this
abbrev pub gives : Decision → Returned → Bool
gives decision (Value value) = value_of decision == value
gives decision (ActionOf value) = rank_in (value_of decision) == rank_in value

-- the entries from this place on that name the call and give its verdict
abbrev pub of_entries : DeniedCall → ℕ → List Entry → List Decider
of_entries call place [] = []
of_entries call place (entry ∷ entries) =
    if names entry call.nr && gives entry.decision call.returned
    then by.Entry place ∷ of_entries call (place + 1) entries else of_entries call (place + 1) entries

-- this one, if it gives the call's verdict
abbrev pub one_if : Bool → Decider → List Decider
one_if true decider = decider ∷ []
one_if false decider = []

abbrev pub or_default : Profile → DeniedCall → List Decider → List Decider
or_default profile call [] = one_if (gives profile.default call.returned) by.Default
or_default profile call (first ∷ others) = first ∷ others

-- 0xc000003e is AUDIT_ARCH_X86_64 of linux/audit.h, 0x40000000 the bit of x32 of asm/unistd.h
abbrev pub deciders : Profile → DeniedCall → List Decider
deciders profile call =
    if call.arch == 0xc000003e then (
    if nat_le 0x40000000 call.nr then one_if (gives KillProcess call.returned) by.X32Bit
    else or_default profile call (of_entries call 0 profile.entries))
    else one_if (gives KillProcess call.returned) by.Architecture
