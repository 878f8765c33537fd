-- What decides a call under a profile, and what is passed over before it: OCI runtime-spec 1.1, config-linux,
-- seccomp. This project's own are the order of the entries, and the rules for other architectures and for the
-- x32 interface: docs/SEMANTICS.md, "Profiles".
use Rattle.std.specs.Prelude.{◌≡◌, ◌≢◌, ◌<◌, ◌≤◌, ℕ, Bool, true, false, not, ◌&&◌, if◌then◌else◌, List, find}
use Rattle.std.specs.Prelude.{filter_map, length, slice_get, slice_index, take, Option, Some, None}
use Rattle.std.specs.List.{enumerate_from}
use Rattle.call_data.specs.declared.sys_call.SysCall.{SysCall}
use Rattle.oci_profile.specs.declared.conditions.Cond.{Cond}
use Rattle.oci_profile.specs.declared.decision.Decision.{Decision}
use Rattle.oci_profile.specs.declared.decision.Decision.TheVariants.{KillProcess}
use Rattle.oci_profile.specs.declared.profile.Entry.{Entry}
use Rattle.oci_profile.specs.declared.profile.Profile.{Profile}
use Rattle.oci_profile.specs.Meaning.{all_hold, holds_on, names}
use Rattle.explain.specs.declared.explanation.Decider.{Decider}
use Rattle.explain.specs.declared.explanation.Decider.TheVariants as by
use Rattle.explain.specs.declared.explanation.PassedOver.{PassedOver}

-- the entry names the call's number, and all its conditions hold
abbrev pub applies : SysCall → Entry → Bool
applies call entry = names entry call.nr && all_hold entry call

-- its first condition that fails, if one does
abbrev pub first_failing : SysCall → Entry → Option Cond
first_failing call entry = find (λ cond. not (holds_on cond call)) entry.conds

-- the entry at this place is the first that applies, and has this decision
pub record AppliesFirst (entries : List Entry) (call : SysCall) (place : ℕ)
    (decision : Decision) : Type 0 where
  pub entry : Entry
  pub there : slice_get entries place ≡ Some entry
  pub named : names entry call.nr ≡ true
  pub holds : all_hold entry call ≡ true
  pub decides : entry.decision ≡ decision
  pub before : (k : ℕ) (other : Entry) → k < place → slice_get entries k ≡ Some other
      → applies call other ≡ false

-- no entry applies
abbrev pub NoneApplies : List Entry → SysCall → Type 0
NoneApplies entries call = (k : ℕ) (other : Entry) → slice_get entries k ≡ Some other
    → applies call other ≡ false

-- 0xc000003e is AUDIT_ARCH_X86_64 of linux/audit.h, 0x40000000 the bit of x32 of asm/unistd.h
abbrev pub IsJudged : SysCall → Type 0
IsJudged call = (call.arch ≡ 0xc000003e) × (call.nr < 0x40000000)

-- this decider makes this decision
abbrev pub Decides : Profile → SysCall → Decider → Decision → Type 0
Decides profile call by.Architecture decision = (call.arch ≢ 0xc000003e) × (decision ≡ KillProcess)
Decides profile call by.X32Bit decision = (call.arch ≡ 0xc000003e) × (0x40000000 ≤ call.nr)
    × (decision ≡ KillProcess)
Decides profile call (by.Entry place) decision = IsJudged call
    × AppliesFirst profile.entries call place decision
Decides profile call by.Default decision = IsJudged call × NoneApplies profile.entries call
    × (decision ≡ profile.default)

-- an entry that decides is one of the list
abbrev pub IsWithin : List Entry → Decider → Type 0
IsWithin entries by.Architecture = Unit {0}
IsWithin entries by.X32Bit = Unit {0}
IsWithin entries (by.Entry place) = place ≤ length entries
IsWithin entries by.Default = Unit {0}

-- what is listed for an entry: nothing if it does not name the number
abbrev pub failing_at : SysCall → ℕ → Option Cond → Option PassedOver
failing_at call place None = None
failing_at call place (Some cond) = Some
    (record { place = place; cond = cond; argument = slice_index call.args cond.index })

abbrev pub told : SysCall → ℕ × Entry → Option PassedOver
told call at = if names at.1 call.nr then failing_at call at.0 (first_failing call at.1) else None

-- the entries before the one that decides
abbrev pub before : List Entry → Decider → List Entry
before entries by.Architecture = take 0 entries
before entries by.X32Bit = take 0 entries
before entries (by.Entry place) = take place entries
before entries by.Default = entries

-- those of them that name the number, in order, each with its condition that fails
abbrev pub passed_over : Profile → SysCall → Decider → List PassedOver
passed_over profile call decider = filter_map (told call) (enumerate_from 0 (before profile.entries decider))
