-- A profile's decision on a call: OCI runtime-spec 1.1, config-linux, seccomp. Where that is silent, this
-- project's own: which entry decides, calls of another architecture, and those of the x32 interface.
use Rattle.std.specs.Prelude.{ℕ, ◌+◌, ◌*◌, ◌==◌, nat_lt, nat_le, bit_and, Bool, not, ◌&&◌, if◌then◌else◌}
use Rattle.std.specs.Prelude.{List, [], ◌∷◌, length, slice_index, sum_by}
use Rattle.std.specs.List.{list_all, list_any}
use Rattle.call_data.specs.declared.sys_call.SysCall.{SysCall}
use Rattle.oci_profile.specs.declared.conditions.Cond.{Cond}
use Rattle.oci_profile.specs.declared.conditions.Op.{Op}
use Rattle.oci_profile.specs.declared.conditions.Op.TheVariants.{NotEqual, Less, LessOrEqual, Equal}
use Rattle.oci_profile.specs.declared.conditions.Op.TheVariants.{GreaterOrEqual, Greater, MaskedEqual}
use Rattle.oci_profile.specs.declared.decision.Decision.{Decision}
use Rattle.oci_profile.specs.declared.decision.Decision.TheVariants.{KillProcess}
use Rattle.oci_profile.specs.declared.profile.Entry.{Entry}
use Rattle.oci_profile.specs.declared.profile.Profile.{Profile}
use Rattle.oci_profile.specs.Decision.{value_of}

-- the comparison of an argument, on whole numbers
abbrev pub compares : Op → ℕ → ℕ → ℕ → Bool
compares NotEqual value two arg = not (arg == value)
compares Less value two arg = nat_lt arg value
compares LessOrEqual value two arg = nat_le arg value
compares Equal value two arg = arg == value
compares GreaterOrEqual value two arg = nat_le value arg
compares Greater value two arg = nat_lt value arg
compares MaskedEqual value two arg = bit_and arg value == two

-- whether the condition holds for the call
abbrev pub holds_on : Cond → SysCall → Bool
holds_on cond call = compares cond.op cond.value cond.value_two (slice_index call.args cond.index)

-- whether all the conditions do
abbrev pub all_of : List Cond → SysCall → Bool
all_of conds call = list_all (λ cond. holds_on cond call) conds

-- whether all the entry's conditions hold for the call
unfoldable pub all_hold : Entry → SysCall → Bool
all_hold entry call = all_of entry.conds call

-- whether the entry names the number
unfoldable pub names : Entry → ℕ → Bool
names entry nr = list_any (λ number. number == nr) entry.numbers

-- the decision of the first entry that names the number and whose conditions all hold, else the default
abbrev pub decision_of : List Entry → Decision → ℕ → SysCall → Decision
decision_of [] default nr call = default
decision_of (entry ∷ entries) default nr call =
    if names entry nr && all_hold entry call then entry.decision else decision_of entries default nr call

-- the value for a native call: numbers from 0x40000000 up are those of the x32 interface
unfoldable pub chosen : Profile → ℕ → SysCall → ℕ
chosen profile nr call =
    if nat_le 0x40000000 nr then value_of KillProcess
    else value_of (decision_of profile.entries profile.default nr call)

-- the value for a call, as a filter returns it: 0xc000003e is AUDIT_ARCH_X86_64
unfoldable pub meaning : Profile → SysCall → ℕ
meaning profile call = if call.arch == 0xc000003e then chosen profile call.nr call else value_of KillProcess

-- a bound of what an entry adds to a filter's length
abbrev pub entry_weight : Entry → ℕ
entry_weight entry = length entry.numbers * (8 + 6 * length entry.conds)

-- the profile's weight, this project's own: it decides whether a profile is too long to be compiled
unfoldable pub weight : Profile → ℕ
weight profile = 7 + sum_by entry_weight profile.entries
