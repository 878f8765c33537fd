-- When a repeated event is reported: this project's own. docs/SEMANTICS.md, "Programs".
use Rattle.std.specs.Prelude.{ℕ, ◌+◌, ◌-◌, ◌^◌, min, nat_le, Bool, true, if◌then◌else◌, Option, Some, None}
use Rattle.agent_parts.specs.declared.repeats.TheConstants.{REPORT_REST}
use Rattle.agent_parts.specs.declared.repeats.Repeats.{Repeats}

-- the first time, and then once a minute
abbrev pub is_told : Option ℕ → ℕ → Bool
is_told None now = true
is_told (Some told) now = nat_le REPORT_REST (now - told)

-- how often it has happened since the last report
abbrev pub times : Repeats → ℕ
times repeats = min (repeats.since + 1) (2 ^ 64 - 1)

abbrev pub told_now : Repeats → ℕ → Option ℕ
told_now repeats now = if is_told repeats.told now then Some (times repeats) else None

abbrev pub noted : Repeats → ℕ → Repeats
noted repeats now = if is_told repeats.told now then record { told = Some now; since = 0 }
    else record { told = repeats.told; since = times repeats }
