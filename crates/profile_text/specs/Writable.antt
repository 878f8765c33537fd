-- Which profiles have a text: a number is written as its call's name, and an entry that is stricter than the
-- default names a call, or the reader refuses it. This project's own.
use Rattle.std.specs.Prelude.{ℕ, ◌&&◌, ◌||◌, ◌==◌, not, Bool, List, length, nat_le, is_some}
use Rattle.std.specs.List.{list_all}
use Rattle.sys_table.specs.SysTable.{name_in}
use Rattle.sys_table.specs.declared.calls.CallTable.{CallTable}
use Rattle.oci_profile.specs.declared.decision.Decision.{Decision}
use Rattle.oci_profile.specs.declared.profile.Entry.{Entry}
use Rattle.oci_profile.specs.declared.profile.Profile.{Profile}
use Rattle.oci_profile.specs.Profile.{rank}

abbrev pub is_named : CallTable → ℕ → Bool
is_named calls number = is_some (name_in calls number)

abbrev pub are_named : CallTable → List ℕ → Bool
are_named calls numbers = list_all (is_named calls) numbers

abbrev pub is_writable_entry : CallTable → Decision → Entry → Bool
is_writable_entry calls default entry = are_named calls entry.numbers
    && (not (length entry.numbers == 0) || nat_le (rank default) (rank entry.decision))

abbrev pub is_writable : CallTable → Profile → Bool
is_writable calls profile = list_all (is_writable_entry calls profile.default) profile.entries
