-- The entries of a learned profile: one for the calls that are allowed with any arguments, and one for each
-- value that was seen of a small argument.
use Rattle.std.specs.Prelude.{ℕ, ◌==◌, Bool, false, not, ◌&&◌, ◌||◌, if◌then◌else◌, List, [], ◌∷◌, ◌++◌, map}
use Rattle.std.specs.Prelude.{filter, slice_index_or}
use Rattle.std.specs.List.{range_with_len}
use Rattle.sys_table.specs.declared.table.TheConstants.{TABLE_LIMIT}
use Rattle.oci_profile.specs.declared.conditions.Op.TheVariants.{Equal}
use Rattle.oci_profile.specs.declared.decision.Decision.TheVariants.{Allow}
use Rattle.oci_profile.specs.declared.profile.Entry.{Entry}
use Rattle.profile_learn.specs.declared.learned.Learned.{Learned}
use Rattle.profile_learn.specs.declared.learner.Wanted.{Wanted}
use Rattle.profile_learn.specs.declared.values.Values.{Values}
use Rattle.profile_learn.specs.Kept.{is_few, list_of}
use Rattle.profile_learn.specs.Needed.{is_needed}

-- the values of the call's small argument are known and few
abbrev pub keeps_few : Learned → ℕ → Bool
keeps_few learned nr =
    if nr == 16 then is_few learned.ioctl
    else if nr == 41 then is_few learned.socket
    else if nr == 72 then is_few learned.fcntl
    else if nr == 135 then is_few learned.personality
    else if nr == 157 then is_few learned.prctl
    else false

-- the call is allowed with any arguments
unfoldable pub takes_any : Learned → Wanted → ℕ → Bool
takes_any learned wanted nr = (wanted.needed && is_needed nr)
    || (slice_index_or learned.seen nr false && not (wanted.args && keeps_few learned nr))

unfoldable pub any_below : Learned → Wanted → ℕ → List ℕ
any_below learned wanted limit = filter (takes_any learned wanted) (range_with_len 0 limit)

abbrev pub numbers_entry : List ℕ → Entry
numbers_entry numbers = record { numbers = numbers; decision = Allow; conds = [] }

-- no entry where it would name no call
abbrev pub numbers_entries : List ℕ → List Entry
numbers_entries [] = []
numbers_entries (n ∷ ns) = numbers_entry (n ∷ ns) ∷ []

abbrev pub value_entry : ℕ → ℕ → ℕ → Entry
value_entry nr index value = record {
  numbers = nr ∷ [];
  decision = Allow;
  conds =
      record { index = index; op = Equal; value = value; value_two = 0 } ∷ [];
}

abbrev pub value_entries : ℕ → ℕ → Values → List Entry
value_entries nr index values = map (value_entry nr index) (list_of values)

-- of the calls with a small argument
abbrev pub narrow_entries : Learned → List Entry
narrow_entries learned = value_entries 16 1 learned.ioctl ++ (value_entries 41 0 learned.socket
    ++ (value_entries 72 1 learned.fcntl ++ (value_entries 135 0 learned.personality
    ++ value_entries 157 0 learned.prctl)))

abbrev pub learned_entries : Learned → Wanted → List Entry
learned_entries learned wanted = numbers_entries (any_below learned wanted TABLE_LIMIT)
    ++ (if wanted.args then narrow_entries learned else [])
