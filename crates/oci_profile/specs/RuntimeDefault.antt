-- The profile of a container that asks for RuntimeDefault: this project's own, after the profiles that
-- container engines have as their default.
use Rattle.std.specs.Prelude.{ℕ, List, [], ◌∷◌, ◌++◌, codes, map, filter, Bool, false, not, Option, Some}
use Rattle.std.specs.Prelude.{None}
use Rattle.std.specs.List.{cons_option, list_any, range_with_len}
use Rattle.std.specs.Str.{bytes_eq}
use Rattle.sys_table.specs.SysTable.{name_of, number_of}
use Rattle.sys_table.specs.declared.table.TheConstants.{NUMBER_LIMIT}
use Rattle.oci_profile.specs.declared.conditions.Op.TheVariants.{Equal, MaskedEqual}
use Rattle.oci_profile.specs.declared.conditions.Cond.{Cond}
use Rattle.oci_profile.specs.declared.decision.Decision.{Decision}
use Rattle.oci_profile.specs.declared.decision.Decision.TheVariants.{Errno, Allow}
use Rattle.oci_profile.specs.declared.profile.Entry.{Entry}
use Rattle.oci_profile.specs.declared.profile.Profile.{Profile}

-- the calls that change the machine or other containers, and those that another entry decides
unfoldable pub excluded : List (List ℕ)
excluded =
    codes "acct" ∷ codes "add_key" ∷ codes "bpf" ∷ codes "clock_settime" ∷ codes "clone" ∷ codes "clone3" ∷
    codes "create_module" ∷ codes "delete_module" ∷ codes "fanotify_init" ∷ codes "finit_module" ∷
    codes "fsconfig" ∷ codes "fsmount" ∷ codes "fsopen" ∷ codes "fspick" ∷ codes "get_kernel_syms" ∷
    codes "get_mempolicy" ∷ codes "init_module" ∷ codes "io_uring_enter" ∷ codes "io_uring_register" ∷
    codes "io_uring_setup" ∷ codes "ioperm" ∷ codes "iopl" ∷ codes "kcmp" ∷ codes "kexec_file_load" ∷
    codes "kexec_load" ∷ codes "keyctl" ∷ codes "lookup_dcookie" ∷ codes "mbind" ∷ codes "mount" ∷
    codes "move_mount" ∷ codes "move_pages" ∷ codes "name_to_handle_at" ∷ codes "nfsservctl" ∷
    codes "open_by_handle_at" ∷ codes "open_tree" ∷ codes "perf_event_open" ∷ codes "personality" ∷
    codes "pidfd_getfd" ∷ codes "pivot_root" ∷ codes "process_vm_readv" ∷ codes "process_vm_writev" ∷
    codes "ptrace" ∷ codes "query_module" ∷ codes "quotactl" ∷ codes "reboot" ∷ codes "request_key" ∷
    codes "set_mempolicy" ∷ codes "setdomainname" ∷ codes "sethostname" ∷ codes "setns" ∷ codes "settimeofday"
    ∷ codes "swapoff" ∷ codes "swapon" ∷ codes "sysfs" ∷ codes "syslog" ∷ codes "umount2" ∷ codes "unshare" ∷
    codes "uselib" ∷ codes "userfaultfd" ∷ codes "ustat" ∷ codes "vhangup" ∷ codes "_sysctl" ∷ []

unfoldable pub excludes : List ℕ → Bool
excludes name = list_any (λ other. bytes_eq name other) excluded

-- whether the table has the number, with a name that is not excluded
abbrev pub is_kept : Option (List ℕ) → Bool
is_kept None = false
is_kept (Some name) = not (excludes name)

unfoldable pub is_allowed : ℕ → Bool
is_allowed nr = is_kept (name_of nr)

-- the calls below the number that are allowed whatever their arguments
unfoldable pub allowed_below : ℕ → List ℕ
allowed_below limit = filter is_allowed (range_with_len 0 limit)

-- an entry for the call with this name
unfoldable pub entry_named : List ℕ → Decision → List Cond → Entry
entry_named name decision conds = record {
  numbers = cons_option (number_of name) [];
  decision = decision;
  conds = conds;
}

-- programs fall back to `clone`: 38 is ENOSYS
abbrev pub clone3_entry : Entry
clone3_entry = entry_named (codes "clone3") (Errno 38) []

-- allowed if it makes no namespace: none of the flags CLONE_NEW* is given
abbrev pub clone_entry : Entry
clone_entry = entry_named (codes "clone") Allow
    (record { index = 0; op = MaskedEqual; value = 0x7e020000; value_two = 0 } ∷ [])

-- PER_LINUX, PER_LINUX32, each with UNAME26, and the query for the current one
unfoldable pub personalities : List ℕ
personalities = 0 ∷ 8 ∷ 131072 ∷ 131080 ∷ 4294967295 ∷ []

abbrev pub personality_entry : ℕ → Entry
personality_entry persona = entry_named (codes "personality") Allow
    (record { index = 0; op = Equal; value = persona; value_two = 0 } ∷ [])

unfoldable pub allowed_entry : Entry
allowed_entry = record { numbers = allowed_below NUMBER_LIMIT; decision = Allow; conds = [] }

unfoldable pub default_entries : List Entry
default_entries = clone3_entry ∷ clone_entry ∷ map personality_entry personalities ++ allowed_entry ∷ []

-- 1 is EPERM
abbrev pub runtime_default : Profile
runtime_default = record { default = Errno 1; entries = default_entries }
