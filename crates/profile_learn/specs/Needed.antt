-- The calls that any program may need, although no trace has them: this project's own, with a reason for each
-- in docs/SEMANTICS.md, "Learned profiles". Linux 5.8 has each of them, so later versions have them too.
use Rattle.std.specs.Prelude.{ℕ, List, [], ◌∷◌, codes, Bool, false, Option, Some, None}
use Rattle.std.specs.List.{list_any}
use Rattle.std.specs.Str.{bytes_eq}
use Rattle.sys_table.specs.SysTable.{name_of}

unfoldable pub needed : List (List ℕ)
needed =
    codes "brk" ∷ codes "clock_gettime" ∷ codes "execve" ∷ codes "exit" ∷ codes "exit_group" ∷ codes "futex" ∷
    codes "getcpu" ∷ codes "gettimeofday" ∷ codes "madvise" ∷ codes "mmap" ∷ codes "mprotect" ∷
    codes "mremap" ∷ codes "munmap" ∷ codes "restart_syscall" ∷ codes "rt_sigreturn" ∷ codes "sched_yield" ∷
    codes "time" ∷ []

unfoldable pub is_needed_name : List ℕ → Bool
is_needed_name name = list_any (λ other. bytes_eq name other) needed

abbrev pub is_named_needed : Option (List ℕ) → Bool
is_named_needed None = false
is_named_needed (Some name) = is_needed_name name

-- the call with this number is one of them
unfoldable pub is_needed : ℕ → Bool
is_needed nr = is_named_needed (name_of nr)
