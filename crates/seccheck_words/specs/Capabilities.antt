-- The capabilities of Linux by their names: capabilities(7), in the order of linux/capability.h. A word of the
-- command line may leave CAP_ out, which is this project's own: docs/SEMANTICS.md, "Programs".
use Rattle.std.specs.Prelude.{ℕ, Bool, ◌||◌, if◌then◌else◌, List, [], ◌∷◌, codes, drop, Option, Some, None}
use Rattle.std.specs.Str.{bytes_eq}

unfoldable pub capabilities : List (List ℕ)
capabilities =
    codes "CAP_CHOWN" ∷ codes "CAP_DAC_OVERRIDE" ∷ codes "CAP_DAC_READ_SEARCH" ∷ codes "CAP_FOWNER"
    ∷ codes "CAP_FSETID" ∷ codes "CAP_KILL" ∷ codes "CAP_SETGID" ∷ codes "CAP_SETUID" ∷ codes "CAP_SETPCAP"
    ∷ codes "CAP_LINUX_IMMUTABLE" ∷ codes "CAP_NET_BIND_SERVICE" ∷ codes "CAP_NET_BROADCAST"
    ∷ codes "CAP_NET_ADMIN" ∷ codes "CAP_NET_RAW" ∷ codes "CAP_IPC_LOCK" ∷ codes "CAP_IPC_OWNER"
    ∷ codes "CAP_SYS_MODULE" ∷ codes "CAP_SYS_RAWIO" ∷ codes "CAP_SYS_CHROOT" ∷ codes "CAP_SYS_PTRACE"
    ∷ codes "CAP_SYS_PACCT" ∷ codes "CAP_SYS_ADMIN" ∷ codes "CAP_SYS_BOOT" ∷ codes "CAP_SYS_NICE"
    ∷ codes "CAP_SYS_RESOURCE" ∷ codes "CAP_SYS_TIME" ∷ codes "CAP_SYS_TTY_CONFIG" ∷ codes "CAP_MKNOD"
    ∷ codes "CAP_LEASE" ∷ codes "CAP_AUDIT_WRITE" ∷ codes "CAP_AUDIT_CONTROL" ∷ codes "CAP_SETFCAP"
    ∷ codes "CAP_MAC_OVERRIDE" ∷ codes "CAP_MAC_ADMIN" ∷ codes "CAP_SYSLOG" ∷ codes "CAP_WAKE_ALARM"
    ∷ codes "CAP_BLOCK_SUSPEND" ∷ codes "CAP_AUDIT_READ" ∷ codes "CAP_PERFMON" ∷ codes "CAP_BPF"
    ∷ codes "CAP_CHECKPOINT_RESTORE" ∷ []

-- the word is the name, or what follows its CAP_
abbrev pub is_named : List ℕ → List ℕ → Bool
is_named name word = bytes_eq name word || bytes_eq (drop 4 name) word

abbrev pub named_among : List (List ℕ) → List ℕ → Option (List ℕ)
named_among [] word = None
named_among (name ∷ names) word = if is_named name word then Some name else named_among names word

-- the whole name of the capability that the word names
unfoldable pub cap_named : List ℕ → Option (List ℕ)
cap_named word = named_among capabilities word
