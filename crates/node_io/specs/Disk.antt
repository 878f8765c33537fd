-- Files in memory, this project's own: docs/SEMANTICS.md, "Devices".
use Rattle.std.specs.Prelude.{ℕ, ◌==◌, nat_lt, Bool, if◌then◌else◌, List, length, Option, None, Some, find}
use Rattle.std.specs.Option.{option_map}
use Rattle.std.specs.Str.{bytes_eq}
use Rattle.node_io.specs.declared.faults.FileFault.{FileFault}
use Rattle.node_io.specs.declared.faults.FileFault.TheVariants.{NotFound, TooLarge, Failed}
use Rattle.node_io.specs.Counts.{one_more}
use Rattle.node_io.specs.Held.{Held}

-- a file: its path and its bytes
pub record Stored : Type 0 where
  pub path : List ℕ
  pub bytes : List ℕ

-- the files, how many reads there were, the read from 1 that must fail (0 for none), and the failures
pub record Disk : Type 0 where
  pub files : List Stored
  pub reads : ℕ
  pub failing : ℕ
  pub failures : ℕ

-- the first file with a path
abbrev pub held_in : List Stored → Held
held_in files path = option_map (λ (file : Stored). file.bytes)
    (find (λ (file : Stored). bytes_eq file.path path) files)

-- the next read is the one that must fail
abbrev pub fails_next : Disk → Bool
fails_next disk = one_more disk.reads == disk.failing

-- the fault of reading these contents
abbrev pub fault_in : Option (List ℕ) → ℕ → Option FileFault
fault_in None limit = Some NotFound
fault_in (Some bytes) limit = if nat_lt limit (length bytes) then Some TooLarge else None

-- the fault of the next read, if it has one
abbrev pub fault_of : Disk → List ℕ → ℕ → Option FileFault
fault_of disk path limit = if fails_next disk then Some Failed else fault_in (held_in disk.files path) limit

-- after one more read
abbrev pub after_read : Disk → Disk
after_read disk =
    if fails_next disk then record {
      files = disk.files;
      reads = one_more disk.reads;
      failing = 0;
      failures =
          one_more disk.failures;
    }
    else record {
      files = disk.files;
      reads = one_more disk.reads;
      failing = disk.failing;
      failures =
          disk.failures;
    }
