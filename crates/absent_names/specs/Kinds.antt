-- What a name is that the call table lacks: the numbers of asm/unistd_64.h, and the names of other
-- architectures in seccomp-syscalls.h of libseccomp.
use Rattle.std.specs.Prelude.{ℕ, suc, Bool, if◌then◌else◌, List, [], ◌∷◌, map, Option, Some, None, is_some}
use Rattle.std.specs.Str.{bytes_eq}
use Rattle.sys_table.specs.SysTable.{number_in}
use Rattle.sys_table.specs.declared.calls.CallTable.TheVariants.{Linux6_12}
use Rattle.absent_names.specs.declared.kind.AbsentName.{AbsentName}
use Rattle.absent_names.specs.declared.kind.AbsentName.TheVariants as is
use Rattle.absent_names.specs.declared.table.TheConstants.{LEFT_OUT, NEWER, OTHERS, PROBES}

-- calls of x86-64 with the numbers from 463 on, those of Linux 6.12
unfoldable pub newer : List (List ℕ)
newer = map (λ name. name.now) NEWER

-- the call of x86-64 with the number 336, which older kernels did not use
unfoldable pub probes : List (List ℕ)
probes = map (λ name. name.now) PROBES

-- names of numbers for which Linux implements no call on x86-64
unfoldable pub left_out : List (List ℕ)
left_out = map (λ name. name.now) LEFT_OUT

unfoldable pub others : List (List ℕ)
others = map (λ name. name.now) OTHERS

-- the number of the name, if the first one has this number and the others follow it
abbrev pub numbered_from : List (List ℕ) → ℕ → List ℕ → Option ℕ
numbered_from [] first name = None
numbered_from (known ∷ rest) first name =
    if bytes_eq known name then Some first else numbered_from rest (suc first) name

abbrev pub is_in : List (List ℕ) → List ℕ → Bool
is_in names name = is_some (numbered_from names 0 name)

abbrev pub kind_among : List ℕ → Option ℕ → Option ℕ → Option ℕ → AbsentName
kind_among name (Some number) later probe = is.Newer number
kind_among name None (Some number) probe = is.Newer number
kind_among name None None (Some number) = is.Newer number
kind_among name None None None = if is_in left_out name then is.NotImplemented
    else (if is_in others name then is.OtherArchitecture else is.Unknown)

-- what the name is, if it is of no known call
unfoldable pub kind_of : List ℕ → AbsentName
kind_of name = kind_among name (number_in Linux6_12 name) (numbered_from newer 463 name)
    (numbered_from probes 336 name)
