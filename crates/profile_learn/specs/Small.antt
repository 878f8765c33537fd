-- The calls with an argument that has few values in most programs, and which argument that is, from 0:
-- socket(2), ioctl(2), prctl(2), personality(2) and fcntl(2). The choice is this project's own:
-- docs/SEMANTICS.md, "Learned profiles".
use Rattle.std.specs.Prelude.{ℕ, ◌==◌, if◌then◌else◌, Option, Some, None}

-- ioctl has 16, socket 41, fcntl 72, personality 135 and prctl 157
abbrev pub small_argument : ℕ → Option ℕ
small_argument nr =
    if nr == 16 then Some 1
    else if nr == 41 then Some 0
    else if nr == 72 then Some 1
    else if nr == 135 then Some 0
    else if nr == 157 then Some 0
    else None
