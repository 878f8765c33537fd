-- The back-off of restarts: Kubernetes 1.27, pod lifecycle, "Container restart policy" (an exponential delay
-- of 10 s, 20 s, 40 s, .., capped at five minutes, and restarted after ten minutes of running). That it
-- counts from the moment at which the exit was recorded is this project's own. Lists of runs are oldest
-- first. Moments are whole seconds below 2 ^ 64.
use Rattle.std.specs.Prelude.{ℕ, ◌+◌, ◌-◌, ◌*◌, ◌^◌, min, nat_le, if◌then◌else◌, List, length, slice_get}
use Rattle.std.specs.Prelude.{Option, Some, None}
use Rattle.std.specs.List.{fold}

-- one run of a container that ended: its exit code, and from when to when
pub record Run : Type 0 where
  pub started : ℕ
  pub code : ℕ
  pub recorded : ℕ

-- how long it lasted
abbrev pub lasted : Run → ℕ
lasted run = run.recorded - run.started

-- the runs in a row, with one more: a run of ten minutes begins a new row
abbrev pub next_row : ℕ → Run → ℕ
next_row row run = if nat_le 600 (lasted run) then 1 else row + 1

-- how many runs the back-off counts: from the latest one of ten minutes or more on, that one included, or all
-- if none lasted so long
abbrev pub row_of : List Run → ℕ
row_of runs = fold next_row 0 runs

-- how many seconds it waits after the last one of this many runs in a row
abbrev pub wait_of : ℕ → ℕ
wait_of row = min (10 * 2 ^ (row - 1)) 300

-- this many seconds later, but at most the greatest moment
abbrev pub later : ℕ → ℕ → ℕ
later moment seconds = min (moment + seconds) (2 ^ 64 - 1)

-- the latest run
abbrev pub last_of : List Run → Option Run
last_of runs = slice_get runs (length runs - 1)

-- from which moment on another may start after this last run
abbrev pub ready_behind : Option Run → List Run → ℕ
ready_behind None runs = 0
ready_behind (Some run) runs = later run.recorded (wait_of (row_of runs))

-- from which moment on another may start; at once if none ran
abbrev pub ready_at : List Run → ℕ
ready_at runs = ready_behind (last_of runs) runs
