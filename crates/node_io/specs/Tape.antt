-- A wire in memory, this project's own: docs/SEMANTICS.md, "Devices".
use Rattle.std.specs.Prelude.{ℕ, ◌==◌, ◌&&◌, ◌||◌, ◌-◌, Bool, if◌then◌else◌, List, ◌++◌, drop, length, min}
use Rattle.std.specs.Prelude.{nat_lt}
use Rattle.node_io.specs.Counts.{one_more}

-- the bytes left to read, those that were written, the room for more of them, how many bytes a call moves at
-- most, how many calls there were, the call from 1 that must fail (0 for none), and the failures
pub record Tape : Type 0 where
  pub input : List ℕ
  pub written : List ℕ
  pub place : ℕ
  pub piece : ℕ
  pub calls : ℕ
  pub failing : ℕ
  pub failures : ℕ

-- the next call is the one that must fail
abbrev pub fails_next : Tape → Bool
fails_next tape = one_more tape.calls == tape.failing

-- after a call that moved nothing: a requested failure happens once
abbrev pub counted : Tape → Tape
counted tape =
    if fails_next tape then record {
      input = tape.input;
      written = tape.written;
      place = tape.place;
      piece =
          tape.piece;
      calls = one_more tape.calls;
      failing = 0;
      failures = one_more tape.failures;
    }
    else record {
      input = tape.input;
      written = tape.written;
      place = tape.place;
      piece = tape.piece;
      calls =
          one_more tape.calls;
      failing = tape.failing;
      failures = tape.failures;
    }

-- a write of this many bytes fails: it is made to, or there is no room for any of them
abbrev pub write_fails : Tape → ℕ → Bool
write_fails tape count = fails_next tape || (nat_lt 0 count && tape.place == 0)

-- after one more failure, for lack of room
abbrev pub failed_more : Tape → Tape
failed_more tape = record {
  input = tape.input;
  written = tape.written;
  place = tape.place;
  piece =
      tape.piece;
  calls = tape.calls;
  failing = tape.failing;
  failures = one_more tape.failures;
}

-- how many bytes a read into this much room moves
abbrev pub readable : Tape → ℕ → ℕ
readable tape room = min (min room tape.piece) (length tape.input)

-- how many of this many bytes a write moves
abbrev pub writable : Tape → ℕ → ℕ
writable tape count = min (min count tape.piece) tape.place

-- with this many bytes read
abbrev pub with_read : Tape → ℕ → Tape
with_read tape n = record {
  input = drop n tape.input;
  written = tape.written;
  place = tape.place;
  piece =
      tape.piece;
  calls = tape.calls;
  failing = tape.failing;
  failures = tape.failures;
}

-- with these bytes written
abbrev pub with_written : Tape → List ℕ → Tape
with_written tape bytes = record {
  input = tape.input;
  written = tape.written ++ bytes;
  place =
      tape.place - length bytes;
  piece = tape.piece;
  calls = tape.calls;
  failing = tape.failing;
  failures =
      tape.failures;
}
