-- Which lines are records of containers, and their denied calls: the form of `cell_records`, in which members
-- may stand in any order and others beside them, this project's own: docs/SEMANTICS.md, "Programs".
use Rattle.std.specs.Prelude.{ℕ, ◌^◌, Bool, not, ◌&&◌, if◌then◌else◌, List, [], map, filter_map, codes}
use Rattle.std.specs.Prelude.{nat_lt, string_bytes, unwrap_or, Option, Some, None, Result, Ok, Err}
use Rattle.std.specs.List.{list_all}
use Rattle.std.specs.Str.{bytes_eq}
use Rattle.action.specs.declared.action.Action.{Action}
use Rattle.action.specs.declared.action.Action.TheVariants.{KillProcess, KillThread, Trap, Errno, UserNotif}
use Rattle.action.specs.declared.action.Action.TheVariants.{Trace, Log, Allow}
use Rattle.action.specs.declared.verdict.Verdict.{Verdict}
use Rattle.action.specs.Verdict.{performs_of, value_of}
use Rattle.serde_json.specs.Data.{Data}
use Rattle.serde_json.specs.View.{view}
use Rattle.json_tree.specs.Reading.{◌>>=◌, document, in_order_after, optional, or_else, required}
use Rattle.json_tree.specs.Tree.{list, text, whole, word}
use Rattle.json_tree.specs.declared.faults.FieldFault.{FieldFault}
use Rattle.json_tree.specs.declared.faults.TextFault.{TextFault}
use Rattle.denied_calls.specs.declared.faults.LineFault.{LineFault}
use Rattle.denied_calls.specs.declared.faults.LineFault.TheVariants.{BadName, WrongType}
use Rattle.denied_calls.specs.declared.reading.Head.{Head}
use Rattle.denied_calls.specs.declared.reading.ListedCall.{ListedCall}
use Rattle.denied_calls.specs.declared.sighting.Sighting.{Sighting}
use Rattle.denied_calls.specs.Faults.{of_field, of_text}

-- a sighting with its texts as bytes
pub record Seen : Type 0 where
  pub uid : List ℕ
  pub name : List ℕ
  pub nr : ℕ
  pub arch : ℕ
  pub value : ℕ
  pub attempt : ℕ
  pub first : ℕ
  pub count : ℕ
  pub profile : List ℕ

abbrev pub seen : Sighting → Seen
seen s = record {
  uid = string_bytes s.uid;
  name = string_bytes s.name;
  nr = s.nr;
  arch = s.arch;
  value = s.value;
  attempt = s.attempt;
  first = s.first;
  count = s.count;
  profile = string_bytes s.profile;
}

-- whose record a line is, and the trees of its calls
pub record SeenHead : Type 0 where
  pub uid : List ℕ
  pub name : List ℕ
  pub attempt : ℕ
  pub profile : List ℕ
  pub calls : List Data

abbrev pub head_seen : Head → SeenHead
head_seen h = record {
  uid = h.uid.now;
  name = h.name.now;
  attempt = h.attempt;
  profile = h.profile.now;
  calls = map view h.calls.now;
}

abbrev pub member : {A : Type 0} → Result A FieldFault → Result A LineFault
member (Ok x) = Ok x
member (Err fault) = Err (of_field fault)

-- graphic characters of ASCII, as in the uids and names of manifests
abbrev pub is_plain : List ℕ → Bool
is_plain bytes = list_all (λ byte. nat_lt 0x20 byte && nat_lt byte 0x7f) bytes

unfoldable pub plain_text : List ℕ → Data → Result (List ℕ) LineFault
plain_text key tree = do
  found ← member (required text key tree)
  if is_plain found then Ok found else Err BadName

unfoldable pub head_of : Data → Result SeenHead LineFault
head_of tree = do
  uid ← plain_text (codes "uid") tree
  name ← plain_text (codes "name") tree
  attempt ← member (required word (codes "attempt") tree)
  profile ← member (required text (codes "profile") tree)
  calls ← member (required list (codes "calls") tree)
  Ok (record { uid = uid; name = name; attempt = attempt; profile = profile; calls = calls })

-- the action with this name of seccomp(2), without SECCOMP_RET_
unfoldable pub action_named : List ℕ → Option Action
action_named name =
    if bytes_eq name (codes "KILL_PROCESS") then Some KillProcess
    else if bytes_eq name (codes "KILL_THREAD") then Some KillThread
    else if bytes_eq name (codes "TRAP") then Some Trap
    else if bytes_eq name (codes "ERRNO") then Some Errno
    else if bytes_eq name (codes "USER_NOTIF") then Some UserNotif
    else if bytes_eq name (codes "TRACE") then Some Trace
    else if bytes_eq name (codes "LOG") then Some Log
    else if bytes_eq name (codes "ALLOW") then Some Allow
    else None

unfoldable pub verdict_of : Data → Result Verdict LineFault
verdict_of tree = do
  name ← member (required text (codes "action") tree)
  action ← or_else WrongType (action_named name)
  given ← member (required whole (codes "data") tree)
  if nat_lt given (2 ^ 16) then Ok (record { action = action; ret_data = given }) else Err WrongType

-- a call of the list: one without an architecture is one of x86-64
unfoldable pub call_of : Data → Result ListedCall LineFault
call_of tree = do
  nr ← member (required word (codes "nr") tree)
  arch ← member (optional word (codes "arch") tree)
  verdict ← verdict_of tree
  count ← member (required whole (codes "count") tree)
  first ← member (required whole (codes "first") tree)
  Ok (record { nr = nr; arch = unwrap_or arch 0xc000003e; verdict = verdict; count = count; first = first })

abbrev pub seen_of : SeenHead → ListedCall → Seen
seen_of head call = record {
  uid = head.uid;
  name = head.name;
  nr = call.nr;
  arch = call.arch;
  value = value_of call.verdict;
  attempt = head.attempt;
  first = call.first;
  count = call.count;
  profile = head.profile;
}

-- a call that was denied
abbrev pub denied_of : SeenHead → ListedCall → Option Seen
denied_of head call = if not (performs_of call.verdict.action) then Some (seen_of head call) else None

-- what a record says
abbrev pub record_of : Data → Result (List Seen) LineFault
record_of tree = head_of tree >>= λ head. in_order_after (λ done item. call_of item) [] head.calls
    >>= λ calls. Ok (filter_map (denied_of head) calls)

abbrev pub as_line : Result Data TextFault → Result Data LineFault
as_line (Ok tree) = Ok tree
as_line (Err fault) = Err (of_text fault)

abbrev pub document_of : List ℕ → Result Data LineFault
document_of line = as_line (document line)

abbrev pub line_of : List ℕ → Result (List Seen) LineFault
line_of line = document_of line >>= λ tree. record_of tree
