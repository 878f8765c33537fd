-- Why the containers of a node wait: the last failed calls, the newest first. This project's own:
-- docs/SEMANTICS.md, "Why a container waits".
use Rattle.std.specs.Prelude.{ℕ, ◌&&◌, ◌==◌, Bool, true, false, filter, not, if◌then◌else◌, List, ◌∷◌, Option, Some}
use Rattle.std.specs.Prelude.{None, find, position, slice_get}
use Rattle.std.specs.List.{remove}
use Rattle.std.specs.Str.{bytes_eq}
use Rattle.cri_msgs.specs.declared.calls.Call.{Call}
use Rattle.cri_msgs.specs.Calls.{uid_of}
use Rattle.cri_msgs.specs.Names.{refusal_number}
use Rattle.lifecycle.specs.BackOff.{later}
use Rattle.node_watch.specs.declared.reasons.Reason.{Reason}
use Rattle.node_watch.specs.declared.reasons.Trouble.{Trouble}
use Rattle.node_watch.specs.declared.reasons.Trouble.TheVariants.{Refused, Lost}
use Rattle.node_watch.specs.Calls.{are_about_one, call_name, concerns}

abbrev pub is_same_trouble : Trouble → Trouble → Bool
is_same_trouble (Refused refusal) (Refused other) = refusal_number refusal == refusal_number other
is_same_trouble (Refused refusal) Lost = false
is_same_trouble Lost (Refused other) = false
is_same_trouble Lost Lost = true

-- the place of the last failed call about the same
abbrev pub place_of : Call → List Reason → Option ℕ
place_of call reasons = position (λ reason. are_about_one reason.call call) reasons

abbrev pub without_at : Option ℕ → List Reason → List Reason
without_at None reasons = reasons
without_at (Some place) reasons = remove reasons place

abbrev pub is_same_cause : Option (List ℕ) → Option (List ℕ) → Bool
is_same_cause None None = true
is_same_cause None (Some other) = false
is_same_cause (Some cause) None = false
is_same_cause (Some cause) (Some other) = bytes_eq cause other

-- the same call failed in the same way, for the same cause if it is known
abbrev pub goes_on : Call → Trouble → Option (List ℕ) → Reason → Bool
goes_on call trouble cause reason = bytes_eq (call_name reason.call) (call_name call)
    && (is_same_trouble reason.trouble trouble && is_same_cause reason.cause cause)

abbrev pub since_of : ℕ → Call → Trouble → Option (List ℕ) → Option Reason → ℕ
since_of moment call trouble cause None = moment
since_of moment call trouble cause (Some reason) =
    if goes_on call trouble cause reason then reason.since else moment

-- how many such calls failed since then; the greatest number if there were more
abbrev pub times_of : Call → Trouble → Option (List ℕ) → Option Reason → ℕ
times_of call trouble cause None = 1
times_of call trouble cause (Some reason) =
    if goes_on call trouble cause reason then later reason.times 1 else 1

abbrev pub at_place : List Reason → Option ℕ → Option Reason
at_place reasons None = None
at_place reasons (Some place) = slice_get reasons place

abbrev pub noted_by : ℕ → Call → Option Trouble → Option (List ℕ) → Option Reason → List Reason
    → List Reason
noted_by moment call None cause was others = others
noted_by moment call (Some trouble) cause was others =
    record {
      call = call;
      trouble = trouble;
      cause = cause;
      since = since_of moment call trouble cause was;
      times = times_of call trouble cause was;
      latest = moment;
    } ∷ others

-- the call ended at this moment, with this trouble or with none, for this cause if it is known
abbrev pub noted : ℕ → Call → Option Trouble → Option (List ℕ) → List Reason → List Reason
noted moment call trouble cause reasons =
    noted_by moment call trouble cause (at_place reasons (place_of call reasons))
    (without_at (place_of call reasons) reasons)

-- a pod that has left the node is forgotten
abbrev pub without_pod : List ℕ → List Reason → List Reason
without_pod uid reasons = filter (λ reason. not (bytes_eq (uid_of reason.call) uid)) reasons

-- the last failed call about the container
abbrev pub reason_for : List ℕ → List ℕ → List Reason → Option Reason
reason_for uid name reasons = find (λ reason. concerns uid name reason.call) reasons
