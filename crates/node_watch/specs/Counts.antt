-- How many calls of each container were performed, and how many were denied, by the latest statuses: this
-- project's own, docs/SEMANTICS.md, "How many calls".
use Rattle.std.specs.Prelude.{ℕ, ◌==◌, ◌&&◌, Bool, true, false, not, filter, List, [], ◌∷◌, ◌++◌, codes}
use Rattle.std.specs.Prelude.{Option, Some, None, find, option_map}
use Rattle.std.specs.Fmt.{decimal}
use Rattle.std.specs.Str.{bytes_eq}
use Rattle.cri_msgs.specs.declared.calls.Call.{Call}
use Rattle.cri_msgs.specs.declared.calls.Call.TheVariants.{CreateContainer, ContainerStatus, ContainerStatuses}
use Rattle.cri_msgs.specs.declared.lists.ListedStatus.{ListedStatus}
use Rattle.cri_msgs.specs.declared.replies.Answer.{Answer}
use Rattle.cri_msgs.specs.declared.replies.Answer.TheVariants as answer
use Rattle.cri_msgs.specs.declared.states.Status.{Status}
use Rattle.node_watch.specs.declared.forms.Form.{Form}
use Rattle.node_watch.specs.declared.forms.Form.TheVariants.{Text, Json}
use Rattle.node_watch.specs.declared.counts.CallCounts.{CallCounts}
use Rattle.node_watch.specs.declared.counts.Counted.{Counted}

-- the counts of a container, as words or as members of an object of JSON (RFC 8259)
abbrev pub counts_text : Form → Option CallCounts → List ℕ
counts_text form None = []
counts_text Text (Some counts) =
    codes " " ++ (decimal counts.performed ++ (codes " performed " ++ (decimal counts.denied
    ++ codes " denied")))
counts_text Json (Some counts) =
    codes ",\"performed\":" ++ (decimal counts.performed ++ (codes ",\"denied\":" ++ decimal counts.denied))

abbrev pub is_same_counts : Option CallCounts → Option CallCounts → Bool
is_same_counts None None = true
is_same_counts None (Some other) = false
is_same_counts (Some counts) None = false
is_same_counts (Some counts) (Some other) =
    counts.performed == other.performed && counts.denied == other.denied

abbrev pub is_of : List ℕ → List ℕ → Counted → Bool
is_of uid name counted = bytes_eq counted.uid uid && bytes_eq counted.name name

abbrev pub without : List ℕ → List ℕ → List Counted → List Counted
without uid name list = filter (λ counted. not (is_of uid name counted)) list

abbrev pub without_pod : List ℕ → List Counted → List Counted
without_pod uid list = filter (λ counted. not (bytes_eq counted.uid uid)) list

abbrev pub counted_by : List ℕ → List ℕ → Status → Counted
counted_by uid name status = record {
  uid = uid;
  name = name;
  counts = record { performed = status.performed; denied = status.denied };
}

-- a list of statuses has the attempts of a container in their order; the newest one counts
abbrev pub newest_first : List ℕ → List ListedStatus → List Counted → List Counted
newest_first uid [] behind = behind
newest_first uid (s ∷ ss) behind = newest_first uid ss (counted_by uid s.container.name s.status ∷ behind)

-- the counts after this answer to a call; a new attempt has none until its first status
abbrev pub counts_after : Call → Answer → List Counted → List Counted
counts_after (CreateContainer key image profile) (answer.Container id) list =
    without key.uid key.container.name list
counts_after (ContainerStatus key) (answer.Status status) list =
    without key.uid key.container.name list ++ counted_by key.uid key.container.name status ∷ []
counts_after (ContainerStatuses uid) (answer.Statuses listed) list =
    without_pod uid list ++ newest_first uid listed []
counts_after call answer list = list

abbrev pub counts_of : List ℕ → List ℕ → List Counted → Option CallCounts
counts_of uid name list = option_map (λ counted. counted.counts) (find (λ c. is_of uid name c) list)
