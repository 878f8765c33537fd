-- What `scriptctl` asks and prints, this project's own: docs/SEMANTICS.md, "Programs". The names of states
-- are those of CRI v1.
use Rattle.std.specs.Prelude.{ℕ, List, [], ◌∷◌, ◌++◌, codes, Option, Some, None}
use Rattle.std.specs.Fmt.{decimal}
use Rattle.command_line.specs.declared.scriptctl.PodCommand.{PodCommand}
use Rattle.command_line.specs.declared.scriptctl.PodCommand.TheVariants.{Ps, Stop, Rm}
use Rattle.cri_msgs.specs.declared.calls.Call.{Call}
use Rattle.cri_msgs.specs.declared.calls.Call.TheVariants.{ContainerStatuses, StopPodSandbox, RemovePodSandbox}
use Rattle.cri_msgs.specs.declared.keys.ContainerMetadata.{ContainerMetadata}
use Rattle.cri_msgs.specs.declared.lists.ListedStatus.{ListedStatus}
use Rattle.cri_msgs.specs.declared.replies.Answer.{Answer}
use Rattle.cri_msgs.specs.declared.replies.Answer.TheVariants.{Done, Statuses}
use Rattle.cri_msgs.specs.declared.states.State.{State}
use Rattle.cri_msgs.specs.declared.states.State.TheVariants.{Created, Running, Exited}
use Rattle.cri_msgs.specs.declared.states.Status.{Status}
use Rattle.cri_msgs.specs.Names.{kind_of, state_name}
use Rattle.node_watch.specs.declared.forms.Form.{Form}
use Rattle.node_watch.specs.declared.forms.Form.TheVariants.{Text, Json}
use Rattle.runtime_client.specs.declared.answers.TheConstants.{STOP_GRACE}

abbrev pub call_of : PodCommand → List ℕ → Call
call_of Ps uid = ContainerStatuses uid
call_of Stop uid = StopPodSandbox uid STOP_GRACE
call_of Rm uid = RemovePodSandbox uid

abbrev pub head : List ℕ
head = codes "POD\tCONTAINER\tATTEMPT\tSTATE\tEXIT\tPERFORMED\tDENIED\n"

-- the exit code, or a dash if it has not ended
abbrev pub exit_text : State → List ℕ
exit_text (Exited code) = decimal code
exit_text state = codes "-"

-- the JSON members of a container: its attempt, its state, and its counts
abbrev pub which_members : List ℕ → ContainerMetadata → List ℕ
which_members uid container =
    codes "{\"pod\":\"" ++ (uid ++ (codes "\",\"container\":\"" ++ (container.name
    ++ (codes "\",\"attempt\":" ++ decimal container.attempt))))

abbrev pub state_members : State → List ℕ
state_members Created = codes ",\"state\":\"CREATED\",\"exit\":null"
state_members Running = codes ",\"state\":\"RUNNING\",\"exit\":null"
state_members (Exited code) = codes ",\"state\":\"EXITED\",\"exit\":" ++ decimal code

abbrev pub count_members : Status → List ℕ
count_members status =
    codes ",\"performed\":" ++ (decimal status.performed
    ++ (codes ",\"denied\":" ++ (decimal status.denied ++ codes "}\n")))

-- pod, container, attempt, state, exit code, and how many calls were performed and denied
abbrev pub status_line : Form → List ℕ → ListedStatus → List ℕ
status_line Text uid listed =
    uid ++ (codes "\t" ++ (listed.container.name ++ (codes "\t" ++ (decimal listed.container.attempt
    ++ (codes "\t" ++ (state_name (kind_of listed.status.state) ++ (codes "\t"
    ++ (exit_text listed.status.state ++ (codes "\t" ++ (decimal listed.status.performed ++ (codes "\t"
    ++ (decimal listed.status.denied ++ codes "\n"))))))))))))
status_line Json uid listed = which_members uid listed.container
    ++ (state_members listed.status.state ++ count_members listed.status)

abbrev pub status_lines : Form → List ℕ → List ListedStatus → List ℕ
status_lines form uid [] = []
status_lines form uid (listed ∷ others) = status_line form uid listed ++ status_lines form uid others

-- the text printed for an answer; none for a refusal, or for an answer to another call
abbrev pub lines_of : PodCommand → Form → List ℕ → Answer → Option (List ℕ)
lines_of Ps form uid (Statuses statuses) = Some (status_lines form uid statuses)
lines_of Ps form uid answer = None
lines_of Stop form uid Done = Some (uid ++ codes " stopped\n")
lines_of Stop form uid answer = None
lines_of Rm form uid Done = Some (uid ++ codes " removed\n")
lines_of Rm form uid answer = None
