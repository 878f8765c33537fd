-- The lines that report why containers wait: this project's own, docs/SEMANTICS.md, "Why a container waits".
use Rattle.std.specs.Prelude.{ℕ, ◌-◌, ◌/◌, ◌%◌, ◌==◌, Bool, true, false, if◌then◌else◌, List, [], ◌∷◌, ◌++◌}
use Rattle.std.specs.Prelude.{codes, Option, Some, None}
use Rattle.std.specs.Fmt.{decimal}
use Rattle.cri_msgs.specs.declared.calls.Call.{Call}
use Rattle.cri_msgs.specs.declared.calls.Call.TheVariants.{CreateContainer}
use Rattle.cri_msgs.specs.declared.refusals.Refusal.{Refusal}
use Rattle.cri_msgs.specs.declared.refusals.Refusal.TheVariants.{InvalidArgument, Internal}
use Rattle.cri_msgs.specs.declared.replies.Answer.TheVariants as answer
use Rattle.fault_notes.specs.Paths.{shown_path}
use Rattle.fault_notes.specs.Refusals.{refusal_text}
use Rattle.manifest.specs.declared.profiles.SeccompProfile.{SeccompProfile}
use Rattle.manifest.specs.declared.profiles.SeccompProfile.TheVariants as profile
use Rattle.node_watch.specs.declared.forms.Form.{Form}
use Rattle.node_watch.specs.declared.forms.Form.TheVariants.{Text, Json}
use Rattle.node_watch.specs.declared.losses.Loss.{Loss}
use Rattle.node_watch.specs.declared.reasons.Reason.{Reason}
use Rattle.node_watch.specs.declared.reasons.Trouble.{Trouble}
use Rattle.node_watch.specs.declared.reasons.Trouble.TheVariants.{Refused, Lost}
use Rattle.node_watch.specs.declared.waits.ContainerWait.{ContainerWait}
use Rattle.node_watch.specs.declared.waits.PodWaits.{PodWaits}
use Rattle.node_watch.specs.declared.waits.WaitReason.{WaitReason}
use Rattle.node_watch.specs.declared.waits.WaitReason.TheVariants.{Setup, BackOff, Failed, Due, Runs}
use Rattle.node_watch.specs.Calls.{call_name}
use Rattle.node_watch.specs.Changes.{which_members}
use Rattle.node_watch.specs.Losses.{loss_of, loss_text}
use Rattle.node_watch.specs.Waits.{is_same_reason}

-- a refusal for which a file may be the cause
abbrev pub is_of_files : Refusal → Bool
is_of_files InvalidArgument = true
is_of_files Internal = true
is_of_files refusal = false

abbrev pub profile_words : SeccompProfile → List ℕ
profile_words (profile.Localhost path) = codes " and profile " ++ shown_path path
profile_words other = []

-- the files that a creation names
abbrev pub files_words : Call → Refusal → List ℕ
files_words (CreateContainer key image profile) refusal =
    if is_of_files refusal then codes ": script " ++ (shown_path image ++ profile_words profile) else []
files_words call refusal = []

-- what the runtime wrote about the cause, or else the files
abbrev pub cause_or_files : Call → Refusal → Option (List ℕ) → List ℕ
cause_or_files call refusal (Some cause) = codes ": " ++ cause
cause_or_files call refusal None = files_words call refusal

-- if a refusal shows that the runtime does not have the pod's sandbox, that is its text
abbrev pub cause_words : Option Loss → Call → Refusal → Option (List ℕ) → List ℕ
cause_words (Some loss) call refusal cause = codes ": " ++ loss_text loss
cause_words None call refusal cause = cause_or_files call refusal cause

abbrev pub trouble_words : Call → Trouble → Option (List ℕ) → List ℕ
trouble_words call (Refused refusal) cause =
    codes " refused " ++ (refusal_text refusal
    ++ cause_words (loss_of call (answer.Refused refusal)) call refusal cause)
trouble_words call Lost cause = codes " lost"

abbrev pub times_words : ℕ → List ℕ
times_words times = if times == 1 then codes "once" else decimal times ++ codes " times"

-- the failed call, how, why and how often it failed, and since when
abbrev pub failure_text : Reason → List ℕ
failure_text reason =
    call_name reason.call ++ (trouble_words reason.call reason.trouble reason.cause
    ++ (codes ", " ++ (times_words reason.times ++ (codes " since " ++ (decimal reason.since ++ codes " s")))))

-- 1st, 2nd, 3rd, 4th, .., 11th, 12th, 13th, .., 21st
abbrev pub ending_by : ℕ → ℕ → List ℕ
ending_by tens ones =
    if tens == 1 then codes "th" else if ones == 1 then codes "st" else if ones == 2 then codes "nd"
    else if ones == 3 then codes "rd"
    else codes "th"

unfoldable pub ending_of : ℕ → List ℕ
ending_of number = ending_by (number / 10 % 10) (number % 10)

-- with this many seconds left
unfoldable pub back_off_text : ℕ → ℕ → ℕ → List ℕ → List ℕ
back_off_text left code run ending =
    codes "restarts in " ++ (decimal left ++ (codes " s, last exit " ++ (decimal code
    ++ (codes ", " ++ (decimal run ++ (ending ++ codes " run"))))))

-- the text of a reason at a moment
abbrev pub reason_text : ℕ → WaitReason → List ℕ
reason_text moment Setup = codes "for setup"
reason_text moment (BackOff until code run) = back_off_text (until - moment) code run (ending_of run)
reason_text moment (Failed reason) = failure_text reason
reason_text moment Due = codes "for its next call"
reason_text moment Runs = []

-- the line of a reason; in JSON its text is escaped as each text is (RFC 8259, section 7)
abbrev pub wait_line : Form → ℕ → List ℕ → List ℕ → WaitReason → List ℕ
wait_line Text moment uid name reason =
    decimal moment ++ (codes " " ++ (uid ++ (codes " " ++ (name ++ (codes " waits: "
    ++ (reason_text moment reason ++ codes "\n"))))))
wait_line Json moment uid name reason =
    which_members moment uid name ++ (codes ",\"waits\":\"" ++ (shown_path (reason_text moment reason)
    ++ codes "\"}\n"))

-- the container runs, or is over
abbrev pub no_wait_line : Form → ℕ → List ℕ → List ℕ → List ℕ
no_wait_line Text moment uid name =
    decimal moment ++ (codes " " ++ (uid ++ (codes " " ++ (name ++ codes " waits no longer\n"))))
no_wait_line Json moment uid name = which_members moment uid name ++ codes ",\"waits\":null}\n"

-- that a container runs is not reported
abbrev pub told_reason : Option WaitReason → Option WaitReason
told_reason None = None
told_reason (Some Runs) = None
told_reason (Some reason) = Some reason

abbrev pub wait_change_by : Form → ℕ → List ℕ → List ℕ → Option WaitReason → Option WaitReason → List ℕ
wait_change_by form moment uid name None None = []
wait_change_by form moment uid name (Some old) None = no_wait_line form moment uid name
wait_change_by form moment uid name None (Some new) = wait_line form moment uid name new
wait_change_by form moment uid name (Some old) (Some new) =
    if is_same_reason old new then [] else wait_line form moment uid name new

-- a container that was seen so before, or not at all
abbrev pub reason_before : Option ContainerWait → Option WaitReason
reason_before None = None
reason_before (Some wait) = told_reason wait.reason

abbrev pub wait_change : Form → ℕ → List ℕ → Option ContainerWait → ContainerWait → List ℕ
wait_change form moment uid old new =
    wait_change_by form moment uid new.name (reason_before old) (told_reason new.reason)

-- place by place
abbrev pub container_waits : Form → ℕ → List ℕ → List ContainerWait → List ContainerWait → List ℕ
container_waits form moment uid old [] = []
container_waits form moment uid [] (c ∷ cs) =
    wait_change form moment uid None c ++ container_waits form moment uid [] cs
container_waits form moment uid (o ∷ os) (c ∷ cs) =
    wait_change form moment uid (Some o) c ++ container_waits form moment uid os cs

-- the changes in why a pod's containers wait, given how they waited before, if they were seen
abbrev pub wait_changes : Form → ℕ → Option PodWaits → PodWaits → List ℕ
wait_changes form moment None new = container_waits form moment new.uid [] new.containers.items
wait_changes form moment (Some old) new =
    container_waits form moment new.uid old.containers.items new.containers.items
