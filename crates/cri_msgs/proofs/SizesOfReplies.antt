-- The text of a reply fits into a frame.
use Rattle.std.proofs.Common.{ℕ, ◌*◌, ◌≤◌, List, [], ◌∷◌, length, map, codes, arith}
use Rattle.std.specs.Prelude.{decimal}
use Rattle.std.specs.List.{AllByRecursion}
use Rattle.serde_json.specs.Data.{Data, object, no_members, member}
use Rattle.serde_json.specs.View.{items_of}
use Rattle.serde_json.specs.Written.{compact_text}
use Rattle.cri_msgs.specs.declared.lists.ListedContainer.{ListedContainer}
use Rattle.cri_msgs.specs.declared.lists.ListedStatus.{ListedStatus}
use Rattle.cri_msgs.specs.declared.refusals.Refusal.{Refusal}
use Rattle.cri_msgs.specs.declared.refusals.Refusal.TheVariants as refusal
use Rattle.cri_msgs.specs.declared.replies.Answer.{Answer}
use Rattle.cri_msgs.specs.declared.replies.Answer.TheVariants as answer
use Rattle.cri_msgs.specs.declared.states.ContainerState.{ContainerState}
use Rattle.cri_msgs.specs.declared.states.ContainerState.TheVariants as kind
use Rattle.cri_msgs.specs.declared.states.State.{State}
use Rattle.cri_msgs.specs.declared.states.State.TheVariants.{Created, Running, Exited}
use Rattle.cri_msgs.specs.declared.states.Status.{Status}
use Rattle.cri_msgs.specs.declared.version.Version.{Version}
use Rattle.cri_msgs.specs.Fits.{FitsAnswer, FitsList, FitsListed, FitsListedStatus, FitsState, FitsStatus}
use Rattle.cri_msgs.specs.Fits.{IsSmall}
use Rattle.cri_msgs.specs.Names.{kind_of, refusal_number, state_name}
use Rattle.cri_msgs.specs.Written.{whole_number, exit_tree, status_tree, listed_tree, listed_status_tree}
use Rattle.cri_msgs.specs.Written.{list_tree, refused_tree, ok_tree, answer_tree}
use Rattle.cri_msgs.proofs.Sizes.{size, items_size, text_size}
use Rattle.cri_msgs.proofs.SizesOfMessages.{digits, word_digits, version_digits, label_length}

name_length : (k : ContainerState) → length (state_name k) ≤ 7
name_length kind.Created = omega arith
name_length kind.Running = omega arith
name_length kind.Exited = omega arith

exit_size : (state : State) → FitsState state → size (exit_tree state) ≤ 20
exit_size Created fits = omega arith
exit_size Running fits = omega arith
exit_size (Exited code) fits = digits code (omega (arith, fits))

refusal_digits : (r : Refusal) → length (decimal (refusal_number r)) ≤ 20
refusal_digits refusal.InvalidArgument = digits 3 (omega arith)
refusal_digits refusal.NotFound = digits 5 (omega arith)
refusal_digits refusal.AlreadyExists = digits 6 (omega arith)
refusal_digits refusal.ResourceExhausted = digits 8 (omega arith)
refusal_digits refusal.FailedPrecondition = digits 9 (omega arith)
refusal_digits refusal.Internal = digits 13 (omega arith)
refusal_digits refusal.Memory = digits 14 (omega arith)

status_size : (status : Status) → FitsStatus status → size (status_tree status) ≤ 900
status_size status fits =
    omega (
      arith,
      digits status.performed fits.performed,
      digits status.denied fits.denied,
      exit_size status.state fits.state,
      name_length (kind_of status.state),
    )

listed_size : (listed : ListedContainer) → FitsListed listed → size (listed_tree listed) ≤ 900
listed_size listed fits =
    omega (
      arith,
      word_digits listed.container.attempt fits.attempt,
      label_length listed.container.name fits.name,
      name_length listed.state,
    )

listed_status_size : (listed : ListedStatus) → FitsListedStatus listed
    → size (listed_status_tree listed) ≤ 900
listed_status_size listed fits =
    omega (
      arith,
      word_digits listed.container.attempt fits.container.attempt,
      label_length listed.container.name fits.container.name,
      digits listed.status.performed fits.status.performed,
      digits listed.status.denied fits.status.denied,
      exit_size listed.status.state fits.status.state,
      name_length (kind_of listed.status.state),
    )

entries_size : {A : Type 0} (Fits : A → Type 0) (tree_of : A → Data)
    → ((x : A) → Fits x → size (tree_of x) ≤ 900) → (xs : List A) → AllByRecursion Fits xs
    → items_size (items_of (map tree_of xs)) ≤ 901 * length xs
entries_size Fits tree_of one [] all = omega arith
entries_size Fits tree_of one (x ∷ xs) all =
    omega (arith, one x all.0, entries_size Fits tree_of one xs all.1)

abbrev OkIsShort : Data → Type 0
OkIsShort ok = size ok ≤ 1000000

list_size : {A : Type 0} (Fits : A → Type 0) (tree_of : A → Data)
    → ((x : A) → Fits x → size (tree_of x) ≤ 900) → (key : List ℕ) (xs : List A) → length key ≤ 10
    → FitsList Fits xs → OkIsShort (list_tree key tree_of xs)
list_size Fits tree_of one key xs short fits =
    omega (arith, entries_size Fits tree_of one xs fits.each, fits.few, short)

ok_size : (version : Version) (id : ℕ) (ok : Data) → IsSmall id → OkIsShort ok
    → size (ok_tree version id ok) ≤ 1048576
ok_size version id ok small short = omega (arith, version_digits version, digits id small, short)

refused_size : (version : Version) (id : ℕ) (r : Refusal) → IsSmall id
    → size (refused_tree version id (refusal_number r)) ≤ 1048576
refused_size version id r small = omega (arith, version_digits version, digits id small, refusal_digits r)

container_size : (id : ℕ) → IsSmall id → OkIsShort
    (object (member (codes "container") (whole_number id) no_members))
container_size id small = omega (arith, digits id small)

listing_size : (items : List ListedContainer) → FitsList FitsListed items
    → OkIsShort (list_tree (codes "containers") listed_tree items)
listing_size items fits = list_size FitsListed listed_tree listed_size (codes "containers") items
    (omega arith) fits

statuses_size : (items : List ListedStatus) → FitsList FitsListedStatus items
    → OkIsShort (list_tree (codes "statuses") listed_status_tree items)
statuses_size items fits = list_size FitsListedStatus listed_status_tree listed_status_size
    (codes "statuses") items (omega arith) fits

answer_size : (version : Version) (id : ℕ) (said : Answer) → IsSmall id → FitsAnswer said
    → size (answer_tree version id said) ≤ 1048576
unfolding answer_tree
answer_size version id (answer.Refused r) small fits = refused_size version id r small
answer_size version id answer.Done small fits = ok_size version id (object no_members) small (omega arith)
answer_size version id (answer.Container made) small fits =
    ok_size version id (object (member (codes "container") (whole_number made) no_members)) small
    (container_size made fits)
answer_size version id (answer.Status status) small fits =
    ok_size version id (status_tree status) small (omega (arith, status_size status fits))
answer_size version id (answer.List items) small fits =
    ok_size version id (list_tree (codes "containers") listed_tree items) small (listing_size items fits)
answer_size version id (answer.Statuses items) small fits =
    ok_size version id (list_tree (codes "statuses") listed_status_tree items) small
    (statuses_size items fits)

pub reply_short : (version : Version) (id : ℕ) (said : Answer) → IsSmall id → FitsAnswer said
    → length (compact_text (answer_tree version id said)) ≤ 1048576
reply_short version id said small fits =
    omega (arith, text_size (answer_tree version id said), answer_size version id said small fits)
