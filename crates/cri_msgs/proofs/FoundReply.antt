-- A reply that is read is right: each reading that succeeds returns what the tree has.
use Rattle.std.proofs.Common.{◌≡◌, ◌≤◌, ℕ, eqb-true, ltb, List, length, not, codes, cond, Bool, true, false}
use Rattle.std.proofs.Common.{Result, Ok, refl, sym, subst}
use Rattle.std.proofs.lemmas.Bool.{ltb-true, ltb-false}
use Rattle.serde_json.specs.Data.{Data}
use Rattle.json_tree.specs.Tree.{has, list, object, text, whole}
use Rattle.json_tree.specs.Reading.{refuse_if, in_order, required, HasField}
use Rattle.json_tree.specs.declared.faults.FieldFault.{FieldFault}
use Rattle.json_tree.specs.declared.faults.FieldFault.TheVariants.{WrongType}
use Rattle.json_tree.proofs.Loops.{bind_ok, then_ok}
use Rattle.json_tree.proofs.Fields.{refuse_if_ok, required_found, in_order_found}
use Rattle.json_tree.proofs.Values.{has_not}
use Rattle.manifest.proofs.Found.{passed}
use Rattle.cri_msgs.specs.declared.lists.ListedContainer.{ListedContainer}
use Rattle.cri_msgs.specs.declared.lists.ListedStatus.{ListedStatus}
use Rattle.cri_msgs.specs.declared.lists.TheConstants.{MAX_LISTED}
use Rattle.cri_msgs.specs.declared.refusals.Refusal.{Refusal}
use Rattle.cri_msgs.specs.declared.refusals.Refusal.TheVariants as refusal
use Rattle.cri_msgs.specs.declared.replies.Answer.{Answer}
use Rattle.cri_msgs.specs.declared.replies.Answer.TheVariants as answer
use Rattle.cri_msgs.specs.declared.replies.Reply.{Reply}
use Rattle.cri_msgs.specs.declared.states.ContainerState.{ContainerState}
use Rattle.cri_msgs.specs.declared.states.ContainerState.TheVariants as kind
use Rattle.cri_msgs.specs.declared.states.State.{State}
use Rattle.cri_msgs.specs.declared.states.State.TheVariants.{Created, Running, Exited}
use Rattle.cri_msgs.specs.declared.states.Status.{Status}
use Rattle.cri_msgs.specs.declared.version.Version.{Version}
use Rattle.cri_msgs.specs.declared.version.Version.TheVariants.{V1, V2}
use Rattle.cri_msgs.specs.Names.{kind_of, refusal_number, state_name}
use Rattle.cri_msgs.specs.Reading.{container_of, kind_named, kind_in, without_exit, with_exit, state_by}
use Rattle.cri_msgs.specs.Reading.{state_of, status_of, listed_of, listed_status_of, few, id_in, listing_in}
use Rattle.cri_msgs.specs.Reading.{status_in, statuses_in, statuses_by, ok_of, refusal_numbered, refused_in}
use Rattle.cri_msgs.specs.Reading.{ok_in, answer_of, numbered, reply_of}
use Rattle.cri_msgs.specs.Replies.{Lacks, HasExit, HasStatus, IsListed, IsListedStatus, HasList, IsOk}
use Rattle.cri_msgs.specs.Replies.{HasAnswer, IsReply}
use Rattle.cri_msgs.proofs.Found.{one_of, none_of, is_this, named, container_found, numbered_found}

kind_name_found : (found : List ℕ) (kind : ContainerState) → kind_named found ≡ Ok kind
    → found ≡ state_name kind
unfolding kind_named
kind_name_found found k h =
    let P : ContainerState → Type 0 = λ s. found ≡ state_name s in
    one_of P _ _ _ (named P found (codes "CREATED") kind.Created (λ e. e))
    (one_of P _ _ _ (named P found (codes "RUNNING") kind.Running (λ e. e))
    (one_of P _ _ _ (named P found (codes "EXITED") kind.Exited (λ e. e)) (none_of P WrongType))) k h

kind_found : (tree : Data) (kind : ContainerState) → kind_in tree ≡ Ok kind
    → HasField text (codes "state") tree (state_name kind)
unfolding kind_in
kind_found tree k h =
    let found = bind_ok (required text (codes "state") tree) _ _ h in
    subst (HasField text (codes "state") tree) (kind_name_found found.0 k found.2)
    (required_found text (codes "state") tree found.0 found.1)

-- what a state of this kind has
abbrev IsStateOf : Data → ContainerState → State → Type 0
IsStateOf tree k state = (k ≡ kind_of state) × HasExit tree state

lacks_exit : (tree : Data) (state other : State) → HasExit tree state ≡ Lacks (codes "exit") tree
    → without_exit state tree ≡ Ok other → IsStateOf tree (kind_of state) other
unfolding without_exit
lacks_exit tree state other is h =
    let fits = then_ok (refuse_if (has (codes "exit") tree) WrongType) _ _ h in
    is_this (IsStateOf tree (kind_of state)) state other
    (refl, subst (λ t. t) (sym is) (has_not (codes "exit") tree (refuse_if_ok _ WrongType fits.0 fits.1)))
    fits.2

state_by_found : (k : ContainerState) (tree : Data) (state : State) → state_by k tree ≡ Ok state
    → IsStateOf tree k state
unfolding with_exit
state_by_found kind.Created tree state h = lacks_exit tree Created state refl h
state_by_found kind.Running tree state h = lacks_exit tree Running state refl h
state_by_found kind.Exited tree state h =
    let code = bind_ok (required whole (codes "exit") tree) _ _ h in
    let fits = then_ok (refuse_if (not (ltb code.0 256)) WrongType) _ _ code.2 in
    is_this (IsStateOf tree kind.Exited) (Exited code.0) state (
      refl,
      (
        required_found whole (codes "exit") tree code.0 code.1,
        ltb-true code.0 256 (passed _ (refuse_if_ok _ WrongType fits.0 fits.1)),
      ),
    ) fits.2

pub status_found : (tree : Data) (status : Status) → status_of tree ≡ Ok status → HasStatus tree status
unfolding status_of state_of
status_found tree status h =
    let state = bind_ok (state_of tree) _ _ h in
    let performed = bind_ok (required whole (codes "performed") tree) _ _ state.2 in
    let denied = bind_ok (required whole (codes "denied") tree) _ _ performed.2 in
    let kind = bind_ok (kind_in tree) _ _ state.1 in
    let is = state_by_found kind.0 tree state.0 kind.2 in
    is_this (HasStatus tree) (record { state = state.0; performed = performed.0; denied = denied.0 }) status
    (record {
      state = subst (λ k. HasField text (codes "state") tree (state_name k)) is.0
          (kind_found tree kind.0 kind.1);
      exit = is.1;
      performed = required_found whole (codes "performed") tree performed.0 performed.1;
      denied = required_found whole (codes "denied") tree denied.0 denied.1;
    }) denied.2

listed_found : (tree : Data) (listed : ListedContainer) → listed_of tree ≡ Ok listed → IsListed tree listed
unfolding listed_of
listed_found tree listed h =
    let container = bind_ok (container_of tree) _ _ h in
    let state = bind_ok (kind_in tree) _ _ container.2 in
    is_this (IsListed tree) (record { container = container.0; state = state.0 }) listed (record {
      container = container_found tree container.0 container.1;
      state = kind_found tree state.0 state.1;
    }) state.2

listed_status_found : (tree : Data) (listed : ListedStatus) → listed_status_of tree ≡ Ok listed
    → IsListedStatus tree listed
unfolding listed_status_of
listed_status_found tree listed h =
    let container = bind_ok (container_of tree) _ _ h in
    let status = bind_ok (status_of tree) _ _ container.2 in
    is_this (IsListedStatus tree) (record { container = container.0; status = status.0 }) listed (record {
      container = container_found tree container.0 container.1;
      status = status_found tree status.0 status.1;
    }) status.2

list_found : {A : Type 0} (IsItem : Data → A → Type 0) (item_of : Data → Result A FieldFault)
    → ((tree : Data) (x : A) → item_of tree ≡ Ok x → IsItem tree x)
    → (key : List ℕ) (tree : Data) (trees : List Data) (items : List A) → few key tree ≡ Ok trees
    → in_order item_of trees ≡ Ok items → HasList IsItem key tree items
unfolding few
list_found IsItem item_of one key tree trees items there each =
    let found = bind_ok (required list key tree) _ _ there in
    let fits = then_ok (refuse_if (ltb MAX_LISTED (length found.0)) WrongType) _ _ found.2 in
    let same : found.0 ≡ trees = cc in
    record {
      trees = trees;
      there = subst (HasField list key tree) same (required_found list key tree found.0 found.1);
      few = subst (λ ts. length ts ≤ MAX_LISTED) same
          (ltb-false MAX_LISTED (length found.0) (refuse_if_ok _ WrongType fits.0 fits.1));
      each = in_order_found item_of IsItem one trees items each;
    }

by_test : {A E : Type 0} (P : A → Type 0) (test : Bool) (one others : Result A E)
    → ((y : A) → one ≡ Ok y → P y) → (test ≡ false → (y : A) → others ≡ Ok y → P y) → (y : A)
    → cond test one others ≡ Ok y → P y
by_test P true one others here rest y h = here y h
by_test P false one others here rest y h = rest refl y h

-- a chain of look-ups: if a member is absent, the rest decides
by_member : {A E : Type 0} (P : A → Type 0) (key : List ℕ) (tree : Data) (one others : Result A E)
    → ((y : A) → one ≡ Ok y → P y) → (Lacks key tree → (y : A) → others ≡ Ok y → P y) → (y : A)
    → cond (has key tree) one others ≡ Ok y → P y
by_member P key tree one others here rest y h =
    by_test P (has key tree) one others here (λ none. rest (has_not key tree none)) y h

id_found : (version : Version) (ok : Data) (said : Answer) → id_in ok ≡ Ok said → IsOk version ok said
unfolding id_in
id_found version ok said h =
    let id = bind_ok (required whole (codes "container") ok) _ _ h in
    is_this (IsOk version ok) (answer.Container id.0) said
    (required_found whole (codes "container") ok id.0 id.1) id.2

listing_found : (version : Version) (ok : Data) → Lacks (codes "container") ok → (said : Answer)
    → listing_in ok ≡ Ok said → IsOk version ok said
unfolding listing_in
listing_found version ok no_id said h =
    let trees = bind_ok (few (codes "containers") ok) _ _ h in
    let items = bind_ok (in_order listed_of trees.0) _ _ trees.2 in
    is_this (IsOk version ok) (answer.List items.0) said (
      no_id,
      list_found IsListed listed_of listed_found (codes "containers") ok trees.0 items.0 trees.1
          items.1,
    ) items.2

status_in_found : (version : Version) (ok : Data) → Lacks (codes "container") ok
    → Lacks (codes "containers") ok → (said : Answer) → status_in ok ≡ Ok said → IsOk version ok said
unfolding status_in
status_in_found version ok no_id no_list said h =
    let status = bind_ok (status_of ok) _ _ h in
    is_this (IsOk version ok) (answer.Status status.0) said (
      no_id,
      no_list,
      status_found ok status.0 status.1,
    ) status.2

statuses_found : (version : Version) (ok : Data) → Lacks (codes "container") ok
    → Lacks (codes "containers") ok → Lacks (codes "state") ok → (said : Answer)
    → statuses_by version ok ≡ Ok said → IsOk version ok said
unfolding statuses_in
statuses_found V1 ok no_id no_list no_state said h = absurd cc
statuses_found V2 ok no_id no_list no_state said h =
    let trees = bind_ok (few (codes "statuses") ok) _ _ h in
    let items = bind_ok (in_order listed_status_of trees.0) _ _ trees.2 in
    is_this (IsOk V2 ok) (answer.Statuses items.0) said (
      no_id,
      no_list,
      no_state,
      list_found IsListedStatus listed_status_of listed_status_found
          (codes "statuses") ok trees.0 items.0 trees.1 items.1,
      refl,
    ) items.2

pub ok_found : (version : Version) (ok : Data) (said : Answer) → ok_of version ok ≡ Ok said
    → IsOk version ok said
unfolding ok_of
ok_found version ok said h =
    let P : Answer → Type 0 = IsOk version ok in
    by_member P (codes "container") ok _ _ (id_found version ok)
    (λ no_id. by_member P (codes "containers") ok _ _ (listing_found version ok no_id)
    (λ no_list. by_member P (codes "state") ok _ _ (status_in_found version ok no_id no_list)
    (λ no_state. by_member P (codes "statuses") ok _ _ (statuses_found version ok no_id no_list no_state)
    (λ no_statuses y. is_this P answer.Done y (no_id, no_list, no_state, no_statuses))))) said h

number_found : (number : ℕ) (found : Refusal) → refusal_numbered number ≡ Ok found
    → number ≡ refusal_number found
unfolding refusal_numbered
number_found number found h =
    let P : Refusal → Type 0 = λ r. number ≡ refusal_number r in
    one_of P _ _ _ (λ e y. is_this P refusal.InvalidArgument y (eqb-true number 3 e))
    (one_of P _ _ _ (λ e y. is_this P refusal.NotFound y (eqb-true number 5 e))
    (one_of P _ _ _ (λ e y. is_this P refusal.AlreadyExists y (eqb-true number 6 e))
    (one_of P _ _ _ (λ e y. is_this P refusal.ResourceExhausted y (eqb-true number 8 e))
    (one_of P _ _ _ (λ e y. is_this P refusal.FailedPrecondition y (eqb-true number 9 e))
    (one_of P _ _ _ (λ e y. is_this P refusal.Internal y (eqb-true number 13 e))
    (one_of P _ _ _ (λ e y. is_this P refusal.Memory y (eqb-true number 14 e)) (none_of P WrongType)))))))
    found h

refused_found : (version : Version) (tree : Data) (said : Answer) → refused_in tree ≡ Ok said
    → HasAnswer version tree said
unfolding refused_in
refused_found version tree said h =
    let number = bind_ok (required whole (codes "refused") tree) _ _ h in
    let found = bind_ok (refusal_numbered number.0) _ _ number.2 in
    let there = required_found whole (codes "refused") tree number.0 number.1 in
    is_this (HasAnswer version tree) (answer.Refused found.0) said
    (subst (HasField whole (codes "refused") tree) (number_found number.0 found.0 found.1) there) found.2

-- an answer that is no refusal
within_ok : (version : Version) (tree ok : Data) → Lacks (codes "refused") tree
    → HasField object (codes "ok") tree ok → (said : Answer) → IsOk version ok said
    → HasAnswer version tree said
within_ok version tree ok lacks there (answer.Refused r) is = absurd is
within_ok version tree ok lacks there answer.Done is = (lacks, (ok, there, is))
within_ok version tree ok lacks there (answer.Container id) is = (lacks, (ok, there, is))
within_ok version tree ok lacks there (answer.Status status) is = (lacks, (ok, there, is))
within_ok version tree ok lacks there (answer.List items) is = (lacks, (ok, there, is))
within_ok version tree ok lacks there (answer.Statuses items) is = (lacks, (ok, there, is))

ok_in_found : (version : Version) (tree : Data) → Lacks (codes "refused") tree → (said : Answer)
    → ok_in version tree ≡ Ok said → HasAnswer version tree said
unfolding ok_in
ok_in_found version tree lacks said h =
    let ok = bind_ok (required object (codes "ok") tree) _ _ h in
    within_ok version tree ok.0 lacks (required_found object (codes "ok") tree ok.0 ok.1) said
    (ok_found version ok.0 said ok.2)

pub reply_found : (version : Version) (tree : Data) (reply : Reply) → reply_of version tree ≡ Ok reply
    → IsReply version tree reply
unfolding reply_of answer_of
reply_found version tree reply h =
    let id = bind_ok (numbered version tree) _ _ h in
    let said = bind_ok (answer_of version tree) _ _ id.2 in
    let head = numbered_found version tree id.0 id.1 in
    is_this (IsReply version tree) (record { id = id.0; answer = said.0 }) reply (record {
      v = head.0;
      id = head.1;
      answer = by_member (HasAnswer version tree) (codes "refused") tree _ _ (refused_found version tree)
          (ok_in_found version tree) said.0 said.1;
    }) said.2
