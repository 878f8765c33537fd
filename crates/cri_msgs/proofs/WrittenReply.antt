-- The written tree of a reply is a tree of that reply.
use Rattle.std.proofs.Common.{◌≡◌, ◌<◌, ◌≤◌, ℕ, suc, List, [], ◌∷◌, length, map, codes, false, Some, None}
use Rattle.std.proofs.Common.{Result, Ok, Err, Vec, Global, refl, sym, ap, subst, arith}
use Rattle.std.specs.Prelude.{IfOk}
use Rattle.std.specs.Str.{IsUtf8}
use Rattle.std.specs.declared.alloc.AllocError.{AllocError}
use Rattle.std.specs.List.{AllByRecursion}
use Rattle.std.proofs.Math.Nat.{max-le}
use Rattle.std.proofs.lemmas.List.{length-map}
use Rattle.serde_json.specs.Data.{Data, string, array, object as an_object, no_members, member as a_member}
use Rattle.serde_json.specs.Data.{depth, items_depth}
use Rattle.serde_json.specs.Find.{get}
use Rattle.serde_json.specs.Read.{max_depth, read}
use Rattle.serde_json.specs.View.{items_of}
use Rattle.serde_json.specs.Written.{compact_text, has_float, items_have_float}
use Rattle.serde_json.proofs.OnLiterals.{serde_json_on_literals}
use Rattle.json_tree.specs.Tree.{items_list, list, member, object, text, whole}
use Rattle.json_tree.specs.Reading.{Both, HasField}
use Rattle.json_tree.proofs.Utf8.{told}
use Rattle.cri_msgs.specs.declared.lists.ListedContainer.{ListedContainer}
use Rattle.cri_msgs.specs.declared.lists.ListedStatus.{ListedStatus}
use Rattle.cri_msgs.specs.declared.replies.Answer.{Answer}
use Rattle.cri_msgs.specs.declared.replies.Answer.TheVariants as answer
use Rattle.cri_msgs.specs.declared.replies.Reply.{Reply}
use Rattle.cri_msgs.specs.declared.states.State.{State}
use Rattle.cri_msgs.specs.declared.states.State.TheVariants.{Created, Running, Exited}
use Rattle.cri_msgs.specs.declared.states.Status.{Status}
use Rattle.cri_msgs.specs.declared.version.TheConstants.{MAX_TEXT}
use Rattle.cri_msgs.specs.declared.version.Version.{Version}
use Rattle.cri_msgs.specs.declared.version.Version.TheVariants.{V2}
use Rattle.cri_msgs.specs.Fits.{FitsAnswer, FitsList, FitsListed, FitsListedStatus, FitsState, FitsStatus}
use Rattle.cri_msgs.specs.Fits.{IsSmall}
use Rattle.cri_msgs.specs.Names.{kind_of, refusal_number, state_name, version_number}
use Rattle.cri_msgs.specs.Replies.{HasExit, HasStatus, IsListed, IsListedStatus, HasList, IsAnswerOf, IsOk}
use Rattle.cri_msgs.specs.Replies.{HasAnswer, IsReply, ReadsReply}
use Rattle.cri_msgs.specs.Written.{whole_number, exit_tree, status_tree, listed_tree, listed_status_tree}
use Rattle.cri_msgs.specs.Written.{list_tree, refused_tree, ok_tree, answer_tree}
use Rattle.cri_msgs.proofs.SizesOfMessages.{not_empty}
use Rattle.cri_msgs.proofs.SizesOfReplies.{reply_short}
use Rattle.cri_msgs.proofs.WrittenRequest.{has_text, has_whole, has_container}

has_exit : (tree : Data) (state : State) → FitsState state → get (codes "exit") tree ≡ Some (exit_tree state)
    → HasExit tree state
unfolding member
has_exit tree Created fits is = rw is refl
has_exit tree Running fits is = rw is refl
has_exit tree (Exited code) fits is = (has_whole (codes "exit") tree code is, fits)

status_is : (tree : Data) (status : Status) → FitsStatus status
    → get (codes "state") tree ≡ Some (string (state_name (kind_of status.state)))
    → get (codes "exit") tree ≡ Some (exit_tree status.state)
    → get (codes "performed") tree ≡ Some (whole_number status.performed)
    → get (codes "denied") tree ≡ Some (whole_number status.denied) → HasStatus tree status
status_is tree status fits state exit performed denied = record {
  state = has_text (codes "state") tree (state_name (kind_of status.state)) state;
  exit = has_exit tree status.state fits.state exit;
  performed = has_whole (codes "performed") tree status.performed performed;
  denied = has_whole (codes "denied") tree status.denied denied;
}

listed_is : (listed : ListedContainer) → FitsListed listed → IsListed (listed_tree listed) listed
unfolding serde_json_on_literals
listed_is listed fits = record {
  container = has_container (listed_tree listed) listed.container fits refl refl;
  state = has_text (codes "state") (listed_tree listed) (state_name listed.state) refl;
}

listed_status_is : (listed : ListedStatus) → FitsListedStatus listed
    → IsListedStatus (listed_status_tree listed) listed
unfolding serde_json_on_literals
listed_status_is listed fits = record {
  container = has_container (listed_status_tree listed) listed.container fits.container refl refl;
  status = status_is (listed_status_tree listed) listed.status fits.status refl refl refl refl;
}

items_same : (ds : List Data) → items_list (items_of ds) ≡ ds
items_same [] = refl
items_same (d ∷ ds) = ap (λ rest. d ∷ rest) (items_same ds)

each_is : {A : Type 0} (Fits : A → Type 0) (tree_of : A → Data) (IsItem : Data → A → Type 0)
    → ((x : A) → Fits x → IsItem (tree_of x) x) → (xs : List A) → AllByRecursion Fits xs
    → Both IsItem (map tree_of xs) xs
each_is Fits tree_of IsItem one [] all = tt
each_is Fits tree_of IsItem one (x ∷ xs) all = (one x all.0, each_is Fits tree_of IsItem one xs all.1)

list_is : {A : Type 0} (Fits : A → Type 0) (tree_of : A → Data) (IsItem : Data → A → Type 0)
    → ((x : A) → Fits x → IsItem (tree_of x) x) → (key : List ℕ) (tree : Data) (xs : List A)
    → FitsList Fits xs → get key tree ≡ Some (array (items_of (map tree_of xs))) → HasList IsItem key tree xs
unfolding list
list_is Fits tree_of IsItem one key tree xs fits is = record {
  trees = map tree_of xs;
  there = (array (items_of (map tree_of xs)), is, ap Some (items_same (map tree_of xs)));
  few = rw length-map fits.few;
  each = each_is Fits tree_of IsItem one xs fits.each;
}

done_is : (version : Version) → IsOk version (an_object no_members) answer.Done
unfolding member
done_is version = (refl, refl, refl, refl)

container_is : (version : Version) (id : ℕ)
    → IsOk version (an_object (a_member (codes "container") (whole_number id) no_members))
    (answer.Container id)
unfolding serde_json_on_literals
container_is version id = has_whole (codes "container")
    (an_object (a_member (codes "container") (whole_number id) no_members)) id refl

status_ok : (version : Version) (status : Status) → FitsStatus status
    → IsOk version (status_tree status) (answer.Status status)
unfolding serde_json_on_literals member
status_ok version status fits = (refl, refl, status_is (status_tree status) status fits refl refl refl refl)

listing_is : (version : Version) (items : List ListedContainer) → FitsList FitsListed items
    → IsOk version (list_tree (codes "containers") listed_tree items) (answer.List items)
unfolding serde_json_on_literals member
listing_is version items fits = (
  refl,
  list_is FitsListed listed_tree IsListed listed_is (codes "containers")
      (list_tree (codes "containers") listed_tree items) items fits refl,
)

statuses_are : (version : Version) (items : List ListedStatus) → FitsList FitsListedStatus items
    → version ≡ V2 → IsOk version (list_tree (codes "statuses") listed_status_tree items)
    (answer.Statuses items)
unfolding serde_json_on_literals member
statuses_are version items fits known = (
  refl,
  refl,
  refl,
  list_is FitsListedStatus listed_status_tree IsListedStatus listed_status_is (codes "statuses")
      (list_tree (codes "statuses") listed_status_tree items) items fits refl,
  known,
)

-- the members of each reply
record HasHead (version : Version) (id : ℕ) (tree : Data) : Type 0 where
  v : get (codes "v") tree ≡ Some (whole_number (version_number version))
  id_there : get (codes "id") tree ≡ Some (whole_number id)

refused_head : (version : Version) (id refused : ℕ) → HasHead version id (refused_tree version id refused)
unfolding serde_json_on_literals
refused_head version id refused = record { v = refl; id_there = refl }

ok_head : (version : Version) (id : ℕ) (ok : Data) → HasHead version id (ok_tree version id ok)
unfolding serde_json_on_literals
ok_head version id ok = record { v = refl; id_there = refl }

head_is : (version : Version) (id : ℕ) (said : Answer) → HasHead version id (answer_tree version id said)
unfolding answer_tree
head_is version id (answer.Refused refusal) = refused_head version id (refusal_number refusal)
head_is version id answer.Done = ok_head version id _
head_is version id (answer.Container made) = ok_head version id _
head_is version id (answer.Status status) = ok_head version id _
head_is version id (answer.List items) = ok_head version id _
head_is version id (answer.Statuses items) = ok_head version id _

refused_is : (version : Version) (id refused : ℕ)
    → HasField whole (codes "refused") (refused_tree version id refused) refused
unfolding serde_json_on_literals
refused_is version id refused = has_whole (codes "refused") (refused_tree version id refused) refused refl

abbrev OkIs : Version → Data → Answer → Type 0
OkIs version tree said = (member (codes "refused") tree ≡ None)
    × ((ok : Data) × HasField object (codes "ok") tree ok × IsOk version ok said)

within : (version : Version) (id : ℕ) (ok : Data) (said : Answer) → object ok ≡ Some ok → IsOk version ok said
    → OkIs version (ok_tree version id ok) said
unfolding serde_json_on_literals member
within version id ok said an is = (refl, (ok, (ok, refl, an), is))

answer_is : (version : Version) (id : ℕ) (said : Answer) → FitsAnswer said → IsAnswerOf version said
    → HasAnswer version (answer_tree version id said) said
unfolding answer_tree
answer_is version id (answer.Refused refusal) fits known = refused_is version id (refusal_number refusal)
answer_is version id answer.Done fits known = within version id _ answer.Done refl (done_is version)
answer_is version id (answer.Container made) fits known =
    within version id _ (answer.Container made) refl (container_is version made)
answer_is version id (answer.Status status) fits known =
    within version id _ (answer.Status status) refl (status_ok version status fits)
answer_is version id (answer.List items) fits known =
    within version id _ (answer.List items) refl (listing_is version items fits)
answer_is version id (answer.Statuses items) fits known =
    within version id _ (answer.Statuses items) refl (statuses_are version items fits known)

-- a list of trees that have no float, and are no deeper than one level
record IsPlain (tree : Data) : Type 0 where
  no_floats : has_float tree ≡ false
  levels : depth tree ≤ 1

plain_list : {A : Type 0} (tree_of : A → Data) → ((x : A) → IsPlain (tree_of x)) → (xs : List A)
    → (items_have_float (items_of (map tree_of xs)) ≡ false) × (items_depth (items_of (map tree_of xs)) ≤ 1)
plain_list tree_of one [] = (refl, omega arith)
plain_list tree_of one (x ∷ xs) =
    let rest = plain_list tree_of one xs in
    (rw ((one x).no_floats, rest.0) refl, max-le (one x).levels rest.1)

plain_listed : (listed : ListedContainer) → IsPlain (listed_tree listed)
plain_listed listed = record { no_floats = refl; levels = omega arith }

plain_exit : (state : State) → (has_float (exit_tree state) ≡ false) × (depth (exit_tree state) ≡ 0)
plain_exit Created = (refl, refl)
plain_exit Running = (refl, refl)
plain_exit (Exited code) = (refl, refl)

plain_status : (listed : ListedStatus) → IsPlain (listed_status_tree listed)
plain_status listed = record {
  no_floats = rw (plain_exit listed.status.state).0 refl;
  levels =
      rw (plain_exit listed.status.state).1 (omega arith);
}

pub no_float : (version : Version) (id : ℕ) (said : Answer) → has_float (answer_tree version id said) ≡ false
unfolding answer_tree
no_float version id (answer.Refused refusal) = refl
no_float version id answer.Done = refl
no_float version id (answer.Container made) = refl
no_float version id (answer.Status status) = rw (plain_exit status.state).0 refl
no_float version id (answer.List items) = rw (plain_list listed_tree plain_listed items).0 refl
no_float version id (answer.Statuses items) = rw (plain_list listed_status_tree plain_status items).0 refl

le_suc : {m n : ℕ} → m ≤ n → suc m ≤ suc n
le_suc h = omega (arith, h)

list_levels : {A : Type 0} (tree_of : A → Data) → ((x : A) → IsPlain (tree_of x))
    → (version : Version) (id : ℕ) (key : List ℕ) (xs : List A)
    → depth (ok_tree version id (list_tree key tree_of xs)) ≤ 4
list_levels tree_of one version id key xs =
    let d : items_depth (items_of (map tree_of xs)) ≤ 1 = (plain_list tree_of one xs).1 in
    le_suc (max-le (omega arith) (max-le (le_suc (max-le (le_suc d) (omega arith))) (omega arith)))

shallow : (version : Version) (id : ℕ) (said : Answer) → depth (answer_tree version id said) ≤ 4
unfolding answer_tree
shallow version id (answer.Refused refusal) = omega arith
shallow version id answer.Done = omega arith
shallow version id (answer.Container made) = omega arith
shallow version id (answer.Status status) = rw (plain_exit status.state).1 (omega arith)
shallow version id (answer.List items) =
    list_levels listed_tree plain_listed version id (codes "containers") items
shallow version id (answer.Statuses items) =
    list_levels listed_status_tree plain_status version id (codes "statuses") items

reply_is : (version : Version) (reply : Reply) → FitsAnswer reply.answer → IsAnswerOf version reply.answer
    → IsReply version (answer_tree version reply.id reply.answer) reply
reply_is version reply fits known =
    let head = head_is version reply.id reply.answer in
    let tree = answer_tree version reply.id reply.answer in
    record {
      v = has_whole (codes "v") tree (version_number version) head.v;
      id = has_whole (codes "id") tree reply.id head.id_there;
      answer = answer_is version reply.id reply.answer fits known;
    }

-- the text of a reply reads as that reply
pub reads : (version : Version) (reply : Reply) (tree : Data) (r : Result (Vec ℕ Global) AllocError)
    → tree ≡ answer_tree version reply.id reply.answer → FitsAnswer reply.answer
    → IfOk r (λ b. IsUtf8 b.items)
    → IfOk r (λ b. depth tree ≤ max_depth → read b.items ≡ Some tree) → IsAnswerOf version reply.answer
    → IfOk r (λ b. ReadsReply version b.items reply)
reads version reply tree (Err e) is fits utf8 back known = tt
reads version reply tree (Ok bytes) is fits utf8 back known =
    let levels : depth tree ≤ max_depth = rw is (omega (arith, shallow version reply.id reply.answer)) in
    record {
      tree = tree;
      is = told bytes.items tree utf8 (back levels);
      says = subst (λ t. IsReply version t reply) (sym is) (reply_is version reply fits known);
    }

some : (version : Version) (id : ℕ) (said : Answer) → 0 < length (compact_text (answer_tree version id said))
some version id said = not_empty (codes "v") (answer_tree version id said) _ (head_is version id said).v

-- the text fits into a frame
pub some_bytes : (version : Version) (reply : Reply) (tree : Data) (r : Result (Vec ℕ Global) AllocError)
    → tree ≡ answer_tree version reply.id reply.answer
    → IfOk r (λ b. has_float tree ≡ false → b.items ≡ compact_text tree) → IfOk r (λ b. 0 < length b.items)
some_bytes version reply tree (Err e) is text = tt
some_bytes version reply tree (Ok bytes) is text =
    rw (text (rw is (no_float version reply.id reply.answer)), is) (some version reply.id reply.answer)

pub few_bytes : (version : Version) (reply : Reply) (tree : Data) (r : Result (Vec ℕ Global) AllocError)
    → tree ≡ answer_tree version reply.id reply.answer → IsSmall reply.id → FitsAnswer reply.answer
    → IfOk r (λ b. has_float tree ≡ false → b.items ≡ compact_text tree)
    → IfOk r (λ b. length b.items ≤ MAX_TEXT)
few_bytes version reply tree (Err e) is small fits text = tt
few_bytes version reply tree (Ok bytes) is small fits text =
    rw (text (rw is (no_float version reply.id reply.answer)), is)
    (reply_short version reply.id reply.answer small fits)
