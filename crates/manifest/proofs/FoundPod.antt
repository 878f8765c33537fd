-- The containers and the pod that are read are right.
use Rattle.std.proofs.Common.{◌≡◌, ℕ, ◌+◌, ◌-◌, ◌<◌, ◌≤◌, List, [], ◌∷◌, ◌++◌, length, length-append, codes}
use Rattle.std.proofs.Common.{eqb, ltb, true, false, Option, Some, None, unwrap_or, Result, Ok, Err, refl}
use Rattle.std.proofs.Common.{sym, ap, subst, ◌∙◌, arith}
use Rattle.std.specs.Prelude.{IfOk}
use Rattle.std.proofs.lemmas.Bool.{eqb-false, ltb-false}
use Rattle.serde_json.specs.Data.{Data}
use Rattle.json_tree.specs.declared.faults.TextFault.TheVariants.{NotJson}
use Rattle.json_tree.specs.Tree.{flag, list, object, text, tree_of}
use Rattle.json_tree.specs.Reading.{or_else, refuse_if, in_order_after, as_fault, document, HasField}
use Rattle.json_tree.specs.Reading.{MayHaveField, Both}
use Rattle.json_place.specs.Fields.{required, optional}
use Rattle.json_place.specs.Parts.{Member, Item}
use Rattle.json_tree.proofs.Loops.{bind_ok, then_ok}
use Rattle.json_tree.proofs.Fields.{or_else_ok, refuse_if_ok, as_fault_ok}
use Rattle.json_tree.proofs.After.{after_found}
use Rattle.json_tree.proofs.Values.{object_same}
use Rattle.manifest.specs.declared.containers.Container.{Container}
use Rattle.manifest.specs.declared.containers.TheConstants.{MAX_CONTAINERS}
use Rattle.manifest.specs.declared.faults.PodFault.TheVariants.{Missing, WrongType, RepeatedName, TooMany}
use Rattle.manifest.specs.declared.placed.PodFaultAt.{PodFaultAt}
use Rattle.manifest.specs.declared.pods.Pod.{Pod}
use Rattle.manifest.specs.Containers.{AreContainers, ContainerList}
use Rattle.manifest.specs.Faults.{fault_at, fault_here, fault_of_text, under}
use Rattle.manifest.specs.Heads.{Context, Head, Lists}
use Rattle.manifest.specs.Pod.{HasSettingsWithin, IsContainer, IsPod, ReadsPod}
use Rattle.manifest.specs.Reading.{here, Reads, named_by, says, profile_in, terms_of, inits_of, others_of}
use Rattle.manifest.specs.Reading.{lists_of, kind_of, named_of, identity_of, head_of, is_taken, new_name_of}
use Rattle.manifest.specs.Reading.{settings_in, settings_within, context_of, container_of, container_at}
use Rattle.manifest.specs.Reading.{listed_of, containers_of, pod_from, pod_of, reading_of}
use Rattle.manifest.specs.Texts.{is_descending, is_label}
use Rattle.manifest.proofs.Distinct.{AreApart, none_apart, apart_push}
use Rattle.manifest.proofs.Found.{needs, may, is_this, under_ok, named_found, says_found, profile_in_found}
use Rattle.manifest.proofs.Found.{IsIdentity, identity_found, HasTerms, terms_found}

abbrev HasContext : Option Data → Context → Type 0
HasContext found context = HasSettingsWithin found context.privileged context.profile

settings_found : (tree : Data) (context : Context) → settings_in tree ≡ Ok context
    → HasContext (Some tree) context
unfolding settings_in
settings_found tree context h =
    let privileged = bind_ok (here (optional flag (codes "privileged") tree)) _ _ h in
    let profile = bind_ok (profile_in tree) _ _ privileged.2 in
    is_this (HasContext (Some tree)) (record {
      privileged = unwrap_or privileged.0 false;
      profile =
          profile.0;
    }) context (record {
      given = privileged.0;
      there = may flag (codes "privileged") tree privileged.0 privileged.1;
      is = refl;
      has_profile = profile_in_found tree profile.0 profile.1;
    }) profile.2

context_where : (found : Option Data) (context : Context) → settings_within found ≡ Ok context
    → HasContext found context
context_where None context h = is_this (HasContext None) (record { privileged = false; profile = None })
    context (refl, refl) h
context_where (Some tree) context h = settings_found tree context h

abbrev IsNew : List Container → Data → Container → Type 0
IsNew done item c = IsContainer item c × (is_taken done c.name ≡ false)

container_found : (done : List Container) (item : Data) (c : Container) → container_of done item ≡ Ok c
    → IsNew done item c
unfolding container_of new_name_of context_of
container_found done item c h =
    let tree = bind_ok (or_else (fault_here WrongType) (object item)) _ _ h in
    let is_object : object item ≡ Some tree.0 =
    or_else_ok (fault_here WrongType) (object item) tree.0 tree.1 in
    let same : tree.0 ≡ item = sym (object_same item tree.0 is_object) in
    let name = bind_ok (new_name_of done tree.0) _ _ tree.2 in
    let given = bind_ok (named_by is_label (codes "name") tree.0) _ _ name.1 in
    let new = then_ok (refuse_if (is_taken done given.0) (fault_at (codes "name") RepeatedName)) _ _ given.2
    in
    let name_is : given.0 ≡ name.0 = cc in
    let image = bind_ok (named_by is_descending (codes "image") tree.0) _ _ name.2 in
    let context = bind_ok (context_of tree.0) _ _ image.2 in
    let found = bind_ok (here (optional object (codes "securityContext") tree.0)) _ _ context.1 in
    let a_name = named_found is_label (codes "name") tree.0 given.0 given.1 in
    let an_image = named_found is_descending (codes "image") tree.0 image.0 image.1 in
    let made : Container = record {
      name = name.0;
      image = image.0;
      privileged = context.0.privileged;
      profile = context.0.profile;
    } in
    is_this (IsNew done item) made c (
      subst (λ t. IsContainer t made) same (record {
        an_object = ap object same ∙ is_object;
        name_there = subst (HasField text (codes "name") tree.0) name_is a_name.0;
        name_fits = subst (λ n. is_label n ≡ true) name_is a_name.1;
        image_there = an_image.0;
        image_fits = an_image.1;
        context = found.0;
        context_there = may object (codes "securityContext") tree.0 found.0 found.1;
        settings = context_where found.0 context.0
            (under_ok (Member (codes "securityContext")) (settings_within found.0) context.0 found.2);
      }),
      subst (λ n. is_taken done n ≡ false) name_is (refuse_if_ok (is_taken done given.0) _ new.0 new.1),
    ) context.2

container_kept : (done : List Container) (item : Data) (c : Container) → AreApart done
    → container_of done item ≡ Ok c → AreApart (done ++ c ∷ []) × IsContainer item c
container_kept done item c apart h =
    let is = container_found done item c h in
    (apart_push done c apart is.1, is.0)

both_append : {A B : Type 0} (R : A → B → Type 0) (xs : List A) (ys : List B) (vs : List A) (ws : List B)
    → Both R xs ys → Both R vs ws → Both R (xs ++ vs) (ys ++ ws)
both_append R [] [] vs ws h k = k
both_append R [] (y ∷ ys) vs ws h k = absurd h
both_append R (x ∷ xs) [] vs ws h k = absurd h
both_append R (x ∷ xs) (y ∷ ys) vs ws h k = (h.0, both_append R xs ys vs ws h.1 k)

pub both_length : {A B : Type 0} (R : A → B → Type 0) (xs : List A) (ys : List B) → Both R xs ys
    → length ys ≡ length xs
both_length R [] [] h = refl
both_length R [] (y ∷ ys) h = absurd h
both_length R (x ∷ xs) [] h = absurd h
both_length R (x ∷ xs) (y ∷ ys) h = omega (arith, both_length R xs ys h.1)

-- as an item of its list
kept_at : (others : ℕ) (done : List Container) (item : Data) (c : Container) → AreApart done
    → container_at others done item ≡ Ok c → AreApart (done ++ c ∷ []) × IsContainer item c
kept_at others done item c apart h = container_kept done item c apart
    (under_ok (Item (length done - others)) (container_of done item) c h)

abbrev AreRead : Lists → ContainerList → Type 0
AreRead lists c = Both IsContainer (lists.inits ++ lists.others) c.all × (c.inits ≡ length lists.inits)
    × AreContainers c.all c.inits

listed_ok : (key : List ℕ) (done : List Container) (items : List Data) (all : List Container)
    → listed_of key done items ≡ Ok all → in_order_after (container_at (length done)) done items ≡ Ok all
listed_ok key done items all h =
    under_ok (Member key) (in_order_after (container_at (length done)) done items) all
    (under_ok (Member (codes "spec")) (under (Member key)
    (in_order_after (container_at (length done)) done items)) all h)

pub lists_read : (lists : Lists) (inits all : List Container) → 0 < length lists.others
    → length lists.inits + length lists.others ≤ MAX_CONTAINERS
    → listed_of (codes "initContainers") [] lists.inits ≡ Ok inits
    → listed_of (codes "containers") inits lists.others ≡ Ok all
    → AreRead lists (record { all = all; inits = length inits })
lists_read lists inits all some few one two =
    let a = after_found (container_at 0) AreApart IsContainer (kept_at 0) [] lists.inits inits none_apart
    (listed_ok (codes "initContainers") [] lists.inits inits one) in
    let b = after_found (container_at (length inits)) AreApart IsContainer
    (kept_at (length inits)) inits lists.others all a.0
    (listed_ok (codes "containers") inits lists.others all two) in
    let front : Both IsContainer lists.inits inits = subst (Both IsContainer lists.inits) (sym a.1.1) a.1.2 in
    let each : Both IsContainer (lists.inits ++ lists.others) all =
    subst (Both IsContainer (lists.inits ++ lists.others)) (sym b.1.1)
    (both_append IsContainer lists.inits inits lists.others b.1.0 front b.1.2) in
    let count : length inits ≡ length lists.inits = both_length IsContainer lists.inits inits front in
    let whole : length all ≡ length (lists.inits ++ lists.others) =
    both_length IsContainer (lists.inits ++ lists.others) all each in
    let parts : length (lists.inits ++ lists.others) ≡ length lists.inits + length lists.others =
    simp length-append refl in (
      each,
      count,
      record {
        some = omega (arith, count, whole, parts, some);
        few =
            omega (arith, whole, parts, few);
        apart = b.0;
      },
    )

containers_found : (lists : Lists) (c : ContainerList) → 0 < length lists.others
    → length lists.inits + length lists.others ≤ MAX_CONTAINERS → containers_of lists ≡ Ok c → AreRead lists c
unfolding containers_of
containers_found lists c some few h =
    let inits = bind_ok (listed_of (codes "initContainers") [] lists.inits) _ _ h in
    let all = bind_ok (listed_of (codes "containers") inits.0 lists.others) _ _ inits.2 in
    is_this (AreRead lists) (record { all = all.0; inits = length inits.0 }) c
    (lists_read lists inits.0 all.0 some few inits.1 all.1) all.2

pub record HasLists (spec : Data) (lists : Lists) : Type 0 where
  pub given : Option (List Data)
  pub there : MayHaveField list (codes "initContainers") spec given
  pub inits : lists.inits ≡ unwrap_or given []
  pub others : HasField list (codes "containers") spec lists.others
  pub some : 0 < length lists.others
  pub few : length lists.inits + length lists.others ≤ MAX_CONTAINERS

lists_found : (spec : Data) (lists : Lists) → lists_of spec ≡ Ok lists → HasLists spec lists
unfolding lists_of inits_of others_of
lists_found spec lists h =
    let inits = bind_ok (inits_of spec) _ _ h in
    let given = bind_ok (here (optional list (codes "initContainers") spec)) _ _ inits.1 in
    let others = bind_ok (others_of spec) _ _ inits.2 in
    let items = bind_ok (here (required list (codes "containers") spec)) _ _ others.1 in
    let some = then_ok (refuse_if (eqb (length items.0) 0) (fault_at (codes "containers") Missing)) _ _
    items.2 in
    let few = then_ok (refuse_if (ltb MAX_CONTAINERS (length inits.0 + length others.0)) (fault_here TooMany))
    _ _ others.2 in
    let inits_are : inits.0 ≡ unwrap_or given.0 [] = cc in
    let others_are : items.0 ≡ others.0 = cc in
    let not_none : length items.0 ≡ 0 → ⊥ =
    eqb-false (length items.0) 0 (refuse_if_ok (eqb (length items.0) 0) _ some.0 some.1) in
    let is_few : length inits.0 + length others.0 ≤ MAX_CONTAINERS =
    ltb-false MAX_CONTAINERS (length inits.0 + length others.0) (refuse_if_ok _ _ few.0 few.1) in
    let is_some : 0 < length items.0 = omega arith in
    is_this (HasLists spec) (record { inits = inits.0; others = others.0 }) lists (record {
      given = given.0;
      there = may list (codes "initContainers") spec given.0 given.1;
      inits = inits_are;
      others = subst (HasField list (codes "containers") spec) others_are
          (needs list (codes "containers") spec items.0 items.1);
      some = subst (λ (os : List Data). 0 < length os) others_are is_some;
      few = is_few;
    }) few.2

pub record IsHead (tree : Data) (head : Head) : Type 0 where
  pub an_object : object tree ≡ Some tree
  pub version : HasField text (codes "apiVersion") tree (codes "v1")
  pub kind : HasField text (codes "kind") tree (codes "Pod")
  pub metadata : Data
  pub metadata_there : HasField object (codes "metadata") tree metadata
  pub identity : IsIdentity metadata head.identity
  pub spec : Data
  pub spec_there : HasField object (codes "spec") tree spec
  pub terms : HasTerms spec head.terms
  pub lists : HasLists spec head.lists

head_found : (whole_tree : Data) (head : Head) → head_of whole_tree ≡ Ok head → IsHead whole_tree head
unfolding head_of named_of kind_of
head_found whole_tree head h =
    let tree = bind_ok (or_else (fault_here WrongType) (object whole_tree)) _ _ h in
    let is_object : object whole_tree ≡ Some tree.0 =
    or_else_ok (fault_here WrongType) (object whole_tree) tree.0 tree.1 in
    let same : tree.0 ≡ whole_tree = sym (object_same whole_tree tree.0 is_object) in
    let kinds = then_ok (kind_of tree.0) _ _ tree.2 in
    let version = then_ok (says (codes "apiVersion") (codes "v1") tree.0) _ _ kinds.1 in
    let identity = bind_ok (named_of tree.0) _ _ kinds.2 in
    let metadata = bind_ok (here (required object (codes "metadata") tree.0)) _ _ identity.1 in
    let spec = bind_ok (here (required object (codes "spec") tree.0)) _ _ identity.2 in
    let terms = bind_ok (under (Member (codes "spec")) (terms_of spec.0)) _ _ spec.2 in
    let lists = bind_ok (under (Member (codes "spec")) (lists_of spec.0)) _ _ terms.2 in
    let made : Head = record { identity = identity.0; terms = terms.0; lists = lists.0 } in
    is_this (IsHead whole_tree) made head (subst (λ t. IsHead t made) same (record {
      an_object = ap object same ∙ is_object;
      version = says_found (codes "apiVersion") (codes "v1") tree.0 version.0 version.1;
      kind = says_found (codes "kind") (codes "Pod") tree.0 kinds.0 version.2;
      metadata = metadata.0;
      metadata_there = needs object (codes "metadata") tree.0 metadata.0 metadata.1;
      identity = identity_found metadata.0 identity.0
          (under_ok (Member (codes "metadata")) (identity_of metadata.0) identity.0 metadata.2);
      spec = spec.0;
      spec_there = needs object (codes "spec") tree.0 spec.0 spec.1;
      terms = terms_found spec.0 terms.0 (under_ok (Member (codes "spec")) (terms_of spec.0) terms.0 terms.1);
      lists = lists_found spec.0 lists.0 (under_ok (Member (codes "spec")) (lists_of spec.0) lists.0 lists.1);
    })) lists.2

pod_found : (tree : Data) (pod : Pod) → pod_of tree ≡ Ok pod → IsPod tree pod
unfolding pod_of
pod_found tree pod h =
    let head = bind_ok (head_of tree) _ _ h in
    let containers = bind_ok (containers_of head.0.lists) _ _ head.2 in
    let is = head_found tree head.0 head.1 in
    let read = containers_found head.0.lists containers.0 is.lists.some is.lists.few containers.1 in
    is_this (IsPod tree) (pod_from head.0 containers.0) pod (record {
      an_object = is.an_object;
      version = is.version;
      kind = is.kind;
      metadata = is.metadata;
      metadata_there = is.metadata_there;
      identity = is.identity;
      spec = is.spec;
      spec_there = is.spec_there;
      policy = is.terms.0;
      grace = is.terms.1;
      profile = is.terms.2;
      containers = record {
        given = is.lists.given;
        inits_there = is.lists.there;
        others = head.0.lists.others;
        others_there = is.lists.others;
        each = subst (λ (items : List Data). Both IsContainer (items ++ head.0.lists.others) containers.0.all)
            is.lists.inits read.0;
        count = read.1 ∙ ap length is.lists.inits;
        fit = read.2;
      };
    }) containers.2

-- the returned pod is the text's pod
pub found : (bytes : List ℕ) (result : Result Pod PodFaultAt) → Reads (λ pod. pod) result (reading_of bytes)
    → IfOk result (ReadsPod bytes)
unfolding reading_of document
found bytes (Ok pod) h =
    let tree = bind_ok (as_fault (λ fault. fault_here (fault_of_text fault)) (document bytes)) _ _ h in
    record {
      tree = tree.0;
      is = or_else_ok NotJson (tree_of bytes) tree.0
          (as_fault_ok (λ fault. fault_here (fault_of_text fault)) (document bytes) tree.0 tree.1);
      says = pod_found tree.0 pod tree.2;
    }
found bytes (Err fault) h = tt
